-- A section of which each job tells that its replies are those to its commands is one of a session.
use Rattle.std.proofs.Common.{◌≡◌, ◌∙◌, ◌++◌, ◌∷◌, ℕ, suc, List, [], Some, arith, length, map, refl, sym, ap, subst}
use Rattle.std.specs.Prelude.{flat_map, max, slice_get}
use Rattle.std.proofs.lemmas.List.Concat.{flat_map-cons}
use Rattle.draid_script.specs.Line.{Command}
use Rattle.draid_reply.specs.declared.reply.Reply.{Reply}
use Rattle.draid_objects.specs.Changes.{Change}
use Rattle.draid_rack.specs.declared.Rack as racks
use Rattle.draid_area.specs.declared.Area as areas
use Rattle.draid_session.specs.Choices.{Choices}
use Rattle.draid_session.specs.Holds.{Hold}
use Rattle.draid_session.specs.Lanes.{Lane, LanesRan, Says, Section, Together, greatest, store_of}
use Rattle.draid_session.specs.Sections.{NoClash}
use Rattle.draid_session.specs.State.{State, Store}
use Rattle.draid_pool.specs.declared.pool.Pool.{Pool}
use Rattle.draid_pool.proofs.Lists.{some_of}
use Rattle.draid_section.specs.Told.{LaneDid, SectionStood, greatest_of}

module _ {J : Type 0} (x : State) (choices : Choices) (says : J → J → Store → List Hold → Store → Type 0) (commands : J → List Command) (replies : J → List Reply) where
  lane_of : LaneDid → Lane x choices
  lane_of did = record { holds = did.holds; store = did.store; own = did.since }

  -- what the jobs of a list say is that their replies are those to their commands
  abbrev TellAll : List J → Type 0
  TellAll jobs = (i : ℕ) (job done : J) (old : Store) (holds : List Hold) (new : Store) → slice_get jobs i ≡ Some job → says job done old holds new → Says x choices (commands job) old holds (replies done) new

  -- each lane ran its commands
  lanes_ran : (dids : List LaneDid) (jobs done : List J) → TellAll jobs → length dids ≡ length jobs → length done ≡ length jobs
      → ((i : ℕ) (did : LaneDid) → slice_get dids i ≡ Some did
      → (job : J) × (end : J) × (slice_get jobs i ≡ Some job) × (slice_get done i ≡ Some end) × says job end x.store did.holds did.store × (did.store.changes ≡ did.since ++ x.store.changes))
      → LanesRan x choices (map lane_of dids) (map commands jobs) (map replies done)
  unfolding lane_of
  lanes_ran [] [] [] tells many other each = tt
  lanes_ran [] [] (end ∷ done) tells many other each = absurd (omega (arith, other))
  lanes_ran [] (job ∷ jobs) done tells many other each = absurd (omega (arith, many))
  lanes_ran (did ∷ dids) [] done tells many other each = absurd (omega (arith, many))
  lanes_ran (did ∷ dids) (job ∷ jobs) [] tells many other each = absurd (omega (arith, other))
  lanes_ran (did ∷ dids) (job ∷ jobs) (end ∷ done) tells many other each =
      let z = each 0 did refl in
      let job_is : z.0 ≡ job = some_of (Some job) z.0 job z.2 refl in
      let end_is : z.1 ≡ end = some_of (Some end) z.1 end z.3 refl in (
        record {
          says = tells 0 job end x.store did.holds did.store refl (subst (λ (j : J). says j end x.store did.holds did.store) job_is (subst (λ (e : J). says z.0 e x.store did.holds did.store) end_is z.4));
          changes = z.5;
        },
        lanes_ran dids jobs done (λ i j e o hs n there said. tells (suc i) j e o hs n there said) (omega (arith, many)) (omega (arith, other)) (λ i d at. each (suc i) d at),
      )

  -- what is said of all of them is the same
  holds_same : (dids : List LaneDid) → map (λ (lane : Lane x choices). lane.holds) (map lane_of dids) ≡ map (λ (did : LaneDid). did.holds) dids
  unfolding lane_of
  holds_same [] = refl
  holds_same (did ∷ dids) = ap (λ (hs : List (List Hold)). did.holds ∷ hs) (holds_same dids)

  changes_same : (dids : List LaneDid) → flat_map (λ (did : LaneDid). did.since) dids ≡ flat_map (λ (lane : Lane x choices). lane.own) (map lane_of dids)
  unfolding lane_of
  changes_same [] = refl
  changes_same (did ∷ dids) =
      flat_map-cons (λ (d : LaneDid). d.since) did dids
      ∙ (ap (λ (cs : List Change). did.since ++ cs) (changes_same dids)
      ∙ sym (flat_map-cons (λ (lane : Lane x choices). lane.own) (lane_of did) (map lane_of dids)))

  greatest_same : (f : Store → ℕ) (dids : List LaneDid) → greatest_of f x.store dids ≡ greatest x choices f (map lane_of dids)
  unfolding lane_of
  greatest_same f [] = refl
  greatest_same f (did ∷ dids) = ap (λ n. max (f did.store) n) (greatest_same f dids)

  module _ {R A : Type 0} (rack : racks.Ghosts R) (area : areas.Ghosts A) (jobs done : List J) (new : Pool R A) (tells : TellAll jobs) (apart : NoClash (map commands jobs)) (stood : SectionStood rack area says x jobs done new) where
    made : stood.reached.store ≡ store_of x choices (map lane_of stood.lanes)
    made i = record {
      changes = (stood.changes ∙ ap (λ (cs : List Change). cs ++ x.store.changes) (changes_same stood.lanes)) i;
      marks = stood.marks i;
      seq = (stood.seq ∙ greatest_same (λ (s : Store). s.seq) stood.lanes) i;
      floor = (stood.floor ∙ greatest_same (λ (s : Store). s.floor) stood.lanes) i;
    }

    pub section_is : Section x choices (map commands jobs) (map replies done) stood.reached
    section_is = record {
      lanes = map lane_of stood.lanes;
      unpointed = stood.unpointed;
      apart = apart;
      ran = lanes_ran stood.lanes jobs done tells stood.many stood.done_many stood.each;
      together = subst (λ (hs : List (List Hold)). Together hs x stood.reached) (sym (holds_same stood.lanes)) stood.together;
      made = made;
      steps = λ was. stood.steps;
      switches = stood.switches;
    }
