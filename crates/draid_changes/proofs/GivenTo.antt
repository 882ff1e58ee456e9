-- What was reserved for due slots leaves their slots as they are, and they get spares behind it.
use Rattle.std.proofs.Common.{◌≡◌, ◌<◌, ◌+◌, ◌-◌, ◌++◌, ◌||◌, ◌∙◌, inl, inr, [], ◌∷◌, ℕ, Bool, List, Option, Some, Err, arith, refl, sym, ap, subst, length, drop, take}
use Rattle.std.specs.Prelude.{slice_get}
use Rattle.std.specs.List.{list_any}
use Rattle.std.proofs.lemmas.Bool.{cases_lt}
use Rattle.std.proofs.lemmas.List.{get_or_past, length-drop, take_all}
use Rattle.std.proofs.lemmas.Option.{slice_get_within}
use Rattle.draid_names.specs.declared.journal.Entry.{Entry}
use Rattle.draid_names.specs.declared.arm.Arm.{Arm}
use Rattle.draid_spec.specs.declared.layout.Geometry.{Geometry}
use Rattle.draid_rack.specs.declared.Rack as racks
use Rattle.draid_area.specs.declared.Area as areas
use Rattle.draid_entries.specs.declared.history.ReserveFault.{ReserveFault}
use Rattle.draid_slots.specs.Changes.{Keeps}
use Rattle.draid_slots.specs.Table.{IsTable, SlotTable, arms_of, has_spare, holds_spare, was_spare_of}
use Rattle.draid_shard.specs.Alike.{ShareArms}
use Rattle.draid_shard.specs.declared.shard.Shard.{Shard}
use Rattle.draid_agent.specs.declared.states.Due.{Due}
use Rattle.draid_disks.specs.Checks.{Each}
use Rattle.draid_disks.proofs.Alike.{plains_same}
use Rattle.draid_session.specs.Agent.{AttachesAll}
use Rattle.draid_session.specs.Arms as arms
use Rattle.draid_session.specs.Phases.{Went}
use Rattle.draid_session.specs.State.{State}
use Rattle.draid_pool.specs.Carries.{CarriesOut}
use Rattle.draid_pool.specs.Pools.{Represents}
use Rattle.draid_pool.specs.Syncing.{Phase, end_of}
use Rattle.draid_pool.specs.Whole.{IsWhole}
use Rattle.draid_pool.specs.declared.fault.SyncFault.{SyncFault}
use Rattle.draid_pool.specs.declared.fault.SyncFault.TheVariants as sync
use Rattle.draid_pool.specs.declared.pool.Pool.{Pool}
use Rattle.draid_pool.proofs.Lists.{present}
use Rattle.draid_pool.proofs.Steps.{carried, carries_so}
use Rattle.draid_pool.proofs.SyncCalls.{then_phase}
use Rattle.draid_pool.proofs.WholeGroups.{first_shard}
use Rattle.draid_changes.specs.Dues.{AreFree, Ascends, IsIdleIn}
use Rattle.draid_changes.specs.Giving.{AllStay, GaveAll, GaveSome, GivesTo, HaveRoom, StopsBefore, is_spared}
use Rattle.draid_changes.specs.Walks.{end_of_reserving}
use Rattle.draid_changes.proofs.Coming.{has_spare_plain, slots_layout}

-- ---- slots of which nothing but the logs' room changed

to_new : (a b : SlotTable) → Keeps a b → record b { geometry = a.geometry; arms = a.arms; detached = a.detached } ≡ b
to_new a b kept = λ i. record b { geometry = sym kept.same.geometry_is i; arms = sym kept.arms_stay i; detached = sym kept.detached_stay i }

to_old : (a b : SlotTable) → Keeps a b → record a { geometry = b.geometry; arms = b.arms; detached = b.detached } ≡ a
to_old a b kept = λ i. record a { geometry = kept.same.geometry_is i; arms = kept.arms_stay i; detached = kept.detached_stay i }

room_on : (dues : List Due) (a b : SlotTable) → Keeps a b → HaveRoom a dues → HaveRoom b dues
room_on dues a b kept room = subst (λ (slots : SlotTable). HaveRoom slots dues) (to_new a b kept) room

free_on : (free : List ℕ) (a b : SlotTable) → Keeps a b → AreFree (IsIdleIn a) [] a.geometry.spec.spares free → AreFree (IsIdleIn b) [] b.geometry.spec.spares free
free_on free a b kept are = subst (λ (slots : SlotTable). AreFree (IsIdleIn slots) [] slots.geometry.spec.spares free) (to_new a b kept) are

gives_back : (chosen : ℕ → ℕ → List ℕ → Option ℕ → Type 0) (number : ℕ) (dues : List Due) (entries : List Entry) (a b : SlotTable) → Keeps a b → GivesTo chosen (IsIdleIn b) b.geometry.spec.spares [] number dues entries
    → GivesTo chosen (IsIdleIn a) a.geometry.spec.spares [] number dues entries
gives_back chosen number dues entries a b kept gives = subst (λ (slots : SlotTable). GivesTo chosen (IsIdleIn slots) slots.geometry.spec.spares [] number dues entries) (to_old a b kept) gives

-- metaslabs that share their arms have the same idle spares
held_shared : (a b : SlotTable) → b.geometry ≡ a.geometry → ShareArms a b → IsTable a → IsTable b → (spare by : ℕ) → holds_spare b spare by ≡ holds_spare a spare by
held_shared a b same share sound also spare by = λ i. has i || was_spare_of (share.detached i) spare by
  where
    has : has_spare (arms_of b by) spare ≡ has_spare (arms_of a by) spare
    has = elim (cases_lt by (length a.arms)) [
      | inl less ↦
          (let children = sound.slots.children in
          let plains = plains_same (arms_of a by) (arms_of b by) (share.arms.slots by (omega (arith, less, children))) in
          sym (has_spare_plain spare (arms_of b by)) ∙ (ap (λ (arms : List Arm). has_spare arms spare) (sym plains) ∙ has_spare_plain spare (arms_of a by)))
      | inr past ↦
          (let one = sound.slots.children in
          let two = also.slots.children in
          let alike = ap (λ (g : Geometry). g.spec.children) same in
          ap (λ (arms : List Arm). has_spare arms spare) (get_or_past b.arms by [] (omega (arith, past, one, two, alike)) ∙ sym (get_or_past a.arms by [] past)))
    ]

free_shared : (free : List ℕ) (a b : SlotTable) → b.geometry ≡ a.geometry → ShareArms a b → IsTable a → IsTable b → AreFree (IsIdleIn a) [] a.geometry.spec.spares free → AreFree (IsIdleIn b) [] b.geometry.spec.spares free
free_shared free a b same share sound also are = record {
  ascending = subst (λ (g : Geometry). Ascends 0 g.spec.spares free) (sym same) are.ascending;
  all = λ spare low idle new. are.all spare (subst (λ (g : Geometry). spare < g.spec.spares) same low) (λ by. sym (held_shared a b same share sound also spare by) ∙ idle by) new;
  only = λ spare has. (let z = are.only spare has in (λ by. held_shared a b same share sound also spare by ∙ z.0 by, z.1));
}

module _ {R A : Type 0} (old late : Pool R A) (stay : AllStay old late) where
  -- what stood at a place before
  was_at : (m : ℕ) (z : Shard R A) → slice_get late.metaslabs.shards.items m ≡ Some z → (x : Shard R A) × (slice_get old.metaslabs.shards.items m ≡ Some x) × Keeps x.slots z.slots
  was_at m z at =
      let inside = slice_get_within late.metaslabs.shards.items m z at in
      let many = stay.many in
      let was = present old.metaslabs.shards.items m (omega (arith, inside, many)) in
      (was.0, was.1, (stay.each m was.0 z was.1 at).0)

  pub all_have_room : (dues : List Due) → Each (λ (shard : Shard R A). HaveRoom shard.slots dues) old.metaslabs.shards.items → Each (λ (shard : Shard R A). HaveRoom shard.slots dues) late.metaslabs.shards.items
  all_have_room dues room m z at = (let was = was_at m z at in room_on dues was.0.slots z.slots was.2 (room m was.0 was.1))

  -- the same spares are free in each, by its own slots
  pub all_free : (rack : racks.Ghosts R) (area : areas.Ghosts A) (free : List ℕ) → IsWhole rack area late
      → ((first : Shard R A) → slice_get old.metaslabs.shards.items 0 ≡ Some first → AreFree (IsIdleIn first.slots) [] first.slots.geometry.spec.spares free)
      → Each (λ (shard : Shard R A). AreFree (IsIdleIn shard.slots) [] shard.slots.geometry.spec.spares free) late.metaslabs.shards.items
  all_free rack area free whole are m z at =
      let first = first_shard rack area late whole in
      let was = was_at 0 first.0 first.1 in
      let sound = (stay.each 0 was.0 first.0 was.1 first.1).1 in
      let other = was_at m z at in
      let also = (stay.each m other.0 z other.1 at).1 in
      free_shared free first.0.slots z.slots (slots_layout rack area late m z whole at ∙ sym (slots_layout rack area late 0 first.0 whole first.1)) (whole.alike 0 m first.0 z first.1 at) sound also
      (free_on free was.0.slots first.0.slots was.2 (are was.0 was.1))

  pub all_give : (chosen : ℕ → ℕ → List ℕ → Option ℕ → Type 0) (number : ℕ) (dues : List Due) (entries : List Entry)
      → Each (λ (shard : Shard R A). GivesTo chosen (IsIdleIn shard.slots) shard.slots.geometry.spec.spares [] number dues entries) late.metaslabs.shards.items
      → Each (λ (shard : Shard R A). GivesTo chosen (IsIdleIn shard.slots) shard.slots.geometry.spec.spares [] number dues entries) old.metaslabs.shards.items
  all_give chosen number dues entries gives m x at =
      let inside = slice_get_within old.metaslabs.shards.items m x at in
      let many = stay.many in
      let now = present late.metaslabs.shards.items m (omega (arith, inside, many)) in
      gives_back chosen number dues entries x.slots now.0.slots (stay.each m x now.0 at now.1).0 (gives m now.0 now.1)

-- what is behind the first entries
dropped : (before entries : List Entry) → drop (length before) (before ++ entries) ≡ entries
dropped [] entries = refl
dropped (e ∷ before) entries = dropped before entries

-- a slice from one place on
pub sliced : (xs ys mid after : List Entry) → xs ≡ mid → ys ≡ after → take (length ys - length xs) (drop (length xs) ys) ≡ drop (length mid) after
sliced xs ys mid after same end =
    take_all (length ys - length xs) (drop (length xs) ys) (let less = length-drop (length xs) ys in omega (arith, less)) ∙ (λ i. drop (length (same i)) (end i))

module _ {R A : Type 0} (rack : racks.Ghosts R) (area : areas.Ghosts A) (chosen : ℕ → ℕ → List ℕ → Option ℕ → Type 0) (dues : List Due) (old : Pool R A) (before : List Entry) where
  -- spares came behind the reserving
  pub gave_some : (late new : Pool R A) (mid after : List Entry) (came : Bool) → AllStay old late → mid ≡ before
      → ((x : State) → Represents rack area old x → CarriesOut rack area late x (Phase x (arms.ReservePhase x.geometry x.perms (λ v. length dues)) Went))
      → GaveAll rack area chosen dues late mid new after → came ≡ list_any (λ (e : Entry). is_spared e.did) (drop (length mid) after) → GaveSome rack area chosen dues old before came new after
  gave_some late new mid after came stay same reserve gave came_is = record {
    entries = gave.entries;
    are = gave.are ∙ ap (λ (es : List Entry). es ++ gave.entries) same;
    gives = all_give old late stay chosen (length before + 1) dues gave.entries
        (subst (λ n. Each (λ (shard : Shard R A). GivesTo chosen (IsIdleIn shard.slots) shard.slots.geometry.spec.spares [] n dues gave.entries) late.metaslabs.shards.items) (ap (λ (es : List Entry). length es + 1) same) gave.gives);
    came_is = came_is ∙ ap (λ (es : List Entry). list_any (λ (e : Entry). is_spared e.did) es) (ap (λ (es : List Entry). drop (length mid) es) gave.are ∙ dropped mid gave.entries);
    carries = λ x r. then_phase rack area late new x (λ g p. arms.ReservePhase g p (λ v. length dues)) (λ g p. AttachesAll g p chosen gave.entries) Went (reserve x r) gave.carries;
  }

  -- memory was wanting
  pub starved : (x : State) → Represents rack area old x → CarriesOut rack area old x (StopsBefore (length dues) sync.NoMemory x)
  starved x r = carried rack area old x [] x (StopsBefore (length dues) sync.NoMemory x) refl r (refl, inr (refl, refl))

  -- the reserving was stopped
  pub reserve_stopped : (late : Pool R A) (fault : ReserveFault) (why : SyncFault) → end_of {T = ℕ} (Err why) ≡ end_of_reserving (Err fault) → (x : State)
      → CarriesOut rack area late x (Phase x (arms.ReservePhase x.geometry x.perms (λ v. length dues)) (end_of_reserving (Err fault))) → CarriesOut rack area late x (StopsBefore (length dues) why x)
  reserve_stopped late fault why ends x c =
      carries_so rack area late x (Phase x (arms.ReservePhase x.geometry x.perms (λ v. length dues)) (end_of_reserving (Err fault))) (StopsBefore (length dues) why x) c
      (λ holds store done. (done.0, inl (subst (λ end. arms.ReservePhase x.geometry x.perms (λ v. length dues) holds end) (sym ends) done.1)))
