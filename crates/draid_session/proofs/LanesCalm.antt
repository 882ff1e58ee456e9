-- What is so along each lock is so of the holds of each lane: what they find of logs and of passes.
use Rattle.std.proofs.Common.{◌≡◌, ◌∙◌, ℕ, List, [], ◌∷◌, Option, Some, inl, inr, refl, sym, subst, map}
use Rattle.std.specs.Prelude.{⊤, slice_get}
use Rattle.draid_spec.specs.declared.layout.Geometry.{Geometry}
use Rattle.draid_perm.specs.declared.perms.Perms.{Perms}
use Rattle.draid_machine.specs.State as machine
use Rattle.draid_machine.specs.Created.{IsReached}
use Rattle.draid_layouts.specs.Layout.{layout_of}
use Rattle.draid_reply.specs.declared.reply.Reply.{Reply}
use Rattle.draid_reply.specs.declared.reply.Reply.TheVariants.{Rebuilt, Scrubbed}
use Rattle.draid_script.specs.Line.{Command, RebuildPool, ScrubPool}
use Rattle.draid_session.specs.Choices.{Choices}
use Rattle.draid_session.specs.Does.{Does}
use Rattle.draid_session.specs.Follows.{Follows}
use Rattle.draid_session.specs.Holds.{Hold, On, OnUber}
use Rattle.draid_session.specs.Lanes.{IsLookOnly, Lane, LanesRan, LeavesLooks, Says, Section, Together, holds_of, is_of}
use Rattle.draid_session.specs.LanesCalm.{AreCalmLanes, IsCalmFor, IsCalmLane, TellsNoError}
use Rattle.draid_session.specs.Looks.{AllOf}
use Rattle.draid_session.specs.Making.{content_of}
use Rattle.draid_session.specs.Passes as passes
use Rattle.draid_session.specs.Present.{AreReached, LeavesPresent}
use Rattle.draid_session.specs.State.{Metaslab, State, Store}
use Rattle.draid_session.specs.Undisturbed.{HaveNoErrors, IsUndisturbed, WentWell}
use Rattle.draid_session.proofs.Healthy.{replies_undisturbed}
use Rattle.draid_session.proofs.Lanewise.{all_both, all_more, every, filter_all, lanes_of_locks, looks_left, map_all, map_back, merged_all, merged_back}
use Rattle.draid_session.proofs.Lists.{all_back, all_front}
use Rattle.draid_session.proofs.Present.{all_present, follows_reached}
use Rattle.draid_session.proofs.Undisturbed.{FindsNone, follows_calm, follows_find, rebuild_finds, scrub_finds}
use Rattle.draid_session.proofs.Visited.{layout_stays}

-- ---- along each lock

-- what is so of all holds of a lock, as they follow one another, is so of those of each lane
by_locks : (Q P : Hold → Type 0) (lanes : List (List Hold)) (x y : State) → Together lanes x y → AllOf (AllOf Q) lanes
    → ((order : List Hold) (reached : State) → AllOf Q order → Follows order x reached → AllOf P order) → AllOf (AllOf P) lanes
by_locks Q P lanes x y together all each = lanes_of_locks P lanes at
  where
    at : (lock : Option ℕ) → AllOf (λ (holds : List Hold). AllOf P (holds_of lock holds)) lanes
    at lock =
        let t = together.each lock in
        let own : AllOf (AllOf Q) (map (holds_of lock) lanes) =
        map_all (AllOf Q) (holds_of lock) lanes (all_more (AllOf Q) (λ (holds : List Hold). AllOf Q (holds_of lock holds)) lanes (λ holds q. filter_all Q (is_of lock) holds q) all) in
        map_back (AllOf P) (holds_of lock) lanes
        (merged_back P (map (holds_of lock) lanes) t.order (each t.order t.reached (merged_all Q (map (holds_of lock) lanes) t.order own t.merged) t.follows) t.merged)

module _ (x : State) (choices : Choices) (commands : List (List Command)) (replies : List (List Reply)) (y : State) (s : Section x choices commands replies y) where
  abbrev holds_in : Lane x choices → List Hold
  holds_in lane = lane.holds

  -- ---- logs

  -- legal histories give the states of its metaslabs
  pub section_reached : AreReached x → AreReached y
  section_reached r = record {
    layout = λ m. subst (λ (g : Geometry). machine.IsLayout (layout_of g y.perms m)) s.together.rest.geometry (subst (λ (p : Perms). machine.IsLayout (layout_of x.geometry p m)) s.together.rest.perms (r.layout m));
    each = λ m z there. at m z there;
  }
    where
      at : (m : ℕ) (z : Metaslab) → slice_get y.metaslabs m ≡ Some z → IsReached (layout_of y.geometry y.perms m) z.world
      at m z there =
          let t = s.together.each (Some m) in
          let same = layout_stays t.order x t.reached t.follows in
          let is = (follows_reached t.order x t.reached t.follows r).each m z (t.same ∙ there) in
          subst (λ (g : Geometry). IsReached (layout_of g y.perms m) z.world) (same.0 ∙ s.together.rest.geometry)
          (subst (λ (p : Perms). IsReached (layout_of t.reached.geometry p m) z.world) (same.1 ∙ s.together.rest.perms) is)

  pub lanes_present : AreReached x → AllOf (λ (lane : Lane x choices). AllOf (LeavesPresent x.geometry x.perms) lane.holds) s.lanes
  lanes_present r =
      map_back (AllOf (LeavesPresent x.geometry x.perms)) holds_in s.lanes
      (by_locks (λ hold. ⊤) (LeavesPresent x.geometry x.perms) (map holds_in s.lanes) x y s.together (every (AllOf (λ (hold : Hold). ⊤)) (map holds_in s.lanes) (λ holds. every (λ (hold : Hold). ⊤) holds (λ hold. tt)))
      (λ order reached none follows. all_present x.geometry x.perms order x reached refl refl follows r))

-- ---- passes

module _ (geometry : Geometry) (perms : Perms) where
  abbrev Undisturbed : List Hold → Type 0
  Undisturbed holds = AllOf (IsUndisturbed geometry perms) holds

  look_undisturbed : (hold : Hold) → IsLookOnly hold → IsUndisturbed geometry perms hold
  look_undisturbed (On v act) look = subst (λ a. IsUndisturbed geometry perms (On v a)) (sym look) tt
  look_undisturbed (OnUber u act) look = tt

  looks_undisturbed : (holds left : List Hold) → LeavesLooks holds left → Undisturbed left → Undisturbed holds
  looks_undisturbed [] left leaves all = tt
  looks_undisturbed (hold ∷ holds) left (inl look) all = (look_undisturbed hold look.0, looks_undisturbed holds left look.1 all)
  looks_undisturbed (hold ∷ holds) left (inr own) all = (let a : Undisturbed (hold ∷ own.0) = subst Undisturbed own.1 all in (a.0, looks_undisturbed holds own.0 own.2 a.1))

  command_undisturbed : (choices : Choices) (command : Command) (old new : Store) (left : List Hold) (reply : Reply) → Does geometry perms choices content_of command old left reply new
      → AllOf (IsCalmFor geometry perms command) left → Undisturbed left
  command_undisturbed choices (ScrubPool limit) old new left reply does calm = replies_undisturbed geometry perms choices limit old new left reply does calm
  command_undisturbed choices command old new left reply does calm = calm

  one_tells : (choices : Choices) (command : Command) (old new : Store) (left : List Hold) (reply : Reply) → Does geometry perms choices content_of command old left reply new
      → Undisturbed left → AllOf (FindsNone geometry perms) left → TellsNoError reply
  one_tells choices (RebuildPool limit) old new left (Rebuilt from stripes errors paused) does calm finds =
      (let r = does.1 in sym r.4 ∙ rebuild_finds geometry perms limit left (passes.outcome_of paused) r.0 r.1 calm finds)
  one_tells choices (ScrubPool limit) old new left (Scrubbed from blocks repaired errors paused) does calm finds =
      (let r = does.1 in sym r.5 ∙ scrub_finds geometry perms limit left (passes.outcome_of paused) r.0 r.1 calm finds)
  one_tells choices command old new left (Rebuilt from stripes errors paused) does calm finds = absurd does
  one_tells choices command old new left (Scrubbed from blocks repaired errors paused) does calm finds = absurd does
  one_tells choices command old new left reply does calm finds = tt

module _ (x : State) (choices : Choices) where
  abbrev Calm : List Hold → Type 0
  Calm holds = AllOf (IsUndisturbed x.geometry x.perms) holds

  abbrev Finds : List Hold → Type 0
  Finds holds = AllOf (FindsNone x.geometry x.perms) holds

  lane_undisturbed : (commands : List Command) (old : Store) (holds : List Hold) (replies : List Reply) (new : Store) (says : Says x choices commands old holds replies new)
      → IsCalmLane x choices commands old holds replies new says → Calm holds
  lane_undisturbed [] old holds [] new says calm = subst Calm (sym says.0) tt
  lane_undisturbed [] old holds (reply ∷ replies) new says calm = absurd says
  lane_undisturbed (command ∷ commands) old holds [] new says calm = looks_undisturbed x.geometry x.perms holds says.0 says.1 calm
  lane_undisturbed (command ∷ commands) old holds (reply ∷ replies) new says calm =
      subst Calm (sym says.4) (all_both (IsUndisturbed x.geometry x.perms) says.0 says.1
      (looks_undisturbed x.geometry x.perms says.0 says.2 says.5 (command_undisturbed x.geometry x.perms choices command old says.3 says.2 reply says.6 calm.0))
      (lane_undisturbed commands says.3 says.1 replies new says.7 calm.1))

  lane_tells : (commands : List Command) (old : Store) (holds : List Hold) (replies : List Reply) (new : Store) (says : Says x choices commands old holds replies new)
      → IsCalmLane x choices commands old holds replies new says → Finds holds → AllOf TellsNoError replies
  lane_tells [] old holds [] new says calm finds = tt
  lane_tells [] old holds (reply ∷ replies) new says calm finds = absurd says
  lane_tells (command ∷ commands) old holds [] new says calm finds = tt
  lane_tells (command ∷ commands) old holds (reply ∷ replies) new says calm finds =
      let parts = subst Finds says.4 finds in (
        one_tells x.geometry x.perms choices command old says.3 says.2 reply says.6 (command_undisturbed x.geometry x.perms choices command old says.3 says.2 reply says.6 calm.0)
            (looks_left (FindsNone x.geometry x.perms) says.0 says.2 says.5 (all_front (FindsNone x.geometry x.perms) says.0 says.1 parts)),
        lane_tells commands says.3 says.1 replies new says.7 calm.1 (all_back (FindsNone x.geometry x.perms) says.0 says.1 parts),
      )

  lanes_undisturbed : (lanes : List (Lane x choices)) (commands : List (List Command)) (replies : List (List Reply)) (ran : LanesRan x choices lanes commands replies)
      → AreCalmLanes x choices lanes commands replies ran → AllOf (λ (lane : Lane x choices). Calm lane.holds) lanes
  lanes_undisturbed [] [] [] ran calm = tt
  lanes_undisturbed (lane ∷ lanes) (one ∷ commands) (told ∷ replies) ran calm =
      (lane_undisturbed one x.store lane.holds told lane.store ran.0.says calm.0, lanes_undisturbed lanes commands replies ran.1 calm.1)
  lanes_undisturbed lanes commands replies ran calm = absurd ran

  lanes_tell : (lanes : List (Lane x choices)) (commands : List (List Command)) (replies : List (List Reply)) (ran : LanesRan x choices lanes commands replies)
      → AreCalmLanes x choices lanes commands replies ran → AllOf (λ (lane : Lane x choices). Finds lane.holds) lanes → AllOf (AllOf TellsNoError) replies
  lanes_tell [] [] [] ran calm finds = tt
  lanes_tell (lane ∷ lanes) (one ∷ commands) (told ∷ replies) ran calm finds =
      (lane_tells one x.store lane.holds told lane.store ran.0.says calm.0 finds.0, lanes_tell lanes commands replies ran.1 calm.1 finds.1)
  lanes_tell lanes commands replies ran calm finds = absurd ran

  module _ (commands : List (List Command)) (replies : List (List Reply)) (y : State) (s : Section x choices commands replies y) (none : HaveNoErrors x)
      (calm : AreCalmLanes x choices s.lanes commands replies s.ran) where
    abbrev held : Lane x choices → List Hold
    held lane = lane.holds

    all : AllOf Calm (map held s.lanes)
    all = map_all Calm held s.lanes (lanes_undisturbed s.lanes commands replies s.ran calm)

    pub section_tells : AllOf (AllOf TellsNoError) replies
    section_tells = lanes_tell s.lanes commands replies s.ran calm
        (map_back Finds held s.lanes (by_locks (IsUndisturbed x.geometry x.perms) (FindsNone x.geometry x.perms) (map held s.lanes) x y s.together all
        (λ order reached own follows. follows_find x.geometry x.perms order x reached own follows (record { layout = refl; children = refl; errors = none }))))

    pub section_well : AllOf (λ (lane : Lane x choices). AllOf WentWell lane.holds) s.lanes
    section_well = map_back (AllOf WentWell) held s.lanes (by_locks (IsUndisturbed x.geometry x.perms) WentWell (map held s.lanes) x y s.together all
        (λ order reached own follows. (follows_calm x.geometry x.perms order x reached own follows (record { layout = refl; children = refl; errors = none })).1))
