-- What a lane's commands did, one after another, told in a session's words from whatever the lane knew.
use Rattle.std.proofs.Common.{◌≡◌, ◌∷◌, ◌∙◌, [], ℕ, suc, Bool, true, false, List, Result, Ok, Err, arith, ap, refl, subst, sym, length, map, None}
use Rattle.draid_names.specs.declared.fault.Failed.{Failed}
use Rattle.draid_rack.specs.declared.Rack as racks
use Rattle.draid_area.specs.declared.Area as areas
use Rattle.draid_script.specs.Line.{Command, FillObjects, FreeObject, ReadObject, RebuildPool, ScrubPool, SumObjects, SyncPool, TakeOffline, TakeOnline, WriteObject, command_in}
use Rattle.draid_script.specs.declared.line.Line.{Line}
use Rattle.draid_reply.specs.declared.reply.Reply.{Reply}
use Rattle.draid_shard.specs.Part.{Part}
use Rattle.draid_session.specs.Choices.{Choices}
use Rattle.draid_session.specs.Does.{Does}
use Rattle.draid_session.specs.Holds.{Hold}
use Rattle.draid_session.specs.Lanes.{Says}
use Rattle.draid_session.specs.Making.{content_of}
use Rattle.draid_session.specs.State.{State, Store}
use Rattle.draid_pool.specs.Carries.{ReplyDoes}
use Rattle.draid_pool.proofs.Lists.{present}
use Rattle.draid_lanes.specs.Lanes.{IsSameLane, IsWholeLane}
use Rattle.draid_lanes.specs.Locks.{last_of, left_in, owned_by}
use Rattle.draid_lanes.specs.Telling.{Grows}
use Rattle.draid_lanes.specs.Traces.{LeadsLane, SawBytes, StandsAt, ToldUnpointed}
use Rattle.draid_lanes.specs.declared.lane.Lane.{Lane}
use Rattle.draid_lanes.proofs.LaneCarried.{carries_leads}
use Rattle.draid_lanes.proofs.TurnsThen.{leads_as, leads_none, leads_then, saw_before}
use Rattle.draid_works.specs.Job.{CommandsDone, HasScrub, IsOfLane, IsScrub, MayAllBeGiven}
use Rattle.draid_works.specs.Replied.{CommandDone, DoesInTurn, ObjectsDone}
use Rattle.draid_works.specs.Waiting.{LooksBut}
use Rattle.draid_works.proofs.Grown.{does_grow, grows_self, grows_then}
use Rattle.draid_works.proofs.TurnSays.{SaidBut, offline_said, online_said, rebuild_said, scrub_said, sync_said}
use Rattle.draid_objects.specs.Marks.{check_by}

-- A command did what its reply says, or an area failed it, where what that rests on is so. What befell objects is of a lane's own.
abbrev Tells : State → Choices → (ℕ → Bool) → (saw : Type 0) → Command → Result Reply Failed → Store → List Hold → Store → Type 0
Tells x choices mine saw command said old holds new = ((IsScrub command → saw) → SaidBut x choices command said old holds new) × Grows mine old new

-- so of all of a lane's commands
abbrev TellsAll : State → Choices → (ℕ → Bool) → (saw : Type 0) → List Line → List Reply → Store → List Hold → Store → Type 0
TellsAll x choices mine saw lines replies old holds new = ((HasScrub lines → saw) → Says x choices (map command_in lines) old holds replies new) × Grows mine old new

scrub_more : (line : Line) (lines : List Line) → HasScrub lines → HasScrub (line ∷ lines)
scrub_more line lines has = record { place = suc has.place; line = has.line; there = has.there; scrub = has.scrub }

scrub_here : (line : Line) (lines : List Line) → IsScrub (command_in line) → HasScrub (line ∷ lines)
scrub_here line lines is = record { place = 0; line = line; there = refl; scrub = is }

module _ {R A G W : Type 0} (rack : racks.Ghosts R) (area : areas.Ghosts A) (x : State) where
  -- ---- the layout

  -- a state that a lane knows has the lane's layout, since both have that of a metaslab
  known_geometry : (lane : Lane R A G W) → IsWholeLane rack area lane → (y : State) → StandsAt rack area x lane y → y.geometry ≡ lane.geometry
  known_geometry lane whole y stands =
      let some = whole.lane_is.some in
      let as_many = whole.lane_is.fits.many in
      let lock = present lane.metaslabs.turns.now 0 some in
      let pass = present lane.metaslabs.passes.items 0 (omega (arith, some, as_many)) in
      let shard = left_in lock.0 pass.0.seen in
      let is = stands.knows.but_it.each 0 shard (λ i. last_of (lock.1 i) (pass.1 i)) in
      sym (ap (λ (p : Part). p.geometry) is.2.part_is) ∙ whole.layout 0 shard (λ i. last_of (lock.1 i) (pass.1 i))

  first_geometry : (lane : Lane R A G W) → IsWholeLane rack area lane → (y : State) → StandsAt rack area x lane y → x.geometry ≡ lane.geometry
  first_geometry lane whole y stands = sym (ap (λ (s : State). s.geometry) stands.same) ∙ known_geometry lane whole y stands

  module _ (choices : Choices) (many : length x.metaslabs ≡ x.geometry.props.metaslabs) where
    -- ---- one command

    module _ (old new : Lane R A G W) (whole : IsWholeLane rack area old) (same : IsSameLane old new) (y : State) (stands : StandsAt rack area x old y) (none : check_by y.store.marks ≡ None) where
      abbrev owns : ℕ → Bool
      owns = owned_by old.metaslabs.passes.items

      abbrev saw : Type 0
      saw = SawBytes rack area x new

      abbrev Leads : Command → Result Reply Failed → Type 0
      Leads command said = LeadsLane rack area x (Tells x choices owns saw command said y.store) old new

      on_objects : (command : Command) (reply : Reply) → IsOfLane owns command → ObjectsDone rack area choices command reply old new → Leads command (Ok reply)
      on_objects command reply of_lane d =
          leads_as rack area x old new (LooksBut (ReplyDoes y choices command reply)) (Tells x choices owns saw command (Ok reply) y.store)
          (λ holds store l.
          let does = subst (λ (s : State). Does s.geometry s.perms choices content_of command y.store l.0 reply store) stands.same l.2 in
          (λ rests. (l.0, l.1, does), does_grow owns x.geometry x.perms choices y.store store l.0 command reply of_lane does))
          (carries_leads rack area x old new whole.lane_is.fits.many same d.pass y stands (LooksBut (ReplyDoes y choices command reply)) (d.step y (known_geometry old whole y stands) none stands.knows))

      in_turn : {T : Type 0} (IsAnswer did : T → Type 0) (leads : State → T → Store → List Hold → Store → Type 0) (command : Command) (said : Result Reply Failed)
          → ((answer : T) (holds : List Hold) (store : Store) → IsAnswer answer → leads x answer y.store holds store → ((IsScrub command → saw) → SaidBut x choices command said y.store holds store) × (store ≡ y.store))
          → DoesInTurn rack area IsAnswer did leads said old new → Leads command said
      in_turn IsAnswer did leads command said so d =
          leads_as rack area x old new (leads x d.answer y.store) (Tells x choices owns saw command said y.store) (λ holds store l. (let z = so d.answer holds store d.reply_is l in (z.0, grows_self owns y.store store z.1)))
          (d.told x (first_geometry old whole y stands) many y stands)

      command_leads : (command : Command) (said : Result Reply Failed) → IsOfLane owns command → CommandDone rack area choices command said old new → Leads command said
      command_leads SyncPool said of_lane d = in_turn _ _ _ SyncPool said (λ answer holds store is l. (λ rests. sync_said x choices y.store holds store answer said is l, l.1)) d
      command_leads (TakeOffline leaf) said of_lane d = in_turn _ _ _ (TakeOffline leaf) said (λ answer holds store is l. (λ rests. offline_said x choices y.store holds store leaf answer said is l, l.1)) d
      command_leads (TakeOnline leaf) said of_lane d = in_turn _ _ _ (TakeOnline leaf) said (λ answer holds store is l. (λ rests. online_said x choices y.store holds store leaf answer said is l, l.1)) d
      command_leads (RebuildPool limit) said of_lane d = in_turn _ _ _ (RebuildPool limit) said (λ answer holds store is l. (λ rests. rebuild_said x choices y.store holds store saw limit answer said is l, l.1)) d
      command_leads (ScrubPool limit) (Ok reply) of_lane d = in_turn _ _ _ (ScrubPool limit) (Ok reply) (λ answer holds store is l. (λ rests. scrub_said x choices y.store holds store saw limit answer reply is l (rests tt), l.1)) d
      command_leads (ScrubPool limit) (Err failed) of_lane d = absurd d
      command_leads (WriteObject object bytes) (Ok reply) of_lane d = on_objects (WriteObject object bytes) reply of_lane d
      command_leads (WriteObject object bytes) (Err failed) of_lane d = absurd d
      command_leads (FillObjects first count len seed) (Ok reply) of_lane d = on_objects (FillObjects first count len seed) reply of_lane d
      command_leads (FillObjects first count len seed) (Err failed) of_lane d = absurd d
      command_leads (ReadObject object) (Ok reply) of_lane d = on_objects (ReadObject object) reply of_lane d
      command_leads (ReadObject object) (Err failed) of_lane d = absurd d
      command_leads (FreeObject object) (Ok reply) of_lane d = on_objects (FreeObject object) reply of_lane d
      command_leads (FreeObject object) (Err failed) of_lane d = absurd d
      command_leads (SumObjects first count) (Ok reply) of_lane d = on_objects (SumObjects first count) reply of_lane d
      command_leads (SumObjects first count) (Err failed) of_lane d = absurd d
      command_leads command said of_lane d = absurd of_lane

    -- ---- all of them

    pub commands_lead : (lines : List Line) (replies : List Reply) (stopped : Bool) (old new : Lane R A G W) → IsWholeLane rack area old → MayAllBeGiven (owned_by old.metaslabs.passes.items) lines → CommandsDone rack area choices lines replies stopped old new
        → ToldUnpointed rack area x (TellsAll x choices (owned_by old.metaslabs.passes.items) (SawBytes rack area x new) lines replies) old new
    commands_lead [] [] false old new whole given d y stands none =
        let owns = owned_by old.metaslabs.passes.items in
        subst (λ (l : Lane R A G W). LeadsLane rack area x (TellsAll x choices owns (SawBytes rack area x l) [] [] y.store) old l) (sym d)
        (leads_none rack area x old (TellsAll x choices owns (SawBytes rack area x old) [] [] y.store) y stands (λ rests. (refl, refl), grows_self owns y.store y.store refl))
    commands_lead (line ∷ lines) (reply ∷ replies) stopped old new whole given d y stands none =
        let mid = d.0 in
        let owns = owned_by old.metaslabs.passes.items in
        let saw = SawBytes rack area x new in
        let one = command_leads old mid whole d.1.same y stands none (command_in line) (Ok reply) (given 0 line refl).of_lane d.2 in
        let more : MayAllBeGiven (owned_by mid.metaslabs.passes.items) lines = subst (λ f. MayAllBeGiven f lines) (sym d.1.same.owns) (λ i other at. given (suc i) other at) in
        let rest = commands_lead lines replies stopped mid new d.1.whole more d.3 one.reached one.stands (ap check_by (one.done.1.marks none) ∙ none) in
        leads_then rack area x old mid new (Tells x choices owns (SawBytes rack area x mid) (command_in line) (Ok reply) y.store) one (TellsAll x choices (owned_by mid.metaslabs.passes.items) saw lines replies one.reached.store) rest
        (TellsAll x choices owns saw (line ∷ lines) (reply ∷ replies) y.store) (
          λ rests.
              (let did = one.done.0 (λ is. saw_before rack area x mid new rest.turns rest.holds rest.had (rests (scrub_here line lines is))) in
              (one.holds, rest.holds, did.0, one.reached.store, refl, did.1, did.2, rest.done.0 (λ has. rests (scrub_more line lines has)))),
          grows_then owns y.store one.reached.store rest.reached.store one.done.1 (subst (λ f. Grows f one.reached.store rest.reached.store) d.1.same.owns rest.done.1),
        )
    commands_lead (line ∷ lines) [] true old new whole given d y stands none =
        let owns = owned_by old.metaslabs.passes.items in
        let saw = SawBytes rack area x new in
        leads_as rack area x old new (Tells x choices owns saw (command_in line) (Err d.0) y.store) (TellsAll x choices owns saw (line ∷ lines) [] y.store) (λ holds store l. (λ rests. l.0 (λ is. rests (scrub_here line lines is)), l.1))
        (command_leads old new whole d.1.same y stands none (command_in line) (Err d.0) (given 0 line refl).of_lane d.2)
    commands_lead lines replies stopped old new whole given d y stands none = absurd d
