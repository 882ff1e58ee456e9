-- A leaf that goes offline in a lane's metaslabs or comes back, in the session's words, behind what was closing.
use Rattle.std.proofs.Common.{◌≡◌, ◌<◌, ◌+◌, ◌++◌, ◌∙◌, [], inl, inr, ℕ, zero, suc, Bool, true, false, List, Ok, Err, arith, refl, sym, subst}
use Rattle.draid_rack.specs.declared.Rack as racks
use Rattle.draid_area.specs.declared.Area as areas
use Rattle.draid_machine.specs.declared.event.Event.{Event}
use Rattle.draid_machine.specs.declared.event.Event.TheVariants as event
use Rattle.draid_machine.specs.declared.names.Key.{Key}
use Rattle.draid_session.specs.Arms as arms
use Rattle.draid_session.specs.Holds.{Did, Hold}
use Rattle.draid_session.specs.Lanes.{IsLookOnly, LeavesLooks}
use Rattle.draid_session.specs.Phases.{Chain, End, Went}
use Rattle.draid_session.specs.Phases as phases
use Rattle.draid_session.specs.State.{State}
use Rattle.draid_shard.specs.declared.shard.Shard.{Shard}
use Rattle.draid_uber.specs.declared.uber.Uber.{Uber}
use Rattle.draid_pool.specs.Drifts.{groups_number}
use Rattle.draid_pool.specs.Pools.{part_in}
use Rattle.draid_pool.proofs.Walks.{Walked, walk_stops, walk_went}
use Rattle.draid_changes.specs.Switching.{ReservesEach, ReservesOne, SeesLeaf, SwitchesEach}
use Rattle.draid_changes.specs.Walks.{Switches, end_of_reserving, switch_event}
use Rattle.draid_entries.specs.declared.history.ReserveFault.{ReserveFault}
use Rattle.draid_entries.specs.declared.history.ReserveFault.TheVariants as reserve
use Rattle.draid_changes.proofs.OwnedSwitch.{reserving_by}
use Rattle.draid_changes.proofs.Reserved.{not_through, reserve_stops, reserve_turns}
use Rattle.draid_changes.proofs.Switched.{switch_did}
use Rattle.draid_lanes.specs.Governing.{lane_last}
use Rattle.draid_lanes.specs.Waits.{LaneWent}
use Rattle.draid_lanes.specs.declared.locked.Locked.{Locked}
use Rattle.draid_lanes.proofs.FinishWords.{Fresh, Stage, fresh_none, waits_more}
use Rattle.draid_lanes.proofs.FinishWords.Stage.{Begins, Waits}
use Rattle.draid_lanes.proofs.GroupWords.{each_of}
use Rattle.draid_lanes.proofs.OneTurn.{HasCame, Once}
use Rattle.draid_lanes.proofs.OnlyLooking.{same_looks}
use Rattle.draid_lanes.proofs.RoundWords.{EndsNone, IsOneOf, Says, TellsAt, looks_end, round_said, said_on, said_one}
use Rattle.draid_lanes.proofs.SealWords.{leaves_self, walked_zero}
use Rattle.draid_works.specs.Switched.{TriedOn}

-- but for looks, an event is reserved in each metaslab, and then it comes there
pub record RestBut (x : State) (e : Event) (end : End) (hs : List Hold) : Type 0 where
  pub left : List Hold
  pub leaves : LeavesLooks hs left
  pub does : Chain (arms.ReservePhase x.geometry x.perms (arms.one_event x.geometry x.perms)) (arms.EventPhase x.geometry x.perms e) left end

-- no ticket is ended
switch_ends : (leaf : ℕ) (offline : Bool) (key : Key) → event.Finish key ≡ switch_event leaf offline → ⊥
switch_ends leaf true key same = absurd (cc)
switch_ends leaf false key same = absurd (cc)

short_ends : (x : State) (why : ReserveFault) (m : ℕ) → EndsNone (λ hold. arms.ReserveStops x.geometry x.perms (arms.one_event x.geometry x.perms) m hold (end_of_reserving (Err why)))
short_ends x (reserve.Worn events) m v key w is = is
short_ends x reserve.NoMemory m v key w is = is

-- a look in front
look_front : (hs ks left : List Hold) → IsOneOf IsLookOnly hs → LeavesLooks ks left → LeavesLooks (hs ++ ks) left
look_front hs ks left one l = subst (λ a. LeavesLooks (a ++ ks) left) (sym one.are) (inl (one.is, l))

module _ {R A : Type 0} (rack : racks.Ghosts R) (area : areas.Ghosts A) (x : State) where
  pub tells_reserve : (n m : ℕ) (before after : Shard R A) → ReservesOne rack before (Ok tt) after → TellsAt rack area x m (λ hold. arms.Reserves x.geometry x.perms (arms.one_event x.geometry x.perms) m hold 0) before after
  tells_reserve n m before after e pieces y is =
      let t = reserve_turns rack area (arms.one_event x.geometry x.perms) 1 before after (λ part q z has. refl) (reserving_by rack area before after (Ok tt) e) e.answer e.reserved (part_in x m) pieces y is in
      record { act = t.act; reached = t.reached; acts = t.acts; done = t.done.0; is = t.is }

  pub tells_short : (why : ReserveFault) (m : ℕ) (before after : Shard R A) → ReservesOne rack before (Err why) after → TellsAt rack area x m (λ hold. arms.ReserveStops x.geometry x.perms (arms.one_event x.geometry x.perms) m hold (end_of_reserving (Err why))) before after
  tells_short why m before after e pieces y is =
      let t = reserve_stops rack area (arms.one_event x.geometry x.perms) 1 before after why (λ part q z has. refl) (reserving_by rack area before after (Err why) e) e.answer e.same (part_in x m) pieces y is in
      record { act = t.act; reached = t.reached; acts = t.acts; done = t.done.0; is = t.is }

  pub tells_switch : (leaf : ℕ) (offline : Bool) (n m : ℕ) (before after : Shard R A) → Switches rack leaf offline before after → TellsAt rack area x m (λ hold. arms.Happens x.geometry x.perms (switch_event leaf offline) m hold) before after
  tells_switch leaf offline n m before after s pieces y is =
      let d = switch_did rack area leaf offline before after s (part_in x m) pieces y is in
      record { act = Did (switch_event leaf offline) d.reached.world; reached = d.reached; acts = d.acts; done = (refl, refl); is = d.is }

module _ {R A G W : Type 0} (rack : racks.Ghosts R) (area : areas.Ghosts A) (x : State) (owns : ℕ → Bool) (own : owns groups_number ≡ true) (count : ℕ) (all : count ≡ x.geometry.props.metaslabs) (leaf : ℕ) (offline : Bool) where
  -- how far it came before it had an answer
  pub tried_stage : (n : ℕ) (a b : Locked R A G W) (u v : Uber A) → TriedOn rack area lane_last (LaneWent rack area) true owns count leaf offline n a u b v → HasCame rack area x a → Stage rack area x owns own count a b × (v ≡ u)
  tried_stage zero a b u v (at, same) came = (Begins (subst (λ s. Fresh rack area x owns own count a s) (sym at) (fresh_none rack area x owns own count a came)), same)
  tried_stage (suc n) a b u v (mid, w, front, tries) came =
      let f = tried_stage n a mid u w front came in
      let d = waits_more rack area x owns own count a mid b w v f.0 tries in
      (Waits d.0, d.1 ∙ f.1)

  -- ---- behind it

  -- the first metaslab is looked at
  pub seen_said : (there : Bool) (a b : Locked R A G W) → Once rack area x owns (SeesLeaf leaf there) a 0 b → HasCame rack area x a → Says rack area x a b [] (IsOneOf IsLookOnly)
  seen_said there a b h came = said_one rack area x owns (SeesLeaf leaf there) IsLookOnly a 0 b h came (λ pieces y is. same_looks rack area (part_in x 0) pieces h.before h.after y is h.did.same) looks_end

  pub rest_went : (a seen late b : Locked R A G W) → Once rack area x owns (SeesLeaf leaf true) a 0 seen → ReservesEach rack area lane_last (LaneWent rack area) true owns count seen (Ok tt) late
      → SwitchesEach rack area lane_last (LaneWent rack area) true owns count leaf offline late b → HasCame rack area x a → Says rack area x a b [] (RestBut x (switch_event leaf offline) Went)
  rest_went a seen late b look reserves switches came =
      let e = switch_event leaf offline in
      let one = seen_said true a seen look came in
      let P = λ (m : ℕ) (hold : Hold) (n : ℕ). arms.Reserves x.geometry x.perms (arms.one_event x.geometry x.perms) m hold 0 in
      let Q = λ (m : ℕ) (hold : Hold) (n : ℕ). arms.Happens x.geometry x.perms e m hold in
      let first = round_said rack area x owns (λ n before after. ReservesOne rack before (Ok tt) after) P (tells_reserve rack area x) (λ n m v key w is. is) count 0 seen late reserves one.came in
      let second = round_said rack area x owns (λ n before after. Switches rack leaf offline before after) Q (tells_switch rack area x leaf offline) (λ n m v key w is. switch_ends leaf offline key is.1) count 0 late b switches first.came in
      said_on rack area x a seen b [] [] (IsOneOf IsLookOnly) (RestBut x e Went) (RestBut x e Went) one
      (said_on rack area x seen late b [] [] (λ hs. Walked P 0 count hs 0) (λ hs. Walked Q 0 count hs 0) (RestBut x e Went) first second
      (λ hs ks w v. record {
        left = hs ++ ks;
        leaves = leaves_self (hs ++ ks);
        does = inl (
          hs,
          ks,
          refl,
          subst (λ n. phases.Walk (arms.Reserves x.geometry x.perms (arms.one_event x.geometry x.perms)) (arms.ReserveStops x.geometry x.perms (arms.one_event x.geometry x.perms)) 0 n hs Went 0) all
              (walk_went (arms.Reserves x.geometry x.perms (arms.one_event x.geometry x.perms)) (arms.ReserveStops x.geometry x.perms (arms.one_event x.geometry x.perms)) 0 count hs 0
              (walked_zero (λ m hold. arms.Reserves x.geometry x.perms (arms.one_event x.geometry x.perms) m hold 0) 0 count hs 0 (arms.Reserves x.geometry x.perms (arms.one_event x.geometry x.perms)) (λ m hold is. is) w)),
          (subst (λ n. phases.Each (arms.Happens x.geometry x.perms e) 0 n ks) all (each_of (arms.Happens x.geometry x.perms e) 0 count ks 0 v), refl),
        );
      }))
      (λ hs ks o d. record { left = d.left; leaves = look_front hs ks d.left o d.leaves; does = d.does })

  -- no event could be reserved in one of them
  pub rest_short : (a seen b : Locked R A G W) (short : ReserveFault) → Once rack area x owns (SeesLeaf leaf true) a 0 seen → ReservesEach rack area lane_last (LaneWent rack area) true owns count seen (Err short) b → HasCame rack area x a
      → Says rack area x a b [] (RestBut x (switch_event leaf offline) (end_of_reserving (Err short)))
  rest_short a seen b short look stop came =
      let e = switch_event leaf offline in
      let end = end_of_reserving (Err short) in
      let one = seen_said true a seen look came in
      let P = λ (m : ℕ) (hold : Hold) (n : ℕ). arms.Reserves x.geometry x.perms (arms.one_event x.geometry x.perms) m hold 0 in
      let S = λ (hold : Hold). arms.ReserveStops x.geometry x.perms (arms.one_event x.geometry x.perms) stop.place hold end in
      let first = round_said rack area x owns (λ n before after. ReservesOne rack before (Ok tt) after) P (tells_reserve rack area x) (λ n m v key w is. is) stop.place stop.sum seen stop.mid stop.front one.came in
      let last = said_one rack area x owns (λ before after. ReservesOne rack before (Err short) after) S stop.mid stop.place b stop.stop first.came (tells_short rack area x short stop.place stop.stop.before stop.stop.after stop.stop.did) (λ v key w is. short_ends x short stop.place v key w is) in
      said_on rack area x a seen b [] [] (IsOneOf IsLookOnly) (RestBut x e end) (RestBut x e end) one
      (said_on rack area x seen stop.mid b [] [] (λ hs. Walked P 0 stop.place hs stop.sum) (IsOneOf S) (RestBut x e end) first last
      (λ hs ks w o. record {
        left = hs ++ ks;
        leaves = leaves_self (hs ++ ks);
        does = inr (
          not_through short,
          subst (λ l. arms.ReservePhase x.geometry x.perms (arms.one_event x.geometry x.perms) (hs ++ l) end) (sym o.are)
              (walk_stops (arms.Reserves x.geometry x.perms (arms.one_event x.geometry x.perms)) (arms.ReserveStops x.geometry x.perms (arms.one_event x.geometry x.perms)) 0 stop.place x.geometry.props.metaslabs hs 0 o.hold end (let below = stop.below in subst (λ n. stop.place < n) all below)
              (walked_zero (λ m hold. arms.Reserves x.geometry x.perms (arms.one_event x.geometry x.perms) m hold 0) 0 stop.place hs stop.sum (arms.Reserves x.geometry x.perms (arms.one_event x.geometry x.perms)) (λ m hold is. is) w) (not_through short)
              (subst (λ m. arms.ReserveStops x.geometry x.perms (arms.one_event x.geometry x.perms) m o.hold end) (let same : stop.place ≡ 0 + stop.place = omega arith in same) o.is)),
        );
      }))
      (λ hs ks o d. record { left = d.left; leaves = look_front hs ks d.left o d.leaves; does = d.does })
