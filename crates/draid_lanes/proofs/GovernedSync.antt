-- A sync of a governor's, whatever state of the whole pool stood as its turn began.
use Rattle.std.proofs.Common.{◌≡◌, ◌<◌, ◌+◌, ◌++◌, ◌∷◌, ◌∙◌, [], inl, inr, ℕ, zero, suc, Bool, true, List, Option, Some, None, Ok, Err, arith, refl, sym, ap, subst, length}
use Rattle.std.specs.Prelude.{Result}
use Rattle.draid_rack.specs.declared.Rack as racks
use Rattle.draid_area.specs.declared.Area as areas
use Rattle.draid_session.specs.Holds.{Hold}
use Rattle.draid_session.specs.State.{State}
use Rattle.draid_shard.specs.declared.shard.Shard.{Shard}
use Rattle.draid_uber.specs.Slots.{group_of}
use Rattle.draid_uber.specs.Uber as ubers
use Rattle.draid_uber.specs.declared.uber.Uber.{Uber}
use Rattle.draid_pool.specs.Drifts.{groups_number}
use Rattle.draid_pool.specs.GoingOn.{BeginsIn, GoesOnIn, SealsFrom, SealsUntil}
use Rattle.draid_pool.specs.Grouping.{ClosesEach, ClosesIn, ClosesNext, CommitsIn, CommitsNext, FindsClosing, FinishesIn, SealsBy, SealsEach, SeesClosing, WaitsForWrites}
use Rattle.draid_pool.specs.Importable.{Shared}
use Rattle.draid_pool.specs.Rounds.{EachIs, NoneBeyond}
use Rattle.draid_pool.specs.declared.fault.SyncFault.{SyncFault}
use Rattle.draid_pool.specs.declared.fault.Synced.{Synced}
use Rattle.draid_pool.specs.declared.fault.Syncing.{Syncing}
use Rattle.draid_pool.proofs.GroupKeeps.{sealed_commits}
use Rattle.draid_pool.proofs.Steps.{follows_on}
use Rattle.draid_pool.proofs.SyncWhole.{begin_ready, find_ready}
use Rattle.draid_lanes.specs.Governing.{lane_last}
use Rattle.draid_lanes.specs.Waits.{BegunOn, LaneWent, SyncsThrough, WaitsOn}
use Rattle.draid_lanes.specs.declared.locked.Locked.{Locked}
use Rattle.draid_lanes.proofs.FinishWords.{commit_holds, finish_holds}
use Rattle.draid_lanes.proofs.GovernedGroup.{Governs, LeadsUber, governs_on, leads_self, named_governs, not_named_governs, uber_sees}
use Rattle.draid_lanes.proofs.GovernedHolds.{IsGood, Knowing, QuietAt, quiet_closes, quiet_each, quiet_from, quiet_knows, quiet_seals, quiet_sees, quiet_stop, quiet_waits}
use Rattle.draid_lanes.proofs.OneTurn.{HasCame}
use Rattle.draid_lanes.proofs.SealWords.{CloseOne, SealOne, Sealing, closed_all, each_is}
use Rattle.draid_lanes.proofs.SyncWords.{from_on, go_holds, look_hold, stop_holds, through_holds, waits_stage}

module _ {R A G W : Type 0} (rack : racks.Ghosts R) (area : areas.Ghosts A) (x z : State) (owns : ℕ → Bool) (own : owns groups_number ≡ true) (count : ℕ) (all : count ≡ x.geometry.props.metaslabs) (some : 0 < count) (many : length z.metaslabs ≡ count) where
  abbrev Gov : Locked R A G W → Uber A → State → Type 0
  Gov a u w = Governs rack area x z a u w

  abbrev Leads : State → List Hold → Locked R A G W → Uber A → Type 0
  Leads w us b v = LeadsUber rack area x z w us b v

  -- one after another
  pub leads_then : (w : State) (us vs : List Hold) (b c : Locked R A G W) (u v : Uber A) → (one : Leads w us b u) → Leads one.reached vs c v → Leads w (us ++ vs) c v
  leads_then w us vs b c u v one two = record { reached = two.reached; follows = follows_on us vs w one.reached two.reached one.follows two.follows; governs = two.governs }

  -- ---- what leaves it quietly

  abbrev Kept : Locked R A G W → Locked R A G W → Type 0
  Kept a b = (w : State) (shared : Shared) → Knowing rack area x a (IsGood z w shared) → Knowing rack area x b (IsGood z w shared)

  pub kept_on : (a b : Locked R A G W) (u v : Uber A) (w : State) → v ≡ u → Kept a b → Gov a u w → Gov b v w
  kept_on a b u v w same kept g = governs_on rack area x z a b u v w same (kept w) g

  closes_kept : (group : ℕ) (a b : Locked R A G W) (result : Result Unit SyncFault) → ClosesEach rack area lane_last (LaneWent rack area) true owns group count a result b → Kept a b
  closes_kept group a b (Ok done) each w shared knows = quiet_each rack area x owns own z w shared (CloseOne rack area group) (λ n m before after c. quiet_closes rack area x group (Ok tt) m before after c) count 0 a b each knows
  closes_kept group a b (Err why) s w shared knows =
      quiet_stop rack area x owns own z w shared (CloseOne rack area group) (λ n m before after c. quiet_closes rack area x group (Ok tt) m before after c) (λ before after. ClosesIn rack area group before (Err why) after)
      (λ m before after c. quiet_closes rack area x group (Err why) m before after c) count a b s knows

  seals_kept : (group : ℕ) (a b : Locked R A G W) (out : Option (Result ℕ SyncFault)) → SealsEach rack area lane_last (LaneWent rack area) true owns group count a out b → Kept a b
  seals_kept group a b (Some (Ok thin)) each w shared knows = quiet_each rack area x owns own z w shared (SealOne rack area group) (λ n m before after s. quiet_seals rack area x group (Ok n) m before after s) count thin a b each knows
  seals_kept group a b (Some (Err why)) s w shared knows =
      quiet_stop rack area x owns own z w shared (SealOne rack area group) (λ n m before after s. quiet_seals rack area x group (Ok n) m before after s) (λ before after. SealsBy rack area group before (Err why) after)
      (λ m before after s. quiet_seals rack area x group (Err why) m before after s) count a b s knows
  seals_kept group a b None s w shared knows =
      quiet_stop rack area x owns own z w shared (SealOne rack area group) (λ n m before after s. quiet_seals rack area x group (Ok n) m before after s) (λ before after. WaitsForWrites group before after)
      (λ m before after s. quiet_waits rack area x group m before after s) count a b s knows

  finds_kept : (found : Option ℕ) (a b : Locked R A G W) → FindsClosing rack area lane_last (LaneWent rack area) true owns count a found b → Kept a b
  finds_kept None a b each w shared knows = quiet_each rack area x owns own z w shared (λ n before after. SeesClosing None before after) (λ n m before after s. quiet_sees rack area x None m before after s) count 0 a b each knows
  finds_kept (Some group) a b s w shared knows =
      quiet_stop rack area x owns own z w shared (λ n before after. SeesClosing None before after) (λ n m before after s. quiet_sees rack area x None m before after s) (λ before after. SeesClosing (Some group) before after)
      (λ m before after s. quiet_sees rack area x (Some group) m before after s) count a b s knows

  kept_then : (a b c : Locked R A G W) → Kept a b → Kept b c → Kept a c
  kept_then a b c one two w shared knows = two w shared (one w shared knows)

  -- where it was sealed in all
  sealed_each : (group thin : ℕ) (a b : Locked R A G W) → SealsEach rack area lane_last (LaneWent rack area) true owns group count a (Some (Ok thin)) b → EachIs count (CommitsNext rack group) (lane_last b)
  sealed_each group thin a b each = each_is rack area x owns own count (CommitsNext rack group) (SealOne rack area group) (λ n before after s. sealed_commits rack area group n before after s) count thin a b each

  -- ---- a group

  commits_lead : (group : ℕ) (a b : Locked R A G W) (u v : Uber A) (result : Result ℕ SyncFault) (w : State) → group ≡ group_of (ubers.kept_of u) + 1 → (it : CommitsIn rack area lane_last (LaneWent rack area) true owns group count a u (Some result) b v) → Gov a u w
      → Leads w (commit_holds rack area x owns own count all group a b u v (Some result) it) b v
  commits_lead group a b u v (Ok thin) w next (mid, late, closes, seals, names, commits) g =
      named_governs rack area x z owns own count many group late b 0 u v w next names commits (kept_on a late u u w refl (kept_then a mid late (closes_kept group a mid (Ok tt) closes) (seals_kept group mid late (Some (Ok thin)) seals)) g)
  commits_lead group a b u v (Err why) w next (inl (closes, same)) g = leads_self rack area x z w b v (kept_on a b u v w same (closes_kept group a b (Err why) closes) g)
  commits_lead group a b u v (Err why) w next (inr (inl (mid, closes, seals, same))) g =
      leads_self rack area x z w b v (kept_on a b u v w same (kept_then a mid b (closes_kept group a mid (Ok tt) closes) (seals_kept group mid b (Some (Err why)) seals)) g)
  commits_lead group a b u v (Err why) w next (inr (inr (mid, thin, closes, seals, names))) g =
      not_named_governs rack area x z owns own count many group b u v why w next names (sealed_each group thin mid b seals) (kept_on a b u u w refl (kept_then a mid b (closes_kept group a mid (Ok tt) closes) (seals_kept group mid b (Some (Ok thin)) seals)) g)

  commits_wait : (group : ℕ) (a b : Locked R A G W) (u v : Uber A) (w : State) → CommitsIn rack area lane_last (LaneWent rack area) true owns group count a u None b v → Gov a u w → Gov b v w
  commits_wait group a b u v w (mid, closes, seals, same) g = kept_on a b u v w same (kept_then a mid b (closes_kept group a mid (Ok tt) closes) (seals_kept group mid b None seals)) g

  -- ---- what was closing is finished

  abbrev Ready : Locked R A G W → Uber A → Type 0
  Ready a u = EachIs count (ClosesNext rack (group_of (ubers.kept_of u) + 1)) (lane_last a)

  finish_waits : (a b : Locked R A G W) (u v : Uber A) (w : State) → FinishesIn rack area lane_last (LaneWent rack area) true owns count a u None b v → Gov a u w → Gov b v w
  finish_waits a b u v w (group, mid, finds, commits) g = commits_wait group mid b u v w commits (kept_on a mid u u w refl (finds_kept (Some group) a mid finds) g)

  module _ (a : Locked R A G W) (u : Uber A) (ready : Ready a u) (beyond : NoneBeyond count (lane_last a)) where
    found_next : (group : ℕ) (b : Locked R A G W) → FindsClosing rack area lane_last (LaneWent rack area) true owns count a (Some group) b → group ≡ group_of (ubers.kept_of u) + 1
    found_next group b finds = (find_ready rack area lane_last (LaneWent rack area) true owns own count a b u u ready beyond group finds).1

    pub finish_lead : (b : Locked R A G W) (v : Uber A) (result : Result Unit SyncFault) (w : State) → (it : FinishesIn rack area lane_last (LaneWent rack area) true owns count a u (Some result) b v) → Gov a u w
        → Leads w (finish_holds rack area x owns own count all a b u v (Some result) it) b v
    finish_lead b v (Ok done) w (inl (finds, same)) g = leads_self rack area x z w b v (kept_on a b u v w same (finds_kept None a b finds) g)
    finish_lead b v (Ok done) w (inr (group, thin, mid, finds, commits)) g = commits_lead group mid b u v (Ok thin) w (found_next group mid finds) commits (kept_on a mid u u w refl (finds_kept (Some group) a mid finds) g)
    finish_lead b v (Err why) w (group, mid, finds, commits) g = commits_lead group mid b u v (Err why) w (found_next group mid finds) commits (kept_on a mid u u w refl (finds_kept (Some group) a mid finds) g)

  -- what is known of a governor's metaslabs
  pub record IsAt (a : Locked R A G W) (u : Uber A) (w : State) : Type 0 where
    pub ready : Ready a u
    pub beyond : NoneBeyond count (lane_last a)
    pub governs : Gov a u w

  pub begun_at : (n : ℕ) (a b : Locked R A G W) (u v : Uber A) (w : State) → BegunOn rack area lane_last (LaneWent rack area) true owns count n a u b v → IsAt a u w → IsAt b v w
  begun_at zero a b u v w (at, same) g = subst (λ s. IsAt s v w) (sym at) (subst (λ t. IsAt a t w) (sym same) g)
  begun_at (suc n) a b u v w (mid, t, front, begins) g =
      let f = begun_at n a mid u t w front g in
      let r = begin_ready rack area lane_last (LaneWent rack area) true owns own count mid b t v f.ready f.beyond None begins in
      record { ready = r.0; beyond = r.1; governs = finish_waits mid b t v w begins f.governs }

  -- ---- the uberblock is looked at

  pub look_lead : (w : State) (b : Locked R A G W) (v : Uber A) → Gov b v w → Leads w (look_hold v ∷ []) b v
  look_lead w b v g = record { reached = w; follows = (w, record { sees = uber_sees area v w g.uber; acts = refl }, refl); governs = g }

  stop_lead : (a b : Locked R A G W) (u v : Uber A) (why : SyncFault) (w : State) → (it : BeginsIn rack area lane_last (LaneWent rack area) true owns count a u (Some (Err why)) b v) → IsAt a u w
      → Leads w (stop_holds rack area x owns own count all some a b u v why it) b v
  stop_lead a b u v why w (inl finishes) g = finish_lead a u g.ready g.beyond b v (Err why) w finishes g.governs
  stop_lead a b u v why w (inr it) g =
      let f = finish_lead a u g.ready g.beyond it.0 v (Ok tt) w it.1 g.governs in
      let l = look_lead f.reached it.0 v f.governs in
      leads_then w (finish_holds rack area x owns own count all a it.0 u v (Some (Ok tt)) it.1) (look_hold v ∷ []) it.0 b v v f
      (record { reached = l.reached; follows = l.follows; governs = kept_on it.0 b v v l.reached refl (closes_kept (group_of (ubers.kept_of v) + 1) it.0 b (Err why) it.2) l.governs })

  -- ---- it goes on

  from_kept : (a b : Locked R A G W) (old new : Syncing) → SealsFrom rack area lane_last (LaneWent rack area) true owns a old b new → Kept a b
  from_kept a b old new s w shared knows = quiet_from rack area x owns own z w shared (SealOne rack area old.group) (λ n m before after t. quiet_seals rack area x old.group (Ok n) m before after t) old.next s.held s.sum a b s.each knows

  until_kept : (stops : Shard R A → Shard R A → Type 0) (a b : Locked R A G W) (old new : Syncing) → ((m : ℕ) (before after : Shard R A) → stops before after → QuietAt rack area x m before after) → SealsUntil rack area lane_last (LaneWent rack area) true owns stops count a old b new → Kept a b
  until_kept stops a b old new so s w shared knows =
      quiet_knows rack area x owns own z w shared stops s.mid new.next b s.stop (so new.next s.stop.before s.stop.after s.stop.did) (from_kept a s.mid old new s.front w shared knows)

  go_on : (a b : Locked R A G W) (old new : Syncing) (u v : Uber A) (w : State) → GoesOnIn rack area lane_last (LaneWent rack area) true owns count a old u None b new v → Gov a u w → Gov b v w
  go_on a b old new u v w (until, same) g =
      kept_on a b u v w same (until_kept (λ before after. WaitsForWrites old.group before after) a b old new (λ m before after s. quiet_waits rack area x old.group m before after s) until) g

  waits_at : (n : ℕ) (a b : Locked R A G W) (old new : Syncing) (u v : Uber A) (w : State) → WaitsOn rack area lane_last (LaneWent rack area) true owns count n a old u b new v → Gov a u w → Gov b v w
  waits_at zero a b old new u v w (at, now, same) g = subst (λ s. Gov s v w) (sym at) (subst (λ t. Gov a t w) (sym same) g)
  waits_at (suc n) a b old new u v w (mid, now, t, front, goes) g = go_on mid b now new t v w goes (waits_at n a mid old now u t w front g)

  go_lead : (from a b : Locked R A G W) (old new : Syncing) (u v : Uber A) (result : Result Synced SyncFault) (w : State) → old.group ≡ group_of (ubers.kept_of u) + 1 → Sealing rack area x owns own count old.group from a old.next old.thin
      → (it : GoesOnIn rack area lane_last (LaneWent rack area) true owns count a old u (Some result) b new v) → Gov a u w → Leads w (go_holds rack area x owns own count all some a b old new u v (Some result) it) b v
  go_lead from a b old new u v (Ok done) w next s (late, seals, group_is, thin_is, names, commits) g =
      named_governs rack area x z owns own count many old.group late b 0 u v w next names commits (kept_on a late u u w refl (from_kept a late old new seals.0) g)
  go_lead from a b old new u v (Err why) w next s (inl (until, same)) g =
      leads_self rack area x z w b v (kept_on a b u v w same (until_kept (λ before after. SealsBy rack area old.group before (Err why) after) a b old new (λ m before after t. quiet_seals rack area x old.group (Err why) m before after t) until) g)
  go_lead from a b old new u v (Err why) w next s (inr (seals, names)) g =
      let full = seals.1 in
      let sealed = from_on rack area x owns own count all some old.group from a b old new refl (omega (arith, full)) s seals.0 in
      not_named_governs rack area x z owns own count many old.group b u v why w next names (subst (λ k. EachIs k (CommitsNext rack old.group) (lane_last b)) full sealed.sealed) (kept_on a b u u w refl (from_kept a b old new seals.0) g)

  -- ---- all of it

  came_of : (a : Locked R A G W) (u : Uber A) (w : State) → Gov a u w → HasCame rack area x a
  came_of a u w g m shard at = (let k = g.knows m shard at in (k.0, k.1))

  pub through_lead : (a b : Locked R A G W) (u v : Uber A) (result : Result Synced SyncFault) (w : State) → Ready a u → NoneBeyond count (lane_last a) → (it : SyncsThrough rack area lane_last (LaneWent rack area) true owns count a u result b v) → Gov a u w
      → Leads w (through_holds rack area x owns own count all some a b u v result it) b v
  through_lead a b u v result w ready beyond (inl (mid, begun, t, begins, goes)) g =
      let st = begun_at begins.waits a begins.mid u begins.w w begins.front (record { ready = ready; beyond = beyond; governs = g }) in
      let it = begins.begins in
      let first = it.2 in
      let f = finish_lead begins.mid begins.w st.ready st.beyond it.0 t (Ok tt) w it.1 st.governs in
      let l = look_lead f.reached it.0 t f.governs in
      let closed = closed_all rack area x owns own count begun.group it.0 mid 0 it.3 (came_of it.0 t l.reached l.governs) in
      let from = subst (λ k. Sealing rack area x owns own count begun.group it.0 mid k begun.thin) (sym first.next) (subst (Sealing rack area x owns own count begun.group it.0 mid 0) (sym first.thin) closed) in
      let on = waits_stage rack area x owns own count all some begun.group goes.waits it.0 mid goes.mid begun goes.now t goes.w refl from goes.front in
      let next : goes.now.group ≡ group_of (ubers.kept_of t) + 1 = on.1 ∙ first.group_is in
      let at = waits_at goes.waits mid goes.mid begun goes.now t goes.w l.reached goes.front (kept_on it.0 mid t t l.reached refl (closes_kept begun.group it.0 mid (Ok tt) it.3) l.governs) in
      let last = go_lead it.0 goes.mid b goes.now goes.new goes.w v result l.reached (next ∙ ap (λ k. group_of (ubers.kept_of k) + 1) (sym on.2)) (subst (λ k. Sealing rack area x owns own count k it.0 goes.mid goes.now.next goes.now.thin) (sym on.1) on.0) goes.goes at in
      leads_then w (finish_holds rack area x owns own count all begins.mid it.0 begins.w t (Some (Ok tt)) it.1) (look_hold t ∷ go_holds rack area x owns own count all some goes.mid b goes.now goes.new goes.w v (Some result) goes.goes) it.0 b t v f
      (leads_then f.reached (look_hold t ∷ []) (go_holds rack area x owns own count all some goes.mid b goes.now goes.new goes.w v (Some result) goes.goes) it.0 b t v l last)
  through_lead a b u v result w ready beyond (inr (why, is, begins)) g =
      let st = begun_at begins.waits a begins.mid u begins.w w begins.front (record { ready = ready; beyond = beyond; governs = g }) in
      stop_lead begins.mid b begins.w v why w begins.begins st
