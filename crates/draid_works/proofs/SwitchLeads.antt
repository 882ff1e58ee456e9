-- A leaf that goes offline in a lane or comes back, whatever state of the whole pool stood as the uberblock was taken.
use Rattle.std.proofs.Common.{◌≡◌, ◌<◌, ◌≤◌, ◌+◌, ◌++◌, ◌∷◌, ◌∙◌, [], inl, inr, ℕ, zero, suc, Bool, true, false, List, Option, Some, None, Ok, Err, arith, refl, sym, ap, subst, length}
use Rattle.std.specs.Prelude.{Result}
use Rattle.draid_rack.specs.declared.Rack as racks
use Rattle.draid_area.specs.declared.Area as areas
use Rattle.draid_session.specs.Holds.{Hold}
use Rattle.draid_session.specs.State.{State}
use Rattle.draid_shard.specs.declared.shard.Shard.{Shard}
use Rattle.draid_uber.specs.Slots.{group_of}
use Rattle.draid_uber.specs.Uber as ubers
use Rattle.draid_uber.specs.declared.uber.Uber.{Uber}
use Rattle.draid_pool.specs.Drifts.{groups_number}
use Rattle.draid_pool.specs.Grouping.{ClosesNext, FinishesIn}
use Rattle.draid_pool.specs.Rounds.{EachIs, NoneBeyond}
use Rattle.draid_changes.specs.Switching.{LeafIsIn, ReservesEach, ReservesOne, SeesLeaf, SwitchesEach, SwitchesIn}
use Rattle.draid_changes.specs.declared.fault.ArmFault.{ArmFault}
use Rattle.draid_lanes.specs.Governing.{lane_last}
use Rattle.draid_lanes.specs.Waits.{BegunOn, LaneWent}
use Rattle.draid_lanes.specs.declared.locked.Locked.{Locked}
use Rattle.draid_lanes.proofs.FinishWords.{finish_holds}
use Rattle.draid_lanes.proofs.GovernedGroup.{GovernsFrom, Governs, LeadsBase, LeadsUber, governs_on, leads_base}
use Rattle.draid_lanes.proofs.GovernedHolds.{quiet_each, quiet_knows, quiet_stop}
use Rattle.draid_lanes.proofs.GovernedSync.{IsAt, begun_at, finish_lead, leads_then, look_lead}
use Rattle.draid_lanes.proofs.OneTurn.{Once}
use Rattle.draid_lanes.proofs.Rebased.{come_agrees, come_governs, come_many, come_rest, come_state, finish_idle, idle_drifts, once_kept, round_kept}
use Rattle.draid_lanes.proofs.SyncWords.{look_hold}
use Rattle.draid_works.specs.Switched.{SwitchesThrough, TriedOn}
use Rattle.draid_works.proofs.SwitchGoverned.{Switched, quiet_reserves, quiet_seen, switched}
use Rattle.draid_works.proofs.SwitchSays.{switch_holds}

-- only the metaslabs are others
two_changed : (base come reached : State) → base ≡ record come { metaslabs = base.metaslabs } → come ≡ record reached { metaslabs = come.metaslabs } → base ≡ record reached { metaslabs = base.metaslabs }
two_changed base come reached one two = one ∙ ap (λ (s : State). record s { metaslabs = base.metaslabs }) two

reserve_idle : {R A : Type 0} (rack : racks.Ghosts R) (n : ℕ) (before after : Shard R A) → ReservesOne rack before (Ok tt) after → before.closing ≡ None → after.closing ≡ None
reserve_idle rack n before after r idle = r.keeps.groups.closing ∙ idle

module _ {R A G W : Type 0} (rack : racks.Ghosts R) (area : areas.Ghosts A) (x z : State) (owns : ℕ → Bool) (own : owns groups_number ≡ true) (count : ℕ) (all : count ≡ x.geometry.props.metaslabs) (some : 0 < count) (many : length z.metaslabs ≡ count) (leaf : ℕ) (offline : Bool) where
  -- how often it was tried is how often it began
  tried_begun : (n : ℕ) (a b : Locked R A G W) (u v : Uber A) → TriedOn rack area lane_last (LaneWent rack area) true owns count leaf offline n a u b v → BegunOn rack area lane_last (LaneWent rack area) true owns count n a u b v
  tried_begun zero a b u v it = it
  tried_begun (suc n) a b u v (mid, w, front, tries) = (mid, w, tried_begun n a mid u w front, tries)

  abbrev Leads : List Hold → Locked R A G W → Uber A → Type 0
  Leads us b v = LeadsBase rack area x z us b v

  abbrev LeadsTo : List Hold → Locked R A G W → Uber A → Type 0
  LeadsTo us b v = LeadsUber rack area x z z us b v

  -- a group that was closing is finished, and the uberblock is looked at
  begins_lead : (a b : Locked R A G W) (u v : Uber A) → IsAt rack area x z owns own count all some many a u z → (it : FinishesIn rack area lane_last (LaneWent rack area) true owns count a u (Some (Ok tt)) b v)
      → LeadsTo (finish_holds rack area x owns own count all a b u v (Some (Ok tt)) it ++ look_hold v ∷ []) b v
  begins_lead a b u v at it =
      let us = finish_holds rack area x owns own count all a b u v (Some (Ok tt)) it in
      let f = finish_lead rack area x z owns own count all some many a u at.ready at.beyond b v (Ok tt) z it at.governs in
      leads_then rack area x z owns own count all some many z us (look_hold v ∷ []) b b v v f (look_lead rack area x z owns own count all some many f.reached b v f.governs)

  abbrev Looked : Bool → Locked R A G W → Locked R A G W → Type 0
  Looked there a b = Once rack area x owns (SeesLeaf leaf there) a 0 b

  -- it goes so in all
  module _ (us : List Hold) (a mid late b : Locked R A G W) (v : Uber A) (t : LeadsTo us a v) (idle : EachIs count (λ (s : Shard R A). s.closing ≡ None) (lane_last a)) (look : Looked true a mid) (reserves : ReservesEach rack area lane_last (LaneWent rack area) true owns count mid (Ok tt) late)
      (switches : SwitchesEach rack area lane_last (LaneWent rack area) true owns count leaf offline late b) (left : LeafIsIn count leaf offline (Ok tt) (lane_last b)) where
    abbrev come : State
    come = come_state rack area x z a v t.reached t.governs count many (λ m less. (let s = idle m less in (s.0, s.1)))

    come_is : GovernsFrom rack area x come a v come
    come_is = come_governs rack area x z a v t.reached t.governs count many (λ m less. (let s = idle m less in (s.0, s.1)))

    late_is : GovernsFrom rack area x come late v come
    late_is = governs_on rack area x come a late v v come refl
        (λ shared knows.
        quiet_each rack area x owns own come come shared (λ n before after. ReservesOne rack before (Ok tt) after) (λ n m before after r. quiet_reserves rack area x (Ok tt) m before after r) count 0 mid late reserves
        (quiet_knows rack area x owns own come come shared (SeesLeaf leaf true) a 0 mid look (quiet_seen rack area x leaf true 0 look.before look.after look.did) knows)) come_is

    late_idle : EachIs count (λ (s : Shard R A). s.closing ≡ None) (lane_last late)
    late_idle =
        round_kept rack area x owns count (λ (s : Shard R A). s.closing ≡ None) (λ s before d none. idle_drifts rack area owns own s before d none) (λ n before after. ReservesOne rack before (Ok tt) after) (reserve_idle rack) count 0 mid late (let low : count ≤ count = omega arith in low) reserves
        (once_kept rack area x owns count (λ (s : Shard R A). s.closing ≡ None) (λ s before d none. idle_drifts rack area owns own s before d none) (SeesLeaf leaf true) (λ before after sees none. ap (λ (s : Shard R A). s.closing) sees.same ∙ none) a 0 mid some look idle)

    abbrev so : Switched rack area x come owns own count (come_many rack area x z a v t.reached t.governs count many (λ m less. (let s = idle m less in (s.0, s.1)))) leaf offline b v
    so = switched rack area x come owns own count (come_many rack area x z a v t.reached t.governs count many (λ m less. (let s = idle m less in (s.0, s.1)))) leaf offline late b v 0 switches late_idle late_is (λ m less. (let s = left m less in (s.0, s.1)))

    went_lead : Leads us b v
    went_lead = record {
      reached = t.reached;
      follows = t.follows;
      rest = t.governs.rest;
      base = so.base;
      many = so.many_base ∙ sym many;
      agrees = λ was. so.agrees (come_agrees rack area x z a v t.reached t.governs count many (λ m less. (let s = idle m less in (s.0, s.1))) was);
      governs = subst (λ w. GovernsFrom rack area x so.base b v w)
          (two_changed so.base come t.reached so.is (come_rest rack area x z a v t.reached t.governs count many (λ m less. (let s = idle m less in (s.0, s.1))))) so.governs;
    }

  abbrev Switches_in : Locked R A G W → Uber A → Option (Result Unit ArmFault) → Locked R A G W → Uber A → Type 0
  Switches_in a u out b v = SwitchesIn rack area lane_last (LaneWent rack area) true owns count leaf offline a u out b v

  -- by the answer
  switch_leads : (a b : Locked R A G W) (u v : Uber A) (result : Result Unit ArmFault) → IsAt rack area x z owns own count all some many a u z → (it : Switches_in a u (Some result) b v) → LeafIsIn count leaf offline result (lane_last b)
      → Leads (switch_holds rack area x owns own count all some leaf offline a b u v result it) b v
  switch_leads a b u v (Ok done) at (fin, finishes, (mid, late, look, reserves, switches)) left =
      went_lead (finish_holds rack area x owns own count all a fin u v (Some (Ok tt)) finishes ++ look_hold v ∷ []) fin mid late b v (begins_lead a fin u v at finishes) (finish_idle rack area x owns own count a fin u v finishes) look reserves switches left
  switch_leads a b u v (Err why) at (inl (stop, finishes, is)) left =
      leads_base rack area x z (finish_holds rack area x owns own count all a b u v (Some (Err stop)) finishes) b v (finish_lead rack area x z owns own count all some many a u at.ready at.beyond b v (Err stop) z finishes at.governs)
  switch_leads a b u v (Err why) at (inr (fin, finishes, (inl (look, is)))) left =
      let t = begins_lead a fin u v at finishes in
      leads_base rack area x z (finish_holds rack area x owns own count all a fin u v (Some (Ok tt)) finishes ++ look_hold v ∷ []) b v (record {
        reached = t.reached;
        follows = t.follows;
        governs = governs_on rack area x z fin b v v t.reached refl
            (λ shared knows. quiet_knows rack area x owns own z t.reached shared (SeesLeaf leaf false) fin 0 b look (quiet_seen rack area x leaf false 0 look.before look.after look.did) knows) t.governs;
      })
  switch_leads a b u v (Err why) at (inr (fin, finishes, (inr (mid, short, look, stops, is)))) left =
      let t = begins_lead a fin u v at finishes in
      leads_base rack area x z (finish_holds rack area x owns own count all a fin u v (Some (Ok tt)) finishes ++ look_hold v ∷ []) b v (record {
        reached = t.reached;
        follows = t.follows;
        governs = governs_on rack area x z fin b v v t.reached refl
            (λ shared knows.
            quiet_stop rack area x owns own z t.reached shared (λ n before after. ReservesOne rack before (Ok tt) after) (λ n m before after r. quiet_reserves rack area x (Ok tt) m before after r) (λ before after. ReservesOne rack before (Err short) after)
            (λ m before after r. quiet_reserves rack area x (Err short) m before after r) count mid b stops
            (quiet_knows rack area x owns own z t.reached shared (SeesLeaf leaf true) fin 0 mid look (quiet_seen rack area x leaf true 0 look.before look.after look.did) knows)) t.governs;
      })

  -- however often it was tried
  pub switches_lead : (a b : Locked R A G W) (u v : Uber A) (result : Result Unit ArmFault) → EachIs count (ClosesNext rack (group_of (ubers.kept_of u) + 1)) (lane_last a) → NoneBeyond count (lane_last a)
      → (it : SwitchesThrough rack area lane_last (LaneWent rack area) true owns count leaf offline a u result b v) → LeafIsIn count leaf offline result (lane_last b) → Governs rack area x z a u z
      → Leads (switch_holds rack area x owns own count all some leaf offline it.mid b it.w v result it.switches) b v
  switches_lead a b u v result ready beyond it left g =
      switch_leads it.mid b it.w v result (begun_at rack area x z owns own count all some many it.waits a it.mid u it.w z (tried_begun it.waits a it.mid u it.w it.front) (record { ready = ready; beyond = beyond; governs = g })) it.switches left
