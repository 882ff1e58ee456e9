-- A lane's sync in the session's words, however often it waits.
use Rattle.std.proofs.Common.{◌≡◌, ◌<◌, ◌≤◌, ◌+◌, ◌++◌, ◌∷◌, ◌∙◌, ◌⊎◌, [], inl, inr, ℕ, zero, suc, Bool, true, List, Option, Some, None, Ok, Err, arith, refl, sym, ap, subst}
use Rattle.std.specs.Prelude.{Result}
use Rattle.draid_rack.specs.declared.Rack as racks
use Rattle.draid_area.specs.declared.Area as areas
use Rattle.draid_session.specs.Holds.{Hold, LookedUber, OnUber, UberView}
use Rattle.draid_session.specs.Phases.{End, Went}
use Rattle.draid_session.specs.State.{State}
use Rattle.draid_uber.specs.Slots.{group_of}
use Rattle.draid_uber.specs.Uber as ubers
use Rattle.draid_uber.specs.declared.uber.Uber.{Uber}
use Rattle.draid_pool.specs.Drifts.{groups_number}
use Rattle.draid_pool.specs.GoingOn.{BeginsIn, GoesOnIn, SealsFrom}
use Rattle.draid_pool.specs.Grouping.{ClosesNext, SealsBy, WaitsForWrites}
use Rattle.draid_pool.specs.Rounds.{EachIs, HeldFrom, HeldOnce}
use Rattle.draid_pool.specs.Syncing.{end_of}
use Rattle.draid_pool.specs.declared.fault.SyncFault.{SyncFault}
use Rattle.draid_pool.specs.declared.fault.Synced.{Synced}
use Rattle.draid_pool.specs.declared.fault.Syncing.{Syncing}
use Rattle.draid_pool.proofs.SyncCalls.{end_same}
use Rattle.draid_lanes.specs.Governing.{lane_last}
use Rattle.draid_lanes.specs.Waits.{BegunOn, LaneWent, SyncsThrough, WaitsOn}
use Rattle.draid_lanes.specs.declared.locked.Locked.{Locked}
use Rattle.draid_lanes.proofs.FinishWords.{FinishSays, Fresh, Stage, finish_holds, finish_said, fresh_none, waits_more}
use Rattle.draid_lanes.proofs.FinishWords.Stage.{Begins, Waits}
use Rattle.draid_lanes.proofs.GroupWords.{GroupBut, group_refused, group_unclosed, group_unsealed, group_went, name_hold, uber_view}
use Rattle.draid_lanes.proofs.OneTurn.{HasCame}
use Rattle.draid_lanes.proofs.RoundWords.{Says, said_as, said_on, said_uber}
use Rattle.draid_lanes.proofs.SealWords.{Sealing, closed_all, seals_from, waits_on}

-- the hold in which the uberblock is looked at
abbrev pub look_hold : {A : Type 0} → Uber A → Hold
look_hold u = OnUber (uber_view u) LookedUber

-- but for looks, the group behind the committed one
pub record NextBut (x : State) (group thin : ℕ) (end : End) (hs : List Hold) : Type 0 where
  pub u : UberView
  pub rest : List Hold
  pub are : hs ≡ OnUber u LookedUber ∷ rest
  pub next : group ≡ u.committed + 1
  pub but_it : GroupBut x group thin end rest

-- what is said of the group
abbrev pub GoSays : State → ℕ → Result Synced SyncFault → List Hold → Type 0
GoSays x group (Ok done) hs = (done.group ≡ group) × GroupBut x group done.thin Went hs
GoSays x group (Err why) hs = (thin : ℕ) × GroupBut x group thin (end_of {T = ℕ} (Err why)) hs

next_is : {A : Type 0} (x : State) (w : Uber A) (group thin : ℕ) (end : End) (ks : List Hold) → group ≡ group_of (ubers.kept_of w) + 1 → GroupBut x group thin end ks → NextBut x group thin end (look_hold w ∷ ks)
next_is x w group thin end ks next d = record { u = uber_view w; rest = ks; are = refl; next = next; but_it = d }

module _ {R A G W : Type 0} (rack : racks.Ghosts R) (area : areas.Ghosts A) (x : State) (owns : ℕ → Bool) (own : owns groups_number ≡ true) (count : ℕ) (all : count ≡ x.geometry.props.metaslabs) (some : 0 < count) where
  -- ---- how far it came before it began

  begun_stage : (n : ℕ) (a b : Locked R A G W) (u v : Uber A) → BegunOn rack area lane_last (LaneWent rack area) true owns count n a u b v → HasCame rack area x a → Stage rack area x owns own count a b × (v ≡ u)
  begun_stage zero a b u v (at, same) came = (Begins (subst (λ s. Fresh rack area x owns own count a s) (sym at) (fresh_none rack area x owns own count a came)), same)
  begun_stage (suc n) a b u v (mid, w, front, begins) came =
      let f = begun_stage n a mid u w front came in
      let d = waits_more rack area x owns own count a mid b w v f.0 begins in
      (Waits d.0, d.1 ∙ f.1)

  -- ---- and as it goes on

  abbrev Goes_on : Locked R A G W → Syncing → Uber A → Option (Result Synced SyncFault) → Locked R A G W → Syncing → Uber A → Type 0
  Goes_on a old u out b new v = GoesOnIn rack area lane_last (LaneWent rack area) true owns count a old u out b new v

  -- it is sealed in some more
  pub from_on : (group : ℕ) (a b c : Locked R A G W) (old new : Syncing) → old.group ≡ group → new.next ≤ count → Sealing rack area x owns own count group a b old.next old.thin
      → SealsFrom rack area lane_last (LaneWent rack area) true owns b old c new → Sealing rack area x owns own count group a c new.next new.thin
  from_on group a b c old new is low s f =
      let n = f.next in
      let each = subst (λ g. HeldFrom rack area lane_last (LaneWent rack area) true owns (λ thin before after. SealsBy rack area g before (Ok thin) after) old.next f.held b f.sum c) is f.each in
      subst (λ k. Sealing rack area x owns own count group a c k new.thin) (sym n)
      (subst (λ k. Sealing rack area x owns own count group a c (old.next + f.held) k) (sym f.thin) (seals_from rack area x owns own count group a b c old.next f.held old.thin f.sum (omega (arith, low, n)) s each))

  go_waits : (group : ℕ) (a b c : Locked R A G W) (old new : Syncing) (u v : Uber A) → old.group ≡ group → Sealing rack area x owns own count group a b old.next old.thin → Goes_on b old u None c new v
      → Sealing rack area x owns own count group a c new.next new.thin × (new.group ≡ group) × (v ≡ u)
  go_waits group a b c old new u v is s (until, same) =
      let below = until.below in
      let front = from_on group a b until.mid old new is (omega (arith, below)) s until.front in
      let stop = subst (λ g. HeldOnce rack area lane_last (LaneWent rack area) true owns (λ before after. WaitsForWrites g before after) until.mid new.next c) is until.stop in
      (waits_on rack area x owns own count group a until.mid c new.next new.thin new.next until.below front stop, until.front.group ∙ is, same)

  pub waits_stage : (group n : ℕ) (a b c : Locked R A G W) (old new : Syncing) (u v : Uber A) → old.group ≡ group → Sealing rack area x owns own count group a b old.next old.thin → WaitsOn rack area lane_last (LaneWent rack area) true owns count n b old u c new v
      → Sealing rack area x owns own count group a c new.next new.thin × (new.group ≡ group) × (v ≡ u)
  waits_stage group zero a b c old new u v is s (at, now, same) =
      (subst (λ d. Sealing rack area x owns own count group a d new.next new.thin) (sym at) (subst (λ k. Sealing rack area x owns own count group a b k.next k.thin) (sym now) s), ap (λ (k : Syncing). k.group) now ∙ is, same)
  waits_stage group (suc n) a b c old new u v is s (mid, now, w, front, goes) =
      let f = waits_stage group n a b mid old now u w is s front in
      let d = go_waits group a mid c now new w v f.1 f.0 goes in
      (d.0, d.1, d.2 ∙ f.2)

  abbrev pub go_holds : (a b : Locked R A G W) (old new : Syncing) (u v : Uber A) (out : Option (Result Synced SyncFault)) → Goes_on a old u out b new v → List Hold
  go_holds a b old new u v (Some (Ok done)) it = name_hold u old.group (Ok tt) ∷ []
  go_holds a b old new u v (Some (Err why)) (inl it) = []
  go_holds a b old new u v (Some (Err why)) (inr it) = name_hold u old.group (Err why) ∷ []
  go_holds a b old new u v None it = []

  go_err : (group thin : ℕ) (a c : Locked R A G W) (us : List Hold) (why : SyncFault) → Says rack area x a c us (GroupBut x group thin (end_of {T = ℕ} (Err why))) → Says rack area x a c us (GoSays x group (Err why))
  go_err group thin a c us why s = said_as rack area x a c us (GroupBut x group thin (end_of {T = ℕ} (Err why))) (GoSays x group (Err why)) s (λ hs d. (thin, d))

  go_unit : (group thin : ℕ) (a c : Locked R A G W) (us : List Hold) (why : SyncFault) → Says rack area x a c us (GroupBut x group thin (end_of {T = Unit} (Err why))) → Says rack area x a c us (GoSays x group (Err why))
  go_unit group thin a c us why s = go_err group thin a c us why (subst (λ end. Says rack area x a c us (GroupBut x group thin end)) (end_same why) s)

  go_end : (a b c : Locked R A G W) (old new : Syncing) (u v : Uber A) (result : Result Synced SyncFault) → old.group ≡ group_of (ubers.kept_of u) + 1 → Sealing rack area x owns own count old.group a b old.next old.thin
      → (it : Goes_on b old u (Some result) c new v) → Says rack area x a c (go_holds b c old new u v (Some result) it) (GoSays x old.group result)
  go_end a b c old new u v (Ok done) next s (late, seals, group_is, thin_is, names, commits) =
      let full = seals.1 in
      let sealed = subst (λ k. Sealing rack area x owns own count old.group a late k new.thin) full (from_on old.group a b late old new refl (omega (arith, full)) s seals.0) in
      said_as rack area x a c (name_hold u old.group (Ok tt) ∷ []) (GroupBut x old.group new.thin Went) (GoSays x old.group (Ok done)) (group_went rack area x owns own count all old.group a late c new.thin 0 u v next sealed names commits)
      (λ hs d. (group_is, subst (λ t. GroupBut x old.group t Went hs) (sym thin_is) d))
  go_end a b c old new u v (Err why) next s (inl (until, same)) =
      let below = until.below in
      go_err old.group 0 a c [] why (group_unsealed rack area x owns own count all old.group a until.mid c new.next new.thin why until.below (from_on old.group a b until.mid old new refl (omega (arith, below)) s until.front) until.stop)
  go_end a b c old new u v (Err why) next s (inr (seals, names)) =
      let full = seals.1 in
      let sealed = subst (λ k. Sealing rack area x owns own count old.group a c k new.thin) full (from_on old.group a b c old new refl (omega (arith, full)) s seals.0) in
      go_unit old.group new.thin a c (name_hold u old.group (Err why) ∷ []) why (group_refused rack area x owns own count all old.group a c new.thin why u v next sealed names)

  -- ---- all of it

  abbrev Begins_in : Locked R A G W → Uber A → Option (Result Syncing SyncFault) → Locked R A G W → Uber A → Type 0
  Begins_in a u out b v = BeginsIn rack area lane_last (LaneWent rack area) true owns count a u out b v

  abbrev pub stop_holds : (a b : Locked R A G W) (u v : Uber A) (why : SyncFault) → Begins_in a u (Some (Err why)) b v → List Hold
  stop_holds a b u v why (inl finishes) = finish_holds rack area x owns own count all a b u v (Some (Err why)) finishes
  stop_holds a b u v why (inr it) = finish_holds rack area x owns own count all a it.0 u v (Some (Ok tt)) it.1 ++ look_hold v ∷ []

  abbrev pub Through_in : Locked R A G W → Uber A → Result Synced SyncFault → Locked R A G W → Uber A → Type 0
  Through_in a u result b v = SyncsThrough rack area lane_last (LaneWent rack area) true owns count a u result b v

  abbrev pub through_holds : (a b : Locked R A G W) (u v : Uber A) (result : Result Synced SyncFault) → Through_in a u result b v → List Hold
  through_holds a b u v result (inl (mid, begun, w, begins, goes)) =
      finish_holds rack area x owns own count all begins.mid begins.begins.0 begins.w w (Some (Ok tt)) begins.begins.1 ++ look_hold w ∷ go_holds goes.mid b goes.now goes.new goes.w v (Some result) goes.goes
  through_holds a b u v result (inr (why, is, begins)) = stop_holds begins.mid b begins.w v why begins.begins

  -- what was closing is finished, and then comes the next group
  pub record BothSay (a : Locked R A G W) (group thin : ℕ) (end : End) (hs : List Hold) : Type 0 where
    pub front : List Hold
    pub back : List Hold
    pub are : hs ≡ front ++ back
    pub finishes : FinishSays rack area x owns own count all a (Ok tt) front
    pub next : NextBut x group thin end back

  abbrev pub SyncSays : Locked R A G W → Result Synced SyncFault → List Hold → Type 0
  SyncSays a (Ok done) hs = BothSay a done.group done.thin Went hs
  SyncSays a (Err why) hs = FinishSays rack area x owns own count all a (Err why) hs ⊎ ((group : ℕ) × (thin : ℕ) × BothSay a group thin (end_of {T = ℕ} (Err why)) hs)

  go_says : (a : Locked R A G W) (w : Uber A) (group : ℕ) (result : Result Synced SyncFault) → group ≡ group_of (ubers.kept_of w) + 1 → (hs ks : List Hold) → FinishSays rack area x owns own count all a (Ok tt) hs → GoSays x group result ks → SyncSays a result (hs ++ look_hold w ∷ ks)
  go_says a w group (Ok done) next hs ks f d = record {
    front = hs;
    back = look_hold w ∷ ks;
    are = refl;
    finishes = f;
    next = subst (λ g. NextBut x g done.thin Went (look_hold w ∷ ks)) (sym d.0) (next_is x w group done.thin Went ks next d.1);
  }
  go_says a w group (Err why) next hs ks f d = inr (
    group,
    d.0,
    record { front = hs; back = look_hold w ∷ ks; are = refl; finishes = f; next = next_is x w group d.0 (end_of {T = ℕ} (Err why)) ks next d.1 },
  )

  -- the look, and what is said of the group behind it
  looked_on : (a mid c : Locked R A G W) (fs gs : List Hold) (w : Uber A) (group : ℕ) (result : Result Synced SyncFault) → group ≡ group_of (ubers.kept_of w) + 1 → Says rack area x a mid fs (FinishSays rack area x owns own count all a (Ok tt)) → Says rack area x mid c gs (GoSays x group result)
      → Says rack area x a c (fs ++ look_hold w ∷ gs) (SyncSays a result)
  looked_on a mid c fs gs w group result next f g =
      said_on rack area x a mid c fs (look_hold w ∷ gs) (FinishSays rack area x owns own count all a (Ok tt)) (λ hs. (ks : List Hold) × (hs ≡ look_hold w ∷ ks) × GoSays x group result ks) (SyncSays a result) f
      (said_on rack area x mid mid c (look_hold w ∷ []) gs (λ hs. hs ≡ look_hold w ∷ []) (GoSays x group result) (λ hs. (ks : List Hold) × (hs ≡ look_hold w ∷ ks) × GoSays x group result ks) (said_uber rack area x mid (uber_view w) LookedUber f.came) g
      (λ hs ks is d. (ks, ap (λ l. l ++ ks) is, d)))
      (λ hs ks f z. subst (λ l. SyncSays a result (hs ++ l)) (sym z.1) (go_says a w group result next hs z.0 f z.2))

  abbrev Ready : Locked R A G W → Uber A → Type 0
  Ready a u = EachIs count (ClosesNext rack (group_of (ubers.kept_of u) + 1)) (lane_last a)

  -- it was stopped before it began
  stop_said : (a b c : Locked R A G W) (u v : Uber A) (why : SyncFault) → Ready a u → Stage rack area x owns own count a b → (it : Begins_in b u (Some (Err why)) c v) → Says rack area x a c (stop_holds b c u v why it) (SyncSays a (Err why))
  stop_said a b c u v why ready stage (inl finishes) =
      said_as rack area x a c (finish_holds rack area x owns own count all b c u v (Some (Err why)) finishes) (FinishSays rack area x owns own count all a (Err why)) (SyncSays a (Err why)) (finish_said rack area x owns own count all a b c u v (Err why) some ready stage finishes)
      (λ hs d. inl d)
  stop_said a b c u v why ready stage (inr it) =
      let stop = it.2 in
      let group = group_of (ubers.kept_of v) + 1 in
      let f = finish_said rack area x owns own count all a b it.0 u v (Ok tt) some ready stage it.1 in
      looked_on a it.0 c (finish_holds rack area x owns own count all b it.0 u v (Some (Ok tt)) it.1) [] v group (Err why) refl f
      (go_unit group 0 it.0 c [] why (group_unclosed rack area x owns own count all group it.0 stop.mid c stop.place stop.sum why stop.below f.came stop.front stop.stop))

  pub through_said : (a b : Locked R A G W) (u v : Uber A) (result : Result Synced SyncFault) → Ready a u → HasCame rack area x a → (it : Through_in a u result b v) → Says rack area x a b (through_holds a b u v result it) (SyncSays a result)
  through_said a b u v result ready came (inl (mid, begun, w, begins, goes)) =
      let st = begun_stage begins.waits a begins.mid u begins.w begins.front came in
      let it = begins.begins in
      let first = it.2 in
      let f = finish_said rack area x owns own count all a begins.mid it.0 begins.w w (Ok tt) some (subst (Ready a) (sym st.1) ready) st.0 it.1 in
      let closed = closed_all rack area x owns own count begun.group it.0 mid 0 it.3 f.came in
      let from = subst (λ k. Sealing rack area x owns own count begun.group it.0 mid k begun.thin) (sym first.next) (subst (Sealing rack area x owns own count begun.group it.0 mid 0) (sym first.thin) closed) in
      let on = waits_stage begun.group goes.waits it.0 mid goes.mid begun goes.now w goes.w refl from goes.front in
      let next : goes.now.group ≡ group_of (ubers.kept_of w) + 1 = on.1 ∙ first.group_is in
      let g = go_end it.0 goes.mid b goes.now goes.new goes.w v result (next ∙ ap (λ k. group_of (ubers.kept_of k) + 1) (sym on.2)) (subst (λ k. Sealing rack area x owns own count k it.0 goes.mid goes.now.next goes.now.thin) (sym on.1) on.0) goes.goes in
      looked_on a it.0 b (finish_holds rack area x owns own count all begins.mid it.0 begins.w w (Some (Ok tt)) it.1) (go_holds goes.mid b goes.now goes.new goes.w v (Some result) goes.goes) w goes.now.group result next f g
  through_said a b u v result ready came (inr (why, is, begins)) =
      let st = begun_stage begins.waits a begins.mid u begins.w begins.front came in
      subst (λ r. Says rack area x a b (stop_holds begins.mid b begins.w v why begins.begins) (SyncSays a r)) (sym is) (stop_said a begins.mid b begins.w v why (subst (Ready a) (sym st.1) ready) st.0 begins.begins)
