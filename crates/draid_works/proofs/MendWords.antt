-- The visits of a rebuild or a scrub in a lane, in the session's words.
use Rattle.std.proofs.Common.{◌≡◌, ◌<◌, ◌≤◌, ◌+◌, ◌++◌, ◌∙◌, ◌⊎◌, [], inl, inr, ℕ, zero, suc, Bool, true, false, List, Option, Some, None, Ok, Err, arith, refl, sym, ap, subst, length, slice_index_or}
use Rattle.std.specs.Prelude.{⊤, Result, slice_get}
use Rattle.std.proofs.lemmas.Bool.{cases_lt, true≢false}
use Rattle.std.proofs.lemmas.List.{append-nil, append_assoc}
use Rattle.draid_names.specs.declared.pass_kind.PassKind.{PassKind}
use Rattle.draid_names.specs.declared.pass_kind.PassKind.TheVariants.{Heal, Rebuild}
use Rattle.draid_rack.specs.declared.Rack as racks
use Rattle.draid_area.specs.declared.Area as areas
use Rattle.draid_perm.specs.declared.perms.Perms.{Perms}
use Rattle.draid_spec.specs.declared.layout.Geometry.{Geometry}
use Rattle.draid_session.specs.Groups as groups
use Rattle.draid_session.specs.Holds.{Hold}
use Rattle.draid_session.specs.Passes as passes
use Rattle.draid_session.specs.Phases.{End, Starved, WasWorn, Went}
use Rattle.draid_session.specs.State.{Metaslab, State}
use Rattle.draid_shard.specs.declared.shard.Shard.{Shard}
use Rattle.draid_uber.specs.declared.uber.Uber.{Uber}
use Rattle.draid_passing.specs.declared.fault.PlanFault.{PlanFault}
use Rattle.draid_names.specs.declared.numbers.TheConstants.{OBJECTS}
use Rattle.draid_pool.specs.Drifts.{groups_number, passes_number}
use Rattle.draid_pool.proofs.BytesKept.{led_bytes}
use Rattle.draid_pool.specs.Pools.{part_in}
use Rattle.draid_pool.specs.declared.fault.SyncFault.{SyncFault}
use Rattle.draid_pool.specs.declared.fault.SyncFault.TheVariants as sync
use Rattle.draid_pool.specs.declared.fault.Synced.{Synced}
use Rattle.draid_pool.proofs.Lists.{present}
use Rattle.draid_pool.proofs.SyncCalls.{end_same}
use Rattle.draid_pool.proofs.SyncWhole.{KeepsQuiet}
use Rattle.draid_visits.specs.Readies.{ReadiesBy, ReadiesIn, Waited}
use Rattle.draid_visits.specs.Starts.{BeginsBy, IsBegun, StartsIn}
use Rattle.draid_visits.specs.Steps.{NextIs}
use Rattle.draid_visits.specs.Units.{LastIs, LendsBy, Lent, UnitIn}
use Rattle.draid_visits.specs.Visiting.{BeginIs, LendIs, RunIs, VisitIs, end_by, outcome_by, tally_of, counted}
use Rattle.draid_visits.specs.Visits.{LendsBehind, RunsBy, VisitBy, VisitStopsAt, VisitedAt, VisitedUpto, VisitsBehind, VisitsBy, begun_at}
use Rattle.draid_visits.specs.declared.progress.Progress.{Progress}
use Rattle.draid_visits.specs.declared.progress.Visit.{Visit}
use Rattle.draid_visits.specs.declared.progress.Visit.TheVariants as visit
use Rattle.draid_visits.specs.declared.starting.Begun.{Begun}
use Rattle.draid_visits.specs.declared.starting.Begun.TheVariants as begun
use Rattle.draid_visits.specs.declared.steps.Next.{Next}
use Rattle.draid_visits.specs.declared.steps.Next.TheVariants as next
use Rattle.draid_visits.proofs.AllVisits.{FromOn, VisitsEnd, none_left, over_then, passed_by, past_end, pauses_there, stops_there}
use Rattle.draid_visits.proofs.Lending.{Ending, SomeLends, kept_back, lent_then, unused, used}
use Rattle.draid_visits.proofs.OwnedBegin.{said_by}
use Rattle.draid_visits.proofs.ReadyHolds.{ready_keeps, ready_quiet}
use Rattle.draid_visits.proofs.StartHolds.{start_keeps}
use Rattle.draid_visits.proofs.UnitHolds.{unit_keeps}
use Rattle.draid_visits.proofs.Visited.{run_so, stops_at, visit_so}
use Rattle.draid_visits.proofs.VisitsStay.{quiet_by, unit_blocks}
use Rattle.draid_visits.proofs.Waiting.{Awaits, Readying, sync_fails, syncs_then, waits_then}
use Rattle.draid_lanes.specs.Governing.{lane_last}
use Rattle.draid_lanes.specs.Waits.{LaneWent}
use Rattle.draid_lanes.specs.declared.locked.Locked.{Locked}
use Rattle.draid_lanes.proofs.OneTurn.{Once}
use Rattle.draid_lanes.proofs.RoundWords.{Says}
use Rattle.draid_lanes.proofs.SealWords.{leaves_self}
use Rattle.draid_lanes.proofs.SyncWords.{through_holds}
use Rattle.draid_works.specs.Mended.{SyncsWaiting}
use Rattle.draid_works.proofs.MendArms.{held_below}
use Rattle.draid_works.proofs.MendFar.{But, Far, Then, far_as, far_done, far_hold, far_stop, far_sync, far_then}
use Rattle.draid_works.proofs.MendSees.{Seen}
use Rattle.draid_works.proofs.MendTurns.{TellsMany}

-- ---- how what is said grows

-- nothing is left
abbrev pub Nothing : {I : Type 0} → I → List Hold → Type 0
Nothing i rest = rest ≡ []

pub then_on : {I : Type 0} (T : I → List Hold → Type 0) (S X Y : List Hold → Type 0) → ((f r : List Hold) → S f → Y r → X (f ++ r)) → (i : I) (f rest : List Hold) → S f → Then Y T i rest → Then X T i (f ++ rest)
then_on T S X Y how i f rest s z = (f ++ z.0, z.1, ap (λ l. f ++ l) z.2 ∙ sym (append_assoc f z.0 z.1), how f z.0 s z.3, z.4)

pub then_end : {I : Type 0} (T : I → List Hold → Type 0) (S X : List Hold → Type 0) → ((f : List Hold) → S f → X f) → (i : I) (f rest : List Hold) → S f → T i rest → Then X T i (f ++ rest)
then_end T S X how i f rest s t = (f, rest, refl, how f s, t)

-- ---- one metaslab in a hold

far_passes : OBJECTS ≤ passes_number
far_passes = omega arith

module _ {R A : Type 0} (rack : racks.Ghosts R) (area : areas.Ghosts A) (x : State) (m : ℕ) where
  tells_starts : (kind : PassKind) (came : Result ℕ PlanFault) (start : Begun) → IsBegun came start → (before after : Shard R A) → StartsIn rack area kind before came after → TellsMany rack area x m kind (But (BeginIs x.geometry x.perms kind m start)) before after
  tells_starts kind came start begins before after s pieces y is =
      let g = s.goes (part_in x m) pieces y is in
      record {
        holds = g.holds;
        reached = g.reached;
        pieces = pieces;
        follows = g.follows;
        done = λ had. (g.holds, leaves_self g.holds, said_by kind m x.geometry x.perms g.holds came start begins g.done.0);
        is = g.is;
        bytes = led_bytes rack area before after passes_number far_passes (start_keeps rack area kind before after (Some came) s) (part_in x m) pieces pieces y g.reached is g.is (λ k h at. inl refl);
      }

  tells_waits : (kind : PassKind) (before after : Shard R A) → ReadiesIn rack area false before after → TellsMany rack area x m kind (But (λ hs. passes.Waits x.geometry x.perms m hs [])) before after
  tells_waits kind before after r pieces y is =
      let g = r.goes (part_in x m) pieces y is in
      record {
        holds = g.holds;
        reached = g.reached;
        pieces = pieces;
        follows = g.follows;
        done = λ had. (g.holds, leaves_self g.holds, g.done.0);
        is = g.is;
        bytes = led_bytes rack area before after passes_number far_passes (ready_keeps rack area before after false r) (part_in x m) pieces pieces y g.reached is g.is (λ k h at. inl refl);
      }

  tells_runs : (kind : PassKind) (before after : Shard R A) → ReadiesIn rack area true before after → TellsMany rack area x m kind (But (passes.RunsNow x.geometry x.perms m)) before after
  tells_runs kind before after r pieces y is =
      let g = r.goes (part_in x m) pieces y is in
      record {
        holds = g.holds;
        reached = g.reached;
        pieces = pieces;
        follows = g.follows;
        done = λ had. (g.holds, leaves_self g.holds, g.done.0);
        is = g.is;
        bytes = led_bytes rack area before after passes_number far_passes (ready_keeps rack area before after true r) (part_in x m) pieces pieces y g.reached is g.is (λ k h at. inl refl);
      }

  tells_unit : (kind : PassKind) (used : Bool) (came : Next) (before after : Shard R A) → UnitIn rack area kind used came before after → TellsMany rack area x m kind (But (NextIs (part_in x m) kind used came)) before after
  tells_unit kind used came before after u pieces y is =
      let g = u.goes (part_in x m) pieces y is in
      record {
        holds = g.holds;
        reached = g.reached;
        pieces = g.later;
        follows = g.follows;
        done = λ had. (g.holds, leaves_self g.holds, g.done.0 had);
        is = g.is;
        bytes = led_bytes rack area before after passes_number far_passes (unit_keeps rack area before after kind used came u) (part_in x m) pieces g.later y g.reached is g.is g.contents;
      }

unit_quiet : {R A : Type 0} (rack : racks.Ghosts R) (area : areas.Ghosts A) (owns : ℕ → Bool) (kind : PassKind) (used : Bool) (came : Next) (before after : Shard R A) → UnitIn rack area kind used came before after → KeepsQuiet rack owns before after
unit_quiet rack area owns kind used came before after d = quiet_by rack area owns before after d.valid d.table.part (unit_blocks rack area kind used came before after d)

-- ---- the holds of the uberblock

module _ {R A G W : Type 0} (rack : racks.Ghosts R) (area : areas.Ghosts A) (x : State) (owns : ℕ → Bool) (own : owns groups_number ≡ true) (some : 0 < x.geometry.props.metaslabs) where
  abbrev pub Syncs_in : Locked R A G W → Uber A → Option (Result Synced SyncFault) → Locked R A G W → Uber A → Type 0
  Syncs_in a u out b v = SyncsWaiting rack area lane_last (LaneWent rack area) true owns x.geometry.props.metaslabs a u out b v

  abbrev pub sync_holds : (a b : Locked R A G W) (u v : Uber A) (result : Result Synced SyncFault) → Syncs_in a u (Some result) b v → List Hold
  sync_holds a b u v result it = through_holds rack area x owns own x.geometry.props.metaslabs refl some a b u v result it

  abbrev pub waited_holds : (m n : ℕ) (a b : Locked R A G W) (u v : Uber A) → Waited rack area lane_last (LaneWent rack area) true owns Syncs_in m n a u b v → List Hold
  waited_holds m zero a b u v it = []
  waited_holds m (suc n) a b u v (mid, w, seen, it, front, once, synced) = waited_holds m n a mid u w front ++ sync_holds seen b w v (Ok it) synced

  abbrev pub ready_holds : (m : ℕ) (a b : Locked R A G W) (u v : Uber A) (out : Option (Result Unit SyncFault)) → ReadiesBy rack area lane_last (LaneWent rack area) true owns Syncs_in m a u out b v → List Hold
  ready_holds m a b u v (Some (Ok done)) (n, mid, front, once) = waited_holds m n a mid u v front
  ready_holds m a b u v (Some (Err why)) (n, mid, w, seen, front, once, synced) = waited_holds m n a mid u w front ++ sync_holds seen b w v (Err why) synced
  ready_holds m a b u v None it = []

  abbrev pub run_holds : (kind : PassKind) (m : ℕ) (a b : Locked R A G W) (u v : Uber A) (out : Option (Result Unit SyncFault)) → RunsBy rack area lane_last (LaneWent rack area) true owns Syncs_in kind m a u out b v → List Hold
  run_holds Rebuild m a b u v out it = ready_holds m a b u v out it
  run_holds Heal m a b u v out it = []

  module _ (kind : PassKind) where
    abbrev pub behind_holds : (m : ℕ) (a b : Locked R A G W) (u v : Uber A) (p q : Progress) (start : Begun) (result : Option Visit) → VisitsBehind rack area lane_last (LaneWent rack area) true owns Syncs_in x.geometry kind m a u p start result b v q → List Hold
    behind_holds m a b u v p q (begun.At stripe) result (made, mid, runs, lends) = run_holds kind m a mid u v made runs
    behind_holds m a b u v p q begun.Nothing result it = []
    behind_holds m a b u v p q (begun.Stopped why) result it = []

    abbrev pub Visit_in : ℕ → Locked R A G W → Uber A → Progress → Option Visit → Locked R A G W → Uber A → Progress → Type 0
    Visit_in m a u p result b v q = VisitBy rack area lane_last (LaneWent rack area) true owns Syncs_in x.geometry kind m a u p result b v q

    abbrev pub visit_holds : (m : ℕ) (a b : Locked R A G W) (u v : Uber A) (p q : Progress) (result : Option Visit) → Visit_in m a u p result b v q → List Hold
    visit_holds m a b u v p q result it = behind_holds m it.mid b u v p q it.start result it.behind

    abbrev pub at_holds : (mark : Bool) (m : ℕ) (a b : Locked R A G W) (u v : Uber A) (p q : Progress) → VisitedAt rack area lane_last (LaneWent rack area) true owns Syncs_in x.geometry kind mark m a u p b v q → List Hold
    at_holds true m a b u v p q it = visit_holds m a b u v p q (Some visit.Over) it
    at_holds false m a b u v p q it = []

    module _ (marks : List Bool) (first : ℕ) where
      abbrev pub upto_holds : (n : ℕ) (a b : Locked R A G W) (u v : Uber A) (p q : Progress) → VisitedUpto rack area lane_last (LaneWent rack area) true owns Syncs_in x.geometry kind marks first n a u p b v q → List Hold
      upto_holds zero a b u v p q it = []
      upto_holds (suc n) a b u v p q (mid, w, r, front, it) = upto_holds n a mid u w p r front ++ at_holds (slice_index_or marks (first + n) false) (first + n) mid b w v r q it

      abbrev pub stop_holds : (place : ℕ) (result : Option Visit) (a b : Locked R A G W) (u v : Uber A) (p q : Progress) → VisitStopsAt rack area lane_last (LaneWent rack area) true owns Syncs_in x.geometry kind marks first place a u p result b v q → List Hold
      stop_holds place result a b u v p q s = upto_holds s.many a s.mid u s.uber p s.upto s.front ++ visit_holds place s.mid b s.uber v s.upto q result s.stop

      abbrev pub visits_holds : (result : Option Visit) (place : ℕ) (a b : Locked R A G W) (u v : Uber A) (p q : Progress) → VisitsBy rack area lane_last (LaneWent rack area) true owns Syncs_in x.geometry kind marks first a u p result place b v q → List Hold
      visits_holds (Some visit.Over) place a b u v p q (many, all, front) = upto_holds many a b u v p q front
      visits_holds (Some visit.Paused) place a b u v p q s = stop_holds place (Some visit.Paused) a b u v p q s
      visits_holds (Some (visit.Stopped why)) place a b u v p q s = stop_holds place (Some (visit.Stopped why)) a b u v p q s
      visits_holds None place a b u v p q s = stop_holds place None a b u v p q s

-- ---- the walk

module _ {R A G W : Type 0} (rack : racks.Ghosts R) (area : areas.Ghosts A) (x : State) (owns : ℕ → Bool) (own : owns groups_number ≡ true) (some : 0 < x.geometry.props.metaslabs) (old : Locked R A G W) (old_all : x.geometry.props.metaslabs ≡ length old.turns.now)
    (old_many : length old.passes.items ≡ length old.turns.now) (kind : PassKind) where
  abbrev g : Geometry
  g = x.geometry

  abbrev ps : Perms
  ps = x.perms

  abbrev n_all : ℕ
  n_all = x.geometry.props.metaslabs

  abbrev pub Came : {I : Type 0} (P Q : I → List Hold → Type 0) → Locked R A G W → Uber A → List Hold → Type 0
  Came P Q b v us = Far rack area x owns own n_all refl some old old_all old_many kind P Q b v us

  -- nothing was done
  still : {I : Type 0} (P Q : I → List Hold → Type 0) (a b : Locked R A G W) (u v : Uber A) (us : List Hold) → b ≡ a → v ≡ u → Came P Q a u us → Came P Q b v (us ++ [])
  still P Q a b u v us at same f = subst (Came P Q b v) (sym (append-nil us)) (subst (λ s. Came P Q s v us) (sym at) (subst (λ w. Came P Q a w us) (sym same) f))

  -- ---- it lends

  lent_far : {I : Type 0} (P T : I → List Hold → Type 0) (m : ℕ) (e : Ending) (u : Uber A) (us : List Hold) (n : ℕ) (a b : Locked R A G W) (p q : Progress) → Lent rack area lane_last (LaneWent rack area) true owns kind m n a p b q
      → Came P (Then (SomeLends g ps kind m p e) T) a u us → Came P (Then (SomeLends g ps kind m q e) T) b u us
  lent_far P T m e u us zero a b p q it f = subst (λ s. Came P (Then (SomeLends g ps kind m q e) T) s u us) (sym it.0) (subst (λ r. Came P (Then (SomeLends g ps kind m r e) T) a u us) (sym it.1) f)
  lent_far P T m e u us (suc n) a b p q (mid, r, repaired, front, some_left, once, counts) f =
      let mid_far = lent_far P T m e u us n a mid p r front f in
      subst (λ r. Came P (Then (SomeLends g ps kind m r e) T) b u us) (sym counts)
      (far_hold rack area x owns own n_all refl some old old_all old_many kind P (Then (SomeLends g ps kind m r e) T) (Then (SomeLends g ps kind m (counted repaired r) e) T) (NextIs (part_in x m) kind false (next.Landed repaired))
      (then_on T (NextIs (part_in x m) kind false (next.Landed repaired)) (SomeLends g ps kind m r e) (SomeLends g ps kind m (counted repaired r) e) (λ f rest d s. lent_then g ps kind m repaired r e f rest (λ up. some_left up) d.1 s))
      (UnitIn rack area kind false (next.Landed repaired)) mid m b u us once (tells_unit rack area x m kind false (next.Landed repaired) once.before once.after once.did) (unit_quiet rack area owns kind false (next.Landed repaired) once.before once.after once.did) mid_far)

  -- they are lent, and then none is
  lends_far : {I : Type 0} (P T : I → List Hold → Type 0) (m : ℕ) (u : Uber A) (us : List Hold) (a b : Locked R A G W) (p q : Progress) (result : Visit) → LendsBy rack area lane_last (LaneWent rack area) true owns kind m a p result b q
      → Came P (Then (LendIs g ps kind m p result q) T) a u us → Came P T b u us
  lends_far P T m u us a b p q result l f = by l.came result q l.back l.is f
    where
      hold_it : (e : Ending) (c : Next) → Once rack area x owns (UnitIn rack area kind l.used c) l.mid m b → ((hs : List Hold) → NextIs (part_in x m) kind l.used c hs → SomeLends g ps kind m l.upto e hs) → Came P (Then (SomeLends g ps kind m p e) T) a u us → Came P T b u us
      hold_it e c once so f =
          far_hold rack area x owns own n_all refl some old old_all old_many kind P (Then (SomeLends g ps kind m l.upto e) T) T (NextIs (part_in x m) kind l.used c) (then_end T (NextIs (part_in x m) kind l.used c) (SomeLends g ps kind m l.upto e) so)
          (UnitIn rack area kind l.used c) l.mid m b u us once (tells_unit rack area x m kind l.used c once.before once.after once.did) (unit_quiet rack area owns kind l.used c once.before once.after once.did) (lent_far P T m e u us l.units a l.mid p l.upto l.front f)

      stop_it : (why : SyncFault) (e : Ending) (t : Progress) → e.o ≡ passes.Stopped (end_by why) → Came P (Then (LendIs g ps kind m p (visit.Stopped why) t) T) a u us → Came P (Then (SomeLends g ps kind m p e) T) a u us
      stop_it why e t is f =
          far_as rack area x owns own n_all refl some old old_all old_many kind P (Then (LendIs g ps kind m p (visit.Stopped why) t) T) P (Then (SomeLends g ps kind m p e) T) a u us f
          (λ left leads i rest z. leads i rest (z.0, z.1, z.2, (z.3.0, e.after, e.tally, subst (λ o. passes.Lends g ps kind m z.3.0 p.left (tally_of p) z.0 o e.after e.tally) is z.3.1), z.4))

      either : (hs : List Hold) → (passes.IsUsedUp l.upto.left → ⊥) → passes.KeepsBack g ps m hs (λ v. ⊤) ⊎ passes.StaysOut g ps m None hs → passes.KeepsBack g ps m hs (λ v. passes.IsUsedUp l.upto.left → ⊥) ⊎ passes.StaysOut g ps m l.upto.left hs
      either hs left (inl keeps) = inl (kept_back g ps m hs (λ v. ⊤) (λ v. passes.IsUsedUp l.upto.left → ⊥) keeps (λ v any. left))
      either hs left (inr out) = inr (record { v = out.v; failed = out.failed; lent = out.lent; are = out.are; there = out.there; some = left; not_worn = out.not_worn })

      by : (c : Next) (r : Visit) (t : Progress) → Once rack area x owns (UnitIn rack area kind l.used c) l.mid m b → LastIs c l.upto r t → Came P (Then (LendIs g ps kind m p r t) T) a u us → Came P T b u us
      by (next.Ended errors) visit.Over t once is f =
          hold_it (record { o = passes.Ended; after = l.upto.left; tally = passes.has_ended errors (tally_of l.upto) }) (next.Ended errors) once (λ hs ends. (0, ((errors, ends, refl), refl)))
          (subst (λ r. Came P (Then (LendIs g ps kind m p visit.Over r) T) a u us) is f)
      by next.Paused visit.Paused t once is f =
          hold_it (record { o = passes.Paused; after = l.upto.left; tally = tally_of l.upto }) next.Paused once
          (λ hs d. (0, ((kept_back g ps m hs (λ v. ⊤) (λ v. passes.IsUsedUp l.upto.left) d.1 (λ v any. used l.used l.upto.left l.used_up d.0), refl), refl))) (subst (λ r. Came P (Then (LendIs g ps kind m p visit.Paused r) T) a u us) is f)
      by next.Worn (visit.Stopped why) t once is f =
          let e : Ending = record { o = passes.Stopped WasWorn; after = l.upto.left; tally = tally_of l.upto } in
          hold_it e next.Worn once
          (λ hs d. (0, ((kept_back g ps m hs (passes.LendIsWorn g ps) (λ v. (passes.IsUsedUp l.upto.left → ⊥) × passes.LendIsWorn g ps v) d.1 (λ v worn. (unused l.used l.upto.left l.used_up d.0, worn)), refl), refl)))
          (stop_it sync.Worn e t refl (subst (λ w. Came P (Then (LendIs g ps kind m p (visit.Stopped w) t) T) a u us) is.0 f))
      by next.NoMemory (visit.Stopped why) t once is f =
          let e : Ending = record { o = passes.Stopped Starved; after = l.upto.left; tally = tally_of l.upto } in
          hold_it e next.NoMemory once (λ hs d. (0, ((either hs (unused l.used l.upto.left l.used_up d.0) d.1, refl), refl)))
          (stop_it sync.NoMemory e t refl (subst (λ w. Came P (Then (LendIs g ps kind m p (visit.Stopped w) t) T) a u us) is.0 f))
      by (next.Landed repaired) visit.Over t once is f = absurd is
      by (next.Landed repaired) visit.Paused t once is f = absurd is
      by (next.Landed repaired) (visit.Stopped why) t once is f = absurd is
      by (next.Ended errors) visit.Paused t once is f = absurd is
      by (next.Ended errors) (visit.Stopped why) t once is f = absurd is
      by next.Paused visit.Over t once is f = absurd is
      by next.Paused (visit.Stopped why) t once is f = absurd is
      by next.Worn visit.Over t once is f = absurd is
      by next.Worn visit.Paused t once is f = absurd is
      by next.NoMemory visit.Over t once is f = absurd is
      by next.NoMemory visit.Paused t once is f = absurd is

  -- ---- it is made to run

  waited_far : {I : Type 0} (P T : I → List Hold → Type 0) (m : ℕ) (end : End) (n : ℕ) (a b : Locked R A G W) (u v : Uber A) (us : List Hold) (it : Waited rack area lane_last (LaneWent rack area) true owns (Syncs_in rack area x owns own some) m n a u b v)
      → Came P (Then (Readying g ps m end) T) a u us → Came P (Then (Readying g ps m end) T) b v (us ++ waited_holds rack area x owns own some m n a b u v it)
  waited_far P T m end zero a b u v us it f = still P (Then (Readying g ps m end) T) a b u v us it.0 it.1 f
  waited_far P T m end (suc n) a b u v us (mid, w, seen, it, front, once, synced) f =
      let ws = waited_holds rack area x owns own some m n a mid u w front in
      let one = waited_far P T m end n a mid u w us front f in
      let two = far_hold rack area x owns own n_all refl some old old_all old_many kind P (Then (Readying g ps m end) T) (Then (Awaits g ps m end) T) (λ hs. passes.Waits g ps m hs []) (then_on T (λ hs. passes.Waits g ps m hs []) (Readying g ps m end) (Awaits g ps m end) (waits_then g ps m end))
      (ReadiesIn rack area false) mid m seen w (us ++ ws) once (tells_waits rack area x m kind once.before once.after once.did) (ready_quiet rack area owns false once.before once.after once.did) one in
      subst (Came P (Then (Readying g ps m end) T) b v) (append_assoc us ws (sync_holds rack area x owns own some seen b w v (Ok it) synced))
      (far_sync rack area x owns own n_all refl some old old_all old_many kind P (Then (Awaits g ps m end) T) (Then (Readying g ps m end) T)
      (λ i front rest it syncs. then_on T (λ hs. groups.Syncs x.geometry x.perms it.group it.thin hs Went) (Awaits g ps m end) (Readying g ps m end) (λ f r s d. syncs_then g ps m end f r (it.group, it.thin, s) d) i front rest syncs)
      seen b w v (us ++ ws) it synced two)

  -- it runs
  ready_far : {I : Type 0} (P T : I → List Hold → Type 0) (m : ℕ) (a b : Locked R A G W) (u v : Uber A) (us : List Hold) (done : Unit) (it : ReadiesBy rack area lane_last (LaneWent rack area) true owns (Syncs_in rack area x owns own some) m a u (Some (Ok done)) b v)
      → Came P (Then (Readying g ps m Went) T) a u us → Came P T b v (us ++ ready_holds rack area x owns own some m a b u v (Some (Ok done)) it)
  ready_far P T m a b u v us done (n, mid, front, once) f =
      let ws = waited_holds rack area x owns own some m n a mid u v front in
      far_hold rack area x owns own n_all refl some old old_all old_many kind P (Then (Readying g ps m Went) T) T (passes.RunsNow g ps m) (then_end T (passes.RunsNow g ps m) (Readying g ps m Went) (λ hs runs. (0, (refl, runs))))
      (ReadiesIn rack area true) mid m b v (us ++ ws) once (tells_runs rack area x m kind once.before once.after once.did) (ready_quiet rack area owns true once.before once.after once.did) (waited_far P T m Went n a mid u v us front f)

  -- or a sync was stopped
  ready_stops : {I : Type 0} (P : I → List Hold → Type 0) (i : I) (m : ℕ) (a b : Locked R A G W) (u v : Uber A) (us : List Hold) (why : SyncFault) (it : ReadiesBy rack area lane_last (LaneWent rack area) true owns (Syncs_in rack area x owns own some) m a u (Some (Err why)) b v)
      → Came P (Then (Readying g ps m (end_by why)) Nothing) a u us → Says rack area x old b (us ++ ready_holds rack area x owns own some m a b u v (Some (Err why)) it) (Seen rack area x kind b (But (P i)))
  ready_stops {I} P i m a b u v us why (n, mid, w, seen, front, once, synced) f =
      let end = end_by why in
      let T : I → List Hold → Type 0 = Nothing in
      let ws = waited_holds rack area x owns own some m n a mid u w front in
      let one = waited_far P T m end n a mid u w us front f in
      let two = far_hold rack area x owns own n_all refl some old old_all old_many kind P (Then (Readying g ps m end) T) (Then (Awaits g ps m end) T) (λ hs. passes.Waits g ps m hs []) (then_on T (λ hs. passes.Waits g ps m hs []) (Readying g ps m end) (Awaits g ps m end) (waits_then g ps m end))
      (ReadiesIn rack area false) mid m seen w (us ++ ws) once (tells_waits rack area x m kind once.before once.after once.did) (ready_quiet rack area owns false once.before once.after once.did) one in
      subst (λ l. Says rack area x old b l (Seen rack area x kind b (But (P i)))) (append_assoc us ws (sync_holds rack area x owns own some seen b w v (Err why) synced))
      (far_stop rack area x owns own n_all refl some old old_all old_many kind P (Then (Awaits g ps m end) T) T i why
      (λ hs s. (hs, [], sym (append-nil hs), sync_fails g ps m end hs (subst (groups.SyncStops g ps hs) (sym (end_same why)) s), refl)) seen b w v (us ++ ws) synced two)

  -- ---- one metaslab

  abbrev Visit_here : ℕ → Locked R A G W → Uber A → Progress → Visit → Locked R A G W → Uber A → Progress → Type 0
  Visit_here m a u p result b v q = Visit_in rack area x owns own some kind m a u p (Some result) b v q

  -- its pass runs, or does so from its planning on
  run_far : {I : Type 0} (P T : I → List Hold → Type 0) (m stripe : ℕ) (p q : Progress) (result : Visit) (of : PassKind) (same : of ≡ kind) (a b : Locked R A G W) (u v : Uber A) (us : List Hold) (done : Unit)
      (it : RunsBy rack area lane_last (LaneWent rack area) true owns (Syncs_in rack area x owns own some) of m a u (Some (Ok done)) b v) → Came P (Then (RunIs g ps kind m stripe p result q) T) a u us
      → Came P (Then (LendIs g ps kind m (begun_at g m stripe p) result q) T) b v (us ++ run_holds rack area x owns own some of m a b u v (Some (Ok done)) it)
  run_far P T m stripe p q result Rebuild same a b u v us done it f =
      let at = begun_at g m stripe p in
      ready_far P (Then (LendIs g ps kind m at result q) T) m a b u v us done it
      (far_then rack area x owns own n_all refl some old old_all old_many kind P (Then (RunIs g ps kind m stripe p result q) T) (Then (LendIs g ps kind m at result q) T) (Readying g ps m Went)
      (then_on T (Readying g ps m Went) (RunIs g ps kind m stripe p result q) (LendIs g ps kind m at result q)
      (λ front back ready lends. run_so g ps kind m stripe p at q result front back refl (subst (λ k. passes.ReadyPhase g ps k m front Went) same ready) lends)) a u us f)
  run_far P T m stripe p q result Heal same a b u v us done it f =
      let at = begun_at g m stripe p in
      still P (Then (LendIs g ps kind m at result q) T) a b u v us it.1 it.2
      (far_as rack area x owns own n_all refl some old old_all old_many kind P (Then (RunIs g ps kind m stripe p result q) T) P (Then (LendIs g ps kind m at result q) T) a u us f
      (λ left leads i rest z. leads i rest (z.0, z.1, z.2, run_so g ps kind m stripe p at q result [] z.0 refl (subst (λ k. passes.ReadyPhase g ps k m [] Went) same (refl, refl)) z.3, z.4)))

  begun_far : {I : Type 0} (P Q T : I → List Hold → Type 0) (m : ℕ) (start : Begun) → ((i : I) (front rest : List Hold) → BeginIs g ps kind m start front → T i rest → Q i (front ++ rest)) → (a b : Locked R A G W) (u : Uber A) (us : List Hold)
      → BeginsBy rack area lane_last (LaneWent rack area) true owns kind m a start b → Came P Q a u us → Came P T b u us
  begun_far P Q T m start how a b u us (came, is, once) f =
      far_hold rack area x owns own n_all refl some old old_all old_many kind P Q T (BeginIs g ps kind m start) how (λ before after. StartsIn rack area kind before came after) a m b u us once (tells_starts rack area x m kind came start is once.before once.after once.did)
      (quiet_by rack area owns once.before once.after once.did.valid once.did.part once.did.blocks) f

  -- it is visited to its end, or pauses
  visit_far : {I : Type 0} (P T : I → List Hold → Type 0) (m : ℕ) (result : Visit) → ((why : SyncFault) → result ≡ visit.Stopped why → ⊥) → (a b : Locked R A G W) (u v : Uber A) (p q : Progress) (us : List Hold) (it : Visit_here m a u p result b v q)
      → Came P (Then (VisitIs g ps kind m p result q) T) a u us → Came P T b v (us ++ visit_holds rack area x owns own some kind m a b u v p q (Some result) it)
  visit_far P T m result never a b u v p q us it f = by it.start it.begins result never it.behind f
    where
      by : (start : Begun) → BeginsBy rack area lane_last (LaneWent rack area) true owns kind m a start it.mid → (r : Visit) → ((why : SyncFault) → r ≡ visit.Stopped why → ⊥)
          → (is : VisitsBehind rack area lane_last (LaneWent rack area) true owns (Syncs_in rack area x owns own some) x.geometry kind m it.mid u p start (Some r) b v q) → Came P (Then (VisitIs g ps kind m p r q) T) a u us
          → Came P T b v (us ++ behind_holds rack area x owns own some kind m it.mid b u v p q start (Some r) is)
      by (begun.At stripe) begins r not (Some (Ok done), last, runs, lends) f =
          let at = begun_at g m stripe p in
          let one = begun_far P (Then (VisitIs g ps kind m p r q) T) (Then (RunIs g ps kind m stripe p r q) T) m (begun.At stripe)
          (then_on T (BeginIs g ps kind m (begun.At stripe)) (VisitIs g ps kind m p r q) (RunIs g ps kind m stripe p r q) (λ front back starts runs. visit_so g ps kind m stripe p q r front back starts runs)) a it.mid u us begins f in
          let rs = run_holds rack area x owns own some kind m it.mid last u v (Some (Ok done)) runs in
          lends_far P T m v (us ++ rs) last b at q r lends (run_far P T m stripe p q r kind refl it.mid last u v us done runs one)
      by (begun.At stripe) begins visit.Over not (Some (Err why), last, runs, lends) f = absurd lends
      by (begun.At stripe) begins visit.Paused not (Some (Err why), last, runs, lends) f = absurd lends
      by (begun.At stripe) begins (visit.Stopped cause) not (Some (Err why), last, runs, lends) f = absurd (not cause refl)
      by (begun.At stripe) begins r not (None, last, runs, lends) f = absurd lends
      by begun.Nothing begins visit.Over not is f =
          still P T it.mid b u v us is.0 is.1
          (begun_far P (Then (VisitIs g ps kind m p visit.Over q) T) T m begun.Nothing (then_end T (BeginIs g ps kind m begun.Nothing) (VisitIs g ps kind m p visit.Over q) (λ hs over. inr (is.2, over.0, over.1))) a it.mid u us begins f)
      by begun.Nothing begins visit.Paused not is f = absurd is
      by begun.Nothing begins (visit.Stopped cause) not is f = absurd is
      by (begun.Stopped why) begins (visit.Stopped cause) not is f = absurd (not cause refl)
      by (begun.Stopped why) begins visit.Over not is f = absurd is
      by (begun.Stopped why) begins visit.Paused not is f = absurd is

  -- or is stopped
  visit_stops : {I : Type 0} (P : I → List Hold → Type 0) (i : I) (m : ℕ) (why : SyncFault) (a b : Locked R A G W) (u v : Uber A) (p q : Progress) (us : List Hold) (it : Visit_here m a u p (visit.Stopped why) b v q)
      → Came P (Then (VisitIs g ps kind m p (visit.Stopped why) q) Nothing) a u us → Says rack area x old b (us ++ visit_holds rack area x owns own some kind m a b u v p q (Some (visit.Stopped why)) it) (Seen rack area x kind b (But (P i)))
  visit_stops {I} P i m why a b u v p q us it f = by it.start it.begins it.behind
    where
      T : I → List Hold → Type 0
      T = Nothing

      sync_stops : (of : PassKind) (same : of ≡ kind) (cause : SyncFault) → why ≡ cause → (stripe : ℕ) (last : Locked R A G W) → b ≡ last
          → (runs : RunsBy rack area lane_last (LaneWent rack area) true owns (Syncs_in rack area x owns own some) of m it.mid u (Some (Err cause)) last v) → Came P (Then (RunIs g ps kind m stripe p (visit.Stopped why) q) T) it.mid u us
          → Says rack area x old b (us ++ run_holds rack area x owns own some of m it.mid last u v (Some (Err cause)) runs) (Seen rack area x kind b (But (P i)))
      sync_stops Rebuild same cause is stripe last at runs f =
          subst (λ s. Says rack area x old s (us ++ run_holds rack area x owns own some Rebuild m it.mid last u v (Some (Err cause)) runs) (Seen rack area x kind s (But (P i)))) (sym at)
          (ready_stops P i m it.mid last u v us cause runs
          (far_as rack area x owns own n_all refl some old old_all old_many kind P (Then (RunIs g ps kind m stripe p (visit.Stopped why) q) T) P (Then (Readying g ps m (end_by cause)) T) it.mid u us f
          (λ left leads j rest z. leads j rest (z.0, z.1, z.2, inr (subst (λ k. passes.ReadyPhase g ps k m z.0 (end_by why)) same (subst (λ w. Readying g ps m (end_by w) z.0) (sym is) z.3)), z.4))))
      sync_stops Heal same cause is stripe last at runs f = absurd (let none = runs.0 in cc)

      by : (start : Begun) → BeginsBy rack area lane_last (LaneWent rack area) true owns kind m a start it.mid
          → (is : VisitsBehind rack area lane_last (LaneWent rack area) true owns (Syncs_in rack area x owns own some) x.geometry kind m it.mid u p start (Some (visit.Stopped why)) b v q)
          → Says rack area x old b (us ++ behind_holds rack area x owns own some kind m it.mid b u v p q start (Some (visit.Stopped why)) is) (Seen rack area x kind b (But (P i)))
      by (begun.At stripe) begins (made, last, runs, lends) = at_stripe made last runs lends
        where
          one : Came P (Then (RunIs g ps kind m stripe p (visit.Stopped why) q) T) it.mid u us
          one = begun_far P (Then (VisitIs g ps kind m p (visit.Stopped why) q) T) (Then (RunIs g ps kind m stripe p (visit.Stopped why) q) T) m (begun.At stripe)
              (then_on T (BeginIs g ps kind m (begun.At stripe)) (VisitIs g ps kind m p (visit.Stopped why) q) (RunIs g ps kind m stripe p (visit.Stopped why) q) (λ front back starts runs. visit_so g ps kind m stripe p q (visit.Stopped why) front back starts runs)) a it.mid u us begins f

          at_stripe : (made : Option (Result Unit SyncFault)) (last : Locked R A G W) (runs : RunsBy rack area lane_last (LaneWent rack area) true owns (Syncs_in rack area x owns own some) kind m it.mid u made last v)
              → LendsBehind rack area lane_last (LaneWent rack area) true owns x.geometry kind m stripe last p made (Some (visit.Stopped why)) b q → Says rack area x old b (us ++ run_holds rack area x owns own some kind m it.mid last u v made runs) (Seen rack area x kind b (But (P i)))
          at_stripe (Some (Ok done)) last runs lends =
              let rs = run_holds rack area x owns own some kind m it.mid last u v (Some (Ok done)) runs in
              far_done rack area x owns own n_all refl some old old_all old_many kind P T i b v (us ++ rs) refl
              (lends_far P T m v (us ++ rs) last b (begun_at g m stripe p) q (visit.Stopped why) lends (run_far P T m stripe p q (visit.Stopped why) kind refl it.mid last u v us done runs one))
          at_stripe (Some (Err cause)) last runs lends = sync_stops kind refl cause lends.0 stripe last lends.1 runs one
          at_stripe None last runs lends = absurd lends
      by begun.Nothing begins is = absurd is
      by (begun.Stopped cause) begins is =
          far_done rack area x owns own n_all refl some old old_all old_many kind P T i b v (us ++ []) refl
          (still P T it.mid b u v us is.1 is.2
          (begun_far P (Then (VisitIs g ps kind m p (visit.Stopped why) q) T) T m (begun.Stopped cause)
          (then_end T (BeginIs g ps kind m (begun.Stopped cause)) (VisitIs g ps kind m p (visit.Stopped why) q) (λ hs none. inr (stops_at g ps kind m hs why (subst (λ w. passes.PlansNone g ps kind m hs (end_by w)) (sym is.0) none)))) a it.mid u us begins f))

  -- ---- one after another

  module _ (marks : List Bool) (ys : List Metaslab) (long : length ys ≡ x.geometry.props.metaslabs) (P : VisitsEnd → List Hold → Type 0) where
    -- the metaslabs as they were looked at
    abbrev z : State
    z = record x { metaslabs = ys }

    abbrev pub Left : Progress → ℕ → VisitsEnd → List Hold → Type 0
    Left at m e holds = FromOn z kind marks at m e holds

    inside : (m : ℕ) (a b : Locked R A G W) (u v : Uber A) (p q : Progress) (us : List Hold) (result : Visit) → Visit_here m a u p result b v q → Came P (Left p m) a u us → (y : Metaslab) × (slice_get ys m ≡ Some y)
    inside m a b u v p q us result it f =
        let once = it.begins.2 in
        let below = held_below rack area lane_last (LaneWent rack area) true owns n_all (λ before after. StartsIn rack area kind before it.begins.0 after) a m it.mid once f.beyond in
        present ys m (omega (arith, below, long))

    at_far : (mark : Bool) (m : ℕ) → slice_index_or marks m false ≡ mark → (a b : Locked R A G W) (u v : Uber A) (p q : Progress) (us : List Hold) (it : VisitedAt rack area lane_last (LaneWent rack area) true owns (Syncs_in rack area x owns own some) x.geometry kind mark m a u p b v q) → Came P (Left p m) a u us
        → Came P (Left q (m + 1)) b v (us ++ at_holds rack area x owns own some kind mark m a b u v p q it)
    at_far true m marked a b u v p q us it f =
        let y = inside m a b u v p q us visit.Over it f in
        visit_far P (Left q (m + 1)) m visit.Over (λ why is. absurd (cc)) a b u v p q us it
        (far_then rack area x owns own n_all refl some old old_all old_many kind P (Left p m) (Left q (m + 1)) (VisitIs g ps kind m p visit.Over q) (λ e front rest visits is. over_then z kind marks m y.0 y.1 marked p q e front rest visits is) a u us f)
    at_far false m none a b u v p q us it f =
        still P (Left q (m + 1)) a b u v us it.0 it.1
        (far_as rack area x owns own n_all refl some old old_all old_many kind P (Left p m) P (Left q (m + 1)) a u us f (λ left leads e rest is. leads e rest (by (cases_lt m (length ys)) e rest (subst (λ r. Left r (m + 1) e rest) it.2 is))))
      where
        by : (m < length ys) ⊎ (length ys ≤ m) → (e : VisitsEnd) (rest : List Hold) → Left p (m + 1) e rest → Left p m e rest
        by (inl less) e rest is = (let y = present ys m less in passed_by z kind marks m y.0 y.1 p e rest (λ marked. true≢false (sym marked ∙ none)) is)
        by (inr past) e rest is = past_end z kind marks m p e rest past is

    upto_far : (first n : ℕ) (a b : Locked R A G W) (u v : Uber A) (p q : Progress) (us : List Hold) (it : VisitedUpto rack area lane_last (LaneWent rack area) true owns (Syncs_in rack area x owns own some) x.geometry kind marks first n a u p b v q) → Came P (Left p first) a u us
        → Came P (Left q (first + n)) b v (us ++ upto_holds rack area x owns own some kind marks first n a b u v p q it)
    upto_far first zero a b u v p q us it f =
        still P (Left q (first + 0)) a b u v us it.0 it.1
        (subst (λ r. Came P (Left r (first + 0)) a u us) (sym it.2) (subst (λ k. Came P (Left p k) a u us) (let same : first ≡ first + 0 = omega arith in same) f))
    upto_far first (suc n) a b u v p q us (mid, w, r, front, it) f =
        let fs = upto_holds rack area x owns own some kind marks first n a mid u w p r front in
        let vs = at_holds rack area x owns own some kind (slice_index_or marks (first + n) false) (first + n) mid b w v r q it in
        subst (λ k. Came P (Left q k) b v (us ++ (fs ++ vs))) (let same : first + n + 1 ≡ first + suc n = omega arith in same)
        (subst (Came P (Left q (first + n + 1)) b v) (append_assoc us fs vs)
        (at_far (slice_index_or marks (first + n) false) (first + n) refl mid b w v r q (us ++ fs) it (upto_far first n a mid u w p r us front f)))

    -- ---- their end

    abbrev pub EndsSo : Visit → Progress → List Hold → Type 0
    EndsSo (visit.Stopped why) q hs = (t : passes.Tally) × P (record { o = passes.Stopped (end_by why); tally = t }) hs
    EndsSo result q hs = P (record { o = outcome_by result; tally = tally_of q }) hs

    -- those below the one that came to another end were visited
    front_far : (first place : ℕ) (result : Option Visit) (a b : Locked R A G W) (u v : Uber A) (p q : Progress) (us : List Hold) (s : VisitStopsAt rack area lane_last (LaneWent rack area) true owns (Syncs_in rack area x owns own some) x.geometry kind marks first place a u p result b v q)
        → Came P (Left p first) a u us → Came P (Left s.upto place) s.mid s.uber (us ++ upto_holds rack area x owns own some kind marks first s.many a s.mid u s.uber p s.upto s.front)
    front_far first place result a b u v p q us s f =
        subst (λ k. Came P (Left s.upto k) s.mid s.uber (us ++ upto_holds rack area x owns own some kind marks first s.many a s.mid u s.uber p s.upto s.front)) (sym s.is) (upto_far first s.many a s.mid u s.uber p s.upto us s.front f)

    last_of : (left rest front back : List Hold) → rest ≡ front ++ back → back ≡ [] → left ++ front ≡ left ++ rest
    last_of left rest front back are none = ap (λ l. left ++ l) (sym (are ∙ (ap (λ l. front ++ l) none ∙ append-nil front)))

    pub visits_said : (first place : ℕ) (result : Visit) (a b : Locked R A G W) (u v : Uber A) (p q : Progress) (us : List Hold)
        (it : VisitsBy rack area lane_last (LaneWent rack area) true owns (Syncs_in rack area x owns own some) x.geometry kind marks first a u p (Some result) place b v q) → Came P (Left p first) a u us
        → Says rack area x old b (us ++ visits_holds rack area x owns own some kind marks first (Some result) place a b u v p q it) (Seen rack area x kind b (But (EndsSo result q)))
    visits_said first place visit.Over a b u v p q us (many, most, front) f =
        far_done rack area x owns own n_all refl some old old_all old_many kind P (Left q (first + many)) (record { o = passes.Ended; tally = tally_of q }) b v (us ++ upto_holds rack area x owns own some kind marks first many a b u v p q front)
        (none_left z kind marks (first + many) q (omega (arith, long, most))) (upto_far first many a b u v p q us front f)
    visits_said first place visit.Paused a b u v p q us s f =
        let e : VisitsEnd = record { o = passes.Paused; tally = tally_of q } in
        let fs = upto_holds rack area x owns own some kind marks first s.many a s.mid u s.uber p s.upto s.front in
        let vs = visit_holds rack area x owns own some kind place s.mid b s.uber v s.upto q (Some visit.Paused) s.stop in
        let one = front_far first place (Some visit.Paused) a b u v p q us s f in
        let y = inside place s.mid b s.uber v s.upto q (us ++ fs) visit.Paused s.stop one in
        let Q : Unit {0} → List Hold → Type 0 = (λ i. P e) in
        subst (λ l. Says rack area x old b l (Seen rack area x kind b (But (P e)))) (append_assoc us fs vs)
        (far_done rack area x owns own n_all refl some old old_all old_many kind Q Nothing tt b v ((us ++ fs) ++ vs) refl
        (visit_far Q Nothing place visit.Paused (λ why is. absurd (cc)) s.mid b s.uber v s.upto q (us ++ fs) s.stop
        (far_as rack area x owns own n_all refl some old old_all old_many kind P (Left s.upto place) Q (Then (VisitIs g ps kind place s.upto visit.Paused q) Nothing) s.mid s.uber (us ++ fs) one
        (λ left leads i rest t. subst (P e) (last_of left rest t.0 t.1 t.2 t.4) (leads e t.0 (pauses_there z kind marks place y.0 y.1 s.marked s.upto q t.0 t.3))))))
    visits_said first place (visit.Stopped why) a b u v p q us s f =
        let fs = upto_holds rack area x owns own some kind marks first s.many a s.mid u s.uber p s.upto s.front in
        let vs = visit_holds rack area x owns own some kind place s.mid b s.uber v s.upto q (Some (visit.Stopped why)) s.stop in
        let one = front_far first place (Some (visit.Stopped why)) a b u v p q us s f in
        let y = inside place s.mid b s.uber v s.upto q (us ++ fs) (visit.Stopped why) s.stop one in
        let Q : Unit {0} → List Hold → Type 0 = (λ i. EndsSo (visit.Stopped why) q) in
        subst (λ l. Says rack area x old b l (Seen rack area x kind b (But (EndsSo (visit.Stopped why) q)))) (append_assoc us fs vs)
        (visit_stops Q tt place why s.mid b s.uber v s.upto q (us ++ fs) s.stop
        (far_as rack area x owns own n_all refl some old old_all old_many kind P (Left s.upto place) Q (Then (VisitIs g ps kind place s.upto (visit.Stopped why) q) Nothing) s.mid s.uber (us ++ fs) one
        (λ left leads i rest t. (
        let w = stops_there z kind marks place y.0 y.1 s.marked s.upto q why t.0 t.3 in
        (w.0, subst (P (record { o = passes.Stopped (end_by why); tally = w.0 })) (last_of left rest t.0 t.1 t.2 t.4) (leads (record { o = passes.Stopped (end_by why); tally = w.0 }) t.0 w.1))))))
