-- A lane's sync from the looks of its meeting on, as the session has it.
use Rattle.std.proofs.Common.{◌≡◌, ◌<◌, ◌+◌, ◌++◌, ◌∷◌, ◌∙◌, [], inl, inr, ℕ, Bool, true, List, Option, Some, None, Ok, Err, arith, refl, sym, subst, length}
use Rattle.std.specs.Prelude.{Result, slice_get}
use Rattle.std.proofs.lemmas.List.{append_assoc}
use Rattle.std.proofs.lemmas.Option.{slice_get_within}
use Rattle.draid_rack.specs.declared.Rack as racks
use Rattle.draid_area.specs.declared.Area as areas
use Rattle.draid_machine.proofs.Small.{none_some}
use Rattle.draid_session.specs.Groups as groups
use Rattle.draid_session.specs.Holds.{Hold, LookedUber, OnUber, view_of}
use Rattle.draid_session.specs.Lanes.{LeavesLooks}
use Rattle.draid_session.specs.Looks.{LooksFrom}
use Rattle.draid_session.specs.Phases.{End, NoneOf, Went}
use Rattle.draid_session.specs.State.{Metaslab, State}
use Rattle.draid_pool.specs.Drifts.{groups_number}
use Rattle.draid_pool.specs.Syncing.{end_of}
use Rattle.draid_pool.specs.Views.{seen_at}
use Rattle.draid_pool.specs.declared.fault.SyncFault.{SyncFault}
use Rattle.draid_pool.specs.declared.fault.Synced.{Synced}
use Rattle.draid_pool.proofs.Lists.{present}
use Rattle.draid_pool.proofs.Looking.{looked, looks_at, none_seen, seen_there}
use Rattle.draid_pool.proofs.SyncSteps.{not_went}
use Rattle.draid_lanes.specs.Told.{SyncBut}
use Rattle.draid_lanes.specs.declared.locked.Locked.{Locked}
use Rattle.draid_lanes.proofs.FinishWords.{FinishSays, FoundAt, NoneFound, OneFound}
use Rattle.draid_lanes.proofs.SealWords.{leaves_self, leaves_then}
use Rattle.draid_lanes.proofs.SyncWords.{BothSay, NextBut, SyncSays}

-- but for looks, the group behind the committed one
next_but : (x : State) (group thin : ℕ) (end : End) (hs : List Hold) → NextBut x group thin end hs → (left : List Hold) × LeavesLooks hs left × groups.Next x.geometry x.perms group thin left end
next_but x group thin end hs n = (
  OnUber n.u LookedUber ∷ n.but_it.left,
  subst (λ l. LeavesLooks l (OnUber n.u LookedUber ∷ n.but_it.left)) (sym n.are) (inr (n.but_it.left, refl, n.but_it.leaves)),
  (n.u, n.but_it.left, refl, n.next, n.but_it.does),
)

module _ {R A G W : Type 0} (rack : racks.Ghosts R) (area : areas.Ghosts A) (x : State) (owns : ℕ → Bool) (own : owns groups_number ≡ true) (count : ℕ) (all : count ≡ x.geometry.props.metaslabs) (met : Locked R A G W) (ys : List Metaslab) (many : length ys ≡ count)
    (closed : (found : Option ℕ) (m : ℕ) (y : Metaslab) → FoundAt rack area x owns own count met found m → slice_get ys m ≡ Some y → y.world.closing ≡ found) where
  looked_all : LooksFrom 0 x.geometry.props.metaslabs (looks_at 0 ys) (seen_at 0 ys)
  looked_all = subst (λ n. LooksFrom 0 n (looks_at 0 ys) (seen_at 0 ys)) (many ∙ all) (looked 0 ys)

  idle : ((m : ℕ) → m < count → FoundAt rack area x owns own count met None m) → NoneOf groups.HasClosing (seen_at 0 ys)
  idle none = none_seen groups.HasClosing 0 ys
      (λ k y at is.
      let within = slice_get_within ys k y at in
      none_some y.world.closing is.0 (closed None k y (none k (omega (arith, within, many))) at) is.1)

  -- what was closing is finished
  pub one_finishes : (end : End) (hs : List Hold) → OneFound rack area x owns own count all met end hs → (left : List Hold) × LeavesLooks hs left × groups.Finishes x.geometry x.perms (looks_at 0 ys ++ left) end
  one_finishes end hs f =
      let below = f.found.below in
      let y = present ys f.place (omega (arith, below, many)) in (
        f.but_it.left,
        f.but_it.leaves,
        record {
          looks = looks_at 0 ys;
          rest = f.but_it.left;
          views = seen_at 0 ys;
          are = refl;
          looked = looked_all;
          does = inr (f.group, view_of (0 + f.place) y.0, f.thin, seen_there 0 f.place ys y.0 y.1, closed (Some f.group) f.place y.0 f.found y.1, f.but_it.does);
        },
      )

  none_finishes : (hs : List Hold) → NoneFound rack area x owns own count all met hs → (left : List Hold) × LeavesLooks hs left × groups.Finishes x.geometry x.perms (looks_at 0 ys ++ left) Went
  none_finishes hs f = (
    [],
    f.leaves,
    record { looks = looks_at 0 ys; rest = []; views = seen_at 0 ys; are = refl; looked = looked_all; does = inl (idle f.none, refl, refl) },
  )

  pub finishes_ok : (hs : List Hold) → FinishSays rack area x owns own count all met (Ok tt) hs → (left : List Hold) × LeavesLooks hs left × groups.Finishes x.geometry x.perms (looks_at 0 ys ++ left) Went
  finishes_ok hs (inl none) = none_finishes hs none
  finishes_ok hs (inr one) = one_finishes Went hs one

  -- the looks in front
  pub in_front : (hs left : List Hold) → LeavesLooks hs left → LeavesLooks (looks_at 0 ys ++ hs) (looks_at 0 ys ++ left)
  in_front hs left l = leaves_then (looks_at 0 ys) (looks_at 0 ys) hs left (leaves_self (looks_at 0 ys)) l

  module _ (some : 0 < count) where
    -- and then comes the next group
    both_sync : (group thin : ℕ) (end : End) (hs : List Hold) → BothSay rack area x owns own count all some met group thin end hs → (left : List Hold) × LeavesLooks (looks_at 0 ys ++ hs) left × groups.Syncs x.geometry x.perms group thin left end
    both_sync group thin end hs b =
        let f = finishes_ok b.front b.finishes in
        let n = next_but x group thin end b.back b.next in (
          looks_at 0 ys ++ (f.0 ++ n.0),
          in_front hs (f.0 ++ n.0) (subst (λ l. LeavesLooks l (f.0 ++ n.0)) (sym b.are) (leaves_then b.front f.0 b.back n.0 f.1 n.1)),
          inl (looks_at 0 ys ++ f.0, n.0, sym (append_assoc (looks_at 0 ys) f.0 n.0), f.2, n.2),
        )

    pub sync_but : (result : Result Synced SyncFault) (hs : List Hold) → SyncSays rack area x owns own count all some met result hs → SyncBut x result (looks_at 0 ys ++ hs)
    sync_but (Ok it) hs b = both_sync it.group it.thin Went hs b
    sync_but (Err why) hs (inl f) =
        let z = one_finishes (end_of {T = ℕ} (Err why)) hs f in
        (looks_at 0 ys ++ z.0, in_front hs z.0 z.1, record { group = 0; thin = 0; stopped = not_went ℕ why; syncs = inr (not_went ℕ why, z.2) })
    sync_but (Err why) hs (inr (group, thin, b)) =
        let z = both_sync group thin (end_of {T = ℕ} (Err why)) hs b in
        (z.0, z.1, record { group = group; thin = thin; stopped = not_went ℕ why; syncs = z.2 })
