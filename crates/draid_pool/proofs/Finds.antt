-- What a hold finds of what a thread knew, and where its pointers lead.
use Rattle.std.proofs.Common.{◌≡◌, ◌≤◌, ◌∙◌, ◌⊎◌, inl, inr, arith, ℕ, zero, suc, Bool, true, false, List, [], ◌∷◌, Option, Some, None, refl, sym, ap, subst, max}
use Rattle.std.specs.Prelude.{slice_get}
use Rattle.std.proofs.lemmas.Bool.{true≢false}
use Rattle.draid_names.specs.declared.pointer.Pointer.{Pointer}
use Rattle.draid_rack.specs.declared.Rack as racks
use Rattle.draid_area.specs.declared.Area as areas
use Rattle.draid_machine.specs.declared.names.Key.{Key}
use Rattle.draid_machine.specs.declared.names.Held.{Held}
use Rattle.draid_machine.specs.After.{is_freed_block}
use Rattle.draid_machine.specs.Names.{is_block}
use Rattle.draid_machine.proofs.Small.{none_some}
use Rattle.draid_entries.specs.Entries.{held_in}
use Rattle.draid_segments.specs.Segments.{Pieces}
use Rattle.draid_objects.specs.Changes.{Write}
use Rattle.draid_shard.specs.Part.{Part, layout_in}
use Rattle.draid_session.specs.Follows.{MetaslabActs}
use Rattle.draid_session.specs.Holds.{Looked}
use Rattle.draid_session.specs.State.{Metaslab, State}
use Rattle.draid_pool.specs.Bytes.{SamePieces}
use Rattle.draid_pool.specs.Metaslabs.{IsMetaslab}
use Rattle.draid_pool.proofs.Lists.{some_of}
use Rattle.draid_pool.specs.Drifts.{Drifts, Since}
use Rattle.draid_pool.specs.Threads.{Bounds, IsPointerAt, PointsAt}
use Rattle.draid_shard.specs.declared.shard.Shard.{Shard}
use Rattle.draid_pool.proofs.Since.{since_self}

-- ---- what a hold finds

pub record Found {R A : Type 0} (rack : racks.Ghosts R) (area : areas.Ghosts A) (shared : Bool) (owns : ℕ → Bool) (part : Part) (pieces : Pieces) (y : Metaslab) (before : Shard R A) : Type 0 where
  pub z : Metaslab
  pub now : Pieces
  pub is : IsMetaslab rack area part now before z
  pub since : Since (layout_in part) y z
  pub same : (k : Key) → owns k.object ≡ true → SamePieces part y pieces now k
  pub alone : shared ≡ false → z ≡ y

module _ {R A : Type 0} (rack : racks.Ghosts R) (area : areas.Ghosts A) where
  pub found : (shared : Bool) (owns : ℕ → Bool) (shard before : Shard R A) → Drifts rack area shared owns shard before → (part : Part) (pieces : Pieces) (y : Metaslab) → IsMetaslab rack area part pieces shard y
      → Found rack area shared owns part pieces y before
  found true owns shard before d part pieces y is =
      let g = d.state part pieces y is in
      record { z = g.reached; now = g.now; is = g.is; since = g.since; same = g.same; alone = λ alone. absurd (true≢false alone) }
  found false owns shard before d part pieces y is = record {
    z = y;
    now = pieces;
    is = subst (λ (c : Shard R A). IsMetaslab rack area part pieces c y) (sym (d.still refl)) is;
    since = since_self (layout_in part) y;
    same = λ k mine. inl refl;
    alone = λ alone. refl;
  }

  -- what is held of the thread's own objects, by the states
  pub found_drops : (shared : Bool) (owns : ℕ → Bool) (shard before : Shard R A) (d : Drifts rack area shared owns shard before) (part : Part) (pieces now : Pieces) (y z : Metaslab) → IsMetaslab rack area part pieces shard y
      → IsMetaslab rack area part now before z
      → (k : Key) → owns k.object ≡ true → (z.world.core.held k ≡ y.world.core.held k) ⊎ ((is_freed_block z.world.committed (y.world.core.held k) ≡ true) × (z.world.core.held k ≡ None))
  found_drops shared owns shard before d part pieces now y z is it k own =
      let was = is.stands.is_in.held k in
      let held = it.stands.is_in.held k in
      elim (d.own.each k own) [
        | inl e ↦ inl (held ∙ (e ∙ sym was))
        | inr e ↦ inr (ap (λ g. is_freed_block g (y.world.core.held k)) it.stands.is_in.committed ∙ (ap (is_freed_block before.committed) was ∙ e.0), held ∙ e.1)
      ]

  pub found_later : (shared : Bool) (owns : ℕ → Bool) (shard before : Shard R A) (d : Drifts rack area shared owns shard before) (part : Part) (pieces now : Pieces) (y z : Metaslab) → IsMetaslab rack area part pieces shard y
      → IsMetaslab rack area part now before z → y.world.committed ≤ z.world.committed
  found_later shared owns shard before d part pieces now y z is it =
      let a = is.stands.is_in.committed in
      let b = it.stands.is_in.committed in
      let c = d.later in
      omega (arith, a, b, c)

  pub found_opens : (shared : Bool) (owns : ℕ → Bool) (shard before : Shard R A) (d : Drifts rack area shared owns shard before) (part : Part) (pieces now : Pieces) (y z : Metaslab) → IsMetaslab rack area part pieces shard y
      → IsMetaslab rack area part now before z → y.world.open_group ≤ z.world.open_group
  found_opens shared owns shard before d part pieces now y z is it =
      let a = is.stands.is_in.open_group_is in
      let b = it.stands.is_in.open_group_is in
      let c = d.opens in
      omega (arith, a, b, c)

  -- a ticket that is found has the pieces that it had
  pub found_ticket : (shared : Bool) (owns : ℕ → Bool) (shard before : Shard R A) (d : Drifts rack area shared owns shard before) (part : Part) (pieces now : Pieces) (y : Metaslab) → IsMetaslab rack area part pieces shard y
      → (k : Key) (h : Held) → owns k.object ≡ true → held_in before.entries k ≡ Some h → is_block h.stage ≡ false → SamePieces part y pieces now k → now k ≡ pieces k
  found_ticket shared owns shard before d part pieces now y is k h own there ticket (inl same) = same
  found_ticket shared owns shard before d part pieces now y is k h own there ticket (inr (g, at, block, bytes)) = elim (d.own.each k own) [
    | inl e ↦
        let one : g ≡ h = some_of (held_in before.entries k) g h (e ∙ (sym (is.stands.is_in.held k) ∙ at)) there in
        absurd (true≢false (sym (subst (λ (i : Held). is_block i.stage ≡ true) one block) ∙ ticket))
    | inr e ↦ absurd (none_some (held_in before.entries k) h e.1 there)
  ]

-- ---- groups

abbrev pub bound_in : List Metaslab → ℕ
bound_in [] = 0
bound_in (y ∷ ys) = max y.world.committed (bound_in ys)

below_bound : (ys : List Metaslab) (m : ℕ) (y : Metaslab) → slice_get ys m ≡ Some y → y.world.committed ≤ bound_in ys
below_bound [] m y there = absurd (cc)
below_bound (z ∷ ys) zero y there = (let same : z.world.committed ≡ y.world.committed = ap (λ (u : Metaslab). u.world.committed) (some_of (Some z) z y refl there) in omega (arith, same))
below_bound (z ∷ ys) (suc m) y there = (let rest = below_bound ys m y there in omega (arith, rest))

pub all_low : (x : State) → Bounds x (bound_in x.metaslabs)
all_low x n v there_v = below_bound x.metaslabs n v there_v

-- ---- the table

pub pointed_at : {R A : Type 0} (last : ℕ → Option (Shard R A)) (o : Option Pointer) (w : Option Write) (p : Pointer) → o ≡ Some p → PointsAt last o w → (write : Write) × (w ≡ Some write) × IsPointerAt last p write
pointed_at last None w p is points = absurd (cc)
pointed_at last (Some q) None p is points = absurd points
pointed_at last (Some q) (Some w) p is points = (w, refl, (let same : q ≡ p = cc in subst (λ z. IsPointerAt last z w) same points))

pub pointed_nowhere : {R A : Type 0} (last : ℕ → Option (Shard R A)) (o : Option Pointer) (w : Option Write) → o ≡ None → PointsAt last o w → w ≡ None
pointed_nowhere last None None is points = refl
pointed_nowhere last None (Some w) is points = absurd points
pointed_nowhere last (Some q) w is points = absurd (cc)

pub points_at_on : {R A : Type 0} (last new : ℕ → Option (Shard R A)) (o : Option Pointer) (w : Option Write)
    → ((p : Pointer) (write : Write) → o ≡ Some p → w ≡ Some write → IsPointerAt last p write → IsPointerAt new p write) → PointsAt last o w → PointsAt new o w
points_at_on last new None None on points = tt
points_at_on last new None (Some w) on points = absurd points
points_at_on last new (Some p) None on points = absurd points
points_at_on last new (Some p) (Some w) on points = on p w refl refl points

pub looks : (l : _) (z : Metaslab) → MetaslabActs l Looked z z
looks l z = refl
