-- What a governor's holds leave of a whole pool's metaslabs, whatever state of it stood.
use Rattle.std.proofs.Common.{◌≡◌, ◌<◌, ◌+◌, ◌∙◌, ℕ, zero, suc, Bool, true, Option, Some, Ok, Err, refl, sym, ap, subst, if◌then◌else◌, eq-eqb, ne_eqb, arith}
use mathlib.Core.Logic.{dite}
use native.Mathlib.Decide.{ℕ_discrete}
use Rattle.std.specs.Prelude.{Result, slice_get}
use Rattle.draid_rack.specs.declared.Rack as racks
use Rattle.draid_area.specs.declared.Area as areas
use Rattle.draid_machine.specs.State as machine
use Rattle.draid_segments.specs.Segments.{Pieces}
use Rattle.draid_session.specs.Holds.{Hold, view_of}
use Rattle.draid_session.specs.Opening.{MayFind}
use Rattle.draid_session.specs.State.{Metaslab, State}
use Rattle.draid_shard.specs.Part.{layout_in}
use Rattle.draid_shard.specs.declared.shard.Shard.{Shard}
use Rattle.draid_pool.specs.Drifts.{Since, groups_number}
use Rattle.draid_pool.specs.Grouping.{ClosesIn, SealsBy, SeesClosing, WaitsForWrites}
use Rattle.draid_pool.specs.Importable.{IsAlike, Shared}
use Rattle.draid_pool.specs.Metaslabs.{IsMetaslab}
use Rattle.draid_pool.specs.Pools.{part_in}
use Rattle.draid_pool.specs.Records.{HasImage, LeavesAreBelow}
use Rattle.draid_pool.specs.Rounds.{StoppedBy}
use Rattle.draid_pool.specs.Syncing.{KeepsCommitted, Turns, end_of}
use Rattle.draid_pool.specs.declared.fault.SyncFault.{SyncFault}
use Rattle.draid_pool.proofs.Holding.{some_same}
use Rattle.draid_pool.proofs.Imaged.{alike_stays, image_kept, leaves_kept}
use Rattle.draid_pool.proofs.ShardSteps.{acts_since}
use Rattle.draid_pool.proofs.Since.{since_self}
use Rattle.draid_lanes.specs.Governing.{lane_last}
use Rattle.draid_lanes.specs.Waits.{LaneWent}
use Rattle.draid_lanes.specs.declared.locked.Locked.{Locked}
use Rattle.draid_lanes.proofs.DriftGoverned.{KeepsGoverned, drift_governed}
use Rattle.draid_lanes.proofs.OneTurn.{CameTo, Once, came_is, came_on}
use Rattle.draid_lanes.proofs.RoundWords.{Each, From}
use Rattle.draid_lanes.proofs.Switches.{KeepsSwitches, close_stop_switches, close_switches, seal_stop_switches, seal_switches, switches_arms, switches_self, switches_then}

-- ---- one metaslab of a whole pool

-- It has committed the pool's group, has an image of each group that an import may find, and what all have in common; its leaves are below the pool's next one; and who was offline as the turn began is so.
pub record IsGood (z : State) (w : State) (shared : Shared) (m : ℕ) (y : Metaslab) : Type 0 where
  pub committed : y.world.committed ≡ w.committed
  pub alike : IsAlike shared y.world
  pub images : (group : ℕ) → MayFind w group → 0 < group → HasImage group y
  pub leaves : LeavesAreBelow w.kept_leaf w.next_leaf y.world
  pub first : Metaslab
  pub first_is : slice_get z.metaslabs m ≡ Some first
  pub switches : KeepsSwitches first.world y.world

-- what leaves all that
pub record IsQuiet (old new : machine.State) : Type 0 where
  pub keeps : KeepsCommitted old new
  pub switches : KeepsSwitches old new

pub quiet_self : (w : machine.State) → IsQuiet w w
quiet_self w = record { keeps = record { held = refl; committed = refl; images = λ image is. is; leaves = λ kept next below. below; alike = λ shared is. is; opens = omega arith }; switches = switches_self w }

pub good_quiet : (z w : State) (shared : Shared) (m : ℕ) (y v : Metaslab) → IsQuiet y.world v.world → IsGood z w shared m y → IsGood z w shared m v
good_quiet z w shared m y v q good = record {
  committed = q.keeps.committed ∙ good.committed;
  alike = q.keeps.alike shared good.alike;
  images = λ group may some. (let has = good.images group may some in record { image = has.image; is = q.keeps.images has.image has.is; of = has.of });
  leaves = q.keeps.leaves w.kept_leaf w.next_leaf good.leaves;
  first = good.first;
  first_is = good.first_is;
  switches = switches_then good.first.world y.world v.world good.switches q.switches;
}

pub good_governed : (z w : State) (shared : Shared) (m : ℕ) (y v : Metaslab) → KeepsGoverned y.world v.world → IsGood z w shared m y → IsGood z w shared m v
good_governed z w shared m y v k good = record {
  committed = k.committed ∙ good.committed;
  alike = alike_stays shared y.world v.world k.images good.alike;
  images = λ group may some. image_kept group y v k.images (good.images group may some);
  leaves = leaves_kept w.kept_leaf w.next_leaf y.world v.world k.images good.leaves;
  first = good.first;
  first_is = good.first_is;
  switches = switches_then good.first.world y.world v.world good.switches (switches_arms y.world v.world k.images.arms);
}

-- ---- holds

module _ {R A : Type 0} (rack : racks.Ghosts R) (area : areas.Ghosts A) (x : State) where
  -- what became of what one was as it was found
  pub record GoesTo (m : ℕ) (after : Shard R A) (y : Metaslab) (says : Metaslab → Type 0) : Type 0 where
    pub reached : Metaslab
    pub pieces : Pieces
    pub is : IsMetaslab rack area (part_in x m) pieces after reached
    pub since : Since (layout_in (part_in x m)) y reached
    pub so : says reached

  -- whatever it stood for, the hold left that quietly
  abbrev pub QuietAt : ℕ → Shard R A → Shard R A → Type 0
  QuietAt m before after = (pieces : Pieces) (y : Metaslab) → IsMetaslab rack area (part_in x m) pieces before y → GoesTo m after y (λ v. IsQuiet y.world v.world)

  -- ---- which these are

  pub quiet_same : (m : ℕ) (before after : Shard R A) → after ≡ before → QuietAt m before after
  quiet_same m before after same pieces y is = record { reached = y; pieces = pieces; is = subst (λ s. IsMetaslab rack area (part_in x m) pieces s y) (sym same) is; since = since_self (layout_in (part_in x m)) y; so = quiet_self y.world }

  pub quiet_sees : (found : Option ℕ) (m : ℕ) (before after : Shard R A) → SeesClosing found before after → QuietAt m before after
  quiet_sees found m before after sees = quiet_same m before after sees.0

  pub quiet_waits : (group m : ℕ) (before after : Shard R A) → WaitsForWrites group before after → QuietAt m before after
  quiet_waits group m before after waits = quiet_same m before after waits.same

  turned : (m : ℕ) (after : Shard R A) (pieces : Pieces) (y : Metaslab) (told : Hold → Metaslab → Type 0) (t : Turns rack area (part_in x m) pieces y after told) → IsQuiet y.world t.reached.world → GoesTo m after y (λ v. IsQuiet y.world v.world)
  turned m after pieces y told t quiet = record { reached = t.reached; pieces = pieces; is = t.is; since = acts_since (layout_in (part_in x m)) t.act y t.reached t.acts; so = quiet }

  pub quiet_closes : (group : ℕ) (result : Result Unit SyncFault) (m : ℕ) (before after : Shard R A) → ClosesIn rack area group before result after → QuietAt m before after
  quiet_closes group (Ok done) m before after c pieces y is =
      let t = c.closes (part_in x m) pieces y is in
      turned m after pieces y _ t (record { keeps = t.done.1; switches = close_switches x.geometry x.perms group m (layout_in (part_in x m)) (view_of m y) y t.reached t.act 0 t.acts t.done.0 })
  quiet_closes group (Err why) m before after c pieces y is =
      let t = c.closes (part_in x m) pieces y is in
      turned m after pieces y _ t (record { keeps = t.done.1; switches = close_stop_switches x.geometry x.perms group m (layout_in (part_in x m)) (view_of m y) y t.reached t.act (end_of {T = Unit} (Err why)) t.acts t.done.0 })

  pub quiet_seals : (group : ℕ) (result : Result ℕ SyncFault) (m : ℕ) (before after : Shard R A) → SealsBy rack area group before result after → QuietAt m before after
  quiet_seals group (Ok thin) m before after s pieces y is =
      let t = s.seals (part_in x m) pieces y is in
      turned m after pieces y _ t (record { keeps = t.done.1; switches = seal_switches x.geometry x.perms group m (layout_in (part_in x m)) (view_of m y) y t.reached t.act thin t.acts t.done.0 })
  quiet_seals group (Err why) m before after s pieces y is =
      let t = s.seals (part_in x m) pieces y is in
      turned m after pieces y _ t (record { keeps = t.done.1; switches = seal_stop_switches x.geometry x.perms group m (layout_in (part_in x m)) (view_of m y) y t.reached t.act (end_of {T = ℕ} (Err why)) t.acts t.done.0 })

module _ {R A G W : Type 0} (rack : racks.Ghosts R) (area : areas.Ghosts A) (x : State) where
  -- each metaslab, as it was left, is what one came to, of which this is so
  abbrev pub Knowing : Locked R A G W → (ℕ → Metaslab → Type 0) → Type 0
  Knowing a says = (m : ℕ) (shard : Shard R A) → lane_last a m ≡ Some shard → (y : Metaslab) × CameTo rack area x m shard y × says m y

  module _ (owns : ℕ → Bool) (own : owns groups_number ≡ true) where
    module _ (does : Shard R A → Shard R A → Type 0) (a : Locked R A G W) (m : ℕ) (b : Locked R A G W) (h : Once rack area x owns does a m b) (says after : ℕ → Metaslab → Type 0) (steady : (k : ℕ) (y v : Metaslab) → KeepsGoverned y.world v.world → says k y → says k v) where
      pub held_knows : Knowing a says → ((pieces : Pieces) (y : Metaslab) → IsMetaslab rack area (part_in x m) pieces h.before y → says m y → GoesTo rack area x m h.after y (after m)) → ((k : ℕ) (y : Metaslab) → (k ≡ m → ⊥) → says k y → after k y) → Knowing b after
      held_knows knows goes others k shard at = dite (ℕ_discrete k m)
          (λ same.
          let was = knows m h.shard h.there in
          let is = came_is rack area x m h.shard was.0 was.1 in
          let g = h.drifts.state (part_in x m) was.1.came.pieces was.0 is in
          let found = came_on rack area x m h.shard h.before was.0 g.reached g.now was.1 g.is g.since in
          let t = goes g.now g.reached g.is (steady m was.0 g.reached (drift_governed rack area true owns own h.shard h.before h.drifts (part_in x m) was.1.came.pieces was.0 is) was.2) in
          let here : h.after ≡ shard = some_same h.after shard (sym (h.is m ∙ ap (λ b. if b then Some h.after else lane_last a m) (eq-eqb m m refl)) ∙ (ap (lane_last b) (sym same) ∙ at)) in
          subst (λ j. (y : Metaslab) × CameTo rack area x j shard y × after j y) (sym same)
          (t.reached, subst (λ s. CameTo rack area x m s t.reached) here (came_on rack area x m h.before h.after g.reached t.reached t.pieces found t.is t.since), t.so))
          (λ not. (let z = knows k shard (sym (h.is k ∙ ap (λ b. if b then Some h.after else lane_last a k) (ne_eqb k m not)) ∙ at) in (z.0, z.1, others k z.0 not z.2)))

    -- ---- holds that leave all that

    module _ (z w : State) (shared : Shared) where
      pub quiet_knows : (does : Shard R A → Shard R A → Type 0) (a : Locked R A G W) (m : ℕ) (b : Locked R A G W) (h : Once rack area x owns does a m b) → QuietAt rack area x m h.before h.after → Knowing a (IsGood z w shared) → Knowing b (IsGood z w shared)
      quiet_knows does a m b h quiet knows =
          held_knows does a m b h (IsGood z w shared) (IsGood z w shared) (λ k y v keeps good. good_governed z w shared k y v keeps good) knows
          (λ pieces y is good. (let t = quiet pieces y is in record { reached = t.reached; pieces = t.pieces; is = t.is; since = t.since; so = good_quiet z w shared m y t.reached t.so good })) (λ k y not good. good)

      pub quiet_from : (does : ℕ → Shard R A → Shard R A → Type 0) → ((n m : ℕ) (before after : Shard R A) → does n before after → QuietAt rack area x m before after) → (first n sum : ℕ) (a b : Locked R A G W) → From rack area x owns does first n a sum b → Knowing a (IsGood z w shared) → Knowing b (IsGood z w shared)
      quiet_from does quiet first zero sum a b each knows = subst (λ s. Knowing s (IsGood z w shared)) (sym each.0) knows
      quiet_from does quiet first (suc n) sum a b (mid, some, more, each, once, adds) knows =
          quiet_knows (does more) mid (first + n) b once (quiet more (first + n) once.before once.after once.did) (quiet_from does quiet first n some a mid each knows)

      pub quiet_each : (does : ℕ → Shard R A → Shard R A → Type 0) → ((n m : ℕ) (before after : Shard R A) → does n before after → QuietAt rack area x m before after) → (n sum : ℕ) (a b : Locked R A G W) → Each rack area x owns does n a sum b → Knowing a (IsGood z w shared) → Knowing b (IsGood z w shared)
      quiet_each does quiet zero sum a b each knows = subst (λ s. Knowing s (IsGood z w shared)) (sym each.0) knows
      quiet_each does quiet (suc n) sum a b (mid, some, more, each, once, adds) knows = quiet_knows (does more) mid n b once (quiet more n once.before once.after once.did) (quiet_each does quiet n some a mid each knows)

      pub quiet_stop : (does : ℕ → Shard R A → Shard R A → Type 0) → ((n m : ℕ) (before after : Shard R A) → does n before after → QuietAt rack area x m before after) → (stops : Shard R A → Shard R A → Type 0) → ((m : ℕ) (before after : Shard R A) → stops before after → QuietAt rack area x m before after)
          → (count : ℕ) (a b : Locked R A G W) → StoppedBy rack area lane_last (LaneWent rack area) true owns does stops count a b → Knowing a (IsGood z w shared) → Knowing b (IsGood z w shared)
      quiet_stop does quiet stops so count a b s knows =
          quiet_knows stops s.mid s.place b s.stop (so s.place s.stop.before s.stop.after s.stop.did) (quiet_each does quiet s.place s.sum a s.mid s.front knows)
