-- The rows of a block follow one another on each leaf.
use Rattle.std.proofs.Common.{◌≡◌, ◌+◌, ◌<◌, ℕ, ap, refl, if◌then◌else◌, None}
use Rattle.std.specs.Prelude.{nat_lt}
use Rattle.draid_machine.specs.Arms as arms
use Rattle.draid_machine.specs.State as machine
use Rattle.draid_machine.specs.declared.names.ArmName.{ArmName}
use Rattle.draid_machine.specs.declared.names.ArmName.TheVariants.{Leaf, Spare}
use Rattle.draid_machine.specs.declared.names.Held.{Held}
use Rattle.draid_shard.specs.Part.{IsPart, IsRun, Part, layout_in}
use Rattle.draid_shard.proofs.Homes.{lays, row_sector, same_group}
use Rattle.draid_shard.specs.Spots.{IsStraight}

row_leaf : (part : Part) (q : machine.Core) (h : Held) → IsPart part → IsRun part.geometry h.first h.stripes → (n : ArmName) (row : ℕ) → row < h.stripes
    → arms.leaf_at (layout_in part) q.order n (h.first + row) ≡ arms.leaf_at (layout_in part) q.order n h.first
row_leaf part q h is run (Leaf m) row less = refl
row_leaf part q h is run (Spare t) row less =
    ap (λ s. if nat_lt t part.geometry.spec.spares then arms.first_leaf (q.order s) else None)
    ((lays part is).steady_home (arms.first_spares q.order) (h.first + row) h.first t (same_group part is h.first h.stripes row run less))

pub straight : (part : Part) (q : machine.Core) (h : Held) → IsPart part → IsRun part.geometry h.first h.stripes → IsStraight (layout_in part) q h
straight part q h is run = record {
  sectors = λ c row less. row_sector part is h.first h.stripes row c run less;
  leaves = row_leaf part q h is run;
}
