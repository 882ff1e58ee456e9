use Rattle.std.proofs.Common.{◌==◌}
use Rattle.std.specs.Prelude.{take}
use Rattle.std.specs.List.{list_any}
use Rattle.draid_rack.specs.Soft.{FlushesThose}
use Rattle.draid_rack.proofs.leaf.flush_these.Given as goal

abbrev pub invariant-loop-sector : goal.invariant-loop-sector
invariant-loop-sector l = FlushesThose (λ s. list_any (λ k. k == s) (take l.sector-index l.fn.listed)) l.fn.sectors.items l.sectors.items
