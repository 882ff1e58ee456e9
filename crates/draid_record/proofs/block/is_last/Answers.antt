use Rattle.std.proofs.Common.{◌≡◌, ◌≤◌, ◌∷◌, [], true, List, length, arith}
use Rattle.draid_ranges.specs.declared.run.Run.{Run}
use Rattle.std.specs.Prelude.{Bool, false, ◌==◌, ◌&&◌}
use Rattle.std.proofs.Common.{refl}
use Rattle.draid_record.specs.Record as spec
use Rattle.draid_record.specs.Record.{told_arm, told_slot, told_slots, told_pass, ArmTold, PassTold, RecordTold}
use Rattle.draid_record.proofs.block.is_last.Goals as goal

and_none : (b : Bool) → false ≡ (b && false)
and_none true = refl
and_none false = refl

more_runs : (runs : List Run) (r : Run) → 2 ≤ length runs → false ≡ spec.same_runs runs (r ∷ [])
more_runs [] r long = absurd (omega arith)
more_runs (x ∷ []) r long = absurd (omega arith)
more_runs (x ∷ y ∷ zs) r long = and_none ((x.first == r.first) && (x.len == r.len))

pub returns-in_default-2 : goal.returns-in_default-2
returns-in_default-2 c = more_runs c.args.runs.now _ c.in_default.len_at_least
