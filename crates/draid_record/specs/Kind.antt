use Rattle.std.specs.Prelude.{ℕ}
use Rattle.draid_record.specs.declared.fault.RecordFaultKind.{RecordFaultKind}
use Rattle.draid_record.specs.declared.fault.RecordFaultKind.TheVariants as why

-- the number by which a kind of fault is printed
abbrev pub kind_number : RecordFaultKind → ℕ
kind_number why.Cut = 1
kind_number why.Range = 2
kind_number why.Trailing = 3
kind_number why.Arms = 4
kind_number why.Twice = 5
kind_number why.Leaf = 6
