use Rattle.std.proofs.Common.{◌≡◌, ◌++◌, take, string_bytes}
use Rattle.draid_report.specs.Text.{slot_lines}
use Rattle.draid_report.proofs.text.add_arms.Given as goal

abbrev pub invariant-loop-arm : goal.invariant-loop-arm
invariant-loop-arm l = string_bytes l.text ≡ string_bytes l.initial.text ++ slot_lines l.slot (take l.arm-index l.arms)
