use Rattle.std.proofs.Common.{◌≡◌, map, take}
use Rattle.serde_json.specs.View.{view}
use Rattle.draid_report.specs.Tree.{arm_tree}
use Rattle.draid_report.proofs.json.arm_values.Given as goal

abbrev pub invariant-loop-arm : goal.invariant-loop-arm
invariant-loop-arm l = map view l.values.items ≡ map arm_tree (take l.arm-index l.arms)
