use Rattle.std.proofs.Common.{◌≡◌, map, take}
use Rattle.serde_json.specs.View.{view}
use Rattle.draid_report.specs.Tree.{slot_tree}
use Rattle.draid_report.proofs.json.slot_values.Given as goal

abbrev pub invariant-loop-arms : goal.invariant-loop-arms
invariant-loop-arms l = map view l.values.items ≡ map slot_tree (take l.arms-index l.slots)
