use Rattle.std.proofs.Common.{◌≡◌, map, take}
use Rattle.std.specs.List.{enumerate_from}
use Rattle.serde_json.specs.View.{view}
use Rattle.draid_report.specs.Tree.{metaslab_tree}
use Rattle.draid_report.proofs.json.metaslab_values.Given as goal

abbrev pub invariant-loop-number : goal.invariant-loop-number
invariant-loop-number l = map view l.values.items ≡ map (λ at. metaslab_tree at.0 at.1) (enumerate_from 0 (take l.number l.metaslabs))
