use Rattle.std.proofs.Common.{◌≡◌, ◌++◌, take, string_bytes}
use Rattle.draid_report.specs.Text.{metaslabs_text}
use Rattle.draid_report.proofs.text.add_metaslabs.Given as goal

abbrev pub invariant-loop-metaslab : goal.invariant-loop-metaslab
invariant-loop-metaslab l = string_bytes l.text ≡ string_bytes l.initial.text ++ metaslabs_text (take l.metaslab l.metaslabs)
