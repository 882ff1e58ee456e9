use Rattle.draid_report.specs.Text.{metaslab_line}
use Rattle.draid_report.proofs.Enumerated.{text_more}
use Rattle.draid_report.proofs.text.add_metaslabs.Goals as goal

pub loop-metaslab-preserved : goal.loop-metaslab-preserved
loop-metaslab-preserved c =
    text_more (λ at. metaslab_line at.0 at.1) _ c.loop-metaslab.metaslab _ _ _ _
    c.loop-metaslab-test.true c.loop-metaslab.invariant c.in_ok-add_metaslab.ensures
