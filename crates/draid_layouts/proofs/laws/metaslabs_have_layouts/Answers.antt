use Rattle.draid_layouts.proofs.Layouts.{layout_is}
use Rattle.draid_layouts.proofs.laws.metaslabs_have_layouts.Goals as goal

pub returns : goal.returns
returns c = layout_is
