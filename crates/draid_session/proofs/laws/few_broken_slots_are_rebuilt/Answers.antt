use Rattle.std.proofs.Common.{◌∙◌, refl, sym}
use Rattle.draid_session.proofs.Sources.{few_counts}
use Rattle.draid_session.proofs.laws.few_broken_slots_are_rebuilt.Goals as goal

pub returns : goal.returns
returns g c limit from stripes errors x z it lay reached idle few calm = (let does = it.does in sym does.1.4 ∙ few_counts x.geometry x.perms lay limit it.holds does.1.0 x it.mid refl refl does.1.1 it.follows reached idle few calm)
