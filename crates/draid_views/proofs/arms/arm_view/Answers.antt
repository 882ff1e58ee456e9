use Rattle.std.proofs.lemmas.Result.{IfOk-from_err}
use Rattle.draid_views.proofs.arms.arm_view.Goals as goal

pub name_if_spare-requires : goal.name_if_spare-requires
name_if_spare-requires g c = c.requires.small

pub returns-in_err-spare_name : goal.returns-in_err-spare_name
returns-in_err-spare_name g c = record { arm = IfOk-from_err c.from_residual.result _ c.from_residual.ensures.0; told = IfOk-from_err c.from_residual.result _ c.from_residual.ensures.0 }

pub logged_groups-logged-requires : goal.logged_groups-logged-requires
logged_groups-logged-requires g c = c.requires.few
