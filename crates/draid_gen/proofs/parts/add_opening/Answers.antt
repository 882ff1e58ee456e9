use Rattle.std.proofs.Common.{◌∷◌, [], codes}
use Rattle.draid_script.specs.Line.{OpenLanes}
use Rattle.draid_gen.specs.Workload.{Outside, create}
use Rattle.draid_gen.proofs.Lines.{adds_more}
use Rattle.draid_gen.proofs.parts.add_opening.Goals as goal

pub returns : goal.returns
returns c =
    adds_more _ _ _ (create c.args.number ∷ []) (Outside (codes "lanes 4") (OpenLanes 4) ∷ []) c.in_ok-add_create.ensures c.in_ok-push_str.ensures.bytes
