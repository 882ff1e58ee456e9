use Rattle.std.proofs.Common.{◌∙◌, [], ◌∷◌, ap, sym}
use Rattle.draid_machine.specs.Arms.{has_moved}
use Rattle.draid_machine.specs.Names.{has_name, name_eq}
use Rattle.draid_machine.specs.declared.names.ArmName.TheVariants.{Spare}
use Rattle.draid_machine.proofs.Small.{has_append}
use Rattle.draid_world.specs.World.{core_of, site_layout}
use Rattle.draid_arms.specs.Moves.{core_before}
use Rattle.draid_arms.proofs.Moved.{one_more}
use Rattle.draid_arms.proofs.moves.add_moved.Goals as goal

pub returns-in_ok-push : goal.returns-in_ok-push
returns-in_ok-push c = λ n.
    ap (λ ns. has_name ns n) c.in_ok-push.ensures.items ∙ has_append c.args.moved.now.items (Spare c.args.spare ∷ []) n
    ∙ one_more (has_name c.args.moved.now.items n) (name_eq (Spare c.args.spare) n) (has_moved (site_layout c.args.site.now) (core_before c.args.tables.now c.args.before.now) (core_of c.args.tables.now) (Spare c.args.spare))
    (sym c.has_moved.ensures ∙ c.if-has_moved.true)
