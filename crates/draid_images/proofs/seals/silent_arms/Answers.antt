use Rattle.std.proofs.Common.{◌≡◌, ◌++◌, ◌∙◌, Bool, filter, ap, sym, append-nil}
use Rattle.std.specs.Map.{keys_of}
use Rattle.draid_machine.specs.Arms.{lies_on, is_silent}
use Rattle.draid_machine.specs.Names.{has_name}
use Rattle.draid_machine.specs.declared.names.ArmName.{ArmName}
use Rattle.draid_world.specs.World.{core_of, site_layout}
use Rattle.draid_images.proofs.Anyone.{named}
use Rattle.draid_images.proofs.seals.silent_arms.Goals as goal

pub returns : goal.returns
returns c = λ n.
    let test : ArmName → Bool = lies_on (site_layout c.args.site.now) (core_of c.args.tables.now) (is_silent (core_of c.args.tables.now) c.args.failed.now) in
    let whole : c.loop-name.silent.items ≡ filter test (keys_of c.args.tables.now.arms.entries) =
    sym (append-nil c.loop-name.silent.items) ∙ ap (λ es. c.loop-name.silent.items ++ filter test (keys_of es)) (sym c.in-None.ensures.steps.0) ∙ c.loop-name.invariant in
    ap (λ ns. has_name ns n) whole ∙ named test c.args.tables.now.arms.entries n
