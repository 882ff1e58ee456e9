use Rattle.draid_world.specs.World.{pass_of}
use Rattle.std.proofs.Common.{◌∙◌, Some, ap, option_map, sym}
use Rattle.draid_images.proofs.copies.copy_pass.Goals as goal

pub returns : goal.returns
returns c =
    ap (λ xs. Some (record (pass_of c.in-Some.pass) { targets = xs })) (c.in_ok-targets.ensures.items ∙ c.deref.ensures.value)
    ∙ sym (ap (option_map pass_of) c.in-Some.is)

pub returns-in_default : goal.returns-in_default
returns-in_default c = sym (ap (option_map pass_of) c.in_default.is)
