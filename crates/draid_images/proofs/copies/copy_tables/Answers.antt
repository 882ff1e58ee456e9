use Rattle.draid_world.specs.World.{core_of, names_at}
use Rattle.std.proofs.Common.{◌∙◌, ap}
use Rattle.draid_images.proofs.copies.copy_tables.Goals as goal

pub returns : goal.returns
returns c = λ i. record (core_of c.args.tables.now) {
  held = λ k. c.in_ok-held.ensures k i;
  arm = λ n. c.in_ok-arms.ensures n i;
  order = λ x. (c.in_ok-order.ensures x ∙ ap (λ vs. names_at vs x) c.deref.ensures.value) i;
  pass = c.in_ok-pass.ensures i;
}
