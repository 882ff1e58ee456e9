use Rattle.std.proofs.Common.{subst, inl, inr}
use Rattle.draid_world.specs.World.{image_of}
use Rattle.draid_images.specs.Openings.{IsLowImage}
use Rattle.draid_images.proofs.openings.reopen.Goals as goal

pub returns-then-not-choose-clause-illegal : goal.returns-then-not-choose-clause-illegal
returns-then-not-choose-clause-illegal c = λ e new step. c.choose.ensures.none c.if-not-choose.true step.image step.one

pub open-requires : goal.open-requires
open-requires c = record {
  image = elim (c.choose.ensures.chosen c.if-not-choose.false) [
    | inl z ↦ subst IsLowImage z.0 c.requires.image
    | inr z ↦ c.requires.sealed (image_of c.choose.new.world.image) z.0
  ];
}
