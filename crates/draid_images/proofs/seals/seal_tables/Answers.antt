use Rattle.draid_world.specs.declared.world.Tables.{Tables}
use Rattle.draid_world.specs.World.{core_of}
use Rattle.std.proofs.Common.{◌∙◌, ap}
use Rattle.draid_images.proofs.seals.seal_tables.Goals as goal

pub returns : goal.returns
returns c =
    ap (λ (x : Tables). core_of (record x { pass = c.in_ok-pass.pass })) c.log_silent.ensures.rest
    ∙ (λ i. record (core_of c.args.tables.now) { arm = λ n. c.in_ok-log_silent.ensures.logs n i; pass = c.in_ok-pass.ensures i })
