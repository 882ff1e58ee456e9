use Rattle.std.proofs.Common.{arith}
use Rattle.draid_import.proofs.Reopened.{read_long}
use Rattle.draid_import.proofs.reopening.first_block.Goals as goal

pub length_of-requires : goal.length_of-requires
length_of-requires c =
    let r = c.requires in
    read_long r.geometry r.perms r.limits r.there c.args.bytes.now c.args.tables.now r.read (λ i. let fits = c.type_inv.bytes i in omega (arith, fits))
