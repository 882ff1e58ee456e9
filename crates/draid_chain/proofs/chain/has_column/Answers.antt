use Rattle.std.proofs.Common.{◌≡◌, ◌+◌, arith}
use Rattle.draid_perm.specs.Perms.{children_of}
use Rattle.draid_chain.proofs.Holders.{test_is}
use Rattle.draid_chain.proofs.chain.has_column.Goals as goal

pub returns-clause-test : goal.returns-clause-test
returns-clause-test c =
    let disks : c.args.geometry.now.ndisks + c.args.geometry.now.spec.spares ≡ c.args.geometry.now.spec.children = c.requires.geometry.disks in
    let all : children_of c.args.perms.now ≡ c.args.geometry.now.spec.children = c.requires.children in
    test_is c.args.perms.now c.args.slice c.args.geometry.now.ndisks c.position.result c.args.slot
    (λ other low is. c.position.ensures.only other (omega arith) is) c.position.ensures.inverse
