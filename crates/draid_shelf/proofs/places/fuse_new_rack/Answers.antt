use Rattle.std.proofs.Common.{rules, ◌≡◌, true, subst, sym}
use Rattle.std.specs.Prelude.{is_some}
use Rattle.draid_shelf.specs.Memory.{IsMade}
use Rattle.draid_shelf.proofs.Holdings.{made_as}
use Rattle.draid_shelf.proofs.places.fuse_new_rack.Goals as goal

pub returns : goal.returns
returns c =
    let e = c.put_fuse.ensures in
    let there : is_some c.args.fuse.now ≡ true = search rules in
    λ geometry list is. subst (λ b. IsMade geometry list b c.put_fuse.new.self) (sym there) (made_as geometry list _ _ is (record { next = e.next; list = e.failing; fuse = e.fused }) e.told e.shape e.counts)
