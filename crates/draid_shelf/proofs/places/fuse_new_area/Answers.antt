use Rattle.std.proofs.Common.{rules, ◌≡◌, true, subst, sym}
use Rattle.std.specs.Prelude.{is_some}
use Rattle.draid_shelf.specs.Memory.{IsMadeArea}
use Rattle.draid_shelf.proofs.Holdings.{made_area_as}
use Rattle.draid_shelf.proofs.places.fuse_new_area.Goals as goal

pub returns : goal.returns
returns c =
    let e = c.put_fuse.ensures in
    let there : is_some c.args.fuse.now ≡ true = search rules in
    λ bytes list is. subst (λ b. IsMadeArea bytes list b c.put_fuse.new.self) (sym there) (made_area_as bytes list _ _ is (record { next = e.next; list = e.failing; fuse = e.fused }) e.told e.size e.faults)
