use Rattle.std.proofs.Common.{◌∙◌}
use Rattle.draid_shelf.proofs.Holdings.{made_rack}
use Rattle.draid_shelf.proofs.places.rack_of.Goals as goal

pub returns : goal.returns
returns c =
    let e = c.in_ok-rack.ensures in
    c.in_ok-fuse_new_rack.ensures c.args.geometry.now _
    (made_rack c.args.geometry.now _ c.in_ok-rack.rack c.metaslab_sectors.result (record { next = e.next; list = e.failing ∙ c.in_ok-numbers.ensures; fuse = e.fused }) c.metaslab_sectors.ensures.value e.just e.zeros e.firm e.unharmed e.counts)
