use Rattle.std.proofs.Common.{length}
use Rattle.draid_pool.specs.Syncing.{AreIdle}
use Rattle.draid_pool.proofs.Wholes.{same_pointers}
use Rattle.draid_changes.specs.Giving.{AllReady, AllStay}
use Rattle.draid_changes.specs.Walks.{ChangedBelow, Reserves}
use Rattle.draid_changes.specs.declared.need.Need.TheVariants as needs
use Rattle.draid_changes.proofs.Balanced.{no_passes_on}
use Rattle.draid_changes.proofs.Events.{idle_reserved}
use Rattle.draid_changes.proofs.Spares.{all_ready, all_stay, on_ok}
use Rattle.draid_changes.proofs.giving.reserve_spares.Goals as goal

pub returns : goal.returns
returns g c =
    let old = c.args.pool.now in
    let late = c.reserve_all.new.pool in
    let count = c.args.count in
    let e = c.reserve_all.ensures in
    let Same = ChangedBelow (Reserves (needs.Spares count)) (length old.metaslabs.shards.items) old.metaslabs.shards.items late.metaslabs.shards.items in
    record {
      whole = e.whole;
      same = same_pointers old late e.objects;
      later = e.later;
      idle = on_ok c.reserve_all.result Same (AreIdle late.metaslabs.shards.items) (λ r. idle_reserved g.R.Rack g.A.Area (needs.Spares count) old late c.requires.idle r) e.reserves;
      passes = no_passes_on old late e.passes c.requires.passes;
      ready = on_ok c.reserve_all.result Same (AllReady count late) (λ r. all_ready g.R.Rack g.A.Area count old late r e.passes c.requires.passes) e.reserves;
      arms = on_ok c.reserve_all.result Same (AllStay old late) (λ r. all_stay g.R.Rack g.A.Area count old late r) e.reserves;
      carries = e.carries;
    }
