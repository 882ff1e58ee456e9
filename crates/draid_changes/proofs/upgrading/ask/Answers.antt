use Rattle.std.proofs.Common.{refl}
use Rattle.draid_pool.specs.declared.pool.Pool.{Pool}
use Rattle.draid_changes.proofs.Gone.{all_asked}
use Rattle.draid_changes.proofs.Upgraded.{AsksPool, asked_done}
use Rattle.draid_changes.proofs.UpgradedWhole.{areas_asked, whole_asked}
use Rattle.draid_changes.proofs.upgrading.ask.Goals as goal

pub upgrade-requires : goal.upgrade-requires
upgrade-requires g c = record { valid = c.requires.whole.uber }

pub returns : goal.returns
returns g c =
    let old = c.args.pool.now in
    let new : Pool g.row.R.Denot g.row.A.Denot = record old { metaslabs = record { shards = c.ask_all.new.shards }; uber = c.upgrade.new.self } in
    let e = c.upgrade.ensures in
    let asks : AsksPool g.R.Rack g.A.Area old new
    = record {
      metaslabs = c.ask_all.ensures.upgrades;
      uber = record { valid = e.valid; version = e.version; areas_is = e.areas; kept = e.kept; layout = e.layout; next_leaf = e.leaf; point = e.point; changed = e.changed };
      geometry = refl;
      objects = refl;
      seq = refl;
      floor = refl;
    } in
    record {
      whole = whole_asked g.R.Rack g.A.Area old new asks c.requires.whole;
      objects = refl;
      later = areas_asked g.R.Rack g.A.Area old new asks;
      asked = all_asked g.R.Rack old new c.ask_all.ensures.upgrades;
      carries = λ x is one. asked_done g.R.Rack g.A.Area old new x is one (λ m shard there. (c.requires.ready m shard there).idle) asks;
    }
