use Rattle.std.proofs.Common.{None, ap}
use Rattle.draid_machine.specs.Names.{has_segment}
use Rattle.draid_world.specs.World.{kept_in, site_layout}
use Rattle.draid_replay.proofs.Creation.{new_reached, new_within}
use Rattle.draid_replay.proofs.new.new_world.Goals as goal

pub returns-clause-state : goal.returns-clause-state
returns-clause-state c = λ i. record {
  open_group = 2;
  closing = None;
  committed = 1;
  version = c.args.version;
  asked = c.args.version;
  core = c.in_ok-tables.ensures i;
  serial = 0;
  loan = None;
  image = record { group = 1; version = c.args.version; core = c.in_ok-new_tables.ensures i };
  sealed = None;
  present = ap has_segment c.new.ensures.empty i;
  aside = ap has_segment c.new-2.ensures.empty i;
  kept = ap kept_in c.new-3.ensures.empty i;
}

pub returns-clause-reached : goal.returns-clause-reached
returns-clause-reached c = new_reached (site_layout c.args.site.now) c.args.version _ c.requires.version (returns-clause-state c)

pub returns-clause-within : goal.returns-clause-within
returns-clause-within c = new_within (site_layout c.args.site.now) c.args.version _ (returns-clause-state c)
