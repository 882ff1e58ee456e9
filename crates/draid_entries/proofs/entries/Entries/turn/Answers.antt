use Rattle.std.proofs.Common.{Some}
use Rattle.draid_entries.specs.Maps.{staged}
use Rattle.draid_entries.proofs.Sets.{agrees, sets, turns}
use Rattle.draid_entries.proofs.entries.Entries.turn.Goals as goal

pub invariant_of-self : goal.invariant_of-self
invariant_of-self c = record {
  agree = agrees c.args.self.now.firsts c.replace.new.firsts c.args.self.now.keys c.args.self.now.keys c.args.pointer.now (Some (staged c.args.stage c.args.pointer.now))
      (turns c.args.self.now.firsts c.replace.new.firsts c.args.self.now.keys c.args.pointer.now c.args.stage c.args.self.now.agree c.requires.there.stage c.requires.there.there c.replace.ensures.updates.0);
  ordered = c.args.self.now.ordered;
}

pub returns-clause-entered : goal.returns-clause-entered
returns-clause-entered c = sets c.args.self.now _ c.args.pointer.now (Some (staged c.args.stage c.args.pointer.now))
    (turns c.args.self.now.firsts c.replace.new.firsts c.args.self.now.keys c.args.pointer.now c.args.stage c.args.self.now.agree c.requires.there.stage c.requires.there.there c.replace.ensures.updates.0)
