use Rattle.std.proofs.Common.{None, ap, ◌∙◌}
use Rattle.draid_entries.specs.Maps.{first_in}
use Rattle.draid_entries.proofs.Keys.{first_lookup}
use Rattle.draid_entries.proofs.Sets.{agrees, goes, one_less, sets}
use Rattle.draid_entries.proofs.entries.Entries.remove.Goals as goal

pub invariant_of-self : goal.invariant_of-self
invariant_of-self c = record {
  agree = agrees c.args.self.now.firsts c.remove.new.self c.args.self.now.keys c.remove-2.new.self c.args.pointer.now None
      (goes c.args.self.now.firsts c.remove.new.self c.args.self.now.keys c.remove-2.new.self c.args.pointer.now c.key_of.result c.key_of.ensures c.args.self.now.agree c.requires.there.stage c.requires.there.there
      c.remove.ensures.updates.0 c.remove-2.ensures.updates.0);
  ordered = c.remove-2.ensures.ordered;
}

pub returns-clause-entered : goal.returns-clause-entered
returns-clause-entered c = sets c.args.self.now _ c.args.pointer.now None
    (goes c.args.self.now.firsts c.remove.new.self c.args.self.now.keys c.remove-2.new.self c.args.pointer.now c.key_of.result c.key_of.ensures c.args.self.now.agree c.requires.there.stage c.requires.there.there
    c.remove.ensures.updates.0 c.remove-2.ensures.updates.0)

pub returns-clause-count : goal.returns-clause-count
returns-clause-count c =
    let named = (c.args.self.now.agree.found c.args.pointer.now.first _ c.requires.there.there).named in
    one_less c.remove-2.result c.args.pointer.now.first _ _
    (c.remove-2.ensures.value ∙ first_lookup c.args.self.now.keys.entries c.key_of.result ∙ ap (first_in c.args.self.now.keys.entries) c.key_of.ensures ∙ named) c.remove-2.ensures.len
