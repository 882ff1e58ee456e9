use Rattle.std.proofs.Common.{arith, ◌∙◌, [], refl, sym}
use Rattle.std.proofs.lemmas.List.{append-nil}
use Rattle.draid_agent.specs.Policy.{PolicyReturns}
use Rattle.draid_changes.proofs.GivenTo.{sliced}
use Rattle.draid_run.proofs.Repaired.{agent_cause, agent_fits, agent_notes, agent_step, agent_wants, list_added, list_short, some_entries}
use Rattle.draid_run.proofs.repairing.reply_to_agent.Goals as goal

pub returns-in_default : goal.returns-in_default
returns-in_default g c = record {
  whole = c.requires.whole;
  same = λ object. refl;
  cause = λ failed. absurd (cc failed);
  fits = tt;
  notes = ([], tt, sym (append-nil c.args.journal.now.entries));
  step = agent_wants g.R.Rack g.A.Area (PolicyReturns g.P.Fn c.args.policy.now) c.args.least c.args.journal.now.entries c.args.journal.now.entries c.args.pool.now _ refl refl;
}

pub copied-entries-requires : goal.copied-entries-requires
copied-entries-requires g c =
    let came = some_entries c.repair-answer.result c.args.journal.now.entries c.repair-answer.new.journal.entries c.repair-answer.ensures.entries in
    let short = list_short c.args.journal.now.entries c.repair-answer.new.journal.entries _ came (sliced c.entries-first.result.now c.entries.result.now c.args.journal.now.entries c.repair-answer.new.journal.entries c.entries-first.ensures c.entries.ensures) in
    let exact = c.in-Ok.ensures.exact in
    record { empty = c.in-Ok.ensures.items; len = c.in-Ok.ensures.len; room = omega (arith, short, exact) }

pub returns : goal.returns
returns g c =
    let e = c.repair-answer.ensures in
    let came = some_entries c.repair-answer.result c.args.journal.now.entries c.repair-answer.new.journal.entries e.entries in
    let added = list_added c.args.journal.now.entries c.repair-answer.new.journal.entries c.copied-entries.result.items came
    (c.copied-entries.ensures ∙ sliced c.entries-first.result.now c.entries.result.now c.args.journal.now.entries c.repair-answer.new.journal.entries c.entries-first.ensures c.entries.ensures) in
    record {
      whole = e.whole;
      same = e.same;
      cause = λ failed. e.cause (agent_cause c.args.pool.now.geometry.spec.parity c.args.least c.copied-entries.result c.repair-answer.result c.reply_of.result c.reply_of.ensures failed);
      fits = agent_fits c.args.pool.now.geometry.spec.parity c.args.least c.copied-entries.result c.repair-answer.result c.reply_of.result c.reply_of.ensures;
      notes = agent_notes c.args.pool.now.geometry.spec.parity c.args.least c.copied-entries.result c.args.journal.now.entries c.repair-answer.new.journal.entries added c.repair-answer.result c.reply_of.result c.reply_of.ensures e.entries;
      step = agent_step g.R.Rack g.A.Area (PolicyReturns g.P.Fn c.args.policy.now) c.args.least c.args.journal.now.entries c.repair-answer.new.journal.entries c.args.pool.now c.repair-answer.new.pool c.copied-entries.result c.reply_of.result c.repair-answer.result
          c.reply_of.ensures added e.carries;
    }
