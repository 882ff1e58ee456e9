use Rattle.std.proofs.Common.{refl}
use Rattle.std.specs.Fn.{FnReturnsAt}
use Rattle.draid_session.specs.Choices.{choices_by}
use Rattle.draid_script.specs.Line.{command_in}
use Rattle.draid_run.proofs.Steps.{broke_open, did_open, did_shut, is_whole}
use Rattle.draid_run.proofs.answer.ask.Goals as goal

pub returns-in-Ok : goal.returns-in-Ok
returns-in-Ok g c = record {
  did = λ x stands. (
    c.asked-command.result,
    c.asked-command.ensures,
    did_open g.R.Rack g.A.Area (choices_by (FnReturnsAt g.F.Fn c.args.chooser.now)) (command_in c.args.line.now) c.asked-command.result c.in-Ok.reply c.args.pool.now c.in-Some.pool c.reply.new.pool c.in-Some.is c.in-Ok.ensures.whole c.in-Ok.ensures.fits c.in-Ok.ensures.knows c.in-Ok.ensures.arms c.in-Ok.ensures.passes c.in-Ok.ensures.step x stands,
  );
}

pub returns-in-Err : goal.returns-in-Err
returns-in-Err g c = record {
  did = λ x stands. (c.asked-command.result, c.asked-command.ensures, broke_open g.R.Rack g.A.Area (command_in c.args.line.now) c.args.pool.now c.in-Some.pool c.reply.new.pool c.in-Some.is c.in-Err.ensures.whole (c.in-Err.ensures.breaks refl) c.in-Err.ensures.step x stands);
}

pub returns-in-None : goal.returns-in-None
returns-in-None g c = record {
  did = λ x stands. (
    c.asked-command.result,
    c.asked-command.ensures,
    did_shut g.R.Rack g.A.Area (choices_by (FnReturnsAt g.F.Fn c.args.chooser.now)) (command_in c.args.line.now) c.asked-command.result c.no_pool.result c.args.pool.now c.args.pool.now c.in-None.is c.in-None.is c.no_pool.ensures x stands,
  );
}

pub reply-requires-clause-chooser : goal.reply-requires-clause-chooser
reply-requires-clause-chooser g c κs within = c.requires.chooser

pub reply-requires-clause-range : goal.reply-requires-clause-range
reply-requires-clause-range g c κs within = c.requires.range

pub reply-requires-clause-asks : goal.reply-requires-clause-asks
reply-requires-clause-asks g c κs within = c.requires.asks

pub reply-requires-clause-whole : goal.reply-requires-clause-whole
reply-requires-clause-whole g c κs within = is_whole g.R.Rack g.A.Area c.args.pool.now c.in-Some.pool c.in-Some.is c.requires.desk
