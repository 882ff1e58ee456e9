use Rattle.std.proofs.Common.{sym, ap, ◌∙◌}
use Rattle.std.proofs.lemmas.List.{take_all}
use Rattle.std.specs.List.{flat_map}
use Rattle.draid_reply.specs.Agent.{act_of}
use Rattle.draid_reply.proofs.Growing.{one_more}
use Rattle.draid_reply.proofs.agent.acts.Goals as goal

pub loop-entry-init : goal.loop-entry-init
loop-entry-init c = c.new-text.ensures.bytes

pub loop-entry-preserved : goal.loop-entry-preserved
loop-entry-preserved c = one_more (act_of c.args.parity) c.args.entries.now c.loop-entry.entry-index _ _ _ _ c.loop-entry-test.true c.loop-entry.invariant (c.deref.ensures ∙ c.in_ok-act.ensures) c.in_ok-push_str.ensures.bytes

pub returns : goal.returns
returns c = c.loop-entry.invariant ∙ ap (flat_map (act_of c.args.parity)) (take_all c.loop-entry.entry-index c.args.entries.now c.loop-entry-test.false)
