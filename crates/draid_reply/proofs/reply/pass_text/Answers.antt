use Rattle.draid_reply.specs.Reply.{text_of}
use Rattle.draid_reply.proofs.reply.pass_text.Goals as goal

-- Each arm prints the text of its reply.

pub returns-in-Rebuilt : goal.returns-in-Rebuilt
unfolding text_of
returns-in-Rebuilt c = rw c.in-Rebuilt.is c.rebuilt.ensures

pub returns-in-RebuildNothing : goal.returns-in-RebuildNothing
unfolding text_of
returns-in-RebuildNothing c = rw c.in-RebuildNothing.is c.from_str.ensures.ok

pub returns-in-Scrubbed : goal.returns-in-Scrubbed
unfolding text_of
returns-in-Scrubbed c = rw c.in-Scrubbed.is c.scrubbed.ensures

pub returns-in-Rebalanced : goal.returns-in-Rebalanced
unfolding text_of
returns-in-Rebalanced c = rw c.in-Rebalanced.is c.rebalanced.ensures

pub returns-in-RebalanceRefused : goal.returns-in-RebalanceRefused
unfolding text_of
returns-in-RebalanceRefused c = rw c.in-RebalanceRefused.is c.slot_refused.ensures

pub returns-in-RebalanceWorn : goal.returns-in-RebalanceWorn
unfolding text_of
returns-in-RebalanceWorn c = rw c.in-RebalanceWorn.is (rw c.from.ensures at c.numbered.ensures)

pub returns-in-RebalanceLast : goal.returns-in-RebalanceLast
unfolding text_of
returns-in-RebalanceLast c = rw c.in-RebalanceLast.is (rw c.from-in-RebalanceLast.ensures at c.numbered-in-RebalanceLast.ensures)

pub returns-in-Cancelled : goal.returns-in-Cancelled
unfolding text_of
returns-in-Cancelled c = rw c.in-Cancelled.is (rw c.from-in-Cancelled.ensures at c.numbered-in-Cancelled.ensures)
