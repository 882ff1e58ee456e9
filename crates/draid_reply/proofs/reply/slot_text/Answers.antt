use Rattle.draid_reply.specs.Reply.{text_of}
use Rattle.draid_reply.proofs.reply.slot_text.Goals as goal

-- Each arm prints the text of its reply.

pub returns-in-Spared : goal.returns-in-Spared
unfolding text_of
returns-in-Spared c = rw c.in-Spared.is (rw c.deref.ensures at c.spared.ensures)

pub returns-in-SpareRefused : goal.returns-in-SpareRefused
unfolding text_of
returns-in-SpareRefused c = rw c.in-SpareRefused.is c.slot_refused.ensures

pub returns-in-SpareWorn : goal.returns-in-SpareWorn
unfolding text_of
returns-in-SpareWorn c = rw c.in-SpareWorn.is (rw c.from.ensures at c.numbered.ensures)

pub returns-in-Replaced : goal.returns-in-Replaced
unfolding text_of
returns-in-Replaced c = rw c.in-Replaced.is (rw c.from-in-Replaced.ensures at c.twice_numbered.ensures)

pub returns-in-ReplaceRefused : goal.returns-in-ReplaceRefused
unfolding text_of
returns-in-ReplaceRefused c = rw c.in-ReplaceRefused.is c.slot_refused-in-ReplaceRefused.ensures

pub returns-in-ReplaceWorn : goal.returns-in-ReplaceWorn
unfolding text_of
returns-in-ReplaceWorn c = rw c.in-ReplaceWorn.is (rw c.from-in-ReplaceWorn.ensures at c.numbered-in-ReplaceWorn.ensures)

pub returns-in-Detached : goal.returns-in-Detached
unfolding text_of
returns-in-Detached c = rw c.in-Detached.is c.detached.ensures

pub returns-in-DetachRefused : goal.returns-in-DetachRefused
unfolding text_of
returns-in-DetachRefused c = rw c.in-DetachRefused.is c.detach_refused.ensures

pub returns-in-DetachWorn : goal.returns-in-DetachWorn
unfolding text_of
returns-in-DetachWorn c = rw c.in-DetachWorn.is c.detach_stopped.ensures

pub returns-in-DetachLast : goal.returns-in-DetachLast
unfolding text_of
returns-in-DetachLast c = rw c.in-DetachLast.is c.detach_stopped-in-DetachLast.ensures
