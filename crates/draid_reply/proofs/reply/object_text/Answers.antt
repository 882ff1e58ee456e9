use Rattle.draid_reply.specs.Reply.{text_of}
use Rattle.draid_reply.proofs.reply.object_text.Goals as goal

-- Each arm prints the text of its reply.

pub returns-in-Written : goal.returns-in-Written
unfolding text_of
returns-in-Written c = rw c.in-Written.is c.numbered.ensures

pub returns-in-Missed : goal.returns-in-Missed
unfolding text_of
returns-in-Missed c = rw c.in-Missed.is (rw c.from.ensures at c.twice_numbered.ensures)

pub returns-in-WriteLast : goal.returns-in-WriteLast
unfolding text_of
returns-in-WriteLast c = rw c.in-WriteLast.is c.numbered-in-WriteLast.ensures

pub returns-in-Filled : goal.returns-in-Filled
unfolding text_of
returns-in-Filled c = rw c.in-Filled.is c.twice_numbered-in-Filled.ensures

pub returns-in-FillRefused : goal.returns-in-FillRefused
unfolding text_of
returns-in-FillRefused c = rw c.in-FillRefused.is c.fill_refused.ensures

pub returns-in-Contents : goal.returns-in-Contents
unfolding text_of
returns-in-Contents c = rw c.in-Contents.is (rw c.deref.ensures.value at c.contents.ensures)

pub returns-in-NoObject : goal.returns-in-NoObject
unfolding text_of
returns-in-NoObject c = rw c.in-NoObject.is c.numbered-in-NoObject.ensures

pub returns-in-ReadWorn : goal.returns-in-ReadWorn
unfolding text_of
returns-in-ReadWorn c = rw c.in-ReadWorn.is c.numbered-in-ReadWorn.ensures

pub returns-in-Summed : goal.returns-in-Summed
unfolding text_of
returns-in-Summed c = rw c.in-Summed.is c.summed.ensures

pub returns-in-SumRefused : goal.returns-in-SumRefused
unfolding text_of
returns-in-SumRefused c = rw c.in-SumRefused.is c.sum_refused.ensures

pub returns-in-Freed : goal.returns-in-Freed
unfolding text_of
returns-in-Freed c = rw c.in-Freed.is c.numbered-in-Freed.ensures

pub returns-in-FreeNoObject : goal.returns-in-FreeNoObject
unfolding text_of
returns-in-FreeNoObject c = rw c.in-FreeNoObject.is c.numbered-in-FreeNoObject.ensures
