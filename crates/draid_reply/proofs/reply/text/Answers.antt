use Rattle.draid_reply.specs.Reply.{text_of}
use Rattle.draid_reply.proofs.reply.text.Goals as goal

-- Each arm prints the text of its reply.

pub returns-in-NoPool : goal.returns-in-NoPool
unfolding text_of
returns-in-NoPool c = rw c.in-NoPool.is c.name_said.ensures

pub returns-in-PoolOpen : goal.returns-in-PoolOpen
unfolding text_of
returns-in-PoolOpen c = rw c.in-PoolOpen.is c.name_said-in-PoolOpen.ensures

pub returns-in-NoMemory : goal.returns-in-NoMemory
unfolding text_of
returns-in-NoMemory c = rw c.in-NoMemory.is c.name_said-in-NoMemory.ensures

pub returns-in-Worn : goal.returns-in-Worn
unfolding text_of
returns-in-Worn c = rw c.in-Worn.is c.name_said-in-Worn.ensures

pub returns-in-Last : goal.returns-in-Last
unfolding text_of
returns-in-Last c = rw c.in-Last.is c.name_said-in-Last.ensures

pub returns-in-PassThere : goal.returns-in-PassThere
unfolding text_of
returns-in-PassThere c = rw c.in-PassThere.is c.pass_there.ensures

pub returns-in-NoCheckpoint : goal.returns-in-NoCheckpoint
unfolding text_of
returns-in-NoCheckpoint c = rw c.in-NoCheckpoint.is c.name_said-in-NoCheckpoint.ensures

pub returns-in-Created : goal.returns-in-Created
unfolding text_of
returns-in-Created c = rw c.in-Created.is (rw c.deref.ensures at c.created.ensures)

pub returns-in-CreateRefused : goal.returns-in-CreateRefused
unfolding text_of
returns-in-CreateRefused c = rw c.in-CreateRefused.is c.create_refused.ensures

pub returns-in-Imported : goal.returns-in-Imported
unfolding text_of
returns-in-Imported c = rw c.in-Imported.is (rw c.deref-in-Imported.ensures at c.imported.ensures)

pub returns-in-Exported : goal.returns-in-Exported
unfolding text_of
returns-in-Exported c = rw c.in-Exported.is c.numbered.ensures

pub returns-in-Synced : goal.returns-in-Synced
unfolding text_of
returns-in-Synced c = rw c.in-Synced.is c.twice_numbered.ensures

pub returns-in-Crashed : goal.returns-in-Crashed
unfolding text_of
returns-in-Crashed c = rw c.in-Crashed.is c.from_str.ensures.ok
