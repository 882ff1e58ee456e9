use Rattle.draid_reply.specs.Reply.{text_of}
use Rattle.draid_reply.proofs.reply.late_text.Goals as goal

-- Each arm prints the text of its reply.

pub returns-in-LanesClash : goal.returns-in-LanesClash
unfolding text_of
returns-in-LanesClash c = rw c.in-LanesClash.is c.numbered.ensures

pub returns-in-LanesClashMend : goal.returns-in-LanesClashMend
unfolding text_of
returns-in-LanesClashMend c = rw c.in-LanesClashMend.is c.from_str.ensures.ok

pub returns-in-LanesCheckpoint : goal.returns-in-LanesCheckpoint
unfolding text_of
returns-in-LanesCheckpoint c = rw c.in-LanesCheckpoint.is c.from_str-in-LanesCheckpoint.ensures.ok

pub returns-in-Upgraded : goal.returns-in-Upgraded
unfolding text_of
returns-in-Upgraded c = rw c.in-Upgraded.is c.numbered-in-Upgraded.ensures

pub returns-in-UpgradeAlready : goal.returns-in-UpgradeAlready
unfolding text_of
returns-in-UpgradeAlready c = rw c.in-UpgradeAlready.is c.from_str-in-UpgradeAlready.ensures.ok

pub returns-in-AgentIdle : goal.returns-in-AgentIdle
unfolding text_of
returns-in-AgentIdle c = rw c.in-AgentIdle.is c.from_str-in-AgentIdle.ensures.ok

pub returns-in-Acted : goal.returns-in-Acted
unfolding text_of
returns-in-Acted c = rw c.in-Acted.is (rw c.deref.ensures.value at c.acted.ensures)

pub returns-in-Journal : goal.returns-in-Journal
unfolding text_of
returns-in-Journal c = rw c.in-Journal.is (rw c.deref-in-Journal.ensures.value at c.journal.ensures)

pub returns-in-Checkpointed : goal.returns-in-Checkpointed
unfolding text_of
returns-in-Checkpointed c = rw c.in-Checkpointed.is c.numbered-in-Checkpointed.ensures

pub returns-in-CheckpointThere : goal.returns-in-CheckpointThere
unfolding text_of
returns-in-CheckpointThere c = rw c.in-CheckpointThere.is c.numbered-in-CheckpointThere.ensures

pub returns-in-Rewound : goal.returns-in-Rewound
unfolding text_of
returns-in-Rewound c = rw c.in-Rewound.is c.twice_numbered.ensures

pub returns-in-Discarded : goal.returns-in-Discarded
unfolding text_of
returns-in-Discarded c = rw c.in-Discarded.is c.twice_numbered-in-Discarded.ensures
