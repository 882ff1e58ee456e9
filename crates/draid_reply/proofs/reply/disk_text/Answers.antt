use Rattle.draid_reply.specs.Reply.{text_of}
use Rattle.draid_reply.proofs.reply.disk_text.Goals as goal

-- Each arm prints the text of its reply.

pub returns-in-OfflineDone : goal.returns-in-OfflineDone
unfolding text_of
returns-in-OfflineDone c = rw c.in-OfflineDone.is c.numbered.ensures

pub returns-in-OfflineRefused : goal.returns-in-OfflineRefused
unfolding text_of
returns-in-OfflineRefused c = rw c.in-OfflineRefused.is c.numbered-in-OfflineRefused.ensures

pub returns-in-OfflineWorn : goal.returns-in-OfflineWorn
unfolding text_of
returns-in-OfflineWorn c = rw c.in-OfflineWorn.is c.numbered-in-OfflineWorn.ensures

pub returns-in-OnlineDone : goal.returns-in-OnlineDone
unfolding text_of
returns-in-OnlineDone c = rw c.in-OnlineDone.is c.numbered-in-OnlineDone.ensures

pub returns-in-OnlineRefused : goal.returns-in-OnlineRefused
unfolding text_of
returns-in-OnlineRefused c = rw c.in-OnlineRefused.is c.numbered-in-OnlineRefused.ensures

pub returns-in-OnlineWorn : goal.returns-in-OnlineWorn
unfolding text_of
returns-in-OnlineWorn c = rw c.in-OnlineWorn.is c.numbered-in-OnlineWorn.ensures

pub returns-in-Damaged : goal.returns-in-Damaged
unfolding text_of
returns-in-Damaged c = rw c.in-Damaged.is c.twice_numbered.ensures

pub returns-in-DamageRefused : goal.returns-in-DamageRefused
unfolding text_of
returns-in-DamageRefused c = rw c.in-DamageRefused.is c.twice_numbered-in-DamageRefused.ensures

pub returns-in-DamageFailed : goal.returns-in-DamageFailed
unfolding text_of
returns-in-DamageFailed c = rw c.in-DamageFailed.is c.twice_numbered-in-DamageFailed.ensures

pub returns-in-DamageWorn : goal.returns-in-DamageWorn
unfolding text_of
returns-in-DamageWorn c = rw c.in-DamageWorn.is c.twice_numbered-in-DamageWorn.ensures
