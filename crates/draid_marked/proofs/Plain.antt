-- A reply that names no group leaves the last group that a reply named.
use Rattle.std.proofs.Common.{◌≡◌, ◌∙◌, ℕ, zero, suc, false, List, Option, Some, None, refl, ap}
use Rattle.std.specs.Prelude.{⊤}
use Rattle.draid_script.specs.Line.{Command, WriteObject, FillObjects, FreeObject, ReadObject, SumObjects, CreatePool, ImportPool, DamageSector, TakeOffline, TakeOnline, AttachSpare, ReplaceDisk, RebuildPool, ScrubPool, CancelPasses, ShowStatus, RunAgent, ShowJournal}
use Rattle.draid_script.specs.declared.line.PoolKeys.{PoolKeys}
use Rattle.draid_script.specs.declared.line.StatusFormat.{StatusFormat}
use Rattle.draid_script.specs.declared.name.CommandName.TheVariants as name
use Rattle.draid_reply.specs.declared.reply.Reply.{Reply}
use Rattle.draid_reply.specs.declared.reply.Reply.TheVariants.{Cancelled, Contents, DamageFailed, DamageRefused, DamageWorn, Damaged, FillRefused, Filled, FreeNoObject, Freed, Last, Missed, NoMemory, NoObject, NoSpace, OfflineDone, OfflineRefused, OfflineWorn, OnlineDone, OnlineRefused, OnlineWorn, PassThere, PoolOpen, ReadWorn, RebuildNothing, Rebuilt, ReplaceRefused, ReplaceWorn, Replaced, Scrubbed, SpareRefused, SpareWorn, Spared, Status, SumRefused, Summed, Unreadable, Worn, WriteLast, Written, Acted, AgentIdle, Journal}
use Rattle.draid_session.specs.Book.{Book, OpenAnswers, filled}
use Rattle.draid_session.specs.Making.{content_of}
use Rattle.draid_session.specs.Marked.{names_group}
use Rattle.draid_session.specs.Session.{Open, desk_behind}
use Rattle.draid_session.specs.State.{State}

filled_group : (content : ℕ → List ℕ) (first n : ℕ) (old : Book) → (filled content first n old).group ≡ old.group
filled_group content first zero old = refl
filled_group content first (suc n) old = filled_group content first n old

-- no reply to it names a group, or gives the pool back
abbrev pub IsPlain : Command → Type 0
IsPlain (WriteObject object bytes) = ⊤
IsPlain (FillObjects first count len seed) = ⊤
IsPlain (FreeObject object) = ⊤
IsPlain (ReadObject object) = ⊤
IsPlain (SumObjects first count) = ⊤
IsPlain (CreatePool text children keys) = ⊤
IsPlain ImportPool = ⊤
IsPlain (DamageSector leaf sector) = ⊤
IsPlain (TakeOffline leaf) = ⊤
IsPlain (TakeOnline leaf) = ⊤
IsPlain (AttachSpare slot spare) = ⊤
IsPlain (ReplaceDisk slot sectors) = ⊤
IsPlain (RebuildPool limit) = ⊤
IsPlain (ScrubPool limit) = ⊤
IsPlain CancelPasses = ⊤
IsPlain (ShowStatus format) = ⊤
IsPlain (RunAgent least) = ⊤
IsPlain ShowJournal = ⊤
IsPlain command = ⊥

module _ (old new : Book) where
  abbrev pub Leaves : Reply → Type 0
  Leaves reply = (names_group reply ≡ false) × (new.group ≡ old.group) × ((s : State) → desk_behind reply s ≡ Open s)

  leaves_write_object : (object : ℕ) (bytes : List ℕ) (reply : Reply) → OpenAnswers old (WriteObject object bytes) reply new → Leaves reply
  leaves_write_object object bytes (Written o) d = (refl, ap (λ (b : Book). b.group) d.1, λ s. refl)
  leaves_write_object object bytes (NoSpace o run disabled full worn) d = (refl, ap (λ (b : Book). b.group) d.1, λ s. refl)
  leaves_write_object object bytes (Missed o columns) d = (refl, ap (λ (b : Book). b.group) d.1, λ s. refl)
  leaves_write_object object bytes (WriteLast o) d = (refl, ap (λ (b : Book). b.group) d.1, λ s. refl)
  leaves_write_object object bytes (NoMemory name.Write) d = (refl, ap (λ (b : Book). b.group) d, λ s. refl)
  leaves_write_object object bytes reply d = absurd d

  leaves_fill_objects : (first : ℕ) (count : ℕ) (len : ℕ) (seed : ℕ) (reply : Reply) → OpenAnswers old (FillObjects first count len seed) reply new → Leaves reply
  leaves_fill_objects first count len seed (Filled f written) d = (refl, ap (λ (b : Book). b.group) d.2 ∙ filled_group (λ object. content_of seed object len) first count old, λ s. refl)
  leaves_fill_objects first count len seed (FillRefused f written why) d = (refl, ap (λ (b : Book). b.group) d.2 ∙ filled_group (λ object. content_of seed object len) first written old, λ s. refl)
  leaves_fill_objects first count len seed reply d = absurd d

  leaves_free_object : (object : ℕ) (reply : Reply) → OpenAnswers old (FreeObject object) reply new → Leaves reply
  leaves_free_object object (Freed o) d = (refl, ap (λ (b : Book). b.group) d.2, λ s. refl)
  leaves_free_object object (FreeNoObject o) d = (refl, ap (λ (b : Book). b.group) d.2, λ s. refl)
  leaves_free_object object reply d = absurd d

  leaves_read_object : (object : ℕ) (reply : Reply) → OpenAnswers old (ReadObject object) reply new → Leaves reply
  leaves_read_object object (Contents o bytes) d = (refl, ap (λ (b : Book). b.group) d.2, λ s. refl)
  leaves_read_object object (NoObject o) d = (refl, ap (λ (b : Book). b.group) d.2, λ s. refl)
  leaves_read_object object (Unreadable o absent tried) d = (refl, ap (λ (b : Book). b.group) d.2, λ s. refl)
  leaves_read_object object (ReadWorn o) d = (refl, ap (λ (b : Book). b.group) d.2, λ s. refl)
  leaves_read_object object (NoMemory name.Read) d = (refl, ap (λ (b : Book). b.group) d, λ s. refl)
  leaves_read_object object reply d = absurd d

  leaves_sum_objects : (first : ℕ) (count : ℕ) (reply : Reply) → OpenAnswers old (SumObjects first count) reply new → Leaves reply
  leaves_sum_objects first count (Summed f c digest) d = (refl, ap (λ (b : Book). b.group) d.3, λ s. refl)
  leaves_sum_objects first count (SumRefused object why) d = (refl, ap (λ (b : Book). b.group) d.1, λ s. refl)
  leaves_sum_objects first count (NoMemory name.Sum) d = (refl, ap (λ (b : Book). b.group) d, λ s. refl)
  leaves_sum_objects first count reply d = absurd d

  leaves_create_pool : (text : List ℕ) (children : ℕ) (keys : PoolKeys) (reply : Reply) → OpenAnswers old (CreatePool text children keys) reply new → Leaves reply
  leaves_create_pool text children keys (PoolOpen name.Create) d = (refl, ap (λ (b : Book). b.group) d, λ s. refl)
  leaves_create_pool text children keys reply d = absurd d

  leaves_import_pool : (reply : Reply) → OpenAnswers old ImportPool reply new → Leaves reply
  leaves_import_pool (PoolOpen name.Import) d = (refl, ap (λ (b : Book). b.group) d, λ s. refl)
  leaves_import_pool reply d = absurd d

  leaves_damage_sector : (leaf : ℕ) (sector : ℕ) (reply : Reply) → OpenAnswers old (DamageSector leaf sector) reply new → Leaves reply
  leaves_damage_sector leaf sector (Damaged l s) d = (refl, ap (λ (b : Book). b.group) d.2, λ s. refl)
  leaves_damage_sector leaf sector (DamageFailed l s) d = (refl, ap (λ (b : Book). b.group) d.2, λ s. refl)
  leaves_damage_sector leaf sector (DamageRefused l s) d = (refl, ap (λ (b : Book). b.group) d.2, λ s. refl)
  leaves_damage_sector leaf sector (DamageWorn l s) d = (refl, ap (λ (b : Book). b.group) d.2, λ s. refl)
  leaves_damage_sector leaf sector (NoMemory name.Damage) d = (refl, ap (λ (b : Book). b.group) d, λ s. refl)
  leaves_damage_sector leaf sector reply d = absurd d

  leaves_take_offline : (leaf : ℕ) (reply : Reply) → OpenAnswers old (TakeOffline leaf) reply new → Leaves reply
  leaves_take_offline leaf (OfflineDone l) d = (refl, ap (λ (b : Book). b.group) d.1, λ s. refl)
  leaves_take_offline leaf (OfflineRefused l) d = (refl, ap (λ (b : Book). b.group) d.1, λ s. refl)
  leaves_take_offline leaf (OfflineWorn l) d = (refl, ap (λ (b : Book). b.group) d.1, λ s. refl)
  leaves_take_offline leaf (NoMemory name.Offline) d = (refl, ap (λ (b : Book). b.group) d, λ s. refl)
  leaves_take_offline leaf reply d = absurd d

  leaves_take_online : (leaf : ℕ) (reply : Reply) → OpenAnswers old (TakeOnline leaf) reply new → Leaves reply
  leaves_take_online leaf (OnlineDone l) d = (refl, ap (λ (b : Book). b.group) d.1, λ s. refl)
  leaves_take_online leaf (OnlineRefused l) d = (refl, ap (λ (b : Book). b.group) d.1, λ s. refl)
  leaves_take_online leaf (OnlineWorn l) d = (refl, ap (λ (b : Book). b.group) d.1, λ s. refl)
  leaves_take_online leaf (NoMemory name.Online) d = (refl, ap (λ (b : Book). b.group) d, λ s. refl)
  leaves_take_online leaf reply d = absurd d

  leaves_attach_spare : (slot : ℕ) (spare : ℕ) (reply : Reply) → OpenAnswers old (AttachSpare slot spare) reply new → Leaves reply
  leaves_attach_spare slot spare (Spared s called) d = (refl, ap (λ (b : Book). b.group) d.1, λ s. refl)
  leaves_attach_spare slot spare (SpareRefused s why) d = (refl, ap (λ (b : Book). b.group) d.1, λ s. refl)
  leaves_attach_spare slot spare (SpareWorn s) d = (refl, ap (λ (b : Book). b.group) d.1, λ s. refl)
  leaves_attach_spare slot spare (NoMemory name.Spare) d = (refl, ap (λ (b : Book). b.group) d, λ s. refl)
  leaves_attach_spare slot spare reply d = absurd d

  leaves_replace_disk : (slot : ℕ) (sectors : Option ℕ) (reply : Reply) → OpenAnswers old (ReplaceDisk slot sectors) reply new → Leaves reply
  leaves_replace_disk slot sectors (Replaced s leaf) d = (refl, ap (λ (b : Book). b.group) d.1, λ s. refl)
  leaves_replace_disk slot sectors (ReplaceRefused s why) d = (refl, ap (λ (b : Book). b.group) d.1, λ s. refl)
  leaves_replace_disk slot sectors (ReplaceWorn s) d = (refl, ap (λ (b : Book). b.group) d.1, λ s. refl)
  leaves_replace_disk slot sectors (NoMemory name.Replace) d = (refl, ap (λ (b : Book). b.group) d, λ s. refl)
  leaves_replace_disk slot sectors reply d = absurd d

  leaves_rebuild_pool : (limit : Option ℕ) (reply : Reply) → OpenAnswers old (RebuildPool limit) reply new → Leaves reply
  leaves_rebuild_pool limit (Rebuilt from stripes errors paused) d = (refl, ap (λ (b : Book). b.group) (d.2), λ s. refl)
  leaves_rebuild_pool limit RebuildNothing d = (refl, ap (λ (b : Book). b.group) d, λ s. refl)
  leaves_rebuild_pool limit (PassThere name.Rebuild metaslab number) d = (refl, ap (λ (b : Book). b.group) d, λ s. refl)
  leaves_rebuild_pool limit (Worn name.Rebuild) d = (refl, ap (λ (b : Book). b.group) (d.2), λ s. refl)
  leaves_rebuild_pool limit (Last name.Rebuild) d = (refl, ap (λ (b : Book). b.group) (d.2), λ s. refl)
  leaves_rebuild_pool limit (NoMemory name.Rebuild) d = (refl, ap (λ (b : Book). b.group) (d.2), λ s. refl)
  leaves_rebuild_pool limit reply d = absurd d

  leaves_scrub_pool : (limit : Option ℕ) (reply : Reply) → OpenAnswers old (ScrubPool limit) reply new → Leaves reply
  leaves_scrub_pool limit (Scrubbed from blocks repaired errors paused) d = (refl, ap (λ (b : Book). b.group) d, λ s. refl)
  leaves_scrub_pool limit (PassThere name.Scrub metaslab number) d = (refl, ap (λ (b : Book). b.group) d, λ s. refl)
  leaves_scrub_pool limit (Worn name.Scrub) d = (refl, ap (λ (b : Book). b.group) d, λ s. refl)
  leaves_scrub_pool limit (Last name.Scrub) d = (refl, ap (λ (b : Book). b.group) d, λ s. refl)
  leaves_scrub_pool limit (NoMemory name.Scrub) d = (refl, ap (λ (b : Book). b.group) d, λ s. refl)
  leaves_scrub_pool limit reply d = absurd d

  leaves_cancel_passes : (reply : Reply) → OpenAnswers old CancelPasses reply new → Leaves reply
  leaves_cancel_passes (Cancelled passes) d = (refl, ap (λ (b : Book). b.group) d, λ s. refl)
  leaves_cancel_passes reply d = absurd d

  leaves_show_status : (format : StatusFormat) (reply : Reply) → OpenAnswers old (ShowStatus format) reply new → Leaves reply
  leaves_show_status format (Status text) d = (refl, ap (λ (b : Book). b.group) d.1, λ s. refl)
  leaves_show_status format (NoMemory name.Status) d = (refl, ap (λ (b : Book). b.group) d, λ s. refl)
  leaves_show_status format reply d = absurd d

  leaves_run_agent : (least : ℕ) (reply : Reply) → OpenAnswers old (RunAgent least) reply new → Leaves reply
  leaves_run_agent least (Acted parity entries None) d = (refl, ap (λ (b : Book). b.group) d, λ s. refl)
  leaves_run_agent least (Acted parity entries (Some errors)) d = (refl, ap (λ (b : Book). b.group) d.2, λ s. refl)
  leaves_run_agent least AgentIdle d = (refl, ap (λ (b : Book). b.group) d, λ s. refl)
  leaves_run_agent least (PassThere name.Agent metaslab number) d = (refl, ap (λ (b : Book). b.group) d, λ s. refl)
  leaves_run_agent least (Worn name.Agent) d = (refl, ap (λ (b : Book). b.group) d.2, λ s. refl)
  leaves_run_agent least (Last name.Agent) d = (refl, ap (λ (b : Book). b.group) d.2, λ s. refl)
  leaves_run_agent least (NoMemory name.Agent) d = (refl, ap (λ (b : Book). b.group) d.2, λ s. refl)
  leaves_run_agent least reply d = absurd d

  leaves_show_journal : (reply : Reply) → OpenAnswers old ShowJournal reply new → Leaves reply
  leaves_show_journal (Journal parity entries) d = (refl, ap (λ (b : Book). b.group) d, λ s. refl)
  leaves_show_journal (NoMemory name.Agent) d = (refl, ap (λ (b : Book). b.group) d, λ s. refl)
  leaves_show_journal reply d = absurd d

  pub plain_leaves : (command : Command) → IsPlain command → (reply : Reply) → OpenAnswers old command reply new → Leaves reply
  plain_leaves (WriteObject object bytes) plain reply d = leaves_write_object object bytes reply d
  plain_leaves (FillObjects first count len seed) plain reply d = leaves_fill_objects first count len seed reply d
  plain_leaves (FreeObject object) plain reply d = leaves_free_object object reply d
  plain_leaves (ReadObject object) plain reply d = leaves_read_object object reply d
  plain_leaves (SumObjects first count) plain reply d = leaves_sum_objects first count reply d
  plain_leaves (CreatePool text children keys) plain reply d = leaves_create_pool text children keys reply d
  plain_leaves ImportPool plain reply d = leaves_import_pool reply d
  plain_leaves (DamageSector leaf sector) plain reply d = leaves_damage_sector leaf sector reply d
  plain_leaves (TakeOffline leaf) plain reply d = leaves_take_offline leaf reply d
  plain_leaves (TakeOnline leaf) plain reply d = leaves_take_online leaf reply d
  plain_leaves (AttachSpare slot spare) plain reply d = leaves_attach_spare slot spare reply d
  plain_leaves (ReplaceDisk slot sectors) plain reply d = leaves_replace_disk slot sectors reply d
  plain_leaves (RebuildPool limit) plain reply d = leaves_rebuild_pool limit reply d
  plain_leaves (ScrubPool limit) plain reply d = leaves_scrub_pool limit reply d
  plain_leaves CancelPasses plain reply d = leaves_cancel_passes reply d
  plain_leaves (ShowStatus format) plain reply d = leaves_show_status format reply d
  plain_leaves (RunAgent least) plain reply d = leaves_run_agent least reply d
  plain_leaves ShowJournal plain reply d = leaves_show_journal reply d
  plain_leaves command plain reply d = absurd plain
