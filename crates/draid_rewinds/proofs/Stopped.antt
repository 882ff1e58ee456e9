-- What is replied where a command's sync was stopped.
use Rattle.std.proofs.Common.{◌∙◌, ◌≡◌, Ok, Err, refl, subst, sym}
use Rattle.std.specs.Prelude.{IfOk, IsErr, Result}
use Rattle.draid_names.specs.declared.fault.Failed.{Failed}
use Rattle.draid_script.specs.Line.{DiscardCheckpoint, RewindPool, TakeCheckpoint}
use Rattle.draid_script.specs.declared.name.CommandName.{CommandName}
use Rattle.draid_script.specs.declared.name.CommandName.TheVariants as name
use Rattle.draid_reply.specs.declared.reply.Reply.{Reply}
use Rattle.draid_reply.specs.declared.reply.Reply.TheVariants.{NoCheckpoint}
use Rattle.draid_session.specs.Replies.{IsReplyTo}
use Rattle.draid_pool.specs.declared.fault.SyncFault.{SyncFault}
use Rattle.draid_pool.specs.declared.fault.SyncFault.TheVariants as sync
use Rattle.draid_rewinds.specs.Says.{IsStoppedBy}

-- there is no reply just where a device failed
pub stopped_failed : (command : CommandName) (why : SyncFault) (said : Result Reply Failed) → IsStoppedBy command why said → IsErr said → why ≡ sync.Shelf
stopped_failed command sync.Worn (Ok reply) is failed = absurd (cc failed)
stopped_failed command sync.Worn (Err it) is failed = absurd (cc is)
stopped_failed command sync.Last (Ok reply) is failed = absurd (cc failed)
stopped_failed command sync.Last (Err it) is failed = absurd (cc is)
stopped_failed command sync.NoMemory (Ok reply) is failed = absurd (cc failed)
stopped_failed command sync.NoMemory (Err it) is failed = absurd (cc is)
stopped_failed command sync.Shelf said is failed = refl

pub take_fits : (why : SyncFault) (said : Result Reply Failed) → IsStoppedBy name.Checkpoint why said → IfOk said (IsReplyTo TakeCheckpoint)
take_fits sync.Worn said is = subst (λ s. IfOk s (IsReplyTo TakeCheckpoint)) (sym is) tt
take_fits sync.Last said is = subst (λ s. IfOk s (IsReplyTo TakeCheckpoint)) (sym is) tt
take_fits sync.NoMemory said is = subst (λ s. IfOk s (IsReplyTo TakeCheckpoint)) (sym is) tt
take_fits sync.Shelf (Ok reply) is = absurd is
take_fits sync.Shelf (Err it) is = tt

pub rewind_fits : (why : SyncFault) (said : Result Reply Failed) → IsStoppedBy name.Rewind why said → IfOk said (IsReplyTo RewindPool)
rewind_fits sync.Worn said is = subst (λ s. IfOk s (IsReplyTo RewindPool)) (sym is) tt
rewind_fits sync.Last said is = subst (λ s. IfOk s (IsReplyTo RewindPool)) (sym is) tt
rewind_fits sync.NoMemory said is = subst (λ s. IfOk s (IsReplyTo RewindPool)) (sym is) tt
rewind_fits sync.Shelf (Ok reply) is = absurd is
rewind_fits sync.Shelf (Err it) is = tt

pub discard_fits : (why : SyncFault) (said : Result Reply Failed) → IsStoppedBy name.Discard why said → IfOk said (IsReplyTo DiscardCheckpoint)
discard_fits sync.Worn said is = subst (λ s. IfOk s (IsReplyTo DiscardCheckpoint)) (sym is) tt
discard_fits sync.Last said is = subst (λ s. IfOk s (IsReplyTo DiscardCheckpoint)) (sym is) tt
discard_fits sync.NoMemory said is = subst (λ s. IfOk s (IsReplyTo DiscardCheckpoint)) (sym is) tt
discard_fits sync.Shelf (Ok reply) is = absurd is
discard_fits sync.Shelf (Err it) is = tt

-- nor is it that there is no checkpoint
pub stopped_none : (why : SyncFault) (said : Result Reply Failed) → IsStoppedBy name.Rewind why said → said ≡ Ok (NoCheckpoint name.Rewind) → ⊥
stopped_none sync.Worn said is none = absurd (let both = sym is ∙ none in cc)
stopped_none sync.Last said is none = absurd (let both = sym is ∙ none in cc)
stopped_none sync.NoMemory said is none = absurd (let both = sym is ∙ none in cc)
stopped_none sync.Shelf (Ok reply) is none = absurd is
stopped_none sync.Shelf (Err it) is none = absurd (cc none)
