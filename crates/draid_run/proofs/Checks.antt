-- What the commands on the checkpoint reply, in the words of a session, and what is known behind them.
use Rattle.std.proofs.Common.{◌≡◌, IfOk, List, Result, Ok, Err, refl, subst, sym, inl, inr, ℕ}
use Rattle.draid_names.specs.declared.fault.Failed.{Failed}
use Rattle.draid_script.specs.Line.{DiscardCheckpoint, RewindPool, TakeCheckpoint}
use Rattle.draid_script.specs.declared.name.CommandName.TheVariants as name
use Rattle.draid_reply.specs.declared.reply.Reply.{Reply}
use Rattle.draid_reply.specs.declared.reply.Reply.TheVariants.{CheckpointThere, Checkpointed, Discarded, Last, NoCheckpoint, NoMemory, Rewound, Worn}
use Rattle.draid_session.specs.Choices.{Choices}
use Rattle.draid_session.specs.Holds.{Hold}
use Rattle.draid_session.specs.Known.{nothing_known}
use Rattle.draid_session.specs.Replies.{IsReplyTo}
use Rattle.draid_session.specs.State.{State, Store}
use Rattle.draid_pool.specs.Carries.{ReplyDoes}
use Rattle.draid_pool.specs.Knows.{Teaches}
use Rattle.draid_pool.specs.Pointers.{SamePointers}
use Rattle.draid_pool.specs.declared.fault.SyncFault.TheVariants as sync
use Rattle.draid_pool.specs.declared.pool.Pool.{Pool}
use Rattle.draid_pool.proofs.Taught.{still_known}
use Rattle.draid_rewinds.specs.Back.{DiscardDoes, RewindDoes}
use Rattle.draid_rewinds.specs.Says.{DiscardSays, IsDiscardReply, IsRewindReply, IsTakeReply, RewindSays, TakeSays}
use Rattle.draid_rewinds.specs.Taking.{TakeDoes}
use Rattle.draid_rewinds.specs.declared.fault.BackFault.{BackFault}
use Rattle.draid_rewinds.specs.declared.fault.BackFault.TheVariants as back
use Rattle.draid_rewinds.specs.declared.fault.Discarded.{Discarded as Gone}
use Rattle.draid_rewinds.specs.declared.fault.Rewound.{Rewound as Went}
use Rattle.draid_rewinds.specs.declared.fault.TakeFault.{TakeFault}
use Rattle.draid_rewinds.specs.declared.fault.TakeFault.TheVariants as take
use Rattle.draid_run.specs.Desks.{AnswerDoes}

module _ (x : State) (choices : Choices) (said : Result Reply Failed) (holds : List Hold) (store : Store) where
  pub take_does : TakeSays said x holds store → AnswerDoes x choices TakeCheckpoint said holds store
  take_does says = by says.0 says.1 says.2
    where
      replied : (reply : Reply) → said ≡ Ok reply → ReplyDoes x choices TakeCheckpoint reply holds store → AnswerDoes x choices TakeCheckpoint said holds store
      replied reply is does = subst (λ s. AnswerDoes x choices TakeCheckpoint s holds store) (sym is) does

      broke : (given : Result Reply Failed) → IsTakeReply (Err (take.Sync sync.Shelf)) given → TakeDoes x (Err (take.Sync sync.Shelf)) holds store → AnswerDoes x choices TakeCheckpoint given holds store
      broke (Ok reply) is does = absurd is
      broke (Err failed) is does = does

      by : (answer : Result ℕ TakeFault) → IsTakeReply answer said → TakeDoes x answer holds store → AnswerDoes x choices TakeCheckpoint said holds store
      by (Ok group) is does = replied (Checkpointed group) is does
      by (Err (take.Exists group)) is does = replied (CheckpointThere group) is does
      by (Err take.NoMemory) is does = replied (NoMemory name.Checkpoint) is (inr (does.0, inr (does.1, does.2)))
      by (Err (take.Sync sync.Worn)) is does = replied (Worn name.Checkpoint) is does
      by (Err (take.Sync sync.Last)) is does = replied (Last name.Checkpoint) is does
      by (Err (take.Sync sync.NoMemory)) is does = replied (NoMemory name.Checkpoint) is (inl does)
      by (Err (take.Sync sync.Shelf)) is does = broke said is does

  pub rewind_does : RewindSays said x holds store → AnswerDoes x choices RewindPool said holds store
  rewind_does says = by says.0 says.1 says.2
    where
      replied : (reply : Reply) → said ≡ Ok reply → ReplyDoes x choices RewindPool reply holds store → AnswerDoes x choices RewindPool said holds store
      replied reply is does = subst (λ s. AnswerDoes x choices RewindPool s holds store) (sym is) does

      broke : (given : Result Reply Failed) → IsRewindReply (Err (back.Sync sync.Shelf)) given → RewindDoes x (Err (back.Sync sync.Shelf)) holds store → AnswerDoes x choices RewindPool given holds store
      broke (Ok reply) is does = absurd is
      broke (Err failed) is does = does

      by : (answer : Result Went BackFault) → IsRewindReply answer said → RewindDoes x answer holds store → AnswerDoes x choices RewindPool said holds store
      by (Ok it) is does = replied (Rewound it.group it.objects) is does
      by (Err back.Nothing) is does = replied (NoCheckpoint name.Rewind) is does
      by (Err back.NoMemory) is does = replied (NoMemory name.Rewind) is (inr does)
      by (Err (back.Sync sync.Worn)) is does = replied (Worn name.Rewind) is does
      by (Err (back.Sync sync.Last)) is does = replied (Last name.Rewind) is does
      by (Err (back.Sync sync.NoMemory)) is does = replied (NoMemory name.Rewind) is (inl does)
      by (Err (back.Sync sync.Shelf)) is does = broke said is does

  pub discard_does : DiscardSays said x holds store → AnswerDoes x choices DiscardCheckpoint said holds store
  discard_does says = by says.0 says.1 says.2
    where
      replied : (reply : Reply) → said ≡ Ok reply → ReplyDoes x choices DiscardCheckpoint reply holds store → AnswerDoes x choices DiscardCheckpoint said holds store
      replied reply is does = subst (λ s. AnswerDoes x choices DiscardCheckpoint s holds store) (sym is) does

      broke : (given : Result Reply Failed) → IsDiscardReply (Err (back.Sync sync.Shelf)) given → DiscardDoes x (Err (back.Sync sync.Shelf)) holds store → AnswerDoes x choices DiscardCheckpoint given holds store
      broke (Ok reply) is does = absurd is
      broke (Err failed) is does = does

      by : (answer : Result Gone BackFault) → IsDiscardReply answer said → DiscardDoes x answer holds store → AnswerDoes x choices DiscardCheckpoint said holds store
      by (Ok it) is does = replied (Discarded it.freed it.group) is does
      by (Err back.Nothing) is does = replied (NoCheckpoint name.Discard) is does
      by (Err back.NoMemory) is does = absurd does
      by (Err (back.Sync sync.Worn)) is does = replied (Worn name.Discard) is does
      by (Err (back.Sync sync.Last)) is does = replied (Last name.Discard) is does
      by (Err (back.Sync sync.NoMemory)) is does = replied (NoMemory name.Discard) is does
      by (Err (back.Sync sync.Shelf)) is does = broke said is does

-- nothing is known of the objects behind a rewind, but where there was no checkpoint
pub teaches_rewind : {R A : Type 0} (said : Result Reply Failed) (old new : Pool R A) → IfOk said (IsReplyTo RewindPool) → (said ≡ Ok (NoCheckpoint name.Rewind) → SamePointers old new) → IfOk said (λ reply. Teaches RewindPool reply old new)
teaches_rewind (Err failed) old new fits none = tt
teaches_rewind (Ok (Rewound group many)) old new fits none = λ known knows. record { new = nothing_known; learns = refl; fits = λ object. tt }
teaches_rewind (Ok (Worn name.Rewind)) old new fits none = λ known knows. record { new = nothing_known; learns = inr refl; fits = λ object. tt }
teaches_rewind (Ok (Last name.Rewind)) old new fits none = λ known knows. record { new = nothing_known; learns = inr refl; fits = λ object. tt }
teaches_rewind (Ok (NoMemory name.Rewind)) old new fits none = λ known knows. record { new = nothing_known; learns = inr refl; fits = λ object. tt }
teaches_rewind (Ok (NoCheckpoint name.Rewind)) old new fits none = λ known knows. record { new = known; learns = refl; fits = still_known old new (none refl) known knows }
teaches_rewind (Ok reply) old new fits none = absurd fits
