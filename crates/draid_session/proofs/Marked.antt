-- Between a checkpoint and its rewind the book has the objects of the checkpoint.
use Rattle.std.proofs.Common.{◌≡◌, ◌∙◌, ◌<◌, ◌⊎◌, ℕ, Bool, true, false, List, [], ◌∷◌, Option, Some, None, All, Result, Ok, Err, inl, inr, refl, sym, ap, subst}
use Rattle.std.specs.Prelude.{Contains}
use Rattle.std.proofs.lemmas.List.Elements.{All-contains, All-cons, All-nil}
use Rattle.draid_machine.proofs.Small.{none_some, some_injective}
use Rattle.draid_script.specs.Grammar.{line_of}
use Rattle.draid_script.specs.Line.{Command, CreatePool, DiscardCheckpoint, ImportPool, RewindPool, Silent, TakeCheckpoint}
use Rattle.draid_script.specs.declared.fault.LineFault.{LineFault}
use Rattle.draid_script.specs.declared.name.CommandName.TheVariants as name
use Rattle.draid_reply.specs.declared.reply.Reply.{Reply}
use Rattle.draid_reply.specs.declared.reply.Reply.TheVariants.{CheckpointThere, Checkpointed, Imported, Last, NoMemory, NoPool, Worn}
use Rattle.draid_session.specs.Book.{Objects}
use Rattle.draid_session.specs.Looks.{AllOf}
use Rattle.draid_session.specs.Said.{Said}
use Rattle.draid_session.specs.Marked.{FindsMark, HasMark, ImportMarks, IsCareful, IsOpenThen, KeepsMark, LeavesMark, LeavesMarkIn, Marked, MarkedAll, MarkedAnswers, MarkedLine, TakesMark, doubts, keeps_both, names_group, rewound, with_mark}

module _ (objects : Objects) where
  abbrev Is : Option Objects → Type 0
  Is mark = mark ≡ Some objects

  has_none : (old : Marked) → HasMark objects old → old.mark ≡ None → ⊥
  has_none old has none = none_some old.mark objects none has.mark

  has_same : (old new : Marked) → HasMark objects old → new ≡ old → HasMark objects new
  has_same old new has same = subst (HasMark objects) (sym same) has

  has_doubts : (old : Marked) → HasMark objects old → HasMark objects (doubts old)
  has_doubts old has = record { mark = has.mark; kept = has.kept; since = has.since }

  has_keeps : (old new : Marked) (named : Bool) → HasMark objects old → KeepsMark old new named → HasMark objects new
  has_keeps old new true has k = record { mark = k.mark ∙ has.mark; kept = k.kept ∙ has.mark; since = subst (All Is) (sym k.since) (All-nil Is) }
  has_keeps old new false has k = record { mark = k.mark ∙ has.mark; kept = k.kept ∙ has.kept; since = subst (All Is) (sym k.since) has.since }

  has_found : (old new : Marked) (group : ℕ) → HasMark objects old → FindsMark old new group → HasMark objects new
  has_found old new group has f = record { mark = mark f.found; kept = f.kept ∙ mark f.found; since = subst (All Is) (sym f.since) (All-nil Is) }
    where
      mark : ((group ≡ old.book.group) × (new.mark ≡ old.kept_mark)) ⊎ ((old.book.group < group) × Contains (old.kept_mark ∷ old.since_marks) new.mark) → new.mark ≡ Some objects
      mark (inl own) = own.1 ∙ has.kept
      mark (inr later) = All-contains Is (old.kept_mark ∷ old.since_marks) new.mark (All-cons Is old.kept_mark old.since_marks has.kept has.since) later.1

  takes_has : (old new : Marked) (reply : Reply) → HasMark objects old → TakesMark old reply new → HasMark objects new
  takes_has old new (Checkpointed group) has t = absurd (has_none old has t.0)
  takes_has old new (CheckpointThere group) has t = has_same old new has t.1
  takes_has old new (Worn name.Checkpoint) has t = has_same (doubts old) new (has_doubts old has) t
  takes_has old new (Last name.Checkpoint) has t = has_same (doubts old) new (has_doubts old has) t
  takes_has old new (NoMemory name.Checkpoint) has (inl t) = has_same (doubts old) new (has_doubts old has) t
  takes_has old new (NoMemory name.Checkpoint) has (inr t) = absurd (has_none old has t.0)
  takes_has old new reply has t = absurd t

  open_has : (b : Bool) (old new : Marked) (reply : Reply) → HasMark objects old → IsOpenThen b TakesMark old reply new → HasMark objects new
  open_has true old new reply has t = takes_has old new reply has t
  open_has false old new (NoPool called) has t = has_same old new has t
  open_has false old new reply has t = absurd t

  import_has : (old new : Marked) (reply : Reply) → HasMark objects old → ImportMarks reply old new → HasMark objects new
  import_has old new (Imported called group many) has f = has_found old new group has f
  import_has old new reply has k = has_keeps old new false has k

  answers_have : (old new : Marked) (command : Command) (reply : Reply) → IsCareful command → HasMark objects old → MarkedAnswers old command reply new → HasMark objects new
  answers_have old new TakeCheckpoint reply careful has a = open_has old.book.is_open old new reply has a
  answers_have old new RewindPool reply careful has a = absurd careful
  answers_have old new DiscardCheckpoint reply careful has a = absurd careful
  answers_have old new ImportPool reply careful has a = import_has old new reply has a.1
  answers_have old new (CreatePool text children keys) reply careful has a = absurd careful
  answers_have old new command reply careful has a = has_keeps old new (names_group reply) has a.1

  line_has : (line : Result Command LineFault) (old new : Marked) (saids : List Said) → LeavesMarkIn line → HasMark objects old → MarkedLine line old saids new → HasMark objects new
  line_has (Err fault) old new saids leaves has l = absurd l
  line_has (Ok command) old new saids leaves has l = by command saids leaves l
    where
      by : (command : Command) (saids : List Said) → IsCareful command → MarkedLine (Ok command) old saids new → HasMark objects new
      by Silent [] careful l = has_same old new has l
      by Silent (said ∷ more) careful l = absurd l
      by command (said ∷ []) careful l = answers_have old new command said.reply careful has l.1
      by command [] careful l = absurd l
      by command (said ∷ other ∷ more) careful l = absurd l

  pub all_have : (lines : List (List ℕ)) (replies : List (List Said)) (old new : Marked) → AllOf LeavesMark lines → HasMark objects old → MarkedAll old lines replies new → HasMark objects new
  all_have [] [] old new leaves has all = has_same old new has all
  all_have (line ∷ lines) (saids ∷ replies) old new leaves has (mid, one, rest) = all_have lines replies mid new leaves.1 (line_has (line_of line) old mid saids leaves.0 has one) rest
  all_have [] (saids ∷ replies) old new leaves has all = absurd all
  all_have (line ∷ lines) [] old new leaves has all = absurd all

-- behind a checkpoint each group that may be found has it
pub checkpointed_has : (old new : Marked) (group : ℕ) → new ≡ keeps_both group (with_mark (Some old.book.now) old) → HasMark old.book.now new
checkpointed_has old new group is = subst (HasMark old.book.now) (sym is) (record { mark = refl; kept = refl; since = All-nil (λ (mark : Option Objects). mark ≡ Some old.book.now) })

pub rewound_now : (objects others : Objects) (old new : Marked) (group : ℕ) → HasMark objects old → old.mark ≡ Some others → new ≡ keeps_both group (rewound others old) → (object : ℕ)
    → new.book.now object ≡ objects object
rewound_now objects others old new group has mark is object =
    ap (λ (m : Marked). m.book.now object) is ∙ ap (λ (o : Objects). o object) (some_injective others objects (sym mark ∙ has.mark))
