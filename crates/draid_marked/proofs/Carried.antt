-- Where a pool is open each command is answered as a book beside a checkpoint has it.
use Rattle.std.proofs.Common.{◌≡◌, ◌≢◌, ◌∙◌, ◌≤◌, ◌⊎◌, ℕ, true, false, List, [], Option, Some, None, All, inl, inr, refl, sym, ap, subst, arith}
use Rattle.std.proofs.lemmas.List.Elements.{All-cons}
use Rattle.draid_names.specs.declared.refusal.WriteFault.TheVariants as refusal
use Rattle.draid_machine.proofs.Small.{none_some}
use Rattle.draid_objects.specs.Changes.{kept}
use Rattle.draid_objects.specs.Marks.{Check, Made, check_by, mark_group}
use Rattle.draid_script.specs.Line.{Command, CreatePool, ImportPool, ExportPool, SyncPool, CancelPasses, CrashPool, WriteObject, FillObjects, ReadObject, FreeObject, SumObjects, TakeOffline, TakeOnline, DamageSector, AttachSpare, ReplaceDisk, DetachArm, RebuildPool, ScrubPool, RebalanceSlot, ShowStatus, UpgradePool, TakeCheckpoint, DiscardCheckpoint, RewindPool, RunAgent, ShowJournal}
use Rattle.draid_script.specs.declared.line.ArmArgument.{ArmArgument}
use Rattle.draid_script.specs.declared.line.PoolKeys.{PoolKeys}
use Rattle.draid_script.specs.declared.name.CommandName.TheVariants as name
use Rattle.draid_reply.specs.declared.reply.Reply.{Reply}
use Rattle.draid_reply.specs.declared.reply.Reply.TheVariants.{CheckpointThere, Checkpointed, Crashed, DetachLast, DetachRefused, DetachWorn, Detached, Discarded, Exported, FillRefused, Filled, FreeNoObject, Freed, Last, Missed, NoCheckpoint, NoMemory, NoSpace, PoolOpen, RebalanceLast, RebalanceRefused, RebalanceWorn, Rebalanced, Rewound, Synced, UpgradeAlready, Upgraded, Worn, WriteLast, Written}
use Rattle.draid_names.specs.declared.refusal.SlotFault.TheVariants as slot_fault
use Rattle.draid_session.specs.Book.{Answers, AnswersBy, Book, HaveBeen, NamesNext, Objects, OpenAnswers, doubtful, synced}
use Rattle.draid_session.specs.Choices.{Choices}
use Rattle.draid_session.specs.Discarding.{DiscardStops}
use Rattle.draid_session.specs.Does.{Does}
use Rattle.draid_session.specs.Follows.{Follows}
use Rattle.draid_session.specs.GoingBack.{BackStops}
use Rattle.draid_session.specs.Groups as groups
use Rattle.draid_session.specs.Holds.{Hold}
use Rattle.draid_session.specs.Keeping.{Keeps, KeepsOpen, bytes_in}
use Rattle.draid_session.specs.Looks.{AllOf}
use Rattle.draid_session.specs.Making.{content_of}
use Rattle.draid_session.specs.Marked.{EitherWay, GivesUp, GoesBack, IsOpenThen, KeepsMark, Marked, MarkedAnswers, TakesMark, doubts, keeps_both, names_group, rewound, with_mark}
use Rattle.draid_session.specs.Phases.{End, Starved, WasLast, WasWorn, Went}
use Rattle.draid_session.specs.Points.{given_up, marked}
use Rattle.draid_session.specs.Session.{CarriesOut, Desk, Open, OpenTurns, desk_behind}
use Rattle.draid_session.specs.State.{State, Store}
use Rattle.draid_session.proofs.Calm.{CalmTo, calm_follows, calm_store}
use Rattle.draid_session.proofs.Changing.{calm_fit}
use Rattle.draid_session.proofs.Following.{in_open}
use Rattle.draid_session.proofs.Groupwise.{IsSteadyHold}
use Rattle.draid_session.proofs.Lanewise.{does_calm}
use Rattle.draid_session.proofs.Saying.{are_many}
use Rattle.draid_session.proofs.Syncing.{finishes, fit_doubt}
use Rattle.draid_session.proofs.Unchanged.{IsNoChange, same_store}
use Rattle.draid_session.proofs.WithPool.{Next, open_turns}
use Rattle.draid_marked.specs.Keeping.{IsMark, KeepsMarked, KeepsMarks, MarksOpen, SaysMarks}
use Rattle.draid_marked.proofs.Answered.{NextMarked, next_at}
use Rattle.draid_marked.proofs.Covering.{covers}
use Rattle.draid_marked.proofs.Doing.{does_steady}
use Rattle.draid_marked.proofs.Marking.{mark_none, says_book, says_named}
use Rattle.draid_marked.proofs.Opening.{fill_stops_marks, fills_marks, frees_marks, open_later, open_named, refuses_marks, writes_marks}
use Rattle.draid_marked.proofs.Plain.{IsPlain, plain_leaves}
use Rattle.draid_marked.proofs.Rising.{Rises, holds_rise}
use Rattle.draid_marked.proofs.Sharp.{carried_later}
use Rattle.draid_marked.proofs.Taken.{back_fit, back_named, back_objects, back_stops, discard_stops, discarded, made_stops, named_open}

-- a thread has this store
pub open_with : (mid state : State) (store : Store) (m : Marked) → state ≡ record mid { store = store } → MarksOpen mid store m → MarksOpen state state.store m
open_with mid state store m made o =
    subst (λ (s : State). MarksOpen s s.store m) (sym made) (record { now = o.now; says = o.says; closed = o.closed; low = o.low; still = o.still })

pub fit_with : (mid state : State) (store : Store) (b : Book) → state ≡ record mid { store = store } → KeepsOpen mid store b → KeepsOpen state state.store b
fit_with mid state store b made f = subst (λ (s : State). KeepsOpen s s.store b) (sym made) (calm_fit mid (record mid { store = store }) store b (calm_store mid store) f)

pub kept_marked : (mid state : State) (store : Store) (m : Marked) → state ≡ record mid { store = store } → KeepsOpen mid store m.book → MarksOpen mid store m → KeepsMarked (Open state) m
kept_marked mid state store m made fit marks = record { book = fit_with mid state store m.book made fit; marks = open_with mid state store m made marks }

-- what there is where a store has a checkpoint
pub has_mark : (store : Store) (mark : Option Objects) → IsMark store.changes (check_by store.marks) mark → check_by store.marks ≢ None → mark ≢ None
has_mark store mark is some none = by (check_by store.marks) refl (subst (IsMark store.changes (check_by store.marks)) none is)
  where
    by : (o : Option Check) → check_by store.marks ≡ o → IsMark store.changes o None → ⊥
    by None same j = some same
    by (Some check) same j = j

pub no_mark : (store : Store) (mark : Option Objects) → IsMark store.changes (check_by store.marks) mark → check_by store.marks ≡ None → mark ≡ None
no_mark store mark is none = mark_none store.changes mark (subst (λ o. IsMark store.changes o mark) none is)

-- a pool that is open has what groups from the committed one on keep
open_kept : (z : State) (n : Book) → KeepsOpen z z.store n → HaveBeen n (λ o. bytes_in (kept z.committed z.store.changes o))
open_kept z n keeps = keeps.says.had z.committed (omega arith)

module _ (choices : Choices) (old : State) (m : Marked) (fit : KeepsOpen old old.store m.book) (marks : MarksOpen old old.store m) where
  module _ (command : Command) (reply : Reply) (state : State) (it : CarriesOut choices command reply old state) where
    steady : AllOf IsSteadyHold it.holds
    steady = does_steady old.geometry old.perms it.holds choices old.store it.store command reply it.does

    later : old.committed ≤ state.committed
    later = carried_later choices old state m.book fit command reply it

    same : state.committed ≡ it.mid.committed
    same = ap (λ (s : State). s.committed) it.made

    later_mid : old.committed ≤ it.mid.committed
    later_mid = (let on = later in let at = same in omega (arith, on, at))

    rises_mid : Rises old it.mid
    rises_mid = holds_rise it.holds old it.mid steady it.follows

    n : Next m.book command reply (desk_behind reply state)
    n = open_turns choices old m.book fit command reply (desk_behind reply state) (state, it, refl)

    says : OpenAnswers m.book command reply n.book
    says = in_open m.book n.book command reply fit.is_open n.answers

    by_open : (b : Book) → OpenAnswers m.book command reply b → Answers m.book command reply b
    by_open b a = subst (λ z. AnswersBy z m.book command reply b) (sym fit.is_open) a

    -- the store is as it was
    stays : it.store ≡ old.store → (b : Book) → b.group ≡ m.book.group → MarksOpen it.mid it.store (record m { book = b })
    stays is b group = subst (λ s. MarksOpen it.mid s (record m { book = b })) (sym is) (open_later old it.mid old.store m b group fit.low later_mid rises_mid marks)

    stays_open : it.store ≡ old.store → (b : Book) → b.group ≡ m.book.group → MarksOpen state state.store (record m { book = b })
    stays_open is b group = open_with it.mid state it.store (record m { book = b }) it.made (stays is b group)

    -- no group is named
    unnamed : names_group reply ≡ false → n.book.group ≡ m.book.group → desk_behind reply state ≡ Open state → ((b : Book) → b.group ≡ m.book.group → MarksOpen state state.store (record m { book = b }))
        → ((next : Marked) → Answers m.book command reply next.book × KeepsMark m next (names_group reply) → MarkedAnswers m command reply next) → NextMarked m command reply (desk_behind reply state)
    unnamed names group open_still behind wraps = record {
      next = record m { book = n.book };
      answers = wraps (record m { book = n.book }) (n.answers, subst (KeepsMark m (record m { book = n.book })) (sym names) (record { mark = refl; kept = refl; since = refl }));
      keeps = record { book = n.keeps; marks = subst (λ desk. KeepsMarks desk (record m { book = n.book })) (sym open_still) (behind n.book group) };
    }

    plain : IsPlain command → ((b : Book) → b.group ≡ m.book.group → MarksOpen state state.store (record m { book = b }))
        → ((next : Marked) → Answers m.book command reply next.book × KeepsMark m next (names_group reply) → MarkedAnswers m command reply next) → NextMarked m command reply (desk_behind reply state)
    plain is behind wraps = (let l = plain_leaves m.book n.book command is reply says in unnamed l.0 l.1 (l.2 state) behind wraps)

    same_plain : IsPlain command → IsNoChange command → ((next : Marked) → Answers m.book command reply next.book × KeepsMark m next (names_group reply) → MarkedAnswers m command reply next)
        → NextMarked m command reply (desk_behind reply state)
    same_plain is none wraps = plain is (stays_open (same_store old.geometry old.perms choices old.store it.store it.holds command reply none it.does)) wraps

    -- a group is named that keeps all as it is
    all_marks : ((s : Store) → s.marks ≡ old.store.marks → Does old.geometry old.perms choices content_of command s it.holds reply s)
        → ((c k : Book) → OpenAnswers c command reply k → (k.since ≡ []) × ((o : ℕ) → k.kept o ≡ c.now o))
        → ((z : State) (k : Book) → Keeps (desk_behind reply z) k → HaveBeen k (λ o. bytes_in (kept z.committed z.store.changes o)))
        → All (λ mark. mark_group mark ≤ state.committed) old.store.marks
    all_marks does named kept_by = covers choices old state m.book fit command reply it later marks.low does named kept_by

    named_next : Marked
    named_next = record { book = n.book; mark = m.mark; kept_mark = m.mark; since_marks = [] }

    named : names_group reply ≡ true → desk_behind reply state ≡ Open state → it.store ≡ old.store → All (λ mark. mark_group mark ≤ state.committed) old.store.marks
        → ((next : Marked) → Answers m.book command reply next.book × KeepsMark m next (names_group reply) → MarkedAnswers m command reply next) → NextMarked m command reply (desk_behind reply state)
    named names open_still is all wraps = record {
      next = record { book = n.book; mark = m.mark; kept_mark = m.mark; since_marks = [] };
      answers = wraps (record { book = n.book; mark = m.mark; kept_mark = m.mark; since_marks = [] }) (n.answers, subst (KeepsMark m (record { book = n.book; mark = m.mark; kept_mark = m.mark; since_marks = [] })) (sym names) (record { mark = refl; kept = refl; since = refl }));
      keeps = record {
        book = n.keeps;
        marks = subst (λ desk. KeepsMarks desk (record { book = n.book; mark = m.mark; kept_mark = m.mark; since_marks = [] })) (sym open_still)
            (subst (λ s. MarksOpen state s (record { book = n.book; mark = m.mark; kept_mark = m.mark; since_marks = [] })) (sym (ap (λ (s : State). s.store) it.made ∙ is))
            (open_named old state old.store m n.book all (subst (λ desk. Keeps desk n.book) open_still n.keeps).steps marks));
      };
    }

  -- ---- groups

  sync_marks : (group thin : ℕ) (holds : List Hold) (z : State) → groups.Syncs old.geometry old.perms group thin holds Went → Follows holds old z → All (λ mark. mark_group mark ≤ z.committed) old.store.marks
  sync_marks group thin holds z syncs follows =
      let it : CarriesOut choices SyncPool (Synced group thin) old (record z { store = old.store }) = record { holds = holds; mid = z; store = old.store; follows = follows; does = (refl, syncs); made = refl } in
      all_marks SyncPool (Synced group thin) (record z { store = old.store }) it (λ s is. (refl, syncs)) (λ c k a. (ap (λ (b : Book). b.since) a.1, λ o. ap (λ (b : Book). b.kept o) a.1)) open_kept

  sync_next : (reply : Reply) (state : State) → CarriesOut choices SyncPool reply old state → NextMarked m SyncPool reply (desk_behind reply state)
  sync_next (Synced group thin) state it = named SyncPool (Synced group thin) state it refl refl it.does.0
      (subst (λ k. All (λ mark. mark_group mark ≤ k) old.store.marks) (sym (ap (λ (s : State). s.committed) it.made)) (sync_marks group thin it.holds it.mid it.does.1 it.follows)) (λ next a. a)
  sync_next (Worn name.Sync) state it = unnamed SyncPool (Worn name.Sync) state it refl (ap (λ (b : Book). b.group) (says SyncPool (Worn name.Sync) state it)) refl (stays_open SyncPool (Worn name.Sync) state it it.does.0) (λ next a. a)
  sync_next (Last name.Sync) state it = unnamed SyncPool (Last name.Sync) state it refl (ap (λ (b : Book). b.group) (says SyncPool (Last name.Sync) state it)) refl (stays_open SyncPool (Last name.Sync) state it it.does.0) (λ next a. a)
  sync_next (NoMemory name.Sync) state it =
      unnamed SyncPool (NoMemory name.Sync) state it refl (ap (λ (b : Book). b.group) (says SyncPool (NoMemory name.Sync) state it)) refl (stays_open SyncPool (NoMemory name.Sync) state it it.does.0) (λ next a. a)
  sync_next reply state it = absurd it.does

  export_next : (reply : Reply) (state : State) → CarriesOut choices ExportPool reply old state → NextMarked m ExportPool reply (desk_behind reply state)
  export_next (Exported group) state it =
      let k = n ExportPool (Exported group) state it in
      let all = all_marks ExportPool (Exported group) state it (λ s is. (refl, subst (λ ms. groups.Exports old.geometry old.perms ms group it.holds Went) (sym is) it.does.1))
      (λ c k a. (ap (λ (b : Book). b.since) a.1, λ o. ap (λ (b : Book). b.kept o) a.1)) (λ z k keeps. keeps.had z.committed (omega arith)) in
      record {
        next = record { book = k.book; mark = m.mark; kept_mark = m.mark; since_marks = [] };
        answers = (k.answers, record { mark = refl; kept = refl; since = refl });
        keeps = record {
          book = k.keeps;
          marks = subst (λ (s : Store). SaysMarks state.committed s.changes s.marks (record { book = k.book; mark = m.mark; kept_mark = m.mark; since_marks = [] })) (sym (ap (λ (s : State). s.store) it.made ∙ it.does.0))
              (says_named state.committed old.store.changes old.store.marks k.book m.mark all marks.now);
        };
      }
  export_next (Worn name.Export) state it =
      unnamed ExportPool (Worn name.Export) state it refl (ap (λ (b : Book). b.group) (says ExportPool (Worn name.Export) state it)) refl (stays_open ExportPool (Worn name.Export) state it it.does.0) (λ next a. a)
  export_next (Last name.Export) state it =
      unnamed ExportPool (Last name.Export) state it refl (ap (λ (b : Book). b.group) (says ExportPool (Last name.Export) state it)) refl (stays_open ExportPool (Last name.Export) state it it.does.0) (λ next a. a)
  export_next (NoMemory name.Export) state it =
      unnamed ExportPool (NoMemory name.Export) state it refl (ap (λ (b : Book). b.group) (says ExportPool (NoMemory name.Export) state it)) refl (stays_open ExportPool (NoMemory name.Export) state it it.does.0) (λ next a. a)
  export_next reply state it = absurd it.does

  crash_next : (reply : Reply) (state : State) → CarriesOut choices CrashPool reply old state → NextMarked m CrashPool reply (desk_behind reply state)
  crash_next Crashed state it =
      let k = n CrashPool Crashed state it in
      record {
        next = record m { book = k.book };
        answers = (k.answers, record { mark = refl; kept = refl; since = refl });
        keeps = record { book = k.keeps; marks = (stays_open CrashPool Crashed state it it.does.0 k.book (ap (λ (b : Book). b.group) (says CrashPool Crashed state it))).says };
      }
  crash_next reply state it = absurd it.does

  detach_next : (arm : ArmArgument) (reply : Reply) (state : State) → CarriesOut choices (DetachArm arm) reply old state → NextMarked m (DetachArm arm) reply (desk_behind reply state)
  detach_next arm (Detached a group) state it = named (DetachArm arm) (Detached a group) state it refl refl it.does.1
      (all_marks (DetachArm arm) (Detached a group) state it (λ s is. (it.does.0, refl, it.does.2)) (λ c k d. (ap (λ (b : Book). b.since) d.2, λ o. ap (λ (b : Book). b.kept o) d.2)) open_kept) (λ next a. a)
  detach_next arm (DetachRefused a why) state it =
      unnamed (DetachArm arm) (DetachRefused a why) state it refl (ap (λ (b : Book). b.group) (says (DetachArm arm) (DetachRefused a why) state it).1) refl (stays_open (DetachArm arm) (DetachRefused a why) state it it.does.1) (λ next a. a)
  detach_next arm (DetachWorn a) state it =
      unnamed (DetachArm arm) (DetachWorn a) state it refl (ap (λ (b : Book). b.group) (says (DetachArm arm) (DetachWorn a) state it).1) refl (stays_open (DetachArm arm) (DetachWorn a) state it it.does.1) (λ next a. a)
  detach_next arm (DetachLast a) state it =
      unnamed (DetachArm arm) (DetachLast a) state it refl (ap (λ (b : Book). b.group) (says (DetachArm arm) (DetachLast a) state it).1) refl (stays_open (DetachArm arm) (DetachLast a) state it it.does.1) (λ next a. a)
  detach_next arm (NoMemory name.Detach) state it =
      unnamed (DetachArm arm) (NoMemory name.Detach) state it refl (ap (λ (b : Book). b.group) (says (DetachArm arm) (NoMemory name.Detach) state it)) refl (stays_open (DetachArm arm) (NoMemory name.Detach) state it it.does.0) (λ next a. a)
  detach_next arm reply state it = absurd it.does

  rebalance_next : (slot : ℕ) (reply : Reply) (state : State) → CarriesOut choices (RebalanceSlot slot) reply old state → NextMarked m (RebalanceSlot slot) reply (desk_behind reply state)
  rebalance_next slot (Rebalanced s blocks repaired errors None) state it =
      unnamed (RebalanceSlot slot) (Rebalanced s blocks repaired errors None) state it refl (ap (λ (b : Book). b.group) (says (RebalanceSlot slot) (Rebalanced s blocks repaired errors None) state it).1) refl
      (stays_open (RebalanceSlot slot) (Rebalanced s blocks repaired errors None) state it it.does.1) (λ next a. a)
  rebalance_next slot (Rebalanced s blocks repaired errors (Some group)) state it = named (RebalanceSlot slot) (Rebalanced s blocks repaired errors (Some group)) state it refl refl it.does.1
      (all_marks (RebalanceSlot slot) (Rebalanced s blocks repaired errors (Some group)) state it (λ t is. (it.does.0, refl, it.does.2)) (λ c k d. (ap (λ (b : Book). b.since) d.2, λ o. ap (λ (b : Book). b.kept o) d.2)) open_kept)
      (λ next a. a)
  rebalance_next slot (RebalanceRefused s slot_fault.NoSuch) state it =
      unnamed (RebalanceSlot slot) (RebalanceRefused s slot_fault.NoSuch) state it refl (ap (λ (b : Book). b.group) (says (RebalanceSlot slot) (RebalanceRefused s slot_fault.NoSuch) state it).1) refl
      (stays_open (RebalanceSlot slot) (RebalanceRefused s slot_fault.NoSuch) state it it.does.1) (λ next a. a)
  rebalance_next slot (RebalanceRefused s (slot_fault.PassRunning metaslab number)) state it =
      unnamed (RebalanceSlot slot) (RebalanceRefused s (slot_fault.PassRunning metaslab number)) state it refl (ap (λ (b : Book). b.group) (says (RebalanceSlot slot) (RebalanceRefused s (slot_fault.PassRunning metaslab number)) state it).1) refl
      (stays_open (RebalanceSlot slot) (RebalanceRefused s (slot_fault.PassRunning metaslab number)) state it it.does.1) (λ next a. a)
  rebalance_next slot (RebalanceWorn s) state it =
      unnamed (RebalanceSlot slot) (RebalanceWorn s) state it refl (ap (λ (b : Book). b.group) (says (RebalanceSlot slot) (RebalanceWorn s) state it).1.2) refl (stays_open (RebalanceSlot slot) (RebalanceWorn s) state it it.does.1) (λ next a. a)
  rebalance_next slot (RebalanceLast s) state it =
      unnamed (RebalanceSlot slot) (RebalanceLast s) state it refl (ap (λ (b : Book). b.group) (says (RebalanceSlot slot) (RebalanceLast s) state it).1.2) refl (stays_open (RebalanceSlot slot) (RebalanceLast s) state it it.does.1) (λ next a. a)
  rebalance_next slot (NoMemory name.Rebalance) state it =
      unnamed (RebalanceSlot slot) (NoMemory name.Rebalance) state it refl (ap (λ (b : Book). b.group) (says (RebalanceSlot slot) (NoMemory name.Rebalance) state it).2) refl
      (stays_open (RebalanceSlot slot) (NoMemory name.Rebalance) state it it.does.0) (λ next a. a)
  rebalance_next slot reply state it = absurd it.does

  upgrade_next : (reply : Reply) (state : State) → CarriesOut choices UpgradePool reply old state → NextMarked m UpgradePool reply (desk_behind reply state)
  upgrade_next (Upgraded group) state it = named UpgradePool (Upgraded group) state it refl refl it.does.0
      (all_marks UpgradePool (Upgraded group) state it (λ s is. (refl, it.does.1)) (λ c k d. (ap (λ (b : Book). b.since) d.1, λ o. ap (λ (b : Book). b.kept o) d.1)) open_kept) (λ next a. a)
  upgrade_next UpgradeAlready state it = unnamed UpgradePool UpgradeAlready state it refl (ap (λ (b : Book). b.group) (says UpgradePool UpgradeAlready state it)) refl (stays_open UpgradePool UpgradeAlready state it it.does.0) (λ next a. a)
  upgrade_next (Worn name.Upgrade) state it =
      unnamed UpgradePool (Worn name.Upgrade) state it refl (ap (λ (b : Book). b.group) (says UpgradePool (Worn name.Upgrade) state it)) refl (stays_open UpgradePool (Worn name.Upgrade) state it it.does.0) (λ next a. a)
  upgrade_next (Last name.Upgrade) state it =
      unnamed UpgradePool (Last name.Upgrade) state it refl (ap (λ (b : Book). b.group) (says UpgradePool (Last name.Upgrade) state it)) refl (stays_open UpgradePool (Last name.Upgrade) state it it.does.0) (λ next a. a)
  upgrade_next (NoMemory name.Upgrade) state it =
      unnamed UpgradePool (NoMemory name.Upgrade) state it refl (ap (λ (b : Book). b.group) (says UpgradePool (NoMemory name.Upgrade) state it)) refl (stays_open UpgradePool (NoMemory name.Upgrade) state it it.does.0) (λ next a. a)
  upgrade_next reply state it = absurd it.does

  -- ---- objects

  -- with another book of the same group
  book_on : (state : State) (b : Book) → b.group ≡ m.book.group → MarksOpen state state.store m → MarksOpen state state.store (record m { book = b })
  book_on state b group o = record { now = o.now; says = says_book state.committed state.store.changes state.store.marks m b group o.says; closed = o.closed; low = o.low; still = o.still }

  write_behind : (object : ℕ) (bytes : List ℕ) (reply : Reply) (state : State) → CarriesOut choices (WriteObject object bytes) reply old state → MarksOpen state state.store m
  write_behind object bytes reply state it = open_with it.mid state it.store m it.made (by reply it.does)
    where
      calm : it.mid.committed ≡ old.committed
      calm = (calm_follows it.holds old it.mid (does_calm old.geometry old.perms choices (WriteObject object bytes) reply old.store it.store it.holds tt it.does) it.follows).committed

      rises : Rises old it.mid
      rises = rises_mid (WriteObject object bytes) reply state it

      by : (r : Reply) → Does old.geometry old.perms choices content_of (WriteObject object bytes) old.store it.holds r it.store → MarksOpen it.mid it.store m
      by (Written o) d = writes_marks old.geometry old.perms choices object bytes old.store it.store it.holds old it.mid m d.1 it.follows marks
      by (NoSpace o run disabled full worn) d = refuses_marks old.geometry old.perms choices object bytes (refusal.NoSpace run disabled full worn) old.store it.store it.holds old it.mid m d.1 it.follows calm rises marks
      by (Missed o columns) d = refuses_marks old.geometry old.perms choices object bytes (refusal.Missed columns) old.store it.store it.holds old it.mid m d.1 it.follows calm rises marks
      by (WriteLast o) d = refuses_marks old.geometry old.perms choices object bytes refusal.Last old.store it.store it.holds old it.mid m d.1 it.follows calm rises marks
      by (NoMemory name.Write) d = refuses_marks old.geometry old.perms choices object bytes refusal.NoMemory old.store it.store it.holds old it.mid m d it.follows calm rises marks
      by r d = absurd d

  fill_behind : (first count len seed : ℕ) (reply : Reply) (state : State) → CarriesOut choices (FillObjects first count len seed) reply old state → MarksOpen state state.store m
  fill_behind first count len seed reply state it = open_with it.mid state it.store m it.made (by reply it.does)
    where
      by : (r : Reply) → Does old.geometry old.perms choices content_of (FillObjects first count len seed) old.store it.holds r it.store → MarksOpen it.mid it.store m
      by (Filled f written) d = fills_marks old.geometry old.perms choices (λ object. content_of seed object len) first count old.store it.store it.holds old it.mid m d.2 it.follows marks
      by (FillRefused f written why) d = fill_stops_marks old.geometry old.perms choices (λ object. content_of seed object len) first count written why old.store it.store it.holds old it.mid m d.1 it.follows marks
      by r d = absurd d

  free_behind : (object : ℕ) (reply : Reply) (state : State) → CarriesOut choices (FreeObject object) reply old state → MarksOpen state state.store m
  free_behind object reply state it = by reply it.does
    where
      calm : it.mid.committed ≡ old.committed
      calm = (calm_follows it.holds old it.mid (does_calm old.geometry old.perms choices (FreeObject object) reply old.store it.store it.holds tt it.does) it.follows).committed

      by : (r : Reply) → Does old.geometry old.perms choices content_of (FreeObject object) old.store it.holds r it.store → MarksOpen state state.store m
      by (Freed o) d = open_with it.mid state it.store m it.made (frees_marks object old.store it.store it.holds old it.mid m d.1 it.follows calm (rises_mid (FreeObject object) reply state it) marks)
      by (FreeNoObject o) d = stays_open (FreeObject object) reply state it d.1 m.book refl
      by r d = absurd d

  -- ---- checkpoints

  -- the book says so where it is open
  takes : (reply : Reply) (next : Marked) → TakesMark m reply next → MarkedAnswers m TakeCheckpoint reply next
  takes reply next t = subst (λ z. IsOpenThen z TakesMark m reply next) (sym fit.is_open) t

  goes_back : (reply : Reply) (next : Marked) → GoesBack m reply next → MarkedAnswers m RewindPool reply next
  goes_back reply next t = subst (λ z. IsOpenThen z GoesBack m reply next) (sym fit.is_open) t

  gives_up : (reply : Reply) (next : Marked) → GivesUp m reply next → MarkedAnswers m DiscardCheckpoint reply next
  gives_up reply next t = subst (λ z. IsOpenThen z GivesUp m reply next) (sym fit.is_open) t

  take_next : (reply : Reply) (state : State) → CarriesOut choices TakeCheckpoint reply old state → NextMarked m TakeCheckpoint reply (desk_behind reply state)
  take_next (Checkpointed group) state it = record {
    next = keeps_both group (with_mark (Some m.book.now) m);
    answers = takes (Checkpointed group) (keeps_both group (with_mark (Some m.book.now) m)) (no_mark old.store m.mark marks.now it.does.1, a.0, refl);
    keeps = record { book = keeps; marks = made };
  }
    where
      a : NamesNext m.book group × ((n TakeCheckpoint (Checkpointed group) state it).book ≡ synced group m.book)
      a = says TakeCheckpoint (Checkpointed group) state it

      keeps : KeepsOpen state state.store (synced group m.book)
      keeps = subst (KeepsOpen state state.store) a.1 (n TakeCheckpoint (Checkpointed group) state it).keeps

      store_is : state.store ≡ marked (Made group) old.store
      store_is = ap (λ (s : State). s.store) it.made ∙ it.does.2

      at : group ≡ state.committed
      at = (let low = keeps.low in let few = keeps.few in omega (arith, low, few))

      own : (object : ℕ) → m.book.now object ≡ bytes_in (kept group old.store.changes object)
      own object = keeps.says.keeps at object ∙ (ap (λ k. bytes_in (kept k state.store.changes object)) (sym at) ∙ ap (λ (s : Store). bytes_in (kept group s.changes object)) store_is)

      all : All (λ mark. mark_group mark ≤ state.committed) old.store.marks
      all = subst (λ k. All (λ mark. mark_group mark ≤ k) old.store.marks) (sym (ap (λ (s : State). s.committed) it.made)) (sync_marks group it.does.0 it.holds it.mid it.does.3 it.follows)

      made : MarksOpen state state.store (keeps_both group (with_mark (Some m.book.now) m))
      made = subst (λ s. MarksOpen state s (keeps_both group (with_mark (Some m.book.now) m))) (sym store_is)
          (named_open state (marked (Made group) old.store) (synced group m.book) (Some m.book.now) (All-cons (λ mark. mark_group mark ≤ state.committed) (Made group) old.store.marks (omega (arith, at)) all) keeps.steps own)
  take_next (CheckpointThere group) state it = record {
    next = m;
    answers = takes (CheckpointThere group) m (has_mark old.store m.mark marks.now (λ none. none_some (check_by old.store.marks) it.does.1.0 none it.does.1.1), refl);
    keeps = record {
      book = subst (KeepsOpen state state.store) (says TakeCheckpoint (CheckpointThere group) state it) (n TakeCheckpoint (CheckpointThere group) state it).keeps;
      marks = stays_open TakeCheckpoint (CheckpointThere group) state it it.does.0 m.book refl;
    };
  }
  take_next (Worn name.Checkpoint) state it = record {
    next = doubts m;
    answers = takes (Worn name.Checkpoint) (doubts m) refl;
    keeps = record {
      book = subst (KeepsOpen state state.store) (says TakeCheckpoint (Worn name.Checkpoint) state it) (n TakeCheckpoint (Worn name.Checkpoint) state it).keeps;
      marks = stays_open TakeCheckpoint (Worn name.Checkpoint) state it it.does.0 (doubtful m.book) refl;
    };
  }
  take_next (Last name.Checkpoint) state it = record {
    next = doubts m;
    answers = takes (Last name.Checkpoint) (doubts m) refl;
    keeps = record {
      book = subst (KeepsOpen state state.store) (says TakeCheckpoint (Last name.Checkpoint) state it) (n TakeCheckpoint (Last name.Checkpoint) state it).keeps;
      marks = stays_open TakeCheckpoint (Last name.Checkpoint) state it it.does.0 (doubtful m.book) refl;
    };
  }
  take_next (NoMemory name.Checkpoint) state it = by it.does
    where
      keeps : KeepsOpen state state.store (doubtful m.book)
      keeps = subst (KeepsOpen state state.store) (says TakeCheckpoint (NoMemory name.Checkpoint) state it) (n TakeCheckpoint (NoMemory name.Checkpoint) state it).keeps

      none : it.store ≡ old.store → NextMarked m TakeCheckpoint (NoMemory name.Checkpoint) (Open state)
      none is = record {
        next = doubts m;
        answers = takes (NoMemory name.Checkpoint) (doubts m) (inl refl);
        keeps = record { book = keeps; marks = stays_open TakeCheckpoint (NoMemory name.Checkpoint) state it is (doubtful m.book) refl };
      }

      by : Does old.geometry old.perms choices content_of TakeCheckpoint old.store it.holds (NoMemory name.Checkpoint) it.store → NextMarked m TakeCheckpoint (NoMemory name.Checkpoint) (Open state)
      by (inl (inl (is, before))) = none is
      by (inl (inr s)) = record {
        next = doubts (with_mark (Some m.book.now) m);
        answers = takes (NoMemory name.Checkpoint) (doubts (with_mark (Some m.book.now) m)) (inr (no_mark old.store m.mark marks.now s.none, refl));
        keeps = record {
          book = keeps;
          marks = open_with it.mid state it.store (doubts (with_mark (Some m.book.now) m)) it.made
              (made_stops old m fit marks it.mid it.holds it.follows (steady TakeCheckpoint (NoMemory name.Checkpoint) state it) (later_mid TakeCheckpoint (NoMemory name.Checkpoint) state it) Starved it.store s);
        };
      }
      by (inr (is, rest)) = none is
  take_next reply state it = absurd it.does

  -- it is given up, or the sync before that is stopped
  discard_stopped : (reply : Reply) (state : State) (it : CarriesOut choices DiscardCheckpoint reply old state) (end : End) → DiscardStops old.geometry old.perms old.store it.holds end it.store
      → KeepsOpen state state.store (doubtful m.book) → ((next : Marked) → EitherWay m (with_mark None m) next → MarkedAnswers m DiscardCheckpoint reply next) → NextMarked m DiscardCheckpoint reply (Open state)
  discard_stopped reply state it end (inl (is, other, ends)) keeps wraps = record {
    next = doubts m;
    answers = wraps (doubts m) (inl refl);
    keeps = record { book = keeps; marks = stays_open DiscardCheckpoint reply state it is (doubtful m.book) refl };
  }
  discard_stopped reply state it end (inr (at, group, thin, frees, made, other, d)) keeps wraps = record {
    next = doubts (with_mark None m);
    answers = wraps (doubts (with_mark None m)) (inr refl);
    keeps = record {
      book = keeps;
      marks = open_with it.mid state it.store (doubts (with_mark None m)) it.made (subst (λ s. MarksOpen it.mid s (doubts (with_mark None m))) (sym made)
          (discard_stops old m fit marks it.mid it.holds it.follows (steady DiscardCheckpoint reply state it) (later_mid DiscardCheckpoint reply state it) at group thin frees end other d));
    };
  }

  discard_next : (reply : Reply) (state : State) → CarriesOut choices DiscardCheckpoint reply old state → NextMarked m DiscardCheckpoint reply (desk_behind reply state)
  discard_next (Discarded freed group) state it = by it.does
    where
      a : NamesNext m.book group × ((n DiscardCheckpoint (Discarded freed group) state it).book ≡ synced group m.book)
      a = says DiscardCheckpoint (Discarded freed group) state it

      keeps : KeepsOpen state state.store (synced group m.book)
      keeps = subst (KeepsOpen state state.store) a.1 (n DiscardCheckpoint (Discarded freed group) state it).keeps

      -- the same, of the pool before it has its thread's store
      keeps_mid : KeepsOpen it.mid state.store (synced group m.book)
      keeps_mid = calm_fit state it.mid state.store (synced group m.book) (subst (λ (s : State). CalmTo s it.mid) (sym it.made) (calm_store (record it.mid { store = it.store }) it.mid.store)) keeps

      by : Does old.geometry old.perms choices content_of DiscardCheckpoint old.store it.holds (Discarded freed group) it.store → NextMarked m DiscardCheckpoint (Discarded freed group) (Open state)
      by (at, thin, frees, many, made, d) =
          let store_is : state.store ≡ given_up at old.store = ap (λ (s : State). s.store) it.made ∙ made in
          record {
            next = keeps_both group (with_mark None m);
            answers = gives_up (Discarded freed group) (keeps_both group (with_mark None m)) (has_mark old.store m.mark marks.now d.has, a.0, refl);
            keeps = record {
              book = keeps;
              marks = open_with it.mid state it.store (keeps_both group (with_mark None m)) it.made (subst (λ s. MarksOpen it.mid s (keeps_both group (with_mark None m))) (sym made)
                  (discarded old m fit marks it.mid it.holds it.follows (steady DiscardCheckpoint (Discarded freed group) state it) (later_mid DiscardCheckpoint (Discarded freed group) state it) at group thin frees d
                  (subst (λ s. KeepsOpen it.mid s (synced group m.book)) store_is keeps_mid)));
            };
          }
  discard_next (NoCheckpoint name.Discard) state it = record {
    next = m;
    answers = gives_up (NoCheckpoint name.Discard) m (no_mark old.store m.mark marks.now it.does.0, refl);
    keeps = record {
      book = subst (KeepsOpen state state.store) (says DiscardCheckpoint (NoCheckpoint name.Discard) state it) (n DiscardCheckpoint (NoCheckpoint name.Discard) state it).keeps;
      marks = stays_open DiscardCheckpoint (NoCheckpoint name.Discard) state it it.does.1 m.book refl;
    };
  }
  discard_next (Worn name.Discard) state it = discard_stopped (Worn name.Discard) state it WasWorn it.does
      (subst (KeepsOpen state state.store) (says DiscardCheckpoint (Worn name.Discard) state it) (n DiscardCheckpoint (Worn name.Discard) state it).keeps) (λ next e. gives_up (Worn name.Discard) next e)
  discard_next (Last name.Discard) state it = discard_stopped (Last name.Discard) state it WasLast it.does
      (subst (KeepsOpen state state.store) (says DiscardCheckpoint (Last name.Discard) state it) (n DiscardCheckpoint (Last name.Discard) state it).keeps) (λ next e. gives_up (Last name.Discard) next e)
  discard_next (NoMemory name.Discard) state it = discard_stopped (NoMemory name.Discard) state it Starved it.does
      (subst (KeepsOpen state state.store) (says DiscardCheckpoint (NoMemory name.Discard) state it) (n DiscardCheckpoint (NoMemory name.Discard) state it).keeps) (λ next e. gives_up (NoMemory name.Discard) next e)
  discard_next reply state it = absurd it.does

  -- it is gone back to, or that was stopped
  abbrev BackEither : Marked → Type 0
  BackEither next = (next ≡ doubts m) ⊎ ((objects : Objects) × (m.mark ≡ Some objects) × (next ≡ doubts (rewound objects m)))

  rewind_none : (reply : Reply) (state : State) (it : CarriesOut choices RewindPool reply old state) (end : End) → it.store ≡ old.store → groups.Finishes old.geometry old.perms it.holds end
      → ((next : Marked) → BackEither next → MarkedAnswers m RewindPool reply next) → NextMarked m RewindPool reply (Open state)
  rewind_none reply state it end is ends wraps = record {
    next = doubts m;
    answers = wraps (doubts m) (inl refl);
    keeps = record {
      book = fit_with it.mid state it.store (doubtful m.book) it.made (subst (λ s. KeepsOpen it.mid s (doubtful m.book)) (sym is)
          (fit_doubt it.mid old.store m.book (finishes old.geometry old.perms it.holds end old it.mid old.store m.book ends it.follows refl fit).keeps));
      marks = stays_open RewindPool reply state it is (doubtful m.book) refl;
    };
  }

  rewind_stopped : (reply : Reply) (state : State) (it : CarriesOut choices RewindPool reply old state) (end : End) → BackStops old.geometry old.perms old.store it.holds end it.store
      → ((next : Marked) → BackEither next → MarkedAnswers m RewindPool reply next) → NextMarked m RewindPool reply (Open state)
  rewind_stopped reply state it end (inl (is, other, ends)) wraps = rewind_none reply state it end is ends wraps
  rewind_stopped reply state it end (inr (group, thin, other, d)) wraps =
      let s = steady RewindPool reply state it in
      let l = later_mid RewindPool reply state it in
      let o = back_objects old m fit marks it.mid it.holds it.follows s l it.store group thin end d in
      let f = (back_fit old m fit marks it.mid it.holds it.follows s l it.store group thin end d).1 other in
      record {
        next = doubts (rewound o.0 m);
        answers = wraps (doubts (rewound o.0 m)) (inr (o.0, o.1, refl));
        keeps = kept_marked it.mid state it.store (doubts (rewound o.0 m)) it.made f (back_stops old m fit marks it.mid it.holds it.follows s l it.store group thin end d other);
      }

  rewind_next : (reply : Reply) (state : State) → CarriesOut choices RewindPool reply old state → NextMarked m RewindPool reply (desk_behind reply state)
  rewind_next (Rewound group many) state it = by it.does
    where
      by : Does old.geometry old.perms choices content_of RewindPool old.store it.holds (Rewound group many) it.store → NextMarked m RewindPool (Rewound group many) (Open state)
      by (thin, has, d) =
          let s = steady RewindPool (Rewound group many) state it in
          let l = later_mid RewindPool (Rewound group many) state it in
          let o = back_objects old m fit marks it.mid it.holds it.follows s l it.store group thin Went d in
          let f = (back_fit old m fit marks it.mid it.holds it.follows s l it.store group thin Went d).0 refl in
          record {
            next = keeps_both group (rewound o.0 m);
            answers = goes_back (Rewound group many) (keeps_both group (rewound o.0 m)) (o.0, o.1, are_many it.store.changes many o.0 o.2 has, f.0, refl);
            keeps = kept_marked it.mid state it.store (keeps_both group (rewound o.0 m)) it.made f.1 (back_named old m fit marks it.mid it.holds it.follows s l it.store group thin Went d refl f.1);
          }
  rewind_next (NoCheckpoint name.Rewind) state it = record {
    next = m;
    answers = goes_back (NoCheckpoint name.Rewind) m (no_mark old.store m.mark marks.now it.does.0, refl);
    keeps = record {
      book = subst (KeepsOpen state state.store) (says RewindPool (NoCheckpoint name.Rewind) state it) (n RewindPool (NoCheckpoint name.Rewind) state it).keeps;
      marks = stays_open RewindPool (NoCheckpoint name.Rewind) state it it.does.1 m.book refl;
    };
  }
  rewind_next (Worn name.Rewind) state it = rewind_stopped (Worn name.Rewind) state it WasWorn it.does (λ next e. goes_back (Worn name.Rewind) next e)
  rewind_next (Last name.Rewind) state it = rewind_stopped (Last name.Rewind) state it WasLast it.does (λ next e. goes_back (Last name.Rewind) next e)
  rewind_next (NoMemory name.Rewind) state it = by it.does
    where
      by : Does old.geometry old.perms choices content_of RewindPool old.store it.holds (NoMemory name.Rewind) it.store → NextMarked m RewindPool (NoMemory name.Rewind) (Open state)
      by (inl d) = rewind_stopped (NoMemory name.Rewind) state it Starved d (λ next e. goes_back (NoMemory name.Rewind) next e)
      by (inr (is, some, ends)) = rewind_none (NoMemory name.Rewind) state it Went is ends (λ next e. goes_back (NoMemory name.Rewind) next e)
  rewind_next reply state it = absurd it.does

  -- ---- each command

  create_next : (text : List ℕ) (children : ℕ) (keys : PoolKeys) (reply : Reply) (state : State) → CarriesOut choices (CreatePool text children keys) reply old state
      → NextMarked m (CreatePool text children keys) reply (desk_behind reply state)
  create_next text children keys (PoolOpen name.Create) state it = same_plain (CreatePool text children keys) (PoolOpen name.Create) state it tt tt (λ next a. a)
  create_next text children keys reply state it = absurd it.does

  import_next : (reply : Reply) (state : State) → CarriesOut choices ImportPool reply old state → NextMarked m ImportPool reply (desk_behind reply state)
  import_next (PoolOpen name.Import) state it = same_plain ImportPool (PoolOpen name.Import) state it tt tt (λ next a. a)
  import_next reply state it = absurd it.does

  carries_next : (command : Command) (reply : Reply) (state : State) → CarriesOut choices command reply old state → NextMarked m command reply (desk_behind reply state)
  carries_next (CreatePool text children keys) reply state it = create_next text children keys reply state it
  carries_next ImportPool reply state it = import_next reply state it
  carries_next ExportPool reply state it = export_next reply state it
  carries_next CrashPool reply state it = crash_next reply state it
  carries_next SyncPool reply state it = sync_next reply state it
  carries_next (WriteObject object bytes) reply state it =
      plain (WriteObject object bytes) reply state it tt (λ b group. book_on state b group (write_behind object bytes reply state it)) (λ next a. a)
  carries_next (FillObjects first count len seed) reply state it =
      plain (FillObjects first count len seed) reply state it tt (λ b group. book_on state b group (fill_behind first count len seed reply state it)) (λ next a. a)
  carries_next (FreeObject object) reply state it = plain (FreeObject object) reply state it tt (λ b group. book_on state b group (free_behind object reply state it)) (λ next a. a)
  carries_next (ReadObject object) reply state it = same_plain (ReadObject object) reply state it tt tt (λ next a. a)
  carries_next (SumObjects first count) reply state it = same_plain (SumObjects first count) reply state it tt tt (λ next a. a)
  carries_next (DamageSector leaf sector) reply state it = same_plain (DamageSector leaf sector) reply state it tt tt (λ next a. a)
  carries_next (ShowStatus form) reply state it = same_plain (ShowStatus form) reply state it tt tt (λ next a. a)
  carries_next (TakeOffline leaf) reply state it = same_plain (TakeOffline leaf) reply state it tt tt (λ next a. a)
  carries_next (TakeOnline leaf) reply state it = same_plain (TakeOnline leaf) reply state it tt tt (λ next a. a)
  carries_next (AttachSpare slot spare) reply state it = same_plain (AttachSpare slot spare) reply state it tt tt (λ next a. a)
  carries_next (ReplaceDisk slot sectors) reply state it = same_plain (ReplaceDisk slot sectors) reply state it tt tt (λ next a. a)
  carries_next (DetachArm arm) reply state it = detach_next arm reply state it
  carries_next (RebuildPool limit) reply state it = same_plain (RebuildPool limit) reply state it tt tt (λ next a. a)
  carries_next (ScrubPool limit) reply state it = same_plain (ScrubPool limit) reply state it tt tt (λ next a. a)
  carries_next CancelPasses reply state it = same_plain CancelPasses reply state it tt tt (λ next a. a)
  carries_next (RebalanceSlot slot) reply state it = rebalance_next slot reply state it
  carries_next UpgradePool reply state it = upgrade_next reply state it
  carries_next TakeCheckpoint reply state it = take_next reply state it
  carries_next DiscardCheckpoint reply state it = discard_next reply state it
  carries_next RewindPool reply state it = rewind_next reply state it
  carries_next (RunAgent least) reply state it = same_plain (RunAgent least) reply state it tt tt (λ next a. a)
  carries_next ShowJournal reply state it = same_plain ShowJournal reply state it tt tt (λ next a. a)
  carries_next command reply state it = absurd it.does

  pub open_marked : (command : Command) (reply : Reply) (new : Desk) → OpenTurns choices old command reply new → NextMarked m command reply new
  open_marked command reply new (state, it, is) = next_at m command reply (desk_behind reply state) new is (carries_next command reply state it)
