-- What an export and a crash did, in the words of a session.
use Rattle.std.proofs.Common.{◌≡◌, ◌∙◌, ◌⊎◌, inl, refl, sym, ap, subst, ℕ, true, false, List, [], Option, Some, None, Result, Ok, Err}
use Rattle.std.specs.Prelude.{IsErr}
use Rattle.std.proofs.lemmas.List.{append-nil}
use Rattle.draid_names.specs.declared.journal.Entry.{Entry}
use Rattle.draid_names.specs.declared.fault.Failed.{Failed}
use Rattle.draid_rack.specs.declared.Rack as racks
use Rattle.draid_area.specs.declared.Area as areas
use Rattle.draid_script.specs.Line.{Command, CrashPool, ExportPool}
use Rattle.draid_script.specs.declared.name.CommandName.TheVariants as name
use Rattle.draid_reply.specs.declared.reply.Reply.{Reply}
use Rattle.draid_reply.specs.declared.reply.Reply.TheVariants.{Crashed, Exported, Last, NoMemory, NoPool, Worn}
use Rattle.draid_shelf.specs.Kits.{OnHeld}
use Rattle.draid_session.specs.Certain.{MakesLeaves}
use Rattle.draid_session.specs.Said.{alone}
use Rattle.draid_session.specs.Choices.{Choices}
use Rattle.draid_session.specs.Groups as groups
use Rattle.draid_session.specs.Holds.{Hold}
use Rattle.draid_session.specs.Phases.{Broke}
use Rattle.draid_session.specs.Known.{Known}
use Rattle.draid_session.specs.Session.{Desk, Untouched, Bare, Made, Open, Shut, Foreign, Unknown, ShelfFails, TurnsBy}
use Rattle.draid_session.specs.State.{State, Store}
use Rattle.draid_export.specs.Exporting.{ExportDoes, IsExported, IsRefusal, RefusalSays, TellsGroup, WasRefused}
use Rattle.draid_pool.specs.Carries.{CarriesOut}
use Rattle.draid_pool.specs.Returning.{GivesBack, IsFirm}
use Rattle.draid_pool.specs.Failing.{AreaFails}
use Rattle.draid_pool.specs.Pointers.{SamePointers}
use Rattle.draid_pool.specs.Pools.{Represents}
use Rattle.draid_pool.specs.Whole.{IsWhole}
use Rattle.draid_pool.specs.declared.fault.SyncFault.{SyncFault}
use Rattle.draid_pool.specs.declared.fault.SyncFault.TheVariants as sync
use Rattle.draid_pool.specs.declared.pool.Pool.{Pool}
use Rattle.draid_run.specs.Desks.{Broken, IsDesk, IsPool, IsShelf, Turned}
use Rattle.draid_run.specs.Closing.{CrashDid, CrashTurns, ExportDid, ExportIs, ExportTurns, Leads, desk_left, export_reply, foreign_left, refusal_of, reply_in}
use Rattle.draid_pool.specs.Knows.{KnowsPointers}
use Rattle.draid_run.specs.Serve.{AnswerIs, IsSaid, stop_of}
use Rattle.draid_pool.specs.Shelves.{OnShelf}
use Rattle.draid_run.specs.Shelves.{AreaHasFailed, IsOut, MayFind, PoolFails, RackHasFailed, TellsAsBefore}
use Rattle.draid_run.specs.declared.answer.Stop.{Stop}
use Rattle.draid_run.specs.declared.answer.Stop.TheVariants as stop
use Rattle.draid_run.proofs.Broke.{broken_shows}
use Rattle.draid_run.proofs.GivenBack.{shelf_has}
use Rattle.draid_run.proofs.Steps.{still_out}
use Rattle.draid_pool.proofs.Taught.{still_known}

some_same : {T : Type 0} (a b : T) → Some a ≡ Some b → a ≡ b
some_same a b is = cc is

-- ---- in the words of a session

module _ (choices : Choices) (x : State) (holds : List Hold) (store : Store) where
  export_fails : (answer : Result ℕ SyncFault) → export_reply answer ≡ None → ExportDoes x answer holds store → (store ≡ x.store) × groups.ExportStops x.geometry x.perms x.store.marks holds Broke
  export_fails (Ok group) is does = absurd (cc is)
  export_fails (Err sync.Worn) is does = absurd (cc is)
  export_fails (Err sync.Last) is does = absurd (cc is)
  export_fails (Err sync.NoMemory) is does = absurd (cc is)
  export_fails (Err sync.Shelf) is does = does

module _ {R A : Type 0} (rack : racks.Ghosts R) (area : areas.Ghosts A) (choices : Choices) (entry before now : OnShelf) where
  -- a command has a reply
  abbrev TurnsTo : Command → Desk → Reply → Desk → Type 0
  TurnsTo command x reply new = TurnsBy choices (MayFind rack area entry) (Ok command) x (alone reply) new

  -- ---- an export
  export_turns : (x y : State) (answer : Result ℕ SyncFault) (reply : Reply) (new : Desk) → export_reply answer ≡ Some reply → new ≡ desk_left answer y → Leads x y (ExportDoes x answer) → TurnsTo ExportPool (Open x) reply new
  export_turns x y (Ok group) reply new is b l = subst (λ r. TurnsTo ExportPool (Open x) r new) (some_same (Exported group) reply is)
      (refl, (y, record { holds = l.holds; mid = l.mid; store = l.store; follows = l.follows; does = l.done; made = l.made }, b))
  export_turns x y (Err sync.Worn) reply new is b l = subst (λ r. TurnsTo ExportPool (Open x) r new) (some_same (Worn name.Export) reply is)
      (refl, (y, record { holds = l.holds; mid = l.mid; store = l.store; follows = l.follows; does = l.done; made = l.made }, b))
  export_turns x y (Err sync.Last) reply new is b l = subst (λ r. TurnsTo ExportPool (Open x) r new) (some_same (Last name.Export) reply is)
      (refl, (y, record { holds = l.holds; mid = l.mid; store = l.store; follows = l.follows; does = l.done; made = l.made }, b))
  export_turns x y (Err sync.NoMemory) reply new is b l = subst (λ r. TurnsTo ExportPool (Open x) r new) (some_same (NoMemory name.Export) reply is)
      (refl, (y, record { holds = l.holds; mid = l.mid; store = l.store; follows = l.follows; does = (l.done.0, inl l.done.1); made = l.made }, b))
  export_turns x y (Err sync.Shelf) reply new is b l = absurd (cc is)

  foreign_turns : (known : Known) (answer : Result ℕ SyncFault) (reply : Reply) (new : Desk) → export_reply answer ≡ Some reply → new ≡ foreign_left answer known → TurnsTo ExportPool (Foreign known) reply new
  foreign_turns known (Ok group) reply new is b = subst (λ r. TurnsTo ExportPool (Foreign known) r new) (some_same (Exported group) reply is) (refl, (tt, known, refl, b))
  foreign_turns known (Err sync.Worn) reply new is b = subst (λ r. TurnsTo ExportPool (Foreign known) r new) (some_same (Worn name.Export) reply is) (refl, (tt, known, refl, b))
  foreign_turns known (Err sync.Last) reply new is b = subst (λ r. TurnsTo ExportPool (Foreign known) r new) (some_same (Last name.Export) reply is) (refl, (tt, known, refl, b))
  foreign_turns known (Err sync.NoMemory) reply new is b = subst (λ r. TurnsTo ExportPool (Foreign known) r new) (some_same (NoMemory name.Export) reply is) (refl, (tt, known, refl, b))
  foreign_turns known (Err sync.Shelf) reply new is b = absurd (cc is)

  pub by_export : (x : Desk) (reply : Reply) (new : Option (Pool R A)) → ExportDid rack area entry x (Some reply) now new → Turned rack area choices (Ok ExportPool) entry x (alone reply) now new
  by_export x reply new did = record { new = did.new; desk = did.desk; turns = by x did.turns } where
    by : (x : Desk) → ExportTurns x (Some reply) did.new → TurnsTo ExportPool x reply did.new
    by Untouched turns = (refl, (name.Export, refl, some_same reply (NoPool name.Export) turns.0, turns.1))
    by (Made tells count geometry) turns = (refl, (name.Export, refl, some_same reply (NoPool name.Export) turns.0, turns.1))
    by (Shut crash y) turns = (refl, (name.Export, refl, some_same reply (NoPool name.Export) turns.0, turns.1))
    by Bare turns = (refl, (name.Export, refl, some_same reply (NoPool name.Export) turns.0, turns.1))
    by Unknown turns = (refl, (name.Export, refl, some_same reply (NoPool name.Export) turns.0, turns.1))
    by (Foreign known) turns = foreign_turns known turns.answer reply did.new turns.reply_is turns.new_is
    by (Open y) turns = export_turns y turns.y turns.answer reply did.new turns.reply_is turns.new_is turns.leads

  pub export_breaks : (x : Desk) (new : Option (Pool R A)) → ExportDid rack area entry x None now new → Broken rack area ShelfFails ExportPool entry before x now new
  export_breaks x new did = by x did.turns where
    stays_open : (answer : Result ℕ SyncFault) (y : State) (d : Desk) → export_reply answer ≡ None → d ≡ desk_left answer y → d ≡ Open y
    stays_open (Ok group) y d is b = absurd (cc is)
    stays_open (Err why) y d is b = b

    stays_foreign : (answer : Result ℕ SyncFault) (known : Known) (d : Desk) → export_reply answer ≡ None → d ≡ foreign_left answer known → d ≡ Foreign known
    stays_foreign (Ok group) known d is b = absurd (cc is)
    stays_foreign (Err why) known d is b = b

    by : (x : Desk) → ExportTurns x None did.new → Broken rack area ShelfFails ExportPool entry before x now new
    by Untouched turns = absurd (cc (turns.0))
    by Bare turns = absurd (cc (turns.0))
    by (Made tells count geometry) turns = absurd (cc (turns.0))
    by (Shut crash y) turns = absurd (cc (turns.0))
    by Unknown turns = absurd (cc (turns.0))
    by (Foreign known) turns =
        let same : did.new ≡ Foreign known = stays_foreign turns.answer known did.new turns.reply_is turns.new_is in
        record { new = Foreign known; desk = subst (λ d. IsDesk rack area entry now new d) same did.desk; breaks = (tt, (known, refl, refl)); cause = inl (did.failed refl known same) }
    by (Open y) turns =
        let l = turns.leads in
        let f = export_fails choices y l.holds l.store turns.answer turns.reply_is l.done in
        let same : did.new ≡ Open turns.y = stays_open turns.answer turns.y did.new turns.reply_is turns.new_is in
        record {
          new = Open turns.y;
          desk = subst (λ d. IsDesk rack area entry now new d) same did.desk;
          breaks = (turns.y, refl, record { holds = l.holds; mid = l.mid; store = l.store; follows = l.follows; broken = f; made = l.made });
          cause = subst (λ s. AreaHasFailed s ⊎ (MakesLeaves ExportPool × RackHasFailed s)) (sym l.made) (broken_shows y.geometry y.perms ExportPool y.store l.holds l.store y l.mid f l.follows);
        }

  -- ---- a crash
  pub by_crash : (x : Desk) (reply : Reply) (new : Option (Pool R A)) → CrashDid rack area entry x reply now new → Turned rack area choices (Ok CrashPool) entry x (alone reply) now new
  by_crash x reply new did = record { new = did.new; desk = did.desk; turns = by x did.turns } where
    by : (x : Desk) → CrashTurns x reply did.new → TurnsTo CrashPool x reply did.new
    by Untouched turns = (refl, (name.Crash, refl, turns.0, turns.1))
    by (Made tells count geometry) turns = (refl, (name.Crash, refl, turns.0, turns.1))
    by (Shut crash y) turns = (refl, (name.Crash, refl, turns.0, turns.1))
    by Bare turns = (refl, (name.Crash, refl, turns.0, turns.1))
    by Unknown turns = (refl, (name.Crash, refl, turns.0, turns.1))
    by (Foreign known) turns = subst (λ r. TurnsTo CrashPool (Foreign known) r did.new) (sym turns.0) (refl, (tt, known, refl, turns.1))
    by (Open y) turns = subst (λ r. TurnsTo CrashPool (Open y) r did.new) (sym turns.0)
        (refl, (y, record { holds = []; mid = y; store = y.store; follows = refl; does = (refl, refl); made = refl }, turns.1))

  -- ---- the answers of the commands
  module _ (past : List Entry) (pool : Option (Pool R A)) (x : Desk) (new : Option (Pool R A)) where
    pub answer_export : (given : Result Reply Stop) (result : Result (Option Reply) Stop) → IsSaid given result → ExportIs rack area entry x now new given → AnswerIs rack area choices past past ExportPool entry before pool x now new result
    answer_export (Ok reply) result said did = subst (AnswerIs rack area choices past past ExportPool entry before pool x now new) (sym said) (by_export x reply new did, ([], refl, sym (append-nil past)), tt)
    answer_export (Err stop.Shelf) result said did = subst (AnswerIs rack area choices past past ExportPool entry before pool x now new) (sym said) (export_breaks x new did)
    answer_export (Err (stop.Record which place kind)) result said did = absurd did

-- ---- the pool is given back, or stays open

module _ {R A : Type 0} (rack : racks.Ghosts R) (area : areas.Ghosts A) (entry before now : OnShelf) (desk : Option (Pool R A)) (was new : Pool R A) (some : desk ≡ Some was) where
  on_open : (P : Desk → Type 0) → ((y : State) → Represents rack area was y → IsOut y before → P (Open y)) → ((known : Known) → KnowsPointers was known → P (Foreign known)) → (x : Desk) → IsDesk rack area entry before desk x → P x
  on_open P f foreign x is = by x (subst (λ d. IsPool rack area d x) some is.stands) is.shelf where
    by : (x : Desk) → IsPool rack area (Some was) x → IsShelf x entry before → P x
    by Untouched stands shelf = absurd stands
    by Bare stands shelf = absurd stands
    by (Made tells count geometry) stands shelf = absurd stands
    by (Shut crash y) stands shelf = absurd stands
    by Unknown stands shelf = absurd stands
    by (Open y) stands shelf = f y stands.1 shelf
    by (Foreign known) stands shelf = foreign known stands.1

  -- a refusal in the words of a reply
  refusal_is : (why : SyncFault) (said : Result Reply Failed) → IsRefusal why said → refusal_of why ≡ reply_in said
  refusal_is sync.Worn said is = sym (ap reply_in is)
  refusal_is sync.Last said is = sym (ap reply_in is)
  refusal_is sync.NoMemory said is = sym (ap reply_in is)
  refusal_is sync.Shelf (Ok reply) is = absurd is
  refusal_is sync.Shelf (Err failed) is = refl

  pub exported : (reply : Reply) → TellsGroup reply → ((y : State) → Represents rack area was y → IsExported y before now reply) → TellsAsBefore before now
      → (left : Option (Pool R A)) → left ≡ None → (x : Desk) → IsDesk rack area entry before desk x → ExportDid rack area entry x (Some reply) now left
  exported reply said does tells left none = on_open (λ x. ExportDid rack area entry x (Some reply) now left) by foreign where
    by : (y : State) → Represents rack area was y → IsOut y before → ExportDid rack area entry (Open y) (Some reply) now left
    by y stands out =
        let c = does y stands in
        let z : State = record c.reached { store = c.store } in
        record {
          new = Shut false z;
          desk = record {
            stands = subst (λ l. IsPool rack area l (Shut false z)) (sym none) tt;
            shelf = shelf_has z false before now c.back tells (still_out y c.reached before c.holds c.follows out c.store);
          };
          turns = record {
            answer = Ok c.group;
            reply_is = ap Some (sym c.reply_is);
            y = z;
            new_is = refl;
            leads = record { holds = c.holds; mid = c.reached; store = c.store; follows = c.follows; done = c.done; made = refl };
          };
          failed = λ e. absurd (cc e);
        }

    foreign : (known : Known) → KnowsPointers was known → ExportDid rack area entry (Foreign known) (Some reply) now left
    foreign known knows = record {
      new = Unknown;
      desk = record { stands = subst (λ l. IsPool rack area l Unknown) (sym none) tt; shelf = tt };
      turns = record { answer = Ok said.0; reply_is = ap Some (sym said.1); new_is = refl };
      failed = λ e. absurd (cc e);
    }

  pub export_refused : (said : Result Reply Failed) → WasRefused said → IsWhole rack area new → SamePointers was new → (IsErr said → AreaFails area.faults new)
      → ((y : State) → Represents rack area was y → CarriesOut rack area new y (RefusalSays said y)) → (x : Desk) → IsDesk rack area entry before desk x → ExportIs rack area entry x before (Some new) (stop_of said)
  export_refused said refused whole keeps fails does = by said refl where
    stays : (reply : Option Reply) → reply_in said ≡ reply → (reply ≡ None → PoolFails area (Some new)) → (x : Desk) → IsDesk rack area entry before desk x → ExportDid rack area entry x reply before (Some new)
    stays reply same shows = on_open (λ x. ExportDid rack area entry x reply before (Some new)) (λ y stands out.
        (let c = does y stands in
        let z : State = record c.reached { store = c.store } in
        record {
          new = Open z;
          desk = record { stands = (whole, c.represents); shelf = still_out y c.reached before c.holds c.follows out c.store };
          turns = record {
            answer = Err c.done.0;
            reply_is = refusal_is c.done.0 said c.done.1 ∙ same;
            y = z;
            new_is = refl;
            leads = record { holds = c.holds; mid = c.reached; store = c.store; follows = c.follows; done = c.done.2; made = refl };
          };
          failed = λ e known at. absurd (cc at);
        }))
        (λ known knows. record {
          new = Foreign known;
          desk = record { stands = (whole, still_known was new keeps known knows); shelf = tt };
          turns = record { answer = Err refused.0; reply_is = refusal_is refused.0 said refused.1 ∙ same; new_is = refl };
          failed = λ e known at. shows e;
        })

    by : (s : Result Reply Failed) → said ≡ s → (x : Desk) → IsDesk rack area entry before desk x → ExportIs rack area entry x before (Some new) (stop_of s)
    by (Ok reply) is = stays (Some reply) (ap reply_in is) (λ e. absurd (cc e))
    by (Err failed) is = stays None (ap reply_in is) (λ e. fails (subst (λ r. IsErr r) (sym is) refl))

  pub crashed : OnHeld now.held IsFirm → ((y : State) → Represents rack area was y → GivesBack y true now.held now.leaves now.counts now.own) → TellsAsBefore before now
      → (left : Option (Pool R A)) → left ≡ None → (x : Desk) → IsDesk rack area entry before desk x → CrashDid rack area entry x Crashed now left
  crashed firm back tells left none = on_open (λ x. CrashDid rack area entry x Crashed now left) (λ y stands out. record {
    new = Shut true y;
    desk = record { stands = subst (λ l. IsPool rack area l (Shut true y)) (sym none) tt; shelf = shelf_has y true before now (back y stands) tells out };
    turns = (refl, refl);
    firm = λ _. (firm, none);
  })
      (λ known knows. record {
        new = Unknown;
        desk = record { stands = subst (λ l. IsPool rack area l Unknown) (sym none) tt; shelf = tt };
        turns = (refl, refl);
        firm = λ _. (firm, none);
      })
