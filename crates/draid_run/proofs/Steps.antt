-- What the calls of a pool did, in the words of a session.
use Rattle.std.proofs.Common.{◌≡◌, ◌⊎◌, ◌∙◌, ℕ, List, [], Option, Some, None, Ok, inl, refl, subst, sym}
use Rattle.draid_rack.specs.declared.Rack as racks
use Rattle.draid_area.specs.declared.Area as areas
use Rattle.draid_script.specs.Line.{Command, Silent, CreatePool, ImportPool, ExportPool, SyncPool, CancelPasses, CrashPool, WriteObject, FillObjects, ReadObject, FreeObject, SumObjects, TakeOffline, TakeOnline, DamageSector, AttachSpare, ReplaceDisk, DetachArm, RebuildPool, ScrubPool, RebalanceSlot, ShowStatus, OpenLanes, UpgradePool, RunAgent, ShowJournal, TakeCheckpoint, RewindPool, DiscardCheckpoint}
use Rattle.draid_script.specs.declared.line.PoolKeys.{PoolKeys}
use Rattle.draid_script.specs.declared.name.CommandName.{CommandName}
use Rattle.draid_reply.specs.declared.reply.Reply.{Reply}
use Rattle.draid_reply.specs.declared.reply.Reply.TheVariants.{NoPool}
use Rattle.draid_session.specs.Said.{alone}
use Rattle.draid_session.specs.Certain.{MakesLeaves}
use Rattle.draid_session.specs.Choices.{Choices}
use Rattle.draid_session.specs.Follows.{Follows}
use Rattle.draid_session.specs.Holds.{Hold}
use Rattle.draid_session.specs.Known.{Known, Learns}
use Rattle.draid_session.specs.Replies.{IsReplyTo}
use Rattle.draid_session.specs.Session as session
use Rattle.draid_session.specs.Session.{Desk, Finding, Untouched, Bare, Made, Open, Shut, Foreign, Unknown, MayBreak, ShelfFails, TurnsBy}
use Rattle.draid_session.specs.State.{State, Store}
use Rattle.draid_pool.specs.Carries.{CarriesOut, ReplyDoes}
use Rattle.draid_pool.specs.Pools.{Represents}
use Rattle.draid_pool.specs.Whole.{IsWhole}
use Rattle.draid_pool.specs.declared.pool.Pool.{Pool}
use Rattle.draid_pool.specs.Failing.{AreaFails, RackFails}
use Rattle.draid_pool.specs.Pointers.{SamePointers}
use Rattle.draid_pool.proofs.Taught.{still_known}
use Rattle.draid_changes.specs.Behind.{ArmsBehind}
use Rattle.draid_visits.specs.Behind.{PassesBehind}
use Rattle.draid_run.specs.Desks.{BreaksBy, BreaksKnown, Broken, IsDesk, IsPool, PoolBroke, PoolDid, Turned, asked_in}
use Rattle.draid_run.proofs.Broke.{broken_shows}
use Rattle.draid_pool.specs.Knows.{Teaches}
use Rattle.draid_run.specs.Making.{CreateDid, CreateTurns}
use Rattle.draid_pool.specs.Shelves.{OnShelf}
use Rattle.draid_run.specs.Shelves.{IsOut, MayFind}
use Rattle.draid_run.proofs.Behind.{asked_keeps, open_behind, still_foreign}
use Rattle.draid_pool.proofs.Following.{same_told}

-- the pool that is open is whole
pub is_whole : {R A : Type 0} (rack : racks.Ghosts R) (area : areas.Ghosts A) (desk : Option (Pool R A)) (pool : Pool R A) → desk ≡ Some pool → (x : Desk) × IsPool rack area desk x → IsWhole rack area pool
is_whole rack area desk pool is stands = by stands.0 (subst (λ d. IsPool rack area d stands.0) is stands.1) where
  by : (x : Desk) → IsPool rack area (Some pool) x → IsWhole rack area pool
  by Untouched stands = absurd stands
  by Bare stands = absurd stands
  by (Made tells count geometry) stands = absurd stands
  by (Shut crash y) stands = absurd stands
  by Unknown stands = absurd stands
  by (Open y) stands = stands.0
  by (Foreign known) stands = stands.0

-- the shelf is as it was while the pool's state moved on
pub still_out : (x y : State) (now : OnShelf) (holds : List Hold) → Follows holds x y → IsOut x now → (store : Store) → IsOut (record y { store = store }) now
still_out x y now holds follows out store = record { told = same_told holds x y follows ∙ out.told }

module _ {R A : Type 0} (rack : racks.Ghosts R) (area : areas.Ghosts A) (choices : Choices) (command : Command) (called : CommandName) (reply : Reply) where
  -- a command was carried out on the pool that is open
  pub did_open : (desk : Option (Pool R A)) (pool new : Pool R A) → desk ≡ Some pool → IsWhole rack area new → IsReplyTo command reply
      → Teaches command reply pool new → ArmsBehind command reply new → PassesBehind command reply new
      → ((x : State) → Represents rack area pool x → CarriesOut rack area new x (ReplyDoes x choices command reply))
      → (x : Desk) → IsPool rack area desk x → PoolDid rack area choices command called x reply (Some new)
  did_open desk pool new is whole fits teaches arms passes step x = subst (λ d. IsPool rack area d x → PoolDid rack area choices command called x reply (Some new)) (sym is) (by x) where
    by : (x : Desk) → IsPool rack area (Some pool) x → PoolDid rack area choices command called x reply (Some new)
    by Untouched stands = absurd stands
    by Bare stands = absurd stands
    by (Made tells count geometry) stands = absurd stands
    by (Shut crash y) stands = absurd stands
    by Unknown stands = absurd stands
    by (Open y) stands = (whole, fits, step y stands.1)
    by (Foreign known) stands = (whole, fits, teaches known stands.1, arms, passes)

  -- no pool is open, and the reply says so
  pub did_shut : (desk new : Option (Pool R A)) → desk ≡ None → new ≡ None → reply ≡ NoPool called → (x : Desk) → IsPool rack area desk x → PoolDid rack area choices command called x reply new
  did_shut desk new none same said x = subst (λ d. IsPool rack area d x → PoolDid rack area choices command called x reply new) (sym none) (by x) where
    by : (x : Desk) → IsPool rack area None x → PoolDid rack area choices command called x reply new
    by Untouched stands = (said, same)
    by Bare stands = (said, same)
    by (Made tells count geometry) stands = (said, same)
    by (Shut crash y) stands = (said, same)
    by Unknown stands = (said, same)
    by (Open y) stands = absurd stands
    by (Foreign known) stands = absurd stands

-- where the pointers stay it is so
pub breaks_same : {R A : Type 0} (command : Command) (old new : Pool R A) → SamePointers old new → BreaksKnown command old new
breaks_same RewindPool old new same known knows = (known, inl refl, still_known old new same known knows)
breaks_same command old new same known knows = (known, refl, still_known old new same known knows)

-- a device of the pool failed in a command
pub broke_open : {R A : Type 0} (rack : racks.Ghosts R) (area : areas.Ghosts A) (command : Command) (desk : Option (Pool R A)) (pool new : Pool R A) → desk ≡ Some pool → IsWhole rack area new
    → MayBreak command × (AreaFails area.faults new ⊎ (MakesLeaves command × RackFails rack.faults new)) × BreaksKnown command pool new → ((x : State) → Represents rack area pool x → CarriesOut rack area new x (BreaksBy x command)) → (x : Desk) → IsPool rack area desk x → PoolBroke rack area command x (Some new)
broke_open rack area command desk pool new is whole breaks step x = subst (λ d. IsPool rack area d x → PoolBroke rack area command x (Some new)) (sym is) (by x)
  where
    by : (x : Desk) → IsPool rack area (Some pool) x → PoolBroke rack area command x (Some new)
    by Untouched stands = absurd stands
    by Bare stands = absurd stands
    by (Made tells count geometry) stands = absurd stands
    by (Shut crash y) stands = absurd stands
    by Unknown stands = absurd stands
    by (Open y) stands = (whole, step y stands.1)
    by (Foreign known) stands = (whole, breaks.0, breaks.1, breaks.2 known stands.1)

-- so the run breaks off
pub ask_breaks : {R A : Type 0} (rack : racks.Ghosts R) (area : areas.Ghosts A) (entry before now : OnShelf) (command : Command) (x : Desk) (desk new : Option (Pool R A)) → IsDesk rack area entry now desk x → PoolBroke rack area command x new
    → Broken rack area ShelfFails command entry before x now new
ask_breaks rack area entry before now command Untouched desk new is did = absurd did
ask_breaks rack area entry before now command Bare desk new is did = absurd did
ask_breaks rack area entry before now command (Made tells count geometry) desk new is did = absurd did
ask_breaks rack area entry before now command (Shut crash y) desk new is did = absurd did
ask_breaks rack area entry before now command Unknown desk new is did = absurd did
ask_breaks rack area entry before now command (Foreign known) desk None is did = absurd did
ask_breaks rack area entry before now command (Foreign known) desk (Some new) is did = (let b = did.3 in record { new = Foreign b.0; desk = record { stands = (did.0, b.2); shelf = tt }; breaks = (did.1, (b.0, b.1, refl)); cause = did.2 })
ask_breaks rack area entry before now command (Open y) desk None is did = absurd did
ask_breaks rack area entry before now command (Open y) desk (Some new) is did =
    let c = did.1 in
    record {
      new = Open (record c.reached { store = c.store });
      desk = record { stands = (did.0, c.represents); shelf = still_out y c.reached now c.holds c.follows is.shelf c.store };
      breaks = (record c.reached { store = c.store }, refl, record { holds = c.holds; mid = c.reached; store = c.store; follows = c.follows; broken = c.done; made = refl });
      cause = broken_shows y.geometry y.perms command y.store c.holds c.store y c.reached c.done c.follows;
    }

-- a command that wants a pool, where none is open
module _ (choices : Choices) (finds : Finding → Type 0) where
  shut_says : (command : Command) (called : CommandName) → asked_in command ≡ Some called → (x : Desk) → session.ShutTurns finds x command (NoPool called) x
  shut_says (WriteObject o bytes) called is x = (called, is, refl, refl)
  shut_says (FillObjects first count len seed) called is x = (called, is, refl, refl)
  shut_says (ReadObject o) called is x = (called, is, refl, refl)
  shut_says (FreeObject o) called is x = (called, is, refl, refl)
  shut_says (SumObjects first count) called is x = (called, is, refl, refl)
  shut_says (TakeOffline leaf) called is x = (called, is, refl, refl)
  shut_says (TakeOnline leaf) called is x = (called, is, refl, refl)
  shut_says (DamageSector leaf sector) called is x = (called, is, refl, refl)
  shut_says (AttachSpare slot spare) called is x = (called, is, refl, refl)
  shut_says (ReplaceDisk slot sectors) called is x = (called, is, refl, refl)
  shut_says (ShowStatus form) called is x = (called, is, refl, refl)
  shut_says (DetachArm arm) called is x = (called, is, refl, refl)
  shut_says UpgradePool called is x = (called, is, refl, refl)
  shut_says (RebuildPool limit) called is x = (called, is, refl, refl)
  shut_says (ScrubPool limit) called is x = (called, is, refl, refl)
  shut_says (RebalanceSlot slot) called is x = (called, is, refl, refl)
  shut_says CancelPasses called is x = (called, is, refl, refl)
  shut_says SyncPool called is x = (called, is, refl, refl)
  shut_says TakeCheckpoint called is x = (called, is, refl, refl)
  shut_says RewindPool called is x = (called, is, refl, refl)
  shut_says DiscardCheckpoint called is x = (called, is, refl, refl)
  shut_says command called is x = absurd (cc is)

  by_desk : {R A : Type 0} (rack : racks.Ghosts R) (area : areas.Ghosts A) (command : Command) (reply : Reply) (x : Desk) → IsPool rack area None x → session.ShutTurns finds x command reply x
      → session.ReplyTurns choices finds x command reply x
  by_desk rack area command reply Untouched stands says = says
  by_desk rack area command reply Bare stands says = says
  by_desk rack area command reply (Made told count geometry) stands says = says
  by_desk rack area command reply (Shut crash y) stands says = says
  by_desk rack area command reply Unknown stands says = says
  by_desk rack area command reply (Foreign known) stands says = absurd stands
  by_desk rack area command reply (Open y) stands says = absurd stands

module _ {R A : Type 0} (rack : racks.Ghosts R) (area : areas.Ghosts A) (choices : Choices) (entry now : OnShelf) (desk : Option (Pool R A)) (reply : Reply) where
  -- a command has this reply
  abbrev TurnsTo : Command → Desk → Reply → Desk → Type 0
  TurnsTo command x said new = TurnsBy choices (MayFind rack area entry) (Ok command) x (alone said) new

  turned_by : (command : Command) (called : CommandName) → asked_in command ≡ Some called
      → ((x y : State) → session.CarriesOut choices command reply x y → Open y ≡ session.desk_behind reply y → TurnsTo command (Open x) reply (Open y))
      → ((old new : Known) → IsReplyTo command reply → Learns command reply old new → Foreign new ≡ session.foreign_behind reply new → TurnsTo command (Foreign old) reply (Foreign new))
      → ((x : Desk) → IsPool rack area None x → TurnsTo command x (NoPool called) x)
      → (x : Desk) (new : Option (Pool R A)) → IsDesk rack area entry now desk x → PoolDid rack area choices command called x reply new → Turned rack area choices (Ok command) entry x (alone reply) now new
  turned_by command called asked turns foreign shut = by where
    says : (x : Desk) (new : Option (Pool R A)) → (reply ≡ NoPool called) × (new ≡ None) → IsPool rack area None x → IsDesk rack area entry now desk x → Turned rack area choices (Ok command) entry x (alone reply) now new
    says x new said stands is =
        subst (λ r. Turned rack area choices (Ok command) entry x (alone r) now new) (sym said.0)
        (subst (λ d. Turned rack area choices (Ok command) entry x (alone (NoPool called)) now d) (sym said.1)
        (record { new = x; desk = record { stands = stands; shelf = is.shelf }; turns = shut x stands }))

    by : (x : Desk) (new : Option (Pool R A)) → IsDesk rack area entry now desk x → PoolDid rack area choices command called x reply new → Turned rack area choices (Ok command) entry x (alone reply) now new
    by Untouched new is did = says Untouched new did tt is
    by (Made tells count geometry) new is did = says (Made tells count geometry) new did tt is
    by (Shut crash y) new is did = says (Shut crash y) new did tt is
    by Bare new is did = says Bare new did tt is
    by Unknown new is did = says Unknown new did tt is
    by (Foreign known) None is did = absurd did
    by (Foreign known) (Some new) is did =
        let k = did.2 in
        record {
          new = Foreign k.new;
          desk = record { stands = (did.0, k.fits); shelf = tt };
          turns = foreign known k.new did.1 k.learns (still_foreign reply k.new (asked_keeps command called reply asked did.1));
        }
    by (Open y) None is did = absurd did
    by (Open y) (Some new) is did =
        let c = did.2 in
        let z : State = record c.reached { store = c.store } in
        record {
          new = Open z;
          desk = record { stands = (did.0, c.represents); shelf = still_out y c.reached now c.holds c.follows is.shelf c.store };
          turns = turns y z (record { holds = c.holds; mid = c.reached; store = c.store; follows = c.follows; does = c.done; made = refl })
              (open_behind reply z (asked_keeps command called reply asked did.1));
        }

  -- the reply of the pool that is open, or that none is
  pub by_ask : (command : Command) (called : CommandName) → asked_in command ≡ Some called → (x : Desk) (new : Option (Pool R A)) → IsDesk rack area entry now desk x
      → PoolDid rack area choices command called x reply new → Turned rack area choices (Ok command) entry x (alone reply) now new
  by_ask (WriteObject o bytes) called is = turned_by (WriteObject o bytes) called is (λ y z c same. (refl, (z, c, same))) (λ old new fits learns same. (refl, (fits, new, learns, same))) (λ x stands.
      (refl, by_desk choices (MayFind rack area entry) rack area (WriteObject o bytes) (NoPool called) x stands (shut_says choices (MayFind rack area entry) (WriteObject o bytes) called is x)))
  by_ask (FillObjects first count len seed) called is = turned_by (FillObjects first count len seed) called is (λ y z c same. (refl, (z, c, same))) (λ old new fits learns same. (refl, (fits, new, learns, same))) (λ x stands.
      (refl, by_desk choices (MayFind rack area entry) rack area (FillObjects first count len seed) (NoPool called) x stands (shut_says choices (MayFind rack area entry) (FillObjects first count len seed) called is x)))
  by_ask (ReadObject o) called is = turned_by (ReadObject o) called is (λ y z c same. (refl, (z, c, same))) (λ old new fits learns same. (refl, (fits, new, learns, same))) (λ x stands.
      (refl, by_desk choices (MayFind rack area entry) rack area (ReadObject o) (NoPool called) x stands (shut_says choices (MayFind rack area entry) (ReadObject o) called is x)))
  by_ask (FreeObject o) called is = turned_by (FreeObject o) called is (λ y z c same. (refl, (z, c, same))) (λ old new fits learns same. (refl, (fits, new, learns, same))) (λ x stands.
      (refl, by_desk choices (MayFind rack area entry) rack area (FreeObject o) (NoPool called) x stands (shut_says choices (MayFind rack area entry) (FreeObject o) called is x)))
  by_ask (SumObjects first count) called is = turned_by (SumObjects first count) called is (λ y z c same. (refl, (z, c, same))) (λ old new fits learns same. (refl, (fits, new, learns, same))) (λ x stands.
      (refl, by_desk choices (MayFind rack area entry) rack area (SumObjects first count) (NoPool called) x stands (shut_says choices (MayFind rack area entry) (SumObjects first count) called is x)))
  by_ask (DamageSector leaf sector) called is = turned_by (DamageSector leaf sector) called is (λ y z c same. (refl, (z, c, same))) (λ old new fits learns same. (refl, (fits, new, learns, same))) (λ x stands.
      (refl, by_desk choices (MayFind rack area entry) rack area (DamageSector leaf sector) (NoPool called) x stands (shut_says choices (MayFind rack area entry) (DamageSector leaf sector) called is x)))
  by_ask (ShowStatus form) called is = turned_by (ShowStatus form) called is (λ y z c same. (refl, (z, c, same))) (λ old new fits learns same. (refl, (fits, new, learns, same))) (λ x stands.
      (refl, by_desk choices (MayFind rack area entry) rack area (ShowStatus form) (NoPool called) x stands (shut_says choices (MayFind rack area entry) (ShowStatus form) called is x)))
  by_ask Silent called is = absurd (cc is)
  by_ask (CreatePool text children keys) called is = absurd (cc is)
  by_ask ImportPool called is = absurd (cc is)
  by_ask ExportPool called is = absurd (cc is)
  by_ask SyncPool called is = turned_by SyncPool called is (λ y z c same. (refl, (z, c, same))) (λ old new fits learns same. (refl, (fits, new, learns, same))) (λ x stands.
      (refl, by_desk choices (MayFind rack area entry) rack area SyncPool (NoPool called) x stands (shut_says choices (MayFind rack area entry) SyncPool called is x)))
  by_ask CancelPasses called is = turned_by CancelPasses called is (λ y z c same. (refl, (z, c, same))) (λ old new fits learns same. (refl, (fits, new, learns, same))) (λ x stands.
      (refl, by_desk choices (MayFind rack area entry) rack area CancelPasses (NoPool called) x stands (shut_says choices (MayFind rack area entry) CancelPasses called is x)))
  by_ask CrashPool called is = absurd (cc is)
  by_ask (TakeOffline leaf) called is = turned_by (TakeOffline leaf) called is (λ y z c same. (refl, (z, c, same))) (λ old new fits learns same. (refl, (fits, new, learns, same))) (λ x stands.
      (refl, by_desk choices (MayFind rack area entry) rack area (TakeOffline leaf) (NoPool called) x stands (shut_says choices (MayFind rack area entry) (TakeOffline leaf) called is x)))
  by_ask (TakeOnline leaf) called is = turned_by (TakeOnline leaf) called is (λ y z c same. (refl, (z, c, same))) (λ old new fits learns same. (refl, (fits, new, learns, same))) (λ x stands.
      (refl, by_desk choices (MayFind rack area entry) rack area (TakeOnline leaf) (NoPool called) x stands (shut_says choices (MayFind rack area entry) (TakeOnline leaf) called is x)))
  by_ask (AttachSpare slot spare) called is = turned_by (AttachSpare slot spare) called is (λ y z c same. (refl, (z, c, same))) (λ old new fits learns same. (refl, (fits, new, learns, same))) (λ x stands.
      (refl, by_desk choices (MayFind rack area entry) rack area (AttachSpare slot spare) (NoPool called) x stands (shut_says choices (MayFind rack area entry) (AttachSpare slot spare) called is x)))
  by_ask (ReplaceDisk slot sectors) called is = turned_by (ReplaceDisk slot sectors) called is (λ y z c same. (refl, (z, c, same))) (λ old new fits learns same. (refl, (fits, new, learns, same))) (λ x stands.
      (refl, by_desk choices (MayFind rack area entry) rack area (ReplaceDisk slot sectors) (NoPool called) x stands (shut_says choices (MayFind rack area entry) (ReplaceDisk slot sectors) called is x)))
  by_ask (DetachArm arm) called is = turned_by (DetachArm arm) called is (λ y z c same. (refl, (z, c, same))) (λ old new fits learns same. (refl, (fits, new, learns, same))) (λ x stands.
      (refl, by_desk choices (MayFind rack area entry) rack area (DetachArm arm) (NoPool called) x stands (shut_says choices (MayFind rack area entry) (DetachArm arm) called is x)))
  by_ask (RebuildPool limit) called is = turned_by (RebuildPool limit) called is (λ y z c same. (refl, (z, c, same))) (λ old new fits learns same. (refl, (fits, new, learns, same))) (λ x stands.
      (refl, by_desk choices (MayFind rack area entry) rack area (RebuildPool limit) (NoPool called) x stands (shut_says choices (MayFind rack area entry) (RebuildPool limit) called is x)))
  by_ask (ScrubPool limit) called is = turned_by (ScrubPool limit) called is (λ y z c same. (refl, (z, c, same))) (λ old new fits learns same. (refl, (fits, new, learns, same))) (λ x stands.
      (refl, by_desk choices (MayFind rack area entry) rack area (ScrubPool limit) (NoPool called) x stands (shut_says choices (MayFind rack area entry) (ScrubPool limit) called is x)))
  by_ask (RebalanceSlot slot) called is = turned_by (RebalanceSlot slot) called is (λ y z c same. (refl, (z, c, same))) (λ old new fits learns same. (refl, (fits, new, learns, same))) (λ x stands.
      (refl, by_desk choices (MayFind rack area entry) rack area (RebalanceSlot slot) (NoPool called) x stands (shut_says choices (MayFind rack area entry) (RebalanceSlot slot) called is x)))
  by_ask (OpenLanes count) called is = absurd (cc is)
  by_ask UpgradePool called is = turned_by UpgradePool called is (λ y z c same. (refl, (z, c, same))) (λ old new fits learns same. (refl, (fits, new, learns, same))) (λ x stands.
      (refl, by_desk choices (MayFind rack area entry) rack area UpgradePool (NoPool called) x stands (shut_says choices (MayFind rack area entry) UpgradePool called is x)))
  by_ask (RunAgent least) called is = absurd (cc is)
  by_ask ShowJournal called is = absurd (cc is)
  by_ask TakeCheckpoint called is = turned_by TakeCheckpoint called is (λ y z c same. (refl, (z, c, same))) (λ old new fits learns same. (refl, (fits, new, learns, same))) (λ x stands.
      (refl, by_desk choices (MayFind rack area entry) rack area TakeCheckpoint (NoPool called) x stands (shut_says choices (MayFind rack area entry) TakeCheckpoint called is x)))
  by_ask RewindPool called is = turned_by RewindPool called is (λ y z c same. (refl, (z, c, same))) (λ old new fits learns same. (refl, (fits, new, learns, same))) (λ x stands.
      (refl, by_desk choices (MayFind rack area entry) rack area RewindPool (NoPool called) x stands (shut_says choices (MayFind rack area entry) RewindPool called is x)))
  by_ask DiscardCheckpoint called is = turned_by DiscardCheckpoint called is (λ y z c same. (refl, (z, c, same))) (λ old new fits learns same. (refl, (fits, new, learns, same))) (λ x stands.
      (refl, by_desk choices (MayFind rack area entry) rack area DiscardCheckpoint (NoPool called) x stands (shut_says choices (MayFind rack area entry) DiscardCheckpoint called is x)))

-- a pool was made or refused, in the words of all commands
pub by_create : {R A : Type 0} (rack : racks.Ghosts R) (area : areas.Ghosts A) (choices : Choices) (entry now : OnShelf) (text : List ℕ) (children : ℕ) (keys : PoolKeys) (x : Desk) (reply : Reply)
    (pool : Option (Pool R A)) → CreateDid rack area text children keys entry x reply now pool → Turned rack area choices (Ok (CreatePool text children keys)) entry x (alone reply) now pool
by_create rack area choices entry now text children keys x reply pool did =
    record { new = did.new; desk = did.desk; turns = by x did.new did.turns }
  where
    by : (x : Desk) (new : Desk) → CreateTurns text children keys x reply new → TurnsBy choices (MayFind rack area entry) (Ok (CreatePool text children keys)) x (alone reply) new
    by Untouched new turns = (refl, turns)
    by Bare new turns = (refl, turns)
    by (Made tells count geometry) new turns = (refl, turns)
    by (Shut crash y) new turns = (refl, turns)
    by Unknown new turns = (refl, turns)
    by (Foreign known) new turns = subst (λ r. TurnsBy choices (MayFind rack area entry) (Ok (CreatePool text children keys)) (Foreign known) (alone r) new) (sym turns.0) (refl, (tt, known, refl, turns.1))
    by (Open y) new turns = subst (λ r. TurnsBy choices (MayFind rack area entry) (Ok (CreatePool text children keys)) (Open y) (alone r) new) (sym turns.0)
        (refl, (y, record { holds = []; mid = y; store = y.store; follows = refl; does = (refl, refl); made = refl }, turns.1))
