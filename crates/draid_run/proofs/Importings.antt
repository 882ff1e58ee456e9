-- An import, in the words of a session.
use Rattle.std.proofs.Common.{◌≡◌, ◌≤◌, ◌∙◌, ◌⊎◌, inl, inr, refl, sym, ap, subst, ℕ, List, Bool, true, false, [], ◌∷◌, Option, Some, None, Result, Ok, Err, String, Global}
use Rattle.std.specs.Prelude.{⊤, IfOk, IsErrOf, IsSomeAnd, OnOk, is_some, nat_eq, string_bytes}
use Rattle.std.specs.HashMap.{get}
use Rattle.std.proofs.lemmas.List.{append-nil}
use Rattle.draid_names.specs.declared.journal.Entry.{Entry}
use Rattle.draid_record.specs.declared.fault.RecordFaultKind.{RecordFaultKind}
use Rattle.draid_rack.specs.Rack.{Shape}
use Rattle.draid_rack.specs.declared.Rack as racks
use Rattle.draid_area.specs.declared.Area as areas
use Rattle.draid_spec.specs.declared.layout.Geometry.{Geometry}
use Rattle.draid_machine.specs.declared.event.Event.TheVariants as event
use Rattle.draid_segments.specs.Segments.{Pieces}
use Rattle.draid_shelf.specs.Kits.{Held, KitCounts, OnHeld}
use Rattle.draid_script.specs.Line.{ImportPool}
use Rattle.draid_script.specs.declared.name.CommandName.TheVariants as name
use Rattle.draid_reply.specs.declared.reply.Reply.{Reply}
use Rattle.draid_reply.specs.declared.reply.Reply.TheVariants.{Imported, NoMemory, NoPool, PoolOpen}
use Rattle.draid_session.specs.Said.{alone}
use Rattle.draid_session.specs.Choices.{Choices}
use Rattle.draid_session.specs.Follows.{Follows}
use Rattle.draid_session.specs.Holds.{Act, AreaFailed, Did, Hold, Looked, MadeLeaf, On, OnUber, RackFailed, CallStarved, Reserved, View}
use Rattle.draid_session.specs.Making.{vdev_name_of}
use Rattle.draid_session.specs.Opening.{FreesOlder, HasObjects, Imports}
use Rattle.draid_session.specs.Known.{nothing_known}
use Rattle.draid_session.specs.Session.{BreaksGiven, Cause, Desk, Untouched, Bare, Made, Open, Shut, Foreign, Unknown, FindsAny, FindsGiven, FindsGivenIf, LeavesState, RecordFails, ShelfFails, TurnsBy}
use Rattle.draid_session.specs.State.{State}
use Rattle.draid_pool.specs.Returning.{GivesBack, HoldsPool, Rests, own_count}
use Rattle.draid_import.specs.Faulty.{HoldsNoGroup, RecordIsBad}
use Rattle.draid_import.specs.Findings.{FindsPool, IsReadPool}
use Rattle.draid_pool.specs.Pools.{HasNames, group_in, Represents}
use Rattle.draid_pool.specs.Importable.{IsImportable}
use Rattle.draid_import.specs.Importing as pools
use Rattle.draid_import.specs.Importing.{FindsNoPool, ImportsPool, LeavesMade, RestsThere}
use Rattle.draid_pool.specs.Taking.{HoldsMade, IsAsBefore}
use Rattle.draid_pool.specs.Whole.{IsWhole}
use Rattle.draid_import.specs.declared.fault.ImportFault.{ImportFault}
use Rattle.draid_import.proofs.Findings.{finds_pool}
use Rattle.draid_pool.proofs.Lists.{ext}
use Rattle.draid_import.specs.declared.fault.ImportFault.TheVariants as fault
use Rattle.draid_pool.specs.declared.pool.Pool.{Pool}
use Rattle.draid_run.specs.Desks.{Broken, IsDesk, IsPool, IsShelf, Turned}
use Rattle.draid_import.specs.Says.{ImportGives, ImportSays, IsImportReply, IsTold, IsUnopened}
use Rattle.draid_import.specs.declared.replies.ImportStop.{ImportStop}
use Rattle.draid_run.specs.Importing.{ImportDid, ImportDoes, ImportIs, given_by, name_of}
use Rattle.draid_run.specs.Serve.{AnswerIs, IsSaid}
use Rattle.draid_create.specs.Says.{IsSame}
use Rattle.draid_pool.specs.Shelves.{OnShelf}
use Rattle.draid_run.specs.Shelves.{HoldsFault, HoldsNew, HoldsShut, IsOut, MayFind, TellsAsBefore}
use Rattle.draid_run.specs.declared.answer.Stop.{Stop}
use Rattle.draid_run.specs.declared.answer.Stop.TheVariants as stop
use Rattle.draid_pool.proofs.Following.{same_layout, same_told}
use Rattle.draid_run.proofs.GivenBack.{on_held, shelf_has, stays_on}

-- ---- what was found

module _ (x : State) (group : ℕ) where
  frees_rest : (v : View) (act : Act) (hs : List Hold) → FreesOlder x group (On v act ∷ hs) → FreesOlder x group hs
  frees_rest v (Did (event.Begin k1 k2 k3 k4 k5 k6) w) hs o = absurd o
  frees_rest v (Did (event.Put k1 k2 k3) w) hs o = absurd o
  frees_rest v (Did (event.Finish k1) w) hs o = absurd o
  frees_rest v (Did (event.Abort k1) w) hs o = absurd o
  frees_rest v (Did (event.Free k1 k2) w) hs o = o.2
  frees_rest v (Did (event.Fetch k1 k2) w) hs o = absurd o
  frees_rest v (Did (event.Damage k1 k2 k3) w) hs o = absurd o
  frees_rest v (Did (event.Offline k1) w) hs o = absurd o
  frees_rest v (Did (event.Online k1) w) hs o = absurd o
  frees_rest v (Did (event.Attach k1 k2) w) hs o = absurd o
  frees_rest v (Did (event.Detach k1 k2) w) hs o = absurd o
  frees_rest v (Did event.Upgrade w) hs o = absurd o
  frees_rest v (Did (event.Close k1) w) hs o = absurd o
  frees_rest v (Did (event.Seal k1 k2) w) hs o = absurd o
  frees_rest v (Did (event.Commit k1) w) hs o = absurd o
  frees_rest v (Did (event.Plan k1) w) hs o = absurd o
  frees_rest v (Did event.Ready w) hs o = absurd o
  frees_rest v (Did (event.Lend k1) w) hs o = absurd o
  frees_rest v (Did (event.LandStripe k1 k2 k3) w) hs o = absurd o
  frees_rest v (Did (event.LandBlock k1 k2 k3 k4 k5) w) hs o = absurd o
  frees_rest v (Did (event.Done k1) w) hs o = absurd o
  frees_rest v (Did event.Cancel w) hs o = absurd o
  frees_rest v (Did (event.Reopen k1 k2) w) hs o = absurd o
  frees_rest v Looked hs o = absurd o
  frees_rest v (Reserved n) hs o = absurd o
  frees_rest v (MadeLeaf leaf) hs o = absurd o
  frees_rest v (AreaFailed t) hs o = absurd o
  frees_rest v RackFailed hs o = absurd o
  frees_rest v CallStarved hs o = absurd o

  -- the committed group stays as older blocks are freed
  frees_committed : (holds : List Hold) (a b : State) → FreesOlder x group holds → Follows holds a b → b.committed ≡ a.committed
  frees_committed [] a b o f = ap (λ (s : State). s.committed) f
  frees_committed (On v act ∷ hs) a b o f = frees_committed hs f.0 b (frees_rest v act hs o) f.2 ∙ ap (λ (s : State). s.committed) f.1.made
  frees_committed (OnUber u act ∷ hs) a b o f = absurd o

module _ (x : State) (group : ℕ) (new : State) (is : Imports x group new) where
  found_committed : new.committed ≡ group
  found_committed = frees_committed is.mid group is.holds is.mid new is.older is.follows ∙ is.finds.committed

  -- but for its version it has the layout of the pool that was given back
  found_spec : new.geometry.spec ≡ x.geometry.spec
  found_spec = ap (λ (g : Geometry). g.spec) (same_layout is.holds is.mid new is.follows).0 ∙ ap (λ (g : Geometry). g.spec) is.finds.layout.0

  found_told : new.told ≡ true
  found_told = same_told is.holds is.mid new is.follows ∙ is.finds.told

-- what a refused import leaves tells, where what was given back did
left_told : (x y : State) → x.told ≡ true → LeavesState x y → y.told ≡ true
left_told x y told leaves = elim leaves [
  | inl still ↦ ap (λ (s : State). s.told) still.same ∙ told
  | inr found ↦ found.1.told
]

-- by whether the shelf told what was given back
module _ (y : State) (new : Desk) where
  given_told : (reply : Reply) → y.told ≡ true → FindsGiven y reply new → FindsGivenIf y.told y reply new
  given_told reply told finds = subst (λ b. FindsGivenIf b y reply new) (sym told) finds

  given_untold : (reply : Reply) → y.told ≡ false → FindsAny reply new → FindsGivenIf y.told y reply new
  given_untold reply untold finds = subst (λ b. FindsGivenIf b y reply new) (sym untold) finds

  breaks_told : (cause : Cause) → y.told ≡ true → BreaksGiven true cause y new → BreaksGiven y.told cause y new
  breaks_told cause told breaks = subst (λ b. BreaksGiven b cause y new) (sym told) breaks

  breaks_untold : (cause : Cause) → y.told ≡ false → new ≡ Unknown → BreaksGiven y.told cause y new
  breaks_untold cause untold is = subst (λ b. BreaksGiven b cause y new) (sym untold) is

-- ---- the shelf

some_is : {T : Type 0} (o : Option T) (P : T → Type 0) → IsSomeAnd o P → is_some o ≡ true
some_is None P p = absurd p
some_is (Some t) P p = refl

on_some : (o : Option Held) (P : Held → Type 0) → IsSomeAnd o P → OnHeld o P
on_some None P p = absurd p
on_some (Some h) P p = p

-- what was given back rests there, where the shelf tells it
pub record Resting (x : State) (before : OnShelf) : Type 0 where
  pub pieces : ℕ → Pieces
  pub rests : RestsThere x pieces before.held before.leaves before.counts (own_count before.own)

pub resting : (crash : Bool) (x : State) (before : OnShelf) → HoldsShut crash x before → x.told ≡ true → Resting x before
resting crash x before h told = by before.held refl h.held h.importable (sym h.told ∙ told) where
  by : (held : Option Held) → before.held ≡ held → OnHeld before.held (HoldsPool x crash) → OnHeld before.held (λ i. IsImportable x i before.leaves) → is_some before.held ≡ true → Resting x before
  by None same pool importable is = absurd (let z = sym is ∙ ap is_some same in cc)
  by (Some held) same pool importable is =
      let p : HoldsPool x crash held = subst (λ o. OnHeld o (HoldsPool x crash)) same pool in
      let i : IsImportable x held before.leaves = subst (λ o. OnHeld o (λ i. IsImportable x i before.leaves)) same importable in
      record {
        pieces = p.pieces;
        rests = record {
          held = subst (λ o. IsSomeAnd o (Rests x p.pieces)) (sym same) p.rests;
          importable = subst (λ o. IsSomeAnd o (λ i. IsImportable x i before.leaves)) (sym same) i;
          counted = h.counts;
          uber = h.uber;
        };
      }

-- and the other way round
shut_there : (x : State) (pieces : ℕ → Pieces) (now : OnShelf) → RestsThere x pieces now.held now.leaves now.counts (own_count now.own) → x.told ≡ true → HoldsShut true x now
shut_there x pieces now r told = record {
  held = on_held now.held (Rests x pieces) (HoldsPool x true) (λ h rests. record { pieces = pieces; rests = rests; backed = λ e. absurd (cc e) }) (on_some now.held (Rests x pieces) r.held);
  importable = on_some now.held (λ h. IsImportable x h now.leaves) r.importable;
  told = told ∙ sym (some_is now.held (Rests x pieces) r.held);
  counts = r.counted;
  uber = r.uber;
}

-- a new pool is held, where the shelf tells it
pub new_held : (o : Option Held) (P : Held → Type 0) → true ≡ is_some o → OnHeld o P → IsSomeAnd o P
new_held None P told is = absurd (cc told)
new_held (Some h) P told is = is

true_or : (b : Bool) → (b ≡ true) ⊎ (b ≡ false)
true_or true = inl refl
true_or false = inr refl

pub none_open : {T : Type 0} (o : Option T) → is_some o ≡ false → o ≡ None
none_open None is = refl
none_open (Some t) is = absurd (cc is)

-- ---- the fault of a record

-- it is one of a metaslab's record or of the uberblock, or of the check record
abbrev IsBadRecord : ImportFault → Type 0
IsBadRecord fault.NoPool = ⊥
IsBadRecord (fault.Record metaslab place kind) = ⊤
IsBadRecord (fault.Check place kind) = ⊤
IsBadRecord fault.Shelf = ⊥
IsBadRecord fault.NoMemory = ⊥

-- then there is a pool
bad_some : (why : ImportFault) → IsBadRecord why → why ≡ fault.NoPool → ⊥
bad_some fault.NoPool bad is = bad
bad_some (fault.Record metaslab place kind) bad is = cc
bad_some (fault.Check place kind) bad is = cc
bad_some fault.Shelf bad is = bad
bad_some fault.NoMemory bad is = bad

-- which isn't a new one
bad_unfound : (P : Type 0) (why : ImportFault) → IsBadRecord why → FindsNoPool {P = P} (Err why) → ⊥
bad_unfound P fault.NoPool bad none = bad
bad_unfound P (fault.Record metaslab place kind) bad none = none
bad_unfound P (fault.Check place kind) bad none = none
bad_unfound P fault.Shelf bad none = bad
bad_unfound P fault.NoMemory bad none = bad

-- nor one of a known state
bad_unread : {R A : Type 0} (rack : racks.Ghosts R) (area : areas.Ghosts A) (x : State) (pieces : ℕ → Pieces) (told : Option Held) (leaves : ℕ → Option Shape) (counts : ℕ → KitCounts) (n : ℕ) (why : ImportFault)
    → IsBadRecord why → pools.ImportIs rack area x pieces told leaves counts n (Err why) → ⊥
bad_unread rack area x pieces told leaves counts n fault.NoPool bad is = bad
bad_unread rack area x pieces told leaves counts n (fault.Record metaslab place kind) bad is = is
bad_unread rack area x pieces told leaves counts n (fault.Check place kind) bad is = is
bad_unread rack area x pieces told leaves counts n fault.Shelf bad is = bad
bad_unread rack area x pieces told leaves counts n fault.NoMemory bad is = bad

-- of the metaslab's record or the uberblock, by the name of the record
named_fault : {R A : Type 0} (rack : racks.Ghosts R) (area : areas.Ghosts A) (before : OnShelf) (metaslab : Option ℕ) (place : ℕ) (kind : RecordFaultKind) → RecordIsBad rack area before.held before.leaves before.counts metaslab place kind
    → HoldsFault rack area before (name_of metaslab) place kind
named_fault rack area before None place kind bad = bad
named_fault rack area before (Some metaslab) place kind bad = bad

-- ---- the call

module _ {R A : Type 0} (rack : racks.Ghosts R) (area : areas.Ghosts A) (entry before now : OnShelf) where
  module _ (result : Result (Pool R A) ImportFault) (called : ImportGives rack area before now result) where
    -- a shelf that has no pool gives none
    bare_none : IsSomeAnd before.held (λ held. held.uber ≡ None) → (result ≡ Err fault.NoPool) × IsAsBefore before.held now.held before.counts now.counts before.own now.own
    bare_none = by before.held called.none where
      by : (held : Option Held) → OnHeld held (λ h. h.uber ≡ None → IsErrOf result fault.NoPool × IsAsBefore before.held now.held before.counts now.counts before.own now.own)
          → IsSomeAnd held (λ h. h.uber ≡ None) → (result ≡ Err fault.NoPool) × IsAsBefore before.held now.held before.counts now.counts before.own now.own
      by None none is = absurd is
      by (Some held) none is = none is

    was : (y : State) (r : Result (Pool R A) ImportFault) → result ≡ r → (rest : Resting y before) → pools.ImportIs rack area y rest.pieces now.held now.leaves now.counts (own_count now.own) r
    was y r is rest = subst (pools.ImportIs rack area y rest.pieces now.held now.leaves now.counts (own_count now.own)) is (called.imports y rest.pieces rest.rests)

    -- a new pool stays there
    new_made : (failed : ℕ) (geometry : Geometry) → HoldsNew true failed geometry before → LeavesMade geometry result now.held before.counts now.counts before.own now.own
    new_made failed geometry shelf = called.made geometry (new_held before.held (HoldsMade geometry) shelf.told_is shelf.made.held)

    new_left : (failed : ℕ) (geometry : Geometry) → HoldsNew true failed geometry before → HoldsNew true now.own.uber geometry now × (failed ≤ now.own.uber)
    new_left failed geometry shelf =
        let l = new_made failed geometry shelf in (
          record {
            told_is = sym (some_is now.held (HoldsMade geometry) l.held);
            made = record {
              held = on_some now.held (HoldsMade geometry) l.held;
              counts = λ m who less. ap (λ (k : KitCounts). k.rack who) (l.counts m) ∙ shelf.made.counts m who less;
              uber = refl;
              checks = l.checks ∙ shelf.made.checks;
            };
          },
          subst (λ n. n ≤ now.own.uber) shelf.made.uber l.uber,
        )

    new_none : (failed : ℕ) (geometry : Geometry) (r : Result (Pool R A) ImportFault) → result ≡ r → HoldsNew true failed geometry before → FindsNoPool r
    new_none failed geometry r is shelf = subst FindsNoPool is (new_made failed geometry shelf).none

    -- ---- refusals

    pub no_pool : result ≡ Err fault.NoPool → (x : Desk) → IsPool rack area None x → IsShelf x entry before → ImportDid rack area entry x (NoPool name.Import) now None
    no_pool is Untouched stands shelf =
        record { new = Unknown; desk = record { stands = tt; shelf = tt }; turns = (subst HoldsNoGroup shelf.0.held (called.empty is), refl) }
    no_pool is (Made true failed geometry) stands shelf =
        let left = new_left failed geometry shelf in
        record { new = Made true now.own.uber geometry; desk = record { stands = tt; shelf = left.0 }; turns = (now.own.uber, left.1, refl) }
    no_pool is (Made false failed geometry) stands shelf = record { new = Unknown; desk = record { stands = tt; shelf = tt }; turns = refl }
    no_pool is Unknown stands shelf = record { new = Unknown; desk = record { stands = tt; shelf = tt }; turns = refl }
    no_pool is Bare stands shelf =
        let none = bare_none shelf.1 in
        record { new = Bare; desk = record { stands = tt; shelf = (stays_on entry before now shelf.0 none.1, subst (λ (h : Option Held). IsSomeAnd h (λ held. held.uber ≡ None)) (sym none.1.held) shelf.1) }; turns = (refl, refl) }
    no_pool is (Shut crash y) stands shelf = elim (true_or y.told) [
      | inl told ↦
          let found = was y (Err fault.NoPool) is (resting crash y before shelf told) in
          let z : State = found.y in
          let again : z.told ≡ true = ap (λ (s : State). s.told) found.is.is.same ∙ told in
          record {
            new = Shut true z;
            desk = record { stands = tt; shelf = shut_there z (resting crash y before shelf told).pieces now found.rests again };
            turns = given_told y (Shut true z) (NoPool name.Import) told found.is;
          }
      | inr untold ↦ record { new = Unknown; desk = record { stands = tt; shelf = tt }; turns = given_untold y Unknown (NoPool name.Import) untold refl }
    ]
    no_pool is (Open y) stands shelf = absurd stands
    no_pool is (Foreign known) stands shelf = absurd stands

    pub no_memory : result ≡ Err fault.NoMemory → (x : Desk) → IsPool rack area None x → IsShelf x entry before → ImportDid rack area entry x (NoMemory name.Import) now None
    no_memory is Untouched stands shelf = record { new = Unknown; desk = record { stands = tt; shelf = tt }; turns = refl }
    no_memory is (Made true failed geometry) stands shelf =
        let left = new_left failed geometry shelf in
        record { new = Made true now.own.uber geometry; desk = record { stands = tt; shelf = left.0 }; turns = (now.own.uber, left.1, refl) }
    no_memory is (Made false failed geometry) stands shelf = record { new = Unknown; desk = record { stands = tt; shelf = tt }; turns = refl }
    no_memory is Unknown stands shelf = record { new = Unknown; desk = record { stands = tt; shelf = tt }; turns = refl }
    no_memory is Bare stands shelf = absurd (let z = sym is ∙ (bare_none shelf.1).0 in cc)
    no_memory is (Shut crash y) stands shelf = elim (true_or y.told) [
      | inl told ↦
          let left = was y (Err fault.NoMemory) is (resting crash y before shelf told) in
          let z : State = left.y in
          record {
            new = Shut true z;
            desk = record { stands = tt; shelf = shut_there z (resting crash y before shelf told).pieces now left.rests (left_told y z told left.is) };
            turns = given_told y (Shut true z) (NoMemory name.Import) told left.is;
          }
      | inr untold ↦ record { new = Unknown; desk = record { stands = tt; shelf = tt }; turns = given_untold y Unknown (NoMemory name.Import) untold refl }
    ]
    no_memory is (Open y) stands shelf = absurd stands
    no_memory is (Foreign known) stands shelf = absurd stands

    pub shelf_failed : result ≡ Err fault.Shelf → (x : Desk) → IsPool rack area None x → IsShelf x entry before → Broken rack area ShelfFails ImportPool entry before x now None
    shelf_failed is Untouched stands shelf = record { new = Unknown; desk = record { stands = tt; shelf = tt }; breaks = refl; cause = (tt, called.cause is) }
    shelf_failed is (Made true failed geometry) stands shelf =
        let left = new_left failed geometry shelf in
        record { new = Made true now.own.uber geometry; desk = record { stands = tt; shelf = left.0 }; breaks = (now.own.uber, left.1, refl); cause = (tt, called.cause is) }
    shelf_failed is (Made false failed geometry) stands shelf = record { new = Unknown; desk = record { stands = tt; shelf = tt }; breaks = refl; cause = (tt, called.cause is) }
    shelf_failed is Unknown stands shelf = record { new = Unknown; desk = record { stands = tt; shelf = tt }; breaks = refl; cause = (tt, called.cause is) }
    shelf_failed is Bare stands shelf = absurd (let z = sym is ∙ (bare_none shelf.1).0 in cc)
    shelf_failed is (Shut crash y) stands shelf = elim (true_or y.told) [
      | inl told ↦
          let left = was y (Err fault.Shelf) is (resting crash y before shelf told) in
          let z : State = left.y in
          record {
            new = Shut true z;
            desk = record { stands = tt; shelf = shut_there z (resting crash y before shelf told).pieces now left.rests (left_told y z told left.is) };
            breaks = breaks_told y (Shut true z) ShelfFails told (z, refl, left.is);
            cause = (tt, called.cause is);
          }
      | inr untold ↦ record { new = Unknown; desk = record { stands = tt; shelf = tt }; breaks = breaks_untold y Unknown ShelfFails untold refl; cause = (tt, called.cause is) }
    ]
    shelf_failed is (Open y) stands shelf = absurd stands
    shelf_failed is (Foreign known) stands shelf = absurd stands

    pub record_fails : (why : ImportFault) → IsBadRecord why → result ≡ Err why → (x : Desk) → IsPool rack area None x → IsShelf x entry before → Broken rack area RecordFails ImportPool entry before x now None
    record_fails why bad is Untouched stands shelf = record { new = Unknown; desk = record { stands = tt; shelf = tt }; breaks = refl; cause = tt }
    record_fails why bad is (Made true failed geometry) stands shelf = absurd (bad_unfound (Pool R A) why bad (new_none failed geometry (Err why) is shelf))
    record_fails why bad is (Made false failed geometry) stands shelf = record { new = Unknown; desk = record { stands = tt; shelf = tt }; breaks = refl; cause = tt }
    record_fails why bad is Unknown stands shelf = record { new = Unknown; desk = record { stands = tt; shelf = tt }; breaks = refl; cause = tt }
    record_fails why bad is Bare stands shelf = absurd (bad_some why bad (let z = sym is ∙ (bare_none shelf.1).0 in cc))
    record_fails why bad is (Shut crash y) stands shelf = elim (true_or y.told) [
      | inl told ↦ (let rest = resting crash y before shelf told in absurd (bad_unread rack area y rest.pieces now.held now.leaves now.counts (own_count now.own) why bad (was y (Err why) is rest)))
      | inr untold ↦ record { new = Unknown; desk = record { stands = tt; shelf = tt }; breaks = breaks_untold y Unknown RecordFails untold refl; cause = tt }
    ]
    record_fails why bad is (Open y) stands shelf = absurd stands
    record_fails why bad is (Foreign known) stands shelf = absurd stands

    -- ---- the pool

    module _ (pool : Pool R A) (is : result ≡ Ok pool) where
      whole : IsWhole rack area pool
      whole = subst (λ r. IfOk r (IsWhole rack area)) is called.whole

      tells : is_some now.held ≡ is_some before.held
      tells = subst (λ r. OnOk r (is_some now.held ≡ is_some before.held)) is called.tells

      found : (y : State) → Resting y before → ImportsPool rack area y pool
      found y rest = was y (Ok pool) is rest

      -- it is open, and its devices are away
      out : (crash : Bool) (y new : State) → HoldsShut crash y before → (rest : Resting y before) → new.told ≡ true → IsOut new now
      out crash y new shelf rest told = record {
        told = told ∙ (sym (some_is before.held (Rests y rest.pieces) rest.rests.held) ∙ sym tells);
      }

      -- what was found there now was there at the entry
      pool_at : (called_name : List ℕ) (group objects : ℕ) → IsSame entry before → FindsPool rack area before.held before.leaves before.counts group called_name objects
          → FindsPool rack area entry.held entry.leaves entry.counts group called_name objects
      pool_at called_name group objects same finds =
          subst (λ h. FindsPool rack area h entry.leaves entry.counts group called_name objects) same.0.held
          (subst (λ s. FindsPool rack area before.held s entry.counts group called_name objects) (ext before.leaves entry.leaves same.1)
          (subst (λ k. FindsPool rack area before.held before.leaves k group called_name objects) (ext before.counts entry.counts same.0.counts) finds))

      pub imported : (called_name : String Global) (geometry : Geometry) (group objects : ℕ) → string_bytes called_name ≡ vdev_name_of geometry.spec → geometry ≡ pool.geometry
          → group ≡ group_in pool → HasNames (get nat_eq pool.own.objects) objects
          → ((s : State) → Represents rack area pool s → geometry ≡ s.geometry)
          → ((s : State) → Represents rack area pool s → group ≡ s.committed)
          → ((s : State) → Represents rack area pool s → HasObjects s.store.changes objects)
          → (x : Desk) → IsPool rack area None x → IsShelf x entry before → ImportDid rack area entry x (Imported called_name group objects) now (Some pool)
      imported called_name geometry group objects named own of names layout committed counted = by where
        foreign : (x : Desk) → ImportDoes rack area entry x (Imported called_name group objects) (Foreign nothing_known) → ImportDid rack area entry x (Imported called_name group objects) now (Some pool)
        foreign x turns = record { new = Foreign nothing_known; desk = record { stands = (whole, λ o. tt); shelf = tt }; turns = turns }

        by : (x : Desk) → IsPool rack area None x → IsShelf x entry before → ImportDid rack area entry x (Imported called_name group objects) now (Some pool)
        by Untouched stands shelf = foreign Untouched (
          pool_at (string_bytes called_name) group objects shelf (finds_pool rack area before.held before.leaves before.counts (own_count before.own) pool group (string_bytes called_name) objects
              (subst (λ r. IfOk r (IsReadPool rack area before.held before.leaves before.counts (own_count before.own))) is called.read) of (named ∙ ap (λ (l : Geometry). vdev_name_of l.spec) own) names),
          refl,
        )
        by (Made true failed geo) stands shelf = absurd (new_none failed geo (Ok pool) is shelf)
        by (Made false failed geo) stands shelf = foreign (Made false failed geo) refl
        by Unknown stands shelf = foreign Unknown refl
        by Bare stands shelf = absurd (let z = sym is ∙ (bare_none shelf.1).0 in cc)
        by (Shut crash y) stands shelf = elim (true_or y.told) [
          | inl told ↦
              let rest = resting crash y before shelf told in
              let f = found y rest in
              let new : State = f.new in
              record {
                new = Open new;
                desk = record { stands = (whole, f.represents); shelf = out crash y new shelf rest (found_told y f.group new f.imports) };
                turns = given_told y (Open new) (Imported called_name group objects) told (
                  subst (λ t. Imports y t new) (sym (committed new f.represents ∙ found_committed y f.group new f.imports)) f.imports,
                  named ∙ ap vdev_name_of (ap (λ (l : Geometry). l.spec) (layout new f.represents) ∙ found_spec y f.group new f.imports),
                  counted new f.represents,
                );
              }
          | inr untold ↦ foreign (Shut crash y) (given_untold y (Foreign nothing_known) (Imported called_name group objects) untold refl)
        ]
        by (Open y) stands shelf = absurd stands
        by (Foreign known) stands shelf = absurd stands

      -- there was no memory for its name, and it is given back
      pub unnamed : (late : OnShelf) → ((s : State) → Represents rack area pool s → GivesBack s false late.held late.leaves late.counts late.own) → TellsAsBefore now late
          → (x : Desk) → IsPool rack area None x → IsShelf x entry before → ImportDid rack area entry x (NoMemory name.Import) late None
      unnamed late back tells = by where
        by : (x : Desk) → IsPool rack area None x → IsShelf x entry before → ImportDid rack area entry x (NoMemory name.Import) late None
        by Untouched stands shelf = record { new = Unknown; desk = record { stands = tt; shelf = tt }; turns = refl }
        by (Made true failed geo) stands shelf = absurd (new_none failed geo (Ok pool) is shelf)
        by (Made false failed geo) stands shelf = record { new = Unknown; desk = record { stands = tt; shelf = tt }; turns = refl }
        by Unknown stands shelf = record { new = Unknown; desk = record { stands = tt; shelf = tt }; turns = refl }
        by Bare stands shelf = absurd (let z = sym is ∙ (bare_none shelf.1).0 in cc)
        by (Shut crash y) stands shelf = elim (true_or y.told) [
          | inl told ↦
              let rest = resting crash y before shelf told in
              let f = found y rest in
              let new : State = f.new in
              let away = out crash y new shelf rest (found_told y f.group new f.imports) in
              record {
                new = Shut false new;
                desk = record { stands = tt; shelf = shelf_has new false now late (back new f.represents) tells away };
                turns = given_told y (Shut false new) (NoMemory name.Import) told (f.group, f.imports);
              }
          | inr untold ↦ record { new = Unknown; desk = record { stands = tt; shelf = tt }; turns = given_untold y Unknown (NoMemory name.Import) untold refl }
        ]
        by (Open y) stands shelf = absurd stands
        by (Foreign known) stands shelf = absurd stands

  -- ---- a pool is open

  pub still_open : (pool : Option (Pool R A)) → is_some pool ≡ true → (x : Desk) → IsDesk rack area entry before pool x → ImportDid rack area entry x (PoolOpen name.Import) before pool
  still_open None some x is = absurd (cc some)
  still_open (Some pool) some x is = by x is where
    by : (x : Desk) → IsDesk rack area entry before (Some pool) x → ImportDid rack area entry x (PoolOpen name.Import) before (Some pool)
    by Untouched is = absurd is.stands
    by Bare is = absurd is.stands
    by (Made t count geometry) is = absurd is.stands
    by (Shut crash y) is = absurd is.stands
    by Unknown is = absurd is.stands
    by (Open y) is = record { new = Open y; desk = is; turns = (refl, refl) }
    by (Foreign known) is = record { new = Foreign known; desk = is; turns = (refl, refl) }

-- ---- in the words of all commands

module _ {R A : Type 0} (rack : racks.Ghosts R) (area : areas.Ghosts A) (choices : Choices) (entry before now : OnShelf) where
  by_import : (x : Desk) (reply : Reply) (pool : Option (Pool R A)) → ImportDid rack area entry x reply now pool → Turned rack area choices (Ok ImportPool) entry x (alone reply) now pool
  by_import x reply pool did = record { new = did.new; desk = did.desk; turns = by x did.new did.turns } where
    by : (x : Desk) (new : Desk) → ImportDoes rack area entry x reply new → TurnsBy choices (MayFind rack area entry) (Ok ImportPool) x (alone reply) new
    by Untouched new turns = (refl, turns)
    by Bare new turns = (refl, turns)
    by (Made t count geometry) new turns = (refl, turns)
    by (Shut crash y) new turns = (refl, turns)
    by Unknown new turns = (refl, turns)
    by (Foreign known) new turns = subst (λ r. TurnsBy choices (MayFind rack area entry) (Ok ImportPool) (Foreign known) (alone r) new) (sym turns.0) (refl, (tt, known, refl, turns.1))
    by (Open y) new turns = subst (λ r. TurnsBy choices (MayFind rack area entry) (Ok ImportPool) (Open y) (alone r) new) (sym turns.0)
        (refl, (y, record { holds = []; mid = y; store = y.store; follows = refl; does = (refl, refl); made = refl }, turns.1))

  pub answer_import : (past : List Entry) (pool : Option (Pool R A)) (x : Desk) (new : Option (Pool R A)) (given : Result Reply Stop) (result : Result (Option Reply) Stop) → IsSaid given result
      → ImportIs rack area entry before x now new given → AnswerIs rack area choices past past ImportPool entry before pool x now new result
  answer_import past pool x new (Ok reply) result said did = subst (AnswerIs rack area choices past past ImportPool entry before pool x now new) (sym said) (by_import x reply new did, ([], refl, sym (append-nil past)), tt)
  answer_import past pool x new (Err stop.Shelf) result said did = subst (AnswerIs rack area choices past past ImportPool entry before pool x now new) (sym said) did
  answer_import past pool x new (Err (stop.Record which place kind)) result said did = subst (AnswerIs rack area choices past past ImportPool entry before pool x now new) (sym said) did

-- a pool is open already
pub already_open : {R A : Type 0} (rack : racks.Ghosts R) (area : areas.Ghosts A) (entry now : OnShelf) (desk : Option (Pool R A)) (x : Desk) → is_some desk ≡ true → IsDesk rack area entry now desk x
    → ImportDid rack area entry x (PoolOpen name.Import) now desk
already_open rack area entry now None x some is = absurd (cc some)
already_open rack area entry now (Some pool) (Open y) some is = record { new = Open y; desk = is; turns = (refl, refl) }
already_open rack area entry now (Some pool) (Foreign known) some is = record { new = Foreign known; desk = is; turns = (refl, refl) }
already_open rack area entry now (Some pool) Untouched some is = absurd is.stands
already_open rack area entry now (Some pool) (Made _ count geometry) some is = absurd is.stands
already_open rack area entry now (Some pool) (Shut crash z) some is = absurd is.stands
already_open rack area entry now (Some pool) Bare some is = absurd is.stands
already_open rack area entry now (Some pool) Unknown some is = absurd is.stands

-- by the answer of the command
module _ {R A : Type 0} (rack : racks.Ghosts R) (area : areas.Ghosts A) (entry before : OnShelf) (x : Desk) (stands : IsPool rack area None x) (shelf : IsShelf x entry before) where
  unopened : (now : OnShelf) (why : ImportFault) → ImportGives rack area before now (Err why) → (said : Result Reply ImportStop) → IsUnopened why said → ImportIs rack area entry before x now None (given_by said)
  unopened now fault.NoPool called said is = subst (λ s. ImportIs rack area entry before x now None (given_by s)) (sym is) (no_pool rack area entry before now (Err fault.NoPool) called refl x stands shelf)
  unopened now fault.NoMemory called said is = subst (λ s. ImportIs rack area entry before x now None (given_by s)) (sym is) (no_memory rack area entry before now (Err fault.NoMemory) called refl x stands shelf)
  unopened now fault.Shelf called said is = subst (λ s. ImportIs rack area entry before x now None (given_by s)) (sym is) (shelf_failed rack area entry before now (Err fault.Shelf) called refl x stands shelf)
  unopened now (fault.Record metaslab place kind) called said is =
      subst (λ s. ImportIs rack area entry before x now None (given_by s)) (sym is)
      (record_fails rack area entry before now (Err (fault.Record metaslab place kind)) called (fault.Record metaslab place kind) tt refl x stands shelf, named_fault rack area before metaslab place kind (called.faulty metaslab place kind refl))
  unopened now (fault.Check place kind) called said is =
      subst (λ s. ImportIs rack area entry before x now None (given_by s)) (sym is)
      (record_fails rack area entry before now (Err (fault.Check place kind)) called (fault.Check place kind) tt refl x stands shelf, called.check place kind refl)

  told : (now : OnShelf) (found : Pool R A) → ImportGives rack area before now (Ok found) → (reply : Reply) → IsTold rack area found reply → ImportDid rack area entry x reply now (Some found)
  told now found called reply t =
      subst (λ r. ImportDid rack area entry x r now (Some found)) (sym t.reply_is)
      (imported rack area entry before now (Ok found) called found refl t.called found.geometry t.group t.objects t.name_is refl t.group_is t.names t.layout t.committed t.counted x stands shelf)

  module _ (now : OnShelf) (pool : Option (Pool R A)) (said : Result Reply ImportStop) where
    -- the same of a shelf, of a pool and of a reply that are these
    named : (n : OnShelf) (p : Option (Pool R A)) (s : Result Reply ImportStop) → now ≡ n → pool ≡ p → said ≡ s → ImportIs rack area entry before x n p (given_by s) → ImportIs rack area entry before x now pool (given_by said)
    named n p s same_now same_pool same_said is =
        subst (λ z. ImportIs rack area entry before x z pool (given_by said)) (sym same_now)
        (subst (λ z. ImportIs rack area entry before x n z (given_by said)) (sym same_pool) (subst (λ z. ImportIs rack area entry before x n p (given_by z)) (sym same_said) is))

    by_answer : (mid : OnShelf) (answer : Result (Pool R A) ImportFault) → ImportGives rack area before mid answer → IsImportReply rack area mid now pool answer said → ImportIs rack area entry before x now pool (given_by said)
    by_answer mid (Ok found) called is = elim is [
      | inl one ↦ named mid (Some found) (Ok one.2) one.1 one.0 one.3 (told mid found called one.2 one.4)
      | inr back ↦ named now None (Ok (NoMemory name.Import)) refl back.0 back.1
          (unnamed rack area entry before mid (Ok found) called found refl now back.2.back back.2.tells x stands shelf)
    ]
    by_answer mid (Err why) called is = named mid None said is.1 is.0 refl (unopened mid why called said is.2)

    pub import_came : ImportSays rack area before now pool said → ImportIs rack area entry before x now pool (given_by said)
    import_came says = by_answer says.1 says.0 says.2 says.3
