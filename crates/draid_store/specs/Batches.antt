-- What becomes of a batch of objects that are summed.
use Rattle.std.specs.Prelude.{◌≡◌, ◌≤◌, ◌<◌, ◌+◌, ◌⊎◌, ⊤, ℕ, List, [], ◌∷◌, ◌++◌, Option, Some, None, Result, Ok, Err, length, flat_map}
use Rattle.sha2.specs.Hashers.{Holds256}
use Rattle.sha2.specs.declared.Sha256.{Sha256}
use Rattle.draid_block.specs.declared.many.Solve.{Solve}
use Rattle.draid_block.specs.declared.many.Solve.TheVariants.{Bytes, Unreadable}
use Rattle.draid_block.specs.declared.solve.Fetched.{Fetched}
use Rattle.draid_names.specs.declared.refusal.ObjectFault.{ObjectFault}
use Rattle.draid_names.specs.declared.refusal.ObjectFault.TheVariants as object
use Rattle.draid_session.specs.Does.{IsOne}
use Rattle.draid_session.specs.Holds.{Hold}
use Rattle.draid_session.specs.Reads.{GivesAll}
use Rattle.draid_session.specs.State.{State, Store}
use Rattle.draid_store.specs.Answers.{FetchIs, IsFetchOf, NoFetch, SumDoes}
use Rattle.draid_store.specs.Fetching.{ButLooks}
use Rattle.draid_store.specs.declared.fault.SumFault.{SumFault}
use Rattle.draid_store.specs.declared.summing.Batch.{Batch}

-- ---- fetching

-- the blocks of the objects from this one on were fetched, one after another
abbrev pub FetchesBlocks : State → ℕ → List Fetched → List Hold → Type 0
FetchesBlocks x first [] holds = holds ≡ []
FetchesBlocks x first (fetched ∷ more) holds =
    (front : List Hold) × (back : List Hold) × (holds ≡ front ++ back) × FetchIs x first fetched front x.store × FetchesBlocks x (first + 1) more back

-- Why a batch ends behind so many blocks: it has at least one; or the next object has none to be fetched, or its block was fetched and there was no memory to keep
-- it.
abbrev pub EndsBatch : State → ℕ → ℕ → ℕ → Option ObjectFault → List Hold → Type 0
EndsBatch x first count many None holds = (1 ≤ many) × (many ≤ count) × (holds ≡ [])
EndsBatch x first count many (Some why) holds = (many < count) × (NoFetch x (first + many) why holds ⊎ ((why ≡ object.NoMemory) × IsOne (IsFetchOf x (first + many)) holds))

-- the blocks of the first of so many objects were fetched
pub record FetchesBatch (x : State) (first count : ℕ) (batch : Batch) (holds : List Hold) (store : Store) : Type 0 where
  pub same : store ≡ x.store
  pub front : List Hold
  pub back : List Hold
  pub are : holds ≡ front ++ back
  pub fetches : FetchesBlocks x first batch.blocks.items front
  pub ends : EndsBatch x first count (length batch.blocks.items) batch.fault back

-- ---- feeding

-- the answers are these bytes
abbrev pub AreBytes : List Solve → List (List ℕ) → Type 0
AreBytes [] [] = ⊤
AreBytes (Bytes bytes ∷ solves) (content ∷ contents) = (content ≡ bytes.items) × AreBytes solves contents
AreBytes solves contents = ⊥

-- the hasher was given these bytes
abbrev pub Feeds : List (List ℕ) → Sha256 → Sha256 → Type 0
Feeds contents old new = (m : List ℕ) → Holds256 old m → Holds256 new (m ++ flat_map (λ bytes. bytes) contents)

-- all answers are bytes, which the hasher was given
pub record FeedsAll (solves : List Solve) (old new : Sha256) : Type 0 where
  pub contents : List (List ℕ)
  pub are : AreBytes solves contents
  pub fed : Feeds contents old new

-- the first of the answers that isn't bytes, and its object
pub record FirstUnread (first : ℕ) (solves : List Solve) (fault : SumFault) : Type 0 where
  pub before : List Solve
  pub after : List Solve
  pub contents : List (List ℕ)
  pub absent : ℕ
  pub tried : ℕ
  pub order : solves ≡ before ++ Unreadable absent tried ∷ after
  pub are : AreBytes before contents
  pub named : fault ≡ record { object = first + length before; why = object.Unreadable absent tried }

abbrev pub FeedIs : ℕ → List Solve → Sha256 → Sha256 → Result Unit SumFault → Type 0
FeedIs first solves old new (Ok done) = FeedsAll solves old new
FeedIs first solves old new (Err fault) = FirstUnread first solves fault

-- ---- both

-- the bytes of so many objects from this one on were added to what the hasher holds
pub record AddsBytes (x : State) (first count added : ℕ) (hasher hasher' : Sha256) (holds : List Hold) (new : Store) : Type 0 where
  pub store : new ≡ x.store
  pub some : 1 ≤ added
  pub within : added ≤ count
  pub contents : List (List ℕ)
  pub many : length contents ≡ added
  pub gives : GivesAll x.geometry x.perms x.store first contents holds
  pub fed : Feeds contents hasher hasher'

abbrev pub AddIs : State → ℕ → ℕ → Sha256 → Sha256 → Result ℕ SumFault → List Hold → Store → Type 0
AddIs x first count hasher hasher' (Ok added) holds new = AddsBytes x first count added hasher hasher' holds new
AddIs x first count hasher hasher' (Err fault) holds new = SumDoes x first count (Err fault) holds new

-- where no bytes were added, metaslabs may be looked at behind that
abbrev pub AddTries : State → ℕ → ℕ → Sha256 → Sha256 → Result ℕ SumFault → List Hold → Store → Type 0
AddTries x first count hasher hasher' (Ok added) holds new = AddIs x first count hasher hasher' (Ok added) holds new
AddTries x first count hasher hasher' (Err fault) holds new = ButLooks (AddIs x first count hasher hasher' (Err fault)) holds new

-- so it is of a sum
abbrev pub SumTries : State → ℕ → ℕ → Result (List ℕ) SumFault → List Hold → Store → Type 0
SumTries x first count (Ok digest) holds new = SumDoes x first count (Ok digest) holds new
SumTries x first count (Err fault) holds new = ButLooks (SumDoes x first count (Err fault)) holds new
