-- What was fetched of an object is solved.
use Rattle.std.proofs.Common.{◌≡◌, ◌+◌, [], ◌∷◌, ℕ, Bool, List, Vec, Global, Result, Ok, Err, arith, refl, sym, subst, ap, ◌≤◌}
use Rattle.draid_names.specs.declared.refusal.ObjectFault.{ObjectFault}
use Rattle.draid_names.specs.declared.refusal.ObjectFault.TheVariants as object
use Rattle.draid_rack.specs.declared.Rack as racks
use Rattle.draid_area.specs.declared.Area as areas
use Rattle.draid_spec.specs.declared.layout.Geometry.{Geometry}
use Rattle.draid_block.specs.Blocks.{cut_of}
use Rattle.draid_block.specs.Many.{IsSolved}
use Rattle.draid_block.specs.Columns.{Cut}
use Rattle.draid_block.specs.Solving.{AnswersDigest, IsAnswered, IsReadable, SolvesBlock}
use Rattle.draid_block.specs.declared.many.Solve.TheVariants.{Unreadable}
use Rattle.draid_block.specs.declared.solve.SolveFault.{SolveFault}
use Rattle.draid_block.specs.declared.solve.SolveFault.TheVariants as solve
use Rattle.draid_block.specs.declared.many.Solve.{Solve}
use Rattle.draid_block.specs.declared.solve.Fetched.{Fetched}
use Rattle.draid_objects.specs.Changes.{Write}
use Rattle.draid_shard.specs.declared.shard.Shard.{Shard}
use Rattle.draid_session.specs.Holds.{Hold}
use Rattle.draid_session.specs.Looks.{OnlyLooks}
use Rattle.draid_session.specs.Reads as reads
use Rattle.draid_session.specs.State.{State, Store}
use Rattle.draid_store.specs.Answers.{FetchDoes, ReadDoes, SumDoes, reading_of}
use Rattle.draid_store.specs.Batches.{SumTries}
use Rattle.draid_store.specs.Fetching.{ButLooks}
use Rattle.draid_store.specs.declared.fault.SumFault.{SumFault}
use Rattle.std.proofs.lemmas.List.{append-nil}
use Rattle.draid_pool.specs.Threads.{LeadsBy}
use Rattle.draid_pool.proofs.OwnedStands.{ArePlain, IsPlain}
use Rattle.draid_pool.proofs.Joining.{leads_as}
use Rattle.draid_store.proofs.Plain.{looks_plain, plain_append}

-- the answer of a solver, by its fault
pub unread_is : (cut : Cut) (fetched : Fetched) (fault : SolveFault) (absent tried : ℕ) → fault ≡ solve.Unreadable absent tried → SolvesBlock cut fetched (Err fault) → AnswersDigest fetched (Err fault)
    → ((w bad : List ℕ) → IsReadable cut fetched w bad → IsAnswered (Err fault)) → IsSolved cut fetched (Unreadable absent tried)
unread_is cut fetched fault absent tried is solves digest readable = record {
  solves = subst (λ f. SolvesBlock cut fetched (Err f)) is solves;
  digest = tt;
  readable = λ w bad r. subst (λ f. IsAnswered (Err f)) is (readable w bad r);
}

-- ---- what is read

pub read_solved : (x : State) (o : ℕ) (fetched : Fetched) (solve : Solve) → IsSolved (cut_of x.geometry) fetched solve → (holds : List Hold) (store : Store) → FetchDoes x o (Ok fetched) holds store → ReadDoes x o (reading_of solve) holds store
read_solved x o fetched solve solved holds store f = f.answers solve solved

pub read_starved : (x : State) (o : ℕ) (fetched : Fetched) (holds : List Hold) (store : Store) → FetchDoes x o (Ok fetched) holds store → ReadDoes x o (Err object.NoMemory) holds store
read_starved x o fetched holds store f = (let z = f.one in (f.store, (z.0 ∷ [], [], z.1, (z.2.0, z.2.1, z.2.2, z.2.3, tt), omega arith, tt)))

-- no block was fetched
pub unread : (x : State) (o : ℕ) (why : ObjectFault) (holds : List Hold) (store : Store) → FetchDoes x o (Err why) holds store → ReadDoes x o (Err why) holds store
unread x o object.NoObject holds store f = (f.0, f.1.1, f.1.0)
unread x o (object.Unreadable absent tried) holds store f = absurd f.1
unread x o object.Worn holds store f = f
unread x o object.NoMemory holds store f = (f.0, ([], holds, refl, tt, omega arith, subst OnlyLooks (sym f.1.1) (f.1.2, tt)))

-- the answers of a read, by those of its solver
pub solved_as : {R A S : Type 0} (rack : racks.Ghosts R) (area : areas.Ghosts A) (went : S → ℕ → Shard R A → Shard R A → S → Type 0) (shared : Bool) (a b : S) (x : State) (o : ℕ) (fetched : Fetched) (solve : Solve) (geometry : Geometry) (known : State → Type 0)
    → x.geometry ≡ geometry → IsSolved (cut_of geometry) fetched solve → LeadsBy rack area went shared a b x (FetchDoes x o (Ok fetched)) known → LeadsBy rack area went shared a b x (ReadDoes x o (reading_of solve)) known
solved_as rack area went shared a b x o fetched solve geometry known same solved one =
    leads_as rack area went shared a b x (FetchDoes x o (Ok fetched)) (ReadDoes x o (reading_of solve)) known (read_solved x o fetched solve (subst (λ (g : Geometry). IsSolved (cut_of g) fetched solve) (sym same) solved)) one

-- ---- reads leave groups and arms

fetch_plain : (x : State) (w : Write) (hold : Hold) (absent : List ℕ) → reads.Fetches x.geometry x.perms w hold absent → IsPlain hold
fetch_plain x w hold absent f = subst IsPlain (sym f.did) tt

one_plain : (holds : List Hold) (hold : Hold) → holds ≡ hold ∷ [] → IsPlain hold → ArePlain holds
one_plain holds hold is plain = subst ArePlain (sym is) (plain, tt)

all_plain : (x : State) (o : ℕ) (holds : List Hold) → reads.FetchesAll x.geometry x.perms x.store o holds → ArePlain holds
all_plain x o [] is = tt
all_plain x o (hold ∷ holds) is = (fetch_plain x is.0 hold is.1 is.3, all_plain x (o + 1) holds is.4)

gives_plain : (x : State) (o : ℕ) (contents : List (List ℕ)) (holds : List Hold) → reads.GivesAll x.geometry x.perms x.store o contents holds → ArePlain holds
gives_plain x o [] holds is = subst ArePlain (sym is) tt
gives_plain x o (c ∷ cs) holds is = subst ArePlain (sym is.2) (fetch_plain x is.3.w is.0 is.3.absent is.3.fetches, gives_plain x (o + 1) cs is.1 is.4)

stops_plain : (x : State) (o : ℕ) (why : ObjectFault) (holds : List Hold) → reads.StopsFor x.geometry x.perms x.store o why holds → ArePlain holds
stops_plain x o object.NoObject holds is = subst ArePlain (sym is.1) tt
stops_plain x o (object.Unreadable absent tried) holds is = subst ArePlain (sym is.2) (fetch_plain x is.3.w is.0 is.3.absent is.3.fetches, all_plain x (o + 1) is.1 is.4)
stops_plain x o object.Worn holds is = one_plain holds is.0 is.1 (subst IsPlain (sym is.2.looked.looked) tt)
stops_plain x o object.NoMemory holds is = subst ArePlain (sym is.2) (plain_append is.0 is.1 (all_plain x o is.0 is.3) (looks_plain is.1 is.4))

pub read_plain : (x : State) (o : ℕ) (result : Result (Vec ℕ Global) ObjectFault) (holds : List Hold) (store : Store) → ReadDoes x o result holds store → ArePlain holds
read_plain x o (Ok bytes) holds store is = one_plain holds is.1.0 is.1.1 (fetch_plain x is.1.2.w is.1.0 is.1.2.absent is.1.2.fetches)
read_plain x o (Err object.NoObject) holds store is = subst ArePlain (sym is.1) tt
read_plain x o (Err (object.Unreadable absent tried)) holds store is = one_plain holds is.1.0 is.1.1 (fetch_plain x is.1.2.w is.1.0 is.1.2.absent is.1.2.fetches)
read_plain x o (Err object.Worn) holds store is = one_plain holds is.1.0 is.1.1 (subst IsPlain (sym is.1.2.looked.looked) tt)
read_plain x o (Err object.NoMemory) holds store is = subst ArePlain (sym is.1.2) (plain_append is.1.0 is.1.1 (all_plain x o is.1.0 is.1.3) (looks_plain is.1.1 is.1.5))

pub sum_plain : (x : State) (first count : ℕ) (result : Result (List ℕ) SumFault) (holds : List Hold) (store : Store) → SumDoes x first count result holds store → ArePlain holds
sum_plain x first count (Ok digest) holds store is = gives_plain x first is.1.contents holds is.1.gives
sum_plain x first count (Err fault) holds store is =
    subst ArePlain (sym is.1.are) (plain_append is.1.front is.1.back (gives_plain x first is.1.contents is.1.front is.1.gives) (stops_plain x fault.object fault.why is.1.back is.1.stops))

-- with looks behind it
pub tries_but : (x : State) (first count : ℕ) (result : Result (List ℕ) SumFault) (holds : List Hold) (store : Store) → SumTries x first count result holds store → ButLooks (SumDoes x first count result) holds store
tries_but x first count (Ok digest) holds store is = record { front = holds; back = []; are = sym (append-nil holds); did = is; looks = tt }
tries_but x first count (Err fault) holds store is = is

pub sum_looks_plain : (x : State) (first count : ℕ) (result : Result (List ℕ) SumFault) (holds : List Hold) (store : Store) → ButLooks (SumDoes x first count result) holds store → ArePlain holds
sum_looks_plain x first count result holds store is = subst ArePlain (sym is.are) (plain_append is.front is.back (sum_plain x first count result is.front store is.did) (looks_plain is.back is.looks))

-- ---- the store as it was

-- of which a pool stands as before
stays_as : (x : State) (holds : List Hold) (store : Store) → ArePlain holds → store ≡ x.store → ArePlain holds × (store.marks ≡ x.store.marks) × (x.store.floor ≤ store.floor)
stays_as x holds store plain same = (plain, ap (λ (s : Store). s.marks) same, (let floor = ap (λ (s : Store). s.floor) same in omega (arith, floor)))

read_store : (x : State) (o : ℕ) (result : Result (Vec ℕ Global) ObjectFault) (holds : List Hold) (store : Store) → ReadDoes x o result holds store → store ≡ x.store
read_store x o (Ok bytes) holds store is = is.0
read_store x o (Err object.NoObject) holds store is = is.0
read_store x o (Err (object.Unreadable absent tried)) holds store is = is.0
read_store x o (Err object.Worn) holds store is = is.0
read_store x o (Err object.NoMemory) holds store is = is.0

pub read_stays : (x : State) (o : ℕ) (result : Result (Vec ℕ Global) ObjectFault) (holds : List Hold) (store : Store) → ReadDoes x o result holds store → ArePlain holds × (store.marks ≡ x.store.marks) × (x.store.floor ≤ store.floor)
read_stays x o result holds store is = stays_as x holds store (read_plain x o result holds store is) (read_store x o result holds store is)

sum_store : (x : State) (first count : ℕ) (result : Result (List ℕ) SumFault) (holds : List Hold) (store : Store) → SumDoes x first count result holds store → store ≡ x.store
sum_store x first count (Ok digest) holds store is = is.0
sum_store x first count (Err fault) holds store is = is.0

pub sum_stays : (x : State) (first count : ℕ) (result : Result (List ℕ) SumFault) (holds : List Hold) (store : Store) → ButLooks (SumDoes x first count result) holds store
    → ArePlain holds × (store.marks ≡ x.store.marks) × (x.store.floor ≤ store.floor)
sum_stays x first count result holds store is = stays_as x holds store (sum_looks_plain x first count result holds store is) (sum_store x first count result is.front store is.did)
