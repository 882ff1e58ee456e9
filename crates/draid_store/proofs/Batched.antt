-- The blocks of one object after another, and the answers that solve them.
use Rattle.std.proofs.Common.{◌≡◌, ◌+◌, ◌<◌, ◌≤◌, ◌⊎◌, ◌∙◌, ◌++◌, ℕ, Bool, suc, List, [], ◌∷◌, Option, Some, None, Ok, Err, arith, refl, sym, ap, subst, inl, inr, length, length-append, vec_len}
use Rattle.std.specs.Prelude.{All}
use Rattle.std.specs.List.{AllZip}
use Rattle.std.proofs.lemmas.List.{append-nil, append_assoc}
use Rattle.std.proofs.lemmas.List.Elements.{All-nil, All-push}
use Rattle.sha2.specs.declared.Sha256.{Sha256}
use Rattle.draid_names.specs.declared.pointer.Pointer.{Pointer}
use Rattle.draid_names.specs.declared.refusal.ObjectFault.{ObjectFault}
use Rattle.draid_names.specs.declared.refusal.ObjectFault.TheVariants as object
use Rattle.draid_names.specs.declared.refusal.ObjectFault.TheVariants.{NoMemory}
use Rattle.draid_rack.specs.declared.Rack as racks
use Rattle.draid_area.specs.declared.Area as areas
use Rattle.draid_spec.specs.declared.layout.Geometry.{Geometry}
use Rattle.draid_block.specs.Columns.{Cut}
use Rattle.draid_block.specs.Blocks.{cut_of}
use Rattle.draid_block.specs.Many.{IsSolved}
use Rattle.draid_block.specs.Solving.{IsFetched}
use Rattle.draid_block.specs.declared.many.Solve.{Solve}
use Rattle.draid_block.specs.declared.many.Solve.TheVariants.{Bytes, Unreadable}
use Rattle.draid_block.specs.declared.solve.Fetched.{Fetched}
use Rattle.draid_objects.specs.Changes.{Write, write_of}
use Rattle.draid_shard.specs.declared.shard.Shard.{Shard}
use Rattle.draid_session.specs.Does.{IsOne}
use Rattle.draid_session.specs.Holds.{Hold}
use Rattle.draid_session.specs.Looks.{OnlyLooks}
use Rattle.draid_session.specs.Reads as reads
use Rattle.draid_session.specs.State.{State, Store}
use Rattle.draid_store.specs.Answers.{FetchDoes, FetchIs, IsFetchOf, NoFetch, ReadDoes, reading_of}
use Rattle.draid_store.specs.Batches.{AddIs, AddTries, AreBytes, EndsBatch, FeedsAll, FetchesBatch, FetchesBlocks, FirstUnread}
use Rattle.draid_store.specs.Fetching.{ButLooks}
use Rattle.draid_pool.specs.Threads.{HaveLayout}
use Rattle.draid_store.specs.declared.fault.SumFault.{SumFault}
use Rattle.draid_store.specs.declared.summing.Batch.{Batch}
use Rattle.draid_store.specs.PointerSums.{BlocksOf}
use Rattle.draid_store.specs.Pointers.{FetchFinds}
use Rattle.draid_turn.specs.Calls.{Lock}
use Rattle.draid_pool.specs.declared.cell.Cell.{Cell}
use Rattle.draid_pool.specs.Threads.{AllStay, IsWholeBy, Knows, LeadsBy}
use Rattle.draid_pool.proofs.HeldBy.{stay_same, stay_then}
use Rattle.draid_pool.proofs.Joining.{Both, leads_then}
use Rattle.draid_pool.proofs.Steps.{SameLayout, own_of}
use Rattle.draid_pool.proofs.Joining.{leads_as}
use Rattle.draid_store.proofs.PointedSums.{blocks_more}
use Rattle.draid_pool.proofs.QuietWhole.{layout_stays}
use Rattle.draid_store.proofs.Sums.{gives_length}

-- ---- fetching

-- what was fetched with the same layout and the same of the thread's own
fetch_own : (x y : State) (o : ℕ) (fetched : Fetched) (holds : List Hold) (store : Store) → SameLayout x y → FetchIs y o fetched holds store → FetchIs x o fetched holds store
fetch_own x y o fetched holds store s f = record {
  store = f.store ∙ s.store;
  block = subst (λ (g : Geometry). IsFetched (cut_of g) fetched) s.geometry f.block;
  one = own_of x y (λ g p t. IsOne (λ hold. (w : Write) × (absent : List ℕ) × (write_of t.changes o ≡ Some w) × reads.Fetches g p w hold absent) holds) s f.one;
  answers = answers;
}
  where
    back : (solve : Solve) → IsSolved (cut_of x.geometry) fetched solve → IsSolved (cut_of y.geometry) fetched solve
    back solve is = subst (λ (g : Geometry). IsSolved (cut_of g) fetched solve) (sym s.geometry) is

    answers : (solve : Solve) → IsSolved (cut_of x.geometry) fetched solve → ReadDoes x o (reading_of solve) holds store
    answers (Bytes bytes) is = (f.store ∙ s.store, own_of x y (λ g p t. IsOne (reads.Gives g p t o bytes.items) holds) s (f.answers (Bytes bytes) (back (Bytes bytes) is)).1)
    answers (Unreadable absent tried) is = (f.store ∙ s.store, own_of x y (λ g p t. IsOne (reads.Loses g p t o absent tried) holds) s (f.answers (Unreadable absent tried) (back (Unreadable absent tried) is)).1)

-- so it is where nothing was
none_own : (x y : State) (o : ℕ) (why : ObjectFault) (holds : List Hold) → SameLayout x y → NoFetch y o why holds → NoFetch x o why holds
none_own x y o object.NoObject holds s is = own_of x y (λ g p t. (write_of t.changes o ≡ None) × (holds ≡ [])) s is
none_own x y o (object.Unreadable absent tried) holds s is = is
none_own x y o object.Worn holds s is = own_of x y (λ g p t. IsOne (reads.ReadsWorn g p t o) holds) s is
none_own x y o object.NoMemory holds s is = is

fetches_more : (x : State) (first object : ℕ) (blocks : List Fetched) (block : Fetched) (front back : List Hold) → first + length blocks ≡ object → FetchesBlocks x first blocks front
    → FetchIs x object block back x.store → FetchesBlocks x first (blocks ++ block ∷ []) (front ++ back)
fetches_more x first object [] block front back at is next =
    (back, [], ap (λ hs. hs ++ back) is ∙ sym (append-nil back), subst (λ (o : ℕ). FetchIs x o block back x.store) (omega (arith, at)) next, refl)
fetches_more x first object (b ∷ bs) block front back at is next =
    (is.0, is.1 ++ back, ap (λ hs. hs ++ back) is.2 ∙ append_assoc is.0 is.1 back, is.3, fetches_more x (first + 1) object bs block is.1 back (omega (arith, at)) is.4 next)

-- the blocks of a layout that were fetched
pub more_fetched : (cut : Cut) (blocks blocks' : List Fetched) (block : Fetched) → All (IsFetched cut) blocks → IsFetched cut block → blocks' ≡ blocks ++ block ∷ [] → All (IsFetched cut) blocks'
more_fetched cut blocks blocks' block all one more = subst (All (IsFetched cut)) (sym more) (All-push (IsFetched cut) blocks block all one)

pub one_longer : (blocks blocks' : List Fetched) (block : Fetched) → blocks' ≡ blocks ++ block ∷ [] → length blocks' ≡ length blocks + 1
one_longer blocks blocks' block more = (let long = ap (λ (bs : List Fetched). length bs) more ∙ length-append blocks (block ∷ []) in omega (arith, long))

pub some_fault : (why : ObjectFault) (P : Type 0) → Some why ≡ None → P
some_fault why P none = absurd (cc)

-- ---- holds that fetch

abbrev FetchesOf : State → ℕ → List Hold → Type 0
FetchesOf x o holds = reads.FetchesAll x.geometry x.perms x.store o holds

one_fetch : (x : State) (o : ℕ) (holds : List Hold) → IsOne (IsFetchOf x o) holds → FetchesOf x o holds × (length holds ≡ 1)
one_fetch x o holds is = (subst (FetchesOf x o) (sym is.1) (is.2.0, is.2.1, is.2.2, is.2.3, tt), ap length is.1)

fetches_append : (x : State) (o p : ℕ) (front back : List Hold) → o + length front ≡ p → FetchesOf x o front → FetchesOf x p back → FetchesOf x o (front ++ back)
fetches_append x o p [] back at is more = subst (λ (q : ℕ). FetchesOf x q back) (omega (arith, at)) more
fetches_append x o p (h ∷ hs) back at is more = (is.0, is.1, is.2, is.3, fetches_append x (o + 1) p hs back (omega (arith, at)) is.4 more)

fetched_all : (x : State) (first : ℕ) (blocks : List Fetched) (holds : List Hold) → FetchesBlocks x first blocks holds → FetchesOf x first holds × (length holds ≡ length blocks)
fetched_all x first [] holds is = (subst (FetchesOf x first) (sym is) tt, ap length is)
fetched_all x first (b ∷ bs) holds is =
    let one = one_fetch x first is.0 is.3.one in
    let rest = fetched_all x (first + 1) bs is.1 is.4 in
    let n = one.1 in
    let m = rest.1 in
    let long = length-append is.0 is.1 in (
      subst (FetchesOf x first) (sym is.2) (fetches_append x first (first + 1) is.0 is.1 (omega (arith, n)) one.0 rest.0),
      (let all = ap length is.2 in omega (arith, all, long, n, m)),
    )

-- behind the blocks that were kept some were fetched, or there was a look
record Behind (x : State) (o : ℕ) (holds : List Hold) : Type 0 where
  pub front : List Hold
  pub back : List Hold
  pub are : holds ≡ front ++ back
  pub fetches : FetchesOf x o front
  pub looks : OnlyLooks back

behind_none : (x : State) (o : ℕ) (why : ObjectFault) (holds : List Hold) → NoFetch x o why holds → Behind x o holds × (length holds ≤ 1)
behind_none x o object.NoObject holds is = (record { front = []; back = []; are = is.1; fetches = tt; looks = tt }, (let none = ap length is.1 in omega (arith, none)))
behind_none x o (object.Unreadable absent tried) holds is = absurd is
behind_none x o object.Worn holds is =
    (record { front = []; back = holds; are = refl; fetches = tt; looks = subst OnlyLooks (sym is.1) ((is.2.v, is.2.looked.looked), tt) }, (let one = ap length is.1 in omega (arith, one)))
behind_none x o object.NoMemory holds is =
    (record { front = []; back = holds; are = refl; fetches = tt; looks = subst OnlyLooks (sym is.1) (is.2, tt) }, (let one = ap length is.1 in omega (arith, one)))

behind_fetches : (x : State) (first count many : ℕ) (fault : Option ObjectFault) (holds : List Hold) → EndsBatch x first count many fault holds → Behind x (first + many) holds × (many + length holds ≤ count)
behind_fetches x first count many None holds is =
    (record { front = []; back = []; are = is.2; fetches = tt; looks = tt }, (let none = ap length is.2 in let within = is.1 in omega (arith, none, within)))
behind_fetches x first count many (Some why) holds (below, inl is) =
    (let z = behind_none x (first + many) why holds is in (z.0, (let short = z.1 in omega (arith, short, below))))
behind_fetches x first count many (Some why) holds (below, inr is) =
    (let one = one_fetch x (first + many) holds is.1 in
    (record { front = holds; back = []; are = sym (append-nil holds); fetches = one.0; looks = tt }, (let n = one.1 in omega (arith, n, below))))

-- ---- solving
pub solved_length : (cut : Cut) (blocks : List Fetched) (solves : List Solve) → AllZip (IsSolved cut) blocks solves → length solves ≡ length blocks
solved_length cut [] [] solved = refl
solved_length cut [] (s ∷ ss) solved = absurd solved
solved_length cut (b ∷ bs) [] solved = absurd solved
solved_length cut (b ∷ bs) (s ∷ ss) solved = ap suc (solved_length cut bs ss solved.1)

abbrev GivesOf : State → ℕ → List (List ℕ) → List Hold → Type 0
GivesOf x o contents holds = reads.GivesAll x.geometry x.perms x.store o contents holds

-- one object more before those that gave their bytes
gives_one : (x : State) (first : ℕ) (bytes content : List ℕ) (cs : List (List ℕ)) (front back holds : List Hold) → holds ≡ front ++ back → IsOne (reads.Gives x.geometry x.perms x.store first bytes) front
    → content ≡ bytes → GivesOf x (first + 1) cs back → GivesOf x first (content ∷ cs) holds
gives_one x first bytes content cs front back holds are one same rest = (
  one.0,
  back,
  are ∙ ap (λ hs. hs ++ back) one.1,
  subst (λ w. reads.Gives x.geometry x.perms x.store first w one.0) (sym same) one.2,
  rest,
)

-- the bytes that solve the blocks are those of the objects
bytes_given : (x : State) (first : ℕ) (blocks : List Fetched) (solves : List Solve) (contents : List (List ℕ)) (holds : List Hold) → FetchesBlocks x first blocks holds
    → AllZip (IsSolved (cut_of x.geometry)) blocks solves → AreBytes solves contents → GivesOf x first contents holds × (length contents ≡ length blocks)
bytes_given x first [] [] [] holds is solved are = (is, refl)
bytes_given x first [] [] (c ∷ cs) holds is solved are = absurd are
bytes_given x first [] (s ∷ ss) cs holds is solved are = absurd solved
bytes_given x first (b ∷ bs) [] cs holds is solved are = absurd solved
bytes_given x first (b ∷ bs) (Unreadable absent tried ∷ ss) [] holds is solved are = absurd are
bytes_given x first (b ∷ bs) (Unreadable absent tried ∷ ss) (c ∷ cs) holds is solved are = absurd are
bytes_given x first (b ∷ bs) (Bytes bytes ∷ ss) [] holds is solved are = absurd are
bytes_given x first (b ∷ bs) (Bytes bytes ∷ ss) (c ∷ cs) holds is solved are =
    let read = is.3.answers (Bytes bytes) solved.0 in
    let more = bytes_given x (first + 1) bs ss cs is.1 is.4 solved.1 are.1 in
    (gives_one x first bytes.items c cs is.0 is.1 holds is.2 read.1 are.0 more.0, ap suc more.1)

-- The first of the blocks that no set of columns restores.
record LostIn (x : State) (first : ℕ) (blocks : List Fetched) (before : List Solve) (contents : List (List ℕ)) (absent tried : ℕ) (holds : List Hold) : Type 0 where
  pub front : List Hold
  pub hold : Hold
  pub rest : List Hold
  pub are : holds ≡ front ++ hold ∷ rest
  pub many : length contents ≡ length before
  pub gives : GivesOf x first contents front
  pub loses : reads.Loses x.geometry x.perms x.store (first + length before) absent tried hold
  pub fetches : FetchesOf x (first + length before + 1) rest
  pub long : length before + 1 + length rest ≡ length blocks

lost_in : (x : State) (first : ℕ) (blocks : List Fetched) (before after : List Solve) (contents : List (List ℕ)) (absent tried : ℕ) (holds : List Hold) → FetchesBlocks x first blocks holds
    → AllZip (IsSolved (cut_of x.geometry)) blocks (before ++ Unreadable absent tried ∷ after) → AreBytes before contents → LostIn x first blocks before contents absent tried holds
lost_in x first [] [] after contents absent tried holds is solved are = absurd solved
lost_in x first [] (s ∷ ss) after contents absent tried holds is solved are = absurd solved
lost_in x first (b ∷ bs) [] after (c ∷ cs) absent tried holds is solved are = absurd are
lost_in x first (b ∷ bs) [] after [] absent tried holds is solved are =
    let read = is.3.answers (Unreadable absent tried) solved.0 in
    let rest = fetched_all x (first + 1) bs is.1 is.4 in
    record {
      front = [];
      hold = read.1.0;
      rest = is.1;
      are = is.2 ∙ ap (λ hs. hs ++ is.1) read.1.1;
      many = refl;
      gives = refl;
      loses = subst (λ (o : ℕ). reads.Loses x.geometry x.perms x.store o absent tried read.1.0) (omega arith) read.1.2;
      fetches = subst (λ (o : ℕ). FetchesOf x o is.1) (omega arith) rest.0;
      long = (let n = rest.1 in omega (arith, n));
    }
lost_in x first (b ∷ bs) (Unreadable a t ∷ ss) after [] absent tried holds is solved are = absurd are
lost_in x first (b ∷ bs) (Unreadable a t ∷ ss) after (c ∷ cs) absent tried holds is solved are = absurd are
lost_in x first (b ∷ bs) (Bytes bytes ∷ ss) after [] absent tried holds is solved are = absurd are
lost_in x first (b ∷ bs) (Bytes bytes ∷ ss) after (c ∷ cs) absent tried holds is solved are =
    let read = is.3.answers (Bytes bytes) solved.0 in
    let m = lost_in x (first + 1) bs ss after cs absent tried is.1 is.4 solved.1 are.1 in
    let long = m.long in
    record {
      front = is.0 ++ m.front;
      hold = m.hold;
      rest = m.rest;
      are = is.2 ∙ (ap (λ hs. is.0 ++ hs) m.are ∙ sym (append_assoc is.0 m.front (m.hold ∷ m.rest)));
      many = ap suc m.many;
      gives = gives_one x first bytes.items c cs is.0 m.front (is.0 ++ m.front) refl read.1 are.0 m.gives;
      loses = subst (λ (o : ℕ). reads.Loses x.geometry x.perms x.store o absent tried m.hold) (omega arith) m.loses;
      fetches = subst (λ (o : ℕ). FetchesOf x o m.rest) (omega arith) m.fetches;
      long = omega (arith, long);
    }

-- ---- why an object gives no bytes

stop_none : (x : State) (o : ℕ) (why : ObjectFault) (back : List Hold) → NoFetch x o why back → reads.StopsFor x.geometry x.perms x.store o why back
stop_none x o object.NoObject back is = is
stop_none x o (object.Unreadable absent tried) back is = absurd is
stop_none x o object.Worn back is = is
stop_none x o object.NoMemory back is = ([], back, refl, tt, subst OnlyLooks (sym is.1) (is.2, tt))

stop_at : (x : State) (o : ℕ) (why : ObjectFault) (back : List Hold) → NoFetch x o why back ⊎ ((why ≡ object.NoMemory) × IsOne (IsFetchOf x o) back)
    → reads.StopsFor x.geometry x.perms x.store o why back × (length back ≤ 1)
stop_at x o why back (inl is) = (stop_none x o why back is, (behind_none x o why back is).1)
stop_at x o why back (inr is) =
    (let one = one_fetch x o back is.1 in
    (subst (λ w. reads.StopsFor x.geometry x.perms x.store o w back) (sym is.0) (back, [], sym (append-nil back), one.0, tt), (let n = one.1 in omega (arith, n))))

-- ---- a batch

-- the blocks of the objects so far were fetched
abbrev pub FetchedSome : State → ℕ → List Fetched → List Hold → Store → Type 0
FetchedSome x first blocks holds store = (store ≡ x.store) × FetchesBlocks x first blocks holds

module _ {R A S : Type 0} (rack : racks.Ghosts R) (area : areas.Ghosts A) (went : S → ℕ → Shard R A → Shard R A → S → Type 0) (shared : Bool) (owns : ℕ → Bool) (table : ℕ → Option Pointer) (seq floor : ℕ) where
  -- what is known as a thread's metaslabs were left so
  abbrev pub Known : (ℕ → Option (Shard R A)) → State → Type 0
  Known last = Knows rack area owns last table seq floor

  -- so far, from where a command began
  abbrev pub Fetching : (last now : ℕ → Option (Shard R A)) → S → S → ℕ → List Fetched → Type 0
  Fetching last now a b first blocks = (x : State) → Known last x → LeadsBy rack area went shared a b x (FetchedSome x first blocks) (Known now)

  pub fetching_none : (last : ℕ → Option (Shard R A)) (a : S) (first : ℕ) → Fetching last last a a first []
  fetching_none last a first x known = record { holds = []; reached = x; store = x.store; follows = (refl, refl); done = (refl, refl); knows = known }

  module _ (last now new : ℕ → Option (Shard R A)) (a b c : S) (first object : ℕ) (blocks : List Fetched) (many : first + length blocks ≡ object) (some : Fetching last now a b first blocks) where
    same_own : (x y : State) (front : List Hold) → y.geometry ≡ x.geometry → y.perms ≡ x.perms → FetchedSome x first blocks front y.store → SameLayout x y
    same_own x y front geometry perms done = record { geometry = geometry; perms = perms; store = done.0 }

    -- the next one was, too
    module _ (block : Fetched) (moves : (y : State) → Known now y → LeadsBy rack area went shared b c y (FetchDoes y object (Ok block)) (Known new)) where
      next : (x : State) → Known last x → LeadsBy rack area went shared a c x (Both rack area went shared a b c x (FetchedSome x first blocks) (Known now) (FetchIs x object block) (Known new)) (Known new)
      next x known = leads_then rack area went shared a b c x (FetchedSome x first blocks) (Known now) (FetchIs x object block) (Known new) (some x known)
          (λ y geometry perms front done known_y. leads_as rack area went shared b c y (FetchDoes y object (Ok block)) (FetchIs x object block) (Known new)
          (λ holds store f. fetch_own x y object block holds store (same_own x y front geometry perms done) f) (moves y known_y))

      pub fetching_more : (blocks' : List Fetched) → blocks' ≡ blocks ++ block ∷ [] → Fetching last new a c first blocks'
      fetching_more blocks' pushed x known = leads_as rack area went shared a c x (Both rack area went shared a b c x (FetchedSome x first blocks) (Known now) (FetchIs x object block) (Known new)) (FetchedSome x first blocks') (Known new)
          (λ holds store d. (
            d.second.store,
            subst (λ hs. FetchesBlocks x first blocks' hs) (sym d.are) (subst (λ (bs : List Fetched). FetchesBlocks x first bs (d.front ++ d.back)) (sym pushed)
                (fetches_more x first object blocks block d.front d.back many d.first.1 (subst (λ s. FetchIs x object block d.back s) d.second.store d.second))),
          )) (next x known)

      -- memory was wanting to keep it
      pub fetching_unkept : (count : ℕ) (batch : Batch) → object < first + count → batch.blocks.items ≡ blocks → batch.fault ≡ Some NoMemory → (x : State) → Known last x → LeadsBy rack area went shared a c x (FetchesBatch x first count batch) (Known new)
      fetching_unkept count batch below all is x known = leads_as rack area went shared a c x (Both rack area went shared a b c x (FetchedSome x first blocks) (Known now) (FetchIs x object block) (Known new)) (FetchesBatch x first count batch) (Known new)
          (λ holds store d. record {
            same = d.second.store;
            front = d.front;
            back = d.back;
            are = d.are;
            fetches = subst (λ (bs : List Fetched). FetchesBlocks x first bs d.front) (sym all) d.first.1;
            ends = subst (λ (o : Option ObjectFault). EndsBatch x first count (length batch.blocks.items) o d.back) (sym is)
                (subst (λ (bs : List Fetched). EndsBatch x first count (length bs) (Some NoMemory) d.back) (sym all)
                (omega (arith, many, below), inr (refl, subst (λ (o : ℕ). IsOne (IsFetchOf x o) d.back) (sym many) d.second.one)));
          }) (next x known)

    -- the batch ends where an object gives no block
    pub fetching_ends : (count : ℕ) (batch : Batch) (why : ObjectFault) → object < first + count → batch.blocks.items ≡ blocks → batch.fault ≡ Some why
        → ((y : State) → Known now y → LeadsBy rack area went shared b c y (FetchDoes y object (Err why)) (Known new)) → (x : State) → Known last x → LeadsBy rack area went shared a c x (FetchesBatch x first count batch) (Known new)
    fetching_ends count batch why below all is moves x known =
        leads_as rack area went shared a c x (Both rack area went shared a b c x (FetchedSome x first blocks) (Known now) (FetchDoes x object (Err why)) (Known new)) (FetchesBatch x first count batch) (Known new)
        (λ holds store d. record {
          same = d.second.0;
          front = d.front;
          back = d.back;
          are = d.are;
          fetches = subst (λ (bs : List Fetched). FetchesBlocks x first bs d.front) (sym all) d.first.1;
          ends = subst (λ (o : Option ObjectFault). EndsBatch x first count (length batch.blocks.items) o d.back) (sym is)
              (subst (λ (bs : List Fetched). EndsBatch x first count (length bs) (Some why) d.back) (sym all)
              (omega (arith, many, below), inl (subst (λ (o : ℕ). NoFetch x o why d.back) (sym many) d.second.1)));
        })
        (leads_then rack area went shared a b c x (FetchedSome x first blocks) (Known now) (FetchDoes x object (Err why)) (Known new) (some x known)
        (λ y geometry perms front done known_y. leads_as rack area went shared b c y (FetchDoes y object (Err why)) (FetchDoes x object (Err why)) (Known new)
        (λ holds store f. (f.0 ∙ done.0, none_own x y object why holds (same_own x y front geometry perms done) f.1)) (moves y known_y)))

  -- it has blocks enough, or all of them
  pub fetching_done : (last now : ℕ → Option (Shard R A)) (a b : S) (first count object : ℕ) (batch : Batch) → first + length batch.blocks.items ≡ object → Fetching last now a b first batch.blocks.items → first < object → object ≤ first + count
      → batch.fault ≡ None → (x : State) → Known last x → LeadsBy rack area went shared a b x (FetchesBatch x first count batch) (Known now)
  fetching_done last now a b first count object batch many some more within none x known = leads_as rack area went shared a b x (FetchedSome x first batch.blocks.items) (FetchesBatch x first count batch) (Known now)
      (λ holds store d. record {
        same = d.0;
        front = holds;
        back = [];
        are = sym (append-nil holds);
        fetches = d.1;
        ends = subst (λ (o : Option ObjectFault). EndsBatch x first count (length batch.blocks.items) o []) (sym none) (omega (arith, many, more), omega (arith, many, within), refl);
      }) (some x known)

-- The blocks of the objects so far were fetched, and so much stays of what the thread has.
pub record BatchAt {R A S : Type 0} (rack : racks.Ghosts R) (area : areas.Ghosts A) (went : S → ℕ → Shard R A → Shard R A → S → Type 0) (shared : Bool) (held locks : List (Lock (Cell R A))) (owns now_owns : ℕ → Bool) (fits : Type 0) (last now : ℕ → Option (Shard R A))
    (table : ℕ → Option Pointer) (seq floor : ℕ) (a b : S) (first object : ℕ) (blocks : List Fetched) : Type 0 where
  pub fit : fits
  pub same_locks : held ≡ locks
  pub owned : now_owns ≡ owns
  pub stay : AllStay owns last now
  pub whole : IsWholeBy rack owns now table seq floor
  pub fetched : (geometry : Geometry) → HaveLayout geometry last → All (IsFetched (cut_of geometry)) blocks
  pub many : first + length blocks ≡ object
  pub found : BlocksOf table first blocks
  pub step : Fetching rack area went shared owns table seq floor last now a b first blocks

module _ {R A S : Type 0} (rack : racks.Ghosts R) (area : areas.Ghosts A) (went : S → ℕ → Shard R A → Shard R A → S → Type 0) (shared : Bool) (held locks next_locks : List (Lock (Cell R A))) (owns now_owns next_owns : ℕ → Bool) (fits next_fits : Type 0) (last now new : ℕ → Option (Shard R A))
    (table : ℕ → Option Pointer) (seq floor : ℕ) (a b c : S) (first object : ℕ) (blocks : List Fetched) (i : BatchAt rack area went shared held locks owns now_owns fits last now table seq floor a b first object blocks)
    (fit : next_fits) (same_locks : next_locks ≡ held) (owned : next_owns ≡ now_owns) (stay : AllStay now_owns now new) (whole : IsWholeBy rack now_owns new table seq floor) where
  stay_on : AllStay owns last new
  stay_on = stay_then owns last now new i.stay (subst (λ o. AllStay o now new) i.owned stay)

  pub moves_on : (does : State → List Hold → Store → Type 0) → ((y : State) → Knows rack area now_owns now table seq floor y → LeadsBy rack area went shared b c y (does y) (Knows rack area now_owns new table seq floor))
      → (y : State) → Knows rack area owns now table seq floor y → LeadsBy rack area went shared b c y (does y) (Knows rack area owns new table seq floor)
  moves_on does moves = subst (λ o. (y : State) → Knows rack area o now table seq floor y → LeadsBy rack area went shared b c y (does y) (Knows rack area o new table seq floor)) i.owned moves

  -- another one
  pub batch_more : (block : Fetched) (blocks' : List Fetched) → blocks' ≡ blocks ++ block ∷ [] → FetchFinds (table object) (Ok block) → ((geometry : Geometry) → HaveLayout geometry now → IsFetched (cut_of geometry) block)
      → ((y : State) → Knows rack area now_owns now table seq floor y → LeadsBy rack area went shared b c y (FetchDoes y object (Ok block)) (Knows rack area now_owns new table seq floor))
      → BatchAt rack area went shared next_locks locks owns next_owns next_fits last new table seq floor a c first (object + 1) blocks'
  batch_more block blocks' pushed finds is moves = record {
    fit = fit;
    same_locks = same_locks ∙ i.same_locks;
    owned = owned ∙ i.owned;
    stay = stay_on;
    whole = subst (λ o. IsWholeBy rack o new table seq floor) i.owned whole;
    fetched = λ geometry have. more_fetched (cut_of geometry) blocks blocks' block (i.fetched geometry have) (is geometry (layout_stays owns last now geometry i.stay have)) pushed;
    many = (let many = i.many in let long = one_longer blocks blocks' block pushed in omega (arith, many, long));
    found = subst (BlocksOf table first) (sym pushed) (blocks_more table first object blocks block i.many i.found finds);
    step = fetching_more rack area went shared owns table seq floor last now new a b c first object blocks i.many i.step block (moves_on (λ y. FetchDoes y object (Ok block)) moves) blocks' pushed;
  }

pub none_at : {R A S : Type 0} (rack : racks.Ghosts R) (area : areas.Ghosts A) (went : S → ℕ → Shard R A → Shard R A → S → Type 0) (shared : Bool) (locks : List (Lock (Cell R A))) (owns : ℕ → Bool) (fits : Type 0) (last : ℕ → Option (Shard R A))
    (table : ℕ → Option Pointer) (seq floor : ℕ) (a : S) (first : ℕ) (blocks : List Fetched) → blocks ≡ [] → fits → IsWholeBy rack owns last table seq floor
    → BatchAt rack area went shared locks locks owns owns fits last last table seq floor a a first first blocks
none_at rack area went shared locks owns fits last table seq floor a first blocks none fit whole = subst (BatchAt rack area went shared locks locks owns owns fits last last table seq floor a a first first) (sym none) (record {
  fit = fit;
  same_locks = refl;
  owned = refl;
  stay = stay_same owns last;
  whole = whole;
  fetched = λ geometry have. All-nil (IsFetched (cut_of geometry));
  many = omega arith;
  found = tt;
  step = fetching_none rack area went shared owns table seq floor last a first;
})

-- ---- what a batch adds

no_looks : (does : List Hold → Store → Type 0) (holds : List Hold) (store : Store) → does holds store → ButLooks does holds store
no_looks does holds store did = record { front = holds; back = []; are = sym (append-nil holds); did = did; looks = tt }

-- memory was wanting for the answers
pub unsolved : (x : State) (first count : ℕ) (batch : Batch) (hasher hasher' : Sha256) → 1 ≤ count → (holds : List Hold) (store : Store) → FetchesBatch x first count batch holds store
    → AddTries x first count hasher hasher' (Err (record { object = first; why = object.NoMemory })) holds store
unsolved x first count batch hasher hasher' some holds store b =
    let all = fetched_all x first batch.blocks.items b.front b.fetches in
    let more = behind_fetches x first count (length batch.blocks.items) batch.fault b.back b.ends in
    let n = all.1 in
    let m = more.1 in
    let are = ap length b.are in
    let long = length-append b.front b.back in
    no_looks (AddIs x first count hasher hasher' (Err (record { object = first; why = object.NoMemory }))) holds store (
      b.same,
      record {
        contents = [];
        front = [];
        back = holds;
        are = refl;
        object_is = omega arith;
        within = omega (arith, some);
        gives = refl;
        stops = (
          b.front ++ more.0.front,
          more.0.back,
          b.are ∙ (ap (λ hs. b.front ++ hs) more.0.are ∙ sym (append_assoc b.front more.0.front more.0.back)),
          fetches_append x first (first + length batch.blocks.items) b.front more.0.front (omega (arith, n)) all.0 more.0.fetches,
          more.0.looks,
        );
        fetched = omega (arith, are, long, n, m);
      },
    )

-- one of the blocks can't be read
pub unread_in : (x : State) (first count : ℕ) (batch : Batch) (solves : List Solve) (hasher hasher' : Sha256) (fault : SumFault) → AllZip (IsSolved (cut_of x.geometry)) batch.blocks.items solves → FirstUnread first solves fault
    → (holds : List Hold) (store : Store) → FetchesBatch x first count batch holds store → AddTries x first count hasher hasher' (Err fault) holds store
unread_in x first count batch solves hasher hasher' fault here u holds store b =
    let blocks = batch.blocks.items in
    let l = lost_in x first blocks u.before u.after u.contents u.absent u.tried b.front b.fetches (subst (AllZip (IsSolved (cut_of x.geometry)) blocks) u.order here) u.are in
    let more = behind_fetches x first count (length blocks) batch.fault b.back b.ends in
    let m = more.1 in
    let many = l.many in
    let long = l.long in
    let n = (fetched_all x first blocks b.front b.fetches).1 in
    let held = length-append b.front more.0.front in
    let all = ap length more.0.are in
    let both = length-append more.0.front more.0.back in
    record {
      front = b.front ++ more.0.front;
      back = more.0.back;
      are = b.are ∙ (ap (λ hs. b.front ++ hs) more.0.are ∙ sym (append_assoc b.front more.0.front more.0.back));
      did = subst (λ (f : SumFault). AddIs x first count hasher hasher' (Err f) (b.front ++ more.0.front) store) (sym u.named) (
        b.same,
        record {
          contents = u.contents;
          front = l.front;
          back = l.hold ∷ (l.rest ++ more.0.front);
          are = ap (λ hs. hs ++ more.0.front) l.are ∙ append_assoc l.front (l.hold ∷ l.rest) more.0.front;
          object_is = omega (arith, many);
          within = omega (arith, many, long, m);
          gives = l.gives;
          stops = (
            l.hold,
            l.rest ++ more.0.front,
            refl,
            l.loses,
            fetches_append x (first + length u.before + 1) (first + length blocks) l.rest more.0.front (omega (arith, long)) l.fetches more.0.fetches,
          );
          fetched = omega (arith, held, n, m, all, both);
        },
      );
      looks = more.0.looks;
    }

-- all blocks gave their bytes, and the next object gives none
pub batch_stops : (x : State) (first count added : ℕ) (batch : Batch) (solves : List Solve) (hasher hasher' : Sha256) (why : ObjectFault) → AllZip (IsSolved (cut_of x.geometry)) batch.blocks.items solves → FeedsAll solves hasher hasher'
    → added ≡ vec_len batch.blocks → batch.fault ≡ Some why → (holds : List Hold) (store : Store) → FetchesBatch x first count batch holds store
    → AddTries x first count hasher hasher' (Err (record { object = first + added; why = why })) holds store
batch_stops x first count added batch solves hasher hasher' why here f counted fault holds store b =
    let long = counted ∙ batch.blocks.ok.0 in
    let blocks = batch.blocks.items in
    let g = bytes_given x first blocks solves f.contents b.front b.fetches here f.are in
    let ends : EndsBatch x first count (length blocks) (Some why) b.back = subst (λ (o : Option ObjectFault). EndsBatch x first count (length blocks) o b.back) fault b.ends in
    let stop = stop_at x (first + length blocks) why b.back ends.1 in
    let many = g.1 in
    let below = ends.0 in
    let short = stop.1 in
    let n = gives_length x.geometry x.perms x.store first f.contents b.front g.0 in
    let held = ap length b.are ∙ length-append b.front b.back in
    no_looks (AddIs x first count hasher hasher' (Err (record { object = first + added; why = why }))) holds store (
      b.same,
      record {
        contents = f.contents;
        front = b.front;
        back = b.back;
        are = b.are;
        object_is = omega (arith, many, long);
        within = omega (arith, many, below);
        gives = g.0;
        stops = subst (λ (k : ℕ). reads.StopsFor x.geometry x.perms x.store (first + k) why b.back) (sym long) stop.0;
        fetched = omega (arith, held, short, n, many, below);
      },
    )

-- all blocks gave their bytes
pub batch_added : (x : State) (first count added : ℕ) (batch : Batch) (solves : List Solve) (hasher hasher' : Sha256) → AllZip (IsSolved (cut_of x.geometry)) batch.blocks.items solves → FeedsAll solves hasher hasher'
    → added ≡ vec_len batch.blocks → batch.fault ≡ None → (holds : List Hold) (store : Store) → FetchesBatch x first count batch holds store → AddTries x first count hasher hasher' (Ok added) holds store
batch_added x first count added batch solves hasher hasher' here f counted fault holds store b =
    let long = counted ∙ batch.blocks.ok.0 in
    let blocks = batch.blocks.items in
    let g = bytes_given x first blocks solves f.contents b.front b.fetches here f.are in
    let ends : EndsBatch x first count (length blocks) None b.back = subst (λ (o : Option ObjectFault). EndsBatch x first count (length blocks) o b.back) fault b.ends in
    let some = ends.0 in
    let within = ends.1 in
    let all : holds ≡ b.front = b.are ∙ (ap (λ hs. b.front ++ hs) ends.2 ∙ append-nil b.front) in
    record {
      store = b.same;
      some = omega (arith, long, some);
      within = omega (arith, long, within);
      contents = f.contents;
      many = g.1 ∙ sym long;
      gives = subst (λ hs. GivesOf x first f.contents hs) (sym all) g.0;
      fed = f.fed;
    }
