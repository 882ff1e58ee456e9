-- The bytes of a batch fit the pointers of its objects.
use Rattle.std.proofs.Common.{◌≡◌, ◌+◌, ◌<◌, ◌≤◌, ◌∙◌, ◌++◌, ℕ, suc, List, [], ◌∷◌, Option, Some, None, Ok, Err, arith, refl, sym, ap, subst, length, length-append}
use Rattle.std.specs.Prelude.{MatchOption, ⊤}
use Rattle.std.specs.List.{AllZip}
use Rattle.sha2.specs.Sha256.{sha256}
use Rattle.sha2.specs.Hashers.{Holds256}
use Rattle.sha2.specs.declared.Sha256.{Sha256}
use Rattle.draid_names.specs.declared.pointer.Pointer.{Pointer}
use Rattle.draid_names.specs.declared.refusal.ObjectFault.{ObjectFault}
use Rattle.draid_names.specs.declared.refusal.ObjectFault.TheVariants as fault
use Rattle.draid_block.specs.Columns.{Cut}
use Rattle.draid_block.specs.Many.{IsSolved}
use Rattle.draid_block.specs.Solving.{HasDigest}
use Rattle.draid_block.specs.declared.many.Solve.{Solve}
use Rattle.draid_block.specs.declared.many.Solve.TheVariants.{Bytes, Unreadable}
use Rattle.draid_block.specs.declared.solve.Fetched.{Fetched}
use Rattle.draid_store.specs.Batches.{AreBytes, FeedsAll, FirstUnread}
use Rattle.draid_store.specs.PointerSums.{AddsFitting, BlocksOf, DigestsFitting, FitPointers, StopsFor, StopsSum}
use Rattle.draid_store.specs.Pointers.{FetchFinds}
use Rattle.draid_pool.specs.Pointers.{FitsPointer}
use Rattle.draid_store.specs.declared.fault.SumFault.{SumFault}
use Rattle.draid_store.proofs.Sums.{joined, joined_append}

-- ---- fetches

found_block : (found : Option Pointer) (fetched : Fetched) → FetchFinds found (Ok fetched) → found ≡ Some fetched.pointer
found_block None fetched is = absurd (cc)
found_block (Some pointer) fetched is = ap Some (sym is)

pub blocks_more : (table : ℕ → Option Pointer) (first object : ℕ) (blocks : List Fetched) (block : Fetched) → first + length blocks ≡ object → BlocksOf table first blocks → FetchFinds (table object) (Ok block)
    → BlocksOf table first (blocks ++ block ∷ [])
blocks_more table first object [] block at are next = (subst (λ o. table o ≡ Some block.pointer) (omega (arith, at)) (found_block (table object) block next), tt)
blocks_more table first object (b ∷ bs) block at are next = (are.0, blocks_more table (first + 1) object bs block (omega (arith, at)) are.1 next)

pub starved : (found : Option Pointer) → StopsFor found fault.NoMemory
starved None = tt
starved (Some pointer) = tt

pub fetch_stops : (found : Option Pointer) (why : ObjectFault) → FetchFinds found (Err why) → StopsFor found why
fetch_stops None fault.NoObject is = refl
fetch_stops None (fault.Unreadable absent tried) is = absurd (cc)
fetch_stops None fault.Worn is = absurd (cc)
fetch_stops None fault.NoMemory is = tt
fetch_stops (Some pointer) fault.NoObject is = is
fetch_stops (Some pointer) (fault.Unreadable absent tried) is = tt
fetch_stops (Some pointer) fault.Worn is = tt
fetch_stops (Some pointer) fault.NoMemory is = tt

-- ---- answers

bytes_fit : (fetched : Fetched) (bytes : List ℕ) → HasDigest fetched bytes → FitsPointer fetched.pointer bytes
bytes_fit fetched bytes has = record { len = has.len; digest = has.digest }

-- the answers are bytes
pub answers_fit : (cut : Cut) (table : ℕ → Option Pointer) (first : ℕ) (blocks : List Fetched) (solves : List Solve) (contents : List (List ℕ)) → BlocksOf table first blocks
    → AllZip (IsSolved cut) blocks solves → AreBytes solves contents → FitPointers table first contents × (length contents ≡ length blocks)
answers_fit cut table first [] [] [] of solved are = (tt, refl)
answers_fit cut table first [] [] (c ∷ cs) of solved are = absurd are
answers_fit cut table first [] (s ∷ ss) cs of solved are = absurd solved
answers_fit cut table first (b ∷ bs) [] cs of solved are = absurd solved
answers_fit cut table first (b ∷ bs) (Unreadable absent tried ∷ ss) [] of solved are = absurd are
answers_fit cut table first (b ∷ bs) (Unreadable absent tried ∷ ss) (c ∷ cs) of solved are = absurd are
answers_fit cut table first (b ∷ bs) (Bytes bytes ∷ ss) [] of solved are = absurd are
answers_fit cut table first (b ∷ bs) (Bytes bytes ∷ ss) (c ∷ cs) of solved are =
    let more = answers_fit cut table (first + 1) bs ss cs of.1 solved.1 are.1 in
    (((b.pointer, of.0, subst (FitsPointer b.pointer) (sym are.0) (bytes_fit b bytes.items solved.0.digest)), more.0), ap suc more.1)

-- one of them isn't
pub record LostAt (table : ℕ → Option Pointer) (first : ℕ) (blocks : List Fetched) (before : List Solve) (contents : List (List ℕ)) (absent tried : ℕ) : Type 0 where
  pub many : length contents ≡ length before
  pub fit : FitPointers table first contents
  pub stops : StopsFor (table (first + length before)) (fault.Unreadable absent tried)
  pub within : length before < length blocks

pub lost_at : (cut : Cut) (table : ℕ → Option Pointer) (first : ℕ) (blocks : List Fetched) (before after : List Solve) (contents : List (List ℕ)) (absent tried : ℕ) → BlocksOf table first blocks
    → AllZip (IsSolved cut) blocks (before ++ Unreadable absent tried ∷ after) → AreBytes before contents → LostAt table first blocks before contents absent tried
lost_at cut table first [] [] after contents absent tried of solved are = absurd solved
lost_at cut table first [] (s ∷ ss) after contents absent tried of solved are = absurd solved
lost_at cut table first (b ∷ bs) [] after (c ∷ cs) absent tried of solved are = absurd are
lost_at cut table first (b ∷ bs) [] after [] absent tried of solved are = record {
  many = refl;
  fit = tt;
  stops = subst (λ (n : ℕ). StopsFor (table n) (fault.Unreadable absent tried)) (omega arith) (subst (λ (o : Option Pointer). StopsFor o (fault.Unreadable absent tried)) (sym of.0) tt);
  within = omega arith;
}
lost_at cut table first (b ∷ bs) (Unreadable a t ∷ ss) after [] absent tried of solved are = absurd are
lost_at cut table first (b ∷ bs) (Unreadable a t ∷ ss) after (c ∷ cs) absent tried of solved are = absurd are
lost_at cut table first (b ∷ bs) (Bytes bytes ∷ ss) after [] absent tried of solved are = absurd are
lost_at cut table first (b ∷ bs) (Bytes bytes ∷ ss) after (c ∷ cs) absent tried of solved are =
    let more = lost_at cut table (first + 1) bs ss after cs absent tried of.1 solved.1 are.1 in
    let within = more.within in
    record {
      many = ap suc more.many;
      fit = ((b.pointer, of.0, subst (FitsPointer b.pointer) (sym are.0) (bytes_fit b bytes.items solved.0.digest)), more.fit);
      stops = subst (λ (n : ℕ). StopsFor (table n) (fault.Unreadable absent tried)) (omega arith) more.stops;
      within = omega (arith, within);
    }

-- ---- batches

pub adds_all : (cut : Cut) (table : ℕ → Option Pointer) (first added : ℕ) (blocks : List Fetched) (solves : List Solve) (old new : Sha256) → BlocksOf table first blocks → AllZip (IsSolved cut) blocks solves
    → FeedsAll solves old new → added ≡ length blocks → AddsFitting table first added old new
adds_all cut table first added blocks solves old new of solved f counted =
    let all = answers_fit cut table first blocks solves f.contents of solved f.are in
    record { contents = f.contents; many = all.1 ∙ sym counted; fit = all.0; fed = f.fed }

pub stops_unread : (cut : Cut) (table : ℕ → Option Pointer) (first count : ℕ) (blocks : List Fetched) (solves : List Solve) (lost : SumFault) → BlocksOf table first blocks → AllZip (IsSolved cut) blocks solves
    → FirstUnread first solves lost → length blocks ≤ count → StopsSum table first count lost
stops_unread cut table first count blocks solves lost of solved u few =
    let l = lost_at cut table first blocks u.before u.after u.contents u.absent u.tried of (subst (AllZip (IsSolved cut) blocks) u.order solved) u.are in
    let many = l.many in
    let within = l.within in
    subst (λ (f : SumFault). StopsSum table first count f) (sym u.named) (record {
      contents = u.contents;
      within = omega (arith, many, within, few);
      object_is = omega (arith, many);
      fit = l.fit;
      stops = l.stops;
    })

pub stops_behind : (cut : Cut) (table : ℕ → Option Pointer) (first count added : ℕ) (blocks : List Fetched) (solves : List Solve) (old new : Sha256) (why : ObjectFault) → BlocksOf table first blocks
    → AllZip (IsSolved cut) blocks solves → FeedsAll solves old new → added ≡ length blocks → length blocks < count → StopsFor (table (first + length blocks)) why
    → StopsSum table first count (record { object = first + added; why = why })
stops_behind cut table first count added blocks solves old new why of solved f counted within stops =
    let all = answers_fit cut table first blocks solves f.contents of solved f.are in
    let many = all.1 in
    record {
      contents = f.contents;
      within = omega (arith, many, within);
      object_is = omega (arith, many, counted);
      fit = all.0;
      stops = subst (λ (n : ℕ). StopsFor (table (first + n)) why) (sym counted) stops;
    }

-- what a batch says of why it ended
pub stops_of : (table : ℕ → Option Pointer) (first count many : ℕ) (fault : Option ObjectFault) (why : ObjectFault) → fault ≡ Some why
    → MatchOption fault ⊤ (λ w. (many < count) × StopsFor (table (first + many)) w) → (many < count) × StopsFor (table (first + many)) why
stops_of table first count many fault why is stops = subst (λ (o : Option ObjectFault). MatchOption o ⊤ (λ w. (many < count) × StopsFor (table (first + many)) w)) is stops

pub stops_starved : (table : ℕ → Option Pointer) (first count : ℕ) → 1 ≤ count → StopsSum table first count (record { object = first; why = fault.NoMemory })
stops_starved table first count some = record { contents = []; within = omega (arith, some); object_is = omega arith; fit = tt; stops = starved (table first) }

-- ---- all batches

-- the first so many objects gave their bytes, which the hasher holds
pub record Sofar (table : ℕ → Option Pointer) (first summed : ℕ) (hasher : Sha256) : Type 0 where
  pub contents : List (List ℕ)
  pub many : length contents ≡ summed
  pub fit : FitPointers table first contents
  pub holds : Holds256 hasher (joined contents)

pub sofar_none : (table : ℕ → Option Pointer) (first : ℕ) (hasher : Sha256) → Holds256 hasher [] → Sofar table first 0 hasher
sofar_none table first hasher holds = record { contents = []; many = refl; fit = tt; holds = holds }

fit_append : (table : ℕ → Option Pointer) (first object : ℕ) (contents more : List (List ℕ)) → first + length contents ≡ object → FitPointers table first contents → FitPointers table object more
    → FitPointers table first (contents ++ more)
fit_append table first object [] more at fit next = subst (λ n. FitPointers table n more) (omega (arith, at)) next
fit_append table first object (c ∷ cs) more at fit next = (fit.0, fit_append table (first + 1) object cs more (omega (arith, at)) fit.1 next)

pub sofar_more : (table : ℕ → Option Pointer) (first summed added : ℕ) (old new : Sha256) → Sofar table first summed old → AddsFitting table (first + summed) added old new → Sofar table first (summed + added) new
sofar_more table first summed added old new s a =
    let many = s.many in
    let more = a.many in
    let long = length-append s.contents a.contents in
    record {
      contents = s.contents ++ a.contents;
      many = omega (arith, many, more, long);
      fit = fit_append table first (first + summed) s.contents a.contents (omega (arith, many)) s.fit a.fit;
      holds = subst (Holds256 new) (joined_append s.contents a.contents) (a.fed (joined s.contents) s.holds);
    }

pub sofar_stops : (table : ℕ → Option Pointer) (first summed left count : ℕ) (hasher : Sha256) (lost : SumFault) → Sofar table first summed hasher → StopsSum table (first + summed) left lost → summed + left ≡ count
    → StopsSum table first count lost
sofar_stops table first summed left count hasher lost s stop whole =
    let many = s.many in
    let within = stop.within in
    let at = stop.object_is in
    let long = length-append s.contents stop.contents in
    record {
      contents = s.contents ++ stop.contents;
      within = omega (arith, many, within, long, whole);
      object_is = omega (arith, many, at, long);
      fit = fit_append table first (first + summed) s.contents stop.contents (omega (arith, many)) s.fit stop.fit;
      stops = stop.stops;
    }

pub sofar_done : (table : ℕ → Option Pointer) (first summed count : ℕ) (hasher : Sha256) (digest : List ℕ) → Sofar table first summed hasher → summed ≡ count
    → ((m : List ℕ) → Holds256 hasher m → digest ≡ sha256 m) → DigestsFitting table first count digest
sofar_done table first summed count hasher digest s all is = record { contents = s.contents; many = s.many ∙ all; fit = s.fit; is = is (joined s.contents) s.holds }
