-- What the answers say.
use Rattle.std.proofs.Common.{◌≡◌, ℕ, zero, suc, ◌+◌, ◌*◌, ◌<◌, ◌≤◌, Bool, true, false, List, [], ◌∷◌, ◌++◌, length, take, arith, refl, ap, subst, Option, Some, None, Result, Ok, Err, Vec, Global, length-append, length-take}
use Rattle.std.specs.Prelude.{slice_index_or, is_none, if◌then◌else◌}
use Rattle.draid_block.specs.Columns.{Cut}
use Rattle.draid_block.specs.Solving.{IsFetched, absent_columns, IsFirst, GivesOf, FailsOf, SolvesBlock, AnswersDigest, absent_below, sets_of}
use Rattle.draid_block.specs.Search.{TriesRead}
use Rattle.draid_block.specs.declared.solve.Fetched.{Fetched}
use Rattle.std.proofs.Math.Nat.{add-mul}
use Rattle.draid_parity.specs.Columns.{column_at}
use Rattle.draid_block.specs.Columns.{sectors_in, sectors_before}
use Rattle.draid_block.specs.Blocks.{column_len, sectors_upto}
use Rattle.draid_block.specs.declared.solve.SolveFault.{SolveFault}
use Rattle.draid_block.proofs.Filling.{part_short, room}
use Rattle.draid_block.proofs.Parts.{some_sector}
use Rattle.draid_block.proofs.Sizes.{first_all}
use Rattle.draid_spec.specs.declared.layout.Geometry.{Geometry}
use Rattle.draid_spec.specs.Geometry.{IsGeometry}
use Rattle.draid_block.specs.Blocks.{cut_of}

pub read_some : (cut : Cut) (fetched : Fetched) (found : Option (Vec ℕ Global)) (bytes : Vec ℕ Global) → found ≡ Some bytes → TriesRead cut fetched (Ok found)
    → IsFirst (GivesOf cut fetched bytes.items) (FailsOf cut fetched) (sets_of cut fetched)
read_some cut fetched found bytes is tries =
    first_all cut fetched bytes.items _ 1 (cut.parity + cut.ndata) (omega arith) refl refl (subst (λ (f : Option (Vec ℕ Global)). TriesRead cut fetched (Ok f)) is tries)

-- there are at most as many absent columns as columns
pub few_absent : (columns : List (Option (Vec ℕ Global))) (n : ℕ) → length (absent_below columns n) ≤ n
unfolding absent_below
few_absent columns zero = omega arith
few_absent columns (suc n) = cases (is_none (slice_index_or columns n None)) (few_absent columns n) where
  cases : (b : Bool) → length (absent_below columns n) ≤ n → length (absent_below columns n ++ (if b then n ∷ [] else [])) ≤ suc n
  cases true h = omega (arith, length-append (absent_below columns n) (n ∷ []))
  cases false h = omega (arith, length-append (absent_below columns n) [])

pub few_columns : (geometry : Geometry) (fetched : Fetched) (absent : List ℕ) → IsGeometry geometry → IsFetched (cut_of geometry) fetched → absent ≡ absent_columns fetched.columns.items
    → length absent ≤ 1000
few_columns geometry fetched absent g f is =
    let few = few_absent fetched.columns.items (length fetched.columns.items) in
    let count = f.count in
    let columns = g.columns in
    let width = g.width in
    let disks = g.disks in
    let children = g.spec.most_children in
    let same = ap length is in
    omega (arith, few, count, same)

-- ---- an answer has the pointer's length and digest
upto_long : (cut : Cut) (len : ℕ) (columns : List (List ℕ)) (i : ℕ) → i ≤ cut.ndata
    → ((k : ℕ) → k < cut.parity + cut.ndata → length (column_at columns k) ≡ column_len cut len)
    → length (sectors_upto cut len columns i) ≡ sectors_before cut len i * cut.sector
unfolding sectors_upto sectors_before
upto_long cut len columns zero below long = omega arith
upto_long cut len columns (suc i) below long =
    let before = upto_long cut len columns i (omega arith) long in
    let column = long (cut.parity + i) (omega arith) in
    omega (
      arith,
      before,
      column,
      part_short cut len i,
      add-mul (sectors_before cut len i) (sectors_in cut len i) cut.sector,
      length-append (sectors_upto cut len columns i) (take (sectors_in cut len i * cut.sector) (column_at columns (cut.parity + i))),
      length-take (sectors_in cut len i * cut.sector) (column_at columns (cut.parity + i)),
    )

pub has_digest : (geometry : Geometry) (fetched : Fetched) (result : Result (Vec ℕ Global) SolveFault) → IsGeometry geometry
    → SolvesBlock (cut_of geometry) fetched result → AnswersDigest fetched result
has_digest geometry fetched (Ok bytes) g first =
    let cut : Cut = cut_of geometry in
    let new : List (List ℕ) = first.given.0 in
    let columns = first.given.1.solution.stripe.columns in
    let long = upto_long cut fetched.pointer.len new cut.ndata (omega arith) columns in
    let wide = room cut fetched.pointer.len g.spec.some_data (some_sector geometry g) in
    let is = ap length first.given.2 in
    record {
      len = omega (arith, is, long, wide, length-take fetched.pointer.len (sectors_upto cut fetched.pointer.len new cut.ndata));
      digest = first.given.3;
    }
has_digest geometry fetched (Err fault) g none = tt
