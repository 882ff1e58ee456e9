-- The answer for the columns that were read of a block.
use Rattle.std.specs.Prelude.{◌≡◌, ◌≤◌, ◌<◌, ◌+◌, ℕ, zero, suc, List, [], ◌∷◌, ◌++◌, All, Contains, length, map, Option, Some, None, Result, Ok, Err, is_none, slice_get, slice_index_or, option_map, unwrap_or, if◌then◌else◌, slice_index}
use Rattle.std.specs.List.Sorted.{IsStrictlyIncreasing}
use Rattle.std.specs.declared.vec.Vec.{Vec}
use Rattle.std.specs.declared.alloc.Global.{Global}
use Rattle.draid_names.specs.declared.numbers.TheConstants.{LONGEST_BLOCK}
use Rattle.sha2.specs.Sha256.{sha256}
use Rattle.draid_gf.specs.Field.{IsByte}
use Rattle.draid_parity.specs.Columns.{IsSolution, column_at}
use Rattle.draid_block.specs.Columns.{Cut, stripes_of}
use Rattle.draid_block.specs.Blocks.{AreColumns, BlockValue, IsContent, bytes_of, column_len, stripe_of}
use Rattle.draid_block.specs.Order.{solve_order}
use Rattle.draid_block.specs.declared.solve.Fetched.{Fetched}
use Rattle.draid_block.specs.declared.solve.SolveFault.{SolveFault}
use Rattle.draid_block.specs.declared.solve.SolveFault.TheVariants.{Unreadable, NoMemory}

-- what was read of each column, nothing where it is absent
abbrev pub read_of : List (Option (Vec ℕ Global)) → List (List ℕ)
read_of columns = map (λ column. unwrap_or (option_map (λ (c : Vec ℕ Global). c.items) column) []) columns

-- the columns below this one that are absent, in order
unfoldable pub absent_below : List (Option (Vec ℕ Global)) → ℕ → List ℕ
absent_below columns zero = []
absent_below columns (suc i) = absent_below columns i ++ (if is_none (slice_index_or columns i None) then i ∷ [] else [])

abbrev pub absent_columns : List (Option (Vec ℕ Global)) → List ℕ
absent_columns columns = absent_below columns (length columns)

-- the columns are as many and as long as the geometry and the pointer say, and the pointer's numbers fit
pub record IsFetched (cut : Cut) (fetched : Fetched) : Type 0 where
  pub count : length fetched.columns.items ≡ cut.parity + cut.ndata
  pub some : 1 ≤ fetched.pointer.len
  pub short : fetched.pointer.len ≤ LONGEST_BLOCK
  pub stripes : fetched.pointer.stripes ≡ stripes_of cut fetched.pointer.len
  pub long : (i : ℕ) (c : Vec ℕ Global) → slice_get fetched.columns.items i ≡ Some (Some c) → length c.items ≡ column_len cut fetched.pointer.len

-- The columns that are restored where the columns of this set are taken to be missing: the others stay as they were read, the missing data columns
-- solve the parity sums, and the missing parity columns are encoded. No other columns do so.
pub record IsRestored (cut : Cut) (len : ℕ) (read : List (List ℕ)) (set : List ℕ) (new : List (List ℕ)) : Type 0 where
  pub solution : IsSolution set (stripe_of cut len read) new
  pub only : (other : List (List ℕ)) → IsSolution set (stripe_of cut len read) other → new ≡ other

-- what this set restores has the digest, and it is these bytes
abbrev pub Gives : Cut → ℕ → List ℕ → List (List ℕ) → List ℕ → List ℕ → Type 0
Gives cut len digest read bytes set =
    (new : List (List ℕ)) × IsRestored cut len read set new × (bytes ≡ bytes_of cut len new) × (sha256 bytes ≡ digest)

-- what this set restores doesn't have the digest
abbrev pub Fails : Cut → ℕ → List ℕ → List (List ℕ) → List ℕ → Type 0
Fails cut len digest read set =
    (new : List (List ℕ)) × IsRestored cut len read set new × (sha256 (bytes_of cut len new) ≡ digest → ⊥)

-- the first of the sets that gives these bytes: those before it fail
pub record IsFirst (gives fails : List ℕ → Type 0) (sets : List (List ℕ)) : Type 0 where
  pub before : List (List ℕ)
  pub set : List ℕ
  pub after : List (List ℕ)
  pub order : sets ≡ before ++ set ∷ after
  pub failed : All fails before
  pub given : gives set

-- the sets that are tried for what was read
abbrev pub sets_of : Cut → Fetched → List (List ℕ)
sets_of cut fetched = solve_order cut.parity (cut.parity + cut.ndata) (absent_columns fetched.columns.items)

abbrev pub GivesOf : Cut → Fetched → List ℕ → List ℕ → Type 0
GivesOf cut fetched bytes set = Gives cut fetched.pointer.len fetched.pointer.digest (read_of fetched.columns.items) bytes set

abbrev pub FailsOf : Cut → Fetched → List ℕ → Type 0
FailsOf cut fetched set = Fails cut fetched.pointer.len fetched.pointer.digest (read_of fetched.columns.items) set

-- no set has an answer
pub record HasNoAnswer (cut : Cut) (fetched : Fetched) (absent tried : ℕ) : Type 0 where
  pub absent_is : absent ≡ length (absent_columns fetched.columns.items)
  pub tried_is : tried ≡ length (sets_of cut fetched)
  pub failed : All (FailsOf cut fetched) (sets_of cut fetched)

-- the answer: the bytes of the first set in the order of solving whose restored bytes have the digest
abbrev pub SolvesBlock : Cut → Fetched → Result (Vec ℕ Global) SolveFault → Type 0
SolvesBlock cut fetched (Ok bytes) = IsFirst (GivesOf cut fetched bytes.items) (FailsOf cut fetched) (sets_of cut fetched)
SolvesBlock cut fetched (Err (Unreadable absent tried)) = HasNoAnswer cut fetched absent tried
SolvesBlock cut fetched (Err NoMemory) = Unit {0}

-- Of a content w of the pointer, all columns that were read are those of w but the columns of this set, which has at most as many members as there are parity columns.
pub record IsReadable (cut : Cut) (fetched : Fetched) (w : List ℕ) (bad : List ℕ) : Type 0 where
  pub content : IsContent fetched.pointer w
  pub whole : List (List ℕ)
  pub columns : AreColumns cut w whole
  pub few : length bad ≤ cut.parity
  pub ascending : IsStrictlyIncreasing bad
  pub in_range : All (λ i. i < cut.parity + cut.ndata) bad
  pub good : (i : ℕ) → i < cut.parity + cut.ndata → (Contains bad i → ⊥)
      → (c : Vec ℕ Global) × (slice_get fetched.columns.items i ≡ Some (Some c)) × (c.items ≡ column_at whole i)

-- bytes have the pointer's length and digest
pub record HasDigest (fetched : Fetched) (bytes : List ℕ) : Type 0 where
  pub len : length bytes ≡ fetched.pointer.len
  pub digest : sha256 bytes ≡ fetched.pointer.digest

-- an answer has the pointer's length and digest, whatever the columns hold
abbrev pub AnswersDigest : Fetched → Result (Vec ℕ Global) SolveFault → Type 0
AnswersDigest fetched (Ok bytes) = HasDigest fetched bytes.items
AnswersDigest fetched (Err fault) = Unit {0}

-- a block whose bytes are the answer
pub record IsRestoredOf (cut : Cut) (fetched : Fetched) (block : BlockValue) : Type 0 where
  pub cut_is : block.cut ≡ cut
  pub first : IsFirst (GivesOf cut fetched block.bytes) (FailsOf cut fetched) (sets_of cut fetched)
  pub digest : HasDigest fetched block.bytes
  pub bytes : (j : ℕ) → IsByte (slice_index block.bytes j)
  pub columns : AreColumns block.cut block.bytes block.columns

-- the block that has the answer, or none
abbrev pub RestoresBlock : Cut → Fetched → Result BlockValue SolveFault → Type 0
RestoresBlock cut fetched (Ok block) = IsRestoredOf cut fetched block
RestoresBlock cut fetched (Err (Unreadable absent tried)) = HasNoAnswer cut fetched absent tried
RestoresBlock cut fetched (Err NoMemory) = Unit {0}

-- the answer isn't that the block is unreadable
abbrev pub IsAnswered : Result (Vec ℕ Global) SolveFault → Type 0
IsAnswered (Ok bytes) = Unit {0}
IsAnswered (Err (Unreadable absent tried)) = ⊥
IsAnswered (Err NoMemory) = Unit {0}

-- Two answers are the same: the same bytes, or unreadable with the same numbers. Want of memory says nothing.
abbrev pub IsSameAnswer : Result (Vec ℕ Global) SolveFault → Result (Vec ℕ Global) SolveFault → Type 0
IsSameAnswer (Ok bytes) (Ok others) = bytes.items ≡ others.items
IsSameAnswer (Ok bytes) (Err (Unreadable absent tried)) = ⊥
IsSameAnswer (Ok bytes) (Err NoMemory) = Unit {0}
IsSameAnswer (Err (Unreadable absent tried)) (Ok bytes) = ⊥
IsSameAnswer (Err (Unreadable absent tried)) (Err (Unreadable absents tries)) = (absent ≡ absents) × (tried ≡ tries)
IsSameAnswer (Err (Unreadable absent tried)) (Err NoMemory) = Unit {0}
IsSameAnswer (Err NoMemory) result = Unit {0}
