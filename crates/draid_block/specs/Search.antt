-- The search for the set of missing columns, step by step.
use Rattle.std.specs.Prelude.{◌≡◌, ◌≤◌, ◌<◌, ◌+◌, ◌-◌, ℕ, List, All, length, take, Option, Some, None, Result, Ok, Err, slice_get}
use Rattle.std.specs.List.Sorted.{IsStrictlyIncreasing}
use Rattle.std.specs.declared.vec.Vec.{Vec}
use Rattle.std.specs.declared.alloc.AllocError.{AllocError}
use Rattle.std.specs.declared.alloc.Global.{Global}
use Rattle.sha2.specs.Hashers.{Holds256}
use Rattle.draid_parity.specs.Columns.{StripeValue, column_at}
use Rattle.draid_block.specs.Columns.{Cut}
use Rattle.draid_spec.specs.Geometry.{IsGeometry}
use Rattle.draid_block.specs.Blocks.{cut_of, sectors_upto, stripe_of}
use Rattle.draid_block.specs.Order.{IsTried, covering, sets_after, sets_below}
use Rattle.draid_block.specs.Solving.{FailsOf, GivesOf, IsFetched, IsFirst, IsRestored, absent_columns, read_of}
use Rattle.draid_block.specs.declared.front.Front.{Front}
use Rattle.draid_block.specs.declared.search.Attempts.{Attempts}
use Rattle.draid_block.specs.declared.search.Search.{Search}
use Rattle.draid_block.specs.declared.solve.Fetched.{Fetched}

-- how the block that is searched is cut
abbrev pub cut_in : Search → Cut
cut_in search = cut_of search.geometry.now

-- what was read is of a block over this geometry, and these columns of it are absent
pub record IsSearch (search : Search) : Type 0 where
  pub layout : IsGeometry search.geometry.now
  pub read : IsFetched (cut_in search) search.fetched.now
  pub absent_is : search.absent.now ≡ absent_columns search.fetched.now.columns.items

-- A stripe has what was read of each column but of these, whose bytes may be others.
pub record IsHeld (cut : Cut) (len : ℕ) (columns : List (Option (Vec ℕ Global))) (except : ℕ → Type 0) (s : StripeValue) : Type 0 where
  pub shape : s ≡ stripe_of cut len s.columns
  pub count : length s.columns ≡ cut.parity + cut.ndata
  pub held : (i : ℕ) (c : Vec ℕ Global) → slice_get columns i ≡ Some (Some c) → (except i → ⊥) → column_at s.columns i ≡ c.items

-- each column that was read stands in the stripe
abbrev pub HoldsAll : Cut → Fetched → StripeValue → Type 0
HoldsAll cut fetched s = IsHeld cut fetched.pointer.len fetched.columns.items (λ i. ⊥) s

-- The hasher has the sectors of so many data columns of these, in order.
pub record IsFront (cut : Cut) (len : ℕ) (columns : List (List ℕ)) (front : Front) : Type 0 where
  pub within : front.count ≤ cut.ndata
  pub holds : Holds256 front.hasher (take len (sectors_upto cut len columns front.count))
  pub rest : front.left + length (take len (sectors_upto cut len columns front.count)) ≡ len

-- the hasher has what was read of the first data columns
abbrev pub HasRead : Cut → Fetched → Front → Type 0
HasRead cut fetched front = IsFront cut fetched.pointer.len (read_of fetched.columns.items) front

-- the stripe has columns of the block's length, and these are what the set restores
pub record HasRestored (cut : Cut) (fetched : Fetched) (set : List ℕ) (s : StripeValue) : Type 0 where
  pub shape : s ≡ stripe_of cut fetched.pointer.len s.columns
  pub restored : IsRestored cut fetched.pointer.len (read_of fetched.columns.items) set s.columns

-- sets may be tried: the stripe has what was read, and so has the hasher
pub record IsReady (cut : Cut) (fetched : Fetched) (attempts : Attempts) : Type 0 where
  pub holds : HoldsAll cut fetched attempts.stripe
  pub has : HasRead cut fetched attempts.front

-- what trying one set answers: bytes, or nothing where it fails, and further sets may then be tried
abbrev pub TriesSet : Cut → Fetched → List ℕ → Attempts → Result (Option (Vec ℕ Global)) AllocError → Type 0
TriesSet cut fetched set attempts (Ok (Some bytes)) = GivesOf cut fetched bytes.items set
TriesSet cut fetched set attempts (Ok None) = IsReady cut fetched attempts × FailsOf cut fetched set
TriesSet cut fetched set attempts (Err e) = Unit {0}

-- a set of missing columns that may be tried
abbrev pub IsCandidate : Cut → Fetched → List ℕ → Type 0
IsCandidate cut fetched set = IsTried cut.parity (cut.parity + cut.ndata) (absent_columns fetched.columns.items) set

-- none of these sets has an answer, and they are counted; further ones may be tried
pub record NoneOf (cut : Cut) (fetched : Fetched) (sets : List (List ℕ)) (attempts : Attempts) (before after : ℕ) : Type 0 where
  pub ready : IsReady cut fetched attempts
  pub failed : All (FailsOf cut fetched) sets
  pub counted : after ≡ before + length sets

-- what trying these sets in order answers: the bytes of the first that has the digest, or nothing
abbrev pub TriesSets : Cut → Fetched → List (List ℕ) → Attempts → ℕ → ℕ → Result (Option (Vec ℕ Global)) AllocError → Type 0
TriesSets cut fetched sets attempts before after (Ok (Some bytes)) = IsFirst (GivesOf cut fetched bytes.items) (FailsOf cut fetched) sets
TriesSets cut fetched sets attempts before after (Ok None) = NoneOf cut fetched sets attempts before after
TriesSets cut fetched sets attempts before after (Err e) = Unit {0}

-- none of the sets that were tried so far, counted from the first one, has an answer
abbrev pub NoneYet : Cut → Fetched → List (List ℕ) → Attempts → Type 0
NoneYet cut fetched sets attempts = NoneOf cut fetched sets attempts 0 attempts.tried

-- the sets that begin so and have so many more columns from this one on, of those that have all absent ones
abbrev pub sets_on : Cut → List ℕ → List ℕ → ℕ → ℕ → List (List ℕ)
sets_on cut absent begun size first = covering absent (sets_after begun size first (cut.parity + cut.ndata - first))

-- the first members of a set of which so many more follow, from this column on
pub record IsBegun (cut : Cut) (begun : List ℕ) (size first : ℕ) : Type 0 where
  pub few : length begun + size ≤ cut.parity
  pub ascending : IsStrictlyIncreasing begun
  pub below : All (λ i. i < first) begun
  pub in_range : first ≤ cut.parity + cut.ndata

-- the sets of size 0 that are tried: the empty one, where no column is absent
abbrev pub first_sets : Cut → Fetched → List (List ℕ)
first_sets cut fetched = covering (absent_columns fetched.columns.items) (sets_below 1 (cut.parity + cut.ndata))

-- what trying the columns as they were read answers
abbrev pub TriesRead : Cut → Fetched → Result (Option (Vec ℕ Global)) AllocError → Type 0
TriesRead cut fetched (Ok (Some bytes)) = IsFirst (GivesOf cut fetched bytes.items) (FailsOf cut fetched) (first_sets cut fetched)
TriesRead cut fetched (Ok None) = All (FailsOf cut fetched) (first_sets cut fetched)
TriesRead cut fetched (Err e) = Unit {0}
