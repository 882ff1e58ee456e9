-- The sets of missing columns that are tried, in their order.
use Rattle.std.specs.Prelude.{◌≡◌, ◌<◌, ◌≤◌, ◌⊎◌, ℕ, Bool, zero, suc, ◌+◌, List, [], ◌∷◌, ◌++◌, All, Contains, length, map, filter, slice_index, take}
use Rattle.std.specs.List.{list_all}
use Rattle.std.specs.List.Sorted.{IsStrictlyIncreasing}
use Rattle.draid_parity.specs.Columns.{is_missing}

-- the sets of so many of the n columns from this one on, each ascending, in lexicographic order
unfoldable pub sets_from : ℕ → ℕ → ℕ → List (List ℕ)
sets_from zero first n = [] ∷ []
sets_from (suc size) first zero = []
sets_from (suc size) first (suc n) =
    map (λ set. first ∷ set) (sets_from size (first + 1) n) ++ sets_from (suc size) (first + 1) n

-- the sets of fewer than so many of n columns, by size, and those of one size in lexicographic order
unfoldable pub sets_below : ℕ → ℕ → List (List ℕ)
sets_below zero n = []
sets_below (suc size) n = sets_below size n ++ sets_from size 0 n

-- the set has all columns that are absent
abbrev pub covers : List ℕ → List ℕ → Bool
covers absent set = list_all (λ i. is_missing set i) absent

-- of the sets of n columns that have all absent ones and at most as many members as there are parity columns: by size, then lexicographic
abbrev pub solve_order : ℕ → ℕ → List ℕ → List (List ℕ)
solve_order parity n absent = filter (λ set. covers absent set) (sets_below (suc parity) n)

-- a set that is tried: some of the n columns, ascending, at most as many as there are parity columns, with all that are absent
pub record IsTried (parity n : ℕ) (missing set : List ℕ) : Type 0 where
  pub few : length set ≤ parity
  pub ascending : IsStrictlyIncreasing set
  pub in_range : All (λ i. i < n) set
  pub absent : (i : ℕ) → Contains missing i → Contains set i

-- the first member in which two sets differ is smaller in the one
pub record IsLexBefore (a b : List ℕ) : Type 0 where
  pub at : ℕ
  pub within : at < length a
  pub same : take at a ≡ take at b
  pub less : slice_index a at < slice_index b at

-- the order of sets: by size, then lexicographic
abbrev pub Precedes : List ℕ → List ℕ → Type 0
Precedes a b = (length a < length b) ⊎ ((length a ≡ length b) × IsLexBefore a b)

-- those of these sets that have all absent columns
abbrev pub covering : List ℕ → List (List ℕ) → List (List ℕ)
covering absent sets = filter (λ set. covers absent set) sets

-- the sets that begin so, and have so many more of the n columns from this one on
abbrev pub sets_after : List ℕ → ℕ → ℕ → ℕ → List (List ℕ)
sets_after begun size first n = map (λ more. begun ++ more) (sets_from size first n)
