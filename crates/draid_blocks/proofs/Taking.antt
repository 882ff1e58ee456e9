-- Columns that come one behind another, and a buffer that was written from end to end.
use Rattle.std.proofs.Common.{◌≡◌, ◌<◌, ◌++◌, [], ◌∷◌, ◌∙◌, ℕ, zero, suc, List, Option, Some, Vec, Global, arith, refl, sym, ap, subst, inl, inr, drop, length, slice_get, take}
use Rattle.std.proofs.lemmas.Bool.{cases_lt}
use Rattle.std.proofs.lemmas.List.{append-nil, drop_all, length-append, take_all}
use Rattle.draid_rack.specs.Rack.{Told}
use Rattle.draid_slots.specs.Table.{SlotTable}
use Rattle.std.proofs.Math.ListN.{length-set, set}
use Rattle.draid_blocks.specs.Reads.{AreWhole, Columns, ReadsOn, Replaces}
use Rattle.draid_blocks.specs.declared.outcome.Outcome.{Outcome}
use Rattle.draid_shard.specs.declared.places.ColumnRows.{ColumnRows}

pub whole : (n : ℕ) (x items : List ℕ) → length x ≡ length items → length items ≡ n → take n (x ++ drop (length x) items) ≡ x
whole n x items same long = ap (λ d. take n (x ++ d)) (drop_all (length x) items (omega (arith, same))) ∙ ap (λ y. take n y) (append-nil x) ∙ take_all n x (omega (arith, same, long))

get_front : {A : Type 0} (xs : List A) (y : A) (k : ℕ) → k < length xs → slice_get (xs ++ y ∷ []) k ≡ slice_get xs k
get_front [] y k less = absurd (omega (arith, less))
get_front (x ∷ xs) y zero less = refl
get_front (x ∷ xs) y (suc k) less = get_front xs y k (omega (arith, less))

get_end : {A : Type 0} (xs : List A) (y : A) → slice_get (xs ++ y ∷ []) (length xs) ≡ Some y
get_end [] y = refl
get_end (x ∷ xs) y = get_end xs y

-- one column more is whole
whole_more : (columns : Columns) (bytes : Vec ℕ Global) (len : ℕ) → AreWhole columns len → length bytes.items ≡ len → AreWhole (columns ++ Some bytes ∷ []) len
whole_more columns bytes len whole long c less = elim (cases_lt c (length columns)) [
  | inl lower ↦ (let z = whole c lower in (z.0, get_front columns (Some bytes) c lower ∙ z.1, z.2))
  | inr past ↦ (let e : c ≡ length columns = omega (arith, past, less, length-append columns (Some bytes ∷ [])) in
      (bytes, ap (slice_get (columns ++ Some bytes ∷ [])) e ∙ get_end columns (Some bytes), long))
]

pub whole_pushed : (new columns : Columns) (bytes : Vec ℕ Global) (len : ℕ) → new ≡ columns ++ Some bytes ∷ [] → AreWhole columns len → length bytes.items ≡ len → AreWhole new len
whole_pushed new columns bytes len is whole long = subst (λ columns. AreWhole columns len) (sym is) (whole_more columns bytes len whole long)

-- what was read into such a buffer
pub reads_buffer : (slots : SlotTable) (rows : ColumnRows) (outcome : Outcome) (told : Option Told) (n : ℕ) (x items : List ℕ) → length x ≡ length items → length items ≡ n
    → ReadsOn slots rows outcome told x → ReadsOn slots rows outcome told (take n (x ++ drop (length x) items))
reads_buffer slots rows outcome told n x items same long reads = subst (ReadsOn slots rows outcome told) (sym (whole n x items same long)) reads

-- ---- one place

set_here : {A : Type 0} (xs : List A) (k : ℕ) (x y : A) → slice_get xs k ≡ Some x → slice_get (set xs k y) k ≡ Some y
set_here [] k x y there = absurd (cc)
set_here (z ∷ xs) zero x y there = refl
set_here (z ∷ xs) (suc k) x y there = set_here xs k x y there

set_there : {A : Type 0} (xs : List A) (k j : ℕ) (y : A) → (j ≡ k → ⊥) → slice_get (set xs k y) j ≡ slice_get xs j
set_there [] k j y other = refl
set_there (z ∷ xs) zero zero y other = absurd (other refl)
set_there (z ∷ xs) zero (suc j) y other = refl
set_there (z ∷ xs) (suc k) zero y other = refl
set_there (z ∷ xs) (suc k) (suc j) y other = set_there xs k j y (λ same. other (ap suc same))

-- another column was put into its place
pub replaced : (columns : Columns) (c : ℕ) (was column : Option (Vec ℕ Global)) → slice_get columns c ≡ Some was → Replaces columns (set columns c column) c column
replaced columns c was column there = record { all = length-set columns c column; here = set_here columns c was column there; others = λ k other. set_there columns c k column other }
