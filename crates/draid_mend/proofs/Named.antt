-- The arms from which columns were taken are there, and so are named.
use Rattle.std.proofs.Common.{◌≡◌, ◌+◌, ◌<◌, ◌++◌, ◌∷◌, ◌∙◌, [], ℕ, zero, suc, List, Option, Some, None, arith, refl, sym, ap, subst, inl, inr, length, slice_get}
use Rattle.std.specs.Prelude.{slice_index_or}
use Rattle.std.proofs.lemmas.Bool.{cases_eq}
use Rattle.draid_names.specs.declared.pointer.Pointer.{Pointer}
use Rattle.draid_rack.specs.Rack.{Told}
use Rattle.draid_slots.specs.Table.{SlotTable, IsThere}
use Rattle.draid_shard.specs.Part.{Part, layout_in}
use Rattle.draid_shard.specs.declared.loan.Source.{Source}
use Rattle.draid_shard.specs.declared.places.ColumnRows.{ColumnRows}
use Rattle.draid_mend.specs.Loans.{NamesSources, source_in}
use Rattle.draid_mend.specs.Reading.{Takes}
use Rattle.draid_mend.proofs.Read.{get_before, get_last}
use Rattle.draid_mend.specs.declared.reading.Taken.{Taken}
use Rattle.draid_mend.specs.declared.reading.Taken.TheVariants.{From}

index_push : {X : Type 0} (xs : List X) (x d : X) (k : ℕ) → k < length xs → slice_index_or (xs ++ x ∷ []) k d ≡ slice_index_or xs k d
index_push [] x d k less = absurd (omega (arith, less))
index_push (y ∷ ys) x d zero less = refl
index_push (y ∷ ys) x d (suc k) less = index_push ys x d k (omega (arith, less))

index_last : {X : Type 0} (xs : List X) (x d : X) → slice_index_or (xs ++ x ∷ []) (length xs) d ≡ x
index_last [] x d = refl
index_last (y ∷ ys) x d = index_last ys x d

pub length_push : {X : Type 0} (xs : List X) (x : X) → length (xs ++ x ∷ []) ≡ length xs + 1
length_push [] x = refl
length_push (y ∷ ys) x = let more = length_push ys x in omega (arith, more)

module _ (part : Part) (slots : SlotTable) (pointer : Pointer) (taken : List Taken) where
  pub names_none : (chosen : List (Option Source)) → chosen ≡ [] → NamesSources part slots pointer taken 0 chosen
  names_none chosen empty = record { many = ap length empty; each = λ c less. absurd (omega (arith, less)) }

  pub names_more : (count : ℕ) (chosen : List (Option Source)) (new : List (Option Source)) (source : Option Source) → NamesSources part slots pointer taken count chosen
      → new ≡ chosen ++ source ∷ [] → source ≡ source_in slots ((layout_in part).slot_of pointer.first count) (slice_get taken count) → NamesSources part slots pointer taken (count + 1) new
  names_more count chosen new source was is named =
      let many = was.many in
      subst (NamesSources part slots pointer taken (count + 1)) (sym is)
      (record {
        many = length_push chosen source ∙ ap (λ n. n + 1) many;
        each = λ c less. elim (cases_eq c count) [
          | inl same ↦ ap (λ k. slice_index_or (chosen ++ source ∷ []) k None) (same ∙ sym many) ∙ index_last chosen source None ∙ named ∙ ap (λ k. source_in slots ((layout_in part).slot_of pointer.first k) (slice_get taken k)) (sym same)
          | inr other ↦ index_push chosen source None c (omega (arith, less, other, many)) ∙ was.each c (omega (arith, less, other))
        ];
      })

-- one column more was taken, and named
pub names_next : (part : Part) (slots : SlotTable) (pointer : Pointer) (taken : List Taken) (count : ℕ) → length taken ≡ count → (chosen new : List (Option Source)) (source : Option Source) (now : Taken)
    → NamesSources part slots pointer taken count chosen → new ≡ chosen ++ source ∷ [] → source ≡ source_in slots ((layout_in part).slot_of pointer.first count) (Some now) → (longer : List Taken) → longer ≡ taken ++ now ∷ []
    → NamesSources part slots pointer longer (count + 1) new
names_next part slots pointer taken count many chosen new source now was is named longer longer_is =
    subst (λ ts. NamesSources part slots pointer ts (count + 1) new) (sym longer_is)
    (names_more part slots pointer (taken ++ now ∷ []) count chosen new source
    (record {
      many = was.many;
      each = λ c less. was.each c less ∙ ap (source_in slots ((layout_in part).slot_of pointer.first c)) (sym (get_before taken now c (omega (arith, less, many))));
    }) is (named ∙ ap (source_in slots ((layout_in part).slot_of pointer.first count)) (sym (get_last taken now count (sym many)))))

-- an arm from which a column was taken is there
pub taken_there : (slots : SlotTable) (rows : ColumnRows) (taken : Taken) (told : Option Told) (bytes : List ℕ) → Takes slots rows taken told bytes → (arm leaf : ℕ) → taken ≡ From arm leaf → IsThere slots (record { slot = rows.slot; arm = arm })
taken_there slots rows taken told bytes takes arm leaf is = (subst (λ t. Takes slots rows t told bytes) is takes).0.is.within
