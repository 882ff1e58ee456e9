-- The columns of a loan that are listed as missing are those without a source, and as many.
use Rattle.std.proofs.Common.{◌≡◌, ◌+◌, ◌<◌, ◌++◌, ◌∷◌, ◌∙◌, [], ℕ, zero, suc, Bool, true, false, List, Option, None, Some, arith, refl, sym, ap, subst, inl, inr, length, option_map, if◌then◌else◌}
use Rattle.std.specs.Prelude.{Contains, is_none, slice_index_or}
use Rattle.std.proofs.lemmas.Bool.{cases_eq}
use Rattle.std.proofs.lemmas.List.Elements.{Contains-append_left, Contains-push, Contains-push_cases}
use Rattle.draid_machine.specs.After.{unsourced}
use Rattle.draid_machine.specs.Names.{count_below}
use Rattle.draid_machine.specs.State as machine
use Rattle.draid_machine.proofs.Small.{absurd_test, none_some}
use Rattle.draid_shard.specs.Loans.{chosen_at, stripe_loan}
use Rattle.draid_shard.specs.declared.loan.LentStripe.{LentStripe}
use Rattle.draid_shard.specs.declared.loan.Source.{Source}
use Rattle.draid_mend.specs.Landing.{AreMissing}
use Rattle.draid_mend.specs.Missing.{missing_in, missing_of}
use Rattle.draid_mend.proofs.Named.{length_push}

nothing_named : (o : Option Source) → option_map (λ (s : Source). s.arm) o ≡ None → is_none o ≡ true
nothing_named None none = refl
nothing_named (Some s) none = absurd (none_some None s.arm refl (sym none))

named_nothing : (o : Option Source) → is_none o ≡ true → option_map (λ (s : Source). s.arm) o ≡ None
named_nothing None none = refl
named_nothing (Some s) none = absurd_test false none refl

same_none : (o : Option Source) → is_none (option_map (λ (s : Source). s.arm) o) ≡ is_none o
same_none None = refl
same_none (Some s) = refl

module _ (chosen : List (Option Source)) where
  abbrev at : ℕ → Option Source
  at c = slice_index_or chosen c None

  into : (n c : ℕ) (b : Bool) → is_none (at n) ≡ b → (c < n → is_none (at c) ≡ true → Contains (missing_in chosen n) c) → c < n + 1 → is_none (at c) ≡ true
      → Contains (if b then missing_in chosen n ++ n ∷ [] else missing_in chosen n) c
  into n c true is before less none = elim (cases_eq c n) [
    | inl same ↦ subst (Contains (missing_in chosen n ++ n ∷ [])) (sym same) (Contains-push (missing_in chosen n) n)
    | inr other ↦ Contains-append_left (missing_in chosen n) (n ∷ []) c (before (omega (arith, less, other)) none)
  ]
  into n c false is before less none = elim (cases_eq c n) [
    | inl same ↦ absurd_test (is_none (at n)) (subst (λ k. is_none (at k) ≡ true) same none) is
    | inr other ↦ before (omega (arith, less, other)) none
  ]

  contains_none : (n c : ℕ) → c < n → is_none (at c) ≡ true → Contains (missing_in chosen n) c
  contains_none zero c less none = absurd (omega (arith, less))
  contains_none (suc n) c less none = into n c (is_none (at n)) refl (contains_none n c) (omega (arith, less)) none

  out_of : (n c : ℕ) (b : Bool) → is_none (at n) ≡ b → (Contains (missing_in chosen n) c → is_none (at c) ≡ true) → Contains (if b then missing_in chosen n ++ n ∷ [] else missing_in chosen n) c → is_none (at c) ≡ true
  out_of n c true is before there = elim (Contains-push_cases (missing_in chosen n) n c there) [
    | inl among ↦ before among
    | inr same ↦ subst (λ k. is_none (at k) ≡ true) same is
  ]
  out_of n c false is before there = before there

  none_contained : (n c : ℕ) → Contains (missing_in chosen n) c → is_none (at c) ≡ true
  none_contained zero c there = absurd (let less = there.1 in omega (arith, less))
  none_contained (suc n) c there = out_of n c (is_none (at n)) refl (none_contained n c) there

  count_by : (n : ℕ) (b : Bool) → (if b then length (missing_in chosen n) + 1 else length (missing_in chosen n)) ≡ length (if b then missing_in chosen n ++ n ∷ [] else missing_in chosen n)
  count_by n true = sym (length_push (missing_in chosen n) n)
  count_by n false = refl

  many : (n : ℕ) → count_below n (λ c. is_none (chosen_at chosen c)) ≡ length (missing_in chosen n)
  many zero = refl
  many (suc n) =
      ap (λ (b : Bool). if b then count_below n (λ c. is_none (chosen_at chosen c)) + 1 else count_below n (λ c. is_none (chosen_at chosen c))) (same_none (at n))
      ∙ ap (λ (k : ℕ). if is_none (at n) then k + 1 else k) (many n) ∙ count_by n (is_none (at n))

module _ (l : machine.Layout) (kept : LentStripe) (columns : l.columns ≡ length kept.chosen.items) where
  pub are_missing : AreMissing l (stripe_loan kept) (missing_of kept)
  are_missing c less = (
    λ there. named_nothing (slice_index_or kept.chosen.items c None) (none_contained kept.chosen.items (length kept.chosen.items) c there),
    λ none. contains_none kept.chosen.items (length kept.chosen.items) c (omega (arith, less, columns)) (nothing_named (slice_index_or kept.chosen.items c None) none),
  )

  pub are_many : unsourced l (stripe_loan kept) ≡ length (missing_of kept)
  are_many = ap (λ n. count_below n (λ c. is_none (chosen_at kept.chosen.items c))) columns ∙ many kept.chosen.items (length kept.chosen.items)
