use Rattle.std.proofs.Common.{◌≡◌, ◌++◌, ◌<◌, ◌≤◌, ℕ, List, [], take, drop, slice_index_or, sym, ap, subst, ◌∙◌, arith}
use Rattle.std.proofs.Props.{props}
use Rattle.std.proofs.lemmas.List.{take-append-drop, ext_get_or}
use Rattle.draid_perm.specs.declared.perms.Perms.{Perms}
use Rattle.draid_perm.specs.Perms.{AreSeeded}
use Rattle.draid_perm.specs.Rows.{IsPermuted}

-- what a table of base rows says of itself
abbrev Facts : ℕ → List (List ℕ) → Type 0
Facts n rows = (2 ≤ n) × ((n ≤ 64) × ((row : ℕ) → row < 16 → IsPermuted n (slice_index_or rows row [])))

facts-prop : (n : ℕ) (rows : List (List ℕ)) → IsProp (Facts n rows)
facts-prop n rows = hlevel props

abbrev with_facts : (n : ℕ) (rows : List (List ℕ)) → Facts n rows → Perms
with_facts n rows f = record { n = n; rows = rows; least = f.0; most = f.1.0; permuted = f.1.1 }

-- two tables of the same rows
same_fields : (n m : ℕ) (rows others : List (List ℕ)) (f : Facts n rows) (g : Facts m others) → n ≡ m → rows ≡ others
    → with_facts n rows f ≡ with_facts m others g
same_fields n m rows others f g is are =
    let at_rows : (g : Facts n others) → with_facts n rows f ≡ with_facts n others g
    = subst (λ rs. (g : Facts n rs) → with_facts n rows f ≡ with_facts n rs g) are (λ g. ap (with_facts n rows) (facts-prop n rows f g)) in
    subst (λ k. (g : Facts k others) → with_facts n rows f ≡ with_facts k others g) is at_rows g

-- the number of children and the seed fix the permutations
pub same_perms : (a b : Perms) (n seed : ℕ) → AreSeeded a n seed → AreSeeded b n seed → a ≡ b
same_perms a b n seed s t =
    let rows : a.rows ≡ b.rows
    = ext_get_or [] a.rows b.rows (s.many ∙ sym t.many) (λ k within. same_row k (omega (arith, s.many))) in
    same_fields a.n b.n a.rows b.rows (a.least, (a.most, a.permuted)) (b.least, (b.most, b.permuted)) (s.children ∙ sym t.children) rows
  where
    same_row : (k : ℕ) → k < 16 → slice_index_or a.rows k [] ≡ slice_index_or b.rows k []
    same_row k below =
        let front : take n (slice_index_or a.rows k []) ≡ take n (slice_index_or b.rows k []) = s.rows k below ∙ sym (t.rows k below) in
        let back : drop n (slice_index_or a.rows k []) ≡ drop n (slice_index_or b.rows k []) = s.rest k below ∙ sym (t.rest k below) in
        sym (take-append-drop n (slice_index_or a.rows k []))
        ∙ (ap (λ xs. xs ++ drop n (slice_index_or a.rows k [])) front
        ∙ (ap (λ xs. take n (slice_index_or b.rows k []) ++ xs) back
        ∙ take-append-drop n (slice_index_or b.rows k [])))
