-- The segments of a block, as they are listed.
use Rattle.std.proofs.Common.{◌≡◌, ◌+◌, ◌<◌, ◌≤◌, ◌⊎◌, ◌&&◌, ◌++◌, ℕ, true, List, [], ◌∷◌, Some, None, take, length, get_or, refl, sym, ◌∙◌, subst, arith, inl, inr}
use Rattle.std.proofs.lemmas.Bool.{true≢false, cases_eq}
use Rattle.std.proofs.lemmas.List.{take_all}
use Rattle.draid_machine.specs.declared.names.Key.{Key}
use Rattle.draid_machine.specs.declared.names.ArmName.{ArmName}
use Rattle.draid_machine.specs.declared.names.Held.{Held}
use Rattle.draid_machine.specs.declared.names.Segment.{Segment}
use Rattle.draid_machine.specs.Names.{has_segment, key_eq, name_eq}
use Rattle.draid_machine.specs.State.{Layout}
use Rattle.draid_machine.specs.Arms.{leaf_at}
use Rattle.draid_machine.specs.Claims.{is_on}
use Rattle.draid_machine.proofs.Small.{name_refl, none_some, some_injective, true_left, true_right}
use Rattle.draid_passes.proofs.Changes.{has_more}
use Rattle.draid_passes.proofs.Lists.{name_next}
use Rattle.draid_passes.specs.Blocks.{Adds, OnArm, OnColumn, OnNames}
use Rattle.draid_passes.proofs.Sets.{adds_more, adds_none, adds_push, adds_same, bool_same, on_parts, parts_on}

pub row_none : (l : Layout) (order : ℕ → List ArmName) (key : Key) (h : Held) (c : ℕ) (n : ArmName) (row : ℕ) (xs : List Segment) → leaf_at l order n (h.first + row) ≡ None
    → Adds (λ s. OnArm l order key h c n s × (s.row ≡ row)) xs xs
row_none l order key h c n row xs none =
    adds_none _ xs (λ s p. none_some (leaf_at l order n (h.first + row)) s.leaf none (subst (λ r. leaf_at l order n (h.first + r) ≡ Some s.leaf) p.1 p.0.lies))

pub row_some : (l : Layout) (order : ℕ → List ArmName) (key : Key) (h : Held) (c : ℕ) (n : ArmName) (row leaf : ℕ) (xs ys : List Segment) → leaf_at l order n (h.first + row) ≡ Some leaf → row < h.stripes
    → ys ≡ xs ++ record { key = key; column = c; arm = n; leaf = leaf; row = row } ∷ [] → Adds (λ s. OnArm l order key h c n s × (s.row ≡ row)) xs ys
row_some l order key h c n row leaf xs ys found less is =
    adds_push (λ s. OnArm l order key h c n s × (s.row ≡ row)) xs ys (record { key = key; column = c; arm = n; leaf = leaf; row = row }) is
    (record { key_is = refl; column_is = refl; arm_is = refl; row = less; lies = found }, refl) one
  where
    one : (s : Segment) → OnArm l order key h c n s × (s.row ≡ row) → record { key = key; column = c; arm = n; leaf = leaf; row = row } ≡ s
    one s p =
        let at = some_injective leaf s.leaf (sym found ∙ subst (λ r. leaf_at l order n (h.first + r) ≡ Some s.leaf) p.1 p.0.lies) in
        λ i. record { key = sym p.0.key_is i; column = sym p.0.column_is i; arm = sym p.0.arm_is i; leaf = at i; row = sym p.1 i }

-- numbers below one
pub bounded_none : (P : Segment → Type 0) (f : Segment → ℕ) (xs : List Segment) → Adds (λ s. P s × (f s < 0)) xs xs
bounded_none P f xs = adds_none _ xs (λ s p. let less = p.1 in absurd (omega (arith, less)))

pub bounded_more : (P : Segment → Type 0) (f : Segment → ℕ) (k : ℕ) (xs ys zs : List Segment) → Adds (λ s. P s × (f s < k)) xs ys → Adds (λ s. P s × (f s ≡ k)) ys zs
    → Adds (λ s. P s × (f s < k + 1)) xs zs
bounded_more P f k xs ys zs a b =
    adds_more (λ s. P s × (f s < k)) (λ s. P s × (f s ≡ k)) (λ s. P s × (f s < k + 1)) xs ys zs a b (λ s p. (p.0, wider (f s) p.1)) (λ s p. (p.0, here (f s) p.1)) split
  where
    wider : (x : ℕ) → x < k → x < k + 1
    wider x e = omega (arith, e)

    here : (x : ℕ) → x ≡ k → x < k + 1
    here x e = omega (arith, e)

    rest : (x : ℕ) → x < k + 1 → (x ≡ k → ⊥) → x < k
    rest x e other = omega (arith, e, other)

    split : (s : Segment) → P s × (f s < k + 1) → (P s × (f s < k)) ⊎ (P s × (f s ≡ k))
    split s p = elim (cases_eq (f s) k) [
      | inl at ↦ inr (p.0, at)
      | inr other ↦ inl (p.0, rest (f s) p.1 other)
    ]

pub rows_all : (l : Layout) (order : ℕ → List ArmName) (key : Key) (h : Held) (c : ℕ) (n : ArmName) (k : ℕ) (xs ys : List Segment) → h.stripes ≤ k
    → Adds (λ s. OnArm l order key h c n s × (s.row < k)) xs ys → Adds (OnArm l order key h c n) xs ys
rows_all l order key h c n k xs ys past a =
    adds_same (λ s. OnArm l order key h c n s × (s.row < k)) (OnArm l order key h c n) xs ys a (λ s p. p.0) (λ s p. (p, (let row = p.row in omega (arith, past, row))))

-- arms
pub names_none : (l : Layout) (order : ℕ → List ArmName) (key : Key) (h : Held) (c : ℕ) (xs : List Segment) → Adds (OnNames l order key h c []) xs xs
names_none l order key h c xs = adds_none (OnNames l order key h c []) xs (λ s p. true≢false (sym p.listed))

pub names_more : (l : Layout) (order : ℕ → List ArmName) (key : Key) (h : Held) (c : ℕ) (names : List ArmName) (at : ℕ) (d : ArmName) (xs ys zs : List Segment) → at < length names
    → Adds (OnNames l order key h c (take at names)) xs ys → Adds (OnArm l order key h c (get_or names at d)) ys zs → Adds (OnNames l order key h c (take (at + 1) names)) xs zs
names_more l order key h c names at d xs ys zs less a b =
    adds_more (OnNames l order key h c (take at names)) (OnArm l order key h c (get_or names at d)) (OnNames l order key h c (take (at + 1) names)) xs ys zs a b
    (λ s p. record { listed = has_more names at d s.arm less ∙ true_left _ _ p.listed; on = p.on }) here split
  where
    here : (s : Segment) → OnArm l order key h c (get_or names at d) s → OnNames l order key h c (take (at + 1) names) s
    here s p = record {
      listed = has_more names at d s.arm less ∙ true_right _ _ (subst (λ m. name_eq m s.arm ≡ true) p.arm_is (name_refl s.arm));
      on = subst (λ m. OnArm l order key h c m s) (sym p.arm_is) p;
    }

    split : (s : Segment) → OnNames l order key h c (take (at + 1) names) s → OnNames l order key h c (take at names) s ⊎ OnArm l order key h c (get_or names at d) s
    split s p = elim (name_next names at d s.arm less p.listed) [
      | inl old ↦ inl (record { listed = old; on = p.on })
      | inr new ↦ inr (subst (λ m. OnArm l order key h c m s) (sym new) p.on)
    ]

pub names_all : (l : Layout) (order : ℕ → List ArmName) (key : Key) (h : Held) (c : ℕ) (names : List ArmName) (at : ℕ) (xs ys : List Segment) → length names ≤ at
    → Adds (OnNames l order key h c (take at names)) xs ys → Adds (OnNames l order key h c names) xs ys
names_all l order key h c names at xs ys past a = subst (λ ns. Adds (OnNames l order key h c ns) xs ys) (take_all at names past) a

-- columns
pub column_more : (l : Layout) (order : ℕ → List ArmName) (key : Key) (h : Held) (k : ℕ) (xs ys zs : List Segment) → Adds (λ s. OnColumn l order key h s.column s × (s.column < k)) xs ys
    → Adds (OnColumn l order key h k) ys zs → Adds (λ s. OnColumn l order key h s.column s × (s.column < k + 1)) xs zs
column_more l order key h k xs ys zs a b =
    bounded_more (λ s. OnColumn l order key h s.column s) (λ s. s.column) k xs ys zs a
    (adds_same (OnColumn l order key h k) (λ s. OnColumn l order key h s.column s × (s.column ≡ k)) ys zs b
    (λ s p. (subst (λ c. OnColumn l order key h c s) (sym p.on.column_is) p, p.on.column_is)) (λ s p. subst (λ c. OnColumn l order key h c s) p.1 p.0))

pub segments_all : (l : Layout) (order : ℕ → List ArmName) (key : Key) (h : Held) (k : ℕ) (ys : List Segment) → l.columns ≤ k → k ≤ l.columns
    → Adds (λ s. OnColumn l order key h s.column s × (s.column < k)) [] ys → (s : Segment) → has_segment ys s ≡ (key_eq key s.key && is_on l order s h)
segments_all l order key h k ys past within a s = bool_same _ _ there back
  where
    there : has_segment ys s ≡ true → (key_eq key s.key && is_on l order s h) ≡ true
    there e = elim (a.sound s e) [
      | inl none ↦ absurd (true≢false (sym none))
      | inr p ↦ parts_on l order key h s (let less = p.1 in omega (arith, within, less)) p.0
    ]

    back : (key_eq key s.key && is_on l order s h) ≡ true → has_segment ys s ≡ true
    back e = let p = on_parts l order key h s e in a.complete s (p.1, (let less = p.0 in omega (arith, past, less)))
