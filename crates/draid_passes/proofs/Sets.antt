-- Lists of segments that grow, and those of a block.
use Rattle.std.proofs.Common.{◌≡◌, ◌==◌, ◌+◌, ◌<◌, ◌⊎◌, ◌&&◌, ◌++◌, ℕ, Bool, true, false, List, [], ◌∷◌, Option, Some, None, refl, sym, ◌∙◌, ap, subst, arith, inl, inr}
use Rattle.std.proofs.lemmas.Bool.{true≢false}
use Rattle.std.proofs.lemmas.Bool.Decides.{nat_tests}
use Rattle.draid_machine.specs.declared.names.Key.{Key}
use Rattle.draid_machine.specs.declared.names.ArmName.{ArmName}
use Rattle.draid_machine.specs.declared.names.Held.{Held}
use Rattle.draid_machine.specs.declared.names.Segment.{Segment}
use Rattle.draid_machine.specs.Names.{key_eq, segment_eq, has_segment}
use Rattle.draid_machine.specs.State.{Layout}
use Rattle.draid_machine.specs.Arms.{leaf_at, passes}
use Rattle.draid_machine.specs.Claims.{is_on}
use Rattle.draid_machine.proofs.Small.{both_true, either_true, is_below, is_equal, below, key_refl, key_true, true_both, true_left, true_right}
use Rattle.draid_world.proofs.SegmentLists.{or_false, segment_refl, segment_true, segments_append}
use Rattle.draid_passes.specs.Blocks.{Adds, OnColumn}

-- ---- lists that grow
pub adds_none : (P : Segment → Type 0) (xs : List Segment) → ((s : Segment) → P s → ⊥) → Adds P xs xs
adds_none P xs none = record { sound = λ s e. inl e; kept = λ s e. e; complete = λ s p. absurd (none s p) }

pub adds_push : (P : Segment → Type 0) (xs ys : List Segment) (t : Segment) → ys ≡ xs ++ t ∷ [] → P t → ((s : Segment) → P s → t ≡ s) → Adds P xs ys
adds_push P xs ys t is here one = subst (Adds P xs) (sym is) (record {
  sound = λ s e. elim (either_true (has_segment xs s) (has_segment (t ∷ []) s) (sym (segments_append xs (t ∷ []) s) ∙ e)) [
    | inl old ↦ inl old
    | inr new ↦ inr (subst P (segment_true t s (sym (or_false (segment_eq t s)) ∙ new)) here)
  ];
  kept = λ s e. segments_append xs (t ∷ []) s ∙ true_left _ _ e;
  complete = λ s p. segments_append xs (t ∷ []) s ∙ true_right _ _ (or_false (segment_eq t s) ∙ subst (λ x. segment_eq t x ≡ true) (one s p) (segment_refl t));
})

pub adds_more : (P Q R : Segment → Type 0) (xs ys zs : List Segment) → Adds P xs ys → Adds Q ys zs → ((s : Segment) → P s → R s) → ((s : Segment) → Q s → R s) → ((s : Segment) → R s → P s ⊎ Q s) → Adds R xs zs
adds_more P Q R xs ys zs a b f g h = record {
  sound = λ s e. elim (b.sound s e) [
    | inl mid ↦ elim (a.sound s mid) [ inl old ↦ inl old | inr p ↦ inr (f s p) ]
    | inr q ↦ inr (g s q)
  ];
  kept = λ s e. b.kept s (a.kept s e);
  complete = λ s r. elim (h s r) [ inl p ↦ b.kept s (a.complete s p) | inr q ↦ b.complete s q ];
}

pub adds_same : (P R : Segment → Type 0) (xs ys : List Segment) → Adds P xs ys → ((s : Segment) → P s → R s) → ((s : Segment) → R s → P s) → Adds R xs ys
adds_same P R xs ys a f g = record {
  sound = λ s e. elim (a.sound s e) [ inl old ↦ inl old | inr p ↦ inr (f s p) ];
  kept = a.kept;
  complete = λ s r. a.complete s (g s r);
}

-- two tests that follow from one another
pub bool_same : (a b : Bool) → (a ≡ true → b ≡ true) → (b ≡ true → a ≡ true) → a ≡ b
bool_same true true f g = refl
bool_same true false f g = sym (f refl)
bool_same false true f g = g refl
bool_same false false f g = refl

-- ---- a block's segments
pub on_parts : (l : Layout) (order : ℕ → List ArmName) (key : Key) (h : Held) (s : Segment) → (key_eq key s.key && is_on l order s h) ≡ true → (s.column < l.columns) × OnColumn l order key h s.column s
on_parts l order key h s e =
    let a = both_true _ _ e in
    let b = both_true _ _ a.1 in
    let c = both_true _ _ b.0 in
    let d = both_true _ _ c.0 in (
      is_below s.column l.columns d.1,
      record {
        listed = d.0;
        on = record { key_is = sym (key_true key s.key a.0); column_is = refl; arm_is = refl; row = is_below s.row h.stripes c.1; lies = found (leaf_at l order s.arm (h.first + s.row)) b.1 };
      },
    )
  where
    found : (o : Option ℕ) → passes o (λ m. m == s.leaf) ≡ true → o ≡ Some s.leaf
    found None v = absurd (true≢false (sym v))
    found (Some m) v = ap Some (is_equal m s.leaf v)

pub parts_on : (l : Layout) (order : ℕ → List ArmName) (key : Key) (h : Held) (s : Segment) → s.column < l.columns → OnColumn l order key h s.column s → (key_eq key s.key && is_on l order s h) ≡ true
parts_on l order key h s column on =
    true_both _ _ (subst (λ k. key_eq key k ≡ true) (sym on.on.key_is) (key_refl key))
    (true_both _ _ (true_both _ _ (true_both _ _ on.listed (below s.column l.columns column)) (below s.row h.stripes on.on.row)) (ap (λ o. passes o (λ m. m == s.leaf)) on.on.lies ∙ same s.leaf))
  where
    same : (x : ℕ) → (x == x) ≡ true
    same x = grind (arith, nat_tests)
