-- A table is dealt out entry by entry, and put back so.
use Rattle.std.proofs.Common.{◌≡◌, ◌∙◌, ◌++◌, ◌⊎◌, ◌↔◌, inl, inr, ℕ, List, [], ◌∷◌, Bool, true, false, Option, Some, None, refl, sym, ap, if◌then◌else◌, cond, not, arith, nat_eq}
use Rattle.std.proofs.lemmas.Bool.{eq-eqb, eqb-true, true≢false}
use Rattle.std.proofs.lemmas.List.Elements.{Contains-append_cases, Contains-append_right, Contains-append_left, Contains-push, Contains-push_cases}
use Rattle.std.proofs.lemmas.Map.Entries.{lookup-filter-keys}
use Rattle.std.specs.List.{Contains, filter, list_any}
use Rattle.std.specs.Map.{lookup}
use Rattle.draid_names.specs.declared.pointer.Pointer.{Pointer}
use Rattle.draid_turn.specs.Numbers.{holds, in_span}
use Rattle.draid_turn.specs.declared.span.Span.{Span}
use Rattle.draid_tables.specs.Tables.{HoldsWithin, IsDealt, TakesBack}
use Rattle.draid_tables.proofs.Spans.{any_holds}

none_some : {A : Type 0} (x : A) → None ≡ Some x → ⊥
none_some x same = true≢false (sym (ap (λ o. match_some o) same))
  where
    match_some : {A : Type 0} → Option A → Bool
    match_some None = false
    match_some (Some y) = true

module _ (numbers : List Span) (table : ℕ → Option Pointer) where
  -- what was dealt is of the table, and held; what is held of the table was dealt, or is yet to come
  pub record Deals (dealt : ℕ → Option Pointer) (rest : List (ℕ × Pointer)) : Type 0 where
    pub there : (o : ℕ) (p : Pointer) → Contains rest (o, p) → table o ≡ Some p
    pub sound : (o : ℕ) (p : Pointer) → dealt o ≡ Some p → (table o ≡ Some p) × (holds o numbers ≡ true)
    pub comes : (o : ℕ) (p : Pointer) → table o ≡ Some p → holds o numbers ≡ true → (dealt o ≡ Some p) ⊎ Contains rest (o, p)

  pub deals_none : (dealt : ℕ → Option Pointer) (rest : List (ℕ × Pointer)) → ((o : ℕ) → dealt o ≡ None) → ((o : ℕ) (p : Pointer) → (table o ≡ Some p) ↔ Contains rest (o, p)) → Deals dealt rest
  deals_none dealt rest empty is = record {
    there = λ o p among. (is o p).1 among;
    sound = λ o p some. absurd (none_some p (sym (empty o) ∙ some));
    comes = λ o p at held. inr ((is o p).0 at);
  }

  module _ (dealt : ℕ → Option Pointer) (k : ℕ) (v : Pointer) (rest : List (ℕ × Pointer)) (d : Deals dealt ((k, v) ∷ rest)) where
    pub is_first : table k ≡ Some v
    is_first = d.there k v (Contains-append_left ((k, v) ∷ []) rest (k, v) (Contains-push [] (k, v)))

    -- an entry that comes is the first, or one of the others
    comes_next : (o : ℕ) (p : Pointer) → Contains ((k, v) ∷ rest) (o, p) → (◌≡◌ {A = ℕ × Pointer} (k, v) (o, p)) ⊎ Contains rest (o, p)
    comes_next o p among = go (Contains-append_cases ((k, v) ∷ []) rest (o, p) among)
      where
        one : Contains {X = ℕ × Pointer} ([] ++ (k, v) ∷ []) (o, p) → ◌≡◌ {A = ℕ × Pointer} (k, v) (o, p)
        one among = first (Contains-push_cases [] (k, v) (o, p) among)
          where
            first : Contains {X = ℕ × Pointer} [] (o, p) ⊎ (◌≡◌ {A = ℕ × Pointer} (k, v) (o, p)) → ◌≡◌ {A = ℕ × Pointer} (k, v) (o, p)
            first (inl none) = let below = none.1 in absurd (omega (arith, below))
            first (inr same) = same

        go : Contains {X = ℕ × Pointer} ((k, v) ∷ []) (o, p) ⊎ Contains rest (o, p) → (◌≡◌ {A = ℕ × Pointer} (k, v) (o, p)) ⊎ Contains rest (o, p)
        go (inl among) = inl (one among)
        go (inr among) = inr among

    pub deals_more : holds k numbers ≡ true → (next : ℕ → Option Pointer) → ((o : ℕ) → next o ≡ cond (nat_eq k o) (Some v) (dealt o)) → Deals next rest
    deals_more held next is = record {
      there = λ o p among. d.there o p (Contains-append_right ((k, v) ∷ []) rest (o, p) among);
      sound = λ o p some. sound o p (nat_eq k o) refl (sym (is o) ∙ some);
      comes = λ o p at held'. comes o p at (nat_eq k o) refl (d.comes o p at held');
    }
      where
        sound : (o : ℕ) (p : Pointer) (b : Bool) → nat_eq k o ≡ b → cond b (Some v) (dealt o) ≡ Some p → (table o ≡ Some p) × (holds o numbers ≡ true)
        sound o p true same some = (ap table (sym (eqb-true k o same)) ∙ is_first ∙ some, ap (λ n. holds n numbers) (sym (eqb-true k o same)) ∙ held)
        sound o p false other some = d.sound o p some

        comes : (o : ℕ) (p : Pointer) → table o ≡ Some p → (b : Bool) → nat_eq k o ≡ b → (dealt o ≡ Some p) ⊎ Contains ((k, v) ∷ rest) (o, p) → (next o ≡ Some p) ⊎ Contains rest (o, p)
        comes o p at true same either = inl (is o ∙ ap (λ b. cond b (Some v) (dealt o)) same ∙ sym is_first ∙ ap table (eqb-true k o same) ∙ at)
        comes o p at false other (inl was) = inl (is o ∙ ap (λ b. cond b (Some v) (dealt o)) other ∙ was)
        comes o p at false other (inr among) = last (comes_next o p among)
          where
            last : (◌≡◌ {A = ℕ × Pointer} (k, v) (o, p)) ⊎ Contains rest (o, p) → (next o ≡ Some p) ⊎ Contains rest (o, p)
            last (inl same) = absurd (true≢false (sym (eq-eqb k o (ap (λ e. e.0) same)) ∙ other))
            last (inr among) = inr among

    pub deals_skip : holds k numbers ≡ false → Deals dealt rest
    deals_skip not = record {
      there = λ o p among. d.there o p (Contains-append_right ((k, v) ∷ []) rest (o, p) among);
      sound = d.sound;
      comes = λ o p at held. comes o p held (d.comes o p at held);
    }
      where
        comes : (o : ℕ) (p : Pointer) → holds o numbers ≡ true → (dealt o ≡ Some p) ⊎ Contains ((k, v) ∷ rest) (o, p) → (dealt o ≡ Some p) ⊎ Contains rest (o, p)
        comes o p held (inl was) = inl was
        comes o p held (inr among) = last (comes_next o p among)
          where
            last : (◌≡◌ {A = ℕ × Pointer} (k, v) (o, p)) ⊎ Contains rest (o, p) → (dealt o ≡ Some p) ⊎ Contains rest (o, p)
            last (inl same) = absurd (true≢false (sym held ∙ ap (λ n. holds n numbers) (sym (ap (λ e. e.0) same)) ∙ not))
            last (inr among) = inr among

  pub deals_all : (dealt : ℕ → Option Pointer) → Deals dealt [] → IsDealt numbers table dealt
  deals_all dealt d o = go (holds o numbers) refl (table o) refl (dealt o) refl
    where
      go : (b : Bool) → holds o numbers ≡ b → (t : Option Pointer) → table o ≡ t → (x : Option Pointer) → dealt o ≡ x → dealt o ≡ (if b then table o else None)
      go true held None none None is = is ∙ sym none
      go true held None none (Some p) is = absurd (none_some p (sym none ∙ (d.sound o p is).0))
      go true held (Some p) at x is = last (d.comes o p at held)
        where
          last : (dealt o ≡ Some p) ⊎ Contains {X = ℕ × Pointer} [] (o, p) → dealt o ≡ table o
          last (inl was) = was ∙ sym at
          last (inr none) = let below = none.1 in absurd (omega (arith, below))
      go false not t at None is = is
      go false not t at (Some p) is = absurd (true≢false (sym (d.sound o p is).1 ∙ not))

-- ---- put back

-- what was kept has no object whose number is held
pub left_out : (numbers : List Span) (es kept : List (ℕ × Pointer)) → kept ≡ filter (λ e. not (list_any (in_span e.0) numbers)) es → (o : ℕ) → lookup (nat_eq o) kept ≡ (if holds o numbers then None else lookup (nat_eq o) es)
left_out numbers es kept is o =
    ap (lookup (nat_eq o)) is ∙ lookup-filter-keys (nat_eq o) (λ k. not (list_any (in_span k) numbers)) (not (holds o numbers))
    (λ k same. ap not (any_holds k numbers ∙ ap (λ n. holds n numbers) (sym (eqb-true o k same)))) es ∙ turned (holds o numbers)
  where
    turned : (b : Bool) → cond (not b) (lookup (nat_eq o) es) None ≡ (if b then None else lookup (nat_eq o) es)
    turned true = refl
    turned false = refl

abbrev pub held_of : List Span → (ℕ → Option Pointer) → ℕ → Option Pointer
held_of numbers table o = if holds o numbers then table o else None

module _ (numbers : List Span) (dealt old : ℕ → Option Pointer) where
  -- of the objects whose numbers are held those have come back that are dealt out and not yet to come; the others have what they had
  pub record Puts (new : ℕ → Option Pointer) (rest : List (ℕ × Pointer)) : Type 0 where
    pub deals : Deals numbers dealt (held_of numbers new) rest
    pub others : (o : ℕ) → holds o numbers ≡ false → new o ≡ old o

  pub puts_none : (new : ℕ → Option Pointer) (rest : List (ℕ × Pointer)) → ((o : ℕ) → new o ≡ (if holds o numbers then None else old o)) → ((o : ℕ) (p : Pointer) → (dealt o ≡ Some p) ↔ Contains rest (o, p)) → Puts new rest
  puts_none new rest kept is = record {
    deals = deals_none numbers dealt (held_of numbers new) rest (λ o. none o (holds o numbers) refl) is;
    others = λ o not_held. kept o ∙ ap (λ b. if b then None else old o) not_held;
  }
    where
      none : (o : ℕ) (b : Bool) → holds o numbers ≡ b → (if b then new o else None) ≡ None
      none o true held = kept o ∙ ap (λ b. if b then None else old o) held
      none o false held = refl

  pub puts_more : (new next : ℕ → Option Pointer) (k : ℕ) (v : Pointer) (rest : List (ℕ × Pointer)) → HoldsWithin numbers dealt → ((o : ℕ) → next o ≡ cond (nat_eq k o) (Some v) (new o)) → Puts new ((k, v) ∷ rest) → Puts next rest
  puts_more new next k v rest within is p = record {
    deals = deals_more numbers dealt (held_of numbers new) k v rest p.deals held (held_of numbers next) (λ o. both o (nat_eq k o) refl (holds o numbers) refl);
    others = λ o not_held. other o not_held (nat_eq k o) refl;
  }
    where
      held : holds k numbers ≡ true
      held = within k v (is_first numbers dealt (held_of numbers new) k v rest p.deals)

      both : (o : ℕ) (c : Bool) → nat_eq k o ≡ c → (b : Bool) → holds o numbers ≡ b → (if b then next o else None) ≡ cond c (Some v) (if b then new o else None)
      both o true same true of = is o ∙ ap (λ c. cond c (Some v) (new o)) same
      both o true same false of = absurd (true≢false (sym held ∙ (ap (λ n. holds n numbers) (eqb-true k o same) ∙ of)))
      both o false apart true of = is o ∙ ap (λ c. cond c (Some v) (new o)) apart
      both o false apart false of = refl

      other : (o : ℕ) → holds o numbers ≡ false → (c : Bool) → nat_eq k o ≡ c → next o ≡ old o
      other o not_held true same = absurd (true≢false (sym held ∙ (ap (λ n. holds n numbers) (eqb-true k o same) ∙ not_held)))
      other o not_held false apart = is o ∙ (ap (λ c. cond c (Some v) (new o)) apart ∙ p.others o not_held)

  pub puts_all : (new : ℕ → Option Pointer) → Puts new [] → TakesBack numbers dealt old new
  puts_all new p o = go (holds o numbers) refl (deals_all numbers dealt (held_of numbers new) p.deals o)
    where
      go : (b : Bool) → holds o numbers ≡ b → (if holds o numbers then new o else None) ≡ (if holds o numbers then dealt o else None) → new o ≡ (if b then dealt o else old o)
      go true held all = sym (ap (λ b. if b then new o else None) held) ∙ (all ∙ ap (λ b. if b then dealt o else None) held)
      go false not_held all = p.others o not_held
