-- A column of a block is bad only where its slot isn't whole, or that on whose disk a spare keeps it; and no slot costs a block two columns.
use Rattle.std.proofs.Common.{◌≡◌, ◌∙◌, ◌+◌, ◌<◌, ◌⊎◌, ◌&&◌, ◌||◌, not, ℕ, zero, suc, arith, Bool, true, false, List, [], ◌∷◌, Option, Some, None, inl, inr, refl, sym, ap, subst, if◌then◌else◌}
use Rattle.std.specs.Prelude.{⊤, find}
use Rattle.std.proofs.lemmas.Bool.{true≢false}
use Rattle.draid_names.specs.Spares.{AreUsed, IsArm}
use Rattle.draid_spec.specs.declared.layout.Geometry.{Geometry}
use Rattle.draid_perm.specs.declared.perms.Perms.{Perms}
use Rattle.draid_map.specs.Place.{IsLayout}
use Rattle.draid_machine.specs.Arms.{HasEmptyLog, answers, else_some, fails, first_leaf, first_spare, first_spares, has_column, is_clean, is_silent, leaf_answers, leaf_at, lies_on, logged, passes, reading}
use Rattle.draid_machine.specs.Created.{IsReached}
use Rattle.draid_machine.specs.Images.{Owned}
use Rattle.draid_machine.specs.Names.{any_below, has_name, has_number, name_eq}
use Rattle.draid_machine.specs.State as machine
use Rattle.draid_machine.specs.declared.names.ArmName.{ArmName}
use Rattle.draid_machine.specs.declared.names.ArmName.TheVariants.{Leaf, Spare}
use Rattle.draid_machine.specs.declared.names.Held.{Held}
use Rattle.draid_machine.specs.declared.names.Key.{Key}
use Rattle.draid_machine.specs.declared.names.Segment.{Segment}
use Rattle.draid_machine.proofs.Losing.{every_segment, spare_listed}
use Rattle.draid_machine.proofs.Small.{absurd_test, below, either_true, name_true, none_some, not_false, true_both}
use Rattle.draid_layouts.specs.Layout.{layout_of}
use Rattle.draid_layouts.proofs.Layouts.{layout_is}
use Rattle.draid_segments.specs.Reads.{IsAbsent, IsBad, IsHurt, IsUnread, LacksClean}
use Rattle.draid_session.specs.Bearing.{AreWholeBut, HasOneOf, IsUp}
use Rattle.draid_session.proofs.Fewer.{Has, to_has}
use Rattle.draid_session.proofs.Homes.{home_alone, home_free, homes_apart, slots_apart}

-- ---- lists of arms

-- of a list with an arm that passes a test, the first that does is found
found : (p : ArmName → Bool) (ns : List ArmName) (n : ArmName) → has_name ns n ≡ true → p n ≡ true → (k : ArmName) × (find p ns ≡ Some k)
found p [] n at is = absurd (true≢false (sym at))
found p (m ∷ ns) n at is = by (λ there. found p ns n there is) (p m) refl
  where
    by : (has_name ns n ≡ true → (k : ArmName) × (find p ns ≡ Some k)) → (b : Bool) → p m ≡ b → (k : ArmName) × (find p (m ∷ ns) ≡ Some k)
    by next true e = (m, ap (λ b. if b then Some m else find p ns) e)
    by next false e = elim (either_true (name_eq m n) (has_name ns n) at) [
      | inl here ↦ absurd (absurd_test (p m) (subst (λ k. p k ≡ true) (sym (name_true m n here)) is) e)
      | inr there ↦ (let rest = next there in (rest.0, ap (λ b. if b then Some m else find p ns) e ∙ rest.1))
    ]

-- of a spare each disk answers on which it keeps a column
abbrev pub HomesUpBy : machine.Layout → (ℕ → List ArmName) → (ℕ → Bool) → ArmName → Type 0
HomesUpBy l order answers (Leaf m) = ⊤
HomesUpBy l order answers (Spare t) =
    (x : ℕ) → x < l.stripes → any_below l.columns (λ c. has_name (order (l.slot_of x c)) (Spare t)) ≡ true → passes (first_leaf (order (l.home (first_spares order) t x))) answers ≡ true

abbrev pub HomesUp : machine.Layout → machine.Core → ArmName → Type 0
HomesUp l q n = HomesUpBy l q.order (leaf_answers q) n

-- a spare keeps no column on a slot's disk
abbrev pub IsClear : machine.Layout → (ℕ → List ArmName) → ℕ → ArmName → Type 0
IsClear l order b (Leaf m) = ⊤
IsClear l order b (Spare t) = (x : ℕ) → x < l.stripes → any_below l.columns (λ c. has_name (order (l.slot_of x c)) (Spare t)) ≡ true → l.home (first_spares order) t x ≡ b → ⊥

-- no leaf is among none
pub none_fails : (o : Option ℕ) → passes o (has_number []) ≡ false
none_fails None = refl
none_fails (Some leaf) = refl

module _ (geometry : Geometry) (perms : Perms) (metaslab : ℕ) (lay : IsLayout geometry perms) (w : machine.State) (reached : IsReached (layout_of geometry perms metaslab) w) where
  pub owned : Owned (layout_of geometry perms metaslab) w
  owned = every_segment (layout_of geometry perms metaslab) w (layout_is geometry perms metaslab lay) reached

  abbrev first : ℕ → Option ℕ
  first = first_spares w.core.order

  spare_fits : (slot t : ℕ) → has_name (w.core.order slot) (Spare t) ≡ true → t < geometry.spec.spares
  spare_fits slot t at = let z = owned.listed.data_of slot (Spare t) at in (owned.spares t z.0 z.1).0

  pub used : AreUsed geometry.spec.children geometry.spec.spares first
  used = record {
    below = λ slot t less e. spare_fits slot t (spare_listed (w.core.order slot) t e);
    apart = λ a b t x y e f. owned.listed.one a b (Spare t) (spare_listed (w.core.order a) t e) (spare_listed (w.core.order b) t f);
  }

  pub arm_is : (slot t : ℕ) → slot < geometry.spec.children → has_name (w.core.order slot) (Spare t) ≡ true → IsArm geometry.spec.children geometry.spec.spares first slot t
  arm_is slot t less at = record {
    slot_is = less;
    spare_is = spare_fits slot t at;
    only = λ other there e. owned.listed.one other slot (Spare t) (spare_listed (w.core.order other) t e) at;
  }

  module _ (x : ℕ) where
    abbrev slot_at : ℕ → ℕ
    slot_at c = (layout_of geometry perms metaslab).slot_of x c

    pub slot_below : (c : ℕ) → c < geometry.g → slot_at c < geometry.spec.children
    slot_below c inside = (layout_is geometry perms metaslab lay).slots x c inside

    -- ---- what a column costs

    -- a column is its slot's, or that of the slot on which a spare of it lies
    abbrev pub IsOf : ℕ → ℕ → Type 0
    IsOf c slot = (slot_at c ≡ slot) ⊎ ((t : ℕ) × (has_name (w.core.order (slot_at c)) (Spare t) ≡ true) × ((layout_of geometry perms metaslab).home first t x ≡ slot))

    abbrev pub Costs : ℕ → ℕ → Type 0
    Costs c slot = (c < geometry.g) × IsOf c slot

    abbrev pub CostsLeaf : ℕ → ℕ → Type 0
    CostsLeaf c leaf = (slot : ℕ) × Costs c slot × (has_name (w.core.order slot) (Leaf leaf) ≡ true)

    pub one_column : (c d slot : ℕ) → Costs c slot → Costs d slot → c ≡ d
    one_column c d slot (inside, inl is) (other, inl same) = slots_apart geometry perms metaslab lay x c d inside other (is ∙ sym same)
    one_column c d slot (inside, inl is) (other, inr (t, at, home)) = absurd (home_alone geometry perms metaslab lay first x d c t used.below (spare_fits (slot_at d) t at) (home ∙ sym is))
    one_column c d slot (inside, inr (t, at, home)) (other, inl same) = absurd (home_alone geometry perms metaslab lay first x c d t used.below (spare_fits (slot_at c) t at) (home ∙ sym same))
    one_column c d slot (inside, inr (t, at, home)) (other, inr (u, there, end)) =
        let same : t ≡ u = homes_apart geometry perms metaslab lay first x c d t u used (arm_is (slot_at c) t (slot_below c inside) at) (arm_is (slot_at d) u (slot_below d other) there) (home ∙ sym end) in
        slots_apart geometry perms metaslab lay x c d inside other
        (owned.listed.one (slot_at c) (slot_at d) (Spare t) at (subst (λ k. has_name (w.core.order (slot_at d)) (Spare k) ≡ true) (sym same) there))

    pub one_leaf : (c d leaf : ℕ) → CostsLeaf c leaf → CostsLeaf d leaf → c ≡ d
    one_leaf c d leaf (slot, costs, at) (other, too, there) =
        one_column c d slot costs (subst (Costs d) (owned.listed.one other slot (Leaf leaf) there at) too)

  -- ---- bad columns

  module _ (slots leaves : List ℕ) (whole : AreWholeBut geometry.spec.children slots leaves w.core) (harm : ℕ → ℕ → Bool) (calm : (leaf sector : ℕ) → harm leaf sector ≡ false)
      (sure : (s : Segment) → w.aside s ≡ false) (key : Key) (h : Held) where
    module _ (c : ℕ) (bad : IsBad (layout_of geometry perms metaslab) w harm key h [] c) where
      abbrev slot : ℕ
      slot = (layout_of geometry perms metaslab).slot_of h.first c

      abbrev is_good : ArmName → Bool
      is_good n = answers (layout_of geometry perms metaslab) w.core n h.first && is_clean w.core h.birth n

      abbrev is_there : ArmName → Bool
      is_there n = answers (layout_of geometry perms metaslab) w.core n h.first

      -- no arm of the slot answers that has missed nothing
      none_good : (n : ArmName) → has_name (w.core.order slot) n ≡ true → is_there n ≡ true → HasEmptyLog w.core n → ⊥
      none_good n listed answering empty = by bad.why
        where
          good : (k : ArmName) × (find is_good (w.core.order slot) ≡ Some k)
          good = found is_good (w.core.order slot) n listed (true_both (is_there n) (is_clean w.core h.birth n) answering (not_false (logged (w.core.arm n) h.birth) (empty h.birth)))

          reads : reading (layout_of geometry perms metaslab) w.core h c ≡ Some good.0
          reads = ap (λ o. else_some o (find is_there (w.core.order slot))) good.1

          by : IsAbsent (layout_of geometry perms metaslab) w.core h [] c ⊎ (LacksClean (layout_of geometry perms metaslab) w.core h c ⊎ IsHurt (layout_of geometry perms metaslab) w harm key h c) → ⊥
          by (inl absent) =
              let unread : fails (layout_of geometry perms metaslab) w.core [] good.0 h.first ≡ true = subst (IsUnread (layout_of geometry perms metaslab) w.core h []) reads absent in
              absurd_test (fails (layout_of geometry perms metaslab) w.core [] good.0 h.first) unread (none_fails (leaf_at (layout_of geometry perms metaslab) w.core.order good.0 h.first))
          by (inr (inl lacks)) = none_some (find is_good (w.core.order slot)) good.0 lacks good.1
          by (inr (inr hurt)) = elim hurt.bad [
            | inl harmed ↦ absurd_test (harm hurt.leaf ((layout_of geometry perms metaslab).sector_of (h.first + hurt.row) c)) harmed (calm hurt.leaf ((layout_of geometry perms metaslab).sector_of (h.first + hurt.row) c))
            | inr aside ↦ absurd (true≢false (sym aside ∙ sure (record { key = key; column = c; arm = hurt.n; leaf = hurt.leaf; row = hurt.row })))
          ]

      abbrev pub Item : Type 0
      Item = ((s : ℕ) × Has slots s × Costs h.first c s) ⊎ ((m : ℕ) × Has leaves m × CostsLeaf h.first c m)

      by_leaf : (s : ℕ) → Costs h.first c s → HasOneOf leaves w.core s → Item
      by_leaf s costs (m, at, listed) = inr (m, to_has leaves m at, (s, costs, listed))

      -- a spare's column: the slot on which it lies isn't whole
      by_home : (t : ℕ) → has_name (w.core.order slot) (Spare t) ≡ true → HasEmptyLog w.core (Spare t) → Item
      by_home t listed empty =
          let home : ℕ = (layout_of geometry perms metaslab).home first t h.first in
          let costs : Costs h.first c home = (bad.inside, inr (t, listed, refl)) in
          elim (whole home ((layout_is geometry perms metaslab lay).homes first h.first t)) [
            | inl at ↦ inl (home, to_has slots home at, costs)
            | inr (inr one) ↦ by_leaf home costs one
            | inr (inl stands) ↦ (
                let free : first home ≡ None = home_free geometry perms metaslab lay first h.first c t used (arm_is slot t (slot_below h.first c bad.inside) listed) in
                let up : passes (first_leaf (w.core.order home)) (leaf_answers w.core) ≡ true = stands.first free in
                let there : is_there (Spare t) ≡ true = ap (λ b. passes (if b then first_leaf (w.core.order home) else None) (leaf_answers w.core)) (below t geometry.spec.spares (spare_fits slot t listed)) ∙ up in
                absurd (none_good (Spare t) listed there empty))
          ]

      by_arm : (n : ArmName) → has_name (w.core.order slot) n ≡ true → IsUp w.core n → HasEmptyLog w.core n → Item
      by_arm (Leaf m) listed up empty = absurd (none_good (Leaf m) listed up empty)
      by_arm (Spare t) listed up empty = by_home t listed empty

      pub bad_costs : Item
      bad_costs = elim (whole slot (slot_below h.first c bad.inside)) [
        | inl at ↦ inl (slot, to_has slots slot at, (bad.inside, inl refl))
        | inr (inl stands) ↦ by_arm stands.n stands.listed stands.up stands.empty
        | inr (inr one) ↦ by_leaf slot (bad.inside, inl refl) one
      ]

  -- ---- arms that lie on disks that answer

  -- each slot without a spare has a first disk that answers
  abbrev pub FirstsUp : Type 0
  FirstsUp = (slot : ℕ) → slot < geometry.spec.children → first_spare (w.core.order slot) ≡ None → passes (first_leaf (w.core.order slot)) (leaf_answers w.core) ≡ true

  none_in : (k : ℕ) (f : ℕ → Bool) → ((x : ℕ) → f x ≡ false) → any_below k f ≡ false
  none_in zero f none = refl
  none_in (suc k) f none = by (any_below k f) (f k) (none_in k f none) (none k)
    where
      by : (a b : Bool) → a ≡ false → b ≡ false → (a || b) ≡ false
      by a b first_ second = rw first_ second

  one_in : (k : ℕ) (f : ℕ → Bool) → any_below k f ≡ true → (c : ℕ) × (c < k) × (f c ≡ true)
  one_in zero f is = absurd (true≢false (sym is))
  one_in (suc k) f is = elim (either_true (any_below k f) (f k) is) [
    | inl before ↦ (let z = one_in k f before in (z.0, (let low = z.1 in omega (arith, low)), z.2))
    | inr last ↦ (k, omega arith, last)
  ]

  not_silent : (leaf : ℕ) → leaf_answers w.core leaf ≡ true → is_silent w.core [] leaf ≡ false
  not_silent leaf up = by (leaf_answers w.core leaf) up
    where
      by : (b : Bool) → b ≡ true → (not b || false) ≡ false
      by b is = rw is refl

  none_silent : (o : Option ℕ) → passes o (leaf_answers w.core) ≡ true → passes o (is_silent w.core []) ≡ false
  none_silent None up = refl
  none_silent (Some leaf) up = not_silent leaf up

  pub lies_well : FirstsUp → (slot : ℕ) (n : ArmName) → has_name (w.core.order slot) n ≡ true → IsUp w.core n → lies_on (layout_of geometry perms metaslab) w.core (is_silent w.core []) n ≡ false
  lies_well firsts there (Leaf leaf) listed up = not_silent leaf up
  lies_well firsts there (Spare t) listed up =
      none_in (layout_of geometry perms metaslab).stripes (λ x. has_column (layout_of geometry perms metaslab) w.core (Spare t) x && passes (leaf_at (layout_of geometry perms metaslab) w.core.order (Spare t) x) (is_silent w.core [])) one
    where
      at_home : (x : ℕ) → has_column (layout_of geometry perms metaslab) w.core (Spare t) x ≡ true → passes (leaf_at (layout_of geometry perms metaslab) w.core.order (Spare t) x) (is_silent w.core []) ≡ false
      at_home x column =
          let c = one_in geometry.g (λ c. has_name (w.core.order ((layout_of geometry perms metaslab).slot_of x c)) (Spare t)) column in
          let home : ℕ = (layout_of geometry perms metaslab).home first t x in
          let free : first home ≡ None = home_free geometry perms metaslab lay first x c.0 t used (arm_is (slot_at x c.0) t (slot_below x c.0 c.1) c.2) in
          let up_ = firsts home ((layout_is geometry perms metaslab lay).homes first x t) free in
          ap (λ b. passes (if b then first_leaf (w.core.order home) else None) (is_silent w.core [])) (below t geometry.spec.spares (spare_fits there t listed)) ∙ none_silent (first_leaf (w.core.order home)) up_

      one : (x : ℕ) → (has_column (layout_of geometry perms metaslab) w.core (Spare t) x && passes (leaf_at (layout_of geometry perms metaslab) w.core.order (Spare t) x) (is_silent w.core [])) ≡ false
      one x = by (has_column (layout_of geometry perms metaslab) w.core (Spare t) x) refl
        where
          by : (b : Bool) → has_column (layout_of geometry perms metaslab) w.core (Spare t) x ≡ b → (b && passes (leaf_at (layout_of geometry perms metaslab) w.core.order (Spare t) x) (is_silent w.core [])) ≡ false
          by false is = refl
          by true is = at_home x is

  -- ---- where spares lie

  -- of a spare that keeps a column there: whose home it is
  pub record AtHome (t x : ℕ) : Type 0 where
    pub c : ℕ
    pub inside : c < geometry.g
    pub listed : has_name (w.core.order ((layout_of geometry perms metaslab).slot_of x c)) (Spare t) ≡ true
    pub free : first ((layout_of geometry perms metaslab).home first t x) ≡ None

  pub at_home_is : (t x : ℕ) → any_below geometry.g (λ c. has_name (w.core.order ((layout_of geometry perms metaslab).slot_of x c)) (Spare t)) ≡ true → AtHome t x
  at_home_is t x column =
      let c = one_in geometry.g (λ c. has_name (w.core.order ((layout_of geometry perms metaslab).slot_of x c)) (Spare t)) column in
      record { c = c.0; inside = c.1; listed = c.2; free = home_free geometry perms metaslab lay first x c.0 t used (arm_is (slot_at x c.0) t (slot_below x c.0 c.1) c.2) }

  pub homes_up : FirstsUp → (n : ArmName) → HomesUp (layout_of geometry perms metaslab) w.core n
  homes_up firsts (Leaf m) = tt
  homes_up firsts (Spare t) = λ x inside column. firsts ((layout_of geometry perms metaslab).home first t x) ((layout_is geometry perms metaslab lay).homes first x t) (at_home_is t x column).free

  -- so where this is so of each slot but one, on which it doesn't lie
  pub homes_but : (b : ℕ) → ((slot : ℕ) → slot < geometry.spec.children → (slot ≡ b → ⊥) → first_spare (w.core.order slot) ≡ None → passes (first_leaf (w.core.order slot)) (leaf_answers w.core) ≡ true)
      → (n : ArmName) → IsClear (layout_of geometry perms metaslab) w.core.order b n → HomesUp (layout_of geometry perms metaslab) w.core n
  homes_but b firsts (Leaf m) clear = tt
  homes_but b firsts (Spare t) clear =
      λ x inside column. firsts ((layout_of geometry perms metaslab).home first t x) ((layout_is geometry perms metaslab lay).homes first x t) (clear x inside column) (at_home_is t x column).free
