-- A record that says a table, its blocks ascending, lists each block once.
use Rattle.std.proofs.Common.{arith, ◌≡◌, ◌+◌, ◌<◌, ◌≤◌, ◌++◌, ◌||◌, ◌∙◌, ℕ, Bool, true, false, List, [], ◌∷◌, Option, Some, None, All, refl, sym, ap}
use Rattle.std.specs.Prelude.{⊤}
use Rattle.std.specs.List.{list_any}
use Rattle.std.proofs.lemmas.List.Elements.{All-head, All-tail}
use Rattle.draid_names.specs.declared.pointer.Pointer.{Pointer}
use Rattle.draid_machine.specs.declared.names.Held.{Held}
use Rattle.draid_machine.specs.declared.names.Key.{Key}
use Rattle.draid_machine.proofs.Small.{key_true}
use Rattle.draid_entries.specs.Listed.{AscendFrom, has_key, held_of}
use Rattle.draid_entries.specs.Live.{first_twice, twice_in}
use Rattle.draid_entries.specs.Maps.{key_of}
use Rattle.draid_entries.proofs.Made.{twice_later}

module _ (table : Key → Option Held) where
  abbrev Says : Pointer → Type 0
  Says b = table (key_of b) ≡ Some (held_of b)

  -- blocks of the table that begin below a stripe
  abbrev Below : ℕ → List Pointer → Type 0
  Below low [] = ⊤
  Below low (b ∷ bs) = Says b × (b.first < low) × Below low bs

  some_held : (g h : Held) (o : Option Held) → o ≡ Some g → o ≡ Some h → g ≡ h
  some_held g h o a b = (let both = sym a ∙ b in cc)

  no_key : (low : ℕ) (before : List Pointer) (b : Pointer) → Below low before → low ≤ b.first → Says b → list_any (has_key (key_of b)) before ≡ false
  no_key low [] b below over says = refl
  no_key low (c ∷ before) b below over says = neither (has_key (key_of b) c) (list_any (has_key (key_of b)) before) (other (has_key (key_of b) c) refl) (no_key low before b below.2 over says)
    where
      neither : (p q : Bool) → p ≡ false → q ≡ false → (p || q) ≡ false
      neither true q is none = absurd (cc)
      neither false q is none = none

      other : (t : Bool) → has_key (key_of b) c ≡ t → has_key (key_of b) c ≡ false
      other false is = is
      other true is =
          let key : key_of c ≡ key_of b = key_true (key_of c) (key_of b) is in
          let same : held_of c ≡ held_of b = some_held (held_of c) (held_of b) (table (key_of b)) (ap table (sym key) ∙ below.0) says in
          let first : c.first ≡ b.first = ap (λ (h : Held). h.first) same in
          let less = below.1 in
          absurd (omega (arith, first, less, over))

  -- more may begin below a later stripe
  below_more : (low next : ℕ) (before : List Pointer) → low ≤ next → Below low before → Below next before
  below_more low next [] over below = tt
  below_more low next (c ∷ before) over below = (below.0, (let less = below.1 in omega (arith, less, over)), below_more low next before over below.2)

  below_end : (low : ℕ) (before : List Pointer) (b : Pointer) → Below low before → Says b → b.first < low → Below low (before ++ b ∷ [])
  below_end low [] b below says less = (says, less, tt)
  below_end low (c ∷ before) b below says less = (below.0, below.1, below_end low before b below.2 says less)

  none_twice : (low : ℕ) (before bs : List Pointer) → Below low before → AscendFrom low bs → All Says bs → twice_in before bs ≡ None
  none_twice low before [] below ascends each = refl
  none_twice low before (b ∷ bs) below ascends each =
      let over = ascends.0 in
      let says : Says b = All-head Says b bs each in
      twice_later before b bs (no_key low before b below over says)
      ∙ none_twice (b.first + 1) (before ++ b ∷ []) bs (below_end (b.first + 1) before b (below_more low (b.first + 1) before (omega (arith, over)) below) says (omega arith)) ascends.1 (All-tail Says b bs each)

  pub lists_once : (bs : List Pointer) → AscendFrom 0 bs → All Says bs → first_twice bs ≡ None
  lists_once bs ascends each = none_twice 0 [] bs tt ascends each
