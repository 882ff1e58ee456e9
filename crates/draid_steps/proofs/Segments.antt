-- The segments of a column.
use Rattle.std.proofs.Common.{◌≡◌, ◌==◌, ◌+◌, ◌&&◌, ◌||◌, ℕ, Bool, true, false, List, Some, refl, sym, ◌∙◌, ap, arith}
use Rattle.std.proofs.lemmas.Bool.Decides.{nat_tests}
use Rattle.draid_machine.specs.declared.names.Key.{Key}
use Rattle.draid_machine.specs.declared.names.ArmName.{ArmName}
use Rattle.draid_machine.specs.declared.names.Held.{Held}
use Rattle.draid_machine.specs.declared.names.Segment.{Segment}
use Rattle.draid_machine.specs.Names.{key_eq, name_eq, segment_eq}
use Rattle.draid_machine.specs.State.{Layout}
use Rattle.draid_machine.specs.Arms.{leaf_at, lies, passes}
use Rattle.draid_steps.specs.Columns.{is_in_row}

-- ---- a row of a column on an arm
pub in_row : (l : Layout) (order : ℕ → List ArmName) (k : Key) (h : Held) (c : ℕ) (n : ArmName) (leaf row : ℕ) (s : Segment) (b : Bool) → Some leaf ≡ leaf_at l order n (h.first + row)
    → (segment_eq (record { key = k; column = c; arm = n; leaf = leaf; row = row }) s || b) ≡ (b || is_in_row l order k h c n row s)
in_row l order k h c n leaf row s b is = by (s.row == row) refl
  where
    same : (s.row == row) ≡ true → lies l order n (h.first + s.row) s.leaf ≡ (leaf == s.leaf)
    same e = let at : s.row ≡ row = grind (arith, nat_tests) in ap (λ r. passes (leaf_at l order n (h.first + r)) (λ m. m == s.leaf)) at ∙ ap (λ o. passes o (λ m. m == s.leaf)) (sym is)

    turn : (a b : ℕ) → (a == b) ≡ (b == a)
    turn a b = grind (arith, nat_tests)

    bits : (a c n l b : Bool) → ((a && c && n && l && true) || b) ≡ (b || (a && c && n && true && l))
    bits true true true true true = refl
    bits true true true true false = refl
    bits true true true false true = refl
    bits true true true false false = refl
    bits true true false l true = refl
    bits true true false l false = refl
    bits true false n l true = refl
    bits true false n l false = refl
    bits false c n l true = refl
    bits false c n l false = refl

    none : (a c n l m b : Bool) → ((a && c && n && l && false) || b) ≡ (b || (a && c && n && false && m))
    none true true true true m true = refl
    none true true true true m false = refl
    none true true true false m true = refl
    none true true true false m false = refl
    none true true false l m true = refl
    none true true false l m false = refl
    none true false n l m true = refl
    none true false n l m false = refl
    none false c n l m true = refl
    none false c n l m false = refl

    by : (e : Bool) → (s.row == row) ≡ e → ((key_eq k s.key && (c == s.column) && name_eq n s.arm && (leaf == s.leaf) && (row == s.row)) || b)
        ≡ (b || (key_eq k s.key && (s.column == c) && name_eq n s.arm && (s.row == row) && lies l order n (h.first + s.row) s.leaf))
    by true e = rw (turn row s.row) (rw e (rw (same e) (rw (turn c s.column) (bits (key_eq k s.key) (s.column == c) (name_eq n s.arm) (leaf == s.leaf) b))))
    by false e = rw (turn row s.row) (rw e (rw (turn c s.column) (none (key_eq k s.key) (s.column == c) (name_eq n s.arm) (leaf == s.leaf) (lies l order n (h.first + s.row) s.leaf) b)))
