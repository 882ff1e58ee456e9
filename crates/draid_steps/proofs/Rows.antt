-- The segments of a column's rows, one row after another.
use Rattle.std.proofs.Common.{◌≡◌, ◌+◌, ◌==◌, ◌&&◌, ◌||◌, ◌∙◌, ℕ, Bool, true, false, List, nat_lt, arith, refl, sym, ap}
use Rattle.std.proofs.lemmas.Bool.Decides.{nat_tests}
use Rattle.draid_machine.specs.Arms.{lies}
use Rattle.draid_machine.specs.Names.{key_eq, name_eq}
use Rattle.draid_machine.specs.State.{Layout}
use Rattle.draid_machine.specs.declared.names.ArmName.{ArmName}
use Rattle.draid_machine.specs.declared.names.Held.{Held}
use Rattle.draid_machine.specs.declared.names.Key.{Key}
use Rattle.draid_machine.specs.declared.names.Segment.{Segment}
use Rattle.draid_steps.specs.Columns.{is_in_row, is_row}

spread : (o k c n a b l : Bool) → ((o || (k && c && n && a && l)) || (k && c && n && b && l)) ≡ (o || (k && c && n && (a || b) && l))
spread true k c n a b l = refl
spread false false c n a b l = refl
spread false true false n a b l = refl
spread false true true false a b l = refl
spread false true true true true true true = refl
spread false true true true true true false = refl
spread false true true true true false true = refl
spread false true true true true false false = refl
spread false true true true false true true = refl
spread false true true true false true false = refl
spread false true true true false false l = refl

below_more : (x row : ℕ) → (nat_lt x row || (x == row)) ≡ nat_lt x (row + 1)
below_more x row = grind (arith, nat_tests)

pub rows_more : (l : Layout) (order : ℕ → List ArmName) (k : Key) (h : Held) (c : ℕ) (n : ArmName) (row : ℕ) (s : Segment) (old mid now : Bool) → mid ≡ (old || is_row l order k h c n row s)
    → now ≡ (mid || is_in_row l order k h c n row s) → now ≡ (old || is_row l order k h c n (row + 1) s)
rows_more l order k h c n row s old mid now before adds =
    let there : Bool = lies l order n (h.first + s.row) s.leaf in
    adds
    ∙ ap (λ b. b || is_in_row l order k h c n row s) before
    ∙ spread old (key_eq k s.key) (s.column == c) (name_eq n s.arm) (nat_lt s.row row) (s.row == row) there
    ∙ ap (λ b. old || (key_eq k s.key && (s.column == c) && name_eq n s.arm && b && there)) (below_more s.row row)

none_yet : (o k c n l : Bool) → (o || (k && c && n && false && l)) ≡ o
none_yet true k c n l = refl
none_yet false false c n l = refl
none_yet false true false n l = refl
none_yet false true true false l = refl
none_yet false true true true l = refl

below_none : (x : ℕ) → nat_lt x 0 ≡ false
below_none x = grind (arith, nat_tests)

pub rows_none : (l : Layout) (order : ℕ → List ArmName) (k : Key) (h : Held) (c : ℕ) (n : ArmName) (s : Segment) (old : Bool) → old ≡ (old || is_row l order k h c n 0 s)
rows_none l order k h c n s old =
    let there : Bool = lies l order n (h.first + s.row) s.leaf in
    sym (ap (λ b. old || (key_eq k s.key && (s.column == c) && name_eq n s.arm && b && there)) (below_none s.row)
    ∙ none_yet old (key_eq k s.key) (s.column == c) (name_eq n s.arm) there)
