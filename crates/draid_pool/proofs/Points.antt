-- What a pool's uberblock says of its checkpoint.
use Rattle.std.proofs.Common.{◌≡◌, ◌≤◌, ◌<◌, ◌+◌, ◌∙◌, [], ◌∷◌, ℕ, true, false, Bool, List, Option, Some, None, arith, ap, refl, sym, subst, if◌then◌else◌}
use Rattle.std.specs.Prelude.{⊤, All, max, nat_le, option_map}
use Rattle.std.proofs.lemmas.Bool.Decides.{nat_tests}
use Rattle.std.proofs.lemmas.List.Elements.{All-head, All-tail, All-weaker}
use Rattle.draid_area.specs.declared.Area as areas
use Rattle.draid_checkpoint.specs.Check.{Point}
use Rattle.draid_machine.specs.declared.names.Key.{Key}
use Rattle.draid_machine.proofs.Small.{none_some}
use Rattle.draid_objects.specs.Blocks.{Blocks}
use Rattle.draid_objects.specs.Marks.{Check, Dropped, GivenUp, Made, Mark, check_by, drops_in, mark_group}
use Rattle.draid_objects.proofs.Checking.{marks_all}
use Rattle.draid_record.specs.Checks.{CheckTold}
use Rattle.draid_segments.specs.Segments.{Pieces}
use Rattle.draid_session.specs.Points.{IsPointOf, KeepsBirth}
use Rattle.draid_session.specs.State.{State}
use Rattle.draid_uber.specs.Points.{drops_upto, drops_with, no_check, told_at, told_of}
use Rattle.draid_uber.specs.Uber.{point_of}
use Rattle.draid_uber.specs.declared.uber.Uber.{Uber}
use Rattle.draid_pool.specs.Objects.{HasGroups, HoldsObjects}
use Rattle.draid_pool.specs.Ubers.{IsUber, check_told, point_told}

-- the group of a checkpoint, 0 where there is none
abbrev number_of : Option Check → ℕ
number_of None = 0
number_of (Some check) = check.group

abbrev IsPositive : Option Check → Type 0
IsPositive None = ⊤
IsPositive (Some check) = 1 ≤ check.group

drops_number : (key : Key) (o : Option Check) → number_of (option_map (drops_in key) o) ≡ number_of o
drops_number key None = refl
drops_number key (Some check) = refl

drops_positive : (key : Key) (o : Option Check) → IsPositive o → IsPositive (option_map (drops_in key) o)
drops_positive key None some = tt
drops_positive key (Some check) some = some

-- what is told of marks has the group of their checkpoint
told_number : (marks : List Mark) → (point_told marks).group ≡ number_of (check_by marks)
told_number [] = refl
told_number (Made group ∷ marks) = refl
told_number (Dropped key group ∷ marks) = told_number marks ∙ sym (drops_number key (check_by marks))
told_number (GivenUp group ∷ marks) = refl

positive_check : (marks : List Mark) → All (λ m. 1 ≤ mark_group m) marks → IsPositive (check_by marks)
positive_check [] some = tt
positive_check (Made group ∷ marks) some = All-head (λ m. 1 ≤ mark_group m) (Made group) marks some
positive_check (Dropped key group ∷ marks) some = drops_positive key (check_by marks) (positive_check marks (All-tail (λ m. 1 ≤ mark_group m) (Dropped key group) marks some))
positive_check (GivenUp group ∷ marks) some = tt

-- behind each mark all is told
told_behind : (marks : List Mark) (low group : ℕ) → All (λ m. mark_group m ≤ low) marks → low ≤ group → (check_told marks group).group ≡ number_of (check_by marks)
unfolding check_told
told_behind marks low group upto later =
    ap (λ ms. (point_told ms).group) (marks_all group marks (All-weaker (λ m. mark_group m ≤ low) (λ m. mark_group m ≤ group) (λ m z. omega (arith, z, later)) marks upto)) ∙ told_number marks

-- an uberblock has the checkpoint that the marks leave
pub point_stands : {A : Type 0} (area : areas.Ghosts A) (uber : Uber A) (x : State) (blocks : Blocks) (pieces : ℕ → Pieces) → IsUber area uber x → HoldsObjects x.geometry x.committed x.store blocks pieces → HasGroups x
    → IsPointOf x.store.marks (point_of uber).group
point_stands area uber x blocks pieces is holds groups = by (point_of uber).group refl
  where
    upto : ℕ
    upto = max x.store.floor (x.committed + 1)

    behind : (group : ℕ) → upto ≤ group → (told_at (point_of uber) group).group ≡ number_of (check_by x.store.marks)
    behind group later =
        ap (λ (c : CheckTold). c.group) (is.point group (grind (arith, nat_tests, later))) ∙ told_behind x.store.marks upto group groups.marked later

    none : (o : Option Check) → 0 ≡ number_of o → IsPositive o → o ≡ None
    none None zero some = refl
    none (Some check) zero some = absurd (omega (arith, zero, some))

    some : (o : Option Check) (own : ℕ) → 0 < own → own ≡ number_of o → (check : Check) × (o ≡ Some check) × (check.group ≡ own)
    some None own positive same = absurd (omega (arith, positive, same))
    some (Some check) own positive same = (check, refl, sym same)

    told_if : (b : Bool) (told : CheckTold) → b ≡ true → (if b then told else no_check) ≡ told
    told_if true told is = refl
    told_if false told is = absurd (cc is)

    told_group : (own group : ℕ) → own ≤ group → (told_of group (Some own) (point_of uber).drops).group ≡ own
    told_group own group low = ap (λ (c : CheckTold). c.group) (told_if (nat_le own group) (record { group = own; drops = drops_with [] (drops_upto group (point_of uber).drops) }) (grind (arith, nat_tests, low)))

    by : (o : Option ℕ) → (point_of uber).group ≡ o → IsPointOf x.store.marks o
    by None at = none (check_by x.store.marks) (sym (ap (λ g. (told_of upto g (point_of uber).drops).group) at) ∙ behind upto (omega arith)) (positive_check x.store.marks holds.positive)
    by (Some own) at =
        let late : ℕ = upto + own in
        some (check_by x.store.marks) own (is.valid.positive own at)
        (sym (told_group own late (omega arith)) ∙ (sym (ap (λ g. (told_of late g (point_of uber).drops).group) at) ∙ behind late (omega arith)))

-- where it has none there is none, and no block is kept by one
pub none_stands : {A : Type 0} (area : areas.Ghosts A) (uber : Uber A) (x : State) (blocks : Blocks) (pieces : ℕ → Pieces) → IsUber area uber x → HoldsObjects x.geometry x.committed x.store blocks pieces → HasGroups x
    → (point_of uber).group ≡ None → check_by x.store.marks ≡ None
none_stands area uber x blocks pieces is holds groups none = subst (IsPointOf x.store.marks) none (point_stands area uber x blocks pieces is holds groups)

pub none_kept_of : (marks : List Mark) (birth : ℕ) → check_by marks ≡ None → KeepsBirth marks birth → ⊥
none_kept_of marks birth none (check, there, low) = none_some (check_by marks) check none there
