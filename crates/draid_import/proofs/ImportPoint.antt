-- What the uberblock of an import says of the checkpoint, once older blocks were dropped to it.
use Rattle.std.proofs.Common.{arith, ◌≡◌, ◌==◌, ◌%◌, ◌+◌, ◌<◌, ◌≤◌, ◌++◌, ◌∙◌, ℕ, Bool, true, false, nat_le, List, [], ◌∷◌, Option, Some, None, refl, sym, ap, subst, if◌then◌else◌}
use Rattle.std.specs.Prelude.{◌↔◌, filter, map}
use Rattle.std.proofs.lemmas.Bool.Decides.{nat_tests}
use Rattle.std.proofs.lemmas.List.Elements.{All-contains, All-nil, All-weaker}
use Rattle.draid_area.specs.Area.{OnTold}
use Rattle.draid_checkpoint.specs.Check.{Point}
use Rattle.draid_checkpoint.specs.declared.check.DroppedIn.{DroppedIn}
use Rattle.draid_objects.specs.Marks.{Dropped, Mark, mark_group, marks_upto}
use Rattle.draid_objects.specs.Stores.{AreMarkedUpto}
use Rattle.draid_objects.proofs.Checking.{high, marks_again, marks_all}
use Rattle.draid_record.specs.Checks.{CheckTold}
use Rattle.draid_record.specs.declared.checks.Dropped.{Dropped as Block}
use Rattle.draid_record.specs.declared.uber.UberBody.{UberBody}
use Rattle.draid_session.specs.Points.{HasLateMark}
use Rattle.draid_uber.specs.Checks.{AreasStand, AreasTold, CheckStands, HasCheck}
use Rattle.draid_uber.specs.Points.{KeepsCheck, block_of, dropped_in, drops_upto, drops_with, insert_drop, no_check, told_at, told_of}
use Rattle.draid_found.specs.Drops.{key_in}
use Rattle.draid_pool.specs.Ubers.{check_told, point_told}
use Rattle.draid_import.specs.Points.{changed_by}
use Rattle.draid_import.proofs.ImportDrops.{dropped_all, dropped_marks, still_there, told_dropped, upto_low}

-- ---- the check records

-- the marks of a group say of it what all did
pub told_upto : (group : ℕ) (marks : List Mark) (g : ℕ) → group ≤ g → check_told (marks_upto group marks) g ≡ check_told marks group
unfolding check_told
told_upto group marks g up = ap point_told (marks_again group g up marks)

-- one check record stands, whatever is said of other groups
pub stands_told : (check now : ℕ → CheckTold) (body : UberBody) (told : AreasTold) → now body.group ≡ check body.group → AreasStand check (Some body) [] told → AreasStand now (Some body) [] told
stands_told check now body told same s = record {
  uber_is = s.uber_is;
  kept_check = subst (λ v. OnTold (if body.group % 2 == 0 then told.even else told.odd) (CheckStands v body.group)) (sym same) s.kept_check;
  pending_checks = All-nil (HasCheck now told);
}

-- ---- what was dropped

upto_dropped : (t group : ℕ) (ds : List Block) (marks : List Mark) → t < group → marks_upto t (dropped_marks group ds marks) ≡ marks_upto t marks
upto_dropped t group [] marks late = refl
upto_dropped t group (d ∷ ds) marks late =
    upto_dropped t group ds (Dropped (key_in d) group ∷ marks) late ∙ ap (λ b. if b then Dropped (key_in d) group ∷ marks_upto t marks else marks_upto t marks) (high group t late)

-- an earlier group's record says nothing of it
pub told_before : (t group : ℕ) (ds : List Block) (marks : List Mark) → t < group → check_told (dropped_marks group ds marks) t ≡ check_told marks t
unfolding check_told
told_before t group ds marks late = ap point_told (upto_dropped t group ds marks late)

pub dropped_upto : (group : ℕ) (ds : List Block) (marks : List Mark) → AreMarkedUpto group marks → AreMarkedUpto group (dropped_marks group ds marks)
dropped_upto group ds marks upto = dropped_all group (λ m. mark_group m ≤ group) ds marks (λ d. omega arith) upto

told_then : (g group : ℕ) (ds : List Block) (marks : List Mark) → AreMarkedUpto group marks → group ≤ g
    → check_told (dropped_marks group ds marks) g ≡ record { group = (point_told marks).group; drops = drops_with (point_told marks).drops ds }
unfolding check_told
told_then g group ds marks upto from =
    ap point_told (marks_all g (dropped_marks group ds marks) (All-weaker (λ m. mark_group m ≤ group) (λ m. mark_group m ≤ g) (λ m low. omega (arith, low, from)) (dropped_marks group ds marks) (dropped_upto group ds marks upto)))
    ∙ told_dropped group ds marks

pub point_upto : (group : ℕ) (marks : List Mark) → point_told (marks_upto group marks) ≡ check_told marks group
unfolding check_told
point_upto group marks = refl

-- ---- the blocks in a check record's order

with_both : (some a b : List Block) → drops_with some (a ++ b) ≡ drops_with (drops_with some a) b
with_both some [] b = refl
with_both some (d ∷ a) b = with_both (insert_drop d some) a b

upto_both : (g : ℕ) (a b : List DroppedIn) → drops_upto g (a ++ b) ≡ drops_upto g a ++ drops_upto g b
upto_both g [] b = refl
upto_both g (d ∷ a) b = by (nat_le d.group g) (upto_both g a b)
  where
    by : (c : Bool) → drops_upto g (a ++ b) ≡ drops_upto g a ++ drops_upto g b
        → map block_of (if c then d ∷ filter (λ e. nat_le e.group g) (a ++ b) else filter (λ e. nat_le e.group g) (a ++ b))
        ≡ map block_of (if c then d ∷ filter (λ e. nat_le e.group g) a else filter (λ e. nat_le e.group g) a) ++ drops_upto g b
    by true rest = ap (λ ds. block_of d ∷ ds) rest
    by false rest = rest

upto_own : (g group : ℕ) (ds : List Block) → group ≤ g → drops_upto g (map (dropped_in group) ds) ≡ ds
upto_own g group [] from = refl
upto_own g group (d ∷ ds) from = by (nat_le group g) (grind (arith, nat_tests, from)) (upto_own g group ds from)
  where
    by : (b : Bool) → b ≡ true → drops_upto g (map (dropped_in group) ds) ≡ ds
        → map block_of (if b then dropped_in group d ∷ filter (λ e. nat_le e.group g) (map (dropped_in group) ds) else filter (λ e. nat_le e.group g) (map (dropped_in group) ds)) ≡ d ∷ ds
    by true is rest = ap (λ es. d ∷ es) rest
    by false is rest = absurd (cc)

-- what is said of a checkpoint to which further blocks were dropped
told_more : (g group : ℕ) (o : Option ℕ) (drops : List DroppedIn) (older : List Block) (value : CheckTold) → group ≤ g → (value.group ≡ 0 → older ≡ []) → told_of g o drops ≡ value
    → told_of g o (drops ++ map (dropped_in group) older) ≡ record { group = value.group; drops = drops_with value.drops older }
told_more g group o drops older value from none is = by o is
  where
    empty : no_check ≡ value → no_check ≡ record { group = value.group; drops = drops_with value.drops older }
    empty same = same ∙ (λ i. record { group = value.group; drops = drops_with value.drops (sym (none (ap (λ (v : CheckTold). v.group) (sym same))) i) })

    both : drops_with [] (drops_upto g (drops ++ map (dropped_in group) older)) ≡ drops_with (drops_with [] (drops_upto g drops)) older
    both = ap (drops_with []) (upto_both g drops (map (dropped_in group) older) ∙ ap (λ ds. drops_upto g drops ++ ds) (upto_own g group older from)) ∙ with_both [] (drops_upto g drops) older

    cases : (own : ℕ) (b : Bool) → (if b then record { group = own; drops = drops_with [] (drops_upto g drops) } else no_check) ≡ value
        → (if b then record { group = own; drops = drops_with [] (drops_upto g (drops ++ map (dropped_in group) older)) } else no_check) ≡ record { group = value.group; drops = drops_with value.drops older }
    cases own true same = (λ i. record { group = own; drops = both i }) ∙ ap (λ (v : CheckTold). record { group = v.group; drops = drops_with v.drops older }) same
    cases own false same = empty same

    by : (o : Option ℕ) → told_of g o drops ≡ value → told_of g o (drops ++ map (dropped_in group) older) ≡ record { group = value.group; drops = drops_with value.drops older }
    by None same = empty same
    by (Some own) same = cases own (nat_le own g) same

-- ---- the uberblock

module _ (group : ℕ) (marks : List Mark) (value : CheckTold) (told now : Point) (older : List Block) (value_is : value ≡ check_told marks group) (keeps : KeepsCheck group value told) (none : value.group ≡ 0 → older ≡ [])
    (group_is : now.group ≡ told.group) (drops : now.drops ≡ told.drops ++ map (dropped_in (group + 1)) older) where
  abbrev then_marks : List Mark
  then_marks = dropped_marks (group + 1) older (marks_upto group marks)

  upto_next : AreMarkedUpto (group + 1) (marks_upto group marks)
  upto_next = All-weaker (λ m. mark_group m ≤ group) (λ m. mark_group m ≤ group + 1) (λ m low. omega (arith, low)) (marks_upto group marks) (upto_low group marks)

  pub all_next : AreMarkedUpto (group + 1) then_marks
  all_next = dropped_upto (group + 1) older (marks_upto group marks) upto_next

  -- each later group's check record says what the marks do
  pub point_then : (g : ℕ) → group < g → told_at now g ≡ check_told then_marks g
  point_then g later =
      (λ i. told_of g (group_is i) (drops i))
      ∙ (told_more g (group + 1) told.group told.drops older value (omega (arith, later)) none (keeps.says g later)
      ∙ (ap (λ (v : CheckTold). record { group = v.group; drops = drops_with v.drops older }) (value_is ∙ sym (point_upto group marks))
      ∙ sym (told_then g (group + 1) older (marks_upto group marks) upto_next (omega (arith, later)))))

-- something befell it since the group that was found just where blocks were dropped
pub late_then : (group : ℕ) (marks : List Mark) (older : List Block) (t : ℕ) → group ≤ t → HasLateMark t (dropped_marks (group + 1) older (marks_upto group marks)) ↔ (t < changed_by older (group + 1) 0)
late_then group marks [] t from = (on, λ less. absurd (omega (arith, less)))
  where
    on : HasLateMark t (marks_upto group marks) → t < 0
    on l = (let low = All-contains (λ m. mark_group m ≤ group) (marks_upto group marks) l.mark (upto_low group marks) l.there in let late = l.late in absurd (omega (arith, low, late, from)))
late_then group marks (d ∷ ds) t from = (on, back)
  where
    upto : AreMarkedUpto (group + 1) (dropped_marks (group + 1) (d ∷ ds) (marks_upto group marks))
    upto = dropped_upto (group + 1) (d ∷ ds) (marks_upto group marks) (All-weaker (λ m. mark_group m ≤ group) (λ m. mark_group m ≤ group + 1) (λ m low. omega (arith, low)) (marks_upto group marks) (upto_low group marks))

    on : HasLateMark t (dropped_marks (group + 1) (d ∷ ds) (marks_upto group marks)) → t < group + 1
    on l = (let low = All-contains (λ m. mark_group m ≤ group + 1) (dropped_marks (group + 1) (d ∷ ds) (marks_upto group marks)) l.mark upto l.there in let late = l.late in omega (arith, low, late))

    back : t < group + 1 → HasLateMark t (dropped_marks (group + 1) (d ∷ ds) (marks_upto group marks))
    back less = record {
      mark = Dropped (key_in d) (group + 1);
      there = still_there (group + 1) ds (Dropped (key_in d) (group + 1) ∷ marks_upto group marks) (Dropped (key_in d) (group + 1)) (0, omega arith, refl);
      late = less;
    }
