-- Something befalls the checkpoint of a pool in the group behind the committed one, of which no commit was refused: what its uberblock stands for then.
use Rattle.std.proofs.Common.{arith, ◌≡◌, ◌==◌, ◌+◌, ◌<◌, ◌≤◌, ◌∙◌, ℕ, Bool, true, false, List, [], ◌∷◌, Option, Some, None, ◌%◌, refl, sym, ap, subst, if◌then◌else◌}
use Rattle.std.specs.Prelude.{⊤, MatchOption, cond, nat_le, ◌↔◌}
use Rattle.std.proofs.lemmas.Bool.Decides.{nat_tests}
use Rattle.std.proofs.lemmas.List.Elements.{All-contains, All-cons, All-weaker, Contains-append_left, Contains-push}
use Rattle.draid_area.specs.Area.{OnTold}
use Rattle.draid_area.specs.declared.Area as areas
use Rattle.draid_record.specs.declared.uber.UberBody.{UberBody}
use Rattle.draid_machine.proofs.Small.{none_some}
use Rattle.draid_objects.specs.Marks.{Check, GivenUp, Made, Mark, check_at, check_by, mark_group, marks_upto}
use Rattle.draid_objects.specs.Stores.{AreMarkedUpto, IsBehindChecks}
use Rattle.draid_uber.specs.Checks.{AreasStand, CheckStands, HasCheck, count_in, told_by}
use Rattle.draid_uber.specs.Points.{no_check}
use Rattle.draid_uber.specs.Uber.{areas_of, changed_of, next_check}
use Rattle.draid_uber.specs.declared.uber.Uber.{Uber}
use Rattle.draid_session.specs.Points.{HasLateMark}
use Rattle.draid_session.specs.State.{Metaslab, State, Store}
use Rattle.draid_pool.specs.Ubers.{IsPending, IsUber, body_of, check_told, kept_in, point_told}
use Rattle.draid_rewinds.specs.Giving.{SetsPoint}

-- ---- marks

low_is : (a b : ℕ) → a ≤ b → nat_le a b ≡ true
low_is a b low = grind (arith, nat_tests, low)

high_is : (a b : ℕ) → b < a → nat_le a b ≡ false
high_is a b high = grind (arith, nat_tests, high)

is_low_by : (a b : ℕ) → nat_le a b ≡ true → a ≤ b
is_low_by a b is = grind (arith, nat_tests, is)

is_high_by : (a b : ℕ) → nat_le a b ≡ false → b < a
is_high_by a b is = grind (arith, nat_tests, is)

-- a mark is one of a group's marks from its own group on
upto_on : (mark : Mark) (marks : List Mark) (g : ℕ) → mark_group mark ≤ g → marks_upto g (mark ∷ marks) ≡ mark ∷ marks_upto g marks
upto_on mark marks g low = ap (λ b. cond b (mark ∷ marks_upto g marks) (marks_upto g marks)) (low_is (mark_group mark) g low)

upto_before : (mark : Mark) (marks : List Mark) (g : ℕ) → g < mark_group mark → marks_upto g (mark ∷ marks) ≡ marks_upto g marks
upto_before mark marks g high = ap (λ b. cond b (mark ∷ marks_upto g marks) (marks_upto g marks)) (high_is (mark_group mark) g high)

pub told_before : (mark : Mark) (marks : List Mark) (g : ℕ) → g < mark_group mark → check_told (mark ∷ marks) g ≡ check_told marks g
unfolding check_told
told_before mark marks g high = ap point_told (upto_before mark marks g high)

pub given_told : (marks : List Mark) (group g : ℕ) → group ≤ g → check_told (GivenUp group ∷ marks) g ≡ no_check
unfolding check_told
given_told marks group g low = ap point_told (upto_on (GivenUp group) marks g low)

pub made_told_by : (marks : List Mark) (group g : ℕ) → group ≤ g → check_told (Made group ∷ marks) g ≡ record { group = group; drops = [] }
unfolding check_told
made_told_by marks group g low = ap point_told (upto_on (Made group) marks g low)

-- the checkpoints of groups behind one that is given up there
pub given_behind : (committed group next : ℕ) (marks : List Mark) → IsBehindChecks committed marks next → IsBehindChecks committed (GivenUp group ∷ marks) next
given_behind committed group next marks behind t check from is = by (nat_le group t) refl
  where
    by : (b : Bool) → nat_le group t ≡ b → check.group < next
    by true low = absurd (none_some (check_at t (GivenUp group ∷ marks)) check (ap check_by (upto_on (GivenUp group) marks t (is_low_by group t low))) is)
    by false high = behind t check from (sym (ap check_by (upto_before (GivenUp group) marks t (is_high_by group t high))) ∙ is)

-- and of one that was made
pub made_behind : (committed group next : ℕ) (marks : List Mark) → group < next → IsBehindChecks committed marks next → IsBehindChecks committed (Made group ∷ marks) next
made_behind committed group next marks less behind t check from is = by (nat_le group t) refl
  where
    here : Some (record { group = group; dropped = λ k. false }) ≡ Some check → check.group < next
    here same = (let own : group ≡ check.group = some_group same in omega (arith, own, less))
      where
        some_group : Some (record { group = group; dropped = λ k. false }) ≡ Some check → group ≡ check.group
        some_group same = ap group_or same
          where
            group_or : Option Check → ℕ
            group_or None = 0
            group_or (Some c) = c.group

    by : (b : Bool) → nat_le group t ≡ b → check.group < next
    by true low = here (sym (ap check_by (upto_on (Made group) marks t (is_low_by group t low))) ∙ is)
    by false high = behind t check from (sym (ap check_by (upto_before (Made group) marks t (is_high_by group t high))) ∙ is)

-- something befell it in that group, and nothing later
late_marks : (mark : Mark) (marks : List Mark) (top g : ℕ) → mark_group mark ≡ top → AreMarkedUpto top marks → HasLateMark g (mark ∷ marks) ↔ (g < top)
late_marks mark marks top g own upto = (to, back)
  where
    all : AreMarkedUpto top (mark ∷ marks)
    all = All-cons (λ m. mark_group m ≤ top) mark marks (omega (arith, own)) upto

    to : HasLateMark g (mark ∷ marks) → g < top
    to late = (let low = All-contains (λ m. mark_group m ≤ top) (mark ∷ marks) late.mark all late.there in let high = late.late in omega (arith, low, high))

    back : g < top → HasLateMark g (mark ∷ marks)
    back less = record { mark = mark; there = Contains-append_left (mark ∷ []) marks mark (Contains-push [] mark); late = omega (arith, own, less) }

-- ---- the uberblock

kept_group : (x : State) (body : UberBody) → kept_in x ≡ Some body → body.group ≡ x.committed
kept_group x body is = by (x.committed == 0) is
  where
    group_or : Option UberBody → ℕ
    group_or None = x.committed
    group_or (Some b) = b.group

    by : (b : Bool) → (if b then None else Some (body_of x.geometry x.kept_version x.committed x.kept_leaf)) ≡ Some body → body.group ≡ x.committed
    by true none = absurd (cc)
    by false some = sym (ap group_or some)

module _ {A : Type 0} (area : areas.Ghosts A) (old new : Uber A) (x : State) (metaslabs : List Metaslab) (store : Store) (mark : Mark) (marks_are : store.marks ≡ mark ∷ x.store.marks) (group_is : mark_group mark ≡ x.committed + 1)
    (upto : AreMarkedUpto (x.committed + 1) x.store.marks) (settled : x.pending ≡ false) (sets : SetsPoint area (x.committed + 1) old new) (told : (g : ℕ) → x.committed < g → next_check new g ≡ check_told (mark ∷ x.store.marks) g)
    (is : IsUber area old x) where
  abbrev now : State
  now = record x { metaslabs = metaslabs; store = store }

  told_committed : (body : UberBody) → kept_in x ≡ Some body → check_told x.store.marks body.group ≡ check_told (mark ∷ x.store.marks) body.group
  told_committed body kept = (let at = kept_group x body kept in sym (told_before mark x.store.marks body.group (omega (arith, at, group_is))))

  -- no commit was refused
  no_pending : (body : UberBody) → IsPending x body → ⊥
  no_pending body pending = (let both = sym settled ∙ pending.0 in cc)

  stands_then : AreasStand (check_told (mark ∷ x.store.marks)) (kept_in x) is.stands.pending (told_by area.told (areas_of old))
  stands_then = record {
    uber_is = is.stands.stands.uber_is;
    kept_check = by (kept_in x) refl is.stands.stands.kept_check;
    pending_checks = All-weaker (IsPending x) (HasCheck (check_told (mark ∷ x.store.marks)) (told_by area.told (areas_of old))) (λ body pending. absurd (no_pending body pending)) is.stands.pending is.stands.are;
  }
    where
      by : (kept : Option UberBody) → kept_in x ≡ kept → MatchOption kept ⊤ (HasCheck (check_told x.store.marks) (told_by area.told (areas_of old)))
          → MatchOption kept ⊤ (HasCheck (check_told (mark ∷ x.store.marks)) (told_by area.told (areas_of old)))
      by None at has = tt
      by (Some body) at has = subst (λ c. OnTold (if body.group % 2 == 0 then (told_by area.told (areas_of old)).even else (told_by area.told (areas_of old)).odd) (CheckStands c body.group)) (told_committed body at) has

  pub uber_marked : IsUber area new now
  uber_marked = record {
    valid = sets.valid;
    layout = sets.layout ∙ is.layout;
    version = sets.version ∙ is.version;
    kept = sets.kept ∙ is.kept;
    next_leaf = sets.leaf ∙ is.next_leaf;
    point = λ g late. told g late ∙ ap (λ ms. check_told ms g) (sym marks_are);
    late = λ g above. subst (λ ms. HasLateMark g ms ↔ (g < changed_of new)) (sym marks_are) (subst (λ n. HasLateMark g (mark ∷ x.store.marks) ↔ (g < n)) (sym sets.changed) (late_marks mark x.store.marks (x.committed + 1) g group_is upto));
    count = is.count ∙ ap (count_in area.faults) (sym sets.areas_are);
    stands = record {
      pending = is.stands.pending;
      are = All-weaker (IsPending x) (IsPending now) (λ body pending. absurd (no_pending body pending)) is.stands.pending is.stands.are;
      stands = subst (λ ms. AreasStand (check_told ms) (kept_in x) is.stands.pending (told_by area.told (areas_of new))) (sym marks_are)
          (subst (λ t. AreasStand (check_told (mark ∷ x.store.marks)) (kept_in x) is.stands.pending (told_by area.told t)) (sym sets.areas_are) stands_then);
    };
  }
