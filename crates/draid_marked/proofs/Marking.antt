-- Which objects a checkpoint has, as changes and marks come.
use Rattle.std.proofs.Common.{◌≡◌, ◌∙◌, ◌<◌, ◌≤◌, ℕ, zero, suc, Bool, true, false, nat_le, List, [], ◌∷◌, Option, Some, None, All, option_map, cond, refl, sym, ap, subst, arith}
use Rattle.std.specs.Prelude.{Contains}
use Rattle.std.proofs.lemmas.List.Elements.{All-head, All-tail, All-weaker}
use Rattle.draid_machine.specs.declared.names.Key.{Key}
use Rattle.draid_machine.proofs.Small.{low, none_some, some_injective}
use Rattle.draid_objects.specs.Changes.{Change, group_of, kept}
use Rattle.draid_objects.specs.Marks.{Check, Dropped, GivenUp, Made, Mark, check_at, check_by, drops_in, mark_group, marks_upto}
use Rattle.draid_objects.proofs.Checking.{marks_all}
use Rattle.draid_objects.proofs.Finding.{kept_later}
use Rattle.draid_objects.proofs.Marking.{check_at_low}
use Rattle.draid_session.specs.Book.{Book, Objects}
use Rattle.draid_session.specs.Keeping.{bytes_in}
use Rattle.draid_session.specs.Looks.{AllOf}
use Rattle.draid_session.specs.Marked.{Marked}
use Rattle.draid_session.proofs.Lanewise.{all_more, filter_all}
use Rattle.draid_session.proofs.Saying.{high, not_low}
use Rattle.draid_marked.specs.Keeping.{IsAmong, IsMark, MadeSo, SaysMarks}

-- ---- lists

pub contains_head : {A : Type 0} (x : A) (xs : List A) → Contains (x ∷ xs) x
contains_head x xs = (0, omega arith, refl)

pub contains_tail : {A : Type 0} (y : A) (xs : List A) (x : A) → Contains xs x → Contains (y ∷ xs) x
contains_tail y xs x (i, low, is) = (suc i, omega (arith, low), is)

pub contains_between : {A : Type 0} (y z : A) (xs : List A) (x : A) → Contains (y ∷ xs) x → Contains (y ∷ (z ∷ xs)) x
contains_between y z xs x (zero, low, is) = (zero, omega arith, is)
contains_between y z xs x (suc i, low, is) = (suc (suc i), omega (arith, low), is)

-- ---- the checkpoint's group

-- it is one of which a checkpoint was made
pub check_so : (P : ℕ → Type 0) (marks : List Mark) (check : Check) → AllOf (MadeSo P) marks → check_by marks ≡ Some check → P check.group
check_so P [] check all is = absurd (none_some None check refl is)
check_so P (Made group ∷ marks) check all is = subst P (ap (λ (c : Check). c.group) (some_injective (record { group = group; dropped = λ k. false }) check is)) all.0
check_so P (Dropped key group ∷ marks) check all is = by (check_by marks) (λ c some. check_so P marks c all.1 some) is
  where
    by : (o : Option Check) → ((c : Check) → o ≡ Some c → P c.group) → option_map (drops_in key) o ≡ Some check → P check.group
    by None so e = absurd (none_some None check refl e)
    by (Some c) so e = subst P (ap (λ (d : Check). d.group) (some_injective (drops_in key c) check e)) (so c refl)
check_so P (GivenUp group ∷ marks) check all is = absurd (none_some None check refl is)

pub check_at_so : (P : ℕ → Type 0) (t : ℕ) (marks : List Mark) (check : Check) → AllOf (MadeSo P) marks → check_at t marks ≡ Some check → P check.group
check_at_so P t marks check all is = check_so P (marks_upto t marks) check (filter_all (MadeSo P) (λ m. nat_le (mark_group m) t) marks all) is

pub made_more : (P Q : ℕ → Type 0) (marks : List Mark) → ((group : ℕ) → P group → Q group) → AllOf (MadeSo P) marks → AllOf (MadeSo Q) marks
made_more P Q marks more all = all_more (MadeSo P) (MadeSo Q) marks by all
  where
    by : (mark : Mark) → MadeSo P mark → MadeSo Q mark
    by (Made group) so = more group so
    by (Dropped key group) so = tt
    by (GivenUp group) so = tt

-- what was made up to a group
pub made_low : (t : ℕ) (marks : List Mark) → All (λ m. mark_group m ≤ t) marks → AllOf (MadeSo (λ group. group ≤ t)) marks
made_low t [] all = tt
made_low t (mark ∷ marks) all = (by mark (All-head (λ m. mark_group m ≤ t) mark marks all), made_low t marks (All-tail (λ m. mark_group m ≤ t) mark marks all))
  where
    by : (mark : Mark) → mark_group mark ≤ t → MadeSo (λ group. group ≤ t) mark
    by (Made group) less = less
    by (Dropped key group) less = tt
    by (GivenUp group) less = tt

-- ---- what the checkpoint has

-- where its group keeps the same, it has the same
pub mark_kept : (cs ds : List Change) (o : Option Check) (mark : Option Objects) → ((check : Check) → o ≡ Some check → (object : ℕ) → kept check.group ds object ≡ kept check.group cs object)
    → IsMark cs o mark → IsMark ds o mark
mark_kept cs ds None None same is = tt
mark_kept cs ds None (Some objects) same is = is
mark_kept cs ds (Some check) None same is = is
mark_kept cs ds (Some check) (Some objects) same is = λ object. is object ∙ sym (ap bytes_in (same check refl object))

pub mark_dropped : (cs : List Change) (key : Key) (o : Option Check) (mark : Option Objects) → IsMark cs o mark → IsMark cs (option_map (drops_in key) o) mark
mark_dropped cs key None mark is = is
mark_dropped cs key (Some check) None is = is
mark_dropped cs key (Some check) (Some objects) is = is

pub mark_none : (cs : List Change) (mark : Option Objects) → IsMark cs None mark → mark ≡ None
mark_none cs None is = refl
mark_none cs (Some objects) is = absurd is

pub mark_some : (cs : List Change) (check : Check) (mark : Option Objects) → IsMark cs (Some check) mark → (objects : Objects) × (mark ≡ Some objects) × ((object : ℕ) → objects object ≡ bytes_in (kept check.group cs object))
mark_some cs check None is = absurd is
mark_some cs check (Some objects) is = (objects, refl, is)

-- ---- changes

pub now_change : (cs : List Change) (c : Change) (marks : List Mark) (mark : Option Objects) → AllOf (MadeSo (λ group. group < group_of c)) marks → IsMark cs (check_by marks) mark → IsMark (c ∷ cs) (check_by marks) mark
now_change cs c marks mark all is = mark_kept cs (c ∷ cs) (check_by marks) mark
    (λ check at object. kept_later check.group c cs object (not_low (group_of c) check.group (check_so (λ group. group < group_of c) marks check all at))) is

change_at : (t : ℕ) (cs : List Change) (c : Change) (marks : List Mark) (mark : Option Objects) → AllOf (MadeSo (λ group. group < group_of c)) marks → IsMark cs (check_at t marks) mark
    → IsMark (c ∷ cs) (check_at t marks) mark
change_at t cs c marks mark all is = now_change cs c (marks_upto t marks) mark (filter_all (MadeSo (λ group. group < group_of c)) (λ m. nat_le (mark_group m) t) marks all) is

pub says_change : (committed : ℕ) (cs : List Change) (c : Change) (marks : List Mark) (m : Marked) → AllOf (MadeSo (λ group. group < group_of c)) marks → SaysMarks committed cs marks m → SaysMarks committed (c ∷ cs) marks m
says_change committed cs c marks m all s = record {
  keeps = λ is. change_at committed cs c marks m.kept_mark all (s.keeps is);
  had = λ t from. (let a = s.had t from in (a.0, a.1, change_at t cs c marks a.0 all a.2));
}

-- ---- drops

pub drop_at : (t : ℕ) (cs : List Change) (key : Key) (group : ℕ) (marks : List Mark) (mark : Option Objects) → IsMark cs (check_at t marks) mark → IsMark cs (check_at t (Dropped key group ∷ marks)) mark
drop_at t cs key group marks mark is = by (nat_le group t)
  where
    by : (b : Bool) → IsMark cs (check_by (cond b (Dropped key group ∷ marks_upto t marks) (marks_upto t marks))) mark
    by true = mark_dropped cs key (check_at t marks) mark is
    by false = is

pub says_drop : (committed : ℕ) (cs : List Change) (key : Key) (group : ℕ) (marks : List Mark) (m : Marked) → SaysMarks committed cs marks m → SaysMarks committed cs (Dropped key group ∷ marks) m
says_drop committed cs key group marks m s = record {
  keeps = λ is. drop_at committed cs key group marks m.kept_mark (s.keeps is);
  had = λ t from. (let a = s.had t from in (a.0, a.1, drop_at t cs key group marks a.0 a.2));
}

-- ---- books

-- the same is said with another book of the same group
pub says_book : (committed : ℕ) (cs : List Change) (marks : List Mark) (m : Marked) (b : Book) → b.group ≡ m.book.group → SaysMarks committed cs marks m → SaysMarks committed cs marks (record m { book = b })
says_book committed cs marks m b same s = record { keeps = λ is. s.keeps (sym same ∙ is); had = λ t from. s.had t from }

-- a later group is committed, of which no reply told
pub says_later : (old new : ℕ) (cs : List Change) (marks : List Mark) (m : Marked) → m.book.group ≤ old → old ≤ new → SaysMarks old cs marks m → SaysMarks new cs marks m
says_later old new cs marks m low less s = record { keeps = keeps; had = λ t from. s.had t (omega (arith, less, from)) }
  where
    keeps : m.book.group ≡ new → IsMark cs (check_at new marks) m.kept_mark
    keeps is =
        let same : old ≡ new = omega (arith, low, less, is) in
        subst (λ n. IsMark cs (check_at n marks) m.kept_mark) same (s.keeps (is ∙ sym same))

-- a reply named the committed group, up to which all marks are
pub says_named : (committed : ℕ) (cs : List Change) (marks : List Mark) (b : Book) (mark : Option Objects) → All (λ m. mark_group m ≤ committed) marks → IsMark cs (check_by marks) mark
    → SaysMarks committed cs marks (record { book = b; mark = mark; kept_mark = mark; since_marks = [] })
says_named committed cs marks b mark all is = record {
  keeps = λ same. at committed (omega arith);
  had = λ t from. (mark, contains_head mark [], at t from);
}
  where
    at : (t : ℕ) → committed ≤ t → IsMark cs (check_at t marks) mark
    at t from = subst (λ ms. IsMark cs (check_by ms) mark) (sym (marks_all t marks (All-weaker (λ m. mark_group m ≤ committed) (λ m. mark_group m ≤ t) (λ m less. omega (arith, less, from)) marks all))) is

-- a checkpoint was made, or given up, in a group that the book doesn't name; what earlier groups keep stays
pub says_new : (committed : ℕ) (cs ds : List Change) (mark : Mark) (marks : List Mark) (m : Marked) (b : Book) (new : Option Objects) → b.group ≡ m.book.group → m.book.group < mark_group mark
    → ((t object : ℕ) → t < mark_group mark → kept t ds object ≡ kept t cs object) → ((rest : List Mark) → IsMark ds (check_by (mark ∷ rest)) new) → SaysMarks committed cs marks m
    → SaysMarks committed ds (mark ∷ marks) (record { book = b; mark = new; kept_mark = m.kept_mark; since_marks = new ∷ m.since_marks })
says_new committed cs ds mark marks m b new same late early own s = record { keeps = keeps; had = λ t from. had t from (nat_le (mark_group mark) t) refl }
  where
    -- an earlier group has what it had
    before : (t : ℕ) → t < mark_group mark → (o : Option Objects) → IsMark cs (check_at t marks) o → IsMark ds (check_at t marks) o
    before t less o is = mark_kept cs ds (check_at t marks) o (λ check at object. early check.group object (let low_ = check_at_low t marks check at in omega (arith, low_, less))) is

    keeps : b.group ≡ committed → IsMark ds (check_at committed (mark ∷ marks)) m.kept_mark
    keeps is =
        let less : committed < mark_group mark = (let at = sym same ∙ is in omega (arith, at, late)) in
        subst (λ z. IsMark ds (check_by (cond z (mark ∷ marks_upto committed marks) (marks_upto committed marks))) m.kept_mark)
        (sym (not_low (mark_group mark) committed less)) (before committed less m.kept_mark (s.keeps (sym same ∙ is)))

    had : (t : ℕ) → committed ≤ t → (z : Bool) → nat_le (mark_group mark) t ≡ z → IsAmong ds (check_by (cond (nat_le (mark_group mark) t) (mark ∷ marks_upto t marks) (marks_upto t marks))) (m.kept_mark ∷ (new ∷ m.since_marks))
    had t from true is = subst (λ z. IsAmong ds (check_by (cond z (mark ∷ marks_upto t marks) (marks_upto t marks))) (m.kept_mark ∷ (new ∷ m.since_marks))) (sym is)
        (new, contains_tail m.kept_mark (new ∷ m.since_marks) new (contains_head new m.since_marks), own (marks_upto t marks))
    had t from false is = subst (λ z. IsAmong ds (check_by (cond z (mark ∷ marks_upto t marks) (marks_upto t marks))) (m.kept_mark ∷ (new ∷ m.since_marks))) (sym is)
        (let a = s.had t from in (a.0, contains_between m.kept_mark new m.since_marks a.0 a.1, before t (high (mark_group mark) t is) a.0 a.2))
