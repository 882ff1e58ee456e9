-- A section leaves what befell the checkpoint, of which there is none then.
use Rattle.std.proofs.Common.{◌≡◌, ◌∙◌, ◌+◌, ◌<◌, ◌≤◌, ◌⊎◌, ℕ, true, false, nat_le, List, [], ◌∷◌, Option, Some, None, All, inl, inr, refl, sym, ap, subst, arith}
use Rattle.std.specs.Prelude.{max}
use Rattle.std.proofs.lemmas.Bool.{true≢false}
use Rattle.std.proofs.lemmas.List.Elements.{All-weaker}
use Rattle.draid_machine.proofs.Small.{bool_cases, is_low, none_some}
use Rattle.draid_objects.specs.Changes.{kept}
use Rattle.draid_objects.specs.Marks.{Check, check_at, check_by, mark_group}
use Rattle.draid_objects.proofs.Checking.{marks_all}
use Rattle.draid_objects.proofs.Marking.{check_at_low}
use Rattle.draid_reply.specs.declared.reply.Reply.{Reply}
use Rattle.draid_script.specs.Line.{Command}
use Rattle.draid_script.specs.Writing.{IsForLanes}
use Rattle.draid_session.specs.Book.{Book, Objects}
use Rattle.draid_session.specs.Choices.{Choices}
use Rattle.draid_session.specs.Keeping.{KeepsOpen}
use Rattle.draid_session.specs.LaneBook.{AnswersSection}
use Rattle.draid_session.specs.Lanes.{Lane, Section, greatest}
use Rattle.draid_session.specs.Looks.{AllOf}
use Rattle.draid_session.specs.Marked.{KeepsMark, Marked}
use Rattle.draid_session.specs.Session.{Open}
use Rattle.draid_session.specs.State.{State, Store}
use Rattle.draid_session.proofs.Saying.{high}
use Rattle.draid_session.proofs.Sectionkept.{SectionKept, section_keeps}
use Rattle.draid_marked.specs.Keeping.{IsClosedIn, IsMark, KeepsMarked, MadeSo, MarksOpen, SaysMarks}
use Rattle.draid_marked.specs.Sections.{some_name}
use Rattle.draid_marked.proofs.Carried.{no_mark}
use Rattle.draid_marked.proofs.Deeds.{section_names}
use Rattle.draid_marked.proofs.Lately.{kept_front, order_steady, section_late}
use Rattle.draid_marked.proofs.Marking.{mark_kept}
use Rattle.draid_marked.proofs.Opening.{closed_on, low_on}
use Rattle.draid_marked.proofs.Rising.{Rises, holds_rise}
use Rattle.draid_marked.proofs.Sharp.{sharp, sharp_fit}
use Rattle.draid_marked.proofs.Taken.{named_open}

greatest_low : (x : State) (choices : Choices) (lanes : List (Lane x choices)) → x.store.floor ≤ greatest x choices (λ (s : Store). s.floor) lanes
greatest_low x choices [] = omega arith
greatest_low x choices (lane ∷ lanes) = (let rest = greatest_low x choices lanes in omega (arith, rest))

-- a book behind a section
pub record SectionMarked (m : Marked) (commands : List (List Command)) (replies : List (List Reply)) (new : State) : Type 0 where
  pub next : Marked
  pub answers : AnswersSection m.book commands replies next.book × KeepsMark m next (some_name replies)
  pub keeps : KeepsMarked (Open new) next

module _ (x : State) (choices : Choices) (commands : List (List Command)) (replies : List (List Reply)) (new : State) (of : AllOf (AllOf IsForLanes) commands) (it : Section x choices commands replies new) (m : Marked)
    (fit : KeepsOpen x x.store m.book) (marks : MarksOpen x x.store m) where
  kept_book : SectionKept x choices commands replies new of it m.book fit
  kept_book = section_keeps x choices commands replies new of it m.book fit

  own : SectionKept x choices commands replies new of it (sharp x x.store m.book fit) (sharp_fit x x.store m.book fit)
  own = section_keeps x choices commands replies new of it (sharp x x.store m.book fit) (sharp_fit x x.store m.book fit)

  own_names : ((some_name replies ≡ false) × (own.book.group ≡ x.committed)) ⊎ ((some_name replies ≡ true) × (x.committed < own.book.group))
  own_names = section_names commands replies (sharp x x.store m.book fit) own.book of own.answers

  later : x.committed ≤ new.committed
  later = (let low = own.keeps.low in elim own_names [ inl same ↦ (let is = same.1 in omega (arith, low, is)) | inr less ↦ (let above = less.1 in omega (arith, low, above)) ])

  same_marks : new.store.marks ≡ x.store.marks
  same_marks = ap (λ (s : Store). s.marks) it.made

  floor_up : x.store.floor ≤ new.store.floor
  floor_up = (let is = ap (λ (s : Store). s.floor) it.made in let low = greatest_low x choices it.lanes in omega (arith, is, low))

  rises : Rises x new
  rises k w there =
      let t = it.together.each (Some k) in
      holds_rise t.order x t.reached (order_steady x choices commands replies new of it fit.steps (Some k)) t.follows k w (t.same ∙ there)

  all : All (λ mark. mark_group mark ≤ x.committed + 1) x.store.marks
  all = marks.still it.unpointed

  none : m.mark ≡ None
  none = no_mark x.store m.mark marks.now it.unpointed

  now : IsMark new.store.changes (check_by new.store.marks) m.mark
  now = subst (λ ms. IsMark new.store.changes (check_by ms) m.mark) (sym same_marks) (subst (λ o. IsMark new.store.changes o m.mark) (sym it.unpointed) (subst (IsMark new.store.changes None) (sym none) tt))

  -- a checkpoint that a group has from the committed one on is of a group up to that
  early : (t : ℕ) (check : Check) → x.committed ≤ t → check_at t x.store.marks ≡ Some check → check.group ≤ x.committed
  early t check from at = elim (bool_cases (nat_le (x.committed + 1) t)) [
    | inl after ↦
        let less = is_low (x.committed + 1) t after in
        let whole = marks_all t x.store.marks (All-weaker (λ mark. mark_group mark ≤ x.committed + 1) (λ mark. mark_group mark ≤ t) (λ mark low. omega (arith, low, less)) x.store.marks all) in
        absurd (none_some (check_at t x.store.marks) check (ap check_by whole ∙ it.unpointed) at)
    | inr before ↦ (let less = high (x.committed + 1) t before in let low = check_at_low t x.store.marks check at in omega (arith, less, low))
  ]

  still_at : (t : ℕ) (mark : Option Objects) → x.committed ≤ t → IsMark x.store.changes (check_at t x.store.marks) mark → IsMark new.store.changes (check_at t new.store.marks) mark
  still_at t mark from is = subst (λ ms. IsMark new.store.changes (check_at t ms) mark) (sym same_marks)
      (mark_kept x.store.changes new.store.changes (check_at t x.store.marks) mark (λ check at object.
      let late = section_late x choices commands replies new of it fit.steps in
      ap (λ cs. kept check.group cs object) late.are ∙ kept_front check.group x.committed x.store.changes late.more object (early t check from at) late.late) is)

  says : (b : Book) → b.group ≡ m.book.group → SaysMarks new.committed new.store.changes new.store.marks (record m { book = b })
  says b group = record {
    keeps = keeps;
    had = λ t from. (let on = later in let a = marks.says.had t (omega (arith, on, from)) in (a.0, a.1, still_at t a.0 (omega (arith, on, from)) a.2));
  }
    where
      keeps : b.group ≡ new.committed → IsMark new.store.changes (check_at new.committed new.store.marks) m.kept_mark
      keeps is =
          let on = later in
          let low = fit.low in
          let own_is : x.committed ≡ new.committed = omega (arith, on, low, group, is) in
          still_at new.committed m.kept_mark on (subst (λ n. IsMark x.store.changes (check_at n x.store.marks) m.kept_mark) own_is (marks.says.keeps (sym group ∙ (is ∙ sym own_is))))

  unnamed : some_name replies ≡ false → kept_book.book.group ≡ m.book.group → SectionMarked m commands replies new
  unnamed names group = record {
    next = record m { book = kept_book.book };
    answers = (kept_book.answers, subst (KeepsMark m (record m { book = kept_book.book })) (sym names) (record { mark = refl; kept = refl; since = refl }));
    keeps = record {
      book = kept_book.keeps;
      marks = record {
        now = now;
        says = says kept_book.book group;
        closed = subst (AllOf (MadeSo (IsClosedIn new))) (sym same_marks) (closed_on x new x.store.marks rises marks.closed);
        low = subst (All (λ mark. mark_group mark ≤ max new.store.floor (new.committed + 1))) (sym same_marks) (low_on x.store.floor new.store.floor x.committed new.committed x.store.marks floor_up later marks.low);
        still = λ _. subst (All (λ mark. mark_group mark ≤ new.committed + 1)) (sym same_marks)
            (All-weaker (λ mark. mark_group mark ≤ x.committed + 1) (λ mark. mark_group mark ≤ new.committed + 1) (λ mark less. (let on = later in omega (arith, less, on))) x.store.marks all);
      };
    };
  }

  named : some_name replies ≡ true → x.committed < own.book.group → SectionMarked m commands replies new
  named names above = record {
    next = record { book = kept_book.book; mark = m.mark; kept_mark = m.mark; since_marks = [] };
    answers = (kept_book.answers, subst (KeepsMark m (record { book = kept_book.book; mark = m.mark; kept_mark = m.mark; since_marks = [] })) (sym names) (record { mark = refl; kept = refl; since = refl }));
    keeps = record {
      book = kept_book.keeps;
      marks = named_open new new.store kept_book.book m.mark
          (subst (All (λ mark. mark_group mark ≤ new.committed)) (sym same_marks)
          (All-weaker (λ mark. mark_group mark ≤ x.committed + 1) (λ mark. mark_group mark ≤ new.committed) (λ mark less. (let low = own.keeps.low in omega (arith, less, above, low))) x.store.marks all)) kept_book.keeps.steps now;
    };
  }

  pub section_marked : SectionMarked m commands replies new
  section_marked = by (section_names commands replies m.book kept_book.book of kept_book.answers) own_names
    where
      by : ((some_name replies ≡ false) × (kept_book.book.group ≡ m.book.group)) ⊎ ((some_name replies ≡ true) × (m.book.group < kept_book.book.group))
          → ((some_name replies ≡ false) × (own.book.group ≡ x.committed)) ⊎ ((some_name replies ≡ true) × (x.committed < own.book.group)) → SectionMarked m commands replies new
      by (inl same) o = unnamed same.0 same.1
      by (inr less) (inr above) = named above.0 above.1
      by (inr less) (inl same) = absurd (true≢false (sym less.0 ∙ same.0))
