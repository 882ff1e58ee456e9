-- What lanes say of the objects, one lane after another.
use Rattle.std.proofs.Common.{◌≡◌, ◌∙◌, ◌∷◌, ◌≤◌, ◌+◌, arith, ℕ, zero, suc, Bool, true, false, List, [], Option, Some, if◌then◌else◌, length, refl, sym, ap, subst}
use Rattle.std.specs.Prelude.{nat_eq, slice_get}
use Rattle.std.specs.HashMap.{get}
use Rattle.std.specs.declared.vec.Vec.{Vec}
use Rattle.std.specs.declared.alloc.Global.{Global}
use Rattle.std.proofs.lemmas.List.Sums.{sum_by-cons}
use Rattle.draid_names.specs.declared.pointer.Pointer.{Pointer}
use Rattle.draid_turn.specs.Lists.{one_if}
use Rattle.draid_turn.specs.Numbers.{holds}
use Rattle.draid_turn.specs.declared.span.Span.{Span}
use Rattle.draid_holds.specs.Passes.{shares}
use Rattle.draid_session.specs.Known.{Known}
use Rattle.draid_pool.specs.Knows.{FitsKnown, KnowsTable}
use Rattle.draid_pool.specs.declared.own.Own.{Own}
use Rattle.draid_lanes.specs.Telling.{TeachesSo, beside}
use Rattle.draid_section.specs.Told.{LearnEach}

-- a table by another, for objects one by one
knows_as : (known : Known) (table now : ℕ → Option Pointer) → ((o : ℕ) → now o ≡ table o) → KnowsTable table known → KnowsTable now known
knows_as known table now same knows o = subst (FitsKnown (known o)) (sym (same o)) (knows o)

-- how many lists have a number, with one more in front
shares_more : (n : ℕ) (list : Vec Span Global) (lists : List (Vec Span Global)) → shares n (list ∷ lists) ≡ one_if (holds n list.items) + shares n lists
shares_more n list lists = sum_by-cons (λ (l : Vec Span Global). one_if (holds n l.items)) list lists

module _ {J : Type 0} (learns : J → J → Known → Known → Type 0) (first : ℕ → Option Pointer) where
  -- a lane's job says so of the objects of its list, of which it had the pool's pointers first and has these now
  pub record Shows (list : Vec Span Global) (own : Own) (job done : J) : Type 0 where
    pub owns : ℕ → Bool
    pub table : ℕ → Option Pointer
    pub owns_list : (o : ℕ) → owns o ≡ holds o list.items
    pub began : (o : ℕ) → holds o list.items ≡ true → table o ≡ first o
    pub teach : (rest : ℕ → Option Pointer) (known : Known) → KnowsTable (beside owns table rest) known → TeachesSo (learns job done) known (beside owns (λ o. get nat_eq own.objects o) rest)

  -- the lanes' objects have their pointers then, and the others are as before
  pub record ShownAll (lists : List (Vec Span Global)) (owns : List Own) (jobs done : List J) (old : ℕ → Option Pointer) (known : Known) : Type 0 where
    pub later : Known
    pub learn : LearnEach learns jobs done known later
    pub table : ℕ → Option Pointer
    pub fits : KnowsTable table later
    pub taken : (i : ℕ) (list : Vec Span Global) (own : Own) (o : ℕ) → slice_get lists i ≡ Some list → slice_get owns i ≡ Some own → holds o list.items ≡ true → table o ≡ get nat_eq own.objects o
    pub others : (o : ℕ) → shares o lists ≡ 0 → table o ≡ old o

  abbrev with_list : Vec Span Global → Own → (ℕ → Option Pointer) → ℕ → Option Pointer
  with_list list own old o = if holds o list.items then get nat_eq own.objects o else old o

  pick : (b : Bool) (x y z : Option Pointer) → (b ≡ true → x ≡ z) → (b ≡ false → y ≡ z) → (if b then x else y) ≡ z
  pick true x y z one two = one refl
  pick false x y z one two = two refl

  pub shown_all : (lists : List (Vec Span Global)) (owns : List Own) (jobs done : List J) (old : ℕ → Option Pointer) → length owns ≡ length lists → length jobs ≡ length lists → length done ≡ length lists
      → ((i : ℕ) (list : Vec Span Global) (own : Own) (job end : J) → slice_get lists i ≡ Some list → slice_get owns i ≡ Some own → slice_get jobs i ≡ Some job → slice_get done i ≡ Some end → Shows list own job end)
      → ((o : ℕ) → shares o lists ≤ 1) → ((o : ℕ) → 1 ≤ shares o lists → old o ≡ first o) → (known : Known) → KnowsTable old known → ShownAll lists owns jobs done old known
  shown_all [] [] [] [] old many_owns many_jobs many_done each apart agree known knows = record { later = known; learn = refl; table = old; fits = knows; taken = λ i list own o there. absurd (cc); others = λ o none. refl }
  shown_all [] (own ∷ owns) jobs done old many_owns many_jobs many_done each apart agree known knows = absurd (omega (arith, many_owns))
  shown_all [] [] (job ∷ jobs) done old many_owns many_jobs many_done each apart agree known knows = absurd (omega (arith, many_jobs))
  shown_all [] [] [] (end ∷ done) old many_owns many_jobs many_done each apart agree known knows = absurd (omega (arith, many_done))
  shown_all (list ∷ lists) [] jobs done old many_owns many_jobs many_done each apart agree known knows = absurd (omega (arith, many_owns))
  shown_all (list ∷ lists) (own ∷ owns) [] done old many_owns many_jobs many_done each apart agree known knows = absurd (omega (arith, many_jobs))
  shown_all (list ∷ lists) (own ∷ owns) (job ∷ jobs) [] old many_owns many_jobs many_done each apart agree known knows = absurd (omega (arith, many_done))
  shown_all (list ∷ lists) (own ∷ owns) (job ∷ jobs) (end ∷ done) old many_owns many_jobs many_done each apart agree known knows =
      let s = each 0 list own job end refl refl refl refl in
      let t = s.teach old known (knows_as known old (beside s.owns s.table old) (λ o. pick (s.owns o) (s.table o) (old o) (old o) (λ mine. began s o mine) (λ other. refl)) knows) in
      let now = with_list list own old in
      let fits : KnowsTable now t.new = knows_as t.new (beside s.owns (λ o. get nat_eq own.objects o) old) now (λ o. ap (λ b. if b then get nat_eq own.objects o else old o) (sym (s.owns_list o))) t.fits in
      let r = shown_all lists owns jobs done now (omega (arith, many_owns)) (omega (arith, many_jobs)) (omega (arith, many_done)) (λ i l w j e a b c d. each (suc i) l w j e a b c d) fewer kept t.new fits in
      record {
        later = r.later;
        learn = (t.new, t.learned, r.learn);
        table = r.table;
        fits = r.fits;
        taken = λ i l w o there own_is held. taken_at r.taken (λ o none. r.others o none) i l w o there own_is held;
        others = λ o none. (let more = shares_more o list lists in r.others o (omega (arith, more, none)) ∙ ap (λ b. if b then get nat_eq own.objects o else old o) (not_here o (omega (arith, more, none))));
      }
    where
      began : (s : Shows list own job end) (o : ℕ) → s.owns o ≡ true → s.table o ≡ old o
      began s o mine =
          let held : holds o list.items ≡ true = sym (s.owns_list o) ∙ mine in
          let more = shares_more o list lists in
          let one : one_if (holds o list.items) ≡ 1 = ap one_if held in
          s.began o held ∙ sym (agree o (omega (arith, more, one)))

      not_here : (o : ℕ) → one_if (holds o list.items) ≡ 0 → holds o list.items ≡ false
      not_here o none = by (holds o list.items) refl
        where
          by : (b : Bool) → holds o list.items ≡ b → b ≡ false
          by true is = absurd (let one : one_if (holds o list.items) ≡ 1 = ap one_if is in omega (arith, one, none))
          by false is = refl

      fewer : (o : ℕ) → shares o lists ≤ 1
      fewer o = (let more = shares_more o list lists in let all = apart o in omega (arith, more, all))

      kept : (o : ℕ) → 1 ≤ shares o lists → with_list list own old o ≡ first o
      kept o some =
          let more = shares_more o list lists in
          let all = apart o in
          ap (λ b. if b then get nat_eq own.objects o else old o) (not_here o (omega (arith, more, all, some))) ∙ agree o (omega (arith, more, some))

      taken_at : {table : ℕ → Option Pointer} → ((i : ℕ) (l : Vec Span Global) (w : Own) (o : ℕ) → slice_get lists i ≡ Some l → slice_get owns i ≡ Some w → holds o l.items ≡ true → table o ≡ get nat_eq w.objects o)
          → ((o : ℕ) → shares o lists ≡ 0 → table o ≡ with_list list own old o)
          → (i : ℕ) (l : Vec Span Global) (w : Own) (o : ℕ) → slice_get (list ∷ lists) i ≡ Some l → slice_get (own ∷ owns) i ≡ Some w → holds o l.items ≡ true → table o ≡ get nat_eq w.objects o
      taken_at taken others zero l w o there own_is held =
          let same : list ≡ l = cc in
          let as_own : own ≡ w = cc in
          let here : holds o list.items ≡ true = ap (λ (v : Vec Span Global). holds o v.items) same ∙ held in
          let more = shares_more o list lists in
          let all = apart o in
          let one : one_if (holds o list.items) ≡ 1 = ap one_if here in
          others o (omega (arith, more, all, one)) ∙ (ap (λ b. if b then get nat_eq own.objects o else old o) here ∙ ap (λ (v : Own). get nat_eq v.objects o) as_own)
      taken_at taken others (suc i) l w o there own_is held = taken i l w o there own_is held
