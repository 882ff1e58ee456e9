-- A number of its own for each lane.
use Rattle.std.proofs.Common.{◌≡◌, ℕ, ◌+◌, ◌-◌, ◌≤◌, true, List, [], ◌∷◌, ◌++◌, length, length-append, nat_eq, sym, refl, subst, ap, ◌∙◌, arith, All}
use Rattle.std.proofs.lemmas.Bool.Decides.{nat_tests}
use Rattle.std.proofs.lemmas.List.Elements.{All-append, All-cons, All-nil}
use Rattle.std.specs.declared.vec.Vec.{Vec}
use Rattle.std.specs.declared.alloc.Global.{Global}
use Rattle.draid_turn.specs.declared.span.Span.{Span}
use Rattle.draid_turn.specs.Lists.{one_if, one_within}
use Rattle.draid_turn.specs.Numbers.{HoldsSome, holds, number_limit}
use Rattle.draid_turn.proofs.Sums.{count_push, within_up}
use Rattle.draid_holds.specs.Passes.{shares}

abbrev Numbers : Type 0
Numbers = Vec Span Global

abbrev pub own_span : ℕ → Span
own_span lane = record { first = lane; last = lane }

-- the first lanes have theirs
pub record Owning (lane : ℕ) (lists : List (Vec Span Global)) : Type 0 where
  pub count : length lists ≡ lane
  pub some : All (λ (list : Vec Span Global). HoldsSome list.items) lists
  pub apart : (n : ℕ) → shares n lists ≡ one_within 0 lane n

pub holds_own : (lane : ℕ) → holds lane (own_span lane ∷ []) ≡ true
holds_own lane = grind (arith, nat_tests)

own_one : (lane n : ℕ) → one_if (holds n (own_span lane ∷ [])) ≡ one_if (nat_eq lane n)
own_one lane n = grind (arith, nat_tests)

pub owning_start : (lists : List (Vec Span Global)) → lists ≡ [] → Owning 0 lists
owning_start lists none = record {
  count = ap length none;
  some = λ k d lt. let e : length lists ≡ 0 = ap length none in absurd (omega (arith, lt, e));
  apart = λ n. ap (shares n) none ∙ sym (empty n);
}
  where
    empty : (n : ℕ) → one_within 0 0 n ≡ 0
    empty n = grind (arith, nat_tests)

pub owning_more : (lane : ℕ) (lists lists' : List (Vec Span Global)) (list : Vec Span Global) → Owning lane lists → list.items ≡ own_span lane ∷ [] → lists' ≡ lists ++ list ∷ [] → Owning (lane + 1) lists'
owning_more lane lists lists' list r own more = record {
  count =
      let e : length lists' ≡ length (lists ++ list ∷ []) = ap length more in
      let a = length-append lists (list ∷ []) in
      let was = r.count in omega (arith, e, a, was);
  some = subst (All (λ (l : Numbers). HoldsSome l.items)) (sym more)
      (All-append (λ (l : Numbers). HoldsSome l.items) lists (list ∷ []) r.some
      (All-cons (λ (l : Numbers). HoldsSome l.items) list [] record { number = lane; held = ap (holds lane) own ∙ holds_own lane } (All-nil (λ (l : Numbers). HoldsSome l.items))));
  apart = λ n.
      let pushed = count_push (λ (l : Numbers). holds n l.items) lists list in
      let now_is : shares n lists' ≡ shares n (lists ++ list ∷ []) = ap (shares n) more in
      let one : one_if (holds n list.items) ≡ one_if (nat_eq lane n) = ap (λ s. one_if (holds n s)) own ∙ own_one lane n in
      let up = within_up 0 lane (lane + 1) n refl (omega arith) in
      let was = r.apart n in omega (arith, pushed, now_is, one, up, was);
}

pub four_fit : (n shared : ℕ) → shared ≡ one_within 0 4 n → shared ≤ one_within 0 (number_limit - 1) n
four_fit n shared is = grind (arith, nat_tests)
