-- A thousand objects for each lane, and the passes for the first.
use Rattle.std.proofs.Common.{◌≡◌, ◌∙◌, ℕ, zero, suc, ◌+◌, ◌*◌, ◌<◌, ◌≤◌, true, false, if◌then◌else◌, List, [], ◌∷◌, ◌++◌, length, length-append, nat_eq, sym, subst, ap, arith, min}
use Rattle.std.proofs.lemmas.Bool.Decides.{nat_tests}
use Rattle.std.proofs.lemmas.List.Elements.{All-append, All-cons, All-nil}
use Rattle.std.specs.declared.vec.Vec.{Vec}
use Rattle.std.specs.declared.alloc.Global.{Global}
use Rattle.draid_turn.specs.declared.span.Span.{Span}
use Rattle.draid_turn.specs.Lists.{one_if, one_within}
use Rattle.draid_turn.specs.Numbers.{HoldsSome, holds, number_limit}
use Rattle.draid_turn.proofs.Sums.{count_push}
use Rattle.draid_holds.specs.Passes.{EachHoldsSome, shares}
use Rattle.draid_pool.specs.Drifts.{groups_number, passes_number}
use Rattle.draid_tables.specs.Lists.{AreLaneLists}
use Rattle.draid_tests_lanes.specs.Lists.{list_at, passes_alone, share_from}

abbrev Numbers : Type 0
Numbers = Vec Span Global

-- the first lanes have theirs
pub record Sharing (lane : ℕ) (lists : List (Vec Span Global)) : Type 0 where
  pub count : length lists ≡ lane
  pub some : EachHoldsSome lists
  pub apart : (n : ℕ) → shares n lists ≡ one_within 0 (lane * 1000) n + one_within passes_number (passes_number + min lane 1) n

holds_share : (first : ℕ) (rest : List Span) → holds first (share_from first ∷ rest) ≡ true
holds_share first rest = grind (arith, nat_tests)

share_one : (first n : ℕ) → one_if (holds n (share_from first ∷ [])) ≡ one_within first (first + 1000) n
share_one first n = grind (arith, nat_tests)

share_two : (n : ℕ) → one_if (holds n (share_from 0 ∷ passes_alone ∷ [])) ≡ one_within 0 1000 n + one_within passes_number (passes_number + 1) n
share_two n = grind (arith, nat_tests)

grows : (to n : ℕ) → one_within 0 (to + 1000) n ≡ one_within 0 to n + one_within to (to + 1000) n
grows to n = grind (arith, nat_tests)

none : (n : ℕ) → one_within 0 0 n + one_within passes_number passes_number n ≡ 0
none n = grind (arith, nat_tests)

not_first : (lane : ℕ) → nat_eq (suc lane) 0 ≡ false
not_first lane = grind (arith, nat_tests)

list_later : (lane : ℕ) → list_at (suc lane) ≡ share_from (suc lane * 1000) ∷ []
list_later lane = ap (λ b. if b then share_from (suc lane * 1000) ∷ passes_alone ∷ [] else share_from (suc lane * 1000) ∷ []) (not_first lane)

list_some : (lane : ℕ) (list : Vec Span Global) → list.items ≡ list_at lane → HoldsSome list.items
list_some zero list is = record { number = 0; held = ap (holds 0) is ∙ holds_share 0 (passes_alone ∷ []) }
list_some (suc lane) list is = record { number = suc lane * 1000; held = ap (holds (suc lane * 1000)) (is ∙ list_later lane) ∙ holds_share (suc lane * 1000) [] }

one_more : (lane n : ℕ) (list : Vec Span Global) → list.items ≡ list_at lane
    → one_within 0 (lane * 1000) n + one_within passes_number (passes_number + min lane 1) n + one_if (holds n list.items) ≡ one_within 0 ((lane + 1) * 1000) n + one_within passes_number (passes_number + min (lane + 1) 1) n
one_more zero n list is =
    let here : one_if (holds n list.items) ≡ one_within 0 1000 n + one_within passes_number (passes_number + 1) n = ap (λ s. one_if (holds n s)) is ∙ share_two n in
    let empty = none n in omega (arith, here, empty)
one_more (suc lane) n list is =
    let here : one_if (holds n list.items) ≡ one_within (suc lane * 1000) (suc lane * 1000 + 1000) n = ap (λ s. one_if (holds n s)) (is ∙ list_later lane) ∙ share_one (suc lane * 1000) n in
    let up = grows (suc lane * 1000) n in
    let to : (suc lane + 1) * 1000 ≡ suc lane * 1000 + 1000 = omega arith in
    let same : one_within 0 ((suc lane + 1) * 1000) n ≡ one_within 0 (suc lane * 1000 + 1000) n = ap (λ t. one_within 0 t n) to in
    let few : min (suc lane + 1) 1 ≡ min (suc lane) 1 = omega arith in
    let passes : one_within passes_number (passes_number + min (suc lane + 1) 1) n ≡ one_within passes_number (passes_number + min (suc lane) 1) n = ap (λ t. one_within passes_number (passes_number + t) n) few in
    omega (arith, here, up, same, passes)

pub sharing_more : (lane : ℕ) (lists lists' : List (Vec Span Global)) (list : Vec Span Global) → Sharing lane lists → list.items ≡ list_at lane → lists' ≡ lists ++ list ∷ [] → Sharing (lane + 1) lists'
sharing_more lane lists lists' list s is more = record {
  count =
      let e : length lists' ≡ length (lists ++ list ∷ []) = ap length more in
      let a = length-append lists (list ∷ []) in
      let was = s.count in omega (arith, e, a, was);
  some = subst EachHoldsSome (sym more)
      (All-append (λ (l : Numbers). HoldsSome l.items) lists (list ∷ []) s.some
      (All-cons (λ (l : Numbers). HoldsSome l.items) list [] (list_some lane list is) (All-nil (λ (l : Numbers). HoldsSome l.items))));
  apart = λ n.
      let pushed = count_push (λ (l : Numbers). holds n l.items) lists list in
      let now_is : shares n lists' ≡ shares n (lists ++ list ∷ []) = ap (shares n) more in
      let one = one_more lane n list is in
      let was = s.apart n in omega (arith, pushed, now_is, one, was);
}

at_most_one : (to few n shared : ℕ) → to ≤ 16_000 → few ≤ 1 → shared ≡ one_within 0 to n + one_within passes_number (passes_number + few) n → shared ≤ 1
at_most_one to few n shared low less is = grind (arith, nat_tests)

not_groups : (to few n shared : ℕ) → to ≤ 16_000 → few ≤ 1 → shared ≡ one_within 0 to n + one_within passes_number (passes_number + few) n → 1 ≤ shared → (n ≡ groups_number → ⊥) × (n + 1 < number_limit)
not_groups to few n shared low less is some = ((λ same. absurd (grind (arith, nat_tests))), grind (arith, nat_tests))

pub sharing_all : (lane : ℕ) (lists : List (Vec Span Global)) → lane ≤ 16 → Sharing lane lists → AreLaneLists lists
sharing_all lane lists few s = record {
  some = s.some;
  apart = λ n. at_most_one (lane * 1000) (min lane 1) n (shares n lists) (omega (arith, few)) (omega arith) (s.apart n);
  inside = λ n some. not_groups (lane * 1000) (min lane 1) n (shares n lists) (omega (arith, few)) (omega arith) (s.apart n) some;
}
