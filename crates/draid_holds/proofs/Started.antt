-- Lanes that were given their passes and works.
use Rattle.std.proofs.Common.{◌≡◌, ℕ, suc, ◌+◌, ◌-◌, ◌^◌, ◌<◌, ◌≤◌, List, [], ◌∷◌, length, get_or, drop, map, sym, ap, refl, subst, arith, All}
use Rattle.std.proofs.lemmas.Bool.Decides.{nat_tests}
use Rattle.std.proofs.lemmas.List.Elements.{All-cons, All-nil}
use Rattle.std.proofs.lemmas.List.Sums.{sum_by-cons}
use Rattle.std.specs.declared.vec.Vec.{Vec}
use Rattle.std.specs.declared.alloc.Global.{Global}
use Rattle.draid_turn.specs.declared.past.Past.{Past}
use Rattle.draid_turn.specs.declared.span.Span.{Span}
use Rattle.draid_turn.specs.Calls.{Caller, Lock, newcomer}
use Rattle.draid_turn.specs.Lists.{one_if, one_within}
use Rattle.draid_turn.specs.Numbers.{all_numbers, holds, number_limit}
use Rattle.draid_turn.proofs.Spans.{all_within}
use Rattle.draid_holds.specs.All.{AllMayWork}
use Rattle.draid_holds.specs.Lanes.{MayWork, pass_of, work_of}
use Rattle.draid_holds.specs.Passes.{KeepsOne, holders, shares}
use Rattle.draid_holds.specs.declared.lanes.Lane.{Lane}

abbrev Numbers : Type 0
Numbers = Vec Span Global

module _ {T W : Type 0} (needs : W → Lock T → Caller (Past T) → Type 0) (lock : Lock T) where
  abbrev pub new_pass : Numbers → Caller (Past T)
  new_pass list = newcomer lock.table [] list.items

  pub started : (lanes : List (Lane T W)) (lists : List (Vec Span Global)) (works : List W) → map pass_of lanes ≡ map new_pass lists → map work_of lanes ≡ works → AllMayWork needs lists works lock → All (MayWork needs lock) lanes
  started [] lists works passes_are works_are may = All-nil (MayWork needs lock)
  started (x ∷ lanes) [] works passes_are works_are may = let e : length (map pass_of (x ∷ lanes)) ≡ 0 = ap length passes_are in absurd (omega (arith, e))
  started (x ∷ lanes) (list ∷ lists) [] passes_are works_are may = let e : length (map work_of (x ∷ lanes)) ≡ 0 = ap length works_are in absurd (omega (arith, e))
  started (x ∷ lanes) (list ∷ lists) (work ∷ works) passes_are works_are may =
      let pass : x.pass ≡ new_pass list = ap (λ ps. get_or ps 0 x.pass) passes_are in
      let same : x.work ≡ work = ap (λ ws. get_or ws 0 x.work) works_are in
      All-cons (MayWork needs lock) x lanes
      record {
        own = ap (λ (c : Caller (Past T)). c.table) pass;
        needed = subst (λ (z : W × Caller (Past T)). needs z.0 lock z.1) (λ k. (sym same k, sym pass k)) (may 0 work list (omega arith));
      }
      (started lanes lists works (ap (drop 1) passes_are) (ap (drop 1) works_are) (λ i d s lt. may (suc i) d s (omega (arith, lt))))

  pub new_holders : (n : ℕ) (lists : List (Vec Span Global)) → holders n (map new_pass lists) ≡ shares n lists
  new_holders n [] = refl
  new_holders n (list ∷ lists) =
      let rest = new_holders n lists in
      let passes = sum_by-cons (λ (c : Caller (Past T)). one_if (holds n c.numbers)) (new_pass list) (map new_pass lists) in
      let mine = sum_by-cons (λ (l : Numbers). one_if (holds n l.items)) list lists in omega (arith, rest, passes, mine)

-- numbers that lie below the greatest are all numbers' own
pub shares_fit : (lists : List (Vec Span Global)) → ((n : ℕ) → shares n lists ≤ one_within 0 (number_limit - 1) n) → (n : ℕ) → shares n lists ≤ one_if (holds n all_numbers)
shares_fit lists few n =
    let low = few n in
    let all = all_within n in
    let less : one_within 0 (number_limit - 1) n ≤ one_within 0 number_limit n = grind (arith, nat_tests) in omega (arith, low, all, less)

pub keeps_greatest : (lists : List (Vec Span Global)) → ((n : ℕ) → shares n lists ≤ one_within 0 (number_limit - 1) n) → KeepsOne all_numbers lists
keeps_greatest lists few =
    let low = few (2 ^ 32 + 18) in
    let none : one_within 0 (number_limit - 1) (2 ^ 32 + 18) ≡ 0 = refl in
    record { number = 2 ^ 32 + 18; there = refl; kept = omega (arith, low, none) }

pub all_held : (n : ℕ) → n < number_limit → one_if (holds n all_numbers) ≡ 1
all_held n lt = let all = all_within n in let inside : one_within 0 number_limit n ≡ 1 = grind (arith, nat_tests) in omega (arith, all, inside)
