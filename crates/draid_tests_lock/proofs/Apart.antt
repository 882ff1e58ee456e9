-- Passes that were split off for lists of numbers.
use Rattle.std.proofs.Common.{◌≡◌, ℕ, ◌<◌, ◌≤◌, List, [], ◌∷◌, refl, arith}
use Rattle.std.proofs.lemmas.Bool.Decides.{nat_tests}
use Rattle.std.proofs.lemmas.List.Elements.{All-cons, All-nil}
use Rattle.std.proofs.lemmas.List.Sums.{sum_by-cons}
use Rattle.std.specs.declared.vec.Vec.{Vec}
use Rattle.std.specs.declared.alloc.Global.{Global}
use Rattle.draid_turn.specs.declared.span.Span.{Span}
use Rattle.draid_turn.specs.Calls.{Caller, Lock, newcomer}
use Rattle.draid_turn.specs.Lists.{one_if, one_within}
use Rattle.draid_turn.specs.Numbers.{all_numbers, holds, number_limit}
use Rattle.draid_turn.proofs.Spans.{all_within}
use Rattle.draid_holds.specs.Passes.{AreOf, KeepsOne, holders, newcomers, shares}

abbrev Numbers : Type 0
Numbers = Vec Span Global

module _ {E : Type 0} (first : Caller E) where
  pub new_holders : (n : ℕ) (lists : List (Vec Span Global)) → holders n (newcomers first lists) ≡ shares n lists
  new_holders n [] = refl
  new_holders n (list ∷ lists) =
      let rest = new_holders n lists in
      let passes = sum_by-cons (λ (c : Caller E). one_if (holds n c.numbers)) (newcomer first.table first.seen list.items) (newcomers first lists) in
      let mine = sum_by-cons (λ (l : Numbers). one_if (holds n l.items)) list lists in omega (arith, rest, passes, mine)

  pub new_are_of : {T : Type 0} (lock : Lock T) → first.table ≡ lock.table → (lists : List (Vec Span Global)) → AreOf lock (newcomers first lists)
  new_are_of lock own [] = All-nil (λ (c : Caller E). c.table ≡ lock.table)
  new_are_of lock own (list ∷ lists) = All-cons (λ (c : Caller E). c.table ≡ lock.table) (newcomer first.table first.seen list.items) (newcomers first lists) own (new_are_of lock own lists)

pub two_fit : (n shared : ℕ) → shared ≡ one_within 0 2 n → shared ≤ one_if (holds n all_numbers)
two_fit n shared is = let all = all_within n in let less : one_within 0 2 n ≤ one_within 0 number_limit n = grind (arith, nat_tests) in omega (arith, is, all, less)

pub keeps_two : (lists : List (Vec Span Global)) → ((n : ℕ) → shares n lists ≡ one_within 0 2 n) → KeepsOne all_numbers lists
keeps_two lists are = record { number = 2; there = refl; kept = are 2 }

pub all_held : (n : ℕ) → n < number_limit → one_if (holds n all_numbers) ≡ 1
all_held n lt = let all = all_within n in let inside : one_within 0 number_limit n ≡ 1 = grind (arith, nat_tests) in omega (arith, all, inside)
