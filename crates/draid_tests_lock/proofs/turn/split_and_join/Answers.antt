use Rattle.std.proofs.Common.{◌≡◌, ◌∙◌, ◌≤◌, ap, sym, subst, arith}
use Rattle.draid_turn.specs.Lists.{one_if}
use Rattle.draid_turn.specs.Numbers.{all_numbers, holds}
use Rattle.draid_holds.specs.Passes.{AreOf, KeepsOne, holders, shares}
use Rattle.draid_tests_lock.proofs.Apart.{all_held, keeps_two, new_are_of, new_holders, two_fit}
use Rattle.draid_tests_lock.proofs.turn.split_and_join.Goals as goal

pub split_each-passes-requires-clause-apart : goal.split_each-passes-requires-clause-apart
split_each-passes-requires-clause-apart g c n =
    let fit = two_fit n (shares n c.args.numbers.now) (c.requires.apart n) in
    subst (λ ns. shares n c.args.numbers.now ≤ one_if (holds n ns)) (sym c.in-Ok.ensures.all) fit

pub split_each-passes-requires-clause-other : goal.split_each-passes-requires-clause-other
split_each-passes-requires-clause-other g c =
    subst (λ ns. KeepsOne ns c.args.numbers.now) (sym c.in-Ok.ensures.all) (keeps_two c.args.numbers.now c.requires.apart)

pub close_each-log-requires-clause-each : goal.close_each-log-requires-clause-each
close_each-log-requires-clause-each g c = subst (AreOf c.in-Ok.turn) (sym c.split_each-passes.ensures.new) (new_are_of c.in-Ok.first c.in-Ok.turn c.in-Ok.ensures.own c.args.numbers.now)

pub close_each-log-requires-clause-all : goal.close_each-log-requires-clause-all
close_each-log-requires-clause-all g c n lt =
    let left = c.split_each-passes.ensures.left n in
    let all : one_if (holds n c.in-Ok.first.numbers) ≡ one_if (holds n all_numbers) = ap (λ ns. one_if (holds n ns)) c.in-Ok.ensures.all in
    let held = all_held n lt in
    let new : holders n c.split_each-passes.result.items ≡ shares n c.args.numbers.now = ap (holders n) c.split_each-passes.ensures.new ∙ new_holders c.in-Ok.first n c.args.numbers.now in
    omega (arith, left, all, held, new)
