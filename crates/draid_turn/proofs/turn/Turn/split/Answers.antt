use Rattle.std.proofs.Common.{rules, not, ◌∙◌, ◌&&◌, ap, sym, subst}
use Rattle.draid_turn.specs.Numbers.{HoldsOther, HoldsSome, holds}
use Rattle.draid_turn.proofs.Spans.{holds_without, some_left}
use Rattle.draid_turn.proofs.turn.Turn.split.Goals as goal

pub invariant_of-pass : goal.invariant_of-pass
invariant_of-pass g c =
    let giver = c.share-seat.ensures.giver.1 in
    let was = c.pass.inside.seat.me.0.numbers in
    let other = subst (λ d. HoldsOther d.numbers c.args.numbers.now) (sym c.pass.view_is) c.requires.other in
    record { idle = search rules; some = subst (λ m. HoldsSome m.0.numbers) (sym giver) (some_left was c.args.numbers.now other) }

pub returns-clause-left : goal.returns-clause-left
returns-clause-left g c n =
    let was = ap (λ d. d.numbers) c.pass.view_is in
    ap (λ m. holds n m.0.numbers) c.share-seat.ensures.giver.1
    ∙ (holds_without n c.pass.inside.seat.me.0.numbers c.args.numbers.now ∙ (λ k. holds n (was k) && not (holds n c.args.numbers.now)))
