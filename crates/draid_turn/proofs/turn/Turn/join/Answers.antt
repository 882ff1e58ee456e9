use Rattle.std.proofs.Common.{rules, ap, sym, subst, ◌∙◌, ◌≤◌, length}
use Rattle.draid_turn.specs.History.{Stood, number_of}
use Rattle.draid_turn.proofs.Keeps.{joins_keep, learns_keep}
use Rattle.draid_turn.proofs.Beginnings.{shorter_longer}
use Rattle.draid_turn.specs.Numbers.{HoldsSome}
use Rattle.draid_turn.specs.Views.{learned_view}
use Rattle.draid_turn.proofs.Spans.{some_append}
use Rattle.draid_turn.proofs.turn.Turn.join.Goals as goal

pub join_seat-requires : goal.join_seat-requires
join_seat-requires g c = (
  search rules,
  search rules,
  ap (λ m. m.1) c.other.invariant.idle,
  search rules,
  joins_keep (Stood g.T.Stand.step c.self.inside.table.shared.key.value) number_of _ _ _ _ (ap (λ m. m.0.stage) c.pass.invariant.idle) (ap (λ m. m.0.stage) c.other.invariant.idle),
)

pub load-requires : goal.load-requires
load-requires g c = (
  search rules,
  search rules,
  learns_keep (Stood g.T.Stand.step c.self.inside.table.shared.key.value) number_of _ _ _
      (subst (λ m. length m.0.heard ≤ length m.0.seen) (sym c.join_seat.ensures.2) (shorter_longer c.pass.inside.seat.me.0.seen c.other.inside.seat.me.0.seen)),
)

pub invariant_of-pass : goal.invariant_of-pass
invariant_of-pass g c =
    let me = c.load.ensures.2.0 in
    let united = c.join_seat.ensures.2 in
    record {
      idle = search rules;
      some = subst (λ m. HoldsSome m.0.numbers) (sym (me ∙ ap (λ m. (learned_view m.0, m.1)) united)) (some_append c.pass.inside.seat.me.0.numbers c.other.inside.seat.me.0.numbers c.pass.invariant.some);
    }
