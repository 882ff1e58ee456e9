use Rattle.std.proofs.Common.{rules, sym, subst}
use Rattle.draid_turn.specs.Rule.{Rule}
use Rattle.atomic_table.specs.Table.{Splits}
use Rattle.draid_turn.specs.Views.{giver_view, new_view}
use Rattle.draid_turn.specs.History.{Stood, number_of}
use Rattle.draid_turn.proofs.Keeps.{splits_keep}
use Rattle.draid_turn.proofs.turn.Turn.share.Goals as goal

pub split_seat-requires : goal.split_seat-requires
split_seat-requires g c = (
  search rules,
  search rules,
  subst (λ n. Splits (Rule (Stood g.T.Stand.step c.self.inside.table.shared.key.value) number_of) c.args.seat.now.id c.args.seat.now.me.0 (giver_view n c.args.seat.now.me.0) (new_view n c.args.seat.now.me.0))
      (sym c.requires.given)
      (splits_keep (Stood g.T.Stand.step c.self.inside.table.shared.key.value) number_of _ _ c.args.numbers.now c.requires.held c.requires.other),
)
