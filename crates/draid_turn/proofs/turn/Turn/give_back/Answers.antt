use Rattle.std.proofs.Common.{rules, sym, ap, subst}
use Rattle.draid_turn.specs.History.{Stood, number_of}
use Rattle.draid_turn.proofs.Keeps.{gives_keep}
use Rattle.draid_turn.proofs.turn.Turn.give_back.Goals as goal

pub fetch_add-requires : goal.fetch_add-requires
fetch_add-requires g c = (
  search rules,
  search rules,
  gives_keep (Stood g.T.Stand.step c.self.inside.table.shared.key.value) number_of _ _ _ c.args.left.now.value c.requires.holding.0 c.requires.holding.1
      (subst (λ f. Stood g.T.Stand.step f c.args.seat.now.me.0.seen c.args.left.now.value) (sym (ap (λ d. d.first) c.self.view_is)) c.requires.stood),
)
