use Rattle.std.proofs.Common.{rules, refl, ap, ◌∙◌}
use Rattle.draid_turn.specs.History.{Stood, number_of}
use Rattle.draid_turn.proofs.Keeps.{draws_keep, looks_keep}
use Rattle.draid_turn.proofs.turn.Turn.draw.Goals as goal

pub load-next-requires : goal.load-next-requires
load-next-requires g c = (search rules, search rules, looks_keep (Stood g.T.Stand.step c.self.inside.table.shared.key.value) number_of _ _ _)

pub compare_exchange-found-requires : goal.compare_exchange-found-requires
compare_exchange-found-requires g c = (
  search rules,
  search rules,
  draws_keep (Stood g.T.Stand.step c.self.inside.table.shared.key.value) number_of _ _ _ _ _ (ap (λ m. m.0.stage) (c.load-next.ensures.2 ∙ c.loop.invariant.1) ∙ c.requires.idle.0) refl (search rules),
)
