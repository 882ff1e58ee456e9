use Rattle.std.proofs.Common.{◌∙◌, ap, [], ◌∷◌, ◌++◌, Some}
use Rattle.draid_turn.proofs.Keeps.{opens_at}
use Rattle.draid_turn.proofs.turn.Turn.new.Goals as goal

pub new-requires : goal.new-requires
new-requires g c = opens_at g.T.Stand.step c.args.value _ _ (c.push_reserved.ensures.items ∙ ap (λ xs. xs ++ Some c.args.value ∷ []) c.in-Ok.ensures.items) c.of-first.ensures
