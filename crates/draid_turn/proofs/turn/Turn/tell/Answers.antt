use Rattle.std.proofs.Common.{rules, [], sym, subst, All}
use Rattle.std.proofs.lemmas.List.Elements.{All-cons, All-nil}
use Rattle.draid_turn.specs.History.{Stood, number_of}
use Rattle.draid_turn.specs.Numbers.{IsOwn}
use Rattle.draid_turn.proofs.Keeps.{tells_keep}
use Rattle.draid_turn.proofs.turn.Turn.tell.Goals as goal

pub load-requires : goal.load-requires
load-requires g c =
    let own = IsOwn number_of c.args.seat.now.me.0.numbers in (
      search rules,
      search rules,
      tells_keep (Stood g.T.Stand.step c.self.inside.table.shared.key.value) number_of _ _ _ g.J.Added.added c.requires.holding
          (subst (All own) (sym c.requires.added) (All-cons own _ [] c.requires.number (All-nil own))) c.requires.some,
    )
