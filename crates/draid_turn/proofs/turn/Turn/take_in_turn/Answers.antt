use Rattle.std.proofs.Common.{rules, sym, ap, ◌≡◌, ◌∙◌, subst}
use Rattle.draid_turn.specs.History.{Stood, number_of}
use Rattle.draid_turn.specs.Steps.{Takes}
use Rattle.draid_turn.proofs.Keeps.{takes_keep}
use Rattle.draid_turn.proofs.turn.Turn.take_in_turn.Goals as goal

pub load-served-requires : goal.load-served-requires
load-served-requires g c = (
  search rules,
  search rules,
  takes_keep (Stood g.T.Stand.step c.self.inside.table.shared.key.value) number_of g.I.Kept.kept (λ log x k. c.requires.kept log x (subst (λ d. Stood g.T.Stand.step d.first log x) c.self.view_is k)) c.self.inside.table.shared.table_id.slots
      c.loop.seat.id c.loop.seat.me c.args.ticket (ap (λ m. m.0.stage) c.loop.invariant.1 ∙ c.requires.waiting.0),
)

pub loop-preserved : goal.loop-preserved
loop-preserved g c =
    let was : c.loop.seat.me ≡ c.args.seat.now.me = c.loop.invariant.1 in
    let not = (c.load-served.ensures.2 c.args.ticket (ap (λ m. m.0.stage) was ∙ c.requires.waiting.0)).1 (λ e. c.if-served-ticket.false (sym e)) in
    (c.load-served.ensures.0 ∙ c.loop.invariant.0, not ∙ was)

pub returns-then-served-ticket-clause-taken : goal.returns-then-served-ticket-clause-taken
returns-then-served-ticket-clause-taken g c =
    let was : c.loop.seat.me ≡ c.args.seat.now.me = c.loop.invariant.1 in
    subst (λ m. Takes g.I.Kept.kept number_of m c.args.ticket c.load-served.new.seat.me) was
    ((c.load-served.ensures.2 c.args.ticket (ap (λ m. m.0.stage) was ∙ c.requires.waiting.0)).0 (sym c.if-served-ticket.true))
