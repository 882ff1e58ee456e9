use Rattle.std.proofs.Common.{rules, refl, sym, ap, subst, ◌∙◌, ◌∷◌, List, Some}
use Rattle.std.specs.Option.{IsSome}
use Rattle.atomic_table.specs.Table.{rest}
use Rattle.draid_turn.specs.Calls.{Closes, Follows}
use Rattle.draid_turn.specs.History.{number_of}
use Rattle.draid_turn.specs.Numbers.{HoldsAll}
use Rattle.draid_turn.specs.declared.past.Past.{Past}
use Rattle.draid_turn.specs.declared.span.Span.{Span}
use Rattle.draid_turn.proofs.Keeps.{slot_value, value_is}
use Rattle.draid_turn.proofs.turn.Turn.close.Goals as goal

pub exchange-requires : goal.exchange-requires
exchange-requires g c =
    let t = c.take_in_turn.ensures.taken in
    let out = t.slot_is ∙ ap (λ m. (0, Some t.value) ∷ m.1) c.draw-ticket.ensures.waiting in (search rules, (Some t.value, out ∙ ap (λ l. (0, Some t.value) ∷ rest l) (sym out)))

pub unwrap-requires : goal.unwrap-requires
unwrap-requires g c =
    let t = c.take_in_turn.ensures.taken in
    let out = t.slot_is ∙ ap (λ m. (0, Some t.value) ∷ m.1) c.draw-ticket.ensures.waiting in
    subst IsSome (sym (slot_value c.take_in_turn.new.seat.me.1 c.exchange.result (Some t.value) c.exchange.ensures.2 out)) refl

pub returns : goal.returns
returns g c =
    let T = g.row.T.Denot in
    let t = c.take_in_turn.ensures.taken in
    let waiting = c.draw-ticket.ensures.waiting in
    let out = t.slot_is ∙ ap (λ m. (0, Some t.value) ∷ m.1) waiting in
    let seen = ap (λ m. m.0.seen) waiting ∙ ap (λ d. d.seen) c.pass.view_is in
    let numbers = ap (λ m. m.0.numbers) waiting ∙ ap (λ d. d.numbers) c.pass.view_is in
    let own = ap (λ m. m.0.own) waiting ∙ ap (λ d. d.own) c.pass.view_is in
    subst (Closes g.T.Stand.step c.args.self.first c.args.pass) (value_is c.take_in_turn.new.seat.me.1 c.exchange.result t.value c.unwrap.result c.exchange.ensures.2 out c.unwrap.ensures) record {
      log = t.log;
      stood = t.kept;
      follows = subst (λ (z : List Span × List (Past T)). Follows number_of z.0 t.log z.1) (λ k. (numbers k, seen k)) t.follows;
      whole = λ all. sym own ∙ t.made_all (subst HoldsAll (sym numbers) all);
    }
