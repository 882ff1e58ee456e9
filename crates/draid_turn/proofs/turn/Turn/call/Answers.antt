use Rattle.std.proofs.Common.{◌≡◌, ◌∙◌, ◌∷◌, ◌++◌, [], List, Some, sym, ap, subst}
use Rattle.draid_turn.specs.declared.past.Past.{Past}
use Rattle.draid_turn.specs.declared.span.Span.{Span}
use Rattle.draid_turn.specs.Calls.{Follows}
use Rattle.draid_turn.specs.History.{Stood, number_of}
use Rattle.draid_turn.proofs.Histories.{stood_more}
use Rattle.draid_turn.proofs.Keeps.{one_value}
use Rattle.draid_turn.proofs.turn.Turn.call.Goals as goal

pub act_in_turn-left-requires-clause-ready : goal.act_in_turn-left-requires-clause-ready
act_in_turn-left-requires-clause-ready g c =
    let T = g.row.T.Denot in
    let t = c.take_in_turn.ensures.taken in
    let waiting = c.draw-ticket.ensures.waiting in
    let numbers = ap (λ m. m.0.numbers) waiting ∙ ap (λ d. d.numbers) c.pass.view_is in
    let seen = ap (λ m. m.0.seen) waiting ∙ ap (λ d. d.seen) c.pass.view_is in
    let follows = subst (λ (z : List Span × List (Past T)). Follows number_of z.0 t.log z.1) (λ k. (numbers k, seen k)) t.follows in record {
      value = t.value;
      is = t.slot_is ∙ ap (λ m. (0, Some t.value) ∷ m.1) waiting;
      so = c.requires.ready t.log t.value t.kept follows;
    }

pub give_back-requires-clause-holding : goal.give_back-requires-clause-holding
give_back-requires-clause-holding g c =
    let t = c.take_in_turn.ensures.taken in
    let told = c.tell.ensures.told in
    let left = c.act_in_turn-left.ensures.left in (
      record { ticket = c.draw-ticket.result; is = ap (λ m. m.0.stage) told ∙ (ap (λ m. m.0.stage) left ∙ ap (λ v. v.stage) t.view_is) },
      ap (λ m. m.1) told ∙ ap (λ m. m.1) left,
    )

pub give_back-requires-clause-stood : goal.give_back-requires-clause-stood
give_back-requires-clause-stood g c =
    let T = g.row.T.Denot in
    let t = c.take_in_turn.ensures.taken in
    let waiting = c.draw-ticket.ensures.waiting in
    let numbers = ap (λ m. m.0.numbers) waiting ∙ ap (λ d. d.numbers) c.pass.view_is in
    let seen = ap (λ m. m.0.seen) waiting ∙ ap (λ d. d.seen) c.pass.view_is in
    let follows = subst (λ (z : List Span × List (Past T)). Follows number_of z.0 t.log z.1) (λ k. (numbers k, seen k)) t.follows in
    let out : c.take_in_turn.new.seat.me.1 ≡ (0, Some t.value) ∷ [] = t.slot_is ∙ ap (λ m. (0, Some t.value) ∷ m.1) waiting in
    let h = c.act_in_turn-left.ensures.related in
    let y : T = c.act_in_turn-left.result.value in
    let past : Past T = record { left = y; concerned = c.concerned-concerned.result } in
    let related = subst (λ x. g.O.Act.relates c.args.op.now x c.act_in_turn-left.new.op y) (one_value c.take_in_turn.new.seat.me.1 h.value t.value h.is out) h.so in
    let step = subst (λ n. g.T.Stand.step t.value (record { left = y; concerned = n })) (sym c.concerned-concerned.ensures)
    (c.requires.keeps t.value y c.act_in_turn-left.new.op (c.requires.ready t.log t.value t.kept follows) related) in
    let told = ap (λ m. m.0.seen) c.tell.ensures.told ∙ (ap (λ m. m.0.seen ++ past ∷ []) c.act_in_turn-left.ensures.left ∙ ap (λ v. v.seen ++ past ∷ []) t.view_is) in
    subst (λ l. Stood g.T.Stand.step c.args.self.now.first l y) (sym told) (stood_more g.T.Stand.step c.args.self.now.first t.log t.value past t.kept step)
