use Rattle.std.proofs.Common.{sym, ap, refl, ◌∙◌, ◌<◌, subst, Some}
use Rattle.std.proofs.lemmas.Option.{get_or_from_slice_get, slice_get_within}
use Rattle.draid_turn.specs.declared.past.Past.{Past}
use Rattle.draid_turn.specs.Calls.{Caller, Lock, MayCall}
use Rattle.draid_holds.proofs.calls.call_in.Goals as goal

pub returns : goal.returns
returns g c =
    let lock = c.index-turns-turn.is ∙ get_or_from_slice_get c.args.turns.now c.args.turn c.requires.lock c.index-turns-turn.result c.requires.lock_is in
    let pass = c.index_mut.ensures.value ∙ get_or_from_slice_get c.args.passes.now.items c.args.turn c.requires.pass c.index_mut.result.now c.requires.pass_is in
    record {
      lock = c.index-turns-turn.result;
      pass = c.index_mut.result.now;
      next = c.call.new.pass;
      lock_is = c.requires.lock_is ∙ ap Some (sym lock);
      pass_is = c.requires.pass_is ∙ ap Some (sym pass);
      is = refl;
      did = c.call.ensures;
    }

pub bounds-turns-turn : goal.bounds-turns-turn
bounds-turns-turn g c = slice_get_within c.args.turns.now c.args.turn c.requires.lock c.requires.lock_is

pub index_mut-requires : goal.index_mut-requires
index_mut-requires g c = subst (λ n. c.args.turn < n) (sym c.args.passes.now.ok.0) (slice_get_within c.args.passes.now.items c.args.turn c.requires.pass c.requires.pass_is)

pub call-requires : goal.call-requires
call-requires g c =
    let lock = c.index-turns-turn.is ∙ get_or_from_slice_get c.args.turns.now c.args.turn c.requires.lock c.index-turns-turn.result c.requires.lock_is in
    let pass = c.index_mut.ensures.value ∙ get_or_from_slice_get c.args.passes.now.items c.args.turn c.requires.pass c.index_mut.result.now c.requires.pass_is in
    subst (λ (z : Lock g.row.T.Denot × Caller (Past g.row.T.Denot)). MayCall g.T.Stand.step g.O.Act.needs g.O.Act.relates g.O.Act.concerns c.args.op.now z.0 z.1)
    (λ k. (sym lock k, sym pass k)) c.requires.may
