use Rattle.std.proofs.Common.{refl, ◌∙◌, ℕ, ◌≡◌, ◌<◌, ◌≤◌, arith}
use Rattle.draid_holds.proofs.LaneCalls.{calling_end, calling_may, calling_more, calling_start}
use Rattle.draid_holds.proofs.calls.make_calls.Goals as goal

inside : {i n m : ℕ} → i < n → n ≡ m → i < m
inside less same = omega (arith, less, same)

outside : {i n m : ℕ} → n ≤ i → n ≡ m → m ≤ i
outside le same = omega (arith, le, same)

pub calls-init : goal.calls-init
calls-init g c = calling_start g.T.Stand.step g.O.Act.needs g.O.Act.relates g.O.Act.concerns c.args.turns.now c.args.passes.now.items c.args.calls.now.items

pub call_in-requires : goal.call_in-requires
call_in-requires g c =
    calling_may g.T.Stand.step g.O.Act.needs g.O.Act.relates g.O.Act.concerns c.args.turns.now c.args.passes.now.items c.args.calls.now.items c.calls.i c.calls.calls.items c.calls.passes.items
    c.index_mut.result.now c.calls.invariant c.requires (inside c.calls-test.true (c.len-i-end.ensures ∙ c.args.calls.now.ok.0)) c.index_mut.ensures.value

pub calls-preserved : goal.calls-preserved
calls-preserved g c =
    calling_more g.T.Stand.step g.O.Act.needs g.O.Act.relates g.O.Act.concerns c.args.turns.now c.args.passes.now.items c.args.calls.now.items c.calls.i c.calls.calls.items c.calls.passes.items
    c.call_in.new.passes.items c.index_mut.result.now record { turn = c.index_mut.result.now.turn; op = c.call_in.new.op } c.calls.invariant
    (inside c.calls-test.true (c.len-i-end.ensures ∙ c.args.calls.now.ok.0)) c.index_mut.ensures.value refl c.call_in.ensures

pub returns : goal.returns
returns g c =
    calling_end g.T.Stand.step g.O.Act.needs g.O.Act.relates g.O.Act.concerns c.args.turns.now c.args.passes.now.items c.args.calls.now.items c.calls.i c.calls.calls.items c.calls.passes.items
    c.calls.invariant (outside c.calls-test.false (c.len-i-end.ensures ∙ c.args.calls.now.ok.0))
