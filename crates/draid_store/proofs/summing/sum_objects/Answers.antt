use Rattle.std.proofs.Common.{◌≡◌, ◌-◌, ◌+◌, ◌∙◌, true, Ok, Err, arith, nat_eq, refl, sym, subst}
use Rattle.std.specs.HashMap.{get}
use Rattle.std.proofs.lemmas.Result.{err_from_is_err_and}
use Rattle.draid_pool.specs.Threads.{AllStay, IsWholeBy}
use Rattle.draid_pool.proofs.HeldBy.{stay_same, stay_then}
use Rattle.draid_store.specs.Batches.{AddTries}
use Rattle.draid_store.proofs.PointedSums.{sofar_done, sofar_more, sofar_none, sofar_stops}
use Rattle.draid_pool.proofs.QuietWhole.{layout_stays}
use Rattle.draid_store.proofs.Sums.{on_owned, sum_done, sum_stops, summing_more, summing_none}
use Rattle.draid_store.proofs.summing.sum_objects.Goals as goal

pub loop-summed-init : goal.loop-summed-init
loop-summed-init g c = record {
  fit = c.requires.fits;
  same_locks = refl;
  owned = refl;
  stay = stay_same (g.M.Metaslabs.owns c.args.metaslabs.now) (g.M.Metaslabs.last c.args.metaslabs.now);
  whole = c.requires.whole;
  summing = summing_none g.R.Rack g.A.Area g.M.Metaslabs.went g.M.Metaslabs.shared (g.M.Metaslabs.owns c.args.metaslabs.now) (λ o. get nat_eq c.args.own.now.objects o) c.args.own.now.seq c.args.own.now.floor c.args.geometry.now (g.M.Metaslabs.last c.args.metaslabs.now) c.args.metaslabs.now c.args.first c.new-hasher.result c.new-hasher.ensures;
  sofar = sofar_none (λ o. get nat_eq c.args.own.now.objects o) c.args.first c.new-hasher.result c.new-hasher.ensures;
  bound = omega arith;
}

pub add_batch-requires-clause-own : goal.add_batch-requires-clause-own
add_batch-requires-clause-own g c κs within o from to =
    let bound = c.loop-summed.invariant.bound in
    let below = c.loop-summed-test.true in
    subst (λ f. f o ≡ true) (sym c.loop-summed.invariant.owned) (c.requires.own o (omega (arith, from)) (omega (arith, to, below)))

pub add_batch-requires-clause-layout : goal.add_batch-requires-clause-layout
add_batch-requires-clause-layout g c κs within = layout_stays (g.M.Metaslabs.owns c.args.metaslabs.now) (g.M.Metaslabs.last c.args.metaslabs.now) (g.M.Metaslabs.last c.loop-summed.metaslabs) c.args.geometry.now c.loop-summed.invariant.stay c.requires.layout

pub add_batch-requires-clause-whole : goal.add_batch-requires-clause-whole
add_batch-requires-clause-whole g c κs within =
    let i = c.loop-summed.invariant in
    subst (λ o. IsWholeBy g.R.Rack o (g.M.Metaslabs.last c.loop-summed.metaslabs) (λ o. get nat_eq c.args.own.now.objects o) c.args.own.now.seq c.args.own.now.floor) (sym i.owned) i.whole

pub returns-in_err-summed-clause-stay : goal.returns-in_err-summed-clause-stay
returns-in_err-summed-clause-stay g c =
    let i = c.loop-summed.invariant in
    stay_then (g.M.Metaslabs.owns c.args.metaslabs.now) (g.M.Metaslabs.last c.args.metaslabs.now) (g.M.Metaslabs.last c.loop-summed.metaslabs) (g.M.Metaslabs.last c.add_batch.new.metaslabs) i.stay (subst (λ o. AllStay o (g.M.Metaslabs.last c.loop-summed.metaslabs) (g.M.Metaslabs.last c.add_batch.new.metaslabs)) i.owned c.in_err-summed.ensures.stay)

pub returns-in_err-summed-clause-whole : goal.returns-in_err-summed-clause-whole
returns-in_err-summed-clause-whole g c =
    subst (λ o. IsWholeBy g.R.Rack o (g.M.Metaslabs.last c.add_batch.new.metaslabs) (λ o. get nat_eq c.args.own.now.objects o) c.args.own.now.seq c.args.own.now.floor) c.loop-summed.invariant.owned c.in_err-summed.ensures.whole

pub returns-in_err-summed-clause-sums : goal.returns-in_err-summed-clause-sums
returns-in_err-summed-clause-sums g c =
    let p = err_from_is_err_and c.from_residual.result c.from_residual.ensures.1 in
    let below = c.loop-summed-test.true in
    rw (p.1, p.2) (sofar_stops (λ o. get nat_eq c.args.own.now.objects o) c.args.first c.loop-summed.summed (c.args.count - c.loop-summed.summed) c.args.count c.loop-summed.hasher c.in_err-summed.field-0.0
    c.loop-summed.invariant.sofar c.in_err-summed.ensures.adds (omega (arith, below)))

pub returns-in_err-summed-clause-step : goal.returns-in_err-summed-clause-step
returns-in_err-summed-clause-step g c x layout knows =
    let p = err_from_is_err_and c.from_residual.result c.from_residual.ensures.1 in
    rw (p.1, p.2) (sum_stops g.R.Rack g.A.Area g.M.Metaslabs.went g.M.Metaslabs.shared (g.M.Metaslabs.owns c.args.metaslabs.now) (λ o. get nat_eq c.args.own.now.objects o) c.args.own.now.seq c.args.own.now.floor c.args.geometry.now (g.M.Metaslabs.last c.args.metaslabs.now) (g.M.Metaslabs.last c.loop-summed.metaslabs) (g.M.Metaslabs.last c.add_batch.new.metaslabs) c.args.metaslabs.now c.loop-summed.metaslabs c.add_batch.new.metaslabs c.args.first c.loop-summed.summed c.loop-summed.hasher c.add_batch.new.hasher c.loop-summed.invariant.summing
    c.args.count c.in_err-summed.field-0.0 c.loop-summed.invariant.bound
    (on_owned g.R.Rack g.A.Area g.M.Metaslabs.went g.M.Metaslabs.shared (g.M.Metaslabs.owns c.loop-summed.metaslabs) (g.M.Metaslabs.owns c.args.metaslabs.now) c.loop-summed.invariant.owned (g.M.Metaslabs.last c.loop-summed.metaslabs) (g.M.Metaslabs.last c.add_batch.new.metaslabs) (λ o. get nat_eq c.args.own.now.objects o) c.args.own.now.seq c.args.own.now.floor c.loop-summed.metaslabs c.add_batch.new.metaslabs c.args.geometry.now (λ y. AddTries y (c.args.first + c.loop-summed.summed) (c.args.count - c.loop-summed.summed) c.loop-summed.hasher c.add_batch.new.hasher (Err c.in_err-summed.field-0.0)) c.in_err-summed.ensures.step) x layout knows)

pub overflow_add-summed : goal.overflow_add-summed
overflow_add-summed g c =
    let some = c.in_ok-summed.ensures.added in
    let within = some.1 in
    let below = c.loop-summed-test.true in
    let fits = c.ranges.count.fits in
    omega (arith, within, below, fits)

pub loop-summed-smaller : goal.loop-summed-smaller
loop-summed-smaller g c =
    let some = c.in_ok-summed.ensures.added in
    let more = some.0 in
    let below = c.loop-summed-test.true in
    omega (arith, more, below)

pub loop-summed-preserved : goal.loop-summed-preserved
loop-summed-preserved g c =
    let i = c.loop-summed.invariant in
    let e = c.in_ok-summed.ensures in
    let within = e.added.1 in
    let below = c.loop-summed-test.true in
    record {
      fit = e.fits;
      same_locks = e.locks ∙ i.same_locks;
      owned = e.owns ∙ i.owned;
      stay = stay_then (g.M.Metaslabs.owns c.args.metaslabs.now) (g.M.Metaslabs.last c.args.metaslabs.now) (g.M.Metaslabs.last c.loop-summed.metaslabs) (g.M.Metaslabs.last c.add_batch.new.metaslabs) i.stay (subst (λ o. AllStay o (g.M.Metaslabs.last c.loop-summed.metaslabs) (g.M.Metaslabs.last c.add_batch.new.metaslabs)) i.owned e.stay);
      whole = subst (λ o. IsWholeBy g.R.Rack o (g.M.Metaslabs.last c.add_batch.new.metaslabs) (λ o. get nat_eq c.args.own.now.objects o) c.args.own.now.seq c.args.own.now.floor) i.owned e.whole;
      summing = summing_more g.R.Rack g.A.Area g.M.Metaslabs.went g.M.Metaslabs.shared (g.M.Metaslabs.owns c.args.metaslabs.now) (λ o. get nat_eq c.args.own.now.objects o) c.args.own.now.seq c.args.own.now.floor c.args.geometry.now (g.M.Metaslabs.last c.args.metaslabs.now) (g.M.Metaslabs.last c.loop-summed.metaslabs) (g.M.Metaslabs.last c.add_batch.new.metaslabs) c.args.metaslabs.now c.loop-summed.metaslabs c.add_batch.new.metaslabs c.args.first c.loop-summed.summed c.loop-summed.hasher c.add_batch.new.hasher c.loop-summed.invariant.summing
          (c.args.count - c.loop-summed.summed) c.in_ok-summed.field-0
          (on_owned g.R.Rack g.A.Area g.M.Metaslabs.went g.M.Metaslabs.shared (g.M.Metaslabs.owns c.loop-summed.metaslabs) (g.M.Metaslabs.owns c.args.metaslabs.now) c.loop-summed.invariant.owned (g.M.Metaslabs.last c.loop-summed.metaslabs) (g.M.Metaslabs.last c.add_batch.new.metaslabs) (λ o. get nat_eq c.args.own.now.objects o) c.args.own.now.seq c.args.own.now.floor c.loop-summed.metaslabs c.add_batch.new.metaslabs c.args.geometry.now (λ y. AddTries y (c.args.first + c.loop-summed.summed) (c.args.count - c.loop-summed.summed) c.loop-summed.hasher c.add_batch.new.hasher (Ok c.in_ok-summed.field-0)) e.step);
      sofar = sofar_more (λ o. get nat_eq c.args.own.now.objects o) c.args.first c.loop-summed.summed c.in_ok-summed.field-0 c.loop-summed.hasher c.add_batch.new.hasher i.sofar e.adds;
      bound = omega (arith, within, below);
    }

pub returns-clause-sums : goal.returns-clause-sums
returns-clause-sums g c =
    let end = c.loop-summed-test.false in
    let bound = c.loop-summed.invariant.bound in
    sofar_done (λ o. get nat_eq c.args.own.now.objects o) c.args.first c.loop-summed.summed c.args.count c.loop-summed.hasher c.finalize.result c.loop-summed.invariant.sofar (omega (arith, end, bound)) c.finalize.ensures

pub returns-clause-step : goal.returns-clause-step
returns-clause-step g c =
    let end = c.loop-summed-test.false in
    let bound = c.loop-summed.invariant.bound in
    sum_done g.R.Rack g.A.Area g.M.Metaslabs.went g.M.Metaslabs.shared (g.M.Metaslabs.owns c.args.metaslabs.now) (λ o. get nat_eq c.args.own.now.objects o) c.args.own.now.seq c.args.own.now.floor c.args.geometry.now (g.M.Metaslabs.last c.args.metaslabs.now) (g.M.Metaslabs.last c.loop-summed.metaslabs) c.args.metaslabs.now c.loop-summed.metaslabs c.args.first c.loop-summed.summed c.args.count c.loop-summed.hasher c.finalize.result c.loop-summed.invariant.summing (omega (arith, end, bound)) c.finalize.ensures
