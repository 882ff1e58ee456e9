use Rattle.std.proofs.Common.{◌≤◌, ◌<◌, ◌+◌, All, Vec, Global, Some, None, Ok, Err, ℕ, arith, nat_eq, refl, sym, subst}
use Rattle.std.specs.HashMap.{get}
use Rattle.std.proofs.ResultArms.{subst_both}
use Rattle.draid_block.specs.declared.solve.Fetched.{Fetched}
use Rattle.draid_names.specs.declared.refusal.ObjectFault.TheVariants.{NoMemory}
use Rattle.draid_pool.proofs.HeldBy.{stay_then}
use Rattle.draid_pool.specs.Threads.{AllStay, IsWholeBy}
use Rattle.draid_store.specs.Answers.{FetchDoes}
use Rattle.draid_store.specs.PointerSums.{BlocksOf}
use Rattle.draid_block.specs.Blocks.{cut_of}
use Rattle.draid_block.specs.Solving.{IsFetched}
use Rattle.draid_store.specs.declared.summing.Batch.{Batch}
use Rattle.draid_store.proofs.Batched.{BatchAt, batch_more, fetching_done, fetching_ends, fetching_unkept, moves_on, none_at}
use Rattle.draid_store.proofs.summing.fetch_batch.Goals as goal
use Rattle.draid_store.proofs.summing.fetch_batch.Goals.{else-loop-object-test, then-loop-object-test+in-Ok+in-Ok-push+then-bytes-ge-BATCH_BYTES}

pub loop-object-init : goal.loop-object-init
loop-object-init g c = record {
  so_far = none_at g.R.Rack g.A.Area g.M.Metaslabs.went g.M.Metaslabs.shared (g.M.Metaslabs.locks c.args.metaslabs.now) (g.M.Metaslabs.owns c.args.metaslabs.now) (g.M.Metaslabs.fits c.args.metaslabs.now) (g.M.Metaslabs.last c.args.metaslabs.now) (λ o. get nat_eq c.args.own.now.objects o) c.args.own.now.seq c.args.own.now.floor
      c.args.metaslabs.now c.args.first c.new-blocks.result.items c.new-blocks.ensures.items c.requires.fits c.requires.whole;
  few = omega arith;
  bound = omega arith;
}

pub fetch_object-requires-clause-whole : goal.fetch_object-requires-clause-whole
fetch_object-requires-clause-whole g c =
    let i = c.loop-object.invariant.so_far in
    subst (λ o. IsWholeBy g.R.Rack o (g.M.Metaslabs.last c.loop-object.metaslabs) (λ o. get nat_eq c.args.own.now.objects o) c.args.own.now.seq c.args.own.now.floor) (sym i.owned) i.whole

-- ---- an object gives no block

pub returns-in-Err-clause-stay : goal.returns-in-Err-clause-stay
returns-in-Err-clause-stay g c =
    let i = c.loop-object.invariant.so_far in
    stay_then (g.M.Metaslabs.owns c.args.metaslabs.now) (g.M.Metaslabs.last c.args.metaslabs.now) (g.M.Metaslabs.last c.loop-object.metaslabs) (g.M.Metaslabs.last c.fetch_object.new.metaslabs) i.stay
    (subst (λ o. AllStay o (g.M.Metaslabs.last c.loop-object.metaslabs) (g.M.Metaslabs.last c.fetch_object.new.metaslabs)) i.owned c.fetch_object.ensures.stay)

pub returns-in-Err-clause-whole : goal.returns-in-Err-clause-whole
returns-in-Err-clause-whole g c =
    subst (λ o. IsWholeBy g.R.Rack o (g.M.Metaslabs.last c.fetch_object.new.metaslabs) (λ o. get nat_eq c.args.own.now.objects o) c.args.own.now.seq c.args.own.now.floor) c.loop-object.invariant.so_far.owned c.fetch_object.ensures.whole

pub returns-in-Err-clause-step : goal.returns-in-Err-clause-step
returns-in-Err-clause-step g c =
    let batch : Batch = record { blocks = c.loop-object.blocks; fault = Some c.in-Err.why } in
    fetching_ends g.R.Rack g.A.Area g.M.Metaslabs.went g.M.Metaslabs.shared (g.M.Metaslabs.owns c.args.metaslabs.now) (λ o. get nat_eq c.args.own.now.objects o) c.args.own.now.seq c.args.own.now.floor (g.M.Metaslabs.last c.args.metaslabs.now) (g.M.Metaslabs.last c.loop-object.metaslabs) (g.M.Metaslabs.last c.fetch_object.new.metaslabs) c.args.metaslabs.now c.loop-object.metaslabs c.fetch_object.new.metaslabs c.args.first c.loop-object.object c.loop-object.blocks.items c.loop-object.invariant.so_far.many c.loop-object.invariant.so_far.step
    c.args.count batch c.in-Err.why c.loop-object-test.true refl refl
    (moves_on g.R.Rack g.A.Area g.M.Metaslabs.went g.M.Metaslabs.shared (g.M.Metaslabs.locks c.loop-object.metaslabs) (g.M.Metaslabs.locks c.args.metaslabs.now) (g.M.Metaslabs.locks c.fetch_object.new.metaslabs) (g.M.Metaslabs.owns c.args.metaslabs.now) (g.M.Metaslabs.owns c.loop-object.metaslabs) (g.M.Metaslabs.owns c.fetch_object.new.metaslabs) (g.M.Metaslabs.fits c.loop-object.metaslabs) (g.M.Metaslabs.fits c.fetch_object.new.metaslabs) (g.M.Metaslabs.last c.args.metaslabs.now) (g.M.Metaslabs.last c.loop-object.metaslabs) (g.M.Metaslabs.last c.fetch_object.new.metaslabs)
    (λ o. get nat_eq c.args.own.now.objects o) c.args.own.now.seq c.args.own.now.floor c.args.metaslabs.now c.loop-object.metaslabs c.fetch_object.new.metaslabs c.args.first c.loop-object.object c.loop-object.blocks.items c.loop-object.invariant.so_far
    c.fetch_object.ensures.fits c.fetch_object.ensures.locks c.fetch_object.ensures.owns c.fetch_object.ensures.stay c.fetch_object.ensures.whole (λ y. FetchDoes y c.loop-object.object (Err c.in-Err.why)) c.in-Err.ensures.step)

-- ---- there is no memory to keep it

pub returns-in_default-clause-stay : goal.returns-in_default-clause-stay
returns-in_default-clause-stay g c =
    let i = c.loop-object.invariant.so_far in
    stay_then (g.M.Metaslabs.owns c.args.metaslabs.now) (g.M.Metaslabs.last c.args.metaslabs.now) (g.M.Metaslabs.last c.loop-object.metaslabs) (g.M.Metaslabs.last c.fetch_object.new.metaslabs) i.stay
    (subst (λ o. AllStay o (g.M.Metaslabs.last c.loop-object.metaslabs) (g.M.Metaslabs.last c.fetch_object.new.metaslabs)) i.owned c.fetch_object.ensures.stay)

pub returns-in_default-clause-whole : goal.returns-in_default-clause-whole
returns-in_default-clause-whole g c =
    subst (λ o. IsWholeBy g.R.Rack o (g.M.Metaslabs.last c.fetch_object.new.metaslabs) (λ o. get nat_eq c.args.own.now.objects o) c.args.own.now.seq c.args.own.now.floor) c.loop-object.invariant.so_far.owned c.fetch_object.ensures.whole

pub returns-in_default-clause-fetched : goal.returns-in_default-clause-fetched
returns-in_default-clause-fetched g c geometry have = subst (All (IsFetched (cut_of geometry))) (sym c.in_default.ensures.items) (c.loop-object.invariant.so_far.fetched geometry have)

pub returns-in_default-clause-found : goal.returns-in_default-clause-found
returns-in_default-clause-found g c = subst (BlocksOf (λ o. get nat_eq c.args.own.now.objects o) c.args.first) (sym c.in_default.ensures.items) c.loop-object.invariant.so_far.found

pub returns-in_default-clause-step : goal.returns-in_default-clause-step
returns-in_default-clause-step g c =
    let batch : Batch = record { blocks = c.push.new.self; fault = Some NoMemory } in
    fetching_unkept g.R.Rack g.A.Area g.M.Metaslabs.went g.M.Metaslabs.shared (g.M.Metaslabs.owns c.args.metaslabs.now) (λ o. get nat_eq c.args.own.now.objects o) c.args.own.now.seq c.args.own.now.floor (g.M.Metaslabs.last c.args.metaslabs.now) (g.M.Metaslabs.last c.loop-object.metaslabs) (g.M.Metaslabs.last c.fetch_object.new.metaslabs) c.args.metaslabs.now c.loop-object.metaslabs c.fetch_object.new.metaslabs c.args.first c.loop-object.object c.loop-object.blocks.items c.loop-object.invariant.so_far.many c.loop-object.invariant.so_far.step
    c.in-Ok.fetched (moves_on g.R.Rack g.A.Area g.M.Metaslabs.went g.M.Metaslabs.shared (g.M.Metaslabs.locks c.loop-object.metaslabs) (g.M.Metaslabs.locks c.args.metaslabs.now) (g.M.Metaslabs.locks c.fetch_object.new.metaslabs) (g.M.Metaslabs.owns c.args.metaslabs.now) (g.M.Metaslabs.owns c.loop-object.metaslabs) (g.M.Metaslabs.owns c.fetch_object.new.metaslabs) (g.M.Metaslabs.fits c.loop-object.metaslabs) (g.M.Metaslabs.fits c.fetch_object.new.metaslabs) (g.M.Metaslabs.last c.args.metaslabs.now) (g.M.Metaslabs.last c.loop-object.metaslabs) (g.M.Metaslabs.last c.fetch_object.new.metaslabs)
    (λ o. get nat_eq c.args.own.now.objects o) c.args.own.now.seq c.args.own.now.floor c.args.metaslabs.now c.loop-object.metaslabs c.fetch_object.new.metaslabs c.args.first c.loop-object.object c.loop-object.blocks.items c.loop-object.invariant.so_far
    c.fetch_object.ensures.fits c.fetch_object.ensures.locks c.fetch_object.ensures.owns c.fetch_object.ensures.stay c.fetch_object.ensures.whole (λ y. FetchDoes y c.loop-object.object (Ok c.in-Ok.fetched)) c.in-Ok.ensures.step)
    c.args.count batch c.loop-object-test.true c.in_default.ensures.items refl

-- ---- another block

pub loop-object-preserved : goal.loop-object-preserved
loop-object-preserved g c =
    let few = c.if-bytes-ge-BATCH_BYTES.false in
    let below = c.loop-object-test.true in
    record {
      so_far = batch_more g.R.Rack g.A.Area g.M.Metaslabs.went g.M.Metaslabs.shared (g.M.Metaslabs.locks c.loop-object.metaslabs) (g.M.Metaslabs.locks c.args.metaslabs.now) (g.M.Metaslabs.locks c.fetch_object.new.metaslabs) (g.M.Metaslabs.owns c.args.metaslabs.now) (g.M.Metaslabs.owns c.loop-object.metaslabs) (g.M.Metaslabs.owns c.fetch_object.new.metaslabs) (g.M.Metaslabs.fits c.loop-object.metaslabs) (g.M.Metaslabs.fits c.fetch_object.new.metaslabs) (g.M.Metaslabs.last c.args.metaslabs.now) (g.M.Metaslabs.last c.loop-object.metaslabs) (g.M.Metaslabs.last c.fetch_object.new.metaslabs)
          (λ o. get nat_eq c.args.own.now.objects o) c.args.own.now.seq c.args.own.now.floor c.args.metaslabs.now c.loop-object.metaslabs c.fetch_object.new.metaslabs c.args.first c.loop-object.object c.loop-object.blocks.items c.loop-object.invariant.so_far
          c.fetch_object.ensures.fits c.fetch_object.ensures.locks c.fetch_object.ensures.owns c.fetch_object.ensures.stay c.fetch_object.ensures.whole c.in-Ok.fetched c.push.new.self.items c.in-Ok-push.ensures.items c.in-Ok.ensures.found c.in-Ok.ensures.fetched c.in-Ok.ensures.step;
      few = omega (arith, few);
      bound = omega (arith, below);
    }

pub returns : goal.returns
returns g c =
    let P : g.row.M.Denot → Vec Fetched Global → Type 0
    = λ ms v. (object : ℕ) × BatchAt g.R.Rack g.A.Area g.M.Metaslabs.went g.M.Metaslabs.shared (g.M.Metaslabs.locks ms) (g.M.Metaslabs.locks c.args.metaslabs.now) (g.M.Metaslabs.owns c.args.metaslabs.now) (g.M.Metaslabs.owns ms) (g.M.Metaslabs.fits ms) (g.M.Metaslabs.last c.args.metaslabs.now) (g.M.Metaslabs.last ms)
    (λ o. get nat_eq c.args.own.now.objects o) c.args.own.now.seq c.args.own.now.floor c.args.metaslabs.now ms c.args.first object v.items × (c.args.first < object) × (object ≤ c.args.first + c.args.count) in
    let z : P c.loop-object-test.metaslabs c.loop-object-test.blocks = elim c.loop-object-test.branch [
      | else-loop-object-test w ↦
          let ends = w.loop-object-test.false in
          let some = c.requires.some in
          let bound = c.loop-object.invariant.bound in
          subst_both P (sym w.metaslabs-is) (sym w.blocks-is) (c.loop-object.object, c.loop-object.invariant.so_far, omega (arith, ends, some), bound)
      | then-loop-object-test+in-Ok+in-Ok-push+then-bytes-ge-BATCH_BYTES w ↦
          let below = w.loop-object-test.true in
          let from = c.loop-object.auto.object in
          subst_both P (sym w.metaslabs-is) (sym w.blocks-is) (
            c.loop-object.object + 1,
            batch_more g.R.Rack g.A.Area g.M.Metaslabs.went g.M.Metaslabs.shared (g.M.Metaslabs.locks c.loop-object.metaslabs) (g.M.Metaslabs.locks c.args.metaslabs.now) (g.M.Metaslabs.locks w.fetch_object.new.metaslabs) (g.M.Metaslabs.owns c.args.metaslabs.now) (g.M.Metaslabs.owns c.loop-object.metaslabs) (g.M.Metaslabs.owns w.fetch_object.new.metaslabs) (g.M.Metaslabs.fits c.loop-object.metaslabs) (g.M.Metaslabs.fits w.fetch_object.new.metaslabs) (g.M.Metaslabs.last c.args.metaslabs.now) (g.M.Metaslabs.last c.loop-object.metaslabs) (g.M.Metaslabs.last w.fetch_object.new.metaslabs)
                (λ o. get nat_eq c.args.own.now.objects o) c.args.own.now.seq c.args.own.now.floor c.args.metaslabs.now c.loop-object.metaslabs w.fetch_object.new.metaslabs c.args.first c.loop-object.object c.loop-object.blocks.items c.loop-object.invariant.so_far
                w.fetch_object.ensures.fits w.fetch_object.ensures.locks w.fetch_object.ensures.owns w.fetch_object.ensures.stay w.fetch_object.ensures.whole w.in-Ok.fetched w.push.new.self.items w.in-Ok-push.ensures.items w.in-Ok.ensures.found w.in-Ok.ensures.fetched w.in-Ok.ensures.step,
            omega (arith, from),
            omega (arith, below),
          )
    ] in
    let i = z.1 in
    let many = i.many in
    let more = z.2 in
    let within = z.3 in
    let batch : Batch = record { blocks = c.loop-object-test.blocks; fault = None } in
    record {
      fits = i.fit;
      locks = i.same_locks;
      owns = i.owned;
      stay = i.stay;
      whole = i.whole;
      fetched = i.fetched;
      some = λ none. omega (arith, many, more);
      few = omega (arith, many, within);
      found = i.found;
      stops = tt;
      step = fetching_done g.R.Rack g.A.Area g.M.Metaslabs.went g.M.Metaslabs.shared (g.M.Metaslabs.owns c.args.metaslabs.now) (λ o. get nat_eq c.args.own.now.objects o) c.args.own.now.seq c.args.own.now.floor (g.M.Metaslabs.last c.args.metaslabs.now) (g.M.Metaslabs.last c.loop-object-test.metaslabs)
          c.args.metaslabs.now c.loop-object-test.metaslabs c.args.first c.args.count z.0 batch i.many i.step z.2 z.3 refl;
    }
