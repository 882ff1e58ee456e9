use Rattle.std.proofs.Common.{◌≡◌, ◌∙◌, ◌+◌, arith, refl, sym, ap, subst}
use Rattle.draid_names.specs.declared.pointer.Pointer.{Pointer}
use Rattle.draid_store.specs.Putting.{PutsBy}
use Rattle.draid_store.specs.Writing.{MayPutIn, PutsShard}
use Rattle.draid_pool.proofs.Holding.{some_same}
use Rattle.draid_entries.specs.Maps.{key_of}
use Rattle.draid_pool.specs.Drifts.{Drifts}
use Rattle.draid_pool.proofs.HeldBy.{stay_same, stay_then}
use Rattle.draid_store.proofs.WriteWhole.{put_stays, put_whole}
use Rattle.draid_store.proofs.OpenKeeps.{may_put, puts_keep}
use Rattle.draid_store.proofs.ColumnSteps.{carries_one, puts_none, puts_one}
use Rattle.draid_store.proofs.putting.put_all.Goals as goal

pub hold-op-requires-clause-may : goal.hold-op-requires-clause-may
hold-op-requires-clause-may g c =
    let i = c.columns.invariant in
    let op = c.columns.op in
    let next = i.next in
    let below = c.columns-test.true in
    let many = i.carries.columns_are in
    let owns = g.M.Metaslabs.owns c.columns.metaslabs in
    let own = ap (λ f. f op.ticket.pointer.object) i.owned ∙ (ap (λ (q : Pointer). g.M.Metaslabs.owns c.args.metaslabs.now q.object) i.pointer ∙ c.requires.own) in
    record {
      shard = i.carries.shard;
      there = i.carries.there;
      valid = i.carries.valid;
      ready = λ x d. subst (λ b. MayPutIn g.R.Rack x op.ticket b) (sym i.block_is)
          (may_put g.R.Rack g.A.Area g.M.Metaslabs.shared owns i.carries.shard x i.carries.valid d op.ticket c.args.block.now own i.carries.carries (omega (arith, next, below, many)));
      keeps = λ x y after needs p. puts_keep g.R.Rack g.A.Area x y op.ticket after.ticket op.block.now p.0;
      own = λ n is. ap owns (sym (some_same op.ticket.pointer.object n is)) ∙ own;
    }

pub columns-preserved : goal.columns-preserved
columns-preserved g c =
    let i = c.columns.invariant in
    let op = c.columns.op in
    let held = c.hold-op.ensures.held in
    let done = c.hold-op.result in
    let next = i.next in
    let more = held.related.0.puts.next in
    let last = g.M.Metaslabs.last c.args.metaslabs.now in
    let now = g.M.Metaslabs.last c.columns.metaslabs in
    let new = g.M.Metaslabs.last c.hold-op.new.self in
    let owns = g.M.Metaslabs.owns c.args.metaslabs.now in
    let now_owns = g.M.Metaslabs.owns c.columns.metaslabs in
    let drifts : Drifts g.R.Rack g.A.Area g.M.Metaslabs.shared owns held.shard held.before = subst (λ o. Drifts g.R.Rack g.A.Area g.M.Metaslabs.shared o held.shard held.before) i.owned held.drifts in
    let put : PutsShard g.R.Rack held.before op.ticket c.args.block.now done.ticket held.after = subst (λ b. PutsShard g.R.Rack held.before op.ticket b done.ticket held.after) i.block_is held.related.0 in
    record {
      fit = c.hold-op.ensures.fits;
      same_locks = c.hold-op.ensures.locks ∙ i.same_locks;
      owned = c.hold-op.ensures.owns ∙ i.owned;
      carries = carries_one g.R.Rack g.A.Area g.M.Metaslabs.went g.M.Metaslabs.shared owns now_owns i.owned last now new c.args.metaslabs.now c.columns.metaslabs c.hold-op.new.self c.args.metaslab c.args.ticket op.ticket done.ticket c.args.block.now c.columns._column
          i.pointer i.step held.shard held.before held.after held.there held.drifts held.is held.went put c.args.columns i.carries;
      next = omega (arith, more, next);
      pointer = held.related.0.puts.pointer ∙ i.pointer;
      block_is = held.related.1 ∙ i.block_is;
      step = subst (λ o. PutsBy g.R.Rack g.A.Area g.M.Metaslabs.went g.M.Metaslabs.shared owns o last new c.args.metaslabs.now c.hold-op.new.self c.args.metaslab c.args.ticket done.ticket c.args.block.now (c.columns._column + 1)) (sym c.hold-op.ensures.owns)
          (puts_one g.R.Rack g.A.Area g.M.Metaslabs.went g.M.Metaslabs.shared owns now_owns i.owned last now new c.args.metaslabs.now c.columns.metaslabs c.hold-op.new.self c.args.metaslab c.args.ticket op.ticket done.ticket c.args.block.now c.columns._column
          i.pointer i.step held.shard held.before held.after held.there held.drifts held.is held.went put);
      stay = stay_then owns last now new i.stay (put_stays g.R.Rack g.A.Area g.M.Metaslabs.shared owns now new c.args.metaslab held.shard held.before held.after held.there drifts held.is op.ticket done.ticket c.args.block.now put);
      whole = λ table seq floor w. put_whole g.R.Rack g.A.Area g.M.Metaslabs.shared owns now new c.args.metaslab held.shard held.before held.after held.there drifts held.is op.ticket done.ticket c.args.block.now (key_of c.args.ticket.pointer) table seq floor
          (ap key_of i.pointer) put (i.whole table seq floor w);
    }

pub columns-init : goal.columns-init
columns-init g c = record {
  fit = c.requires.fits;
  same_locks = refl;
  owned = refl;
  carries = c.requires.carries;
  next = c.requires.fresh;
  pointer = refl;
  block_is = refl;
  step = puts_none g.R.Rack g.A.Area g.M.Metaslabs.went g.M.Metaslabs.shared (g.M.Metaslabs.owns c.args.metaslabs.now) (g.M.Metaslabs.last c.args.metaslabs.now) c.args.metaslabs.now c.args.metaslab c.args.ticket c.args.block.now;
  stay = stay_same (g.M.Metaslabs.owns c.args.metaslabs.now) (g.M.Metaslabs.last c.args.metaslabs.now);
  whole = λ table seq floor w. w;
}

pub returns-clause-step : goal.returns-clause-step
returns-clause-step g c =
    let i = c.columns.invariant in
    let below = c.columns.auto._column-end in
    let done = c.columns-test.false in
    let all : c.columns._column ≡ c.args.columns = omega (arith, below, done) in
    subst (λ n. PutsBy g.R.Rack g.A.Area g.M.Metaslabs.went g.M.Metaslabs.shared (g.M.Metaslabs.owns c.args.metaslabs.now) (g.M.Metaslabs.owns c.columns.metaslabs) (g.M.Metaslabs.last c.args.metaslabs.now) (g.M.Metaslabs.last c.columns.metaslabs)
    c.args.metaslabs.now c.columns.metaslabs c.args.metaslab c.args.ticket c.columns.op.ticket c.args.block.now n) all i.step
