use Rattle.std.proofs.Common.{◌∙◌, sym, ap, refl}
use Rattle.std.specs.Cmp.Lexicographic.{same_text, other_text}
use Rattle.sha2.specs.Sha256.{sha256}
use Rattle.draid_block.specs.Blocks.{cut_of}
use Rattle.draid_block.proofs.Held.{restored, held_count, held_long, held_more, held_range, held_solved, held_all, shape_kept}
use Rattle.draid_block.proofs.search.try_set.Goals as goal

pub set_digest-requires-clause-stripe : goal.set_digest-requires-clause-stripe
set_digest-requires-clause-stripe c = record {
  shape = shape_kept (cut_of c.args.search.now.geometry.now) c.args.search.now.fetched.now.pointer.len c.args.attempts.now.stripe c.solve.new.self c.requires.ready.holds.shape c.solve.ensures.shape;
  restored = restored (cut_of c.args.search.now.geometry.now) c.args.search.now.fetched.now c.args.set.now c.args.attempts.now.stripe c.solve.new.self c.requires.search.read c.requires.ready.holds c.requires.set
      c.solve.ensures.solution c.solve.ensures.only;
}

pub returns-then-eq-clause-tries : goal.returns-then-eq-clause-tries
returns-then-eq-clause-tries c =
    let r = restored (cut_of c.args.search.now.geometry.now) c.args.search.now.fetched.now c.args.set.now c.args.attempts.now.stripe c.solve.new.self c.requires.search.read c.requires.ready.holds c.requires.set
    c.solve.ensures.solution c.solve.ensures.only in
    (c.solve.new.self.columns, r, c.in_ok-bytes.ensures, ap sha256 c.in_ok-bytes.ensures ∙ sym c.in_ok-set_digest.ensures.digest ∙ same_text _ _ c.if-eq.ensures)

pub loop-i-preserved : goal.loop-i-preserved
loop-i-preserved c = record {
  held = held_more (cut_of c.args.search.now.geometry.now) c.args.search.now.fetched.now.pointer.len c.args.search.now.fetched.now.columns.items c.args.set.now c.loop-i.i-index _ c.loop-i.attempts.stripe c.put_column.new.stripe
      c.loop-i-test.true refl c.loop-i.invariant.held c.put_column.ensures.shape c.put_column.ensures.count
      (λ v there. c.put_column.ensures.held v (rw c.deref.ensures.value there)) c.put_column.ensures.others;
  has = c.loop-i.invariant.has;
  tried = c.loop-i.invariant.tried;
}

pub returns-clause-tries : goal.returns-clause-tries
returns-clause-tries c =
    let r = restored (cut_of c.args.search.now.geometry.now) c.args.search.now.fetched.now c.args.set.now c.args.attempts.now.stripe c.solve.new.self c.requires.search.read c.requires.ready.holds c.requires.set
    c.solve.ensures.solution c.solve.ensures.only in (
      record {
        holds = held_all (cut_of c.args.search.now.geometry.now) c.args.search.now.fetched.now c.args.set.now c.loop-i.i-index c.loop-i.attempts.stripe c.loop-i-test.false c.loop-i.invariant.held;
        has = c.loop-i.invariant.has;
      },
      (c.solve.new.self.columns, r, λ same. other_text _ _ c.if-eq.ensures (c.in_ok-set_digest.ensures.digest ∙ same)),
    )

pub loop-i-init : goal.loop-i-init
loop-i-init c = record {
  held = held_solved (cut_of c.args.search.now.geometry.now) c.args.search.now.fetched.now c.args.set.now c.args.attempts.now.stripe c.solve.new.self c.requires.ready.holds c.solve.ensures.shape c.solve.ensures.solution;
  has = c.in_ok-set_digest.ensures.front;
  tried = refl;
}

pub put_column-requires-clause-count : goal.put_column-requires-clause-count
put_column-requires-clause-count c = held_count (cut_of c.args.search.now.geometry.now) c.args.search.now.fetched.now.pointer.len c.args.search.now.fetched.now.columns.items _ c.loop-i.attempts.stripe c.loop-i.invariant.held

pub put_column-requires-clause-in_range : goal.put_column-requires-clause-in_range
put_column-requires-clause-in_range c = held_range (cut_of c.args.search.now.geometry.now) c.args.search.now.fetched.now.pointer.len c.args.search.now.fetched.now.columns.items _ c.loop-i.attempts.stripe _ c.loop-i.invariant.held (c.requires.set.in_range c.loop-i.i-index 0 c.loop-i-test.true)

pub put_column-requires-clause-long : goal.put_column-requires-clause-long
put_column-requires-clause-long c = λ v there. held_long (cut_of c.args.search.now.geometry.now) c.args.search.now.fetched.now _ c.loop-i.attempts.stripe _ v c.requires.search.read c.loop-i.invariant.held (rw c.deref.ensures.value at there)

pub put_column-requires-clause-there : goal.put_column-requires-clause-there
put_column-requires-clause-there c = rw (c.deref.ensures.value, c.requires.search.read.count) (c.requires.set.in_range c.loop-i.i-index 0 c.loop-i-test.true)

pub set_digest-requires-clause-fetched : goal.set_digest-requires-clause-fetched
set_digest-requires-clause-fetched c = c.requires.search.read

pub set_digest-requires-clause-front : goal.set_digest-requires-clause-front
set_digest-requires-clause-front c = c.requires.ready.has

pub set_digest-requires-clause-geometry : goal.set_digest-requires-clause-geometry
set_digest-requires-clause-geometry c = c.requires.search.layout

pub set_digest-requires-clause-set : goal.set_digest-requires-clause-set
set_digest-requires-clause-set c = c.requires.set

pub solve-requires-clause-ascending : goal.solve-requires-clause-ascending
solve-requires-clause-ascending c = c.requires.set.ascending

pub solve-requires-clause-few : goal.solve-requires-clause-few
solve-requires-clause-few c = rw c.requires.ready.holds.shape c.requires.set.few

pub solve-requires-clause-in_range : goal.solve-requires-clause-in_range
solve-requires-clause-in_range c = λ k d there. held_range (cut_of c.args.search.now.geometry.now) c.args.search.now.fetched.now.pointer.len c.args.search.now.fetched.now.columns.items _ c.args.attempts.now.stripe _ c.requires.ready.holds (c.requires.set.in_range k d there)

pub stripe_bytes-requires-clause-geometry : goal.stripe_bytes-requires-clause-geometry
stripe_bytes-requires-clause-geometry c = c.requires.search.layout

pub stripe_bytes-requires-clause-shape : goal.stripe_bytes-requires-clause-shape
stripe_bytes-requires-clause-shape c = shape_kept (cut_of c.args.search.now.geometry.now) c.args.search.now.fetched.now.pointer.len c.args.attempts.now.stripe c.solve.new.self c.requires.ready.holds.shape c.solve.ensures.shape

pub stripe_bytes-requires-clause-short : goal.stripe_bytes-requires-clause-short
stripe_bytes-requires-clause-short c = c.requires.search.read.short

pub returns-then-eq-clause-tried : goal.returns-then-eq-clause-tried
returns-then-eq-clause-tried c = refl

pub returns-clause-tried : goal.returns-clause-tried
returns-clause-tried c = c.loop-i.invariant.tried
