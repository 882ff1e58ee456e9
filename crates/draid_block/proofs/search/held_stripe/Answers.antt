use Rattle.std.proofs.Common.{arith}
use Rattle.draid_block.specs.Blocks.{cut_of}
use Rattle.draid_block.proofs.Held.{held_count, held_last, held_long, held_next, held_none, held_range}
use Rattle.draid_block.proofs.Parts.{narrow}
use Rattle.draid_block.proofs.search.held_stripe.Goals as goal

pub column_bytes-requires-clause-geometry : goal.column_bytes-requires-clause-geometry
column_bytes-requires-clause-geometry c = c.requires.geometry

pub column_bytes-requires-clause-short : goal.column_bytes-requires-clause-short
column_bytes-requires-clause-short c = c.requires.fetched.short

pub loop-i-init : goal.loop-i-init
loop-i-init c = held_none (cut_of c.args.geometry.now) c.args.fetched.now.pointer.len _ c.args.fetched.now.columns.items c.in_ok-stripe.stripe c.in_ok-stripe.ensures c.column_bytes.ensures

pub loop-i-preserved : goal.loop-i-preserved
loop-i-preserved c = held_next (cut_of c.args.geometry.now) c.args.fetched.now.pointer.len c.args.fetched.now.columns.items c.loop-i.i c.loop-i.stripe c.put_column.new.stripe c.loop-i.invariant c.put_column.ensures.shape c.put_column.ensures.count
    (λ v there. c.put_column.ensures.held v (rw c.deref.ensures.value there)) c.put_column.ensures.others

pub new-requires-clause-ndata : goal.new-requires-clause-ndata
new-requires-clause-ndata c = omega (arith, narrow c.args.geometry.now c.requires.geometry)

pub new-requires-clause-parity : goal.new-requires-clause-parity
new-requires-clause-parity c = c.requires.geometry.spec.most_parity

pub new-requires-clause-some_data : goal.new-requires-clause-some_data
new-requires-clause-some_data c = c.requires.geometry.spec.some_data

pub new-requires-clause-some_parity : goal.new-requires-clause-some_parity
new-requires-clause-some_parity c = c.requires.geometry.spec.some_parity

pub overflow_add-i-end : goal.overflow_add-i-end
overflow_add-i-end c = omega (arith, narrow c.args.geometry.now c.requires.geometry)

pub put_column-requires-clause-count : goal.put_column-requires-clause-count
put_column-requires-clause-count c = held_count (cut_of c.args.geometry.now) c.args.fetched.now.pointer.len c.args.fetched.now.columns.items _ c.loop-i.stripe c.loop-i.invariant

pub put_column-requires-clause-in_range : goal.put_column-requires-clause-in_range
put_column-requires-clause-in_range c = held_range (cut_of c.args.geometry.now) c.args.fetched.now.pointer.len c.args.fetched.now.columns.items _ c.loop-i.stripe _ c.loop-i.invariant c.loop-i-test.true

pub put_column-requires-clause-long : goal.put_column-requires-clause-long
put_column-requires-clause-long c = λ v there. held_long (cut_of c.args.geometry.now) c.args.fetched.now _ c.loop-i.stripe _ v c.requires.fetched c.loop-i.invariant (rw c.deref.ensures.value at there)

pub put_column-requires-clause-there : goal.put_column-requires-clause-there
put_column-requires-clause-there c = rw (c.deref.ensures.value, c.requires.fetched.count) c.loop-i-test.true

pub returns : goal.returns
returns c = held_last (cut_of c.args.geometry.now) c.args.fetched.now c.loop-i.i c.loop-i.stripe c.requires.fetched c.loop-i-test.false c.loop-i.invariant
