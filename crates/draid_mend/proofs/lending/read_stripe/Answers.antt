use Rattle.std.proofs.Common.{◌≡◌, ◌+◌, ◌<◌, ◌∙◌, [], arith, refl, sym, subst}
use Rattle.draid_spec.specs.declared.layout.Geometry.{Geometry}
use Rattle.draid_shard.specs.Calls.{CountsFailed}
use Rattle.draid_shard.specs.Part.{IsRun}
use Rattle.draid_shard.specs.Rows.{IsStripePlace}
use Rattle.draid_shard.specs.States.{part_of}
use Rattle.draid_shard.proofs.WithRack.{geometry_in, rack_twice, valid_rack}
use Rattle.draid_shard.proofs.Counts.{counts_none}
use Rattle.draid_mend.specs.Loans.{NamesSources, ReadsNamed}
use Rattle.draid_mend.specs.Reading.{HasRoomFor}
use Rattle.draid_mend.proofs.Named.{names_none}
use Rattle.draid_mend.proofs.Read.{reads_none, stripe_back, stripe_in}
use Rattle.draid_mend.proofs.lending.read_stripe.Goals as goal

pub loop-column-init : goal.loop-column-init
loop-column-init g c = record {
  whole = refl;
  told = refl;
  shape = refl;
  read = record {
    taken = [];
    reads = reads_none (part_of c.args.shard.now) c.args.shard.now.slots c.args.pointer.now (g.R.Rack.told c.args.shard.now.rack) c.args.lent.now.columns.columns [] c.args.lent.now.failed.items refl c.requires.empty.1;
    names = names_none (part_of c.args.shard.now) c.args.shard.now.slots c.args.pointer.now [] c.args.lent.now.chosen.items c.requires.empty.0;
  };
  room = c.requires.room;
  counts = subst (λ failed. CountsFailed failed (g.R.Rack.faults c.args.shard.now.rack) (g.R.Rack.faults c.args.shard.now.rack)) (sym c.requires.empty.1) (counts_none (g.R.Rack.faults c.args.shard.now.rack));
}

pub read_next-requires : goal.read_next-requires
read_next-requires g c =
    let i = c.loop-column.invariant in
    let same = geometry_in c.args.shard.now c.loop-column.shard i.whole in
    record {
      valid = valid_rack g.R.Rack c.args.shard.now c.loop-column.shard i.whole i.shape c.requires.valid;
      run = subst (λ (geometry : Geometry). IsRun geometry c.args.pointer.now.first c.args.pointer.now.stripes) (sym same) c.requires.run;
      place = subst (λ s. IsStripePlace (part_of s) c.args.pointer.now.first c.stripe_place-place.result) (sym i.whole) c.stripe_place-place.ensures;
      one = c.requires.one;
      less = subst (λ (geometry : Geometry). c.loop-column.column < geometry.g) (sym same) c.loop-column-test.true;
      before = record {
        taken = i.read.taken;
        reads = stripe_in g.R.Rack c.args.shard.now c.loop-column.shard c.args.pointer.now c.loop-column.column c.loop-column.lent.columns.columns i.read.taken c.loop-column.lent.failed.items i.whole i.told i.read.reads;
        names = subst (λ s. NamesSources (part_of s) s.slots c.args.pointer.now i.read.taken c.loop-column.column c.loop-column.lent.chosen.items) (sym i.whole) i.read.names;
      };
      room = subst (λ (geometry : Geometry). HasRoomFor geometry c.loop-column.lent) (sym same) i.room;
    }

pub loop-column-preserved : goal.loop-column-preserved
loop-column-preserved g c =
    let i = c.loop-column.invariant in
    let e = c.read_next.ensures in
    record {
      whole = rack_twice c.args.shard.now c.loop-column.shard c.read_next.new.shard i.whole e.rack;
      told = e.told ∙ i.told;
      shape = e.shape ∙ i.shape;
      read = record {
        taken = e.read.taken;
        reads = stripe_back g.R.Rack c.args.shard.now c.loop-column.shard c.args.pointer.now (c.loop-column.column + 1) c.read_next.new.lent.columns.columns e.read.taken c.read_next.new.lent.failed.items i.whole i.told e.read.reads;
        names = subst (λ s. NamesSources (part_of s) s.slots c.args.pointer.now e.read.taken (c.loop-column.column + 1) c.read_next.new.lent.chosen.items) i.whole e.read.names;
      };
      room = subst (λ (geometry : Geometry). HasRoomFor geometry c.read_next.new.lent) (geometry_in c.args.shard.now c.loop-column.shard i.whole) e.room;
      counts = e.counts (g.R.Rack.faults c.args.shard.now.rack) i.counts;
    }

pub returns-clause-reads : goal.returns-clause-reads
returns-clause-reads g c =
    let past = c.loop-column-test.false in
    let upto = c.loop-column.auto.column-end in
    let all : c.loop-column.column ≡ c.args.shard.now.geometry.g = omega (arith, past, upto) in
    subst (λ n. ReadsNamed (part_of c.args.shard.now) c.args.shard.now.slots c.args.pointer.now n (g.R.Rack.told c.args.shard.now.rack) c.loop-column.lent.columns.columns c.loop-column.lent.failed.items c.loop-column.lent.chosen.items)
    all c.loop-column.invariant.read

pub returns-clause-rack : goal.returns-clause-rack
returns-clause-rack g c = c.loop-column.invariant.whole

pub returns-clause-told : goal.returns-clause-told
returns-clause-told g c = c.loop-column.invariant.told

pub returns-clause-shape : goal.returns-clause-shape
returns-clause-shape g c = c.loop-column.invariant.shape

pub returns-clause-counts : goal.returns-clause-counts
returns-clause-counts g c = c.loop-column.invariant.counts

pub returns-clause-room : goal.returns-clause-room
returns-clause-room g c = c.loop-column.invariant.room
