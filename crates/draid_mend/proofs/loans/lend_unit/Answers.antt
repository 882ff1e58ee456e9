use Rattle.std.proofs.Common.{◌∙◌, ◌+◌, sym, ap, subst}
use Rattle.draid_machine.specs.declared.event.Event.TheVariants.{Lend}
use Rattle.draid_names.specs.declared.pointer.Pointer.{Pointer}
use Rattle.draid_entries.specs.History.{owed_of}
use Rattle.draid_shard.specs.Calls.{CountsFailed}
use Rattle.draid_shard.specs.Part.{IsRun}
use Rattle.draid_shard.specs.States.{part_of}
use Rattle.draid_mend.specs.Loans.{NamesSources}
use Rattle.draid_mend.specs.Reading.{ReadsStripe}
use Rattle.draid_mend.proofs.Loaned.{enough_room, final_lends, final_valid, unit_run}
use Rattle.draid_mend.proofs.loans.lend_unit.Goals as goal

pub read_stripe-requires-clause-run : goal.read_stripe-requires-clause-run
read_stripe-requires-clause-run g c =
    subst (λ (u : Pointer). IsRun c.args.shard.now.geometry u.first u.stripes) (sym c.unit_of-unit.ensures) (unit_run g.R.Rack c.args.shard.now c.requires.valid c.args.entry c.args.stripe c.requires.unit)

pub returns-clause-valid : goal.returns-clause-valid
returns-clause-valid g c =
    let r = c.read_stripe.ensures in
    let e = c.add_asked.ensures in
    final_valid g.R.Rack c.args.shard.now c.read_stripe.new.shard c.requires.valid r.rack c.args.entry c.args.stripe c.requires.unit c.requires.running c.unit_of-unit.result c.unit_of-unit.ensures c.read_stripe.new.lent.chosen
    c.read_stripe.new.lent.columns c.args.room.failed c.taken_out-leaves.new.list c.add_asked.new.self r.reads.taken c.taken_out-leaves.result
    (subst (λ failed. ReadsStripe (part_of c.args.shard.now) c.args.shard.now.slots c.unit_of-unit.result c.args.shard.now.geometry.g (g.R.Rack.told c.args.shard.now.rack) c.read_stripe.new.lent.columns.columns r.reads.taken failed)
    (sym c.taken_out-leaves.ensures) r.reads.reads)
    (subst (λ s. NamesSources (part_of s) s.slots c.unit_of-unit.result r.reads.taken s.geometry.g c.read_stripe.new.lent.chosen.items) (sym r.rack) r.reads.names)
    (Lend c.taken_out-leaves.result) r.shape (record { parity = r.room.parity; ndata = r.room.ndata; len = r.room.len }) (enough_room c.args.shard.now.geometry c.args.shard.now.pass c.args.room c.requires.room)
    (e.owed ∙ ap (λ n. owed_of c.read_stripe.new.shard.history + n) c.events_of-events.ensures) e.reserved e.stored

pub returns-clause-unit : goal.returns-clause-unit
returns-clause-unit g c =
    let r = c.read_stripe.ensures in
    let e = c.add_asked.ensures in
    final_lends g.R.Rack c.args.shard.now c.read_stripe.new.shard c.requires.valid r.rack c.args.entry c.args.stripe c.requires.unit c.requires.running c.unit_of-unit.result c.unit_of-unit.ensures c.read_stripe.new.lent.chosen
    c.read_stripe.new.lent.columns c.args.room.failed c.taken_out-leaves.new.list c.add_asked.new.self r.reads.taken c.taken_out-leaves.result
    (subst (λ failed. ReadsStripe (part_of c.args.shard.now) c.args.shard.now.slots c.unit_of-unit.result c.args.shard.now.geometry.g (g.R.Rack.told c.args.shard.now.rack) c.read_stripe.new.lent.columns.columns r.reads.taken failed)
    (sym c.taken_out-leaves.ensures) r.reads.reads)
    (subst (λ s. NamesSources (part_of s) s.slots c.unit_of-unit.result r.reads.taken s.geometry.g c.read_stripe.new.lent.chosen.items) (sym r.rack) r.reads.names)
    r.told (subst (λ failed. CountsFailed failed (g.R.Rack.faults c.args.shard.now.rack) (g.R.Rack.faults c.read_stripe.new.shard.rack)) (sym c.taken_out-leaves.ensures) r.counts) e.stored
