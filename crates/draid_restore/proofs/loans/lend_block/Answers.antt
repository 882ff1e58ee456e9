use Rattle.std.proofs.Common.{◌≡◌, ◌+◌, ◌*◌, ◌∙◌, List, Option, Some, ap, arith, length, option_map, refl, subst, sym}
use Rattle.draid_spec.specs.declared.layout.Geometry.{Geometry}
use Rattle.draid_machine.specs.declared.event.Event.TheVariants.{Lend}
use Rattle.draid_entries.specs.History.{owed_of}
use Rattle.draid_pass.specs.declared.pass.Pass.{Pass}
use Rattle.draid_shard.specs.Calls.{CountsFailed}
use Rattle.draid_shard.specs.Fits.{Valid}
use Rattle.draid_shard.specs.States.{part_of}
use Rattle.draid_shard.specs.declared.loan.KeptLoan.TheVariants.{Block}
use Rattle.draid_shard.specs.declared.loan.ReadingRoom.{ReadingRoom}
use Rattle.draid_shard.specs.declared.loan.Spot.{Spot}
use Rattle.draid_shard.specs.Spots.{FitSpots}
use Rattle.draid_restore.specs.Reading.{ReadsSpots, chosen_of, read_of}
use Rattle.draid_restore.specs.Loans.{LendsBlock, counted}
use Rattle.draid_restore.proofs.LendSteps.{lent_of}
use Rattle.draid_restore.proofs.BlockLent.{after_lends, after_valid, one_more, unit_run}
use Rattle.draid_shard.proofs.Fitting.{fit_spots}
use Rattle.draid_restore.proofs.Roomy.{reads_none}
use Rattle.draid_restore.proofs.loans.lend_block.Goals as goal

pub read_spots-requires-clause-spots : goal.read_spots-requires-clause-spots
read_spots-requires-clause-spots g c =
    let shard = c.args.shard.now in
    let v = c.requires.valid in
    let e = c.extent_of-extent.ensures in
    let spots = c.args.room.room.spots.items in
    let shape = g.R.Rack.shape shard.rack in
    let columns = length c.args.room.lent.columns.items in
    let size : c.extent_of-extent.result.size ≡ shard.geometry.props.sector = e.size ∙ ap (λ (x : Geometry). x.props.sector) v.slots.geometry_is in
    subst (FitSpots shape c.extent_of-extent.result.count c.extent_of-extent.result.size columns) (sym c.deref.ensures.value)
    (subst (λ n. FitSpots shape n c.extent_of-extent.result.size columns spots) (sym e.count)
    (subst (λ n. FitSpots shape c.args.entry.pointer.stripes n columns spots) (sym size)
    (fit_spots (part_of shard) v.part shard.slots v.slots v.once e.sound c.args.entry.pointer (unit_run g.R.Rack shard v c.args.entry c.args.stripe c.requires.unit) shape v.leaves spots c.requires.room.spots columns c.requires.room.lent.buffers.many)))

pub read_spots-requires-clause-rest : goal.read_spots-requires-clause-rest
read_spots-requires-clause-rest g c =
    let shard = c.args.shard.now in
    let e = c.extent_of-extent.ensures in
    let spots = c.args.room.room.spots.items in
    let told = g.R.Rack.told shard.rack in
    let size : c.extent_of-extent.result.size ≡ shard.geometry.props.sector = e.size ∙ ap (λ (x : Geometry). x.props.sector) c.requires.valid.slots.geometry_is in
    subst (λ list. ReadsSpots c.extent_of-extent.result.count c.extent_of-extent.result.size list 0 told c.args.room.lent.columns.items c.args.room.lent.failed.items) (sym c.deref.ensures.value)
    (subst (λ n. ReadsSpots n c.extent_of-extent.result.size spots 0 told c.args.room.lent.columns.items c.args.room.lent.failed.items) (sym e.count)
    (subst (λ n. ReadsSpots c.args.entry.pointer.stripes n spots 0 told c.args.room.lent.columns.items c.args.room.lent.failed.items) (sym size)
    (reads_none (part_of shard) shard.slots c.args.entry.pointer spots c.requires.room.spots shard.geometry.g refl (c.args.entry.pointer.stripes * shard.geometry.props.sector) c.args.entry.pointer.stripes shard.geometry.props.sector refl
    c.args.room.lent c.requires.room.lent told)))

pub returns-clause-valid : goal.returns-clause-valid
returns-clause-valid g c =
    let shard = c.args.shard.now in
    let x = c.extent_of-extent.ensures in
    let spots = c.args.room.room.spots.items in
    let stripes = c.args.entry.pointer.stripes in
    let left = c.read_spots.new.lent.failed in
    let failed = c.taken_out.result in
    let same : failed.items ≡ left.items = c.taken_out.ensures in
    let aside : ReadingRoom = record { spare = c.read_spots.new.lent.spare; buffers = c.read_spots.new.lent.buffers; failed = c.taken_out.new.list } in
    let columns = c.read_spots.new.lent.columns in
    let told = g.R.Rack.told shard.rack in
    let e = c.read_spots.ensures in
    let added = c.add_asked.ensures in
    let size : c.extent_of-extent.result.size ≡ shard.geometry.props.sector = x.size ∙ ap (λ (y : Geometry). y.props.sector) c.requires.valid.slots.geometry_is in
    let reads : ReadsSpots stripes shard.geometry.props.sector spots (length spots) told columns.items failed.items =
    subst (λ n. ReadsSpots stripes n spots (length spots) told columns.items failed.items) size
    (subst (λ n. ReadsSpots n c.extent_of-extent.result.size spots (length spots) told columns.items failed.items) x.count
    (subst (λ (list : List Spot). ReadsSpots c.extent_of-extent.result.count c.extent_of-extent.result.size list (length list) told columns.items failed.items) c.deref.ensures.value
    (subst (λ xs. ReadsSpots c.extent_of-extent.result.count c.extent_of-extent.result.size c.deref.result.now (length c.deref.result.now) told columns.items xs) (sym same) e.reads))) in
    let counted_is : c.count_errors.new.pass ≡ option_map (counted (length failed.items)) shard.pass =
    c.count_errors.ensures ∙ ap (λ n. option_map (counted n) shard.pass) (let long = c.len.ensures in let ok = left.ok.0 in let all = ap length same in let is : c.len.result ≡ length failed.items = omega (arith, long, ok, all) in is) in
    subst (λ (o : Option Pass). Valid g.R.Rack (record shard {
      rack = c.read_spots.new.rack;
      serial = shard.serial + 1;
      pass = o;
      kept = Some (Block (lent_of (shard.serial + 1) c.args.stripe c.args.entry.pointer c.name_read.new.read c.name_chosen.new.chosen columns c.args.room.room aside));
      history = c.add_asked.new.self;
    })) (sym counted_is)
    (after_valid g.R.Rack shard c.requires.valid c.args.entry c.args.stripe c.requires.unit c.requires.running spots c.requires.room.spots c.requires.room.listed failed c.name_read.new.read
    (c.name_read.ensures ∙ (λ i. read_of (c.deref-4.ensures.value i) ((c.deref-5.ensures.value ∙ sym same) i))) c.name_chosen.new.chosen c.name_chosen.ensures.many
    (λ k less. c.name_chosen.ensures.each k less ∙ (λ i. chosen_of (c.deref-2.ensures.value i) ((c.deref-3.ensures.value ∙ sym same) i) k)) columns (e.many ∙ c.requires.room.lent.buffers.many) c.args.room.room c.requires.room.landing aside reads
    c.read_spots.new.rack c.add_asked.new.self
    e.shape (added.owed ∙ ap (λ n. owed_of shard.history + n) c.events_of-events.ensures) added.reserved (one_more shard.history c.add_asked.new.self (Lend failed) added.stored))

pub returns-clause-unit : goal.returns-clause-unit
returns-clause-unit g c =
    let shard = c.args.shard.now in
    let x = c.extent_of-extent.ensures in
    let spots = c.args.room.room.spots.items in
    let stripes = c.args.entry.pointer.stripes in
    let left = c.read_spots.new.lent.failed in
    let failed = c.taken_out.result in
    let same : failed.items ≡ left.items = c.taken_out.ensures in
    let aside : ReadingRoom = record { spare = c.read_spots.new.lent.spare; buffers = c.read_spots.new.lent.buffers; failed = c.taken_out.new.list } in
    let columns = c.read_spots.new.lent.columns in
    let told = g.R.Rack.told shard.rack in
    let e = c.read_spots.ensures in
    let added = c.add_asked.ensures in
    let size : c.extent_of-extent.result.size ≡ shard.geometry.props.sector = x.size ∙ ap (λ (y : Geometry). y.props.sector) c.requires.valid.slots.geometry_is in
    let reads : ReadsSpots stripes shard.geometry.props.sector spots (length spots) told columns.items failed.items =
    subst (λ n. ReadsSpots stripes n spots (length spots) told columns.items failed.items) size
    (subst (λ n. ReadsSpots n c.extent_of-extent.result.size spots (length spots) told columns.items failed.items) x.count
    (subst (λ (list : List Spot). ReadsSpots c.extent_of-extent.result.count c.extent_of-extent.result.size list (length list) told columns.items failed.items) c.deref.ensures.value
    (subst (λ xs. ReadsSpots c.extent_of-extent.result.count c.extent_of-extent.result.size c.deref.result.now (length c.deref.result.now) told columns.items xs) (sym same) e.reads))) in
    let counted_is : c.count_errors.new.pass ≡ option_map (counted (length failed.items)) shard.pass =
    c.count_errors.ensures ∙ ap (λ n. option_map (counted n) shard.pass) (let long = c.len.ensures in let ok = left.ok.0 in let all = ap length same in let is : c.len.result ≡ length failed.items = omega (arith, long, ok, all) in is) in
    subst (λ (o : Option Pass). LendsBlock g.R.Rack shard (record shard {
      rack = c.read_spots.new.rack;
      serial = shard.serial + 1;
      pass = o;
      kept = Some (Block (lent_of (shard.serial + 1) c.args.stripe c.args.entry.pointer c.name_read.new.read c.name_chosen.new.chosen columns c.args.room.room aside));
      history = c.add_asked.new.self;
    })) (sym counted_is)
    (after_lends g.R.Rack shard c.requires.valid c.args.entry c.args.stripe c.requires.unit c.requires.running spots c.requires.room.spots c.requires.room.listed failed c.name_read.new.read
    (c.name_read.ensures ∙ (λ i. read_of (c.deref-4.ensures.value i) ((c.deref-5.ensures.value ∙ sym same) i))) c.name_chosen.new.chosen c.name_chosen.ensures.many
    (λ k less. c.name_chosen.ensures.each k less ∙ (λ i. chosen_of (c.deref-2.ensures.value i) ((c.deref-3.ensures.value ∙ sym same) i) k)) columns (e.many ∙ c.requires.room.lent.buffers.many) c.args.room.room c.requires.room.landing aside reads
    c.read_spots.new.rack c.add_asked.new.self
    e.told (subst (λ xs. CountsFailed xs (g.R.Rack.faults shard.rack) (g.R.Rack.faults c.read_spots.new.rack)) (sym same) e.counts) added.stored)
