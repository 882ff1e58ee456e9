use Rattle.std.proofs.Common.{arith, ◌≡◌, ◌+◌, ◌∙◌, ℕ, List, refl, sym, ap, subst, length}
use Rattle.std.specs.Prelude.{count_by}
use Rattle.draid_rack.specs.Rack.{OnBothTold}
use Rattle.draid_spec.specs.declared.layout.Geometry.{Geometry}
use Rattle.draid_machine.specs.declared.event.Patched.{Patched}
use Rattle.draid_machine.specs.After.{capped}
use Rattle.draid_shard.specs.States.{part_of}
use Rattle.draid_shard.specs.Spots.{FitSpots}
use Rattle.draid_heal.specs.Arms.{FitsRoom, ListsArms}
use Rattle.draid_heal.specs.Lands.{is_rewritten}
use Rattle.draid_shard.specs.Losing.{AreMissed}
use Rattle.draid_heal.specs.Stands.{LandsRows}
use Rattle.draid_shard.proofs.Apart.{spots_apart}
use Rattle.draid_heal.proofs.Fitting.{columns_are, fits_room}
use Rattle.draid_shard.proofs.Fitting.{fit_spots}
use Rattle.draid_heal.proofs.kept.land_restored.Goals as goal

pub land_block-requires-clause-spots : goal.land_block-requires-clause-spots
land_block-requires-clause-spots g c =
    let shard = c.args.shard.now in
    let laid = c.requires.laid in
    let e = c.extent_of-extent.ensures in
    let spots = c.list_spots-answered.new.spots.items in
    let shape = g.R.Rack.shape shard.rack in
    let columns = c.args.block.now.cut.parity + c.args.block.now.cut.ndata in
    let size : c.extent_of-extent.result.size ≡ shard.geometry.props.sector = e.size ∙ ap (λ (x : Geometry). x.props.sector) laid.slots.geometry_is in
    subst (λ n. FitSpots shape n c.extent_of-extent.result.size columns spots) (sym e.count)
    (subst (λ n. FitSpots shape c.args.pointer.now.stripes n columns spots) (sym size)
    (fit_spots (part_of shard) laid.part shard.slots laid.slots laid.once e.sound c.args.pointer.now c.requires.run shape laid.leaves spots c.list_spots-answered.ensures.spots columns
    (columns_are shard.geometry c.args.block.now.cut laid.part.layout.geometry_is c.requires.cut)))

pub land_block-requires-clause-room : goal.land_block-requires-clause-room
land_block-requires-clause-room g c =
    let shard = c.args.shard.now in
    let e = c.extent_of-extent.ensures in
    let room = record c.args.room.now { spots = c.list_spots-answered.new.spots } in
    let size : c.extent_of-extent.result.size ≡ shard.geometry.props.sector = e.size ∙ ap (λ (x : Geometry). x.props.sector) c.requires.laid.slots.geometry_is in
    subst (λ n. FitsRoom n c.extent_of-extent.result.size room) (sym e.count)
    (subst (λ n. FitsRoom c.args.pointer.now.stripes n room) (sym size)
    (fits_room shard.geometry c.args.pointer.now.stripes c.args.room.now c.list_spots-answered.new.spots c.requires.room c.list_spots-answered.ensures.few))

pub returns : goal.returns
returns g c =
    let shard = c.args.shard.now in
    let laid = c.requires.laid in
    let e = c.extent_of-extent.ensures in
    let f = c.land_block.ensures in
    let spots = c.list_spots-answered.new.spots.items in
    let parts = c.land_block.new.room.patched.items in
    let failed = c.land_block.new.room.failed.items in
    let columns = c.args.block.now.columns in
    let stripes = c.args.pointer.now.stripes in
    let old = g.R.Rack.told shard.rack in
    let new = g.R.Rack.told c.land_block.new.rack in
    let size : c.extent_of-extent.result.size ≡ shard.geometry.props.sector = e.size ∙ ap (λ (x : Geometry). x.props.sector) laid.slots.geometry_is in
    record {
      lands = record {
        only = refl;
        shape = f.shape;
        counts = f.counts;
        spots = spots;
        right = c.list_spots-answered.ensures.spots;
        apart = spots_apart (part_of shard) laid.part shard.slots laid.slots laid.once e.sound c.args.pointer.now spots c.list_spots-answered.ensures.spots;
        parts = parts;
        noted = c.keep_noted.ensures;
        repaired_is = c.count_rewritten-rewritten.ensures ∙ ap (λ (xs : List Patched). count_by is_rewritten xs) c.deref.ensures.value;
        whole = c.land_block.result;
        lands = subst (λ n. OnBothTold old new (LandsRows n shard.geometry.props.sector spots parts columns failed c.land_block.result)) e.count
            (subst (λ n. OnBothTold old new (LandsRows c.extent_of-extent.result.count n spots parts columns failed c.land_block.result)) size f.lands);
        lists = subst (λ n. ListsArms n shard.geometry.props.sector spots parts (length spots) failed) e.count
            (subst (λ n. ListsArms c.extent_of-extent.result.count n spots parts (length spots) failed) size f.lists);
        is_whole = λ w. (c.list_spots-answered.ensures.answered.0 (f.yes w).0, (f.yes w).1);
        not_whole = λ w clean fine. f.no w (c.list_spots-answered.ensures.answered.1 clean) fine;
        marks = c.missed_marks-marks.result;
        missed = subst (λ (xs : List ℕ). AreMissed (part_of shard) shard.slots c.args.pointer.now xs shard.geometry.g c.missed_marks-marks.result) c.deref-2.ensures.value c.missed_marks-marks.ensures;
        without = c.lose_marked.new.pass;
        loses = c.lose_marked.ensures.lost;
        loses_all = c.lose_marked.ensures.state;
        left_is = λ i. record c.lose_marked.new.pass { errors = (c.more_errors-pass.ensures ∙ ap (λ n. capped (c.lose_marked.new.pass.errors + n)) (let len = c.len.ensures in let e : c.len.result ≡ length failed = omega (arith, len) in e)) i };
      };
    }
