use Rattle.std.proofs.Common.{arith, ◌≡◌, ◌+◌, ◌∙◌, Some, ap, sym, false, slice_get}
use Rattle.std.specs.Prelude.{slice_index_or}
use Rattle.std.proofs.lemmas.Option.{slice_get-get_or}
use Rattle.draid_columns.proofs.Written.{row_fits}
use Rattle.draid_machine.specs.declared.names.ArmName.TheVariants.{Leaf}
use Rattle.draid_shard.specs.Spots.{rows_for}
use Rattle.draid_shard.specs.declared.loan.Spot.{Spot}
use Rattle.draid_heal.proofs.Settled.{one_firm, row_left, row_settled, still_firm}
use Rattle.draid_heal.proofs.settle.settle_row.Goals as goal

abbrev none : Spot
none = record { column = 0; arm = Leaf 0; leaf = 0; first = 0; clean = false }

pub overflow_add-spot : goal.overflow_add-spot
overflow_add-spot g c =
    let there : slice_get c.args.spots.now c.args.i ≡ Some (slice_index_or c.args.spots.now c.args.i none) = slice_get-get_or c.args.spots.now c.args.i none c.requires.less in
    let rows = c.requires.there c.args.i (slice_index_or c.args.spots.now c.args.i none) there in
    let low = rows.low in let row = c.requires.row in omega (arith, low, row)

pub settle-requires-clause-place : goal.settle-requires-clause-place
settle-requires-clause-place g c =
    let spot : Spot = slice_index_or c.args.spots.now c.args.i none in
    let there : slice_get c.args.spots.now c.args.i ≡ Some spot = slice_get-get_or c.args.spots.now c.args.i none c.requires.less in
    let rows = c.requires.there c.args.i spot there in
    row_fits (g.R.Rack.shape c.args.rack.now) (rows_for c.args.extent.count c.args.extent.size spot) c.args.row (g.R.Rack.shape c.args.rack.now).bytes rows c.requires.row (sym rows.whole)

pub settle-requires-clause-firm : goal.settle-requires-clause-firm
settle-requires-clause-firm g c =
    let spot : Spot = slice_index_or c.args.spots.now c.args.i none in
    let there : slice_get c.args.spots.now c.args.i ≡ Some spot = slice_get-get_or c.args.spots.now c.args.i none c.requires.less in
    let part = c.index-patched-i.result in
    let noted : slice_get c.args.patched.now c.args.i ≡ Some part = slice_get-get_or c.args.patched.now c.args.i part (let same = c.requires.same in let less = c.requires.less in omega (arith, same, less)) ∙ ap Some (sym c.index-patched-i.is) in
    one_firm c.args.extent.count c.args.spots.now c.args.patched.now (g.R.Rack.told c.args.rack.now) c.requires.firm c.args.i c.args.row spot part there noted c.requires.row (sym c.is_settled-must.ensures ∙ c.if-must.true)

pub returns-then-must-clause-settles : goal.returns-then-must-clause-settles
returns-then-must-clause-settles g c start was =
    let spot : Spot = slice_index_or c.args.spots.now c.args.i none in
    let there : slice_get c.args.spots.now c.args.i ≡ Some spot = slice_get-get_or c.args.spots.now c.args.i none c.requires.less in
    let part = c.index-patched-i.result in
    let noted : slice_get c.args.patched.now c.args.i ≡ Some part = slice_get-get_or c.args.patched.now c.args.i part (let same = c.requires.same in let less = c.requires.less in omega (arith, same, less)) ∙ ap Some (sym c.index-patched-i.is) in
    row_settled c.args.extent.count c.args.spots.now c.args.patched.now c.args.i c.args.row spot part there noted c.requires.row (sym c.is_settled-must.ensures ∙ c.if-must.true)
    start (g.R.Rack.told c.args.rack.now) (g.R.Rack.told c.settle.new.self) c.settle.ensures.told was

pub returns-then-must-clause-firm : goal.returns-then-must-clause-firm
returns-then-must-clause-firm g c =
    let spot : Spot = slice_index_or c.args.spots.now c.args.i none in
    still_firm c.args.extent.count c.args.spots.now c.args.patched.now spot.leaf (spot.first + c.args.row) (g.R.Rack.told c.args.rack.now) (g.R.Rack.told c.settle.new.self) c.settle.ensures.told c.requires.firm

pub returns-else-must-clause-settles : goal.returns-else-must-clause-settles
returns-else-must-clause-settles g c start was =
    let spot : Spot = slice_index_or c.args.spots.now c.args.i none in
    let there : slice_get c.args.spots.now c.args.i ≡ Some spot = slice_get-get_or c.args.spots.now c.args.i none c.requires.less in
    let part = c.index-patched-i.result in
    let noted : slice_get c.args.patched.now c.args.i ≡ Some part = slice_get-get_or c.args.patched.now c.args.i part (let same = c.requires.same in let less = c.requires.less in omega (arith, same, less)) ∙ ap Some (sym c.index-patched-i.is) in
    row_left c.args.extent.count c.args.spots.now c.args.patched.now c.args.i c.args.row spot part there noted c.requires.row (sym c.is_settled-must.ensures ∙ c.if-must.false) start (g.R.Rack.told c.args.rack.now) was
