-- The arms of a block that answer are fit for a landing.
use Rattle.std.proofs.Common.{◌≡◌, ◌<◌, ℕ, List, refl, subst, sym}
use Rattle.draid_names.specs.declared.pointer.Pointer.{Pointer}
use Rattle.draid_rack.specs.Rack.{Shape}
use Rattle.draid_slots.specs.Changes.{IsOf}
use Rattle.draid_slots.specs.Table.{IsTable, SlotTable}
use Rattle.draid_shard.specs.Fits.{HasLeaves, NamesOnce}
use Rattle.draid_shard.specs.Part.{IsPart, IsRun, Part}
use Rattle.draid_shard.specs.Rows.{IsRowsOf}
use Rattle.draid_shard.specs.declared.loan.Spot.{Spot}
use Rattle.draid_shard.proofs.Fitted.{fits_rows}
use Rattle.draid_shard.proofs.Holders.{rows_there}
use Rattle.draid_shard.specs.Spots.{FitSpots, SpotsOf, rows_at, rows_for}
use Rattle.draid_shard.proofs.Apart.{spots_apart}

pub own_rows : (part : Part) (pointer : Pointer) (c : ℕ) → IsRowsOf part pointer c (rows_at part pointer c)
own_rows part pointer c = record { slot_is = refl; first_is = refl; count_is = refl; size_is = refl; birth_is = refl; slice_is = refl }

pub fit_spots : (part : Part) (is : IsPart part) (slots : SlotTable) (of : IsOf slots part.geometry part.perms part.number) → NamesOnce slots → IsTable slots
    → (pointer : Pointer) → IsRun part.geometry pointer.first pointer.stripes → (shape : Shape) → HasLeaves shape part.geometry slots → (spots : List Spot) → SpotsOf part slots pointer spots
    → (columns : ℕ) → columns ≡ part.geometry.g → FitSpots shape pointer.stripes part.geometry.props.sector columns spots
fit_spots part is slots of once table pointer run shape leaves spots right columns same = record {
  there = λ k spot at. let o = right.each k spot at in
      rows_there shape slots (rows_at part pointer spot.column) o.k spot.leaf (rows_for pointer.stripes part.geometry.props.sector spot)
      (λ i. record { leaf = spot.leaf; first = o.first i; count = pointer.stripes; size = part.geometry.props.sector })
      (fits_rows part is slots of shape pointer run spot.column o.column (rows_at part pointer spot.column) (own_rows part pointer spot.column) leaves) o.lies;
  column = λ k spot at. subst (λ n. spot.column < n) (sym same) (right.each k spot at).column;
  apart = spots_apart part is slots of once table pointer spots right;
}
