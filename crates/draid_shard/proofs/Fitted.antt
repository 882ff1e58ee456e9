-- The rows of a block's column fit its slots.
use Rattle.std.proofs.Common.{◌≡◌, ◌+◌, ◌<◌, ◌≤◌, ◌^◌, ◌∙◌, ℕ, Bool, Option, Some, None, arith, sym, ap, subst}
use Rattle.draid_names.specs.declared.numbers.TheConstants.{LAST_NUMBER}
use Rattle.draid_names.specs.declared.pointer.Pointer.{Pointer}
use Rattle.draid_spec.specs.declared.layout.Geometry.{Geometry}
use Rattle.draid_spec.specs.Geometry.{metaslab_sectors, slice_at}
use Rattle.draid_rack.specs.Rack.{Shape}
use Rattle.draid_slots.specs.Changes.{IsOf}
use Rattle.draid_slots.specs.Table.{SlotTable}
use Rattle.draid_shard.specs.Fits.{AreGroups, HasLeaves, birth_groups, oldest_open}
use Rattle.draid_shard.specs.Part.{IsPart, IsRun, Part}
use Rattle.draid_shard.specs.Rows.{FitsRows, IsRowsOf}
use Rattle.draid_shard.specs.declared.places.ColumnRows.{ColumnRows}
use Rattle.draid_shard.proofs.Homes.{child_below, few_sectors, rows_inside, slice_below}

pub fits_rows : (part : Part) (is : IsPart part) (slots : SlotTable) (of : IsOf slots part.geometry part.perms part.number) (shape : Shape) (pointer : Pointer) (run : IsRun part.geometry pointer.first pointer.stripes)
    (c : ℕ) (column : c < part.geometry.g) (rows : ColumnRows) → IsRowsOf part pointer c rows → HasLeaves shape part.geometry slots → FitsRows shape slots rows
fits_rows part is slots of shape pointer run c column rows rows_are leaves = record {
  leaves = subst (λ (geometry : Geometry). HasLeaves shape geometry slots) same leaves;
  size_is = rows_are.size_is ∙ ap (λ (geometry : Geometry). geometry.props.sector) same;
  slice_is = rows_are.slice_is ∙ ap (λ (geometry : Geometry). slice_at geometry rows.first) same;
  some = (let some = run.some in let count = rows_are.count_is in omega (arith, some, count));
  inside = subst (λ (geometry : Geometry). rows.first + rows.count ≤ metaslab_sectors geometry) same inside;
  low = subst (λ (geometry : Geometry). metaslab_sectors geometry < 2 ^ 64) same (few_sectors part is);
  slot_below = subst (λ (geometry : Geometry). rows.slot < geometry.spec.children) same (subst (λ slot. slot < part.geometry.spec.children) (sym rows_are.slot_is) (child_below part is pointer.first c));
  slice_below = subst (λ (geometry : Geometry). rows.slice < geometry.props.slices) same
      (subst (λ slice. slice < part.geometry.props.slices) (sym rows_are.slice_is) (slice_below part is rows.first (let some = run.some in let count = rows_are.count_is in omega (arith, inside, some, count))));
} where
  same : part.geometry ≡ slots.geometry
  same = sym of.geometry_is

  inside : rows.first + rows.count ≤ metaslab_sectors part.geometry
  inside = let all = rows_inside part is pointer.first pointer.stripes c run column in let first = rows_are.first_is in let count = rows_are.count_is in omega (arith, all, first, count)

-- a birth in an open group, or the next
pub born_from : (open_group committed birth : ℕ) (closing : Option ℕ) (sealed : Bool) → AreGroups open_group closing committed sealed → birth ≤ open_group + 1 → birth < oldest_open open_group closing + birth_groups closing
born_from open_group committed birth None sealed groups born = omega (arith, born)
born_from open_group committed birth (Some t) sealed groups born = let e = groups.0 in omega (arith, born, e)

pub born_low : (birth : ℕ) → birth ≤ LAST_NUMBER → birth < 2 ^ 48
born_low birth low = omega (arith, low)
