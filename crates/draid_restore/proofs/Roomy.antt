-- Room for one more arm, and for the readings.
use Rattle.std.proofs.Common.{arith, ◌+◌, ◌*◌, ◌<◌, Option, length, ◌≡◌, ◌++◌, ◌∷◌, ◌∙◌, [], ℕ, zero, suc, List, Some, refl, subst, sym, ap, inl, inr, slice_get}
use Rattle.std.proofs.lemmas.List.{length-append}
use Rattle.draid_machine.specs.declared.event.Patched.{Patched}
use Rattle.draid_machine.specs.Names.{has_number}
use Rattle.draid_machine.proofs.Small.{absurd_test, some_same}
use Rattle.draid_names.specs.declared.pointer.Pointer.{Pointer}
use Rattle.draid_rack.specs.Rack.{Told}
use Rattle.draid_slots.specs.Table.{SlotTable}
use Rattle.draid_shard.specs.Part.{Part}
use Rattle.draid_shard.specs.declared.loan.Spot.{Spot}
use Rattle.std.specs.Prelude.{Vec}
use Rattle.std.specs.declared.alloc.Global.{Global}
use Rattle.draid_shard.specs.Loans.{AreRooms, IsRowRoom}
use Rattle.draid_restore.specs.Reading.{Columns, ReadsSpots}
use Rattle.draid_restore.specs.Rooms.{HasColumns, HasReadRoom, IsBufferFor}
use Rattle.draid_shard.specs.Spots.{SpotsOf}
use Rattle.draid_restore.specs.declared.reading.Readings.{Readings}
use Rattle.draid_restore.proofs.ArmsRead.{reading_there}
use Rattle.draid_shard.proofs.Listed.{get_cases, get_drop}

pub rooms_pushed : (rows : ℕ) (old new : List Patched) (part : Patched) → new ≡ old ++ part ∷ [] → AreRooms rows old → IsRowRoom rows part → AreRooms rows new
rooms_pushed rows old new part is were room k p at = elim (get_cases old (part ∷ []) k p (ap (λ list. slice_get list k) (sym is) ∙ at)) [
  | inl before ↦ were k p before
  | inr z ↦ only z.0 z.2
]
  where
    only : (i : ℕ) → slice_get (part ∷ []) i ≡ Some p → IsRowRoom rows p
    only zero e = subst (IsRowRoom rows) (some_same (Some part) part p refl e) room
    only (suc i) e = absurd (cc)

-- and for one more column
pub columns_pushed : (spots : List Spot) (bytes n : ℕ) (old new : Columns) (buffer : Option (Vec ℕ Global)) → new ≡ old ++ buffer ∷ [] → HasColumns spots bytes n old → IsBufferFor spots bytes n buffer
    → HasColumns spots bytes (n + 1) new
columns_pushed spots bytes n old new buffer is has one = record {
  each = λ c b at. elim (get_cases old (buffer ∷ []) c b (ap (λ list. slice_get list c) (sym is) ∙ at)) [
    | inl before ↦ has.each c b before
    | inr z ↦ only c b z.0 z.1 z.2
  ];
  many = (let all = ap length is in let more = length-append old (buffer ∷ []) in let was = has.many in omega (arith, all, more, was));
}
  where
    only : (c : ℕ) (b : Option (Vec ℕ Global)) (i : ℕ) → c ≡ length old + i → slice_get (buffer ∷ []) i ≡ Some b → IsBufferFor spots bytes c b
    only c b zero here at =
        let many = has.many in
        let same : n ≡ c = omega (arith, many, here) in
        subst (λ k. IsBufferFor spots bytes k b) same (subst (IsBufferFor spots bytes n) (some_same (Some buffer) buffer b refl at) one)
    only c b (suc i) here at = absurd (cc)

-- nothing was read yet
module _ (part : Part) (slots : SlotTable) (pointer : Pointer) (spots : List Spot) (right : SpotsOf part slots pointer spots) (columns : ℕ) (columns_are : columns ≡ part.geometry.g) (bytes count size : ℕ)
    (bytes_are : bytes ≡ count * size) (lent : Readings) (has : HasReadRoom spots columns bytes lent) (told : Option Told) where
  buffer : (c : ℕ) → c < columns → (b : Option (Vec ℕ Global)) × (slice_get lent.columns.items c ≡ Some b)
  buffer c less = let z = get_drop lent.columns.items c (let many = has.buffers.many in omega (arith, less, many)) in (z.0, z.1)

  pub reads_none : ReadsSpots count size spots 0 told lent.columns.items lent.failed.items
  reads_none = record {
    silent = λ c less none.
        let z = buffer c (let many = has.buffers.many in omega (arith, less, many)) in
        z.1 ∙ ap Some ((has.buffers.each c z.0 z.1).silent none);
    read = λ c k spot is at less. absurd (omega (arith, less));
    rest = λ c k spot is at le.
        let there = reading_there spots c spot is in
        let column = (right.each there.0 spot there.1).column in
        let own = there.2 in
        let z = buffer c (omega (arith, column, own, columns_are)) in
        let y = (has.buffers.each c z.0 z.1).there spot is in
        (y.0, z.1 ∙ y.1, y.2 ∙ bytes_are);
    fail = λ leaf at. absurd_test (has_number lent.failed.items leaf) at (ap (λ ls. has_number ls leaf) has.none);
  }
