-- No record of a metaslab has a fault to an import of a pool that rests on a shelf.
use Rattle.std.proofs.Common.{arith, ◌≡◌, ◌<◌, ◌∙◌, ℕ, Option, Some, None, Err, sym, ap, subst}
use Rattle.std.specs.Prelude.{IsSomeAnd}
use Rattle.draid_area.specs.declared.Area as areas
use Rattle.draid_record.specs.declared.fault.RecordFaultKind.{RecordFaultKind}
use Rattle.draid_names.specs.declared.fault.DeviceFault.{DeviceFault}
use Rattle.draid_names.specs.declared.fault.DeviceFault.TheVariants as device
use Rattle.draid_rack.specs.Rack.{Shape}
use Rattle.draid_rack.specs.declared.Rack as racks
use Rattle.draid_spec.specs.declared.layout.Geometry.{Geometry}
use Rattle.draid_segments.specs.Segments.{Pieces}
use Rattle.draid_shelf.specs.Kits.{Held, KitCounts, OnHeld, kit_of}
use Rattle.draid_shelf.specs.Shelf.{IsKnown}
use Rattle.draid_shelf.specs.declared.kit.Kit.{Kit}
use Rattle.draid_stable.specs.Stable as stable
use Rattle.draid_pool.specs.Groups.{ListsOnce}
use Rattle.draid_import.specs.Reopening.{OpenIsRefused}
use Rattle.draid_import.specs.declared.fault.OpenFault.{OpenFault}
use Rattle.draid_import.specs.declared.fault.OpenFault.TheVariants as open_why
use Rattle.draid_uber.specs.Slots.{group_of}
use Rattle.draid_uber.specs.Uber.{kept_of, layout_of, next_leaf_of}
use Rattle.draid_uber.specs.declared.uber.Uber.{Uber}
use Rattle.draid_session.specs.State.{State}
use Rattle.draid_import.specs.Found.{IsFoundUber, IsRecovered, NoRecord, open_fault_of, shelf_fault_of}
use Rattle.draid_pool.specs.Importable.{HasImageLeaves}
use Rattle.draid_import.specs.Importing.{RestsThere}
use Rattle.draid_pool.specs.Taking.{TakesFirst, takes_areas}
use Rattle.draid_import.specs.declared.fault.ImportFault.{ImportFault}
use Rattle.draid_import.specs.declared.fault.ImportFault.TheVariants as fault
use Rattle.draid_import.proofs.ImportFound.{finds_image}
use Rattle.draid_import.proofs.ImportMetaslab.{FindsImage}
use Rattle.draid_import.proofs.ImportOpened.{rested}
use Rattle.draid_import.proofs.ImportPool.{FoundBody, body_found, once_there}
use Rattle.draid_import.proofs.ImportVersion.{found_at}
use Rattle.draid_import.proofs.ImportRecords.{not_refused}
use Rattle.draid_pool.proofs.Lists.{present}
use Rattle.draid_pool.proofs.Takings.{from_first}

-- a call on the shelf that gave nothing isn't a record's fault
pub no_shelf_record : {T : Type 0} (why : DeviceFault) (f : ImportFault) → f ≡ shelf_fault_of why → NoRecord {T = T} (Err f)
no_shelf_record {T} why f is = subst (λ (g : ImportFault). NoRecord {T = T} (Err g)) (sym is) (by why)
  where
    by : (why : DeviceFault) → NoRecord {T = T} (Err (shelf_fault_of why))
    by device.Failed metaslab place kind err = absurd (cc)
    by device.NoMemory metaslab place kind err = absurd (cc)

-- one fault of two answers
pub no_record_too : {T U : Type 0} (f : ImportFault) → NoRecord {T = T} (Err f) → NoRecord {T = U} (Err f)
no_record_too f none metaslab place kind err = none metaslab place kind (let same : f ≡ fault.Record metaslab place kind = cc in ap Err same)

known_leaves : (o : Option Shape) (shape : Shape) (P : Shape → Type 0) → IsKnown o shape → IsSomeAnd o P → P shape
known_leaves None shape P is h = absurd h
known_leaves (Some s) shape P is h = subst P (sym is) h

module _ {R A : Type 0} (rack : racks.Ghosts R) (area : areas.Ghosts A) (x : State) (pieces : ℕ → Pieces) (held : Held) (leaves : ℕ → Option Shape) (counts : ℕ → KitCounts) (count : ℕ)
    (there : RestsThere x pieces (Some held) leaves counts count) (uber : Uber A) (found : IsFoundUber area uber) (r : IsRecovered area (Some held) count uber) (b : FoundBody area x uber) where
  -- a metaslab's record is opened
  pub not_unread : (m : ℕ) → m < (layout_of uber).props.metaslabs → (old new : Kit R A) (place : ℕ) (k : RecordFaultKind) → kit_of (rack.told old.rack) (area.told old.even) (area.told old.odd) ≡ held.kits m
      → IsKnown (leaves m) (rack.shape old.rack)
      → OpenIsRefused rack area.faults area.told (layout_of uber) m old new (group_of (kept_of uber)) (next_leaf_of uber) (open_why.Record place k) → ⊥
  not_unread m below old new place k told known refused =
      let many = there.held.many in
      let same = ap (λ (g : Geometry). g.props.metaslabs) b.layout in
      let y = present x.metaslabs m (omega (arith, below, many, same)) in
      let kit = rested (held.kits m) x m (pieces m) y.0 (there.held.kits m y.0 y.1) in
      let f : FindsImage x m (pieces m) y.0 kit.0 b.body.group b.body.next_leaf
      = finds_image x there.held.layout there.held.many there.held.images there.held.leaves there.importable.findable m (pieces m) y.0 kit.0 b.body.group b.body.next_leaf y.1 kit.2 b.finds.may b.finds.some b.finds.leaf b.finds.version in
      not_refused x m (pieces m) y.0 kit.0 b.body.group b.body.next_leaf f
      (once_there (held.kits m) kit.0 (λ k. ListsOnce x.geometry m f.image (stable.area_of f.image.group k.even k.odd)) kit.1 (there.importable.once m y.0 f.image y.1 f.is))
      rack area old (told ∙ kit.1) (known_leaves (leaves m) (rack.shape old.rack) (HasImageLeaves x.geometry f.image) known (there.importable.there m y.0 f.image y.1 f.is)) new place k
      (subst (λ (g : Geometry). OpenIsRefused rack area.faults area.told g m old new b.body.group b.body.next_leaf (open_why.Record place k)) b.layout
      (subst (λ n. OpenIsRefused rack area.faults area.told (layout_of uber) m old new b.body.group n (open_why.Record place k)) b.next
      (subst (λ n. OpenIsRefused rack area.faults area.told (layout_of uber) m old new n (next_leaf_of uber) (open_why.Record place k)) b.group refused)))

-- so that it isn't why the metaslab wasn't opened
pub no_open_record : {T R A : Type 0} (rack : racks.Ghosts R) (area : areas.Ghosts A) (x : State) (pieces : ℕ → Pieces) (o now : Option Held) (leaves : ℕ → Option Shape) (counts : ℕ → KitCounts) (count : ℕ) (uber : Uber A)
    (m : ℕ) (old new : Kit R A) (known : Option Shape) (why : OpenFault) (f : ImportFault) → f ≡ open_fault_of m why → RestsThere x pieces o leaves counts count → IsFoundUber area uber → IsRecovered area o count uber
    → m < (layout_of uber).props.metaslabs → TakesFirst m (takes_areas o) now → OnHeld now (λ h. kit_of (rack.told old.rack) (area.told old.even) (area.told old.odd) ≡ h.kits m)
    → known ≡ leaves m → IsKnown known (rack.shape old.rack)
    → OpenIsRefused rack area.faults area.told (layout_of uber) m old new (group_of (kept_of uber)) (next_leaf_of uber) why → NoRecord {T = T} (Err f)
no_open_record {T} rack area x pieces None now leaves counts count uber m old new known why f is there found r below takes told same shape refused = absurd there.held
no_open_record {T} rack area x pieces (Some held) now leaves counts count uber m old new known why f is there found r below takes told same shape refused =
    subst (λ (g : ImportFault). NoRecord {T = T} (Err g)) (sym is) (by why refused)
  where
    own : kit_of (rack.told old.rack) (area.told old.even) (area.told old.odd) ≡ held.kits m
    own = from_first m (takes_areas (Some held)) now (λ k. kit_of (rack.told old.rack) (area.told old.even) (area.told old.odd) ≡ k) takes told

    by : (w : OpenFault) → OpenIsRefused rack area.faults area.told (layout_of uber) m old new (group_of (kept_of uber)) (next_leaf_of uber) w → NoRecord {T = T} (Err (open_fault_of m w))
    by open_why.Area h metaslab place kind err = absurd (cc)
    by open_why.NoMemory h metaslab place kind err = absurd (cc)
    by (open_why.Record at k) h metaslab place kind err =
        let f = body_found area x pieces held leaves counts count uber there found r in
        not_unread rack area (found_at x f.version) pieces held leaves counts count f.there uber found r f.b m below old new at k own (subst (λ (s : Option Shape). IsKnown s (rack.shape old.rack)) same shape) h
