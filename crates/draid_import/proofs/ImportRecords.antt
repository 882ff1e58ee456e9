-- No record of a pool that rests on a shelf has a fault to an import.
use Rattle.std.proofs.Common.{◌≡◌, ◌==◌, ◌%◌, ◌+◌, ◌&&◌, ◌++◌, ◌∙◌, not, ℕ, Bool, true, false, List, [], ◌∷◌, Option, Some, None, Result, Ok, Err, refl, sym, ap, subst, if◌then◌else◌}
use Rattle.std.specs.Prelude.{IsSome, find, option_map, unwrap_or}
use Rattle.std.specs.Option.{option_or}
use Rattle.draid_record.specs.declared.fault.RecordFaultKind.{RecordFaultKind}
use Rattle.draid_names.specs.declared.arm.ArmKind.{ArmKind}
use Rattle.draid_names.specs.declared.arm.ArmKind.TheVariants as kind
use Rattle.draid_area.specs.Area.{Content}
use Rattle.draid_area.specs.declared.Area as areas
use Rattle.draid_rack.specs.declared.Rack as racks
use Rattle.draid_spec.specs.Geometry.{metaslab_sectors}
use Rattle.draid_spec.specs.declared.layout.Geometry.{Geometry}
use Rattle.draid_machine.specs.declared.names.ArmName.TheVariants.{Leaf}
use Rattle.draid_machine.specs.Names.{name_eq, named}
use Rattle.draid_machine.specs.State as machine
use Rattle.draid_machine.proofs.Small.{equal}
use Rattle.draid_record.specs.Record.{ArmTold, RecordTold, limits_of, record_of}
use Rattle.draid_record.specs.declared.fault.RecordFault.{RecordFault}
use Rattle.draid_record.specs.declared.limits.Limits.{Limits}
use Rattle.draid_slots.specs.Table.{is_leaf, is_leaf_kind}
use Rattle.draid_entries.specs.Live.{first_twice}
use Rattle.draid_stable.specs.Images.{all_arms, arm_of, has_name}
use Rattle.draid_record.specs.declared.sizes.TheConstants.{SLOTS_AT}
use Rattle.draid_stable.specs.Opening.{arm_len, arms_len, fitting, has_leaf, is_lacking, lacking_from, lacking_in, once_in, opening_of, there_in}
use Rattle.draid_stable.specs.Stable as stable
use Rattle.draid_stable.specs.Stable.{HasRecord}
use Rattle.draid_shelf.specs.Kits.{KitTold, kit_of}
use Rattle.draid_shelf.specs.declared.kit.Kit.{Kit}
use Rattle.draid_segments.specs.Segments.{Pieces}
use Rattle.draid_pool.specs.Groups.{ListsOnce, at_version}
use Rattle.draid_import.specs.Reopening.{OpenIsRefused}
use Rattle.draid_import.specs.declared.fault.OpenFault.TheVariants as fault
use Rattle.draid_session.specs.State.{Metaslab, State}
use Rattle.draid_pool.specs.Importable.{HasImageLeaves}
use Rattle.draid_pool.proofs.Returned.{kit_is}
use Rattle.draid_import.proofs.ImportMetaslab.{FindsImage, of_told, own_version, read_there}

-- ---- leaves

leaf_named : (k : ArmKind) (n : ℕ) → is_leaf_kind k ≡ true → name_eq (named k n) (Leaf n) ≡ true
leaf_named kind.Leaf n is = equal n n refl
leaf_named kind.Spare n is = absurd (cc)

first_or : {A : Type 0} (b : Bool) (x : A) (o : Option A) → IsSome o → IsSome (if b then Some x else o)
first_or true x o some = refl
first_or false x o some = some

found_first : {A : Type 0} (b : Bool) (x : A) (o : Option A) → b ≡ true → IsSome (if b then Some x else o)
found_first true x o is = refl
found_first false x o is = absurd (cc)

first_and : {A : Type 0} (b : Bool) (x : A) (o q : Option A) → (IsSome o → IsSome q) → IsSome (if b then Some x else o) → IsSome (if b then Some x else q)
first_and true x o q later some = refl
first_and false x o q later some = later some

-- what is found in the front of a list, or behind it, is found in the whole
found_front : {A : Type 0} (p : A → Bool) (xs ys : List A) → IsSome (find p xs) → IsSome (find p (xs ++ ys))
found_front p [] ys some = absurd (cc)
found_front p (x ∷ xs) ys some = first_and (p x) x (find p xs) (find p (xs ++ ys)) (λ later. found_front p xs ys later) some

found_behind : {A : Type 0} (p : A → Bool) (xs ys : List A) → IsSome (find p ys) → IsSome (find p (xs ++ ys))
found_behind p [] ys some = some
found_behind p (x ∷ xs) ys some = first_or (p x) x (find p (xs ++ ys)) (found_behind p xs ys some)

none_in : (there : ℕ → Bool) (place : ℕ) (arms : List ArmTold) → ((n : ℕ) → IsSome (find (has_name (Leaf n)) arms) → there n ≡ true) → lacking_in there place arms ≡ None
none_in there place [] has = refl
none_in there place (a ∷ rest) has =
    rest_only (is_lacking there a.0) (place + 1) (lacking_in there (place + arm_len a) rest) (lacks (is_leaf a.0) refl)
    (none_in there (place + arm_len a) rest (λ n some. has n (first_or (has_name (Leaf n) a) a (find (has_name (Leaf n)) rest) some)))
  where
    rest_only : (b : Bool) (x : ℕ) (o : Option ℕ) → b ≡ false → o ≡ None → (if b then Some x else o) ≡ None
    rest_only true x o is none = absurd (cc)
    rest_only false x o is none = none

    lacks : (b : Bool) → is_leaf a.0 ≡ b → (b && not (there a.0.number)) ≡ false
    lacks true leaf = ap not (has a.0.number (found_first (has_name (Leaf a.0.number) a) a (find (has_name (Leaf a.0.number)) rest) (leaf_named a.0.kind a.0.number leaf)))
    lacks false leaf = refl

none_from : (there : ℕ → Bool) (place : ℕ) (slots : List (List ArmTold)) → ((n : ℕ) → IsSome (find (has_name (Leaf n)) (all_arms slots)) → there n ≡ true) → lacking_from there place slots ≡ None
none_from there place [] has = refl
none_from there place (slot ∷ rest) has =
    neither (lacking_in there (place + 1) slot) (lacking_from there (place + 1 + arms_len slot) rest)
    (none_in there (place + 1) slot (λ n some. has n (found_front (has_name (Leaf n)) slot (all_arms rest) some)))
    (none_from there (place + 1 + arms_len slot) rest (λ n some. has n (found_behind (has_name (Leaf n)) slot (all_arms rest) some)))
  where
    neither : (o p : Option ℕ) → o ≡ None → p ≡ None → option_or o p ≡ None
    neither None p is none = none
    neither (Some x) p is none = absurd (cc)

-- an image by a record has an arm where the record tells one
arm_some : (o : Option ArmTold) → IsSome o → IsSome (option_map arm_of o)
arm_some None some = some
arm_some (Some a) some = refl

there_by : (o : Option ℕ) (sectors : ℕ) → o ≡ Some sectors → unwrap_or (option_map (λ n. n == sectors) o) false ≡ true
there_by None sectors is = absurd (cc)
there_by (Some n) sectors is = (let same : n ≡ sectors = cc in equal n sectors same)

-- ---- records

-- what is read and lacks nothing is the answer
whole : (limits : Limits) (there : ℕ → Bool) (bytes : List ℕ) (value : RecordTold) → record_of limits bytes ≡ Ok value → lacking_from there SLOTS_AT value.slots ≡ None → first_twice value.blocks ≡ None
    → opening_of limits there bytes ≡ Ok value
whole limits there bytes value read lacks once = ap (fitting there bytes) read ∙ (ap (there_in bytes value) lacks ∙ ap (once_in bytes value) once)

module _ (x : State) (m : ℕ) (pieces : Pieces) (y : Metaslab) (kit : KitTold) (group next : ℕ) (f : FindsImage x m pieces y kit group next) (once : ListsOnce x.geometry m f.image (stable.area_of f.image.group kit.even kit.odd))
    {R A : Type 0} (rack : racks.Ghosts R) (area : areas.Ghosts A) (old : Kit R A) (told : kit_of (rack.told old.rack) (area.told old.even) (area.told old.odd) ≡ Some kit)
    (leaves : HasImageLeaves x.geometry f.image (rack.shape old.rack)) where
  abbrev pub has : HasRecord (at_version f.image.version x.geometry) m f.image (stable.area_of f.image.group kit.even kit.odd)
  has = once.has

  -- the record is opened
  pub opens_whole : opening_of (limits_of x.geometry m group next) (has_leaf (rack.shape old.rack) (metaslab_sectors x.geometry)) (stable.area_of group kit.even kit.odd).bytes ≡ Ok has.value
  opens_whole =
      subst (λ g. opening_of (limits_of x.geometry m g next) (has_leaf (rack.shape old.rack) (metaslab_sectors x.geometry)) (stable.area_of g kit.even kit.odd).bytes ≡ Ok has.value) f.of
      (subst (λ (g : Geometry). opening_of (limits_of g m f.image.group next) (has_leaf (rack.shape old.rack) (metaslab_sectors x.geometry)) (stable.area_of f.image.group kit.even kit.odd).bytes ≡ Ok has.value)
      (own_version f.image.version x.geometry f.version)
      (whole (limits_of (at_version f.image.version x.geometry) m f.image.group next) (has_leaf (rack.shape old.rack) (metaslab_sectors x.geometry)) (stable.area_of f.image.group kit.even kit.odd).bytes has.value read
      (none_from (has_leaf (rack.shape old.rack) (metaslab_sectors x.geometry)) SLOTS_AT has.value.slots there) once.once))
    where
      read : record_of (limits_of (at_version f.image.version x.geometry) m f.image.group next) (stable.area_of f.image.group kit.even kit.odd).bytes ≡ Ok has.value
      read = read_there (at_version f.image.version x.geometry) m next f.image (stable.area_of f.image.group kit.even kit.odd) has f.below

      there : (n : ℕ) → IsSome (find (has_name (Leaf n)) (all_arms has.value.slots)) → has_leaf (rack.shape old.rack) (metaslab_sectors x.geometry) n ≡ true
      there n some = there_by ((rack.shape old.rack).leaves n) (metaslab_sectors x.geometry)
          (leaves n (subst (λ (i : machine.Image). IsSome (i.core.arm (Leaf n))) has.says (arm_some (find (has_name (Leaf n)) (all_arms has.value.slots)) some)))

  -- so that no fault of it is an answer
  pub not_refused : (new : Kit R A) (place : ℕ) (k : RecordFaultKind) → OpenIsRefused rack area.faults area.told x.geometry m old new group next (fault.Record place k) → ⊥
  not_refused new place k r =
      let t = kit_is (rack.told old.rack) (area.told old.even) (area.told old.odd) kit told in
      let bytes : (stable.area_of group kit.even kit.odd).bytes ≡ r.0 = of_told (group % 2 == 0) area.told old.even old.odd kit.even kit.odd (λ (c : Content). c.bytes ≡ r.0) t.even t.odd r.1 in
      let whole_is = subst (λ b. opening_of (limits_of x.geometry m group next) (has_leaf (rack.shape old.rack) (metaslab_sectors x.geometry)) b ≡ Ok has.value) bytes opens_whole in
      never (opening_of (limits_of x.geometry m group next) (has_leaf (rack.shape old.rack) (metaslab_sectors x.geometry)) r.0) has.value _ whole_is r.2
    where
      never : (r : Result RecordTold RecordFault) (v : RecordTold) (w : RecordFault) → r ≡ Ok v → r ≡ Err w → ⊥
      never r v w ok err = (let both = sym ok ∙ err in absurd (cc))
