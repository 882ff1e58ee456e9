-- The leaves of a record that lacks none: they are in the rack, and are arms of the tables.
use Rattle.std.proofs.Common.{◌≡◌, ◌==◌, ◌+◌, ◌||◌, ◌&&◌, not, ℕ, zero, suc, Bool, true, false, List, [], ◌∷◌, map, Option, Some, None, Result, Ok, Err, refl, sym, ◌∙◌, ap, subst, arith, slice_get, slice_index_or, option_map, unwrap_or, is_some, IfSome, if◌then◌else◌, eqb-true, eq-eqb}
use Rattle.std.specs.List.{list_any}
use Rattle.std.specs.Option.{option_or}
use Rattle.std.proofs.lemmas.Bool.{true≢false}
use Rattle.std.proofs.lemmas.Bool.Decides.{nat_tests}
use Rattle.draid_names.specs.declared.arm.Arm.{Arm}
use Rattle.draid_names.specs.declared.arm.ArmAt.{ArmAt}
use Rattle.draid_names.specs.declared.arm.ArmKind.{ArmKind}
use Rattle.draid_names.specs.declared.arm.ArmKind.TheVariants as kind
use Rattle.draid_rack.specs.Rack.{Shape}
use Rattle.draid_machine.specs.declared.names.ArmName.{ArmName}
use Rattle.draid_machine.specs.declared.names.ArmName.TheVariants.{Leaf}
use Rattle.draid_machine.specs.Names.{has_name, name_eq, named}
use Rattle.draid_machine.proofs.Small.{name_true, some_injective}
use Rattle.draid_segments.specs.Acts.{IsNamed}
use Rattle.draid_slots.specs.Table.{IsArmOf, SlotTable, arm_at, is_leaf, is_leaf_kind, is_leaf_of}
use Rattle.draid_entries.specs.Live.{first_twice}
use Rattle.draid_record.specs.Record.{ArmTold, RecordTold, record_of}
use Rattle.draid_record.specs.declared.fault.RecordFault.{RecordFault}
use Rattle.draid_record.specs.declared.limits.Limits.{Limits}
use Rattle.draid_stable.specs.Images.{image_by, name_of}
use Rattle.draid_record.specs.declared.sizes.TheConstants.{SLOTS_AT}
use Rattle.draid_stable.specs.Opening.{arm_len, arms_len, arms_told, fitting, has_leaf, has_leaf_arm, is_lacking, lacking_from, lacking_in, once_in, opening_of, there_in}
use Rattle.draid_stable.proofs.Named.{any_got}
use Rattle.draid_stable.proofs.Opened.{from_map, index_map, into_map}

-- ---- what a record says that was read without a fault
pub record Parts (limits : Limits) (there : ℕ → Bool) (bytes : List ℕ) (value : RecordTold) : Type 0 where
  pub read : record_of limits bytes ≡ Ok value
  pub lacks : lacking_from there SLOTS_AT value.slots ≡ None
  pub once : first_twice value.blocks ≡ None

pub whole_parts : (limits : Limits) (there : ℕ → Bool) (bytes : List ℕ) (value : RecordTold) → opening_of limits there bytes ≡ Ok value → Parts limits there bytes value
whole_parts limits there bytes value is = by (record_of limits bytes) refl is
  where
    once_by : (v : RecordTold) → record_of limits bytes ≡ Ok v → lacking_from there SLOTS_AT v.slots ≡ None → (o : Option ℕ) → first_twice v.blocks ≡ o → once_in bytes v o ≡ Ok value → Parts limits there bytes value
    once_by v read lacks None once e = let same : v ≡ value = cc in subst (Parts limits there bytes) same (record { read = read; lacks = lacks; once = once })
    once_by v read lacks (Some k) once e = absurd (cc)

    there_by : (v : RecordTold) → record_of limits bytes ≡ Ok v → (o : Option ℕ) → lacking_from there SLOTS_AT v.slots ≡ o → there_in bytes v o ≡ Ok value → Parts limits there bytes value
    there_by v read None lacks e = once_by v read lacks (first_twice v.blocks) refl e
    there_by v read (Some k) lacks e = absurd (cc)

    by : (r : Result RecordTold RecordFault) → record_of limits bytes ≡ r → fitting there bytes r ≡ Ok value → Parts limits there bytes value
    by (Err f) read e = absurd (cc)
    by (Ok v) read e = there_by v read (lacking_from there SLOTS_AT v.slots) refl e

-- ---- each leaf arm is there
both_none : {A : Type 0} (o p : Option A) → option_or o p ≡ None → (o ≡ None) × (p ≡ None)
both_none None p is = (refl, is)
both_none (Some x) p is = absurd (cc)

not_lacking : (leaf there : Bool) → (leaf && not there) ≡ false → leaf ≡ true → there ≡ true
not_lacking true true is l = refl
not_lacking true false is l = absurd (true≢false is)
not_lacking false there is l = absurd (true≢false (sym l))

next_none : {A : Type 0} (b : Bool) (x : A) (o : Option A) → (if b then Some x else o) ≡ None → (b ≡ false) × (o ≡ None)
next_none true x o is = absurd (cc)
next_none false x o is = (refl, is)

there_in_slot : (there : ℕ → Bool) (place : ℕ) (list : List ArmTold) (k : ℕ) (t : ArmTold) → lacking_in there place list ≡ None → slice_get list k ≡ Some t → is_leaf t.0 ≡ true → there t.0.number ≡ true
there_in_slot there place [] k t none at leaf = absurd (cc)
there_in_slot there place (a ∷ rest) zero t none at leaf =
    let both = next_none (is_lacking there a.0) (place + 1) (lacking_in there (place + arm_len a) rest) none in
    let same : a ≡ t = some_injective a t at in
    not_lacking (is_leaf t.0) (there t.0.number) (ap (λ (u : ArmTold). is_lacking there u.0) (sym same) ∙ both.0) leaf
there_in_slot there place (a ∷ rest) (suc k) t none at leaf =
    let both = next_none (is_lacking there a.0) (place + 1) (lacking_in there (place + arm_len a) rest) none in
    there_in_slot there (place + arm_len a) rest k t both.1 at leaf

pub there_if : (there : ℕ → Bool) (place : ℕ) (slots : List (List ArmTold)) (s k : ℕ) (t : ArmTold) → lacking_from there place slots ≡ None → slice_get (slice_index_or slots s []) k ≡ Some t
    → is_leaf t.0 ≡ true → there t.0.number ≡ true
there_if there place [] s k t none at leaf = absurd (cc)
there_if there place (x ∷ rest) zero k t none at leaf =
    there_in_slot there (place + 1) x k t (both_none (lacking_in there (place + 1) x) (lacking_from there (place + 1 + arms_len x) rest) none).0 at leaf
there_if there place (x ∷ rest) (suc s) k t none at leaf =
    there_if there (place + 1 + arms_len x) rest s k t (both_none (lacking_in there (place + 1) x) (lacking_from there (place + 1 + arms_len x) rest) none).1 at leaf

pub has_sectors : (shape : Shape) (sectors leaf : ℕ) → has_leaf shape sectors leaf ≡ true → shape.leaves leaf ≡ Some sectors
has_sectors shape sectors leaf is = by (shape.leaves leaf) is
  where
    by : (o : Option ℕ) → unwrap_or (option_map (λ n. n == sectors) o) false ≡ true → o ≡ Some sectors
    by None is = absurd (true≢false (sym is))
    by (Some n) is = ap Some (eqb-true n sectors is)

-- ---- leaves that are arms
any_in : {X : Type 0} (p : X → Bool) (xss : List (List X)) (s k : ℕ) (x : X) → slice_get (slice_index_or xss s []) k ≡ Some x → p x ≡ true → list_any (λ (xs : List X). list_any p xs) xss ≡ true
any_in p [] s k x at is = absurd (cc)
any_in {X} p (xs ∷ xss) zero k x at is = ap (λ b. b || list_any (λ (ys : List X). list_any p ys) xss) (any_got p xs k x at is)
any_in {X} p (xs ∷ xss) (suc s) k x at is = by (list_any p xs) (any_in p xss s k x at is)
  where
    by : (b : Bool) → list_any (λ (ys : List X). list_any p ys) xss ≡ true → (b || list_any (λ (ys : List X). list_any p ys) xss) ≡ true
    by true e = refl
    by false e = e

is_the_leaf : (leaf : ℕ) (arm : Arm) → arm.kind ≡ kind.Leaf → arm.number ≡ leaf → is_leaf_of leaf arm ≡ true
is_the_leaf leaf arm k n = ap (λ j. is_leaf_kind j && (arm.number == leaf)) k ∙ ap (λ m. m == leaf) n ∙ eq-eqb leaf leaf refl

pub arm_named : (table : SlotTable) (at : ArmAt) (arm : Arm) (leaf : ℕ) → arm_at table at ≡ Some arm → arm.kind ≡ kind.Leaf → arm.number ≡ leaf → has_leaf_arm table leaf ≡ true
arm_named table at arm leaf there k n = any_in (is_leaf_of leaf) table.arms at.slot at.arm arm there (is_the_leaf leaf arm k n)

-- the arm of a name among some
named_at : (list : List ArmTold) (n : ArmName) → has_name (map name_of list) n ≡ true → (k : ℕ) × (t : ArmTold) × (slice_get list k ≡ Some t) × (name_of t ≡ n)
named_at [] n has = absurd (true≢false (sym has))
named_at (a ∷ rest) n has = by (name_eq (name_of a) n) refl has (named_at rest n)
  where
    by : (b : Bool) → name_eq (name_of a) n ≡ b → (b || has_name (map name_of rest) n) ≡ true
        → (has_name (map name_of rest) n ≡ true → (k : ℕ) × (t : ArmTold) × (slice_get rest k ≡ Some t) × (name_of t ≡ n))
        → (k : ℕ) × (t : ArmTold) × (slice_get (a ∷ rest) k ≡ Some t) × (name_of t ≡ n)
    by true is e more = (0, a, refl, name_true (name_of a) n is)
    by false is e more = let z = more e in (suc z.0, z.1, z.2, z.3)

leaf_name : (k : ArmKind) (number leaf : ℕ) → named k number ≡ Leaf leaf → (k ≡ kind.Leaf) × (number ≡ leaf)
leaf_name kind.Leaf number leaf is = (refl, cc)
leaf_name kind.Spare number leaf is = absurd (cc)

pub named_leaf : (table : SlotTable) (value : RecordTold) (leaf : ℕ) → table.arms ≡ arms_told value.slots → IsNamed (image_by value) leaf → has_leaf_arm table leaf ≡ true
named_leaf table value leaf arms is =
    let first : ArmTold → Arm = λ told. told.0 in
    let at = named_at (slice_index_or value.slots is.0 []) (Leaf leaf) is.1 in
    let name = leaf_name at.1.0.kind at.1.0.number leaf at.3 in
    let there : slice_get (slice_index_or table.arms is.0 []) at.0 ≡ Some at.1.0 =
    ap (λ (a : List (List Arm)). slice_get (slice_index_or a is.0 []) at.0) arms ∙ ap (λ xs. slice_get xs at.0) (index_map (map first) value.slots is.0 [])
    ∙ into_map first (slice_index_or value.slots is.0 []) at.0 at.1 at.2 in
    any_in (is_leaf_of leaf) table.arms is.0 at.0 at.1.0 there (is_the_leaf leaf at.1.0 name.0 name.1)

-- a leaf arm of the tables is in a rack of which the record lacks no leaf
pub leaf_there : (table : SlotTable) (there : ℕ → Bool) (slots : List (List ArmTold)) (at : ArmAt) (arm : Arm) (leaf : ℕ) → table.arms ≡ arms_told slots → lacking_from there SLOTS_AT slots ≡ None
    → arm_at table at ≡ Some arm → arm.kind ≡ kind.Leaf → arm.number ≡ leaf → there leaf ≡ true
leaf_there table there slots at arm leaf arms lacks found k n =
    let first : ArmTold → Arm = λ told. told.0 in
    let here : slice_get (map first (slice_index_or slots at.slot [])) at.arm ≡ Some arm =
    ap (λ xs. slice_get xs at.arm) (sym (index_map (map first) slots at.slot [])) ∙ ap (λ (a : List (List Arm)). slice_get (slice_index_or a at.slot []) at.arm) (sym arms) ∙ found in
    let t = from_map first (slice_index_or slots at.slot []) at.arm arm here in
    let leaf_is : is_leaf t.0.0 ≡ true = ap is_leaf t.2 ∙ ap is_leaf_kind k in
    ap there (sym n ∙ ap (λ (a : Arm). a.number) (sym t.2)) ∙ there_if there SLOTS_AT slots at.slot at.arm t.0 lacks t.1 leaf_is

-- a leaf that is found among the arms is one
pub found_leaf : (table : SlotTable) (leaf : ℕ) (o : Option ArmAt) → is_some o ≡ true → IfSome o (λ at. IsArmOf kind.Leaf leaf (arm_at table at)) → has_leaf_arm table leaf ≡ true
found_leaf table leaf None some found = absurd (true≢false (sym some))
found_leaf table leaf (Some at) some found = arm_named table at found.0 leaf found.1 found.2 found.3
