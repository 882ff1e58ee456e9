-- The fault of a record for which an import is refused.
use Rattle.std.proofs.Common.{◌≡◌, ◌∙◌, ℕ, Bool, false, List, Option, Some, None, Result, Ok, Err, refl, sym, ap, subst}
use Rattle.std.specs.Prelude.{⊤, ◌↔◌, IsErrOf, IsSome, IsSomeAnd, IsTrue, MatchOption, option_map}
use Rattle.draid_record.specs.declared.fault.RecordFaultKind.{RecordFaultKind}
use Rattle.draid_names.specs.declared.fault.DeviceFault.{DeviceFault}
use Rattle.draid_names.specs.declared.fault.DeviceFault.TheVariants as device
use Rattle.draid_rack.specs.Rack.{Shape}
use Rattle.draid_rack.specs.declared.Rack as racks
use Rattle.draid_area.specs.Area.{Content, OnTold}
use Rattle.draid_area.specs.declared.Area as areas
use Rattle.draid_record.specs.declared.fault.RecordFault.TheVariants.{Bad}
use Rattle.draid_shelf.specs.Kits.{Held, KitCounts, NeedsUber, OnHeld, kit_of}
use Rattle.draid_shelf.specs.Shelf.{IsKnown}
use Rattle.draid_shelf.specs.declared.kit.Kit.{Kit}
use Rattle.draid_spec.specs.declared.layout.Geometry.{Geometry}
use Rattle.draid_import.specs.Reopening.{OpenIsRefused}
use Rattle.draid_import.specs.declared.fault.OpenFault.{OpenFault}
use Rattle.draid_import.specs.declared.fault.OpenFault.TheVariants as open_why
use Rattle.draid_shard.specs.declared.shard.Shard.{Shard}
use Rattle.draid_found.specs.Together.{AreApart}
use Rattle.draid_record.specs.declared.uber.UberBody.{UberBody}
use Rattle.draid_machine.proofs.Small.{absurd_test}
use Rattle.draid_uber.specs.Slots.{chosen_of, read_body}
use Rattle.draid_uber.specs.Uber as ubers
use Rattle.draid_uber.specs.Uber.{FindsFault, kept_of, layout_of, next_leaf_of, version_of}
use Rattle.draid_uber.specs.declared.uber.Uber.{Uber}
use Rattle.draid_uber.specs.declared.uber.UberFault.{UberFault}
use Rattle.draid_uber.specs.declared.uber.UberFault.TheVariants as uber_why
use Rattle.draid_import.specs.Checking.{NoCheck}
use Rattle.draid_import.specs.Faulty.{HoldsNoGroup, IsUnread, TellsBody, UberIsBad}
use Rattle.draid_import.specs.Found.{IsKitOf, IsShardFault, open_fault_of, shelf_fault_of, uber_fault_of}
use Rattle.draid_pool.specs.Taking.{TakesFirst}
use Rattle.draid_import.specs.declared.fault.ImportFault.{ImportFault}
use Rattle.draid_import.specs.declared.fault.ImportFault.TheVariants as fault
use Rattle.draid_pool.proofs.Takings.{from_first}

-- the fault of an answer
pub err_is : {T : Type 0} (f g : ImportFault) → IsErrOf {T = T} (Err f) g → f ≡ g
err_is f g err = cc

-- one of two answers
pub passed_over : {T U : Type 0} (f w : ImportFault) → IsErrOf {T = T} (Err f) w → IsErrOf {T = U} (Err f) w
passed_over f w err = (let same : f ≡ w = cc in ap Err same)

-- one that is passed on
pub passed_on : {T U : Type 0} (r : Result T ImportFault) (y f w : ImportFault) → r ≡ Err y → y ≡ f → IsErrOf r w → IsErrOf {T = U} (Err f) w
passed_on {T} r y f w is same err = (let it : f ≡ w = sym same ∙ err_is {T = T} y w (sym is ∙ err) in ap Err it)

-- metaslabs that aren't those of one pool
pub found_apart : {R A T : Type 0} (shards : List (Shard R A)) (m place : ℕ) (kind : RecordFaultKind) → AreApart shards (Some m) place kind → (metaslab : Option ℕ) (p : ℕ) (k : RecordFaultKind)
    → IsErrOf {T = T} (Err (fault.Record (Some m) place kind)) (fault.Record metaslab p k) → AreApart shards metaslab p k
found_apart shards m place kind apart metaslab p k err =
    let own : Some m ≡ metaslab = cc in
    let p_is : place ≡ p = cc in
    let k_is : kind ≡ k = cc in
    subst (λ x. AreApart shards x p k) own (subst (λ n. AreApart shards (Some m) n k) p_is (subst (λ n. AreApart shards (Some m) place n) k_is apart))

-- a call on the shelf that gave nothing isn't a record's fault
pub shelf_no_record : (why : DeviceFault) (metaslab : Option ℕ) (place : ℕ) (kind : RecordFaultKind) → shelf_fault_of why ≡ fault.Record metaslab place kind → ⊥
shelf_no_record device.Failed metaslab place kind is = cc
shelf_no_record device.NoMemory metaslab place kind is = cc

-- ---- the uberblock

-- what the area told that was taken is what the shelf held
pub told_some : {T : Type 0} (taken : T) (P : Content → Type 0) (o : Option Held) (content : Option Content) → OnHeld o (λ x. content ≡ x.uber) → NeedsUber (Ok taken) o → OnTold content P → OnHeld o (λ x. IsSomeAnd x.uber P)
told_some taken P None content is needs holds = tt
told_some taken P (Some x) content is needs holds = by x.uber refl (subst (λ (t : Option Content). OnTold t P) is holds)
  where
    by : (u : Option Content) → x.uber ≡ u → OnTold u P → IsSomeAnd u P
    by None none p = (let failed = needs none in absurd (cc))
    by (Some c) some p = p

-- so where no gate is open
told_none : (o : Option Held) (content : Option Content) → OnHeld o (λ x. content ≡ x.uber) → OnTold content (λ c. chosen_of c.bytes ≡ None) → HoldsNoGroup o
told_none None content is none = tt
told_none (Some x) content is none = subst (λ (t : Option Content). OnTold t (λ c. chosen_of c.bytes ≡ None)) is none

pub uber_empty : (o : Option Held) (content : Option Content) (why : UberFault) → OnHeld o (λ x. content ≡ x.uber) → OnTold content (λ c. FindsFault why (chosen_of c.bytes)) → uber_fault_of why ≡ fault.NoPool → HoldsNoGroup o
uber_empty o content uber_why.Area held finds is = absurd (cc)
uber_empty o content uber_why.NoMemory held finds is = absurd (cc)
uber_empty o content uber_why.Empty held finds is = told_none o content held finds
uber_empty o content (uber_why.Record p k) held finds is = absurd (cc)

-- where the shelf has no pool, no uberblock is held
pub no_uber : (o : Option Held) (has : Bool) → OnHeld o (λ held. IsTrue has ↔ IsSome held.uber) → has ≡ false → HoldsNoGroup o
no_uber None has is off = tt
no_uber (Some x) has is off = by x.uber is.1
  where
    by : (u : Option Content) → (IsSome u → IsTrue has) → OnTold u (λ c. chosen_of c.bytes ≡ None)
    by None on = tt
    by (Some c) on = absurd_test has (on refl) off

-- a call on the shelf that gave nothing doesn't say so
pub shelf_not_empty : (why : DeviceFault) → shelf_fault_of why ≡ fault.NoPool → ⊥
shelf_not_empty device.Failed is = cc
shelf_not_empty device.NoMemory is = cc

-- nor is it one of the check record
pub shelf_no_check : {T : Type 0} (why : DeviceFault) (f : ImportFault) → f ≡ shelf_fault_of why → NoCheck {T = T} (Err f)
shelf_no_check {T} why f is = subst (λ (g : ImportFault). NoCheck {T = T} (Err g)) (sym is) (by why)
  where
    by : (why : DeviceFault) → NoCheck {T = T} (Err (shelf_fault_of why))
    by device.Failed place kind err = absurd (cc)
    by device.NoMemory place kind err = absurd (cc)

pub uber_no_check : {T : Type 0} (why : UberFault) (f : ImportFault) → f ≡ uber_fault_of why → NoCheck {T = T} (Err f)
uber_no_check {T} why f is = subst (λ (g : ImportFault). NoCheck {T = T} (Err g)) (sym is) (by why)
  where
    by : (why : UberFault) → NoCheck {T = T} (Err (uber_fault_of why))
    by uber_why.Area place kind err = absurd (cc)
    by uber_why.NoMemory place kind err = absurd (cc)
    by uber_why.Empty place kind err = absurd (cc)
    by (uber_why.Record p k) place kind err = absurd (cc)

pub absent_no_check : {T : Type 0} → NoCheck {T = T} (Err fault.NoPool)
absent_no_check place kind err = absurd (cc)

pub shard_no_check : {T : Type 0} (why : ImportFault) → IsShardFault why → NoCheck {T = T} (Err why)
shard_no_check fault.NoPool is place kind err = is
shard_no_check (fault.Record m p k) is place kind err = absurd (cc)
shard_no_check (fault.Check p k) is place kind err = is
shard_no_check fault.Shelf is place kind err = absurd (cc)
shard_no_check fault.NoMemory is place kind err = absurd (cc)

-- nor does one behind the uberblock
pub shard_not_empty : {T : Type 0} (why : ImportFault) → IsShardFault why → IsErrOf {T = T} (Err why) fault.NoPool → ⊥
shard_not_empty {T} why is err = by why is (err_is {T = T} why fault.NoPool err)
  where
    by : (w : ImportFault) → IsShardFault w → w ≡ fault.NoPool → ⊥
    by fault.NoPool is same = is
    by (fault.Record metaslab place kind) is same = cc
    by (fault.Check place kind) is same = is
    by fault.Shelf is same = cc
    by fault.NoMemory is same = cc

-- an uberblock that was recovered is the one that the shelf held
pub tells_body : {A T : Type 0} (area : areas.Ghosts A) (taken : T) (uber : Uber A) (o : Option Held) (content : Option Content) → ubers.Valid area.size uber
    → IsSomeAnd (kept_of uber) (λ body. (version_of uber ≡ body.props.version) × (next_leaf_of uber ≡ body.next_leaf)) → OnHeld o (λ x. content ≡ x.uber) → NeedsUber (Ok taken) o
    → OnTold content (λ c. chosen_of c.bytes ≡ option_map read_body (kept_of uber)) → TellsBody o uber
tells_body area taken uber o content valid same held needs finds = by (kept_of uber) refl same valid.held.kept_is finds
  where
    by : (kept : Option UberBody) → kept_of uber ≡ kept → IsSomeAnd kept (λ body. (version_of uber ≡ body.props.version) × (next_leaf_of uber ≡ body.next_leaf))
        → MatchOption kept ⊤ (λ body. (body.spec ≡ (layout_of uber).spec) × (body.props ≡ (layout_of uber).props)) → OnTold content (λ c. chosen_of c.bytes ≡ option_map read_body kept) → TellsBody o uber
    by None is same own finds = absurd same
    by (Some body) is same own finds = record {
      body = body;
      chosen = told_some taken (λ c. chosen_of c.bytes ≡ Some (Ok body)) o content held needs finds;
      kept = is;
      spec = sym own.0;
      props = sym own.1;
      next_leaf = same.1;
    }

pub uber_bad : {T : Type 0} (taken : T) (o : Option Held) (content : Option Content) (why : UberFault) (metaslab : Option ℕ) (place : ℕ) (kind : RecordFaultKind) → OnHeld o (λ x. content ≡ x.uber) → NeedsUber (Ok taken) o → OnTold content (λ c. FindsFault why (chosen_of c.bytes))
    → uber_fault_of why ≡ fault.Record metaslab place kind → UberIsBad o metaslab place kind
uber_bad taken o content uber_why.Area metaslab place kind held needs finds is = absurd (cc)
uber_bad taken o content uber_why.NoMemory metaslab place kind held needs finds is = absurd (cc)
uber_bad taken o content uber_why.Empty metaslab place kind held needs finds is = absurd (cc)
uber_bad taken o content (uber_why.Record p k) metaslab place kind held needs finds is =
    let none : metaslab ≡ None = cc in
    let p_is : p ≡ place = cc in
    let k_is : k ≡ kind = cc in
    record {
      metaslab_is = none;
      bad = told_some taken (λ c. chosen_of c.bytes ≡ Some (Err (Bad place kind))) o content held needs
          (subst (λ n. OnTold content (λ c. chosen_of c.bytes ≡ Some (Err (Bad place n)))) k_is (subst (λ n. OnTold content (λ c. chosen_of c.bytes ≡ Some (Err (Bad n k)))) p_is finds));
    }

-- ---- metaslabs

module _ {R A : Type 0} (rack : racks.Ghosts R) (area : areas.Ghosts A) (geometry : Geometry) (group next m : ℕ) where
  -- one that wasn't opened
  pub unread : (o : Option Held) (known : Option Shape) (counts : KitCounts) (old new : Kit R A) (why : OpenFault) (metaslab : Option ℕ) (place : ℕ) (kind : RecordFaultKind) → IsKitOf rack area m o known counts old
      → OpenIsRefused rack area.faults area.told geometry m old new group next why → open_fault_of m why ≡ fault.Record metaslab place kind
      → IsUnread rack area geometry group next m o known counts metaslab place kind
  unread o known counts old new open_why.Area metaslab place kind taken refused is = absurd (cc)
  unread o known counts old new open_why.NoMemory metaslab place kind taken refused is = absurd (cc)
  unread o known counts old new (open_why.Record p k) metaslab place kind taken refused is =
      let own : metaslab ≡ Some m = cc in
      let p_is : p ≡ place = cc in
      let k_is : k ≡ kind = cc in
      record {
        metaslab_is = own;
        kit = old;
        taken = taken;
        bytes = refused.0;
        are = refused.1;
        bad = refused.2 ∙ ((λ i. Err (Bad (p_is i) (k_is i))));
      }

  -- what was held for it was so from the beginning
  pub unread_first : (old mid : Option Held) (known yet : Option Shape) (before middle : KitCounts) (metaslab : Option ℕ) (place : ℕ) (kind : RecordFaultKind) → TakesFirst m old mid → yet ≡ known → middle ≡ before
      → IsUnread rack area geometry group next m mid yet middle metaslab place kind → IsUnread rack area geometry group next m old known before metaslab place kind
  unread_first old mid known yet before middle metaslab place kind takes same_leaves same u =
      let t = u.taken in
      record {
        metaslab_is = u.metaslab_is;
        kit = u.kit;
        taken = record {
          told = from_first m old mid (λ k. kit_of (rack.told u.kit.rack) (area.told u.kit.even) (area.told u.kit.odd) ≡ k) takes t.told;
          some = from_first m old mid (λ k. k ≡ None → IsErrOf (Ok u.kit) DeviceFault.Failed) takes t.some;
          leaves = subst (λ (s : Option Shape). IsKnown s (rack.shape u.kit.rack)) same_leaves t.leaves;
          rack_count = λ who. t.rack_count who ∙ ap (λ (c : KitCounts). c.rack who) same;
          even_count = t.even_count ∙ ap (λ (c : KitCounts). c.even) same;
          odd_count = t.odd_count ∙ ap (λ (c : KitCounts). c.odd) same;
        };
        bytes = u.bytes;
        are = u.are;
        bad = u.bad;
      }
