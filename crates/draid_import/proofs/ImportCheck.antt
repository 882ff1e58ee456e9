-- What an import makes of the check record of the group that it found.
use Rattle.std.proofs.Common.{arith, ◌≡◌, ◌==◌, ◌%◌, ◌<◌, ◌≤◌, ◌∙◌, ◌⊎◌, inl, inr, ℕ, Bool, true, false, List, [], Option, Some, None, Result, Ok, Err, length, option_map, refl, sym, ap, subst, if◌then◌else◌}
use Rattle.std.specs.Prelude.{⊤, IsErrOf, IsSome, IsSomeAnd, MatchOption, slice_get}
use Rattle.std.proofs.lemmas.Option.{slice_get_within}
use Rattle.draid_names.specs.declared.numbers.TheConstants.{LAST_NUMBER}
use Rattle.draid_names.specs.Faults.{Rose}
use Rattle.draid_area.specs.Area.{Content, IsOfSize, OnTold}
use Rattle.draid_area.specs.declared.Area as areas
use Rattle.draid_rack.specs.Rack.{Shape}
use Rattle.draid_rack.specs.declared.Rack as racks
use Rattle.std.proofs.lemmas.Bool.{cases_eq}
use Rattle.draid_record.specs.Checks.{CheckTold, IsCheck, most_drops}
use Rattle.draid_record.specs.declared.checks.Dropped.{Dropped}
use Rattle.draid_record.specs.declared.fault.RecordFault.{RecordFault}
use Rattle.draid_record.specs.declared.fault.RecordFault.TheVariants.{Bad}
use Rattle.draid_record.specs.declared.fault.RecordFaultKind.{RecordFaultKind}
use Rattle.draid_record.specs.declared.uber.UberBody.{UberBody}
use Rattle.draid_segments.specs.Segments.{Pieces}
use Rattle.draid_shelf.specs.Kits.{ChecksTold, Held, KitCounts, OnHeld, checks_of}
use Rattle.draid_shard.specs.declared.shard.Shard.{Shard}
use Rattle.draid_spec.specs.declared.layout.Geometry.{Geometry}
use Rattle.draid_uber.specs.Checks.{AreasStand, AreasTold, CheckStands, HasCheck as HasCheckThere, check_area, check_in, told_by}
use Rattle.draid_uber.specs.Slots.{StandsTold, chosen_of, group_of, read_body}
use Rattle.draid_uber.specs.Uber.{Valid, area_of, areas_of, count_of, kept_of, layout_of, next_leaf_of}
use Rattle.draid_uber.specs.declared.checks.CheckFault.{CheckFault}
use Rattle.draid_uber.specs.declared.checks.CheckFault.TheVariants as check_why
use Rattle.draid_uber.specs.declared.uber.Uber.{Uber}
use Rattle.draid_session.specs.State.{State, limit_of}
use Rattle.draid_pool.specs.Taking.{TakesFirst}
use Rattle.draid_pool.proofs.Takings.{rose_since}
use Rattle.draid_import.specs.Checking.{HoldsCheck, IsBadCheck, IsCheckFault, KeepsUber, NoCheck, OwnCheck, check_fault_of, check_held}
use Rattle.draid_import.specs.Points.{IsFoundBeside}
use Rattle.draid_import.specs.Faulty.{TellsBody}
use Rattle.draid_import.specs.Found.{AreReopened, HaveLowLeaves, IsFoundUber, IsRecovered, NoRecord, OpensAllOver}
use Rattle.draid_import.specs.Importing.{RestsThere}
use Rattle.draid_import.specs.declared.fault.ImportFault.{ImportFault}
use Rattle.draid_import.specs.declared.fault.ImportFault.TheVariants as fault
use Rattle.draid_import.proofs.ImportMetaslab.{of_told}
use Rattle.draid_import.proofs.ImportPool.{RestsFoundAt, as_many_found, body_found, each_found, told_checks}
use Rattle.std.specs.declared.alloc.Global.{Global}
use Rattle.draid_names.specs.declared.pointer.Pointer.{Pointer}
use Rattle.draid_machine.specs.declared.names.Held.{Held as Block}
use Rattle.draid_objects.specs.Blocks.{sealed_at}
use Rattle.draid_objects.specs.Marks.{Check, born_upto, check_by, marks_upto}
use Rattle.draid_objects.specs.Stores.{HasCheck}
use Rattle.draid_objects.proofs.Checking.{born_some}
use Rattle.draid_found.specs.Drops.{HaveBorn, key_in}
use Rattle.draid_session.specs.Opening.{MayFind}
use Rattle.draid_session.specs.State.{Metaslab}
use Rattle.draid_pool.specs.Objects.{blocks_of}
use Rattle.draid_pool.specs.Taking.{takes_areas}
use Rattle.draid_pool.specs.Ubers.{check_told, point_told}
use Rattle.draid_import.specs.Imported.{OpensFound}
use Rattle.draid_import.proofs.ImportBeside.{no_group}
use Rattle.draid_import.proofs.ImportDrops.{Tells, among, told_check}
use Rattle.draid_import.proofs.ImportEnd.{shard_born}
use Rattle.draid_import.proofs.ImportFound.{later_group}
use Rattle.draid_import.proofs.ImportPoint.{point_upto}
use Rattle.draid_import.proofs.ImportVersion.{found_at}

-- ---- the uberblock whose areas were read

pub same_uber : {A : Type 0} (area : areas.Ghosts A) (uber : Uber A) → Valid area.size uber → KeepsUber area uber uber
same_uber area uber valid = record { valid = valid; told = refl; uber = refl; kept = refl; layout = refl; version = refl; leaf = refl; later = omega arith }

module _ {A : Type 0} (area : areas.Ghosts A) (old new : Uber A) (k : KeepsUber area old new) where
  pub still_found : IsFoundUber area old → IsFoundUber area new
  still_found f = record {
    valid = k.valid;
    version = k.version ∙ (f.version ∙ ap (λ (g : Geometry). g.props.version) (sym k.layout));
    some = subst (λ (o : Option UberBody). 1 ≤ group_of o) (sym k.kept) f.some;
    low = subst (λ (o : Option UberBody). group_of o < LAST_NUMBER) (sym k.kept) f.low;
  }

  pub still_recovered : (held : Option Held) (count : ℕ) → IsRecovered area held count old → IsRecovered area held count new
  still_recovered held count r = record {
    content = r.content;
    own = r.own;
    size = r.size;
    counted = r.counted;
    finds = subst (λ (o : Option UberBody). OnTold r.content (λ x. chosen_of x.bytes ≡ option_map read_body o)) (sym k.kept) r.finds;
    flushed = ap area.told k.uber ∙ r.flushed;
    checks = subst (λ (t : AreasTold). OnHeld held (λ x. checks_of t.even t.odd ≡ x.checks)) (sym k.told) r.checks;
    some_checks = r.some_checks;
    stands = subst (λ (o : Option UberBody). StandsTold o [] (area.told (area_of new))) (sym k.kept) (subst (λ (a : A). StandsTold (kept_of old) [] (area.told a)) (sym k.uber) r.stands);
    leaf = subst (λ n. IsSomeAnd (kept_of new) (λ body. n ≡ body.next_leaf)) (sym k.leaf) (subst (λ (o : Option UberBody). IsSomeAnd o (λ body. next_leaf_of old ≡ body.next_leaf)) (sym k.kept) r.leaf);
    later = (let low = r.later in let up = k.later in omega (arith, low, up));
  }

  pub still_body : (held : Option Held) → TellsBody held old → TellsBody held new
  still_body held t = record {
    body = t.body;
    chosen = t.chosen;
    kept = k.kept ∙ t.kept;
    spec = ap (λ (g : Geometry). g.spec) k.layout ∙ t.spec;
    props = ap (λ (g : Geometry). g.props) k.layout ∙ t.props;
    next_leaf = k.leaf ∙ t.next_leaf;
  }

  module _ {R : Type 0} (rack : racks.Ghosts R) (shards : List (Shard R A)) where
    pub still_reopened : AreReopened rack (layout_of old) (group_of (kept_of old)) shards → AreReopened rack (layout_of new) (group_of (kept_of new)) shards
    still_reopened are = subst (λ (g : Geometry). AreReopened rack g (group_of (kept_of new)) shards) (sym k.layout) (subst (λ (o : Option UberBody). AreReopened rack (layout_of old) (group_of o) shards) (sym k.kept) are)

    pub still_over : (held : Option Held) (leaves : ℕ → Option Shape) (counts : ℕ → KitCounts)
        → OpensAllOver rack area (limit_of (layout_of old)) (group_of (kept_of old)) (next_leaf_of old) held leaves counts shards
        → OpensAllOver rack area (limit_of (layout_of new)) (group_of (kept_of new)) (next_leaf_of new) held leaves counts shards
    still_over held leaves counts over =
        subst (λ (g : Geometry). OpensAllOver rack area (limit_of g) (group_of (kept_of new)) (next_leaf_of new) held leaves counts shards) (sym k.layout)
        (subst (λ (o : Option UberBody). OpensAllOver rack area (limit_of (layout_of old)) (group_of o) (next_leaf_of new) held leaves counts shards) (sym k.kept)
        (subst (λ n. OpensAllOver rack area (limit_of (layout_of old)) (group_of (kept_of old)) n held leaves counts shards) (sym k.leaf) over))

    pub still_low : HaveLowLeaves (next_leaf_of old) shards → HaveLowLeaves (next_leaf_of new) shards
    still_low low = subst (λ n. HaveLowLeaves n shards) (sym k.leaf) low

  pub still_taken : (a b : Option Held) → TakesFirst (layout_of old).props.metaslabs a b → TakesFirst (layout_of new).props.metaslabs a b
  still_taken a b t = subst (λ (g : Geometry). TakesFirst g.props.metaslabs a b) (sym k.layout) t

  pub still_behind : (P : ℕ → Type 0) → ((m : ℕ) → (layout_of old).props.metaslabs ≤ m → P m) → (m : ℕ) → (layout_of new).props.metaslabs ≤ m → P m
  still_behind P past = subst (λ (g : Geometry). (m : ℕ) → g.props.metaslabs ≤ m → P m) (sym k.layout) past

-- ---- what is read

module _ {R A : Type 0} (tells other : Result CheckTold RecordFault → Type 0) (turn : (answer : Result CheckTold RecordFault) → tells answer → other answer) (shards : List (Shard R A)) where
  pub beside_by : (group was : ℕ) (newest : ℕ → Option Pointer) (seq : ℕ) (uber : Uber A) → IsFoundBeside tells shards group was newest seq uber → IsFoundBeside other shards group was newest seq uber
  beside_by group was newest seq uber f = record {
    value = f.value;
    checked = record { read = turn (Ok f.value) f.checked.read; have = f.checked.have };
    range = f.range;
    newest_is = f.newest_is;
    last = f.last;
    point = f.point;
    fits = f.fits;
  }

  pub bad_by : (place : ℕ) (kind : RecordFaultKind) → IsBadCheck tells shards place kind → IsBadCheck other shards place kind
  bad_by place kind (inl bad) = inl (turn (Err (Bad place kind)) bad)
  bad_by place kind (inr n) = inr (record { value = n.value; read = turn (Ok n.value) n.read; some = n.some; i = n.i; lack = n.lack; place_is = n.place_is; kind_is = n.kind_is })

-- the fault of the check record that was read
pub check_bad : {T : Type 0} (why : CheckFault) (f : ImportFault) → f ≡ check_fault_of why → (place : ℕ) (kind : RecordFaultKind) → IsErrOf {T = T} (Err f) (fault.Check place kind) → why ≡ check_why.Record place kind
check_bad check_why.Area f is place kind err = absurd (cc)
check_bad check_why.NoMemory f is place kind err = absurd (cc)
check_bad (check_why.Record p k) f is place kind err =
    let p_is : p ≡ place = cc in
    let k_is : k ≡ kind = cc in
    λ i. check_why.Record (p_is i) (k_is i)

-- a check record that names a block tells of a checkpoint
pub lack_some : (group : ℕ) (value : CheckTold) (i : ℕ) {d : Dropped} → IsCheck group value → slice_get value.drops i ≡ Some d → 0 < value.group
lack_some group value i {d} range there = by (cases_eq value.group 0)
  where
    by : (value.group ≡ 0) ⊎ (value.group ≡ 0 → ⊥) → 0 < value.group
    by (inl is_zero) =
        let few = subst (λ n. length value.drops ≤ most_drops n) is_zero range.few in
        let within = slice_get_within value.drops i d there in
        absurd (omega (arith, few, within))
    by (inr some) = omega (arith, some)

-- a refusal of it isn't that there is no pool, nor a record's fault
pub check_some : {T : Type 0} (why : ImportFault) → IsCheckFault why → IsErrOf {T = T} (Err why) fault.NoPool → ⊥
check_some fault.NoPool is err = is
check_some (fault.Record m p k) is err = is
check_some (fault.Check p k) is err = absurd (cc)
check_some fault.Shelf is err = absurd (cc)
check_some fault.NoMemory is err = absurd (cc)

pub check_no_record : {T : Type 0} (why : ImportFault) → IsCheckFault why → NoRecord {T = T} (Err why)
check_no_record fault.NoPool is metaslab place kind err = is
check_no_record (fault.Record m p k) is metaslab place kind err = is
check_no_record (fault.Check p k) is metaslab place kind err = absurd (cc)
check_no_record fault.Shelf is metaslab place kind err = absurd (cc)
check_no_record fault.NoMemory is metaslab place kind err = absurd (cc)

-- a fault is one place and one kind
pub same_bad : {R A T : Type 0} (tells : Result CheckTold RecordFault → Type 0) (shards : List (Shard R A)) (p : ℕ) (k : RecordFaultKind) → IsBadCheck tells shards p k → (place : ℕ) (kind : RecordFaultKind)
    → IsErrOf {T = T} (Err (fault.Check p k)) (fault.Check place kind) → IsBadCheck tells shards place kind
same_bad {T} tells shards p k bad place kind err =
    let p_is : p ≡ place = cc in
    let k_is : k ≡ kind = cc in
    subst (λ n. IsBadCheck tells shards n kind) p_is (subst (λ q. IsBadCheck tells shards p q) k_is bad)

-- what the area tells that was taken is what the shelf held
pub own_holds : {A : Type 0} (area : areas.Ghosts A) (o : Option Held) (count : ℕ) (uber : Uber A) → IsRecovered area o count uber → (answer : Result CheckTold RecordFault) → OwnCheck area uber answer
    → HoldsCheck (group_of (kept_of uber)) o answer
own_holds area None count uber r answer own = tt
own_holds {A} area (Some x) count uber r answer own = by x.checks refl r.some_checks
  where
    group : ℕ
    group = group_of (kept_of uber)

    by : (o : Option ChecksTold) → x.checks ≡ o → IsSome o → IsSomeAnd o (λ checks. check_held group checks ≡ answer)
    by None none some = absurd (cc)
    by (Some k) is some =
        let both = told_checks (area.told (areas_of uber).even) (area.told (areas_of uber).odd) k (r.checks ∙ is) in
        of_told (group % 2 == 0) area.told (areas_of uber).even (areas_of uber).odd k.even k.odd (λ c. check_in group c.bytes ≡ answer) both.0 both.1 own

-- so once the uberblock's areas were read
pub beside_entry : {R A : Type 0} (area : areas.Ghosts A) (o : Option Held) (count : ℕ) (old new : Uber A) (shards : List (Shard R A)) (was : ℕ) (newest : ℕ → Option Pointer) (seq : ℕ) → KeepsUber area old new → IsRecovered area o count old → was ≡ 0
    → IsFoundBeside (OwnCheck area old) shards (group_of (kept_of old)) was newest seq new → IsFoundBeside (HoldsCheck (group_of (kept_of new)) o) shards (group_of (kept_of new)) 0 newest seq new
beside_entry area o count old new shards was newest seq k r is_zero f =
    subst (λ n. IsFoundBeside (HoldsCheck (group_of (kept_of new)) o) shards (group_of (kept_of new)) n newest seq new) is_zero
    (subst (λ (b : Option UberBody). IsFoundBeside (HoldsCheck (group_of b) o) shards (group_of b) was newest seq new) (sym k.kept)
    (beside_by (OwnCheck area old) (HoldsCheck (group_of (kept_of old)) o) (own_holds area o count old r) shards (group_of (kept_of old)) was newest seq new f))

pub bad_entry : {R A : Type 0} (area : areas.Ghosts A) (o : Option Held) (count : ℕ) (uber : Uber A) (shards : List (Shard R A)) (place : ℕ) (kind : RecordFaultKind) → IsRecovered area o count uber
    → IsBadCheck (OwnCheck area uber) shards place kind → IsBadCheck (HoldsCheck (group_of (kept_of uber)) o) shards place kind
bad_entry area o count uber shards place kind r bad = bad_by (OwnCheck area uber) (HoldsCheck (group_of (kept_of uber)) o) (own_holds area o count uber r) shards place kind bad

-- ---- a pool that rests on a shelf

-- one shelf tells one thing
pub one_told : (group : ℕ) (x : Held) (a b : Result CheckTold RecordFault) → HoldsCheck group (Some x) a → HoldsCheck group (Some x) b → a ≡ b
one_told group x a b one other = by x.checks one other
  where
    by : (o : Option ChecksTold) → IsSomeAnd o (λ checks. check_held group checks ≡ a) → IsSomeAnd o (λ checks. check_held group checks ≡ b) → a ≡ b
    by None one other = absurd one
    by (Some k) one other = sym one ∙ other

abbrev value_of : CheckTold → Result CheckTold RecordFault
value_of v = Ok v

abbrev refused : RecordFault → Result CheckTold RecordFault
refused why = Err why

pub ok_bad : (v : CheckTold) (why : RecordFault) → value_of v ≡ refused why → ⊥
ok_bad v why same = cc

pub ok_value : (v w : CheckTold) → value_of v ≡ value_of w → v ≡ w
ok_value v w same = cc

pub bad_value : (p q : ℕ) (k l : RecordFaultKind) → refused (Bad p k) ≡ refused (Bad q l) → (p ≡ q) × (k ≡ l)
bad_value p q k l same = (cc, cc)

module _ {A : Type 0} (area : areas.Ghosts A) (counted : (a : A) → OnTold (area.told a) (IsOfSize (area.size a))) where
  -- what a crash may leave of an area is what it has, too
  says : (value : CheckTold) (group n : ℕ) (o : Option Content) → OnTold o (IsOfSize n) → OnTold o (CheckStands value group) → OnTold o (λ x. check_in group x.bytes ≡ Ok value)
  says value group n None size stands = tt
  says value group n (Some x) size stands = stands x.bytes (record { same = λ i d soft. refl; least = size.firm; most = omega arith })

  says_own : (value : CheckTold) (b : Bool) (group : ℕ) (e o : A) → OnTold (if b then area.told e else area.told o) (CheckStands value group) → OnTold (area.told (if b then e else o)) (λ x. check_in group x.bytes ≡ Ok value)
  says_own value true group e o stands = says value group (area.size e) (area.told e) (counted e) stands
  says_own value false group e o stands = says value group (area.size o) (area.told o) (counted o) stands

  own_says : (check : ℕ → CheckTold) (uber : Uber A) → 1 ≤ group_of (kept_of uber) → AreasStand check (kept_of uber) [] (told_by area.told (areas_of uber)) → OwnCheck area uber (Ok (check (group_of (kept_of uber))))
  own_says check uber some stands = by (kept_of uber) refl some stands.kept_check
    where
      by : (kept : Option UberBody) → kept_of uber ≡ kept → 1 ≤ group_of kept → MatchOption kept ⊤ (HasCheckThere check (told_by area.told (areas_of uber))) → OwnCheck area uber (Ok (check (group_of (kept_of uber))))
      by None is some has = absurd (omega (arith, some))
      by (Some body) is some has =
          let group : group_of (kept_of uber) ≡ body.group = ap (λ (o : Option UberBody). group_of o) is in
          subst (λ n. OnTold (area.told (check_area (areas_of uber) n)) (λ x. check_in n x.bytes ≡ Ok (check n))) (sym group)
          (says_own (check body.group) (body.group % 2 == 0) body.group (areas_of uber).even (areas_of uber).odd has)

  -- what the check record says is what the marks do
  pub pool_says : (x : State) (pieces : ℕ → Pieces) (held : Held) (leaves : ℕ → Option Shape) (counts : ℕ → KitCounts) (count : ℕ) (uber : Uber A)
      → RestsThere x pieces (Some held) leaves counts count → IsFoundUber area uber → IsRecovered area (Some held) count uber → HoldsCheck (group_of (kept_of uber)) (Some held) (Ok (check_told x.store.marks (group_of (kept_of uber))))
  pool_says x pieces held leaves counts count uber there found r =
      let at = body_found area x pieces held leaves counts count uber there found r in
      own_holds area (Some held) count uber r (Ok (check_told x.store.marks (group_of (kept_of uber)))) (own_says (check_told x.store.marks) uber found.some at.b.own_areas)

  pub told_value : (x : State) (pieces : ℕ → Pieces) (o : Option Held) (leaves : ℕ → Option Shape) (counts : ℕ → KitCounts) (count : ℕ) (uber : Uber A) (value : CheckTold)
      → RestsThere x pieces o leaves counts count → IsFoundUber area uber → IsRecovered area o count uber → HoldsCheck (group_of (kept_of uber)) o (Ok value) → value ≡ check_told x.store.marks (group_of (kept_of uber))
  told_value x pieces None leaves counts count uber value there found r tells = absurd there.held
  told_value x pieces (Some held) leaves counts count uber value there found r tells =
      ok_value value (check_told x.store.marks (group_of (kept_of uber))) (one_told (group_of (kept_of uber)) held (Ok value) (Ok (check_told x.store.marks (group_of (kept_of uber)))) tells (pool_says x pieces held leaves counts count uber there found r))

  module _ {R : Type 0} (rack : racks.Ghosts R) (alloc : Global) (x : State) (pieces : ℕ → Pieces) (leaves : ℕ → Option Shape) (counts : ℕ → KitCounts) (count : ℕ) (uber : Uber A) (shards : List (Shard R A)) (known : ℕ → Option Shape) (now : ℕ → KitCounts) where
    -- the metaslabs have the blocks that it names
    pub named_there : (held : Held) → RestsThere x pieces (Some held) leaves counts count → (found : IsFoundUber area uber) (r : IsRecovered area (Some held) count uber) → ((m : ℕ) → now m ≡ counts m) → AreReopened rack (layout_of uber) (group_of (kept_of uber)) shards
        → OpensAllOver rack area (limit_of (layout_of uber)) (group_of (kept_of uber)) (next_leaf_of uber) (takes_areas (Some held)) known now shards
        → (value : CheckTold) → value ≡ check_told x.store.marks (group_of (kept_of uber)) → 0 < value.group → (i : ℕ) (d : Dropped) → slice_get value.drops i ≡ Some d → HaveBorn shards value.group (key_in d)
    named_there held there found r counted_now re over value value_is some i d at = by (check_by (marks_upto group x.store.marks)) refl
      where
        f : RestsFoundAt area x pieces held leaves counts count uber
        f = body_found area x pieces held leaves counts count uber there found r

        group : ℕ
        group = group_of (kept_of uber)

        same : group ≡ f.b.body.group
        same = f.b.group

        told_is : value ≡ point_told (marks_upto group x.store.marks)
        told_is = value_is ∙ sym (point_upto group x.store.marks)

        many : length shards ≡ length x.metaslabs
        many = as_many_found rack area (found_at x f.version) pieces held leaves counts count f.there uber found r f.b shards re

        each : (m : ℕ) (shard : Shard R A) (y : Metaslab) → slice_get shards m ≡ Some shard → slice_get x.metaslabs m ≡ Some y → OpensFound rack area (found_at x f.version) f.b.body.group m (pieces m) y shard
        each = each_found rack area (found_at x f.version) pieces held leaves counts count f.there uber found r f.b alloc known now shards counted_now re over

        by : (o : Option Check) → check_by (marks_upto group x.store.marks) ≡ o → HaveBorn shards value.group (key_in d)
        by None none = (let is_zero = ap (λ (v : CheckTold). v.group) told_is ∙ no_group (marks_upto group x.store.marks) none in absurd (omega (arith, some, is_zero)))
        by (Some c) is = have_born
          where
            t : Tells value c
            t = subst (λ v. Tells v c) (sym told_is) (told_check (marks_upto group x.store.marks) c is)

            has : HasCheck x.store.changes c (sealed_at group (blocks_of x.metaslabs))
            has = there.held.objects.stores.checked group c (later_group x group (subst (MayFind x) (sym same) f.b.finds.may)) is

            b : (m : ℕ) × IsSome (born_upto c.group (sealed_at group (blocks_of x.metaslabs)) m (key_in d))
            b = has.drops (key_in d) ((t.dropped (key_in d)).1 (among value.drops i d at))

            s : (h : Block) × (sealed_at group (blocks_of x.metaslabs) b.0 (key_in d) ≡ Some h) × (h.birth ≤ c.group)
            s = born_some c.group (sealed_at group (blocks_of x.metaslabs) b.0 (key_in d)) b.1

            have_born : HaveBorn shards value.group (key_in d)
            have_born = shard_born rack area (found_at x f.version) pieces held f.there.held f.there.importable.findable uber f.b.body f.b.finds shards many each b.0 (key_in d) s.0
                (subst (λ g. sealed_at g (blocks_of x.metaslabs) b.0 (key_in d) ≡ Some s.0) same s.1) value.group (let born = s.2 in let own = t.group_is in omega (arith, born, own))

    -- its check record has no fault
    pub no_check_fault : {T : Type 0} (o : Option Held) (why : ImportFault) → RestsThere x pieces o leaves counts count → IsFoundUber area uber → IsRecovered area o count uber → ((m : ℕ) → now m ≡ counts m)
        → AreReopened rack (layout_of uber) (group_of (kept_of uber)) shards → OpensAllOver rack area (limit_of (layout_of uber)) (group_of (kept_of uber)) (next_leaf_of uber) (takes_areas o) known now shards
        → ((place : ℕ) (kind : RecordFaultKind) → IsErrOf {T = T} (Err why) (fault.Check place kind) → IsBadCheck (OwnCheck area uber) shards place kind) → NoCheck {T = T} (Err why)
    no_check_fault None why there found r counted_now re over bad place kind err = absurd there.held
    no_check_fault (Some held) why there found r counted_now re over bad place kind err =
        by (bad_entry area (Some held) count uber shards place kind r (bad place kind err))
      where
        says_so : HoldsCheck (group_of (kept_of uber)) (Some held) (Ok (check_told x.store.marks (group_of (kept_of uber))))
        says_so = pool_says x pieces held leaves counts count uber there found r

        by : IsBadCheck (HoldsCheck (group_of (kept_of uber)) (Some held)) shards place kind → ⊥
        by (inl ill) = ok_bad (check_told x.store.marks (group_of (kept_of uber))) (Bad place kind)
            (one_told (group_of (kept_of uber)) held (Ok (check_told x.store.marks (group_of (kept_of uber)))) (Err (Bad place kind)) says_so ill)
        by (inr n) = n.lack.lack (named_there held there found r counted_now re over n.value (told_value x pieces (Some held) leaves counts count uber n.value there found r n.read) n.some n.i n.lack.named n.lack.there)

-- ---- a call that failed

pub risen_own : {A : Type 0} (area : areas.Ghosts A) (o : Option Held) (count now : ℕ) (old new : Uber A) → IsRecovered area o count old → now ≡ count_of area.faults new → Rose (count_of area.faults old) (count_of area.faults new)
    → Rose count now
risen_own area o count now old new r is rose = subst (λ n. Rose count n) (sym is) (rose_since count (count_of area.faults old) (count_of area.faults new) r.later rose)
