-- What shards have of arms is what states have for which they stand.
use Rattle.std.proofs.Common.{◌≡◌, ◌+◌, ◌*◌, ◌^◌, ◌<◌, ◌≤◌, ◌++◌, ◌∙◌, ℕ, zero, suc, true, List, [], ◌∷◌, Option, Some, None, Contains, arith, refl, sym, ap, ap₂, subst, inl, inr, get_or, length, length-append, map, take, sum_by, option_map}
use Rattle.std.specs.Prelude.{All, IsSomeAnd, slice_get, slice_index_or}
use Rattle.std.proofs.lemmas.Bool.{cases_lt}
use Rattle.std.specs.declared.alloc.Global.{Global}
use Rattle.std.specs.declared.vec.Vec.{Vec}
use Rattle.std.proofs.Math.Seq.{take-suc}
use Rattle.std.proofs.lemmas.List.{map-append, take_all}
use Rattle.std.proofs.lemmas.List.Elements.{All-push}
use Rattle.std.proofs.lemmas.List.Sums.{sum_by_more}
use Rattle.std.proofs.lemmas.Option.{get_or_from_slice_get, slice_get-get_or, slice_get-map, slice_get_within}
use Rattle.draid_names.specs.declared.arm.Arm.{Arm}
use Rattle.draid_names.specs.declared.arm.ArmAt.{ArmAt}
use Rattle.draid_names.specs.declared.arm.ArmKind.{ArmKind}
use Rattle.draid_names.specs.declared.arm.ArmKind.TheVariants as kind
use Rattle.draid_names.specs.declared.numbers.TheConstants.{NUMBERS}
use Rattle.draid_spec.specs.declared.layout.Geometry.{Geometry}
use Rattle.draid_machine.specs.declared.names.ArmName.{ArmName}
use Rattle.draid_machine.specs.declared.names.ArmName.TheVariants.{Leaf, Spare}
use Rattle.draid_machine.specs.State as machine
use Rattle.draid_machine.proofs.Small.{none_some, some_injective, some_same}
use Rattle.draid_slots.specs.Table.{IsTable, SlotTable, arms_of, is_spare_kind}
use Rattle.draid_slots.specs.States as slots_of
use Rattle.draid_slots.specs.States.{HasArm, HasSlots, WasArm, arm_in}
use Rattle.draid_shard.specs.States.{IsIn}
use Rattle.draid_shard.specs.declared.shard.Shard.{Shard}
use Rattle.draid_report.specs.declared.view.ArmView.{ArmView}
use Rattle.draid_session.specs.Holds.{View}
use Rattle.draid_session.specs.Status.{IsArmView, groups_of, logged_in, name_of}
use Rattle.draid_machine.specs.Names.{named}
use Rattle.draid_views.specs.Views.{AreArmsTold, AreShown, AreSlotViews, AreSlotsTold, IsArmTold, IsLogCount, IsShown, LogsAre, StandsIn}
use Rattle.draid_views.proofs.Zips.{contains_at, found_at, zip_left, zip_long, zip_right}

-- ---- names

abbrev number_in : ArmName → ℕ
number_in (Leaf number) = number
number_in (Spare number) = number

abbrev kind_in : ArmName → ArmKind
kind_in (Leaf number) = kind.Leaf
kind_in (Spare number) = kind.Spare

number_named : (k : ArmKind) (number : ℕ) → number_in (named k number) ≡ number
number_named kind.Leaf number = refl
number_named kind.Spare number = refl

kind_named : (k : ArmKind) (number : ℕ) → kind_in (named k number) ≡ k
kind_named kind.Leaf number = refl
kind_named kind.Spare number = refl

-- an arm is of the kind and number that its name says
arm_of_name : (k : ArmKind) (number : ℕ) (arm : Arm) → slots_of.name_of arm ≡ named k number → (arm.kind ≡ k) × (arm.number ≡ number)
arm_of_name k number arm is =
    (sym (kind_named arm.kind arm.number) ∙ ap kind_in is ∙ kind_named k number, sym (number_named arm.kind arm.number) ∙ ap number_in is ∙ number_named k number)

name_of_arm : (k : ArmKind) (number : ℕ) (arm : Arm) → arm.kind ≡ k → arm.number ≡ number → slots_of.name_of arm ≡ named k number
name_of_arm k number arm a b = ap₂ named a b

-- ---- logs

-- an arm that stands in a state is in the slots
stands_there : (slots : SlotTable) (q : machine.Core) (name : ArmName) (arm : machine.Arm) → HasSlots slots q → q.arm name ≡ Some arm → arm.gone ≡ None → HasArm slots name
stands_there slots q name arm has found here = elim (has.only name (λ none. none_some (q.arm name) arm none found)) [
  | inl is ↦ is
  | inr was ↦
      let gone = has.detached was.gone was.among in
      let same : gone.arm ≡ arm = some_same (q.arm name) gone.arm arm (ap q.arm (sym was.name_is) ∙ gone.there) found in
      absurd (none_some arm.gone (record { slot = was.gone.slot; group = was.gone.group }) here (ap (λ (a : machine.Arm). a.gone) (sym same) ∙ gone.by))
]

log_is : (slots : SlotTable) (q : machine.Core) (k : ArmKind) (number count : ℕ) (arm : machine.Arm) → HasSlots slots q → IsLogCount slots k number count → q.arm (named k number) ≡ Some arm → arm.gone ≡ None
    → count ≡ groups_of (q.arm (named k number))
log_is slots q k number count arm has counted found here = elim counted [
  | inl c ↦
      let at = c.0 in
      let a = c.1.0 in
      let there = has.arms at a c.1.1 in
      let name = name_of_arm k number a c.1.2 c.1.3 in
      let same : groups_of (q.arm (named k number)) ≡ groups_of (Some (arm_in slots at a)) = ap groups_of (ap q.arm (sym name) ∙ there) in
      c.2 ∙ sym same
  | inr none ↦
      let h = stands_there slots q (named k number) arm has found here in
      let of = arm_of_name k number h.arm h.name_is in
      absurd (none.0 h.at (h.arm, h.there, of.0, of.1))
]

-- the sum so far
pub record SumsUpto {R A : Type 0} (shards : List (Shard R A)) (name : ArmName) (k logged : ℕ) : Type 0 where
  pub sums : (views : List View) → AreShown shards views → StandsIn name views → logged ≡ sum_by (logged_in name) (take k views)
  pub low : logged ≤ k * NUMBERS

pub sums_none : {R A : Type 0} (shards : List (Shard R A)) (name : ArmName) → SumsUpto shards name 0 0
sums_none shards name = record { sums = λ views shown stands. refl; low = omega arith }

pub sums_more : {R A : Type 0} (shards : List (Shard R A)) (arm : Arm) (k logged count : ℕ) (shard : Shard R A) → slice_get shards k ≡ Some shard → IsLogCount shard.slots arm.kind arm.number count
    → count ≤ NUMBERS → SumsUpto shards (named arm.kind arm.number) k logged → SumsUpto shards (named arm.kind arm.number) (k + 1) (logged + count)
sums_more shards arm k logged count shard there counted few was = record {
  sums = λ views shown stands.
      (let z = zip_left IsShown shards views shown k shard there in
      let v = z.0 in
      let within = slice_get_within views k v z.1 in
      let s = stands v (contains_at views k v z.1) in
      let is = log_is shard.slots v.world.core arm.kind arm.number count s.0 z.2.slots counted s.1 s.2 in
      let more = sum_by_more (logged_in (named arm.kind arm.number)) views k v within in
      let at : logged_in (named arm.kind arm.number) (get_or views k v) ≡ count = ap (logged_in (named arm.kind arm.number)) (get_or_from_slice_get views k v v z.1) ∙ sym is in
      let before = was.sums views shown stands in
      omega (arith, more, at, before));
  low = (let low = was.low in omega (arith, low, few));
}

pub sums_all : {R A : Type 0} (shards : List (Shard R A)) (name : ArmName) (k logged : ℕ) → length shards ≤ k → SumsUpto shards name k logged → LogsAre shards name logged
sums_all shards name k logged end was views shown stands =
    let long = zip_long IsShown shards views shown in
    was.sums views shown stands ∙ ap (sum_by (logged_in name)) (take_all k views (omega (arith, long, end)))

-- ---- the arms of a slot

pub arms_none : {R A : Type 0} (geometry : Geometry) (shards : List (Shard R A)) (arms : List Arm) (views : List ArmView) → views ≡ [] → AreArmsTold geometry shards (take 0 arms) views
arms_none geometry shards arms views none = subst (λ (vs : List ArmView). AreArmsTold geometry shards (take 0 arms) vs) (sym none) (record { arms_are = refl; each = λ k d low. absurd (omega (arith, low)) })

pub arms_more : {R A : Type 0} (geometry : Geometry) (shards : List (Shard R A)) (arms : List Arm) (k : ℕ) (views : List ArmView) (arm : Arm) (view : ArmView) → k < length arms → arm ≡ get_or arms k arm
    → view.arm ≡ arm → IsArmTold geometry shards view → AreArmsTold geometry shards (take k arms) views → AreArmsTold geometry shards (take (k + 1) arms) (views ++ view ∷ [])
arms_more geometry shards arms k views arm view below here is told was = record {
  arms_are = map-append (λ (v : ArmView). v.arm) views (view ∷ []) ∙ ap₂ (λ (xs ys : List Arm). xs ++ ys) was.arms_are (ap (λ (a : Arm). a ∷ []) (is ∙ here)) ∙ sym (step (k + 1) (omega arith));
  each = All-push (IsArmTold geometry shards) views view was.each told;
}
  where
    step : (n : ℕ) → n ≡ suc k → take n arms ≡ take k arms ++ get_or arms k arm ∷ []
    step n same = ap (λ (j : ℕ). take j arms) same ∙ take-suc arms k arm below

-- the arm at a place, whatever is there else
pub arms_more_at : {R A : Type 0} (geometry : Geometry) (shards : List (Shard R A)) (arms : List Arm) (k : ℕ) (views : List ArmView) (other : Arm) (view : ArmView) → k < length arms
    → view.arm ≡ get_or arms k other → IsArmTold geometry shards view → AreArmsTold geometry shards (take k arms) views → AreArmsTold geometry shards (take (k + 1) arms) (views ++ view ∷ [])
arms_more_at geometry shards arms k views other view below is told was =
    let arm = get_or arms k other in
    arms_more geometry shards arms k views arm view below (sym (get_or_from_slice_get arms k arm arm (slice_get-get_or arms k other below))) is told was

-- a spare that the pool has has a small number
pub pooled_small : (table : SlotTable) → IsTable table → (slot : ℕ) → slot < table.geometry.spec.children → (arms : List Arm) → arms ≡ arms_of table slot → (k : ℕ) (other : Arm) → k < length arms
    → (slice_index_or arms k other).kind ≡ kind.Spare → (slice_index_or arms k other).number < 2 ^ 32
pooled_small table sound slot low arms same k other below spare =
    let children = sound.slots.children in
    let here = sound.slots.each slot [] (omega (arith, low, children)) in
    let pooled = subst (λ (xs : List Arm). All (λ (arm : Arm). is_spare_kind arm.kind ≡ true → arm.number < table.geometry.spec.spares) xs) (sym same) here.pooled in
    let less = pooled k other below (ap is_spare_kind spare) in
    let few = sound.layout.geometry_is.spec.most_spares in
    omega (arith, less, few)

-- ---- all slots

get_front : {A : Type 0} (xs : List A) (y : A) (k : ℕ) → k < length xs → slice_get (xs ++ y ∷ []) k ≡ slice_get xs k
get_front [] y k less = absurd (omega (arith, less))
get_front (x ∷ xs) y zero less = refl
get_front (x ∷ xs) y (suc k) less = get_front xs y k (omega (arith, less))

get_end : {A : Type 0} (xs : List A) (y : A) → slice_get (xs ++ y ∷ []) (length xs) ≡ Some y
get_end [] y = refl
get_end (x ∷ xs) y = get_end xs y

pub slots_none : {R A : Type 0} (geometry : Geometry) (shards : List (Shard R A)) (table : SlotTable) (slots : List (Vec ArmView Global)) → slots ≡ [] → AreSlotsTold geometry shards table 0 slots
slots_none geometry shards table slots none =
    subst (λ (xs : List (Vec ArmView Global)). AreSlotsTold geometry shards table 0 xs) (sym none)
    (record { many = refl; each = λ slot arms at. absurd (none_some (slice_get [] slot) arms refl at) })

pub slots_more : {R A : Type 0} (geometry : Geometry) (shards : List (Shard R A)) (table : SlotTable) (count : ℕ) (slots : List (Vec ArmView Global)) (arms : Vec ArmView Global)
    → AreArmsTold geometry shards (arms_of table count) arms.items → AreSlotsTold geometry shards table count slots → AreSlotsTold geometry shards table (count + 1) (slots ++ arms ∷ [])
slots_more geometry shards table count slots arms told was = record {
  many = (let many = was.many in let long = length-append slots (arms ∷ []) in omega (arith, many, long));
  each = each;
}
  where
    each : (slot : ℕ) (it : Vec ArmView Global) → slice_get (slots ++ arms ∷ []) slot ≡ Some it → AreArmsTold geometry shards (arms_of table slot) it.items
    each slot it at = elim (cases_lt slot (length slots)) [
      | inl before ↦ was.each slot it (sym (get_front slots arms slot before) ∙ at)
      | inr past ↦
          let within = slice_get_within (slots ++ arms ∷ []) slot it at in
          let long = length-append slots (arms ∷ []) in
          let last : length slots ≡ slot = omega (arith, within, long, past) in
          let here : slot ≡ count = sym last ∙ was.many in
          let same : arms ≡ it = some_injective arms it (sym (get_end slots arms) ∙ ap (slice_get (slots ++ arms ∷ [])) last ∙ at) in
          subst (λ (z : Vec ArmView Global). AreArmsTold geometry shards (arms_of table slot) z.items) same (subst (λ (n : ℕ). AreArmsTold geometry shards (arms_of table n) arms.items) (sym here) told)
    ]

names_told : (views : List ArmView) → map slots_of.name_of (map (λ (view : ArmView). view.arm) views) ≡ map name_of views
names_told [] = refl
names_told (view ∷ views) = ap (λ (ns : List ArmName). named view.arm.kind view.arm.number ∷ ns) (names_told views)

-- an arm that a state has in a slot stands there
stands_in : (slots : SlotTable) (q : machine.Core) (slot k : ℕ) (name : ArmName) → HasSlots slots q → slice_get (q.order slot) k ≡ Some name
    → (at : ArmAt) × (arm : Arm) × (slots_of.name_of arm ≡ name) × (q.arm name ≡ Some (arm_in slots at arm))
stands_in slots q slot k name has at = by (slice_get (arms_of slots slot) k) refl
  where
    listed : option_map slots_of.name_of (slice_get (arms_of slots slot) k) ≡ Some name
    listed = sym (slice_get-map slots_of.name_of (arms_of slots slot) k) ∙ ap (λ (ns : List ArmName). slice_get ns k) (sym (has.order slot)) ∙ at

    place : ArmAt
    place = record { slot = slot; arm = k }

    by : (o : Option Arm) → slice_get (arms_of slots slot) k ≡ o → (at : ArmAt) × (arm : Arm) × (slots_of.name_of arm ≡ name) × (q.arm name ≡ Some (arm_in slots at arm))
    by None is = absurd (none_some None name refl (sym (ap (option_map slots_of.name_of) is) ∙ listed))
    by (Some arm) is =
        let named_ : slots_of.name_of arm ≡ name = some_injective (slots_of.name_of arm) name (sym (ap (option_map slots_of.name_of) is) ∙ listed) in
        (place, arm, named_, ap q.arm (sym named_) ∙ has.arms place arm is)

-- what is told of as many slots as there are is by the arms of the first shard
pub slots_first : {R A : Type 0} (geometry : Geometry) (shards : List (Shard R A)) (shard first : Shard R A) (slots : List (Vec ArmView Global)) (count : ℕ) → slice_get shards 0 ≡ Some shard
    → length slots ≡ geometry.spec.children → AreSlotsTold geometry shards shard.slots count slots → slice_get shards 0 ≡ Some first → AreSlotsTold geometry shards first.slots geometry.spec.children slots
slots_first {R} {A} geometry shards shard first slots count at many told there =
    subst (λ (s : Shard R A). AreSlotsTold geometry shards s.slots geometry.spec.children slots) (some_injective shard first (sym at ∙ there)) (record { many = many; each = told.each })

module _ {R A : Type 0} (geometry : Geometry) (shards : List (Shard R A)) (shard : Shard R A) (slots : List (Vec ArmView Global)) where
  pub slots_seen : (count : ℕ) → slice_get shards 0 ≡ Some shard → AreSlotsTold geometry shards shard.slots count slots → AreSlotViews geometry shards slots
  slots_seen count first told perms views shown same slot arms at = record { order = order; each = each }
    where
      here : AreArmsTold geometry shards (arms_of shard.slots slot) arms.items
      here = told.each slot arms at

      seen : (v : View) × (slice_get views 0 ≡ Some v) × IsIn shard v.world
      seen = zip_left IsShown shards views shown 0 shard first

      among : Contains views seen.0
      among = contains_at views 0 seen.0 seen.1

      first_order : seen.0.world.core.order slot ≡ map name_of arms.items
      first_order = seen.2.slots.order slot ∙ ap (map slots_of.name_of) (sym here.arms_are) ∙ names_told arms.items

      order : (v : View) → Contains views v → v.world.core.order slot ≡ map name_of arms.items
      order v c = same.order v seen.0 c among slot ∙ first_order

      each : (k : ℕ) (view : ArmView) → slice_get arms.items k ≡ Some view → IsArmView geometry perms views view
      each k view there = record { offline = offline; spare_name = it.spare_name perms; logged = it.logged views shown stands }
        where
          it : IsArmTold geometry shards view
          it = subst (IsArmTold geometry shards) (get_or_from_slice_get arms.items k view view there) (here.each k view (slice_get_within arms.items k view there))

          listed : (v : View) → Contains views v → slice_get (v.world.core.order slot) k ≡ Some (name_of view)
          listed v c = ap (λ (ns : List ArmName). slice_get ns k) (order v c) ∙ slice_get-map name_of arms.items k ∙ ap (option_map name_of) there

          in_slots : (v : View) (c : Contains views v) → (at : ArmAt) × (arm : machine.Arm) × (v.world.core.arm (name_of view) ≡ Some arm) × (arm.gone ≡ None)
          in_slots v c =
              let z = found_at views v c in
              let s = zip_right IsShown shards views shown z.0 v z.1 in
              let t = stands_in s.0.slots v.world.core slot k (name_of view) s.2.slots (listed v c) in
              (t.0, arm_in s.0.slots t.0 t.1, t.3, refl)

          stands : StandsIn (name_of view) views
          stands v c = let z = in_slots v c in (z.1, z.2, z.3)

          -- the first shard has the arm as it is told
          place : ArmAt
          place = record { slot = slot; arm = k }

          first_has : seen.0.world.core.arm (name_of view) ≡ Some (arm_in shard.slots place view.arm)
          first_has =
              let arm_there : slice_get (arms_of shard.slots slot) k ≡ Some view.arm =
              ap (λ (xs : List Arm). slice_get xs k) (sym here.arms_are) ∙ slice_get-map (λ (v : ArmView). v.arm) arms.items k ∙ ap (option_map (λ (v : ArmView). v.arm)) there in
              seen.2.slots.arms place view.arm arm_there

          offline : (v : View) → Contains views v → IsSomeAnd (v.world.core.arm (name_of view)) (λ arm. arm.offline ≡ view.arm.offline)
          offline v c =
              let z = stands v c in
              let equal = same.offline v seen.0 c among (name_of view) z.0 (arm_in shard.slots place view.arm) z.1 first_has z.2 refl in
              subst (λ (o : Option machine.Arm). IsSomeAnd o (λ arm. arm.offline ≡ view.arm.offline)) (sym z.1) equal
