-- Which rules keep an arm in its slot, by the shards of a pool and by what is seen of it.
use Rattle.std.proofs.Common.{◌≡◌, ◌<◌, ◌+◌, ◌∙◌, [], ◌∷◌, inl, inr, ℕ, zero, suc, true, false, List, Option, Some, None, arith, refl, sym, ap, subst, length, remove, slice_index_or}
use Rattle.std.specs.Prelude.{option_map, slice_get, sum_by}
use Rattle.std.proofs.lemmas.List.Sums.{sum_by-cons}
use Rattle.std.proofs.lemmas.Option.{slice_get_within}
use Rattle.draid_names.specs.declared.arm.Arm.{Arm}
use Rattle.draid_names.specs.declared.arm.ArmAt.{ArmAt}
use Rattle.draid_rack.specs.declared.Rack as racks
use Rattle.draid_area.specs.declared.Area as areas
use Rattle.draid_machine.specs.declared.names.ArmName.{ArmName}
use Rattle.draid_machine.specs.Names.{has_name, name_eq}
use Rattle.draid_machine.specs.State as machine
use Rattle.draid_machine.proofs.Fitted.{every_fit}
use Rattle.draid_machine.proofs.Small.{bool_cases, name_true, none_some}
use Rattle.draid_segments.specs.Segments.{Pieces}
use Rattle.draid_slots.specs.States.{name_of, pass_in}
use Rattle.draid_slots.specs.Table.{SlotTable, arm_at, arms_of, count_at, has_leaf}
use Rattle.draid_shard.specs.Alike.{HaveSameArms, IsSameArm}
use Rattle.draid_shard.specs.Fits.{NamesOnce}
use Rattle.draid_shard.specs.Part.{Part, layout_in}
use Rattle.draid_shard.specs.States.{layout_by, part_of}
use Rattle.draid_shard.specs.declared.shard.Shard.{Shard}
use Rattle.draid_shard.proofs.Answering.{name_found, name_listed}
use Rattle.draid_shard.proofs.Homes.{lays}
use Rattle.draid_pass.specs.declared.pass.Pass.{Pass}
use Rattle.draid_disks.specs.Disks.{IsNamed, SamePass}
use Rattle.draid_changes.specs.Detaching.{MayGo}
use Rattle.draid_changes.specs.Walks.{Reserves}
use Rattle.draid_changes.specs.declared.need.Need.TheVariants as needs
use Rattle.draid_session.specs.Arms as arms
use Rattle.draid_session.specs.Holds.{view_of}
use Rattle.draid_session.specs.Phases.{NoneOf}
use Rattle.draid_session.specs.State.{Metaslab, State}
use Rattle.draid_session.specs.Status.{groups_of, logged_in}
use Rattle.draid_pool.specs.Metaslabs.{IsMetaslab}
use Rattle.draid_pool.specs.Pools.{part_in}
use Rattle.draid_pool.specs.Views.{seen_at}
use Rattle.draid_pool.proofs.Lists.{present, some_of}

-- ---- lists

-- no metaslab from a number on has a pass
pub none_seen : (n : ℕ) (ys : List Metaslab) → ((m : ℕ) (y : Metaslab) → slice_get ys m ≡ Some y → y.world.core.pass ≡ None) → NoneOf arms.HasPass (seen_at n ys)
unfolding seen_at
none_seen n [] none = tt
none_seen n (y ∷ ys) none = (λ has. has (none 0 y refl), none_seen (n + 1) ys (λ m z at. none (suc m) z at))

pub none_lowest : (n : ℕ) (ys : List Metaslab) (metaslab number : ℕ) → ((m : ℕ) (y : Metaslab) → slice_get ys m ≡ Some y → y.world.core.pass ≡ None) → arms.IsLowestPass (seen_at n ys) metaslab number → ⊥
unfolding seen_at
none_lowest n [] metaslab number none lowest = lowest
none_lowest n (y ∷ ys) metaslab number none (inl here) = none_some y.world.core.pass here.0 (none 0 y refl) here.1
none_lowest n (y ∷ ys) metaslab number none (inr behind) = none_lowest (n + 1) ys metaslab number (λ m z at. none (suc m) z at) behind.1

pub lowest_seen : (n : ℕ) (ys : List Metaslab) (place : ℕ) (y : Metaslab) (p : machine.Pass) → slice_get ys place ≡ Some y → y.world.core.pass ≡ Some p
    → ((m : ℕ) (z : Metaslab) → m < place → slice_get ys m ≡ Some z → z.world.core.pass ≡ None) → arms.IsLowestPass (seen_at n ys) (n + place) p.number
unfolding seen_at
lowest_seen n [] place y p there has lower = absurd (none_some None y refl there)
lowest_seen n (z ∷ ys) zero y p there has lower =
    let same : z ≡ y = some_of (Some z) z y refl there in
    inl (p, ap (λ (w : Metaslab). w.world.core.pass) same ∙ has, omega arith, refl)
lowest_seen n (z ∷ ys) (suc place) y p there has lower =
    inr (
      lower 0 z (omega arith) refl,
      subst (λ m. arms.IsLowestPass (seen_at (n + 1) ys) m p.number) (let on : n + 1 + place ≡ n + suc place = omega arith in on)
          (lowest_seen (n + 1) ys place y p there has (λ m w less at. lower (suc m) w (omega (arith, less)) at)),
    )

-- a sum over shards is that over what is seen of the metaslabs for which they stand
pub sums_seen : {S : Type 0} (f : S → ℕ) (other : ArmName) (n : ℕ) (xs : List S) (ys : List Metaslab) → length xs ≡ length ys
    → ((m : ℕ) (s : S) (y : Metaslab) → slice_get xs m ≡ Some s → slice_get ys m ≡ Some y → f s ≡ groups_of (y.world.core.arm other)) → sum_by f xs ≡ sum_by (logged_in other) (seen_at n ys)
unfolding seen_at
sums_seen f other n [] [] long each = refl
sums_seen f other n [] (y ∷ ys) long each = absurd (cc)
sums_seen f other n (s ∷ xs) [] long each = absurd (cc)
sums_seen f other n (s ∷ xs) (y ∷ ys) long each =
    let here = each 0 s y refl refl in
    let rest = sums_seen f other (n + 1) xs ys (omega (arith, long)) (λ m t z a b. each (suc m) t z a b) in
    sum_by-cons f s xs ∙ ((λ i. here i + rest i) ∙ sym (sum_by-cons (logged_in other) (view_of n y) (seen_at (n + 1) ys)))

-- ---- one metaslab

pub name_same : (p q : Arm) → IsSameArm p q → name_of q ≡ name_of p
name_same p q same = sym (λ i. name_of (record p { kind = same.kind_is i; number = same.number_is i }))

name_of_found : (o : Option Arm) (n : ArmName) → option_map name_of o ≡ Some n → (arm : Arm) × (o ≡ Some arm) × (name_of arm ≡ n)
name_of_found None n is = absurd (none_some None n refl is)
name_of_found (Some arm) n is = (arm, refl, some_of (Some (name_of arm)) (name_of arm) n refl is)

-- an arm in a slot of a table is in that of another one that has the same arms
pub named_shared : (a b : SlotTable) (at : ArmAt) (n : ArmName) → HaveSameArms a b → at.slot < a.geometry.spec.children → IsNamed a at n → IsNamed b at n
named_shared a b at n same low (arm, there, called) =
    let slots = same.slots at.slot low in
    let many = slots.many in
    let within = slice_get_within (arms_of a at.slot) at.arm arm there in
    let z = present (arms_of b at.slot) at.arm (omega (arith, many, within)) in
    (z.0, z.1, name_same arm z.0 (slots.each at.arm arm z.0 there z.1) ∙ called)

-- another place has another name
pub other_name : (slots : SlotTable) (at other : ArmAt) (a b : Arm) → NamesOnce slots → arm_at slots at ≡ Some a → arm_at slots other ≡ Some b → (at ≡ other → ⊥) → name_eq (name_of a) (name_of b) ≡ false
other_name slots at other a b once there here apart = elim (bool_cases (name_eq (name_of a) (name_of b))) [
  | inl same ↦ absurd (apart (once.arms at other a b there here (name_true (name_of a) (name_of b) same)))
  | inr differs ↦ differs
]

pub same_nothing : (old now : Option Pass) → SamePass old now → old ≡ None → now ≡ None
same_nothing None None same is = refl
same_nothing None (Some new) same is = absurd same
same_nothing (Some pass) None same is = refl
same_nothing (Some pass) (Some new) same is = absurd (none_some None pass refl (sym is))

-- what was reserved keeps no arm in its slot
pub goes_still : {R A : Type 0} (at : ArmAt) (n : ArmName) (old now : Shard R A) → Reserves needs.Event old now → MayGo at n old → MayGo at n now
goes_still at n old now r may = record {
  pass = same_nothing old.pass now.pass r.pass may.pass;
  low = subst (λ g. at.slot < g.spec.children) (sym r.slots.same.geometry_is) may.low;
  there = (may.there.0, here at ∙ may.there.1, may.there.2);
  may = record {
    there = subst (λ arms. at.arm < length (slice_index_or arms at.slot [])) (sym r.slots.arms_stay) may.may.there;
    leaf_beside = subst (λ arms. has_leaf (remove (slice_index_or arms at.slot []) at.arm) ≡ true) (sym r.slots.arms_stay) may.may.leaf_beside;
    missed_none = (let one = may.may.missed_none in (
      one.0,
      (one.1.0, subst (λ arms. one.0 < length (slice_index_or arms at.slot [])) (sym r.slots.arms_stay) one.1.1),
      λ group. r.logs.logs_stay (record { slot = at.slot; arm = one.0 }) group ∙ one.2 group,
    ));
  };
}
  where
    here : (at : ArmAt) → arm_at now.slots at ≡ arm_at old.slots at
    here at = ap (λ arms. slice_get (slice_index_or arms at.slot []) at.arm) r.slots.arms_stay

module _ {R A : Type 0} (rack : racks.Ghosts R) (area : areas.Ghosts A) where
  module _ (x : State) (m : ℕ) (pieces : Pieces) (shard : Shard R A) (y : Metaslab) (is : IsMetaslab rack area (part_in x m) pieces shard y) where
    -- an arm of the shard is one of the metaslab
    pub arm_there : (at : ArmAt) (n : ArmName) → IsNamed shard.slots at n → arms.has_arm (view_of m y) at.slot n ≡ true
    arm_there at n (arm, there, name) =
        ap (λ ns. has_name ns n) (is.stands.is_in.slots.order at.slot) ∙ name_listed (arms_of shard.slots at.slot) at.arm n (ap (option_map name_of) there ∙ ap Some name)

    -- in one of the slots
    pub slot_inside : (slot : ℕ) (n : ArmName) → arms.has_arm (view_of m y) slot n ≡ true → slot < x.geometry.spec.children
    slot_inside slot n listed =
        let fits = every_fit (layout_by shard) y.world (lays (part_of shard) is.valid.part) is.stands.reached in
        subst (λ (p : Part). slot < (layout_in p).slots) is.part_is (fits.core.order.slots slot n listed)

    -- and the other way round
    pub arm_here : (slot : ℕ) (n : ArmName) → arms.has_arm (view_of m y) slot n ≡ true → (k : ℕ) × (arm : Arm) × (slice_get (arms_of shard.slots slot) k ≡ Some arm) × (name_of arm ≡ n)
    arm_here slot n listed =
        let z = name_found (arms_of shard.slots slot) n (ap (λ ns. has_name ns n) (sym (is.stands.is_in.slots.order slot)) ∙ listed) in
        let a = name_of_found (slice_get (arms_of shard.slots slot) z.0) n z.2 in
        (z.0, a.0, a.1, a.2)

    pub pass_there : (p : machine.Pass) → option_map (pass_in shard.slots) shard.pass ≡ Some p → y.world.core.pass ≡ Some p
    pass_there p has = is.stands.is_in.pass ∙ has

    pub no_pass : shard.pass ≡ None → y.world.core.pass ≡ None
    no_pass none = is.stands.is_in.pass ∙ ap (option_map (pass_in shard.slots)) none

    -- how many groups its log has
    pub logged_there : (at : ArmAt) (arm : Arm) → arm_at shard.slots at ≡ Some arm → groups_of (y.world.core.arm (name_of arm)) ≡ count_at shard.slots at
    logged_there at arm there = ap groups_of (is.stands.is_in.slots.arms at arm there)
