-- Which rule an arm breaks first that is to leave its slot, in the words of a session.
use Rattle.std.proofs.Common.{◌≡◌, ◌≢◌, ◌<◌, ◌≤◌, ◌+◌, ◌-◌, ◌∙◌, [], ◌∷◌, inl, inr, ℕ, zero, suc, Bool, true, false, List, Some, None, arith, refl, sym, ap, subst, length, remove, slice_index_or}
use Rattle.std.specs.Prelude.{option_map, slice_get, sum_by, ◌^◌, if◌then◌else◌}
use Rattle.std.specs.List.{list_any}
use Rattle.std.proofs.lemmas.Bool.{cases_lt}
use Rattle.std.proofs.lemmas.List.Edits.{get_or-remove_above, get_or-remove_below, length-remove}
use Rattle.std.proofs.lemmas.List.Sums.{sum_by-cons}
use Rattle.std.proofs.lemmas.Option.{get_or_from_slice_get, slice_get-get_or, slice_get_within}
use Rattle.draid_names.specs.declared.arm.Arm.{Arm}
use Rattle.draid_names.specs.declared.arm.ArmAt.{ArmAt}
use Rattle.draid_names.specs.declared.arm.ArmKind.{ArmKind}
use Rattle.draid_names.specs.declared.arm.ArmKind.TheVariants as kind
use Rattle.draid_names.specs.declared.refusal.SlotFault.{SlotFault}
use Rattle.draid_names.specs.declared.refusal.SlotFault.TheVariants as fault
use Rattle.draid_rack.specs.declared.Rack as racks
use Rattle.draid_area.specs.declared.Area as areas
use Rattle.draid_machine.specs.declared.names.ArmName.{ArmName}
use Rattle.draid_machine.specs.declared.names.ArmName.TheVariants.{Leaf}
use Rattle.draid_machine.specs.Names.{name_eq, named}
use Rattle.draid_ranges.specs.Numbers.{count_below}
use Rattle.draid_machine.proofs.Small.{absurd_test, either_true, name_refl, true_left, true_right}
use Rattle.draid_slots.specs.Faults.{HasLeafBeside}
use Rattle.draid_slots.specs.States.{name_of, pass_in}
use Rattle.draid_slots.specs.Table.{arms_of, count_at, is_leaf, is_logged}
use Rattle.draid_shard.specs.Fits.{NamesOnce}
use Rattle.draid_shard.specs.Part.{Part}
use Rattle.draid_shard.specs.declared.shard.Shard.{Shard}
use Rattle.draid_disks.specs.Checks as checks
use Rattle.draid_disks.specs.Disks.{IsNamed}
use Rattle.draid_session.specs.Arms as arms
use Rattle.draid_session.specs.Holds.{UberView, View, view_of}
use Rattle.draid_session.specs.State.{Metaslab, State}
use Rattle.draid_session.specs.Status.{groups_of, logged_in}
use Rattle.draid_pool.specs.Pools.{Represents}
use Rattle.draid_pool.specs.Views.{seen_at}
use Rattle.draid_pool.specs.Whole.{IsWhole}
use Rattle.draid_pool.specs.declared.pool.Pool.{Pool}
use Rattle.draid_pool.proofs.Lifted.{HasMetaslab, metaslab_of}
use Rattle.draid_pool.proofs.Lists.{present, some_of}
use Rattle.draid_changes.proofs.Begun.{first_seen, seen_first}
use Rattle.draid_changes.proofs.Forbids.{arm_here, arm_there, logged_there, lowest_seen, name_same, no_pass, none_lowest, none_seen, other_name, slot_inside, sums_seen}

-- ---- lists

pub any_at : (p : Arm → Bool) (xs : List Arm) (k : ℕ) (b : Arm) → slice_get xs k ≡ Some b → p b ≡ true → list_any p xs ≡ true
any_at p [] k b there is = absurd (cc)
any_at p (x ∷ xs) zero b there is = true_left (p x) (list_any p xs) (subst (λ a. p a ≡ true) (sym (some_of (Some x) x b refl there)) is)
any_at p (x ∷ xs) (suc k) b there is = true_right (p x) (list_any p xs) (any_at p xs k b there is)

any_found : (p : Arm → Bool) (xs : List Arm) → list_any p xs ≡ true → (k : ℕ) × (b : Arm) × (slice_get xs k ≡ Some b) × (p b ≡ true)
any_found p [] any = absurd_test false any refl
any_found p (x ∷ xs) any = elim (either_true (p x) (list_any p xs) any) [
  | inl here ↦ (0, x, refl, here)
  | inr later ↦ (let z = any_found p xs later in (suc z.0, z.1, z.2, z.3))
]

-- what is left as one goes
left_at : (xs : List Arm) (j k : ℕ) (b : Arm) → slice_get xs k ≡ Some b → j < length xs → k ≢ j → (i : ℕ) × (slice_get (remove xs j) i ≡ Some b)
left_at xs j k b there inside other =
    let within = slice_get_within xs k b there in
    let less = length-remove xs j inside in
    elim (cases_lt k j) [
      | inl below ↦ (k, slice_get-get_or (remove xs j) k b (omega (arith, below, less, inside)) ∙ ap Some (get_or-remove_below xs j b k below inside ∙ get_or_from_slice_get xs k b b there))
      | inr past ↦
          let on : k - 1 + 1 ≡ k = omega (arith, past, other) in (
            k - 1,
            slice_get-get_or (remove xs j) (k - 1) b (omega (arith, past, other, within, less))
                ∙ ap Some (get_or-remove_above xs j b (k - 1) (omega (arith, past, other)) inside ∙ (ap (λ i. slice_index_or xs i b) on ∙ get_or_from_slice_get xs k b b there)),
          )
    ]

pub was_at : {X : Type 0} (xs : List X) (j i : ℕ) (b : X) → slice_get (remove xs j) i ≡ Some b → j < length xs → (k : ℕ) × (slice_get xs k ≡ Some b) × (k ≢ j)
was_at xs j i b there inside =
    let within = slice_get_within (remove xs j) i b there in
    let less = length-remove xs j inside in
    let own = get_or_from_slice_get (remove xs j) i b b there in
    elim (cases_lt i j) [
      | inl below ↦ (i, slice_get-get_or xs i b (omega (arith, below, inside)) ∙ ap Some (sym (get_or-remove_below xs j b i below inside) ∙ own), λ same. omega (arith, same, below))
      | inr past ↦ (i + 1, slice_get-get_or xs (i + 1) b (omega (arith, within, less)) ∙ ap Some (sym (get_or-remove_above xs j b i past inside) ∙ own), λ same. omega (arith, same, past))
    ]

pub none_counted : (test : ℕ → Bool) (n : ℕ) → ((k : ℕ) → test k ≡ false) → count_below test n ≡ 0
unfolding count_below
none_counted test zero none = refl
none_counted test (suc n) none = (let rest = none_counted test n none in let here = ap {B = ℕ} (λ b. if b then 1 else 0) (none n) in omega (arith, rest, here))

none_summed : {S : Type 0} (f : S → ℕ) (xs : List S) → ((m : ℕ) (s : S) → slice_get xs m ≡ Some s → f s ≡ 0) → sum_by f xs ≡ 0
none_summed f [] none = refl
none_summed f (x ∷ xs) none = (let all = sum_by-cons f x xs in let here = none 0 x refl in let rest = none_summed f xs (λ m s at. none (suc m) s at) in omega (arith, all, here, rest))

leaf_is : (k : ArmKind) (number leaf : ℕ) → named k number ≡ Leaf leaf → k ≡ kind.Leaf
leaf_is kind.Leaf number leaf is = refl
leaf_is kind.Spare number leaf is = absurd (cc)

pub is_leaf_arm : (b : Arm) → b.kind ≡ kind.Leaf → is_leaf b ≡ true
is_leaf_arm b is = ap (λ k. is_leaf (record b { kind = k })) is

leaf_of : (k : ArmKind) (number : ℕ) (offline fresh : Bool) → is_leaf (record { kind = k; number = number; offline = offline; fresh = fresh }) ≡ true → named k number ≡ Leaf number
leaf_of kind.Leaf number offline fresh is = refl
leaf_of kind.Spare number offline fresh is = absurd_test false is refl

module _ {R A : Type 0} (rack : racks.Ghosts R) (area : areas.Ghosts A) (pool : Pool R A) (w : IsWhole rack area pool) (x : State) (r : Represents rack area pool x) (first : Shard R A)
    (start : slice_get pool.metaslabs.shards.items 0 ≡ Some first) (n : ArmName) where
  z : HasMetaslab rack area pool x r.stands 0 first
  z = metaslab_of rack area pool x r.stands 0 first start

  abbrev views : List View
  views = seen_at 0 x.metaslabs

  shard_for : (m : ℕ) (y : Metaslab) → slice_get x.metaslabs m ≡ Some y → (shard : Shard R A) × (slice_get pool.metaslabs.shards.items m ≡ Some shard)
  shard_for m y there = present pool.metaslabs.shards.items m (let long = r.stands.shards in let inside = slice_get_within x.metaslabs m y there in omega (arith, long, inside))

  -- no arm has the name
  pub none_named : ((at : ArmAt) → IsNamed first.slots at n → ⊥) → (slot : ℕ) → arms.StandsIn x.geometry x.perms n slot (seen_at 0 x.metaslabs) → ⊥
  unfolding z
  none_named none slot stands =
      let found = arm_here rack area x 0 (r.stands.pieces 0) first z.y z.is slot n (first_seen (λ v. arms.has_arm v slot n ≡ true) x.metaslabs z.y z.at stands.1) in
      none (record { slot = slot; arm = found.0 }) (found.1, found.2, found.3)

  no_passes : checks.NoPass pool.metaslabs.shards.items → (m : ℕ) (y : Metaslab) → slice_get x.metaslabs m ≡ Some y → y.world.core.pass ≡ None
  no_passes none m y there = (let s = shard_for m y there in no_pass rack area x m (r.stands.pieces m) s.0 y (r.stands.each m s.0 y s.1 there) (none m s.0 s.1))

  module _ (at : ArmAt) (called : IsNamed first.slots at n) where
    once : NamesOnce first.slots
    once = (w.shards 0 first start).valid.once

    listed : arms.has_arm (view_of 0 z.y) at.slot n ≡ true
    unfolding z
    listed = arm_there rack area x 0 (r.stands.pieces 0) first z.y z.is at n called

    pub stands : arms.StandsIn x.geometry x.perms n at.slot (seen_at 0 x.metaslabs)
    unfolding z listed
    stands = (slot_inside rack area x 0 (r.stands.pieces 0) first z.y z.is at.slot n listed, seen_first (λ v. arms.has_arm v at.slot n ≡ true) x.metaslabs z.y z.at listed)

    -- a slot in which it stands is its own
    one_slot : (slot : ℕ) → arms.StandsIn x.geometry x.perms n slot (seen_at 0 x.metaslabs) → slot ≡ at.slot
    unfolding z
    one_slot slot stands =
        let found = arm_here rack area x 0 (r.stands.pieces 0) first z.y z.is slot n (first_seen (λ v. arms.has_arm v slot n ≡ true) x.metaslabs z.y z.at stands.1) in
        sym (ap (λ (p : ArmAt). p.slot) (once.arms at (record { slot = slot; arm = found.0 }) called.0 found.1 called.1 found.2 (called.2 ∙ sym found.3)))

    inside : at.arm < length (arms_of first.slots at.slot)
    inside = slice_get_within (arms_of first.slots at.slot) at.arm called.0 called.1

    -- ---- passes

    pub pass_broken : (metaslab number : ℕ) → checks.IsLowestPass pool.metaslabs.shards.items metaslab number → (u : UberView)
        → arms.BreaksDetach x.geometry x.perms n (seen_at 0 x.metaslabs) u (fault.PassRunning metaslab number)
    pass_broken metaslab number low u =
        let y = metaslab_of rack area pool x r.stands low.place low.shard low.there in
        let own : low.shard.number ≡ low.place = ap (λ (p : Part). p.number) y.is.part_is in
        let seen = lowest_seen 0 x.metaslabs low.place y.y (pass_in low.shard.slots low.pass) y.at (y.is.stands.is_in.pass ∙ ap (λ o. option_map (pass_in low.shard.slots) o) low.has)
        (λ m q less there. (let s = shard_for m q there in no_pass rack area x m (r.stands.pieces m) s.0 q (r.stands.each m s.0 q s.1 there) (low.lower m s.0 less s.1))) in (
          at.slot,
          stands,
          subst (λ m. arms.IsLowestPass (seen_at 0 x.metaslabs) m number) (let is = low.metaslab_is in let same : 0 + low.place ≡ metaslab = omega (arith, is, own) in same)
              (subst (λ k. arms.IsLowestPass (seen_at 0 x.metaslabs) (0 + low.place) k) (sym low.number_is) seen),
        )

    -- ---- another arm of the slot

    other_here : (other : ArmName) → arms.IsOther x.geometry x.perms n at.slot (view_of 0 z.y) other
        → (k : ℕ) × (b : Arm) × (slice_get (arms_of first.slots at.slot) k ≡ Some b) × (name_of b ≡ other) × (k ≢ at.arm)
    unfolding z
    other_here other (has, differs) =
        let f = arm_here rack area x 0 (r.stands.pieces 0) first z.y z.is at.slot other has in (
          f.0,
          f.1,
          f.2,
          f.3,
          λ same.
              (let one : called.0 ≡ f.1 = some_of (slice_get (arms_of first.slots at.slot) at.arm) called.0 f.1 called.1 (subst (λ k. slice_get (arms_of first.slots at.slot) k ≡ Some f.1) same f.2) in
              let name : n ≡ other = sym called.2 ∙ (ap name_of one ∙ f.3) in
              absurd_test (name_eq n other) (subst (λ o. name_eq n o ≡ true) name (name_refl n)) differs),
        )

    other_there : (k : ℕ) (b : Arm) → slice_get (arms_of first.slots at.slot) k ≡ Some b → k ≢ at.arm → arms.IsOther x.geometry x.perms n at.slot (view_of 0 z.y) (name_of b)
    unfolding z once
    other_there k b there apart = (
      arm_there rack area x 0 (r.stands.pieces 0) first z.y z.is (record { slot = at.slot; arm = k }) (name_of b) (b, there, refl),
      subst (λ q. name_eq q (name_of b) ≡ false) called.2
          (other_name first.slots at (record { slot = at.slot; arm = k }) called.0 b once called.1 there (λ same. apart (sym (ap (λ (p : ArmAt). p.arm) same)))),
    )

    -- ---- leaves

    last_leaf : (HasLeafBeside first.slots at → ⊥) → arms.IsLastLeaf x.geometry x.perms n at.slot (seen_at 0 x.metaslabs)
    unfolding z other_here inside
    last_leaf none = seen_first (λ v. (leaf : ℕ) → arms.IsOther x.geometry x.perms n at.slot v (Leaf leaf) → ⊥) x.metaslabs z.y z.at (λ leaf other.
        (let o = other_here (Leaf leaf) other in
        let i = left_at (arms_of first.slots at.slot) at.arm o.0 o.1 o.2 inside o.4 in
        none (any_at is_leaf (remove (arms_of first.slots at.slot) at.arm) i.0 o.1 i.1 (is_leaf_arm o.1 (leaf_is o.1.kind o.1.number leaf o.3)))))

    not_last : HasLeafBeside first.slots at → arms.IsLastLeaf x.geometry x.perms n at.slot (seen_at 0 x.metaslabs) → ⊥
    unfolding z other_there inside
    not_last leaf last =
        let f = any_found is_leaf (remove (arms_of first.slots at.slot) at.arm) leaf in
        let k = was_at (arms_of first.slots at.slot) at.arm f.0 f.1 f.2 inside in
        first_seen (λ v. (leaf : ℕ) → arms.IsOther x.geometry x.perms n at.slot v (Leaf leaf) → ⊥) x.metaslabs z.y z.at last f.1.number
        (subst (arms.IsOther x.geometry x.perms n at.slot (view_of 0 z.y)) (leaf_of f.1.kind f.1.number f.1.offline f.1.fresh f.3) (other_there k.0 f.1 k.1 k.2))

    pub last_broken : checks.NoPass pool.metaslabs.shards.items → (HasLeafBeside first.slots at → ⊥) → (u : UberView) → arms.BreaksDetach x.geometry x.perms n (seen_at 0 x.metaslabs) u fault.LastArm
    unfolding last_leaf
    last_broken none leaf u = (at.slot, stands, none_seen 0 x.metaslabs (no_passes none), last_leaf leaf)

    -- ---- logs

    -- what an arm of the slot missed, over all metaslabs
    missed_is : (k : ℕ) (b : Arm) → slice_get (arms_of first.slots at.slot) k ≡ Some b → checks.missed_over pool.metaslabs.shards.items (checks.beside at k) ≡ sum_by (logged_in (name_of b)) (seen_at 0 x.metaslabs)
    missed_is k b there = sums_seen (λ (shard : Shard R A). count_at shard.slots (checks.beside at k)) (name_of b) 0 pool.metaslabs.shards.items x.metaslabs r.stands.shards (λ m s y here see.
        (let same = (w.alike 0 m first s start here).arms.slots at.slot low in
        let many = same.many in
        let within = slice_get_within (arms_of first.slots at.slot) k b there in
        let c = present (arms_of s.slots at.slot) k (omega (arith, many, within)) in
        let name = name_same b c.0 (same.each k b c.0 there c.1) in
        subst (λ q. count_at s.slots (checks.beside at k) ≡ groups_of (y.world.core.arm q)) name
        (sym (logged_there rack area x m (r.stands.pieces m) s y (r.stands.each m s y here see) (checks.beside at k) c.0 c.1))))
      where
        low : at.slot < first.slots.geometry.spec.children
        low = (let is = (w.shards 0 first start).valid.slots.geometry_is in
            subst (λ g. at.slot < g.spec.children) (sym (is ∙ ap (λ (p : Part). p.geometry) (metaslab_of rack area pool x r.stands 0 first start).is.part_is)) stands.0)

    least_logged : (groups : ℕ) → checks.IsLeastOver pool.metaslabs.shards.items at (length (arms_of first.slots at.slot)) groups → arms.IsLeastLogged x.geometry x.perms n at.slot (seen_at 0 x.metaslabs) groups
    unfolding z other_here other_there
    least_logged groups l =
        let k = l.one in
        let b = present (arms_of first.slots at.slot) k.0 k.2 in
        record {
          one = seen_first (λ v. (other : ArmName) × arms.IsOther x.geometry x.perms n at.slot v other × (groups ≡ sum_by (logged_in other) (seen_at 0 x.metaslabs))) x.metaslabs z.y z.at
              (name_of b.0, other_there k.0 b.0 b.1 k.1, sym k.3 ∙ missed_is k.0 b.0 b.1);
          least = λ other on.
              (let o = other_here other (first_seen (λ v. arms.IsOther x.geometry x.perms n at.slot v other) x.metaslabs z.y z.at on) in
              let most = l.least o.0 o.4 (slice_get_within (arms_of first.slots at.slot) o.0 o.1 o.2) in
              subst (λ q. groups ≤ sum_by (logged_in q) (seen_at 0 x.metaslabs)) o.3 (subst (λ m. groups ≤ m) (missed_is o.0 o.1 o.2) most));
        }

    pub log_broken : (groups : ℕ) → checks.NoPass pool.metaslabs.shards.items → HasLeafBeside first.slots at → 0 < groups
        → checks.IsLeastOver pool.metaslabs.shards.items at (length (arms_of first.slots at.slot)) groups → (u : UberView)
        → arms.BreaksDetach x.geometry x.perms n (seen_at 0 x.metaslabs) u (fault.LogNotEmpty groups)
    unfolding not_last least_logged
    log_broken groups none leaf some least u = (at.slot, stands, none_seen 0 x.metaslabs (no_passes none), not_last leaf, some, least_logged groups least)

    -- whatever why it can't go
    pub going_broken : (why : SlotFault) → checks.IsGoingRefused first.slots pool.metaslabs.shards.items at why → (u : UberView) → arms.BreaksDetach x.geometry x.perms n (seen_at 0 x.metaslabs) u why
    going_broken fault.NoSuch is u = absurd is
    going_broken (fault.SpareBusy by) is u = absurd is
    going_broken (fault.LogNotEmpty groups) is u = log_broken groups is.0 is.1 is.2 is.3 u
    going_broken fault.LastArm is u = last_broken is.0 is.1 u
    going_broken (fault.PassRunning metaslab number) is u = pass_broken metaslab number is u
    going_broken (fault.TooSmall need have) is u = absurd is
    going_broken (fault.Full many) is u = absurd is
    going_broken fault.Last is u = absurd is

    -- ---- no rule

    whole_missed : (k : ℕ) → checks.Each (λ (shard : Shard R A). (group : ℕ) → is_logged shard.slots (checks.beside at k) group ≡ false) pool.metaslabs.shards.items
        → checks.missed_over pool.metaslabs.shards.items (checks.beside at k) ≡ 0
    whole_missed k each =
        none_summed (λ (shard : Shard R A). count_at shard.slots (checks.beside at k)) pool.metaslabs.shards.items (λ m s there. none_counted (is_logged s.slots (checks.beside at k)) (2 ^ 48) (each m s there))

    pub none_broken : checks.NoPass pool.metaslabs.shards.items → HasLeafBeside first.slots at → checks.HasWholeOver pool.metaslabs.shards.items at (length (arms_of first.slots at.slot))
        → (u : UberView) (why : SlotFault) → arms.BreaksDetach x.geometry x.perms n (seen_at 0 x.metaslabs) u why → ⊥
    unfolding z one_slot not_last other_there
    none_broken none leaf whole u fault.NoSuch broken = broken at.slot stands
    none_broken none leaf whole u (fault.SpareBusy by) broken = broken
    none_broken none leaf whole u (fault.LogNotEmpty groups) broken =
        let same = one_slot broken.0 broken.1 in
        let least = subst (λ s. arms.IsLeastLogged x.geometry x.perms n s (seen_at 0 x.metaslabs) groups) same broken.5 in
        let b = present (arms_of first.slots at.slot) whole.0 whole.2 in
        let most = least.least (name_of b.0) (seen_first (λ v. arms.IsOther x.geometry x.perms n at.slot v (name_of b.0)) x.metaslabs z.y z.at (other_there whole.0 b.0 b.1 whole.1)) in
        let missed = missed_is whole.0 b.0 b.1 in
        let nothing = whole_missed whole.0 whole.3 in
        let some = broken.4 in
        omega (arith, most, missed, nothing, some)
    none_broken none leaf whole u fault.LastArm broken = not_last leaf (subst (λ s. arms.IsLastLeaf x.geometry x.perms n s (seen_at 0 x.metaslabs)) (one_slot broken.0 broken.1) broken.3)
    none_broken none leaf whole u (fault.PassRunning metaslab number) broken = none_lowest 0 x.metaslabs metaslab number (no_passes none) broken.2
    none_broken none leaf whole u (fault.TooSmall need have) broken = broken
    none_broken none leaf whole u (fault.Full many) broken = broken
    none_broken none leaf whole u fault.Last broken = broken
