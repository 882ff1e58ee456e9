-- The arms of a slot but for the last, by their names: what keeps them there, and what is left as the first of them goes.
use Rattle.std.proofs.Common.{◌≡◌, ◌≢◌, ◌==◌, ◌&&◌, ◌<◌, ◌+◌, ◌-◌, ◌++◌, ◌∙◌, [], ◌∷◌, ℕ, zero, suc, true, false, nat_le, List, Some, None, arith, refl, sym, ap, subst, length, map, remove, if◌then◌else◌}
use Rattle.std.specs.Prelude.{slice_get, slice_index_or}
use Rattle.std.proofs.lemmas.Bool.Decides.{nat_tests}
use Rattle.std.proofs.lemmas.List.{length-append, length-map}
use Rattle.draid_names.specs.declared.arm.Arm.{Arm}
use Rattle.draid_names.specs.declared.arm.ArmAt.{ArmAt}
use Rattle.draid_names.specs.declared.arm.ArmKind.{ArmKind}
use Rattle.draid_names.specs.declared.arm.ArmKind.TheVariants as kind
use Rattle.draid_rack.specs.declared.Rack as racks
use Rattle.draid_machine.specs.declared.names.ArmName.{ArmName}
use Rattle.draid_machine.specs.declared.names.ArmName.TheVariants.{Leaf, Spare}
use Rattle.draid_machine.specs.Names.{is_leaf, named}
use Rattle.draid_machine.proofs.Small.{absurd_test, equal, some_same, true_both}
use Rattle.draid_slots.specs.Changes.{behind}
use Rattle.draid_slots.specs.States.{name_of}
use Rattle.draid_slots.specs.Table as table
use Rattle.draid_slots.specs.Table.{IsArmOf, SlotTable, arm_at, arms_of, is_logged}
use Rattle.draid_shard.specs.Alike.{AreSameArms, HaveSameArms}
use Rattle.draid_shard.specs.Fits.{Valid}
use Rattle.draid_shard.specs.Part.{Part}
use Rattle.draid_shard.specs.declared.shard.Shard.{Shard}
use Rattle.draid_disks.specs.Disks.{plain, plain_arms}
use Rattle.draid_pool.proofs.Arms.{same_names}
use Rattle.draid_changes.specs.Balancing.{HasOthers, IsAlone, MayLoseOthers, last_place}
use Rattle.draid_changes.specs.Detaching.{Leaves, MayGo}
use Rattle.draid_changes.specs.Walks.{Reserves}
use Rattle.draid_changes.specs.declared.need.Need.TheVariants as needs
use Rattle.draid_changes.proofs.Forbids.{name_same, same_nothing}
use Rattle.draid_changes.proofs.Staying.{any_at, is_leaf_arm}

-- ---- lists of names

abbrev head_or : ArmName → List ArmName → ArmName
head_or n [] = n
head_or n (m ∷ ms) = m

abbrev behind_first : List ArmName → List ArmName
behind_first [] = []
behind_first (m ∷ ms) = ms

-- the first and the last of some arms
pub first_named : (xs : List Arm) (n : ArmName) (ms : List ArmName) → map name_of xs ≡ n ∷ ms → (a : Arm) × (slice_get xs 0 ≡ Some a) × (name_of a ≡ n)
first_named [] n ms is = absurd (cc)
first_named (x ∷ xs) n ms is = (x, refl, ap (head_or n) is)

pub last_named : (xs : List Arm) (ns : List ArmName) (last : ArmName) → map name_of xs ≡ ns ++ last ∷ [] → (a : Arm) × (slice_get xs (length ns) ≡ Some a) × (name_of a ≡ last)
last_named [] [] last is = absurd (cc)
last_named [] (n ∷ ns) last is = absurd (cc)
last_named (x ∷ xs) [] last is = (x, refl, ap (head_or last) is)
last_named (x ∷ xs) (n ∷ ns) last is = last_named xs ns last (ap behind_first is)

pub as_many : (xs : List Arm) (ns : List ArmName) (last : ArmName) → map name_of xs ≡ ns ++ last ∷ [] → length xs ≡ length ns + 1
as_many xs ns last is = sym (length-map xs name_of) ∙ (ap length is ∙ length-append ns (last ∷ []))

-- two or more arms are one, some and a last one
last_of : (x : Arm) (xs : List Arm) → (ns : List ArmName) × (last : ArmName) × (map name_of (x ∷ xs) ≡ ns ++ last ∷ [])
last_of x [] = ([], name_of x, refl)
last_of x (y ∷ ys) = (let z = last_of y ys in (name_of x ∷ z.0, z.1, ap (λ (ms : List ArmName). name_of x ∷ ms) z.2))

pub some_of_them : (xs : List Arm) → 1 < length xs → (n : ArmName) × (ns : List ArmName) × (last : ArmName) × (map name_of xs ≡ n ∷ (ns ++ last ∷ []))
some_of_them [] more = absurd (omega (arith, more))
some_of_them (x ∷ []) more = absurd (omega (arith, more))
some_of_them (x ∷ y ∷ ys) more = (let z = last_of y ys in (name_of x, z.0, z.1, ap (λ (ms : List ArmName). name_of x ∷ ms) z.2))

-- arms that are the same have the same names
pub names_alike : (ps qs : List Arm) → AreSameArms ps qs → map name_of qs ≡ map name_of ps
names_alike [] [] same = refl
names_alike [] (q ∷ qs) same = (let many = same.many in absurd (omega (arith, many)))
names_alike (p ∷ ps) [] same = (let many = same.many in absurd (omega (arith, many)))
names_alike (p ∷ ps) (q ∷ qs) same =
    let here = name_same p q (same.each zero p q refl refl) in
    let rest = names_alike ps qs (record { many = (let many = same.many in omega (arith, many)); each = λ k x y at also. same.each (suc k) x y at also }) in
    λ i. here i ∷ rest i

-- whether a pass has made them good is no part of their names
plain_names : (xs : List Arm) → map name_of (map plain xs) ≡ map name_of xs
plain_names [] = refl
plain_names (x ∷ xs) = ap (λ (ms : List ArmName). name_of x ∷ ms) (plain_names xs)

names_left : (xs : List Arm) → map name_of (remove xs 0) ≡ behind_first (map name_of xs)
names_left [] = refl
names_left (x ∷ xs) = refl

left_behind : (xs : List Arm) (k : ℕ) (a : Arm) → slice_get xs (suc k) ≡ Some a → slice_get (remove xs 0) k ≡ Some a
left_behind [] k a there = absurd (cc)
left_behind (x ∷ xs) k a there = there

-- ---- leaves

leaf_kind : (k : ArmKind) (number : ℕ) → is_leaf (named k number) ≡ true → k ≡ kind.Leaf
leaf_kind kind.Leaf number is = refl
leaf_kind kind.Spare number is = absurd_test false is refl

pub leaf_named : (a : Arm) (last : ArmName) → name_of a ≡ last → is_leaf last ≡ true → a.kind ≡ kind.Leaf
leaf_named a last called is = leaf_kind a.kind a.number (subst (λ n. is_leaf n ≡ true) (sym called) is)

pub named_leaf : (a : Arm) (last : ArmName) → name_of a ≡ last → a.kind ≡ kind.Leaf → is_leaf last ≡ true
named_leaf a last called is = subst (λ n. is_leaf n ≡ true) called (ap (λ (k : ArmKind). is_leaf (named k a.number)) is)

abbrev pub number_of : ArmName → ℕ
number_of (Leaf leaf) = leaf
number_of (Spare spare) = spare

-- ---- places

place_behind : (slot k : ℕ) → behind (record { slot = slot; arm = 0 }) (record { slot = slot; arm = k }) ≡ record { slot = slot; arm = suc k }
place_behind slot k =
    let here : ((slot == slot) && nat_le 0 k) ≡ true = true_both (slot == slot) (nat_le 0 k) (equal slot slot refl) (grind (arith, nat_tests)) in
    let on : k + 1 ≡ suc k = omega arith in
    ap (λ b. record { slot = slot; arm = k + (if b then 1 else 0) }) here ∙ ap (λ j. record { slot = slot; arm = j }) on

-- the last place, by the names
last_is : (slot : ℕ) (slots : SlotTable) (others : List ArmName) (last : ArmName) → map name_of (arms_of slots slot) ≡ others ++ last ∷ [] → last_place slots slot ≡ record { slot = slot; arm = length others }
last_is slot slots others last is = (let long = as_many (arms_of slots slot) others last is in ap (λ j. record { slot = slot; arm = j }) (let on : length (arms_of slots slot) - 1 ≡ length others = omega (arith, long) in on))

pub has_them : (slot : ℕ) (others : List ArmName) (last : ArmName) (slots : SlotTable) → map name_of (arms_of slots slot) ≡ others ++ last ∷ [] → others ≢ [] → is_leaf last ≡ true
    → ((group : ℕ) → is_logged slots (record { slot = slot; arm = length others }) group ≡ false) → HasOthers slots slot
has_them slot others last slots names some leaf empty = record {
  others = (let long = as_many (arms_of slots slot) others last names in let more = not_none others some in omega (arith, long, more));
  leaf = (l.0.number, (l.0, subst (λ (p : ArmAt). arm_at slots p ≡ Some l.0) (sym here) l.1, leaf_named l.0 last l.2 leaf, refl));
  empty = λ group. ap (λ (p : ArmAt). is_logged slots p group) here ∙ empty group;
} where
  here : last_place slots slot ≡ record { slot = slot; arm = length others }
  here = last_is slot slots others last names

  l : (a : Arm) × (slice_get (arms_of slots slot) (length others) ≡ Some a) × (name_of a ≡ last)
  l = last_named (arms_of slots slot) others last names

  not_none : (ns : List ArmName) → ns ≢ [] → 0 < length ns
  not_none [] some = absurd (some refl)
  not_none (n ∷ ns) some = omega arith

-- ---- one metaslab

module _ {R A : Type 0} (rack : racks.Ghosts R) (slot : ℕ) where
  -- none of the others is kept by a rule
  pub may_go : (n : ArmName) (others : List ArmName) (last : ArmName) (shard : Shard R A) → MayLoseOthers slot (n ∷ others) last shard → MayGo (record { slot = slot; arm = 0 }) n shard
  may_go n others last shard m =
      let xs = arms_of shard.slots slot in
      let l = last_named xs (n ∷ others) last m.names in
      let f = first_named xs n (others ++ last ∷ []) m.names in
      let long = as_many xs (n ∷ others) last m.names in
      record {
        pass = m.pass;
        low = m.low;
        there = (f.0, f.1, f.2);
        may = record {
          there = omega (arith, long);
          leaf_beside = any_at table.is_leaf (remove xs 0) (length others) l.0 (left_behind xs (length others) l.0 l.1) (is_leaf_arm l.0 (leaf_named l.0 last l.2 m.leaf));
          missed_none = (suc (length others), ((λ same. omega (arith, same)), omega (arith, long)), m.empty);
        };
      }

  -- what was reserved changes nothing of it
  pub lose_reserved : (others : List ArmName) (last : ArmName) (old now : Shard R A) → Reserves needs.Event old now → MayLoseOthers slot others last old → MayLoseOthers slot others last now
  lose_reserved others last old now r m = record {
    pass = same_nothing old.pass now.pass r.pass m.pass;
    low = subst (λ g. slot < g.spec.children) (sym r.slots.same.geometry_is) m.low;
    names = ap (λ arms. map name_of (slice_index_or arms slot [])) r.slots.arms_stay ∙ m.names;
    leaf = m.leaf;
    empty = λ group. r.logs.logs_stay (record { slot = slot; arm = length others }) group ∙ m.empty group;
  }

  -- the first has gone
  pub lose_left : (n : ArmName) (others : List ArmName) (last : ArmName) (old new : Shard R A) → Valid rack old → Leaves rack (record { slot = slot; arm = 0 }) n old new → MayLoseOthers slot (n ∷ others) last old
      → MayLoseOthers slot others last new
  lose_left n others last old new valid s m = record {
    pass = s.pass ∙ m.pass;
    low = subst (λ g. slot < g.spec.children) (sym (s.valid.slots.geometry_is ∙ (ap (λ (p : Part). p.geometry) s.does.part ∙ sym valid.slots.geometry_is))) m.low;
    names = names;
    leaf = m.leaf;
    empty = λ group.
        s.logs (record { slot = slot; arm = length others }) l.0.number (l.0, l.1, leaf_named l.0 last l.2 m.leaf, refl) group
        ∙ (ap (λ (p : ArmAt). is_logged old.slots p group) (place_behind slot (length others)) ∙ m.empty group);
  } where
    names : map name_of (arms_of new.slots slot) ≡ others ++ last ∷ []
    names =
        sym (plain_names (arms_of new.slots slot))
        ∙ (ap (map name_of) s.slots.here ∙ (names_left (plain_arms old.slots slot) ∙ ap behind_first (plain_names (arms_of old.slots slot) ∙ m.names)))

    l : (a : Arm) × (slice_get (arms_of new.slots slot) (length others) ≡ Some a) × (name_of a ≡ last)
    l = last_named (arms_of new.slots slot) others last names

  -- the last is alone
  pub lose_none : (last : ArmName) (shard : Shard R A) → MayLoseOthers slot [] last shard → IsAlone slot (number_of last) shard.slots
  lose_none last shard m = by last m.leaf (arms_of shard.slots slot) m.names
    where
      by : (n : ArmName) → is_leaf n ≡ true → (xs : List Arm) → map name_of xs ≡ n ∷ [] → (arm : Arm) × (xs ≡ arm ∷ []) × (arm.kind ≡ kind.Leaf) × (arm.number ≡ number_of n)
      by (Spare spare) leaf xs is = absurd_test false leaf refl
      by (Leaf leaf) is_one [] is = absurd (cc)
      by (Leaf leaf) is_one (x ∷ y ∷ ys) is = absurd (cc)
      by (Leaf leaf) is_one (x ∷ []) is =
          let parts = same_names x.kind kind.Leaf x.number leaf (ap (head_or (Leaf leaf)) is) in
          (x, refl, parts.0, parts.1)

  -- ---- by what is asked of the slots of each metaslab

  pub loses : (n : ArmName) (others : List ArmName) (last : ArmName) (first shard : Shard R A) → map name_of (arms_of first.slots slot) ≡ n ∷ (others ++ last ∷ []) → HaveSameArms first.slots shard.slots
      → slot < first.slots.geometry.spec.children → shard.pass ≡ None → HasOthers shard.slots slot → MayLoseOthers slot (n ∷ others) last shard
  loses n others last first shard names same low pass has = record {
    pass = pass;
    low = (let children = same.children in omega (arith, low, children));
    names = own;
    leaf = named_leaf l.0 last l.2 (ap (λ (a : Arm). a.kind) (sym (some_same (arm_at shard.slots place) has.leaf.1.0 l.0 (subst (λ (p : ArmAt). arm_at shard.slots p ≡ Some has.leaf.1.0) here has.leaf.1.1) l.1)) ∙ has.leaf.1.2);
    empty = λ group. ap (λ (p : ArmAt). is_logged shard.slots p group) (sym here) ∙ has.empty group;
  } where
    own : map name_of (arms_of shard.slots slot) ≡ n ∷ (others ++ last ∷ [])
    own = names_alike (arms_of first.slots slot) (arms_of shard.slots slot) (same.slots slot low) ∙ names

    place : ArmAt
    place = record { slot = slot; arm = suc (length others) }

    here : last_place shard.slots slot ≡ place
    here = last_is slot shard.slots (n ∷ others) last own

    l : (a : Arm) × (slice_get (arms_of shard.slots slot) (suc (length others)) ≡ Some a) × (name_of a ≡ last)
    l = last_named (arms_of shard.slots slot) (n ∷ others) last own
