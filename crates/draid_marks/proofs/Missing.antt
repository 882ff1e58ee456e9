-- The logs of marked arms get a group, one after another.
use Rattle.std.proofs.Common.{◌≡◌, ◌==◌, ◌+◌, ◌<◌, ◌≤◌, ◌||◌, ◌&&◌, not, ◌∙◌, ℕ, zero, suc, Bool, true, false, nat_lt, ◌⊎◌, List, [], ◌∷◌, arith, refl, sym, ap, subst, inl, inr, length, if◌then◌else◌}
use Rattle.std.specs.Prelude.{slice_index_or}
use Rattle.std.proofs.lemmas.Bool.{cases_lt, true≢false}
use Rattle.std.proofs.lemmas.Bool.Decides.{nat_tests}
use Rattle.draid_names.specs.declared.arm.Arm.{Arm}
use Rattle.draid_names.specs.declared.arm.ArmAt.{ArmAt}
use Rattle.draid_machine.proofs.Small.{below, equal, is_equal, true_both}
use Rattle.draid_slots.specs.Marks.{is_marked}
use Rattle.draid_slots.specs.Table.{SlotTable, IsTable, IsThere, arms_of, is_logged, room_at}
use Rattle.draid_marks.specs.Missed.{HaveRoom, MarksTable, Misses, is_marked_arm, is_marked_below}

-- ---- tests
or_none : (a b : Bool) → b ≡ false → (a || b) ≡ a
or_none true b e = refl
or_none false b e = e

twice : (a p q x : Bool) → ((a || (p && x)) || (q && x)) ≡ (a || ((p || q) && x))
twice true p q x = refl
twice false true q true = refl
twice false true true false = refl
twice false true false false = refl
twice false false q x = refl

room_on : (a p q : Bool) (x y z : ℕ) → x ≤ y + (if (a || p) && not a then 1 else 0) → y ≤ z + (if ((a || p) || q) && not (a || p) then 1 else 0) → x ≤ z + (if ((a || p) || q) && not a then 1 else 0)
room_on true p q x y z e f = omega (arith, e, f)
room_on false true q x y z e f = omega (arith, e, f)
room_on false false true x y z e f = omega (arith, e, f)
room_on false false false x y z e f = omega (arith, e, f)

-- ---- what misses a group

pub misses_none : (slots : SlotTable) (missed : ArmAt → Bool) (group : ℕ) → ((at : ArmAt) → missed at ≡ false) → Misses slots slots missed group
misses_none slots missed group none = record {
  same = record { geometry_is = refl; perms_are = refl; metaslab_is = refl };
  arms_stay = refl;
  logged = λ at g. sym (or_none (is_logged slots at g) (missed at && (g == group)) (ap (λ b. b && (g == group)) (none at)));
  detached_stay = refl;
  room = λ at. omega arith;
  next_stays = refl;
  places_stay = refl;
}

-- some arms and then others
pub misses_on : (a b c : SlotTable) (p q r : ArmAt → Bool) (group : ℕ) → Misses a b p group → Misses b c q group → ((at : ArmAt) → (p at || q at) ≡ r at) → Misses a c r group
misses_on a b c p q r group e f both = record {
  same = record {
    geometry_is = f.same.geometry_is ∙ e.same.geometry_is;
    perms_are = f.same.perms_are ∙ e.same.perms_are;
    metaslab_is = f.same.metaslab_is ∙ e.same.metaslab_is;
  };
  arms_stay = f.arms_stay ∙ e.arms_stay;
  logged = λ at g.
      f.logged at g ∙ ap (λ x. x || (q at && (g == group))) (e.logged at g)
      ∙ twice (is_logged a at g) (p at) (q at) (g == group) ∙ ap (λ x. is_logged a at g || (x && (g == group))) (both at);
  detached_stay = f.detached_stay ∙ e.detached_stay;
  room = λ at. room at (is_logged b at group) (is_logged c at group) (e.logged at group) (f.logged at group) (e.room at) (f.room at);
  next_stays = f.next_stays ∙ e.next_stays;
  places_stay = f.places_stay ∙ e.places_stay;
} where
  room : (at : ArmAt) (mid new : Bool) → mid ≡ (is_logged a at group || (p at && (group == group))) → new ≡ (mid || (q at && (group == group)))
      → room_at a at ≤ room_at b at + (if mid && not (is_logged a at group) then 1 else 0) → room_at b at ≤ room_at c at + (if new && not mid then 1 else 0)
      → room_at a at ≤ room_at c at + (if new && not (is_logged a at group) then 1 else 0)
  room at mid new m n x y =
      subst (λ b. room_at a at ≤ room_at c at + (if b && not (is_logged a at group) then 1 else 0)) (sym (n ∙ ap (λ b. b || (q at && (group == group))) m))
      (room_on (is_logged a at group) (p at && (group == group)) (q at && (group == group)) (room_at a at) (room_at b at) (room_at c at)
      (subst (λ t. room_at a at ≤ room_at b at + (if t && not (is_logged a at group) then 1 else 0)) m x)
      (subst (λ t. room_at b at ≤ room_at c at + (if (t || (q at && (group == group))) && not t then 1 else 0)) m (subst (λ t. room_at b at ≤ room_at c at + (if t && not mid then 1 else 0)) n y)))

-- room is left for the group in the logs that lack it
pub room_stays : (old new : SlotTable) (missed arms : ArmAt → Bool) (group : ℕ) → Misses old new missed group → HaveRoom old arms group → HaveRoom new arms group
room_stays old new missed arms group m room = λ at there among out.
    by at (is_logged old at group) refl (subst (λ list. at.arm < length (slice_index_or list at.slot [])) m.arms_stay there) among out (m.room at)
  where
    kept_out : (at : ArmAt) → is_logged old at group ≡ true → is_logged new at group ≡ false → ⊥
    kept_out at was out = true≢false (sym (m.logged at group ∙ ap (λ b. b || (missed at && (group == group))) was) ∙ out)

    by : (at : ArmAt) (was : Bool) → is_logged old at group ≡ was → IsThere old at → arms at ≡ true → is_logged new at group ≡ false
        → room_at old at ≤ room_at new at + (if is_logged new at group && not (is_logged old at group) then 1 else 0) → 0 < room_at new at
    by at true is there among out less = absurd (kept_out at is out)
    by at false is there among out less =
        let some = room at there among is in
        let same : room_at old at ≤ room_at new at + 0 = subst (λ b. room_at old at ≤ room_at new at + (if b && not (is_logged old at group) then 1 else 0)) out less in
        omega (arith, some, same)

-- and in that of a marked arm that comes next
pub room_here : (old new : SlotTable) (marks : List Bool) (slot arm group : ℕ) → Misses old new (is_marked_below marks slot arm) group
    → HaveRoom old (λ at. (at.slot == slot) && slice_index_or marks at.arm false) group → arm < length (arms_of old slot) → slice_index_or marks arm false ≡ true
    → is_logged new (record { slot = slot; arm = arm }) group ≡ false → 0 < room_at new (record { slot = slot; arm = arm })
room_here old new marks slot arm group m room less marked out =
    room_stays old new (is_marked_below marks slot arm) (λ at. (at.slot == slot) && slice_index_or marks at.arm false) group m room (record { slot = slot; arm = arm })
    (subst (λ list. arm < length (slice_index_or list slot [])) (sym m.arms_stay) less) (true_both (slot == slot) (slice_index_or marks arm false) (equal slot slot refl) marked) out

none_below : (k : ℕ) → nat_lt k 0 ≡ false
none_below k = grind (arith, nat_tests)

-- ---- the arms of a slot
pub arms_none : (slots : SlotTable) (marks : List Bool) (slot group : ℕ) → Misses slots slots (is_marked_below marks slot 0) group
arms_none slots marks slot group = misses_none slots (is_marked_below marks slot 0) group (λ at. none (at.slot == slot) (slice_index_or marks at.arm false) at.arm)
  where
    none : (a b : Bool) (k : ℕ) → ((a && nat_lt k 0) && b) ≡ false
    none true b k = ap (λ x. x && b) (none_below k)
    none false b k = refl

-- ---- the slots

-- the marked arms of the slots below one
abbrev pub is_marked_to : SlotTable → List (List Bool) → ℕ → ArmAt → Bool
is_marked_to slots marks slot at = nat_lt at.slot slot && is_marked_arm slots marks at

pub below_none : (slots : SlotTable) (marks : List (List Bool)) (group : ℕ) → Misses slots slots (is_marked_to slots marks 0) group
below_none slots marks group = misses_none slots (is_marked_to slots marks 0) group (λ at. ap (λ x. x && is_marked_arm slots marks at) (none_below at.slot))

pub below_more : (old mid new : SlotTable) (marks : List (List Bool)) (one : List Bool) (slot group : ℕ) → one ≡ slice_index_or marks slot [] → Misses old mid (is_marked_to old marks slot) group
    → Misses mid new (is_marked_below one slot (length (arms_of mid slot))) group → Misses old new (is_marked_to old marks (slot + 1)) group
below_more old mid new marks one slot group is before here =
    misses_on old mid new (is_marked_to old marks slot) (is_marked_below one slot (length (arms_of mid slot))) (is_marked_to old marks (slot + 1)) group before here
    (λ at. by at (at.slot == slot) refl)
  where
    beside : (k n : ℕ) → (k == n) ≡ false → nat_lt k (n + 1) ≡ nat_lt k n
    beside k n other = grind (arith, nat_tests, other)

    at_end : (n : ℕ) → nat_lt n n ≡ false
    at_end n = grind (arith, nat_tests)

    past_end : (n : ℕ) → nat_lt n (n + 1) ≡ true
    past_end n = grind (arith, nat_tests)

    by : (at : ArmAt) (b : Bool) → (at.slot == slot) ≡ b
        → ((nat_lt at.slot slot && is_marked_arm old marks at) || (((at.slot == slot) && nat_lt at.arm (length (arms_of mid slot))) && slice_index_or one at.arm false))
        ≡ (nat_lt at.slot (slot + 1) && is_marked_arm old marks at)
    by at true here_is =
        let here : at.slot ≡ slot = is_equal at.slot slot here_is in
        let count : length (arms_of mid slot) ≡ length (arms_of old at.slot) = λ i. length (slice_index_or (before.arms_stay i) (sym here i) []) in
        let mark : slice_index_or one at.arm false ≡ is_marked marks at.slot at.arm = λ i. slice_index_or ((is ∙ ap (λ s. slice_index_or marks s []) (sym here)) i) at.arm false in
        (λ i. ((ap (λ k. nat_lt k slot) here ∙ at_end slot) i && is_marked_arm old marks at) || ((here_is i && nat_lt at.arm (count i)) && mark i))
        ∙ sym (ap (λ x. x && is_marked_arm old marks at) (ap (λ k. nat_lt k (slot + 1)) here ∙ past_end slot))
    by at false other =
        ap (λ x. (nat_lt at.slot slot && is_marked_arm old marks at) || ((x && nat_lt at.arm (length (arms_of mid slot))) && slice_index_or one at.arm false)) other
        ∙ or_none (nat_lt at.slot slot && is_marked_arm old marks at) false refl
        ∙ sym (ap (λ x. x && is_marked_arm old marks at) (beside at.slot slot other))

-- all slots, or none where nothing was written
pub slot_inside : (table : SlotTable) (at : ArmAt) → IsTable table → at.arm < length (arms_of table at.slot) → at.slot < table.geometry.spec.children
slot_inside table at is there = by (cases_lt at.slot (length table.arms))
  where
    beyond : (xs : List (List Arm)) (k : ℕ) → length xs ≤ k → length (slice_index_or xs k []) ≡ 0
    beyond [] k far = refl
    beyond (x ∷ xs) zero far = absurd (omega (arith, far))
    beyond (x ∷ xs) (suc k) far = beyond xs k (omega (arith, far))

    by : (at.slot < length table.arms) ⊎ (length table.arms ≤ at.slot) → at.slot < table.geometry.spec.children
    by (inl less) = let n = is.slots.children in omega (arith, less, n)
    by (inr far) = absurd (let none = beyond table.arms at.slot far in omega (arith, none, there))

pub table_all : (old new : SlotTable) (marks : List (List Bool)) (slot group : ℕ) → IsTable old → slot ≡ old.geometry.spec.children → Misses old new (is_marked_to old marks slot) group → MarksTable old new marks true group
table_all old new marks slot group is all m = record {
  same = m.same;
  arms_stay = m.arms_stay;
  logged = λ at g. m.logged at g ∙ ap (λ x. is_logged old at g || (x && (g == group))) (by at (nat_lt at.arm (length (arms_of old at.slot))) refl);
  detached_stay = m.detached_stay;
  room = m.room;
  next_stays = m.next_stays;
  places_stay = m.places_stay;
}
  where
    reached : (k n : ℕ) → nat_lt k n ≡ true → k < n
    reached k n less = grind (arith, nat_tests, less)

    none : (a : Bool) → (a && false) ≡ false
    none true = refl
    none false = refl

    by : (at : ArmAt) (b : Bool) → nat_lt at.arm (length (arms_of old at.slot)) ≡ b → (nat_lt at.slot slot && is_marked_arm old marks at) ≡ is_marked_arm old marks at
    by at true there =
        ap (λ x. x && is_marked_arm old marks at) (below at.slot slot (subst (λ n. at.slot < n) (sym all) (slot_inside old at is (reached at.arm (length (arms_of old at.slot)) there))))
    by at false gone =
        let off : is_marked_arm old marks at ≡ false = ap (λ x. x && is_marked marks at.slot at.arm) gone in
        ap (λ x. nat_lt at.slot slot && x) off ∙ none (nat_lt at.slot slot) ∙ sym off

pub table_none : (slots : SlotTable) (marks : List (List Bool)) (group : ℕ) → MarksTable slots slots marks false group
table_none slots marks group = misses_none slots (λ at. false) group (λ at. refl)
