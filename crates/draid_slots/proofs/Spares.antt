-- No spare stands in two slots, after each change of arms.
use Rattle.std.proofs.Common.{◌≡◌, ℕ, zero, suc, ◌+◌, ◌<◌, Bool, true, false, List, [], ◌∷◌, ◌++◌, length, get_or, set, arith, refl, ap, sym, ◌∙◌, subst, inl, inr}
use Rattle.std.specs.Prelude.{All, cond, filter, remove, ◌==◌, ◌&&◌, ◌||◌, ◌⊎◌}
use Rattle.std.specs.List.{list_any}
use Rattle.std.proofs.lemmas.Bool.{cases_eq, cases_lt, false≢true}
use Rattle.std.proofs.Math.ListN.{get_or-eq_default}
use Rattle.std.proofs.lemmas.Bool.Decides.{nat_tests}
use Rattle.std.proofs.lemmas.List.{get_or-set_same, get_or-set_other, length-set, length-append, get_or_default}
use Rattle.std.proofs.lemmas.List.Edits.{length-remove, get_or-remove_below, get_or-remove_above}
use Rattle.std.proofs.lemmas.List.Elements.{All-append, All-set}
use Rattle.std.proofs.lemmas.List.Folds.{list_any-append, list_any_at}
use Rattle.draid_names.specs.declared.arm.Arm.{Arm}
use Rattle.draid_spec.specs.declared.layout.Geometry.{Geometry}
use Rattle.draid_slots.specs.declared.slot.Detached.{Detached}
use Rattle.draid_slots.specs.Changes.{new_arm}
use Rattle.draid_slots.specs.Table.{AreSlots, IsSlot, has_leaf, has_spare, holds_in, is_leaf, is_spare_kind, is_spare_of, was_spare_of}
use Rattle.draid_slots.proofs.Mapped.{one}

either : (P : Type 0) (a b : Bool) → (a || b) ≡ true → (a ≡ true → P) → (b ≡ true → P) → P
either P true b h f g = f refl
either P false b h f g = g h

left : (a b : Bool) → a ≡ true → (a || b) ≡ true
left true b h = refl
left false b h = absurd (false≢true h)

right : (a b : Bool) → b ≡ true → (a || b) ≡ true
right true b h = refl
right false b h = h

any_filtered : (p q : Detached → Bool) (xs : List Detached) → list_any p (filter q xs) ≡ true → list_any p xs ≡ true
any_filtered p q [] h = h
any_filtered p q (x ∷ xs) h = by_test (any_filtered p q xs) (q x) h
  where
    by_test : (list_any p (filter q xs) ≡ true → list_any p xs ≡ true) → (b : Bool) → list_any p (cond b (x ∷ filter q xs) (filter q xs)) ≡ true → (p x || list_any p xs) ≡ true
    by_test rest true h' = either ((p x || list_any p xs) ≡ true) (p x) (list_any p (filter q xs)) h' (left (p x) (list_any p xs)) (λ r. right (p x) (list_any p xs) (rest r))
    by_test rest false h' = right (p x) (list_any p xs) (rest h')

-- where less is held, what stands once stands once
pub fewer : (geometry : Geometry) (arms : List (List Arm)) (old new : List Detached) → ((spare slot : ℕ) → holds_in arms new spare slot ≡ true → holds_in arms old spare slot ≡ true)
    → AreSlots geometry arms old → AreSlots geometry arms new
fewer geometry arms old new less are =
    record { children = are.children; each = are.each; once = λ spare slot other h g. are.once spare slot other (less spare slot h) (less spare other g) }

pub later_only : (geometry : Geometry) (arms : List (List Arm)) (detached : List Detached) (q : Detached → Bool) → AreSlots geometry arms detached → AreSlots geometry arms (filter q detached)
later_only geometry arms detached q are =
    fewer geometry arms detached (filter q detached)
    (λ spare slot h. either (holds_in arms detached spare slot ≡ true) (has_spare (get_or arms slot []) spare) (was_spare_of (filter q detached) spare slot) h
    (left (has_spare (get_or arms slot []) spare) (was_spare_of detached spare slot))
    (λ r. right (has_spare (get_or arms slot []) spare) (was_spare_of detached spare slot) (any_filtered _ q detached r)))
    are

-- ---- one more arm

any_last : (p : Arm → Bool) (xs : List Arm) (a : Arm) → list_any p (xs ++ a ∷ []) ≡ true → (list_any p xs ≡ true) ⊎ (p a ≡ true)
any_last p xs a h =
    either ((list_any p xs ≡ true) ⊎ (p a ≡ true)) (list_any p xs) (p a || false) (sym (list_any-append p xs (a ∷ [])) ∙ h) inl
    (λ t. inr (either (p a ≡ true) (p a) false t (λ y. y) (λ f. absurd (false≢true f))))

spare_test : (spare : ℕ) (arm : Arm) → is_spare_of spare arm ≡ true → (is_spare_kind arm.kind ≡ true) × (arm.number ≡ spare)
spare_test spare arm h = (grind (arith, nat_tests), grind (arith, nat_tests))

-- what a slot holds with one more arm
held_more : (arms : List (List Arm)) (detached : List Detached) (slot : ℕ) (arm : Arm) → slot < length arms → (spare other : ℕ)
    → holds_in (set arms slot (get_or arms slot [] ++ arm ∷ [])) detached spare other ≡ true → (holds_in arms detached spare other ≡ true) ⊎ ((other ≡ slot) × (is_spare_of spare arm ≡ true))
held_more arms detached slot arm l spare other h = elim (cases_eq other slot) [
  | inl same ↦
      let here : get_or (set arms slot (get_or arms slot [] ++ arm ∷ [])) other [] ≡ get_or arms slot [] ++ arm ∷ [] =
      ap (λ j. get_or (set arms slot (get_or arms slot [] ++ arm ∷ [])) j []) same ∙ get_or-set_same arms slot _ [] l in
      let R = (holds_in arms detached spare other ≡ true) ⊎ ((other ≡ slot) × (is_spare_of spare arm ≡ true)) in
      either R (has_spare (get_or arms slot [] ++ arm ∷ []) spare) (was_spare_of detached spare other)
      (ap (λ xs. has_spare xs spare || was_spare_of detached spare other) (sym here) ∙ h)
      (λ t. elim (any_last (is_spare_of spare) (get_or arms slot []) arm t) [
        | inl before ↦ inl (left _ _ (ap (λ j. has_spare (get_or arms j []) spare) same ∙ before))
        | inr it ↦ inr (same, it)
      ])
      (λ t. inl (right (has_spare (get_or arms other []) spare) _ t))
  | inr differs ↦ inl (ap (λ xs. has_spare xs spare || was_spare_of detached spare other) (sym (get_or-set_other arms slot other _ [] differs)) ∙ h)
]

more_slot : (spares : ℕ) (xs : List Arm) (arm : Arm) → IsSlot spares xs → length xs < 3 → (is_spare_kind arm.kind ≡ true → arm.number < spares) → IsSlot spares (xs ++ arm ∷ [])
more_slot spares xs arm is short pooled =
    record {
      most = omega (arith, short, length-append xs (arm ∷ []));
      leaf = list_any-append is_leaf xs (arm ∷ []) ∙ left (has_leaf xs) _ is.leaf;
      pooled = All-append (λ (arm : Arm). is_spare_kind arm.kind ≡ true → arm.number < spares) xs (arm ∷ []) is.pooled (one (λ (arm : Arm). is_spare_kind arm.kind ≡ true → arm.number < spares) arm pooled);
    }

pub one_more : (geometry : Geometry) (arms : List (List Arm)) (detached : List Detached) (slot : ℕ) (arm : Arm) → slot < length arms → length (get_or arms slot []) < 3
    → (is_spare_kind arm.kind ≡ true → arm.number < geometry.spec.spares) → (is_spare_kind arm.kind ≡ true → (other : ℕ) → holds_in arms detached arm.number other ≡ false)
    → AreSlots geometry arms detached → AreSlots geometry (set arms slot (get_or arms slot [] ++ arm ∷ [])) detached
one_more geometry arms detached slot arm l short pooled idle are =
    record {
      children = length-set arms slot _ ∙ are.children;
      each = All-set (IsSlot geometry.spec.spares) arms slot _ (more_slot geometry.spec.spares (get_or arms slot []) arm (are.each slot [] l) short pooled) are.each;
      once = λ spare a b h g. elim (held_more arms detached slot arm l spare a h) [
        | inl a_held ↦ elim (held_more arms detached slot arm l spare b g) [
          | inl b_held ↦ are.once spare a b a_held b_held
          | inr b_new ↦ absurd (none spare a b_new.1 a_held)
        ]
        | inr a_new ↦ elim (held_more arms detached slot arm l spare b g) [
          | inl b_held ↦ absurd (none spare b a_new.1 b_held)
          | inr b_new ↦ a_new.0 ∙ sym b_new.0
        ]
      ];
    } where
      none : (spare other : ℕ) → is_spare_of spare arm ≡ true → holds_in arms detached spare other ≡ true → ⊥
      none spare other it held =
          let parts = spare_test spare arm it in
          false≢true (sym (idle parts.0 other) ∙ ap (λ n. holds_in arms detached n other) parts.1 ∙ held)

-- with one more arm no spare that is an arm was another slot's
pub more_once : (geometry : Geometry) (arms : List (List Arm)) (detached : List Detached) (slot : ℕ) (arm : Arm) → slot < length arms
    → (is_spare_kind arm.kind ≡ true → (other : ℕ) → holds_in arms detached arm.number other ≡ false) → AreSlots geometry arms detached → (spare a b : ℕ)
    → has_spare (get_or (set arms slot (get_or arms slot [] ++ arm ∷ [])) a []) spare ≡ true → has_spare (get_or arms b []) spare ≡ true → b ≡ a
more_once geometry arms detached slot arm l idle are spare a b h g =
    let b_held : holds_in arms detached spare b ≡ true = left (has_spare (get_or arms b []) spare) _ g in
    elim (held_more arms detached slot arm l spare a (left (has_spare (get_or (set arms slot (get_or arms slot [] ++ arm ∷ [])) a []) spare) _ h)) [
      | inl a_held ↦ are.once spare b a b_held a_held
      | inr a_new ↦
          let parts = spare_test spare arm a_new.1 in
          absurd (false≢true (sym (idle parts.0 b) ∙ ap (λ n. holds_in arms detached n b) parts.1 ∙ b_held))
    ]

-- ---- one arm less

any_removed : (p : Arm → Bool) (xs : List Arm) (k : ℕ) → list_any p (remove xs k) ≡ true → list_any p xs ≡ true
any_removed p [] zero h = h
any_removed p [] (suc k) h = h
any_removed p (x ∷ xs) zero h = right (p x) (list_any p xs) h
any_removed p (x ∷ xs) (suc k) h = either ((p x || list_any p xs) ≡ true) (p x) (list_any p (remove xs k)) h (left (p x) (list_any p xs)) (λ r. right (p x) (list_any p xs) (any_removed p xs k r))

any_gone : (p : Detached → Bool) (xs : List Detached) (a : Detached) → list_any p (xs ++ a ∷ []) ≡ true → (list_any p xs ≡ true) ⊎ (p a ≡ true)
any_gone p xs a h =
    either ((list_any p xs ≡ true) ⊎ (p a ≡ true)) (list_any p xs) (p a || false) (sym (list_any-append p xs (a ∷ [])) ∙ h) inl
    (λ t. inr (either (p a ≡ true) (p a) false t (λ y. y) (λ f. absurd (false≢true f))))

abbrev pub gone_of : Arm → ℕ → ℕ → Detached
gone_of arm slot group = record { kind = arm.kind; number = arm.number; slot = slot; group = group; offline = arm.offline }

gone_test : (arm : Arm) (slot group spare other : ℕ) → (is_spare_kind arm.kind && ((arm.number == spare) && (slot == other))) ≡ true → (slot ≡ other) × (is_spare_of spare arm ≡ true)
gone_test arm slot group spare other h = (grind (arith, nat_tests), grind (arith, nat_tests))

held_less : (arms : List (List Arm)) (detached : List Detached) (slot k group : ℕ) (arm : Arm) → slot < length arms → k < length (get_or arms slot []) → arm ≡ get_or (get_or arms slot []) k arm
    → (spare other : ℕ) → holds_in (set arms slot (remove (get_or arms slot []) k)) (detached ++ gone_of arm slot group ∷ []) spare other ≡ true → holds_in arms detached spare other ≡ true
held_less arms detached slot k group arm l there is spare other h =
    either (holds_in arms detached spare other ≡ true) (has_spare (get_or (set arms slot (remove (get_or arms slot []) k)) other []) spare) _ h
    (λ t. elim (cases_eq other slot) [
      | inl same ↦
          let here : get_or (set arms slot (remove (get_or arms slot []) k)) other [] ≡ remove (get_or arms slot []) k =
          ap (λ j. get_or (set arms slot (remove (get_or arms slot []) k)) j []) same ∙ get_or-set_same arms slot _ [] l in
          left _ _ (ap (λ j. has_spare (get_or arms j []) spare) same ∙ any_removed (is_spare_of spare) (get_or arms slot []) k (ap (λ xs. has_spare xs spare) (sym here) ∙ t))
      | inr differs ↦ left _ _ (ap (λ xs. has_spare xs spare) (sym (get_or-set_other arms slot other _ [] differs)) ∙ t)
    ])
    (λ t. elim (any_gone _ detached (gone_of arm slot group) t) [
      | inl before ↦ right (has_spare (get_or arms other []) spare) _ before
      | inr it ↦
          let parts = gone_test arm slot group spare other it in
          left _ _ (ap (λ j. has_spare (get_or arms j []) spare) (sym parts.0)
          ∙ list_any_at (is_spare_of spare) (get_or arms slot []) k arm there (ap (is_spare_of spare) (sym is) ∙ parts.1))
    ])

less_slot : (spares : ℕ) (xs : List Arm) (k : ℕ) → IsSlot spares xs → k < length xs → has_leaf (remove xs k) ≡ true → IsSlot spares (remove xs k)
less_slot spares xs k is there leaf =
    record {
      most = (let most = is.most in omega (arith, most, length-remove xs k there));
      leaf = leaf;
      pooled = λ j d below. elim (cases_lt j k) [
        | inl before ↦
            let P : Arm → Type 0 = λ arm. is_spare_kind arm.kind ≡ true → arm.number < spares in
            subst P (sym (get_or-remove_below xs k d j before there)) (is.pooled j d (omega arith))
        | inr behind ↦
            let P : Arm → Type 0 = λ arm. is_spare_kind arm.kind ≡ true → arm.number < spares in
            subst P (sym (get_or-remove_above xs k d j behind there)) (is.pooled (j + 1) d (omega (arith, below, length-remove xs k there)))
      ];
    }

pub one_less : (geometry : Geometry) (arms : List (List Arm)) (detached : List Detached) (slot k group : ℕ) (arm : Arm) → slot < length arms → k < length (get_or arms slot [])
    → arm ≡ get_or (get_or arms slot []) k arm → has_leaf (remove (get_or arms slot []) k) ≡ true
    → AreSlots geometry arms detached → AreSlots geometry (set arms slot (remove (get_or arms slot []) k)) (detached ++ gone_of arm slot group ∷ [])
one_less geometry arms detached slot k group arm l there is leaf are =
    record {
      children = length-set arms slot _ ∙ are.children;
      each = All-set (IsSlot geometry.spec.spares) arms slot _ (less_slot geometry.spec.spares (get_or arms slot []) k (are.each slot [] l) there leaf) are.each;
      once = λ spare a b h g. are.once spare a b (held_less arms detached slot k group arm l there is spare a h) (held_less arms detached slot k group arm l there is spare b g);
    }

pub less_once : (geometry : Geometry) (arms : List (List Arm)) (detached : List Detached) (slot k group : ℕ) (arm : Arm) → slot < length arms → k < length (get_or arms slot [])
    → arm ≡ get_or (get_or arms slot []) k arm → AreSlots geometry arms detached → (spare a b : ℕ)
    → has_spare (get_or (set arms slot (remove (get_or arms slot []) k)) a []) spare ≡ true → has_spare (get_or arms b []) spare ≡ true → b ≡ a
less_once geometry arms detached slot k group arm l there is are spare a b h g =
    are.once spare b a (left (has_spare (get_or arms b []) spare) _ g)
    (held_less arms detached slot k group arm l there is spare a (left (has_spare (get_or (set arms slot (remove (get_or arms slot []) k)) a []) spare) _ h))

-- ---- spares that other slots have

spare_below : (spares : ℕ) (arms : List Arm) (spare : ℕ) → All (λ (arm : Arm). is_spare_kind arm.kind ≡ true → arm.number < spares) arms → has_spare arms spare ≡ true → spare < spares
spare_below spares [] spare all h = absurd (false≢true h)
spare_below spares (arm ∷ arms) spare all h =
    either (spare < spares) (is_spare_of spare arm) (has_spare arms spare) h
    (λ t. (let parts = spare_test spare arm t in let below = all 0 arm (omega arith) parts.0 in let same = parts.1 in omega arith))
    (λ r. spare_below spares arms spare (λ k d below. all (suc k) d (omega arith)) r)

pub spares_below : (geometry : Geometry) (arms : List (List Arm)) (detached : List Detached) (slot spare : ℕ) → AreSlots geometry arms detached → has_spare (get_or arms slot []) spare ≡ true → spare < geometry.spec.spares
spares_below geometry arms detached slot spare are h = elim (cases_lt slot (length arms)) [
  | inl within ↦ (let is = are.each slot [] within in spare_below geometry.spec.spares (get_or arms slot []) spare is.pooled h)
  | inr past ↦ absurd (false≢true (ap (λ xs. has_spare xs spare) (sym (get_or-eq_default arms [] past)) ∙ h))
]

pub held_left : (arms : List (List Arm)) (detached : List Detached) (spare slot : ℕ) → has_spare (get_or arms slot []) spare ≡ true → holds_in arms detached spare slot ≡ true
held_left arms detached spare slot h = left (has_spare (get_or arms slot []) spare) (was_spare_of detached spare slot) h

pub held_right : (arms : List (List Arm)) (detached : List Detached) (spare slot : ℕ) → was_spare_of detached spare slot ≡ true → holds_in arms detached spare slot ≡ true
held_right arms detached spare slot h = right (has_spare (get_or arms slot []) spare) (was_spare_of detached spare slot) h

pub held_neither : (arms : List (List Arm)) (detached : List Detached) (spare slot : ℕ) → has_spare (get_or arms slot []) spare ≡ false → was_spare_of detached spare slot ≡ false
    → holds_in arms detached spare slot ≡ false
held_neither arms detached spare slot none gone = rw (none, gone) refl

-- ---- a new pool's slots

new_slot : (spares number : ℕ) → IsSlot spares (new_arm number ∷ [])
new_slot spares number =
    record {
      most = omega arith;
      leaf = refl;
      pooled = one (λ (arm : Arm). is_spare_kind arm.kind ≡ true → arm.number < spares) (new_arm number) (λ h. absurd (false≢true h));
    }

pub new_slots : (geometry : Geometry) (arms : List (List Arm)) → length arms ≡ geometry.spec.children
    → ((slot : ℕ) → slot < geometry.spec.children → get_or arms slot [] ≡ new_arm slot ∷ []) → AreSlots geometry arms []
new_slots geometry arms many are =
    record {
      children = many;
      each = λ k d below. (let S : List Arm → Type 0 = λ xs. IsSlot geometry.spec.spares xs in
          subst S (sym (get_or_default arms k d [] below ∙ are k (omega arith))) (new_slot geometry.spec.spares k));
      once = λ spare slot other h g. absurd (none spare slot h);
    } where
      none : (spare slot : ℕ) → holds_in arms [] spare slot ≡ true → ⊥
      none spare slot h = elim (cases_lt slot (length arms)) [
        | inl within ↦ false≢true (ap (λ xs. has_spare xs spare || was_spare_of [] spare slot) (sym (are slot (omega arith))) ∙ h)
        | inr past ↦ false≢true (ap (λ xs. has_spare xs spare || was_spare_of [] spare slot) (sym (get_or-eq_default arms [] past)) ∙ h)
      ]
