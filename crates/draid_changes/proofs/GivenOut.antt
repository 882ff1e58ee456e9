-- Spares are given to due slots, one after another.
use Rattle.std.proofs.Common.{◌≡◌, ◌==◌, ◌||◌, ◌<◌, ◌≤◌, ◌+◌, ◌++◌, ◌∙◌, ◌⊎◌, inl, inr, not, [], ◌∷◌, ℕ, zero, suc, Bool, true, false, List, Option, Some, None, Contains, arith, refl, sym, ap, subst, length, take, append_assoc}
use Rattle.std.specs.Prelude.{filter, slice_get}
use Rattle.std.proofs.lemmas.Bool.{cases_eq}
use Rattle.std.proofs.lemmas.List.{append-nil, length-append, length-map, take_all, take_more}
use Rattle.std.proofs.lemmas.List.Elements.{Contains-append_cases, Contains-append_left, Contains-push}
use Rattle.std.proofs.lemmas.List.Folds.{list_any-append}
use Rattle.std.proofs.lemmas.Option.{get_or_from_slice_get, slice_get_within}
use Rattle.draid_names.specs.declared.arm.Arm.{Arm}
use Rattle.draid_names.specs.declared.arm.ArmKind.TheVariants as kind
use Rattle.draid_names.specs.declared.journal.Did.{Did}
use Rattle.draid_names.specs.declared.journal.Did.TheVariants.{NoneFree, Spared}
use Rattle.draid_names.specs.declared.journal.Entry.{Entry}
use Rattle.draid_spec.specs.declared.layout.Geometry.{Geometry}
use Rattle.draid_perm.specs.declared.perms.Perms.{Perms}
use Rattle.draid_rack.specs.declared.Rack as racks
use Rattle.draid_area.specs.declared.Area as areas
use Rattle.draid_machine.proofs.Small.{absurd_test, either_true, is_equal, true_left, true_right}
use Rattle.draid_slots.specs.Faults.{MayAttach}
use Rattle.draid_slots.specs.Table.{SlotTable, arms_of, has_spare, is_spare_of, was_spare_of}
use Rattle.draid_slots.specs.declared.slot.Detached.{Detached}
use Rattle.draid_shard.specs.declared.shard.Shard.{Shard}
use Rattle.draid_shard.proofs.Among.{has_cases, has_nothing}
use Rattle.draid_agent.specs.declared.states.Due.{Due}
use Rattle.draid_disks.specs.Checks.{Each}
use Rattle.draid_disks.specs.Disks.{HasAttached, arm_called, plain, plain_arms}
use Rattle.draid_session.specs.Agent.{AttachesAll, WasGiven}
use Rattle.draid_session.specs.Holds.{Hold}
use Rattle.draid_session.specs.Phases.{Chain, Went}
use Rattle.draid_session.specs.State.{State}
use Rattle.draid_pool.specs.Carries.{CarriesOut}
use Rattle.draid_pool.specs.Pools.{Represents}
use Rattle.draid_pool.specs.Syncing.{Phase}
use Rattle.draid_pool.specs.declared.pool.Pool.{Pool}
use Rattle.draid_pool.proofs.Steps.{carried, carries_so}
use Rattle.draid_pool.proofs.SyncCalls.{then_phase}
use Rattle.draid_changes.specs.Dues.{AreFree, IsIdleIn}
use Rattle.draid_changes.specs.Giving.{AllGet, AllMayTake, GaveAll, GaveOne, GetsOf, GivesOne, GivesTo, HaveRoom, IsFor, SlotsAscend}
use Rattle.draid_changes.specs.Walks.{ChangedBelow}
use Rattle.draid_changes.proofs.Coming.{has_spare_plain}
use Rattle.draid_changes.proofs.Frees.{ascends_below, free_less, free_still, given_before, given_last}
use Rattle.draid_changes.proofs.Walk.{changed_at}

-- ---- the arms of one metaslab

-- what became of a metaslab's arms as these were given
pub record TookGiven (given : List Entry) (old new : SlotTable) : Type 0 where
  pub layout : new.geometry ≡ old.geometry
  pub others : (slot : ℕ) → ((e : Entry) → Contains given e → e.slot ≡ slot → ⊥) → plain_arms new slot ≡ plain_arms old slot
  pub spares : (slot spare : ℕ) → has_spare (arms_of new slot) spare ≡ true → (has_spare (arms_of old slot) spare ≡ true) ⊎ WasGiven spare given
  pub detached_stay : new.detached ≡ old.detached

took_none : (slots : SlotTable) → TookGiven [] slots slots
took_none slots = record { layout = refl; others = λ slot none. refl; spares = λ slot spare has. inl has; detached_stay = refl }

took_still : (given : List Entry) (e : Entry) (old new : SlotTable) → TookGiven given old new → TookGiven (given ++ e ∷ []) old new
took_still given e old new took = record {
  layout = took.layout;
  others = λ slot none. took.others slot (λ f among. none f (Contains-append_left given (e ∷ []) f among));
  spares = λ slot spare has. elim (took.spares slot spare has) [ inl was ↦ inl was | inr before ↦ inr (given_before spare given e before) ];
  detached_stay = took.detached_stay;
}

-- an arm that came is the spare
came_or_was : (arms : List Arm) (spare other : ℕ) → has_spare (arms ++ arm_called kind.Spare spare ∷ []) other ≡ true → (has_spare arms other ≡ true) ⊎ (spare ≡ other)
came_or_was arms spare other has =
    elim (either_true (has_spare arms other) (has_spare (arm_called kind.Spare spare ∷ []) other) (sym (list_any-append (is_spare_of other) arms (arm_called kind.Spare spare ∷ [])) ∙ has)) [
      | inl was ↦ inl was
      | inr came ↦ elim (either_true (spare == other) false came) [
        | inl same ↦ inr (is_equal spare other same)
        | inr none ↦ absurd_test false none refl
      ]
    ]

took_more : (given : List Entry) (e : Entry) (spare : ℕ) (old mid new : SlotTable) → e.did ≡ Spared spare → TookGiven given old mid → new.geometry ≡ mid.geometry → HasAttached mid new e.slot (arm_called kind.Spare spare)
    → TookGiven (given ++ e ∷ []) old new
took_more given e spare old mid new did took layout came = record {
  layout = layout ∙ took.layout;
  others = λ slot none. came.others slot (λ same. none e (Contains-push given e) (sym same)) ∙ took.others slot (λ f among. none f (Contains-append_left given (e ∷ []) f among));
  spares = λ slot other has. was slot other (has_spare_plain other (arms_of new slot) ∙ has);
  detached_stay = came.detached_stay ∙ took.detached_stay;
}
  where
    wider : (slot other : ℕ) → (has_spare (arms_of old slot) other ≡ true) ⊎ WasGiven other given → (has_spare (arms_of old slot) other ≡ true) ⊎ WasGiven other (given ++ e ∷ [])
    wider slot other (inl had) = inl had
    wider slot other (inr before) = inr (given_before other given e before)

    before_it : (slot other : ℕ) → has_spare (plain_arms mid slot) other ≡ true → (has_spare (arms_of old slot) other ≡ true) ⊎ WasGiven other (given ++ e ∷ [])
    before_it slot other has = wider slot other (took.spares slot other (sym (has_spare_plain other (arms_of mid slot)) ∙ has))

    was : (slot other : ℕ) → has_spare (plain_arms new slot) other ≡ true → (has_spare (arms_of old slot) other ≡ true) ⊎ WasGiven other (given ++ e ∷ [])
    was slot other has = elim (cases_eq slot e.slot) [
      | inl same ↦
          (let own : has_spare (plain_arms mid e.slot ++ arm_called kind.Spare spare ∷ []) other ≡ true = ap (λ (arms : List Arm). has_spare arms other) (sym (ap (plain_arms new) same ∙ came.here)) ∙ has in
          elim (came_or_was (plain_arms mid e.slot) spare other own) [
            | inl had ↦ before_it slot other (ap (λ s. has_spare (plain_arms mid s) other) same ∙ had)
            | inr is ↦ inr (given_last other given e (did ∙ ap Spared is))
          ])
      | inr differs ↦ before_it slot other (ap (λ (arms : List Arm). has_spare arms other) (sym (came.others slot differs)) ∙ has)
    ]

-- the next slot may take each spare that is still free
may_take : (given : List Entry) (old now : SlotTable) (slot spare : ℕ) → TookGiven given old now → (slot < old.geometry.spec.children) × (length (arms_of old slot) < 3) → ((e : Entry) → Contains given e → e.slot ≡ slot → ⊥)
    → spare < old.geometry.spec.spares → IsIdleIn old spare → (WasGiven spare given → ⊥) → MayAttach now slot (arm_called kind.Spare spare)
may_take given old now slot spare took room none low idle new = record {
  known = record {
    slot_there = subst (λ (g : Geometry). slot < g.spec.children) (sym took.layout) room.0;
    spare_there = λ is. subst (λ (g : Geometry). spare < g.spec.spares) (sym took.layout) low;
  };
  idle = λ is by. free_of by (has_spare (arms_of now by) spare || was_spare_of now.detached spare by) refl;
  some_room = (
      let few = room.1 in
      let long : length (plain_arms now slot) ≡ length (plain_arms old slot) = ap length (took.others slot none) in
      let one : length (plain_arms now slot) ≡ length (arms_of now slot) = length-map (arms_of now slot) plain in
      let two : length (plain_arms old slot) ≡ length (arms_of old slot) = length-map (arms_of old slot) plain in
      omega (arith, few, long, one, two));
}
  where
    held : (by : ℕ) → (has_spare (arms_of now by) spare ≡ true) ⊎ (was_spare_of now.detached spare by ≡ true) → ⊥
    held by (inl has) = elim (took.spares by spare has) [
      | inl had ↦ absurd_test (has_spare (arms_of old by) spare || was_spare_of old.detached spare by) (true_left (has_spare (arms_of old by) spare) (was_spare_of old.detached spare by) had) (idle by)
      | inr was ↦ new was
    ]
    held by (inr gone) =
        absurd_test (has_spare (arms_of old by) spare || was_spare_of old.detached spare by)
        (true_right (has_spare (arms_of old by) spare) (was_spare_of old.detached spare by) (ap (λ (list : List Detached). was_spare_of list spare by) (sym took.detached_stay) ∙ gone)) (idle by)

    free_of : (by : ℕ) (b : Bool) → (has_spare (arms_of now by) spare || was_spare_of now.detached spare by) ≡ b → (has_spare (arms_of now by) spare || was_spare_of now.detached spare by) ≡ false
    free_of by false is = is
    free_of by true is = absurd (held by (either_true (has_spare (arms_of now by) spare) (was_spare_of now.detached spare by) is))

-- ---- the entries

-- one due slot more
gives_more : (chosen : ℕ → ℕ → List ℕ → Option ℕ → Type 0) (Idle : ℕ → Type 0) (spares : ℕ) (given : List Entry) (number : ℕ) (dues : List Due) (entries : List Entry) (due : Due) (e : Entry)
    → GivesTo chosen Idle spares given number dues entries → IsFor (number + length entries) due e → GetsOf chosen Idle spares (given ++ entries) due e.did → GivesTo chosen Idle spares given number (dues ++ due ∷ []) (entries ++ e ∷ [])
gives_more chosen Idle spares given number [] entries due e gives is gets =
    subst (λ (es : List Entry). GivesTo chosen Idle spares given number (due ∷ []) (es ++ e ∷ [])) (sym gives) (
      e,
      [],
      refl,
      subst (λ n. IsFor n due e) (let none : length entries ≡ 0 = ap length gives in omega (arith, none)) is,
      subst (λ (es : List Entry). GetsOf chosen Idle spares es due e.did) (ap (λ (es : List Entry). given ++ es) gives ∙ append-nil given) gets,
      refl,
    )
gives_more chosen Idle spares given number (d ∷ dues) entries due e (f, rest, are, for, got, behind) is gets =
    subst (λ (es : List Entry). GivesTo chosen Idle spares given number (d ∷ (dues ++ due ∷ [])) (es ++ e ∷ [])) (sym are) (
      f,
      rest ++ e ∷ [],
      refl,
      for,
      got,
      gives_more chosen Idle spares (given ++ f ∷ []) (number + 1) dues rest due e behind
          (subst (λ n. IsFor n due e) (let long : length entries ≡ suc (length rest) = ap length are in omega (arith, long)) is)
          (subst (λ (es : List Entry). GetsOf chosen Idle spares es due e.did) (ap (λ (es : List Entry). given ++ es) are ∙ sym (append_assoc given (f ∷ []) rest)) gets),
    )

-- one spare more came
attaches_more : (geometry : Geometry) (perms : Perms) (chosen : ℕ → ℕ → List ℕ → Option ℕ → Type 0) (entries : List Entry) (e : Entry) (front back : List Hold) → AttachesAll geometry perms chosen entries front Went
    → GivesOne geometry perms e.did e.slot back Went → AttachesAll geometry perms chosen (entries ++ e ∷ []) (front ++ back) Went
attaches_more geometry perms chosen [] e front back all one = subst (λ (holds : List Hold). AttachesAll geometry perms chosen (e ∷ []) (holds ++ back) Went) (sym all.0) (by e.did one)
  where
    by : (did : Did) → GivesOne geometry perms did e.slot back Went → AttachesAll geometry perms chosen (record e { did = did } ∷ []) back Went
    by NoneFree one = one
    by (Spared spare) one = inl (back, [], sym (append-nil back), one, (refl, refl))
attaches_more geometry perms chosen (f ∷ entries) e front back all one = by (λ some behind. attaches_more geometry perms chosen entries e some back behind one) f.did all
  where
    by : ((some : List Hold) → AttachesAll geometry perms chosen entries some Went → AttachesAll geometry perms chosen (entries ++ e ∷ []) (some ++ back) Went) → (did : Did)
        → AttachesAll geometry perms chosen (record f { did = did } ∷ entries) front Went → AttachesAll geometry perms chosen (record f { did = did } ∷ (entries ++ e ∷ [])) (front ++ back) Went
    by on NoneFree all = on front all
    by on (Spared spare) (inl (first, rest, are, came, behind)) =
        inl (first, rest ++ back, ap (λ (holds : List Hold). holds ++ back) are ∙ append_assoc first rest back, came, on rest behind)
    by on (Spared spare) (inr (stopped, came)) = absurd (stopped refl)

-- ---- due slots

slots_from : (low : ℕ) (dues : List Due) (j : ℕ) (b : Due) → SlotsAscend low dues → slice_get dues j ≡ Some b → low ≤ b.slot
slots_from low [] j b up there = absurd (cc)
slots_from low (d ∷ dues) zero b up there = (let first = up.0 in let same : d.slot ≡ b.slot = ap (λ (o : Option Due). slot_in o) there in omega (arith, first, same))
  where
    slot_in : Option Due → ℕ
    slot_in None = 0
    slot_in (Some d) = d.slot
slots_from low (d ∷ dues) (suc j) b up there = (let first = up.0 in let rest = slots_from (d.slot + 1) dues j b up.1 there in omega (arith, first, rest))

-- a later one is another slot
slots_apart : (low : ℕ) (dues : List Due) (i j : ℕ) (a b : Due) → SlotsAscend low dues → i < j → slice_get dues i ≡ Some a → slice_get dues j ≡ Some b → a.slot < b.slot
slots_apart low [] i j a b up less one two = absurd (cc)
slots_apart low (d ∷ dues) i zero a b up less one two = absurd (omega (arith, less))
slots_apart low (d ∷ dues) zero (suc j) a b up less one two =
    (let same : d.slot ≡ a.slot = ap (λ (o : Option Due). slot_in o) one in let rest = slots_from (d.slot + 1) dues j b up.1 two in omega (arith, same, rest))
  where
    slot_in : Option Due → ℕ
    slot_in None = 0
    slot_in (Some d) = d.slot
slots_apart low (d ∷ dues) (suc i) (suc j) a b up less one two = slots_apart (d.slot + 1) dues i j a b up.1 (omega (arith, less)) one two

-- ---- the pool

module _ {R A : Type 0} (rack : racks.Ghosts R) (area : areas.Ghosts A) (chosen : ℕ → ℕ → List ℕ → Option ℕ → Type 0) (dues : List Due) (old : Pool R A) (before : List Entry) where
  -- so many due slots had their turn
  pub record Given (k : ℕ) (now : Pool R A) (after : List Entry) (free : List ℕ) : Type 0 where
    pub entries : List Entry
    pub are : after ≡ before ++ entries
    pub gives : Each (λ (shard : Shard R A). GivesTo chosen (IsIdleIn shard.slots) shard.slots.geometry.spec.spares [] (length before + 1) (take k dues) entries) old.metaslabs.shards.items
    pub free_are : Each (λ (shard : Shard R A). AreFree (IsIdleIn shard.slots) entries shard.slots.geometry.spec.spares free) old.metaslabs.shards.items
    pub slots : (e : Entry) → Contains entries e → (i : ℕ) × (d : Due) × (i < k) × (slice_get dues i ≡ Some d) × (e.slot ≡ d.slot)
    pub took : ChangedBelow (λ (was : Shard R A) is. TookGiven entries was.slots is.slots) (length old.metaslabs.shards.items) old.metaslabs.shards.items now.metaslabs.shards.items
    pub carries : (x : State) → Represents rack area old x → CarriesOut rack area now x (Phase x (AttachesAll x.geometry x.perms chosen entries) Went)

  pub given_none : (free : List ℕ) → Each (λ (shard : Shard R A). AreFree (IsIdleIn shard.slots) [] shard.slots.geometry.spec.spares free) old.metaslabs.shards.items → Given 0 old before free
  given_none free are = record {
    entries = [];
    are = sym (append-nil before);
    gives = λ m shard there. refl;
    free_are = are;
    slots = λ e among. absurd (has_nothing e among);
    took = record { many = refl; below = λ m shard less there. (shard, there, took_none shard.slots); others = λ m past. refl };
    carries = λ x is. carried rack area old x [] x (Phase x (AttachesAll x.geometry x.perms chosen []) Went) refl is (refl, (refl, refl));
  }

  module _ (k : ℕ) (due : Due) (there : slice_get dues k ≡ Some due) (ascend : SlotsAscend 0 dues) (room : Each (λ (shard : Shard R A). HaveRoom shard.slots dues) old.metaslabs.shards.items) where
    inside : k < length dues
    inside = slice_get_within dues k due there

    -- it may take each that is free
    pub next_may : (now : Pool R A) (after : List Entry) (free : List ℕ) → Given k now after free → (spare : ℕ) → Contains free spare → AllMayTake due.slot spare now
    next_may now after free g spare among m z at =
        let was = changed_at (λ (was : Shard R A) is. TookGiven g.entries was.slots is.slots) old.metaslabs.shards.items now.metaslabs.shards.items g.took m z at in
        let are = g.free_are m was.0 was.1 in
        let is = are.only spare among in
        may_take g.entries was.0.slots z.slots due.slot spare was.2 (room m was.0 was.1 due (k, inside, get_or_from_slice_get dues k due due there)) (λ e has same. (let s = g.slots e has in let less = slots_apart 0 dues s.0 k s.1 due ascend s.2 s.3 there in let one = s.4 in omega (arith, less, one, same)))
        (ascends_below 0 was.0.slots.geometry.spec.spares free spare are.ascending among) is.0 is.1

    module _ (mid now : Pool R A) (after : List Entry) (free left : List ℕ) (e : Entry) (g : Given k mid after free) (is : IsFor (length after + 1) due e) (gave : GaveOne chosen due free e.did mid now left)
        (next : (y : State) → Represents rack area mid y → CarriesOut rack area now y (Phase y (GivesOne y.geometry y.perms e.did e.slot) Went)) where
      entries : List Entry
      entries = g.entries ++ e ∷ []

      number : length after + 1 ≡ length before + 1 + length g.entries
      number = (let long : length after ≡ length before + length g.entries = ap length g.are ∙ length-append before g.entries in omega (arith, long))

      taken : take (k + 1) dues ≡ take k dues ++ due ∷ []
      taken = take_more dues k due inside ∙ ap (λ (d : Due). take k dues ++ d ∷ []) (get_or_from_slice_get dues k due due there)

      -- what becomes of what is free, and of the arms
      record Turn : Type 0 where
        gets : Each (λ (shard : Shard R A). GetsOf chosen (IsIdleIn shard.slots) shard.slots.geometry.spec.spares g.entries due e.did) old.metaslabs.shards.items
        free_are : Each (λ (shard : Shard R A). AreFree (IsIdleIn shard.slots) (g.entries ++ e ∷ []) shard.slots.geometry.spec.spares left) old.metaslabs.shards.items
        took : ChangedBelow (λ (was : Shard R A) is. TookGiven (g.entries ++ e ∷ []) was.slots is.slots) (length old.metaslabs.shards.items) old.metaslabs.shards.items now.metaslabs.shards.items

      -- no spare was free
      turn_none : e.did ≡ NoneFree → (free ≡ []) × (now ≡ mid) × (left ≡ free) → Turn
      turn_none did (none, same, still) = record {
        gets = λ m shard at. subst (λ d. GetsOf chosen (IsIdleIn shard.slots) shard.slots.geometry.spec.spares g.entries due d) (sym did)
            (subst (λ xs. AreFree (IsIdleIn shard.slots) g.entries shard.slots.geometry.spec.spares xs) none (g.free_are m shard at));
        free_are = λ m shard at. subst (λ xs. AreFree (IsIdleIn shard.slots) (g.entries ++ e ∷ []) shard.slots.geometry.spec.spares xs) (sym still)
            (free_still (IsIdleIn shard.slots) g.entries shard.slots.geometry.spec.spares free e did (g.free_are m shard at));
        took = subst (λ (p : Pool R A). ChangedBelow (λ (was : Shard R A) is. TookGiven (g.entries ++ e ∷ []) was.slots is.slots) (length old.metaslabs.shards.items) old.metaslabs.shards.items p.metaslabs.shards.items) (sym same) (record {
          many = g.took.many;
          below = λ j x less at. (let z = g.took.below j x less at in (z.0, z.1, took_still g.entries e x.slots z.0.slots z.2));
          others = g.took.others;
        });
      }

      -- one came
      turn_spare : (spare : ℕ) → e.did ≡ Spared spare → Contains free spare × chosen due.slot due.logged free (Some spare) × (left ≡ filter (λ other. not (other == spare)) free) × AllGet due.slot spare mid now → Turn
      turn_spare spare did (among, picked, less, all) = record {
        gets = λ m shard at. subst (λ d. GetsOf chosen (IsIdleIn shard.slots) shard.slots.geometry.spec.spares g.entries due d) (sym did) (free, g.free_are m shard at, among, picked);
        free_are = λ m shard at. subst (λ xs. AreFree (IsIdleIn shard.slots) (g.entries ++ e ∷ []) shard.slots.geometry.spec.spares xs) (sym less)
            (free_less (IsIdleIn shard.slots) g.entries shard.slots.geometry.spec.spares free e spare did (g.free_are m shard at));
        took = record {
          many = all.many ∙ g.took.many;
          below = λ j x under at.
              (let z = g.took.below j x under at in
              let many = g.took.many in
              let y = all.below j z.0 (omega (arith, under, many)) z.1 in
              (y.0, y.1, took_more g.entries e spare x.slots z.0.slots y.0.slots did z.2 y.2.layout (subst (λ s. HasAttached z.0.slots y.0.slots s (arm_called kind.Spare spare)) (sym is.1) y.2.arms)));
          others = λ j past. (let many = g.took.many in all.others j (omega (arith, past, many)) ∙ g.took.others j past);
        };
      }

      turn : Turn
      turn = by e.did refl gave
        where
          by : (d : Did) → e.did ≡ d → GaveOne chosen due free d mid now left → Turn
          by NoneFree did one = turn_none did one
          by (Spared spare) did one = turn_spare spare did one

      pub given_more : Given (k + 1) now (after ++ e ∷ []) left
      given_more = record {
        entries = g.entries ++ e ∷ [];
        are = ap (λ (es : List Entry). es ++ e ∷ []) g.are ∙ append_assoc before g.entries (e ∷ []);
        gives = λ m shard at. subst (λ ds. GivesTo chosen (IsIdleIn shard.slots) shard.slots.geometry.spec.spares [] (length before + 1) ds (g.entries ++ e ∷ [])) (sym taken)
            (gives_more chosen (IsIdleIn shard.slots) shard.slots.geometry.spec.spares [] (length before + 1) (take k dues) g.entries due e (g.gives m shard at) (subst (λ n. IsFor n due e) number is) (turn.gets m shard at));
        free_are = turn.free_are;
        slots = λ f among. elim (Contains-append_cases g.entries (e ∷ []) f among) [
          | inl earlier ↦ (let s = g.slots f earlier in let less = s.2 in (s.0, s.1, omega (arith, less), s.3, s.4))
          | inr last ↦ elim (has_cases e [] f last) [
            | inl same ↦ (k, due, omega arith, there, ap (λ (x : Entry). x.slot) (sym same) ∙ is.1)
            | inr none ↦ absurd (has_nothing f none)
          ]
        ];
        took = turn.took;
        carries = λ x r.
            carries_so rack area now x (Phase x (Chain (AttachesAll x.geometry x.perms chosen g.entries) (GivesOne x.geometry x.perms e.did e.slot)) Went) (Phase x (AttachesAll x.geometry x.perms chosen (g.entries ++ e ∷ [])) Went)
            (then_phase rack area mid now x (λ geometry perms. AttachesAll geometry perms chosen g.entries) (λ geometry perms. GivesOne geometry perms e.did e.slot) Went (g.carries x r) next)
            (λ holds store done. (done.0, joined x holds done.1));
      }
        where
          joined : (x : State) (holds : List Hold) → Chain (AttachesAll x.geometry x.perms chosen g.entries) (GivesOne x.geometry x.perms e.did e.slot) holds Went → AttachesAll x.geometry x.perms chosen (g.entries ++ e ∷ []) holds Went
          joined x holds (inl (front, back, apart, all, one)) =
              subst (λ (hs : List Hold). AttachesAll x.geometry x.perms chosen (g.entries ++ e ∷ []) hs Went) (sym apart) (attaches_more x.geometry x.perms chosen g.entries e front back all one)
          joined x holds (inr (stopped, all)) = absurd (stopped refl)

  -- all had their turn
  pub given_all : (k : ℕ) (now : Pool R A) (after : List Entry) (free : List ℕ) → Given k now after free → length dues ≤ k → GaveAll rack area chosen dues old before now after
  given_all k now after free g end = record {
    entries = g.entries;
    are = g.are;
    gives = λ m shard at. subst (λ ds. GivesTo chosen (IsIdleIn shard.slots) shard.slots.geometry.spec.spares [] (length before + 1) ds g.entries) (take_all k dues end) (g.gives m shard at);
    carries = g.carries;
  }
