-- An arm joins a slot or leaves it, and spares come to lie elsewhere.
use Rattle.std.proofs.Common.{◌≡◌, ◌+◌, ◌<◌, ◌≤◌, ◌⊎◌, ◌&&◌, ◌==◌, not, ℕ, Bool, true, false, List, [], ◌∷◌, ◌++◌, Option, Some, None, refl, sym, ◌∙◌, ap, subst, inl, inr, arith}
use Rattle.std.proofs.lemmas.Bool.{true≢false}
use Rattle.draid_names.specs.declared.pass_kind.PassKind.{PassKind}
use Rattle.draid_names.specs.declared.pass_kind.PassKind.TheVariants.{Rebuild, Heal}
use Rattle.draid_machine.specs.declared.names.ArmName.{ArmName}
use Rattle.draid_machine.specs.declared.names.ArmName.TheVariants.{Leaf, Spare}
use Rattle.draid_machine.specs.declared.names.Held.{Held}
use Rattle.draid_machine.specs.declared.names.Segment.{Segment}
use Rattle.draid_machine.specs.Names.{name_eq, has_name, any_below, is_block, up_to}
use Rattle.draid_machine.specs.State.{Layout, IsLayout, Arm, Pass, Core, State}
use Rattle.draid_machine.specs.Arms.{lies, passes, leaf_at, has_column, same_leaf, has_moved, targets_of}
use Rattle.draid_machine.specs.Claims.{passed}
use Rattle.draid_machine.specs.After.{renew_if, renewed_core, rearranged_state, attached_core, detached_core, lose_targets, plan_state, replan, replan_kind, attach_state, detach_state}
use Rattle.draid_machine.specs.Sound.{IsClaimed, Sound}
use Rattle.draid_machine.specs.Step.{IsLast}
use Rattle.draid_machine.proofs.Small.{some_injective, none_some, either_true, absurd_test, not_true, any_at, arm_cases, mapped_arm, has_append, has_filter, no_errors, is_equal, bool_cases}
use Rattle.draid_machine.proofs.Follows.{from_passed, to_passed}
use Rattle.draid_machine.proofs.Calm.{order_cases, detach_listed}
use Rattle.draid_machine.proofs.Tickets.{rebuild_heal}
use Rattle.draid_machine.proofs.Passes.{filled, plan_sound}

-- ---- what an attachment does to the pass: nothing where there is none; a scrub loses targets, a rebuild is planned again
pub replan_cases : (l : Layout) (P : State → Type 0) (w : State) (moved : ArmName → Bool) (o : Option Pass) → (o ≡ None → P w)
    → ((p : Pass) → o ≡ Some p → p.kind ≡ Heal → P (record w { core = record w.core { pass = Some (lose_targets moved 0 p) } }))
    → ((p : Pass) → o ≡ Some p → p.kind ≡ Rebuild → P (plan_state w Rebuild (targets_of l w.core Rebuild))) → P (replan l w moved o)
replan_cases l P w moved None none heal rebuild = none refl
replan_cases l P w moved (Some p) none heal rebuild = by p.kind refl
  where
    by : (kind : PassKind) → p.kind ≡ kind → P (replan_kind l w moved p kind)
    by Rebuild e = rebuild p refl e
    by Heal e = heal p refl e

-- ---- an arm that hasn't moved
none_below : (n : ℕ) (p : ℕ → Bool) (x : ℕ) → x < n → any_below n p ≡ false → p x ≡ false
none_below n p x less none = elim (bool_cases (p x)) [
  | inl is ↦ absurd_test (any_below n p) (any_at n p x less is) none
  | inr out ↦ out
]

one_leaf : (a b : Option ℕ) → same_leaf a b ≡ true → a ≡ b
one_leaf None None e = refl
one_leaf None (Some n) e = absurd (true≢false (sym e))
one_leaf (Some m) None e = absurd (true≢false (sym e))
one_leaf (Some m) (Some n) e = ap Some (is_equal m n e)

stays_one : (column same : Bool) → (column && not same) ≡ false → column ≡ true → same ≡ true
stays_one column true e x = refl
stays_one true false e x = absurd (true≢false e)
stays_one false false e x = absurd (true≢false (sym x))

-- it keeps a stripe, of which its slot has a column, where it kept it before
pub still_lies : (l : Layout) (q q' : Core) (n : ArmName) (x leaf : ℕ) → has_moved l q q' n ≡ false → x < l.stripes → has_column l q' n x ≡ true
    → lies l q'.order n x leaf ≡ true → lies l q.order n x leaf ≡ true
still_lies l q q' (Leaf m) x leaf still inside column e = e
still_lies l q q' (Spare t) x leaf still inside column e =
    let out = none_below l.stripes (λ y. has_column l q' (Spare t) y && not (same_leaf (leaf_at l q.order (Spare t) y) (leaf_at l q'.order (Spare t) y))) x inside still in
    let same = stays_one (has_column l q' (Spare t) x) (same_leaf (leaf_at l q.order (Spare t) x) (leaf_at l q'.order (Spare t) x)) out column in
    subst (λ o. passes o (λ m. m == leaf) ≡ true) (sym (one_leaf (leaf_at l q.order (Spare t) x) (leaf_at l q'.order (Spare t) x) same)) e

-- ---- a change of arms
-- an arm of before, with a log no longer than now, which is in no other slot now
pub record IsOld (q : Core) (order' : ℕ → List ArmName) (n : ArmName) (b : Arm) : Type 0 where
  pub a : Arm
  pub found : q.arm n ≡ Some a
  pub log : (g : ℕ) → b.log g ≡ false → a.log g ≡ false
  pub listed : (c : ℕ) → has_name (order' c) n ≡ true → has_name (q.order c) n ≡ true

-- an arm whose log has all groups
abbrev pub IsFull : ℕ → Arm → Type 0
IsFull last b = (g : ℕ) → up_to last g ≡ true → b.log g ≡ true

clean_cases : (moved : Bool) (last g : ℕ) (a : Arm) → up_to last g ≡ true → (renew_if moved last a).log g ≡ false → (moved ≡ false) × (a.log g ≡ false)
clean_cases true last g a full e = absurd_test (up_to last g) full e
clean_cases false last g a full e = (refl, e)

module _ (l : Layout) (lay : IsLayout l) (w : State) (s : Sound l w) (last : ℕ) (is_last : IsLast w last) (arm' : ArmName → Option Arm) (order' : ℕ → List ArmName)
    (arms : (n : ArmName) (b : Arm) → arm' n ≡ Some b → IsFull last b ⊎ IsOld w.core order' n b) where
  abbrev changed : Core
  changed = record w.core { arm = arm'; order = order' }

  abbrev moved : ArmName → Bool
  moved = has_moved l w.core changed

  abbrev with_pass : Option Pass → Core
  with_pass o = record (renewed_core l w.core last changed) { pass = o }

  -- what the pass afterwards has passed, the one before had, on an arm that hasn't moved
  abbrev PassedBefore : Option Pass → Type 0
  PassedBefore o = (n : ArmName) (b : Arm) (h : Held) (row : ℕ) → arm' n ≡ Some b → passed o n h row ≡ true
      → (moved n ≡ false) × IsOld w.core order' n b × (passed w.core.pass n h row ≡ true)

  claimed_then : (o : Option Pass) (g : Segment) (c : IsClaimed l (with_pass o) g) (b : Arm) → moved g.arm ≡ false → (old : IsOld w.core order' g.arm b)
      → (old.a.log c.h.birth ≡ false) ⊎ ((is_block c.h.stage ≡ true) × (passed w.core.pass g.arm c.h g.row ≡ true)) → IsClaimed l w.core g
  claimed_then o g c b still old why =
      let band = s.core.runs g.key c.h g.row c.on.held c.on.row in
      let inside : c.h.first + g.row < l.stripes = (let run = s.core.inside g.key c.h c.on.held in let row = c.on.row in omega (arith, run, row)) in
      let column : has_column l changed g.arm (c.h.first + g.row) ≡ true
      = any_at l.columns (λ d. has_name (order' (l.slot_of (c.h.first + g.row) d)) g.arm) g.column c.on.column
      (subst (λ slot. has_name (order' slot) g.arm ≡ true) (sym (lay.steady (c.h.first + g.row) c.h.first g.column band)) c.on.listed) in
      record {
        h = c.h;
        a = old.a;
        on = record {
          held = c.on.held;
          arm = old.found;
          listed = old.listed (l.slot_of c.h.first g.column) c.on.listed;
          column = c.on.column;
          row = c.on.row;
          lies = still_lies l w.core changed g.arm (c.h.first + g.row) g.leaf still inside column c.on.lies;
        };
        put = c.put;
        why = why;
      }

  still_covered : (o : Option Pass) → PassedBefore o → (g : Segment) → IsClaimed l (with_pass o) g → w.present g ≡ true
  still_covered o before g c =
      let z = mapped_arm (renew_if (moved g.arm) last) (arm' g.arm) c.a c.on.arm in
      let full : up_to last c.h.birth ≡ true = filled last c.h.birth (s.core.some g.key c.h c.on.held) (is_last.births g.key c.h c.on.held) in
      elim c.why [
        | inl clean ↦
            let v = clean_cases (moved g.arm) last c.h.birth z.0 full (subst (λ (x : Arm). x.log c.h.birth ≡ false) z.2 clean) in
            elim (arms g.arm z.0 z.1) [
              | inl all ↦ absurd_test (z.0.log c.h.birth) (all c.h.birth full) v.1
              | inr old ↦ s.covered g (claimed_then o g c z.0 v.0 old (inl (old.log c.h.birth v.1)))
            ]
        | inr y ↦
            let v = before g.arm z.0 c.h g.row z.1 y.1 in
            s.covered g (claimed_then o g c z.0 v.0 v.1 (inr (y.0, v.2)))
      ]

  -- with no pass, or with a scrub
  pub changed_sound : (o : Option Pass) → ((p : Pass) → o ≡ Some p → (p.kind ≡ Heal) × (p.running ≡ true) × (p.max ≤ w.committed)) → PassedBefore o
      → Sound l (record (rearranged_state l w last changed) { core = with_pass o })
  changed_sound o heals before = record {
    core = record {
      apart = s.core.apart;
      runs = s.core.runs;
      inside = s.core.inside;
      some = s.core.some;
      births = s.core.births;
      tickets = s.core.tickets;
      targets = λ p n a k h pass kind. rebuild_heal p.kind kind (heals p pass).0;
      quiet = λ p k h pass kind. rebuild_heal p.kind kind (heals p pass).0;
      planned = λ p pass waits. absurd_test p.running (heals p pass).1 waits;
      heal = λ p pass kind. (heals p pass).2;
    };
    groups = s.groups;
    loan = λ n e. absurd (none_some None n refl e);
    covered = still_covered o before;
    image = s.image;
    sealed = s.sealed;
  }

  pub idle_sound : Sound l (record (rearranged_state l w last changed) { core = with_pass None })
  idle_sound = changed_sound None (λ p e. absurd (none_some None p refl e)) (λ n b h row e x. absurd (true≢false (sym x)))

-- ---- Detach
pub detach_sound : (l : Layout) → IsLayout l → (w : State) (slot : ℕ) (n : ArmName) (a : Arm) (last : ℕ) → w.core.arm n ≡ Some a → w.core.pass ≡ None → IsLast w last → Sound l w
    → Sound l (detach_state l w slot n a last)
detach_sound l lay w slot n a last found idle is_last s =
    let q = detached_core w.core slot n a w.open_group in
    let b : Arm = record a { gone = Some (record { slot = slot; group = w.open_group }) } in
    let old : (m : ArmName) (c : Arm) → q.arm m ≡ Some c → IsFull last c ⊎ IsOld w.core q.order m c = λ m c e. elim (arm_cases w.core.arm n m (Some b) c e) [
      | inl z ↦ inr (record {
        a = a;
        found = subst (λ x. w.core.arm x ≡ Some a) z.0 found;
        log = λ g out. subst (λ (x : Arm). x.log g ≡ false) (sym (some_injective b c z.1)) out;
        listed = λ d y. detach_listed l lay w.core slot d n m y;
      })
      | inr z ↦ inr (record { a = c; found = z.1; log = λ g out. out; listed = λ d y. detach_listed l lay w.core slot d n m y })
    ] in
    subst (λ o. Sound l (record (rearranged_state l w last q) { core = record (renewed_core l w.core last q) { pass = o } })) (sym idle)
    (idle_sound l lay w s last is_last q.arm q.order old)

-- ---- Attach
module _ (l : Layout) (lay : IsLayout l) (w : State) (s : Sound l w) (slot : ℕ) (n : ArmName) (last : ℕ) (is_last : IsLast w last)
    (no_target : (p : Pass) → w.core.pass ≡ Some p → has_name p.targets n ≡ true → ⊥) where
  abbrev joined : Core
  joined = attached_core w.core slot n last

  abbrev new : Arm
  new = record { offline = false; fresh = true; log = up_to last; gone = None }

  listed_before : (c : ℕ) (m : ArmName) → name_eq n m ≡ false → has_name (joined.order c) m ≡ true → has_name (w.core.order c) m ≡ true
  listed_before c m other e = elim (order_cases l lay w.core.order slot c (w.core.order slot ++ n ∷ []) m e) [
    | inl z ↦ elim (either_true (has_name (w.core.order slot) m) (has_name (n ∷ []) m) (sym (has_append (w.core.order slot) (n ∷ []) m) ∙ z.1)) [
      | inl was ↦ subst (λ d. has_name (w.core.order d) m ≡ true) z.0 was
      | inr it ↦ absurd_test (has_name (n ∷ []) m) it (rw other refl)
    ]
    | inr z ↦ z
  ]

  old_arm : (m : ArmName) (a : Arm) → name_eq n m ≡ false → w.core.arm m ≡ Some a → IsOld w.core joined.order m a
  old_arm m a other found = record { a = a; found = found; log = λ g out. out; listed = λ c y. listed_before c m other y }

  new_or_old : (m : ArmName) (a : Arm) → joined.arm m ≡ Some a → IsFull last a ⊎ IsOld w.core joined.order m a
  new_or_old m a e = elim (arm_cases w.core.arm n m (Some new) a e) [
    | inl z ↦ inl (λ g full. subst (λ (x : Arm). x.log g ≡ true) (some_injective new a z.1) full)
    | inr z ↦ inr (old_arm m a z.0 z.1)
  ]

  -- a scrub goes on with the targets that haven't moved
  scrub_passed : (p : Pass) → w.core.pass ≡ Some p → PassedBefore l lay w s last is_last joined.arm joined.order new_or_old (Some (lose_targets (has_moved l w.core joined) 0 p))
  scrub_passed p pass m a h row e y =
      let z = from_passed (Some (lose_targets (has_moved l w.core joined) 0 p)) m h row y in
      let same = sym (some_injective (lose_targets (has_moved l w.core joined) 0 p) z.p z.pass) in
      let left = has_filter (λ x. not (has_moved l w.core joined x)) p.targets m (subst (λ (x : Pass). has_name x.targets m ≡ true) same z.target) in (
        not_true (has_moved l w.core joined m) left.1,
        elim (arm_cases w.core.arm n m (Some new) a e) [
          | inl v ↦ absurd (no_target p pass (subst (λ k. has_name p.targets k ≡ true) (sym v.0) left.0))
          | inr v ↦ old_arm m a v.0 v.1
        ],
        to_passed w.core.pass m h row (record {
          p = p;
          pass = pass;
          running = subst (λ (x : Pass). x.running ≡ true) same z.running;
          errors = no_errors p.errors 0 (subst (λ (x : Pass). x.errors ≡ 0) same z.errors);
          target = left.0;
          max = subst (λ (x : Pass). h.birth ≤ x.max) same z.max;
          next = subst (λ (x : Pass). h.first + row < x.next) same z.next;
        }),
      )

  scrub_runs : (p : Pass) → w.core.pass ≡ Some p → p.kind ≡ Heal → p.running ≡ true
  scrub_runs p pass kind = elim (bool_cases p.running) [
    | inl runs ↦ runs
    | inr waits ↦ rebuild_heal p.kind (s.core.planned p pass waits).0 kind
  ]

  pub attach_sound : Sound l (attach_state l w slot n last)
  attach_sound = replan_cases l (λ v. Sound l v) (rearranged_state l w last joined) (has_moved l w.core joined) w.core.pass
      (λ none. subst (λ o. Sound l (record (rearranged_state l w last joined) { core = record (renewed_core l w.core last joined) { pass = o } })) (sym none)
      (idle_sound l lay w s last is_last joined.arm joined.order new_or_old))
      (λ p pass kind. changed_sound l lay w s last is_last joined.arm joined.order new_or_old (Some (lose_targets (has_moved l w.core joined) 0 p))
      (λ r e. subst (λ (x : Pass). (x.kind ≡ Heal) × (x.running ≡ true) × (x.max ≤ w.committed)) (some_injective (lose_targets (has_moved l w.core joined) 0 p) r e)
      (kind, scrub_runs p pass kind, s.core.heal p pass kind))
      (scrub_passed p pass))
      (λ p pass kind. plan_sound l lay (record (rearranged_state l w last joined) { core = record (renewed_core l w.core last joined) { pass = None } }) Rebuild
      (targets_of l (renewed_core l w.core last joined) Rebuild) refl (idle_sound l lay w s last is_last joined.arm joined.order new_or_old))
