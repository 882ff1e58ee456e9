-- States after an arm has joined a slot or left it.
use Rattle.std.proofs.Common.{◌≡◌, ◌++◌, ◌<◌, ◌&&◌, ◌||◌, ℕ, zero, suc, Bool, true, false, List, [], ◌∷◌, Option, Some, None, if◌then◌else◌, inl, inr, refl, sym, ◌∙◌, ap, subst, arith}
use Rattle.std.proofs.lemmas.Bool.{cases_eq, true≢false}
use Rattle.draid_names.specs.declared.numbers.TheConstants.{LAST_NUMBER}
use Rattle.draid_names.specs.declared.pass_kind.PassKind.TheVariants.{Rebuild}
use Rattle.draid_machine.specs.declared.names.ArmName.{ArmName}
use Rattle.draid_machine.specs.declared.names.ArmName.TheVariants.{Leaf, Spare}
use Rattle.draid_machine.specs.Names.{has_name, name_eq, up_to}
use Rattle.draid_machine.specs.State.{Layout, Arm, Pass, Core, State}
use Rattle.draid_machine.specs.Arms.{arms_below, has_moved, is_fresh, is_here, is_target, online, targets_of}
use Rattle.draid_machine.specs.After.{set_arm, set_order, renew_if, map_arm, renewed_core, rearranged_state, attached_core, replan, attach_state}
use Rattle.draid_machine.specs.Step.{MayReplan}
use Rattle.draid_machine.proofs.Small.{arm_at, equal, filter_has, has_append, name_refl, true_left, true_right}
use Rattle.draid_arms.specs.Rules.{fresh_arm}
use Rattle.draid_arms.proofs.Moved.{moved_by_order}
use Rattle.draid_arms.proofs.Renewed.{rearranged_same}

pub rearranged_made : (l : Layout) (w : State) (last : ℕ) (arm' : ArmName → Option Arm) (order' : ℕ → List ArmName) (q : Core) (before : ℕ → List ArmName) (new : State)
    → new ≡ rearranged_state l (record w { core = record q { order = before } }) last q → q ≡ record w.core { arm = arm'; order = order' } → before ≡ w.core.order
    → new ≡ rearranged_state l w last (record w.core { arm = arm'; order = order' })
rearranged_made l w last arm' order' q before new made same orders =
    made ∙ (λ i. rearranged_state l (record w { core = record (same i) { order = orders i } }) last (same i)) ∙ rearranged_same l w last arm' order'

-- the tables after an arm has joined
pub joined_core : (old now : Core) (slot : ℕ) (n : ArmName) (last : ℕ) (a : Arm) → a ≡ fresh_arm last → ((m : ArmName) → now.arm m ≡ set_arm old.arm n (Some a) m)
    → ((c : ℕ) → now.order c ≡ set_order old.order slot (old.order slot ++ n ∷ []) c) → record old { arm = now.arm; order = now.order } ≡ attached_core old slot n last
joined_core old now slot n last a is arms orders =
    λ i. record old { arm = λ m. (arms m ∙ ap (λ (b : Arm). set_arm old.arm n (Some b) m) is) i; order = λ c. orders c i }

-- ---- an arm that joined is a target of the next rebuild
in_below : (order : ℕ → List ArmName) (slots c : ℕ) (n : ArmName) → c < slots → has_name (order c) n ≡ true → has_name (arms_below order slots) n ≡ true
in_below order zero c n less has = absurd (omega (arith, less))
in_below order (suc slots) c n less has = has_append (arms_below order slots) (order slots) n ∙ (elim (cases_eq c slots) [
  | inl at ↦ true_right _ _ (subst (λ d. has_name (order d) n ≡ true) at has)
  | inr other ↦ true_left _ _ (in_below order slots c n (omega (arith, less, other)) has)
])

fresh_target : (l : Layout) (q : Core) (n : ArmName) (b : Bool) (last : ℕ) → q.arm n ≡ Some (renew_if b last (record { offline = false; fresh = true; log = up_to last; gone = None })) → is_target l q Rebuild n ≡ true
fresh_target l q (Leaf m) b last is = ap (λ o. is_fresh o && (is_here o && online o)) is
fresh_target l q (Spare t) b last is = ap (λ o. is_fresh o && true) is

joined_target : (l : Layout) (w : State) (slot : ℕ) (n : ArmName) (last : ℕ) → slot < l.slots → targets_of l (renewed_core l w.core last (attached_core w.core slot n last)) Rebuild ≡ [] → ⊥
joined_target l w slot n last there none = true≢false (sym has ∙ ap (λ ns. has_name ns n) none)
  where
    q : Core
    q = attached_core w.core slot n last

    after : Core
    after = renewed_core l w.core last q

    listed : has_name (q.order slot) n ≡ true
    listed =
        ap (λ b. has_name (if b then w.core.order slot ++ n ∷ [] else w.core.order slot) n) (equal slot slot refl)
        ∙ has_append (w.core.order slot) (n ∷ []) n ∙ true_right (has_name (w.core.order slot) n) (name_eq n n || false) (true_left (name_eq n n) false (name_refl n))

    arm : after.arm n ≡ Some (renew_if (has_moved l w.core q n) last (record { offline = false; fresh = true; log = up_to last; gone = None }))
    arm = ap (map_arm (renew_if (has_moved l w.core q n) last)) (arm_at w.core.arm n (Some (record { offline = false; fresh = true; log = up_to last; gone = None })))

    has : has_name (targets_of l after Rebuild) n ≡ true
    has = filter_has (is_target l after Rebuild) (arms_below after.order l.slots) n (in_below q.order l.slots slot n there listed) (fresh_target l after n (has_moved l w.core q n) last arm)

pub may_plan : (l : Layout) (w : State) (slot : ℕ) (n : ArmName) (last : ℕ) (new : State) → new ≡ rearranged_state l w last (attached_core w.core slot n last) → MayReplan w → slot < l.slots
    → (p : Pass) → new.core.pass ≡ Some p → p.kind ≡ Rebuild → (new.core.last < LAST_NUMBER) × (new.open_group < LAST_NUMBER) × (targets_of l new.core Rebuild ≡ [] → ⊥)
may_plan l w slot n last new is may there =
    subst (λ (v : State). (p : Pass) → v.core.pass ≡ Some p → p.kind ≡ Rebuild → (v.core.last < LAST_NUMBER) × (v.open_group < LAST_NUMBER) × (targets_of l v.core Rebuild ≡ [] → ⊥)) (sym is)
    (λ p at rebuild. ((may p at rebuild).0, (may p at rebuild).1, joined_target l w slot n last there))

-- what has moved, by the arms of each slot as they were copied
pub moved_made : (l : Layout) (w : State) (arm' : ArmName → Option Arm) (order' : ℕ → List ArmName) (q : Core) (before : ℕ → List ArmName) (n : ArmName)
    → q ≡ record w.core { arm = arm'; order = order' } → before ≡ w.core.order
    → has_moved l (record q { order = before }) q n ≡ has_moved l w.core (record w.core { arm = arm'; order = order' }) n
moved_made l w arm' order' q before n same orders =
    (λ i. has_moved l (record (same i) { order = orders i }) (same i) n)
    ∙ moved_by_order l (record w.core { arm = arm' }) w.core (record w.core { arm = arm'; order = order' }) n refl

pub attached_made : (l : Layout) (w : State) (slot : ℕ) (n : ArmName) (last : ℕ) (mid new : State) (moved : ArmName → Bool) → mid ≡ rearranged_state l w last (attached_core w.core slot n last)
    → ((m : ArmName) → moved m ≡ has_moved l w.core (attached_core w.core slot n last) m) → new ≡ replan l mid moved mid.core.pass → new ≡ attach_state l w slot n last
attached_made l w slot n last mid new moved is same made = made ∙ (λ i. replan l (is i) (λ m. same m i) (is i).core.pass)
