-- Every legal event keeps that the slots' orders have just the arms that aren't detached, each once, and that targets are among them.
use Rattle.std.proofs.Common.{◌≡◌, ◌+◌, ◌<◌, ◌⊎◌, ◌&&◌, ◌==◌, not, ℕ, zero, suc, Bool, true, false, nat_lt, List, [], ◌∷◌, ◌++◌, Option, Some, None, filter, refl, sym, ◌∙◌, ap, subst, inl, inr, if◌then◌else◌}
use Rattle.std.proofs.lemmas.Bool.{true≢false}
use Rattle.draid_names.specs.declared.pass_kind.PassKind.{PassKind}
use Rattle.draid_names.specs.declared.pass_kind.PassKind.TheVariants.{Rebuild, Heal}
use Rattle.draid_machine.specs.declared.names.Key.{Key}
use Rattle.draid_machine.specs.declared.names.ArmName.{ArmName}
use Rattle.draid_machine.specs.declared.names.ArmName.TheVariants.{Leaf, Spare}
use Rattle.draid_machine.specs.declared.names.Held.{Held}
use Rattle.draid_machine.specs.declared.names.Segment.{Segment}
use Rattle.draid_machine.specs.declared.event.Patched.{Patched}
use Rattle.draid_machine.specs.declared.event.Event.{Event}
use Rattle.draid_machine.specs.declared.event.Event.TheVariants.{Begin, Put, Finish, Abort, Free, Fetch, Damage, Offline, Online, Attach, Detach, Upgrade, Close, Seal, Commit, Plan, Ready, Lend, LandStripe, LandBlock, Done, Cancel, Reopen}
use Rattle.draid_machine.specs.Names.{name_eq, has_name, is_heal, up_to}
use Rattle.draid_machine.specs.State.{Layout, IsLayout, Gone, Arm, Pass, Core, Loan, Image, State}
use Rattle.draid_machine.specs.Arms.{lies_on, is_silent, has_moved, targets_of, is_target, arms_below, is_here}
use Rattle.draid_machine.specs.After.{set_arm, set_order, each_arm, map_arm, map_pass, log_if, fill_if, excise_if, cut_above, renew_if, lose_some, lose_targets, begin_state, put_state, gone_state, live_state, finish_state, free_state, switch_state, attached_core, detached_core, renewed_core, rearranged_state, attach_state, detach_state, upgrade_state, close_state, keep_if, seal_held, seal_arm, image_of, sealed_core, seal_state, is_gone_by, is_gone_arm, commit_state, planned_pass, plan_state, ready_state, lend_state, unsourced, misses_stripe, pass_over, mend_state, land_stripe_state, misses_block, heal_state, land_block_state, ended_pass, done_state, cancel_state, reopen_state}
use Rattle.draid_machine.specs.Created.{created, created_core, created_arm, new_arm}
use Rattle.draid_machine.specs.Images.{IsImage, AreListed}
use Rattle.draid_machine.specs.Step.{Step}
use Rattle.draid_machine.proofs.Small.{some_injective, some_same, none_some, either_true, bool_cases, absurd_test, not_true, not_false, true_left, true_right, arm_at, arm_other, arm_cases, mapped_arm, mapped_pass, kept_some, kept_if, has_append, has_filter, filter_has, name_true, name_refl, equal, is_equal, is_below, below}
use Rattle.draid_machine.proofs.Calm.{order_cases}
use Rattle.draid_machine.proofs.Seals.{sealed_arm}
use Rattle.draid_machine.proofs.Moves.{replan_cases}

-- an arm that is there is there afterwards, and the other way round
abbrev pub Stays : (ArmName → Option Arm) → (ArmName → Option Arm) → Type 0
Stays f g = (n : ArmName) (a : Arm) → f n ≡ Some a → a.gone ≡ None → (b : Arm) × (g n ≡ Some b) × (b.gone ≡ None)

-- an arm keeps its detachment
abbrev pub KeepsGone : (ArmName → Option Arm) → (ArmName → Option Arm) → Type 0
KeepsGone f g = (n : ArmName) (a : Arm) → f n ≡ Some a → (b : Arm) × (g n ≡ Some b) × (b.gone ≡ a.gone)

pub mapped_keeps : (f : ArmName → Arm → Arm) (arms : ArmName → Option Arm) → ((n : ArmName) (a : Arm) → (f n a).gone ≡ a.gone) → KeepsGone arms (each_arm f arms)
mapped_keeps f arms same n a e = (f n a, ap (map_arm (f n)) e, same n a)

pub mapped_keeps_back : (f : ArmName → Arm → Arm) (arms : ArmName → Option Arm) → ((n : ArmName) (a : Arm) → (f n a).gone ≡ a.gone) → KeepsGone (each_arm f arms) arms
mapped_keeps_back f arms same n b e =
    let z = mapped_arm (f n) (arms n) b e in
    (z.0, z.1, sym (same n z.0) ∙ ap (λ (x : Arm). x.gone) (sym z.2))

pub stays_of : (f g : ArmName → Option Arm) → KeepsGone f g → Stays f g
stays_of f g keeps n a e here = let z = keeps n a e in (z.0, z.1, z.2 ∙ here)

pub mapped_stays : (f : ArmName → Arm → Arm) (arms : ArmName → Option Arm) → ((n : ArmName) (a : Arm) → (f n a).gone ≡ a.gone) → Stays arms (each_arm f arms)
mapped_stays f arms same = stays_of arms (each_arm f arms) (mapped_keeps f arms same)

pub mapped_back : (f : ArmName → Arm → Arm) (arms : ArmName → Option Arm) → ((n : ArmName) (a : Arm) → (f n a).gone ≡ a.gone) → Stays (each_arm f arms) arms
mapped_back f arms same = stays_of (each_arm f arms) arms (mapped_keeps_back f arms same)

-- the targets of a pass are among those before
abbrev pub Fewer : Option Pass → Option Pass → Type 0
Fewer o o' = (p' : Pass) (n : ArmName) → o' ≡ Some p' → has_name p'.targets n ≡ true → (p : Pass) × (o ≡ Some p) × (has_name p.targets n ≡ true)

-- targets are listed
abbrev pub TargetsListed : (ℕ → List ArmName) → Option Pass → Type 0
TargetsListed order o = (p : Pass) (n : ArmName) → o ≡ Some p → has_name p.targets n ≡ true → (c : ℕ) × (has_name (order c) n ≡ true)

pub same_pass : (o : Option Pass) → Fewer o o
same_pass o p n e t = (p, e, t)

pub no_pass : (o : Option Pass) → Fewer o None
no_pass o p n e t = absurd (none_some None p refl e)

pub new_pass : (o : Option Pass) (p p' : Pass) → o ≡ Some p → ((n : ArmName) → has_name p'.targets n ≡ true → has_name p.targets n ≡ true) → Fewer o (Some p')
new_pass o p p' e fewer r n is t = (p, e, fewer n (subst (λ (x : Pass). has_name x.targets n ≡ true) (sym (some_injective p' r is)) t))

pub fewer_listed : (q : Core) (o : Option Pass) → Fewer q.pass o → AreListed q → TargetsListed q.order o
fewer_listed q o fewer s p n e t = let z = fewer p n e t in s.targets z.0 n z.1 z.2

-- arms and the pass change, and no slot's order does
pub listed_on : (q : Core) (held' : Key → Option Held) (arm' : ArmName → Option Arm) (pass' : Option Pass) (last' : ℕ) → Stays q.arm arm' → Stays arm' q.arm
    → TargetsListed q.order pass' → AreListed q → AreListed (record { held = held'; arm = arm'; order = q.order; pass = pass'; last = last' })
listed_on q held' arm' pass' last' on back targets s = record {
  data_of = λ c n e. let z = s.data_of c n e in on n z.0 z.1 z.2;
  one = s.one;
  all = λ n a e here. let z = back n a e here in s.all n z.0 z.1 z.2;
  targets = targets;
}

-- each arm is changed, and keeps whether it is detached
pub each_listed : (q : Core) (f : ArmName → Arm → Arm) (held' : Key → Option Held) (pass' : Option Pass) (last' : ℕ) → ((n : ArmName) (a : Arm) → (f n a).gone ≡ a.gone)
    → TargetsListed q.order pass' → AreListed q → AreListed (record { held = held'; arm = each_arm f q.arm; order = q.order; pass = pass'; last = last' })
each_listed q f held' pass' last' same targets s = listed_on q held' (each_arm f q.arm) pass' last' (mapped_stays f q.arm same) (mapped_back f q.arm same) targets s

-- only the pass changes, and blocks and tickets
pub pass_listed : (q : Core) (held' : Key → Option Held) (pass' : Option Pass) (last' : ℕ) → TargetsListed q.order pass' → AreListed q
    → AreListed (record { held = held'; arm = q.arm; order = q.order; pass = pass'; last = last' })
pass_listed q held' pass' last' targets s = listed_on q held' q.arm pass' last' (λ n a e here. (a, e, here)) (λ n a e here. (a, e, here)) targets s

-- of a state and its images
pub record Listed (w : State) : Type 0 where
  pub core : AreListed w.core
  pub images : (img : Image) → IsImage w img → AreListed img.core

-- the images stay
pub core_listed : (w w' : State) → w'.image ≡ w.image → w'.sealed ≡ w.sealed → AreListed w'.core → Listed w → Listed w'
core_listed w w' image sealed core s = record {
  core = core;
  images = λ img is. elim is [
    | inl e ↦ s.images img (inl (sym image ∙ e))
    | inr e ↦ s.images img (inr (sym sealed ∙ e))
  ];
}

listed_below : (order : ℕ → List ArmName) (top : ℕ) (n : ArmName) → has_name (arms_below order top) n ≡ true → (c : ℕ) × (has_name (order c) n ≡ true)
listed_below order zero n e = absurd (true≢false (sym e))
listed_below order (suc top) n e = of (listed_below order top n) (either_true (has_name (arms_below order top) n) (has_name (order top) n) (sym (has_append (arms_below order top) (order top) n) ∙ e))
  where
    of : (has_name (arms_below order top) n ≡ true → (c : ℕ) × (has_name (order c) n ≡ true)) → (has_name (arms_below order top) n ≡ true) ⊎ (has_name (order top) n ≡ true) → (c : ℕ) × (has_name (order c) n ≡ true)
    of rest (inl z) = rest z
    of rest (inr z) = (top, z)

plan_targets : (w : State) (kind : PassKind) (targets : List ArmName) → (planned_pass w kind targets).targets ≡ targets
plan_targets w Rebuild targets = refl
plan_targets w Heal targets = refl

-- a pass is planned
pub plan_listed : (w : State) (kind : PassKind) (targets : List ArmName) → AreListed (record w.core { pass = None })
    → ((n : ArmName) → has_name targets n ≡ true → (c : ℕ) × (has_name (w.core.order c) n ≡ true)) → AreListed (plan_state w kind targets).core
plan_listed w kind targets s there =
    each_listed (record w.core { pass = None }) (λ n. fill_if (not (is_heal kind) && has_name targets n) (w.open_group + 1)) w.core.held (Some (planned_pass w kind targets)) (w.core.last + 1) (λ n a. refl)
    (λ p n e t. there n (subst (λ ns. has_name ns n ≡ true) (plan_targets w kind targets) (subst (λ (x : Pass). has_name x.targets n ≡ true) (sym (some_injective (planned_pass w kind targets) p e)) t)))
    s

pub targets_listed : (l : Layout) (q : Core) (kind : PassKind) (n : ArmName) → has_name (targets_of l q kind) n ≡ true → (c : ℕ) × (has_name (q.order c) n ≡ true)
targets_listed l q kind n e = listed_below q.order l.slots n (has_filter (is_target l q kind) (arms_below q.order l.slots) n e).0

here_again : (a : Arm) → a.gone ≡ None → is_here (Some a) ≡ true
here_again a e = subst (λ g. elim g as (λ g. Bool) [ None ↦ true | Some g ↦ false ] ≡ true) (sym e) refl

pub image_listed : (t version : ℕ) (q : Core) → AreListed q → AreListed (image_of t version q).core
image_listed t version q s = listed_on q (λ k. seal_held t (q.held k)) (λ n. seal_arm (q.arm n)) q.pass q.last
    (λ n a e here. (a, ap seal_arm e ∙ ap (λ b. keep_if b a) (here_again a here), here))
    (λ n a e here. (a, sealed_arm (q.arm n) a e, here))
    s.targets s

kept_here : (t : ℕ) (o : Option Arm) (a : Arm) → o ≡ Some a → a.gone ≡ None → (if is_gone_arm t o then None else o) ≡ Some a
kept_here t o a e here = subst (λ x. (if is_gone_arm t x then None else x) ≡ Some a) (sym e) (of a.gone here)
  where
    of : (g : Option Gone) → g ≡ None → (if is_gone_by t g then None else Some a) ≡ Some a
    of None e = refl
    of (Some x) e = absurd (none_some (Some x) x e refl)

module _ (l : Layout) (lay : IsLayout l) where
  -- ---- Attach
  module _ (w : State) (slot : ℕ) (n : ArmName) (v : Arm) (here_v : v.gone ≡ None) (unused : w.core.arm n ≡ None) (s : AreListed w.core) where
    pub apart : (m : ArmName) (a : Arm) → w.core.arm m ≡ Some a → name_eq n m ≡ false
    apart m a e = elim (bool_cases (name_eq n m)) [
      | inl is ↦ absurd (none_some (w.core.arm n) a unused (subst (λ x. w.core.arm x ≡ Some a) (sym (name_true n m is)) e))
      | inr other ↦ other
    ]

    joined : (c : ℕ) (m : ArmName) → has_name (set_order w.core.order slot (w.core.order slot ++ n ∷ []) c) m ≡ true → (has_name (w.core.order c) m ≡ true) ⊎ ((slot ≡ c) × (n ≡ m))
    joined c m e = elim (order_cases l lay w.core.order slot c (w.core.order slot ++ n ∷ []) m e) [
      | inl z ↦ elim (either_true (has_name (w.core.order slot) m) (has_name (n ∷ []) m) (sym (has_append (w.core.order slot) (n ∷ []) m) ∙ z.1)) [
        | inl old ↦ inl (subst (λ x. has_name (w.core.order x) m ≡ true) z.0 old)
        | inr new ↦ inr (z.0, only new)
      ]
      | inr z ↦ inl z
    ]
      where
        only : has_name (n ∷ []) m ≡ true → n ≡ m
        only e = elim (either_true (name_eq n m) false e) [
          | inl t ↦ name_true n m t
          | inr f ↦ absurd (true≢false (sym f))
        ]

    pub stays_listed : (c : ℕ) (m : ArmName) → has_name (w.core.order c) m ≡ true → has_name (set_order w.core.order slot (w.core.order slot ++ n ∷ []) c) m ≡ true
    stays_listed c m e = by (slot == c) refl
      where
        by : (b : Bool) → (slot == c) ≡ b → has_name (if b then w.core.order slot ++ n ∷ [] else w.core.order c) m ≡ true
        by true is = has_append (w.core.order slot) (n ∷ []) m ∙ true_left (has_name (w.core.order slot) m) (has_name (n ∷ []) m) (subst (λ x. has_name (w.core.order x) m ≡ true) (sym (is_equal slot c is)) e)
        by false is = e

    last_listed : has_name (set_order w.core.order slot (w.core.order slot ++ n ∷ []) slot) n ≡ true
    last_listed = by (slot == slot) (equal slot slot refl)
      where
        by : (b : Bool) → b ≡ true → has_name (if b then w.core.order slot ++ n ∷ [] else w.core.order slot) n ≡ true
        by true is = has_append (w.core.order slot) (n ∷ []) n ∙ true_right (has_name (w.core.order slot) n) (has_name (n ∷ []) n) (true_left (name_eq n n) false (name_refl n))
        by false is = absurd (true≢false (sym is))

    not_twice : (c : ℕ) (m : ArmName) → n ≡ m → has_name (w.core.order c) m ≡ true → ⊥
    not_twice c m is e =
        let z = s.data_of c m e in
        none_some (w.core.arm m) z.0 (subst (λ x. w.core.arm x ≡ None) is unused) z.1

    pub attach_listed : AreListed (record w.core { pass = None; arm = set_arm w.core.arm n (Some v); order = set_order w.core.order slot (w.core.order slot ++ n ∷ []) })
    attach_listed = record {
      data_of = λ c m e. elim (joined c m e) [
        | inl old ↦ let z = s.data_of c m old in (z.0, arm_other w.core.arm n m (Some v) (apart m z.0 z.1) ∙ z.1, z.2)
        | inr new ↦ (v, subst (λ x. set_arm w.core.arm n (Some v) x ≡ Some v) new.1 (arm_at w.core.arm n (Some v)), here_v)
      ];
      one = λ c d m e e'. elim (joined c m e) [
        | inl old ↦ elim (joined d m e') [
          | inl old' ↦ s.one c d m old old'
          | inr new' ↦ absurd (not_twice c m new'.1 old)
        ]
        | inr new ↦ elim (joined d m e') [
          | inl old' ↦ absurd (not_twice d m new.1 old')
          | inr new' ↦ sym new.0 ∙ new'.0
        ]
      ];
      all = λ m a e here. elim (arm_cases w.core.arm n m (Some v) a e) [
        | inl z ↦ (slot, subst (λ x. has_name (set_order w.core.order slot (w.core.order slot ++ n ∷ []) slot) x ≡ true) z.0 last_listed)
        | inr z ↦ let y = s.all m a z.1 here in (y.0, stays_listed y.0 m y.1)
      ];
      targets = λ p m e. absurd (none_some None p refl e);
    }

  -- ---- Detach
  module _ (w : State) (slot : ℕ) (n : ArmName) (a : Arm) (listed : has_name (w.core.order slot) n ≡ true) (found : w.core.arm n ≡ Some a) (idle : w.core.pass ≡ None) (s : AreListed w.core) where
    pub left : (c : ℕ) (m : ArmName) → has_name (set_order w.core.order slot (filter (λ x. not (name_eq n x)) (w.core.order slot)) c) m ≡ true → (has_name (w.core.order c) m ≡ true) × (name_eq n m ≡ false)
    left c m e = elim (order_cases l lay w.core.order slot c (filter (λ x. not (name_eq n x)) (w.core.order slot)) m e) [
      | inl z ↦ let y = has_filter (λ x. not (name_eq n x)) (w.core.order slot) m z.1 in (subst (λ x. has_name (w.core.order x) m ≡ true) z.0 y.0, not_true (name_eq n m) y.1)
      | inr z ↦ (z, elsewhere z (slot == c) refl)
    ]
      where
        out : (x : ArmName) → name_eq n m ≡ true → has_name (filter (λ x. not (name_eq n x)) (w.core.order slot)) m ≡ true → ⊥
        out x is t = absurd_test (name_eq n m) is (not_true (name_eq n m) (has_filter (λ x. not (name_eq n x)) (w.core.order slot) m t).1)

        elsewhere : has_name (w.core.order c) m ≡ true → (b : Bool) → (slot == c) ≡ b → name_eq n m ≡ false
        elsewhere z true at = elim (bool_cases (name_eq n m)) [
          | inl is ↦ absurd (out m is (subst (λ b. has_name (if b then filter (λ x. not (name_eq n x)) (w.core.order slot) else w.core.order c) m ≡ true) at e))
          | inr f ↦ f
        ]
        elsewhere z false at = elim (bool_cases (name_eq n m)) [
          | inl is ↦ absurd (true≢false (sym (equal slot c (s.one slot c m (subst (λ x. has_name (w.core.order slot) x ≡ true) (name_true n m is) listed) z)) ∙ at))
          | inr f ↦ f
        ]

    pub keeps_listed : (c : ℕ) (m : ArmName) → name_eq n m ≡ false → has_name (w.core.order c) m ≡ true → has_name (set_order w.core.order slot (filter (λ x. not (name_eq n x)) (w.core.order slot)) c) m ≡ true
    keeps_listed c m other e = by (slot == c) refl
      where
        by : (b : Bool) → (slot == c) ≡ b → has_name (if b then filter (λ x. not (name_eq n x)) (w.core.order slot) else w.core.order c) m ≡ true
        by true is = filter_has (λ x. not (name_eq n x)) (w.core.order slot) m (subst (λ x. has_name (w.core.order x) m ≡ true) (sym (is_equal slot c is)) e) (not_false (name_eq n m) other)
        by false is = e

    pub leave_listed : (v : Arm) (g : Gone) → v.gone ≡ Some g → AreListed (record w.core { arm = set_arm w.core.arm n (Some v); order = set_order w.core.order slot (filter (λ x. not (name_eq n x)) (w.core.order slot)) })
    leave_listed v g gone = record {
      data_of = λ c m e. let y = left c m e in let z = s.data_of c m y.0 in (z.0, arm_other w.core.arm n m (Some v) y.1 ∙ z.1, z.2);
      one = λ c d m e e'. s.one c d m (left c m e).0 (left d m e').0;
      all = λ m b e here. elim (arm_cases w.core.arm n m (Some v) b e) [
        | inl z ↦ absurd (none_some b.gone g here (ap (λ (x : Arm). x.gone) (sym (some_injective v b z.1)) ∙ gone))
        | inr z ↦ let y = s.all m b z.1 here in (y.0, keeps_listed y.0 m z.0 y.1)
      ];
      targets = λ p m e. absurd (none_some w.core.pass p idle e);
    }

  -- ---- a new metaslab
  created_listed : AreListed (created_core l)
  created_listed = record {
    data_of = λ c n e. (new_arm, is_there c n e, refl);
    one = λ c d n e e'. single c d n e e';
    all = λ n a e here. there n a e;
    targets = λ p n e. absurd (none_some None p refl e);
  }
    where
      only : (c : ℕ) (n : ArmName) → has_name (if nat_lt c l.slots then Leaf c ∷ [] else []) n ≡ true → (c < l.slots) × (Leaf c ≡ n)
      only c n e = by (nat_lt c l.slots) refl e
        where
          by : (b : Bool) → nat_lt c l.slots ≡ b → has_name (if b then Leaf c ∷ [] else []) n ≡ true → (c < l.slots) × (Leaf c ≡ n)
          by true is e = elim (either_true (name_eq (Leaf c) n) false e) [
            | inl t ↦ (is_below c l.slots is, name_true (Leaf c) n t)
            | inr f ↦ absurd (true≢false (sym f))
          ]
          by false is e = absurd (true≢false (sym e))

      is_there : (c : ℕ) (n : ArmName) → has_name (if nat_lt c l.slots then Leaf c ∷ [] else []) n ≡ true → created_arm l n ≡ Some new_arm
      is_there c n e = let z = only c n e in subst (λ m. created_arm l m ≡ Some new_arm) z.1 (rw (below c l.slots z.0) refl)

      leaf_of : ArmName → ℕ
      leaf_of (Leaf m) = m
      leaf_of (Spare t) = t

      single : (c d : ℕ) (n : ArmName) → has_name (if nat_lt c l.slots then Leaf c ∷ [] else []) n ≡ true → has_name (if nat_lt d l.slots then Leaf d ∷ [] else []) n ≡ true → c ≡ d
      single c d n e e' = ap leaf_of ((only c n e).1 ∙ sym (only d n e').1)

      there : (n : ArmName) (a : Arm) → created_arm l n ≡ Some a → (c : ℕ) × (has_name (if nat_lt c l.slots then Leaf c ∷ [] else []) n ≡ true)
      there (Leaf m) a e = (m, rw (kept_if (nat_lt m l.slots) new_arm a e).0 (true_left (name_eq (Leaf m) (Leaf m)) false (name_refl (Leaf m))))
      there (Spare t) a e = absurd (none_some None a refl e)

  pub created_all : (version : ℕ) → Listed (created l version)
  created_all version = record {
    core = created_listed;
    images = λ img is. elim is [
      | inl e ↦ subst (λ (i : Image). AreListed i.core) e created_listed
      | inr e ↦ absurd (none_some None img refl e)
    ];
  }

module _ (l : Layout) (lay : IsLayout l) where
  module _ (w : State) (slot : ℕ) (n : ArmName) (last : ℕ) (unused : w.core.arm n ≡ None) (s : Listed w) where
    abbrev q : Core
    q = attached_core w.core slot n last

    abbrev new_one : Arm
    new_one = record { offline = false; fresh = true; log = up_to last; gone = None }

    renewed : (o : Option Pass) → TargetsListed q.order o → AreListed (record (renewed_core l w.core last q) { pass = o })
    renewed o targets = each_listed (record q { pass = None }) (λ m. renew_if (has_moved l w.core q m) last) w.core.held o w.core.last (λ m a. refl) targets
        (attach_listed l lay w slot n new_one refl unused s.core)

    left_ones : (p : Pass) → w.core.pass ≡ Some p → TargetsListed q.order (Some (lose_targets (has_moved l w.core q) 0 p))
    left_ones p pass r m e t =
        let kept = has_filter (λ x. not (has_moved l w.core q x)) p.targets m (subst (λ (x : Pass). has_name x.targets m ≡ true) (sym (some_injective (lose_targets (has_moved l w.core q) 0 p) r e)) t) in
        let z = s.core.targets p m pass kept.0 in
        (z.0, stays_listed l lay w slot n new_one refl unused s.core z.0 m z.1)

    attached_listed : Listed (attach_state l w slot n last)
    attached_listed =
        replan_cases l Listed (rearranged_state l w last q) (has_moved l w.core q) w.core.pass
        (λ none. core_listed w (rearranged_state l w last q) refl refl (renewed w.core.pass (λ p m e. absurd (none_some w.core.pass p none e))) s)
        (λ p pass kind. core_listed w (record (rearranged_state l w last q) { core = record (renewed_core l w.core last q) { pass = Some (lose_targets (has_moved l w.core q) 0 p) } }) refl refl
        (renewed (Some (lose_targets (has_moved l w.core q) 0 p)) (left_ones p pass)) s)
        (λ p pass kind. core_listed w (plan_state (rearranged_state l w last q) Rebuild (targets_of l (renewed_core l w.core last q) Rebuild)) refl refl
        (plan_listed (rearranged_state l w last q) Rebuild (targets_of l (renewed_core l w.core last q) Rebuild) (renewed None (λ r m e. absurd (none_some None r refl e)))
        (λ m e. targets_listed l (renewed_core l w.core last q) Rebuild m e)) s)

  detached_listed : (w : State) (slot : ℕ) (n : ArmName) (a : Arm) (last : ℕ) → has_name (w.core.order slot) n ≡ true → w.core.arm n ≡ Some a → w.core.pass ≡ None → Listed w
      → Listed (detach_state l w slot n a last)
  detached_listed w slot n a last listed found idle s =
      let q = detached_core w.core slot n a w.open_group in
      let g : Gone = record { slot = slot; group = w.open_group } in
      core_listed w (detach_state l w slot n a last) refl refl
      (each_listed q (λ m. renew_if (has_moved l w.core q m) last) w.core.held w.core.pass w.core.last (λ m b. refl) (λ p m e. absurd (none_some w.core.pass p idle e))
      (leave_listed l lay w slot n a listed found idle s.core (record a { gone = Some g }) g refl)) s

  switched_listed : (w : State) (n : ArmName) (a : Arm) (offline : Bool) → w.core.arm n ≡ Some a → Listed w → Listed (switch_state w n a offline)
  switched_listed w n a offline found s = core_listed w (switch_state w n a offline) refl refl
      (listed_on w.core w.core.held (set_arm w.core.arm n (Some v)) w.core.pass w.core.last on back s.core.targets s.core) s
    where
      v : Arm
      v = record a { offline = offline }

      on : Stays w.core.arm (set_arm w.core.arm n (Some (record a { offline = offline })))
      on m b e here = elim (bool_cases (name_eq n m)) [
        | inl is ↦
            let same : b ≡ a = some_same (w.core.arm m) b a e (subst (λ x. w.core.arm x ≡ Some a) (name_true n m is) found) in (
              record a { offline = offline },
              subst (λ x. set_arm w.core.arm n (Some (record a { offline = offline })) x ≡ Some (record a { offline = offline })) (name_true n m is) (arm_at w.core.arm n (Some (record a { offline = offline }))),
              ap (λ (x : Arm). x.gone) (sym same) ∙ here,
            )
        | inr other ↦ (b, arm_other w.core.arm n m (Some (record a { offline = offline })) other ∙ e, here)
      ]

      back : Stays (set_arm w.core.arm n (Some (record a { offline = offline }))) w.core.arm
      back m b e here = elim (arm_cases w.core.arm n m (Some (record a { offline = offline })) b e) [
        | inl z ↦ (a, subst (λ x. w.core.arm x ≡ Some a) z.0 found, ap (λ (x : Arm). x.gone) (some_injective (record a { offline = offline }) b z.1) ∙ here)
        | inr z ↦ (b, z.1, here)
      ]

  held_listed : (w : State) (held' : Key → Option Held) (w' : State) → w'.core ≡ record w.core { held = held' } → w'.image ≡ w.image → w'.sealed ≡ w.sealed → Listed w → Listed w'
  held_listed w held' w' core image sealed s = core_listed w w' image sealed (subst AreListed (sym core) (pass_listed w.core held' w.core.pass w.core.last s.core.targets s.core)) s

  finish_listed : (w : State) (k : Key) (h : Held) (m : ℕ) → Listed w → Listed (finish_state l w k h m)
  finish_listed w k h m s = by (nat_lt l.parity m)
    where
      by : (b : Bool) → Listed (if b then gone_state w k else live_state w k h)
      by true = held_listed w (gone_state w k).core.held (gone_state w k) refl refl refl s
      by false = held_listed w (live_state w k h).core.held (live_state w k h) refl refl refl s

  -- a pass goes on with fewer targets
  goes_listed : (w : State) (p p' : Pass) (w' : State) → w.core.pass ≡ Some p → w'.core ≡ record w.core { pass = Some p' } → w'.image ≡ w.image → w'.sealed ≡ w.sealed
      → ((n : ArmName) → has_name p'.targets n ≡ true → has_name p.targets n ≡ true) → Listed w → Listed w'
  goes_listed w p p' w' pass core image sealed fewer s =
      core_listed w w' image sealed (subst AreListed (sym core)
      (pass_listed w.core w.core.held (Some p') w.core.last (fewer_listed w.core (Some p') (new_pass w.core.pass p p' pass fewer) s.core) s.core)) s

  stripe_listed : (w : State) (p : Pass) (n : Loan) (h : Held) (failed : List ℕ) → w.core.pass ≡ Some p → Listed w → Listed (land_stripe_state l w p n h failed)
  stripe_listed w p n h failed pass s = by (nat_lt l.parity (unsourced l n))
    where
      by : (b : Bool) → Listed (if b then pass_over w p 1 (n.stripe + 1) else mend_state l w p n h failed)
      by true = goes_listed w p _ (pass_over w p 1 (n.stripe + 1)) pass refl refl refl (λ m z. z) s
      by false = goes_listed w p _ (mend_state l w p n h failed) pass refl refl refl (λ m e. (has_filter (λ x. not (misses_stripe l w.core n.stripe failed x)) p.targets m e).0) s

  block_listed : (w : State) (p : Pass) (n : Loan) (h : Held) (failed : List ℕ) (patched : List Patched) (unreadable whole : Bool) → w.core.pass ≡ Some p → Listed w
      → Listed (land_block_state l w p n h failed patched unreadable whole)
  block_listed w p n h failed patched true whole pass s = goes_listed w p _ (pass_over w p 1 (h.first + h.stripes)) pass refl refl refl (λ m z. z) s
  block_listed w p n h failed patched false whole pass s =
      goes_listed w p _ (heal_state l w p n h failed patched whole) pass refl refl refl (λ m e. (has_filter (λ x. not (misses_block l w.core h failed x)) p.targets m e).0) s

  lost_fewer : (q : Core) (bad : ArmName → Bool) → Fewer q.pass (map_pass (lose_some bad) q.pass)
  lost_fewer q bad p n e t =
      let z = mapped_pass (lose_some bad) q.pass p e in
      (z.0, z.1, (has_filter (λ m. not (bad m)) z.0.targets n (subst (λ (x : Pass). has_name x.targets n ≡ true) z.2 t)).0)

  seal_listed : (w : State) (t : ℕ) (failed : List ℕ) (wrote : Bool) → Listed w → Listed (seal_state l w t failed wrote)
  seal_listed w t failed wrote s =
      let bad = lies_on l w.core (is_silent w.core failed) in
      let core : AreListed (sealed_core l w.core t failed wrote)
      = each_listed w.core (λ n. log_if (wrote && bad n) t) w.core.held (map_pass (lose_some bad) w.core.pass) w.core.last (λ n a. refl)
      (fewer_listed w.core (map_pass (lose_some bad) w.core.pass) (lost_fewer w.core bad) s.core) s.core in
      record {
        core = core;
        images = λ img is. elim is [
          | inl e ↦ s.images img (inl e)
          | inr e ↦ subst (λ (i : Image). AreListed i.core) (some_injective (image_of t w.asked (sealed_core l w.core t failed wrote)) img e) (image_listed t w.asked (sealed_core l w.core t failed wrote) core)
        ];
      }

  commit_listed : (w : State) (t : ℕ) (img : Image) → w.sealed ≡ Some img → Listed w → Listed (commit_state l w t img)
  commit_listed w t img sealed s = record {
    core = listed_on w.core (commit_state l w t img).core.held (commit_state l w t img).core.arm w.core.pass w.core.last
        (λ n a e here. (a, kept_here t (w.core.arm n) a e here, here))
        (λ n a e here. (a, (kept_some (is_gone_arm t (w.core.arm n)) (w.core.arm n) a e).1, here))
        s.core.targets s.core;
    images = λ i is. elim is [
      | inl e ↦ subst (λ (x : Image). AreListed x.core) e (s.images img (inr sealed))
      | inr e ↦ absurd (none_some None i refl e)
    ];
  }

  reopen_listed : (w : State) (img : Image) (doubtful : List Segment) → IsImage w img → Listed w → Listed (reopen_state l w img doubtful)
  reopen_listed w img doubtful is s = record {
    core = each_listed img.core (λ n. cut_above img.group) img.core.held img.core.pass img.core.last (λ n a. refl) (s.images img is).targets (s.images img is);
    images = λ i e. elim e [
      | inl x ↦ subst (λ (y : Image). AreListed y.core) x (s.images img is)
      | inr x ↦ absurd (none_some None i refl x)
    ];
  }

  pub opened_image : (w : State) (img : Image) (t : ℕ) → ((w.image ≡ img) × (w.committed ≡ t)) ⊎ ((w.sealed ≡ Some img) × (w.closing ≡ Some t)) → IsImage w img
  opened_image w img t (inl z) = inl z.0
  opened_image w img t (inr z) = inr z.0

  pub step_listed : (w : State) (e : Event) (new : State) → Step l w e new → Listed w → Listed new
  step_listed w (Begin key first stripes len birth digest) new x s = subst Listed (sym x.made) (held_listed w _ (begin_state w key _) refl refl refl s)
  step_listed w (Put key landed failed) new x s =
      subst Listed (sym x.made) (core_listed w (put_state l w key landed x.h x.c x.m) refl refl
      (each_listed w.core (λ n. log_if (has_name (w.core.order (l.slot_of x.h.first x.c)) n && not (has_name landed n)) x.h.birth) (put_state l w key landed x.h x.c x.m).core.held w.core.pass w.core.last
      (λ n a. refl) s.core.targets s.core) s)
  step_listed w (Finish key) new x s = subst Listed (sym x.made) (finish_listed w key x.h x.m s)
  step_listed w (Abort key) new x s = subst Listed (sym x.made) (held_listed w _ (gone_state w key) refl refl refl s)
  step_listed w (Free key group) new x s = subst Listed (sym x.made) (held_listed w _ (free_state w key x.h group) refl refl refl s)
  step_listed w (Fetch key failed) new x s = subst Listed (sym x.made) s
  step_listed w (Damage leaf sector failed) new x s = subst Listed (sym x.made) s
  step_listed w (Offline leaf) new x s = subst Listed (sym x.made) (switched_listed w (Leaf leaf) x.a true x.there.found s)
  step_listed w (Online leaf) new x s = subst Listed (sym x.made) (switched_listed w (Leaf leaf) x.a false x.there.found s)
  step_listed w (Attach slot arm) new x s = subst Listed (sym x.made) (attached_listed w slot arm x.last x.unused s)
  step_listed w (Detach slot arm) new x s = subst Listed (sym x.made) (detached_listed w slot arm x.a x.last x.listed x.found x.idle s)
  step_listed w Upgrade new x s = subst Listed (sym x.made) (core_listed w (upgrade_state w) refl refl s.core s)
  step_listed w (Close group) new x s = subst Listed (sym x.made) (core_listed w (close_state w group) refl refl s.core s)
  step_listed w (Seal group failed) new x s = subst Listed (sym x.made) (seal_listed w group failed.items x.wrote s)
  step_listed w (Commit group) new x s = subst Listed (sym x.made) (commit_listed w group x.image x.sealed s)
  step_listed w (Plan kind) new x s =
      subst Listed (sym x.made) (core_listed w (plan_state w kind (targets_of l w.core kind)) refl refl
      (plan_listed w kind (targets_of l w.core kind) (pass_listed w.core w.core.held None w.core.last (λ p n e. absurd (none_some None p refl e)) s.core)
      (λ n e. targets_listed l w.core kind n e)) s)
  step_listed w Ready new x s = subst Listed (sym x.made) (goes_listed w x.p _ (ready_state w x.p) x.pass refl refl refl (λ n z. z) s)
  step_listed w (Lend failed) new x s = subst Listed (sym x.made) (goes_listed w x.p _ (lend_state w x.p x.n failed.items) x.pass refl refl refl (λ n z. z) s)
  step_listed w (LandStripe pass serial failed) new x s = subst Listed (sym x.made) (stripe_listed w x.p x.n x.h failed.items x.counts.pass_is s)
  step_listed w (LandBlock pass serial failed patched unreadable) new x s =
      subst Listed (sym x.made) (block_listed w x.p x.n x.h failed.items patched.items unreadable x.whole x.counts.pass_is s)
  step_listed w (Done failed) new x s =
      let p = ended_pass l w.core x.p failed.items in
      subst Listed (sym x.made) (core_listed w (done_state w p) refl refl
      (each_listed w.core (λ n. excise_if ((p.errors == 0) && has_name p.targets n) p.max) w.core.held None w.core.last (λ n a. refl) (λ r n e. absurd (none_some None r refl e)) s.core) s)
  step_listed w Cancel new x s =
      subst Listed (sym x.made) (core_listed w (cancel_state w) refl refl (pass_listed w.core w.core.held None w.core.last (λ p n e. absurd (none_some None p refl e)) s.core) s)
  step_listed w (Reopen group doubtful) new x s = subst Listed (sym x.made) (reopen_listed w x.image doubtful.items (opened_image w x.image group x.one) s)
