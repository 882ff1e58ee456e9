-- Tests over the entries of the table of blocks and tickets, and over leaves.
use Rattle.std.proofs.Common.{◌≡◌, ◌==◌, ◌<◌, nat_le, arith, ◌&&◌, ◌||◌, not, ℕ, Bool, true, false, List, [], ◌∷◌, Option, Some, None, is_some, filter, cond, if◌then◌else◌, refl, sym, ◌∙◌, ap}
use Rattle.std.specs.List.{list_any}
use Rattle.std.specs.Map.{keys_of}
use Rattle.std.proofs.lemmas.Bool.{true≢false}
use Rattle.std.proofs.lemmas.Bool.Decides.{nat_tests}
use Rattle.draid_machine.specs.declared.names.Key.{Key}
use Rattle.draid_machine.specs.declared.names.ArmName.{ArmName}
use Rattle.draid_machine.specs.declared.names.Held.{Held}
use Rattle.draid_machine.specs.Names.{is_block, is_freed_by, key_eq, name_eq, has_name}
use Rattle.draid_machine.specs.State as state
use Rattle.draid_machine.specs.Step.{HasWritten}
use Rattle.draid_images.specs.Seals.{is_early, is_written}
use Rattle.draid_machine.specs.Arms.{online}
use Rattle.draid_machine.specs.After.{map_arm, log_if}
use Rattle.draid_machine.proofs.Small.{both_true, true_both, equal, is_equal, some_injective, key_refl, name_true, not_true}
use Rattle.draid_world.specs.World.{held_in, arm_in, arm_of}
use Rattle.draid_world.specs.declared.world.Arm.{Arm}
use Rattle.draid_steps.proofs.Entries.{AreApart}

pub any_held : (p : Held → Bool) (es : List (Key × Held)) → AreApart es → list_any (λ e. p e.1) es ≡ true → (k : Key) × (h : Held) × (held_in es k ≡ Some h) × (p h ≡ true)
any_held p [] apart any = absurd (true≢false (sym any))
any_held p (e ∷ es) apart any = by (p e.1) refl any (λ rest. any_held p es apart.1 rest)
  where
    by : (b : Bool) → p e.1 ≡ b → (b || list_any (λ e. p e.1) es) ≡ true → (list_any (λ e. p e.1) es ≡ true → (k : Key) × (h : Held) × (held_in es k ≡ Some h) × (p h ≡ true))
        → (k : Key) × (h : Held) × (held_in (e ∷ es) k ≡ Some h) × (p h ≡ true)
    by true is any more = (e.0, e.1, ap (λ b. if b then Some e.1 else held_in es e.0) (key_refl e.0), is)
    by false is any more = let z = more any in (z.0, z.1, ap (λ b. if b then Some e.1 else held_in es z.0) (apart.0 z.0 z.1 z.2) ∙ z.2, z.3)

pub no_held : (p : Held → Bool) (es : List (Key × Held)) → list_any (λ e. p e.1) es ≡ false → (k : Key) (h : Held) → held_in es k ≡ Some h → p h ≡ false
no_held p [] none k h found = absurd (cc)
no_held p (e ∷ es) none k h found = by (p e.1) refl none (key_eq e.0 k) refl found (λ rest there. no_held p es rest k h there)
  where
    by : (b : Bool) → p e.1 ≡ b → (b || list_any (λ e. p e.1) es) ≡ false → (d : Bool) → key_eq e.0 k ≡ d → (if d then Some e.1 else held_in es k) ≡ Some h
        → (list_any (λ e. p e.1) es ≡ false → held_in es k ≡ Some h → p h ≡ false) → p h ≡ false
    by true is none d same found more = absurd (true≢false none)
    by false is none true same found more = sym (ap p (some_injective e.1 h found)) ∙ is
    by false is none false same found more = more none found

-- an arm that isn't offline
pub online_arm : (o : Option state.Arm) → online o ≡ true → (a : state.Arm) × (o ≡ Some a) × (a.offline ≡ false)
online_arm None e = absurd (true≢false (sym e))
online_arm (Some a) e = (a, refl, not_true a.offline e)

pub offline_arm : (o : Option state.Arm) → online o ≡ false → (a : state.Arm) → o ≡ Some a → a.offline ≡ false → ⊥
offline_arm o e a is up = true≢false (sym (ap not up) ∙ sym (ap online is) ∙ e)

-- the names of a table that pass a test
pub named : (test : ArmName → Bool) (es : List (ArmName × Arm)) (n : ArmName) → has_name (filter test (keys_of es)) n ≡ (is_some (arm_in es n) && test n)
named test [] n = refl
named test (e ∷ es) n = by (test e.0) refl (name_eq e.0 n) refl (named test es n)
  where
    both : (b : Bool) → test n ≡ true → true ≡ test n
    both b e = sym e

    by : (b : Bool) → test e.0 ≡ b → (d : Bool) → name_eq e.0 n ≡ d → has_name (filter test (keys_of es)) n ≡ (is_some (arm_in es n) && test n)
        → has_name (cond b (e.0 ∷ filter test (keys_of es)) (filter test (keys_of es))) n ≡ (is_some (if d then Some (arm_of e.1) else arm_in es n) && test n)
    by true is true same rest = ap (λ b. b || has_name (filter test (keys_of es)) n) same ∙ sym (sym (ap test (name_true e.0 n same)) ∙ is)
    by true is false same rest = ap (λ b. b || has_name (filter test (keys_of es)) n) same ∙ rest
    by false is true same rest = rest ∙ ap (λ b. is_some (arm_in es n) && b) here ∙ none (is_some (arm_in es n)) ∙ sym here
      where
        here : test n ≡ false
        here = sym (ap test (name_true e.0 n same)) ∙ is

        none : (b : Bool) → (b && false) ≡ false
        none true = refl
        none false = refl
    by false is false same rest = rest

-- what a log gets at a seal
pub logged_silent : (g : ℕ) (o : Option state.Arm) (silent absent there : Bool) → there ≡ (is_some o && silent) → absent ≡ false → map_arm (log_if (there && not absent) g) o ≡ map_arm (log_if (true && silent) g) o
logged_silent g None silent absent there is away = refl
logged_silent g (Some a) silent absent there is away = ap (λ b. map_arm (log_if b g) (Some a)) (ap (λ b. there && not b) away ∙ and_true there ∙ is)
  where
    and_true : (b : Bool) → (b && true) ≡ b
    and_true true = refl
    and_true false = refl

-- a ticket that isn't early is late
pub late : (t : ℕ) (h : Held) → is_early t h ≡ false → is_block h.stage ≡ false → t < h.birth
late t h e ticket = by (nat_le h.birth t) refl
  where
    by : (b : Bool) → nat_le h.birth t ≡ b → t < h.birth
    by true is = absurd (true≢false (sym (true_both (not (is_block h.stage)) (nat_le h.birth t) (ap not ticket) is) ∙ e))
    by false is = grind (arith, nat_tests)

pub has_written : (q : state.Core) (t : ℕ) (k : Key) (h : Held) → q.held k ≡ Some h → is_written t h ≡ true → HasWritten q t
has_written q t k h found is =
    let a = both_true (is_block h.stage && (h.birth == t)) (not (is_freed_by t h.stage)) is in
    let b = both_true (is_block h.stage) (h.birth == t) a.0 in
    record { key = k; h = h; found = found; block = b.0; born = is_equal h.birth t b.1; stays = not_true (is_freed_by t h.stage) a.1 }

pub not_written : (t : ℕ) (h : Held) → is_written t h ≡ false → is_block h.stage ≡ true → h.birth ≡ t → is_freed_by t h.stage ≡ false → ⊥
not_written t h e block born stays =
    true≢false (sym (true_both (is_block h.stage && (h.birth == t)) (not (is_freed_by t h.stage))
    (true_both (is_block h.stage) (h.birth == t) block (equal h.birth t born)) (ap not stays)) ∙ e)
