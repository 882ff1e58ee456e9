-- Tables that are copied entry by entry.
use Rattle.std.proofs.Common.{◌≡◌, Bool, true, false, List, [], ◌∷◌, Option, Some, None, if◌then◌else◌, refl, sym, ◌∙◌, ap, subst}
use Rattle.std.proofs.lemmas.Bool.{true≢false}
use Rattle.draid_machine.specs.declared.names.Key.{Key}
use Rattle.draid_machine.specs.declared.names.ArmName.{ArmName}
use Rattle.draid_machine.specs.declared.names.Held.{Held}
use Rattle.draid_machine.specs.Names.{key_eq, name_eq}
use Rattle.draid_machine.specs.State as state
use Rattle.draid_world.specs.World.{held_in, arm_in, arm_of}
use Rattle.draid_world.specs.declared.world.Arm.{Arm}
use Rattle.draid_steps.proofs.Entries.{AreApart}
use Rattle.draid_steps.proofs.Kept.{AreArmsApart}
use Rattle.draid_images.specs.declared.copies.Copying.{Copying}
use Rattle.draid_images.specs.declared.copies.Copying.TheVariants.{Sealing, Opening}
use Rattle.draid_images.specs.Copies.{copied_held, copied_arm, put_some, put_some_arm}

abbrev pub else_held : Option Held → Option Held → Option Held
else_held None o = o
else_held (Some h) o = Some h

-- what was copied of all entries but those that are left
pub record IsCopied (m : Copying) (all left : List (Key × Held)) (new : Key → Option Held) : Type 0 where
  pub apart : AreApart left
  pub fresh : (k : Key) (h : Held) → held_in left k ≡ Some h → new k ≡ None
  pub whole : (k : Key) → else_held (new k) (copied_held m (held_in left k)) ≡ copied_held m (held_in all k)

copied_none : (m : Copying) → copied_held m None ≡ None
copied_none (Sealing t) = refl
copied_none (Opening t) = refl

else_none : (o : Option Held) → else_held o None ≡ o
else_none None = refl
else_none (Some h) = refl

pub copied_start : (m : Copying) (all left : List (Key × Held)) (new : List (Key × Held)) → left ≡ all → AreApart all → new ≡ [] → IsCopied m all left (held_in new)
copied_start m all left new is apart empty = record {
  apart = subst AreApart (sym is) apart;
  fresh = λ k h found. ap (λ es. held_in es k) empty;
  whole = λ k. ap (λ es. else_held (held_in es k) (copied_held m (held_in left k))) empty ∙ ap (λ es. copied_held m (held_in es k)) is;
}

pub copied_end : (m : Copying) (all left : List (Key × Held)) (new : Key → Option Held) → IsCopied m all left new → left ≡ [] → (k : Key) → new k ≡ copied_held m (held_in all k)
copied_end m all left new c is k =
    sym (else_none (new k)) ∙ ap (else_held (new k)) (sym (ap (λ es. copied_held m (held_in es k)) is ∙ copied_none m)) ∙ c.whole k

pub copied_step : (m : Copying) (all left rest : List (Key × Held)) (old new : Key → Option Held) (k : Key) (h : Held) → left ≡ (k, h) ∷ rest → IsCopied m all left old
    → ((j : Key) → new j ≡ put_some old k (copied_held m (Some h)) j) → IsCopied m all rest new
copied_step m all left rest old new k h is c put = record {
  apart = apart.1;
  fresh = λ j i found. put j ∙ away (copied_held m (Some h)) j (apart.0 j i found) ∙ c.fresh j i (in_left j (apart.0 j i found) ∙ found);
  whole = λ j. by j (key_eq k j) refl;
}
  where
    apart : AreApart ((k, h) ∷ rest)
    apart = subst AreApart is c.apart

    in_left : (j : Key) → key_eq k j ≡ false → held_in left j ≡ held_in rest j
    in_left j other = ap (λ es. held_in es j) is ∙ ap (λ b. if b then Some h else held_in rest j) other

    here : (j : Key) → key_eq k j ≡ true → held_in left j ≡ Some h
    here j same = ap (λ es. held_in es j) is ∙ ap (λ b. if b then Some h else held_in rest j) same

    away : (o : Option Held) (j : Key) → key_eq k j ≡ false → put_some old k o j ≡ old j
    away None j other = refl
    away (Some i) j other = ap (λ b. if b then Some i else old j) other

    none_left : (j : Key) → key_eq k j ≡ true → held_in rest j ≡ None
    none_left j same = found (held_in rest j) refl
      where
        found : (o : Option Held) → held_in rest j ≡ o → o ≡ None
        found None e = refl
        found (Some i) e = absurd (true≢false (sym same ∙ apart.0 j i e))

    put_here : (o : Option Held) (j : Key) → key_eq k j ≡ true → old j ≡ None → else_held (put_some old k o j) None ≡ else_held (old j) o
    put_here None j same none = refl
    put_here (Some i) j same none = ap (λ b. else_held (if b then Some i else old j) None) same ∙ ap (λ x. else_held x (Some i)) (sym none)

    by : (j : Key) (b : Bool) → key_eq k j ≡ b → else_held (new j) (copied_held m (held_in rest j)) ≡ copied_held m (held_in all j)
    by j true same =
        ap (λ x. else_held x (copied_held m (held_in rest j))) (put j)
        ∙ ap (else_held (put_some old k (copied_held m (Some h)) j)) (ap (copied_held m) (none_left j same) ∙ copied_none m)
        ∙ put_here (copied_held m (Some h)) j same (c.fresh j h (here j same))
        ∙ ap (λ o. else_held (old j) (copied_held m o)) (sym (here j same)) ∙ c.whole j
    by j false other =
        ap (λ x. else_held x (copied_held m (held_in rest j))) (put j ∙ away (copied_held m (Some h)) j other)
        ∙ ap (λ o. else_held (old j) (copied_held m o)) (sym (in_left j other)) ∙ c.whole j

-- ---- the same of arms
abbrev pub else_arm : Option state.Arm → Option state.Arm → Option state.Arm
else_arm None o = o
else_arm (Some a) o = Some a

pub record AreCopied (m : Copying) (all left : List (ArmName × Arm)) (new : ArmName → Option state.Arm) : Type 0 where
  pub apart : AreArmsApart left
  pub fresh : (n : ArmName) (a : state.Arm) → arm_in left n ≡ Some a → new n ≡ None
  pub whole : (n : ArmName) → else_arm (new n) (copied_arm m (arm_in left n)) ≡ copied_arm m (arm_in all n)

no_arm : (m : Copying) → copied_arm m None ≡ None
no_arm (Sealing t) = refl
no_arm (Opening t) = refl

else_no_arm : (o : Option state.Arm) → else_arm o None ≡ o
else_no_arm None = refl
else_no_arm (Some a) = refl

pub arms_start : (m : Copying) (all left : List (ArmName × Arm)) (new : List (ArmName × Arm)) → left ≡ all → AreArmsApart all → new ≡ [] → AreCopied m all left (arm_in new)
arms_start m all left new is apart empty = record {
  apart = subst AreArmsApart (sym is) apart;
  fresh = λ n a found. ap (λ es. arm_in es n) empty;
  whole = λ n. ap (λ es. else_arm (arm_in es n) (copied_arm m (arm_in left n))) empty ∙ ap (λ es. copied_arm m (arm_in es n)) is;
}

pub arms_end : (m : Copying) (all left : List (ArmName × Arm)) (new : ArmName → Option state.Arm) → AreCopied m all left new → left ≡ [] → (n : ArmName) → new n ≡ copied_arm m (arm_in all n)
arms_end m all left new c is n =
    sym (else_no_arm (new n)) ∙ ap (else_arm (new n)) (sym (ap (λ es. copied_arm m (arm_in es n)) is ∙ no_arm m)) ∙ c.whole n

pub arms_step : (m : Copying) (all left rest : List (ArmName × Arm)) (old new : ArmName → Option state.Arm) (n : ArmName) (a : Arm) → left ≡ (n, a) ∷ rest → AreCopied m all left old
    → ((j : ArmName) → new j ≡ put_some_arm old n (copied_arm m (Some (arm_of a))) j) → AreCopied m all rest new
arms_step m all left rest old new n a is c put = record {
  apart = apart.1;
  fresh = λ j i found. put j ∙ away (copied_arm m (Some (arm_of a))) j (apart.0 j i found) ∙ c.fresh j i (in_left j (apart.0 j i found) ∙ found);
  whole = λ j. by j (name_eq n j) refl;
}
  where
    apart : AreArmsApart ((n, a) ∷ rest)
    apart = subst AreArmsApart is c.apart

    in_left : (j : ArmName) → name_eq n j ≡ false → arm_in left j ≡ arm_in rest j
    in_left j other = ap (λ es. arm_in es j) is ∙ ap (λ b. if b then Some (arm_of a) else arm_in rest j) other

    here : (j : ArmName) → name_eq n j ≡ true → arm_in left j ≡ Some (arm_of a)
    here j same = ap (λ es. arm_in es j) is ∙ ap (λ b. if b then Some (arm_of a) else arm_in rest j) same

    away : (o : Option state.Arm) (j : ArmName) → name_eq n j ≡ false → put_some_arm old n o j ≡ old j
    away None j other = refl
    away (Some i) j other = ap (λ b. if b then Some i else old j) other

    none_left : (j : ArmName) → name_eq n j ≡ true → arm_in rest j ≡ None
    none_left j same = found (arm_in rest j) refl
      where
        found : (o : Option state.Arm) → arm_in rest j ≡ o → o ≡ None
        found None e = refl
        found (Some i) e = absurd (true≢false (sym same ∙ apart.0 j i e))

    put_here : (o : Option state.Arm) (j : ArmName) → name_eq n j ≡ true → old j ≡ None → else_arm (put_some_arm old n o j) None ≡ else_arm (old j) o
    put_here None j same none = refl
    put_here (Some i) j same none = ap (λ b. else_arm (if b then Some i else old j) None) same ∙ ap (λ x. else_arm x (Some i)) (sym none)

    by : (j : ArmName) (b : Bool) → name_eq n j ≡ b → else_arm (new j) (copied_arm m (arm_in rest j)) ≡ copied_arm m (arm_in all j)
    by j true same =
        ap (λ x. else_arm x (copied_arm m (arm_in rest j))) (put j)
        ∙ ap (else_arm (put_some_arm old n (copied_arm m (Some (arm_of a))) j)) (ap (copied_arm m) (none_left j same) ∙ no_arm m)
        ∙ put_here (copied_arm m (Some (arm_of a))) j same (c.fresh j (arm_of a) (here j same))
        ∙ ap (λ o. else_arm (old j) (copied_arm m o)) (sym (here j same)) ∙ c.whole j
    by j false other =
        ap (λ x. else_arm x (copied_arm m (arm_in rest j))) (put j ∙ away (copied_arm m (Some (arm_of a))) j other)
        ∙ ap (λ o. else_arm (old j) (copied_arm m o)) (sym (in_left j other)) ∙ c.whole j
