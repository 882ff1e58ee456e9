-- The end of a pass.
use Rattle.std.proofs.Common.{◌≡◌, ◌==◌, ◌+◌, ◌&&◌, not, ℕ, Bool, true, false, nat_le, List, [], ◌∷◌, Option, Some, None, IfSome, IfNone, BTreeMap, is_some, option_map, filter, count_by, cond, refl, sym, ◌∙◌, ap, ap₂, subst, arith}
use Rattle.std.proofs.lemmas.Bool.{true≢false}
use Rattle.std.proofs.lemmas.List.Sums.{sum_by-cons}
use Rattle.draid_names.specs.declared.pass_kind.PassKind.{PassKind}
use Rattle.draid_names.specs.declared.pass_kind.PassKind.TheVariants.{Rebuild, Heal}
use Rattle.draid_machine.specs.declared.names.ArmName.{ArmName}
use Rattle.draid_machine.specs.Names.{has_name}
use Rattle.draid_machine.specs.State.{Layout, Arm, Core, Pass}
use Rattle.draid_machine.specs.After.{ended_pass, excise_if, map_arm}
use Rattle.draid_machine.specs.Arms.{is_silent, lies_on}
use Rattle.draid_machine.specs.declared.names.Key.{Key}
use Rattle.draid_machine.specs.declared.names.Held.{Held}
use Rattle.draid_machine.specs.Step.{DoneStep}
use Rattle.draid_machine.proofs.Small.{no_more_errors, is_equal, some_injective}
use Rattle.draid_world.specs.declared.world.Arm.{Arm as Stored}
use Rattle.draid_world.specs.declared.world.World.{World}
use Rattle.draid_world.specs.declared.world.WorldPass.{WorldPass}
use Rattle.draid_world.specs.World.{arm_in, core_of, pass_of, state_of}
use Rattle.draid_passes.specs.Ends.{AllFlush, MayEnd}
use Rattle.draid_passes.specs.Left.{IsFirstLeft, NothingLeft}

none_bad : (bad : ArmName → Bool) (ns : List ArmName) → count_by bad ns ≡ 0 → filter (λ n. not (bad n)) ns ≡ ns
none_bad bad [] e = refl
none_bad bad (m ∷ ns) e = by (bad m) (sym (sum_by-cons (λ x. cond (bad x) 1 0) m ns) ∙ e) (none_bad bad ns)
  where
    by : (b : Bool) → cond b 1 0 + count_by bad ns ≡ 0 → (count_by bad ns ≡ 0 → filter (λ n. not (bad n)) ns ≡ ns) → cond (not b) (m ∷ filter (λ n. not (bad n)) ns) (filter (λ n. not (bad n)) ns) ≡ m ∷ ns
    by true e rest = absurd (omega (arith, e))
    by false e rest = ap (λ xs. m ∷ xs) (rest (omega (arith, e)))

-- a pass that ends without errors keeps its targets
pub clean_end : (l : Layout) (q : Core) (p : Pass) (failed : List ℕ) (k : PassKind) → let p = record p { kind = k } in ((ended_pass l q p failed).errors == 0) ≡ true
    → (n : ArmName) → (((ended_pass l q p failed).errors == 0) && has_name (ended_pass l q p failed).targets n) ≡ has_name p.targets n
clean_end l q p failed Heal e n = ap (λ b. b && has_name p.targets n) e
clean_end l q p failed Rebuild e n =
    ap₂ (λ b xs. b && has_name xs n) e (none_bad bad p.targets (no_more_errors p.errors (count_by bad p.targets) (is_equal _ _ e)))
  where
    bad : ArmName → Bool
    bad = lies_on l q (is_silent q failed)

pub ended_max : (l : Layout) (q : Core) (p : Pass) (failed : List ℕ) (k : PassKind) → let p = record p { kind = k } in (ended_pass l q p failed).max ≡ p.max
ended_max l q p failed Heal = refl
ended_max l q p failed Rebuild = refl

-- what isn't excised stays
pub not_excised : (t : Bool) (last : ℕ) (o : Option Arm) → t ≡ false → o ≡ map_arm (excise_if t last) o
not_excised true last o e = absurd (true≢false e)
not_excised false last None e = refl
not_excised false last (Some a) e = λ i. Some (record a { log = λ g. kept (a.log g) i; fresh = kept a.fresh i })
  where
    kept : (b : Bool) → b ≡ (b && true)
    kept true = refl
    kept false = refl

pub excised_twice : (s : Bool) (last : ℕ) (a : Arm) → excise_if true last (excise_if s last a) ≡ excise_if true last a
excised_twice s last a = λ i. record a { log = λ g. logs s (a.log g) (nat_le g last) i; fresh = fresh s a.fresh i }
  where
    logs : (s b t : Bool) → ((b && not (s && t)) && not (true && t)) ≡ (b && not (true && t))
    logs true true true = refl
    logs true true false = refl
    logs true false t = refl
    logs false true true = refl
    logs false true false = refl
    logs false false t = refl

    fresh : (s b : Bool) → ((b && not s) && not true) ≡ (b && not true)
    fresh true true = refl
    fresh true false = refl
    fresh false true = refl
    fresh false false = refl

-- what is left isn't nothing
pub some_left : (held : Key → Option Held) (p : Pass) (o : Option ℕ) → is_some o ≡ true → IfSome o (IsFirstLeft held p) → NothingLeft held p → ⊥
some_left held p None e first nothing = true≢false (sym e)
some_left held p (Some x) e first nothing =
    let less = nothing first.key first.h x first.found first.lent first.taken in
    let from = first.from in
    absurd (omega (arith, less, from))

pub nothing_left : {A : Type 0} (o : Option A) (P : Type 0) → is_some o ≡ false → IfNone o P → P
nothing_left None P e none = none
nothing_left (Some x) P e none = absurd (true≢false e)

pub mapped_none : {A B : Type 0} (f : A → B) (o : Option A) → is_some o ≡ false → option_map f o ≡ None
mapped_none f None e = refl
mapped_none f (Some a) e = absurd (true≢false e)

-- the pass of a state
pub pass_same : (o : Option WorldPass) (pass : WorldPass) (p : Pass) → o ≡ Some pass → option_map pass_of o ≡ Some p → p ≡ pass_of pass
pass_same o pass p is e = some_injective p (pass_of pass) (sym e ∙ ap (option_map pass_of) is)

-- the end of a pass whose arms are changed as it says
pub done_made : (l : Layout) (w : World) (pass : WorldPass) (failed : List ℕ) (arms : BTreeMap ArmName Stored) → w.tables.pass ≡ Some pass → MayEnd l (state_of w) failed
    → (let p = ended_pass l (core_of w.tables) (pass_of pass) failed in
    (n : ArmName) → arm_in arms.entries n ≡ map_arm (excise_if ((p.errors == 0) && has_name p.targets n) p.max) (arm_in w.tables.arms.entries n))
    → DoneStep l (state_of w) failed (state_of (record w { tables = record w.tables { arms = arms; pass = None } }))
done_made l w pass failed arms is may same =
    let at = pass_same w.tables.pass pass may.p is may.pass in
    record {
      p = pass_of pass;
      pass = ap (option_map pass_of) is;
      running = subst (λ (p : Pass). p.running ≡ true) at may.running;
      finished = subst (λ (p : Pass). NothingLeft (core_of w.tables).held p) at may.finished;
      idle = may.idle;
      fail = subst (λ (p : Pass). AllFlush l (state_of w) p failed) at may.fail;
      made = λ i. record (state_of w) { core = record (core_of w.tables) { pass = None; arm = λ n. same n i } };
    }
