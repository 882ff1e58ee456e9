-- The landing of a rebuild's stripe.
use Rattle.std.proofs.Common.{◌≡◌, ◌+◌, ◌&&◌, ◌||◌, not, ℕ, Bool, true, false, nat_lt, List, [], ◌∷◌, Option, Some, None, filter, count_by, cond, length, if◌then◌else◌, refl, sym, ◌∙◌, ap, ap₂, arith, option_map, subst}
use Rattle.std.proofs.lemmas.List.Sums.{sum_by-cons}
use Rattle.draid_machine.specs.declared.names.ArmName.{ArmName}
use Rattle.draid_machine.specs.declared.names.Held.{Held}
use Rattle.draid_machine.specs.State.{Layout, Loan, Pass, State}
use Rattle.draid_machine.specs.After.{capped, land_stripe_state, mend_state, pass_over, unsourced}
use Rattle.draid_machine.specs.Step.{LandStripeStep}
use Rattle.draid_machine.proofs.Small.{some_injective}
use Rattle.draid_passes.proofs.Endings.{pass_same}
use Rattle.draid_world.specs.declared.world.Lent.{Lent}
use Rattle.draid_world.specs.declared.world.World.{World}
use Rattle.draid_world.specs.declared.world.WorldPass.{WorldPass}
use Rattle.draid_world.specs.World.{core_of, loan_of, pass_of, state_of}
use Rattle.draid_names.specs.declared.pass_kind.PassKind.TheVariants.{Rebuild}
use Rattle.draid_machine.specs.Names.{has_number}
use Rattle.draid_rebuilds.specs.Landings.{MayMend}
use Rattle.draid_passes.specs.Landings.{Lands}
use Rattle.draid_rebuilds.specs.Stripes.{MayLandStripe, mended_pass, mended_state}

-- a set from which some went and which some joined
pub replaced : (old cut new all put m v : Bool) → all ≡ m → put ≡ (m && v) → cut ≡ (old && not all) → new ≡ (cut || put) → new ≡ (if m then v else old)
replaced old cut new all put m v a p c n = n ∙ ap₂ (λ x y. x || y) (c ∙ ap (λ b. old && not b) a) p ∙ bits m old
  where
    or_false : (b : Bool) → (b || false) ≡ b
    or_false true = refl
    or_false false = refl

    bits : (m old : Bool) → ((old && not m) || (m && v)) ≡ (if m then v else old)
    bits true true = refl
    bits true false = refl
    bits false true = refl
    bits false false = refl

pub both_bits : (m f d : Bool) → ((m && f) && d) ≡ (m && (d && f))
both_bits true true true = refl
both_bits true true false = refl
both_bits true false true = refl
both_bits true false false = refl
both_bits false f d = refl

-- the pass and the loan of a state are those of a landing
pub may_by : (l : Layout) (w : State) (pass serial : ℕ) (failed : List ℕ) (h : Held) (p : Pass) (n : Loan) → w.core.pass ≡ Some p → w.loan ≡ Some n → Lands w Rebuild pass serial h
    → ((leaf : ℕ) → has_number failed leaf ≡ true → MayMend l w.core p n leaf) → MayLandStripe l w pass serial failed h
may_by l w pass serial failed h p n is at lands fail =
    let same_pass : lands.p ≡ p = some_injective lands.p p (sym lands.counts.pass_is ∙ is) in
    let same_loan : lands.n ≡ n = some_injective lands.n n (sym lands.counts.loan ∙ at) in
    record {
      p = lands.p;
      n = lands.n;
      counts = lands.counts;
      rebuild = lands.kind_is;
      fail = λ leaf has. subst (λ (x : Pass). MayMend l w.core x lands.n leaf) (sym same_pass) (subst (λ (x : Loan). MayMend l w.core p x leaf) (sym same_loan) (fail leaf has));
    }

pub may_mend : (l : Layout) (w : State) (pass serial : ℕ) (failed : List ℕ) (h : Held) (p : Pass) (n : Loan) → w.core.pass ≡ Some p → w.loan ≡ Some n → MayLandStripe l w pass serial failed h
    → (leaf : ℕ) → has_number failed leaf ≡ true → MayMend l w.core p n leaf
may_mend l w pass serial failed h p n is at may leaf has =
    let same_pass : may.p ≡ p = some_injective may.p p (sym may.counts.pass_is ∙ is) in
    let same_loan : may.n ≡ n = some_injective may.n n (sym may.counts.loan ∙ at) in
    subst (λ (x : Pass). MayMend l w.core x n leaf) same_pass (subst (λ (x : Loan). MayMend l w.core may.p x leaf) same_loan (may.fail leaf has))

-- how many are lost
pub count_kept : (bad : ArmName → Bool) (ns : List ArmName) → length (filter (λ n. not (bad n)) ns) + count_by bad ns ≡ length ns
count_kept bad [] = refl
count_kept bad (m ∷ ns) = ap (λ k. length (filter (λ n. not (bad n)) (m ∷ ns)) + k) (sum_by-cons (λ x. cond (bad x) 1 0) m ns) ∙ by (bad m) (count_kept bad ns)
  where
    by : (b : Bool) → length (filter (λ n. not (bad n)) ns) + count_by bad ns ≡ length ns
        → length (cond (not b) (m ∷ filter (λ n. not (bad n)) ns) (filter (λ n. not (bad n)) ns)) + (cond b 1 0 + count_by bad ns) ≡ length (m ∷ ns)
    by true rest = omega (arith, rest)
    by false rest = omega (arith, rest)

-- ---- the states
loan_same : (o : Option Lent) (loan : Lent) (n : Loan) → o ≡ Some loan → option_map loan_of o ≡ Some n → n ≡ loan_of loan
loan_same o loan n is e = some_injective n (loan_of loan) (sym e ∙ ap (option_map loan_of) is)

pub land_over : (l : Layout) (w : World) (pass serial : ℕ) (found : WorldPass) (loan : Lent) (h : Held) (failed : List ℕ) (errors : ℕ) → w.tables.pass ≡ Some found → w.loan ≡ Some loan
    → MayLandStripe l (state_of w) pass serial failed h → nat_lt l.parity (unsourced l (loan_of loan)) ≡ true → errors ≡ capped (found.errors + 1)
    → LandStripeStep l (state_of w) pass serial failed
    (state_of (record w { tables = record w.tables { pass = Some (record found { next = loan.stripe + 1; errors = errors }) }; loan = None }))
land_over l w pass serial found loan h failed errors is lent may many sum =
    let at = pass_same w.tables.pass found may.p is may.counts.pass_is in
    let which = loan_same w.loan loan may.n lent may.counts.loan in
    record {
      p = may.p;
      n = may.n;
      h = h;
      counts = may.counts;
      rebuild = may.rebuild;
      fail = may.fail;
      made =
          ap (λ e. record (state_of w) { loan = None; core = record (core_of w.tables) { pass = Some (record (pass_of found) { next = loan.stripe + 1; errors = e }) } }) sum
          ∙ sym (ap (λ b. if b then pass_over (state_of w) (pass_of found) 1 (loan.stripe + 1) else mend_state l (state_of w) (pass_of found) (loan_of loan) h failed) many)
          ∙ (λ i. land_stripe_state l (state_of w) (sym at i) (sym which i) h failed);
    }

pub land_mended : (l : Layout) (w mid : World) (pass serial : ℕ) (found next : WorldPass) (loan : Lent) (h : Held) (failed : List ℕ) → w.tables.pass ≡ Some found → w.loan ≡ Some loan
    → MayLandStripe l (state_of w) pass serial failed h → nat_lt l.parity (unsourced l (loan_of loan)) ≡ false
    → state_of mid ≡ mended_state l (state_of (record w { tables = record w.tables { pass = None }; loan = None })) (pass_of found) (loan_of loan) h failed
    → pass_of next ≡ mended_pass l (core_of mid.tables) (pass_of found) loan.stripe failed
    → LandStripeStep l (state_of w) pass serial failed (state_of (record mid { tables = record mid.tables { pass = Some next } }))
land_mended l w mid pass serial found next loan h failed is lent may few segments after =
    let at = pass_same w.tables.pass found may.p is may.counts.pass_is in
    let which = loan_same w.loan loan may.n lent may.counts.loan in
    record {
      p = may.p;
      n = may.n;
      h = h;
      counts = may.counts;
      rebuild = may.rebuild;
      fail = may.fail;
      made =
          ap (λ p. record (state_of mid) { core = record (core_of mid.tables) { pass = Some p } }) after
          ∙ ap (λ (s : State). record s { core = record s.core { pass = Some (mended_pass l s.core (pass_of found) loan.stripe failed) } }) segments
          ∙ sym (ap (λ b. if b then pass_over (state_of w) (pass_of found) 1 (loan.stripe + 1) else mend_state l (state_of w) (pass_of found) (loan_of loan) h failed) few)
          ∙ (λ i. land_stripe_state l (state_of w) (sym at i) (sym which i) h failed);
    }

pub step_may : (l : Layout) (w : State) (pass serial : ℕ) (failed : List ℕ) (new : State) (step : LandStripeStep l w pass serial failed new) → MayLandStripe l w pass serial failed step.h
step_may l w pass serial failed new step = record { p = step.p; n = step.n; counts = step.counts; rebuild = step.rebuild; fail = step.fail }
