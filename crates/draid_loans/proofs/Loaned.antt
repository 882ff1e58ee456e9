-- Loans and their readings.
use Rattle.std.proofs.Common.{◌≡◌, ◌+◌, ◌<◌, ◌&&◌, ◌++◌, not, ℕ, zero, suc, true, List, [], ◌∷◌, Option, Some, Vec, Global, filter, length, option_map, if◌then◌else◌, refl, sym, ◌∙◌, ap, subst, inl, inr, arith, length-append}
use Rattle.std.proofs.lemmas.Bool.{cases_eq, cases_order}
use Rattle.draid_machine.specs.declared.names.Key.{Key}
use Rattle.draid_machine.specs.declared.names.ArmName.{ArmName}
use Rattle.draid_machine.specs.declared.names.Held.{Held}
use Rattle.draid_machine.specs.Names.{is_heal, takes}
use Rattle.draid_machine.specs.State.{Layout, Core, Pass, Loan, State}
use Rattle.draid_machine.specs.Arms.{answers, fails}
use Rattle.draid_machine.specs.Step.{IsChosen, IsNext, LendStep, arms_read, to_list}
use Rattle.draid_passes.specs.Left.{IsFirstLeft, NothingLeft}
use Rattle.draid_machine.specs.After.{capped, lend_errors}
use Rattle.draid_machine.proofs.Small.{some_injective}
use Rattle.draid_passes.proofs.Endings.{pass_same}
use Rattle.draid_world.specs.declared.world.Lent.{Lent}
use Rattle.draid_world.specs.declared.world.World.{World}
use Rattle.draid_world.specs.declared.world.WorldPass.{WorldPass}
use Rattle.draid_world.specs.World.{core_of, loan_of, name_at, names_at, pass_of, state_of}
use Rattle.draid_world.proofs.Maps.{names_past}
use Rattle.draid_world.proofs.Orders.{name_past, names_before, names_last}
use Rattle.draid_loans.specs.Lending.{AllRead, AreReadings, IsLoan, MayLend}

pub arms_heal : (l : Layout) (q : Core) (p : Pass) (h : Held) (x : ℕ) (failed : List ℕ) (c : ℕ) (chosen : Option ArmName) (names : List ArmName) → is_heal p.kind ≡ true
    → names ≡ q.order (l.slot_of h.first c) → filter (λ n. answers l q n x && not (fails l q failed n x)) names ≡ arms_read l q p h x failed c chosen
arms_heal l q p h x failed c chosen names heal is =
    ap (filter (λ n. answers l q n x && not (fails l q failed n x))) is
    ∙ sym (ap (λ b. if b then filter (λ n. answers l q n x && not (fails l q failed n x)) (q.order (l.slot_of h.first c)) else to_list chosen) heal)

-- ---- lists by columns
name_before : (os ps : List (Option ArmName)) (c : ℕ) → c < length os → name_at (os ++ ps) c ≡ name_at os c
name_before [] ps c less = absurd (omega (arith, less))
name_before (o ∷ os) ps zero less = refl
name_before (o ∷ os) ps (suc c) less = name_before os ps c (omega (arith, less))

name_behind : (os : List (Option ArmName)) (o : Option ArmName) → name_at (os ++ o ∷ []) (length os) ≡ o
name_behind [] o = refl
name_behind (p ∷ os) o = name_behind os o

-- one more column
pub readings_more : (l : Layout) (q : Core) (p : Pass) (h : Held) (x : ℕ) (failed : List ℕ) (n : ℕ) (read : List (Vec ArmName Global)) (chosen : List (Option ArmName)) (v : Vec ArmName Global) (o : Option ArmName)
    → AreReadings l q p h x failed n read chosen → IsChosen l q p h x failed n o → v.items ≡ arms_read l q p h x failed n o
    → AreReadings l q p h x failed (n + 1) (read ++ v ∷ []) (chosen ++ o ∷ [])
readings_more l q p h x failed n read chosen v o are is reads = record {
  read_len = (let e = are.read_len in omega (arith, e, length-append read (v ∷ [])));
  chosen_len = (let e = are.chosen_len in omega (arith, e, length-append chosen (o ∷ [])));
  chosen_is = λ c less. elim (cases_eq c n) [
    | inl at ↦ subst (λ k. IsChosen l q p h x failed k (name_at (chosen ++ o ∷ []) k)) (sym at) (subst (IsChosen l q p h x failed n) (sym here) is)
    | inr other ↦ subst (IsChosen l q p h x failed c) (sym (old c (omega (arith, less, other)))) (are.chosen_is c (omega (arith, less, other)))
  ];
  read_is = λ c less. elim (cases_eq c n) [
    | inl at ↦ subst (λ k. names_at (read ++ v ∷ []) k ≡ arms_read l q p h x failed k (name_at (chosen ++ o ∷ []) k)) (sym at) (there ∙ reads ∙ ap (arms_read l q p h x failed n) (sym here))
    | inr other ↦ names_before read v c (let e = are.read_len in omega (arith, less, other, e)) ∙ are.read_is c (omega (arith, less, other))
        ∙ ap (arms_read l q p h x failed c) (sym (old c (omega (arith, less, other))))
  ];
}
  where
    here : name_at (chosen ++ o ∷ []) n ≡ o
    here = ap (name_at (chosen ++ o ∷ [])) (sym are.chosen_len) ∙ name_behind chosen o

    there : names_at (read ++ v ∷ []) n ≡ v.items
    there = ap (names_at (read ++ v ∷ [])) (sym are.read_len) ∙ names_last read v

    old : (c : ℕ) → c < n → name_at (chosen ++ o ∷ []) c ≡ name_at chosen c
    old c less = name_before chosen (o ∷ []) c (let e = are.chosen_len in omega (arith, less, e))

-- ---- the next stripe
-- there is one first stripe that is left
pub next_same : (q : Core) (p : Pass) (x y : ℕ) (key : Key) (h : Held) → IsFirstLeft q.held p x → IsNext q p key h y → y ≡ x
next_same q p x y key h left next = elim (cases_order y x) [
  | inl same ↦ same
  | inr other ↦ elim other [
    | inl less ↦ absurd (left.first key h y next.found next.lent next.taken next.from less)
    | inr more ↦ absurd (next.first left.key left.h x left.found left.lent left.taken left.from more)
  ]
]

-- where nothing is left there is none
pub none_next : (q : Core) (p : Pass) (y : ℕ) (key : Key) (h : Held) → NothingLeft q.held p → IsNext q p key h y → ⊥
none_next q p y key h nothing next =
    let less = nothing key h y next.found next.lent next.taken in
    let from = next.from in
    absurd (omega (arith, less, from))

pub readings_pushed : (l : Layout) (q : Core) (p : Pass) (h : Held) (x : ℕ) (failed : List ℕ) (n : ℕ) (read reads : List (Vec ArmName Global)) (chosen names : List (Option ArmName)) (v : Vec ArmName Global) (o : Option ArmName)
    → AreReadings l q p h x failed n read chosen → IsChosen l q p h x failed n o → v.items ≡ arms_read l q p h x failed n o → reads ≡ read ++ v ∷ [] → names ≡ chosen ++ o ∷ []
    → AreReadings l q p h x failed (n + 1) reads names
readings_pushed l q p h x failed n read reads chosen names v o are is items more others =
    subst (λ os. AreReadings l q p h x failed (n + 1) reads os) (sym others)
    (subst (λ vs. AreReadings l q p h x failed (n + 1) vs (chosen ++ o ∷ [])) (sym more) (readings_more l q p h x failed n read chosen v o are is items))

-- where no block may be lent there is no loan
pub no_loan : (l : Layout) (w : State) (failed : List ℕ) (p : Pass) (x : ℕ) (n : Loan) → w.core.pass ≡ Some p → IsFirstLeft w.core.held p x
    → ((k : Key) (h : Held) → w.core.held k ≡ Some h → MayLend l w.core p x failed h → ⊥) → IsLoan l w failed n → ⊥
no_loan l w failed p x n is left none loan =
    let at : loan.p ≡ p = some_injective loan.p p (sym loan.pass ∙ is) in
    let next = subst (λ (r : Pass). IsNext w.core r n.key loan.h n.stripe) at loan.next in
    let same = next_same w.core p x n.stripe n.key loan.h left next in
    none n.key loan.h next.found (record {
      lent = next.lent;
      taken = subst (λ y. takes loan.h y ≡ true) same next.taken;
      fail = subst (λ y. AllRead l w.core p loan.h y failed) same (subst (λ (r : Pass). AllRead l w.core r loan.h n.stripe failed) at loan.fail);
    })

-- the readings of a block that may be lent are a loan
pub loan_made : (l : Layout) (w : State) (failed : List ℕ) (p : Pass) (x serial : ℕ) (key : Key) (h : Held) (read : List (Vec ArmName Global)) (chosen : List (Option ArmName)) → w.core.pass ≡ Some p → p.running ≡ true
    → IsFirstLeft w.core.held p x → w.core.held key ≡ Some h → MayLend l w.core p x failed h → AreReadings l w.core p h x failed l.columns read chosen → serial ≡ w.serial + 1
    → IsLoan l w failed (record { key = key; stripe = x; serial = serial; read = names_at read; chosen = name_at chosen })
loan_made l w failed p x serial key h read chosen is running left found may are number = record {
  p = p;
  h = h;
  pass = is;
  running = running;
  next = record { found = found; lent = may.lent; taken = may.taken; from = left.from; first = left.first };
  serial = number;
  chosen = are.chosen_is;
  no_more = λ c past. name_past chosen c (let e = are.chosen_len in omega (arith, e, past));
  read = are.read_is;
  read_none = λ c past. names_past read c (let e = are.read_len in omega (arith, e, past));
  fail = may.fail;
}

-- what is lent is a loan
pub step_loan : (l : Layout) (w : State) (failed : List ℕ) (new : State) (step : LendStep l w failed new) → IsLoan l w failed step.n
step_loan l w failed new step = record {
  p = step.p;
  h = step.h;
  pass = step.pass;
  running = step.running;
  next = step.next;
  serial = step.serial;
  chosen = step.chosen;
  no_more = step.no_more;
  read = step.read;
  read_none = step.read_none;
  fail = step.fail;
}

-- the state after a loan
pub lend_made : (l : Layout) (w : World) (pass : WorldPass) (loan : Lent) (failed : List ℕ) (errors : ℕ) → w.tables.pass ≡ Some pass → IsLoan l (state_of w) failed (loan_of loan)
    → errors ≡ capped (pass.errors + lend_errors pass.kind failed)
    → LendStep l (state_of w) failed (state_of (record w { tables = record w.tables { pass = Some (record pass { errors = errors }) }; serial = w.serial + 1; loan = Some loan }))
lend_made l w pass loan failed errors is lends sum =
    let at = pass_same w.tables.pass pass lends.p is lends.pass in
    record {
      p = pass_of pass;
      h = lends.h;
      n = loan_of loan;
      pass = ap (option_map pass_of) is;
      running = subst (λ (p : Pass). p.running ≡ true) at lends.running;
      next = subst (λ (p : Pass). IsNext (core_of w.tables) p loan.key lends.h loan.stripe) at lends.next;
      serial = lends.serial;
      chosen = subst (λ (p : Pass). (c : ℕ) → c < l.columns → IsChosen l (core_of w.tables) p lends.h loan.stripe failed c ((loan_of loan).chosen c)) at lends.chosen;
      no_more = lends.no_more;
      read = subst (λ (p : Pass). (c : ℕ) → c < l.columns → (loan_of loan).read c ≡ arms_read l (core_of w.tables) p lends.h loan.stripe failed c ((loan_of loan).chosen c)) at lends.read;
      read_none = lends.read_none;
      fail = subst (λ (p : Pass). AllRead l (core_of w.tables) p lends.h loan.stripe failed) at lends.fail;
      made = ap (λ e. record (state_of w) { core = record (core_of w.tables) { pass = Some (record (pass_of pass) { errors = e }) }; serial = w.serial + 1; loan = Some (loan_of loan) }) sum;
    }
