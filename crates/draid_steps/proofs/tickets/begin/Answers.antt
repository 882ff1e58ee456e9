use Rattle.std.proofs.Common.{◌≡◌, ◌<◌, ◌∙◌, ℕ, zero, suc, false, Option, Some, None, ap, arith, is_some, refl, sym}
use Rattle.std.proofs.lemmas.Bool.{true≢false}
use Rattle.draid_world.specs.World.{core_of, state_of}
use Rattle.draid_steps.proofs.tickets.begin.Goals as goal

not_there : {A : Type 0} (o : Option A) → is_some o ≡ false → o ≡ None
not_there None e = refl
not_there (Some a) e = absurd (true≢false e)

filled : (n : ℕ) → (n ≡ 0 → ⊥) → 0 < n
filled zero empty = absurd (empty refl)
filled (suc n) empty = omega arith

pub returns-then-not-is_enabled-clause-legal : goal.returns-then-not-is_enabled-clause-legal
returns-then-not-is_enabled-clause-legal c = λ e. absurd (true≢false (sym e))

pub returns-then-not-is_enabled-clause-illegal : goal.returns-then-not-is_enabled-clause-illegal
returns-then-not-is_enabled-clause-illegal c = λ e new step. c.is_enabled.ensures.no c.if-not-is_enabled.true step.enabled

pub returns-then-not-has_room-clause-legal : goal.returns-then-not-has_room-clause-legal
returns-then-not-has_room-clause-legal c = λ e. absurd (true≢false (sym e))

pub returns-then-not-has_room-clause-illegal : goal.returns-then-not-has_room-clause-illegal
returns-then-not-has_room-clause-illegal c = λ e new step. c.has_room.ensures.no c.if-not-has_room.true step.few

pub returns-then-is_some-clause-legal : goal.returns-then-is_some-clause-legal
returns-then-is_some-clause-legal c = λ e. absurd (true≢false (sym e))

pub returns-then-is_some-clause-illegal : goal.returns-then-is_some-clause-illegal
returns-then-is_some-clause-illegal c = λ e new step. true≢false (sym c.if-is_some.true ∙ c.is_some.ensures ∙ ap is_some (c.find.ensures ∙ step.unused))

pub returns-then-held-eq0-clause-legal : goal.returns-then-held-eq0-clause-legal
returns-then-held-eq0-clause-legal c = λ e. absurd (true≢false (sym e))

pub returns-then-held-eq0-clause-illegal : goal.returns-then-held-eq0-clause-illegal
returns-then-held-eq0-clause-illegal c = λ e new step.
    let some = step.some in
    let none = c.if-held-eq0.true in
    omega (arith, some, none)

pub returns-then-not-is_due-clause-legal : goal.returns-then-not-is_due-clause-legal
returns-then-not-is_due-clause-legal c = λ e. absurd (true≢false (sym e))

pub returns-then-not-is_due-clause-illegal : goal.returns-then-not-is_due-clause-illegal
returns-then-not-is_due-clause-illegal c = λ e new step. c.is_due.ensures.no c.if-not-is_due.true step.birth

pub is_lowest-requires-clause-low : goal.is_lowest-requires-clause-low
is_lowest-requires-clause-low c = c.requires.low

pub is_lowest-requires-clause-some : goal.is_lowest-requires-clause-some
is_lowest-requires-clause-some c = filled c.args.held.stripes c.if-held-eq0.false

pub is_lowest-requires-clause-first : goal.is_lowest-requires-clause-first
is_lowest-requires-clause-first c = c.requires.first

pub returns-then-not-is_lowest-clause-legal : goal.returns-then-not-is_lowest-clause-legal
returns-then-not-is_lowest-clause-legal c = λ e. absurd (true≢false (sym e))

pub returns-then-not-is_lowest-clause-illegal : goal.returns-then-not-is_lowest-clause-illegal
returns-then-not-is_lowest-clause-illegal c = λ e new step. c.is_lowest.ensures.no c.if-not-is_lowest.true step.fits step.lowest

pub returns-clause-legal : goal.returns-clause-legal
returns-clause-legal c = λ e.
    let w = c.args.world.now in
    record {
      enabled = c.is_enabled.ensures.yes c.if-not-is_enabled.false;
      unused = sym c.find.ensures ∙ not_there c.find.result (sym c.is_some.ensures ∙ c.if-is_some.false);
      few = c.has_room.ensures.yes c.if-not-has_room.false;
      some = filled c.args.held.stripes c.if-held-eq0.false;
      fits = c.is_lowest.ensures.fits c.if-not-is_lowest.false;
      lowest = c.is_lowest.ensures.lowest c.if-not-is_lowest.false;
      birth = c.is_due.ensures.yes c.if-not-is_due.false;
      made = λ i. record (state_of w) { core = record (core_of w.tables) { held = λ k. c.in_ok-enter.ensures k i } };
    }

pub returns-clause-illegal : goal.returns-clause-illegal
returns-clause-illegal c = λ e. absurd (true≢false e)
