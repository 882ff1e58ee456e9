use Rattle.std.proofs.lemmas.Bool.{true≢false}
use Rattle.std.proofs.Common.{◌≡◌, ◌∙◌, false, sym, subst, get_or, arith}
use Rattle.draid_machine.specs.Arms.{HasEmptyLog}
use Rattle.draid_machine.specs.Names.{name_eq}
use Rattle.draid_machine.specs.declared.names.ArmName.TheVariants.{Leaf}
use Rattle.draid_world.specs.World.{core_of}
use Rattle.draid_passes.proofs.Lists.{name_at_place, name_here}
use Rattle.draid_arms.proofs.rules.is_other_clean.Goals as goal

pub returns-then-has_empty_log-clause-yes : goal.returns-then-has_empty_log-clause-yes
returns-then-has_empty_log-clause-yes c = λ e.
    let n = get_or c.args.names.now c.loop-other.other-index (Leaf 0) in
    (n, name_here c.args.names.now c.loop-other.other-index (Leaf 0) c.loop-other-test.true, sym c.is_same.ensures ∙ c.if-not-is_same.true, c.has_empty_log.ensures.yes c.if-has_empty_log.true)

pub returns-clause-no : goal.returns-clause-no
returns-clause-no c = λ e clean.
    let z = name_at_place c.args.names.now clean.0 (Leaf 0) clean.1 in
    c.loop-other.invariant z.0 (let less = z.1 in let past = c.loop-other-test.false in omega (arith, less, past))
    (subst (λ n. name_eq c.args.name n ≡ false) (sym z.2) clean.2)
    (subst (HasEmptyLog (core_of c.args.tables.now)) (sym z.2) clean.3)

pub loop-other-init : goal.loop-other-init
loop-other-init c = λ i less. absurd (omega (arith, less))

pub returns-then-has_empty_log-clause-no : goal.returns-then-has_empty_log-clause-no
returns-then-has_empty_log-clause-no c = λ e. absurd (true≢false e)

pub returns-clause-yes : goal.returns-clause-yes
returns-clause-yes c = λ e. absurd (true≢false (sym e))
