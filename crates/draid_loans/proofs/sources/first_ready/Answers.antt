use Rattle.draid_loans.proofs.Firsts.{first_skip}
use Rattle.draid_loans.specs.Lending.{IsReady}
use Rattle.draid_world.specs.World.{core_of, site_layout}
use Rattle.draid_machine.specs.declared.names.ArmName.{ArmName}
use Rattle.draid_machine.specs.declared.names.ArmName.TheVariants.{Leaf}
use Rattle.draid_machine.specs.Arms.{IsFirst}
use Rattle.std.proofs.lemmas.List.{drop_all, drop_more}
use Rattle.std.proofs.Common.{◌+◌, None, Some, drop, get_or, inl, refl, subst, sym}
use Rattle.draid_loans.proofs.sources.first_ready.Goals as goal

pub loop-name-init : goal.loop-name-init
loop-name-init c = λ o first. first

pub returns-then-is_ready : goal.returns-then-is_ready
returns-then-is_ready c =
    let ready : ArmName → Type 0 = IsReady (site_layout c.args.site.now) (core_of c.args.tables.now) c.args.stripe in
    let x = get_or c.args.names.now c.loop-name.name-index (Leaf 0) in
    c.loop-name.invariant (Some x)
    (subst (λ ns. IsFirst ready ns (Some x)) (sym (drop_more c.args.names.now c.loop-name.name-index (Leaf 0) c.loop-name-test.true)) (inl (c.is_ready.ensures.yes c.if-is_ready.true, refl)))

pub loop-name-preserved : goal.loop-name-preserved
loop-name-preserved c = λ o first.
    let ready : ArmName → Type 0 = IsReady (site_layout c.args.site.now) (core_of c.args.tables.now) c.args.stripe in
    let at = c.loop-name.name-index in
    c.loop-name.invariant o
    (subst (λ ns. IsFirst ready ns o) (sym (drop_more c.args.names.now at (Leaf 0) c.loop-name-test.true))
    (first_skip ready (get_or c.args.names.now at (Leaf 0)) (drop (at + 1) c.args.names.now) o (c.is_ready.ensures.no c.if-is_ready.false) first))

pub returns : goal.returns
returns c =
    let ready : ArmName → Type 0 = IsReady (site_layout c.args.site.now) (core_of c.args.tables.now) c.args.stripe in
    c.loop-name.invariant None (subst (λ ns. IsFirst ready ns None) (sym (drop_all c.loop-name.name-index c.args.names.now c.loop-name-test.false)) tt)
