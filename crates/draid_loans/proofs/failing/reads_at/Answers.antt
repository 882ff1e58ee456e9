use Rattle.std.proofs.Common.{◌≡◌, ◌∙◌, Some, false, sym, subst}
use Rattle.draid_machine.specs.Arms.{leaf_at}
use Rattle.draid_machine.specs.Names.{is_heal}
use Rattle.draid_machine.proofs.Small.{none_some, some_injective}
use Rattle.draid_world.specs.World.{core_of, site_layout}
use Rattle.draid_loans.specs.Lending.{IsReady}
use Rattle.draid_loans.proofs.Firsts.{one_first}
use Rattle.draid_loans.proofs.failing.reads_at.Goals as goal

pub returns-in-Some-clause-no : goal.returns-in-Some-clause-no
returns-in-Some-clause-no c = λ e r.
    let l = site_layout c.args.site.now in
    let q = core_of c.args.tables.now in
    let rebuild : is_heal c.args.pass.now.kind ≡ false = sym c.is_heal.ensures ∙ c.if-is_heal.false in
    let same = one_first (IsReady l q c.args.stripe) (q.order (l.slot_of c.args.stripe c.args.column)) c.source.result (Some r.n) c.source.ensures (r.rebuild rebuild) in
    let name = some_injective c.in-Some.name r.n (sym c.in-Some.is ∙ same) in
    c.lies_at.ensures.no e (subst (λ n. leaf_at l q.order n c.args.stripe ≡ Some c.args.leaf) (sym name) r.lies)

pub returns-in-None-clause-no : goal.returns-in-None-clause-no
returns-in-None-clause-no c = λ e r.
    let l = site_layout c.args.site.now in
    let q = core_of c.args.tables.now in
    let rebuild : is_heal c.args.pass.now.kind ≡ false = sym c.is_heal.ensures ∙ c.if-is_heal.false in
    none_some c.source.result r.n c.in-None.is (one_first (IsReady l q c.args.stripe) (q.order (l.slot_of c.args.stripe c.args.column)) c.source.result (Some r.n) c.source.ensures (r.rebuild rebuild))
