use Rattle.std.proofs.Common.{◌≡◌, ◌∙◌, subst, sym}
use Rattle.std.proofs.lemmas.Bool.{true≢false}
use Rattle.draid_machine.proofs.Small.{none_some, some_same}
use Rattle.draid_machine.specs.declared.names.Held.{Held}
use Rattle.draid_machine.specs.declared.names.Stage.TheVariants.{Writing}
use Rattle.draid_world.specs.World.{site_layout, state_of}
use Rattle.draid_steps.proofs.Exits.{may_step, past_last}
use Rattle.draid_steps.proofs.columns.put.Goals as goal

pub returns-in_default-clause-legal : goal.returns-in_default-clause-legal
returns-in_default-clause-legal c = λ e. absurd (true≢false (sym e))

pub returns-in_default-clause-illegal : goal.returns-in_default-clause-illegal
returns-in_default-clause-illegal c = λ e new step. none_some _ step.h (sym c.find.ensures ∙ c.in_default.is) step.found

pub returns-in_default-columns_put-clause-legal : goal.returns-in_default-columns_put-clause-legal
returns-in_default-columns_put-clause-legal c = λ e. absurd (true≢false (sym e))

pub returns-in_default-columns_put-clause-illegal : goal.returns-in_default-columns_put-clause-illegal
returns-in_default-columns_put-clause-illegal c = λ e new step.
    c.in_default-columns_put.ensures.none step.c step.m
    (subst (λ (h : Held). h.stage ≡ Writing step.c step.m) (some_same _ step.h c.in-Some.held step.found (sym c.find.ensures ∙ c.in-Some.is)) step.stage)

pub may_land-requires-clause-first : goal.may_land-requires-clause-first
may_land-requires-clause-first c = c.requires.low c.args.key c.in-Some.held (sym c.find.ensures ∙ c.in-Some.is)

pub returns-then-columns-site-clause-legal : goal.returns-then-columns-site-clause-legal
returns-then-columns-site-clause-legal c = λ e. absurd (true≢false (sym e))

pub returns-then-columns-site-clause-illegal : goal.returns-then-columns-site-clause-illegal
returns-then-columns-site-clause-illegal c = λ e new step.
    past_last _ c.in-Some.held step.h c.in-Some-columns_put.columns c.in-Some-columns_put.missed step.c step.m c.args.site.now.geometry.g (sym c.find.ensures ∙ c.in-Some.is) c.in-Some-columns_put.ensures.some c.if-columns-site.true
    step.found step.stage step.more

pub returns-then-not-may_land-clause-legal : goal.returns-then-not-may_land-clause-legal
returns-then-not-may_land-clause-legal c = λ e. absurd (true≢false (sym e))

pub returns-then-not-may_land-clause-illegal : goal.returns-then-not-may_land-clause-illegal
returns-then-not-may_land-clause-illegal c = λ e new step.
    c.may_land.ensures.no c.if-not-may_land.true
    (may_step (site_layout c.args.site.now) (state_of c.args.world.now) c.args.key c.args.landed.now c.args.failed.now new step c.in-Some.held c.in-Some-columns_put.columns c.in-Some-columns_put.missed (sym c.find.ensures ∙ c.in-Some.is) c.in-Some-columns_put.ensures.some)

pub may_land-requires-clause-column : goal.may_land-requires-clause-column
may_land-requires-clause-column c = c.if-columns-site.false

pub write_column-requires-clause-first : goal.write_column-requires-clause-first
write_column-requires-clause-first c = c.requires.low c.args.key c.in-Some.held (sym c.find.ensures ∙ c.in-Some.is)

pub write_column-requires-clause-birth : goal.write_column-requires-clause-birth
write_column-requires-clause-birth c = (c.requires.counted c.args.key c.in-Some.held (sym c.find.ensures ∙ c.in-Some.is)).0

pub write_column-requires-clause-column : goal.write_column-requires-clause-column
write_column-requires-clause-column c = c.if-columns-site.false

pub write_column-requires-clause-listed : goal.write_column-requires-clause-listed
write_column-requires-clause-listed c = (c.may_land.ensures.yes c.if-not-may_land.false).listed

pub returns-clause-legal : goal.returns-clause-legal
returns-clause-legal c = λ e.
    let may = c.may_land.ensures.yes c.if-not-may_land.false in record {
      h = c.in-Some.held;
      c = c.in-Some-columns_put.columns;
      m = c.in-Some-columns_put.missed;
      found = sym c.find.ensures ∙ c.in-Some.is;
      stage = c.in-Some-columns_put.ensures.some;
      more = c.if-columns-site.false;
      listed = may.listed;
      lands = may.lands;
      fail = may.fail;
      made = c.in_ok-write_column.ensures;
    }

pub returns-clause-illegal : goal.returns-clause-illegal
returns-clause-illegal c = λ e. absurd (true≢false e)
