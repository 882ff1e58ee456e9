use Rattle.std.proofs.Common.{◌<◌, ◌≤◌, ◌∙◌, ap, subst, sym}
use Rattle.draid_names.specs.declared.numbers.TheConstants.{NUMBERS}
use Rattle.draid_entries.specs.Entries.{entry_at}
use Rattle.draid_entries.proofs.entries.Entries.first_from.Goals as goal

pub returns-clause-there : goal.returns-clause-there
returns-clause-there c =
    let found = c.args.self.now.agree.found c.in_ok-entry.field-0-0 c.in_ok-entry.entry c.in_ok-entry.ensures.there in
    ap (entry_at c.args.self.now) found.first_is ∙ c.in_ok-entry.ensures.there

pub returns-clause-from : goal.returns-clause-from
returns-clause-from c =
    let found = c.args.self.now.agree.found c.in_ok-entry.field-0-0 c.in_ok-entry.entry c.in_ok-entry.ensures.there in
    subst (λ x. c.args.stripe ≤ x) (sym found.first_is) c.in_ok-entry.ensures.from

pub returns-clause-low : goal.returns-clause-low
returns-clause-low c =
    let found = c.args.self.now.agree.found c.in_ok-entry.field-0-0 c.in_ok-entry.entry c.in_ok-entry.ensures.there in
    subst (λ x. x < NUMBERS) (sym found.first_is) found.low

pub returns-clause-first : goal.returns-clause-first
returns-clause-first c x from less =
    let found = c.args.self.now.agree.found c.in_ok-entry.field-0-0 c.in_ok-entry.entry c.in_ok-entry.ensures.there in
    c.in_ok-entry.ensures.first x from (subst (λ y. x < y) found.first_is less)
