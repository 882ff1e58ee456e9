use Rattle.std.proofs.Common.{◌<◌, ◌≤◌, ◌∙◌, ap, subst, sym}
use Rattle.draid_entries.specs.Entries.{entry_at}
use Rattle.draid_entries.proofs.entries.Entries.last_upto.Goals as goal

pub returns-clause-there : goal.returns-clause-there
returns-clause-there c =
    let found = c.args.self.now.agree.found c.in_ok-entry.field-0-0 c.in_ok-entry.entry c.in_ok-entry.ensures.there in
    ap (entry_at c.args.self.now) found.first_is ∙ c.in_ok-entry.ensures.there

pub returns-clause-upto : goal.returns-clause-upto
returns-clause-upto c =
    let found = c.args.self.now.agree.found c.in_ok-entry.field-0-0 c.in_ok-entry.entry c.in_ok-entry.ensures.there in
    subst (λ x. x ≤ c.args.stripe) (sym found.first_is) c.in_ok-entry.ensures.upto

pub returns-clause-last : goal.returns-clause-last
returns-clause-last c x past upto =
    let found = c.args.self.now.agree.found c.in_ok-entry.field-0-0 c.in_ok-entry.entry c.in_ok-entry.ensures.there in
    c.in_ok-entry.ensures.last x (subst (λ y. y < x) found.first_is past) upto
