use Rattle.std.proofs.Common.{◌≡◌, ℕ, subst}
use Rattle.draid_entries.specs.declared.entry.Entry.{Entry}
use Rattle.draid_shard.specs.Looks.{IsOver}
use Rattle.draid_shard.proofs.Over.{none_over, only_last}
use Rattle.draid_pool.proofs.Committed.{keeps_absent, keeps_none, keeps_some}
use Rattle.draid_pool.proofs.committing.lends_freed.Goals as goal

pub returns-in-Some-last_upto : goal.returns-in-Some-last_upto
returns-in-Some-last_upto g c =
    let shard = c.args.shard.now in
    let e = c.in-Some-last_upto.ensures in
    let entry = c.in-Some-last_upto.entry in
    keeps_some g.R.Rack shard c.requires.valid c.in-Some.kept c.in-Some.is entry
    (subst (λ (x : ℕ). (d : Entry) → IsOver shard.entries x d → d ≡ entry) c.stripe.ensures
    (only_last shard.entries c.stripe.result entry e.there e.upto e.last c.requires.valid.tables.apart)) c.args.group c.is_freed_by.result c.is_freed_by.ensures

pub returns-in-None : goal.returns-in-None
returns-in-None g c =
    keeps_absent g.R.Rack c.args.shard.now c.requires.valid c.in-Some.kept c.in-Some.is
    (subst (λ (x : ℕ). (d : Entry) → IsOver c.args.shard.now.entries x d → ⊥) c.stripe.ensures
    (none_over c.args.shard.now.entries c.stripe.result c.in-None.ensures.none)) c.args.group

pub returns-in_default : goal.returns-in_default
returns-in_default g c = keeps_none c.args.shard.now c.args.group c.in_default.is
