use Rattle.std.proofs.Common.{sym, subst}
use Rattle.std.specs.Prelude.{IfNone, IfSome}
use Rattle.draid_session.specs.Passes as passes
use Rattle.draid_visits.specs.Rebuilding.{HasPass}
use Rattle.draid_visits.specs.Visiting.{IsOnly}
use Rattle.draid_visits.proofs.marks.number_of.Goals as goal

pub returns-in-Rebuild : goal.returns-in-Rebuild
returns-in-Rebuild g c = record {
  found = subst (λ k. IfSome c.rebuild_of.result (λ number. HasPass k number c.args.shard.now)) (sym c.in-Rebuild.is) c.rebuild_of.ensures.found;
  none = subst (λ k. IfNone c.rebuild_of.result (IsOnly (passes.other_kind k) c.args.shard.now)) (sym c.in-Rebuild.is) c.rebuild_of.ensures.none;
}

pub returns-in-Heal : goal.returns-in-Heal
returns-in-Heal g c = record {
  found = subst (λ k. IfSome c.scrub_of.result (λ number. HasPass k number c.args.shard.now)) (sym c.in-Heal.is) c.scrub_of.ensures.found;
  none = subst (λ k. IfNone c.scrub_of.result (IsOnly (passes.other_kind k) c.args.shard.now)) (sym c.in-Heal.is) c.scrub_of.ensures.none;
}
