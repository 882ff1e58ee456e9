use Rattle.std.proofs.Common.{ℕ, List, [], nat_eq, refl, subst}
use Rattle.std.specs.HashMap.{get}
use Rattle.std.specs.Fn.{FnReturnsAt}
use Rattle.draid_pool.proofs.HeldBy.{stay_same}
use Rattle.draid_store.specs.Storing.{StoreSetsTable, WritesBy}
use Rattle.draid_store.proofs.writing.write_object.Goals as goal

pub returns-in_default-clause-stay : goal.returns-in_default-clause-stay
returns-in_default-clause-stay g c = stay_same (g.M.Metaslabs.owns c.args.metaslabs.now) (g.M.Metaslabs.last c.args.metaslabs.now)

pub returns-in_default-clause-step : goal.returns-in_default-clause-step
returns-in_default-clause-step g c x layout is_point knows = record { holds = []; reached = x; store = x.store; follows = (refl, refl); done = (tt, refl); knows = knows }

pub returns-clause-sets : goal.returns-clause-sets
returns-clause-sets g c =
    subst (λ (w : List ℕ). StoreSetsTable c.args.object w (λ o. get nat_eq c.args.own.now.objects o) (λ o. get nat_eq c.write_encoded.new.own.objects o) c.write_encoded.result) c.in-Ok.ensures.bytes c.write_encoded.ensures.sets

pub returns-clause-step : goal.returns-clause-step
returns-clause-step g c x layout is_point knows =
    subst (λ (w : List ℕ). WritesBy g.R.Rack g.A.Area g.M.Metaslabs.went g.M.Metaslabs.shared (g.M.Metaslabs.owns c.args.metaslabs.now) (g.M.Metaslabs.last c.write_encoded.new.metaslabs) c.args.metaslabs.now c.write_encoded.new.metaslabs c.args.point (FnReturnsAt g.F.Fn c.args.chooser.now) c.args.object w
    (λ o. get nat_eq c.write_encoded.new.own.objects o) c.write_encoded.new.own.seq c.write_encoded.new.own.floor x c.write_encoded.result) c.in-Ok.ensures.bytes (c.write_encoded.ensures.step x layout is_point knows)
