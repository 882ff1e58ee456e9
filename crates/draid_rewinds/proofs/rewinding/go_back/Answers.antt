use Rattle.std.proofs.Common.{sym, ap, subst, ℕ}
use Rattle.std.specs.Prelude.{nat_eq}
use Rattle.std.specs.HashMap.{get}
use Rattle.draid_rewinds.specs.Tables.{AreNewestBorn}
use Rattle.draid_rewinds.proofs.GivenUp.{back_carries, born_pointer, given_later, given_whole, own_point}
use Rattle.draid_rewinds.proofs.WholeThen.{may_give}
use Rattle.draid_rewinds.proofs.rewinding.go_back.Goals as goal

pub give_up-requires : goal.give_up-requires
give_up-requires g c = (let may = may_give g.R.Rack g.A.Area c.args.pool.now c.requires.whole c.requires.idle in record { may = record { each = may.each; few = may.few; low = may.low; uber = may.uber } })

pub returns : goal.returns
returns g c =
    let old = c.args.pool.now in
    let new = c.give_up.new.pool in
    let table = get nat_eq c.args.objects in
    let e = c.give_up.ensures.gives in
    let objects = (λ (o : ℕ). ap (λ t. get nat_eq t o) e.objects) in
    let own = born_pointer g.R.Rack g.A.Area old c.args.check table c.requires.whole c.requires.objects in
    record {
      whole = given_whole g.R.Rack g.A.Area old new c.requires.whole c.requires.idle table c.give_up.result e.frees e.uber e.geometry objects e.seq e.floor own;
      later = given_later g.R.Rack g.A.Area old new c.requires.whole c.requires.idle table c.give_up.result e.frees e.uber e.geometry objects e.seq e.floor own;
      carries = λ x r low.
          (let has = own_point g.R.Rack g.A.Area old new c.requires.whole c.requires.idle table c.give_up.result e.frees e.uber e.geometry objects e.seq e.floor x r low c.args.check c.requires.some in
          back_carries g.R.Rack g.A.Area old new c.requires.whole c.requires.idle table c.give_up.result e.frees e.uber e.geometry objects e.seq e.floor x r low has.0 has.1
          (subst (λ n. AreNewestBorn old.metaslabs.shards.items n table) (sym has.2) c.requires.objects));
    }
