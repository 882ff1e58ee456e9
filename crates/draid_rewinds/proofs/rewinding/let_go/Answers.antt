use Rattle.std.proofs.Common.{refl, ap, ℕ}
use Rattle.std.specs.Prelude.{nat_eq}
use Rattle.std.specs.HashMap.{get}
use Rattle.draid_pool.proofs.Wholes.{same_pointers}
use Rattle.draid_rewinds.proofs.GivenUp.{given_later, given_whole, let_carries, some_point}
use Rattle.draid_rewinds.proofs.WholeThen.{may_give}
use Rattle.draid_rewinds.proofs.rewinding.let_go.Goals as goal

pub give_up-requires : goal.give_up-requires
give_up-requires g c = record { may = may_give g.R.Rack g.A.Area c.args.pool.now c.requires.whole c.requires.idle }

pub returns : goal.returns
returns g c =
    let old = c.args.pool.now in
    let new = c.give_up.new.pool in
    let table = get nat_eq old.own.objects in
    let e = c.give_up.ensures.gives in
    let objects = (λ (o : ℕ). ap (λ t. get nat_eq t o) e.objects) in
    record {
      whole = given_whole g.R.Rack g.A.Area old new c.requires.whole c.requires.idle table c.give_up.result e.frees e.uber e.geometry objects e.seq e.floor c.requires.whole.objects;
      same = same_pointers old new e.objects;
      later = given_later g.R.Rack g.A.Area old new c.requires.whole c.requires.idle table c.give_up.result e.frees e.uber e.geometry objects e.seq e.floor c.requires.whole.objects;
      carries = λ x r low.
          (let has = some_point g.R.Rack g.A.Area old new c.requires.whole c.requires.idle table c.give_up.result e.frees e.uber e.geometry objects e.seq e.floor x r low c.requires.some in
          let_carries g.R.Rack g.A.Area old new c.requires.whole c.requires.idle table c.give_up.result e.frees e.uber e.geometry objects e.seq e.floor x r low has.0 has.1 refl);
    }
