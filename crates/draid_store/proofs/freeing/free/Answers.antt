use Rattle.std.proofs.Common.{arith, refl}
use Rattle.std.specs.Prelude.{nat_eq}
use Rattle.std.specs.HashMap.{get}
use Rattle.draid_store.specs.Answers.{FreeDoes}
use Rattle.draid_uber.specs.Uber.{point_of}
use Rattle.draid_pool.specs.Whole.{IsWhole}
use Rattle.draid_pool.specs.declared.pool.Pool.{Pool}
use Rattle.draid_pool.proofs.OwnedKnows.{knows_all, whole_by}
use Rattle.draid_pool.proofs.OwnedStands.{carries_out, whole_left}
use Rattle.draid_pool.proofs.Wholes.{fits_on}
use Rattle.draid_store.proofs.DropHold.{is_loose, kept_some}
use Rattle.draid_store.proofs.DropWhole.{taken_left}
use Rattle.draid_store.proofs.FreeHold.{free_plain}
use Rattle.draid_store.proofs.freeing.free.Goals as goal

pub drop_object-requires : goal.drop_object-requires
drop_object-requires g c =
    let old = c.args.pool.now in
    let z = kept_some (point_of old.uber).group (get nat_eq old.own.objects c.args.object) c.kept_pointer.result c.in-Some.pointer c.kept_pointer.ensures c.in-Some.is in
    record { whole = c.requires.whole; has = z.0; kept = z.1 }

pub free_object-requires-clause-whole : goal.free_object-requires-clause-whole
free_object-requires-clause-whole g c = whole_by g.R.Rack g.A.Area c.args.pool.now c.requires.whole

pub returns : goal.returns
returns g c =
    let old = c.args.pool.now in
    let new : Pool g.row.R.Denot g.row.A.Denot = record old { metaslabs = c.free_object.new.metaslabs; own = c.free_object.new.own } in
    let e = c.in-Some-free_object.ensures in
    let number = e.number in
    let whole : IsWhole g.R.Rack g.A.Area new = whole_left g.R.Rack g.A.Area old new c.requires.whole refl refl e.stay e.whole
    (fits_on 0 (point_of old.uber) (get nat_eq old.own.objects) (get nat_eq new.own.objects) old.own.seq new.own.seq (omega (arith, number)) (taken_left c.args.object (get nat_eq old.own.objects) (get nat_eq new.own.objects) c.in-Some-free_object.result e.takes) c.requires.whole.point) in
    record {
      whole = whole;
      frees = e.takes;
      step = λ x is.
          let loose = is_loose g.R.Rack g.A.Area old x is.stands c.args.object c.kept_pointer.result c.kept_pointer.ensures c.in_default.is in
          carries_out g.R.Rack g.A.Area old new x is refl refl whole _ _ _ (FreeDoes x c.args.object c.in-Some-free_object.result) (free_plain x c.args.object c.in-Some-free_object.result loose) (e.step x loose (knows_all g.R.Rack g.A.Area old x is));
    }
