use Rattle.std.proofs.Common.{◌≡◌, ◌∙◌, Option, Some, None, Result, Ok, Err, true, false, arith, ap, refl, sym, subst}
use Rattle.draid_checkpoint.specs.Check.{Point, holds_birth}
use Rattle.draid_session.specs.Points.{IsPointOf}
use Rattle.draid_uber.specs.Uber.{point_of}
use Rattle.draid_names.specs.declared.pointer.Pointer.{Pointer}
use Rattle.draid_names.specs.declared.refusal.WriteFault.{WriteFault}
use Rattle.std.specs.Fn.{FnReturnsAt}
use Rattle.draid_pool.specs.Whole.{IsWhole}
use Rattle.draid_pool.specs.declared.pool.Pool.{Pool}
use Rattle.draid_pool.proofs.Lists.{present}
use Rattle.draid_pool.proofs.OwnedKnows.{all, knows_all, left_in, table_in, whole_by}
use Rattle.draid_pool.proofs.OwnedStands.{carries_out, whole_left}
use Rattle.draid_pool.proofs.Steps.{carries_so}
use Rattle.draid_pool.proofs.Wholes.{fits_on, whole_geometry, whole_valid}
use Rattle.draid_store.specs.Answers.{WriteDoes}
use Rattle.draid_store.specs.Storing.{IsServedBut, StoreSetsTable, StoresNew, WritesBy}
use Rattle.draid_store.proofs.DropHold.{is_point}
use Rattle.draid_store.proofs.DropWhole.{beside, fits_written, sets_new}
use Rattle.draid_store.proofs.Plain.{refused_plain, wrote_plain}
use Rattle.draid_store.proofs.WriteDrops.{write_dropped}
use Rattle.draid_store.proofs.writing.write.Goals as goal

pub write_object-requires : goal.write_object-requires
write_object-requires g c =
    let old = c.args.pool.now in
    record {
      chooser = c.requires.chooser;
      fits = tt;
      own = refl;
      geometry = c.requires.whole.layout.geometry_is;
      layout = λ m shard at. whole_geometry g.R.Rack g.A.Area old m shard c.requires.whole at;
      many = λ m inside. (let many = c.requires.whole.many in let z = present old.metaslabs.shards.items m (omega (arith, inside, many)) in (z.0, z.1, whole_valid g.R.Rack g.A.Area old m z.0 c.requires.whole z.1));
      object = c.requires.object;
      some = c.requires.some;
      short = c.requires.short;
      whole = whole_by g.R.Rack g.A.Area old c.requires.whole;
    }

abbrev Answer : Type 0
Answer = Option (Result (Option Pointer) WriteFault)

wrote : (r : Answer) (s : Result (Option Pointer) WriteFault) (t u : Option Pointer) → r ≡ Some s → s ≡ Ok t → t ≡ u → r ≡ Some (Ok u)
wrote r s t u a b d = cc

pub returns-in-Some-Ok-None : goal.returns-in-Some-Ok-None
returns-in-Some-Ok-None g c =
    let old = c.args.pool.now in
    let new : Pool g.row.R.Denot g.row.A.Denot = record old { metaslabs = c.write_object.new.metaslabs; own = c.write_object.new.own } in
    let e = c.write_object.ensures in
    let r = c.in-Some-Ok-None in
    let is_as = wrote c.write_object.result r.field-0 r.field-0-0 None r.is r.field-0-is r.field-0-0-is in
    let stored = subst (StoresNew (left_in old) c.args.object old.own.seq (table_in old) (table_in new)) is_as (e.new refl) in
    let sets = subst (StoreSetsTable c.args.object c.args.bytes.now (table_in old) (table_in new)) is_as e.sets in
    let whole : IsWhole g.R.Rack g.A.Area new = whole_left g.R.Rack g.A.Area old new c.requires.whole refl refl e.stay e.whole
    (fits_written g.R.Rack g.A.Area old c.requires.whole (table_in new) new.own.seq c.args.object stored.0 (sets_new WriteFault c.args.object c.args.bytes.now (table_in old) (table_in new) None stored.0 sets stored.1) stored.2 e.later) in
    let group_is : c.group.result ≡ (point_of old.uber).group = c.group.ensures ∙ ap (λ (p : Point). p.group) c.point.ensures in
    record {
      whole = whole;
      writes = sets;
      step = λ x is.
          let is_it = subst (IsPointOf x.store.marks) (sym group_is) (is_point g.R.Rack g.A.Area old x is.stands) in
          carries_so g.R.Rack g.A.Area new x (λ holds store. WriteDoes x (FnReturnsAt g.F.Fn c.args.chooser.now) c.args.object c.args.bytes.now (Ok tt) holds store × (store.marks ≡ x.store.marks)) (WriteDoes x (FnReturnsAt g.F.Fn c.args.chooser.now) c.args.object c.args.bytes.now (Ok tt))
          (carries_out g.R.Rack g.A.Area old new x is refl refl whole _ _ _ (λ holds store. WriteDoes x (FnReturnsAt g.F.Fn c.args.chooser.now) c.args.object c.args.bytes.now (Ok tt) holds store × (store.marks ≡ x.store.marks))
          (wrote_plain x (FnReturnsAt g.F.Fn c.args.chooser.now) c.args.object c.args.bytes.now)
          (subst (WritesBy g.R.Rack g.A.Area _ false all (left_in new) old.metaslabs new.metaslabs c.group.result (FnReturnsAt g.F.Fn c.args.chooser.now) c.args.object c.args.bytes.now (table_in new) new.own.seq new.own.floor x) is_as (e.step x is.stands.geometry is_it (knows_all g.R.Rack g.A.Area old x is))))
          (λ holds store d. d.0);
    }

pub returns-in-Some-Err : goal.returns-in-Some-Err
returns-in-Some-Err g c =
    let old = c.args.pool.now in
    let new : Pool g.row.R.Denot g.row.A.Denot = record old { metaslabs = c.write_object.new.metaslabs; own = c.write_object.new.own } in
    let e = c.write_object.ensures in
    let r = c.in-Some-Err in
    let is_as : c.write_object.result ≡ Some (Err r.why) = r.is ∙ ap Some r.field-0-is in
    let sets = subst (StoreSetsTable c.args.object c.args.bytes.now (table_in old) (table_in new)) is_as e.sets in
    let whole : IsWhole g.R.Rack g.A.Area new = whole_left g.R.Rack g.A.Area old new c.requires.whole refl refl e.stay e.whole
    (fits_on 0 (point_of old.uber) (table_in old) (table_in new) old.own.seq new.own.seq e.later (λ o q at. sym (sets o) ∙ at) c.requires.whole.point) in
    let group_is : c.group.result ≡ (point_of old.uber).group = c.group.ensures ∙ ap (λ (p : Point). p.group) c.point.ensures in
    record {
      whole = whole;
      writes = sets;
      step = λ x is.
          let is_it = subst (IsPointOf x.store.marks) (sym group_is) (is_point g.R.Rack g.A.Area old x is.stands) in
          carries_out g.R.Rack g.A.Area old new x is refl refl whole _ _ _ (WriteDoes x (FnReturnsAt g.F.Fn c.args.chooser.now) c.args.object c.args.bytes.now (Err r.why)) (refused_plain x (FnReturnsAt g.F.Fn c.args.chooser.now) c.args.object c.args.bytes.now r.why)
          (subst (WritesBy g.R.Rack g.A.Area _ false all (left_in new) old.metaslabs new.metaslabs c.group.result (FnReturnsAt g.F.Fn c.args.chooser.now) c.args.object c.args.bytes.now (table_in new) new.own.seq new.own.floor x) is_as (e.step x is.stands.geometry is_it (knows_all g.R.Rack g.A.Area old x is)));
    }

-- ---- the earlier block is dropped

pub drop_earlier-requires : goal.drop_earlier-requires
drop_earlier-requires g c =
    let old = c.args.pool.now in
    let mid : Pool g.row.R.Denot g.row.A.Denot = record old { metaslabs = c.write_object.new.metaslabs; own = c.write_object.new.own } in
    let e = c.write_object.ensures in
    let r = c.in-Some-Ok-Some in
    let is_as = wrote c.write_object.result r.field-0 r.field-0-0 (Some r.earlier) r.is r.field-0-is r.field-0-0-is in
    let group_is : c.group.result ≡ (point_of old.uber).group = c.group.ensures ∙ ap (λ (p : Point). p.group) c.point.ensures in
    let kept : holds_birth (point_of old.uber).group r.earlier.birth ≡ true = subst (λ n. holds_birth n r.earlier.birth ≡ true) group_is (subst (IsServedBut c.group.result) is_as (e.served refl refl)) in
    record {
      whole = beside WriteFault g.R.Rack g.A.Area old mid c.requires.whole refl refl e.stay e.whole c.args.object c.args.bytes.now r.earlier (subst (StoreSetsTable c.args.object c.args.bytes.now (table_in old) (table_in mid)) is_as e.sets)
          (subst (StoresNew (left_in old) c.args.object old.own.seq (table_in old) (table_in mid)) is_as (e.new refl)) (e.earlier r.earlier is_as) kept e.later;
      kept = kept;
    }

pub returns-in-Some-Ok-Some : goal.returns-in-Some-Ok-Some
returns-in-Some-Ok-Some g c =
    let old = c.args.pool.now in
    let mid : Pool g.row.R.Denot g.row.A.Denot = record old { metaslabs = c.write_object.new.metaslabs; own = c.write_object.new.own } in
    let e = c.write_object.ensures in
    let d = c.drop_earlier.ensures in
    let r = c.in-Some-Ok-Some in
    let is_as = wrote c.write_object.result r.field-0 r.field-0-0 (Some r.earlier) r.is r.field-0-is r.field-0-0-is in
    let group_is : c.group.result ≡ (point_of old.uber).group = c.group.ensures ∙ ap (λ (p : Point). p.group) c.point.ensures in
    let sets = subst (StoreSetsTable c.args.object c.args.bytes.now (table_in old) (table_in mid)) is_as e.sets in
    let kept = subst (IsServedBut c.group.result) is_as (e.served refl refl) in
    let by_point : holds_birth (point_of old.uber).group r.earlier.birth ≡ true = subst (λ n. holds_birth n r.earlier.birth ≡ true) group_is kept in
    let whole : IsWhole g.R.Rack g.A.Area mid = (beside WriteFault g.R.Rack g.A.Area old mid c.requires.whole refl refl e.stay e.whole c.args.object c.args.bytes.now r.earlier sets
    (subst (StoresNew (left_in old) c.args.object old.own.seq (table_in old) (table_in mid)) is_as (e.new refl)) (e.earlier r.earlier is_as) by_point e.later).whole in
    record {
      whole = d.whole;
      writes = (sets.0, sets.1, λ o. d.same o ∙ sets.2 o);
      step = λ x is.
          let is_it = subst (IsPointOf x.store.marks) (sym group_is) (is_point g.R.Rack g.A.Area old x is.stands) in
          write_dropped g.R.Rack g.A.Area _ old.metaslabs mid.metaslabs old mid x is refl refl whole c.group.result is_it (FnReturnsAt g.F.Fn c.args.chooser.now) c.args.object c.args.bytes.now r.earlier kept
          (subst (WritesBy g.R.Rack g.A.Area _ false all (left_in mid) old.metaslabs mid.metaslabs c.group.result (FnReturnsAt g.F.Fn c.args.chooser.now) c.args.object c.args.bytes.now (table_in mid) mid.own.seq mid.own.floor x) is_as (e.step x is.stands.geometry is_it (knows_all g.R.Rack g.A.Area old x is)))
          c.drop_earlier.new.pool (λ z v but. d.step z v but);
    }
