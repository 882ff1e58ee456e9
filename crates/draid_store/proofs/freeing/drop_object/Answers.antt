use Rattle.std.proofs.Common.{◌≡◌, ◌∙◌, ℕ, Ok, None, refl, sym, ap, subst, cond, nat_eq}
use Rattle.std.specs.Prelude.{max}
use Rattle.std.specs.HashMap.{get}
use Rattle.draid_objects.specs.Changes.{write_of}
use Rattle.draid_session.specs.Points.{KeepsBirth}
use Rattle.draid_uber.specs.Uber.{point_of}
use Rattle.draid_pool.specs.Carries.{CarriesOut}
use Rattle.draid_pool.specs.Whole.{IsWhole}
use Rattle.draid_pool.specs.declared.own.Own.{Own}
use Rattle.draid_pool.specs.declared.owned.Owned.{Owned}
use Rattle.draid_pool.proofs.Lastly.{write_object}
use Rattle.draid_pool.proofs.LookKeeps.{same_keeps}
use Rattle.draid_pool.proofs.Wholes.{whole_valid}
use Rattle.draid_shard.specs.declared.shard.Shard.{Shard}
use Rattle.draid_store.specs.Answers.{FreeDoes}
use Rattle.draid_store.proofs.DropHold.{carries_freed, is_point, pointed_in}
use Rattle.draid_store.proofs.DropWhole.{DropsAt, apart_removed, fits_removed, other_drops, pointer_begun, room_for, table_left, whole_dropped}
use Rattle.draid_store.proofs.Points.{point_keeps}
use Rattle.draid_store.proofs.freeing.drop_object.Goals as goal

pub hold-op-requires-clause-may : goal.hold-op-requires-clause-may
hold-op-requires-clause-may g c =
    let is = c.requires.whole.objects c.args.object c.args.pointer c.requires.has in
    record {
      shard = is.shard;
      there = is.there;
      valid = whole_valid g.R.Rack g.A.Area c.args.pool.now c.args.pointer.metaslab is.shard c.requires.whole is.there;
      ready = λ x d. d.valid;
      keeps = λ x y after needs look. same_keeps g.R.Rack g.A.Area x y needs look.1;
      own = λ n is. absurd (cc);
    }

pub drop_block-requires : goal.drop_block-requires
drop_block-requires g c =
    let old = c.args.pool.now in
    let room = room_for (point_of old.uber) (get nat_eq old.own.objects) old.own.seq c.args.object c.args.pointer c.requires.has c.requires.kept c.requires.whole.point in
    record {
      room = room.0;
      few = room.1;
      other = other_drops g.R.Rack g.A.Area old c.args.object c.args.pointer c.requires.whole c.requires.has (c.requires.whole.objects c.args.object c.args.pointer c.requires.has).object_is;
      valid = c.requires.whole.uber;
    }

pub returns : goal.returns
returns g c =
    let old = c.args.pool.now in
    let w = c.requires.whole in
    let h = c.hold-op.ensures.held in
    let e = c.drop_block.ensures in
    let p = c.args.pointer in
    let object = c.args.object in
    let group = c.hold-op.result.out in
    let own : Own = record old.own { floor = group; objects = c.remove.new.self } in
    let uber = c.drop_block.new.self in
    let same : c.hold-op.new.self ≡ old.metaslabs = h.went.2 h.related.1 in
    let removed : (o : ℕ) → get nat_eq own.objects o ≡ cond (nat_eq object o) None (get nat_eq old.own.objects o) = λ o. c.remove.ensures.updates.0 o in
    let d : DropsAt g.A.Area old uber own p group = record {
      shard = h.shard;
      there = h.there;
      group_is = h.related.0 ∙ ap (λ (s : Shard g.row.R.Denot g.row.A.Denot). max s.open_group old.own.floor) (h.drifts.still refl);
      uber_is = record { valid = e.valid; drops = e.drops; changed = e.changed; areas_are = e.areas; kept = e.kept; layout = e.layout; version = e.version; leaf = e.leaf };
      seq = refl;
      floor = refl;
    } in
    record {
      whole = subst (λ (ms : Owned g.row.R.Denot g.row.A.Denot). IsWhole g.R.Rack g.A.Area (record old { metaslabs = ms; uber = uber; own = own })) (sym same)
          (whole_dropped g.R.Rack g.A.Area old uber own p group w d c.requires.kept (fits_removed g.R.Rack g.A.Area old uber own p group w d object c.requires.has c.requires.kept removed)
          (λ o q at. (table_left (get nat_eq old.own.objects) (get nat_eq own.objects) object removed o q at).1) (apart_removed g.R.Rack g.A.Area old object p (get nat_eq own.objects) w c.requires.has removed)
          (pointer_begun g.R.Rack g.A.Area old object p w (w.objects object p c.requires.has)));
      frees = (p, c.requires.has, removed);
      step = λ x r.
          let z = pointed_in old.metaslabs.shards.items (get nat_eq old.own.objects object) (write_of x.store.changes object) p c.requires.has (r.stands.objects object) in
          let kept : KeepsBirth x.store.marks z.0.birth = subst (KeepsBirth x.store.marks) z.2.birth_is (point_keeps x.store.marks (point_of old.uber).group p.birth (is_point g.R.Rack g.A.Area old x r.stands) c.requires.kept) in
          subst (λ (ms : Owned g.row.R.Denot g.row.A.Denot). CarriesOut g.R.Rack g.A.Area (record old { metaslabs = ms; uber = uber; own = own }) x (FreeDoes x object (Ok tt))) (sym same)
          (carries_freed g.R.Rack g.A.Area old uber own p group w d x r.stands z.0 z.2 kept c.requires.kept object (write_object x.store.changes object z.0 z.1) z.1 r.only removed);
    }
