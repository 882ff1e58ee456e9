use Rattle.std.proofs.Common.{◌≡◌, ◌∙◌, arith, refl, sym, ap, subst}
use Rattle.std.specs.Prelude.{max}
use Rattle.draid_pool.specs.Carries.{CarriesOut}
use Rattle.draid_pool.specs.Whole.{IsWhole}
use Rattle.draid_pool.specs.declared.own.Own.{Own}
use Rattle.draid_pool.specs.declared.owned.Owned.{Owned}
use Rattle.draid_pool.proofs.LookKeeps.{same_keeps}
use Rattle.draid_pool.proofs.Wholes.{whole_valid}
use Rattle.draid_shard.specs.declared.shard.Shard.{Shard}
use Rattle.draid_store.specs.Freeing.{DropsEarlier}
use Rattle.draid_store.proofs.DropHold.{carries_earlier}
use Rattle.draid_store.proofs.DropWhole.{DropsAt, whole_dropped}
use Rattle.draid_store.proofs.freeing.drop_earlier.Goals as goal

pub hold-op-requires-clause-may : goal.hold-op-requires-clause-may
hold-op-requires-clause-may g c =
    let has = c.requires.whole.has in
    record {
      shard = has.shard;
      there = has.there;
      valid = whole_valid g.R.Rack g.A.Area c.args.pool.now c.args.pointer.metaslab has.shard c.requires.whole.whole has.there;
      ready = λ x d. d.valid;
      keeps = λ x y after needs look. same_keeps g.R.Rack g.A.Area x y needs look.1;
      own = λ n is. absurd (cc);
    }

pub drop_block-requires : goal.drop_block-requires
drop_block-requires g c =
    let fits = c.requires.whole.fits in
    record {
      room = (let room = fits.room in omega (arith, room));
      few = (let few = fits.few in omega (arith, few));
      other = c.requires.whole.other;
      valid = c.requires.whole.whole.uber;
    }

pub returns : goal.returns
returns g c =
    let old = c.args.pool.now in
    let beside = c.requires.whole in
    let h = c.hold-op.ensures.held in
    let e = c.drop_block.ensures in
    let p = c.args.pointer in
    let group = c.hold-op.result.out in
    let own : Own = record old.own { floor = group } in
    let uber = c.drop_block.new.self in
    let same : c.hold-op.new.self ≡ old.metaslabs = h.went.2 h.related.1 in
    let d : DropsAt g.A.Area old uber own p group = record {
      shard = h.shard;
      there = h.there;
      group_is = h.related.0 ∙ ap (λ (s : Shard g.row.R.Denot g.row.A.Denot). max s.open_group old.own.floor) (h.drifts.still refl);
      uber_is = record { valid = e.valid; drops = e.drops; changed = e.changed; areas_are = e.areas; kept = e.kept; layout = e.layout; version = e.version; leaf = e.leaf };
      seq = refl;
      floor = refl;
    } in
    record {
      whole = subst (λ (ms : Owned g.row.R.Denot g.row.A.Denot). IsWhole g.R.Rack g.A.Area (record old { metaslabs = ms; uber = uber; own = own })) (sym same)
          (whole_dropped g.R.Rack g.A.Area old uber own p group beside.whole d c.requires.kept beside.fits (λ o q at. at) beside.apart beside.begun);
      same = λ o. refl;
      step = λ x we r.
          subst (λ (ms : Owned g.row.R.Denot g.row.A.Denot). CarriesOut g.R.Rack g.A.Area (record old { metaslabs = ms; uber = uber; own = own }) x (DropsEarlier x we x.store.floor)) (sym same)
          (carries_earlier g.R.Rack g.A.Area old uber own p group beside.whole d x r.stands we r.had r.kept c.requires.kept r.counts r.newer r.is_last r.later r.only (λ o. refl));
    }
