use Rattle.std.proofs.Common.{◌∷◌, arith, refl}
use Rattle.draid_pool.specs.declared.pool.Pool.{Pool}
use Rattle.draid_pool.proofs.Rises.{areas_on}
use Rattle.draid_changes.specs.Walks.{Reserves}
use Rattle.draid_changes.specs.declared.need.Need.TheVariants as needs
use Rattle.draid_changes.proofs.Balanced.{no_passes_on}
use Rattle.draid_changes.proofs.Begun.{first_borrowed}
use Rattle.draid_changes.proofs.Leaving.{areas_left, left_whole}
use Rattle.draid_changes.proofs.Others.{as_many}
use Rattle.draid_changes.proofs.OthersGo.{all_may_leave, all_reserved, first_goes, first_stays, left_idle, left_passes, left_ready, unit_err}
use Rattle.draid_changes.proofs.Walk.{changed_at}
use Rattle.draid_slots.specs.Table.{arms_of}
use Rattle.draid_changes.proofs.balancing.detach_first.Goals as goal

pub returns-in-Err : goal.returns-in-Err
returns-in-Err g c =
    record {
      whole = c.in-Err.ensures.whole;
      objects = c.in-Err.ensures.objects;
      later = c.in-Err.ensures.later;
      not_shelf = λ is. c.stopped.ensures.not_shelf (unit_err c.stopped.result is);
      passes = no_passes_on c.args.pool.now c.reserve_all.new.pool c.in-Err.ensures.passes c.requires.passes;
      idle = tt;
      carries = λ x n others last is may. first_stays g.R.Rack g.A.Area c.args.slot n c.reserve_all.new.pool x c.in-Err.fault c.stopped.result c.stopped.ensures.ends (c.in-Err.ensures.carries x is);
      gone = tt;
    }

pub first_arm-arm-requires : goal.first_arm-arm-requires
first_arm-arm-requires g c =
    let old = c.args.pool.now in
    let late = c.reserve_all.new.pool in
    let e = c.in_default.ensures in
    let first = c.index.result.now in
    let start = first_borrowed g.R.Rack g.A.Area late first e.whole c.index.ensures in
    let go = c.requires.go in
    let may = all_reserved g.R.Rack g.A.Area c.args.slot (go.0 ∷ go.1) go.2 old late e.reserves go.3 0 first start in
    record {
      sound = (changed_at (Reserves needs.Event) old.metaslabs.shards.items late.metaslabs.shards.items e.reserves 0 first start).2.sound;
      slot = may.low;
      there = (let long = as_many (arms_of first.slots c.args.slot) (go.0 ∷ go.1) go.2 may.names in omega (arith, long));
    }

pub detach_all-requires : goal.detach_all-requires
detach_all-requires g c =
    let old = c.args.pool.now in
    let late = c.reserve_all.new.pool in
    let e = c.in_default.ensures in
    let first = c.index.result.now in
    let start = first_borrowed g.R.Rack g.A.Area late first e.whole c.index.ensures in
    record { ready = all_may_leave g.R.Rack g.A.Area c.args.slot old late late c.first_arm-arm.result first start e.whole e.reserves c.first_arm-arm.ensures c.requires.idle c.requires.go }

pub returns : goal.returns
returns g c =
    let old = c.args.pool.now in
    let late = c.reserve_all.new.pool in
    let mid : Pool g.row.R.Denot g.row.A.Denot = record late { metaslabs = record { shards = c.detach_all.new.shards } } in
    let e = c.in_default.ensures in
    let first = c.index.result.now in
    let start = first_borrowed g.R.Rack g.A.Area late first e.whole c.index.ensures in
    let slot = c.args.slot in
    let arm = c.first_arm-arm.result in
    let called = c.first_arm-arm.ensures in
    let leaves = c.detach_all.ensures.leaves in
    record {
      whole = left_whole g.R.Rack g.A.Area (record { slot = slot; arm = 0 }) arm late mid leaves (record { geometry = refl; uber = refl; objects = refl; seq = refl; floor = refl }) e.whole
          (all_may_leave g.R.Rack g.A.Area slot old late mid arm first start e.whole e.reserves called c.requires.idle c.requires.go);
      objects = e.objects;
      later = areas_on g.A.Area.faults old late mid e.later
          (areas_left g.R.Rack g.A.Area (record { slot = slot; arm = 0 }) arm late mid leaves (record { geometry = refl; uber = refl; objects = refl; seq = refl; floor = refl }));
      not_shelf = λ is. absurd (cc is);
      passes = left_passes g.R.Rack g.A.Area slot old late mid arm first start e.whole e.reserves called leaves (no_passes_on old late e.passes c.requires.passes);
      idle = left_idle g.R.Rack g.A.Area slot old late mid arm first start e.whole e.reserves called leaves c.requires.idle;
      carries = λ x n others last is may.
          first_goes g.R.Rack g.A.Area slot old late mid arm first start e.whole e.reserves called leaves (record { geometry = refl; uber = refl; objects = refl; seq = refl; floor = refl }) c.requires.idle x n others last may
          (e.carries x is);
      gone = λ n others last may. left_ready g.R.Rack g.A.Area slot old late mid arm first start e.whole e.reserves called leaves n others last may;
    }
