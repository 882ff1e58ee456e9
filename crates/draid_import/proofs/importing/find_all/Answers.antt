use Rattle.std.proofs.Common.{◌<◌, Option, subst, sym}
use Rattle.std.specs.Prelude.{nat_eq}
use Rattle.std.specs.HashMap.{get}
use Rattle.draid_record.specs.Checks.{IsCheck, told_check}
use Rattle.draid_record.specs.declared.uber.UberBody.{UberBody}
use Rattle.draid_uber.specs.Slots.{group_of}
use Rattle.draid_uber.specs.Uber.{changed_of, kept_of}
use Rattle.draid_names.specs.declared.numbers.TheConstants.{LAST_NUMBER}
use Rattle.draid_import.specs.Imported.{IsLastIn}
use Rattle.draid_import.specs.Points.{KeepsPoint}
use Rattle.draid_pool.proofs.Refusing.{no_refusal}
use Rattle.draid_import.proofs.ImportCheck.{check_no_record, check_some, no_check_fault, same_uber, told_value}
use Rattle.draid_import.proofs.ImportFaulty.{passed_over, shard_no_check, shard_not_empty}
use Rattle.draid_import.proofs.ImportFits.{deref_drops, fits_by, kept_both, starved_no_check, starved_no_record, starved_no_shelf, starved_some}
use Rattle.draid_import.proofs.importing.find_all.Goals as goal

pub find_blocks-requires : goal.find_blocks-requires
find_blocks-requires g c = record { ready = c.requires.ready }

pub check_blocks-requires : goal.check_blocks-requires
check_blocks-requires g c = record { ready = c.requires.ready; valid = c.requires.valid }

pub count_beside-requires : goal.count_beside-requires
count_beside-requires g c = record { ready = c.requires.ready; found = c.in-Ok.ensures.found }

pub keep_point-requires : goal.keep_point-requires
keep_point-requires g c =
    let k = c.check_blocks.ensures.same in
    record {
      ready = c.requires.ready;
      valid = k.valid;
      range = subst (λ (o : Option UberBody). IsCheck (group_of o) (told_check c.in-Ok-check_blocks.check)) (sym k.kept) c.in-Ok-check_blocks.ensures.range;
      low = subst (λ (o : Option UberBody). group_of o < LAST_NUMBER) (sym k.kept) c.requires.low;
    }

pub returns-in-Err : goal.returns-in-Err
returns-in-Err g c = record {
  same = same_uber g.A.Area c.args.uber.now c.requires.valid;
  found = tt;
  together = tt;
  faulty = λ metaslab place kind err. c.in-Err.ensures.faulty metaslab place kind err;
  check = λ place kind err. absurd (shard_no_check c.in-Err.fault c.in-Err.ensures.fault place kind err);
  cause = λ err. absurd (c.in-Err.ensures.no_device err);
  none = λ x pieces held leaves known counts now count there found r same re over. shard_no_check c.in-Err.fault c.in-Err.ensures.fault;
  told = λ x pieces held leaves counts count there found r value tells. told_value g.A.Area g.met.A.Area.counted x pieces held leaves counts count c.args.uber.now value there found r tells;
  some = λ err. shard_not_empty c.in-Err.fault c.in-Err.ensures.fault err;
}

pub returns-in-Err-check_blocks : goal.returns-in-Err-check_blocks
returns-in-Err-check_blocks g c =
    let fault = c.in-Err-check_blocks.fault in
    let e = c.in-Err-check_blocks.ensures in
    record {
      same = c.check_blocks.ensures.same;
      found = tt;
      together = tt;
      faulty = λ metaslab place kind err. absurd (check_no_record fault e.fault metaslab place kind err);
      check = λ place kind err. (c.in-Ok.ensures.together, e.faulty place kind (passed_over fault _ err));
      cause = λ err. e.cause (passed_over fault _ err);
      none = λ x pieces held leaves known counts now count there found r same re over. no_check_fault g.A.Area g.met.A.Area.counted g.R.Rack c.args.alloc x pieces leaves counts count c.args.uber.now c.args.shards.now known now held fault there found r same re over
          (λ place kind err. e.faulty place kind (passed_over fault _ err));
      told = λ x pieces held leaves counts count there found r value tells. told_value g.A.Area g.met.A.Area.counted x pieces held leaves counts count c.args.uber.now value there found r tells;
      some = λ err. check_some fault e.fault err;
    }

pub returns-in-Err-count_beside : goal.returns-in-Err-count_beside
returns-in-Err-count_beside g c = record {
  same = c.check_blocks.ensures.same;
  found = tt;
  together = tt;
  faulty = λ metaslab place kind err. absurd (starved_no_record metaslab place kind err);
  check = λ place kind err. absurd (starved_no_check place kind err);
  cause = λ err. absurd (starved_no_shelf err);
  none = λ x pieces held leaves known counts now count there found r same re over. starved_no_check;
  told = λ x pieces held leaves counts count there found r value tells. told_value g.A.Area g.met.A.Area.counted x pieces held leaves counts count c.args.uber.now value there found r tells;
  some = λ err. starved_some err;
}

pub returns-in-Err-keep_point : goal.returns-in-Err-keep_point
returns-in-Err-keep_point g c = record {
  same = kept_both g.A.Area c.args.uber.now c.check_blocks.new.uber c.keep_point.new.uber c.check_blocks.ensures.same c.keep_point.ensures.same;
  found = tt;
  together = tt;
  faulty = λ metaslab place kind err. absurd (starved_no_record metaslab place kind err);
  check = λ place kind err. absurd (starved_no_check place kind err);
  cause = λ err. absurd (starved_no_shelf err);
  none = λ x pieces held leaves known counts now count there found r same re over. starved_no_check;
  told = λ x pieces held leaves counts count there found r value tells. told_value g.A.Area g.met.A.Area.counted x pieces held leaves counts count c.args.uber.now value there found r tells;
  some = λ err. starved_some err;
}

pub returns-in-Ok-keep_point : goal.returns-in-Ok-keep_point
returns-in-Ok-keep_point g c =
    let k = c.check_blocks.ensures.same in
    let check = c.in-Ok-check_blocks.check in
    let e = c.in-Ok-check_blocks.ensures in
    let value = told_check check in
    let newest = get nat_eq c.count_beside.new.found.newest in
    let first = c.in-Ok.ensures.found in
    let last : IsLastIn c.args.shards.now c.count_beside.new.found.seq = subst (IsLastIn c.args.shards.now) (sym c.count_beside.ensures.seq) (record { one = first.one; all = first.numbered }) in
    let beside = deref_drops c.args.shards.now c.deref.result.now check.drops.items newest c.deref.ensures.value c.in-Ok-count_beside.ensures.newest in
    let point = subst (λ n. KeepsPoint (group_of (kept_of c.args.uber.now)) value c.args.shards.now newest n c.keep_point.new.uber) e.changed
    (subst (λ (o : Option UberBody). KeepsPoint (group_of o) value c.args.shards.now newest (changed_of c.check_blocks.new.uber) c.keep_point.new.uber) k.kept c.in-Ok-keep_point.ensures.keeps) in
    record {
      same = kept_both g.A.Area c.args.uber.now c.check_blocks.new.uber c.keep_point.new.uber k c.keep_point.ensures.same;
      found = record {
        value = value;
        checked = e.checked;
        range = e.range;
        newest_is = beside;
        last = last;
        point = point;
        fits = fits_by (group_of (kept_of c.args.uber.now)) value c.args.shards.now newest (changed_of c.args.uber.now) c.keep_point.new.uber point e.range c.count_beside.new.found.seq e.checked.have beside last c.in-Ok-keep_point.ensures.room;
      };
      together = c.in-Ok.ensures.together;
      faulty = λ metaslab place kind err. absurd (no_refusal err);
      check = λ place kind err. absurd (no_refusal err);
      cause = λ err. absurd (no_refusal err);
      none = λ x pieces held leaves known counts now count there found r same re over place kind err. no_refusal err;
      told = λ x pieces held leaves counts count there found r value tells. told_value g.A.Area g.met.A.Area.counted x pieces held leaves counts count c.args.uber.now value there found r tells;
      some = λ err. no_refusal err;
    }
