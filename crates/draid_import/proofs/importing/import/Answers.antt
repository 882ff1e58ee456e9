use Rattle.std.proofs.Common.{◌≡◌, ◌≤◌, ◌∙◌, inl, inr, length, List, Option, Result, Err, ap, subst, sym, arith}
use Rattle.std.specs.Prelude.{nat_eq}
use Rattle.std.proofs.lemmas.Result.{err_from_is_err_and}
use Rattle.std.specs.HashMap.{get}
use Rattle.draid_shard.specs.declared.shard.Shard.{Shard}
use Rattle.draid_uber.specs.Slots.{group_of}
use Rattle.draid_uber.specs.Checks.{told_by}
use Rattle.draid_uber.specs.declared.uber.Uber.{Uber}
use Rattle.draid_uber.specs.Uber.{areas_of, changed_of, kept_of, layout_of, next_leaf_of}
use Rattle.draid_found.specs.Together.{AreApart, AreTogether}
use Rattle.draid_session.specs.State.{limit_of}
use Rattle.draid_import.specs.Checking.{HoldsCheck, IsBadCheck, OwnCheck}
use Rattle.draid_import.specs.Found.{AreReopened, OpensAllOver}
use Rattle.draid_import.specs.Points.{IsFoundBeside}
use Rattle.draid_record.specs.declared.uber.UberBody.{UberBody}
use Rattle.draid_shelf.specs.Kits.{Held}
use Rattle.draid_import.specs.Findings.{LeavesAll}
use Rattle.draid_found.specs.Found.{AreReady}
use Rattle.draid_import.specs.Importing.{ImportIs}
use Rattle.draid_import.specs.declared.fault.ImportFault.{ImportFault}
use Rattle.draid_pool.specs.declared.pool.Pool.{Pool}
use Rattle.draid_import.proofs.Findings.{left_found, left_unfound, over_entry, unread_entry}
use Rattle.draid_import.proofs.ImportCheck.{bad_entry, beside_entry, risen_own, still_behind, still_body, still_found, still_low, still_over, still_recovered, still_reopened, still_taken}
use Rattle.draid_import.proofs.ImportFits.{early_by, new_value}
use Rattle.draid_import.proofs.ImportFaulty.{err_is, passed_on, passed_over, shard_no_check, shard_not_empty}
use Rattle.draid_import.proofs.ImportMade.{made_passed, none_passed}
use Rattle.draid_import.proofs.ImportLeft.{leaves_all, refusal_is, refused_pool, rests_known, risen_behind}
use Rattle.draid_import.proofs.ImportOne.{no_fault_apart}
use Rattle.draid_import.proofs.ImportPool.{pool_found, tells_as_before}
use Rattle.draid_import.proofs.Found.{absent_not, all_ready, refused_too}
use Rattle.draid_pool.specs.Shelves.{count_on}
use Rattle.draid_pool.specs.Taking.{gives_areas}
use Rattle.draid_pool.proofs.Failing.{own_given}
use Rattle.draid_pool.proofs.Refusing.{if_ok_passed, no_refusal, on_err_always, on_ok_passed, passed, passed_is}
use Rattle.draid_import.proofs.importing.import.Goals as goal

pub find_all-requires : goal.find_all-requires
find_all-requires g c = record {
  ready = subst (λ (xs : List (Shard g.row.H-R.Denot g.row.H-A.Denot)). AreReady g.H.R.Rack xs) (sym c.deref.ensures.value)
      (all_ready g.H.R.Rack (layout_of c.in_ok-uber.uber) (group_of (kept_of c.in_ok-uber.uber)) c.in-Ok.shards.items c.in-Ok.ensures.reopened);
  valid = c.in_ok-uber.ensures.found.valid;
  low = c.in_ok-uber.ensures.found.low;
}

pub reopen_shards-requires-clause-uber : goal.reopen_shards-requires-clause-uber
reopen_shards-requires-clause-uber g c κs within = c.in_ok-uber.ensures.found

pub pool_of-requires : goal.pool_of-requires
pool_of-requires g c =
    let area = g.H.A.Area in
    let old = c.in_ok-uber.uber in
    let new = c.find_all.new.uber in
    let k = c.find_all.ensures.same in
    let newest = get nat_eq c.in-Ok-find_all.found.newest in
    let group = group_of (kept_of old) in
    let f = subst (λ (xs : List (Shard g.row.H-R.Denot g.row.H-A.Denot)). IsFoundBeside (OwnCheck area old) xs group (changed_of old) newest c.in-Ok-find_all.found.seq new) c.deref.ensures.value c.in-Ok-find_all.ensures.found in
    record {
      uber = still_found area old new k c.in_ok-uber.ensures.found;
      shards = still_reopened area old new k g.H.R.Rack c.in-Ok.shards.items c.in-Ok.ensures.reopened;
      pointers = λ object p at. (f.newest_is.pointers object p at).0;
      last = f.last;
      fits = f.fits;
      early = λ own is. subst (λ (o : Option UberBody). own ≤ group_of o) (sym k.kept) (early_by group f.value c.in-Ok.shards.items newest (changed_of old) new f.point f.range own is);
      together = subst (λ (xs : List (Shard g.row.H-R.Denot g.row.H-A.Denot)). AreTogether xs (length xs)) c.deref.ensures.value c.in-Ok-find_all.ensures.together;
      low = still_low area old new k g.H.R.Rack c.in-Ok.shards.items (λ m shard there. (c.in-Ok.ensures.over m shard there).opens.low);
    }

pub give_back-requires-clause-few : goal.give_back-requires-clause-few
give_back-requires-clause-few g c κs within =
    let many = c.in-Ok.ensures.reopened.many in
    let most = c.in-Ok.ensures.reopened.layout.geometry_is.props.most_metaslabs in
    omega (arith, many, most)

pub returns-in-Ok-find_all : goal.returns-in-Ok-find_all
returns-in-Ok-find_all g c =
    let shelf = g.H.Shelf in
    let rack = g.H.R.Rack in
    let area = g.H.A.Area in
    let u = c.in_ok-uber.ensures in
    let e = c.in-Ok.ensures in
    let old = c.in_ok-uber.uber in
    let new = c.find_all.new.uber in
    let k = c.find_all.ensures.same in
    let shards = c.in-Ok.shards.items in
    let newest = get nat_eq c.in-Ok-find_all.found.newest in
    let found = still_found area old new k u.found in
    let recovered = still_recovered area old new k (shelf.told c.args.shelf.now) (count_on shelf c.args.shelf.now) u.recovered in
    let reopened = still_reopened area old new k rack shards e.reopened in
    let over = still_over area old new k rack shards (shelf.told c.find_uber.new.shelf) (shelf.leaves c.find_uber.new.shelf) (shelf.counts c.find_uber.new.shelf) e.over in
    let own = subst (λ (xs : List (Shard g.row.H-R.Denot g.row.H-A.Denot)). IsFoundBeside (OwnCheck area old) xs (group_of (kept_of old)) (changed_of old) newest c.in-Ok-find_all.found.seq new) c.deref.ensures.value c.in-Ok-find_all.ensures.found in
    let blocks = beside_entry area (shelf.told c.args.shelf.now) (count_on shelf c.args.shelf.now) old new shards (changed_of old) newest c.in-Ok-find_all.found.seq k u.recovered u.changed own in
    record {
      whole = c.pool_of.ensures.whole;
      none = absent_not old (shelf.told c.args.shelf.now) _ _ u.none;
      made = λ geometry made. absurd (u.made geometry made).none;
      import = λ x pieces there. c.pool_of.ensures.imports x pieces
          (pool_found c.args.alloc rack area x pieces (shelf.told c.args.shelf.now) (shelf.told c.find_uber.new.shelf) (shelf.leaves c.args.shelf.now) (shelf.leaves c.find_uber.new.shelf) (shelf.counts c.args.shelf.now) (shelf.counts c.find_uber.new.shelf)
          (count_on shelf c.args.shelf.now) new shards newest c.in-Ok-find_all.found.seq there found recovered c.find_uber.ensures.counts u.told reopened over
          (HoldsCheck (group_of (kept_of new)) (shelf.told c.args.shelf.now)) blocks
          (new_value area old new k (shelf.told c.args.shelf.now) blocks.value x.store.marks
          (c.find_all.ensures.told x pieces (shelf.told c.args.shelf.now) (shelf.leaves c.args.shelf.now) (shelf.counts c.args.shelf.now) (count_on shelf c.args.shelf.now) there u.found u.recovered blocks.value) blocks.checked.read));
      read = record {
        uber = new;
        shards = shards;
        newest = newest;
        seq = c.in-Ok-find_all.found.seq;
        recovered = recovered;
        read = record {
          found = found;
          body = still_body area old new k (shelf.told c.args.shelf.now) u.body;
          reopened = reopened;
          over = over_entry rack area (limit_of (layout_of new)) (group_of (kept_of new)) (next_leaf_of new) (shelf.told c.args.shelf.now) (shelf.told c.find_uber.new.shelf)
              (shelf.leaves c.args.shelf.now) (shelf.leaves c.find_uber.new.shelf) (shelf.counts c.args.shelf.now) (shelf.counts c.find_uber.new.shelf) shards u.told c.find_uber.ensures.leaves c.find_uber.ensures.counts over;
          together = subst (λ (xs : List (Shard g.row.H-R.Denot g.row.H-A.Denot)). AreTogether xs (length xs)) c.deref.ensures.value c.in-Ok-find_all.ensures.together;
          blocks = blocks;
        };
        made = c.pool_of.ensures.made;
      };
      empty = λ err. absurd (no_refusal err);
      back = tt;
      tells = tells_as_before (layout_of old).props.metaslabs (shelf.told c.args.shelf.now) (shelf.told c.find_uber.new.shelf) (shelf.told c.reopen_shards.new.shelf) u.told e.told;
      faulty = λ metaslab place kind err. absurd (no_refusal err);
      check = λ place kind err. absurd (no_refusal err);
      later = (let first = c.find_uber.ensures.later in let more = c.reopen_shards.ensures.later in omega (arith, first, more));
      cause = λ failed. absurd (no_refusal failed);
    }

pub returns-in-Err : goal.returns-in-Err
returns-in-Err g c =
    let shelf = g.H.Shelf in
    let u = c.in_ok-uber.ensures in
    record {
      whole = tt;
      none = absent_not c.in_ok-uber.uber (g.H.Shelf.told c.args.shelf.now) _ _ c.in_ok-uber.ensures.none;
      made = λ geometry made. absurd (c.in_ok-uber.ensures.made geometry made).none;
      import = λ x pieces there. refusal_is g.H.R.Rack g.H.A.Area x pieces (shelf.told c.give_areas.new.shelf) (shelf.leaves c.give_areas.new.shelf) (shelf.counts c.give_areas.new.shelf) (count_on shelf c.give_areas.new.shelf) c.in-Err.fault (shard_not_empty c.in-Err.fault c.in-Err.ensures.fault)
          (c.in-Err.ensures.opens x pieces (shelf.told c.args.shelf.now) (shelf.counts c.args.shelf.now) (count_on shelf c.args.shelf.now)
          (rests_known x pieces (shelf.told c.args.shelf.now) (shelf.leaves c.args.shelf.now) (shelf.leaves c.find_uber.new.shelf) (shelf.counts c.args.shelf.now) (count_on shelf c.args.shelf.now) c.find_uber.ensures.leaves there) u.recovered u.told)
          (shard_no_check c.in-Err.fault c.in-Err.ensures.fault)
          (refused_pool c.args.alloc g.H.R.Rack g.H.A.Area x pieces (shelf.told c.args.shelf.now) (shelf.told c.find_uber.new.shelf) (shelf.told c.reopen_shards.new.shelf) (shelf.told c.give_areas.new.shelf)
          (shelf.leaves c.args.shelf.now) (shelf.leaves c.find_uber.new.shelf) (shelf.leaves c.reopen_shards.new.shelf) (shelf.leaves c.give_areas.new.shelf)
          (shelf.counts c.args.shelf.now) (shelf.counts c.find_uber.new.shelf) (shelf.counts c.reopen_shards.new.shelf) (shelf.counts c.give_areas.new.shelf) (count_on shelf c.args.shelf.now) (count_on shelf c.give_areas.new.shelf)
          c.in_ok-uber.uber there u.found u.recovered u.told c.find_uber.ensures.leaves c.find_uber.ensures.counts c.in-Err.ensures.back
          (c.give_areas.ensures.told ∙ ap (λ a. gives_areas (told_by g.H.A.Area.told a) (shelf.told c.reopen_shards.new.shelf)) c.into_areas.ensures) c.give_areas.ensures.leaves c.give_areas.ensures.counts
          (own_given g.H.A.Area.faults (areas_of c.in_ok-uber.uber) (shelf.uber_count c.give_areas.new.shelf) (shelf.check_counts c.give_areas.new.shelf) (c.give_areas.ensures.uber ∙ ap (λ a. g.H.A.Area.faults a.uber) c.into_areas.ensures) (c.give_areas.ensures.checks ∙ ap (λ a. record { even = g.H.A.Area.faults a.even; odd = g.H.A.Area.faults a.odd }) c.into_areas.ensures)));
      read = tt;
      empty = λ err. absurd (shard_not_empty c.in-Err.fault c.in-Err.ensures.fault err);
      back = left_found g.H.R.Rack g.H.A.Area (shelf.told c.args.shelf.now) (shelf.told c.find_uber.new.shelf) (shelf.told c.reopen_shards.new.shelf) (shelf.told c.give_areas.new.shelf)
          (shelf.leaves c.find_uber.new.shelf) (shelf.leaves c.reopen_shards.new.shelf)
          (shelf.counts c.args.shelf.now) (shelf.counts c.find_uber.new.shelf) (shelf.counts c.reopen_shards.new.shelf) (shelf.counts c.give_areas.new.shelf) (count_on shelf c.args.shelf.now) (count_on shelf c.give_areas.new.shelf)
          c.in_ok-uber.uber u.found u.recovered u.body u.told c.find_uber.ensures.counts c.in-Err.ensures.back
          (c.give_areas.ensures.told ∙ ap (λ a. gives_areas (told_by g.H.A.Area.told a) (shelf.told c.reopen_shards.new.shelf)) c.into_areas.ensures) c.give_areas.ensures.counts
          (own_given g.H.A.Area.faults (areas_of c.in_ok-uber.uber) (shelf.uber_count c.give_areas.new.shelf) (shelf.check_counts c.give_areas.new.shelf) (c.give_areas.ensures.uber ∙ ap (λ a. g.H.A.Area.faults a.uber) c.into_areas.ensures) (c.give_areas.ensures.checks ∙ ap (λ a. record { even = g.H.A.Area.faults a.even; odd = g.H.A.Area.faults a.odd }) c.into_areas.ensures));
      tells = tt;
      faulty = λ metaslab place kind err. (let uber = c.in_ok-uber.uber in
          inr (record {
            uber = uber;
            found = u.found;
            body = u.body;
            bad = inl (unread_entry g.H.R.Rack g.H.A.Area (layout_of uber) (group_of (kept_of uber)) (next_leaf_of uber) (shelf.told c.args.shelf.now) (shelf.told c.find_uber.new.shelf)
                (shelf.leaves c.args.shelf.now) (shelf.leaves c.find_uber.new.shelf) (shelf.counts c.args.shelf.now) (shelf.counts c.find_uber.new.shelf) metaslab place kind u.told c.find_uber.ensures.leaves c.find_uber.ensures.counts
                (c.in-Err.ensures.faulty metaslab place kind (ap Err (err_is c.in-Err.fault _ err))));
          }));
      check = λ place kind err. absurd (shard_no_check c.in-Err.fault c.in-Err.ensures.fault place kind err);
      later = (let first = c.find_uber.ensures.later in let more = c.reopen_shards.ensures.later in let same = c.give_areas.ensures.faults in omega (arith, first, more, same));
      cause = λ failed. risen_behind g.H.A.Area (shelf.told c.args.shelf.now) (shelf.faults c.args.shelf.now) (shelf.faults c.find_uber.new.shelf) (shelf.faults c.reopen_shards.new.shelf) (shelf.faults c.give_areas.new.shelf) (count_on shelf c.args.shelf.now) (count_on shelf c.give_areas.new.shelf)
          (shelf.counts c.args.shelf.now) (shelf.counts c.find_uber.new.shelf) (shelf.counts c.reopen_shards.new.shelf) (shelf.counts c.give_areas.new.shelf)
          c.in_ok-uber.uber c.in_ok-uber.ensures.found c.in_ok-uber.ensures.recovered c.find_uber.ensures.later c.give_areas.ensures.faults
          c.find_uber.ensures.counts c.give_areas.ensures.counts (c.in-Err.ensures.cause (refused_too c.in-Err.fault failed));
    }

pub returns-in-Err-find_all : goal.returns-in-Err-find_all
returns-in-Err-find_all g c =
    let shelf = g.H.Shelf in
    let rack = g.H.R.Rack in
    let area = g.H.A.Area in
    let u = c.in_ok-uber.ensures in
    let e = c.in-Ok.ensures in
    let f = c.in-Err-find_all.ensures in
    let fault = c.in-Err-find_all.fault in
    let old = c.in_ok-uber.uber in
    let new = c.find_all.new.uber in
    let k = c.find_all.ensures.same in
    let shards = c.in-Ok.shards.items in
    let last = c.give_areas-in-Err-find_all.new.shelf in
    let held = shelf.told c.args.shelf.now in
    let count = count_on shelf c.args.shelf.now in
    let found = still_found area old new k u.found in
    let recovered = still_recovered area old new k held count u.recovered in
    let reopened = still_reopened area old new k rack shards e.reopened in
    let over = still_over area old new k rack shards (shelf.told c.find_uber.new.shelf) (shelf.leaves c.find_uber.new.shelf) (shelf.counts c.find_uber.new.shelf) e.over in
    let left = leaves_all rack area (layout_of new) (group_of (kept_of new)) (next_leaf_of new) shards (shelf.told c.find_uber.new.shelf) (shelf.told c.reopen_shards.new.shelf) (shelf.told c.give_back.new.shelf)
    (shelf.counts c.find_uber.new.shelf) (shelf.counts c.reopen_shards.new.shelf) (shelf.counts c.give_back.new.shelf) (shelf.leaves c.find_uber.new.shelf) (shelf.leaves c.reopen_shards.new.shelf) (shelf.leaves c.give_back.new.shelf)
    reopened over (still_taken area old new k (shelf.told c.find_uber.new.shelf) (shelf.told c.reopen_shards.new.shelf) e.told)
    (still_behind area old new k (λ m. (shelf.counts c.reopen_shards.new.shelf m ≡ shelf.counts c.find_uber.new.shelf m) × (shelf.leaves c.reopen_shards.new.shelf m ≡ shelf.leaves c.find_uber.new.shelf m)) e.left)
    c.give_back.ensures.returns c.give_back.ensures.leaves in
    let given = c.give_areas-in-Err-find_all.ensures.told ∙ ap (λ a. gives_areas (told_by area.told a) (shelf.told c.give_back.new.shelf)) c.into_areas-in-Err-find_all.ensures in
    let counted = own_given area.faults (areas_of new) (shelf.uber_count last) (shelf.check_counts last) (c.give_areas-in-Err-find_all.ensures.uber ∙ ap (λ a. area.faults a.uber) c.into_areas-in-Err-find_all.ensures)
    (c.give_areas-in-Err-find_all.ensures.checks ∙ ap (λ a. record { even = area.faults a.even; odd = area.faults a.odd }) c.into_areas-in-Err-find_all.ensures) in
    record {
      whole = tt;
      none = absent_not old held _ _ u.none;
      made = λ geometry made. absurd (u.made geometry made).none;
      import = λ x pieces there. refusal_is rack area x pieces (shelf.told last) (shelf.leaves last) (shelf.counts last) (count_on shelf last) fault f.some
          (no_fault_apart c.args.alloc rack area x pieces held (shelf.told c.find_uber.new.shelf) (shelf.leaves c.args.shelf.now) (shelf.leaves c.find_uber.new.shelf) (shelf.counts c.args.shelf.now) (shelf.counts c.find_uber.new.shelf)
          count old shards fault there u.found u.recovered c.find_uber.ensures.counts u.told e.reopened e.over
          (λ metaslab place kind err. subst (λ (xs : List (Shard g.row.H-R.Denot g.row.H-A.Denot)). AreApart xs metaslab place kind) c.deref.ensures.value (f.faulty metaslab place kind err)))
          (f.none x pieces held (shelf.leaves c.args.shelf.now) (shelf.leaves c.find_uber.new.shelf) (shelf.counts c.args.shelf.now) (shelf.counts c.find_uber.new.shelf) count there u.found u.recovered c.find_uber.ensures.counts
          (subst (λ (xs : List (Shard g.row.H-R.Denot g.row.H-A.Denot)). AreReopened rack (layout_of old) (group_of (kept_of old)) xs) (sym c.deref.ensures.value) e.reopened)
          (subst (λ (o : Option Held). OpensAllOver rack area (limit_of (layout_of old)) (group_of (kept_of old)) (next_leaf_of old) o (shelf.leaves c.find_uber.new.shelf) (shelf.counts c.find_uber.new.shelf) c.deref.result.now) u.told
          (subst (λ (xs : List (Shard g.row.H-R.Denot g.row.H-A.Denot)). OpensAllOver rack area (limit_of (layout_of old)) (group_of (kept_of old)) (next_leaf_of old) (shelf.told c.find_uber.new.shelf) (shelf.leaves c.find_uber.new.shelf) (shelf.counts c.find_uber.new.shelf) xs) (sym c.deref.ensures.value) e.over)))
          (refused_pool c.args.alloc rack area x pieces held (shelf.told c.find_uber.new.shelf) (shelf.told c.give_back.new.shelf) (shelf.told last)
          (shelf.leaves c.args.shelf.now) (shelf.leaves c.find_uber.new.shelf) (shelf.leaves c.give_back.new.shelf) (shelf.leaves last)
          (shelf.counts c.args.shelf.now) (shelf.counts c.find_uber.new.shelf) (shelf.counts c.give_back.new.shelf) (shelf.counts last) count (count_on shelf last)
          new there found recovered u.told c.find_uber.ensures.leaves c.find_uber.ensures.counts left given c.give_areas-in-Err-find_all.ensures.leaves c.give_areas-in-Err-find_all.ensures.counts counted);
      read = tt;
      empty = λ err. absurd (f.some (passed_over fault _ err));
      back = left_found rack area held (shelf.told c.find_uber.new.shelf) (shelf.told c.give_back.new.shelf) (shelf.told last)
          (shelf.leaves c.find_uber.new.shelf) (shelf.leaves c.give_back.new.shelf)
          (shelf.counts c.args.shelf.now) (shelf.counts c.find_uber.new.shelf) (shelf.counts c.give_back.new.shelf) (shelf.counts last) count (count_on shelf last)
          new found recovered (still_body area old new k held u.body) u.told c.find_uber.ensures.counts left given c.give_areas-in-Err-find_all.ensures.counts counted;
      tells = tt;
      faulty = λ metaslab place kind err. inr (record {
        uber = old;
        found = u.found;
        body = u.body;
        bad = inr (record {
          shards = shards;
          reopened = e.reopened;
          over = over_entry rack area (limit_of (layout_of old)) (group_of (kept_of old)) (next_leaf_of old) held (shelf.told c.find_uber.new.shelf)
              (shelf.leaves c.args.shelf.now) (shelf.leaves c.find_uber.new.shelf) (shelf.counts c.args.shelf.now) (shelf.counts c.find_uber.new.shelf) shards u.told c.find_uber.ensures.leaves c.find_uber.ensures.counts e.over;
          apart = subst (λ (xs : List (Shard g.row.H-R.Denot g.row.H-A.Denot)). AreApart xs metaslab place kind) c.deref.ensures.value
              (f.faulty metaslab place kind (passed_over fault _ err));
        });
      });
      check = λ place kind err. (let bad = f.check place kind (passed_over fault _ err) in
          record {
            uber = old;
            shards = shards;
            found = u.found;
            body = u.body;
            reopened = e.reopened;
            over = over_entry rack area (limit_of (layout_of old)) (group_of (kept_of old)) (next_leaf_of old) held (shelf.told c.find_uber.new.shelf)
                (shelf.leaves c.args.shelf.now) (shelf.leaves c.find_uber.new.shelf) (shelf.counts c.args.shelf.now) (shelf.counts c.find_uber.new.shelf) shards u.told c.find_uber.ensures.leaves c.find_uber.ensures.counts e.over;
            together = subst (λ (xs : List (Shard g.row.H-R.Denot g.row.H-A.Denot)). AreTogether xs (length xs)) c.deref.ensures.value bad.0;
            bad = bad_entry area held count old shards place kind u.recovered
                (subst (λ (xs : List (Shard g.row.H-R.Denot g.row.H-A.Denot)). IsBadCheck (OwnCheck area old) xs place kind) c.deref.ensures.value bad.1);
          });
      later = (let first = c.find_uber.ensures.later in
          let more = c.reopen_shards.ensures.later in
          let back = c.give_back.ensures.faults in
          let same = c.give_areas-in-Err-find_all.ensures.faults in
          omega (arith, first, more, back, same));
      cause = λ failed. inl (inr (risen_own area held count (count_on shelf last) old new u.recovered counted (f.cause (passed_over fault _ failed))));
    }

pub returns-in_err-uber : goal.returns-in_err-uber
returns-in_err-uber g c =
    record {
      whole = if_ok_passed _ c.from_residual.result _ c.from_residual.ensures.1;
      none = none_passed (Uber g.row.H-A.Denot) (Pool g.row.H-R.Denot g.row.H-A.Denot) (g.H.Shelf.told c.args.shelf.now) c.from_residual.result c.in_err-uber.field-0.0 _ c.from_residual.ensures.1 c.in_err-uber.ensures.none;
      made = λ geometry made. made_passed (Uber g.row.H-A.Denot) (Pool g.row.H-R.Denot g.row.H-A.Denot) geometry c.from_residual.result c.in_err-uber.field-0.0 _ _ _ _ _ c.from_residual.ensures.1 (c.in_err-uber.ensures.made geometry made);
      import = λ x pieces there. (let shelf = g.H.Shelf in
          let new = c.find_uber.new.shelf in
          subst (λ (r : Result (Pool g.row.H-R.Denot g.row.H-A.Denot) ImportFault). ImportIs g.H.R.Rack g.H.A.Area x pieces (shelf.told new) (shelf.leaves new) (shelf.counts new) (count_on shelf new) r) (sym (passed_is c.from_residual.result c.in_err-uber.field-0.0 c.from_residual.ensures.1))
          (c.in_err-uber.ensures.import x pieces there));
      read = if_ok_passed _ c.from_residual.result _ c.from_residual.ensures.1;
      empty = λ err. c.in_err-uber.ensures.empty (passed c.from_residual.result c.in_err-uber.field-0.0 _ c.from_residual.ensures.1 err);
      back = (let shelf = g.H.Shelf in
          on_err_always c.from_residual.result (LeavesAll g.H.A.Area (shelf.told c.args.shelf.now) (shelf.told c.find_uber.new.shelf) (shelf.counts c.args.shelf.now) (shelf.counts c.find_uber.new.shelf) (count_on shelf c.args.shelf.now) (count_on shelf c.find_uber.new.shelf))
          (left_unfound g.H.A.Area (shelf.told c.args.shelf.now) (shelf.told c.find_uber.new.shelf) (shelf.counts c.args.shelf.now) (shelf.counts c.find_uber.new.shelf) (count_on shelf c.args.shelf.now) (count_on shelf c.find_uber.new.shelf)
          c.find_uber.ensures.counts c.in_err-uber.ensures.back));
      tells = on_ok_passed _ c.from_residual.result _ c.from_residual.ensures.1;
      faulty = λ metaslab place kind err. (let p = err_from_is_err_and c.from_residual.result c.from_residual.ensures.1 in
          inl (c.in_err-uber.ensures.faulty metaslab place kind (passed_on c.from_residual.result p.0 c.in_err-uber.field-0.0 _ p.1 p.2 err)));
      check = λ place kind err. (let p = err_from_is_err_and c.from_residual.result c.from_residual.ensures.1 in
          absurd (c.in_err-uber.ensures.check place kind (passed_on c.from_residual.result p.0 c.in_err-uber.field-0.0 _ p.1 p.2 err)));
      later = c.find_uber.ensures.later;
      cause = λ failed. inl (c.in_err-uber.ensures.cause (passed c.from_residual.result c.in_err-uber.field-0.0 _ c.from_residual.ensures.1 failed));
    }
