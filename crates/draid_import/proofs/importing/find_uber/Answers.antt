use Rattle.std.proofs.Common.{arith, ◌≡◌, ◌∙◌, inl, inr, Err, ap, refl, subst, sym}
use Rattle.draid_uber.specs.Uber.{areas_of, kept_of}
use Rattle.draid_import.specs.Importing.{ImportIs}
use Rattle.draid_import.specs.declared.fault.ImportFault.{ImportFault}
use Rattle.draid_shelf.specs.Kits.{OnHeld, checks_of}
use Rattle.draid_uber.specs.Checks.{told_by}
use Rattle.draid_pool.specs.Shelves.{count_on}
use Rattle.draid_pool.specs.Taking.{gives_areas}
use Rattle.draid_import.proofs.Counted.{count_still, given_later, later_by, put_as}
use Rattle.draid_import.proofs.Found.{areas_put, leaf_found, own_checks, own_uber, uber_left, found_uber, none_there, pool_there}
use Rattle.draid_import.proofs.ImportFaulty.{absent_no_check, err_is, no_uber, shelf_no_check, shelf_no_record, shelf_not_empty, tells_body, uber_bad, uber_empty, uber_no_check}
use Rattle.draid_import.proofs.ImportMade.{made_left, made_not, made_same, made_untaken}
use Rattle.draid_import.proofs.ImportTaken.{no_pool, not_found, not_taken, taken_not}
use Rattle.draid_pool.proofs.Refusing.{no_refusal}
use Rattle.draid_import.proofs.Unfound.{absent_no_record, absent_no_shelf}
use Rattle.draid_import.proofs.importing.find_uber.Goals as goal

pub returns-in-Ok-recover : goal.returns-in-Ok-recover
returns-in-Ok-recover g c =
    let t = c.in-Ok.ensures in
    let e = c.in-Ok-recover.ensures in
    record {
      found = found_uber g.H.A.Area c.in-Ok-recover.uber c.in-Ok-recover.ensures.valid c.in-Ok-recover.ensures.some c.in-Ok-recover.ensures.ranges;
      changed = e.changed;
      recovered = (let area = g.H.A.Area in
          record {
            content = area.told c.in-Ok.areas.uber;
            own = own_uber (told_by area.told c.in-Ok.areas) (g.H.Shelf.told c.args.shelf.now) t.areas;
            size = area.size c.in-Ok.areas.uber;
            counted = c.has_length_told.ensures;
            finds = e.finds;
            flushed = e.flushed;
            checks = subst (λ a. OnHeld (g.H.Shelf.told c.args.shelf.now) (λ x. checks_of (area.told a.even) (area.told a.odd) ≡ x.checks)) (sym e.others)
                (own_checks (told_by area.told c.in-Ok.areas) (g.H.Shelf.told c.args.shelf.now) t.areas);
            some_checks = t.some;
            stands = e.crash;
            leaf = leaf_found c.in-Ok-recover.uber e.some;
            later = later_by area.faults c.in-Ok.areas (areas_of c.in-Ok-recover.uber) (g.H.Shelf.uber_count c.args.shelf.now) (g.H.Shelf.check_counts c.args.shelf.now) t.count.0 t.count.1 t.count.2 e.others e.later;
          });
      told = c.in-Ok.ensures.told;
      body = tells_body g.H.A.Area c.in-Ok.areas c.in-Ok-recover.uber (g.H.Shelf.told c.args.shelf.now) (g.H.A.Area.told c.in-Ok.areas.uber) e.valid e.some (own_uber (told_by g.H.A.Area.told c.in-Ok.areas) (g.H.Shelf.told c.args.shelf.now) t.areas) t.needs e.finds;
      empty = λ err. absurd (no_refusal err);
      back = tt;
      import = λ x pieces there. tt;
      leaves = c.take_areas.ensures.leaves;
      faulty = λ metaslab place kind err. absurd (no_refusal err);
      check = λ place kind err. absurd (no_refusal err);
      none = taken_not c.in-Ok.areas (g.H.Shelf.told c.args.shelf.now) _ c.in-Ok.ensures.needs;
      made = λ geometry made. absurd (made_not geometry (g.H.Shelf.told c.args.shelf.now) (g.H.A.Area.told c.in-Ok.areas.uber) (kept_of c.in-Ok-recover.uber) _ (own_uber (told_by g.H.A.Area.told c.in-Ok.areas) (g.H.Shelf.told c.args.shelf.now) t.areas) e.finds e.some made);
      counts = c.take_areas.ensures.counts;
      later = c.take_areas.ensures.cause.later;
      cause = λ failed. absurd (no_refusal failed);
    }

pub returns-then-not-has_pool : goal.returns-then-not-has_pool
returns-then-not-has_pool g c =
    let shelf = g.H.Shelf in
    record {
      found = tt;
      recovered = tt;
      changed = tt;
      told = tt;
      body = tt;
      empty = λ err. no_uber (shelf.told c.args.shelf.now) c.has_pool.result c.has_pool.ensures c.if-not-has_pool.true;
      back = uber_left (shelf.told c.args.shelf.now) (shelf.told c.args.shelf.now) (count_on shelf c.args.shelf.now) (count_on shelf c.args.shelf.now) refl refl;
      import = λ x pieces there. no_pool g.H.R.Rack g.H.A.Area x pieces (shelf.told c.args.shelf.now) (shelf.told c.args.shelf.now) (shelf.leaves c.args.shelf.now) (shelf.leaves c.args.shelf.now) (shelf.counts c.args.shelf.now) (shelf.counts c.args.shelf.now)
          (count_on shelf c.args.shelf.now) (count_on shelf c.args.shelf.now) c.has_pool.result c.has_pool.ensures c.if-not-has_pool.true there;
      leaves = λ m. refl;
      faulty = λ metaslab place kind err. absurd (absent_no_record metaslab place kind err);
      check = λ place kind err. absurd (absent_no_check place kind err);
      none = none_there (g.H.Shelf.told c.args.shelf.now) _ (λ held none. (refl, record { held = refl; counts = λ m. refl; uber = refl; checks = refl }));
      made = λ geometry made. made_same geometry (shelf.told c.args.shelf.now) _ (shelf.counts c.args.shelf.now) _ _ _ _ tt refl (λ m. refl) refl refl made;
      counts = λ m. refl;
      later = omega arith;
      cause = λ failed. absurd (absent_no_shelf failed);
    }

pub returns-in-Err : goal.returns-in-Err
returns-in-Err g c =
    let shelf = g.H.Shelf in
    let e = c.in-Err.ensures in
    record {
      found = tt;
      recovered = tt;
      changed = tt;
      told = tt;
      body = tt;
      empty = λ err. absurd (shelf_not_empty c.in-Err.why (sym c.shelf_fault.ensures.is ∙ err_is c.shelf_fault.result _ err));
      back = uber_left (shelf.told c.args.shelf.now) (shelf.told c.take_areas.new.shelf) (count_on shelf c.args.shelf.now) (count_on shelf c.take_areas.new.shelf) c.in-Err.ensures.back (count_still (shelf.uber_count c.args.shelf.now) (shelf.uber_count c.take_areas.new.shelf) (shelf.check_counts c.args.shelf.now) (shelf.check_counts c.take_areas.new.shelf) e.back_count.0 e.back_count.1);
      import = λ x pieces there. subst (λ (why : ImportFault). ImportIs g.H.R.Rack g.H.A.Area x pieces (shelf.told c.take_areas.new.shelf) (shelf.leaves c.take_areas.new.shelf) (shelf.counts c.take_areas.new.shelf) (count_on shelf c.take_areas.new.shelf) (Err why))
          (sym c.shelf_fault.ensures.is)
          (not_taken g.H.R.Rack g.H.A.Area x pieces (shelf.told c.args.shelf.now) (shelf.told c.take_areas.new.shelf) (shelf.leaves c.args.shelf.now) (shelf.leaves c.take_areas.new.shelf)
          (shelf.counts c.args.shelf.now) (shelf.counts c.take_areas.new.shelf) (count_on shelf c.args.shelf.now) (count_on shelf c.take_areas.new.shelf) c.in-Err.why e.back e.leaves e.counts (count_still (shelf.uber_count c.args.shelf.now) (shelf.uber_count c.take_areas.new.shelf) (shelf.check_counts c.args.shelf.now) (shelf.check_counts c.take_areas.new.shelf) e.back_count.0 e.back_count.1) there);
      leaves = c.take_areas.ensures.leaves;
      faulty = λ metaslab place kind err. absurd (shelf_no_record c.in-Err.why metaslab place kind (sym c.shelf_fault.ensures.is ∙ err_is c.shelf_fault.result _ err));
      check = shelf_no_check c.in-Err.why c.shelf_fault.result c.shelf_fault.ensures.is;
      none = pool_there (g.H.Shelf.told c.args.shelf.now) c.has_pool.result _ c.has_pool.ensures c.if-not-has_pool.false;
      made = λ geometry made. made_untaken geometry (shelf.told c.args.shelf.now) (shelf.told c.take_areas.new.shelf) (shelf.counts c.args.shelf.now) (shelf.counts c.take_areas.new.shelf) _ _ c.in-Err.why
          (Err c.shelf_fault.result) (ap Err c.shelf_fault.ensures.is) e.back e.counts e.back_count.0 e.back_count.1 made;
      counts = c.take_areas.ensures.counts;
      later = c.take_areas.ensures.cause.later;
      cause = λ failed. inl (c.in-Err.ensures.cause.cause (ap Err (c.shelf_fault.ensures.failed (err_is c.shelf_fault.result _ failed))));
    }

pub returns-in-Err-recover : goal.returns-in-Err-recover
returns-in-Err-recover g c =
    let shelf = g.H.Shelf in
    let area = g.H.A.Area in
    let t = c.in-Ok.ensures in
    let r = c.in-Err-recover in
    let e = c.give_areas.ensures in
    let faults = area.faults in
    let was = told_by area.told c.in-Ok.areas in
    let own = own_uber was (shelf.told c.args.shelf.now) t.areas in
    let put = put_as area.told c.in-Ok.areas r.field-0.areas r.ensures.err_others in
    let now = e.told ∙ ap (λ a. gives_areas a (shelf.told c.take_areas.new.shelf)) put in
    let rise = given_later faults c.in-Ok.areas r.field-0.areas (shelf.uber_count c.args.shelf.now) (shelf.uber_count c.give_areas.new.shelf) (shelf.check_counts c.args.shelf.now) (shelf.check_counts c.give_areas.new.shelf) t.count.0 t.count.1 t.count.2 r.ensures.err_others e.uber e.checks r.ensures.err_later in
    record {
      found = tt;
      recovered = tt;
      changed = tt;
      told = tt;
      body = tt;
      empty = λ err. uber_empty (shelf.told c.args.shelf.now) was.uber r.field-0.why own r.ensures.finds (sym c.uber_fault.ensures.is ∙ err_is c.uber_fault.result _ err);
      back = areas_put c.in-Ok.areas (shelf.told c.args.shelf.now) (shelf.told c.take_areas.new.shelf) (shelf.told c.give_areas.new.shelf) was.uber (area.told r.field-0.areas.uber) was.even was.odd (count_on shelf c.args.shelf.now) (count_on shelf c.give_areas.new.shelf)
          t.told now t.areas t.needs t.some r.ensures.err rise.1;
      import = λ x pieces there. subst (λ (why : ImportFault). ImportIs g.H.R.Rack g.H.A.Area x pieces (shelf.told c.give_areas.new.shelf) (shelf.leaves c.give_areas.new.shelf) (shelf.counts c.give_areas.new.shelf) (count_on shelf c.give_areas.new.shelf) (Err why))
          (sym c.uber_fault.ensures.is)
          (not_found g.H.R.Rack g.H.A.Area x pieces (shelf.told c.args.shelf.now) (shelf.told c.take_areas.new.shelf) (shelf.told c.give_areas.new.shelf) (shelf.leaves c.args.shelf.now) (shelf.leaves c.give_areas.new.shelf)
          (shelf.counts c.args.shelf.now) (shelf.counts c.give_areas.new.shelf) (count_on shelf c.args.shelf.now) (count_on shelf c.give_areas.new.shelf) (area.size c.in-Ok.areas.uber) was.uber (area.told r.field-0.areas.uber) was.even was.odd
          r.field-0.why t.areas c.has_length_told.ensures r.ensures.finds r.ensures.err r.ensures.empty t.told now (λ m. e.leaves m ∙ t.leaves m) (λ m. e.counts m ∙ t.counts m) rise.1 there);
      leaves = λ m. c.give_areas.ensures.leaves m ∙ c.take_areas.ensures.leaves m;
      faulty = λ metaslab place kind err. uber_bad c.in-Ok.areas (g.H.Shelf.told c.args.shelf.now) was.uber r.field-0.why metaslab place kind own t.needs r.ensures.finds (sym c.uber_fault.ensures.is ∙ err_is c.uber_fault.result _ err);
      check = uber_no_check r.field-0.why c.uber_fault.result c.uber_fault.ensures.is;
      none = taken_not c.in-Ok.areas (g.H.Shelf.told c.args.shelf.now) _ c.in-Ok.ensures.needs;
      made = λ geometry made. made_left geometry (shelf.told c.args.shelf.now) (shelf.told c.take_areas.new.shelf) (shelf.told c.give_areas.new.shelf) (shelf.counts c.args.shelf.now) (shelf.counts c.give_areas.new.shelf) _ _
          was.uber (area.told r.field-0.areas.uber) was.even was.odd r.field-0.why (Err c.uber_fault.result) (ap Err c.uber_fault.ensures.is) t.areas r.ensures.finds r.ensures.err t.told now (λ m. e.counts m ∙ t.counts m)
          rise.0 rise.2 made;
      counts = λ m. c.give_areas.ensures.counts m ∙ c.take_areas.ensures.counts m;
      later = (let first = c.take_areas.ensures.cause.later in let same = c.give_areas.ensures.faults in omega (arith, first, same));
      cause = λ failed. inr (rise.3 (c.in-Err-recover.ensures.cause (c.uber_fault.ensures.area (err_is c.uber_fault.result _ failed))));
    }
