use Rattle.std.proofs.Common.{arith, ◌<◌, ◌≤◌, ◌/◌, ◌∙◌, Err, ap, inl, inr, subst, sym}
use Rattle.draid_names.specs.declared.numbers.TheConstants.{LAST_NUMBER}
use Rattle.draid_uber.specs.Slots.{group_of}
use Rattle.draid_uber.specs.Uber.{kept_of, layout_of, next_leaf_of}
use Rattle.draid_import.specs.Reopening.{OpenIsRefused, Opens}
use Rattle.draid_import.proofs.ImportUnread.{no_open_record, no_shelf_record}
use Rattle.draid_spec.specs.declared.layout.Geometry.{Geometry}
use Rattle.draid_shard.specs.Part.{IsPart, Part}
use Rattle.draid_import.proofs.Found.{fault_is, kit_back, records_rose, refused_area, reopened, stays_put, stays_same, counts_later}
use Rattle.draid_import.proofs.ImportFaulty.{err_is, shelf_no_record, unread}
use Rattle.draid_import.proofs.ImportLeft.{keeps_equal, keeps_known, tells_put, tells_same}
use Rattle.draid_pool.proofs.Refusing.{no_refusal}
use Rattle.draid_import.proofs.importing.reopen_shard.Goals as goal

pub returns-in-Ok-reopen : goal.returns-in-Ok-reopen
returns-in-Ok-reopen g c =
    let e = c.in-Ok-reopen.ensures in
    record {
      reopened = (let part : Geometry → Part = λ geometry. record { geometry = geometry; perms = c.args.perms; number = c.args.number } in
          reopened g.H.R.Rack g.H.A.Area.told c.in-Ok.kit _ _ _ _ c.in-Ok-reopen.shard e.valid (e.part ∙ ap part c.geometry.ensures) (e.begins.1 ∙ c.committed-group.ensures) e.opened);
      over = (let t = c.in-Ok.ensures in
          record {
            kit = c.in-Ok.kit;
            taken = record { told = t.kit; some = t.needs; leaves = t.leaves; rack_count = t.rack_count; even_count = t.even_count; odd_count = t.odd_count };
            opens = subst (λ n. Opens g.H.R.Rack g.H.A.Area.told c.in-Ok.kit n (next_leaf_of c.args.uber.now) c.in-Ok-reopen.shard) c.committed-group.ensures
                (subst (λ n. Opens g.H.R.Rack g.H.A.Area.told c.in-Ok.kit c.committed-group.result n c.in-Ok-reopen.shard) c.next_leaf.ensures e.opened);
            later = e.counts;
            limit_is = e.begins.0 ∙ ap (λ n. 16_777_216 / n) (c.from-events.ensures ∙ ap (λ (x : Geometry). x.props.metaslabs) c.geometry.ensures);
          });
      told = c.in-Ok.ensures.told;
      back = tt;
      tells = tt;
      leaves = c.take.ensures.others;
      known = tt;
      fault = tt;
      faulty = λ metaslab place kind err. absurd (no_refusal err);
      opens = λ x pieces held leaves counts count there r takes same metaslab place kind err. no_refusal err;
      back_counts = tt;
      counts = c.take.ensures.counts;
      later = c.take.ensures.cause.later;
      cause = λ failed. absurd (no_refusal failed);
    }

pub returns-in-Err-reopen : goal.returns-in-Err-reopen
returns-in-Err-reopen g c =
    let shelf = g.H.Shelf in
    let rack = g.H.R.Rack in
    let area = g.H.A.Area in
    let t = c.in-Ok.ensures in
    let r = c.in-Err-reopen in
    record {
      reopened = tt;
      over = tt;
      told = tt;
      back = stays_put c.args.number (shelf.told c.args.shelf.now) (shelf.told c.take.new.self) (shelf.told c.give.new.self) _ c.in-Ok.ensures.told c.give.ensures.told
          (kit_back g.H.R.Rack g.H.A.Area.told c.in-Ok.kit c.in-Err-reopen.field-0.kit c.committed-group.result (shelf.told c.args.shelf.now) c.args.number c.in-Err-reopen.ensures.back c.in-Ok.ensures.kit);
      tells = tells_put c.in-Ok.kit c.args.number (shelf.told c.args.shelf.now) (shelf.told c.take.new.self) (shelf.told c.give.new.self) _ c.in-Ok.ensures.told c.give.ensures.told
          (kit_back g.H.R.Rack g.H.A.Area.told c.in-Ok.kit c.in-Err-reopen.field-0.kit c.committed-group.result (shelf.told c.args.shelf.now) c.args.number c.in-Err-reopen.ensures.back c.in-Ok.ensures.kit) t.needs;
      leaves = λ m other. c.give.ensures.others m other ∙ c.take.ensures.others m other;
      known = keeps_known (shelf.leaves c.args.shelf.now c.args.number) (shelf.leaves c.give.new.self c.args.number) (rack.shape c.in-Ok.kit.rack) (rack.shape c.in-Err-reopen.field-0.kit.rack) c.in-Ok.ensures.leaves
          (ap rack.shape c.in-Err-reopen.ensures.back.rack) c.give.ensures.leaves;
      fault = c.open_fault.ensures.fault;
      faulty = λ metaslab place kind err. (let e = c.in-Err-reopen in
          unread rack area (layout_of c.args.uber.now) (group_of (kept_of c.args.uber.now)) (next_leaf_of c.args.uber.now) c.args.number (g.H.Shelf.told c.args.shelf.now) (g.H.Shelf.leaves c.args.shelf.now c.args.number) (g.H.Shelf.counts c.args.shelf.now c.args.number)
          c.in-Ok.kit e.field-0.kit e.field-0.why metaslab place kind
          (record { told = t.kit; some = t.needs; leaves = t.leaves; rack_count = t.rack_count; even_count = t.even_count; odd_count = t.odd_count })
          (subst (λ (l : Geometry). OpenIsRefused rack area.faults area.told l c.args.number c.in-Ok.kit e.field-0.kit (group_of (kept_of c.args.uber.now)) (next_leaf_of c.args.uber.now) e.field-0.why) c.geometry.ensures
          (subst (λ n. OpenIsRefused rack area.faults area.told c.geometry.result.now c.args.number c.in-Ok.kit e.field-0.kit n (next_leaf_of c.args.uber.now) e.field-0.why) c.committed-group.ensures
          (subst (λ n. OpenIsRefused rack area.faults area.told c.geometry.result.now c.args.number c.in-Ok.kit e.field-0.kit c.committed-group.result n e.field-0.why) c.next_leaf.ensures e.ensures.refused)))
          (sym c.open_fault.ensures.is ∙ err_is c.open_fault.result _ err));
      opens = λ x pieces held leaves counts count there r takes same. (let e = c.in-Err-reopen in
          no_open_record rack area x pieces held (g.H.Shelf.told c.args.shelf.now) leaves counts count c.args.uber.now c.args.number c.in-Ok.kit e.field-0.kit (g.H.Shelf.leaves c.args.shelf.now c.args.number) e.field-0.why
          c.open_fault.result c.open_fault.ensures.is there c.requires.uber r c.requires.number takes t.kit same t.leaves
          (subst (λ (l : Geometry). OpenIsRefused rack area.faults area.told l c.args.number c.in-Ok.kit e.field-0.kit (group_of (kept_of c.args.uber.now)) (next_leaf_of c.args.uber.now) e.field-0.why) c.geometry.ensures
          (subst (λ n. OpenIsRefused rack area.faults area.told c.geometry.result.now c.args.number c.in-Ok.kit e.field-0.kit n (next_leaf_of c.args.uber.now) e.field-0.why) c.committed-group.ensures
          (subst (λ n. OpenIsRefused rack area.faults area.told c.geometry.result.now c.args.number c.in-Ok.kit e.field-0.kit c.committed-group.result n e.field-0.why) c.next_leaf.ensures e.ensures.refused))));
      back_counts = (let e = c.give.ensures in
          let later = r.ensures.counts in
          record {
            rack = λ who. e.rack_count who ∙ (ap (λ x. g.H.R.Rack.faults x who) r.ensures.back.rack ∙ t.rack_count who);
            even = (let now = e.even_count in let was = t.even_count in let up = later.even in omega (arith, now, was, up));
            odd = (let now = e.odd_count in let was = t.odd_count in let up = later.odd in omega (arith, now, was, up));
          });
      counts = λ m other. c.give.ensures.counts m other ∙ c.take.ensures.counts m other;
      later = (let first = c.take.ensures.cause.later in let same = c.give.ensures.faults in omega (arith, first, same));
      cause = λ failed. (let rose = refused_area g.H.R.Rack area.faults area.told c.geometry.result.now c.args.number c.in-Ok.kit r.field-0.kit c.committed-group.result c.next_leaf.result r.field-0.why r.ensures.refused (c.open_fault.ensures.area (fault_is c.open_fault.result failed)) in
          inr (records_rose area.faults c.in-Ok.kit r.field-0.kit c.committed-group.result (shelf.counts c.args.shelf.now c.args.number) (shelf.counts c.give.new.self c.args.number) t.even_count t.odd_count
          c.give.ensures.even_count c.give.ensures.odd_count rose));
    }

pub returns-in-Err : goal.returns-in-Err
returns-in-Err g c =
    record {
      reopened = tt;
      over = tt;
      told = tt;
      back = stays_same (g.H.Shelf.told c.args.shelf.now) (g.H.Shelf.told c.take.new.self) c.in-Err.ensures.err;
      tells = tells_same (g.H.Shelf.told c.args.shelf.now) (g.H.Shelf.told c.take.new.self) c.in-Err.ensures.err;
      leaves = c.take.ensures.others;
      known = keeps_equal (g.H.Shelf.leaves c.args.shelf.now c.args.number) (g.H.Shelf.leaves c.take.new.self c.args.number) c.in-Err.ensures.err_leaves;
      fault = c.shelf_fault.ensures.fault;
      faulty = λ metaslab place kind err. absurd (shelf_no_record c.in-Err.why metaslab place kind (sym c.shelf_fault.ensures.is ∙ err_is c.shelf_fault.result _ err));
      opens = λ x pieces held leaves counts count there r takes same. no_shelf_record c.in-Err.why c.shelf_fault.result c.shelf_fault.ensures.is;
      back_counts = counts_later (g.H.Shelf.counts c.args.shelf.now c.args.number) (g.H.Shelf.counts c.take.new.self c.args.number) c.in-Err.ensures.err_counts;
      counts = c.take.ensures.counts;
      later = c.take.ensures.cause.later;
      cause = λ failed. inl (c.in-Err.ensures.cause.cause (ap Err (c.shelf_fault.ensures.failed (err_is c.shelf_fault.result _ failed))));
    }

pub give-requires : goal.give-requires
give-requires g c = (let below = c.requires.number in let most = c.requires.layout.geometry_is.props.most_metaslabs in omega (arith, below, most))

pub reopen-requires : goal.reopen-requires
reopen-requires g c =
    record {
      part = subst (λ (l : Geometry). IsPart (record { geometry = l; perms = c.args.perms; number = c.args.number })) (sym c.geometry.ensures) (record { layout = c.requires.layout; below = c.requires.number });
      bytes = c.in-Ok.ensures.sectors;
      group = subst (λ n. (1 ≤ n) × (n < LAST_NUMBER)) (sym c.committed-group.ensures) (c.requires.uber.some, c.requires.uber.low);
      next = (let held = c.requires.uber.valid.held in
          subst (λ (l : Geometry). (l.spec.children ≤ c.next_leaf.result) × (c.next_leaf.result ≤ LAST_NUMBER)) (sym c.geometry.ensures)
          (subst (λ n. ((layout_of c.args.uber.now).spec.children ≤ n) × (n ≤ LAST_NUMBER)) (sym c.next_leaf.ensures) (held.leaf_above, held.leaf_below)));
    }
