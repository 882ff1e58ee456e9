use Rattle.std.proofs.Common.{rules, arith, ◌∙◌, inl, inr}
use Rattle.draid_shelf.specs.Shelf.{HasLeavesOf}
use Rattle.draid_create.proofs.Opened.{back_given, back_untaken, known_has, odd_failed, opened}
use Rattle.draid_pool.proofs.Refusing.{if_ok_passed, no_refusal, on_err_always, on_ok_passed, passed}
use Rattle.draid_create.proofs.opening.open_shard.Goals as goal

pub returns-in-Ok : goal.returns-in-Ok
returns-in-Ok g c =
    record {
      opened = (let e = c.in-Ok.ensures in
          let t = c.in_ok-kit.ensures in
          opened g.H.R.Rack g.H.A.Area (record { geometry = c.args.layout; perms = c.args.perms; number = c.args.number }) (g.H.Shelf.told c.args.shelf.now) (g.H.Shelf.counts c.args.shelf.now c.args.number) c.in_ok-kit.kit c.in-Ok.shard
          _ e.valid e.part e.created e.none.0 e.none.1 e.none.2 (search rules) e.kit.0 e.record t.kit t.needs t.rack_count);
      told = c.in_ok-kit.ensures.told;
      leaves = c.take.ensures.others;
      counts = c.take.ensures.counts;
      back = tt;
      uber = c.take.ensures.uber_count;
      checks = c.take.ensures.check_counts;
      later = c.take.ensures.cause.later;
      cause = λ failed. absurd (no_refusal failed);
    }

pub returns-in-Err : goal.returns-in-Err
returns-in-Err g c =
    record {
      opened = tt;
      told = tt;
      leaves = tt;
      counts = tt;
      back = (let shelf = g.H.Shelf in
          let t = c.in_ok-kit.ensures in
          let e = c.give.ensures in
          back_given g.H.R.Rack g.H.A.Area c.args.number c.in_ok-kit.kit c.in-Err.field-0.kit (shelf.told c.args.shelf.now) (shelf.told c.take.new.self) (shelf.told c.give.new.self)
          (shelf.counts c.args.shelf.now) (shelf.counts c.take.new.self) (shelf.counts c.give.new.self) c.in-Err.ensures.refused.0 t.kit t.needs t.told e.told t.rack_count t.counts e.rack_count e.counts);
      uber = c.give.ensures.uber_count ∙ c.take.ensures.uber_count;
      checks = c.give.ensures.check_counts ∙ c.take.ensures.check_counts;
      later = (let first = c.take.ensures.cause.later in let same = c.give.ensures.faults in omega (arith, first, same));
      cause = λ failed. (let area = g.H.A.Area in
          let r = c.in-Err in
          inr (odd_failed (area.faults c.in_ok-kit.kit.odd) (area.faults r.field-0.kit.odd) (g.H.Shelf.counts c.give.new.self c.args.number).odd r.field-0.why r.ensures.why c.give.ensures.odd_count failed));
    }

pub returns-in_err-kit : goal.returns-in_err-kit
returns-in_err-kit g c =
    record {
      opened = if_ok_passed _ c.from_residual.result _ c.from_residual.ensures.1;
      told = on_ok_passed _ c.from_residual.result _ c.from_residual.ensures.1;
      leaves = on_ok_passed _ c.from_residual.result _ c.from_residual.ensures.1;
      counts = on_ok_passed _ c.from_residual.result _ c.from_residual.ensures.1;
      back = (let shelf = g.H.Shelf in
          let e = c.in_err-kit.ensures in
          on_err_always c.from_residual.result _
          (back_untaken c.args.number (shelf.told c.args.shelf.now) (shelf.told c.take.new.self) (shelf.counts c.args.shelf.now) (shelf.counts c.take.new.self) e.err e.counts e.err_counts));
      uber = c.take.ensures.uber_count;
      checks = c.take.ensures.check_counts;
      later = c.take.ensures.cause.later;
      cause = λ failed. inl (c.in_err-kit.ensures.cause.cause (passed c.from_residual.result c.in_err-kit.field-0.0 _ c.from_residual.ensures.1 failed));
    }

pub create_metaslab-requires : goal.create_metaslab-requires
create_metaslab-requires g c =
    record {
      part = record { layout = c.requires.layout; below = c.requires.number };
      rack = (let shelf = g.H.Shelf in
          known_has (shelf.leaves c.args.shelf.now c.args.number) (g.H.R.Rack.shape c.in_ok-kit.kit.rack) (HasLeavesOf c.args.layout) c.requires.made c.in_ok-kit.ensures.leaves);
    }

pub give-requires : goal.give-requires
give-requires g c = (let below = c.requires.number in let most = c.requires.layout.geometry_is.props.most_metaslabs in omega (arith, below, most))
