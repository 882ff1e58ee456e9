use Rattle.std.proofs.Common.{arith, ◌≡◌, ◌∙◌, ℕ, inl, inr, Option, ap, subst, sym}
use Rattle.std.specs.Prelude.{⊤, IsSomeAnd, MatchOption}
use Rattle.draid_rack.specs.Rack.{Shape}
use Rattle.draid_shelf.specs.Kits.{CheckCounts, Held, IsUncounted, OnHeld}
use Rattle.draid_shelf.specs.Shelf.{HasLeavesOf}
use Rattle.draid_uber.specs.Checks.{told_by}
use Rattle.draid_create.specs.Opening.{AreNewAreas, HasNewKits}
use Rattle.draid_create.proofs.Causes.{new_failed}
use Rattle.draid_pool.proofs.Refusing.{if_ok_passed, on_err_always, on_err_right, on_ok_passed, passed}
use Rattle.draid_create.proofs.Fresh.{areas_new, areas_taken, made_untouched, uber_new}
use Rattle.draid_create.proofs.opening.make_pool.Goals as goal

pub create-requires : goal.create-requires
create-requires g c =
    record {
      layout = c.requires.layout;
      size = subst (λ (o : Option ℕ). MatchOption o ⊤ (λ n. g.H.A.Area.size c.in_ok-areas.areas.uber ≡ n)) c.in_ok-make.ensures.uber c.in_ok-areas.ensures.size;
      new = (let t = c.in_ok-areas.ensures in
          uber_new (g.H.A.Area.told c.in_ok-areas.areas.uber)
          (areas_new c.args.layout (g.H.Shelf.told c.make.new.self) (told_by g.H.A.Area.told c.in_ok-areas.areas) c.in_ok-make.ensures.told t.areas t.untold).uber);
    }

pub open_pool-requires-clause-uber : goal.open_pool-requires-clause-uber
open_pool-requires-clause-uber g c κs within =
    let t = c.in_ok-areas.ensures in
    let e = c.in-Ok.ensures in
    let faults = g.H.A.Area.faults in
    let made = c.in_ok-make.ensures in
    record {
      valid = e.valid;
      kept = e.none;
      layout = e.layout;
      version = e.version;
      next_leaf = e.leaf;
      point = e.point;
      drops = e.drops;
      changed = e.changed;
      stands = e.crash;
      new = subst (λ a. AreNewAreas (told_by g.H.A.Area.told a)) (sym e.areas)
          (areas_new c.args.layout (g.H.Shelf.told c.make.new.self) (told_by g.H.A.Area.told c.in_ok-areas.areas) made.told t.areas t.untold);
      count = ap (λ a. faults a.uber) e.areas ∙ (t.count.0 ∙ made.uber_count);
      even_count = ap (λ a. faults a.even) e.areas ∙ (t.count.1 ∙ ap (λ (k : CheckCounts). k.even) made.check_counts);
      odd_count = ap (λ a. faults a.odd) e.areas ∙ (t.count.2 ∙ ap (λ (k : CheckCounts). k.odd) made.check_counts);
    }

pub open_pool-requires-clause-held : goal.open_pool-requires-clause-held
open_pool-requires-clause-held g c κs within =
    subst (λ (o : Option Held). OnHeld o (HasNewKits c.args.layout)) (sym c.in_ok-areas.ensures.told) (areas_taken c.args.layout (g.H.Shelf.told c.make.new.self) c.in_ok-make.ensures.told)

pub returns : goal.returns
returns g c =
    let made = c.make.ensures.cause.later in
    let taken = c.take_areas.ensures.cause.later in
    record {
      whole = c.open_pool.ensures.whole;
      opens = c.open_pool.ensures.opens;
      away = c.open_pool.ensures.away;
      back = on_err_right c.open_pool.result _ _ c.open_pool.ensures.back;
      later = (let more = c.open_pool.ensures.later in
          omega (arith, made, taken, more));
      cause = (let shelf = g.H.Shelf in
          let e = c.open_pool.ensures in
          new_failed c.args.layout _ _ _ _ (shelf.faults c.args.shelf.now) (shelf.faults c.take_areas.new.shelf) (shelf.faults c.open_pool.new.shelf) c.open_pool.result (omega (arith, made, taken)) e.back e.cause);
    }

pub returns-in_err-make : goal.returns-in_err-make
returns-in_err-make g c =
    record {
      whole = if_ok_passed _ c.from_residual.result _ c.from_residual.ensures.1;
      opens = if_ok_passed _ c.from_residual.result _ c.from_residual.ensures.1;
      away = on_ok_passed _ c.from_residual.result _ c.from_residual.ensures.1;
      back = (let e = c.in_err-make.ensures in
          on_err_always c.from_residual.result _ (inl (record { held = e.err; counts = e.err_counts; uber = e.err_uber_count; checks = e.err_check_counts }, e.err_leaves)));
      later = c.make.ensures.cause.later;
      cause = λ failed. inl (c.in_err-make.ensures.cause.cause (passed c.from_residual.result c.in_err-make.field-0.0 _ c.from_residual.ensures.1 failed));
    }

pub returns-in_err-areas : goal.returns-in_err-areas
returns-in_err-areas g c =
    let made = c.make.ensures.cause.later in
    record {
      whole = if_ok_passed _ c.from_residual-in_err-areas.result _ c.from_residual-in_err-areas.ensures.1;
      opens = if_ok_passed _ c.from_residual-in_err-areas.result _ c.from_residual-in_err-areas.ensures.1;
      away = on_ok_passed _ c.from_residual-in_err-areas.result _ c.from_residual-in_err-areas.ensures.1;
      back = (let shelf = g.H.Shelf in
          let m = c.in_ok-make.ensures in
          let e = c.in_err-areas.ensures in
          on_err_always c.from_residual-in_err-areas.result _
          (inr (inl (made_untouched c.args.layout (shelf.told c.make.new.self) (shelf.told c.take_areas.new.shelf) (shelf.counts c.make.new.self) (shelf.counts c.take_areas.new.shelf)
          (record { uber = shelf.uber_count c.take_areas.new.shelf; checks = shelf.check_counts c.take_areas.new.shelf }) m.told e.back m.counts c.take_areas.ensures.counts (e.back_count.0 ∙ m.uber_count) (e.back_count.1 ∙ m.check_counts)))));
      later = (let taken = c.take_areas.ensures.cause.later in
          omega (arith, made, taken));
      cause = λ failed. (let rose = c.in_err-areas.ensures.cause.cause (passed c.from_residual-in_err-areas.result c.in_err-areas.field-0.0 _ c.from_residual-in_err-areas.ensures.1 failed) in
          inl (omega (arith, made, rose)));
    }

pub open_pool-requires-clause-layout : goal.open_pool-requires-clause-layout
open_pool-requires-clause-layout g c κs within = c.requires.layout

pub open_pool-requires-clause-leaves : goal.open_pool-requires-clause-leaves
open_pool-requires-clause-leaves g c κs within m below =
    subst (λ (o : Option Shape). IsSomeAnd o (HasLeavesOf c.args.layout)) (sym (c.take_areas.ensures.leaves m)) (c.in_ok-make.ensures.leaves m below)

pub open_pool-requires-clause-counts : goal.open_pool-requires-clause-counts
open_pool-requires-clause-counts g c κs within m below = subst IsUncounted (sym (c.take_areas.ensures.counts m)) (c.in_ok-make.ensures.counts m below)
