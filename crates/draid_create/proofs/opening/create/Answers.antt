use Rattle.std.proofs.Common.{arith, ◌∙◌, Err, ap, refl, sym}
use Rattle.draid_spec.specs.declared.layout.Geometry.{Geometry}
use Rattle.draid_create.specs.Opening.{HoldsUncommitted}
use Rattle.draid_create.proofs.Causes.{made_for}
use Rattle.draid_create.proofs.opening.create.Goals as goal

pub returns-in-Err : goal.returns-in-Err
returns-in-Err g c =
    record {
      whole = tt;
      answer = sym c.geometry.ensures.exact ∙ c.in-Err.is;
      shelf = (record { held = refl; counts = λ m. refl; uber = refl; checks = refl }, λ m. refl);
      later = omega arith;
    }

pub returns-in-Ok-make_pool : goal.returns-in-Ok-make_pool
returns-in-Ok-make_pool g c =
    record {
      whole = c.in-Ok-make_pool.ensures.whole;
      answer = (c.in-Ok.layout, sym c.geometry.ensures.exact ∙ c.in-Ok.is, c.in-Ok-make_pool.ensures.opens);
      shelf = c.in-Ok-make_pool.ensures.away;
      later = c.make_pool.ensures.later;
    }

pub returns-in-Err-Failed : goal.returns-in-Err-Failed
returns-in-Err-Failed g c =
    record {
      whole = tt;
      answer = (c.in-Ok.layout, sym c.geometry.ensures.exact ∙ c.in-Ok.is, c.in-Err-Failed.ensures.cause (ap Err c.in-Err-Failed.field-0-is));
      shelf = (let shelf = g.H.Shelf in
          made_for c.args.spec c.args.props
          (λ (l : Geometry). HoldsUncommitted l (shelf.told c.make_pool.new.shelf) (shelf.leaves c.make_pool.new.shelf) (shelf.counts c.make_pool.new.shelf) (record { uber = shelf.uber_count c.make_pool.new.shelf; checks = shelf.check_counts c.make_pool.new.shelf }))
          c.in-Ok.layout (sym c.geometry.ensures.exact ∙ c.in-Ok.is) c.in-Err-Failed.ensures.back);
      later = c.make_pool.ensures.later;
    }

pub returns-in-Err-NoMemory : goal.returns-in-Err-NoMemory
returns-in-Err-NoMemory g c =
    record {
      whole = tt;
      answer = (c.in-Ok.layout, sym c.geometry.ensures.exact ∙ c.in-Ok.is);
      shelf = (let shelf = g.H.Shelf in
          made_for c.args.spec c.args.props
          (λ (l : Geometry). HoldsUncommitted l (shelf.told c.make_pool.new.shelf) (shelf.leaves c.make_pool.new.shelf) (shelf.counts c.make_pool.new.shelf) (record { uber = shelf.uber_count c.make_pool.new.shelf; checks = shelf.check_counts c.make_pool.new.shelf }))
          c.in-Ok.layout (sym c.geometry.ensures.exact ∙ c.in-Ok.is) c.in-Err-NoMemory.ensures.back);
      later = c.make_pool.ensures.later;
    }
