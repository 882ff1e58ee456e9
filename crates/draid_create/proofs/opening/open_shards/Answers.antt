use Rattle.std.proofs.Common.{arith, ◌≡◌, ◌⊎◌, ◌<◌, ◌∙◌, ℕ, Option, refl, subst, sym}
use Rattle.std.specs.Prelude.{IsSomeAnd}
use Rattle.draid_names.specs.Faults.{Rose}
use Rattle.draid_rack.specs.Rack.{Shape}
use Rattle.draid_shelf.specs.Shelf.{HasLeavesOf}
use Rattle.draid_pool.specs.Taking.{TakesFirst}
use Rattle.draid_create.proofs.Opened.{back_nothing, opening_all, opening_back, opening_more, opening_none, refused_counted, failed_too}
use Rattle.draid_pool.proofs.Refusing.{no_device, no_refusal}
use Rattle.draid_create.proofs.opening.open_shards.Goals as goal

pub loop-number-init : goal.loop-number-init
loop-number-init g c =
    let shelf = g.H.Shelf in
    let exact = c.in-Ok.ensures.capacity in
    record {
      opening = opening_none g.H.R.Rack g.H.A.Area c.args.layout c.new-perms.result (shelf.leaves c.args.shelf.now) (shelf.told c.args.shelf.now) (shelf.counts c.args.shelf.now) c.in-Ok.shards.items c.in-Ok.ensures.items;
      room = c.in-Ok.ensures.capacity;
      bound = omega arith;
      uber = refl;
      checks = refl;
      later = omega arith;
    }

pub open_shard-requires-clause-made : goal.open_shard-requires-clause-made
open_shard-requires-clause-made g c κs within =
    subst (λ (o : Option Shape). IsSomeAnd o (HasLeavesOf c.args.layout)) (sym (c.loop-number.invariant.opening.leaves_yet c.loop-number.number (omega arith))) (c.requires.made c.loop-number.number c.loop-number-test.true)

pub returns-in-Err : goal.returns-in-Err
returns-in-Err g c =
    let shelf = g.H.Shelf in
    record {
      opened = tt;
      told = tt;
      back = opening_back g.H.R.Rack g.H.A.Area c.args.layout c.new-perms.result c.loop-number.number (shelf.leaves c.args.shelf.now) (shelf.leaves c.loop-number.shelf) (shelf.told c.args.shelf.now) (shelf.told c.loop-number.shelf)
          (shelf.told c.open_shard.new.shelf) (shelf.told c.give_back.new.shelf) (shelf.counts c.args.shelf.now) (shelf.counts c.loop-number.shelf) (shelf.counts c.open_shard.new.shelf) (shelf.counts c.give_back.new.shelf)
          c.loop-number.shards.items c.loop-number.invariant.opening c.in-Err.ensures.back c.give_back.ensures.returns;
      uber = c.give_back.ensures.uber ∙ (c.open_shard.ensures.uber ∙ c.loop-number.invariant.uber);
      checks = c.give_back.ensures.checks ∙ (c.open_shard.ensures.checks ∙ c.loop-number.invariant.checks);
      later = (let first = c.loop-number.invariant.later in let more = c.open_shard.ensures.later in let same = c.give_back.ensures.faults in omega (arith, first, more, same));
      cause = λ failed. refused_counted g.H.R.Rack g.H.A.Area c.args.layout c.new-perms.result c.loop-number.number (shelf.leaves c.args.shelf.now) (shelf.leaves c.loop-number.shelf) (shelf.told c.args.shelf.now) (shelf.told c.loop-number.shelf)
          (shelf.told c.open_shard.new.shelf) (shelf.told c.give_back.new.shelf) (shelf.counts c.args.shelf.now) (shelf.counts c.loop-number.shelf) (shelf.counts c.open_shard.new.shelf) (shelf.counts c.give_back.new.shelf)
          c.loop-number.shards.items (shelf.faults c.args.shelf.now) (shelf.faults c.loop-number.shelf) (shelf.faults c.give_back.new.shelf) c.loop-number.invariant.opening c.give_back.ensures.returns c.loop-number.invariant.later c.loop-number-test.true
          (subst (λ (n : ℕ). Rose (shelf.faults c.loop-number.shelf) n ⊎ (0 < (shelf.counts c.open_shard.new.shelf c.loop-number.number).odd)) (sym c.give_back.ensures.faults) (c.in-Err.ensures.cause (failed_too c.in-Err.fault failed)));
    }

pub loop-number-preserved : goal.loop-number-preserved
loop-number-preserved g c =
    let shelf = g.H.Shelf in
    let i = c.loop-number.invariant in
    let room = i.room in
    let below = c.loop-number-test.true in
    let capacity = c.push_reserved.ensures.capacity in
    let e = c.in-Ok-open_shard.ensures in
    let later = i.later in
    let again = c.open_shard.ensures.later in
    record {
      opening = opening_more g.H.R.Rack g.H.A.Area c.args.layout c.new-perms.result c.loop-number.number (shelf.leaves c.args.shelf.now) (shelf.leaves c.loop-number.shelf) (shelf.leaves c.open_shard.new.shelf)
          (shelf.told c.args.shelf.now) (shelf.told c.loop-number.shelf) (shelf.told c.open_shard.new.shelf) (shelf.counts c.args.shelf.now) (shelf.counts c.loop-number.shelf) (shelf.counts c.open_shard.new.shelf)
          c.loop-number.shards.items c.push_reserved.new.self.items c.in-Ok-open_shard.shard i.opening c.push_reserved.ensures.items e.opened e.told e.leaves e.counts;
      room = omega (arith, room, capacity);
      bound = omega (arith, below);
      uber = c.open_shard.ensures.uber ∙ i.uber;
      checks = c.open_shard.ensures.checks ∙ i.checks;
      later = omega (arith, later, again);
    }

pub returns : goal.returns
returns g c =
    let shelf = g.H.Shelf in
    let end = c.loop-number-test.false in
    let bound = c.loop-number.invariant.bound in
    record {
      opened = opening_all g.H.R.Rack g.H.A.Area c.args.layout c.new-perms.result c.loop-number.number (shelf.leaves c.args.shelf.now) (shelf.leaves c.loop-number.shelf) (shelf.told c.args.shelf.now) (shelf.told c.loop-number.shelf)
          (shelf.counts c.args.shelf.now) (shelf.counts c.loop-number.shelf) c.loop-number.shards.items c.loop-number.invariant.opening
          (record { geometry_is = c.requires.layout; perms_are = c.new-perms.ensures }) (omega (arith, end, bound));
      told = (let last : c.loop-number.number ≡ c.args.layout.props.metaslabs = omega (arith, end, bound) in
          subst (λ (n : ℕ). TakesFirst n (shelf.told c.args.shelf.now) (shelf.told c.loop-number.shelf)) last c.loop-number.invariant.opening.told);
      back = tt;
      uber = c.loop-number.invariant.uber;
      checks = c.loop-number.invariant.checks;
      later = c.loop-number.invariant.later;
      cause = λ failed. absurd (no_refusal failed);
    }

pub returns-in_default : goal.returns-in_default
returns-in_default g c =
    record {
      opened = tt;
      told = tt;
      back = back_nothing (g.H.Shelf.told c.args.shelf.now) (g.H.Shelf.counts c.args.shelf.now);
      uber = refl;
      checks = refl;
      later = omega arith;
      cause = λ failed. absurd (no_device failed);
    }

pub open_shard-requires-clause-layout : goal.open_shard-requires-clause-layout
open_shard-requires-clause-layout g c κs within = record { geometry_is = c.requires.layout; perms_are = c.new-perms.ensures }

pub open_shard-requires-clause-number : goal.open_shard-requires-clause-number
open_shard-requires-clause-number g c κs within = c.loop-number-test.true

pub push_reserved-requires : goal.push_reserved-requires
push_reserved-requires g c =
    let i = c.loop-number.invariant in
    let room = i.room in
    let many = i.opening.many in
    let below = c.loop-number-test.true in
    let len = c.loop-number.shards.ok.0 in
    omega (arith, room, many, below, len)

pub give_back-requires-clause-few : goal.give_back-requires-clause-few
give_back-requires-clause-few g c κs within =
    let i = c.loop-number.invariant in
    let bound = i.bound in
    let many = i.opening.many in
    let most = c.requires.layout.props.most_metaslabs in
    omega (arith, bound, many, most)
