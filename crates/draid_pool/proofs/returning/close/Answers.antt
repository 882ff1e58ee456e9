use Rattle.std.proofs.Common.{arith, ◌∙◌, ℕ, Option, ap, sym}
use Rattle.std.specs.Prelude.{nat_eq}
use Rattle.std.specs.HashMap.{get}
use Rattle.draid_names.specs.declared.pointer.Pointer.{Pointer}
use Rattle.draid_machine.proofs.Small.{absurd_test}
use Rattle.draid_uber.specs.Checks.{told_by}
use Rattle.draid_pool.specs.Taking.{gives_areas}
use Rattle.draid_pool.proofs.Returned.{counted_as, holds_pool, pool_crashed, pool_uncrashed, stands_parts}
use Rattle.draid_pool.proofs.Failing.{own_given, racks_there, shows_there}
use Rattle.draid_pool.proofs.Importables.{firm_crashed, importable_back, importable_left, versions_found}
use Rattle.draid_pool.proofs.Wholes.{few_whole}
use Rattle.draid_pool.proofs.returning.close.Goals as goal

pub returns-then-crash : goal.returns-then-crash
returns-then-crash g c =
    let shelf = g.H.Shelf in
    let rack = g.H.R.Rack in
    let area = g.H.A.Area in
    let areas = c.args.pool.uber.areas in
    let told = told_by area.told areas in
    let shards = c.args.pool.metaslabs.shards.items in
    let given = c.give_areas.ensures.told ∙ ap (λ a. gives_areas (told_by area.told a) (shelf.told c.give_back.new.shelf)) c.into_areas.ensures in
    let own = own_given area.faults areas (shelf.uber_count c.crash.new.self) (shelf.check_counts c.crash.new.self)
    (c.crash.ensures.uber_count ∙ c.give_areas.ensures.uber ∙ ap (λ a. area.faults a.uber) c.into_areas.ensures) (c.crash.ensures.check_counts ∙ c.give_areas.ensures.checks ∙ ap (λ a. record { even = area.faults a.even; odd = area.faults a.odd }) c.into_areas.ensures) in
    record {
      back = λ x represents. (let table : ℕ → Option Pointer = λ object. get nat_eq c.args.pool.own.objects object in
          let s = represents.stands in
          let parts = stands_parts rack area c.args.pool table x s in
          let held = holds_pool rack area shards told x parts (shelf.told c.args.shelf.now) (shelf.told c.give_back.new.shelf) (shelf.counts c.args.shelf.now) (shelf.counts c.give_back.new.shelf)
          c.give_back.ensures.returns (shelf.told c.give_areas.new.shelf) given in
          let importable = importable_back rack area shards x s.pieces s.shards s.each (shelf.leaves c.give_areas.new.shelf) s.shared s.alike x.committed (omega arith)
          (versions_found rack area shards x s.pieces s.shards s.each s.shared s.versions s.alike s.groups.committed) s.groups.committed (λ m shard there. c.give_areas.ensures.leaves m ∙ c.give_back.ensures.leaves.own m shard there) told
          (shelf.told c.args.shelf.now) (shelf.told c.give_back.new.shelf) (shelf.counts c.args.shelf.now) (shelf.counts c.give_back.new.shelf) c.give_back.ensures.returns (shelf.told c.give_areas.new.shelf) given in
          record {
            importable = importable_left x (shelf.told c.give_areas.new.shelf) (shelf.told c.crash.new.self) (shelf.leaves c.give_areas.new.shelf) (shelf.leaves c.crash.new.self) c.crash.ensures.told c.crash.ensures.leaves importable;
            held = pool_crashed x c.args.crash (shelf.told c.give_areas.new.shelf) (shelf.told c.crash.new.self) c.if-crash.true c.crash.ensures.told held;
            counted = counted_as rack area shards told x parts (shelf.told c.args.shelf.now) (shelf.told c.give_back.new.shelf) (shelf.counts c.args.shelf.now) (shelf.counts c.give_back.new.shelf)
                c.give_back.ensures.returns (shelf.counts c.crash.new.self) (λ m. c.crash.ensures.counts m ∙ c.give_areas.ensures.counts m);
            uber = own ∙ sym s.uber.count;
          });
      crash = λ asked. firm_crashed (shelf.told c.give_areas.new.shelf) (shelf.told c.crash.new.self) c.crash.ensures.told;
      failed = shows_there rack area c.args.pool (shelf.told c.args.shelf.now) (shelf.told c.give_back.new.shelf) (shelf.counts c.args.shelf.now) (shelf.counts c.give_back.new.shelf) (shelf.counts c.crash.new.self)
          (record { uber = shelf.uber_count c.crash.new.self; checks = shelf.check_counts c.crash.new.self }) c.give_back.ensures.returns (λ m. c.crash.ensures.counts m ∙ c.give_areas.ensures.counts m) own;
      racks = racks_there rack area c.args.pool (shelf.told c.args.shelf.now) (shelf.told c.give_back.new.shelf) (shelf.counts c.args.shelf.now) (shelf.counts c.give_back.new.shelf) (shelf.counts c.crash.new.self)
          c.give_back.ensures.returns (λ m. c.crash.ensures.counts m ∙ c.give_areas.ensures.counts m);
      faults = c.crash.ensures.faults ∙ (c.give_areas.ensures.faults ∙ c.give_back.ensures.faults);
    }

pub returns : goal.returns
returns g c =
    let shelf = g.H.Shelf in
    let rack = g.H.R.Rack in
    let area = g.H.A.Area in
    let areas = c.args.pool.uber.areas in
    let told = told_by area.told areas in
    let shards = c.args.pool.metaslabs.shards.items in
    let given = c.give_areas.ensures.told ∙ ap (λ a. gives_areas (told_by area.told a) (shelf.told c.give_back.new.shelf)) c.into_areas.ensures in
    let own = own_given area.faults areas (shelf.uber_count c.give_areas.new.shelf) (shelf.check_counts c.give_areas.new.shelf)
    (c.give_areas.ensures.uber ∙ ap (λ a. area.faults a.uber) c.into_areas.ensures) (c.give_areas.ensures.checks ∙ ap (λ a. record { even = area.faults a.even; odd = area.faults a.odd }) c.into_areas.ensures) in
    record {
      back = λ x represents. (let table : ℕ → Option Pointer = λ object. get nat_eq c.args.pool.own.objects object in
          let s = represents.stands in
          let parts = stands_parts rack area c.args.pool table x s in
          let held = holds_pool rack area shards told x parts (shelf.told c.args.shelf.now) (shelf.told c.give_back.new.shelf) (shelf.counts c.args.shelf.now) (shelf.counts c.give_back.new.shelf)
          c.give_back.ensures.returns (shelf.told c.give_areas.new.shelf) given in
          let importable = importable_back rack area shards x s.pieces s.shards s.each (shelf.leaves c.give_areas.new.shelf) s.shared s.alike x.committed (omega arith)
          (versions_found rack area shards x s.pieces s.shards s.each s.shared s.versions s.alike s.groups.committed) s.groups.committed (λ m shard there. c.give_areas.ensures.leaves m ∙ c.give_back.ensures.leaves.own m shard there) told
          (shelf.told c.args.shelf.now) (shelf.told c.give_back.new.shelf) (shelf.counts c.args.shelf.now) (shelf.counts c.give_back.new.shelf) c.give_back.ensures.returns (shelf.told c.give_areas.new.shelf) given in
          record {
            importable = importable;
            held = pool_uncrashed x c.args.crash (shelf.told c.give_areas.new.shelf) c.if-crash.false held;
            counted = counted_as rack area shards told x parts (shelf.told c.args.shelf.now) (shelf.told c.give_back.new.shelf) (shelf.counts c.args.shelf.now) (shelf.counts c.give_back.new.shelf)
                c.give_back.ensures.returns (shelf.counts c.give_areas.new.shelf) (λ m. c.give_areas.ensures.counts m);
            uber = own ∙ sym s.uber.count;
          });
      crash = λ asked. absurd_test c.args.crash asked c.if-crash.false;
      failed = shows_there rack area c.args.pool (shelf.told c.args.shelf.now) (shelf.told c.give_back.new.shelf) (shelf.counts c.args.shelf.now) (shelf.counts c.give_back.new.shelf) (shelf.counts c.give_areas.new.shelf)
          (record { uber = shelf.uber_count c.give_areas.new.shelf; checks = shelf.check_counts c.give_areas.new.shelf }) c.give_back.ensures.returns (λ m. c.give_areas.ensures.counts m) own;
      racks = racks_there rack area c.args.pool (shelf.told c.args.shelf.now) (shelf.told c.give_back.new.shelf) (shelf.counts c.args.shelf.now) (shelf.counts c.give_back.new.shelf) (shelf.counts c.give_areas.new.shelf)
          c.give_back.ensures.returns (λ m. c.give_areas.ensures.counts m);
      faults = (c.give_areas.ensures.faults ∙ c.give_back.ensures.faults);
    }

pub give_back-requires-clause-few : goal.give_back-requires-clause-few
give_back-requires-clause-few g c κs within = few_whole g.H.R.Rack g.H.A.Area c.args.pool c.requires.whole
