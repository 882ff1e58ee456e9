use Rattle.std.proofs.Common.{arith}
use Rattle.std.specs.Prelude.{nat_eq}
use Rattle.std.specs.HashMap.{get}
use Rattle.draid_found.specs.Together.{noted_in}
use Rattle.draid_found.proofs.Together.{all_fresh, count_first, count_next, notes_below, notes_none, noted_twice, no_fault, starved, notes_all}
use Rattle.draid_found.proofs.Noted.{next_inside, next_low, noting_more, noting_none, noting_all}
use Rattle.draid_found.proofs.finding.Found.note_all.Goals as goal

pub overflow_add-from : goal.overflow_add-from
overflow_add-from g c = (let low = next_low g.R.Rack c.args.shard.now c.loop-pointer.from c.in-Some.pointer c.in-Some.ensures.some in omega (arith, low))

pub loop-pointer-smaller : goal.loop-pointer-smaller
loop-pointer-smaller g c =
    let next = c.in-Some.ensures.some in
    let inside = next_inside g.R.Rack c.args.shard.now c.loop-pointer.from c.in-Some.pointer c.requires.valid next in
    let behind = next.behind in
    omega (arith, inside, behind)

pub loop-pointer-preserved : goal.loop-pointer-preserved
loop-pointer-preserved g c =
    let next = c.in-Some.ensures.some in
    let inside = next_inside g.R.Rack c.args.shard.now c.loop-pointer.from c.in-Some.pointer c.requires.valid next in
    record {
      noting = noting_more g.R.Rack c.args.shard.now c.loop-pointer.from c.in-Some.pointer (get nat_eq c.args.self.now.newest) (get nat_eq c.loop-pointer.self.newest) (get nat_eq c.note.new.self.newest)
          c.args.self.now.seq c.loop-pointer.self.seq c.note.new.self.seq c.requires.valid c.requires.live next c.loop-pointer.invariant.noting (c.in-Ok-true.ensures.noted c.in-Ok-true.field-0-test);
      keys = notes_below c.args.shard.now c.loop-pointer.from c.in-Some.pointer (noted_in c.args.self.now.keys) (noted_in c.loop-pointer.self.keys) (noted_in c.note.new.self.keys) next c.loop-pointer.invariant.keys
          (c.in-Ok-true.ensures.fresh c.in-Ok-true.field-0-test) c.in-Ok-true.ensures.keys;
      at = (let at = c.loop-pointer.invariant.at in let add = c.saturating_add-at.ensures in let count = (count_next c.args.shard.now c.loop-pointer.from c.in-Some.pointer next).1 in omega (arith, at, add, count));
      bound = omega (arith, inside);
    }

pub returns-in-Ok-false : goal.returns-in-Ok-false
returns-in-Ok-false g c = record {
  noted = tt;
  keys = tt;
  fresh = tt;
  again = noted_twice c.args.shard.now c.loop-pointer.from c.in-Some.pointer (noted_in c.args.self.now.keys) (noted_in c.loop-pointer.self.keys) c.loop-pointer.at c.in-Some.ensures.some c.loop-pointer.invariant.at c.loop-pointer.invariant.keys
      (c.in-Ok-false.ensures.again c.in-Ok-false.field-0-test);
}

pub returns-in-Err : goal.returns-in-Err
returns-in-Err g c = record {
  noted = tt;
  keys = tt;
  fresh = tt;
  again = λ metaslab place kind is. absurd (starved metaslab place kind is);
}

pub loop-pointer-init : goal.loop-pointer-init
loop-pointer-init g c = record {
  noting = noting_none g.R.Rack c.args.shard.now (get nat_eq c.args.self.now.newest) c.args.self.now.seq;
  keys = notes_none c.args.shard.now (noted_in c.args.self.now.keys);
  at = (let is = c.blocks_at-at.ensures in let none = count_first c.args.shard.now.entries in let low = c.blocks_at-at.type_inv in omega (arith, is, none, low));
  bound = omega arith;
}

pub returns : goal.returns
returns g c = record {
  noted = noting_all g.R.Rack c.args.shard.now c.loop-pointer.from (get nat_eq c.args.self.now.newest) (get nat_eq c.loop-pointer.self.newest) c.args.self.now.seq c.loop-pointer.self.seq c.in_default.ensures.none c.loop-pointer.invariant.noting;
  keys = notes_all c.args.shard.now c.loop-pointer.from (noted_in c.args.self.now.keys) (noted_in c.loop-pointer.self.keys) c.in_default.ensures.none c.loop-pointer.invariant.keys;
  fresh = all_fresh c.args.shard.now c.loop-pointer.from (noted_in c.args.self.now.keys) (noted_in c.loop-pointer.self.keys) c.in_default.ensures.none c.loop-pointer.invariant.keys;
  again = λ metaslab place kind is. absurd (no_fault is);
}
