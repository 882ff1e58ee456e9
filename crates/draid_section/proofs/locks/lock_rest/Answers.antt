use Rattle.std.proofs.Common.{◌∙◌, ◌++◌, ◌∷◌, [], ap, arith, length, reverse, subst, sym}
use Rattle.std.proofs.lemmas.List.{length_push}
use Rattle.draid_section.specs.Opening.{AreFirst, shards_under}
use Rattle.draid_section.proofs.Locking.{first_long, first_push, lock_more}
use Rattle.draid_section.proofs.locks.lock_rest.Goals as goal

pub push_reserved-requires-in-Ok : goal.push_reserved-requires-in-Ok
push_reserved-requires-in-Ok g c =
    let i = c.shards.invariant in
    let many = i.many in
    let long = first_long c.shards.turns.items c.shards.firsts.items i.first in
    let popped = ap (λ ss. length ss) c.in-Some.ensures.items ∙ length_push c.pop.new.self.items c.in-Some.shard in
    let is = c.shards.firsts.ok.0 in
    let room = c.requires.room_firsts in
    let same = i.room_firsts in omega (arith, many, long, popped, is, room, same)

pub shards-preserved : goal.shards-preserved
shards-preserved g c =
    let i = c.shards.invariant in
    let turns = c.push_reserved.ensures in
    let firsts = c.push_reserved-in-Ok.ensures in
    record {
      locked = lock_more c.args.shards.now.items c.pop.new.self.items c.in-Some.shard c.shards.turns.items c.in-Ok.turn (i.locked ∙ ap (λ ss. ss ++ reverse (shards_under c.shards.turns.items)) c.in-Some.ensures.items) (ap (λ v. v.shard) c.in-Ok.ensures.lock)
          ∙ ap (λ ls. c.pop.new.self.items ++ reverse (shards_under ls)) (sym turns.items);
      first = subst (λ ls. AreFirst ls c.push_reserved-in-Ok.new.self.items) (sym turns.items)
          (subst (AreFirst (c.shards.turns.items ++ c.in-Ok.turn ∷ [])) (sym firsts.items) (first_push c.shards.turns.items c.shards.firsts.items c.in-Ok.turn c.in-Ok.first i.first c.in-Ok.ensures.pass));
      many = (let was = i.many in
          let popped = ap (λ ss. length ss) c.in-Some.ensures.items ∙ length_push c.pop.new.self.items c.in-Some.shard in
          let pushed = ap (λ ls. length ls) turns.items ∙ length_push c.shards.turns.items c.in-Ok.turn in omega (arith, was, popped, pushed));
      back = c.pop.ensures.capacity ∙ i.back;
      room = turns.capacity ∙ i.room;
      room_firsts = firsts.capacity ∙ i.room_firsts;
    }
