use Rattle.std.proofs.Common.{◌∙◌, ◌++◌, ap, arith, length, refl, rules, subst, sym}
use Rattle.std.specs.Prelude.{option_to_list}
use Rattle.std.proofs.lemmas.List.{length_push}
use Rattle.draid_section.proofs.Locking.{Closing, closing_at, closing_done, closing_more, closing_own, closing_start}
use Rattle.draid_section.proofs.locks.take_back.Goals as goal

pub turns-init : goal.turns-init
turns-init g c = record {
  closing = closing_start g.R.Rack g.A.Area c.args.turns.items c.args.firsts.items c.args.back.items c.requires.fits.many;
  room = refl;
  many = refl;
}

pub close-shard-requires : goal.close-shard-requires
close-shard-requires g c =
    let passes = c.pop-in-Some.ensures.items ∙ ap (λ o. c.pop-in-Some.new.self.items ++ option_to_list o) c.unwrap-first.ensures in
    let r = closing_at g.R.Rack g.A.Area c.args.turns.items c.args.firsts.items c.args.back.items c.turns.turns.items c.pop.new.self.items c.in-Some.turn c.turns.firsts.items c.pop-in-Some.new.self.items c.unwrap-first.result c.turns.back.items
    c.in-Some.ensures.items passes c.turns.invariant.closing in
    record { own = closing_own g.R.Rack g.A.Area c.args.turns.items c.args.firsts.items c.args.back.items c.pop.new.self.items c.in-Some.turn c.pop-in-Some.new.self.items c.unwrap-first.result c.turns.back.items r c.requires.fits }

pub turns-preserved : goal.turns-preserved
turns-preserved g c =
    let passes = c.pop-in-Some.ensures.items ∙ ap (λ o. c.pop-in-Some.new.self.items ++ option_to_list o) c.unwrap-first.ensures in
    let r = closing_at g.R.Rack g.A.Area c.args.turns.items c.args.firsts.items c.args.back.items c.turns.turns.items c.pop.new.self.items c.in-Some.turn c.turns.firsts.items c.pop-in-Some.new.self.items c.unwrap-first.result c.turns.back.items
    c.in-Some.ensures.items passes c.turns.invariant.closing in
    let shard = c.close-shard.result.shard in
    record {
      closing = subst (λ ss. Closing g.R.Rack g.A.Area c.args.turns.items c.args.firsts.items c.args.back.items c.pop.new.self.items c.pop-in-Some.new.self.items ss) (sym c.push_reserved.ensures.items)
          (closing_more g.R.Rack g.A.Area c.args.turns.items c.args.firsts.items c.args.back.items c.pop.new.self.items c.in-Some.turn c.pop-in-Some.new.self.items c.unwrap-first.result c.turns.back.items r shard
          (record { value = c.close-shard.result; is = refl; closes = c.close-shard.ensures }));
      room = c.push_reserved.ensures.capacity ∙ c.turns.invariant.room;
      many = (let was = c.turns.invariant.many in
          let popped = ap (λ ls. length ls) c.in-Some.ensures.items ∙ length_push c.pop.new.self.items c.in-Some.turn in
          let pushed = ap (λ ss. length ss) c.push_reserved.ensures.items ∙ length_push c.turns.back.items shard in omega (arith, was, popped, pushed));
    }

pub returns : goal.returns
returns g c = closing_done g.R.Rack g.A.Area c.args.turns.items c.args.firsts.items c.args.back.items c.turns.turns.items c.turns.firsts.items c.turns.back.items (search rules) c.turns.invariant.closing
