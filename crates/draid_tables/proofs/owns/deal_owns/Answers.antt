use Rattle.std.proofs.Common.{◌∙◌, Some, ap, arith, subst, sym}
use Rattle.std.proofs.lemmas.Option.{slice_get-get_or}
use Rattle.draid_tables.specs.Owns.{IsDealtOut}
use Rattle.draid_tables.proofs.Owning.{deals_next}
use Rattle.draid_tables.proofs.owns.deal_owns.Goals as goal

pub loop-i-preserved : goal.loop-i-preserved
loop-i-preserved c =
    let own = c.args.own.now in
    let numbers = c.args.numbers.now in
    let list = c.index-numbers-i.result in
    let dealt = c.in_ok-deal_own.field-0 in
    record {
      deals = deals_next own numbers c.loop-i.i c.loop-i.owns.items list dealt c.loop-i.invariant.deals
          (slice_get-get_or numbers c.loop-i.i list c.loop-i-test.true ∙ ap Some (sym c.index-numbers-i.is))
          (subst (λ ns. IsDealtOut own ns dealt) c.deref.ensures.value c.in_ok-deal_own.ensures) c.push_reserved.new.self.items c.push_reserved.ensures.items;
      room = (let room = c.loop-i.invariant.room in let same = c.push_reserved.ensures.capacity in omega (arith, room, same));
    }
