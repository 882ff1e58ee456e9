use Rattle.std.proofs.Common.{◌+◌, ◌∙◌, arith, subst, sym}
use Rattle.std.proofs.lemmas.Bool.{true≢false}
use Rattle.draid_shard.proofs.Sizes.{low_stripes}
use Rattle.draid_shard.proofs.Counted.{CountsBelow, IsTicket, counts_more, counts_same, has_tickets}
use Rattle.draid_shard.proofs.Kept.{inside_stripes}
use Rattle.draid_shard.proofs.shard.Shard.tickets.Goals.{then-is_ticket, else-is_ticket}
use Rattle.draid_shard.proofs.shard.Shard.tickets.Goals as goal

pub overflow_add-tickets : goal.overflow_add-tickets
overflow_add-tickets g c =
    let i = c.loop-entry.invariant in
    let few = i.few in
    let from = c.in-Some.ensures.from in
    let inside = inside_stripes g.R.Rack c.args.self.now c.requires.valid c.in-Some.entry c.in-Some.ensures.there in
    let low = low_stripes c.args.self.now.geometry c.requires.valid.part.layout.geometry_is in
    omega (arith, few, from, inside, low)

pub loop-entry-preserved : goal.loop-entry-preserved
loop-entry-preserved g c =
    let i = c.loop-entry.invariant in
    let at = c.in-Some.ensures in
    let next = c.in-Some.entry.pointer.first + 1 in
    let few = i.few in
    let from = at.from in
    let inside = inside_stripes g.R.Rack c.args.self.now c.requires.valid c.in-Some.entry at.there in
    elim c.if-is_ticket.branch [
      | then-is_ticket w ↦
          let is = w.tickets-is in
          record {
            counts = subst (CountsBelow c.args.self.now.entries IsTicket next) (sym is)
                (counts_more c.args.self.now.entries IsTicket c.loop-entry.stripe c.loop-entry.tickets c.in-Some.entry i.counts at.there at.from at.first (c.is_ticket.ensures.0 w.if-is_ticket.true));
            few = omega (arith, is, few, from);
            low = omega (arith, inside);
          }
      | else-is_ticket w ↦
          let is = w.tickets-is in
          record {
            counts = subst (CountsBelow c.args.self.now.entries IsTicket next) (sym is)
                (counts_same c.args.self.now.entries IsTicket c.loop-entry.stripe c.loop-entry.tickets c.in-Some.entry i.counts at.there at.from at.first
                (λ passes. true≢false (sym (c.is_ticket.ensures.1 passes) ∙ w.if-is_ticket.false)));
            few = omega (arith, is, few, from);
            low = omega (arith, inside);
          }
    ]

pub returns : goal.returns
returns g c = has_tickets c.args.self.now c.loop-entry.stripe c.loop-entry.tickets c.loop-entry.invariant.counts c.in_default.ensures.none
