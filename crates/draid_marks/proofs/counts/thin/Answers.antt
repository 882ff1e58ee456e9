use Rattle.std.proofs.Common.{◌+◌, ◌∙◌, arith, subst, sym}
use Rattle.std.proofs.lemmas.Bool.{true≢false}
use Rattle.draid_marks.specs.Counting.{CountIs, CountsBelow, IsThinIn}
use Rattle.draid_marks.proofs.Counting.{counts_all, counts_more, counts_same, thin_is}
use Rattle.draid_marks.proofs.counts.thin.Goals.{then-is_thin, else-is_thin}
use Rattle.draid_marks.proofs.counts.thin.Goals as goal

pub is_thin-requires : goal.is_thin-requires
is_thin-requires c = record { begins = c.requires.below c.in-Some.entry.pointer.first c.in-Some.entry c.in-Some.ensures.there }

pub overflow_add-thin : goal.overflow_add-thin
overflow_add-thin c =
    let few = c.loop-entry.invariant.few in
    let from = c.in-Some.ensures.from in
    let below = c.in-Some.ensures.low in
    omega (arith, few, from, below)

pub loop-entry-preserved : goal.loop-entry-preserved
loop-entry-preserved c =
    let i = c.loop-entry.invariant in
    let at = c.in-Some.ensures in
    let next = c.in-Some.entry.pointer.first + 1 in
    let few = i.few in
    let from = at.from in
    let below = at.low in
    elim c.if-is_thin.branch [
      | then-is_thin w ↦
          let is = w.thin-is in
          record {
            counts = subst (CountsBelow c.args.entries.now (IsThinIn c.args.slots.now c.args.group) next) (sym is)
                (counts_more c.args.entries.now (IsThinIn c.args.slots.now c.args.group) c.loop-entry.stripe c.loop-entry.thin c.in-Some.entry i.counts at.there at.from at.first (c.is_thin.ensures.0 w.if-is_thin.true));
            few = omega (arith, is, few, from);
            low = omega (arith, below);
          }
      | else-is_thin w ↦
          let is = w.thin-is in
          record {
            counts = subst (CountsBelow c.args.entries.now (IsThinIn c.args.slots.now c.args.group) next) (sym is)
                (counts_same c.args.entries.now (IsThinIn c.args.slots.now c.args.group) c.loop-entry.stripe c.loop-entry.thin c.in-Some.entry i.counts at.there at.from at.first
                (λ passes. true≢false (sym (c.is_thin.ensures.1 passes) ∙ w.if-is_thin.false)));
            few = omega (arith, is, few, from);
            low = omega (arith, below);
          }
    ]

pub returns : goal.returns
returns c =
    let i = c.loop-entry.invariant in
    let few = i.few in
    let low = i.low in
    let all : CountIs c.args.entries.now (IsThinIn c.args.slots.now c.args.group) c.loop-entry.thin
    = counts_all c.args.entries.now (IsThinIn c.args.slots.now c.args.group) c.loop-entry.stripe c.loop-entry.thin i.counts low c.in_default.ensures.none in
    record {
      low = omega (arith, few, low);
      counts = all;
      is = thin_is c.args.slots.now c.requires.table.layout c.args.entries.now c.args.group c.loop-entry.thin all;
    }
