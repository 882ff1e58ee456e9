use Rattle.std.proofs.Common.{arith, ◌∙◌, ap, sym}
use Rattle.std.proofs.lemmas.Bool.{true≢false}
use Rattle.std.specs.declared.alloc.Global.{Global}
use Rattle.std.specs.declared.vec.Vec.{Vec}
use Rattle.draid_names.specs.declared.pointer.Pointer.{Pointer}
use Rattle.draid_shard.proofs.Listing.{lists_none, lists_live, lists_more, lists_same}
use Rattle.draid_shard.proofs.shard.Shard.live.Goals.{then-is_live+in_ok-push, else-is_live}
use Rattle.draid_shard.proofs.shard.Shard.live.Goals as goal

pub loop-entry-preserved : goal.loop-entry-preserved
loop-entry-preserved g c =
    let at = c.in-Some.ensures in
    elim c.if-is_live.branch [
      | then-is_live+in_ok-push w ↦
          lists_more c.args.self.now.entries c.loop-entry.stripe c.loop-entry.listed.items c.in-Some.entry c.loop-entry.invariant at.there at.from at.first c.if-is_live.listed.items
          (ap (λ (v : Vec Pointer Global). v.items) w.listed-is ∙ w.in_ok-push.ensures.items) (c.is_live.ensures.0 w.if-is_live.true)
      | else-is_live w ↦
          lists_same c.args.self.now.entries c.loop-entry.stripe c.loop-entry.listed.items c.in-Some.entry c.loop-entry.invariant at.there at.from at.first c.if-is_live.listed.items
          (ap (λ (v : Vec Pointer Global). v.items) w.listed-is) (λ live. true≢false (sym (c.is_live.ensures.1 live) ∙ w.if-is_live.false))
    ]

pub loop-entry-init : goal.loop-entry-init
loop-entry-init g c = lists_none c.args.self.now.entries c.new-listed.result.items c.new-listed.ensures.items

pub overflow_add-stripe : goal.overflow_add-stripe
overflow_add-stripe g c = let low = c.in-Some.ensures.low in omega (arith, low)

pub loop-entry-smaller : goal.loop-entry-smaller
loop-entry-smaller g c = let low = c.in-Some.ensures.low in let from = c.in-Some.ensures.from in omega (arith, low, from)

pub returns-clause-ascending : goal.returns-clause-ascending
returns-clause-ascending g c = c.loop-entry.invariant.ascending

pub returns-clause-live : goal.returns-clause-live
returns-clause-live g c = lists_live c.args.self.now.entries c.loop-entry.stripe c.loop-entry.listed.items c.loop-entry.invariant c.in_default.ensures.none
