use Rattle.std.proofs.Common.{◌∙◌, List, arith, subst, sym, take}
use Rattle.std.proofs.lemmas.List.{take_all, take_more}
use Rattle.draid_slots.specs.declared.slot.Detached.{Detached}
use Rattle.draid_pool.specs.Committing.{DropsListed}
use Rattle.draid_pool.proofs.Dropping.{list_more, list_none}
use Rattle.draid_pool.proofs.committing.drop_detached.Goals as goal

pub loop-gone-init : goal.loop-gone-init
loop-gone-init g c = record { drops = list_none g.R.Rack c.args.slots.now c.args.group c.args.rack.now }

pub loop-gone-preserved : goal.loop-gone-preserved
loop-gone-preserved g c =
    let items = c.detached-gone-items.result.now in
    let k = c.loop-gone.gone-index in
    record {
      drops = subst (λ (list : List Detached). DropsListed g.R.Rack c.args.slots.now c.args.group list c.args.rack.now c.drop_if_gone.new.rack) (sym (take_more items k _ c.loop-gone-test.true))
          (list_more g.R.Rack c.args.slots.now c.args.group (take k items) _ c.args.rack.now c.loop-gone.rack c.drop_if_gone.new.rack c.loop-gone.invariant.drops c.drop_if_gone.ensures);
    }

pub returns : goal.returns
returns g c =
    let items = c.detached-gone-items.result.now in
    subst (λ (list : List Detached). DropsListed g.R.Rack c.args.slots.now c.args.group list c.args.rack.now c.loop-gone.rack)
    (take_all c.loop-gone.gone-index items (let past = c.loop-gone-test.false in omega (arith, past)) ∙ c.detached-gone-items.ensures) c.loop-gone.invariant.drops
