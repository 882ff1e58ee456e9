use Rattle.std.proofs.Common.{◌<◌, ◌∙◌, length, sym, subst}
use Rattle.draid_pool.proofs.LeavesFlushed.{found_flushed, found_online, found_slot, found_there, leaving_is_online, left_flushed}
use Rattle.draid_pool.proofs.sealing.is_flushed.Goals as goal

pub arms-requires : goal.arms-requires
arms-requires c = found_slot c.args.slots.now c.args.leaf c.in-Some.at c.requires c.in-Some.ensures.found

pub bounds-arms-at : goal.bounds-arms-at
bounds-arms-at c = subst (λ arms. c.in-Some.at.arm < length arms) (sym c.arms.ensures.arms) (found_there c.args.slots.now c.args.leaf c.in-Some.at c.in-Some.ensures.found)

pub returns-in-Some-clause-online : goal.returns-in-Some-clause-online
returns-in-Some-clause-online c = λ q has is. found_online c.args.slots.now c.args.leaf c.in-Some.at c.arms.result.now _ c.arms.ensures.arms c.in-Some.ensures.found q has is

pub returns-in-Some-clause-all : goal.returns-in-Some-clause-all
returns-in-Some-clause-all c = λ q has on. found_flushed c.args.slots.now c.args.leaf c.in-Some.at c.arms.result.now _ c.arms.ensures.arms c.in-Some.ensures.found q has on

pub returns-in-None-clause-all : goal.returns-in-None-clause-all
returns-in-None-clause-all c = λ q has on. c.leaving_online.ensures ∙ left_flushed c.args.slots.now c.args.leaf c.in-None.ensures.none q has on

pub returns-in-None-clause-online : goal.returns-in-None-clause-online
returns-in-None-clause-online c = λ q has is. leaving_is_online c.args.slots.now c.args.leaf (sym c.leaving_online.ensures ∙ is) q has
