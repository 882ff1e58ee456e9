use Rattle.std.proofs.Common.{◌∙◌, [], List, ap, subst, sym}
use Rattle.draid_names.specs.declared.arm.Arm.{Arm}
use Rattle.draid_ranges.specs.Numbers.{Numbers, has}
use Rattle.draid_slots.specs.Table.{AreSlots, log_in}
use Rattle.draid_stable.proofs.Cut.{cut_arms, cut_logs}
use Rattle.draid_stable.proofs.opening.slots_of.Goals as goal

pub of-requires-clause-arms : goal.of-requires-clause-arms
of-requires-clause-arms c =
    subst (λ (arms : List (List Arm)). AreSlots c.args.geometry arms [])
    (sym (cut_arms c.args.group c.args.lists.items c.cut_slots.new.lists.items c.cut_slots.ensures.count c.cut_slots.ensures.each)) c.requires.arms

pub returns-clause-arms : goal.returns-clause-arms
returns-clause-arms c =
    c.reserve.ensures.kept.arms_stay ∙ c.in_ok-slots.ensures.arms
    ∙ cut_arms c.args.group c.args.lists.items c.cut_slots.new.lists.items c.cut_slots.ensures.count c.cut_slots.ensures.each

pub returns-clause-logs : goal.returns-clause-logs
returns-clause-logs c at g =
    c.reserve.ensures.kept.logs_stay at g ∙ ap (λ (logs : List (List Numbers)). has (log_in logs at) g) c.in_ok-slots.ensures.logs
    ∙ cut_logs c.args.group c.args.lists.items c.cut_slots.new.lists.items c.cut_slots.ensures at g
