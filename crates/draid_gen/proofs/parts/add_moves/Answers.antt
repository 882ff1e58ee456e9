use Rattle.std.proofs.Common.{◌∷◌, ◌++◌, [], codes, None}
use Rattle.draid_script.specs.Line.{TakeOffline, RebuildPool, ScrubPool, ReplaceDisk, RebalanceSlot}
use Rattle.draid_gen.specs.Workload.{Outside, of_child, spare}
use Rattle.draid_gen.proofs.Lines.{adds_more}
use Rattle.draid_gen.proofs.parts.add_moves.Goals as goal

pub returns : goal.returns
returns c =
    let child = c.args.child in
    let offline = of_child (codes "offline") child (TakeOffline child) in
    let passes = Outside (codes "rebuild") (RebuildPool None) ∷ Outside (codes "scrub") (ScrubPool None) ∷ [] in
    let replace = of_child (codes "replace") child (ReplaceDisk child None) in
    let rebalance = of_child (codes "rebalance") child (RebalanceSlot child) in
    let two = adds_more _ _ _ (offline ∷ []) (spare child ∷ []) (c.in_ok-add_of_child.ensures (TakeOffline child)) c.in_ok-add_spare.ensures in
    let four = adds_more _ _ _ (offline ∷ spare child ∷ []) passes two c.in_ok-push_str.ensures.bytes in
    let five = adds_more _ _ _ (offline ∷ spare child ∷ passes) (replace ∷ []) four (c.in_ok-add_of_child-2.ensures (ReplaceDisk child None)) in
    adds_more _ _ _ (offline ∷ spare child ∷ (passes ++ replace ∷ [])) (rebalance ∷ []) five (c.in_ok-add_of_child-3.ensures (RebalanceSlot child))
