use Rattle.std.proofs.Common.{rules, Some, ap, ◌∙◌, length}
use Rattle.draid_area.specs.Area.{begins}
use Rattle.draid_shelf.proofs.Holdings.{made_area}
use Rattle.draid_shelf.proofs.places.area_of.Goals as goal

pub returns : goal.returns
returns c =
    let e = c.in_ok-area.ensures in
    c.in_ok-fuse_new_area.ensures _ _
    (made_area _ _ c.in_ok-area.area (record { next = e.next; list = e.failing ∙ c.in_ok-numbers.ensures; fuse = e.fused }) (e.told ∙ ap (λ b. Some (begins b)) (search rules)) (e.size ∙ ap (λ b. length b) (search rules)) e.faults)
