use Rattle.std.proofs.Common.{◌≡◌, ◌+◌, ◌++◌, ◌∙◌, ℕ, Bool, List, add-one, ap, refl, sym, arith}
use Rattle.std.specs.List.{filter}
use Rattle.std.proofs.lemmas.List.Elements.{filter-append}
use Rattle.draid_machine.specs.Arms.{arms_below, is_target}
use Rattle.draid_machine.specs.declared.names.ArmName.{ArmName}
use Rattle.draid_world.specs.World.{core_of, site_layout}
use Rattle.draid_passes.proofs.targets.targets_of.Goals as goal

below_next : (order : ℕ → List ArmName) (slot : ℕ) → arms_below order (slot + 1) ≡ arms_below order slot ++ order slot
below_next order slot = rw add-one refl

pub loop-slot-preserved : goal.loop-slot-preserved
loop-slot-preserved c =
    let order = (core_of c.args.tables.now).order in
    let slot = c.loop-slot.slot in
    let test : ArmName → Bool = is_target (site_layout c.args.site.now) (core_of c.args.tables.now) c.args.kind in
    c.in_ok-add_targets.ensures ∙ ap (λ xs. xs ++ filter test (order slot)) c.loop-slot.invariant
    ∙ sym (ap (filter test) (below_next order slot) ∙ filter-append test (arms_below order slot) (order slot))

pub loop-slot-init : goal.loop-slot-init
loop-slot-init c = c.new-targets.ensures.items

pub returns : goal.returns
returns c =
    let l = site_layout c.args.site.now in
    let end : c.loop-slot.slot ≡ l.slots = (let upto = c.loop-slot.auto.slot-end in let past = c.loop-slot-test.false in omega (arith, upto, past)) in
    c.loop-slot.invariant ∙ ap (λ n. filter (is_target l (core_of c.args.tables.now) c.args.kind) (arms_below (core_of c.args.tables.now).order n)) end
