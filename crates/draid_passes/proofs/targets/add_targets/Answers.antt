use Rattle.std.proofs.Common.{◌∷◌, ◌++◌, ◌∙◌, [], Bool, get_or, take, ap, sym, append_assoc}
use Rattle.std.specs.List.{filter}
use Rattle.std.specs.Prelude.{cond}
use Rattle.std.proofs.lemmas.List.{append-nil, take_all}
use Rattle.std.proofs.lemmas.List.Elements.{filter_more}
use Rattle.draid_machine.specs.Arms.{is_target}
use Rattle.draid_machine.specs.declared.names.ArmName.{ArmName}
use Rattle.draid_machine.specs.declared.names.ArmName.TheVariants.{Leaf}
use Rattle.draid_world.specs.World.{core_of, site_layout, names_at}
use Rattle.draid_passes.proofs.targets.add_targets.Goals as goal
use Rattle.draid_passes.proofs.targets.add_targets.Goals.{then-is_target+in_ok-push, else-is_target}

pub loop-name-preserved : goal.loop-name-preserved
loop-name-preserved c =
    let names = c.names_of-names.result.now in
    let old = c.args.targets.now.items in
    let at = c.loop-name.name-index in
    let test : ArmName → Bool = is_target (site_layout c.args.site.now) (core_of c.args.tables.now) c.args.kind in
    let x : ArmName = get_or names at (Leaf 0) in
    let more = filter_more test names at (Leaf 0) c.loop-name-test.true in
    elim c.if-is_target.branch [
      | then-is_target+in_ok-push w ↦
          ap (λ v. v.items) w.targets-is ∙ w.in_ok-push.ensures.items ∙ ap (λ xs. xs ++ x ∷ []) c.loop-name.invariant
          ∙ append_assoc old (filter test (take at names)) (x ∷ [])
          ∙ ap (λ xs. old ++ xs) (sym (more ∙ ap (λ b. filter test (take at names) ++ cond b (x ∷ []) []) (sym w.if-is_target.ensures)))
      | else-is_target w ↦
          ap (λ v. v.items) w.targets-is ∙ c.loop-name.invariant
          ∙ ap (λ xs. old ++ xs) (sym (more ∙ ap (λ b. filter test (take at names) ++ cond b (x ∷ []) []) (sym w.if-is_target.ensures) ∙ append-nil (filter test (take at names))))
    ]

pub loop-name-init : goal.loop-name-init
loop-name-init c = sym (append-nil c.args.targets.now.items)

pub returns : goal.returns
returns c =
    let old = c.args.targets.now.items in
    let test : ArmName → Bool = is_target (site_layout c.args.site.now) (core_of c.args.tables.now) c.args.kind in
    c.loop-name.invariant
    ∙ ap (λ xs. old ++ filter test xs)
    (take_all c.loop-name.name-index c.names_of-names.result.now c.loop-name-test.false ∙ c.names_of-names.ensures ∙ ap (λ vs. names_at vs c.args.slot) c.deref.ensures.value)
