use Rattle.std.proofs.Common.{◌≡◌, ◌∷◌, [], List, length, ap, sym, ◌∙◌, arith}
use Rattle.draid_ranges.specs.declared.run.Run.{Run}
use Rattle.std.specs.Prelude.{◌==◌}
use Rattle.std.proofs.Common.{refl}
use Rattle.std.proofs.lemmas.Bool.{eqb-true}
use Rattle.std.proofs.lemmas.Bool.Decides.{nat_tests}
use Rattle.std.proofs.lemmas.List.{nil_from_length}
use Rattle.draid_record.specs.Record as spec
use Rattle.draid_record.specs.Record.{told_arm, told_slot, told_slots, told_pass, ArmTold, PassTold, RecordTold}
use Rattle.draid_record.proofs.block.are_spaces.Goals as goal

nothing_left : (runs : List Run) → (length runs == 0) ≡ spec.same_runs runs []
nothing_left [] = refl
nothing_left (r ∷ rs) = grind (arith, nat_tests)

pub returns-then-is_empty : goal.returns-then-is_empty
returns-then-is_empty c =
    let none : c.args.blocks.now ≡ [] = nil_from_length c.args.blocks.now (eqb-true _ _ (sym c.is_empty.ensures ∙ c.if-is_empty.true)) in
    c.is_empty-then-is_empty.ensures ∙ nothing_left c.args.runs.now ∙ ap (λ bs. spec.same_runs c.args.runs.now (spec.spaces_of bs)) (sym none)
