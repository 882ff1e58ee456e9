use Rattle.std.proofs.Common.{◌≡◌, ◌<◌, ◌∙◌, ℕ, Bool, List, Some, ap, arith, length, slice_get, subst, sym, true}
use Rattle.std.specs.Prelude.{IfSome, slice_index_or}
use Rattle.std.proofs.lemmas.List.{length-set}
use Rattle.std.proofs.lemmas.Option.{slice_get-get_or}
use Rattle.draid_machine.proofs.Small.{some_same}
use Rattle.draid_names.specs.declared.arm.ArmAt.{ArmAt}
use Rattle.draid_spec.specs.declared.layout.Geometry.{Geometry}
use Rattle.draid_map.specs.Place.{IsLayout}
use Rattle.draid_shard.specs.Part.{layout_in}
use Rattle.draid_shard.specs.States.{part_of}
use Rattle.draid_mend.specs.Aiming.{AreAimed, IsColumnOn}
use Rattle.draid_mend.proofs.Aimed.{aims_more, aims_past, column_is, few_columns, front_inside, slot_there}
use Rattle.draid_mend.proofs.aiming.aimed_columns.Goals.{in-Some, in_default}
use Rattle.draid_mend.proofs.aiming.aimed_columns.Goals as goal

abbrev none : ArmAt
none = record { slot = 0; arm = 0 }

pub column_on-requires : goal.column_on-requires
column_on-requires g c =
    let same = c.geometry-geometry.ensures.geometry ∙ c.requires.slots in
    let part = part_of c.args.shard.now in
    let at : ArmAt = slice_index_or c.args.targets.now c.loop-i.i none in
    let there : slice_get c.args.targets.now c.loop-i.i ≡ Some at = slice_get-get_or c.args.targets.now c.loop-i.i none c.loop-i-test.true in
    record {
      layout = subst (λ (geometry : Geometry). IsLayout geometry c.args.shard.now.perms) (sym same) c.requires.part.layout;
      front = subst (λ (geometry : Geometry). c.front_of-front.result.position < geometry.ndisks) (sym same) (front_inside part c.requires.part c.args.pointer.now.first c.front_of-front.result c.front_of-front.ensures);
      slot = subst (λ (geometry : Geometry). at.slot < geometry.spec.children) (sym c.geometry-geometry.ensures.geometry) (slot_there c.args.shard.now.slots at c.geometry-geometry.ensures.sound (c.requires.there c.loop-i.i at there));
    }

pub loop-i-preserved : goal.loop-i-preserved
loop-i-preserved g c =
    let i = c.loop-i.invariant in
    let part = part_of c.args.shard.now in
    let first : ℕ = c.args.pointer.now.first in
    let front = c.front_of-front.result in
    let at : ArmAt = slice_index_or c.args.targets.now c.loop-i.i none in
    let there : slice_get c.args.targets.now c.loop-i.i ≡ Some at = slice_get-get_or c.args.targets.now c.loop-i.i none c.loop-i-test.true in
    let same = c.geometry-geometry.ensures.geometry ∙ c.requires.slots in
    let only : (column : ℕ) → column < part.geometry.g → (layout_in part).slot_of first column ≡ at.slot → c.column_on.result ≡ Some column
    = λ column below is. c.column_on.ensures.only column (subst (λ (geometry : Geometry). IsColumnOn geometry part.perms front at.slot column) (sym same) (column_is part first front at.slot column c.front_of-front.ensures below is)) in
    elim c.match-column_on.branch [
      | in-Some w ↦ (
          let on : IsColumnOn c.geometry-geometry.result.now part.perms front at.slot w.in-Some.column = subst (λ o. IfSome o (IsColumnOn c.geometry-geometry.result.now part.perms front at.slot)) w.in-Some.is c.column_on.ensures.some in
          let below : w.in-Some.column < part.geometry.g = subst (λ (geometry : Geometry). w.in-Some.column < geometry.g) same on.below in
          let inside : w.in-Some.column < length c.loop-i.marks = (let most = few_columns part c.requires.part in let long = i.long in omega (arith, below, most, long)) in
          record {
            long = ap (λ (marks : List Bool). length marks) w.marks-is ∙ length-set c.loop-i.marks w.in-Some.column true ∙ i.long;
            aimed = aims_more part first c.args.targets.now c.loop-i.i at there c.loop-i.marks i.aimed w.in-Some.column inside
                (λ column low is. some_same c.column_on.result column w.in-Some.column (only column low is) w.in-Some.is) c.match-column_on.marks w.marks-is;
          })
      | in_default w ↦ record {
        long = ap (λ (marks : List Bool). length marks) w.marks-is ∙ i.long;
        aimed = aims_past part first c.args.targets.now c.loop-i.i at there c.loop-i.marks i.aimed (λ column low is. absurd (cc (only column low is, w.in_default.is))) c.match-column_on.marks w.marks-is;
      }
    ]

pub returns-clause-aimed : goal.returns-clause-aimed
returns-clause-aimed g c =
    let past = c.loop-i-test.false in
    let upto = c.loop-i.auto.i-end in
    let all : c.loop-i.i ≡ length c.args.targets.now = omega (arith, past, upto) in
    subst (λ n. AreAimed (part_of c.args.shard.now) c.args.pointer.now.first c.args.targets.now n c.loop-i.marks) all c.loop-i.invariant.aimed
