use Rattle.draid_slots.proofs.Tables.{if_ok_passed}
use Rattle.draid_slots.proofs.Mapped.{all_moved, none_left}
use Rattle.std.proofs.Common.{◌≡◌, ◌<◌, ◌∷◌, ◌++◌, [], ℕ, Bool, false, List, map, length, get_or, ap, ◌∙◌, append_assoc, arith}
use Rattle.std.specs.Prelude.{◌==◌, remove}
use Rattle.std.proofs.lemmas.Bool.Decides.{nat_tests}
use Rattle.std.proofs.lemmas.List.{length-append, length-map}
use Rattle.draid_names.specs.declared.arm.Arm.{Arm}
use Rattle.draid_ranges.specs.Numbers.{Numbers}
use Rattle.draid_slots.specs.Table.{arms_in, logs_in}
use Rattle.draid_slots.proofs.slot.slot_of.Goals as goal

-- what is behind other things loses its first, which is put behind them
first_out : {A B : Type 0} (f : A → B) (before : List B) (xs : List A) (x : A) (new : List B) (left : List A) → 0 < length xs → x ≡ get_or xs 0 x → new ≡ before ++ f x ∷ [] → left ≡ remove xs 0 → new ++ map f left ≡ before ++ map f xs
first_out f before [] x new left some is now rest = absurd (omega arith)
first_out f before (y ∷ ys) x new left some is now rest = rw (now, rest) (append_assoc before (f x ∷ []) (map f ys) ∙ ap (λ z. before ++ f z ∷ map f ys) is)

some_left : (n : ℕ) (empty : Bool) → empty ≡ (n == 0) → empty ≡ false → 0 < n
some_left n empty is some = grind (arith, nat_tests)

pub loop-listed-preserved : goal.loop-listed-preserved
loop-listed-preserved c =
    let xs = c.loop-listed.listed.items in
    let x : Arm × Numbers = c.remove-log.result in
    let some : 0 < length xs = (let some = some_left _ _ c.is_empty.ensures c.loop-listed-test.true in omega (arith, c.loop-listed.listed.ok.0)) in
    let value = c.remove-log.ensures.value in
    let left = c.remove-log.ensures.items in
    let was = c.loop-listed.invariant in
    record {
      paired = c.add_arm.ensures.paired;
      arms = first_out (λ (p : Arm × Numbers). p.0) (arms_in c.loop-listed.slot) xs x (arms_in c.add_arm.new.slot) c.remove-log.new.self.items some value c.add_arm.ensures.arms left ∙ was.arms;
      logs = first_out (λ (p : Arm × Numbers). p.1) (logs_in c.loop-listed.slot) xs x (logs_in c.add_arm.new.slot) c.remove-log.new.self.items some value c.add_arm.ensures.logs left ∙ was.logs;
    }

pub add_arm-requires-clause-room : goal.add_arm-requires-clause-room
add_arm-requires-clause-room c =
    let some = some_left _ _ c.is_empty.ensures c.loop-listed-test.true in
    let arms = ap length c.loop-listed.invariant.arms in
    let front = length-append (arms_in c.loop-listed.slot) (map (λ (p : Arm × Numbers). p.0) c.loop-listed.listed.items) in
    let behind = length-map c.loop-listed.listed.items (λ (p : Arm × Numbers). p.0) in
    let whole = length-map c.args.listed.items (λ (p : Arm × Numbers). p.0) in
    omega (arith, c.loop-listed.listed.ok.0)

pub returns-clause-paired : goal.returns-clause-paired
returns-clause-paired c = c.loop-listed.invariant.paired

pub returns-clause-arms : goal.returns-clause-arms
returns-clause-arms c =
    let none = none_left _ _ c.is_empty.ensures c.loop-listed-test.false in
    all_moved (λ (p : Arm × Numbers). p.0) c.loop-listed.listed.items (arms_in c.loop-listed.slot) _ (omega (arith, none, c.loop-listed.listed.ok.0)) c.loop-listed.invariant.arms

pub returns-clause-logs : goal.returns-clause-logs
returns-clause-logs c =
    let none = none_left _ _ c.is_empty.ensures c.loop-listed-test.false in
    all_moved (λ (p : Arm × Numbers). p.1) c.loop-listed.listed.items (logs_in c.loop-listed.slot) _ (omega (arith, none, c.loop-listed.listed.ok.0)) c.loop-listed.invariant.logs

pub add_arm-requires-clause-paired : goal.add_arm-requires-clause-paired
add_arm-requires-clause-paired c = c.loop-listed.invariant.paired

pub remove-log-requires : goal.remove-log-requires
remove-log-requires c = some_left _ _ c.is_empty.ensures c.loop-listed-test.true

pub returns-in_err-slot-clause-paired : goal.returns-in_err-slot-clause-paired
returns-in_err-slot-clause-paired c = if_ok_passed _ c.from_residual.result _ c.from_residual.ensures.1

pub returns-in_err-slot-clause-arms : goal.returns-in_err-slot-clause-arms
returns-in_err-slot-clause-arms c = if_ok_passed _ c.from_residual.result _ c.from_residual.ensures.1

pub returns-in_err-slot-clause-logs : goal.returns-in_err-slot-clause-logs
returns-in_err-slot-clause-logs c = if_ok_passed _ c.from_residual.result _ c.from_residual.ensures.1
