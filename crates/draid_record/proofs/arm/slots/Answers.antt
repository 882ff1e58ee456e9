use Rattle.std.proofs.Common.{◌≡◌, ◌≤◌, ◌∙◌, ◌∷◌, ◌++◌, [], List, false, length, ap, subst, sym, arith, rules}
use Rattle.std.specs.Prelude.{is_err}
use Rattle.std.proofs.lemmas.List.{length-map, map_push}
use Rattle.std.proofs.lemmas.List.Elements.{All-append}
use Rattle.draid_record.specs.Reader.{Reads, state_of}
use Rattle.draid_record.specs.Record as spec
use Rattle.draid_record.specs.Record.{ArmTold, told_arm, told_slot, told_slots}
use Rattle.draid_record.proofs.Loop.{begins, ends, goes_on, is_done}
use Rattle.draid_record.proofs.Within.{one}
use Rattle.draid_record.proofs.arm.slots.Goals as goal

pub loop-init : goal.loop-init
loop-init c =
    let begun : told_slots c.new-slots.result.items ≡ [] = ap told_slots c.new-slots.ensures.items in
    record {
      still = rw begun (begins (spec.slot c.args.limits.now) spec.with_last [] c.args.limits.now.children (state_of c.args.reader.now));
      few = rw begun (search rules);
    }

pub returns-then-has_failed-clause-slots : goal.returns-then-has_failed-clause-slots
returns-then-has_failed-clause-slots c =
    let limits = c.args.limits.now in
    let front = told_slots c.loop.slots.items in
    let x : List ArmTold = told_slot c.in_ok-slot.slot.items in
    let b = state_of c.slot.new.reader in
    let B : List (List ArmTold) → Type 0 = λ before. Reads (state_of c.loop.reader) b x (spec.slot limits before) in
    ends (spec.slot limits) spec.with_last front front front limits.children c.loop.counter (state_of c.args.reader.now) (state_of c.loop.reader) b x (spec.slots limits)
    c.loop-test.true (subst B (ap told_slots c.deref.ensures.value) c.in_ok-slot.ensures.slot) (sym c.has_failed.ensures ∙ c.if-has_failed.true) c.loop.invariant.still

pub loop-preserved : goal.loop-preserved
loop-preserved c =
    let limits = c.args.limits.now in
    let front = told_slots c.loop.slots.items in
    let x : List ArmTold = told_slot c.in_ok-slot.slot.items in
    let b = state_of c.slot.new.reader in
    let ok : is_err b ≡ false = sym c.has_failed.ensures ∙ c.if-has_failed.false in
    let e : told_slots c.push.new.self.items ≡ front ++ x ∷ [] = rw c.in_ok-push.ensures.items (map_push _ c.loop.slots.items c.in_ok-slot.slot) in
    let B : List (List ArmTold) → Type 0 = λ before. Reads (state_of c.loop.reader) b x (spec.slot limits before) in
    let P : List ArmTold → Type 0 = λ list. length list ≤ 3 in
    record {
      few = rw e (All-append P front (x ∷ []) c.loop.invariant.few (one P x (let few = c.in_ok-slot.ensures.few in omega (arith, few, length-map c.in_ok-slot.slot.items told_arm))));
      still = rw e (goes_on (spec.slot limits) spec.with_last front front limits.children c.loop.counter (state_of c.args.reader.now) (state_of c.loop.reader) b x (spec.slots limits) c.loop-test.true
          (subst B (ap told_slots c.deref.ensures.value) c.in_ok-slot.ensures.slot) ok c.loop.invariant.still);
    }

pub returns-clause-slots : goal.returns-clause-slots
returns-clause-slots c = is_done (spec.slot c.args.limits.now) spec.with_last (told_slots c.loop.slots.items) (told_slots c.loop.slots.items) c.args.limits.now.children c.loop.counter (state_of c.args.reader.now) (state_of c.loop.reader) (spec.slots c.args.limits.now) c.loop-test.false c.loop.invariant.still
