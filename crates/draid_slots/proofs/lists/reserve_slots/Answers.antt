use Rattle.draid_slots.proofs.Tables.{on_ok_passed}
use Rattle.std.proofs.Common.{◌≡◌, ◌<◌, ◌+◌, List, map, length, arith, ap, sym, ◌∙◌, subst, refl}
use Rattle.std.proofs.lemmas.List.{map-set, length-map}
use Rattle.std.proofs.lemmas.List.Elements.{All-set}
use Rattle.draid_ranges.specs.Numbers.{Numbers}
use Rattle.draid_slots.specs.declared.slot.Slot.{Slot}
use Rattle.draid_slots.specs.Changes.{AreAllGrown, AreGrown, AreReserved}
use Rattle.draid_slots.specs.Table.{IsPaired, arms_in, logs_in}
use Rattle.draid_slots.proofs.OneSlot.{arms_kept, logs_found, grown_more, reserved_more}
use Rattle.draid_slots.proofs.lists.reserve_slots.Goals as goal

pub returns-in_err-reserve_logs-clause-arms : goal.returns-in_err-reserve_logs-clause-arms
returns-in_err-reserve_logs-clause-arms c =
    arms_kept c.loop-at.slots.items c.loop-at.at c.index_mut.result.now _ c.index_mut.ensures.value refl ∙ c.loop-at.invariant.arms

pub returns-in_err-reserve_logs-clause-logs : goal.returns-in_err-reserve_logs-clause-logs
returns-in_err-reserve_logs-clause-logs c =
    let slots = c.loop-at.slots.items in
    let old : Slot = c.index_mut.result.now in
    let logs = c.reserve_logs.new.logs in
    let new : Slot = record { arms = old.arms; logs = logs } in
    let many : length slots ≡ length c.args.slots.now.items = sym (length-map slots arms_in) ∙ ap length c.loop-at.invariant.arms ∙ length-map c.args.slots.now.items arms_in in
    let below : c.loop-at.at < length slots = omega arith in
    let within : c.loop-at.at < length (map logs_in slots) = omega (arith, length-map slots logs_in) in
    let G : List (List Numbers) → Type 0 = λ all. AreAllGrown (map logs_in c.args.slots.now.items) all in
    let O : List Numbers → Type 0 = λ from. AreGrown from logs.items 0 0 in
    subst G (sym (map-set logs_in slots c.loop-at.at new))
    (grown_more _ (map logs_in slots) c.loop-at.at 0 0 logs.items within c.loop-at.invariant.logs
    (subst O (sym (logs_found slots c.loop-at.at old below c.index_mut.ensures.value)) c.in_err-reserve_logs.ensures.grown))

pub loop-at-preserved : goal.loop-at-preserved
loop-at-preserved c =
    let slots = c.loop-at.slots.items in
    let old : Slot = c.index_mut.result.now in
    let logs = c.reserve_logs.new.logs in
    let new : Slot = record { arms = old.arms; logs = logs } in
    let many : length slots ≡ length c.args.slots.now.items = sym (length-map slots arms_in) ∙ ap length c.loop-at.invariant.arms ∙ length-map c.args.slots.now.items arms_in in
    let below : c.loop-at.at < length slots = omega arith in
    let within : c.loop-at.at < length (map logs_in slots) = omega (arith, length-map slots logs_in) in
    let found = logs_found slots c.loop-at.at old below c.index_mut.ensures.value in
    let G : List (List Numbers) → Type 0 = λ all. AreAllGrown (map logs_in c.args.slots.now.items) all in
    let R : List (List Numbers) → Type 0 = λ all. AreReserved all (c.loop-at.at + 1) c.args.changes in
    let O : List Numbers → Type 0 = λ from. AreGrown from logs.items 0 0 in
    let grown = c.in_ok-reserve_logs.ensures.reserved in
    let was : IsPaired old = subst IsPaired (sym c.index_mut.ensures.value) (c.loop-at.invariant.paired c.loop-at.at old below) in
    record {
      paired = All-set IsPaired slots c.loop-at.at new
          (record { same = grown.len ∙ was.same; arm_room = was.arm_room; log_room = (let room = was.log_room in let kept = c.reserve_logs.ensures.capacity in omega arith) })
          c.loop-at.invariant.paired;
      arms = arms_kept slots c.loop-at.at old new c.index_mut.ensures.value refl ∙ c.loop-at.invariant.arms;
      logs = subst G (sym (map-set logs_in slots c.loop-at.at new))
          (grown_more _ (map logs_in slots) c.loop-at.at 0 0 logs.items within c.loop-at.invariant.logs
          (subst O (sym found) c.in_ok-reserve_logs.ensures.grown));
      reserved = subst R (sym (map-set logs_in slots c.loop-at.at new))
          (reserved_more (map logs_in slots) c.loop-at.at c.args.changes logs.items within c.loop-at.invariant.reserved
          (λ k l. grown.reserved k (let len = grown.len in omega arith)));
    }

pub returns-in_err-reserve_logs-clause-reserved : goal.returns-in_err-reserve_logs-clause-reserved
returns-in_err-reserve_logs-clause-reserved c = on_ok_passed _ c.from_residual.result _ c.from_residual.ensures.1

pub returns-clause-paired : goal.returns-clause-paired
returns-clause-paired c = c.loop-at.invariant.paired

pub returns-clause-arms : goal.returns-clause-arms
returns-clause-arms c = c.loop-at.invariant.arms

pub returns-clause-logs : goal.returns-clause-logs
returns-clause-logs c = c.loop-at.invariant.logs
