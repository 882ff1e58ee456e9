use Rattle.std.proofs.Common.{◌≡◌, ◌+◌, ◌∙◌, not, ℕ, true, false, [], List, Option, Some, None, Vec, Global, IfNone, IfSome, arith, refl, subst, sym, ap}
use Rattle.std.specs.Prelude.{is_some}
use Rattle.draid_machine.proofs.Small.{absurd_test}
use Rattle.draid_slots.specs.Table.{SlotTable, holds_spare}
use Rattle.draid_changes.specs.Dues.{AreFree, IsIdleIn}
use Rattle.draid_changes.proofs.Frees.{free_more, free_none, free_skip}
use Rattle.draid_changes.proofs.dues.free_spares.Goals as goal
use Rattle.draid_changes.proofs.dues.free_spares.Goals.{then-is_none+in_ok-push, else-is_none}

-- no slot has it
idle_then : (slots : SlotTable) (spare : ℕ) (o : Option ℕ) → IfNone o ((slot : ℕ) → holds_spare slots spare slot ≡ false) → is_some o ≡ false → IsIdleIn slots spare
idle_then slots spare None none is = none
idle_then slots spare (Some slot) none is = absurd_test true refl is

busy_then : (slots : SlotTable) (spare : ℕ) (o : Option ℕ) → IfSome o (λ slot. holds_spare slots spare slot ≡ true) → is_some o ≡ true → IsIdleIn slots spare → ⊥
busy_then slots spare None some is idle = absurd_test false is refl
busy_then slots spare (Some slot) some is idle = absurd_test (holds_spare slots spare slot) some (idle slot)

pub loop-spare-init : goal.loop-spare-init
loop-spare-init c = subst (λ (free : List ℕ). AreFree (IsIdleIn c.args.slots.now) [] 0 free) (sym c.new-free.ensures.items) (free_none (IsIdleIn c.args.slots.now) [])

pub loop-spare-preserved : goal.loop-spare-preserved
loop-spare-preserved c = elim c.if-is_none.branch [
  | then-is_none+in_ok-push w ↦
      subst (λ (free : List ℕ). AreFree (IsIdleIn c.args.slots.now) [] (c.loop-spare.spare + 1) free) (sym (ap (λ (v : Vec ℕ Global). v.items) w.free-is ∙ w.in_ok-push.ensures.items))
      (free_more (IsIdleIn c.args.slots.now) c.loop-spare.spare c.loop-spare.free.items (idle_then c.args.slots.now c.loop-spare.spare c.busy.result c.busy.ensures.none (c.is_none.ensures ∙ ap not w.if-is_none.true)) c.loop-spare.invariant)
  | else-is_none w ↦
      subst (λ (free : List ℕ). AreFree (IsIdleIn c.args.slots.now) [] (c.loop-spare.spare + 1) free) (sym (ap (λ (v : Vec ℕ Global). v.items) w.free-is))
      (free_skip (IsIdleIn c.args.slots.now) c.loop-spare.spare c.loop-spare.free.items (busy_then c.args.slots.now c.loop-spare.spare c.busy.result c.busy.ensures.holds (c.is_none.ensures ∙ ap not w.if-is_none.false)) c.loop-spare.invariant)
]

pub returns : goal.returns
returns c =
    let l = c.loop-spare in
    let past = c.loop-spare-test.false in
    let most = l.auto.spare-end in
    let count = ap (λ g. g.spec.spares) c.geometry.ensures.geometry in
    let end : l.spare ≡ c.args.slots.now.geometry.spec.spares = omega (arith, past, most, count) in
    subst (λ n. AreFree (IsIdleIn c.args.slots.now) [] n l.free.items) end l.invariant
