use Rattle.std.proofs.Common.{◌≡◌, ◌<◌, length, arith, sym, ◌∙◌, subst}
use Rattle.draid_perm.specs.Perms.{children_of}
use Rattle.draid_slots.specs.Table.{SlotTable}
use Rattle.draid_slots.proofs.Lasting.{flags_say, lies_moved, moved_lies, moved_more}
use Rattle.draid_slots.proofs.slots.Slots.moved_since.Goals as goal

pub returns : goal.returns
returns c = λ old same many were spare.
    let t : SlotTable = c.args.self.now in
    let s = c.self.inside in
    let sound = c.self.invariant.sound in
    let now = c.places-now.result in
    let M : SlotTable → Type 0 = λ t. children_of t.perms ≡ length t.arms in
    let children : children_of t.perms ≡ length t.arms = subst M c.self.view_is (sound.layout.perms_are.children ∙ sym sound.slots.children) in
    let flags = flags_say c.args.before.now now t c.loop-spare.moved.spares c.loop-spare.spare spare c.loop-spare.invariant (λ lies.
    let N : SlotTable → Type 0 = λ t. spare < t.geometry.spec.spares in
    let below : spare < s.geometry.spec.spares = subst N (sym c.self.view_is) (c.places-now.ensures.arms lies.slot spare lies.arm_is).spare_is in
    omega arith) in (
      (λ h. lies_moved old t c.args.before.now now spare same were c.places-now.ensures.places (children ∙ sym many) children (flags.0 h)),
      (λ moved. flags.1 (moved_lies old t c.args.before.now now spare same were c.places-now.ensures.places (children ∙ sym many) children moved)),
    )

pub loop-spare-preserved : goal.loop-spare-preserved
loop-spare-preserved c =
    let few = c.self.invariant.sound.layout.geometry_is.spec.most_spares in
    let within : c.loop-spare.spare < 4 = omega arith in
    moved_more c.args.before.now c.places-now.result c.args.self.now c.loop-spare.moved.spares c.loop-spare.spare c.moves.result within c.loop-spare.invariant c.moves.ensures.moves c.moves.ensures.stays

pub moves-requires-clause-before : goal.moves-requires-clause-before
moves-requires-clause-before c = c.requires.used

pub moves-requires-clause-before_arm : goal.moves-requires-clause-before_arm
moves-requires-clause-before_arm c = λ slot. c.requires.arm slot c.loop-spare.spare

pub moves-requires-clause-before_past : goal.moves-requires-clause-before_past
moves-requires-clause-before_past c = c.requires.past

pub moves-requires-clause-now : goal.moves-requires-clause-now
moves-requires-clause-now c = c.places-now.ensures.used

pub moves-requires-clause-now_arm : goal.moves-requires-clause-now_arm
moves-requires-clause-now_arm c = λ slot. c.places-now.ensures.arms slot c.loop-spare.spare

pub moves-requires-clause-now_past : goal.moves-requires-clause-now_past
moves-requires-clause-now_past c = c.places-now.ensures.past
