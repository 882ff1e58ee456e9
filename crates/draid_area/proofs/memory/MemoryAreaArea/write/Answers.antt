use Rattle.std.proofs.Common.{arith, rules, refl, ap, ◌∙◌, ◌∷◌, [], length}
use Rattle.std.proofs.lemmas.Slice.{pushed}
use Rattle.draid_area.specs.Cells.{covers}
use Rattle.draid_names.specs.declared.fault.DeviceFault.TheVariants.{NoMemory}
use Rattle.draid_area.proofs.Clocks.{bytes_written, clocks_early, clocks_marked, clocks_written, covers_more, marks_longer, marks_same, marks_written, told_tears, told_waits, writes_all, writes_none, writes_torn}
use Rattle.draid_area.proofs.Sound.{sound_unwritten, sound_written}
use Rattle.draid_area.proofs.Moments.{elapsed_writes}
use Rattle.draid_area.proofs.memory.MemoryAreaArea.write.Goals as goal

pub returns-then-fails-clause-torn : goal.returns-then-fails-clause-torn
returns-then-fails-clause-torn c = λ e.
    told_tears c.args.self.now.bytes.items _ _ c.args.self.now.torn.items _ c.args.self.now.since.items _ c.args.self.now.clock _ c.args.at (length c.args.bytes.now) _ c.requires.place (search rules)
    (λ i. c.mark.ensures.here i _) (λ i. c.mark-then-fails.ensures.here i _) c.later-self.ensures

pub returns-then-fails-clause-told : goal.returns-then-fails-clause-told
returns-then-fails-clause-told c = writes_torn _ _ _ _ _ c.requires.place (returns-then-fails-clause-torn c refl)

pub returns-then-fails-clause-moments : goal.returns-then-fails-clause-moments
returns-then-fails-clause-moments c = elapsed_writes _ _ _ _ _ (returns-then-fails-clause-told c)

pub returns-in_err-make_room-clause-waits : goal.returns-in_err-make_room-clause-waits
returns-in_err-make_room-clause-waits c = λ e. told_waits c.args.self.now.bytes.items _ _ c.args.self.now.unflushed.items _ c.args.self.now.torn.items _ c.args.self.now.since.items _ c.args.self.now.clock _ refl c.make_room.ensures.spans c.make_room.ensures.marks c.make_room.ensures.clocks c.later-self.ensures

pub returns-in_err-make_room-clause-told : goal.returns-in_err-make_room-clause-told
returns-in_err-make_room-clause-told c = writes_none _ _ _ _ NoMemory _ (search rules) c.requires.place (told_waits c.args.self.now.bytes.items _ _ c.args.self.now.unflushed.items _ c.args.self.now.torn.items _ c.args.self.now.since.items _ c.args.self.now.clock _ refl c.make_room.ensures.spans c.make_room.ensures.marks c.make_room.ensures.clocks c.later-self.ensures)

pub returns-in_err-make_room-clause-moments : goal.returns-in_err-make_room-clause-moments
returns-in_err-make_room-clause-moments c = elapsed_writes _ _ _ _ _ (returns-in_err-make_room-clause-told c)

pub returns-in_err-lengthen-clause-waits : goal.returns-in_err-lengthen-clause-waits
returns-in_err-lengthen-clause-waits c = λ e. told_waits c.args.self.now.bytes.items _ _ c.args.self.now.unflushed.items _ c.args.self.now.torn.items _ c.args.self.now.since.items _ c.args.self.now.clock _ c.in_err-lengthen.ensures.err c.make_room.ensures.spans c.make_room.ensures.marks c.make_room.ensures.clocks c.later-self.ensures

pub returns-in_err-lengthen-clause-told : goal.returns-in_err-lengthen-clause-told
returns-in_err-lengthen-clause-told c = writes_none _ _ _ _ NoMemory _ (search rules) c.requires.place (told_waits c.args.self.now.bytes.items _ _ c.args.self.now.unflushed.items _ c.args.self.now.torn.items _ c.args.self.now.since.items _ c.args.self.now.clock _ c.in_err-lengthen.ensures.err c.make_room.ensures.spans c.make_room.ensures.marks c.make_room.ensures.clocks c.later-self.ensures)

pub returns-in_err-lengthen-clause-moments : goal.returns-in_err-lengthen-clause-moments
returns-in_err-lengthen-clause-moments c = elapsed_writes _ _ _ _ _ (returns-in_err-lengthen-clause-told c)

pub returns-in_err-lengthen-clause-flushed : goal.returns-in_err-lengthen-clause-flushed
returns-in_err-lengthen-clause-flushed c = c.lengthen.ensures.same

pub invariant_of-self-2 : goal.invariant_of-self-2
invariant_of-self-2 c = record {
  orderly = clocks_marked c.args.self.now.since.items _ c.args.at (length c.args.bytes.now) c.args.self.now.clock _ c.later-self.ensures
      (clocks_written c.args.self.now.since.items _ _ _ _ c.args.self.now.clock _ c.make_room.ensures.clocks (λ i. c.mark-2.ensures.here i _) c.later-self.ensures) c.args.self.now.orderly;
  sound = sound_written c.args.self.now.bytes.items _ c.args.self.now.flushed.items _ c.args.bytes.now _ c.args.at c.args.self.now.unflushed.items _ _ c.requires.place refl refl
      (bytes_written _ _ _ _ _ c.requires.place c.in_ok-lengthen.ensures.bytes c.overwrite.ensures) c.in_ok-lengthen.ensures.flushed
      (pushed (_ ∷ []) c.make_room.ensures.spans c.unwrap.ensures c.push.ensures.items) c.args.self.now.sound;
  marked = marks_written c.args.self.now.bytes.items _ c.args.bytes.now c.args.self.now.torn.items _ c.args.self.now.since.items _ _ c.args.at c.requires.place
      (bytes_written _ _ _ _ _ c.requires.place c.in_ok-lengthen.ensures.bytes c.overwrite.ensures) c.make_room.ensures.marks_kept c.make_room.ensures.clocks_kept
      (search rules) (search rules) c.mark-2.ensures.long c.args.self.now.marked;
}

pub returns-clause-told : goal.returns-clause-told
returns-clause-told c = writes_all _ _ _ _ _ _ _ _ _ _ _ _ _ c.requires.place
    (bytes_written _ _ _ _ _ c.requires.place c.in_ok-lengthen.ensures.bytes c.overwrite.ensures)
    (λ i. ap (λ s. covers s i) (pushed (_ ∷ []) c.make_room.ensures.spans c.unwrap.ensures c.push.ensures.items) ∙ covers_more _ _ i)
    c.make_room.ensures.marks
    (clocks_written c.args.self.now.since.items _ _ _ _ c.args.self.now.clock _ c.make_room.ensures.clocks (λ i. c.mark-2.ensures.here i _) c.later-self.ensures)
    c.later-self.ensures

pub returns-clause-moments : goal.returns-clause-moments
returns-clause-moments c = elapsed_writes _ _ _ _ _ (returns-clause-told c)

pub returns-clause-flushed : goal.returns-clause-flushed
returns-clause-flushed c = c.lengthen.ensures.same

pub invariant_of-self : goal.invariant_of-self
invariant_of-self c = record {
  orderly = clocks_marked c.args.self.now.since.items _ c.args.at _ c.args.self.now.clock _ c.later-self.ensures
      (clocks_written c.args.self.now.since.items c.args.self.now.since.items _ _ _ c.args.self.now.clock _ (λ i. refl) (λ i. c.mark-then-fails.ensures.here i _) c.later-self.ensures) c.args.self.now.orderly;
  sound = c.args.self.now.sound;
  marked = marks_longer c.args.self.now.bytes.items _ _ _ _ (omega (arith, c.mark.ensures.long)) (omega (arith, c.mark-then-fails.ensures.long)) c.args.self.now.marked;
}

pub invariant_of-self-in-Break-1 : goal.invariant_of-self-in-Break-1
invariant_of-self-in-Break-1 c = record {
  orderly = clocks_early c.args.self.now.since.items _ c.args.self.now.clock _ c.later-self.ensures c.make_room.ensures.clocks c.args.self.now.orderly;
  sound = rw c.make_room.ensures.spans c.args.self.now.sound;
  marked = marks_longer c.args.self.now.bytes.items _ _ _ _ c.make_room.ensures.marks_kept c.make_room.ensures.clocks_kept c.args.self.now.marked;
}

pub invariant_of-self-in-Break-branch-2 : goal.invariant_of-self-in-Break-branch-2
invariant_of-self-in-Break-branch-2 c = record {
  orderly = clocks_early c.args.self.now.since.items _ c.args.self.now.clock _ c.later-self.ensures c.make_room.ensures.clocks c.args.self.now.orderly;
  sound = sound_unwritten c.args.self.now.bytes.items _ c.args.self.now.flushed.items _ c.args.self.now.firm c.args.self.now.unflushed.items _ c.in_err-lengthen.ensures.err c.lengthen.ensures.same c.lengthen.ensures.kept c.make_room.ensures.spans c.args.self.now.sound;
  marked = marks_same c.args.self.now.bytes.items _ _ _ _ _ c.in_err-lengthen.ensures.err c.make_room.ensures.marks_kept c.make_room.ensures.clocks_kept c.args.self.now.marked;
}
