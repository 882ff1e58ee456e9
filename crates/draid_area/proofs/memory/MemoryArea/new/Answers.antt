use Rattle.std.proofs.Common.{rules, length, ◌≡◌}
use Rattle.std.specs.List.{each_same}
use Rattle.draid_area.proofs.Clocks.{first_marks, no_clock, told_begins}
use Rattle.draid_area.proofs.Sound.{sound_begun}
use Rattle.draid_area.proofs.memory.MemoryArea.new.Goals as goal

pub invariant_of-result : goal.invariant_of-result
invariant_of-result c =
    let size : c.len-len.result ≡ length c.args.bytes.items = search rules in
    record {
      orderly = no_clock c.len-len.result _ (search rules);
      sound = sound_begun c.args.bytes.items _ _ _ (each_same _ _ c.in_ok-clone.ensures.cases.0) size (search rules);
      marked = first_marks c.args.bytes.items c.len-len.result _ _ size (search rules) (search rules);
    }

pub returns-clause-told : goal.returns-clause-told
returns-clause-told c =
    let size : c.len-len.result ≡ length c.args.bytes.items = search rules in
    told_begins c.args.bytes.items _ c.len-len.result _ _ _ size (search rules) (search rules) (search rules)
