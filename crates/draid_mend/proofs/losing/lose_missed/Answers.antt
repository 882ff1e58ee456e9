use Rattle.std.specs.Prelude.{[]}
use Rattle.draid_shard.specs.States.{part_of}
use Rattle.draid_mend.proofs.Missing.{among, none_missed}
use Rattle.draid_mend.proofs.losing.lose_missed.Goals as goal

pub returns-then-is_whole : goal.returns-then-is_whole
returns-then-is_whole g c = record {
  marks = [];
  missed = none_missed (part_of c.args.shard.now) c.args.shard.now.slots c.args.pointer.now c.args.failed.now c.args.pass.now.targets.items c.args.shard.now.geometry.g (c.is_whole.ensures.none c.if-is_whole.true)
      (c.requires.answered (c.is_whole.ensures.answered c.if-is_whole.true));
  loses = c.lose_marked.ensures.lost;
}

pub returns : goal.returns
returns g c = record {
  marks = c.missed_marks-marks.result;
  missed = among (part_of c.args.shard.now) c.args.shard.now.slots c.args.pointer.now c.args.failed.now c.args.pass.now.targets.items c.missed_marks-marks.result c.args.shard.now.geometry.g c.missed_marks-marks.ensures;
  loses = c.lose_marked-2.ensures.lost;
}
