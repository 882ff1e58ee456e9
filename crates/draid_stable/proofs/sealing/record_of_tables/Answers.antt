use Rattle.std.proofs.Common.{refl}
use Rattle.draid_record.specs.declared.record.Record.{Record}
use Rattle.draid_stable.specs.Sealing.{IsMade}
use Rattle.draid_stable.proofs.Images.{made_image, made_ready}
use Rattle.draid_stable.proofs.sealing.record_of_tables.Goals as goal

pub returns : goal.returns
returns c =
    let a = c.args in
    let it : Record = record {
      version = a.head.version;
      metaslab = a.head.metaslab;
      group = a.head.group;
      slots = c.in_ok-slots.slots;
      last_pass = a.last_pass;
      pass = c.in_ok-pass.pass;
      blocks = c.in_ok-blocks.blocks;
    } in
    let made : IsMade a.head a.entries.now a.slots.now a.pass.now a.last_pass it = record {
      version_is = refl;
      metaslab_is = refl;
      group_is = refl;
      blocks_are = c.in_ok-blocks.ensures;
      slots_are = c.in_ok-slots.ensures.copies;
      sound = c.in_ok-slots.ensures.sound;
      pass_is = c.in_ok-pass.ensures;
      last_is = refl;
    } in
    record { image = λ q are. made_image a.head a.entries.now a.slots.now a.pass.now a.last_pass it c.requires made q are; ready = made_ready a.head a.entries.now a.slots.now a.pass.now a.last_pass it c.requires made; made = made }
