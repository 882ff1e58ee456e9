use Rattle.std.proofs.Common.{Result, Ok, Err, ap, refl}
use Rattle.std.specs.Prelude.{OnOk}
use Rattle.draid_area.specs.Area.{OnTold}
use Rattle.draid_machine.specs.Created.{created}
use Rattle.draid_record.specs.Record.{told_record}
use Rattle.draid_stable.specs.Stable.{Stands}
use Rattle.draid_shard.specs.States.{layout_by}
use Rattle.draid_pool.specs.Groups.{ListsOnce}
use Rattle.draid_pool.proofs.Ranging.{blocks_low}
use Rattle.draid_pool.proofs.Refusing.{no_device}
use Rattle.draid_pool.proofs.SealSteps.{on_told}
use Rattle.draid_create.proofs.FirstRecord.{first_record}
use Rattle.draid_create.proofs.metaslab.write_first.Goals as goal

on_done : {T E : Type 0} (result : Result T E) (P Q : Type 0) → (P → Q) → OnOk result P → OnOk result Q
on_done (Ok done) P Q leads is = leads is
on_done (Err why) P Q leads is = is

pub write_to-requires : goal.write_to-requires
write_to-requires g c = blocks_low g.R.Rack c.args.shard.now c.requires.valid 1 c.in-Ok.made.blocks.items c.in-Ok.ensures.made.blocks_are

pub returns : goal.returns
returns g c =
    let old = c.args.shard.now in
    let told = g.A.Area.told c.write_to.new.odd in
    let image = (created (layout_by old) old.asked).image in
    record {
      same = ap (λ even. record old { even = even; odd = c.write_to.new.odd }) c.write_to.ensures.other;
      «record» = on_done c.write_to.result (OnTold told (Stands (told_record c.in-Ok.made))) (OnTold told (ListsOnce old.geometry old.number image))
          (on_told told (Stands (told_record c.in-Ok.made)) (ListsOnce old.geometry old.number image)
          (first_record g.R.Rack old c.requires.valid c.requires.created c.in-Ok.made c.in-Ok.ensures.made c.in-Ok.ensures.image))
          c.write_to.ensures.stands;
      cause = c.write_to.ensures.cause;
    }

pub returns-in_default : goal.returns-in_default
returns-in_default g c = record { same = refl; «record» = tt; cause = λ failed. absurd (no_device failed) }
