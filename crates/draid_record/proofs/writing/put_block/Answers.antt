use Rattle.std.proofs.Common.{ap}
use Rattle.byteorder.specs.Endian.{big_bytes}
use Rattle.draid_record.proofs.Adding.{as_is, both}
use Rattle.draid_record.proofs.writing.put_block.Goals as goal

pub returns : goal.returns
returns c =
    both _ _ _ _ _
    (both _ _ _ _ _
    (both _ _ _ _ _ (both _ _ _ _ _ (both _ _ _ _ _ (both _ _ _ _ _ c.put.ensures c.put-2.ensures) c.put-3.ensures) (as_is _ _ _ _ c.put-4.ensures (ap (big_bytes 4) c.from.ensures)))
    (as_is _ _ _ _ c.put-5.ensures (ap (big_bytes 4) c.from-2.ensures)))
    c.put-6.ensures)
    c.add.ensures
