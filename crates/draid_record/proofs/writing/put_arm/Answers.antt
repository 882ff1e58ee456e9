use Rattle.std.proofs.Common.{◌+◌, ◌*◌, ap, ap₂}
use Rattle.byteorder.specs.Endian.{big_bytes}
use Rattle.draid_record.proofs.Adding.{as_is, both}
use Rattle.draid_record.proofs.writing.put_arm.Goals as goal

pub returns : goal.returns
returns c =
    both _ _ _ _ _
    (both _ _ _ _ _ (both _ _ _ _ _ (as_is _ _ _ _ c.put.ensures (ap (big_bytes 1) c.code_of.ensures)) c.put-2.ensures)
    (as_is _ _ _ _ c.put-3.ensures (ap₂ (λ m n. big_bytes 1 (m + 2 * n)) c.bit.ensures c.bit-2.ensures)))
    c.put_log.ensures
