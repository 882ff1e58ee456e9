use Rattle.std.proofs.Common.{◌≡◌, ◌+◌, ℕ, length, Vec, Global, ap, ◌∙◌, arith}
use Rattle.byteorder.specs.Endian.{big_bytes}
use Rattle.draid_record.specs.Record.{RecordTold, told_record}
use Rattle.draid_record.specs.Written.{IsWhole, body_bytes, record_bytes}
use Rattle.draid_record.proofs.WholeWritten.{if_ok}
use Rattle.draid_record.proofs.Adding.{as_is, both, written_all}
use Rattle.draid_record.proofs.writing.whole.Goals as goal

pub returns : goal.returns
returns c =
    let v : RecordTold = told_record c.args.value.now in
    let fields : c.in_ok-fields.fields.items ≡ body_bytes v = c.in_ok-fields.ensures in
    let same = ap length fields in
    let len : c.len-3.result + 10 ≡ length (body_bytes v) + 10 = omega (arith, c.len-3.ensures, c.in_ok-fields.fields.ok.0, same) in
    if_ok c.done.result (λ (bytes : Vec ℕ Global). bytes.items ≡ record_bytes v) (λ (bytes : Vec ℕ Global). IsWhole bytes.items v)
    (λ bytes are. record { bytes_are = are; short = omega (arith, c.len.ensures, c.in_ok-fields.fields.ok.0, same) })
    (written_all c.done.result _ _ _ c.in_ok-out.ensures
    (both _ _ _ _ _
    (both _ _ _ _ _ (both _ _ _ _ _ c.put.ensures (as_is _ _ _ _ c.put-2.ensures (ap (big_bytes 2) c.from.ensures))) (as_is _ _ _ _ c.put-3.ensures (ap (big_bytes 4) len)))
    (as_is _ _ _ _ c.add.ensures (c.deref.ensures.value ∙ fields)))
    c.done.ensures)
