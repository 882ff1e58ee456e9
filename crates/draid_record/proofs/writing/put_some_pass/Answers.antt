use Rattle.std.proofs.Common.{◌≡◌, length, ap, arith}
use Rattle.std.specs.List.{flat_map}
use Rattle.byteorder.specs.Endian.{big_bytes}
use Rattle.draid_pass.specs.declared.pass.Pass.{Pass}
use Rattle.draid_record.specs.Written.{target_bytes}
use Rattle.draid_record.proofs.Adding.{as_is, both}
use Rattle.draid_record.proofs.writing.put_some_pass.Goals as goal

pub returns : goal.returns
returns c =
    let p : Pass = c.args.pass.now in
    let len : c.len.result ≡ length p.targets.items = omega (arith, c.len.ensures, p.targets.ok.0) in
    both _ _ _ _ _
    (both _ _ _ _ _
    (both _ _ _ _ _
    (both _ _ _ _ _
    (both _ _ _ _ _ (both _ _ _ _ _ (as_is _ _ _ _ c.put.ensures (ap (big_bytes 1) c.pass_code.ensures)) (as_is _ _ _ _ c.put-2.ensures (ap (big_bytes 1) c.bit.ensures))) c.put-3.ensures)
    c.put-4.ensures)
    c.put-5.ensures)
    (as_is _ _ _ _ c.put-6.ensures (ap (big_bytes 2) len)))
    (as_is _ _ _ _ c.put_targets.ensures (ap (λ ts. flat_map target_bytes ts) c.deref.ensures.value))
