use Rattle.std.proofs.Common.{◌-◌, List, ℕ, drop, take, ap, ◌∙◌, arith}
use Rattle.std.specs.Int.{bytes_high_first}
use Rattle.std.proofs.lemmas.List.{take_rest}
use Rattle.draid_record.proofs.Joined.{lowest_bytes}
use Rattle.draid_record.proofs.Adding.{as_is}
use Rattle.draid_record.proofs.writer.Writer.put.Goals as goal

pub returns : goal.returns
returns c =
    as_is _ _ _ _ c.add.ensures
    (ap (λ (t : List ℕ). take (8 - (8 - c.args.width)) (drop (8 - c.args.width) t)) c.to_be_bytes-bytes.ensures
    ∙ take_rest (bytes_high_first 8 c.args.number) (8 - c.args.width)
    ∙ lowest_bytes 8 c.args.width c.args.number (omega arith))
