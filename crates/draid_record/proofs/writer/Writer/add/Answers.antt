use Rattle.draid_record.proofs.Adding.{added, skipped}
use Rattle.draid_record.proofs.writer.Writer.add.Goals as goal

pub returns-then-self : goal.returns-then-self
returns-then-self c = skipped c.args.self.now.is_short c.args.self.now.bytes.items c.args.bytes.now c.if-self.true

pub returns : goal.returns
returns c =
    added c.args.self.now.is_short c.is_err-self.result c.extend_from_slice.result c.args.self.now.bytes.items c.extend_from_slice.new.self.items c.args.bytes.now c.if-self.false c.is_err-self.ensures.value
    c.extend_from_slice.ensures.items
