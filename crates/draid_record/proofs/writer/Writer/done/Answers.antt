use Rattle.draid_record.proofs.Adding.{text_is}
use Rattle.draid_record.proofs.writer.Writer.done.Goals as goal

pub returns : goal.returns
returns c = text_is c.args.self.is_short c.args.self.bytes.items c.if-self.false
