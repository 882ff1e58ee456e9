use Rattle.std.proofs.Common.{◌∙◌, sym}
use Rattle.draid_record.proofs.Fields.{text_cut, text_found}
use Rattle.draid_record.proofs.reader.Reader.digest.Goals as goal

pub returns-then-left-lt32 : goal.returns-then-left-lt32
returns-then-left-lt32 c = text_cut 32 c.args.self.now.fault c.args.self.now.bytes.now _ (sym c.is_some.ensures ∙ c.if-is_some.false) c.if-left-lt32.true

pub returns : goal.returns
returns c =
    text_found 32 c.args.self.now.fault c.args.self.now.bytes.now c.copy_from_slice.new.self c.split_at.result.1.now (sym c.is_some.ensures ∙ c.if-is_some.false) c.if-left-lt32.false
    (c.copy_from_slice.ensures.after ∙ c.split_at.ensures.front) c.split_at.ensures.back
