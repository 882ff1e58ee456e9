use Rattle.std.proofs.Common.{◌∙◌, ap, sym}
use Rattle.draid_reply.specs.Reply.{text_of}
use Rattle.draid_reply.proofs.reply.reply_text.Goals as goal

pub returns-in_ok-from_slice-in-Status : goal.returns-in_ok-from_slice-in-Status
unfolding text_of
returns-in_ok-from_slice-in-Status c = c.in_ok-from_slice-in-Status.ensures.items ∙ (c.deref.ensures.value ∙ ap text_of (sym c.in-Status.is))
