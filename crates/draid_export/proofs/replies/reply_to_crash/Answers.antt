use Rattle.std.proofs.Common.{refl}
use Rattle.draid_export.proofs.replies.reply_to_crash.Goals as goal

pub returns-clause-firm : goal.returns-clause-firm
returns-clause-firm g c = c.close.ensures.crash refl
