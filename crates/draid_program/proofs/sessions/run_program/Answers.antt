use Rattle.std.proofs.Common.{sym}
use Rattle.draid_program.proofs.sessions.run_program.Goals as goal

pub returns-in-Ok-clause-folder : goal.returns-in-Ok-clause-folder
returns-in-Ok-clause-folder g c = rw c.in-Ok.is (rw (sym c.deref.ensures.value) c.run_words.ensures.folder)

pub returns-in-Ok-clause-done : goal.returns-in-Ok-clause-done
returns-in-Ok-clause-done g c = rw c.in-Ok.is (rw (sym c.deref.ensures.value) c.run_words.ensures.done)

pub returns-in-Ok-clause-untouched : goal.returns-in-Ok-clause-untouched
returns-in-Ok-clause-untouched g c = rw c.in-Ok.is (rw (sym c.deref.ensures.value) c.run_words.ensures.untouched)
