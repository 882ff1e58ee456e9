use Rattle.draid_uber.proofs.Imports.{crash_stands, import_alone, import_takes}
use Rattle.draid_uber.proofs.laws.crashes_leave_what_stands.Goals as goal

pub returns-clause-crash : goal.returns-clause-crash
returns-clause-crash c = crash_stands

pub returns-clause-import : goal.returns-clause-import
returns-clause-import c = import_takes

pub returns-clause-alone : goal.returns-clause-alone
returns-clause-alone c = import_alone
