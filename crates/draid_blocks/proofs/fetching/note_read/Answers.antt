use Rattle.draid_blocks.proofs.Taking.{replaced}
use Rattle.std.proofs.Common.{Some, None, refl}
use Rattle.draid_blocks.proofs.fetching.note_read.Goals as goal

pub returns-in-Silent : goal.returns-in-Silent
returns-in-Silent c = record {
  columns = record { all = refl; here = rw c.in-Silent.is c.requires.taken; others = λ _ _. refl };
  failed = rw c.in-Silent.is refl;
  room = refl;
}

pub returns-in-Failed-clause-columns : goal.returns-in-Failed-clause-columns
returns-in-Failed-clause-columns c = record { all = refl; here = rw c.in-Failed.is c.requires.taken; others = λ _ _. refl }

pub returns-in-Done-clause-failed : goal.returns-in-Done-clause-failed
returns-in-Done-clause-failed c = rw c.in-Done.is refl

pub returns-in-Done-clause-room : goal.returns-in-Done-clause-room
returns-in-Done-clause-room c = refl

pub returns-in-Failed-clause-failed : goal.returns-in-Failed-clause-failed
returns-in-Failed-clause-failed c = rw c.in-Failed.is c.push_reserved.ensures.items

pub returns-in-Failed-clause-room : goal.returns-in-Failed-clause-room
returns-in-Failed-clause-room c = c.push_reserved.ensures.capacity

pub returns-in-Done-clause-columns : goal.returns-in-Done-clause-columns
returns-in-Done-clause-columns c = rw c.in-Done.is (replaced c.args.columns.now.items c.args.column None (Some c.args.bytes) c.requires.taken)
