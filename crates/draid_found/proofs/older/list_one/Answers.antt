use Rattle.std.proofs.Common.{inl, inr, refl, rules}
use Rattle.draid_found.proofs.Together.{notes_only}
use Rattle.draid_found.proofs.older.list_one.Goals as goal

pub returns : goal.returns
returns c = record {
  notes = notes_only c.args.pointer.now c.args.keys.now c.insert.new.self c.in_ok-insert.ensures.updates.0;
  lists = inr (search rules, search rules);
}
