use Rattle.std.proofs.Common.{◌∙◌, ap, is_some}
use Rattle.draid_entries.specs.Maps.{first_in, key_of}
use Rattle.draid_entries.proofs.Keys.{first_lookup}
use Rattle.draid_entries.proofs.Made.{held_there}
use Rattle.draid_entries.proofs.entries.Entries.has.Goals as goal

pub returns : goal.returns
returns c =
    c.contains_key.ensures ∙ ap is_some (first_lookup c.args.self.now.keys.entries c.key_of.result ∙ ap (first_in c.args.self.now.keys.entries) c.key_of.ensures)
    ∙ held_there c.args.self.now (key_of c.args.pointer.now)
