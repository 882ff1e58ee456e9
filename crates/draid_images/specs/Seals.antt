use Rattle.std.specs.Prelude.{◌==◌, ◌&&◌, not, ℕ, Bool, nat_le}
use Rattle.draid_machine.specs.declared.names.Held.{Held}
use Rattle.draid_machine.specs.Names.{is_block, is_freed_by}

-- a ticket that was born up to a group
abbrev pub is_early : ℕ → Held → Bool
is_early t h = not (is_block h.stage) && nat_le h.birth t

-- a block that was born in a group and isn't freed up to it
abbrev pub is_written : ℕ → Held → Bool
is_written t h = is_block h.stage && (h.birth == t) && not (is_freed_by t h.stage)
