-- Lines that are a rebuild or a scrub.
use Rattle.std.specs.Prelude.{Bool, true, false, List}
use Rattle.std.specs.List.{list_any}
use Rattle.draid_script.specs.Line.{Command, RebuildPool, ScrubPool, command_in}
use Rattle.draid_script.specs.declared.line.Line.{Line}

abbrev pub is_mending : Command → Bool
is_mending (RebuildPool limit) = true
is_mending (ScrubPool limit) = true
is_mending command = false

-- one of some lines is
abbrev pub mends_one : List Line → Bool
mends_one lines = list_any (λ (line : Line). is_mending (command_in line)) lines
