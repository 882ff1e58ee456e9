-- The commands of lanes, by their lines.
use Rattle.std.specs.Prelude.{List, map}
use Rattle.std.specs.declared.vec.Vec.{Vec}
use Rattle.std.specs.declared.alloc.Global.{Global}
use Rattle.draid_script.specs.Line.{Command, command_in}
use Rattle.draid_script.specs.declared.line.Line.{Line}

-- the commands of a lane, and those of each lane
abbrev pub commands_in : List Line → List Command
commands_in lines = map command_in lines

abbrev pub lanes_in : List (Vec Line Global) → List (List Command)
lanes_in lanes = map (λ (lane : Vec Line Global). commands_in lane.items) lanes
