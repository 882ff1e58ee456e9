use Rattle.std.proofs.Common.{◌≡◌, take, string_bytes}
use Rattle.std.specs.List.{flat_map}
use Rattle.draid_reply.specs.Agent.{line_of}
use Rattle.draid_reply.proofs.agent.lines.Given as goal

abbrev pub invariant-loop-entry : goal.invariant-loop-entry
invariant-loop-entry l = string_bytes l.text ≡ flat_map (line_of l.parity) (take l.entry-index l.entries)
