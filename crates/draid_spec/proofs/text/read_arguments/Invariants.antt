use Rattle.std.proofs.Common.{◌≡◌, drop}
use Rattle.draid_spec.specs.Text.{IsReading, arguments, opened}
use Rattle.draid_spec.proofs.text.read_arguments.Given as goal

-- the rest is still to be read, and says what all says
abbrev pub invariant-loop-byte : goal.invariant-loop-byte
invariant-loop-byte l = record {
  rest : arguments l.reading l.at (drop l.byte-index l.text) ≡ arguments (opened l.fn.parity) l.fn.from l.fn.text;
  reading : IsReading l.reading l.at;
}
