use Rattle.std.proofs.Common.{◌≡◌, ◌==◌, ◌+◌, drop}
use Rattle.std.specs.List.{position_or_len}
use Rattle.draid_script.proofs.text.first.Given as goal

abbrev pub invariant-loop-place : goal.invariant-loop-place
invariant-loop-place l = l.place + position_or_len (λ byte. byte == l.wanted) (drop l.place l.bytes) ≡ position_or_len (λ byte. byte == l.wanted) l.bytes
