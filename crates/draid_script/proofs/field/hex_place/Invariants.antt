use Rattle.std.proofs.Common.{◌≡◌, ◌+◌, drop, not}
use Rattle.std.specs.List.{position_or_len}
use Rattle.hex.specs.Hex.{is_hex_digit}
use Rattle.draid_script.proofs.field.hex_place.Given as goal

abbrev pub invariant-loop-place : goal.invariant-loop-place
invariant-loop-place l =
    l.place + position_or_len (λ byte. not (is_hex_digit byte)) (drop l.place l.word.text.now)
    ≡ position_or_len (λ byte. not (is_hex_digit byte)) l.word.text.now
