use Rattle.std.proofs.Common.{arith, ◌≡◌, ◌<◌, ◌≤◌, ℕ, List, length, Ok}
use Rattle.hex.specs.Hex.{decode_of}
use Rattle.hex.proofs.HexLemmas.{decode_of-ok}

-- digits that decode give some byte
pub decodes_some : (digits bytes : List ℕ) → decode_of digits ≡ Ok bytes → 0 < length digits → 1 ≤ length bytes
decodes_some digits bytes decoded some =
    let twice = (decode_of-ok digits bytes decoded).2 in
    omega (arith, twice, some)
