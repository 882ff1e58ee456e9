-- A rack that tells nothing.
use Rattle.std.proofs.Common.{ℕ, Bool, List, None, Result, Ok, Err, refl}
use Rattle.draid_rack.specs.Rack.{Lands, Told}

-- what a write of it does
pub lands : {E : Type 0} (leaf sector : ℕ) (bytes : List ℕ) (harm : Told → Bool) (result : Result Unit E) → Lands leaf sector bytes harm result None None
lands leaf sector bytes harm (Ok x) = record { stands = bytes; whole = refl; told = refl }
lands leaf sector bytes harm (Err e) = record { stands = bytes; whole = tt; told = refl }
