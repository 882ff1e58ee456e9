-- The area of a new pool.
use Rattle.std.proofs.Common.{◌≡◌, ℕ, List, Option, Some, refl}
use Rattle.std.specs.Prelude.{replicate}
use Rattle.draid_area.specs.Area.{Content, OnTold, begins}
use Rattle.draid_uber.specs.Uber.{IsNewArea}

pub zeros_new : (told : Option Content) (bytes : List ℕ) → told ≡ Some (begins bytes) → bytes ≡ replicate 1024 0 → OnTold told IsNewArea
zeros_new told bytes is zeros = rw (is, zeros) (record { bytes = refl; firm = refl; soft = λ i. refl })
