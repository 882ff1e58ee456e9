-- Lists of arms, for each slot or for each column.
use Rattle.std.proofs.Common.{◌≡◌, ◌++◌, ◌<◌, ◌≤◌, ℕ, zero, suc, List, [], ◌∷◌, Option, None, Vec, Global, get_or, length, refl, arith}
use Rattle.draid_machine.specs.declared.names.ArmName.{ArmName}
use Rattle.draid_world.specs.World.{name_at, names_at}

pub names_before : (xs : List (Vec ArmName Global)) (v : Vec ArmName Global) (c : ℕ) → c < length xs → names_at (xs ++ v ∷ []) c ≡ names_at xs c
names_before [] v c less = absurd (omega (arith, less))
names_before (x ∷ xs) v zero less = refl
names_before (x ∷ xs) v (suc c) less = names_before xs v c (omega (arith, less))

pub names_last : (xs : List (Vec ArmName Global)) (v : Vec ArmName Global) → names_at (xs ++ v ∷ []) (length xs) ≡ v.items
names_last [] v = refl
names_last (x ∷ xs) v = names_last xs v

-- the arm of a column
pub name_past : (os : List (Option ArmName)) (c : ℕ) → length os ≤ c → name_at os c ≡ None
name_past [] c past = refl
name_past (o ∷ os) zero past = absurd (omega (arith, past))
name_past (o ∷ os) (suc c) past = name_past os c (omega (arith, past))

pub name_in : (os : List (Option ArmName)) (c : ℕ) (o : Option ArmName) → c < length os → o ≡ get_or os c o → o ≡ name_at os c
name_in [] c o less is = absurd (omega (arith, less))
name_in (p ∷ os) zero o less is = is
name_in (p ∷ os) (suc c) o less is = name_in os c o (omega (arith, less)) is
