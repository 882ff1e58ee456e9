-- What is known of a pool's objects, by the table of their pointers.
use Rattle.std.specs.Prelude.{◌≡◌, ◌<◌, ◌≤◌, ◌+◌, ◌⊎◌, ⊤, ℕ, List, [], ◌∷◌, Result, Ok}
use Rattle.draid_script.specs.Grammar.{line_of}
use Rattle.draid_script.specs.Line.{Command, CrashPool, ExportPool, FillObjects, FreeObject, RewindPool, WriteObject}
use Rattle.draid_script.specs.declared.fault.LineFault.{LineFault}

-- ---- lines between a write and a read

-- A line neither writes nor frees this object, nor goes back to a checkpoint, nor gives the pool back.
abbrev pub Spares : ℕ → Result Command LineFault → Type 0
Spares object (Ok (WriteObject o bytes)) = o ≡ object → ⊥
Spares object (Ok (FillObjects first count len seed)) = (object < first) ⊎ (first + count ≤ object)
Spares object (Ok (FreeObject o)) = o ≡ object → ⊥
Spares object (Ok ExportPool) = ⊥
Spares object (Ok RewindPool) = ⊥
Spares object (Ok CrashPool) = ⊥
Spares object line = ⊤

-- so do lines outside sections
abbrev pub AllSpare : ℕ → List (List ℕ) → Type 0
AllSpare object [] = ⊤
AllSpare object (line ∷ lines) = Spares object (line_of line) × AllSpare object lines
