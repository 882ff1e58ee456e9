-- A writer, which goes on to write while there is memory.
use Rattle.std.specs.Prelude.{◌≡◌, ◌++◌, ⊤, ℕ, Bool, true, false, List, Option, Some, None}
use Rattle.draid_record.specs.declared.writer.Writer.{Writer}

-- what was written, unless memory ran out
abbrev pub text_by : Bool → List ℕ → Option (List ℕ)
text_by false bytes = Some bytes
text_by true bytes = None

abbrev pub text_of : Writer → Option (List ℕ)
text_of writer = text_by writer.is_short writer.bytes.items

abbrev pub Adds : Option (List ℕ) → Option (List ℕ) → List ℕ → Type 0
Adds old None bytes = ⊤
Adds (Some old) (Some new) bytes = new ≡ old ++ bytes
Adds None (Some new) bytes = ⊥

-- the bytes were written behind what was written before
pub record Writes (old new : Option (List ℕ)) (bytes : List ℕ) : Type 0 where
  pub is : Adds old new bytes
