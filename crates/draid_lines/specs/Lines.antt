use Rattle.std.specs.Prelude.{◌≡◌, ◌+◌, ◌<◌, ◌≤◌, ◌==◌, ◌≢◌, ◌⊎◌, ℕ, Bool, List, [], ◌∷◌, ◌++◌, length, Option, None, Some, Result, Ok, Err, ⊤, if◌then◌else◌}
use Rattle.std.specs.List.{slice_split, before_first, position_or_len}
use Rattle.std.specs.Io.KnownBytes.{IsAtEnd, Keeps, prepend_known}
use Rattle.std.specs.declared.vec.Vec.{Vec}
use Rattle.std.specs.declared.alloc.Global.{Global}
use Rattle.draid_names.specs.declared.numbers.TheConstants.{LONGEST_LINE}
use Rattle.draid_lines.specs.declared.lines.ReadFault.{ReadFault}
use Rattle.draid_lines.specs.declared.lines.ReadFault.TheVariants.{SourceFault, TooLong, NoMemory}

-- the byte that ends a line
abbrev pub is_end : ℕ → Bool
is_end byte = byte == 10

-- Behind the last end there is a line only where bytes stand there.
abbrev pub lines_of_parts : List (List ℕ) → List (List ℕ)
lines_of_parts [] = []
lines_of_parts (part ∷ []) = if length part == 0 then [] else part ∷ []
lines_of_parts (part ∷ next ∷ parts) = part ∷ lines_of_parts (next ∷ parts)

-- the lines of an input, without their ends
unfoldable pub lines_of : List ℕ → List (List ℕ)
lines_of bytes = lines_of_parts (slice_split is_end bytes)

-- how many lines an input may have
abbrev pub most_lines : ℕ
most_lines = 1_048_576

-- After so many lines the bytes to come begin with a line of too many bytes, or there is one more line than
-- may be.
abbrev pub IsTooLong : ℕ → List ℕ → Type 0
IsTooLong given bytes =
    (LONGEST_LINE < length (before_first is_end bytes)) ⊎ ((given ≡ most_lines) × (bytes ≢ []))

-- What is to come of an input: the bytes that were taken and not given yet, how many lines were given, and
-- the refusal that was answered.
pub record Rest : Type 0 where
  pub held : List ℕ
  pub given : ℕ
  pub fault : Option ReadFault

-- What is answered after so many lines, where the bytes to come before and after the call are known.
abbrev pub Answers : ℕ → List ℕ → List ℕ → Result (Option (Vec ℕ Global)) ReadFault → Type 0
Answers given old new (Ok None) = (old ≡ []) × (new ≡ []) × (lines_of old ≡ [])
Answers given old new (Ok (Some line)) = (lines_of old ≡ line.items ∷ lines_of new) × (IsTooLong given old → ⊥)
Answers given old new (Err (TooLong line)) = IsTooLong given old × (new ≡ old)
Answers given old new (Err SourceFault) = new ≡ old
Answers given old new (Err NoMemory) = new ≡ old

-- What is answered after so many lines where the held bytes have the next line's end, or all of it.
abbrev pub Cuts : ℕ → List ℕ → Result (Option (Vec ℕ Global)) ReadFault → Type 0
Cuts given held (Ok None) = held ≡ []
Cuts given held (Ok (Some line)) =
    (line.items ≡ before_first is_end held) × (held ≢ []) × (given < most_lines) × (length line.items ≤ LONGEST_LINE)
Cuts given held (Err (TooLong line)) = (line ≡ given + 1) × IsTooLong given held
Cuts given held (Err SourceFault) = ⊥
Cuts given held (Err NoMemory) = ⊤

-- The first end of a line stands behind so many of the held bytes; or there is none, and nothing is left, or
-- more bytes than the longest are held.
pub record Finds (longest : ℕ) (held : List ℕ) (left : Option (List ℕ)) (len : ℕ) : Type 0 where
  pub first : len ≡ position_or_len is_end held
  pub enough : (len < length held) ⊎ (longest < length held) ⊎ IsAtEnd left

-- Some bytes that were left are held now, behind those that were.
pub record Takes (old new : List ℕ) (left left' : Option (List ℕ)) : Type 0 where
  pub more : (bytes : List ℕ) × (new ≡ old ++ bytes)
  pub keeps : Keeps (prepend_known old left) (prepend_known new left')

-- how many bytes are taken for the line behind so many
abbrev pub longest_after : ℕ → ℕ
longest_after given = if given == most_lines then 0 else LONGEST_LINE

-- a fact of the bytes before and after, where they are known; what was known stays known
abbrev pub WhereKnown : Option (List ℕ) → Option (List ℕ) → (List ℕ → List ℕ → Type 0) → Type 0
WhereKnown None new P = ⊤
WhereKnown (Some old) None P = ⊥
WhereKnown (Some old) (Some new) P = P old new
