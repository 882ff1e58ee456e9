use Rattle.std.specs.Prelude.{◌≡◌, ◌<◌, ◌^◌, ◌⊎◌, ℕ, true, List, [], ◌∷◌, codes, None, Some}
use Rattle.std.specs.List.{slice_split}
use Rattle.std.specs.Fmt.{decimal}
use Rattle.draid_script.specs.declared.keys.Given.{Given}
use Rattle.draid_script.specs.declared.line.PoolKeys.{PoolKeys}
use Rattle.draid_script.specs.Grammar.{is_silent}
use Rattle.draid_script.specs.Keys.{keys_in, nothing_given}
use Rattle.draid_script.specs.Line.{Command, Silent, CreatePool, WriteObject, LaneCommand, SectionEnd, SilentLane, InLane, IsInRange}
use Rattle.draid_script.specs.Word.{bytes_of, is_space}
use Rattle.draid_script.specs.Writing.{IsForLanes, setting, written_words}

-- A word `key=value` gives a key that wasn't given before its value.
abbrev pub GivesKey : List ℕ → Given → Given → Type 0
GivesKey word old new = (value : ℕ) × (
    ((word ≡ setting (codes "sector") value) × (value < 2 ^ 32) × (old.sector ≡ None) × (new ≡ record old { sector = Some value }))
    ⊎ ((word ≡ setting (codes "height") value) × (value < 2 ^ 32) × (old.height ≡ None) × (new ≡ record old { height = Some value }))
    ⊎ ((word ≡ setting (codes "metaslabs") value) × (value < 2 ^ 32) × (old.metaslabs ≡ None) × (new ≡ record old { metaslabs = Some value }))
    ⊎ ((word ≡ setting (codes "slices") value) × (value < 2 ^ 32) × (old.slices ≡ None) × (new ≡ record old { slices = Some value }))
    ⊎ ((word ≡ setting (codes "seed") value) × (value < 2 ^ 64) × (old.seed ≡ None) × (new ≡ record old { seed = Some value }))
    ⊎ ((word ≡ setting (codes "version") value) × (value < 2 ^ 32) × (old.version ≡ None) × (new ≡ record old { version = Some value })))

-- such words, one after another
abbrev pub GivesKeys : List (List ℕ) → Given → Given → Type 0
GivesKeys [] old new = new ≡ old
GivesKeys (word ∷ words) old new = (next : Given) × GivesKey word old next × GivesKeys words next new

-- the words of these keys, in any order, each at most once, where a default may be left out
abbrev pub AreSettings : List (List ℕ) → PoolKeys → Type 0
AreSettings words keys = (given : Given) × GivesKeys words nothing_given given × (keys ≡ keys_in given)

-- The words of a line that asks for this. All but two commands have but one spelling: hex digits may be of either
-- case, and the keys of `create` stand in any order.
abbrev pub AreWordsOf : Command → List (List ℕ) → Type 0
AreWordsOf (CreatePool spec children keys) words =
    (rest : List (List ℕ)) × (words ≡ codes "create" ∷ spec ∷ decimal children ∷ rest) × AreSettings rest keys
AreWordsOf (WriteObject object bytes) words =
    (hex : List ℕ) × (words ≡ codes "write" ∷ decimal object ∷ hex ∷ []) × (bytes_of hex ≡ Some bytes)
AreWordsOf command words = words ≡ written_words command

-- the words of a line, without their places
abbrev pub texts_of : List ℕ → List (List ℕ)
texts_of line = slice_split is_space line

-- An empty line or a comment asks for nothing; any other line is the words of a command, with numbers in their ranges.
abbrev pub IsLine : List ℕ → Command → Type 0
IsLine text command =
    ((is_silent text ≡ true) × (command ≡ Silent)) ⊎ (AreWordsOf command (texts_of text) × IsInRange command)

-- the same of a line in a section of so many lanes, where a lane's number stands before the command
abbrev pub IsLaneText : ℕ → List ℕ → LaneCommand → Type 0
IsLaneText lanes text SilentLane = is_silent text ≡ true
IsLaneText lanes text SectionEnd = text ≡ codes "end"
IsLaneText lanes text (InLane lane command) =
    (words : List (List ℕ)) × (texts_of text ≡ decimal lane ∷ words) × (lane < lanes)
    × AreWordsOf command words × IsInRange command × IsForLanes command
