use Rattle.std.specs.Prelude.{ℕ, ◌==◌, Bool, List, [], ◌∷◌, codes, Option, None, Some, unwrap_or, Result, Ok, Err, if◌then◌else◌}
use Rattle.std.specs.List.{before_first, after_first}
use Rattle.std.specs.Str.{bytes_eq}
use Rattle.draid_script.specs.declared.fault.LineFault.{LineFault}
use Rattle.draid_script.specs.declared.fault.LineFaultKind.TheVariants as why
use Rattle.draid_script.specs.declared.keys.Given.{Given}
use Rattle.draid_script.specs.declared.keys.Key.{Key}
use Rattle.draid_script.specs.declared.keys.Key.TheVariants.{Sector, Height, Metaslabs, Slices, Seed, Version}
use Rattle.draid_script.specs.declared.line.PoolKeys.{PoolKeys}
use Rattle.draid_script.specs.Fault.{fault, ◌>>=◌}
use Rattle.draid_script.specs.Word.{Placed}
use Rattle.draid_script.specs.Field.{number_at, short_at}

abbrev pub is_equals : ℕ → Bool
is_equals byte = byte == 61

-- what stands before the first `=` of a word, and what behind it
abbrev pub key_in : Placed → List ℕ
key_in word = before_first is_equals word.text

abbrev pub value_in : Placed → Placed
value_in word = record { text = after_first is_equals word.text; at = word.at }

-- the value of a key, read so, where none was given before
abbrev pub new_value : (Placed → Result ℕ LineFault) → Option ℕ → Placed → Result (Option ℕ) LineFault
new_value read (Some earlier) value = Err (fault why.Number value.at)
new_value read None value = read value >>= λ n. Ok (Some n)

-- the key of a name
unfoldable pub key_named : List ℕ → Option Key
key_named name =
    if bytes_eq name (codes "sector") then Some Sector
    else if bytes_eq name (codes "height") then Some Height
    else if bytes_eq name (codes "metaslabs") then Some Metaslabs
    else if bytes_eq name (codes "slices") then Some Slices
    else if bytes_eq name (codes "seed") then Some Seed
    else if bytes_eq name (codes "version") then Some Version
    else None

-- what is given with the value of one more key
abbrev pub given_value : Given → Key → Placed → Result Given LineFault
given_value given Sector value = new_value short_at given.sector value >>= λ value. Ok (record given { sector = value })
given_value given Height value = new_value short_at given.height value >>= λ value. Ok (record given { height = value })
given_value given Metaslabs value = new_value short_at given.metaslabs value >>= λ value. Ok (record given { metaslabs = value })
given_value given Slices value = new_value short_at given.slices value >>= λ value. Ok (record given { slices = value })
given_value given Seed value = new_value number_at given.seed value >>= λ value. Ok (record given { seed = value })
given_value given Version value = new_value short_at given.version value >>= λ value. Ok (record given { version = value })

-- what is given with one more word `key=value`, whose key is known and wasn't given before
unfoldable pub given_with : Given → Placed → Result Given LineFault
given_with given word =
    if bytes_eq (key_in word) (codes "sector")
    then (new_value short_at given.sector (value_in word) >>= λ value. Ok (record given { sector = value }))
    else if bytes_eq (key_in word) (codes "height")
    then (new_value short_at given.height (value_in word) >>= λ value. Ok (record given { height = value }))
    else if bytes_eq (key_in word) (codes "metaslabs")
    then (new_value short_at given.metaslabs (value_in word) >>= λ value. Ok (record given { metaslabs = value }))
    else if bytes_eq (key_in word) (codes "slices")
    then (new_value short_at given.slices (value_in word) >>= λ value. Ok (record given { slices = value }))
    else if bytes_eq (key_in word) (codes "seed")
    then (new_value number_at given.seed (value_in word) >>= λ value. Ok (record given { seed = value }))
    else if bytes_eq (key_in word) (codes "version")
    then (new_value short_at given.version (value_in word) >>= λ value. Ok (record given { version = value }))
    else Err (fault why.Number word.at)

abbrev pub given_by : Given → List Placed → Result Given LineFault
given_by given [] = Ok given
given_by given (word ∷ words) = given_with given word >>= λ more. given_by more words

abbrev pub nothing_given : Given
nothing_given = record { sector = None; height = None; metaslabs = None; slices = None; seed = None; version = None }

-- the values, with the default where a key isn't given
abbrev pub keys_in : Given → PoolKeys
keys_in given = record {
  sector = unwrap_or given.sector 4096;
  height = unwrap_or given.height 8;
  metaslabs = unwrap_or given.metaslabs 4;
  slices = unwrap_or given.slices 16;
  seed = unwrap_or given.seed 1;
  version = unwrap_or given.version 1;
}

abbrev pub keys_at : List Placed → Result PoolKeys LineFault
keys_at words = given_by nothing_given words >>= λ given. Ok (keys_in given)
