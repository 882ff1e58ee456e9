-- What a word gives, by the key that it names.
use Rattle.std.proofs.Common.{◌≡◌, ℕ, List, Option, Some, None, Result, Err, true, false, Bool, codes, refl, sym, ap, ◌∙◌, if◌then◌else◌}
use Rattle.std.specs.Str.{bytes_eq}
use Rattle.draid_script.specs.declared.fault.LineFault.{LineFault}
use Rattle.draid_script.specs.declared.fault.LineFaultKind.TheVariants as why
use Rattle.draid_script.specs.declared.keys.Given.{Given}
use Rattle.draid_script.specs.declared.keys.Key.{Key}
use Rattle.draid_script.specs.declared.keys.Key.TheVariants.{Sector, Height, Metaslabs, Slices, Seed, Version}
use Rattle.draid_script.specs.Fault.{fault}
use Rattle.draid_script.specs.Keys.{given_value, given_with, key_in, key_named, value_in}
use Rattle.draid_script.specs.Word.{Placed}

-- what is given by the key of a name, or of none
abbrev given_by_key : Given → Placed → Option Key → Result Given LineFault
given_by_key given word (Some key) = given_value given key (value_in word)
given_by_key given word None = Err (fault why.Number word.at)

-- the same choice, made of the names' tests
choice : (given : Given) (word : Placed) (a b c d e f : Bool)
    → (if a then given_value given Sector (value_in word)
    else if b then given_value given Height (value_in word)
    else if c then given_value given Metaslabs (value_in word)
    else if d then given_value given Slices (value_in word)
    else if e then given_value given Seed (value_in word)
    else if f then given_value given Version (value_in word)
    else Err (fault why.Number word.at))
    ≡ given_by_key given word (if a then Some Sector else if b then Some Height else if c then Some Metaslabs else if d then Some Slices else if e then Some Seed else if f then Some Version else None)
choice given word true b c d e f = refl
choice given word false true c d e f = refl
choice given word false false true d e f = refl
choice given word false false false true e f = refl
choice given word false false false false true f = refl
choice given word false false false false false true = refl
choice given word false false false false false false = refl

by_key : (given : Given) (word : Placed) → given_with given word ≡ given_by_key given word (key_named (key_in word))
unfolding given_with key_named
by_key given word =
    let is = λ (name : List ℕ). bytes_eq (key_in word) name in
    choice given word (is (codes "sector")) (is (codes "height")) (is (codes "metaslabs")) (is (codes "slices")) (is (codes "seed")) (is (codes "version"))

-- a word gives the value of the key that it names
pub named_key : (given : Given) (word : Placed) (name : List ℕ) (value : Placed) (key : Key) → name ≡ key_in word → value ≡ value_in word → Some key ≡ key_named name → given_with given word ≡ given_value given key value
named_key given word name value key name_is value_is named =
    by_key given word ∙ ap (λ n. given_by_key given word (key_named n)) (sym name_is) ∙ ap (given_by_key given word) (sym named) ∙ ap (given_value given key) (sym value_is)

-- it is refused where it names none
pub unknown_key : (given : Given) (word : Placed) (name : List ℕ) → name ≡ key_in word → None ≡ key_named name → given_with given word ≡ Err (fault why.Number word.at)
unknown_key given word name name_is named =
    by_key given word ∙ ap (λ n. given_by_key given word (key_named n)) (sym name_is) ∙ ap (given_by_key given word) (sym named)
