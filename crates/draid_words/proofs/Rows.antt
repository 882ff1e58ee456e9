-- What a parse finds on the command line.
use Rattle.std.proofs.Common.{◌≡◌, refl, sym, ap, ◌∙◌, ℕ, Bool, true, false, cond, List, [], ◌∷◌, map, Option, None, Some, option_map}
use Rattle.std.specs.Prelude.{find, option_and_then, slice_get, codes}
use Rattle.std.specs.Str.{bytes_eq}
use Rattle.std.specs.Borrow.{Bor}
use Rattle.clap.specs.Facts.{Entry}
use Rattle.clap.specs.Kinds.{IsAmong, Kinds}
use Rattle.clap.specs.Walk.{row_of, texts}
use Rattle.clap.specs.Words.{fault_of, first_of, first_value, is_simple, is_simple_and_free, matches_of, rows_of}
use Rattle.clap.specs.declared.error.kind.ErrorKind.{ErrorKind}
use Rattle.clap.specs.declared.parser.matches.Found.{Found}
use Rattle.clap.specs.declared.parser.matches.MatchedArg.{MatchedArg}
use Rattle.clap.proofs.OnLiterals.{clap_on_literals}
use Rattle.draid_words.specs.CommandLine.{command_line}
use Rattle.draid_words.specs.Mode.{asked, asked_by, asked_of, unless_fault}

-- the command line is of the kind whose parse is known
pub is_known : is_simple command_line ≡ true
unfolding clap_on_literals
is_known = refl

pub is_known_to_fail : is_simple_and_free command_line ≡ true
unfolding clap_on_literals
is_known_to_fail = refl

-- the first value of an entry
first_text : (values : List (Bor (List ℕ))) → slice_get (texts values) 0 ≡ option_map (λ s. s.now) (slice_get values 0)
first_text [] = refl
first_text (value ∷ values) = refl

-- the value of an entry, read as a row and as it is
abbrev value_of : MatchedArg → Option (List ℕ)
value_of a = option_map (λ s. s.now) (slice_get a.vals.items 0)

first_in : (id : List ℕ) (entries : List Entry)
    → first_of id (map row_of entries) ≡ option_and_then value_of (option_map (λ e. e.1) (find (λ e. bytes_eq e.0.now id) entries))
first_in id [] = refl
first_in id (entry ∷ entries) = by_test (first_in id entries) (bytes_eq entry.0.now id)
  where
    by_test : first_of id (map row_of entries) ≡ option_and_then value_of (option_map (λ e. e.1) (find (λ e. bytes_eq e.0.now id) entries))
        → (here : Bool)
        → option_and_then (λ r. slice_get r.values 0) (cond here (Some (row_of entry)) (find (λ r. bytes_eq r.id id) (map row_of entries)))
        ≡ option_and_then value_of (option_map (λ e. e.1) (cond here (Some entry) (find (λ e. bytes_eq e.0.now id) entries)))
    by_test rest true = first_text entry.1.vals.items
    by_test rest false = rest

pub first_is : (found : Found) (id : List ℕ) → first_of id (rows_of found) ≡ first_value found id
first_is found id = first_in id found.entries.items

-- what is found is what is asked for
pub asked_found : (words : List (List ℕ)) (found : Found) (mode number dir : Option (List ℕ))
    → fault_of command_line words ≡ [] → rows_of found ≡ matches_of command_line words
    → mode ≡ first_value found (codes "mode") → number ≡ first_value found (codes "number") → dir ≡ first_value found (codes "dir")
    → asked words ≡ asked_by mode number dir
unfolding asked
asked_found words found mode number dir none rows mode_is number_is dir_is =
    ap (λ (kinds : Kinds). unless_fault kinds (asked_of (matches_of command_line words))) none
    ∙ ap asked_of (sym rows)
    ∙ ap (λ (text : Option (List ℕ)). asked_by text (first_of (codes "number") (rows_of found)) (first_of (codes "dir") (rows_of found)))
    (first_is found (codes "mode") ∙ sym mode_is)
    ∙ ap (λ (text : Option (List ℕ)). asked_by mode text (first_of (codes "dir") (rows_of found))) (first_is found (codes "number") ∙ sym number_is)
    ∙ ap (λ (text : Option (List ℕ)). asked_by mode number text) (first_is found (codes "dir") ∙ sym dir_is)

-- where the parse fails nothing is asked for
pub asked_nothing : (words : List (List ℕ)) (kind : ErrorKind) → IsAmong kind (fault_of command_line words) → asked words ≡ None
unfolding asked
asked_nothing words kind among = by_kinds (fault_of command_line words) among
  where
    by_kinds : (kinds : Kinds) → IsAmong kind kinds → unless_fault kinds (asked_of (matches_of command_line words)) ≡ None
    by_kinds [] none = absurd none
    by_kinds (first ∷ rest) some = refl
