-- How a text is cut, and what stands where.
use Rattle.std.proofs.Common.{◌≡◌, ℕ, ◌+◌, ◌<◌, ◌≤◌, List, [], ◌∷◌, ◌++◌, length, drop, map, refl, sym, ap, ◌∙◌, arith, append_assoc, length-drop, length-take}
use Rattle.std.specs.List.{after_first, before_first, join_with_byte, position_or_len, slice_split}
use Rattle.std.proofs.lemmas.List.{drop-drop, map-append, take_all}
use Rattle.std.proofs.lemmas.List.Splits.{join_with_byte-slice_split, slice_split_first, slice_split_none}
use Rattle.std.proofs.lemmas.List.Sums.{fails_before_first}
use Rattle.draid_script.specs.Keys.{is_equals}
use Rattle.draid_script.specs.declared.word.Word.{Word}
use Rattle.draid_script.specs.Word.{Placed, is_space, placed, placed_from, words_of}
use Rattle.draid_script.proofs.Positions.{position_or_len_le}

-- what stands behind the first `=`
pub behind_equals : (text rest part : List ℕ) (len : ℕ) → len ≡ position_or_len is_equals text → rest ≡ drop len text → part ≡ drop 1 rest → part ≡ after_first is_equals text
behind_equals text rest part len first cut behind =
    behind ∙ ap (drop 1) cut ∙ drop-drop 1 len text ∙ ap (λ n. drop (n + 1) text) first

-- the first word of a part of a line, and those behind it
pub placed_first : (at : ℕ) (part : List ℕ) → position_or_len is_space part < length part → placed_from at (slice_split is_space part) ≡ record { text = before_first is_space part; at = at } ∷ placed_from (at + length (before_first is_space part) + 1) (slice_split is_space (after_first is_space part))
placed_first at part some = ap (placed_from at) (slice_split_first is_space part 0 some)

pub placed_last : (at : ℕ) (part : List ℕ) → position_or_len is_space part ≡ length part → placed_from at (slice_split is_space part) ≡ record { text = part; at = at } ∷ []
placed_last at part none = ap (placed_from at) (slice_split_none is_space part (λ k d h. fails_before_first is_space part k d (omega arith)))

-- how long the part before the first space is
length-word : (part : List ℕ) → length (before_first is_space part) ≡ position_or_len is_space part
length-word part = omega (arith, length-take (position_or_len is_space part) part, position_or_len_le is_space part)

-- one more word, where the line goes on behind it
pub word_more : (line text : List ℕ) (start len : ℕ) (sofar all : List Placed) → text ≡ before_first is_space (drop start line) → len ≡ length text → start + len ≤ length line → (start + len ≡ length line → ⊥) → sofar ++ placed_from start (slice_split is_space (drop start line)) ≡ all → (sofar ++ record { text = text; at = start } ∷ []) ++ placed_from (start + len + 1) (slice_split is_space (drop (start + len + 1) line)) ≡ all
word_more line text start len sofar all same whole bound more here =
    let size : length text ≡ position_or_len is_space (drop start line) = ap length same ∙ length-word (drop start line) in
    let some : position_or_len is_space (drop start line) < length (drop start line) = omega (arith, length-drop start line) in
    let word = λ (t : List ℕ). let w : Placed = record { text = t; at = start } in w in
    let parts : placed_from start (slice_split is_space (drop start line)) ≡ word text ∷ placed_from (start + len + 1) (slice_split is_space (drop (start + len + 1) line)) =
    placed_first start (drop start line) some
    ∙ ap (λ (t : List ℕ). word t ∷ placed_from (start + length t + 1) (slice_split is_space (after_first is_space (drop start line)))) (sym same)
    ∙ ap (λ (n : ℕ). word text ∷ placed_from (start + n + 1) (slice_split is_space (after_first is_space (drop start line)))) (sym whole)
    ∙ ap (λ (rest : List ℕ). word text ∷ placed_from (start + len + 1) (slice_split is_space rest)) (drop-drop (position_or_len is_space (drop start line) + 1) start line ∙ ap (λ (n : ℕ). drop n line) (omega arith)) in
    append_assoc sofar (word text ∷ []) (placed_from (start + len + 1) (slice_split is_space (drop (start + len + 1) line)))
    ∙ ap (λ (rest : List Placed). sofar ++ rest) (sym parts) ∙ here

-- the last word
pub word_last : (line text : List ℕ) (start len : ℕ) (sofar all : List Placed) → text ≡ before_first is_space (drop start line) → len ≡ length text → start + len ≡ length line → sofar ++ placed_from start (slice_split is_space (drop start line)) ≡ all → sofar ++ record { text = text; at = start } ∷ [] ≡ all
word_last line text start len sofar all same whole ends here =
    let size : length text ≡ position_or_len is_space (drop start line) = ap length same ∙ length-word (drop start line) in
    let none : position_or_len is_space (drop start line) ≡ length (drop start line) = omega (arith, length-drop start line) in
    let word = λ (t : List ℕ). let w : Placed = record { text = t; at = start } in w in
    let all_of : text ≡ drop start line = same ∙ take_all (position_or_len is_space (drop start line)) (drop start line) (omega arith) in
    ap (λ (t : List ℕ). sofar ++ word t ∷ []) all_of ∙ ap (λ (rest : List Placed). sofar ++ rest) (sym (placed_last start (drop start line) none)) ∙ here

-- a word of the code at the end of some
pub placed-push : (words new : List Word) (word : Word) (start : ℕ) → new ≡ words ++ word ∷ [] → word.at ≡ start → map placed new ≡ map placed words ++ record { text = word.text.now; at = start } ∷ []
placed-push words new word start pushed at =
    let here = λ (n : ℕ). let w : Placed = record { text = word.text.now; at = n } in w in
    ap (map placed) pushed ∙ map-append placed words (word ∷ []) ∙ ap (λ (n : ℕ). map placed words ++ here n ∷ []) at

-- the texts of words are what they were
pub text-placed_from : (at : ℕ) (texts : List (List ℕ)) → map (λ (word : Placed). word.text) (placed_from at texts) ≡ texts
text-placed_from at [] = refl
text-placed_from at (text ∷ texts) = ap (λ (rest : List (List ℕ)). text ∷ rest) (text-placed_from (at + length text + 1) texts)

-- a line is its words, joined by single spaces
pub joined_again : (line : List ℕ) → join_with_byte 32 (map (λ (word : Placed). word.text) (words_of line)) ≡ line
unfolding words_of
joined_again line = ap (join_with_byte 32) (text-placed_from 0 (slice_split is_space line)) ∙ join_with_byte-slice_split 32 line
