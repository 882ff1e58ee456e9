-- What is counted of lines, one after another.
use Rattle.std.proofs.Common.{◌≡◌, ◌∙◌, ◌+◌, ◌^◌, ◌<◌, ◌≤◌, ℕ, Bool, true, false, List, [], ◌∷◌, ◌++◌, Some, None, ap, sym, subst, refl, arith, length, take, drop, sum, filter, flat_map, position, append_assoc, append-nil, length-append}
use Rattle.std.specs.Prelude.{if◌then◌else◌}
use Rattle.std.specs.List.{fold, position_or_len}
use Rattle.std.proofs.lemmas.List.{drop-drop, take_all, drop_all}
use Rattle.draid_lines.specs.Lines.{is_end, lines_of}
use Rattle.draid_lines.proofs.Ends.{lines_first, lines_last, lines_none, position_none, position_some}
use Rattle.draid_summary.specs.Summary.{Counts, byte_replies, capped, error_counts, errors_in, is_of_bytes, with_end}
use Rattle.draid_summary.specs.declared.tally.Tally.{Tally}
use Rattle.sha2.specs.Hashers.{Holds256}
use Rattle.std.proofs.lemmas.List.Concat.{flat_map-append}
use Rattle.std.proofs.lemmas.List.Sums.{sum_by-append, sum_by-cons}
use Rattle.std.proofs.lemmas.List.Elements.{filter-append}

-- a text whose first line ends
pub line_ended : (text : List ℕ) (len : ℕ) → position is_end text ≡ Some len → lines_of text ≡ take len text ∷ lines_of (drop 1 (drop len text))
line_ended text len found =
    let some = position_some text len found in
    let first : position_or_len is_end text < length text = omega (arith, some.0, some.1) in
    lines_first text first ∙ ap (λ n. take n text ∷ lines_of (drop (n + 1) text)) (sym some.0) ∙ ap (λ rest. take len text ∷ lines_of rest) (sym (drop-drop 1 len text))

-- one whose only line has no end
pub line_unended : (text : List ℕ) → 0 < length text → position is_end text ≡ None → lines_of text ≡ take (length text) text ∷ lines_of (drop (length text) text)
line_unended text some missed =
    let whole : take (length text) text ≡ text = take_all (length text) text (omega arith) in
    let behind : drop (length text) text ≡ [] = drop_all (length text) text (omega arith) in
    let rest : lines_of (drop (length text) text) ≡ [] = ap lines_of behind ∙ lines_none in
    lines_last text (position_none text missed) (λ none. (let empty = ap length none in omega (arith, some, empty)))
    ∙ ap (λ (line : List ℕ). line ∷ []) (sym whole) ∙ ap (λ (more : List (List ℕ)). take (length text) text ∷ more) (sym rest)

-- numbers added one by one, up to the greatest
pub added_up : (counts : List ℕ) (before : ℕ) → before < 2 ^ 64 → fold (λ a n. capped (a + n)) before counts ≡ capped (before + sum counts)
added_up [] before fits = omega (arith, fits)
added_up (n ∷ counts) before fits =
    let more = added_up counts (capped (before + n)) (omega arith) in
    let all = sum_by-cons (λ x. x) n counts in
    more ∙ omega (arith, all)

-- the errors of one more line
errors_more : (lines : List (List ℕ)) (line : List ℕ) → errors_in (lines ++ line ∷ []) ≡ errors_in lines + sum (error_counts line)
errors_more lines line =
    let parts : flat_map error_counts (lines ++ line ∷ []) ≡ flat_map error_counts lines ++ error_counts line =
    flat_map-append error_counts lines (line ∷ []) ∙ ap (λ (more : List ℕ). flat_map error_counts lines ++ more) (append-nil (error_counts line)) in
    ap sum parts ∙ sum_by-append (λ x. x) (flat_map error_counts lines) (error_counts line)

-- the replies to sums and reads, with one more line
bytes_more : (lines : List (List ℕ)) (line : List ℕ) (is : Bool) → is_of_bytes line ≡ is → byte_replies (lines ++ line ∷ []) ≡ byte_replies lines ++ (if is then with_end line else [])
bytes_more lines line is same = ap (flat_map with_end) (filter-append is_of_bytes lines (line ∷ [])) ∙ flat_map-append with_end (filter is_of_bytes lines) (filter is_of_bytes (line ∷ []))
    ∙ ap (λ (more : List ℕ). byte_replies lines ++ more) (last is same)
  where
    last : (b : Bool) → is_of_bytes line ≡ b → flat_map with_end (filter is_of_bytes (line ∷ [])) ≡ (if b then with_end line else [])
    last true told = rw told (append-nil (with_end line))
    last false told = rw told refl

-- one more line was counted
pub counts_more : (lines : List (List ℕ)) (line : List ℕ) (old new : Tally) (is : Bool) → Counts lines old → new.lines ≡ old.lines + 1 → new.errors ≡ capped (old.errors + sum (error_counts line)) → is_of_bytes line ≡ is
    → ((m : List ℕ) → Holds256 old.sums m → Holds256 new.sums (m ++ (if is then with_end line else []))) → Counts (lines ++ line ∷ []) new
counts_more lines line old new is counts one more same hashed = record {
  lines_are = (let was = counts.lines_are in let long = length-append lines (line ∷ []) in omega (arith, was, one, long));
  errors_are = (let was = counts.errors_are in let sums = errors_more lines line in omega (arith, was, more, sums));
  hashed = subst (Holds256 new.sums) (sym (bytes_more lines line is same)) (hashed (byte_replies lines) counts.hashed);
}

-- ---- the loop over all lines

-- some lines of a text were counted, and the others are those of the rest
pub record Tallied (printed rest : List ℕ) (tally : Tally) : Type 0 where
  pub lines : List (List ℕ)
  pub counts : Counts lines tally
  pub lines_are : lines_of printed ≡ lines ++ lines_of rest
  pub few : length lines + length rest ≤ length printed

pub tallied_none : (printed : List ℕ) (tally : Tally) → Counts [] tally → Tallied printed printed tally
tallied_none printed tally counts = record { lines = []; counts = counts; lines_are = refl; few = omega arith }

pub tallied_more : (printed rest line behind : List ℕ) (old new : Tally) (is : Tallied printed rest old) → lines_of rest ≡ line ∷ lines_of behind → length behind < length rest
    → ((lines : List (List ℕ)) → Counts lines old → Counts (lines ++ line ∷ []) new) → Tallied printed behind new
tallied_more printed rest line behind old new is first shorter added = record {
  lines = is.lines ++ line ∷ [];
  counts = added is.lines is.counts;
  lines_are = is.lines_are ∙ ap (λ (more : List (List ℕ)). is.lines ++ more) first ∙ sym (append_assoc is.lines (line ∷ []) (lines_of behind));
  few = (let was = is.few in let long = length-append is.lines (line ∷ []) in omega (arith, was, shorter, long));
}

pub tallied_all : (printed rest : List ℕ) (tally : Tally) → Tallied printed rest tally → rest ≡ [] → Counts (lines_of printed) tally
tallied_all printed rest tally is none = subst (λ (lines : List (List ℕ)). Counts lines tally) (sym (is.lines_are ∙ ap (λ (more : List ℕ). is.lines ++ lines_of more) none ∙ ap (λ (more : List (List ℕ)). is.lines ++ more) lines_none ∙ append-nil is.lines)) is.counts
