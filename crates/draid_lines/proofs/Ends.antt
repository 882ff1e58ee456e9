-- Where the first end of a line stands in bytes that are put together, and what lines they have.
use Rattle.std.proofs.Common.{◌≡◌, ◌≢◌, ℕ, ◌+◌, ◌<◌, ◌≤◌, ◌==◌, Bool, true, false, cond, not, List, [], ◌∷◌, ◌++◌, length, drop, get_or, Some, None, refl, sym, ap, ◌∙◌, inl, inr, arith, length-append, length-take, get_or-take, drop_at, All, Contains, position}
use Rattle.std.specs.List.{slice_split, before_first, after_first, position_or_len}
use Rattle.std.proofs.lemmas.Bool.{cond_both, lt-ltb, le-ltb, cases_lt, eq-eqb, ne_eqb, cond-false, both_ways}
use Rattle.std.proofs.lemmas.List.Sums.{fails_before_first}
use Rattle.std.proofs.lemmas.List.Splits.{slice_split_first, slice_split_none, length-slice_split}
use Rattle.draid_lines.specs.Lines.{is_end, lines_of, lines_of_parts}

-- the first end stands within the bytes, or they have none
pub position-le : (bytes : List ℕ) → position_or_len is_end bytes ≤ length bytes
position-le [] = omega arith
position-le (byte ∷ bytes) =
    let rest : position_or_len is_end bytes ≤ length bytes = position-le bytes in
    cond_both (not (is_end byte)) (1 + position_or_len is_end bytes) 0 (λ n. n ≤ length (byte ∷ bytes)) (λ _. omega arith) (λ _. omega arith)

-- bytes behind bytes that have no end
pub position-append_none : (front bytes : List ℕ) → position_or_len is_end front ≡ length front → position_or_len is_end (front ++ bytes) ≡ length front + position_or_len is_end bytes
position-append_none [] bytes none = omega arith
position-append_none (byte ∷ front) bytes none =
    let rest : position_or_len is_end front ≡ length front → position_or_len is_end (front ++ bytes) ≡ length front + position_or_len is_end bytes = position-append_none front bytes in
    let P : Bool → Type 0 = λ ends. cond (not ends) (1 + position_or_len is_end front) 0 ≡ length (byte ∷ front) → cond (not ends) (1 + position_or_len is_end (front ++ bytes)) 0 ≡ length (byte ∷ front) + position_or_len is_end bytes in
    (elim (is_end byte) as P [ true ↦ λ none. omega arith | false ↦ λ none. omega (arith, rest (omega arith)) ]) none

-- bytes behind bytes that have an end
pub position-append_some : (front bytes : List ℕ) → position_or_len is_end front < length front → position_or_len is_end (front ++ bytes) ≡ position_or_len is_end front
position-append_some [] bytes some = omega arith
position-append_some (byte ∷ front) bytes some =
    let rest : position_or_len is_end front < length front → position_or_len is_end (front ++ bytes) ≡ position_or_len is_end front = position-append_some front bytes in
    let P : Bool → Type 0 = λ ends. cond (not ends) (1 + position_or_len is_end front) 0 < length (byte ∷ front) → cond (not ends) (1 + position_or_len is_end (front ++ bytes)) 0 ≡ cond (not ends) (1 + position_or_len is_end front) 0 in
    (elim (is_end byte) as P [ true ↦ λ some. refl | false ↦ λ some. omega (arith, rest (omega arith)) ]) some

-- what `position` answers
pub position_none : (bytes : List ℕ) → position is_end bytes ≡ None → position_or_len is_end bytes ≡ length bytes
position_none bytes none =
    elim (cases_lt (position_or_len is_end bytes) (length bytes)) [
      | inl h ↦ let some : position is_end bytes ≡ Some (position_or_len is_end bytes) = rw (lt-ltb (position_or_len is_end bytes) (length bytes) h) refl in cc
      | inr h ↦ omega (arith, position-le bytes)
    ]

pub position_some : (bytes : List ℕ) (len : ℕ) → position is_end bytes ≡ Some len → (len ≡ position_or_len is_end bytes) × (len < length bytes)
position_some bytes len some =
    elim (cases_lt (position_or_len is_end bytes) (length bytes)) [
      | inl h ↦
          let found : position is_end bytes ≡ Some (position_or_len is_end bytes) = rw (lt-ltb (position_or_len is_end bytes) (length bytes) h) refl in
          let same : len ≡ position_or_len is_end bytes = cc in
          (same, omega arith)
      | inr h ↦
          let none : position is_end bytes ≡ None = rw (le-ltb (position_or_len is_end bytes) (length bytes) h) refl in
          cc
    ]

-- what was searched has no end, and behind it some bytes were added
pub found_behind : (held bytes new : List ℕ) (searched len : ℕ) → position_or_len is_end held ≡ length held → searched ≡ length held → new ≡ held ++ bytes → position is_end (drop searched new) ≡ Some len → (searched + len ≡ position_or_len is_end new) × (searched + len < length new)
found_behind held bytes new searched len none whole added found =
    let rest : drop searched new ≡ bytes = rw added (drop_at held bytes searched (sym whole)) in
    let some = position_some bytes len (ap (position is_end) (sym rest) ∙ found) in
    let first : position_or_len is_end new ≡ length held + position_or_len is_end bytes = ap (position_or_len is_end) added ∙ position-append_none held bytes none in
    let longer : length new ≡ length held + length bytes = ap length added ∙ length-append held bytes in
    (omega (arith, some.0), omega (arith, some.1))

pub none_behind : (held bytes new : List ℕ) (searched : ℕ) → position_or_len is_end held ≡ length held → searched ≡ length held → new ≡ held ++ bytes → position is_end (drop searched new) ≡ None → position_or_len is_end new ≡ length new
none_behind held bytes new searched none whole added missed =
    let rest : drop searched new ≡ bytes = rw added (drop_at held bytes searched (sym whole)) in
    let nowhere = position_none bytes (ap (position is_end) (sym rest) ∙ missed) in
    let first : position_or_len is_end new ≡ length held + position_or_len is_end bytes = ap (position_or_len is_end) added ∙ position-append_none held bytes none in
    let longer : length new ≡ length held + length bytes = ap length added ∙ length-append held bytes in
    omega (arith, nowhere)

-- bytes without an end don't have the byte that ends a line
pub holds_no_end : (bytes : List ℕ) → position_or_len is_end bytes ≡ length bytes → Contains bytes 10 → ⊥
holds_no_end bytes none found =
    let there : found.0 < length bytes = found.1 in
    let fails : is_end (get_or bytes found.0 10) ≡ false = fails_before_first is_end bytes found.0 10 (omega arith) in
    both_ways (is_end (get_or bytes found.0 10)) fails (eq-eqb (get_or bytes found.0 10) 10 found.2)

-- each byte before the first end is none
pub no_end_before : (bytes : List ℕ) → All (λ byte. byte ≢ 10) (before_first is_end bytes)
no_end_before bytes k d h same =
    let len = position_or_len is_end bytes in
    let early : k < position_or_len is_end bytes = omega (arith, length-take (position_or_len is_end bytes) bytes) in
    let there : get_or bytes k d ≡ 10 = sym (get_or-take len bytes k d early) ∙ same in
    both_ways (is_end (get_or bytes k d)) (fails_before_first is_end bytes k d early) (eq-eqb (get_or bytes k d) 10 there)

-- the parts behind the first are lines of their own
parts_more : (part : List ℕ) (parts : List (List ℕ)) → 0 < length parts → lines_of_parts (part ∷ parts) ≡ part ∷ lines_of_parts parts
parts_more part [] some = let no : ⊥ = omega arith in absurd no
parts_more part (next ∷ parts) some = refl

-- the first line, and those behind its end
pub lines_first : (bytes : List ℕ) → position_or_len is_end bytes < length bytes → lines_of bytes ≡ before_first is_end bytes ∷ lines_of (after_first is_end bytes)
unfolding lines_of
lines_first bytes some =
    let rest = slice_split is_end (after_first is_end bytes) in
    let more : 0 < length (slice_split is_end (after_first is_end bytes)) = omega (arith, length-slice_split is_end (after_first is_end bytes)) in
    ap lines_of_parts (slice_split_first is_end bytes 0 some) ∙ parts_more (before_first is_end bytes) rest more

-- one line without its end
pub lines_last : (bytes : List ℕ) → position_or_len is_end bytes ≡ length bytes → bytes ≢ [] → lines_of bytes ≡ bytes ∷ []
unfolding lines_of
lines_last [] none some = absurd (some refl)
lines_last (byte ∷ bytes) none some =
    ap lines_of_parts (slice_split_none is_end (byte ∷ bytes) (λ k d h. fails_before_first is_end (byte ∷ bytes) k d (omega arith)))
    ∙ cond-false (length (byte ∷ bytes) == 0) [] ((byte ∷ bytes) ∷ []) (ne_eqb (length (byte ∷ bytes)) 0 (omega arith))

pub lines_none : lines_of [] ≡ []
unfolding lines_of
lines_none = refl
