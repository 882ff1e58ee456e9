-- What is answered where the source tells, from what the held bytes have.
use Rattle.std.proofs.Common.{◌≡◌, ◌≢◌, ℕ, ◌+◌, ◌<◌, ◌≤◌, ◌==◌, ◌⊎◌, List, [], ◌∷◌, ◌++◌, length, take, drop, min, All, Option, Some, None, Ok, Err, refl, sym, ap, ◌∙◌, subst, inl, inr, arith, append_assoc, length-append, length-take, append-nil}
use Rattle.draid_names.specs.declared.numbers.TheConstants.{LONGEST_LINE}
use Rattle.std.proofs.lemmas.List.{drop-append-le, drop-drop, take-append-le, take_all, drop_all, drop_min, nil_from_length}
use Rattle.std.proofs.lemmas.List.Elements.{All-same}
use Rattle.std.specs.Io.KnownBytes.{IsAtEnd, Keeps, prepend_known}
use Rattle.std.specs.List.{before_first, after_first, position_or_len}
use Rattle.std.specs.declared.vec.Vec.{Vec}
use Rattle.std.specs.declared.alloc.Global.{Global}
use Rattle.std.proofs.lemmas.Bool.{cases_lt, cond-false, ne_eqb}
use Rattle.draid_lines.specs.declared.lines.ReadFault.{ReadFault}
use Rattle.draid_lines.specs.declared.lines.ReadFault.TheVariants.{SourceFault, TooLong, NoMemory}
use Rattle.draid_lines.specs.Lines.{Answers, Cuts, Finds, IsTooLong, Takes, WhereKnown, is_end, lines_of, longest_after, most_lines}
use Rattle.draid_lines.proofs.Ends.{position-le, position-append_none, position-append_some, lines_first, lines_last, lines_none, no_end_before}

keeps_more : (old mid new : Option (List ℕ)) → Keeps old mid → Keeps mid new → Keeps old new
keeps_more None mid new a b = tt
keeps_more (Some xs) None new a b = absurd a
keeps_more (Some xs) (Some ys) None a b = absurd b
keeps_more (Some xs) (Some ys) (Some zs) a b = b ∙ a

-- what is known goes on through two steps
pub takes_more : (old mid new : List ℕ) (left left' left'' : Option (List ℕ)) → Takes old mid left left' → Takes mid new left' left'' → Takes old new left left''
takes_more old mid new left left' left'' a b = record {
  more = (a.more.0 ++ b.more.0, b.more.1 ∙ ap (λ (front : List ℕ). front ++ b.more.0) a.more.1 ∙ append_assoc old a.more.0 b.more.0);
  keeps = keeps_more (prepend_known old left) (prepend_known mid left') (prepend_known new left'') a.keeps b.keeps;
}

-- how long the part before the first end is
length-before_first : (bytes : List ℕ) → length (before_first is_end bytes) ≡ position_or_len is_end bytes
length-before_first bytes = omega (arith, length-take (position_or_len is_end bytes) bytes, position-le bytes)

-- a line that may be given is not too long
not_too_long : (given : ℕ) (bytes line : List ℕ) → before_first is_end bytes ≡ line → given < most_lines → length line ≤ LONGEST_LINE → IsTooLong given bytes → ⊥
not_too_long given bytes line same few short (inl long) = omega (arith, ap length same)
not_too_long given bytes line same few short (inr more) = omega (arith, more.0)

-- where the held bytes have the end of a line, it is the first of all that is to come
line_with_end : (given : ℕ) (held left : List ℕ) (line : Vec ℕ Global) → Cuts given held (Ok (Some line)) → position_or_len is_end held < length held → Answers given (held ++ left) (after_first is_end held ++ left) (Ok (Some line))
line_with_end given held left line cut some =
    let first : position_or_len is_end (held ++ left) ≡ position_or_len is_end held = position-append_some held left some in
    let before : before_first is_end (held ++ left) ≡ line.items =
    ap (λ n. take n (held ++ left)) first ∙ take-append-le (position_or_len is_end held) held left (omega arith) ∙ sym cut.0 in
    let after : after_first is_end (held ++ left) ≡ after_first is_end held ++ left =
    ap (λ n. drop (n + 1) (held ++ left)) first ∙ drop-append-le (position_or_len is_end held + 1) held left (omega arith) in
    let more : position_or_len is_end (held ++ left) < length (held ++ left) = omega (arith, length-append held left) in
    let lines : lines_of (held ++ left) ≡ line.items ∷ lines_of (after_first is_end held ++ left) =
    lines_first (held ++ left) more ∙ ap (λ (part : List ℕ). part ∷ lines_of (after_first is_end (held ++ left))) before
    ∙ ap (λ (rest : List ℕ). line.items ∷ lines_of rest) after in
    (lines, not_too_long given (held ++ left) line.items before cut.2 cut.3)

-- where nothing is left, the held bytes may lack it
line_without_end : (given : ℕ) (held : List ℕ) (line : Vec ℕ Global) → Cuts given held (Ok (Some line)) → Answers given held (after_first is_end held) (Ok (Some line))
line_without_end given held line cut =
    elim (cases_lt (position_or_len is_end held) (length held)) [
      | inl some ↦ (lines_first held some ∙ ap (λ (part : List ℕ). part ∷ lines_of (after_first is_end held)) (sym cut.0), not_too_long given held line.items (sym cut.0) cut.2 cut.3)
      | inr h ↦
          let none : position_or_len is_end held ≡ length held = omega (arith, position-le held) in
          let whole : line.items ≡ held = cut.0 ∙ take_all (position_or_len is_end held) held (omega arith) in
          let rest : after_first is_end held ≡ [] = drop_all (position_or_len is_end held + 1) held (omega arith) in
          let lines : lines_of held ≡ line.items ∷ lines_of (after_first is_end held) =
          lines_last held none cut.1 ∙ ap (λ (part : List ℕ). part ∷ []) (sym whole) ∙ ap (λ (more : List (List ℕ)). line.items ∷ more) (sym (ap lines_of rest ∙ lines_none)) in
          (lines, not_too_long given held line.items (sym cut.0) cut.2 cut.3)
    ]

-- the end of a line is held, or nothing is left
held_or_at_end : (given len : ℕ) (held left : List ℕ) (line : Vec ℕ Global) → Finds (longest_after given) held (Some left) len → Cuts given held (Ok (Some line)) → (position_or_len is_end held < length held) ⊎ (left ≡ [])
held_or_at_end given len held left line finds cut = elim finds.enough [
  | inl some ↦ inl (omega (arith, finds.first))
  | inr more ↦ elim more [
    | inl long ↦
        let limit : longest_after given ≡ LONGEST_LINE = cond-false (given == most_lines) 0 LONGEST_LINE (ne_eqb given most_lines (omega (arith, cut.2))) in
        inl (omega (arith, cut.3, ap length cut.0, length-before_first held, position-le held))
    | inr ended ↦ inr ended
  ]
]

-- what stands behind a line and its end
pub behind_line : (items : List ℕ) (start len count next : ℕ) → count ≡ length items → len ≡ position_or_len is_end (drop start items) → next ≡ min count (start + len + 1) → drop next items ≡ after_first is_end (drop start items)
behind_line items start len count next whole first ends =
    let place : next ≡ min (start + (position_or_len is_end (drop start items) + 1)) (length items) = omega arith in
    ap (λ n. drop n items) place ∙ drop_min (start + (position_or_len is_end (drop start items) + 1)) items
    ∙ sym (drop-drop (position_or_len is_end (drop start items) + 1) start items)

pub given_line : (given len : ℕ) (old held rest : List ℕ) (left left' : Option (List ℕ)) (line : Vec ℕ Global) → Takes old held left left' → Finds (longest_after given) held left' len → Cuts given held (Ok (Some line)) → rest ≡ after_first is_end held → WhereKnown (prepend_known old left) (prepend_known rest left') (λ before after. Answers given before after (Ok (Some line)))
given_line given len old held rest None left' line takes finds cut behind = tt
given_line given len old held rest (Some xs) None line takes finds cut behind = absurd takes.keeps
given_line given len old held rest (Some xs) (Some ys) line takes finds cut behind =
    let P : List ℕ → Type 0 = λ before. Answers given before (after_first is_end held ++ ys) (Ok (Some line)) in
    let Q : List ℕ → Type 0 = λ left. Answers given (held ++ left) (after_first is_end held ++ left) (Ok (Some line)) in
    let R : List ℕ → List ℕ → Type 0 = λ before after. Answers given before after (Ok (Some line)) in
    let all : R (held ++ []) (after_first is_end held ++ []) = rw (append-nil held, append-nil (after_first is_end held)) (line_without_end given held line cut) in
    let answers : R (old ++ xs) (after_first is_end held ++ ys) = subst P takes.keeps (elim (held_or_at_end given len held ys line finds cut) [
      | inl some ↦ line_with_end given held ys line cut some
      | inr ended ↦ subst Q (sym ended) all
    ]) in
    let S : List ℕ → Type 0 = λ rest. Answers given (old ++ xs) (rest ++ ys) (Ok (Some line)) in
    subst S (sym behind) answers

-- the line lacks the byte that ends it
pub line_parts : (given : ℕ) (held : List ℕ) (line : Vec ℕ Global) → Cuts given held (Ok (Some line)) → (length line.items ≤ LONGEST_LINE) × All (λ byte. byte ≢ 10) line.items × (given < most_lines)
line_parts given held line cut =
    (cut.3, All-same (λ byte. byte ≢ 10) line.items (before_first is_end held) cut.0 (no_end_before held), cut.2)

ended_known : (given : ℕ) (old held : List ℕ) (left left' : Option (List ℕ)) → Keeps (prepend_known old left) (prepend_known held left') → held ≡ [] → IsAtEnd left' → WhereKnown (prepend_known old left) (prepend_known held left') (λ before after. Answers given before after (Ok None))
ended_known given old held None left' keeps none ended = tt
ended_known given old held (Some xs) None keeps none ended = absurd keeps
ended_known given old held (Some xs) (Some ys) keeps none ended =
    let after : held ++ ys ≡ [] = rw (none, ended) refl in
    let before : old ++ xs ≡ [] = sym keeps ∙ after in
    (before, after, ap lines_of before ∙ lines_none)

pub given_none : (given longest len : ℕ) (old held : List ℕ) (left left' : Option (List ℕ)) → Takes old held left left' → Finds longest held left' len → held ≡ [] → (old ≡ []) × IsAtEnd left' × WhereKnown (prepend_known old left) (prepend_known held left') (λ before after. Answers given before after (Ok None))
given_none given longest len old held left left' takes finds none =
    let empty : length held ≡ 0 = ap length none in
    let begun : old ≡ [] = nil_from_length old (omega (arith, ap length takes.more.1, length-append old takes.more.0)) in
    let ended : IsAtEnd left' = elim finds.enough [
      | inl some ↦ let no : ⊥ = omega arith in absurd no
      | inr more ↦ elim more [ inl long ↦ let no : ⊥ = omega arith in absurd no | inr ended ↦ ended ]
    ] in
    (begun, ended, ended_known given old held left left' takes.keeps none ended)

-- more bytes don't make a line shorter
too_long_more : (given : ℕ) (held left : List ℕ) → IsTooLong given held → IsTooLong given (held ++ left)
too_long_more given held left (inl long) =
    elim (cases_lt (position_or_len is_end held) (length held)) [
      | inl some ↦ inl (omega (arith, length-before_first held, length-before_first (held ++ left), position-append_some held left some))
      | inr h ↦ inl (omega (arith, length-before_first held, length-before_first (held ++ left), position-append_none held left (omega (arith, position-le held)), position-le held))
    ]
too_long_more given held left (inr more) =
    inr (more.0, λ none. more.1 (nil_from_length held (omega (arith, ap length none, length-append held left))))

pub given_too_long : (given line : ℕ) (old held : List ℕ) (left left' : Option (List ℕ)) → Takes old held left left' → IsTooLong given held → WhereKnown (prepend_known old left) (prepend_known held left') (λ before after. Answers given before after (Err (TooLong line)))
given_too_long given line old held None left' takes long = tt
given_too_long given line old held (Some xs) None takes long = absurd takes.keeps
given_too_long given line old held (Some xs) (Some ys) takes long =
    let P : List ℕ → Type 0 = λ bytes. IsTooLong given bytes in
    (subst P takes.keeps (too_long_more given held ys long), takes.keeps)

kept_known : (old held : List ℕ) (left left' : Option (List ℕ)) → Takes old held left left' → WhereKnown (prepend_known old left) (prepend_known held left') (λ before after. after ≡ before)
kept_known old held None left' takes = tt
kept_known old held (Some xs) None takes = absurd takes.keeps
kept_known old held (Some xs) (Some ys) takes = takes.keeps

pub given_refused : (given : ℕ) (old held : List ℕ) (left left' : Option (List ℕ)) (fault : ReadFault) → Takes old held left left' → ((line : ℕ) → fault ≡ TooLong line → ⊥) → WhereKnown (prepend_known old left) (prepend_known held left') (λ before after. Answers given before after (Err fault))
given_refused given old held left left' SourceFault takes other = kept_known old held left left' takes
given_refused given old held left left' (TooLong line) takes other = absurd (other line refl)
given_refused given old held left left' NoMemory takes other = kept_known old held left left' takes

-- what a refusal to cut says
pub given_fault : (given : ℕ) (old held : List ℕ) (left left' : Option (List ℕ)) (fault : ReadFault) → Takes old held left left' → Cuts given held (Err fault) → WhereKnown (prepend_known old left) (prepend_known held left') (λ before after. Answers given before after (Err fault))
given_fault given old held left left' SourceFault takes cut = absurd cut
given_fault given old held left left' (TooLong line) takes cut = given_too_long given line old held left left' takes cut.1
given_fault given old held left left' NoMemory takes cut = kept_known old held left left' takes
