-- The lines of a workload are read as what they say.
use Rattle.std.proofs.Common.{◌≡◌, ℕ, ◌+◌, ◌*◌, ◌%◌, ◌<◌, ◌≤◌, ◌^◌, List, [], ◌∷◌, ◌++◌, codes, None, Some, Ok, refl, sym, ap, ◌∙◌, false, inl, inr, arith, slice_index, All}
use Rattle.std.specs.Fmt.{decimal}
use Rattle.std.proofs.lemmas.Fmt.{decimal_digit, decimal_step}
use Rattle.std.specs.List.{range_with_len}
use Rattle.std.proofs.lemmas.List.FromFn.{get_or-range_with_len}
use Rattle.std.proofs.lemmas.List.Elements.{All-append, All-cons, All-map, All-from_recursion}
use Rattle.draid_script.specs.Grammar.{lane_of, line_of}
use Rattle.draid_script.specs.Keys.{keys_in, nothing_given}
use Rattle.draid_script.specs.Line.{Command, CreatePool, ImportPool, SyncPool, CrashPool, FillObjects, ReadObject, FreeObject, SumObjects, TakeOffline, AttachSpare, ReplaceDisk, RebuildPool, ScrubPool, RebalanceSlot, OpenLanes, LaneCommand, SectionEnd, InLane}
use Rattle.draid_script.specs.Shape.{IsLaneText, IsLine, texts_of}
use Rattle.draid_script.specs.Word.{is_space}
use Rattle.draid_script.specs.Writing.{IsForLanes, IsWritable, setting, written_lane_line, written_line}
use Rattle.draid_script.proofs.Joined.{IsWord, decimal_word, literal_word, split_joined}
use Rattle.draid_gen.specs.Workload.{Line, IsReadAs, words_of, each, opening, fill, fills, section_end, free, frees, moves, sum, sums, read, reads, restart, lines_of}

-- what the laws of the grammar say
abbrev OutsideLaw : Type 0
OutsideLaw = (command : Command) → IsWritable command → line_of (written_line command) ≡ Ok command

abbrev ExactLaw : Type 0
ExactLaw = (text : List ℕ) (command : Command) → IsLine text command → line_of text ≡ Ok command

abbrev LaneLaw : Type 0
LaneLaw = (lane : ℕ) (command : Command) → lane < 4 → IsForLanes command → IsWritable command
    → lane_of 4 (written_lane_line lane command) ≡ Ok (InLane lane command)

abbrev EndLaw : Type 0
EndLaw = (text : List ℕ) (line : LaneCommand) → IsLaneText 4 text line → lane_of 4 text ≡ Ok line

-- numbers below a limit, each with a line that is read
each_read : (n : ℕ) (line : ℕ → Line) → ((k : ℕ) → IsReadAs (line k)) → All IsReadAs (each n line)
each_read n line here = All-map IsReadAs line (range_with_len 0 n) (λ k d below. here _)

-- numbers as they are spelled
zero_text : decimal 0 ≡ codes "0"
zero_text = decimal_digit 0 (omega arith)

four_text : decimal 4 ≡ codes "4"
four_text = decimal_digit 4 (omega arith)

eleven_text : decimal 11 ≡ codes "11"
eleven_text = decimal_step 11 (omega arith) (omega arith) ∙ ap (λ (digits : List ℕ). digits ++ 49 ∷ []) (decimal_digit 1 (omega arith))

hundred_text : decimal 100 ≡ codes "100"
hundred_text =
    decimal_step 100 (omega arith) (omega arith)
    ∙ ap (λ (digits : List ℕ). digits ++ 48 ∷ [])
    (decimal_step 10 (omega arith) (omega arith) ∙ ap (λ (digits : List ℕ). digits ++ 48 ∷ []) (decimal_digit 1 (omega arith)))

-- the words of the first line
seed_word : (number : ℕ) → number < 2 ^ 64 → IsWord (setting (codes "seed") number)
seed_word number small =
    All-append (λ byte. is_space byte ≡ false) (codes "seed") (61 ∷ decimal number) (literal_word (codes "seed") refl)
    (All-cons (λ byte. is_space byte ≡ false) 61 (decimal number) refl (decimal_word number small))

create_words : (number : ℕ) → number < 2 ^ 64
    → texts_of (codes "create draid2:4d:11c:1s 11 seed=" ++ decimal number)
    ≡ codes "create" ∷ codes "draid2:4d:11c:1s" ∷ decimal 11 ∷ setting (codes "seed") number ∷ []
create_words number small =
    ap (λ (eleven : List ℕ). texts_of (codes "create draid2:4d:11c:1s " ++ (eleven ++ (codes " seed=" ++ decimal number)))) (sym eleven_text)
    ∙ split_joined (codes "create") (codes "draid2:4d:11c:1s" ∷ decimal 11 ∷ setting (codes "seed") number ∷ [])
    (literal_word (codes "create") refl)
    (literal_word (codes "draid2:4d:11c:1s") refl, (decimal_word 11 (omega arith), (seed_word number small, tt)))

create_is : (number : ℕ) → number < 2 ^ 64
    → IsLine (codes "create draid2:4d:11c:1s 11 seed=" ++ decimal number)
    (CreatePool (codes "draid2:4d:11c:1s") 11 (keys_in (record nothing_given { seed = Some number })))
create_is number small =
    inr (
      (
        setting (codes "seed") number ∷ [],
        create_words number small,
        (
          record nothing_given { seed = Some number },
          (
            record nothing_given { seed = Some number },
            (number, inr (inr (inr (inr (inl (refl, small, refl, refl)))))),
            refl,
          ),
          refl,
        ),
      ),
      (omega arith, record { sector = omega arith; height = omega arith; metaslabs = omega arith; slices = omega arith; seed = small; version = omega arith }),
    )

opening_read : OutsideLaw → ExactLaw → (number : ℕ) → number < 2 ^ 64 → All IsReadAs (opening number)
opening_read out exact number small =
    All-from_recursion IsReadAs (opening number) (exact _ _ (create_is number small), (lanes, tt))
  where
    lanes : line_of (codes "lanes 4") ≡ Ok (OpenLanes 4)
    lanes = ap (λ (four : List ℕ). line_of (codes "lanes " ++ four)) (sym four_text) ∙ out (OpenLanes 4) (omega arith, omega arith)

fill_read : LaneLaw → (number lane word : ℕ) → number < 2 ^ 64 → lane < 4 → IsReadAs (fill number lane word)
fill_read law number lane word small below =
    let len : ℕ = 4096 * (1 + word % 8) in
    ap (λ (hundred : List ℕ). lane_of 4 (decimal lane ++ (codes " fill " ++ (decimal (100 * lane) ++ (codes " " ++ (hundred ++ (codes " " ++ (decimal len ++ (codes " " ++ decimal number)))))))))
    (sym hundred_text)
    ∙ law lane (FillObjects (100 * lane) 100 (4096 * (1 + word % 8)) number) below tt
    ((omega arith, omega arith, omega arith), (omega arith, omega arith), small)

fills_read : LaneLaw → (number : ℕ) (words : List ℕ) → number < 2 ^ 64 → All IsReadAs (fills number words)
fills_read law number words small =
    let here : (k : ℕ) → k < 4 → IsReadAs (fill number k (slice_index words k)) = λ k below. fill_read law number k (slice_index words k) small below in
    All-from_recursion IsReadAs (fills number words)
    (here 0 (omega arith), (here 1 (omega arith), (here 2 (omega arith), (here 3 (omega arith), tt))))

section_end_read : OutsideLaw → EndLaw → All IsReadAs section_end
section_end_read out end = All-from_recursion IsReadAs section_end (end _ SectionEnd refl, (out SyncPool tt, tt))

frees_read : OutsideLaw → (words : List ℕ) → All IsReadAs (frees words)
frees_read out words =
    each_read 16 (λ i. free (slice_index words (4 + i))) (λ i. out (FreeObject (slice_index words (4 + i) % 400)) (omega arith))

moves_read : OutsideLaw → (child : ℕ) → child < 11 → All IsReadAs (moves child)
moves_read out child below =
    All-from_recursion IsReadAs (moves child) (
      out (TakeOffline child) (omega arith),
      (
        spare,
        (
          out (RebuildPool None) tt,
          (
            out (ScrubPool None) tt,
            (out (ReplaceDisk child None) (omega arith, tt), (out (RebalanceSlot child) (omega arith), tt)),
          ),
        ),
      ),
    )
  where
    spare : line_of (codes "spare " ++ (decimal child ++ codes " 0")) ≡ Ok (AttachSpare child 0)
    spare =
        ap (λ (zero : List ℕ). line_of (codes "spare " ++ (decimal child ++ (codes " " ++ zero)))) (sym zero_text)
        ∙ out (AttachSpare child 0) (omega arith, omega arith)

sums_read : OutsideLaw → All IsReadAs sums
sums_read out =
    let here : (first : ℕ) → first ≤ 300 → IsReadAs (sum first) =
    λ first below. ap (λ (hundred : List ℕ). line_of (codes "sum " ++ (decimal first ++ (codes " " ++ hundred)))) (sym hundred_text)
    ∙ out (SumObjects first 100) (omega arith, omega arith, omega arith) in
    All-from_recursion IsReadAs sums
    (here 0 (omega arith), (here 100 (omega arith), (here 200 (omega arith), (here 300 (omega arith), tt))))

reads_read : OutsideLaw → All IsReadAs reads
reads_read out =
    All-map IsReadAs (λ tens. read (10 * tens)) (range_with_len 0 40) (λ k d below. out (ReadObject _) (omega (arith, get_or-range_with_len 0 40 k d below)))

restart_read : OutsideLaw → All IsReadAs restart
restart_read out = All-from_recursion IsReadAs restart (out SyncPool tt, (out CrashPool tt, (out ImportPool tt, tt)))

both : (xs ys : List Line) → All IsReadAs xs → All IsReadAs ys → All IsReadAs (xs ++ ys)
both xs ys = All-append IsReadAs xs ys

pub all_read : OutsideLaw → ExactLaw → LaneLaw → EndLaw → (number : ℕ) → number < 2 ^ 64 → All IsReadAs (lines_of number)
unfolding lines_of
all_read out exact lane end number small =
    let words : List ℕ = words_of number in
    let child : ℕ = slice_index words 20 % 11 in
    let below : child < 11 = omega arith in
    let two : List Line = opening number ++ fills number words in
    let three : List Line = two ++ section_end in
    let four : List Line = three ++ frees words in
    let five : List Line = four ++ moves child in
    let six : List Line = five ++ sums in
    let seven : List Line = six ++ reads in
    let eight : List Line = seven ++ restart in
    both eight sums (both seven restart (both six reads (both five sums (both four (moves child) (both three (frees words) (both two section_end (both (opening number) (fills number words)
    (opening_read out exact number small)
    (fills_read lane number words small))
    (section_end_read out end))
    (frees_read out words))
    (moves_read out child below))
    (sums_read out))
    (reads_read out))
    (restart_read out))
    (sums_read out)
