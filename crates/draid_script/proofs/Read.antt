-- A line that is taken is spelled as its command.
use Rattle.std.proofs.Common.{◌≡◌, ℕ, ◌+◌, ◌^◌, ◌<◌, ◌≤◌, ◌⊎◌, true, cond, List, [], ◌∷◌, ◌++◌, length, get_or, codes, Option, None, Some, IfSome, unwrap_or, Result, Ok, Err, refl, sym, ap, ◌∙◌, subst, inl, inr, arith}
use Rattle.draid_names.specs.declared.numbers.TheConstants.{LONGEST_BLOCK}
use Rattle.std.specs.Fmt.{decimal}
use Rattle.std.specs.List.{after_first, before_first, position_or_len, slice_split}
use Rattle.std.specs.Result.{result_ok}
use Rattle.std.specs.Str.{bytes_eq}
use Rattle.hex.specs.Hex.{decode_of}
use Rattle.hex.specs.declared.error.FromHexError.{FromHexError}
use Rattle.std.proofs.lemmas.Bool.{cases_Bool, cases_lt, cond-false, cond-true, eqb-true}
use Rattle.std.proofs.lemmas.Fmt.{decimal_nonempty}
use Rattle.std.proofs.lemmas.List.{drop_all}
use Rattle.std.proofs.lemmas.List.Sums.{passes_at_first, split_at_first}
use Rattle.std.proofs.lemmas.Slice.Eq.{bytes_eq-Decides}
use Rattle.draid_script.specs.declared.fault.LineFault.{LineFault}
use Rattle.draid_script.specs.declared.fault.LineFaultKind.TheVariants as why
use Rattle.draid_script.specs.declared.keys.Given.{Given}
use Rattle.draid_script.specs.declared.line.PoolKeys.{PoolKeys}
use Rattle.draid_script.specs.declared.line.StatusFormat.{StatusFormat}
use Rattle.draid_script.specs.declared.line.StatusFormat.TheVariants.{Text, Json}
use Rattle.draid_script.specs.declared.name.CommandName.{CommandName}
use Rattle.draid_script.specs.declared.name.CommandName.TheVariants as name
use Rattle.draid_script.specs.Fault.{fault, ◌>>=◌}
use Rattle.draid_script.specs.Field.{arm_at, block_at, count_at, format_at, number_at, number_in, object_at, short_at}
use Rattle.draid_script.specs.Grammar.{command_of, inside, lane_command_of, lane_name_at, lane_of, is_end_word, is_silent, limit_at, line_of, name_at, alone, one_number, outside, two_numbers}
use Rattle.draid_script.specs.Keys.{given_by, given_with, is_equals, key_in, keys_at, keys_in, new_value, nothing_given, value_in}
use Rattle.draid_script.specs.Line.{Command, Silent, CreatePool, ImportPool, ExportPool, SyncPool, CancelPasses, CrashPool, WriteObject, FillObjects, ReadObject, FreeObject, SumObjects, TakeOffline, TakeOnline, DamageSector, AttachSpare, ReplaceDisk, DetachArm, RebuildPool, ScrubPool, RebalanceSlot, ShowStatus, OpenLanes, UpgradePool, RunAgent, ShowJournal, TakeCheckpoint, RewindPool, DiscardCheckpoint, LaneCommand, InLane, SectionEnd, SilentLane, AreKeys, IsInRange, most_lanes}
use Rattle.draid_script.specs.Name.{is_for_lanes, name_of, name_text}
use Rattle.draid_script.specs.Shape.{AreSettings, AreWordsOf, GivesKey, GivesKeys, IsLaneText, IsLine}
use Rattle.draid_script.specs.Word.{Placed, bytes_of, is_space, placed_from, words_of}
use Rattle.draid_script.specs.Writing.{IsForLanes, setting}
use Rattle.draid_script.proofs.Inverse.{arm_inv, block_inv, count_inv, guard_inv, in_inv, limit_inv, name_inv, number_inv, one_inv, or_inv, texts, then_inv, two_inv}
use Rattle.draid_script.proofs.Pairs.{decodes_some}
use Rattle.draid_script.proofs.Splits.{text-placed_from}

-- a word with a key before its first `=` and a number behind it
spelled_setting : (text key : List ℕ) (n : ℕ) → before_first is_equals text ≡ key → after_first is_equals text ≡ decimal n → n < 2 ^ 64 → text ≡ setting key n
spelled_setting text key n before after small =
    elim (cases_lt (position_or_len is_equals text) (length text)) [
      | inl some ↦
          let sign : get_or text (position_or_len is_equals text) 0 ≡ 61 = eqb-true _ 61 (passes_at_first is_equals text 0 some) in
          split_at_first is_equals text 0 some
          ∙ ap (λ (k : List ℕ). k ++ (get_or text (position_or_len is_equals text) 0 ∷ after_first is_equals text)) before
          ∙ ap (λ (b : ℕ). key ++ (b ∷ after_first is_equals text)) sign
          ∙ ap (λ (rest : List ℕ). key ++ (61 ∷ rest)) after
      | inr none ↦
          let empty : after_first is_equals text ≡ [] = drop_all (position_or_len is_equals text + 1) text (omega arith) in
          let no : ⊥ = omega (arith, decimal_nonempty n small, ap length (sym after ∙ empty)) in
          absurd no
    ]

-- one more key is spelled so, or the word has another
key_inv : (key : List ℕ) (word : Placed) (next : Given) (earlier : Option ℕ) (set : Option ℕ → Given) (read : Placed → Result ℕ LineFault) (limit : ℕ) (other : Result Given LineFault)
    → limit ≤ 2 ^ 64 → ((n : ℕ) → read (value_in word) ≡ Ok n → ((value_in word).text ≡ decimal n) × (n < limit))
    → cond (bytes_eq (key_in word) key) (new_value read earlier (value_in word) >>= λ v. Ok (set v)) other ≡ Ok next
    → ((n : ℕ) × (word.text ≡ setting key n) × (n < limit) × (earlier ≡ None) × (next ≡ set (Some n))) ⊎ (other ≡ Ok next)
key_inv key word next (Some n) set read limit other fits spelled gives =
    elim (cases_Bool (bytes_eq (key_in word) key)) [
      | inl yes' ↦ let refused : Err (fault why.Number word.at) ≡ Ok next = sym (cond-true (bytes_eq (key_in word) key) _ other yes') ∙ gives in cc
      | inr no' ↦ inr (sym (cond-false (bytes_eq (key_in word) key) _ other no') ∙ gives)
    ]
key_inv key word next None set read limit other fits spelled gives =
    elim (cases_Bool (bytes_eq (key_in word) key)) [
      | inl yes' ↦
          let taken = then_inv (read (value_in word) >>= λ n. Ok (Some n)) (λ v. Ok (set v)) next (sym (cond-true (bytes_eq (key_in word) key) _ other yes') ∙ gives) in
          let value = then_inv (read (value_in word)) (λ n. Ok (Some n)) taken.0 taken.1 in
          let is = spelled value.0 value.1 in
          let same : Some value.0 ≡ taken.0 = cc in
          let new : set taken.0 ≡ next = cc in
          inl (value.0, spelled_setting word.text key value.0 ((bytes_eq-Decides (key_in word) key).0 yes') is.0 (omega (arith, is.1)), is.1, refl, sym new ∙ ap set (sym same))
      | inr no' ↦ inr (sym (cond-false (bytes_eq (key_in word) key) _ other no') ∙ gives)
    ]

short_inv : (word : Placed) (n : ℕ) → short_at word ≡ Ok n → (word.text ≡ decimal n) × (n < 2 ^ 32)
short_inv word n gives = let spelled = in_inv 0 (2 ^ 32) word n gives in (spelled.0, spelled.2)

given_inv : (given : Given) (word : Placed) (next : Given) → given_with given word ≡ Ok next → GivesKey word.text given next
unfolding given_with
given_inv given word next gives =
    let sector : Option ℕ → Given = λ v. record given { sector = v } in
    let height : Option ℕ → Given = λ v. record given { height = v } in
    let metaslabs : Option ℕ → Given = λ v. record given { metaslabs = v } in
    let slices : Option ℕ → Given = λ v. record given { slices = v } in
    let seed : Option ℕ → Given = λ v. record given { seed = v } in
    let version : Option ℕ → Given = λ v. record given { version = v } in
    elim (key_inv (codes "sector") word next given.sector sector short_at (2 ^ 32) _ (omega arith) (short_inv (value_in word)) gives) [
      | inl is ↦ (is.0, inl (is.1, is.2, is.3, is.4))
      | inr gives ↦ elim (key_inv (codes "height") word next given.height height short_at (2 ^ 32) _ (omega arith) (short_inv (value_in word)) gives) [
        | inl is ↦ (is.0, inr (inl (is.1, is.2, is.3, is.4)))
        | inr gives ↦ elim (key_inv (codes "metaslabs") word next given.metaslabs metaslabs short_at (2 ^ 32) _ (omega arith) (short_inv (value_in word)) gives) [
          | inl is ↦ (is.0, inr (inr (inl (is.1, is.2, is.3, is.4))))
          | inr gives ↦ elim (key_inv (codes "slices") word next given.slices slices short_at (2 ^ 32) _ (omega arith) (short_inv (value_in word)) gives) [
            | inl is ↦ (is.0, inr (inr (inr (inl (is.1, is.2, is.3, is.4)))))
            | inr gives ↦ elim (key_inv (codes "seed") word next given.seed seed number_at (2 ^ 64) _ (omega arith) (number_inv (value_in word)) gives) [
              | inl is ↦ (is.0, inr (inr (inr (inr (inl (is.1, is.2, is.3, is.4))))))
              | inr gives ↦ elim (key_inv (codes "version") word next given.version version short_at (2 ^ 32) _ (omega arith) (short_inv (value_in word)) gives) [
                | inl is ↦ (is.0, inr (inr (inr (inr (inr (is.1, is.2, is.3, is.4))))))
                | inr gives ↦ cc
              ]
            ]
          ]
        ]
      ]
    ]

all_inv : (given : Given) (words : List Placed) (new : Given) → given_by given words ≡ Ok new → GivesKeys (texts words) given new
all_inv given [] new gives = cc
all_inv given (word ∷ words) new gives =
    let one = then_inv (given_with given word) (λ more. given_by more words) new gives in
    (one.0, given_inv given word one.0 one.1, all_inv one.0 words new one.2)

pub keys_inv : (words : List Placed) (keys : PoolKeys) → keys_at words ≡ Ok keys → AreSettings (texts words) keys
keys_inv words keys gives =
    let read = then_inv (given_by nothing_given words) (λ given. Ok (keys_in given)) keys gives in
    let same : keys_in read.0 ≡ keys = cc in
    (read.0, all_inv nothing_given words read.0 read.1, sym same)

-- what a command that was read says of its words, and that it may stand in a section where its name may
abbrev pub IsNamed : CommandName → Command → List (List ℕ) → Type 0
IsNamed n command words = AreWordsOf command words × IsInRange command × (is_for_lanes n ≡ true → IsForLanes command)

-- what was spelled for one command was spelled for the same
same_command : (n : CommandName) (command other : Command) (words : List (List ℕ)) → (is_for_lanes n ≡ true → IsForLanes command) → ◌≡◌ {A = Result Command LineFault} (Ok command) (Ok other) → AreWordsOf command words × IsInRange command → IsNamed n other words
same_command n command other words may same are =
    let same' : command ≡ other = cc in
    let P : Command → Type 0 = λ c. IsNamed n c words in
    subst P same' (are.0, are.1, may)

-- settings are in their ranges
abbrev GivenRange : Given → Type 0
GivenRange given = IfSome given.sector (λ n. n < 2 ^ 32) × IfSome given.height (λ n. n < 2 ^ 32) × IfSome given.metaslabs (λ n. n < 2 ^ 32) × IfSome given.slices (λ n. n < 2 ^ 32) × IfSome given.seed (λ n. n < 2 ^ 64) × IfSome given.version (λ n. n < 2 ^ 32)

one_range : (word : List ℕ) (old new : Given) → GivenRange old → GivesKey word old new → GivenRange new
one_range word old new range gives =
    elim gives.1 [
      | inl is ↦ subst GivenRange (sym is.3) (is.1, range.1, range.2, range.3, range.4, range.5)
      | inr gives ↦ elim gives [
        | inl is ↦ subst GivenRange (sym is.3) (range.0, is.1, range.2, range.3, range.4, range.5)
        | inr gives ↦ elim gives [
          | inl is ↦ subst GivenRange (sym is.3) (range.0, range.1, is.1, range.3, range.4, range.5)
          | inr gives ↦ elim gives [
            | inl is ↦ subst GivenRange (sym is.3) (range.0, range.1, range.2, is.1, range.4, range.5)
            | inr gives ↦ elim gives [
              | inl is ↦ subst GivenRange (sym is.3) (range.0, range.1, range.2, range.3, is.1, range.5)
              | inr is ↦ subst GivenRange (sym is.3) (range.0, range.1, range.2, range.3, range.4, is.1)
            ]
          ]
        ]
      ]
    ]

all_range : (words : List (List ℕ)) (old new : Given) → GivenRange old → GivesKeys words old new → GivenRange new
all_range [] old new range gives = subst GivenRange (sym gives) range
all_range (word ∷ words) old new range gives = all_range words gives.0 new (one_range word old gives.0 range gives.1) gives.2

or_default : (o : Option ℕ) (d limit : ℕ) → IfSome o (λ n. n < limit) → d < limit → unwrap_or o d < limit
or_default None d limit is below = below
or_default (Some n) d limit is below = is

keys_range : (words : List (List ℕ)) (keys : PoolKeys) → AreSettings words keys → AreKeys keys
keys_range words keys settings =
    let range = all_range words nothing_given settings.0 (tt, tt, tt, tt, tt, tt) settings.1 in
    let given = settings.0 in
    let are : AreKeys (keys_in settings.0) = record {
      sector = or_default given.sector 4096 (2 ^ 32) range.0 (omega arith);
      height = or_default given.height 8 (2 ^ 32) range.1 (omega arith);
      metaslabs = or_default given.metaslabs 4 (2 ^ 32) range.2 (omega arith);
      slices = or_default given.slices 16 (2 ^ 32) range.3 (omega arith);
      seed = or_default given.seed 1 (2 ^ 64) range.4 (omega arith);
      version = or_default given.version 1 (2 ^ 32) range.5 (omega arith);
    } in
    let P : PoolKeys → Type 0 = λ k. AreKeys k in
    subst P (sym settings.2) are

-- hex digits spell some byte
decoded_inv : (r : Result (List ℕ) FromHexError) (bytes : List ℕ) → result_ok r ≡ Some bytes → r ≡ Ok bytes
decoded_inv (Ok found) bytes is = cc
decoded_inv (Err e) bytes is = cc

some_bytes : (hex bytes : List ℕ) → bytes_of hex ≡ Some bytes → 1 ≤ length bytes
unfolding bytes_of
some_bytes [] bytes spelled = cc
some_bytes (digit ∷ digits) bytes spelled =
    decodes_some (digit ∷ digits) bytes (decoded_inv (decode_of (digit ∷ digits)) bytes spelled) (omega arith)

alone_inv : (n : CommandName) (command other : Command) (end : ℕ) (words : List Placed) (text : List ℕ) → (is_for_lanes n ≡ true → IsForLanes command) → alone command end words ≡ Ok other → AreWordsOf command (text ∷ []) × IsInRange command → IsNamed n other (text ∷ texts words)
alone_inv n command other end [] text may gives are = same_command n command other (text ∷ []) may gives are
alone_inv n command other end (word ∷ words) text may gives are = cc

-- a command is read from words that are spelled so
pub named_inv : (n : CommandName) (end : ℕ) (words : List Placed) (command : Command) → command_of n end words ≡ Ok command → IsNamed n command (name_text n ∷ texts words)
unfolding command_of
named_inv name.Create end [] command gives = cc
named_inv name.Create end (spec ∷ []) command gives = cc
named_inv name.Create end (spec ∷ children ∷ words) command gives =
    let number = then_inv (number_in 0 (2 ^ 32) children) _ command gives in
    let keys = then_inv (keys_at words) _ command number.2 in
    let spelled = in_inv 0 (2 ^ 32) children number.0 number.1 in
    let settings = keys_inv words keys.0 keys.1 in
    same_command name.Create (CreatePool spec.text number.0 keys.0) command _ (λ may. cc) keys.2
    ((texts words, ap (λ (t : List ℕ). codes "create" ∷ spec.text ∷ t ∷ texts words) spelled.0, settings), (spelled.2, keys_range (texts words) keys.0 settings))
named_inv name.Import end words command gives = alone_inv name.Import ImportPool command end words (codes "import") (λ may. cc) gives (refl, tt)
named_inv name.Export end words command gives = alone_inv name.Export ExportPool command end words (codes "export") (λ may. cc) gives (refl, tt)
named_inv name.Sync end words command gives = alone_inv name.Sync SyncPool command end words (codes "sync") (λ _. tt) gives (refl, tt)
named_inv name.Cancel end words command gives = alone_inv name.Cancel CancelPasses command end words (codes "cancel") (λ may. cc) gives (refl, tt)
named_inv name.Crash end words command gives = alone_inv name.Crash CrashPool command end words (codes "crash") (λ may. cc) gives (refl, tt)
named_inv name.Write end [] command gives = cc
named_inv name.Write end (object ∷ []) command gives = cc
named_inv name.Write end (object ∷ hex ∷ []) command gives =
    let number = then_inv (object_at object) _ command gives in
    let bytes = then_inv (block_at end hex) _ command number.2 in
    let spelled = in_inv 0 (2 ^ 32) object number.0 number.1 in
    let block = block_inv end hex bytes.0 bytes.1 in
    same_command name.Write (WriteObject number.0 bytes.0) command _ (λ _. tt) bytes.2
    ((hex.text, ap (λ (t : List ℕ). codes "write" ∷ t ∷ hex.text ∷ []) spelled.0, block.0), (spelled.2, some_bytes hex.text bytes.0 block.0, block.1))
named_inv name.Write end (object ∷ hex ∷ more ∷ words) command gives = cc
named_inv name.Fill end [] command gives = cc
named_inv name.Fill end (a ∷ []) command gives = cc
named_inv name.Fill end (a ∷ b ∷ []) command gives = cc
named_inv name.Fill end (a ∷ b ∷ c ∷ []) command gives = cc
named_inv name.Fill end (a ∷ b ∷ c ∷ d ∷ []) command gives =
    let first = then_inv (object_at a) _ command gives in
    let count = then_inv (count_at first.0 b) _ command first.2 in
    let len = then_inv (number_in 1 (LONGEST_BLOCK + 1) c) _ command count.2 in
    let seed = then_inv (number_at d) _ command len.2 in
    let one = in_inv 0 (2 ^ 32) a first.0 first.1 in
    let two = count_inv first.0 b count.0 count.1 in
    let three = in_inv 1 (LONGEST_BLOCK + 1) c len.0 len.1 in
    let four = number_inv d seed.0 seed.1 in
    let e1 : a.text ≡ decimal first.0 = one.0 in
    let e2 : b.text ≡ decimal count.0 = two.0 in
    let e3 : c.text ≡ decimal len.0 = three.0 in
    let e4 : d.text ≡ decimal seed.0 = four.0 in
    let words : codes "fill" ∷ texts (a ∷ b ∷ c ∷ d ∷ []) ≡ codes "fill" ∷ decimal first.0 ∷ decimal count.0 ∷ decimal len.0 ∷ decimal seed.0 ∷ [] = cc in
    same_command name.Fill (FillObjects first.0 count.0 len.0 seed.0) command _ (λ _. tt) seed.2 (words, ((two.1, two.2, two.3), (three.1, omega (arith, three.2)), four.1))
named_inv name.Fill end (a ∷ b ∷ c ∷ d ∷ e ∷ words) command gives = cc
named_inv name.Read end words command gives =
    let read = then_inv (one_number (2 ^ 32) end words) _ command gives in
    let spelled = one_inv (2 ^ 32) end words read.0 read.1 in
    same_command name.Read (ReadObject read.0) command _ (λ _. tt) read.2 (ap (λ (ts : List (List ℕ)). codes "read" ∷ ts) spelled.0, spelled.1)
named_inv name.Free end words command gives =
    let read = then_inv (one_number (2 ^ 32) end words) _ command gives in
    let spelled = one_inv (2 ^ 32) end words read.0 read.1 in
    same_command name.Free (FreeObject read.0) command _ (λ _. tt) read.2 (ap (λ (ts : List (List ℕ)). codes "free" ∷ ts) spelled.0, spelled.1)
named_inv name.Sum end [] command gives = cc
named_inv name.Sum end (a ∷ []) command gives = cc
named_inv name.Sum end (a ∷ b ∷ []) command gives =
    let first = then_inv (object_at a) _ command gives in
    let count = then_inv (count_at first.0 b) _ command first.2 in
    let one = in_inv 0 (2 ^ 32) a first.0 first.1 in
    let two = count_inv first.0 b count.0 count.1 in
    let e1 : a.text ≡ decimal first.0 = one.0 in
    let e2 : b.text ≡ decimal count.0 = two.0 in
    let words : codes "sum" ∷ texts (a ∷ b ∷ []) ≡ codes "sum" ∷ decimal first.0 ∷ decimal count.0 ∷ [] = cc in
    same_command name.Sum (SumObjects first.0 count.0) command _ (λ _. tt) count.2 (words, (two.1, two.2, two.3))
named_inv name.Sum end (a ∷ b ∷ more ∷ words) command gives = cc
named_inv name.Offline end words command gives =
    let read = then_inv (one_number (2 ^ 48) end words) _ command gives in
    let spelled = one_inv (2 ^ 48) end words read.0 read.1 in
    same_command name.Offline (TakeOffline read.0) command _ (λ _. tt) read.2 (ap (λ (ts : List (List ℕ)). codes "offline" ∷ ts) spelled.0, spelled.1)
named_inv name.Online end words command gives =
    let read = then_inv (one_number (2 ^ 48) end words) _ command gives in
    let spelled = one_inv (2 ^ 48) end words read.0 read.1 in
    same_command name.Online (TakeOnline read.0) command _ (λ _. tt) read.2 (ap (λ (ts : List (List ℕ)). codes "online" ∷ ts) spelled.0, spelled.1)
named_inv name.Damage end words command gives =
    let read = then_inv (two_numbers (2 ^ 48) (2 ^ 26) end words) _ command gives in
    let spelled = two_inv (2 ^ 48) (2 ^ 26) end words read.0 read.1 in
    same_command name.Damage (DamageSector read.0.0 read.0.1) command _ (λ may. cc) read.2 (ap (λ (ts : List (List ℕ)). codes "damage" ∷ ts) spelled.0, (spelled.1, spelled.2))
named_inv name.Spare end words command gives =
    let read = then_inv (two_numbers (2 ^ 32) (2 ^ 32) end words) _ command gives in
    let spelled = two_inv (2 ^ 32) (2 ^ 32) end words read.0 read.1 in
    same_command name.Spare (AttachSpare read.0.0 read.0.1) command _ (λ may. cc) read.2 (ap (λ (ts : List (List ℕ)). codes "spare" ∷ ts) spelled.0, (spelled.1, spelled.2))
named_inv name.Replace end [] command gives = cc
named_inv name.Replace end (slot ∷ []) command gives =
    let number = then_inv (number_in 0 (2 ^ 32) slot) _ command gives in
    let spelled = in_inv 0 (2 ^ 32) slot number.0 number.1 in
    same_command name.Replace (ReplaceDisk number.0 None) command _ (λ may. cc) number.2 (ap (λ (t : List ℕ). codes "replace" ∷ t ∷ []) spelled.0, (spelled.2, tt))
named_inv name.Replace end (slot ∷ sectors ∷ []) command gives =
    let number = then_inv (number_in 0 (2 ^ 32) slot) _ command gives in
    let size = then_inv (number_in 0 (2 ^ 48) sectors) _ command number.2 in
    let one = in_inv 0 (2 ^ 32) slot number.0 number.1 in
    let two = in_inv 0 (2 ^ 48) sectors size.0 size.1 in
    let e1 : slot.text ≡ decimal number.0 = one.0 in
    let e2 : sectors.text ≡ decimal size.0 = two.0 in
    let words : codes "replace" ∷ texts (slot ∷ sectors ∷ []) ≡ codes "replace" ∷ decimal number.0 ∷ decimal size.0 ∷ [] = cc in
    same_command name.Replace (ReplaceDisk number.0 (Some size.0)) command _ (λ may. cc) size.2 (words, (one.2, two.2))
named_inv name.Replace end (slot ∷ sectors ∷ more ∷ words) command gives = cc
named_inv name.Detach end [] command gives = cc
named_inv name.Detach end (word ∷ []) command gives =
    let arm = then_inv (arm_at word) _ command gives in
    let spelled = arm_inv word arm.0 arm.1 in
    same_command name.Detach (DetachArm arm.0) command _ (λ may. cc) arm.2 (ap (λ (t : List ℕ). codes "detach" ∷ t ∷ []) spelled.0, spelled.1)
named_inv name.Detach end (word ∷ more ∷ words) command gives = cc
named_inv name.Rebuild end words command gives =
    let read = then_inv (limit_at end words) _ command gives in
    let spelled = limit_inv end words read.0 read.1 in
    same_command name.Rebuild (RebuildPool read.0) command _ (λ _. tt) read.2 (ap (λ (ts : List (List ℕ)). codes "rebuild" ∷ ts) spelled.0, spelled.1)
named_inv name.Scrub end words command gives =
    let read = then_inv (limit_at end words) _ command gives in
    let spelled = limit_inv end words read.0 read.1 in
    same_command name.Scrub (ScrubPool read.0) command _ (λ _. tt) read.2 (ap (λ (ts : List (List ℕ)). codes "scrub" ∷ ts) spelled.0, spelled.1)
named_inv name.Rebalance end words command gives =
    let read = then_inv (one_number (2 ^ 32) end words) _ command gives in
    let spelled = one_inv (2 ^ 32) end words read.0 read.1 in
    same_command name.Rebalance (RebalanceSlot read.0) command _ (λ may. cc) read.2 (ap (λ (ts : List (List ℕ)). codes "rebalance" ∷ ts) spelled.0, spelled.1)
named_inv name.Status end [] command gives = same_command name.Status (ShowStatus Text) command _ (λ may. cc) gives (refl, tt)
named_inv name.Status end (word ∷ []) command gives =
    let read = then_inv (format_at word) _ command gives in
    let test = guard_inv (bytes_eq word.text (codes "json")) Json read.0 (fault why.Number word.at) read.1 in
    let json : word.text ≡ codes "json" = (bytes_eq-Decides word.text (codes "json")).0 test.0 in
    let same : Json ≡ read.0 = test.1 in
    let P : StatusFormat → Type 0 = λ f. AreWordsOf (ShowStatus f) (codes "status" ∷ word.text ∷ []) × IsInRange (ShowStatus f) in
    same_command name.Status (ShowStatus read.0) command _ (λ may. cc) read.2 (subst P same (ap (λ (t : List ℕ). codes "status" ∷ t ∷ []) json, tt))
named_inv name.Status end (word ∷ more ∷ words) command gives = cc
named_inv name.Lanes end [] command gives = cc
named_inv name.Lanes end (word ∷ []) command gives =
    let read = then_inv (number_in 1 (most_lanes + 1) word) _ command gives in
    let spelled = in_inv 1 (most_lanes + 1) word read.0 read.1 in
    same_command name.Lanes (OpenLanes read.0) command _ (λ may. cc) read.2 (ap (λ (t : List ℕ). codes "lanes" ∷ t ∷ []) spelled.0, (spelled.1, omega (arith, spelled.2)))
named_inv name.Lanes end (word ∷ more ∷ words) command gives = cc
named_inv name.Upgrade end words command gives = alone_inv name.Upgrade UpgradePool command end words (codes "upgrade") (λ may. cc) gives (refl, tt)
named_inv name.Agent end [] command gives = cc
named_inv name.Agent end (word ∷ []) command gives =
    elim (cases_Bool (bytes_eq word.text (codes "log"))) [
      | inl log ↦
          let text : word.text ≡ codes "log" = (bytes_eq-Decides word.text (codes "log")).0 log in
          same_command name.Agent ShowJournal command _ (λ may. cc) (sym (cond-true (bytes_eq word.text (codes "log")) _ _ log) ∙ gives)
          (ap (λ (t : List ℕ). codes "agent" ∷ t ∷ []) text, tt)
      | inr other ↦
          let read = then_inv (number_in 1 (2 ^ 32) word) (λ least. Ok (RunAgent least)) command (sym (cond-false (bytes_eq word.text (codes "log")) (Ok ShowJournal) _ other) ∙ gives) in
          let spelled = in_inv 1 (2 ^ 32) word read.0 read.1 in
          same_command name.Agent (RunAgent read.0) command _ (λ may. cc) read.2 (ap (λ (t : List ℕ). codes "agent" ∷ t ∷ []) spelled.0, (spelled.1, spelled.2))
    ]
named_inv name.Agent end (word ∷ more ∷ words) command gives = cc
named_inv name.Checkpoint end words command gives = alone_inv name.Checkpoint TakeCheckpoint command end words (codes "checkpoint") (λ may. cc) gives (refl, tt)
named_inv name.Rewind end words command gives = alone_inv name.Rewind RewindPool command end words (codes "rewind") (λ may. cc) gives (refl, tt)
named_inv name.Discard end words command gives = alone_inv name.Discard DiscardCheckpoint command end words (codes "discard") (λ may. cc) gives (refl, tt)

-- a line that is taken outside a section
outside_inv : (end : ℕ) (words : List Placed) (command : Command) → outside end words ≡ Ok command → AreWordsOf command (texts words) × IsInRange command
outside_inv end [] command gives = cc
outside_inv end (first ∷ words) command gives =
    elim (cases_Bool (is_end_word first)) [
      | inl ends ↦ let refused : Err (fault why.Lane first.at) ≡ Ok command = sym (cond-true (is_end_word first) _ _ ends) ∙ gives in cc
      | inr no' ↦
          let named = then_inv (name_at first) (λ n. command_of n end words) command (sym (cond-false (is_end_word first) (Err (fault why.Lane first.at)) _ no') ∙ gives) in
          let text : first.text ≡ name_text named.0 = name_inv first.text named.0 (or_inv (name_of first.text) (fault why.Unknown first.at) named.0 named.1) in
          let P : List ℕ → Type 0 = λ t. AreWordsOf command (t ∷ texts words) × IsInRange command in
          let is = named_inv named.0 end words command named.2 in
          subst P (sym text) (is.0, is.1)
    ]

pub line_inv : (text : List ℕ) (command : Command) → line_of text ≡ Ok command → IsLine text command
unfolding line_of words_of
line_inv text command gives =
    elim (cases_Bool (is_silent text)) [
      | inl silent ↦
          let nothing : ◌≡◌ {A = Result Command LineFault} (Ok Silent) (Ok command) = sym (cond-true (is_silent text) (Ok Silent) _ silent) ∙ gives in
          inl (silent, cc)
      | inr loud ↦
          let taken = outside_inv (length text) (placed_from 0 (slice_split is_space text)) command (sym (cond-false (is_silent text) (Ok Silent) _ loud) ∙ gives) in
          let P : List (List ℕ) → Type 0 = λ words. AreWordsOf command words × IsInRange command in
          inr (subst P (text-placed_from 0 (slice_split is_space text)) taken)
    ]

-- a line that is taken inside a section
pub record InSection (lanes : ℕ) (words : List (List ℕ)) (line : LaneCommand) : Type 0 where
  lane : ℕ
  command : Command
  rest : List (List ℕ)
  is : line ≡ InLane lane command
  spelled : words ≡ decimal lane ∷ rest
  below : lane < lanes
  words_are : AreWordsOf command rest
  range : IsInRange command
  may : IsForLanes command

lane_name_inv : (word : Placed) (n : CommandName) → lane_name_at word ≡ Ok n → (word.text ≡ name_text n) × (is_for_lanes n ≡ true)
lane_name_inv word n gives =
    elim (cases_Bool (is_end_word word)) [
      | inl ends ↦ let refused : Err (fault why.Lane word.at) ≡ Ok n = sym (cond-true (is_end_word word) _ _ ends) ∙ gives in cc
      | inr no' ↦
          let named = then_inv (name_at word) (λ m. cond (is_for_lanes m) (Ok m) (Err (fault why.Lane word.at))) n (sym (cond-false (is_end_word word) (Err (fault why.Lane word.at)) _ no') ∙ gives) in
          let text : word.text ≡ name_text named.0 = name_inv word.text named.0 (or_inv (name_of word.text) (fault why.Unknown word.at) named.0 named.1) in
          let test = guard_inv (is_for_lanes named.0) named.0 n (fault why.Lane word.at) named.2 in
          let P : CommandName → Type 0 = λ m. (word.text ≡ name_text m) × (is_for_lanes m ≡ true) in
          subst P test.1 (text, test.0)
    ]

inside_inv : (lanes end : ℕ) (words : List Placed) (line : LaneCommand) → inside lanes end words ≡ Ok line → InSection lanes (texts words) line
inside_inv lanes end [] line gives = cc
inside_inv lanes end (number ∷ []) line gives =
    let read = then_inv (number_in 0 lanes number) (λ _. Err (fault why.Count end)) line gives in
    let refused : Err (fault why.Count end) ≡ Ok line = read.2 in cc
inside_inv lanes end (number ∷ first ∷ words) line gives =
    let lane = then_inv (number_in 0 lanes number) (λ lane. lane_command_of lane end first words) line gives in
    let named = then_inv (lane_name_at first) _ line lane.2 in
    let read = then_inv (command_of named.0 end words) (λ command. Ok (InLane lane.0 command)) line named.2 in
    let spelled = in_inv 0 lanes number lane.0 lane.1 in
    let first_is = lane_name_inv first named.0 named.1 in
    let is = named_inv named.0 end words read.0 read.1 in
    let same : InLane lane.0 read.0 ≡ line = cc in
    let P : List ℕ → Type 0 = λ t. AreWordsOf read.0 (t ∷ texts words) in
    record {
      lane = lane.0;
      command = read.0;
      rest = first.text ∷ texts words;
      is = sym same;
      spelled = ap (λ (t : List ℕ). t ∷ first.text ∷ texts words) spelled.0;
      below = spelled.2;
      words_are = subst P (sym first_is.0) is.0;
      range = is.1;
      may = is.2 first_is.1;
    }

pub lane_inv : (lanes : ℕ) (text : List ℕ) (line : LaneCommand) → lane_of lanes text ≡ Ok line → IsLaneText lanes text line
unfolding lane_of words_of
lane_inv lanes text line gives =
    let P : LaneCommand → Type 0 = λ l. IsLaneText lanes text l in
    elim (cases_Bool (is_silent text)) [
      | inl silent ↦
          let nothing : ◌≡◌ {A = Result LaneCommand LineFault} (Ok SilentLane) (Ok line) = sym (cond-true (is_silent text) (Ok SilentLane) _ silent) ∙ gives in
          let same : SilentLane ≡ line = cc in
          subst P same silent
      | inr loud ↦
          let more = sym (cond-false (is_silent text) (Ok SilentLane) (cond (bytes_eq text (codes "end")) (Ok SectionEnd) (inside lanes (length text) (placed_from 0 (slice_split is_space text)))) loud) ∙ gives in
          elim (cases_Bool (bytes_eq text (codes "end"))) [
            | inl ends ↦
                let end : ◌≡◌ {A = Result LaneCommand LineFault} (Ok SectionEnd) (Ok line) = sym (cond-true (bytes_eq text (codes "end")) (Ok SectionEnd) (inside lanes (length text) (placed_from 0 (slice_split is_space text))) ends) ∙ more in
                let same : SectionEnd ≡ line = cc in
                subst P same ((bytes_eq-Decides text (codes "end")).0 ends)
            | inr goes ↦
                let taken = inside_inv lanes (length text) (placed_from 0 (slice_split is_space text)) line (sym (cond-false (bytes_eq text (codes "end")) (Ok SectionEnd) (inside lanes (length text) (placed_from 0 (slice_split is_space text))) goes) ∙ more) in
                subst P (sym taken.is) (taken.rest, sym (text-placed_from 0 (slice_split is_space text)) ∙ taken.spelled, taken.below, taken.words_are, taken.range, taken.may)
          ]
    ]
