-- What a writer writes is read again.
use Rattle.std.proofs.Common.{true, ◌≡◌, ◌≢◌, ℕ, ◌+◌, ◌^◌, ◌<◌, ◌≤◌, ◌==◌, ◌&&◌, false, cond, nat_eq, nat_le, nat_lt, List, [], ◌∷◌, ◌++◌, length, get_or, codes, Option, None, Some, IfSome, Result, Ok, Err, refl, sym, ap, ◌∙◌, inl, inr, arith, append-nil}
use Rattle.draid_names.specs.declared.numbers.TheConstants.{LONGEST_BLOCK}
use Rattle.std.specs.Fmt.{decimal}
use Rattle.std.specs.List.{AllByRecursion, join_with_byte, slice_split, starts_with}
use Rattle.std.specs.Option.{ok_or}
use Rattle.hex.specs.Hex.{encode_lower}
use Rattle.std.proofs.lemmas.Bool.{and_from, and_left, cond-false, cond-true, le-leb, lt-ltb, ne_eqb}
use Rattle.std.proofs.lemmas.Fmt.{decimal_digit, decimal_is_IsNumeral}
use Rattle.std.proofs.lemmas.List.Elements.{All-append, All-cons, All-weaker}
use Rattle.std.proofs.lemmas.List.Splits.{join_with_byte-slice_split, length-slice_split}
use Rattle.std.proofs.lemmas.Str.Parse.{digit_at}
use Rattle.draid_script.specs.declared.fault.LineFault.{LineFault}
use Rattle.draid_script.specs.declared.fault.LineFaultKind.TheVariants as why
use Rattle.draid_script.specs.declared.keys.Given.{Given}
use Rattle.draid_script.specs.declared.line.ArmArgument.{ArmArgument}
use Rattle.draid_script.specs.declared.line.ArmArgument.TheVariants.{Leaf, Spare}
use Rattle.draid_script.specs.declared.line.PoolKeys.{PoolKeys}
use Rattle.draid_script.specs.declared.line.StatusFormat.TheVariants.{Text, Json}
use Rattle.draid_script.specs.declared.name.CommandName.{CommandName}
use Rattle.draid_script.specs.declared.name.CommandName.TheVariants as name
use Rattle.draid_script.specs.Fault.{fault, ◌>>=◌}
use Rattle.draid_script.specs.Field.{short_at, arm_at, block_at, count_at, hex_place, number_at, number_in, spare_behind, within}
use Rattle.std.specs.Str.{bytes_eq}
use Rattle.draid_script.specs.Grammar.{agent_of, command_of, fill_of, is_silent, limit_at, line_of, one_number, outside, replace_of, sum_of, two_numbers, write_of}
use Rattle.draid_script.specs.Keys.{given_by, given_with, keys_at, new_value, nothing_given}
use Rattle.draid_script.specs.Line.{Command, Silent, CreatePool, ImportPool, ExportPool, SyncPool, CancelPasses, CrashPool, WriteObject, FillObjects, ReadObject, FreeObject, SumObjects, TakeOffline, TakeOnline, DamageSector, AttachSpare, ReplaceDisk, DetachArm, RebuildPool, ScrubPool, RebalanceSlot, ShowStatus, OpenLanes, UpgradePool, RunAgent, ShowJournal, TakeCheckpoint, RewindPool, DiscardCheckpoint, AreKeys, AreObjects, IsArmArgument, IsInRange, IsLimit, most_lanes, most_objects}
use Rattle.draid_script.specs.Name.{arm_of, name_of, name_text}
use Rattle.draid_script.specs.Shape.{AreSettings, AreWordsOf, GivesKey, GivesKeys, IsLine, texts_of}
use Rattle.draid_script.specs.Word.{Placed, bytes_of, is_space, placed_from, words_of}
use Rattle.draid_script.specs.Writing.{IsWritable, optional, setting, settings, written_line, written_words}
use Rattle.draid_script.proofs.Joined.{IsWord, bytes_again, decimal_word, hex_word, literal_word, number_again, split_joined}

-- a first step that gives a value
pub then_ok : {A B : Type 0} (r : Result A LineFault) (x : A) (f : A → Result B LineFault) → r ≡ Ok x → (r >>= f) ≡ f x
then_ok {A = A} {B = B} r x f gives = ap (λ (r : Result A LineFault). r >>= f) gives

-- the first words
pub name_word : (n : CommandName) → IsWord (name_text n)
name_word name.Create = literal_word (name_text name.Create) refl
name_word name.Import = literal_word (name_text name.Import) refl
name_word name.Export = literal_word (name_text name.Export) refl
name_word name.Sync = literal_word (name_text name.Sync) refl
name_word name.Cancel = literal_word (name_text name.Cancel) refl
name_word name.Crash = literal_word (name_text name.Crash) refl
name_word name.Write = literal_word (name_text name.Write) refl
name_word name.Fill = literal_word (name_text name.Fill) refl
name_word name.Read = literal_word (name_text name.Read) refl
name_word name.Free = literal_word (name_text name.Free) refl
name_word name.Sum = literal_word (name_text name.Sum) refl
name_word name.Offline = literal_word (name_text name.Offline) refl
name_word name.Online = literal_word (name_text name.Online) refl
name_word name.Damage = literal_word (name_text name.Damage) refl
name_word name.Spare = literal_word (name_text name.Spare) refl
name_word name.Replace = literal_word (name_text name.Replace) refl
name_word name.Detach = literal_word (name_text name.Detach) refl
name_word name.Rebuild = literal_word (name_text name.Rebuild) refl
name_word name.Scrub = literal_word (name_text name.Scrub) refl
name_word name.Rebalance = literal_word (name_text name.Rebalance) refl
name_word name.Status = literal_word (name_text name.Status) refl
name_word name.Lanes = literal_word (name_text name.Lanes) refl
name_word name.Upgrade = literal_word (name_text name.Upgrade) refl
name_word name.Agent = literal_word (name_text name.Agent) refl
name_word name.Checkpoint = literal_word (name_text name.Checkpoint) refl
name_word name.Rewind = literal_word (name_text name.Rewind) refl
name_word name.Discard = literal_word (name_text name.Discard) refl

not_silent : (n : CommandName) (rest : List ℕ) → is_silent (name_text n ++ rest) ≡ false
not_silent name.Create rest = refl
not_silent name.Import rest = refl
not_silent name.Export rest = refl
not_silent name.Sync rest = refl
not_silent name.Cancel rest = refl
not_silent name.Crash rest = refl
not_silent name.Write rest = refl
not_silent name.Fill rest = refl
not_silent name.Read rest = refl
not_silent name.Free rest = refl
not_silent name.Sum rest = refl
not_silent name.Offline rest = refl
not_silent name.Online rest = refl
not_silent name.Damage rest = refl
not_silent name.Spare rest = refl
not_silent name.Replace rest = refl
not_silent name.Detach rest = refl
not_silent name.Rebuild rest = refl
not_silent name.Scrub rest = refl
not_silent name.Rebalance rest = refl
not_silent name.Status rest = refl
not_silent name.Lanes rest = refl
not_silent name.Upgrade rest = refl
not_silent name.Agent rest = refl
not_silent name.Checkpoint rest = refl
not_silent name.Rewind rest = refl
not_silent name.Discard rest = refl

outside_named : (n : CommandName) (end at : ℕ) (words : List Placed) → outside end (record { text = name_text n; at = at } ∷ words) ≡ command_of n end words
unfolding name_of
outside_named name.Create end at words = refl
outside_named name.Import end at words = refl
outside_named name.Export end at words = refl
outside_named name.Sync end at words = refl
outside_named name.Cancel end at words = refl
outside_named name.Crash end at words = refl
outside_named name.Write end at words = refl
outside_named name.Fill end at words = refl
outside_named name.Read end at words = refl
outside_named name.Free end at words = refl
outside_named name.Sum end at words = refl
outside_named name.Offline end at words = refl
outside_named name.Online end at words = refl
outside_named name.Damage end at words = refl
outside_named name.Spare end at words = refl
outside_named name.Replace end at words = refl
outside_named name.Detach end at words = refl
outside_named name.Rebuild end at words = refl
outside_named name.Scrub end at words = refl
outside_named name.Rebalance end at words = refl
outside_named name.Status end at words = refl
outside_named name.Lanes end at words = refl
outside_named name.Upgrade end at words = refl
outside_named name.Agent end at words = refl
outside_named name.Checkpoint end at words = refl
outside_named name.Rewind end at words = refl
outside_named name.Discard end at words = refl

pub joined_front : (text : List ℕ) (texts : List (List ℕ)) → (rest : List ℕ) × (join_with_byte 32 (text ∷ texts) ≡ text ++ rest)
joined_front text [] = ([], sym (append-nil text))
joined_front text (next ∷ texts) = (32 ∷ join_with_byte 32 (next ∷ texts), refl)

-- a line of words is read by its first word
line_by_words : (text : List ℕ) (n : CommandName) (texts : List (List ℕ)) → texts_of text ≡ name_text n ∷ texts → line_of text ≡ command_of n (length text) (placed_from (0 + length (name_text n) + 1) texts)
unfolding line_of words_of
line_by_words text n texts split =
    let front = joined_front (name_text n) texts in
    let whole : text ≡ name_text n ++ front.0 = sym (join_with_byte-slice_split 32 text) ∙ ap (join_with_byte 32) split ∙ front.1 in
    let loud : is_silent text ≡ false = ap is_silent whole ∙ not_silent n front.0 in
    cond-false (is_silent text) (Ok Silent) (outside (length text) (placed_from 0 (slice_split is_space text))) loud
    ∙ ap (λ (parts : List (List ℕ)). outside (length text) (placed_from 0 parts)) split
    ∙ outside_named n (length text) 0 (placed_from (0 + length (name_text n) + 1) texts)

-- a number in its range
pub number_in_again : (low limit n at : ℕ) → low ≤ n → n < limit → n < 2 ^ 64 → number_in low limit (record { text = decimal n; at = at }) ≡ Ok n
number_in_again low limit n at above below small =
    ap (λ (o : Option ℕ). ok_or o (fault why.Number at) >>= within low limit at) (number_again n small)
    ∙ cond-true (nat_le low n && nat_lt n limit) (Ok n) (Err (fault why.Range at)) (and_from (nat_le low n) (nat_lt n limit) (le-leb low n above) (lt-ltb n limit below))

number_at_again : (n at : ℕ) → n < 2 ^ 64 → number_at (record { text = decimal n; at = at }) ≡ Ok n
number_at_again n at small = ap (λ (o : Option ℕ). ok_or o (fault why.Number at)) (number_again n small)

count_again : (first n at : ℕ) → AreObjects first n → count_at first (record { text = decimal n; at = at }) ≡ Ok n
count_again first n at are =
    then_ok _ n _ (number_in_again 1 (most_objects + 1) n at are.0 (omega (arith, are.1)) (omega (arith, are.1)))
    ∙ cond-true (nat_le (first + n) (2 ^ 32)) (Ok n) (Err (fault why.Range at)) (le-leb (first + n) (2 ^ 32) are.2)

block_again : (end at : ℕ) (hex bytes : List ℕ) → bytes_of hex ≡ Some bytes → length bytes ≤ LONGEST_BLOCK → block_at end (record { text = hex; at = at }) ≡ Ok bytes
block_again end at hex bytes spelled short =
    let word : Placed = record { text = hex; at = at } in
    let bounded = λ (bs : List ℕ). cond (nat_le (length bs) LONGEST_BLOCK) (Ok bs) (Err (fault why.Range at)) in
    then_ok (ok_or (bytes_of hex) (fault why.Hex (hex_place end word))) bytes bounded
    (ap (λ (o : Option (List ℕ)). ok_or o (fault why.Hex (hex_place end word))) spelled)
    ∙ cond-true (nat_le (length bytes) LONGEST_BLOCK) (Ok bytes) (Err (fault why.Range at)) (le-leb (length bytes) LONGEST_BLOCK short)

pub one_again : (limit end at n : ℕ) → n < limit → limit ≤ 2 ^ 64 → one_number limit end (placed_from at (decimal n ∷ [])) ≡ Ok n
one_again limit end at n below small = number_in_again 0 limit n at (omega arith) below (omega arith)

two_again : (limit limit' end at m n : ℕ) → m < limit → limit ≤ 2 ^ 64 → n < limit' → limit' ≤ 2 ^ 64 → two_numbers limit limit' end (placed_from at (decimal m ∷ decimal n ∷ [])) ≡ Ok (m, n)
two_again limit limit' end at m n below small below' small' =
    then_ok _ m _ (number_in_again 0 limit m _ (omega arith) below (omega arith))
    ∙ then_ok _ n _ (number_in_again 0 limit' n _ (omega arith) below' (omega arith))

pub limit_again : (end at : ℕ) (limit : Option ℕ) → IsLimit limit → limit_at end (placed_from at (optional limit)) ≡ Ok limit
limit_again end at None is = refl
limit_again end at (Some n) is = then_ok _ n _ (number_in_again 1 (2 ^ 48) n _ is.0 is.1 (omega (arith, is.1)))

pub limit_words : (limit : Option ℕ) → IsLimit limit → AllByRecursion IsWord (optional limit)
limit_words None is = tt
limit_words (Some n) is = (decimal_word n (omega (arith, is.1)), tt)

pub sum_again : (end at first count : ℕ) → AreObjects first count → sum_of end (placed_from at (decimal first ∷ decimal count ∷ [])) ≡ Ok (SumObjects first count)
sum_again end at first count are =
    then_ok _ first _ (number_in_again 0 (2 ^ 32) first _ (omega arith) (omega (arith, are.0, are.2)) (omega (arith, are.0, are.2)))
    ∙ then_ok _ count _ (count_again first count _ are)

pub fill_again : (end at first count len seed : ℕ) → AreObjects first count → (1 ≤ len) × (len ≤ LONGEST_BLOCK) → seed < 2 ^ 64 → fill_of end (placed_from at (decimal first ∷ decimal count ∷ decimal len ∷ decimal seed ∷ [])) ≡ Ok (FillObjects first count len seed)
fill_again end at first count len seed are is small =
    then_ok _ first _ (number_in_again 0 (2 ^ 32) first _ (omega arith) (omega (arith, are.0, are.2)) (omega (arith, are.0, are.2)))
    ∙ then_ok _ count _ (count_again first count _ are)
    ∙ then_ok _ len _ (number_in_again 1 (LONGEST_BLOCK + 1) len _ is.0 (omega (arith, is.1)) (omega (arith, is.1)))
    ∙ then_ok _ seed _ (number_at_again seed _ small)

pub write_again : (end at object : ℕ) (hex bytes : List ℕ) → object < 2 ^ 32 → bytes_of hex ≡ Some bytes → length bytes ≤ LONGEST_BLOCK → write_of end (placed_from at (decimal object ∷ hex ∷ [])) ≡ Ok (WriteObject object bytes)
write_again end at object hex bytes below spelled short =
    then_ok _ object _ (number_in_again 0 (2 ^ 32) object _ (omega arith) below (omega arith))
    ∙ then_ok _ bytes _ (block_again end _ hex bytes spelled short)

replace_again : (end at slot : ℕ) (sectors : Option ℕ) → slot < 2 ^ 32 → IfSome sectors (λ n. n < 2 ^ 48) → replace_of end (placed_from at (decimal slot ∷ optional sectors)) ≡ Ok (ReplaceDisk slot sectors)
replace_again end at slot None below is = then_ok _ slot _ (number_in_again 0 (2 ^ 32) slot _ (omega arith) below (omega arith))
replace_again end at slot (Some n) below is =
    then_ok _ slot _ (number_in_again 0 (2 ^ 32) slot _ (omega arith) below (omega arith))
    ∙ then_ok _ n _ (number_in_again 0 (2 ^ 48) n _ (omega arith) is (omega (arith, is)))

sectors_words : (sectors : Option ℕ) → IfSome sectors (λ n. n < 2 ^ 48) → AllByRecursion IsWord (optional sectors)
sectors_words None is = tt
sectors_words (Some n) is = (decimal_word n (omega (arith, is)), tt)

-- digits don't begin as the name of a spare does
starts_not : (text : List ℕ) → get_or text 0 0 ≢ 100 → starts_with nat_eq text (codes "draid") ≡ false
starts_not [] other = refl
starts_not (byte ∷ bytes) other = and_left (100 == byte) _ (ne_eqb 100 byte (λ same. other (sym same)))

arm_again : (at : ℕ) (arm : ArmArgument) → IsArmArgument arm → arm_at (record { text = arm_of arm; at = at }) ≡ Ok arm
arm_again at (Leaf leaf) below =
    let numeral = (decimal_is_IsNumeral leaf (omega (arith, below))).0 in
    let digit = digit_at (decimal leaf) 0 numeral.1 numeral.0 in
    let plain : starts_with nat_eq (decimal leaf) (codes "draid") ≡ false = starts_not (decimal leaf) (λ same. omega (arith, digit.1)) in
    cond-false _ _ _ plain ∙ then_ok _ leaf _ (number_in_again 0 (2 ^ 48) leaf at (omega arith) below (omega (arith, below)))
arm_again at (Spare parity spare) is =
    let digit : decimal parity ≡ (48 + parity) ∷ [] = decimal_digit parity (omega (arith, is.1)) in
    ap (λ (ds : List ℕ). spare_behind at (ds ++ (codes "-0-" ++ decimal spare))) digit
    ∙ cond-true _ _ _ (and_from _ _ (and_from _ _ (and_from _ _ (and_from (nat_le 49 (48 + parity)) (nat_le (48 + parity) 51) (le-leb 49 (48 + parity) (omega (arith, is.0))) (le-leb (48 + parity) 51 (omega (arith, is.1)))) refl) refl) refl)
    ∙ then_ok _ spare _ (number_in_again 0 (2 ^ 32) spare at (omega arith) is.2 (omega (arith, is.2)))
    ∙ ap (λ (p : ℕ). Ok (Spare p spare)) (omega arith)

arm_word : (arm : ArmArgument) → IsArmArgument arm → IsWord (arm_of arm)
arm_word (Leaf leaf) below = decimal_word leaf (omega (arith, below))
arm_word (Spare parity spare) is =
    All-append (λ byte. is_space byte ≡ false) (codes "draid") _ (literal_word (codes "draid") refl)
    (All-append (λ byte. is_space byte ≡ false) (decimal parity) _ (decimal_word parity (omega (arith, is.1)))
    (All-append (λ byte. is_space byte ≡ false) (codes "-0-") (decimal spare) (literal_word (codes "-0-") refl) (decimal_word spare (omega (arith, is.2)))))

-- a number isn't the word `log`
not_log : (n : ℕ) → n < 2 ^ 64 → bytes_eq (decimal n) (codes "log") ≡ false
not_log n small =
    let numeral = (decimal_is_IsNumeral n small).0 in
    let digit = digit_at (decimal n) 0 numeral.1 numeral.0 in
    differs (decimal n) numeral.0 (omega (arith, digit.1))
  where
    differs : (text : List ℕ) → 0 < length text → get_or text 0 0 ≢ 108 → bytes_eq text (codes "log") ≡ false
    differs [] some other = let none : ⊥ = omega arith in absurd none
    differs (byte ∷ bytes) some other = and_left (byte == 108) _ (ne_eqb byte 108 other)

agent_again : (at least : ℕ) → 1 ≤ least → least < 2 ^ 32 → agent_of 0 (placed_from at (decimal least ∷ [])) ≡ Ok (RunAgent least)
agent_again at least some below =
    cond-false (bytes_eq (decimal least) (codes "log")) _ _ (not_log least (omega arith))
    ∙ then_ok _ least _ (number_in_again 1 (2 ^ 32) least at some below (omega arith))

-- one more key
pub key_given : (read : Result ℕ LineFault) (n : ℕ) (set : Option ℕ → Given) → read ≡ Ok n → ((read >>= λ n. Ok (Some n)) >>= λ value. Ok (set value)) ≡ Ok (set (Some n))
key_given read n set gives = ap (λ (r : Result ℕ LineFault). (r >>= λ n. Ok (Some n)) >>= λ value. Ok (set value)) gives

-- a word `key=value` is read again
given_again : (word : List ℕ) (old new : Given) (at : ℕ) → GivesKey word old new → given_with old (record { text = word; at = at }) ≡ Ok new
unfolding given_with
given_again word old new at gives =
    let v = gives.0 in
    let read = λ (text : List ℕ). let placed_word : Placed = record { text = text; at = at } in given_with old placed_word in
    let value : Placed = record { text = decimal gives.0; at = at } in
    let sector : Option ℕ → Given = λ o. record old { sector = o } in
    let height : Option ℕ → Given = λ o. record old { height = o } in
    let metaslabs : Option ℕ → Given = λ o. record old { metaslabs = o } in
    let slices : Option ℕ → Given = λ o. record old { slices = o } in
    let seed : Option ℕ → Given = λ o. record old { seed = o } in
    let version : Option ℕ → Given = λ o. record old { version = o } in
    let short = λ (below : gives.0 < 2 ^ 32). number_in_again 0 (2 ^ 32) gives.0 at (omega arith) below (omega (arith, below)) in
    elim gives.1 [
      | inl is ↦ ap read is.0 ∙ ap (λ (o : Option ℕ). new_value short_at o value >>= λ x. Ok (sector x)) is.2 ∙ key_given _ v sector (short is.1) ∙ ap (λ (g : Given). Ok g) (sym is.3)
      | inr more ↦ elim more [
        | inl is ↦ ap read is.0 ∙ ap (λ (o : Option ℕ). new_value short_at o value >>= λ x. Ok (height x)) is.2 ∙ key_given _ v height (short is.1) ∙ ap (λ (g : Given). Ok g) (sym is.3)
        | inr more ↦ elim more [
          | inl is ↦ ap read is.0 ∙ ap (λ (o : Option ℕ). new_value short_at o value >>= λ x. Ok (metaslabs x)) is.2 ∙ key_given _ v metaslabs (short is.1) ∙ ap (λ (g : Given). Ok g) (sym is.3)
          | inr more ↦ elim more [
            | inl is ↦ ap read is.0 ∙ ap (λ (o : Option ℕ). new_value short_at o value >>= λ x. Ok (slices x)) is.2 ∙ key_given _ v slices (short is.1) ∙ ap (λ (g : Given). Ok g) (sym is.3)
            | inr more ↦ elim more [
              | inl is ↦ ap read is.0 ∙ ap (λ (o : Option ℕ). new_value number_at o value >>= λ x. Ok (seed x)) is.2 ∙ key_given _ v seed (number_at_again gives.0 at is.1) ∙ ap (λ (g : Given). Ok g) (sym is.3)
              | inr is ↦ ap read is.0 ∙ ap (λ (o : Option ℕ). new_value short_at o value >>= λ x. Ok (version x)) is.2 ∙ key_given _ v version (short is.1) ∙ ap (λ (g : Given). Ok g) (sym is.3)
            ]
          ]
        ]
      ]
    ]

all_again : (words : List (List ℕ)) (old new : Given) (at : ℕ) → GivesKeys words old new → given_by old (placed_from at words) ≡ Ok new
all_again [] old new at gives = ap (λ (g : Given). Ok g) (sym gives)
all_again (word ∷ words) old new at gives =
    then_ok _ gives.0 _ (given_again word old gives.0 at gives.1) ∙ all_again words gives.0 new _ gives.2

-- the keys of `create`
keys_again : (at : ℕ) (words : List (List ℕ)) (keys : PoolKeys) → AreSettings words keys → keys_at (placed_from at words) ≡ Ok keys
keys_again at words keys are =
    then_ok _ are.0 _ (all_again words nothing_given are.0 at are.1) ∙ ap (λ (k : PoolKeys). Ok k) (sym are.2)

-- all keys, in their order
settings_are : (keys : PoolKeys) → AreKeys keys → AreSettings (settings keys) keys
settings_are keys are = (record { sector = Some keys.sector; height = Some keys.height; metaslabs = Some keys.metaslabs; slices = Some keys.slices; seed = Some keys.seed; version = Some keys.version }, (record { sector = Some keys.sector; height = None; metaslabs = None; slices = None; seed = None; version = None }, (keys.sector, inl (refl, are.sector, refl, refl)), (record { sector = Some keys.sector; height = Some keys.height; metaslabs = None; slices = None; seed = None; version = None }, (keys.height, inr (inl (refl, are.height, refl, refl))), (record { sector = Some keys.sector; height = Some keys.height; metaslabs = Some keys.metaslabs; slices = None; seed = None; version = None }, (keys.metaslabs, inr (inr (inl (refl, are.metaslabs, refl, refl)))), (record { sector = Some keys.sector; height = Some keys.height; metaslabs = Some keys.metaslabs; slices = Some keys.slices; seed = None; version = None }, (keys.slices, inr (inr (inr (inl (refl, are.slices, refl, refl))))), (record { sector = Some keys.sector; height = Some keys.height; metaslabs = Some keys.metaslabs; slices = Some keys.slices; seed = Some keys.seed; version = None }, (keys.seed, inr (inr (inr (inr (inl (refl, are.seed, refl, refl)))))), (record { sector = Some keys.sector; height = Some keys.height; metaslabs = Some keys.metaslabs; slices = Some keys.slices; seed = Some keys.seed; version = Some keys.version }, (keys.version, inr (inr (inr (inr (inr ((refl, are.version, refl, refl))))))), refl)))))), refl)

setting_word : (key : List ℕ) (value : ℕ) → IsWord key → value < 2 ^ 64 → IsWord (setting key value)
setting_word key value word small =
    All-append (λ byte. is_space byte ≡ false) key (61 ∷ decimal value) word
    (All-cons (λ byte. is_space byte ≡ false) 61 (decimal value) refl (decimal_word value small))

settings_words : (keys : PoolKeys) → AreKeys keys → AllByRecursion IsWord (settings keys)
settings_words keys are = (
  setting_word (codes "sector") keys.sector (literal_word (codes "sector") refl) (omega (arith, are.sector)),
  (
    setting_word (codes "height") keys.height (literal_word (codes "height") refl) (omega (arith, are.height)),
    (
      setting_word (codes "metaslabs") keys.metaslabs (literal_word (codes "metaslabs") refl) (omega (arith, are.metaslabs)),
      (
        setting_word (codes "slices") keys.slices (literal_word (codes "slices") refl) (omega (arith, are.slices)),
        (
          setting_word (codes "seed") keys.seed (literal_word (codes "seed") refl) are.seed,
          (setting_word (codes "version") keys.version (literal_word (codes "version") refl) (omega (arith, are.version)), tt),
        ),
      ),
    ),
  ),
)

-- words that are spelled so are read as their command
pub words_line : (text : List ℕ) (command : Command) → AreWordsOf command (texts_of text) → IsInRange command → line_of text ≡ Ok command
unfolding command_of
words_line text Silent spelled is = let no : ⊥ = omega (arith, length-slice_split is_space text, ap length spelled) in absurd no
words_line text (CreatePool spec children keys) spelled is =
    line_by_words text name.Create (spec ∷ decimal children ∷ spelled.0) spelled.1
    ∙ then_ok _ children _ (number_in_again 0 (2 ^ 32) children _ (omega arith) is.0 (omega (arith, is.0)))
    ∙ then_ok _ keys _ (keys_again _ spelled.0 keys spelled.2)
words_line text (WriteObject object bytes) spelled is =
    line_by_words text name.Write (decimal object ∷ spelled.0 ∷ []) spelled.1
    ∙ write_again _ _ object spelled.0 bytes is.0 spelled.2 is.2
words_line text ImportPool spelled is =
    line_by_words text name.Import [] spelled
words_line text ExportPool spelled is =
    line_by_words text name.Export [] spelled
words_line text SyncPool spelled is =
    line_by_words text name.Sync [] spelled
words_line text CancelPasses spelled is =
    line_by_words text name.Cancel [] spelled
words_line text CrashPool spelled is =
    line_by_words text name.Crash [] spelled
words_line text (FillObjects first count len seed) spelled is =
    line_by_words text name.Fill (decimal first ∷ decimal count ∷ decimal len ∷ decimal seed ∷ []) spelled
    ∙ fill_again 0 _ first count len seed is.0 is.1 is.2
words_line text (ReadObject object) spelled is =
    line_by_words text name.Read (decimal object ∷ []) spelled
    ∙ then_ok _ object _ (one_again (2 ^ 32) 0 _ object is (omega arith))
words_line text (FreeObject object) spelled is =
    line_by_words text name.Free (decimal object ∷ []) spelled
    ∙ then_ok _ object _ (one_again (2 ^ 32) 0 _ object is (omega arith))
words_line text (SumObjects first count) spelled is =
    line_by_words text name.Sum (decimal first ∷ decimal count ∷ []) spelled
    ∙ sum_again 0 _ first count is
words_line text (TakeOffline leaf) spelled is =
    line_by_words text name.Offline (decimal leaf ∷ []) spelled
    ∙ then_ok _ leaf _ (one_again (2 ^ 48) 0 _ leaf is (omega arith))
words_line text (TakeOnline leaf) spelled is =
    line_by_words text name.Online (decimal leaf ∷ []) spelled
    ∙ then_ok _ leaf _ (one_again (2 ^ 48) 0 _ leaf is (omega arith))
words_line text (DamageSector leaf sector) spelled is =
    line_by_words text name.Damage (decimal leaf ∷ decimal sector ∷ []) spelled
    ∙ then_ok _ (leaf, sector) _ (two_again (2 ^ 48) (2 ^ 26) 0 _ leaf sector is.0 (omega arith) is.1 (omega arith))
words_line text (AttachSpare slot spare) spelled is =
    line_by_words text name.Spare (decimal slot ∷ decimal spare ∷ []) spelled
    ∙ then_ok _ (slot, spare) _ (two_again (2 ^ 32) (2 ^ 32) 0 _ slot spare is.0 (omega arith) is.1 (omega arith))
words_line text (ReplaceDisk slot sectors) spelled is =
    line_by_words text name.Replace (decimal slot ∷ optional sectors) spelled
    ∙ replace_again _ _ slot sectors is.0 is.1
words_line text (DetachArm arm) spelled is =
    line_by_words text name.Detach (arm_of arm ∷ []) spelled
    ∙ then_ok _ arm _ (arm_again _ arm is)
words_line text (RebuildPool limit) spelled is =
    line_by_words text name.Rebuild (optional limit) spelled
    ∙ then_ok _ limit _ (limit_again _ _ limit is)
words_line text (ScrubPool limit) spelled is =
    line_by_words text name.Scrub (optional limit) spelled
    ∙ then_ok _ limit _ (limit_again _ _ limit is)
words_line text (RebalanceSlot slot) spelled is =
    line_by_words text name.Rebalance (decimal slot ∷ []) spelled
    ∙ then_ok _ slot _ (one_again (2 ^ 32) 0 _ slot is (omega arith))
words_line text (ShowStatus Text) spelled is =
    line_by_words text name.Status [] spelled
words_line text (ShowStatus Json) spelled is =
    line_by_words text name.Status (codes "json" ∷ []) spelled
words_line text (OpenLanes count) spelled is =
    line_by_words text name.Lanes (decimal count ∷ []) spelled
    ∙ then_ok _ count _ (number_in_again 1 (most_lanes + 1) count _ is.0 (omega (arith, is.1)) (omega (arith, is.1)))
words_line text UpgradePool spelled is =
    line_by_words text name.Upgrade [] spelled
words_line text (RunAgent least) spelled is =
    line_by_words text name.Agent (decimal least ∷ []) spelled
    ∙ agent_again _ least is.0 is.1
words_line text ShowJournal spelled is =
    line_by_words text name.Agent (codes "log" ∷ []) spelled
words_line text TakeCheckpoint spelled is =
    line_by_words text name.Checkpoint [] spelled
words_line text RewindPool spelled is =
    line_by_words text name.Rewind [] spelled
words_line text DiscardCheckpoint spelled is =
    line_by_words text name.Discard [] spelled

silent_line : (text : List ℕ) → is_silent text ≡ true → line_of text ≡ Ok Silent
unfolding line_of
silent_line text silent = cond-true (is_silent text) (Ok Silent) (outside (length text) (words_of text)) silent

-- a line that is spelled as a command is read as it
pub line_spelled : (text : List ℕ) (command : Command) → IsLine text command → line_of text ≡ Ok command
line_spelled text command (inl silent) = silent_line text silent.0 ∙ ap (λ (c : Command). Ok c) (sym silent.1)
line_spelled text command (inr spelled) = words_line text command spelled.0 spelled.1

-- what is written is spelled so
pub written_words_are : (command : Command) → IsWritable command → AllByRecursion IsWord (written_words command)
written_words_are Silent is = tt
written_words_are (CreatePool spec children keys) is =
    let word = All-weaker (λ byte. byte ≢ 32) (λ byte. is_space byte ≡ false) (λ byte other. ne_eqb byte 32 other) spec is.1 in
    (name_word name.Create, (word, (decimal_word children (omega (arith, is.0.0)), settings_words keys is.0.1)))
written_words_are ImportPool is = (name_word name.Import, tt)
written_words_are ExportPool is = (name_word name.Export, tt)
written_words_are SyncPool is = (name_word name.Sync, tt)
written_words_are CancelPasses is = (name_word name.Cancel, tt)
written_words_are CrashPool is = (name_word name.Crash, tt)
written_words_are (WriteObject object bytes) is = (name_word name.Write, (decimal_word object (omega (arith, is.0.0)), (hex_word bytes is.1, tt)))
written_words_are (FillObjects first count len seed) is = (name_word name.Fill, (decimal_word first (omega (arith, is.0.2)), (decimal_word count (omega (arith, is.0.1)), (decimal_word len (omega (arith, is.1.1)), (decimal_word seed is.2, tt)))))
written_words_are (ReadObject object) is = (name_word name.Read, (decimal_word object (omega (arith, is)), tt))
written_words_are (FreeObject object) is = (name_word name.Free, (decimal_word object (omega (arith, is)), tt))
written_words_are (SumObjects first count) is = (name_word name.Sum, (decimal_word first (omega (arith, is.2)), (decimal_word count (omega (arith, is.1)), tt)))
written_words_are (TakeOffline leaf) is = (name_word name.Offline, (decimal_word leaf (omega (arith, is)), tt))
written_words_are (TakeOnline leaf) is = (name_word name.Online, (decimal_word leaf (omega (arith, is)), tt))
written_words_are (DamageSector leaf sector) is = (name_word name.Damage, (decimal_word leaf (omega (arith, is.0)), (decimal_word sector (omega (arith, is.1)), tt)))
written_words_are (AttachSpare slot spare) is = (name_word name.Spare, (decimal_word slot (omega (arith, is.0)), (decimal_word spare (omega (arith, is.1)), tt)))
written_words_are (ReplaceDisk slot sectors) is = (name_word name.Replace, (decimal_word slot (omega (arith, is.0)), sectors_words sectors is.1))
written_words_are (DetachArm arm) is = (name_word name.Detach, (arm_word arm is, tt))
written_words_are (RebuildPool limit) is = (name_word name.Rebuild, (limit_words limit is))
written_words_are (ScrubPool limit) is = (name_word name.Scrub, (limit_words limit is))
written_words_are (RebalanceSlot slot) is = (name_word name.Rebalance, (decimal_word slot (omega (arith, is)), tt))
written_words_are (ShowStatus Text) is = (name_word name.Status, tt)
written_words_are (ShowStatus Json) is = (name_word name.Status, (literal_word (codes "json") refl, tt))
written_words_are (OpenLanes count) is = (name_word name.Lanes, (decimal_word count (omega (arith, is.1)), tt))
written_words_are UpgradePool is = (name_word name.Upgrade, tt)
written_words_are (RunAgent least) is = (name_word name.Agent, (decimal_word least (omega (arith, is.1)), tt))
written_words_are ShowJournal is = (name_word name.Agent, (literal_word (codes "log") refl, tt))
written_words_are TakeCheckpoint is = (name_word name.Checkpoint, tt)
written_words_are RewindPool is = (name_word name.Rewind, tt)
written_words_are DiscardCheckpoint is = (name_word name.Discard, tt)

-- what is written is spelled so, where the words of a line are those that are written
pub spelled_so : (command : Command) (words : List (List ℕ)) → IsWritable command → words ≡ written_words command → AreWordsOf command words
spelled_so (CreatePool spec children keys) words is same = (settings keys, same, settings_are keys is.0.1)
spelled_so (WriteObject object bytes) words is same = (encode_lower bytes, same, bytes_again bytes is.1 (omega (arith, is.0.1)))
spelled_so Silent words is same = same
spelled_so ImportPool words is same = same
spelled_so ExportPool words is same = same
spelled_so SyncPool words is same = same
spelled_so CancelPasses words is same = same
spelled_so CrashPool words is same = same
spelled_so (FillObjects first count len seed) words is same = same
spelled_so (ReadObject object) words is same = same
spelled_so (FreeObject object) words is same = same
spelled_so (SumObjects first count) words is same = same
spelled_so (TakeOffline leaf) words is same = same
spelled_so (TakeOnline leaf) words is same = same
spelled_so (DamageSector leaf sector) words is same = same
spelled_so (AttachSpare slot spare) words is same = same
spelled_so (ReplaceDisk slot sectors) words is same = same
spelled_so (DetachArm arm) words is same = same
spelled_so (RebuildPool limit) words is same = same
spelled_so (ScrubPool limit) words is same = same
spelled_so (RebalanceSlot slot) words is same = same
spelled_so (ShowStatus format) words is same = same
spelled_so (OpenLanes count) words is same = same
spelled_so UpgradePool words is same = same
spelled_so (RunAgent least) words is same = same
spelled_so ShowJournal words is same = same
spelled_so TakeCheckpoint words is same = same
spelled_so RewindPool words is same = same
spelled_so DiscardCheckpoint words is same = same

pub in_range : (command : Command) → IsWritable command → IsInRange command
in_range (CreatePool spec children keys) is = is.0
in_range (WriteObject object bytes) is = is.0
in_range Silent is = is
in_range ImportPool is = is
in_range ExportPool is = is
in_range SyncPool is = is
in_range CancelPasses is = is
in_range CrashPool is = is
in_range (FillObjects first count len seed) is = is
in_range (ReadObject object) is = is
in_range (FreeObject object) is = is
in_range (SumObjects first count) is = is
in_range (TakeOffline leaf) is = is
in_range (TakeOnline leaf) is = is
in_range (DamageSector leaf sector) is = is
in_range (AttachSpare slot spare) is = is
in_range (ReplaceDisk slot sectors) is = is
in_range (DetachArm arm) is = is
in_range (RebuildPool limit) is = is
in_range (ScrubPool limit) is = is
in_range (RebalanceSlot slot) is = is
in_range (ShowStatus format) is = is
in_range (OpenLanes count) is = is
in_range UpgradePool is = is
in_range (RunAgent least) is = is
in_range ShowJournal is = is
in_range TakeCheckpoint is = is
in_range RewindPool is = is
in_range DiscardCheckpoint is = is

pub split_written : (texts : List (List ℕ)) → AllByRecursion IsWord texts → 0 < length texts → texts_of (join_with_byte 32 texts) ≡ texts
split_written [] are some = let no : ⊥ = omega arith in absurd no
split_written (text ∷ texts) are some = split_joined text texts are.0 are.1

line_from : (command : Command) → IsWritable command → 0 < length (written_words command) → line_of (written_line command) ≡ Ok command
line_from command is some =
    words_line (written_line command) command (spelled_so command _ is (split_written (written_words command) (written_words_are command is) some)) (in_range command is)

pub line_again : (command : Command) → IsWritable command → line_of (written_line command) ≡ Ok command
unfolding line_of
line_again Silent is = refl
line_again (CreatePool spec children keys) is = line_from (CreatePool spec children keys) is (omega arith)
line_again (WriteObject object bytes) is = line_from (WriteObject object bytes) is (omega arith)
line_again ImportPool is = line_from ImportPool is (omega arith)
line_again ExportPool is = line_from ExportPool is (omega arith)
line_again SyncPool is = line_from SyncPool is (omega arith)
line_again CancelPasses is = line_from CancelPasses is (omega arith)
line_again CrashPool is = line_from CrashPool is (omega arith)
line_again (FillObjects first count len seed) is = line_from (FillObjects first count len seed) is (omega arith)
line_again (ReadObject object) is = line_from (ReadObject object) is (omega arith)
line_again (FreeObject object) is = line_from (FreeObject object) is (omega arith)
line_again (SumObjects first count) is = line_from (SumObjects first count) is (omega arith)
line_again (TakeOffline leaf) is = line_from (TakeOffline leaf) is (omega arith)
line_again (TakeOnline leaf) is = line_from (TakeOnline leaf) is (omega arith)
line_again (DamageSector leaf sector) is = line_from (DamageSector leaf sector) is (omega arith)
line_again (AttachSpare slot spare) is = line_from (AttachSpare slot spare) is (omega arith)
line_again (ReplaceDisk slot sectors) is = line_from (ReplaceDisk slot sectors) is (omega arith)
line_again (DetachArm arm) is = line_from (DetachArm arm) is (omega arith)
line_again (RebuildPool limit) is = line_from (RebuildPool limit) is (omega arith)
line_again (ScrubPool limit) is = line_from (ScrubPool limit) is (omega arith)
line_again (RebalanceSlot slot) is = line_from (RebalanceSlot slot) is (omega arith)
line_again (ShowStatus Text) is = line_from (ShowStatus Text) is (omega arith)
line_again (ShowStatus Json) is = line_from (ShowStatus Json) is (omega arith)
line_again (OpenLanes count) is = line_from (OpenLanes count) is (omega arith)
line_again UpgradePool is = line_from UpgradePool is (omega arith)
line_again (RunAgent least) is = line_from (RunAgent least) is (omega arith)
line_again ShowJournal is = line_from ShowJournal is (omega arith)
line_again TakeCheckpoint is = line_from TakeCheckpoint is (omega arith)
line_again RewindPool is = line_from RewindPool is (omega arith)
line_again DiscardCheckpoint is = line_from DiscardCheckpoint is (omega arith)
