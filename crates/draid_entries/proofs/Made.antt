-- The table that is made of a list of blocks.
use Rattle.std.proofs.Common.{◌≡◌, ◌==◌, ◌<◌, ◌≤◌, ◌+◌, ◌||◌, ℕ, zero, suc, Bool, true, false, List, [], ◌∷◌, ◌++◌, length, take, find, Option, Some, None, option_map, is_some, cond, if◌then◌else◌, refl, sym, ◌∙◌, ap, arith, slice_index_or}
use Rattle.std.specs.List.{list_any}
use Rattle.std.specs.Option.{option_or}
use Rattle.std.proofs.lemmas.Bool.{true≢false}
use Rattle.std.proofs.lemmas.Bool.Decides.{nat_tests}
use Rattle.std.proofs.lemmas.List.{length-append}
use Rattle.std.proofs.lemmas.List.Folds.{find-append}
use Rattle.draid_names.specs.declared.numbers.TheConstants.{NUMBERS}
use Rattle.draid_names.specs.declared.pointer.Pointer.{Pointer}
use Rattle.draid_machine.specs.declared.names.Key.{Key}
use Rattle.draid_machine.specs.declared.names.Held.{Held}
use Rattle.draid_machine.specs.declared.names.Stage.TheVariants.{Live}
use Rattle.draid_machine.specs.Names.{key_eq}
use Rattle.draid_machine.proofs.Small.{key_true}
use Rattle.draid_entries.specs.declared.entry.Entry.{Entry}
use Rattle.draid_entries.specs.declared.entries.Entries.{Entries}
use Rattle.draid_entries.specs.Entries.{IsEntered, SetsEntry, count_of, entry_at, held_in, owed_at, owed_by}
use Rattle.draid_entries.specs.Listed.{AscendFrom, has_key, held_of}
use Rattle.draid_entries.specs.Live.{HasLive, begins_at, twice_in}
use Rattle.draid_entries.specs.Maps.{entry_in, first_in, held_at, held_from, key_of, staged}
use Rattle.draid_entries.proofs.Sums.{sum_none}

same_number : (n : ℕ) → (n == n) ≡ true
same_number n = grind (arith, nat_tests)

is_same : (a b : ℕ) → (a == b) ≡ true → a ≡ b
is_same a b e = grind (arith, nat_tests)

map_none : {A B : Type 0} (f : A → B) (o : Option A) → option_map f o ≡ None → o ≡ None
map_none f None e = refl
map_none f (Some x) e = absurd (cc)

-- ---- a place that is set twice

-- what stands at the place afterwards
set_there : (a b : Entries) (p : Pointer) (e : Option Entry) → SetsEntry a b p e → entry_at b p.first ≡ e
set_there a b p e sets = sets.at p.first ∙ ap (λ t. if t then e else entry_at a p.first) (same_number p.first)

pub entered : (a b : Entries) (p : Pointer) (e : Entry) → e.pointer ≡ p → SetsEntry a b p (Some e) → IsEntered b p
entered a b p e own sets = record { stage = e.stage; there = set_there a b p (Some e) sets ∙ ap (λ q. Some (staged e.stage q)) own }

sums : (now at_b mid e f at_a before : ℕ) → now + at_b ≡ mid + f → mid + at_a ≡ before + e → at_b ≡ e → now + at_a ≡ before + f
sums now at_b mid e f at_a before x y z = omega (arith, x, y, z)

pub set_again : (a b c : Entries) (p : Pointer) (e f : Option Entry) → SetsEntry a b p e → SetsEntry b c p f → SetsEntry a c p f
set_again a b c p e f one two = record {
  at = λ first. two.at first ∙ ap (λ o. if first == p.first then f else o) (one.at first) ∙ either (first == p.first) f e (entry_at a first);
  held = λ key. two.held key ∙ ap (λ o. if key_eq (key_of p) key then option_map held_at f else o) (one.held key)
      ∙ either (key_eq (key_of p) key) (option_map held_at f) (option_map held_at e) (held_in a key);
  owed = λ columns. sums (owed_by columns c) (owed_at columns (entry_at b p.first)) (owed_by columns b) (owed_at columns e) (owed_at columns f) (owed_at columns (entry_at a p.first)) (owed_by columns a)
      (two.owed columns) (one.owed columns) (ap (owed_at columns) (set_there a b p e one));
}
  where
    either : {X : Type 0} (t : Bool) (x y z : X) → (if t then x else if t then y else z) ≡ (if t then x else z)
    either true x y z = refl
    either false x y z = refl

-- ---- look-ups in a list
pub found_any : {A B : Type 0} (f : A → B) (p : A → Bool) (xs : List A) → is_some (option_map f (find p xs)) ≡ list_any p xs
found_any f p [] = refl
found_any f p (x ∷ xs) = by (p x) (found_any f p xs)
  where
    by : (t : Bool) → is_some (option_map f (find p xs)) ≡ list_any p xs → is_some (option_map f (cond t (Some x) (find p xs))) ≡ (t || list_any p xs)
    by true e = refl
    by false e = e

or_none : {A : Type 0} (o : Option A) → option_or o None ≡ o
or_none None = refl
or_none (Some x) = refl

-- one more at the end, where nothing before passes a test that it passes
found_last : {A B : Type 0} (f : A → B) (p : A → Bool) (xs : List A) (x : A) → (p x ≡ true → find p xs ≡ None) → option_map f (find p (xs ++ x ∷ [])) ≡ (if p x then Some (f x) else option_map f (find p xs))
found_last f p xs x none = ap (option_map f) (find-append p xs (x ∷ [])) ∙ by (p x) refl
  where
    by : (t : Bool) → p x ≡ t → option_map f (option_or (find p xs) (cond t (Some x) None)) ≡ (if t then Some (f x) else option_map f (find p xs))
    by true is = ap (λ o. option_map f (option_or o (Some x))) (none is)
    by false is = ap (option_map f) (or_none (find p xs))

-- ---- one more block
one_owed : (now before at_b n : ℕ) → now + at_b ≡ before + 1 → at_b ≡ 0 → before ≡ n → now ≡ n + 1
one_owed now before at_b n a b c = omega (arith, a, b, c)

pub live_more : (t new : Entries) (front : List Pointer) (b : Pointer) → HasLive t front → entry_at t b.first ≡ None → held_in t (key_of b) ≡ None
    → SetsEntry t new b (Some (staged Live b)) → count_of new ≡ count_of t + 1 → HasLive new (front ++ b ∷ [])
live_more t new front b has free unused sets count = record {
  at = λ first. sets.at first ∙ ap (λ o. if first == b.first then Some (staged Live b) else o) (has.at first)
      ∙ sym (found_last (staged Live) (begins_at first) front b (λ is. no_first first (is_same first b.first is)));
  held = λ key. sets.held key ∙ ap (λ o. if key_eq (key_of b) key then Some (held_of b) else o) (has.held key)
      ∙ sym (found_last held_of (has_key key) front b (λ is. no_key key (key_true (key_of b) key is)));
  count = count ∙ ap (λ n. n + 1) has.count ∙ sym (length-append front (b ∷ []));
  owed = λ columns. one_owed (owed_by columns new) (owed_by columns t) (owed_at columns (entry_at t b.first)) (length front) (sets.owed columns) (ap (owed_at columns) free) (has.owed columns)
      ∙ sym (length-append front (b ∷ []));
}
  where
    no_first : (first : ℕ) → first ≡ b.first → find (begins_at first) front ≡ None
    no_first first same = map_none (staged Live) (find (begins_at first) front) (sym (has.at first) ∙ ap (entry_at t) same ∙ free)

    no_key : (key : Key) → key_of b ≡ key → find (has_key key) front ≡ None
    no_key key same = map_none held_of (find (has_key key) front) (sym (has.held key) ∙ ap (held_in t) (sym same) ∙ unused)

pub live_none : (t : Entries) → ((first : ℕ) → entry_at t first ≡ None) → ((key : Key) → held_in t key ≡ None) → count_of t ≡ 0 → HasLive t []
unfolding owed_by
live_none t none held count = record { at = none; held = held; count = count; owed = λ columns. sum_none (λ first. owed_at columns (entry_at t first)) NUMBERS (λ first. ap (owed_at columns) (none first)) }

-- ---- blocks that ascend
past : (low : ℕ) (xs : List Pointer) (k : ℕ) (d : Pointer) → AscendFrom low xs → k < length xs → low ≤ (slice_index_or xs k d).first
past low [] k d up less = absurd (omega (arith, less))
past low (x ∷ xs) zero d up less = up.0
past low (x ∷ xs) (suc k) d up less = let rest = past (x.first + 1) xs k d up.1 (omega (arith, less)) in let own = up.0 in omega (arith, rest, own)

pub none_before : (low : ℕ) (xs : List Pointer) (k : ℕ) (d : Pointer) → AscendFrom low xs → k < length xs → find (begins_at (slice_index_or xs k d).first) (take k xs) ≡ None
none_before low [] k d up less = absurd (omega (arith, less))
none_before low (x ∷ xs) zero d up less = refl
none_before low (x ∷ xs) (suc k) d up less =
    let b : Pointer = slice_index_or xs k d in
    let behind : x.first + 1 ≤ b.first = past (x.first + 1) xs k d up.1 (omega (arith, less)) in
    let other : begins_at b.first x ≡ false = grind (arith, nat_tests, behind) in
    ap (λ t. cond t (Some x) (find (begins_at b.first) (take k xs))) other ∙ none_before (x.first + 1) xs k d up.1 (omega (arith, less))

-- ---- keys that stand twice
pub twice_here : (before : List Pointer) (b : Pointer) (bs : List Pointer) → list_any (has_key (key_of b)) before ≡ true → twice_in before (b ∷ bs) ≡ Some (length before)
twice_here before b bs is = ap (λ t. if t then Some (length before) else twice_in (before ++ b ∷ []) bs) is

pub twice_later : (before : List Pointer) (b : Pointer) (bs : List Pointer) → list_any (has_key (key_of b)) before ≡ false → twice_in before (b ∷ bs) ≡ twice_in (before ++ b ∷ []) bs
twice_later before b bs is = ap (λ t. if t then Some (length before) else twice_in (before ++ b ∷ []) bs) is

-- ---- keys that lead somewhere
pub held_there : (t : Entries) (key : Key) → is_some (first_in t.keys.entries key) ≡ is_some (held_in t key)
held_there t key = by (first_in t.keys.entries key) refl
  where
    some : (o : Option Entry) → option_map (λ (e : Entry). key_of e.pointer) o ≡ Some key → true ≡ is_some (option_map held_at o)
    some None e = absurd (cc)
    some (Some e) is = refl

    by : (o : Option ℕ) → first_in t.keys.entries key ≡ o → is_some o ≡ is_some (held_from t.firsts o)
    by None is = refl
    by (Some first) is = some (entry_in t.firsts first) (t.agree.leads key first is)

-- ---- what a table has of a list
pub any_held : (t : Entries) (blocks : List Pointer) (key : Key) → HasLive t blocks → {b : Bool} → is_some (held_in t key) ≡ b → list_any (has_key key) blocks ≡ b
any_held t blocks key has is = sym (found_any held_of (has_key key) blocks) ∙ ap is_some (sym (has.held key)) ∙ is

pub none_held : (t : Entries) (key : Key) → is_some (held_in t key) ≡ false → held_in t key ≡ None
none_held t key is = by (held_in t key) is
  where
    by : (o : Option Held) → is_some o ≡ false → o ≡ None
    by None e = refl
    by (Some h) e = absurd (true≢false e)

pub no_block : (t : Entries) (blocks : List Pointer) (b : Pointer) → HasLive t blocks → find (begins_at b.first) blocks ≡ None → entry_at t b.first ≡ None
no_block t blocks b has none = has.at b.first ∙ ap (option_map (staged Live)) none
