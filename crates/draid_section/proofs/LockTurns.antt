-- The turns that several lanes had of one lock are one list, in the order of their places, and so is what was done in them.
use Rattle.std.proofs.Common.{◌≡◌, ◌∙◌, ◌++◌, ◌∷◌, ◌+◌, arith, ℕ, zero, suc, List, [], Some, All, Contains, ap, sym, subst, refl, nat_eq, slice_set, map, slice_index_or}
use Rattle.std.specs.Prelude.{flat_map, slice_get}
use Rattle.std.proofs.lemmas.List.Concat.{flat_map-cons}
use Rattle.std.proofs.lemmas.List.Elements.{All-cons, All-head, All-nil, All-tail, Contains-get_or}
use Rattle.std.proofs.lemmas.List.Sums.{sum_by-cons}
use Rattle.draid_turn.specs.Lists.{Ascends, one_if, one_within, places, times}
use Rattle.draid_session.specs.Holds.{Hold}
use Rattle.draid_session.specs.Lanes.{IsMerged}
use Rattle.draid_pool.proofs.Lists.{get_set_same, set_back, set_twice}
use Rattle.draid_lanes.specs.Traces.{LaneTurn, holds_in, places_in}
use Rattle.draid_section.proofs.Merging.{InOrder, how_often, in_all, in_order, places_of}

-- ---- lists that are flattened

-- several elements of one list come first
merged_front : {A : Type 0} (lists : List (List A)) (i : ℕ) (front rest order : List A) → slice_get lists i ≡ Some (front ++ rest) → IsMerged (slice_set lists i rest) order → IsMerged lists (front ++ order)
merged_front lists i [] rest order at m = subst (λ ls. IsMerged ls order) (set_back lists i rest at) m
merged_front lists i (x ∷ front) rest order at m = (
  i,
  front ++ rest,
  at,
  merged_front (slice_set lists i (front ++ rest)) i front rest order (get_set_same lists i (x ∷ front ++ rest) (front ++ rest) at) (subst (λ ls. IsMerged ls order) (sym (set_twice lists i (front ++ rest) rest)) m),
)

module _ {A B : Type 0} (f : A → List B) where
  flat_get : (lists : List (List A)) (i : ℕ) (xs : List A) → slice_get lists i ≡ Some xs → slice_get (map (flat_map f) lists) i ≡ Some (flat_map f xs)
  flat_get [] i xs at = absurd (cc)
  flat_get (ys ∷ lists) zero xs at = (let same : ys ≡ xs = cc in ap (λ l. Some (flat_map f l)) same)
  flat_get (ys ∷ lists) (suc i) xs at = flat_get lists i xs at

  flat_set : (lists : List (List A)) (i : ℕ) (xs : List A) → map (flat_map f) (slice_set lists i xs) ≡ slice_set (map (flat_map f) lists) i (flat_map f xs)
  flat_set [] i xs = refl
  flat_set (ys ∷ lists) zero xs = refl
  flat_set (ys ∷ lists) (suc i) xs = ap (λ l. flat_map f ys ∷ l) (flat_set lists i xs)

  all_flat : (lists : List (List A)) → All (λ l. l ≡ []) lists → All (λ l. l ≡ []) (map (flat_map f) lists)
  all_flat [] none = All-nil (λ l. l ≡ [])
  all_flat (xs ∷ lists) none =
      All-cons (λ l. l ≡ []) (flat_map f xs) (map (flat_map f) lists) (ap (flat_map f) (All-head (λ l. l ≡ []) xs lists none)) (all_flat lists (All-tail (λ l. l ≡ []) xs lists none))

  pub flat_merged : (order : List A) (lists : List (List A)) → IsMerged lists order → IsMerged (map (flat_map f) lists) (flat_map f order)
  flat_merged [] lists none = all_flat lists none
  flat_merged (x ∷ xs) lists (i, rest, at, more) =
      subst (IsMerged (map (flat_map f) lists)) (sym (flat_map-cons f x xs))
      (merged_front (map (flat_map f) lists) i (f x) (flat_map f rest) (flat_map f xs) (flat_get lists i (x ∷ rest) at ∙ ap Some (flat_map-cons f x rest))
      (subst (λ ls. IsMerged ls (flat_map f xs)) (flat_set lists i rest) (flat_merged xs (slice_set lists i rest) more)))

-- what is so of each element of each list is so of all of them
module _ {A : Type 0} (P : A → Type 0) where
  rest_all : (lists : List (List A)) (i : ℕ) (x : A) (rest : List A) → slice_get lists i ≡ Some (x ∷ rest) → ((j : ℕ) (list : List A) → slice_get lists j ≡ Some list → All P list)
      → (j : ℕ) (list : List A) → slice_get (slice_set lists i rest) j ≡ Some list → All P list
  rest_all [] i x rest at each j list there = absurd (cc)
  rest_all (ys ∷ lists) zero x rest at each zero list there = (let same : rest ≡ list = cc in subst (All P) same (All-tail P x rest (each 0 (x ∷ rest) at)))
  rest_all (ys ∷ lists) zero x rest at each (suc j) list there = each (suc j) list there
  rest_all (ys ∷ lists) (suc i) x rest at each zero list there = each 0 list there
  rest_all (ys ∷ lists) (suc i) x rest at each (suc j) list there = rest_all lists i x rest at (λ k l e. each (suc k) l e) j list there

  pub all_merged : (order : List A) (lists : List (List A)) → IsMerged lists order → ((j : ℕ) (list : List A) → slice_get lists j ≡ Some list → All P list) → All P order
  all_merged [] lists none each = All-nil P
  all_merged (x ∷ xs) lists (i, rest, at, more) each = All-cons P x xs (All-head P x rest (each i (x ∷ rest) at)) (all_merged xs (slice_set lists i rest) more (rest_all lists i x rest at each))

-- ---- turns

abbrev pub Pair : Type 0
Pair = ℕ × List Hold

-- a turn as a place and what was done there
abbrev pub pair_of : LaneTurn → Pair
pair_of turn = (turn.place, turn.holds)

abbrev pub pairs : List LaneTurn → List Pair
pairs turns = map pair_of turns

abbrev pub done_in : Pair → List Hold
done_in p = p.1

places_pairs : (turns : List LaneTurn) → places_of (pairs turns) ≡ places_in turns
places_pairs [] = refl
places_pairs (turn ∷ turns) = ap (λ l. turn.place ∷ l) (places_pairs turns)

pub holds_pairs : (turns : List LaneTurn) → flat_map done_in (pairs turns) ≡ holds_in turns
holds_pairs [] = refl
holds_pairs (turn ∷ turns) =
    flat_map-cons done_in (pair_of turn) (pairs turns) ∙ (ap (λ l. turn.holds ++ l) (holds_pairs turns) ∙ sym (flat_map-cons (λ (t : LaneTurn). t.holds) turn turns))

often_pairs : (x : ℕ) (turns : List LaneTurn) → how_often x (pairs turns) ≡ times x (places_in turns)
often_pairs x [] = refl
often_pairs x (turn ∷ turns) =
    let rest = often_pairs x turns in
    let all = sum_by-cons (λ (y : ℕ). one_if (nat_eq y x)) turn.place (places_in turns) in omega (arith, rest, all)

-- how often a place is one of theirs
abbrev pub all_times : ℕ → List (List LaneTurn) → ℕ
all_times x [] = 0
all_times x (turns ∷ lists) = times x (places_in turns) + all_times x lists

all_pairs : (x : ℕ) (lists : List (List LaneTurn)) → in_all x (map pairs lists) ≡ all_times x lists
all_pairs x [] = refl
all_pairs x (turns ∷ lists) = (let first = often_pairs x turns in let rest = all_pairs x lists in omega (arith, first, rest))

get_pairs : (lists : List (List LaneTurn)) (i : ℕ) (ps : List Pair) → slice_get (map pairs lists) i ≡ Some ps → (turns : List LaneTurn) × (slice_get lists i ≡ Some turns) × (pairs turns ≡ ps)
get_pairs [] i ps at = absurd (cc)
get_pairs (turns ∷ lists) zero ps at = (turns, refl, cc)
get_pairs (turns ∷ lists) (suc i) ps at = get_pairs lists i ps at

flat_pairs : (lists : List (List LaneTurn)) → map (flat_map done_in) (map pairs lists) ≡ map holds_in lists
flat_pairs [] = refl
flat_pairs (turns ∷ lists) = ap (λ (l : List Hold). l ∷ map (flat_map done_in) (map pairs lists)) (holds_pairs turns) ∙ ap (λ ls. holds_in turns ∷ ls) (flat_pairs lists)

all_turns : (P : Pair → Type 0) (turns : List LaneTurn) → ((turn : LaneTurn) → Contains turns turn → P (pair_of turn)) → All P (pairs turns)
all_turns P turns each = by turns (λ k d lt. each (slice_index_or turns k d) (Contains-get_or turns k d lt))
  where
    by : (ts : List LaneTurn) → All (λ t. P (pair_of t)) ts → All P (pairs ts)
    by [] all = All-nil P
    by (t ∷ ts) all = All-cons P (pair_of t) (pairs ts) (All-head (λ u. P (pair_of u)) t ts all) (by ts (All-tail (λ u. P (pair_of u)) t ts all))

-- Turns of one lock, each place below some number just once: one list in the order of the places, of which all is so that is so of each lane's.
pub record OneList (P : Pair → Type 0) (lists : List (List LaneTurn)) (many : ℕ) : Type 0 where
  pub order : List Pair
  pub at : places_of order ≡ places 0 many
  pub merged : IsMerged (map holds_in lists) (flat_map done_in order)
  pub so : All P order

zero_more : (n : ℕ) → n ≡ 0 + n
zero_more n = omega arith

pub one_list : (P : Pair → Type 0) (lists : List (List LaneTurn)) (many : ℕ) → ((x : ℕ) → all_times x lists ≡ one_within 0 many x) → ((i : ℕ) (turns : List LaneTurn) → slice_get lists i ≡ Some turns → Ascends (places_in turns))
    → ((i : ℕ) (turns : List LaneTurn) → slice_get lists i ≡ Some turns → (turn : LaneTurn) → Contains turns turn → P (pair_of turn)) → OneList P lists many
one_list P lists many once ascend each = record {
  order = o.order;
  at = o.at;
  merged = subst (λ ls. IsMerged ls (flat_map done_in o.order)) (flat_pairs lists) (flat_merged done_in o.order (map pairs lists) o.merged);
  so = all_merged P o.order (map pairs lists) o.merged (λ i ps at. (let g = get_pairs lists i ps at in subst (All P) g.2 (all_turns P g.0 (each i g.0 g.1))));
}
  where
    o : InOrder 0 many (map pairs lists)
    o = in_order many 0 (map pairs lists) (λ x. all_pairs x lists ∙ (once x ∙ ap (λ n. one_within 0 n x) (zero_more many))) (λ i ps at. (let g = get_pairs lists i ps at in subst (λ l. Ascends (places_of l)) g.2 (subst Ascends (sym (places_pairs g.0)) (ascend i g.0 g.1))))
