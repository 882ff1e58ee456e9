-- What the check records of a checkpoint say.
use Rattle.std.proofs.Common.{◌≡◌, ◌==◌, ◌<◌, ◌≤◌, ◌+◌, ◌^◌, ◌&&◌, ◌||◌, ◌∷◌, ◌++◌, ◌∙◌, [], ℕ, Bool, true, false, List, Option, Some, None, arith, ap, length, nat_lt, refl, sym, subst, if◌then◌else◌}
use Rattle.std.specs.Prelude.{⊤, All, filter, map, nat_le, not}
use Rattle.std.proofs.lemmas.Bool.Decides.{nat_tests}
use Rattle.std.proofs.lemmas.List.Elements.{All-cons, All-nil, recursion_from_All}
use Rattle.std.proofs.lemmas.List.{append-nil}
use Rattle.std.specs.List.{AllByRecursion as ByRecursion}
use Rattle.draid_checkpoint.specs.Check.{Drops, Point}
use Rattle.draid_checkpoint.specs.declared.check.DroppedIn.{DroppedIn}
use Rattle.draid_record.specs.Checks.{AreDrops, CheckTold, IsCheck, is_behind, least_object, most_drops}
use Rattle.draid_record.specs.declared.checks.Dropped.{Dropped}
use Rattle.draid_uber.proofs.Ascending.{drops_stay}
use Rattle.draid_uber.specs.Points.{IsOther, KeepsCheck, block_of, dropped_in, drops_upto, drops_with, insert_drop, is_before, no_check, told_at, told_of}

-- each group's record can say that there is none
pub none_is_check : (group : ℕ) → group < 2 ^ 64 → IsCheck group no_check
none_is_check group small = record { small = small; upto = omega arith; few = omega arith; drops_are = tt }

pub none_told : (point : Point) (group : ℕ) → point.group ≡ None → told_at point group ≡ no_check
none_told point group none = λ i. told_of group (none i) point.drops

pub none_spelled : (point : Point) (group : ℕ) → point.group ≡ None → group < 2 ^ 64 → IsCheck group (told_at point group)
none_spelled point group none small = subst (IsCheck group) (sym (none_told point group none)) (none_is_check group small)

pub none_positive : (point : Point) → point.group ≡ None → (own : ℕ) → point.group ≡ Some own → 0 < own
none_positive point none own some = absurd (let both = sym none ∙ some in cc)

-- ---- one is made

-- from its group on it is told
pub made_told : (point : Point) (group : ℕ) → point.group ≡ Some group → point.drops ≡ [] → (g : ℕ) → group ≤ g → told_at point g ≡ record { group = group; drops = [] }
made_told point group own new g from =
    let low : nat_le group g ≡ true = grind (arith, nat_tests, from) in
    (λ i. told_of g (own i) (new i)) ∙ ap (λ b. if b then record { group = group; drops = [] } else no_check) low

pub made_spelled : (point : Point) (group : ℕ) → point.group ≡ Some group → point.drops ≡ [] → (g : ℕ) → group ≤ g → g < 2 ^ 64 → IsCheck g (told_at point g)
made_spelled point group own new g from small = subst (IsCheck g) (sym (made_told point group own new g from)) (record { small = small; upto = from; few = omega arith; drops_are = tt })

pub made_positive : (point : Point) (group : ℕ) → point.group ≡ Some group → 0 < group → (own : ℕ) → point.group ≡ Some own → 0 < own
made_positive point group is some own same = by own (sym is ∙ same)
  where
    by : (own : ℕ) → Some group ≡ Some own → 0 < own
    by own e = (let one : group ≡ own = cc in omega (arith, some, one))

-- ---- a block is dropped

-- the blocks are others than one
abbrev Apart : Dropped → List Dropped → Type 0
Apart b [] = ⊤
Apart b (e ∷ es) = (e.object ≡ b.object → e.seq ≡ b.seq → ⊥) × Apart b es

insert_apart : (b d : Dropped) (es : List Dropped) → (d.object ≡ b.object → d.seq ≡ b.seq → ⊥) → Apart b es → Apart b (insert_drop d es)
insert_apart b d [] other apart = (other, tt)
insert_apart b d (e ∷ es) other apart = by (insert_apart b d es other apart.1) (is_before d e)
  where
    by : Apart b (insert_drop d es) → (before : Bool) → Apart b (if before then d ∷ e ∷ es else e ∷ insert_drop d es)
    by rest true = (other, apart)
    by rest false = (apart.0, rest)

with_apart : (b : Dropped) (some ds : List Dropped) → Apart b some → Apart b ds → Apart b (drops_with some ds)
with_apart b some [] own apart = own
with_apart b some (d ∷ ds) own apart = with_apart b (insert_drop d some) ds (insert_apart b d some apart.0 own) apart.1

-- what stands behind the one before
behind_facts : (o s p q : ℕ) → (nat_lt o p || (o == p && nat_lt s q)) ≡ true → (o ≤ p) × ((not (p == o) || nat_lt s q) ≡ true)
behind_facts o s p q before = grind (arith, nat_tests)

before_facts : (o s p q : ℕ) → (nat_lt o p || (o == p && nat_lt s q)) ≡ false → (p ≡ o → q ≡ s → ⊥) → (p ≤ o) × ((not (o == p) || nat_lt q s) ≡ true)
before_facts o s p q behind other = grind (arith, nat_tests)

insert_drops : (b : Dropped) (before : Option Dropped) (es : List Dropped) → b.object < 2 ^ 64 → b.seq < 2 ^ 64 → least_object before ≤ b.object → is_behind before b.object b.seq ≡ true → Apart b es → AreDrops before es
    → AreDrops before (insert_drop b es)
insert_drops b before [] small_object small_seq least behind apart are = (least, small_object, small_seq, behind, tt)
insert_drops b before (e ∷ es) small_object small_seq least behind apart are =
    by (λ facts. insert_drops b (Some e) es small_object small_seq facts.0 facts.1 apart.1 are.4) (is_before b e) refl
  where
    by : ((e.object ≤ b.object) × (is_behind (Some e) b.object b.seq ≡ true) → AreDrops (Some e) (insert_drop b es)) → (first : Bool) → is_before b e ≡ first → AreDrops before (if first then b ∷ e ∷ es else e ∷ insert_drop b es)
    by rest true is = (let facts = behind_facts b.object b.seq e.object e.seq is in (least, small_object, small_seq, behind, (facts.0, are.1, are.2, facts.1, are.4)))
    by rest false is = (are.0, are.1, are.2, are.3, rest (before_facts b.object b.seq e.object e.seq is apart.0))

length_insert : (b : Dropped) (es : List Dropped) → length (insert_drop b es) ≡ 1 + length es
length_insert b [] = refl
length_insert b (e ∷ es) = by (length_insert b es) (is_before b e)
  where
    by : length (insert_drop b es) ≡ 1 + length es → (first : Bool) → length (if first then b ∷ e ∷ es else e ∷ insert_drop b es) ≡ 1 + length (e ∷ es)
    by rest true = omega arith
    by rest false = omega (arith, rest)

length_with : (some ds : List Dropped) → length (drops_with some ds) ≡ length some + length ds
length_with some [] = omega arith
length_with some (d ∷ ds) = (let rest = length_with (insert_drop d some) ds in let one = length_insert d some in omega (arith, rest, one))

with_more : (some ds : List Dropped) (b : Dropped) → drops_with some (ds ++ b ∷ []) ≡ insert_drop b (drops_with some ds)
with_more some [] b = refl
with_more some (d ∷ ds) b = with_more (insert_drop d some) ds b

-- those up to a group
upto_more : (group : ℕ) (ds : List DroppedIn) (d : DroppedIn) → drops_upto group (ds ++ d ∷ []) ≡ drops_upto group ds ++ (if nat_le d.group group then block_of d ∷ [] else [])
upto_more group [] d = by (nat_le d.group group)
  where
    by : (b : Bool) → map block_of (if b then d ∷ [] else []) ≡ (if b then block_of d ∷ [] else [])
    by true = refl
    by false = refl
upto_more group (e ∷ es) d = by (upto_more group es d) (nat_le e.group group)
  where
    by : drops_upto group (es ++ d ∷ []) ≡ drops_upto group es ++ (if nat_le d.group group then block_of d ∷ [] else []) → (b : Bool)
        → map block_of (if b then e ∷ filter (λ z. nat_le z.group group) (es ++ d ∷ []) else filter (λ z. nat_le z.group group) (es ++ d ∷ []))
        ≡ map block_of (if b then e ∷ filter (λ z. nat_le z.group group) es else filter (λ z. nat_le z.group group) es) ++ (if nat_le d.group group then block_of d ∷ [] else [])
    by rest true = ap (λ zs. block_of e ∷ zs) rest
    by rest false = rest

upto_few : (group : ℕ) (ds : List DroppedIn) → length (drops_upto group ds) ≤ length ds
upto_few group [] = omega arith
upto_few group (d ∷ ds) = by (upto_few group ds) (nat_le d.group group)
  where
    by : length (drops_upto group ds) ≤ length ds → (b : Bool) → length (map block_of (if b then d ∷ filter (λ z. nat_le z.group group) ds else filter (λ z. nat_le z.group group) ds)) ≤ length (d ∷ ds)
    by rest true = omega (arith, rest)
    by rest false = omega (arith, rest)

upto_apart : (group : ℕ) (b : Dropped) (ds : List DroppedIn) → ByRecursion (λ d. IsOther b.object b.seq d) ds → Apart b (drops_upto group ds)
upto_apart group b [] other = tt
upto_apart group b (d ∷ ds) other = by (upto_apart group b ds other.1) (nat_le d.group group)
  where
    by : Apart b (drops_upto group ds) → (c : Bool) → Apart b (map block_of (if c then d ∷ filter (λ z. nat_le z.group group) ds else filter (λ z. nat_le z.group group) ds))
    by rest true = (other.0, rest)
    by rest false = rest

module _ (old new : Point) (object seq group : ℕ) (d : Drops old new object seq group) (object_small : object < 2 ^ 64) (seq_small : seq < 2 ^ 64) (few : length old.drops < 524_288) (other : All (λ e. IsOther object seq e) old.drops) where
  abbrev block : Dropped
  block = record { object = object; seq = seq }

  added : (g own : ℕ) → 0 < own → IsCheck g (record { group = own; drops = drops_with [] (drops_upto g old.drops) }) → IsCheck g (record { group = own; drops = drops_with [] (drops_upto g new.drops) })
  added g own some is = subst (λ ds. IsCheck g (record { group = own; drops = drops_with [] ds })) (sym (ap (drops_upto g) d.drops ∙ upto_more g old.drops (record { object = object; seq = seq; group = group }))) (by (nat_le group g))
    where
      were : List Dropped
      were = drops_upto g old.drops

      many : length (drops_with [] were) ≤ length old.drops
      many = (let all = length_with [] were in let upto = upto_few g old.drops in omega (arith, all, upto))

      by : (b : Bool) → IsCheck g (record { group = own; drops = drops_with [] (were ++ (if b then block ∷ [] else [])) })
      by true = subst (λ ds. IsCheck g (record { group = own; drops = ds })) (sym (with_more [] were block)) (record {
        small = is.small;
        upto = is.upto;
        few = room own some;
        drops_are = insert_drops block None (drops_with [] were) object_small seq_small (omega arith) refl (with_apart block [] were tt (upto_apart g block old.drops (recursion_from_All (λ e. IsOther object seq e) old.drops other))) is.drops_are;
      })
        where
          room : (own : ℕ) → 0 < own → length (insert_drop block (drops_with [] were)) ≤ most_drops own
          room own some = (let one = length_insert block (drops_with [] were) in let low = many in grind (arith, nat_tests, one, low, few, some))
      by false = subst (λ ds. IsCheck g (record { group = own; drops = drops_with [] ds })) (sym (append-nil were)) is

  pub dropped_spelled : ((own : ℕ) → old.group ≡ Some own → 0 < own) → (g : ℕ) → IsCheck g (told_at old g) → IsCheck g (told_at new g)
  dropped_spelled positive g is = by new.group d.group_is
    where
      of : (o : Option ℕ) → ((own : ℕ) → o ≡ Some own → 0 < own) → IsCheck g (told_of g o old.drops) → IsCheck g (told_of g o new.drops)
      of None positive is = is
      of (Some own) positive is = cases (nat_le own g) is
        where
          cases : (b : Bool) → IsCheck g (if b then record { group = own; drops = drops_with [] (drops_upto g old.drops) } else no_check) → IsCheck g (if b then record { group = own; drops = drops_with [] (drops_upto g new.drops) } else no_check)
          cases true is = added g own (positive own refl) is
          cases false is = is

      by : (o : Option ℕ) → o ≡ old.group → IsCheck g (told_of g o new.drops)
      by o same = subst (λ z. IsCheck g (told_of g z new.drops)) (sym same) (of old.group positive is)

-- ---- what a check record tells is kept

mapped_upto : (group g : ℕ) → group ≤ g → (ds : List Dropped) → drops_upto g (map (dropped_in group) ds) ≡ ds
mapped_upto group g low [] = refl
mapped_upto group g low (d ∷ ds) = by (nat_le group g) (grind (arith, nat_tests, low)) (mapped_upto group g low ds)
  where
    by : (b : Bool) → b ≡ true → drops_upto g (map (dropped_in group) ds) ≡ ds
        → map block_of (if b then dropped_in group d ∷ filter (λ z. nat_le z.group g) (map (dropped_in group) ds) else filter (λ z. nat_le z.group g) (map (dropped_in group) ds)) ≡ d ∷ ds
    by true is rest = ap (λ zs. d ∷ zs) rest
    by false is rest = absurd (cc)

mapped_blocks : (group : ℕ) (ds : List Dropped) → map block_of (map (dropped_in group) ds) ≡ ds
mapped_blocks group [] = refl
mapped_blocks group (d ∷ ds) = ap (λ zs. d ∷ zs) (mapped_blocks group ds)

mapped_low : (group : ℕ) (ds : List Dropped) → All (λ (d : DroppedIn). d.group ≤ group) (map (dropped_in group) ds)
mapped_low group [] = All-nil (λ (d : DroppedIn). d.group ≤ group)
mapped_low group (d ∷ ds) = All-cons (λ (d : DroppedIn). d.group ≤ group) (dropped_in group d) (map (dropped_in group) ds) (omega arith) (mapped_low group ds)

pub check_kept : (group : ℕ) (value : CheckTold) (point : Point) → IsCheck group value → (value.group ≡ 0 → ⊥) → point.group ≡ Some value.group → point.drops ≡ map (dropped_in group) value.drops → KeepsCheck group value point
check_kept group value point range some own drops = record {
  group_is = own ∙ sym (ap (λ b. if b then None else Some value.group) not_zero);
  blocks = ap (map block_of) drops ∙ mapped_blocks group value.drops;
  upto = subst (All (λ (d : DroppedIn). d.group ≤ group)) (sym drops) (mapped_low group value.drops);
  says = says;
}
  where
    not_zero : (value.group == 0) ≡ false
    not_zero = grind (arith, nat_tests, some)

    says : (g : ℕ) → group < g → told_at point g ≡ value
    says g late =
        let upto = range.upto in
        let low : nat_le value.group g ≡ true = grind (arith, nat_tests, upto, late) in
        let list : drops_with [] (drops_upto g point.drops) ≡ value.drops = ap (λ ds. drops_with [] (drops_upto g ds)) drops ∙ (ap (drops_with []) (mapped_upto group g (omega (arith, late)) value.drops) ∙ drops_stay value.drops range.drops_are) in
        (λ i. told_of g (own i) point.drops) ∙ (ap (λ b. if b then record { group = value.group; drops = drops_with [] (drops_upto g point.drops) } else no_check) low
        ∙ (λ i. record { group = value.group; drops = list i }))

-- where it tells that there is none
pub none_kept : (group : ℕ) (value : CheckTold) (point : Point) → IsCheck group value → value.group ≡ 0 → point.group ≡ None → point.drops ≡ [] → KeepsCheck group value point
none_kept group value point range zero none drops = record {
  group_is = none ∙ sym (ap (λ n. if n == 0 then None else Some n) zero);
  blocks = ap (map block_of) drops ∙ sym empty;
  upto = subst (All (λ (d : DroppedIn). d.group ≤ group)) (sym drops) (All-nil (λ (d : DroppedIn). d.group ≤ group));
  says = λ g late. none_told point g none ∙ (λ i. record { group = sym zero i; drops = sym empty i });
}
  where
    nothing : (ds : List Dropped) → length ds ≤ 0 → ds ≡ []
    nothing [] few = refl
    nothing (d ∷ ds) few = absurd (omega (arith, few))

    empty : value.drops ≡ []
    empty = nothing value.drops (subst (λ n. length value.drops ≤ most_drops n) zero range.few)

pub kept_spelled : (group : ℕ) (value : CheckTold) (point : Point) → IsCheck group value → KeepsCheck group value point → (g : ℕ) → group < g → g < 2 ^ 64 → IsCheck g (told_at point g)
kept_spelled group value point range keeps g late small =
    let upto = range.upto in
    subst (IsCheck g) (sym (keeps.says g late)) (record { small = small; upto = omega (arith, upto, late); few = range.few; drops_are = range.drops_are })

pub kept_positive : (group : ℕ) (value : CheckTold) (point : Point) → KeepsCheck group value point → (own : ℕ) → point.group ≡ Some own → 0 < own
kept_positive group value point keeps own is = by (value.group == 0) refl (sym keeps.group_is ∙ is)
  where
    by : (b : Bool) → (value.group == 0) ≡ b → (if b then None else Some value.group) ≡ Some own → 0 < own
    by true zero same = absurd (cc)
    by false some same = (let e : value.group ≡ own = cc in grind (arith, nat_tests, some, e))
