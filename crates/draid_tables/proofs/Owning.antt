-- What lanes have of their own is dealt out list by list, and put back so.
use Rattle.std.proofs.Common.{◌≡◌, ◌∙◌, ◌++◌, ◌∷◌, ◌<◌, ◌≤◌, ◌+◌, ◌⊎◌, arith, inl, inr, ℕ, zero, suc, Bool, true, false, List, [], Option, Some, if◌then◌else◌, length, max, nat_eq, sym, ap, subst, refl, take, ⊎_elim}
use mathlib.Core.Logic.{dite}
use native.Mathlib.Decide.{ℕ_discrete}
use Rattle.std.specs.Prelude.{slice_get}
use Rattle.std.specs.HashMap.{IsUnique, get, hash_map_len, spare}
use Rattle.std.specs.declared.vec.Vec.{Vec}
use Rattle.std.specs.declared.alloc.Global.{Global}
use Rattle.std.proofs.lemmas.List.{length_push, take_all}
use Rattle.std.proofs.lemmas.List.Elements.{All-nil, All-push}
use Rattle.std.proofs.lemmas.List.Sums.{sum_by-cons, sum_by-take-le, sum_by_push}
use Rattle.std.proofs.lemmas.Option.{slice_get_within}
use Rattle.draid_turn.specs.Lists.{one_if}
use Rattle.draid_turn.specs.Numbers.{holds}
use Rattle.draid_turn.specs.declared.span.Span.{Span}
use Rattle.draid_holds.specs.Passes.{shares}
use Rattle.draid_pool.specs.declared.own.Own.{Own}
use Rattle.draid_tables.specs.Owns.{AreDealtOut, AreUnique, HaveTableRoom, IsDealtOut, TakesAll, TakesOwn, greatest, objects_of}

pub take_next : {X : Type 0} (xs : List X) (i : ℕ) (x : X) → slice_get xs i ≡ Some x → take (suc i) xs ≡ take i xs ++ x ∷ []
take_next [] i x is = absurd (cc)
take_next (y ∷ ys) zero x is = (let same : y ≡ x = cc in ap (λ z. z ∷ []) same)
take_next (y ∷ ys) (suc i) x is = ap (λ zs. y ∷ zs) (take_next ys i x is)

pub push_cases : {X : Type 0} (xs : List X) (x y : X) (i : ℕ) → slice_get (xs ++ x ∷ []) i ≡ Some y → (slice_get xs i ≡ Some y) ⊎ ((i ≡ length xs) × (x ≡ y))
push_cases [] x y zero is = inr (refl, cc)
push_cases [] x y (suc i) is = absurd (cc)
push_cases (z ∷ xs) x y zero is = inl is
push_cases (z ∷ xs) x y (suc i) is = ⊎_elim (λ (t : slice_get xs i ≡ Some y). inl t) (λ (t : (i ≡ length xs) × (x ≡ y)). inr (ap suc t.0, t.1)) (push_cases xs x y i is)

pub some_is : {A : Type 0} (o : Option A) (x y : A) → o ≡ Some x → o ≡ Some y → x ≡ y
some_is o x y a b = (let h = sym a ∙ b in cc)

-- ---- dealt out

module _ (own : Own) (numbers : List (Vec Span Global)) where
  -- the first lanes have what they are dealt
  pub record DealsFirst (at : ℕ) (owns : List Own) : Type 0 where
    pub many : length owns ≡ at
    pub each : (i : ℕ) (list : Vec Span Global) (dealt : Own) → slice_get numbers i ≡ Some list → slice_get owns i ≡ Some dealt → IsDealtOut own list.items dealt

  pub deals_start : (owns : List Own) → owns ≡ [] → DealsFirst 0 owns
  deals_start owns none = subst (DealsFirst 0) (sym none) (record { many = refl; each = λ i list dealt l o. absurd (cc) })

  pub deals_next : (at : ℕ) (owns : List Own) (list : Vec Span Global) (dealt : Own) → DealsFirst at owns → slice_get numbers at ≡ Some list → IsDealtOut own list.items dealt → (next : List Own) → next ≡ owns ++ dealt ∷ [] → DealsFirst (at + 1) next
  deals_next at owns list dealt r there is next next_is = subst (DealsFirst (at + 1)) (sym next_is) (record {
    many = length_push owns dealt ∙ (let many = r.many in omega (arith, many));
    each = λ i l d l_is d_is. ⊎_elim
        (λ (t : slice_get owns i ≡ Some d). r.each i l d l_is t)
        (λ (t : (i ≡ length owns) × (dealt ≡ d)).
        let same : list ≡ l = some_is (slice_get numbers i) list l (ap (slice_get numbers) (t.0 ∙ r.many) ∙ there) l_is in
        subst (λ (m : Vec Span Global). IsDealtOut own m.items d) same (subst (λ e. IsDealtOut own list.items e) t.1 is))
        (push_cases owns dealt d i d_is);
  })

  pub deals_end : (at : ℕ) (owns : List Own) → DealsFirst at owns → at ≡ length numbers → AreDealtOut own numbers owns
  deals_end at owns r all = record { many = r.many ∙ all; each = r.each }

-- ---- put back

abbrev held_in : ℕ → Vec Span Global → ℕ
held_in n list = one_if (holds n list.items)

share_at : (n : ℕ) (lists : List (Vec Span Global)) (i : ℕ) (list : Vec Span Global) → slice_get lists i ≡ Some list → holds n list.items ≡ true → 1 ≤ shares n lists
share_at n [] i list is held = absurd (cc)
share_at n (l ∷ lists) zero list is held =
    let same : l ≡ list = cc in
    let one : held_in n l ≡ 1 = ap (held_in n) same ∙ ap one_if held in
    let sum = sum_by-cons (held_in n) l lists in omega (arith, one, sum)
share_at n (l ∷ lists) (suc i) list is held = (let r = share_at n lists i list is held in let sum = sum_by-cons (held_in n) l lists in omega (arith, r, sum))

pub share_next : (n : ℕ) (lists : List (Vec Span Global)) (i : ℕ) (list : Vec Span Global) → slice_get lists i ≡ Some list → shares n (take (suc i) lists) ≡ shares n (take i lists) + held_in n list
share_next n lists i list is = ap (shares n) (take_next lists i list is) ∙ sum_by_push (held_in n) (take i lists) list

take_get : {X : Type 0} (xs : List X) (at i : ℕ) (x : X) → i < at → slice_get xs i ≡ Some x → slice_get (take at xs) i ≡ Some x
take_get [] at i x below is = absurd (cc)
take_get (y ∷ ys) zero i x below is = absurd (omega (arith, below))
take_get (y ∷ ys) (suc at) zero x below is = is
take_get (y ∷ ys) (suc at) (suc i) x below is = take_get ys at i x (omega (arith, below)) is

-- a number that a list has is in none of those before it
pub not_before : (n : ℕ) (lists : List (Vec Span Global)) (at i : ℕ) (list other : Vec Span Global) → shares n lists ≤ 1 → i < at → slice_get lists at ≡ Some list → slice_get lists i ≡ Some other → holds n other.items ≡ true → holds n list.items ≡ false
not_before n lists at i list other apart below is other_is held = go (holds n list.items) refl
  where
    go : (b : Bool) → holds n list.items ≡ b → b ≡ false
    go false not = refl
    go true too =
        let first = share_at n (take at lists) i other (take_get lists at i other below other_is) held in
        let next = share_next n lists at list is in
        let one : held_in n list ≡ 1 = ap one_if too in
        let less = sum_by-take-le (held_in n) lists (suc at) in
        absurd (omega (arith, first, next, one, less, apart))

pub greatest_next : (f : Own → ℕ) (first : Own) (owns : List Own) (own : Own) → greatest f first (owns ++ own ∷ []) ≡ max (greatest f first owns) (f own)
greatest_next f first [] own = omega arith
greatest_next f first (o ∷ owns) own = (let r = greatest_next f first owns own in omega (arith, r))

abbrev pub seq_of : Own → ℕ
seq_of own = own.seq

abbrev pub floor_of : Own → ℕ
floor_of own = own.floor

module _ (numbers : List (Vec Span Global)) (owns : List Own) (old : Own) where
  -- what the first lanes have has come back
  pub record TakesFirst (at : ℕ) (now : Own) : Type 0 where
    pub taken : (i : ℕ) (list : Vec Span Global) (own : Own) → i < at → slice_get numbers i ≡ Some list → slice_get owns i ≡ Some own
        → (object : ℕ) → holds object list.items ≡ true → get nat_eq now.objects object ≡ get nat_eq own.objects object
    pub others : (object : ℕ) → shares object (take at numbers) ≡ 0 → get nat_eq now.objects object ≡ get nat_eq old.objects object
    pub seq : now.seq ≡ greatest seq_of old (take at owns)
    pub floor : now.floor ≡ greatest floor_of old (take at owns)
    pub unique : AreUnique (take at owns)
    pub room : spare old.objects ≤ spare now.objects + objects_of (take at owns)

  pub takes_start : TakesFirst 0 old
  takes_start = record {
    taken = λ i list own below. absurd (omega (arith, below));
    others = λ object none. refl;
    seq = refl;
    floor = refl;
    unique = All-nil (λ (own : Own). IsUnique nat_eq own.objects);
    room = omega arith;
  }

  module _ (at : ℕ) (now : Own) (r : TakesFirst at now) (list : Vec Span Global) (own : Own) (list_is : slice_get numbers at ≡ Some list) (own_is : slice_get owns at ≡ Some own) where
    all_unique : IsUnique nat_eq own.objects → AreUnique (take (suc at) owns)
    all_unique unique = subst AreUnique (sym (take_next owns at own own_is)) (All-push (λ (o : Own). IsUnique nat_eq o.objects) (take at owns) own r.unique unique)

    next_objects : objects_of (take (suc at) owns) ≡ objects_of (take at owns) + hash_map_len own.objects
    next_objects = ap objects_of (take_next owns at own own_is) ∙ sum_by_push (λ (o : Own). hash_map_len o.objects) (take at owns) own

    -- the next table has room
    pub takes_room : HaveTableRoom (spare old.objects) owns → IsUnique nat_eq own.objects → hash_map_len own.objects ≤ spare now.objects
    takes_room room unique =
        let all = room (suc at) (all_unique unique) in
        let next = next_objects in
        let left = r.room in omega (arith, all, next, left)

    takes_suc : ((n : ℕ) → shares n numbers ≤ 1) → (next : Own) → TakesOwn list.items own now next → spare now.objects ≤ spare next.objects + hash_map_len own.objects → IsUnique nat_eq own.objects → TakesFirst (suc at) next
    takes_suc apart next takes room unique = record {
      taken = λ i l o below l_is o_is object held. dite (ℕ_discrete i at)
          (λ same.
          let l_same : l ≡ list = some_is (slice_get numbers at) l list (ap (slice_get numbers) (sym same) ∙ l_is) list_is in
          let o_same : own ≡ o = some_is (slice_get owns at) own o own_is (ap (slice_get owns) (sym same) ∙ o_is) in
          takes.objects object ∙ ap (λ b. if b then get nat_eq own.objects object else get nat_eq now.objects object) (ap (λ (m : Vec Span Global). holds object m.items) (sym l_same) ∙ held) ∙ ap (λ (x : Own). get nat_eq x.objects object) o_same)
          (λ other.
          let before : i < at = omega (arith, below, other) in
          takes.objects object ∙ ap (λ b. if b then get nat_eq own.objects object else get nat_eq now.objects object) (not_before object numbers at i list l (apart object) before list_is l_is held) ∙ r.taken i l o before l_is o_is object held);
      others = λ object none.
          let sum = share_next object numbers at list list_is in
          takes.objects object ∙ ap (λ b. if b then get nat_eq own.objects object else get nat_eq now.objects object) (not_held (holds object list.items) (omega (arith, none, sum))) ∙ r.others object (omega (arith, none, sum));
      seq = takes.seq ∙ (ap (λ n. max n own.seq) r.seq ∙ (sym (greatest_next seq_of old (take at owns) own) ∙ ap (greatest seq_of old) (sym (take_next owns at own own_is))));
      floor = takes.floor ∙ (ap (λ n. max n own.floor) r.floor ∙ (sym (greatest_next floor_of old (take at owns) own) ∙ ap (greatest floor_of old) (sym (take_next owns at own own_is))));
      unique = all_unique unique;
      room = (let left = r.room in let more = next_objects in omega (arith, room, left, more));
    }
      where
        not_held : (b : Bool) → one_if b ≡ 0 → b ≡ false
        not_held true none = absurd (omega (arith, none))
        not_held false none = refl

    pub takes_next : ((n : ℕ) → shares n numbers ≤ 1) → (next : Own) → TakesOwn list.items own now next → spare now.objects ≤ spare next.objects + hash_map_len own.objects → IsUnique nat_eq own.objects → TakesFirst (at + 1) next
    takes_next apart next takes room unique = (let same : suc at ≡ at + 1 = omega arith in subst (λ n. TakesFirst n next) same (takes_suc apart next takes room unique))

  pub takes_end : (at : ℕ) (now : Own) → TakesFirst at now → length owns ≡ length numbers → length numbers ≤ at → TakesAll numbers owns old now
  takes_end at now r many all = record {
    taken = λ i list own list_is own_is. r.taken i list own (let within = slice_get_within numbers i list list_is in omega (arith, within, all)) list_is own_is;
    others = λ object none. r.others object (ap (shares object) (take_all at numbers all) ∙ none);
    seq = r.seq ∙ ap (greatest seq_of old) (take_all at owns (omega (arith, many, all)));
    floor = r.floor ∙ ap (greatest floor_of old) (take_all at owns (omega (arith, many, all)));
  }
