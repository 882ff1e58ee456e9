-- The parts of which a row landed are as many as the arms that the state machine says were rewritten.
use Rattle.std.proofs.Common.{arith, ◌≡◌, ◌==◌, ◌+◌, ◌<◌, ◌≤◌, ◌&&◌, ◌||◌, not, ◌∙◌, ℕ, zero, suc, Bool, true, false, List, [], ◌∷◌, Some, refl, sym, ap, ap₂, subst, inl, inr, length, slice_get, get_or, take, if◌then◌else◌}
use Rattle.std.specs.Prelude.{cond, count_by}
use Rattle.std.proofs.lemmas.Bool.{cases_lt}
use Rattle.std.proofs.lemmas.List.Sums.{count_by_more_no, count_by_more_yes, sum_by-append}
use Rattle.draid_machine.specs.After.{has_landed, rewritten}
use Rattle.draid_machine.specs.Fitting.{IsOnce}
use Rattle.draid_machine.specs.Names.{any_below, has_name, has_number, name_eq}
use Rattle.draid_machine.specs.State as machine
use Rattle.draid_machine.specs.declared.event.Patched.{Patched}
use Rattle.draid_machine.specs.declared.names.ArmName.{ArmName}
use Rattle.draid_machine.specs.declared.names.Held.{Held}
use Rattle.draid_machine.proofs.Small.{absurd_test, any_at, bool_cases, equal, is_equal, name_refl, name_true, true_left}
use Rattle.draid_heal.specs.Lands.{has_rows, is_rewritten}
use Rattle.draid_heal.proofs.Standing.{landed_part}

-- each part is of an arm of a column's slot, with rows of the block, and no two are of one
pub record AreParts (l : machine.Layout) (q : machine.Core) (h : Held) (count : ℕ) (parts : List Patched) : Type 0 where
  pub column : (k : ℕ) (part : Patched) → slice_get parts k ≡ Some part → part.column < count
  pub listed : (k : ℕ) (part : Patched) → slice_get parts k ≡ Some part → has_name (q.order (l.slot_of h.first part.column)) part.arm ≡ true
  pub rows : (k : ℕ) (part : Patched) (r : ℕ) → slice_get parts k ≡ Some part → has_number part.landed.items r ≡ true → r < h.stripes
  pub once : (j k : ℕ) (a b : Patched) → slice_get parts j ≡ Some a → slice_get parts k ≡ Some b → a.column ≡ b.column → a.arm ≡ b.arm → j ≡ k

abbrev pub one_if : Bool → ℕ
one_if b = cond b 1 0

count_cons : {A : Type 0} (p : A → Bool) (x : A) (xs : List A) → count_by p (x ∷ xs) ≡ one_if (p x) + count_by p xs
count_cons p x xs = sum_by-append (λ y. one_if (p y)) (x ∷ []) xs ∙ ap (λ n. n + count_by p xs) (omega arith)

-- ---- a list of arms, of which one passes a test more
other_name : (n m : ArmName) → name_eq n m ≡ false → name_eq m n ≡ false
other_name n m e = elim (bool_cases (name_eq m n)) [
  | inl is ↦ absurd_test (name_eq n m) (subst (λ x. name_eq n x ≡ true) (sym (name_true m n is)) (name_refl n)) e
  | inr out ↦ out
]

abbrev part_if : Bool → Bool → ℕ
part_if t b = if t then one_if b else 0

one_more : (p q : ArmName → Bool) (n : ArmName) (b : Bool) → ((m : ArmName) → name_eq n m ≡ false → p m ≡ q m) → p n ≡ b → q n ≡ false → (xs : List ArmName) → IsOnce xs
    → count_by p xs ≡ count_by q xs + part_if (has_name xs n) b
one_more p q n b same own none [] once = refl
one_more p q n b same own none (x ∷ xs) once =
    count_cons p x xs ∙ by (name_eq n x) refl (one_more p q n b same own none xs once.1) ∙ ap (λ k. k + part_if (has_name (x ∷ xs) n) b) (sym (count_cons q x xs))
  where
    by : (t : Bool) → name_eq n x ≡ t → count_by p xs ≡ count_by q xs + part_if (has_name xs n) b
        → one_if (p x) + count_by p xs ≡ one_if (q x) + count_by q xs + part_if (name_eq x n || has_name xs n) b
    by true e ih =
        let here : n ≡ x = name_true n x e in
        let u : one_if (p x) ≡ one_if b = ap one_if (ap p (sym here) ∙ own) in
        let v : one_if (q x) ≡ 0 = ap one_if (ap q (sym here) ∙ none) in
        let out : part_if (has_name xs n) b ≡ 0 = ap (λ t. part_if t b) (ap (has_name xs) here ∙ once.0) in
        let w : part_if (name_eq x n || has_name xs n) b ≡ one_if b = ap (λ t. part_if (t || has_name xs n) b) (ap (name_eq x) here ∙ name_refl x) in
        omega (arith, u, v, w, out, ih)
    by false e ih =
        let u : one_if (p x) ≡ one_if (q x) = ap one_if (same x e) in
        let w : part_if (name_eq x n || has_name xs n) b ≡ part_if (has_name xs n) b = ap (λ t. part_if (t || has_name xs n) b) (other_name n x e) in
        omega (arith, u, w, ih)

differs : (a b : ℕ) → (a ≡ b → ⊥) → (a == b) ≡ false
differs a b out = elim (bool_cases (a == b)) [
  | inl is ↦ absurd (out (is_equal a b is))
  | inr e ↦ e
]

pub has_rows_is : (rows : List ℕ) → not (length rows == 0) ≡ has_rows rows
has_rows_is [] = refl
has_rows_is (r ∷ rows) = ap not (differs (length (r ∷ rows)) 0 (λ e. omega (arith, e)))

-- ---- rows below a bound
any_none : (n : ℕ) (f : ℕ → Bool) → ((r : ℕ) → f r ≡ false) → any_below n f ≡ false
any_none zero f none = refl
any_none (suc n) f none = ap₂ (λ a b. a || b) (any_none n f none) (none n)

any_rows : (rows : List ℕ) (n : ℕ) → ((r : ℕ) → has_number rows r ≡ true → r < n) → any_below n (has_number rows) ≡ has_rows rows
any_rows [] n low = any_none n (has_number []) (λ r. refl)
any_rows (y ∷ rows) n low =
    let here : has_number (y ∷ rows) y ≡ true = true_left (y == y) (has_number rows y) (equal y y refl) in
    any_at n (has_number (y ∷ rows)) y (low y here) here

and_false : (a : Bool) → (a && false) ≡ false
and_false true = refl
and_false false = refl

or_false : (a : Bool) → (a || false) ≡ a
or_false true = refl
or_false false = refl

module _ (l : machine.Layout) (q : machine.Core) (h : Held) (once : (slot : ℕ) → IsOnce (q.order slot)) where
  abbrev order : ℕ → List ArmName
  order c = q.order (l.slot_of h.first c)

  abbrev counted : List Patched → ℕ → ℕ
  counted parts c = count_by (λ n. any_below h.stripes (has_landed parts c n)) (order c)

  pub none_rewritten : (n : ℕ) → rewritten l q h [] n ≡ 0
  none_rewritten zero = refl
  none_rewritten (suc c) = ap₂ (λ a b. a + b) (none_rewritten c) (by (order c))
    where
      by : (xs : List ArmName) → count_by (λ n. any_below h.stripes (has_landed [] c n)) xs ≡ 0
      by [] = refl
      by (x ∷ xs) = count_cons (λ n. any_below h.stripes (has_landed [] c n)) x xs ∙ ap₂ (λ a b. one_if a + b) (any_none h.stripes (has_landed [] c x) (λ r. refl)) (by xs)

  module _ (d : Patched) (ds : List Patched) (count : ℕ) (are : AreParts l q h count (d ∷ ds)) where
    tail : AreParts l q h count ds
    tail = record {
      column = λ k part at. are.column (suc k) part at;
      listed = λ k part at. are.listed (suc k) part at;
      rows = λ k part r at has. are.rows (suc k) part r at has;
      once = λ j k a b at there column arm. (let e = are.once (suc j) (suc k) a b at there column arm in omega (arith, e));
    }

    apart : (r : ℕ) → has_landed ds d.column d.arm r ≡ false
    apart r = elim (bool_cases (has_landed ds d.column d.arm r)) [
      | inl has ↦ (let p = landed_part ds d.column d.arm r has in
          let e = are.once 0 (suc p.k) d p.part refl p.noted (sym p.column_is) (sym p.arm_is) in absurd (omega (arith, e)))
      | inr out ↦ out
    ]

    other_arm : (c : ℕ) (m : ArmName) → name_eq d.arm m ≡ false → any_below h.stripes (has_landed (d ∷ ds) c m) ≡ any_below h.stripes (has_landed ds c m)
    other_arm c m e = ap (any_below h.stripes) (λ i r. same r i)
      where
        same : (r : ℕ) → has_landed (d ∷ ds) c m r ≡ has_landed ds c m r
        same r = ap (λ b. (((d.column == c) && b) && has_number d.landed.items r) || has_landed ds c m r) e
            ∙ ap (λ b. (b && has_number d.landed.items r) || has_landed ds c m r) (and_false (d.column == c))

    other_column : (c : ℕ) → (d.column == c) ≡ false → counted (d ∷ ds) c ≡ counted ds c
    other_column c e = ap (λ (f : ArmName → ℕ → Bool). count_by (λ n. any_below h.stripes (f n)) (order c)) (λ i n r. ((e i && name_eq d.arm n) && has_number d.landed.items r) || has_landed ds c n r)

    own_column : counted (d ∷ ds) d.column ≡ counted ds d.column + one_if (is_rewritten d)
    own_column =
        one_more (λ n. any_below h.stripes (has_landed (d ∷ ds) d.column n)) (λ n. any_below h.stripes (has_landed ds d.column n)) d.arm (is_rewritten d) (other_arm d.column) own
        (any_none h.stripes (has_landed ds d.column d.arm) apart) (order d.column) (once (l.slot_of h.first d.column))
        ∙ ap (λ t. counted ds d.column + part_if t (is_rewritten d)) (are.listed 0 d refl)
      where
        same : (r : ℕ) → has_landed (d ∷ ds) d.column d.arm r ≡ has_number d.landed.items r
        same r = ap₂ (λ a b. ((a && b) && has_number d.landed.items r) || has_landed ds d.column d.arm r) (equal d.column d.column refl) (name_refl d.arm)
            ∙ ap (λ x. has_number d.landed.items r || x) (apart r) ∙ or_false (has_number d.landed.items r)

        own : any_below h.stripes (has_landed (d ∷ ds) d.column d.arm) ≡ is_rewritten d
        own = ap (any_below h.stripes) (λ i r. same r i) ∙ any_rows d.landed.items h.stripes (λ r has. are.rows 0 d r refl has)

    before : (n : ℕ) → n ≤ d.column → rewritten l q h (d ∷ ds) n ≡ rewritten l q h ds n
    before zero low = refl
    before (suc c) low = ap₂ (λ a b. a + b) (before c (omega (arith, low))) (other_column c (differs d.column c (λ e. omega (arith, e, low))))

    behind : (n : ℕ) → d.column < n → rewritten l q h (d ∷ ds) n ≡ rewritten l q h ds n + one_if (is_rewritten d)
    behind zero low = absurd (omega (arith, low))
    behind (suc c) low = elim (cases_lt d.column c) [
      | inl less ↦ (let a = behind c less in let b = other_column c (differs d.column c (λ e. omega (arith, e, less))) in omega (arith, a, b))
      | inr high ↦ (let here : d.column ≡ c = omega (arith, low, high) in
          let a = before c high in let b = subst (λ c. counted (d ∷ ds) c ≡ counted ds c + one_if (is_rewritten d)) here own_column in omega (arith, a, b))
    ]

  pub rewritten_is : (count : ℕ) (parts : List Patched) → AreParts l q h count parts → count_by is_rewritten parts ≡ rewritten l q h parts count
  rewritten_is count [] are = sym (none_rewritten count)
  rewritten_is count (d ∷ ds) are =
      let rest = rewritten_is count ds (tail d ds count are) in
      let all = behind d ds count are count (are.column 0 d refl) in
      let here = count_cons is_rewritten d ds in
      omega (arith, rest, all, here)

  -- what is told of the same rows is the same
  pub rewritten_same : (a b : List Patched) → ((c : ℕ) (n : ArmName) (r : ℕ) → has_landed a c n r ≡ has_landed b c n r) → (count : ℕ) → rewritten l q h a count ≡ rewritten l q h b count
  rewritten_same a b same zero = refl
  rewritten_same a b same (suc c) =
      ap₂ (λ x y. x + y) (rewritten_same a b same c) (λ i. count_by (λ n. any_below h.stripes (λ r. same c n r i)) (order c))

-- ---- they are counted
pub one_counted : (parts : List Patched) (i : ℕ) (part : Patched) → i < length parts → part ≡ get_or parts i part → is_rewritten part ≡ true
    → count_by is_rewritten (take (i + 1) parts) ≡ count_by is_rewritten (take i parts) + 1
one_counted parts i part less is e = count_by_more_yes is_rewritten parts i part less (ap is_rewritten (sym is) ∙ e)

pub none_counted : (parts : List Patched) (i : ℕ) (part : Patched) → i < length parts → part ≡ get_or parts i part → is_rewritten part ≡ false
    → count_by is_rewritten (take (i + 1) parts) ≡ count_by is_rewritten (take i parts)
none_counted parts i part less is e = count_by_more_no is_rewritten parts i part less (ap is_rewritten (sym is) ∙ e)
