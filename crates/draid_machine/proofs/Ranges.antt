-- Every legal event keeps that a state and its images can be written as records.
use Rattle.std.proofs.Common.{◌≡◌, ◌+◌, ◌<◌, ◌≤◌, ◌&&◌, ◌||◌, ◌==◌, not, ℕ, zero, suc, Bool, true, false, List, [], ◌∷◌, ◌++◌, Option, Some, None, filter, cond, length, length-append, refl, sym, ◌∙◌, ap, subst, inl, inr, arith, if◌then◌else◌}
use Rattle.std.proofs.lemmas.Bool.{true≢false}
use Rattle.std.proofs.lemmas.Bool.Decides.{nat_tests}
use Rattle.std.proofs.lemmas.List.Elements.{Contains-append_left, Contains-append_right}
use Rattle.draid_names.specs.declared.numbers.TheConstants.{LAST_NUMBER}
use Rattle.draid_machine.specs.declared.names.Key.{Key}
use Rattle.draid_machine.specs.declared.names.ArmName.{ArmName}
use Rattle.draid_machine.specs.declared.names.ArmName.TheVariants.{Leaf, Spare}
use Rattle.draid_machine.specs.declared.names.Stage.{Stage}
use Rattle.draid_machine.specs.declared.names.Held.{Held}
use Rattle.draid_machine.specs.Names.{name_eq, has_name, is_leaf}
use Rattle.draid_machine.specs.State.{Layout, Core}
use Rattle.draid_machine.specs.Arms.{arms_below}
use Rattle.draid_machine.specs.After.{set_held, set_order, capped}
use Rattle.draid_machine.specs.Fitting.{HeldFits, IsOnce, OrderFits}
use Rattle.draid_machine.specs.Step.{HoldsFewer}
use Rattle.draid_machine.proofs.Small.{some_injective, none_some, either_true, bool_cases, absurd_test, not_false, true_left, true_right, held_cases, has_append, has_filter, filter_has, name_true, name_refl}

-- ---- blocks and tickets
pub held_more : (few more : ℕ) (held : Key → Option Held) → few ≤ more → HeldFits few held → HeldFits more held
held_more few more held less s = record { some = s.some; keys = s.keys; all = s.all; few = (let z = s.few in omega (arith, z, less)) }

-- fewer are held, of the same runs
pub held_fewer : (limit : ℕ) (held held' : Key → Option Held) → ((k : Key) (h : Held) → held' k ≡ Some h → (i : Held) × (held k ≡ Some i) × (h.stripes ≡ i.stripes)) → HeldFits limit held → HeldFits limit held'
held_fewer limit held held' from s = record {
  some = λ k h e. let z = from k h e in subst (λ n. 0 < n) (sym z.2) (s.some k z.0 z.1);
  keys = s.keys;
  all = λ k h e. let z = from k h e in s.all k z.0 z.1;
  few = s.few;
}

pub held_staged : (limit : ℕ) (held : Key → Option Held) (k : Key) (h : Held) (st : Stage) → held k ≡ Some h → HeldFits limit held → HeldFits limit (set_held held k (Some (record h { stage = st })))
held_staged limit held k h st found s = held_fewer limit held (set_held held k (Some (record h { stage = st })))
    (λ j i e. elim (held_cases held k j (Some (record h { stage = st })) i e) [
      | inl z ↦ (h, subst (λ x. held x ≡ Some h) z.0 found, ap (λ (x : Held). x.stripes) (sym (some_injective (record h { stage = st }) i z.1)))
      | inr z ↦ (i, z.1, refl)
    ]) s

pub held_gone : (limit : ℕ) (held : Key → Option Held) (k : Key) → HeldFits limit held → HeldFits limit (set_held held k None)
held_gone limit held k s = held_fewer limit held (set_held held k None)
    (λ j i e. elim (held_cases held k j None i e) [
      | inl z ↦ absurd (none_some None i refl z.1)
      | inr z ↦ (i, z.1, refl)
    ]) s

pub held_begun : (limit : ℕ) (q : Core) (k : Key) (h : Held) → HoldsFewer q limit → 0 < h.stripes → HeldFits limit q.held → HeldFits limit (set_held q.held k (Some h))
held_begun limit q k h fewer stripes s = record {
  some = λ j i e. elim (held_cases q.held k j (Some h) i e) [
    | inl z ↦ subst (λ (x : Held). 0 < x.stripes) (some_injective h i z.1) stripes
    | inr z ↦ s.some j i z.1
  ];
  keys = k ∷ fewer.keys;
  all = λ j i e. elim (held_cases q.held k j (Some h) i e) [
    | inl z ↦ Contains-append_left (k ∷ []) fewer.keys j (0, omega arith, z.0)
    | inr z ↦ Contains-append_right (k ∷ []) fewer.keys j (fewer.all j i z.1)
  ];
  few = (let z = fewer.few in omega (arith, z));
}

-- ---- lists of arms
-- two tests that agree on a list's arms leave the same
filter_same : (p q : ArmName → Bool) (ns : List ArmName) → ((n : ArmName) → has_name ns n ≡ true → p n ≡ q n) → filter p ns ≡ filter q ns
filter_same p q [] same = refl
filter_same p q (n ∷ ns) same =
    (λ i. cond (same n (true_left (name_eq n n) (has_name ns n) (name_refl n)) i) (n ∷ filter p ns) (filter p ns))
    ∙ ap (λ rest. cond (q n) (n ∷ rest) rest) (filter_same p q ns (λ m e. same m (true_right (name_eq n m) (has_name ns m) e)))

filter_both : (p q : ArmName → Bool) (ns : List ArmName) → filter q (filter p ns) ≡ filter (λ n. p n && q n) ns
filter_both p q [] = refl
filter_both p q (n ∷ ns) = by (p n) (q n) refl (filter_both p q ns)
  where
    by : (a b : Bool) → q n ≡ b → filter q (filter p ns) ≡ filter (λ n. p n && q n) ns
        → filter q (cond a (n ∷ filter p ns) (filter p ns)) ≡ cond (a && q n) (n ∷ filter (λ n. p n && q n) ns) (filter (λ n. p n && q n) ns)
    by true b is rest = ap (λ ms. cond (q n) (n ∷ ms) ms) rest
    by false b is rest = rest

filter_append : (p : ArmName → Bool) (ns ms : List ArmName) → filter p (ns ++ ms) ≡ filter p ns ++ filter p ms
filter_append p [] ms = refl
filter_append p (n ∷ ns) ms = by (p n) (filter_append p ns ms)
  where
    by : (b : Bool) → filter p (ns ++ ms) ≡ filter p ns ++ filter p ms → cond b (n ∷ filter p (ns ++ ms)) (filter p (ns ++ ms)) ≡ cond b (n ∷ filter p ns) (filter p ns) ++ filter p ms
    by true rest = ap (λ rs. n ∷ rs) rest
    by false rest = rest

test_of : (a b : Bool) → (a ≡ true → b ≡ true) → (b ≡ true → a ≡ true) → a ≡ b
test_of true b f g = sym (f refl)
test_of false true f g = g refl
test_of false false f g = refl

-- what a test leaves is what is left in the list
pub filter_own : (p : ArmName → Bool) (ns : List ArmName) → filter p ns ≡ filter (has_name (filter p ns)) ns
filter_own p ns = filter_same p (has_name (filter p ns)) ns
    (λ n e. test_of (p n) (has_name (filter p ns) n) (λ is. filter_has p ns n e is) (λ has. (has_filter p ns n has).1))

-- fewer targets are in order too
pub fewer_targets : (q : ArmName → Bool) (ts ns : List ArmName) → ts ≡ filter (has_name ts) ns → filter q ts ≡ filter (has_name (filter q ts)) ns
fewer_targets q ts ns is =
    ap (filter q) is ∙ filter_both (has_name ts) q ns
    ∙ filter_same (λ n. has_name ts n && q n) (has_name (filter q ts)) ns
    (λ n e. test_of (has_name ts n && q n) (has_name (filter q ts) n) (λ z. two n (has_name ts n) (q n) refl refl z)
    (λ has. let z = has_filter q ts n has in rw (z.0, z.1) refl))
  where
    two : (n : ArmName) (a b : Bool) → has_name ts n ≡ a → q n ≡ b → (a && b) ≡ true → has_name (filter q ts) n ≡ true
    two n true true x y z = filter_has q ts n x y
    two n true false x y z = absurd (true≢false (sym z))
    two n false b x y z = absurd (true≢false (sym z))

-- an arm that is no target is looked over
pub joined_targets : (order : ℕ → List ArmName) (slot : ℕ) (n : ArmName) (p : ArmName → Bool) (top : ℕ) → p n ≡ false → filter p (arms_below (set_order order slot (order slot ++ n ∷ [])) top) ≡ filter p (arms_below order top)
joined_targets order slot n p zero out = refl
joined_targets order slot n p (suc top) out =
    filter_append p (arms_below (set_order order slot (order slot ++ n ∷ [])) top) (set_order order slot (order slot ++ n ∷ []) top)
    ∙ (λ i. joined_targets order slot n p top out i ++ one (slot == top) refl i)
    ∙ sym (filter_append p (arms_below order top) (order top))
  where
    none : (b : Bool) → b ≡ false → cond b (n ∷ []) [] ≡ []
    none true e = absurd (true≢false e)
    none false e = refl

    nothing_more : (ms : List ArmName) → ms ++ [] ≡ ms
    nothing_more [] = refl
    nothing_more (m ∷ ms) = ap (λ rs. m ∷ rs) (nothing_more ms)

    is_slot : (slot == top) ≡ true → slot ≡ top
    is_slot e = grind (arith, nat_tests)

    one : (b : Bool) → (slot == top) ≡ b → filter p (if b then order slot ++ n ∷ [] else order top) ≡ filter p (order top)
    one true e =
        filter_append p (order slot) (n ∷ []) ∙ ap (λ rs. filter p (order slot) ++ rs) (none (p n) out)
        ∙ nothing_more (filter p (order slot)) ∙ ap (λ c. filter p (order c)) (is_slot e)
    one false e = refl

-- ---- the orders of slots
length_filter : (p : ArmName → Bool) (ns : List ArmName) → length (filter p ns) ≤ length ns
length_filter p [] = omega arith
length_filter p (n ∷ ns) = by (p n) (length_filter p ns)
  where
    by : (b : Bool) → length (filter p ns) ≤ length ns → length (cond b (n ∷ filter p ns) (filter p ns)) ≤ length (n ∷ ns)
    by true z = omega (arith, z)
    by false z = omega (arith, z)

has_not : (ns ms : List ArmName) (n : ArmName) → (has_name ms n ≡ true → has_name ns n ≡ true) → has_name ns n ≡ false → has_name ms n ≡ false
has_not ns ms n f out = elim (bool_cases (has_name ms n)) [
  | inl has ↦ absurd_test (has_name ns n) (f has) out
  | inr is ↦ is
]

once_filter : (p : ArmName → Bool) (ns : List ArmName) → IsOnce ns → IsOnce (filter p ns)
once_filter p [] e = e
once_filter p (n ∷ ns) e = by (p n) (once_filter p ns e.1)
  where
    by : (b : Bool) → IsOnce (filter p ns) → IsOnce (cond b (n ∷ filter p ns) (filter p ns))
    by true rest = (has_not ns (filter p ns) n (λ has. (has_filter p ns n has).0) e.0, rest)
    by false rest = rest

once_append : (ns : List ArmName) (n : ArmName) → has_name ns n ≡ false → IsOnce ns → IsOnce (ns ++ n ∷ [])
once_append [] n out e = (refl, tt)
once_append (m ∷ ns) n out e = (apart, once_append ns n (rest (name_eq m n) (has_name ns n) out) e.1)
  where
    rest : (a b : Bool) → (a || b) ≡ false → b ≡ false
    rest true b e = absurd (true≢false e)
    rest false b e = e

    first : (a b : Bool) → (a || b) ≡ false → a ≡ false
    first true b e = absurd (true≢false e)
    first false b e = refl

    same : (a b : ArmName) → name_eq a b ≡ true → name_eq b a ≡ true
    same a b e = subst (λ x. name_eq x a ≡ true) (name_true a b e) (name_refl a)

    apart : has_name (ns ++ n ∷ []) m ≡ false
    apart = elim (bool_cases (has_name (ns ++ n ∷ []) m)) [
      | inl has ↦ elim (either_true (has_name ns m) (has_name (n ∷ []) m) (sym (has_append ns (n ∷ []) m) ∙ has)) [
        | inl z ↦ absurd_test (has_name ns m) z e.0
        | inr z ↦ elim (either_true (name_eq n m) false z) [
          | inl t ↦ absurd_test (name_eq m n) (same n m t) (first (name_eq m n) (has_name ns n) out)
          | inr f ↦ absurd (true≢false (sym f))
        ]
      ]
      | inr is ↦ is
    ]

module _ (l : Layout) (order : ℕ → List ArmName) (slot : ℕ) (n : ArmName) (s : OrderFits l order) where
  -- of the slot that changes, and of the others
  by_slot : (P : ℕ → List ArmName → Type 0) (v : List ArmName) (c : ℕ) → P slot v → P c (order c) → P c (set_order order slot v c)
  by_slot P v c here there = by (slot == c) refl
    where
      is_slot : (slot == c) ≡ true → slot ≡ c
      is_slot e = grind (arith, nat_tests)

      by : (b : Bool) → (slot == c) ≡ b → P c (if b then v else order c)
      by true e = subst (λ x. P x v) (is_slot e) here
      by false e = there

  pub order_joined : slot < l.slots → length (order slot) < 3 → has_name (order slot) n ≡ false → OrderFits l (set_order order slot (order slot ++ n ∷ []))
  order_joined inside room out =
      let v = order slot ++ n ∷ [] in
      record {
        leaf = λ c less. by_slot (λ c ns. (m : ℕ) × (has_name ns (Leaf m) ≡ true)) v c
            (let z = s.leaf slot inside in (z.0, has_append (order slot) (n ∷ []) (Leaf z.0) ∙ true_left (has_name (order slot) (Leaf z.0)) (has_name (n ∷ []) (Leaf z.0)) z.1)) (s.leaf c less);
        three = λ c. by_slot (λ c ns. length ns ≤ 3) v c (let z = length-append (order slot) (n ∷ []) in omega (arith, z, room)) (s.three c);
        once = λ c. by_slot (λ c ns. IsOnce ns) v c (once_append (order slot) n out (s.once slot)) (s.once c);
        slots = λ c m. by_slot (λ c ns. has_name ns m ≡ true → c < l.slots) v c (λ e. inside) (s.slots c m);
      }

  pub order_left : slot < l.slots → (is_leaf n ≡ true → (m : ℕ) × (has_name (order slot) (Leaf m) ≡ true) × (name_eq n (Leaf m) ≡ false)) → OrderFits l (set_order order slot (filter (λ m. not (name_eq n m)) (order slot)))
  order_left inside leaves =
      let v = filter (λ m. not (name_eq n m)) (order slot) in
      record {
        leaf = λ c less. by_slot (λ c ns. (m : ℕ) × (has_name ns (Leaf m) ≡ true)) v c (other n refl) (s.leaf c less);
        three = λ c. by_slot (λ c ns. length ns ≤ 3) v c (let z = length_filter (λ m. not (name_eq n m)) (order slot) in let t = s.three slot in omega (arith, z, t)) (s.three c);
        once = λ c. by_slot (λ c ns. IsOnce ns) v c (once_filter (λ m. not (name_eq n m)) (order slot) (s.once slot)) (s.once c);
        slots = λ c m. by_slot (λ c ns. has_name ns m ≡ true → c < l.slots) v c (λ e. inside) (s.slots c m);
      }
    where
      stays : (m : ℕ) → has_name (order slot) (Leaf m) ≡ true → name_eq n (Leaf m) ≡ false → has_name (filter (λ m. not (name_eq n m)) (order slot)) (Leaf m) ≡ true
      stays m has out = filter_has (λ m. not (name_eq n m)) (order slot) (Leaf m) has (not_false (name_eq n (Leaf m)) out)

      other : (k : ArmName) → n ≡ k → (m : ℕ) × (has_name (filter (λ m. not (name_eq n m)) (order slot)) (Leaf m) ≡ true)
      other (Leaf j) is = let z = leaves (ap is_leaf is) in (z.0, stays z.0 z.1 z.2)
      other (Spare t) is = let z = s.leaf slot inside in (z.0, stays z.0 z.1 (ap (λ x. name_eq x (Leaf z.0)) is))

-- ---- the pass
pub in_range : (errors more : ℕ) → capped (errors + more) ≤ LAST_NUMBER
in_range errors more = grind arith
