-- What a pass has left to lend.
use Rattle.std.proofs.Common.{◌≡◌, ◌+◌, ◌<◌, ◌≤◌, ◌⊎◌, ◌&&◌, ℕ, Bool, true, false, nat_lt, min, max, List, [], Option, Some, None, IfSome, IfNone, if◌then◌else◌, refl, sym, ◌∙◌, ap, inl, inr, arith}
use Rattle.std.proofs.lemmas.Bool.{cases_lt}
use Rattle.draid_machine.specs.declared.names.Key.{Key}
use Rattle.draid_machine.specs.declared.names.Held.{Held}
use Rattle.draid_machine.specs.Names.{takes}
use Rattle.draid_machine.specs.State.{Pass}
use Rattle.draid_machine.specs.Step.{is_lent}
use Rattle.draid_machine.proofs.Small.{some_injective, none_some, both_true, below, is_below, is_low, low, true_both}
use Rattle.draid_passes.specs.Left.{IsFirstLeft, NothingLeft, left_of, lower_of}
use Rattle.draid_passes.proofs.Walks.{Walked, walked_all}
use Rattle.draid_world.specs.World.{held_in}

-- each stripe that is left of a block is at or behind the first so far
abbrev pub Covers : Pass → Option ℕ → Held → Type 0
Covers p first h = (x : ℕ) → is_lent p h ≡ true → takes h x ≡ true → p.next ≤ x → (b : ℕ) × (first ≡ Some b) × (b ≤ x)

-- a block has a stripe that is left
pub record Attains (held : Key → Option Held) (p : Pass) (stripe : ℕ) : Type 0 where
  pub key : Key
  pub h : Held
  pub found : held key ≡ Some h
  pub lent : is_lent p h ≡ true
  pub taken : takes h stripe ≡ true
  pub from : p.next ≤ stripe

-- the first so far, of the blocks that were seen
pub record IsLeast (held : Key → Option Held) (p : Pass) (first : Option ℕ) : Type 0 where
  pub attains : (b : ℕ) → first ≡ Some b → Attains held p b

pub least_none : (held : Key → Option Held) (p : Pass) → IsLeast held p None
least_none held p = record { attains = λ b e. absurd (none_some None b refl e) }

taken_in : (h : Held) (x : ℕ) → takes h x ≡ true → (h.first ≤ x) × (x < h.first + h.stripes)
taken_in h x e = let z = both_true _ _ e in (is_low h.first x z.0, is_below x (h.first + h.stripes) z.1)

in_taken : (h : Held) (x : ℕ) → h.first ≤ x → x < h.first + h.stripes → takes h x ≡ true
in_taken h x from to = true_both _ _ (low h.first x from) (below x (h.first + h.stripes) to)

lower_left : (o n : Option ℕ) (b : ℕ) → o ≡ Some b → (c : ℕ) × (lower_of o n ≡ Some c) × (c ≤ b)
lower_left None n b e = absurd (none_some None b refl e)
lower_left (Some a) None b e = (a, refl, (let s = some_injective a b e in omega (arith, s)))
lower_left (Some a) (Some c) b e = (min a c, refl, (let s = some_injective a b e in omega (arith, s)))

lower_right : (o n : Option ℕ) (b : ℕ) → n ≡ Some b → (c : ℕ) × (lower_of o n ≡ Some c) × (c ≤ b)
lower_right None n b e = (b, e, omega arith)
lower_right (Some a) None b e = absurd (none_some None b refl e)
lower_right (Some a) (Some c) b e = (min a c, refl, (let s = some_injective c b e in omega (arith, s)))

lower_one : (o n : Option ℕ) (b : ℕ) → lower_of o n ≡ Some b → (o ≡ Some b) ⊎ (n ≡ Some b)
lower_one None n b e = inr e
lower_one (Some a) None b e = inl e
lower_one (Some a) (Some c) b e = elim (cases_lt a c) [
  | inl less ↦ inl (ap Some (let s = some_injective (min a c) b e in omega (arith, s, less)))
  | inr more ↦ inr (ap Some (let s = some_injective (min a c) b e in omega (arith, s, more)))
]

pub covers_lower : (p : Pass) (first n : Option ℕ) (h : Held) → Covers p first h → Covers p (lower_of first n) h
covers_lower p first n h covers = λ x lent taken from.
    let z = covers x lent taken from in
    let y = lower_left first n z.0 z.1 in
    (y.0, y.1, (let a = z.2 in let b = y.2 in omega (arith, a, b)))

pub covers_new : (p : Pass) (first : Option ℕ) (h : Held) → Covers p (lower_of first (left_of p h)) h
covers_new p first h = λ x lent taken from.
    let inside = taken_in h x taken in
    let start : max h.first p.next ≤ x = (let a = inside.0 in omega (arith, a, from)) in
    let less : max h.first p.next < h.first + h.stripes = (let a = inside.1 in omega (arith, a, start)) in
    let is : left_of p h ≡ Some (max h.first p.next) = ap (λ b. if b then Some (max h.first p.next) else None) (true_both _ _ lent (below (max h.first p.next) (h.first + h.stripes) less)) in
    let y = lower_right first (left_of p h) (max h.first p.next) is in
    (y.0, y.1, (let a = y.2 in omega (arith, a, start)))

left_is : (p : Pass) (h : Held) (b : ℕ) → left_of p h ≡ Some b → (is_lent p h ≡ true) × (b ≡ max h.first p.next) × (b < h.first + h.stripes)
left_is p h b e = by (is_lent p h && nat_lt (max h.first p.next) (h.first + h.stripes)) refl e
  where
    by : (t : Bool) → (is_lent p h && nat_lt (max h.first p.next) (h.first + h.stripes)) ≡ t → (if t then Some (max h.first p.next) else None) ≡ Some b
        → (is_lent p h ≡ true) × (b ≡ max h.first p.next) × (b < h.first + h.stripes)
    by true is some =
        let z = both_true _ _ is in
        let s = some_injective (max h.first p.next) b some in
        let less = is_below (max h.first p.next) (h.first + h.stripes) z.1 in
        (z.0, sym s, omega (arith, s, less))
    by false is some = absurd (none_some None b refl some)

pub least_lower : (held : Key → Option Held) (p : Pass) (first : Option ℕ) (k : Key) (h : Held) → held k ≡ Some h → IsLeast held p first → IsLeast held p (lower_of first (left_of p h))
least_lower held p first k h found least = record {
  attains = λ b e. elim (lower_one first (left_of p h) b e) [
    | inl old ↦ least.attains b old
    | inr new ↦ (let z = left_is p h b new in
        let at = z.1 in
        let to = z.2 in
        record { key = k; h = h; found = found; lent = z.0; taken = in_taken h b (omega (arith, at)) to; from = omega (arith, at) })
  ];
}

pub if_some : {A : Type 0} (o : Option A) (P : A → Type 0) → ((a : A) → o ≡ Some a → P a) → IfSome o P
if_some None P f = tt
if_some (Some a) P f = f a refl

pub if_none : {A : Type 0} (o : Option A) (P : Type 0) → (o ≡ None → P) → IfNone o P
if_none None P f = f refl
if_none (Some a) P f = tt

-- after the walk
pub first_after : (es left : List (Key × Held)) (p : Pass) (first : Option ℕ) (x : ℕ) → Walked (Covers p first) es left → left ≡ [] → IsLeast (held_in es) p first → first ≡ Some x
    → IsFirstLeft (held_in es) p x
first_after es left p first x walked done least is =
    let z = least.attains x is in
    record {
      key = z.key;
      h = z.h;
      found = z.found;
      lent = z.lent;
      taken = z.taken;
      from = z.from;
      first = λ k h y found lent taken from less.
          let c = walked_all (Covers p first) es left k h walked done found y lent taken from in
          let same = some_injective c.0 x (sym c.1 ∙ is) in
          let low = c.2 in
          absurd (omega (arith, same, low, less));
    }

pub nothing_after : (es left : List (Key × Held)) (p : Pass) (first : Option ℕ) → Walked (Covers p first) es left → left ≡ [] → first ≡ None → NothingLeft (held_in es) p
nothing_after es left p first walked done is = λ k h x found lent taken. elim (cases_lt x p.next) [
  | inl less ↦ less
  | inr from ↦ (let c = walked_all (Covers p first) es left k h walked done found x lent taken from in absurd (none_some first c.0 is c.1))
]
