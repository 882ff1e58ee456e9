-- Two lanes have a rebuild or a scrub.
use Rattle.std.proofs.Common.{arith, refl, sym, subst, ap, ◌≡◌, ◌∙◌, ◌+◌, ◌<◌, ◌≤◌, ◌&&◌, ◌||◌, inl, inr, ℕ, zero, suc, Bool, true, false, List, [], ◌∷◌, Some, length}
use Rattle.std.specs.Prelude.{slice_get}
use Rattle.std.specs.declared.vec.Vec.{Vec}
use Rattle.std.specs.declared.alloc.Global.{Global}
use Rattle.std.proofs.lemmas.Bool.{cases_lt}
use Rattle.std.proofs.lemmas.Option.{slice_get_within}
use Rattle.draid_script.specs.Line.{Command, RebuildPool, ScrubPool, command_in}
use Rattle.draid_script.specs.declared.line.Line.{Line}
use Rattle.draid_session.specs.Sections.{ClashesMend, LaneMends, Mends}
use Rattle.draid_clashes.specs.Lanes.{commands_in, lanes_in}
use Rattle.draid_clashes.specs.Mending.{is_mending, mends_one}

mends_is : (command : Command) → Mends command → is_mending command ≡ true
mends_is (RebuildPool limit) m = refl
mends_is (ScrubPool limit) m = refl
mends_is command m = absurd m

is_mends : (command : Command) → is_mending command ≡ true → Mends command
is_mends (RebuildPool limit) is = tt
is_mends (ScrubPool limit) is = tt
is_mends command is = cc is

-- ---- a lane

record HasMend (lane : List Command) : Type 0 where
  pub k : ℕ
  pub command : Command
  pub in_it : slice_get lane k ≡ Some command
  pub mends : Mends command

one_has : (lane : List Line) → mends_one lane ≡ true → HasMend (commands_in lane)
one_has [] is = absurd (cc is)
one_has (line ∷ lane) is = by (is_mending (command_in line)) refl is (λ rest. one_has lane rest)
  where
    by : (b : Bool) → is_mending (command_in line) ≡ b → mends_one (line ∷ lane) ≡ true → (mends_one lane ≡ true → HasMend (commands_in lane)) → HasMend (commands_in (line ∷ lane))
    by true mends is others = record { k = 0; command = command_in line; in_it = refl; mends = is_mends (command_in line) mends }
    by false mends is others = (let m = others (cc (mends, is)) in record { k = suc m.k; command = m.command; in_it = m.in_it; mends = m.mends })

one_is : (lane : List Line) (k : ℕ) (command : Command) → slice_get (commands_in lane) k ≡ Some command → Mends command → mends_one lane ≡ true
one_is [] k command at mends = absurd (cc at)
one_is (line ∷ lane) zero command at mends =
    let same : Some (command_in line) ≡ Some command = at in
    let is = mends_is command mends in
    let here : is_mending (command_in line) ≡ true = cc (same, is) in
    cc here
one_is (line ∷ lane) (suc k) command at mends = (let rest = one_is lane k command at mends in by (is_mending (command_in line)) refl rest)
  where
    by : (b : Bool) → is_mending (command_in line) ≡ b → mends_one lane ≡ true → mends_one (line ∷ lane) ≡ true
    by true is rest = cc is
    by false is rest = cc (is, rest)

-- ---- the lanes

abbrev pub HasOne : List (Vec Line Global) → ℕ → Type 0
HasOne lanes i = (lane : Vec Line Global) × (slice_get lanes i ≡ Some lane) × (mends_one lane.items ≡ true)

lane_mends : (lanes : List (Vec Line Global)) (i : ℕ) → HasOne lanes i → LaneMends (lanes_in lanes) i
lane_mends lanes i (lane, there, is) =
    let m = one_has lane.items is in
    record { lane = commands_in lane.items; there = at lanes i there; k = m.k; command = m.command; in_it = m.in_it; mends = m.mends }
  where
    at : (lanes : List (Vec Line Global)) (i : ℕ) → slice_get lanes i ≡ Some lane → slice_get (lanes_in lanes) i ≡ Some (commands_in lane.items)
    at [] i there = absurd (cc there)
    at (l ∷ lanes) zero there = (let same : Some l ≡ Some lane = there in cc same)
    at (l ∷ lanes) (suc i) there = at lanes i there

mends_lane : (lanes : List (Vec Line Global)) (i : ℕ) → LaneMends (lanes_in lanes) i → HasOne lanes i
mends_lane [] i m = (let there = m.there in absurd (cc there))
mends_lane (l ∷ lanes) zero m =
    let same : Some (commands_in l.items) ≡ Some m.lane = m.there in
    let here : commands_in l.items ≡ m.lane = cc same in
    (l, refl, one_is l.items m.k m.command (ap (λ cs. slice_get cs m.k) here ∙ m.in_it) m.mends)
mends_lane (l ∷ lanes) (suc i) m = mends_lane lanes i (record { lane = m.lane; there = m.there; k = m.k; command = m.command; in_it = m.in_it; mends = m.mends })

-- Of the lanes before a place one has one, or none has.
pub record Seen (lanes : List (Vec Line Global)) (n : ℕ) (before : Bool) : Type 0 where
  pub one : before ≡ true → (i : ℕ) × (i < n) × HasOne lanes i
  pub none : before ≡ false → (i : ℕ) → i < n → HasOne lanes i → ⊥
  pub apart : (i j : ℕ) → i < j → j < n → HasOne lanes i → HasOne lanes j → ⊥

pub seen_none : (lanes : List (Vec Line Global)) → Seen lanes 0 false
seen_none lanes = record {
  one = λ is. absurd (cc is);
  none = λ is i less. absurd (omega (arith, less));
  apart = λ i j less more. absurd (omega (arith, more));
}

module _ (lanes : List (Vec Line Global)) (n : ℕ) (before : Bool) (seen : Seen lanes n before) (lane : Vec Line Global) (at : slice_get lanes n ≡ Some lane) where
  -- the next one is the second
  pub two_have : mends_one lane.items ≡ true → before ≡ true → ClashesMend (lanes_in lanes)
  two_have is was = (let first = seen.one was in record { i = first.0; j = n; before = first.1; first = lane_mends lanes first.0 first.2; other = lane_mends lanes n (lane, at, is) })

  -- or the first
  seen_first : mends_one lane.items ≡ true → before ≡ false → Seen lanes (n + 1) true
  seen_first is was = record {
    one = λ _. (n, omega arith, (lane, at, is));
    none = λ no. absurd (cc no);
    apart = λ i j less more one other. elim (cases_lt j n) [
      | inl j_before ↦ seen.apart i j less j_before one other
      | inr j_is ↦ seen.none was i (omega (arith, less, more)) one
    ];
  }

  -- or has none
  seen_more : mends_one lane.items ≡ false → Seen lanes (n + 1) before
  seen_more not = record {
    one = λ was. (let first = seen.one was in (first.0, (let less = first.1 in omega (arith, less)), first.2));
    none = λ was i less one. elim (cases_lt i n) [
      | inl i_before ↦ seen.none was i i_before one
      | inr i_is ↦ this_not i less i_is one
    ];
    apart = λ i j less more one other. elim (cases_lt j n) [
      | inl j_before ↦ seen.apart i j less j_before one other
      | inr j_is ↦ this_not j more j_is other
    ];
  }
    where
      this_not : (i : ℕ) → i < n + 1 → n ≤ i → HasOne lanes i → ⊥
      this_not i less more (other, there, is) =
          let same : i ≡ n = omega (arith, less, more) in
          let here : slice_get lanes n ≡ Some other = subst (λ k. slice_get lanes k ≡ Some other) same there in
          cc (here, at, is, not)

  pub seen_next : (mends : Bool) → mends ≡ mends_one lane.items → (before && mends) ≡ false → Seen lanes (n + 1) (before || mends)
  seen_next mends are one = by mends are before refl
    where
      by : (m : Bool) → m ≡ mends_one lane.items → (b : Bool) → before ≡ b → Seen lanes (n + 1) (b || m)
      by true is true was = absurd (cc (is, are, was, one))
      by true is false was = seen_first (sym is) was
      by false is true was = subst (Seen lanes (n + 1)) was (seen_more (sym is))
      by false is false was = subst (Seen lanes (n + 1)) was (seen_more (sym is))

pub none_two : (lanes : List (Vec Line Global)) (n : ℕ) (before : Bool) → length lanes ≤ n → Seen lanes n before → ClashesMend (lanes_in lanes) → ⊥
none_two lanes n before end seen clash =
    let first = mends_lane lanes clash.i clash.first in
    let other = mends_lane lanes clash.j clash.other in
    let less = slice_get_within lanes clash.j other.0 other.1 in
    seen.apart clash.i clash.j clash.before (omega (arith, less, end)) first other
