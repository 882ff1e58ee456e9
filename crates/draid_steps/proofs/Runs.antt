-- Runs that fit, and what stands in their way.
use Rattle.std.proofs.Common.{◌&&◌, nat_le, nat_lt, ◌≡◌, ◌<◌, ◌≤◌, ◌+◌, ◌-◌, ◌*◌, ◌/◌, ◌%◌, ℕ, ap, sym, ◌∙◌, true, false, Some, inl, inr, arith}
use Rattle.std.proofs.lemmas.Nat.{div-mul-add}
use Rattle.std.proofs.Math.Nat.{le-div_iff_mul-le, mod-add-div'}
use Rattle.std.proofs.lemmas.Bool.{cases_lt}
use Rattle.std.proofs.lemmas.Bool.Decides.{nat_tests}
use Rattle.draid_names.specs.declared.pass_kind.PassKind.{PassKind}
use Rattle.draid_names.specs.declared.pass_kind.PassKind.TheVariants.{Rebuild, Heal}
use Rattle.draid_machine.specs.declared.names.Key.{Key}
use Rattle.draid_machine.specs.declared.names.Held.{Held}
use Rattle.draid_machine.specs.State.{Layout, Core}
use Rattle.draid_machine.specs.Step.{Fits, IsTaken}
use Rattle.draid_machine.proofs.Small.{both_true, true_both, low, below, is_low, is_below, absurd_test}
use Rattle.draid_steps.specs.Room.{meets}

pub blocked : (l : Layout) (q : Core) (k : Key) (h : Held) (first n x : ℕ) → q.held k ≡ Some h → meets first n h ≡ true → first ≤ x → x < h.first + h.stripes → 0 < n
    → Fits l q x n → ⊥
blocked l q k h first n x found meet from less some fits = elim (cases_lt x h.first) [
  | inl before ↦
      let near = is_below h.first (first + n) (both_true (nat_lt h.first (first + n)) (nat_lt first (h.first + h.stripes)) (both_true (nat_lt h.first (first + n) && nat_lt first (h.first + h.stripes)) (nat_lt 0 h.stripes) meet).0).0 in
      let shown = is_below 0 h.stripes (both_true (nat_lt h.first (first + n) && nat_lt first (h.first + h.stripes)) (nat_lt 0 h.stripes) meet).1 in
      fits.free h.first (omega (arith, before)) (omega (arith, near, from)) (record {
        key = k;
        held = h;
        found = found;
        taken = true_both (nat_le h.first h.first) _ (low h.first h.first (omega arith)) (below h.first (h.first + h.stripes) (omega (arith, shown)));
      })
  | inr past ↦
      fits.free x (omega arith) (omega (arith, some)) (record { key = k; held = h; found = found; taken = true_both (nat_le h.first x) _ (low h.first x past) (below x (h.first + h.stripes) less) })
]

pub free_run : (q : Core) (first n : ℕ) → ((k : Key) (h : Held) → q.held k ≡ Some h → meets first n h ≡ false) → (x : ℕ) → first ≤ x → x < first + n → IsTaken q x → ⊥
free_run q first n none x from less taken =
    let h = taken.held in
    let z = both_true (nat_le h.first x) (nat_lt x (h.first + h.stripes)) taken.taken in
    let from_first = is_low h.first x z.0 in
    let high = is_below x (h.first + h.stripes) z.1 in
    absurd_test (meets first n h)
    (true_both (nat_lt h.first (first + n) && nat_lt first (h.first + h.stripes)) (nat_lt 0 h.stripes)
    (true_both (nat_lt h.first (first + n)) (nat_lt first (h.first + h.stripes)) (below h.first (first + n) (omega (arith, from_first, less))) (below first (h.first + h.stripes) (omega (arith, from, high))))
    (below 0 h.stripes (omega (arith, from_first, high))))
    (none taken.key h taken.found)

pub not_below : (x y : ℕ) → nat_lt x y ≡ false → y ≤ x
not_below x y e = grind (arith, nat_tests)

pub kinds_differ : (kind : PassKind) → kind ≡ Rebuild → kind ≡ Heal → ⊥
kinds_differ kind a b = differ (sym a ∙ b)
  where
    differ : Rebuild ≡ Heal → ⊥
    differ e = absurd (cc)

-- ---- groups
-- a run from a place of a group that goes on behind the group's end ends in another
crosses : (h q s n x : ℕ) → 0 < h → x ≡ q * h + s → s < h → h < s + n → (x + n - 1) / h ≡ x / h → ⊥
crosses h q s n x some is less far same =
    let at : x / h ≡ q = ap (λ m. m / h) is ∙ div-mul-add q h s less in
    let wide : (q + 1) * h ≡ q * h + h = grind arith in
    let upto : (q + 1) * h ≤ x + n - 1 = omega (arith, wide, is, far) in
    let more : q + 1 ≤ (x + n - 1) / h = (le-div_iff_mul-le {k = h} {x = q + 1} {y = x + n - 1} some).1 upto in
    absurd (omega (arith, more, same, at))

-- where a run goes on behind the end of its group, it fits nowhere up to there
pub behind_group : (l : Layout) (q : Core) (first n x : ℕ) → 0 < l.height → first ≤ x → x < first - first % l.height + l.height → first - first % l.height + l.height < first + n → Fits l q x n → ⊥
behind_group l q first n x some from less far fits =
    let parts : first % l.height + first / l.height * l.height ≡ first = mod-add-div' first l.height in
    crosses l.height (first / l.height) (x - first / l.height * l.height) n x some (omega (arith, parts, from)) (omega (arith, parts, from, less)) (omega (arith, parts, from, far)) fits.group

-- a run that ends in the group in which it begins
pub in_group : (first n h : ℕ) → 0 < n → first + n ≤ first - first % h + h → (first + n - 1) / h ≡ first / h
in_group first n h some upto =
    let parts : first % h + first / h * h ≡ first = mod-add-div' first h in
    let is : first + n - 1 ≡ first / h * h + (first % h + n - 1) = omega (arith, parts, some) in
    ap (λ m. m / h) is ∙ div-mul-add (first / h) h (first % h + n - 1) (omega (arith, parts, upto, some))
