use Rattle.std.proofs.Common.{◌≡◌, ◌<◌, ◌≤◌, ℕ, inl, inr, arith, sym}
use Rattle.std.proofs.lemmas.Bool.{cases_lt, true≢false}
use Rattle.draid_steps.proofs.room.is_lowest.Goals as goal

above : (m n : ℕ) → m ≤ n → (n ≡ m → ⊥) → m < n
above m n from differ = elim (cases_lt m n) [
  | inl less ↦ less
  | inr back ↦ absurd (differ (omega (arith, from, back)))
]

pub loop-next-preserved : goal.loop-next-preserved
loop-next-preserved c = λ x less. elim (cases_lt x c.loop-next.next) [
  | inl before ↦ c.loop-next.invariant x before
  | inr from ↦ c.next_place-found.ensures.before x from less
]

pub loop-next-smaller : goal.loop-next-smaller
loop-next-smaller c =
    let left = c.loop-next-test.true in
    let more = above c.loop-next.next c.next_place-found.result c.next_place-found.ensures.from c.if-found-next.false in
    omega (arith, left, more)

pub returns-then-found-next-clause-fits : goal.returns-then-found-next-clause-fits
returns-then-found-next-clause-fits c = λ e. absurd (true≢false (sym e))

pub returns-then-found-next-clause-lowest : goal.returns-then-found-next-clause-lowest
returns-then-found-next-clause-lowest c = λ e. absurd (true≢false (sym e))

pub returns-then-found-next-clause-no : goal.returns-then-found-next-clause-no
returns-then-found-next-clause-no c = λ e fits lowest.
    lowest c.loop-next.next c.loop-next-test.true (c.next_place-found.ensures.fits c.if-found-next.true)
