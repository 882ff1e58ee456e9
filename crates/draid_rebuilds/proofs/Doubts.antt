-- The segments of a stripe, and which of them are in doubt.
use Rattle.std.proofs.Common.{◌≡◌, ◌<◌, ◌&&◌, ℕ, Bool, true, false, Option, Some, None, is_some, is_none, refl, sym, ◌∙◌, ap, if◌then◌else◌}
use Rattle.std.proofs.lemmas.Bool.{true≢false}
use Rattle.draid_machine.specs.declared.names.Segment.{Segment}
use Rattle.draid_machine.specs.Names.{any_below}
use Rattle.draid_machine.specs.State.{Layout, Core, Loan}
use Rattle.draid_machine.proofs.Small.{any_at}
use Rattle.draid_rebuilds.specs.Mending.{is_doubtful, is_taken_aside}

pub mended_bits : (k on r t a : Bool) → ((k && on) && (r && t && a)) ≡ (k && r && t && on && a)
mended_bits true true r t a = bits r t a
  where
    bits : (r t a : Bool) → (r && t && a) ≡ (r && t && true && a)
    bits true true a = refl
    bits true false a = refl
    bits false t a = refl
mended_bits true false true true a = refl
mended_bits true false true false a = refl
mended_bits true false false t a = refl
mended_bits false on r t a = refl

is_none_of : {A : Type 0} (o : Option A) → is_some o ≡ false → is_none o ≡ true
is_none_of None e = refl
is_none_of (Some a) e = absurd (true≢false e)

-- what has no source is in doubt with any reading
pub doubt_any : (l : Layout) (q : Core) (aside : Segment → Bool) (n : Loan) (s : Segment) (c : ℕ) → is_some (n.chosen s.column) ≡ false → c < l.columns → is_taken_aside l q aside n s c (n.chosen c) ≡ true
    → true ≡ is_doubtful l q aside n s
doubt_any l q aside n s c none less e =
    sym (ap (λ b. if b then any_below l.columns (λ k. is_taken_aside l q aside n s k (n.chosen k)) else is_taken_aside l q aside n s s.column (n.chosen s.column)) (is_none_of (n.chosen s.column) none)
    ∙ any_at l.columns (λ k. is_taken_aside l q aside n s k (n.chosen k)) c less e)
