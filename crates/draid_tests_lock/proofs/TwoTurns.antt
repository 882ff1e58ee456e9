-- A lane's calls in two turns.
use Rattle.std.proofs.Common.{◌≡◌, ℕ, zero, suc, ◌<◌, List, [], ◌∷◌, refl, ◌∙◌, arith, Option, All}
use Rattle.std.proofs.lemmas.List.Elements.{All-weaker}
use Rattle.draid_turn.specs.declared.past.Past.{Past}
use Rattle.draid_turn.specs.Calls.{Caller, Lock, MayCall}
use Rattle.draid_holds.specs.Calls.{AllMayCall, MayCallLater}
use Rattle.draid_holds.specs.declared.calls.Call.{Call}

module _ {O T : Type 0} (step : T → Past T → Type 0) (needs : O → T → Type 0) (relates : O → T → O → T → Type 0) (concerns : O → Option ℕ)
    (may : (op : O) (lock : Lock T) (pass : Caller (Past T)) → pass.table ≡ lock.table → MayCall step needs relates concerns op lock pass) (l r : Lock T) (p q : Caller (Past T)) where
  abbrev MayLater : Call O → Type 0
  MayLater call = MayCallLater step needs relates concerns call.op call.turn (l ∷ r ∷ []) (p ∷ q ∷ [])

  may_in : p.table ≡ l.table → q.table ≡ r.table → (call : Call O) → call.turn < 2 → MayLater call
  may_in own own' call lt = by call.turn lt
    where
      by : (turn : ℕ) → turn < 2 → MayCallLater step needs relates concerns call.op turn (l ∷ r ∷ []) (p ∷ q ∷ [])
      by zero lt = record { lock = l; pass = p; lock_is = refl; pass_is = refl; may = λ later table numbers seen. may call.op l later (table ∙ own) }
      by (suc zero) lt = record { lock = r; pass = q; lock_is = refl; pass_is = refl; may = λ later table numbers seen. may call.op r later (table ∙ own') }
      by (suc (suc turn)) lt = absurd (omega (arith, lt))

  pub two_may : (calls : List (Call O)) → p.table ≡ l.table → q.table ≡ r.table → All (λ (call : Call O). call.turn < 2) calls → AllMayCall step needs relates concerns (l ∷ r ∷ []) (p ∷ q ∷ []) calls
  two_may calls own own' below = All-weaker (λ (call : Call O). call.turn < 2) MayLater (λ call lt. may_in own own' call lt) calls below
