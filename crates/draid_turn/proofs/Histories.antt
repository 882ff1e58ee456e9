-- The history of a lock with one hold more.
use Rattle.std.proofs.Common.{◌≡◌, List, [], ◌∷◌, ◌++◌, refl, sym, subst}
use Rattle.draid_turn.specs.declared.past.Past.{Past}
use Rattle.draid_turn.specs.History.{Steps, Stood, left_by}

module _ {T : Type 0} (step : T → Past T → Type 0) where
  pub left_more : (first : T) (log : List (Past T)) (past : Past T) → left_by first (log ++ past ∷ []) ≡ past.left
  left_more first [] past = refl
  left_more first (p ∷ log) past = left_more p.left log past

  pub steps_more : (first : T) (log : List (Past T)) (past : Past T) → Steps step first log → step (left_by first log) past → Steps step first (log ++ past ∷ [])
  steps_more first [] past s one = (one, tt)
  steps_more first (p ∷ log) past s one = (s.0, steps_more p.left log past s.1 one)

  pub stood_more : (first : T) (log : List (Past T)) (x : T) (past : Past T) → Stood step first log x → step x past → Stood step first (log ++ past ∷ []) past.left
  stood_more first log x past s one = record { is = sym (left_more first log past); steps = steps_more first log past s.steps (subst (λ z. step z past) s.is one) }
