-- The laws of a grammar, said of what was told.
use Rattle.std.proofs.Common.{◌≡◌, ℕ, List, length, Result, Ok, Err, refl, sym, ap, subst, ◌∙◌}
use Rattle.std.specs.Prelude.{IfOk}
use Rattle.draid_record.specs.declared.fault.Fault.{Fault}
use Rattle.draid_record.specs.declared.fault.RecordFault.{RecordFault}
use Rattle.draid_record.specs.Grammar.{Grammar}
use Rattle.draid_record.specs.Reading.{read}
use Rattle.draid_record.specs.Uber.{Begins, told}
use Rattle.draid_record.proofs.Digits.{IsBytes}
use Rattle.draid_record.proofs.Laws.{read_again, read_takes}

pub is_found : {A : Type 0} (g : Grammar A) (bytes : List ℕ) (result : Result A RecordFault) → IsBytes bytes → result ≡ told (length bytes) (read g bytes) → IfOk result (Begins bytes g)
is_found {A = A} g bytes result fits is = at (read g bytes) refl
  where
    at : (r : Result (A × List ℕ) Fault) → read g bytes ≡ r → IfOk result (Begins bytes g)
    at (Ok x) e =
        let t = read_takes g bytes x fits e in
        subst (λ (r : Result A RecordFault). IfOk r (Begins bytes g)) (sym (is ∙ ap (told (length bytes)) e)) (t.front, x.1, t.parts, t.spelled)
    at (Err f) e = subst (λ (r : Result A RecordFault). IfOk r (Begins bytes g)) (sym (is ∙ ap (told (length bytes)) e)) tt

pub is_only : {A : Type 0} (g : Grammar A) (bytes : List ℕ) (result : Result A RecordFault) (value : A) → result ≡ told (length bytes) (read g bytes) → Begins bytes g value → result ≡ Ok value
is_only g bytes result value is begins = is ∙ ap (told (length bytes)) (ap (read g) begins.2 ∙ read_again g begins.0 begins.1 value begins.3)
