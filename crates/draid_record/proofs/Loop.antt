-- Reading items one after another, as a loop does.
use Rattle.std.proofs.Common.{◌≡◌, ℕ, suc, ◌-◌, ◌+◌, ◌≤◌, ◌<◌, true, false, List, [], ◌∷◌, ◌++◌, Result, Ok, Err, refl, sym, ap, ◌∙◌, append_assoc, arith}
use Rattle.std.specs.Prelude.{is_err}
use Rattle.std.proofs.lemmas.Bool.{false≢true}
use Rattle.std.proofs.lemmas.List.{append-nil}
use Rattle.draid_record.specs.declared.fault.Fault.{Fault}
use Rattle.draid_record.specs.Grammar.{Grammar, Done, ◌>>=◌, many}
use Rattle.draid_record.specs.Reader.{Reads, State}
use Rattle.draid_record.specs.Reading.{read, then_read}
use Rattle.draid_record.proofs.Laws.{read_then}
use Rattle.draid_record.proofs.Steps.{kept, same_fault}

-- what was read before, and what is still read
abbrev with_front : {X : Type 0} → List X → Result (List X × List ℕ) Fault → Result (List X × List ℕ) Fault
with_front front found = then_read found (λ x. Ok (front ++ x.0, x.1))

-- What was read so far, and what is still read from this state, is what the whole gives from the first state.
pub record Still {X : Type 0} (old : State) (whole : Grammar (List X)) (front : List X) (now : State) (rest : Grammar (List X)) : Type 0 where
  pub is : then_read now (λ bytes. with_front front (read rest bytes)) ≡ then_read old (read whole)

none_before : {X : Type 0} (r : Result (List X × List ℕ) Fault) → with_front [] r ≡ r
none_before (Ok x) = refl
none_before (Err d) = refl

regroup : {X : Type 0} (front : List X) (n : X) (found : Result (List X × List ℕ) Fault) → with_front front (then_read found (λ x. Ok (n ∷ x.0, x.1))) ≡ with_front (front ++ n ∷ []) found
regroup front n (Ok x) = ap (λ (ns : List _). Ok (ns, x.1)) (sym (append_assoc front (n ∷ []) x.0))
regroup front n (Err f) = refl

each_more : {S X : Type 0} (item : S → Grammar X) (step : S → X → S) (state : S) (count : ℕ) (r : Result (X × List ℕ) Fault)
    → then_read r (λ x. read (many count item step (step state x.0) >>= λ xs. Done (x.0 ∷ xs)) x.1)
    ≡ then_read r (λ x. then_read (read (many count item step (step state x.0)) x.1) (λ xs. Ok (x.0 ∷ xs.0, xs.1)))
unfolding read
each_more item step state count (Ok x) = read_then (many count item step (step state x.0)) (λ xs. Done (x.0 ∷ xs)) x.1
each_more item step state count (Err f) = refl

-- one item more of those that are still read
more : {S X : Type 0} (item : S → Grammar X) (step : S → X → S) (state : S) (count : ℕ) (bytes : List ℕ)
    → read (many (suc count) item step state) bytes ≡ then_read (read (item state) bytes) (λ x. then_read (read (many count item step (step state x.0)) x.1) (λ xs. Ok (x.0 ∷ xs.0, xs.1)))
unfolding many
more item step state count bytes =
    read_then (item state) (λ x. many count item step (step state x) >>= λ xs. Done (x ∷ xs)) bytes ∙ each_more item step state count (read (item state) bytes)

pub begins : {S X : Type 0} (item : S → Grammar X) (step : S → X → S) (state : S) (count : ℕ) (old : State) → Still old (many count item step state) [] old (many (count - 0) item step state)
begins item step state count (Ok bytes) =
    let k : count - 0 ≡ count = omega arith in
    record { is = rw k (none_before (read (many count item step state) bytes)) }
begins item step state count (Err d) = record { is = refl }

pub goes_on : {S X : Type 0} (item : S → Grammar X) (step : S → X → S) (state : S) (front : List X) (count i : ℕ) (old a b : State) (n : X) (whole : Grammar (List X))
    → i < count → Reads a b n (item state) → is_err b ≡ false → Still old whole front a (many (count - i) item step state)
    → Still old whole (front ++ n ∷ []) b (many (count - (i + 1)) item step (step state n))
goes_on item step state front count i old (Ok bytes) (Ok after) n whole lt reads ok so_far =
    let k : count - i ≡ suc (count - (i + 1)) = omega arith in
    record {
      is = sym (ap (λ m. with_front front (read (many m item step state) bytes)) k
          ∙ ap (with_front front) (more item step state (count - (i + 1)) bytes)
          ∙ ap (λ r. with_front front (then_read r (λ x. then_read (read (many (count - (i + 1)) item step (step state x.0)) x.1) (λ xs. Ok (x.0 ∷ xs.0, xs.1))))) reads.is
          ∙ regroup front n (read (many (count - (i + 1)) item step (step state n)) after))
          ∙ so_far.is;
    }
goes_on {X = X} item step state front count i old (Err d) (Ok after) n whole lt reads ok so_far = absurd (kept ⊥ (item state) (Err d) (Ok after) n reads tt)
goes_on item step state front count i old a (Err d) n whole lt reads ok so_far = absurd (false≢true (sym ok))

pub ends : {S X : Type 0} (item : S → Grammar X) (step : S → X → S) (state : S) (front value : List X) (count i : ℕ) (old a b : State) (n : X) (whole : Grammar (List X))
    → i < count → Reads a b n (item state) → is_err b ≡ true → Still old whole front a (many (count - i) item step state) → Reads old b value whole
ends item step state front value count i old (Ok bytes) (Err d) n whole lt reads failed so_far =
    let k : count - i ≡ suc (count - (i + 1)) = omega arith in
    record {
      is = sym so_far.is
          ∙ ap (λ m. with_front front (read (many m item step state) bytes)) k
          ∙ ap (with_front front) (more item step state (count - (i + 1)) bytes)
          ∙ ap (λ r. with_front front (then_read r (λ x. then_read (read (many (count - (i + 1)) item step (step state x.0)) x.1) (λ xs. Ok (x.0 ∷ xs.0, xs.1))))) reads.is;
    }
ends {X = X} item step state front value count i old (Err e) (Err d) n whole lt reads failed so_far =
    record { is = sym so_far.is ∙ ap Err (same_fault {A = X × List ℕ} e d reads.is) }
ends item step state front value count i old a (Ok after) n whole lt reads failed so_far = absurd (false≢true failed)

pub is_done : {S X : Type 0} (item : S → Grammar X) (step : S → X → S) (state : S) (front : List X) (count i : ℕ) (old a : State) (whole : Grammar (List X))
    → count ≤ i → Still old whole front a (many (count - i) item step state) → Reads old a front whole
unfolding many read
is_done item step state front count i old (Ok bytes) whole le so_far =
    let k : count - i ≡ 0 = omega arith in
    record { is = sym so_far.is ∙ ap (λ m. with_front front (read (many m item step state) bytes)) k ∙ ap (λ (ns : List _). Ok (ns, bytes)) (append-nil front) }
is_done item step state front count i old (Err d) whole le so_far = record { is = sym so_far.is }
