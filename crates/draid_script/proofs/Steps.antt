-- What is read by one step after another.
use Rattle.std.proofs.Common.{◌≡◌, ◌-◌, ◌≤◌, ◌<◌, List, [], ◌∷◌, length, get_or, drop, take, Result, Ok, Err, sym, ap, ◌∙◌, subst, arith}
use Rattle.std.specs.Result.{IsErrAnd}
use Rattle.std.proofs.lemmas.List.{take_all}
use Rattle.std.proofs.lemmas.Result.{err_from_is_err_and}
use Rattle.draid_script.specs.declared.fault.LineFault.{LineFault}
use Rattle.draid_script.specs.declared.fault.ParseFault.{ParseFault}
use Rattle.draid_script.specs.declared.fault.ParseFault.TheVariants as refused
use Rattle.draid_script.specs.Fault.{Gives, Refuses, ◌>>=◌}

-- the second step, where the first gave a value
pub then_ok : {A B : Type 0} (read : Result B LineFault) (first : Result A LineFault) (more : A → Result B LineFault) (a : A) → read ≡ (first >>= more) → first ≡ Ok a → read ≡ more a
then_ok read first more a steps gave = steps ∙ ap (λ r. r >>= more) gave

refuses_more : {A B : Type 0} (e : ParseFault) (first : Result A LineFault) (more : A → Result B LineFault) → Refuses e first → Refuses e (first >>= more)
refuses_more refused.NoMemory first more fails = tt
refuses_more (refused.Line fault) first more fails = ap (λ r. r >>= more) fails

-- the fault of the first step, passed on
pub then_err : {A B X : Type 0} (view : X → B) (r : Result X ParseFault) (e : ParseFault) (read : Result B LineFault) (first : Result A LineFault) (more : A → Result B LineFault) → read ≡ (first >>= more) → IsErrAnd r (λ y. y ≡ e) → Refuses e first → Gives view r read
then_err view r e read first more steps passed fails =
    let p = err_from_is_err_and r passed in
    let refuses : Refuses e read = subst (Refuses e) (sym steps) (refuses_more e first more fails) in
    let same : Refuses p.0 read = subst (λ f. Refuses f read) (sym p.2) refuses in
    subst (λ result. Gives view result read) (sym p.1) same

-- a fault that is the whole of what is read
pub refuses_all : {B : Type 0} (e : ParseFault) (read : Result B LineFault) (fault : LineFault) → e ≡ refused.Line fault → read ≡ Err fault → Refuses e read
refuses_all e read fault is fails = subst (λ f. Refuses f read) (sym is) fails

-- want of memory says nothing of what is read
pub no_memory : {B X : Type 0} (view : X → B) (r : Result X ParseFault) (read : Result B LineFault) → IsErrAnd r (λ y. y ≡ refused.NoMemory) → Gives view r read
no_memory view r read passed =
    let p = err_from_is_err_and r passed in
    let same : Refuses p.0 read = subst (λ f. Refuses f read) (sym p.2) tt in
    subst (λ result. Gives view result read) (sym p.1) same

-- a list of two or more, by its first elements
pub front_of : {A : Type 0} (xs : List A) (a b : A) → 2 ≤ length xs → a ≡ get_or xs 0 a → b ≡ get_or xs 1 b → xs ≡ a ∷ b ∷ take (length xs - 2) (drop 2 xs)
front_of [] a b some at at' = absurd (omega (arith, some))
front_of (x ∷ []) a b some at at' = absurd (omega (arith, some))
front_of (x ∷ y ∷ xs) a b some at at' =
    let all = x ∷ y ∷ xs in
    let rest = take (length all - 2) xs in
    let whole : all ≡ x ∷ y ∷ rest = ap (λ ys. x ∷ y ∷ ys) (sym (take_all (length all - 2) xs (omega arith))) in
    subst (λ z. all ≡ z ∷ b ∷ rest) (sym at) (subst (λ z. all ≡ x ∷ z ∷ rest) (sym at') whole)

-- lists of a known length, by their elements
pub one_of : {A : Type 0} (xs : List A) (a : A) → 1 ≤ length xs → length xs < 2 → a ≡ get_or xs 0 a → xs ≡ a ∷ []
one_of [] a some few at = absurd (omega (arith, some))
one_of (x ∷ []) a some few at = ap (λ y. y ∷ []) (sym at)
one_of (x ∷ y ∷ xs) a some few at = absurd (omega (arith, few))

pub two_of : {A : Type 0} (xs : List A) (a b : A) → 2 ≤ length xs → length xs < 3 → a ≡ get_or xs 0 a → b ≡ get_or xs 1 b → xs ≡ a ∷ b ∷ []
two_of [] a b some few at at' = absurd (omega (arith, some))
two_of (x ∷ xs) a b some few at at' = subst (λ y. x ∷ xs ≡ y ∷ b ∷ []) (sym at) (ap (λ ys. x ∷ ys) (one_of xs b (omega (arith, some)) (omega (arith, few)) at'))

pub three_of : {A : Type 0} (xs : List A) (a b c : A) → 3 ≤ length xs → length xs < 4 → a ≡ get_or xs 0 a → b ≡ get_or xs 1 b → c ≡ get_or xs 2 c → xs ≡ a ∷ b ∷ c ∷ []
three_of [] a b c some few at at' at'' = absurd (omega (arith, some))
three_of (x ∷ xs) a b c some few at at' at'' = subst (λ y. x ∷ xs ≡ y ∷ b ∷ c ∷ []) (sym at) (ap (λ ys. x ∷ ys) (two_of xs b c (omega (arith, some)) (omega (arith, few)) at' at''))

pub four_of : {A : Type 0} (xs : List A) (a b c d : A) → 4 ≤ length xs → length xs < 5 → a ≡ get_or xs 0 a → b ≡ get_or xs 1 b → c ≡ get_or xs 2 c → d ≡ get_or xs 3 d → xs ≡ a ∷ b ∷ c ∷ d ∷ []
four_of [] a b c d some few at at' at'' at''' = absurd (omega (arith, some))
four_of (x ∷ xs) a b c d some few at at' at'' at''' = subst (λ y. x ∷ xs ≡ y ∷ b ∷ c ∷ d ∷ []) (sym at) (ap (λ ys. x ∷ ys) (three_of xs b c d (omega (arith, some)) (omega (arith, few)) at' at'' at'''))
