-- Grammars of bytes. A field is a width and a range, a record is fields one after another, counts and lists.
use Rattle.std.specs.Prelude.{◌≡◌, ◌<◌, ◌≤◌, ◌^◌, ◌++◌, ℕ, zero, suc, Bool, true, List, [], ◌∷◌, length}
use Rattle.byteorder.specs.Endian.{big_bytes}

-- What is spelled by fields one after another: numbers of so many bytes, the highest byte first, from `low` to
-- `high`; so many bytes of any kind; and tests of what came before, which blame the field that begins so many bytes
-- before this place.
pub data Grammar (A : Type 0) : Type 0 where
  Done : A → Grammar A
  Number : (width low high : ℕ) → (ℕ → Grammar A) → Grammar A
  Bytes : (width : ℕ) → (List ℕ → Grammar A) → Grammar A
  Check : (holds : Bool) → (back : ℕ) → Grammar A → Grammar A

-- one grammar and behind it another, which may go by what the first one spelled
infixl 10 ◌>>=◌
abbrev pub ◌>>=◌ : {A B : Type 0} → Grammar A → (A → Grammar B) → Grammar B
(Done x) >>= f = f x
(Number width low high next) >>= f = Number width low high (λ n. next n >>= f)
(Bytes width next) >>= f = Bytes width (λ text. next text >>= f)
(Check holds back next) >>= f = Check holds back (next >>= f)

abbrev pub number : ℕ → ℕ → ℕ → Grammar ℕ
number width low high = Number width low high (λ n. Done n)

abbrev pub text : ℕ → Grammar (List ℕ)
text width = Bytes width (λ bytes. Done bytes)

abbrev pub check : Bool → ℕ → Grammar Unit
check holds back = Check holds back (Done tt)

-- so many items, each by a grammar that goes by a state which the items before it led to
unfoldable pub many : {S X : Type 0} → ℕ → (S → Grammar X) → (S → X → S) → S → Grammar (List X)
many zero item step state = Done []
many (suc count) item step state = item state >>= λ x. many count item step (step state x) >>= λ xs. Done (x ∷ xs)

-- the bytes are spelled by the grammar, and say the value
unfoldable pub Spells : {A : Type 0} → Grammar A → List ℕ → A → Type 0
Spells (Done x) bytes value = (bytes ≡ []) × (value ≡ x)
Spells (Number width low high next) bytes value =
    (n : ℕ) × (rest : List ℕ) × (bytes ≡ big_bytes width n ++ rest) × (n < 256 ^ width) × (low ≤ n) × (n ≤ high) × Spells (next n) rest value
Spells (Bytes width next) bytes value =
    (front : List ℕ) × (rest : List ℕ) × (bytes ≡ front ++ rest) × (length front ≡ width) × Spells (next front) rest value
Spells (Check holds back next) bytes value = (holds ≡ true) × Spells next bytes value
