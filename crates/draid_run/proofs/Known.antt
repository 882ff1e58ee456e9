-- Known bytes of sources and sinks.
use Rattle.std.proofs.Common.{sym, ap, ◌∙◌, ℕ, List, [], ◌++◌, Option, Some, None, MatchOption, append_assoc}
use Rattle.std.specs.Prelude.{⊤}
use Rattle.std.specs.Io.KnownBytes.{Appends}
use Rattle.std.proofs.lemmas.List.{append-nil}
use Rattle.draid_lines.specs.Lines.{WhereKnown}
use Rattle.draid_lines.specs.Sink.{AppendsFront}
use Rattle.draid_print.proofs.Appending.{appends_more}

-- some front of the further bytes was added
pub front_more : (old mid new : Option (List ℕ)) (xs ys : List ℕ) → Appends old mid xs → AppendsFront mid new ys → AppendsFront old new (xs ++ ys)
front_more old mid new xs ys a b =
    (xs ++ b.0, b.1, ap (λ zs. xs ++ zs) b.2 ∙ sym (append_assoc xs b.0 b.1), appends_more old mid new xs b.0 a b.3)

pub known_on : (a b c : Option (List ℕ)) (P Q S : List ℕ → List ℕ → Type 0) → ((x y z : List ℕ) → P x y → Q y z → S x z) → WhereKnown a b P → WhereKnown b c Q → WhereKnown a c S
known_on None b c P Q S step p q = tt
known_on (Some x) None c P Q S step p q = absurd p
known_on (Some x) (Some y) None P Q S step p q = absurd q
known_on (Some x) (Some y) (Some z) P Q S step p q = step x y z p q

pub known_weaken : (a b : Option (List ℕ)) (P Q : List ℕ → List ℕ → Type 0) → ((x y : List ℕ) → P x y → Q x y) → WhereKnown a b P → WhereKnown a b Q
known_weaken None b P Q step p = tt
known_weaken (Some x) None P Q step p = absurd p
known_weaken (Some x) (Some y) P Q step p = step x y p

pub known_same : (a : Option (List ℕ)) (P : List ℕ → List ℕ → Type 0) → ((x : List ℕ) → P x x) → WhereKnown a a P
known_same None P step = tt
known_same (Some x) P step = step x

-- a fact of the input alone
pub known_input : (a b : Option (List ℕ)) (P : List ℕ → List ℕ → Type 0) (Q : List ℕ → Type 0) → ((x y : List ℕ) → P x y → Q x) → WhereKnown a b P → MatchOption a ⊤ Q
known_input None b P Q step p = tt
known_input (Some x) None P Q step p = absurd p
known_input (Some x) (Some y) P Q step p = step x y p
