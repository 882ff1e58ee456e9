-- Laws of beginnings of a list, and of the longer of two.
use Rattle.std.proofs.Common.{◌≡◌, ◌≤◌, Bool, true, false, List, [], ◌∷◌, ◌++◌, length, length-append, drop, get_or, sym, refl, ap, ◌∙◌, subst, arith, nat_lt, All, if◌then◌else◌}
use Rattle.std.proofs.lemmas.Bool.Decides.{nat_tests}
use Rattle.std.proofs.lemmas.List.{append_assoc, append-nil, append_cancel_left}
use Rattle.std.proofs.lemmas.List.Elements.{All-cons, All-head, All-nil, All-tail}
use Rattle.draid_turn.specs.Lists.{StartsWith, longer, shorter}

pub starts_self : {E : Type 0} (xs : List E) → StartsWith xs xs
starts_self xs = ([], sym (append-nil xs))

pub starts_further : {E : Type 0} (xs ys zs : List E) → StartsWith ys xs → StartsWith zs ys → StartsWith zs xs
starts_further xs ys zs a b = (a.0 ++ b.0, b.1 ∙ (ap (λ l. l ++ b.0) a.1 ∙ append_assoc xs a.0 b.0))

pub starts_length : {E : Type 0} (log seen : List E) → StartsWith log seen → length seen ≤ length log
starts_length log seen a = let e : length log ≡ length (seen ++ a.0) = ap length a.1 in omega (arith, e, length-append seen a.0)

module _ {E : Type 0} where
  -- of two beginnings of one list the shorter begins the longer
  pub nested : (xs ys ts us : List E) → xs ++ ts ≡ ys ++ us → length xs ≤ length ys → StartsWith ys xs
  nested [] ys ts us e le = (ys, refl)
  nested (x ∷ xs) [] ts us e le = absurd (omega (arith, le))
  nested (x ∷ xs) (y ∷ ys) ts us e le =
      let rest = nested xs ys ts us (ap (λ l. drop 1 l) e) (omega (arith, le)) in
      let first : x ≡ y = ap (λ l. get_or l 0 x) e in
      (rest.0, λ k. sym first k ∷ rest.1 k)

  pick : (Q : List E → List E → Type 0) (b : Bool) (xs ys : List E) → (b ≡ true → Q ys xs) → (b ≡ false → Q xs ys) → Q (if b then ys else xs) (if b then xs else ys)
  pick Q true xs ys first second = first refl
  pick Q false xs ys first second = second refl

  -- the longer of two beginnings begins with both
  pub longer_first : (log xs ys : List E) → StartsWith log xs → StartsWith log ys → StartsWith (longer xs ys) xs
  longer_first log xs ys a b = pick (λ l s. StartsWith l xs) (nat_lt (length xs) (length ys)) xs ys
      (λ less. nested xs ys a.0 b.0 (sym a.1 ∙ b.1) (grind (arith, nat_tests))) (λ _. starts_self xs)

  pub longer_second : (log xs ys : List E) → StartsWith log xs → StartsWith log ys → StartsWith (longer xs ys) ys
  longer_second log xs ys a b = pick (λ l s. StartsWith l ys) (nat_lt (length xs) (length ys)) xs ys
      (λ _. starts_self ys) (λ not. nested ys xs b.0 a.0 (sym b.1 ∙ a.1) (grind (arith, nat_tests)))

  -- each of the two is one of them
  pub longer_of : (P : List E → Type 0) (xs ys : List E) → P xs → P ys → P (longer xs ys)
  longer_of P xs ys a b = pick (λ l s. P l) (nat_lt (length xs) (length ys)) xs ys (λ _. b) (λ _. a)

  pub shorter_of : (P : List E → Type 0) (xs ys : List E) → P xs → P ys → P (shorter xs ys)
  shorter_of P xs ys a b = pick (λ l s. P s) (nat_lt (length xs) (length ys)) xs ys (λ _. a) (λ _. b)

  pub shorter_longer : (xs ys : List E) → length (shorter xs ys) ≤ length (longer xs ys)
  shorter_longer xs ys = pick (λ l s. length s ≤ length l) (nat_lt (length xs) (length ys)) xs ys (λ less. grind (arith, nat_tests)) (λ not. grind (arith, nat_tests))

  -- behind the whole list there is nothing
  pub all_none : (P : E → Type 0) (xs rest : List E) → xs ≡ xs ++ rest → All P rest
  all_none P xs rest e = subst (All P) (append_cancel_left xs [] rest (append-nil xs ∙ e)) (All-nil P)

  all_back : (P : E → Type 0) (xs ys : List E) → All P (xs ++ ys) → All P ys
  all_back P [] ys a = a
  all_back P (x ∷ xs) ys a = all_back P xs ys (All-tail P x (xs ++ ys) a)

  all_front : (P : E → Type 0) (xs ys : List E) → All P (xs ++ ys) → All P xs
  all_front P [] ys a = All-nil P
  all_front P (x ∷ xs) ys a = All-cons P x xs (All-head P x (xs ++ ys) a) (all_front P xs ys (All-tail P x (xs ++ ys) a))

  -- what is so behind a beginning of the list is so of what a longer one has behind that
  pub all_between : (P : E → Type 0) (log less more : List E) → StartsWith log more → (a : StartsWith more less) → ((r : List E) → log ≡ less ++ r → All P r) → All P a.0
  all_between P log less more b a f = all_front P a.0 b.0 (f (a.0 ++ b.0) (b.1 ∙ (ap (λ l. l ++ b.0) a.1 ∙ append_assoc less a.0 b.0)))

  -- what is so behind a beginning is so behind a longer one
  pub all_later : (P : E → Type 0) (log less more rest : List E) → StartsWith more less → log ≡ more ++ rest → ((r : List E) → log ≡ less ++ r → All P r) → All P rest
  all_later P log less more rest a e f = all_back P a.0 rest (f (a.0 ++ rest) (e ∙ (ap (λ l. l ++ rest) a.1 ∙ append_assoc less a.0 rest)))
