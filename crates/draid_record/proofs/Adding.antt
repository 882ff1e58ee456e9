-- Parts that a writer writes one behind the other.
use Rattle.std.proofs.Common.{◌≡◌, ℕ, ◌+◌, ◌<◌, ◌≤◌, Bool, true, false, List, [], ◌∷◌, ◌++◌, length, map, take, get_or, Option, Some, None, Result, Ok, Err, Vec, Global, refl, sym, ap, subst, ◌∙◌, append_assoc}
use Rattle.std.specs.Prelude.{IfOk, if◌then◌else◌, is_err, is_ok}
use Rattle.std.specs.List.{flat_map}
use Rattle.std.proofs.lemmas.Bool.{false≢true}
use Rattle.std.proofs.lemmas.Grind.{flat_map-append}
use Rattle.std.proofs.lemmas.List.{append-nil, map_more, take_all, take_more}
use Rattle.draid_record.specs.Writer.{Writes, text_by}

pub as_is : (a b : Option (List ℕ)) (x y : List ℕ) → Writes a b x → x ≡ y → Writes a b y
as_is a b x y w is = subst (λ bytes. Writes a b bytes) is w

pub both : (a b c : Option (List ℕ)) (x y : List ℕ) → Writes a b x → Writes b c y → Writes a c (x ++ y)
both a b None x y first behind = record { is = tt }
both a None (Some new) x y first behind = absurd behind.is
both None (Some mid) (Some new) x y first behind = absurd first.is
both (Some old) (Some mid) (Some new) x y first behind = record { is = behind.is ∙ ap (λ t. t ++ y) first.is ∙ append_assoc old x y }

pub nothing : (a : Option (List ℕ)) → Writes a a []
nothing None = record { is = tt }
nothing (Some old) = record { is = sym (append-nil old) }

one_behind : {Y : Type 0} (f : Y → List ℕ) (front : List Y) (y : Y) → flat_map f front ++ f y ≡ flat_map f (front ++ y ∷ [])
one_behind f front y = ap (λ t. flat_map f front ++ t) (sym (append-nil (f y))) ∙ sym (flat_map-append f front (y ∷ []))

-- one item more is written
pub one_more : {X : Type 0} (f : X → List ℕ) (xs : List X) (k : ℕ) (d : X) (a b c : Option (List ℕ)) → k < length xs → Writes a b (flat_map f (take k xs)) → Writes b c (f (get_or xs k d))
    → Writes a c (flat_map f (take (k + 1) xs))
one_more f xs k d a b c l was is = as_is a c _ _ (both a b c _ _ was is) (one_behind f (take k xs) (get_or xs k d) ∙ ap (flat_map f) (sym (take_more xs k d l)))

-- one item more is written, as it is told
pub told_more : {X Y : Type 0} (f : Y → List ℕ) (g : X → Y) (xs : List X) (k : ℕ) (d : X) (a b c : Option (List ℕ)) → k < length xs → Writes a b (flat_map f (map g (take k xs)))
    → Writes b c (f (g (get_or xs k d))) → Writes a c (flat_map f (map g (take (k + 1) xs)))
told_more f g xs k d a b c l was is = as_is a c _ _ (both a b c _ _ was is) (one_behind f (map g (take k xs)) (g (get_or xs k d)) ∙ ap (flat_map f) (sym (map_more g xs k d l)))

-- all items are written
pub all_more : {X : Type 0} (f : X → List ℕ) (xs : List X) (k : ℕ) (a b : Option (List ℕ)) → length xs ≤ k → Writes a b (flat_map f (take k xs)) → Writes a b (flat_map f xs)
all_more f xs k a b l was = as_is a b _ _ was (ap (flat_map f) (take_all k xs l))

pub all_told : {X Y : Type 0} (f : Y → List ℕ) (g : X → Y) (xs : List X) (k : ℕ) (a b : Option (List ℕ)) → length xs ≤ k → Writes a b (flat_map f (map g (take k xs))) → Writes a b (flat_map f (map g xs))
all_told f g xs k a b l was = as_is a b _ _ was (ap (λ ys. flat_map f (map g ys)) (take_all k xs l))

-- what is written from the beginning is all
pub written_all : {E : Type 0} (r : Result (Vec ℕ Global) E) (a b : Option (List ℕ)) (bytes : List ℕ) → a ≡ Some [] → Writes a b bytes → IfOk r (λ v. b ≡ Some v.items) → IfOk r (λ v. v.items ≡ bytes)
written_all (Ok v) a b bytes begun writes done = (subst (λ b. Writes (Some []) b bytes) done (subst (λ a. Writes a b bytes) begun writes)).is
written_all (Err e) a b bytes begun writes done = tt

-- ---- the writer itself

pub skipped : (short : Bool) (old bytes : List ℕ) → short ≡ true → Writes (text_by short old) (text_by short old) bytes
skipped true old bytes is = record { is = tt }
skipped false old bytes is = absurd (false≢true is)

pub added : {X E : Type 0} (short after : Bool) (r : Result X E) (old new bytes : List ℕ) → short ≡ false → after ≡ is_err r → new ≡ (if is_ok r then old ++ bytes else old) → Writes (text_by short old) (text_by after new) bytes
added true after r old new bytes fresh is extended = absurd (false≢true (sym fresh))
added false false (Ok u) old new bytes fresh is extended = record { is = extended }
added false true (Ok u) old new bytes fresh is extended = absurd (false≢true (sym is))
added false true (Err e) old new bytes fresh is extended = record { is = tt }
added false false (Err e) old new bytes fresh is extended = absurd (false≢true is)

pub text_is : (short : Bool) (bytes : List ℕ) → short ≡ false → text_by short bytes ≡ Some bytes
text_is false bytes is = refl
text_is true bytes is = absurd (false≢true (sym is))
