-- Looks at all metaslabs of a pool, which leave them as they are.
use Rattle.std.proofs.Common.{◌≡◌, ◌<◌, ◌+◌, ◌++◌, ◌∙◌, [], ◌∷◌, ℕ, zero, suc, List, Some, Contains, arith, refl, sym, ap, subst, get_or, length, length-append}
use Rattle.std.specs.Prelude.{slice_get}
use Rattle.std.proofs.lemmas.List.{append_assoc}
use Rattle.draid_machine.proofs.Small.{none_some}
use Rattle.draid_session.specs.Follows.{Follows}
use Rattle.draid_session.specs.Holds.{Hold, Looked, On, View, view_of}
use Rattle.draid_session.specs.Looks.{LooksFrom}
use Rattle.draid_session.specs.Phases.{NoneOf}
use Rattle.draid_session.specs.State.{Metaslab, State}
use Rattle.draid_pool.specs.Views.{seen_at}
use Rattle.draid_pool.proofs.Lists.{set_back}

-- a look at each metaslab from a number on
unfoldable pub looks_at : ℕ → List Metaslab → List Hold
looks_at m [] = []
looks_at m (y ∷ ys) = On (view_of m y) Looked ∷ looks_at (m + 1) ys

pub looked : (m : ℕ) (ys : List Metaslab) → LooksFrom m (length ys) (looks_at m ys) (seen_at m ys)
unfolding looks_at seen_at
looked m [] = (refl, refl)
looked m (y ∷ ys) = (On (view_of m y) Looked, looks_at (m + 1) ys, view_of m y, seen_at (m + 1) ys, refl, refl, record { looked = refl; there = refl }, looked (m + 1) ys)

at_end : {A : Type 0} (xs : List A) (x : A) (ys : List A) → slice_get (xs ++ x ∷ ys) (length xs) ≡ Some x
at_end [] x ys = refl
at_end (z ∷ xs) x ys = at_end xs x ys

pub changes_none : (x : State) (front ys : List Metaslab) (m : ℕ) → x.metaslabs ≡ front ++ ys → m ≡ length front → Follows (looks_at m ys) x x
unfolding looks_at
changes_none x front [] m all at = refl
changes_none x front (y ∷ ys) m all at = (
  x,
  record {
    before = y;
    after = y;
    there = there;
    sees = refl;
    acts = refl;
    made = sym (ap (λ zs. record x { metaslabs = zs }) (set_back x.metaslabs m y there));
  },
  changes_none x (front ++ y ∷ []) ys (m + 1) (all ∙ sym (append_assoc front (y ∷ []) ys)) (let long = length-append front (y ∷ []) in omega (arith, at, long)),
)
  where
    there : slice_get x.metaslabs m ≡ Some y
    there = ap (λ zs. slice_get zs m) all ∙ (ap (slice_get (front ++ y ∷ ys)) at ∙ at_end front y ys)

-- ---- what is seen

none_before : (m : ℕ) → m + 0 ≡ m
none_before m = omega arith

one_later : (m k : ℕ) → m + suc k ≡ m + 1 + k
one_later m k = omega arith

-- none of it is so, where no metaslab is
pub none_seen : (P : View → Type 0) (m : ℕ) (ys : List Metaslab) → ((k : ℕ) (y : Metaslab) → slice_get ys k ≡ Some y → P (view_of (m + k) y) → ⊥) → NoneOf P (seen_at m ys)
unfolding seen_at
none_seen P m [] none = tt
none_seen P m (y ∷ ys) none = (
  λ is. none 0 y refl (subst (λ k. P (view_of k y)) (sym (none_before m)) is),
  none_seen P (m + 1) ys (λ k z at is. none (suc k) z at (subst (λ j. P (view_of j z)) (sym (one_later m k)) is)),
)

-- each metaslab is seen
pub seen_there : (m k : ℕ) (ys : List Metaslab) (y : Metaslab) → slice_get ys k ≡ Some y → Contains (seen_at m ys) (view_of (m + k) y)
unfolding seen_at
seen_there m k [] y at = absurd (none_some (slice_get [] k) y refl at)
seen_there m zero (z ∷ ys) y at =
    (let same : z ≡ y = cc in subst (λ j. Contains (view_of m z ∷ seen_at (m + 1) ys) (view_of j y)) (sym (none_before m)) (0, (omega arith), ap (view_of m) same))
seen_there m (suc k) (z ∷ ys) y at =
    let rest = seen_there (m + 1) k ys y at in
    subst (λ j. Contains (view_of m z ∷ seen_at (m + 1) ys) (view_of j y)) (sym (one_later m k)) (suc rest.0, (let less = rest.1 in omega (arith, less)), rest.2)

-- one that is so
not_none_at : (P : View → Type 0) (views : List View) (v : View) (k : ℕ) → k < length views → get_or views k v ≡ v → P v → NoneOf P views → ⊥
not_none_at P [] v k less at is none = omega (arith, less)
not_none_at P (z ∷ views) v zero less at is none = none.0 (subst P (sym at) is)
not_none_at P (z ∷ views) v (suc k) less at is none = not_none_at P views v k (omega (arith, less)) at is none.1

pub not_none : (P : View → Type 0) (views : List View) (v : View) → Contains views v → P v → NoneOf P views → ⊥
not_none P views v c is none = not_none_at P views v c.0 c.1 c.2 is none
