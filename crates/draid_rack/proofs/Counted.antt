-- How the counts of failures go.
use Rattle.std.proofs.Common.{arith, refl, ap, ◌∙◌, ◌≡◌, ◌≤◌, ◌+◌, ◌-◌, ◌^◌, min, true, ℕ, Option, Some, None, Result, Ok, Err, OnErr}
use Rattle.std.specs.BTreeMap.{BTreeMap}
use Rattle.draid_rack.specs.declared.leaf.Leaf.{Leaf}
use Rattle.draid_rack.specs.Leaves.{CountsFault, faults_by, faults_in, leaf_at}
use Rattle.draid_rack.specs.Rack.{Counts, CountsOnly}

-- a fact that holds also where the answer is Err
pub on_err : {T E : Type 0} (r : Result T E) (P : Type 0) → P → OnErr r P
on_err (Ok v) P is = tt
on_err (Err e) P is = is

-- the count of one leaf rose
pub record Rises (leaf : ℕ) (old new : BTreeMap ℕ Leaf) : Type 0 where
  pub later : (m : ℕ) → faults_in (leaf_at old m) ≤ faults_in (leaf_at new m)
  pub own : faults_in (leaf_at new leaf) ≡ min (faults_in (leaf_at old leaf) + 1) (2 ^ 64 - 1)
  pub others : (m : ℕ) → (m ≡ leaf → ⊥) → faults_in (leaf_at new m) ≡ faults_in (leaf_at old m)

pub rises : (leaf : ℕ) (old new : BTreeMap ℕ Leaf) → CountsFault leaf old new → Rises leaf old new
rises leaf old new h = record { later = h.later; own = h.own; others = h.others }

-- after a change that left all counts
pub rises_after : (leaf : ℕ) (old mid new : BTreeMap ℕ Leaf) → ((m : ℕ) → faults_in (leaf_at mid m) ≡ faults_in (leaf_at old m)) → CountsFault leaf mid new → Rises leaf old new
rises_after leaf old mid new same h = record {
  later = λ m. let e = same m in let r = h.later m in omega (arith, e, r);
  own = let e = same leaf in h.own ∙ ap (λ n. min (n + 1) (2 ^ 64 - 1)) e;
  others = λ m other. h.others m other ∙ same m;
}

module _ (leaf own : ℕ) (old new : BTreeMap ℕ Leaf) (h : Rises leaf old new) where
  others : (w : Option ℕ) → (w ≡ Some leaf → ⊥) → faults_by new own w ≡ faults_by old own w
  others None other = refl
  others (Some m) other = h.others m (λ is. other (ap Some is))

  pub only_leaf : CountsOnly (Some leaf) (true ≡ true) (faults_by old own) (faults_by new own)
  only_leaf = record { own = record { risen = λ failed. h.own; same = λ ok. absurd (ok refl) }; others = others }

  later : (w : Option ℕ) → faults_by old own w ≤ faults_by new own w
  later None = omega arith
  later (Some m) = h.later m

  pub counts_leaf : {E : Type 0} (e : E) → Counts {E = E} (Some leaf) (Err e) (faults_by old own) (faults_by new own)
  counts_leaf e = record { later = later; cause = omega (arith, h.own) }
