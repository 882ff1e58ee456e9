-- The metaslabs that a rebuild of a pool marks.
use Rattle.std.proofs.Common.{◌≡◌, ◌<◌, ◌≤◌, ◌+◌, ◌∙◌, inl, inr, ℕ, zero, suc, [], ◌∷◌, Bool, true, false, List, Some, arith, refl, sym, ap, subst, length, replicate, slice_index_or, slice_set}
use Rattle.std.specs.Prelude.{◌↔◌, slice_get}
use Rattle.std.proofs.lemmas.Bool.{cases_eq, true≢false}
use Rattle.std.proofs.lemmas.Option.{slice_get_within}
use Rattle.draid_rack.specs.declared.Rack as racks
use Rattle.draid_area.specs.declared.Area as areas
use Rattle.draid_segments.specs.Segments.{Pieces}
use Rattle.draid_shard.specs.Part.{Part}
use Rattle.draid_shard.specs.declared.shard.Shard.{Shard}
use Rattle.draid_session.specs.Holds.{view_of}
use Rattle.draid_session.specs.Passes as passes
use Rattle.draid_session.specs.State.{Metaslab, State}
use Rattle.draid_pool.specs.Metaslabs.{IsMetaslab}
use Rattle.draid_pool.specs.Pools.{Represents, part_in}
use Rattle.draid_pool.specs.declared.pool.Pool.{Pool}
use Rattle.draid_pool.proofs.Lists.{some_of}
use Rattle.draid_visits.specs.Steps.{IsRebuiltIn}
use Rattle.draid_visits.specs.Visiting.{AreAll, AreMarks, SeesMarks, SeesNone}
use Rattle.draid_visits.proofs.Found.{there_in}

-- none is marked at first
pub unmarked : (n k : ℕ) → slice_index_or (replicate n false) k false ≡ false
unmarked zero k = refl
unmarked (suc n) zero = refl
unmarked (suc n) (suc k) = unmarked n k

-- one was marked, and all are as before
pub mark_here : (marks : List Bool) (m : ℕ) → m < length marks → slice_index_or (slice_set marks m true) m false ≡ true
mark_here [] m inside = absurd (omega (arith, inside))
mark_here (b ∷ marks) zero inside = refl
mark_here (b ∷ marks) (suc m) inside = mark_here marks m (omega (arith, inside))

pub mark_elsewhere : (marks : List Bool) (m k : ℕ) → (k ≡ m → ⊥) → slice_index_or (slice_set marks m true) k false ≡ slice_index_or marks k false
mark_elsewhere [] m k other = refl
mark_elsewhere (b ∷ marks) zero zero other = absurd (other refl)
mark_elsewhere (b ∷ marks) zero (suc k) other = refl
mark_elsewhere (b ∷ marks) (suc m) zero other = refl
mark_elsewhere (b ∷ marks) (suc m) (suc k) other = mark_elsewhere marks m k (λ same. other (ap suc same))

-- those from a number on
pub from_marked : (marks : List Bool) (first m : ℕ) → m < length marks → ((k : ℕ) → k < 64 → first ≤ k → k < m → slice_index_or marks k false ≡ true)
    → (k : ℕ) → k < 64 → first ≤ k → k < m + 1 → slice_index_or (slice_set marks m true) k false ≡ true
from_marked marks first m inside marked k low from below = elim (cases_eq k m) [
  | inl same ↦ subst (λ j. slice_index_or (slice_set marks m true) j false ≡ true) (sym same) (mark_here marks m inside)
  | inr other ↦ mark_elsewhere marks m k (λ same. omega (arith, same, other)) ∙ marked k low from (omega (arith, below, other))
]

pub from_only : (marks : List Bool) (first m : ℕ) → first ≤ m → ((k : ℕ) → slice_index_or marks k false ≡ true → first ≤ k) → (k : ℕ) → slice_index_or (slice_set marks m true) k false ≡ true → first ≤ k
from_only marks first m from only k is = elim (cases_eq k m) [
  | inl same ↦ omega (arith, same, from)
  | inr other ↦ only k (sym (mark_elsewhere marks m k (λ same. omega (arith, same, other))) ∙ is)
]

module _ {R A : Type 0} (rack : racks.Ghosts R) (area : areas.Ghosts A) where
  -- a mark says whether a metaslab is rebuilt, also by its states
  pub record Marked (shard : Shard R A) (mark : Bool) : Type 0 where
    pub is : (mark ≡ true) ↔ IsRebuiltIn shard
    pub seen : (part : Part) (pieces : Pieces) (x : Metaslab) → IsMetaslab rack area part pieces shard x → (mark ≡ true) ↔ passes.IsRebuilt part.geometry part.perms (view_of part.number x)

  abbrev pub MarkedUpto : Pool R A → List Bool → ℕ → Type 0
  MarkedUpto pool marks m = (k : ℕ) (shard : Shard R A) → k < m → slice_get pool.metaslabs.shards.items k ≡ Some shard → Marked shard (slice_index_or marks k false)

  abbrev pub MarkedAll : Pool R A → List Bool → Type 0
  MarkedAll pool marks = (k : ℕ) (shard : Shard R A) → slice_get pool.metaslabs.shards.items k ≡ Some shard → Marked shard (slice_index_or marks k false)

  pub marked_more : (pool : Pool R A) (marks : List Bool) (m : ℕ) (shard : Shard R A) → slice_get pool.metaslabs.shards.items m ≡ Some shard → Marked shard (slice_index_or marks m false) → MarkedUpto pool marks m
      → MarkedUpto pool marks (m + 1)
  marked_more pool marks m shard there own below k z less at = elim (cases_eq k m) [
    | inl same ↦
        subst (λ j. Marked z (slice_index_or marks j false)) (sym same)
        (subst (λ s. Marked s (slice_index_or marks m false)) (some_of (slice_get pool.metaslabs.shards.items m) shard z there (subst (λ j. slice_get pool.metaslabs.shards.items j ≡ Some z) same at)) own)
    | inr other ↦ below k z (omega (arith, less, other)) at
  ]

  -- all were looked at
  pub marked_all : (pool : Pool R A) (marks : List Bool) (m : ℕ) → length pool.metaslabs.shards.items ≤ m → MarkedUpto pool marks m → MarkedAll pool marks
  marked_all pool marks m end below k shard there = below k shard (let inside = slice_get_within pool.metaslabs.shards.items k shard there in omega (arith, inside, end)) there

  -- all are marked, or not
  pub are_marks : (pool : Pool R A) (marks : List Bool) → MarkedAll pool marks → AreMarks pool marks
  are_marks pool marks all k shard there = record {
    some = λ set. (all k shard there).is.0 set;
    none = λ unset rebuilt. true≢false (sym ((all k shard there).is.1 rebuilt) ∙ unset);
  }

  pub sees_marks : (pool : Pool R A) (marks : List Bool) → MarkedAll pool marks
      → (x : State) → Represents rack area pool x → SeesMarks x marks
  sees_marks pool marks all x r k y at =
      let z = there_in rack area pool x r k y at in
      (all k z.0 z.1).seen (part_in x k) (r.stands.pieces k) y (r.stands.each k z.0 y z.1 at)

  -- none is
  pub none_rebuilt : (pool : Pool R A) (marks : List Bool) → MarkedAll pool marks → ((k : ℕ) → slice_index_or marks k false ≡ false) → AreAll pool (λ shard. IsRebuiltIn shard → ⊥)
  none_rebuilt pool marks all none k shard there rebuilt = true≢false (sym ((all k shard there).is.1 rebuilt) ∙ none k)

  pub sees_none : (pool : Pool R A) (marks : List Bool) → MarkedAll pool marks → ((k : ℕ) → slice_index_or marks k false ≡ false) → (x : State) → Represents rack area pool x → SeesNone x
  sees_none pool marks all none x r k y at rebuilt = true≢false (sym ((sees_marks pool marks all x r k y at).1 rebuilt) ∙ none k)
