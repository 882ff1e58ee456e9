-- One hold of metaslabs that nobody else holds.
use Rattle.std.proofs.Common.{◌≡◌, ◌∙◌, ℕ, Bool, false, List, Option, Some, refl, sym, subst, slice_set}
use Rattle.std.specs.Prelude.{slice_get}
use Rattle.draid_rack.specs.declared.Rack as racks
use Rattle.draid_area.specs.declared.Area as areas
use Rattle.draid_shard.specs.Fits.{Valid}
use Rattle.draid_shard.specs.declared.shard.Shard.{Shard}
use Rattle.draid_pool.specs.Drifts.{Drifts}
use Rattle.draid_pool.specs.Holding.{Holds, MayHold}
use Rattle.draid_pool.proofs.Drifting.{drifts_not}
use Rattle.draid_pool.proofs.Places.{get_set}

pub some_same : {A : Type 0} (a b : A) → Some a ≡ Some b → a ≡ b
some_same a b e = cc

module _ {R A O : Type 0} (rack : racks.Ghosts R) (area : areas.Ghosts A) (needs : O → Shard R A → Type 0) (relates : O → Shard R A → O → Shard R A → Type 0) (concerns : O → Option ℕ) where
  pub owned_needs : (owns : ℕ → Bool) (shards : List (Shard R A)) (m : ℕ) (op : O) (before : Shard R A) → MayHold rack area needs relates concerns false owns (λ k. slice_get shards k) m op → slice_get shards m ≡ Some before → needs op before
  owned_needs owns shards m op before may there =
      let same : may.shard ≡ before = some_same may.shard before (sym may.there ∙ there) in
      let v : Valid rack before = subst (λ (c : Shard R A). Valid rack c) same may.valid in
      may.ready before (subst (λ (c : Shard R A). Drifts rack area false owns c before) (sym same) (drifts_not rack area owns before v))

  pub owned_holds : (owns : ℕ → Bool) (shards : List (Shard R A)) (m : ℕ) (op done : O) (before after : Shard R A) → MayHold rack area needs relates concerns false owns (λ k. slice_get shards k) m op → slice_get shards m ≡ Some before
      → relates op before done after → (Same : Type 0) → (after ≡ before → Same)
      → Holds rack area relates concerns (λ b a. (slice_get shards m ≡ Some b) × (slice_set shards m after ≡ slice_set shards m a) × (a ≡ b → Same)) false owns (λ k. slice_get shards k) m op done (λ k. slice_get (slice_set shards m after) k)
  owned_holds owns shards m op done before after may there related Same same_then =
      let same : may.shard ≡ before = some_same may.shard before (sym may.there ∙ there) in
      let v : Valid rack before = subst (λ (c : Shard R A). Valid rack c) same may.valid in
      record {
        shard = before;
        there = there;
        before = before;
        after = after;
        drifts = drifts_not rack area owns before v;
        related = related;
        keeps = may.keeps before after done (owned_needs owns shards m op before may there) related;
        is = λ k. get_set shards m k before after there;
        went = (there, refl, same_then);
      }
