-- The metaslabs behind which a rebuild or a scrub of a pool leaves no pass.
use Rattle.std.proofs.Common.{◌≡◌, ◌<◌, ◌≤◌, ◌+◌, ◌⊎◌, ◌∙◌, inl, inr, ℕ, Bool, true, false, List, Option, Some, None, arith, sym, ap, subst, length, slice_index_or}
use Rattle.std.specs.Prelude.{IfSome, IsSome, slice_get}
use Rattle.std.proofs.lemmas.Bool.{cases_eq, true≢false}
use Rattle.std.proofs.lemmas.Option.{slice_get_within}
use Rattle.draid_names.specs.declared.pass_kind.PassKind.{PassKind}
use Rattle.draid_pass.specs.declared.pass.Pass.{Pass}
use Rattle.draid_shard.specs.declared.shard.Shard.{Shard}
use Rattle.draid_pool.specs.declared.pool.Pool.{Pool}
use Rattle.draid_pool.proofs.Lists.{present}
use Rattle.draid_pool.specs.Passes.{KeepsPass}
use Rattle.draid_visits.specs.Steps.{IsRunningOf}
use Rattle.draid_visits.specs.Visiting.{AreAll, AreToVisit, BeganAt, HasMark, IsAt, IsOnly, KeepsOthers, NoPasses, RunsPass}
use Rattle.draid_visits.specs.declared.progress.Progress.{Progress}
use Rattle.draid_visits.specs.declared.progress.Visit.TheVariants as visit
use Rattle.draid_visits.proofs.Kept.{none_kept}

-- none of the first so many is marked
abbrev pub NoneUpto : List Bool → ℕ → Type 0
NoneUpto marks m = (k : ℕ) → k < m → slice_index_or marks k false ≡ false

-- none of the first so many has a pass, nor one that isn't marked
abbrev pub IsIdleUpto : {R A : Type 0} → List Bool → ℕ → Pool R A → Type 0
IsIdleUpto {R} {A} marks m pool = (k : ℕ) (shard : Shard R A) → slice_get pool.metaslabs.shards.items k ≡ Some shard → (k < m) ⊎ (slice_index_or marks k false ≡ false) → shard.pass ≡ None

pub none_more : (marks : List Bool) (m : ℕ) → NoneUpto marks m → slice_index_or marks m false ≡ false → NoneUpto marks (m + 1)
none_more marks m none here k less = elim (cases_eq k m) [
  | inl same ↦ ap (λ j. slice_index_or marks j false) same ∙ here
  | inr other ↦ none k (omega (arith, less, other))
]

-- a pass stays of its kind
pub kind_kept : (kind : PassKind) (a b : Option Pass) → KeepsPass a b → IfSome a (λ (p : Pass). p.kind ≡ kind) → IfSome b (λ (p : Pass). p.kind ≡ kind)
kind_kept kind None None keeps none = none
kind_kept kind None (Some q) keeps none = absurd keeps
kind_kept kind (Some p) None keeps none = tt
kind_kept kind (Some p) (Some q) keeps none = keeps.kind_is ∙ none

module _ {R A : Type 0} where
  pub idle_first : (kind : PassKind) (marks : List Bool) (pool : Pool R A) → AreToVisit kind pool marks → IsIdleUpto marks 0 pool
  idle_first kind marks pool are k shard there (inl less) = absurd (omega (arith, less))
  idle_first kind marks pool are k shard there (inr none) = (are k shard there).none none

  -- it isn't marked
  pub idle_passed : (marks : List Bool) (m : ℕ) (pool : Pool R A) → slice_index_or marks m false ≡ false → IsIdleUpto marks m pool → IsIdleUpto marks (m + 1) pool
  idle_passed marks m pool none idle k shard there (inr own) = idle k shard there (inr own)
  idle_passed marks m pool none idle k shard there (inl less) = elim (cases_eq k m) [
    | inl same ↦ idle k shard there (inr (ap (λ j. slice_index_or marks j false) same ∙ none))
    | inr other ↦ idle k shard there (inl (omega (arith, less, other)))
  ]

  before_in : (old new : Pool R A) (k : ℕ) (shard : Shard R A) → length new.metaslabs.shards.items ≡ length old.metaslabs.shards.items → slice_get new.metaslabs.shards.items k ≡ Some shard
      → (before : Shard R A) × (slice_get old.metaslabs.shards.items k ≡ Some before)
  before_in old new k shard many there = present old.metaslabs.shards.items k (let inside = slice_get_within new.metaslabs.shards.items k shard there in omega (arith, inside, many))

  -- its visit is over
  pub idle_visited : (marks : List Bool) (m : ℕ) (old new : Pool R A) → length new.metaslabs.shards.items ≡ length old.metaslabs.shards.items → KeepsOthers m old new → IsAt new m (λ shard. shard.pass ≡ None)
      → IsIdleUpto marks m old → IsIdleUpto marks (m + 1) new
  idle_visited marks m old new many others none idle k shard there which = elim (cases_eq k m) [
    | inl same ↦ none shard (subst (λ j. slice_get new.metaslabs.shards.items j ≡ Some shard) same there)
    | inr other ↦
        let z = before_in old new k shard many there in
        none_kept z.0.pass shard.pass (others k z.0 shard (λ same. omega (arith, same, other)) z.1 there) (idle k z.0 z.1 (earlier which (λ same. omega (arith, same, other))))
  ]
    where
      earlier : (k < m + 1) ⊎ (slice_index_or marks k false ≡ false) → (k ≡ m → ⊥) → (k < m) ⊎ (slice_index_or marks k false ≡ false)
      earlier (inl less) apart = elim (cases_eq k m) [ inl same ↦ absurd (apart same) | inr other ↦ inl (omega (arith, less, other)) ]
      earlier (inr own) apart = inr own

  -- and none a pass of another kind
  no_pass_only : (kind : PassKind) (shard : Shard R A) → shard.pass ≡ None → IsOnly kind shard
  no_pass_only kind shard none = subst (λ o. IfSome o (λ (p : Pass). p.kind ≡ kind)) (sym none) tt

  -- one that paused runs
  pub runs_there : (kind : PassKind) (pool : Pool R A) (m : ℕ) → m < length pool.metaslabs.shards.items → IsAt pool m (λ shard. (pass : Pass) × (shard.pass ≡ Some pass) × IsRunningOf kind pass) → RunsPass kind pool
  runs_there kind pool m inside runs =
      let z = present pool.metaslabs.shards.items m inside in
      let own = runs z.0 z.1 in
      record { metaslab = m; shard = z.0; there = z.1; pass = own.0; has = own.1; runs = own.2 }

  -- none has one in the end
  pub idle_all : (marks : List Bool) (m : ℕ) (pool : Pool R A) → length pool.metaslabs.shards.items ≤ m → IsIdleUpto marks m pool → NoPasses pool
  idle_all marks m pool end idle k shard there = idle k shard there (inl (let inside = slice_get_within pool.metaslabs.shards.items k shard there in omega (arith, inside, end)))

  -- one was marked
  pub began_all : (marks : List Bool) (m : ℕ) (old pool : Pool R A) (p : Progress) → length old.metaslabs.shards.items ≤ m → HasMark old marks → IsSome p.from ⊎ ((pool ≡ old) × NoneUpto marks m) → IsSome p.from
  began_all marks m old pool p end has (inl some) = some
  began_all marks m old pool p end has (inr none) = absurd (true≢false (sym has.is ∙ none.1 has.metaslab (let inside = has.inside in omega (arith, inside, end))))

  -- the first that is marked begins
  pub began_more : (kind : PassKind) (marks : List Bool) (m : ℕ) (old pool : Pool R A) (was now : Progress) → m < length old.metaslabs.shards.items → AreToVisit kind old marks → slice_index_or marks m false ≡ true
      → IsSome was.from ⊎ ((pool ≡ old) × NoneUpto marks m) → BeganAt kind pool m was visit.Over now → (IsSome was.from → IsSome now.from) → IsSome now.from
  began_more kind marks m old pool was now inside are mark before (inl some) on = some
  began_more kind marks m old pool was now inside are mark (inl some) (inr none) on = on some
  began_more kind marks m old pool was now inside are mark (inr same) (inr none) on =
      let z = present old.metaslabs.shards.items m inside in
      absurd (none.2 z.0 (ap (λ (q : Pool R A). slice_get q.metaslabs.shards.items m) same.0 ∙ z.1) ((are m z.0 z.1).some mark none.1))

  -- this one isn't
  pub began_passed : (marks : List Bool) (m : ℕ) (old pool : Pool R A) (p : Progress) → slice_index_or marks m false ≡ false → IsSome p.from ⊎ ((pool ≡ old) × NoneUpto marks m)
      → IsSome p.from ⊎ ((pool ≡ old) × NoneUpto marks (m + 1))
  began_passed marks m old pool p none (inl some) = inl some
  began_passed marks m old pool p none (inr before) = inr (before.0, none_more marks m before.1 none)

  pub alone_visited : (kind : PassKind) (m : ℕ) (old new : Pool R A) → length new.metaslabs.shards.items ≡ length old.metaslabs.shards.items → KeepsOthers m old new → IsAt new m (λ shard. shard.pass ≡ None)
      → AreAll old (IsOnly kind) → AreAll new (IsOnly kind)
  alone_visited kind m old new many others none alone k shard there = elim (cases_eq k m) [
    | inl same ↦ no_pass_only kind shard (none shard (subst (λ j. slice_get new.metaslabs.shards.items j ≡ Some shard) same there))
    | inr other ↦
        let z = before_in old new k shard many there in
        kind_kept kind z.0.pass shard.pass (others k z.0 shard (λ same. omega (arith, same, other)) z.1 there) (alone k z.0 z.1)
  ]
