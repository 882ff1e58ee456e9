-- What a rebuild or a scrub of a pool finds as it looks at all metaslabs.
use Rattle.std.proofs.Common.{◌≡◌, ◌<◌, ◌≤◌, ◌+◌, ◌∙◌, [], ◌∷◌, inl, inr, ℕ, zero, suc, Bool, List, Option, Some, None, arith, refl, sym, ap, subst, length}
use Rattle.std.specs.Prelude.{IfSome, IsSomeAnd, option_map, slice_get}
use Rattle.std.proofs.lemmas.Option.{slice_get_within}
use Rattle.draid_rack.specs.declared.Rack as racks
use Rattle.draid_area.specs.declared.Area as areas
use Rattle.draid_machine.specs.State as machine
use Rattle.draid_machine.proofs.Small.{none_some, some_injective}
use Rattle.draid_names.specs.declared.pass_kind.PassKind.{PassKind}
use Rattle.draid_names.specs.declared.pass_kind.PassKind.TheVariants.{Heal, Rebuild}
use Rattle.draid_pass.specs.declared.pass.Pass.{Pass}
use Rattle.draid_slots.specs.States.{pass_in}
use Rattle.draid_shard.specs.declared.shard.Shard.{Shard}
use Rattle.draid_session.specs.Holds.{view_of}
use Rattle.draid_session.specs.Passes as passes
use Rattle.draid_session.specs.Phases.{NoneOf}
use Rattle.draid_session.specs.State.{Metaslab, State}
use Rattle.draid_pool.specs.Metaslabs.{IsMetaslab}
use Rattle.draid_pool.specs.Pools.{Represents, part_in}
use Rattle.draid_pool.specs.Views.{seen_at}
use Rattle.draid_pool.specs.declared.pool.Pool.{Pool}
use Rattle.draid_pool.proofs.Lists.{present, some_of}
use Rattle.draid_pool.proofs.Looking.{none_seen, not_none, seen_there}
use Rattle.draid_pool.proofs.SyncSteps.{Below, below_all, below_more}
use Rattle.draid_visits.specs.Rebuilding.{HasPass, IsLowestPass}
use Rattle.draid_visits.specs.Steps.{IsRebuiltIn}
use Rattle.draid_visits.specs.Visiting.{AreAll, HasMark, IsOnly, SeesMarks, SeesNone}

pub none_before : (m : ℕ) → m ≡ 0 + m
none_before m = omega arith

-- ---- one metaslab

other_kinds : (kind : PassKind) → passes.other_kind kind ≡ kind → ⊥
other_kinds Rebuild is = absurd (cc)
other_kinds Heal is = absurd (cc)

-- it has none of a kind
pub none_of : {R A : Type 0} (kind : PassKind) (shard : Shard R A) (number : ℕ) → IsOnly (passes.other_kind kind) shard → HasPass kind number shard → ⊥
none_of kind shard number none has = by shard.pass none has.has
  where
    by : (o : Option Pass) → IfSome o (λ (p : Pass). p.kind ≡ passes.other_kind kind) → o ≡ Some has.pass → ⊥
    by None none is = absurd (cc)
    by (Some p) none is = other_kinds kind (sym none ∙ (ap (λ (q : Pass). q.kind) (some_injective p has.pass is) ∙ has.kind_is))

-- nor a rebuild, so it has no pass
pub no_pass : {R A : Type 0} (shard : Shard R A) → IsOnly Rebuild shard → (IsRebuiltIn shard → ⊥) → shard.pass ≡ None
no_pass {R} {A} shard none rebuilt = by shard.pass none (λ is. rebuilt (inl is))
  where
    by : (o : Option Pass) → IfSome o (λ (p : Pass). p.kind ≡ Rebuild) → (IsSomeAnd o (λ (p : Pass). p.kind ≡ Rebuild) → ⊥) → o ≡ None
    by None none rebuild = refl
    by (Some p) none rebuild = absurd (rebuild none)

-- the first so many have none
abbrev pub OnlyBelow : {R A : Type 0} → PassKind → List (Shard R A) → ℕ → Type 0
OnlyBelow {R} {A} kind shards m = Below (λ (shard : Shard R A). IsOnly kind shard) shards m

pub pass_there : {R A : Type 0} (kind : PassKind) (pool : Pool R A) (m number : ℕ) (shard : Shard R A) → slice_get pool.metaslabs.shards.items m ≡ Some shard → HasPass kind number shard
    → OnlyBelow (passes.other_kind kind) pool.metaslabs.shards.items m → IsLowestPass kind m number pool
pass_there kind pool m number shard there has below = record { shard = shard; there = there; has = has; lower = λ k n other less at own. none_of kind other n (below k other less at) own }

pub only_more : {R A : Type 0} (kind : PassKind) (shards : List (Shard R A)) (m : ℕ) (shard : Shard R A) → slice_get shards m ≡ Some shard → IsOnly kind shard → OnlyBelow kind shards m → OnlyBelow kind shards (m + 1)
only_more {R} {A} kind shards m shard there none below = below_more (λ (s : Shard R A). IsOnly kind s) shards m shard there none below

pub only_all : {R A : Type 0} (kind : PassKind) (pool : Pool R A) (m : ℕ) → length pool.metaslabs.shards.items ≤ m → OnlyBelow kind pool.metaslabs.shards.items m → AreAll pool (IsOnly kind)
only_all {R} {A} kind pool m end below = below_all (λ (s : Shard R A). IsOnly kind s) pool.metaslabs.shards.items m end below

module _ {R A : Type 0} (rack : racks.Ghosts R) (area : areas.Ghosts A) where
  -- the shard of a metaslab
  pub there_in : (pool : Pool R A) (x : State) (r : Represents rack area pool x) (m : ℕ) (y : Metaslab) → slice_get x.metaslabs m ≡ Some y → (shard : Shard R A) × (slice_get pool.metaslabs.shards.items m ≡ Some shard)
  there_in pool x r m y at =
      present pool.metaslabs.shards.items m (let inside = slice_get_within x.metaslabs m y at in let many = r.stands.shards in omega (arith, inside, many))

  -- and the metaslab of a shard
  pub seen_in : (pool : Pool R A) (x : State) (r : Represents rack area pool x) (m : ℕ) → m < length pool.metaslabs.shards.items → (y : Metaslab) × (slice_get x.metaslabs m ≡ Some y)
  seen_in pool x r m inside = present x.metaslabs m (let many = r.stands.shards in omega (arith, inside, many))

module _ {R A : Type 0} (rack : racks.Ghosts R) (area : areas.Ghosts A) (kind : PassKind) where
  -- by its state
  pub kind_unseen : (x : State) (m : ℕ) (shard : Shard R A) (y : Metaslab) (pieces : _) → IsMetaslab rack area (part_in x m) pieces shard y → IsOnly (passes.other_kind kind) shard → (n : ℕ)
      → passes.HasPassOf kind (view_of n y) → ⊥
  kind_unseen x m shard y pieces is none n (p, at, kind_is) = by shard.pass none (sym is.stands.is_in.pass ∙ at)
    where
      by : (o : Option Pass) → IfSome o (λ (q : Pass). q.kind ≡ passes.other_kind kind) → option_map (pass_in shard.slots) o ≡ Some p → ⊥
      by None none is = absurd (cc)
      by (Some q) none is = other_kinds kind (sym none ∙ (ap (λ (r : machine.Pass). r.kind) (some_injective (pass_in shard.slots q) p is) ∙ kind_is))

  pub none_seen_of : (pool : Pool R A) (x : State) → Represents rack area pool x → AreAll pool (IsOnly (passes.other_kind kind)) → NoneOf (passes.HasPassOf kind) (seen_at 0 x.metaslabs)
  none_seen_of pool x r alone =
      none_seen (passes.HasPassOf kind) 0 x.metaslabs
      (λ k y at has.
      (let z = there_in rack area pool x r k y at in
      kind_unseen x k z.0 y (r.stands.pieces k) (r.stands.each k z.0 y z.1 at) (alone k z.0 z.1) (0 + k) has))

  -- the lowest is seen
  pub lowest_seen : (m k n : ℕ) (ys : List Metaslab) (y : Metaslab) (p : machine.Pass) → slice_get ys k ≡ Some y → y.world.core.pass ≡ Some p → p.kind ≡ kind → n ≡ p.number
      → ((j : ℕ) (z : Metaslab) → j < k → slice_get ys j ≡ Some z → passes.HasPassOf kind (view_of (m + j) z) → ⊥) → passes.IsLowestPassOf kind (seen_at m ys) (m + k) n
  unfolding seen_at
  lowest_seen m k n [] y p at has kind_is number none = absurd (none_some (slice_get [] k) y refl at)
  lowest_seen m zero n (z ∷ ys) y p at has kind_is number none =
      inl (p, ap (λ (u : Metaslab). u.world.core.pass) (some_of (Some z) z y refl at) ∙ has, kind_is, (let same : m + 0 ≡ m = omega arith in same), number)
  lowest_seen m (suc k) n (z ∷ ys) y p at has kind_is number none = inr (
    λ is. none 0 z (omega arith) refl (subst (λ j. passes.HasPassOf kind (view_of j z)) (let same : m ≡ m + 0 = omega arith in same) is),
    subst (λ j. passes.IsLowestPassOf kind (seen_at (m + 1) ys) j n) (let same : m + 1 + k ≡ m + suc k = omega arith in same)
        (lowest_seen (m + 1) k n ys y p at has kind_is number (λ j u less there is. none (suc j) u (omega (arith, less)) there (subst (λ i. passes.HasPassOf kind (view_of i u)) (let same : m + 1 + j ≡ m + suc j = omega arith in same) is))),
  )

  -- a metaslab below it has none
  pub lower_unseen : (pool : Pool R A) (x : State) (metaslab number : ℕ) → Represents rack area pool x → IsLowestPass kind metaslab number pool → (j : ℕ) (u : Metaslab) → j < metaslab → slice_get x.metaslabs j ≡ Some u
      → passes.HasPassOf kind (view_of (0 + j) u) → ⊥
  lower_unseen pool x metaslab number r low j u less at (p, pass, kind_is) =
      let z = there_in rack area pool x r j u at in
      by z.0 z.1 z.0.pass refl (sym (r.stands.each j z.0 u z.1 at).stands.is_in.pass ∙ pass)
    where
      by : (s : Shard R A) → slice_get pool.metaslabs.shards.items j ≡ Some s → (o : Option Pass) → s.pass ≡ o → option_map (pass_in s.slots) s.pass ≡ Some p → ⊥
      by s there None own is = absurd (let no : option_map (pass_in s.slots) None ≡ Some p = sym (ap (option_map (pass_in s.slots)) own) ∙ is in cc)
      by s there (Some q) own is =
          let same : Some (pass_in s.slots q) ≡ Some p = sym (ap (option_map (pass_in s.slots)) own) ∙ is in
          low.lower j q.number s less there (record { pass = q; has = own; kind_is = ap (λ (w : machine.Pass). w.kind) (some_injective (pass_in s.slots q) p same) ∙ kind_is; number_is = refl })

  pub sees_lowest : (pool : Pool R A) (x : State) (metaslab number : ℕ) → Represents rack area pool x → IsLowestPass kind metaslab number pool → passes.IsLowestPassOf kind (seen_at 0 x.metaslabs) metaslab number
  sees_lowest pool x metaslab number r low =
      let z = seen_in rack area pool x r metaslab (slice_get_within pool.metaslabs.shards.items metaslab low.shard low.there) in
      let is : IsMetaslab rack area (part_in x metaslab) (r.stands.pieces metaslab) low.shard z.0 = r.stands.each metaslab low.shard z.0 low.there z.1 in
      subst (λ k. passes.IsLowestPassOf kind (seen_at 0 x.metaslabs) k number) (sym (none_before metaslab))
      (lowest_seen 0 metaslab number x.metaslabs z.0 (pass_in low.shard.slots low.has.pass) z.1 (is.stands.is_in.pass ∙ ap (option_map (pass_in low.shard.slots)) low.has.has) low.has.kind_is low.has.number_is
      (lower_unseen pool x metaslab number r low))

module _ {R A : Type 0} (rack : racks.Ghosts R) (area : areas.Ghosts A) where
  -- ---- marks

  -- one is rebuilt
  pub some_rebuilt : (pool : Pool R A) (x : State) (marks : List Bool) → Represents rack area pool x → SeesMarks x marks → HasMark pool marks → NoneOf (passes.IsRebuilt x.geometry x.perms) (seen_at 0 x.metaslabs) → ⊥
  some_rebuilt pool x marks r sees has none =
      let z = seen_in rack area pool x r has.metaslab has.inside in
      not_none (passes.IsRebuilt x.geometry x.perms) (seen_at 0 x.metaslabs) (view_of (0 + has.metaslab) z.0) (seen_there 0 has.metaslab x.metaslabs z.0 z.1) (subst (λ k. passes.IsRebuilt x.geometry x.perms (view_of k z.0)) (none_before has.metaslab) ((sees has.metaslab z.0 z.1).0 has.is)) none

-- none is
pub all_unseen : (x : State) → SeesNone x → NoneOf (passes.IsRebuilt x.geometry x.perms) (seen_at 0 x.metaslabs)
all_unseen x none = none_seen (passes.IsRebuilt x.geometry x.perms) 0 x.metaslabs (λ k y at is. none k y at (subst (λ j. passes.IsRebuilt x.geometry x.perms (view_of j y)) (sym (none_before k)) is))
