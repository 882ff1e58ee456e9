-- What a sync keeps of the pass of each metaslab.
use Rattle.std.specs.Prelude.{◌≡◌, ⊤, Option, Some, None}
use Rattle.draid_pass.specs.declared.pass.Pass.{Pass}
use Rattle.draid_shard.specs.declared.shard.Shard.{Shard}
use Rattle.draid_pool.specs.Keeping.{KeepsEach}
use Rattle.draid_pool.specs.declared.pool.Pool.{Pool}

-- a pass is the one that it was, where it was; it may have lost targets, and counted errors
pub record IsSamePass (old new : Pass) : Type 0 where
  pub number_is : new.number ≡ old.number
  pub kind_is : new.kind ≡ old.kind
  pub max_is : new.max ≡ old.max
  pub at_is : new.«at» ≡ old.«at»
  pub running_is : new.running ≡ old.running

-- there is one where there was one, and it is that one
abbrev pub KeepsPass : Option Pass → Option Pass → Type 0
KeepsPass None None = ⊤
KeepsPass None (Some new) = ⊥
KeepsPass (Some old) None = ⊥
KeepsPass (Some old) (Some new) = IsSamePass old new

-- so in each metaslab
abbrev pub KeepsPasses : {R A : Type 0} → Pool R A → Pool R A → Type 0
KeepsPasses {R} {A} old new = KeepsEach (λ (before : Shard R A) after. KeepsPass before.pass after.pass) old new
