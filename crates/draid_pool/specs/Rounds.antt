-- Rounds over metaslabs: one hold of each of the first so many, in ascending order, and others may hold them in between.
use Rattle.std.specs.Prelude.{◌≡◌, ◌==◌, ◌<◌, ◌≤◌, ◌+◌, ℕ, zero, suc, Bool, Option, Some, None, if◌then◌else◌}
use Rattle.draid_rack.specs.declared.Rack as racks
use Rattle.draid_area.specs.declared.Area as areas
use Rattle.draid_shard.specs.declared.shard.Shard.{Shard}
use Rattle.draid_pool.specs.Drifts.{Drifts}

-- each of the first so many metaslabs is so, as it was left
abbrev pub EachIs : {R A : Type 0} → ℕ → (Shard R A → Type 0) → (ℕ → Option (Shard R A)) → Type 0
EachIs {R} {A} count is last = (m : ℕ) → m < count → (shard : Shard R A) × (last m ≡ Some shard) × is shard

-- a thread has none beyond the first so many
abbrev pub NoneBeyond : {R A : Type 0} → ℕ → (ℕ → Option (Shard R A)) → Type 0
NoneBeyond count last = (m : ℕ) → count ≤ m → last m ≡ None

module _ {R A S : Type 0} (rack : racks.Ghosts R) (area : areas.Ghosts A) (last : S → ℕ → Option (Shard R A)) (went : S → ℕ → Shard R A → Shard R A → S → Type 0) (shared : Bool) (owns : ℕ → Bool) where
  -- A metaslab was held: behind what others did since it was left, this was done to it, and so it was left. The others are as they were left.
  pub record HeldOnce (does : Shard R A → Shard R A → Type 0) (a : S) (m : ℕ) (b : S) : Type 0 where
    pub shard : Shard R A
    pub there : last a m ≡ Some shard
    pub before : Shard R A
    pub after : Shard R A
    pub drifts : Drifts rack area shared owns shard before
    pub did : does before after
    pub is : (k : ℕ) → last b k ≡ (if k == m then Some after else last a k)
    pub goes : went a m before after b

  -- so was each of the first so many, one after another, and what their holds count adds up
  abbrev pub HeldEach : (ℕ → Shard R A → Shard R A → Type 0) → ℕ → S → ℕ → S → Type 0
  HeldEach does zero a sum b = (b ≡ a) × (sum ≡ 0)
  HeldEach does (suc n) a sum b = (mid : S) × (some : ℕ) × (more : ℕ) × HeldEach does n a some mid × HeldOnce (does more) mid n b × (sum ≡ some + more)

  -- so were so many from one on
  abbrev pub HeldFrom : (ℕ → Shard R A → Shard R A → Type 0) → (first held : ℕ) → S → ℕ → S → Type 0
  HeldFrom does first zero a sum b = (b ≡ a) × (sum ≡ 0)
  HeldFrom does first (suc n) a sum b = (mid : S) × (some : ℕ) × (more : ℕ) × HeldFrom does first n a some mid × HeldOnce (does more) mid (first + n) b × (sum ≡ some + more)

  -- the hold of one of them stopped it
  pub record StoppedBy (does : ℕ → Shard R A → Shard R A → Type 0) (stops : Shard R A → Shard R A → Type 0) (count : ℕ) (a b : S) : Type 0 where
    pub place : ℕ
    pub below : place < count
    pub sum : ℕ
    pub mid : S
    pub front : HeldEach does place a sum mid
    pub stop : HeldOnce stops mid place b
