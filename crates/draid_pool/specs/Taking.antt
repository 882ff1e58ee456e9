-- What a shelf has of a pool of which some devices are taken.
use Rattle.std.specs.Prelude.{◌≡◌, ◌<◌, ◌≤◌, ℕ, Option, None, MatchOption, IsSomeAnd, replicate}
use Rattle.draid_spec.specs.declared.layout.Geometry.{Geometry}
use Rattle.draid_shelf.specs.Kits.{AreNewChecks, Held, IsNewArea, IsNewRack, KitCounts, checks_of, gives_checks, gives_uber, takes_checks, takes_uber, uber_bytes}
use Rattle.draid_uber.specs.Checks.{AreasTold}
use Rattle.draid_pool.specs.Returning.{OwnCounts}

-- what the pool's own areas tell is what was held of them
pub record TellsAreas (told : AreasTold) (held : Held) : Type 0 where
  pub uber : told.uber ≡ held.uber
  pub checks : checks_of told.even told.odd ≡ held.checks

-- none of them tells
pub record AreSilent (told : AreasTold) : Type 0 where
  pub uber : told.uber ≡ None
  pub even : told.even ≡ None
  pub odd : told.odd ≡ None

-- they aren't held any more
abbrev pub takes_areas : Option Held → Option Held
takes_areas held = takes_checks (takes_uber held)

-- they are held, where they tell
abbrev pub gives_areas : AreasTold → Option Held → Option Held
gives_areas told held = gives_checks (checks_of told.even told.odd) (gives_uber told.uber held)

-- the shelf is as before
pub record IsAsBefore (old new : Option Held) (before after : ℕ → KitCounts) (own now : OwnCounts) : Type 0 where
  pub held : new ≡ old
  pub counts : (m : ℕ) → after m ≡ before m
  pub uber : now.uber ≡ own.uber
  pub checks : now.checks ≡ own.checks

-- All devices of a new pool are held: an uberblock to which nothing was written, racks as they were made, and areas of records, to which something may have been.
pub record HoldsMade (geometry : Geometry) (x : Held) : Type 0 where
  pub uber : IsSomeAnd x.uber (IsNewArea (replicate uber_bytes 0))
  pub checks : IsSomeAnd x.checks AreNewChecks
  pub kits : (m : ℕ) → m < geometry.props.metaslabs → IsSomeAnd (x.kits m) (λ kit. IsNewRack geometry kit.rack)

-- the devices of metaslabs below a number aren't held any more, and all else is as before
pub record TakesBelow (n : ℕ) (old new : Held) : Type 0 where
  pub uber : new.uber ≡ old.uber
  pub checks : new.checks ≡ old.checks
  pub taken : (m : ℕ) → m < n → new.kits m ≡ None
  pub others : (m : ℕ) → n ≤ m → new.kits m ≡ old.kits m

-- so where it is told
abbrev pub TakesFirst : ℕ → Option Held → Option Held → Type 0
TakesFirst n old new = MatchOption old (new ≡ None) (λ x. MatchOption new ⊥ (λ y. TakesBelow n x y))
