use Rattle.std.specs.Prelude.{◌≡◌, ◌<◌, ◌≤◌, ◌==◌, ⊤, ℕ, false, List, [], Option, Some, None, Result, MatchOption, IsErrOf, IsSomeAnd, option_and_then, option_map, length, replicate, if◌then◌else◌, ◌+◌, ◌-◌, ◌^◌, min, Contains}
use Rattle.draid_spec.specs.Geometry.{metaslab_sectors}
use Rattle.draid_names.specs.Faults.{Rose}
use Rattle.draid_faults.specs.declared.calls.Calls.{Calls}
use Rattle.draid_faults.specs.Calls.{failing_calls, next_call}
use Rattle.draid_spec.specs.declared.layout.Geometry.{Geometry}
use Rattle.draid_rack.specs.Rack.{Told}
use Rattle.draid_rack.specs.Moments as rack
use Rattle.draid_area.specs.Area.{Content}
use Rattle.draid_area.specs.Moments as area
use Rattle.draid_names.specs.declared.fault.DeviceFault.{DeviceFault}

-- what the devices of a metaslab tell
pub record KitTold : Type 0 where
  pub rack : Told
  pub even : Content
  pub odd : Content

-- where all three tell
abbrev pub kit_of : Option Told → Option Content → Option Content → Option KitTold
kit_of rack even odd = option_and_then (λ r. option_and_then (λ e. option_map (λ o. record { rack = r; even = e; odd = o }) odd) even) rack

-- what the areas of the check records tell
pub record ChecksTold : Type 0 where
  pub even : Content
  pub odd : Content

-- where both tell
abbrev pub checks_of : Option Content → Option Content → Option ChecksTold
checks_of even odd = option_and_then (λ e. option_map (λ o. record { even = e; odd = o }) odd) even

-- what a shelf tells: the area of the uberblock, those of the check records and, by metaslab, the devices, where they
-- are held
pub record Held : Type 0 where
  pub uber : Option Content
  pub checks : Option ChecksTold
  pub kits : ℕ → Option KitTold

-- where it is told
abbrev pub OnHeld : Option Held → (Held → Type 0) → Type 0
OnHeld told P = MatchOption told ⊤ P

-- the devices of a metaslab were given, or those that were held were taken. Where the given ones don't tell, the shelf doesn't.
abbrev pub puts_kit : ℕ → Option KitTold → Held → Held
puts_kit m kit held = record { uber = held.uber; checks = held.checks; kits = λ q. if q == m then kit else held.kits q }

abbrev pub gives_kit : ℕ → Option KitTold → Option Held → Option Held
gives_kit m kit held = option_and_then (λ k. option_map (puts_kit m (Some k)) held) kit

abbrev pub takes_kit : ℕ → Option Held → Option Held
takes_kit m held = option_map (puts_kit m None) held

-- the same of the area of the uberblock
abbrev pub puts_uber : Option Content → Held → Held
puts_uber uber held = record { uber = uber; checks = held.checks; kits = held.kits }

abbrev pub gives_uber : Option Content → Option Held → Option Held
gives_uber uber held = option_and_then (λ u. option_map (puts_uber (Some u)) held) uber

abbrev pub takes_uber : Option Held → Option Held
takes_uber held = option_map (puts_uber None) held

-- the same of the areas of the check records
abbrev pub puts_checks : Option ChecksTold → Held → Held
puts_checks checks held = record { uber = held.uber; checks = checks; kits = held.kits }

abbrev pub gives_checks : Option ChecksTold → Option Held → Option Held
gives_checks checks held = option_and_then (λ c. option_map (puts_checks (Some c)) held) checks

abbrev pub takes_checks : Option Held → Option Held
takes_checks held = option_map (puts_checks None) held

-- an area of these bytes, none of which is soft
pub record IsNewArea (bytes : List ℕ) (x : Content) : Type 0 where
  pub bytes_are : x.bytes ≡ bytes
  pub firm : x.firm ≡ length bytes
  pub soft : (i : ℕ) → x.soft i ≡ false

-- a rack of zeros, which is neither soft nor harmed
pub record IsNewRack (geometry : Geometry) (x : Told) : Type 0 where
  pub zeros : (l s : ℕ) → l < geometry.spec.children → s < metaslab_sectors geometry → x.reads l s ≡ Some (replicate geometry.props.sector 0)
  pub soft : (l s : ℕ) → x.soft l s ≡ false
  pub harmed : (l s : ℕ) → x.harmed l s ≡ false

pub record IsNewKit (geometry : Geometry) (x : KitTold) : Type 0 where
  pub rack : IsNewRack geometry x.rack
  pub even : IsNewArea [] x.even
  pub odd : IsNewArea [] x.odd

pub record AreNewChecks (x : ChecksTold) : Type 0 where
  pub even : IsNewArea [] x.even
  pub odd : IsNewArea [] x.odd

-- the length of the area of the uberblock in bytes
abbrev pub uber_bytes : ℕ
uber_bytes = 1024

-- a shelf with a new pool
pub record IsNewPool (geometry : Geometry) (x : Held) : Type 0 where
  pub uber : IsSomeAnd x.uber (IsNewArea (replicate uber_bytes 0))
  pub checks : IsSomeAnd x.checks AreNewChecks
  pub kits : (m : ℕ) → m < geometry.props.metaslabs → IsSomeAnd (x.kits m) (IsNewKit geometry)
  pub no_other : (m : ℕ) → geometry.props.metaslabs ≤ m → x.kits m ≡ None

-- how often calls on the devices of a metaslab have failed
pub record KitCounts : Type 0 where
  pub rack : Option ℕ → ℕ
  pub even : ℕ
  pub odd : ℕ

-- how often calls on the areas of the check records have failed
pub record CheckCounts : Type 0 where
  pub even : ℕ
  pub odd : ℕ

-- none has failed
pub record IsUncounted (counts : KitCounts) : Type 0 where
  pub no_rack : (who : Option ℕ) → counts.rack who ≡ 0
  pub no_even : counts.even ≡ 0
  pub no_odd : counts.odd ≡ 0

-- The shelf's count doesn't fall, and where the answer is that it failed, it rose.
pub record ShelfCounts {T : Type 0} (result : Result T DeviceFault) (before now : ℕ) : Type 0 where
  pub later : before ≤ now
  pub cause : IsErrOf result DeviceFault.Failed → Rose before now

-- what isn't held is refused, as a failure of the shelf
abbrev pub NeedsKit : {T : Type 0} → ℕ → Result T DeviceFault → Option Held → Type 0
NeedsKit m result told = OnHeld told (λ held. held.kits m ≡ None → IsErrOf result DeviceFault.Failed)

abbrev pub NeedsUber : {T : Type 0} → Result T DeviceFault → Option Held → Type 0
NeedsUber result told = OnHeld told (λ held. held.uber ≡ None → IsErrOf result DeviceFault.Failed)

abbrev pub NeedsChecks : {T : Type 0} → Result T DeviceFault → Option Held → Type 0
NeedsChecks result told = OnHeld told (λ held. held.checks ≡ None → IsErrOf result DeviceFault.Failed)

-- the areas of the check records after a crash
pub record CrashedChecks (x y : ChecksTold) : Type 0 where
  pub even : area.IsCrashOutcome x.even y.even
  pub odd : area.IsCrashOutcome x.odd y.odd

-- the devices of a metaslab after a crash
pub record CrashedKit (x y : KitTold) : Type 0 where
  pub rack : rack.IsCrashOutcome x.rack y.rack
  pub even : area.IsCrashOutcome x.even y.even
  pub odd : area.IsCrashOutcome x.odd y.odd

-- both are there, and P holds of them, or neither is
abbrev pub Both : {A : Type 0} → (A → A → Type 0) → Option A → Option A → Type 0
Both P x y = MatchOption x (y ≡ None) (λ a. MatchOption y ⊥ (λ b. P a b))

-- all that is held after a crash
pub record CrashedHeld (x y : Held) : Type 0 where
  pub uber : Both area.IsCrashOutcome x.uber y.uber
  pub checks : Both CrashedChecks x.checks y.checks
  pub kits : (m : ℕ) → Both CrashedKit (x.kits m) (y.kits m)

-- A call of a shelf in memory that makes or takes was counted. It failed just where its list names it or what it asks for isn't held.
pub record FailsJust (held failed : Type 0) (old new : Calls) : Type 0 where
  pub named : Contains (failing_calls old) (next_call old) → failed
  pub missing : (held → ⊥) → failed
  pub cause : failed → held → Contains (failing_calls old) (next_call old)
  pub next : next_call new ≡ min (next_call old + 1) (2 ^ 64 - 1)
  pub failing : failing_calls new ≡ failing_calls old
