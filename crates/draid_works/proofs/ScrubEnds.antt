-- A scrub in a lane says neither that there was nothing to do nor that an area failed.
use Rattle.std.proofs.Common.{◌≡◌, inl, inr, ℕ, Bool, true, Option, Some, Err}
use Rattle.std.specs.Prelude.{Result}
use Rattle.draid_names.specs.declared.pass_kind.PassKind.TheVariants.{Heal}
use Rattle.draid_rack.specs.declared.Rack as racks
use Rattle.draid_area.specs.declared.Area as areas
use Rattle.draid_shard.specs.declared.shard.Shard.{Shard}
use Rattle.draid_spec.specs.Geometry.{IsGeometry}
use Rattle.draid_spec.specs.declared.layout.Geometry.{Geometry}
use Rattle.draid_turn.specs.Calls.{Caller, Lock}
use Rattle.draid_turn.specs.declared.past.Past.{Past}
use Rattle.draid_uber.specs.declared.uber.Uber.{Uber}
use Rattle.draid_visits.specs.Visits.{BeginsScrub, MendsBy}
use Rattle.draid_visits.specs.declared.mending.Mending.{Mending}
use Rattle.draid_visits.specs.declared.rebuilding.MendFault.{MendFault}
use Rattle.draid_visits.specs.declared.rebuilding.MendFault.TheVariants as fault
use Rattle.draid_visits.specs.declared.rebuilding.Mended.{Mended}
use Rattle.draid_visits.proofs.ScrubEnds.{HasNext, begun_next, scrub_answers}
use Rattle.draid_lanes.specs.Governing.{lane_last}
use Rattle.draid_lanes.specs.Locks.{owned_by}
use Rattle.draid_lanes.specs.Waits.{LaneWent}
use Rattle.draid_lanes.specs.declared.locked.Locked.{Locked}
use Rattle.draid_lanes.specs.declared.uber.UberCell.{UberCell}
use Rattle.draid_works.specs.Mended.{MendedIn, MendsThrough, SyncsWaiting}

module _ {R A S : Type 0} (rack : racks.Ghosts R) (area : areas.Ghosts A) (last : S → ℕ → Option (Shard R A)) (went : S → ℕ → Shard R A → Shard R A → S → Type 0) (shared : Bool) (owns : ℕ → Bool) (geometry : Geometry) where
  rest_never : (old new : Mending) (result : Result Mended MendFault) (a b : S) (u v : Uber A) → HasNext rack area last went shared owns (SyncsWaiting rack area last went shared owns geometry.props.metaslabs) geometry old
      → MendsBy rack area last went shared owns (SyncsWaiting rack area last went shared owns geometry.props.metaslabs) geometry a u old (Some result) b v new → (result ≡ Err fault.Nothing → ⊥) × (result ≡ Err fault.Shelf → ⊥)
  rest_never old new result a b u v has it = scrub_answers rack area last went shared owns (SyncsWaiting rack area last went shared owns geometry.props.metaslabs) geometry old new result a b u v has it

  -- nor does it where it doesn't begin
  begins_never : (limit : Option ℕ) (why : MendFault) (a b : S) → BeginsScrub rack area last went shared owns geometry.props.metaslabs limit a (Err why) b → (why ≡ fault.Nothing → ⊥) × (why ≡ fault.Shelf → ⊥)
  begins_never limit (fault.PassThere metaslab number) a b it = ((λ is. absurd (cc)), (λ is. absurd (cc)))
  begins_never limit fault.Nothing a b it = absurd it
  begins_never limit fault.Worn a b it = absurd it
  begins_never limit fault.Last a b it = absurd it
  begins_never limit fault.Shelf a b it = absurd it
  begins_never limit fault.NoMemory a b it = absurd it

  why_is : (result : Result Mended MendFault) (why other : MendFault) → result ≡ Err why → result ≡ Err other → why ≡ other
  why_is result why other same is = cc

  pub scrub_never : IsGeometry geometry → (limit : Option ℕ) (result : Result Mended MendFault) (a b : S) (u v : Uber A) → MendsThrough rack area last went shared owns geometry Heal limit a u result b v → (result ≡ Err fault.Nothing → ⊥) × (result ≡ Err fault.Shelf → ⊥)
  scrub_never is limit result a b u v (inl (it, mid, new, begins, rest)) = rest_never it new result mid b u v (begun_next rack area last went shared owns (SyncsWaiting rack area last went shared owns geometry.props.metaslabs) geometry is limit it a mid begins) rest
  scrub_never is limit result a b u v (inr (why, same, begins, at)) =
      let z = begins_never limit why a b begins in
      ((λ nothing. z.0 (why_is result why fault.Nothing same nothing)), (λ shelf. z.1 (why_is result why fault.Shelf same shelf)))

-- ---- a lane's

pub scrubbed_never : {R A G W : Type 0} (rack : racks.Ghosts R) (area : areas.Ghosts A) (geometry : Geometry) (limit : Option ℕ) (lock : Lock (UberCell R A)) (old new : Locked R A G W) (result : Result Mended MendFault) (pass next : Caller (Past (UberCell R A)))
    → MendedIn rack area geometry Heal limit lock old new result pass next → IsGeometry geometry → (result ≡ Err fault.Nothing → ⊥) × (result ≡ Err fault.Shelf → ⊥)
scrubbed_never rack area geometry limit lock old new result pass next did is =
    scrub_never rack area lane_last (LaneWent rack area) true (owned_by did.related.met.passes.items) geometry is limit result did.related.met did.related.after did.value.uber did.left.uber did.related.related.0
