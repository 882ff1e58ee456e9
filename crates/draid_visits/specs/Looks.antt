-- What looks at metaslabs for their passes find, each in a hold of its own.
use Rattle.std.specs.Prelude.{◌≡◌, ◌↔◌, ℕ, zero, suc, Bool, false, List, Option, None, Some, IfNone, IfSome, IsTrue, slice_index_or}
use Rattle.draid_names.specs.declared.pass_kind.PassKind.{PassKind}
use Rattle.draid_rack.specs.declared.Rack as racks
use Rattle.draid_area.specs.declared.Area as areas
use Rattle.draid_segments.specs.Segments.{Pieces}
use Rattle.draid_session.specs.Holds.{view_of}
use Rattle.draid_session.specs.Passes as passes
use Rattle.draid_session.specs.State.{Metaslab}
use Rattle.draid_shard.specs.Part.{Part}
use Rattle.draid_shard.specs.declared.shard.Shard.{Shard}
use Rattle.draid_pool.specs.Metaslabs.{IsMetaslab}
use Rattle.draid_pool.specs.Rounds.{HeldEach, HeldOnce, StoppedBy}
use Rattle.draid_visits.specs.Rebuilding.{HasPass}
use Rattle.draid_visits.specs.Steps.{IsRebuiltIn}
use Rattle.draid_visits.specs.Visiting.{IsOnly}

-- ---- one metaslab

-- it has a pass of a kind with this number, or has none of that kind, and nothing changed
pub record SeesPass {R A : Type 0} (kind : PassKind) (out : Option ℕ) (old new : Shard R A) : Type 0 where
  pub same : new ≡ old
  pub found : IfSome out (λ number. HasPass kind number old)
  pub none : IfNone out (IsOnly (passes.other_kind kind) old)

-- a rebuild visits it or doesn't, as its states say too, and nothing changed
pub record SeesRebuilt {R A : Type 0} (rack : racks.Ghosts R) (area : areas.Ghosts A) (mark : Bool) (old new : Shard R A) : Type 0 where
  pub same : new ≡ old
  pub is : IsTrue mark ↔ IsRebuiltIn old
  pub seen : (part : Part) (pieces : Pieces) (x : Metaslab) → IsMetaslab rack area part pieces old x → IsTrue mark ↔ passes.IsRebuilt part.geometry part.perms (view_of part.number x)

-- ---- all of them

module _ {R A S : Type 0} (rack : racks.Ghosts R) (area : areas.Ghosts A) (last : S → ℕ → Option (Shard R A)) (went : S → ℕ → Shard R A → Shard R A → S → Type 0) (shared : Bool) (owns : ℕ → Bool) where
  -- the lowest metaslab with a pass of a kind, and its number; or none has one
  abbrev pub FindsPass : (count : ℕ) → PassKind → S → Option (ℕ × ℕ) → S → Type 0
  FindsPass count kind a (Some it) b =
      (found : StoppedBy rack area last went shared owns (λ none x y. SeesPass kind None x y) (λ x y. SeesPass kind (Some it.1) x y) count a b) × (it.0 ≡ found.place)
  FindsPass count kind a None b = HeldEach rack area last went shared owns (λ none x y. SeesPass kind None x y) count a 0 b

  -- each of the first so many was looked at, and is marked where a rebuild visits it
  abbrev pub SeesEach : List Bool → ℕ → S → S → Type 0
  SeesEach marks zero a b = b ≡ a
  SeesEach marks (suc n) a b = (mid : S) × SeesEach marks n a mid × HeldOnce rack area last went shared owns (SeesRebuilt rack area (slice_index_or marks n false)) mid n b

  -- the marks of all of them, of which one is set; or a rebuild visits none
  abbrev pub FindsMarks : (count : ℕ) → S → Option (List Bool) → S → Type 0
  FindsMarks count a (Some marks) b = SeesEach marks count a b
  FindsMarks count a None b = HeldEach rack area last went shared owns (λ none x y. SeesRebuilt rack area false x y) count a 0 b
