-- Jobs that are run, each with a lane of its own.
use Rattle.std.specs.Prelude.{◌≡◌, ◌<◌, ℕ, List, Some, length, slice_index_or}
use Rattle.draid_lanes.specs.declared.jobs.Seat.{Seat}

module _ {L J : Type 0} where
  -- a lane waits for its job, and has what that needs
  pub record MayRun (needs : J → L → Type 0) (seat : Seat L J) : Type 0 where
    pub lane : L
    pub there : seat.lane ≡ Some lane
    pub needed : needs seat.job lane

  -- its job was done
  pub record HasRun (relates : J → L → J → L → Type 0) (old new : Seat L J) : Type 0 where
    pub lane : L
    pub next : L
    pub was : old.lane ≡ Some lane
    pub is : new.lane ≡ Some next
    pub related : relates old.job lane new.job next

  -- so was that of each
  abbrev pub EachHasRun : (J → L → J → L → Type 0) → List (Seat L J) → List (Seat L J) → Type 0
  EachHasRun relates old new = (i : ℕ) (d : Seat L J) → i < length old → HasRun relates (slice_index_or old i d) (slice_index_or new i d)
