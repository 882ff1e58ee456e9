use Rattle.std.specs.Prelude.{◌≡◌, ℕ, Bool, true, false, List, Some, ◌==◌, length, option_map, slice_get, if◌then◌else◌}
use Rattle.std.specs.List.{list_any}
use Rattle.draid_rack.specs.declared.sector.Sector.{Sector}
use Rattle.draid_rack.specs.Sectors.{flushed, view_of}

-- each soft sector is listed, unless some may be missing
abbrev pub ListsSoft : Bool → List ℕ → List Sector → Type 0
ListsSoft unlisted listed sectors = unlisted ≡ false → (s : ℕ) (x : Sector) → slice_get sectors s ≡ Some x → x.soft ≡ true → list_any (λ k. k == s) listed ≡ true

-- the sectors that are named were flushed, and the others are as they were
pub record FlushesThose (named : ℕ → Bool) (old new : List Sector) : Type 0 where
  pub many : length new ≡ length old
  pub each : (s : ℕ) → option_map view_of (slice_get new s) ≡ option_map (λ (x : Sector). if named s then flushed (view_of x) else view_of x) (slice_get old s)
