-- What a call shows that was stopped by a failing area.
use Rattle.std.proofs.Common.{◌≡◌, ◌+◌, ◌<◌, ◌≤◌, ◌⊎◌, inl, inr, ℕ, Option, Result, Ok, Err, arith, ap, subst, sym}
use Rattle.std.specs.Prelude.{IsErrOf, OnErr}
use Rattle.draid_names.specs.Faults.{Rose}
use Rattle.draid_names.specs.declared.fault.DeviceFault.{DeviceFault}
use Rattle.draid_names.specs.declared.fault.DeviceFault.TheVariants.{Failed}
use Rattle.draid_rack.specs.Rack.{Shape}
use Rattle.draid_area.specs.Area.{Counts}
use Rattle.draid_spec.specs.Geometry.{geometry_of}
use Rattle.draid_spec.specs.declared.layout.Geometry.{Geometry}
use Rattle.draid_spec.specs.declared.layout.Props.{Props}
use Rattle.draid_spec.specs.declared.spec.Spec.{Spec}
use Rattle.draid_shelf.specs.Kits.{Held, KitCounts}
use Rattle.draid_pool.specs.Returning.{OwnCounts}
use Rattle.draid_create.specs.Opening.{HasBadArea, HoldsUncommitted, NewPoolFailed, RecordsFailed}

-- a new pool that failed, where what a refusal leaves is known
pub new_failed : {T : Type 0} (geometry : Geometry) (told : Option Held) (leaves : ℕ → Option Shape) (kits : ℕ → KitCounts) (own : OwnCounts) (first since now : ℕ) (result : Result T DeviceFault) → first ≤ since
    → OnErr result (HoldsUncommitted geometry told leaves kits own) → (IsErrOf result Failed → Rose since now ⊎ HasBadArea geometry kits own)
    → IsErrOf result Failed → Rose first now ⊎ NewPoolFailed geometry told leaves kits own
new_failed geometry told leaves kits own first since now (Ok made) later held cause failed = absurd (cc failed)
new_failed geometry told leaves kits own first since now (Err why) later held cause failed = elim (cause failed) [
  | inl rose ↦ inl (omega (arith, later, rose))
  | inr bad ↦ inr (record { held = held; failed = bad })
]

-- a count is still what it was, where the records of a metaslab have failed
pub records_kept : (geometry : Geometry) (first mid last : ℕ) (kits kits' : ℕ → KitCounts) (own : OwnCounts) → last ≡ mid → ((m : ℕ) → kits' m ≡ kits m) → Rose first mid ⊎ RecordsFailed geometry kits
    → Rose first last ⊎ HasBadArea geometry kits' own
records_kept geometry first mid last kits kits' own same kept (inl rose) = inl (omega (arith, same, rose))
records_kept geometry first mid last kits kits' own same kept (inr bad) = inr (inl (bad.0, bad.1, subst (λ (k : KitCounts). 0 < k.even + k.odd) (sym (kept bad.0)) bad.2))

-- a commit that failed shows on the uberblock's area
pub commit_failed : {T : Type 0} (before now last : ℕ) (fault : DeviceFault) → Counts (Err fault) before now → last ≡ now → IsErrOf {T = T} (Err fault) Failed → 0 < last
commit_failed before now last fault counts same failed =
    let is : fault ≡ Failed = cc in
    let rose = counts.cause (ap Err is) in
    omega (arith, same, rose)

-- what is held of the layout of a spec and its properties
pub made_for : {P : Type 0} (spec : Spec) (props : Props) (H : Geometry → Type 0) (geometry : Geometry) → geometry_of spec props ≡ Ok geometry → P ⊎ H geometry
    → P ⊎ ((g : Geometry) × (geometry_of spec props ≡ Ok g) × H g)
made_for spec props H geometry layout (inl same) = inl same
made_for spec props H geometry layout (inr held) = inr (geometry, layout, held)
