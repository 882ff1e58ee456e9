-- A sector of a leaf is damaged.
use Rattle.std.proofs.Common.{◌≡◌, ◌<◌, ℕ, true, false, Option, Some, None, refl, sym, subst}
use Rattle.std.specs.Prelude.{MatchOption, Result, Ok, Err, OnErr, OnOk, is_err, option_map}
use Rattle.draid_names.specs.declared.fault.Failed.{Failed}
use Rattle.draid_spec.specs.Geometry.{metaslab_sectors}
use Rattle.draid_rack.specs.Rack.{Fits, Shape, Told, damages, OnBothTold}
use Rattle.draid_machine.specs.State as machine
use Rattle.draid_machine.specs.Step.{DamageStep}
use Rattle.draid_segments.specs.Acts.{Damages}
use Rattle.draid_entries.specs.declared.history.History.{History}
use Rattle.draid_slots.specs.Table.{SlotTable}
use Rattle.draid_shard.specs.Fits.{IsLeaf}
use Rattle.draid_shard.specs.States.{IsIn, layout_by}
use Rattle.draid_shard.specs.declared.shard.Shard.{Shard}
use Rattle.draid_shard.proofs.Leaves.{leaf_found}

-- a leaf has each sector of the metaslab
pub sector_there : (shape : Shape) (slots : SlotTable) (leaf sector n : ℕ) → shape.leaves leaf ≡ Some n → sector < n → Fits shape leaf sector shape.bytes
sector_there shape slots leaf sector n there less = record { there = subst (λ o. MatchOption o ⊥ (λ m. sector < m)) (sym there) less; whole = refl }

-- a state doesn't see the rack, nor what is stored
pub same_in : {R A : Type 0} (old : Shard R A) (rack : R) (history : History) (w : machine.State) → IsIn old w → IsIn (record old { rack = rack; history = history }) w
same_in old rack history w is = record {
  held = is.held;
  slots = is.slots;
  pass = is.pass;
  last = is.last;
  open_group_is = is.open_group_is;
  closing = is.closing;
  sealed = is.sealed;
  committed = is.committed;
  version = is.version;
  asked = is.asked;
  serial = is.serial;
  loan = is.loan;
}

pub damage_step : {R A : Type 0} (old : Shard R A) (w : machine.State) (leaf sector : ℕ) → IsIn old w → IsLeaf old.slots leaf → sector < metaslab_sectors old.geometry → DamageStep (layout_by old) w leaf sector w
damage_step old w leaf sector is there inside =
    let found = leaf_found old.slots w.core leaf is.slots there in record { a = found.0; found = found.1; inside = inside; made = refl }

pub damage_acts : (leaf sector : ℕ) (r : Result Unit Failed) (o p : Option Told) → OnOk r (p ≡ option_map (damages leaf sector) o) → OnErr r (p ≡ o) → OnBothTold o p (λ x y. Damages leaf sector (is_err r) x y)
damage_acts leaf sector (Ok done) None p ok err = ok
damage_acts leaf sector (Ok done) (Some x) p ok err = subst (λ q. OnBothTold (Some x) q (λ x y. Damages leaf sector false x y)) (sym ok) refl
damage_acts leaf sector (Err e) None p ok err = err
damage_acts leaf sector (Err e) (Some x) p ok err = subst (λ q. OnBothTold (Some x) q (λ x y. Damages leaf sector true x y)) (sym err) refl
