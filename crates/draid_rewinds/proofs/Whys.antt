-- Why a command on the checkpoint was refused.
use Rattle.std.proofs.Common.{◌≡◌, ℕ, Bool, true, false, Option, Some, None, Err, refl}
use Rattle.std.specs.Prelude.{IsErrOf, is_some, not}
use Rattle.draid_pool.specs.declared.fault.SyncFault.{SyncFault}
use Rattle.draid_pool.specs.declared.fault.SyncFault.TheVariants as sync
use Rattle.draid_rewinds.specs.declared.fault.BackFault.TheVariants as back
use Rattle.draid_rewinds.specs.declared.fault.TakeFault.TheVariants as take

-- a device failed in the sync
pub back_shelf : {T U : Type 0} (why : SyncFault) → IsErrOf {T = T} (Err (back.Sync why)) (back.Sync sync.Shelf) → IsErrOf {T = U} (Err why) sync.Shelf
back_shelf sync.Worn is = absurd (cc is)
back_shelf sync.Last is = absurd (cc is)
back_shelf sync.Shelf is = refl
back_shelf sync.NoMemory is = absurd (cc is)

pub take_shelf : {T U : Type 0} (why : SyncFault) → IsErrOf {T = T} (Err (take.Sync why)) (take.Sync sync.Shelf) → IsErrOf {T = U} (Err why) sync.Shelf
take_shelf sync.Worn is = absurd (cc is)
take_shelf sync.Last is = absurd (cc is)
take_shelf sync.Shelf is = refl
take_shelf sync.NoMemory is = absurd (cc is)

-- what a test for nothing says
pub none_by : (o : Option ℕ) (b : Bool) → is_some o ≡ not b → b ≡ true → o ≡ None
none_by None b says is = refl
none_by (Some own) true says is = absurd (cc)
none_by (Some own) false says is = absurd (cc)

pub some_by : (o : Option ℕ) (b : Bool) → is_some o ≡ not b → b ≡ false → o ≡ None → ⊥
some_by (Some own) b says is none = absurd (cc)
some_by None true says is none = absurd (cc)
some_by None false says is none = absurd (cc)
