-- Refusals of an import that are others.
use Rattle.std.proofs.Common.{ℕ, Option, Err}
use Rattle.std.specs.Prelude.{IsErrOf}
use Rattle.draid_record.specs.declared.fault.RecordFaultKind.{RecordFaultKind}
use Rattle.draid_import.specs.declared.fault.ImportFault.TheVariants as fault

-- nor is it a fault of the shelf or of a record
pub no_shelf : {T : Type 0} → IsErrOf {T = T} (Err fault.NoMemory) fault.Shelf → ⊥
no_shelf is = cc

pub no_record : {T : Type 0} (metaslab : Option ℕ) (place : ℕ) (kind : RecordFaultKind) → IsErrOf {T = T} (Err fault.NoMemory) (fault.Record metaslab place kind) → ⊥
no_record metaslab place kind is = cc

-- nor is a record's fault one of the shelf
pub record_no_shelf : {T : Type 0} (metaslab : Option ℕ) (place : ℕ) (kind : RecordFaultKind) → IsErrOf {T = T} (Err (fault.Record metaslab place kind)) fault.Shelf → ⊥
record_no_shelf metaslab place kind is = cc

-- where there is no pool, nothing failed
pub absent_no_shelf : {T : Type 0} → IsErrOf {T = T} (Err fault.NoPool) fault.Shelf → ⊥
absent_no_shelf is = cc

pub absent_no_record : {T : Type 0} (metaslab : Option ℕ) (place : ℕ) (kind : RecordFaultKind) → IsErrOf {T = T} (Err fault.NoPool) (fault.Record metaslab place kind) → ⊥
absent_no_record metaslab place kind is = cc
