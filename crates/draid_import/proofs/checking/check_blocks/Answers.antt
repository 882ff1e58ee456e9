use Rattle.std.proofs.Common.{ℕ, List, Option, Err, ap, inl, inr, refl, subst}
use Rattle.std.specs.Prelude.{IfNone, IfSome}
use Rattle.draid_record.specs.Checks.{told_check}
use Rattle.draid_record.specs.declared.checks.Dropped.{Dropped}
use Rattle.draid_record.specs.declared.fault.RecordFaultKind.TheVariants as kinds
use Rattle.draid_found.specs.Drops.{HaveNamed, LackNamed}
use Rattle.draid_import.specs.Checking.{OwnCheck}
use Rattle.draid_uber.specs.Slots.{group_of}
use Rattle.draid_uber.specs.Uber.{kept_of}
use Rattle.draid_import.proofs.ImportCheck.{check_bad, lack_some, same_bad}
use Rattle.draid_import.proofs.ImportFaulty.{err_is}
use Rattle.draid_import.proofs.checking.check_blocks.Goals as goal

pub returns-in-Err-clause-faulty : goal.returns-in-Err-clause-faulty
returns-in-Err-clause-faulty g c place kind err = inl (c.in-Err.ensures.faulty place kind (ap Err (check_bad c.in-Err.why c.check_fault.result c.check_fault.ensures.is place kind err)))

pub returns-in-Err-clause-cause : goal.returns-in-Err-clause-cause
returns-in-Err-clause-cause g c err = c.in-Err.ensures.cause (ap Err (c.check_fault.ensures.area (err_is c.check_fault.result _ err)))

pub returns-in-Ok-None-clause-checked : goal.returns-in-Ok-None-clause-checked
returns-in-Ok-None-clause-checked g c =
    let group = c.in-Ok.check.group in
    record {
      read = c.in-Ok.ensures.found;
      have = subst (λ (ds : List Dropped). HaveNamed c.args.shards.now group ds) c.deref.ensures.value (subst (λ (o : Option ℕ). IfNone o (HaveNamed c.args.shards.now group c.deref.result.now)) c.in-Ok-None.field-0-is c.in-Ok-None.ensures.none);
    }

pub returns-in-Ok-Some-clause-faulty : goal.returns-in-Ok-Some-clause-faulty
returns-in-Ok-Some-clause-faulty g c =
    let group = c.in-Ok.check.group in
    let lack : LackNamed c.args.shards.now group c.in-Ok.check.drops.items c.in-Ok-Some.at = subst (λ (ds : List Dropped). LackNamed c.args.shards.now group ds c.in-Ok-Some.at) c.deref.ensures.value
    (subst (λ (o : Option ℕ). IfSome o (LackNamed c.args.shards.now group c.deref.result.now)) c.in-Ok-Some.field-0-is c.in-Ok-Some.ensures.some) in
    same_bad (OwnCheck g.A.Area c.args.uber.now) c.args.shards.now c.place_of.result kinds.Range (inr (record {
      value = told_check c.in-Ok.check;
      read = c.in-Ok.ensures.found;
      some = lack_some (group_of (kept_of c.args.uber.now)) (told_check c.in-Ok.check) c.in-Ok-Some.at c.in-Ok.ensures.range lack.there;
      i = c.in-Ok-Some.at;
      lack = lack;
      place_is = c.place_of.ensures;
      kind_is = refl;
    }))
