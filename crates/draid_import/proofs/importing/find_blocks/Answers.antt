use Rattle.std.proofs.Common.{Some, Err, ap}
use Rattle.draid_import.proofs.ImportFaulty.{found_apart}
use Rattle.draid_pool.proofs.Refusing.{no_refusal}
use Rattle.draid_import.proofs.Unfound.{no_record, no_shelf, record_no_shelf}
use Rattle.draid_import.proofs.importing.find_blocks.Goals as goal

pub returns-in-Err-Record : goal.returns-in-Err-Record
returns-in-Err-Record g c =
    record {
      found = tt;
      together = tt;
      faulty = (let r = c.in-Err-Record in
          found_apart c.args.shards.now r.metaslab r.at r.kind (r.ensures.faulty r.metaslab r.at r.kind (ap Err r.field-0-is)));
      no_device = λ err. record_no_shelf (Some c.in-Err-Record.metaslab) c.in-Err-Record.at c.in-Err-Record.kind err;
      fault = tt;
    }

pub returns-in-Ok : goal.returns-in-Ok
returns-in-Ok g c = record { found = c.in-Ok.ensures.found; together = c.in-Ok.ensures.together; faulty = λ metaslab place kind err. absurd (no_refusal err); no_device = λ err. no_refusal err; fault = tt }

pub returns-in-Err-NoMemory : goal.returns-in-Err-NoMemory
returns-in-Err-NoMemory g c = record { found = tt; together = tt; faulty = λ metaslab place kind err. absurd (no_record metaslab place kind err); no_device = λ err. no_shelf err; fault = tt }

pub find_blocks-requires : goal.find_blocks-requires
find_blocks-requires g c = record { ready = c.requires.ready }
