use Rattle.std.proofs.Common.{◌++◌, List, ℕ, Vec, Global}
use Rattle.draid_record.specs.declared.limits.Limits.{Limits}
use Rattle.draid_record.specs.Record.{RecordTold, Spelled, told_record}
use Rattle.draid_record.specs.Written.{IsRecord, IsWhole}
use Rattle.draid_record.proofs.WholeWritten.{if_ok, written_spelled}
use Rattle.draid_record.proofs.writing.write_record.Goals as goal

pub returns-clause-spelled : goal.returns-clause-spelled
returns-clause-spelled c =
    let v : RecordTold = told_record c.args.value.now in
    if_ok c.whole.result (λ (bytes : Vec ℕ Global). IsWhole bytes.items v)
    (λ (bytes : Vec ℕ Global). (limits : Limits) (more : List ℕ) → IsRecord limits v → Spelled limits (bytes.items ++ more) v)
    (λ bytes whole limits more is. written_spelled limits v bytes.items more whole is) c.whole.ensures
