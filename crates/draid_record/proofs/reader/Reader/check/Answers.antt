use Rattle.std.proofs.Common.{◌∙◌, inl, inr, sym}
use Rattle.draid_record.proofs.Fields.{check_failed, check_kept}
use Rattle.draid_record.proofs.reader.Reader.check.Goals.{then-holds-via-then-holds, then-holds-via-else-holds+then-is_some}
use Rattle.draid_record.proofs.reader.Reader.check.Goals as goal

pub returns-then-holds : goal.returns-then-holds
returns-then-holds c = elim c.then-holds.branch [
  | then-holds-via-then-holds w ↦ check_kept c.args.holds c.args.back c.args.self.now.fault c.args.self.now.bytes.now (inl w.if-holds.true)
  | then-holds-via-else-holds+then-is_some w ↦ check_kept c.args.holds c.args.back c.args.self.now.fault c.args.self.now.bytes.now (inr (sym w.is_some.ensures ∙ w.if-is_some.true))
]

pub returns : goal.returns
returns c = check_failed c.args.holds c.args.back c.args.self.now.fault c.args.self.now.bytes.now c.if-holds.false (sym c.is_some.ensures ∙ c.if-is_some.false)
