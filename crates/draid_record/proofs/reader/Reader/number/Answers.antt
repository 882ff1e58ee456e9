use Rattle.std.proofs.Common.{◌∙◌, sym}
use Rattle.draid_record.proofs.Digits.{some_power}
use Rattle.draid_record.proofs.Fields.{number_cut, number_found, number_out}
use Rattle.draid_record.proofs.reader.Reader.number.Goals as goal

pub returns-then-is_some-clause-small : goal.returns-then-is_some-clause-small
returns-then-is_some-clause-small c = some_power c.args.width

pub returns-then-left-width-clause-reads : goal.returns-then-left-width-clause-reads
returns-then-left-width-clause-reads c = number_cut c.args.width c.args.low c.args.high c.args.self.now.fault c.args.self.now.bytes.now (sym c.is_some.ensures ∙ c.if-is_some.false) c.if-left-width.true

pub returns-then-left-width-clause-small : goal.returns-then-left-width-clause-small
returns-then-left-width-clause-small c = some_power c.args.width

pub returns-then-number-low-clause-reads : goal.returns-then-number-low-clause-reads
returns-then-number-low-clause-reads c =
    number_out c.args.width c.args.low c.args.high c.first_number-number.result c.args.self.now.fault c.args.self.now.bytes.now (sym c.is_some.ensures ∙ c.if-is_some.false) c.if-left-width.false c.first_number-number.ensures.number c.then-number-low.either

pub returns-then-number-low-clause-small : goal.returns-then-number-low-clause-small
returns-then-number-low-clause-small c = some_power c.args.width

pub returns-clause-reads : goal.returns-clause-reads
returns-clause-reads c =
    number_found c.args.width c.args.low c.args.high c.first_number-number.result c.args.self.now.fault c.args.self.now.bytes.now c.split_at.result.1.now (sym c.is_some.ensures ∙ c.if-is_some.false) c.if-left-width.false
    c.first_number-number.ensures.number c.if-number-low.false c.if-high-number.false c.split_at.ensures.back
