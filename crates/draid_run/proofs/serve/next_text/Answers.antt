use Rattle.std.proofs.Common.{◌∙◌, Ok, Err, ap, subst}
use Rattle.std.specs.Io.KnownBytes.{prepend_known}
use Rattle.draid_lines.specs.Lines.{Answers, WhereKnown}
use Rattle.draid_run.proofs.Exits.{long_cause, source_rose, text_cause, text_same, wanting_cause}
use Rattle.draid_run.proofs.Known.{known_weaken}
use Rattle.draid_run.proofs.serve.next_text.Goals as goal

pub returns-in-Ok-clause-later : goal.returns-in-Ok-clause-later
returns-in-Ok-clause-later g c = c.next.ensures.later

pub returns-in-Err-SourceFault-clause-later : goal.returns-in-Err-SourceFault-clause-later
returns-in-Err-SourceFault-clause-later g c = c.next.ensures.later

pub returns-in-Err-TooLong-clause-later : goal.returns-in-Err-TooLong-clause-later
returns-in-Err-TooLong-clause-later g c = c.next.ensures.later

pub returns-in-Err-NoMemory-clause-later : goal.returns-in-Err-NoMemory-clause-later
returns-in-Err-NoMemory-clause-later g c = c.next.ensures.later

pub returns-in-Ok-clause-cause : goal.returns-in-Ok-clause-cause
returns-in-Ok-clause-cause g c = text_cause _ _

pub returns-in-Err-TooLong-clause-cause : goal.returns-in-Err-TooLong-clause-cause
returns-in-Err-TooLong-clause-cause g c = long_cause _ _

pub returns-in-Err-NoMemory-clause-cause : goal.returns-in-Err-NoMemory-clause-cause
returns-in-Err-NoMemory-clause-cause g c = wanting_cause _

pub returns-in-Err-SourceFault-clause-cause : goal.returns-in-Err-SourceFault-clause-cause
returns-in-Err-SourceFault-clause-cause g c is = source_rose _ _ _ c.requires (c.next.ensures.cause (c.in-Err-SourceFault.is ∙ ap Err c.in-Err-SourceFault.field-0-is))

pub returns-in-Ok-clause-end : goal.returns-in-Ok-clause-end
returns-in-Ok-clause-end g c is = (c.next.ensures.end (c.in-Ok.is ∙ ap Ok (text_same _ _ is))).3

pub returns-in-Err-SourceFault-clause-text : goal.returns-in-Err-SourceFault-clause-text
returns-in-Err-SourceFault-clause-text g c =
    subst (λ r. WhereKnown (prepend_known c.args.lines.now.held (g.S.Source.left c.args.source.now)) (prepend_known c.next.new.self.held (g.S.Source.left c.next.new.source)) (λ old new. Answers c.args.lines.now.given old new r))
    (c.in-Err-SourceFault.is ∙ ap Err c.in-Err-SourceFault.field-0-is) (c.next.ensures.answer c.requires)

pub returns-in-Err-NoMemory-clause-text : goal.returns-in-Err-NoMemory-clause-text
returns-in-Err-NoMemory-clause-text g c =
    subst (λ r. WhereKnown (prepend_known c.args.lines.now.held (g.S.Source.left c.args.source.now)) (prepend_known c.next.new.self.held (g.S.Source.left c.next.new.source)) (λ old new. Answers c.args.lines.now.given old new r))
    (c.in-Err-NoMemory.is ∙ ap Err c.in-Err-NoMemory.field-0-is) (c.next.ensures.answer c.requires)

pub returns-in-Err-TooLong-clause-text : goal.returns-in-Err-TooLong-clause-text
returns-in-Err-TooLong-clause-text g c =
    let known = subst (λ r. WhereKnown (prepend_known c.args.lines.now.held (g.S.Source.left c.args.source.now)) (prepend_known c.next.new.self.held (g.S.Source.left c.next.new.source)) (λ old new. Answers c.args.lines.now.given old new r))
    (c.in-Err-TooLong.is ∙ ap Err c.in-Err-TooLong.field-0-is) (c.next.ensures.answer c.requires) in
    ((c.next.ensures.too_long c.in-Err-TooLong.line c.requires (c.in-Err-TooLong.is ∙ ap Err c.in-Err-TooLong.field-0-is)).0, known_weaken (prepend_known c.args.lines.now.held (g.S.Source.left c.args.source.now)) (prepend_known c.next.new.self.held (g.S.Source.left c.next.new.source)) _ _ (λ old new is. is.0) known)
