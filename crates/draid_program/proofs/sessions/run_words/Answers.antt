use Rattle.std.proofs.Common.{◌∙◌, inl, map, Some}
use Rattle.std.specs.Prelude.{string_bytes}
use Rattle.draid_program.proofs.Booking.{named_in, one_folder, starved_book}
use Rattle.draid_program.proofs.sessions.run_words.Goals as goal

pub returns-in-Ok-Session-Some-clause-folder : goal.returns-in-Ok-Session-Some-clause-folder
returns-in-Ok-Session-Some-clause-folder g c path names =
    (let a = c.in-Ok-Session-Some in
    let it = c.run_in_folder.ensures.run in
    inl (it.0, it.1, it.2 ∙ one_folder (map string_bytes c.args.words.now) (string_bytes a.path) path (named_in (map string_bytes c.args.words.now) c.read_words.result a.field-0 a.field-0-0 a.path c.read_words.ensures.mode a.is a.field-0-is a.field-0-0-is) names, it.3))

pub returns-in-Err-NoMemory-clause-memory : goal.returns-in-Err-NoMemory-clause-memory
returns-in-Err-NoMemory-clause-memory g c none = starved_book (map string_bytes c.args.words.now) c.end_by.result (g.S.Source.left c.args.source.now) (g.K.Sink.held c.args.sink.now) (g.K.Sink.held c.end_by.new.sink) c.end_by.ensures.line

pub returns-in-Ok-Session-Some-clause-untouched : goal.returns-in-Ok-Session-Some-clause-untouched
returns-in-Ok-Session-Some-clause-untouched g c none =
    (let a = c.in-Ok-Session-Some in
    absurd (none (Some (string_bytes a.path), named_in (map string_bytes c.args.words.now) c.read_words.result a.field-0 a.field-0-0 a.path c.read_words.ensures.mode a.is a.field-0-is a.field-0-0-is)))
