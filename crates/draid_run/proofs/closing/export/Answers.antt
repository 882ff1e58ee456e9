use Rattle.std.proofs.Common.{◌∙◌, Some, subst, sym}
use Rattle.draid_pool.specs.Shelves.{on_shelf}
use Rattle.draid_pool.proofs.Rises.{rose_fails}
use Rattle.draid_run.specs.Closing.{ExportIs}
use Rattle.draid_run.specs.Serve.{stop_of}
use Rattle.draid_run.proofs.Closings.{export_refused, exported}
use Rattle.draid_run.proofs.Steps.{is_whole}
use Rattle.draid_run.proofs.closing.export.Goals as goal

pub reply_to_export-requires-clause-whole : goal.reply_to_export-requires-clause-whole
reply_to_export-requires-clause-whole g c κs within = is_whole g.H.R.Rack g.H.A.Area c.args.pool.now c.in-Some.open (sym c.take.ensures.value ∙ c.in-Some.is) c.requires.desk

pub returns-in-Ok-clause-answer : goal.returns-in-Ok-clause-answer
returns-in-Ok-clause-answer g c entry x desk =
    exported g.H.R.Rack g.H.A.Area entry (on_shelf g.H.Shelf c.args.shelf.now) (on_shelf g.H.Shelf c.reply_to_export.new.shelf) c.args.pool.now c.in-Some.open c.in-Some.open (sym c.take.ensures.value ∙ c.in-Some.is)
    c.in-Ok.reply c.in-Ok.ensures.fits c.in-Ok.ensures.step (g.met.H.Shelf.steady c.args.shelf.now c.reply_to_export.new.shelf) c.take.new.self c.take.ensures.after x desk

pub returns-in-Ok-reply-clause-answer : goal.returns-in-Ok-reply-clause-answer
returns-in-Ok-reply-clause-answer g c entry x desk =
    let kept = c.in-Err.field-0.pool in
    let e = c.in-Err.ensures in
    subst (λ s. ExportIs g.H.R.Rack g.H.A.Area entry x (on_shelf g.H.Shelf c.reply_to_export.new.shelf) (Some kept) (stop_of s)) c.in-Ok-reply.is
    (subst (λ z. ExportIs g.H.R.Rack g.H.A.Area entry x (on_shelf g.H.Shelf z) (Some kept) (stop_of c.in-Err.field-0.reply)) (sym e.alone)
    (export_refused g.H.R.Rack g.H.A.Area entry (on_shelf g.H.Shelf c.args.shelf.now) (on_shelf g.H.Shelf c.args.shelf.now) c.args.pool.now c.in-Some.open kept (sym c.take.ensures.value ∙ c.in-Some.is)
    c.in-Err.field-0.reply e.refused e.whole e.same (λ failed. rose_fails g.H.A.Area.faults c.in-Some.open kept (e.cause failed)) e.step x desk))

pub returns-in-Err-reply-clause-answer : goal.returns-in-Err-reply-clause-answer
returns-in-Err-reply-clause-answer g c entry x desk =
    let kept = c.in-Err.field-0.pool in
    let e = c.in-Err.ensures in
    subst (λ s. ExportIs g.H.R.Rack g.H.A.Area entry x (on_shelf g.H.Shelf c.reply_to_export.new.shelf) (Some kept) (stop_of s)) c.in-Err-reply.is
    (subst (λ z. ExportIs g.H.R.Rack g.H.A.Area entry x (on_shelf g.H.Shelf z) (Some kept) (stop_of c.in-Err.field-0.reply)) (sym e.alone)
    (export_refused g.H.R.Rack g.H.A.Area entry (on_shelf g.H.Shelf c.args.shelf.now) (on_shelf g.H.Shelf c.args.shelf.now) c.args.pool.now c.in-Some.open kept (sym c.take.ensures.value ∙ c.in-Some.is)
    c.in-Err.field-0.reply e.refused e.whole e.same (λ failed. rose_fails g.H.A.Area.faults c.in-Some.open kept (e.cause failed)) e.step x desk))
