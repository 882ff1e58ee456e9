use Rattle.std.proofs.Common.{◌∙◌, Ok, Err, ap, refl, sym}
use Rattle.draid_pool.specs.Shelves.{on_shelf}
use Rattle.draid_create.specs.declared.fault.CreateFault.TheVariants as fault
use Rattle.draid_create.proofs.Making.{same_later, says_made, says_unread}
use Rattle.draid_create.proofs.replies.reply_to_create.Goals as goal

pub returns-in-Err : goal.returns-in-Err
returns-in-Err g c = record {
  says = says_unread g.H.R.Rack g.H.A.Area c.args.text.now c.args.children c.args.keys (on_shelf g.H.Shelf c.args.shelf.now) (on_shelf g.H.Shelf c.args.shelf.now) c.args.pool.now c.in-Err.why (sym c.in-Err.is ∙ c.parse_spec.ensures.exact) c.requires.closed refl;
  later = same_later (g.H.Shelf.faults c.args.shelf.now);
}

pub returns-in-Ok-make : goal.returns-in-Ok-make
returns-in-Ok-make g c = record {
  says = says_made g.H.R.Rack g.H.A.Area c.args.text.now c.args.children c.args.keys (on_shelf g.H.Shelf c.args.shelf.now) (on_shelf g.H.Shelf c.make.new.shelf) c.make.new.pool c.in-Ok.spec c.props.result c.make.result (Ok c.in-Ok-make.field-0) _ (sym c.in-Ok.is ∙ c.parse_spec.ensures.exact) c.props.ensures
      (c.in-Ok-make.is) refl c.make.ensures.makes;
  later = c.make.ensures.later;
}

pub returns-in-Err-Spec : goal.returns-in-Err-Spec
returns-in-Err-Spec g c = record {
  says = says_made g.H.R.Rack g.H.A.Area c.args.text.now c.args.children c.args.keys (on_shelf g.H.Shelf c.args.shelf.now) (on_shelf g.H.Shelf c.make.new.shelf) c.make.new.pool c.in-Ok.spec c.props.result c.make.result (Err (fault.Spec c.in-Err-Spec.why)) _ (sym c.in-Ok.is ∙ c.parse_spec.ensures.exact) c.props.ensures
      (c.in-Err-Spec.is ∙ ap Err c.in-Err-Spec.field-0-is) refl c.make.ensures.makes;
  later = c.make.ensures.later;
}

pub returns-in-Err-NoMemory : goal.returns-in-Err-NoMemory
returns-in-Err-NoMemory g c = record {
  says = says_made g.H.R.Rack g.H.A.Area c.args.text.now c.args.children c.args.keys (on_shelf g.H.Shelf c.args.shelf.now) (on_shelf g.H.Shelf c.make.new.shelf) c.make.new.pool c.in-Ok.spec c.props.result c.make.result (Err fault.NoMemory) _ (sym c.in-Ok.is ∙ c.parse_spec.ensures.exact) c.props.ensures
      (c.in-Err-NoMemory.is ∙ ap Err c.in-Err-NoMemory.field-0-is) refl c.make.ensures.makes;
  later = c.make.ensures.later;
}

pub returns-in-Err-Shelf : goal.returns-in-Err-Shelf
returns-in-Err-Shelf g c = record {
  says = says_made g.H.R.Rack g.H.A.Area c.args.text.now c.args.children c.args.keys (on_shelf g.H.Shelf c.args.shelf.now) (on_shelf g.H.Shelf c.make.new.shelf) c.make.new.pool c.in-Ok.spec c.props.result c.make.result (Err fault.Shelf) _ (sym c.in-Ok.is ∙ c.parse_spec.ensures.exact) c.props.ensures
      (c.in-Err-Shelf.is ∙ ap Err c.in-Err-Shelf.field-0-is) tt c.make.ensures.makes;
  later = c.make.ensures.later;
}
