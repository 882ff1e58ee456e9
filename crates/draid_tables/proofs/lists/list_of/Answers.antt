use Rattle.std.proofs.Common.{◌∙◌, ◌++◌, ◌∷◌, [], Some, ap, subst, sym, take}
use Rattle.std.specs.declared.vec.Vec.{Vec}
use Rattle.std.specs.declared.alloc.Global.{Global}
use Rattle.draid_turn.specs.declared.span.Span.{Span}
use Rattle.std.proofs.lemmas.Option.{slice_get-get_or}
use Rattle.draid_tables.specs.Lists.{IsSpanOf, ListsNumbers, commands_of}
use Rattle.draid_tables.proofs.Listing.{commands_next, lists_more, lists_same}
use Rattle.draid_tables.proofs.lists.list_of.Goals as goal
use Rattle.draid_tables.proofs.lists.list_of.Goals.{in-Some+in_ok-push-2, in_default}
use Rattle.draid_script.specs.Line.{command_in}

pub loop-line-preserved : goal.loop-line-preserved
loop-line-preserved c =
    let lines = c.args.lines.now in
    let i = c.loop-line.line-index in
    let line = c.line-item.result in
    let there = slice_get-get_or lines i line c.loop-line-test.true ∙ ap Some (sym c.line-item.is) in
    let commands = commands_of (take i lines) in
    subst (λ cs. ListsNumbers c.args.lane cs c.match-span_of.list.items) (sym (commands_next lines i line there)) (elim c.match-span_of.branch [
      | in-Some+in_ok-push-2 w ↦ lists_more c.args.lane commands c.loop-line.list.items c.match-span_of.list.items (command_in line) w.in-Some.span c.loop-line.invariant
          (subst (IsSpanOf (command_in line)) w.in-Some.is c.span_of.ensures) (ap (λ (l : Vec Span Global). l.items) w.list-is ∙ w.in_ok-push-2.ensures.items)
      | in_default w ↦ subst (λ (l : Vec Span Global). ListsNumbers c.args.lane (commands ++ command_in line ∷ []) l.items) (sym w.list-is)
          (lists_same c.args.lane commands c.loop-line.list.items (command_in line) c.loop-line.invariant w.in_default.ensures)
    ])
