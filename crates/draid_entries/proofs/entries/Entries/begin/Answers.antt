use Rattle.std.proofs.Common.{Some, None, refl, ap, length, ◌∙◌}
use Rattle.std.specs.Ordering.{nat_cmp}
use Rattle.std.specs.Map.{lookup}
use Rattle.std.specs.BTreeMap.{is_at}
use Rattle.draid_entries.specs.Entries.{begun}
use Rattle.draid_entries.specs.Maps.{first_in, key_of}
use Rattle.draid_entries.proofs.Keys.{first_lookup, key_set}
use Rattle.draid_entries.proofs.Sets.{agrees, agrees_still, comes, key_undone, on_err_of, one_more, one_undone, same_entries, sets, unused_key}
use Rattle.draid_entries.proofs.entries.Entries.begin.Goals as goal

pub invariant_of-self : goal.invariant_of-self
invariant_of-self c = record {
  agree = agrees_still c.args.self.now.firsts c.args.self.now.firsts c.args.self.now.keys c.insert.new.self c.args.self.now.agree (λ x. refl)
      (λ k. ap (λ es. first_in es k) c.in_err-insert.ensures.err);
  ordered = c.in_err-insert.ensures.ordered;
}

pub returns-in_err-insert-clause-same : goal.returns-in_err-insert-clause-same
returns-in_err-insert-clause-same c = on_err_of c.from_residual.result _ (same_entries c.args.self.now _ (λ x. refl) (λ k. ap (λ es. first_in es k) c.in_err-insert.ensures.err)
    (ap (λ es. length es) c.in_err-insert.ensures.err))

pub invariant_of-self-in-Ok : goal.invariant_of-self-in-Ok
invariant_of-self-in-Ok c = record {
  agree = agrees c.args.self.now.firsts c.insert-2.new.self c.args.self.now.keys c.insert.new.self c.args.pointer (Some (begun c.args.pointer))
      (comes c.args.self.now.firsts c.insert-2.new.self c.args.self.now.keys c.insert.new.self c.args.pointer c.key_of-key.result c.key_of-key.ensures c.args.self.now.agree c.requires.free c.requires.unused c.requires.low
      c.in-Ok.ensures.updates.0 c.in_ok-insert.ensures.updates.0);
  ordered = c.in_ok-insert.ensures.ordered;
}

pub returns-in-Ok-clause-entered : goal.returns-in-Ok-clause-entered
returns-in-Ok-clause-entered c = sets c.args.self.now _ c.args.pointer (Some (begun c.args.pointer))
    (comes c.args.self.now.firsts c.insert-2.new.self c.args.self.now.keys c.insert.new.self c.args.pointer c.key_of-key.result c.key_of-key.ensures c.args.self.now.agree c.requires.free c.requires.unused c.requires.low
    c.in-Ok.ensures.updates.0 c.in_ok-insert.ensures.updates.0)

pub invariant_of-self-in-Err : goal.invariant_of-self-in-Err
invariant_of-self-in-Err c = record {
  agree = agrees_still c.args.self.now.firsts c.insert-2.new.self c.args.self.now.keys c.remove.new.self c.args.self.now.agree
      (λ x. ap (λ es. lookup (is_at (nat_cmp x)) es) c.in-Err.ensures.err)
      (key_undone c.args.self.now.keys c.insert.new.self c.remove.new.self (key_of c.args.pointer) c.args.pointer.first
      (unused_key c.args.self.now.firsts c.args.self.now.keys (key_of c.args.pointer) c.args.self.now.agree c.requires.unused)
      (key_set c.args.self.now.keys.entries c.insert.new.self.entries c.key_of-key.result (key_of c.args.pointer) (Some c.args.pointer.first) c.key_of-key.ensures c.in_ok-insert.ensures.updates.0)
      (key_set c.insert.new.self.entries c.remove.new.self.entries c.key_of-key.result (key_of c.args.pointer) None c.key_of-key.ensures c.remove.ensures.updates.0));
  ordered = c.remove.ensures.ordered;
}

pub returns-in-Err-clause-same : goal.returns-in-Err-clause-same
returns-in-Err-clause-same c = same_entries c.args.self.now _
    (λ x. ap (λ es. lookup (is_at (nat_cmp x)) es) c.in-Err.ensures.err)
    (key_undone c.args.self.now.keys c.insert.new.self c.remove.new.self (key_of c.args.pointer) c.args.pointer.first
    (unused_key c.args.self.now.firsts c.args.self.now.keys (key_of c.args.pointer) c.args.self.now.agree c.requires.unused)
    (key_set c.args.self.now.keys.entries c.insert.new.self.entries c.key_of-key.result (key_of c.args.pointer) (Some c.args.pointer.first) c.key_of-key.ensures c.in_ok-insert.ensures.updates.0)
    (key_set c.insert.new.self.entries c.remove.new.self.entries c.key_of-key.result (key_of c.args.pointer) None c.key_of-key.ensures c.remove.ensures.updates.0))
    (let e = c.in_ok-insert.ensures in
    let none = unused_key c.args.self.now.firsts c.args.self.now.keys (key_of c.args.pointer) c.args.self.now.agree c.requires.unused in
    let was = e.old ∙ first_lookup c.args.self.now.keys.entries c.key_of-key.result ∙ ap (first_in c.args.self.now.keys.entries) c.key_of-key.ensures ∙ none in
    one_undone c.in_ok-insert.field-0 c.remove.result c.args.pointer.first _ _ _ was e.len (c.remove.ensures.value ∙ e.updates.1) c.remove.ensures.len)

pub returns-in-Ok-clause-count : goal.returns-in-Ok-clause-count
returns-in-Ok-clause-count c =
    let e = c.in_ok-insert.ensures in
    let none = unused_key c.args.self.now.firsts c.args.self.now.keys (key_of c.args.pointer) c.args.self.now.agree c.requires.unused in
    one_more c.in_ok-insert.field-0 _ _ (e.old ∙ first_lookup c.args.self.now.keys.entries c.key_of-key.result ∙ ap (first_in c.args.self.now.keys.entries) c.key_of-key.ensures ∙ none) e.len
