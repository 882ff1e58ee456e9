use Rattle.std.proofs.Common.{◌≡◌, ◌||◌, ◌∙◌, ap, sym, List, ℕ}
use Rattle.draid_machine.specs.Names.{has_number}
use Rattle.draid_shard.proofs.Missing.{number_any}
use Rattle.draid_heal.proofs.settle.is_settled.Goals as goal

pub returns-else-spot : goal.returns-else-spot
returns-else-spot c =
    let has : c.has_row.result ≡ has_number c.args.part.now.landed.items c.args.row
    = c.has_row.ensures ∙ number_any c.deref.result.now c.args.row ∙ ap (λ (rows : List ℕ). has_number rows c.args.row) c.deref.ensures.value in
    has ∙ sym (ap (λ b. b || has_number c.args.part.now.landed.items c.args.row) c.if-spot.false)
