use Rattle.std.proofs.Common.{rules, sym, ap, ◌∙◌, ◌∷◌, Some}
use Rattle.atomic_table.specs.Table.{rest}
use Rattle.draid_turn.proofs.turn.Turn.act_in_turn.Goals as goal

pub slot_mut-slot-requires : goal.slot_mut-slot-requires
slot_mut-slot-requires g c = let r = c.requires.ready in (search rules, (Some r.value, r.is ∙ ap (λ l. (0, Some r.value) ∷ rest l) (sym r.is)))
