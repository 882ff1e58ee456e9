use Rattle.std.proofs.Common.{◌&&◌, ◌==◌, ◌∙◌, List, ap, inr, sym}
use Rattle.std.specs.List.{list_any}
use Rattle.draid_slots.specs.declared.slot.Detached.{Detached}
use Rattle.draid_slots.specs.Table.{is_leaf_kind}
use Rattle.draid_shard.proofs.Leaves.{leaves_on}
use Rattle.draid_pool.specs.Committing.{later_than}
use Rattle.draid_pool.proofs.committing.stays.Goals as goal

pub returns-else-is_some : goal.returns-else-is_some
returns-else-is_some c =
    let later = c.leaves_later.ensures
    ∙ ap (λ (list : List Detached). list_any (λ (gone : Detached). is_leaf_kind gone.kind && (gone.number == c.args.leaf)) (later_than c.args.group list)) c.detached.ensures in (
      λ leaves. inr (sym later ∙ leaves),
      λ is. later ∙ leaves_on (record c.args.slots.now { detached = later_than c.args.group c.args.slots.now.detached }) c.args.leaf c.find.result
          (sym c.is_some.ensures ∙ c.if-is_some.false) c.find.ensures.none is,
    )
