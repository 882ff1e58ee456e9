-- A call that did no event, and then one that did.
use Rattle.std.proofs.Common.{◌++◌, ◌∷◌, [], ◌∙◌, List, sym, ap, subst}
use Rattle.draid_machine.specs.declared.event.Event.{Event}
use Rattle.draid_machine.specs.Created.{IsReached}
use Rattle.draid_shard.specs.Part.{Part, layout_in}
use Rattle.draid_shard.specs.States.{Does, DoesNone, Leads}
use Rattle.draid_shard.specs.declared.shard.Shard.{Shard}

module _ {R A : Type 0} (old mid new : Shard R A) (event : Event) (first : DoesNone old mid) where
  pub does_then : Does mid new event → Does old new event
  does_then then_ = record {
    part = then_.part ∙ first.part;
    stored = then_.stored ∙ ap (λ (events : List Event). events ++ event ∷ []) first.stored;
    leads = λ w reached at.
        subst (λ (part : Part). Leads (layout_in part) w event new) first.part
        (then_.leads w (subst (λ (part : Part). IsReached (layout_in part) w) (sym first.part) reached) (first.stays w at));
  }
