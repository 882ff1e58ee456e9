-- What the reply of an export says, by the answer of its sync.
use Rattle.std.proofs.Common.{◌≡◌, ℕ, false, Result, Ok, Err, refl, subst}
use Rattle.draid_names.specs.declared.fault.Failed.{Failed}
use Rattle.draid_rack.specs.declared.Rack as racks
use Rattle.draid_area.specs.declared.Area as areas
use Rattle.draid_reply.specs.declared.reply.Reply.{Reply}
use Rattle.draid_reply.specs.declared.reply.Reply.TheVariants.{Exported}
use Rattle.draid_session.specs.State.{State}
use Rattle.draid_pool.specs.Carries.{CarriesOut}
use Rattle.draid_pool.specs.Pools.{Represents}
use Rattle.draid_pool.specs.Returning.{GivesBack}
use Rattle.draid_pool.specs.Shelves.{OnShelf}
use Rattle.draid_pool.specs.declared.fault.SyncFault.{SyncFault}
use Rattle.draid_pool.specs.declared.pool.Pool.{Pool}
use Rattle.draid_pool.proofs.Steps.{by_answer}
use Rattle.draid_export.specs.Exporting.{ExportDoes, IsExported, IsRefusal, RefusalSays}

-- a reply names one group
pub exported_group : (a b : ℕ) → Exported a ≡ Exported b → a ≡ b
exported_group a b same = cc

module _ {R A : Type 0} (rack : racks.Ghosts R) (area : areas.Ghosts A) (new : Pool R A) (x : State) (result : Result ℕ SyncFault) (c : CarriesOut rack area new x (ExportDoes x result)) where
  -- all was made safe, and the pool was given back
  pub exported : (group : ℕ) → result ≡ Ok group → (before now : OnShelf) → ((y : State) → Represents rack area new y → GivesBack y false now.held now.leaves now.counts now.own)
      → IsExported x before now (Exported group)
  exported group is before now back = record {
    group = group;
    reply_is = refl;
    holds = c.holds;
    reached = c.reached;
    store = c.store;
    follows = c.follows;
    done = subst (λ r. ExportDoes x r c.holds c.store) is c.done;
    back = back (record c.reached { store = c.store }) c.represents;
  }

  -- or a sync was refused
  pub refused : (why : SyncFault) → result ≡ Err why → (said : Result Reply Failed) → IsRefusal why said → CarriesOut rack area new x (RefusalSays said x)
  refused why is said refusal = by_answer rack area (ExportDoes x) _ x new result (Err why) is (λ holds store does. (why, refusal, does)) c
