-- What a shard stands for is one alone, of what came from one metaslab.
use Rattle.std.proofs.Common.{◌≡◌, ◌∙◌, ◌++◌, ◌∷◌, [], List, sym, subst}
use Rattle.draid_rack.specs.declared.Rack as racks
use Rattle.draid_area.specs.declared.Area as areas
use Rattle.draid_machine.specs.declared.event.Event.{Event}
use Rattle.draid_machine.specs.Created.{created}
use Rattle.draid_machine.specs.State as machine
use Rattle.draid_machine.specs.Step.{Run}
use Rattle.draid_machine.proofs.Unique.{one_history}
use Rattle.draid_session.specs.State.{Metaslab}
use Rattle.draid_shard.specs.Part.{Part, layout_in}
use Rattle.draid_shard.specs.States.{part_of}
use Rattle.draid_shard.specs.declared.shard.Shard.{Shard}
use Rattle.draid_shard.proofs.Standing.{has_layout}
use Rattle.draid_lanes.specs.Traces.{Came}

run_join : (l : machine.Layout) (w v u : machine.State) (es fs : List Event) → Run l w es v → Run l v fs u → Run l w (es ++ fs) u
run_join l w v u [] fs x y = subst (λ t. Run l t fs u) x y
run_join l w v u (e ∷ es) fs x y = (x.0, x.1, run_join l x.0 v u es fs x.2 y)

same_tail : (e f : Event) (es fs : List Event) → ◌≡◌ {A = List Event} (e ∷ es) (f ∷ fs) → es ≡ fs
same_tail e f es fs is = cc

-- what stands behind the same events
same_rest : (es fs gs : List Event) → es ++ fs ≡ es ++ gs → fs ≡ gs
same_rest [] fs gs is = is
same_rest (e ∷ es) fs gs is = same_rest es fs gs (same_tail e e (es ++ fs) (es ++ gs) is)

module _ {R A : Type 0} (rack : racks.Ghosts R) (area : areas.Ghosts A) (part : Part) (x : Metaslab) (now : Shard R A) (a b : Came rack area part x now) where
  layout : machine.IsLayout (layout_in part)
  layout = subst (λ (p : Part). machine.IsLayout (layout_in p)) a.is.part_is (has_layout (part_of now) a.is.valid.part)

  events : a.reached.events ≡ b.reached.events
  events = a.is.events ∙ sym b.is.events

  more : a.since.more ≡ b.since.more
  more = same_rest x.events a.since.more b.since.more (sym a.since.stored ∙ (events ∙ b.since.stored))

  world : a.reached.world ≡ b.reached.world
  world =
      let first = a.began in
      one_history (layout_in part) first.version (first.events ++ a.since.more) a.reached.world b.reached.world layout
      (run_join (layout_in part) (created (layout_in part) first.version) x.world a.reached.world first.events a.since.more first.run a.since.run)
      (subst (λ es. Run (layout_in part) (created (layout_in part) first.version) (first.events ++ es) b.reached.world) (sym more)
      (run_join (layout_in part) (created (layout_in part) first.version) x.world b.reached.world first.events b.since.more first.run b.since.run))

  opened : a.reached.opened ≡ b.reached.opened
  opened = a.since.opened ∙ sym b.since.opened

  reserved : a.reached.reserved ≡ b.reached.reserved
  reserved = a.is.reserved ∙ sym b.is.reserved

  counts : a.reached.counts ≡ b.reached.counts
  counts = a.is.counts ∙ sym b.is.counts

  harm : a.reached.harm ≡ b.reached.harm
  harm = a.is.harm ∙ sym b.is.harm

  pub one_metaslab : a.reached ≡ b.reached
  one_metaslab = λ i. record { opened = opened i; events = events i; world = world i; reserved = reserved i; counts = counts i; harm = harm i }
