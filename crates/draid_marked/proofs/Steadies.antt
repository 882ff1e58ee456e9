-- No command takes the open group of a metaslab back: its holds close, seal and commit groups, or leave them.
use Rattle.std.proofs.Common.{◌≡◌, ◌≢◌, ◌+◌, ◌++◌, ℕ, false, length, List, [], ◌∷◌, Option, Some, None, inl, inr, refl, sym, subst}
use Rattle.std.specs.Prelude.{⊤}
use Rattle.draid_names.specs.declared.journal.Did.{Did as Given}
use Rattle.draid_names.specs.declared.journal.Did.TheVariants as did
use Rattle.draid_names.specs.declared.journal.Entry.{Entry}
use Rattle.draid_names.specs.declared.pass_kind.PassKind.TheVariants.{Heal}
use Rattle.draid_names.specs.declared.refusal.SlotFault.{SlotFault}
use Rattle.draid_spec.specs.declared.layout.Geometry.{Geometry}
use Rattle.draid_perm.specs.declared.perms.Perms.{Perms}
use Rattle.draid_machine.specs.declared.names.ArmName.{ArmName}
use Rattle.draid_machine.specs.declared.names.ArmName.TheVariants.{Leaf, Spare}
use Rattle.draid_machine.specs.declared.event.Event.{Event}
use Rattle.draid_machine.specs.declared.event.Event.TheVariants as event
use Rattle.draid_objects.specs.Marks.{Mark}
use Rattle.draid_reply.specs.declared.reply.AgentErrors.{AgentErrors}
use Rattle.draid_reply.specs.declared.reply.Reply.{Reply}
use Rattle.draid_reply.specs.declared.reply.Reply.TheVariants.{Last, NoMemory, Rebuilt, Worn}
use Rattle.draid_script.specs.Line.{RebuildPool}
use Rattle.draid_script.specs.declared.name.CommandName.TheVariants as name
use Rattle.draid_session.specs.Agent as agent
use Rattle.draid_session.specs.Arms as arms
use Rattle.draid_session.specs.Balance as balance
use Rattle.draid_session.specs.Choices.{Choices, choices_by}
use Rattle.draid_session.specs.Does.{Broken, Does}
use Rattle.draid_session.specs.Discarding.{Discards, FreesKept}
use Rattle.draid_session.specs.GoingBack.{FreesBorn, GoesBack}
use Rattle.draid_session.specs.Groups as groups
use Rattle.draid_session.specs.Holds.{CallStarved, Did, Hold, Looked, LookedUber, MadeLeaf, On, OnUber, RackFailed, UberView, View}
use Rattle.draid_session.specs.Looks.{AllOf, Looks, OnlyLooks}
use Rattle.draid_session.specs.Making.{content_of}
use Rattle.draid_session.specs.Passes as passes
use Rattle.draid_session.specs.Passes.{Ended, Outcome, Paused, Stopped, Tally}
use Rattle.draid_session.specs.Phases.{Broke, Chain, End, Starved, WasLast, WasWorn, Went}
use Rattle.draid_session.specs.State.{Store}
use Rattle.draid_session.specs.Versions as versions
use Rattle.draid_session.proofs.Arming.{event_calm, reserve_calm, switch_calm}
use Rattle.draid_session.proofs.Balancing.{rebuilds_no_scrub}
use Rattle.draid_session.proofs.Calm.{IsCalm, IsCalmHold, calm_both, looks_calm}
use Rattle.draid_session.proofs.Changing.{looks_from_calm}
use Rattle.draid_session.proofs.Grouped.{OfSync, finish_all, sync_all}
use Rattle.draid_session.proofs.Groupwise.{IsSteady, IsSteadyHold}
use Rattle.draid_session.proofs.Lanewise.{all_more}
use Rattle.draid_session.proofs.Passing.{lends_calm, starts_calm}
use Rattle.draid_session.proofs.Phased.{IsPhase, all_both, chain_all, walk_all}
use Rattle.draid_session.proofs.Rebuilding.{nothing_calm, rebuild_all, rebuild_broken}

-- ---- holds that leave the groups

calm_is_steady : (e : Event) → IsCalm e → IsSteady e
calm_is_steady (event.Close t) calm = tt
calm_is_steady (event.Commit t) calm = tt
calm_is_steady e calm = calm

hold_steady : (hold : Hold) → IsCalmHold hold → IsSteadyHold hold
hold_steady (On v (Did e w)) calm = calm_is_steady e calm
hold_steady (On v act) calm = tt
hold_steady (OnUber u act) calm = tt

pub calm_steady : (holds : List Hold) → AllOf IsCalmHold holds → AllOf IsSteadyHold holds
calm_steady holds calm = all_more IsCalmHold IsSteadyHold holds hold_steady calm

pub looks_steady : (holds : List Hold) → OnlyLooks holds → AllOf IsSteadyHold holds
looks_steady holds looks = calm_steady holds (looks_calm holds looks)

pub none_steady : (holds : List Hold) → holds ≡ [] → AllOf IsSteadyHold holds
none_steady holds is = subst (AllOf IsSteadyHold) (sym is) tt

of_sync : OfSync IsSteadyHold
of_sync = record { look = λ v. tt; close = λ v t w. tt; seal = λ v t failed w. tt; commit = λ v t w. tt; area = λ v t. tt; starve = λ v. tt; uber = λ u act. tt }

abbrev S : List Hold → Type 0
S holds = AllOf IsSteadyHold holds

module _ (geometry : Geometry) (perms : Perms) where
  calm_phase : (P : List Hold → End → Type 0) → IsPhase IsCalmHold P → IsPhase IsSteadyHold P
  calm_phase P calm holds end p = calm_steady holds (calm holds end p)

  pub finishes_steady : IsPhase IsSteadyHold (groups.Finishes geometry perms)
  finishes_steady holds end f = finish_all IsSteadyHold of_sync geometry perms holds end f

  pub syncs_steady : (group thin : ℕ) → IsPhase IsSteadyHold (groups.Syncs geometry perms group thin)
  syncs_steady group thin holds end s = sync_all IsSteadyHold of_sync geometry perms group thin holds end s

  looked_steady : (looks : List Hold) (views : List View) → Looks geometry.props.metaslabs looks views → S looks
  looked_steady looks views looked = calm_steady looks (looks_from_calm 0 geometry.props.metaslabs looks views looked)

  pub exports_steady : (marks : List Mark) (group : ℕ) → IsPhase IsSteadyHold (groups.Exports geometry perms marks group)
  exports_steady marks group holds end e =
      subst S (sym e.are) (all_both IsSteadyHold e.looks (OnUber e.u LookedUber ∷ e.rest) (looked_steady e.looks e.views e.looked) (
        tt,
        elim e.does [
          | inl none ↦ none_steady e.rest none.2
          | inr more ↦ syncs_steady group more.1.0 e.rest end more.1.1
        ],
      ))

  -- ---- arms

  begins_steady : (holds : List Hold) (views : List View) (u : UberView) (rest : List Hold) → arms.Begins geometry perms holds views u rest → S rest → S holds
  begins_steady holds views u rest b behind =
      subst S (sym b.are) (all_both IsSteadyHold b.finish (b.looks ++ OnUber u LookedUber ∷ rest) (finishes_steady b.finish Went b.finishes)
      (all_both IsSteadyHold b.looks (OnUber u LookedUber ∷ rest) (looked_steady b.looks views b.looked) (tt, behind)))

  pub refuses_steady : (Breaks : List View → UberView → SlotFault → Type 0) (why : SlotFault) (holds : List Hold) → arms.Refuses geometry perms Breaks why holds → S holds
  refuses_steady Breaks why holds r = begins_steady holds r.views r.u [] r.begins tt

  comes_steady : (Breaks : List View → UberView → SlotFault → Type 0) (Goes : List View → UberView → List Hold → End → Type 0) → ((views : List View) (u : UberView) → IsPhase IsSteadyHold (Goes views u))
      → IsPhase IsSteadyHold (arms.Comes geometry perms Breaks Goes)
  comes_steady Breaks Goes goes holds end (inl g) = begins_steady holds g.views g.u g.rest g.begins (goes g.views g.u g.rest end g.does)
  comes_steady Breaks Goes goes holds end (inr f) = finishes_steady holds end f.2

  reserve_phase : (need : View → ℕ) → IsPhase IsSteadyHold (arms.ReservePhase geometry perms need)
  reserve_phase need holds end p = calm_steady holds (reserve_calm geometry perms need holds end p)

  event_phase : (e : Event) → IsCalm e → IsPhase IsSteadyHold (arms.EventPhase geometry perms e)
  event_phase e calm holds end p = calm_steady holds (event_calm geometry perms e calm holds end p)

  module _ (leaf : ℕ) where
    makes : (m : ℕ) (hold : Hold) (none : ℕ) → arms.Makes geometry perms leaf m hold none → IsSteadyHold hold
    makes m (On v (MadeLeaf made)) none r = tt
    makes m hold none r = absurd r

    make_stops : (m : ℕ) (hold : Hold) (end : End) → arms.MakeStops geometry perms m hold end → IsSteadyHold hold
    make_stops m (On v RackFailed) Broke s = tt
    make_stops m (On v CallStarved) Starved s = tt
    make_stops m hold end s = absurd s

    make_phase : IsPhase IsSteadyHold (arms.MakePhase geometry perms leaf)
    make_phase holds end p = walk_all IsSteadyHold (arms.Makes geometry perms leaf) (arms.MakeStops geometry perms) makes make_stops 0 geometry.props.metaslabs holds end 0 p

  number_phase : (next : ℕ) → IsPhase IsSteadyHold (arms.Numbers geometry perms next)
  number_phase next holds end p = subst S (sym p.1) (tt, tt)

  switches : (e : Event) → IsCalm e → (views : List View) (u : UberView) → IsPhase IsSteadyHold (arms.Switches geometry perms e views u)
  switches e calm views u holds end p = calm_steady holds (switch_calm geometry perms e calm views u holds end p)

  pub offline_steady : (leaf : ℕ) → IsPhase IsSteadyHold (arms.TakesOffline geometry perms leaf)
  offline_steady leaf holds end c = comes_steady (arms.NoLeaf geometry perms leaf) (arms.Switches geometry perms (event.Offline leaf)) (switches (event.Offline leaf) tt) holds end c

  pub online_steady : (leaf : ℕ) → IsPhase IsSteadyHold (arms.TakesOnline geometry perms leaf)
  online_steady leaf holds end c = comes_steady (arms.NoLeaf geometry perms leaf) (arms.Switches geometry perms (event.Online leaf)) (switches (event.Online leaf) tt) holds end c

  pub spare_steady : (slot spare : ℕ) → IsPhase IsSteadyHold (arms.TakesSpare geometry perms slot spare)
  spare_steady slot spare holds end c = comes_steady (arms.BreaksSpare geometry perms slot spare) (arms.AttachesSpare geometry perms slot spare) attaches holds end c
    where
      attaches : (views : List View) (u : UberView) → IsPhase IsSteadyHold (arms.AttachesSpare geometry perms slot spare views u)
      attaches views u = chain_all IsSteadyHold (arms.ReservePhase geometry perms (arms.attach_events geometry perms)) (arms.EventPhase geometry perms (event.Attach slot (Spare spare)))
          (reserve_phase (arms.attach_events geometry perms)) (event_phase (event.Attach slot (Spare spare)) tt)

  pub disk_steady : (slot : ℕ) (sectors : Option ℕ) (leaf : ℕ) → IsPhase IsSteadyHold (arms.TakesDisk geometry perms slot sectors leaf)
  disk_steady slot sectors leaf holds end c = comes_steady (arms.BreaksDisk geometry perms slot sectors) (arms.AttachesDisk geometry perms slot leaf) attaches holds end c
    where
      attaches : (views : List View) (u : UberView) → IsPhase IsSteadyHold (arms.AttachesDisk geometry perms slot leaf views u)
      attaches views u hs e d =
          chain_all IsSteadyHold (arms.ReservePhase geometry perms (arms.attach_events geometry perms))
          (Chain (arms.MakePhase geometry perms leaf) (Chain (arms.Numbers geometry perms (leaf + 1)) (arms.EventPhase geometry perms (event.Attach slot (Leaf leaf)))))
          (reserve_phase (arms.attach_events geometry perms))
          (chain_all IsSteadyHold (arms.MakePhase geometry perms leaf) (Chain (arms.Numbers geometry perms (leaf + 1)) (arms.EventPhase geometry perms (event.Attach slot (Leaf leaf)))) (make_phase leaf)
          (chain_all IsSteadyHold (arms.Numbers geometry perms (leaf + 1)) (arms.EventPhase geometry perms (event.Attach slot (Leaf leaf))) (number_phase (leaf + 1)) (event_phase (event.Attach slot (Leaf leaf)) tt)))
          hs e d.1

  pub loses_steady : (arm : ArmName) (group : ℕ) → IsPhase IsSteadyHold (arms.LosesArm geometry perms arm group)
  loses_steady arm group holds end c = comes_steady (arms.BreaksDetach geometry perms arm) (λ views u. arms.Leaves geometry perms arm group views) leaves holds end c
    where
      leaves : (views : List View) (u : UberView) → IsPhase IsSteadyHold (arms.Leaves geometry perms arm group views)
      leaves views u hs e l =
          chain_all IsSteadyHold (arms.ReservePhase geometry perms (arms.one_event geometry perms)) (Chain (arms.EventPhase geometry perms (event.Detach l.slot arm)) (groups.Syncs geometry perms group l.thin))
          (reserve_phase (arms.one_event geometry perms))
          (chain_all IsSteadyHold (arms.EventPhase geometry perms (event.Detach l.slot arm)) (groups.Syncs geometry perms group l.thin) (event_phase (event.Detach l.slot arm) tt) (syncs_steady group l.thin)) hs e l.goes

  -- ---- versions

  asks : IsPhase IsSteadyHold versions.Asks
  asks holds end p = subst S (sym p.1) (tt, tt)

  pub upgrades_steady : (group : ℕ) → IsPhase IsSteadyHold (versions.Upgrades geometry perms group)
  upgrades_steady group holds end (inr f) = finishes_steady holds end f.2
  upgrades_steady group holds end (inl g) = begins_steady holds g.views g.u g.rest g.begins (asked g.thin g.rest end g.does)
    where
      asked : (thin : ℕ) → IsPhase IsSteadyHold (versions.Asked geometry perms group thin)
      asked thin =
          chain_all IsSteadyHold (arms.ReservePhase geometry perms (arms.one_event geometry perms)) (Chain (arms.EventPhase geometry perms event.Upgrade) (Chain versions.Asks (groups.Syncs geometry perms group thin)))
          (reserve_phase (arms.one_event geometry perms))
          (chain_all IsSteadyHold (arms.EventPhase geometry perms event.Upgrade) (Chain versions.Asks (groups.Syncs geometry perms group thin)) (event_phase event.Upgrade tt)
          (chain_all IsSteadyHold versions.Asks (groups.Syncs geometry perms group thin) asks (syncs_steady group thin)))

  pub already_steady : (holds : List Hold) → versions.IsAlready geometry perms holds → S holds
  already_steady holds a = begins_steady holds a.views a.u [] a.begins tt

  -- ---- passes

  ready_calm : (m : ℕ) → IsPhase IsCalmHold (passes.ReadyPhase geometry perms Heal m)
  ready_calm m holds end r = subst (AllOf IsCalmHold) (sym r.0) tt

  begins_calm : (m at : ℕ) → IsPhase IsCalmHold (passes.BeginsVisit geometry perms Heal m at)
  begins_calm m at = chain_all IsCalmHold (passes.Starts geometry perms Heal m at) (passes.ReadyPhase geometry perms Heal m) (starts_calm geometry perms Heal m at) (ready_calm m)

  visit_calm : (m : ℕ) (left : Option ℕ) (t : Tally) (holds : List Hold) (o : Outcome) (after : Option ℕ) (new : Tally) → passes.Visits geometry perms Heal m left t holds o after new → AllOf IsCalmHold holds
  visit_calm m left t holds o after new v =
      subst (AllOf IsCalmHold) (sym v.are) (calm_both v.front v.back (begins_calm m v.at v.front Went v.begins)
      (lends_calm geometry perms Heal m v.units left (passes.has_begun (passes.pool_stripe geometry perms m v.at) t) v.back o after new v.lends))

  visits_calm : (views : List View) (left : Option ℕ) (t : Tally) (holds : List Hold) (o : Outcome) (new : Tally)
      → passes.VisitsAll geometry perms Heal (passes.AnyView geometry perms) views left t holds o new → AllOf IsCalmHold holds
  visits_calm [] left t holds o new w = subst (AllOf IsCalmHold) (sym w.0) tt
  visits_calm (v ∷ views) left t holds o new (inl w) = visits_calm views left t holds o new w.1
  visits_calm (v ∷ views) left t holds o new (inr (visited, inl w)) = visit_calm v.metaslab left t holds o w.0 new w.2
  visits_calm (v ∷ views) left t holds o new (inr (visited, inr (inl w))) = begins_calm v.metaslab w.3.at holds w.0 w.3.begins
  visits_calm (v ∷ views) left t holds o new (inr (visited, inr (inr (inl w)))) =
      subst (AllOf IsCalmHold) (sym w.4) (calm_both w.0 w.1 (visit_calm v.metaslab left t w.0 Ended w.2 w.3 w.5) (visits_calm views w.2 w.3 w.1 o new w.6))
  visits_calm (v ∷ views) left t holds o new (inr (visited, inr (inr (inr w)))) = absurd (rebuilds_no_scrub w.3)

  pub scrubs_steady : (limit : Option ℕ) (holds : List Hold) (o : Outcome) (t : Tally) → passes.Scrubs geometry perms limit holds o t → S holds
  scrubs_steady limit holds o t s =
      calm_steady holds (subst (AllOf IsCalmHold) (sym s.finds.are) (calm_both s.finds.looks s.rest (looks_from_calm 0 geometry.props.metaslabs s.finds.looks s.views s.finds.looked)
      (visits_calm s.visited limit passes.nothing_yet s.rest o t s.visits)))

  -- what a rebuild does is said by its replies
  nothing_stored : Store
  nothing_stored = record { changes = []; marks = []; seq = 0; floor = 0 }

  any_choices : Choices
  any_choices = choices_by (λ rooms m. ⊥)

  pub rebuild_steady : (choices : Choices) (limit : Option ℕ) (r : Reply) (old new : Store) (holds : List Hold) → Does geometry perms choices content_of (RebuildPool limit) old holds r new → S holds
  rebuild_steady choices limit r old new holds d =
      rebuild_all geometry perms IsSteadyHold (λ hs. ⊤) (λ front back k. (tt, tt)) hold_steady (λ group thin hs end s k. syncs_steady group thin hs end s) choices limit r old new holds d tt

  pub rebuild_breaks_steady : (limit : Option ℕ) (old new : Store) (holds : List Hold) → Broken geometry perms (RebuildPool limit) old holds new → S holds
  rebuild_breaks_steady limit old new holds d =
      rebuild_broken geometry perms IsSteadyHold (λ hs. ⊤) (λ front back k. (tt, tt)) hold_steady (λ group thin hs end s k. syncs_steady group thin hs end s) limit old new holds d tt

  nothing_steady : (limit : Option ℕ) (holds : List Hold) → passes.RebuildsNothing geometry perms limit holds → S holds
  nothing_steady limit holds n = calm_steady holds (nothing_calm geometry perms limit holds n)

  rebuilds_ended : (limit : Option ℕ) (holds : List Hold) (t : Tally) → passes.Rebuilds geometry perms limit holds Ended t → S holds
  rebuilds_ended limit holds t r = by t.from refl
    where
      by : (at : Option ℕ) → t.from ≡ at → S holds
      by None none = nothing_steady limit holds (record { views = r.views; rest = r.rest; t = t; finds = r.finds; visits = r.visits; none = none })
      by (Some at) some = rebuild_steady any_choices limit (Rebuilt at t.units t.errors false) nothing_stored nothing_stored holds (refl, (t, r, some, refl, refl))

  rebuilds_stopped : (limit : Option ℕ) (holds : List Hold) (end : End) (t : Tally) → end ≢ Went → passes.Rebuilds geometry perms limit holds (Stopped end) t → S holds
  rebuilds_stopped limit holds Went t other r = absurd (other refl)
  rebuilds_stopped limit holds WasWorn t other r = rebuild_steady any_choices limit (Worn name.Rebuild) nothing_stored nothing_stored holds (refl, (t, other, r))
  rebuilds_stopped limit holds WasLast t other r = rebuild_steady any_choices limit (Last name.Rebuild) nothing_stored nothing_stored holds (refl, (t, other, r))
  rebuilds_stopped limit holds Starved t other r = rebuild_steady any_choices limit (NoMemory name.Rebuild) nothing_stored nothing_stored holds (refl, inl (t, other, r))
  rebuilds_stopped limit holds Broke t other r = rebuild_breaks_steady limit nothing_stored nothing_stored holds (refl, (t, other, r))

  cancel_calm : (m : ℕ) (hold : Hold) (ended : ℕ) → passes.CancelsAt geometry perms m hold ended → IsSteadyHold hold
  cancel_calm m (On v (Did event.Cancel after)) ended c = tt
  cancel_calm m (On v Looked) ended c = tt
  cancel_calm m hold ended c = absurd c

  pub cancels_steady : (ended : ℕ) (holds : List Hold) → passes.Cancels geometry perms ended holds → S holds
  cancels_steady ended holds c = walk_all IsSteadyHold (passes.CancelsAt geometry perms) (passes.NeverStops geometry perms) cancel_calm (λ m hold end stop. absurd stop) 0 geometry.props.metaslabs holds Went ended c

  -- ---- a slot goes back to its last leaf

  go_phase : (slot : ℕ) (others : List ArmName) → IsPhase IsSteadyHold (balance.GoAll geometry perms slot others)
  go_phase slot [] holds end g = subst S (sym g.0) tt
  go_phase slot (n ∷ ns) holds end g =
      chain_all IsSteadyHold (arms.ReservePhase geometry perms (arms.one_event geometry perms)) (Chain (arms.EventPhase geometry perms (event.Detach slot n)) (balance.GoAll geometry perms slot ns))
      (reserve_phase (arms.one_event geometry perms))
      (chain_all IsSteadyHold (arms.EventPhase geometry perms (event.Detach slot n)) (balance.GoAll geometry perms slot ns) (event_phase (event.Detach slot n) tt) (go_phase slot ns)) holds end g

  balances_steady : (slot errors : ℕ) (holds : List Hold) (result : balance.Balance) → balance.Balances geometry perms slot errors holds result → S holds
  balances_steady slot errors holds result b =
      subst S (sym b.are) (all_both IsSteadyHold b.looks b.rest (looked_steady b.looks b.views b.looked) (elim b.does [
        | inl kept ↦ none_steady b.rest kept.1
        | inr (others, group, thin, end, may, goes, how) ↦ chain_all IsSteadyHold (balance.GoAll geometry perms slot others) (groups.Syncs geometry perms group thin) (go_phase slot others) (syncs_steady group thin) b.rest end goes
      ]))

  scrubs_then_steady : (slot : ℕ) (holds : List Hold) (t : Tally) (result : balance.Balance) → balance.ScrubsThen geometry perms slot holds t result → S holds
  scrubs_then_steady slot holds t result (inl (front, back, are, scrubs, balances)) =
      subst S (sym are) (all_both IsSteadyHold front back (scrubs_steady None front Ended t scrubs) (balances_steady slot t.errors back result balances))
  scrubs_then_steady slot holds t result (inr (end, other, scrubs, is)) = scrubs_steady None holds (Stopped end) t scrubs

  pub rebalances_steady : (slot : ℕ) (holds : List Hold) (t : Tally) (result : balance.Balance) → balance.Rebalances geometry perms slot holds t result → S holds
  rebalances_steady slot holds t result r =
      subst S (sym r.finds.are) (all_both IsSteadyHold r.finds.looks r.rest (looked_steady r.finds.looks r.views r.finds.looked) (by r.does))
    where
      by : balance.SyncsThen geometry perms slot r.rest t result → S r.rest
      by (inl (front, back, group, thin, are, syncs, then)) = subst S (sym are) (all_both IsSteadyHold front back (syncs_steady group thin front Went syncs) (scrubs_then_steady slot back t result then))
      by (inr w) = syncs_steady w.0 w.1 r.rest w.2 w.4

  -- ---- the repair agent

  module _ (chosen : ℕ → ℕ → List ℕ → Option ℕ → Type 0) where
    agent_begins : (holds : List Hold) (views : List View) (rest : List Hold) → agent.Begins geometry perms chosen holds views rest → S rest → S holds
    agent_begins holds views rest b behind =
        subst S (sym b.are) (all_both IsSteadyHold b.finish (b.looks ++ rest) (finishes_steady b.finish Went b.finishes) (all_both IsSteadyHold b.looks rest (looked_steady b.looks views b.looked) behind))

    then_phase : (given : Given) (slot : ℕ) (Then : List Hold → End → Type 0) → IsPhase IsSteadyHold Then → IsPhase IsSteadyHold (agent.AttachesThen geometry perms chosen given slot Then)
    then_phase did.NoneFree slot Then all holds end a = all holds end a
    then_phase (did.Spared spare) slot Then all holds end a =
        chain_all IsSteadyHold (arms.EventPhase geometry perms (event.Attach slot (Spare spare))) Then (event_phase (event.Attach slot (Spare spare)) tt) all holds end a

    attaches_phase : (entries : List Entry) → IsPhase IsSteadyHold (agent.AttachesAll geometry perms chosen entries)
    attaches_phase [] holds end a = subst S (sym a.0) tt
    attaches_phase (e ∷ entries) holds end a = then_phase e.did e.slot (agent.AttachesAll geometry perms chosen entries) (attaches_phase entries) holds end a

    acts_steady : (least number : ℕ) (entries : List Entry) (holds rest : List Hold) → agent.Acts geometry perms chosen least number entries holds rest → S rest → S holds
    acts_steady least number entries holds rest a behind = agent_begins holds a.views a.back a.begins
        (subst S (sym a.are) (all_both IsSteadyHold a.reserving (a.coming ++ rest) (reserve_phase (λ v. length entries) a.reserving Went a.reserves)
        (all_both IsSteadyHold a.coming rest (attaches_phase entries a.coming Went a.comes) behind)))

    rebuilds_all_steady : (errors : ℕ) (holds : List Hold) → agent.RebuildsAll geometry perms chosen errors holds → S holds
    rebuilds_all_steady errors holds (inl (t, r, is)) = rebuilds_ended None holds t r
    rebuilds_all_steady errors holds (inr (nothing, is)) = nothing_steady None holds nothing

    heals_steady : (entries : List Entry) (errors : Option AgentErrors) (holds : List Hold) → agent.HealsFor geometry perms chosen entries errors holds → S holds
    heals_steady entries None holds h = none_steady holds h.0
    heals_steady entries (Some errors) holds (came, (front, back, are, rebuilds, scrubs)) =
        subst S (sym are) (all_both IsSteadyHold front back (rebuilds_all_steady errors.rebuild front rebuilds) (scrubs_steady None back Ended scrubs.0 scrubs.1))

    heal_stops_steady : (holds : List Hold) (end : End) → agent.HealStops geometry perms chosen holds end → S holds
    heal_stops_steady holds end (inl (t, other, r)) = rebuilds_stopped None holds end t other r
    heal_stops_steady holds end (inr (errors, front, back, t, other, are, rebuilds, scrubs)) =
        subst S (sym are) (all_both IsSteadyHold front back (rebuilds_all_steady errors front rebuilds) (scrubs_steady None back (Stopped end) t scrubs))

    pub repairs_steady : (least number : ℕ) (entries : List Entry) (errors : Option AgentErrors) (holds : List Hold) → agent.Repairs geometry perms chosen least number entries errors holds → S holds
    repairs_steady least number entries errors holds (rest, some, acts, heals) = acts_steady least number entries holds rest acts (heals_steady entries errors rest heals)

    pub repair_stops_steady : (least number : ℕ) (entries : List Entry) → IsPhase IsSteadyHold (agent.RepairStops geometry perms chosen least number entries)
    repair_stops_steady least number entries holds end (inl (none, other, ends)) = finishes_steady holds end ends
    repair_stops_steady least number entries holds end (inr (inl (none, other, views, back, count, begins, due, reserves))) = agent_begins holds views back begins (reserve_phase (λ v. count) back end reserves)
    repair_stops_steady least number entries holds end (inr (inr (rest, came, acts, stops))) = acts_steady least number entries holds rest acts (heal_stops_steady rest end stops)

    pub repair_starves_steady : (least number : ℕ) (entries : List Entry) (holds : List Hold) → agent.RepairStarves geometry perms chosen least number entries holds → S holds
    repair_starves_steady least number entries holds (inl stops) = repair_stops_steady least number entries holds Starved stops
    repair_starves_steady least number entries holds (inr (inl (none, finish, looks, are, ends, only))) =
        subst S (sym are) (all_both IsSteadyHold finish looks (finishes_steady finish Went ends) (looks_steady looks only))
    repair_starves_steady least number entries holds (inr (inr (inl (rest, came, acts, only)))) = acts_steady least number entries holds rest acts (looks_steady rest only)
    repair_starves_steady least number entries holds (inr (inr (inr (none, only)))) = looks_steady holds only

    pub idle_steady : (least : ℕ) (holds : List Hold) → agent.IsIdleAll geometry perms chosen least holds → S holds
    idle_steady least holds i = agent_begins holds i.views [] i.begins tt

    pub found_steady : (holds : List Hold) (metaslab number : ℕ) → agent.FindsPass geometry perms chosen holds metaslab number → S holds
    found_steady holds metaslab number f = subst S (sym f.are) (all_both IsSteadyHold f.finish f.looks (finishes_steady f.finish Went f.finishes) (looked_steady f.looks f.views f.looked))

  -- ---- checkpoints

  kept_calm : (store : Store) (at : ℕ) (holds : List Hold) → FreesKept store at holds → S holds
  kept_calm store at [] f = tt
  kept_calm store at (On v (Did (event.Free key t) w) ∷ holds) f = (tt, kept_calm store at holds f.2)
  kept_calm store at (hold ∷ holds) f = absurd f

  pub discards_steady : (old : Store) (at group thin : ℕ) (frees holds : List Hold) (end : End) → Discards geometry perms old at group thin frees holds end → S holds
  discards_steady old at group thin frees holds end d =
      subst S (sym d.are) (all_both IsSteadyHold d.front (OnUber d.u LookedUber ∷ (frees ++ d.back)) (finishes_steady d.front Went d.finishes)
      (tt, all_both IsSteadyHold frees d.back (kept_calm old at frees d.frees_are) (syncs_steady group thin d.back end d.syncs)))

  born_calm : (check at : ℕ) (holds : List Hold) → FreesBorn check at holds → S holds
  born_calm check at [] f = tt
  born_calm check at (On v (Did (event.Free key t) w) ∷ holds) f = (tt, born_calm check at holds f.2)
  born_calm check at (hold ∷ holds) f = absurd f

  pub back_steady : (old new : Store) (group thin : ℕ) (holds : List Hold) (end : End) → GoesBack geometry perms old new group thin holds end → S holds
  back_steady old new group thin holds end d =
      subst S (sym d.are) (all_both IsSteadyHold d.front (OnUber d.u LookedUber ∷ (d.frees ++ d.back)) (finishes_steady d.front Went d.finishes)
      (tt, all_both IsSteadyHold d.frees d.back (born_calm d.reverts.goes.check.group (d.u.committed + 1) d.frees d.frees_are) (syncs_steady group thin d.back end d.syncs)))
