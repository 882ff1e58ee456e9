-- Holds of lanes are steady: what each lane may do to groups, and that a leaf is taken offline or online.
use Rattle.std.proofs.Common.{◌≡◌, ◌⊎◌, ◌++◌, ℕ, List, [], ◌∷◌, inl, inr, sym, subst}
use Rattle.std.specs.Prelude.{⊤}
use Rattle.std.proofs.lemmas.List.{append-nil}
use Rattle.draid_spec.specs.declared.layout.Geometry.{Geometry}
use Rattle.draid_perm.specs.declared.perms.Perms.{Perms}
use Rattle.draid_machine.specs.declared.event.Event.{Event}
use Rattle.draid_machine.specs.declared.event.Event.TheVariants as event
use Rattle.draid_objects.specs.Changes.{own}
use Rattle.draid_reply.specs.declared.reply.Reply.{Reply}
use Rattle.draid_reply.specs.declared.reply.Reply.TheVariants as reply
use Rattle.draid_script.specs.Writing.{IsForLanes}
use Rattle.draid_script.specs.Line.{Command, RebuildPool, ScrubPool, SyncPool, TakeOffline, TakeOnline, WriteObject, FillObjects, ReadObject, FreeObject, SumObjects}
use Rattle.draid_script.specs.declared.name.CommandName.TheVariants as name
use Rattle.draid_names.specs.declared.refusal.SlotFault.TheVariants as slot_fault
use Rattle.draid_session.specs.Arms as arms
use Rattle.draid_session.specs.Choices.{Choices}
use Rattle.draid_session.specs.Does.{Broken, Does}
use Rattle.draid_session.specs.Groups as groups
use Rattle.draid_session.specs.Holds.{Did, Hold, LookedUber, On, OnUber, View}
use Rattle.draid_session.specs.Lanes.{IsLookOnly, LeavesLooks, Says}
use Rattle.draid_session.specs.Looks.{AllOf, OnlyLooks}
use Rattle.draid_session.specs.Making.{content_of}
use Rattle.draid_session.specs.Phases.{Broke, End, Starved, WasLast, WasWorn, Went}
use Rattle.draid_session.specs.State.{State, Store}
use Rattle.draid_session.proofs.Calm.{IsCalm, IsCalmHold, calm_both, looks_calm}
use Rattle.draid_session.proofs.Arming.{switch_calm}
use Rattle.draid_session.proofs.Changing.{looks_from_calm}
use Rattle.draid_session.proofs.Grouped.{OfSync, finish_all, sync_all}
use Rattle.draid_session.proofs.Groupwise.{IsSteady, IsSteadyHold}
use Rattle.draid_session.proofs.Lanewise.{all_both, all_more, does_calm}
use Rattle.draid_session.proofs.Rebuilding.{rebuild_all, rebuild_broken}

-- ---- what holds of lanes are

calm_is_steady : (e : Event) → IsCalm e → IsSteady e
calm_is_steady (event.Close t) calm = tt
calm_is_steady (event.Commit t) calm = tt
calm_is_steady e calm = calm

hold_steady : (hold : Hold) → IsCalmHold hold → IsSteadyHold hold
hold_steady (On v (Did e w)) calm = calm_is_steady e calm
hold_steady (On v act) calm = tt
hold_steady (OnUber u act) calm = tt

all_steady : (holds : List Hold) → AllOf IsCalmHold holds → AllOf IsSteadyHold holds
all_steady holds calm = all_more IsCalmHold IsSteadyHold holds hold_steady calm

of_sync : OfSync IsSteadyHold
of_sync = record { look = λ v. tt; close = λ v t w. tt; seal = λ v t failed w. tt; commit = λ v t w. tt; area = λ v t. tt; starve = λ v. tt; uber = λ u act. tt }

-- ---- a leaf is taken offline, or online

-- it comes to some end, it is refused, or memory is wanting
abbrev pub IsSwitch : Geometry → Perms → Event → ℕ → List Hold → Type 0
IsSwitch geometry perms e leaf holds =
    ((end : End) × arms.Comes geometry perms (arms.NoLeaf geometry perms leaf) (arms.Switches geometry perms e) holds end)
    ⊎ (arms.Refuses geometry perms (arms.NoLeaf geometry perms leaf) slot_fault.NoSuch holds ⊎ OnlyLooks holds)

pub offline_switch : (geometry : Geometry) (perms : Perms) (choices : Choices) (leaf : ℕ) (r : Reply) (old new : Store) (holds : List Hold) → Does geometry perms choices content_of (TakeOffline leaf) old holds r new
    → IsSwitch geometry perms (event.Offline leaf) leaf holds
offline_switch geometry perms choices leaf (reply.OfflineDone l) old new holds d = inl (Went, d.2)
offline_switch geometry perms choices leaf (reply.OfflineRefused l) old new holds d = inr (inl d.2)
offline_switch geometry perms choices leaf (reply.OfflineWorn l) old new holds d = inl (WasWorn, d.2)
offline_switch geometry perms choices leaf (reply.NoMemory name.Offline) old new holds d = elim d.1 [ inl s ↦ inl (Starved, s) | inr looks ↦ inr (inr looks) ]
offline_switch geometry perms choices leaf r old new holds d = absurd d

pub online_switch : (geometry : Geometry) (perms : Perms) (choices : Choices) (leaf : ℕ) (r : Reply) (old new : Store) (holds : List Hold) → Does geometry perms choices content_of (TakeOnline leaf) old holds r new
    → IsSwitch geometry perms (event.Online leaf) leaf holds
online_switch geometry perms choices leaf (reply.OnlineDone l) old new holds d = inl (Went, d.2)
online_switch geometry perms choices leaf (reply.OnlineRefused l) old new holds d = inr (inl d.2)
online_switch geometry perms choices leaf (reply.OnlineWorn l) old new holds d = inl (WasWorn, d.2)
online_switch geometry perms choices leaf (reply.NoMemory name.Online) old new holds d = elim d.1 [ inl s ↦ inl (Starved, s) | inr looks ↦ inr (inr looks) ]
online_switch geometry perms choices leaf r old new holds d = absurd d

-- what is so of a group that is finished, and of calm holds, is so of all
module _ (Q : Hold → Type 0) (geometry : Geometry) (perms : Perms) (calm : (hold : Hold) → IsCalmHold hold → Q hold) where
  begins_all : (holds : List Hold) (views : List View) (u : _) (rest : List Hold) (b : arms.Begins geometry perms holds views u rest) → AllOf Q b.finish → AllOf IsCalmHold rest → AllOf Q holds
  begins_all holds views u rest b finish behind =
      subst (AllOf Q) (sym b.are) (all_both Q b.finish (b.looks ++ OnUber u LookedUber ∷ rest) finish
      (all_more IsCalmHold Q (b.looks ++ OnUber u LookedUber ∷ rest) calm (calm_both b.looks (OnUber u LookedUber ∷ rest) (looks_from_calm 0 geometry.props.metaslabs b.looks views b.looked) (tt, behind))))

  pub switch_all : (e : Event) (leaf : ℕ) (holds : List Hold) → IsCalm e → ((front back : List Hold) (end : End) → holds ≡ front ++ back → groups.Finishes geometry perms front end → AllOf Q front) → IsSwitch geometry perms e leaf holds
      → AllOf Q holds
  switch_all e leaf holds is finishes (inl (end, inl g)) =
      begins_all holds g.views g.u g.rest g.begins (finishes g.begins.finish (g.begins.looks ++ OnUber g.u LookedUber ∷ g.rest) Went g.begins.are g.begins.finishes) (switch_calm geometry perms e is g.views g.u g.rest end g.does)
  switch_all e leaf holds is finishes (inl (end, inr f)) = finishes holds [] end (sym (append-nil holds)) f.2
  switch_all e leaf holds is finishes (inr (inl r)) =
      begins_all holds r.views r.u [] r.begins (finishes r.begins.finish (r.begins.looks ++ OnUber r.u LookedUber ∷ []) Went r.begins.are r.begins.finishes) tt
  switch_all e leaf holds is finishes (inr (inr looks)) = all_more IsCalmHold Q holds calm (looks_calm holds looks)

switch_steady : (geometry : Geometry) (perms : Perms) (e : Event) (leaf : ℕ) (holds : List Hold) → IsCalm e → IsSwitch geometry perms e leaf holds → AllOf IsSteadyHold holds
switch_steady geometry perms e leaf holds is s = switch_all IsSteadyHold geometry perms hold_steady e leaf holds is (λ front back end are f. finish_all IsSteadyHold of_sync geometry perms front end f) s

does_steady : (geometry : Geometry) (perms : Perms) (choices : Choices) (command : Command) (r : Reply) (old new : Store) (holds : List Hold) → IsForLanes command
    → Does geometry perms choices content_of command old holds r new → AllOf IsSteadyHold holds
does_steady geometry perms choices SyncPool (reply.Synced group thin) old new holds is d = sync_all IsSteadyHold of_sync geometry perms group thin holds Went d.1
does_steady geometry perms choices SyncPool (reply.Worn name.Sync) old new holds is d = sync_all IsSteadyHold of_sync geometry perms d.1.group d.1.thin holds WasWorn d.1.syncs
does_steady geometry perms choices SyncPool (reply.Last name.Sync) old new holds is d = sync_all IsSteadyHold of_sync geometry perms d.1.group d.1.thin holds WasLast d.1.syncs
does_steady geometry perms choices SyncPool (reply.NoMemory name.Sync) old new holds is d =
    elim d.1 [ inl s ↦ sync_all IsSteadyHold of_sync geometry perms s.group s.thin holds Starved s.syncs | inr looks ↦ all_steady holds (looks_calm holds looks) ]
does_steady geometry perms choices SyncPool r old new holds is d = absurd d
does_steady geometry perms choices (WriteObject object bytes) r old new holds is d = all_steady holds (does_calm geometry perms choices (WriteObject object bytes) r old new holds tt d)
does_steady geometry perms choices (FillObjects first count len seed) r old new holds is d = all_steady holds (does_calm geometry perms choices (FillObjects first count len seed) r old new holds tt d)
does_steady geometry perms choices (FreeObject object) r old new holds is d = all_steady holds (does_calm geometry perms choices (FreeObject object) r old new holds tt d)
does_steady geometry perms choices (ReadObject object) r old new holds is d = all_steady holds (does_calm geometry perms choices (ReadObject object) r old new holds tt d)
does_steady geometry perms choices (SumObjects first count) r old new holds is d = all_steady holds (does_calm geometry perms choices (SumObjects first count) r old new holds tt d)
does_steady geometry perms choices (ScrubPool limit) r old new holds is d = all_steady holds (does_calm geometry perms choices (ScrubPool limit) r old new holds tt d)
does_steady geometry perms choices (TakeOffline leaf) r old new holds is d = switch_steady geometry perms (event.Offline leaf) leaf holds tt (offline_switch geometry perms choices leaf r old new holds d)
does_steady geometry perms choices (TakeOnline leaf) r old new holds is d = switch_steady geometry perms (event.Online leaf) leaf holds tt (online_switch geometry perms choices leaf r old new holds d)
does_steady geometry perms choices (RebuildPool limit) r old new holds is d =
    rebuild_all geometry perms IsSteadyHold (λ hs. ⊤) (λ front back k. (tt, tt)) hold_steady (λ group thin hs end s k. sync_all IsSteadyHold of_sync geometry perms group thin hs end s) choices limit r old new holds d tt
does_steady geometry perms choices command r old new holds is d = absurd is

broken_steady : (x : State) (command : Command) (old new : Store) (left : List Hold) → IsForLanes command → Broken x.geometry x.perms command old left new → AllOf IsSteadyHold left
broken_steady x SyncPool old new left is d = sync_all IsSteadyHold of_sync x.geometry x.perms d.1.group d.1.thin left Broke d.1.syncs
broken_steady x (WriteObject object bytes) old new left is d = absurd d
broken_steady x (FillObjects first count len seed) old new left is d = absurd d
broken_steady x (FreeObject object) old new left is d = absurd d
broken_steady x (ReadObject object) old new left is d = absurd d
broken_steady x (SumObjects first count) old new left is d = absurd d
broken_steady x (ScrubPool limit) old new left is d = absurd d
broken_steady x (TakeOffline leaf) old new left is d = switch_steady x.geometry x.perms (event.Offline leaf) leaf left tt (inl (Broke, d.1))
broken_steady x (TakeOnline leaf) old new left is d = switch_steady x.geometry x.perms (event.Online leaf) leaf left tt (inl (Broke, d.1))
broken_steady x (RebuildPool limit) old new left is d =
    rebuild_broken x.geometry x.perms IsSteadyHold (λ hs. ⊤) (λ front back k. (tt, tt)) hold_steady (λ group thin hs end s k. sync_all IsSteadyHold of_sync x.geometry x.perms group thin hs end s) limit old new left d tt
broken_steady x command old new left is d = absurd is

look_steady : (hold : Hold) → IsLookOnly hold → IsSteadyHold hold
look_steady (On v act) is = subst (λ a. IsSteadyHold (On v a)) (sym is) tt
look_steady (OnUber u act) is = tt

looks_steady : (holds left : List Hold) → LeavesLooks holds left → AllOf IsSteadyHold left → AllOf IsSteadyHold holds
looks_steady [] left leaves all = tt
looks_steady (hold ∷ holds) left (inl look) all = (look_steady hold look.0, looks_steady holds left look.1 all)
looks_steady (hold ∷ holds) left (inr own) all = (let a : AllOf IsSteadyHold (hold ∷ own.0) = subst (AllOf IsSteadyHold) own.1 all in (a.0, looks_steady holds own.0 own.2 a.1))

pub says_steady : (x : State) (choices : Choices) (commands : List Command) (old new : Store) (holds : List Hold) (replies : List Reply) → AllOf IsForLanes commands
    → Says x choices commands old holds replies new → AllOf IsSteadyHold holds
says_steady x choices [] old new holds [] of s = subst (AllOf IsSteadyHold) (sym s.0) tt
says_steady x choices [] old new holds (r ∷ replies) of s = absurd s
says_steady x choices (command ∷ commands) old new holds (r ∷ replies) of (front, back, left, mid, are, leaves, does, rest) =
    subst (AllOf IsSteadyHold) (sym are) (all_both IsSteadyHold front back (looks_steady front left leaves (does_steady x.geometry x.perms choices command r old mid left of.0 does)) (says_steady x choices commands mid new back replies of.1 rest))
says_steady x choices (command ∷ commands) old new holds [] of (left, leaves, broken) = looks_steady holds left leaves (broken_steady x command old new left of.0 broken)
