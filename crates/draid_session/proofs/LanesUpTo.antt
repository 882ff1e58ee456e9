-- Groups are closed and committed in lanes up to the last that is named, and no commit is refused.
use Rattle.std.proofs.Common.{◌≡◌, ◌∙◌, ◌<◌, ◌≤◌, ◌⊎◌, ◌++◌, ℕ, List, [], ◌∷◌, inl, inr, refl, sym, ap, subst, arith}
use Rattle.std.specs.Prelude.{⊤}
use Rattle.draid_spec.specs.declared.layout.Geometry.{Geometry}
use Rattle.draid_perm.specs.declared.perms.Perms.{Perms}
use Rattle.draid_machine.specs.declared.event.Event.{Event}
use Rattle.draid_machine.specs.declared.event.Event.TheVariants as event
use Rattle.draid_machine.specs.State as machine
use Rattle.draid_objects.specs.Changes.{own}
use Rattle.draid_reply.specs.declared.reply.Reply.{Reply}
use Rattle.draid_reply.specs.declared.reply.Reply.TheVariants as reply
use Rattle.draid_script.specs.Writing.{IsForLanes}
use Rattle.draid_script.specs.Line.{Command, RebuildPool, ScrubPool, SyncPool, TakeOffline, TakeOnline, WriteObject, FillObjects, ReadObject, FreeObject, SumObjects}
use Rattle.draid_script.specs.declared.name.CommandName.TheVariants as name
use Rattle.draid_session.specs.Book.{Book}
use Rattle.draid_session.specs.Choices.{Choices}
use Rattle.draid_session.specs.Does.{Does}
use Rattle.draid_session.specs.Groups as groups
use Rattle.draid_session.specs.Holds.{AreaFailed, AsksVersion, CommitFailed, CommitStarved, Committed, Did, Hold, Looked, LookedUber, NextLeaf, On, OnUber, View, CallStarved}
use Rattle.draid_session.specs.LaneBook.{AreCertain, Changes, Deed, DeedsTurn, IsCertain, LaneIsCertain, LaneSays, Named, deeds_by}
use Rattle.draid_session.specs.Lanes.{IsLookOnly, LeavesLooks, Says}
use Rattle.draid_session.specs.Looks.{AllOf}
use Rattle.draid_session.specs.Making.{content_of}
use Rattle.draid_session.specs.Phases.{Broke, End, Starved, Went}
use Rattle.draid_session.specs.State.{State, Store}
use Rattle.draid_session.proofs.Calm.{IsCalm, IsCalmHold}
use Rattle.draid_session.proofs.Changing.{looks_from_calm}
use Rattle.draid_session.proofs.Groupwise.{Rides, after, after_both, group_rides, left_rides, rides_split}
use Rattle.draid_session.proofs.Lanewise.{all_both, all_more, does_calm}
use Rattle.draid_session.proofs.Lists.{all_back, all_front}
use Rattle.draid_session.proofs.Parts.{Changed, Grouped, Part, Strict, deeds_in, last_of}
use Rattle.draid_session.proofs.Phased.{each_all, looks_from_all, walk_all}
use Rattle.draid_session.proofs.Rebuilding.{nothing_calm}
use Rattle.draid_session.proofs.Sectionwise.{commits}

-- ---- where each group is named

-- groups are closed and committed up to this one, and no commit is refused
abbrev pub UpTo : ℕ → Hold → Type 0
UpTo g (On v (Did (event.Close t) w)) = t ≤ g
UpTo g (OnUber u (Committed t)) = t ≤ g
UpTo g (OnUber u (CommitFailed t)) = ⊥
UpTo g (OnUber u (CommitStarved t)) = ⊥
UpTo g hold = ⊤

upto_more : (g h : ℕ) → g ≤ h → (hold : Hold) → UpTo g hold → UpTo h hold
upto_more g h less (On v (Did (event.Close t) w)) is = omega (arith, less, is)
upto_more g h less (OnUber u (Committed t)) is = omega (arith, less, is)
upto_more g h less (OnUber u (CommitFailed t)) is = is
upto_more g h less (OnUber u (CommitStarved t)) is = is
upto_more g h less hold is = tt

event_upto : (g : ℕ) (v : View) (e : Event) (w : machine.State) → IsCalm e → UpTo g (On v (Did e w))
event_upto g v (event.Close t) w calm = absurd calm
event_upto g v e w calm = tt

calm_upto : (g : ℕ) (hold : Hold) → IsCalmHold hold → UpTo g hold
calm_upto g (On v (Did e w)) calm = event_upto g v e w calm
calm_upto g (On v act) calm = tt
calm_upto g (OnUber u LookedUber) calm = tt
calm_upto g (OnUber u (NextLeaf next)) calm = tt
calm_upto g (OnUber u (AsksVersion version)) calm = tt
calm_upto g (OnUber u act) calm = absurd calm

module _ (geometry : Geometry) (perms : Perms) (some : 0 < geometry.props.metaslabs) where
  closes_upto : (group m : ℕ) (hold : Hold) (none : ℕ) → groups.Closes geometry perms group m hold none → UpTo group hold
  closes_upto group m (On v (Did (event.Close t) w)) none s = (let is = s.1 in omega (arith, is))
  closes_upto group m (On v Looked) none s = tt
  closes_upto group m hold none s = absurd s

  close_stops_upto : (group m : ℕ) (hold : Hold) (end : End) → groups.CloseStops geometry perms group m hold end → UpTo group hold
  close_stops_upto group m (On v Looked) end s = tt
  close_stops_upto group m hold end s = absurd s

  seals_upto : (group m : ℕ) (hold : Hold) (thin : ℕ) → groups.Seals geometry perms group m hold thin → UpTo group hold
  seals_upto group m (On v (Did (event.Seal t failed) w)) thin s = tt
  seals_upto group m (On v Looked) thin s = tt
  seals_upto group m hold thin s = absurd s

  seal_stops_upto : (group m : ℕ) (hold : Hold) (end : End) → groups.SealStops geometry perms group m hold end → UpTo group hold
  seal_stops_upto group m (On v (AreaFailed t)) end s = tt
  seal_stops_upto group m (On v CallStarved) end s = tt
  seal_stops_upto group m hold end s = absurd s

  commits_upto : (group m : ℕ) (hold : Hold) → groups.Commits geometry perms group m hold → UpTo group hold
  commits_upto group m (On v (Did (event.Commit t) w)) s = tt
  commits_upto group m hold s = absurd s

  names_upto : (group : ℕ) (holds : List Hold) (end : End) → end ≡ Went → groups.Names geometry perms group holds end → AllOf (UpTo group) holds
  names_upto group (OnUber u (Committed t) ∷ []) Went went n = ((let is = n.0 in omega (arith, is)), tt)
  names_upto group (OnUber u (CommitFailed t) ∷ []) Broke went n = absurd (cc)
  names_upto group (OnUber u (CommitStarved t) ∷ []) Starved went n = absurd (cc)
  names_upto group holds end went n = absurd n

  group_upto : (group thin : ℕ) (holds : List Hold) → groups.Group geometry perms group thin holds Went → AllOf (UpTo group) holds
  group_upto group thin holds (inl (closes, more, are, close, inl (seals, rest, are2, seal, inl (names, commits, are3, called, commit)))) =
      subst (AllOf (UpTo group)) (sym are)
      (all_both (UpTo group) closes more
      (walk_all (UpTo group) (groups.Closes geometry perms group) (groups.CloseStops geometry perms group) (closes_upto group) (close_stops_upto group) 0 geometry.props.metaslabs closes Went 0 close)
      (subst (AllOf (UpTo group)) (sym are2)
      (all_both (UpTo group) seals rest
      (walk_all (UpTo group) (groups.Seals geometry perms group) (groups.SealStops geometry perms group) (seals_upto group) (seal_stops_upto group) 0 geometry.props.metaslabs seals Went seal.0 seal.1)
      (subst (AllOf (UpTo group)) (sym are3)
      (all_both (UpTo group) names commits (names_upto group names Went refl called)
      (each_all (UpTo group) (groups.Commits geometry perms group) (commits_upto group) 0 geometry.props.metaslabs commits commit.0))))))
  group_upto group thin holds (inr stopped) = absurd (stopped.0 refl)
  group_upto group thin holds (inl (closes, more, are, close, inr stopped)) = absurd (stopped.0 refl)
  group_upto group thin holds (inl (closes, more, are, close, inl (seals, rest, are2, seal, inr stopped))) = absurd (stopped.0 refl)

  look_upto : (group : ℕ) (v : View) → UpTo group (On v Looked)
  look_upto group v = tt

  sync_upto : (group thin : ℕ) (holds : List Hold) (f : ℕ → ℕ) → groups.Syncs geometry perms group thin holds Went → Rides f holds → AllOf (UpTo group) holds
  sync_upto group thin holds f (inr stopped) rides = absurd (stopped.0 refl)
  sync_upto group thin holds f (inl (front, back, are, finish, (u, rest, are2, next, go))) rides =
      subst (AllOf (UpTo group)) (sym are) (all_both (UpTo group) front back (before finish) (subst (AllOf (UpTo group)) (sym are2) (tt, group_upto group thin rest go)))
    where
      ride : Rides f front × Rides (after f front) back
      ride = rides_split front back f (subst (Rides f) are rides)

      ride2 : Rides (after f front) rest
      ride2 = subst (Rides (after f front)) are2 ride.1

      before : groups.Finishes geometry perms front Went → AllOf (UpTo group) front
      before fin = subst (AllOf (UpTo group)) (sym fin.are) (all_both (UpTo group) fin.looks fin.rest (looks_from_all (UpTo group) (look_upto group) 0 geometry.props.metaslabs fin.looks fin.views fin.looked) (elim fin.does [
        | inl none ↦ subst (AllOf (UpTo group)) (sym none.1) tt
        | inr more ↦ (let parts = rides_split fin.looks fin.rest f (subst (Rides f) fin.are ride.0) in
            let one = (group_rides geometry perms more.0 more.2 fin.rest (after f fin.looks) more.5 parts.1 0 some).1 in
            let two = (group_rides geometry perms group thin rest (after f front) go ride2 0 some).0 in
            let end : after f front 0 ≡ after (after f fin.looks) fin.rest 0 = ap (λ (h : ℕ → ℕ). h 0) (ap (after f) fin.are ∙ after_both fin.looks fin.rest f) in
            all_more (UpTo more.0) (UpTo group) fin.rest (upto_more more.0 group (omega (arith, one, two, end))) (group_upto more.0 more.2 fin.rest more.5))
      ]))

-- a deed names groups up to this one
abbrev pub DeedUpTo : ℕ → Deed → Type 0
DeedUpTo g (Changes object bytes) = ⊤
DeedUpTo g (Named group) = group ≤ g

does_upto : (x : State) (choices : Choices) (g : ℕ) (command : Command) (r : Reply) (old new : Store) (holds : List Hold) (f : ℕ → ℕ) → 0 < x.geometry.props.metaslabs → IsForLanes command → IsCertain command r
    → Does x.geometry x.perms choices content_of command old holds r new → AllOf (DeedUpTo g) (deeds_by command r) → Rides f holds → AllOf (UpTo g) holds
does_upto x choices g SyncPool (reply.Synced group thin) old new holds f some is certain d deeds rides =
    all_more (UpTo group) (UpTo g) holds (upto_more group g deeds.0) (sync_upto x.geometry x.perms some group thin holds f d.1 rides)
does_upto x choices g SyncPool r old new holds f some is certain d deeds rides = absurd certain
does_upto x choices g (WriteObject object bytes) r old new holds f some is certain d deeds rides =
    all_more IsCalmHold (UpTo g) holds (calm_upto g) (does_calm x.geometry x.perms choices (WriteObject object bytes) r old new holds tt d)
does_upto x choices g (FillObjects first count len seed) r old new holds f some is certain d deeds rides =
    all_more IsCalmHold (UpTo g) holds (calm_upto g) (does_calm x.geometry x.perms choices (FillObjects first count len seed) r old new holds tt d)
does_upto x choices g (FreeObject object) r old new holds f some is certain d deeds rides = all_more IsCalmHold (UpTo g) holds (calm_upto g) (does_calm x.geometry x.perms choices (FreeObject object) r old new holds tt d)
does_upto x choices g (ReadObject object) r old new holds f some is certain d deeds rides = all_more IsCalmHold (UpTo g) holds (calm_upto g) (does_calm x.geometry x.perms choices (ReadObject object) r old new holds tt d)
does_upto x choices g (SumObjects first count) r old new holds f some is certain d deeds rides = all_more IsCalmHold (UpTo g) holds (calm_upto g) (does_calm x.geometry x.perms choices (SumObjects first count) r old new holds tt d)
does_upto x choices g (ScrubPool limit) r old new holds f some is certain d deeds rides = all_more IsCalmHold (UpTo g) holds (calm_upto g) (does_calm x.geometry x.perms choices (ScrubPool limit) r old new holds tt d)
does_upto x choices g (TakeOffline leaf) r old new holds f some is certain d deeds rides = absurd certain
does_upto x choices g (TakeOnline leaf) r old new holds f some is certain d deeds rides = absurd certain
does_upto x choices g (RebuildPool limit) reply.RebuildNothing old new holds f some is certain d deeds rides = all_more IsCalmHold (UpTo g) holds (calm_upto g) (nothing_calm x.geometry x.perms limit holds d.1)
does_upto x choices g (RebuildPool limit) (reply.PassThere name.Rebuild metaslab number) old new holds f some is certain d deeds rides =
    all_more IsCalmHold (UpTo g) holds (calm_upto g) (looks_from_calm 0 x.geometry.props.metaslabs holds d.1.views d.1.looked)
does_upto x choices g (RebuildPool limit) r old new holds f some is certain d deeds rides = absurd certain
does_upto x choices g command r old new holds f some is certain d deeds rides = absurd is

look_only_upto : (g : ℕ) (hold : Hold) → IsLookOnly hold → UpTo g hold
look_only_upto g (On v act) is = subst (λ a. UpTo g (On v a)) (sym is) tt
look_only_upto g (OnUber u act) is = subst (λ a. UpTo g (OnUber u a)) (sym is) tt

looks_upto : (g : ℕ) (holds left : List Hold) → LeavesLooks holds left → AllOf (UpTo g) left → AllOf (UpTo g) holds
looks_upto g [] left leaves all = tt
looks_upto g (hold ∷ holds) left (inl look) all = (look_only_upto g hold look.0, looks_upto g holds left look.1 all)
looks_upto g (hold ∷ holds) left (inr own) all = (let a : AllOf (UpTo g) (hold ∷ own.0) = subst (AllOf (UpTo g)) own.1 all in (a.0, looks_upto g holds own.0 own.2 a.1))

pub lane_upto : (x : State) (choices : Choices) (g : ℕ) (some : 0 < x.geometry.props.metaslabs) (b : Book) (commands : List Command) (replies : List Reply) (old new : Store) (holds : List Hold) (deeds : List Deed) (f : ℕ → ℕ)
    → AllOf IsForLanes commands → LaneIsCertain commands replies → Says x choices commands old holds replies new → LaneSays b commands replies deeds → AllOf (DeedUpTo g) deeds → Rides f holds → AllOf (UpTo g) holds
lane_upto x choices g some b [] [] old new holds deeds f of certain s says all rides = subst (AllOf (UpTo g)) (sym s.0) tt
lane_upto x choices g some b [] (r ∷ replies) old new holds deeds f of certain s says all rides = absurd s
lane_upto x choices g some b (command ∷ commands) [] old new holds deeds f of certain s says all rides = absurd certain
lane_upto x choices g some b (command ∷ commands) (r ∷ replies) old new holds deeds f of certain (front, back, left, mid, are, leaves, does, rest) (more, next, deeds_are, answers, later) all rides =
    let both : AllOf (DeedUpTo g) (deeds_by command r ++ more) = subst (AllOf (DeedUpTo g)) deeds_are all in
    let ride = rides_split front back f (subst (Rides f) are rides) in
    let one = does_upto x choices g command r old mid left f some of.0 certain.0 does (all_front (DeedUpTo g) (deeds_by command r) more both) (left_rides front left f leaves ride.0).0 in
    subst (AllOf (UpTo g)) (sym are) (all_both (UpTo g) front back (looks_upto g front left leaves one)
    (lane_upto x choices g some next commands replies mid new back more (after f front) of.1 certain.1 rest later (all_back (DeedUpTo g) (deeds_by command r) more both) ride.1))

-- the last name of parts in order
pub names_end : (n : ℕ) (ps : List Part) → Strict n ps → AllOf (DeedUpTo (last_of n ps)) (deeds_in ps) × (n ≤ last_of n ps)
names_end n [] s = (tt, omega (arith))
names_end n (Changed d ∷ ps) s = (let rest = names_end n ps s in ((tt, rest.0), rest.1))
names_end n (Grouped g ∷ ps) s = (let rest = names_end g ps s.1 in let up = rest.1 in let a = s.0 in ((up, rest.0), omega (arith, up, a)))

pub turns_last : (ps : List Part) (b mid : Book) → DeedsTurn b (deeds_in ps) mid → mid.group ≡ last_of b.group ps
turns_last [] b mid t = ap (λ (k : Book). k.group) t
turns_last (Changed d ∷ ps) b mid t = turns_last ps t.0 mid t.2 ∙ ap (λ n. last_of n ps) (ap (λ (k : Book). k.group) t.1)
turns_last (Grouped g ∷ ps) b mid t = turns_last ps t.0 mid t.2 ∙ ap (λ n. last_of n ps) (ap (λ (k : Book). k.group) t.1.1)

-- whether each group is named
certain_command : (command : Command) (r : Reply) → IsForLanes command → IsCertain command r ⊎ (IsCertain command r → ⊥)
certain_command SyncPool (reply.Synced group thin) is = inl tt
certain_command SyncPool r is = inr (λ a. a)
certain_command (WriteObject object bytes) r is = inl tt
certain_command (FillObjects first count len seed) r is = inl tt
certain_command (FreeObject object) r is = inl tt
certain_command (ReadObject object) r is = inl tt
certain_command (SumObjects first count) r is = inl tt
certain_command (ScrubPool limit) r is = inl tt
certain_command (TakeOffline leaf) r is = inr (λ a. a)
certain_command (TakeOnline leaf) r is = inr (λ a. a)
certain_command (RebuildPool limit) reply.RebuildNothing is = inl tt
certain_command (RebuildPool limit) (reply.PassThere name.Rebuild metaslab number) is = inl tt
certain_command (RebuildPool limit) r is = inr (λ a. a)
certain_command command r is = absurd is

certain_lane : (commands : List Command) (replies : List Reply) → AllOf IsForLanes commands → LaneIsCertain commands replies ⊎ (LaneIsCertain commands replies → ⊥)
certain_lane [] [] of = inl tt
certain_lane [] (r ∷ replies) of = inr (λ a. a)
certain_lane (command ∷ commands) [] of = inr (λ a. a)
certain_lane (command ∷ commands) (r ∷ replies) of = elim (certain_command command r of.0) [
  | inl yes_ ↦ (elim (certain_lane commands replies of.1) [ inl rest ↦ inl (yes_, rest) | inr not ↦ inr (λ a. not a.1) ])
  | inr not ↦ inr (λ a. not a.0)
]

pub certain_lanes : (commands : List (List Command)) (replies : List (List Reply)) → AllOf (AllOf IsForLanes) commands → AreCertain commands replies ⊎ (AreCertain commands replies → ⊥)
certain_lanes [] [] of = inl tt
certain_lanes [] (r ∷ replies) of = inr (λ a. a)
certain_lanes (cs ∷ commands) [] of = inr (λ a. a)
certain_lanes (cs ∷ commands) (rs ∷ replies) of = elim (certain_lane cs rs of.0) [
  | inl yes_ ↦ (elim (certain_lanes commands replies of.1) [ inl rest ↦ inl (yes_, rest) | inr not ↦ inr (λ a. not a.1) ])
  | inr not ↦ inr (λ a. not a.0)
]
