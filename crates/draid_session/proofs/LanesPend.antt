-- A commit that is refused in a lane is of a group that all metaslabs close.
use Rattle.std.proofs.Common.{◌≡◌, ◌∙◌, ◌==◌, ◌+◌, ◌<◌, ◌≤◌, ◌++◌, ℕ, zero, suc, Bool, true, false, nat_le, List, [], ◌∷◌, Some, All, inl, inr, refl, sym, ap, subst, arith, cond, length}
use Rattle.std.specs.Prelude.{⊤, slice_get}
use Rattle.std.proofs.lemmas.List.Elements.{All-cons, All-nil}
use Rattle.draid_spec.specs.declared.layout.Geometry.{Geometry}
use Rattle.draid_perm.specs.declared.perms.Perms.{Perms}
use Rattle.draid_machine.specs.declared.event.Event.{Event}
use Rattle.draid_machine.specs.declared.event.Event.TheVariants as event
use Rattle.draid_machine.specs.State as machine
use Rattle.draid_machine.specs.Step.{CloseStep}
use Rattle.draid_objects.specs.Changes.{Change, group_of, kept, object_of, own, write_of}
use Rattle.draid_objects.proofs.Finding.{changes_it, kept_later, kept_other, kept_own, other_changes}
use Rattle.draid_reply.specs.declared.reply.Reply.{Reply}
use Rattle.draid_reply.specs.declared.reply.Reply.TheVariants as reply
use Rattle.draid_script.specs.Writing.{IsForLanes}
use Rattle.draid_script.specs.Line.{Command, RebuildPool, ScrubPool, SyncPool, TakeOffline, TakeOnline, WriteObject, FillObjects, ReadObject, FreeObject, SumObjects}
use Rattle.draid_script.specs.declared.name.CommandName.TheVariants as name
use Rattle.draid_session.specs.Book.{Book}
use Rattle.draid_session.specs.Choices.{Choices}
use Rattle.draid_session.specs.Does.{Broken, Does}
use Rattle.draid_session.specs.Groups as groups
use Rattle.draid_session.specs.Holds.{AsksVersion, CommitFailed, CommitStarved, Committed, Did, Hold, Looked, LookedUber, NextLeaf, On, OnUber, View}
use Rattle.draid_session.specs.Keeping.{bytes_in, SaysObjects}
use Rattle.draid_session.specs.Lanes.{IsLookOnly, LeavesLooks, Says}
use Rattle.draid_session.specs.Looks.{AllOf}
use Rattle.draid_session.specs.Making.{content_of}
use Rattle.draid_session.specs.Phases.{Broke, Chain, End, Starved, Walk, WasLast, WasWorn, Went}
use Rattle.draid_session.specs.State.{Metaslab, State, Store}
use Rattle.draid_session.proofs.Calm.{IsCalm, IsCalmHold, looks_calm}
use Rattle.draid_session.proofs.Groupwise.{LiesIn, Rides, after, busy_place, left_rides, place, rides_split}
use Rattle.draid_session.proofs.Lanewise.{all_both, all_more, does_calm, looks_left}
use Rattle.draid_session.proofs.Lists.{all_back, all_front}
use Rattle.draid_session.proofs.Phased.{each_all, looks_from_all, walk_all}
use Rattle.draid_session.proofs.Rebuilding.{rebuild_all, rebuild_broken}
use Rattle.draid_session.proofs.Saying.{have_same}
use Rattle.draid_session.proofs.Sectionwise.{commits}
use Rattle.draid_session.proofs.LanesSteady.{IsSwitch, offline_switch, online_switch, switch_all}

-- ---- lists

pub get_low : {A : Type 0} (xs : List A) (m : ℕ) (y : A) → slice_get xs m ≡ Some y → m < length xs
get_low [] m y there = absurd (cc)
get_low (x ∷ xs) zero y there = omega (arith)
get_low (x ∷ xs) (suc m) y there = (let i = get_low xs m y there in omega (arith, i))

pub low_get : {A : Type 0} (xs : List A) (m : ℕ) → m < length xs → (y : A) × (slice_get xs m ≡ Some y)
low_get [] m less = absurd (omega (arith, less))
low_get (x ∷ xs) zero less = (x, refl)
low_get (x ∷ xs) (suc m) less = low_get xs m (omega (arith, less))

all_of : {A : Type 0} (P : A → Type 0) (xs : List A) → AllOf P xs → All P xs
all_of P [] all = All-nil P
all_of P (x ∷ xs) all = All-cons P x xs all.0 (all_of P xs all.1)

pub all_join : {A : Type 0} (P : A → Type 0) (xs ys : List A) → AllOf P xs → All P ys → All P (xs ++ ys)
all_join P [] ys a b = b
all_join P (x ∷ xs) ys a b = All-cons P x (xs ++ ys) a.0 (all_join P xs ys a.1 b)

-- an object's own changes
own_last : (cs : List Change) (o : ℕ) → write_of (own o cs) o ≡ write_of cs o
own_last [] o = refl
own_last (c ∷ cs) o = by (object_of c == o) refl (own_last cs o)
  where
    by : (t : Bool) → (object_of c == o) ≡ t → write_of (own o cs) o ≡ write_of cs o → write_of (cond t (c ∷ own o cs) (own o cs)) o ≡ write_of (c ∷ cs) o
    by true is rest = changes_it c (own o cs) o is ∙ sym (changes_it c cs o is)
    by false is rest = rest ∙ sym (other_changes c cs o is)

own_kept : (group : ℕ) (cs : List Change) (o : ℕ) → kept group (own o cs) o ≡ kept group cs o
own_kept group [] o = refl
own_kept group (c ∷ cs) o = by (object_of c == o) (nat_le (group_of c) group) refl refl (own_kept group cs o)
  where
    by : (t u : Bool) → (object_of c == o) ≡ t → nat_le (group_of c) group ≡ u → kept group (own o cs) o ≡ kept group cs o → kept group (cond t (c ∷ own o cs) (own o cs)) o ≡ kept group (c ∷ cs) o
    by true true is up rest = kept_own group c (own o cs) o up is ∙ sym (kept_own group c cs o up is)
    by true false is up rest = kept_later group c (own o cs) o up ∙ (rest ∙ sym (kept_later group c cs o up))
    by false u is up rest = rest ∙ sym (kept_other group c cs o is)

pub says_same : (n : ℕ) (xs ys : List Change) (b : Book) → ((o : ℕ) → own o xs ≡ own o ys) → SaysObjects n xs b → SaysObjects n ys b
says_same n xs ys b same s = record {
  now = λ o. s.now o ∙ ap bytes_in (last o);
  keeps = λ is o. s.keeps is o ∙ ap bytes_in (at n o);
  had = λ group from. have_same b (λ o. bytes_in (kept group xs o)) (λ o. bytes_in (kept group ys o)) (λ o. ap bytes_in (at group o)) (s.had group from);
}
  where
    last : (o : ℕ) → write_of xs o ≡ write_of ys o
    last o = sym (own_last xs o) ∙ (ap (λ cs. write_of cs o) (same o) ∙ own_last ys o)

    at : (group o : ℕ) → kept group xs o ≡ kept group ys o
    at group o = sym (own_kept group xs o) ∙ (ap (λ cs. kept group cs o) (same o) ∙ own_kept group ys o)

-- ---- a commit that was refused

-- metaslab 0 closes this group in the end, or a later one is committed
abbrev pub Fits : State → ℕ → Type 0
Fits z t = (y : Metaslab) × (slice_get z.metaslabs 0 ≡ Some y) × (t + t + 2 ≤ place y.world)

-- a commit is refused of a group that all metaslabs close
abbrev pub Pends : State → Hold → Type 0
Pends z (OnUber u (CommitFailed t)) = (t ≡ u.committed + 1) × Fits z t
Pends z (OnUber u (CommitStarved t)) = (t ≡ u.committed + 1) × Fits z t
Pends z hold = ⊤

calm_pends : (z : State) (hold : Hold) → IsCalmHold hold → Pends z hold
calm_pends z (On v act) calm = tt
calm_pends z (OnUber u LookedUber) calm = tt
calm_pends z (OnUber u (NextLeaf next)) calm = tt
calm_pends z (OnUber u (AsksVersion version)) calm = tt
calm_pends z (OnUber u act) calm = absurd calm

module _ (z : State) (geometry : Geometry) (perms : Perms) (some : 0 < geometry.props.metaslabs) where
  closes_pends : (group m : ℕ) (hold : Hold) (none : ℕ) → groups.Closes geometry perms group m hold none → Pends z hold
  closes_pends group m (On v act) none s = tt
  closes_pends group m (OnUber u act) none s = absurd s

  close_stops_pends : (group m : ℕ) (hold : Hold) (end : End) → groups.CloseStops geometry perms group m hold end → Pends z hold
  close_stops_pends group m (On v act) end s = tt
  close_stops_pends group m (OnUber u act) end s = absurd s

  seals_pends : (group m : ℕ) (hold : Hold) (thin : ℕ) → groups.Seals geometry perms group m hold thin → Pends z hold
  seals_pends group m (On v act) thin s = tt
  seals_pends group m (OnUber u act) thin s = absurd s

  seal_stops_pends : (group m : ℕ) (hold : Hold) (end : End) → groups.SealStops geometry perms group m hold end → Pends z hold
  seal_stops_pends group m (On v act) end s = tt
  seal_stops_pends group m (OnUber u act) end s = absurd s

  commits_pends : (group m : ℕ) (hold : Hold) → groups.Commits geometry perms group m hold → Pends z hold
  commits_pends group m (On v act) s = tt
  commits_pends group m (OnUber u act) s = absurd s

  all_close : (group : ℕ) (holds : List Hold) (end : End) → groups.ClosePhase geometry perms group holds end → AllOf (Pends z) holds
  all_close group holds end p = walk_all (Pends z) (groups.Closes geometry perms group) (groups.CloseStops geometry perms group) (closes_pends group) (close_stops_pends group) 0 geometry.props.metaslabs holds end 0 p

  all_seal : (group thin : ℕ) (holds : List Hold) (end : End) → groups.SealPhase geometry perms group thin holds end → AllOf (Pends z) holds
  all_seal group thin holds end p = walk_all (Pends z) (groups.Seals geometry perms group) (groups.SealStops geometry perms group) (seals_pends group) (seal_stops_pends group) 0 geometry.props.metaslabs holds end p.0 p.1

  all_commit : (group : ℕ) (holds : List Hold) (end : End) → groups.CommitPhase geometry perms group holds end → AllOf (Pends z) holds
  all_commit group holds end p = each_all (Pends z) (groups.Commits geometry perms group) (commits_pends group) 0 geometry.props.metaslabs holds p.0

  -- metaslab 0 was closed
  close_one : (group : ℕ) (hold : Hold) (none : ℕ) (f : ℕ → ℕ) (rest : List Hold) → groups.Closes geometry perms group 0 hold none → LiesIn z hold → Rides f (hold ∷ rest) → Fits z group
  close_one group (On v (Did (event.Close t) w)) none f rest k lies rides =
      let legal : CloseStep lies.before.world t w = lies.adds.legal in
      let closing : w.closing ≡ Some t = ap (λ (s : machine.State). s.closing) legal.made in
      let opened : w.open_group ≡ t + 1 = ap (λ (s : machine.State). s.open_group) legal.made in
      let p = busy_place w t closing in
      let up = lies.rises in
      let is = k.1 in
      (lies.y, subst (λ n. slice_get z.metaslabs n ≡ Some lies.y) k.0 lies.there, omega (arith, p, opened, up, is))
  close_one group (On v Looked) none f rest k lies rides =
      let p = busy_place v.world group k.1 in
      let line = rides.0.line group k.1 in
      let up = lies.rises in
      (lies.y, subst (λ n. slice_get z.metaslabs n ≡ Some lies.y) k.0 lies.there, omega (arith, p, line, up))
  close_one group hold none f rest k lies rides = absurd k

  close_first : (group n : ℕ) (holds : List Hold) (sum : ℕ) (f : ℕ → ℕ) → 0 < n → Walk (groups.Closes geometry perms group) (groups.CloseStops geometry perms group) 0 n holds Went sum → AllOf (LiesIn z) holds
      → Rides f holds → Fits z group
  close_first group zero holds sum f less walk lies rides = absurd (omega (arith, less))
  close_first group (suc n) holds sum f less (inl (hold, rest, x, more, are, sum_is, closes, walk)) lies rides =
      close_one group hold x f rest closes (subst (AllOf (LiesIn z)) are lies).0 (subst (Rides f) are rides)
  close_first group (suc n) holds sum f less (inr (inl stopped)) lies rides = absurd (stopped.2 refl)
  close_first group (suc n) holds sum f less (inr (inr starved)) lies rides = absurd (let is = starved.1 in cc)

  names_pends : (group : ℕ) (holds : List Hold) (end : End) → Fits z group → groups.Names geometry perms group holds end → AllOf (Pends z) holds
  names_pends group (OnUber u (Committed t) ∷ []) Went fits n = (tt, tt)
  names_pends group (OnUber u (CommitFailed t) ∷ []) Broke fits n = ((n.0 ∙ n.1, subst (Fits z) (sym n.0) fits), tt)
  names_pends group (OnUber u (CommitStarved t) ∷ []) Starved fits n = ((n.0 ∙ n.1, subst (Fits z) (sym n.0) fits), tt)
  names_pends group holds end fits n = absurd n

  group_pends : (group thin : ℕ) (holds : List Hold) (end : End) (f : ℕ → ℕ) → groups.Group geometry perms group thin holds end → AllOf (LiesIn z) holds → Rides f holds → AllOf (Pends z) holds
  group_pends group thin holds end f (inr stopped) lies rides = all_close group holds end stopped.1
  group_pends group thin holds end f (inl (closes, more, are, close, then_)) lies rides =
      let fits = close_first group geometry.props.metaslabs closes 0 f some close (all_front (LiesIn z) closes more (subst (AllOf (LiesIn z)) are lies)) (rides_split closes more f (subst (Rides f) are rides)).0 in
      subst (AllOf (Pends z)) (sym are) (all_both (Pends z) closes more (all_close group closes Went close) (by then_ fits))
    where
      named : (rest : List Hold) → Chain (groups.Names geometry perms group) (groups.CommitPhase geometry perms group) rest end → Fits z group → AllOf (Pends z) rest
      named rest (inr stopped) fits = names_pends group rest end fits stopped.1
      named rest (inl (names, commits, are, called, commit)) fits =
          subst (AllOf (Pends z)) (sym are) (all_both (Pends z) names commits (names_pends group names Went fits called) (all_commit group commits end commit))

      by : Chain (groups.SealPhase geometry perms group thin) (Chain (groups.Names geometry perms group) (groups.CommitPhase geometry perms group)) more end → Fits z group → AllOf (Pends z) more
      by (inr stopped) fits = all_seal group thin more end stopped.1
      by (inl (seals, rest, are, seal, go)) fits = subst (AllOf (Pends z)) (sym are) (all_both (Pends z) seals rest (all_seal group thin seals Went seal) (named rest go fits))

  look_pends : (v : View) → Pends z (On v Looked)
  look_pends v = tt

  finish_pends : (holds : List Hold) (end : End) (f : ℕ → ℕ) → groups.Finishes geometry perms holds end → AllOf (LiesIn z) holds → Rides f holds → AllOf (Pends z) holds
  finish_pends holds end f fin lies rides =
      let looks = looks_from_all (Pends z) look_pends 0 geometry.props.metaslabs fin.looks fin.views fin.looked in
      let lie = all_back (LiesIn z) fin.looks fin.rest (subst (AllOf (LiesIn z)) fin.are lies) in
      let ride = (rides_split fin.looks fin.rest f (subst (Rides f) fin.are rides)).1 in
      subst (AllOf (Pends z)) (sym fin.are) (all_both (Pends z) fin.looks fin.rest looks (elim fin.does [
        | inl none ↦ subst (AllOf (Pends z)) (sym none.1) tt
        | inr more ↦ group_pends more.0 more.2 fin.rest end (after f fin.looks) more.5 lie ride
      ]))

  sync_pends : (group thin : ℕ) (holds : List Hold) (end : End) (f : ℕ → ℕ) → groups.Syncs geometry perms group thin holds end → AllOf (LiesIn z) holds → Rides f holds → AllOf (Pends z) holds
  sync_pends group thin holds end f (inr stopped) lies rides = finish_pends holds end f stopped.1 lies rides
  sync_pends group thin holds end f (inl (front, back, are, finish, (u, rest, are2, next, go))) lies rides =
      let lie : AllOf (LiesIn z) (front ++ back) = subst (AllOf (LiesIn z)) are lies in
      let ride = rides_split front back f (subst (Rides f) are rides) in
      let lie2 : AllOf (LiesIn z) (OnUber u LookedUber ∷ rest) = subst (AllOf (LiesIn z)) are2 (all_back (LiesIn z) front back lie) in
      let ride2 : Rides (after f front) rest = subst (Rides (after f front)) are2 ride.1 in
      subst (AllOf (Pends z)) (sym are) (all_both (Pends z) front back (finish_pends front Went f finish (all_front (LiesIn z) front back lie) ride.0)
      (subst (AllOf (Pends z)) (sym are2) (tt, group_pends group thin rest end (after f front) go lie2.1 ride2)))

  switch_pends : (e : Event) (leaf : ℕ) (holds : List Hold) (f : ℕ → ℕ) → IsCalm e → IsSwitch geometry perms e leaf holds → AllOf (LiesIn z) holds → Rides f holds → AllOf (Pends z) holds
  switch_pends e leaf holds f is s lies rides =
      switch_all (Pends z) geometry perms (calm_pends z) e leaf holds is
      (λ front back end are fin. finish_pends front end f fin (all_front (LiesIn z) front back (subst (AllOf (LiesIn z)) are lies)) (rides_split front back f (subst (Rides f) are rides)).0) s

  -- what is known of holds of a lane
  abbrev Placed : List Hold → Type 0
  Placed hs = AllOf (LiesIn z) hs × ((f : ℕ → ℕ) × Rides f hs)

  placed_split : (front back : List Hold) → Placed (front ++ back) → Placed front × Placed back
  placed_split front back k =
      let parts = rides_split front back k.1.0 k.1.1 in
      ((all_front (LiesIn z) front back k.0, (k.1.0, parts.0)), (all_back (LiesIn z) front back k.0, (after k.1.0 front, parts.1)))

  does_pends : (choices : Choices) (command : Command) (r : Reply) (old new : Store) (holds : List Hold) (f : ℕ → ℕ) → IsForLanes command → Does geometry perms choices content_of command old holds r new
      → AllOf (LiesIn z) holds → Rides f holds → AllOf (Pends z) holds
  does_pends choices SyncPool (reply.Synced group thin) old new holds f is d lies rides = sync_pends group thin holds Went f d.1 lies rides
  does_pends choices SyncPool (reply.Worn name.Sync) old new holds f is d lies rides = sync_pends d.1.group d.1.thin holds WasWorn f d.1.syncs lies rides
  does_pends choices SyncPool (reply.Last name.Sync) old new holds f is d lies rides = sync_pends d.1.group d.1.thin holds WasLast f d.1.syncs lies rides
  does_pends choices SyncPool (reply.NoMemory name.Sync) old new holds f is d lies rides =
      elim d.1 [ inl s ↦ sync_pends s.group s.thin holds Starved f s.syncs lies rides | inr looks ↦ all_more IsCalmHold (Pends z) holds (calm_pends z) (looks_calm holds looks) ]
  does_pends choices SyncPool r old new holds f is d lies rides = absurd d
  does_pends choices (WriteObject object bytes) r old new holds f is d lies rides = all_more IsCalmHold (Pends z) holds (calm_pends z) (does_calm geometry perms choices (WriteObject object bytes) r old new holds tt d)
  does_pends choices (FillObjects first count len seed) r old new holds f is d lies rides =
      all_more IsCalmHold (Pends z) holds (calm_pends z) (does_calm geometry perms choices (FillObjects first count len seed) r old new holds tt d)
  does_pends choices (FreeObject object) r old new holds f is d lies rides = all_more IsCalmHold (Pends z) holds (calm_pends z) (does_calm geometry perms choices (FreeObject object) r old new holds tt d)
  does_pends choices (ReadObject object) r old new holds f is d lies rides = all_more IsCalmHold (Pends z) holds (calm_pends z) (does_calm geometry perms choices (ReadObject object) r old new holds tt d)
  does_pends choices (SumObjects first count) r old new holds f is d lies rides = all_more IsCalmHold (Pends z) holds (calm_pends z) (does_calm geometry perms choices (SumObjects first count) r old new holds tt d)
  does_pends choices (ScrubPool limit) r old new holds f is d lies rides = all_more IsCalmHold (Pends z) holds (calm_pends z) (does_calm geometry perms choices (ScrubPool limit) r old new holds tt d)
  does_pends choices (TakeOffline leaf) r old new holds f is d lies rides = switch_pends (event.Offline leaf) leaf holds f tt (offline_switch geometry perms choices leaf r old new holds d) lies rides
  does_pends choices (TakeOnline leaf) r old new holds f is d lies rides = switch_pends (event.Online leaf) leaf holds f tt (online_switch geometry perms choices leaf r old new holds d) lies rides
  does_pends choices (RebuildPool limit) r old new holds f is d lies rides =
      rebuild_all geometry perms (Pends z) Placed placed_split (calm_pends z) (λ group thin hs end s k. sync_pends group thin hs end k.1.0 s k.0 k.1.1) choices limit r old new holds d (lies, (f, rides))
  does_pends choices command r old new holds f is d lies rides = absurd is

look_only_pends : (z : State) (hold : Hold) → IsLookOnly hold → Pends z hold
look_only_pends z (On v act) is = tt
look_only_pends z (OnUber u act) is = subst (λ a. Pends z (OnUber u a)) (sym is) tt

looks_pend : (z : State) (holds left : List Hold) → LeavesLooks holds left → AllOf (Pends z) left → AllOf (Pends z) holds
looks_pend z [] left leaves all = tt
looks_pend z (hold ∷ holds) left (inl look) all = (look_only_pends z hold look.0, looks_pend z holds left look.1 all)
looks_pend z (hold ∷ holds) left (inr own) all = (let a : AllOf (Pends z) (hold ∷ own.0) = subst (AllOf (Pends z)) own.1 all in (a.0, looks_pend z holds own.0 own.2 a.1))

broken_pends : (z x : State) (command : Command) (old new : Store) (left : List Hold) (f : ℕ → ℕ) → 0 < x.geometry.props.metaslabs → IsForLanes command → Broken x.geometry x.perms command old left new
    → AllOf (LiesIn z) left → Rides f left → AllOf (Pends z) left
broken_pends z x SyncPool old new left f some is d lies rides = sync_pends z x.geometry x.perms some d.1.group d.1.thin left Broke f d.1.syncs lies rides
broken_pends z x (WriteObject object bytes) old new left f some is d lies rides = absurd d
broken_pends z x (FillObjects first count len seed) old new left f some is d lies rides = absurd d
broken_pends z x (FreeObject object) old new left f some is d lies rides = absurd d
broken_pends z x (ReadObject object) old new left f some is d lies rides = absurd d
broken_pends z x (SumObjects first count) old new left f some is d lies rides = absurd d
broken_pends z x (ScrubPool limit) old new left f some is d lies rides = absurd d
broken_pends z x (TakeOffline leaf) old new left f some is d lies rides = switch_pends z x.geometry x.perms some (event.Offline leaf) leaf left f tt (inl (Broke, d.1)) lies rides
broken_pends z x (TakeOnline leaf) old new left f some is d lies rides = switch_pends z x.geometry x.perms some (event.Online leaf) leaf left f tt (inl (Broke, d.1)) lies rides
broken_pends z x (RebuildPool limit) old new left f some is d lies rides =
    rebuild_broken x.geometry x.perms (Pends z) (Placed z x.geometry x.perms some) (placed_split z x.geometry x.perms some) (calm_pends z) (λ group thin hs end s k. sync_pends z x.geometry x.perms some group thin hs end k.1.0 s k.0 k.1.1) limit old new left d (lies, (f, rides))
broken_pends z x command old new left f some is d lies rides = absurd is

pub says_pend : (z x : State) (choices : Choices) (some : 0 < x.geometry.props.metaslabs) (commands : List Command) (old new : Store) (holds : List Hold) (replies : List Reply) (f : ℕ → ℕ) → AllOf IsForLanes commands
    → Says x choices commands old holds replies new → AllOf (LiesIn z) holds → Rides f holds → AllOf (Pends z) holds
says_pend z x choices some [] old new holds [] f of s lies rides = subst (AllOf (Pends z)) (sym s.0) tt
says_pend z x choices some [] old new holds (r ∷ replies) f of s lies rides = absurd s
says_pend z x choices some (command ∷ commands) old new holds (r ∷ replies) f of (front, back, left, mid, are, leaves, does, rest) lies rides =
    let lie : AllOf (LiesIn z) (front ++ back) = subst (AllOf (LiesIn z)) are lies in
    let ride = rides_split front back f (subst (Rides f) are rides) in
    let one = does_pends z x.geometry x.perms some choices command r old mid left f of.0 does (looks_left (LiesIn z) front left leaves (all_front (LiesIn z) front back lie)) (left_rides front left f leaves ride.0).0 in
    subst (AllOf (Pends z)) (sym are) (all_both (Pends z) front back (looks_pend z front left leaves one) (says_pend z x choices some commands mid new back replies (after f front) of.1 rest (all_back (LiesIn z) front back lie) ride.1))
says_pend z x choices some (command ∷ commands) old new holds [] f of (left, leaves, broken) lies rides =
    looks_pend z holds left leaves (broken_pends z x command old new left f some of.0 broken (looks_left (LiesIn z) holds left leaves lies) (left_rides holds left f leaves rides).0)
