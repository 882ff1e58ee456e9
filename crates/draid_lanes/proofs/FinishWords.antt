-- A closing group that a lane finishes, in the session's words, however often it waits.
use Rattle.std.proofs.Common.{◌≡◌, ◌<◌, ◌≤◌, ◌+◌, ◌++◌, ◌∷◌, ◌∙◌, ◌⊎◌, [], inl, inr, ℕ, zero, suc, Bool, true, List, Option, Some, None, Ok, Err, arith, refl, sym, ap, subst, if◌then◌else◌, eq-eqb, ne_eqb}
use mathlib.Core.Logic.{dite}
use native.Mathlib.Decide.{ℕ_discrete}
use Rattle.std.specs.Prelude.{Result, is_some}
use Rattle.std.proofs.lemmas.Bool.{cases_lt}
use Rattle.draid_rack.specs.declared.Rack as racks
use Rattle.draid_area.specs.declared.Area as areas
use Rattle.draid_machine.specs.State as machine
use Rattle.draid_machine.proofs.Small.{none_some, some_injective}
use Rattle.draid_segments.specs.Segments.{Pieces}
use Rattle.draid_session.specs.Groups as groups
use Rattle.draid_session.specs.Holds.{Act, Did, Hold, Looked, MadeLeaf, On, RackFailed, Reserved, AreaFailed, CallStarved, View, view_of}
use Rattle.draid_session.specs.Lanes.{IsLookOnly, LeavesLooks}
use Rattle.draid_session.specs.Phases.{Broke, End, Starved, WasLast, WasWorn, Went}
use Rattle.draid_session.specs.State.{Metaslab, State}
use Rattle.draid_shard.specs.declared.shard.Shard.{Shard}
use Rattle.draid_uber.specs.Slots.{group_of}
use Rattle.draid_uber.specs.Uber as ubers
use Rattle.draid_uber.specs.declared.uber.Uber.{Uber}
use Rattle.draid_pool.specs.Drifts.{groups_number}
use Rattle.draid_pool.specs.Grouping.{ClosesIn, ClosesNext, ClosesEach, CommitsIn, FindsClosing, FinishesIn, SealsBy, SealsEach, SeesClosing}
use Rattle.draid_pool.specs.Metaslabs.{IsMetaslab}
use Rattle.draid_pool.specs.Pools.{part_in}
use Rattle.draid_pool.specs.Rounds.{EachIs}
use Rattle.draid_pool.specs.Syncing.{end_of}
use Rattle.draid_pool.specs.declared.fault.SyncFault.{SyncFault}
use Rattle.draid_pool.proofs.GroupKeeps.{closing_behind}
use Rattle.draid_pool.proofs.Holding.{some_same}
use Rattle.draid_pool.proofs.SyncCalls.{end_same}
use Rattle.draid_lanes.specs.Governing.{lane_last}
use Rattle.draid_lanes.specs.Waits.{LaneWent}
use Rattle.draid_lanes.specs.declared.locked.Locked.{Locked}
use Rattle.draid_lanes.proofs.GroupWords.{GroupBut, group_refused, group_starved, group_unclosed, group_unsealed, group_went, name_hold}
use Rattle.draid_lanes.proofs.OneTurn.{HasCame, Once, gone}
use Rattle.draid_lanes.proofs.OnlyLooking.{same_looks}
use Rattle.draid_lanes.proofs.RoundWords.{Each, IsOneOf, Says, looks_end, said_as, said_none, said_on, said_one}
use Rattle.draid_lanes.proofs.SealWords.{SealedTo, SealedUpto, Sealing, closed_all, closes_again, closes_upto, finds_again, leaves_look, leaves_then, look_on, seals_again, sees_again, waits_on, was_closing, was_sealed}
use Rattle.draid_lanes.proofs.SealWords.SealedTo.{Behind, Under}

some_not : (o : Option machine.Image) → is_some o ≡ true → o ≡ None → ⊥
some_not None is none = absurd (cc)
some_not (Some image) is none = absurd (cc)

module _ {R A G W : Type 0} (rack : racks.Ghosts R) (area : areas.Ghosts A) (x : State) (owns : ℕ → Bool) (own : owns groups_number ≡ true) (count : ℕ) where
  -- ---- what is looked for

  -- so far it only looked, and each metaslab has the closing group that it had
  pub record Fresh (a b : Locked R A G W) : Type 0 where
    pub said : Says rack area x a b [] (λ hs. LeavesLooks hs [])
    pub same : (m : ℕ) (shard : Shard R A) → lane_last b m ≡ Some shard → (was : Shard R A) × (lane_last a m ≡ Some was) × (shard.closing ≡ was.closing)

  pub fresh_none : (a : Locked R A G W) → HasCame rack area x a → Fresh a a
  fresh_none a came = record {
    said = said_as rack area x a a [] (λ hs. hs ≡ []) (λ hs. LeavesLooks hs []) (said_none rack area x a came) (λ hs none. subst (λ l. LeavesLooks l []) (sym none) refl);
    same = λ m shard at. (shard, at, refl);
  }

  -- a metaslab had a group closing
  pub record FoundAt (a : Locked R A G W) (found : Option ℕ) (m : ℕ) : Type 0 where
    pub below : m < count
    pub shard : Shard R A
    pub there : lane_last a m ≡ Some shard
    pub closing : shard.closing ≡ found

  pub fresh_look : (found : Option ℕ) (a b c : Locked R A G W) (m : ℕ) → m < count → Fresh a b → Once rack area x owns (SeesClosing found) b m c → Fresh a c × FoundAt a found m
  fresh_look found a b c m less f h =
      let was = f.same m h.shard h.there in
      let kept : h.before.closing ≡ h.shard.closing = (h.drifts.groups own).groups.closing in
      let after : h.after.closing ≡ h.before.closing = ap (λ (s : Shard R A). s.closing) h.did.0 in (
        record {
          said = said_on rack area x a b c [] [] (λ hs. LeavesLooks hs []) (IsOneOf IsLookOnly) (λ hs. LeavesLooks hs []) f.said
              (said_one rack area x owns (SeesClosing found) IsLookOnly b m c h f.said.came (λ pieces y is. same_looks rack area (part_in x m) pieces h.before h.after y is h.did.0) looks_end) (λ hs ks l one. leaves_look hs [] ks l one);
          same = λ k shard at. dite (ℕ_discrete k m)
              (λ same.
              let is : h.after ≡ shard = some_same h.after shard (sym (h.is m ∙ ap (λ t. if t then Some h.after else lane_last b m) (eq-eqb m m refl)) ∙ (ap (lane_last c) (sym same) ∙ at)) in
              (was.0, ap (lane_last a) same ∙ was.1, ap (λ (s : Shard R A). s.closing) (sym is) ∙ (after ∙ (kept ∙ was.2))))
              (λ not. f.same k shard (sym (h.is k ∙ ap (λ t. if t then Some h.after else lane_last b k) (ne_eqb k m not)) ∙ at));
        },
        record { below = less; shard = was.0; there = was.1; closing = sym was.2 ∙ (sym kept ∙ h.did.1) },
      )

  pub fresh_round : (a b : Locked R A G W) → Fresh a b → (n none : ℕ) (c : Locked R A G W) → n ≤ count → Each rack area x owns (λ none before after. SeesClosing None before after) n b none c → Fresh a c × ((m : ℕ) → m < n → FoundAt a None m)
  fresh_round a b f zero none c low each = (subst (Fresh a) (sym each.0) f, λ m less. absurd (omega (arith, less)))
  fresh_round a b f (suc n) none c low (mid, some, more, each, once, adds) =
      let z = fresh_round a b f n some mid (omega (arith, low)) each in
      let one = fresh_look None a mid c n (omega (arith, low)) z.0 once in (
        one.0,
        λ m less. dite (ℕ_discrete m n) (λ same. subst (FoundAt a None) (sym same) one.1) (λ not. z.1 m (omega (arith, less, not))),
      )

  abbrev Finds : Locked R A G W → Option ℕ → Locked R A G W → Type 0
  Finds a found b = FindsClosing rack area lane_last (LaneWent rack area) true owns count a found b

  pub fresh_finds : (group : ℕ) (a b c : Locked R A G W) → Fresh a b → Finds b (Some group) c → Fresh a c × ((m : ℕ) × FoundAt a (Some group) m)
  fresh_finds group a b c f s =
      let below = s.below in
      let front = fresh_round a b f s.place s.sum s.mid (omega (arith, below)) s.front in
      let one = fresh_look (Some group) a s.mid c s.place s.below front.0 s.stop in
      (one.0, (s.place, one.1))

  -- ---- it is closed then

  pub sealing_front : (group k sum : ℕ) (a b c : Locked R A G W) → Fresh a b → Sealing rack area x owns own count group b c k sum → Sealing rack area x owns own count group a c k sum
  sealing_front group k sum a b c f s = record {
    said = said_on rack area x a b c [] [] (λ hs. LeavesLooks hs []) (SealedUpto x count group k sum) (SealedUpto x count group k sum) f.said s.said
        (λ hs ks l d. record { closes = d.closes; seals = d.seals; leaves = leaves_then hs [] ks (d.closes ++ d.seals) l d.leaves; closed = d.closed; sealed = d.sealed });
    closing = s.closing;
    sealed = s.sealed;
  }

  -- ---- how far it came as it waits

  -- a group that was found is closed in all, and sealed in some
  pub record Waiting (a b : Locked R A G W) : Type 0 where
    pub group : ℕ
    pub place : ℕ
    pub found : FoundAt a (Some group) place
    pub k : ℕ
    pub sum : ℕ
    pub below : k < count
    pub sealing : Sealing rack area x owns own count group a b k sum

  pub data Stage (a b : Locked R A G W) : Type 0 where
    Begins : Fresh a b → Stage a b
    Waits : Waiting a b → Stage a b

  -- as it is sealed again and has to wait
  waits_again : (group k sum : ℕ) (a b c : Locked R A G W) (place : ℕ) → FoundAt a (Some group) place → k < count → Sealing rack area x owns own count group a b k sum → SealsEach rack area lane_last (LaneWent rack area) true owns group count b None c → Waiting a c
  waits_again group k sum a b c place found low s stop = by (seals_again rack area x owns own count group a b k sum s stop.place stop.sum stop.mid (let below = stop.below in omega (arith, below)) stop.front)
    where
      by : SealedTo rack area x owns own count group a stop.mid k sum stop.place → Waiting a c
      by (Under under t) = record { group = group; place = place; found = found; k = k; sum = sum; below = low; sealing = waits_on rack area x owns own count group a stop.mid c k sum stop.place stop.below t stop.stop }
      by (Behind all from t) = record { group = group; place = place; found = found; k = stop.place; sum = all; below = stop.below; sealing = waits_on rack area x owns own count group a stop.mid c stop.place all stop.place stop.below t stop.stop }

  abbrev Commits_in : ℕ → Locked R A G W → Uber A → Option (Result ℕ SyncFault) → Locked R A G W → Uber A → Type 0
  Commits_in group a u out b v = CommitsIn rack area lane_last (LaneWent rack area) true owns group count a u out b v

  -- the group that is found where one was found is that one
  found_same : (group other : ℕ) (a b c : Locked R A G W) (k sum m : ℕ) → m < count → Sealing rack area x owns own count group a b k sum → Once rack area x owns (SeesClosing (Some other)) b m c → other ≡ group
  found_same group other a b c k sum m less s h = some_injective other group (sym h.did.1 ∙ (was_closing rack area x owns own count group (SeesClosing (Some other)) b c m h less s.closing).closing)

  found_not : (group : ℕ) (a b c : Locked R A G W) (k sum m : ℕ) → m < count → Sealing rack area x owns own count group a b k sum → Once rack area x owns (SeesClosing None) b m c → ⊥
  found_not group a b c k sum m less s h = none_some h.before.closing group h.did.1 (was_closing rack area x owns own count group (SeesClosing None) b c m h less s.closing).closing

  -- what was found in a stage: the group is closed in no metaslab yet, or it is closed in all
  pub finds_on : (group k sum : ℕ) (a b c : Locked R A G W) → Sealing rack area x owns own count group a b k sum → (other : ℕ) → Finds b (Some other) c → (other ≡ group) × Sealing rack area x owns own count group a c k sum
  finds_on group k sum a b c s other stop =
      let below = stop.below in
      let front = finds_again rack area x owns own count group None a b stop.mid k sum stop.place stop.sum (omega (arith, below)) s stop.front in (
        found_same group other a stop.mid c k sum stop.place stop.below front stop.stop,
        sees_again rack area x owns own count group (Some other) a stop.mid c k sum stop.place stop.below front stop.stop,
      )

  -- it can't be that none was found
  pub not_none : (a b c : Locked R A G W) → Waiting a b → 0 < count → Finds b None c → ⊥
  not_none a b c w any each = by count 0 c any (omega arith) each
    where
      by : (n sum : ℕ) (d : Locked R A G W) → 0 < n → n ≤ count → Each rack area x owns (λ none before after. SeesClosing None before after) n b sum d → ⊥
      by zero sum d some low held = omega (arith, some)
      by (suc n) sum d some low (mid, less, more, held, once, adds) =
          found_not w.group a mid d w.k w.sum n (omega (arith, low)) (finds_again rack area x owns own count w.group None a b mid w.k w.sum n less (omega (arith, low)) w.sealing held) once

  pub waits_more : (a b c : Locked R A G W) (u v : Uber A) → Stage a b → FinishesIn rack area lane_last (LaneWent rack area) true owns count b u None c v → Waiting a c × (v ≡ u)
  waits_more a b c u v (Begins f) (group, mid, finds, (late, closes, seals, same)) =
      let z = fresh_finds group a b mid f finds in
      let any = z.1.1.below in
      (waits_again group 0 0 a late c z.1.0 z.1.1 (omega (arith, any)) (sealing_front group 0 0 a mid late z.0 (closed_all rack area x owns own count group mid late 0 closes z.0.said.came)) seals, same)
  waits_more a b c u v (Waits w) (group, mid, finds, (late, closes, seals, same)) =
      let z = finds_on w.group w.k w.sum a b mid w.sealing group finds in
      let closes' = subst (λ g. ClosesEach rack area lane_last (LaneWent rack area) true owns g count mid (Ok tt) late) z.0 closes in
      let seals' = subst (λ g. SealsEach rack area lane_last (LaneWent rack area) true owns g count late None c) z.0 seals in
      (waits_again w.group w.k w.sum a late c w.place w.found w.below (closes_again rack area x owns own count w.group a mid late w.k w.sum 0 z.1 closes') seals', same)

-- ---- what can't stop it any more

module _ (x : State) (group m : ℕ) (v : View) where
  -- where a group is closing, want of memory alone can stop its closing
  close_starves_by : (act : Act) (end : End) (t : ℕ) → v.world.closing ≡ Some t → groups.CloseStops x.geometry x.perms group m (On v act) end → (act ≡ Looked) × (end ≡ Starved)
  close_starves_by Looked Went t there is = absurd is
  close_starves_by Looked WasWorn t there is = absurd (none_some v.world.closing t is.1 there)
  close_starves_by Looked WasLast t there is = absurd (none_some v.world.closing t is.1 there)
  close_starves_by Looked Starved t there is = (refl, refl)
  close_starves_by Looked Broke t there is = absurd is
  close_starves_by (Did e w) end t there is = absurd is
  close_starves_by (Reserved n) end t there is = absurd is
  close_starves_by (MadeLeaf leaf) end t there is = absurd is
  close_starves_by (AreaFailed g) end t there is = absurd is
  close_starves_by RackFailed end t there is = absurd is
  close_starves_by CallStarved end t there is = absurd is

  -- where one is sealed nothing stops its sealing
  seal_stops_by : (act : Act) (end : End) → is_some v.world.sealed ≡ true → groups.SealStops x.geometry x.perms group m (On v act) end → ⊥
  seal_stops_by (AreaFailed t) Went there is = is
  seal_stops_by (AreaFailed t) WasWorn there is = is
  seal_stops_by (AreaFailed t) WasLast there is = is
  seal_stops_by (AreaFailed t) Starved there is = is
  seal_stops_by (AreaFailed t) Broke there is = some_not v.world.sealed there is.3
  seal_stops_by CallStarved Went there is = is
  seal_stops_by CallStarved WasWorn there is = is
  seal_stops_by CallStarved WasLast there is = is
  seal_stops_by CallStarved Starved there is = some_not v.world.sealed there is.2
  seal_stops_by CallStarved Broke there is = is
  seal_stops_by Looked end there is = is
  seal_stops_by (Did e w) end there is = is
  seal_stops_by (Reserved n) end there is = is
  seal_stops_by (MadeLeaf leaf) end there is = is
  seal_stops_by RackFailed end there is = is

-- ---- its end

but_front : (x : State) (group thin : ℕ) (end : End) (hs ks : List Hold) → LeavesLooks hs [] → GroupBut x group thin end ks → GroupBut x group thin end (hs ++ ks)
but_front x group thin end hs ks l d = record { left = d.left; leaves = leaves_then hs [] ks d.left l d.leaves; does = d.does }

-- but for looks it is the group
abbrev pub GroupSays : State → ℕ → Result ℕ SyncFault → List Hold → Type 0
GroupSays x group (Ok thin) hs = (sum : ℕ) × GroupBut x group sum Went hs
GroupSays x group (Err why) hs = (sum : ℕ) × GroupBut x group sum (end_of {T = ℕ} (Err why)) hs

module _ {R A : Type 0} (rack : racks.Ghosts R) (area : areas.Ghosts A) (x : State) where
  seal_not_stopped : (group m : ℕ) (why : SyncFault) (before after : Shard R A) → before.sealed ≡ true → SealsBy rack area group before (Err why) after → (pieces : Pieces) (y : Metaslab) → IsMetaslab rack area (part_in x m) pieces before y → ⊥
  seal_not_stopped group m why before after sealed s pieces y is =
      let t = s.seals (part_in x m) pieces y is in
      seal_stops_by x group m (view_of m y) t.act (end_of {T = ℕ} (Err why)) (is.stands.is_in.sealed ∙ sealed) t.done.0

module _ {R A G W : Type 0} (rack : racks.Ghosts R) (area : areas.Ghosts A) (x : State) (owns : ℕ → Bool) (own : owns groups_number ≡ true) (count : ℕ) (all : count ≡ x.geometry.props.metaslabs) where
  said_front : (group thin : ℕ) (end : End) (us : List Hold) (a b c : Locked R A G W) → Fresh rack area x owns own count a b → Says rack area x b c us (GroupBut x group thin end) → Says rack area x a c us (GroupBut x group thin end)
  said_front group thin end us a b c f s = said_on rack area x a b c [] us (λ hs. LeavesLooks hs []) (GroupBut x group thin end) (GroupBut x group thin end) f.said s (λ hs ks. but_front x group thin end hs ks)

  -- all are sealed then
  sealed_to_all : (group k sum : ℕ) (a b : Locked R A G W) → k ≤ count → SealedTo rack area x owns own count group a b k sum count → (more : ℕ) × Sealing rack area x owns own count group a b count more
  sealed_to_all group k sum a b low (Under under t) = (sum, subst (λ j. Sealing rack area x owns own count group a b j sum) (let same : k ≡ count = omega (arith, low, under) in same) t)
  sealed_to_all group k sum a b low (Behind more from t) = (more, t)

  abbrev Seals_each : ℕ → Locked R A G W → Option (Result ℕ SyncFault) → Locked R A G W → Type 0
  Seals_each group a out b = SealsEach rack area lane_last (LaneWent rack area) true owns group count a out b

  -- a metaslab stops it as it is sealed
  pub rest_unsealed : (group k sum : ℕ) (a b c : Locked R A G W) (why : SyncFault) → k < count → Sealing rack area x owns own count group a b k sum → Seals_each group b (Some (Err why)) c → Says rack area x a c [] (GroupBut x group 0 (end_of {T = ℕ} (Err why)))
  rest_unsealed group k sum a b c why low s stop = by (seals_again rack area x owns own count group a b k sum s stop.place stop.sum stop.mid (let below = stop.below in omega (arith, below)) stop.front)
    where
      by : SealedTo rack area x owns own count group a stop.mid k sum stop.place → Says rack area x a c [] (GroupBut x group 0 (end_of {T = ℕ} (Err why)))
      by (Under under t) = at (cases_lt stop.place k)
        where
          at : (stop.place < k) ⊎ (k ≤ stop.place) → Says rack area x a c [] (GroupBut x group 0 (end_of {T = ℕ} (Err why)))
          at (inl below) =
              let h = stop.stop in
              let sealed = was_sealed rack area x owns own count group (λ before after. SealsBy rack area group before (Err why) after) stop.mid c k stop.place h below t.sealed in
              let g = gone rack area x owns (λ before after. SealsBy rack area group before (Err why) after) stop.mid stop.place c h t.said.came in
              absurd (seal_not_stopped rack area x group stop.place why h.before h.after sealed.sealed h.did g.now g.reached g.is)
          at (inr from) =
              let same : k ≡ stop.place = omega (arith, under, from) in
              group_unsealed rack area x owns own count all group a stop.mid c stop.place sum why stop.below (subst (λ j. Sealing rack area x owns own count group a stop.mid j sum) same t) stop.stop
      by (Behind more from t) = group_unsealed rack area x owns own count all group a stop.mid c stop.place more why stop.below t stop.stop

  -- as it is closed again
  close_starves : (group k sum : ℕ) (a b c : Locked R A G W) (why : SyncFault) → k < count → Sealing rack area x owns own count group a b k sum → ClosesEach rack area lane_last (LaneWent rack area) true owns group count b (Err why) c
      → Says rack area x a c [] (GroupBut x group 0 (end_of {T = Unit} (Err why)))
  close_starves group k sum a b c why low s stop =
      let does : Shard R A → Shard R A → Type 0 = (λ before after. ClosesIn rack area group before (Err why) after) in
      let h = stop.stop in
      let front = looks_closed in
      let closing = was_closing rack area x owns own count group does stop.mid c stop.place h stop.below front.closing in
      let g = gone rack area x owns does stop.mid stop.place c h front.said.came in
      let t = h.did.closes (part_in x stop.place) g.now g.reached g.is in
      let one = close_starves_by x group stop.place (view_of stop.place g.reached) t.act (end_of {T = Unit} (Err why)) group (g.is.stands.is_in.closing ∙ closing.closing) t.done.0 in
      subst (λ end. Says rack area x a c [] (GroupBut x group 0 end)) (sym one.1)
      (group_starved rack area x owns own count all group a c k sum low
      (look_on rack area x owns own count group does a stop.mid c k sum stop.place stop.below front h
      (λ pieces y is.
      let u = h.did.closes (part_in x stop.place) pieces y is in
      let two = close_starves_by x group stop.place (view_of stop.place y) u.act (end_of {T = Unit} (Err why)) group (is.stands.is_in.closing ∙ closing.closing) u.done.0 in
      record { act = u.act; reached = u.reached; acts = u.acts; done = two.0; is = u.is })))
    where
      looks_closed : Sealing rack area x owns own count group a stop.mid k sum
      looks_closed = closes_upto rack area x owns own count group a b stop.mid k sum stop.place stop.sum (let below = stop.below in omega (arith, below)) s stop.front

  -- ---- a group, from where it stands

  abbrev Ends_in : ℕ → Locked R A G W → Uber A → Option (Result ℕ SyncFault) → Locked R A G W → Uber A → Type 0
  Ends_in group a u out b v = CommitsIn rack area lane_last (LaneWent rack area) true owns group count a u out b v

  -- the holds of the uberblock
  abbrev pub commit_holds : (group : ℕ) (a b : Locked R A G W) (u v : Uber A) (out : Option (Result ℕ SyncFault)) → Ends_in group a u out b v → List Hold
  commit_holds group a b u v (Some (Ok thin)) it = name_hold u group (Ok tt) ∷ []
  commit_holds group a b u v (Some (Err why)) (inl it) = []
  commit_holds group a b u v (Some (Err why)) (inr (inl it)) = []
  commit_holds group a b u v (Some (Err why)) (inr (inr it)) = name_hold u group (Err why) ∷ []
  commit_holds group a b u v None it = []

  abbrev Said_group : ℕ → Locked R A G W → Locked R A G W → List Hold → Result ℕ SyncFault → Type 0
  Said_group group a b us result = Says rack area x a b us (GroupSays x group result)

  said_sum : (group sum : ℕ) (a b : Locked R A G W) (us : List Hold) (why : SyncFault) → Says rack area x a b us (GroupBut x group sum (end_of {T = ℕ} (Err why))) → Said_group group a b us (Err why)
  said_sum group sum a b us why s = said_as rack area x a b us (GroupBut x group sum (end_of {T = ℕ} (Err why))) (GroupSays x group (Err why)) s (λ hs d. (sum, d))

  unit_end : (group sum : ℕ) (a b : Locked R A G W) (us : List Hold) (why : SyncFault) → Says rack area x a b us (GroupBut x group sum (end_of {T = Unit} (Err why))) → Said_group group a b us (Err why)
  unit_end group sum a b us why s = said_sum group sum a b us why (subst (λ end. Says rack area x a b us (GroupBut x group sum end)) (end_same why) s)

  -- it is closed in all already
  pub ends_sealing : (group k sum : ℕ) (a b c : Locked R A G W) (u v : Uber A) (result : Result ℕ SyncFault) → k < count → group ≡ group_of (ubers.kept_of u) + 1 → Sealing rack area x owns own count group a b k sum
      → (it : Ends_in group b u (Some result) c v) → Said_group group a c (commit_holds group b c u v (Some result) it) result
  ends_sealing group k sum a b c u v (Ok thin) low next s (mid, late, closes, seals, names, commits) =
      let all_of = sealed_to_all group k sum a late (omega (arith, low)) (seals_again rack area x owns own count group a mid k sum (closes_again rack area x owns own count group a b mid k sum 0 s closes) count thin late (omega arith) seals) in
      said_as rack area x a c (name_hold u group (Ok tt) ∷ []) (GroupBut x group all_of.0 Went) (GroupSays x group (Ok thin)) (group_went rack area x owns own count all group a late c all_of.0 0 u v next all_of.1 names commits) (λ hs d. (all_of.0, d))
  ends_sealing group k sum a b c u v (Err why) low next s (inl (closes, same)) = unit_end group 0 a c [] why (close_starves group k sum a b c why low s closes)
  ends_sealing group k sum a b c u v (Err why) low next s (inr (inl (mid, closes, seals, same))) =
      said_sum group 0 a c [] why (rest_unsealed group k sum a mid c why low (closes_again rack area x owns own count group a b mid k sum 0 s closes) seals)
  ends_sealing group k sum a b c u v (Err why) low next s (inr (inr (mid, thin, closes, seals, names))) =
      let all_of = sealed_to_all group k sum a c (omega (arith, low)) (seals_again rack area x owns own count group a mid k sum (closes_again rack area x owns own count group a b mid k sum 0 s closes) count thin c (omega arith) seals) in
      unit_end group all_of.0 a c (name_hold u group (Err why) ∷ []) why (group_refused rack area x owns own count all group a c all_of.0 why u v next all_of.1 names)

  -- it only looked so far
  pub ends_fresh : (group : ℕ) (a b c : Locked R A G W) (u v : Uber A) (result : Result ℕ SyncFault) → 0 < count → group ≡ group_of (ubers.kept_of u) + 1 → Fresh rack area x owns own count a b
      → (it : Ends_in group b u (Some result) c v) → Said_group group a c (commit_holds group b c u v (Some result) it) result
  ends_fresh group a b c u v (Ok thin) any next f (mid, late, closes, seals, names, commits) =
      let s = sealing_front rack area x owns own count group 0 0 a b mid f (closed_all rack area x owns own count group b mid 0 closes f.said.came) in
      let all_of = sealed_to_all group 0 0 a late (omega arith) (seals_again rack area x owns own count group a mid 0 0 s count thin late (omega arith) seals) in
      said_as rack area x a c (name_hold u group (Ok tt) ∷ []) (GroupBut x group all_of.0 Went) (GroupSays x group (Ok thin)) (group_went rack area x owns own count all group a late c all_of.0 0 u v next all_of.1 names commits) (λ hs d. (all_of.0, d))
  ends_fresh group a b c u v (Err why) any next f (inl (stop, same)) =
      unit_end group 0 a c [] why (said_front group 0 (end_of {T = Unit} (Err why)) [] a b c f (group_unclosed rack area x owns own count all group b stop.mid c stop.place stop.sum why stop.below f.said.came stop.front stop.stop))
  ends_fresh group a b c u v (Err why) any next f (inr (inl (mid, closes, seals, same))) =
      let s = sealing_front rack area x owns own count group 0 0 a b mid f (closed_all rack area x owns own count group b mid 0 closes f.said.came) in
      said_sum group 0 a c [] why (rest_unsealed group 0 0 a mid c why any s seals)
  ends_fresh group a b c u v (Err why) any next f (inr (inr (mid, thin, closes, seals, names))) =
      let s = sealing_front rack area x owns own count group 0 0 a b mid f (closed_all rack area x owns own count group b mid 0 closes f.said.came) in
      let all_of = sealed_to_all group 0 0 a c (omega arith) (seals_again rack area x owns own count group a mid 0 0 s count thin c (omega arith) seals) in
      unit_end group all_of.0 a c (name_hold u group (Err why) ∷ []) why (group_refused rack area x owns own count all group a c all_of.0 why u v next all_of.1 names)

  -- ---- what was closing is finished

  abbrev pub Finishes_in : Locked R A G W → Uber A → Option (Result Unit SyncFault) → Locked R A G W → Uber A → Type 0
  Finishes_in a u out b v = FinishesIn rack area lane_last (LaneWent rack area) true owns count a u out b v

  abbrev pub finish_holds : (a b : Locked R A G W) (u v : Uber A) (out : Option (Result Unit SyncFault)) → Finishes_in a u out b v → List Hold
  finish_holds a b u v (Some (Ok done)) (inl it) = []
  finish_holds a b u v (Some (Ok done)) (inr (group, thin, mid, found, commits)) = commit_holds group mid b u v (Some (Ok thin)) commits
  finish_holds a b u v (Some (Err why)) (group, mid, found, commits) = commit_holds group mid b u v (Some (Err why)) commits
  finish_holds a b u v None it = []

  -- What is said of it: no group was closing, and it only looked; or a group that was closing in a metaslab is gone through.
  pub record NoneFound (a : Locked R A G W) (hs : List Hold) : Type 0 where
    pub none : (m : ℕ) → m < count → FoundAt rack area x owns own count a None m
    pub leaves : LeavesLooks hs []

  pub record OneFound (a : Locked R A G W) (end : End) (hs : List Hold) : Type 0 where
    pub group : ℕ
    pub place : ℕ
    pub found : FoundAt rack area x owns own count a (Some group) place
    pub thin : ℕ
    pub but_it : GroupBut x group thin end hs

  abbrev pub FinishSays : Locked R A G W → Result Unit SyncFault → List Hold → Type 0
  FinishSays a (Ok done) hs = NoneFound a hs ⊎ OneFound a Went hs
  FinishSays a (Err why) hs = OneFound a (end_of {T = ℕ} (Err why)) hs

  -- the group that was found is the next one
  found_is : (a : Locked R A G W) (u : Uber A) (group m : ℕ) → EachIs count (ClosesNext rack (group_of (ubers.kept_of u) + 1)) (lane_last a) → FoundAt rack area x owns own count a (Some group) m → group ≡ group_of (ubers.kept_of u) + 1
  found_is a u group m ready f =
      let z = ready m f.below in
      let is = subst (ClosesNext rack (group_of (ubers.kept_of u) + 1)) (some_same z.0 f.shard (sym z.1 ∙ f.there)) z.2 in
      let behind = closing_behind rack area f.shard group is.valid f.closing in
      let next = is.next in
      omega (arith, behind, next)

  one_ok : (a c : Locked R A G W) (us : List Hold) (group place thin : ℕ) → FoundAt rack area x owns own count a (Some group) place → Said_group group a c us (Ok thin) → Says rack area x a c us (FinishSays a (Ok tt))
  one_ok a c us group place thin found s = said_as rack area x a c us (GroupSays x group (Ok thin)) (FinishSays a (Ok tt)) s (λ hs d. inr (record { group = group; place = place; found = found; thin = d.0; but_it = d.1 }))

  one_err : (a c : Locked R A G W) (us : List Hold) (group place : ℕ) (why : SyncFault) → FoundAt rack area x owns own count a (Some group) place → Said_group group a c us (Err why) → Says rack area x a c us (FinishSays a (Err why))
  one_err a c us group place why found s = said_as rack area x a c us (GroupSays x group (Err why)) (FinishSays a (Err why)) s (λ hs d. record { group = group; place = place; found = found; thin = d.0; but_it = d.1 })

  pub finish_said : (a b c : Locked R A G W) (u v : Uber A) (result : Result Unit SyncFault) → 0 < count → EachIs count (ClosesNext rack (group_of (ubers.kept_of u) + 1)) (lane_last a) → Stage rack area x owns own count a b
      → (it : Finishes_in b u (Some result) c v) → Says rack area x a c (finish_holds b c u v (Some result) it) (FinishSays a result)
  finish_said a b c u v (Ok done) any ready (Begins f) (inl (finds, same)) =
      let z = fresh_round rack area x owns own count a b f count 0 c (omega arith) finds in
      said_as rack area x a c [] (λ hs. LeavesLooks hs []) (FinishSays a (Ok done)) z.0.said (λ hs l. inl (record { none = z.1; leaves = l }))
  finish_said a b c u v (Ok done) any ready (Begins f) (inr (group, thin, mid, finds, commits)) =
      let z = fresh_finds rack area x owns own count group a b mid f finds in
      one_ok a c (commit_holds group mid c u v (Some (Ok thin)) commits) group z.1.0 thin z.1.1 (ends_fresh group a mid c u v (Ok thin) any (found_is a u group z.1.0 ready z.1.1) z.0 commits)
  finish_said a b c u v (Err why) any ready (Begins f) (group, mid, finds, commits) =
      let z = fresh_finds rack area x owns own count group a b mid f finds in
      one_err a c (commit_holds group mid c u v (Some (Err why)) commits) group z.1.0 why z.1.1 (ends_fresh group a mid c u v (Err why) any (found_is a u group z.1.0 ready z.1.1) z.0 commits)
  finish_said a b c u v (Ok done) any ready (Waits w) (inl (finds, same)) = absurd (not_none rack area x owns own count a b c w any finds)
  finish_said a b c u v (Ok done) any ready (Waits w) (inr (group, thin, mid, finds, commits)) =
      let z = finds_on rack area x owns own count w.group w.k w.sum a b mid w.sealing group finds in
      one_ok a c (commit_holds group mid c u v (Some (Ok thin)) commits) group w.place thin (subst (λ g. FoundAt rack area x owns own count a (Some g) w.place) (sym z.0) w.found)
      (ends_sealing group w.k w.sum a mid c u v (Ok thin) w.below (z.0 ∙ found_is a u w.group w.place ready w.found) (subst (λ g. Sealing rack area x owns own count g a mid w.k w.sum) (sym z.0) z.1) commits)
  finish_said a b c u v (Err why) any ready (Waits w) (group, mid, finds, commits) =
      let z = finds_on rack area x owns own count w.group w.k w.sum a b mid w.sealing group finds in
      one_err a c (commit_holds group mid c u v (Some (Err why)) commits) group w.place why (subst (λ g. FoundAt rack area x owns own count a (Some g) w.place) (sym z.0) w.found)
      (ends_sealing group w.k w.sum a mid c u v (Err why) w.below (z.0 ∙ found_is a u w.group w.place ready w.found) (subst (λ g. Sealing rack area x owns own count g a mid w.k w.sum) (sym z.0) z.1) commits)
