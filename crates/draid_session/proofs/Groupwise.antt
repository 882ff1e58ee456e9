-- Where a metaslab stands along the holds of its lock: the number of its place never falls, so what each lane finds there does not either.
use Rattle.std.proofs.Common.{◌≡◌, ◌∙◌, ◌==◌, ◌+◌, ◌<◌, ◌≤◌, ◌⊎◌, ◌++◌, ℕ, zero, suc, Bool, true, false, List, [], ◌∷◌, Option, Some, None, All, inl, inr, refl, sym, ap, subst, arith, cond, slice_set, if◌then◌else◌}
use Rattle.std.specs.Prelude.{⊤, slice_get, Contains}
use Rattle.std.proofs.lemmas.List.Elements.{All-head, All-tail}
use Rattle.draid_spec.specs.declared.layout.Geometry.{Geometry}
use Rattle.draid_perm.specs.declared.perms.Perms.{Perms}
use Rattle.draid_layouts.specs.Layout.{layout_of}
use Rattle.draid_machine.specs.declared.event.Event.{Event}
use Rattle.draid_machine.specs.declared.event.Event.TheVariants as event
use Rattle.draid_machine.specs.State as machine
use Rattle.draid_machine.specs.Step.{CloseStep, CommitStep}
use Rattle.draid_machine.proofs.Small.{absurd_test, equal, is_equal, none_some, some_same}
use Rattle.draid_session.specs.Follows.{Adds, Follows, HoldsMetaslab, MetaslabActs}
use Rattle.draid_session.specs.Groups as groups
use Rattle.draid_session.specs.Groups.{HasClosing, behind_close, ends_group, has_other}
use Rattle.draid_session.specs.Holds.{Act, AreaFailed, Did, Hold, Looked, MadeLeaf, On, OnUber, RackFailed, CallStarved, Reserved, View, view_of}
use Rattle.draid_session.specs.Keeping.{IsNoted, TellsGroups, UnsyncedIn}
use Rattle.draid_session.specs.Lanes.{IsMerged, LeavesLooks, holds_of, is_of}
use Rattle.draid_session.specs.Looks.{AllOf, LooksFrom}
use Rattle.draid_session.specs.Phases.{Each, NoneOf, Went}
use Rattle.draid_session.specs.State.{Metaslab, State}
use Rattle.draid_session.proofs.Calm.{Alike, IsCalm, alike_by, calm_commit, hold_each, step_alike}
use Rattle.draid_session.proofs.Lanewise.{all_get, all_more, all_unset}
use Rattle.draid_session.proofs.Lists.{get_set_same, some_of}
use Rattle.draid_session.proofs.Noted.{Goes, IsAhead, NotSynced, ahead_commit, ahead_in, goes_more, goes_same, noted_close, noted_commit, unsynced_more}

-- ---- a metaslab's place

-- its number rises as a group is closed, and as one is committed
abbrev pub place_by : Option ℕ → ℕ → ℕ
place_by None open_group = open_group + open_group + 1
place_by (Some group) open_group = open_group + open_group

abbrev pub place : machine.State → ℕ
place w = place_by w.closing w.open_group

-- a group that is closing is the one before the open one
abbrev pub InLine : machine.State → Type 0
InLine w = (group : ℕ) → w.closing ≡ Some group → w.open_group ≡ group + 1

pub idle_place : (w : machine.State) → w.closing ≡ None → place w ≡ w.open_group + w.open_group + 1
idle_place w is = ap (λ o. place_by o w.open_group) is

pub busy_place : (w : machine.State) (group : ℕ) → w.closing ≡ Some group → place w ≡ w.open_group + w.open_group
busy_place w group is = ap (λ o. place_by o w.open_group) is

low_by : (o : Option ℕ) (n : ℕ) → n + n ≤ place_by o n
low_by None n = omega (arith)
low_by (Some group) n = omega (arith)

high_by : (o : Option ℕ) (n : ℕ) → place_by o n ≤ n + n + 1
high_by None n = omega (arith)
high_by (Some group) n = omega (arith)

pub place_low : (w : machine.State) → w.open_group + w.open_group ≤ place w
place_low w = low_by w.closing w.open_group

pub place_high : (w : machine.State) → place w ≤ w.open_group + w.open_group + 1
place_high w = high_by w.closing w.open_group

pub alike_place : (v w : machine.State) → Alike v w → place w ≡ place v
alike_place v w a = (λ i. place_by (a.closing i) (a.group i))

-- ---- what came behind an event

-- So it is once an event came while this group was open: while the group before it isn't committed and while it isn't, the metaslab isn't synced.
pub record Trails (k : ℕ) (y : Metaslab) : Type 0 where
  pub low : k + k ≤ place y.world
  pub kept : place y.world ≤ k + k + 2 → NotSynced y × ((g : ℕ) → y.world.closing ≡ Some g → g + 1 ≡ k → IsAhead y)

-- what a hold does to its metaslab
pub record Moves (y z : Metaslab) : Type 0 where
  pub rises : place y.world ≤ place z.world
  pub line : InLine y.world → InLine z.world
  pub noted : IsNoted y → IsNoted z
  pub trails : (k : ℕ) → InLine y.world → Trails k y → Trails k z

moves_calm : (y z : Metaslab) → Alike y.world z.world → Goes y z → Moves y z
moves_calm y z a g = record {
  rises = (let s = same in omega (arith, s));
  line = λ l t is. a.group ∙ l t (sym a.closing ∙ is);
  noted = g.noted;
  trails = λ k l t. record {
    low = (let low = t.low in let s = same in omega (arith, low, s));
    kept = λ small. (let both = t.kept (let s = same in omega (arith, small, s)) in (g.unsynced both.0, λ t is at. g.ahead (both.1 t (sym a.closing ∙ is) at)));
  };
}
  where
    same : place z.world ≡ place y.world
    same = alike_place y.world z.world a

moves_close : (l : machine.Layout) (t : ℕ) (w : machine.State) (y z : Metaslab) → Adds l (event.Close t) w y z → Moves y z
moves_close l t w y z adds = record { rises = rises; line = λ l g is. opened ∙ ap (λ n. n + 1) (some_same z.world.closing t g closing is); noted = noted; trails = trails }
  where
    legal : CloseStep y.world t w
    legal = adds.legal

    closing : z.world.closing ≡ Some t
    closing = ap (λ (s : machine.State). s.closing) adds.world ∙ ap (λ (s : machine.State). s.closing) legal.made

    opened : z.world.open_group ≡ t + 1
    opened = ap (λ (s : machine.State). s.open_group) adds.world ∙ ap (λ (s : machine.State). s.open_group) legal.made

    committed : z.world.committed ≡ y.world.committed
    committed = ap (λ (s : machine.State). s.committed) (adds.world ∙ legal.made)

    before : place y.world ≡ y.world.open_group + y.world.open_group + 1
    before = idle_place y.world legal.idle

    behind : place z.world ≡ z.world.open_group + z.world.open_group
    behind = busy_place z.world t closing

    rises : place y.world ≤ place z.world
    rises = (let a = before in let b = behind in let o = opened in let p = legal.open_group in omega (arith, a, b, o, p))

    noted : IsNoted y → IsNoted z
    noted n = subst (λ es. TellsGroups z.world.committed z.world.closing es) (sym adds.stored)
        (subst (λ c. TellsGroups c z.world.closing (y.events ++ event.Close t ∷ [])) (sym committed) (subst (λ o. TellsGroups y.world.committed o (y.events ++ event.Close t ∷ [])) (sym closing)
        (noted_close y.world.committed y.events t (subst (λ o. TellsGroups y.world.committed o y.events) legal.idle n))))

    unsynced : NotSynced y → NotSynced z
    unsynced u = subst (λ es. UnsyncedIn z.world.committed es) (sym adds.stored) (subst (λ c. UnsyncedIn c (y.events ++ event.Close t ∷ [])) (sym committed)
        (unsynced_more y.world.committed y.events (event.Close t) refl u))

    late : (k g : ℕ) → k + k ≤ place y.world → z.world.closing ≡ Some g → g + 1 ≡ k → ⊥
    late k g low is at =
        let same : t ≡ g = some_same z.world.closing t g closing is in
        let a = before in
        let p = legal.open_group in
        absurd (omega (arith, low, a, p, same, at))

    trails : (k : ℕ) → InLine y.world → Trails k y → Trails k z
    trails k line tr = record {
      low = (let low = tr.low in let r = rises in omega (arith, low, r));
      kept = λ small. (unsynced (tr.kept (let r = rises in omega (arith, small, r))).0, λ g is at. absurd (late k g tr.low is at));
    }

moves_commit : (l : machine.Layout) (t : ℕ) (w : machine.State) (y z : Metaslab) → Adds l (event.Commit t) w y z → Moves y z
moves_commit l t w y z adds = record { rises = rises; line = λ l g is. absurd (none_some z.world.closing g closing is); noted = noted; trails = trails }
  where
    legal : CommitStep l y.world t w
    legal = adds.legal

    closing : z.world.closing ≡ None
    closing = ap (λ (s : machine.State). s.closing) (adds.world ∙ legal.made)

    opened : z.world.open_group ≡ y.world.open_group
    opened = ap (λ (s : machine.State). s.open_group) (adds.world ∙ legal.made)

    committed : z.world.committed ≡ t
    committed = ap (λ (s : machine.State). s.committed) (adds.world ∙ legal.made)

    before : place y.world ≡ y.world.open_group + y.world.open_group
    before = busy_place y.world t legal.closing

    behind : place z.world ≡ z.world.open_group + z.world.open_group + 1
    behind = idle_place z.world closing

    rises : place y.world ≤ place z.world
    rises = (let a = before in let b = behind in let o = opened in omega (arith, a, b, o))

    noted : IsNoted y → IsNoted z
    noted n = subst (λ es. TellsGroups z.world.committed z.world.closing es) (sym adds.stored)
        (subst (λ (w : machine.State). TellsGroups w.committed w.closing (y.events ++ event.Commit t ∷ [])) (sym (adds.world ∙ legal.made))
        (noted_commit y.world.committed t y.world.closing y.events legal.closing n))

    trails : (k : ℕ) → InLine y.world → Trails k y → Trails k z
    trails k line tr = record {
      low = (let low = tr.low in let r = rises in omega (arith, low, r));
      kept = λ small.
          (let o = line t legal.closing in let a = before in let b = behind in let p = opened in let low = tr.low in
          let at : t + 1 ≡ k = omega (arith, small, o, a, b, p, low) in
          let both = tr.kept (omega (arith, o, a, at)) in
          let ahead : has_other t (behind_close t y.events) ≡ true = ahead_in y t legal.closing (both.1 t legal.closing at) in (
            subst (λ es. UnsyncedIn z.world.committed es) (sym adds.stored) (subst (λ c. UnsyncedIn c (y.events ++ event.Commit t ∷ [])) (sym committed) (ahead_commit t y.events ahead)),
            λ g is at. absurd (none_some z.world.closing g closing is),
          ));
    }

-- the events of lanes
abbrev pub IsSteady : Event → Type 0
IsSteady (event.Close group) = ⊤
IsSteady (event.Commit group) = ⊤
IsSteady e = IsCalm e

abbrev pub IsSteadyHold : Hold → Type 0
IsSteadyHold (On v (Did e w)) = IsSteady e
IsSteadyHold (On v act) = ⊤
IsSteadyHold (OnUber u act) = ⊤

calm_moves : (l : machine.Layout) (e : Event) (w : machine.State) (y z : Metaslab) → IsCalm e → Adds l e w y z → Moves y z
calm_moves l e w y z calm adds =
    let a : Alike y.world z.world = alike_by y.world w z.world adds.world (step_alike l y.world e w calm adds.legal) in
    moves_calm y z a (goes_more y z e (calm_commit e calm) a.committed a.closing adds.stored)

did_moves : (l : machine.Layout) (e : Event) (w : machine.State) (y z : Metaslab) → IsSteady e → Adds l e w y z → Moves y z
did_moves l (event.Close t) w y z steady adds = moves_close l t w y z adds
did_moves l (event.Commit t) w y z steady adds = moves_commit l t w y z adds
did_moves l e w y z steady adds = calm_moves l e w y z steady adds

same_moves : (y z : Metaslab) → z.world ≡ y.world → z.events ≡ y.events → Moves y z
same_moves y z world events =
    moves_calm y z (record { group = ap (λ (s : machine.State). s.open_group) world; closing = ap (λ (s : machine.State). s.closing) world; committed = ap (λ (s : machine.State). s.committed) world })
    (goes_same y z world events)

act_moves : (l : machine.Layout) (act : Act) (v : View) (y z : Metaslab) → IsSteadyHold (On v act) → MetaslabActs l act y z → Moves y z
act_moves l Looked v y z steady it = same_moves y z (ap (λ (k : Metaslab). k.world) it) (ap (λ (k : Metaslab). k.events) it)
act_moves l (Did e w) v y z steady it = did_moves l e w y z steady it
act_moves l (Reserved n) v y z steady it = same_moves y z (ap (λ (k : Metaslab). k.world) it) (ap (λ (k : Metaslab). k.events) it)
act_moves l (MadeLeaf n) v y z steady it = same_moves y z it.0.world it.0.events
act_moves l (AreaFailed n) v y z steady it = same_moves y z it.0.world it.0.events
act_moves l RackFailed v y z steady it = same_moves y z it.0.world it.0.events
act_moves l CallStarved v y z steady it = same_moves y z it.0.world it.0.events

-- ---- along one lock

-- the state that a hold leaves
abbrev pub world_behind : View → Act → machine.State
world_behind v (Did e w) = w
world_behind v act = v.world

abbrev pub ActsIn : View → Act → Type 0
ActsIn v (Did (event.Commit t) w) = (v.world.closing ≡ Some t) × (w.closing ≡ None) × (w.open_group ≡ v.world.open_group)
ActsIn v act = ⊤

-- a hold finds its metaslab at this place or a later one
pub record Sees (s : ℕ) (v : View) (act : Act) : Type 0 where
  pub line : InLine v.world
  pub from : s ≤ place v.world
  pub rises : place v.world ≤ place (world_behind v act)
  pub acts : ActsIn v act

-- so do holds of one lock, one after another
abbrev pub RidesAt : ℕ → List Hold → Type 0
RidesAt s [] = ⊤
RidesAt s (On v act ∷ holds) = Sees s v act × RidesAt (place (world_behind v act)) holds
RidesAt s (OnUber u act ∷ holds) = RidesAt s holds

-- a hold with an event lies in the history of its metaslab, which this state has behind it
pub record Lies (z : State) (v : View) (e : Event) (w : machine.State) : Type 0 where
  pub l : machine.Layout
  pub before : Metaslab
  pub after : Metaslab
  pub y : Metaslab
  pub sees : v ≡ view_of v.metaslab before
  pub adds : Adds l e w before after
  pub line : InLine before.world
  pub noted : IsNoted before
  pub there : slice_get z.metaslabs v.metaslab ≡ Some y
  pub rises : place w ≤ place y.world
  pub trails : (k : ℕ) → Trails k after → Trails k y

-- this state has the metaslab of a hold at the place behind it, or at a later one
pub record Ends (z : State) (v : View) (act : Act) : Type 0 where
  pub y : Metaslab
  pub there : slice_get z.metaslabs v.metaslab ≡ Some y
  pub rises : place (world_behind v act) ≤ place y.world

abbrev pub LiesIn : State → Hold → Type 0
LiesIn z (On v (Did e w)) = Lies z v e w
LiesIn z (On v act) = Ends z v act
LiesIn z (OnUber u act) = ⊤

-- a metaslab behind the holds of its lock
pub record Through (m : ℕ) (y : Metaslab) (reached : State) : Type 0 where
  pub last : Metaslab
  pub there : slice_get reached.metaslabs m ≡ Some last
  pub rises : place y.world ≤ place last.world
  pub line : InLine last.world
  pub noted : IsNoted y → IsNoted last
  pub trails : (k : ℕ) → Trails k y → Trails k last

world_is : (v : View) (act : Act) (l : machine.Layout) (y z : Metaslab) → v ≡ view_of v.metaslab y → MetaslabActs l act y z → world_behind v act ≡ z.world
world_is v Looked l y z sees it = ap (λ (u : View). u.world) sees ∙ sym (ap (λ (k : Metaslab). k.world) it)
world_is v (Did e w) l y z sees it = sym it.world
world_is v (Reserved n) l y z sees it = ap (λ (u : View). u.world) sees ∙ sym (ap (λ (k : Metaslab). k.world) it)
world_is v (MadeLeaf n) l y z sees it = ap (λ (u : View). u.world) sees ∙ sym it.0.world
world_is v (AreaFailed n) l y z sees it = ap (λ (u : View). u.world) sees ∙ sym it.0.world
world_is v RackFailed l y z sees it = ap (λ (u : View). u.world) sees ∙ sym it.0.world
world_is v CallStarved l y z sees it = ap (λ (u : View). u.world) sees ∙ sym it.0.world

did_acts : (v : View) (e : Event) (w : machine.State) (l : machine.Layout) (y z : Metaslab) → v ≡ view_of v.metaslab y → Adds l e w y z → ActsIn v (Did e w)
did_acts v (event.Commit t) w l y z sees it =
    let world : v.world ≡ y.world = ap (λ (u : View). u.world) sees in
    let legal : CommitStep l y.world t w = it.legal in (
      ap (λ (s : machine.State). s.closing) world ∙ legal.closing,
      ap (λ (s : machine.State). s.closing) legal.made,
      ap (λ (s : machine.State). s.open_group) legal.made ∙ sym (ap (λ (s : machine.State). s.open_group) world),
    )
did_acts v e w l y z sees it = tt

acts_in : (v : View) (act : Act) (l : machine.Layout) (y z : Metaslab) → v ≡ view_of v.metaslab y → MetaslabActs l act y z → ActsIn v act
acts_in v Looked l y z sees it = tt
acts_in v (Did e w) l y z sees it = did_acts v e w l y z sees it
acts_in v (Reserved n) l y z sees it = tt
acts_in v (MadeLeaf n) l y z sees it = tt
acts_in v (AreaFailed n) l y z sees it = tt
acts_in v RackFailed l y z sees it = tt
acts_in v CallStarved l y z sees it = tt

-- one hold of the metaslab's lock
pub record Held (m : ℕ) (y : Metaslab) (v : View) (act : Act) (s mid : State) : Type 0 where
  pub after : Metaslab
  pub here : slice_get mid.metaslabs m ≡ Some after
  pub sees : v ≡ view_of v.metaslab y
  pub acts : MetaslabActs (layout_of s.geometry s.perms v.metaslab) act y after
  pub moves : Moves y after
  pub world : world_behind v act ≡ after.world

pub held_by : (m : ℕ) (y : Metaslab) (v : View) (act : Act) (s mid : State) → v.metaslab ≡ m → slice_get s.metaslabs m ≡ Some y → IsSteadyHold (On v act) → HoldsMetaslab v act s mid → Held m y v act s mid
held_by m y v act s mid at there steady it = record {
  after = it.after;
  here = subst (λ n. slice_get mid.metaslabs n ≡ Some it.after) at mine;
  sees = it.sees ∙ ap (view_of v.metaslab) same;
  acts = acts;
  moves = act_moves (layout_of s.geometry s.perms v.metaslab) act v y it.after steady acts;
  world = world_is v act (layout_of s.geometry s.perms v.metaslab) y it.after (it.sees ∙ ap (view_of v.metaslab) same) acts;
}
  where
    same : it.before ≡ y
    same = some_of (slice_get s.metaslabs m) it.before y (subst (λ n. slice_get s.metaslabs n ≡ Some it.before) at it.there) there

    acts : MetaslabActs (layout_of s.geometry s.perms v.metaslab) act y it.after
    acts = subst (λ k. MetaslabActs (layout_of s.geometry s.perms v.metaslab) act k it.after) same it.acts

    mine : slice_get mid.metaslabs v.metaslab ≡ Some it.after
    mine = elim (hold_each v act s mid it v.metaslab it.before it.there) [ inl own ↦ own.1 | inr not ↦ absurd (not.0 refl) ]

pub through : (m : ℕ) (order : List Hold) (s reached : State) (y : Metaslab) → AllOf IsSteadyHold order → AllOf (λ hold. is_of (Some m) hold ≡ true) order → Follows order s reached
    → slice_get s.metaslabs m ≡ Some y → InLine y.world → Through m y reached
through m [] s reached y steady own follows there line = record {
  last = y;
  there = ap (λ (k : State). slice_get k.metaslabs m) follows ∙ there;
  rises = omega (arith);
  line = line;
  noted = λ n. n;
  trails = λ k t. t;
}
through m (On v act ∷ order) s reached y steady own follows there line =
    let h = held_by m y v act s follows.0 (is_equal v.metaslab m own.0) there steady.0 follows.1 in
    let rest = through m order follows.0 reached h.after steady.1 own.1 follows.2 h.here (h.moves.line line) in
    record {
      last = rest.last;
      there = rest.there;
      rises = (let a = h.moves.rises in let b = rest.rises in omega (arith, a, b));
      line = rest.line;
      noted = λ n. rest.noted (h.moves.noted n);
      trails = λ k t. rest.trails k (h.moves.trails k line t);
    }
through m (OnUber u act ∷ order) s reached y steady own follows there line = absurd (let is = own.0 in cc)

pub chain_rides : (m : ℕ) (order : List Hold) (s reached : State) (y : Metaslab) → AllOf IsSteadyHold order → AllOf (λ hold. is_of (Some m) hold ≡ true) order → Follows order s reached
    → slice_get s.metaslabs m ≡ Some y → InLine y.world → RidesAt (place y.world) order
chain_rides m [] s reached y steady own follows there line = tt
chain_rides m (On v act ∷ order) s reached y steady own follows there line =
    let h = held_by m y v act s follows.0 (is_equal v.metaslab m own.0) there steady.0 follows.1 in
    let rest = chain_rides m order follows.0 reached h.after steady.1 own.1 follows.2 h.here (h.moves.line line) in
    let world : v.world ≡ y.world = ap (λ (u : View). u.world) h.sees in
    let at : place v.world ≡ place y.world = ap place world in
    let behind : place (world_behind v act) ≡ place h.after.world = ap place h.world in (
      record {
        line = subst InLine (sym world) line;
        from = omega (arith, at);
        rises = (let r = h.moves.rises in omega (arith, at, behind, r));
        acts = acts_in v act (layout_of s.geometry s.perms v.metaslab) y h.after h.sees h.acts;
      },
      subst (λ n. RidesAt n order) (sym behind) rest,
    )
chain_rides m (OnUber u act ∷ order) s reached y steady own follows there line = absurd (let is = own.0 in cc)

pub chain_lies : (z : State) (m : ℕ) (order : List Hold) (s reached : State) (y : Metaslab) → AllOf IsSteadyHold order → AllOf (λ hold. is_of (Some m) hold ≡ true) order → Follows order s reached
    → slice_get s.metaslabs m ≡ Some y → InLine y.world → IsNoted y → slice_get reached.metaslabs m ≡ slice_get z.metaslabs m → AllOf (LiesIn z) order
chain_lies z m [] s reached y steady own follows there line noted same = tt
chain_lies z m (On v act ∷ order) s reached y steady own follows there line noted same =
    let h = held_by m y v act s follows.0 (is_equal v.metaslab m own.0) there steady.0 follows.1 in
    let rest = through m order follows.0 reached h.after steady.1 own.1 follows.2 h.here (h.moves.line line) in
    let end : slice_get z.metaslabs v.metaslab ≡ Some rest.last = ap (λ k. slice_get z.metaslabs k) (is_equal v.metaslab m own.0) ∙ (sym same ∙ rest.there) in (
      here h.after act h.acts h.sees h.world rest end,
      chain_lies z m order follows.0 reached h.after steady.1 own.1 follows.2 h.here (h.moves.line line) (h.moves.noted noted) same,
    )
  where
    here : (after : Metaslab) (act : Act) → MetaslabActs (layout_of s.geometry s.perms v.metaslab) act y after → v ≡ view_of v.metaslab y → world_behind v act ≡ after.world → (rest : Through m after reached)
        → slice_get z.metaslabs v.metaslab ≡ Some rest.last → LiesIn z (On v act)
    here after (Did e w) acts sees world rest end = record {
      l = layout_of s.geometry s.perms v.metaslab;
      before = y;
      after = after;
      y = rest.last;
      sees = sees;
      adds = acts;
      line = line;
      noted = noted;
      there = end;
      rises = (let r = rest.rises in let at : place after.world ≡ place w = ap place acts.world in omega (arith, r, at));
      trails = rest.trails;
    }
    here after act acts sees world rest end = record { y = rest.last; there = end; rises = (let r = rest.rises in let at = ap place world in omega (arith, r, at)) }
chain_lies z m (OnUber u act ∷ order) s reached y steady own follows there line noted same = absurd (let is = own.0 in cc)

-- ---- those of one lane

rides_low : (holds : List Hold) (s t : ℕ) → s ≤ t → RidesAt t holds → RidesAt s holds
rides_low [] s t less rides = tt
rides_low (On v act ∷ holds) s t less rides =
    (record { line = rides.0.line; from = (let from = rides.0.from in omega (arith, less, from)); rises = rides.0.rises; acts = rides.0.acts }, rides.1)
rides_low (OnUber u act ∷ holds) s t less rides = rides_low holds s t less rides

none_rides : (lists : List (List Hold)) (s : ℕ) → All (λ (list : List Hold). list ≡ []) lists → AllOf (RidesAt s) lists
none_rides [] s none = tt
none_rides (list ∷ lists) s none =
    (subst (RidesAt s) (sym (All-head (λ (l : List Hold). l ≡ []) list lists none)) tt, none_rides lists s (All-tail (λ (l : List Hold). l ≡ []) list lists none))

pub merged_rides : (lists : List (List Hold)) (order : List Hold) (s : ℕ) → IsMerged lists order → RidesAt s order → AllOf (RidesAt s) lists
merged_rides lists [] s merged rides = none_rides lists s merged
merged_rides lists (On v act ∷ order) s merged rides =
    let t : ℕ = place (world_behind v act) in
    let rest = merged_rides (slice_set lists merged.0 merged.1) order t merged.3 rides.1 in
    let own : RidesAt t merged.1 = all_get (RidesAt t) (slice_set lists merged.0 merged.1) merged.0 merged.1 rest (get_set_same lists merged.0 (On v act ∷ merged.1) merged.1 merged.2) in
    let less : s ≤ t = (let a = rides.0.from in let b = rides.0.rises in omega (arith, a, b)) in
    all_unset (RidesAt s) lists merged.0 (On v act ∷ merged.1) merged.1 merged.2
    (all_more (RidesAt t) (RidesAt s) (slice_set lists merged.0 merged.1) (λ holds r. rides_low holds s t less r) rest) (rides.0, own)
merged_rides lists (OnUber u act ∷ order) s merged rides =
    let rest = merged_rides (slice_set lists merged.0 merged.1) order s merged.3 rides in
    let own : RidesAt s merged.1 = all_get (RidesAt s) (slice_set lists merged.0 merged.1) merged.0 merged.1 rest (get_set_same lists merged.0 (OnUber u act ∷ merged.1) merged.1 merged.2) in
    all_unset (RidesAt s) lists merged.0 (OnUber u act ∷ merged.1) merged.1 merged.2 rest own

-- ---- along a lane

abbrev pub raise : (ℕ → ℕ) → ℕ → ℕ → ℕ → ℕ
raise f m s = λ k. if m == k then s else f k

-- the places that a lane's holds find are these or later ones
abbrev pub Rides : (ℕ → ℕ) → List Hold → Type 0
Rides f [] = ⊤
Rides f (On v act ∷ holds) = Sees (f v.metaslab) v act × Rides (raise f v.metaslab (place (world_behind v act))) holds
Rides f (OnUber u act ∷ holds) = Rides f holds

-- and behind them
abbrev pub after : (ℕ → ℕ) → List Hold → ℕ → ℕ
after f [] = f
after f (On v act ∷ holds) = after (raise f v.metaslab (place (world_behind v act))) holds
after f (OnUber u act ∷ holds) = after f holds

pub join : (holds : List Hold) (f : ℕ → ℕ) → ((m : ℕ) → RidesAt (f m) (holds_of (Some m) holds)) → Rides f holds
join [] f each = tt
join (On v act ∷ holds) f each =
    let own = here (v.metaslab == v.metaslab) (equal v.metaslab v.metaslab refl) (each v.metaslab) in
    (own.0, join holds (raise f v.metaslab (place (world_behind v act))) (λ k. rest own.1 k (v.metaslab == k) refl (each k)))
  where
    here : (b : Bool) → b ≡ true → RidesAt (f v.metaslab) (cond b (On v act ∷ holds_of (Some v.metaslab) holds) (holds_of (Some v.metaslab) holds))
        → Sees (f v.metaslab) v act × RidesAt (place (world_behind v act)) (holds_of (Some v.metaslab) holds)
    here true is rides = rides
    here false is rides = absurd (cc)

    rest : RidesAt (place (world_behind v act)) (holds_of (Some v.metaslab) holds) → (k : ℕ) (b : Bool) → (v.metaslab == k) ≡ b
        → RidesAt (f k) (cond b (On v act ∷ holds_of (Some k) holds) (holds_of (Some k) holds)) → RidesAt (if b then place (world_behind v act) else f k) (holds_of (Some k) holds)
    rest own k true is rides = subst (λ n. RidesAt (place (world_behind v act)) (holds_of (Some n) holds)) (is_equal v.metaslab k is) own
    rest own k false is rides = rides
join (OnUber u act ∷ holds) f each = join holds f each

abbrev pub Below : (ℕ → ℕ) → (ℕ → ℕ) → Type 0
Below f g = (k : ℕ) → f k ≤ g k

raise_up : (f : ℕ → ℕ) (m s : ℕ) → f m ≤ s → Below f (raise f m s)
raise_up f m s less k = by (m == k) refl
  where
    by : (b : Bool) → (m == k) ≡ b → f k ≤ (if b then s else f k)
    by true is = (let same = ap f (is_equal m k is) in omega (arith, less, same))
    by false is = omega (arith)

raise_both : (f g : ℕ → ℕ) (m s : ℕ) → Below f g → Below (raise f m s) (raise g m s)
raise_both f g m s less k = by (m == k)
  where
    by : (b : Bool) → (if b then s else f k) ≤ (if b then s else g k)
    by true = omega (arith)
    by false = less k

pub raise_at : (f : ℕ → ℕ) (m s : ℕ) → raise f m s m ≡ s
raise_at f m s = by (m == m) (equal m m refl)
  where
    by : (b : Bool) → b ≡ true → (if b then s else f m) ≡ s
    by true is = refl
    by false is = absurd (cc)

below_more : (f g h : ℕ → ℕ) → Below f g → Below g h → Below f h
below_more f g h a b k = (let x = a k in let y = b k in omega (arith, x, y))

sees_up : (f : ℕ → ℕ) (v : View) (act : Act) → Sees (f v.metaslab) v act → Below f (raise f v.metaslab (place (world_behind v act)))
sees_up f v act s = raise_up f v.metaslab (place (world_behind v act)) (let a = s.from in let b = s.rises in omega (arith, a, b))

pub rises_to : (holds : List Hold) (f : ℕ → ℕ) → Rides f holds → Below f (after f holds)
rises_to [] f rides = λ k. omega (arith)
rises_to (On v act ∷ holds) f rides =
    let g : ℕ → ℕ = raise f v.metaslab (place (world_behind v act)) in
    below_more f g (after g holds) (sees_up f v act rides.0) (rises_to holds g rides.1)
rises_to (OnUber u act ∷ holds) f rides = rises_to holds f rides

pub rides_split : (front back : List Hold) (f : ℕ → ℕ) → Rides f (front ++ back) → Rides f front × Rides (after f front) back
rides_split [] back f rides = (tt, rides)
rides_split (On v act ∷ front) back f rides = (let rest = rides_split front back (raise f v.metaslab (place (world_behind v act))) rides.1 in ((rides.0, rest.0), rest.1))
rides_split (OnUber u act ∷ front) back f rides = rides_split front back f rides

pub after_both : (front back : List Hold) (f : ℕ → ℕ) → after f (front ++ back) ≡ after (after f front) back
after_both [] back f = refl
after_both (On v act ∷ front) back f = after_both front back (raise f v.metaslab (place (world_behind v act)))
after_both (OnUber u act ∷ front) back f = after_both front back f

pub weaken : (holds : List Hold) (f g : ℕ → ℕ) → Below f g → Rides g holds → Rides f holds
weaken [] f g less rides = tt
weaken (On v act ∷ holds) f g less rides =
    let t : ℕ = place (world_behind v act) in (
      record { line = rides.0.line; from = (let a = less v.metaslab in let b = rides.0.from in omega (arith, a, b)); rises = rides.0.rises; acts = rides.0.acts },
      weaken holds (raise f v.metaslab t) (raise g v.metaslab t) (raise_both f g v.metaslab t less) rides.1,
    )
weaken (OnUber u act ∷ holds) f g less rides = weaken holds f g less rides

after_low : (holds : List Hold) (f g : ℕ → ℕ) → Below f g → Below (after f holds) (after g holds)
after_low [] f g less = less
after_low (On v act ∷ holds) f g less = (let t : ℕ = place (world_behind v act) in after_low holds (raise f v.metaslab t) (raise g v.metaslab t) (raise_both f g v.metaslab t less))
after_low (OnUber u act ∷ holds) f g less = after_low holds f g less

-- some looks are left out
pub left_rides : (holds left : List Hold) (f : ℕ → ℕ) → LeavesLooks holds left → Rides f holds → Rides f left × Below (after f left) (after f holds)
left_rides [] left f leaves rides = (subst (Rides f) (sym leaves) tt, subst (λ (hs : List Hold). Below (after f hs) f) (sym leaves) (λ k. omega (arith)))
left_rides (On v act ∷ holds) left f (inl look) rides =
    let g : ℕ → ℕ = raise f v.metaslab (place (world_behind v act)) in
    let rest = left_rides holds left g look.1 rides.1 in
    let up : Below f g = sees_up f v act rides.0 in
    (weaken left f g up rest.0, below_more (after f left) (after g left) (after g holds) (after_low left f g up) rest.1)
left_rides (On v act ∷ holds) left f (inr own) rides =
    let g : ℕ → ℕ = raise f v.metaslab (place (world_behind v act)) in
    let rest = left_rides holds own.0 g own.2 rides.1 in
    (subst (Rides f) (sym own.1) (rides.0, rest.0), subst (λ (hs : List Hold). Below (after f hs) (after g holds)) (sym own.1) rest.1)
left_rides (OnUber u act ∷ holds) left f (inl look) rides = left_rides holds left f look.1 rides
left_rides (OnUber u act ∷ holds) left f (inr own) rides =
    let rest = left_rides holds own.0 f own.2 rides in
    (subst (Rides f) (sym own.1) rest.0, subst (λ (hs : List Hold). Below (after f hs) (after f holds)) (sym own.1) rest.1)

-- ---- a sync in a lane

module _ (geometry : Geometry) (perms : Perms) where
  abbrev many : ℕ
  many = geometry.props.metaslabs

  -- each metaslab commits a group
  commit_rides : (group k n : ℕ) (holds : List Hold) (f : ℕ → ℕ) → Each (groups.Commits geometry perms group) k n holds → Rides f holds
      → (m : ℕ) → k ≤ m → m < k + n → (f m ≤ group + group + 2) × (group + group + 3 ≤ after f holds m)
  commit_rides group k zero holds f each rides m low high = absurd (omega (arith, low, high))
  commit_rides group k (suc n) holds f (hold, rest, are, commits, more) rides m low high =
      by (λ g r l h. commit_rides group (k + 1) n rest g more r m l h) hold commits (subst (Rides f) are rides) (subst (λ (hs : List Hold). Below (after f hs) (after f holds)) are (λ k. omega (arith)))
    where
      by : ((g : ℕ → ℕ) → Rides g rest → k + 1 ≤ m → m < k + 1 + n → (g m ≤ group + group + 2) × (group + group + 3 ≤ after g rest m))
          → (hold : Hold) → groups.Commits geometry perms group k hold → Rides f (hold ∷ rest) → Below (after f (hold ∷ rest)) (after f holds)
          → (f m ≤ group + group + 2) × (group + group + 3 ≤ after f holds m)
      by again (On v (Did (event.Commit t) w)) c rides same = at (k == m) refl
        where
          s : Sees (f v.metaslab) v (Did (event.Commit t) w)
          s = rides.0

          g : ℕ → ℕ
          g = raise f v.metaslab (place w)

          before : place v.world ≡ group + group + 2
          before = (let p = busy_place v.world t s.acts.0 in let o = s.line t s.acts.0 in let is = c.1 in omega (arith, p, o, is))

          behind : place w ≡ group + group + 3
          behind = (let p = idle_place w s.acts.1 in let q = s.acts.2 in let o = s.line t s.acts.0 in let is = c.1 in omega (arith, p, q, o, is))

          at : (b : Bool) → (k == m) ≡ b → (f m ≤ group + group + 2) × (group + group + 3 ≤ after f holds m)
          at true is =
              let here : v.metaslab ≡ m = c.0 ∙ is_equal k m is in
              let from = s.from in
              let b = before in
              let e = behind in
              let own : f v.metaslab ≡ f m = ap f here in
              let up = rises_to rest g rides.1 m in
              let g_is : g m ≡ place w = ap g (sym here) ∙ raise_at f v.metaslab (place w) in
              let last = same m in
              (omega (arith, from, b, own), omega (arith, up, g_is, e, last))
          at false is =
              let up : f m ≤ g m = sees_up f v (Did (event.Commit t) w) s m in
              let not : k ≡ m → ⊥ = λ e. (absurd_test (k == m) (equal k m e) is) in
              let ih = again g rides.1 (omega (arith, low, not)) (omega (arith, high)) in
              let i0 = ih.0 in
              let i1 = ih.1 in
              let last = same m in
              (omega (arith, i0, up), omega (arith, i1, last))
      by again hold c rides same = absurd c

  -- a group that came through
  pub group_rides : (group thin : ℕ) (holds : List Hold) (f : ℕ → ℕ) → groups.Group geometry perms group thin holds Went → Rides f holds
      → (m : ℕ) → m < many → (f m ≤ group + group + 2) × (group + group + 3 ≤ after f holds m)
  group_rides group thin holds f (inl (closes, more, are, close, inl (seals, rest, are2, seal, inl (names, commits, are3, name, commit)))) rides m low =
      let all : Rides f (closes ++ (seals ++ (names ++ commits))) = subst (Rides f) (are ∙ ap (λ hs. closes ++ hs) (are2 ∙ ap (λ hs. seals ++ hs) are3)) rides in
      let one = rides_split closes (seals ++ (names ++ commits)) f all in
      let a : ℕ → ℕ = after f closes in
      let two = rides_split seals (names ++ commits) a one.1 in
      let b : ℕ → ℕ = after a seals in
      let three = rides_split names commits b two.1 in
      let c : ℕ → ℕ = after b names in
      let it = commit_rides group 0 many commits c commit.0 three.1 m (omega (arith)) (omega (arith, low)) in
      let up1 = rises_to closes f one.0 m in
      let up2 = rises_to seals a two.0 m in
      let up3 = rises_to names b three.0 m in
      let i0 = it.0 in
      let i1 = it.1 in
      let end : after f holds ≡ after c commits =
      ap (after f) (are ∙ ap (λ hs. closes ++ hs) (are2 ∙ ap (λ hs. seals ++ hs) are3)) ∙ (after_both closes (seals ++ (names ++ commits)) f ∙ (after_both seals (names ++ commits) a ∙ after_both names commits b)) in
      let end_m : after f holds m ≡ after c commits m = ap (λ (g : ℕ → ℕ). g m) end in
      (omega (arith, up1, up2, up3, i0), omega (arith, i1, end_m))
  group_rides group thin holds f (inr stopped) rides m low = absurd (stopped.0 refl)
  group_rides group thin holds f (inl (closes, more, are, close, inr stopped)) rides m low = absurd (stopped.0 refl)
  group_rides group thin holds f (inl (closes, more, are, close, inl (seals, rest, are2, seal, inr stopped))) rides m low = absurd (stopped.0 refl)

  -- no metaslab that was looked at closes a group
  idle_looks : (k n : ℕ) (holds : List Hold) (views : List View) (f : ℕ → ℕ) → LooksFrom k n holds views → NoneOf HasClosing views → Rides f holds
      → (m : ℕ) → k ≤ m → m < k + n → (o : ℕ) × (f m ≤ o + o + 1) × (o + o + 1 ≤ after f holds m)
  idle_looks k zero holds views f looks none rides m low high = absurd (omega (arith, low, high))
  idle_looks k (suc n) holds views f (hold, rest, v, more, are, seen, look, others) none rides m low high = at (λ g r n2 l h. idle_looks (k + 1) n rest more g others n2 r m l h) (k == m) refl
    where
      all : Rides f (On v Looked ∷ rest)
      all = subst (λ (h : Hold). Rides f (h ∷ rest)) look.looked (subst (Rides f) are rides)

      ends : after f holds ≡ after f (On v Looked ∷ rest)
      ends = ap (after f) (are ∙ ap (λ (h : Hold). h ∷ rest) look.looked)

      none2 : NoneOf HasClosing (v ∷ more)
      none2 = subst (NoneOf HasClosing) seen none

      idle : (o : Option ℕ) → v.world.closing ≡ o → v.world.closing ≡ None
      idle None is = is
      idle (Some g) is = absurd (none2.0 (g, is))

      g : ℕ → ℕ
      g = raise f v.metaslab (place v.world)

      at : ((g : ℕ → ℕ) → Rides g rest → NoneOf HasClosing more → k + 1 ≤ m → m < k + 1 + n → (o : ℕ) × (g m ≤ o + o + 1) × (o + o + 1 ≤ after g rest m))
          → (b : Bool) → (k == m) ≡ b → (o : ℕ) × (f m ≤ o + o + 1) × (o + o + 1 ≤ after f holds m)
      at again true is =
          let here : v.metaslab ≡ m = look.there ∙ is_equal k m is in
          let p : place v.world ≡ v.world.open_group + v.world.open_group + 1 = idle_place v.world (idle v.world.closing refl) in
          let from = all.0.from in
          let own : f v.metaslab ≡ f m = ap f here in
          let up = rises_to rest g all.1 m in
          let g_is : g m ≡ place v.world = ap g (sym here) ∙ raise_at f v.metaslab (place v.world) in
          let end_m : after f holds m ≡ after g rest m = ap (λ (h : ℕ → ℕ). h m) ends in
          (v.world.open_group, omega (arith, from, own, p), omega (arith, up, g_is, p, end_m))
      at again false is =
          let up : f m ≤ g m = sees_up f v Looked all.0 m in
          let not : k ≡ m → ⊥ = λ e. (absurd_test (k == m) (equal k m e) is) in
          let ih = again g all.1 none2.1 (omega (arith, low, not)) (omega (arith, high)) in
          let i0 = ih.1 in
          let i1 = ih.2 in
          let end_m : after f holds m ≡ after g rest m = ap (λ (h : ℕ → ℕ). h m) ends in
          (ih.0, omega (arith, i0, up), omega (arith, i1, end_m))

  -- a sync that names a group: what the lane used before was up to that group, and what it finds behind is later
  pub sync_rides : (group thin : ℕ) (holds : List Hold) (f : ℕ → ℕ) → groups.Syncs geometry perms group thin holds Went → Rides f holds
      → (m : ℕ) → m < many → (f m ≤ group + group + 1) × (group + group + 3 ≤ after f holds m)
  sync_rides group thin holds f (inr stopped) rides m low = absurd (stopped.0 refl)
  sync_rides group thin holds f (inl (front, back, are, finish, (u, rest, are2, next, go))) rides m low =
      let all : Rides f (front ++ back) = subst (Rides f) are rides in
      let one = rides_split front back f all in
      let a : ℕ → ℕ = after f front in
      let two : Rides a rest = subst (Rides a) are2 one.1 in
      let it = group_rides group thin rest a go two m low in
      let i0 = it.0 in
      let i1 = it.1 in
      let end_m : after f holds m ≡ after a rest m = ap (λ (g : ℕ → ℕ). g m) (ap (after f) are ∙ (after_both front back f ∙ ap (after a) are2)) in
      (before finish i0, omega (arith, i1, end_m))
    where
      before : groups.Finishes geometry perms front Went → after f front m ≤ group + group + 2 → f m ≤ group + group + 1
      before fin small = by fin.does
        where
          rides_front : Rides f (fin.looks ++ fin.rest)
          rides_front = subst (Rides f) fin.are (rides_split front back f (subst (Rides f) are rides)).0

          parts : Rides f fin.looks × Rides (after f fin.looks) fin.rest
          parts = rides_split fin.looks fin.rest f rides_front

          ends : after f front ≡ after (after f fin.looks) fin.rest
          ends = ap (after f) fin.are ∙ after_both fin.looks fin.rest f

          by : (NoneOf HasClosing fin.views × (fin.rest ≡ []) × (Went ≡ Went))
              ⊎ ((g : ℕ) × (v : View) × (t : ℕ) × Contains fin.views v × groups.IsClosing g v × groups.Group geometry perms g t fin.rest Went) → f m ≤ group + group + 1
          by (inl none) =
              let it = idle_looks 0 many fin.looks fin.views f fin.looked none.0 parts.0 m (omega (arith)) (omega (arith, low)) in
              let i0 = it.1 in
              let i1 = it.2 in
              let end_m : after f front m ≡ after f fin.looks m = ap (λ (g : ℕ → ℕ). g m) (ends ∙ ap (after (after f fin.looks)) none.1) in
              omega (arith, i0, i1, end_m, small)
          by (inr (g, v, t, has, closing, go)) =
              let it = group_rides g t fin.rest (after f fin.looks) go parts.1 m low in
              let up = rises_to fin.looks f parts.0 m in
              let i0 = it.0 in
              let i1 = it.1 in
              let end_m : after f front m ≡ after (after f fin.looks) fin.rest m = ap (λ (h : ℕ → ℕ). h m) ends in
              omega (arith, up, i0, i1, end_m, small)
