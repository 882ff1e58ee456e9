-- How far a lane came with what it is said to do, from the looks of its meeting on: with whatever is left to do, that is the whole.
use Rattle.std.proofs.Common.{◌≡◌, ◌<◌, ◌+◌, ◌++◌, ◌∷◌, ◌∙◌, [], ℕ, Bool, true, List, Option, Some, None, Ok, Err, refl, sym, ap, subst, length}
use Rattle.std.specs.Prelude.{Result, slice_get}
use Rattle.std.proofs.lemmas.List.{append-nil, append_assoc}
use Rattle.draid_names.specs.declared.pass_kind.PassKind.{PassKind}
use Rattle.draid_rack.specs.declared.Rack as racks
use Rattle.draid_area.specs.declared.Area as areas
use Rattle.draid_session.specs.Groups as groups
use Rattle.draid_session.specs.Holds.{Hold, Looked, On, view_of}
use Rattle.draid_session.specs.Lanes.{LeavesLooks}
use Rattle.draid_session.specs.Phases.{Went}
use Rattle.draid_session.specs.State.{Metaslab, State}
use Rattle.draid_shard.specs.declared.shard.Shard.{Shard}
use Rattle.draid_turn.specs.Calls.{Caller}
use Rattle.draid_turn.specs.declared.past.Past.{Past}
use Rattle.draid_uber.specs.Slots.{group_of}
use Rattle.draid_uber.specs.Uber as ubers
use Rattle.draid_uber.specs.declared.uber.Uber.{Uber}
use Rattle.draid_pool.specs.Drifts.{groups_number}
use Rattle.draid_pool.specs.Grouping.{ClosesNext}
use Rattle.draid_pool.specs.Rounds.{EachIs, NoneBeyond}
use Rattle.draid_pool.specs.Syncing.{end_of}
use Rattle.draid_pool.specs.declared.cell.Cell.{Cell}
use Rattle.draid_pool.specs.declared.fault.SyncFault.{SyncFault}
use Rattle.draid_pool.specs.declared.fault.Synced.{Synced}
use Rattle.draid_pool.proofs.Looking.{looks_at}
use Rattle.draid_pool.proofs.SyncWhole.{KeepsQuiet, beyond_on, quiet_on}
use Rattle.draid_lanes.specs.Governing.{lane_last}
use Rattle.draid_lanes.specs.Told.{SyncBut}
use Rattle.draid_lanes.specs.Waits.{LaneWent}
use Rattle.draid_lanes.specs.declared.locked.Locked.{Locked}
use Rattle.draid_lanes.proofs.FinishWords.{FoundAt}
use Rattle.draid_lanes.proofs.LaneSays.{sync_but}
use Rattle.draid_lanes.specs.Traces.{LaneTurn, places_in}
use Rattle.draid_lanes.proofs.LooksBehind.{add_last, last_places, look_turns, now_all, traced_looks, with_look}
use Rattle.draid_lanes.proofs.OneTurn.{CameTo, Once, came_is}
use Rattle.draid_lanes.proofs.RoundWords.{Says, said_as}
use Rattle.draid_lanes.proofs.SealWords.{leaves_then}
use Rattle.draid_lanes.proofs.SyncThrough.{through_next}
use Rattle.draid_lanes.proofs.SyncWords.{Through_in, through_holds, through_said}
use Rattle.draid_lanes.proofs.Tracing.{traced_then}
use Rattle.draid_works.proofs.MendArms.{held_below}
use Rattle.draid_works.proofs.MendSees.{Seen, saw_before}
use Rattle.draid_works.proofs.MendTurns.{TellsMany, said_many}

-- but for looks it is this
abbrev pub But : (List Hold → Type 0) → List Hold → Type 0
But S hs = (left : List Hold) × LeavesLooks hs left × S left

-- but for looks, with any that are what is left to do they are the whole
abbrev pub Leading : {I : Type 0} (P Q : I → List Hold → Type 0) → List Hold → Type 0
Leading {I} P Q hs = (left : List Hold) × LeavesLooks hs left × ((i : I) (rest : List Hold) → Q i rest → P i (left ++ rest))

-- this, and then that
abbrev pub Then : {I : Type 0} → (List Hold → Type 0) → (I → List Hold → Type 0) → I → List Hold → Type 0
Then X T i rest = (front : List Hold) × (back : List Hold) × (rest ≡ front ++ back) × X front × T i back

-- a look in the last turn leaves it there
last_of : (t : LaneTurn) (ts : List LaneTurn) → (front : List LaneTurn) × (last : LaneTurn) × (t ∷ ts ≡ front ++ last ∷ [])
last_of t [] = ([], t, refl)
last_of t (u ∷ ts) = (let z = last_of u ts in (t ∷ z.0, z.1, ap (λ l. t ∷ l) z.2))

some_places : (n : ℕ) (ns : List ℕ) → [] ≡ n ∷ ns → ⊥
some_places n ns is = absurd (cc)

none_last : (hold : Hold) (ts : List LaneTurn) → add_last hold ts ≡ [] → ts ≡ []
none_last hold [] none = refl
none_last hold (t ∷ ts) none =
    let z = last_of t ts in
    absurd (some_places t.place (places_in ts) (ap places_in (sym none) ∙ (ap (λ l. places_in (add_last hold l)) z.2 ∙ (last_places hold z.0 z.1 ∙ ap places_in (sym z.2)))))

pub none_look : (m : ℕ) (o : Option Metaslab) (ts : List LaneTurn) → with_look m o ts ≡ [] → ts ≡ []
none_look m None ts none = none
none_look m (Some y) ts none = none_last (On (view_of m y) Looked) ts none

module _ {R A G W : Type 0} (rack : racks.Ghosts R) (area : areas.Ghosts A) (x : State) (owns : ℕ → Bool) (own : owns groups_number ≡ true) (count : ℕ) (all : count ≡ x.geometry.props.metaslabs) (some : 0 < count) (old : Locked R A G W) (old_all : count ≡ length old.turns.now)
    (old_many : length old.passes.items ≡ length old.turns.now) (kind : PassKind) where
  abbrev pub Ready : Locked R A G W → Uber A → Type 0
  Ready b v = EachIs count (ClosesNext rack (group_of (ubers.kept_of v) + 1)) (lane_last b)

  -- So far it came, with these holds of the uberblock, and had a turn of each metaslab's lock.
  pub record Far {I : Type 0} (P Q : I → List Hold → Type 0) (b : Locked R A G W) (v : Uber A) (us : List Hold) : Type 0 where
    pub said : Says rack area x old b us (Seen rack area x kind b (Leading P Q))
    pub turned : (m : ℕ) (pass : Caller (Past (Cell R A))) → slice_get old.passes.items m ≡ Some pass → said.turns m ≡ [] → ⊥
    pub ready : Ready b v
    pub beyond : NoneBeyond count (lane_last b)

  none_front : {E : Type 0} (xs ys : List E) → xs ++ ys ≡ [] → xs ≡ []
  none_front [] ys none = refl
  none_front (x ∷ xs) ys none = absurd (cc)

  -- what is left to do may be said otherwise
  pub far_as : {I J : Type 0} (P Q : I → List Hold → Type 0) (S T : J → List Hold → Type 0) (b : Locked R A G W) (v : Uber A) (us : List Hold) → Far P Q b v us
      → ((left : List Hold) → ((i : I) (rest : List Hold) → Q i rest → P i (left ++ rest)) → (j : J) (rest : List Hold) → T j rest → S j (left ++ rest)) → Far S T b v us
  far_as P Q S T b v us f how = record {
    said = record { turns = f.said.turns; holds = f.said.holds; traced = f.said.traced; done = λ saw. (let d = f.said.done saw in (d.0, d.1, how d.0 d.2)); came = f.said.came };
    turned = f.turned;
    ready = f.ready;
    beyond = f.beyond;
  }

  -- what comes first of what is left
  pub far_then : {I : Type 0} (P Q T : I → List Hold → Type 0) (X : List Hold → Type 0) → ((i : I) (front rest : List Hold) → X front → T i rest → Q i (front ++ rest)) → (b : Locked R A G W) (v : Uber A) (us : List Hold) → Far P Q b v us → Far P (Then X T) b v us
  far_then P Q T X how b v us f =
      far_as P Q P (Then X T) b v us f (λ left leads i rest z. subst (λ l. P i (left ++ l)) (sym z.2) (leads i (z.0 ++ z.1) (how i z.0 z.1 z.3 z.4)))

  module _ {I : Type 0} (P Q T : I → List Hold → Type 0) where
    -- one step behind another
    leading_on : (S : List Hold → Type 0) → ((i : I) (front rest : List Hold) → S front → T i rest → Q i (front ++ rest)) → (hs ks : List Hold) → Leading P Q hs → But S ks → Leading P T (hs ++ ks)
    leading_on S how hs ks l s = (
      l.0 ++ s.0,
      leaves_then hs l.0 ks s.0 l.1 s.1,
      λ i rest is. subst (P i) (sym (append_assoc l.0 s.0 rest)) (l.2 i (s.0 ++ rest) (how i s.0 rest s.2 is)),
    )

    -- a hold of a metaslab
    pub far_hold : (S : List Hold → Type 0) → ((i : I) (front rest : List Hold) → S front → T i rest → Q i (front ++ rest)) → (does : Shard R A → Shard R A → Type 0) (b : Locked R A G W) (m : ℕ) (c : Locked R A G W) (v : Uber A) (us : List Hold)
        → (h : Once rack area x owns does b m c) → TellsMany rack area x m kind (But S) h.before h.after → KeepsQuiet rack owns h.before h.after → Far P Q b v us → Far P T c v us
    far_hold S how does b m c v us h tells quiet f =
        let below = held_below rack area lane_last (LaneWent rack area) true owns count does b m c h f.beyond in
        let one = said_many rack area x owns kind does (But S) b m c h f.said.came tells in
        let g = quiet_on rack area lane_last (LaneWent rack area) true owns own count (λ s. NoneBeyond count (lane_last s)) (beyond_on rack area lane_last (LaneWent rack area) true owns count) does b m c below h (group_of (ubers.kept_of v) + 1) quiet
        (record { left = f.beyond; ready = f.ready }) in
        subst (Far P T c v) (append-nil us) (record {
          said = record {
            turns = λ k. f.said.turns k ++ one.turns k;
            holds = f.said.holds ++ one.holds;
            traced = traced_then rack area x old b c f.said.turns one.turns f.said.holds one.holds us [] f.said.traced one.traced;
            done = λ saw. leading_on S how f.said.holds one.holds (f.said.done (saw_before rack area x kind b c one.turns one.holds [] one.traced saw)) (one.done saw);
            came = one.came;
          };
          turned = λ k pass at none. f.turned k pass at (none_front (f.said.turns k) (one.turns k) none);
          ready = g.ready;
          beyond = g.left;
        })

    -- ---- a sync

    closed_at : (b : Locked R A G W) (ys : List Metaslab) → ((m : ℕ) (y : Metaslab) → slice_get ys m ≡ Some y → (shard : Shard R A) → lane_last b m ≡ Some shard → CameTo rack area x m shard y) → (found : Option ℕ) (m : ℕ) (y : Metaslab) → FoundAt rack area x owns own count b found m
        → slice_get ys m ≡ Some y → y.world.closing ≡ found
    closed_at b ys each found m y f at = (let is = came_is rack area x m f.shard y (each m y at f.shard f.there) in is.stands.is_in.closing ∙ f.closing)

    -- each metaslab is looked at, and then it comes
    record Synced_to (b c : Locked R A G W) (us : List Hold) (result : Result Synced SyncFault) : Type 0 where
      pub said : Says rack area x old c us (λ hs. (front : List Hold) × (back : List Hold) × (hs ≡ front ++ back) × Seen rack area x kind c (Leading P Q) front × SyncBut x result back)
      pub turned : (m : ℕ) (pass : Caller (Past (Cell R A))) → slice_get old.passes.items m ≡ Some pass → said.turns m ≡ [] → ⊥

    sync_behind : (b c : Locked R A G W) (u v : Uber A) (us : List Hold) (result : Result Synced SyncFault) (it : Through_in rack area x owns own count all some b u result c v) → Far P Q b u us
        → Synced_to b c (us ++ through_holds rack area x owns own count all some b c u v result it) result
    sync_behind b c u v us result it f =
        let l = f.said in
        let now = now_all rack area x old b l.turns l.holds us l.traced count old_all old_many f.turned l.came in
        let turns = look_turns rack area x old b l.turns l.holds us l.traced count old_all old_many f.turned l.came in
        let vs = through_holds rack area x owns own count all some b c u v result it in
        let s = through_said rack area x owns own count all some b c u v result f.ready l.came it in
        record {
          said = record {
            turns = λ k. turns k ++ s.turns k;
            holds = (l.holds ++ looks_at 0 now.list) ++ s.holds;
            traced = traced_then rack area x old b c turns s.turns (l.holds ++ looks_at 0 now.list) s.holds us vs (traced_looks rack area x old b l.turns l.holds us l.traced count old_all old_many f.turned l.came) s.traced;
            done = (
              l.holds,
              looks_at 0 now.list ++ s.holds,
              append_assoc l.holds (looks_at 0 now.list) s.holds,
              λ saw. l.done (saw_before rack area x kind b c s.turns s.holds vs s.traced saw),
              sync_but rack area x owns own count all b now.list now.many (closed_at b now.list now.each) some result s.holds s.done,
            );
            came = s.came;
          };
          turned = λ k pass at none. f.turned k pass at (none_look k (slice_get now.list k) (l.turns k) (none_front (turns k) (s.turns k) none));
        }

    -- a sync that went through
    pub far_sync : ((i : I) (front rest : List Hold) (it : Synced) → groups.Syncs x.geometry x.perms it.group it.thin front Went → T i rest → Q i (front ++ rest)) → (b c : Locked R A G W) (u v : Uber A) (us : List Hold) (it : Synced)
        (did : Through_in rack area x owns own count all some b u (Ok it) c v) → Far P Q b u us → Far P T c v (us ++ through_holds rack area x owns own count all some b c u v (Ok it) did)
    far_sync how b c u v us it did f =
        let s = sync_behind b c u v us (Ok it) did f in
        let g = through_next rack area lane_last (LaneWent rack area) true owns own count (λ s. NoneBeyond count (lane_last s)) (beyond_on rack area lane_last (LaneWent rack area) true owns count) b c u v (Ok it) did
        (record { left = f.beyond; ready = f.ready }) in
        record {
          said = record {
            turns = s.said.turns;
            holds = s.said.holds;
            traced = s.said.traced;
            done = λ saw. (let d = s.said.done in subst (Leading P T) (sym d.2) (leading_on (λ hs. groups.Syncs x.geometry x.perms it.group it.thin hs Went) (λ i front rest syncs is. how i front rest it syncs is) d.0 d.1 (d.3 saw) d.4));
            came = s.said.came;
          };
          turned = s.turned;
          ready = g.0.ready;
          beyond = g.0.left;
        }

    -- or was stopped
    pub far_stop : (i : I) (why : SyncFault) → ((front : List Hold) → groups.SyncStops x.geometry x.perms front (end_of {T = ℕ} (Err why)) → Q i front) → (b c : Locked R A G W) (u v : Uber A) (us : List Hold)
        (did : Through_in rack area x owns own count all some b u (Err why) c v) → Far P Q b u us → Says rack area x old c (us ++ through_holds rack area x owns own count all some b c u v (Err why) did) (Seen rack area x kind c (But (P i)))
    far_stop i why how b c u v us did f =
        let s = sync_behind b c u v us (Err why) did f in
        record {
          turns = s.said.turns;
          holds = s.said.holds;
          traced = s.said.traced;
          done = λ saw. (let d = s.said.done in
              let l = d.3 saw in
              let t = d.4 in
              subst (But (P i)) (sym d.2) (l.0 ++ t.0, leaves_then d.0 l.0 d.1 t.0 l.1 t.1, l.2 i t.0 (how t.0 t.2)));
          came = s.said.came;
        }

  -- nothing is left to do
  pub far_done : {I : Type 0} (P Q : I → List Hold → Type 0) (i : I) (b : Locked R A G W) (v : Uber A) (us : List Hold) → Q i [] → Far P Q b v us → Says rack area x old b us (Seen rack area x kind b (But (P i)))
  far_done P Q i b v us is f =
      said_as rack area x old b us (Seen rack area x kind b (Leading P Q)) (Seen rack area x kind b (But (P i))) f.said (λ hs d saw. (let z = d saw in (z.0, z.1, subst (P i) (append-nil z.0) (z.2 i [] is))))
