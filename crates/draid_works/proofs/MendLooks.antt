-- A lane that looks for the metaslabs that a rebuild or a scrub is to visit.
use Rattle.std.proofs.Common.{◌≡◌, ◌<◌, ◌+◌, ◌++◌, ◌∷◌, ◌∙◌, [], inl, ℕ, zero, suc, Bool, true, false, List, Option, Some, None, arith, refl, sym, ap, subst, length, slice_index_or, eq-eqb, ne_eqb, if◌then◌else◌}
use mathlib.Core.Logic.{dite}
use native.Mathlib.Decide.{ℕ_discrete}
use Rattle.std.specs.Prelude.{◌↔◌, IsTrue, slice_get}
use Rattle.std.proofs.lemmas.Option.{slice_get_within}
use Rattle.draid_names.specs.declared.pass_kind.PassKind.{PassKind}
use Rattle.draid_rack.specs.declared.Rack as racks
use Rattle.draid_area.specs.declared.Area as areas
use Rattle.draid_segments.specs.Segments.{Pieces}
use Rattle.draid_session.specs.Holds.{view_of}
use Rattle.draid_session.specs.Lanes.{IsLookOnly, LeavesLooks}
use Rattle.draid_session.specs.Passes as passes
use Rattle.draid_session.specs.Phases.{NoneOf}
use Rattle.draid_session.specs.State.{Metaslab, State}
use Rattle.draid_shard.specs.Fits.{Valid}
use Rattle.draid_shard.specs.declared.shard.Shard.{Shard}
use Rattle.draid_turn.specs.Calls.{Caller}
use Rattle.draid_turn.specs.declared.past.Past.{Past}
use Rattle.draid_uber.specs.Slots.{group_of}
use Rattle.draid_uber.specs.Uber as ubers
use Rattle.draid_uber.specs.declared.uber.Uber.{Uber}
use Rattle.draid_pool.specs.Drifts.{groups_number}
use Rattle.draid_pool.specs.Grouping.{ClosesNext}
use Rattle.draid_pool.specs.Metaslabs.{IsMetaslab}
use Rattle.draid_pool.specs.Pools.{part_in}
use Rattle.draid_pool.specs.Rounds.{EachIs, HeldEach, NoneBeyond}
use Rattle.draid_pool.specs.Views.{seen_at}
use Rattle.draid_pool.specs.declared.cell.Cell.{Cell}
use Rattle.draid_pool.proofs.Holding.{some_same}
use Rattle.draid_pool.proofs.Looking.{looks_at, none_seen}
use Rattle.draid_pool.proofs.SyncWhole.{KeepsQuiet, beyond_on, quiet_on}
use Rattle.draid_visits.specs.Looks.{FindsMarks, FindsPass, SeesEach, SeesPass, SeesRebuilt}
use Rattle.draid_visits.specs.Visits.{AllOnly}
use Rattle.draid_visits.proofs.Found.{kind_unseen}
use Rattle.draid_lanes.specs.Governing.{lane_last}
use Rattle.draid_lanes.specs.Waits.{LaneWent}
use Rattle.draid_lanes.specs.declared.locked.Locked.{Locked}
use Rattle.draid_lanes.proofs.OneTurn.{CameTo, Once, came_is}
use Rattle.draid_lanes.proofs.OnlyLooking.{same_looks}
use Rattle.draid_lanes.proofs.RoundWords.{Says, looks_end, said_one}
use Rattle.draid_lanes.proofs.LooksBehind.{look_turns, now_all, traced_looks}
use Rattle.draid_lanes.proofs.SealWords.{leaves_look, leaves_self, leaves_then}
use Rattle.draid_lanes.proofs.Tracing.{traced_then}
use Rattle.draid_works.proofs.MendArms.{held_below}
use Rattle.draid_works.proofs.MendFar.{none_look}

-- a hold that changed nothing
same_quiet : {R A : Type 0} (rack : racks.Ghosts R) (owns : ℕ → Bool) (before after : Shard R A) → Valid rack before → after ≡ before → KeepsQuiet rack owns before after
same_quiet rack owns before after valid same = subst (KeepsQuiet rack owns before) (sym same) (record { keeps = record { valid = valid; part = refl; opens = omega arith; entries = record { each = λ key own. inl refl } }; committed = refl })

module _ {R A G W : Type 0} (rack : racks.Ghosts R) (area : areas.Ghosts A) (x : State) (owns : ℕ → Bool) (own : owns groups_number ≡ true) (old : Locked R A G W) where
  -- So far it only looked, and had a turn of each metaslab's lock.
  pub record Looked (b : Locked R A G W) (u : Uber A) : Type 0 where
    pub said : Says rack area x old b [] (λ hs. LeavesLooks hs [])
    pub turned : (m : ℕ) (pass : Caller (Past (Cell R A))) → slice_get old.passes.items m ≡ Some pass → said.turns m ≡ [] → ⊥
    pub ready : EachIs x.geometry.props.metaslabs (ClosesNext rack (group_of (ubers.kept_of u) + 1)) (lane_last b)
    pub beyond : NoneBeyond x.geometry.props.metaslabs (lane_last b)

  none_front : {E : Type 0} (xs ys : List E) → xs ++ ys ≡ [] → xs ≡ []
  none_front [] ys none = refl
  none_front (x ∷ xs) ys none = absurd (cc)

  look_on : (does : Shard R A → Shard R A → Type 0) (b : Locked R A G W) (m : ℕ) (c : Locked R A G W) (u : Uber A) (h : Once rack area x owns does b m c) → h.after ≡ h.before → Looked b u → Looked c u
  look_on does b m c u h same l =
      let count = x.geometry.props.metaslabs in
      let one = said_one rack area x owns does IsLookOnly b m c h l.said.came (λ pieces y is. same_looks rack area (part_in x m) pieces h.before h.after y is same) looks_end in
      let below = held_below rack area lane_last (LaneWent rack area) true owns count does b m c h l.beyond in
      let z = quiet_on rack area lane_last (LaneWent rack area) true owns own count (λ s. NoneBeyond count (lane_last s)) (beyond_on rack area lane_last (LaneWent rack area) true owns count) does b m c below h (group_of (ubers.kept_of u) + 1)
      (same_quiet rack owns h.before h.after h.drifts.valid same) (record { left = l.beyond; ready = l.ready }) in
      record {
        said = record {
          turns = λ k. l.said.turns k ++ one.turns k;
          holds = l.said.holds ++ one.holds;
          traced = traced_then rack area x old b c l.said.turns one.turns l.said.holds one.holds [] [] l.said.traced one.traced;
          done = leaves_look l.said.holds [] one.holds l.said.done one.done;
          came = one.came;
        };
        turned = λ k pass at none. l.turned k pass at (none_front (l.said.turns k) (one.turns k) none);
        ready = z.ready;
        beyond = z.left;
      }

  look_round : (does : ℕ → Shard R A → Shard R A → Type 0) → ((n : ℕ) (before after : Shard R A) → does n before after → after ≡ before) → (n sum : ℕ) (b c : Locked R A G W) (u : Uber A) → HeldEach rack area lane_last (LaneWent rack area) true owns does n b sum c → Looked b u → Looked c u
  look_round does still zero sum b c u each l = subst (λ s. Looked s u) (sym each.0) l
  look_round does still (suc n) sum b c u (mid, some, more, each, once, adds) l = look_on (does more) mid n c u once (still more once.before once.after once.did) (look_round does still n some b mid u each l)

  pub finds_looked : (kind : PassKind) (found : Option (ℕ × ℕ)) (b c : Locked R A G W) (u : Uber A) → FindsPass rack area lane_last (LaneWent rack area) true owns x.geometry.props.metaslabs kind b found c → Looked b u → Looked c u
  finds_looked kind (Some it) b c u (s, is) l =
      look_on (λ before after. SeesPass kind (Some it.1) before after) s.mid s.place c u s.stop s.stop.did.same
      (look_round (λ none before after. SeesPass kind None before after) (λ n before after sees. sees.same) s.place s.sum b s.mid u s.front l)
  finds_looked kind None b c u each l = look_round (λ none before after. SeesPass kind None before after) (λ n before after sees. sees.same) x.geometry.props.metaslabs 0 b c u each l

  sees_looked : (marks : List Bool) (n : ℕ) (b c : Locked R A G W) (u : Uber A) → SeesEach rack area lane_last (LaneWent rack area) true owns marks n b c → Looked b u → Looked c u
  sees_looked marks zero b c u each l = subst (λ s. Looked s u) (sym each) l
  sees_looked marks (suc n) b c u (mid, each, once) l = look_on (SeesRebuilt rack area (slice_index_or marks n false)) mid n c u once once.did.same (sees_looked marks n b mid u each l)

  pub marks_looked : (found : Option (List Bool)) (b c : Locked R A G W) (u : Uber A) → FindsMarks rack area lane_last (LaneWent rack area) true owns x.geometry.props.metaslabs b found c → Looked b u → Looked c u
  marks_looked (Some marks) b c u each l = sees_looked marks x.geometry.props.metaslabs b c u each l
  marks_looked None b c u each l = look_round (λ none before after. SeesRebuilt rack area false before after) (λ n before after sees. sees.same) x.geometry.props.metaslabs 0 b c u each l

  -- ---- a look at each

  -- it only looked, and at last at each metaslab
  pub record LookedAll (b : Locked R A G W) : Type 0 where
    pub ys : List Metaslab
    pub long : length ys ≡ x.geometry.props.metaslabs
    pub each : (m : ℕ) (y : Metaslab) → slice_get ys m ≡ Some y → (shard : Shard R A) → lane_last b m ≡ Some shard → CameTo rack area x m shard y
    pub said : Says rack area x old b [] (λ hs. LeavesLooks hs (looks_at 0 ys))
    pub turned : (m : ℕ) (pass : Caller (Past (Cell R A))) → slice_get old.passes.items m ≡ Some pass → said.turns m ≡ [] → ⊥

  pub looked_all : x.geometry.props.metaslabs ≡ length old.turns.now → length old.passes.items ≡ length old.turns.now → (b : Locked R A G W) (u : Uber A) → Looked b u → LookedAll b
  looked_all old_all old_many b u l =
      let s = l.said in
      let count = x.geometry.props.metaslabs in
      let now = now_all rack area x old b s.turns s.holds [] s.traced count old_all old_many l.turned s.came in
      record {
        ys = now.list;
        long = now.many;
        each = now.each;
        said = record {
          turns = look_turns rack area x old b s.turns s.holds [] s.traced count old_all old_many l.turned s.came;
          holds = s.holds ++ looks_at 0 now.list;
          traced = traced_looks rack area x old b s.turns s.holds [] s.traced count old_all old_many l.turned s.came;
          done = leaves_then s.holds [] (looks_at 0 now.list) (looks_at 0 now.list) s.done (leaves_self (looks_at 0 now.list));
          came = s.came;
        };
        turned = λ k pass at none. l.turned k pass at (none_look k (slice_get now.list k) (s.turns k) none);
      }

  -- ---- what is known of each then

  -- where it is marked a rebuild visits it
  abbrev pub MarkedAs : Bool → ℕ → Shard R A → Type 0
  MarkedAs mark m shard = (pieces : Pieces) (y : Metaslab) → IsMetaslab rack area (part_in x m) pieces shard y → IsTrue mark ↔ passes.IsRebuilt x.geometry x.perms (view_of m y)

  module _ (mark : ℕ → Bool) where
    mark_on : (n : ℕ) (b c : Locked R A G W) → Once rack area x owns (SeesRebuilt rack area (mark n)) b n c → ((m : ℕ) (shard : Shard R A) → m < n → lane_last b m ≡ Some shard → MarkedAs (mark m) m shard)
        → (m : ℕ) (shard : Shard R A) → m < suc n → lane_last c m ≡ Some shard → MarkedAs (mark m) m shard
    mark_on n b c h each m shard less at = dite (ℕ_discrete m n)
        (λ same.
        let is : h.after ≡ shard = some_same h.after shard (sym (h.is n ∙ ap (λ t. if t then Some h.after else lane_last b n) (eq-eqb n n refl)) ∙ (ap (lane_last c) (sym same) ∙ at)) in
        subst (λ k. MarkedAs (mark k) k shard) (sym same) (subst (MarkedAs (mark n) n) (sym h.did.same ∙ is) (λ pieces y has. h.did.seen (part_in x n) pieces y has)))
        (λ not. each m shard (omega (arith, less, not)) (sym (h.is m ∙ ap (λ t. if t then Some h.after else lane_last b m) (ne_eqb m n not)) ∙ at))

  pub sees_marked : (marks : List Bool) (n : ℕ) (b c : Locked R A G W) → SeesEach rack area lane_last (LaneWent rack area) true owns marks n b c → (m : ℕ) (shard : Shard R A) → m < n → lane_last c m ≡ Some shard → MarkedAs (slice_index_or marks m false) m shard
  sees_marked marks zero b c each m shard less at = absurd (omega (arith, less))
  sees_marked marks (suc n) b c (mid, each, once) m shard less at = mark_on (λ m. slice_index_or marks m false) n mid c once (λ m shard less at. sees_marked marks n b mid each m shard less at) m shard less at

  pub sees_unmarked : (n sum : ℕ) (b c : Locked R A G W) → HeldEach rack area lane_last (LaneWent rack area) true owns (λ none before after. SeesRebuilt rack area false before after) n b sum c → (m : ℕ) (shard : Shard R A) → m < n → lane_last c m ≡ Some shard → MarkedAs false m shard
  sees_unmarked zero sum b c each m shard less at = absurd (omega (arith, less))
  sees_unmarked (suc n) sum b c (mid, some, more, each, once, adds) m shard less at = mark_on (λ m. false) n mid c once (λ m shard less at. sees_unmarked n some b mid each m shard less at) m shard less at

  -- ---- what is seen

  module _ (b : Locked R A G W) (u : Uber A) (ready : EachIs x.geometry.props.metaslabs (ClosesNext rack (group_of (ubers.kept_of u) + 1)) (lane_last b)) (ys : List Metaslab) (long : length ys ≡ x.geometry.props.metaslabs)
      (each : (m : ℕ) (y : Metaslab) → slice_get ys m ≡ Some y → (shard : Shard R A) → lane_last b m ≡ Some shard → CameTo rack area x m shard y) where
    -- the shard of one that was looked at
    pub record IsSeen (m : ℕ) (y : Metaslab) : Type 0 where
      pub shard : Shard R A
      pub there : lane_last b m ≡ Some shard
      pub pieces : Pieces
      pub is : IsMetaslab rack area (part_in x m) pieces shard y
      pub below : m < x.geometry.props.metaslabs

    pub is_seen : (m : ℕ) (y : Metaslab) → slice_get ys m ≡ Some y → IsSeen m y
    is_seen m y at =
        let within = slice_get_within ys m y at in
        let less : m < x.geometry.props.metaslabs = omega (arith, within, long) in
        let z = ready m less in
        let c = each m y at z.0 z.1 in
        record { shard = z.0; there = z.1; pieces = c.came.pieces; is = came_is rack area x m z.0 y c; below = less }

    pub none_of_kind : (kind : PassKind) → AllOnly {R = R} {A = A} (passes.other_kind kind) (lane_last b) → NoneOf (passes.HasPassOf kind) (seen_at 0 ys)
    none_of_kind kind alone = none_seen (passes.HasPassOf kind) 0 ys
        (λ k y at has.
        (let s = is_seen k y at in
        kind_unseen rack area kind x k s.shard y s.pieces s.is (alone k s.shard s.there) (0 + k) has))
