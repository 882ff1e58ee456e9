-- A lane that looks for passes of a kind finds one: it is the lowest of the metaslabs as they were looked at.
use Rattle.std.proofs.Common.{◌≡◌, ◌<◌, ◌+◌, ◌∙◌, [], ℕ, Bool, true, List, Some, None, arith, refl, sym, ap, subst, length, eq-eqb, ne_eqb, if◌then◌else◌}
use Rattle.std.specs.Prelude.{option_map, slice_get}
use Rattle.draid_names.specs.declared.pass_kind.PassKind.{PassKind}
use Rattle.draid_rack.specs.declared.Rack as racks
use Rattle.draid_area.specs.declared.Area as areas
use Rattle.draid_session.specs.Holds.{view_of}
use Rattle.draid_session.specs.Lanes.{LeavesLooks}
use Rattle.draid_session.specs.Looks.{Looks, LooksFrom}
use Rattle.draid_session.specs.Passes as passes
use Rattle.draid_session.specs.State.{Metaslab, State}
use Rattle.draid_shard.specs.declared.shard.Shard.{Shard}
use Rattle.draid_slots.specs.States.{pass_in}
use Rattle.draid_uber.specs.declared.uber.Uber.{Uber}
use Rattle.draid_pool.specs.Drifts.{groups_number}
use Rattle.draid_pool.specs.Metaslabs.{IsMetaslab}
use Rattle.draid_pool.specs.Pools.{part_in}
use Rattle.draid_pool.specs.Rounds.{StoppedBy}
use Rattle.draid_pool.specs.Views.{seen_at}
use Rattle.draid_pool.proofs.Holding.{some_same}
use Rattle.draid_pool.proofs.Lists.{present}
use Rattle.draid_pool.proofs.Looking.{looked, looks_at}
use Rattle.draid_visits.specs.Looks.{FindsPass, SeesPass}
use Rattle.draid_visits.specs.Visiting.{IsOnly}
use Rattle.draid_visits.proofs.Found.{kind_unseen, lowest_seen}
use Rattle.draid_visits.proofs.MendHolds.{only_upto}
use Rattle.draid_lanes.specs.Governing.{lane_last}
use Rattle.draid_lanes.specs.Waits.{LaneWent}
use Rattle.draid_lanes.specs.declared.locked.Locked.{Locked}
use Rattle.draid_lanes.proofs.RoundWords.{Says, said_as}
use Rattle.draid_works.proofs.MendFar.{But}
use Rattle.draid_works.proofs.MendLooks.{Looked, LookedAll, finds_looked, is_seen, looked_all}

-- each metaslab was looked at
pub looks_alone : (x : State) (ys : List Metaslab) → length ys ≡ x.geometry.props.metaslabs → Looks x.geometry.props.metaslabs (looks_at 0 ys) (seen_at 0 ys)
looks_alone x ys long = subst (λ n. LooksFrom 0 n (looks_at 0 ys) (seen_at 0 ys)) long (looked 0 ys)

module _ {R A G W : Type 0} (rack : racks.Ghosts R) (area : areas.Ghosts A) (x : State) (owns : ℕ → Bool) (own : owns groups_number ≡ true) (old : Locked R A G W) (old_all : x.geometry.props.metaslabs ≡ length old.turns.now) (old_many : length old.passes.items ≡ length old.turns.now)
    (kind : PassKind) (metaslab number : ℕ) (a b : Locked R A G W) (u : Uber A) (l : Looked rack area x owns own old a u)
    (found : FindsPass rack area lane_last (LaneWent rack area) true owns x.geometry.props.metaslabs kind a (Some (metaslab, number)) b) where
  abbrev stop : StoppedBy rack area lane_last (LaneWent rack area) true owns (λ none before after. SeesPass kind None before after) (λ before after. SeesPass kind (Some number) before after) x.geometry.props.metaslabs a b
  stop = found.0

  -- those below it have none
  below_alone : (k : ℕ) (shard : Shard R A) → k < stop.place → lane_last b k ≡ Some shard → IsOnly (passes.other_kind kind) shard
  below_alone k shard less at =
      let z = only_upto rack area lane_last (LaneWent rack area) true owns kind stop.place stop.sum a stop.mid stop.front k less in
      let same : lane_last b k ≡ lane_last stop.mid k = stop.stop.is k ∙ ap (λ t. if t then Some stop.stop.after else lane_last stop.mid k) (ne_eqb k stop.place (λ is. omega (arith, is, less))) in
      subst (λ (s : Shard R A). IsOnly (passes.other_kind kind) s) (some_same z.0 shard (sym z.1 ∙ (sym same ∙ at))) z.2

  here_is : lane_last b stop.place ≡ Some stop.stop.after
  here_is = stop.stop.is stop.place ∙ ap (λ t. if t then Some stop.stop.after else lane_last stop.mid stop.place) (eq-eqb stop.place stop.place refl)

  abbrev behind : Looked rack area x owns own old b u
  behind = finds_looked rack area x owns own old kind (Some (metaslab, number)) a b u found l

  abbrev pub all : LookedAll rack area x owns own old b
  all = looked_all rack area x owns own old old_all old_many b u behind

  -- what was seen at this place
  pub record LowestAt (place : ℕ) : Type 0 where
    pub y : Metaslab
    pub there : slice_get all.ys place ≡ Some y
    pub has : passes.HasPassOf kind (view_of place y)
    pub below : (j : ℕ) (z : Metaslab) → j < place → slice_get all.ys j ≡ Some z → passes.HasPassOf kind (view_of (0 + j) z) → ⊥
    pub lowest : passes.IsLowestPassOf kind (seen_at 0 all.ys) place number

  lowest_there : LowestAt stop.place
  lowest_there =
      let seen = is_seen rack area x owns own old b u behind.ready all.ys all.long all.each in
      let below = stop.below in
      let many = all.long in
      let y = present all.ys stop.place (omega (arith, below, many)) in
      let s = seen stop.place y.0 y.1 in
      let has = stop.stop.did.found in
      let same : stop.stop.after ≡ s.shard = some_same stop.stop.after s.shard (sym here_is ∙ s.there) in
      let is = subst (λ (t : Shard R A). IsMetaslab rack area (part_in x stop.place) s.pieces t y.0) (sym same ∙ stop.stop.did.same) s.is in
      let pass = is.stands.is_in.pass ∙ ap (option_map (pass_in stop.stop.before.slots)) has.has in
      let none : (j : ℕ) (z : Metaslab) → j < stop.place → slice_get all.ys j ≡ Some z → passes.HasPassOf kind (view_of (0 + j) z) → ⊥ = (λ j z less at bad. (let t = seen j z at in kind_unseen rack area kind x j t.shard z t.pieces t.is (below_alone j t.shard less t.there) (0 + j) bad)) in
      record {
        y = y.0;
        there = y.1;
        has = (pass_in stop.stop.before.slots has.pass, pass, has.kind_is);
        below = none;
        lowest = subst (λ k. passes.IsLowestPassOf kind (seen_at 0 all.ys) k number) (let place : 0 + stop.place ≡ stop.place = omega arith in place)
            (lowest_seen rack area kind 0 stop.place number all.ys y.0 (pass_in stop.stop.before.slots has.pass) y.1 pass has.kind_is has.number_is none);
      }

  pub lowest_at : LowestAt metaslab
  lowest_at = subst LowestAt (sym found.1) lowest_there

  -- a pass of the other kind finds it
  pub finds_other : (of : PassKind) → passes.other_kind of ≡ kind → Says rack area x old b [] (But (λ hs. passes.FindsOther x.geometry x.perms of hs metaslab number))
  finds_other of other =
      said_as rack area x old b [] (λ hs. LeavesLooks hs (looks_at 0 all.ys)) (But (λ hs. passes.FindsOther x.geometry x.perms of hs metaslab number)) all.said
      (λ hs leaves. (
        looks_at 0 all.ys,
        leaves,
        record { views = seen_at 0 all.ys; looked = looks_alone x all.ys all.long; lowest = subst (λ k. passes.IsLowestPassOf k (seen_at 0 all.ys) metaslab number) (sym other) lowest_at.lowest },
      ))
