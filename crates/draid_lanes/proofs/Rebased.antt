-- A whole pool under its governor, told from the state to which it has come.
use Rattle.std.proofs.Common.{◌≡◌, ◌<◌, ◌≤◌, ◌∙◌, inl, inr, ℕ, zero, suc, Bool, true, Some, None, Ok, arith, refl, sym, ap, subst, length}
use Rattle.std.proofs.lemmas.Option.{slice_get_within}
use Rattle.draid_rack.specs.declared.Rack as racks
use Rattle.draid_area.specs.declared.Area as areas
use Rattle.draid_session.specs.Lanes.{SwitchesAgree}
use Rattle.draid_session.specs.State.{Metaslab, State}
use Rattle.draid_shard.specs.declared.shard.Shard.{Shard}
use Rattle.draid_uber.specs.declared.uber.Uber.{Uber}
use Rattle.draid_pool.specs.Drifts.{Drifts, groups_number}
use Rattle.draid_pool.specs.Grouping.{FinishesIn}
use Rattle.draid_pool.specs.Rounds.{EachIs}
use Rattle.draid_pool.proofs.Holding.{some_same}
use Rattle.draid_pool.proofs.Lists.{present}
use Rattle.draid_pool.proofs.RoundSteps.{each_stays}
use Rattle.draid_lanes.specs.Governing.{lane_last}
use Rattle.draid_lanes.specs.Waits.{LaneWent}
use Rattle.draid_lanes.specs.declared.locked.Locked.{Locked}
use Rattle.draid_lanes.proofs.GovernedGroup.{GovernsFrom}
use Rattle.draid_lanes.proofs.GovernedHolds.{IsGood}
use Rattle.draid_lanes.proofs.MeetWords.{Listed, list_of}
use Rattle.draid_lanes.proofs.OneTurn.{CameTo, Once}
use Rattle.draid_lanes.proofs.RoundWords.{Each}
use Rattle.draid_lanes.proofs.SealWords.{each_is}
use Rattle.draid_lanes.proofs.Switches.{switches_self}

module _ {R A G W : Type 0} (rack : racks.Ghosts R) (area : areas.Ghosts A) (x z : State) (a : Locked R A G W) (u : Uber A) (w : State) (g : GovernsFrom rack area x z a u w) (count : ℕ) (many : length z.metaslabs ≡ count)
    (there : (m : ℕ) → m < count → (shard : Shard R A) × (lane_last a m ≡ Some shard)) where
  -- what one has come to
  pub record HasComeTo (m : ℕ) (y : Metaslab) : Type 0 where
    pub shard : Shard R A
    pub at : lane_last a m ≡ Some shard
    pub came : CameTo rack area x m shard y
    pub good : IsGood z w g.shared m y

  come_all : Listed count HasComeTo
  come_all = list_of count HasComeTo (λ m less. (let s = there m less in let k = g.knows m s.0 s.1 in (k.0, record { shard = s.0; at = s.1; came = k.1; good = k.2 })))

  -- the state to which it has come
  pub come_state : State
  come_state = record w { metaslabs = come_all.list }

  pub come_many : length come_state.metaslabs ≡ count
  unfolding come_state
  come_many = come_all.many

  pub come_rest : come_state ≡ record w { metaslabs = come_state.metaslabs }
  unfolding come_state
  come_rest = refl

  pub come_agrees : SwitchesAgree z → SwitchesAgree come_state
  unfolding come_state
  come_agrees was leaf m n y v p q at here arm other =
      let one = (come_all.each m y at).good in
      let two = (come_all.each n v here).good in
      let b = one.switches leaf p arm in
      let c = two.switches leaf q other in
      sym b.2 ∙ (was leaf m n one.first two.first b.0 c.0 one.first_is two.first_is b.1 c.1 ∙ c.2)

  pub come_governs : GovernsFrom rack area x come_state a u come_state
  unfolding come_state
  come_governs = record {
    rest = record { geometry = refl; perms = refl; metaslabs = refl; store = refl; told = refl };
    shared = g.shared;
    knows = λ m shard at.
        (let k = g.knows m shard at in
        let within = slice_get_within z.metaslabs m k.2.first k.2.first_is in
        let long = come_all.many in
        let y = present come_all.list m (omega (arith, within, many, long)) in
        let c = come_all.each m y.0 y.1 in
        let same : c.shard ≡ shard = some_same c.shard shard (sym c.at ∙ at) in (
          y.0,
          subst (λ s. CameTo rack area x m s y.0) same c.came,
          record {
            committed = c.good.committed;
            alike = c.good.alike;
            images = c.good.images;
            leaves = c.good.leaves;
            first = y.0;
            first_is = y.1;
            switches = switches_self y.0.world;
          },
        ));
    uber = record {
      valid = g.uber.valid;
      layout = g.uber.layout;
      version = g.uber.version;
      kept = g.uber.kept;
      next_leaf = g.uber.next_leaf;
      point = g.uber.point;
      late = g.uber.late;
      count = g.uber.count;
      stands = record { pending = g.uber.stands.pending; are = g.uber.stands.are; stands = g.uber.stands.stands };
    };
    versions = record { kept = g.versions.kept; now = g.versions.now };
    order = g.order;
  }

-- ---- what stays through a round

module _ {R A G W : Type 0} (rack : racks.Ghosts R) (area : areas.Ghosts A) (x : State) (owns : ℕ → Bool) (count : ℕ) (is : Shard R A → Type 0) (drifts : (s before : Shard R A) → Drifts rack area true owns s before → is s → is before) where
  pub once_kept : (does : Shard R A → Shard R A → Type 0) → ((before after : Shard R A) → does before after → is before → is after) → (a : Locked R A G W) (m : ℕ) (b : Locked R A G W) → m < count → Once rack area x owns does a m b → EachIs count is (lane_last a) → EachIs count is (lane_last b)
  once_kept does so a m b less h each =
      let s = each m less in
      let was = subst is (some_same s.0 h.shard (sym s.1 ∙ h.there)) s.2 in
      each_stays is (lane_last a) (lane_last b) m h.after h.is (so h.before h.after h.did (drifts h.shard h.before h.drifts was)) count each

  pub round_kept : (does : ℕ → Shard R A → Shard R A → Type 0) → ((n : ℕ) (before after : Shard R A) → does n before after → is before → is after) → (n sum : ℕ) (a b : Locked R A G W) → n ≤ count → Each rack area x owns does n a sum b → EachIs count is (lane_last a) → EachIs count is (lane_last b)
  round_kept does so zero sum a b low each all = subst (λ s. EachIs count is (lane_last s)) (sym each.0) all
  round_kept does so (suc n) sum a b low (mid, some, more, each, once, adds) all =
      once_kept (does more) (so more) mid n b (omega (arith, low)) once (round_kept does so n some a mid (omega (arith, low)) each all)

-- no group is closing
pub idle_drifts : {R A : Type 0} (rack : racks.Ghosts R) (area : areas.Ghosts A) (owns : ℕ → Bool) → owns groups_number ≡ true → (s before : Shard R A) → Drifts rack area true owns s before → s.closing ≡ None → before.closing ≡ None
idle_drifts rack area owns own s before d idle = (d.groups own).groups.closing ∙ idle

module _ {R A G W : Type 0} (rack : racks.Ghosts R) (area : areas.Ghosts A) (x : State) (owns : ℕ → Bool) (own : owns groups_number ≡ true) (count : ℕ) where
  -- behind what was finished
  pub finish_idle : (a b : Locked R A G W) (u v : Uber A) → FinishesIn rack area lane_last (LaneWent rack area) true owns count a u (Some (Ok tt)) b v → EachIs count (λ (s : Shard R A). s.closing ≡ None) (lane_last b)
  finish_idle a b u v (inl (finds, same)) = each_is rack area x owns own count (λ (s : Shard R A). s.closing ≡ None) _ (λ n before after sees. ap (λ (s : Shard R A). s.closing) sees.0 ∙ sees.1) count 0 a b finds
  finish_idle a b u v (inr (group, thin, mid, finds, (close, late, closes, seals, names, commits))) = each_is rack area x owns own count (λ (s : Shard R A). s.closing ≡ None) _ (λ n before after c. c.commits.closing) count 0 late b commits
