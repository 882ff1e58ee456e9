-- A phase in which each metaslab has one hold, which leaves its arms and groups, and any of them may stop it.
use Rattle.std.proofs.Common.{◌≡◌, ◌≢◌, ◌<◌, ◌+◌, ◌++◌, ◌∙◌, [], ◌∷◌, ℕ, suc, arith, refl, sym, ap, subst}
use Rattle.draid_rack.specs.declared.Rack as racks
use Rattle.draid_area.specs.declared.Area as areas
use Rattle.draid_spec.specs.declared.layout.Geometry.{Geometry}
use Rattle.draid_perm.specs.declared.perms.Perms.{Perms}
use Rattle.draid_segments.specs.Segments.{Pieces}
use Rattle.draid_shard.specs.Part.{Part}
use Rattle.draid_shard.specs.declared.shard.Shard.{Shard}
use Rattle.draid_session.specs.Holds.{Hold}
use Rattle.draid_session.specs.Phases.{End, Walk, Went}
use Rattle.draid_session.specs.State.{Metaslab, State}
use Rattle.draid_pool.specs.Carries.{CarriesOut}
use Rattle.draid_pool.specs.Metaslabs.{IsMetaslab}
use Rattle.draid_pool.specs.Syncing.{KeepsCommitted, Phase, Turns}
use Rattle.draid_pool.specs.declared.pool.Pool.{Pool}
use Rattle.draid_pool.proofs.Lifted.{SetsShard}
use Rattle.draid_pool.proofs.Steps.{carried, follows_on, own_of, same_layout}
use Rattle.draid_pool.proofs.SyncSteps.{Came, OneMore, turned}
use Rattle.draid_pool.proofs.Walks.{Walked, walk_stops, walk_went, walked_more}

-- what a metaslab's hold is, and which hold stops the phase, by the layout
abbrev pub HoldIs : Type 1
HoldIs = Geometry → Perms → ℕ → Hold → ℕ → Type 0

abbrev pub StopIs : Type 1
StopIs = Geometry → Perms → ℕ → Hold → End → Type 0

module _ {R A : Type 0} (rack : racks.Ghosts R) (area : areas.Ghosts A) (P : HoldIs) (S : StopIs) where
  abbrev P_of : State → ℕ → Hold → ℕ → Type 0
  P_of x = P x.geometry x.perms

  abbrev S_of : State → ℕ → Hold → End → Type 0
  S_of x = S x.geometry x.perms

  -- the next metaslab has its hold
  pub phase_more : (m : ℕ) (mid new : Pool R A) (shard shard' : Shard R A) (x : State) → Came rack area (P_of x) m 0 mid x → SetsShard rack area m mid new shard shard'
      → ((part : Part) (pieces : Pieces) (y : Metaslab) → IsMetaslab rack area part pieces shard y → Turns rack area part pieces y shard' (λ hold z. P part.geometry part.perms part.number hold 0 × KeepsCommitted y.world z.world))
      → Came rack area (P_of x) (m + 1) 0 new x
  phase_more m mid new shard shard' x c set turns =
      let o : OneMore rack area new c.reached (λ hold. P c.reached.geometry c.reached.perms m hold 0)
      = turned rack area m mid new shard shard' c.reached (λ part hold. P part.geometry part.perms part.number hold 0) c.represents set turns in
      record {
        holds = c.holds ++ o.hold ∷ [];
        reached = o.reached;
        follows = follows_on c.holds (o.hold ∷ []) x c.reached o.reached c.follows (o.reached, o.holds, refl);
        walked = subst (λ k. Walked (P_of x) 0 k (c.holds ++ o.hold ∷ []) 0) (let on : suc m ≡ m + 1 = omega arith in on)
            (walked_more (P_of x) 0 m c.holds 0 o.hold 0 c.walked (subst (λ k. P_of x k o.hold 0) (let same : m ≡ 0 + m = omega arith in same)
            (own_of x c.reached (λ g p store. P g p m o.hold 0) (same_layout c.holds x c.reached c.follows) o.done)));
        represents = o.represents;
      }

  -- all had theirs
  pub phase_went : (m : ℕ) (new : Pool R A) (x : State) → (c : Came rack area (P_of x) m 0 new x) → m ≡ new.geometry.props.metaslabs
      → CarriesOut rack area new x (Phase x (λ holds end. Walk (P_of x) (S_of x) 0 x.geometry.props.metaslabs holds end 0) Went)
  phase_went m new x c all =
      carried rack area new x c.holds c.reached (Phase x (λ holds end. Walk (P_of x) (S_of x) 0 x.geometry.props.metaslabs holds end 0) Went) c.follows c.represents (
        refl,
        subst (λ n. Walk (P_of x) (S_of x) 0 n c.holds Went 0) (all ∙ ap (λ (g : Geometry). g.props.metaslabs) (sym c.represents.stands.geometry ∙ (same_layout c.holds x c.reached c.follows).geometry))
            (walk_went (P_of x) (S_of x) 0 m c.holds 0 c.walked),
      )

  -- the next metaslab stopped it
  pub phase_stops : (m : ℕ) (mid new : Pool R A) (shard shard' : Shard R A) (x : State) (end : End) → (c : Came rack area (P_of x) m 0 mid x) → SetsShard rack area m mid new shard shard'
      → m < mid.geometry.props.metaslabs → end ≢ Went
      → ((part : Part) (pieces : Pieces) (y : Metaslab) → IsMetaslab rack area part pieces shard y → Turns rack area part pieces y shard' (λ hold z. S part.geometry part.perms part.number hold end × KeepsCommitted y.world z.world))
      → CarriesOut rack area new x (Phase x (λ holds end. Walk (P_of x) (S_of x) 0 x.geometry.props.metaslabs holds end 0) end)
  phase_stops m mid new shard shard' x end c set below stopped turns =
      let o : OneMore rack area new c.reached (λ hold. S c.reached.geometry c.reached.perms m hold end)
      = turned rack area m mid new shard shard' c.reached (λ part hold. S part.geometry part.perms part.number hold end) c.represents set turns in
      let few : m < x.geometry.props.metaslabs
      = subst (λ (g : Geometry). m < g.props.metaslabs) (sym c.represents.stands.geometry ∙ (same_layout c.holds x c.reached c.follows).geometry) below in
      carried rack area new x (c.holds ++ o.hold ∷ []) o.reached (Phase x (λ holds end. Walk (P_of x) (S_of x) 0 x.geometry.props.metaslabs holds end 0) end)
      (follows_on c.holds (o.hold ∷ []) x c.reached o.reached c.follows (o.reached, o.holds, refl)) o.represents (
        refl,
        walk_stops (P_of x) (S_of x) 0 m x.geometry.props.metaslabs c.holds 0 o.hold end few c.walked stopped (subst (λ k. S_of x k o.hold end) (let same : m ≡ 0 + m = omega arith in same)
            (own_of x c.reached (λ g p store. S g p m o.hold end) (same_layout c.holds x c.reached c.follows) o.done)),
      )
