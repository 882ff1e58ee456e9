-- What holds of each hold of a sync, by what it may do: it looks, closes, seals or commits a group of a metaslab, an area fails, memory is wanting, or it holds the uberblock.
use Rattle.std.proofs.Common.{◌∷◌, ℕ, [], inl, inr, sym, subst}
use Rattle.draid_spec.specs.declared.layout.Geometry.{Geometry}
use Rattle.draid_perm.specs.declared.perms.Perms.{Perms}
use Rattle.draid_machine.specs.declared.event.Event.TheVariants as event
use Rattle.draid_machine.specs.State as machine
use Rattle.draid_session.specs.Groups as groups
use Rattle.draid_session.specs.Holds.{AreaFailed, CommitFailed, CommitStarved, Committed, Did, Hold, Looked, LookedUber, On, OnUber, UberAct, UberView, View, CallStarved}
use Rattle.draid_session.specs.Looks.{AllOf}
use Rattle.draid_session.specs.Phases.{Broke, Chain, End, Starved, WasLast, WasWorn, Went}
use Rattle.draid_session.proofs.Phased.{IsPhase, all_both, chain_all, each_all, looks_from_all, walk_all}

-- each hold that a sync may make is so
pub record OfSync (Q : Hold → Type 0) : Type 0 where
  pub look : (v : View) → Q (On v Looked)
  pub close : (v : View) (t : ℕ) (w : machine.State) → Q (On v (Did (event.Close t) w))
  pub seal : (v : View) (t : ℕ) (failed : _) (w : machine.State) → Q (On v (Did (event.Seal t failed) w))
  pub commit : (v : View) (t : ℕ) (w : machine.State) → Q (On v (Did (event.Commit t) w))
  pub area : (v : View) (t : ℕ) → Q (On v (AreaFailed t))
  pub starve : (v : View) → Q (On v CallStarved)
  pub uber : (u : UberView) (act : UberAct) → Q (OnUber u act)

module _ (Q : Hold → Type 0) (q : OfSync Q) (geometry : Geometry) (perms : Perms) where
  module _ (group : ℕ) where
    closes : (m : ℕ) (hold : Hold) (none : ℕ) → groups.Closes geometry perms group m hold none → Q hold
    closes m (On v (Did (event.Close t) w)) none c = q.close v t w
    closes m (On v Looked) none c = q.look v
    closes m hold none c = absurd c

    close_stops : (m : ℕ) (hold : Hold) (end : End) → groups.CloseStops geometry perms group m hold end → Q hold
    close_stops m (On v Looked) WasWorn s = q.look v
    close_stops m (On v Looked) WasLast s = q.look v
    close_stops m (On v Looked) Starved s = q.look v
    close_stops m hold end s = absurd s

    seals : (m : ℕ) (hold : Hold) (thin : ℕ) → groups.Seals geometry perms group m hold thin → Q hold
    seals m (On v (Did (event.Seal t failed) w)) thin s = q.seal v t failed w
    seals m (On v Looked) thin s = q.look v
    seals m hold thin s = absurd s

    seal_stops : (m : ℕ) (hold : Hold) (end : End) → groups.SealStops geometry perms group m hold end → Q hold
    seal_stops m (On v (AreaFailed t)) Broke s = q.area v t
    seal_stops m (On v CallStarved) Starved s = q.starve v
    seal_stops m hold end s = absurd s

    pub names_all : IsPhase Q (groups.Names geometry perms group)
    names_all (OnUber u (Committed t) ∷ []) Went n = (q.uber u (Committed t), tt)
    names_all (OnUber u (CommitFailed t) ∷ []) Broke n = (q.uber u (CommitFailed t), tt)
    names_all (OnUber u (CommitStarved t) ∷ []) Starved n = (q.uber u (CommitStarved t), tt)
    names_all holds end n = absurd n

    commits : (m : ℕ) (hold : Hold) → groups.Commits geometry perms group m hold → Q hold
    commits m (On v (Did (event.Commit t) w)) c = q.commit v t w
    commits m hold c = absurd c

    pub close_all : IsPhase Q (groups.ClosePhase geometry perms group)
    close_all holds end p = walk_all Q (groups.Closes geometry perms group) (groups.CloseStops geometry perms group) closes close_stops 0 geometry.props.metaslabs holds end 0 p

    pub commit_all : IsPhase Q (groups.CommitPhase geometry perms group)
    commit_all holds end p = each_all Q (groups.Commits geometry perms group) commits 0 geometry.props.metaslabs holds p.0

    module _ (thin : ℕ) where
      pub seal_all : IsPhase Q (groups.SealPhase geometry perms group thin)
      seal_all holds end p = walk_all Q (groups.Seals geometry perms group) (groups.SealStops geometry perms group) seals seal_stops 0 geometry.props.metaslabs holds end p.0 p.1

      pub group_all : IsPhase Q (groups.Group geometry perms group thin)
      group_all =
          chain_all Q (groups.ClosePhase geometry perms group)
          (Chain (groups.SealPhase geometry perms group thin) (Chain (groups.Names geometry perms group) (groups.CommitPhase geometry perms group))) close_all
          (chain_all Q (groups.SealPhase geometry perms group thin) (Chain (groups.Names geometry perms group) (groups.CommitPhase geometry perms group)) seal_all
          (chain_all Q (groups.Names geometry perms group) (groups.CommitPhase geometry perms group) names_all commit_all))

  pub finish_all : IsPhase Q (groups.Finishes geometry perms)
  finish_all holds end f =
      let looks = looks_from_all Q q.look 0 geometry.props.metaslabs f.looks f.views f.looked in
      subst (AllOf Q) (sym f.are) (all_both Q f.looks f.rest looks (elim f.does [
        | inl none ↦ subst (AllOf Q) (sym none.1) tt
        | inr more ↦ group_all more.0 more.2 f.rest end more.5
      ]))

  next_all : (group thin : ℕ) → IsPhase Q (groups.Next geometry perms group thin)
  next_all group thin holds end n = subst (AllOf Q) (sym n.2) (q.uber n.0 LookedUber, group_all group thin n.1 end n.4)

  pub sync_all : (group thin : ℕ) → IsPhase Q (groups.Syncs geometry perms group thin)
  sync_all group thin = chain_all Q (groups.Finishes geometry perms) (groups.Next geometry perms group thin) finish_all (next_all group thin)
