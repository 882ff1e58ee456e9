-- What the call says that gives due slots spares where no group is closing and no metaslab has a pass.
use Rattle.std.proofs.Common.{◌≡◌, ◌≢◌, ◌≤◌, ◌+◌, ◌++◌, ◌∙◌, inl, inr, [], ◌∷◌, ℕ, Bool, true, false, List, Option, Some, None, Ok, Err, arith, refl, sym, ap, subst, length}
use Rattle.std.specs.Prelude.{slice_get}
use Rattle.std.specs.List.{list_any}
use Rattle.draid_names.specs.declared.journal.Entry.{Entry}
use Rattle.draid_spec.specs.declared.layout.Geometry.{Geometry}
use Rattle.draid_rack.specs.declared.Rack as racks
use Rattle.draid_area.specs.declared.Area as areas
use Rattle.draid_machine.proofs.Small.{absurd_test}
use Rattle.draid_shard.specs.declared.shard.Shard.{Shard}
use Rattle.draid_agent.specs.declared.states.Due.{Due}
use Rattle.draid_session.specs.Agent as agent
use Rattle.draid_session.specs.Agent.{AreDueFrom, AttachesAll}
use Rattle.draid_session.specs.Arms as arms
use Rattle.draid_session.specs.Holds.{Hold, View}
use Rattle.draid_session.specs.Looks.{LooksFrom, OnlyLooks}
use Rattle.draid_session.specs.Phases.{Chain, Went}
use Rattle.draid_session.specs.State.{Metaslab, State}
use Rattle.draid_pool.specs.Carries.{CarriesOut}
use Rattle.draid_pool.specs.Pools.{Represents}
use Rattle.draid_pool.specs.Syncing.{Phase}
use Rattle.draid_pool.specs.Views.{seen_at}
use Rattle.draid_pool.specs.Whole.{IsWhole}
use Rattle.draid_pool.specs.declared.fault.SyncFault.{SyncFault}
use Rattle.draid_pool.specs.declared.fault.SyncFault.TheVariants as sync
use Rattle.draid_pool.specs.declared.pool.Pool.{Pool}
use Rattle.draid_pool.proofs.Looking.{changes_none, looked, looks_at}
use Rattle.draid_pool.proofs.Lists.{present}
use Rattle.draid_pool.proofs.Steps.{carried, follows_on, settled}
use Rattle.std.proofs.lemmas.Option.{slice_get_within}
use Rattle.draid_changes.specs.Agent.{CameIs, DueDoes, Sees}
use Rattle.draid_changes.specs.Balancing.{HasNoPass}
use Rattle.draid_changes.specs.Dues.{IsIdleIn, due_in}
use Rattle.draid_changes.specs.Giving.{GaveSome, GivesTo, StopsBefore, is_spared}
use Rattle.draid_changes.specs.declared.agent.GiveFault.TheVariants as fault
use Rattle.draid_changes.proofs.Barred.{layout_same}
use Rattle.draid_changes.proofs.Forbids.{no_pass, none_seen}
use Rattle.draid_changes.proofs.GivesSeen.{came_spared, gives_long, gives_seen, many_due, none_due, spared_came}

only_looked : (m : ℕ) (ys : List Metaslab) → OnlyLooks (looks_at m ys)
unfolding looks_at
only_looked m [] = tt
only_looked m (y ∷ ys) = ((_, refl), only_looked (m + 1) ys)

only_looked_on : (m : ℕ) (ys : List Metaslab) (holds : List Hold) → holds ≡ [] → OnlyLooks (looks_at m ys ++ holds)
unfolding looks_at
only_looked_on m [] holds none = subst OnlyLooks (sym none) tt
only_looked_on m (y ∷ ys) holds none = ((_, refl), only_looked_on (m + 1) ys holds none)

module _ {R A : Type 0} (rack : racks.Ghosts R) (area : areas.Ghosts A) (chosen : ℕ → ℕ → List ℕ → Option ℕ → Type 0) (least : ℕ) (before : List Entry) (pool : Pool R A) (w : IsWhole rack area pool) (none : HasNoPass pool) where
  -- memory was wanting before anything was done
  pub due_starved : (x : State) → Represents rack area pool x → CarriesOut rack area pool x (DueDoes x chosen least before (Err (fault.Stopped sync.NoMemory)) before)
  due_starved x r = carried rack area pool x [] x (DueDoes x chosen least before (Err (fault.Stopped sync.NoMemory)) before) refl r (refl, refl, inr (refl, tt))

  module _ (x : State) (r : Represents rack area pool x) where
    abbrev views : List View
    views = seen_at 0 x.metaslabs

    looking : LooksFrom 0 x.geometry.props.metaslabs (looks_at 0 x.metaslabs) views
    looking = subst (λ n. LooksFrom 0 n (looks_at 0 x.metaslabs) views) r.stands.many (looked 0 x.metaslabs)

    sees : (rest : List Hold) → Sees x.geometry (looks_at 0 x.metaslabs ++ rest) views rest
    sees rest = record { looks = looks_at 0 x.metaslabs; are = refl; looked = looking; none = none_seen 0 x.metaslabs no_passes }
      where
        no_passes : (m : ℕ) (y : Metaslab) → slice_get x.metaslabs m ≡ Some y → y.world.core.pass ≡ None
        no_passes m y at =
            let inside = slice_get_within x.metaslabs m y at in
            let long = r.stands.shards in
            let s = present pool.metaslabs.shards.items m (omega (arith, inside, long)) in
            no_pass rack area x m (r.stands.pieces m) s.0 y (r.stands.each m s.0 y s.1 at) (none m s.0 s.1)

    module _ (first : Shard R A) (there : slice_get pool.metaslabs.shards.items 0 ≡ Some first) (ds : List Due) (are : ds ≡ due_in first.slots pool.metaslabs.shards.items least) where
      children : first.slots.geometry.spec.children ≡ x.geometry.spec.children
      children = ap (λ (g : Geometry). g.spec.children) (layout_same rack area pool x r first there)

      all_slots : 0 + first.slots.geometry.spec.children ≤ first.slots.geometry.spec.children
      all_slots = omega arith

      -- no slot is due
      pub due_none : ds ≡ [] → CarriesOut rack area pool x (DueDoes x chosen least before (Err fault.Idle) before)
      due_none empty =
          carried rack area pool x (looks_at 0 x.metaslabs ++ []) x (DueDoes x chosen least before (Err fault.Idle) before) (follows_on (looks_at 0 x.metaslabs) [] x x x (changes_none x [] x.metaslabs 0 refl refl) refl) r
          (refl, refl, views, sees [], λ slot low. none_due rack area pool w x r first there least 0 first.slots.geometry.spec.children all_slots (sym are ∙ empty) slot (omega arith) (omega (arith, low, children)))

      module _ (new : Pool R A) (after : List Entry) where
        -- they were given
        pub due_given : (came : Bool) → ds ≢ [] → GaveSome rack area chosen ds pool before came new after → CarriesOut rack area new x (DueDoes x chosen least before (Ok came) after)
        due_given came some gave =
            carried rack area new x (looks_at 0 x.metaslabs ++ c.holds) c.reached (DueDoes x chosen least before (Ok came) after) (follows_on (looks_at 0 x.metaslabs) c.holds x x c.reached (changes_none x [] x.metaslabs 0 refl refl) c.follows)
            (settled rack area new x (Phase x (Chain (arms.ReservePhase x.geometry x.perms (λ v. length ds)) (AttachesAll x.geometry x.perms chosen gave.entries)) Went) c c.done.0) (
              refl,
              views,
              c.holds,
              gave.entries,
              sees c.holds,
              gave.are,
              not_none,
              came_is came gave.came_is,
              gives,
              subst (λ n. Chain (arms.ReservePhase x.geometry x.perms (λ v. n)) (AttachesAll x.geometry x.perms chosen gave.entries) c.holds Went) (sym long) c.done.1,
            )
          where
            c : CarriesOut rack area new x (Phase x (Chain (arms.ReservePhase x.geometry x.perms (λ v. length ds)) (AttachesAll x.geometry x.perms chosen gave.entries)) Went)
            c = gave.carries x r

            long : length gave.entries ≡ length ds
            long = gives_long chosen _ _ [] (length before + 1) ds gave.entries (gave.gives 0 first there)

            not_none : gave.entries ≢ []
            not_none is = some (nil ds (sym long ∙ ap length is))
              where
                nil : (ds : List Due) → length ds ≡ 0 → ds ≡ []
                nil [] is = refl
                nil (d ∷ ds) is = absurd (omega (arith, is))

            came_is : (b : Bool) → b ≡ list_any (λ (e : Entry). is_spared e.did) gave.entries → CameIs x chosen least before b gave.entries
            came_is true is = spared_came gave.entries (sym is)
            came_is false is = λ some. absurd_test (list_any (λ (e : Entry). is_spared e.did) gave.entries) (came_spared gave.entries some.0 some.1) (sym is)

            gives : agent.Gives x.geometry x.perms chosen least views (length before + 1) gave.entries
            gives = subst (λ n. agent.GivesFrom x.geometry x.perms chosen least views [] (length before + 1) 0 n gave.entries) children
                (gives_seen rack area pool w x r first there least chosen 0 first.slots.geometry.spec.children all_slots [] (length before + 1) gave.entries
                (subst (λ list. GivesTo chosen (IsIdleIn first.slots) first.slots.geometry.spec.spares [] (length before + 1) list gave.entries) are (gave.gives 0 first there)))

        -- or the reserving was stopped
        pub due_stopped : (why : SyncFault) → after ≡ before → CarriesOut rack area new x (StopsBefore (length ds) why x) → CarriesOut rack area new x (DueDoes x chosen least before (Err (fault.Stopped why)) after)
        due_stopped why same c =
            carried rack area new x (looks_at 0 x.metaslabs ++ c.holds) c.reached (DueDoes x chosen least before (Err (fault.Stopped why)) after) (follows_on (looks_at 0 x.metaslabs) c.holds x x c.reached (changes_none x [] x.metaslabs 0 refl refl) c.follows)
            (settled rack area new x (StopsBefore (length ds) why x) c c.done.0) (
              refl,
              same,
              elim c.done.1 [
                | inl reserve ↦ inl (
                  views,
                  c.holds,
                  length ds,
                  sees c.holds,
                  subst (λ n. AreDueFrom least views 0 n (length ds)) children
                      (subst (λ list. AreDueFrom least views 0 first.slots.geometry.spec.children (length list)) (sym are) (many_due rack area pool w x r first there least 0 first.slots.geometry.spec.children all_slots)),
                  reserve,
                )
                | inr wanting ↦ inr (wanting.0, only_looked_on 0 x.metaslabs c.holds wanting.1)
              ],
            )
