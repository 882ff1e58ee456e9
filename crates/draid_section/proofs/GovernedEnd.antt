-- What who holds the uberblock knew of all metaslabs is so of those that come back in the end.
use Rattle.std.proofs.Common.{◌≡◌, ◌∙◌, arith, ℕ, Bool, true, List, Option, Some, None, length, ap, sym, subst, refl}
use Rattle.std.specs.Prelude.{option_map, slice_get, ◌↔◌, ◌<◌}
use Rattle.std.proofs.lemmas.Option.{slice_get_within}
use Rattle.draid_rack.specs.declared.Rack as racks
use Rattle.draid_area.specs.declared.Area as areas
use Rattle.draid_machine.specs.declared.names.ArmName.TheVariants.{Leaf}
use Rattle.draid_machine.specs.State as machine
use Rattle.draid_shard.specs.declared.shard.Shard.{Shard}
use Rattle.draid_turn.specs.Calls.{Caller, Lock}
use Rattle.draid_turn.specs.declared.past.Past.{Past}
use Rattle.draid_session.specs.Lanes.{SwitchesAgree}
use Rattle.draid_session.specs.State.{Metaslab, State, Store}
use Rattle.draid_pool.specs.Drifts.{Drifts, GoesOn, groups_number}
use Rattle.draid_pool.specs.Importable.{AllAlike, bare}
use Rattle.draid_pool.specs.Pools.{part_in}
use Rattle.draid_pool.specs.Records.{HasImages, HasLeafNumbers}
use Rattle.draid_pool.specs.Shards.{KeepsImages}
use Rattle.draid_pool.specs.Ubers.{IsUber, check_told, kept_in}
use Rattle.draid_pool.specs.declared.cell.Cell.{Cell}
use Rattle.draid_pool.proofs.Imaged.{alike_stays, image_kept, leaves_kept}
use Rattle.draid_pool.proofs.Lists.{present}
use Rattle.draid_lanes.specs.Locks.{left_in}
use Rattle.draid_lanes.specs.Traces.{CameAt, IsGoverned}
use Rattle.draid_lanes.specs.declared.uber.UberCell.{UberCell}
use Rattle.draid_section.proofs.Finals.{FinalAt, came_on}
use Rattle.draid_section.proofs.UberTurns.{with_uber}
use Rattle.draid_uber.specs.Checks.{AreasStand, told_by}
use Rattle.draid_uber.specs.Uber.{areas_of, changed_of}
use Rattle.draid_session.specs.Points.{HasLateMark}

-- a leaf that was offline as another was, is so yet
offline_kept : (a b c d : Option machine.Arm) → option_map bare c ≡ option_map bare a → option_map bare d ≡ option_map bare b → ((i j : machine.Arm) → a ≡ Some i → b ≡ Some j → i.offline ≡ j.offline) → (i j : machine.Arm) → c ≡ Some i → d ≡ Some j → i.offline ≡ j.offline
offline_kept None b c d first second same i j c_is d_is = absurd (let z = sym (ap (option_map bare) c_is) ∙ first in cc)
offline_kept (Some a) None c d first second same i j c_is d_is = absurd (let z = sym (ap (option_map bare) d_is) ∙ second in cc)
offline_kept (Some a) (Some b) c d first second same i j c_is d_is =
    let x : bare i ≡ bare a = (let z = sym (ap (option_map bare) c_is) ∙ first in cc) in
    let y : bare j ≡ bare b = (let z = sym (ap (option_map bare) d_is) ∙ second in cc) in
    ap (λ (k : machine.Arm). k.offline) x ∙ (same a b refl refl ∙ sym (ap (λ (k : machine.Arm). k.offline) y))

module _ {R A : Type 0} (rack : racks.Ghosts R) (area : areas.Ghosts A) (x : State) (locks : List (Lock (Cell R A))) (shards : List (Shard R A)) (zs : List Metaslab) (zs_many : length zs ≡ length locks) (shards_many : length shards ≡ length locks)
    (final : (m : ℕ) (z : Metaslab) → slice_get zs m ≡ Some z → FinalAt rack area x locks shards m z) (single : (lock : Lock (Cell R A)) (m : ℕ) (seen : List (Past (Cell R A))) (y z : Metaslab) → CameAt rack area x lock seen m y → CameAt rack area x lock seen m z → y ≡ z)
    (cell : UberCell R A) (turns : cell.turns.now ≡ locks) (groups_many : length cell.groups.items ≡ length locks) (u : State) (g : IsGoverned rack area x cell u)
    (owns : ℕ → Bool) (owned : owns groups_number ≡ true) (drifts : (m : ℕ) (lock : Lock (Cell R A)) (pass : Caller (Past (Cell R A))) (shard : Shard R A) → slice_get locks m ≡ Some lock → slice_get cell.groups.items m ≡ Some pass → slice_get shards m ≡ Some shard → Drifts rack area true owns (left_in lock pass.seen) shard) where
  -- one metaslab, as it was seen last by who governs, and as it is
  record Kept (m : ℕ) (z : Metaslab) : Type 0 where
    y : Metaslab
    there : slice_get u.metaslabs m ≡ Some y
    images : KeepsImages y.world z.world
    committed : z.world.committed ≡ u.committed

  kept : (m : ℕ) (z : Metaslab) → slice_get zs m ≡ Some z → Kept m z
  kept m z at =
      let f = final m z at in
      let inside = slice_get_within zs m z at in
      let pass = present cell.groups.items m (omega (arith, inside, zs_many, groups_many)) in
      let e = g.each m f.lock pass.0 (ap (λ ls. slice_get ls m) turns ∙ f.lock_is) pass.1 in
      let d = drifts m f.lock pass.0 f.shard f.lock_is pass.1 f.shard_is in
      let came = e.2.came in
      let goes : GoesOn rack area owns (part_in x m) came.pieces came.reached f.shard = d.state (part_in x m) came.pieces came.reached came.is in
      let y_is : came.reached ≡ e.0 = e.2.is in
      let z_is : goes.reached ≡ z = came_on rack area x locks shards zs zs_many shards_many final single m z f f.lock pass.0.seen came.reached (record { first = e.2.first; there = e.2.there; came = came; is = refl }) goes.reached goes.now goes.is goes.since in
      let was : came.reached.world.committed ≡ (left_in f.lock pass.0.seen).committed = came.is.stands.is_in.committed in
      let now : goes.reached.world.committed ≡ f.shard.committed = goes.is.stands.is_in.committed in
      let same : f.shard.committed ≡ (left_in f.lock pass.0.seen).committed = (d.groups owned).groups.committed in
      record {
        y = e.0;
        there = e.1;
        images = subst (λ (w : Metaslab × Metaslab). KeepsImages w.0.world w.1.world) (λ i. (y_is i, z_is i)) (goes.images owned);
        committed = ap (λ (w : Metaslab). w.world.committed) (sym z_is) ∙ (now ∙ (same ∙ (sym was ∙ (ap (λ (w : Metaslab). w.world.committed) y_is ∙ g.committed m e.0 e.1))));
      }

  -- the state of these metaslabs, with the uberblock's part
  module _ (store : Store) where
    abbrev now : State
    now = with_uber (record x { metaslabs = zs; store = store }) u

    pub end_committed : (m : ℕ) (y : Metaslab) → slice_get zs m ≡ Some y → y.world.committed ≡ u.committed
    end_committed m y at = (kept m y at).committed

    -- all but its metaslabs and what it has of its own
    u_is : record u { metaslabs = zs; store = store } ≡ now
    u_is = λ i. record u { metaslabs = zs; store = store; geometry = sym g.pool.geometry i; perms = sym g.pool.perms i; told = sym g.pool.told i }

    pub end_uber : store.marks ≡ u.store.marks → IsUber area cell.uber now
    end_uber marks = subst (IsUber area cell.uber) u_is (record {
      valid = g.uber.valid;
      layout = g.uber.layout;
      version = g.uber.version;
      kept = g.uber.kept;
      next_leaf = g.uber.next_leaf;
      point = λ group late. g.uber.point group late ∙ ap (λ ms. check_told ms group) (sym marks);
      late = λ group above. subst (λ ms. HasLateMark group ms ↔ (group < changed_of cell.uber)) (sym marks) (g.uber.late group above);
      count = g.uber.count;
      stands = record {
        pending = g.uber.stands.pending;
        are = g.uber.stands.are;
        stands = subst (λ ms. AreasStand (check_told ms) (kept_in u) g.uber.stands.pending (told_by area.told (areas_of cell.uber))) (sym marks) g.uber.stands.stands;
      };
    })

    pub end_images : HasImages now
    end_images group m y may some at = (let k = kept m y at in image_kept group k.y y k.images (g.images group m k.y may some k.there))

    pub end_leaves : HasLeafNumbers now
    end_leaves = record { order = g.leaves.order; each = λ m y at. (let k = kept m y at in leaves_kept u.kept_leaf u.next_leaf k.y.world y.world k.images (g.leaves.each m k.y k.there)) }

    pub end_alike : AllAlike g.shared now
    end_alike m y at = (let k = kept m y at in alike_stays g.shared k.y.world y.world k.images (g.alike m k.y k.there))

    pub end_switches : SwitchesAgree x → SwitchesAgree now
    end_switches agree leaf m n y z a b m_at n_at a_is b_is =
        let k = kept m y m_at in
        let l = kept n z n_at in
        offline_kept (k.y.world.core.arm (Leaf leaf)) (l.y.world.core.arm (Leaf leaf)) (y.world.core.arm (Leaf leaf)) (z.world.core.arm (Leaf leaf)) (k.images.arms.arms (Leaf leaf)) (l.images.arms.arms (Leaf leaf))
        (λ i j i_is j_is. g.switches agree leaf m n k.y l.y i j k.there l.there i_is j_is) a b a_is b_is
