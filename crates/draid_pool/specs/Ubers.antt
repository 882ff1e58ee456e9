-- What the uberblock of an open pool has, and what an import finds there and in the check records after a crash.
use Rattle.std.specs.Prelude.{◌≡◌, ◌<◌, ◌==◌, ◌+◌, ℕ, true, List, [], ◌∷◌, Option, Some, None, All, if◌then◌else◌, ◌↔◌, ◌≤◌}
use Rattle.draid_area.specs.declared.Area as areas
use Rattle.draid_record.specs.Checks.{CheckTold}
use Rattle.draid_record.specs.declared.uber.UberBody.{UberBody}
use Rattle.draid_machine.specs.declared.names.Key.{Key}
use Rattle.draid_objects.specs.Marks.{Dropped, GivenUp, Made, Mark, marks_upto}
use Rattle.draid_spec.specs.declared.layout.Geometry.{Geometry}
use Rattle.draid_uber.specs.declared.uber.Uber.{Uber}
use Rattle.draid_uber.specs.Checks.{AreasStand, AreasTold, LeavesAny, told_by}
use Rattle.draid_uber.specs.Points.{insert_drop, no_check}
use Rattle.draid_uber.specs.Uber.{Valid, areas_of, count_of, kept_of, layout_in, layout_of, next_check, next_leaf_of, next_of, point_of, version_of, changed_of}
use Rattle.draid_session.specs.Opening.{layout_at_version}
use Rattle.draid_session.specs.State.{State}
use Rattle.draid_session.specs.Points.{HasLateMark}

-- what a commit of a group writes, for a pool of this layout, at this version and with this number of the next leaf
abbrev pub body_of : Geometry → ℕ → ℕ → ℕ → UberBody
body_of geometry version group next_leaf = record { group = group; spec = geometry.spec; props = record geometry.props { version = version }; next_leaf = next_leaf }

-- what the committed group wrote; before the first there is none
abbrev pub kept_in : State → Option UberBody
kept_in x = if x.committed == 0 then None else Some (body_of x.geometry x.kept_version x.committed x.kept_leaf)

-- what a refused commit of the next group may have left
abbrev pub IsPending : State → UberBody → Type 0
IsPending x body = (x.pending ≡ true) × (body ≡ body_of x.geometry x.next_version (x.committed + 1) x.next_leaf)

-- ---- checkpoints

-- a check record with a further block
abbrev pub with_drop : Key → CheckTold → CheckTold
with_drop key value = record { group = value.group; drops = insert_drop (record { object = key.object; seq = key.seq }) value.drops }

-- what a check record says of the checkpoint that these marks leave
abbrev pub point_told : List Mark → CheckTold
point_told [] = no_check
point_told (Made group ∷ marks) = record { group = group; drops = [] }
point_told (Dropped key group ∷ marks) = with_drop key (point_told marks)
point_told (GivenUp group ∷ marks) = no_check

-- what that of a group says
unfoldable pub check_told : List Mark → ℕ → CheckTold
check_told marks group = point_told (marks_upto group marks)

-- ---- the uberblock

-- Whatever a crash leaves of a pool's own areas, an import finds the committed group there, or one of which a commit was refused, and the check record of the one
-- that it finds, which says what became of the checkpoint up to then.
pub record UberStands (x : State) (told : AreasTold) : Type 0 where
  pub pending : List UberBody
  pub are : All (IsPending x) pending
  pub stands : AreasStand (check_told x.store.marks) (kept_in x) pending told

-- the uberblock of an open pool, beside which the checkpoint is kept of which the next check records are written
pub record IsUber {A : Type 0} (area : areas.Ghosts A) (uber : Uber A) (x : State) : Type 0 where
  pub valid : Valid area.size uber
  pub layout : layout_of uber ≡ layout_at_version x.kept_version x.geometry
  pub version : version_of uber ≡ x.next_version
  pub kept : kept_of uber ≡ kept_in x
  pub next_leaf : next_leaf_of uber ≡ x.next_leaf
  pub point : (group : ℕ) → x.committed < group → next_check uber group ≡ check_told x.store.marks group
  pub late : (group : ℕ) → x.committed ≤ group → HasLateMark group x.store.marks ↔ (group < changed_of uber)
  pub count : x.uber_count ≡ count_of area.faults uber
  pub stands : UberStands x (told_by area.told (areas_of uber))

-- ---- commits

-- what a commit of a group did to it
pub record Names {A : Type 0} (area : areas.Ghosts A) (old new : Uber A) (group : ℕ) : Type 0 where
  pub valid : Valid area.size new
  pub stands : (check : ℕ → CheckTold) (pending : List UberBody) → check group ≡ next_check old group → AreasStand check (kept_of old) pending (told_by area.told (areas_of old)) → AreasStand check (Some (next_of old group)) [] (told_by area.told (areas_of new))
  pub kept : kept_of new ≡ Some (next_of old group)
  pub layout : layout_of new ≡ layout_in (layout_of old) (version_of old)
  pub version : version_of new ≡ version_of old
  pub next_leaf : next_leaf_of new ≡ next_leaf_of old
  pub point : point_of new ≡ point_of old
  pub changed : changed_of new ≡ changed_of old

-- and one that was refused
pub record Refuses {A : Type 0} (area : areas.Ghosts A) (old new : Uber A) (group : ℕ) : Type 0 where
  pub valid : Valid area.size new
  pub stands : (check : ℕ → CheckTold) (pending : List UberBody) → check group ≡ next_check old group → AreasStand check (kept_of old) pending (told_by area.told (areas_of old)) → LeavesAny check (kept_of old) (next_of old group ∷ pending) (told_by area.told (areas_of new))
  pub kept : kept_of new ≡ kept_of old
  pub layout : layout_of new ≡ layout_of old
  pub version : version_of new ≡ version_of old
  pub next_leaf : next_leaf_of new ≡ next_leaf_of old
  pub point : point_of new ≡ point_of old
  pub changed : changed_of new ≡ changed_of old
