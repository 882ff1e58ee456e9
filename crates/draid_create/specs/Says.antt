-- What becomes of a pool that is to be made, and of the shelf, and what the reply says.
use Rattle.std.specs.Prelude.{◌≡◌, ◌⊎◌, ⊤, ℕ, List, Option, Some, None, Result, Ok, Err, string_bytes}
use Rattle.draid_names.specs.Faults.{Rose}
use Rattle.draid_names.specs.declared.fault.Failed.{Failed}
use Rattle.draid_rack.specs.declared.Rack as racks
use Rattle.draid_area.specs.declared.Area as areas
use Rattle.draid_spec.specs.declared.layout.Geometry.{Geometry}
use Rattle.draid_spec.specs.declared.layout.Props.{Props}
use Rattle.draid_spec.specs.declared.spec.Spec.{Spec}
use Rattle.draid_spec.specs.declared.spec.SpecFault.{SpecFault}
use Rattle.draid_spec.specs.Geometry.{geometry_of, pool_stripes}
use Rattle.draid_spec.specs.Text.{spec_by}
use Rattle.draid_script.specs.declared.line.PoolKeys.{PoolKeys}
use Rattle.draid_script.specs.declared.name.CommandName.TheVariants as name
use Rattle.draid_reply.specs.declared.reply.Reply.{Reply}
use Rattle.draid_reply.specs.declared.reply.Reply.TheVariants as replies
use Rattle.draid_session.specs.Making.{props_of, vdev_name_of}
use Rattle.draid_pool.specs.Shelves.{OnShelf}
use Rattle.draid_pool.specs.Taking.{IsAsBefore}
use Rattle.draid_pool.specs.Whole.{IsWhole}
use Rattle.draid_pool.specs.declared.pool.Pool.{Pool}
use Rattle.draid_create.specs.Opening.{HasLayout, NewPoolFailed, Opens, SameLeaves, ShelfIs}
use Rattle.draid_create.specs.declared.fault.CreateFault.{CreateFault}
use Rattle.draid_create.specs.declared.fault.CreateFault.TheVariants as fault
use Rattle.draid_create.specs.declared.replies.Made.{Made}

-- ---- the shelf

-- it holds just what it held
abbrev pub IsSame : OnShelf → OnShelf → Type 0
IsSame old new = IsAsBefore old.held new.held old.counts new.counts old.own new.own × SameLeaves old.leaves new.leaves

-- A pool of this layout was to be made, and the shelf failed: its count rose, or it holds the new pool's devices, on an area of which a call has failed.
abbrev pub MakingFailed : Geometry → OnShelf → OnShelf → Type 0
MakingFailed geometry before now = Rose before.faults now.faults ⊎ NewPoolFailed geometry now.held now.leaves now.counts now.own

-- ---- the pool

-- a pool was opened, which has this name and so many stripes
pub record OpensAs {R A : Type 0} (rack : racks.Ghosts R) (area : areas.Ghosts A) (spec : Spec) (props : Props) (now : OnShelf) (made : Made) (pool : Pool R A) : Type 0 where
  pub geometry : Geometry
  pub layout : geometry_of spec props ≡ Ok geometry
  pub opens : Opens rack area geometry now.held pool
  pub name_is : string_bytes made.name ≡ vdev_name_of spec
  pub stripes_are : made.stripes ≡ pool_stripes geometry

-- the pool, by the answer; where it is that the shelf failed, the shelf did, or an area of the pool that was made
abbrev pub PoolIs : {R A : Type 0} → racks.Ghosts R → areas.Ghosts A → Spec → Props → OnShelf → OnShelf → Option (Pool R A) → Result Made CreateFault → Type 0
PoolIs rack area spec props before now None (Ok made) = ⊥
PoolIs rack area spec props before now (Some pool) (Ok made) = IsWhole rack area pool × OpensAs rack area spec props now made pool
PoolIs rack area spec props before now pool (Err (fault.Spec why)) = (geometry_of spec props ≡ Err why) × (pool ≡ None)
PoolIs rack area spec props before now pool (Err fault.Shelf) = (pool ≡ None) × (geometry : Geometry) × (geometry_of spec props ≡ Ok geometry) × MakingFailed geometry before now
PoolIs rack area spec props before now pool (Err fault.NoMemory) = HasLayout spec props × (pool ≡ None)

pub record MakeIs {R A : Type 0} (rack : racks.Ghosts R) (area : areas.Ghosts A) (spec : Spec) (props : Props) (before now : OnShelf) (pool : Option (Pool R A)) (result : Result Made CreateFault) : Type 0 where
  pub pool_is : PoolIs rack area spec props before now pool result
  pub shelf : ShelfIs spec props before.held now.held before.leaves now.leaves before.counts now.counts before.own now.own result

-- ---- the reply

-- What was made of a spec that was read; or the spec couldn't be read, and all is as it was.
abbrev pub CreateDoes : {R A : Type 0} → racks.Ghosts R → areas.Ghosts A → PoolKeys → OnShelf → OnShelf → Option (Pool R A) → Result Spec SpecFault → Result Made CreateFault → Type 0
CreateDoes rack area keys before now pool (Ok spec) answer = MakeIs rack area spec (props_of keys) before now pool answer
CreateDoes rack area keys before now pool (Err why) answer = (answer ≡ Err (fault.Spec why)) × (pool ≡ None) × (now ≡ before)

-- a reply is that of an answer. There is none where a device failed
abbrev pub IsCreateReply : Result Made CreateFault → Result Reply Failed → Type 0
IsCreateReply (Ok made) said = said ≡ Ok (replies.Created made.name made.stripes)
IsCreateReply (Err (fault.Spec why)) said = said ≡ Ok (replies.CreateRefused why)
IsCreateReply (Err fault.NoMemory) said = said ≡ Ok (replies.NoMemory name.Create)
IsCreateReply (Err fault.Shelf) (Ok reply) = ⊥
IsCreateReply (Err fault.Shelf) (Err failed) = ⊤

-- the call did what its answer says, and the reply is that of the answer
abbrev pub CreateSays : {R A : Type 0} → racks.Ghosts R → areas.Ghosts A → List ℕ → ℕ → PoolKeys → OnShelf → OnShelf → Option (Pool R A) → Result Reply Failed → Type 0
CreateSays rack area text children keys before now pool said =
    (answer : Result Made CreateFault) × IsCreateReply answer said × CreateDoes rack area keys before now pool (spec_by text children keys.version) answer
