-- A pool was made on a shelf, or none was, in the words of a shelf and a pool.
use Rattle.std.proofs.Common.{◌≡◌, ◌≤◌, ◌∙◌, inl, ℕ, List, Option, Some, None, Result, Ok, Err, arith, refl, sym, ap, subst}
use Rattle.std.specs.Prelude.{string_bytes}
use Rattle.draid_rack.specs.declared.Rack as racks
use Rattle.draid_area.specs.declared.Area as areas
use Rattle.draid_spec.specs.declared.layout.Geometry.{Geometry}
use Rattle.draid_spec.specs.declared.layout.Props.{Props}
use Rattle.draid_spec.specs.declared.spec.Spec.{Spec}
use Rattle.draid_spec.specs.declared.spec.SpecFault.{SpecFault}
use Rattle.draid_spec.specs.Geometry.{geometry_of, pool_stripes}
use Rattle.draid_spec.specs.Text.{spec_by}
use Rattle.draid_names.specs.declared.fault.Failed.{Failed}
use Rattle.draid_script.specs.declared.line.PoolKeys.{PoolKeys}
use Rattle.draid_reply.specs.declared.reply.Reply.{Reply}
use Rattle.draid_reply.specs.declared.reply.Reply.TheVariants.{CreateRefused}
use Rattle.draid_session.specs.Making.{props_of, vdev_name_of}
use Rattle.draid_pool.specs.Shelves.{OnShelf}
use Rattle.draid_pool.specs.Whole.{IsWhole}
use Rattle.draid_pool.specs.declared.pool.Pool.{Pool}
use Rattle.draid_create.specs.Opening as opening
use Rattle.draid_create.specs.Opening.{ShelfIs}
use Rattle.draid_create.specs.Says.{CreateDoes, CreateSays, IsCreateReply, IsSame, MakeIs}
use Rattle.draid_create.specs.declared.fault.CreateFault.{CreateFault}
use Rattle.draid_create.specs.declared.fault.CreateFault.TheVariants as fault
use Rattle.draid_create.specs.declared.replies.Made.{Made}

pub same_later : (n : ℕ) → n ≤ n
same_later n = omega arith

abbrev laid_out : Geometry → Result Geometry SpecFault
laid_out layout = Ok layout

same_layout : (a b : Geometry) → laid_out a ≡ Ok b → a ≡ b
same_layout a b is = cc is

-- what becomes of the devices as none is made
module _ {R A : Type 0} (rack : racks.Ghosts R) (area : areas.Ghosts A) where
  module _ (spec : Spec) (props : Props) (before : OnShelf) (desk : Option (Pool R A)) where
    abbrev unmade : IsSame before before
    unmade = (record { held = refl; counts = λ m. refl; uber = refl; checks = refl }, λ m. refl)

    pub make_refused : (why : SpecFault) → geometry_of spec props ≡ Err why → desk ≡ None → MakeIs rack area spec props before before desk (Err (fault.Spec why))
    make_refused why is none = record { pool_is = (is, none); shelf = unmade }

    pub make_unnamed : (geometry : Geometry) → geometry_of spec props ≡ Ok geometry → desk ≡ None → MakeIs rack area spec props before before desk (Err fault.NoMemory)
    make_unnamed geometry is none = record { pool_is = ((geometry, is), none); shelf = inl unmade }

    module _ (now : OnShelf) where
      pub make_failed : (why : CreateFault) → opening.CreateIs {R = R} {A = A} rack area spec props now.held now.leaves before.faults now.faults now.counts now.own (Err why)
          → ShelfIs {P = Pool R A} spec props before.held now.held before.leaves now.leaves before.counts now.counts before.own now.own (Err why) → desk ≡ None → MakeIs rack area spec props before now desk (Err why)
      make_failed (fault.Spec why) answer shelf none = record { pool_is = (answer, none); shelf = shelf }
      make_failed fault.Shelf answer shelf none = record { pool_is = (none, answer.0, answer.1, answer.2); shelf = shelf }
      make_failed fault.NoMemory answer shelf none = record { pool_is = (answer, none); shelf = shelf }

      pub make_opened : (pool : Pool R A) (layout : Geometry) (called : Made) → geometry_of spec props ≡ Ok layout → string_bytes called.name ≡ vdev_name_of spec → called.stripes ≡ pool_stripes layout → IsWhole rack area pool
          → opening.CreateIs {R = R} {A = A} rack area spec props now.held now.leaves before.faults now.faults now.counts now.own (Ok pool)
          → ShelfIs {P = Pool R A} spec props before.held now.held before.leaves now.leaves before.counts now.counts before.own now.own (Ok pool) → MakeIs rack area spec props before now (Some pool) (Ok called)
      make_opened pool layout called is named stripes whole answer shelf = record {
        pool_is = (whole, record { geometry = answer.0; layout = answer.1; opens = answer.2; name_is = named; stripes_are = stripes ∙ ap pool_stripes (same_layout layout answer.0 (sym is ∙ answer.1)) });
        shelf = shelf;
      }

  -- ---- the reply

  module _ (text : List ℕ) (children : ℕ) (keys : PoolKeys) (before now : OnShelf) (pool : Option (Pool R A)) where
    pub says_unread : (why : SpecFault) → Err why ≡ spec_by text children keys.version → pool ≡ None → now ≡ before → CreateSays rack area text children keys before now pool (Ok (CreateRefused why))
    says_unread why read none same =
        (Err (fault.Spec why), refl, subst (λ r. CreateDoes rack area keys before now pool r (Err (fault.Spec why))) read (refl, none, same))

    pub says_made : (spec : Spec) (props : Props) (result answer : Result Made CreateFault) (said : Result Reply Failed) → Ok spec ≡ spec_by text children keys.version → props ≡ props_of keys → result ≡ answer
        → IsCreateReply answer said → MakeIs rack area spec props before now pool result → CreateSays rack area text children keys before now pool said
    says_made spec props result answer said read same is replies makes =
        let named : MakeIs rack area spec (props_of keys) before now pool result = subst (λ (p : Props). MakeIs rack area spec p before now pool result) same makes in
        (answer, replies, subst (λ r. CreateDoes rack area keys before now pool r answer) read (subst (λ a. MakeIs rack area spec (props_of keys) before now pool a) is named))
