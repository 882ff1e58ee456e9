-- One metaslab of a pool where a pass goes on, or is planned.
use Rattle.std.proofs.Common.{◌≡◌, ◌≤◌, ◌∙◌, inl, inr, ℕ, [], ◌∷◌, Option, Some, None, arith, refl, sym, ap, subst, min}
use Rattle.std.specs.Prelude.{Result, Ok, Err, option_map}
use Rattle.draid_names.specs.declared.pass_kind.PassKind.{PassKind}
use Rattle.draid_names.specs.declared.pass_kind.PassKind.TheVariants.{Heal, Rebuild}
use Rattle.draid_rack.specs.declared.Rack as racks
use Rattle.draid_area.specs.declared.Area as areas
use Rattle.draid_spec.specs.Geometry.{metaslab_stripes}
use Rattle.draid_machine.specs.declared.event.Event.TheVariants.{Plan}
use Rattle.draid_machine.specs.Arms.{targets_of}
use Rattle.draid_machine.specs.Fitting.{Fitting}
use Rattle.draid_machine.specs.State as machine
use Rattle.draid_machine.proofs.Fitted.{every_fit}
use Rattle.draid_segments.specs.Segments.{Pieces}
use Rattle.draid_entries.specs.History.{left_for_groups}
use Rattle.draid_pass.specs.declared.pass.Pass.{Pass}
use Rattle.draid_slots.specs.States.{pass_in}
use Rattle.draid_layouts.specs.Layout.{layout_of}
use Rattle.draid_plans.specs.Layout.{layout_with}
use Rattle.draid_plans.proofs.States.{none_there}
use Rattle.draid_shard.specs.Calls.{ActsOn, SameKit, SameReserve}
use Rattle.draid_shard.specs.Fits.{Valid}
use Rattle.draid_shard.specs.Part.{Part, layout_in}
use Rattle.draid_shard.specs.Rooms.{IsWornFor}
use Rattle.draid_shard.specs.States.{Does, DoesNone, layout_by, part_of}
use Rattle.draid_shard.specs.declared.shard.Shard.{Shard}
use Rattle.draid_shard.proofs.Homes.{lays}
use Rattle.draid_passing.specs.Passing.{IsLast, IsPlanRefused, LacksTarget, plan_events}
use Rattle.draid_passing.specs.declared.fault.PlanFault.{PlanFault}
use Rattle.draid_passing.specs.declared.fault.PlanFault.TheVariants as plan
use Rattle.draid_session.specs.Holds.{Looked, On, view_of}
use Rattle.draid_session.specs.Passes as passes
use Rattle.draid_session.specs.Phases.{End, Starved, WasLast, WasWorn}
use Rattle.draid_session.specs.State.{Metaslab}
use Rattle.draid_pool.specs.Metaslabs.{IsMetaslab}
use Rattle.draid_pool.specs.Shards.{Goes, SameBlocks}
use Rattle.draid_pool.proofs.Dids as dids
use Rattle.draid_pool.proofs.Dids.{none_here, raises_none}
use Rattle.draid_pool.proofs.OneHold.{looked, passes_is, worn_is}
use Rattle.draid_visits.specs.Steps.{StartIs}
use Rattle.draid_visits.proofs.PassSteps.{rebuild_did, rebuild_goes}

pub same_world : (x : Metaslab) → SameBlocks x x
same_world x = record { held = refl; committed = refl }

pass_same : (o : Option Pass) (p : Pass) → o ≡ Some p → (slots : _) → option_map (pass_in slots) o ≡ Some (pass_in slots p)
pass_same o p is slots = ap (option_map (pass_in slots)) is

module _ {R A : Type 0} (rack : racks.Ghosts R) (area : areas.Ghosts A) (part : Part) (pieces : Pieces) (shard : Shard R A) (x : Metaslab) (is : IsMetaslab rack area part pieces shard x) where
  -- what the pass of the shard is in its state
  pub pass_told : (p : Pass) → shard.pass ≡ Some p → x.world.core.pass ≡ Some (pass_in shard.slots p)
  pass_told p there = is.stands.is_in.pass ∙ pass_same shard.pass p there shard.slots

  pub none_told_here : shard.pass ≡ None → x.world.core.pass ≡ None
  none_told_here none = is.stands.is_in.pass ∙ ap (option_map (pass_in shard.slots)) none

  pub fits : Fitting (layout_in part) x.world
  fits = subst (λ p. Fitting (layout_in p) x.world) is.part_is (every_fit (layout_by shard) x.world (lays (part_of shard) is.valid.part) is.stands.reached)

  -- it stands within the metaslab
  pub place_low : (p : Pass) → shard.pass ≡ Some p → p.at ≤ metaslab_stripes shard.geometry
  place_low p there =
      subst (λ g. p.at ≤ metaslab_stripes g) (sym (ap (λ (q : Part). q.geometry) is.part_is)) ((fits.core.pass (pass_in shard.slots p) (pass_told p there)).next)

  -- ---- targets

  layout_is : layout_with shard.slots ≡ layout_by shard
  layout_is = λ i. layout_of (is.valid.slots.geometry_is i) (is.valid.slots.perms_are i) (is.valid.slots.metaslab_is i)

  -- where a plan would give it no target, it has none
  targets_none : LacksTarget shard.slots Rebuild → targets_of (layout_in part) x.world.core Rebuild ≡ []
  targets_none lacks =
      subst (λ p. targets_of (layout_in p) x.world.core Rebuild ≡ []) is.part_is
      (subst (λ (l : machine.Layout). targets_of l x.world.core Rebuild ≡ []) layout_is (none_there shard.slots x.world is.stands.is_in.slots [] Rebuild tt lacks.1))

  -- ---- it goes on

  abbrev Starts : PassKind → Shard R A → Result ℕ PlanFault → Type 0
  Starts kind new r = Goes rack area part pieces x new (λ holds y. StartIs part kind r holds × SameBlocks x y)

  pub goes_on : (kind : PassKind) (p : Pass) (at stripes : ℕ) → shard.pass ≡ Some p → p.kind ≡ kind → at ≡ min p.at stripes → stripes ≡ metaslab_stripes shard.geometry → Starts kind shard (Ok at)
  goes_on kind p at stripes there is_kind is_at many =
      looked rack area part pieces shard x (λ holds y. StartIs part kind (Ok at) holds × SameBlocks x y) is (
        inl (record {
          v = view_of part.number x;
          p = pass_in shard.slots p;
          are = refl;
          there = refl;
          pass = pass_told p there;
          kind_is = is_kind;
          at_is = (let low = place_low p there in omega (arith, low, is_at, many));
        }),
        same_world x,
      )

  -- ---- it is planned

  worn_told : IsWornFor shard plan_events → passes.PlanIsWorn part.geometry part.perms (view_of part.number x)
  worn_told worn = worn_is rack area part pieces shard x passes.plan_asks left_for_groups is worn

  told_worn : passes.PlanIsWorn part.geometry part.perms (view_of part.number x) → IsWornFor shard plan_events
  told_worn worn = passes_is rack area part pieces shard x passes.plan_asks left_for_groups is worn

  pub planned : (kind : PassKind) (new : Shard R A) → Valid rack new → Does shard new (Plan kind) → ActsOn rack shard new (Plan kind) pieces → SameKit shard new → SameReserve shard new → (IsWornFor shard plan_events → ⊥) → Starts kind new (Ok 0)
  planned kind new valid does acts kit reserve not_worn =
      let d : dids.Done rack area part pieces new (Plan kind) x
      = rebuild_did rack area part pieces shard new (Plan kind) x is valid does acts reserve (raises_none rack area shard new kit) tt in
      rebuild_goes rack area part pieces new (Plan kind) x (StartIs part kind (Ok 0)) tt d
      (inr (refl, record { v = view_of part.number x; after = d.reached.world; are = refl; there = refl; not_worn = λ worn. not_worn (told_worn worn) }))

  -- ---- it isn't

  cant_number : (kind : PassKind) → IsLast shard kind → passes.CantNumber kind (view_of part.number x)
  cant_number Rebuild (inl last) = inl (let same = is.stands.is_in.last in omega (arith, last, same))
  cant_number Rebuild (inr last) = inr (let same = is.stands.is_in.open_group_is in let end = last.1 in omega (arith, end, same))
  cant_number Heal (inl last) = (let same = is.stands.is_in.last in omega (arith, last, same))
  cant_number Heal (inr last) = absurd (let no = last.0 in cc)

  plans_none : (kind : PassKind) (end : End) → shard.pass ≡ None → passes.PlanStops part.geometry part.perms kind (view_of part.number x) end
      → passes.PlansNone part.geometry part.perms kind part.number (On (view_of part.number x) Looked ∷ []) end
  plans_none kind end none stops = record { v = view_of part.number x; are = refl; there = refl; idle = none_told_here none; stops = stops }

  not_planned : (kind : PassKind) (fault : PlanFault) → shard.pass ≡ None → IsPlanRefused shard kind fault → StartIs part kind (Err fault) (On (view_of part.number x) Looked ∷ [])
  not_planned kind (plan.PassRunning number) none why = absurd (let e = sym none ∙ why.1 in cc)
  not_planned kind plan.Nothing none why = (
    why.1.0,
    record {
      v = view_of part.number x;
      are = refl;
      there = refl;
      idle = none_told_here none;
      none = λ some. some (targets_none (refl, why.1.1));
    },
  )
  not_planned kind (plan.Worn events) none why = plans_none kind WasWorn none (worn_told why.2)
  not_planned kind plan.Last none why = plans_none kind WasLast none (λ worn. why.2 (told_worn worn), cant_number kind why.3)
  not_planned kind plan.NoMemory none why = plans_none kind Starved none tt

  pub refused : (kind : PassKind) (new : Shard R A) (fault : PlanFault) → shard.pass ≡ None → IsPlanRefused shard kind fault → Valid rack new → DoesNone shard new → SameKit shard new → SameReserve shard new → Starts kind new (Err fault)
  refused kind new fault none why valid same kit reserve =
      looked rack area part pieces new x (λ holds y. StartIs part kind (Err fault) holds × SameBlocks x y)
      (none_here rack area part pieces shard new x is valid same kit.rack kit.areas reserve.limit reserve.reserved) (not_planned kind fault none why, same_world x)
