-- A stripe of a rebuild is lent in a metaslab of a pool, solved, and lands.
use Rattle.std.proofs.Common.{◌≡◌, ◌<◌, ◌≤◌, ◌+◌, ◌∙◌, false, [], ◌∷◌, ℕ, Option, Some, None, arith, refl, sym, ap, subst, true}
use Rattle.std.specs.Prelude.{IfSome, IsSome, IsSomeAnd, option_map}
use Rattle.draid_names.specs.declared.pass_kind.PassKind.TheVariants.{Rebuild}
use Rattle.draid_rack.specs.Rack.{OnTold}
use Rattle.draid_rack.specs.declared.Rack as racks
use Rattle.draid_area.specs.declared.Area as areas
use Rattle.draid_spec.specs.declared.layout.Geometry.{Geometry}
use Rattle.draid_spec.specs.Geometry.{metaslab_stripes}
use Rattle.draid_parity.specs.Columns.{StripeValue}
use Rattle.draid_machine.specs.declared.event.Event.TheVariants.{LandStripe, Lend}
use Rattle.draid_segments.specs.Segments.{Pieces}
use Rattle.draid_entries.specs.History.{limit_in, reserved_of}
use Rattle.draid_pass.specs.declared.pass.Pass.{Pass}
use Rattle.draid_shard.specs.Calls.{SameAreas, SameReserve}
use Rattle.draid_shard.specs.Fits.{Valid}
use Rattle.draid_shard.specs.Lends.{GoesOnAt, lend_events}
use Rattle.draid_shard.specs.Loans.{IsKept, IsLentStripe}
use Rattle.draid_shard.specs.Part.{Part, layout_in}
use Rattle.draid_shard.specs.Rooms.{IsWornFor}
use Rattle.draid_shard.specs.States.{DoesNone, part_of}
use Rattle.draid_shard.specs.declared.loan.KeptLoan.{KeptLoan}
use Rattle.draid_shard.specs.declared.loan.KeptLoan.TheVariants.{Block, Stripe}
use Rattle.draid_shard.specs.declared.loan.LentStripe.{LentStripe}
use Rattle.draid_shard.specs.declared.shard.Shard.{Shard}
use Rattle.draid_mend.specs.Lands as lands
use Rattle.draid_mend.specs.Lands.{IsSolvable, KeptStands, MovesOver}
use Rattle.draid_mend.specs.Loans.{IsRunningRebuild, LendsUnit}
use Rattle.draid_mend.specs.Missing.{SolvesLoan}
use Rattle.draid_mend.proofs.Chained.{loan_is_right}
use Rattle.draid_session.specs.Holds.{Did, On, view_of}
use Rattle.draid_session.specs.State.{Metaslab}
use Rattle.draid_pool.specs.Metaslabs.{IsMetaslab}
use Rattle.draid_pool.specs.Shards.{Goes, SameBlocks}
use Rattle.draid_pool.proofs.Dids as dids
use Rattle.draid_pool.proofs.Dids.{none_here}
use Rattle.draid_pool.proofs.Imaged.{keeps_then}
use Rattle.draid_visits.specs.Steps.{MovesOn, NextIs}
use Rattle.draid_visits.specs.declared.steps.Next.TheVariants as next
use Rattle.draid_visits.proofs.Contents.{known_content}
use Rattle.draid_visits.proofs.Landed.{landed_at}
use Rattle.draid_visits.proofs.Over.{told_worn}
use Rattle.draid_visits.proofs.PassSteps.{raised, rebuild_did, rebuild_leaves}
use Rattle.draid_machine.specs.declared.names.Key.{Key}
use Rattle.draid_machine.specs.declared.names.Held.{Held}
use Rattle.draid_machine.specs.Names.{is_block}
use Rattle.draid_slots.specs.States.{pass_in}
use Rattle.draid_pool.proofs.Turns.{state_sound}

-- ---- where the pass stands then

-- the rebuild that runs
pub record Running (o : Option Pass) : Type 0 where
  pub pass : Pass
  pub there : o ≡ Some pass
  pub is : IsRunningRebuild pass

pub running_of : (o : Option Pass) → IsSomeAnd o IsRunningRebuild → Running o
running_of None is = absurd is
running_of (Some p) is = record { pass = p; there = refl; is = is }

-- no column is rewritten
pub landed_none : (repaired : ℕ) → next.Landed 0 ≡ next.Landed repaired → repaired ≡ 0
landed_none repaired is = cc

-- what is kept of a loan is there still when it is solved
pub solved_kept : (geometry : Geometry) (o new : Option KeptLoan) (k : LentStripe) → o ≡ Some (Stripe k) → SolvesLoan geometry o new → (solved : StripeValue) × (new ≡ Some (Stripe (record k { columns = solved })))
solved_kept geometry None new k is solves = absurd (cc)
solved_kept geometry (Some (Block j)) new k is solves = absurd (cc)
solved_kept geometry (Some (Stripe j)) new k is solves = (solves.0, solves.1 ∙ ap (λ (z : LentStripe). Some (Stripe (record z { columns = solves.0 }))) (one j k is))
  where
    one : (a b : LentStripe) → Some (Stripe a) ≡ Some (Stripe b) → a ≡ b
    one a b e = cc

moved : (o : Option KeptLoan) (k : LentStripe) (a b : Option Pass) (p : Pass) → o ≡ Some (Stripe k) → a ≡ Some p → MovesOver o a b → (q : Pass) × (b ≡ Some q) × GoesOnAt (k.stripe + 1) p q
moved o k a None p loan was moves = absurd (subst (λ z. MovesOver z (Some p) None) loan (subst (λ z. MovesOver o z None) was moves))
moved o k a (Some q) p loan was moves = (q, refl, subst (λ z. MovesOver z (Some p) (Some q)) loan (subst (λ z. MovesOver o z (Some q)) was moves))

module _ {R A : Type 0} (rack : racks.Ghosts R) (old lent solved new : Shard R A) (running : IsSomeAnd old.pass IsRunningRebuild) (unit : LendsUnit rack old lent) (stays : lent.pass ≡ old.pass)
    (lent_valid : Valid rack lent) (only : solved ≡ record lent { kept = solved.kept }) (solves : SolvesLoan lent.geometry lent.kept solved.kept) where
  pub solved_runs : IsSomeAnd solved.pass IsRunningRebuild
  solved_runs = subst (λ (s : Shard R A). IsSomeAnd s.pass IsRunningRebuild) (sym only) (subst (λ o. IsSomeAnd o IsRunningRebuild) (sym stays) running)

  pub solved_there : (columns : StripeValue) × (solved.kept ≡ Some (Stripe (record unit.kept { columns = columns })))
  solved_there = solved_kept lent.geometry lent.kept solved.kept unit.kept unit.kept_is solves

  pub solved_some : IsSome solved.kept
  solved_some = subst IsSome (sym solved_there.1) refl

  inside : unit.kept.stripe < metaslab_stripes lent.geometry
  inside = (kept_in lent.kept unit.kept unit.kept_is lent_valid.kept).inside
    where
      kept_in : (o : Option KeptLoan) (k : LentStripe) → o ≡ Some (Stripe k) → IfSome o (IsKept lent.geometry lent.pass) → IsLentStripe lent.geometry lent.pass k
      kept_in o k is has = subst (λ z. IfSome z (IsKept lent.geometry lent.pass)) is has

  behind : (p : Pass) → old.pass ≡ Some p → p.at ≤ unit.kept.stripe
  behind p there = subst (λ o. IfSome o (λ (z : Pass). z.at ≤ unit.kept.stripe)) there unit.behind

  pub moves_on : part_of new ≡ part_of solved → MovesOver solved.kept solved.pass new.pass → MovesOn Rebuild old new
  moves_on part moves =
      let z = running_of old.pass running in
      let there : solved.pass ≡ Some z.pass = ap (λ (s : Shard R A). s.pass) only ∙ (stays ∙ z.there) in
      let q = moved solved.kept (record unit.kept { columns = solved_there.0 }) solved.pass new.pass z.pass solved_there.1 there moves in
      let same : new.geometry ≡ lent.geometry = ap (λ (p : Part). p.geometry) part ∙ ap (λ (s : Shard R A). s.geometry) only in
      let at = q.2.at in
      let low = behind z.pass z.there in
      let high = inside in
      record {
        was = z.pass;
        pass = q.0;
        old_pass = z.there;
        new_pass = q.1;
        runs = record { kind_is = q.2.kind ∙ z.is.rebuild; running = q.2.running ∙ z.is.running };
        behind = omega (arith, at, low);
        inside = subst (λ g. q.0.at ≤ metaslab_stripes g) (sym same) (omega (arith, at, high));
      }

-- where a rebuild runs no write is under way
pub no_ticket : {R A : Type 0} (rack : racks.Ghosts R) (area : areas.Ghosts A) (part : Part) (pieces : Pieces) (shard : Shard R A) (y : Metaslab) → IsMetaslab rack area part pieces shard y → IsSomeAnd shard.pass IsRunningRebuild
    → (key : Key) (held : Held) → y.world.core.held key ≡ Some held → is_block held.stage ≡ true
no_ticket rack area part pieces shard y is running key held at =
    let z = running_of shard.pass running in
    let there : y.world.core.pass ≡ Some (pass_in shard.slots z.pass) = is.stands.is_in.pass ∙ ap (option_map (pass_in shard.slots)) z.there in
    ((state_sound rack area part pieces shard y is).core.quiet (pass_in shard.slots z.pass) key held there z.is.rebuild z.is.running at).0

-- ---- the metaslab

module _ {R A : Type 0} (rack : racks.Ghosts R) (area : areas.Ghosts A) (old lent solved new : Shard R A) (running : IsSomeAnd old.pass IsRunningRebuild)
    (unit : LendsUnit rack old lent) (lent_valid : Valid rack lent) (lent_areas : SameAreas old lent) (told : rack.told lent.rack ≡ rack.told old.rack) (lent_reserve : SameReserve old lent)
    (not_worn : IsWornFor old (lend_events old.kept) → ⊥)
    (solved_valid : Valid rack solved) (only : solved ≡ record lent { kept = solved.kept }) (none : DoesNone lent solved) (solves : SolvesLoan lent.geometry lent.kept solved.kept)
    (new_valid : Valid rack new) (new_areas : SameAreas solved new) (landed : lands.LandsUnit rack solved new) (new_reserve : SameReserve solved new)
    (part : Part) (pieces : Pieces) (x : Metaslab) (is : IsMetaslab rack area part pieces old x) where
  first : dids.Done rack area part pieces lent (Lend unit.failed) x
  first = rebuild_did rack area part pieces old lent (Lend unit.failed) x is lent_valid unit.does (unit.acts pieces) lent_reserve (raised rack area unit.failed.items old lent lent_areas unit.counts) tt

  abbrev y : Metaslab
  y = first.reached

  mid : IsMetaslab rack area part pieces solved y
  mid =
      none_here rack area part pieces lent solved y first.is solved_valid none (ap (λ (s : Shard R A). s.rack) only)
      (record { even = ap (λ (s : Shard R A). s.even) only; odd = ap (λ (s : Shard R A). s.odd) only }) (ap (λ (s : Shard R A). limit_in s.history) only) (ap (λ (s : Shard R A). reserved_of s.history) only)

  solves_old : SolvesLoan old.geometry lent.kept solved.kept
  solves_old = subst (λ g. SolvesLoan g lent.kept solved.kept) (ap (λ (p : Part). p.geometry) unit.does.part) solves

  right : IsSolvable part.geometry landed.kept → OnTold (rack.told solved.rack) (KeptStands part y.world landed.kept pieces)
  right = loan_is_right rack part old lent solved x.world y.world pieces landed.kept unit is.part_is is.valid lent_valid running is.stands (λ k h at. known_content rack area part pieces old x k h is (no_ticket rack area part pieces old x is running k h at) at) told first.step first.is.stands.is_in solves_old only landed.kept_is

  right_here : IsSolvable solved.geometry landed.kept → OnTold (rack.told solved.rack) (KeptStands (part_of solved) y.world landed.kept pieces)
  right_here = subst (λ p. IsSolvable p.geometry landed.kept → OnTold (rack.told solved.rack) (KeptStands p y.world landed.kept pieces)) (sym mid.part_is) right

  second : dids.Done rack area part pieces new (LandStripe landed.pass.number landed.kept.serial landed.failed) y
  second =
      landed_at rack area part pieces solved new (LandStripe landed.pass.number landed.kept.serial landed.failed) y mid new_valid landed.does new_reserve
      (raised rack area landed.failed.items solved new new_areas landed.counts) tt (λ after step. landed.acts pieces y.world after step mid.stands.reached mid.stands.is_in right_here)

  pub unit_goes : Goes rack area part pieces x new (λ holds v. NextIs part Rebuild false (next.Landed 0) holds × SameBlocks x v)
  unit_goes =
      let one = rebuild_leaves (layout_in part) x.world y.world (Lend unit.failed) first.step tt in
      let two = rebuild_leaves (layout_in part) y.world second.reached.world (LandStripe landed.pass.number landed.kept.serial landed.failed) second.step tt in
      record {
        holds = On (view_of part.number x) (Did (Lend unit.failed) y.world) ∷ (On (view_of part.number y) (Did (LandStripe landed.pass.number landed.kept.serial landed.failed) second.reached.world) ∷ []);
        reached = second.reached;
        follows = (
          Did (Lend unit.failed) y.world,
          y,
          refl,
          first.acts,
          (Did (LandStripe landed.pass.number landed.kept.serial landed.failed) second.reached.world, second.reached, refl, second.acts, refl),
        );
        images = keeps_then x.world y.world second.reached.world one.images two.images;
        done = (
          (
            refl,
            record {
              v = view_of part.number x;
              u = view_of part.number y;
              failed = unit.failed;
              lent = y.world;
              e = LandStripe landed.pass.number landed.kept.serial landed.failed;
              landed = second.reached.world;
              are = refl;
              there = (refl, refl);
              not_worn = λ worn. not_worn (told_worn rack area part pieces old x is worn);
              lands = refl;
              why = tt;
              sourced = tt;
              needed = tt;
            },
          ),
          record { held = two.held ∙ one.held; committed = two.committed ∙ one.committed },
        );
        is = second.is;
      }
