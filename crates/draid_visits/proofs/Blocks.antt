-- A block of a scrub is lent in a metaslab of a pool, restored, and lands.
use Rattle.std.proofs.Common.{◌≡◌, ◌<◌, ◌≤◌, ◌+◌, ◌*◌, ◌^◌, ◌⊎◌, ◌∙◌, inl, inr, [], ◌∷◌, ◌++◌, ℕ, Bool, true, false, List, Option, Some, None, arith, refl, sym, ap, subst, length, if◌then◌else◌, min, suc, zero}
use Rattle.std.specs.Prelude.{IfSome, IsSomeAnd, OnOk, Result, Ok, Err, is_err, is_none, option_map, slice_index, slice_index_or, IsSome}
use Rattle.std.proofs.lemmas.Bool.{true≢false}
use Rattle.std.proofs.lemmas.List.Sums.{count_by-le-length}
use Rattle.sha2.specs.Sha256.{sha256}
use Rattle.draid_gf.specs.Field.{IsByte}
use Rattle.draid_names.specs.declared.pass_kind.PassKind.TheVariants.{Heal}
use Rattle.draid_names.specs.declared.pointer.Pointer.{Pointer}
use Rattle.draid_rack.specs.Rack.{OnBothTold, OnTold}
use Rattle.draid_rack.specs.declared.Rack as racks
use Rattle.draid_area.specs.declared.Area as areas
use Rattle.draid_spec.specs.declared.layout.Geometry.{Geometry}
use Rattle.draid_spec.specs.Geometry.{IsGeometry, metaslab_stripes}
use Rattle.draid_parity.specs.Columns.{column_at}
use Rattle.draid_block.specs.Blocks.{AreColumns, BlockValue, cut_of}
use Rattle.draid_machine.specs.declared.event.Event.{Event}
use Rattle.draid_machine.specs.declared.event.Event.TheVariants.{LandBlock, Lend}
use Rattle.draid_machine.specs.declared.names.Held.{Held}
use Rattle.draid_machine.specs.declared.names.Key.{Key}
use Rattle.draid_machine.specs.declared.names.ArmName.{ArmName}
use Rattle.draid_machine.specs.declared.event.Patched.{Patched}
use Rattle.draid_machine.specs.Names.{any_below, count_below, is_block, key_eq}
use Rattle.draid_machine.specs.After.{has_landed, rewritten}
use Rattle.draid_machine.specs.State as machine
use Rattle.draid_machine.specs.Step.{Step}
use Rattle.draid_machine.proofs.Small.{key_refl, key_true, some_same}
use Rattle.draid_segments.specs.Acts as segments
use Rattle.draid_segments.specs.Segments.{Backed, Pieces}
use Rattle.draid_segments.proofs.Whole.{event_backed}
use Rattle.draid_entries.specs.History.{limit_in, reserved_of}
use Rattle.draid_entries.specs.Maps.{held_at, key_of, staged}
use Rattle.draid_pass.specs.declared.pass.Pass.{Pass}
use Rattle.draid_shard.specs.Calls.{SameAreas, SameReserve}
use Rattle.draid_shard.specs.Columns.{ArePieces, row_bytes}
use Rattle.draid_shard.specs.Fits.{Valid}
use Rattle.draid_shard.specs.Lends.{GoesOnAt, lend_events}
use Rattle.draid_shard.specs.Loans.{IsKept, IsLentBlock, block_loan, loan_in}
use Rattle.draid_shard.specs.Part.{Part, layout_in}
use Rattle.draid_shard.specs.Rooms.{IsWornFor}
use Rattle.draid_shard.specs.States.{DoesNone, layout_by, part_of, stored_in}
use Rattle.draid_shard.specs.declared.loan.KeptLoan.{KeptLoan}
use Rattle.draid_shard.specs.declared.loan.KeptLoan.TheVariants.{Block}
use Rattle.draid_shard.specs.declared.loan.LentBlock.{LentBlock}
use Rattle.draid_shard.specs.declared.shard.Shard.{Shard}
use Rattle.draid_shard.proofs.Held.{key_leads}
use Rattle.draid_shard.proofs.Standing.{has_layout}
use Rattle.draid_heal.specs.Lands as lands
use Rattle.draid_heal.specs.Lands.{MovesBehind, WritesRestored}
use Rattle.draid_shard.specs.Scrubs.{IsBlockHere, IsLentHere, IsRunningScrub}
use Rattle.draid_restore.specs.Loans.{LendsBlock, counted}
use Rattle.draid_restore.specs.Restoring.{AnswersBlock, HasColumnsOf, RestoresLent, RestoresLoan, fetched_of}
use Rattle.draid_session.specs.Holds.{Did, On, view_of}
use Rattle.draid_session.specs.Passes as passes
use Rattle.draid_session.specs.State.{Metaslab}
use Rattle.draid_pool.specs.Metaslabs.{IsMetaslab}
use Rattle.draid_pool.specs.Shards.{FollowsIn, Goes, GoesLater, SameBlocks}
use Rattle.draid_pool.proofs.Dids as dids
use Rattle.draid_pool.proofs.Dids.{none_here}
use Rattle.draid_pool.proofs.Imaged.{keeps_then}
use Rattle.draid_pool.specs.Bytes.{HasBytes, KeepsContents, KnowsBlocks, SamePieces}
use Rattle.draid_visits.specs.Pieces.{GoesTo}
use Rattle.draid_visits.specs.Steps.{HadContents, MovesOn, NextIs, TellsLanding}
use Rattle.draid_visits.specs.declared.steps.Next.{Next}
use Rattle.draid_visits.specs.declared.steps.Next.TheVariants as next
use Rattle.draid_visits.proofs.Beyond.{beyond, no_block}
use Rattle.draid_visits.proofs.Landed.{Lands, landed_to, told_on}
use Rattle.draid_visits.proofs.Lifting.{contents_by}
use Rattle.draid_visits.proofs.Needed.{needed}
use Rattle.draid_visits.proofs.Over.{told_worn}
use Rattle.draid_visits.proofs.Sourced.{sourced}
use Rattle.draid_visits.proofs.Started.{fits}
use Rattle.draid_visits.proofs.PassSteps.{Leaves, block_leaves, pieces_either, raised, rebuild_did, rebuild_leaves}
use Rattle.draid_pool.proofs.Bytes.{same_bytes}

pub on_ok : {T E : Type 0} (r : Result T E) (P : Type 0) → is_err r ≡ false → OnOk r P → P
on_ok (Ok x) P is holds = holds
on_ok (Err e) P is holds = absurd (true≢false is)

pub landed_is : (told repaired : ℕ) → next.Landed told ≡ next.Landed repaired → repaired ≡ told
landed_is told repaired is = cc

pub never_landed : (came : Next) (repaired : ℕ) → (came ≡ next.Paused) ⊎ ((errors : ℕ) × (came ≡ next.Ended errors)) → came ≡ next.Landed repaired → ⊥
never_landed came repaired (inl paused) landed = absurd (cc)
never_landed came repaired (inr ended) landed = (let e = ended.1 in absurd (cc))

pub few_rewritten : (repaired told least : ℕ) → repaired ≡ least → least ≡ min told (2 ^ 8) → repaired ≤ 2 ^ 8
few_rewritten repaired told least same is = omega (arith, same, is)

-- each column is on three arms at most
rewritten_low : (l : machine.Layout) (q : machine.Core) (h : Held) (patched : List Patched) (n : ℕ) → ((c : ℕ) → length (q.order c) ≤ 3) → rewritten l q h patched n ≤ n * 3
rewritten_low l q h patched zero three = omega arith
rewritten_low l q h patched (suc c) three =
    let below = rewritten_low l q h patched c three in
    let here = count_by-le-length (λ (m : ArmName). any_below h.stripes (has_landed patched c m)) (q.order (l.slot_of h.first c)) in
    let few = three (l.slot_of h.first c) in
    omega (arith, below, here, few)

few_columns : (geometry : Geometry) → IsGeometry geometry → geometry.g ≤ 64
few_columns geometry is = (let width = is.width in let disks = is.disks in let most = is.spec.most_children in omega (arith, width, disks, most))

-- ---- what is kept

block_is : (a b : LentBlock) → Some (Block a) ≡ Some (Block b) → a ≡ b
block_is a b e = cc

restored_of : (geometry : Geometry) (o new : Option KeptLoan) (lent : LentBlock) → o ≡ Some (Block lent) → RestoresLoan geometry o new → RestoresLent geometry lent new
restored_of geometry o new lent is solves = subst (λ z. RestoresLoan geometry z new) is solves

-- what was restored has the length and the digest of its block, and columns of its bytes
record IsRight (geometry : Geometry) (pointer : Pointer) (block : BlockValue) : Type 0 where
  pub len : length block.bytes ≡ pointer.len
  pub digest : sha256 block.bytes ≡ pointer.digest
  pub bytes : (j : ℕ) → IsByte (slice_index block.bytes j)
  pub are : AreColumns (cut_of geometry) block.bytes block.columns

right_of : (geometry : Geometry) (lent : LentBlock) (new : Option KeptLoan) (r : RestoresLent geometry lent new) (block : BlockValue) → r.block ≡ Some block → IsRight geometry lent.pointer block
right_of geometry lent new r block is =
    let answers = subst (AnswersBlock geometry (fetched_of lent)) is r.answers in
    let cut = subst (λ o. IfSome o HasColumnsOf) is r.cut in
    record { len = answers.digest.len; digest = answers.digest.digest; bytes = cut.bytes; are = subst (λ c. AreColumns c block.bytes block.columns) answers.cut_is cut.are }

-- ---- the pieces that its landing writes

abbrev rows_of : ℕ → BlockValue → ℕ → ℕ → Option (List ℕ)
rows_of sector block c row = Some (row_bytes sector (column_at block.columns c) row)

abbrev written_of : ℕ → Key → Option BlockValue → Pieces → Pieces
written_of sector own None pieces key = pieces key
written_of sector own (Some block) pieces key = if key_eq own key then rows_of sector block else pieces key

written_own : (sector : ℕ) (own : Key) (block : BlockValue) (pieces : Pieces) → written_of sector own (Some block) pieces own ≡ rows_of sector block
written_own sector own block pieces = ap (λ (b : Bool). if b then rows_of sector block else pieces own) (key_refl own)

written_other : (sector : ℕ) (own : Key) (o : Option BlockValue) (pieces : Pieces) (key : Key) → key_eq own key ≡ false → written_of sector own o pieces key ≡ pieces key
written_other sector own None pieces key other = refl
written_other sector own (Some block) pieces key other = ap (λ (b : Bool). if b then rows_of sector block else pieces key) other

writes_rows : (sector g stripes : ℕ) (own : Key) (o : Option BlockValue) (pieces : Pieces) → IfSome o (λ (block : BlockValue). ArePieces sector g stripes block.columns own (written_of sector own o pieces))
writes_rows sector g stripes own None pieces = tt
writes_rows sector g stripes own (Some block) pieces = λ c row less low. ap (λ (f : ℕ → ℕ → Option (List ℕ)). f c row) (written_own sector own block pieces)

-- each key has the pieces that it had, or is the block's and has those of the restored one
kept_or : (geometry : Geometry) (lent : LentBlock) (pieces : Pieces) (k : Key) (h : Held) → ((block : BlockValue) → lent.restored ≡ Some block → IsRight geometry lent.pointer block)
    → h.len ≡ lent.pointer.len → h.digest ≡ lent.pointer.digest → (o : Option BlockValue) → lent.restored ≡ o
    → (written_of geometry.props.sector (key_of lent.pointer) o pieces k ≡ pieces k) ⊎ ((key_of lent.pointer ≡ k) × HasBytes geometry h k (written_of geometry.props.sector (key_of lent.pointer) o pieces))
kept_or geometry lent pieces k h right len digest None is = inl refl
kept_or geometry lent pieces k h right len digest (Some block) is = by (key_eq (key_of lent.pointer) k) refl
  where
    by : (b : Bool) → key_eq (key_of lent.pointer) k ≡ b
        → (written_of geometry.props.sector (key_of lent.pointer) (Some block) pieces k ≡ pieces k)
        ⊎ ((key_of lent.pointer ≡ k) × HasBytes geometry h k (written_of geometry.props.sector (key_of lent.pointer) (Some block) pieces))
    by false other = inl (written_other geometry.props.sector (key_of lent.pointer) (Some block) pieces k other)
    by true same =
        let own = key_true (key_of lent.pointer) k same in
        let r = right block is in
        inr (
          own,
          record {
            content = block.bytes;
            len = r.len ∙ sym len;
            digest = r.digest ∙ sym digest;
            bytes = r.bytes;
            columns = block.columns;
            are = r.are;
            rows = subst (λ j. ArePieces geometry.props.sector geometry.g h.stripes block.columns j (written_of geometry.props.sector (key_of lent.pointer) (Some block) pieces)) own
                (writes_rows geometry.props.sector geometry.g h.stripes (key_of lent.pointer) (Some block) pieces);
          },
        )

-- ---- where the pass stands then

record Running (o : Option Pass) : Type 0 where
  pub pass : Pass
  pub there : o ≡ Some pass
  pub is : IsRunningScrub pass

running_of : (o : Option Pass) → IsSomeAnd o IsRunningScrub → Running o
running_of None is = absurd is
running_of (Some p) is = record { pass = p; there = refl; is = is }

moved : (o : Option KeptLoan) (k : LentBlock) (a b : Option Pass) (p : Pass) → o ≡ Some (Block k) → a ≡ Some p → MovesBehind o a b → (q : Pass) × (b ≡ Some q) × GoesOnAt (k.pointer.first + k.pointer.stripes) p q
moved o k a None p loan was moves = absurd (subst (λ z. MovesBehind z (Some p) None) loan (subst (λ z. MovesBehind o z None) was moves))
moved o k a (Some q) p loan was moves = (q, refl, subst (λ z. MovesBehind z (Some p) (Some q)) loan (subst (λ z. MovesBehind o z (Some q)) was moves))

module _ {R A : Type 0} (rack : racks.Ghosts R) (old lent solved new : Shard R A) (running : IsSomeAnd old.pass IsRunningScrub) (unit : LendsBlock rack old lent) (lent_valid : Valid rack lent)
    (only : solved ≡ record lent { kept = solved.kept }) (solves : RestoresLoan lent.geometry lent.kept solved.kept) where
  pub restores : RestoresLent lent.geometry unit.lent solved.kept
  restores = restored_of lent.geometry lent.kept solved.kept unit.lent unit.lent_is solves

  abbrev pub back : LentBlock
  back = record unit.lent { restored = restores.block }

  abbrev was : Running old.pass
  was = running_of old.pass running

  then_pass : solved.pass ≡ Some (counted (length unit.failed.items) was.pass)
  then_pass = ap (λ (s : Shard R A). s.pass) only ∙ (unit.pass ∙ ap (option_map (counted (length unit.failed.items))) was.there)

  pub solved_runs : IsSomeAnd solved.pass IsRunningScrub
  solved_runs = subst (λ o. IsSomeAnd o IsRunningScrub) (sym then_pass) (record { scrub = was.is.scrub; running = was.is.running })

  pub solved_here : IsLentHere solved
  solved_here =
      (Block back, restores.is, subst (λ (s : Shard R A). IsBlockHere s.entries back) (sym only) (record { stage = unit.here.stage; there = unit.here.there; block = unit.here.block }))

  inside : unit.lent.pointer.first + unit.lent.pointer.stripes ≤ metaslab_stripes lent.geometry
  inside = kept.run.inside
    where
      kept : IsLentBlock lent.geometry lent.pass unit.lent
      kept = subst (λ o. IfSome o (IsKept lent.geometry lent.pass)) unit.lent_is lent_valid.kept

  behind : was.pass.at < unit.lent.pointer.first + unit.lent.pointer.stripes
  behind = subst (λ o. IfSome o (λ (z : Pass). z.at < unit.lent.pointer.first + unit.lent.pointer.stripes)) was.there unit.behind

  pub moves_on : part_of new ≡ part_of solved → MovesBehind solved.kept solved.pass new.pass → MovesOn Heal old new
  moves_on part moves =
      let q = moved solved.kept back solved.pass new.pass (counted (length unit.failed.items) was.pass) restores.is then_pass moves in
      let same : new.geometry ≡ lent.geometry = ap (λ (p : Part). p.geometry) part ∙ ap (λ (s : Shard R A). s.geometry) only in
      let at = q.2.at in
      let low = behind in
      let high = inside in
      record {
        was = was.pass;
        pass = q.0;
        old_pass = was.there;
        new_pass = q.1;
        runs = record { kind_is = q.2.kind ∙ was.is.scrub; running = q.2.running ∙ was.is.running };
        behind = omega (arith, at, low);
        inside = subst (λ g. q.0.at ≤ metaslab_stripes g) (sym same) (omega (arith, at, high));
      }

  -- it is told unreadable just where there is no answer
  pub tells : (told : ℕ) → lands.LandsUnit rack solved new told → TellsLanding rack old new
  tells told landed =
      let same : landed.lent ≡ back = block_is landed.lent back (sym landed.lent_is ∙ restores.is) in
      record {
        mid = lent;
        lends = unit;
        block = restores.block;
        answers = subst (λ (g : Geometry). AnswersBlock g (fetched_of unit.lent) restores.block) (ap (λ (p : Part). p.geometry) unit.does.part) restores.answers;
        pass = landed.pass.number;
        failed = landed.failed;
        patched = landed.patched;
        told = landed.does.stored ∙ (λ i. stored_in (only i) ++ LandBlock landed.pass.number (same i).serial landed.failed landed.patched (is_none (same i).restored) ∷ []);
      }

-- ---- the metaslab

module _ {R A : Type 0} (rack : racks.Ghosts R) (area : areas.Ghosts A) (old lent solved : Shard R A)
    (unit : LendsBlock rack old lent) (lent_valid : Valid rack lent) (lent_areas : SameAreas old lent) (lent_reserve : SameReserve old lent) (not_worn : IsWornFor old (lend_events old.kept) → ⊥)
    (solved_valid : Valid rack solved) (only : solved ≡ record lent { kept = solved.kept }) (none : DoesNone lent solved)
    (part : Part) (pieces : Pieces) (x : Metaslab) (is : IsMetaslab rack area part pieces old x) where
  first : dids.Done rack area part pieces lent (Lend unit.failed) x
  first = rebuild_did rack area part pieces old lent (Lend unit.failed) x is lent_valid unit.does (unit.acts pieces) lent_reserve (raised rack area unit.failed.items old lent lent_areas unit.counts) tt

  abbrev y : Metaslab
  y = first.reached

  mid : IsMetaslab rack area part pieces solved y
  mid =
      none_here rack area part pieces lent solved y first.is solved_valid none (ap (λ (s : Shard R A). s.rack) only)
      (record { even = ap (λ (s : Shard R A). s.even) only; odd = ap (λ (s : Shard R A). s.odd) only }) (ap (λ (s : Shard R A). limit_in s.history) only) (ap (λ (s : Shard R A). reserved_of s.history) only)

  one_leaves : Leaves x.world y.world
  one_leaves = rebuild_leaves (layout_in part) x.world y.world (Lend unit.failed) first.step tt

  -- what was lent has the pieces that it had, whichever those are
  lent_backed : (q : Pieces) → IsMetaslab rack area (part_of old) q old x → Step (layout_by old) x.world (Lend unit.failed) y.world → OnTold (rack.told lent.rack) (Backed (layout_by old) q y.world)
  lent_backed q had step =
      let l = layout_by old in
      told_on (rack.told old.rack) (rack.told lent.rack) (segments.Acts l x.world (Lend unit.failed) y.world step q) (Backed l q x.world) (Backed l q y.world)
      (λ a b act backed. event_backed l (has_layout (part_of old) had.valid.part) x.world had.stands.reached q a b q backed (Lend unit.failed) y.world step act (λ key none. refl))
      (unit.acts q x.world y.world step had.stands.reached had.stands.is_in) had.stands.segments

  again : (q : Pieces) → IsMetaslab rack area part q old x → IsMetaslab rack area part q solved y
  again q had =
      let backed = subst (λ (p : Part). IsMetaslab rack area p q old x → Step (layout_in p) x.world (Lend unit.failed) y.world → OnTold (rack.told lent.rack) (Backed (layout_in p) q y.world)) had.part_is (lent_backed q) had first.step in
      record {
        valid = mid.valid;
        part_is = mid.part_is;
        stands = record {
          is_in = mid.stands.is_in;
          reached = mid.stands.reached;
          segments = subst (λ (p : Part). OnTold (rack.told solved.rack) (Backed (layout_in p) q y.world)) (sym mid.part_is)
              (subst (λ (s : Shard R A). OnTold (rack.told s.rack) (Backed (layout_in part) q y.world)) (sym only) backed);
        };
        run = mid.run;
        events = mid.events;
        limit = mid.limit;
        reserved = mid.reserved;
        counts = mid.counts;
        harm = mid.harm;
        records = mid.records;
        bytes = subst (λ t. KnowsBlocks part.geometry q t) (sym one_leaves.held) had.bytes;
      }

  -- memory was wanting for its bytes
  pub stays_out : Goes rack area part pieces x solved (λ holds v. NextIs part Heal false next.NoMemory holds × SameBlocks x v)
  stays_out = record {
    holds = On (view_of part.number x) (Did (Lend unit.failed) y.world) ∷ [];
    reached = y;
    follows = (Did (Lend unit.failed) y.world, y, refl, first.acts, refl);
    images = one_leaves.images;
    done = (
      (
        refl,
        inr (record {
          v = view_of part.number x;
          failed = unit.failed;
          lent = y.world;
          are = refl;
          there = refl;
          some = λ up. absurd (cc up);
          not_worn = λ worn. not_worn (told_worn rack area part pieces old x is worn);
        }),
      ),
      record { held = one_leaves.held; committed = one_leaves.committed },
    );
    is = mid;
  }

  module _ (new : Shard R A) (solves : RestoresLoan lent.geometry lent.kept solved.kept) (told repaired : ℕ) (least : repaired ≡ min told (2 ^ 8)) (new_valid : Valid rack new) (new_areas : SameAreas solved new) (landed : lands.LandsUnit rack solved new told)
      (new_reserve : SameReserve solved new) where
    r : RestoresLent lent.geometry unit.lent solved.kept
    r = restored_of lent.geometry lent.kept solved.kept unit.lent unit.lent_is solves

    same_lent : landed.lent ≡ record unit.lent { restored = r.block }
    same_lent = block_is landed.lent (record unit.lent { restored = r.block }) (sym landed.lent_is ∙ r.is)

    geometry_is : lent.geometry ≡ part.geometry
    geometry_is = ap (λ (p : Part). p.geometry) first.is.part_is

    solved_geometry : solved.geometry ≡ part.geometry
    solved_geometry = ap (λ (p : Part). p.geometry) mid.part_is

    right : (block : BlockValue) → landed.lent.restored ≡ Some block → IsRight part.geometry landed.lent.pointer block
    right block at =
        subst (λ (l : LentBlock). IsRight part.geometry l.pointer block) (sym same_lent)
        (subst (λ g. IsRight g unit.lent.pointer block) geometry_is (right_of lent.geometry unit.lent solved.kept r block (sym (ap (λ (l : LentBlock). l.restored) same_lent) ∙ at)))

    abbrev e : Event
    e = LandBlock landed.pass.number landed.lent.serial landed.failed landed.patched (is_none landed.lent.restored)

    -- its block in the state
    held_there : y.world.core.held (key_of landed.lent.pointer) ≡ Some (held_at (staged unit.here.stage landed.lent.pointer))
    held_there =
        subst (λ (l : LentBlock). y.world.core.held (key_of l.pointer) ≡ Some (held_at (staged unit.here.stage l.pointer))) (sym same_lent)
        (first.is.stands.is_in.held (key_of unit.lent.pointer) ∙ key_leads lent.entries unit.lent.pointer.first (staged unit.here.stage unit.lent.pointer) unit.here.there)

    loan_there : y.world.loan ≡ Some (block_loan landed.lent)
    loan_there = mid.stands.is_in.loan ∙ ap (option_map loan_in) landed.lent_is

    abbrev written_by : Pieces → Pieces
    written_by q = written_of part.geometry.props.sector (key_of landed.lent.pointer) landed.lent.restored q

    abbrev written : Pieces
    written = written_by pieces

    restored_there : (q : Pieces) → WritesRestored solved landed.lent (written_by q)
    restored_there q =
        subst (λ (g : Geometry). IfSome landed.lent.restored (λ (block : BlockValue). ArePieces g.props.sector g.g landed.lent.pointer.stripes block.columns (key_of landed.lent.pointer) (written_by q))) (sym solved_geometry)
        (writes_rows part.geometry.props.sector part.geometry.g landed.lent.pointer.stripes (key_of landed.lent.pointer) landed.lent.restored q)

    others : (after : machine.State) (step : Step (layout_by solved) y.world e after) → segments.WritesPieces (layout_by solved) y.world e after step pieces written
    others after step key other =
        let n : step.n ≡ block_loan landed.lent = some_same y.world.loan step.n (block_loan landed.lent) step.counts.loan loan_there in
        written_other part.geometry.props.sector (key_of landed.lent.pointer) landed.lent.restored pieces key (subst (λ (z : machine.Loan). key_eq z.key key ≡ false) n other)

    abbrev own : Held
    own = held_at (staged unit.here.stage landed.lent.pointer)

    is_block_there : is_block own.stage ≡ true
    is_block_there = unit.here.block

    -- of each key the pieces that are written are those that there were, or the key is the block's
    written_at : (k : Key) → SamePieces part x pieces written k
    written_at k = elim (kept_or part.geometry landed.lent pieces k own right refl refl landed.lent.restored refl) [
      | inl same ↦ inl same
      | inr has ↦ inr (own, subst (λ j. x.world.core.held j ≡ Some own) has.0 (sym (ap (λ f. f (key_of landed.lent.pointer)) one_leaves.held) ∙ held_there), is_block_there, has.1)
    ]

    -- what is known of the blocks then
    known : (v : machine.State) (step : Step (layout_by solved) y.world e v) → KnowsBlocks solved.geometry (segments.pieces_after (layout_by solved) y.world e v step pieces written) v.core.held
    known v step = subst (λ g. KnowsBlocks g (segments.pieces_after (layout_by solved) y.world e v step pieces written) v.core.held) (sym solved_geometry) on
      where
        held_as : v.core.held ≡ y.world.core.held
        held_as = (block_leaves (layout_by solved) y.world v landed.pass.number landed.lent.serial landed.failed landed.patched (is_none landed.lent.restored) step).held

        of : KnowsBlocks part.geometry written v.core.held
        of k h at block column row some =
            let there : y.world.core.held k ≡ Some h = sym (ap (λ f. f k) held_as) ∙ at in
            elim (written_at k) [
              | inl same ↦ same_bytes part.geometry h k pieces written same (mid.bytes k h there block column row (subst (λ (f : ℕ → ℕ → Option (List ℕ)). IsSome (f column row)) same some))
              | inr has ↦
                  subst (λ (i : Held). HasBytes part.geometry i k written) (some_same (x.world.core.held k) has.0 h has.1 (sym (ap (λ f. f k) one_leaves.held) ∙ there)) has.3
            ]

        on : KnowsBlocks part.geometry (segments.pieces_after (layout_by solved) y.world e v step pieces written) v.core.held
        on = elim (pieces_either (layout_by solved) y.world v landed.pass.number landed.lent.serial landed.failed landed.patched (is_none landed.lent.restored) step pieces written) [
          | inl stays ↦ subst (λ q. KnowsBlocks part.geometry q v.core.held) (sym stays) (subst (λ t. KnowsBlocks part.geometry pieces t) (sym held_as) mid.bytes)
          | inr other ↦ subst (λ q. KnowsBlocks part.geometry q v.core.held) (sym other) of
        ]

    second : Lands rack area part pieces written new e y
    second =
        landed_to rack area part pieces written solved new e y mid new_valid landed.does new_reserve (raised rack area landed.failed.items solved new new_areas landed.counts) refl
        (λ v step. (block_leaves (layout_by solved) y.world v landed.pass.number landed.lent.serial landed.failed landed.patched (is_none landed.lent.restored) step).images)
        (λ after step. landed.acts written y.world after step mid.stands.reached mid.stands.is_in (restored_there pieces)) others known

    two_leaves : Leaves y.world second.done.reached.world
    two_leaves = block_leaves (layout_in part) y.world second.done.reached.world landed.pass.number landed.lent.serial landed.failed landed.patched (is_none landed.lent.restored) second.done.step

    keeps : KeepsContents part x pieces second.later
    keeps = record {
      each = λ k. elim (pieces_either (layout_in part) y.world second.after landed.pass.number landed.lent.serial landed.failed landed.patched (is_none landed.lent.restored) second.step pieces written) [
        | inl stays ↦ inl (ap (λ (q : Pieces). q k) (second.is ∙ stays))
        | inr other ↦ subst (λ (q : Pieces). SamePieces part x pieces q k) (sym (second.is ∙ other)) (written_at k)
      ];
    }

    -- the landing rewrote so many
    all_told : repaired ≡ rewritten (layout_in part) y.world.core (held_at (staged unit.here.stage landed.lent.pointer)) landed.patched.items part.geometry.g
    all_told =
        let h = held_at (staged unit.here.stage landed.lent.pointer) in
        let own : told ≡ rewritten (layout_in part) y.world.core h landed.patched.items part.geometry.g
        = subst (λ (p : Part). told ≡ rewritten (layout_in p) y.world.core h landed.patched.items p.geometry.g) mid.part_is (landed.told y.world h mid.stands.reached mid.stands.is_in held_there) in
        let low = rewritten_low (layout_in part) y.world.core h landed.patched.items part.geometry.g (fits rack area part pieces solved y mid).core.order.three in
        let few = few_columns part.geometry (subst (λ (p : Part). IsGeometry p.geometry) mid.part_is mid.valid.part.layout.geometry_is) in
        least_is told repaired (rewritten (layout_in part) y.world.core h landed.patched.items part.geometry.g) part.geometry.g least own low few
      where
        least_is : (a b n g : ℕ) → b ≡ min a (2 ^ 8) → a ≡ n → n ≤ g * 3 → g ≤ 64 → b ≡ n
        least_is a b n g least own low few = omega (arith, least, own, low, few)

    -- an unreadable block was beyond repair as it was lent, where the blocks have contents
    why : HadContents rack area part old x → passes.LendsBeyond part.geometry part.perms (view_of part.number x) unit.failed y.world e
    why had = by (is_none landed.lent.restored) refl
      where
        by : (b : Bool) → is_none landed.lent.restored ≡ b
            → passes.LendsBeyond part.geometry part.perms (view_of part.number x) unit.failed y.world (LandBlock landed.pass.number landed.lent.serial landed.failed landed.patched b)
        by false there = tt
        by true gone =
            beyond rack area old lent unit lent_valid solved.kept r (no_block r.block (sym (ap (λ (l : LentBlock). is_none l.restored) same_lent) ∙ gone)) part had.0 x had.1 had.2 y.world first.is.stands.is_in.loan

    -- of one that was restored no more columns were taken from no arm than there are parity columns
    few_sources : passes.LendsSourced part.geometry part.perms (view_of part.number x) y.world e
    few_sources = by landed.lent.restored refl
      where
        by : (o : Option BlockValue) → landed.lent.restored ≡ o
            → passes.LendsSourced part.geometry part.perms (view_of part.number x) y.world (LandBlock landed.pass.number landed.lent.serial landed.failed landed.patched (is_none o))
        by None gone = tt
        by (Some block) there = λ n loan.
            subst (λ (m : machine.Loan). count_below part.geometry.g (λ c. is_none (m.chosen c)) ≤ part.geometry.spec.parity)
            (some_same y.world.loan (block_loan unit.lent) n (first.is.stands.is_in.loan ∙ ap (option_map loan_in) unit.lent_is) loan)
            (subst (λ (g : Geometry). count_below g.g (λ c. is_none (slice_index_or unit.lent.chosen.items c None)) ≤ g.spec.parity) geometry_is
            (sourced rack old lent unit lent_valid solved.kept r block (sym (ap (λ (l : LentBlock). l.restored) same_lent) ∙ there)))

    -- what the landing did, where the block was restored or not
    record LandsAs (q : Pieces) (o : Option BlockValue) : Type 0 where
      pub after : machine.State
      pub step : Step (layout_in part) y.world (LandBlock landed.pass.number landed.lent.serial landed.failed landed.patched (is_none o)) after
      pub acts : OnBothTold (rack.told solved.rack) (rack.told new.rack) (segments.Acts (layout_in part) y.world (LandBlock landed.pass.number landed.lent.serial landed.failed landed.patched (is_none o)) after step (written_by q))
      pub rows : IfSome o (λ (block : BlockValue). ArePieces part.geometry.props.sector part.geometry.g landed.lent.pointer.stripes block.columns (key_of landed.lent.pointer) (written_by q))

    lands_as : (q : Pieces) → LandsAs q landed.lent.restored
    lands_as q = record {
      after = second.after;
      step = second.step;
      acts = subst (λ (p : Part). (after : machine.State) (step : Step (layout_in p) y.world e after) → OnBothTold (rack.told solved.rack) (rack.told new.rack) (segments.Acts (layout_in p) y.world e after step (written_by q))) mid.part_is
          (λ after step. landed.acts (written_by q) y.world after step mid.stands.reached mid.stands.is_in (restored_there q)) second.after second.step;
      rows = writes_rows part.geometry.props.sector part.geometry.g landed.lent.pointer.stripes (key_of landed.lent.pointer) landed.lent.restored q;
    }

    -- what it wrote on clean arms was harmed or in doubt, or a column was taken wrong
    was_needed : HadContents rack area part old x → passes.LandsNeeded part.geometry part.perms (view_of part.number y) e
    was_needed had = by landed.lent.restored refl
      where
        by : (o : Option BlockValue) → landed.lent.restored ≡ o → passes.LandsNeeded part.geometry part.perms (view_of part.number y) (LandBlock landed.pass.number landed.lent.serial landed.failed landed.patched (is_none o))
        by None gone = tt
        by (Some block) there =
            let did = subst (LandsAs had.0) there (lands_as had.0) in
            needed rack area old lent solved new unit lent_valid only r block (sym (ap (λ (l : LentBlock). l.restored) same_lent) ∙ there) had.0 (written_by had.0) x y part had.1 (again had.0 had.1) first.step had.2
            (subst (λ (p : Pointer). ArePieces part.geometry.props.sector part.geometry.g p.stripes block.columns (key_of p) (written_by had.0)) (ap (λ (l : LentBlock). l.pointer) same_lent) did.rows)
            landed.pass.number landed.lent.serial landed.failed landed.patched did.after did.step did.acts

    both_follow : FollowsIn (layout_in part) part.number (On (view_of part.number x) (Did (Lend unit.failed) y.world) ∷ (On (view_of part.number y) (Did e second.done.reached.world) ∷ [])) x second.done.reached
    both_follow = (
      Did (Lend unit.failed) y.world,
      y,
      refl,
      first.acts,
      (Did e second.done.reached.world, second.done.reached, refl, second.done.acts, refl),
    )

    -- whatever the blocks have
    pub block_moves : GoesLater rack area part pieces x new
    block_moves = record {
      holds = On (view_of part.number x) (Did (Lend unit.failed) y.world) ∷ (On (view_of part.number y) (Did e second.done.reached.world) ∷ []);
      reached = second.done.reached;
      follows = both_follow;
      images = keeps_then x.world y.world second.done.reached.world one_leaves.images two_leaves.images;
      later = second.later;
      contents = keeps;
      is = second.done.is;
    }

    pub block_goes : GoesTo rack area part pieces x new (λ holds v. (HadContents rack area part old x → NextIs part Heal false (next.Landed repaired) holds) × SameBlocks x v)
    block_goes = record {
      holds = On (view_of part.number x) (Did (Lend unit.failed) y.world) ∷ (On (view_of part.number y) (Did e second.done.reached.world) ∷ []);
      reached = second.done.reached;
      follows = both_follow;
      images = keeps_then x.world y.world second.done.reached.world one_leaves.images two_leaves.images;
      done = (
        λ had. (
          refl,
          record {
            v = view_of part.number x;
            u = view_of part.number y;
            failed = unit.failed;
            lent = y.world;
            e = e;
            landed = second.done.reached.world;
            are = refl;
            there = (refl, refl);
            not_worn = λ worn. not_worn (told_worn rack area part pieces old x is worn);
            lands = (block_loan landed.lent, own, loan_there, held_there, all_told);
            why = why had;
            sourced = few_sources;
            needed = was_needed had;
          },
        ),
        record { held = two_leaves.held ∙ one_leaves.held; committed = two_leaves.committed ∙ one_leaves.committed },
      );
      later = second.later;
      contents = contents_by part x pieces second.later keeps;
      is = second.done.is;
    }
