-- What was lent of a stripe is right in the state that the lend led to.
use Rattle.std.proofs.Common.{◌≡◌, ◌+◌, ◌<◌, ◌∙◌, ℕ, zero, true, false, List, Option, Some, None, IfSome, arith, refl, sym, ap, subst, inl, inr, length, slice_get}
use Rattle.std.specs.Prelude.{IsSomeAnd, option_map, slice_index_or}
use Rattle.draid_names.specs.declared.arm.Arm.{Arm}
use Rattle.draid_names.specs.declared.arm.ArmAt.{ArmAt}
use Rattle.draid_names.specs.declared.pass_kind.PassKind.TheVariants.{Rebuild}
use Rattle.draid_names.specs.declared.pointer.Pointer.{Pointer}
use Rattle.draid_machine.specs.After.{lend_state}
use Rattle.draid_machine.specs.Arms.{leaf_at, passes}
use Rattle.draid_machine.specs.Created.{IsReached}
use Rattle.draid_machine.specs.Fitting.{LoanReads}
use Rattle.draid_machine.specs.Names.{has_name}
use Rattle.draid_machine.specs.State as machine
use Rattle.draid_machine.specs.Step.{LendStep, Step}
use Rattle.draid_machine.specs.declared.event.Event.TheVariants.{Lend}
use Rattle.draid_machine.specs.declared.names.Held.{Held}
use Rattle.draid_machine.specs.declared.names.Key.{Key}
use Rattle.draid_machine.specs.declared.names.Segment.{Segment}
use Rattle.draid_machine.proofs.Lent.{every_loan}
use Rattle.draid_machine.proofs.Small.{absurd_test, bool_cases, some_same}
use Rattle.draid_parity.specs.Columns.{StripeValue, column_at}
use Rattle.draid_rack.specs.Rack.{OnTold, Told}
use Rattle.draid_rack.specs.declared.Rack.{Ghosts}
use Rattle.draid_columns.specs.Columns.{RowsStand}
use Rattle.draid_segments.specs.Segments.{Backed, Holds, IsSure, Pieces}
use Rattle.draid_entries.specs.Maps.{key_of}
use Rattle.draid_slots.specs.Changes.{IsOf}
use Rattle.draid_slots.specs.States.{HasSlots, HoldsPass, name_of, names_at, pass_in}
use Rattle.draid_slots.specs.Table.{SlotTable, arm_at, is_logged}
use Rattle.draid_spec.specs.declared.layout.Geometry.{Geometry}
use Rattle.draid_shard.specs.Fits.{NamesOnce, Valid}
use Rattle.draid_shard.specs.Loans.{IsKept, IsLentStripe, loan_in, stripe_loan}
use Rattle.draid_shard.specs.Part.{IsPart, IsRun, Part, layout_in}
use Rattle.draid_shard.specs.Rows.{IsRowsOf, arm_no, rows_on}
use Rattle.draid_shard.specs.Stands.{StandsFor}
use Rattle.draid_shard.specs.States.{IsIn, part_of}
use Rattle.draid_shard.specs.declared.loan.KeptLoan.TheVariants.{Stripe}
use Rattle.draid_shard.specs.declared.loan.LentStripe.{LentStripe}
use Rattle.draid_shard.specs.declared.loan.Source.{Source}
use Rattle.draid_shard.specs.declared.places.ColumnRows.{ColumnRows}
use Rattle.draid_shard.specs.declared.shard.Shard.{Shard}
use Rattle.draid_shard.proofs.Answering.{leaf_at_is, listed}
use Rattle.draid_shard.proofs.Homes.{lays}
use Rattle.draid_shard.proofs.Standing.{reached_more}
use Rattle.draid_mend.specs.Landing.{IsApartSource, LoanStands}
use Rattle.draid_mend.specs.Lands.{IsSolvable, KeptStands}
use Rattle.draid_mend.specs.Loans.{IsReadFrom, IsRunningRebuild, LendsUnit, NamesSources, source_in, unit_at}
use Rattle.draid_mend.specs.Missing.{SolvesKept, SolvesLoan}
use Rattle.draid_mend.specs.Reading.{IsSourceOn, ReadsStripe}
use Rattle.draid_mend.specs.Solving.{HasKnownContent}
use Rattle.draid_mend.specs.Stripes.{HasNoSource, rows_at}
use Rattle.draid_mend.specs.Targets.{AreThere}
use Rattle.draid_mend.specs.declared.reading.Taken.{Taken}
use Rattle.draid_mend.specs.declared.reading.Taken.TheVariants.{Nowhere, Failed, From}
use Rattle.draid_mend.proofs.Aims.{IsNamedAt, all_there, name_at}
use Rattle.draid_mend.proofs.Columned.{rows_are}
use Rattle.draid_mend.proofs.Facts.{all_of}
use Rattle.draid_mend.proofs.Lacking.{lacking}
use Rattle.draid_mend.proofs.Loaned.{HasRebuild, one_run, rebuild_of}

-- ---- the source of a column

module _ (part : Part) (slots : SlotTable) (pointer : Pointer) (told : Option Told) (columns : List (List ℕ)) (taken : List Taken) (faults : List ℕ) (chosen : List (Option Source))
    (was : ReadsStripe part slots pointer part.geometry.g told columns taken faults) (named : NamesSources part slots pointer taken part.geometry.g chosen) where
  abbrev rows : ℕ → ColumnRows
  rows c = rows_at part pointer c

  -- the arm that it names, and what was read of that
  record IsFoundAt (c : ℕ) (source : Source) : Type 0 where
    pub arm : ℕ
    pub a : Arm
    pub there : arm_at slots (arm_no (rows c) arm) ≡ Some a
    pub name : name_of a ≡ source.arm
    pub on : IsSourceOn slots (rows c) arm source.leaf
    pub stand : OnTold told (λ x. RowsStand (rows_on (rows c) source.leaf) x.reads (column_at columns c) pointer.stripes)
    pub long : length (column_at columns c) ≡ part.geometry.props.sector

  source_found : (c : ℕ) (source : Source) → c < part.geometry.g → slice_index_or chosen c None ≡ Some source → IsFoundAt c source
  source_found c source low is = by (slice_get taken c) refl (sym (named.each c low) ∙ is)
    where
      slot : ℕ
      slot = (layout_in part).slot_of pointer.first c

      from : (arm leaf : ℕ) → slice_get taken c ≡ Some (From arm leaf) → (o : Option Arm) → arm_at slots (arm_no (rows c) arm) ≡ o → option_map (λ (a : Arm). record { arm = name_of a; leaf = leaf }) o ≡ Some source → IsFoundAt c source
      from arm leaf e None there at = absurd (cc)
      from arm leaf e (Some a) there at =
          let it : (record { arm = name_of a; leaf = leaf }) ≡ source = some_same (Some (record { arm = name_of a; leaf = leaf })) (record { arm = name_of a; leaf = leaf }) source refl at in
          let own : leaf ≡ source.leaf = ap (λ (s : Source). s.leaf) it in
          let t = was.each c (From arm leaf) e in
          let same = rows_are part pointer c t.rows t.of in
          record {
            arm = arm;
            a = a;
            there = there;
            name = ap (λ (s : Source). s.arm) it;
            on = subst (IsSourceOn slots (rows c) arm) own (subst (λ rows. IsSourceOn slots rows arm leaf) same t.takes.0);
            stand = subst (λ m. OnTold told (λ x. RowsStand (rows_on (rows c) m) x.reads (column_at columns c) pointer.stripes)) own
                (subst (λ (rows : ColumnRows). OnTold told (λ x. RowsStand (rows_on rows leaf) x.reads (column_at columns c) rows.count)) same t.takes.1);
            long = t.long;
          }

      by : (t : Option Taken) → slice_get taken c ≡ t → source_in slots slot t ≡ Some source → IsFoundAt c source
      by None e at = absurd (cc)
      by (Some Nowhere) e at = absurd (cc)
      by (Some (Failed leaf)) e at = absurd (cc)
      by (Some (From arm leaf)) e at = from arm leaf e (arm_at slots (arm_no (rows c) arm)) refl at

  module _ (w : machine.State) (is : IsPart part) (of : IsOf slots part.geometry part.perms part.number) (reached : IsReached (layout_in part) w) (has : HasSlots slots w.core)
      (run : IsRun part.geometry pointer.first pointer.stripes) where
    own_rows : (c : ℕ) → IsRowsOf part pointer c (rows c)
    own_rows c = record { slot_is = refl; first_is = refl; count_is = refl; size_is = refl; birth_is = refl; slice_is = refl }

    source_lies : (c : ℕ) (source : Source) → c < part.geometry.g → slice_index_or chosen c None ≡ Some source → leaf_at (layout_in part) w.core.order source.arm pointer.first ≡ Some source.leaf
    source_lies c source low at =
        let f = source_found c source low at in
        ap (λ m. leaf_at (layout_in part) w.core.order m pointer.first) (sym f.name) ∙ leaf_at_is part is slots of w reached has pointer run c low (rows c) (own_rows c) f.arm f.a f.there ∙ f.on.on

    -- it is an arm of its slot, and no target
    source_apart : (p : machine.Pass) (targets : List ArmAt) → w.core.pass ≡ Some p → p.targets ≡ names_at slots targets → HasNoSource slots targets → NamesOnce slots
        → (c : ℕ) (source : Source) → c < part.geometry.g → slice_index_or chosen c None ≡ Some source → IsApartSource part w pointer.first c source
    source_apart p targets pass targets_are lacks once c source low there = record {
      listed = subst (λ m. has_name (w.core.order ((layout_in part).slot_of pointer.first c)) m ≡ true) f.name
          (listed part is slots of w reached has pointer run c low (rows c) (own_rows c) f.arm (name_of f.a) (ap (option_map name_of) f.there));
      lies = source_lies c source low there;
      apart = λ q at. subst (λ (x : machine.Pass). has_name x.targets source.arm ≡ false) (some_same w.core.pass p q pass at) out;
    } where
      f : IsFoundAt c source
      f = source_found c source low there

      clash : IsNamedAt slots targets source.arm → ⊥
      clash z =
          let same : z.at ≡ arm_no (rows c) f.arm = once.arms z.at (arm_no (rows c) f.arm) z.a f.a z.there f.there (z.name ∙ sym f.name) in
          let lack = lacks z.k z.at z.listed in
          absurd_test (is_logged slots z.at lack.0) lack.1 (ap (λ at. is_logged slots at lack.0) same ∙ f.on.is.is.empty lack.0)

      out : has_name p.targets source.arm ≡ false
      out = elim (bool_cases (has_name p.targets source.arm)) [
        | inl it ↦ absurd (clash (name_at slots targets source.arm (subst (λ ns. has_name ns source.arm ≡ true) targets_are it)))
        | inr off ↦ off
      ]

-- ---- the loan fact

module _ (part : Part) (slots : SlotTable) (w : machine.State) (is : IsPart part) (of : IsOf slots part.geometry part.perms part.number) (reached : IsReached (layout_in part) w) (has : HasSlots slots w.core)
    (p : machine.Pass) (n : machine.Loan) (failed : List ℕ) (h : Held) (k : LentStripe) (pieces : Pieces) (x : Told) (run : IsRun part.geometry k.stripe 1) (kind : p.kind ≡ Rebuild)
    (found : w.core.held (key_of k.pointer) ≡ Some h) (reads : LoanReads (layout_in part) (lend_state w p n failed) (stripe_loan k)) (read : IsReadFrom part slots (Some x) k) (holds : Holds (layout_in part) pieces w x) where
  abbrev l : machine.Layout
  l = layout_in part

  pub lent_stands : LoanStands l (lend_state w p n failed) (stripe_loan k) h pieces k.columns x
  lent_stands c m s column chosen key_is row_is calm sure known = by (slice_index_or k.chosen.items c None) refl chosen
    where
      by : (o : Option Source) → slice_index_or k.chosen.items c None ≡ o → option_map (λ (source : Source). source.arm) o ≡ Some m → Some (column_at k.columns.columns c) ≡ pieces (key_of k.pointer) c s.row
      by None e at = absurd (cc)
      by (Some source) e at =
          let f = source_found part slots (unit_at k.pointer k.stripe) (Some x) k.columns.columns read.taken read.faults k.chosen.items read.reads read.chosen c source column e in
          let name : source.arm ≡ m = some_same (Some source.arm) source.arm m refl at in
          let lies : leaf_at l w.core.order m k.stripe ≡ Some source.leaf
          = ap (λ a. leaf_at l w.core.order a k.stripe) (sym name)
          ∙ source_lies part slots (unit_at k.pointer k.stripe) (Some x) k.columns.columns read.taken read.faults k.chosen.items read.reads read.chosen w is of reached has run c source column e in
          let segment : Segment = record { key = key_of k.pointer; column = c; arm = m; leaf = source.leaf; row = s.row } in
          let is_sure : IsSure w segment h = record {
            held = found;
            present = reads.present _ h c s.row source.leaf m refl kind found chosen row_is lies;
            sure = subst (λ key. w.aside (record { key = key; column = c; arm = m; leaf = source.leaf; row = s.row }) ≡ false) (sym key_is)
                (subst (λ o. passes o (λ leaf. w.aside (record { key = s.key; column = c; arm = m; leaf = leaf; row = s.row })) ≡ false) lies sure);
          } in
          let harmless : x.harmed source.leaf (l.sector_of k.stripe c) ≡ false = subst (λ o. passes o (λ leaf. x.harmed leaf (l.sector_of k.stripe c)) ≡ false) lies calm in
          let holds_it : x.reads source.leaf (l.sector_of k.stripe c) ≡ pieces (key_of k.pointer) c s.row
          = ap (λ f. x.reads source.leaf (l.sector_of f c)) (sym row_is) ∙ holds.reads segment h is_sure (ap (λ f. x.harmed source.leaf (l.sector_of f c)) row_is ∙ harmless) known in
          let first : l.sector_of k.stripe c + 0 ≡ l.sector_of k.stripe c = omega arith in
          let bytes : x.reads source.leaf (l.sector_of k.stripe c) ≡ Some (column_at k.columns.columns c)
          = ap (x.reads source.leaf) (sym first) ∙ f.stand zero (omega arith) ∙ ap Some (all_of part.geometry.props.sector (column_at k.columns.columns c) f.long) in
          sym bytes ∙ holds_it

-- ---- from the lend to the landing

module _ {R A : Type 0} (rack : Ghosts R) (old lent : Shard R A) (w v : machine.State) (pieces : Pieces) (unit : LendsUnit rack old lent) (is : Valid rack old) (later : Valid rack lent)
    (running : IsSomeAnd old.pass IsRunningRebuild) (stands : StandsFor rack old w pieces)
    (contents : (k : Key) (h : Held) → w.core.held k ≡ Some h → HasKnownContent old.geometry h.stripes k pieces) (step : LendStep (layout_in (part_of old)) w unit.failed.items v) (is_in : IsIn lent v) where
  abbrev part : Part
  part = part_of old

  abbrev k : LentStripe
  k = unit.kept

  rebuild : HasRebuild old
  rebuild = rebuild_of old running

  pass_is : step.p ≡ pass_in old.slots rebuild.pass
  pass_is = some_same w.core.pass step.p (pass_in old.slots rebuild.pass) step.pass (stands.is_in.pass ∙ ap (option_map (pass_in old.slots)) rebuild.there)

  kind : step.p.kind ≡ Rebuild
  kind = ap (λ (p : machine.Pass). p.kind) pass_is ∙ rebuild.runs.rebuild

  loan_there : v.loan ≡ Some (stripe_loan k)
  loan_there = is_in.loan ∙ ap (option_map loan_in) unit.kept_is

  loan_is : step.n ≡ stripe_loan k
  loan_is = some_same v.loan step.n (stripe_loan k) (ap (λ (s : machine.State). s.loan) step.made) loan_there

  found : w.core.held (key_of k.pointer) ≡ Some step.h
  found = subst (λ (n : machine.Loan). w.core.held n.key ≡ Some step.h) loan_is step.next.found

  same_part : part_of lent ≡ part
  same_part = unit.does.part

  is_kept : IsLentStripe lent.geometry lent.pass k
  is_kept = subst (λ o. IfSome o (IsKept lent.geometry lent.pass)) unit.kept_is later.kept

  kept_at : (geometry : Geometry) → lent.geometry ≡ geometry → IsLentStripe geometry lent.pass k
  kept_at geometry same = subst (λ g. IsLentStripe g lent.pass k) same is_kept

  z : IsLentStripe old.geometry lent.pass k
  z = kept_at old.geometry (ap (λ (p : Part). p.geometry) same_part)

  run : IsRun old.geometry k.stripe 1
  run = one_run old.geometry is.part.layout.geometry_is k.stripe z.inside

  reads : LoanReads (layout_in part) (lend_state w step.p step.n unit.failed.items) (stripe_loan k)
  reads =
      let reached : IsReached (layout_in part) v = reached_more (layout_in part) w v (Lend unit.failed) stands.reached step in
      subst (λ s. LoanReads (layout_in part) s (stripe_loan k)) step.made (every_loan (layout_in part) v (stripe_loan k) (lays part is.part) reached loan_there)

  module _ (solved : StripeValue) (solves : SolvesKept k solved) (few : IsSolvable old.geometry k) where
    abbrev after : LentStripe
    after = record k { columns = solved }

    on_told : (o : Option Told) → rack.told old.rack ≡ o → OnTold o (Backed (layout_in part) pieces w) → OnTold o (KeptStands part (lend_state w step.p step.n unit.failed.items) after pieces)
    on_told None e backed = tt
    on_told (Some x) e backed = record {
      h = step.h;
      found = found;
      content = contents (key_of k.pointer) step.h found;
      read = k.columns;
      stands = lent_stands part old.slots w is.part is.slots stands.reached stands.is_in.slots step.p step.n unit.failed.items step.h k pieces x run kind found reads from backed.holds;
      solves = solves.few (let less = few in let same = z.columns.parity in omega (arith, less, same)) old.geometry is.part.layout.geometry_is
          (record { parity = z.columns.parity; ndata = z.columns.ndata; len = z.sector });
      sources = λ c source low at. apart c source low at;
    } where
      from : IsReadFrom part old.slots (Some x) k
      from = subst (λ told. IsReadFrom part old.slots told k) e unit.read

      targets_are : step.p.targets ≡ names_at old.slots rebuild.pass.targets.items
      targets_are = ap (λ (p : machine.Pass). p.targets) pass_is

      lacks : HasNoSource old.slots rebuild.pass.targets.items
      lacks = lacking part old.slots w step.p (key_of k.pointer) step.h rebuild.pass.targets.items is.part stands.reached stands.is_in.slots step.pass kind found targets_are there
        where
          there : AreThere old.slots rebuild.pass.targets.items
          there = all_there old.slots rebuild.pass.targets.items (subst (λ o. IfSome o (HoldsPass old.slots old.last_pass)) rebuild.there is.pass).current.targets

      apart : (c : ℕ) (source : Source) → c < old.geometry.g → slice_index_or k.chosen.items c None ≡ Some source → IsApartSource part (lend_state w step.p step.n unit.failed.items) k.stripe c source
      apart c source low at =
          let s = source_apart part old.slots (unit_at k.pointer k.stripe) (Some x) k.columns.columns from.taken from.faults k.chosen.items from.reads from.chosen w is.part is.slots stands.reached stands.is_in.slots run
          step.p rebuild.pass.targets.items step.pass targets_are lacks is.once c source low at in
          record {
            listed = s.listed;
            lies = s.lies;
            apart = λ q there. subst (λ (y : machine.Pass). has_name y.targets source.arm ≡ false) (some_same _ _ q refl there) (s.apart step.p step.pass);
          }

    pub stands_after : OnTold (rack.told old.rack) (KeptStands part v after pieces)
    stands_after = subst (λ s. OnTold (rack.told old.rack) (KeptStands part s after pieces)) (sym step.made) (on_told (rack.told old.rack) refl stands.segments)

stripe_same : (a b : LentStripe) → Stripe a ≡ Stripe b → a ≡ b
stripe_same a b same = cc

pub loan_is_right : {R A : Type 0} (rack : Ghosts R) (part : Part) (old lent solved : Shard R A) (w v : machine.State) (pieces : Pieces) (kept : LentStripe) (unit : LendsUnit rack old lent)
    → part_of old ≡ part → Valid rack old → Valid rack lent → IsSomeAnd old.pass IsRunningRebuild → StandsFor rack old w pieces
    → ((k : Key) (h : Held) → w.core.held k ≡ Some h → HasKnownContent part.geometry h.stripes k pieces)
    → rack.told lent.rack ≡ rack.told old.rack → Step (layout_in part) w (Lend unit.failed) v → IsIn lent v
    → SolvesLoan old.geometry lent.kept solved.kept → solved ≡ record lent { kept = solved.kept }
    → solved.kept ≡ Some (Stripe kept) → IsSolvable part.geometry kept → OnTold (rack.told solved.rack) (KeptStands part v kept pieces)
loan_is_right {R} {A} rack part old lent solved w v pieces kept unit part_is is later running stands contents told step is_in solves only kept_is few =
    let s = subst (λ o. SolvesLoan old.geometry o solved.kept) unit.kept_is solves in
    let it : (record unit.kept { columns = s.0 }) ≡ kept = stripe_same (record unit.kept { columns = s.0 }) kept (some_same solved.kept (Stripe (record unit.kept { columns = s.0 })) (Stripe kept) s.1 kept_is) in
    let same : rack.told solved.rack ≡ rack.told old.rack = ap (λ (x : Shard R A). rack.told x.rack) only ∙ told in
    let enough : IsSolvable old.geometry (record unit.kept { columns = s.0 })
    = subst (λ (p : Part). IsSolvable p.geometry (record unit.kept { columns = s.0 })) (sym part_is) (subst (IsSolvable part.geometry) (sym it) few) in
    subst (λ told. OnTold told (KeptStands part v kept pieces)) (sym same)
    (subst (λ k. OnTold (rack.told old.rack) (KeptStands part v k pieces)) it
    (subst (λ p. OnTold (rack.told old.rack) (KeptStands p v (record unit.kept { columns = s.0 }) pieces)) part_is
    (stands_after rack old lent w v pieces unit is later running stands
    (λ k h at. subst (λ (p : Part). HasKnownContent p.geometry h.stripes k pieces) (sym part_is) (contents k h at))
    (subst (λ p. Step (layout_in p) w (Lend unit.failed) v) (sym part_is) step) is_in s.0 s.2 enough)))
