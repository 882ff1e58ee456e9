-- A stripe that landed on its targets was mended as the state machine says.
use Rattle.std.proofs.Common.{arith, ◌≡◌, ◌==◌, ◌+◌, ◌/◌, ◌<◌, ◌≤◌, ◌∙◌, ◌&&◌, ◌++◌, ℕ, zero, suc, true, false, nat_lt, List, [], ◌∷◌, Option, Some, None, IsSome, refl, sym, ap, ap₂, subst, inl, inr, length, slice_get}
use Rattle.std.specs.Prelude.{if◌then◌else◌, is_none, option_map, slice_index_or}
use Rattle.draid_names.specs.declared.arm.Arm.{Arm}
use Rattle.draid_names.specs.declared.arm.ArmAt.{ArmAt}
use Rattle.draid_names.specs.declared.pointer.Pointer.{Pointer}
use Rattle.draid_names.specs.declared.pass_kind.PassKind.TheVariants.{Rebuild}
use Rattle.draid_machine.specs.After.{is_mended, is_source_aside, land_stripe_state, unsourced}
use Rattle.draid_machine.specs.Step.{LandStripeStep, MendsThere}
use Rattle.draid_machine.specs.Arms as arms
use Rattle.draid_machine.specs.Arms.{fails, leaf_at, lies, passes}
use Rattle.draid_machine.specs.Claims.{is_at_held, is_on}
use Rattle.draid_machine.specs.Created.{IsReached}
use Rattle.draid_machine.specs.Fitting.{Fitting, IsOnce}
use Rattle.draid_machine.specs.Images.{LiesAt, Owned}
use Rattle.draid_machine.specs.Names.{has_name, has_number, key_eq}
use Rattle.draid_machine.specs.State as machine
use Rattle.draid_machine.specs.declared.names.ArmName.{ArmName}
use Rattle.draid_machine.specs.declared.names.Held.{Held}
use Rattle.draid_machine.specs.declared.names.Key.{Key}
use Rattle.draid_machine.specs.declared.names.Segment.{Segment}
use Rattle.draid_machine.proofs.Fitted.{every_fit}
use Rattle.draid_machine.proofs.Losing.{every_segment}
use Rattle.draid_machine.proofs.Places.{every_place}
use Rattle.draid_machine.proofs.Small.{absurd_test, any_at, below, both_true, either_true, equal, four_true, is_below, is_equal, key_refl, key_true, true_both, true_four}
use Rattle.draid_parity.specs.Columns.{StripeValue, column_at}
use Rattle.draid_rack.specs.Rack.{Told, taints}
use Rattle.draid_segments.specs.Acts.{LiesThere, MendsStripe, is_source_harmed}
use Rattle.draid_segments.specs.Segments.{Pieces, harmed_at, piece_of, reads_at}
use Rattle.draid_slots.specs.Changes.{IsOf}
use Rattle.draid_slots.specs.States.{HasSlots, name_of, names_at}
use Rattle.draid_slots.specs.Table.{SlotTable, arm_at, arms_of}
use Rattle.draid_shard.specs.Part.{IsPart, IsRun, Part, layout_in}
use Rattle.draid_shard.specs.Rows.{AreApart, IsRowsOf, answers_on, arm_no, leaf_on}
use Rattle.draid_shard.specs.Loans.{chosen_at}
use Rattle.draid_shard.specs.declared.loan.Source.{Source}
use Rattle.draid_shard.specs.declared.places.ColumnRows.{ColumnRows}
use Rattle.draid_shard.proofs.Answering.{answers_is, kept_arm, leaf_at_is, listed, name_listed, once_apart, spare_low}
use Rattle.draid_shard.proofs.Homes.{lays, same_group}
use Rattle.draid_mend.specs.Landing.{AreApartSources, sector_of_arm, sector_on, sectors_below, sources_of}
use Rattle.draid_mend.specs.Mending.{at_sector}
use Rattle.draid_mend.specs.Stands.{IsSolved, IsStripeOf}
use Rattle.draid_mend.specs.Stripes.{AreColumnsApart, FailsColumns, KeepsColumn, LandsBelow, landed_below, own_or_all, rows_at, source_at, sources_below, sources_for}
use Rattle.draid_mend.specs.Targets.{AreFree, StandsMended, is_mended_on, mended_below}
use Rattle.draid_mend.proofs.Aims.{IsNamedAt, name_at, name_in}
use Rattle.draid_mend.proofs.Columned.{and_right, finds}
use Rattle.draid_mend.proofs.Freed.{any_found, columns_land_apart, sources_are_free}
use Rattle.draid_mend.proofs.Landed.{right, taints_are}

-- ---- sectors
on_leaf : (o : Option ℕ) (leaf : ℕ) → passes o (λ m. m == leaf) ≡ true → o ≡ Some leaf
on_leaf None leaf is = absurd_test false is refl
on_leaf (Some m) leaf is = ap Some (is_equal m leaf is)

finds_sector : (slots : SlotTable) (rows : ColumnRows) (targets : List ArmAt) (count leaf sector : ℕ) → mended_below slots rows targets count leaf sector ≡ true → rows.first ≡ sector
finds_sector slots rows targets zero leaf sector is = absurd_test false is refl
finds_sector slots rows targets (suc n) leaf sector is =
    elim (either_true (mended_below slots rows targets n leaf sector) (is_mended_on slots rows (slice_get targets n) leaf sector) is) [
      | inl before ↦ finds_sector slots rows targets n leaf sector before
      | inr here ↦ by (slice_get targets n) here
    ]
  where
    on : (o : Option ℕ) → passes o (λ m. at_sector m rows.first leaf sector) ≡ true → rows.first ≡ sector
    on None it = absurd_test false it refl
    on (Some m) it = sym (is_equal sector rows.first (and_right (leaf == m) (sector == rows.first) it))

    by : (o : Option ArmAt) → is_mended_on slots rows o leaf sector ≡ true → rows.first ≡ sector
    by None it = absurd_test false it refl
    by (Some at) it =
        let rest = and_right (at.slot == rows.slot) (answers_on slots rows at.arm && passes (leaf_on slots rows at.arm) (λ m. at_sector m rows.first leaf sector)) it in
        on (leaf_on slots rows at.arm) (and_right (answers_on slots rows at.arm) (passes (leaf_on slots rows at.arm) (λ m. at_sector m rows.first leaf sector)) rest)

module _ (part : Part) (is : IsPart part) (slots : SlotTable) (of : IsOf slots part.geometry part.perms part.number) (w : machine.State) (reached : IsReached (layout_in part) w) (has : HasSlots slots w.core)
    (pointer : Pointer) (key : Key) (h : Held) (row : ℕ) (stripe : IsStripeOf part w key h row pointer) where
  abbrev l : machine.Layout
  l = layout_in part

  run : IsRun part.geometry pointer.first pointer.stripes
  run = stripe.run

  own_rows : (c : ℕ) → IsRowsOf part pointer c (rows_at part pointer c)
  own_rows c = record { slot_is = refl; first_is = refl; count_is = refl; size_is = refl; birth_is = refl; slice_is = refl }

  owned : Owned l w
  owned = every_segment l w (lays part is) reached

  fits : Fitting l w
  fits = every_fit l w (lays part is) reached

  slot_same : (c : ℕ) → l.slot_of h.first c ≡ l.slot_of pointer.first c
  slot_same c = (lays part is).steady h.first pointer.first c (sym (same_group part is h.first h.stripes row stripe.whole stripe.inside) ∙ ap (λ x. x / part.geometry.props.height) stripe.first)

  abbrev segment : ℕ → ArmName → ℕ → Segment
  segment c n leaf = record { key = key; column = c; arm = n; leaf = leaf; row = row }

  lies_row : (c : ℕ) → c < part.geometry.g → (k leaf : ℕ) (a : Arm) → arm_at slots (arm_no (rows_at part pointer c) k) ≡ Some a → leaf_on slots (rows_at part pointer c) k ≡ Some leaf
      → leaf_at l w.core.order (name_of a) pointer.first ≡ Some leaf
  lies_row c low k leaf a there on = leaf_at_is part is slots of w reached has pointer run c low (rows_at part pointer c) (own_rows c) k a there ∙ on

  on_row : (c : ℕ) → c < part.geometry.g → (k leaf : ℕ) (a : Arm) → arm_at slots (arm_no (rows_at part pointer c) k) ≡ Some a → leaf_on slots (rows_at part pointer c) k ≡ Some leaf
      → is_on l w.core.order (segment c (name_of a) leaf) h ≡ true
  on_row c low k leaf a there on =
      let at : leaf_at l w.core.order (name_of a) (h.first + row) ≡ Some leaf = ap (leaf_at l w.core.order (name_of a)) stripe.first ∙ lies_row c low k leaf a there on in
      true_four (has_name (w.core.order (l.slot_of h.first c)) (name_of a)) (nat_lt c part.geometry.g) (nat_lt row h.stripes) (lies l w.core.order (name_of a) (h.first + row) leaf)
      (subst (λ s. has_name (w.core.order s) (name_of a) ≡ true) (sym (slot_same c))
      (listed part is slots of w reached has pointer run c low (rows_at part pointer c) (own_rows c) k (name_of a) (ap (option_map name_of) there)))
      (below c part.geometry.g low) (below row h.stripes stripe.inside) (subst (λ o. passes o (λ m. m == leaf) ≡ true) (sym at) (equal leaf leaf refl))

  -- the arms of a column's slot are apart
  pub apart_row : (c : ℕ) → c < part.geometry.g → AreApart slots (rows_at part pointer c)
  apart_row c low = record {
    spares = λ k a there e. (let few = spare_low part is slots of w reached has (arm_no (rows_at part pointer c) k) a there e in let most = is.layout.geometry_is.spec.most_spares in omega (arith, few, most));
    names = names_apart;
    leaves = λ j k leaf a b. leaves j k leaf (kept_arm slots (rows_at part pointer c) j leaf a) (kept_arm slots (rows_at part pointer c) k leaf b) a b;
  } where
    names_apart : (j k : ℕ) (n : ArmName) → option_map name_of (slice_get (arms_of slots (l.slot_of pointer.first c)) j) ≡ Some n → option_map name_of (slice_get (arms_of slots (l.slot_of pointer.first c)) k) ≡ Some n → j ≡ k
    names_apart j k n a b = once_apart (arms_of slots (l.slot_of pointer.first c)) j k n (subst IsOnce (has.order (l.slot_of pointer.first c)) (fits.core.order.once (l.slot_of pointer.first c))) a b

    there_at : (k leaf : ℕ) (a : Arm) → arm_at slots (arm_no (rows_at part pointer c) k) ≡ Some a → leaf_on slots (rows_at part pointer c) k ≡ Some leaf
        → is_at_held l w.core.order (segment c (name_of a) leaf) (w.core.held key) ≡ true
    there_at k leaf a there on = subst (λ o. is_at_held l w.core.order (segment c (name_of a) leaf) o ≡ true) (sym stripe.held) (on_row c low k leaf a there on)

    lies_at : (n : ArmName) (leaf : ℕ) → LiesAt l w.core (segment c n leaf) leaf (l.sector_of (h.first + row) c)
    lies_at n leaf = record { h = h; held = stripe.held; leaf_is = refl; sector_is = refl }

    leaves : (j k leaf : ℕ) → (a : Arm) × (arm_at slots (arm_no (rows_at part pointer c) j) ≡ Some a) → (b : Arm) × (arm_at slots (arm_no (rows_at part pointer c) k) ≡ Some b)
        → leaf_on slots (rows_at part pointer c) j ≡ Some leaf → leaf_on slots (rows_at part pointer c) k ≡ Some leaf → j ≡ k
    leaves j k leaf x y on other =
        let one : segment c (name_of x.0) leaf ≡ segment c (name_of y.0) leaf
        = every_place l w (segment c (name_of x.0) leaf) (segment c (name_of y.0) leaf) leaf (l.sector_of (h.first + row) c) (lays part is) reached
        (inr (there_at j leaf x.0 x.1 on)) (inr (there_at k leaf y.0 y.1 other)) (lies_at (name_of x.0) leaf) (lies_at (name_of y.0) leaf) in
        names_apart j k (name_of y.0) (ap (option_map name_of) x.1 ∙ ap (λ (s : Segment). Some s.arm) one) (ap (option_map name_of) y.1)

  module _ (p : machine.Pass) (n : machine.Loan) (targets : List ArmAt) (targets_are : p.targets ≡ names_at slots targets) (key_is : n.key ≡ key) (stripe_is : n.stripe ≡ pointer.first) where
    -- a segment that the machine mends is on a target
    record IsOnTarget (s : Segment) : Type 0 where
      pub column : s.column < part.geometry.g
      pub row_is : h.first + s.row ≡ pointer.first
      pub inside : s.row < h.stripes
      pub key_same : n.key ≡ s.key
      pub leaf : leaf_at l w.core.order s.arm pointer.first ≡ Some s.leaf
      pub keeps : KeepsColumn part slots pointer targets s.column s.leaf

    parse : (s : Segment) → is_mended l w.core p n h s ≡ true → IsOnTarget s
    parse s mended = record {
      column = column;
      row_is = row_is;
      inside = is_below s.row h.stripes on.2;
      key_same = key_true n.key s.key front.0;
      leaf = leaf;
      keeps = record {
        k = named.k;
        at = named.at;
        below = listed_below targets named.k named.at named.listed;
        there = named.listed;
        slot = slot;
        answers = sym (answers_is part is slots of w reached has pointer run s.column column (rows_at part pointer s.column) (own_rows s.column) named.at.arm named.a there)
            ∙ ap (λ m. arms.answers l w.core m pointer.first) named.name ∙ subst (λ x. arms.answers l w.core s.arm x ≡ true) stripe_is top.1;
        lies = sym (leaf_at_is part is slots of w reached has pointer run s.column column (rows_at part pointer s.column) (own_rows s.column) named.at.arm named.a there) ∙ ap (λ m. leaf_at l w.core.order m pointer.first) named.name ∙ leaf;
      };
    } where
      top : ((key_eq n.key s.key && (h.first + s.row == n.stripe) && has_name p.targets s.arm && is_on l w.core.order s h) ≡ true) × (arms.answers l w.core s.arm n.stripe ≡ true)
      top = both_true (key_eq n.key s.key && (h.first + s.row == n.stripe) && has_name p.targets s.arm && is_on l w.core.order s h) (arms.answers l w.core s.arm n.stripe) mended

      front : (key_eq n.key s.key ≡ true) × ((h.first + s.row == n.stripe) ≡ true) × (has_name p.targets s.arm ≡ true) × (is_on l w.core.order s h ≡ true)
      front = four_true (key_eq n.key s.key) (h.first + s.row == n.stripe) (has_name p.targets s.arm) (is_on l w.core.order s h) top.0

      on : (has_name (w.core.order (l.slot_of h.first s.column)) s.arm ≡ true) × (nat_lt s.column part.geometry.g ≡ true) × (nat_lt s.row h.stripes ≡ true) × (lies l w.core.order s.arm (h.first + s.row) s.leaf ≡ true)
      on = four_true (has_name (w.core.order (l.slot_of h.first s.column)) s.arm) (nat_lt s.column part.geometry.g) (nat_lt s.row h.stripes) (lies l w.core.order s.arm (h.first + s.row) s.leaf) front.3

      column : s.column < part.geometry.g
      column = is_below s.column part.geometry.g on.1

      row_is : h.first + s.row ≡ pointer.first
      row_is = is_equal (h.first + s.row) n.stripe front.1 ∙ stripe_is

      leaf : leaf_at l w.core.order s.arm pointer.first ≡ Some s.leaf
      leaf = subst (λ x. leaf_at l w.core.order s.arm x ≡ Some s.leaf) row_is (on_leaf (leaf_at l w.core.order s.arm (h.first + s.row)) s.leaf on.3)

      named : IsNamedAt slots targets s.arm
      named = name_at slots targets s.arm (subst (λ ns. has_name ns s.arm ≡ true) targets_are front.2)

      in_order : has_name (w.core.order named.at.slot) s.arm ≡ true
      in_order = subst (λ ns. has_name ns s.arm ≡ true) (sym (has.order named.at.slot)) (name_listed (arms_of slots named.at.slot) named.at.arm s.arm (ap (option_map name_of) named.there ∙ ap Some named.name))

      slot : named.at.slot ≡ l.slot_of pointer.first s.column
      slot = owned.listed.one named.at.slot (l.slot_of h.first s.column) s.arm in_order on.0 ∙ slot_same s.column

      there : arm_at slots (arm_no (rows_at part pointer s.column) named.at.arm) ≡ Some named.a
      there = ap (arm_at slots) (λ i. record { slot = sym slot i; arm = named.at.arm }) ∙ named.there

      listed_below : (ts : List ArmAt) (k : ℕ) (at : ArmAt) → slice_get ts k ≡ Some at → k < length ts
      listed_below [] k at is = absurd (cc)
      listed_below (t ∷ ts) zero at is = omega arith
      listed_below (t ∷ ts) (suc k) at is = let less = listed_below ts k at is in omega (arith, less)

    -- and one on a target is mended by the machine
    build : (c leaf : ℕ) → c < part.geometry.g → KeepsColumn part slots pointer targets c leaf → (a : ArmName) × (is_mended l w.core p n h (segment c a leaf) ≡ true)
    build c leaf low keeps = (
      name_of z.0,
      true_both (key_eq n.key key && (h.first + row == n.stripe) && has_name p.targets (name_of z.0) && is_on l w.core.order (segment c (name_of z.0) leaf) h) (arms.answers l w.core (name_of z.0) n.stripe)
          (true_four (key_eq n.key key) (h.first + row == n.stripe) (has_name p.targets (name_of z.0)) (is_on l w.core.order (segment c (name_of z.0) leaf) h)
          (subst (λ k. key_eq n.key k ≡ true) key_is (key_refl n.key)) (equal (h.first + row) n.stripe (stripe.first ∙ sym stripe_is))
          (subst (λ ns. has_name ns (name_of z.0) ≡ true) (sym targets_are) (name_in slots targets keeps.k keeps.at z.0 keeps.there at_there)) (on_row c low keeps.at.arm leaf z.0 z.1 keeps.lies))
          (subst (λ x. arms.answers l w.core (name_of z.0) x ≡ true) (sym stripe_is)
          (answers_is part is slots of w reached has pointer run c low (rows_at part pointer c) (own_rows c) keeps.at.arm z.0 z.1 ∙ keeps.answers)),
    ) where
      z : (a : Arm) × (arm_at slots (arm_no (rows_at part pointer c) keeps.at.arm) ≡ Some a)
      z = kept_arm slots (rows_at part pointer c) keeps.at.arm leaf keeps.lies

      at_there : arm_at slots keeps.at ≡ Some z.0
      at_there = ap (arm_at slots) (λ i. record { slot = keeps.slot i; arm = keeps.at.arm }) ∙ z.1

    -- ---- the leaves that failed
    failed_there : (leaf c : ℕ) → c < part.geometry.g → KeepsColumn part slots pointer targets c leaf → MendsThere l w.core p n.stripe leaf
    failed_there leaf c low keeps = record {
      arm = name_of a.0;
      target = subst (λ ns. has_name ns (name_of a.0) ≡ true) (sym targets_are) (name_in slots targets keeps.k keeps.at a.0 keeps.there there);
      column = any_at part.geometry.g (λ d. has_name (w.core.order (l.slot_of n.stripe d)) (name_of a.0)) c low
          (subst (λ x. has_name (w.core.order (l.slot_of x c)) (name_of a.0) ≡ true) (sym stripe_is)
          (listed part is slots of w reached has pointer run c low (rows_at part pointer c) (own_rows c) keeps.at.arm (name_of a.0) (ap (option_map name_of) a.1)));
      lies = subst (λ x. leaf_at l w.core.order (name_of a.0) x ≡ Some leaf) (sym stripe_is) lies_there;
      answers = sym (ap (λ o. passes o (arms.leaf_answers w.core)) lies_there)
          ∙ answers_is part is slots of w reached has pointer run c low (rows_at part pointer c) (own_rows c) keeps.at.arm a.0 a.1 ∙ keeps.answers;
    } where
      a : (a : Arm) × (arm_at slots (arm_no (rows_at part pointer c) keeps.at.arm) ≡ Some a)
      a = kept_arm slots (rows_at part pointer c) keeps.at.arm leaf keeps.lies

      there : arm_at slots keeps.at ≡ Some a.0
      there = ap (arm_at slots) (λ i. record { slot = keeps.slot i; arm = keeps.at.arm }) ∙ a.1

      lies_there : leaf_at l w.core.order (name_of a.0) pointer.first ≡ Some leaf
      lies_there = lies_row c low keeps.at.arm leaf a.0 a.1 keeps.lies

    pub land_step : (failed : List ℕ) → FailsColumns part slots pointer targets part.geometry.g [] failed → p.kind ≡ Rebuild → w.core.pass ≡ Some p → w.loan ≡ Some n → unsourced l n ≤ l.parity
        → LandStripeStep l w p.number n.serial failed (land_stripe_state l w p n h failed)
    land_step failed f kind pass loan few = record {
      p = p;
      n = n;
      h = h;
      counts = record { pass_is = pass; number = refl; loan = loan; serial_is = refl; found = subst (λ k. w.core.held k ≡ Some h) (sym key_is) stripe.held };
      rebuild = kind;
      fail = λ leaf on. (let z = f.fail leaf on refl in (failed_there leaf z.0 z.1 z.2, few));
      made = refl;
    }

    -- ---- of what a column is made
    module _ (chosen : List (Option Source)) (named : (c : ℕ) → n.chosen c ≡ chosen_at chosen c) (pass : w.core.pass ≡ Some p) (apart : AreApartSources part w pointer.first chosen) where
      source_same : (c : ℕ) → c < part.geometry.g → (o : Option Source) → slice_index_or chosen c None ≡ o → sector_of_arm l w.core n c (option_map (λ (source : Source). source.arm) o) ≡ source_at part pointer c o
      source_same c low None e = refl
      source_same c low (Some source) e =
          ap (λ x. sector_on (leaf_at l w.core.order source.arm x) (l.sector_of x c)) stripe_is
          ∙ ap (λ o. sector_on o (l.sector_of pointer.first c)) (apart c source low e).lies

      one_same : (c : ℕ) → c < part.geometry.g → sector_of_arm l w.core n c (n.chosen c) ≡ source_at part pointer c (slice_index_or chosen c None)
      one_same c low = ap (sector_of_arm l w.core n c) (named c) ∙ source_same c low (slice_index_or chosen c None) refl

      below_same : (count : ℕ) → count ≤ part.geometry.g → sectors_below l w.core n count ≡ sources_below part pointer chosen count
      below_same zero low = refl
      below_same (suc c) low = ap₂ (λ a b. a ++ b) (below_same c (omega (arith, low))) (one_same c (omega (arith, low)))

      sources_same : (c : ℕ) → c < part.geometry.g → sources_of l w.core n c ≡ sources_for part pointer chosen c
      sources_same c low = at (slice_index_or chosen c None) refl
        where
          at : (o : Option Source) → slice_index_or chosen c None ≡ o → sources_of l w.core n c ≡ sources_for part pointer chosen c
          at None e =
              ap (λ o. if is_none o then sectors_below l w.core n part.geometry.g else sector_of_arm l w.core n c o) (named c ∙ ap (option_map (λ (source : Source). source.arm)) e)
              ∙ below_same part.geometry.g (omega arith) ∙ sym (ap (own_or_all part pointer chosen c) e)
          at (Some source) e =
              ap (λ o. if is_none o then sectors_below l w.core n part.geometry.g else sector_of_arm l w.core n c (n.chosen c)) (named c ∙ ap (option_map (λ (source : Source). source.arm)) e)
              ∙ one_same c low ∙ ap (source_at part pointer c) e ∙ sym (ap (own_or_all part pointer chosen c) e)

      -- ---- the landing
      module _ (x y : Told) (failed : List ℕ) (pieces : Pieces) (read solved : StripeValue) (missing : List ℕ) (lands : LandsBelow part slots pointer targets part.geometry.g solved.columns chosen failed x y)
          (right_is : IsSolved part w n h pieces read solved missing x) where
        columns_apart_are : AreColumnsApart part slots pointer targets
        columns_apart_are = columns_land_apart part is slots of w reached has pointer run targets

        are_free : (c : ℕ) → c < part.geometry.g → AreFree (landed_below part slots pointer targets part.geometry.g) (sources_for part pointer chosen c)
        are_free = sources_are_free part is slots of w reached has pointer run targets chosen p pass targets_are apart apart_row

        fine : (s : Segment) → IsOnTarget s → fails l w.core failed s.arm n.stripe ≡ false → has_number failed s.leaf ≡ false
        fine s o sound =
            subst (λ m. passes m (has_number failed) ≡ false) o.leaf (subst (λ f. passes (leaf_at l w.core.order s.arm f) (has_number failed) ≡ false) stripe_is sound)

        stands : (s : Segment) → IsOnTarget s → fails l w.core failed s.arm n.stripe ≡ false
            → StandsMended s.leaf (l.sector_of pointer.first s.column) (column_at solved.columns s.column) (sources_for part pointer chosen s.column) x y
        stands s o sound = lands.each columns_apart_are are_free s.column s.leaf o.column o.keeps (fine s o sound)

        reads_there : (s : Segment) → IsOnTarget s → fails l w.core failed s.arm n.stripe ≡ false → reads_at l h s y ≡ Some (column_at solved.columns s.column)
        reads_there s o sound = ap (λ f. y.reads s.leaf (l.sector_of f s.column)) o.row_is ∙ (stands s o sound).stands

        is_there : (o : Option (List ℕ)) (v : List ℕ) → o ≡ Some v → IsSome o
        is_there None v e = absurd (cc)
        is_there (Some u) v e = refl

        pub mends : MendsStripe l w p n h failed pieces x y
        mends = record {
          writes = record {
            named = landed_below part slots pointer targets part.geometry.g;
            lies = lies_there;
            others = lands.leaves;
          };
          there = λ s mended sound. is_there (reads_at l h s y) (column_at solved.columns s.column) (reads_there s (parse s mended) sound);
          harmed = λ s mended sound. harm s (parse s mended) sound;
          reads = λ s mended sound harmless sure known. reads s (parse s mended) sound harmless sure known;
        } where
          lies_there : (leaf sector : ℕ) → landed_below part slots pointer targets part.geometry.g leaf sector ≡ true → LiesThere l h (is_mended l w.core p n h) leaf sector
          lies_there leaf sector on =
              let z = any_found part.geometry.g (λ c. mended_below slots (rows_at part pointer c) targets (length targets) leaf sector) on in
              let b = build z.0 leaf z.1 (finds slots (rows_at part pointer z.0) targets (length targets) leaf sector z.2) in
              record {
                s = segment z.0 b.0 leaf;
                is = b.1;
                leaf_is = refl;
                sector_is = ap (λ f. l.sector_of f z.0) stripe.first ∙ finds_sector slots (rows_at part pointer z.0) targets (length targets) leaf sector z.2;
              }

          harm : (s : Segment) → IsOnTarget s → fails l w.core failed s.arm n.stripe ≡ false → harmed_at l h s y ≡ is_source_harmed l w.core x n s
          harm s o sound =
              ap (λ f. y.harmed s.leaf (l.sector_of f s.column)) o.row_is ∙ (stands s o sound).harmed
              ∙ ap (λ a. taints a x) (sym (sources_same s.column o.column)) ∙ taints_are l w.core n s x

          reads : (s : Segment) → IsOnTarget s → fails l w.core failed s.arm n.stripe ≡ false → is_source_harmed l w.core x n s ≡ false → is_source_aside l w n s ≡ false
              → IsSome (piece_of pieces s) → reads_at l h s y ≡ piece_of pieces s
          reads s o sound harmless sure known =
              reads_there s o sound
              ∙ right part.geometry l w n h pieces read solved missing x s refl right_is.are right_is.stands right_is.solves right_is.content o.inside o.column o.key_same (o.row_is ∙ sym stripe_is) harmless sure known
