-- What a scrub restores of columns that were taken right is the block's own, so that it writes on no arm that is clean for the block where its sectors are sound.
use Rattle.std.proofs.Common.{arith, ◌≡◌, ◌⊎◌, ◌+◌, ◌*◌, ◌==◌, ◌<◌, ◌&&◌, ◌∙◌, ◌∷◌, ℕ, zero, suc, Bool, true, false, nat_lt, List, Option, None, Some, Vec, Global, refl, sym, ap, subst, inl, inr, length, take, get_or, slice_get}
use Rattle.std.specs.Prelude.{Contains, IsSome}
use Rattle.std.proofs.lemmas.Bool.{cases_lt}
use Rattle.std.proofs.lemmas.List.{take_all}
use Rattle.std.proofs.lemmas.List.Elements.{Contains-append_right}
use Rattle.std.proofs.lemmas.Option.{get_or_from_slice_get, slice_get-get_or}
use Rattle.std.proofs.Math.Seq.{take-add}
use Rattle.draid_rack.specs.Rack.{Told}
use Rattle.draid_spec.specs.declared.layout.Geometry.{Geometry}
use Rattle.draid_spec.specs.Geometry.{IsGeometry}
use Rattle.draid_perm.specs.declared.perms.Perms.{Perms}
use Rattle.draid_parity.specs.Columns.{column_at}
use Rattle.draid_block.specs.Blocks.{AreColumns, BlockValue, IsContent, bytes_of, cut_of}
use Rattle.draid_block.specs.Columns.{Cut}
use Rattle.draid_block.specs.Order.{IsTried}
use Rattle.draid_block.specs.Solving.{FailsOf, GivesOf, IsFetched, IsFirst, IsReadable, IsRestoredOf, absent_columns, sets_of}
use Rattle.draid_block.specs.declared.solve.Fetched.{Fetched}
use Rattle.draid_block.proofs.Complete.{solution_is}
use Rattle.draid_block.proofs.Filling.{bytes_are}
use Rattle.draid_block.proofs.Held.{absent_contains}
use Rattle.draid_block.proofs.One.{columns_same}
use Rattle.draid_block.proofs.Order.{order_only}
use Rattle.draid_block.proofs.Parts.{some_sector}
use Rattle.draid_machine.specs.After.{is_written}
use Rattle.draid_machine.specs.Arms.{is_clean, leaf_at, lies, logged, passes}
use Rattle.draid_machine.specs.Claims.{is_on}
use Rattle.draid_machine.specs.Created.{IsReached}
use Rattle.draid_machine.specs.Names.{has_name, is_block, key_eq}
use Rattle.draid_machine.specs.State as machine
use Rattle.draid_machine.specs.declared.event.Patched.{Patched}
use Rattle.draid_machine.specs.declared.names.ArmName.{ArmName}
use Rattle.draid_machine.specs.declared.names.Held.{Held}
use Rattle.draid_machine.specs.declared.names.Key.{Key}
use Rattle.draid_machine.specs.declared.names.Segment.{Segment}
use Rattle.draid_machine.proofs.Lent.{every_loan}
use Rattle.draid_machine.proofs.Losing.{every_segment}
use Rattle.draid_machine.proofs.Rows.{every_history, reached_sound}
use Rattle.draid_machine.proofs.Small.{below, both_true, equal, four_true, is_below, key_refl, key_true, not_true, some_same, true_both, true_four}
use Rattle.draid_segments.specs.Acts.{HealsBlock, is_on_clean}
use Rattle.draid_segments.specs.Segments.{Backed, Pieces, piece_of, reads_at, sector_at}
use Rattle.draid_shard.specs.Columns.{row_bytes}
use Rattle.draid_session.specs.Holds.{View, layout_at}
use Rattle.draid_session.specs.Passes as passes
use Rattle.draid_session.proofs.Landing.{one_leaf}
use Rattle.draid_session.proofs.Unrepaired.{same_slots}

abbrev Columns : Type 0
Columns = List (Option (Vec ℕ Global))

-- ---- columns of the same rows

same_front : (size : ℕ) (a b : List ℕ) (n : ℕ) → ((row : ℕ) → row < n → row_bytes size a row ≡ row_bytes size b row) → take (n * size) a ≡ take (n * size) b
same_front size a b zero same = let e : 0 * size ≡ 0 = omega arith in rw e refl
same_front size a b (suc n) same =
    let e : suc n * size ≡ n * size + size = grind arith in
    let before : take (n * size) a ≡ take (n * size) b = same_front size a b n (λ row less. same row (omega (arith, less))) in
    rw (e, take-add (n * size) size a, take-add (n * size) size b, before, same n (omega arith)) refl

same_rows : (size : ℕ) (a b : List ℕ) (n : ℕ) → length a ≡ n * size → length b ≡ n * size → ((row : ℕ) → row < n → row_bytes size a row ≡ row_bytes size b row) → a ≡ b
same_rows size a b n la lb same = sym (take_all (n * size) a (omega (arith, la))) ∙ same_front size a b n same ∙ take_all (n * size) b (omega (arith, lb))

-- one of a number of things is so, or each of them is otherwise
all_or : (Q : Type 0) (P : ℕ → Type 0) (k : ℕ) → ((i : ℕ) → i < k → Q ⊎ P i) → Q ⊎ ((i : ℕ) → i < k → P i)
all_or Q P zero each = inr (λ i less. absurd (omega (arith, less)))
all_or Q P (suc k) each = elim (all_or Q P k (λ i less. each i (omega (arith, less)))) [
  | inl one ↦ inl one
  | inr before ↦ elim (each k (omega arith)) [
    | inl one ↦ inl one
    | inr here ↦ inr (λ i less. elim (cases_lt i k) [
      | inl lt ↦ before i lt
      | inr ge ↦ subst P (let e : k ≡ i = omega (arith, less, ge) in e) here
    ])
  ]
]

-- ---- what is restored

-- a column is absent, or the block's own
abbrev pub IsOwn : Columns → List (List ℕ) → ℕ → Type 0
IsOwn columns whole c = (slice_get columns c ≡ Some None) ⊎ ((bytes : Vec ℕ Global) × (slice_get columns c ≡ Some (Some bytes)) × (bytes.items ≡ column_at whole c))

module _ (geometry : Geometry) (fetched : Fetched) (content : List ℕ) (whole : List (List ℕ)) (g : IsGeometry geometry) (is : IsFetched (cut_of geometry) fetched) (of : IsContent fetched.pointer content)
    (are : AreColumns (cut_of geometry) content whole) (own : (c : ℕ) → c < geometry.spec.parity + geometry.spec.ndata → IsOwn fetched.columns.items whole c) where
  abbrev cut : Cut
  cut = cut_of geometry

  good : (set : List ℕ) → IsTried cut.parity (cut.parity + cut.ndata) (absent_columns fetched.columns.items) set → (i : ℕ) → i < cut.parity + cut.ndata → (Contains set i → ⊥) → IsOwn fetched.columns.items whole i
      → (c : Vec ℕ Global) × (slice_get fetched.columns.items i ≡ Some (Some c)) × (c.items ≡ column_at whole i)
  good set tried i less out (inl gone) =
      let count = is.count in
      absurd (out (tried.absent i (absent_contains fetched.columns.items (length fetched.columns.items) i (omega (arith, less, count)) (get_or_from_slice_get fetched.columns.items i None None gone))))
  good set tried i less out (inr there) = there

  -- with any set that is tried the block is readable
  readable_but : (set : List ℕ) → IsTried cut.parity (cut.parity + cut.ndata) (absent_columns fetched.columns.items) set → (r : IsReadable cut fetched content set) × (r.whole ≡ whole)
  readable_but set tried = (
    record {
      content = of;
      whole = whole;
      columns = are;
      few = tried.few;
      ascending = tried.ascending;
      in_range = tried.in_range;
      good = λ i less out. good set tried i less out (own i less);
    },
    refl,
  )

  bytes_same : (bytes : List ℕ) → IsFirst (GivesOf cut fetched bytes) (FailsOf cut fetched) (sets_of cut fetched) → bytes ≡ content
  bytes_same bytes first =
      let there : Contains (sets_of cut fetched) first.set
      = subst (λ (sets : List (List ℕ)). Contains sets first.set) (sym first.order) (Contains-append_right first.before (first.set ∷ first.after) first.set (0, omega arith, refl)) in
      let r = readable_but first.set (order_only cut.parity (cut.parity + cut.ndata) (absent_columns fetched.columns.items) first.set there) in
      let same : first.given.0 ≡ whole = first.given.1.only r.0.whole (solution_is geometry fetched content first.set is r.0) ∙ r.1 in
      first.given.2 ∙ ap (λ (columns : List (List ℕ)). bytes_of cut fetched.pointer.len columns) same ∙ ap (λ (n : ℕ). bytes_of cut n whole) (sym of.len)
      ∙ bytes_are cut content whole g.spec.some_data (some_sector geometry g) are.sectors

  -- the block's columns are restored
  pub columns_own : (block : BlockValue) → IsRestoredOf cut fetched block → block.columns ≡ whole
  columns_own block r =
      columns_same cut content block.columns whole
      (subst (λ (w : List ℕ). AreColumns cut w block.columns) (bytes_same block.bytes r.first) (subst (λ (k : Cut). AreColumns k block.bytes block.columns) r.cut_is r.columns)) are

-- ---- what is read and written on clean arms

module _ (geometry : Geometry) (perms : Perms) (v : View) (lay : machine.IsLayout (layout_at geometry perms v)) (reached : IsReached (layout_at geometry perms v) v.world) (pieces : Pieces) (x : Told)
    (backed : Backed (layout_at geometry perms v) pieces v.world x) (n : machine.Loan) (h : Held) (loan : v.world.loan ≡ Some n) (held : v.world.core.held n.key ≡ Some h) where
  abbrev l : machine.Layout
  l = layout_at geometry perms v

  abbrev q : machine.Core
  q = v.world.core

  live : is_block h.stage ≡ true
  live =
      let fits = (reached_sound l lay v.world reached).loan n loan in
      subst (λ (i : Held). is_block i.stage ≡ true) (some_same (q.held n.key) fits.h h fits.found held) fits.block

  -- what is known of such a segment
  pub record IsThere (s : Segment) : Type 0 where
    pub key : n.key ≡ s.key
    pub listed : has_name (q.order (l.slot_of h.first s.column)) s.arm ≡ true
    pub column : s.column < l.columns
    pub row : s.row < h.stripes
    pub lies_there : lies l q.order s.arm (h.first + s.row) s.leaf ≡ true
    pub clean : is_clean q h.birth s.arm ≡ true

  pub there_of : (s : Segment) → is_on_clean l q n h s ≡ true → IsThere s
  there_of s at =
      let both = both_true (key_eq n.key s.key && is_on l q.order s h) (is_clean q h.birth s.arm) at in
      let own = both_true (key_eq n.key s.key) (is_on l q.order s h) both.0 in
      let on = four_true (has_name (q.order (l.slot_of h.first s.column)) s.arm) (nat_lt s.column l.columns) (nat_lt s.row h.stripes) (lies l q.order s.arm (h.first + s.row) s.leaf) own.1 in
      record {
        key = key_true n.key s.key own.0;
        listed = on.0;
        column = is_below s.column l.columns on.1;
        row = is_below s.row h.stripes on.2;
        lies_there = on.3;
        clean = both.1;
      }

  own_held : (s : Segment) → IsThere s → q.held s.key ≡ Some h
  own_held s t = subst (λ (k : Key). q.held k ≡ Some h) t.key held

  present_at : (s : Segment) → IsThere s → v.world.present s ≡ true
  present_at s t =
      let arm = (every_segment l v.world lay reached).listed.data_of (l.slot_of h.first s.column) s.arm t.listed in
      let clean : arm.0.log h.birth ≡ false = subst (λ o. logged o h.birth ≡ false) arm.1 (not_true (logged (q.arm s.arm) h.birth) t.clean) in
      (every_history l v.world lay reached).clean s h arm.0
      (record { held = own_held s t; arm = arm.1; listed = t.listed; column = t.column; row = t.row; lies = t.lies_there }) live clean

  -- it is harmed or in doubt, or reads as its piece
  reads_right : (s : Segment) → IsThere s → IsSome (piece_of pieces s) → passes.IsUnsure geometry perms v h x.harmed s ⊎ (reads_at l h s x ≡ piece_of pieces s)
  reads_right s t known = by (x.harmed s.leaf (sector_at l h s)) (v.world.aside s) refl refl
    where
      by : (a b : Bool) → x.harmed s.leaf (sector_at l h s) ≡ a → v.world.aside s ≡ b → passes.IsUnsure geometry perms v h x.harmed s ⊎ (reads_at l h s x ≡ piece_of pieces s)
      by true b harm sure = inl (inl harm)
      by false true harm sure = inl (inr sure)
      by false false harm sure = inr (backed.holds.reads s h (record { held = own_held s t; present = present_at s t; sure = sure }) harm known)

  -- what a landing writes of the block's own pieces was harmed or in doubt
  pub needed_own : (failed : List ℕ) (patched : List Patched) (whole : Bool) (written : Pieces) (y : Told) → HealsBlock l q n h failed patched whole written x y
      → (s : Segment) → is_on_clean l q n h s ≡ true → is_written l q n h patched s ≡ true → piece_of written s ≡ piece_of pieces s → IsSome (piece_of pieces s) → passes.IsUnsure geometry perms v h x.harmed s
  needed_own failed patched whole written y acts s at is same known = elim (reads_right s (there_of s at) known) [
    | inl unsure ↦ unsure
    | inr reads ↦ absurd (acts.needed s at is (subst (λ (o : Option (List ℕ)). IsSome o) (sym same) known) (reads ∙ sym same))
  ]

  -- ---- columns

  -- an arm told these bytes of a column
  pub record IsReadOn (size c : ℕ) (arm : ArmName) (bytes : List ℕ) : Type 0 where
    pub leaf : ℕ
    pub on : leaf_at l q.order arm h.first ≡ Some leaf
    pub reads : (row : ℕ) → row < h.stripes → x.reads leaf (l.sector_of (h.first + row) c) ≡ Some (row_bytes size bytes row)

  module _ (size : ℕ) (columns : Columns) (whole : List (List ℕ)) (all : length columns ≡ l.columns) (long : (c : ℕ) (bytes : Vec ℕ Global) → slice_get columns c ≡ Some (Some bytes) → length bytes.items ≡ h.stripes * size)
      (whole_long : (c : ℕ) → c < l.columns → length (column_at whole c) ≡ h.stripes * size) (rows : (c row : ℕ) → c < l.columns → row < h.stripes → pieces n.key c row ≡ Some (row_bytes size (column_at whole c) row))
      (none : (c : ℕ) → c < l.columns → n.chosen c ≡ None → slice_get columns c ≡ Some None)
      (told : (c : ℕ) (arm : ArmName) (bytes : Vec ℕ Global) → c < l.columns → n.chosen c ≡ Some arm → slice_get columns c ≡ Some (Some bytes) → IsReadOn size c arm bytes.items) where
    abbrev Wrong : Type 0
    Wrong = passes.TakesWrong geometry perms v n h x.harmed

    module _ (c : ℕ) (arm : ArmName) (bytes : List ℕ) (less : c < l.columns) (taken : n.chosen c ≡ Some arm) (clean : is_clean q h.birth arm ≡ true) (r : IsReadOn size c arm bytes) (row : ℕ) (within : row < h.stripes) where
      abbrev s : Segment
      s = record { key = n.key; column = c; arm = arm; leaf = r.leaf; row = row }

      listed : has_name (q.order (l.slot_of h.first c)) arm ≡ true
      listed =
          subst (λ slot. has_name (q.order slot) arm ≡ true) (same_slots l lay v.world reached n h loan held c) ((every_loan l v.world n lay reached loan).chosen c arm taken).1

      on : is_on l q.order s h ≡ true
      on =
          let band = (reached_sound l lay v.world reached).core.runs n.key h row held within in
          let own : leaf_at l q.order arm (h.first + row) ≡ Some r.leaf = one_leaf l lay q.order arm (h.first + row) h.first band ∙ r.on in
          true_four (has_name (q.order (l.slot_of h.first c)) arm) (nat_lt c l.columns) (nat_lt row h.stripes) (lies l q.order arm (h.first + row) r.leaf)
          listed (below c l.columns less) (below row h.stripes within) (ap (λ o. passes o (λ m. m == r.leaf)) own ∙ equal r.leaf r.leaf refl)

      on_clean : is_on_clean l q n h s ≡ true
      on_clean = true_both (key_eq n.key n.key && is_on l q.order s h) (is_clean q h.birth arm) (true_both (key_eq n.key n.key) (is_on l q.order s h) (key_refl n.key) on) clean

      row_or : Wrong ⊎ (row_bytes size bytes row ≡ row_bytes size (column_at whole c) row)
      row_or =
          let piece : pieces n.key c row ≡ Some (row_bytes size (column_at whole c) row) = rows c row less within in
          elim (reads_right s (there_of s on_clean) (subst (λ (o : Option (List ℕ)). IsSome o) (sym piece) refl)) [
            | inl unsure ↦ inl (record { column = c; arm = arm; taken = taken; why = inr (s, on_clean, refl, refl, unsure) })
            | inr reads ↦ inr (some_same (x.reads r.leaf (l.sector_of (h.first + row) c)) (row_bytes size bytes row) (row_bytes size (column_at whole c) row) (r.reads row within) (reads ∙ piece))
          ]

    column_or : (c : ℕ) → c < l.columns → Wrong ⊎ IsOwn columns whole c
    column_or c less = by (n.chosen c) refl
      where
        rows_of : (arm : ArmName) (bytes : Vec ℕ Global) → n.chosen c ≡ Some arm → is_clean q h.birth arm ≡ true → slice_get columns c ≡ Some (Some bytes) → Wrong ⊎ IsOwn columns whole c
        rows_of arm bytes taken clean at = elim (all_or Wrong (λ row. row_bytes size bytes.items row ≡ row_bytes size (column_at whole c) row) h.stripes
            (λ row within. row_or c arm bytes.items less taken clean (told c arm bytes less taken at) row within)) [
              | inl wrong ↦ inl wrong
              | inr same ↦ inr (inr (bytes, at, same_rows size bytes.items (column_at whole c) h.stripes (long c bytes at) (whole_long c less) same))
            ]

        read : (arm : ArmName) → n.chosen c ≡ Some arm → is_clean q h.birth arm ≡ true → (o : Option (Vec ℕ Global)) → slice_get columns c ≡ Some o → Wrong ⊎ IsOwn columns whole c
        read arm taken clean None at = inr (inl at)
        read arm taken clean (Some bytes) at = rows_of arm bytes taken clean at

        on_arm : (arm : ArmName) → n.chosen c ≡ Some arm → (b : Bool) → is_clean q h.birth arm ≡ b → Wrong ⊎ IsOwn columns whole c
        on_arm arm taken false dirty = inl (record { column = c; arm = arm; taken = taken; why = inl dirty })
        on_arm arm taken true clean = read arm taken clean (get_or columns c None) (slice_get-get_or columns c None (subst (λ k. c < k) (sym all) less))

        by : (o : Option ArmName) → n.chosen c ≡ o → Wrong ⊎ IsOwn columns whole c
        by None taken = inr (inl (none c less taken))
        by (Some arm) taken = on_arm arm taken (is_clean q h.birth arm) refl

    -- a column was taken wrong, or each is absent or the block's own
    pub own_or : Wrong ⊎ ((c : ℕ) → c < l.columns → IsOwn columns whole c)
    own_or = all_or Wrong (IsOwn columns whole) l.columns column_or
