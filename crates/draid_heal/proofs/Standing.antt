-- A restored block landed as the state machine says.
use Rattle.std.proofs.Common.{arith, ◌≡◌, ◌==◌, ◌+◌, ◌-◌, ◌<◌, ◌≤◌, ◌&&◌, ◌∷◌, ◌∙◌, not, [], ℕ, zero, suc, Bool, true, false, List, Option, Some, refl, sym, ap, subst, inl, inr, length, slice_get}
use Rattle.std.specs.Prelude.{IsSome, nat_le, nat_lt}
use Rattle.draid_columns.specs.Columns.{row_of}
use Rattle.draid_machine.specs.After.{has_healed, has_landed, is_written, was_written}
use Rattle.draid_machine.specs.Arms.{answers, fails, is_clean, leaf_answers, leaf_at, lies, passes}
use Rattle.draid_machine.specs.Claims.{is_on}
use Rattle.draid_machine.specs.Names.{has_name, has_number, key_eq, name_eq}
use Rattle.draid_machine.specs.State as machine
use Rattle.draid_machine.specs.Step.{IsWhole, Patches}
use Rattle.draid_machine.specs.declared.event.Patched.{Patched}
use Rattle.draid_machine.specs.declared.names.ArmName.{ArmName}
use Rattle.draid_machine.specs.declared.names.Held.{Held}
use Rattle.draid_machine.specs.declared.names.Segment.{Segment}
use Rattle.draid_machine.proofs.Small.{below, both_true, either_true, equal, four_true, is_below, is_equal, is_low, key_refl, key_true, name_refl, name_true, not_true, some_same, true_both, true_four, true_left, true_right}
use Rattle.draid_parity.specs.Columns.{column_at}
use Rattle.draid_rack.specs.Rack.{Told}
use Rattle.draid_rack.proofs.Moments.{only_more, only_on}
use Rattle.draid_segments.specs.Acts.{HealsBlock, LiesThere, is_on_answering, is_on_clean, is_settled}
use Rattle.draid_segments.specs.Segments.{Pieces, harmed_at, piece_of, reads_at, sector_at, soft_at}
use Rattle.draid_shard.specs.Columns.{ArePieces}
use Rattle.draid_heal.specs.Arms.{HealsArms, ListsArm, ListsArms, StandsArm}
use Rattle.draid_shard.specs.Spots.{AreSpots, HasSpot, IsSpot, IsStraight, rows_for}
use Rattle.draid_heal.specs.Stands.{SettledAt, SettlesArms}
use Rattle.draid_shard.specs.declared.loan.Spot.{Spot}
use Rattle.draid_heal.proofs.Armed.{get_upto, still_firm}

-- ---- what was noted, by column and arm
pub record IsPart (patched : List Patched) (rows : Patched → List ℕ) (c : ℕ) (n : ArmName) (r : ℕ) : Type 0 where
  pub k : ℕ
  pub part : Patched
  pub noted : slice_get patched k ≡ Some part
  pub column_is : part.column ≡ c
  pub arm_is : part.arm ≡ n
  pub has : has_number (rows part) r ≡ true

three_true : (a b c : Bool) → (a && b && c) ≡ true → (a ≡ true) × (b ≡ true) × (c ≡ true)
three_true a b c e = let x = both_true (a && b) c e in let y = both_true a b x.0 in (y.0, y.1, x.1)

true_three : (a b c : Bool) → a ≡ true → b ≡ true → c ≡ true → (a && b && c) ≡ true
true_three a b c x y z = true_both (a && b) c (true_both a b x y) z

next_part : (d : Patched) (ds : List Patched) (rows : Patched → List ℕ) (c : ℕ) (n : ArmName) (r : ℕ) → IsPart ds rows c n r → IsPart (d ∷ ds) rows c n r
next_part d ds rows c n r p = record { k = suc p.k; part = p.part; noted = p.noted; column_is = p.column_is; arm_is = p.arm_is; has = p.has }

this_part : (d : Patched) (ds : List Patched) (rows : Patched → List ℕ) (c : ℕ) (n : ArmName) (r : ℕ) → ((d.column == c) && name_eq d.arm n && has_number (rows d) r) ≡ true → IsPart (d ∷ ds) rows c n r
this_part d ds rows c n r at =
    let a = three_true (d.column == c) (name_eq d.arm n) (has_number (rows d) r) at in
    record { k = 0; part = d; noted = refl; column_is = is_equal d.column c a.0; arm_is = name_true d.arm n a.1; has = a.2 }

written_part : (patched : List Patched) (c : ℕ) (n : ArmName) (r : ℕ) → was_written patched c n r ≡ true → IsPart patched (λ p. p.written.items) c n r
written_part [] c n r at = absurd (cc)
written_part (d ∷ ds) c n r at = elim (either_true ((d.column == c) && name_eq d.arm n && has_number d.written.items r) (was_written ds c n r) at) [
  | inl own ↦ this_part d ds (λ p. p.written.items) c n r own
  | inr other ↦ next_part d ds (λ p. p.written.items) c n r (written_part ds c n r other)
]

pub landed_part : (patched : List Patched) (c : ℕ) (n : ArmName) (r : ℕ) → has_landed patched c n r ≡ true → IsPart patched (λ p. p.landed.items) c n r
landed_part [] c n r at = absurd (cc)
landed_part (d ∷ ds) c n r at = elim (either_true ((d.column == c) && name_eq d.arm n && has_number d.landed.items r) (has_landed ds c n r) at) [
  | inl own ↦ this_part d ds (λ p. p.landed.items) c n r own
  | inr other ↦ next_part d ds (λ p. p.landed.items) c n r (landed_part ds c n r other)
]

own_test : (d : Patched) (rows : List ℕ) (r : ℕ) → has_number rows r ≡ true → ((d.column == d.column) && name_eq d.arm d.arm && has_number rows r) ≡ true
own_test d rows r has = true_three (d.column == d.column) (name_eq d.arm d.arm) (has_number rows r) (equal d.column d.column refl) (name_refl d.arm) has

part_written : (patched : List Patched) (k : ℕ) (part : Patched) (r : ℕ) → slice_get patched k ≡ Some part → has_number part.written.items r ≡ true → was_written patched part.column part.arm r ≡ true
part_written [] k part r at has = absurd (cc)
part_written (d ∷ ds) zero part r at has = let same : d ≡ part = some_same (Some d) d part refl at in
    subst (λ (p : Patched). was_written (d ∷ ds) p.column p.arm r ≡ true) same
    (true_left ((d.column == d.column) && name_eq d.arm d.arm && has_number d.written.items r) (was_written ds d.column d.arm r)
    (own_test d d.written.items r (subst (λ (p : Patched). has_number p.written.items r ≡ true) (sym same) has)))
part_written (d ∷ ds) (suc k) part r at has =
    true_right ((d.column == part.column) && name_eq d.arm part.arm && has_number d.written.items r) (was_written ds part.column part.arm r) (part_written ds k part r at has)

part_landed : (patched : List Patched) (k : ℕ) (part : Patched) (r : ℕ) → slice_get patched k ≡ Some part → has_number part.landed.items r ≡ true → has_landed patched part.column part.arm r ≡ true
part_landed [] k part r at has = absurd (cc)
part_landed (d ∷ ds) zero part r at has = let same : d ≡ part = some_same (Some d) d part refl at in
    subst (λ (p : Patched). has_landed (d ∷ ds) p.column p.arm r ≡ true) same
    (true_left ((d.column == d.column) && name_eq d.arm d.arm && has_number d.landed.items r) (has_landed ds d.column d.arm r)
    (own_test d d.landed.items r (subst (λ (p : Patched). has_number p.landed.items r ≡ true) (sym same) has)))
part_landed (d ∷ ds) (suc k) part r at has =
    true_right ((d.column == part.column) && name_eq d.arm part.arm && has_number d.landed.items r) (has_landed ds part.column part.arm r) (part_landed ds k part r at has)

pub there_is : {A : Type 0} (xs : List A) (k : ℕ) → k < length xs → (a : A) × (slice_get xs k ≡ Some a)
there_is [] k less = absurd (omega (arith, less))
there_is (y ∷ ys) zero less = (y, refl)
there_is (y ∷ ys) (suc k) less = there_is ys k (omega (arith, less))

module _ (l : machine.Layout) (q : machine.Core) (h : Held) (size : ℕ) (spots : List Spot) (patched : List Patched) (failed : List ℕ)
    (are : AreSpots l q h spots) (lists : ListsArms h.stripes size spots patched (length spots) failed) where
  -- an arm with what was noted of it
  pub record Noted (c : ℕ) (n : ArmName) : Type 0 where
    pub k : ℕ
    pub spot : Spot
    pub part : Patched
    pub there : slice_get spots k ≡ Some spot
    pub noted : slice_get patched k ≡ Some part
    pub column_is : spot.column ≡ c
    pub arm_is : spot.arm ≡ n

  has_spot : (c : ℕ) (n : ArmName) → HasSpot spots c n → Noted c n
  has_spot c n s =
      let less = get_upto spots s.k s.spot s.there in
      let many = lists.many in
      let p = there_is patched s.k (omega (arith, less, many)) in
      record { k = s.k; spot = s.spot; part = p.0; there = s.there; noted = p.1; column_is = s.column_is; arm_is = s.arm_is }

  -- a part is that of its arm
  pub record PartOf (rows : Patched → List ℕ) (c : ℕ) (n : ArmName) (r : ℕ) : Type 0 where
    pub at : Noted c n
    pub has : has_number (rows at.part) r ≡ true

  is_part : (rows : Patched → List ℕ) (c : ℕ) (n : ArmName) (r : ℕ) → IsPart patched rows c n r → PartOf rows c n r
  is_part rows c n r p =
      let less = get_upto patched p.k p.part p.noted in
      let many = lists.many in
      let s = there_is spots p.k (omega (arith, less, many)) in
      let own = lists.each p.k s.0 p.part s.1 p.noted in
      record {
        at = record { k = p.k; spot = s.0; part = p.part; there = s.1; noted = p.noted; column_is = sym own.column_is ∙ p.column_is; arm_is = sym own.arm_is ∙ p.arm_is };
        has = p.has;
      }

  spot_of : (c : ℕ) (n : ArmName) (at : Noted c n) → IsSpot l q h at.spot
  spot_of c n at = are.each at.k at.spot at.there

  lists_of : (c : ℕ) (n : ArmName) (at : Noted c n) → ListsArm (rows_for h.stripes size at.spot) at.spot at.part failed
  lists_of c n at = lists.each at.k at.spot at.part at.there at.noted

  -- of a noted arm, by its own name
  lies_on_it : (c : ℕ) (n : ArmName) (at : Noted c n) → leaf_at l q.order n h.first ≡ Some at.spot.leaf
  lies_on_it c n at = ap (λ m. leaf_at l q.order m h.first) (sym at.arm_is) ∙ (spot_of c n at).lies

  column_below : (c : ℕ) (n : ArmName) (at : Noted c n) → c < l.columns
  column_below c n at = subst (λ c. c < l.columns) at.column_is (spot_of c n at).column

  listed_it : (c : ℕ) (n : ArmName) (at : Noted c n) → has_name (q.order (l.slot_of h.first c)) n ≡ true
  listed_it c n at = subst (λ c. has_name (q.order (l.slot_of h.first c)) n ≡ true) at.column_is (subst (λ n. has_name (q.order (l.slot_of h.first at.spot.column)) n ≡ true) at.arm_is (spot_of c n at).listed)

  answers_it : (c : ℕ) (n : ArmName) (at : Noted c n) → answers l q n h.first ≡ true
  answers_it c n at = ap (λ o. passes o (leaf_answers q)) (lies_on_it c n at) ∙ (spot_of c n at).answers

  not_failed : (c : ℕ) (n : ArmName) (at : Noted c n) → fails l q failed n h.first ≡ false → has_number failed at.spot.leaf ≡ false
  not_failed c n at none = sym (ap (λ o. passes o (has_number failed)) (lies_on_it c n at)) ∙ none

  clean_it : (c : ℕ) (n : ArmName) (at : Noted c n) → at.spot.clean ≡ is_clean q h.birth n
  clean_it c n at = (spot_of c n at).clean ∙ ap (is_clean q h.birth) at.arm_is

  first_it : (c : ℕ) (n : ArmName) (at : Noted c n) → at.spot.first ≡ l.sector_of h.first c
  first_it c n at = (spot_of c n at).first ∙ ap (l.sector_of h.first) at.column_is

  written_it : (c : ℕ) (n : ArmName) (r : ℕ) (at : Noted c n) → has_number at.part.written.items r ≡ true → was_written patched c n r ≡ true
  written_it c n r at has = let own = lists_of c n at in
      subst (λ n. was_written patched c n r ≡ true) (own.arm_is ∙ at.arm_is) (subst (λ c. was_written patched c at.part.arm r ≡ true) (own.column_is ∙ at.column_is) (part_written patched at.k at.part r at.noted has))

  landed_it : (c : ℕ) (n : ArmName) (r : ℕ) (at : Noted c n) → has_number at.part.landed.items r ≡ true → has_landed patched c n r ≡ true
  landed_it c n r at has = let own = lists_of c n at in
      subst (λ n. has_landed patched c n r ≡ true) (own.arm_is ∙ at.arm_is) (subst (λ c. has_landed patched c at.part.arm r ≡ true) (own.column_is ∙ at.column_is) (part_landed patched at.k at.part r at.noted has))

  -- ---- the landing is legal
  pub patches : Patches l q h failed patched
  patches = record {
    there = λ c n r at. let p = is_part (λ p. p.written.items) c n r (written_part patched c n r at) in
        (column_below c n p.at, (lists_of c n p.at).lists.below r p.has, listed_it c n p.at, answers_it c n p.at);
    dirty = λ c n r column row listed answers dirty. let at = has_spot c n (are.all c n column listed answers) in
        written_it c n r at ((lists_of c n at).lists.dirty (clean_it c n at ∙ dirty) r row);
    landed = λ c n r at. let p = is_part (λ p. p.landed.items) c n r (landed_part patched c n r at) in
        written_it c n r p.at ((lists_of c n p.at).lists.were r p.has);
    lands = λ c n r at none. let p = is_part (λ p. p.written.items) c n r (written_part patched c n r at) in
        landed_it c n r p.at ((lists_of c n p.at).lists.lands r p.has (not_failed c n p.at none));
    fail = λ leaf at. let f = lists.fail leaf at in let s = are.each f.0 f.1 f.2 in record {
      column = f.1.column;
      inside = s.column;
      there = record { arm = f.1.arm; listed = s.listed; lies = s.lies ∙ ap Some f.3; answers = subst (λ m. leaf_answers q m ≡ true) f.3 s.answers };
    };
  }

  -- ---- its segments
  module _ (straight : IsStraight l q h) (n : machine.Loan) where
    abbrev segment : Spot → ℕ → Segment
    segment spot r = record { key = n.key; column = spot.column; arm = spot.arm; leaf = spot.leaf; row = r }

    on_it : (spot : Spot) (r : ℕ) → IsSpot l q h spot → r < h.stripes → is_on l q.order (segment spot r) h ≡ true
    on_it spot r is row = true_four (has_name (q.order (l.slot_of h.first spot.column)) spot.arm) (nat_lt spot.column l.columns) (nat_lt r h.stripes) (lies l q.order spot.arm (h.first + r) spot.leaf)
        is.listed (below spot.column l.columns is.column) (below r h.stripes row)
        (ap (λ o. passes o (λ m. m == spot.leaf)) (straight.leaves spot.arm r row ∙ is.lies) ∙ equal spot.leaf spot.leaf refl)

    sector_it : (spot : Spot) (r : ℕ) → IsSpot l q h spot → r < h.stripes → sector_at l h (segment spot r) ≡ spot.first + r
    sector_it spot r is row = straight.sectors spot.column r row ∙ ap (λ k. k + r) (sym is.first)

    -- a segment of the block on a noted arm
    pub record OnIt (s : Segment) (at : Noted s.column s.arm) : Type 0 where
      pub row : s.row < h.stripes
      pub leaf_is : s.leaf ≡ at.spot.leaf
      pub sector_is : sector_at l h s ≡ at.spot.first + s.row

    on_noted : (s : Segment) (at : Noted s.column s.arm) → is_on l q.order s h ≡ true → OnIt s at
    on_noted s at on =
        let four = four_true (has_name (q.order (l.slot_of h.first s.column)) s.arm) (nat_lt s.column l.columns) (nat_lt s.row h.stripes) (lies l q.order s.arm (h.first + s.row) s.leaf) on in
        let row : s.row < h.stripes = is_below s.row h.stripes four.2 in
        let leaf : leaf_at l q.order s.arm (h.first + s.row) ≡ Some at.spot.leaf = straight.leaves s.arm s.row row ∙ lies_on_it s.column s.arm at in
        record {
          row = row;
          leaf_is = sym (is_equal at.spot.leaf s.leaf (subst (λ o. passes o (λ m. m == s.leaf) ≡ true) leaf four.3));
          sector_is = straight.sectors s.column s.row row ∙ ap (λ k. k + s.row) (sym (first_it s.column s.arm at));
        }

    listed_seg : (s : Segment) → is_on l q.order s h ≡ true → (has_name (q.order (l.slot_of h.first s.column)) s.arm ≡ true) × (s.column < l.columns)
    listed_seg s on = let four = four_true (has_name (q.order (l.slot_of h.first s.column)) s.arm) (nat_lt s.column l.columns) (nat_lt s.row h.stripes) (lies l q.order s.arm (h.first + s.row) s.leaf) on in
        (four.0, is_below s.column l.columns four.1)

    module _ (columns : List (List ℕ)) (whole : Bool) (pieces : Pieces) (x y z : Told) (is_whole : whole ≡ true → IsWhole l q h failed) (right : ArePieces size l.columns h.stripes columns n.key pieces)
        (heals : HealsArms h.stripes size spots patched columns (length spots) failed x y) (settles : SettlesArms h.stripes spots patched whole y z) where
      stands : (c : ℕ) (m : ArmName) (at : Noted c m) → StandsArm (rows_for h.stripes size at.spot) (column_at columns at.spot.column) at.part.landed.items failed y
      stands c m at = heals.stands at.k at.spot at.part (get_upto spots at.k at.spot at.there) at.there at.noted

      firm_then : (m s : ℕ) → y.soft m s ≡ false → z.soft m s ≡ false
      firm_then m s e = still_firm (λ m s. false) y z settles.only m s refl e

      reads_same : (s : Segment) (at : Noted s.column s.arm) → OnIt s at → reads_at l h s z ≡ y.reads at.spot.leaf (at.spot.first + s.row)
      reads_same s at on = settles.only.reads s.leaf (sector_at l h s) refl ∙ ap (λ m. y.reads m (sector_at l h s)) on.leaf_is ∙ ap (y.reads at.spot.leaf) on.sector_is

      -- what stands on a noted arm is the segment's piece
      reads_then : (s : Segment) (at : Noted s.column s.arm) → n.key ≡ s.key → OnIt s at → y.reads at.spot.leaf (at.spot.first + s.row) ≡ Some (row_of (rows_for h.stripes size at.spot) (column_at columns at.spot.column) s.row)
          → reads_at l h s z ≡ piece_of pieces s
      reads_then s at key on e =
          reads_same s at on ∙ e
          ∙ ap (λ c. Some (row_of (rows_for h.stripes size at.spot) (column_at columns c) s.row)) at.column_is
          ∙ sym (right s.column s.row (column_below s.column s.arm at) on.row) ∙ ap (λ k. pieces k s.column s.row) key

      -- so something is there
      reads_some : (s : Segment) (at : Noted s.column s.arm) → OnIt s at → y.reads at.spot.leaf (at.spot.first + s.row) ≡ Some (row_of (rows_for h.stripes size at.spot) (column_at columns at.spot.column) s.row)
          → IsSome (reads_at l h s z)
      reads_some s at on e = subst (λ (o : Option (List ℕ)). IsSome o) (sym (reads_same s at on ∙ e)) refl

      harm_then : (s : Segment) (at : Noted s.column s.arm) → OnIt s at → z.harmed at.spot.leaf (at.spot.first + s.row) ≡ false → harmed_at l h s z ≡ false
      harm_then s at on e = ap (λ m. z.harmed m (sector_at l h s)) on.leaf_is ∙ ap (z.harmed at.spot.leaf) on.sector_is ∙ e

      soft_then : (s : Segment) (at : Noted s.column s.arm) → OnIt s at → y.soft at.spot.leaf (at.spot.first + s.row) ≡ false → soft_at l h s z ≡ false
      soft_then s at on e = firm_then s.leaf (sector_at l h s) (ap (λ m. y.soft m (sector_at l h s)) on.leaf_is ∙ ap (y.soft at.spot.leaf) on.sector_is ∙ e)

      -- a segment that landed
      pub record Landing (s : Segment) : Type 0 where
        pub key : n.key ≡ s.key
        pub part : PartOf (λ p. p.landed.items) s.column s.arm s.row
        pub on : OnIt s part.at

      landing : (s : Segment) → has_healed l q n h patched s ≡ true → Landing s
      landing s at =
          let a = three_true (key_eq n.key s.key) (is_on l q.order s h) (has_landed patched s.column s.arm s.row) at in
          let p = is_part (λ p. p.landed.items) s.column s.arm s.row (landed_part patched s.column s.arm s.row a.2) in
          record { key = key_true n.key s.key a.0; part = p; on = on_noted s p.at a.1 }

      -- one on a clean arm, where the landing is whole
      pub record Cleaned (s : Segment) : Type 0 where
        pub key : n.key ≡ s.key
        pub at : Noted s.column s.arm
        pub on : OnIt s at
        pub clean : at.spot.clean ≡ true
        pub fine : has_number failed at.spot.leaf ≡ false

      cleaned : (s : Segment) → whole ≡ true → is_on_clean l q n h s ≡ true → Cleaned s
      cleaned s w at =
          let a = three_true (key_eq n.key s.key) (is_on l q.order s h) (is_clean q h.birth s.arm) at in
          let c = listed_seg s a.1 in
          let ok = is_whole w s.column s.arm c.1 c.0 a.2 in
          let spot = has_spot s.column s.arm (are.all s.column s.arm c.1 c.0 ok.0) in
          record { key = key_true n.key s.key a.0; at = spot; on = on_noted s spot a.1; clean = clean_it s.column s.arm spot ∙ a.2; fine = not_failed s.column s.arm spot ok.1 }

      -- one on an arm that answers, where no call on its leaf failed
      answering : (s : Segment) → is_on_answering l q n h failed s ≡ true → IsSome (piece_of pieces s) → reads_at l h s z ≡ piece_of pieces s
      answering s at known =
          let a = four_true (key_eq n.key s.key) (is_on l q.order s h) (answers l q s.arm h.first) (not (fails l q failed s.arm h.first)) at in
          let c = listed_seg s a.1 in
          let spot = has_spot s.column s.arm (are.all s.column s.arm c.1 c.0 a.2) in
          let on = on_noted s spot a.1 in
          reads_then s spot (key_true n.key s.key a.0) on ((stands s.column s.arm spot).reads s.row on.row (not_failed s.column s.arm spot (not_true (fails l q failed s.arm h.first) a.3)))

      -- one that was written on a clean arm
      needed : (s : Segment) → is_on_clean l q n h s ≡ true → is_written l q n h patched s ≡ true → IsSome (piece_of pieces s) → reads_at l h s x ≡ piece_of pieces s → ⊥
      needed s on_clean at known reads =
          let a = three_true (key_eq n.key s.key) (is_on l q.order s h) (is_clean q h.birth s.arm) on_clean in
          let w = three_true (key_eq n.key s.key) (is_on l q.order s h) (was_written patched s.column s.arm s.row) at in
          let p = is_part (λ p. p.written.items) s.column s.arm s.row (written_part patched s.column s.arm s.row w.2) in
          let on = on_noted s p.at a.1 in
          let piece : piece_of pieces s ≡ Some (row_of (rows_for h.stripes size p.at.spot) (column_at columns p.at.spot.column) s.row)
          = ap (λ k. pieces k s.column s.row) (sym (key_true n.key s.key a.0)) ∙ right s.column s.row (column_below s.column s.arm p.at) on.row
          ∙ ap (λ c. Some (row_of (rows_for h.stripes size p.at.spot) (column_at columns c) s.row)) (sym p.at.column_is) in
          heals.needed p.at.k p.at.spot p.at.part (get_upto spots p.at.k p.at.spot p.at.there) p.at.there p.at.noted (clean_it s.column s.arm p.at ∙ a.2) s.row p.has
          (ap (λ m. x.reads m (p.at.spot.first + s.row)) (sym on.leaf_is) ∙ ap (x.reads s.leaf) (sym on.sector_is) ∙ reads ∙ piece)

      settled : (s : Segment) → whole ≡ true → is_settled l q n h patched s ≡ true → harmed_at l h s z ≡ false
      settled s w at = elim (either_true (is_on_clean l q n h s) (has_healed l q n h patched s) at) [
        | inl clean ↦ (let c = cleaned s w clean in harm_then s c.at c.on
            (settles.ended w c.at.k s.row c.at.spot c.at.part c.at.there c.at.noted c.on.row (true_left c.at.spot.clean (has_number c.at.part.landed.items s.row) c.clean)))
        | inr landed ↦ (let c = landing s landed in harm_then s c.part.at c.on
            (settles.ended w c.part.at.k s.row c.part.at.spot c.part.at.part c.part.at.there c.part.at.noted c.on.row (true_right c.part.at.spot.clean (has_number c.part.at.part.landed.items s.row) c.part.has)))
      ]

      lies_it : (leaf sector : ℕ) → heals.named leaf sector ≡ true → LiesThere l h (is_written l q n h patched) leaf sector
      lies_it leaf sector at =
          let w = heals.lies leaf sector at in
          let a = both_true (leaf == w.spot.leaf) (nat_le w.spot.first sector && has_number w.part.written.items (sector - w.spot.first)) w.written in
          let b = both_true (nat_le w.spot.first sector) (has_number w.part.written.items (sector - w.spot.first)) a.1 in
          let up : w.spot.first ≤ sector = is_low w.spot.first sector b.0 in
          let own = lists.each w.k w.spot w.part w.there w.noted in
          let spot = are.each w.k w.spot w.there in
          let row = own.lists.below (sector - w.spot.first) b.1 in
          let written : was_written patched w.spot.column w.spot.arm (sector - w.spot.first) ≡ true
          = written_it w.spot.column w.spot.arm (sector - w.spot.first) (record { k = w.k; spot = w.spot; part = w.part; there = w.there; noted = w.noted; column_is = refl; arm_is = refl }) b.1 in
          record {
            s = segment w.spot (sector - w.spot.first);
            is = true_three (key_eq n.key n.key) (is_on l q.order (segment w.spot (sector - w.spot.first)) h) (was_written patched w.spot.column w.spot.arm (sector - w.spot.first)) (key_refl n.key)
                (on_it w.spot (sector - w.spot.first) spot row) written;
            leaf_is = sym (is_equal leaf w.spot.leaf a.0);
            sector_is = sector_it w.spot (sector - w.spot.first) spot row ∙ (let e : w.spot.first + (sector - w.spot.first) ≡ sector = omega (arith, up) in e);
          }

      settled_it : (leaf sector : ℕ) → whole ≡ true → SettledAt h.stripes spots patched leaf sector → LiesThere l h (λ s. whole && is_settled l q n h patched s) leaf sector
      settled_it leaf sector w at =
          let spot = are.each at.k at.spot at.there in
          let s : Segment = segment at.spot at.r in
          let on : is_on l q.order s h ≡ true = on_it at.spot at.r spot at.row in
          let noted : Noted at.spot.column at.spot.arm = record { k = at.k; spot = at.spot; part = at.part; there = at.there; noted = at.noted; column_is = refl; arm_is = refl } in
          let is : is_settled l q n h patched s ≡ true = elim (either_true at.spot.clean (has_number at.part.landed.items at.r) at.is) [
            | inl clean ↦ true_left (is_on_clean l q n h s) (has_healed l q n h patched s) (true_three (key_eq n.key n.key) (is_on l q.order s h) (is_clean q h.birth at.spot.arm) (key_refl n.key)
                on (sym spot.clean ∙ clean))
            | inr landed ↦ true_right (is_on_clean l q n h s) (has_healed l q n h patched s) (true_three (key_eq n.key n.key) (is_on l q.order s h) (has_landed patched at.spot.column at.spot.arm at.r) (key_refl n.key)
                on (landed_it at.spot.column at.spot.arm at.r noted landed))
          ] in
          record {
            s = s;
            is = true_both whole (is_settled l q n h patched s) w is;
            leaf_is = at.leaf_is;
            sector_is = sector_it at.spot at.r spot at.row ∙ at.sector_is;
          }

      pub healed : HealsBlock l q n h failed patched whole pieces x z
      healed = record {
        named = heals.named;
        lies = lies_it;
        others = only_on heals.named x y z heals.only (only_more (λ m s. false) heals.named y z (λ m s e. refl) settles.only);
        harm = λ leaf sector. elim (settles.harm leaf sector) [
          | inl same ↦ inl (same ∙ heals.harm leaf sector)
          | inr at ↦ inr (settled_it leaf sector at.0 at.1)
        ];
        flushed = λ leaf sector there none.
            let a = there.there in
            let at = has_spot there.column a.arm (are.all there.column a.arm there.inside a.listed (ap (λ o. passes o (leaf_answers q)) a.lies ∙ a.answers)) in
            let same : at.spot.leaf ≡ leaf = some_same (leaf_at l q.order a.arm h.first) at.spot.leaf leaf (lies_on_it there.column a.arm at) a.lies in
            firm_then leaf sector (subst (λ m. y.soft m sector ≡ false) same ((stands there.column a.arm at).firm (subst (λ m. has_number failed m ≡ false) (sym same) none) sector));
        landed_firm = λ s at. let c = landing s at in soft_then s c.part.at c.on ((stands s.column s.arm c.part.at).landed_firm s.row c.part.has);
        landed_there = λ s at. let c = landing s at in reads_some s c.part.at c.on ((stands s.column s.arm c.part.at).landed_reads s.row c.part.has);
        landed_reads = λ s at known. let c = landing s at in reads_then s c.part.at c.key c.on ((stands s.column s.arm c.part.at).landed_reads s.row c.part.has);
        clean_there = λ s w at. let c = cleaned s w at in reads_some s c.at c.on ((stands s.column s.arm c.at).reads s.row c.on.row c.fine);
        clean_reads = λ s w at known. let c = cleaned s w at in reads_then s c.at c.key c.on ((stands s.column s.arm c.at).reads s.row c.on.row c.fine);
        answering_reads = answering;
        needed = needed;
        settled_harm = settled;
      }
