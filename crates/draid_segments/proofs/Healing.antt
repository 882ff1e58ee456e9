-- A scrub's block lands.
use Rattle.std.proofs.Common.{◌≡◌, ◌==◌, ◌+◌, ◌/◌, ◌<◌, ◌≤◌, ◌⊎◌, ◌&&◌, ◌||◌, not, ℕ, Bool, true, false, nat_lt, if◌then◌else◌, List, length, Option, Some, None, IsSome, refl, sym, ◌∙◌, ap, subst, inl, inr, arith}
use Rattle.std.proofs.lemmas.Bool.{true≢false, cases_lt}
use Rattle.std.proofs.lemmas.Bool.Decides.{nat_tests}
use Rattle.draid_machine.specs.declared.names.Key.{Key}
use Rattle.draid_machine.specs.declared.names.ArmName.{ArmName}
use Rattle.draid_machine.specs.declared.names.ArmName.TheVariants.{Leaf, Spare}
use Rattle.draid_machine.specs.declared.names.Held.{Held}
use Rattle.draid_machine.specs.declared.names.Segment.{Segment}
use Rattle.draid_machine.specs.declared.event.Patched.{Patched}
use Rattle.draid_machine.specs.Names.{key_eq, has_name, has_number, is_block, takes}
use Rattle.draid_machine.specs.State.{Layout, IsLayout, Image, Loan, Pass, State}
use Rattle.draid_machine.specs.Arms.{answers, fails, first_leaf, first_spares, has_column, is_clean, leaf_answers, leaf_at, lies, passes}
use Rattle.draid_machine.specs.Claims.{IsOn, is_on}
use Rattle.draid_machine.specs.After.{aside_after, has_healed, has_landed, heal_state, is_written, lose_targets, misses_block, was_written}
use Rattle.draid_machine.specs.Created.{IsReached}
use Rattle.draid_machine.specs.Images.{IsImage, IsThere}
use Rattle.draid_machine.specs.Sound.{LoanFits, Sound}
use Rattle.draid_machine.specs.Step.{LandBlockStep}
use Rattle.draid_machine.proofs.Small.{some_injective, some_same, bool_cases, both_true, true_both, either_true, four_true, true_four, key_refl, key_true, absurd_test, not_true, has_filter, any_at, below, is_below, is_equal, no_errors}
use Rattle.draid_machine.proofs.Follows.{from_passed, to_passed}
use Rattle.draid_machine.proofs.Rows.{reached_sound}
use Rattle.draid_rack.specs.Rack.{Told}
use Rattle.draid_segments.specs.Segments.{Backed, Firm, HasScrubbed, IsClaim, IsLasting, IsSure, Pieces, Steady, harmed_at, image_group, piece_of, reads_at, sector_at, soft_at}
use Rattle.draid_segments.specs.Acts.{HealsBlock, LandsReadable, is_on_clean, is_settled}
use Rattle.draid_segments.proofs.Apart.{claimed_elsewhere, elsewhere, heal_place, its_block, one_place, stands}
use Rattle.draid_segments.proofs.Backing.{Lasted, Reads, Untouched, Was, holds_by, last_by, steady_by, steady_same, still, read_as, same_piece}
use Rattle.draid_segments.proofs.Lasting.{lasting_present}

-- ---- tests
-- what is in no doubt after a whole landing: of another block, on a clean arm or landed, or it was at no place and not present
whole_cases : (key on good aside present : Bool) → (if not key then aside else if on then not good else (aside || present)) ≡ false
    → ((key ≡ false) × (aside ≡ false)) ⊎ (((key ≡ true) × (on ≡ true) × (good ≡ true)) ⊎ ((key ≡ true) × (on ≡ false) × (present ≡ false)))
whole_cases false on good aside present e = inl (refl, e)
whole_cases true true true aside present e = inr (inl (refl, refl, refl))
whole_cases true true false aside present e = absurd (true≢false e)
whole_cases true false good false present e = inr (inr (refl, refl, e))
whole_cases true false good true present e = absurd (true≢false e)

neither : (a b : Bool) → (a || b) ≡ false → (a ≡ false) × (b ≡ false)
neither false b e = (refl, e)
neither true b e = absurd (true≢false e)

both_false : (a b c : Bool) → a ≡ true → (a && (not b || c)) ≡ false → (b ≡ true) × (c ≡ false)
both_false true true c t e = (refl, e)
both_false true false c t e = absurd (true≢false e)
both_false false b c t e = absurd (true≢false (sym t))

takes_row : (h : Held) (r : ℕ) → r < h.stripes → takes h (h.first + r) ≡ true
takes_row h r less = grind (arith, nat_tests)

takes_low : (h : Held) (x : ℕ) → takes h x ≡ true → h.first ≤ x
takes_low h x e = grind (arith, nat_tests)

takes_between : (h : Held) (x : ℕ) → h.first ≤ x → x < h.first + h.stripes → takes h x ≡ true
takes_between h x low high = grind (arith, nat_tests)

-- ---- an arm keeps the rows of a block on one leaf
keeps_leaf : (o : Option ℕ) (leaf : ℕ) → passes o (λ m. m == leaf) ≡ true → o ≡ Some leaf
keeps_leaf None leaf e = absurd (true≢false (sym e))
keeps_leaf (Some m) leaf e = ap Some (is_equal m leaf e)

one_leaf : (l : Layout) → IsLayout l → (order : ℕ → List ArmName) (n : ArmName) (x y : ℕ) → x / l.height ≡ y / l.height → leaf_at l order n x ≡ leaf_at l order n y
one_leaf l lay order (Leaf m) x y e = refl
one_leaf l lay order (Spare t) x y e = ap (λ slot. if nat_lt t l.spares then first_leaf (order slot) else None) (lay.steady_home (first_spares order) x y t e)

module _ (l : Layout) (lay : IsLayout l) (w new : State) (reached : IsReached l w) (pass serial : ℕ) (failed : List ℕ) (patched : List Patched)
    (step : LandBlockStep l w pass serial failed patched false new) (written : Pieces) (x y : Told) (acts : HealsBlock l w.core step.n step.h failed patched step.whole written x y) where
  abbrev n : Loan
  n = step.n

  abbrev h : Held
  h = step.h

  abbrev of : Segment → Bool
  of = is_written l w.core n h patched

  abbrev named : ℕ → ℕ → Bool
  named = acts.named

  abbrev after : State
  after = heal_state l w step.p n h failed patched step.whole

  sound : Sound l w
  sound = reached_sound l lay w reached

  places : (s : Segment) → of s ≡ true → (w.core.held s.key ≡ Some h) × (is_on l w.core.order s h ≡ true)
  places s e = heal_place l w new pass serial failed patched false step s e

  free : (s : Segment) (i : Held) → w.core.held s.key ≡ Some i → IsThere l w s → of s ≡ false → named s.leaf (sector_at l i s) ≡ false
  free = elsewhere l lay w reached h of places named acts.lies

  -- the block's key has the lent block
  its_held : (s : Segment) (i : Held) → key_eq n.key s.key ≡ true → w.core.held s.key ≡ Some i → h ≡ i
  its_held s i key held = some_same (w.core.held s.key) h i (subst (λ k. w.core.held k ≡ Some h) (key_true n.key s.key key) step.counts.found) held

  -- another block's segment isn't written
  other_of : (s : Segment) → key_eq n.key s.key ≡ false → of s ≡ false
  other_of s key = rw key refl

  other_healed : (s : Segment) → key_eq n.key s.key ≡ false → has_healed l w.core n h patched s ≡ false
  other_healed s key = rw key refl

  -- what landed was written
  healed_written : (s : Segment) → has_healed l w.core n h patched s ≡ true → of s ≡ true
  healed_written s e =
      let z = both_true (key_eq n.key s.key && is_on l w.core.order s h) (has_landed patched s.column s.arm s.row) e in
      true_both (key_eq n.key s.key && is_on l w.core.order s h) (was_written patched s.column s.arm s.row) z.0 (step.lands.landed s.column s.arm s.row z.1)

  settled_place : (s : Segment) → is_settled l w.core n h patched s ≡ true → (key_eq n.key s.key ≡ true) × (is_on l w.core.order s h ≡ true)
  settled_place s e = elim (either_true (is_on_clean l w.core n h s) (has_healed l w.core n h patched s) e) [
    | inl z ↦ both_true (key_eq n.key s.key) (is_on l w.core.order s h) (both_true (key_eq n.key s.key && is_on l w.core.order s h) (is_clean w.core h.birth s.arm) z).0
    | inr z ↦ both_true (key_eq n.key s.key) (is_on l w.core.order s h) (both_true (key_eq n.key s.key && is_on l w.core.order s h) (has_landed patched s.column s.arm s.row) z).0
  ]

  -- harm ends in a whole landing alone, and of this block alone
  same_harm : (s : Segment) (i : Held) → w.core.held s.key ≡ Some i → IsThere l w s → (step.whole ≡ false) ⊎ (key_eq n.key s.key ≡ false)
      → y.harmed s.leaf (sector_at l i s) ≡ x.harmed s.leaf (sector_at l i s)
  same_harm s i held there why = elim (acts.harm s.leaf (sector_at l i s)) [
    | inl same ↦ same
    | inr z ↦
        let e = both_true step.whole (is_settled l w.core n h patched z.s) z.is in
        let p = settled_place z.s e.1 in
        elim why [
          | inl part ↦ absurd_test step.whole e.0 part
          | inr key ↦
              let its = subst (λ k. w.core.held k ≡ Some h) (key_true n.key z.s.key p.0) step.counts.found in
              let one = one_place l lay w reached h z.s its p.1 s i held there (sym z.leaf_is) (sym z.sector_is) in
              absurd_test (key_eq n.key s.key) (subst (λ (g : Segment). key_eq n.key g.key ≡ true) (sym one) p.0) key
        ]
  ]

  untouched : (s : Segment) (i : Held) → w.core.held s.key ≡ Some i → IsThere l w s → of s ≡ false → (step.whole ≡ false) ⊎ (key_eq n.key s.key ≡ false) → Untouched s.leaf (sector_at l i s) x y
  untouched s i held there out why =
      let z = free s i held there out in
      record { reads = acts.others.reads s.leaf (sector_at l i s) z; since = acts.others.since s.leaf (sector_at l i s) z; harmed = same_harm s i held there why; soft = acts.others.soft s.leaf (sector_at l i s) z }

  -- ---- what was flushed
  -- a segment of the block on an arm that answers, and on which no call failed
  flushed : (s : Segment) → is_on l w.core.order s h ≡ true → w.core.held s.key ≡ Some h → answers l w.core s.arm h.first ≡ true → fails l w.core failed s.arm h.first ≡ false → soft_at l h s y ≡ false
  flushed s on held ans ok =
      let z = four_true (has_name (w.core.order (l.slot_of h.first s.column)) s.arm) (nat_lt s.column l.columns) (nat_lt s.row h.stripes) (lies l w.core.order s.arm (h.first + s.row) s.leaf) on in
      let band = sound.core.runs s.key h s.row held (is_below s.row h.stripes z.2) in
      let at : leaf_at l w.core.order s.arm h.first ≡ Some s.leaf = sym (one_leaf l lay w.core.order s.arm (h.first + s.row) h.first band) ∙ keeps_leaf (leaf_at l w.core.order s.arm (h.first + s.row)) s.leaf z.3 in
      acts.flushed s.leaf (sector_at l h s) (record {
        column = s.column;
        inside = is_below s.column l.columns z.1;
        there = record { arm = s.arm; listed = z.0; lies = at; answers = subst (λ o. passes o (leaf_answers w.core) ≡ true) at ans };
      })
      (subst (λ o. passes o (has_number failed) ≡ false) at ok)

  -- a segment is there, and reads as its piece where that is known
  record Stands (pieces : Pieces) (s : Segment) (i : Held) : Type 0 where
    there : IsSome (reads_at l i s y)
    reads : IsSome (piece_of pieces s) → reads_at l i s y ≡ piece_of pieces s

  -- what a whole landing settles reads as the restored block's, and isn't soft
  module _ (whole : step.whole ≡ true) (s : Segment) (key : key_eq n.key s.key ≡ true) (on : is_on l w.core.order s h ≡ true)
      (good : (is_clean w.core h.birth s.arm || has_healed l w.core n h patched s) ≡ true) where
    held : w.core.held s.key ≡ Some h
    held = subst (λ k. w.core.held k ≡ Some h) (key_true n.key s.key key) step.counts.found

    right_reads : Stands written s h
    right_reads = elim (either_true (is_clean w.core h.birth s.arm) (has_healed l w.core n h patched s) good) [
      | inl clean ↦
          let at = true_both (key_eq n.key s.key && is_on l w.core.order s h) (is_clean w.core h.birth s.arm) (true_both (key_eq n.key s.key) (is_on l w.core.order s h) key on) clean in
          record { there = acts.clean_there s whole at; reads = acts.clean_reads s whole at }
      | inr healed ↦ record { there = acts.landed_there s healed; reads = acts.landed_reads s healed }
    ]

    right_firm : soft_at l h s y ≡ false
    right_firm = elim (either_true (is_clean w.core h.birth s.arm) (has_healed l w.core n h patched s) good) [
      | inl clean ↦
          let z = four_true (has_name (w.core.order (l.slot_of h.first s.column)) s.arm) (nat_lt s.column l.columns) (nat_lt s.row h.stripes) (lies l w.core.order s.arm (h.first + s.row) s.leaf) on in
          let v = step.is_whole whole s.column s.arm (is_below s.column l.columns z.1) z.0 clean in
          flushed s on held v.0 v.1
      | inr healed ↦ acts.landed_firm s healed
    ]

  -- ---- what is in no doubt afterwards
  aside_whole : (s : Segment) → step.whole ≡ true → after.aside s ≡ false
      → ((key_eq n.key s.key ≡ false) × (w.aside s ≡ false))
      ⊎ (((key_eq n.key s.key ≡ true) × (is_on l w.core.order s h ≡ true) × ((is_clean w.core h.birth s.arm || has_healed l w.core n h patched s) ≡ true))
      ⊎ ((key_eq n.key s.key ≡ true) × (is_on l w.core.order s h ≡ false) × (w.present s ≡ false)))
  aside_whole s whole e =
      whole_cases (key_eq n.key s.key) (is_on l w.core.order s h) (is_clean w.core h.birth s.arm || has_healed l w.core n h patched s) (w.aside s) (w.present s)
      (subst (λ b. aside_after l w n h patched b s ≡ false) whole e)

  aside_part : (s : Segment) → step.whole ≡ false → after.aside s ≡ false → (w.aside s ≡ false) × (of s ≡ false)
  aside_part s part e = neither (w.aside s) (of s) (subst (λ b. aside_after l w n h patched b s ≡ false) part e)

  -- ---- at each moment
  abbrev doubt : Segment → Bool
  doubt s = w.aside s || of s || after.aside s

  doubt_parts : (s : Segment) → doubt s ≡ false → (w.aside s ≡ false) × (of s ≡ false) × (after.aside s ≡ false)
  doubt_parts s e = let a = neither (w.aside s || of s) (after.aside s) e in let b = neither (w.aside s) (of s) a.0 in (b.0, b.1, a.1)

  pub heal_steady : (img : Image) → IsImage w img → Steady l img doubt x y
  heal_steady img is = steady_by l img doubt named x y acts.others (λ s i c. claimed_elsewhere l lay w reached h of places named acts.lies img s i is c.held c.claim (doubt_parts s c.sure).1)

  module _ (pieces : Pieces) (same : (k : Key) → key_eq n.key k ≡ false → written k ≡ pieces k) (b : Backed l pieces w x) where
    abbrev later : Pieces
    later = if step.whole then written else pieces

    later_whole : step.whole ≡ true → later ≡ written
    later_whole whole = rw whole refl

    later_part : step.whole ≡ false → later ≡ pieces
    later_part part = rw part refl

    -- another block has its pieces
    later_other : (k : Key) → (step.whole ≡ false) ⊎ (key_eq n.key k ≡ false) → later k ≡ pieces k
    later_other k (inl part) = ap (λ (f : Pieces). f k) (later_part part)
    later_other k (inr key) = by (bool_cases step.whole)
      where
        by : (step.whole ≡ true) ⊎ (step.whole ≡ false) → later k ≡ pieces k
        by (inl whole) = ap (λ (f : Pieces). f k) (later_whole whole) ∙ same k key
        by (inr part) = ap (λ (f : Pieces). f k) (later_part part)

    -- a segment that isn't in doubt afterwards: it was in none, and is untouched; or it is settled
    data Fate (s : Segment) : Type 0 where
      Same : w.aside s ≡ false → of s ≡ false → (step.whole ≡ false) ⊎ (key_eq n.key s.key ≡ false) → Fate s
      Right : key_eq n.key s.key ≡ true → Stands later s h → soft_at l h s y ≡ false → Fate s

    fate : (s : Segment) → (w.present s ≡ true) ⊎ (is_on l w.core.order s h ≡ true) → after.aside s ≡ false → Fate s
    fate s there e = elim (bool_cases step.whole) [
      | inr part ↦ let z = aside_part s part e in Same z.0 z.1 (inl part)
      | inl whole ↦ elim (aside_whole s whole e) [
        | inl z ↦ Same z.1 (other_of s z.0) (inr z.0)
        | inr (inl z) ↦ Right z.0 (subst (λ (f : Pieces). Stands f s h) (sym (later_whole whole)) (right_reads whole s z.0 z.1 z.2)) (right_firm whole s z.0 z.1 z.2)
        | inr (inr z) ↦ elim there [
          | inl here ↦ absurd_test (w.present s) here z.2
          | inr on ↦ absurd_test (is_on l w.core.order s h) on z.1
        ]
      ]
    ]

    heal_holds : (s : Segment) (i : Held) → IsSure after s i → (Was l w s i x y × (later s.key ≡ pieces s.key)) ⊎ Reads l later s i y
    heal_holds s i is = by (either_true (w.present s) (has_healed l w.core n h patched s) is.present)
      where
        at_once : (w.present s ≡ true) ⊎ (has_healed l w.core n h patched s ≡ true) → (w.present s ≡ true) ⊎ (is_on l w.core.order s h ≡ true)
        at_once (inl here) = inl here
        at_once (inr healed) = inr (places s (healed_written s healed)).1

        here_of : of s ≡ false → (w.present s ≡ true) ⊎ (has_healed l w.core n h patched s ≡ true) → w.present s ≡ true
        here_of out (inl here) = here
        here_of out (inr healed) = absurd_test (of s) (healed_written s healed) out

        by : (w.present s ≡ true) ⊎ (has_healed l w.core n h patched s ≡ true) → (Was l w s i x y × (later s.key ≡ pieces s.key)) ⊎ Reads l later s i y
        by why = elim (fate s (at_once why) is.sure) [
          | Same sure out part ↦
              let here = here_of out why in
              inl (record { i = i; sure = record { held = is.held; present = here; sure = sure }; first = refl; same = untouched s i is.held (inl here) out part }, later_other s.key part)
          | Right key reads firm ↦
              let e = subst (λ (k : Held). Stands later s k) (its_held s i key is.held) reads in
              inr (record { there = e.there; reads = λ calm. e.reads })
        ]

    -- a claimed segment
    record FirmAt (s : Segment) (i : Held) : Type 0 where
      there : IsSome (reads_at l i s y)
      reads : harmed_at l i s y ≡ false → IsSome (piece_of later s) → reads_at l i s y ≡ piece_of later s
      firm : soft_at l i s y ≡ false

    firm_at : (img : Image) → IsImage w img → (s : Segment) (i : Held) → IsClaim l img after.aside s i → FirmAt s i
    firm_at img is s i c =
        let z = its_block l lay w reached img is s.key i c.held in
        let here = (stands l lay w reached img is).claimed s c.claim in
        elim (fate s (inl here) c.sure) [
          | Same sure out part ↦
              let f = b.images img is in
              let old : IsClaim l img w.aside s i = record { held = c.held; claim = c.claim; sure = sure } in
              let same : Untouched s.leaf (sector_at l i s) x y = subst (λ (k : Held). Untouched s.leaf (sector_at l k s) x y) (sym z.is) (untouched s z.h z.found (inl here) out part) in
              record {
                there = subst (λ o. IsSome o) (sym same.reads) (f.there s i old);
                reads = λ calm known. same.reads ∙ read_as (reads_at l i s x) (piece_of pieces s) (piece_of later s) (same_piece pieces later s (later_other s.key part))
                    (f.reads s i old (sym same.harmed ∙ calm)) known;
                firm = still same.soft (f.firm s i old);
              }
          | Right key reads firm ↦
              let one = its_held s z.h key z.found in
              let now = subst (λ (k : Held). Stands later s k) one reads in
              record {
                there = subst (λ (k : Held). IsSome (reads_at l k s y)) (sym z.is) now.there;
                reads = λ calm known. subst (λ (k : Held). reads_at l k s y ≡ piece_of later s) (sym z.is) (now.reads known);
                firm = subst (λ (k : Held). soft_at l k s y ≡ false) (sym z.is) (subst (λ (k : Held). soft_at l k s y ≡ false) one firm);
              }
        ]

    pub heal_firm : (img : Image) → IsImage w img → Firm l later img after.aside y
    heal_firm img is = record { there = λ s i c. (firm_at img is s i c).there; reads = λ s i c. (firm_at img is s i c).reads; firm = λ s i c. (firm_at img is s i c).firm }

    -- ---- what the next image may count on
    abbrev passed : Pass
    passed = record (lose_targets (misses_block l w.core h failed) (length failed) step.p) { next = h.first + h.stripes }

    fits : LoanFits w.core n
    fits = sound.loan n step.counts.loan

    same_pass : fits.p ≡ step.p
    same_pass = some_same w.core.pass fits.p step.p fits.pass step.counts.pass_is

    lent_takes : takes h n.stripe ≡ true
    lent_takes = subst (λ (k : Held). takes k n.stripe ≡ true) (some_same (w.core.held n.key) fits.h h fits.found step.counts.found) fits.taken

    -- another block's row that the pass has passed now, it had passed before
    passed_before : (s : Segment) (i : Held) → w.core.held s.key ≡ Some i → key_eq n.key s.key ≡ false → is_block i.stage ≡ true → i.birth ≤ step.p.max → s.row < i.stripes
        → i.first + s.row < h.first + h.stripes → i.first + s.row < step.p.next
    passed_before s i held other block max row less = elim (cases_lt (i.first + s.row) step.p.next) [
      | inl before ↦ before
      | inr past ↦ elim (cases_lt (i.first + s.row) n.stripe) [
        | inl early ↦ absurd (fits.clear s.key i (i.first + s.row) held block (subst (λ (k : Pass). i.birth ≤ k.max) (sym same_pass) max) (takes_row i s.row row)
            (subst (λ (k : Pass). k.next ≤ i.first + s.row) (sym same_pass) past) early)
        | inr late ↦
            let inside = takes_between h (i.first + s.row) (let low = takes_low h n.stripe lent_takes in omega (arith, low, late)) less in
            let key = sound.core.apart n.key s.key h i (i.first + s.row) step.counts.found held inside (takes_row i s.row row) in
            absurd_test (key_eq n.key s.key) (subst (λ k. key_eq n.key k ≡ true) key (key_refl n.key)) other
      ]
    ]

    module _ (s : Segment) (i : Held) (is : IsLasting l (image_group w) after.core s i) (sure : after.aside s ≡ false) where
      on : IsOn l w.core s i is.a
      on = record { held = is.on.held; arm = is.on.arm; listed = is.on.listed; column = is.on.column; row = is.on.row; lies = is.on.lies }

      on_test : is_on l w.core.order s i ≡ true
      on_test = true_four (has_name (w.core.order (l.slot_of i.first s.column)) s.arm) (nat_lt s.column l.columns) (nat_lt s.row i.stripes) (lies l w.core.order s.arm (i.first + s.row) s.leaf)
          on.listed (below s.column l.columns on.column) (below s.row i.stripes on.row) on.lies

      abbrev Outcome : Type 0
      Outcome = Lasted l (image_group w) w s i x y ⊎ (soft_at l i s y ≡ false)

      old : (why : (is.a.log i.birth ≡ false) ⊎ HasScrubbed w.core.pass s.arm i s.row) → Outcome
      old why =
          let was : IsLasting l (image_group w) w.core s i = record { a = is.a; on = on; block = is.block; birth = is.birth; stays = is.stays; why = why } in
          let here = lasting_present l w (image_group w) s i sound was in
          elim (fate s (inl here) sure) [
            | Same clear out part ↦ inl (record { i = i; lasting = was; sure = clear; first = refl; soft = (untouched s i is.on.held (inl here) out part).soft })
            | Right key reads firm ↦ inr (subst (λ (k : Held). soft_at l k s y ≡ false) (its_held s i key is.on.held) firm)
          ]

      -- a target that the pass still has answered, and no call failed
      scrubbed : HasScrubbed (Some passed) s.arm i s.row → Outcome
      scrubbed z =
          let v = from_passed (Some z.p) s.arm i s.row z.by in
          let its : v.p ≡ passed = sym (some_injective z.p v.p v.pass) ∙ sym (some_injective passed z.p z.pass_is) in
          let target = has_filter (λ m. not (misses_block l w.core h failed m)) step.p.targets s.arm (subst (λ (q : Pass). has_name q.targets s.arm ≡ true) its v.target) in
          let max : i.birth ≤ step.p.max = subst (λ (q : Pass). i.birth ≤ q.max) its v.max in
          elim (bool_cases (key_eq n.key s.key)) [
            | inl key ↦
                let one = its_held s i key is.on.held in
                let listed : has_name (w.core.order (l.slot_of h.first s.column)) s.arm ≡ true = subst (λ (k : Held). has_name (w.core.order (l.slot_of k.first s.column)) s.arm ≡ true) (sym one) is.on.listed in
                let column : has_column l w.core s.arm h.first ≡ true = any_at l.columns (λ c. has_name (w.core.order (l.slot_of h.first c)) s.arm) s.column is.on.column listed in
                let fine = both_false (has_column l w.core s.arm h.first) (answers l w.core s.arm h.first) (fails l w.core failed s.arm h.first) column (not_true (misses_block l w.core h failed s.arm) target.1) in
                inr (subst (λ (k : Held). soft_at l k s y ≡ false) one
                (flushed s (subst (λ (k : Held). is_on l w.core.order s k ≡ true) (sym one) on_test) (subst (λ (k : Held). w.core.held s.key ≡ Some k) (sym one) is.on.held) fine.0 fine.1))
            | inr other ↦ old (inr (record {
              p = step.p;
              pass_is = step.counts.pass_is;
              heal = step.heal;
              by = to_passed (Some step.p) s.arm i s.row (record {
                p = step.p;
                pass = refl;
                running = subst (λ (q : Pass). q.running ≡ true) its v.running;
                errors = no_errors step.p.errors (length failed) (subst (λ (q : Pass). q.errors ≡ 0) its v.errors);
                target = target.0;
                max = max;
                next = passed_before s i is.on.held other is.block max is.on.row (subst (λ (q : Pass). i.first + s.row < q.next) its v.next);
              });
            }))
          ]

      lasts : Outcome
      lasts = elim is.why [ inl clean ↦ old (inl clean) | inr z ↦ scrubbed z ]

    pub heal_backed : Backed l later after y
    heal_backed = record {
      holds = holds_by l pieces later w after x y b.holds heal_holds;
      images = λ img is. heal_firm img is;
      last = last_by l (image_group w) w after x y b.last lasts;
    }

-- readable or not
module _ (l : Layout) (lay : IsLayout l) (w : State) (reached : IsReached l w) (pass serial : ℕ) (failed : List ℕ) (patched : List Patched) (written : Pieces) (x y : Told) (img : Image) (is : IsImage w img) where
  pub block_steady : (unreadable : Bool) (new : State) (step : LandBlockStep l w pass serial failed patched unreadable new)
      → LandsReadable unreadable l w.core step.n step.h failed patched step.whole written x y → Steady l img (λ s. w.aside s || is_written l w.core step.n step.h patched s || new.aside s) x y
  block_steady true new step acts = steady_same l img (λ s. w.aside s || is_written l w.core step.n step.h patched s || new.aside s) x y acts
  block_steady false new step acts =
      subst (λ (v : State). Steady l img (λ s. w.aside s || is_written l w.core step.n step.h patched s || v.aside s) x y) (sym step.made)
      (heal_steady l lay w new reached pass serial failed patched step written x y acts img is)
