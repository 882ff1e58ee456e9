-- Two segments that are present, or at a place, don't lie on one sector.
use Rattle.std.proofs.Common.{◌≡◌, ◌+◌, ◌<◌, ℕ, true, Some, refl, sym, ◌∙◌, ap, subst, inl, inr, arith, nat_lt}
use Rattle.std.proofs.lemmas.Bool.Decides.{nat_tests}
use Rattle.draid_names.specs.Spares.{AreOfOne, AreSpares, IsArm}
use Rattle.draid_machine.specs.declared.names.ArmName.{ArmName}
use Rattle.draid_machine.specs.declared.names.ArmName.TheVariants.{Leaf, Spare}
use Rattle.draid_machine.specs.declared.names.Held.{Held}
use Rattle.draid_machine.specs.declared.names.Segment.{Segment}
use Rattle.draid_machine.specs.Names.{has_name, takes}
use Rattle.draid_machine.specs.State.{Layout, IsLayout, Gone, Arm, State}
use Rattle.draid_machine.specs.Arms.{lies}
use Rattle.draid_machine.specs.Claims.{is_at}
use Rattle.draid_machine.specs.Created.{IsReached}
use Rattle.draid_machine.specs.Images.{HasSlot, HadSlot, LayOn, KeptOn, IsThere, Owned, LiesAt}
use Rattle.draid_machine.specs.Sound.{Sound}
use Rattle.draid_machine.proofs.Small.{some_injective, some_same, none_some, four_true, is_below}
use Rattle.draid_machine.proofs.Rows.{reached_sound}
use Rattle.draid_machine.proofs.Staying.{at_cases}
use Rattle.draid_machine.proofs.Losing.{lay_by, every_segment}

takes_row : (h : Held) (r : ℕ) → r < h.stripes → takes h (h.first + r) ≡ true
takes_row h r less = grind (arith, nat_tests)

module _ (l : Layout) (lay : IsLayout l) (w : State) (sound : Sound l w) (owned : Owned l w) where
  has_slot : (g c : ℕ) (n : ArmName) → HadSlot w.core g c n → HasSlot w.core c n
  has_slot g c n (inl here) = inl here
  has_slot g c n (inr x) = inr x.0

  -- an arm has one slot
  slot_once : (c d : ℕ) (n : ArmName) → HasSlot w.core c n → HasSlot w.core d n → c ≡ d
  slot_once c d n (inl x) (inl y) = owned.listed.one c d n x y
  slot_once c d n (inl x) (inr y) =
      let z = owned.listed.data_of c n x in
      absurd (none_some y.a.gone y.g (ap (λ (a : Arm). a.gone) (some_same (w.core.arm n) y.a z.0 y.found z.1) ∙ z.2) y.gone)
  slot_once c d n (inr x) (inl y) =
      let z = owned.listed.data_of d n y in
      absurd (none_some x.a.gone x.g (ap (λ (a : Arm). a.gone) (some_same (w.core.arm n) x.a z.0 x.found z.1) ∙ z.2) x.gone)
  slot_once c d n (inr x) (inr y) =
      let same = some_same (w.core.arm n) x.a y.a x.found y.found in
      let gone : x.g ≡ y.g = some_injective x.g y.g (sym x.gone ∙ ap (λ (a : Arm). a.gone) same ∙ y.gone) in
      sym x.slot_is ∙ ap (λ (g : Gone). g.slot) gone ∙ y.slot_is

  one_slot : (g k c d : ℕ) (n : ArmName) → HadSlot w.core g c n → HadSlot w.core k d n → c ≡ d
  one_slot g k c d n x y = slot_once c d n (has_slot g c n x) (has_slot k d n y)

  its_arm : (g c : ℕ) (n : ArmName) → HadSlot w.core g c n → (a : Arm) × (w.core.arm n ≡ Some a)
  its_arm g c n (inl here) = let z = owned.listed.data_of c n here in (z.0, z.1)
  its_arm g c n (inr x) = (x.0.a, x.0.found)

  -- a segment of a block or a ticket lay on a leaf, until a group
  record Lay (s : Segment) : Type 0 where
    pub h : Held
    pub held : w.core.held s.key ≡ Some h
    pub column : s.column < l.columns
    pub row : s.row < h.stripes
    pub group : ℕ
    pub arm : HadSlot w.core group (l.slot_of h.first s.column) s.arm
    pub on : KeptOn l w.core group s.arm (h.first + s.row) s.leaf

  lay_now : (s : Segment) → is_at l w.core s ≡ true → Lay s
  lay_now s e =
      let z = at_cases l w.core s e in
      let y = four_true (has_name (w.core.order (l.slot_of z.0.first s.column)) s.arm) (nat_lt s.column l.columns) (nat_lt s.row z.0.stripes) (lies l w.core.order s.arm (z.0.first + s.row) s.leaf) z.2 in
      record {
        h = z.0;
        held = z.1;
        column = is_below s.column l.columns y.1;
        row = is_below s.row z.0.stripes y.2;
        group = 0;
        arm = inl y.0;
        on = lay_by l w.core.order w.core 0 s.arm (z.0.first + s.row) s.leaf (λ slot m here. inl here) y.3;
      }

  lay_there : (s : Segment) → IsThere l w s → Lay s
  lay_there s (inr place) = lay_now s place
  lay_there s (inl here) =
      let i = owned.present s here in
      elim i.place [
        | inl place ↦ lay_now s place
        | inr k ↦ record { h = i.h; held = i.held; column = i.column; row = i.row; group = k.group; arm = k.arm; on = k.on }
      ]

  -- ---- tables of first spares, of then or of now
  module _ (g k t u x y leaf : ℕ) (p : LayOn l w.core g t x leaf) (q : LayOn l w.core k u y leaf) where
    spares_are : (j v z : ℕ) (r : LayOn l w.core j v z leaf) → AreSpares l.slots l.spares r.first
    spares_are j v z r slot spare less e = let a = its_arm j slot (Spare spare) (r.owners slot spare e) in (owned.spares spare a.0 a.1).0

    of_one : AreOfOne l.slots p.first q.first
    of_one a b spare less less' e e' = one_slot g k a b (Spare spare) (p.owners a spare e) (q.owners b spare e')

    one_home : l.home p.first t x ≡ l.home q.first u y
    one_home = one_slot g k (l.home p.first t x) (l.home q.first u y) (Leaf leaf) p.leaf_of q.leaf_of

    -- an arm of a slot, of then or of now, is first of no other slot
    arm_of : (i j v z c d spare : ℕ) (r : LayOn l w.core j v z leaf) → d < l.columns → spare < l.spares → HadSlot w.core i (l.slot_of c d) (Spare spare) → IsArm l.slots l.spares r.first (l.slot_of c d) spare
    arm_of i j v z c d spare r column less had = record {
      slot_is = lay.slots c d column;
      spare_is = less;
      only = λ other low e. one_slot j i other (l.slot_of c d) (Spare spare) (r.owners other spare e) had;
    }

    same_spare : (i j c d : ℕ) → c < l.columns → d < l.columns → l.sector_of x c ≡ l.sector_of y d → HadSlot w.core i (l.slot_of x c) (Spare t) → HadSlot w.core j (l.slot_of y d) (Spare u) → t ≡ u
    same_spare i j c d column other sector has has' =
        lay.one_spare p.first q.first x y c d t u (spares_are g t x p) (spares_are k u y q) of_one column other sector
        (arm_of i k u y x c t q column p.there has) (arm_of j g t x y d u p other q.there has') one_home

  -- ---- two segments
  module _ (s v : Segment) (o : Lay s) (i : Lay v) (leaf : s.leaf ≡ v.leaf) (sector : l.sector_of (o.h.first + s.row) s.column ≡ l.sector_of (i.h.first + v.row) v.column) where
    slot_s : HadSlot w.core o.group (l.slot_of (o.h.first + s.row) s.column) s.arm
    slot_s = subst (λ c. HadSlot w.core o.group c s.arm) (sym (lay.steady (o.h.first + s.row) o.h.first s.column (sound.core.runs s.key o.h s.row o.held o.row))) o.arm

    slot_v : HadSlot w.core i.group (l.slot_of (i.h.first + v.row) v.column) v.arm
    slot_v = subst (λ c. HadSlot w.core i.group c v.arm) (sym (lay.steady (i.h.first + v.row) i.h.first v.column (sound.core.runs v.key i.h v.row i.held i.row))) i.arm

    -- segments on one arm at one sector
    one_arm : s.arm ≡ v.arm → s ≡ v
    one_arm arm =
        let slot = one_slot o.group i.group (l.slot_of (o.h.first + s.row) s.column) (l.slot_of (i.h.first + v.row) v.column) v.arm
        (subst (λ n. HadSlot w.core o.group (l.slot_of (o.h.first + s.row) s.column) n) arm slot_s) slot_v in
        let z = lay.one_column (o.h.first + s.row) (i.h.first + v.row) s.column v.column o.column i.column slot sector in
        let key : s.key ≡ v.key = sound.core.apart s.key v.key o.h i.h (o.h.first + s.row) o.held i.held (takes_row o.h s.row o.row) (subst (λ x. takes i.h x ≡ true) (sym z.0) (takes_row i.h v.row i.row)) in
        let held : o.h ≡ i.h = some_same (w.core.held s.key) o.h i.h o.held (subst (λ k. w.core.held k ≡ Some i.h) (sym key) i.held) in
        let first : o.h.first ≡ i.h.first = ap (λ (h : Held). h.first) held in
        let at = z.0 in
        let row : s.row ≡ v.row = omega (arith, at, first) in
        λ k. record { key = key k; column = z.1 k; arm = arm k; leaf = leaf k; row = row k }

    are_spares : (g t x f : ℕ) (r : LayOn l w.core g t x f) → AreSpares l.slots l.spares r.first
    are_spares g t x f r slot spare less e = let a = its_arm g slot (Spare spare) (r.owners slot spare e) in (owned.spares spare a.0 a.1).0

    by_arms : (n m : ArmName) → s.arm ≡ n → v.arm ≡ m → KeptOn l w.core o.group n (o.h.first + s.row) s.leaf → KeptOn l w.core i.group m (i.h.first + v.row) v.leaf → s ≡ v
    by_arms (Leaf a) (Leaf b) x y p q = one_arm (x ∙ ap Leaf (sym p ∙ leaf ∙ q) ∙ sym y)
    by_arms (Leaf a) (Spare t) x y p q =
        let has = subst (λ n. HadSlot w.core o.group (l.slot_of (o.h.first + s.row) s.column) n) (x ∙ ap Leaf (sym p ∙ leaf)) slot_s in
        let at = one_slot i.group o.group (l.home q.first t (i.h.first + v.row)) (l.slot_of (o.h.first + s.row) s.column) (Leaf v.leaf) q.leaf_of has in
        absurd (lay.apart q.first (i.h.first + v.row) (o.h.first + s.row) v.column s.column t (are_spares i.group t (i.h.first + v.row) v.leaf q) i.column o.column q.there (sym sector) at)
    by_arms (Spare t) (Leaf b) x y p q =
        let has = subst (λ n. HadSlot w.core i.group (l.slot_of (i.h.first + v.row) v.column) n) (y ∙ ap Leaf (sym q ∙ sym leaf)) slot_v in
        let at = one_slot o.group i.group (l.home p.first t (o.h.first + s.row)) (l.slot_of (i.h.first + v.row) v.column) (Leaf s.leaf) p.leaf_of has in
        absurd (lay.apart p.first (o.h.first + s.row) (i.h.first + v.row) s.column v.column t (are_spares o.group t (o.h.first + s.row) s.leaf p) o.column i.column p.there sector at)
    by_arms (Spare t) (Spare u) x y p q =
        let moved : LayOn l w.core o.group t (o.h.first + s.row) v.leaf = subst (λ m. LayOn l w.core o.group t (o.h.first + s.row) m) leaf p in
        one_arm (x ∙ ap Spare (same_spare o.group i.group t u (o.h.first + s.row) (i.h.first + v.row) v.leaf moved q o.group i.group s.column v.column o.column i.column sector
        (subst (λ n. HadSlot w.core o.group (l.slot_of (o.h.first + s.row) s.column) n) x slot_s)
        (subst (λ n. HadSlot w.core i.group (l.slot_of (i.h.first + v.row) v.column) n) y slot_v)) ∙ sym y)

    one_segment : s ≡ v
    one_segment = by_arms s.arm v.arm refl refl o.on i.on

  pub lies_alone : (s v : Segment) (leaf sector : ℕ) → IsThere l w s → IsThere l w v → LiesAt l w.core s leaf sector → LiesAt l w.core v leaf sector → s ≡ v
  lies_alone s v leaf sector x y a b =
      let o = lay_there s x in
      let i = lay_there v y in
      let same_o : a.h ≡ o.h = some_same (w.core.held s.key) a.h o.h a.held o.held in
      let same_i : b.h ≡ i.h = some_same (w.core.held v.key) b.h i.h b.held i.held in
      one_segment s v o i (a.leaf_is ∙ sym b.leaf_is)
      (sym (ap (λ (h : Held). l.sector_of (h.first + s.row) s.column) same_o) ∙ a.sector_is ∙ sym b.sector_is ∙ ap (λ (h : Held). l.sector_of (h.first + v.row) v.column) same_i)

pub every_place : (l : Layout) (w : State) (s v : Segment) (leaf sector : ℕ) → IsLayout l → IsReached l w → IsThere l w s → IsThere l w v
    → LiesAt l w.core s leaf sector → LiesAt l w.core v leaf sector → s ≡ v
every_place l w s v leaf sector lay r x y a b = lies_alone l lay w (reached_sound l lay w r) (every_segment l w lay r) s v leaf sector x y a b
