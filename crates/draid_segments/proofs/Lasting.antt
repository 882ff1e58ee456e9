-- What the next image may count on is claimed, so it is present; and on which leaves segments lie.
use Rattle.std.proofs.Common.{◌≡◌, ◌==◌, ◌+◌, ℕ, Bool, true, false, nat_lt, if◌then◌else◌, List, Option, Some, None, refl, sym, subst, inl, inr}
use Rattle.std.proofs.lemmas.Bool.{true≢false}
use Rattle.draid_machine.specs.declared.names.ArmName.{ArmName}
use Rattle.draid_machine.specs.declared.names.ArmName.TheVariants.{Leaf, Spare}
use Rattle.draid_machine.specs.declared.names.Held.{Held}
use Rattle.draid_machine.specs.declared.names.Segment.{Segment}
use Rattle.draid_machine.specs.Names.{has_name}
use Rattle.draid_machine.specs.State.{Layout, Arm, Core, Image, State}
use Rattle.draid_machine.specs.Arms.{first_leaf, first_spares, lies, passes}
use Rattle.draid_machine.specs.Claims.{claims, passed}
use Rattle.draid_machine.specs.Images.{AreListed, HadSlot, IsOwned, KeptOn}
use Rattle.draid_machine.specs.Sound.{IsClaimed, Sound}
use Rattle.draid_machine.proofs.Small.{four_true, is_equal}
use Rattle.draid_machine.proofs.Losing.{first_listed}
use Rattle.draid_machine.proofs.Owning.{put_block}
use Rattle.draid_machine.proofs.Seals.{from_claims}
use Rattle.draid_machine.proofs.Staying.{at_cases}
use Rattle.draid_segments.specs.Segments.{HasScrubbed, IsLasting}

pub has_passed : (q : Core) (n : ArmName) (h : Held) (row : ℕ) → HasScrubbed q.pass n h row → passed q.pass n h row ≡ true
has_passed q n h row s = subst (λ o. passed o n h row ≡ true) (sym s.pass_is) s.by

pub lasting_claimed : (l : Layout) (group : ℕ) (q : Core) (s : Segment) (h : Held) → IsLasting l group q s h → IsClaimed l q s
lasting_claimed l group q s h is = record {
  h = h;
  a = is.a;
  on = is.on;
  put = put_block h.stage s.column is.block;
  why = elim is.why [ inl clean ↦ inl clean | inr y ↦ inr (is.block, has_passed q s.arm h s.row y) ];
}

pub lasting_present : (l : Layout) (w : State) (group : ℕ) (s : Segment) (h : Held) → Sound l w → IsLasting l group w.core s h → w.present s ≡ true
lasting_present l w group s h sound is = sound.covered s (lasting_claimed l group w.core s h is)

-- ---- leaves
-- the leaf of an arm of a slot is an arm of some slot
pub lies_listed : (l : Layout) (order : ℕ → List ArmName) (c : ℕ) (n : ArmName) (x leaf : ℕ) → has_name (order c) n ≡ true → lies l order n x leaf ≡ true
    → (d : ℕ) × (has_name (order d) (Leaf leaf) ≡ true)
lies_listed l order c (Leaf m) x leaf listed e = (c, subst (λ k. has_name (order c) (Leaf k) ≡ true) (is_equal m leaf e) listed)
lies_listed l order c (Spare t) x leaf listed e = by (nat_lt t l.spares) e
  where
    of : (o : Option ℕ) → first_leaf (order (l.home (first_spares order) t x)) ≡ o → passes o (λ m. m == leaf) ≡ true → (d : ℕ) × (has_name (order d) (Leaf leaf) ≡ true)
    of None is e = absurd (true≢false (sym e))
    of (Some m) is e =
        let slot = l.home (first_spares order) t x in
        (slot, subst (λ k. has_name (order slot) (Leaf k) ≡ true) (is_equal m leaf e) (first_listed (order slot) m is))

    by : (b : Bool) → passes (if b then first_leaf (order (l.home (first_spares order) t x)) else None) (λ m. m == leaf) ≡ true → (d : ℕ) × (has_name (order d) (Leaf leaf) ≡ true)
    by true e = of (first_leaf (order (l.home (first_spares order) t x))) refl e
    by false e = absurd (true≢false (sym e))

-- what an image claims lies on a leaf that is an arm of it
pub claim_named : (l : Layout) (img : Image) (s : Segment) → claims l img.core s ≡ true → (c : ℕ) × (has_name (img.core.order c) (Leaf s.leaf) ≡ true)
claim_named l img s claim =
    let c = from_claims l img.core s claim in
    lies_listed l img.core.order (l.slot_of c.h.first s.column) s.arm (c.h.first + s.row) s.leaf c.on.listed c.on.lies

-- what is present lies on a leaf that is an arm, or was one until a group that isn't committed
pub owned_leaf : (l : Layout) (w : State) → AreListed w.core → (s : Segment) → IsOwned l w s → (a : Arm) × (w.core.arm (Leaf s.leaf) ≡ Some a)
owned_leaf l w listed s o = elim o.place [
  | inl place ↦
      let z = at_cases l w.core s place in
      let on = four_true (has_name (w.core.order (l.slot_of z.0.first s.column)) s.arm) (nat_lt s.column l.columns) (nat_lt s.row z.0.stripes) (lies l w.core.order s.arm (z.0.first + s.row) s.leaf) z.2 in
      let d = lies_listed l w.core.order (l.slot_of z.0.first s.column) s.arm (z.0.first + s.row) s.leaf on.0 on.3 in
      here d.0 (Leaf s.leaf) d.1
  | inr kept ↦ by s.arm refl kept.group kept.arm kept.on
]
  where
    here : (c : ℕ) (n : ArmName) → has_name (w.core.order c) n ≡ true → (a : Arm) × (w.core.arm n ≡ Some a)
    here c n e = let z = listed.data_of c n e in (z.0, z.1)

    had : (g c : ℕ) (n : ArmName) → HadSlot w.core g c n → (a : Arm) × (w.core.arm n ≡ Some a)
    had g c n (inl e) = here c n e
    had g c n (inr was) = (was.0.a, was.0.found)

    by : (n : ArmName) → s.arm ≡ n → (g : ℕ) → HadSlot w.core g (l.slot_of o.h.first s.column) s.arm → KeptOn l w.core g n (o.h.first + s.row) s.leaf → (a : Arm) × (w.core.arm (Leaf s.leaf) ≡ Some a)
    by (Leaf m) is g arm k = subst (λ v. (a : Arm) × (w.core.arm (Leaf v) ≡ Some a)) (sym k) (had g (l.slot_of o.h.first s.column) (Leaf m) (subst (λ n. HadSlot w.core g (l.slot_of o.h.first s.column) n) is arm))
    by (Spare t) is g arm k = had g (l.home k.first t (o.h.first + s.row)) (Leaf s.leaf) k.leaf_of
