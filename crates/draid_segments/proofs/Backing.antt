-- What a call leaves untouched is as it was.
use Rattle.std.proofs.Common.{◌≡◌, ◌+◌, ◌⊎◌, ℕ, Bool, true, false, List, Some, IsSome, IsTrue, refl, sym, ◌∙◌, ap, subst, inl, inr, Option}
use Rattle.draid_machine.specs.declared.names.Held.{Held}
use Rattle.draid_machine.specs.declared.names.Segment.{Segment}
use Rattle.draid_machine.specs.State.{Layout, Image, State}
use Rattle.draid_machine.specs.Claims.{claims}
use Rattle.draid_machine.specs.Images.{IsImage}
use Rattle.draid_rack.specs.Rack.{Told}
use Rattle.draid_rack.specs.Moments.{ChangesOnly, Leaves}
use Rattle.draid_rack.proofs.Moments.{leaves_self}
use Rattle.draid_segments.specs.Segments.{Backed, Firm, FirmUpTo, Holds, IsClaim, IsLasting, IsSure, Pieces, Steady, harmed_at, image_group, piece_of, reads_at, sector_at, soft_at}
use Rattle.draid_segments.specs.Acts.{nowhere}

-- a test stays false where nothing makes it true
pub still : {a b : Bool} → (IsTrue a → IsTrue b) → b ≡ false → a ≡ false
still {a = false} f e = refl
still {a = true} f e = sym (f refl) ∙ e

-- ---- one sector
pub record Untouched (leaf sector : ℕ) (x y : Told) : Type 0 where
  pub reads : y.reads leaf sector ≡ x.reads leaf sector
  pub since : y.since leaf sector ≡ x.since leaf sector
  pub harmed : y.harmed leaf sector ≡ x.harmed leaf sector
  pub soft : IsTrue (y.soft leaf sector) → IsTrue (x.soft leaf sector)

pub untouched_by : (named : ℕ → ℕ → Bool) (leaf sector : ℕ) (x y : Told) → Leaves named x y → named leaf sector ≡ false → Untouched leaf sector x y
untouched_by named leaf sector x y d free = record {
  reads = d.only.reads leaf sector free;
  since = d.only.since leaf sector free;
  harmed = d.harm leaf sector free;
  soft = d.only.soft leaf sector free;
}

pub leaves_same : (x y : Told) → y ≡ x → Leaves nowhere x y
leaves_same x y same = subst (λ z. Leaves nowhere x z) (sym same) (leaves_self nowhere x)

pub untouched_same : (leaf sector : ℕ) (x y : Told) → y ≡ x → Untouched leaf sector x y
untouched_same leaf sector x y same = untouched_by nowhere leaf sector x y (leaves_same x y same) refl

-- a segment lies at the same sector by blocks with the same first stripe
pub same_sector : (l : Layout) (h i : Held) (s : Segment) → h.first ≡ i.first → sector_at l i s ≡ sector_at l h s
same_sector l h i s first = ap (λ f. l.sector_of (f + s.row) s.column) (sym first)

-- ---- images
pub steady_by : (l : Layout) (img : Image) (doubt : Segment → Bool) (named : ℕ → ℕ → Bool) (x y : Told) → ChangesOnly named x y
    → ((s : Segment) (h : Held) → IsClaim l img doubt s h → named s.leaf (sector_at l h s) ≡ false) → Steady l img doubt x y
steady_by l img doubt named x y d free = record {
  later = d.later;
  reads = λ s h c. d.reads s.leaf (sector_at l h s) (free s h c);
  since = λ s h c. d.since s.leaf (sector_at l h s) (free s h c);
  soft = λ s h c. d.soft s.leaf (sector_at l h s) (free s h c);
  harmed = λ s h c. d.harmed s.leaf (sector_at l h s) (free s h c);
}

pub steady_same : (l : Layout) (img : Image) (doubt : Segment → Bool) (x y : Told) → y ≡ x → Steady l img doubt x y
steady_same l img doubt x y same = steady_by l img doubt nowhere x y (leaves_same x y same).only (λ s h c. refl)

pub firm_by : (l : Layout) (pieces : Pieces) (img : Image) (doubt : Segment → Bool) (x y : Told)
    → ((s : Segment) (h : Held) → IsClaim l img doubt s h → Untouched s.leaf (sector_at l h s) x y) → Firm l pieces img doubt x → Firm l pieces img doubt y
firm_by l pieces img doubt x y same f = record {
  there = λ s h c. subst (λ o. IsSome o) (sym (same s h c).reads) (f.there s h c);
  reads = λ s h c calm known. (same s h c).reads ∙ f.reads s h c (sym (same s h c).harmed ∙ calm) known;
  firm = λ s h c. still (same s h c).soft (f.firm s h c);
}

-- an image is firm with more in doubt
pub firm_doubt : (l : Layout) (pieces : Pieces) (img : Image) (few more : Segment → Bool) (x : Told)
    → ((s : Segment) (h : Held) → img.core.held s.key ≡ Some h → claims l img.core s ≡ true → more s ≡ false → few s ≡ false)
    → Firm l pieces img few x → Firm l pieces img more x
firm_doubt l pieces img few more x to f = record {
  there = λ s h c. f.there s h (of s h c);
  reads = λ s h c. f.reads s h (of s h c);
  firm = λ s h c. f.firm s h (of s h c);
}
  where
    of : (s : Segment) (h : Held) → IsClaim l img more s h → IsClaim l img few s h
    of s h c = record { held = c.held; claim = c.claim; sure = to s h c.held c.claim c.sure }

-- what reads as a piece reads as another, where that is the same once it is known
pub read_as : (o p q : Option (List ℕ)) → (IsSome q → q ≡ p) → (IsSome p → o ≡ p) → IsSome q → o ≡ q
read_as o p q same reads known = reads (subst (λ z. IsSome z) (same known) known) ∙ sym (same known)

-- pieces of one key that are the same are the same for each segment
pub same_piece : (pieces other : Pieces) (s : Segment) → other s.key ≡ pieces s.key → IsSome (piece_of other s) → piece_of other s ≡ piece_of pieces s
same_piece pieces other s same known = ap (λ (f : ℕ → ℕ → Option (List ℕ)). f s.column s.row) same

-- an image is firm by other pieces that are the same for its blocks, where they are known
pub firm_pieces : (l : Layout) (pieces other : Pieces) (img : Image) (doubt : Segment → Bool) (x : Told)
    → ((s : Segment) (h : Held) → IsClaim l img doubt s h → IsSome (piece_of other s) → piece_of other s ≡ piece_of pieces s) → Firm l pieces img doubt x → Firm l other img doubt x
firm_pieces l pieces other img doubt x same f = record {
  there = f.there;
  reads = λ s h c calm. read_as (reads_at l h s x) (piece_of pieces s) (piece_of other s) (same s h c) (f.reads s h c calm);
  firm = f.firm;
}

-- ---- the state
-- a segment was sure, and untouched
pub record Was (l : Layout) (w : State) (s : Segment) (h : Held) (x y : Told) : Type 0 where
  pub i : Held
  pub sure : IsSure w s i
  pub first : h.first ≡ i.first
  pub same : Untouched s.leaf (sector_at l i s) x y

-- it is there, and reads as it is to where that is known
pub record Reads (l : Layout) (pieces : Pieces) (s : Segment) (h : Held) (y : Told) : Type 0 where
  pub there : IsSome (reads_at l h s y)
  pub reads : harmed_at l h s y ≡ false → IsSome (piece_of pieces s) → reads_at l h s y ≡ piece_of pieces s

was_reads : (l : Layout) (pieces after : Pieces) (w : State) (x y : Told) (s : Segment) (h : Held) → Holds l pieces w x → Was l w s h x y → after s.key ≡ pieces s.key → Reads l after s h y
was_reads l pieces after w x y s h holds z key =
    let sector = same_sector l h z.i s z.first in
    record {
      there = subst (λ t. IsSome (y.reads s.leaf t)) sector (subst (λ o. IsSome o) (sym z.same.reads) (holds.there s z.i z.sure));
      reads = λ calm known. subst (λ t. y.reads s.leaf t ≡ piece_of after s) sector
          (z.same.reads ∙ read_as (reads_at l z.i s x) (piece_of pieces s) (piece_of after s) (same_piece pieces after s key)
          (holds.reads s z.i z.sure (sym z.same.harmed ∙ subst (λ t. y.harmed s.leaf t ≡ false) (sym sector) calm)) known);
    }

pub holds_by : (l : Layout) (pieces after : Pieces) (w new : State) (x y : Told) → Holds l pieces w x
    → ((s : Segment) (h : Held) → IsSure new s h → (Was l w s h x y × (after s.key ≡ pieces s.key)) ⊎ Reads l after s h y) → Holds l after new y
holds_by l pieces after w new x y holds each = record { there = λ s h sure. (now s h sure).there; reads = λ s h sure. (now s h sure).reads }
  where
    now : (s : Segment) (h : Held) → IsSure new s h → Reads l after s h y
    now s h sure = elim (each s h sure) [
      | inl z ↦ was_reads l pieces after w x y s h holds z.0 z.1
      | inr z ↦ z
    ]

-- a segment was lasting and sure, and its sector isn't softer
pub record Lasted (l : Layout) (group : ℕ) (w : State) (s : Segment) (h : Held) (x y : Told) : Type 0 where
  pub i : Held
  pub lasting : IsLasting l group w.core s i
  pub sure : w.aside s ≡ false
  pub first : h.first ≡ i.first
  pub soft : IsTrue (soft_at l i s y) → IsTrue (soft_at l i s x)

pub last_by : (l : Layout) (group : ℕ) (w new : State) (x y : Told) → FirmUpTo l group w x
    → ((s : Segment) (h : Held) → IsLasting l group new.core s h → new.aside s ≡ false → Lasted l group w s h x y ⊎ (soft_at l h s y ≡ false)) → FirmUpTo l group new y
last_by l group w new x y last each = record {
  firm = λ s h lasting sure. elim (each s h lasting sure) [
    | inl z ↦ subst (λ t. y.soft s.leaf t ≡ false) (same_sector l h z.i s z.first) (still z.soft (last.firm s z.i z.lasting z.sure))
    | inr z ↦ z
  ];
}

-- ---- events on which the rack does nothing
pub record Calm (l : Layout) (w new : State) : Type 0 where
  pub sure : (s : Segment) (h : Held) → IsSure new s h → (i : Held) × IsSure w s i × (h.first ≡ i.first)
  pub images : (img : Image) → IsImage new img → IsImage w img
  pub claimed : (img : Image) (s : Segment) (h : Held) → IsImage w img → img.core.held s.key ≡ Some h → claims l img.core s ≡ true → new.aside s ≡ false → w.aside s ≡ false
  pub group : image_group new ≡ image_group w
  pub last : (s : Segment) (h : Held) → IsLasting l (image_group w) new.core s h → new.aside s ≡ false
      → (i : Held) × IsLasting l (image_group w) w.core s i × (w.aside s ≡ false) × (h.first ≡ i.first)

pub calm_backed : (l : Layout) (pieces : Pieces) (w new : State) (x y : Told) → y ≡ x → Calm l w new → Backed l pieces w x → Backed l pieces new y
calm_backed l pieces w new x y same c b = record {
  holds = holds_by l pieces pieces w new x y b.holds (λ s h sure. let z = c.sure s h sure in
      inl (record { i = z.0; sure = z.1; first = z.2; same = untouched_same s.leaf (sector_at l z.0 s) x y same }, refl));
  images = λ img is. let was = c.images img is in
      firm_doubt l pieces img w.aside new.aside y (λ s h held claim sure. c.claimed img s h was held claim sure) (subst (λ z. Firm l pieces img w.aside z) (sym same) (b.images img was));
  last = subst (λ g. FirmUpTo l g new y) (sym c.group) (last_by l (image_group w) w new x y b.last (λ s h lasting sure. let z = c.last s h lasting sure in
      inl (record { i = z.0; lasting = z.1; sure = z.2; first = z.3; soft = (untouched_same s.leaf (sector_at l z.0 s) x y same).soft })));
}
