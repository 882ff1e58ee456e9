-- A leaf that comes, and the bytes of what isn't held.
use Rattle.std.proofs.Common.{◌≡◌, ◌==◌, ℕ, Bool, true, false, List, Option, Some, None, IsSome, refl, sym, subst, inl, inr, ◌⊎◌}
use Rattle.draid_machine.specs.declared.names.Key.{Key}
use Rattle.draid_machine.specs.declared.names.ArmName.TheVariants.{Leaf}
use Rattle.draid_machine.specs.declared.names.Held.{Held}
use Rattle.draid_machine.specs.declared.names.Segment.{Segment}
use Rattle.draid_machine.specs.State.{Layout, IsLayout, Image, State}
use Rattle.draid_machine.specs.Claims.{claims}
use Rattle.draid_machine.specs.Created.{IsReached, created}
use Rattle.draid_machine.specs.Images.{IsImage}
use Rattle.draid_machine.proofs.Small.{none_some, bool_cases, is_equal}
use Rattle.draid_machine.proofs.Losing.{every_segment}
use Rattle.draid_machine.proofs.Rows.{reached_sound}
use Rattle.draid_rack.specs.Rack.{Told}
use Rattle.draid_rack.specs.Moments.{Leaves}
use Rattle.draid_segments.specs.Segments.{Backed, Firm, Pieces, Steady, image_group, sector_at, piece_of, reads_at}
use Rattle.draid_segments.specs.Acts.{nowhere}
use Rattle.draid_segments.proofs.Apart.{its_block, stands}
use Rattle.draid_segments.proofs.Backing.{Untouched, firm_by, firm_pieces, holds_by, last_by, steady_by, untouched_by, read_as, same_piece}
use Rattle.draid_segments.proofs.Lasting.{lasting_present, owned_leaf}

pub created_backed : (l : Layout) (version : ℕ) (pieces : Pieces) (x : Told) → Backed l pieces (created l version) x
created_backed l version pieces x = record {
  holds = record { there = λ s h is. absurd (none_some None h refl is.held); reads = λ s h is calm known. absurd (none_some None h refl is.held) };
  images = λ img is. elim is [
    | inl e ↦ subst (λ (i : Image). Firm l pieces i (λ s. false) x) e (record {
      there = λ s h c. absurd (none_some None h refl c.held);
      reads = λ s h c calm known. absurd (none_some None h refl c.held);
      firm = λ s h c. absurd (none_some None h refl c.held);
    })
    | inr e ↦ absurd (none_some None img refl e)
  ];
  last = record { firm = λ s h is sure. absurd (none_some None h refl is.on.held) };
}

-- flushes alone
pub flushed_backed : (l : Layout) (w : State) (pieces : Pieces) (x y : Told) → Leaves nowhere x y → Backed l pieces w x → Backed l pieces w y
flushed_backed l w pieces x y d b = record {
  holds = holds_by l pieces pieces w w x y b.holds (λ s h is. inl (record { i = h; sure = is; first = refl; same = untouched_by nowhere s.leaf (sector_at l h s) x y d refl }, refl));
  images = λ img is. firm_by l pieces img w.aside x y (λ s h c. untouched_by nowhere s.leaf (sector_at l h s) x y d refl) (b.images img is);
  last = last_by l (image_group w) w w x y b.last (λ s h is sure. inl (record { i = h; lasting = is; sure = sure; first = refl; soft = d.only.soft s.leaf (sector_at l h s) refl }));
}

module _ (l : Layout) (lay : IsLayout l) (w : State) (reached : IsReached l w) where
  -- nothing that is present, or claimed, lies on a leaf that is no arm
  present_off : (leaf : ℕ) → w.core.arm (Leaf leaf) ≡ None → (s : Segment) → w.present s ≡ true → (s.leaf == leaf) ≡ false
  present_off leaf none s here = elim (bool_cases (s.leaf == leaf)) [
    | inr off ↦ off
    | inl t ↦
        let own = every_segment l w lay reached in
        let b = owned_leaf l w own.listed s (own.present s here) in
        absurd (none_some (w.core.arm (Leaf s.leaf)) b.0 (subst (λ k. w.core.arm (Leaf k) ≡ None) (sym (is_equal s.leaf leaf t)) none) b.1)
  ]

  module _ (leaf : ℕ) (none : w.core.arm (Leaf leaf) ≡ None) (x y : Told) (d : Leaves (λ m s. m == leaf) x y) where
    same : (s : Segment) (h : Held) → w.present s ≡ true → Untouched s.leaf (sector_at l h s) x y
    same s h here = untouched_by (λ m q. m == leaf) s.leaf (sector_at l h s) x y d (present_off leaf none s here)

    claimed : (img : Image) → IsImage w img → (s : Segment) → claims l img.core s ≡ true → w.present s ≡ true
    claimed img is s claim = (stands l lay w reached img is).claimed s claim

    pub leaf_steady : (img : Image) (doubt : Segment → Bool) → IsImage w img → Steady l img doubt x y
    leaf_steady img doubt is = steady_by l img doubt (λ m q. m == leaf) x y d.only (λ s h c. present_off leaf none s (claimed img is s c.claim))

    pub leaf_backed : (pieces : Pieces) → Backed l pieces w x → Backed l pieces w y
    leaf_backed pieces b = record {
      holds = holds_by l pieces pieces w w x y b.holds (λ s h is. inl (record { i = h; sure = is; first = refl; same = same s h is.present }, refl));
      images = λ img is. firm_by l pieces img w.aside x y (λ s h c. same s h (claimed img is s c.claim)) (b.images img is);
      last = last_by l (image_group w) w w x y b.last (λ s h is sure. inl (record {
        i = h;
        lasting = is;
        sure = sure;
        first = refl;
        soft = (same s h (lasting_present l w (image_group w) s h (reached_sound l lay w reached) is)).soft;
      }));
    }

  some_held : (o : Option Held) (h : Held) → o ≡ Some h → IsSome o
  some_held o h e = subst (λ p. IsSome p) (sym e) refl

  -- the bytes of what isn't held are free
  pub pieces_backed : (pieces other : Pieces) (x : Told) → ((k : Key) → IsSome (w.core.held k) → other k ≡ pieces k) → Backed l pieces w x → Backed l other w x
  pieces_backed pieces other x same b = record {
    holds = record {
      there = b.holds.there;
      reads = λ s h is calm. read_as (reads_at l h s x) (piece_of pieces s) (piece_of other s) (same_piece pieces other s (same s.key (some_held (w.core.held s.key) h is.held)))
          (b.holds.reads s h is calm);
    };
    images = λ img is. firm_pieces l pieces other img w.aside x
        (λ s h c. let z = its_block l lay w reached img is s.key h c.held in same_piece pieces other s (same s.key (some_held (w.core.held s.key) z.h z.found))) (b.images img is);
    last = b.last;
  }

-- fewer bytes may be known
less_known : (a b : Option (List ℕ)) → (a ≡ b) ⊎ (a ≡ None) → IsSome a → a ≡ b
less_known a b (inl same) known = same
less_known (Some bytes) b (inr none) known = absurd (none_some (Some bytes) bytes none refl)
less_known None b (inr none) known = absurd (cc)

pub known_backed : (l : Layout) (w : State) (pieces other : Pieces) (x : Told) → ((key : Key) (column row : ℕ) → (other key column row ≡ pieces key column row) ⊎ (other key column row ≡ None))
    → Backed l pieces w x → Backed l other w x
known_backed l w pieces other x fewer b = record {
  holds = record { there = b.holds.there; reads = λ s h is calm. read_as (reads_at l h s x) (piece_of pieces s) (piece_of other s) (same s) (b.holds.reads s h is calm) };
  images = λ img is. firm_pieces l pieces other img w.aside x (λ s h c. same s) (b.images img is);
  last = b.last;
}
  where
    same : (s : Segment) → IsSome (piece_of other s) → piece_of other s ≡ piece_of pieces s
    same s = less_known (piece_of other s) (piece_of pieces s) (fewer s.key s.column s.row)
