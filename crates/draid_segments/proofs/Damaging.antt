-- A sector is damaged.
use Rattle.std.proofs.Common.{◌≡◌, ◌==◌, ◌⊎◌, ◌&&◌, ◌||◌, ℕ, Bool, true, false, List, Option, Some, None, IsSome, IsTrue, refl, sym, ◌∙◌, subst, inl, inr}
use Rattle.std.proofs.lemmas.Bool.{true≢false}
use Rattle.draid_machine.specs.declared.names.Held.{Held}
use Rattle.draid_machine.specs.declared.names.Segment.{Segment}
use Rattle.draid_machine.specs.State.{Layout, IsLayout, Image, State}
use Rattle.draid_machine.specs.Created.{IsReached}
use Rattle.draid_machine.specs.Images.{IsImage}
use Rattle.draid_machine.proofs.Small.{bool_cases, both_true, true_both, equal, is_equal}
use Rattle.draid_rack.specs.Rack.{Told, complement, damages}
use Rattle.draid_rack.specs.Moments.{Leaves}
use Rattle.draid_rack.proofs.Moments.{leaves_damages}
use Rattle.draid_segments.specs.Segments.{Backed, Firm, Pieces, Steady, image_group, sector_at}
use Rattle.draid_segments.specs.Acts.{Damages, is_there}
use Rattle.draid_segments.proofs.Apart.{its_block}
use Rattle.draid_segments.proofs.Backing.{Untouched, holds_by, last_by, leaves_same, steady_by, still, untouched_by}

-- a sector that became harmed: it is there as before, and soft as before
record Harmed (leaf sector : ℕ) (x y : Told) : Type 0 where
  harmed : y.harmed leaf sector ≡ true
  there : IsSome (x.reads leaf sector) → IsSome (y.reads leaf sector)
  soft : IsTrue (y.soft leaf sector) → IsTrue (x.soft leaf sector)

abbrev pub is_sector : ℕ → ℕ → ℕ → ℕ → Bool
is_sector leaf sector m q = (m == leaf) && (q == sector)

complemented : (o : Option (List ℕ)) → IsSome o → IsSome (complement o)
complemented (Some bytes) t = refl
complemented None t = t

pub damages_leaves : (leaf sector : ℕ) (failed : Bool) (x y : Told) → Damages leaf sector failed x y → Leaves (is_sector leaf sector) x y
damages_leaves leaf sector true x y same = record {
  only = record {
    later = (leaves_same x y same).only.later;
    reads = λ m q out. (leaves_same x y same).only.reads m q refl;
    since = λ m q out. (leaves_same x y same).only.since m q refl;
    soft = λ m q out. (leaves_same x y same).only.soft m q refl;
    harmed = λ m q out. (leaves_same x y same).only.harmed m q refl;
  };
  harm = λ m q out. (leaves_same x y same).harm m q refl;
}
damages_leaves leaf sector false x y same = subst (λ z. Leaves (is_sector leaf sector) x z) (sym same) (leaves_damages (is_sector leaf sector) leaf sector x is)
  where
    is : is_sector leaf sector leaf sector ≡ true
    is = true_both (leaf == leaf) (sector == sector) (equal leaf leaf refl) (equal sector sector refl)

damaged : (leaf sector : ℕ) (failed : Bool) (x y : Told) → Damages leaf sector failed x y → (m q : ℕ) → Untouched m q x y ⊎ Harmed m q x y
damaged leaf sector true x y same m q = inl (untouched_by _ m q x y (leaves_same x y same) refl)
damaged leaf sector false x y same m q = elim (bool_cases (is_sector leaf sector m q)) [
  | inr out ↦ inl (untouched_by (is_sector leaf sector) m q x y (damages_leaves leaf sector false x y same) out)
  | inl is ↦ inr (subst (λ z. Harmed m q x z) (sym same) (record { harmed = rw is refl; there = λ t. it is t; soft = λ t. t }))
]
  where
    it : is_sector leaf sector m q ≡ true → IsSome (x.reads m q) → IsSome ((damages leaf sector x).reads m q)
    it is t =
        let a = both_true (m == leaf) (q == sector) is in
        let m_is = is_equal m leaf a.0 in
        let q_is = is_equal q sector a.1 in
        rw is (complemented (x.reads leaf sector) (subst (λ k. IsSome (x.reads k sector)) m_is (subst (λ k. IsSome (x.reads m k)) q_is t)))

module _ (l : Layout) (lay : IsLayout l) (w : State) (reached : IsReached l w) (leaf sector : ℕ) (failed : Bool) (x y : Told) (acts : Damages leaf sector failed x y) where
  either : (m q : ℕ) → Untouched m q x y ⊎ Harmed m q x y
  either = damaged leaf sector failed x y acts

  soft : (m q : ℕ) → IsTrue (y.soft m q) → IsTrue (x.soft m q)
  soft m q = elim (either m q) [ inl z ↦ z.soft | inr z ↦ z.soft ]

  there : (m q : ℕ) → IsSome (x.reads m q) → IsSome (y.reads m q)
  there m q t = elim (either m q) [ inl z ↦ subst (λ o. IsSome o) (sym z.reads) t | inr z ↦ z.there t ]

  pub damage_firm : (pieces : Pieces) (img : Image) (doubt : Segment → Bool) → Firm l pieces img doubt x → Firm l pieces img doubt y
  damage_firm pieces img doubt f = record {
    there = λ s h c. there s.leaf (sector_at l h s) (f.there s h c);
    reads = λ s h c calm known. elim (either s.leaf (sector_at l h s)) [
      | inl z ↦ z.reads ∙ f.reads s h c (sym z.harmed ∙ calm) known
      | inr z ↦ absurd (true≢false (sym z.harmed ∙ calm))
    ];
    firm = λ s h c. still (soft s.leaf (sector_at l h s)) (f.firm s h c);
  }

  pub damage_backed : (pieces : Pieces) → Backed l pieces w x → Backed l pieces w y
  damage_backed pieces b = record {
    holds = holds_by l pieces pieces w w x y b.holds (λ s h is. elim (either s.leaf (sector_at l h s)) [
      | inl z ↦ inl (record { i = h; sure = is; first = refl; same = z }, refl)
      | inr z ↦ inr (record { there = z.there (b.holds.there s h is); reads = λ calm known. absurd (true≢false (sym z.harmed ∙ calm)) })
    ]);
    images = λ img is. damage_firm pieces img w.aside (b.images img is);
    last = last_by l (image_group w) w w x y b.last (λ s h is sure. inl (record { i = h; lasting = is; sure = sure; first = refl; soft = soft s.leaf (sector_at l h s) }));
  }

  -- but for the segments in the sector that is damaged nothing changes
  second : (a c : Bool) → (a || c) ≡ false → c ≡ false
  second false c e = e
  second true c e = absurd (true≢false e)

  pub damage_steady : (img : Image) → IsImage w img → Steady l img (λ s. w.aside s || is_there l leaf sector s (w.core.held s.key)) x y
  damage_steady img is = steady_by l img (λ s. w.aside s || is_there l leaf sector s (w.core.held s.key)) (is_sector leaf sector) x y (damages_leaves leaf sector failed x y acts).only
      (λ s h c. let z = its_block l lay w reached img is s.key h c.held in
      let out = second (w.aside s) (is_there l leaf sector s (w.core.held s.key)) c.sure in
      subst (λ (k : Held). is_sector leaf sector s.leaf (sector_at l k s) ≡ false) (sym z.is) (subst (λ o. is_there l leaf sector s o ≡ false) z.found out))
