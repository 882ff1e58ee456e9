-- What is present, kept and aside stays so where a state comes from another with no slot's order changed.
use Rattle.std.proofs.Common.{◌≡◌, ◌+◌, ◌<◌, ◌≤◌, ◌⊎◌, ◌&&◌, ℕ, true, nat_lt, List, Option, Some, None, refl, sym, ◌∙◌, ap, subst, inl, inr, arith}
use Rattle.draid_names.specs.declared.pass_kind.PassKind.TheVariants.{Rebuild}
use Rattle.draid_machine.specs.declared.names.ArmName.{ArmName}
use Rattle.draid_machine.specs.declared.names.ArmName.TheVariants.{Leaf, Spare}
use Rattle.draid_machine.specs.declared.names.Held.{Held}
use Rattle.draid_machine.specs.declared.names.Segment.{Segment}
use Rattle.draid_machine.specs.Names.{has_name, is_put}
use Rattle.draid_machine.specs.State.{Layout, Arm, Pass, Core, State}
use Rattle.draid_machine.specs.Arms.{lies}
use Rattle.draid_machine.specs.Claims.{is_on, is_at, is_at_held}
use Rattle.draid_machine.specs.Images.{WasArm, HadSlot, KeptOn, IsOwned, KeptSound, AsideSound}
use Rattle.draid_machine.proofs.Small.{absurd_test, four_true, is_below}

-- ---- what is kept of segments
pub record SegmentsFit (l : Layout) (w : State) : Type 0 where
  pub present : (s : Segment) → w.present s ≡ true → IsOwned l w s
  pub kept : KeptSound w
  pub aside : AsideSound l w

-- a segment at a place, of a column that was put
pub record IsPut (l : Layout) (w : State) (s : Segment) : Type 0 where
  pub h : Held
  pub held : w.core.held s.key ≡ Some h
  pub on : is_on l w.core.order s h ≡ true
  pub put : is_put h.stage s.column ≡ true

-- a segment counts: present, or aside
abbrev pub Counts : State → Segment → Type 0
Counts w s = (w.present s ≡ true) ⊎ (w.aside s ≡ true)

-- the same run, of which no less was put
pub record IsMore (h h' : Held) : Type 0 where
  pub first : h'.first ≡ h.first
  pub stripes : h'.stripes ≡ h.stripes
  pub put : (c : ℕ) → is_put h.stage c ≡ true → is_put h'.stage c ≡ true

pub record Stays (l : Layout) (w w' : State) : Type 0 where
  pub order : w'.core.order ≡ w.core.order
  pub runs : (s : Segment) (h : Held) → Counts w' s → w.core.held s.key ≡ Some h → (h' : Held) × (w'.core.held s.key ≡ Some h') × IsMore h h'
  pub present : (s : Segment) → w'.present s ≡ true → (w.present s ≡ true) ⊎ IsPut l w' s
  pub aside : (s : Segment) → w'.aside s ≡ true → (w.aside s ≡ true) ⊎ ((w.present s ≡ true) ⊎ IsPut l w' s)
  -- what was kept and counts still is kept still, or is at a place; nothing more is kept
  pub keeps : (s : Segment) (g : ℕ) → Counts w' s → w.kept s ≡ Some g → (w'.kept s ≡ Some g) ⊎ (is_at l w.core s ≡ true)
  pub kept : (s : Segment) (g : ℕ) → w'.kept s ≡ Some g → w.kept s ≡ Some g
  pub slots : (s : Segment) (g slot : ℕ) (n : ArmName) → w'.kept s ≡ Some g → HadSlot w.core g slot n → HadSlot w'.core g slot n
  pub still : (s : Segment) (g : ℕ) → w'.kept s ≡ Some g → w.present s ≡ true → w'.present s ≡ true
  pub later : (s : Segment) (g : ℕ) → w'.kept s ≡ Some g → w.committed < g → w'.committed < g
  pub upto : w.open_group ≤ w'.open_group
  -- a rebuild is the one of before, or its max is above the open group
  pub rebuild : (p : Pass) → w'.core.pass ≡ Some p → p.kind ≡ Rebuild
      → ((r : Pass) × (w.core.pass ≡ Some r) × (r.kind ≡ Rebuild) × (p.max ≡ r.max)) ⊎ (w.open_group < p.max)

module _ (l : Layout) where
  -- a place speaks of a run alone
  pub on_more : (order order' : ℕ → List ArmName) (s : Segment) (h h' : Held) → order' ≡ order → h'.first ≡ h.first → h'.stripes ≡ h.stripes → is_on l order s h ≡ true → is_on l order' s h' ≡ true
  on_more order order' s h h' orders first stripes e =
      let P : (ℕ → List ArmName) → ℕ → ℕ → Type 0 = λ o f k. (has_name (o (l.slot_of f s.column)) s.arm && nat_lt s.column l.columns && nat_lt s.row k && lies l o s.arm (f + s.row) s.leaf) ≡ true in
      subst (λ o. P o h'.first h'.stripes) (sym orders) (subst (λ f. P order f h'.stripes) (sym first) (subst (λ k. P order h.first k) (sym stripes) e))

  pub at_cases : (q : Core) (s : Segment) → is_at l q s ≡ true → (h : Held) × (q.held s.key ≡ Some h) × (is_on l q.order s h ≡ true)
  at_cases q s e = by (q.held s.key) refl
    where
      by : (o : Option Held) → q.held s.key ≡ o → (h : Held) × (q.held s.key ≡ Some h) × (is_on l q.order s h ≡ true)
      by None is = absurd_test (is_at l q s) e (ap (is_at_held l q.order s) is)
      by (Some h) is = (h, is, subst (λ o. is_at_held l q.order s o ≡ true) is e)

  pub at_of : (q : Core) (s : Segment) (h : Held) → q.held s.key ≡ Some h → is_on l q.order s h ≡ true → is_at l q s ≡ true
  at_of q s h found on = subst (λ o. is_at_held l q.order s o ≡ true) (sym found) on

  -- a leaf, or a spare, lay where it lay: its slots had what they had
  pub kept_on : (q q' : Core) (g : ℕ) (n : ArmName) (x leaf : ℕ) → ((slot : ℕ) (m : ArmName) → HadSlot q g slot m → HadSlot q' g slot m) → KeptOn l q g n x leaf → KeptOn l q' g n x leaf
  kept_on q q' g (Leaf m) x leaf slots o = o
  kept_on q q' g (Spare t) x leaf slots o =
      record { there = o.there; first = o.first; owners = λ slot u e. slots slot (Spare u) (o.owners slot u e); leaf_of = slots (l.home o.first t x) (Leaf leaf) o.leaf_of }

  -- a segment where its arm keeps it
  pub owned_put : (w : State) (s : Segment) → IsPut l w s → IsOwned l w s
  owned_put w s p =
      let z = four_true (has_name (w.core.order (l.slot_of p.h.first s.column)) s.arm) (nat_lt s.column l.columns) (nat_lt s.row p.h.stripes) (lies l w.core.order s.arm (p.h.first + s.row) s.leaf) p.on in
      record { h = p.h; held = p.held; column = is_below s.column l.columns z.1; row = is_below s.row p.h.stripes z.2; put = p.put; place = inl (at_of w.core s p.h p.held p.on) }

  module _ (w w' : State) (f : Stays l w w') (s : SegmentsFit l w) where
    still_at : (g : Segment) → Counts w' g → is_at l w.core g ≡ true → is_at l w'.core g ≡ true
    still_at g here e =
        let z = at_cases w.core g e in
        let y = f.runs g z.0 here z.1 in
        at_of w'.core g y.0 y.1 (on_more w.core.order w'.core.order g z.0 y.0 f.order y.2.first y.2.stripes z.2)

    owned_still : (g : Segment) → w'.present g ≡ true → IsOwned l w g → IsOwned l w' g
    owned_still g here o =
        let y = f.runs g o.h (inl here) o.held in
        record {
          h = y.0;
          held = y.1;
          column = o.column;
          row = subst (λ k. g.row < k) (sym y.2.stripes) o.row;
          put = y.2.put g.column o.put;
          place = elim o.place [
            | inl place ↦ inl (still_at g (inl here) place)
            | inr k ↦ elim (f.keeps g k.group (inl here) k.kept) [
              | inl kept ↦ inr (record {
                group = k.group;
                kept = kept;
                arm = subst (λ x. HadSlot w'.core k.group (l.slot_of x g.column) g.arm) (sym y.2.first) (f.slots g k.group (l.slot_of o.h.first g.column) g.arm kept k.arm);
                on = subst (λ x. KeptOn l w'.core k.group g.arm (x + g.row) g.leaf) (sym y.2.first)
                    (kept_on w.core w'.core k.group g.arm (o.h.first + g.row) g.leaf (λ slot m had. f.slots g k.group slot m kept had) k.on);
              })
              | inr place ↦ inl (still_at g (inl here) place)
            ]
          ];
        }

    kept_still : (g : Segment) → Counts w' g → (k : ℕ) → w.kept g ≡ Some k → (is_at l w'.core g ≡ true) ⊎ ((k : ℕ) × (w'.kept g ≡ Some k))
    kept_still g here k e = elim (f.keeps g k here e) [
      | inl kept ↦ inr (k, kept)
      | inr place ↦ inl (still_at g here place)
    ]

    pub segments_stay : SegmentsFit l w'
    segments_stay = record {
      present = λ g e. elim (f.present g e) [
        | inl old ↦ owned_still g e (s.present g old)
        | inr new ↦ owned_put w' g new
      ];
      kept = record {
        present = λ g k e. f.still g k e (s.kept.present g k (f.kept g k e));
        later = λ g k e. f.later g k e (s.kept.later g k (f.kept g k e));
        upto = λ g k e. (let z = s.kept.upto g k (f.kept g k e) in let more = f.upto in omega (arith, z, more));
        rebuild = λ p g k pass kind e. elim (f.rebuild p pass kind) [
          | inl r ↦ subst (λ m. k < m) (sym r.3) (s.kept.rebuild r.0 g k r.1 r.2 (f.kept g k e))
          | inr above ↦ (let z = s.kept.upto g k (f.kept g k e) in omega (arith, z, above))
        ];
      };
      aside = record {
        held = λ g e. elim (f.aside g e) [
          | inl old ↦ let z = s.aside.held g old in let y = f.runs g z.0 (inr e) z.1 in (y.0, y.1)
          | inr new ↦ elim new [
            | inl old ↦ let o = s.present g old in let y = f.runs g o.h (inr e) o.held in (y.0, y.1)
            | inr put ↦ (put.h, put.held)
          ]
        ];
        place = λ g e. elim (f.aside g e) [
          | inl old ↦ elim (s.aside.place g old) [
            | inl place ↦ inl (still_at g (inr e) place)
            | inr k ↦ kept_still g (inr e) k.0 k.1
          ]
          | inr new ↦ elim new [
            | inl old ↦ elim (s.present g old).place [
              | inl place ↦ inl (still_at g (inr e) place)
              | inr k ↦ kept_still g (inr e) k.group k.kept
            ]
            | inr put ↦ inl (at_of w'.core g put.h put.held put.on)
          ]
        ];
      };
    }

-- ---- arms that are gone stay gone
-- an arm keeps its detachment
abbrev pub KeepsGone : (ArmName → Option Arm) → (ArmName → Option Arm) → Type 0
KeepsGone f g = (n : ArmName) (a : Arm) → f n ≡ Some a → (b : Arm) × (g n ≡ Some b) × (b.gone ≡ a.gone)

pub had_still : (q q' : Core) (g slot : ℕ) (n : ArmName) → q'.order ≡ q.order → KeepsGone q.arm q'.arm → HadSlot q g slot n → HadSlot q' g slot n
had_still q q' g slot n order keeps (inl here) = inl (subst (λ o. has_name (o slot) n ≡ true) (sym order) here)
had_still q q' g slot n order keeps (inr x) =
    let was : WasArm q slot n = x.0 in
    let z = keeps n was.a was.found in
    inr (record { a = z.0; g = was.g; found = z.1; gone = z.2 ∙ was.gone; slot_is = was.slot_is }, x.1)
