-- What lands of a stripe.
use Rattle.std.proofs.Common.{◌≡◌, ◌<◌, ◌||◌, ◌++◌, ◌∙◌, ℕ, zero, suc, Bool, true, false, List, [], ◌∷◌, Option, Some, None, refl, sym, ap, ap₂, subst, inl, inr}
use Rattle.std.specs.Prelude.{Contains, IsSome, is_none, if◌then◌else◌}
use Rattle.draid_names.specs.declared.arm.At.{At}
use Rattle.draid_machine.specs.After.{is_chosen_aside}
use Rattle.draid_machine.specs.Arms.{leaf_at, passes}
use Rattle.draid_machine.specs.Names.{any_below}
use Rattle.draid_machine.specs.State as machine
use Rattle.draid_machine.specs.declared.names.ArmName.{ArmName}
use Rattle.draid_machine.specs.declared.names.Held.{Held}
use Rattle.draid_machine.specs.declared.names.Segment.{Segment}
use Rattle.draid_machine.proofs.Small.{absurd_test, any_at, bool_cases}
use Rattle.draid_parity.specs.Columns.{StripeValue, column_at}
use Rattle.draid_rack.specs.Rack.{Told, taints}
use Rattle.draid_segments.specs.Acts.{is_chosen_harmed, is_source_harmed}
use Rattle.draid_segments.specs.Segments.{Pieces, piece_of}
use Rattle.draid_spec.specs.declared.layout.Geometry.{Geometry}
use Rattle.draid_mend.specs.Landing.{AreMissing, IsRight, LoanStands, sector_of_arm, sector_on, sectors_below, sources_of}
use Rattle.draid_mend.specs.Solving.{HasContent, HasKnownContent, IsPiece, SolvesRow}

-- ---- sources
taints_both : (a b : List At) (x : Told) → taints (a ++ b) x ≡ (taints a x || taints b x)
taints_both [] b x = refl
taints_both (at ∷ a) b x = by (x.harmed at.leaf at.sector) (taints_both a b x)
  where
    by : (t : Bool) → taints (a ++ b) x ≡ (taints a x || taints b x) → (t || taints (a ++ b) x) ≡ ((t || taints a x) || taints b x)
    by true e = refl
    by false e = e

or_false : (b : Bool) → (b || false) ≡ b
or_false true = refl
or_false false = refl

taints_arm : (l : machine.Layout) (q : machine.Core) (n : machine.Loan) (c : ℕ) (x : Told) (o : Option ArmName) → taints (sector_of_arm l q n c o) x ≡ is_chosen_harmed l q x n c o
taints_arm l q n c x None = refl
taints_arm l q n c x (Some m) = by (leaf_at l q.order m n.stripe)
  where
    by : (o : Option ℕ) → taints (sector_on o (l.sector_of n.stripe c)) x ≡ passes o (λ leaf. x.harmed leaf (l.sector_of n.stripe c))
    by None = refl
    by (Some leaf) = or_false (x.harmed leaf (l.sector_of n.stripe c))

taints_below : (l : machine.Layout) (q : machine.Core) (n : machine.Loan) (x : Told) (c : ℕ) → taints (sectors_below l q n c) x ≡ any_below c (λ c. is_chosen_harmed l q x n c (n.chosen c))
taints_below l q n x zero = refl
taints_below l q n x (suc c) =
    taints_both (sectors_below l q n c) (sector_of_arm l q n c (n.chosen c)) x ∙ ap₂ (λ a b. a || b) (taints_below l q n x c) (taints_arm l q n c x (n.chosen c))

pub taints_are : (l : machine.Layout) (q : machine.Core) (n : machine.Loan) (s : Segment) (x : Told) → taints (sources_of l q n s.column) x ≡ is_source_harmed l q x n s
taints_are l q n s x = by (is_none (n.chosen s.column))
  where
    by : (b : Bool) → taints (if b then sectors_below l q n l.columns else sector_of_arm l q n s.column (n.chosen s.column)) x
        ≡ (if b then any_below l.columns (λ c. is_chosen_harmed l q x n c (n.chosen c)) else is_chosen_harmed l q x n s.column (n.chosen s.column))
    by true = taints_below l q n x l.columns
    by false = taints_arm l q n s.column x (n.chosen s.column)

-- ---- the columns
none_at : (count : ℕ) (p : ℕ → Bool) (c : ℕ) → any_below count p ≡ false → c < count → p c ≡ false
none_at count p c none less = elim (bool_cases (p c)) [
  | inl is ↦ absurd_test (any_below count p) (any_at count p c less is) none
  | inr out ↦ out
]

pub right : (geometry : Geometry) (l : machine.Layout) (w : machine.State) (n : machine.Loan) (h : Held) (pieces : Pieces) (read solved : StripeValue) (missing : List ℕ) (x : Told) (s : Segment) → l.columns ≡ geometry.g
    → AreMissing l n missing → LoanStands l w n h pieces read x → SolvesRow geometry missing read solved → HasKnownContent geometry h.stripes n.key pieces → s.row < h.stripes → IsRight l w n h pieces solved x s
right geometry l w n h pieces read solved missing x s columns are stands solves contents row column key stripe harmed aside known = by (n.chosen s.column) refl
  where
    piece : pieces n.key s.column s.row ≡ piece_of pieces s
    piece = ap (λ k. pieces k s.column s.row) key

    content : HasContent geometry h.stripes n.key pieces
    content = contents s.column s.row (subst (λ (o : Option (List ℕ)). IsSome o) (sym piece) known)

    all_known : (c : ℕ) → c < l.columns → IsSome (pieces n.key c s.row)
    all_known c less = subst (λ (o : Option (List ℕ)). IsSome o) (sym (content.rows c s.row (subst (λ g. c < g) columns less) row)) refl

    by : (o : Option ArmName) → n.chosen s.column ≡ o → Some (column_at solved.columns s.column) ≡ piece_of pieces s
    by (Some m) is =
        let out : Contains missing s.column → ⊥ = (λ here. let none = (are s.column column).0 here in (let clash : Some m ≡ None = sym is ∙ none in cc)) in
        let calm : is_chosen_harmed l w.core x n s.column (Some m) ≡ false
        = sym (ap (λ o. if is_none o then any_below l.columns (λ c. is_chosen_harmed l w.core x n c (n.chosen c)) else is_chosen_harmed l w.core x n s.column o) is) ∙ harmed in
        let sure : is_chosen_aside l w n s s.column (Some m) ≡ false
        = sym (ap (λ o. if is_none o then any_below l.columns (λ c. is_chosen_aside l w n s c (n.chosen c)) else is_chosen_aside l w n s s.column o) is) ∙ aside in
        ap Some (solves.stays s.column out) ∙ stands s.column m s column is key stripe calm sure (all_known s.column column) ∙ piece
    by None is =
        let calm : any_below l.columns (λ c. is_chosen_harmed l w.core x n c (n.chosen c)) ≡ false
        = sym (ap (λ o. if is_none o then any_below l.columns (λ c. is_chosen_harmed l w.core x n c (n.chosen c)) else is_chosen_harmed l w.core x n s.column o) is) ∙ harmed in
        let sure : any_below l.columns (λ c. is_chosen_aside l w n s c (n.chosen c)) ≡ false
        = sym (ap (λ o. if is_none o then any_below l.columns (λ c. is_chosen_aside l w n s c (n.chosen c)) else is_chosen_aside l w n s s.column o) is) ∙ aside in
        solves.solved h.stripes s.row n.key pieces content row (λ c less out. taken c (subst (λ g. c < g) (sym columns) less) out calm sure) s.column (subst (λ g. s.column < g) columns column) ∙ piece
      where
        taken : (c : ℕ) → c < l.columns → (Contains missing c → ⊥) → any_below l.columns (λ c. is_chosen_harmed l w.core x n c (n.chosen c)) ≡ false
            → any_below l.columns (λ c. is_chosen_aside l w n s c (n.chosen c)) ≡ false → IsPiece pieces n.key s.row read c
        taken c less out calm sure = at (n.chosen c) refl
          where
            at : (o : Option ArmName) → n.chosen c ≡ o → IsPiece pieces n.key s.row read c
            at None none = absurd (out ((are c less).1 none))
            at (Some m) some =
                stands c m s less some key stripe
                (sym (ap (is_chosen_harmed l w.core x n c) some) ∙ none_at l.columns (λ c. is_chosen_harmed l w.core x n c (n.chosen c)) c calm less)
                (sym (ap (is_chosen_aside l w n s c) some) ∙ none_at l.columns (λ c. is_chosen_aside l w n s c (n.chosen c)) c sure less) (all_known c less)
