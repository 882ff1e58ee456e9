-- What may be written, part by part.
use Rattle.std.proofs.Common.{◌≡◌, ◌==◌, ◌&&◌, ℕ, Bool, true, List, [], ◌∷◌, refl, sym, subst, inl, inr}
use Rattle.std.proofs.lemmas.Bool.{true≢false}
use Rattle.draid_machine.specs.declared.names.ArmName.{ArmName}
use Rattle.draid_machine.specs.declared.names.Held.{Held}
use Rattle.draid_machine.specs.declared.event.Patched.{Patched}
use Rattle.draid_machine.specs.Names.{has_number, name_eq}
use Rattle.draid_machine.specs.State.{Layout, Core}
use Rattle.draid_machine.specs.After.{has_landed, was_written}
use Rattle.draid_machine.specs.Step.{HealsThere, Patches}
use Rattle.draid_machine.proofs.Small.{both_true, either_true, equal, is_equal, name_refl, name_true, true_both, true_left, true_right}
use Rattle.draid_scrubs.specs.Patches.{EachPart, PartStands, RowStands}
use Rattle.draid_scrubs.specs.Wholes.{AreColumnsPatched}

row_parts : (d : Patched) (c : ℕ) (n : ArmName) (b : Bool) → ((d.column == c) && name_eq d.arm n && b) ≡ true → (d.column ≡ c) × (d.arm ≡ n) × (b ≡ true)
row_parts d c n b e =
    let x = both_true _ _ e in
    let y = both_true _ _ x.0 in
    (is_equal d.column c y.0, name_true d.arm n y.1, x.1)

parts_row : (d : Patched) (b : Bool) → b ≡ true → ((d.column == d.column) && name_eq d.arm d.arm && b) ≡ true
parts_row d b e = true_both _ _ (true_both _ _ (equal d.column d.column refl) (name_refl d.arm)) e

pub each_written : (l : Layout) (q : Core) (h : Held) (failed : List ℕ) (all ps : List Patched) (c : ℕ) (n : ArmName) (r : ℕ) → EachPart (PartStands l q h failed all) ps → was_written ps c n r ≡ true
    → RowStands l q h failed all c n r
each_written l q h failed all [] c n r each e = absurd (true≢false (sym e))
each_written l q h failed all (d ∷ ds) c n r each e =
    elim (either_true ((d.column == c) && name_eq d.arm n && has_number d.written.items r) (was_written ds c n r) e) [
      | inl here ↦ (let z = row_parts d c n (has_number d.written.items r) here in
          subst (λ x. RowStands l q h failed all x n r) z.0 (subst (λ m. RowStands l q h failed all d.column m r) z.1 (each.0.rows r z.2)))
      | inr there ↦ each_written l q h failed all ds c n r each.1 there
    ]

pub each_landed : (l : Layout) (q : Core) (h : Held) (failed : List ℕ) (all ps : List Patched) (c : ℕ) (n : ArmName) (r : ℕ) → EachPart (PartStands l q h failed all) ps → has_landed ps c n r ≡ true
    → was_written all c n r ≡ true
each_landed l q h failed all [] c n r each e = absurd (true≢false (sym e))
each_landed l q h failed all (d ∷ ds) c n r each e =
    elim (either_true ((d.column == c) && name_eq d.arm n && has_number d.landed.items r) (has_landed ds c n r) e) [
      | inl here ↦ (let z = row_parts d c n (has_number d.landed.items r) here in
          subst (λ x. was_written all x n r ≡ true) z.0 (subst (λ m. was_written all d.column m r ≡ true) z.1 (each.0.landed r z.2)))
      | inr there ↦ each_landed l q h failed all ds c n r each.1 there
    ]

each_from : (P : Patched → Type 0) (all ps : List Patched) → ((c : ℕ) (n : ArmName) (r : ℕ) → was_written ps c n r ≡ true → was_written all c n r ≡ true)
    → ((c : ℕ) (n : ArmName) (r : ℕ) → has_landed ps c n r ≡ true → has_landed all c n r ≡ true)
    → ((d : Patched) → ((r : ℕ) → has_number d.written.items r ≡ true → was_written all d.column d.arm r ≡ true) → ((r : ℕ) → has_number d.landed.items r ≡ true → has_landed all d.column d.arm r ≡ true) → P d)
    → EachPart P ps
each_from P all [] wrote landed f = tt
each_from P all (d ∷ ds) wrote landed f = (
  f d (λ r e. wrote d.column d.arm r (true_left _ _ (parts_row d (has_number d.written.items r) e))) (λ r e. landed d.column d.arm r (true_left _ _ (parts_row d (has_number d.landed.items r) e))),
  each_from P all ds (λ c n r e. wrote c n r (true_right _ _ e)) (λ c n r e. landed c n r (true_right _ _ e)) f,
)

pub patches_stand : (l : Layout) (q : Core) (h : Held) (failed : List ℕ) (patched : List Patched) → Patches l q h failed patched → EachPart (PartStands l q h failed patched) patched
patches_stand l q h failed patched p =
    each_from (PartStands l q h failed patched) patched patched (λ c n r e. e) (λ c n r e. e) (λ d wrote landed. record {
      rows = λ r e. (let w = wrote r e in
          let z = p.there d.column d.arm r w in
          record { row = z.1; arm = record { column = z.0; listed = z.2; answers = z.3 }; lands = p.lands d.column d.arm r w });
      landed = λ r e. p.landed d.column d.arm r (landed r e);
    })

pub stand_patches : (l : Layout) (q : Core) (h : Held) (failed : List ℕ) (patched : List Patched) → EachPart (PartStands l q h failed patched) patched → AreColumnsPatched l q h patched l.columns
    → ((leaf : ℕ) → has_number failed leaf ≡ true → HealsThere l q h leaf) → Patches l q h failed patched
stand_patches l q h failed patched each dirty heals = record {
  there = λ c n r w. (let z = each_written l q h failed patched patched c n r each w in (z.arm.column, z.row, z.arm.listed, z.arm.answers));
  dirty = λ c n r column row listed answering unclean. dirty c column n listed answering unclean r row;
  landed = λ c n r e. each_landed l q h failed patched patched c n r each e;
  lands = λ c n r w works. (each_written l q h failed patched patched c n r each w).lands works;
  fail = heals;
}

pub patches_dirty : (l : Layout) (q : Core) (h : Held) (failed : List ℕ) (patched : List Patched) → Patches l q h failed patched → AreColumnsPatched l q h patched l.columns
patches_dirty l q h failed patched p = λ c column n listed answering unclean r row. p.dirty c n r column row listed answering unclean
