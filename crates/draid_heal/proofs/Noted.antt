-- The parts of which nothing was written go: what was written and what landed stays.
use Rattle.std.proofs.Common.{◌≡◌, ◌==◌, ◌||◌, ◌&&◌, ◌∙◌, ℕ, suc, Bool, true, false, List, [], ◌∷◌, Some, refl, sym, ap, subst, inl, inr, filter, slice_get, if◌then◌else◌}
use Rattle.std.specs.List.{list_any}
use Rattle.std.specs.Prelude.{cond}
use Rattle.draid_machine.specs.After.{has_healed, has_landed, is_written, was_written}
use Rattle.draid_machine.specs.Claims.{is_on}
use Rattle.draid_machine.specs.Names.{has_number, key_eq, name_eq}
use Rattle.draid_machine.specs.State as machine
use Rattle.draid_machine.specs.Step.{Patches}
use Rattle.draid_machine.specs.declared.event.Patched.{Patched}
use Rattle.draid_machine.specs.declared.names.ArmName.{ArmName}
use Rattle.draid_machine.specs.declared.names.Held.{Held}
use Rattle.draid_machine.specs.declared.names.Segment.{Segment}
use Rattle.draid_machine.proofs.Small.{absurd_test, bool_cases}
use Rattle.draid_rack.specs.Rack.{Told}
use Rattle.draid_segments.specs.Acts.{HealsBlock, LiesThere, is_on_clean, is_settled}
use Rattle.draid_segments.specs.Segments.{Pieces}
use Rattle.draid_heal.specs.Lands.{has_rows, is_noted}

-- where nothing was written of any none stays
pub none_noted : (parts : List Patched) → list_any is_noted parts ≡ false → filter is_noted parts ≡ []
none_noted [] none = refl
none_noted (d ∷ ds) none = by (is_noted d) none (none_noted ds)
  where
    by : (b : Bool) → (b || list_any is_noted ds) ≡ false → (list_any is_noted ds ≡ false → filter is_noted ds ≡ []) → (if b then d ∷ filter is_noted ds else filter is_noted ds) ≡ []
    by true e later = absurd_test true refl e
    by false e later = later e

-- what landed of a part was written
abbrev pub WereWritten : List Patched → Type 0
WereWritten parts = (k : ℕ) (part : Patched) (r : ℕ) → slice_get parts k ≡ Some part → has_number part.landed.items r ≡ true → has_number part.written.items r ≡ true

none_in : (rows : List ℕ) (r : ℕ) → has_rows rows ≡ false → has_number rows r ≡ false
none_in [] r e = refl
none_in (x ∷ rows) r e = absurd_test true refl e

none_at : (a b : Bool) (rows : List ℕ) (r : ℕ) → has_number rows r ≡ false → (a && b && has_number rows r) ≡ false
none_at a b rows r e = ap (λ x. a && b && x) e ∙ by (a && b)
  where
    by : (x : Bool) → (x && false) ≡ false
    by true = refl
    by false = refl

module _ (rows : Patched → List ℕ) (found : List Patched → ℕ → ArmName → ℕ → Bool)
    (none : (c : ℕ) (n : ArmName) (r : ℕ) → found [] c n r ≡ false)
    (more : (d : Patched) (ds : List Patched) (c : ℕ) (n : ArmName) (r : ℕ) → found (d ∷ ds) c n r ≡ (((d.column == c) && name_eq d.arm n && has_number (rows d) r) || found ds c n r)) where
  kept_by : (parts : List Patched) → ((k : ℕ) (part : Patched) (r : ℕ) → slice_get parts k ≡ Some part → is_noted part ≡ false → has_number (rows part) r ≡ false)
      → (c : ℕ) (n : ArmName) (r : ℕ) → found (filter is_noted parts) c n r ≡ found parts c n r
  kept_by [] empty c n r = refl
  kept_by (d ∷ ds) empty c n r = by (is_noted d) refl (kept_by ds (λ k part r at. empty (suc k) part r at) c n r)
    where
      by : (b : Bool) → is_noted d ≡ b → found (filter is_noted ds) c n r ≡ found ds c n r → found (cond (is_noted d) (d ∷ filter is_noted ds) (filter is_noted ds)) c n r ≡ found (d ∷ ds) c n r
      by true e rest =
          ap (λ b. found (cond b (d ∷ filter is_noted ds) (filter is_noted ds)) c n r) e ∙ more d (filter is_noted ds) c n r
          ∙ ap (λ x. ((d.column == c) && name_eq d.arm n && has_number (rows d) r) || x) rest ∙ sym (more d ds c n r)
      by false e rest =
          ap (λ b. found (cond b (d ∷ filter is_noted ds) (filter is_noted ds)) c n r) e ∙ rest
          ∙ sym (more d ds c n r ∙ ap (λ x. x || found ds c n r) (none_at (d.column == c) (name_eq d.arm n) (rows d) r (empty 0 d r refl e)))

module _ (parts : List Patched) (were : WereWritten parts) where
  pub written_stays : (c : ℕ) (n : ArmName) (r : ℕ) → was_written (filter is_noted parts) c n r ≡ was_written parts c n r
  written_stays = kept_by (λ p. p.written.items) was_written (λ c n r. refl) (λ d ds c n r. refl) parts (λ k part r at e. none_in part.written.items r e)

  pub landed_stays : (c : ℕ) (n : ArmName) (r : ℕ) → has_landed (filter is_noted parts) c n r ≡ has_landed parts c n r
  landed_stays = kept_by (λ p. p.landed.items) has_landed (λ c n r. refl) (λ d ds c n r. refl) parts (λ k part r at e. elim (bool_cases (has_number part.landed.items r)) [
    | inl has ↦ absurd_test (has_number part.written.items r) (were k part r at has) (none_in part.written.items r e)
    | inr out ↦ out
  ])

  abbrev noted : List Patched
  noted = filter is_noted parts

  pub patches_stay : (l : machine.Layout) (q : machine.Core) (h : Held) (failed : List ℕ) → Patches l q h failed parts → Patches l q h failed noted
  patches_stay l q h failed p = record {
    there = λ c n r at. p.there c n r (sym (written_stays c n r) ∙ at);
    dirty = λ c n r column row at answers dirty. written_stays c n r ∙ p.dirty c n r column row at answers dirty;
    landed = λ c n r at. written_stays c n r ∙ p.landed c n r (sym (landed_stays c n r) ∙ at);
    lands = λ c n r at none. landed_stays c n r ∙ p.lands c n r (sym (written_stays c n r) ∙ at) none;
    fail = p.fail;
  }

  module _ (l : machine.Layout) (q : machine.Core) (n : machine.Loan) (h : Held) where
    written_is : (s : Segment) → is_written l q n h parts s ≡ is_written l q n h noted s
    written_is s = ap (λ b. key_eq n.key s.key && is_on l q.order s h && b) (sym (written_stays s.column s.arm s.row))

    healed_is : (s : Segment) → has_healed l q n h parts s ≡ has_healed l q n h noted s
    healed_is s = ap (λ b. key_eq n.key s.key && is_on l q.order s h && b) (sym (landed_stays s.column s.arm s.row))

    settled_is : (s : Segment) → is_settled l q n h parts s ≡ is_settled l q n h noted s
    settled_is s = ap (λ b. is_on_clean l q n h s || b) (healed_is s)

    pub healed_stays : (failed : List ℕ) (whole : Bool) (pieces : Pieces) (x y : Told) → HealsBlock l q n h failed parts whole pieces x y → HealsBlock l q n h failed noted whole pieces x y
    healed_stays failed whole pieces x y b = record {
      named = b.named;
      lies = λ leaf sector at. subst (λ f. LiesThere l h f leaf sector) (λ i s. written_is s i) (b.lies leaf sector at);
      others = b.others;
      harm = λ leaf sector. elim (b.harm leaf sector) [
        | inl same ↦ inl same
        | inr at ↦ inr (subst (λ f. LiesThere l h f leaf sector) (λ i s. whole && settled_is s i) at)
      ];
      flushed = b.flushed;
      landed_firm = λ s at. b.landed_firm s (healed_is s ∙ at);
      landed_there = λ s at. b.landed_there s (healed_is s ∙ at);
      landed_reads = λ s at. b.landed_reads s (healed_is s ∙ at);
      clean_there = b.clean_there;
      clean_reads = b.clean_reads;
      answering_reads = b.answering_reads;
      needed = λ s clean at. b.needed s clean (written_is s ∙ at);
      settled_harm = λ s is at. b.settled_harm s is (settled_is s ∙ at);
    }
