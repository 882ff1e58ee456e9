-- The last write of an object.
use Rattle.std.proofs.Common.{arith, ◌≡◌, ◌==◌, ◌+◌, ◌≤◌, ℕ, List, Option, Some, None, refl, ◌∙◌, subst}
use Rattle.std.proofs.lemmas.List.Elements.{All-weaker}
use Rattle.draid_machine.proofs.Small.{some_injective, none_some, is_equal}
use Rattle.draid_objects.specs.Blocks.{Blocks}
use Rattle.draid_objects.specs.Changes.{Change, Freed, Restored, Write, Wrote, group_of, key_of, last_of, object_of, write_by, write_in, write_of}
use Rattle.draid_objects.specs.Marks.{Mark}
use Rattle.draid_objects.specs.Stores.{Stores}
use Rattle.draid_objects.proofs.Finding.{all_below, found_passes, greatest, kept_all}

pub write_object : (cs : List Change) (o : ℕ) (w : Write) → write_of cs o ≡ Some w → w.object ≡ o
write_object cs o w e = by (last_of cs o) refl e
  where
    own : (c : Change) → last_of cs o ≡ Some c → object_of c ≡ o
    own c is = is_equal (object_of c) o (found_passes (λ d. object_of d == o) (λ d. object_of d == o) cs c is)

    by : (c : Option Change) → last_of cs o ≡ c → write_in c ≡ Some w → w.object ≡ o
    by None is e = absurd (none_some None w refl e)
    by (Some (Wrote v)) is e = subst (λ (u : Write). u.object ≡ o) (some_injective v w e) (own (Wrote v) is)
    by (Some (Freed p g)) is e = absurd (none_some None w refl e)
    by (Some (Restored v g)) is e = subst (λ (u : Write). u.object ≡ o) (some_injective v w e) (own (Restored v g) is)

-- it is the last one with its key
pub by_last : (digest : List ℕ → List ℕ) (committed : ℕ) (cs : List Change) (marks : List Mark) (blocks : Blocks) (o : ℕ) (w : Write) → Stores digest committed cs marks blocks
    → write_of cs o ≡ Some w → write_by cs (key_of w) ≡ Some w
by_last digest committed cs marks blocks o w s e =
    let t : ℕ = committed + greatest cs in
    s.last t o w (omega arith) (kept_all t o cs (All-weaker (λ c. group_of c ≤ t) (λ c. object_of c ≡ o → group_of c ≤ t) (λ c z at. z) cs (all_below t cs (omega arith))) ∙ e)
