-- A block was written in a group just where the group's record lists one that was born in it.
use Rattle.std.proofs.Common.{◌≡◌, ◌==◌, ◌&&◌, not, ℕ, Bool, true, false, List, [], Option, Some, None, IsSome, refl, sym, ◌∙◌, ap, subst, arith, nat_le, slice_index_or, eqb-true, eq-eqb}
use Rattle.std.specs.List.{list_any}
use Rattle.std.proofs.lemmas.Bool.{true≢false}
use Rattle.std.proofs.lemmas.Bool.Decides.{nat_tests}
use Rattle.draid_names.specs.declared.pointer.Pointer.{Pointer}
use Rattle.draid_machine.specs.declared.names.Held.{Held}
use Rattle.draid_machine.specs.declared.names.Key.{Key}
use Rattle.draid_machine.specs.declared.names.Stage.TheVariants.{Live}
use Rattle.draid_machine.specs.After.{keep_if, seal_held}
use Rattle.draid_machine.specs.Names.{is_block, is_freed_by}
use Rattle.draid_machine.specs.State.{Core}
use Rattle.draid_machine.specs.Step.{HasWritten}
use Rattle.draid_machine.proofs.Small.{both_true, key_true, not_true, some_injective, true_both}
use Rattle.draid_entries.specs.declared.entries.Entries.{Entries}
use Rattle.draid_entries.specs.Entries.{held_in}
use Rattle.draid_entries.specs.Listed.{ListsBlocks, has_key, held_of}
use Rattle.draid_entries.specs.Maps.{key_of}
use Rattle.draid_stable.specs.Sealing.{was_born}
use Rattle.draid_slots.proofs.Somewhere.{any_where}
use Rattle.draid_stable.proofs.Made.{any_at}

-- a block of the table that is listed
record Kept (group : ℕ) (o : Option Held) (x : Held) : Type 0 where
  h : Held
  is : o ≡ Some h
  block : is_block h.stage ≡ true
  stays : is_freed_by group h.stage ≡ false
  birth : h.birth ≡ x.birth

kept_from : (group : ℕ) (o : Option Held) (x : Held) → seal_held group o ≡ Some x → Kept group o x
kept_from group None x is = absurd (cc)
kept_from group (Some h) x is = by (is_block h.stage && nat_le h.birth group && not (is_freed_by group h.stage)) refl is
  where
    by : (b : Bool) → (is_block h.stage && nat_le h.birth group && not (is_freed_by group h.stage)) ≡ b → keep_if b (record h { stage = Live }) ≡ Some x → Kept group (Some h) x
    by true all at =
        let z = both_true (is_block h.stage && nat_le h.birth group) (not (is_freed_by group h.stage)) all in
        record {
          h = h;
          is = refl;
          block = (both_true (is_block h.stage) (nat_le h.birth group) z.0).0;
          stays = not_true (is_freed_by group h.stage) z.1;
          birth = ap (λ (y : Held). y.birth) (some_injective (record h { stage = Live }) x at);
        }
    by false all at = absurd (cc)

kept_back : (group : ℕ) (h : Held) → is_block h.stage ≡ true → nat_le h.birth group ≡ true → is_freed_by group h.stage ≡ false → seal_held group (Some h) ≡ Some (record h { stage = Live })
kept_back group h block born stays =
    ap (λ b. keep_if b (record h { stage = Live }))
    (true_both (is_block h.stage && nat_le h.birth group) (not (is_freed_by group h.stage)) (true_both (is_block h.stage) (nat_le h.birth group) block born) (ap not stays))

birth_low : (a b : ℕ) → a ≡ b → nat_le a b ≡ true
birth_low a b is = grind (arith, nat_tests)

module _ (entries : Entries) (group : ℕ) (blocks : List Pointer) (lists : ListsBlocks entries group blocks) (q : Core) (same : (key : Key) → q.held key ≡ held_in entries key) where
  pub born_written : list_any (was_born group) blocks ≡ true → HasWritten q group
  born_written any =
      let w = any_where (was_born group) blocks none any in
      let b : Pointer = slice_index_or blocks w.0 none in
      let k : Kept group (held_in entries (key_of b)) (held_of b) = kept_from group (held_in entries (key_of b)) (held_of b) (lists.says.each w.0 none w.1) in
      record { key = key_of b; h = k.h; found = same (key_of b) ∙ k.is; block = k.block; born = k.birth ∙ eqb-true b.birth group w.2; stays = k.stays }
    where
      none : Pointer
      none = record { object = 0; seq = 0; metaslab = 0; first = 0; stripes = 0; len = 0; birth = 0; digest = [] }

  pub none_written : list_any (was_born group) blocks ≡ false → HasWritten q group → ⊥
  none_written none w =
      let sealed : seal_held group (held_in entries w.key) ≡ Some (record w.h { stage = Live }) =
      ap (seal_held group) (sym (same w.key) ∙ w.found) ∙ kept_back group w.h w.block (birth_low w.h.birth group w.born) w.stays
      in
      let some : IsSome (seal_held group (held_in entries w.key)) = subst IsSome (sym sealed) refl in
      let z = any_where (has_key w.key) blocks nothing (lists.says.all w.key some) in
      let b : Pointer = slice_index_or blocks z.0 nothing in
      let named : key_of b ≡ w.key = key_true (key_of b) w.key z.2 in
      let at : Some (held_of b) ≡ Some (record w.h { stage = Live }) = sym (lists.says.each z.0 nothing z.1) ∙ ap (λ k. seal_held group (held_in entries k)) named ∙ sealed in
      let born : b.birth ≡ group = ap (λ (y : Held). y.birth) (some_injective (held_of b) (record w.h { stage = Live }) at) ∙ w.born in
      true≢false (sym (any_at (was_born group) blocks z.0 nothing z.1 (eq-eqb b.birth group born)) ∙ none)
    where
      nothing : Pointer
      nothing = record { object = 0; seq = 0; metaslab = 0; first = 0; stripes = 0; len = 0; birth = 0; digest = [] }
