-- What a list of entries says, looked up by key, where it has just the entries of a table.
use Rattle.std.proofs.Common.{◌≡◌, ◌||◌, Bool, true, false, List, [], ◌∷◌, Option, Some, None, IsSome, All, find, cond, refl, sym, ◌∙◌, ap}
use Rattle.std.specs.List.{list_any}
use Rattle.std.specs.Option.{option_map}
use Rattle.std.proofs.lemmas.List.Elements.{All-head, All-tail, All-weaker}
use Rattle.draid_names.specs.declared.pointer.Pointer.{Pointer}
use Rattle.draid_machine.specs.declared.names.Key.{Key}
use Rattle.draid_machine.specs.declared.names.ArmName.{ArmName}
use Rattle.draid_machine.specs.declared.names.Held.{Held}
use Rattle.draid_machine.specs.State as state
use Rattle.draid_machine.proofs.Small.{absurd_test, key_true, name_true}
use Rattle.draid_entries.specs.Listed.{SaysBlocks, has_key, held_of}
use Rattle.draid_entries.specs.Maps.{key_of}
use Rattle.draid_record.specs.Record.{ArmTold}
use Rattle.draid_stable.specs.Images.{SaysArms, all_arms, arm_by, arm_of, has_name, held_by, name_of}

module _ {A V : Type 0} (p : A → Bool) (value : A → V) (v : Option V) where
  found : (xs : List A) → All (λ x. p x ≡ true → v ≡ Some (value x)) xs → (IsSome v → list_any p xs ≡ true) → option_map value (find p xs) ≡ v
  found [] each all = none v all
    where
      none : (v : Option V) → (IsSome v → false ≡ true) → None ≡ v
      none None all = refl
      none (Some x) all = absurd_test true refl (sym (all refl))
  found (x ∷ xs) each all = by (p x) refl (found xs (All-tail (λ y. p y ≡ true → v ≡ Some (value y)) x xs each))
    where
      by : (b : Bool) → p x ≡ b → ((IsSome v → list_any p xs ≡ true) → option_map value (find p xs) ≡ v) → option_map value (cond b (Some x) (find p xs)) ≡ v
      by true is rest = sym (All-head (λ y. p y ≡ true → v ≡ Some (value y)) x xs each is)
      by false is rest = rest (λ s. sym (ap (λ b. b || list_any p xs) is) ∙ all s)

pub blocks_say : (blocks : List Pointer) (table : Key → Option Held) → SaysBlocks blocks table → held_by blocks ≡ table
blocks_say blocks table s = λ i key. at key i
  where
    at : (key : Key) → held_by blocks key ≡ table key
    at key = found (has_key key) held_of (table key) blocks
        (All-weaker (λ b. table (key_of b) ≡ Some (held_of b)) (λ b. has_key key b ≡ true → table key ≡ Some (held_of b)) (λ b e is. ap table (sym (key_true (key_of b) key is)) ∙ e) blocks s.each)
        (s.all key)

pub arms_say : (slots : List (List ArmTold)) (table : ArmName → Option state.Arm) → SaysArms slots table → arm_by slots ≡ table
arms_say slots table s = λ i arm. at arm i
  where
    at : (arm : ArmName) → arm_by slots arm ≡ table arm
    at arm = found (has_name arm) arm_of (table arm) (all_arms slots)
        (All-weaker (λ told. table (name_of told) ≡ Some (arm_of told)) (λ told. has_name arm told ≡ true → table arm ≡ Some (arm_of told))
        (λ told e is. ap table (sym (name_true (name_of told) arm is)) ∙ e) (all_arms slots) s.each)
        (s.all arm)
