use Rattle.std.specs.Prelude.{◌≡◌, ◌==◌, ◌++◌, ◌||◌, ◌&&◌, not, ℕ, zero, suc, Bool, true, false, nat_lt, List, [], ◌∷◌, Option, Some, None, find, filter, ◌⊎◌, if◌then◌else◌}
use Rattle.draid_names.specs.declared.pass_kind.PassKind.{PassKind}
use Rattle.draid_names.specs.declared.pass_kind.PassKind.TheVariants.{Rebuild, Heal}
use Rattle.draid_machine.specs.declared.names.ArmName.{ArmName}
use Rattle.draid_machine.specs.declared.names.ArmName.TheVariants.{Leaf, Spare}
use Rattle.draid_machine.specs.declared.names.Held.{Held}
use Rattle.draid_machine.specs.Names.{has_name, has_number, any_below, is_leaf}
use Rattle.draid_machine.specs.State.{Layout, Arm, Core}

-- the first leaf of a slot
abbrev pub first_leaf : List ArmName → Option ℕ
first_leaf [] = None
first_leaf (Leaf m ∷ ns) = Some m
first_leaf (Spare t ∷ ns) = first_leaf ns

-- the first spare of a slot, and of each slot
abbrev pub first_spare : List ArmName → Option ℕ
first_spare [] = None
first_spare (Leaf m ∷ ns) = first_spare ns
first_spare (Spare t ∷ ns) = Some t

abbrev pub first_spares : (ℕ → List ArmName) → ℕ → Option ℕ
first_spares order slot = first_spare (order slot)

-- the leaf on which an arm keeps what belongs to a stripe
abbrev pub leaf_at : Layout → (ℕ → List ArmName) → ArmName → ℕ → Option ℕ
leaf_at l order (Leaf m) x = Some m
leaf_at l order (Spare t) x = if nat_lt t l.spares then first_leaf (order (l.home (first_spares order) t x)) else None

abbrev pub passes : Option ℕ → (ℕ → Bool) → Bool
passes None p = false
passes (Some m) p = p m

abbrev pub lies : Layout → (ℕ → List ArmName) → ArmName → ℕ → ℕ → Bool
lies l order n x leaf = passes (leaf_at l order n x) (λ m. m == leaf)

-- an arm that is there, with its data, is in the order of a slot
abbrev pub online : Option Arm → Bool
online None = false
online (Some a) = not a.offline

abbrev pub is_here : Option Arm → Bool
is_here None = false
is_here (Some a) = elim a.gone as (λ g. Bool) [ None ↦ true | Some g ↦ false ]

-- a leaf answers where it is there and isn't offline; an arm answers at a stripe where the leaf does that keeps its sectors there
abbrev pub leaf_answers : Core → ℕ → Bool
leaf_answers q m = is_here (q.arm (Leaf m)) && online (q.arm (Leaf m))

abbrev pub answers : Layout → Core → ArmName → ℕ → Bool
answers l q n x = passes (leaf_at l q.order n x) (leaf_answers q)

-- an arm's leaf at a stripe is among those on which a call failed
abbrev pub fails : Layout → Core → List ℕ → ArmName → ℕ → Bool
fails l q failed n x = passes (leaf_at l q.order n x) (has_number failed)

-- whether a group is in an arm's log
abbrev pub logged : Option Arm → ℕ → Bool
logged None g = false
logged (Some a) g = a.log g

-- the slots' arms that aren't detached have data; an arm is clean for a block born in a group that its log lacks
abbrev pub is_clean : Core → ℕ → ArmName → Bool
is_clean q birth n = not (logged (q.arm n) birth)

-- the arm from which a column of a block is read: the first that answers and is clean, else the first that answers
abbrev pub else_some : Option ArmName → Option ArmName → Option ArmName
else_some None o = o
else_some (Some n) o = Some n

abbrev pub reading : Layout → Core → Held → ℕ → Option ArmName
reading l q h c =
    let arms = q.order (l.slot_of h.first c) in
    else_some (find (λ n. answers l q n h.first && is_clean q h.birth n) arms) (find (λ n. answers l q n h.first) arms)

-- the first of a list for which something holds, if any
abbrev pub IsFirst : (ArmName → Type 0) → List ArmName → Option ArmName → Type 0
IsFirst P [] None = Unit {0}
IsFirst P [] (Some n) = ⊥
IsFirst P (m ∷ ms) None = (P m → ⊥) × IsFirst P ms None
IsFirst P (m ∷ ms) (Some n) = (P m × (n ≡ m)) ⊎ ((P m → ⊥) × IsFirst P ms (Some n))

-- an arm whose log is empty
abbrev pub HasEmptyLog : Core → ArmName → Type 0
HasEmptyLog q n = (g : ℕ) → logged (q.arm n) g ≡ false

-- the source of a column of a stripe in a rebuild: the first arm that answers and whose log is empty
abbrev pub IsSource : Layout → Core → ℕ → ℕ → Option ArmName → Type 0
IsSource l q x c = IsFirst (λ n. (answers l q n x ≡ true) × HasEmptyLog q n) (q.order (l.slot_of x c))

-- the slot of an arm has a column of a stripe
abbrev pub has_column : Layout → Core → ArmName → ℕ → Bool
has_column l q n x = any_below l.columns (λ c. has_name (q.order (l.slot_of x c)) n)

-- an arm lies on a leaf of a kind: a leaf on itself, a spare on each leaf that keeps a sector of it where its slot has a column
abbrev pub lies_on : Layout → Core → (ℕ → Bool) → ArmName → Bool
lies_on l q bad (Leaf m) = bad m
lies_on l q bad (Spare t) = any_below l.stripes (λ x. has_column l q (Spare t) x && passes (leaf_at l q.order (Spare t) x) bad)

-- whether two leaves, where there are any, are one
abbrev pub same_leaf : Option ℕ → Option ℕ → Bool
same_leaf None None = true
same_leaf None (Some n) = false
same_leaf (Some m) None = false
same_leaf (Some m) (Some n) = m == n

-- an arm has come to lie elsewhere: a spare that keeps a stripe, of which its slot has a column, on another leaf than before
abbrev pub has_moved : Layout → Core → Core → ArmName → Bool
has_moved l before q (Leaf m) = false
has_moved l before q (Spare t) =
    any_below l.stripes (λ x. has_column l q (Spare t) x && not (same_leaf (leaf_at l before.order (Spare t) x) (leaf_at l q.order (Spare t) x)))

-- a leaf that doesn't answer or on which a call failed
abbrev pub is_silent : Core → List ℕ → ℕ → Bool
is_silent q failed m = not (leaf_answers q m) || has_number failed m

-- the arms of the slots below a number, in order
abbrev pub arms_below : (ℕ → List ArmName) → ℕ → List ArmName
arms_below order zero = []
arms_below order (suc n) = arms_below order n ++ order n

abbrev pub is_fresh : Option Arm → Bool
is_fresh None = false
is_fresh (Some a) = a.fresh

-- whom a pass takes as target: a rebuild the fresh arms that are spares or leaves that answer, a scrub the arms that lie on answering leaves alone
abbrev pub is_target : Layout → Core → PassKind → ArmName → Bool
is_target l q Rebuild n = is_fresh (q.arm n) && (not (is_leaf n) || passes (leaf_at l q.order n 0) (leaf_answers q))
is_target l q Heal n = not (lies_on l q (is_silent q []) n)

abbrev pub targets_of : Layout → Core → PassKind → List ArmName
targets_of l q kind = filter (is_target l q kind) (arms_below q.order l.slots)
