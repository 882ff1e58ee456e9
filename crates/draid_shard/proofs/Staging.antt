-- Logs get the birth of a ticket: the shard's parts fit together as before.
use Rattle.std.proofs.Common.{ℕ, arith, refl, ◌≡◌, ◌==◌, ◌+◌, ◌*◌, ◌<◌, ◌≤◌, ◌&&◌, ◌^◌, not, ◌∙◌, zero, suc, Bool, true, false, List, [], sym, ap, subst, inl, inr, length, slice_get, if◌then◌else◌}
use Rattle.draid_slots.specs.Table.{SlotTable, is_leaf_kind, is_logged, room_at}
use Rattle.draid_shard.specs.Rows.{FitsRows, HasRoomFor, LogsBirth}
use Rattle.std.specs.Prelude.{slice_index_or}
use Rattle.std.proofs.lemmas.Bool.{cases_eq}
use Rattle.std.proofs.lemmas.Bool.Decides.{nat_tests}
use Rattle.draid_names.specs.declared.arm.Arm.{Arm}
use Rattle.draid_names.specs.declared.arm.ArmAt.{ArmAt}
use Rattle.draid_names.specs.declared.pointer.Pointer.{Pointer}
use Rattle.draid_spec.specs.declared.layout.Geometry.{Geometry}
use Rattle.draid_spec.specs.Geometry.{metaslab_sectors, slice_at}
use Rattle.draid_block.specs.Blocks.{column_len, cut_of}
use Rattle.draid_block.specs.Columns.{Cut, stripes_of}
use Rattle.draid_rack.specs.Rack.{Shape}
use Rattle.draid_machine.proofs.Small.{absurd_test}
use Rattle.std.specs.List.{list_any}
use Rattle.draid_perm.specs.declared.perms.Perms.{Perms}
use Rattle.draid_slots.specs.declared.slot.Detached.{Detached}
use Rattle.draid_slots.specs.Changes.{IsOf}
use Rattle.draid_shard.specs.Fits.{HasLeaves, IsLeaf, LogsHaveRoom, lacking}
use Rattle.draid_shard.specs.declared.places.ColumnRows.{ColumnRows}

-- ---- logs

one_less : (a b : Bool) → (a ≡ true → b ≡ true) → (if b then 0 else 1) + (if b && not a then 1 else 0) ≤ (if a then 0 else 1)
one_less true true kept = omega arith
one_less true false kept = absurd_test false (kept refl) refl
one_less false true kept = omega arith
one_less false false kept = omega arith

abbrev lack : Bool → ℕ
lack b = if b then 0 else 1

add_used : (a b c d used : ℕ) → a ≤ b → c + used ≤ d → a + c + used ≤ b + d
add_used a b c d used x y = omega (arith, x, y)

add_other : (a b c d used : ℕ) → a + used ≤ b → c ≤ d → a + c + used ≤ b + d
add_other a b c d used x y = omega (arith, x, y)

add_less : (a b c d : ℕ) → a ≤ b → c ≤ d → a + c ≤ b + d
add_less a b c d x y = omega (arith, x, y)

module _ (old new : ℕ → Bool) (birth : ℕ) (others : (group : ℕ) → (group == birth) ≡ false → new group ≡ old group) (kept : old birth ≡ true → new birth ≡ true) where
  here : (x : ℕ) → birth ≡ x → lack (new x) + (if new birth && not (old birth) then 1 else 0) ≤ lack (old x)
  here x same = subst (λ y. lack (new y) + (if new birth && not (old birth) then 1 else 0) ≤ lack (old y)) same (one_less (old birth) (new birth) kept)

  there : (x : ℕ) → (birth ≡ x → ⊥) → lack (new x) ≤ lack (old x)
  there x other = let e : (x == birth) ≡ false = grind (arith, nat_tests, other) in subst (λ b. lack b ≤ lack (old x)) (sym (others x e)) (omega arith)

  -- groups that the birth isn't among
  outside : (from n : ℕ) → from + n ≤ birth → lacking new from n ≤ lacking old from n
  outside from zero out = omega arith
  outside from (suc n) out =
      add_less (lacking new from n) (lacking old from n) (lack (new (from + n))) (lack (old (from + n)))
      (outside from n (omega (arith, out))) (there (from + n) (λ e. absurd (omega (arith, out, e))))

  -- groups that it is among
  inside : (from n : ℕ) → from ≤ birth → birth < from + n → lacking new from n + (if new birth && not (old birth) then 1 else 0) ≤ lacking old from n
  inside from zero low high = absurd (omega (arith, low, high))
  inside from (suc n) low high = elim (cases_eq birth (from + n)) [
    | inl last ↦ add_used (lacking new from n) (lacking old from n) (lack (new (from + n))) (lack (old (from + n))) (if new birth && not (old birth) then 1 else 0)
        (outside from n (omega (arith, last))) (here (from + n) last)
    | inr before ↦ add_other (lacking new from n) (lacking old from n) (lack (new (from + n))) (lack (old (from + n))) (if new birth && not (old birth) then 1 else 0)
        (inside from n low (omega (arith, high, before))) (there (from + n) before)
  ]

  pub lacking_less : (from groups more room left : ℕ) → from ≤ birth → birth < from + groups → lacking old from groups + more ≤ room
      → room ≤ left + (if new birth && not (old birth) then 1 else 0) → lacking new from groups + more ≤ left
  lacking_less from groups more room left low high has used = let less = inside from groups low high in omega (arith, less, has, used)

-- a group that the log lacks counts
lacking_one : (log : ℕ → Bool) (from groups birth : ℕ) → from ≤ birth → birth < from + groups → log birth ≡ false → 0 < lacking log from groups
lacking_one log from zero birth low high out = absurd (omega (arith, low, high))
lacking_one log from (suc n) birth low high out = elim (cases_eq birth (from + n)) [
  | inl last ↦ (let one : lack (log (from + n)) ≡ 1 = ap lack (subst (λ x. log x ≡ false) last out) in omega (arith, one))
  | inr before ↦ (let some = lacking_one log from n birth low (omega (arith, high, before)) out in omega (arith, some))
]

-- the birth of a ticket finds room, and leaves room
pub room_for : (slots : SlotTable) (from groups more birth : ℕ) → from ≤ birth → birth < from + groups → LogsHaveRoom slots from groups more → HasRoomFor slots birth
room_for slots from groups more birth low high logs = λ at there out.
    let some = lacking_one (is_logged slots at) from groups birth low high out in
    let few = logs at there in
    omega (arith, some, few)

pub logs_left : (old new : SlotTable) (from groups more birth : ℕ) → from ≤ birth → birth < from + groups → LogsBirth birth old new → LogsHaveRoom old from groups more → LogsHaveRoom new from groups more
logs_left old new from groups more birth low high l logs = λ at there.
    lacking_less (is_logged old at) (is_logged new at) birth (l.others at) (l.kept at) from groups more (room_at old at) (room_at new at) low high
    (logs at (subst (λ arms. at.arm < length (slice_index_or arms at.slot [])) l.arms there)) (l.room at)

-- from the next group on a log lacks one group less at most
later_less : (log : ℕ → Bool) (from n : ℕ) → lacking log (from + 1) n ≤ lacking log from (suc n)
later_less log from zero = omega arith
later_less log from (suc n) =
    let next : from + 1 + n ≡ from + suc n = omega arith in
    add_less (lacking log (from + 1) n) (lacking log from (suc n)) (lack (log (from + 1 + n))) (lack (log (from + suc n)))
    (later_less log from n) (subst (λ x. lack (log x) ≤ lack (log (from + suc n))) (sym next) (omega arith))

pub logs_later : (slots : SlotTable) (from next groups more less : ℕ) → next ≡ from + 1 → less ≤ more → LogsHaveRoom slots from (suc groups) more → LogsHaveRoom slots next groups less
logs_later slots from next groups more less up fewer logs = subst (λ x. LogsHaveRoom slots x groups less) (sym up) (λ at there.
    let later = later_less (is_logged slots at) from groups in
    let few = logs at there in
    omega (arith, later, few, fewer))

-- slots with the same logs and no less room
pub logs_kept : (old new : SlotTable) (from groups ends : ℕ) → new.arms ≡ old.arms → ((at : ArmAt) (group : ℕ) → is_logged new at group ≡ is_logged old at group)
    → ((at : ArmAt) → room_at old at ≤ room_at new at) → LogsHaveRoom old from groups ends → LogsHaveRoom new from groups ends
logs_kept old new from groups ends arms same more logs at there =
    let few = logs at (subst (λ arms. at.arm < length (slice_index_or arms at.slot [])) arms there) in
    let is : lacking (is_logged new at) from groups ≡ lacking (is_logged old at) from groups = ap (λ (log : ℕ → Bool). lacking log from groups) (λ i group. same at group i) in
    let room = more at in
    omega (arith, few, is, room)

-- ---- devices

-- a log that lacks the birth still has room for it
lacked : (was now : Bool) → (was ≡ true → now ≡ true) → now ≡ false → was ≡ false
lacked true now kept is = absurd (cc (kept refl))
lacked false now kept is = refl

room_kept : (was now : Bool) (before after : ℕ) → now ≡ false → 0 < before → before ≤ after + (if now && not was then 1 else 0) → 0 < after
room_kept was true before after is some le = absurd (cc)
room_kept was false before after is some le = omega (arith, some, le)

pub room_left : (birth : ℕ) (old new : SlotTable) → LogsBirth birth old new → HasRoomFor old birth → HasRoomFor new birth
room_left birth old new l room at there lacks =
    let was : at.arm < length (slice_index_or old.arms at.slot []) = subst (λ (arms : List (List Arm)). at.arm < length (slice_index_or arms at.slot [])) l.arms there in
    room_kept (is_logged old at birth) (is_logged new at birth) (room_at old at) (room_at new at) lacks
    (room at was (lacked (is_logged old at birth) (is_logged new at birth) (l.kept at) lacks)) (l.room at)

-- slots with the same arms and detachments have the same leaves
pub leaf_was : (old new : SlotTable) (leaf : ℕ) → new.arms ≡ old.arms → new.detached ≡ old.detached → IsLeaf new leaf → IsLeaf old leaf
leaf_was old new leaf arms detached (inl it) = inl (it.0, it.1, ap (λ arms. slice_get (slice_index_or arms it.0.slot []) it.0.arm) (sym arms) ∙ it.2, it.3, it.4)
leaf_was old new leaf arms detached (inr gone) =
    inr (subst (λ list. list_any (λ (gone : Detached). is_leaf_kind gone.kind && (gone.number == leaf)) list ≡ true) detached gone)

pub leaves_left : (shape now : Shape) (geometry : Geometry) (old new : SlotTable) (birth : ℕ) → now ≡ shape → LogsBirth birth old new → HasLeaves shape geometry old → HasLeaves now geometry new
leaves_left shape now geometry old new birth same l has =
    subst (λ s. HasLeaves s geometry new) (sym same) (record { bytes = has.bytes; leaves = λ leaf is. has.leaves leaf (leaf_was old new leaf l.arms l.detached is) })

-- the rows of a column fit as before
pub fits_left : (shape now : Shape) (old new : SlotTable) (rows : ColumnRows) (birth : ℕ) → now ≡ shape → LogsBirth birth old new → FitsRows shape old rows → FitsRows now new rows
fits_left shape now old new rows birth same l fits =
    let geometry : old.geometry ≡ new.geometry = sym l.same.geometry_is in
    record {
      leaves = subst (λ (g : Geometry). HasLeaves now g new) geometry (leaves_left shape now old.geometry old new birth same l fits.leaves);
      size_is = fits.size_is ∙ ap (λ (g : Geometry). g.props.sector) geometry;
      slice_is = fits.slice_is ∙ ap (λ (g : Geometry). slice_at g rows.first) geometry;
      some = fits.some;
      inside = subst (λ (g : Geometry). rows.first + rows.count ≤ metaslab_sectors g) geometry fits.inside;
      low = subst (λ (g : Geometry). metaslab_sectors g < 2 ^ 64) geometry fits.low;
      slot_below = subst (λ (g : Geometry). rows.slot < g.spec.children) geometry fits.slot_below;
      slice_below = subst (λ (g : Geometry). rows.slice < g.props.slices) geometry fits.slice_below;
    }

pub same_of : (old new : SlotTable) (geometry : Geometry) (perms : Perms) (number birth : ℕ) → LogsBirth birth old new → IsOf old geometry perms number → IsOf new geometry perms number
same_of old new geometry perms number birth l of = record {
  geometry_is = l.same.geometry_is ∙ of.geometry_is;
  perms_are = l.same.perms_are ∙ of.perms_are;
  metaslab_is = l.same.metaslab_is ∙ of.metaslab_is;
}

-- ---- columns

pub column_long : (geometry : Geometry) (cut : Cut) (pointer : Pointer) (bytes long rows size : ℕ) → cut ≡ cut_of geometry → pointer.stripes ≡ stripes_of (cut_of geometry) pointer.len
    → bytes ≡ pointer.len → rows ≡ pointer.stripes → size ≡ geometry.props.sector → long ≡ column_len cut bytes → long ≡ rows * size
unfolding column_len
column_long geometry cut pointer bytes long rows size same stripes len n sector is = is ∙ rw (same, len, n, stripes, sector) refl

-- ---- logs

pub logs_same : (birth : ℕ) (a : SlotTable) → LogsBirth birth a a
logs_same birth a = record {
  same = record { geometry_is = refl; perms_are = refl; metaslab_is = refl };
  arms = refl;
  detached = refl;
  others = λ at group out. refl;
  kept = λ at has. has;
  room = λ at. omega arith;
}
