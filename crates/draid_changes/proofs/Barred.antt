-- Whether an arm may come to a slot: what the slots of the first metaslab say, and the passes of all, in the words of what is seen.
use Rattle.std.proofs.Common.{◌≡◌, ◌==◌, ◌||◌, ◌&&◌, ◌<◌, ◌≤◌, ◌*◌, ◌+◌, ◌∙◌, ◌⊎◌, inl, inr, [], ◌∷◌, ℕ, Bool, true, false, List, Option, Some, None, Contains, arith, refl, sym, ap, subst, length, map}
use Rattle.std.specs.Prelude.{IfSome, option_map, slice_get}
use Rattle.std.specs.List.{list_any}
use Rattle.std.proofs.lemmas.Bool.{cases_lt}
use Rattle.std.proofs.lemmas.List.{length-map}
use Rattle.std.proofs.lemmas.Option.{slice_get_within}
use Rattle.draid_names.specs.declared.arm.Arm.{Arm}
use Rattle.draid_names.specs.declared.arm.ArmKind.{ArmKind}
use Rattle.draid_names.specs.declared.arm.ArmKind.TheVariants as kind
use Rattle.draid_names.specs.declared.numbers.TheConstants.{LAST_NUMBER}
use Rattle.draid_names.specs.declared.pass_kind.PassKind.{PassKind}
use Rattle.draid_names.specs.declared.pass_kind.PassKind.TheVariants.{Rebuild, Heal}
use Rattle.draid_names.specs.declared.refusal.SlotFault.{SlotFault}
use Rattle.draid_names.specs.declared.refusal.SlotFault.TheVariants as fault
use Rattle.draid_rack.specs.declared.Rack as racks
use Rattle.draid_area.specs.declared.Area as areas
use Rattle.std.proofs.Math.Nat.{mul_assoc}
use Rattle.draid_spec.specs.Geometry.{child_sectors}
use Rattle.draid_spec.specs.declared.layout.Geometry.{Geometry}
use Rattle.draid_perm.specs.declared.perms.Perms.{Perms}
use Rattle.draid_machine.specs.declared.names.ArmName.{ArmName}
use Rattle.draid_machine.specs.declared.names.ArmName.TheVariants.{Spare}
use Rattle.draid_machine.specs.Fitting.{OrderFits}
use Rattle.draid_machine.specs.Names.{has_name, name_eq, named}
use Rattle.draid_machine.specs.State as machine
use Rattle.draid_machine.proofs.Fitted.{every_fit}
use Rattle.draid_machine.proofs.Small.{absurd_test, both_true, either_true, equal, is_equal, none_some, some_same, true_both, true_left, true_right}
use Rattle.draid_segments.specs.Segments.{Pieces}
use Rattle.draid_pass.specs.declared.pass.Pass.{Pass}
use Rattle.draid_slots.specs.Faults.{IsKnown}
use Rattle.draid_slots.specs.States.{HasSlots, HoldsPass, name_of, pass_in}
use Rattle.draid_slots.specs.Table.{SlotTable, arms_of, has_spare, holds_spare, is_spare_kind, was_spare_of}
use Rattle.draid_slots.specs.declared.slot.Detached.{Detached}
use Rattle.draid_shard.specs.Fits.{is_rebuild}
use Rattle.draid_shard.specs.Part.{Part, layout_in}
use Rattle.draid_shard.specs.States.{layout_by, part_of}
use Rattle.draid_shard.specs.declared.shard.Shard.{Shard}
use Rattle.draid_shard.proofs.Among.{any_among, has_behind, has_first}
use Rattle.draid_shard.proofs.Homes.{lays}
use Rattle.draid_disks.specs.Disks.{arm_called}
use Rattle.draid_disks.specs.Replanning.{MayReplan}
use Rattle.draid_session.specs.Arms as arms
use Rattle.draid_session.specs.Holds.{UberView, View, view_of}
use Rattle.draid_session.specs.State.{Metaslab, State}
use Rattle.draid_pool.specs.Metaslabs.{IsMetaslab}
use Rattle.draid_pool.specs.Pools.{Represents, part_in}
use Rattle.draid_pool.specs.Views.{seen_at}
use Rattle.draid_pool.specs.declared.pool.Pool.{Pool}
use Rattle.draid_pool.proofs.Lifted.{HasMetaslab, metaslab_of}
use Rattle.draid_pool.proofs.Lists.{present}
use Rattle.draid_pool.proofs.Looking.{none_seen, not_none, seen_there}
use Rattle.draid_changes.specs.Attaching.{AllReplan, IsBarred, IsReplaceBarred, IsTooSmall, MayComeAll, MayReplace}
use Rattle.draid_changes.proofs.Begun.{first_of, first_seen, seen_first, uber_of}

-- ---- lists

any_has : {X : Type 0} (p : X → Bool) (xs : List X) → list_any p xs ≡ true → (x : X) × Contains xs x × (p x ≡ true)
any_has p [] is = absurd_test false is refl
any_has p (y ∷ ys) is = elim (either_true (p y) (list_any p ys) is) [
  | inl here ↦ (y, has_first y ys y refl, here)
  | inr behind ↦ (let z = any_has p ys behind in (z.0, has_behind y ys z.0 z.1, z.2))
]

-- ---- names

spare_kind : (k : ArmKind) → is_spare_kind k ≡ true → k ≡ kind.Spare
spare_kind kind.Leaf is = absurd_test false is refl
spare_kind kind.Spare is = refl

spare_of_name : (k : ArmKind) (n spare : ℕ) → named k n ≡ Spare spare → (k ≡ kind.Spare) × (n ≡ spare)
spare_of_name kind.Leaf n spare is = absurd (cc)
spare_of_name kind.Spare n spare is = (refl, (let same : n ≡ spare = cc in same))

has_spare_name : (spare : ℕ) (arms : List Arm) → has_name (map name_of arms) (Spare spare) ≡ has_spare arms spare
has_spare_name spare [] = refl
has_spare_name spare (a ∷ arms) = by (has_spare_name spare arms) a.kind
  where
    by : has_name (map name_of arms) (Spare spare) ≡ has_spare arms spare → (k : ArmKind) → (name_eq (named k a.number) (Spare spare) || has_name (map name_of arms) (Spare spare)) ≡ ((is_spare_kind k && (a.number == spare)) || has_spare arms spare)
    by rest kind.Leaf = rest
    by rest kind.Spare = ap (λ b. (a.number == spare) || b) rest

abbrev is_gone_from : ℕ → ℕ → Detached → Bool
is_gone_from spare by gone = is_spare_kind gone.kind && ((gone.number == spare) && (gone.slot == by))

-- ---- a spare is busy in the state just where it is by the slots

module _ (geometry : Geometry) (perms : Perms) (slots : SlotTable) (m : ℕ) (y : Metaslab) (has : HasSlots slots y.world.core) (inside : (slot : ℕ) (n : ArmName) → has_name (y.world.core.order slot) n ≡ true → slot < geometry.spec.children)
    (spare by : ℕ) where
  busy_seen : holds_spare slots spare by ≡ true → arms.IsBusy geometry perms spare by (view_of m y)
  busy_seen held = elim (either_true (has_spare (arms_of slots by) spare) (was_spare_of slots.detached spare by) held) [
    | inl here ↦
        (let listed : has_name (y.world.core.order by) (Spare spare) ≡ true = ap (λ ns. has_name ns (Spare spare)) (has.order by) ∙ (has_spare_name spare (arms_of slots by) ∙ here) in
        inl (inside by (Spare spare) listed, listed))
    | inr gone ↦
        (let z = any_has (is_gone_from spare by) slots.detached gone in
        let one = both_true (is_spare_kind z.0.kind) ((z.0.number == spare) && (z.0.slot == by)) z.2 in
        let other = both_true (z.0.number == spare) (z.0.slot == by) one.1 in
        let g = has.detached z.0 z.1 in
        let name : named z.0.kind z.0.number ≡ Spare spare = (λ i. named (spare_kind z.0.kind one.0 i) (is_equal z.0.number spare other.0 i)) in
        inr (g.arm, record { slot = z.0.slot; group = z.0.group }, ap (λ n. y.world.core.arm n) (sym name) ∙ g.there, g.by, is_equal z.0.slot by other.1))
  ]

  busy_held : arms.IsBusy geometry perms spare by (view_of m y) → holds_spare slots spare by ≡ true
  busy_held (inl (low, listed)) =
      true_left (has_spare (arms_of slots by) spare) (was_spare_of slots.detached spare by) (sym (has_spare_name spare (arms_of slots by)) ∙ (ap (λ ns. has_name ns (Spare spare)) (sym (has.order by)) ∙ listed))
  busy_held (inr (a, gone, there, left, slot_is)) = elim (has.only (Spare spare) (λ none. none_some (y.world.core.arm (Spare spare)) a none there)) [
    | inl h ↦
        (let own = ap (λ n. y.world.core.arm n) (sym h.name_is) ∙ has.arms h.at h.arm h.there in
        let is = some_same (y.world.core.arm (Spare spare)) a _ there own in
        absurd (none_some a.gone gone (ap (λ (b : machine.Arm). b.gone) is) left))
    | inr w ↦
        (let g = has.detached w.gone w.among in
        let parts = spare_of_name w.gone.kind w.gone.number spare w.name_is in
        let is = some_same (y.world.core.arm (Spare spare)) a g.arm there (ap (λ n. y.world.core.arm n) (sym w.name_is) ∙ g.there) in
        let from : gone ≡ record { slot = w.gone.slot; group = w.gone.group } = some_same a.gone gone _ left (ap (λ (b : machine.Arm). b.gone) is ∙ g.by) in
        true_right (has_spare (arms_of slots by) spare) (was_spare_of slots.detached spare by)
        (any_among (is_gone_from spare by) slots.detached w.gone w.among
        (true_both (is_spare_kind w.gone.kind) ((w.gone.number == spare) && (w.gone.slot == by)) (ap is_spare_kind parts.0)
        (true_both (w.gone.number == spare) (w.gone.slot == by) (equal w.gone.number spare parts.1) (equal w.gone.slot by (sym (ap (λ (g : machine.Gone). g.slot) from) ∙ slot_is))))))
  ]

-- ---- a rebuild can be planned again

rebuilds : (k : PassKind) → (elim k as (λ k. Bool) [ Rebuild ↦ true | Heal ↦ false ]) ≡ true → k ≡ Rebuild
rebuilds Rebuild is = refl
rebuilds Heal is = absurd_test false is refl

module _ {R A : Type 0} (rack : racks.Ghosts R) (area : areas.Ghosts A) where
  can_replan : (part : Part) (pieces : Pieces) (m : ℕ) (shard : Shard R A) (y : Metaslab) → IsMetaslab rack area part pieces shard y → (arms.CantReplan (view_of m y) → ⊥) → MayReplan shard.pass shard.last_pass shard.open_group
  can_replan part pieces m shard y is can rebuild = by shard.pass refl rebuild
    where
      by : (o : Option Pass) → shard.pass ≡ o → is_rebuild o ≡ true → (shard.last_pass < LAST_NUMBER) × (shard.open_group < LAST_NUMBER)
      by None none is = absurd_test false is refl
      by (Some p) own own_kind =
          let seen : y.world.core.pass ≡ Some (pass_in shard.slots p) = is.stands.is_in.pass ∙ ap (option_map (pass_in shard.slots)) own in
          let number = (subst (λ o. IfSome o (HoldsPass shard.slots shard.last_pass)) own is.valid.pass).current.number in
          let group = is.stands.is_in.open_group_is in
          let cant : (LAST_NUMBER ≤ p.number) ⊎ (LAST_NUMBER ≤ y.world.open_group) → ⊥ = (λ last. can (record { pass = pass_in shard.slots p; there = seen; rebuild = rebuilds p.kind own_kind; last = last })) in
          elim (cases_lt shard.last_pass LAST_NUMBER) [
            | inl low ↦ (low, elim (cases_lt shard.open_group LAST_NUMBER) [ inl under ↦ under | inr past ↦ absurd (cant (inr (omega (arith, past, group)))) ])
            | inr past ↦ absurd (cant (inl (omega (arith, past, number))))
          ]

  cant_replan : (part : Part) (pieces : Pieces) (m : ℕ) (shard : Shard R A) (y : Metaslab) → IsMetaslab rack area part pieces shard y → MayReplan shard.pass shard.last_pass shard.open_group → arms.CantReplan (view_of m y) → ⊥
  cant_replan part pieces m shard y is may can = by shard.pass refl
    where
      by : (o : Option Pass) → shard.pass ≡ o → ⊥
      by None own = none_some y.world.core.pass can.pass (is.stands.is_in.pass ∙ ap (option_map (pass_in shard.slots)) own) can.there
      by (Some p) own =
          let seen : y.world.core.pass ≡ Some (pass_in shard.slots p) = is.stands.is_in.pass ∙ ap (option_map (pass_in shard.slots)) own in
          let one : can.pass ≡ pass_in shard.slots p = some_same y.world.core.pass can.pass (pass_in shard.slots p) can.there seen in
          let rebuild : p.kind ≡ Rebuild = ap (λ (q : machine.Pass). q.kind) (sym one) ∙ can.rebuild in
          let low = may (ap is_rebuild own ∙ ap (λ k. elim k as (λ k. Bool) [ Rebuild ↦ true | Heal ↦ false ]) rebuild) in
          let number = (subst (λ o. IfSome o (HoldsPass shard.slots shard.last_pass)) own is.valid.pass).current.number in
          let same = ap (λ (q : machine.Pass). q.number) one in
          let group = is.stands.is_in.open_group_is in
          let under = low.0 in
          let below = low.1 in
          elim can.last [
            | inl last ↦ absurd (omega (arith, last, same, number, under))
            | inr last ↦ absurd (omega (arith, last, group, below))
          ]

  module _ (mid : Pool R A) (y : State) (r : Represents rack area mid y) where
    abbrev views : List View
    views = seen_at 0 y.metaslabs

    pub none_left : (AllReplan mid.metaslabs.shards.items → ⊥) → arms.NoneLeft views
    none_left barred none =
        barred (λ m shard there.
        (let z = metaslab_of rack area mid y r.stands m shard there in
        can_replan (part_in y m) (r.stands.pieces m) (0 + m) shard z.y z.is (λ cant. not_none arms.CantReplan views (view_of (0 + m) z.y) (seen_there 0 m y.metaslabs z.y z.at) cant none)))

    pub some_left : AllReplan mid.metaslabs.shards.items → arms.NoneLeft views → ⊥
    some_left again left =
        left (none_seen arms.CantReplan 0 y.metaslabs (λ m z at cant.
        (let long = slice_get_within y.metaslabs m z at in
        let many = r.stands.shards in
        let s = present mid.metaslabs.shards.items m (omega (arith, long, many)) in
        cant_replan (part_in y m) (r.stands.pieces m) (0 + m) s.0 z (r.stands.each m s.0 z s.1 at) (again m s.0 s.1) cant)))

    -- ---- by the first metaslab

    module _ (first : Shard R A) (there : slice_get mid.metaslabs.shards.items 0 ≡ Some first) where
      z : HasMetaslab rack area mid y r.stands 0 first
      z = first_of rack area mid y first r there

      pub layout_same : first.slots.geometry ≡ y.geometry
      layout_same = z.is.valid.slots.geometry_is ∙ ap (λ (p : Part). p.geometry) z.is.part_is

      fits : OrderFits (layout_by first) z.y.world.core.order
      fits = (every_fit (layout_by first) z.y.world (lays (part_of first) z.is.valid.part) z.is.stands.reached).core.order

      inside : (slot : ℕ) (n : ArmName) → has_name (z.y.world.core.order slot) n ≡ true → slot < y.geometry.spec.children
      inside slot n listed = subst (λ (p : Part). slot < (layout_in p).slots) z.is.part_is (fits.slots slot n listed)

      pub busy : (spare by : ℕ) → holds_spare first.slots spare by ≡ true → arms.OnFirst (arms.IsBusy y.geometry y.perms spare by) views
      busy spare by held = seen_first (arms.IsBusy y.geometry y.perms spare by) y.metaslabs z.y z.at (busy_seen y.geometry y.perms first.slots 0 z.y z.is.stands.is_in.slots inside spare by held)

      pub idle : (spare : ℕ) → ((by : ℕ) → holds_spare first.slots spare by ≡ false) → arms.IsIdle y.geometry y.perms spare views
      idle spare free by on =
          absurd_test (holds_spare first.slots spare by)
          (busy_held y.geometry y.perms first.slots 0 z.y z.is.stands.is_in.slots inside spare by (first_seen (arms.IsBusy y.geometry y.perms spare by) y.metaslabs z.y z.at on)) (free by)

      long : (slot : ℕ) → length (z.y.world.core.order slot) ≡ length (arms_of first.slots slot)
      long slot = ap length (z.is.stands.is_in.slots.order slot) ∙ length-map (arms_of first.slots slot) name_of

      pub full : (slot : ℕ) → 3 ≤ length (arms_of first.slots slot) → arms.IsFull y.geometry y.perms slot views
      full slot most = seen_first (λ v. 3 ≤ length (v.world.core.order slot)) y.metaslabs z.y z.at (let same = long slot in omega (arith, most, same))

      pub some_room : (slot : ℕ) → length (arms_of first.slots slot) < 3 → arms.IsFull y.geometry y.perms slot views → ⊥
      some_room slot few on = (let most = first_seen (λ v. 3 ≤ length (v.world.core.order slot)) y.metaslabs z.y z.at on in let same = long slot in omega (arith, few, most, same))

      -- a slot has at most three arms
      pub three : (slot arms : ℕ) → 3 ≤ length (arms_of first.slots slot) → arms ≡ length (arms_of first.slots slot) → arms ≡ 3
      three slot arms most is = (let upto = fits.three slot in let same = long slot in omega (arith, most, is, upto, same))

      child : (n : ℕ) → n < first.slots.geometry.spec.children → n < y.geometry.spec.children
      child n low = subst (λ (g : Geometry). n < g.spec.children) layout_same low

      pooled : (n : ℕ) → n < first.slots.geometry.spec.spares → n < y.geometry.spec.spares
      pooled n low = subst (λ (g : Geometry). n < g.spec.spares) layout_same low

      -- ---- a spare

      unknown : (slot spare : ℕ) → (IsKnown first.slots slot (arm_called kind.Spare spare) → ⊥) → (y.geometry.spec.children ≤ slot) ⊎ (y.geometry.spec.spares ≤ spare)
      unknown slot spare not_known = elim (cases_lt slot y.geometry.spec.children) [
        | inr past ↦ inl past
        | inl low ↦ elim (cases_lt spare y.geometry.spec.spares) [
          | inr past ↦ inr past
          | inl small ↦
              absurd (not_known (record {
                slot_there = subst (λ (g : Geometry). slot < g.spec.children) (sym layout_same) low;
                spare_there = λ is. subst (λ (g : Geometry). spare < g.spec.spares) (sym layout_same) small;
              }))
        ]
      ]

      pub spare_barred : (slot spare : ℕ) (u : UberView) (why : SlotFault) → IsBarred first.slots mid.metaslabs.shards.items slot (arm_called kind.Spare spare) why → arms.BreaksSpare y.geometry y.perms slot spare views u why
      spare_barred slot spare u fault.NoSuch is = unknown slot spare is
      spare_barred slot spare u (fault.SpareBusy by) is = (child slot is.0.slot_there, pooled spare (is.0.spare_there refl), busy spare by is.2)
      spare_barred slot spare u (fault.Full arms) is =
          (child slot is.0.slot_there, pooled spare (is.0.spare_there refl), idle spare (is.1 refl), full slot is.2, three slot arms is.2 is.3)
      spare_barred slot spare u fault.Last is =
          (child slot is.0.known.slot_there, pooled spare (is.0.known.spare_there refl), idle spare (is.0.idle refl), some_room slot is.0.some_room, none_left is.1)
      spare_barred slot spare u fault.LastArm is = is
      spare_barred slot spare u (fault.LogNotEmpty groups) is = is
      spare_barred slot spare u (fault.PassRunning metaslab number) is = is
      spare_barred slot spare u (fault.TooSmall need have) is = is

      pub spare_may : (slot spare : ℕ) (u : UberView) (why : SlotFault) → MayComeAll first.slots mid.metaslabs.shards.items slot (arm_called kind.Spare spare) → arms.BreaksSpare y.geometry y.perms slot spare views u why → ⊥
      spare_may slot spare u fault.NoSuch m broken = elim broken [
        | inl past ↦ (let low = child slot m.may.known.slot_there in omega (arith, low, past))
        | inr past ↦ (let low = pooled spare (m.may.known.spare_there refl) in omega (arith, low, past))
      ]
      spare_may slot spare u (fault.SpareBusy by) m broken = idle spare (m.may.idle refl) by broken.2
      spare_may slot spare u (fault.Full arms) m broken = some_room slot m.may.some_room broken.3
      spare_may slot spare u fault.Last m broken = some_left m.again broken.4
      spare_may slot spare u fault.LastArm m broken = broken
      spare_may slot spare u (fault.LogNotEmpty groups) m broken = broken
      spare_may slot spare u (fault.PassRunning metaslab number) m broken = broken
      spare_may slot spare u (fault.TooSmall need have) m broken = broken

      -- ---- a new disk

      needed_is : arms.needed y.geometry y.perms ≡ child_sectors first.slots.geometry
      needed_is =
          (sym (mul_assoc y.geometry.props.metaslabs (y.geometry.props.slices * y.geometry.rows) y.geometry.props.height)
          ∙ ap (λ n. n * y.geometry.props.height) (sym (mul_assoc y.geometry.props.metaslabs y.geometry.props.slices y.geometry.rows)))
          ∙ ap (λ (g : Geometry). child_sectors g) (sym layout_same)

      small : (sectors : Option ℕ) → arms.IsSmall y.geometry y.perms sectors → IsTooSmall first.slots sectors
      small None is = is
      small (Some have) is = (let same = needed_is in omega (arith, is, same))

      unplaced : (slot leaf : ℕ) → (IsKnown first.slots slot (arm_called kind.Leaf leaf) → ⊥) → y.geometry.spec.children ≤ slot
      unplaced slot leaf not_known = elim (cases_lt slot y.geometry.spec.children) [
        | inr past ↦ past
        | inl low ↦ absurd (not_known (record { slot_there = subst (λ (g : Geometry). slot < g.spec.children) (sym layout_same) low; spare_there = λ is. absurd (cc) }))
      ]

      pub disk_barred : (slot leaf : ℕ) (sectors : Option ℕ) (why : SlotFault) → leaf ≡ y.next_leaf → IsReplaceBarred first.slots mid.metaslabs.shards.items slot leaf sectors why
          → arms.BreaksDisk y.geometry y.perms slot sectors views (uber_of y) why
      disk_barred slot leaf sectors fault.NoSuch next is = unplaced slot leaf is
      disk_barred slot leaf sectors (fault.SpareBusy by) next is = is
      disk_barred slot leaf sectors (fault.Full arms) next is = (child slot is.0.slot_there, full slot is.2, three slot arms is.2 is.3)
      disk_barred slot leaf sectors fault.Last next is = (
        child slot is.0.known.slot_there,
        some_room slot is.0.some_room,
        λ own. is.1 (small sectors own),
        elim is.2 [ inl past ↦ inl (omega (arith, past, next)) | inr barred ↦ inr (none_left barred) ],
      )
      disk_barred slot leaf sectors fault.LastArm next is = is
      disk_barred slot leaf sectors (fault.LogNotEmpty groups) next is = is
      disk_barred slot leaf sectors (fault.PassRunning metaslab number) next is = is
      disk_barred slot leaf sectors (fault.TooSmall need have) next is = (child slot is.0.known.slot_there, some_room slot is.0.some_room, is.1.0, is.1.1 ∙ sym needed_is, is.1.2)

      pub disk_may : (slot leaf : ℕ) (sectors : Option ℕ) (why : SlotFault) → leaf ≡ y.next_leaf → MayReplace first.slots mid.metaslabs.shards.items slot leaf sectors
          → arms.BreaksDisk y.geometry y.perms slot sectors views (uber_of y) why → ⊥
      disk_may slot leaf sectors fault.NoSuch next m broken = (let low = child slot m.come.may.known.slot_there in omega (arith, low, broken))
      disk_may slot leaf sectors (fault.SpareBusy by) next m broken = broken
      disk_may slot leaf sectors (fault.Full arms) next m broken = some_room slot m.come.may.some_room broken.1
      disk_may slot leaf sectors fault.Last next m broken = elim broken.3 [
        | inl past ↦ (let low = m.number in omega (arith, past, low, next))
        | inr left ↦ some_left m.come.again left
      ]
      disk_may slot leaf sectors fault.LastArm next m broken = broken
      disk_may slot leaf sectors (fault.LogNotEmpty groups) next m broken = broken
      disk_may slot leaf sectors (fault.PassRunning metaslab number) next m broken = broken
      disk_may slot leaf sectors (fault.TooSmall need have) next m broken =
          m.large (subst (IsTooSmall first.slots) (sym broken.2) (let same = needed_is in let need_is = broken.3 in let less = broken.4 in omega (arith, same, need_is, less)))
