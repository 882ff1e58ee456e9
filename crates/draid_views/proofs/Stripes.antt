-- What a shard has of stripes, blocks, its pass and its groups is what states have for which it stands.
use Rattle.std.proofs.Common.{◌≡◌, ◌+◌, ◌<◌, ◌≤◌, ◌↔◌, ◌∙◌, ℕ, Bool, true, false, List, Option, Some, None, if◌then◌else◌, arith, refl, sym, ap, subst, inl, inr, length, max, option_map}
use Rattle.std.specs.Prelude.{slice_get}
use Rattle.std.proofs.lemmas.Bool.{true≢false, cases_eq, cases_lt}
use Rattle.std.specs.Ordering.{nat_cmp, ord_max}
use Rattle.std.proofs.lemmas.Bool.Decides.{nat_tests}
use Rattle.std.proofs.lemmas.Option.{slice_get_within}
use Rattle.draid_names.specs.declared.numbers.TheConstants.{NUMBERS}
use Rattle.draid_names.specs.declared.pointer.Pointer.{Pointer}
use Rattle.draid_rack.specs.declared.Rack.{Ghosts}
use Rattle.draid_ranges.specs.Numbers.{count_below}
use Rattle.draid_metaslab.specs.Spaces.{is_free}
use Rattle.draid_machine.specs.declared.names.Held.{Held}
use Rattle.draid_machine.specs.declared.names.Key.{Key}
use Rattle.draid_machine.specs.declared.names.Stage.{Stage}
use Rattle.draid_machine.specs.declared.names.Stage.TheVariants.{Live}
use Rattle.draid_machine.specs.State as machine
use Rattle.draid_machine.proofs.Small.{none_some, some_injective, some_same}
use Rattle.draid_pass.specs.declared.pass.Pass.{Pass}
use Rattle.draid_slots.specs.Table.{SlotTable}
use Rattle.draid_slots.specs.States.{pass_in}
use Rattle.draid_entries.specs.declared.entry.Entry.{Entry}
use Rattle.draid_entries.specs.Entries.{IsEntered, entry_at}
use Rattle.draid_entries.specs.Maps.{held_at, key_of, staged}
use Rattle.draid_shard.specs.Looks.{IsLive, IsNextHeld}
use Rattle.draid_shard.specs.Fits.{Valid}
use Rattle.draid_shard.specs.declared.shard.Shard.{Shard}
use Rattle.draid_shard.proofs.Held.{held_entry, key_leads}
use Rattle.draid_shard.proofs.Tables.{first_is}
use Rattle.draid_report.specs.declared.view.PassView.{PassView}
use Rattle.draid_session.specs.Holds.{View}
use Rattle.draid_session.specs.Status.{HasCount, IsFreeStripe, IsGreatestOpen, PassIs}
use Rattle.draid_views.specs.Views.{AreShown, IsLiveAt, IsPassTold, IsShown}
use Rattle.draid_views.proofs.Counts.{CountsBelow, counts_all, counts_next}
use Rattle.draid_views.proofs.Zips.{zip_left, zip_right}

-- ---- blocks

module _ {R A : Type 0} (shard : Shard R A) where
  live_here : (pointer : Pointer) (b : Bool) → IsEntered shard.entries pointer → ((b ≡ true) ↔ IsLive shard pointer) → (b ≡ true) ↔ IsLiveAt shard pointer.first
  live_here pointer b at is = (λ same. record { pointer = pointer; there = is.0 same }, λ p. is.1 (back p.pointer p.there))
    where
      back : (q : Pointer) → entry_at shard.entries pointer.first ≡ Some (staged Live q) → IsLive shard pointer
      back q there =
          let same : staged Live q ≡ staged at.stage pointer = some_same (entry_at shard.entries pointer.first) (staged Live q) (staged at.stage pointer) there at.there in
          subst (λ (s : Stage). entry_at shard.entries pointer.first ≡ Some (staged s pointer)) (sym (ap (λ (e : Entry). e.stage) same)) at.there

  none_here : (x : ℕ) → entry_at shard.entries x ≡ None → IsLiveAt shard x → ⊥
  none_here x none p = none_some (entry_at shard.entries x) (staged Live p.pointer) none p.there

  pub live_next : (stripe blocks : ℕ) (pointer : Pointer) (b : Bool) → CountsBelow (IsLiveAt shard) stripe blocks → IsNextHeld shard stripe pointer → ((b ≡ true) ↔ IsLive shard pointer)
      → CountsBelow (IsLiveAt shard) (pointer.first + 1) (blocks + (if b then 1 else 0))
  live_next stripe blocks pointer b was next is = counts_next (IsLiveAt shard) stripe blocks was pointer.first b next.behind (λ x from low. none_here x (next.first x from low)) (live_here pointer b next.entered is)

  pub live_all : (stripe blocks : ℕ) → CountsBelow (IsLiveAt shard) stripe blocks → stripe ≤ NUMBERS → ((x : ℕ) → stripe ≤ x → entry_at shard.entries x ≡ None) → HasCount (IsLiveAt shard) blocks
  live_all stripe blocks was low none = counts_all (IsLiveAt shard) stripe blocks was low (λ x from. none_here x (none x from))

  pub pointer_low : (stripe : ℕ) (pointer : Pointer) → IsNextHeld shard stripe pointer → pointer.first < NUMBERS
  pointer_low stripe pointer next = (shard.entries.agree.found pointer.first (staged next.entered.stage pointer) next.entered.there).low

-- ---- stripes

module _ {R A : Type 0} (rack : Ghosts R) (shard : Shard R A) (valid : Valid rack shard) where
  pub free_is : (v : View) (count : ℕ) → IsShown shard v → count ≡ count_below (is_free shard.space) NUMBERS → HasCount (IsFreeStripe shard.geometry shard.perms v) count
  free_is v count at is = record { test = is_free shard.space; is = λ x. (there x, back x); count = is }
    where
      apart : (x : ℕ) → is_free shard.space x ≡ true → (key : Key) (h : Held) → v.world.core.held key ≡ Some h → h.first ≤ x → x < h.first + h.stripes → ⊥
      apart x free key h found low high =
          let z = held_entry shard.entries key h (sym (at.held key) ∙ found) in
          let first : z.e.pointer.first ≡ h.first = ap (λ (i : Held). i.first) z.held_is in
          let long : z.e.pointer.stripes ≡ h.stripes = ap (λ (i : Held). i.stripes) z.held_is in
          let taken = (valid.tables.placed h.first z.e z.there).held x (omega (arith, first, low)) (omega (arith, first, long, high)) in
          true≢false (sym free ∙ taken)

      there : (x : ℕ) → is_free shard.space x ≡ true → IsFreeStripe shard.geometry shard.perms v x
      there x free = record { inside = valid.tables.inside x free; free = apart x free }

      back : (x : ℕ) → IsFreeStripe shard.geometry shard.perms v x → is_free shard.space x ≡ true
      back x f = by (is_free shard.space x) refl
        where
          by : (b : Bool) → is_free shard.space x ≡ b → is_free shard.space x ≡ true
          by true same = same
          by false same =
              let z = valid.tables.covered x f.inside same in
              let first = first_is shard.entries z.first z.entry z.there in
              let from = z.from in
              let to = z.to in
              absurd (f.free (key_of z.entry.pointer) (held_at z.entry) (at.held (key_of z.entry.pointer) ∙ key_leads shard.entries z.first z.entry z.there) (omega (arith, first, from)) (omega (arith, first, to)))

-- ---- the pass

pass_by : (slots : SlotTable) (p : Option Pass) (view : Option PassView) → IsPassTold p view → PassIs (option_map (pass_in slots) p) view
pass_by slots None None told = tt
pass_by slots None (Some view) told = absurd told
pass_by slots (Some p) None told = absurd told
pass_by slots (Some p) (Some view) told = told

pub pass_is : {R A : Type 0} (shard : Shard R A) (v : View) (view : Option PassView) → IsShown shard v → IsPassTold shard.pass view → PassIs v.world.core.pass view
pass_is shard v view at told = subst (λ (o : Option machine.Pass). PassIs o view) (sym at.pass) (pass_by shard.slots shard.pass view told)

-- ---- open groups

pub max_is : (a b : ℕ) → ord_max nat_cmp a b ≡ max a b
max_is a b = grind (arith, nat_tests)

-- the greatest group that is open in the shards so far
pub record GreatestUpto {R A : Type 0} (shards : List (Shard R A)) (k group : ℕ) : Type 0 where
  pub one : 0 < k → (m : ℕ) × (shard : Shard R A) × (slice_get shards m ≡ Some shard) × (group ≡ shard.open_group)
  pub none : k ≡ 0 → group ≡ 0
  pub all : (m : ℕ) (shard : Shard R A) → m < k → slice_get shards m ≡ Some shard → shard.open_group ≤ group

module _ {R A : Type 0} (shards : List (Shard R A)) where
  pub greatest_none : GreatestUpto shards 0 0
  greatest_none = record { one = λ some. absurd (omega (arith, some)); none = λ same. refl; all = λ m shard low at. absurd (omega (arith, low)) }

  pub greatest_more : (k group : ℕ) (shard : Shard R A) → slice_get shards k ≡ Some shard → GreatestUpto shards k group → GreatestUpto shards (k + 1) (max group shard.open_group)
  greatest_more k group shard there was = record { one = λ some. one; none = λ zero_. absurd (omega (arith, zero_)); all = all }
    where
      one : (m : ℕ) × (s : Shard R A) × (slice_get shards m ≡ Some s) × (max group shard.open_group ≡ s.open_group)
      one = elim (cases_lt shard.open_group group) [
        | inl less ↦ elim (cases_eq k 0) [
          | inl zero_ ↦ absurd (let none = was.none zero_ in omega (arith, less, none))
          | inr some ↦ (let z = was.one (omega (arith, some)) in let same = z.3 in (z.0, z.1, z.2, (omega (arith, less, same))))
        ]
        | inr more ↦ (k, shard, there, (omega (arith, more)))
      ]

      all : (m : ℕ) (s : Shard R A) → m < k + 1 → slice_get shards m ≡ Some s → s.open_group ≤ max group shard.open_group
      all m s low at = elim (cases_eq m k) [
        | inl same ↦
            let is : s ≡ shard = some_injective s shard (sym at ∙ ap (slice_get shards) same ∙ there) in
            let group_is : s.open_group ≡ shard.open_group = ap (λ (t : Shard R A). t.open_group) is in
            omega (arith, group_is)
        | inr other ↦ (let before = was.all m s (omega (arith, low, other)) at in omega (arith, before))
      ]

  pub greatest_all : (k group : ℕ) → 0 < length shards → length shards ≤ k → GreatestUpto shards k group → (views : List View) → AreShown shards views → IsGreatestOpen views group
  greatest_all k group some end was views shown = record { one = one; all = all }
    where
      one : (m : ℕ) × (v : View) × (slice_get views m ≡ Some v) × (group ≡ v.world.open_group)
      one =
          let z = was.one (omega (arith, some, end)) in
          let y = zip_left IsShown shards views shown z.0 z.1 z.2 in
          (z.0, y.0, y.1, z.3 ∙ sym y.2.open_group_is)

      all : (m : ℕ) (v : View) → slice_get views m ≡ Some v → v.world.open_group ≤ group
      all m v at =
          let z = zip_right IsShown shards views shown m v at in
          let low = slice_get_within shards m z.0 z.1 in
          let less = was.all m z.0 (omega (arith, low, end)) z.1 in
          let is = z.2.open_group_is in
          omega (arith, less, is)
