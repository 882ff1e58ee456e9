-- Older blocks that an import frees, one after another, of what it found.
use Rattle.std.proofs.Common.{arith, ◌≡◌, ◌==◌, ◌+◌, ◌<◌, ◌≤◌, ◌∙◌, ◌⊎◌, inl, inr, ℕ, Bool, true, false, List, Option, Some, None, refl, sym, ap, subst, slice_set, length, if◌then◌else◌}
use Rattle.std.specs.Prelude.{slice_get}
use Rattle.std.proofs.lemmas.Bool.{cases_eq, cases_lt}
use Rattle.std.proofs.lemmas.Bool.Decides.{nat_tests}
use Rattle.std.proofs.lemmas.Option.{slice_get_within}
use Rattle.draid_names.specs.declared.pointer.Pointer.{Pointer}
use Rattle.draid_rack.specs.declared.Rack as racks
use Rattle.draid_area.specs.declared.Area as areas
use Rattle.draid_machine.specs.declared.names.Stage.TheVariants.{Freed, Live}
use Rattle.draid_machine.proofs.Small.{some_injective}
use Rattle.draid_record.specs.declared.uber.UberBody.{UberBody}
use Rattle.draid_segments.specs.Segments.{Pieces}
use Rattle.draid_entries.specs.declared.entry.Entry.{Entry}
use Rattle.draid_entries.specs.Entries.{entry_at}
use Rattle.draid_entries.specs.Maps.{staged}
use Rattle.draid_shard.specs.Looks.{IsLive, IsNextHeld}
use Rattle.draid_shard.specs.Changes.{SetsBlock}
use Rattle.draid_shard.specs.Part.{Part}
use Rattle.draid_shard.specs.declared.shard.Shard.{Shard}
use Rattle.draid_uber.specs.Slots.{group_of}
use Rattle.draid_uber.specs.Uber.{kept_of}
use Rattle.draid_uber.specs.declared.uber.Uber.{Uber}
use Rattle.draid_session.specs.State.{State}
use Rattle.draid_import.specs.Found.{FreesAt, FreesIfOlder, HasOnly, KeepsFound, KeepsFoundAt}
use Rattle.draid_import.specs.Imported.{AreLeft, IsFoundOf, Stays}
use Rattle.draid_pool.specs.Ubers.{body_of}
use Rattle.draid_import.proofs.Found.{elsewhere}
use Rattle.draid_import.proofs.ImportEnd.{found_frees}
use Rattle.draid_pool.proofs.Lists.{get_set_other, get_set_same, present, set_back, set_twice, some_of}

-- ---- the group

kept_group : (x : State) (kept : Option UberBody) → kept ≡ (if x.committed == 0 then None else Some (body_of x.geometry x.kept_version x.committed x.kept_leaf)) → group_of kept ≡ x.committed
kept_group x kept is = by (x.committed == 0) refl is
  where
    by : (b : Bool) → (x.committed == 0) ≡ b → kept ≡ (if b then None else Some (body_of x.geometry x.kept_version x.committed x.kept_leaf)) → group_of kept ≡ x.committed
    by true zero none = (let same : x.committed ≡ 0 = grind (arith, nat_tests, zero) in ap (λ (k : Option UberBody). group_of k) none ∙ sym same)
    by false some is = ap (λ (k : Option UberBody). group_of k) is

module _ {R A : Type 0} (rack : racks.Ghosts R) (area : areas.Ghosts A) where
  -- the uberblock names the group that was found
  pub found_group : (x : State) (uber : Uber A) (pieces : ℕ → Pieces) (newest : ℕ → Option Pointer) (seq : ℕ) (shards : List (Shard R A)) (f : IsFoundOf rack area x uber pieces newest seq shards)
      → group_of (kept_of uber) ≡ f.group
  found_group x uber pieces newest seq shards f =
      kept_group f.freed.reached (kept_of uber) f.freed.stands.uber_is.kept ∙ (f.freed.same_group ∙ f.finds.committed)

  -- a live block of a metaslab names it
  found_metaslab : (x : State) (uber : Uber A) (pieces : ℕ → Pieces) (newest : ℕ → Option Pointer) (seq : ℕ) (shards : List (Shard R A)) (f : IsFoundOf rack area x uber pieces newest seq shards)
      (m : ℕ) (shard : Shard R A) (p : Pointer) → slice_get shards m ≡ Some shard → IsLive shard p → p.metaslab ≡ m
  found_metaslab x uber pieces newest seq shards f m shard p at live =
      let s = f.freed.stands in
      let within = slice_get_within shards m shard at in
      let many = s.shards_are in
      let y = present f.freed.reached.metaslabs m (omega (arith, within, many)) in
      let it = s.each m shard y.0 at y.1 in
      it.valid.here.each p.first (staged Live p) live ∙ ap (λ (q : Part). q.number) it.part_is

module _ {R A : Type 0} (rack : racks.Ghosts R) (area : areas.Ghosts A) (newest : ℕ → Option Pointer) (own : Option ℕ) (floor : ℕ) where
  -- ---- one metaslab

  pub keeps_none : (shard : Shard R A) → KeepsFoundAt rack area newest own floor shard shard
  keeps_none shard m shards at x uber pieces seq point is f = subst (IsFoundOf rack area x uber pieces newest seq) (sym (set_back shards m shard at)) f

  pub keeps_step : (old mid new : Shard R A) (p : Pointer) → KeepsFoundAt rack area newest own floor old mid → IsLive mid p → FreesIfOlder rack area newest own p floor mid new → KeepsFoundAt rack area newest own floor old new
  keeps_step old mid new p keeps live one m shards at x uber pieces seq point is f = subst (IsFoundOf rack area x uber pieces newest seq) (set_twice shards m mid new) (by one.done)
    where
      there : slice_get (slice_set shards m mid) m ≡ Some mid
      there = get_set_same shards m old mid at

      before : IsFoundOf rack area x uber pieces newest seq (slice_set shards m mid)
      before = keeps m shards at x uber pieces seq point is f

      by : (Stays newest own p × (new ≡ mid)) ⊎ ((Stays newest own p → ⊥) × ((group : ℕ) × SetsBlock mid new p (Some (staged (Freed group) p)) × FreesAt rack area p floor group mid new))
          → IsFoundOf rack area x uber pieces newest seq (slice_set (slice_set shards m mid) m new)
      by (inl same) = subst (λ (s : Shard R A). IsFoundOf rack area x uber pieces newest seq (slice_set (slice_set shards m mid) m s)) (sym same.1)
          (subst (IsFoundOf rack area x uber pieces newest seq) (sym (set_back (slice_set shards m mid) m mid there)) before)
      by (inr freed) = found_frees rack area x pieces uber newest seq (slice_set shards m mid) before m mid new p floor freed.1.0 there live
          (found_metaslab rack area x uber pieces newest seq (slice_set shards m mid) before m mid p there live) (subst (λ o. Stays newest o p → ⊥) (sym point) freed.0)
          (is ∙ ap (λ g. g + 1) (found_group rack area x uber pieces newest seq (slice_set shards m mid) before)) freed.1.2

  -- below a place no block is live but those that stay
  abbrev pub OnlyBelow : ℕ → Shard R A → Type 0
  OnlyBelow from shard = (first : ℕ) (e : Entry) → first < from → entry_at shard.entries first ≡ Some e → e.stage ≡ Live → Stays newest own e.pointer

  pub only_step : (from : ℕ) (mid new : Shard R A) (p : Pointer) → IsNextHeld mid from p → FreesIfOlder rack area newest own p floor mid new → OnlyBelow from mid → OnlyBelow (p.first + 1) new
  only_step from mid new p next one below first e low there is = by one.done
    where
      freed_not : (group : ℕ) → Some (staged (Freed group) p) ≡ Some e → ⊥
      freed_not group same =
          let stage = sym (ap (λ (x : Entry). x.stage) (some_injective (staged (Freed group) p) e same)) in
          let both = sym is ∙ stage in
          absurd (cc)

      early : entry_at mid.entries first ≡ Some e → (first ≡ p.first → ⊥) → Stays newest own e.pointer
      early was other = elim (cases_lt first from) [
        | inl less ↦ below first e less was is
        | inr past ↦ (let none = next.first first past (omega (arith, low, other)) in absurd (cc))
      ]

      by : (Stays newest own p × (new ≡ mid)) ⊎ ((Stays newest own p → ⊥) × ((group : ℕ) × SetsBlock mid new p (Some (staged (Freed group) p)) × FreesAt rack area p floor group mid new))
          → Stays newest own e.pointer
      by (inl same) =
          let was : entry_at mid.entries first ≡ Some e = ap (λ (s : Shard R A). entry_at s.entries first) (sym same.1) ∙ there in
          elim (cases_eq first p.first) [
            | inl at ↦
                (let is_p : e.pointer ≡ p = ap (λ (x : Entry). x.pointer) (some_of (entry_at mid.entries first) e (staged next.entered.stage p) was (ap (entry_at mid.entries) at ∙ next.entered.there)) in
                subst (Stays newest own) (sym is_p) same.0)
            | inr other ↦ early was other
          ]
      by (inr freed) = elim (cases_eq first p.first) [
        | inl at ↦
            (let here : entry_at new.entries first ≡ Some (staged (Freed freed.1.0) p) = (let is_at = freed.1.1.entry.at first in grind (arith, nat_tests, is_at, at)) in
            absurd (freed_not freed.1.0 (sym here ∙ there)))
        | inr other ↦ early (sym (elsewhere (entry_at new.entries first) (entry_at mid.entries first) (Some (staged (Freed freed.1.0) p)) first p.first (freed.1.1.entry.at first) other) ∙ there) other
      ]

  pub only_all : (from : ℕ) (shard : Shard R A) → ((first : ℕ) → from ≤ first → entry_at shard.entries first ≡ None) → OnlyBelow from shard → HasOnly newest own shard
  only_all from shard none below first e there is = elim (cases_lt first from) [
    | inl less ↦ below first e less there is
    | inr past ↦ (let empty = none first past in absurd (cc))
  ]

  -- ---- all metaslabs

  pub keeps_more : (n : ℕ) (old mid : List (Shard R A)) (shard shard' : Shard R A) → slice_get mid n ≡ Some shard → KeepsFound rack area newest own floor old mid → KeepsFoundAt rack area newest own floor shard shard'
      → KeepsFound rack area newest own floor old (slice_set mid n shard')
  keeps_more n old mid shard shard' there keeps one x uber pieces seq point is f = one n mid there x uber pieces seq point is (keeps x uber pieces seq point is f)

  -- so in the metaslabs below a number
  abbrev pub OnlyIn : ℕ → List (Shard R A) → Type 0
  OnlyIn n shards = (m : ℕ) (shard : Shard R A) → m < n → slice_get shards m ≡ Some shard → HasOnly newest own shard

  pub only_more : (n : ℕ) (mid : List (Shard R A)) (shard shard' : Shard R A) → slice_get mid n ≡ Some shard → OnlyIn n mid → HasOnly newest own shard' → OnlyIn (n + 1) (slice_set mid n shard')
  only_more n mid shard shard' there only one m s below at = elim (cases_eq m n) [
    | inl same ↦
        (let here = get_set_same mid n shard shard' there in
        let is : shard' ≡ s = some_of (slice_get (slice_set mid n shard') n) shard' s here (subst (λ (k : ℕ). slice_get (slice_set mid n shard') k ≡ Some s) same at) in
        subst (HasOnly newest own) is one)
    | inr other ↦ only m s (omega (arith, below, other)) (sym (get_set_other mid n m shard' other) ∙ at)
  ]

  pub are_left : (n : ℕ) (shards : List (Shard R A)) → length shards ≤ n → OnlyIn n shards → AreLeft shards newest own
  are_left n shards all only m shard first e there = (let within = slice_get_within shards m shard there in only m shard (omega (arith, within, all)) there first e)
