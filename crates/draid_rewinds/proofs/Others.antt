-- Blocks of one metaslab are freed to which a table doesn't lead, one after another, and then those of the next.
use Rattle.std.proofs.Common.{arith, ◌≡◌, ◌==◌, ◌+◌, ◌*◌, if◌then◌else◌, ◌<◌, ◌≤◌, ◌++◌, ◌∙◌, inl, inr, ℕ, List, [], ◌∷◌, Option, Some, None, refl, sym, ap, subst, slice_set, length, max}
use Rattle.std.specs.Prelude.{map, slice_get}
use Rattle.std.proofs.lemmas.Bool.{cases_eq, cases_lt}
use Rattle.std.proofs.lemmas.Bool.Decides.{nat_tests}
use Rattle.std.proofs.lemmas.List.{length-append, length-map, length-set}
use Rattle.std.proofs.lemmas.Option.{slice_get_within}
use Rattle.draid_names.specs.declared.numbers.TheConstants.{NUMBERS}
use Rattle.draid_names.specs.declared.pointer.Pointer.{Pointer}
use Rattle.draid_rack.specs.declared.Rack as racks
use Rattle.draid_area.specs.declared.Area as areas
use Rattle.draid_machine.specs.declared.names.Stage.TheVariants.{Freed, Live}
use Rattle.draid_machine.proofs.Small.{some_injective}
use Rattle.draid_entries.specs.declared.entry.Entry.{Entry}
use Rattle.draid_entries.specs.Entries.{entry_at}
use Rattle.draid_entries.specs.Maps.{key_of, staged}
use Rattle.draid_machine.specs.declared.event.Event.TheVariants.{Free}
use Rattle.draid_shard.specs.Calls.{SameKit, SameReserve}
use Rattle.draid_shard.specs.Changes.{SetsBlock}
use Rattle.draid_shard.specs.Fits.{Valid}
use Rattle.draid_shard.specs.Looks.{IsLive, IsNextHeld}
use Rattle.draid_shard.specs.States.{Does, part_of}
use Rattle.draid_shard.specs.declared.shard.Shard.{Shard}
use Rattle.draid_pool.proofs.Lists.{get_set_other, get_set_same, set_back, set_twice, some_of}
use Rattle.draid_pool.proofs.Freed.{frees}
use Rattle.draid_rewinds.specs.Sweeps.{FreesAll, FreesIfOther, FreesOne, FreesOthers, FreesOthersIn, FreesThese, HasOnly, IsOpenIn}

pub freed_now : {R A : Type 0} (rack : racks.Ghosts R) (area : areas.Ghosts A) (table : ℕ → Option Pointer) (p : Pointer) (group own : ℕ) (old new : Shard R A) → IsOpenIn rack group old → IsLive old p → (table p.object ≡ Some p → ⊥)
    → Valid rack new → SameKit old new → SameReserve old new → own ≡ max old.open_group group → Does old new (Free (key_of p) own) → SetsBlock old new p (Some (staged (Freed own) p)) → FreesOne rack area table group p old new
freed_now rack area table p group own old new is live other valid kit reserve own_is does sets = record {
  open_ = record { valid = valid; is_open = sets.groups.open_group_is ∙ is.is_open; low = is.low };
  live = live;
  other = other;
  part = does.part;
  kit = kit;
  sets = subst (λ k. SetsBlock old new p (Some (staged (Freed k) p))) same sets;
  frees = frees rack area old new p group group valid kit reserve (sym same ∙ own_is) (subst (λ k. Does old new (Free (key_of p) k)) same does) is.low live;
}
  where
    same : own ≡ group
    same = (let at = is.is_open in omega (arith, own_is, at))

pub one_at_most : {R A : Type 0} (rack : racks.Ghosts R) (area : areas.Ghosts A) (table : ℕ → Option Pointer) (p : Pointer) (group : ℕ) (old : Shard R A) (freed : ℕ) (new : Shard R A) → FreesIfOther rack area table p group old freed new → freed ≤ 1
one_at_most rack area table p group old freed new (inl one) = (let is = one.0 in omega (arith, is))
one_at_most rack area table p group old freed new (inr none) = (let is = none.0 in omega (arith, is))

module _ {R A : Type 0} (rack : racks.Ghosts R) (area : areas.Ghosts A) (table : ℕ → Option Pointer) (group : ℕ) where
  -- ---- one metaslab

  these_part : (ps : List Pointer) (old new : Shard R A) → FreesThese rack area table group ps old new → part_of new ≡ part_of old
  these_part [] old new same = ap part_of same
  these_part (p ∷ ps) old new (mid, rest, one) = one.part ∙ these_part ps old mid rest

  -- below a place the table leads to each live block
  abbrev OnlyBelow : ℕ → Shard R A → Type 0
  OnlyBelow from shard = (first : ℕ) (e : Entry) → first < from → entry_at shard.entries first ≡ Some e → e.stage ≡ Live → table e.pointer.object ≡ Some e.pointer

  -- the blocks below a place were looked at
  pub record Sweeping (from freed : ℕ) (old now : Shard R A) : Type 0 where
    pub open_ : IsOpenIn rack group now
    pub part : part_of now ≡ part_of old
    pub pointers : List Pointer
    pub many : freed ≡ length pointers
    pub few : freed ≤ from
    pub bound : from ≤ NUMBERS
    pub are : FreesThese rack area table group pointers old now
    pub only : OnlyBelow from now

  pub sweeping_none : (shard : Shard R A) → IsOpenIn rack group shard → Sweeping 0 0 shard shard
  sweeping_none shard is = record {
    open_ = is;
    part = refl;
    pointers = [];
    many = refl;
    few = omega arith;
    bound = omega arith;
    are = refl;
    only = λ first e below there live. absurd (omega (arith, below));
  }

  -- what was found at a place below the next
  only_on : (from : ℕ) (mid : Shard R A) (p : Pointer) → IsNextHeld mid from p → OnlyBelow from mid → (first : ℕ) (e : Entry) → first < p.first + 1 → entry_at mid.entries first ≡ Some e → e.stage ≡ Live → (first ≡ p.first → ⊥)
      → table e.pointer.object ≡ Some e.pointer
  only_on from mid p next below first e low there live other = elim (cases_lt first from) [
    | inl less ↦ below first e less there live
    | inr past ↦ (let none = next.first first past (omega (arith, low, other)) in absurd (cc))
  ]

  freed_not : (p : Pointer) (e : Entry) → Some (staged (Freed group) p) ≡ Some e → e.stage ≡ Live → ⊥
  freed_not p e same live =
      let stage = sym (ap (λ (x : Entry). x.stage) (some_injective (staged (Freed group) p) e same)) in
      let both = sym live ∙ stage in
      absurd (cc)

  set_there : (p : Pointer) (first : ℕ) (old new : Option Entry) → new ≡ (if first == p.first then Some (staged (Freed group) p) else old) → first ≡ p.first → new ≡ Some (staged (Freed group) p)
  set_there p first old new sets same = grind (arith, nat_tests, sets, same)

  set_not : (p : Pointer) (first : ℕ) (old new : Option Entry) → new ≡ (if first == p.first then Some (staged (Freed group) p) else old) → (first ≡ p.first → ⊥) → new ≡ old
  set_not p first old new sets other = grind (arith, nat_tests, sets, other)

  pub sweeping_more : (from freed more : ℕ) (old mid new : Shard R A) (p : Pointer) → IsNextHeld mid from p → p.first < NUMBERS → Sweeping from freed old mid → FreesIfOther rack area table p group mid more new
      → Sweeping (p.first + 1) (freed + more) old new
  sweeping_more from freed more old mid new p next low s (inl (one, f)) = record {
    open_ = f.open_;
    part = f.part ∙ s.part;
    pointers = p ∷ s.pointers;
    many = (let many = s.many in omega (arith, many, one));
    few = (let few = s.few in let behind = next.behind in omega (arith, few, behind, one));
    bound = omega (arith, low);
    are = (mid, s.are, f);
    only = λ first e below there live. elim (cases_eq first p.first) [
      | inl at ↦ absurd (freed_not p e (sym (set_there p first (entry_at mid.entries first) (entry_at new.entries first) (f.sets.entry.at first) at) ∙ there) live)
      | inr other ↦
          let differ : first ≡ p.first → ⊥ = (λ same. omega (arith, same, other)) in
          only_on from mid p next s.only first e below (sym (set_not p first (entry_at mid.entries first) (entry_at new.entries first) (f.sets.entry.at first) differ) ∙ there) live differ
    ];
  }
  sweeping_more from freed more old mid new p next low s (inr (none, same, own)) = subst (Sweeping (p.first + 1) (freed + more) old) (sym same) (record {
    open_ = s.open_;
    part = s.part;
    pointers = s.pointers;
    many = (let many = s.many in omega (arith, many, none));
    few = (let few = s.few in let behind = next.behind in omega (arith, few, behind, none));
    bound = omega (arith, low);
    are = s.are;
    only = λ first e below there live. elim (cases_eq first p.first) [
      | inl at ↦
          let here : entry_at mid.entries p.first ≡ Some e = ap (entry_at mid.entries) (sym at) ∙ there in
          let is : e ≡ staged next.entered.stage p = some_of (entry_at mid.entries p.first) e (staged next.entered.stage p) here next.entered.there in
          let stage : next.entered.stage ≡ Live = sym (ap (λ (x : Entry). x.stage) is) ∙ live in
          let alive : IsLive mid p = next.entered.there ∙ ap (λ k. Some (staged k p)) stage in
          subst (λ (q : Pointer). table q.object ≡ Some q) (sym (ap (λ (x : Entry). x.pointer) is)) (own alive)
      | inr other ↦ only_on from mid p next s.only first e below there live (λ same. omega (arith, same, other))
    ];
  })

  pub sweeping_all : (from freed : ℕ) (old now : Shard R A) → ((first : ℕ) → from ≤ first → entry_at now.entries first ≡ None) → Sweeping from freed old now → FreesOthersIn rack area table group old freed now
  sweeping_all from freed old now none s = record {
    open_ = s.open_;
    pointers = s.pointers;
    many = s.many;
    few = (let few = s.few in let bound = s.bound in omega (arith, few, bound));
    are = s.are;
    only = λ first e there live. elim (cases_lt first from) [
      | inl less ↦ s.only first e less there live
      | inr past ↦ (let empty = none first past in absurd (cc))
    ];
  }

  -- ---- all metaslabs

  abbrev in_metaslab : ℕ → List Pointer → List (ℕ × Pointer)
  in_metaslab m ps = map (λ p. (m, p)) ps

  -- those of one more
  all_more : (ds : List (ℕ × Pointer)) (ps : List Pointer) (old mid : List (Shard R A)) (m : ℕ) (shard shard' : Shard R A) → FreesAll rack area table group ds old mid → slice_get mid m ≡ Some shard
      → FreesThese rack area table group ps shard shard' → FreesAll rack area table group (in_metaslab m ps ++ ds) old (slice_set mid m shard')
  all_more ds [] old mid m shard shard' all there same = subst (FreesAll rack area table group ds old) (sym (ap (slice_set mid m) same ∙ set_back mid m shard there)) all
  all_more ds (p ∷ ps) old mid m shard shard' all there (between, rest, one) = (
    slice_set mid m between,
    between,
    shard',
    all_more ds ps old mid m shard between all there rest,
    get_set_same mid m shard between there,
    one,
    sym (set_twice mid m between shard'),
  )

  -- the metaslabs below a number were gone through
  pub record SweepingAll (n freed : ℕ) (old now : List (Shard R A)) : Type 0 where
    pub blocks : List (ℕ × Pointer)
    pub many : freed ≡ length blocks
    pub few : freed ≤ n * NUMBERS
    pub long : length now ≡ length old
    pub are : FreesAll rack area table group blocks old now
    pub only : (m : ℕ) (shard : Shard R A) → m < n → slice_get now m ≡ Some shard → HasOnly table shard
    pub left : (m : ℕ) → n ≤ m → slice_get now m ≡ slice_get old m

  pub all_none : (shards : List (Shard R A)) → SweepingAll 0 0 shards shards
  all_none shards = record {
    blocks = [];
    many = refl;
    few = omega arith;
    long = refl;
    are = refl;
    only = λ m shard below there. absurd (omega (arith, below));
    left = λ m past. refl;
  }

  pub all_step : (n freed more : ℕ) (old mid : List (Shard R A)) (shard shard' : Shard R A) → slice_get mid n ≡ Some shard → SweepingAll n freed old mid → FreesOthersIn rack area table group shard more shard'
      → SweepingAll (n + 1) (freed + more) old (slice_set mid n shard')
  all_step n freed more old mid shard shard' there s f = record {
    blocks = in_metaslab n f.pointers ++ s.blocks;
    many = (let a = s.many in let b = f.many in let both = length-append (in_metaslab n f.pointers) s.blocks in let each : length (in_metaslab n f.pointers) ≡ length f.pointers = length-map {B = ℕ × Pointer} f.pointers (λ p. (n, p)) in omega (arith, a, b, both, each));
    few = (let a = s.few in let b = f.few in omega (arith, a, b));
    long = length-set mid n shard' ∙ s.long;
    are = all_more s.blocks f.pointers old mid n shard shard' s.are there f.are;
    only = λ m z below at. elim (cases_eq m n) [
      | inl same ↦
          let is : shard' ≡ z = some_of (slice_get (slice_set mid n shard') n) shard' z (get_set_same mid n shard shard' there) (subst (λ (k : ℕ). slice_get (slice_set mid n shard') k ≡ Some z) same at) in
          subst (HasOnly table) is f.only
      | inr other ↦ s.only m z (omega (arith, below, other)) (sym (get_set_other mid n m shard' (λ same. omega (arith, same, other))) ∙ at)
    ];
    left = λ m past. get_set_other mid n m shard' (λ same. omega (arith, same, past)) ∙ s.left m (omega (arith, past));
  }

  pub all_ends : (n freed : ℕ) (old now : List (Shard R A)) → length old ≤ n → SweepingAll n freed old now → FreesOthers rack area table group old freed now
  all_ends n freed old now end s = record {
    blocks = s.blocks;
    many = s.many;
    are = s.are;
    only = λ m shard at. s.only m shard (let within = slice_get_within now m shard at in let long = s.long in omega (arith, within, long, end)) at;
  }
