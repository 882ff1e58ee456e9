-- What frees of blocks do to the state for whose metaslabs the shards stand, one after another.
use Rattle.std.proofs.Common.{arith, ◌≡◌, ◌+◌, ◌++◌, ◌∙◌, ◌⊎◌, inl, inr, ℕ, suc, Bool, true, false, List, [], ◌∷◌, Option, Some, refl, sym, ap, subst, slice_set, length}
use Rattle.std.specs.Prelude.{⊤, None, option_map, slice_get}
use Rattle.std.proofs.lemmas.Bool.{cases_eq}
use Rattle.std.proofs.lemmas.List.{length-append, length-set}
use Rattle.std.proofs.lemmas.Option.{slice_get_within}
use Rattle.draid_names.specs.declared.pointer.Pointer.{Pointer}
use Rattle.draid_rack.specs.declared.Rack as racks
use Rattle.draid_area.specs.declared.Area as areas
use Rattle.draid_machine.specs.declared.event.Event.TheVariants as event
use Rattle.draid_machine.specs.declared.names.Held.{Held}
use Rattle.draid_machine.specs.declared.names.Key.{Key}
use Rattle.draid_machine.specs.declared.names.Stage.TheVariants.{Freed, Live}
use Rattle.draid_segments.specs.Segments.{Pieces}
use Rattle.draid_objects.specs.Blocks.{Blocks, Sets, table_of}
use Rattle.draid_objects.specs.Rewinds.{FreesThose, freed_in}
use Rattle.draid_objects.proofs.One.{one_set}
use Rattle.draid_objects.proofs.Sealing.{set_cases}
use Rattle.draid_entries.specs.Maps.{held_at, key_of, staged}
use Rattle.draid_shard.specs.Part.{Part}
use Rattle.draid_shard.specs.declared.shard.Shard.{Shard}
use Rattle.draid_shard.proofs.Held.{held_entry}
use Rattle.draid_session.specs.Discarding.{FreesKey}
use Rattle.draid_session.specs.Follows.{Follows}
use Rattle.draid_session.specs.Holds.{Did, Hold, On, View}
use Rattle.draid_session.specs.State.{Metaslab, State}
use Rattle.draid_pool.specs.Metaslabs.{IsMetaslab}
use Rattle.draid_pool.specs.Objects.{blocks_of, worlds_of}
use Rattle.draid_pool.specs.Pools.{part_in}
use Rattle.draid_pool.specs.Shards.{FreesIn, Goes, KeepsImages}
use Rattle.draid_pool.proofs.Imaged.{keeps_same, keeps_then}
use Rattle.draid_pool.proofs.Lists.{get_set_other, get_set_same, present, some_of}
use Rattle.draid_pool.proofs.Lives.{held_by}
use Rattle.draid_pool.proofs.Moved.{blocks_at, follows_one, moves_one}
use Rattle.draid_pool.proofs.Steps.{follows_on}
use Rattle.draid_rewinds.specs.Sweeps.{FreesAll, FreesOne, FreesOthers}

-- ---- holds

-- a live block that passes a test is there
abbrev pub IsTested : (Key → Held → Bool) → View → Key → Type 0
IsTested test v key = (h : Held) × (v.world.core.held key ≡ Some h) × (h.stage ≡ Live) × (test key h ≡ true)

-- such blocks are freed in a group, one after another
abbrev pub FreesTested : (Key → Held → Bool) → ℕ → List Hold → Type 0
FreesTested test group [] = ⊤
FreesTested test group (On v (Did (event.Free key freed) after) ∷ holds) = (freed ≡ group) × IsTested test v key × FreesTested test group holds
FreesTested test group (hold ∷ holds) = ⊥

tested_more : (test : Key → Held → Bool) (group : ℕ) (holds more : List Hold) → FreesTested test group holds → FreesTested test group more → FreesTested test group (holds ++ more)
tested_more test group [] more frees next = next
tested_more test group (On v (Did (event.Free key freed) after) ∷ holds) more frees next = (frees.0, frees.1, tested_more test group holds more frees.2 next)
tested_more test group (hold ∷ holds) more frees next = absurd frees

key_left : (key : Key) (holds more : List Hold) → FreesKey key holds → FreesKey key (holds ++ more)
key_left key [] more frees = absurd frees
key_left key (On v (Did (event.Free k freed) after) ∷ holds) more (inl here) = inl here
key_left key (On v (Did (event.Free k freed) after) ∷ holds) more (inr later) = inr (key_left key holds more later)
key_left key (hold ∷ holds) more frees = key_left key holds more frees

key_right : (key : Key) (holds more : List Hold) → FreesKey key more → FreesKey key (holds ++ more)
key_right key [] more frees = frees
key_right key (On v (Did (event.Free k freed) after) ∷ holds) more frees = inr (key_right key holds more frees)
key_right key (hold ∷ holds) more frees = key_right key holds more frees

-- ---- metaslabs

-- what a metaslab keeps through the frees of its blocks
pub record Since (y z : Metaslab) : Type 0 where
  pub images : KeepsImages y.world z.world
  pub committed : z.world.committed ≡ y.world.committed
  pub open_group_is : z.world.open_group ≡ y.world.open_group

since_same : (y : Metaslab) → Since y y
since_same y = record { images = keeps_same y.world; committed = refl; open_group_is = refl }

since_then : (x y z : Metaslab) → Since x y → Since y z → Since x z
since_then x y z a b = record { images = keeps_then x.world y.world z.world a.images b.images; committed = b.committed ∙ a.committed; open_group_is = b.open_group_is ∙ a.open_group_is }

-- a live block that passes the test was freed in a group
pub record FreedAt (test : Key → Held → Bool) (group : ℕ) (old new : Blocks) (holds : List Hold) (m : ℕ) (k : Key) : Type 0 where
  pub h : Held
  pub was : old m k ≡ Some h
  pub live : h.stage ≡ Live
  pub tested : test k h ≡ true
  pub is : new m k ≡ Some (freed_in group h)
  pub freed : FreesKey k holds

both_tests : (b : Bool) → b ≡ true → b ≡ false → ⊥
both_tests true yes_is no_is = absurd (cc)
both_tests false yes_is no_is = absurd (cc)

-- a metaslab that holds a block is there
pub metaslab_at : (ys : List Metaslab) (m : ℕ) (k : Key) (h : Held) → blocks_of ys m k ≡ Some h → (y : Metaslab) × (slice_get ys m ≡ Some y)
metaslab_at ys m k h there = by (slice_get ys m) refl there
  where
    by : (o : Option Metaslab) → slice_get ys m ≡ o → table_of (option_map (λ (z : Metaslab). z.world) o) k ≡ Some h → (y : Metaslab) × (slice_get ys m ≡ Some y)
    by None is found = absurd (cc)
    by (Some y) is found = (y, is)

-- A test says of the live blocks of a state to which a table leads: it passes those alone to which it doesn't.
pub record IsTestOf (test : Key → Held → Bool) (table : ℕ → Option Pointer) (blocks : Blocks) : Type 0 where
  pub others : (m : ℕ) (p : Pointer) → p.metaslab ≡ m → blocks m (key_of p) ≡ Some (held_at (staged Live p)) → (table p.object ≡ Some p → ⊥) → test (key_of p) (held_at (staged Live p)) ≡ true
  pub own : (m : ℕ) (p : Pointer) → p.metaslab ≡ m → blocks m (key_of p) ≡ Some (held_at (staged Live p)) → table p.object ≡ Some p → test (key_of p) (held_at (staged Live p)) ≡ false

freed_lives : (group : ℕ) (h : Held) (o : Option Held) (z : Held) → o ≡ Some (freed_in group h) → o ≡ Some z → z.stage ≡ Live → ⊥
freed_lives group h o z freed there live =
    let same : freed_in group h ≡ z = some_of o (freed_in group h) z freed there in
    let stage : Freed group ≡ Live = ap (λ (y : Held). y.stage) same ∙ live in
    absurd (cc)

module _ {R A : Type 0} (rack : racks.Ghosts R) (area : areas.Ghosts A) where
  -- the shards stand for the metaslabs of a state
  pub record StandsAll (x : State) (pieces : ℕ → Pieces) (shards : List (Shard R A)) (metaslabs : List Metaslab) : Type 0 where
    pub shards_are : length shards ≡ length metaslabs
    pub each : (m : ℕ) (shard : Shard R A) (y : Metaslab) → slice_get shards m ≡ Some shard → slice_get metaslabs m ≡ Some y → IsMetaslab rack area (part_in x m) (pieces m) shard y

  module _ (table : ℕ → Option Pointer) (group : ℕ) (test : Key → Held → Bool) (x : State) (pieces : ℕ → Pieces) where
    -- so they do behind some frees
    pub record Swept (new : List (Shard R A)) (many : ℕ) : Type 0 where
      pub holds : List Hold
      pub metaslabs : List Metaslab
      pub follows : Follows holds x (record x { metaslabs = metaslabs })
      pub frees : FreesTested test group holds
      pub count : length holds ≡ many
      pub long : length metaslabs ≡ length x.metaslabs
      pub stands : StandsAll x pieces new metaslabs
      pub since : (m : ℕ) (z : Metaslab) → slice_get metaslabs m ≡ Some z → (y : Metaslab) × (slice_get x.metaslabs m ≡ Some y) × Since y z
      pub blocks : (m : ℕ) (k : Key) → (blocks_of metaslabs m k ≡ blocks_of x.metaslabs m k) ⊎ FreedAt test group (blocks_of x.metaslabs) (blocks_of metaslabs) holds m k

    swept_none : (shards : List (Shard R A)) → StandsAll x pieces shards x.metaslabs → Swept shards 0
    swept_none shards stands = record {
      holds = [];
      metaslabs = x.metaslabs;
      follows = refl;
      frees = tt;
      count = refl;
      long = refl;
      stands = stands;
      since = λ m z there. (z, there, since_same z);
      blocks = λ m k. inl refl;
    }

    module _ (told : IsTestOf test table (blocks_of x.metaslabs)) (many : ℕ) (mid : List (Shard R A)) (s : Swept mid many) (m : ℕ) (p : Pointer) (before after : Shard R A) (there : slice_get mid m ≡ Some before)
        (one : FreesOne rack area table group p before after) where
      abbrev y_there : (y : Metaslab) × (slice_get s.metaslabs m ≡ Some y)
      y_there = (let within = slice_get_within mid m before there in let long = s.stands.shards_are in present s.metaslabs m (omega (arith, within, long)))

      abbrev y : Metaslab
      y = y_there.0

      at : slice_get s.metaslabs m ≡ Some y
      at = y_there.1

      is_at : IsMetaslab rack area (part_in x m) (pieces m) before y
      is_at = s.stands.each m before y there at

      abbrev g : Goes rack area (part_in x m) (pieces m) y after (FreesIn m p group group y)
      g = one.frees (part_in x m) (pieces m) y is_at

      abbrev z : Metaslab
      z = g.reached

      abbrev k : Key
      k = key_of p

      here : p.metaslab ≡ m
      here = is_at.valid.here.each p.first (staged Live p) one.live ∙ ap (λ (q : Part). q.number) is_at.part_is

      now_there : blocks_of s.metaslabs m k ≡ Some (held_at (staged Live p))
      now_there = blocks_at s.metaslabs m y k at ∙ held_by before y.world p is_at.stands.is_in one.live

      held_is : g.done.held ≡ held_at (staged Live p)
      held_is = some_of (blocks_of s.metaslabs m k) g.done.held (held_at (staged Live p)) (blocks_at s.metaslabs m y k at ∙ g.done.found) now_there

      -- it was so from the beginning
      was_there : blocks_of x.metaslabs m k ≡ Some (held_at (staged Live p))
      was_there = elim (s.blocks m k) [
        | inl same ↦ sym same ∙ now_there
        | inr freed ↦ absurd (freed_lives group freed.h (blocks_of s.metaslabs m k) (held_at (staged Live p)) freed.is now_there refl)
      ]

      passes : test k (held_at (staged Live p)) ≡ true
      passes = told.others m p here was_there one.other

      abbrev ys : List Metaslab
      ys = slice_set s.metaslabs m z

      set : Sets (blocks_of s.metaslabs) (blocks_of ys) m k (Some (freed_in group g.done.held))
      set = one_set (worlds_of s.metaslabs) (worlds_of ys) m y.world z.world (moves_one s.metaslabs m y z at) k (Some (freed_in group g.done.held)) g.done.made

      stands_then : StandsAll x pieces (slice_set mid m after) ys
      stands_then = record {
        shards_are = length-set mid m after ∙ (s.stands.shards_are ∙ sym (length-set s.metaslabs m z));
        each = λ n shard v a b. elim (cases_eq n m) [
          | inl is ↦
              let own : after ≡ shard = some_of (slice_get (slice_set mid m after) m) after shard (get_set_same mid m before after there) (subst (λ j. slice_get (slice_set mid m after) j ≡ Some shard) is a) in
              let now : z ≡ v = some_of (slice_get ys m) z v (get_set_same s.metaslabs m y z at) (subst (λ j. slice_get ys j ≡ Some v) is b) in
              subst (λ j. IsMetaslab rack area (part_in x j) (pieces j) shard v) (sym is)
              (subst (λ q. IsMetaslab rack area (part_in x m) (pieces m) q v) own (subst (λ q. IsMetaslab rack area (part_in x m) (pieces m) after q) now g.is))
          | inr other ↦
              let differ : n ≡ m → ⊥ = (λ is. omega (arith, is, other)) in
              s.stands.each n shard v (sym (get_set_other mid m n after differ) ∙ a) (sym (get_set_other s.metaslabs m n z differ) ∙ b)
        ];
      }

      since_then_at : (n : ℕ) (v : Metaslab) → slice_get ys n ≡ Some v → (w : Metaslab) × (slice_get x.metaslabs n ≡ Some w) × Since w v
      since_then_at n v b = elim (cases_eq n m) [
        | inl is ↦
            let now : z ≡ v = some_of (slice_get ys m) z v (get_set_same s.metaslabs m y z at) (subst (λ j. slice_get ys j ≡ Some v) is b) in
            let was = s.since m y at in
            let step : Since y z = record { images = g.images; committed = g.done.committed; open_group_is = g.done.open_group_is } in
            (was.0, subst (λ j. slice_get x.metaslabs j ≡ Some was.0) (sym is) was.1, subst (Since was.0) now (since_then was.0 y z was.2 step))
        | inr other ↦ s.since n v (sym (get_set_other s.metaslabs m n z (λ is. omega (arith, is, other))) ∙ b)
      ]

      holds_then : List Hold
      holds_then = s.holds ++ g.holds

      one_hold : FreesTested test group g.holds
      one_hold = subst (FreesTested test group) (sym g.done.are) (refl, (held_at (staged Live p), g.done.found ∙ ap Some held_is, refl, passes), tt)

      own_key : FreesKey k g.holds
      own_key = subst (FreesKey k) (sym g.done.are) (inl refl)

      blocks_then : (n : ℕ) (j : Key) → (blocks_of ys n j ≡ blocks_of x.metaslabs n j) ⊎ FreedAt test group (blocks_of x.metaslabs) (blocks_of ys) (s.holds ++ g.holds) n j
      blocks_then n j = elim (set_cases (blocks_of s.metaslabs) (blocks_of ys) m k (Some (freed_in group g.done.held)) set n j) [
        | inl hit ↦ inr (record {
          h = held_at (staged Live p);
          was = subst (λ i. blocks_of x.metaslabs n i ≡ Some (held_at (staged Live p))) hit.1 (subst (λ i. blocks_of x.metaslabs i k ≡ Some (held_at (staged Live p))) hit.0 was_there);
          live = refl;
          tested = subst (λ i. test i (held_at (staged Live p)) ≡ true) hit.1 passes;
          is = hit.2 ∙ ap (λ h. Some (freed_in group h)) held_is;
          freed = subst (λ i. FreesKey i (s.holds ++ g.holds)) hit.1 (key_right k s.holds g.holds own_key);
        })
        | inr miss ↦ elim (s.blocks n j) [
          | inl same ↦ inl (miss.0 ∙ same)
          | inr freed ↦ inr (record { h = freed.h; was = freed.was; live = freed.live; tested = freed.tested; is = miss.0 ∙ freed.is; freed = key_left j s.holds g.holds freed.freed })
        ]
      ]

      one_count : length g.holds ≡ 1
      one_count = ap (λ hs. length hs) g.done.are

      pub swept_more : Swept (slice_set mid m after) (many + 1)
      swept_more = record {
        holds = s.holds ++ g.holds;
        metaslabs = ys;
        follows = follows_on s.holds g.holds x (record x { metaslabs = s.metaslabs }) (record x { metaslabs = ys }) s.follows (follows_one m g.holds (record x { metaslabs = s.metaslabs }) y z at g.follows);
        frees = tested_more test group s.holds g.holds s.frees one_hold;
        count = (let a = s.count in let b = one_count in let both = length-append s.holds g.holds in omega (arith, a, b, both));
        long = length-set s.metaslabs m z ∙ s.long;
        stands = stands_then;
        since = since_then_at;
        blocks = blocks_then;
      }

    one_on : (n : ℕ) → n + 1 ≡ suc n
    one_on n = omega arith

    -- all of them
    swept_all : IsTestOf test table (blocks_of x.metaslabs) → (ds : List (ℕ × Pointer)) (old new : List (Shard R A)) → StandsAll x pieces old x.metaslabs → FreesAll rack area table group ds old new → Swept new (length ds)
    swept_all told [] old new stands same = subst (λ zs. Swept zs 0) (sym same) (swept_none old stands)
    swept_all told (d ∷ ds) old new stands (mid, before, after, rest, there, one, is) =
        subst (λ zs. Swept zs (suc (length ds))) (sym is) (subst (Swept (slice_set mid d.0 after)) (one_on (length ds))
        (swept_more told (length ds) mid (swept_all told ds old mid stands rest) d.0 d.1 before after there one))

    -- The live blocks that pass the test were freed, and none else.
    pub record SweptAll (new : List (Shard R A)) (many : ℕ) : Type 0 where
      pub swept : Swept new many
      pub those : FreesThose test group (blocks_of x.metaslabs) (blocks_of swept.metaslabs)
      pub keys : (m : ℕ) (k : Key) (h : Held) → blocks_of x.metaslabs m k ≡ Some h → h.stage ≡ Live → test k h ≡ true → FreesKey k swept.holds

    pub swept_whole : IsTestOf test table (blocks_of x.metaslabs) → (old new : List (Shard R A)) (many : ℕ) → StandsAll x pieces old x.metaslabs → FreesOthers rack area table group old many new → SweptAll new many
    swept_whole told old new many stands f = record { swept = s; those = those; keys = keys }
      where
        s : Swept new many
        s = subst (Swept new) (sym f.many) (swept_all told f.blocks old new stands f.are)

        -- what is live yet is its object's
        kept : (m : ℕ) (k : Key) (h : Held) → blocks_of s.metaslabs m k ≡ blocks_of x.metaslabs m k → blocks_of x.metaslabs m k ≡ Some h → h.stage ≡ Live → test k h ≡ false
        kept m k h same there live =
            let v = metaslab_at s.metaslabs m k h (same ∙ there) in
            let within = slice_get_within s.metaslabs m v.0 v.1 in
            let long = s.stands.shards_are in
            let shard = present new m (omega (arith, within, long)) in
            let is = s.stands.each m shard.0 v.0 shard.1 v.1 in
            let e = held_entry shard.0.entries k h (sym (is.stands.is_in.held k) ∙ (sym (blocks_at s.metaslabs m v.0 k v.1) ∙ (same ∙ there))) in
            let stage : e.e.stage ≡ Live = ap (λ (z : Held). z.stage) e.held_is ∙ live in
            let leads : table e.e.pointer.object ≡ Some e.e.pointer = f.only m shard.0 shard.1 h.first e.e e.there stage in
            let staged_is : held_at (staged Live e.e.pointer) ≡ h = ap (λ t. held_at (staged t e.e.pointer)) (sym stage) ∙ e.held_is in
            let number : e.e.pointer.metaslab ≡ m = is.valid.here.each h.first e.e e.there ∙ ap (λ (q : Part). q.number) is.part_is in
            let at : blocks_of x.metaslabs m (key_of e.e.pointer) ≡ Some (held_at (staged Live e.e.pointer)) = ap (blocks_of x.metaslabs m) e.key_is ∙ (there ∙ ap Some (sym staged_is)) in
            ap (λ j. test j h) (sym e.key_is) ∙ (ap (test (key_of e.e.pointer)) (sym staged_is) ∙ told.own m e.e.pointer number at leads)

        those : FreesThose test group (blocks_of x.metaslabs) (blocks_of s.metaslabs)
        those m k = elim (s.blocks m k) [
          | inl same ↦ inr (same, λ h there live. kept m k h same there live)
          | inr freed ↦ inl (freed.h, freed.was, freed.live, freed.tested, freed.is)
        ]

        keys : (m : ℕ) (k : Key) (h : Held) → blocks_of x.metaslabs m k ≡ Some h → h.stage ≡ Live → test k h ≡ true → FreesKey k s.holds
        keys m k h there live passes = elim (s.blocks m k) [
          | inl same ↦ absurd (both_tests (test k h) passes (kept m k h same there live))
          | inr freed ↦ freed.freed
        ]
