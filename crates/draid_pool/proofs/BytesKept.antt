-- Blocks that had bytes have them behind a hold.
use Rattle.std.proofs.Common.{◌≤◌, arith, ne_eqb, ◌≡◌, ◌∙◌, ◌&&◌, ◌⊎◌, inl, inr, ℕ, Bool, true, false, List, Option, Some, None, refl, sym, ap, subst, not, if◌then◌else◌}
use Rattle.std.proofs.lemmas.Bool.{true≢false}
use Rattle.std.specs.Prelude.{⊤, IsSome, nat_le}
use Rattle.draid_names.specs.declared.numbers.TheConstants.{OBJECTS}
use Rattle.draid_names.specs.declared.pointer.Pointer.{Pointer}
use Rattle.draid_rack.specs.Rack.{OnTold, Told}
use Rattle.draid_rack.specs.declared.Rack as racks
use Rattle.draid_area.specs.declared.Area as areas
use Rattle.draid_spec.specs.declared.layout.Geometry.{Geometry}
use Rattle.draid_machine.specs.declared.event.Event.{Event}
use Rattle.draid_machine.specs.declared.event.Event.TheVariants.{Begin, Put, Finish, Abort, Free, Fetch, Damage, Offline, Online, Attach, Detach, Upgrade, Close, Seal, Commit, Plan, Ready, Lend, LandStripe, LandBlock, Done, Cancel, Reopen}
use Rattle.draid_machine.specs.declared.names.Held.{Held}
use Rattle.draid_machine.specs.declared.names.Key.{Key}
use Rattle.draid_machine.specs.declared.names.Segment.{Segment}
use Rattle.draid_machine.specs.declared.names.Stage.{Stage}
use Rattle.draid_machine.specs.declared.names.Stage.TheVariants as stage
use Rattle.draid_machine.specs.After.{is_freed_block, keep_if, seal_held, set_held}
use Rattle.draid_machine.specs.Names.{is_block, is_freed_by, key_eq}
use Rattle.draid_machine.specs.State as machine
use Rattle.draid_machine.specs.Step.{Step}
use Rattle.draid_entries.specs.Entries.{held_in}
use Rattle.draid_entries.specs.Maps.{key_of}
use Rattle.draid_machine.proofs.Small.{bool_cases, both_true, key_refl, key_true, some_injective}
use Rattle.draid_objects.specs.Blocks.{DoesToBlocks, SameBlocks, Table, is_block_in, without_freed}
use Rattle.draid_objects.proofs.Moving.{blocks_moved}
use Rattle.draid_segments.specs.Segments.{Backed, Pieces, piece_of, reads_at}
use Rattle.draid_segments.proofs.Backing.{read_as}
use Rattle.draid_session.specs.Follows.{MetaslabActs}
use Rattle.draid_session.specs.Holds.{Act, AreaFailed, CallStarved, Did, Looked, MadeLeaf, RackFailed, Reserved}
use Rattle.draid_session.specs.State.{Metaslab}
use Rattle.draid_shard.specs.Part.{Part, layout_in}
use Rattle.draid_shard.specs.States.{layout_by, part_of}
use Rattle.draid_shard.specs.declared.shard.Shard.{Shard}
use Rattle.draid_shard.proofs.Held.{held_entry}
use Rattle.draid_shard.proofs.Standing.{has_layout}
use Rattle.draid_pool.specs.Bytes.{HasBytes, HaveBytes}
use Rattle.draid_pool.specs.Drifts.{GoesWithBytes, KeepsBytes, KeepsTo, is_other}
use Rattle.draid_pool.specs.Metaslabs.{IsMetaslab}
use Rattle.draid_pool.specs.Shards.{FollowsIn, FreesIn, Goes}
use Rattle.draid_pool.proofs.Bytes.{same_bytes, staged_bytes}
use Rattle.draid_pool.proofs.Dids.{Done as DoneBy}
use Rattle.draid_pool.proofs.ShardSteps.{acts_one, acts_since}
use Rattle.draid_pool.proofs.Since.{since_self}

-- ---- tables

-- so have all blocks of a table
abbrev pub TableHas : Geometry → Pieces → Table → Type 0
TableHas geometry pieces table = (key : Key) (h : Held) → table key ≡ Some h → is_block h.stage ≡ true → HasBytes geometry h key pieces

-- the ticket that an event ends has bytes of its length and digest
abbrev pub EndsWithBytes : Geometry → Pieces → Table → Event → Type 0
EndsWithBytes geometry pieces table (Finish key) = (h : Held) → table key ≡ Some h → HasBytes geometry h key pieces
EndsWithBytes geometry pieces table e = ⊤

-- what an act ends as a block has bytes
abbrev pub ActEnds : Geometry → Pieces → Table → Act → Type 0
ActEnds geometry pieces table (Did e w) = EndsWithBytes geometry pieces table e
ActEnds geometry pieces table act = ⊤

staged_has : (geometry : Geometry) (h g : Held) (s : Stage) (key : Key) (pieces : Pieces) → record h { stage = s } ≡ g → HasBytes geometry h key pieces → HasBytes geometry g key pieces
staged_has geometry h g s key pieces same has = subst (λ (i : Held). HasBytes geometry i key pieces) same (staged_bytes geometry h s key pieces has)

module _ (geometry : Geometry) (pieces : Pieces) where
  same_has : (old new : Table) → SameBlocks old new → TableHas geometry pieces old → TableHas geometry pieces new
  same_has old new same has key h at block = elim (same key) [
    | inl e ↦ has key h (sym e ∙ at) block
    | inr e ↦ absurd (let f : true ≡ false = sym block ∙ (sym (ap is_block_in at) ∙ e.1) in true≢false f)
  ]

  -- one entry is set
  set_has : (old new : Table) (key : Key) (v : Option Held) → new ≡ set_held old key v → ((h : Held) → v ≡ Some h → HasBytes geometry h key pieces) → TableHas geometry pieces old → TableHas geometry pieces new
  set_has old new key v made comes has k h at block = elim (bool_cases (key_eq key k)) [
    | inl one ↦ subst (λ (j : Key). HasBytes geometry h j pieces) (key_true key k one) (comes h (sym (ap (λ (f : Table). f k) made ∙ ap (λ b. if b then v else old k) one) ∙ at))
    | inr other ↦ has k h (sym (ap (λ (f : Table). f k) made ∙ ap (λ b. if b then v else old k) other) ∙ at) block
  ]

  freed_has : (group : ℕ) (old new : Table) → new ≡ without_freed group old → TableHas geometry pieces old → TableHas geometry pieces new
  freed_has group old new made has k h at block = elim (bool_cases (is_freed_block group (old k))) [
    | inl gone ↦ absurd (let e : None ≡ Some h = sym (ap (λ (f : Table). f k) made ∙ ap (λ b. if b then None else old k) gone) ∙ at in cc)
    | inr stays ↦ has k h (sym (ap (λ (f : Table). f k) made ∙ ap (λ b. if b then None else old k) stays) ∙ at) block
  ]

  sealed_has : (group : ℕ) (old new : Table) → ((k : Key) → new k ≡ seal_held group (old k)) → TableHas geometry pieces old → TableHas geometry pieces new
  sealed_has group old new made has k h at block = by (old k) refl (sym (made k) ∙ at)
    where
      kept : (g : Held) (b : Bool) → old k ≡ Some g → (is_block g.stage && nat_le g.birth group && not (is_freed_by group g.stage)) ≡ b → keep_if b (record g { stage = stage.Live }) ≡ Some h → HasBytes geometry h k pieces
      kept g false was is e = absurd (cc)
      kept g true was is e =
          staged_has geometry g h stage.Live k pieces (some_injective (record g { stage = stage.Live }) h e)
          (has k g was (both_true (is_block g.stage) (nat_le g.birth group) (both_true (is_block g.stage && nat_le g.birth group) (not (is_freed_by group g.stage)) is).0).0)

      by : (o : Option Held) → old k ≡ o → seal_held group o ≡ Some h → HasBytes geometry h k pieces
      by None was e = absurd (cc)
      by (Some g) was e = kept g (is_block g.stage && nat_le g.birth group && not (is_freed_by group g.stage)) was refl e

  moved_has : (old new : Table) (e : Event) → DoesToBlocks e old new → EndsWithBytes geometry pieces old e → TableHas geometry pieces old → TableHas geometry pieces new
  moved_has old new (Finish key) does ends has = elim does.made [
    | inl made ↦ set_has old new key (Some (record does.held { stage = stage.Live })) made
        (λ h is. staged_has geometry does.held h stage.Live key pieces (some_injective (record does.held { stage = stage.Live }) h is) (ends does.held does.found)) has
    | inr made ↦ set_has old new key None made (λ h is. absurd (cc)) has
  ]
  moved_has old new (Free key group) does ends has =
      set_has old new key (Some (record does.held { stage = stage.Freed group })) does.made
      (λ h is. staged_has geometry does.held h (stage.Freed group) key pieces (some_injective (record does.held { stage = stage.Freed group }) h is) (has key does.held does.found (ap is_block does.live))) has
  moved_has old new (Commit group) does ends has = freed_has group old new does has
  moved_has old new (Reopen group doubtful) does ends has = sealed_has group old new does has
  moved_has old new (Begin key first stripes len birth digest) does ends has = same_has old new does has
  moved_has old new (Put key landed failed) does ends has = same_has old new does has
  moved_has old new (Abort key) does ends has = same_has old new does has
  moved_has old new (Fetch key failed) does ends has = same_has old new does has
  moved_has old new (Damage leaf sector failed) does ends has = same_has old new does has
  moved_has old new (Offline leaf) does ends has = same_has old new does has
  moved_has old new (Online leaf) does ends has = same_has old new does has
  moved_has old new (Attach slot arm) does ends has = same_has old new does has
  moved_has old new (Detach slot arm) does ends has = same_has old new does has
  moved_has old new Upgrade does ends has = same_has old new does has
  moved_has old new (Close group) does ends has = same_has old new does has
  moved_has old new (Seal group failed) does ends has = same_has old new does has
  moved_has old new (Plan kind) does ends has = same_has old new does has
  moved_has old new Ready does ends has = same_has old new does has
  moved_has old new (Lend failed) does ends has = same_has old new does has
  moved_has old new (LandStripe pass serial failed) does ends has = same_has old new does has
  moved_has old new (LandBlock pass serial failed patched unreadable) does ends has = same_has old new does has
  moved_has old new (Done failed) does ends has = same_has old new does has
  moved_has old new Cancel does ends has = same_has old new does has

-- ---- pieces of one key

-- those of one key from elsewhere, and all others as they are
abbrev pub with_key : Key → Pieces → Pieces → Pieces
with_key key from pieces k = if key_eq key k then from k else pieces k

pub with_own : (key : Key) (from pieces : Pieces) → with_key key from pieces key ≡ from key
with_own key from pieces = ap (λ b. if b then from key else pieces key) (key_refl key)

pub with_same : (key : Key) (from pieces : Pieces) (k : Key) → key_eq key k ≡ false → with_key key from pieces k ≡ pieces k
with_same key from pieces k other = ap (λ b. if b then from k else pieces k) other

pub with_at : (key : Key) (from pieces : Pieces) (k : Key) → key_eq key k ≡ true → with_key key from pieces k ≡ from k
with_at key from pieces k one = ap (λ b. if b then from k else pieces k) one

abbrev at_segment : Segment → (ℕ → ℕ → Option (List ℕ)) → Option (List ℕ)
at_segment s f = f s.column s.row

backed_key : (l : machine.Layout) (key : Key) (from pieces : Pieces) (w : machine.State) (t : Told) → Backed l from w t → Backed l pieces w t → Backed l (with_key key from pieces) w t
backed_key l key from pieces w t a b = record {
  holds = record {
    there = b.holds.there;
    reads = λ s h is calm. elim (bool_cases (key_eq key s.key)) [
      | inl one ↦ read_as (reads_at l h s t) (piece_of from s) (piece_of (with_key key from pieces) s) (λ known. ap (at_segment s) (with_at key from pieces s.key one)) (a.holds.reads s h is calm)
      | inr other ↦ read_as (reads_at l h s t) (piece_of pieces s) (piece_of (with_key key from pieces) s) (λ known. ap (at_segment s) (with_same key from pieces s.key other)) (b.holds.reads s h is calm)
    ];
  };
  images = λ img is. record {
    there = (b.images img is).there;
    reads = λ s h c calm. elim (bool_cases (key_eq key s.key)) [
      | inl one ↦ read_as (reads_at l h s t) (piece_of from s) (piece_of (with_key key from pieces) s) (λ known. ap (at_segment s) (with_at key from pieces s.key one)) ((a.images img is).reads s h c calm)
      | inr other ↦ read_as (reads_at l h s t) (piece_of pieces s) (piece_of (with_key key from pieces) s) (λ known. ap (at_segment s) (with_same key from pieces s.key other)) ((b.images img is).reads s h c calm)
    ];
    firm = (b.images img is).firm;
  };
  last = b.last;
}

module _ {R A : Type 0} (rack : racks.Ghosts R) (area : areas.Ghosts A) where
  -- a shard stands for a metaslab with each of two lists of pieces, and so it does with those of one key taken from the one
  pub metaslab_key : (part : Part) (key : Key) (from pieces : Pieces) (shard : Shard R A) (x : Metaslab) → IsMetaslab rack area part from shard x → IsMetaslab rack area part pieces shard x → IsMetaslab rack area part (with_key key from pieces) shard x
  metaslab_key part key from pieces shard x a b = record {
    valid = b.valid;
    part_is = b.part_is;
    stands = record { is_in = b.stands.is_in; reached = b.stands.reached; segments = on (rack.told shard.rack) a.stands.segments b.stands.segments };
    run = b.run;
    events = b.events;
    limit = b.limit;
    reserved = b.reserved;
    counts = b.counts;
    harm = b.harm;
    records = b.records;
    bytes = λ k h at block column row some. elim (bool_cases (key_eq key k)) [
      | inl one ↦ (let same = with_at key from pieces k one in
          same_bytes part.geometry h k from (with_key key from pieces) same (a.bytes k h at block column row (subst (λ (f : ℕ → ℕ → Option (List ℕ)). IsSome (f column row)) same some)))
      | inr other ↦ (let same = with_same key from pieces k other in
          same_bytes part.geometry h k pieces (with_key key from pieces) same (b.bytes k h at block column row (subst (λ (f : ℕ → ℕ → Option (List ℕ)). IsSome (f column row)) same some)))
    ];
  }
    where
      on : (o : Option Told) → OnTold o (Backed (layout_by shard) from x.world) → OnTold o (Backed (layout_by shard) pieces x.world) → OnTold o (Backed (layout_by shard) (with_key key from pieces) x.world)
      on None a b = tt
      on (Some t) a b = backed_key (layout_by shard) key from pieces x.world t a b

  -- ---- holds

  -- Under a key there is no block: all blocks have what they had, where the pieces of other keys are the same.
  pub other_bytes : (part : Part) (key : Key) (pieces other : Pieces) (x : Metaslab) → ((k : Key) → key_eq key k ≡ false → other k ≡ pieces k) → ((h : Held) → x.world.core.held key ≡ Some h → is_block h.stage ≡ false) → HaveBytes part.geometry pieces x
      → HaveBytes part.geometry other x
  other_bytes part key pieces other x same none has k h at block = elim (bool_cases (key_eq key k)) [
    | inl one ↦ absurd (true≢false (sym block ∙ none h (ap x.world.core.held (key_true key k one) ∙ at)))
    | inr away ↦ same_bytes part.geometry h k pieces other (same k away) (has k h at block)
  ]

  -- the metaslab is as it was
  pub still_bytes : (part : Part) (old new : Shard R A) (x : Metaslab) → ((pieces : Pieces) → IsMetaslab rack area part pieces old x → IsMetaslab rack area part pieces new x) → KeepsBytes rack area part old x new
  still_bytes part old new x stands pieces is has = record { reached = x; pieces = pieces; is = stands pieces is; since = since_self (layout_in part) x; has = has }

  step_has : (part : Part) (mid pieces : Pieces) (old : Shard R A) (x : Metaslab) (e : Event) (w : machine.State) → IsMetaslab rack area part mid old x → Step (layout_in part) x.world e w → EndsWithBytes part.geometry pieces x.world.core.held e → HaveBytes part.geometry pieces x
      → TableHas part.geometry pieces w.core.held
  step_has part mid pieces old x e w is step ends has =
      moved_has part.geometry pieces x.world.core.held w.core.held e
      (subst (λ (p : Part). Step (layout_in p) x.world e w → DoesToBlocks e x.world.core.held w.core.held) is.part_is (λ s. blocks_moved (layout_by old) x.world w e (has_layout (part_of old) is.valid.part) is.stands.reached s) step) ends has

  -- an event, with the same pieces
  pub done_bytes : (part : Part) (mid pieces : Pieces) (old new : Shard R A) (x : Metaslab) (e : Event) → IsMetaslab rack area part mid old x → DoneBy rack area part pieces new e x → EndsWithBytes part.geometry pieces x.world.core.held e → HaveBytes part.geometry pieces x → GoesWithBytes rack area part x new
  done_bytes part mid pieces old new x e is d ends has = record {
    reached = d.reached;
    pieces = pieces;
    is = d.is;
    since = acts_since (layout_in part) (Did e d.reached.world) x d.reached d.acts;
    has = step_has part mid pieces old x e d.reached.world is d.step ends has;
  }

  acts_has : (part : Part) (pieces : Pieces) (old : Shard R A) (x y : Metaslab) (act : Act) → IsMetaslab rack area part pieces old x → MetaslabActs (layout_in part) act x y → ActEnds part.geometry pieces x.world.core.held act → HaveBytes part.geometry pieces x → HaveBytes part.geometry pieces y
  acts_has part pieces old x y Looked is acts ends has = subst (HaveBytes part.geometry pieces) (sym acts) has
  acts_has part pieces old x y (Did e w) is acts ends has =
      subst (λ (v : machine.State). TableHas part.geometry pieces v.core.held) (sym acts.world) (step_has part pieces pieces old x e w is acts.legal ends has)
  acts_has part pieces old x y (Reserved n) is acts ends has = subst (HaveBytes part.geometry pieces) (sym acts) has
  acts_has part pieces old x y (MadeLeaf leaf) is acts ends has = subst (λ (v : machine.State). TableHas part.geometry pieces v.core.held) (sym acts.0.world) has
  acts_has part pieces old x y (AreaFailed group) is acts ends has = subst (λ (v : machine.State). TableHas part.geometry pieces v.core.held) (sym acts.0.world) has
  acts_has part pieces old x y RackFailed is acts ends has = subst (λ (v : machine.State). TableHas part.geometry pieces v.core.held) (sym acts.0.world) has
  acts_has part pieces old x y CallStarved is acts ends has = subst (λ (v : machine.State). TableHas part.geometry pieces v.core.held) (sym acts.0.world) has

  -- any act, with the same pieces
  pub act_bytes : (part : Part) (pieces : Pieces) (old new : Shard R A) (x y : Metaslab) (act : Act) → IsMetaslab rack area part pieces old x → IsMetaslab rack area part pieces new y → MetaslabActs (layout_in part) act x y
      → ActEnds part.geometry pieces x.world.core.held act → HaveBytes part.geometry pieces x → GoesWithBytes rack area part x new
  act_bytes part pieces old new x y act is is_then acts ends has = record { reached = y; pieces = pieces; is = is_then; since = acts_since (layout_in part) act x y acts; has = acts_has part pieces old x y act is acts ends has }

  -- a block is freed
  pub free_bytes : (part : Part) (old new : Shard R A) (x : Metaslab) (p : Pointer) (floor group : ℕ) → ((pieces : Pieces) → IsMetaslab rack area part pieces old x → Goes rack area part pieces x new (FreesIn part.number p floor group x)) → KeepsBytes rack area part old x new
  free_bytes part old new x p floor group goes pieces is has =
      let g = goes pieces is in
      let act = Did (Free (key_of p) group) g.reached.world in
      let acts = acts_one (layout_in part) part.number act x g.reached (subst (λ hs. FollowsIn (layout_in part) part.number hs x g.reached) g.done.are g.follows) in
      act_bytes part pieces old new x g.reached act is g.is acts tt has

  -- a block of another object than that which a hold concerns was there before, and has bytes where it had them
  pub kept_bytes : (part : Part) (old new : Shard R A) (concerned : Option ℕ) (x : Metaslab) → KeepsTo rack area old new concerned → ((k : Key) (h : Held) → held_in new.entries k ≡ Some h → is_other concerned k.object ≡ true) → KeepsBytes rack area part old x new
  kept_bytes part old new concerned x keeps others pieces is has =
      let g = keeps.state part pieces x is in
      record {
        reached = g.reached;
        pieces = g.now;
        is = g.is;
        since = g.since;
        has = λ k h at block.
            (let now : held_in new.entries k ≡ Some h = sym (g.is.stands.is_in.held k) ∙ at in
            let other = others k h now in
            let was : x.world.core.held k ≡ Some h = elim (keeps.others.each k other) [
              | inl e ↦ is.stands.is_in.held k ∙ (sym e ∙ now)
              | inr e ↦ absurd (let f : None ≡ Some h = sym e.1 ∙ now in cc)
            ] in
            elim (g.same k other) [
              | inl e ↦ same_bytes part.geometry h k pieces g.now e (has k h was block)
              | inr e ↦ subst (λ (i : Held). HasBytes part.geometry i k g.now) (some_injective e.0 h (sym e.1 ∙ was)) e.3
            ]);
      }

  -- ---- holds that concern no object

  module _ (old new : Shard R A) (number : ℕ) (far : OBJECTS ≤ number) (keeps : KeepsTo rack area old new (Some number)) where
    far_others : (k : Key) (h : Held) → held_in new.entries k ≡ Some h → is_other (Some number) k.object ≡ true
    far_others k h at =
        let e = held_entry new.entries k h at in
        let small = (keeps.valid.tables.placed h.first e.e e.there).is_block.object_small in
        let own = ap (λ (j : Key). j.object) e.key_is in
        ap (λ c. if c then false else true) (ne_eqb number k.object (λ same. omega (arith, far, small, own, same)))

    far_was : (k : Key) (h : Held) → held_in new.entries k ≡ Some h → held_in old.entries k ≡ Some h
    far_was k h at = elim (keeps.others.each k (far_others k h at)) [
      | inl e ↦ sym e ∙ at
      | inr e ↦ absurd (let f : None ≡ Some h = sym e.1 ∙ at in cc)
    ]

    pub far_bytes : (part : Part) (x : Metaslab) → KeepsBytes rack area part old x new
    far_bytes part x = kept_bytes part old new (Some number) x keeps far_others

    -- with pieces that are the same, or those of other bytes of a block's length and digest
    pub led_bytes : (part : Part) (pieces later : Pieces) (x y : Metaslab) → IsMetaslab rack area part pieces old x → IsMetaslab rack area part later new y
        → ((k : Key) (h : Held) → x.world.core.held k ≡ Some h → (later k ≡ pieces k) ⊎ HasBytes part.geometry h k later) → HaveBytes part.geometry pieces x → HaveBytes part.geometry later y
    led_bytes part pieces later x y is led contents has k h at block =
        let was : x.world.core.held k ≡ Some h = is.stands.is_in.held k ∙ far_was k h (sym (led.stands.is_in.held k) ∙ at) in
        elim (contents k h was) [
          | inl e ↦ same_bytes part.geometry h k pieces later e (has k h was block)
          | inr e ↦ e
        ]
