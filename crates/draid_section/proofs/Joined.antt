-- What several threads' objects are, each by itself, all objects are together.
use Rattle.std.proofs.Common.{◌≡◌, ◌==◌, ◌≤◌, ◌∙◌, ◌++◌, ◌∷◌, arith, ℕ, zero, suc, Bool, true, false, List, [], Option, Some, None, IsSome, All, cond, refl, sym, ap, subst}
use Rattle.std.specs.Prelude.{flat_map, slice_get, filter}
use Rattle.std.proofs.lemmas.Bool.{true≢false}
use Rattle.std.proofs.lemmas.List.Concat.{flat_map-cons}
use Rattle.std.proofs.lemmas.List.Elements.{All-head, All-tail}
use Rattle.sha2.specs.Sha256.{sha256}
use Rattle.draid_rack.specs.Rack.{OnTold, Told}
use Rattle.draid_rack.specs.declared.Rack as racks
use Rattle.draid_area.specs.declared.Area as areas
use Rattle.draid_spec.specs.declared.layout.Geometry.{Geometry}
use Rattle.draid_machine.specs.declared.names.Held.{Held}
use Rattle.draid_machine.specs.declared.names.Key.{Key}
use Rattle.draid_machine.specs.Names.{is_block}
use Rattle.draid_machine.proofs.Small.{is_equal}
use Rattle.draid_segments.specs.Segments.{Pieces}
use Rattle.draid_objects.specs.Blocks.{Blocks}
use Rattle.draid_objects.specs.Changes.{Change, key_of, object_of, own, write_of}
use Rattle.draid_objects.proofs.Finding.{write_key}
use Rattle.draid_objects.proofs.Keeping.{floor_up}
use Rattle.draid_shard.specs.Part.{Part}
use Rattle.draid_shard.specs.declared.shard.Shard.{Shard}
use Rattle.draid_session.specs.State.{Metaslab, Store}
use Rattle.draid_pool.specs.Bytes.{HasBytes}
use Rattle.draid_pool.specs.Metaslabs.{IsMetaslab}
use Rattle.draid_pool.specs.Objects.{HoldsObjects}
use Rattle.draid_pool.specs.Threads.{all_of, own_blocks, own_changes, own_store, is_own_mark}
use Rattle.draid_pool.proofs.Owning.{own_is, pieces_on}
use Rattle.draid_section.proofs.Objectwise.{StoresOne, by_same, floor_on, last_same, one_of, stores_by}
use Rattle.draid_section.proofs.Markwise.{SameCheck, own_check, own_check_at}
use Rattle.draid_objects.specs.Marks.{MarksNeverFall, check_at, check_by, mark_group}

-- ---- owners

-- a thread: the objects that are its own, what befell them since all were told together, and what it has of its own then
pub record Owner : Type 0 where
  pub owns : ℕ → Bool
  pub since : List Change
  pub store : Store

-- who owns an object
pub record OwnerOf (owners : List Owner) (object : ℕ) : Type 0 where
  pub place : ℕ
  pub owner : Owner
  pub there : slice_get owners place ≡ Some owner
  pub owned : owner.owns object ≡ true

-- Each object has one owner. What befell an owner's objects befell its own alone, since what is told of all.
pub record AreOwners (owners : List Owner) (changes : List Change) : Type 0 where
  pub cover : (object : ℕ) → OwnerOf owners object
  pub apart : (i j : ℕ) (a b : Owner) (object : ℕ) → slice_get owners i ≡ Some a → slice_get owners j ≡ Some b → a.owns object ≡ true → b.owns object ≡ true → i ≡ j
  pub own_since : (i : ℕ) (a : Owner) → slice_get owners i ≡ Some a → All (λ c. a.owns (object_of c) ≡ true) a.since
  pub adds : (i : ℕ) (a : Owner) → slice_get owners i ≡ Some a → a.store.changes ≡ a.since ++ changes

-- what befell the objects of all
abbrev pub all_since : List Owner → List Change
all_since owners = flat_map (λ (a : Owner). a.since) owners

-- ---- changes

own_append : (o : ℕ) (cs ds : List Change) → own o (cs ++ ds) ≡ own o cs ++ own o ds
own_append o [] ds = refl
own_append o (c ∷ cs) ds = by (object_of c == o) (own_append o cs ds)
  where
    by : (b : Bool) → own o (cs ++ ds) ≡ own o cs ++ own o ds → cond b (c ∷ own o (cs ++ ds)) (own o (cs ++ ds)) ≡ cond b (c ∷ own o cs) (own o cs) ++ own o ds
    by true rest = ap (λ l. c ∷ l) rest
    by false rest = rest

-- of an object that isn't owned there is no change
own_none : (owns : ℕ → Bool) (o : ℕ) (cs : List Change) → owns o ≡ false → All (λ c. owns (object_of c) ≡ true) cs → own o cs ≡ []
own_none owns o [] not all = refl
own_none owns o (c ∷ cs) not all = by (object_of c == o) refl (own_none owns o cs not (All-tail (λ d. owns (object_of d) ≡ true) c cs all))
  where
    by : (b : Bool) → (object_of c == o) ≡ b → own o cs ≡ [] → cond b (c ∷ own o cs) (own o cs) ≡ []
    by true is rest = absurd (true≢false (sym (All-head (λ d. owns (object_of d) ≡ true) c cs all) ∙ (ap owns (is_equal (object_of c) o is) ∙ not)))
    by false is rest = rest

-- an owned object's changes are among its owner's
pub own_kept : (owns : ℕ → Bool) (o : ℕ) (cs : List Change) → owns o ≡ true → own o (own_changes owns cs) ≡ own o cs
own_kept owns o [] mine = refl
own_kept owns o (c ∷ cs) mine = by (object_of c == o) (owns (object_of c)) refl refl (own_kept owns o cs mine)
  where
    by : (b d : Bool) → (object_of c == o) ≡ b → owns (object_of c) ≡ d → own o (own_changes owns cs) ≡ own o cs → own o (cond d (c ∷ own_changes owns cs) (own_changes owns cs)) ≡ cond b (c ∷ own o cs) (own o cs)
    by true true is held rest = ap (λ b. cond b (c ∷ own o (own_changes owns cs)) (own o (own_changes owns cs))) is ∙ ap (λ l. c ∷ l) rest
    by true false is held rest = absurd (true≢false (sym mine ∙ (ap owns (sym (is_equal (object_of c) o is)) ∙ held)))
    by false true is held rest = ap (λ b. cond b (c ∷ own o (own_changes owns cs)) (own o (own_changes owns cs))) is ∙ rest
    by false false is held rest = rest

append_none : {A : Type 0} (xs : List A) → xs ++ [] ≡ xs
append_none [] = refl
append_none (x ∷ xs) = ap (λ l. x ∷ l) (append_none xs)

-- no owner of these has it
since_none : (o : ℕ) (owners : List Owner) → ((j : ℕ) (b : Owner) → slice_get owners j ≡ Some b → own o b.since ≡ []) → own o (all_since owners) ≡ []
since_none o [] none = refl
since_none o (b ∷ owners) none =
    ap (own o) (flat_map-cons (λ (a : Owner). a.since) b owners) ∙ (own_append o b.since (all_since owners) ∙ (ap (λ l. l ++ own o (all_since owners)) (none 0 b refl) ∙ since_none o owners (λ j c at. none (suc j) c at)))

-- one of them alone has it
since_one : (o : ℕ) (owners : List Owner) (i : ℕ) (a : Owner) → slice_get owners i ≡ Some a → ((j : ℕ) (b : Owner) → slice_get owners j ≡ Some b → (j ≡ i → ⊥) → own o b.since ≡ []) → own o (all_since owners) ≡ own o a.since
since_one o [] i a at others = absurd (cc)
since_one o (b ∷ owners) zero a at others =
    let same : b ≡ a = cc in
    ap (own o) (flat_map-cons (λ (c : Owner). c.since) b owners)
    ∙ (own_append o b.since (all_since owners) ∙ (ap (λ l. own o b.since ++ l) (since_none o owners (λ j c there. others (suc j) c there (λ is. omega (arith, is)))) ∙ (append_none (own o b.since) ∙ ap (λ (c : Owner). own o c.since) same)))
since_one o (b ∷ owners) (suc i) a at others =
    ap (own o) (flat_map-cons (λ (c : Owner). c.since) b owners)
    ∙ (own_append o b.since (all_since owners) ∙ (ap (λ l. l ++ own o (all_since owners)) (others 0 b refl (λ is. omega (arith, is))) ∙ since_one o owners i a at (λ j c there not. others (suc j) c there (λ is. not (omega (arith, is))))))

-- ---- all of them together

-- the pieces of a block are those that its object's owner knows
abbrev pub joined_pieces : (owners : List Owner) → ((object : ℕ) → OwnerOf owners object) → (ℕ → ℕ → Pieces) → ℕ → Pieces
joined_pieces owners cover pieces m key = pieces (cover key.object).place m key

module _ (owners : List Owner) (changes : List Change) (are : AreOwners owners changes) where
  -- an object's changes are those that its owner tells
  pub owner_changes : (o : ℕ) → own o (own_changes (are.cover o).owner.owns (are.cover o).owner.store.changes) ≡ own o (all_since owners ++ changes)
  owner_changes o =
      let w = are.cover o in
      own_kept w.owner.owns o w.owner.store.changes w.owned
      ∙ (ap (own o) (are.adds w.place w.owner w.there)
      ∙ (own_append o w.owner.since changes
      ∙ (ap (λ l. l ++ own o changes) (sym (since_one o owners w.place w.owner w.there (λ j b at not. own_none b.owns o b.since (not_owned j b at not) (are.own_since j b at))))
      ∙ sym (own_append o (all_since owners) changes))))
    where
      not_owned : (j : ℕ) (b : Owner) → slice_get owners j ≡ Some b → (j ≡ (are.cover o).place → ⊥) → b.owns o ≡ false
      not_owned j b at not = by (b.owns o) refl
        where
          by : (t : Bool) → b.owns o ≡ t → b.owns o ≡ false
          by true is = absurd (not (are.apart j (are.cover o).place b (are.cover o).owner o at (are.cover o).there is (are.cover o).owned))
          by false is = is

  module _ (geometry : Geometry) (committed : ℕ) (blocks : Blocks) (pieces : ℕ → ℕ → Pieces) (store : Store) (added : store.changes ≡ all_since owners ++ changes) (marks_are : (i : ℕ) (a : Owner) → slice_get owners i ≡ Some a → a.store.marks ≡ store.marks) (falls : MarksNeverFall store.marks) (positive : All (λ m. 1 ≤ mark_group m) store.marks)
      (numbers : (i : ℕ) (a : Owner) → slice_get owners i ≡ Some a → a.store.seq ≤ store.seq) (floors : (i : ℕ) (a : Owner) → slice_get owners i ≡ Some a → a.store.floor ≤ store.floor)
      (each : (i : ℕ) (a : Owner) → slice_get owners i ≡ Some a → HoldsObjects geometry committed (own_store a.owns a.store) (own_blocks (all_of a.owns) blocks) (pieces i)) where
    abbrev held_by : (o : ℕ) → HoldsObjects geometry committed (own_store (are.cover o).owner.owns (are.cover o).owner.store) (own_blocks (all_of (are.cover o).owner.owns) blocks) (pieces (are.cover o).place)
    held_by o = each (are.cover o).place (are.cover o).owner (are.cover o).there

    abbrev seen_by : (o : ℕ) → Blocks
    seen_by o = own_blocks (all_of (are.cover o).owner.owns) blocks

    seen : (o m : ℕ) (k : Key) → k.object ≡ o → blocks m k ≡ seen_by o m k
    seen o m k of = sym (own_is (all_of (are.cover o).owner.owns) blocks m k (ap (are.cover o).owner.owns of ∙ (are.cover o).owned))

    -- the marks of an object's owner
    marks_of : (o : ℕ) → (are.cover o).owner.store.marks ≡ store.marks
    marks_of o = marks_are (are.cover o).place (are.cover o).owner (are.cover o).there

    one : (o : ℕ) → StoresOne sha256 committed (all_since owners ++ changes) store.marks blocks o
    one o =
        let w = are.cover o in
        one_of sha256 committed (all_since owners ++ changes) store.marks blocks o (own_changes w.owner.owns w.owner.store.changes) (filter (is_own_mark w.owner.owns) w.owner.store.marks) (seen_by o) (held_by o).stores (owner_changes o) (seen o)
        (subst (λ ms. SameCheck o (check_by (filter (is_own_mark w.owner.owns) ms)) (check_by store.marks)) (sym (marks_of o)) (own_check w.owner.owns o w.owned store.marks))
        (λ t. subst (λ ms. SameCheck o (check_at t (filter (is_own_mark w.owner.owns) ms)) (check_at t store.marks)) (sym (marks_of o)) (own_check_at w.owner.owns o w.owned t store.marks))

    holds_all : HoldsObjects geometry committed (record store { changes = all_since owners ++ changes }) blocks (joined_pieces owners are.cover pieces)
    holds_all = record {
      stores = stores_by sha256 committed (all_since owners ++ changes) store.marks blocks falls one;
      floors = λ o. floor_up (all_since owners ++ changes) blocks o (are.cover o).owner.store.floor store.floor
          (floor_on (own_changes (are.cover o).owner.owns (are.cover o).owner.store.changes) (all_since owners ++ changes) (seen_by o) blocks o (are.cover o).owner.store.floor (owner_changes o) (seen o) ((held_by o).floors o))
          (floors (are.cover o).place (are.cover o).owner (are.cover o).there);
      settled = λ m k h at. (held_by k.object).settled m k h (sym (seen k.object m k refl) ∙ at);
      numbered = λ m k h at.
          (let low = (held_by k.object).numbered m k h (sym (seen k.object m k refl) ∙ at) in
          let most = numbers (are.cover k.object).place (are.cover k.object).owner (are.cover k.object).there in
          omega (arith, low, most));
      positive = positive;
      bytes = λ m k h write at is.
          (let key = write_key (all_since owners ++ changes) k write is in
          let mine = (held_by k.object).bytes m k h write (sym (seen k.object m k refl) ∙ at) (by_same (own_changes (are.cover k.object).owner.owns (are.cover k.object).owner.store.changes) (all_since owners ++ changes) k.object (owner_changes k.object) k refl ∙ is) in
          pieces_on geometry write (pieces (are.cover k.object).place m) (joined_pieces owners are.cover pieces m) (ap (λ (j : Key). pieces (are.cover j.object).place m (key_of write)) key) mine);
    }

    -- what is so of each owner's objects is so of all
    pub holds_joined : HoldsObjects geometry committed store blocks (joined_pieces owners are.cover pieces)
    holds_joined = subst (λ cs. HoldsObjects geometry committed (record store { changes = cs }) blocks (joined_pieces owners are.cover pieces)) (sym added) holds_all

    -- the write that gives an object its bytes
    pub write_joined : (o : ℕ) → write_of (own_changes (are.cover o).owner.owns (are.cover o).owner.store.changes) o ≡ write_of store.changes o
    write_joined o = last_same (own_changes (are.cover o).owner.owns (are.cover o).owner.store.changes) (all_since owners ++ changes) o (owner_changes o) ∙ ap (λ cs. write_of cs o) (sym added)

-- ---- metaslabs

on_each : {P : Told → Type 0} (o : Option Told) (Q : Key → Told → Type 0) → ((x : Told) → ((k : Key) → Q k x) → P x) → ((k : Key) → OnTold o (Q k)) → OnTold o P
on_each None Q all each = tt
on_each (Some x) Q all each = all x each

-- a metaslab of which each block's pieces are known so
pub metaslab_joined : {R A : Type 0} (rack : racks.Ghosts R) (area : areas.Ghosts A) (part : Part) (shard : Shard R A) (y : Metaslab) (now : Key → Pieces) → ((k : Key) → IsMetaslab rack area part (now k) shard y) → IsMetaslab rack area part (λ k. now k k) shard y
metaslab_joined rack area part shard y now each =
    let any = each (record { object = 0; seq = 0 }) in
    record {
      valid = any.valid;
      part_is = any.part_is;
      stands = record {
        is_in = any.stands.is_in;
        reached = any.stands.reached;
        segments = on_each (rack.told shard.rack) _ (λ x backed. record {
          holds = record { there = λ s h sure. (backed s.key).holds.there s h sure; reads = λ s h sure calm known. (backed s.key).holds.reads s h sure calm known };
          images = λ img is. record {
            there = λ s h claim. ((backed s.key).images img is).there s h claim;
            reads = λ s h claim calm known. ((backed s.key).images img is).reads s h claim calm known;
            firm = λ s h claim. ((backed s.key).images img is).firm s h claim;
          };
          last = (backed (record { object = 0; seq = 0 })).last;
        }) (λ k. (each k).stands.segments);
      };
      run = any.run;
      events = any.events;
      limit = any.limit;
      reserved = any.reserved;
      counts = any.counts;
      harm = any.harm;
      records = any.records;
      bytes = λ key h at block. known key h (each key) at block;
    }
  where
    known : (key : Key) (h : Held) → IsMetaslab rack area part (now key) shard y → y.world.core.held key ≡ Some h → is_block h.stage ≡ true → (column row : ℕ) → IsSome (now key key column row) → HasBytes part.geometry h key (λ k. now k k)
    known key h is at block column row some = record {
      content = (is.bytes key h at block column row some).content;
      len = (is.bytes key h at block column row some).len;
      digest = (is.bytes key h at block column row some).digest;
      bytes = (is.bytes key h at block column row some).bytes;
      columns = (is.bytes key h at block column row some).columns;
      are = (is.bytes key h at block column row some).are;
      rows = (is.bytes key h at block column row some).rows;
    }
