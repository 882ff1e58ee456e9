-- Holds of one metaslab of a pool that leave what it holds as it was, where its blocks may have other pieces of the same length and digest then.
use Rattle.std.proofs.Common.{◌≡◌, ◌∙◌, inl, inr, ℕ, List, Option, Some, None, arith, refl, sym, ap, subst, slice_set, length, false}
use Rattle.std.specs.Prelude.{nat_eq, slice_get}
use Rattle.std.specs.HashMap.{get}
use Rattle.std.proofs.lemmas.Bool.{cases_eq}
use Rattle.sha2.specs.Sha256.{sha256}
use Rattle.draid_names.specs.declared.pointer.Pointer.{Pointer}
use Rattle.draid_entries.specs.Maps as entries
use Rattle.draid_rack.specs.declared.Rack as racks
use Rattle.draid_area.specs.declared.Area as areas
use Rattle.draid_machine.specs.declared.names.Key.{Key}
use Rattle.draid_machine.specs.declared.names.Held.{Held}
use Rattle.draid_machine.specs.declared.names.Stage.TheVariants.{Live}
use Rattle.draid_machine.proofs.Small.{some_same}
use Rattle.draid_segments.specs.Segments.{Pieces}
use Rattle.draid_objects.specs.Blocks.{Blocks}
use Rattle.draid_objects.specs.Changes.{Write, write_by, write_of}
use Rattle.draid_objects.proofs.Finding.{write_key}
use Rattle.draid_shard.specs.Part.{Part}
use Rattle.draid_shard.specs.declared.shard.Shard.{Shard}
use Rattle.draid_session.specs.Holds.{Hold}
use Rattle.draid_session.specs.State.{Metaslab, State, Store}
use Rattle.draid_pool.specs.Carries.{CarriesOut}
use Rattle.draid_pool.specs.Metaslabs.{IsMetaslab}
use Rattle.draid_pool.specs.Objects.{HasPieces, HoldsObjects, IsLastAt, PointsTo, blocks_of}
use Rattle.draid_pool.specs.Pools.{Represents, part_in}
use Rattle.draid_pool.specs.Shards.{Goes, GoesLater, KeepsImages, SameBlocks}
use Rattle.draid_pool.specs.declared.pool.Pool.{Pool}
use Rattle.draid_pool.proofs.Contents.{held_long, pieces_by}
use Rattle.draid_pool.proofs.Lifted.{SetsShard}
use Rattle.draid_pool.proofs.Moved.{Turned, pointer_on, blocks_at, follows_one, same_blocks, stands_turned, turn, turn_here, turn_other, with_metaslab}
use Rattle.draid_pool.proofs.Owning.{pieces_on}
use Rattle.draid_pool.specs.Bytes.{HasBytes, KeepsContents}
use Rattle.draid_visits.specs.Pieces.{GoesTo, SameContents}
use Rattle.draid_objects.specs.Marks.{check_by, is_dropped}

-- what is so of the pieces of each key is so of those of each block
pub contents_by : (part : Part) (x : Metaslab) (pieces later : Pieces) → KeepsContents part x pieces later → SameContents part x pieces later
contents_by part x pieces later keeps k h there = elim (keeps.each k) [
  | inl same ↦ inl same
  | inr has ↦ inr (subst (λ (i : Held). HasBytes part.geometry i k later) (some_same (x.world.core.held k) has.0 h has.1 there) has.3)
]

module _ {R A : Type 0} (rack : racks.Ghosts R) (area : areas.Ghosts A) where
  -- where they have the same
  pub goes_later : (part : Part) (pieces : Pieces) (x : Metaslab) (new : Shard R A) (does : List Hold → Metaslab → Type 0) → Goes rack area part pieces x new does → GoesLater rack area part pieces x new
  goes_later part pieces x new does goes = record { holds = goes.holds; reached = goes.reached; follows = goes.follows; images = goes.images; later = pieces; contents = record { each = λ k. inl refl }; is = goes.is }

  pub goes_to : (part : _) (pieces : Pieces) (x : Metaslab) (new : Shard R A) (does : List Hold → Metaslab → Type 0) → Goes rack area part pieces x new does → GoesTo rack area part pieces x new does
  goes_to part pieces x new does goes = record {
    holds = goes.holds;
    reached = goes.reached;
    follows = goes.follows;
    images = goes.images;
    done = goes.done;
    later = pieces;
    contents = λ k h there. inl refl;
    is = goes.is;
  }

  -- what is said under a premise
  pub goes_under : (part : Part) (pieces : Pieces) (x : Metaslab) (new : Shard R A) (P : Type 0) (S : List Hold → Type 0) → GoesTo rack area part pieces x new (λ holds y. S holds × SameBlocks x y)
      → GoesTo rack area part pieces x new (λ holds y. (P → S holds) × SameBlocks x y)
  goes_under part pieces x new P S goes = record {
    holds = goes.holds;
    reached = goes.reached;
    follows = goes.follows;
    images = goes.images;
    done = (λ had. goes.done.0, goes.done.1);
    later = goes.later;
    contents = goes.contents;
    is = goes.is;
  }

  -- is said where the premise is so, and under one that it follows from
  pub goes_by : (part : Part) (pieces : Pieces) (x : Metaslab) (new : Shard R A) (P Q : Type 0) (S : List Hold → Type 0) → (Q → P) → GoesTo rack area part pieces x new (λ holds y. (P → S holds) × SameBlocks x y)
      → GoesTo rack area part pieces x new (λ holds y. (Q → S holds) × SameBlocks x y)
  goes_by part pieces x new P Q S from goes = record {
    holds = goes.holds;
    reached = goes.reached;
    follows = goes.follows;
    images = goes.images;
    done = (λ had. goes.done.0 (from had), goes.done.1);
    later = goes.later;
    contents = goes.contents;
    is = goes.is;
  }

  pub goes_said : (part : Part) (pieces : Pieces) (x : Metaslab) (new : Shard R A) (P : Type 0) (S : List Hold → Type 0) → P → GoesTo rack area part pieces x new (λ holds y. (P → S holds) × SameBlocks x y)
      → GoesTo rack area part pieces x new (λ holds y. S holds × SameBlocks x y)
  goes_said part pieces x new P S has goes = record {
    holds = goes.holds;
    reached = goes.reached;
    follows = goes.follows;
    images = goes.images;
    done = (goes.done.0 has, goes.done.1);
    later = goes.later;
    contents = goes.contents;
    is = goes.is;
  }

  module _ (m : ℕ) (pool new : Pool R A) (shard shard' : Shard R A) (x : State) (y : Metaslab) (r : Represents rack area pool x) (set : SetsShard rack area m pool new shard shard')
      (at : slice_get x.metaslabs m ≡ Some y) (later : Pieces) (contents : SameContents (part_in x m) y (r.stands.pieces m) later) where
    points_on : (y' : Metaslab) (p : Option Pointer) (w : Option Write) → Turned rack area m pool new shard shard' x y y' later → y'.world.core.held ≡ y.world.core.held
        → PointsTo pool.metaslabs.shards.items p w → PointsTo new.metaslabs.shards.items p w
    points_on y' None None t same is = tt
    points_on y' None (Some w) t same is = absurd is
    points_on y' (Some p) None t same is = absurd is
    points_on y' (Some p) (Some w) t same is =
        pointer_on rack area m pool new shard shard' (λ object. get nat_eq pool.own.objects object) x y y' later p w r.stands t (λ here. ap (λ held. held (entries.key_of p)) same) is

    abbrev turned : ℕ → Pieces
    turned = turn m later r.stands.pieces

    own_bytes : (k : Key) (h : Held) (write : Write) → blocks_of x.metaslabs m k ≡ Some h → write_by x.store.changes k ≡ Some write → HasPieces x.geometry write later
    own_bytes k h write there by =
        let own = write_key x.store.changes k write by in
        let z = r.stands.holds.stores.only m k h there (r.stands.holds.settled m k h there) in
        let same : z.0 ≡ write = one (write_by x.store.changes k) z.0 write z.1 by in
        elim (contents k h (sym (blocks_at x.metaslabs m y k at) ∙ there)) [
          | inl stays ↦ pieces_on x.geometry write (r.stands.pieces m) later (ap later own ∙ (stays ∙ ap (r.stands.pieces m) (sym own))) (r.stands.holds.bytes m k h write there by)
          | inr has ↦
              pieces_by x.geometry h k write later has own (subst (λ (w : Write). h.len ≡ length w.bytes) same z.3.len) (subst (λ (w : Write). h.digest ≡ sha256 w.bytes) same z.3.digest_is)
              (held_long rack area (part_in x m) (r.stands.pieces m) shard y k h (r.stands.each m shard y set.there at) (sym (blocks_at x.metaslabs m y k at) ∙ there))
        ]
      where
        one : (o : Option Write) (a b : Write) → o ≡ Some a → o ≡ Some b → a ≡ b
        one o a b is too = (let e = sym is ∙ too in cc)

    bytes_turned : (n : ℕ) (k : Key) (h : Held) (write : Write) → blocks_of x.metaslabs n k ≡ Some h → write_by x.store.changes k ≡ Some write → HasPieces x.geometry write (turned n)
    bytes_turned n k h write there by = elim (cases_eq n m) [
      | inl is ↦
          subst (λ (j : ℕ). HasPieces x.geometry write (turned j)) (sym is)
          (subst (HasPieces x.geometry write) (sym (turn_here m later r.stands.pieces)) (own_bytes k h write (subst (λ (j : ℕ). blocks_of x.metaslabs j k ≡ Some h) is there) by))
      | inr other ↦
          subst (HasPieces x.geometry write) (sym (turn_other m n later r.stands.pieces (λ is. omega (arith, is, other)))) (r.stands.holds.bytes n k h write there by)
    ]

    pub turned_represents : (y' : Metaslab) → IsMetaslab rack area (part_in x m) later shard' y' → SameBlocks y y' → KeepsImages y.world y'.world
        → Represents rack area new (record (with_metaslab x m y') { store = x.store })
    turned_represents y' is same images =
        let s = r.stands in
        let t : Turned rack area m pool new shard shard' x y y' later = record { there = set.there; sets = set.sets; geometry = set.geometry; at = at; is = is; committed = same.committed; images = images; uber = set.uber } in
        let blocks : blocks_of (slice_set x.metaslabs m y') ≡ blocks_of x.metaslabs = same_blocks x.metaslabs m y y' at same.held in
        let holds : HoldsObjects x.geometry x.committed x.store (blocks_of (slice_set x.metaslabs m y')) turned
        = subst (λ b. HoldsObjects x.geometry x.committed x.store b turned) (sym blocks)
        (record { stores = s.holds.stores; floors = s.holds.floors; settled = s.holds.settled; numbered = s.holds.numbered; positive = s.holds.positive; bytes = bytes_turned }) in
        record {
          stands = stands_turned rack area m pool new shard shard' (λ object. get nat_eq pool.own.objects object) (λ object. get nat_eq new.own.objects object) x y y' later x.store s t holds refl (omega arith)
              s.groups.next s.groups.last
              (λ object. subst (λ objects. PointsTo new.metaslabs.shards.items (get nat_eq objects object) (write_of x.store.changes object)) (sym set.objects)
              (points_on y' (get nat_eq pool.own.objects object) (write_of x.store.changes object) t same.held (s.objects object)))
              (s.seq ∙ sym set.seq) (s.floor ∙ sym set.floor);
          only = subst (λ (b : Blocks). (n : ℕ) (k : Key) (h : Held) → b n k ≡ Some h → h.stage ≡ Live → is_dropped (check_by x.store.marks) k ≡ false → IsLastAt n k (write_of x.store.changes k.object)) (sym blocks) r.only;
        }

  -- what they did, as a call of the pool
  pub carries_to : (m : ℕ) (pool new : Pool R A) (shard shard' : Shard R A) (x : State) (y : Metaslab) (does : List Hold → Metaslab → Type 0) (says : List Hold → Store → Type 0)
      → (r : Represents rack area pool x) → SetsShard rack area m pool new shard shard' → slice_get x.metaslabs m ≡ Some y → GoesTo rack area (part_in x m) (r.stands.pieces m) y shard' does
      → ((holds : List Hold) (y' : Metaslab) → does holds y' → SameBlocks y y' × says holds x.store) → CarriesOut rack area new x says
  carries_to m pool new shard shard' x y does says r set at goes how =
      let z = how goes.holds goes.reached goes.done in
      record {
        holds = goes.holds;
        reached = with_metaslab x m goes.reached;
        store = x.store;
        follows = follows_one m goes.holds x y goes.reached at goes.follows;
        done = z.1;
        represents = turned_represents m pool new shard shard' x y r set at goes.later goes.contents goes.reached goes.is z.0 goes.images;
      }
