-- What is known of a thread's own objects stays, as others hold the metaslabs.
use Rattle.std.proofs.Common.{◌≡◌, ◌==◌, ◌≤◌, ◌∙◌, ◌⊎◌, inl, inr, arith, ℕ, Bool, true, false, List, [], ◌∷◌, Some, None, refl, sym, ap, subst, slice_set, length, cond, if◌then◌else◌}
use Rattle.std.specs.Prelude.{max, option_map, slice_get}
use Rattle.std.proofs.lemmas.Bool.{cases_eq, true≢false}
use Rattle.sha2.specs.Sha256.{sha256}
use Rattle.draid_spec.specs.declared.layout.Geometry.{Geometry}
use Rattle.draid_machine.specs.declared.names.Key.{Key}
use Rattle.draid_machine.specs.declared.names.Held.{Held}
use Rattle.draid_machine.specs.After.{is_freed_block}
use Rattle.draid_machine.proofs.Small.{is_equal, none_some}
use Rattle.draid_segments.specs.Segments.{Pieces}
use Rattle.draid_objects.specs.Blocks.{Blocks, Drops, table_of}
use Rattle.draid_objects.specs.Changes.{Change, Write, key_of, object_of, last_of, write_by, write_in, write_of}
use Rattle.draid_objects.proofs.Finding.{write_key}
use Rattle.draid_objects.proofs.Keeping.{commit_floor, commit_kept}
use Rattle.draid_shard.specs.Part.{Part}
use Rattle.draid_session.specs.State.{Metaslab, State}
use Rattle.draid_pool.specs.Bytes.{AreLong, SamePieces}
use Rattle.draid_pool.specs.Objects.{HoldsObjects, HasPieces, blocks_of}
use Rattle.draid_pool.specs.Pools.{part_in}
use Rattle.draid_pool.proofs.Contents.{pieces_by}
use Rattle.draid_pool.proofs.Lists.{get_set_other, get_set_same, some_of}
use Rattle.draid_pool.proofs.Moved.{blocks_at, each_set, turn, turn_here, turn_other, with_metaslab}
use Rattle.draid_pool.proofs.Marked.{behind_later, marked_later, max_next}
use Rattle.draid_objects.specs.Stores.{AreMarkedUpto, IsBehindChecks}
use Rattle.draid_pool.specs.Threads.{Bounds, HoldsBut, HoldsOwn, all_of, own_blocks, own_changes, own_store}
use Rattle.draid_pool.proofs.Drifting.{freed_later}

-- the pieces of a write's block are the same
pub pieces_on : (geometry : Geometry) (w : Write) (pieces now : Pieces) → now (key_of w) ≡ pieces (key_of w) → HasPieces geometry w pieces → HasPieces geometry w now
pieces_on geometry w pieces now same has = record {
  content = has.content;
  len = has.len;
  digest = has.digest;
  bytes = has.bytes;
  columns = has.columns;
  are = has.are;
  rows = λ c row column inside. ap (λ f. f c row) same ∙ has.rows c row column inside;
}

-- or the block may have those of other bytes
pub pieces_since : (part : Part) (x : Metaslab) (pieces now : Pieces) (h : Held) (w : Write) → SamePieces part x pieces now (key_of w) → x.world.core.held (key_of w) ≡ Some h → h.len ≡ length w.bytes → h.digest ≡ sha256 w.bytes
    → AreLong part.geometry x → HasPieces part.geometry w pieces → HasPieces part.geometry w now
pieces_since part x pieces now h w (inl same) there len digest long has = pieces_on part.geometry w pieces now same has
pieces_since part x pieces now h w (inr (g, at, block, bytes)) there len digest long has =
    let is : h ≡ g = some_of (x.world.core.held (key_of w)) h g there at in
    pieces_by part.geometry g (key_of w) w now bytes refl (subst (λ (k : Held). k.len ≡ length w.bytes) is len) (subst (λ (k : Held). k.digest ≡ sha256 w.bytes) is digest) (long (key_of w) g at)

bool_is : (b : Bool) → (b ≡ true) ⊎ (b ≡ false)
bool_is true = inl refl
bool_is false = inr refl

-- ---- own blocks and changes

pub last_own : (owns : ℕ → Bool) (cs : List Change) (o : ℕ) → owns o ≡ true → last_of (own_changes owns cs) o ≡ last_of cs o
last_own owns [] o own = refl
last_own owns (c ∷ cs) o own = by (object_of c == o) (owns (object_of c)) refl refl (last_own owns cs o own)
  where
    by : (b d : Bool) → (object_of c == o) ≡ b → owns (object_of c) ≡ d → last_of (own_changes owns cs) o ≡ last_of cs o
        → last_of (cond d (c ∷ own_changes owns cs) (own_changes owns cs)) o ≡ cond b (Some c) (last_of cs o)
    by true true is mine rest = ap (λ b. cond b (Some c) (last_of (own_changes owns cs) o)) is
    by true false is mine rest = absurd (let e : true ≡ false = sym own ∙ (ap owns (sym (is_equal (object_of c) o is)) ∙ mine) in true≢false e)
    by false true is mine rest = ap (λ b. cond b (Some c) (last_of (own_changes owns cs) o)) is ∙ rest
    by false false is mine rest = rest

pub write_own : (owns : ℕ → Bool) (cs : List Change) (o : ℕ) → owns o ≡ true → write_of (own_changes owns cs) o ≡ write_of cs o
write_own owns cs o own = ap write_in (last_own owns cs o own)

module _ (mine : ℕ → Key → Bool) where
  pub own_is : (blocks : Blocks) (m : ℕ) (k : Key) → mine m k ≡ true → own_blocks mine blocks m k ≡ blocks m k
  own_is blocks m k own = ap (λ b. if b then blocks m k else None) own

  pub own_not : (blocks : Blocks) (m : ℕ) (k : Key) → mine m k ≡ false → own_blocks mine blocks m k ≡ None
  own_not blocks m k own = ap (λ b. if b then blocks m k else None) own

  pub own_some : (blocks : Blocks) (m : ℕ) (k : Key) (h : Held) → own_blocks mine blocks m k ≡ Some h → mine m k ≡ true
  own_some blocks m k h e = elim (bool_is (mine m k)) [
    | inl own ↦ own
    | inr not ↦ absurd (none_some (own_blocks mine blocks m k) h (own_not blocks m k not) e)
  ]

-- what a metaslab has of a key then, is what it had; or it was freed up to what is committed then, and is gone
abbrev pub StaysAt : Metaslab → Metaslab → Key → Type 0
StaysAt y z k = (z.world.core.held k ≡ y.world.core.held k) ⊎ ((is_freed_block z.world.committed (y.world.core.held k) ≡ true) × (z.world.core.held k ≡ None))

-- ---- a metaslab in which what is seen stays

module _ (x : State) (m : ℕ) (y z : Metaslab) (at : slice_get x.metaslabs m ≡ Some y) where
  abbrev after : List Metaslab
  after = slice_set x.metaslabs m z

  pub bound_there : (c : ℕ) → Bounds (with_metaslab x m z) c → z.world.committed ≤ c
  bound_there c b = b m z (get_set_same x.metaslabs m y z at)

  pub bound_before : (c : ℕ) → y.world.committed ≤ z.world.committed → Bounds (with_metaslab x m z) c → Bounds x c
  bound_before c later b n v there = elim (cases_eq n m) [
    | inl is ↦
        let v_is : v ≡ y = some_of (slice_get x.metaslabs m) v y (subst (λ k. slice_get x.metaslabs k ≡ Some v) is there) at in
        let low = bound_there c b in
        let here : v.world.committed ≡ y.world.committed = ap (λ (u : Metaslab). u.world.committed) v_is in
        omega (arith, low, later, here)
    | inr other ↦ b n v (get_set_other x.metaslabs m n z (λ is. omega (arith, is, other)) ∙ there)
  ]

  module _ (mine : ℕ → Key → Bool) (drops : (k : Key) → mine m k ≡ true → StaysAt y z k) where
    pub all_drop : (c : ℕ) → z.world.committed ≤ c → Drops c (own_blocks mine (blocks_of x.metaslabs)) (own_blocks mine (blocks_of after))
    all_drop c low n k = elim (bool_is (mine n k)) [
      | inr not ↦ inl (own_not mine (blocks_of after) n k not ∙ sym (own_not mine (blocks_of x.metaslabs) n k not))
      | inl own ↦ elim (cases_eq n m) [
        | inl is ↦ subst (λ j. (own_blocks mine (blocks_of after) j k ≡ own_blocks mine (blocks_of x.metaslabs) j k) ⊎ ((is_freed_block c (own_blocks mine (blocks_of x.metaslabs) j k) ≡ true) × (own_blocks mine (blocks_of after) j k ≡ None))) (sym is)
            (here (ap (λ j. mine j k) (sym is) ∙ own))
        | inr other ↦ inl (own_is mine (blocks_of after) n k own
            ∙ (ap (λ w. table_of (option_map (λ (v : Metaslab). v.world) w) k) (get_set_other x.metaslabs m n z (λ is. omega (arith, is, other))) ∙ sym (own_is mine (blocks_of x.metaslabs) n k own)))
      ]
    ]
      where
        was : mine m k ≡ true → own_blocks mine (blocks_of x.metaslabs) m k ≡ y.world.core.held k
        was own = own_is mine (blocks_of x.metaslabs) m k own ∙ blocks_at x.metaslabs m y k at

        is_now : mine m k ≡ true → own_blocks mine (blocks_of after) m k ≡ z.world.core.held k
        is_now own = own_is mine (blocks_of after) m k own ∙ blocks_at after m z k (get_set_same x.metaslabs m y z at)

        here : mine m k ≡ true → (own_blocks mine (blocks_of after) m k ≡ own_blocks mine (blocks_of x.metaslabs) m k)
            ⊎ ((is_freed_block c (own_blocks mine (blocks_of x.metaslabs) m k) ≡ true) × (own_blocks mine (blocks_of after) m k ≡ None))
        here own = elim (drops k own) [
          | inl e ↦ inl (is_now own ∙ (e ∙ sym (was own)))
          | inr e ↦ inr (ap (is_freed_block c) (was own) ∙ freed_later z.world.committed c (y.world.core.held k) low e.0, is_now own ∙ e.1)
        ]

    pub held_before : (n : ℕ) (k : Key) (h : Held) → own_blocks mine (blocks_of after) n k ≡ Some h → own_blocks mine (blocks_of x.metaslabs) n k ≡ Some h
    held_before n k h there = elim (all_drop z.world.committed (omega arith) n k) [
      | inl e ↦ sym e ∙ there
      | inr e ↦ absurd (none_some (own_blocks mine (blocks_of after) n k) h e.1 there)
    ]

  module _ (owns : ℕ → Bool) (mine lives : ℕ → Key → Bool) (pieces : ℕ → Pieces) (now : Pieces) (later : y.world.committed ≤ z.world.committed) (opens : y.world.open_group ≤ z.world.open_group)
      (drops : (k : Key) → mine m k ≡ true → StaysAt y z k) (drops_live : (k : Key) → lives m k ≡ true → StaysAt y z k) (long : AreLong x.geometry y) (same : (k : Key) → mine m k ≡ true → SamePieces (part_in x m) y (pieces m) now k) where
    own_bytes : (c : ℕ) → HoldsObjects x.geometry c (own_store owns x.store) (own_blocks mine (blocks_of x.metaslabs)) pieces → (n : ℕ) (k : Key) (h : Held) (w : Write)
        → own_blocks mine (blocks_of x.metaslabs) n k ≡ Some h → write_by (own_changes owns x.store.changes) k ≡ Some w → HasPieces x.geometry w (turn m now pieces n)
    own_bytes c o n k h w there by = elim (cases_eq n m) [
      | inl is ↦
          subst (λ (j : ℕ). HasPieces x.geometry w (turn m now pieces j)) (sym is)
          (subst (HasPieces x.geometry w) (sym (turn_here m now pieces)) (here (subst (λ (j : ℕ). own_blocks mine (blocks_of x.metaslabs) j k ≡ Some h) is there)))
      | inr other ↦ subst (HasPieces x.geometry w) (sym (turn_other m n now pieces (λ is. omega (arith, is, other)))) (o.bytes n k h w there by)
    ]
      where
        here : own_blocks mine (blocks_of x.metaslabs) m k ≡ Some h → HasPieces x.geometry w now
        here there_m =
            let own = write_key (own_changes owns x.store.changes) k w by in
            let seen = own_some mine (blocks_of x.metaslabs) m k h there_m in
            let held : y.world.core.held k ≡ Some h = sym (own_is mine (blocks_of x.metaslabs) m k seen ∙ blocks_at x.metaslabs m y k at) ∙ there_m in
            let v = o.stores.only m k h there_m (o.settled m k h there_m) in
            let one : v.0 ≡ w = some_of (write_by (own_changes owns x.store.changes) k) v.0 w v.1 by in
            pieces_since (part_in x m) y (pieces m) now h w (subst (SamePieces (part_in x m) y (pieces m) now) (sym own) (same k seen)) (ap y.world.core.held own ∙ held)
            (subst (λ (u : Write). h.len ≡ length u.bytes) one v.3.len) (subst (λ (u : Write). h.digest ≡ sha256 u.bytes) one v.3.digest_is) long (o.bytes m k h w there_m by)

    pub but_drifts : HoldsBut owns mine lives x pieces → HoldsBut owns mine lives (with_metaslab x m z) (turn m now pieces)
    but_drifts own = record {
      holds = λ c b. all c b (own.holds c (bound_before c later b)) (all_drop mine drops c (bound_there c b));
      only = λ n k h there live counts. own.only n k h (held_before lives drops_live n k h there) live counts;
      checks = λ c b. each_set x.metaslabs m y z (λ v. IsBehindChecks c (own_store owns x.store).marks v.world.open_group) at
          (behind_later c c y.world.open_group z.world.open_group (own_store owns x.store).marks (omega arith) opens (own.checks c (bound_before c later b) m y at)) (own.checks c (bound_before c later b));
      marked = each_set x.metaslabs m y z (λ v. AreMarkedUpto (max x.store.floor v.world.open_group) (own_store owns x.store).marks) at
          (marked_later (max x.store.floor y.world.open_group) (max x.store.floor z.world.open_group) (own_store owns x.store).marks (max_next x.store.floor y.world.open_group z.world.open_group opens) (own.marked m y at)) own.marked;
    }
      where
        all : (c : ℕ) → Bounds (with_metaslab x m z) c → HoldsObjects x.geometry c (own_store owns x.store) (own_blocks mine (blocks_of x.metaslabs)) pieces
            → Drops c (own_blocks mine (blocks_of x.metaslabs)) (own_blocks mine (blocks_of after)) → HoldsObjects x.geometry c (own_store owns x.store) (own_blocks mine (blocks_of after)) (turn m now pieces)
        all c b o d = record {
          stores = commit_kept sha256 c (own_changes owns x.store.changes) (own_store owns x.store).marks (own_blocks mine (blocks_of x.metaslabs)) (own_blocks mine (blocks_of after)) o.stores c (omega arith) d;
          floors = λ object. commit_floor (own_changes owns x.store.changes) (own_blocks mine (blocks_of x.metaslabs)) (own_blocks mine (blocks_of after)) c object x.store.floor (o.floors object) d;
          settled = λ n k h there. o.settled n k h (held_before mine drops n k h there);
          numbered = λ n k h there. o.numbered n k h (held_before mine drops n k h there);
          positive = o.positive;
          bytes = λ n k h w there by. own_bytes c o n k h w (held_before mine drops n k h there) by;
        }

-- a metaslab that others held
pub own_drifts : (owns : ℕ → Bool) (x : State) (m : ℕ) (y z : Metaslab) (pieces : ℕ → Pieces) (now : Pieces) → slice_get x.metaslabs m ≡ Some y → y.world.committed ≤ z.world.committed → y.world.open_group ≤ z.world.open_group
    → ((k : Key) → owns k.object ≡ true → StaysAt y z k) → AreLong x.geometry y → ((k : Key) → owns k.object ≡ true → SamePieces (part_in x m) y (pieces m) now k) → HoldsOwn owns x pieces → HoldsOwn owns (with_metaslab x m z) (turn m now pieces)
own_drifts owns x m y z pieces now at later opens drops long same own = but_drifts x m y z at owns (all_of owns) (all_of owns) pieces now later opens drops drops long same own
