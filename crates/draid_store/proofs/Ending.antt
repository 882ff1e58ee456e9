-- A write of a thread's own ends in a hold, by what the thread knows of a pool's state.
use Rattle.std.proofs.Common.{◌≡◌, ◌==◌, ◌≤◌, ◌<◌, ◌+◌, ◌∙◌, ◌⊎◌, inl, inr, arith, ℕ, Bool, true, false, [], ◌∷◌, Option, Some, None, Ok, Err, refl, sym, ap, ap₂, subst, cond, if◌then◌else◌, ne_eqb}
use mathlib.Core.Logic.{dite}
use native.Mathlib.Decide.{ℕ_discrete}
use Rattle.std.specs.Prelude.{max, nat_eq, option_map, slice_get}
use Rattle.std.proofs.lemmas.Bool.{true≢false}
use Rattle.sha2.specs.Sha256.{sha256}
use Rattle.draid_names.specs.declared.pointer.Pointer.{Pointer}
use Rattle.draid_rack.specs.declared.Rack as racks
use Rattle.draid_area.specs.declared.Area as areas
use Rattle.draid_block.specs.Blocks.{AreColumns, BlockValue, cut_of}
use Rattle.draid_parity.specs.Columns.{column_at}
use Rattle.draid_block.specs.Columns.{stripes_of}
use Rattle.draid_machine.specs.declared.event.Event.TheVariants as event
use Rattle.draid_machine.specs.declared.names.Key.{Key}
use Rattle.draid_machine.specs.declared.names.Held.{Held}
use Rattle.draid_machine.specs.declared.names.Stage.TheVariants as stage
use Rattle.draid_machine.specs.Names.{is_block, key_eq}
use Rattle.draid_machine.proofs.Small.{equal, key_refl}
use Rattle.draid_segments.specs.Segments.{Pieces}
use Rattle.draid_objects.specs.Blocks.{Blocks, Sets}
use Rattle.draid_objects.specs.Changes as changes
use Rattle.draid_objects.specs.Changes.{Change, Write, Wrote, write_of}
use Rattle.draid_objects.specs.Stores.{IsBehindChecks, IsBlockOf}
use Rattle.draid_objects.specs.Marks.{check_by, is_dropped}
use Rattle.draid_pool.proofs.Marked.{marked_later, max_up}
use Rattle.draid_objects.proofs.Finding.{changes_it, other_changes}
use Rattle.draid_entries.specs.declared.entry.Entry.{Entry}
use Rattle.draid_entries.specs.Entries.{entry_at, held_in}
use Rattle.draid_entries.specs.Maps.{held_at, key_of, staged}
use Rattle.draid_blocks.specs.declared.fault.Missed.{Missed}
use Rattle.draid_blocks.specs.declared.ticket.Ticket.{Ticket}
use Rattle.draid_shard.specs.Changes.{SetsBlock}
use Rattle.draid_shard.specs.Columns.{row_bytes}
use Rattle.draid_shard.specs.Fits.{Valid}
use Rattle.draid_shard.specs.Part.{Part}
use Rattle.draid_shard.specs.declared.shard.Shard.{Shard}
use Rattle.draid_shard.proofs.Held.{key_leads}
use Rattle.draid_session.specs.Holds.{Did, On, view_of}
use Rattle.draid_session.specs.Rooms.{stripes_for}
use Rattle.draid_session.specs.State.{Metaslab, State, Store}
use Rattle.draid_pool.specs.Bytes.{HasBytes, KnowsBlock}
use Rattle.draid_pool.proofs.Bytes.{same_bytes}
use Rattle.draid_pool.specs.Objects.{HasPieces, HoldsObjects, IsLastAt, blocks_of}
use Rattle.draid_pool.specs.Metaslabs.{IsMetaslab}
use Rattle.draid_pool.specs.Pools.{part_in}
use Rattle.draid_pool.proofs.Dids.{Done, did_quiet}
use Rattle.draid_pool.proofs.Lastly.{write_object}
use Rattle.draid_pool.proofs.Lists.{get_set_same, some_of}
use Rattle.draid_pool.proofs.Moved.{blocks_at, turn, turn_back, turn_here, with_metaslab}
use Rattle.draid_pool.proofs.Wholes.{put_elsewhere, put_here}
use Rattle.draid_objects.proofs.Imaging.{last_live}
use Rattle.draid_store.proofs.FreeKeeps.{same_key}
use Rattle.draid_store.proofs.PutSteps.{set_own}
use Rattle.draid_store.proofs.Opening.{behind_on}
use Rattle.draid_store.proofs.Written.{missed_holds, written_holds, written_only}
use Rattle.draid_pool.specs.Drifts.{Drifts, KeepsBytes}
use Rattle.draid_pool.specs.Follows.{FollowsBy}
use Rattle.draid_pool.specs.Threads.{Bounds, Between, HoldsBut, HoldsOwn, IsPointerAt, Knows, KnowsBut, LeadsBy, PointsAt, all_of, but, own_blocks, own_changes, own_store}
use Rattle.draid_store.specs.Open.{KnowsOpen, KnowsReplaced}
use Rattle.draid_store.specs.Writing.{EndsIn, FinishesShard}
use Rattle.draid_pool.proofs.ShardSteps.{at_here}
use Rattle.draid_pool.proofs.Finds.{Found, all_low, bound_in, found_ticket}
use Rattle.draid_pool.proofs.Hiding.{but_here, but_inside, seen_set, unhide}
use Rattle.draid_pool.proofs.BytesKept.{done_bytes, metaslab_key, other_bytes, with_key, with_own, with_same}
use Rattle.draid_pool.proofs.HoldStep.{f, follows, here, unseen_step}
use Rattle.draid_pool.proofs.Owning.{own_is, own_some, write_own}

writing_live : (c m : ℕ) → stage.Writing c m ≡ stage.Live → ⊥
writing_live c m e = cc

-- ---- what is known of own objects as a block came in sight, or none did

-- the places of live blocks but that of an earlier write
abbrev pub lives_of : (ℕ → Bool) → Option Write → ℕ → Key → Bool
lives_of owns None = all_of owns
lives_of owns (Some write) = but write.metaslab (changes.key_of write) (all_of owns)

module _ (owns : ℕ → Bool) (x : State) (pieces : ℕ → Pieces) (m : ℕ) (w : Write) (own : owns w.object ≡ true) (seq_is : w.seq ≡ x.store.seq + 1) (metaslab_is : w.metaslab ≡ m) (later : x.store.floor ≤ w.birth)
    (known : HoldsBut owns (but m (changes.key_of w) (all_of owns)) (but m (changes.key_of w) (all_of owns)) x pieces) (behind : (c : ℕ) → Bounds x c → IsBehindChecks c (own_store owns x.store).marks w.birth) where
  abbrev key : Key
  key = changes.key_of w

  abbrev old : Blocks
  old = own_blocks (but m (changes.key_of w) (all_of owns)) (blocks_of x.metaslabs)

  abbrev all : Blocks
  all = own_blocks (all_of owns) (blocks_of x.metaslabs)

  -- it came
  module _ (h : Held) (there : blocks_of x.metaslabs m (changes.key_of w) ≡ Some h) (live : h.stage ≡ stage.Live) (of : IsBlockOf sha256 w h) (has : HasPieces x.geometry w (pieces m)) where
    changes_are : own_changes owns (Wrote w ∷ x.store.changes) ≡ Wrote w ∷ own_changes owns x.store.changes
    changes_are = ap (λ b. cond b (Wrote w ∷ own_changes owns x.store.changes) (own_changes owns x.store.changes)) own

    set : Sets old all m key (Some h)
    set = seen_set (all_of owns) m key (blocks_of x.metaslabs) (Some h) own there

    set_at : Sets old all w.metaslab key (Some h)
    set_at = subst (λ k. Sets old all k key (Some h)) (sym metaslab_is) set

    abbrev store_then : Store
    store_then = record { changes = Wrote w ∷ x.store.changes; marks = x.store.marks; seq = x.store.seq + 1; floor = w.birth }

    pub came : (earlier : Option Write) → write_of x.store.changes w.object ≡ earlier → HoldsBut owns (all_of owns) (lives_of owns earlier) (record x { store = store_then }) pieces
    came earlier earlier_is = record {
      holds = λ c b. subst (λ cs. HoldsObjects x.geometry c (record { changes = cs; marks = (own_store owns x.store).marks; seq = x.store.seq + 1; floor = w.birth }) all pieces) (sym changes_are)
          (subst (λ ps. HoldsObjects x.geometry c (record { changes = Wrote w ∷ own_changes owns x.store.changes; marks = (own_store owns x.store).marks; seq = x.store.seq + 1; floor = w.birth }) all ps) (turn_back m pieces)
          (written_holds x.geometry c (own_store owns x.store) old pieces (known.holds c b) m w.object (pieces m) (λ k other. refl) w refl seq_is metaslab_is later all h live of set_at has (behind c b)));
      only = λ n k i there_i is_live counts. subst (λ cs. IsLastAt n k (write_of cs k.object)) (sym changes_are) (by earlier earlier_is n k i there_i is_live counts);
      checks = known.checks;
      marked = λ n v there_v. marked_later (max x.store.floor v.world.open_group) (max w.birth v.world.open_group) (own_store owns x.store).marks (max_up x.store.floor w.birth v.world.open_group later) (known.marked n v there_v);
    }
      where
        first : (n : ℕ) (k : Key) (i : Held) → all n k ≡ Some i → i.stage ≡ stage.Live → is_dropped (check_by (own_store owns x.store).marks) k ≡ false
            → IsLastAt n k (write_of (Wrote w ∷ own_changes owns x.store.changes) k.object) ⊎ IsLastAt n k (write_of (own_changes owns x.store.changes) w.object)
        first n k i there_i is_live counts = written_only x.geometry (bound_in x.metaslabs) (own_store owns x.store) old pieces (known.holds (bound_in x.metaslabs) (all_low x)) m w.object (pieces m) (λ j other. refl) w refl seq_is metaslab_is later all h live of set_at has known.only n k i there_i is_live counts

        by : (e : Option Write) → write_of x.store.changes w.object ≡ e → (n : ℕ) (k : Key) (i : Held) → own_blocks (lives_of owns e) (blocks_of x.metaslabs) n k ≡ Some i → i.stage ≡ stage.Live → is_dropped (check_by (own_store owns x.store).marks) k ≡ false
            → IsLastAt n k (write_of (Wrote w ∷ own_changes owns x.store.changes) k.object)
        by None e_is n k i there_i is_live counts = elim (first n k i there_i is_live counts) [
          | inl is ↦ is
          | inr was ↦ absurd (subst (IsLastAt n k) (write_own owns x.store.changes w.object own ∙ e_is) was)
        ]
        by (Some e) e_is n k i there_i is_live counts =
            let seen = own_some (but e.metaslab (changes.key_of e) (all_of owns)) (blocks_of x.metaslabs) n k i there_i in
            let seen_all = but_inside (all_of owns) e.metaslab (changes.key_of e) n k seen in
            elim (first n k i (own_is (all_of owns) (blocks_of x.metaslabs) n k seen_all ∙ (sym (own_is (but e.metaslab (changes.key_of e) (all_of owns)) (blocks_of x.metaslabs) n k seen) ∙ there_i)) is_live counts) [
              | inl is ↦ is
              | inr was ↦ (let z = subst (IsLastAt n k) (write_own owns x.store.changes w.object own ∙ e_is) was in absurd (is_hidden e n k seen z.0 z.1))
            ]
          where
            is_hidden : (v : Write) (n : ℕ) (k : Key) → but v.metaslab (changes.key_of v) (all_of owns) n k ≡ true → v.metaslab ≡ n → changes.key_of v ≡ k → ⊥
            is_hidden v n k seen at is = (let other = but_here (all_of owns) n (changes.key_of v) k (subst (λ j. but j (changes.key_of v) (all_of owns) n k ≡ true) at seen) in absurd (true≢false (sym (subst (λ j. key_eq (changes.key_of v) j ≡ true) is (key_refl (changes.key_of v))) ∙ other)))

-- nothing came: the number is used up
pub gone : (owns : ℕ → Bool) (x : State) (pieces : ℕ → Pieces) (m object group : ℕ) → x.store.floor ≤ group → HoldsOwn owns x pieces
    → HoldsOwn owns (record x { store = record { changes = x.store.changes; marks = x.store.marks; seq = x.store.seq + 1; floor = group } }) pieces
gone owns x pieces m object group later h = record {
  holds = λ c b. subst (λ ps. HoldsObjects x.geometry c (record { changes = own_changes owns x.store.changes; marks = (own_store owns x.store).marks; seq = x.store.seq + 1; floor = group }) (own_blocks (all_of owns) (blocks_of x.metaslabs)) ps) (turn_back m pieces)
      (missed_holds x.geometry c (own_store owns x.store) (own_blocks (all_of owns) (blocks_of x.metaslabs)) pieces (h.holds c b) m object (pieces m) (λ k other. refl) group later);
  only = h.only;
  checks = h.checks;
  marked = λ n v there_v. marked_later (max x.store.floor v.world.open_group) (max group v.world.open_group) (own_store owns x.store).marks (max_up x.store.floor group v.world.open_group later) (h.marked n v there_v);
}

-- ---- the hold

module _ {R A S : Type 0} (rack : racks.Ghosts R) (area : areas.Ghosts A) (went : S → ℕ → Shard R A → Shard R A → S → Type 0) (shared : Bool) (owns : ℕ → Bool) (a b : S) (last new : ℕ → Option (Shard R A)) (m : ℕ)
    (shard before after : Shard R A) (there : last m ≡ Some shard) (drifts : Drifts rack area shared owns shard before) (valid : Valid rack after)
    (is : (k : ℕ) → new k ≡ (if k == m then Some after else last k)) (goes : went a m before after b) (table : ℕ → Option Pointer) (seq floor : ℕ) (x : State)
    (ticket : Ticket) (block : BlockValue) (open_ : KnowsOpen rack area owns last table seq floor m ticket block x) where
  abbrev seen : ℕ → Key → Bool
  seen = but m (key_of ticket.pointer) (all_of owns)

  abbrev z : Found rack area shared owns (part_in x m) (open_.pieces m) (here rack area went shared owns a b last new m shard before after there drifts valid is goes seen seen table seq floor open_.pieces x open_.but_it).0 before
  z = f rack area went shared owns a b last new m shard before after there drifts valid is goes seen seen table seq floor open_.pieces x open_.but_it

  abbrev pieces_then : ℕ → Pieces
  pieces_then = turn m z.now open_.pieces

  module _ (result : _) (fin : FinishesShard rack before ticket block result after) (entry : Option Entry) (sets : SetsBlock before after ticket.pointer entry) where
    led : held_in before.entries (key_of ticket.pointer) ≡ Some (held_at (staged (stage.Writing ticket.next ticket.missed) ticket.pointer))
    led = key_leads before.entries ticket.pointer.first (staged (stage.Writing ticket.next ticket.missed) ticket.pointer) fin.carried.is_open

    -- its pieces are those that it had
    pub pieces_stay : z.now (key_of ticket.pointer) ≡ open_.pieces m (key_of ticket.pointer)
    pieces_stay =
        let y = here rack area went shared owns a b last new m shard before after there drifts valid is goes seen seen table seq floor open_.pieces x open_.but_it in
        found_ticket rack area shared owns shard before drifts (part_in x m) (open_.pieces m) z.now y.0 y.2 (key_of ticket.pointer)
        (held_at (staged (stage.Writing ticket.next ticket.missed) ticket.pointer)) open_.own led refl (z.same (key_of ticket.pointer) open_.own)

    -- its bytes are known
    ended_has : (h : Held) → z.z.world.core.held (key_of ticket.pointer) ≡ Some h → HasBytes x.geometry h (key_of ticket.pointer) z.now
    ended_has h at = subst (λ (i : Held). HasBytes x.geometry i (key_of ticket.pointer) z.now)
        (some_of (z.z.world.core.held (key_of ticket.pointer)) (held_at (staged (stage.Writing ticket.next ticket.missed) ticket.pointer)) h (z.is.stands.is_in.held (key_of ticket.pointer) ∙ led) at)
        (record {
          content = block.bytes;
          len = fin.carried.content.len;
          digest = fin.carried.content.digest;
          bytes = fin.carried.content.bytes;
          columns = block.columns;
          are = subst (λ cut. AreColumns cut block.bytes block.columns) (fin.carried.cut ∙ ap (λ (q : Part). cut_of q.geometry) z.is.part_is) fin.carried.columns;
          rows = λ c r below inside. ap (λ f. f c r) pieces_stay ∙ open_.rows c r (subst (λ n. c < n) (sym (fin.all ∙ ap (λ (q : Part). q.geometry.g) z.is.part_is)) below) inside;
        })

    ended_bytes : (h : Held) → z.z.world.core.held (key_of ticket.pointer) ≡ Some h → KnowsBlock x.geometry h (key_of ticket.pointer) z.now
    ended_bytes h at column row some = ended_has h at

    -- whatever the pieces of other blocks
    no_block : (h : Held) → z.z.world.core.held (key_of ticket.pointer) ≡ Some h → is_block h.stage ≡ false
    no_block h at =
        let same = some_of (z.z.world.core.held (key_of ticket.pointer)) (held_at (staged (stage.Writing ticket.next ticket.missed) ticket.pointer)) h (z.is.stands.is_in.held (key_of ticket.pointer) ∙ led) at in
        ap (λ (i : Held). is_block i.stage) (sym same)

    bytes : KeepsBytes rack area (part_in x m) before z.z after
    bytes pieces is has =
        let key = key_of ticket.pointer in
        let all = with_key key z.now pieces in
        let stands = metaslab_key rack area (part_in x m) key z.now pieces before z.z z.is is in
        let own : (h : Held) → z.z.world.core.held key ≡ Some h → HasBytes x.geometry h key all = λ h at. same_bytes x.geometry h key z.now all (with_own key z.now pieces) (ended_has h at) in
        let does = did_quiet rack area (part_in x m) all before after (event.Finish key) z.z stands valid fin.does fin.kit fin.reserve (λ w after step s t same. same) (λ v step. refl) refl refl tt (λ h at column row some. own h at) in
        done_bytes rack area (part_in x m) all all before after z.z (event.Finish key) stands does own
        (other_bytes rack area (part_in x m) key pieces all z.z (with_same key z.now pieces) no_block has)

    pub d : Done rack area (part_in x m) z.now after (event.Finish (key_of ticket.pointer)) z.z
    d = did_quiet rack area (part_in x m) z.now before after (event.Finish (key_of ticket.pointer)) z.z z.is valid fin.does fin.kit fin.reserve (λ w after step s t same. same) (λ v step. refl) refl refl tt ended_bytes

    abbrev x_then : State
    x_then = with_metaslab x m d.reached

    is_ticket : (h : Held) → held_in before.entries (key_of ticket.pointer) ≡ Some h → h.stage ≡ stage.Live → ⊥
    is_ticket h there_h live =
        let same : held_at (staged (stage.Writing ticket.next ticket.missed) ticket.pointer) ≡ h = some_of (held_in before.entries (key_of ticket.pointer)) (held_at (staged (stage.Writing ticket.next ticket.missed) ticket.pointer)) h led there_h in
        writing_live ticket.next ticket.missed (ap (λ (i : Held). i.stage) same ∙ live)

    -- all else, as it is then
    pub stepped : KnowsBut rack area owns seen seen new table seq floor pieces_then x_then
    stepped = unseen_step rack area went shared owns a b last new m shard before after there drifts valid is goes seen seen table seq floor open_.pieces x open_.but_it ticket.pointer entry sets fin.does.part is_ticket
        (but_here (all_of owns) m (key_of ticket.pointer)) (but_here (all_of owns) m (key_of ticket.pointer))
        (λ k seen_k. but_inside (all_of owns) m (key_of ticket.pointer) m k seen_k) (λ k seen_k. but_inside (all_of owns) m (key_of ticket.pointer) m k seen_k) d.reached z.now d.is (λ k other. refl)

    -- what is there
    pub at_it : blocks_of x_then.metaslabs m (key_of ticket.pointer) ≡ option_map held_at entry
    at_it = blocks_at x_then.metaslabs m d.reached (key_of ticket.pointer) (get_set_same x.metaslabs m (here rack area went shared owns a b last new m shard before after there drifts valid is goes seen seen table seq floor open_.pieces x open_.but_it).0 d.reached
        (here rack area went shared owns a b last new m shard before after there drifts valid is goes seen seen table seq floor open_.pieces x open_.but_it).1)
        ∙ (d.is.stands.is_in.held (key_of ticket.pointer) ∙ (sets.entry.held (key_of ticket.pointer) ∙ set_own (held_in before.entries) (key_of ticket.pointer) (option_map held_at entry)))

    pub ends : EndsIn m (key_of ticket.pointer) ticket.missed (On (view_of m z.z) (Did (event.Finish (key_of ticket.pointer)) d.reached.world) ∷ [])
    ends = record {
      v = view_of m z.z;
      ended = d.reached.world;
      are = refl;
      there = refl;
      missed = record { h = held_at (staged (stage.Writing ticket.next ticket.missed) ticket.pointer); put = ticket.next; found = z.is.stands.is_in.held (key_of ticket.pointer) ∙ led; stage = refl };
    }

    pub followed : FollowsBy (Between rack area went shared (part_in x)) (λ s t u v. ⊥) a (On (view_of m z.z) (Did (event.Finish (key_of ticket.pointer)) d.reached.world) ∷ []) x b x_then
    followed = follows rack area went shared owns a b last new m shard before after there drifts valid is goes seen seen table seq floor open_.pieces x open_.but_it
        (Did (event.Finish (key_of ticket.pointer)) d.reached.world) d.reached z.now d.is d.acts (λ same. absurd (cc)) bytes

  -- ---- more columns than the parity landed nowhere

  pub missed_step : (missed : Missed) (fin : FinishesShard rack before ticket block (Err missed) after)
      → LeadsBy rack area went shared a b x (λ holds store. EndsIn m (key_of ticket.pointer) ticket.missed holds × (x.geometry.spec.parity < ticket.missed) × (store ≡ record { changes = x.store.changes; marks = x.store.marks; seq = x.store.seq + 1; floor = ticket.pointer.birth }))
      (Knows rack area owns new table (seq + 1) ticket.pointer.birth)
  missed_step missed fin = record {
    holds = _;
    reached = with_metaslab x m (d (Err missed) fin None fin.ends.2).reached;
    store = record { changes = x.store.changes; marks = x.store.marks; seq = x.store.seq + 1; floor = ticket.pointer.birth };
    follows = followed (Err missed) fin None fin.ends.2;
    done = (ends (Err missed) fin None fin.ends.2, subst (λ n. n < ticket.missed) (ap (λ (q : Part). q.geometry.spec.parity) z.is.part_is) fin.ends.1, refl);
    knows = record {
      pieces = pieces_then;
      but_it = record {
        each = s.each;
        holds = gone owns (with_metaslab x m (d (Err missed) fin None fin.ends.2).reached) pieces_then m ticket.pointer.object ticket.pointer.birth (let low = s.floor in let born = open_.born in omega (arith, low, born))
            (unhide owns (with_metaslab x m (d (Err missed) fin None fin.ends.2).reached) pieces_then m (key_of ticket.pointer)
            (own_is (all_of owns) (blocks_of (with_metaslab x m (d (Err missed) fin None fin.ends.2).reached).metaslabs) m (key_of ticket.pointer) open_.own ∙ at_it (Err missed) fin None fin.ends.2) s.holds);
        objects = s.objects;
        seq = (let n = s.seq in omega (arith, n));
        floor = refl;
      };
    };
  }
    where
      s : KnowsBut rack area owns seen seen new table seq floor pieces_then (with_metaslab x m (d (Err missed) fin None fin.ends.2).reached)
      s = stepped (Err missed) fin None fin.ends.2

  -- ---- the block is live

  pub stored_step : (pointer : Pointer) (fin : FinishesShard rack before ticket block (Ok pointer) after) (table_then : ℕ → Option Pointer)
      → ((q : ℕ) → table_then q ≡ cond (nat_eq ticket.pointer.object q) (Some pointer) (table q)) → ticket.next ≡ x.geometry.g
      → LeadsBy rack area went shared a b x
      (λ holds store. EndsIn m (key_of ticket.pointer) ticket.missed holds × (ticket.missed ≤ x.geometry.spec.parity)
      × (store ≡ record { changes = Wrote (record { object = ticket.pointer.object; seq = x.store.seq + 1; metaslab = m; birth = ticket.pointer.birth; bytes = block.bytes }) ∷ x.store.changes; marks = x.store.marks; seq = x.store.seq + 1; floor = ticket.pointer.birth }))
      (KnowsReplaced rack area owns new table_then (seq + 1) ticket.pointer.birth (table ticket.pointer.object) (write_of x.store.changes ticket.pointer.object))
  stored_step pointer fin table_then sets_table whole = record {
    holds = _;
    reached = x_now;
    store = store_then;
    follows = followed (Ok pointer) fin (Some (staged stage.Live ticket.pointer)) fin.ends.2;
    done = (ends (Ok pointer) fin (Some (staged stage.Live ticket.pointer)) fin.ends.2, subst (λ n. ticket.missed ≤ n) (ap (λ (q : Part). q.geometry.spec.parity) z.is.part_is) fin.ends.1, refl);
    knows = replaced (table ticket.pointer.object) (write_of x.store.changes ticket.pointer.object) refl (s.objects ticket.pointer.object open_.own);
  }
    where
      d_now : Done rack area (part_in x m) z.now after (event.Finish (key_of ticket.pointer)) z.z
      d_now = d (Ok pointer) fin (Some (staged stage.Live ticket.pointer)) fin.ends.2

      x_now : State
      x_now = with_metaslab x m d_now.reached

      w : Write
      w = record { object = ticket.pointer.object; seq = x.store.seq + 1; metaslab = m; birth = ticket.pointer.birth; bytes = block.bytes }

      store_then : Store
      store_then = record { changes = Wrote w ∷ x.store.changes; marks = x.store.marks; seq = x.store.seq + 1; floor = ticket.pointer.birth }

      s : KnowsBut rack area owns seen seen new table seq floor pieces_then x_now
      s = stepped (Ok pointer) fin (Some (staged stage.Live ticket.pointer)) fin.ends.2

      key_w : key_of ticket.pointer ≡ changes.key_of w
      key_w = λ i. record { object = ticket.pointer.object; seq = seq_w i }
        where
          seq_w : ticket.pointer.seq ≡ x.store.seq + 1
          seq_w = (let next = open_.next in let have = open_.but_it.seq in omega (arith, next, have))

      hidden : HoldsBut owns (but m (changes.key_of w) (all_of owns)) (but m (changes.key_of w) (all_of owns)) x_now pieces_then
      hidden = subst (λ k. HoldsBut owns (but m k (all_of owns)) (but m k (all_of owns)) x_now pieces_then) key_w s.holds

      at_w : blocks_of x_now.metaslabs m (changes.key_of w) ≡ Some (held_at (staged stage.Live ticket.pointer))
      at_w = subst (λ k. blocks_of x_now.metaslabs m k ≡ Some (held_at (staged stage.Live ticket.pointer))) key_w (at_it (Ok pointer) fin (Some (staged stage.Live ticket.pointer)) fin.ends.2)

      of_block : IsBlockOf sha256 w (held_at (staged stage.Live ticket.pointer))
      of_block = record { birth = refl; len = sym fin.carried.content.len; digest_is = sym fin.carried.content.digest }

      stripes : ticket.pointer.stripes ≡ stripes_for x.geometry block.bytes
      stripes =
          let block_is = (drifts.valid.tables.placed ticket.pointer.first _ fin.carried.is_open).is_block in
          block_is.stripes ∙ ap₂ stripes_of (ap (λ (q : Part). cut_of q.geometry) z.is.part_is) (sym fin.carried.content.len)

      has : HasPieces x.geometry w (pieces_then m)
      has = record {
        content = block.bytes;
        len = refl;
        digest = refl;
        bytes = fin.carried.content.bytes;
        columns = block.columns;
        are = subst (λ cut. AreColumns cut block.bytes block.columns) (fin.carried.cut ∙ ap (λ (q : Part). cut_of q.geometry) z.is.part_is) fin.carried.columns;
        rows = λ c row column inside.
            ap (λ (q : Pieces). q (changes.key_of w) c row) (turn_here m z.now open_.pieces)
            ∙ subst (λ k. z.now k c row ≡ Some (row_bytes x.geometry.props.sector (column_at block.columns c) row)) key_w (ap (λ h. h c row) (pieces_stay (Ok pointer) fin (Some (staged stage.Live ticket.pointer)) fin.ends.2)
            ∙ open_.rows c row (subst (λ n. c < n) (sym whole) column) (subst (λ n. row < n) (sym stripes) inside));
      }

      late : x.store.floor ≤ ticket.pointer.birth
      late = (let low = open_.but_it.floor in let born = open_.born in omega (arith, low, born))

      y_was : (y : Metaslab) × (slice_get x.metaslabs m ≡ Some y) × IsMetaslab rack area (part_in x m) (open_.pieces m) shard y
      y_was = here rack area went shared owns a b last new m shard before after there drifts valid is goes seen seen table seq floor open_.pieces x open_.but_it

      ended_later : y_was.0.world.committed ≤ d_now.reached.world.committed
      ended_later =
          let was = y_was.2.stands.is_in.committed in
          let up = drifts.later in
          let same = fin.ends.2.groups.committed in
          let reached_is = d_now.is.stands.is_in.committed in
          omega (arith, was, up, same, reached_is)

      known : (was : Option Write) → write_of x.store.changes ticket.pointer.object ≡ was → HoldsBut owns (all_of owns) (lives_of owns was) (record x_now { store = store_then }) pieces_then
      known was was_is = came owns x_now pieces_then m w open_.own refl refl late hidden (behind_on x m y_was.0 d_now.reached y_was.1 ended_later (own_store owns x.store).marks ticket.pointer.birth open_.behind) (held_at (staged stage.Live ticket.pointer)) at_w refl of_block has was was_is

      itself : IsPointerAt new ticket.pointer w
      itself = record {
        object_is = refl;
        seq_is = ap (λ (k : Key). k.seq) key_w;
        metaslab_is = open_.at;
        birth_is = refl;
        len_is = sym fin.carried.content.len;
        digest_is = sym fin.carried.content.digest;
        shard = after;
        there = ap new open_.at ∙ at_here rack area shared owns last new m shard before after there drifts (here rack area went shared owns a b last new m shard before after there drifts valid is goes seen seen table seq floor open_.pieces x open_.but_it).2.valid valid is;
        live = fin.ends.2.entry.at ticket.pointer.first ∙ ap (λ t. if t then Some (staged stage.Live ticket.pointer) else entry_at before.entries ticket.pointer.first) (equal ticket.pointer.first ticket.pointer.first refl);
      }

      points : (q : ℕ) → owns q ≡ true → PointsAt new (table_then q) (write_of store_then.changes q)
      points q own_q = dite (ℕ_discrete ticket.pointer.object q)
          (λ same.
          let t : table_then q ≡ Some pointer = put_here (table_then q) (table q) ticket.pointer.object q (Some pointer) (sets_table q) same in
          let v : write_of store_then.changes q ≡ Some w = changes_it (Wrote w) x.store.changes q (equal ticket.pointer.object q same) in
          subst (λ o. PointsAt new o (write_of store_then.changes q)) (sym (t ∙ ap Some fin.ends.0)) (subst (λ o. PointsAt new (Some ticket.pointer) o) (sym v) itself))
          (λ not.
          let t : table_then q ≡ table q = put_elsewhere (table_then q) (table q) ticket.pointer.object q (Some pointer) (sets_table q) not in
          let v : write_of store_then.changes q ≡ write_of x.store.changes q = other_changes (Wrote w) x.store.changes q (ne_eqb ticket.pointer.object q not) in
          subst (λ o. PointsAt new o (write_of store_then.changes q)) (sym t) (subst (λ o. PointsAt new (table q) o) (sym v) (s.objects q own_q)))

      number : x.store.seq + 1 ≡ seq + 1
      number = (let n = open_.but_it.seq in omega (arith, n))

      replaced : (had : Option Pointer) (was : Option Write) → write_of x.store.changes ticket.pointer.object ≡ was → PointsAt new had was
          → KnowsReplaced rack area owns new table_then (seq + 1) ticket.pointer.birth had was (record x_now { store = store_then })
      replaced None None was_is pt = (refl, record { pieces = pieces_then; but_it = record { each = s.each; holds = known None was_is; objects = points; seq = number; floor = refl } })
      replaced None (Some we) was_is pt = absurd pt
      replaced (Some e) None was_is pt = absurd pt
      replaced (Some e) (Some we) was_is pt = (
        we,
        refl,
        record {
          pieces = pieces_then;
          but_it = record {
            each = s.each;
            holds = subst (λ (t : ℕ × Key). HoldsBut owns (all_of owns) (but t.0 t.1 (all_of owns)) (record x_now { store = store_then }) pieces_then) (λ i. (sym pt.metaslab_is i, sym (same_key e we pt.object_is pt.seq_is) i)) (known (Some we) was_is);
            objects = points;
            seq = number;
            floor = refl;
          };
          own = ap owns of_object ∙ open_.own;
          had = pt;
          newer = w;
          is_last = changes_it (Wrote w) x.store.changes e.object (equal ticket.pointer.object e.object (sym of_object));
          later = (let low = older in let own_seq = pt.seq_is in omega (arith, low, own_seq));
        },
      )
        where
          of_object : e.object ≡ ticket.pointer.object
          of_object = pt.object_is ∙ write_object x.store.changes ticket.pointer.object we was_is

          older : we.seq ≤ x.store.seq
          older =
              let h = hidden.holds (bound_in x_now.metaslabs) (all_low x_now) in
              let found = last_live sha256 (bound_in x_now.metaslabs) ticket.pointer.object (own_changes owns x.store.changes) (own_store owns x.store).marks
              (own_blocks (but m (changes.key_of w) (all_of owns)) (blocks_of x_now.metaslabs)) we h.stores (write_own owns x.store.changes ticket.pointer.object open_.own ∙ was_is) in
              h.numbered we.metaslab (changes.key_of we) found.0 found.1
