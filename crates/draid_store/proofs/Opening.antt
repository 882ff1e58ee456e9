-- A write of a thread's own, hold by hold, by what the thread knows of a pool's state: a ticket is opened, and a column is put.
use Rattle.std.proofs.Common.{◌≡◌, ◌==◌, ◌≤◌, ◌+◌, ◌∙◌, inl, inr, arith, ℕ, Bool, true, false, [], ◌∷◌, List, Option, Some, refl, sym, ap, ap₂, subst, max, if◌then◌else◌}
use Rattle.draid_names.specs.declared.numbers.TheConstants.{LAST_NUMBER}
use Rattle.draid_names.specs.declared.pointer.Pointer.{Pointer}
use Rattle.draid_rack.specs.declared.Rack as racks
use Rattle.draid_area.specs.declared.Area as areas
use Rattle.draid_block.specs.Blocks.{BlockValue, cut_of}
use Rattle.draid_block.specs.Columns.{stripes_of}
use Rattle.std.specs.Prelude.{slice_get}
use Rattle.draid_machine.specs.declared.event.Event.TheVariants as event
use Rattle.draid_machine.specs.declared.names.Key.{Key}
use Rattle.draid_machine.specs.declared.names.Held.{Held}
use Rattle.draid_machine.specs.declared.names.Stage.TheVariants as stage
use Rattle.draid_machine.specs.Names.{is_block}
use Rattle.draid_machine.proofs.Small.{none_some}
use Rattle.draid_segments.specs.Segments.{Pieces}
use Rattle.draid_entries.specs.Entries.{begun, held_in}
use Rattle.draid_entries.specs.Maps.{held_at, key_of, staged}
use Rattle.draid_blocks.specs.Tickets.{begins}
use Rattle.draid_blocks.specs.declared.ticket.Ticket.{Ticket}
use Rattle.draid_shard.specs.Calls.{SameKit, SameReserve}
use Rattle.draid_shard.specs.Columns.{ArePieces}
use Rattle.draid_shard.specs.Fits.{Valid}
use Rattle.draid_shard.specs.Part.{Part}
use Rattle.draid_shard.specs.Rooms.{IsWornFor}
use Rattle.draid_shard.specs.declared.shard.Shard.{Shard}
use Rattle.draid_shard.proofs.Held.{key_leads}
use Rattle.draid_session.specs.Holds.{Did, Hold, On, view_of}
use Rattle.draid_session.specs.Rooms.{IsShut}
use Rattle.draid_session.specs.State.{Metaslab, State}
use Rattle.draid_session.specs.Writes.{PutsColumn}
use Rattle.draid_pool.specs.Pools.{part_in}
use Rattle.draid_pool.specs.Metaslabs.{IsMetaslab}
use Rattle.draid_objects.specs.Marks.{Mark}
use Rattle.draid_objects.specs.Stores.{IsBehindChecks}
use Rattle.draid_pool.proofs.Dids.{Done, did_quiet}
use Rattle.draid_pool.proofs.Lists.{get_set_same, some_of}
use Rattle.draid_pool.proofs.Marked.{behind_later}
use Rattle.draid_pool.proofs.Owning.{bound_before}
use Rattle.draid_pool.proofs.Moved.{turn, turn_here, with_metaslab}
use Rattle.draid_pool.proofs.Roomy.{worn_for}
use Rattle.draid_pool.specs.Drifts.{Drifts, KeepsBytes}
use Rattle.draid_pool.specs.Threads.{Bounds, Knows, KnowsBut, LeadsBy, all_of, but, own_store}
use Rattle.draid_store.specs.Open.{KnowsOpen}
use Rattle.draid_store.specs.Writing.{BeginsBlock, BeginsIn, PutsShard}
use Rattle.draid_store.proofs.Column.{column_for, one_column_more, others_same, put_column}
use Rattle.draid_pool.proofs.Finds.{Found, found_ticket}
use Rattle.draid_pool.proofs.Hiding.{but_here, but_inside, hide, unused_own}
use Rattle.draid_pool.proofs.BytesKept.{done_bytes, other_bytes}
use Rattle.draid_pool.proofs.HoldStep.{f, follows, here, unseen_step}

writing_live : (c m : ℕ) → stage.Writing c m ≡ stage.Live → ⊥
writing_live c m e = cc

-- what is known of all is known of all but a place where nothing is
pub all_but : {R A : Type 0} (rack : racks.Ghosts R) (area : areas.Ghosts A) (owns : ℕ → Bool) (last : ℕ → Option (Shard R A)) (table : ℕ → Option Pointer) (seq floor m : ℕ) (key : Key) (x : State) (knows : Knows rack area owns last table seq floor x)
    → key.seq ≡ seq + 1 → KnowsBut rack area owns (but m key (all_of owns)) (but m key (all_of owns)) last table seq floor knows.pieces x
all_but rack area owns last table seq floor m key x knows next = record {
  each = knows.but_it.each;
  holds = hide owns x knows.pieces m key (unused_own owns x knows.pieces m key (let a = knows.but_it.seq in omega (arith, a, next)) knows.but_it.holds) knows.but_it.holds;
  objects = knows.but_it.objects;
  seq = knows.but_it.seq;
  floor = knows.but_it.floor;
}

-- a group that is behind each checkpoint stays so as a metaslab goes on
pub behind_on : (x : State) (m : ℕ) (y z : Metaslab) → slice_get x.metaslabs m ≡ Some y → y.world.committed ≤ z.world.committed → (marks : List Mark) (group : ℕ) → ((c : ℕ) → Bounds x c → IsBehindChecks c marks group)
    → (c : ℕ) → Bounds (with_metaslab x m z) c → IsBehindChecks c marks group
behind_on x m y z at later marks group behind c b = behind c (bound_before x m y z at c later b)

module _ {R A S : Type 0} (rack : racks.Ghosts R) (area : areas.Ghosts A) (went : S → ℕ → Shard R A → Shard R A → S → Type 0) (shared : Bool) (owns : ℕ → Bool) (a b : S) (last new : ℕ → Option (Shard R A)) (m : ℕ)
    (shard before after : Shard R A) (there : last m ≡ Some shard) (drifts : Drifts rack area shared owns shard before) (valid : Valid rack after)
    (is : (k : ℕ) → new k ≡ (if k == m then Some after else last k)) (goes : went a m before after b) (table : ℕ → Option Pointer) (seq floor : ℕ) (x : State) where
  -- ---- a ticket is opened

  module _ (knows : Knows rack area owns last table seq floor x) (object : ℕ) (block : BlockValue) (ticket : Ticket) (own : owns object ≡ true) (begin : BeginsBlock rack before object (seq + 1) floor block ticket after)
      (kit : SameKit before after) (reserve : SameReserve before after) where
    p : Pointer
    p = ticket.pointer

    key_is : key_of ticket.pointer ≡ record { object = object; seq = seq + 1 }
    key_is = λ i. record { object = begin.opens.named.object_is i; seq = begin.opens.named.seq_is i }

    known : KnowsBut rack area owns (but m (key_of ticket.pointer) (all_of owns)) (but m (key_of ticket.pointer) (all_of owns)) last table seq floor knows.pieces x
    known = all_but rack area owns last table seq floor m (key_of ticket.pointer) x knows begin.opens.named.seq_is

    abbrev mine : ℕ → Key → Bool
    mine = but m (key_of ticket.pointer) (all_of owns)

    abbrev z : Found rack area shared owns (part_in x m) (knows.pieces m) (here rack area went shared owns a b last new m shard before after there drifts valid is goes mine mine table seq floor knows.pieces x known).0 before
    z = f rack area went shared owns a b last new m shard before after there drifts valid is goes mine mine table seq floor knows.pieces x known

    d : Done rack area (part_in x m) z.now after (begins ticket.pointer) z.z
    d = did_quiet rack area (part_in x m) z.now before after (begins ticket.pointer) z.z z.is valid begin.does kit reserve (λ w after step s t same. same) (λ v step. refl) refl refl tt tt

    bytes : KeepsBytes rack area (part_in x m) before z.z after
    bytes pieces is has =
        let does = did_quiet rack area (part_in x m) pieces before after (begins ticket.pointer) z.z is valid begin.does kit reserve (λ w after step s t same. same) (λ v step. refl) refl refl tt tt in
        done_bytes rack area (part_in x m) pieces pieces before after z.z (begins ticket.pointer) is does tt has

    not_live : (h : Held) → held_in before.entries (key_of ticket.pointer) ≡ Some h → h.stage ≡ stage.Live → ⊥
    not_live h there_h live = none_some (held_in before.entries (key_of ticket.pointer)) h (ap (held_in before.entries) key_is ∙ begin.unused) there_h

    open_takes : IsShut x.geometry (view_of m z.z) → ⊥
    open_takes shut = elim shut [
      | inl disabled ↦ disabled d.step.enabled
      | inr rest ↦ elim rest [
        | inl full ↦ full.full d.step.few
        | inr worn ↦ begin.not_worn (subst (IsWornFor before) (ap (λ (q : Part). q.geometry.g + 3) (sym z.is.part_is)) (worn_for rack area (part_in x m) z.now before z.z m (x.geometry.g + 3) z.is worn.worn))
      ]
    ]

    abbrev y_begun : (y : Metaslab) × (slice_get x.metaslabs m ≡ Some y) × IsMetaslab rack area (part_in x m) (knows.pieces m) shard y
    y_begun = here rack area went shared owns a b last new m shard before after there drifts valid is goes mine mine table seq floor knows.pieces x known

    begun_known : KnowsBut rack area owns mine mine new table seq floor (turn m z.now knows.pieces) (with_metaslab x m d.reached)
    begun_known =
        unseen_step rack area went shared owns a b last new m shard before after there drifts valid is goes mine mine table seq floor knows.pieces x known ticket.pointer (Some (begun ticket.pointer)) begin.opens.enters begin.does.part
        not_live (but_here (all_of owns) m (key_of ticket.pointer)) (but_here (all_of owns) m (key_of ticket.pointer))
        (λ k seen. but_inside (all_of owns) m (key_of ticket.pointer) m k seen) (λ k seen. but_inside (all_of owns) m (key_of ticket.pointer) m k seen) d.reached z.now d.is (λ k other. refl)

    begun_behind : (c : ℕ) → Bounds (with_metaslab x m d.reached) c → IsBehindChecks c (own_store owns x.store).marks ticket.pointer.birth
    begun_behind c b =
        let reached_is = d.is.stands.is_in.open_group_is in
        let same = begin.opens.enters.groups.open_group_is in
        let birth = begin.opens.named.birth_is in
        behind_later c c d.reached.world.open_group ticket.pointer.birth (own_store owns x.store).marks (omega arith) (omega (arith, reached_is, same, birth))
        (begun_known.holds.checks c b m d.reached (get_set_same x.metaslabs m y_begun.0 d.reached y_begun.1))

    pub begin_step : LeadsBy rack area went shared a b x (λ holds store. (store ≡ x.store) × BeginsIn x.geometry m floor ticket.pointer block.bytes holds) (KnowsOpen rack area owns new table seq floor m ticket block)
    begin_step = record {
      holds = On (view_of m z.z) (Did (begins ticket.pointer) d.reached.world) ∷ [];
      reached = with_metaslab x m d.reached;
      store = x.store;
      follows = follows rack area went shared owns a b last new m shard before after there drifts valid is goes mine mine table seq floor knows.pieces x known (Did (begins ticket.pointer) d.reached.world) d.reached z.now d.is d.acts (λ same. absurd (cc)) bytes;
      done = (
        refl,
        record {
          v = view_of m z.z;
          begun = d.reached.world;
          are = refl;
          there = refl;
          takes_blocks = open_takes;
          birth_is = begin.opens.named.birth_is ∙ ap (λ g. max g floor) (sym z.is.stands.is_in.open_group_is);
          stripes_are = (valid.tables.placed ticket.pointer.first _ begin.opens.carries.is_open).is_block.stripes ∙ ap₂ stripes_of (ap (λ (q : Part). cut_of q.geometry) (begin.does.part ∙ z.is.part_is)) (sym begin.opens.carries.content.len);
          len_is = sym begin.opens.carries.content.len;
          digest_is = sym begin.opens.carries.content.digest;
        },
      );
      knows = record {
        pieces = turn m z.now knows.pieces;
        but_it = begun_known;
        own = ap owns begin.opens.named.object_is ∙ own;
        next = begin.opens.named.seq_is;
        at = begin.opens.named.metaslab_is ∙ ap (λ (q : Part). q.number) z.is.part_is;
        born = (let birth = begin.opens.named.birth_is in omega (arith, birth));
        low = (let birth = begin.opens.named.birth_is in let low = begin.low in omega (arith, birth, low));
        behind = begun_behind;
        rows = λ c row less inside. absurd (let none = begin.opens.named.fresh.0 in omega (arith, less, none));
      };
    }

  -- ---- a column is put

  module _ (ticket now : Ticket) (block : BlockValue) (open_ : KnowsOpen rack area owns last table seq floor m ticket block x) (put : PutsShard rack before ticket block now after) where
    abbrev seen : ℕ → Key → Bool
    seen = but m (key_of ticket.pointer) (all_of owns)

    abbrev g : Found rack area shared owns (part_in x m) (open_.pieces m) (here rack area went shared owns a b last new m shard before after there drifts valid is goes seen seen table seq floor open_.pieces x open_.but_it).0 before
    g = f rack area went shared owns a b last new m shard before after there drifts valid is goes seen seen table seq floor open_.pieces x open_.but_it

    abbrev columns_now : Pieces
    columns_now = column_for (key_of ticket.pointer) ticket.next before.geometry.props.sector block.columns g.now

    e : Done rack area (part_in x m) columns_now after (event.Put (key_of ticket.pointer) put.puts.landed put.puts.failed) g.z
    e = put_column rack area before after ticket now block valid put.areas_are put.reserve put.puts put.carried (part_in x m) g.now g.z g.is

    is_ticket : (h : Held) → held_in before.entries (key_of ticket.pointer) ≡ Some h → h.stage ≡ stage.Live → ⊥
    is_ticket h there_h live =
        let led = key_leads before.entries ticket.pointer.first (staged (stage.Writing ticket.next ticket.missed) ticket.pointer) put.carried.is_open in
        let same : held_at (staged (stage.Writing ticket.next ticket.missed) ticket.pointer) ≡ h = some_of (held_in before.entries (key_of ticket.pointer)) (held_at (staged (stage.Writing ticket.next ticket.missed) ticket.pointer)) h led there_h in
        writing_live ticket.next ticket.missed (ap (λ (i : Held). i.stage) same ∙ live)

    no_block : (h : Held) → g.z.world.core.held (key_of ticket.pointer) ≡ Some h → is_block h.stage ≡ false
    no_block h at =
        let led = key_leads before.entries ticket.pointer.first (staged (stage.Writing ticket.next ticket.missed) ticket.pointer) put.carried.is_open in
        let same = some_of (g.z.world.core.held (key_of ticket.pointer)) (held_at (staged (stage.Writing ticket.next ticket.missed) ticket.pointer)) h (g.is.stands.is_in.held (key_of ticket.pointer) ∙ led) at in
        ap (λ (i : Held). is_block i.stage) (sym same)

    put_bytes : KeepsBytes rack area (part_in x m) before g.z after
    put_bytes pieces is has =
        let columns = column_for (key_of ticket.pointer) ticket.next before.geometry.props.sector block.columns pieces in
        let does = put_column rack area before after ticket now block valid put.areas_are put.reserve put.puts put.carried (part_in x m) pieces g.z is in
        done_bytes rack area (part_in x m) pieces columns before after g.z (event.Put (key_of ticket.pointer) put.puts.landed put.puts.failed) is does tt
        (other_bytes rack area (part_in x m) (key_of ticket.pointer) pieces columns g.z (λ k other. others_same (key_of ticket.pointer) ticket.next before.geometry.props.sector block.columns pieces k other) no_block has)

    -- its pieces are those that it had
    pieces_stay : g.now (key_of ticket.pointer) ≡ open_.pieces m (key_of ticket.pointer)
    pieces_stay =
        let y = here rack area went shared owns a b last new m shard before after there drifts valid is goes seen seen table seq floor open_.pieces x open_.but_it in
        let led = key_leads before.entries ticket.pointer.first (staged (stage.Writing ticket.next ticket.missed) ticket.pointer) put.carried.is_open in
        found_ticket rack area shared owns shard before drifts (part_in x m) (open_.pieces m) g.now y.0 y.2 (key_of ticket.pointer)
        (held_at (staged (stage.Writing ticket.next ticket.missed) ticket.pointer)) open_.own led refl (g.same (key_of ticket.pointer) open_.own)

    key_now : key_of now.pointer ≡ key_of ticket.pointer
    key_now = ap key_of put.puts.pointer

    rows_then : ArePieces x.geometry.props.sector now.next now.pointer.stripes block.columns (key_of now.pointer) (turn m columns_now open_.pieces m)
    rows_then =
        subst (λ q. ArePieces x.geometry.props.sector now.next now.pointer.stripes block.columns (key_of now.pointer) q) (sym (turn_here m columns_now open_.pieces))
        (subst (λ (t : ℕ × Pointer). ArePieces x.geometry.props.sector t.0 t.1.stripes block.columns (key_of t.1) columns_now) (λ i. (sym put.puts.next i, sym put.puts.pointer i))
        (subst (λ n. ArePieces x.geometry.props.sector (ticket.next + 1) ticket.pointer.stripes block.columns (key_of ticket.pointer) (column_for (key_of ticket.pointer) ticket.next n block.columns g.now)) (sym size)
        (one_column_more (key_of ticket.pointer) ticket.next x.geometry.props.sector ticket.pointer.stripes block.columns g.now
        (λ c row less inside. ap (λ h. h c row) pieces_stay ∙ open_.rows c row less inside))))
      where
        size : before.geometry.props.sector ≡ x.geometry.props.sector
        size = ap (λ (q : Part). q.geometry.props.sector) g.is.part_is

    abbrev y_put : (y : Metaslab) × (slice_get x.metaslabs m ≡ Some y) × IsMetaslab rack area (part_in x m) (open_.pieces m) shard y
    y_put = here rack area went shared owns a b last new m shard before after there drifts valid is goes seen seen table seq floor open_.pieces x open_.but_it

    put_later : y_put.0.world.committed ≤ e.reached.world.committed
    put_later =
        let was = y_put.2.stands.is_in.committed in
        let up = drifts.later in
        let same = put.puts.sets.groups.committed in
        let reached_is = e.is.stands.is_in.committed in
        omega (arith, was, up, same, reached_is)

    pub put_step : LeadsBy rack area went shared a b x (λ holds store. (store ≡ x.store) × ((hold : Hold) × (holds ≡ hold ∷ []) × PutsColumn (key_of ticket.pointer) m hold)) (KnowsOpen rack area owns new table seq floor m now block)
    put_step = record {
      holds = On (view_of m g.z) (Did (event.Put (key_of ticket.pointer) put.puts.landed put.puts.failed) e.reached.world) ∷ [];
      reached = with_metaslab x m e.reached;
      store = x.store;
      follows = follows rack area went shared owns a b last new m shard before after there drifts valid is goes seen seen table seq floor open_.pieces x open_.but_it
          (Did (event.Put (key_of ticket.pointer) put.puts.landed put.puts.failed) e.reached.world) e.reached columns_now e.is e.acts (λ same. absurd (cc)) put_bytes;
      done = (
        refl,
        (
          On (view_of m g.z) (Did (event.Put (key_of ticket.pointer) put.puts.landed put.puts.failed) e.reached.world),
          refl,
          record { v = view_of m g.z; landed = put.puts.landed; failed = put.puts.failed; after = e.reached.world; did = refl; there = refl },
        ),
      );
      knows = record {
        pieces = turn m columns_now open_.pieces;
        but_it = subst (λ k. KnowsBut rack area owns (but m k (all_of owns)) (but m k (all_of owns)) new table seq floor (turn m columns_now open_.pieces) (with_metaslab x m e.reached)) (sym key_now)
            (unseen_step rack area went shared owns a b last new m shard before after there drifts valid is goes seen seen table seq floor open_.pieces x open_.but_it ticket.pointer
            (Some (staged (stage.Writing now.next now.missed) ticket.pointer)) put.puts.sets put.puts.does.part is_ticket
            (but_here (all_of owns) m (key_of ticket.pointer)) (but_here (all_of owns) m (key_of ticket.pointer))
            (λ k seen_k. but_inside (all_of owns) m (key_of ticket.pointer) m k seen_k) (λ k seen_k. but_inside (all_of owns) m (key_of ticket.pointer) m k seen_k) e.reached columns_now e.is
            (λ k other. others_same (key_of ticket.pointer) ticket.next before.geometry.props.sector block.columns g.now k other));
        own = ap (λ (q : Pointer). owns q.object) put.puts.pointer ∙ open_.own;
        next = ap (λ (q : Pointer). q.seq) put.puts.pointer ∙ open_.next;
        at = ap (λ (q : Pointer). q.metaslab) put.puts.pointer ∙ open_.at;
        born = subst (λ (q : Pointer). floor ≤ q.birth) (sym put.puts.pointer) open_.born;
        low = subst (λ (q : Pointer). q.birth ≤ LAST_NUMBER) (sym put.puts.pointer) open_.low;
        behind = subst (λ (q : Pointer). (c : ℕ) → Bounds (with_metaslab x m e.reached) c → IsBehindChecks c (own_store owns x.store).marks q.birth) (sym put.puts.pointer)
            (behind_on x m y_put.0 e.reached y_put.1 put_later (own_store owns x.store).marks ticket.pointer.birth open_.behind);
        rows = rows_then;
      };
    }
