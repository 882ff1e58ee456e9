-- The column of a block is put where nothing is known of the block's pieces: they are replaced for this column alone.
use Rattle.std.proofs.Common.{◌≡◌, ◌==◌, ◌<◌, ◌+◌, ◌&&◌, ◌∙◌, ℕ, Bool, true, false, List, Option, Some, None, arith, refl, sym, ap, subst, nat_lt, if◌then◌else◌, inl, inr}
use Rattle.std.proofs.lemmas.Bool.Decides.{nat_tests}
use Rattle.std.specs.Prelude.{IsSome}
use Rattle.draid_rack.specs.Rack.{OnTold, Told, OnBothTold}
use Rattle.draid_rack.specs.declared.Rack as racks
use Rattle.draid_area.specs.declared.Area as areas
use Rattle.draid_parity.specs.Columns.{column_at}
use Rattle.draid_block.specs.Blocks.{BlockValue}
use Rattle.draid_machine.specs.declared.event.Event.{Event}
use Rattle.draid_machine.specs.declared.event.Event.TheVariants.{Put}
use Rattle.draid_machine.specs.declared.names.ArmName.{ArmName}
use Rattle.draid_machine.specs.declared.names.Held.{Held}
use Rattle.draid_machine.specs.declared.names.Key.{Key}
use Rattle.draid_machine.specs.declared.names.Segment.{Segment}
use Rattle.draid_machine.specs.declared.names.Stage.{Stage}
use Rattle.draid_machine.specs.declared.names.Stage.TheVariants as stage
use Rattle.draid_machine.specs.After.{is_landed}
use Rattle.draid_machine.specs.Claims.{is_on}
use Rattle.draid_machine.specs.Created.{IsReached}
use Rattle.draid_machine.specs.Names.{has_name, is_put, key_eq, is_block}
use Rattle.draid_machine.specs.State as machine
use Rattle.draid_machine.specs.State.{Core, IsLayout, Layout, State}
use Rattle.draid_machine.proofs.Losing.{every_segment}
use Rattle.draid_machine.proofs.Small.{four_true, key_refl, key_true, bool_cases}
use Rattle.draid_segments.specs.Acts.{PutsColumn}
use Rattle.draid_segments.specs.Segments.{Backed, Pieces, piece_of}
use Rattle.draid_segments.proofs.Apart.{stands}
use Rattle.draid_entries.specs.Maps.{held_at, key_of, staged}
use Rattle.draid_shard.specs.Calls.{ActsOn, SameAreas, SameReserve}
use Rattle.draid_blocks.specs.Tickets.{Carries, Puts}
use Rattle.draid_shard.specs.Columns.{ArePieces, row_bytes}
use Rattle.draid_shard.specs.Fits.{Valid}
use Rattle.draid_shard.specs.Part.{Part}
use Rattle.draid_shard.specs.States.{IsIn, layout_by, part_of}
use Rattle.draid_shard.specs.declared.shard.Shard.{Shard}
use Rattle.draid_blocks.specs.declared.ticket.Ticket.{Ticket}
use Rattle.draid_shard.proofs.Held.{key_leads}
use Rattle.draid_shard.proofs.Standing.{has_layout}
use Rattle.draid_session.specs.State.{Metaslab}
use Rattle.draid_pool.specs.Metaslabs.{IsMetaslab}
use Rattle.draid_store.specs.Shards.{SamePieces}
use Rattle.draid_pool.proofs.Dids.{Done, did}
use Rattle.draid_pool.proofs.Lists.{some_of}
use Rattle.std.proofs.lemmas.Bool.{true≢false}
use Rattle.draid_pool.proofs.Bytes.{same_bytes}

-- ---- a column of a key

abbrev pub is_of_column : Key → ℕ → Key → ℕ → Bool
is_of_column key c k i = key_eq key k && (i == c)

-- the pieces of a column of a key are known then, and are the rows of its bytes
abbrev pub column_for : Key → ℕ → ℕ → List (List ℕ) → Pieces → Pieces
column_for key c size columns pieces k i row = if is_of_column key c k i then Some (row_bytes size (column_at columns i) row) else pieces k i row

abbrev pub rows_for : Key → ℕ → List (List ℕ) → Pieces → Pieces
rows_for key size columns pieces k c row = if key_eq key k then Some (row_bytes size (column_at columns c) row) else pieces k c row

rows_are : (key : Key) (size count stripes : ℕ) (columns : List (List ℕ)) (pieces : Pieces) → ArePieces size count stripes columns key (rows_for key size columns pieces)
rows_are key size count stripes columns pieces c row column inside = ap (λ b. if b then Some (row_bytes size (column_at columns c) row) else pieces key c row) (key_refl key)

same_test : (n : ℕ) → (n == n) ≡ true
same_test n = grind (arith, nat_tests)

less_differs : (n m : ℕ) → nat_lt n m ≡ true → (n == m) ≡ false
less_differs n m e = grind (arith, nat_tests)

both_tests : (a b : Bool) → a ≡ true → b ≡ true → (a && b) ≡ true
both_tests a b x y = ap (λ c. c && b) x ∙ y

first_false : (a b : Bool) → a ≡ false → (a && b) ≡ false
first_false a b x = ap (λ c. c && b) x

second_false : (a b : Bool) → b ≡ false → (a && b) ≡ false
second_false true b x = x
second_false false b x = refl

-- others of other keys, and of other columns, are as they were
pub others_same : (key : Key) (c size : ℕ) (columns : List (List ℕ)) (pieces : Pieces) → SamePieces key pieces (column_for key c size columns pieces)
others_same key c size columns pieces k other =
    λ i. λ d. λ row. if first_false (key_eq key k) (d == c) other i then Some (row_bytes size (column_at columns d) row) else pieces k d row

pub before_same : (key : Key) (c size : ℕ) (columns : List (List ℕ)) (pieces : Pieces) (d row : ℕ) → d < c → column_for key c size columns pieces key d row ≡ pieces key d row
before_same key c size columns pieces d row less =
    ap (λ b. if b then Some (row_bytes size (column_at columns d) row) else pieces key d row) (second_false (key_eq key key) (d == c) (less_differs d c (grind (arith, nat_tests, less))))

pub own_column : (key : Key) (c size : ℕ) (columns : List (List ℕ)) (pieces : Pieces) (row : ℕ) → column_for key c size columns pieces key c row ≡ Some (row_bytes size (column_at columns c) row)
own_column key c size columns pieces row =
    ap (λ b. if b then Some (row_bytes size (column_at columns c) row) else pieces key c row) (both_tests (key_eq key key) (c == c) (key_refl key) (same_test c))

-- column by column they become those of the block

pub one_column_more : (key : Key) (c size stripes : ℕ) (columns : List (List ℕ)) (pieces : Pieces) → ArePieces size c stripes columns key pieces → ArePieces size (c + 1) stripes columns key (column_for key c size columns pieces)
one_column_more key c size stripes columns pieces are d row column inside = by (d == c) refl
  where
    by : (b : Bool) → (d == c) ≡ b → column_for key c size columns pieces key d row ≡ Some (row_bytes size (column_at columns d) row)
    by true is = ap (λ b. if b then Some (row_bytes size (column_at columns d) row) else pieces key d row) (both_tests (key_eq key key) (d == c) (key_refl key) is)
    by false is =
        ap (λ b. if b then Some (row_bytes size (column_at columns d) row) else pieces key d row) (second_false (key_eq key key) (d == c) is)
        ∙ are d row (grind (arith, nat_tests, is, column)) inside

-- ---- the pieces of what isn't present are free

module _ (l : Layout) (lay : IsLayout l) (w : State) (reached : IsReached l w) where
  pub present_pieces : (pieces other : Pieces) (x : Told) → ((s : Segment) → w.present s ≡ true → piece_of other s ≡ piece_of pieces s) → Backed l pieces w x → Backed l other w x
  present_pieces pieces other x same b = record {
    holds = record {
      there = b.holds.there;
      reads = λ s h is calm known. b.holds.reads s h is calm (subst (λ (o : Option (List ℕ)). IsSome o) (same s is.present) known) ∙ sym (same s is.present);
    };
    images = λ img is. (let f = b.images img is in record {
      there = f.there;
      reads = λ s h c calm known. (let own = same s ((stands l lay w reached img is).claimed s c.claim) in
          f.reads s h c calm (subst (λ (o : Option (List ℕ)). IsSome o) own known) ∙ sym own);
      firm = f.firm;
    });
    last = b.last;
  }

  -- of a ticket no segment is present of the column that comes next
  pub none_present : (key : Key) (h : Held) (c m : ℕ) → w.core.held key ≡ Some h → h.stage ≡ stage.Writing c m → (s : Segment) → w.present s ≡ true → is_of_column key c s.key s.column ≡ false
  none_present key h c m found writing s here = by (key_eq key s.key) refl
    where
      by : (b : Bool) → key_eq key s.key ≡ b → is_of_column key c s.key s.column ≡ false
      by false other = first_false (key_eq key s.key) (s.column == c) other
      by true is =
          let own = (every_segment l w lay reached).present s here in
          let same : own.h ≡ h = some_of (w.core.held s.key) own.h h own.held (ap w.core.held (sym (key_true key s.key is)) ∙ found) in
          let put : nat_lt s.column c ≡ true = sym (ap (λ (g : Stage). is_put g s.column) (ap (λ (i : Held). i.stage) same ∙ writing)) ∙ own.put in
          second_false (key_eq key s.key) (s.column == c) (less_differs s.column c put)

  pub column_backed : (key : Key) (h : Held) (c m size : ℕ) (columns : List (List ℕ)) (pieces : Pieces) (x : Told) → w.core.held key ≡ Some h → h.stage ≡ stage.Writing c m
      → Backed l pieces w x → Backed l (column_for key c size columns pieces) w x
  column_backed key h c m size columns pieces x found writing b =
      present_pieces pieces (column_for key c size columns pieces) x
      (λ s here. ap (λ t. if t then Some (row_bytes size (column_at columns s.column) s.row) else pieces s.key s.column s.row) (none_present key h c m found writing s here)) b

-- ---- a put writes pieces of its column alone

on_told : (o : Option Told) (P Q : Told → Type 0) → ((x : Told) → P x → Q x) → OnTold o P → OnTold o Q
on_told None P Q f h = tt
on_told (Some x) P Q f h = f x h

on_both : (o p : Option Told) (P Q : Told → Told → Type 0) → ((x y : Told) → P x y → Q x y) → OnBothTold o p P → OnBothTold o p Q
on_both None p P Q f h = h
on_both (Some x) None P Q f h = h
on_both (Some x) (Some y) P Q f h = f x y h

landed_tests : (l : Layout) (q : Core) (key : Key) (h : Held) (c : ℕ) (landed : List ArmName) (s : Segment) → is_landed l q key h c landed s ≡ true → (key_eq key s.key ≡ true) × ((s.column == c) ≡ true)
landed_tests l q key h c landed s e = (let z = four_true (key_eq key s.key) (s.column == c) (has_name landed s.arm) (is_on l q.order s h) e in (z.0, z.1))

puts_by_column : (l : Layout) (q : Core) (key : Key) (h : Held) (c size : ℕ) (landed : List ArmName) (columns : List (List ℕ)) (pieces : Pieces) (x y : Told)
    → PutsColumn l q key h c landed (rows_for key size columns pieces) x y → PutsColumn l q key h c landed (column_for key c size columns pieces) x y
puts_by_column l q key h c size landed columns pieces x y p = record {
  writes = p.writes;
  landed_there = p.landed_there;
  landed_reads = λ s on known. (let own = same s (landed_tests l q key h c landed s on) in p.landed_reads s on (subst (λ (o : Option (List ℕ)). IsSome o) (sym own) known) ∙ own);
  landed_harm = p.landed_harm;
}
  where
    same : (s : Segment) → (key_eq key s.key ≡ true) × ((s.column == c) ≡ true) → piece_of (rows_for key size columns pieces) s ≡ piece_of (column_for key c size columns pieces) s
    same s tests =
        ap (λ t. if t then Some (row_bytes size (column_at columns s.column) s.row) else pieces s.key s.column s.row) tests.0
        ∙ sym (ap (λ t. if t then Some (row_bytes size (column_at columns s.column) s.row) else pieces s.key s.column s.row) (both_tests (key_eq key s.key) (s.column == c) tests.0 tests.1))

abbrev put_in : Stage → ℕ
put_in (stage.Writing put missed) = put
put_in stage.Live = 0
put_in (stage.Freed g) = 0

-- ---- the metaslab behind a put, whatever the pieces of its block were said to be

module _ {R A : Type 0} (rack : racks.Ghosts R) (area : areas.Ghosts A) where
  pub put_column : (old new : Shard R A) (before now : Ticket) (block : BlockValue) → Valid rack new → SameAreas old new → SameReserve old new → (put : Puts rack old new before now block) → Carries old before block
      → (part : Part) (pieces : Pieces) (x : Metaslab) → IsMetaslab rack area part pieces old x
      → Done rack area part (column_for (key_of before.pointer) before.next old.geometry.props.sector block.columns pieces) new (Put (key_of before.pointer) put.landed put.failed) x
  put_column old new before now block valid areas_are reserve put carries part pieces x is =
      did rack area part other old new e x free valid put.does acts (λ v step. refl) reserve.limit (let r = reserve.reserved in omega (arith, r))
      (record { areas_are = areas_are; later = put.counts.later; cause = put.counts.cause }) tt tt
    where
      key : Key
      key = key_of before.pointer

      e : Event
      e = Put key put.landed put.failed

      size : ℕ
      size = old.geometry.props.sector

      rows : Pieces
      rows = rows_for key size block.columns pieces

      other : Pieces
      other = column_for key before.next size block.columns pieces

      ticket : Held
      ticket = held_at (staged (stage.Writing before.next before.missed) before.pointer)

      found : (w : machine.State) → IsIn old w → w.core.held key ≡ Some ticket
      found w is_in = is_in.held key ∙ key_leads old.entries before.pointer.first (staged (stage.Writing before.next before.missed) before.pointer) carries.is_open

      free : IsMetaslab rack area part other old x
      free = record {
        valid = is.valid;
        part_is = is.part_is;
        stands = record {
          is_in = is.stands.is_in;
          reached = is.stands.reached;
          segments = on_told (rack.told old.rack) (Backed (layout_by old) pieces x.world) (Backed (layout_by old) other x.world)
              (λ t b. column_backed (layout_by old) (has_layout (part_of old) is.valid.part) x.world is.stands.reached key ticket before.next before.missed size block.columns pieces t
              (found x.world is.stands.is_in) refl b) is.stands.segments;
        };
        run = is.run;
        events = is.events;
        limit = is.limit;
        reserved = is.reserved;
        counts = is.counts;
        harm = is.harm;
        records = is.records;
        bytes = λ k h at is_one column row some.
            let away : key_eq key k ≡ false = elim (bool_cases (key_eq key k)) [
              | inl one ↦ absurd (let e : true ≡ false = sym is_one ∙ ap (λ (i : Held). is_block i.stage) (some_of (x.world.core.held k) h ticket at (ap x.world.core.held (sym (key_true key k one)) ∙ found x.world is.stands.is_in)) in true≢false e)
              | inr other_key ↦ other_key
            ] in
            let same : other k ≡ pieces k = others_same key before.next size block.columns pieces k away in
            same_bytes part.geometry h k pieces other same (is.bytes k h at is_one column row (subst (λ (f : ℕ → ℕ → Option (List ℕ)). IsSome (f column row)) same some));
      }

      acts : ActsOn rack old new e other
      acts w after step reached is_in =
          on_both (rack.told old.rack) (rack.told new.rack) _ _
          (λ a b p. subst (λ c. PutsColumn (layout_by old) w.core key step.h step.c put.landed (column_for key c size block.columns pieces) a b) column
          (puts_by_column (layout_by old) w.core key step.h step.c size put.landed block.columns pieces a b p))
          (put.acts rows (rows_are key size old.geometry.g before.pointer.stripes block.columns pieces) w after step reached is_in)
        where
          its : step.h ≡ ticket
          its = some_of (w.core.held key) step.h ticket step.found (found w is_in)

          column : step.c ≡ before.next
          column = ap put_in (sym step.stage ∙ ap (λ (h : Held). h.stage) its)
