-- A put, of a shard.
use Rattle.std.proofs.Common.{◌==◌, ◌≤◌, Bool, true, false, refl, ◌≡◌, ◌+◌, ◌<◌, ◌∙◌, ℕ, List, [], ◌∷◌, Option, Some, arith, sym, ap, ap₂, subst, length, if◌then◌else◌}
use Rattle.std.proofs.lemmas.Bool.Decides.{nat_tests}
use Rattle.draid_names.specs.declared.pointer.Pointer.{Pointer}
use Rattle.draid_rack.specs.Rack.{Told, OnBothTold}
use Rattle.draid_rack.specs.declared.Rack.{Ghosts}
use Rattle.draid_spec.specs.declared.layout.Geometry.{Geometry}
use Rattle.draid_parity.specs.Columns.{column_at}
use Rattle.draid_block.specs.Blocks.{BlockValue, IsContent, cut_of}
use Rattle.draid_machine.specs.declared.event.Event.TheVariants.{Put}
use Rattle.draid_machine.specs.declared.names.ArmName.{ArmName}
use Rattle.draid_machine.specs.declared.names.Key.{Key}
use Rattle.draid_machine.specs.declared.names.Stage.{Stage}
use Rattle.draid_machine.specs.declared.names.Stage.TheVariants.{Writing}
use Rattle.draid_machine.specs.After.{put_state, set_held}
use Rattle.draid_machine.specs.Created.{IsReached}
use Rattle.draid_machine.specs.Names.{is_nil, key_eq}
use Rattle.draid_machine.specs.State as machine
use Rattle.draid_segments.specs.Segments.{Pieces}
use Rattle.draid_entries.specs.declared.entries.Entries.{Entries}
use Rattle.draid_entries.specs.declared.history.History.{History}
use Rattle.draid_entries.specs.Entries.{SetsEntry, entry_at, held_in}
use Rattle.draid_entries.specs.Maps.{held_at, key_of, staged}
use Rattle.draid_slots.specs.Changes.{IsOf}
use Rattle.draid_slots.specs.Table.{SlotTable, arms_of}
use Rattle.draid_segments.specs.Acts.{PutsColumn}
use Rattle.draid_shard.specs.Calls.{ActsOn}
use Rattle.draid_blocks.specs.Tickets.{Carries}
use Rattle.draid_shard.specs.Columns.{ArePieces}
use Rattle.draid_shard.specs.Part.{IsPart, IsRun}
use Rattle.draid_shard.specs.Rows.{IsRowsOf}
use Rattle.draid_blocks.specs.Landings.{Lands}
use Rattle.draid_shard.specs.States.{IsIn, Leads, layout_by, part_of}
use Rattle.draid_shard.specs.declared.places.ColumnRows.{ColumnRows}
use Rattle.draid_blocks.specs.declared.putting.Landing.{Landing}
use Rattle.draid_shard.specs.declared.shard.Shard.{Shard}
use Rattle.draid_blocks.specs.declared.ticket.Ticket.{Ticket}
use Rattle.draid_blocks.proofs.PutSteps.{held_found, put_acts, put_slots, put_step}
use Rattle.draid_shard.proofs.SamePass.{pass_same}
use Rattle.draid_shard.proofs.Tables.{set_here}

-- a column more was put, and one more was missed where it landed on no arm
pub record IsCounted (landed : List ArmName) (c m next missed : ℕ) : Type 0 where
  pub next_is : next ≡ c + 1
  pub missed_is : missed ≡ (if is_nil landed then m + 1 else m)

-- a ticket of which a column more was put
pub record IsAfter (landed : List ArmName) (before now : Ticket) : Type 0 where
  pub pointer_is : now.pointer ≡ before.pointer
  pub counts : IsCounted landed before.next before.missed now.next now.missed

-- whether it landed nowhere
pub nowhere : (landed slice : List ArmName) (empty : Bool) → slice ≡ landed → empty ≡ (length slice == 0) → is_nil landed ≡ empty
nowhere landed slice empty same is = sym (is ∙ ap (λ (ns : List ArmName). length ns == 0) same ∙ none landed)
  where
    none : (ns : List ArmName) → (length ns == 0) ≡ is_nil ns
    none [] = refl
    none (n ∷ ns) = grind (arith, nat_tests)

pub missed_one : (landed : List ArmName) (m missed : ℕ) → is_nil landed ≡ true → missed ≡ m + 1 → missed ≡ (if is_nil landed then m + 1 else m)
missed_one landed m missed nil same = same ∙ sym (ap (λ b. if b then m + 1 else m) nil)

pub missed_none : (landed : List ArmName) (m missed : ℕ) → is_nil landed ≡ false → missed ≡ m → missed ≡ (if is_nil landed then m + 1 else m)
missed_none landed m missed some same = same ∙ sym (ap (λ b. if b then m + 1 else m) some)

pub counted : (landed : List ArmName) (m missed : ℕ) → missed ≡ (if is_nil landed then m + 1 else m) → missed ≡ m + (if is_nil landed then 1 else 0)
counted [] m missed e = e
counted (n ∷ ns) m missed e = let z : m + 0 ≡ m = omega arith in e ∙ sym z

-- the entry of the ticket, by its pointer before and afterwards
pub same_pointer : (old new : Entries) (p q : Pointer) (s : Stage) → p ≡ q → SetsEntry old new p (Some (staged s p)) → SetsEntry old new q (Some (staged s q))
same_pointer old new p q s same sets = subst (λ (p : Pointer). SetsEntry old new p (Some (staged s p))) same sets

-- the ticket is that of its block as before
pub put_carries : {R A : Type 0} (old new : Shard R A) (before now : Ticket) (block : BlockValue) (landed : List ArmName) → Carries old before block → before.next < old.geometry.g → new.geometry ≡ old.geometry
    → IsAfter landed before now → SetsEntry old.entries new.entries before.pointer (Some (staged (Writing now.next now.missed) before.pointer)) → Carries new now block
put_carries old new before now block landed carries left geometry after sets = record {
  is_open = subst (λ (p : Pointer). entry_at new.entries p.first ≡ Some (staged (Writing now.next now.missed) p)) (sym after.pointer_is)
      (set_here old.entries new.entries before.pointer (Some (staged (Writing now.next now.missed) before.pointer)) sets);
  cut = carries.cut ∙ ap cut_of (sym geometry);
  content = subst (λ (p : Pointer). IsContent p block.bytes) (sym after.pointer_is) carries.content;
  columns = carries.columns;
  count = subst (λ (g : Geometry). now.next ≤ g.g) (sym geometry) (let next = after.counts.next_is in omega (arith, left, next));
  few = (let next = after.counts.next_is in let upto = most landed before.missed now.missed (counted landed before.missed now.missed after.counts.missed_is) in let few = carries.few in omega (arith, next, upto, few));
} where
  most : (landed : List ArmName) (m missed : ℕ) → missed ≡ m + (if is_nil landed then 1 else 0) → missed ≤ m + 1
  most [] m missed e = omega (arith, e)
  most (n ∷ ns) m missed e = omega (arith, e)

module _ {R A : Type 0} (old : Shard R A) (rack : R) (slots : SlotTable) (entries : Entries) (history : History) (pointer : Pointer) (c m next missed : ℕ) (rows : ColumnRows) (bytes : List ℕ) (landing : Landing)
    (o p : Option Told) (f g : Option ℕ → ℕ) (is : IsPart (part_of old)) (of : IsOf old.slots old.geometry old.perms old.number) (run : IsRun old.geometry pointer.first pointer.stripes) (column : c < old.geometry.g)
    (rows_are : IsRowsOf (part_of old) pointer c rows) (is_open : entry_at old.entries pointer.first ≡ Some (staged (Writing c m) pointer))
    (lands : Lands old.slots slots rows (length (arms_of old.slots rows.slot)) bytes landing o p f g)
    (sets : SetsEntry old.entries entries pointer (Some (staged (Writing next missed) pointer))) (counts : IsCounted landing.landed c m next missed) where
  held : (w : machine.State) → IsIn old w → w.core.held (key_of pointer) ≡ Some (held_at (staged (Writing c m) pointer))
  held w at = at.held (key_of pointer) ∙ held_found old.entries pointer (Writing c m) is_open

  holds : (w : machine.State) → IsIn old w → (key : Key)
      → set_held w.core.held (key_of pointer) (Some (record (held_at (staged (Writing c m) pointer)) { stage = Writing (c + 1) (if is_nil landing.landed then m + 1 else m) })) key ≡ held_in entries key
  holds w at key =
      ap (λ o. if key_eq (key_of pointer) key then Some (record (held_at (staged (Writing c m) pointer)) { stage = Writing (c + 1) (if is_nil landing.landed then m + 1 else m) }) else o) (at.held key)
      ∙ ap₂ (λ n k. if key_eq (key_of pointer) key then Some (held_at (staged (Writing n k) pointer)) else held_in old.entries key) (sym counts.next_is) (sym counts.missed_is)
      ∙ sym (sets.held key)

  pub put_leads : (w : machine.State) → IsReached (layout_by old) w → IsIn old w
      → Leads (layout_by old) w (Put (key_of pointer) landing.landed landing.failed) (record old { rack = rack; slots = slots; entries = entries; history = history })
  put_leads w reached at = record {
    state = put_state (layout_by old) w (key_of pointer) landing.landed (held_at (staged (Writing c m) pointer)) c m;
    step = put_step (part_of old) is old.slots slots of w reached at.slots pointer run c m column rows rows_are (held w at) bytes landing o p f g lands;
    is_in = record {
      held = holds w at;
      slots = put_slots (part_of old) is old.slots slots of w reached at.slots pointer run c m column rows rows_are (held w at) bytes landing o p f g lands;
      pass = at.pass ∙ pass_same old.slots slots old.pass lands.logs.arms;
      last = at.last;
      open_group_is = at.open_group_is;
      closing = at.closing;
      sealed = at.sealed;
      committed = at.committed;
      version = at.version;
      asked = at.asked;
      serial = at.serial;
      loan = at.loan;
    };
  }

  pub put_acted : (ghosts : Ghosts R) (columns : List (List ℕ)) → ghosts.told old.rack ≡ o → ghosts.told rack ≡ p → bytes ≡ column_at columns c → (pieces : Pieces)
      → ArePieces old.geometry.props.sector old.geometry.g pointer.stripes columns (key_of pointer) pieces
      → ActsOn ghosts old (record old { rack = rack; slots = slots; entries = entries; history = history }) (Put (key_of pointer) landing.landed landing.failed) pieces
  put_acted ghosts columns before after of_column pieces are = λ w new step reached at.
      subst (λ x. OnBothTold x (ghosts.told rack) (PutsColumn (layout_by old) w.core (key_of pointer) step.h step.c landing.landed pieces)) (sym before)
      (subst (λ y. OnBothTold o y (PutsColumn (layout_by old) w.core (key_of pointer) step.h step.c landing.landed pieces)) (sym after)
      (put_acts (part_of old) is old.slots slots of w reached at.slots pointer run c m column rows rows_are (held w at) bytes landing o p f g lands pieces columns are of_column new step))
