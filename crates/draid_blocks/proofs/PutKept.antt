-- A put keeps a shard valid.
use Rattle.std.proofs.Common.{◌≡◌, ◌+◌, ◌-◌, ◌<◌, ◌≤◌, ℕ, Some, arith, refl, sym, ap, subst}
use Rattle.draid_names.specs.Numbers.{most_held}
use Rattle.draid_names.specs.declared.pointer.Pointer.{Pointer}
use Rattle.draid_rack.specs.declared.Rack.{Ghosts}
use Rattle.draid_machine.specs.declared.names.Stage.TheVariants.{Writing}
use Rattle.draid_entries.specs.declared.entries.Entries.{Entries}
use Rattle.draid_entries.specs.declared.history.History.{History}
use Rattle.draid_entries.specs.Entries.{SetsEntry, count_of, entry_at, owed_at, owed_by}
use Rattle.draid_entries.specs.History.{owed_of, reserved_of, stored_of}
use Rattle.draid_entries.specs.Maps.{staged}
use Rattle.draid_slots.specs.Table.{SlotTable}
use Rattle.draid_shard.specs.Fits.{Valid, birth_groups, changes_for_end, oldest_open}
use Rattle.draid_shard.specs.Rows.{LogsBirth}
use Rattle.draid_shard.specs.declared.shard.Shard.{Shard}
use Rattle.draid_shard.proofs.Fitted.{born_from}
use Rattle.draid_blocks.proofs.Entered.{here_turned, tickets_staged}
use Rattle.draid_shard.proofs.Once.{once_kept}
use Rattle.draid_shard.proofs.Staging.{leaves_left, logs_left, same_of}
use Rattle.draid_blocks.proofs.Placing.{turned_tables}
use Rattle.draid_shard.proofs.SamePass.{pass_held}

module _ {R A : Type 0} (ghosts : Ghosts R) (old : Shard R A) (valid : Valid ghosts old) (pointer : Pointer) (c m next missed : ℕ) (is_open : entry_at old.entries pointer.first ≡ Some (staged (Writing c m) pointer))
    (left : c < old.geometry.g) (up : next ≡ c + 1) (entries : Entries) (sets : SetsEntry old.entries entries pointer (Some (staged (Writing next missed) pointer))) where
  -- it owes one event less
  one_less : owed_by old.geometry.g entries + 1 ≡ owed_by old.geometry.g old.entries
  one_less =
      let all = sets.owed old.geometry.g in
      let was : owed_at old.geometry.g (entry_at old.entries pointer.first) ≡ old.geometry.g - c + 2 = ap (owed_at old.geometry.g) is_open in
      omega (arith, all, was, left, up)

  pub owes_one : (history : History) → history ≡ old.history → 1 + reserved_of history ≤ owed_of history
  owes_one history same = subst (λ (h : History). 1 + reserved_of h ≤ owed_of h) (sym same) (let owed = valid.owed in let less = one_less in omega (arith, owed, less))

  pub low : oldest_open old.open_group old.closing ≤ pointer.birth
  low = valid.tickets pointer.first (staged (Writing c m) pointer) c m is_open refl

  pub high : pointer.birth < oldest_open old.open_group old.closing + birth_groups old.closing
  high = born_from old.open_group old.committed pointer.birth old.closing old.sealed valid.groups (valid.tables.placed pointer.first (staged (Writing c m) pointer) is_open).is_block.born

  pub put_valid : (rack : R) (slots : SlotTable) (history : History) (birth : ℕ) → birth ≡ pointer.birth → LogsBirth birth old.slots slots → ghosts.shape rack ≡ ghosts.shape old.rack
      → count_of entries ≡ count_of old.entries → owed_of history + 1 ≡ owed_of old.history → reserved_of history ≡ reserved_of old.history
      → stored_of old.history ≤ stored_of history → Valid ghosts (record old { rack = rack; slots = slots; entries = entries; history = history })
  put_valid rack slots history birth born logs shape count owed reserved stored =
      let at_birth : LogsBirth pointer.birth old.slots slots = subst (λ b. LogsBirth b old.slots slots) born logs in
      record {
        part = valid.part;
        version = valid.version;
        asked = valid.asked;
        tables = turned_tables old.geometry old.open_group old.space old.entries entries pointer (Writing c m) (Writing next missed) valid.tables is_open sets count;
        disabled = valid.disabled;
        few = subst (λ n. n ≤ most_held old.version) (sym count) valid.few;
        here = here_turned old.entries entries pointer (Writing c m) (Writing next missed) old.number is_open sets valid.here;
        slots = same_of old.slots slots old.geometry old.perms old.number pointer.birth at_birth valid.slots;
        once = once_kept old.slots slots at_birth.arms at_birth.detached valid.once;
        pass = pass_held old.slots slots old.last_pass old.pass at_birth.arms valid.pass;
        kept = valid.kept;
        serial = (let low = valid.serial in omega (arith, low, stored));
        flushed = valid.flushed;
        logs = logs_left old.slots slots (oldest_open old.open_group old.closing) (birth_groups old.closing) (changes_for_end old.pass old.closing) pointer.birth low high at_birth valid.logs;
        leaves = leaves_left (ghosts.shape old.rack) (ghosts.shape rack) old.geometry old.slots slots pointer.birth shape at_birth valid.leaves;
        groups = valid.groups;
        low = valid.low;
        tickets = tickets_staged old.entries entries pointer (Writing next missed) (oldest_open old.open_group old.closing) low valid.tickets sets;
        settled = λ sealed. tickets_staged old.entries entries pointer (Writing next missed) old.open_group
            (valid.settled sealed pointer.first (staged (Writing c m) pointer) c m is_open refl) (valid.settled sealed) sets;
        owed = (let was = valid.owed in let less = one_less in omega (arith, was, less, owed, reserved));
      }
