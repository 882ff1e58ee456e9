-- The end of a write and the freeing of a block: what a shard is after them, and that their events are legal.
use Rattle.std.proofs.Common.{◌≡◌, ◌+◌, ◌<◌, ◌≤◌, ◌∙◌, ℕ, true, false, nat_lt, ◌++◌, ◌∷◌, [], List, Option, Some, None, if◌then◌else◌, arith, refl, sym, ap}
use Rattle.std.proofs.lemmas.Bool.Decides.{nat_tests}
use Rattle.draid_names.specs.declared.pointer.Pointer.{Pointer}
use Rattle.draid_metaslab.specs.Spaces.{Stripes}
use Rattle.draid_block.specs.declared.solve.Fetched.{Fetched}
use Rattle.draid_machine.specs.declared.event.Event.{Event}
use Rattle.draid_machine.specs.declared.event.Event.TheVariants.{Abort, Fetch, Finish, Free}
use Rattle.draid_machine.specs.declared.names.Stage.TheVariants.{Writing, Live, Freed}
use Rattle.draid_machine.specs.After.{free_state, gone_state, live_state, not_kept, set_held, without_key}
use Rattle.draid_machine.specs.State as machine
use Rattle.draid_rack.specs.declared.Rack.{Ghosts}
use Rattle.draid_entries.specs.declared.entry.Entry.{Entry}
use Rattle.draid_entries.specs.declared.entries.Entries.{Entries}
use Rattle.draid_entries.specs.declared.history.History.{History}
use Rattle.draid_entries.specs.Entries.{SetsEntry, entry_at, owed_at, owed_by}
use Rattle.draid_entries.specs.History.{KeepsOwed}
use Rattle.draid_entries.specs.Maps.{held_at, key_of, staged}
use Rattle.draid_shard.specs.declared.shard.Shard.{Shard}
use Rattle.draid_blocks.specs.declared.ticket.Ticket.{Ticket}
use Rattle.draid_blocks.specs.Fetching.{Fetches}
use Rattle.draid_shard.specs.Looks.{IsLive}
use Rattle.draid_blocks.specs.Tickets.{IsOpen}
use Rattle.draid_shard.specs.Changes.{DoesNothing}
use Rattle.draid_shard.proofs.Changed.{same_arms, same_entries}
use Rattle.draid_shard.specs.Fits.{Valid}
use Rattle.draid_shard.specs.States.{IsIn, Leads, layout_by}
use Rattle.draid_shard.proofs.Held.{key_leads, tables_in, with_tables}
use Rattle.draid_blocks.proofs.Entered.{set_same}
use Rattle.draid_shard.proofs.Kept.{history_in, valid_with}

-- ---- the end of a write

module _ {R A : Type 0} (old : Shard R A) (space : Stripes) (entries : Entries) (history : History) (ticket : Ticket) (is_open : IsOpen old ticket) where
  abbrev own : Entry
  own = staged (Writing ticket.next ticket.missed) ticket.pointer

  gone_in : SetsEntry old.entries entries ticket.pointer None → (w : machine.State) → IsIn old w → IsIn (with_tables old space entries history) (gone_state w (key_of ticket.pointer))
  gone_in sets w is_in =
      tables_in old space entries history w (set_held w.core.held (key_of ticket.pointer) None) (without_key (key_of ticket.pointer) w.present)
      (without_key (key_of ticket.pointer) w.aside) (not_kept (key_of ticket.pointer) w.kept) is_in
      (set_same w.core.held old.entries entries ticket.pointer None is_in.held sets)

  pub finishes : ticket.next ≡ old.geometry.g → ticket.missed ≤ old.geometry.spec.parity
      → SetsEntry old.entries entries ticket.pointer (Some (staged Live ticket.pointer)) → (w : machine.State) → IsIn old w
      → Leads (layout_by old) w (Finish (key_of ticket.pointer)) (with_tables old space entries history)
  finishes all few sets w is_in = record {
    state = live_state w (key_of ticket.pointer) (held_at own);
    step = record {
      h = held_at own;
      m = ticket.missed;
      found = is_in.held (key_of ticket.pointer) ∙ key_leads old.entries ticket.pointer.first own is_open;
      stage = ap (λ c. Writing c ticket.missed) all;
      made = (let test : nat_lt old.geometry.spec.parity ticket.missed ≡ false = grind (arith, nat_tests, few) in
          ap (λ b. if b then gone_state w (key_of ticket.pointer) else live_state w (key_of ticket.pointer) (held_at own)) (sym test));
    };
    is_in = tables_in old space entries history w (set_held w.core.held (key_of ticket.pointer) (Some (held_at (staged Live ticket.pointer)))) w.present w.aside w.kept is_in
        (set_same w.core.held old.entries entries ticket.pointer (Some (staged Live ticket.pointer)) is_in.held sets);
  }

  pub misses : ticket.next ≡ old.geometry.g → old.geometry.spec.parity < ticket.missed → SetsEntry old.entries entries ticket.pointer None → (w : machine.State) → IsIn old w
      → Leads (layout_by old) w (Finish (key_of ticket.pointer)) (with_tables old space entries history)
  misses all many sets w is_in = record {
    state = gone_state w (key_of ticket.pointer);
    step = record {
      h = held_at own;
      m = ticket.missed;
      found = is_in.held (key_of ticket.pointer) ∙ key_leads old.entries ticket.pointer.first own is_open;
      stage = ap (λ c. Writing c ticket.missed) all;
      made = (let test : nat_lt old.geometry.spec.parity ticket.missed ≡ true = grind (arith, nat_tests, many) in
          ap (λ b. if b then gone_state w (key_of ticket.pointer) else live_state w (key_of ticket.pointer) (held_at own)) (sym test));
    };
    is_in = gone_in sets w is_in;
  }

  pub aborts : SetsEntry old.entries entries ticket.pointer None → (w : machine.State) → IsIn old w
      → Leads (layout_by old) w (Abort (key_of ticket.pointer)) (with_tables old space entries history)
  aborts sets w is_in = record {
    state = gone_state w (key_of ticket.pointer);
    step = record { h = held_at own; found = is_in.held (key_of ticket.pointer) ∙ key_leads old.entries ticket.pointer.first own is_open; ticket = refl; made = refl };
    is_in = gone_in sets w is_in;
  }

-- ---- the freeing of a block

pub frees : {R A : Type 0} (old : Shard R A) (space : Stripes) (entries : Entries) (history : History) (p : Pointer) (group : ℕ) → IsLive old p
    → old.open_group ≤ group → group ≤ old.open_group + 1 → SetsEntry old.entries entries p (Some (staged (Freed group) p)) → (w : machine.State) → IsIn old w
    → Leads (layout_by old) w (Free (key_of p) group) (with_tables old space entries history)
frees old space entries history p group is_live from upto sets w is_in = record {
  state = free_state w (key_of p) (held_at (staged Live p)) group;
  step = record {
    h = held_at (staged Live p);
    found = is_in.held (key_of p) ∙ key_leads old.entries p.first (staged Live p) is_live;
    live = refl;
    due = record {
      from = (let at = is_in.open_group_is in omega (arith, at, from));
      upto = (let at = is_in.open_group_is in omega (arith, at, upto));
    };
    made = refl;
  };
  is_in = tables_in old space entries history w (set_held w.core.held (key_of p) (Some (held_at (staged (Freed group) p)))) w.present w.aside w.kept is_in
      (set_same w.core.held old.entries entries p (Some (staged (Freed group) p)) is_in.held sets);
}

-- ---- what is owed

-- what the tables owe as an entry comes to another stage or goes
pub owed_turns : (columns : ℕ) (old new : Entries) (p : Pointer) (entry : Option Entry) (was : Entry) (before after : ℕ) → SetsEntry old new p entry → entry_at old p.first ≡ Some was
    → owed_at columns (Some was) ≡ before → owed_at columns entry ≡ after → owed_by columns new + before ≡ owed_by columns old + after
owed_turns columns old new p entry was before after sets there b a =
    let sum = sets.owed columns in
    let own : owed_at columns (entry_at old p.first) ≡ before = ap (owed_at columns) there ∙ b in
    omega (arith, sum, own, a)

-- of a ticket whose columns are all put two events are owed
pub all_put : (columns : ℕ) (ticket : Ticket) → ticket.next ≡ columns → owed_at columns (Some (staged (Writing ticket.next ticket.missed) ticket.pointer)) ≡ 2
all_put columns ticket all = omega (arith, all)

-- ---- room was asked for, and nothing else was done

module _ {R A : Type 0} (old : Shard R A) (history : History) (same : KeepsOwed old.history history) where
  pub asked_valid : (rack : Ghosts R) → Valid rack old → Valid rack (record old { history = history })
  asked_valid rack v =
      let owed = same.owed in
      let reserved = same.reserved in
      valid_with rack old old.space old.entries history v v.tables refl v.few v.here (λ from low was. was) (omega (arith, owed, reserved)) (let stored = same.stored in omega (arith, stored))

  pub asked_nothing : DoesNothing old (record old { history = history })
  asked_nothing = record {
    none = record { part = refl; stored = same.events; stays = history_in old history };
    keeps = record { entries = same_entries old.entries; groups = record { open_group_is = refl; closing = refl; sealed = refl; committed = refl } };
    slots = same_arms old.slots;
  }

  -- a fetch from then on is one from before
  pub asked_fetches : (rack : Ghosts R) (new : Shard R A) (pointer : Pointer) (fetched : Fetched) → Fetches rack (record old { history = history }) new pointer fetched → Fetches rack old new pointer fetched
  asked_fetches rack new pointer fetched f =
      let groups = f.keeps.groups in
      record {
        live = f.live;
        pointer_is = f.pointer_is;
        fetched_is = f.fetched_is;
        keeps = record { entries = f.keeps.entries; groups = record { open_group_is = groups.open_group_is; closing = groups.closing; sealed = groups.sealed; committed = groups.committed } };
        slots = record { same = f.slots.same; arms_stay = f.slots.arms_stay; detached_stay = f.slots.detached_stay };
        failed = f.failed;
        does = record {
          part = f.does.part;
          stored = f.does.stored ∙ ap (λ (events : List Event). events ++ Fetch (key_of pointer) f.failed ∷ []) same.events;
          leads = λ w reached is_in. f.does.leads w reached (history_in old history w is_in);
        };
        counts = f.counts;
        are = λ w h reached is_in held. f.are w h reached (history_in old history w is_in) held;
      }
