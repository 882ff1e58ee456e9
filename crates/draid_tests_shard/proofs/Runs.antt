-- What is looked for among the blocks of a metaslab, and what a history leaves of the numbers of a state.
use Rattle.std.proofs.Common.{◌≡◌, ◌+◌, ◌<◌, ◌∙◌, ℕ, suc, List, [], ◌∷◌, Option, Some, None, Result, Ok, Err, All, IfOk, arith, refl, sym, ap, subst, inl, inr}
use Rattle.std.specs.Prelude.{length, slice_index_or}
use Rattle.std.proofs.lemmas.Bool.{cases_lt}
use Rattle.std.proofs.lemmas.Option.{get_or_from_slice_get, slice_get-get_or}
use Rattle.draid_names.specs.declared.numbers.TheConstants.{NUMBERS}
use Rattle.draid_machine.specs.declared.names.Key.{Key}
use Rattle.draid_machine.specs.declared.names.Held.{Held}
use Rattle.draid_machine.specs.declared.event.Event.{Event}
use Rattle.draid_machine.specs.State.{Layout, State}
use Rattle.draid_machine.specs.Step.{Run}
use Rattle.draid_entries.specs.declared.entry.Entry.{Entry}
use Rattle.draid_entries.specs.declared.entries.Entries.{Entries}
use Rattle.draid_entries.specs.Entries.{entry_at, held_in}
use Rattle.draid_shard.proofs.Held.{held_entry}
use Rattle.draid_shard.proofs.Passing.{NoneBetween, NoneFrom, all_passed, next_cases, own_place}
use Rattle.draid_replay.specs.Within.{IsSmallEvent, IsWithin}
use Rattle.draid_replay.proofs.Ranges.{kept}

-- ---- blocks

-- no block or ticket of a number begins before a stripe
abbrev pub NoneBelow : Entries → ℕ → ℕ → Type 0
NoneBelow t seq to = (e : Entry) → entry_at t e.pointer.first ≡ Some e → e.pointer.first < to → e.pointer.seq ≡ seq → ⊥

pub passed : (t : Entries) (seq stripe : ℕ) (e : Entry) → NoneBelow t seq stripe → NoneBetween t stripe e.pointer.first → entry_at t e.pointer.first ≡ Some e
    → (e.pointer.seq ≡ seq → ⊥) → NoneBelow t seq (e.pointer.first + 1)
passed t seq stripe e none empty there other d at low same = elim (next_cases t stripe e d empty there at low) [
  | inl is ↦ other (subst (λ (x : Entry). x.pointer.seq ≡ seq) is same)
  | inr before ↦ none d at before same
]

pub unused : (t : Entries) (seq stripe : ℕ) → NoneBelow t seq stripe → NoneFrom t stripe → held_in t (record { object = 7; seq = seq }) ≡ None
unused t seq stripe none behind = by (held_in t key) refl
  where
    key : Key
    key = record { object = 7; seq = seq }

    by : (o : Option Held) → held_in t key ≡ o → held_in t key ≡ None
    by None is = is
    by (Some h) is =
        let z = held_entry t key h is in
        let at = own_place t key h z in
        absurd (none z.e at (all_passed t stripe z.e behind at) (ap (λ (k : Key). k.seq) z.key_is))

-- ---- numbers

-- events have theirs in their ranges up to a place, and so has the one there
pub one_more : (events : List Event) (i : ℕ) (e : Event) → i < length events → e ≡ slice_index_or events i e → IsSmallEvent e
    → ((k : ℕ) (d : Event) → k < i → IsSmallEvent (slice_index_or events k d)) → (k : ℕ) (d : Event) → k < i + 1 → IsSmallEvent (slice_index_or events k d)
one_more events i e inside is small before k d less = elim (cases_lt k i) [
  | inl low ↦ before k d low
  | inr high ↦
      let at : slice_index_or events i d ≡ e = get_or_from_slice_get events i e d (slice_get-get_or events i e inside ∙ ap Some (sym is)) in
      let same : k ≡ i = omega (arith, less, high) in
      subst (λ n. IsSmallEvent (slice_index_or events n d)) (sym same) (subst IsSmallEvent (sym at) small)
]

-- a history of events whose numbers are in their ranges leaves those of a state in theirs
pub run_within : (l : Layout) (w new : State) (events : List Event) → l.stripes < NUMBERS → IsWithin w → All IsSmallEvent events → Run l w events new → IsWithin new
run_within l w new [] few within small run = subst IsWithin (sym run) within
run_within l w new (e ∷ es) few within small run =
    run_within l run.0 new es few (kept l w run.0 e few within (small 0 e (omega arith)) run.1) (λ k d less. small (suc k) d (omega (arith, less))) run.2

pub ok_map : {T E : Type 0} (r : Result T E) (P Q : T → Type 0) → ((v : T) → P v → Q v) → IfOk r P → IfOk r Q
ok_map (Ok v) P Q f p = f v p
ok_map (Err e) P Q f p = tt
