-- A planned rebuild runs: what the shard is then, for which states it stands, and why it may have to wait.
use Rattle.std.proofs.Common.{◌≡◌, ◌+◌, ◌<◌, ◌≤◌, ◌∙◌, ℕ, Bool, true, false, List, [], ◌∷◌, Option, Some, None, IfSome, IsSomeAnd, option_map, arith, refl, sym, ap, subst, inl, inr, length, if◌then◌else◌}
use Rattle.std.specs.Prelude.{Contains, vec_capacity}
use Rattle.std.proofs.lemmas.Bool.{true≢false}
use Rattle.draid_names.specs.declared.pass_kind.PassKind.{PassKind}
use Rattle.draid_names.specs.declared.pass_kind.PassKind.TheVariants.{Rebuild, Heal}
use Rattle.draid_rack.specs.declared.Rack.{Ghosts}
use Rattle.draid_machine.specs.declared.names.Key.{Key}
use Rattle.draid_machine.specs.Names.{is_block}
use Rattle.draid_machine.specs.After.{ready_state}
use Rattle.draid_machine.specs.State as machine
use Rattle.draid_machine.specs.Step.{ReadyStep}
use Rattle.draid_machine.proofs.Small.{bool_cases, some_same}
use Rattle.draid_entries.specs.declared.history.History.{History}
use Rattle.draid_entries.specs.History.{owed_of, reserved_of, stored_of}
use Rattle.draid_pass.specs.declared.pass.Pass.{Pass}
use Rattle.draid_slots.specs.States.{HoldsPass, pass_in}
use Rattle.draid_slots.specs.Table.{SlotTable}
use Rattle.draid_shard.specs.Fits.{LogsHaveRoom, Valid, birth_groups, is_rebuild, oldest_open, owed_for_pass}
use Rattle.draid_shard.specs.Looks.{HasTickets, IsGreatestBirth}
use Rattle.draid_shard.specs.States.{IsIn}
use Rattle.draid_shard.specs.declared.shard.Shard.{Shard}
use Rattle.draid_shard.proofs.Lenders.{StillLends, changes_still, flush_still, kept_still}
use Rattle.draid_passing.specs.Passing.{IsMaxOf, IsPlanned}

abbrev pub run : Option Pass → Option Pass
run pass = option_map (λ (p : Pass). record p { running = true }) pass

runs_lends : (o : Option Pass) → StillLends o (run o)
runs_lends None = tt
runs_lends (Some p) = (refl, omega arith)

runs_rebuild : (o : Option Pass) → is_rebuild (run o) ≡ is_rebuild o
runs_rebuild None = refl
runs_rebuild (Some p) = refl

runs_held : (slots : SlotTable) (last : ℕ) (o : Option Pass) → IfSome o (HoldsPass slots last) → IfSome (run o) (HoldsPass slots last)
runs_held slots last None held = tt
runs_held slots last (Some p) held = record { current = record { number = held.current.number; targets = held.current.targets }; ascending = held.ascending; some_max = held.some_max }

runs_owes : (o : Option Pass) → IsSomeAnd o IsPlanned → owed_for_pass (run o) + 1 ≡ owed_for_pass o
runs_owes None planned = absurd planned
runs_owes (Some p) planned = by p.kind p.running planned.rebuild planned.waits
  where
    by : (k : PassKind) (runs : Bool) → k ≡ Rebuild → runs ≡ false
        → elim k as (λ k. ℕ) [ Rebuild ↦ 1 | Heal ↦ 2 ] + 1 ≡ elim k as (λ k. ℕ) [ Rebuild ↦ if runs then 1 else 2 | Heal ↦ 2 ]
    by Rebuild true kind runs = absurd (true≢false runs)
    by Rebuild false kind runs = refl
    by Heal runs kind waits = absurd (cc)

-- ---- the pass that waits

module _ {R A : Type 0} (old : Shard R A) where
  -- the pass that waits
  pub record HasWaiting (w : machine.State) : Type 0 where
    pub p : Pass
    pub there : old.pass ≡ Some p
    pub pass_in : w.core.pass ≡ Some (pass_in old.slots p)
    pub planned : IsPlanned p

  pub waiting : IsSomeAnd old.pass IsPlanned → (w : machine.State) → IsIn old w → HasWaiting w
  waiting planned w is = by old.pass refl planned
    where
      by : (o : Option Pass) → old.pass ≡ o → IsSomeAnd o IsPlanned → HasWaiting w
      by None at none = absurd none
      by (Some p) at that = record { p = p; there = at; pass_in = is.pass ∙ ap (option_map (pass_in old.slots)) at; planned = that }

  -- the last group that it makes good
  max_there : (p : Pass) (max : ℕ) → old.pass ≡ Some p → IsMaxOf old.pass max → max ≡ p.max
  max_there p max at is = subst (λ o. IsMaxOf o max) at is

  module _ (w : machine.State) (is : IsIn old w) (planned : IsSomeAnd old.pass IsPlanned) (tickets birth max : ℕ) (has : HasTickets w.core tickets) (greatest : IsGreatestBirth w.core birth) (max_is : IsMaxOf old.pass max) where
    pub waits_for_tickets : 0 < tickets → (v : machine.State) → ReadyStep w v → ⊥
    waits_for_tickets some v step = by has.keys refl
      where
        by : (keys : List Key) → has.keys ≡ keys → ⊥
        by [] e = (let many = has.many in let count : length has.keys ≡ 0 = ap length e in absurd (omega (arith, some, many, count)))
        by (key ∷ keys) e =
            let z = has.each key (subst (λ ks. Contains ks key) (sym e) (0, omega arith, refl)) in
            true≢false (sym (step.blocks key z.0 z.1) ∙ z.2)

    pub waits_for_births : old.committed < birth → (v : machine.State) → ReadyStep w v → ⊥
    waits_for_births later v step = elim greatest.one [
      | inl none ↦ absurd (omega (arith, later, none))
      | inr z ↦ (let upto = step.births z.0 z.1 z.2 in let own = z.3 in let same = is.committed in absurd (omega (arith, later, upto, own, same)))
    ]

    pub waits_for_groups : old.committed + 1 < max → (v : machine.State) → ReadyStep w v → ⊥
    waits_for_groups later v step =
        let upto = step.committed in
        let same = is.committed in
        let m = max_there (waiting planned w is).p max (waiting planned w is).there max_is in
        let own : pass_in old.slots (waiting planned w is).p ≡ step.p = some_same w.core.pass (pass_in old.slots (waiting planned w is).p) step.p (waiting planned w is).pass_in step.pass in
        let max_own : (waiting planned w is).p.max ≡ step.p.max = ap (λ (p : machine.Pass). p.max) own in
        absurd (omega (arith, later, upto, same, m, max_own))

-- ---- the shard

module _ {R A : Type 0} (old : Shard R A) (pass : Option Pass) (history : History) (pass_is : pass ≡ run old.pass) where
  abbrev pub readied : Shard R A
  readied = record old { pass = pass; history = history }

  pub ready_valid : (rack : Ghosts R) → Valid rack old → IsSomeAnd old.pass IsPlanned → owed_of history + 1 ≡ owed_of old.history → reserved_of history ≡ reserved_of old.history
      → stored_of old.history ≤ stored_of history → Valid rack readied
  ready_valid rack v planned owed reserved stored = record {
    part = v.part;
    version = v.version;
    asked = v.asked;
    tables = v.tables;
    disabled = v.disabled ∙ sym kind_stays;
    few = v.few;
    here = v.here;
    slots = v.slots;
    once = v.once;
    pass = subst (λ o. IfSome o (HoldsPass old.slots old.last_pass)) (sym pass_is) (runs_held old.slots old.last_pass old.pass v.pass);
    kept = kept_still old.geometry old.pass pass old.kept lends v.kept;
    serial = (let low = v.serial in omega (arith, low, stored));
    flushed = flush_still old.geometry.spec.children (vec_capacity old.flushed) old.pass pass lends v.flushed;
    logs = subst (LogsHaveRoom old.slots (oldest_open old.open_group old.closing) (birth_groups old.closing)) (sym (changes_still old.pass pass old.closing kind_stays)) v.logs;
    leaves = v.leaves;
    groups = v.groups;
    low = v.low;
    tickets = v.tickets;
    settled = v.settled;
    owed = (let was = v.owed in let less : owed_for_pass pass + 1 ≡ owed_for_pass old.pass = ap (λ o. owed_for_pass o + 1) pass_is ∙ runs_owes old.pass planned in omega (arith, was, owed, reserved, less));
  } where
    lends : StillLends old.pass pass
    lends = subst (StillLends old.pass) (sym pass_is) (runs_lends old.pass)

    kind_stays : is_rebuild pass ≡ is_rebuild old.pass
    kind_stays = ap is_rebuild pass_is ∙ runs_rebuild old.pass

  -- ---- the event

  module _ (w : machine.State) (is : IsIn old w) (planned : IsSomeAnd old.pass IsPlanned) (tickets birth max : ℕ) (has : HasTickets w.core tickets) (greatest : IsGreatestBirth w.core birth) (max_is : IsMaxOf old.pass max) where
    abbrev pub state : machine.State
    state = ready_state w (pass_in old.slots (waiting old planned w is).p)

    pub ready_step : tickets ≡ 0 → birth ≤ old.committed → max ≤ old.committed + 1 → ReadyStep w state
    ready_step none births upto = record {
      p = pass_in old.slots (waiting old planned w is).p;
      pass = (waiting old planned w is).pass_in;
      rebuild = (waiting old planned w is).planned.rebuild;
      planned = (waiting old planned w is).planned.waits;
      blocks = λ k h found. elim (bool_cases (is_block h.stage)) [
        | inl block ↦ block
        | inr ticket ↦ (let among = has.all k h found ticket in let some = among.1 in let many = has.many in absurd (omega (arith, some, many, none)))
      ];
      births = λ k h found. (let less = greatest.births k h found in let same = is.committed in omega (arith, less, births, same));
      committed = (let same = is.committed in let m = max_there old (waiting old planned w is).p max (waiting old planned w is).there max_is in omega (arith, upto, same, m));
      made = refl;
    }

    pub ready_in : IsIn readied state
    ready_in = record {
      held = is.held;
      slots = record { order = is.slots.order; arms = is.slots.arms; detached = is.slots.detached; only = is.slots.only };
      pass = ap (option_map (pass_in old.slots)) (sym (pass_is ∙ ap run (waiting old planned w is).there));
      last = is.last;
      open_group_is = is.open_group_is;
      closing = is.closing;
      sealed = is.sealed;
      committed = is.committed;
      version = is.version;
      asked = is.asked;
      serial = is.serial;
      loan = is.loan;
    }
