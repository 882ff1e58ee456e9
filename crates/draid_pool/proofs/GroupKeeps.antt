-- What a sync does to a metaslab keeps to what every hold keeps to, and a thread that alone changes groups may do it.
use Rattle.std.proofs.Common.{◌≡◌, ◌∙◌, ◌+◌, arith, ℕ, Bool, true, inl, inr, Option, Some, None, Ok, MatchOption, ap, sym, subst, refl}
use Rattle.std.specs.Prelude.{Result, if◌then◌else◌}
use Rattle.std.proofs.lemmas.Bool.{true≢false}
use Rattle.draid_rack.specs.declared.Rack as racks
use Rattle.draid_area.specs.declared.Area as areas
use Rattle.draid_machine.specs.After.{is_freed_block}
use Rattle.draid_machine.proofs.Small.{bool_cases}
use Rattle.draid_entries.specs.Entries.{held_in}
use Rattle.draid_entries.specs.declared.entries.Entries.{Entries}
use Rattle.draid_segments.specs.Segments.{Pieces}
use Rattle.draid_session.specs.Holds.{Hold}
use Rattle.draid_session.specs.State.{Metaslab}
use Rattle.draid_shard.specs.Fits.{AreGroups, Valid}
use Rattle.draid_shard.specs.Part.{Part, layout_in}
use Rattle.draid_shard.specs.States.{part_of}
use Rattle.draid_shard.specs.declared.shard.Shard.{Shard}
use Rattle.draid_pool.specs.Committing.{DropsFreed}
use Rattle.draid_pool.specs.Drifts.{Drifts, GoesOn, KeepsOf, KeepsTo, StateStep, groups_number, is_other}
use Rattle.draid_pool.specs.Groups.{AreasLater}
use Rattle.draid_pool.specs.Grouping.{ClosesIn, ClosesNext, CommitsNext, SealsBy, SealsIn, SealsNext}
use Rattle.draid_pool.specs.Passes.{KeepsPass}
use Rattle.draid_pool.specs.Shards.{KeepsImages}
use Rattle.draid_pool.specs.Syncing.{Commits, KeepsTable, Turns}
use Rattle.draid_pool.specs.declared.fault.SyncFault.{SyncFault}
use Rattle.draid_pool.proofs.Drifting.{keeps_self, same_pass}
use Rattle.draid_pool.proofs.Rises.{records_as, records_same}
use Rattle.draid_pool.proofs.ShardSteps.{acts_since}
use Rattle.draid_pool.proofs.Since.{state_self}
use Rattle.draid_pool.proofs.Turns.{commit_turns}

-- a hold that concerns the groups may change them
pub not_kept : {P : Type 0} → is_other (Some groups_number) groups_number ≡ true → P
not_kept is = absurd (true≢false (sym is))

-- what a commit drops was freed up to its group
pub drops_keeps : (of : ℕ → Bool) (group : ℕ) (old new : Entries) → DropsFreed group old new → KeepsOf of group old new
drops_keeps of group old new drops = record {
  each = λ key own. elim (bool_cases (is_freed_block group (held_in old key))) [
    | inl freed ↦ inr (freed, drops.held key ∙ ap (λ b. if b then None else held_in old key) freed)
    | inr not ↦ inl (drops.held key ∙ ap (λ b. if b then None else held_in old key) not)
  ];
}

module _ {R A : Type 0} (rack : racks.Ghosts R) (area : areas.Ghosts A) where
  -- one hold with the same pieces is a step of the state
  pub turns_go : (of : ℕ → Bool) (part : Part) (pieces : Pieces) (x : Metaslab) (new : Shard R A) (does : Hold → Metaslab → Type 0) → (t : Turns rack area part pieces x new does) → (of groups_number ≡ true → KeepsImages x.world t.reached.world) → GoesOn rack area of part pieces x new
  turns_go of part pieces x new does t images = record {
    reached = t.reached;
    now = pieces;
    is = t.is;
    since = acts_since (layout_in part) t.act x t.reached t.acts;
    images = images;
    same = λ k own. inl refl;
  }

  -- what is held stays, and so do the committed group and the pass
  table_keeps : (x y : Shard R A) → Valid rack y → KeepsTable x y → KeepsPass x.pass y.pass → AreasLater area.faults x y → StateStep rack area (is_other (Some groups_number)) x y → KeepsTo rack area x y (Some groups_number)
  table_keeps x y valid table pass later state = record {
    valid = valid;
    part = table.part;
    later = (let same = table.committed in omega (arith, same));
    opens = table.opens;
    groups = λ is. not_kept is;
    passes = λ other. pass;
    others = record { each = λ key own. inl (table.entries.held key) };
    areas = later;
    state = state;
  }

  closes_keep : (x y : Shard R A) (group : ℕ) (result : Result Unit SyncFault) → ClosesIn rack area group x result y → KeepsTo rack area x y (Some groups_number)
  closes_keep x y group result c = table_keeps x y c.valid c.table c.stays.pass c.later (λ part pieces u is. turns_go (is_other (Some groups_number)) part pieces u y _ (c.closes part pieces u is) (λ mine. not_kept mine))

  pub close_keeps : (x y : Shard R A) (group : ℕ) (out : Option (Result Unit SyncFault)) → MatchOption out ⊥ (λ result. ClosesIn rack area group x result y) → KeepsTo rack area x y (Some groups_number)
  close_keeps x y group None did = absurd did
  close_keeps x y group (Some result) did = closes_keep x y group result did

  seals_keep : (x y : Shard R A) (group : ℕ) (result : Result ℕ SyncFault) → SealsBy rack area group x result y → KeepsTo rack area x y (Some groups_number)
  seals_keep x y group result s = table_keeps x y s.valid s.table s.stays.pass s.later (λ part pieces u is. turns_go (is_other (Some groups_number)) part pieces u y _ (s.seals part pieces u is) (λ mine. not_kept mine))

  -- one that changed nothing
  still_keeps : (x y : Shard R A) (n : ℕ) → Valid rack x → y ≡ x → KeepsTo rack area x y (Some groups_number)
  still_keeps x y n valid same = record {
    valid = subst (Valid rack) (sym same) valid;
    part = ap (λ s. part_of s) same;
    later = (let c = ap (λ (s : Shard R A). s.committed) same in omega (arith, c));
    opens = (let o = ap (λ (s : Shard R A). s.open_group) same in omega (arith, o));
    groups = λ is. not_kept is;
    passes = λ other. same_pass x.pass y.pass (ap (λ (s : Shard R A). s.pass) same);
    others = subst (λ (s : Shard R A). KeepsOf (is_other (Some groups_number)) s.committed x.entries s.entries) (sym same) (keeps_self (is_other (Some groups_number)) x.committed x.entries);
    areas = records_as area.faults x y same;
    state = subst (StateStep rack area (is_other (Some groups_number)) x) (sym same) (state_self rack area (is_other (Some groups_number)) x);
  }

  pub seal_keeps : (x y : Shard R A) (group : ℕ) (out : Option (Result ℕ SyncFault)) → SealsNext rack group x → SealsIn rack area group x out y → KeepsTo rack area x y (Some groups_number)
  seal_keeps x y group None next waits = still_keeps x y group next.valid waits.same
  seal_keeps x y group (Some result) next did = seals_keep x y group result did

  -- one that is closing is that behind the committed one
  pub closing_behind : (x : Shard R A) (group : ℕ) → Valid rack x → x.closing ≡ Some group → group ≡ x.committed + 1
  closing_behind x group valid closing = (let are = subst (λ o. AreGroups x.open_group o x.committed x.sealed) closing valid.groups in are.1)

  pub commit_keeps : (x y : Shard R A) (group : ℕ) → CommitsNext rack group x → Commits rack group x y → KeepsTo rack area x y (Some groups_number)
  commit_keeps x y group next c = record {
    valid = c.valid;
    part = c.does.part;
    later = (let behind = closing_behind x group next.valid next.closing in let is = c.commits.committed in omega (arith, behind, is));
    opens = (let same = c.commits.open_group_is in omega (arith, same));
    groups = λ is. not_kept is;
    passes = λ other. c.stays.pass;
    others = drops_keeps (is_other (Some groups_number)) y.committed x.entries y.entries (subst (λ g. DropsFreed g x.entries y.entries) (sym c.commits.committed) c.commits.entries);
    areas = records_same area.faults x y c.areas;
    state = λ part pieces u is. turns_go (is_other (Some groups_number)) part pieces u y _ (commit_turns rack area part pieces x y group u is c) (λ mine. not_kept mine);
  }

  -- ---- what others did since

  module _ (shared : Bool) (owns : ℕ → Bool) (own : owns groups_number ≡ true) (group : ℕ) (shard x : Shard R A) (d : Drifts rack area shared owns shard x) where
    pub close_ready : ClosesNext rack group shard → ClosesNext rack group x
    close_ready next = record { valid = d.valid; next = (let same = (d.groups own).groups.committed in let is = next.next in omega (arith, same, is)) }

    pub seal_ready : SealsNext rack group shard → SealsNext rack group x
    seal_ready next = record { valid = d.valid; closing = (d.groups own).groups.closing ∙ next.closing }

    pub commit_ready : CommitsNext rack group shard → CommitsNext rack group x
    commit_ready next = record { valid = d.valid; closing = (d.groups own).groups.closing ∙ next.closing; sealed = (d.groups own).groups.sealed ∙ next.sealed }

  -- ---- what it is ready for then

  pub closed_again : (group : ℕ) (x y : Shard R A) → ClosesIn rack area group x (Ok tt) y → ClosesNext rack group y
  closed_again group x y c = record { valid = c.valid; next = closing_behind y group c.valid c.closing }

  pub closed_seals : (group : ℕ) (x y : Shard R A) → ClosesIn rack area group x (Ok tt) y → SealsNext rack group y
  closed_seals group x y c = record { valid = c.valid; closing = c.closing }

  pub sealed_again : (group thin : ℕ) (x y : Shard R A) → SealsBy rack area group x (Ok thin) y → SealsNext rack group y
  sealed_again group thin x y s = record { valid = s.valid; closing = s.sealed.0 }

  pub sealed_commits : (group thin : ℕ) (x y : Shard R A) → SealsBy rack area group x (Ok thin) y → CommitsNext rack group y
  sealed_commits group thin x y s = record { valid = s.valid; closing = s.sealed.0; sealed = s.sealed.1 }

  pub committed_next : (group : ℕ) (x y : Shard R A) → Commits rack group x y → ClosesNext rack (group + 1) y
  committed_next group x y c = record { valid = c.valid; next = (let is = c.commits.committed in omega (arith, is)) }
