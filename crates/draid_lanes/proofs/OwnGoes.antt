-- What a thread has of its own objects in metaslabs stays, as others and the thread itself go on with these.
use Rattle.std.proofs.Common.{◌≡◌, ◌≤◌, ◌∙◌, arith, inl, ℕ, Bool, true, false, Option, Some, refl, sym, ap, subst, if◌then◌else◌, eq-eqb, ne_eqb}
use mathlib.Core.Logic.{dite}
use native.Mathlib.Decide.{ℕ_discrete}
use Rattle.std.specs.Prelude.{Result}
use Rattle.std.proofs.lemmas.Bool.{true≢false}
use Rattle.draid_rack.specs.declared.Rack as racks
use Rattle.draid_area.specs.declared.Area as areas
use Rattle.draid_shard.specs.Fits.{Valid}
use Rattle.draid_shard.specs.States.{part_of}
use Rattle.draid_shard.specs.declared.shard.Shard.{Shard}
use Rattle.draid_pool.specs.Committing.{DropsFreed}
use Rattle.draid_pool.specs.Drifts.{Drifts, KeepsOf, KeepsTo, StateStep, groups_number, is_other}
use Rattle.draid_pool.specs.Grouping.{ClosesIn, SealsBy}
use Rattle.draid_pool.specs.Rounds.{HeldOnce}
use Rattle.draid_pool.specs.Syncing.{Commits}
use Rattle.draid_pool.specs.declared.fault.SyncFault.{SyncFault}
use Rattle.draid_pool.proofs.Drifting.{keeps_self, keeps_some, keeps_then, state_then}
use Rattle.draid_pool.proofs.GroupKeeps.{drops_keeps, turns_go}
use Rattle.draid_pool.proofs.Holding.{some_same}
use Rattle.draid_pool.proofs.Since.{state_self}
use Rattle.draid_pool.proofs.Turns.{commit_turns}
use Rattle.draid_lanes.proofs.Drifted.{state_some}

-- ---- one metaslab

module _ {R A : Type 0} (rack : racks.Ghosts R) (area : areas.Ghosts A) (owns : ℕ → Bool) where
  -- What it has of a thread's own objects is as it was, but that blocks may be gone that were freed up to the committed group. No group of it fell. Whatever it stood for, it stands for something behind it, where the groups aren't the thread's own.
  pub record OwnGoes (x y : Shard R A) : Type 0 where
    pub valid : Valid rack x → Valid rack y
    pub part : part_of y ≡ part_of x
    pub later : x.committed ≤ y.committed
    pub opens : x.open_group ≤ y.open_group
    pub own : KeepsOf owns y.committed x.entries y.entries
    pub state : owns groups_number ≡ false → StateStep rack area owns x y

  own_same : (x : Shard R A) → OwnGoes x x
  own_same x = record { valid = λ valid. valid; part = refl; later = omega arith; opens = omega arith; own = keeps_self owns x.committed x.entries; state = λ none. state_self rack area owns x }

  pub own_still : (x y : Shard R A) → y ≡ x → OwnGoes x y
  own_still x y same = subst (OwnGoes x) (sym same) (own_same x)

  own_then : (x y z : Shard R A) → OwnGoes x y → OwnGoes y z → OwnGoes x z
  own_then x y z a b = record {
    valid = λ valid. b.valid (a.valid valid);
    part = b.part ∙ a.part;
    later = (let p = a.later in let q = b.later in omega (arith, p, q));
    opens = (let p = a.opens in let q = b.opens in omega (arith, p, q));
    own = keeps_then owns y.committed z.committed x.entries y.entries z.entries b.later a.own b.own;
    state = λ none. state_then rack area owns y.committed x y z a.own (a.state none) (b.state none);
  }

  -- others' holds
  pub own_drifts : (shared : Bool) (mine : ℕ → Bool) → ((n : ℕ) → owns n ≡ true → mine n ≡ true) → (x y : Shard R A) → Drifts rack area shared mine x y → OwnGoes x y
  own_drifts shared mine inside x y d = record {
    valid = λ valid. d.valid;
    part = d.part;
    later = d.later;
    opens = d.opens;
    own = keeps_some mine owns y.committed x.entries y.entries inside d.own;
    state = λ none. state_some rack area mine owns x y inside d.state;
  }

  -- a hold that concerns none of its numbers
  pub own_keeps : (concerned : Option ℕ) → ((n : ℕ) → owns n ≡ true → is_other concerned n ≡ true) → (x y : Shard R A) → KeepsTo rack area x y concerned → OwnGoes x y
  own_keeps concerned foreign x y k = record {
    valid = λ valid. k.valid;
    part = k.part;
    later = k.later;
    opens = k.opens;
    own = keeps_some (is_other concerned) owns y.committed x.entries y.entries foreign k.others;
    state = λ none. state_some rack area (is_other concerned) owns x y foreign k.state;
  }

  -- a group is closed, sealed and committed
  pub own_closes : (group : ℕ) (result : Result Unit SyncFault) (x y : Shard R A) → ClosesIn rack area group x result y → OwnGoes x y
  own_closes group result x y c = record {
    valid = λ valid. c.valid;
    part = c.table.part;
    later = (let same = c.table.committed in omega (arith, same));
    opens = c.table.opens;
    own = record { each = λ key mine. inl (c.table.entries.held key) };
    state = λ none part pieces u is. turns_go rack area owns part pieces u y _ (c.closes part pieces u is) (λ mine. absurd (true≢false (sym mine ∙ none)));
  }

  pub own_seals : (group : ℕ) (result : Result ℕ SyncFault) (x y : Shard R A) → SealsBy rack area group x result y → OwnGoes x y
  own_seals group result x y s = record {
    valid = λ valid. s.valid;
    part = s.table.part;
    later = (let same = s.table.committed in omega (arith, same));
    opens = s.table.opens;
    own = record { each = λ key mine. inl (s.table.entries.held key) };
    state = λ none part pieces u is. turns_go rack area owns part pieces u y _ (s.seals part pieces u is) (λ mine. absurd (true≢false (sym mine ∙ none)));
  }

  pub own_commits : (group : ℕ) (x y : Shard R A) → x.committed ≤ y.committed → Commits rack group x y → OwnGoes x y
  own_commits group x y later c = record {
    valid = λ valid. c.valid;
    part = c.does.part;
    later = later;
    opens = (let same = c.commits.open_group_is in omega (arith, same));
    own = drops_keeps owns y.committed x.entries y.entries (subst (λ g. DropsFreed g x.entries y.entries) (sym c.commits.committed) c.commits.entries);
    state = λ none part pieces u is. turns_go rack area owns part pieces u y _ (commit_turns rack area part pieces x y group u is c) (λ mine. absurd (true≢false (sym mine ∙ none)));
  }

  -- ---- all of them

  -- each metaslab is there, and went so
  abbrev pub EachGoes : (last now : ℕ → Option (Shard R A)) → Type 0
  EachGoes last now = (m : ℕ) (x : Shard R A) → last m ≡ Some x → (y : Shard R A) × (now m ≡ Some y) × OwnGoes x y

  pub each_same : (last : ℕ → Option (Shard R A)) → EachGoes last last
  each_same last m x at = (x, at, own_same x)

  pub each_then : (last mid now : ℕ → Option (Shard R A)) → EachGoes last mid → EachGoes mid now → EachGoes last now
  each_then last mid now first second m x at =
      let p = first m x at in
      let q = second m p.0 p.1 in
      (q.0, q.1, own_then x p.0 q.0 p.2 q.2)

-- ---- holds

module _ {R A S : Type 0} (rack : racks.Ghosts R) (area : areas.Ghosts A) (last : S → ℕ → Option (Shard R A)) (went : S → ℕ → Shard R A → Shard R A → S → Type 0) (shared : Bool) (mine owns : ℕ → Bool) (inside : (n : ℕ) → owns n ≡ true → mine n ≡ true) where
  abbrev pub Goes : S → S → Type 0
  Goes a b = EachGoes rack area owns (last a) (last b)

  pub hold_goes : (does : Shard R A → Shard R A → Type 0) (a : S) (m : ℕ) (b : S) (h : HeldOnce rack area last went shared mine does a m b) → OwnGoes rack area owns h.before h.after → Goes a b
  hold_goes does a m b h own k x at = dite (ℕ_discrete k m)
      (λ same.
      let is : h.shard ≡ x = some_same h.shard x (sym h.there ∙ (ap (last a) (sym same) ∙ at)) in (
        h.after,
        ap (last b) same ∙ (h.is m ∙ ap (λ t. if t then Some h.after else last a m) (eq-eqb m m refl)),
        subst (λ (s : Shard R A). OwnGoes rack area owns s h.after) is
            (own_then rack area owns h.shard h.before h.after (own_drifts rack area owns shared mine inside h.shard h.before h.drifts) own),
      ))
      (λ not. (x, h.is k ∙ (ap (λ t. if t then Some h.after else last a k) (ne_eqb k m not) ∙ at), own_same rack area owns x))

  pub goes_same : (a : S) → Goes a a
  goes_same a = each_same rack area owns (last a)

  pub goes_on : (a b c : S) → Goes a b → Goes b c → Goes a c
  goes_on a b c = each_then rack area owns (last a) (last b) (last c)
