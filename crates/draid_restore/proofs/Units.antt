-- The next block that is lent, and the entry that has it.
use Rattle.std.proofs.Common.{◌≡◌, ◌<◌, ◌≤◌, ◌+◌, ◌∙◌, ℕ, true, Option, None, Some, arith, refl, sym, ap, subst, inl, inr, max, option_map}
use Rattle.std.specs.Prelude.{IsSomeAnd}
use Rattle.std.proofs.lemmas.Bool.{cases_lt}
use Rattle.std.proofs.lemmas.Bool.Decides.{nat_tests}
use Rattle.draid_names.specs.declared.pointer.Pointer.{Pointer}
use Rattle.draid_rack.specs.declared.Rack.{Ghosts}
use Rattle.draid_machine.specs.Names.{is_block, is_heal, takes}
use Rattle.draid_machine.specs.State as machine
use Rattle.draid_machine.specs.Step.{IsNext, is_lent}
use Rattle.draid_machine.specs.declared.names.Held.{Held}
use Rattle.draid_machine.specs.declared.names.Key.{Key}
use Rattle.draid_machine.proofs.Small.{none_some, some_same}
use Rattle.draid_entries.specs.Entries.{entry_at}
use Rattle.draid_entries.specs.Maps.{held_at, key_of, staged}
use Rattle.draid_entries.specs.declared.entry.Entry.{Entry}
use Rattle.draid_pass.specs.declared.pass.Pass.{Pass}
use Rattle.draid_slots.specs.States.{pass_in}
use Rattle.draid_shard.specs.Fits.{Valid}
use Rattle.draid_shard.specs.Left.{HasNothingLeft}
use Rattle.draid_shard.specs.Looks.{IsNextBlock, Reaches}
use Rattle.draid_shard.specs.States.{IsIn}
use Rattle.draid_shard.specs.declared.shard.Shard.{Shard}
use Rattle.draid_shard.proofs.Held.{held_entry}
use Rattle.draid_shard.proofs.Over.{next_of_scrub}
use Rattle.draid_shard.proofs.Shown.{state_shown}
use Rattle.draid_restore.specs.Loans.{HasBlockLeft, IsNextAt, IsPlaceOf, IsUnit}
use Rattle.draid_shard.specs.Scrubs.{IsRunningScrub}

-- the scrub that runs
pub record HasScrub {R A : Type 0} (shard : Shard R A) : Type 0 where
  pub pass : Pass
  pub there : shard.pass ≡ Some pass
  pub runs : IsRunningScrub pass

pub scrub_of : {R A : Type 0} (shard : Shard R A) → IsSomeAnd shard.pass IsRunningScrub → HasScrub shard
scrub_of shard running = by shard.pass refl running
  where
    by : (o : Option Pass) → shard.pass ≡ o → IsSomeAnd o IsRunningScrub → HasScrub shard
    by None at none = absurd none
    by (Some p) at that = record { pass = p; there = at; runs = that }

-- ---- the entry that was found

module _ {R A : Type 0} (rack : Ghosts R) (shard : Shard R A) (v : Valid rack shard) (from upto : ℕ) (place : IsPlaceOf shard.pass from upto) (found : Pointer)
    (next : (w : machine.State) → IsIn shard w → IsNextBlock w.core from upto found) where
  -- a state has it
  record IsFound (w : machine.State) : Type 0 where
    pub e : Entry
    pub there : entry_at shard.entries found.first ≡ Some e
    pub first_is : e.pointer.first ≡ found.first
    pub stripe : ℕ
    pub at : IsNextAt w.core from upto e stripe

  found_in : (w : machine.State) → IsIn shard w → IsFound w
  found_in w is =
      let n = next w is in
      let z = held_entry shard.entries (key_of found) (held_at (staged n.stage found)) (sym (is.held (key_of found)) ∙ n.reaches.there) in
      record {
        e = z.e;
        there = z.there;
        first_is = ap (λ (h : Held). h.first) z.held_is;
        stripe = n.stripe;
        at = record {
          reaches = subst (λ k. Reaches w.core from upto k (held_at z.e) n.stripe) (sym z.key_is) (subst (λ h. Reaches w.core from upto (key_of found) h n.stripe) (sym z.held_is) n.reaches);
          first = n.first;
        };
      }

  pub none_there : entry_at shard.entries found.first ≡ None → {X : Type 0} → X
  none_there none =
      let s = state_shown rack shard v in
      let z = found_in s.0 s.1 in
      absurd (none_some (entry_at shard.entries found.first) z.e none z.there)

  module _ (entry : Entry) (there : entry_at shard.entries found.first ≡ Some entry) where
    own_place : (w : machine.State) (is : IsIn shard w) → (found_in w is).e ≡ entry
    own_place w is = some_same (entry_at shard.entries found.first) (found_in w is).e entry (found_in w is).there there

    entry_there : entry_at shard.entries entry.pointer.first ≡ Some entry
    entry_there =
        let s = state_shown rack shard v in
        let z = found_in s.0 s.1 in
        ap (entry_at shard.entries) (ap (λ (e : Entry). e.pointer.first) (sym (own_place s.0 s.1)) ∙ z.first_is) ∙ there

    next_here : (w : machine.State) → IsIn shard w → IsNextAt w.core from upto entry (max from entry.pointer.first)
    next_here w is =
        let z = found_in w is in
        let at : IsNextAt w.core from upto entry z.stripe = subst (λ e. IsNextAt w.core from upto e z.stripe) (own_place w is) z.at in
        let takes_it = at.reaches.takes in
        let low : entry.pointer.first ≤ z.stripe = grind (arith, nat_tests, takes_it) in
        let high : z.stripe < entry.pointer.first + entry.pointer.stripes = grind (arith, nat_tests, takes_it) in
        let behind = at.reaches.behind in
        let taken : takes (held_at entry) (max from entry.pointer.first) ≡ true = taken_at entry (max from entry.pointer.first) (omega arith) (omega (arith, low, high, behind)) in
        let own : Reaches w.core from upto (key_of entry.pointer) (held_at entry) (max from entry.pointer.first)
        = record { there = at.reaches.there; is_block = at.reaches.is_block; born = at.reaches.born; takes = taken; behind = omega arith } in
        let least = at.first (key_of entry.pointer) (held_at entry) (max from entry.pointer.first) own in
        let same : z.stripe ≡ max from entry.pointer.first = omega (arith, low, behind, least) in
        subst (IsNextAt w.core from upto entry) same at
      where
        taken_at : (e : Entry) (x : ℕ) → e.pointer.first ≤ x → x < e.pointer.first + e.pointer.stripes → takes (held_at e) x ≡ true
        taken_at e x from to = grind (arith, nat_tests, from, to)

    pub unit_found : IsUnit shard entry (max from entry.pointer.first)
    unit_found = record {
      there = entry_there;
      next = λ w is p at.
          let here = subst (λ o. IsPlaceOf o from upto) at place in
          subst (λ m. IsNextAt w.core p.at m entry (max from entry.pointer.first)) here.1 (subst (λ n. IsNextAt w.core n upto entry (max from entry.pointer.first)) here.0 (next_here w is));
    }

pub none_at : {R A : Type 0} (shard : Shard R A) (w : machine.State) (from upto : ℕ) → IsPlaceOf shard.pass from upto → (p : Pass) → shard.pass ≡ Some p → ((k : Key) (h : Held) (x : ℕ) → Reaches w.core from upto k h x → ⊥)
    → (k : Key) (h : Held) (x : ℕ) → Reaches w.core p.at p.max k h x → ⊥
none_at shard w from upto place p at none k h x r =
    let here = subst (λ o. IsPlaceOf o from upto) at place in
    none k h x (subst (λ m. Reaches w.core from m k h x) (sym here.1) (subst (λ n. Reaches w.core n p.max k h x) (sym here.0) r))

-- ---- the unit in a state

module _ {R A : Type 0} (shard : Shard R A) (entry : Entry) (stripe : ℕ) (unit : IsUnit shard entry stripe) (running : IsSomeAnd shard.pass IsRunningScrub) where
  abbrev scrub : HasScrub shard
  scrub = scrub_of shard running

  pub is_next : (w : machine.State) → IsIn shard w → IsNext w.core (pass_in shard.slots scrub.pass) (key_of entry.pointer) (held_at entry) stripe
  is_next w is =
      let n = unit.next w is scrub.pass scrub.there in
      next_of_scrub w.core (pass_in shard.slots scrub.pass) entry.pointer scrub.runs.scrub (record { stage = entry.stage; stripe = stripe; reaches = n.reaches; first = n.first })

  pub left : HasBlockLeft shard
  left w is = record {
    p = pass_in shard.slots scrub.pass;
    key = key_of entry.pointer;
    h = held_at entry;
    stripe = stripe;
    pass = is.pass ∙ ap (option_map (pass_in shard.slots)) scrub.there;
    next = is_next w is;
  }

-- ---- nothing is left

pub nothing_left : {R A : Type 0} (shard : Shard R A) → ((w : machine.State) → IsIn shard w → (p : Pass) → shard.pass ≡ Some p → (k : Key) (h : Held) (x : ℕ) → Reaches w.core p.at p.max k h x → ⊥)
    → IsSomeAnd shard.pass IsRunningScrub → HasNothingLeft shard
nothing_left shard none running w is p there k h x found lent taken =
    let z = scrub_of shard running in
    let own : pass_in shard.slots z.pass ≡ p = some_same w.core.pass (pass_in shard.slots z.pass) p (is.pass ∙ ap (option_map (pass_in shard.slots)) z.there) there in
    let at : z.pass.at ≡ p.next = ap (λ (p : machine.Pass). p.next) own in
    let upto : z.pass.max ≡ p.max = ap (λ (p : machine.Pass). p.max) own in
    let heal : is_heal p.kind ≡ true = ap (λ (p : machine.Pass). is_heal p.kind) (sym own) ∙ ap is_heal z.runs.scrub in
    elim (cases_lt x p.next) [
      | inl less ↦ less
      | inr past ↦ absurd (none w is z.pass z.there k h x (record {
        there = found;
        is_block = block_of p h heal lent;
        born = (let low = born_of p h heal lent in omega (arith, low, upto));
        takes = taken;
        behind = omega (arith, at, past);
      }))
    ]
  where
    block_of : (p : machine.Pass) (h : Held) → is_heal p.kind ≡ true → is_lent p h ≡ true → is_block h.stage ≡ true
    block_of p h heal lent = grind (arith, nat_tests, heal, lent)

    born_of : (p : machine.Pass) (h : Held) → is_heal p.kind ≡ true → is_lent p h ≡ true → h.birth ≤ p.max
    born_of p h heal lent = grind (arith, nat_tests, heal, lent)
