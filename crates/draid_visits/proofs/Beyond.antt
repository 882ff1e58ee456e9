-- A block of a scrub that no columns restored had more bad columns than there are parity columns as it was lent, where its metaslab tells harm.
use Rattle.std.proofs.Common.{◌≡◌, ◌⊎◌, ◌∙◌, ℕ, Bool, true, List, Option, Some, None, inl, inr, refl, sym, ap, subst}
use Rattle.std.specs.Prelude.{⊤, IsSome, MatchOption, is_none, option_map}
use Rattle.std.proofs.lemmas.Bool.{true≢false}
use Rattle.draid_rack.specs.Rack.{OnTold, Told}
use Rattle.draid_rack.specs.declared.Rack as racks
use Rattle.draid_area.specs.declared.Area as areas
use Rattle.draid_spec.specs.declared.layout.Geometry.{Geometry}
use Rattle.draid_block.specs.Blocks.{BlockValue, cut_of}
use Rattle.draid_block.specs.Solving.{IsReadable}
use Rattle.draid_machine.specs.declared.names.Held.{Held}
use Rattle.draid_machine.specs.State as machine
use Rattle.draid_segments.specs.Reads.{MoreBad}
use Rattle.draid_segments.specs.Segments.{Pieces}
use Rattle.draid_entries.specs.Maps.{held_at, key_of, staged}
use Rattle.draid_shard.specs.Fits.{Valid}
use Rattle.draid_shard.specs.Loans.{block_loan, loan_in}
use Rattle.draid_shard.specs.Part.{Part, layout_in}
use Rattle.draid_shard.specs.States.{part_of}
use Rattle.draid_shard.specs.declared.loan.KeptLoan.{KeptLoan}
use Rattle.draid_shard.specs.declared.shard.Shard.{Shard}
use Rattle.draid_restore.specs.Loans.{LendsBlock}
use Rattle.draid_restore.specs.Restoring.{RestoresLent, fetched_of}
use Rattle.draid_restore.proofs.LentReadable.{held_is, readable}
use Rattle.draid_session.specs.Holds.{view_of}
use Rattle.draid_session.specs.Passes as passes
use Rattle.draid_session.specs.State.{Metaslab}
use Rattle.draid_pool.specs.Metaslabs.{IsMetaslab, harm_of}
use Rattle.draid_visits.specs.Steps.{HasContents}

on_harm : (told : Option Told) (P : (ℕ → ℕ → Bool) → Type 0) (Q : (ℕ → ℕ → Bool) → Type 0) → ((harm : ℕ → ℕ → Bool) → P harm → Q harm) → OnTold told (λ x. P x.harmed) → MatchOption (harm_of told) ⊤ Q
on_harm None P Q f is = tt
on_harm (Some x) P Q f is = f x.harmed is

none_some : (o : Option BlockValue) → o ≡ None → IsSome o → ⊥
none_some None is there = true≢false (sym there)
none_some (Some block) is there = absurd (cc)

pub no_block : (o : Option BlockValue) → is_none o ≡ true → o ≡ None
no_block None gone = refl
no_block (Some block) gone = absurd (true≢false (sym gone))

module _ {R A : Type 0} (rack : racks.Ghosts R) (area : areas.Ghosts A) (old lent : Shard R A) (unit : LendsBlock rack old lent) (lent_valid : Valid rack lent) (kept : Option KeptLoan)
    (restores : RestoresLent lent.geometry unit.lent kept) (none : restores.block ≡ None) where
  abbrev h : Held
  h = held_at (staged unit.here.stage unit.lent.pointer)

  -- by the metaslab's own layout
  beyond_own : (pieces : Pieces) (x : Metaslab) → IsMetaslab rack area (part_of old) pieces old x → HasContents (part_of old) pieces x
      → MatchOption x.harm ⊤ (λ harm. MoreBad (layout_in (part_of old)) x.world harm (key_of unit.lent.pointer) h unit.failed.items)
  beyond_own pieces x is contents =
      let there = held_is rack old lent unit is.valid lent_valid x.world is.stands.reached is.stands.is_in in
      let has = contents (key_of unit.lent.pointer) h there unit.here.block in
      let same : lent.geometry ≡ old.geometry = ap (λ (p : Part). p.geometry) unit.does.part in
      subst (λ harm. MatchOption harm ⊤ (λ harm. MoreBad (layout_in (part_of old)) x.world harm (key_of unit.lent.pointer) h unit.failed.items)) (sym is.harm)
      (on_harm (rack.told old.rack) (λ harm. ((bad : List ℕ) × IsReadable (cut_of old.geometry) (fetched_of unit.lent) has.content bad) ⊎ MoreBad (layout_in (part_of old)) x.world harm (key_of unit.lent.pointer) h unit.failed.items)
      (λ harm. MoreBad (layout_in (part_of old)) x.world harm (key_of unit.lent.pointer) h unit.failed.items)
      (λ harm either. elim either [
        | inl good ↦ absurd (none_some restores.block none (restores.readable has.content good.0 (subst (λ (g : Geometry). IsReadable (cut_of g) (fetched_of unit.lent) has.content good.0) (sym same) good.1)))
        | inr bad ↦ bad
      ])
      (readable rack old lent unit is.valid lent_valid x.world h pieces has.content has.columns is.stands there (record { len = has.len; digest = has.digest; bytes = has.bytes }) has.are has.rows))

  module _ (part : Part) (pieces : Pieces) (x : Metaslab) (is : IsMetaslab rack area part pieces old x) (contents : HasContents part pieces x) (y : machine.State) (loan : y.loan ≡ option_map loan_in lent.kept) where
    more : MatchOption x.harm ⊤ (λ harm. MoreBad (layout_in part) x.world harm (key_of unit.lent.pointer) h unit.failed.items)
    more =
        subst (λ (p : Part). IsMetaslab rack area p pieces old x → HasContents p pieces x → MatchOption x.harm ⊤ (λ harm. MoreBad (layout_in p) x.world harm (key_of unit.lent.pointer) h unit.failed.items)) is.part_is
        (beyond_own pieces x) is contents

    told_more : (o : Option (ℕ → ℕ → Bool)) → MatchOption o ⊤ (λ harm. MoreBad (layout_in part) x.world harm (key_of unit.lent.pointer) h unit.failed.items)
        → MatchOption o ⊤ (passes.IsBeyondLent part.geometry part.perms (view_of part.number x) unit.failed y)
    told_more None bad = tt
    told_more (Some harm) bad = record {
      n = block_loan unit.lent;
      h = h;
      loan = loan ∙ ap (option_map loan_in) unit.lent_is;
      held = held_is rack old lent unit is.valid lent_valid x.world is.stands.reached is.stands.is_in;
      more = bad;
    }

    pub beyond : MatchOption x.harm ⊤ (passes.IsBeyondLent part.geometry part.perms (view_of part.number x) unit.failed y)
    beyond = told_more x.harm more
