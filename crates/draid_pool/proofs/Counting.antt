-- The open writes that were counted are those of a state.
use Rattle.std.proofs.Common.{◌≡◌, ◌+◌, ◌≤◌, ◌^◌, ◌∙◌, ℕ, arith, refl, sym, ap, subst, inl, inr}
use Rattle.std.proofs.lemmas.Bool.{cases_lt}
use Rattle.draid_spec.specs.Geometry.{metaslab_stripes}
use Rattle.draid_rack.specs.declared.Rack.{Ghosts}
use Rattle.draid_machine.specs.declared.names.Held.{Held}
use Rattle.draid_machine.specs.Names.{is_block}
use Rattle.draid_machine.specs.State as machine
use Rattle.draid_entries.specs.Entries.{entry_at}
use Rattle.draid_entries.specs.Maps.{held_at, key_of}
use Rattle.draid_marks.specs.Counting.{BeginBelow, CountIs, IsOpenUpto}
use Rattle.draid_marks.proofs.Counting.{counted_is, counted_key, held_entry}
use Rattle.draid_marks.proofs.Places.{few_stripes}
use Rattle.draid_shard.specs.Fits.{TicketsAreNew, Valid}
use Rattle.draid_shard.specs.States.{IsIn}
use Rattle.draid_shard.specs.declared.shard.Shard.{Shard}
use Rattle.draid_shard.proofs.Tables.{first_is}
use Rattle.draid_pool.specs.Groups.{OpenUpto}

-- what a shard has begins inside
pub begin_inside : {R A : Type 0} (rack : Ghosts R) (shard : Shard R A) → Valid rack shard → BeginBelow shard.entries (metaslab_stripes shard.geometry)
begin_inside rack shard v first e there =
    let run = (v.tables.placed first e there).run in
    let is = first_is shard.entries first e there in
    let some = run.some in
    let inside = run.inside in
    omega (arith, some, inside, is)

pub begin_low : {R A : Type 0} (rack : Ghosts R) (shard : Shard R A) → Valid rack shard → BeginBelow shard.entries (2 ^ 28)
begin_low rack shard v first e there =
    let inside = begin_inside rack shard v first e there in
    let few = few_stripes shard.geometry v.part.layout.geometry_is in
    omega (arith, inside, few)

module _ {R A : Type 0} (shard : Shard R A) (group count : ℕ) (is : CountIs shard.entries (IsOpenUpto group) count) where
  pub open_upto : (w : machine.State) → IsIn shard w → OpenUpto w group count
  open_upto w at = record {
    keys = is.keys;
    once = is.once;
    each = λ key among. (let c = is.each key among in (held_at c.e, counted_is shard.entries (IsOpenUpto group) key w.core at.held c, c.passes.ticket, c.passes.upto));
    all = λ key h found ticket upto.
        let z = held_entry shard.entries key h (sym (at.held key) ∙ found) in
        counted_key shard.entries (IsOpenUpto group) count is key z.e z.there z.key_is (record {
          ticket = ap (λ (i : Held). is_block i.stage) z.held_is ∙ ticket;
          upto = subst (λ (i : Held). i.birth ≤ group) (sym z.held_is) upto;
        });
    many = is.many;
  }

  -- where there is none, tickets are born later
  pub none_open : count ≡ 0 → TicketsAreNew shard.entries (group + 1)
  none_open none first e put missed there stage = elim (cases_lt group e.pointer.birth) [
    | inl later ↦ omega (arith, later)
    | inr upto ↦ absurd (nothing upto)
  ]
    where
      at : e.pointer.first ≡ first
      at = first_is shard.entries first e there

      nothing : e.pointer.birth ≤ group → ⊥
      nothing upto =
          let among = counted_key shard.entries (IsOpenUpto group) count is (key_of e.pointer) e (ap (entry_at shard.entries) at ∙ there) refl (record { ticket = ap is_block stage; upto = upto }) in
          let less = among.1 in
          let many = is.many in
          omega (arith, less, many, none)
