use Rattle.std.proofs.Common.{◌≡◌, ◌∙◌, ◌∷◌, ◌⊎◌, ap, sym, subst, inl, inr, true, Some, if◌then◌else◌}
use Rattle.draid_machine.specs.declared.names.Key.{Key}
use Rattle.draid_machine.specs.declared.names.Held.{Held}
use Rattle.draid_machine.specs.declared.names.Segment.{Segment}
use Rattle.draid_machine.specs.Claims.{is_on}
use Rattle.draid_machine.specs.Names.{key_eq, has_segment}
use Rattle.draid_machine.proofs.Small.{key_true, some_injective, bool_cases, none_some}
use Rattle.draid_world.specs.World.{held_in, names_at, site_layout}
use Rattle.draid_steps.proofs.Entries.{AreApart, AllLow, ordered_apart, head_low, tail_low}
use Rattle.draid_images.proofs.openings.all_segments.Goals as goal

pub loop-key-init : goal.loop-key-init
loop-key-init c =
    let at : c.into_iter-key-iterator.result ≡ c.args.tables.now.held.entries = c.into_iter-key-iterator.ensures.into_iter_gives ∙ c.iter-key-items.ensures.rest in (
      (λ s h found on. inr (ap (λ es. held_in es s.key) at ∙ found)),
      subst AreApart (sym at) (ordered_apart c.args.tables.now.held.entries c.iter-key-items.ensures.ordered),
      subst AllLow (sym at) c.requires.low,
    )

pub add_block-requires : goal.add_block-requires
add_block-requires c = record { first = head_low (c.in-Some.key.now, c.in-Some.held.now) c.next.new.self (subst AllLow c.in-Some.ensures.steps c.loop-key.invariant.2) }

pub loop-key-preserved : goal.loop-key-preserved
loop-key-preserved c =
    let e : Key × Held = (c.in-Some.key.now, c.in-Some.held.now) in
    let apart : AreApart (e ∷ c.next.new.self) = subst AreApart c.in-Some.ensures.steps c.loop-key.invariant.1 in
    let l = site_layout c.args.site.now in
    let here : (s : Segment) (h : Held) → held_in c.loop-key.key-iterator s.key ≡ Some h → is_on l (names_at c.args.tables.now.order.items) s h ≡ true
    → (has_segment c.add_block.new.set.keys s ≡ true) ⊎ (held_in c.next.new.self s.key ≡ Some h) =
    λ s h left on.
    let at : (if key_eq e.0 s.key then Some e.1 else held_in c.next.new.self s.key) ≡ Some h = sym (ap (λ es. held_in es s.key) c.in-Some.ensures.steps) ∙ left in
    elim (bool_cases (key_eq e.0 s.key)) [
      | inl same ↦
          let h_is : e.1 ≡ h = some_injective e.1 h (sym (ap (λ b. if b then Some e.1 else held_in c.next.new.self s.key) same) ∙ at) in
          inl (c.in_ok-add_block.ensures.added s (key_true e.0 s.key same)
          (subst (λ vs. is_on l (names_at vs) s e.1 ≡ true) (sym c.deref.ensures.value) (subst (λ (x : Held). is_on l (names_at c.args.tables.now.order.items) s x ≡ true) (sym h_is) on)))
      | inr other ↦ inr (sym (ap (λ b. if b then Some e.1 else held_in c.next.new.self s.key) other) ∙ at)
    ] in (
      (λ s h found on. elim (c.loop-key.invariant.0 s h found on) [
        | inl has ↦ inl (c.in_ok-add_block.ensures.kept s has)
        | inr left ↦ here s h left on
      ]),
      apart.1,
      tail_low e c.next.new.self apart (subst AllLow c.in-Some.ensures.steps c.loop-key.invariant.2),
    )

pub returns : goal.returns
returns c = λ s h found on. elim (c.loop-key.invariant.0 s h found on) [
  | inl has ↦ has
  | inr left ↦ absurd (none_some _ h (ap (λ es. held_in es s.key) c.in-None.ensures.steps.0) left)
]
