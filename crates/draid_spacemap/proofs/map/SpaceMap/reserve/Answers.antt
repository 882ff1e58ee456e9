use Rattle.std.proofs.Common.{◌≡◌, ℕ, false, List, All, subst, sym, ap, ◌∙◌}
use Rattle.draid_spacemap.specs.declared.map.Record.{Record}
use Rattle.draid_spacemap.specs.Records.{IsSpan, Records, is_allocated, is_allocated_by}
use Rattle.draid_spacemap.proofs.Applied.{all_spans, allocated_runs}
use Rattle.draid_spacemap.proofs.map.SpaceMap.reserve.Goals as goal

pub invariant_of-self : goal.invariant_of-self
invariant_of-self c =
    let S : List Record → Type 0 = λ records. All (λ (entry : Record). IsSpan entry.run) records in
    subst S (sym c.in_ok-self-inside.ensures.items) (all_spans c.runs-then-is_long.result.now c.in_ok-set.set c.runs-then-is_long.ensures.maximal)

pub returns-then-is_long-clause-same : goal.returns-then-is_long-clause-same
returns-then-is_long-clause-same c =
    let P : Records → Type 0 = λ m. (x : ℕ) → is_allocated_by false c.in_ok-self-inside.field-0.items x ≡ is_allocated m x in
    subst P c.self.view_is (λ x.
    ap (λ records. is_allocated_by false records x) c.in_ok-self-inside.ensures.items
    ∙ allocated_runs c.runs-then-is_long.result.now false x
    ∙ sym (c.runs-then-is_long.ensures.maximal.members x)
    ∙ c.in_ok-set.ensures x
    ∙ ap (λ records. is_allocated_by false records x) c.deref.ensures.value)
