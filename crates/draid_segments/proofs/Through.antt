-- What an image claims is as it was at each moment of a call that writes nothing to it.
use Rattle.std.proofs.Common.{◌≡◌, ◌<◌, ◌≤◌, ℕ, Bool, Option, Some, None, IsSome, IsTrue, refl, sym, ◌∙◌, subst, arith}
use Rattle.draid_machine.specs.declared.names.Held.{Held}
use Rattle.draid_machine.specs.declared.names.Segment.{Segment}
use Rattle.draid_machine.specs.State.{Layout, Image}
use Rattle.draid_rack.specs.Rack.{IsOrderly, Told}
use Rattle.draid_names.specs.Clocks.{last_clock}
use Rattle.draid_rack.specs.Moments.{Between, Stays}
use Rattle.draid_segments.specs.Segments.{Firm, FirmThrough, IsClaim, Pieces, Steady, sector_at}
use Rattle.draid_segments.proofs.Backing.{still}

some_of : {A : Type 0} (o : Option A) → IsSome o → (a : A) × (o ≡ Some a)
some_of (Some a) t = (a, refl)
some_of None t = absurd (cc)

-- one sector at a moment between two: it reads what it read, is harmed where it is later, and soft only where it was
record At (x m y : Told) (leaf sector : ℕ) : Type 0 where
  same : m.reads leaf sector ≡ x.reads leaf sector
  harmed : IsTrue (y.harmed leaf sector) → IsTrue (m.harmed leaf sector)
  soft : IsTrue (m.soft leaf sector) → IsTrue (x.soft leaf sector)

at_moment : (x m y : Told) (leaf sector : ℕ) → IsOrderly x → x.clock < last_clock → Between x m y → IsSome (x.reads leaf sector)
    → y.reads leaf sector ≡ x.reads leaf sector → y.since leaf sector ≡ x.since leaf sector → At x m y leaf sector
at_moment x m y leaf sector orderly low between there reads since =
    let z = some_of (x.reads leaf sector) there in
    let o : x.since leaf sector ≤ x.clock = orderly leaf sector in
    let up : x.clock ≤ m.clock = between.after.later in
    let back : Stays m y leaf sector z.0 = between.before.same leaf sector z.0 (reads ∙ z.1) (omega (arith, o, up, since)) (omega (arith, o, low, since)) in
    let same : m.since leaf sector ≡ y.since leaf sector = back.since in
    let on : Stays x m leaf sector z.0 = between.after.same leaf sector z.0 back.reads (omega (arith, o, same, since)) (omega (arith, o, low, same, since)) in
    record { same = back.reads ∙ sym z.1; harmed = back.harmed; soft = on.soft }

pub steady_through : (l : Layout) (pieces after : Pieces) (img : Image) (doubt : Segment → Bool) (x y : Told) → IsOrderly x → Steady l img doubt x y → Firm l pieces img doubt x
    → Firm l after img doubt y → FirmThrough l after img doubt x y
steady_through l pieces after img doubt x y orderly steady before later low m between = record {
  there = λ s h c. subst (λ o. IsSome o) (sym (at s h c).same) (before.there s h c);
  reads = λ s h c calm known. (at s h c).same ∙ sym (steady.reads s h c) ∙ later.reads s h c (still (at s h c).harmed calm) known;
  firm = λ s h c. still (at s h c).soft (before.firm s h c);
}
  where
    at : (s : Segment) (h : Held) → IsClaim l img doubt s h → At x m y s.leaf (sector_at l h s)
    at s h c = at_moment x m y s.leaf (sector_at l h s) orderly low between (before.there s h c) (steady.reads s h c) (steady.since s h c)
