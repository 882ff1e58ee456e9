use Rattle.std.proofs.Common.{◌≡◌, ◌==◌, ℕ, Bool, false, Option, None, Some, if◌then◌else◌, option_map, rules, arith, refl, sym, subst}
use Rattle.std.proofs.lemmas.Bool.Decides.{nat_tests}
use Rattle.draid_rack.specs.Memory.{shape_of_memory, told_by_memory}
use Rattle.draid_rack.specs.Rack.{Fits, OnTold, Shape, Told, flushes}
use Rattle.draid_tests_shard.proofs.segments.settle_first.Goals as goal

-- a sector that is there has the length of a sector
fits_own : (shape : Shape) (leaf sector len : ℕ) → Fits shape leaf sector len → Fits shape leaf sector shape.bytes
fits_own shape leaf sector len fits = record { there = fits.there; whole = refl }

-- a leaf that was flushed has no soft sector
same_leaf : (leaf : ℕ) (b : Bool) → (if leaf == leaf then false else b) ≡ false
same_leaf leaf b = grind (arith, nat_tests)

firm_after : (old new : Option Told) (leaf : ℕ) → new ≡ option_map (flushes leaf) old → OnTold new (λ x. x.soft leaf 0 ≡ false)
firm_after None new leaf is = rw is tt
firm_after (Some x) new leaf is = rw is (same_leaf leaf (x.soft leaf 0))

pub settle-requires-clause-place : goal.settle-requires-clause-place
settle-requires-clause-place c =
    let fits : Fits (shape_of_memory c.args.rack.now) c.args.leaf 0 512 = search rules in
    let F : Shape → Type 0 = λ shape. Fits shape c.args.leaf 0 shape.bytes in
    subst F (sym c.flush.ensures.shape) (fits_own (shape_of_memory c.args.rack.now) c.args.leaf 0 512 fits)

pub settle-requires-clause-firm : goal.settle-requires-clause-firm
settle-requires-clause-firm c = firm_after (told_by_memory c.args.rack.now) (told_by_memory c.flush.new.self) c.args.leaf c.in_ok-flush.ensures.ok
