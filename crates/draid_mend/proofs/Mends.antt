-- A column that was mended.
use Rattle.std.proofs.Common.{arith, ◌≡◌, ◌+◌, ◌<◌, ◌≤◌, ◌∙◌, ℕ, true, List, Option, Some, None, MatchOption, option_map, refl, sym, subst}
use Rattle.std.proofs.lemmas.Bool.Decides.{nat_tests}
use Rattle.draid_names.specs.declared.arm.At.{At}
use Rattle.draid_names.specs.Faults.{Rose}
use Rattle.draid_columns.specs.Columns.{HasRows}
use Rattle.draid_rack.specs.Moments.{Leaves, LeavesTold}
use Rattle.draid_rack.specs.Rack.{Fits, OnBothTold, Shape, Told, lands, taints}
use Rattle.draid_rack.proofs.Moments.{leaves_lands}
use Rattle.draid_shard.specs.Rows.{FitsRows, leaf_on, rows_on}
use Rattle.draid_shard.specs.declared.places.ColumnRows.{ColumnRows}
use Rattle.draid_shard.proofs.Holders.{rows_there}
use Rattle.draid_slots.specs.Table.{SlotTable}
use Rattle.draid_mend.specs.Mending.{CountsMended, MendsSector, at_sector}
use Rattle.draid_mend.specs.declared.mending.Mended.TheVariants.{Silent, Failed, Done}

-- the leaf has the sector
pub sector_fits : (shape : Shape) (slots : SlotTable) (rows : ColumnRows) (k leaf len : ℕ) → FitsRows shape slots rows → leaf_on slots rows k ≡ Some leaf → len ≡ rows.size → Fits shape leaf rows.first len
sector_fits shape slots rows k leaf len fits lies long = record { there = there (shape.leaves leaf) has.there; whole = long ∙ has.whole }
  where
    has : HasRows shape (rows_on rows leaf)
    has = rows_there shape slots rows k leaf (rows_on rows leaf) refl fits lies

    there : (o : Option ℕ) → MatchOption o ⊥ (λ n. rows.first + rows.count ≤ n) → MatchOption o ⊥ (λ n. rows.first < n)
    there None h = h
    there (Some n) h = let some = fits.some in omega (arith, h, some)

own_sector : (leaf sector : ℕ) → at_sector leaf sector leaf sector ≡ true
own_sector leaf sector = grind (arith, nat_tests)

pub mended_told : (leaf sector : ℕ) (stands column : List ℕ) (sources : List At) (old new : Option Told) → stands ≡ column → new ≡ option_map (λ x. lands leaf sector stands (taints sources x) x) old
    → OnBothTold old new (MendsSector leaf sector column sources)
mended_told leaf sector stands column sources None new whole is = is
mended_told leaf sector stands column sources (Some x) new whole is = subst (λ new. MatchOption new ⊥ (λ y. MendsSector leaf sector column sources x y)) (sym is) (record {
  leaves = leaves_lands (at_sector leaf sector) leaf sector stands (taints sources x) x (own_sector leaf sector);
  stands = grind (arith, nat_tests, whole);
  harmed = grind (arith, nat_tests);
})

pub failed_told : (leaf sector : ℕ) (stands : List ℕ) (sources : List At) (old new : Option Told) → new ≡ option_map (λ x. lands leaf sector stands (taints sources x) x) old → LeavesTold (at_sector leaf sector) old new
failed_told leaf sector stands sources None new is = is
failed_told leaf sector stands sources (Some x) new is =
    subst (λ new. MatchOption new ⊥ (λ y. Leaves (at_sector leaf sector) x y)) (sym is) (leaves_lands (at_sector leaf sector) leaf sector stands (taints sources x) x (own_sector leaf sector))

pub counts_silent : (old : Option ℕ → ℕ) → CountsMended Silent old old
counts_silent old = record { later = λ who. omega arith; cause = λ leaf is. absurd (cc) }

pub counts_done : (leaf : ℕ) (old new : Option ℕ → ℕ) → ((who : Option ℕ) → old who ≤ new who) → CountsMended (Done leaf) old new
counts_done leaf old new later = record { later = later; cause = λ m is. absurd (cc) }

pub counts_failed : (leaf : ℕ) (old new : Option ℕ → ℕ) → ((who : Option ℕ) → old who ≤ new who) → Rose (old (Some leaf)) (new (Some leaf)) → CountsMended (Failed leaf) old new
counts_failed leaf old new later rose = record { later = later; cause = λ m is. subst (λ l. Rose (old (Some l)) (new (Some l))) (same m is) rose }
  where
    same : (m : ℕ) → Failed leaf ≡ Failed m → leaf ≡ m
    same m is = cc
