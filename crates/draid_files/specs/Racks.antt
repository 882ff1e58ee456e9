-- What is known of a rack over files: its leaves with their sectors, and how often calls have failed.
use Rattle.std.specs.Prelude.{◌≡◌, ◌<◌, ◌≤◌, ℕ, Option, Some, None, option_map, unwrap_or}
use Rattle.std.specs.Ordering.{nat_cmp}
use Rattle.std.specs.BTreeMap.{BTreeMap, get}
use Rattle.draid_rack.specs.Rack.{Shape}
use Rattle.draid_files.specs.declared.leaf.FileLeaf.{FileLeaf}
use Rattle.draid_files.specs.declared.rack.FileRack.{FileRack}

abbrev pub Leaves : Type 0
Leaves = BTreeMap ℕ FileLeaf

abbrev pub leaf_at : Leaves → ℕ → Option FileLeaf
leaf_at leaves l = get nat_cmp leaves l

abbrev pub sectors_in : Option FileLeaf → Option ℕ
sectors_in leaf = option_map (λ (x : FileLeaf). x.sectors) leaf

abbrev pub faults_in : Option FileLeaf → ℕ
faults_in leaf = unwrap_or (option_map (λ (x : FileLeaf). x.file.faults) leaf) 0

abbrev pub shape_of : FileRack → Shape
shape_of rack = record { bytes = rack.bytes; leaves = λ l. sectors_in (leaf_at rack.leaves l) }

abbrev pub faults_of : FileRack → Option ℕ → ℕ
faults_of rack None = rack.own_faults
faults_of rack (Some l) = faults_in (leaf_at rack.leaves l)

-- a leaf of so many sectors, on which no call has failed
pub record IsNewLeaf (sectors : ℕ) (leaf : FileLeaf) : Type 0 where
  pub sectors_are : leaf.sectors ≡ sectors
  pub count : leaf.file.faults ≡ 0

-- just the leaves below a number are there, of so many sectors, and no call on them has failed
pub record AreLeaves (count sectors : ℕ) (leaves : Leaves) : Type 0 where
  pub there : (l : ℕ) → l < count → (sectors_in (leaf_at leaves l) ≡ Some sectors) × (faults_in (leaf_at leaves l) ≡ 0)
  pub no_other : (l : ℕ) → count ≤ l → leaf_at leaves l ≡ None

-- no call on a leaf has failed
abbrev pub AreUncounted : Leaves → Type 0
AreUncounted leaves = (l : ℕ) → faults_in (leaf_at leaves l) ≡ 0
