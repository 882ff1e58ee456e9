-- Leaves and devices that are made or opened one after another.
use Rattle.std.proofs.Common.{◌≡◌, ◌==◌, ◌+◌, ℕ, List, Option, Some, sym, ap, subst, arith, inl, inr, ◌∙◌, if◌then◌else◌}
use Rattle.std.specs.Prelude.{IsSomeAnd}
use Rattle.std.proofs.lemmas.Bool.{cases_eq}
use Rattle.std.proofs.lemmas.Bool.Decides.{nat_tests}
use Rattle.draid_spec.specs.declared.layout.Geometry.{Geometry}
use Rattle.draid_files.specs.declared.leaf.FileLeaf.{FileLeaf}
use Rattle.draid_files.specs.Racks.{AreLeaves, AreUncounted, IsNewLeaf, Leaves, faults_in, leaf_at, sectors_in}
use Rattle.draid_files.specs.Shelves.{AreMade, FileKit, IsMadeKit, kit_in}

-- at its own place there is what was put in, and everywhere else what was there
at_place : {A : Type 0} (x y : A) (m n : ℕ) → m ≡ n → (if m == n then x else y) ≡ x
at_place x y m n e = grind (arith, nat_tests)

elsewhere : {A : Type 0} (x y : A) (m n : ℕ) → (m ≡ n → ⊥) → (if m == n then x else y) ≡ y
elsewhere x y m n e = grind (arith, nat_tests)

-- one more leaf
pub leaves_more : (n sectors : ℕ) (old new : Leaves) (x : FileLeaf) → AreLeaves n sectors old → IsNewLeaf sectors x
    → ((l : ℕ) → leaf_at new l ≡ (if l == n then Some x else leaf_at old l)) → AreLeaves (n + 1) sectors new
leaves_more n sectors old new x are is adds = record {
  there = λ l below. elim (cases_eq l n) [
    | inl same ↦
        let e = adds l ∙ at_place (Some x) (leaf_at old l) l n same in
        (ap sectors_in e ∙ ap (λ k. Some k) is.sectors_are, ap faults_in e ∙ is.count)
    | inr other ↦
        let e = adds l ∙ elsewhere (Some x) (leaf_at old l) l n other in
        let z = are.there l (omega (arith, below, other)) in
        (ap sectors_in e ∙ z.0, ap faults_in e ∙ z.1)
  ];
  no_other = λ l past. adds l ∙ elsewhere (Some x) (leaf_at old l) l n (λ e. omega (arith, past, e)) ∙ are.no_other l (omega (arith, past));
}

-- one more leaf that was opened
pub uncounted_more : (n : ℕ) (old new : Leaves) (x : FileLeaf) → AreUncounted old → x.file.faults ≡ 0
    → ((l : ℕ) → leaf_at new l ≡ (if l == n then Some x else leaf_at old l)) → AreUncounted new
uncounted_more n old new x are is adds l = elim (cases_eq l n) [
  | inl same ↦ ap faults_in (adds l ∙ at_place (Some x) (leaf_at old l) l n same) ∙ is
  | inr other ↦ ap faults_in (adds l ∙ elsewhere (Some x) (leaf_at old l) l n other) ∙ are l
]

-- the devices of one more metaslab
pub kits_more : (geometry : Geometry) (n : ℕ) (old new : List (Option FileKit)) (x : FileKit) → AreMade geometry n old → IsMadeKit geometry x
    → ((q : ℕ) → kit_in new q ≡ (if q == n then Some x else kit_in old q)) → AreMade geometry (n + 1) new
kits_more geometry n old new x are is puts m below = elim (cases_eq m n) [
  | inl same ↦ subst (λ o. IsSomeAnd o (IsMadeKit geometry)) (sym (puts m ∙ at_place (Some x) (kit_in old m) m n same)) is
  | inr other ↦ subst (λ o. IsSomeAnd o (IsMadeKit geometry)) (sym (puts m ∙ elsewhere (Some x) (kit_in old m) m n other)) (are m (omega (arith, below, other)))
]
