use Rattle.std.proofs.Common.{◌≡◌, ◌+◌, ◌<◌, ◌≤◌, ◌∷◌, [], ◌||◌, ◌&&◌, ℕ, suc, Bool, true, false, not, nat_le, List, All, filter, count_by, length, get_or, arith, sym, subst, ◌∙◌, ap, refl}
use Rattle.std.proofs.lemmas.Bool.Decides.{nat_tests}
use Rattle.std.proofs.lemmas.List.Elements.{All-filter}
use Rattle.std.proofs.lemmas.List.Filters.{length-filter_both}
use Rattle.std.proofs.lemmas.List.Sums.{length-filter}
use Rattle.draid_ranges.specs.Numbers.{Numbers, has}
use Rattle.draid_ranges.specs.Runs.{in_run}
use Rattle.draid_metaslab.specs.declared.space.Deferred.{Deferred}
use Rattle.draid_spacemap.specs.Records.{Records}
use Rattle.draid_metaslab.specs.Spaces.{IsMapped, IsSound, IsSpan, is_due, is_later}

due_or_later : (group : ℕ) (entry : Deferred) → nat_le entry.group group ≡ not (is_later group entry)
due_or_later group entry = grind (arith, nat_tests)

-- those that come back and those that stay are all
pub parts_of : (group : ℕ) (deferred : List Deferred) → length (filter (is_later group) deferred) + count_by (λ (entry : Deferred). nat_le entry.group group) deferred ≡ length deferred
parts_of group deferred =
    ap (λ n. length (filter (is_later group) deferred) + n) (sym (length-filter (λ (entry : Deferred). nat_le entry.group group) deferred))
    ∙ length-filter_both (is_later group) (λ (entry : Deferred). nat_le entry.group group) (due_or_later group) deferred

in_span : (entry : Deferred) (total group x : ℕ) → IsSpan total entry.run.first entry.run.len → (nat_le entry.group group && in_run entry.run x) ≡ true → x < total
in_span entry total group x span h = let b = span.below in grind (arith, nat_tests)

either : (P : Type 0) (a b : Bool) → (a || b) ≡ true → (a ≡ true → P) → (b ≡ true → P) → P
either P true b h f g = f refl
either P false b h f g = g h

due_inside : (deferred : List Deferred) (total group x : ℕ) → ((k : ℕ) (d : Deferred) → k < length deferred → IsSpan total (get_or deferred k d).run.first (get_or deferred k d).run.len) → is_due group deferred x ≡ true → x < total
due_inside [] total group x spans h = absurd (cc)
due_inside (entry ∷ deferred) total group x spans h =
    either (x < total) (nat_le entry.group group && in_run entry.run x) (is_due group deferred x) h
    (λ t. in_span entry total group x (spans 0 entry (omega arith)) t)
    (λ t. due_inside deferred total group x (λ k d l. spans (suc k) d (omega arith)) t)

pub committed : (height total held capacity group more : ℕ) (free new : Numbers) (map after : Records) (deferred kept : List Deferred)
    → IsSound height total held capacity free map deferred
    → ((x : ℕ) → has new x ≡ (has free x || is_due group deferred x)) → free.room ≤ new.room + count_by (λ (entry : Deferred). nat_le entry.group group) deferred
    → IsMapped total new after → map.room ≤ after.room + count_by (λ (entry : Deferred). nat_le entry.group group) deferred
    → kept ≡ filter (is_later group) deferred → capacity ≤ more → IsSound height total held more new after kept
committed height total held capacity group more free new map after deferred kept s members left mapped unused is wide =
    let room = s.room in
    let records = s.records in
    let places = s.places in
    let parts = parts_of group deferred in
    let len : length kept ≡ length (filter (is_later group) deferred) = ap length is in
    record {
      some = s.some;
      small = s.small;
      most = s.most;
      inside = λ x h. either (x < total) (has free x) (is_due group deferred x) (sym (members x) ∙ h) (s.inside x) (due_inside deferred total group x s.spans);
      spans = let P : List Deferred → Type 0 = λ ys. All (λ (entry : Deferred). IsSpan total entry.run.first entry.run.len) ys in subst P (sym is)
          (All-filter (is_later group) (λ (entry : Deferred). IsSpan total entry.run.first entry.run.len) deferred s.spans);
      mapped = mapped;
      room = omega arith;
      records = omega arith;
      places = omega arith;
    }
