use Rattle.std.proofs.Common.{◌≡◌, ◌≢◌, ℕ, ◌+◌, ◌<◌, ◌≤◌, ◌∙◌, ◌⊎◌, inl, inr, List, length, get_or, ◌++◌, refl, ap, ap₂, sym, subst, arith}
use Rattle.std.specs.Prelude.{Contains, slice_index}
use Rattle.std.proofs.lemmas.List.Elements.{Contains-append_cases}
use Rattle.std.proofs.lemmas.Bool.{cases_order, cases_lt}
use Rattle.std.proofs.lemmas.List.{get_or-take, get_or_default, take-append-drop}
use Rattle.draid_parity.specs.Columns.{HasSum, column_at}
use Rattle.draid_parity.proofs.Missing.{count_split, contains-take, contains-drop}
use Rattle.draid_parity.proofs.RowsLemmas.{kept_sum}
use Rattle.draid_parity.proofs.solve.solve_columns.Goals as goal

pub solve_data-requires-clause-all : goal.solve_data-requires-clause-all
solve_data-requires-clause-all c =
    let counted = count_split c.args.parity c.args.missing.now c.first_data.result c.first_data.ensures.bound c.first_data.ensures.parity c.first_data.ensures.rest in
    omega (arith, counted)

-- one more column is encoded
encoded_more : (parity : ℕ) (columns new : List (List ℕ)) (ks : List ℕ) (n k : ℕ) → k ≡ get_or ks n 0 → length new ≡ length columns
    → ((i : ℕ) → i ≢ k → column_at new i ≡ column_at columns i) → k < parity
    → HasSum parity new k → ((m : ℕ) → m < n → HasSum parity columns (get_or ks m 0)) → (m : ℕ) → m < n + 1 → HasSum parity new (get_or ks m 0)
encoded_more parity columns new ks n k at count stays below sum before m m_below = cases (cases_lt m n) (cases_order (get_or ks m 0) k)
  where
    same : get_or ks m 0 ≡ k → HasSum parity new (get_or ks m 0)
    same e = subst (HasSum parity new) (sym e) sum

    cases : (m < n) ⊎ (n ≤ m) → (get_or ks m 0 ≡ k) ⊎ ((get_or ks m 0 < k) ⊎ (k < get_or ks m 0)) → HasSum parity new (get_or ks m 0)
    cases (inr last) order = let e : m ≡ n = omega arith in same (ap (λ i. get_or ks i 0) e ∙ sym at)
    cases (inl early) (inl e) = same e
    cases (inl early) (inr (inl l)) = kept_sum parity columns new k (get_or ks m 0) count stays below (λ e. omega arith) (before m early)
    cases (inl early) (inr (inr g)) = kept_sum parity columns new k (get_or ks m 0) count stays below (λ e. omega arith) (before m early)

pub loop-k-preserved : goal.loop-k-preserved
loop-k-preserved c =
    let n = c.loop-k.k-index in
    let ks = c.split_at.result.0.now in
    let k = get_or ks n 0 in
    let old = c.loop-k.columns.items in
    let new = c.encode_sum.new.columns.items in
    let short = c.split_at.ensures.front_len in
    let in_ks : n < length ks = omega arith in
    let early : n < c.first_data.result = omega (arith, short) in
    let there : Contains ks k = (n, in_ks, get_or_default ks n k 0 in_ks) in
    let at : k ≡ get_or c.args.missing.now n 0 =
    ap (λ xs. get_or xs n 0) c.split_at.ensures.front ∙ get_or-take c.first_data.result c.args.missing.now n 0 early in
    let low = c.first_data.ensures.parity n early in
    let below : k < c.args.parity = omega (arith, at, low) in
    let was = c.loop-k.invariant in
    let counted = was.count in
    let known = c.solve_data.ensures.count in
    let now = c.encode_sum.ensures in
    let recounted = now.count in
    let same : length new ≡ length old = omega (arith, recounted) in
    record {
      count = same ∙ was.count;
      columns = λ i there. now.columns i there ∙ was.columns 0 (omega (arith, counted, known));
      stays = λ i absent. now.stays i (λ e. absent (subst (Contains ks) (sym e) there)) ∙ was.stays i absent;
      kept = λ i absent sum. kept_sum c.args.parity old new k i same now.stays below (λ e. absent (subst (Contains ks) (sym e) there)) (was.kept i absent sum);
      encoded = encoded_more c.args.parity old new ks n k refl same now.stays below now.sum was.encoded;
    }

pub returns-clause-solved : goal.returns-clause-solved
returns-clause-solved c =
    let missing = c.args.missing.now in
    let s = c.first_data.result in
    let ks = c.split_at.result.0.now in
    let short = c.split_at.ensures.front_len in
    let kept : (i : ℕ) → (Contains missing i → ⊥) → Contains ks i → ⊥ =
    λ i absent found. absent (contains-take missing s i (subst (λ xs. Contains xs i) c.split_at.ensures.front found)) in
    let found : (i : ℕ) → (Contains missing i → ⊥) → Contains c.split_at.result.1.now i → ⊥ =
    λ i absent found. absent (contains-drop missing s i (subst (λ xs. Contains xs i) c.split_at.ensures.back found)) in
    record {
      stays = λ i absent. c.loop-k.invariant.stays i (kept i absent) ∙ c.solve_data.ensures.stays i (found i absent);
      solved = λ k chosen. c.loop-k.invariant.kept k (kept k chosen.present) (c.solve_data.ensures.chosen.sums k chosen);
      encoded = λ k below lost.
          (let n = lost.0 in
          let value = get_or_default missing n k 0 lost.1 in
          let is = lost.2 in
          let early : n < s = early_place missing s c.args.parity n k lost.1 is below c.first_data.ensures.rest in
          let in_ks : n < length ks = omega (arith, short, early) in
          let at : get_or ks n 0 ≡ k =
          ap (λ xs. get_or xs n 0) c.split_at.ensures.front ∙ get_or-take s missing n 0 early ∙ sym value ∙ is in
          subst (HasSum c.args.parity c.loop-k.columns.items) at (c.loop-k.invariant.encoded n (omega arith)));
    }
  where
    early_place : (missing : List ℕ) (s parity n k : ℕ) → n < length missing → get_or missing n k ≡ k → k < parity
        → ((m : ℕ) → s ≤ m → m < length missing → parity ≤ get_or missing m 0) → n < s
    early_place missing s parity n k below is small rest = cases (cases_lt n s)
      where
        cases : (n < s) ⊎ (s ≤ n) → n < s
        cases (inl early) = early
        cases (inr late) = let high = rest n late below in let same = get_or_default missing n k 0 below in absurd (omega (arith, high, same, is))

-- a data column is among the columns that aren't encoded
pub returns-clause-bytes : goal.returns-clause-bytes
returns-clause-bytes c = λ i j found above.
    let missing = c.args.missing.now in
    let s = c.first_data.result in
    let ks = c.split_at.result.0.now in
    let low : Contains ks i → ⊥ = λ lost.
    (let n = lost.0 in
    let short = c.split_at.ensures.front_len in
    let n_below = lost.1 in
    let early : n < s = omega (arith, short, n_below) in
    let at = ap (λ xs. get_or xs n 0) c.split_at.ensures.front ∙ get_or-take s missing n 0 early in
    let same = get_or_default ks n i 0 n_below in
    let is = lost.2 in
    let small = c.first_data.ensures.parity n early in
    omega (arith, at, same, is, small, above)) in
    let among : Contains c.split_at.result.1.now i =
    last _ _ i low
    (Contains-append_cases ks c.split_at.result.1.now i
    (subst (λ xs. Contains xs i)
    (sym (ap₂ (λ xs ys. xs ++ ys) c.split_at.ensures.front c.split_at.ensures.back ∙ take-append-drop s missing)) found)) in
    subst (λ column. slice_index column j < 256) (sym (c.loop-k.invariant.stays i low)) (c.solve_data.ensures.bytes i j among)
  where
    last : (xs ys : List ℕ) (i : ℕ) → (Contains xs i → ⊥) → Contains xs i ⊎ Contains ys i → Contains ys i
    last xs ys i low (inl found) = absurd (low found)
    last xs ys i low (inr found) = found

pub loop-k-init : goal.loop-k-init
loop-k-init c = record {
  count = refl;
  columns = c.solve_data.ensures.columns;
  stays = λ i absent. refl;
  kept = λ k absent sum. sum;
  encoded = λ n none. absurd (omega arith);
}

pub returns-clause-columns : goal.returns-clause-columns
returns-clause-columns c = c.loop-k.invariant.columns

pub returns-clause-chosen : goal.returns-clause-chosen
returns-clause-chosen c =
    let chosen = c.solve_data.ensures.chosen in
    record {
      sums = λ k one.
          c.loop-k.invariant.kept k
          (λ found. one.present (contains-take c.args.missing.now c.first_data.result k (subst (λ xs. Contains xs k) c.split_at.ensures.front found)))
          (chosen.sums k one);
      first = chosen.first;
      step = chosen.step;
      steps = chosen.steps;
      chosen = chosen.chosen;
    }
