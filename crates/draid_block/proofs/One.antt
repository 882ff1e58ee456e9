-- There is one answer, and a block has one list of columns.
use Rattle.std.proofs.Common.{◌≡◌, ◌⊎◌, ℕ, ◌+◌, ◌-◌, ◌<◌, ◌≤◌, List, [], ◌∷◌, ◌++◌, length, get_or, drop, inl, inr, length-drop, arith, refl, sym, ◌∙◌, ap, subst, Result, Ok, Err, Vec, Global}
use Rattle.std.specs.Prelude.{All, Contains, slice_index}
use Rattle.std.proofs.lemmas.Bool.{cases_lt}
use Rattle.std.proofs.lemmas.Grind.{same_number_lists}
use Rattle.std.proofs.lemmas.List.{drop-map, get_or-drop, get_or_past}
use Rattle.std.proofs.lemmas.List.Elements.{All-contains, All-head, All-tail, Contains-append_right}
use Rattle.sha2.specs.Sha256.{sha256}
use Rattle.draid_parity.specs.Codeword.{parity_sum}
use Rattle.draid_parity.specs.Columns.{byte_row, column_at}
use Rattle.draid_parity.proofs.WeightedSums.{byte_row-at}
use Rattle.draid_block.specs.Columns.{Cut}
use Rattle.draid_block.specs.Blocks.{AreColumns, bytes_of, column_len}
use Rattle.draid_block.specs.Solving.{FailsOf, GivesOf, IsFirst, IsSameAnswer, SolvesBlock, sets_of}
use Rattle.draid_block.specs.declared.solve.Fetched.{Fetched}
use Rattle.draid_block.specs.declared.solve.SolveFault.{SolveFault}
use Rattle.draid_block.specs.declared.solve.SolveFault.TheVariants.{Unreadable, NoMemory}
use Rattle.draid_block.proofs.Whole.{same_columns}

-- what a set restores has the digest or doesn't
never_both : (cut : Cut) (fetched : Fetched) (bytes set : List ℕ) → GivesOf cut fetched bytes set → FailsOf cut fetched set → ⊥
never_both cut fetched bytes set gives fails =
    let same : gives.0 ≡ fails.0 = gives.1.only fails.0 fails.1.solution in
    fails.2 (ap sha256 (ap (λ (columns : List (List ℕ)). bytes_of cut fetched.pointer.len columns) (sym same) ∙ sym gives.2) ∙ gives.3)

one_restored : (cut : Cut) (fetched : Fetched) (bytes others set : List ℕ) → GivesOf cut fetched bytes set → GivesOf cut fetched others set → bytes ≡ others
one_restored cut fetched bytes others set gives also =
    let same : gives.0 ≡ also.0 = gives.1.only also.0 also.1.solution in
    gives.2 ∙ ap (λ (columns : List (List ℕ)). bytes_of cut fetched.pointer.len columns) same ∙ sym also.2

one_first : (cut : Cut) (fetched : Fetched) (bytes others : List ℕ) (before later : List (List ℕ)) (set next : List ℕ) (after rest : List (List ℕ))
    → before ++ set ∷ after ≡ later ++ next ∷ rest → All (FailsOf cut fetched) before → All (FailsOf cut fetched) later
    → GivesOf cut fetched bytes set → GivesOf cut fetched others next → bytes ≡ others
one_first cut fetched bytes others [] [] set next after rest same failed fails gives also =
    let one : set ≡ next = ap (λ (sets : List (List ℕ)). get_or sets 0 []) same in
    one_restored cut fetched bytes others next (subst (GivesOf cut fetched bytes) one gives) also
one_first cut fetched bytes others [] (l ∷ later) set next after rest same failed fails gives also =
    let one : set ≡ l = ap (λ (sets : List (List ℕ)). get_or sets 0 []) same in
    absurd (never_both cut fetched bytes l (subst (GivesOf cut fetched bytes) one gives) (All-head (FailsOf cut fetched) l later fails))
one_first cut fetched bytes others (b ∷ before) [] set next after rest same failed fails gives also =
    let one : next ≡ b = sym (ap (λ (sets : List (List ℕ)). get_or sets 0 []) same) in
    absurd (never_both cut fetched others b (subst (GivesOf cut fetched others) one also) (All-head (FailsOf cut fetched) b before failed))
one_first cut fetched bytes others (b ∷ before) (l ∷ later) set next after rest same failed fails gives also =
    one_first cut fetched bytes others before later set next after rest (ap (λ (sets : List (List ℕ)). drop 1 sets) same)
    (All-tail (FailsOf cut fetched) b before failed) (All-tail (FailsOf cut fetched) l later fails) gives also

-- a set that gives bytes is no set of none that fail
some_gives : (cut : Cut) (fetched : Fetched) (bytes : List ℕ) (sets : List (List ℕ)) → IsFirst (GivesOf cut fetched bytes) (FailsOf cut fetched) sets → All (FailsOf cut fetched) sets → ⊥
some_gives cut fetched bytes sets first fails =
    let here : Contains (first.set ∷ first.after) first.set = (0, omega arith, refl) in
    let there : Contains sets first.set = subst (λ (l : List (List ℕ)). Contains l first.set) (sym first.order) (Contains-append_right first.before (first.set ∷ first.after) first.set here) in
    never_both cut fetched bytes first.set first.given (All-contains (FailsOf cut fetched) sets first.set fails there)

pub answers_same : (cut : Cut) (fetched : Fetched) (answer other : Result (Vec ℕ Global) SolveFault) → SolvesBlock cut fetched answer → SolvesBlock cut fetched other → IsSameAnswer answer other
answers_same cut fetched (Ok bytes) (Ok others) first also =
    one_first cut fetched bytes.items others.items first.before also.before first.set also.set first.after also.after (sym first.order ∙ also.order) first.failed also.failed first.given also.given
answers_same cut fetched (Ok bytes) (Err (Unreadable absent tried)) first none = some_gives cut fetched bytes.items (sets_of cut fetched) first none.failed
answers_same cut fetched (Ok bytes) (Err NoMemory) first none = tt
answers_same cut fetched (Err (Unreadable absent tried)) (Ok bytes) none first = some_gives cut fetched bytes.items (sets_of cut fetched) first none.failed
answers_same cut fetched (Err (Unreadable absent tried)) (Err (Unreadable absents tries)) none also =
    (none.absent_is ∙ sym also.absent_is, none.tried_is ∙ sym also.tried_is)
answers_same cut fetched (Err (Unreadable absent tried)) (Err NoMemory) none also = tt
answers_same cut fetched (Err NoMemory) other none also = tt

-- ---- the columns of a block
row_sum : (cut : Cut) (w : List ℕ) (columns : List (List ℕ)) → AreColumns cut w columns → (k : ℕ) → k < cut.parity → (j : ℕ) → j < column_len cut (length w)
    → slice_index (column_at columns k) j ≡ parity_sum k (byte_row j (drop cut.parity columns))
row_sum cut w columns are k below j j_below =
    sym (byte_row-at j columns k) ∙ are.codewords j j_below k below ∙ ap (parity_sum k) (drop-map (λ (c : List ℕ). slice_index c j) cut.parity columns)

pub columns_same : (cut : Cut) (w : List ℕ) (columns others : List (List ℕ)) → AreColumns cut w columns → AreColumns cut w others → columns ≡ others
columns_same cut w columns others are also = same_columns columns others (are.stripe.count ∙ sym also.stripe.count) each
  where
    count : length columns ≡ cut.parity + cut.ndata
    count = are.stripe.count

    other_count : length others ≡ cut.parity + cut.ndata
    other_count = also.stripe.count

    data_same : (i : ℕ) → column_at (drop cut.parity columns) i ≡ column_at (drop cut.parity others) i
    data_same i = get_or-drop cut.parity columns i [] ∙ at (cases_lt i cut.ndata) ∙ sym (get_or-drop cut.parity others i [])
      where
        at : (i < cut.ndata) ⊎ (cut.ndata ≤ i) → column_at columns (cut.parity + i) ≡ column_at others (cut.parity + i)
        at (inl lt) = are.sectors i lt ∙ sym (also.sectors i lt)
        at (inr ge) = get_or_past columns (cut.parity + i) [] (omega (arith, count)) ∙ sym (get_or_past others (cut.parity + i) [] (omega (arith, other_count)))

    all_data : drop cut.parity columns ≡ drop cut.parity others
    all_data =
        same_columns (drop cut.parity columns) (drop cut.parity others)
        (length-drop cut.parity columns ∙ ap (λ n. n - cut.parity) (count ∙ sym other_count) ∙ sym (length-drop cut.parity others)) data_same

    parity_same : (k : ℕ) → k < cut.parity → column_at columns k ≡ column_at others k
    parity_same k below =
        let first = are.stripe.columns k (omega (arith, below)) in
        let second = also.stripe.columns k (omega (arith, below)) in
        same_number_lists (column_at columns k) (column_at others k) (first ∙ sym second)
        (λ j j_below.
        (let long = first in
        let short : j < column_len cut (length w) = omega (arith, j_below, long) in
        row_sum cut w columns are k below j short ∙ ap (λ (l : List (List ℕ)). parity_sum k (byte_row j l)) all_data ∙ sym (row_sum cut w others also k below j short)))

    each : (i : ℕ) → column_at columns i ≡ column_at others i
    each i = at (cases_lt i cut.parity)
      where
        at : (i < cut.parity) ⊎ (cut.parity ≤ i) → column_at columns i ≡ column_at others i
        at (inl lt) = parity_same i lt
        at (inr ge) =
            let e : cut.parity + (i - cut.parity) ≡ i = omega arith in
            subst (λ (k : ℕ). column_at columns k ≡ column_at others k) e
            (sym (get_or-drop cut.parity columns (i - cut.parity) []) ∙ data_same (i - cut.parity) ∙ get_or-drop cut.parity others (i - cut.parity) [])
