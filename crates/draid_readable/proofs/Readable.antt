-- The columns that were read of a block are its own but for its bad ones, or more of them are bad than there are parity columns.
use Rattle.std.proofs.Common.{◌≡◌, ◌⊎◌, ◌+◌, ◌*◌, ◌==◌, ◌<◌, ◌≤◌, ◌||◌, ◌&&◌, ◌∙◌, ◌++◌, [], ◌∷◌, ℕ, zero, suc, List, Bool, true, false, nat_lt, cond, Option, Some, None, Vec, Global, arith, refl, sym, ap, subst, inl, inr, length, take, drop, slice_get, get_or, if◌then◌else◌}
use Rattle.std.specs.Prelude.{All, Contains, find, is_none, IsSome}
use Rattle.std.specs.List.Sorted.{IsStrictlyIncreasing}
use Rattle.std.proofs.lemmas.Bool.{cases_lt}
use Rattle.std.proofs.lemmas.List.{append-nil, take_all}
use Rattle.std.proofs.lemmas.List.Elements.{All-nil, All-push, Contains-push, Contains-append_left}
use Rattle.std.proofs.lemmas.Option.{slice_get-get_or}
use Rattle.std.proofs.Math.Seq.{take-add}
use Rattle.draid_rack.specs.Rack.{OnTold, Told}
use Rattle.draid_parity.specs.Columns.{column_at}
use Rattle.draid_block.specs.Blocks.{column_len}
use Rattle.draid_block.specs.Columns.{Cut, stripes_of}
use Rattle.draid_block.specs.Solving.{IsReadable}
use Rattle.draid_block.specs.declared.solve.Fetched.{Fetched}
use Rattle.draid_block.proofs.Sets.{ascending-push}
use Rattle.draid_machine.specs.declared.names.ArmName.{ArmName}
use Rattle.draid_machine.specs.declared.names.ArmName.TheVariants.{Leaf, Spare}
use Rattle.draid_machine.specs.declared.names.Held.{Held}
use Rattle.draid_machine.specs.declared.names.Key.{Key}
use Rattle.draid_machine.specs.declared.names.Segment.{Segment}
use Rattle.draid_machine.specs.Arms.{answers, else_some, first_leaf, first_spares, is_clean, leaf_answers, leaf_at, logged, passes, reading}
use Rattle.draid_machine.specs.Created.{IsReached}
use Rattle.draid_machine.specs.Images.{Owned}
use Rattle.draid_machine.specs.Names.{any_below, has_name, is_block, name_eq}
use Rattle.draid_machine.specs.Sound.{LogSound, Sound}
use Rattle.draid_machine.specs.State.{Arm, IsLayout, Layout, State}
use Rattle.draid_machine.proofs.Losing.{every_segment}
use Rattle.draid_machine.proofs.Rows.{every_history, reached_sound}
use Rattle.draid_machine.proofs.Small.{absurd_test, any_at, bool_cases, both_true, either_true, equal, name_refl, none_some, not_true, some_injective, some_same, true_left, true_right}
use Rattle.draid_segments.specs.Reads.{IsAbsent, IsBad, IsHurt, LacksClean, MoreBad}
use Rattle.draid_segments.specs.Segments.{Backed, Pieces}
use Rattle.draid_readable.specs.Fetched.{AreFetched, IsFetchedOf}

abbrev Columns : Type 0
Columns = List (Option (Vec ℕ Global))

abbrev row_bytes : ℕ → List ℕ → ℕ → List ℕ
row_bytes size column row = take size (drop (row * size) column)

-- ---- columns of the same rows

same_front : (size : ℕ) (a b : List ℕ) (n : ℕ) → ((row : ℕ) → row < n → row_bytes size a row ≡ row_bytes size b row) → take (n * size) a ≡ take (n * size) b
same_front size a b zero same = let e : 0 * size ≡ 0 = omega arith in rw e refl
same_front size a b (suc n) same =
    let e : suc n * size ≡ n * size + size = grind arith in
    let before : take (n * size) a ≡ take (n * size) b = same_front size a b n (λ row less. same row (omega (arith, less))) in
    rw (e, take-add (n * size) size a, take-add (n * size) size b, before, same n (omega arith)) refl

same_rows : (size : ℕ) (a b : List ℕ) (n : ℕ) → length a ≡ n * size → length b ≡ n * size → ((row : ℕ) → row < n → row_bytes size a row ≡ row_bytes size b row) → a ≡ b
same_rows size a b n la lb same = sym (take_all (n * size) a (omega (arith, la))) ∙ same_front size a b n same ∙ take_all (n * size) b (omega (arith, lb))

-- ---- the numbers that pass a test

passing : (ℕ → Bool) → ℕ → List ℕ
passing test zero = []
passing test (suc n) = passing test n ++ cond (test n) (n ∷ []) []

all_passing : (test : ℕ → Bool) (P : ℕ → Type 0) (n : ℕ) → ((i : ℕ) → i < n → test i ≡ true → P i) → All P (passing test n)
unfolding passing
all_passing test P zero each = All-nil P
all_passing test P (suc n) each = at (all_passing test P n (λ i less passes. each i (omega (arith, less)) passes)) (test n) refl where
  at : All P (passing test n) → (b : Bool) → test n ≡ b → All P (passing test n ++ cond b (n ∷ []) [])
  at before true is = All-push P (passing test n) n before (each n (omega arith) is)
  at before false is = rw (append-nil (passing test n)) before

passing_increasing : (test : ℕ → Bool) (n : ℕ) → IsStrictlyIncreasing (passing test n)
unfolding passing
passing_increasing test zero = λ k below. absurd (omega (arith, below))
passing_increasing test (suc n) = at (passing_increasing test n) (test n) refl where
  at : IsStrictlyIncreasing (passing test n) → (b : Bool) → test n ≡ b → IsStrictlyIncreasing (passing test n ++ cond b (n ∷ []) [])
  at before true is = ascending-push (passing test n) n before (all_passing test (λ i. i < n) n (λ i less passes. less))
  at before false is = rw (append-nil (passing test n)) before

has_passing : (test : ℕ → Bool) (n i : ℕ) → i < n → test i ≡ true → Contains (passing test n) i
unfolding passing
has_passing test zero i less is = absurd (omega (arith, less))
has_passing test (suc n) i less is = elim (cases_lt i n) [
  | inl lower ↦ Contains-append_left (passing test n) (cond (test n) (n ∷ []) []) i (has_passing test n i lower is)
  | inr same ↦ last (omega (arith, same, less))
]
  where
    last : i ≡ n → Contains (passing test n ++ cond (test n) (n ∷ []) []) i
    last e = rw (sym e, is) (Contains-push (passing test i) i)

-- ---- tests

neither : (a b : Bool) → (a || b) ≡ false → (a ≡ false) × (b ≡ false)
neither true b e = absurd_test true refl e
neither false b e = (refl, e)

some_below : (n : ℕ) (test : ℕ → Bool) → any_below n test ≡ true → (k : ℕ) × (k < n) × (test k ≡ true)
some_below zero test at = absurd_test false at refl
some_below (suc n) test at = elim (either_true (any_below n test) (test n) at) [
  | inl lower ↦ (let z = some_below n test lower in (z.0, (let less = z.1 in omega (arith, less)), z.2))
  | inr here ↦ (n, omega arith, here)
]

none_below : (n : ℕ) (test : ℕ → Bool) (k : ℕ) → k < n → any_below n test ≡ false → test k ≡ false
none_below n test k less none = elim (bool_cases (test k)) [
  | inl is ↦ absurd_test (any_below n test) (any_at n test k less is) none
  | inr out ↦ out
]

passes_at : (u : Option ℕ) (test : ℕ → Bool) → passes u test ≡ true → (x : ℕ) × (u ≡ Some x) × (test x ≡ true)
passes_at None test at = absurd_test false at refl
passes_at (Some x) test at = (x, refl, at)

find_passes : (test : ArmName → Bool) (ns : List ArmName) (n : ArmName) → find test ns ≡ Some n → (has_name ns n ≡ true) × (test n ≡ true)
find_passes test [] n e = absurd (none_some None n refl e)
find_passes test (m ∷ ns) n e = by (test m) refl (find_passes test ns n) e
  where
    by : (b : Bool) → test m ≡ b → (find test ns ≡ Some n → (has_name ns n ≡ true) × (test n ≡ true)) → cond b (Some m) (find test ns) ≡ Some n → (has_name (m ∷ ns) n ≡ true) × (test n ≡ true)
    by true is rest e = subst (λ k. (has_name (m ∷ ns) k ≡ true) × (test k ≡ true)) (some_injective m n e) (true_left (name_eq m m) (has_name ns m) (name_refl m), is)
    by false is rest e = let z = rest e in (true_right (name_eq m n) (has_name ns n) z.0, z.1)

-- ---- bad columns

-- columns that were read of a block, and those that it has
pub record IsBlocks (l : Layout) (h : Held) (size : ℕ) (key : Key) (pieces : Pieces) (columns : Columns) (whole : List (List ℕ)) : Type 0 where
  pub all : length columns ≡ l.columns
  pub long : (c : ℕ) (bytes : Vec ℕ Global) → slice_get columns c ≡ Some (Some bytes) → length bytes.items ≡ h.stripes * size
  pub whole_long : (c : ℕ) → c < l.columns → length (column_at whole c) ≡ h.stripes * size
  pub rows : (c row : ℕ) → c < l.columns → row < h.stripes → pieces key c row ≡ Some (row_bytes size (column_at whole c) row)

-- all columns are the block's but those of this set
pub record AreGoodBut (l : Layout) (columns : Columns) (whole : List (List ℕ)) (bad : List ℕ) : Type 0 where
  pub few : length bad ≤ l.parity
  pub ascending : IsStrictlyIncreasing bad
  pub in_range : All (λ c. c < l.columns) bad
  pub good : (c : ℕ) → c < l.columns → (Contains bad c → ⊥) → (bytes : Vec ℕ Global) × (slice_get columns c ≡ Some (Some bytes)) × (bytes.items ≡ column_at whole c)

module _ (l : Layout) (lay : IsLayout l) (w : State) (reached : IsReached l w) (pieces : Pieces) (x : Told) (backed : Backed l pieces w x) (key : Key) (h : Held) (held : w.core.held key ≡ Some h)
    (live : is_block h.stage ≡ true) (size : ℕ) (columns : Columns) (failed : List ℕ) (are : AreFetched l w h size failed columns (Some x)) (whole : List (List ℕ)) (is : IsBlocks l h size key pieces columns whole) where
  sound : LogSound l w
  sound = every_history l w lay reached

  core : Sound l w
  core = reached_sound l lay w reached

  owned : Owned l w
  owned = every_segment l w lay reached

  -- a row on the arm that is read is harmed or in doubt
  abbrev piece_at : ℕ → ArmName → ℕ → ℕ → Segment
  piece_at c n row leaf = record { key = key; column = c; arm = n; leaf = leaf; row = row }

  abbrev hurt_on : ℕ → ArmName → ℕ → ℕ → Bool
  hurt_on c n row leaf = x.harmed leaf (l.sector_of (h.first + row) c) || w.aside (piece_at c n row leaf)

  abbrev row_hurt : ℕ → ArmName → ℕ → Bool
  row_hurt c n row = passes (leaf_at l w.core.order n (h.first + row)) (hurt_on c n row)

  abbrev hurt : ℕ → Option ArmName → Bool
  hurt c None = false
  hurt c (Some n) = any_below h.stripes (row_hurt c n)

  abbrev is_good : ArmName → Bool
  is_good n = answers l w.core n h.first && is_clean w.core h.birth n

  abbrev order : ℕ → List ArmName
  order c = w.core.order (l.slot_of h.first c)

  abbrev is_bad : ℕ → Bool
  is_bad c = is_none (get_or columns c None) || (is_none (find is_good (order c)) || hurt c (reading l w.core h c))

  there : (c : ℕ) → c < l.columns → (o : Option (Vec ℕ Global)) → get_or columns c None ≡ o → slice_get columns c ≡ Some o
  there c less o e = slice_get-get_or columns c None (subst (λ n. c < n) (sym is.all) less) ∙ ap Some e

  bad_cause : (c : ℕ) → c < l.columns → is_bad c ≡ true → IsBad l w x.harmed key h failed c
  bad_cause c less bad = record { inside = less; why = at (get_or columns c None) (find is_good (order c)) (reading l w.core h c) refl refl refl bad }
    where
      hurt_at : (n : ArmName) → reading l w.core h c ≡ Some n → (row : ℕ) × (row < h.stripes) × (row_hurt c n row ≡ true) → IsHurt l w x.harmed key h c
      hurt_at n reads z =
          let at = passes_at (leaf_at l w.core.order n (h.first + z.0)) (hurt_on c n z.0) z.2 in
          record {
            n = n;
            row = z.0;
            leaf = at.0;
            reads = reads;
            inside = z.1;
            lies = at.1;
            bad = either_true (x.harmed at.0 (l.sector_of (h.first + z.0) c)) (w.aside (piece_at c n z.0 at.0)) at.2;
          }

      at : (o : Option (Vec ℕ Global)) (m r : Option ArmName) → get_or columns c None ≡ o → find is_good (order c) ≡ m → reading l w.core h c ≡ r → (is_none o || (is_none m || hurt c r)) ≡ true
          → IsAbsent l w.core h failed c ⊎ (LacksClean l w.core h c ⊎ IsHurt l w x.harmed key h c)
      at None m r gone clean reads e = inl ((are.absent c less).0 (there c less None gone))
      at (Some b) None r gone clean reads e = inr (inl clean)
      at (Some b) (Some m) None gone clean reads e = absurd_test false e refl
      at (Some b) (Some m) (Some n) gone clean reads e = inr (inr (hurt_at n reads (some_below h.stripes (row_hurt c n) e)))

  -- a column that isn't bad
  record IsGood (c : ℕ) : Type 0 where
    pub column : Vec ℕ Global
    pub at : slice_get columns c ≡ Some (Some column)
    pub n : ArmName
    pub clean : find is_good (order c) ≡ Some n
    pub reads : reading l w.core h c ≡ Some n
    pub whole_rows : any_below h.stripes (row_hurt c n) ≡ false

  good : (c : ℕ) → c < l.columns → is_bad c ≡ false → IsGood c
  good c less fine = at (get_or columns c None) (find is_good (order c)) refl refl fine
    where
      reads_is : (n : ArmName) → find is_good (order c) ≡ Some n → reading l w.core h c ≡ Some n
      reads_is n e = ap (λ o. else_some o (find (λ n. answers l w.core n h.first) (order c))) e

      at : (o : Option (Vec ℕ Global)) (m : Option ArmName) → get_or columns c None ≡ o → find is_good (order c) ≡ m → (is_none o || (is_none m || hurt c (reading l w.core h c))) ≡ false → IsGood c
      at None m gone clean e = absurd_test true refl e
      at (Some b) None gone clean e = absurd_test true refl e
      at (Some b) (Some n) gone clean e =
          record { column = b; at = there c less (Some b) gone; n = n; clean = clean; reads = reads_is n clean; whole_rows = subst (λ r. hurt c r ≡ false) (reads_is n clean) e }

  -- a row's leaf is that of the first
  row_leaf : (n : ArmName) (row : ℕ) → row < h.stripes → leaf_at l w.core.order n (h.first + row) ≡ leaf_at l w.core.order n h.first
  row_leaf (Leaf m) row less = refl
  row_leaf (Spare t) row less =
      ap (λ s. if nat_lt t l.spares then first_leaf (w.core.order s) else None) (lay.steady_home (first_spares w.core.order) (h.first + row) h.first t (core.core.runs key h row held less))

  -- it was read from an arm that is clean, and none of its sectors is harmed or in doubt, so it is the block's
  column_is : (c : ℕ) → c < l.columns → (it : IsGood c) → it.column.items ≡ column_at whole c
  column_is c less it = same_rows size it.column.items (column_at whole c) h.stripes (is.long c it.column it.at) (is.whole_long c less) row_is
    where
      found : (has_name (order c) it.n ≡ true) × (is_good it.n ≡ true)
      found = find_passes is_good (order c) it.n it.clean

      both : (answers l w.core it.n h.first ≡ true) × (is_clean w.core h.birth it.n ≡ true)
      both = both_true (answers l w.core it.n h.first) (is_clean w.core h.birth it.n) found.1

      on : (leaf : ℕ) × (leaf_at l w.core.order it.n h.first ≡ Some leaf) × (leaf_answers w.core leaf ≡ true)
      on = passes_at (leaf_at l w.core.order it.n h.first) (leaf_answers w.core) both.0

      arm : (a : Arm) × (w.core.arm it.n ≡ Some a) × (a.gone ≡ None)
      arm = owned.listed.data_of (l.slot_of h.first c) it.n found.0

      clean : arm.0.log h.birth ≡ false
      clean = subst (λ o. logged o h.birth ≡ false) arm.1 (not_true (logged (w.core.arm it.n) h.birth) both.1)

      row_is : (row : ℕ) → row < h.stripes → row_bytes size it.column.items row ≡ row_bytes size (column_at whole c) row
      row_is row within =
          let lies : leaf_at l w.core.order it.n (h.first + row) ≡ Some on.0 = row_leaf it.n row within ∙ on.1 in
          let s : Segment = piece_at c it.n row on.0 in
          let fine : hurt_on c it.n row on.0 ≡ false = subst (λ o. passes o (hurt_on c it.n row) ≡ false) lies (none_below h.stripes (row_hurt c it.n) row within it.whole_rows) in
          let calm = neither (x.harmed on.0 (l.sector_of (h.first + row) c)) (w.aside s) fine in
          let present : w.present s ≡ true
          = sound.clean s h arm.0 (record {
            held = held;
            arm = arm.1;
            listed = found.0;
            column = less;
            row = within;
            lies = subst (λ o. passes o (λ m. m == on.0) ≡ true) (sym lies) (equal on.0 on.0 refl);
          }) live clean in
          let piece : pieces key c row ≡ Some (row_bytes size (column_at whole c) row) = is.rows c row less within in
          some_same (x.reads on.0 (l.sector_of (h.first + row) c)) (row_bytes size it.column.items row) (row_bytes size (column_at whole c) row)
          (are.reads c row on.0 it.n it.column it.at it.reads within lies)
          (backed.holds.reads s h (record { held = held; present = present; sure = calm.1 }) calm.0 (subst (λ o. IsSome o) (sym piece) refl) ∙ piece)

  pub good_or_bad : ((bad : List ℕ) × AreGoodBut l columns whole bad) ⊎ MoreBad l w x.harmed key h failed
  good_or_bad = elim (cases_lt l.parity (length (passing is_bad l.columns))) [
    | inl many ↦ inr (record {
      columns = passing is_bad l.columns;
      ascending = passing_increasing is_bad l.columns;
      each = all_passing is_bad (IsBad l w x.harmed key h failed) l.columns bad_cause;
      more = many;
    })
    | inr few ↦ inl (
      passing is_bad l.columns,
      record {
        few = few;
        ascending = passing_increasing is_bad l.columns;
        in_range = all_passing is_bad (λ c. c < l.columns) l.columns (λ c less bad. less);
        good = good_at;
      },
    )
  ]
    where
      good_at : (c : ℕ) → c < l.columns → (Contains (passing is_bad l.columns) c → ⊥) → (bytes : Vec ℕ Global) × (slice_get columns c ≡ Some (Some bytes)) × (bytes.items ≡ column_at whole c)
      good_at c less out = by (is_bad c) refl
        where
          by : (b : Bool) → is_bad c ≡ b → (bytes : Vec ℕ Global) × (slice_get columns c ≡ Some (Some bytes)) × (bytes.items ≡ column_at whole c)
          by true bad = absurd (out (has_passing is_bad l.columns c less bad))
          by false fine = let it = good c less fine in (it.column, it.at, column_is c less it)

-- ---- the block of a pointer

module _ (l : Layout) (cut : Cut) (w : State) (key : Key) (h : Held) (pieces : Pieces) (fetched : Fetched) (bytes : List ℕ) (failed : List ℕ) (told : Option Told) (lay : IsLayout l) (reached : IsReached l w)
    (held : w.core.held key ≡ Some h) (live : is_block h.stage ≡ true) (of : IsFetchedOf l cut h key pieces fetched bytes) (are : AreFetched l w h cut.sector failed fetched.columns.items told) where
  stripes_of_len : h.stripes ≡ stripes_of cut fetched.pointer.len
  stripes_of_len = of.stripes ∙ of.fetched_is.stripes

  long_is : column_len cut fetched.pointer.len ≡ h.stripes * cut.sector
  unfolding column_len
  long_is = ap (λ n. n * cut.sector) (sym stripes_of_len)

  blocks : IsBlocks l h cut.sector key pieces fetched.columns.items of.columns
  blocks = record {
    all = of.fetched_is.count ∙ sym of.width;
    long = λ c b at. of.fetched_is.long c b at ∙ long_is;
    whole_long = λ c less. of.are.stripe.columns c (let same = of.width in omega (arith, less, same)) ∙ ap (λ n. column_len cut n) of.content.len ∙ long_is;
    rows = of.rows;
  }

  readable_but : (bad : List ℕ) → AreGoodBut l fetched.columns.items of.columns bad → IsReadable cut fetched bytes bad
  readable_but bad good = record {
    content = of.content;
    whole = of.columns;
    columns = of.are;
    few = (let few = good.few in let same = of.parity in omega (arith, few, same));
    ascending = good.ascending;
    in_range = subst (λ n. All (λ i. i < n) bad) of.width good.in_range;
    good = λ i less out. good.good i (let same = of.width in omega (arith, less, same)) out;
  }

  pub readable : OnTold told (Backed l pieces w) → OnTold told (λ x. ((bad : List ℕ) × IsReadable cut fetched bytes bad) ⊎ MoreBad l w x.harmed key h failed)
  readable segments = by told segments are
    where
      by : (o : Option Told) → OnTold o (Backed l pieces w) → AreFetched l w h cut.sector failed fetched.columns.items o
          → OnTold o (λ x. ((bad : List ℕ) × IsReadable cut fetched bytes bad) ⊎ MoreBad l w x.harmed key h failed)
      by None b a = tt
      by (Some x) b a = elim (good_or_bad l lay w reached pieces x b key h held live cut.sector fetched.columns.items failed a of.columns blocks) [
        | inl z ↦ inl (z.0, readable_but z.0 z.1)
        | inr bad ↦ inr bad
      ]
