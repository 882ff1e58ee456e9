-- What a change of sectors leaves: bytes, what was flushed, and the counts of failures.
use Rattle.std.proofs.Common.{arith, refl, ap, ◌∙◌, ◌≡◌, ℕ, Bool, true, false, List, Option, Some, None, Ok, option_map, if◌then◌else◌}
use Rattle.std.specs.BTreeMap.{BTreeMap}
use Rattle.std.proofs.lemmas.Bool.{false≢true}
use Rattle.draid_rack.specs.declared.leaf.Leaf.{Leaf}
use Rattle.draid_rack.specs.Leaves.{bytes_of, faults_by, faults_in, leaf_at}
use Rattle.draid_rack.specs.Rack.{Counts, CountsOnly}
use Rattle.draid_rack.specs.Sectors.{View, landed, marked}

-- what a sector read at the last flush
abbrev pub kept : Option View → Option (List ℕ)
kept o = option_map (λ (x : View). x.kept) o

either : {A : Type 0} (field : Option View → A) (f : View → View) (o : Option View) (b : Bool) → field (option_map f o) ≡ field o → field (if b then option_map f o else o) ≡ field o
either field f o true is = is
either field f o false is = refl

mark_reads : (harm : Bool) (clock : ℕ) (o : Option View) → bytes_of (option_map (marked harm clock) o) ≡ bytes_of o
mark_reads harm clock None = refl
mark_reads harm clock (Some x) = refl

mark_keeps : (harm : Bool) (clock : ℕ) (o : Option View) → kept (option_map (marked harm clock) o) ≡ kept o
mark_keeps harm clock None = refl
mark_keeps harm clock (Some x) = refl

land_keeps : (bytes : List ℕ) (harm : Bool) (clock : ℕ) (o : Option View) → kept (option_map (landed bytes harm clock) o) ≡ kept o
land_keeps bytes harm clock None = refl
land_keeps bytes harm clock (Some x) = refl

pub marked_reads : (harm : Bool) (clock : ℕ) (now o : Option View) (b : Bool) → now ≡ (if b then option_map (marked harm clock) o else o) → bytes_of now ≡ bytes_of o
marked_reads harm clock now o b is = ap bytes_of is ∙ either bytes_of (marked harm clock) o b (mark_reads harm clock o)

pub marked_keeps : (harm : Bool) (clock : ℕ) (now o : Option View) (b : Bool) → now ≡ (if b then option_map (marked harm clock) o else o) → kept now ≡ kept o
marked_keeps harm clock now o b is = ap kept is ∙ either kept (marked harm clock) o b (mark_keeps harm clock o)

pub landed_keeps : (bytes : List ℕ) (harm : Bool) (clock : ℕ) (now o : Option View) (b : Bool) → now ≡ (if b then option_map (landed bytes harm clock) o else o) → kept now ≡ kept o
landed_keeps bytes harm clock now o b is = ap kept is ∙ either kept (landed bytes harm clock) o b (land_keeps bytes harm clock o)

-- ---- a call that didn't fail
module _ (leaf own : ℕ) (old new : BTreeMap ℕ Leaf) (same : (m : ℕ) → faults_in (leaf_at new m) ≡ faults_in (leaf_at old m)) where
  stay : (w : Option ℕ) → faults_by new own w ≡ faults_by old own w
  stay None = refl
  stay (Some m) = same m

  pub counts_none : {E : Type 0} → Counts {E = E} (Some leaf) (Ok tt) (faults_by old own) (faults_by new own)
  counts_none = record { later = λ w. (let e = stay w in omega (arith, e)); cause = tt }

  pub only_none : CountsOnly (Some leaf) (false ≡ true) (faults_by old own) (faults_by new own)
  only_none = record { own = record { risen = λ failed. absurd (false≢true failed); same = λ ok. same leaf }; others = λ w other. stay w }
