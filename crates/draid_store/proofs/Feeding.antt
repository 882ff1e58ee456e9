-- The bytes of one answer after another, given to a hasher.
use Rattle.std.proofs.Common.{◌≡◌, ◌+◌, ◌<◌, ◌≤◌, ◌∙◌, ◌++◌, ℕ, suc, List, [], ◌∷◌, Vec, Global, arith, refl, sym, ap, subst, length, length-append, drop, slice_index_or}
use Rattle.std.proofs.Math.Seq.{drop-cons}
use Rattle.std.proofs.lemmas.List.{append-nil, append_assoc, at_drop_all}
use Rattle.sha2.specs.Hashers.{Holds256}
use Rattle.sha2.specs.declared.Sha256.{Sha256}
use Rattle.draid_block.specs.declared.many.Solve.{Solve}
use Rattle.draid_block.specs.declared.many.Solve.TheVariants.{Bytes, Unreadable}
use Rattle.draid_store.specs.Batches.{AreBytes, Feeds, FeedsAll, FirstUnread}
use Rattle.draid_names.specs.declared.refusal.ObjectFault.TheVariants as object
use Rattle.draid_store.specs.declared.fault.SumFault.{SumFault}
use Rattle.draid_store.proofs.Sums.{joined, joined_append}

-- the first k answers are bytes, which the hasher was given
pub record Feeding (solves : List Solve) (k : ℕ) (old new : Sha256) : Type 0 where
  pub before : List Solve
  pub contents : List (List ℕ)
  pub many : length before ≡ k
  pub order : solves ≡ before ++ drop k solves
  pub are : AreBytes before contents
  pub fed : Feeds contents old new

pub feeding_none : (solves : List Solve) (hasher : Sha256) → Feeding solves 0 hasher hasher
feeding_none solves hasher = record {
  before = [];
  contents = [];
  many = refl;
  order = refl;
  are = tt;
  fed = λ m holds. subst (λ (n : List ℕ). Holds256 hasher n) (sym (append-nil m)) holds;
}

are_more : (before : List Solve) (contents : List (List ℕ)) (bytes : Vec ℕ Global) → AreBytes before contents → AreBytes (before ++ Bytes bytes ∷ []) (contents ++ bytes.items ∷ [])
are_more [] [] bytes are = (refl, tt)
are_more [] (c ∷ cs) bytes are = absurd are
are_more (Bytes b ∷ bs) [] bytes are = absurd are
are_more (Bytes b ∷ bs) (c ∷ cs) bytes are = (are.0, are_more bs cs bytes are.1)
are_more (Unreadable absent tried ∷ bs) [] bytes are = absurd are
are_more (Unreadable absent tried ∷ bs) (c ∷ cs) bytes are = absurd are

-- the next answer
next_of : (solves : List Solve) (k : ℕ) (solve : Solve) → k < length solves → solve ≡ slice_index_or solves k solve → drop k solves ≡ solve ∷ drop (k + 1) solves
next_of solves k solve below here =
    let step : suc k ≡ k + 1 = omega arith in
    drop-cons solves k solve below ∙ (ap (λ (s : Solve). s ∷ drop (suc k) solves) (sym here) ∙ ap (λ (n : ℕ). solve ∷ drop n solves) step)

pub feeding_more : (solves : List Solve) (k : ℕ) (solve : Solve) (bytes : Vec ℕ Global) (old mid new : Sha256) → Feeding solves k old mid → k < length solves
    → solve ≡ slice_index_or solves k solve → solve ≡ Bytes bytes → ((m : List ℕ) → Holds256 mid m → Holds256 new (m ++ bytes.items)) → Feeding solves (k + 1) old new
feeding_more solves k solve bytes old mid new f below here is more =
    let step = next_of solves k solve below here ∙ ap (λ (s : Solve). s ∷ drop (k + 1) solves) is in
    let many = f.many in
    record {
      before = f.before ++ Bytes bytes ∷ [];
      contents = f.contents ++ bytes.items ∷ [];
      many = (let long = length-append f.before (Bytes bytes ∷ []) in omega (arith, many, long));
      order = f.order ∙ (ap (λ (rest : List Solve). f.before ++ rest) step ∙ sym (append_assoc f.before (Bytes bytes ∷ []) (drop (k + 1) solves)));
      are = are_more f.before f.contents bytes f.are;
      fed = λ m holds. subst (λ (n : List ℕ). Holds256 new n)
          (append_assoc m (joined f.contents) bytes.items ∙ ap (λ (rest : List ℕ). m ++ rest) (ap (λ (b : List ℕ). joined f.contents ++ b) (sym (append-nil bytes.items)) ∙ joined_append f.contents (bytes.items ∷ [])))
          (more (m ++ joined f.contents) (f.fed m holds));
    }

pub feeding_done : (solves : List Solve) (k : ℕ) (old new : Sha256) → Feeding solves k old new → length solves ≤ k → FeedsAll solves old new
feeding_done solves k old new f end =
    let none : drop k solves ≡ [] = at_drop_all (λ (xs : List Solve). xs) solves k end in
    let all : f.before ≡ solves = sym (f.order ∙ (ap (λ (rest : List Solve). f.before ++ rest) none ∙ append-nil f.before)) in
    record { contents = f.contents; are = subst (λ (xs : List Solve). AreBytes xs f.contents) all f.are; fed = f.fed }

pub feeding_stops : (first : ℕ) (solves : List Solve) (k at : ℕ) (solve : Solve) (absent tried : ℕ) (old new : Sha256) → Feeding solves k old new → k < length solves
    → solve ≡ slice_index_or solves k solve → solve ≡ Unreadable absent tried → at ≡ first + k
    → FirstUnread first solves (record { object = at; why = object.Unreadable absent tried })
feeding_stops first solves k at solve absent tried old new f below here is named =
    let step = next_of solves k solve below here ∙ ap (λ (s : Solve). s ∷ drop (k + 1) solves) is in
    let fault : ℕ → SumFault = λ n. record { object = n; why = object.Unreadable absent tried } in
    record {
      before = f.before;
      after = drop (k + 1) solves;
      contents = f.contents;
      absent = absent;
      tried = tried;
      order = f.order ∙ ap (λ (rest : List Solve). f.before ++ rest) step;
      are = f.are;
      named = ap fault (named ∙ ap (λ (n : ℕ). first + n) (sym f.many));
    }
