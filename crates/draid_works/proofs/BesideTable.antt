-- What replies say of a lane's own objects, whatever other objects there are beside them.
use Rattle.std.proofs.Common.{◌≡◌, ◌==◌, ◌∙◌, ◌+◌, ◌<◌, ◌≤◌, ℕ, Bool, true, false, List, [], ◌∷◌, Option, Some, None, Result, Ok, Err, Vec, Global, arith, if◌then◌else◌, length, refl, sym, ap, subst}
use Rattle.std.proofs.lemmas.Bool.Decides.{nat_tests}
use Rattle.draid_names.specs.declared.pointer.Pointer.{Pointer}
use Rattle.draid_names.specs.declared.refusal.ObjectFault.{ObjectFault}
use Rattle.draid_names.specs.declared.refusal.WriteFault.{WriteFault}
use Rattle.draid_script.specs.Line.{FillObjects, FreeObject, ReadObject, SumObjects, WriteObject}
use Rattle.draid_reply.specs.declared.reply.Reply.{Reply}
use Rattle.draid_reply.specs.declared.reply.Reply.TheVariants.{Filled, FillRefused}
use Rattle.draid_session.specs.Making.{content_of}
use Rattle.draid_store.specs.Fetching.{OwnsFrom}
use Rattle.draid_store.specs.Pointers.{ReadFinds, TriesTake}
use Rattle.draid_store.specs.PointerSums.{FitPointers, StopsFor, SumFinds}
use Rattle.draid_store.specs.Says.{free_reply, read_reply, sum_reply}
use Rattle.draid_store.specs.declared.fault.FreeFault.{FreeFault}
use Rattle.draid_store.specs.declared.fault.FreeFault.TheVariants as free
use Rattle.draid_store.specs.declared.fault.SumFault.{SumFault}
use Rattle.draid_lanes.specs.Telling.{beside}
use Rattle.draid_works.specs.Lanes.{TeachesOwn}
use Rattle.draid_works.specs.Replied.{write_reply}
use Rattle.draid_works.specs.Waiting.{WriteSetsTable}
use Rattle.draid_works.proofs.FilledTable.{FillsTable, table_all, table_more, table_none, table_stopped, table_unbegun}
use Rattle.draid_works.proofs.TaughtTable.{table_free, table_read, table_sum, table_write}

same_number : (a b : ℕ) → (a == b) ≡ true → a ≡ b
same_number a b is = grind (arith, nat_tests, is)

set_beside : {X : Type 0} (own same : Bool) (what table rest : X) → (same ≡ true → own ≡ true) → (if own then (if same then what else table) else rest) ≡ (if same then what else (if own then table else rest))
set_beside true same what table rest so = refl
set_beside false true what table rest so = absurd (let f = so refl in cc)
set_beside false false what table rest so = refl

module _ (owns : ℕ → Bool) (rest : ℕ → Option Pointer) where
  -- an own object's pointer is that of the lane
  at_beside : (table : ℕ → Option Pointer) (object : ℕ) → owns object ≡ true → beside owns table rest object ≡ table object
  at_beside table object own = ap (λ (b : Bool). if b then table object else rest object) own

  same_beside : (table now : ℕ → Option Pointer) → ((o : ℕ) → now o ≡ table o) → (o : ℕ) → beside owns now rest o ≡ beside owns table rest o
  same_beside table now same o = ap (λ (p : Option Pointer). if owns o then p else rest o) (same o)

  sets_beside : (object : ℕ) (what : Option Pointer) (table now : ℕ → Option Pointer) → owns object ≡ true → ((o : ℕ) → now o ≡ (if object == o then what else table o))
      → (o : ℕ) → beside owns now rest o ≡ (if object == o then what else beside owns table rest o)
  sets_beside object what table now own sets o =
      ap (λ (p : Option Pointer). if owns o then p else rest o) (sets o)
      ∙ set_beside (owns o) (object == o) what (table o) (rest o) (λ is. subst (λ k. owns k ≡ true) (same_number object o is) own)

  writes_beside : (object : ℕ) (bytes : List ℕ) (table now : ℕ → Option Pointer) (result : Result Unit WriteFault) → owns object ≡ true → WriteSetsTable object bytes table now result → WriteSetsTable object bytes (beside owns table rest) (beside owns now rest) result
  writes_beside object bytes table now (Ok done) own s = (s.0, s.1, sets_beside object (Some s.0) table now own s.2)
  writes_beside object bytes table now (Err why) own s = same_beside table now s

  takes_beside : (object : ℕ) (table now : ℕ → Option Pointer) (result : Result Unit FreeFault) → owns object ≡ true → TriesTake object table now (Some result) → TriesTake object (beside owns table rest) (beside owns now rest) (Some result)
  takes_beside object table now (Ok done) own t = (t.0, at_beside table object own ∙ t.1, sets_beside object None table now own t.2)
  takes_beside object table now (Err free.NoObject) own t = (at_beside table object own ∙ t.0, same_beside table now t.1)

  finds_beside : (table : ℕ → Option Pointer) (object : ℕ) (result : Result (Vec ℕ Global) ObjectFault) → owns object ≡ true → ReadFinds (table object) result → ReadFinds (beside owns table rest object) result
  finds_beside table object result own finds = subst (λ p. ReadFinds p result) (sym (at_beside table object own)) finds

  fit_beside : (table : ℕ → Option Pointer) (first count : ℕ) (contents : List (List ℕ)) → ((o : ℕ) → first ≤ o → o < first + count → owns o ≡ true) → length contents ≤ count → FitPointers table first contents → FitPointers (beside owns table rest) first contents
  fit_beside table first count [] own many fit = tt
  fit_beside table first count (bytes ∷ more) own many fit = (
    (fit.0.0, at_beside table first (own first (omega arith) (omega (arith, many))) ∙ fit.0.1, fit.0.2),
    fit_beside table (first + 1) (length more) more (λ o low high. own o (omega (arith, low)) (omega (arith, high, many))) (omega arith) fit.1,
  )

  sums_beside : (table : ℕ → Option Pointer) (first count : ℕ) (result : Result (List ℕ) SumFault) → OwnsFrom owns first count → SumFinds table first count result → SumFinds (beside owns table rest) first count result
  sums_beside table first count (Ok digest) own s = (let many = s.many in record {
    contents = s.contents;
    many = s.many;
    fit = fit_beside table first count s.contents own (omega (arith, many)) s.fit;
    is = s.is;
  })
  sums_beside table first count (Err lost) own s =
      let within = s.within in
      let at = s.object_is in
      record {
        contents = s.contents;
        within = s.within;
        object_is = s.object_is;
        fit = fit_beside table first count s.contents own (omega (arith, within)) s.fit;
        stops = subst (λ p. StopsFor p lost.why) (sym (at_beside table lost.object (own lost.object (omega (arith, at)) (omega (arith, at, within))))) s.stops;
      }

-- ---- replies

module _ (owns : ℕ → Bool) (table now : ℕ → Option Pointer) where
  pub own_read : (object : ℕ) (result : Result (Vec ℕ Global) ObjectFault) (reply : Reply) → owns object ≡ true → ((o : ℕ) → now o ≡ table o) → reply ≡ read_reply object result → ReadFinds (table object) result → TeachesOwn owns (ReadObject object) reply table now
  own_read object result reply own same said finds rest = table_read (beside owns table rest) (beside owns now rest) (same_beside owns rest table now same) object result reply said (finds_beside owns rest table object result own finds)

  pub own_sum : (first count : ℕ) (result : Result (List ℕ) SumFault) (reply : Reply) → OwnsFrom owns first count → ((o : ℕ) → now o ≡ table o) → reply ≡ sum_reply first count result → SumFinds table first count result → TeachesOwn owns (SumObjects first count) reply table now
  own_sum first count result reply own same said finds rest = table_sum (beside owns table rest) (beside owns now rest) (same_beside owns rest table now same) first count result reply said (sums_beside owns rest table first count result own finds)

  pub own_write : (object : ℕ) (bytes : List ℕ) (result : Result Unit WriteFault) (reply : Reply) → owns object ≡ true → reply ≡ write_reply object result → WriteSetsTable object bytes table now result → TeachesOwn owns (WriteObject object bytes) reply table now
  own_write object bytes result reply own said sets rest = table_write (beside owns table rest) (beside owns now rest) object bytes result reply said (writes_beside owns rest object bytes table now result own sets)

  pub own_free : (object : ℕ) (result : Result Unit FreeFault) (reply : Reply) → owns object ≡ true → reply ≡ free_reply object result → TriesTake object table now (Some result) → TeachesOwn owns (FreeObject object) reply table now
  own_free object result reply own said takes rest = table_free (beside owns table rest) (beside owns now rest) object result reply said (takes_beside owns rest object table now result own takes)

-- ---- a fill

-- the first so many objects were filled, whatever other objects there are
abbrev pub FillsOwn : (owns : ℕ → Bool) → (first len seed written : ℕ) → (table now : ℕ → Option Pointer) → Type 0
FillsOwn owns first len seed written table now = (rest : ℕ → Option Pointer) → FillsTable first len seed written (beside owns table rest) (beside owns now rest)

module _ (owns : ℕ → Bool) (first len seed : ℕ) (table : ℕ → Option Pointer) where
  pub own_none : FillsOwn owns first len seed 0 table table
  own_none rest = table_none first len seed (beside owns table rest)

  pub own_more : (mid now : ℕ → Option Pointer) (written : ℕ) (bytes : List ℕ) (result : Result Unit WriteFault) → owns (first + written) ≡ true → bytes ≡ content_of seed (first + written) len → result ≡ Ok tt
      → WriteSetsTable (first + written) bytes mid now result → FillsOwn owns first len seed written table mid → FillsOwn owns first len seed (written + 1) table now
  own_more mid now written bytes result own is ok sets fills rest =
      table_more first len seed (beside owns table rest) (beside owns mid rest) (beside owns now rest) written bytes result is ok (writes_beside owns rest (first + written) bytes mid now result own sets) (fills rest)

  pub own_all : (now : ℕ → Option Pointer) (written count : ℕ) → written ≡ count → FillsOwn owns first len seed written table now → TeachesOwn owns (FillObjects first count len seed) (Filled first count) table now
  own_all now written count all fills rest = table_all first len seed (beside owns table rest) (beside owns now rest) written count all (fills rest)

  pub own_stopped : (mid now : ℕ → Option Pointer) (written count : ℕ) (why : WriteFault) (object : ℕ) (bytes : List ℕ) (result : Result Unit WriteFault) → owns object ≡ true → result ≡ Err why → WriteSetsTable object bytes mid now result → FillsOwn owns first len seed written table mid
      → TeachesOwn owns (FillObjects first count len seed) (FillRefused first written why) table now
  own_stopped mid now written count why object bytes result own err sets fills rest =
      table_stopped first len seed (beside owns table rest) (beside owns mid rest) (beside owns now rest) written count why object bytes result err (writes_beside owns rest object bytes mid now result own sets) (fills rest)

  pub own_unbegun : (count : ℕ) (why : WriteFault) → TeachesOwn owns (FillObjects first count len seed) (FillRefused first 0 why) table table
  own_unbegun count why rest = table_unbegun first len seed (beside owns table rest) count why
