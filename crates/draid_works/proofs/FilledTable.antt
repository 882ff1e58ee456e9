-- What a fill says of a lane's objects by the table of their pointers.
use Rattle.std.proofs.Common.{◌≡◌, ◌+◌, ℕ, suc, List, Option, Some, Result, Ok, Err, arith, refl, sym, subst}
use Rattle.draid_names.specs.declared.pointer.Pointer.{Pointer}
use Rattle.draid_names.specs.declared.refusal.WriteFault.{WriteFault}
use Rattle.draid_script.specs.Line.{FillObjects}
use Rattle.draid_reply.specs.declared.reply.Reply.TheVariants.{Filled, FillRefused}
use Rattle.draid_session.specs.Known.{Known, learns_filled}
use Rattle.draid_session.specs.Making.{content_of}
use Rattle.draid_pool.specs.Knows.{FitsKnown, KnowsTable}
use Rattle.draid_pool.specs.Pointers.{FitsPointer}
use Rattle.draid_pool.proofs.Taught.{sets_known}
use Rattle.draid_works.specs.Lanes.{TeachesTable}
use Rattle.draid_works.specs.Waiting.{WriteSetsTable}

-- the first so many objects were filled
abbrev pub FillsTable : (first len seed written : ℕ) → (table now : ℕ → Option Pointer) → Type 0
FillsTable first len seed written table now = (known : Known) → KnowsTable table known → KnowsTable now (learns_filled (λ o. content_of seed o len) first written known)

module _ (first len seed : ℕ) (table : ℕ → Option Pointer) where
  pub table_none : FillsTable first len seed 0 table table
  table_none known knows = knows

  -- one more
  pub table_more : (mid now : ℕ → Option Pointer) (written : ℕ) (bytes : List ℕ) (result : Result Unit WriteFault) → bytes ≡ content_of seed (first + written) len → result ≡ Ok tt
      → WriteSetsTable (first + written) bytes mid now result → FillsTable first len seed written table mid → FillsTable first len seed (written + 1) table now
  table_more mid now written bytes result is ok sets fills known knows =
      let s = subst (WriteSetsTable (first + written) bytes mid now) ok sets in
      let fits = subst (FitsPointer s.0) is s.1 in
      let content : ℕ → List ℕ = λ o. content_of seed o len in
      let next : suc written ≡ written + 1 = omega arith in
      subst (λ n. KnowsTable now (learns_filled content first n known)) next
      (sets_known (first + written) (Some (content_of seed (first + written) len)) (Some s.0) mid now s.2 (s.0, refl, fits) (learns_filled content first written known) (fills known knows))

  pub table_all : (now : ℕ → Option Pointer) (written count : ℕ) → written ≡ count → FillsTable first len seed written table now → TeachesTable (FillObjects first count len seed) (Filled first count) table now
  table_all now written count all fills known knows = record {
    new = learns_filled (λ o. content_of seed o len) first count known;
    learns = refl;
    fits = subst (λ n. KnowsTable now (learns_filled (λ o. content_of seed o len) first n known)) all (fills known knows);
  }

  -- or the next one was refused
  pub table_stopped : (mid now : ℕ → Option Pointer) (written count : ℕ) (why : WriteFault) (object : ℕ) (bytes : List ℕ) (result : Result Unit WriteFault) → result ≡ Err why → WriteSetsTable object bytes mid now result → FillsTable first len seed written table mid
      → TeachesTable (FillObjects first count len seed) (FillRefused first written why) table now
  table_stopped mid now written count why object bytes result err sets fills known knows =
      let same = subst (WriteSetsTable object bytes mid now) err sets in
      record {
        new = learns_filled (λ o. content_of seed o len) first written known;
        learns = refl;
        fits = λ o. subst (FitsKnown (learns_filled (λ o. content_of seed o len) first written known o)) (sym (same o)) (fills known knows o);
      }

  pub table_unbegun : (count : ℕ) (why : WriteFault) → TeachesTable (FillObjects first count len seed) (FillRefused first 0 why) table table
  table_unbegun count why known knows = record { new = known; learns = refl; fits = knows }
