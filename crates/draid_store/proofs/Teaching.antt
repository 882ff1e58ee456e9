-- What the calls of a pool say of its objects by what is known of them.
use Rattle.std.proofs.Common.{◌≡◌, ◌+◌, ℕ, suc, List, [], ◌∷◌, Option, Some, None, Result, Ok, Err, Vec, Global, arith, refl, sym, subst}
use Rattle.draid_names.specs.declared.pointer.Pointer.{Pointer}
use Rattle.draid_names.specs.declared.refusal.ObjectFault.{ObjectFault}
use Rattle.draid_names.specs.declared.refusal.ObjectFault.TheVariants as fault
use Rattle.draid_names.specs.declared.refusal.WriteFault.{WriteFault}
use Rattle.draid_script.specs.Line.{WriteObject, FillObjects, ReadObject, FreeObject, SumObjects}
use Rattle.draid_reply.specs.declared.reply.Reply.{Reply}
use Rattle.draid_reply.specs.declared.reply.Reply.TheVariants.{Filled, FillRefused, Written}
use Rattle.draid_session.specs.Known.{Known, MayGiveNone, MayHaveAll, learns, learns_all, learns_filled, learns_lost}
use Rattle.draid_session.specs.Making.{content_of}
use Rattle.draid_pool.specs.Pointers.{FitsPointer, SamePointers, pointer_in}
use Rattle.draid_store.specs.Pointers.{FreeTakes, ReadFinds, WriteSets}
use Rattle.draid_store.specs.PointerSums.{FitPointers, StopsFor, SumFinds}
use Rattle.draid_store.specs.declared.fault.FreeFault.{FreeFault}
use Rattle.draid_store.specs.declared.fault.FreeFault.TheVariants as free
use Rattle.draid_store.specs.declared.fault.SumFault.{SumFault}
use Rattle.draid_pool.specs.declared.pool.Pool.{Pool}
use Rattle.draid_pool.specs.Knows.{FitsKnown, KnowsPointers, KnowsTable, Teaches}
use Rattle.draid_store.specs.Says.{free_reply, read_reply, sum_reply}
use Rattle.draid_pool.proofs.Taught.{still_known, sets_known, learns_known, allows_bytes, allows_none, allows_some}

-- ---- tables

-- ---- one object

-- ---- replies that add nothing

-- ---- a read

found_bytes : (o : Option Pointer) (bytes : Vec ℕ Global) → ReadFinds o (Ok bytes) → (p : Pointer) × (o ≡ Some p) × FitsPointer p bytes.items
found_bytes None bytes is = absurd (cc is)
found_bytes (Some p) bytes is = (p, refl, is)

found_none : (o : Option Pointer) → ReadFinds o (Err fault.NoObject) → o ≡ None
found_none None is = refl
found_none (Some p) is = absurd is

found_lost : (o : Option Pointer) (absent tried : ℕ) → ReadFinds o (Err (fault.Unreadable absent tried)) → (p : Pointer) × (o ≡ Some p)
found_lost None absent tried is = absurd (cc is)
found_lost (Some p) absent tried is = (p, refl)

found_worn : (o : Option Pointer) → ReadFinds o (Err fault.Worn) → (p : Pointer) × (o ≡ Some p)
found_worn None is = absurd (cc is)
found_worn (Some p) is = (p, refl)

module _ {R A : Type 0} (old new : Pool R A) (same : SamePointers old new) where
  -- the table as it was has what was learned
  stays : (known : Known) → KnowsTable (pointer_in old) known → KnowsPointers new known
  stays known knows = still_known old new same known knows

  pub read_teaches : (object : ℕ) (result : Result (Vec ℕ Global) ObjectFault) (reply : Reply) → reply ≡ read_reply object result → ReadFinds (pointer_in old object) result → Teaches (ReadObject object) reply old new
  read_teaches object result reply said finds = subst (λ r. Teaches (ReadObject object) r old new) (sym said) (by result finds) where
    by : (result : Result (Vec ℕ Global) ObjectFault) → ReadFinds (pointer_in old object) result → Teaches (ReadObject object) (read_reply object result) old new
    by (Ok bytes) finds known knows =
        let f = found_bytes (pointer_in old object) bytes finds in
        record {
          new = learns object (Some bytes.items) known;
          learns = (allows_bytes (known object) (pointer_in old object) f.0 bytes.items (knows object) f.1 f.2, refl);
          fits = stays (learns object (Some bytes.items) known) (learns_known (pointer_in old) object (Some bytes.items) f known knows);
        }
    by (Err fault.NoObject) finds known knows =
        let none = found_none (pointer_in old object) finds in
        record {
          new = learns object None known;
          learns = (allows_none (known object) (pointer_in old object) (knows object) none, refl);
          fits = stays (learns object None known) (learns_known (pointer_in old) object None none known knows);
        }
    by (Err (fault.Unreadable absent tried)) finds known knows =
        let f = found_lost (pointer_in old object) absent tried finds in
        record { new = known; learns = (allows_some (known object) (pointer_in old object) f.0 (knows object) f.1, refl); fits = stays known knows }
    by (Err fault.Worn) finds known knows =
        let f = found_worn (pointer_in old object) finds in
        record { new = known; learns = (allows_some (known object) (pointer_in old object) f.0 (knows object) f.1, refl); fits = stays known knows }
    by (Err fault.NoMemory) finds known knows = record { new = known; learns = refl; fits = stays known knows }

  -- ---- a sum

  all_allow : (contents : List (List ℕ)) (first : ℕ) → FitPointers (pointer_in old) first contents → (known : Known) → KnowsPointers old known → MayHaveAll known first contents
  all_allow [] first fit known knows = tt
  all_allow (bytes ∷ more) first fit known knows =
      (allows_bytes (known first) (pointer_in old first) fit.0.0 bytes (knows first) fit.0.1 fit.0.2, all_allow more (first + 1) fit.1 known knows)

  all_known : (contents : List (List ℕ)) (first : ℕ) → FitPointers (pointer_in old) first contents → (known : Known) → KnowsPointers old known → KnowsPointers old (learns_all first contents known)
  all_known [] first fit known knows = knows
  all_known (bytes ∷ more) first fit known knows =
      learns_known (pointer_in old) first (Some bytes) fit.0 (learns_all (first + 1) more known) (all_known more (first + 1) fit.1 known knows)

  gives_none : (known : Known) (object : ℕ) (o : Option Pointer) (why : ObjectFault) → FitsKnown (known object) o → StopsFor o why → MayGiveNone known object why
  gives_none known object None fault.NoObject knows stops = allows_none (known object) None knows refl
  gives_none known object None (fault.Unreadable absent tried) knows stops = absurd (cc stops)
  gives_none known object None fault.Worn knows stops = absurd (cc stops)
  gives_none known object None fault.NoMemory knows stops = tt
  gives_none known object (Some p) fault.NoObject knows stops = absurd stops
  gives_none known object (Some p) (fault.Unreadable absent tried) knows stops = allows_some (known object) (Some p) p knows refl
  gives_none known object (Some p) fault.Worn knows stops = allows_some (known object) (Some p) p knows refl
  gives_none known object (Some p) fault.NoMemory knows stops = tt

  stops_none : (o : Option Pointer) → StopsFor o fault.NoObject → o ≡ None
  stops_none None stops = refl
  stops_none (Some p) stops = absurd stops

  lost_known : (object : ℕ) (why : ObjectFault) → StopsFor (pointer_in old object) why → (known : Known) → KnowsPointers old known → KnowsPointers old (learns_lost object why known)
  lost_known object fault.NoObject stops known knows = learns_known (pointer_in old) object None (stops_none (pointer_in old object) stops) known knows
  lost_known object (fault.Unreadable absent tried) stops known knows = knows
  lost_known object fault.Worn stops known knows = knows
  lost_known object fault.NoMemory stops known knows = knows

  pub sum_teaches : (first count : ℕ) (result : Result (List ℕ) SumFault) (reply : Reply) → reply ≡ sum_reply first count result → SumFinds (pointer_in old) first count result → Teaches (SumObjects first count) reply old new
  sum_teaches first count result reply said finds = subst (λ r. Teaches (SumObjects first count) r old new) (sym said) (by result finds) where
    by : (result : Result (List ℕ) SumFault) → SumFinds (pointer_in old) first count result → Teaches (SumObjects first count) (sum_reply first count result) old new
    by (Ok digest) s known knows = record {
      new = learns_all first s.contents known;
      learns = record { contents = s.contents; many = s.many; may = all_allow s.contents first s.fit known knows; is = s.is; learned = refl };
      fits = stays (learns_all first s.contents known) (all_known s.contents first s.fit known knows);
    }
    by (Err lost) s known knows =
        let after = learns_all first s.contents known in
        record {
          new = learns_lost lost.object lost.why after;
          learns = record {
            contents = s.contents;
            within = s.within;
            object_is = s.object_is;
            may = all_allow s.contents first s.fit known knows;
            lost = gives_none known lost.object (pointer_in old lost.object) lost.why (knows lost.object) s.stops;
            learned = refl;
          };
          fits = stays (learns_lost lost.object lost.why after) (lost_known lost.object lost.why s.stops after (all_known s.contents first s.fit known knows));
        }

-- ---- a write, and a freeing

module _ {R A : Type 0} (old new : Pool R A) where
  pub write_teaches : (object : ℕ) (bytes : List ℕ) (result : Result Unit WriteFault) → result ≡ Ok tt → WriteSets object bytes old new result → Teaches (WriteObject object bytes) (Written object) old new
  write_teaches object bytes result is sets known knows =
      let s = subst (WriteSets object bytes old new) is sets in
      record { new = learns object (Some bytes) known; learns = refl; fits = sets_known object (Some bytes) (Some s.0) (pointer_in old) (pointer_in new) s.2 (s.0, refl, s.1) known knows }

  pub refused_same : (object : ℕ) (bytes : List ℕ) (result : Result Unit WriteFault) (why : WriteFault) → result ≡ Err why → WriteSets object bytes old new result → SamePointers old new
  refused_same object bytes result why is sets = subst (WriteSets object bytes old new) is sets

  pub free_teaches : (object : ℕ) (result : Result Unit FreeFault) (reply : Reply) → reply ≡ free_reply object result → FreeTakes object old new result → Teaches (FreeObject object) reply old new
  free_teaches object result reply said takes = subst (λ r. Teaches (FreeObject object) r old new) (sym said) (by result takes) where
    by : (result : Result Unit FreeFault) → FreeTakes object old new result → Teaches (FreeObject object) (free_reply object result) old new
    by (Ok done) t known knows = record {
      new = learns object None known;
      learns = (allows_some (known object) (pointer_in old object) t.0 (knows object) t.1, refl);
      fits = sets_known object None None (pointer_in old) (pointer_in new) t.2 refl known knows;
    }
    by (Err free.NoObject) t known knows = record {
      new = learns object None known;
      learns = (allows_none (known object) (pointer_in old object) (knows object) t.0, refl);
      fits = still_known old new t.1 (learns object None known) (learns_known (pointer_in old) object None t.0 known knows);
    }

-- ---- a fill

-- the first so many objects were filled
abbrev pub FillsKnown : {R A : Type 0} → (first len seed written : ℕ) → Pool R A → Pool R A → Type 0
FillsKnown first len seed written old new = (known : Known) → KnowsPointers old known → KnowsPointers new (learns_filled (λ o. content_of seed o len) first written known)

module _ {R A : Type 0} (first len seed : ℕ) (old : Pool R A) where
  pub fills_none : FillsKnown first len seed 0 old old
  fills_none known knows = knows

  pub fills_more : (mid new : Pool R A) (written : ℕ) (bytes : List ℕ) (result : Result Unit WriteFault) → bytes ≡ content_of seed (first + written) len → result ≡ Ok tt
      → WriteSets (first + written) bytes mid new result → FillsKnown first len seed written old mid → FillsKnown first len seed (written + 1) old new
  fills_more mid new written bytes result is ok sets fills known knows =
      let s = subst (WriteSets (first + written) bytes mid new) ok sets in
      let fits = subst (FitsPointer s.0) is s.1 in
      let content : ℕ → List ℕ = λ o. content_of seed o len in
      let next : suc written ≡ written + 1 = omega arith in
      subst (λ n. KnowsPointers new (learns_filled content first n known)) next
      (sets_known (first + written) (Some (content_of seed (first + written) len)) (Some s.0) (pointer_in mid) (pointer_in new) s.2 (s.0, refl, fits) (learns_filled content first written known) (fills known knows))

  pub fill_teaches : (new : Pool R A) (written count : ℕ) → written ≡ count → FillsKnown first len seed written old new → Teaches (FillObjects first count len seed) (Filled first count) old new
  fill_teaches new written count all fills known knows = record {
    new = learns_filled (λ o. content_of seed o len) first count known;
    learns = refl;
    fits = subst (λ n. KnowsPointers new (learns_filled (λ o. content_of seed o len) first n known)) all (fills known knows);
  }

  pub fill_stopped_teaches : (mid new : Pool R A) (written count : ℕ) (why : WriteFault) → SamePointers mid new → FillsKnown first len seed written old mid
      → Teaches (FillObjects first count len seed) (FillRefused first written why) old new
  fill_stopped_teaches mid new written count why same fills known knows = record {
    new = learns_filled (λ o. content_of seed o len) first written known;
    learns = refl;
    fits = still_known mid new same (learns_filled (λ o. content_of seed o len) first written known) (fills known knows);
  }
