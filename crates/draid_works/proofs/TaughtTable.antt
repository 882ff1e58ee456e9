-- What replies say of a lane's objects by the table of their pointers.
use Rattle.std.proofs.Common.{◌≡◌, ◌+◌, ℕ, List, [], ◌∷◌, Option, Some, None, Result, Ok, Err, Vec, Global, refl, sym, subst}
use Rattle.draid_names.specs.declared.pointer.Pointer.{Pointer}
use Rattle.draid_names.specs.declared.refusal.ObjectFault.{ObjectFault}
use Rattle.draid_names.specs.declared.refusal.ObjectFault.TheVariants as fault
use Rattle.draid_names.specs.declared.refusal.WriteFault.{WriteFault}
use Rattle.draid_names.specs.declared.refusal.WriteFault.TheVariants as write
use Rattle.draid_script.specs.Line.{FreeObject, ReadObject, SumObjects, WriteObject}
use Rattle.draid_reply.specs.declared.reply.Reply.{Reply}
use Rattle.draid_session.specs.Known.{Known, MayGiveNone, MayHaveAll, learns, learns_all, learns_lost}
use Rattle.draid_pool.specs.Knows.{FitsKnown, KnowsTable}
use Rattle.draid_pool.specs.Pointers.{FitsPointer}
use Rattle.draid_pool.proofs.Taught.{allows_bytes, allows_none, allows_some, learns_known, sets_known}
use Rattle.draid_store.specs.Pointers.{ReadFinds, TriesTake}
use Rattle.draid_store.specs.PointerSums.{FitPointers, StopsFor, SumFinds}
use Rattle.draid_store.specs.Says.{free_reply, read_reply, sum_reply}
use Rattle.draid_store.specs.declared.fault.FreeFault.{FreeFault}
use Rattle.draid_store.specs.declared.fault.FreeFault.TheVariants as free
use Rattle.draid_store.specs.declared.fault.SumFault.{SumFault}
use Rattle.draid_works.specs.Lanes.{TeachesTable}
use Rattle.draid_works.specs.Replied.{write_reply}
use Rattle.draid_works.specs.Waiting.{WriteSetsTable}

-- ---- a read

found_bytes : (o : Option Pointer) (bytes : Vec ℕ Global) → ReadFinds o (Ok bytes) → (p : Pointer) × (o ≡ Some p) × FitsPointer p bytes.items
found_bytes None bytes is = absurd (cc is)
found_bytes (Some p) bytes is = (p, refl, is)

found_none : (o : Option Pointer) → ReadFinds o (Err fault.NoObject) → o ≡ None
found_none None is = refl
found_none (Some p) is = absurd is

found_lost : (o : Option Pointer) (absent tried : ℕ) → ReadFinds o (Err (fault.Unreadable absent tried)) → (p : Pointer) × (o ≡ Some p)
found_lost None absent tried is = absurd (cc is)
found_lost (Some p) absent tried is = (p, refl)

found_worn : (o : Option Pointer) → ReadFinds o (Err fault.Worn) → (p : Pointer) × (o ≡ Some p)
found_worn None is = absurd (cc is)
found_worn (Some p) is = (p, refl)

module _ (table now : ℕ → Option Pointer) (same : (object : ℕ) → now object ≡ table object) where
  -- the table as it was has what was learned
  stays : (known : Known) → KnowsTable table known → KnowsTable now known
  stays known knows = λ o. subst (FitsKnown (known o)) (sym (same o)) (knows o)

  pub table_read : (object : ℕ) (result : Result (Vec ℕ Global) ObjectFault) (reply : Reply) → reply ≡ read_reply object result → ReadFinds (table object) result → TeachesTable (ReadObject object) reply table now
  table_read object result reply said finds = subst (λ r. TeachesTable (ReadObject object) r table now) (sym said) (by result finds) where
    by : (result : Result (Vec ℕ Global) ObjectFault) → ReadFinds (table object) result → TeachesTable (ReadObject object) (read_reply object result) table now
    by (Ok bytes) finds known knows =
        let f = found_bytes (table object) bytes finds in
        record {
          new = learns object (Some bytes.items) known;
          learns = (allows_bytes (known object) (table object) f.0 bytes.items (knows object) f.1 f.2, refl);
          fits = stays (learns object (Some bytes.items) known) (learns_known table object (Some bytes.items) f known knows);
        }
    by (Err fault.NoObject) finds known knows =
        let none = found_none (table object) finds in
        record {
          new = learns object None known;
          learns = (allows_none (known object) (table object) (knows object) none, refl);
          fits = stays (learns object None known) (learns_known table object None none known knows);
        }
    by (Err (fault.Unreadable absent tried)) finds known knows =
        let f = found_lost (table object) absent tried finds in
        record { new = known; learns = (allows_some (known object) (table object) f.0 (knows object) f.1, refl); fits = stays known knows }
    by (Err fault.Worn) finds known knows =
        let f = found_worn (table object) finds in
        record { new = known; learns = (allows_some (known object) (table object) f.0 (knows object) f.1, refl); fits = stays known knows }
    by (Err fault.NoMemory) finds known knows = record { new = known; learns = refl; fits = stays known knows }

  -- ---- a sum

  all_allow : (contents : List (List ℕ)) (first : ℕ) → FitPointers table first contents → (known : Known) → KnowsTable table known → MayHaveAll known first contents
  all_allow [] first fit known knows = tt
  all_allow (bytes ∷ more) first fit known knows = (allows_bytes (known first) (table first) fit.0.0 bytes (knows first) fit.0.1 fit.0.2, all_allow more (first + 1) fit.1 known knows)

  all_known : (contents : List (List ℕ)) (first : ℕ) → FitPointers table first contents → (known : Known) → KnowsTable table known → KnowsTable table (learns_all first contents known)
  all_known [] first fit known knows = knows
  all_known (bytes ∷ more) first fit known knows = learns_known table first (Some bytes) fit.0 (learns_all (first + 1) more known) (all_known more (first + 1) fit.1 known knows)

  gives_none : (known : Known) (object : ℕ) (o : Option Pointer) (why : ObjectFault) → FitsKnown (known object) o → StopsFor o why → MayGiveNone known object why
  gives_none known object None fault.NoObject knows stops = allows_none (known object) None knows refl
  gives_none known object None (fault.Unreadable absent tried) knows stops = absurd (cc stops)
  gives_none known object None fault.Worn knows stops = absurd (cc stops)
  gives_none known object None fault.NoMemory knows stops = tt
  gives_none known object (Some p) fault.NoObject knows stops = absurd stops
  gives_none known object (Some p) (fault.Unreadable absent tried) knows stops = allows_some (known object) (Some p) p knows refl
  gives_none known object (Some p) fault.Worn knows stops = allows_some (known object) (Some p) p knows refl
  gives_none known object (Some p) fault.NoMemory knows stops = tt

  stops_none : (o : Option Pointer) → StopsFor o fault.NoObject → o ≡ None
  stops_none None stops = refl
  stops_none (Some p) stops = absurd stops

  lost_known : (object : ℕ) (why : ObjectFault) → StopsFor (table object) why → (known : Known) → KnowsTable table known → KnowsTable table (learns_lost object why known)
  lost_known object fault.NoObject stops known knows = learns_known table object None (stops_none (table object) stops) known knows
  lost_known object (fault.Unreadable absent tried) stops known knows = knows
  lost_known object fault.Worn stops known knows = knows
  lost_known object fault.NoMemory stops known knows = knows

  pub table_sum : (first count : ℕ) (result : Result (List ℕ) SumFault) (reply : Reply) → reply ≡ sum_reply first count result → SumFinds table first count result → TeachesTable (SumObjects first count) reply table now
  table_sum first count result reply said finds = subst (λ r. TeachesTable (SumObjects first count) r table now) (sym said) (by result finds) where
    by : (result : Result (List ℕ) SumFault) → SumFinds table first count result → TeachesTable (SumObjects first count) (sum_reply first count result) table now
    by (Ok digest) s known knows = record {
      new = learns_all first s.contents known;
      learns = record { contents = s.contents; many = s.many; may = all_allow s.contents first s.fit known knows; is = s.is; learned = refl };
      fits = stays (learns_all first s.contents known) (all_known s.contents first s.fit known knows);
    }
    by (Err lost) s known knows =
        let after = learns_all first s.contents known in
        record {
          new = learns_lost lost.object lost.why after;
          learns = record {
            contents = s.contents;
            within = s.within;
            object_is = s.object_is;
            may = all_allow s.contents first s.fit known knows;
            lost = gives_none known lost.object (table lost.object) lost.why (knows lost.object) s.stops;
            learned = refl;
          };
          fits = stays (learns_lost lost.object lost.why after) (lost_known lost.object lost.why s.stops after (all_known s.contents first s.fit known knows));
        }

-- ---- a write, and a freeing

module _ (table now : ℕ → Option Pointer) where
  pub table_write : (object : ℕ) (bytes : List ℕ) (result : Result Unit WriteFault) (reply : Reply) → reply ≡ write_reply object result → WriteSetsTable object bytes table now result → TeachesTable (WriteObject object bytes) reply table now
  table_write object bytes result reply said sets = subst (λ r. TeachesTable (WriteObject object bytes) r table now) (sym said) (by result sets) where
    by : (result : Result Unit WriteFault) → WriteSetsTable object bytes table now result → TeachesTable (WriteObject object bytes) (write_reply object result) table now
    by (Ok done) s known knows = record { new = learns object (Some bytes) known; learns = refl; fits = sets_known object (Some bytes) (Some s.0) table now s.2 (s.0, refl, s.1) known knows }
    by (Err (write.NoSpace run disabled full worn)) s known knows = record { new = known; learns = refl; fits = stays table now s known knows }
    by (Err (write.Missed columns)) s known knows = record { new = known; learns = refl; fits = stays table now s known knows }
    by (Err write.Last) s known knows = record { new = known; learns = refl; fits = stays table now s known knows }
    by (Err write.NoMemory) s known knows = record { new = known; learns = refl; fits = stays table now s known knows }

  pub table_free : (object : ℕ) (result : Result Unit FreeFault) (reply : Reply) → reply ≡ free_reply object result → TriesTake object table now (Some result) → TeachesTable (FreeObject object) reply table now
  table_free object result reply said takes = subst (λ r. TeachesTable (FreeObject object) r table now) (sym said) (by result takes) where
    by : (result : Result Unit FreeFault) → TriesTake object table now (Some result) → TeachesTable (FreeObject object) (free_reply object result) table now
    by (Ok done) t known knows = record {
      new = learns object None known;
      learns = (allows_some (known object) (table object) t.0 (knows object) t.1, refl);
      fits = sets_known object None None table now t.2 refl known knows;
    }
    by (Err free.NoObject) t known knows = record {
      new = learns object None known;
      learns = (allows_none (known object) (table object) (knows object) t.0, refl);
      fits = stays table now t.1 (learns object None known) (learns_known table object None t.0 known knows);
    }
