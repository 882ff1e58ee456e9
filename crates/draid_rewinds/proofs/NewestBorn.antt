-- The live blocks that were born up to a group, as they are noted.
use Rattle.std.proofs.Common.{arith, ◌≡◌, ◌+◌, ◌<◌, ◌≤◌, ◌∙◌, ◌⊎◌, inl, inr, ℕ, List, Option, Some, None, sym, ap, subst, length}
use Rattle.std.specs.Prelude.{slice_get}
use Rattle.std.proofs.lemmas.Bool.{cases_eq, cases_lt}
use Rattle.std.proofs.lemmas.Option.{slice_get_within}
use Rattle.draid_names.specs.declared.pointer.Pointer.{Pointer}
use Rattle.draid_rack.specs.declared.Rack as racks
use Rattle.draid_machine.specs.declared.names.Stage.TheVariants.{Live}
use Rattle.draid_entries.specs.Entries.{entry_at}
use Rattle.draid_entries.specs.Maps.{staged}
use Rattle.draid_shard.specs.Looks.{IsNextHeld}
use Rattle.draid_shard.specs.declared.shard.Shard.{Shard}
use Rattle.draid_found.specs.Found.{Grows, KeepsNewer, Reaches}
use Rattle.draid_found.proofs.Noted.{below_next, reaches_more}
use Rattle.draid_pool.proofs.Lists.{some_of}
use Rattle.draid_rewinds.specs.Tables.{AreNewestBorn, IsBorn, NotesBorn, NotesBornIn}

-- ---- one block

pub grows_same : (table : ℕ → Option Pointer) → Grows table table
grows_same table object p there = (p, there, omega arith)

-- it isn't live, or was born later
pub born_not : {R A : Type 0} (shard : Shard R A) (group : ℕ) (p : Pointer) (table : ℕ → Option Pointer) → (IsBorn shard group p → ⊥) → NotesBorn shard group p table table
born_not shard group p table not = record { newest = λ object q there. inl there; known = λ born. absurd (not born); grows = grows_same table }

pub born_kept : {R A : Type 0} (shard : Shard R A) (group : ℕ) (p : Pointer) (old new : ℕ → Option Pointer) → IsBorn shard group p → KeepsNewer p old new → NotesBorn shard group p old new
born_kept shard group p old new born keeps = record {
  newest = λ object q there. elim (keeps.newest object q there) [
    | inl was ↦ inl was
    | inr is ↦ inr (ap (λ (z : Pointer). z.object) is.1 ∙ is.0, is.1, subst (IsBorn shard group) (sym is.1) born)
  ];
  known = λ own. keeps.known;
  grows = keeps.grows;
}

-- ---- one metaslab

module _ {R A : Type 0} (rack : racks.Ghosts R) (shard : Shard R A) (group : ℕ) where
  -- the blocks below a stripe were looked at
  pub record NotingBorn (from : ℕ) (old new : ℕ → Option Pointer) : Type 0 where
    pub newest : (object : ℕ) (p : Pointer) → new object ≡ Some p → (old object ≡ Some p) ⊎ ((p.object ≡ object) × IsBorn shard group p)
    pub known : (p : Pointer) → p.first < from → IsBorn shard group p → Reaches new p.object p.seq
    pub grows : Grows old new

  pub noting_none : (table : ℕ → Option Pointer) → NotingBorn 0 table table
  noting_none table = record { newest = λ object p there. inl there; known = λ p below born. absurd (omega (arith, below)); grows = grows_same table }

  pub noting_more : (from : ℕ) (p : Pointer) (old mid new : ℕ → Option Pointer) → IsNextHeld shard from p → NotingBorn from old mid → NotesBorn shard group p mid new → NotingBorn (p.first + 1) old new
  noting_more from p old mid new next n one = record {
    newest = λ object q there. elim (one.newest object q there) [
      | inl was ↦ n.newest object q was
      | inr is ↦ inr (is.0, is.2)
    ];
    known = λ q below born. elim (below_next rack shard from q.first (staged Live q) p next born.live below) [
      | inl low ↦ reaches_more mid new q.object q.seq one.grows (n.known q low born)
      | inr same ↦ subst (λ (z : Pointer). Reaches new z.object z.seq) (sym same) (one.known (subst (IsBorn shard group) same born))
    ];
    grows = λ object q there. reaches_more mid new object q.seq one.grows (n.grows object q there);
  }

  pub noting_all : (from : ℕ) (old new : ℕ → Option Pointer) → ((first : ℕ) → from ≤ first → entry_at shard.entries first ≡ None) → NotingBorn from old new → NotesBornIn shard group old new
  noting_all from old new none n = record {
    newest = n.newest;
    known = λ p born. elim (cases_lt p.first from) [
      | inl below ↦ n.known p below born
      | inr past ↦ (let empty = none p.first past in let live = born.live in absurd (cc))
    ];
    grows = n.grows;
  }

-- ---- all metaslabs

module _ {R A : Type 0} (shards : List (Shard R A)) (group : ℕ) where
  -- those below a number were looked through
  pub record FindingBorn (n : ℕ) (newest : ℕ → Option Pointer) : Type 0 where
    pub pointers : (object : ℕ) (p : Pointer) → newest object ≡ Some p → (p.object ≡ object) × ((m : ℕ) × (shard : Shard R A) × (slice_get shards m ≡ Some shard) × IsBorn shard group p)
    pub known : (m : ℕ) (shard : Shard R A) (p : Pointer) → m < n → slice_get shards m ≡ Some shard → IsBorn shard group p → Reaches newest p.object p.seq

  pub finding_none : (newest : ℕ → Option Pointer) → ((object : ℕ) → newest object ≡ None) → FindingBorn 0 newest
  finding_none newest none = record {
    pointers = λ object p there. (let empty = none object in absurd (cc));
    known = λ m shard p below there born. absurd (omega (arith, below));
  }

  pub finding_next : (n : ℕ) (shard : Shard R A) (old new : ℕ → Option Pointer) → slice_get shards n ≡ Some shard → FindingBorn n old → NotesBornIn shard group old new → FindingBorn (n + 1) new
  finding_next n shard old new there f notes = record {
    pointers = λ object p is. elim (notes.newest object p is) [
      | inl was ↦ f.pointers object p was
      | inr own ↦ (own.0, (n, shard, there, own.1))
    ];
    known = λ m s p below at born. elim (cases_eq m n) [
      | inl same ↦
          let is : s ≡ shard = some_of (slice_get shards n) s shard (subst (λ (k : ℕ). slice_get shards k ≡ Some s) same at) there in
          notes.known p (subst (λ (z : Shard R A). IsBorn z group p) is born)
      | inr other ↦ reaches_more old new p.object p.seq notes.grows (f.known m s p (omega (arith, below, other)) at born)
    ];
  }

  pub finding_all : (n : ℕ) (newest : ℕ → Option Pointer) → length shards ≤ n → FindingBorn n newest → AreNewestBorn shards group newest
  finding_all n newest all f = record {
    pointers = f.pointers;
    known = λ m shard p there born. (let within = slice_get_within shards m shard there in f.known m shard p (omega (arith, within, all)) there born);
  }
