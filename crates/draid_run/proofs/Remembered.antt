-- What is known of an object stays so while lines spare it.
use Rattle.std.proofs.Common.{◌≡◌, ◌∙◌, ◌<◌, ◌≤◌, ◌+◌, ◌⊎◌, ℕ, zero, suc, Bool, List, [], ◌∷◌, ◌++◌, Option, Some, None, Result, Ok, Err, Vec, Global, arith, refl, sym, ap, subst, inl, inr, cond, nat_eq, length}
use Rattle.std.proofs.lemmas.Bool.{cases_eq}
use Rattle.std.proofs.lemmas.Bool.Decides.{nat_tests}
use Rattle.draid_names.specs.declared.refusal.ObjectFault.{ObjectFault}
use Rattle.draid_names.specs.declared.refusal.ObjectFault.TheVariants as fault
use Rattle.draid_machine.proofs.Small.{equal}
use Rattle.draid_script.specs.Grammar.{line_of}
use Rattle.draid_script.specs.Line.{Command, Silent, CrashPool, ExportPool, WriteObject, FillObjects, ReadObject, FreeObject, SumObjects, RewindPool}
use Rattle.draid_script.specs.declared.fault.LineFault.{LineFault}
use Rattle.draid_names.specs.declared.journal.Entry.{Entry}
use Rattle.draid_reply.specs.declared.reply.Reply.{Reply}
use Rattle.draid_reply.specs.declared.reply.Reply.TheVariants.{Contents, Crashed, Exported, Filled, FillRefused, FreeNoObject, Freed, NoObject, ReadWorn, Summed, SumRefused, Unreadable, Written}
use Rattle.draid_session.specs.Said.{Said, alone}
use Rattle.draid_session.specs.Choices.{Choices}
use Rattle.draid_session.specs.Known.{AllowsBytes, AllowsNone, Known, Learns, MayGiveNone, MayHaveAll, learns, learns_all, learns_filled, learns_lost}
use Rattle.draid_session.specs.Making.{content_of}
use Rattle.draid_session.specs.Reads.{ReadsAs}
use Rattle.draid_session.specs.Replies.{IsReplyTo}
use Rattle.draid_session.specs.Session.{Desk, Finding, Foreign, Runs, Sitting, TurnsBy, sits}
use Rattle.draid_run.specs.Spares.{AllSpare, Spares}
use Rattle.draid_run.proofs.Behind.{KeepsOpen, still_foreign}

-- ---- what is learned

reads_itself : (bytes : List ℕ) → ReadsAs bytes bytes
reads_itself bytes = record { len = refl; digest = refl }

reads_on : (a b c : List ℕ) → ReadsAs a b → ReadsAs b c → ReadsAs a c
reads_on a b c one two = record { len = two.len ∙ one.len; digest = two.digest ∙ one.digest }

learns_own : (object : ℕ) (what : Option (List ℕ)) (known : Known) → learns object what known object ≡ Some what
learns_own object what known = ap (λ b. cond b (Some what) (known object)) (equal object object refl)

other_one : {T : Type 0} (x y : T) (q object : ℕ) → (q ≡ object → ⊥) → cond (nat_eq q object) x y ≡ y
other_one x y q object other = grind (arith, nat_tests, other)

learns_other : (q object : ℕ) (what : Option (List ℕ)) (known : Known) → (q ≡ object → ⊥) → learns q what known object ≡ known object
learns_other q object what known other = other_one (Some what) (known object) q object other

module _ (object : ℕ) (bytes : List ℕ) where
  -- an object is known to have bytes that these read as
  pub record HasKnown (known : Known) : Type 0 where
    pub own : List ℕ
    pub is : known object ≡ Some (Some own)
    pub reads : ReadsAs bytes own

  has_own : (what : List ℕ) (known new : Known) → new ≡ learns object (Some what) known → ReadsAs bytes what → HasKnown new
  has_own what known new learned reads = record { own = what; is = ap (λ (k : Known). k object) learned ∙ learns_own object (Some what) known; reads = reads }

  has_as : (old new : Known) → new object ≡ old object → HasKnown old → HasKnown new
  has_as old new same has = record { own = has.own; is = same ∙ has.is; reads = has.reads }

  has_same : (old new : Known) → new ≡ old → HasKnown old → HasKnown new
  has_same old new same has = has_as old new (ap (λ (k : Known). k object) same) has

  has_other : (q : ℕ) (what : Option (List ℕ)) (old new : Known) → new ≡ learns q what old → (q ≡ object → ⊥) → HasKnown old → HasKnown new
  has_other q what old new learned other has = has_as old new (ap (λ (k : Known). k object) learned ∙ learns_other q object what old other) has

  -- it may be read as these alone
  may_read : (known : Known) (got : List ℕ) → HasKnown known → AllowsBytes (known object) got → ReadsAs bytes got
  may_read known got has may = reads_on bytes has.own got has.reads (subst (λ k. AllowsBytes k got) has.is may)

  may_not_lack : (known : Known) → HasKnown known → AllowsNone (known object) → ⊥
  may_not_lack known has may = subst AllowsNone has.is may

  -- bytes of an object are learned, which it may have
  has_bytes : (q : ℕ) (got : List ℕ) (known old new : Known) → new ≡ learns q (Some got) old → HasKnown known → AllowsBytes (known q) got → HasKnown old → HasKnown new
  has_bytes q got known old new learned first may has = elim (cases_eq q object) [
    | inl same ↦ has_own got old new (learned ∙ ap (λ n. learns n (Some got) old) same) (may_read known got first (subst (λ n. AllowsBytes (known n) got) same may))
    | inr apart ↦ has_other q (Some got) old new learned (λ same. omega (arith, same, apart)) has
  ]

  -- an object is learned to have none
  has_none : (q : ℕ) (known old new : Known) → new ≡ learns q None old → HasKnown known → AllowsNone (known q) → HasKnown old → HasKnown new
  has_none q known old new learned first may has = elim (cases_eq q object) [
    | inl same ↦ absurd (may_not_lack known first (subst (λ n. AllowsNone (known n)) same may))
    | inr apart ↦ has_other q None old new learned (λ same. omega (arith, same, apart)) has
  ]

  has_filled : (content : ℕ → List ℕ) (first n : ℕ) (old : Known) → (object < first) ⊎ (first + n ≤ object) → HasKnown old → HasKnown (learns_filled content first n old)
  has_filled content first zero old apart has = has
  has_filled content first (suc n) old apart has =
      has_other (first + n) (Some (content (first + n))) (learns_filled content first n old) (learns_filled content first (suc n) old) refl (not_there apart) (has_filled content first n old (fewer apart) has)
    where
      not_there : (object < first) ⊎ (first + suc n ≤ object) → first + n ≡ object → ⊥
      not_there (inl below) same = omega (arith, below, same)
      not_there (inr above) same = omega (arith, above, same)

      fewer : (object < first) ⊎ (first + suc n ≤ object) → (object < first) ⊎ (first + n ≤ object)
      fewer (inl below) = inl below
      fewer (inr above) = inr (omega (arith, above))

  has_all : (contents : List (List ℕ)) (first : ℕ) (known : Known) → MayHaveAll known first contents → HasKnown known → HasKnown (learns_all first contents known)
  has_all [] first known may has = has
  has_all (got ∷ more) first known may has =
      has_bytes first got known (learns_all (first + 1) more known) (learns_all first (got ∷ more) known) refl has may.0 (has_all more (first + 1) known may.1 has)

  has_lost : (q : ℕ) (why : ObjectFault) (known old : Known) → MayGiveNone known q why → HasKnown known → HasKnown old → HasKnown (learns_lost q why old)
  has_lost q fault.NoObject known old may first has = has_none q known old (learns q None old) refl first may has
  has_lost q (fault.Unreadable absent tried) known old may first has = has
  has_lost q fault.Worn known old may first has = has
  has_lost q fault.NoMemory known old may first has = has

  -- ---- replies

  -- fewer objects were filled than were asked for
  less : (first written count : ℕ) → written ≤ count → (object < first) ⊎ (first + count ≤ object) → (object < first) ⊎ (first + written ≤ object)
  less first written count few (inl below) = inl below
  less first written count few (inr above) = inr (omega (arith, few, above))

  kept_on : (command : Command) (reply : Reply) (old new : Known) → Spares object (Ok command) → IsReplyTo command reply → Learns command reply old new → HasKnown old → HasKnown new
  kept_on (WriteObject q bs) (Written o) old new spares fits it has = has_other q (Some bs) old new it spares has
  kept_on (WriteObject q bs) reply old new spares fits it has = has_same old new it has
  kept_on (FillObjects first count len seed) (Filled f written) old new spares fits it has = has_same (learns_filled (λ o. content_of seed o len) first count old) new it (has_filled (λ o. content_of seed o len) first count old spares has)
  kept_on (FillObjects first count len seed) (FillRefused f written why) old new spares fits it has =
      has_same (learns_filled (λ o. content_of seed o len) first written old) new it (has_filled (λ o. content_of seed o len) first written old (less first written count (let few = fits.1 in omega (arith, few)) spares) has)
  kept_on (FillObjects first count len seed) reply old new spares fits it has = has_same old new it has
  kept_on (ReadObject q) (Contents o got) old new spares fits it has = has_bytes q got.items old old new it.1 has it.0 has
  kept_on (ReadObject q) (NoObject o) old new spares fits it has = has_none q old old new it.1 has it.0 has
  kept_on (ReadObject q) (Unreadable o absent tried) old new spares fits it has = has_same old new it.1 has
  kept_on (ReadObject q) (ReadWorn o) old new spares fits it has = has_same old new it.1 has
  kept_on (ReadObject q) reply old new spares fits it has = has_same old new it has
  kept_on (FreeObject q) (Freed o) old new spares fits it has = has_other q None old new it.1 spares has
  kept_on (FreeObject q) (FreeNoObject o) old new spares fits it has = has_other q None old new it.1 spares has
  kept_on (FreeObject q) reply old new spares fits it has = has_same old new it has
  kept_on (SumObjects first count) (Summed f c digest) old new spares fits it has = has_same (learns_all first it.contents old) new it.learned (has_all it.contents first old it.may has)
  kept_on (SumObjects first count) (SumRefused q why) old new spares fits it has =
      has_same (learns_lost q why (learns_all first it.contents old)) new it.learned (has_lost q why old (learns_all first it.contents old) it.lost has (has_all it.contents first old it.may has))
  kept_on (SumObjects first count) reply old new spares fits it has = has_same old new it has
  kept_on RewindPool reply old new spares fits it has = absurd spares
  kept_on command reply old new spares fits it has = has_same old new it has

  stays_open : (command : Command) (reply : Reply) → Spares object (Ok command) → IsReplyTo command reply → KeepsOpen reply
  stays_open ExportPool reply spares fits = absurd spares
  stays_open CrashPool reply spares fits = absurd spares
  stays_open command (Exported group) spares fits = absurd fits
  stays_open command Crashed spares fits = absurd fits
  stays_open command reply spares fits = tt

  -- ---- lines

  module _ (choices : Choices) (finds : Finding → Type 0) where
    record StillForeign (desk : Desk) : Type 0 where
      new : Known
      is : desk ≡ Foreign new
      has : HasKnown new

    line_on : (line : Result Command LineFault) (saids : List Said) (old : Known) (mid : Desk) → Spares object line → TurnsBy choices finds line (Foreign old) saids mid → HasKnown old → StillForeign mid
    line_on (Err why) saids old mid spares turns has = absurd turns
    line_on (Ok Silent) [] old mid spares turns has = record { new = old; is = turns; has = has }
    line_on (Ok Silent) (said ∷ more) old mid spares turns has = absurd turns
    line_on (Ok command) [] old mid spares turns has = absurd turns
    line_on (Ok command) (said ∷ other ∷ more) old mid spares turns has = absurd turns
    line_on (Ok command) (said ∷ []) old mid spares turns has =
        let t = turns.1 in
        record {
          new = t.1;
          is = t.3 ∙ sym (still_foreign said.reply t.1 (stays_open command said.reply spares t.0));
          has = kept_on command said.reply old t.1 spares t.0 t.2 has;
        }

    module _ (tells : Bool) (read : List ℕ) (p : ℕ) (got : Vec ℕ Global) (is_read : line_of read ≡ Ok (ReadObject object)) where
      pub read_behind : (lines : List (List ℕ)) (replies : List (List Said)) (old : Known) (at last : Sitting) → at.desk ≡ Foreign old → AllSpare object lines → length replies ≡ length lines
          → Runs choices finds tells at (lines ++ (read ∷ [])) (replies ++ (alone (Contents p got) ∷ [])) last → HasKnown old → ReadsAs bytes got.items
      read_behind [] [] old at last is spare same runs has =
          let here = subst (λ d. TurnsBy choices finds (line_of read) d (alone (Contents p got)) runs.0.desk) is runs.1.0 in
          let turns = subst (λ r. TurnsBy choices finds r (Foreign old) (alone (Contents p got)) runs.0.desk) is_read here in
          may_read old got.items has turns.1.2.0
      read_behind [] (saids ∷ replies) old at last is spare same runs has = absurd (cc same)
      read_behind (line ∷ lines) [] old at last is spare same runs has = absurd (cc same)
      read_behind (line ∷ lines) (saids ∷ replies) old at last is spare same runs has =
          let f = line_on (line_of line) saids old runs.0.desk spare.0 (subst (λ d. TurnsBy choices finds (line_of line) d saids runs.0.desk) is runs.1.0) has in
          read_behind lines replies f.new runs.0 last f.is spare.1 (omega (arith, same)) runs.3 f.has

-- ---- behind a write, and behind a read

module _ (choices : Choices) (finds : Finding → Type 0) (tells : Bool) (lines : List (List ℕ)) (replies : List (List Said)) (object o p : ℕ) (old : Known) (journal : List Entry) (last : Sitting) (spare : AllSpare object lines)
    (same : length replies ≡ length lines) (first read : List ℕ) (got : Vec ℕ Global) (is_read : line_of read ≡ Ok (ReadObject object)) where
  abbrev RunsOn : Reply → Type 0
  RunsOn reply = Runs choices finds tells (sits (Foreign old) journal) (first ∷ (lines ++ (read ∷ []))) (alone reply ∷ (replies ++ (alone (Contents p got) ∷ []))) last

  pub written_read : (bytes : List ℕ) → line_of first ≡ Ok (WriteObject object bytes) → RunsOn (Written o) → ReadsAs bytes got.items
  written_read bytes is runs =
      let turns = (subst (λ r. TurnsBy choices finds r (Foreign old) (alone (Written o)) runs.0.desk) is runs.1.0).1 in
      read_behind object bytes choices finds tells read p got is_read lines replies turns.1 runs.0 last turns.3 spare same runs.3 (has_own object bytes bytes old turns.1 turns.2 (reads_itself bytes))

  pub read_read : (was : Vec ℕ Global) → line_of first ≡ Ok (ReadObject object) → RunsOn (Contents o was) → ReadsAs was.items got.items
  read_read was is runs =
      let turns = (subst (λ r. TurnsBy choices finds r (Foreign old) (alone (Contents o was)) runs.0.desk) is runs.1.0).1 in
      read_behind object was.items choices finds tells read p got is_read lines replies turns.1 runs.0 last turns.3 spare same runs.3 (has_own object was.items was.items old turns.1 turns.2.1 (reads_itself was.items))
