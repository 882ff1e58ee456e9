-- What follows of a book, whatever the session is.
use Rattle.std.proofs.Common.{◌≡◌, ◌∙◌, ℕ, true, false, List, Option, Some, None, String, Vec, Global, inl, inr, refl, sym, ap, subst, if◌then◌else◌, arith}
use Rattle.draid_machine.proofs.Small.{equal, none_some, some_injective}
use Rattle.draid_script.specs.Line.{Command, CrashPool, FreeObject, ImportPool, ReadObject, SyncPool, WriteObject}
use Rattle.draid_reply.specs.declared.reply.Reply.{Reply}
use Rattle.draid_reply.specs.declared.reply.Reply.TheVariants.{Contents, Crashed, Freed, Imported, Synced, Written}
use Rattle.draid_session.specs.Book.{Answers, AnswersBy, Book, HaveBeen, MayBeFound, Objects, OpenAnswers, ShutAnswers, TakesUp, with_object}
use Rattle.draid_session.specs.Reads.{ReadsAs}

pub in_open : (old new : Book) (command : Command) (reply : Reply) → old.is_open ≡ true → Answers old command reply new → OpenAnswers old command reply new
in_open old new command reply is answers = subst (λ b. AnswersBy b old command reply new) is answers

in_shut : (old new : Book) (command : Command) (reply : Reply) → old.is_open ≡ false → Answers old command reply new → ShutAnswers old command reply new
in_shut old new command reply is answers = subst (λ b. AnswersBy b old command reply new) is answers

-- the object that was changed
own_object : (object : ℕ) (bytes : Option (List ℕ)) (objects : Objects) → with_object object bytes objects object ≡ bytes
own_object object bytes objects = ap (λ b. if b then bytes else objects object) (equal object object refl)

pub written_read : (object o p : ℕ) (bytes : List ℕ) (read : Vec ℕ Global) (old mid new : Book) → old.is_open ≡ true
    → Answers old (WriteObject object bytes) (Written o) mid → Answers mid (ReadObject object) (Contents p read) new → ReadsAs bytes read.items
written_read object o p bytes read old mid new is wrote reads =
    let w = in_open old mid (WriteObject object bytes) (Written o) is wrote in
    let r = in_open mid new (ReadObject object) (Contents p read) (ap (λ (b : Book). b.is_open) w.1 ∙ is) reads in
    let own = sym r.1.1 ∙ (ap (λ (b : Book). b.now object) w.1 ∙ own_object object (Some bytes) old.now) in
    subst (λ bs. ReadsAs bs read.items) (some_injective r.1.0 bytes own) r.1.2

pub freed_not_read : (object o p : ℕ) (read : Vec ℕ Global) (old mid new : Book) → old.is_open ≡ true
    → Answers old (FreeObject object) (Freed o) mid → Answers mid (ReadObject object) (Contents p read) new → ⊥
freed_not_read object o p read old mid new is freed reads =
    let f = in_open old mid (FreeObject object) (Freed o) is freed in
    let r = in_open mid new (ReadObject object) (Contents p read) (ap (λ (b : Book). b.is_open) f.2 ∙ is) reads in
    none_some (mid.now object) r.1.0 (ap (λ (b : Book). b.now object) f.2 ∙ own_object object None old.now) r.1.1

-- where no group was refused, just the last one that a reply named is found
sure_found : (old : Book) (group : ℕ) (objects : Objects) → old.untold ≡ 0 → MayBeFound old group objects → (group ≡ old.group) × ((object : ℕ) → objects object ≡ old.kept object)
sure_found old group objects none (inl last) = last
sure_found old group objects none (inr later) = absurd (let low = later.0 in let few = later.1 in omega (arith, none, low, few))

pub synced_found : (group thin found many : ℕ) (called : String Global) (old mid left new : Book) → old.is_open ≡ true
    → Answers old SyncPool (Synced group thin) mid → Answers mid CrashPool Crashed left → Answers left ImportPool (Imported called found many) new
    → (found ≡ group) × ((object : ℕ) → new.now object ≡ old.now object)
synced_found group thin found many called old mid left new is synced crashed imported =
    let s = in_open old mid SyncPool (Synced group thin) is synced in
    let c = in_open mid left CrashPool Crashed (ap (λ (b : Book). b.is_open) s.1 ∙ is) crashed in
    let t : TakesUp left found many new = in_shut left new ImportPool (Imported called found many) (ap (λ (b : Book). b.is_open) c) imported in
    let last = sure_found left found t.objects (ap (λ (b : Book). b.untold) c ∙ ap (λ (b : Book). b.untold) s.1) t.may in (
      last.0 ∙ (ap (λ (b : Book). b.group) c ∙ ap (λ (b : Book). b.group) s.1),
      λ object. ap (λ (b : Book). b.now object) t.made ∙ (last.1 object ∙ (ap (λ (b : Book). b.kept object) c ∙ ap (λ (b : Book). b.kept object) s.1)),
    )

pub imported_had : (found many : ℕ) (called : String Global) (old new : Book) → old.is_open ≡ false → Answers old ImportPool (Imported called found many) new → HaveBeen old new.now
imported_had found many called old new is imported =
    let t : TakesUp old found many new = in_shut old new ImportPool (Imported called found many) is imported in
    subst (HaveBeen old) (sym (ap (λ (b : Book). b.now) t.made)) (by t.objects t.may)
  where
    by : (objects : Objects) → MayBeFound old found objects → HaveBeen old objects
    by objects (inl last) = inl last.1
    by objects (inr later) = later.2
