-- Behind a reply that names a group all marks are of groups up to the committed one.
use Rattle.std.proofs.Common.{◌≡◌, ◌∙◌, ◌+◌, ◌<◌, ◌≤◌, ◌⊎◌, ℕ, Bool, true, false, nat_le, List, [], ◌∷◌, All, inl, inr, refl, sym, ap, subst, arith}
use Rattle.std.specs.Prelude.{Contains, max}
use Rattle.std.proofs.lemmas.List.Elements.{All-cons, All-contains, All-nil}
use Rattle.draid_machine.proofs.Small.{bool_cases, is_low, none_some}
use Rattle.draid_objects.specs.Changes.{Write, Wrote, group_of, kept, object_of, write_of}
use Rattle.draid_objects.specs.Marks.{Mark, mark_group}
use Rattle.draid_objects.proofs.Finding.{kept_all, kept_later}
use Rattle.draid_script.specs.Line.{Command}
use Rattle.draid_reply.specs.declared.reply.Reply.{Reply}
use Rattle.draid_session.specs.Book.{Book, HaveBeen, OpenAnswers, WereSo, no_objects}
use Rattle.draid_session.specs.Choices.{Choices}
use Rattle.draid_session.specs.Does.{Does}
use Rattle.draid_session.specs.Follows.{Follows, Holds}
use Rattle.draid_session.specs.Holds.{AsksVersion, CommitFailed, CommitStarved, Committed, Hold, LookedUber, NextLeaf, On, OnUber}
use Rattle.draid_session.specs.Keeping.{HasLowFloor, Keeps, KeepsOpen, bytes_in}
use Rattle.draid_session.specs.Making.{content_of}
use Rattle.draid_session.specs.Points.{HasLateMark}
use Rattle.draid_session.specs.Session.{CarriesOut, desk_behind}
use Rattle.draid_session.specs.State.{State, Store}
use Rattle.draid_session.proofs.Calm.{calm_store}
use Rattle.draid_session.proofs.Changing.{calm_fit}
use Rattle.draid_session.proofs.Saying.{high, not_low}
use Rattle.draid_session.proofs.WithPool.{open_turns}
use Rattle.draid_marked.proofs.Marking.{contains_head, contains_tail}

-- ---- the same holds, whatever a thread has of its own

abbrev with_store : Store → State → State
with_store s x = record x { store = s }

hold_with : (s : Store) (hold : Hold) (x z : State) → Holds hold x z → Holds hold (with_store s x) (with_store s z)
hold_with s (On v act) x z it = record { before = it.before; after = it.after; there = it.there; sees = it.sees; acts = it.acts; made = ap (with_store s) it.made }
hold_with s (OnUber u LookedUber) x z it = record { sees = it.sees; acts = ap (with_store s) it.acts }
hold_with s (OnUber u (Committed group)) x z it = record { sees = it.sees; acts = (it.acts.0, it.acts.1, ap (with_store s) it.acts.2) }
hold_with s (OnUber u (CommitFailed group)) x z it = record { sees = it.sees; acts = (it.acts.0, it.acts.1, ap (with_store s) it.acts.2) }
hold_with s (OnUber u (CommitStarved group)) x z it = record { sees = it.sees; acts = (it.acts.0, it.acts.1, ap (with_store s) it.acts.2) }
hold_with s (OnUber u (NextLeaf next)) x z it = record { sees = it.sees; acts = ap (with_store s) it.acts }
hold_with s (OnUber u (AsksVersion version)) x z it = record { sees = it.sees; acts = ap (with_store s) it.acts }

follows_with : (s : Store) (holds : List Hold) (x z : State) → Follows holds x z → Follows holds (with_store s x) (with_store s z)
follows_with s [] x z follows = ap (with_store s) follows
follows_with s (hold ∷ holds) x z (mid, one, rest) = (with_store s mid, hold_with s hold x mid one, follows_with s holds mid z rest)

-- ---- a thread that has written one block, in a group behind the committed one

module _ (x : State) (store : Store) (b : Book) (f : KeepsOpen x store b) (late : ℕ) (above : x.committed < late) (within : late ≤ max store.floor (x.committed + 1)) (shows : HasLateMark x.committed store.marks) where
  abbrev write : Write
  write = record { object = 0; seq = 0; metaslab = 0; birth = late; bytes = [] }

  abbrev pub other : Store
  other = record { changes = Wrote write ∷ []; marks = store.marks; seq = store.seq; floor = max store.floor (x.committed + 1) }

  abbrev pub told : Book
  told = record { is_open = true; now = λ o. bytes_in (write_of other.changes o); group = b.group; kept = no_objects; since = (λ o. bytes_in (write_of other.changes o)) ∷ no_objects ∷ []; untold = b.untold }

  had : (t : ℕ) → (z : Bool) → nat_le late t ≡ z → HaveBeen told (λ o. bytes_in (kept t other.changes o))
  had t true is = inr (inl (λ o. ap bytes_in (kept_all t o other.changes (All-cons (λ c. object_of c ≡ o → group_of c ≤ t) (Wrote write) [] (λ same. is_low late t is) (All-nil (λ c. object_of c ≡ o → group_of c ≤ t))))))
  had t false is = inl (λ o. ap bytes_in (kept_later t (Wrote write) [] o is))

  low : HasLowFloor x store.marks store.floor → HasLowFloor x other.marks other.floor
  low (inl (inl l)) = inl (inl (omega (arith, l)))
  low (inl (inr (l, ahead))) = inl (inr (omega (arith, l), ahead))
  low (inr d) = inr (record { low = (let l = d.low in omega (arith, l)); closes = d.closes; late = d.late; stands = d.stands })

  other_fit : KeepsOpen x other told
  other_fit = record {
    is_open = refl;
    says = record { now = λ o. refl; keeps = λ same o. sym (ap bytes_in (kept_later x.committed (Wrote write) [] o (not_low late x.committed above))); had = λ t from. had t (nat_le late t) refl };
    low = f.low;
    few = f.few;
    under = f.under;
    told = f.told;
    some = f.some;
    steps = f.steps;
    inside = f.inside;
    place = f.place;
    noted = f.noted;
    shows = inr (inr shows);
    groups = All-cons (λ c. group_of c ≤ other.floor) (Wrote write) [] within (All-nil (λ c. group_of c ≤ other.floor));
    floor = low f.floor;
  }

  pub told_fit : KeepsOpen (with_store other x) other told
  told_fit = calm_fit x (with_store other x) other told (calm_store x other) other_fit

  -- a group that keeps all as it is now has that write
  pub has_write : (committed : ℕ) (n : Book) → n.since ≡ [] → ((o : ℕ) → n.kept o ≡ told.now o) → HaveBeen n (λ o. bytes_in (kept committed other.changes o)) → late ≤ committed
  has_write committed n none keeps been = elim (bool_cases (nat_le late committed)) [ inl is ↦ is_low late committed is | inr young ↦ absurd (by young been) ]
    where
      by : nat_le late committed ≡ false → HaveBeen n (λ o. bytes_in (kept committed other.changes o)) → ⊥
      by young (inl is) = none_some (bytes_in (kept committed other.changes 0)) [] (ap bytes_in (kept_later committed (Wrote write) [] 0 young)) (is 0 ∙ keeps 0)
      by young (inr so) = subst (λ ss. WereSo ss (λ o. bytes_in (kept committed other.changes o))) none so

-- ---- all marks

all_from : (Q : Mark → Type 0) (marks : List Mark) → ((mark : Mark) → Contains marks mark → Q mark) → All Q marks
all_from Q [] each = All-nil Q
all_from Q (mark ∷ marks) each = All-cons Q mark marks (each mark (contains_head mark marks)) (all_from Q marks (λ n there. each n (contains_tail mark marks n there)))

module _ (choices : Choices) (old state : State) (b : Book) (fit : KeepsOpen old old.store b) (command : Command) (reply : Reply) (it : CarriesOut choices command reply old state)
    (later : old.committed ≤ state.committed) (low : All (λ mark. mark_group mark ≤ max old.store.floor (old.committed + 1)) old.store.marks)
    (does : (s : Store) → s.marks ≡ old.store.marks → Does old.geometry old.perms choices content_of command s it.holds reply s)
    (named : (c n : Book) → OpenAnswers c command reply n → (n.since ≡ []) × ((o : ℕ) → n.kept o ≡ c.now o))
    (kept_by : (z : State) (n : Book) → Keeps (desk_behind reply z) n → HaveBeen n (λ o. bytes_in (kept z.committed z.store.changes o))) where
  late_low : (late : ℕ) → old.committed < late → late ≤ max old.store.floor (old.committed + 1) → HasLateMark old.committed old.store.marks → late ≤ state.committed
  late_low late above within shows =
      let s = other old old.store b fit late above within shows in
      let c = told old old.store b fit late above within shows in
      let z = with_store s it.mid in
      let other_it : CarriesOut choices command reply (with_store s old) z = record { holds = it.holds; mid = z; store = s; follows = follows_with s it.holds old it.mid it.follows; does = does s refl; made = refl } in
      let n = open_turns choices (with_store s old) c (told_fit old old.store b fit late above within shows) command reply (desk_behind reply z) (z, other_it, refl) in
      let answers = named c n.book n.answers in
      let same = ap (λ (x : State). x.committed) it.made in
      let reached = has_write old old.store b fit late above within shows it.mid.committed n.book answers.0 answers.1 (kept_by z n.book n.keeps) in
      omega (arith, same, reached)

  pub covers : All (λ mark. mark_group mark ≤ state.committed) old.store.marks
  covers = all_from (λ mark. mark_group mark ≤ state.committed) old.store.marks (λ mark there. by mark there (bool_cases (nat_le (mark_group mark) old.committed)))
    where
      by : (mark : Mark) → Contains old.store.marks mark → (nat_le (mark_group mark) old.committed ≡ true) ⊎ (nat_le (mark_group mark) old.committed ≡ false) → mark_group mark ≤ state.committed
      by mark there (inl early) = (let less = is_low (mark_group mark) old.committed early in omega (arith, less, later))
      by mark there (inr young) =
          let above = high (mark_group mark) old.committed young in
          late_low (mark_group mark) above (All-contains (λ m. mark_group m ≤ max old.store.floor (old.committed + 1)) old.store.marks mark low there) (record { mark = mark; there = there; late = above })
