-- No command takes the committed group back: so a book has it whose last group is the committed one.
use Rattle.std.proofs.Common.{◌≡◌, ◌∙◌, ◌+◌, ◌<◌, ◌≤◌, ◌⊎◌, ℕ, true, [], ◌∷◌, All, inl, inr, refl, sym, ap, arith}
use Rattle.std.proofs.lemmas.List.Elements.{All-weaker}
use Rattle.draid_objects.specs.Changes.{group_of, kept, object_of}
use Rattle.draid_objects.proofs.Finding.{kept_all}
use Rattle.draid_script.specs.Line.{Command, SyncPool, ExportPool, TakeOffline, TakeOnline, AttachSpare, ReplaceDisk, DetachArm, RebuildPool, RebalanceSlot, UpgradePool, TakeCheckpoint, DiscardCheckpoint, RewindPool, RunAgent}
use Rattle.draid_reply.specs.declared.reply.Reply.{Reply}
use Rattle.draid_reply.specs.declared.reply.Reply.TheVariants.{Crashed, Exported}
use Rattle.draid_session.specs.Book.{Book, HaveBeen, OpenBreaks}
use Rattle.draid_session.specs.Choices.{Choices}
use Rattle.draid_session.specs.Keeping.{KeepsOpen, bytes_in}
use Rattle.draid_session.specs.Session.{BreaksOpen, CarriesOut, Open, ShelfFails, desk_behind}
use Rattle.draid_session.specs.State.{State, Store}
use Rattle.draid_session.proofs.Changing.{low_two}
use Rattle.draid_session.proofs.Rising.{group_rises}
use Rattle.draid_session.proofs.Saying.{same_or_low}
use Rattle.draid_session.proofs.WithPool.{Next, open_breaks, open_turns}

module _ (x : State) (store : Store) (b : Book) (f : KeepsOpen x store b) where
  -- what a group keeps is what the committed one keeps, or the next, or what there is now
  abbrev pub sharp : Book
  sharp = record {
    is_open = true;
    now = b.now;
    group = x.committed;
    kept = λ o. bytes_in (kept x.committed store.changes o);
    since = b.now ∷ (λ o. bytes_in (kept (x.committed + 1) store.changes o)) ∷ [];
    untold = 1;
  }

  floor_low : store.floor ≤ x.committed + 2
  floor_low = low_two x store.marks store.floor f.floor

  sharp_had : (group : ℕ) → x.committed ≤ group → HaveBeen sharp (λ o. bytes_in (kept group store.changes o))
  sharp_had group from = by (same_or_low x.committed group from)
    where
      all : x.committed + 2 ≤ group → (o : ℕ) → All (λ c. object_of c ≡ o → group_of c ≤ group) store.changes
      all high_ o = (let low = floor_low in All-weaker (λ c. group_of c ≤ store.floor) (λ c. object_of c ≡ o → group_of c ≤ group) (λ c less is. omega (arith, less, low, high_)) store.changes f.groups)

      next : x.committed < group → (x.committed + 1 ≡ group) ⊎ (x.committed + 1 < group)
      next less = same_or_low (x.committed + 1) group (omega (arith, less))

      later : (x.committed + 1 ≡ group) ⊎ (x.committed + 1 < group) → HaveBeen sharp (λ o. bytes_in (kept group store.changes o))
      later (inl is) = inr (inr (inl (λ o. ap (λ n. bytes_in (kept n store.changes o)) (sym is))))
      later (inr less) = inr (inl (λ o. ap bytes_in (kept_all group o store.changes (all (omega (arith, less)) o)) ∙ sym (f.says.now o)))

      by : (x.committed ≡ group) ⊎ (x.committed < group) → HaveBeen sharp (λ o. bytes_in (kept group store.changes o))
      by (inl is) = inl (λ o. ap (λ n. bytes_in (kept n store.changes o)) (sym is))
      by (inr less) = later (next less)

  pub sharp_fit : KeepsOpen x store sharp
  sharp_fit = record {
    is_open = refl;
    says = record { now = f.says.now; keeps = λ same o. refl; had = sharp_had };
    low = omega arith;
    few = omega arith;
    under = λ u. omega arith;
    told = f.told;
    some = f.some;
    steps = f.steps;
    inside = f.inside;
    place = f.place;
    noted = f.noted;
    shows = f.shows;
    groups = f.groups;
    floor = f.floor;
  }

-- ---- commands

module _ (choices : Choices) (old state : State) (b : Book) (fit : KeepsOpen old old.store b) where
  abbrev own : Book
  own = sharp old old.store b fit

  pub carried_later : (command : Command) (reply : Reply) → CarriesOut choices command reply old state → old.committed ≤ state.committed
  carried_later command reply it = by reply (open_turns choices old own (sharp_fit old old.store b fit) command reply (desk_behind reply state) (state, it, refl))
    where
      by : (r : Reply) → Next own command r (desk_behind r state) → old.committed ≤ state.committed
      by (Exported group) n = (let rises = group_rises own n.book command (Exported group) n.answers in let low = n.keeps.low in omega (arith, rises, low))
      by Crashed n = (let rises = group_rises own n.book command Crashed n.answers in let low = n.keeps.low in omega (arith, rises, low))
      by r n = (let rises = group_rises own n.book command r n.answers in let low = n.keeps.low in omega (arith, rises, low))

-- ---- where a device fails

pub breaks_group : (old new : Book) (command : Command) → OpenBreaks old command new → new.group ≡ old.group
breaks_group old new SyncPool d = ap (λ (b : Book). b.group) d
breaks_group old new ExportPool d = ap (λ (b : Book). b.group) d
breaks_group old new (TakeOffline leaf) d = ap (λ (b : Book). b.group) d
breaks_group old new (TakeOnline leaf) d = ap (λ (b : Book). b.group) d
breaks_group old new (AttachSpare slot spare) d = ap (λ (b : Book). b.group) d
breaks_group old new (ReplaceDisk slot sectors) d = ap (λ (b : Book). b.group) d
breaks_group old new (DetachArm arm) d = ap (λ (b : Book). b.group) d
breaks_group old new (RebuildPool limit) d = ap (λ (b : Book). b.group) d.2
breaks_group old new (RebalanceSlot slot) d = ap (λ (b : Book). b.group) d.2
breaks_group old new UpgradePool d = ap (λ (b : Book). b.group) d
breaks_group old new TakeCheckpoint d = ap (λ (b : Book). b.group) d
breaks_group old new DiscardCheckpoint d = ap (λ (b : Book). b.group) d
breaks_group old new RewindPool (inl d) = ap (λ (b : Book). b.group) d
breaks_group old new RewindPool (inr (objects, d)) = ap (λ (b : Book). b.group) d
breaks_group old new (RunAgent least) d = ap (λ (b : Book). b.group) d.2
breaks_group old new command d = absurd d

pub broken_later : (choices : Choices) (old state : State) (b : Book) (fit : KeepsOpen old old.store b) (command : Command) → BreaksOpen command old state → old.committed ≤ state.committed
broken_later choices old state b fit command it =
    let n = open_breaks choices old (sharp old old.store b fit) (sharp_fit old old.store b fit) ShelfFails command (Open state) (state, refl, it) in
    let same = breaks_group (sharp old old.store b fit) n.book command n.breaks in
    let low = n.keeps.low in
    omega (arith, same, low)
