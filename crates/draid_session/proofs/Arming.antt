-- What the commands that change arms do to an open pool and to its book.
use Rattle.std.proofs.Common.{◌≡◌, ◌∙◌, ◌+◌, ℕ, List, [], ◌∷◌, Option, inl, inr, refl, sym, subst, ◌++◌}
use Rattle.draid_names.specs.declared.refusal.SlotFault.{SlotFault}
use Rattle.draid_names.specs.declared.refusal.SlotFault.TheVariants as slot_fault
use Rattle.draid_spec.specs.declared.layout.Geometry.{Geometry}
use Rattle.draid_perm.specs.declared.perms.Perms.{Perms}
use Rattle.draid_machine.specs.declared.names.ArmName.{ArmName}
use Rattle.draid_machine.specs.declared.names.ArmName.TheVariants.{Leaf, Spare}
use Rattle.draid_machine.specs.declared.event.Event.{Event}
use Rattle.draid_machine.specs.declared.event.Event.TheVariants as event
use Rattle.draid_reply.specs.declared.reply.Reply.{Reply}
use Rattle.draid_reply.specs.declared.reply.Reply.TheVariants.{Crashed, Detached, DetachLast, DetachRefused, DetachWorn, Exported, NoMemory, OfflineDone, OfflineRefused, OfflineWorn, OnlineDone, OnlineRefused, OnlineWorn, Replaced, ReplaceRefused, ReplaceWorn, Spared, SpareRefused, SpareWorn}
use Rattle.draid_script.specs.Line.{AttachSpare, Command, DetachArm, ReplaceDisk, TakeOffline, TakeOnline}
use Rattle.draid_script.specs.declared.line.ArmArgument.{ArmArgument}
use Rattle.draid_script.specs.declared.name.CommandName.TheVariants as name
use Rattle.draid_session.specs.Choices.{Choices}
use Rattle.draid_session.specs.Arms as arms
use Rattle.draid_session.specs.Book.{Book, NamesNext, OpenAnswers, doubtful, synced}
use Rattle.draid_session.specs.Does.{Does}
use Rattle.draid_session.specs.Everywhere.{IsOnArms}
use Rattle.draid_session.specs.Follows.{Follows}
use Rattle.draid_session.specs.Groups as groups
use Rattle.draid_session.specs.Holds.{Did, Hold, Looked, LookedUber, MadeLeaf, On, OnUber, RackFailed, Reserved, UberView, View, CallStarved}
use Rattle.draid_session.specs.Keeping.{KeepsOpen}
use Rattle.draid_session.specs.Looks.{AllOf, OnlyLooks}
use Rattle.draid_session.specs.Making.{content_of}
use Rattle.draid_session.specs.Phases.{Broke, Chain, End, Starved, WasLast, WasWorn, Went}
use Rattle.draid_session.specs.State.{State, Store}
use Rattle.draid_session.proofs.Answering.{Books}
use Rattle.draid_session.proofs.Calm.{IsCalm, IsCalmHold, calm_follows, looks_calm}
use Rattle.draid_session.proofs.Changing.{calm_fit, looks_from_calm}
use Rattle.draid_session.proofs.Looked.{follows_split}
use Rattle.draid_session.proofs.Phased.{IsPhase, chain_all, each_all, walk_all}
use Rattle.draid_session.proofs.Syncing.{finishes, fit_doubt, syncs_fit}

-- ---- calm phases

abbrev pub IsCalmPhase : (List Hold → End → Type 0) → Type 0
IsCalmPhase P = IsPhase IsCalmHold P

module _ (geometry : Geometry) (perms : Perms) where
  module _ (need : View → ℕ) where
    reserves_calm : (m : ℕ) (hold : Hold) (none : ℕ) → arms.Reserves geometry perms need m hold none → IsCalmHold hold
    reserves_calm m (On v (Reserved events)) none r = tt
    reserves_calm m hold none r = absurd r

    reserve_stops_calm : (m : ℕ) (hold : Hold) (end : End) → arms.ReserveStops geometry perms need m hold end → IsCalmHold hold
    reserve_stops_calm m (On v Looked) WasWorn s = tt
    reserve_stops_calm m (On v Looked) Starved s = tt
    reserve_stops_calm m hold end s = absurd s

    pub reserve_calm : IsCalmPhase (arms.ReservePhase geometry perms need)
    reserve_calm holds end p =
        walk_all IsCalmHold (arms.Reserves geometry perms need) (arms.ReserveStops geometry perms need) reserves_calm reserve_stops_calm 0 geometry.props.metaslabs holds end 0 p

  module _ (leaf : ℕ) where
    makes_calm : (m : ℕ) (hold : Hold) (none : ℕ) → arms.Makes geometry perms leaf m hold none → IsCalmHold hold
    makes_calm m (On v (MadeLeaf made)) none r = tt
    makes_calm m hold none r = absurd r

    make_stops_calm : (m : ℕ) (hold : Hold) (end : End) → arms.MakeStops geometry perms m hold end → IsCalmHold hold
    make_stops_calm m (On v RackFailed) Broke s = tt
    make_stops_calm m (On v CallStarved) Starved s = tt
    make_stops_calm m hold end s = absurd s

    make_calm : IsCalmPhase (arms.MakePhase geometry perms leaf)
    make_calm holds end p = walk_all IsCalmHold (arms.Makes geometry perms leaf) (arms.MakeStops geometry perms) makes_calm make_stops_calm 0 geometry.props.metaslabs holds end 0 p

  number_calm : (next : ℕ) → IsCalmPhase (arms.Numbers geometry perms next)
  number_calm next holds end p = subst (AllOf IsCalmHold) (sym p.1) (tt, tt)

  module _ (e : Event) (calm : IsCalm e) where
    happens_calm : (m : ℕ) (hold : Hold) → arms.Happens geometry perms e m hold → IsCalmHold hold
    happens_calm m (On v (Did d w)) h = subst IsCalm (sym h.1) calm
    happens_calm m hold h = absurd h

    pub event_calm : IsCalmPhase (arms.EventPhase geometry perms e)
    event_calm holds end p = each_all IsCalmHold (arms.Happens geometry perms e) happens_calm 0 geometry.props.metaslabs holds p.0

    pub switch_calm : (views : List View) (u : UberView) → IsCalmPhase (arms.Switches geometry perms e views u)
    switch_calm views u = chain_all IsCalmHold (arms.ReservePhase geometry perms (arms.one_event geometry perms)) (arms.EventPhase geometry perms e) (reserve_calm (arms.one_event geometry perms)) event_calm

  spare_calm : (slot spare : ℕ) (views : List View) (u : UberView) → IsCalmPhase (arms.AttachesSpare geometry perms slot spare views u)
  spare_calm slot spare views u = chain_all IsCalmHold (arms.ReservePhase geometry perms (arms.attach_events geometry perms)) (arms.EventPhase geometry perms (event.Attach slot (Spare spare)))
      (reserve_calm (arms.attach_events geometry perms)) (event_calm (event.Attach slot (Spare spare)) tt)

  disk_calm : (slot leaf : ℕ) (views : List View) (u : UberView) → IsCalmPhase (arms.AttachesDisk geometry perms slot leaf views u)
  disk_calm slot leaf views u holds end d =
      chain_all IsCalmHold (arms.ReservePhase geometry perms (arms.attach_events geometry perms))
      (Chain (arms.MakePhase geometry perms leaf) (Chain (arms.Numbers geometry perms (leaf + 1)) (arms.EventPhase geometry perms (event.Attach slot (Leaf leaf)))))
      (reserve_calm (arms.attach_events geometry perms))
      (chain_all IsCalmHold (arms.MakePhase geometry perms leaf) (Chain (arms.Numbers geometry perms (leaf + 1)) (arms.EventPhase geometry perms (event.Attach slot (Leaf leaf)))) (make_calm leaf)
      (chain_all IsCalmHold (arms.Numbers geometry perms (leaf + 1)) (arms.EventPhase geometry perms (event.Attach slot (Leaf leaf))) (number_calm (leaf + 1)) (event_calm (event.Attach slot (Leaf leaf)) tt)))
      holds end d.1

  -- ---- a pool and its book

  -- the pool behind what comes first, with the holds that are left
  pub record Begun (rest : List Hold) (z : State) (store : Store) (b : Book) : Type 0 where
    pub y : State
    pub follows : Follows rest y z
    pub layout : y.geometry ≡ geometry
    pub fits : KeepsOpen y store b

  module _ (x z : State) (store : Store) (b : Book) (of : x.geometry ≡ geometry) (fit : KeepsOpen x store b) where
    pub begins_fit : (holds : List Hold) (views : List View) (u : UberView) (rest : List Hold) → arms.Begins geometry perms holds views u rest → Follows holds x z → Begun rest z store b
    begins_fit holds views u rest g follows =
        let one = follows_split g.finish (g.looks ++ OnUber u LookedUber ∷ rest) x z (subst (λ hs. Follows hs x z) g.are follows) in
        let done = finishes geometry perms g.finish Went x one.0 store b g.finishes one.1 of fit in
        let two = follows_split g.looks (OnUber u LookedUber ∷ rest) one.0 z one.2 in
        let calm = calm_follows g.looks one.0 two.0 (looks_from_calm 0 geometry.props.metaslabs g.looks views g.looked) two.1 in
        record {
          y = two.0;
          follows = subst (λ (s : State). Follows rest s z) two.2.1.acts two.2.2;
          layout = calm.geometry ∙ done.layout refl;
          fits = calm_fit one.0 two.0 store b calm done.keeps;
        }

    refused_fit : (Breaks : List View → UberView → SlotFault → Type 0) (why : SlotFault) (holds : List Hold) → arms.Refuses geometry perms Breaks why holds → Follows holds x z → KeepsOpen z store b
    refused_fit Breaks why holds r follows =
        let begun = begins_fit holds r.views r.u [] r.begins follows in
        subst (λ (s : State). KeepsOpen s store b) (sym begun.follows) begun.fits

    comes_fit : (Breaks : List View → UberView → SlotFault → Type 0) (Goes : List View → UberView → List Hold → End → Type 0)
        → ((views : List View) (u : UberView) → IsCalmPhase (Goes views u)) → (holds : List Hold) (end : End)
        → arms.Comes geometry perms Breaks Goes holds end → Follows holds x z → KeepsOpen z store b
    comes_fit Breaks Goes calm holds end (inr f) follows = (finishes geometry perms holds end x z store b f.2 follows of fit).keeps
    comes_fit Breaks Goes calm holds end (inl g) follows =
        let begun = begins_fit holds g.views g.u g.rest g.begins follows in
        calm_fit begun.y z store b (calm_follows g.rest begun.y z (calm g.views g.u g.rest end g.does) begun.follows) begun.fits

    offline_fit : (leaf : ℕ) (holds : List Hold) (end : End) → arms.TakesOffline geometry perms leaf holds end → Follows holds x z → KeepsOpen z store b
    offline_fit leaf holds end c follows =
        comes_fit (arms.NoLeaf geometry perms leaf) (arms.Switches geometry perms (event.Offline leaf)) (switch_calm (event.Offline leaf) tt) holds end c follows

    online_fit : (leaf : ℕ) (holds : List Hold) (end : End) → arms.TakesOnline geometry perms leaf holds end → Follows holds x z → KeepsOpen z store b
    online_fit leaf holds end c follows =
        comes_fit (arms.NoLeaf geometry perms leaf) (arms.Switches geometry perms (event.Online leaf)) (switch_calm (event.Online leaf) tt) holds end c follows

    spare_fit : (slot spare : ℕ) (holds : List Hold) (end : End) → arms.TakesSpare geometry perms slot spare holds end → Follows holds x z → KeepsOpen z store b
    spare_fit slot spare holds end c follows =
        comes_fit (arms.BreaksSpare geometry perms slot spare) (arms.AttachesSpare geometry perms slot spare) (spare_calm slot spare) holds end c follows

    disk_fit : (slot : ℕ) (sectors : Option ℕ) (leaf : ℕ) (holds : List Hold) (end : End) → arms.TakesDisk geometry perms slot sectors leaf holds end → Follows holds x z → KeepsOpen z store b
    disk_fit slot sectors leaf holds end c follows =
        comes_fit (arms.BreaksDisk geometry perms slot sectors) (arms.AttachesDisk geometry perms slot leaf) (disk_calm slot leaf) holds end c follows

  -- a command that ends with a sync
  pub record EndsAsSync (group : ℕ) (end : End) (z : State) (store : Store) (b : Book) : Type 0 where
    pub went : end ≡ Went → NamesNext b group × KeepsOpen z store (synced group b)
    pub stopped : (end ≡ Went → ⊥) → KeepsOpen z store (doubtful b)

  leaves_fit : (arm : ArmName) (group : ℕ) (views : List View) (holds : List Hold) (end : End) (x z : State) (store : Store) (b : Book) → arms.Leaves geometry perms arm group views holds end
      → Follows holds x z → x.geometry ≡ geometry → KeepsOpen x store b → EndsAsSync group end z store b
  leaves_fit arm group views holds end x z store b l follows of fit = by l.goes
    where
      by : Chain (arms.ReservePhase geometry perms (arms.one_event geometry perms)) (Chain (arms.EventPhase geometry perms (event.Detach l.slot arm)) (groups.Syncs geometry perms group l.thin)) holds end
          → EndsAsSync group end z store b
      by (inr w) =
          let calm = calm_follows holds x z (reserve_calm (arms.one_event geometry perms) holds end w.1) follows in
          record { went = λ went. absurd (w.0 went); stopped = λ stopped. fit_doubt z store b (calm_fit x z store b calm fit) }
      by (inl (front, back, are, reserve, inr w)) = record { went = λ went. absurd (w.0 went); stopped = λ stopped. absurd (stopped w.1.1) }
      by (inl (front, back, are, reserve, inl (middle, last, same, comes, syncs))) =
          let one = follows_split front back x z (subst (λ hs. Follows hs x z) are follows) in
          let two = follows_split middle last one.0 z (subst (λ hs. Follows hs one.0 z) same one.2) in
          let a = calm_follows front x one.0 (reserve_calm (arms.one_event geometry perms) front Went reserve) one.1 in
          let b' = calm_follows middle one.0 two.0 (event_calm (event.Detach l.slot arm) tt middle Went comes) two.1 in
          let d = syncs_fit geometry perms group l.thin last end two.0 z store b syncs two.2 (b'.geometry ∙ (a.geometry ∙ of))
          (calm_fit one.0 two.0 store b b' (calm_fit x one.0 store b a fit)) in
          record { went = d.0; stopped = d.1 }

  loses_fit : (arm : ArmName) (group : ℕ) (holds : List Hold) (end : End) (x z : State) (store : Store) (b : Book) → arms.LosesArm geometry perms arm group holds end
      → Follows holds x z → x.geometry ≡ geometry → KeepsOpen x store b → EndsAsSync group end z store b
  loses_fit arm group holds end x z store b (inr f) follows of fit =
      record { went = λ went. absurd (f.0 went); stopped = λ stopped. fit_doubt z store b (finishes geometry perms holds end x z store b f.2 follows of fit).keeps }
  loses_fit arm group holds end x z store b (inl g) follows of fit =
      let begun = begins_fit x z store b of fit holds g.views g.u g.rest g.begins follows in
      leaves_fit arm group g.views g.rest end begun.y z store b g.does begun.follows begun.layout begun.fits

-- ---- commands

module _ (choices : Choices) (old mid : State) (store : Store) (holds : List Hold) (b : Book) (fit : KeepsOpen old old.store b) (follows : Follows holds old mid) where
  abbrev Booked : Command → Reply → Type 0
  Booked command reply = Books choices old mid store holds b fit follows command reply

  abbrev DoesTo : Command → Reply → Type 0
  DoesTo command reply = Does old.geometry old.perms choices content_of command old.store holds reply store

  pub with_book : (command : Command) (reply : Reply) (next : Book) → store ≡ old.store → OpenAnswers b command reply next → KeepsOpen mid old.store next → Booked command reply
  with_book command reply next same answers fits = record { next = next; answers = answers; fits = subst (λ s. KeepsOpen mid s next) (sym same) fits }

  pub looked : OnlyLooks holds → KeepsOpen mid old.store b
  looked looks = calm_fit old mid old.store b (calm_follows holds old mid (looks_calm holds looks) follows) fit

  offline_answers : (leaf : ℕ) (reply : Reply) → DoesTo (TakeOffline leaf) reply → Booked (TakeOffline leaf) reply
  offline_answers leaf (OfflineDone l) d = with_book (TakeOffline leaf) (OfflineDone l) b d.1 (d.0, refl) (offline_fit old.geometry old.perms old mid old.store b refl fit leaf holds Went d.2 follows)
  offline_answers leaf (OfflineRefused l) d =
      with_book (TakeOffline leaf) (OfflineRefused l) b d.1 (d.0, refl) (refused_fit old.geometry old.perms old mid old.store b refl fit (arms.NoLeaf old.geometry old.perms leaf) slot_fault.NoSuch holds d.2 follows)
  offline_answers leaf (OfflineWorn l) d = with_book (TakeOffline leaf) (OfflineWorn l) b d.1 (d.0, refl) (offline_fit old.geometry old.perms old mid old.store b refl fit leaf holds WasWorn d.2 follows)
  offline_answers leaf (NoMemory name.Offline) d = with_book (TakeOffline leaf) (NoMemory name.Offline) b d.0 refl (elim d.1 [
    | inl c ↦ offline_fit old.geometry old.perms old mid old.store b refl fit leaf holds Starved c follows
    | inr looks ↦ looked looks
  ])
  offline_answers leaf reply d = absurd d

  online_answers : (leaf : ℕ) (reply : Reply) → DoesTo (TakeOnline leaf) reply → Booked (TakeOnline leaf) reply
  online_answers leaf (OnlineDone l) d = with_book (TakeOnline leaf) (OnlineDone l) b d.1 (d.0, refl) (online_fit old.geometry old.perms old mid old.store b refl fit leaf holds Went d.2 follows)
  online_answers leaf (OnlineRefused l) d =
      with_book (TakeOnline leaf) (OnlineRefused l) b d.1 (d.0, refl) (refused_fit old.geometry old.perms old mid old.store b refl fit (arms.NoLeaf old.geometry old.perms leaf) slot_fault.NoSuch holds d.2 follows)
  online_answers leaf (OnlineWorn l) d = with_book (TakeOnline leaf) (OnlineWorn l) b d.1 (d.0, refl) (online_fit old.geometry old.perms old mid old.store b refl fit leaf holds WasWorn d.2 follows)
  online_answers leaf (NoMemory name.Online) d = with_book (TakeOnline leaf) (NoMemory name.Online) b d.0 refl (elim d.1 [
    | inl c ↦ online_fit old.geometry old.perms old mid old.store b refl fit leaf holds Starved c follows
    | inr looks ↦ looked looks
  ])
  online_answers leaf reply d = absurd d

  spare_answers : (slot spare : ℕ) (reply : Reply) → DoesTo (AttachSpare slot spare) reply → Booked (AttachSpare slot spare) reply
  spare_answers slot spare (Spared s called) d = with_book (AttachSpare slot spare) (Spared s called) b d.2 (d.0, refl) (spare_fit old.geometry old.perms old mid old.store b refl fit slot spare holds Went d.3 follows)
  spare_answers slot spare (SpareRefused s why) d =
      with_book (AttachSpare slot spare) (SpareRefused s why) b d.1 (d.0, refl) (refused_fit old.geometry old.perms old mid old.store b refl fit (arms.BreaksSpare old.geometry old.perms slot spare) why holds d.2 follows)
  spare_answers slot spare (SpareWorn s) d = with_book (AttachSpare slot spare) (SpareWorn s) b d.1 (d.0, refl) (spare_fit old.geometry old.perms old mid old.store b refl fit slot spare holds WasWorn d.2 follows)
  spare_answers slot spare (NoMemory name.Spare) d = with_book (AttachSpare slot spare) (NoMemory name.Spare) b d.0 refl (elim d.1 [
    | inl c ↦ spare_fit old.geometry old.perms old mid old.store b refl fit slot spare holds Starved c follows
    | inr looks ↦ looked looks
  ])
  spare_answers slot spare reply d = absurd d

  replace_answers : (slot : ℕ) (sectors : Option ℕ) (reply : Reply) → DoesTo (ReplaceDisk slot sectors) reply → Booked (ReplaceDisk slot sectors) reply
  replace_answers slot sectors (Replaced s leaf) d = with_book (ReplaceDisk slot sectors) (Replaced s leaf) b d.1 (d.0, refl) (disk_fit old.geometry old.perms old mid old.store b refl fit slot sectors leaf holds Went d.2 follows)
  replace_answers slot sectors (ReplaceRefused s why) d =
      with_book (ReplaceDisk slot sectors) (ReplaceRefused s why) b d.1 (d.0, refl) (refused_fit old.geometry old.perms old mid old.store b refl fit (arms.BreaksDisk old.geometry old.perms slot sectors) why holds d.2 follows)
  replace_answers slot sectors (ReplaceWorn s) d = with_book (ReplaceDisk slot sectors) (ReplaceWorn s) b d.1 (d.0, refl) (disk_fit old.geometry old.perms old mid old.store b refl fit slot sectors d.2.0 holds WasWorn d.2.1 follows)
  replace_answers slot sectors (NoMemory name.Replace) d = with_book (ReplaceDisk slot sectors) (NoMemory name.Replace) b d.0 refl (elim d.1 [
    | inl c ↦ disk_fit old.geometry old.perms old mid old.store b refl fit slot sectors c.0 holds Starved c.1 follows
    | inr looks ↦ looked looks
  ])
  replace_answers slot sectors reply d = absurd d

  detaches : (arm : ArmArgument) (group : ℕ) (end : End) → arms.LosesArm old.geometry old.perms (arms.arm_of arm) group holds end → EndsAsSync old.geometry old.perms group end mid old.store b
  detaches arm group end l = loses_fit old.geometry old.perms (arms.arm_of arm) group holds end old mid old.store b l follows refl fit

  detach_answers : (arm : ArmArgument) (reply : Reply) → DoesTo (DetachArm arm) reply → Booked (DetachArm arm) reply
  detach_answers arm (Detached a group) d =
      let l = (detaches arm group Went d.2).went refl in with_book (DetachArm arm) (Detached a group) (synced group b) d.1 (d.0, l.0, refl) l.1
  detach_answers arm (DetachRefused a why) d =
      with_book (DetachArm arm) (DetachRefused a why) b d.1 (d.0, refl)
      (refused_fit old.geometry old.perms old mid old.store b refl fit (arms.BreaksDetach old.geometry old.perms (arms.arm_of arm)) why holds d.2 follows)
  detach_answers arm (DetachWorn a) d = with_book (DetachArm arm) (DetachWorn a) (doubtful b) d.1 (d.0, refl) ((detaches arm d.2.0 WasWorn d.2.1).stopped (λ is. absurd (cc)))
  detach_answers arm (DetachLast a) d = with_book (DetachArm arm) (DetachLast a) (doubtful b) d.1 (d.0, refl) ((detaches arm d.2.0 WasLast d.2.1).stopped (λ is. absurd (cc)))
  detach_answers arm (NoMemory name.Detach) d = with_book (DetachArm arm) (NoMemory name.Detach) (doubtful b) d.0 refl (elim d.1 [
    | inl l ↦ (detaches arm l.0 Starved l.1).stopped (λ is. absurd (cc))
    | inr looks ↦ fit_doubt mid old.store b (looked looks)
  ])
  detach_answers arm reply d = absurd d

  pub arms_answer : (command : Command) (reply : Reply) → IsOnArms command → DoesTo command reply → Booked command reply
  arms_answer (TakeOffline leaf) reply is d = offline_answers leaf reply d
  arms_answer (TakeOnline leaf) reply is d = online_answers leaf reply d
  arms_answer (AttachSpare slot spare) reply is d = spare_answers slot spare reply d
  arms_answer (ReplaceDisk slot sectors) reply is d = replace_answers slot sectors reply d
  arms_answer (DetachArm arm) reply is d = detach_answers arm reply d
  arms_answer command reply is d = absurd is

  -- ---- where a device fails

  pub offline_breaks : (leaf : ℕ) → arms.TakesOffline old.geometry old.perms leaf holds Broke → KeepsOpen mid old.store b
  offline_breaks leaf c = offline_fit old.geometry old.perms old mid old.store b refl fit leaf holds Broke c follows

  pub online_breaks : (leaf : ℕ) → arms.TakesOnline old.geometry old.perms leaf holds Broke → KeepsOpen mid old.store b
  online_breaks leaf c = online_fit old.geometry old.perms old mid old.store b refl fit leaf holds Broke c follows

  pub spare_breaks : (slot spare : ℕ) → arms.TakesSpare old.geometry old.perms slot spare holds Broke → KeepsOpen mid old.store b
  spare_breaks slot spare c = spare_fit old.geometry old.perms old mid old.store b refl fit slot spare holds Broke c follows

  pub replace_breaks : (slot : ℕ) (sectors : Option ℕ) (leaf : ℕ) → arms.TakesDisk old.geometry old.perms slot sectors leaf holds Broke → KeepsOpen mid old.store b
  replace_breaks slot sectors leaf c = disk_fit old.geometry old.perms old mid old.store b refl fit slot sectors leaf holds Broke c follows

  pub detach_breaks : (arm : ArmArgument) (group : ℕ) → arms.LosesArm old.geometry old.perms (arms.arm_of arm) group holds Broke → KeepsOpen mid old.store (doubtful b)
  detach_breaks arm group l = (detaches arm group Broke l).stopped (λ is. absurd (cc))

-- a change of arms leaves the pool open
module _ (geometry : Geometry) (perms : Perms) (choices : Choices) (old new : Store) (holds : List Hold) where
  pub arms_not_exported : (command : Command) (group : ℕ) → IsOnArms command → Does geometry perms choices content_of command old holds (Exported group) new → ⊥
  arms_not_exported (TakeOffline leaf) group is does = does
  arms_not_exported (TakeOnline leaf) group is does = does
  arms_not_exported (AttachSpare slot spare) group is does = does
  arms_not_exported (ReplaceDisk slot sectors) group is does = does
  arms_not_exported (DetachArm arm) group is does = does
  arms_not_exported command group is does = is

  pub arms_not_crashed : (command : Command) → IsOnArms command → Does geometry perms choices content_of command old holds Crashed new → ⊥
  arms_not_crashed (TakeOffline leaf) is does = does
  arms_not_crashed (TakeOnline leaf) is does = does
  arms_not_crashed (AttachSpare slot spare) is does = does
  arms_not_crashed (ReplaceDisk slot sectors) is does = does
  arms_not_crashed (DetachArm arm) is does = does
  arms_not_crashed command is does = is
