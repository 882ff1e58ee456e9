-- What the repair agent does to an open pool and to its book.
use Rattle.std.proofs.Common.{◌≡◌, ◌∙◌, ◌++◌, ℕ, List, [], ◌∷◌, Option, Some, None, inl, inr, length, refl, sym, subst, arith}
use Rattle.draid_names.specs.declared.journal.Did.{Did}
use Rattle.draid_names.specs.declared.journal.Did.TheVariants as did
use Rattle.draid_names.specs.declared.journal.Entry.{Entry}
use Rattle.draid_names.specs.declared.pass_kind.PassKind.TheVariants.{Heal, Rebuild}
use Rattle.draid_spec.specs.declared.layout.Geometry.{Geometry}
use Rattle.draid_perm.specs.declared.perms.Perms.{Perms}
use Rattle.draid_machine.specs.declared.event.Event.TheVariants as event
use Rattle.draid_machine.specs.declared.names.ArmName.TheVariants.{Spare}
use Rattle.draid_reply.specs.declared.reply.AgentErrors.{AgentErrors}
use Rattle.draid_reply.specs.declared.reply.Reply.{Reply}
use Rattle.draid_reply.specs.declared.reply.Reply.TheVariants.{Acted, AgentIdle, Journal, Last, NoMemory, PassThere, Worn}
use Rattle.draid_script.specs.Line.{RunAgent, ShowJournal}
use Rattle.draid_script.specs.declared.name.CommandName.TheVariants as name
use Rattle.draid_session.specs.Agent as agent
use Rattle.draid_session.specs.Arms as arms
use Rattle.draid_session.specs.Book.{Book, OpenAnswers}
use Rattle.draid_session.specs.Choices.{Choices}
use Rattle.draid_session.specs.Does.{Does}
use Rattle.draid_session.specs.Follows.{Follows}
use Rattle.draid_session.specs.Holds.{Hold, View}
use Rattle.draid_session.specs.Keeping.{KeepsOpen}
use Rattle.draid_session.specs.Looks.{AllOf}
use Rattle.draid_session.specs.Making.{content_of}
use Rattle.draid_session.specs.Passes.{Ended, Stopped}
use Rattle.draid_session.specs.Phases.{End, Starved, WasLast, WasWorn, Went}
use Rattle.draid_session.specs.State.{State, Store}
use Rattle.draid_session.proofs.Answering.{Books}
use Rattle.draid_session.proofs.Arming.{Begun, IsCalmPhase, event_calm, reserve_calm, with_book}
use Rattle.draid_session.proofs.Calm.{IsCalmHold, calm_follows, looks_calm}
use Rattle.draid_session.proofs.Changing.{calm_fit, looks_from_calm}
use Rattle.draid_session.proofs.Looked.{follows_split}
use Rattle.draid_session.proofs.Passing.{Grown, nothing_keeps, rebuilds_grown, scrubs_grown}
use Rattle.draid_session.proofs.Phased.{chain_all}
use Rattle.draid_session.proofs.Syncing.{finishes}
use Rattle.draid_session.proofs.Visited.{layout_stays}

module _ (geometry : Geometry) (perms : Perms) (chosen : ℕ → ℕ → List ℕ → Option ℕ → Type 0) where
  -- ---- spares that come change no object, and commit no group

  then_calm : (given : Did) (slot : ℕ) (Then : List Hold → End → Type 0) → IsCalmPhase Then → IsCalmPhase (agent.AttachesThen geometry perms chosen given slot Then)
  then_calm did.NoneFree slot Then calm holds end a = calm holds end a
  then_calm (did.Spared spare) slot Then calm holds end a =
      chain_all IsCalmHold (arms.EventPhase geometry perms (event.Attach slot (Spare spare))) Then (event_calm geometry perms (event.Attach slot (Spare spare)) tt) calm holds end a

  attaches_calm : (entries : List Entry) → IsCalmPhase (agent.AttachesAll geometry perms chosen entries)
  attaches_calm [] holds end a = subst (AllOf IsCalmHold) (sym a.0) tt
  attaches_calm (e ∷ entries) holds end a = then_calm e.did e.slot (agent.AttachesAll geometry perms chosen entries) (attaches_calm entries) holds end a

  -- ---- a pool and its book

  module _ (z : State) (store : Store) (b : Book) where
    none_more : KeepsOpen z store b → Grown Rebuild z store b
    none_more keeps = record { untold = b.untold; reaches = omega arith; keeps = keeps }

    -- a book that keeps what is behind the holds that are left
    abbrev Fits : (List Hold → Type 0) → Type 0
    Fits P = (rest : List Hold) (x : State) → P rest → Follows rest x z → x.geometry ≡ geometry → KeepsOpen x store b → Grown Rebuild z store b

    begins_fit : (x : State) (holds : List Hold) (views : List View) (rest : List Hold) → agent.Begins geometry perms chosen holds views rest → Follows holds x z → x.geometry ≡ geometry
        → KeepsOpen x store b → Begun geometry perms rest z store b
    begins_fit x holds views rest g follows of fit =
        let one = follows_split g.finish (g.looks ++ rest) x z (subst (λ hs. Follows hs x z) g.are follows) in
        let done = finishes geometry perms g.finish Went x one.0 store b g.finishes one.1 of fit in
        let two = follows_split g.looks rest one.0 z one.2 in
        let calm = calm_follows g.looks one.0 two.0 (looks_from_calm 0 geometry.props.metaslabs g.looks views g.looked) two.1 in
        record { y = two.0; follows = two.2; layout = calm.geometry ∙ done.layout refl; fits = calm_fit one.0 two.0 store b calm done.keeps }

    acts_fit : (least number : ℕ) (entries : List Entry) (x : State) (holds rest : List Hold) → agent.Acts geometry perms chosen least number entries holds rest → Follows holds x z → x.geometry ≡ geometry
        → KeepsOpen x store b → Begun geometry perms rest z store b
    acts_fit least number entries x holds rest a follows of fit =
        let begun = begins_fit x holds a.views a.back a.begins follows of fit in
        let one = follows_split a.reserving (a.coming ++ rest) begun.y z (subst (λ hs. Follows hs begun.y z) a.are begun.follows) in
        let first = calm_follows a.reserving begun.y one.0 (reserve_calm geometry perms (λ v. length entries) a.reserving Went a.reserves) one.1 in
        let two = follows_split a.coming rest one.0 z one.2 in
        let second = calm_follows a.coming one.0 two.0 (attaches_calm entries a.coming Went a.comes) two.1 in
        record {
          y = two.0;
          follows = two.2;
          layout = second.geometry ∙ (first.geometry ∙ begun.layout);
          fits = calm_fit one.0 two.0 store b second (calm_fit begun.y one.0 store b first begun.fits);
        }

    -- ---- the rebuild and the scrub

    rebuilds_fit : (errors : ℕ) → Fits (agent.RebuildsAll geometry perms chosen errors)
    rebuilds_fit errors rest x (inl (t, r, is)) follows of fit = rebuilds_grown geometry perms x z store b of fit None rest Ended t r follows
    rebuilds_fit errors rest x (inr (nothing, is)) follows of fit = none_more (nothing_keeps geometry perms x z store b of fit None rest nothing follows)

  -- behind a rebuild
  module _ (z : State) (store : Store) (b : Book) where
    scrub_behind : (errors : ℕ) (front back : List Hold) (x : State) → agent.RebuildsAll geometry perms chosen errors front → Follows (front ++ back) x z → x.geometry ≡ geometry → KeepsOpen x store b
        → ((y : State) (c : Book) → Follows back y z → y.geometry ≡ geometry → KeepsOpen y store c → Grown Heal z store c) → Grown Rebuild z store b
    scrub_behind errors front back x rebuilds follows of fit scrubs =
        let parts = follows_split front back x z follows in
        let one = rebuilds_fit parts.0 store b errors front x rebuilds parts.1 of fit in
        let two = scrubs parts.0 (record b { untold = one.untold }) parts.2 ((layout_stays front x parts.0 parts.1).0 ∙ of) one.keeps in
        let same = two.reaches in
        let more = one.reaches in
        record { untold = two.untold; reaches = omega (arith, same, more); keeps = two.keeps }

    heals_fit : (errors : AgentErrors) → Fits z store b (agent.Heals geometry perms chosen errors.rebuild errors.scrub)
    heals_fit errors rest x (front, back, are, rebuilds, (t, scrubs, is)) follows of fit =
        scrub_behind errors.rebuild front back x rebuilds (subst (λ hs. Follows hs x z) are follows) of fit
        (λ y c behind at keeps. scrubs_grown geometry perms y z store c at keeps None back Ended t scrubs behind)

    heal_stops_fit : (end : End) → Fits z store b (λ hs. agent.HealStops geometry perms chosen hs end)
    heal_stops_fit end rest x (inl (t, other, r)) follows of fit = rebuilds_grown geometry perms x z store b of fit None rest (Stopped end) t r follows
    heal_stops_fit end rest x (inr (errors, front, back, t, other, are, rebuilds, scrubs)) follows of fit =
        scrub_behind errors front back x rebuilds (subst (λ hs. Follows hs x z) are follows) of fit
        (λ y c behind at keeps. scrubs_grown geometry perms y z store c at keeps None back (Stopped end) t scrubs behind)

    pub stops_fit : (least number : ℕ) (entries : List Entry) (end : End) → Fits z store b (λ hs. agent.RepairStops geometry perms chosen least number entries hs end)
    stops_fit least number entries end holds x (inl (none, other, ends)) follows of fit = none_more z store b (finishes geometry perms holds end x z store b ends follows of fit).keeps
    stops_fit least number entries end holds x (inr (inl (none, other, views, back, count, begins, due, reserves))) follows of fit =
        let begun = begins_fit z store b x holds views back begins follows of fit in
        none_more z store b (calm_fit begun.y z store b (calm_follows back begun.y z (reserve_calm geometry perms (λ v. count) back end reserves) begun.follows) begun.fits)
    stops_fit least number entries end holds x (inr (inr (rest, came, acts, stops))) follows of fit =
        let begun = acts_fit z store b least number entries x holds rest acts follows of fit in heal_stops_fit end rest begun.y stops begun.follows begun.layout begun.fits

    starves_fit : (least number : ℕ) (entries : List Entry) → Fits z store b (agent.RepairStarves geometry perms chosen least number entries)
    starves_fit least number entries holds x (inl stops) follows of fit = stops_fit least number entries Starved holds x stops follows of fit
    starves_fit least number entries holds x (inr (inr (inr (none, only)))) follows of fit = none_more z store b (calm_fit x z store b (calm_follows holds x z (looks_calm holds only) follows) fit)
    starves_fit least number entries holds x (inr (inr (inl (rest, came, acts, only)))) follows of fit =
        let begun = acts_fit z store b least number entries x holds rest acts follows of fit in
        none_more z store b (calm_fit begun.y z store b (calm_follows rest begun.y z (looks_calm rest only) begun.follows) begun.fits)
    starves_fit least number entries holds x (inr (inl (none, finish, looks, are, ends, only))) follows of fit =
        let parts = follows_split finish looks x z (subst (λ hs. Follows hs x z) are follows) in
        let done = finishes geometry perms finish Went x parts.0 store b ends parts.1 of fit in
        none_more z store b (calm_fit parts.0 z store b (calm_follows looks parts.0 z (looks_calm looks only) parts.2) done.keeps)

    -- none came, and there is neither a rebuild nor a scrub; or there are both
    abbrev HealsLeave : Option AgentErrors → Type 0
    HealsLeave None = KeepsOpen z store b
    HealsLeave (Some errors) = Grown Rebuild z store b

    repairs_fit : (least number : ℕ) (entries : List Entry) (errors : Option AgentErrors) (x : State) (holds : List Hold) → agent.Repairs geometry perms chosen least number entries errors holds
        → Follows holds x z → x.geometry ≡ geometry → KeepsOpen x store b → HealsLeave errors
    repairs_fit least number entries errors x holds (rest, some, acts, heals) follows of fit =
        let begun = acts_fit z store b least number entries x holds rest acts follows of fit in by errors heals begun
      where
        by : (errors : Option AgentErrors) → agent.HealsFor geometry perms chosen entries errors rest → Begun geometry perms rest z store b → HealsLeave errors
        by None h begun = subst (λ (s : State). KeepsOpen s store b) (sym (subst (λ hs. Follows hs begun.y z) h.0 begun.follows)) begun.fits
        by (Some errors) h begun = heals_fit errors rest begun.y h.1 begun.follows begun.layout begun.fits

-- ---- commands

module _ (choices : Choices) (old mid : State) (store : Store) (holds : List Hold) (b : Book) (fit : KeepsOpen old old.store b) (follows : Follows holds old mid) where
  abbrev Booked : ℕ → Reply → Type 0
  Booked least reply = Books choices old mid store holds b fit follows (RunAgent least) reply

  booked : (least : ℕ) (reply : Reply) (next : Book) → store ≡ old.store → OpenAnswers b (RunAgent least) reply next → KeepsOpen mid old.store next → Booked least reply
  booked least reply next = with_book choices old mid store holds b fit follows (RunAgent least) reply next

  stopped : (least : ℕ) (end : End) → agent.RepairStopped old.geometry old.perms choices.spare least holds end → Grown Rebuild mid old.store b
  stopped least end s = stops_fit old.geometry old.perms choices.spare mid old.store b least s.number s.entries end holds old s.stops follows refl fit

  starved : (least : ℕ) → agent.RepairStarved old.geometry old.perms choices.spare least holds → Grown Rebuild mid old.store b
  starved least s = starves_fit old.geometry old.perms choices.spare mid old.store b least s.number s.entries holds old s.starves follows refl fit

  repaired : (least : ℕ) (entries : List Entry) (errors : Option AgentErrors) → agent.Repaired old.geometry old.perms choices.spare least entries errors holds
      → HealsLeave old.geometry old.perms choices.spare mid old.store b errors
  repaired least entries errors r = repairs_fit old.geometry old.perms choices.spare mid old.store b least r.number entries errors old holds r.repairs follows refl fit

  -- it was looked at, and nothing was done
  looked_at : (views : List View) → agent.Begins old.geometry old.perms choices.spare holds views [] → KeepsOpen mid old.store b
  looked_at views begins =
      let begun = begins_fit old.geometry old.perms choices.spare mid old.store b old holds views [] begins follows refl fit in
      subst (λ (s : State). KeepsOpen s old.store b) (sym begun.follows) begun.fits

  found : (metaslab number : ℕ) → agent.FindsPass old.geometry old.perms choices.spare holds metaslab number → KeepsOpen mid old.store b
  found metaslab number f =
      let one = follows_split f.finish f.looks old mid (subst (λ hs. Follows hs old mid) f.are follows) in
      let done = finishes old.geometry old.perms f.finish Went old one.0 old.store b f.finishes one.1 refl fit in
      calm_fit one.0 mid old.store b (calm_follows f.looks one.0 mid (looks_from_calm 0 old.geometry.props.metaslabs f.looks f.views f.looked) one.2) done.keeps

  pub agent_answers : (least : ℕ) (reply : Reply) → Does old.geometry old.perms choices content_of (RunAgent least) old.store holds reply store → Booked least reply
  agent_answers least (Acted parity entries None) d = booked least (Acted parity entries None) b d.0 refl (repaired least entries.items None d.2)
  agent_answers least (Acted parity entries (Some errors)) d =
      let g = repaired least entries.items (Some errors) d.2 in
      booked least (Acted parity entries (Some errors)) (record b { untold = g.untold }) d.0 (g.untold, g.reaches, refl) g.keeps
  agent_answers least AgentIdle d = booked least AgentIdle b d.0 refl (looked_at d.1.views d.1.begins)
  agent_answers least (PassThere name.Agent metaslab number) d = booked least (PassThere name.Agent metaslab number) b d.0 refl (found metaslab number d.1)
  agent_answers least (Worn name.Agent) d = (let g = stopped least WasWorn d.1 in booked least (Worn name.Agent) (record b { untold = g.untold }) d.0 (g.untold, g.reaches, refl) g.keeps)
  agent_answers least (Last name.Agent) d = (let g = stopped least WasLast d.1 in booked least (Last name.Agent) (record b { untold = g.untold }) d.0 (g.untold, g.reaches, refl) g.keeps)
  agent_answers least (NoMemory name.Agent) d = (let g = starved least d.1 in booked least (NoMemory name.Agent) (record b { untold = g.untold }) d.0 (g.untold, g.reaches, refl) g.keeps)
  agent_answers least reply d = absurd d

  -- a journal is shown without a hold
  pub journal_answers : (reply : Reply) → Does old.geometry old.perms choices content_of ShowJournal old.store holds reply store → Books choices old mid store holds b fit follows ShowJournal reply
  journal_answers (Journal parity entries) d =
      with_book choices old mid store holds b fit follows ShowJournal (Journal parity entries) b d.0 refl
      (subst (λ (s : State). KeepsOpen s old.store b) (sym (subst (λ hs. Follows hs old mid) d.2 follows)) fit)
  journal_answers (NoMemory name.Agent) d =
      with_book choices old mid store holds b fit follows ShowJournal (NoMemory name.Agent) b d.0 refl
      (subst (λ (s : State). KeepsOpen s old.store b) (sym (subst (λ hs. Follows hs old mid) d.1 follows)) fit)
  journal_answers reply d = absurd d
