-- What a sync comes to where a group is closing, and each metaslab that doesn't close it yet has room for the events of a closing.
use Rattle.std.proofs.Common.{◌≡◌, ◌∙◌, ◌+◌, ◌⊎◌, ℕ, List, [], ◌∷◌, Option, Some, None, inl, inr, refl, sym, ap, subst, arith}
use Rattle.draid_names.specs.declared.numbers.TheConstants.{LAST_NUMBER}
use Rattle.draid_spec.specs.declared.layout.Geometry.{Geometry}
use Rattle.draid_perm.specs.declared.perms.Perms.{Perms}
use Rattle.draid_reply.specs.declared.reply.Reply.{Reply}
use Rattle.draid_reply.specs.declared.reply.Reply.TheVariants.{Last, NoMemory, Synced, Worn}
use Rattle.draid_script.specs.declared.name.CommandName.TheVariants as name
use Rattle.draid_script.specs.Line.{SyncPool}
use Rattle.draid_session.specs.Book.{Book}
use Rattle.draid_session.specs.Certain.{MayFinish, SyncsBehind}
use Rattle.draid_session.specs.Choices.{Choices}
use Rattle.draid_session.specs.Does.{Does}
use Rattle.draid_session.specs.Follows.{Follows}
use Rattle.draid_session.specs.Groups as groups
use Rattle.draid_session.specs.Groups.{HasClosing}
use Rattle.draid_session.specs.Holds.{Hold, LookedUber, OnUber, UberView, View}
use Rattle.draid_session.specs.Keeping.{AreInStep, AreInside, AreNoted, HasMetaslab, IsInStep, KeepsOpen}
use Rattle.draid_session.specs.Looks.{AllOf}
use Rattle.draid_session.specs.Making.{content_of}
use Rattle.draid_session.specs.Phases.{End, NoneOf, WasLast, WasWorn, Went}
use Rattle.draid_session.specs.Session.{CarriesOut}
use Rattle.draid_session.specs.State.{Metaslab, State}
use Rattle.draid_session.specs.Worn.{ClosesWorn}
use Rattle.draid_session.proofs.Calm.{calm_follows}
use Rattle.draid_session.proofs.Changing.{looks_from_calm}
use Rattle.draid_session.proofs.Grouping.{Done, Steady, calm_steady, group_walk, steady_inside, steady_noted, steady_steps}
use Rattle.draid_session.proofs.Lists.{all_at}
use Rattle.draid_session.proofs.Looked.{Seen, follows_split, looks_all, looks_at, looks_seen}
use Rattle.draid_session.proofs.Synced.{HasRoom, IsShort, grouped, went_not}

none_all : {A : Type 0} (P : A → Type 0) (xs : List A) → NoneOf P xs → AllOf (λ x. P x → ⊥) xs
none_all P [] none = tt
none_all P (x ∷ xs) none = (none.0, none_all P xs none.1)

-- what a state has for the group behind its committed one
record IsReady (geometry : Geometry) (x : State) : Type 0 where
  pub steps : AreInStep x
  pub inside : AreInside x
  pub place : HasMetaslab x
  pub noted : AreNoted x
  pub layout : x.geometry ≡ geometry

-- a group is committed behind the committed one of a state
module _ (geometry : Geometry) (perms : Perms) (group thin : ℕ) (holds : List Hold) (end : End) (x z : State) (go : groups.Group geometry perms group thin holds end) (follows : Follows holds x z)
    (next : group ≡ x.committed + 1) (ready : IsReady geometry x) where
  walked : (end ≡ Went → Done geometry perms group x z) × ((end ≡ Went → ⊥) → Steady x z)
  walked = group_walk geometry perms group thin holds end x z go follows next ready.steps ready.inside ready.place ready.noted ready.layout

  went_ready : end ≡ Went → (z.committed ≡ x.committed + 1) × IsReady geometry z
  went_ready went =
      let done = walked.0 went in (
        done.committed ∙ next,
        record {
          steps = λ k y there. (let i = done.idle k y there in steps_of y i.0 i.1 done.committed);
          inside = done.inside;
          place = done.place;
          noted = done.noted;
          layout = done.layout;
        },
      )
    where
      none_is : (o : Option ℕ) (t : ℕ) → o ≡ None → o ≡ Some t → ⊥
      none_is o t none some = (let h = sym none ∙ some in cc)

      steps_of : (y : Metaslab) → y.world.open_group ≡ group + 1 → y.world.closing ≡ None → z.committed ≡ group → IsInStep z.committed y.world
      steps_of y opened idle committed = record {
        idle = λ none. opened ∙ ap (λ n. n + 1) (sym committed);
        busy = λ t some. absurd (none_is y.world.closing t idle some);
      }

  short_same : IsShort end → z.committed ≡ x.committed
  short_same short = (walked.1 (λ went. went_not end short went)).committed

module _ (old : State) (book : Book) (keeps : KeepsOpen old old.store book) (may : MayFinish old) where
  geometry : Geometry
  geometry = old.geometry

  -- looks leave the state ready, with the same room
  record IsSeen (z : State) : Type 0 where
    pub ready : IsReady old.geometry z
    pub committed : z.committed ≡ old.committed
    pub room : HasRoom old.geometry 0 z

  seen_by : (z : State) → Seen old z → Steady old z → IsSeen z
  seen_by z seen steady = record {
    ready = record {
      steps = steady_steps old z steady keeps.steps;
      inside = steady_inside old z steady keeps.inside;
      place = (let one = seen.each 0 keeps.place.0 keeps.place.1 in (one.0, one.1));
      noted = steady_noted old z steady keeps.noted;
      layout = seen.geometry;
    };
    committed = seen.committed;
    room = λ k y from there idle worn. (let one = seen.back k y there in
        may.room k one.0 one.1 (ap (λ (v : View). v.world.closing) (sym one.2) ∙ idle) (subst (ClosesWorn old.geometry) one.2 worn));
  }

  abbrev ClosesNext : View → Type 0
  ClosesNext v = (group : ℕ) → v.world.closing ≡ Some group → group ≡ old.committed + 1

  low_of : (group : ℕ) → group ≡ old.committed + 1 → group ≡ LAST_NUMBER → ⊥
  low_of group is last = (let low = may.low in omega (arith, is, last, low))

  -- the group that was closing is committed, unless it is stopped by a device or for want of memory
  record Finished (end : End) (z : State) : Type 0 where
    pub short : IsShort end → ⊥
    pub went : end ≡ Went → (z.committed ≡ old.committed + 1) × IsReady old.geometry z

  finished : (holds : List Hold) (end : End) (z : State) → groups.Finishes old.geometry old.perms holds end → Follows holds old z → Finished end z
  finished holds end z f follows =
      let parts = follows_split f.looks f.rest old z (subst (λ hs. Follows hs old z) f.are follows) in
      let seen = looks_seen 0 old.geometry.props.metaslabs f.looks f.views old parts.0 f.looked parts.1 in
      let calm = calm_follows f.looks old parts.0 (looks_from_calm 0 old.geometry.props.metaslabs f.looks f.views f.looked) parts.1 in
      let at = seen_by parts.0 seen (calm_steady old parts.0 calm) in
      let closes : AllOf ClosesNext f.views = looks_all ClosesNext 0 old.geometry.props.metaslabs f.looks f.views old parts.0 f.looked parts.1 (λ k y there group is. ((keeps.steps k y there).busy group is).0) in
      let inside = keeps.inside may.m may.y may.there in
      elim f.does [
        | inl none ↦ absurd (looks_at (λ v. HasClosing v → ⊥) 0 old.geometry.props.metaslabs f.looks f.views old parts.0 f.looked parts.1 (none_all HasClosing f.views none.0) may.m may.y (omega arith)
            (omega (arith, inside)) may.there (may.group, may.closing))
        | inr more ↦
            let group : more.0 ≡ old.committed + 1 = all_at ClosesNext f.views more.3.0 more.1 closes more.3.1 more.3.2 more.0 more.4 in
            let next : more.0 ≡ parts.0.committed + 1 = group ∙ ap (λ n. n + 1) (sym at.committed) in
            record {
              short = λ short. grouped old.geometry old.perms more.0 (low_of more.0 group) more.2 f.rest end parts.0 z short more.5 parts.2 at.room;
              went = λ went. (let done = went_ready old.geometry old.perms more.0 more.2 f.rest end parts.0 z more.5 parts.2 next at.ready went in (done.0 ∙ ap (λ n. n + 1) at.committed, done.1));
            }
      ]

  -- and then comes the group behind it
  record Behind (group : ℕ) (end : End) (z : State) : Type 0 where
    pub group_is : group ≡ old.committed + 2
    pub went : end ≡ Went → z.committed ≡ group
    pub short : IsShort end → z.committed ≡ old.committed + 1

  two_on : (a b : ℕ) → a ≡ b + 1 → a + 1 ≡ b + 2
  two_on a b is = omega (arith, is)

  synced : (group thin : ℕ) (holds : List Hold) (end : End) (z : State) → groups.Syncs old.geometry old.perms group thin holds end → Follows holds old z → (end ≡ Went) ⊎ IsShort end → Behind group end z
  synced group thin holds end z (inr w) follows ends = elim ends [ inl went ↦ absurd (w.0 went) | inr short ↦ absurd ((finished holds end z w.1 follows).short short) ]
  synced group thin holds end z (inl (front, back, are, finishes, next)) follows ends =
      let parts = follows_split front back old z (subst (λ hs. Follows hs old z) are follows) in
      let first = (finished front Went parts.0 finishes parts.1).went refl in
      let all : Follows (OnUber next.0 LookedUber ∷ next.1) parts.0 z = subst (λ hs. Follows hs parts.0 z) next.2 parts.2 in
      let behind : group ≡ parts.0.committed + 1 = next.3 ∙ ap (λ (u : UberView). u.committed + 1) all.1.sees in
      let same : Follows next.1 parts.0 z = subst (λ (s : State). Follows next.1 s z) all.1.acts all.2 in
      record {
        group_is = behind ∙ two_on parts.0.committed old.committed first.0;
        went = λ went. (went_ready old.geometry old.perms group thin next.1 end parts.0 z next.4 same behind first.1 went).0 ∙ sym behind;
        short = λ short. short_same old.geometry old.perms group thin next.1 end parts.0 z next.4 same behind first.1 short ∙ first.0;
      }

  pub finished_by : (choices : Choices) (reply : Reply) (new : State) → CarriesOut choices SyncPool reply old new → SyncsBehind old reply new
  finished_by choices reply new it = by reply it.does
    where
      committed : new.committed ≡ it.mid.committed
      committed = ap (λ (s : State). s.committed) it.made

      stopped : (end : End) → IsShort end → groups.SyncStops old.geometry old.perms it.holds end → new.committed ≡ old.committed + 1
      stopped end short s = committed ∙ (synced s.group s.thin it.holds end it.mid s.syncs it.follows (inr short)).short short

      by : (r : Reply) → Does old.geometry old.perms choices content_of SyncPool old.store it.holds r it.store → SyncsBehind old r new
      by (Synced group thin) does =
          let s = synced group thin it.holds Went it.mid does.1 it.follows (inl refl) in
          (s.group_is, committed ∙ s.went refl)
      by (Worn name.Sync) does = stopped WasWorn tt does.1
      by (Last name.Sync) does = stopped WasLast tt does.1
      by (NoMemory name.Sync) does = tt
      by r does = absurd does
