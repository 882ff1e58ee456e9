-- What a call of a shard keeps to, and the pointers of blocks that a hold leaves live.
use Rattle.std.proofs.Common.{◌≡◌, ◌==◌, ◌∙◌, inl, inr, ℕ, Bool, true, false, List, [], ◌∷◌, Option, Some, refl, sym, ap, subst, option_map, if◌then◌else◌, eq-eqb, ne_eqb}
use mathlib.Core.Logic.{dite}
use native.Mathlib.Decide.{ℕ_discrete}
use Rattle.std.proofs.lemmas.Bool.{true≢false}
use Rattle.draid_names.specs.declared.pointer.Pointer.{Pointer}
use Rattle.draid_rack.specs.declared.Rack as racks
use Rattle.draid_area.specs.declared.Area as areas
use Rattle.draid_machine.specs.declared.names.Key.{Key}
use Rattle.draid_machine.specs.declared.names.Stage.TheVariants as stage
use Rattle.draid_machine.specs.Names.{key_eq}
use Rattle.draid_machine.specs.After.{is_freed_block}
use Rattle.draid_machine.specs.State as machine
use Rattle.draid_machine.proofs.Small.{bool_cases, held_other, key_true}
use Rattle.draid_segments.specs.Segments.{Pieces}
use Rattle.draid_entries.specs.declared.entry.Entry.{Entry}
use Rattle.draid_entries.specs.declared.entries.Entries.{Entries}
use Rattle.draid_entries.specs.Entries.{SetsEntry, held_in}
use Rattle.draid_entries.specs.Maps.{held_at, key_of, staged}
use Rattle.draid_shard.specs.Looks.{IsLive}
use Rattle.draid_shard.specs.Fits.{Valid}
use Rattle.draid_shard.specs.Part.{Part, layout_in}
use Rattle.draid_shard.specs.States.{part_of}
use Rattle.draid_shard.specs.declared.shard.Shard.{Shard}
use Rattle.draid_shard.proofs.Held.{held_entry, key_leads}
use Rattle.draid_session.specs.Follows.{MetaslabActs, HasNoEvent}
use Rattle.draid_session.specs.Holds.{AreaFailed, Did, Act, Hold, Looked, MadeLeaf, On, RackFailed, CallStarved, Reserved, view_of}
use Rattle.draid_session.specs.State.{Metaslab}
use Rattle.draid_pool.specs.Metaslabs.{IsMetaslab}
use Rattle.draid_pool.specs.Shards.{FollowsIn, Goes, GoesLater}
use Rattle.draid_pool.specs.Drifts.{Drifts, KeepsOf, Since, StateStep, is_other}
use Rattle.draid_pool.specs.Threads.{HasPointer}
use Rattle.draid_pool.proofs.Since.{nothing_more, since_self, since_then}

-- ---- what a shard's call says, it keeps to

rests_since : (l : machine.Layout) (x y : Metaslab) → HasNoEvent x y → Since l x y
rests_since l x y r = record { opened = r.opened; more = []; stored = r.events ∙ nothing_more x.events; run = r.world }

pub acts_since : (l : machine.Layout) (act : Act) (x y : Metaslab) → MetaslabActs l act x y → Since l x y
acts_since l Looked x y a = subst (Since l x) (sym a) (since_self l x)
acts_since l (Did e w) x y a = record { opened = a.opened; more = e ∷ []; stored = a.stored; run = (w, a.legal, a.world) }
acts_since l (Reserved n) x y a = subst (Since l x) (sym a) (record { opened = refl; more = []; stored = nothing_more x.events; run = refl })
acts_since l (MadeLeaf leaf) x y a = record { opened = a.0.opened; more = []; stored = a.0.events ∙ nothing_more x.events; run = a.0.world }
acts_since l (AreaFailed group) x y a = rests_since l x y a.0
acts_since l RackFailed x y a = rests_since l x y a.0
acts_since l CallStarved x y a = rests_since l x y a.0

pub follows_since : (l : machine.Layout) (m : ℕ) (holds : List Hold) (x y : Metaslab) → FollowsIn l m holds x y → Since l x y
follows_since l m [] x y f = subst (Since l x) (sym f) (since_self l x)
follows_since l m (hold ∷ holds) x y f = since_then l x f.1 y (acts_since l f.0 x f.1 f.3) (follows_since l m holds f.1 y f.4)

-- one hold alone
pub acts_one : (l : machine.Layout) (m : ℕ) (act : Act) (x y : Metaslab) → FollowsIn l m (On (view_of m x) act ∷ []) x y → MetaslabActs l act x y
acts_one l m act x y f = subst (λ z. MetaslabActs l act x z) (sym f.4) (subst (λ a. MetaslabActs l a x f.1) (sym (same act f.0 f.2)) f.3)
  where
    same : (a b : Act) → On (view_of m x) a ≡ On (view_of m x) b → a ≡ b
    same a b e = cc

differ : (a b : ℕ) → is_other (Some a) b ≡ true → a ≡ b → ⊥
differ a b is same = true≢false (sym is ∙ ap (λ c. if c then false else true) (eq-eqb a b same))

-- the key of another object is another one
pub other_key : (p : Pointer) (key : Key) → is_other (Some p.object) key.object ≡ true → key_eq (key_of p) key ≡ false
other_key p key is = elim (bool_cases (key_eq (key_of p) key)) [
  | inl same ↦ absurd (differ p.object key.object is (ap (λ (k : Key). k.object) (key_true (key_of p) key same)))
  | inr not ↦ not
]

-- what is set under a key leaves other objects as they are
pub sets_others : (group : ℕ) (old new : Entries) (p : Pointer) (entry : Option Entry) → SetsEntry old new p entry → KeepsOf (is_other (Some p.object)) group old new
sets_others group old new p entry s = record { each = λ key other. inl (s.held key ∙ held_other (held_in old) (key_of p) key (option_map held_at entry) (other_key p key other)) }

pub same_entry : (e : Entry) (p : Pointer) → key_of e.pointer ≡ key_of p → held_at e ≡ held_at (staged stage.Live p) → e.pointer.metaslab ≡ p.metaslab → e ≡ staged stage.Live p
same_entry e p key held metaslab = λ i. record {
  pointer = record {
    object = (key i).object;
    seq = (key i).seq;
    metaslab = metaslab i;
    first = (held i).first;
    stripes = (held i).stripes;
    len = (held i).len;
    birth = (held i).birth;
    digest = (held i).digest;
  };
  stage = (held i).stage;
}

module _ {R A : Type 0} (rack : racks.Ghosts R) (area : areas.Ghosts A) where
  -- whatever a call of a shard is said to do to a metaslab with the same pieces, is a step of the state
  pub state_goes : (of : ℕ → Bool) (old new : Shard R A) (does : Part → Metaslab → List Hold → Metaslab → Type 0)
      → ((part : Part) (pieces : Pieces) (x : Metaslab) → IsMetaslab rack area part pieces old x → Goes rack area part pieces x new (does part x)) → StateStep rack area of old new
  state_goes of old new does goes part pieces x is =
      let g = goes part pieces x is in record { reached = g.reached; now = pieces; is = g.is; since = follows_since (layout_in part) part.number g.holds x g.reached g.follows; images = λ mine. g.images; same = λ k mine. inl refl }

  -- so are holds behind which blocks may have the pieces of other bytes of their length and digest
  pub state_goes_later : (of : ℕ → Bool) (old new : Shard R A) → ((part : Part) (pieces : Pieces) (x : Metaslab) → IsMetaslab rack area part pieces old x → GoesLater rack area part pieces x new) → StateStep rack area of old new
  state_goes_later of old new goes part pieces x is =
      let g = goes part pieces x is in
      record { reached = g.reached; now = g.later; is = g.is; since = follows_since (layout_in part) part.number g.holds x g.reached g.follows; images = λ mine. g.images; same = λ k mine. g.contents.each k }

  -- ---- live blocks

  pub live_on : (of : ℕ → Bool) (group : ℕ) (a b : Shard R A) (p : Pointer) → Valid rack a → Valid rack b → part_of b ≡ part_of a → KeepsOf of group a.entries b.entries → of p.object ≡ true → IsLive a p → IsLive b p
  live_on of group a b p va vb part keeps own live =
      let led = key_leads a.entries p.first (staged stage.Live p) live in
      let stays : held_in b.entries (key_of p) ≡ Some (held_at (staged stage.Live p)) = elim (keeps.each (key_of p) own) [
        | inl e ↦ e ∙ led
        | inr e ↦ absurd (let z : false ≡ true = sym (ap (is_freed_block group) led) ∙ e.0 in true≢false (sym z))
      ] in
      let z = held_entry b.entries (key_of p) (held_at (staged stage.Live p)) stays in
      let number : b.number ≡ a.number = ap (λ (q : Part). q.number) part in
      z.there ∙ ap Some (same_entry z.e p z.key_is z.held_is (vb.here.each p.first z.e z.there ∙ (number ∙ sym (va.here.each p.first (staged stage.Live p) live))))

  module _ (shared : Bool) (owns : ℕ → Bool) (last new : ℕ → Option (Shard R A)) (m : ℕ) (shard before after : Shard R A) (there : last m ≡ Some shard) (drifts : Drifts rack area shared owns shard before)
      (valid : Valid rack shard) (after_valid : Valid rack after) (is : (k : ℕ) → new k ≡ (if k == m then Some after else last k)) where
    pub at_here : new m ≡ Some after
    at_here = is m ∙ ap (λ b. if b then Some after else last m) (eq-eqb m m refl)

    pub at_other : (k : ℕ) → (k ≡ m → ⊥) → new k ≡ last k
    at_other k not = is k ∙ ap (λ b. if b then Some after else last k) (ne_eqb k m not)

    pub live_before : (p : Pointer) → owns p.object ≡ true → IsLive shard p → IsLive before p
    live_before p own live = live_on owns before.committed shard before p valid drifts.valid drifts.part drifts.own own live

    one : (o : Option (Shard R A)) (a b : Shard R A) → o ≡ Some a → o ≡ Some b → a ≡ b
    one o a b e f = (let h = sym e ∙ f in cc)

    -- the pointer of a block that the hold left live
    pub pointer_on : (q : ℕ) (p : Pointer) → HasPointer last rack owns q p → (IsLive before p → IsLive after p) → HasPointer new rack owns q p
    pointer_on q p has on = dite (ℕ_discrete p.metaslab m)
        (λ same.
        let c : has.shard ≡ shard = one (last m) has.shard shard (ap last (sym same) ∙ has.there) there in
        record {
          object_is = has.object_is;
          own = has.own;
          shard = after;
          there = ap new same ∙ at_here;
          valid = after_valid;
          live = on (live_before p (ap owns has.object_is ∙ has.own) (subst (λ (z : Shard R A). IsLive z p) c has.live));
        })
        (λ not. record { object_is = has.object_is; own = has.own; shard = has.shard; there = at_other p.metaslab not ∙ has.there; valid = has.valid; live = has.live })
