-- A pool was made, or not, in the words of a session.
use Rattle.std.proofs.Common.{◌≡◌, ◌∙◌, ◌⊎◌, inl, inr, ℕ, List, Bool, true, false, Option, Some, None, Result, Ok, Err, if◌then◌else◌, refl, sym, ap, subst}
use Rattle.std.specs.Prelude.{IsSomeAnd, is_some, nat_lt, string_bytes}
use Rattle.std.specs.Result.{result_and}
use Rattle.draid_names.specs.declared.fault.Failed.{Failed}
use Rattle.draid_rack.specs.Rack.{Shape}
use Rattle.draid_rack.specs.declared.Rack as racks
use Rattle.draid_area.specs.declared.Area as areas
use Rattle.draid_spec.specs.declared.layout.Geometry.{Geometry}
use Rattle.draid_spec.specs.declared.layout.Props.{Props}
use Rattle.draid_spec.specs.declared.spec.Spec.{Spec}
use Rattle.draid_spec.specs.declared.spec.SpecFault.{SpecFault}
use Rattle.draid_spec.specs.Geometry.{checked_props, checked_version, geometry_of, layout_of, total_of}
use Rattle.draid_spec.specs.Spec.{checked_width}
use Rattle.draid_spec.specs.Text.{spec_by}
use Rattle.draid_shelf.specs.Kits.{Held, KitCounts, OnHeld}
use Rattle.draid_script.specs.Line.{CreatePool}
use Rattle.draid_script.specs.declared.line.PoolKeys.{PoolKeys}
use Rattle.draid_script.specs.declared.name.CommandName.TheVariants as name
use Rattle.draid_reply.specs.declared.reply.Reply.{Reply}
use Rattle.draid_reply.specs.declared.reply.Reply.TheVariants.{Created, CreateRefused, NoMemory, PoolOpen}
use Rattle.draid_session.specs.Making.{IsFresh, Makes, layout_by, layout_from, props_of, vdev_name_of}
use Rattle.draid_session.specs.Session.{Desk, Untouched, Bare, Made, Open, Shut, Foreign, Unknown, Breaks, MakesNone, ShelfFails, uncommitted}
use Rattle.draid_session.specs.State.{State}
use Rattle.draid_pool.specs.Returning.{HoldsPool, SameCounts}
use Rattle.draid_pool.specs.Importable.{HasImageLeaves, IsImportable}
use Rattle.draid_create.specs.Opening as opening
use Rattle.draid_pool.specs.Taking.{HoldsMade}
use Rattle.draid_create.specs.Opening.{HoldsUncommitted, IsRefused, ShelfIs}
use Rattle.draid_create.specs.declared.fault.CreateFault.{CreateFault}
use Rattle.draid_create.specs.declared.fault.CreateFault.TheVariants as fault
use Rattle.draid_pool.specs.declared.pool.Pool.{Pool}
use Rattle.draid_run.specs.Desks.{Broken, IsDesk, IsPool, IsShelf}
use Rattle.draid_create.specs.Says.{MakeIs, PoolIs}
use Rattle.draid_create.specs.Says.{CreateDoes, CreateSays, IsCreateReply}
use Rattle.draid_run.specs.Making.{CreateDid, CreateIs, CreateTurns}
use Rattle.draid_create.specs.Says.{IsSame}
use Rattle.draid_pool.specs.Shelves.{OnShelf}
use Rattle.draid_run.specs.Shelves.{HoldsShut, IsClosed}
use Rattle.draid_create.specs.declared.replies.Made as answer
use Rattle.draid_run.specs.Serve.{stop_of}
use Rattle.draid_run.proofs.GivenBack.{holds_as, importable_as, on_held, own_same, stays_on, told_as}
use Rattle.draid_run.proofs.Risen.{cause_closed}

-- what stands behind all checks is what passed them
by_checks : (a b c : Result Unit SpecFault) (big : Bool) (f : SpecFault) (l layout : Geometry) → result_and a (result_and b (result_and c (if big then Err f else Ok l))) ≡ Ok layout → l ≡ layout
by_checks (Ok u) (Ok v) (Ok w) false f l layout is = cc
by_checks (Ok u) (Ok v) (Ok w) true f l layout is = absurd (cc)
by_checks (Ok u) (Ok v) (Err e) big f l layout is = absurd (cc)
by_checks (Ok u) (Err e) c big f l layout is = absurd (cc)
by_checks (Err e) b c big f l layout is = absurd (cc)

same_spec : (spec : Spec) (props : Props) (layout : Geometry) → geometry_of spec props ≡ Ok layout → layout.spec ≡ spec
same_spec spec props layout is =
    sym (ap (λ (g : Geometry). g.spec) (by_checks (checked_version props.version) (checked_width spec) (checked_props props) (nat_lt 67108864 (total_of props (layout_of spec props).rows)) _ (layout_of spec props) layout is))

-- a desk without a pool stands as the shelf stays as it is
pub same_shelf : (x : Desk) (entry before now : OnShelf) → ((y : State) → x ≡ Open y → ⊥) → IsSame before now → IsShelf x entry before → IsShelf x entry now
same_shelf Untouched entry before now none s d = (stays_on entry before now d.0 s.0, λ m. s.1 m ∙ d.1 m)
same_shelf Bare entry before now none s d = (stays_on entry before now d.0 s.0, subst (λ (h : Option Held). IsSomeAnd h (λ held. held.uber ≡ None)) (sym s.0.held) d.1)
same_shelf (Made tells count geometry) entry before now none s d = record {
  told_is = d.told_is ∙ ap is_some (sym s.0.held);
  made = record {
    held = subst (λ h. OnHeld h (HoldsMade geometry)) (sym s.0.held) d.made.held;
    counts = λ m who less. ap (λ (k : KitCounts). k.rack who) (s.0.counts m) ∙ d.made.counts m who less;
    uber = s.0.uber ∙ d.made.uber;
    checks = s.0.checks ∙ d.made.checks;
  };
}
same_shelf (Shut crash y) entry before now none s d = record {
  held = subst (λ h. OnHeld h (HoldsPool y crash)) (sym s.0.held) d.held;
  importable = on_held now.held (λ h. IsImportable y h before.leaves) (λ h. IsImportable y h now.leaves) again (subst (λ h. OnHeld h (λ held. IsImportable y held before.leaves)) (sym s.0.held) d.importable);
  told = d.told ∙ ap is_some (sym s.0.held);
  counts = λ m z there. subst (λ (k : KitCounts). SameCounts z.counts k) (sym (s.0.counts m)) (d.counts m z there);
  uber = own_same before now s.0.uber s.0.checks ∙ d.uber;
} where
  again : (h : Held) → IsImportable y h before.leaves → IsImportable y h now.leaves
  again h i = record {
    findable = i.findable;
    alike = i.alike;
    once = i.once;
    there = λ m z image at is. subst (λ (o : Option Shape). IsSomeAnd o (HasImageLeaves y.geometry image)) (sym (s.1 m)) (i.there m z image at is);
  }
same_shelf Unknown entry before now none s d = tt
same_shelf (Foreign known) entry before now none s d = tt
same_shelf (Open y) entry before now none s d = absurd (none y refl)

module _ {R A : Type 0} (rack : racks.Ghosts R) (area : areas.Ghosts A) where
  -- no pool is open
  pub shut : (desk : Option (Pool R A)) (x : Desk) → is_some desk ≡ false → IsPool rack area desk x → IsPool rack area None x
  shut None x none is = is
  shut (Some p) x none is = absurd (cc)

  not_open : (x : Desk) → IsPool rack area None x → (y : State) → x ≡ Open y → ⊥
  not_open Untouched is y same = cc same
  not_open (Made tells count geometry) is y same = cc same
  not_open (Shut crash z) is y same = cc same
  not_open Bare is y same = cc same
  not_open Unknown is y same = cc same
  not_open (Foreign known) is y same = cc same
  not_open (Open z) is y same = is

  is_closed : (x : Desk) → IsPool rack area None x → IsClosed x
  is_closed Untouched is = tt
  is_closed (Made tells count geometry) is = tt
  is_closed (Shut crash z) is = tt
  is_closed Bare is = tt
  is_closed Unknown is = tt
  is_closed (Foreign known) is = absurd is
  is_closed (Open z) is = absurd is

  turns_refused : (text : List ℕ) (children : ℕ) (keys : PoolKeys) (x : Desk) (why : SpecFault) → IsPool rack area None x → layout_by text children keys ≡ Err why → CreateTurns text children keys x (CreateRefused why) x
  turns_refused text children keys Untouched why is none = (none, refl)
  turns_refused text children keys (Made tells count geometry) why is none = (none, refl)
  turns_refused text children keys (Shut crash z) why is none = (none, refl)
  turns_refused text children keys Bare why is none = (none, refl)
  turns_refused text children keys Unknown why is none = (none, refl)
  turns_refused text children keys (Foreign known) why is none = absurd is
  turns_refused text children keys (Open z) why is none = absurd is

  module _ (text : List ℕ) (children : ℕ) (keys : PoolKeys) (entry now : OnShelf) where
    -- a pool is open already
    pub already_open : (desk : Option (Pool R A)) (x : Desk) → is_some desk ≡ true → IsDesk rack area entry now desk x → CreateDid rack area text children keys entry x (PoolOpen name.Create) now desk
    already_open None x some is = absurd (cc some)
    already_open (Some pool) (Open y) some is = record { new = Open y; desk = is; turns = (refl, refl) }
    already_open (Some pool) (Foreign known) some is = record { new = Foreign known; desk = is; turns = (refl, refl) }
    already_open (Some pool) Untouched some is = absurd is.stands
    already_open (Some pool) (Made tells count geometry) some is = absurd is.stands
    already_open (Some pool) (Shut crash z) some is = absurd is.stands
    already_open (Some pool) Bare some is = absurd is.stands
    already_open (Some pool) Unknown some is = absurd is.stands

    -- or the spec can't be read
    pub unreadable : (desk : Option (Pool R A)) (x : Desk) (why : SpecFault) → spec_by text children keys.version ≡ Err why → is_some desk ≡ false → IsDesk rack area entry now desk x
        → CreateDid rack area text children keys entry x (CreateRefused why) now desk
    unreadable desk x why read none is = record {
      new = x;
      desk = is;
      turns = turns_refused text children keys x why (shut desk x none is.stands) (ap (layout_from keys) read);
    }

  module _ (text : List ℕ) (children : ℕ) (keys : PoolKeys) (entry before now : OnShelf) (spec : Spec) (read : spec_by text children keys.version ≡ Ok spec) where
    turns_made : (x : Desk) (m : answer.Made) (new : State) → IsPool rack area None x → Makes text children keys (string_bytes m.name) m.stripes new
        → CreateTurns text children keys x (Created m.name m.stripes) (Open new)
    turns_made Untouched m new is makes = makes
    turns_made (Made tells count geometry) m new is makes = makes
    turns_made (Shut crash z) m new is makes = makes
    turns_made Bare m new is makes = makes
    turns_made Unknown m new is makes = makes
    turns_made (Foreign known) m new is makes = absurd is
    turns_made (Open z) m new is makes = absurd is

    turns_none : (x : Desk) (new : Desk) → IsPool rack area None x → MakesNone text children keys x new → CreateTurns text children keys x (NoMemory name.Create) new
    turns_none Untouched new is none = none
    turns_none (Made tells count geometry) new is none = none
    turns_none (Shut crash z) new is none = none
    turns_none Bare new is none = none
    turns_none Unknown new is none = none
    turns_none (Foreign known) new is none = absurd is
    turns_none (Open z) new is none = absurd is

    breaks_none : (x : Desk) (new : Desk) → IsPool rack area None x → MakesNone text children keys x new → Breaks ShelfFails x (CreatePool text children keys) new
    breaks_none Untouched new is none = none
    breaks_none (Made tells count geometry) new is none = none
    breaks_none (Shut crash z) new is none = none
    breaks_none Bare new is none = none
    breaks_none Unknown new is none = none
    breaks_none (Foreign known) new is none = absurd is
    breaks_none (Open z) new is none = absurd is

    module _ (result : Result answer.Made CreateFault) (pool : Option (Pool R A)) (x : Desk) (shelf : IsShelf x entry before) (stands : IsPool rack area None x)
        (makes : MakeIs rack area spec (props_of keys) before now pool result) where
      layout_is : (r : Result Geometry SpecFault) → geometry_of spec (props_of keys) ≡ r → layout_by text children keys ≡ r
      layout_is r is = ap (layout_from keys) read ∙ is

      pools : (r : Result answer.Made CreateFault) → result ≡ r → PoolIs rack area spec (props_of keys) before now pool r
      pools r is = subst (λ q. PoolIs rack area spec (props_of keys) before now pool q) is makes.pool_is

      shelves : (r : Result answer.Made CreateFault) → result ≡ r → ShelfIs spec (props_of keys) before.held now.held before.leaves now.leaves before.counts now.counts before.own now.own r
      shelves r is = subst (λ q. ShelfIs spec (props_of keys) before.held now.held before.leaves now.leaves before.counts now.counts before.own now.own q) is makes.shelf

      pub made : (m : answer.Made) → result ≡ Ok m → CreateDid rack area text children keys entry x (Created m.name m.stripes) now pool
      made m is = by pool (pools (Ok m) is) (shelves (Ok m) is) where
        by : (p : Option (Pool R A)) → PoolIs rack area spec (props_of keys) before now p (Ok m) → ShelfIs spec (props_of keys) before.held now.held before.leaves now.leaves before.counts now.counts before.own now.own (Ok m)
            → CreateDid rack area text children keys entry x (Created m.name m.stripes) now p
        by None o s = absurd o
        by (Some p) o s = record {
          new = Open o.1.opens.state;
          desk = record { stands = (o.0, o.1.opens.represents); shelf = record { told = o.1.opens.told_is } };
          turns = turns_made x m o.1.opens.state stands (record {
            geometry = o.1.geometry;
            layout = layout_is (Ok o.1.geometry) o.1.layout;
            name_is = o.1.name_is ∙ ap vdev_name_of (sym (same_spec spec (props_of keys) o.1.geometry o.1.layout));
            stripes_are = o.1.stripes_are;
            fresh = o.1.opens.fresh;
          });
        }

      pub refused : (why : SpecFault) → result ≡ Err (fault.Spec why) → CreateDid rack area text children keys entry x (CreateRefused why) now pool
      refused why is =
          let o = pools (Err (fault.Spec why)) is in
          let s = shelves (Err (fault.Spec why)) is in
          record {
            new = x;
            desk = record { stands = subst (λ p. IsPool rack area p x) (sym o.1) stands; shelf = same_shelf x entry before now (not_open x stands) s shelf };
            turns = turns_refused text children keys x why stands (layout_is (Err why) o.0);
          }

      -- the state of the new pool, told as the shelf tells now
      abbrev fresh_left : (geometry : Geometry) (r : IsRefused geometry now.held now.leaves now.counts now.own) → State
      fresh_left geometry r = told_as r.fresh (is_some now.held)

      fresh_again : (geometry : Geometry) (r : IsRefused geometry now.held now.leaves now.counts now.own) → IsFresh geometry (fresh_left geometry r)
      fresh_again geometry r =
          let f = r.is_fresh in
          record {
            layout = f.layout;
            perms = f.perms;
            many = f.many;
            each = f.each;
            calm = λ is. f.calm (r.told is);
            store = f.store;
            committed = f.committed;
            leaves = f.leaves;
            versions = f.versions;
            pending = f.pending;
          }

      refused_shut : (geometry : Geometry) (r : IsRefused geometry now.held now.leaves now.counts now.own) → HoldsShut false (uncommitted (fresh_left geometry r)) now
      refused_shut geometry r =
          let x : State = uncommitted r.fresh in
          let b = is_some now.held in
          record {
            held = on_held now.held (HoldsPool x false) (HoldsPool (told_as x b) false) (holds_as x b false) r.held;
            importable = on_held now.held (λ h. IsImportable x h now.leaves) (λ h. IsImportable (told_as x b) h now.leaves) (importable_as x b now) r.importable;
            told = refl;
            counts = r.counts;
            uber = r.uber;
          }

      -- none was opened: where the desk is then
      none_made : opening.HasLayout spec (props_of keys) → pool ≡ None
          → IsSame before now ⊎ ((geometry : Geometry) × (geometry_of spec (props_of keys) ≡ Ok geometry) × HoldsUncommitted geometry now.held now.leaves now.counts now.own)
          → (new : Desk) × IsDesk rack area entry now pool new × MakesNone text children keys x new × IsClosed new
      none_made has none s = elim s [
        | inl same ↦ (
          x,
          record { stands = subst (λ p. IsPool rack area p x) (sym none) stands; shelf = same_shelf x entry before now (not_open x stands) same shelf },
          (has.0, layout_is (Ok has.0) has.1, inl refl),
          is_closed x stands,
        )
        | inr all ↦ elim all.2 [
          | inl made ↦ (
            Made (is_some now.held) 0 all.0,
            record { stands = subst (λ p. IsPool rack area p (Made (is_some now.held) 0 all.0)) (sym none) tt; shelf = record { told_is = refl; made = made } },
            (all.0, layout_is (Ok all.0) all.1, inr (inl (is_some now.held, refl))),
            tt,
          )
          | inr r ↦ (
            Shut false (uncommitted (fresh_left all.0 r)),
            record { stands = subst (λ p. IsPool rack area p (Shut false (uncommitted (fresh_left all.0 r)))) (sym none) tt; shelf = refused_shut all.0 r },
            (all.0, layout_is (Ok all.0) all.1, inr (inr (fresh_left all.0 r, fresh_again all.0 r, refl))),
            tt,
          )
        ]
      ]

      pub no_memory : result ≡ Err fault.NoMemory → CreateDid rack area text children keys entry x (NoMemory name.Create) now pool
      no_memory is =
          let o = pools (Err fault.NoMemory) is in
          let n = none_made o.0 o.1 (shelves (Err fault.NoMemory) is) in
          record { new = n.0; desk = n.1; turns = turns_none x n.0 stands n.2 }

      pub shelf_failed : result ≡ Err fault.Shelf → Broken rack area ShelfFails (CreatePool text children keys) entry before x now pool
      shelf_failed is =
          let o = pools (Err fault.Shelf) is in
          let n = none_made (o.1, o.2) o.0 (shelves (Err fault.Shelf) is) in
          record {
            new = n.0;
            desk = n.1;
            breaks = breaks_none x n.0 stands n.2;
            cause = cause_closed rack area (CreatePool text children keys) before now pool x n.0 (is_closed x stands) n.3 (o.1, layout_is (Ok o.1) o.2, o.3);
          }

  -- ---- by the answer of the command

  module _ (text : List ℕ) (children : ℕ) (keys : PoolKeys) (entry before now : OnShelf) (pool : Option (Pool R A)) (x : Desk) (shelf : IsShelf x entry before) (stands : IsPool rack area None x) where
    abbrev Came : Result Reply Failed → Type 0
    Came said = CreateIs rack area text children keys entry before x now pool (stop_of said)

    by_answer : (spec : Spec) → spec_by text children keys.version ≡ Ok spec → (answer : Result answer.Made CreateFault) → MakeIs rack area spec (props_of keys) before now pool answer → (said : Result Reply Failed)
        → IsCreateReply answer said → Came said
    by_answer spec read (Ok m) makes said replied = subst Came (sym replied) (made text children keys entry before now spec read (Ok m) pool x shelf stands makes m refl)
    by_answer spec read (Err (fault.Spec why)) makes said replied = subst Came (sym replied) (refused text children keys entry before now spec read (Err (fault.Spec why)) pool x shelf stands makes why refl)
    by_answer spec read (Err fault.NoMemory) makes said replied = subst Came (sym replied) (no_memory text children keys entry before now spec read (Err fault.NoMemory) pool x shelf stands makes refl)
    by_answer spec read (Err fault.Shelf) makes (Ok reply) replied = absurd replied
    by_answer spec read (Err fault.Shelf) makes (Err failed) replied = shelf_failed text children keys entry before now spec read (Err fault.Shelf) pool x shelf stands makes refl

    by_spec : (spec : Result Spec SpecFault) → spec_by text children keys.version ≡ spec → (answer : Result answer.Made CreateFault) → CreateDoes rack area keys before now pool spec answer → (said : Result Reply Failed)
        → IsCreateReply answer said → Came said
    by_spec (Ok spec) read answer makes said replied = by_answer spec read answer makes said replied
    by_spec (Err why) read answer none said replied =
        let reply : said ≡ Ok (CreateRefused why) = subst (λ a. IsCreateReply a said) none.0 replied in
        subst Came (sym reply)
        (subst (λ p. CreateDid rack area text children keys entry x (CreateRefused why) now p) (sym none.1)
        (subst (λ n. CreateDid rack area text children keys entry x (CreateRefused why) n None) (sym none.2)
        (unreadable text children keys entry before None x why read refl (record { stands = stands; shelf = shelf }))))

    pub create_came : (said : Result Reply Failed) → CreateSays rack area text children keys before now pool said → Came said
    create_came said says = by_spec (spec_by text children keys.version) refl says.0 says.2 said says.1
