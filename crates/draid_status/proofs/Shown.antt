-- What a status shows is told in looks at all metaslabs, and then one at the uberblock.
use Rattle.std.proofs.Common.{◌≡◌, ◌∙◌, ◌++◌, [], ◌∷◌, ℕ, List, Result, Ok, Err, refl, ap, sym, subst}
use Rattle.std.specs.Prelude.{IfOk}
use Rattle.std.specs.declared.vec.Vec.{Vec}
use Rattle.std.specs.declared.alloc.Global.{Global}
use Rattle.draid_names.specs.declared.fault.NoMemory.{NoMemory as Starved}
use Rattle.draid_rack.specs.declared.Rack as racks
use Rattle.draid_area.specs.declared.Area as areas
use Rattle.draid_script.specs.declared.line.StatusFormat.{StatusFormat}
use Rattle.draid_session.specs.Holds.{Hold, LookedUber, OnUber}
use Rattle.draid_session.specs.Looks.{LooksFrom}
use Rattle.draid_session.specs.State.{State}
use Rattle.draid_session.specs.Status.{IsPoolView, text_by}
use Rattle.draid_report.specs.declared.view.View.{View as PoolView}
use Rattle.draid_pool.specs.Carries.{CarriesOut}
use Rattle.draid_pool.specs.Pools.{Represents}
use Rattle.draid_status.specs.Views.{uber_view, views_of}
use Rattle.draid_pool.specs.declared.pool.Pool.{Pool}
use Rattle.draid_pool.proofs.Looking.{changes_none, looked, looks_at}
use Rattle.draid_pool.proofs.Steps.{carried, follows_on}
use Rattle.draid_status.specs.Says.{ShowsPool, StatusDoes}

-- the text of a view, by the format that was asked for
pub text_shows : (x : State) (form said : StatusFormat) → form ≡ said → (got : Result PoolView Starved) (view : PoolView) → got ≡ Ok view
    → IfOk got (IsPoolView x.geometry x.perms x.store (uber_view x) (views_of x)) → (result : Result (Vec ℕ Global) Starved) → IfOk result (λ text. text.items ≡ text_by x.geometry x.perms said view)
    → IfOk result (λ text. ShowsPool x form text.items)
text_shows x form said is got view at shown (Err starved) texts = tt
text_shows x form said is got view at shown (Ok text) texts = record {
  view = view;
  is = subst (λ (r : Result PoolView Starved). IfOk r (IsPoolView x.geometry x.perms x.store (uber_view x) (views_of x))) at shown;
  text_is = texts ∙ ap (λ f. text_by x.geometry x.perms f view) (sym is);
}

module _ {R A : Type 0} (rack : racks.Ghosts R) (area : areas.Ghosts A) (pool : Pool R A) (x : State) (stands : Represents rack area pool x) where
  abbrev looks : List Hold
  looks = looks_at 0 x.metaslabs

  looked_all : LooksFrom 0 x.geometry.props.metaslabs looks (views_of x)
  looked_all = subst (λ n. LooksFrom 0 n looks (views_of x)) stands.stands.many (looked 0 x.metaslabs)

  -- a text that shows the state
  pub text_told : (form : StatusFormat) (text : Vec ℕ Global) → ShowsPool x form text.items → CarriesOut rack area pool x (StatusDoes x form (Ok text))
  text_told form text shows =
      carried rack area pool x (looks ++ OnUber (uber_view x) LookedUber ∷ []) x (StatusDoes x form (Ok text))
      (follows_on looks (OnUber (uber_view x) LookedUber ∷ []) x x x (changes_none x [] x.metaslabs 0 refl refl) (x, record { sees = refl; acts = refl }, refl)) stands (
        refl,
        record {
          views = views_of x;
          u = uber_view x;
          view = shows.view;
          looks = looks;
          each = looked_all;
          holds_are = refl;
          is = shows.is;
          text_is = shows.text_is;
        },
      )

  -- none, for want of memory
  pub none_told : (form : StatusFormat) (starved : Starved) → CarriesOut rack area pool x (StatusDoes x form (Err starved))
  none_told form starved = carried rack area pool x [] x (StatusDoes x form (Err starved)) refl stands (refl, refl)

  pub status_told : (form : StatusFormat) (result : Result (Vec ℕ Global) Starved) → IfOk result (λ text. ShowsPool x form text.items) → CarriesOut rack area pool x (StatusDoes x form result)
  status_told form (Ok text) shows = text_told form text shows
  status_told form (Err starved) shows = none_told form starved
