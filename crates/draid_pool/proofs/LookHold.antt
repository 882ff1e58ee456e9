-- A look at the room of a metaslab, by what its thread knows.
use Rattle.std.proofs.Common.{◌≡◌, ◌==◌, ◌+◌, ◌++◌, ◌∙◌, ℕ, Bool, zero, suc, List, [], ◌∷◌, Option, Some, arith, refl, sym, ap, subst, if◌then◌else◌}
use Rattle.std.specs.Prelude.{slice_get}
use Rattle.std.specs.List.{AllZip}
use Rattle.draid_names.specs.declared.pointer.Pointer.{Pointer}
use Rattle.draid_rack.specs.declared.Rack as racks
use Rattle.draid_area.specs.declared.Area as areas
use Rattle.draid_segments.specs.Segments.{Pieces}
use Rattle.draid_objects.specs.Changes.{write_of}
use Rattle.draid_entries.specs.Entries.{held_in}
use Rattle.draid_entries.specs.Maps.{key_of}
use Rattle.draid_shard.specs.Fits.{Valid}
use Rattle.draid_shard.specs.Part.{layout_in}
use Rattle.draid_shard.specs.States.{part_of}
use Rattle.draid_shard.specs.declared.shard.Shard.{Shard}
use Rattle.draid_session.specs.Does.{IsOne}
use Rattle.draid_session.specs.Holds.{Hold, Looked, On, View, view_of}
use Rattle.draid_session.specs.Looks.{IsLook, LooksFrom, OnlyLooks}
use Rattle.draid_session.specs.State.{Metaslab, State}
use Rattle.draid_pool.specs.Drifts.{Drifts}
use Rattle.draid_pool.specs.Metaslabs.{IsMetaslab}
use Rattle.draid_pool.specs.Pools.{part_in}
use Rattle.draid_pool.specs.Threads.{Knows, LeadsBy, all_of}
use Rattle.draid_pool.proofs.BytesKept.{still_bytes}
use Rattle.draid_pool.proofs.Contents.{all_long}
use Rattle.draid_pool.proofs.Finds.{Found, found_drops, found_later, found_opens, looks, points_at_on}
use Rattle.draid_pool.proofs.HoldStep.{each_on, f, follows, here, live_key, pointer_at_on}
use Rattle.draid_pool.proofs.Lastly.{write_object}
use Rattle.draid_pool.proofs.Moved.{turn, with_metaslab}
use Rattle.draid_pool.proofs.Owning.{own_drifts}

module _ {R A S : Type 0} (rack : racks.Ghosts R) (area : areas.Ghosts A) (went : S → ℕ → Shard R A → Shard R A → S → Type 0) (shared : Bool) (owns : ℕ → Bool) (a b : S) (last new : ℕ → Option (Shard R A)) (m : ℕ)
    (shard before after : Shard R A) (there : last m ≡ Some shard) (drifts : Drifts rack area shared owns shard before) (valid : Valid rack after) (same : after ≡ before)
    (is : (k : ℕ) → new k ≡ (if k == m then Some after else last k)) (goes : went a m before after b) (table : ℕ → Option Pointer) (seq floor : ℕ) (x : State) (knows : Knows rack area owns last table seq floor x) where
  abbrev y : (y : Metaslab) × (slice_get x.metaslabs m ≡ Some y) × IsMetaslab rack area (part_in x m) (knows.pieces m) shard y
  y = here rack area went shared owns a b last new m shard before after there drifts valid is goes (all_of owns) (all_of owns) table seq floor knows.pieces x knows.but_it

  abbrev z : Found rack area shared owns (part_in x m) (knows.pieces m) y.0 before
  z = f rack area went shared owns a b last new m shard before after there drifts valid is goes (all_of owns) (all_of owns) table seq floor knows.pieces x knows.but_it

  it : IsMetaslab rack area (part_in x m) z.now after z.z
  it = subst (λ (s : Shard R A). IsMetaslab rack area (part_in x m) z.now s z.z) (sym same) z.is

  -- what it saw is so of the metaslab that it found
  pub see_step : (P : View → Type 0) → ((p : Pieces) (u : Metaslab) → IsMetaslab rack area (part_in x m) p before u → P (view_of m u))
      → LeadsBy rack area went shared a b x (λ holds store. (store ≡ x.store) × IsOne (λ hold. (v : View) × IsLook m hold v × P v) holds) (Knows rack area owns new table seq floor)
  see_step P says = record {
    holds = On (view_of m z.z) Looked ∷ [];
    reached = with_metaslab x m z.z;
    store = x.store;
    follows = follows rack area went shared owns a b last new m shard before after there drifts valid is goes (all_of owns) (all_of owns) table seq floor knows.pieces x knows.but_it Looked z.z z.now it (looks (layout_in (part_in x m)) z.z) (λ e. refl)
        (still_bytes rack area (part_in x m) before after z.z (λ pieces is. subst (λ (s : Shard R A). IsMetaslab rack area (part_in x m) pieces s z.z) (sym same) is));
    done = (refl, (On (view_of m z.z) Looked, refl, (view_of m z.z, record { looked = refl; there = refl }, says z.now z.z z.is)));
    knows = record {
      pieces = turn m z.now knows.pieces;
      but_it = record {
        each = each_on rack area went shared owns a b last new m shard before after there drifts valid is goes (all_of owns) (all_of owns) table seq floor knows.pieces x knows.but_it z.z z.now it;
        holds = own_drifts owns x m y.0 z.z knows.pieces z.now y.1 (found_later rack area shared owns shard before drifts (part_in x m) (knows.pieces m) z.now y.0 z.z y.2 z.is)
            (found_opens rack area shared owns shard before drifts (part_in x m) (knows.pieces m) z.now y.0 z.z y.2 z.is)
            (found_drops rack area shared owns shard before drifts (part_in x m) (knows.pieces m) z.now y.0 z.z y.2 z.is) (all_long rack area (part_in x m) (knows.pieces m) shard y.0 y.2) z.same knows.but_it.holds;
        objects = λ q own_q. points_at_on last new (table q) (write_of x.store.changes q)
            (λ t w t_is w_is pt. pointer_at_on rack area went shared owns a b last new m shard before after there drifts valid is goes (all_of owns) (all_of owns) table seq floor knows.pieces x knows.but_it q t w own_q (pt.object_is ∙ write_object x.store.changes q w w_is)
            (λ same_at live. live_key rack before after t drifts.valid valid (ap (λ s. part_of s) same) (ap (λ (s : Shard R A). held_in s.entries (key_of t)) same) live) pt) (knows.but_it.objects q own_q);
        seq = knows.but_it.seq;
        floor = knows.but_it.floor;
      };
    };
  }

-- ---- one after another

none_more : (m : ℕ) → m + 0 ≡ m
none_more m = omega arith

one_later : (m n : ℕ) → m + suc n ≡ m + 1 + n
one_later m n = omega arith

pub looks_more : (m n : ℕ) (holds : List Hold) (views : List View) (hold : Hold) (v : View) → LooksFrom m n holds views → IsLook (m + n) hold v → LooksFrom m (suc n) (holds ++ hold ∷ []) (views ++ v ∷ [])
looks_more m zero holds views hold v is look =
    (hold, [], v, [], ap (λ hs. hs ++ hold ∷ []) is.0, ap (λ vs. vs ++ v ∷ []) is.1, subst (λ k. IsLook k hold v) (none_more m) look, (refl, refl))
looks_more m (suc n) holds views hold v is look = (
  is.0,
  is.1 ++ hold ∷ [],
  is.2,
  is.3 ++ v ∷ [],
  ap (λ hs. hs ++ hold ∷ []) is.4,
  ap (λ vs. vs ++ v ∷ []) is.5,
  is.6,
  looks_more (m + 1) n is.1 is.3 hold v is.7 (subst (λ k. IsLook k hold v) (one_later m n) look),
)

pub only_looked : (m n : ℕ) (holds : List Hold) (views : List View) → LooksFrom m n holds views → OnlyLooks holds
only_looked m zero holds views is = subst OnlyLooks (sym is.0) tt
only_looked m (suc n) holds views is = subst OnlyLooks (sym is.4) ((is.2, is.6.looked), only_looked (m + 1) n is.1 is.3 is.7)

pub zip_more : {X Y : Type 0} (P : X → Y → Type 0) (xs : List X) (ys : List Y) (x : X) (y : Y) → AllZip P xs ys → P x y → AllZip P (xs ++ x ∷ []) (ys ++ y ∷ [])
zip_more P [] [] x y zip is = (is, tt)
zip_more P [] (w ∷ ws) x y zip is = absurd zip
zip_more P (u ∷ us) [] x y zip is = absurd zip
zip_more P (u ∷ us) (w ∷ ws) x y zip is = (zip.0, zip_more P us ws x y zip.1 is)
