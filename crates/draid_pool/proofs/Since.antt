-- What comes behind a metaslab, by events.
use Rattle.std.proofs.Common.{◌≡◌, ◌++◌, ◌∙◌, inl, [], ◌∷◌, ℕ, Bool, List, refl, ap, subst}
use Rattle.draid_rack.specs.declared.Rack as racks
use Rattle.draid_area.specs.declared.Area as areas
use Rattle.draid_machine.specs.declared.event.Event.{Event}
use Rattle.draid_machine.specs.State as machine
use Rattle.draid_machine.specs.Step.{Run}
use Rattle.draid_shard.specs.Part.{layout_in}
use Rattle.draid_shard.specs.declared.shard.Shard.{Shard}
use Rattle.draid_session.specs.State.{Metaslab}
use Rattle.draid_pool.specs.Drifts.{Since, StateStep}
use Rattle.draid_pool.proofs.Imaged.{keeps_same}

run_join : (l : machine.Layout) (w v u : machine.State) (es fs : List Event) → Run l w es v → Run l v fs u → Run l w (es ++ fs) u
run_join l w v u [] fs x y = subst (λ t. Run l t fs u) x y
run_join l w v u (e ∷ es) fs x y = (x.0, x.1, run_join l x.0 v u es fs x.2 y)

joined : {A : Type 0} (a b c : List A) → (a ++ b) ++ c ≡ a ++ (b ++ c)
joined [] b c = refl
joined (x ∷ a) b c = ap (λ l. x ∷ l) (joined a b c)

pub nothing_more : (es : List Event) → es ≡ es ++ []
nothing_more [] = refl
nothing_more (e ∷ es) = ap (λ l. e ∷ l) (nothing_more es)

pub since_self : (l : machine.Layout) (x : Metaslab) → Since l x x
since_self l x = record { opened = refl; more = []; stored = nothing_more x.events; run = refl }

pub since_then : (l : machine.Layout) (x y z : Metaslab) → Since l x y → Since l y z → Since l x z
since_then l x y z a b = record {
  opened = b.opened ∙ a.opened;
  more = a.more ++ b.more;
  stored = b.stored ∙ (ap (λ es. es ++ b.more) a.stored ∙ joined x.events a.more b.more);
  run = run_join l x.world y.world z.world a.more b.more a.run b.run;
}

module _ {R A : Type 0} (rack : racks.Ghosts R) (area : areas.Ghosts A) where
  pub state_self : (of : ℕ → Bool) (shard : Shard R A) → StateStep rack area of shard shard
  state_self of shard part pieces x is = record { reached = x; now = pieces; is = is; since = since_self (layout_in part) x; images = λ mine. keeps_same x.world; same = λ k mine. inl refl }
