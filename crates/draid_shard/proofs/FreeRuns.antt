-- Runs of free stripes by the space and by a state; why a metaslab takes no block.
use Rattle.std.proofs.Common.{◌≡◌, ◌⊎◌, ◌+◌, ◌-◌, ◌*◌, ◌<◌, ◌≤◌, ◌%◌, ◌/◌, ◌∙◌, ◌↔◌, ℕ, zero, suc, Bool, true, false, nat_eq, Option, Some, None, IfNone, IfSome, is_some, option_map, arith, refl, sym, ap, inl, inr, subst}
use Rattle.std.proofs.Math.Nat.{mod-lt}
use Rattle.std.proofs.lemmas.Bool.{true≢false}
use Rattle.std.proofs.lemmas.Bool.Decides.{nat_tests}
use Rattle.draid_names.specs.Numbers.{most_held}
use Rattle.draid_names.specs.declared.pass_kind.PassKind.{PassKind}
use Rattle.draid_names.specs.declared.pass_kind.PassKind.TheVariants.{Rebuild, Heal}
use Rattle.draid_spec.specs.declared.layout.Geometry.{Geometry}
use Rattle.draid_spec.specs.Geometry.{metaslab_stripes}
use Rattle.draid_map.proofs.Radix.{its_digits}
use Rattle.draid_metaslab.specs.Spaces.{Stripes, is_free}
use Rattle.draid_metaslab.specs.Spots.{IsLargest, IsSpot}
use Rattle.draid_machine.specs.declared.names.Key.{Key}
use Rattle.draid_machine.specs.declared.names.Held.{Held}
use Rattle.draid_machine.specs.State as machine
use Rattle.draid_machine.specs.Step.{Fits, HoldsFewer, IsEnabled, IsTaken, IsLongest}
use Rattle.draid_machine.proofs.Small.{none_some, some_injective}
use Rattle.draid_pass.specs.declared.pass.Pass.{Pass}
use Rattle.draid_slots.specs.Table.{SlotTable}
use Rattle.draid_entries.specs.declared.entries.Entries.{Entries}
use Rattle.draid_entries.specs.Entries.{count_of, held_in}
use Rattle.draid_entries.specs.Maps.{held_at, key_of}
use Rattle.draid_entries.proofs.Counted.{few, few_back}
use Rattle.draid_shard.specs.declared.shard.Shard.{Shard}
use Rattle.draid_shard.specs.declared.fault.Shut.{Shut}
use Rattle.draid_shard.specs.declared.fault.Shut.TheVariants.{Disabled, Full, Worn}
use Rattle.draid_shard.specs.Rooms.{ShutBy, TakesBlocks}
use Rattle.draid_shard.specs.Fits.{Tables, is_rebuild}
use Rattle.draid_shard.specs.States.{IsIn}
use Rattle.draid_slots.specs.States.{pass_in}
use Rattle.draid_shard.proofs.Held.{held_entry, key_leads}
use Rattle.draid_shard.proofs.Tables.{WasFree, first_is, spot_free}

-- ---- runs

-- the last stripe of a run has the quotient of the first
pub same_group : (height first need : ℕ) → 0 < height → 0 < need → first % height + need ≤ height → (first + need - 1) / height ≡ first / height
same_group height first need some more within =
    let digits : first / height * height + first % height ≡ first = its_digits height first in
    let sum : first + need - 1 ≡ first / height * height + (first % height + (need - 1)) = omega (arith, digits, more) in
    ap (λ n. n / height) sum ∙ quotient (first / height) (first % height + (need - 1)) (omega (arith, within, more))
  where
    quotient : (q r : ℕ) → r < height → (q * height + r) / height ≡ q
    quotient q r less = search (arith)

module _ (geometry : Geometry) (group : ℕ) (space : Stripes) (entries : Entries) (t : Tables geometry group space entries) (l : machine.Layout) (q : machine.Core)
    (same : (key : Key) → q.held key ≡ held_in entries key) (height_is : l.height ≡ geometry.props.height) (stripes_are : l.stripes ≡ metaslab_stripes geometry) where
  -- stripes that no block and no ticket has are free
  free_there : (x : ℕ) → x < metaslab_stripes geometry → (IsTaken q x → ⊥) → is_free space x ≡ true
  free_there x below none = by (is_free space x) refl
    where
      by : (b : Bool) → is_free space x ≡ b → is_free space x ≡ true
      by true at = at
      by false at =
          let h = t.covered x below at in
          let from = h.from in
          let to = h.to in
          let first = first_is entries h.first h.entry h.there in
          absurd (none (record {
            key = key_of h.entry.pointer;
            held = held_at h.entry;
            found = same (key_of h.entry.pointer) ∙ key_leads entries h.first h.entry h.there;
            taken = grind (arith, nat_tests, from, to, first);
          }))

  -- a free stripe is none of a block
  taken_there : (x : ℕ) → is_free space x ≡ true → IsTaken q x → ⊥
  taken_there x free taken =
      let found = held_entry entries taken.key taken.held (sym (same taken.key) ∙ taken.found) in
      let it = t.placed taken.held.first found.e found.there in
      let at = first_is entries taken.held.first found.e found.there in
      let stripes : found.e.pointer.stripes ≡ taken.held.stripes = ap (λ (h : Held). h.stripes) found.held_is in
      let has = taken.taken in
      let low : taken.held.first ≤ x = grind (arith, nat_tests, has) in
      let high : x < taken.held.first + taken.held.stripes = grind (arith, nat_tests, has) in
      let not_free = it.held x (omega (arith, low, at)) (omega (arith, high, stripes, at)) in
      absurd (cc)

  -- a free run fits by the state
  pub run_fits : (first need : ℕ) → 0 < geometry.props.height → WasFree geometry (is_free space) first need → Fits l q first need
  run_fits first need some fits = record {
    inside = (let inside = fits.run.inside in omega (arith, inside, stripes_are));
    group = rw height_is (same_group geometry.props.height first need some (let more = fits.run.some in omega (arith, more)) fits.run.group);
    free = λ x low high taken. taken_there x (fits.was x low high) taken;
  }

  -- and one that fits by the state is free
  pub spot_of : (x need : ℕ) → 0 < geometry.props.height → 0 < need → Fits l q x need → IsSpot (is_free space) space.height need x
  spot_of x need some more fits = rw t.height (record {
    group = x / height;
    from = omega (arith, digits);
    to = to;
    all = λ y low high. free_there y (let inside = fits.inside in omega (arith, inside, stripes_are, high)) (fits.free y low high);
  }) where
    height : ℕ
    height = geometry.props.height

    digits : x / height * height + x % height ≡ x
    digits = its_digits height x

    last_digits : (x + need - 1) / height * height + (x + need - 1) % height ≡ x + need - 1
    last_digits = its_digits height (x + need - 1)

    to : x + need ≤ x / height * height + height
    to =
        let same_quotient : (x + need - 1) / height ≡ x / height = rw height_is at fits.group in
        let less : (x + need - 1) % height < height = mod-lt (x + need - 1) some in
        let at : x / height * height + (x + need - 1) % height ≡ x + need - 1 = subst (λ n. n * height + (x + need - 1) % height ≡ x + need - 1) same_quotient last_digits in
        omega (arith, less, at, more)

  -- a spot lies inside the metaslab
  pub spot_fits : (first need : ℕ) → 0 < geometry.props.height → 0 < need → IsSpot (is_free space) space.height need first → Fits l q first need
  spot_fits first need some more spot =
      let last = t.inside (first + need - 1) (spot.all (first + need - 1) (omega (arith, more)) (omega (arith, more))) in
      let total = t.total in
      run_fits first need some (spot_free geometry group space entries first need t more spot (omega (arith, last, total, more)))

  -- the longest free run is the longest that fits
  pub longest_of : (run : ℕ) → 0 < geometry.props.height → IsLargest (is_free space) space.height run → IsLongest l q run
  longest_of run some largest = record {
    fits = by run refl;
    longest = λ first stripes more fits. largest.most stripes first (spot_of first stripes some more fits);
  } where
    by : (n : ℕ) → run ≡ n → (run ≡ 0) ⊎ ((first : ℕ) × Fits l q first run)
    by zero at = inl at
    by (suc n) at =
        let more : 0 < run = omega (arith, at) in
        let spot = largest.found more in
        inr (spot.0, spot_fits spot.0 run some more spot.1)

-- ---- the pass

-- without a rebuild the metaslab is enabled by the state
pub enabled_by : (slots : SlotTable) (pass : Option Pass) (q : machine.Core) → q.pass ≡ option_map (pass_in slots) pass → is_rebuild pass ≡ false → IsEnabled q
enabled_by slots None q same none p there = absurd (none_some q.pass p same there)
enabled_by slots (Some pass) q same none p there = by pass.kind refl none
  where
    by : (k : PassKind) → pass.kind ≡ k → is_rebuild (Some pass) ≡ false → p.kind ≡ Heal
    by Rebuild at none = absurd (let rebuild : is_rebuild (Some pass) ≡ true = ap (λ k. elim k as (λ k. Bool) [ Rebuild ↦ true | Heal ↦ false ]) at in cc)
    by Heal at none = ap (λ (m : machine.Pass). m.kind) (some_injective p (pass_in slots pass) (sym there ∙ same)) ∙ at

-- with one it isn't
pub disabled_by : (slots : SlotTable) (pass : Option Pass) (q : machine.Core) → q.pass ≡ option_map (pass_in slots) pass → is_rebuild pass ≡ true → IsEnabled q → ⊥
disabled_by slots None q same rebuild enabled = absurd (cc)
disabled_by slots (Some pass) q same rebuild enabled =
    let heal : pass.kind ≡ Heal = enabled (pass_in slots pass) same in
    let none : is_rebuild (Some pass) ≡ false = ap (λ k. elim k as (λ k. Bool) [ Rebuild ↦ true | Heal ↦ false ]) heal in
    true≢false (sym rebuild ∙ none)

pub neither : (a b : Bool) → (a ≡ true) ↔ (b ≡ true) → a ≡ false → b ≡ false
neither a false same none = refl
neither a true same none = absurd (true≢false (sym (same.1 refl) ∙ none))

-- ---- blocks and tickets

pub fewer : (count limit : ℕ) → count ≤ limit → (count ≡ limit → ⊥) → count < limit
fewer count limit most differs = search (arith)

-- as many as there may be are not fewer
pub full_by : {R A : Type 0} (shard : Shard R A) (w : machine.State) (full : Bool) → IsIn shard w → count_of shard.entries ≤ most_held shard.version
    → ((full ≡ true) ↔ (count_of shard.entries ≡ most_held shard.version)) → (full ≡ true) ↔ (HoldsFewer w.core (most_held w.version) → ⊥)
full_by shard w full is_in most is = (is_full, is_not)
  where
    version : most_held w.version ≡ most_held shard.version
    version = ap most_held is_in.version

    is_full : full ≡ true → HoldsFewer w.core (most_held w.version) → ⊥
    is_full at fewer =
        let less = few_back shard.entries w.core (most_held w.version) is_in.held fewer in
        let count = is.0 at in
        omega (arith, less, count, version)

    differs : (count limit : ℕ) → count ≤ limit → (count < limit → ⊥) → count ≡ limit
    differs count limit most none = search (arith)

    is_not : (HoldsFewer w.core (most_held w.version) → ⊥) → full ≡ true
    is_not none = by full refl
      where
        by : (b : Bool) → full ≡ b → full ≡ true
        by true at = at
        by false at = is.1 (differs (count_of shard.entries) (most_held shard.version) most (λ less. none (few shard.entries w.core (most_held w.version) is_in.held (omega (arith, less, version)))))

-- with fewer it takes another
pub fewer_by : {R A : Type 0} (shard : Shard R A) (w : machine.State) (full : Bool) → IsIn shard w → count_of shard.entries ≤ most_held shard.version
    → ((full ≡ true) ↔ (count_of shard.entries ≡ most_held shard.version)) → full ≡ false → HoldsFewer w.core (most_held w.version)
fewer_by shard w full is_in most is not_full =
    let version : most_held w.version ≡ most_held shard.version = ap most_held is_in.version in
    let less = fewer (count_of shard.entries) (most_held shard.version) most (λ same. true≢false (sym (is.1 same) ∙ not_full)) in
    few shard.entries w.core (most_held w.version) is_in.held (omega (arith, less, version))

-- whether a rebuild has it
pub no_rebuild : {X : Type 0} (o : Option X) (P : Type 0) → is_some o ≡ false → IfNone o P → P
no_rebuild None P is p = p
no_rebuild (Some x) P is p = absurd (true≢false is)

pub rebuild_has : (o : Option ℕ) (q : machine.Core) → is_some o ≡ true → IfSome o (λ number. (p : machine.Pass) × (q.pass ≡ Some p) × (p.kind ≡ Rebuild) × (number ≡ p.number)) → IsEnabled q → ⊥
rebuild_has None q is it enabled = true≢false (sym is)
rebuild_has (Some number) q is it enabled = let heal = enabled it.0 it.1 in let rebuild = it.2 in absurd (cc (heal, rebuild))

pub same_test : (a b x y : ℕ) → a ≡ x → b ≡ y → (nat_eq a b ≡ true) ↔ (x ≡ y)
same_test a b x y p q = ((λ e. grind (arith, nat_tests, e, p, q)), (λ e. grind (arith, nat_tests, e, p, q)))

-- a metaslab that is shut takes no blocks
pub shut_takes : {R A : Type 0} (shard : Shard R A) (w : machine.State) (shut : Shut) → ShutBy shard w (Some shut) → TakesBlocks shard w → ⊥
shut_takes shard w Disabled by takes = by takes.enabled
shut_takes shard w Full by takes = by.1 takes.fewer
shut_takes shard w Worn by takes = takes.events by.2

pub shut_by : {R A : Type 0} (shard : Shard R A) (w : machine.State) (shut : Option Shut) (why : Shut) → shut ≡ Some why → ShutBy shard w shut → TakesBlocks shard w → ⊥
shut_by shard w shut why is by = shut_takes shard w why (subst (ShutBy shard w) is by)

pub takes_by : {R A : Type 0} (shard : Shard R A) (w : machine.State) (shut : Option Shut) → shut ≡ None → ShutBy shard w shut → TakesBlocks shard w
takes_by shard w shut is by = subst (ShutBy shard w) is by
