-- The tables fit together after each change of one entry.
use Rattle.std.proofs.Common.{if◌then◌else◌, ◌≡◌, ◌⊎◌, ◌==◌, ◌+◌, ◌*◌, ◌<◌, ◌≤◌, ◌%◌, ◌/◌, ◌||◌, ℕ, Bool, true, false, Option, Some, None, arith, refl, sym, ap, inl, inr, ◌∙◌, subst}
use Rattle.std.proofs.Math.Nat.{mod-lt, mul-le-mul_right}
use Rattle.std.proofs.lemmas.Bool.{cases_lt, cases_eq}
use Rattle.std.proofs.lemmas.Bool.Decides.{nat_tests}
use Rattle.draid_names.specs.declared.pointer.Pointer.{Pointer}
use Rattle.draid_spec.specs.declared.layout.Geometry.{Geometry}
use Rattle.draid_spec.specs.Geometry.{metaslab_stripes}
use Rattle.draid_map.proofs.Radix.{its_digits}
use Rattle.draid_ranges.specs.Runs.{is_between}
use Rattle.draid_metaslab.specs.Spaces.{IsKept, Stripes, is_free}
use Rattle.draid_metaslab.specs.Spots.{IsSpot}
use Rattle.draid_machine.specs.declared.names.Stage.{Stage}
use Rattle.draid_entries.specs.declared.entry.Entry.{Entry}
use Rattle.draid_entries.specs.declared.entries.Entries.{Entries}
use Rattle.draid_entries.specs.Entries.{SetsEntry, count_of, entry_at}
use Rattle.draid_entries.specs.Maps.{staged}
use Rattle.draid_shard.specs.Fits.{HasStripe, IsPlaced, Tables}
use Rattle.draid_shard.specs.Part.{IsRun}

-- ---- entries

pub first_is : (t : Entries) (first : ℕ) (e : Entry) → entry_at t first ≡ Some e → e.pointer.first ≡ first
first_is t first e there = (t.agree.found first e there).first_is

-- what was set is there, and all else as before
pub set_here : (old new : Entries) (p : Pointer) (entry : Option Entry) → SetsEntry old new p entry → entry_at new p.first ≡ entry
set_here old new p entry sets = sets.at p.first ∙ ap (λ b. if b then entry else entry_at old p.first) same
  where
    same : (p.first == p.first) ≡ true
    same = grind (arith, nat_tests)

pub set_there : (old new : Entries) (p : Pointer) (entry : Option Entry) (first : ℕ) → SetsEntry old new p entry → (first ≡ p.first → ⊥) → entry_at new first ≡ entry_at old first
set_there old new p entry first sets other = sets.at first ∙ ap (λ b. if b then entry else entry_at old first) differs
  where
    differs : (first == p.first) ≡ false
    differs = grind (arith, nat_tests, other)

pub entry_cases : (old new : Entries) (p : Pointer) (k : ℕ) (entry : Option Entry) (e : Entry) → SetsEntry old new p entry → entry_at new k ≡ Some e
    → ((k ≡ p.first) × (entry ≡ Some e)) ⊎ ((k ≡ p.first → ⊥) × (entry_at old k ≡ Some e))
entry_cases old new p k entry e sets h = elim (cases_eq k p.first) [
  | inl same ↦ here same
  | inr other ↦ inr (other, sym (set_there old new p entry k sets other) ∙ h)
] where
  here : k ≡ p.first → ((k ≡ p.first) × (entry ≡ Some e)) ⊎ ((k ≡ p.first → ⊥) × (entry_at old k ≡ Some e))
  here same = inl (same, sym (set_here old new p entry sets) ∙ ap (entry_at new) (sym same) ∙ h)

-- ---- runs

-- a spot within one group lies so in the group that its first stripe has
spot_group : (height first need group : ℕ) → 0 < height → 0 < need → group * height ≤ first → first + need ≤ group * height + height → first % height + need ≤ height
spot_group height first need group some more low high =
    let digits : first / height * height + first % height ≡ first = its_digits height first in
    let less : first % height < height = mod-lt first some in
    let q : first / height ≡ group = elim (cases_lt (first / height) group) [
      | inl below ↦
          let up : (first / height + 1) * height ≤ group * height = mul-le-mul_right height (omega arith) in
          let next : (first / height + 1) * height ≡ first / height * height + height = grind arith in
          absurd (omega (arith, digits, less, up, next))
      | inr above ↦ elim (cases_lt group (first / height)) [
        | inl more_than ↦
            let up : (group + 1) * height ≤ first / height * height = mul-le-mul_right height (omega arith) in
            let next : (group + 1) * height ≡ group * height + height = grind arith in
            absurd (omega (arith, digits, up, next))
        | inr not_more ↦ omega arith
      ]
    ] in
    let at : group * height + first % height ≡ first = subst (λ g. g * height + first % height ≡ first) q digits in
    omega (arith, at)

-- a run that was free
pub record WasFree (geometry : Geometry) (free : ℕ → Bool) (first need : ℕ) : Type 0 where
  pub run : IsRun geometry first need
  pub was : (x : ℕ) → first ≤ x → x < first + need → free x ≡ true

pub spot_free : (geometry : Geometry) (group : ℕ) (space : Stripes) (entries : Entries) (first need : ℕ) → Tables geometry group space entries → 0 < need
    → IsSpot (is_free space) space.height need first → first + need ≤ space.total → WasFree geometry (is_free space) first need
spot_free geometry group space entries first need t more spot inside =
    let height = t.height in
    let total = t.total in
    let low = spot.from in
    let high = spot.to in
    let some : 0 < space.height = omega (arith, low, high) in
    let in_group : first % space.height + need ≤ space.height = spot_group space.height first need spot.group some more low high in
    record {
      run = record { some = omega arith; inside = omega (arith, total); group = rw (sym height) in_group };
      was = spot.all;
    }

-- ---- changes

-- an entry whose stripes are still taken
pub moved : (geometry : Geometry) (group : ℕ) (old new : Stripes) (pointer : Pointer) → IsPlaced geometry old group pointer
    → ((x : ℕ) → pointer.first ≤ x → x < pointer.first + pointer.stripes → is_free new x ≡ false) → IsPlaced geometry new group pointer
moved geometry group old new pointer p held = record { run = p.run; held = held; is_block = p.is_block }

-- the space of the layout, with so many runs out
pub record IsSpaceOf (geometry : Geometry) (space : Stripes) (runs : ℕ) : Type 0 where
  pub height : space.height ≡ geometry.props.height
  pub total : space.total ≡ metaslab_stripes geometry
  pub count : space.held ≡ runs

pub space_of : (geometry : Geometry) (group : ℕ) (old new : Stripes) (entries : Entries) (runs : ℕ) → Tables geometry group old entries → IsKept old new → new.held ≡ runs
    → IsSpaceOf geometry new runs
space_of geometry group old new entries runs t kept count = record { height = kept.height ∙ t.height; total = kept.total ∙ t.total; count = count }

-- the entry of a pointer and another one are apart
pub entries_apart : (geometry : Geometry) (group : ℕ) (space : Stripes) (entries : Entries) (at k : ℕ) (own e : Entry) → Tables geometry group space entries → entry_at entries at ≡ Some own
    → entry_at entries k ≡ Some e → (k ≡ at → ⊥) → (k + e.pointer.stripes ≤ at) ⊎ (at + own.pointer.stripes ≤ k)
entries_apart geometry group space entries at k own e t ho he other = elim (cases_lt k at) [
  | inl before ↦ inl (t.apart k at e own he ho before)
  | inr after ↦ inr (t.apart at k own e ho he (omega (arith, other)))
]

-- the run of an entry that goes was given back
pub released_tables : (geometry : Geometry) (group : ℕ) (old new : Stripes) (entries next : Entries) (pointer : Pointer) (stage : Stage) → Tables geometry group old entries
    → entry_at entries pointer.first ≡ Some (staged stage pointer)
    → ((x : ℕ) → is_free new x ≡ (is_free old x || is_between pointer.first (pointer.first + pointer.stripes) x))
    → SetsEntry entries next pointer None → IsSpaceOf geometry new (count_of next) → Tables geometry group new next
released_tables geometry group old new entries next pointer stage t own frees sets is = record {
  height = is.height;
  total = is.total;
  count = is.count;
  inside = λ x at. within x (is_free old x) refl at;
  placed = λ k e h. elim (entry_cases entries next pointer k None e sets h) [
    | inl none ↦ absurd (let n = none.1 in cc)
    | inr other ↦ old_placed k e other.0 other.1
  ];
  apart = λ j k a b ha hb lt. elim (entry_cases entries next pointer j None a sets ha) [
    | inl none ↦ absurd (let n = none.1 in cc)
    | inr first ↦ elim (entry_cases entries next pointer k None b sets hb) [
      | inl none ↦ absurd (let n = none.1 in cc)
      | inr second ↦ t.apart j k a b first.1 second.1 lt
    ]
  ];
  covered = λ x below taken.
      let was : is_free old x ≡ false = (let f = frees x in grind (arith, nat_tests, f, taken)) in
      let out : (x < pointer.first) ⊎ (pointer.first + pointer.stripes ≤ x) = (let f = frees x in outside x f taken) in
      stays x (t.covered x below was) out;
} where
  within : (x : ℕ) → (b : Bool) → is_free old x ≡ b → is_free new x ≡ true → x < metaslab_stripes geometry
  within x true was at = t.inside x was
  within x false was at =
      let f = frees x in
      let high : x < pointer.first + pointer.stripes = grind (arith, nat_tests, f, was, at) in
      let run = (t.placed pointer.first (staged stage pointer) own).run.inside in
      omega (arith, high, run)

  outside : (x : ℕ) → is_free new x ≡ (is_free old x || is_between pointer.first (pointer.first + pointer.stripes) x) → is_free new x ≡ false
      → (x < pointer.first) ⊎ (pointer.first + pointer.stripes ≤ x)
  outside x f taken = elim (cases_lt x pointer.first) [
    | inl before ↦ inl before
    | inr from ↦ elim (cases_lt x (pointer.first + pointer.stripes)) [
      | inl to ↦ absurd (let b : is_between pointer.first (pointer.first + pointer.stripes) x ≡ true = grind (arith, nat_tests, from, to) in grind (arith, nat_tests, f, taken, b))
      | inr after ↦ inr after
    ]
  ]

  stays : (x : ℕ) → HasStripe entries x → (x < pointer.first) ⊎ (pointer.first + pointer.stripes ≤ x) → HasStripe next x
  stays x h out = record { first = h.first; entry = h.entry; there = set_there entries next pointer None h.first sets other ∙ h.there; from = h.from; to = h.to } where
    other : h.first ≡ pointer.first → ⊥
    other same =
        let eq : pointer.stripes ≡ h.entry.pointer.stripes = (let a : entry_at entries h.first ≡ Some (staged stage pointer) = ap (entry_at entries) same ∙ own in let b = h.there in cc) in
        let from = h.from in
        let to = h.to in
        elim out [ inl before ↦ omega arith | inr after ↦ omega arith ]

  old_placed : (k : ℕ) (e : Entry) → (k ≡ pointer.first → ⊥) → entry_at entries k ≡ Some e → IsPlaced geometry new group e.pointer
  old_placed k e other h =
      let p = t.placed k e h in
      let at : e.pointer.first ≡ k = first_is entries k e h in
      moved geometry group old new e.pointer p (λ x low high. held x (out x (omega (arith, at, low)) (omega (arith, at, high))) (p.held x low high)) where
        out : (x : ℕ) → k ≤ x → x < k + e.pointer.stripes → (x < pointer.first) ⊎ (pointer.first + pointer.stripes ≤ x)
        out x low high = elim (entries_apart geometry group old entries pointer.first k (staged stage pointer) e t own h other) [
          | inl before ↦ inl (omega arith)
          | inr after ↦ inr (omega arith)
        ]

        held : (x : ℕ) → (x < pointer.first) ⊎ (pointer.first + pointer.stripes ≤ x) → is_free old x ≡ false → is_free new x ≡ false
        held x (inl before) f = let was = frees x in grind (arith, nat_tests, was, f)
        held x (inr after) f = let was = frees x in grind (arith, nat_tests, was, f)
