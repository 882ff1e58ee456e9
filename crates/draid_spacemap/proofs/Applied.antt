use Rattle.std.proofs.Common.{◌≡◌, ◌+◌, ◌<◌, ◌∷◌, [], ◌++◌, ℕ, Bool, true, false, ◌||◌, ◌&&◌, not, if◌then◌else◌, List, length, take, get_or, refl, ap, arith, sym, ◌∙◌, map, All, ◌^◌}
use Rattle.std.proofs.lemmas.List.Elements.{All-map}
use Rattle.draid_ranges.specs.declared.run.Run.{Run}
use Rattle.draid_ranges.specs.Numbers.{AreRuns, Numbers}
use Rattle.draid_ranges.proofs.Within.{end_below}
use Rattle.std.proofs.lemmas.List.{take_more}
use Rattle.draid_ranges.specs.Runs.{has_in, in_run}
use Rattle.draid_spacemap.specs.declared.map.Record.{Record}
use Rattle.draid_spacemap.specs.Records.{IsSpan, allocation, is_allocated_by}

pub one_more : (records : List Record) (entry : Record) (was : Bool) (x : ℕ) → is_allocated_by was (records ++ entry ∷ []) x ≡ (if in_run entry.run x then entry.allocates else is_allocated_by was records x)
one_more [] entry was x = refl
one_more (r ∷ records) entry was x = one_more records entry (if in_run r.run x then r.allocates else was) x

pub applied_more : (records : List Record) (i : ℕ) (d : Record) (x : ℕ) (now was : Bool) → i < length records
    → now ≡ (if in_run (get_or records i d).run x then (get_or records i d).allocates else was) → was ≡ is_allocated_by false (take i records) x → now ≡ is_allocated_by false (take (i + 1) records) x
applied_more records i d x now was l is h =
    let entry = get_or records i d in
    is ∙ ap (λ w. if in_run entry.run x then entry.allocates else w) h ∙ sym (one_more (take i records) entry false x) ∙ ap (λ rs. is_allocated_by false rs x) (sym (take_more records i d l))

allocated : (t b : Bool) → (if t then true else b) ≡ (b || t)
allocated t b = grind arith

freed : (t b : Bool) → (if t then false else b) ≡ (b && not t)
freed t b = grind arith

pub allocated_more : (old new : List Record) (entry : Record) → entry.allocates ≡ true → new ≡ old ++ entry ∷ [] → (x : ℕ) → is_allocated_by false new x ≡ (is_allocated_by false old x || in_run entry.run x)
allocated_more old new entry a is x =
    ap (λ rs. is_allocated_by false rs x) is ∙ one_more old entry false x ∙ ap (λ b. if in_run entry.run x then b else is_allocated_by false old x) a ∙ allocated (in_run entry.run x) (is_allocated_by false old x)

pub freed_more : (old new : List Record) (entry : Record) → entry.allocates ≡ false → new ≡ old ++ entry ∷ [] → (x : ℕ) → is_allocated_by false new x ≡ (is_allocated_by false old x && not (in_run entry.run x))
freed_more old new entry a is x =
    ap (λ rs. is_allocated_by false rs x) is ∙ one_more old entry false x ∙ ap (λ b. if in_run entry.run x then b else is_allocated_by false old x) a ∙ freed (in_run entry.run x) (is_allocated_by false old x)

only : (was : Bool) → was ≡ (was || false)
only was = grind arith

joined : (was t b : Bool) → ((if t then true else was) || b) ≡ (was || (t || b))
joined was t b = grind arith

pub allocated_runs : (runs : List Run) (was : Bool) (x : ℕ) → is_allocated_by was (map allocation runs) x ≡ (was || has_in runs x)
allocated_runs [] was x = only was
allocated_runs (run ∷ runs) was x = allocated_runs runs (if in_run run x then true else was) x ∙ joined was (in_run run x) (has_in runs x)

pub all_spans : (runs : List Run) (set : Numbers) → AreRuns set runs → All (λ (entry : Record). IsSpan entry.run) (map allocation runs)
all_spans runs set h =
    All-map (λ (entry : Record). IsSpan entry.run) allocation runs (λ k d l.
    let b = end_below runs k 0 (2 ^ 48 + 1) d h.apart l in
    record { some = (h.maximal k d l).some; below = omega arith })
