-- What the last line of a run comes to.
use Rattle.std.proofs.Common.{arith, ◌≡◌, ◌==◌, ◌⊎◌, inl, inr, refl, sym, subst, ℕ, List, [], ◌∷◌, true, Option, length}
use Rattle.std.specs.Io.KnownBytes.{Appends}
use Rattle.std.proofs.lemmas.Bool.Decides.{nat_tests}
use Rattle.std.proofs.lemmas.List.{append-nil}
use Rattle.draid_run.specs.Script.{EndsWithLine, Prints}
use Rattle.draid_exits.specs.Status.{HasNumber, last_text}
use Rattle.draid_exits.specs.declared.status.Status.{Status}
use Rattle.draid_exits.specs.declared.status.Status.TheVariants.{Done, Usage, Line, SourceFault, SinkFault, NoMemory, TooLong, ShelfFault, Record}
use Rattle.draid_print.proofs.Appending.{appends_none}

module _ (line : List ℕ) (old new : Option (List ℕ)) where
  -- all of a line was put
  pub prints_all : (ended : Status) → Appends old new line → Prints ended ended line old new
  prints_all SinkFault appends = (line, [], sym (append-nil line), appends)
  prints_all Done appends = (refl, appends)
  prints_all Usage appends = (refl, appends)
  prints_all (Line number kind at) appends = (refl, appends)
  prints_all SourceFault appends = (refl, appends)
  prints_all NoMemory appends = (refl, appends)
  prints_all (TooLong number) appends = (refl, appends)
  prints_all ShelfFault appends = (refl, appends)
  prints_all (Record which place kind) appends = (refl, appends)

  -- what the status was meant to be
  pub prints_source : (meant status : Status) → Prints status meant line old new → status ≡ SourceFault → meant ≡ SourceFault
  prints_source meant status prints is = sym (subst (λ s. Prints s meant line old new) is prints).0

  pub prints_done : (meant status : Status) → Prints status meant line old new → status ≡ Done → meant ≡ Done
  prints_done meant status prints is = sym (subst (λ s. Prints s meant line old new) is prints).0

  pub prints_usage : (meant status : Status) → Prints status meant line old new → status ≡ Usage → meant ≡ Usage
  prints_usage meant status prints is = sym (subst (λ s. Prints s meant line old new) is prints).0

  pub prints_shelf : (meant status : Status) → Prints status meant line old new → status ≡ ShelfFault → meant ≡ ShelfFault
  prints_shelf meant status prints is = sym (subst (λ s. Prints s meant line old new) is prints).0

  pub ends_with : (meant ended status : Status) → (meant ≡ ended) ⊎ ((meant ≡ NoMemory) × HasNumber ended) → line ≡ last_text meant → Prints status meant line old new → EndsWithLine ended status old new
  ends_with meant ended status is text prints = record { meant = meant; is = is; prints = subst (λ t. Prints status meant t old new) text prints }

-- none was to be put
pub prints_none : (line : List ℕ) (held : Option (List ℕ)) (ended : Status) → (length line == 0) ≡ true → Prints ended ended line held held
prints_none [] held ended none = prints_all [] held held ended (appends_none held)
prints_none (byte ∷ line) held ended none = absurd (grind (arith, nat_tests, none))

-- there was no memory for a line that names a number
module _ (status : Status) where
  pub no_source : (status ≡ SourceFault → NoMemory ≡ SourceFault) → (P : Type 0) → status ≡ SourceFault → P
  no_source by P is = absurd (cc (by is))

  pub no_done : (status ≡ Done → NoMemory ≡ Done) → (P : Type 0) → status ≡ Done → P
  no_done by P is = absurd (cc (by is))

  pub no_usage : (status ≡ Usage → NoMemory ≡ Usage) → (P : Type 0) → status ≡ Usage → P
  no_usage by P is = absurd (cc (by is))

  pub no_shelf : (status ≡ ShelfFault → NoMemory ≡ ShelfFault) → (P : Type 0) → status ≡ ShelfFault → P
  no_shelf by P is = absurd (cc (by is))

  pub no_sink : (P R : Type 0) → (status ≡ SinkFault → (NoMemory ≡ SinkFault) ⊎ R) → status ≡ SinkFault → P ⊎ R
  no_sink P R by is = elim (by is) [ inl wrong ↦ absurd (cc wrong) | inr rose ↦ inr rose ]
