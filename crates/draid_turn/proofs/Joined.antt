-- What a joined seat knows of what the two had seen.
use Rattle.std.proofs.Common.{◌≡◌, ℕ, Bool, true, false, List, [], ◌++◌, ◌∙◌, length, nat_lt, sym, ap, Option, All, if◌then◌else◌}
use Rattle.std.proofs.lemmas.List.{append-nil, append_assoc}
use Rattle.std.proofs.lemmas.List.Elements.{All-append, All-nil, All-weaker}
use mathlib.Core.Bool.{true≢false}
use Rattle.draid_turn.specs.Calls.{Follows}
use Rattle.draid_turn.specs.Lists.{longer, shorter}
use Rattle.draid_turn.specs.Numbers.{IsForeign, holds}
use Rattle.draid_turn.specs.declared.span.Span.{Span}
use Rattle.draid_turn.proofs.Spans.{not_true}

module _ {E : Type 0} (number : E → Option ℕ) where
  -- behind all that it has seen there is nothing
  pub follows_self : (numbers : List Span) (seen : List E) → Follows number numbers seen seen
  follows_self numbers seen = record { unseen = []; begins = sym (append-nil seen); foreign = All-nil (IsForeign number numbers) }

  abbrev pub Told : Bool → (one two : List E) (mine theirs : List Span) → Type 0
  Told b one two mine theirs = Follows number (if b then mine else theirs) (if b then two else one) (if b then one else two)

  first_by : (b : Bool) (one two : List E) (mine theirs : List Span) → Told b one two mine theirs → Follows number mine (if b then two else one) one
  first_by true one two mine theirs told = told
  first_by false one two mine theirs told = follows_self mine one

  second_by : (b : Bool) (one two : List E) (mine theirs : List Span) → Told b one two mine theirs → Follows number theirs (if b then two else one) two
  second_by true one two mine theirs told = follows_self theirs two
  second_by false one two mine theirs told = told

  pub first_follows : (one two : List E) (mine theirs : List Span) → Follows number (if nat_lt (length one) (length two) then mine else theirs) (longer one two) (shorter one two) → Follows number mine (longer one two) one
  first_follows one two mine theirs told = first_by (nat_lt (length one) (length two)) one two mine theirs told

  pub second_follows : (one two : List E) (mine theirs : List Span) → Follows number (if nat_lt (length one) (length two) then mine else theirs) (longer one two) (shorter one two) → Follows number theirs (longer one two) two
  second_follows one two mine theirs told = second_by (nat_lt (length one) (length two)) one two mine theirs told

  -- what is foreign to some numbers is so to those among them
  pub foreign_some : (all some : List Span) (xs : List E) → ((n : ℕ) → holds n some ≡ true → holds n all ≡ true) → All (IsForeign number all) xs → All (IsForeign number some) xs
  foreign_some all some xs inside foreign = All-weaker (IsForeign number all) (IsForeign number some) (λ x other n is. not_true (holds n some) (λ yes. true≢false (sym (inside n yes) ∙ other n is))) xs foreign

  -- what followed what was seen, and what followed that
  pub follows_then : (numbers all : List Span) (seen mid log : List E) → ((n : ℕ) → holds n numbers ≡ true → holds n all ≡ true) → Follows number numbers mid seen → Follows number all log mid → Follows number numbers log seen
  follows_then numbers all seen mid log inside a b = record {
    unseen = a.unseen ++ b.unseen;
    begins = b.begins ∙ (ap (λ l. l ++ b.unseen) a.begins ∙ append_assoc seen a.unseen b.unseen);
    foreign = All-append (IsForeign number numbers) a.unseen b.unseen a.foreign (foreign_some all numbers b.unseen inside b.foreign);
  }
