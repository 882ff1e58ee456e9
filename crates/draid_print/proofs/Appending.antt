-- Known bytes of sinks.
use Rattle.std.proofs.Common.{sym, ap, ◌∙◌, ℕ, List, [], ◌++◌, Option, Some, None, append_assoc}
use Rattle.std.specs.Io.KnownBytes.{Appends}
use Rattle.std.proofs.lemmas.List.{append-nil}

pub appends_none : (old : Option (List ℕ)) → Appends old old []
appends_none None = tt
appends_none (Some xs) = sym (append-nil xs)

pub appends_more : (old mid new : Option (List ℕ)) (xs ys : List ℕ) → Appends old mid xs → Appends mid new ys → Appends old new (xs ++ ys)
appends_more None mid new xs ys a b = tt
appends_more (Some o) None new xs ys a b = absurd a
appends_more (Some o) (Some m) None xs ys a b = absurd b
appends_more (Some o) (Some m) (Some n) xs ys a b = b ∙ ap (λ zs. zs ++ ys) a ∙ append_assoc o xs ys
