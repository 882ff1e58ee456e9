-- What is known of blocks stays so, whatever event comes.
use Rattle.std.proofs.Common.{◌≡◌, ◌∙◌, ◌&&◌, inl, inr, ℕ, Bool, true, false, List, Option, Some, None, refl, sym, ap, subst, not, if◌then◌else◌}
use Rattle.std.proofs.lemmas.Bool.{true≢false}
use Rattle.std.specs.Prelude.{IsSome, nat_le}
use Rattle.draid_spec.specs.declared.layout.Geometry.{Geometry}
use Rattle.draid_machine.specs.declared.event.Event.{Event}
use Rattle.draid_machine.specs.declared.event.Event.TheVariants.{Begin, Put, Finish, Abort, Free, Fetch, Damage, Offline, Online, Attach, Detach, Upgrade, Close, Seal, Commit, Plan, Ready, Lend, LandStripe, LandBlock, Done, Cancel, Reopen}
use Rattle.draid_machine.specs.declared.names.Held.{Held}
use Rattle.draid_machine.specs.declared.names.Key.{Key}
use Rattle.draid_machine.specs.declared.names.Stage.{Stage}
use Rattle.draid_machine.specs.declared.names.Stage.TheVariants as stage
use Rattle.draid_machine.specs.After.{is_freed_block, keep_if, seal_held, set_held}
use Rattle.draid_machine.specs.Names.{is_block, is_freed_by, key_eq}
use Rattle.draid_machine.proofs.Small.{bool_cases, both_true, key_true, some_injective}
use Rattle.draid_objects.specs.Blocks.{DoesToBlocks, SameBlocks, Table, is_block_in, without_freed}
use Rattle.draid_segments.specs.Segments.{Pieces}
use Rattle.draid_pool.specs.Bytes.{HasBytes, KnowsBlock, KnowsBlocks, KnowsFinished}

-- a block that is freed, or a ticket that ends, has the bytes that it had
pub staged_bytes : (geometry : Geometry) (h : Held) (s : Stage) (key : Key) (pieces : Pieces) → HasBytes geometry h key pieces → HasBytes geometry (record h { stage = s }) key pieces
staged_bytes geometry h s key pieces has = record { content = has.content; len = has.len; digest = has.digest; bytes = has.bytes; columns = has.columns; are = has.are; rows = has.rows }

staged_known : (geometry : Geometry) (h g : Held) (s : Stage) (key : Key) (pieces : Pieces) → record h { stage = s } ≡ g → KnowsBlock geometry h key pieces → KnowsBlock geometry g key pieces
staged_known geometry h g s key pieces same known = subst (λ (i : Held). KnowsBlock geometry i key pieces) same (λ column row some. staged_bytes geometry h s key pieces (known column row some))

module _ (geometry : Geometry) (pieces : Pieces) where
  same_known : (old new : Table) → SameBlocks old new → KnowsBlocks geometry pieces old → KnowsBlocks geometry pieces new
  same_known old new same known key h at block = elim (same key) [
    | inl e ↦ known key h (sym e ∙ at) block
    | inr e ↦ absurd (let f : true ≡ false = sym block ∙ (sym (ap is_block_in at) ∙ e.1) in true≢false f)
  ]

  -- one entry is set
  set_known : (old new : Table) (key : Key) (v : Option Held) → new ≡ set_held old key v → ((h : Held) → v ≡ Some h → KnowsBlock geometry h key pieces) → KnowsBlocks geometry pieces old → KnowsBlocks geometry pieces new
  set_known old new key v made comes known k h at block = elim (bool_cases (key_eq key k)) [
    | inl one ↦ subst (λ (j : Key). KnowsBlock geometry h j pieces) (key_true key k one) (comes h (sym (ap (λ (f : Table). f k) made ∙ ap (λ b. if b then v else old k) one) ∙ at))
    | inr other ↦ known k h (sym (ap (λ (f : Table). f k) made ∙ ap (λ b. if b then v else old k) other) ∙ at) block
  ]

  freed_known : (group : ℕ) (old new : Table) → new ≡ without_freed group old → KnowsBlocks geometry pieces old → KnowsBlocks geometry pieces new
  freed_known group old new made known k h at block = elim (bool_cases (is_freed_block group (old k))) [
    | inl gone ↦ absurd (let e : None ≡ Some h = sym (ap (λ (f : Table). f k) made ∙ ap (λ b. if b then None else old k) gone) ∙ at in cc)
    | inr stays ↦ known k h (sym (ap (λ (f : Table). f k) made ∙ ap (λ b. if b then None else old k) stays) ∙ at) block
  ]

  pub sealed_known : (group : ℕ) (old new : Table) → ((k : Key) → new k ≡ seal_held group (old k)) → KnowsBlocks geometry pieces old → KnowsBlocks geometry pieces new
  sealed_known group old new made known k h at block = by (old k) refl (sym (made k) ∙ at)
    where
      kept : (g : Held) (b : Bool) → old k ≡ Some g → (is_block g.stage && nat_le g.birth group && not (is_freed_by group g.stage)) ≡ b → keep_if b (record g { stage = stage.Live }) ≡ Some h → KnowsBlock geometry h k pieces
      kept g false was is e = absurd (cc)
      kept g true was is e =
          staged_known geometry g h stage.Live k pieces (some_injective (record g { stage = stage.Live }) h e)
          (known k g was (both_true (is_block g.stage) (nat_le g.birth group) (both_true (is_block g.stage && nat_le g.birth group) (not (is_freed_by group g.stage)) is).0).0)

      by : (o : Option Held) → old k ≡ o → seal_held group o ≡ Some h → KnowsBlock geometry h k pieces
      by None was e = absurd (cc)
      by (Some g) was e = kept g (is_block g.stage && nat_le g.birth group && not (is_freed_by group g.stage)) was refl e

  pub moved_known : (old new : Table) (e : Event) → DoesToBlocks e old new → KnowsFinished geometry pieces old e → KnowsBlocks geometry pieces old → KnowsBlocks geometry pieces new
  moved_known old new (Finish key) does ends known = elim does.made [
    | inl made ↦ set_known old new key (Some (record does.held { stage = stage.Live })) made
        (λ h is. staged_known geometry does.held h stage.Live key pieces (some_injective (record does.held { stage = stage.Live }) h is) (ends does.held does.found)) known
    | inr made ↦ set_known old new key None made (λ h is. absurd (cc)) known
  ]
  moved_known old new (Free key group) does ends known =
      set_known old new key (Some (record does.held { stage = stage.Freed group })) does.made
      (λ h is. staged_known geometry does.held h (stage.Freed group) key pieces (some_injective (record does.held { stage = stage.Freed group }) h is) (known key does.held does.found (ap is_block does.live))) known
  moved_known old new (Commit group) does ends known = freed_known group old new does known
  moved_known old new (Reopen group doubtful) does ends known = sealed_known group old new does known
  moved_known old new (Begin key first stripes len birth digest) does ends known = same_known old new does known
  moved_known old new (Put key landed failed) does ends known = same_known old new does known
  moved_known old new (Abort key) does ends known = same_known old new does known
  moved_known old new (Fetch key failed) does ends known = same_known old new does known
  moved_known old new (Damage leaf sector failed) does ends known = same_known old new does known
  moved_known old new (Offline leaf) does ends known = same_known old new does known
  moved_known old new (Online leaf) does ends known = same_known old new does known
  moved_known old new (Attach slot arm) does ends known = same_known old new does known
  moved_known old new (Detach slot arm) does ends known = same_known old new does known
  moved_known old new Upgrade does ends known = same_known old new does known
  moved_known old new (Close group) does ends known = same_known old new does known
  moved_known old new (Seal group failed) does ends known = same_known old new does known
  moved_known old new (Plan kind) does ends known = same_known old new does known
  moved_known old new Ready does ends known = same_known old new does known
  moved_known old new (Lend failed) does ends known = same_known old new does known
  moved_known old new (LandStripe pass serial failed) does ends known = same_known old new does known
  moved_known old new (LandBlock pass serial failed patched unreadable) does ends known = same_known old new does known
  moved_known old new (Done failed) does ends known = same_known old new does known
  moved_known old new Cancel does ends known = same_known old new does known

-- a block has the bytes that it had, where its pieces are the same
pub same_bytes : (geometry : Geometry) (h : Held) (key : Key) (pieces other : Pieces) → other key ≡ pieces key → HasBytes geometry h key pieces → HasBytes geometry h key other
same_bytes geometry h key pieces other same has = record {
  content = has.content;
  len = has.len;
  digest = has.digest;
  bytes = has.bytes;
  columns = has.columns;
  are = has.are;
  rows = λ c row below inside. ap (λ f. f c row) same ∙ has.rows c row below inside;
}

pub is_none_known : (o : Option (List ℕ)) → o ≡ None → IsSome o → ⊥
is_none_known o none some = (let e : false ≡ true = subst (λ p. IsSome p) none some in true≢false (sym e))

-- of a block of which nothing is known, nothing is
pub nothing_known : (geometry : Geometry) (h : Held) (key : Key) (pieces : Pieces) → ((column row : ℕ) → pieces key column row ≡ None) → KnowsBlock geometry h key pieces
nothing_known geometry h key pieces none column row some = absurd (is_none_known (pieces key column row) (none column row) some)
