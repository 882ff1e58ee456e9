-- The tables of a metaslab that is opened fit together.
use Rattle.std.proofs.Common.{◌≡◌, ◌==◌, ◌<◌, ◌≤◌, ◌+◌, ◌-◌, ◌*◌, ◌/◌, ◌%◌, ◌||◌, ◌&&◌, inl, inr, not, min, nat_le, nat_lt, ℕ, zero, suc, Bool, true, false, List, [], ◌∷◌, length, map, find, All, Option, Some, None, Ok, cond, refl, sym, ◌∙◌, ap, subst, arith, slice_get, slice_index_or, option_map, if◌then◌else◌, eqb-true, eq-eqb}
use Rattle.std.proofs.Math.Nat.{mod-lt}
use Rattle.std.proofs.lemmas.Nat.{div-mul-add}
use Rattle.std.specs.List.{list_any}
use Rattle.std.proofs.lemmas.Bool.{true≢false}
use Rattle.std.proofs.lemmas.Bool.Decides.{nat_tests}
use Rattle.std.proofs.lemmas.Grind.{div_ceil_times}
use Rattle.draid_names.specs.declared.numbers.TheConstants.{LAST_NUMBER}
use Rattle.draid_names.specs.declared.pointer.Pointer.{Pointer}
use Rattle.draid_spec.specs.declared.layout.Geometry.{Geometry}
use Rattle.draid_perm.specs.declared.perms.Perms.{Perms}
use Rattle.draid_spec.specs.Geometry.{IsGeometry, metaslab_sectors, metaslab_stripes}
use Rattle.draid_area.specs.Area.{Content, OnTold}
use Rattle.draid_shelf.specs.declared.kit.Kit.{Kit}
use Rattle.draid_rack.specs.Moments.{LeavesTold}
use Rattle.draid_rack.specs.Rack.{Shape, Told, OnBothTold}
use Rattle.draid_segments.specs.Acts.{DropsBut, IsNamed}
use Rattle.draid_slots.specs.Changes.{HasRoom}
use Rattle.draid_slots.specs.Table.{SlotTable, is_leaf_kind, is_logged}
use Rattle.draid_slots.specs.declared.slot.Detached.{Detached}
use Rattle.draid_block.specs.Blocks.{cut_of}
use Rattle.draid_block.specs.Columns as columns
use Rattle.draid_ranges.specs.Runs.{has_in, in_run}
use Rattle.draid_metaslab.specs.Spaces.{Stripes, is_free}
use Rattle.draid_machine.specs.declared.names.Stage.TheVariants.{Live}
use Rattle.draid_machine.proofs.Small.{some_injective}
use Rattle.draid_entries.specs.declared.entry.Entry.{Entry}
use Rattle.draid_entries.specs.declared.entries.Entries.{Entries}
use Rattle.draid_entries.specs.Entries.{entry_at}
use Rattle.draid_entries.specs.Live.{HasLive, begins_at}
use Rattle.draid_entries.specs.Maps.{staged}
use Rattle.draid_record.specs.declared.limits.Limits.{Limits}
use Rattle.draid_record.specs.Ranges.{AreBlocks, IsBlock}
use Rattle.draid_record.proofs.Digits.{IsBytes}
use Rattle.draid_record.proofs.Spelled.{spelled_long}
use Rattle.draid_record.proofs.Whole.{whole_found}
use Rattle.draid_record.specs.Record as spec
use Rattle.draid_record.specs.Record.{ArmTold, RecordTold, limits_of, record_of}
use Rattle.draid_stable.specs.declared.opening.Tables as opening
use Rattle.draid_stable.specs.Images.{image_by}
use Rattle.draid_record.specs.declared.sizes.TheConstants.{SLOTS_AT}
use Rattle.draid_stable.specs.Opening.{AreRead, arms_told, block_at, has_leaf, has_leaf_arm, lacking_from, opening_of, run_of}
use Rattle.draid_stable.proofs.Opened.{found_at}
use Rattle.draid_stable.proofs.Places.{each_block, inside, sound_limits}
use Rattle.draid_stable.proofs.Settled.{get_is}
use Rattle.draid_stable.proofs.There.{arm_named, has_sectors, leaf_there, named_leaf, whole_parts}
use Rattle.draid_shard.specs.Fits as fits
use Rattle.draid_pass.specs.declared.pass.Pass.{Pass}
use Rattle.draid_shard.specs.Fits.{AreHere, HasLeaves, HasStripe, IsLeaf, IsPlaced, LogsHaveRoom, Tables, TicketsAreNew, changes_for_end, is_rebuild, lacking}
use Rattle.draid_shard.specs.Part.{IsRun}
use Rattle.draid_import.specs.Reopening.{GivesBack}

-- ---- stripes of a block

up : (n m : ℕ) → 0 < m → n / m + min 1 (n % m) ≡ (n + m - 1) / m
up n m some =
    let q : ℕ = n / m + min 1 (n % m) in
    let bounds = div_ceil_times n m some in
    let left : ℕ = n + m - 1 - q * m in
    let low = bounds.0 in
    let high = bounds.1 in
    let parts : n + m - 1 ≡ q * m + left = omega (arith, low, high) in
    let less : left < m = omega (arith, low, high) in
    sym (ap (λ k. k / m) parts ∙ div-mul-add q m left less)

same_stripes : (geometry : Geometry) (metaslab group next len : ℕ) → IsGeometry geometry → spec.stripes_of (limits_of geometry metaslab group next) len ≡ columns.stripes_of (cut_of geometry) len
unfolding columns.stripes_of columns.sectors_of
same_stripes geometry metaslab group next len is =
    let sound = sound_limits geometry metaslab group next is in
    let sectors = up len geometry.props.sector sound.some_sector in
    sym (ap (λ n. n / geometry.spec.ndata + min 1 (n % geometry.spec.ndata)) sectors ∙ up ((len + geometry.props.sector - 1) / geometry.props.sector) geometry.spec.ndata sound.some_data)

other : (a b : ℕ) → b < a → (a == b) ≡ false
other a b less = grind (arith, nat_tests)

-- ---- blocks of a list that ascends

-- where a block of the list begins
from_low : (limits : Limits) (low k : ℕ) (blocks : List Pointer) (b : Pointer) → AreBlocks limits low blocks → find (begins_at k) blocks ≡ Some b → low ≤ k
from_low limits low k [] b are found = absurd (cc)
from_low limits low k (c ∷ rest) b are found = by (k == c.first) refl found (from_low limits (c.first + c.stripes) k rest b are.1)
  where
    by : (t : Bool) → (k == c.first) ≡ t → cond t (Some c) (find (begins_at k) rest) ≡ Some b → (find (begins_at k) rest ≡ Some b → c.first + c.stripes ≤ k) → low ≤ k
    by true is e more = let same = eqb-true k c.first is in let behind = are.0.behind_low in omega (arith, same, behind)
    by false is e more = let above = more e in let behind = are.0.behind_low in omega (arith, above, behind)

-- two that begin at different stripes lie apart
pub apart_blocks : (limits : Limits) (low j k : ℕ) (blocks : List Pointer) (a b : Pointer) → AreBlocks limits low blocks → find (begins_at j) blocks ≡ Some a → find (begins_at k) blocks ≡ Some b → j < k
    → j + a.stripes ≤ k
apart_blocks limits low j k [] a b are one two less = absurd (cc)
apart_blocks limits low j k (c ∷ rest) a b are one two less =
    by (j == c.first) (k == c.first) refl refl one two (λ e f. apart_blocks limits (c.first + c.stripes) j k rest a b are.1 e f less)
  where
    above : (x : ℕ) (d : Pointer) → find (begins_at x) rest ≡ Some d → c.first + c.stripes ≤ x
    above x d e = from_low limits (c.first + c.stripes) x rest d are.1 e

    by : (s t : Bool) → (j == c.first) ≡ s → (k == c.first) ≡ t → cond s (Some c) (find (begins_at j) rest) ≡ Some a → cond t (Some c) (find (begins_at k) rest) ≡ Some b
        → (find (begins_at j) rest ≡ Some a → find (begins_at k) rest ≡ Some b → j + a.stripes ≤ k) → j + a.stripes ≤ k
    by true true at also e f more = let x = eqb-true j c.first at in let y = eqb-true k c.first also in absurd (omega (arith, less, x, y))
    by true false at also e f more =
        let x = eqb-true j c.first at in
        let y = above k b f in
        let own : c.stripes ≡ a.stripes = ap (λ (p : Pointer). p.stripes) (some_injective c a e) in
        omega (arith, x, y, own)
    by false true at also e f more = let y = eqb-true k c.first also in let x = above j a e in absurd (omega (arith, less, x, y))
    by false false at also e f more = more e f

-- a block of the list is the one that is found at its first stripe
pub found_block : (limits : Limits) (low k : ℕ) (blocks : List Pointer) (d : Pointer) → AreBlocks limits low blocks → k < length blocks
    → find (begins_at (slice_index_or blocks k d).first) blocks ≡ Some (slice_index_or blocks k d)
found_block limits low k [] d are less = absurd (omega (arith, less))
found_block limits low zero (c ∷ rest) d are less = ap (λ t. cond t (Some c) (find (begins_at c.first) rest)) (eq-eqb c.first c.first refl)
found_block limits low (suc k) (c ∷ rest) d are less =
    let b : Pointer = slice_index_or rest k d in
    let more = found_block limits (c.first + c.stripes) k rest d are.1 (omega (arith, less)) in
    let above = from_low limits (c.first + c.stripes) b.first rest b are.1 more in
    let some = are.0.some_stripes in
    ap (λ t. cond t (Some c) (find (begins_at b.first) rest)) (other b.first c.first (omega (arith, above, some))) ∙ more

-- a stripe that is taken is one of a block
run_at : (blocks : List Pointer) (x : ℕ) (d : Pointer) → has_in (map run_of blocks) x ≡ true → (k : ℕ) × (k < length blocks) × (in_run (run_of (slice_index_or blocks k d)) x ≡ true)
run_at [] x d has = absurd (true≢false (sym has))
run_at (b ∷ bs) x d has = by (in_run (run_of b) x) refl has (run_at bs x d)
  where
    by : (t : Bool) → in_run (run_of b) x ≡ t → (t || has_in (map run_of bs) x) ≡ true
        → (has_in (map run_of bs) x ≡ true → (k : ℕ) × (k < length bs) × (in_run (run_of (slice_index_or bs k d)) x ≡ true))
        → (k : ℕ) × (k < length (b ∷ bs)) × (in_run (run_of (slice_index_or (b ∷ bs) k d)) x ≡ true)
    by true is e more = (0, omega arith, is)
    by false is e more = let z = more e in (suc z.0, (let l = z.1 in omega (arith, l)), z.2)

at_run : (blocks : List Pointer) (k x : ℕ) (b : Pointer) → slice_get blocks k ≡ Some b → in_run (run_of b) x ≡ true → has_in (map run_of blocks) x ≡ true
at_run [] k x b at is = absurd (cc)
at_run (c ∷ rest) zero x b at is = ap (λ t. t || has_in (map run_of rest) x) (ap (λ p. in_run (run_of p) x) (some_injective c b at) ∙ is)
at_run (c ∷ rest) (suc k) x b at is = by (in_run (run_of c) x) (at_run rest k x b at is)
  where
    by : (t : Bool) → has_in (map run_of rest) x ≡ true → (t || has_in (map run_of rest) x) ≡ true
    by true e = refl
    by false e = e

within_run : (first stripes x : ℕ) → nat_le first x && nat_lt x (first + stripes) ≡ true → (first ≤ x) × (x < first + stripes)
within_run first stripes x is = (grind (arith, nat_tests), grind (arith, nat_tests))

in_run_so : (first stripes x : ℕ) → first ≤ x → x < first + stripes → (nat_le first x && nat_lt x (first + stripes)) ≡ true
in_run_so first stripes x low high = grind (arith, nat_tests)

free_below : (free has : Bool) (x total : ℕ) → free ≡ (nat_lt x total && not has) → free ≡ true → x < total
free_below free has x total is at = grind (arith, nat_tests, is, at)

taken : (free has : Bool) (x total : ℕ) → free ≡ (nat_lt x total && not has) → has ≡ true → free ≡ false
taken free has x total is at = grind (arith, nat_tests, is, at)

taken_back : (free has : Bool) (x total : ℕ) → free ≡ (nat_lt x total && not has) → x < total → free ≡ false → has ≡ true
taken_back free has x total is below at = grind (arith, nat_tests, is, at, below)

at_all : (P : Pointer → Type 0) (blocks : List Pointer) (k : ℕ) (b : Pointer) → All P blocks → slice_get blocks k ≡ Some b → P b
at_all P [] k b all at = absurd (cc)
at_all P (c ∷ rest) zero b all at = subst P (some_injective c b at) (all zero c (omega arith))
at_all P (c ∷ rest) (suc k) b all at = at_all P rest k b (λ j e l. all (suc j) e (omega (arith, l))) at

-- ---- the tables
module _ (geometry : Geometry) (metaslab group next : ℕ) (blocks : List Pointer) (is : IsGeometry geometry) (low : group < LAST_NUMBER) (are : AreBlocks (limits_of geometry metaslab group next) 0 blocks)
    (entries : Entries) (live : HasLive entries blocks) where
  -- the block of an entry
  pub record IsLiveBlock (first : ℕ) (e : Entry) : Type 0 where
    pub block : Pointer
    pub found : find (begins_at first) blocks ≡ Some block
    pub is_it : e ≡ staged Live block
    pub first_is : block.first ≡ first
    pub place : ℕ
    pub there : slice_get blocks place ≡ Some block

  pub live_block : (first : ℕ) (e : Entry) → entry_at entries first ≡ Some e → IsLiveBlock first e
  live_block first e there = by (find (begins_at first) blocks) refl (sym (live.at first) ∙ there)
    where
      by : (o : Option Pointer) → find (begins_at first) blocks ≡ o → option_map (staged Live) o ≡ Some e → IsLiveBlock first e
      by None found at = absurd (cc)
      by (Some b) found at =
          let place = found_at (begins_at first) blocks b found in
          record { block = b; found = found; is_it = sym (some_injective (staged Live b) e at); first_is = sym (eqb-true first b.first place.2); place = place.0; there = place.1 }

  block_fits : (low : ℕ) (b : Pointer) → IsBlock (limits_of geometry metaslab group next) low b → fits.IsBlock geometry (group + 1) b
  block_fits from b block = record {
    object_small = block.object_small;
    some_seq = block.some_seq;
    most_seq = block.most_seq;
    digest_len = block.digest_len;
    some = block.some_len;
    short = block.most_len;
    stripes = eqb-true b.stripes (spec.stripes_of (limits_of geometry metaslab group next) b.len) block.whole ∙ same_stripes geometry metaslab group next b.len is;
    born = (let most = block.most_birth in omega (arith, most));
    low = (let most = block.most_birth in omega (arith, most, low));
  }

  all_fit : All (fits.IsBlock geometry (group + 1)) blocks
  all_fit = each_block (fits.IsBlock geometry (group + 1)) (limits_of geometry metaslab group next) 0 blocks are block_fits

  run_fits : (from : ℕ) (b : Pointer) → IsBlock (limits_of geometry metaslab group next) from b → IsRun geometry b.first b.stripes
  run_fits from b block = record {
    some = block.some_stripes;
    inside = (inside geometry metaslab group next from b is block).below;
    group =
        let height : 0 < geometry.props.height = (let h = is.props.least_height in omega (arith, h)) in
        let less = mod-lt b.first height in
        let fits = block.in_group in
        omega (arith, less, fits);
  }

  all_runs : All (λ (b : Pointer). IsRun geometry b.first b.stripes) blocks
  all_runs = each_block (λ b. IsRun geometry b.first b.stripes) (limits_of geometry metaslab group next) 0 blocks are run_fits

  all_here : All (λ (b : Pointer). b.metaslab ≡ metaslab) blocks
  all_here = each_block (λ b. b.metaslab ≡ metaslab) (limits_of geometry metaslab group next) 0 blocks are (λ from b block. block.metaslab_is)

  -- what holds of each block holds of each entry's pointer
  of_entry : (P : Pointer → Type 0) → All P blocks → (first : ℕ) (e : Entry) → entry_at entries first ≡ Some e → P e.pointer
  of_entry P all first e there = let b = live_block first e there in subst P (sym (ap (λ (x : Entry). x.pointer) b.is_it)) (at_all P blocks b.place b.block all b.there)

  pub are_here : AreHere entries metaslab
  are_here = record { each = of_entry (λ b. b.metaslab ≡ metaslab) all_here }

  pub no_writes : (from : ℕ) → TicketsAreNew entries from
  no_writes from first e put missed there stage = let live_stage : e.stage ≡ Live = ap (λ (x : Entry). x.stage) (live_block first e there).is_it in absurd (cc)

  module _ (space : Stripes) (free : (x : ℕ) → is_free space x ≡ (nat_lt x (metaslab_stripes geometry) && not (has_in (map run_of blocks) x))) (height : space.height ≡ geometry.props.height)
      (total : space.total ≡ metaslab_stripes geometry) (held : space.held ≡ length blocks) where
    held_block : All (λ (b : Pointer). (x : ℕ) → b.first ≤ x → x < b.first + b.stripes → is_free space x ≡ false) blocks
    held_block k d less x from to =
        let b : Pointer = slice_index_or blocks k d in
        taken (is_free space x) (has_in (map run_of blocks) x) x (metaslab_stripes geometry) (free x) (at_run blocks k x b (get_is blocks k d less) (in_run_so b.first b.stripes x from to))

    placed : (first : ℕ) (e : Entry) → entry_at entries first ≡ Some e → IsPlaced geometry space (group + 1) e.pointer
    placed first e there = record {
      run = of_entry (λ b. IsRun geometry b.first b.stripes) all_runs first e there;
      held = of_entry (λ b. (x : ℕ) → b.first ≤ x → x < b.first + b.stripes → is_free space x ≡ false) held_block first e there;
      is_block = of_entry (fits.IsBlock geometry (group + 1)) all_fit first e there;
    }

    apart : (j k : ℕ) (a b : Entry) → entry_at entries j ≡ Some a → entry_at entries k ≡ Some b → j < k → j + a.pointer.stripes ≤ k
    apart j k a b one two less =
        let x = live_block j a one in
        let y = live_block k b two in
        let far = apart_blocks (limits_of geometry metaslab group next) 0 j k blocks x.block y.block are x.found y.found less in
        let same : a.pointer.stripes ≡ x.block.stripes = ap (λ (e : Entry). e.pointer.stripes) x.is_it in
        omega (arith, far, same)

    covered : (x : ℕ) → x < metaslab_stripes geometry → is_free space x ≡ false → HasStripe entries x
    covered x below taken_at =
        let has = taken_back (is_free space x) (has_in (map run_of blocks) x) x (metaslab_stripes geometry) (free x) below taken_at in
        let none : Pointer = record { object = 0; seq = 0; metaslab = 0; first = 0; stripes = 0; len = 0; birth = 0; digest = [] } in
        let at = run_at blocks x none has in
        let b : Pointer = slice_index_or blocks at.0 none in
        let within = within_run b.first b.stripes x at.2 in
        record {
          first = b.first;
          entry = staged Live b;
          there = live.at b.first ∙ ap (option_map (staged Live)) (found_block (limits_of geometry metaslab group next) 0 at.0 blocks none are at.1);
          from = within.0;
          to = within.1;
        }

    pub tables_fit : Tables geometry (group + 1) space entries
    tables_fit = record {
      height = height;
      total = total;
      count = held ∙ sym live.count;
      inside = λ x at. free_below (is_free space x) (has_in (map run_of blocks) x) x (metaslab_stripes geometry) (free x) at;
      placed = placed;
      apart = apart;
      covered = covered;
    }

-- ---- logs
lacking_most : (log : ℕ → Bool) (from n : ℕ) → lacking log from n ≤ n
lacking_most log from zero = omega arith
lacking_most log from (suc n) = by (log (from + n)) (lacking_most log from n)
  where
    by : (b : Bool) → lacking log from n ≤ n → lacking log from n + (if b then 0 else 1) ≤ suc n
    by true few = omega (arith, few)
    by false few = omega (arith, few)

-- two groups, and for a rebuild once more
pub enough_room : (slots : SlotTable) (pass : Option Pass) (from arms : ℕ) → HasRoom slots 4 arms → LogsHaveRoom slots from 2 (changes_for_end pass None)
enough_room slots pass from arms room at there =
    let few = lacking_most (is_logged slots at) from 2 in
    let more = room.logs at there in
    let end = most (is_rebuild pass) in
    omega (arith, few, more, end)
  where
    most : (b : Bool) → (if b then 2 else 0) ≤ 2
    most true = omega arith
    most false = omega arith

-- ---- leaves
pub leaves_there : (old new : Shape) (geometry : Geometry) (slots : SlotTable) (all : List (List ArmTold)) → slots.arms ≡ arms_told all → slots.detached ≡ []
    → lacking_from (has_leaf old (metaslab_sectors geometry)) SLOTS_AT all ≡ None → old.bytes ≡ geometry.props.sector → new.bytes ≡ old.bytes
    → ((leaf : ℕ) → has_leaf_arm slots leaf ≡ true → new.leaves leaf ≡ old.leaves leaf) → HasLeaves new geometry slots
leaves_there old new geometry slots all arms none lacks bytes same kept = record { bytes = same ∙ bytes; leaves = leaves }
  where
    nobody : (detached : List Detached) (leaf : ℕ) → detached ≡ [] → list_any (λ (gone : Detached). is_leaf_kind gone.kind && (gone.number == leaf)) detached ≡ true → ⊥
    nobody detached leaf none there = absurd (cc)

    leaves : (leaf : ℕ) → IsLeaf slots leaf → new.leaves leaf ≡ Some (metaslab_sectors geometry)
    leaves leaf (inl arm) =
        kept leaf (arm_named slots arm.0 arm.1 leaf arm.2 arm.3 arm.4)
        ∙ has_sectors old (metaslab_sectors geometry) leaf (leaf_there slots (has_leaf old (metaslab_sectors geometry)) all arm.0 arm.1 leaf arms lacks arm.2 arm.3 arm.4)
    leaves leaf (inr gone) = absurd (nobody slots.detached leaf none gone)

-- what goes is named by no record
pub drops_but : (slots : SlotTable) (value : RecordTold) (o p : Option Told) → slots.arms ≡ arms_told value.slots → LeavesTold (λ leaf sector. not (has_leaf_arm slots leaf)) o p
    → OnBothTold o p (DropsBut (IsNamed (image_by value)))
drops_but slots value None p arms left = left
drops_but slots value (Some x) None arms left = left
drops_but slots value (Some x) (Some y) arms left = record {
  goes = λ leaf. not (has_leaf_arm slots leaf);
  kept = λ leaf named. ap not (named_leaf slots value leaf arms named);
  others = left;
}

-- ---- areas
parity : (n : ℕ) → (n % 2 == 0) ≡ true → ((n + 1) % 2 == 0) ≡ true → ⊥
parity n a b = let x : n % 2 ≡ 0 = grind (arith, nat_tests, a) in let y : (n + 1) % 2 ≡ 0 = grind (arith, nat_tests, b) in omega (arith, x, y)

no_parity : (n : ℕ) → (n % 2 == 0) ≡ false → ((n + 1) % 2 == 0) ≡ false → ⊥
no_parity n a b = let x : n % 2 ≡ 0 → ⊥ = (λ e. grind (arith, nat_tests, a, e)) in let y : (n + 1) % 2 ≡ 0 → ⊥ = (λ e. grind (arith, nat_tests, b, e)) in omega (arith, x, y)

pub told_opening : (o : Option Content) (limits : Limits) (there : ℕ → Bool) (bytes : List ℕ) (value : RecordTold) → OnTold o (λ x. x.bytes ≡ bytes) → opening_of limits there bytes ≡ Ok value
    → OnTold o (λ x. opening_of limits there x.bytes ≡ Ok value)
told_opening None limits there bytes value are found = tt
told_opening (Some x) limits there bytes value are found = ap (opening_of limits there) are ∙ found

-- and a record without a fault to a rack has none
pub told_read : (o : Option Content) (limits : Limits) (there : ℕ → Bool) (value : RecordTold) → OnTold o (λ x. opening_of limits there x.bytes ≡ Ok value) → OnTold o (λ x. record_of limits x.bytes ≡ Ok value)
told_read None limits there value found = tt
told_read (Some x) limits there value found = (whole_parts limits there x.bytes value found).read

-- what was read has a front
pub read_long : (geometry : Geometry) (perms : Perms) (limits : Limits) (there : ℕ → Bool) (bytes : List ℕ) (t : opening.Tables) → AreRead geometry perms limits there bytes t → IsBytes bytes → 10 ≤ length bytes
read_long geometry perms limits there bytes t r fits = spelled_long limits bytes r.value (whole_found limits bytes r.value fits (whole_parts limits there bytes r.value r.found).read)

pub told_place : (o : Option Content) (bytes : List ℕ) (blocks : List Pointer) (place : ℕ) → OnTold o (λ x. x.bytes ≡ bytes) → place ≡ block_at bytes blocks 0
    → OnTold o (λ x. place ≡ block_at x.bytes blocks 0)
told_place None bytes blocks place are is = tt
told_place (Some x) bytes blocks place are is = is ∙ ap (λ b. block_at b blocks 0) (sym are)

pub both_same : {R A : Type 0} (told : A → Option Content) (old new : Kit R A) (group : ℕ) → GivesBack told old new group → (told new.even ≡ told old.even) × (told new.odd ≡ told old.odd)
both_same {R} {A} told old new group back = by (group % 2 == 0) ((group + 1) % 2 == 0) refl refl back.area back.other
  where
    by : (s t : Bool) → (group % 2 == 0) ≡ s → ((group + 1) % 2 == 0) ≡ t → told (if s then new.even else new.odd) ≡ told (if s then old.even else old.odd)
        → (if t then new.even else new.odd) ≡ (if t then old.even else old.odd) → (told new.even ≡ told old.even) × (told new.odd ≡ told old.odd)
    by true true one two area other = absurd (parity group one two)
    by true false one two area other = (area, ap told other)
    by false true one two area other = (ap told other, area)
    by false false one two area other = absurd (no_parity group one two)
