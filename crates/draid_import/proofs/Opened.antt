-- A metaslab that is opened from an image's record stands for what the opening gives.
use Rattle.std.proofs.Common.{◌≡◌, ◌⊎◌, ◌||◌, ◌++◌, inl, inr, ℕ, List, Option, Some, None, Result, Ok, MatchOption, Vec, Global, length, drop, refl, sym, ◌∙◌, ap, subst}
use Rattle.std.proofs.lemmas.List.{take-append-drop}
use Rattle.draid_area.specs.Area as content
use Rattle.draid_rack.specs.Rack.{OnTold, Told, OnBothTold}
use Rattle.draid_rack.specs.declared.Rack.{Ghosts}
use Rattle.draid_spec.specs.declared.layout.Geometry.{Geometry}
use Rattle.draid_spec.specs.Geometry.{metaslab_sectors}
use Rattle.draid_machine.specs.declared.event.Event.TheVariants as event
use Rattle.draid_machine.specs.declared.names.Segment.{Segment}
use Rattle.draid_machine.specs.After.{reopen_state}
use Rattle.draid_machine.specs.Created.{IsReached}
use Rattle.draid_machine.specs.Images.{IsImage}
use Rattle.draid_machine.specs.Names.{has_segment}
use Rattle.draid_machine.specs.Sound.{Sound}
use Rattle.draid_machine.specs.State as machine
use Rattle.draid_machine.specs.Step.{ReopenStep}
use Rattle.draid_machine.proofs.Rows.{reached_sound}
use Rattle.draid_record.specs.Record.{RecordTold, limits_of, record_of}
use Rattle.draid_record.specs.Written.{record_bytes}
use Rattle.draid_record.specs.declared.fault.RecordFault.{RecordFault}
use Rattle.draid_record.proofs.Again.{record_again}
use Rattle.draid_record.proofs.Ranged.{ranged_spelled}
use Rattle.draid_segments.specs.Acts.{DropsBut, IsNamed}
use Rattle.draid_segments.specs.Segments.{Backed, Firm, Pieces}
use Rattle.draid_segments.proofs.Leaving.{open_backed}
use Rattle.draid_shelf.specs.declared.kit.Kit.{Kit}
use Rattle.draid_stable.specs.Images.{LeavesBelow, image_by}
use Rattle.draid_stable.specs.Opening.{has_leaf}
use Rattle.draid_stable.specs.Stable.{HasRecord}
use Rattle.draid_shard.specs.declared.shard.Shard.{Shard}
use Rattle.draid_shard.specs.Part.{IsPart}
use Rattle.draid_shard.specs.Stands.{StandsFor}
use Rattle.draid_shard.specs.States.{IsIn, layout_by, part_of}
use Rattle.draid_shard.proofs.Standing.{has_layout, reached_more}
use Rattle.draid_import.specs.Reopening.{Opens, area_of_kit}
use Rattle.draid_pool.specs.Groups.{at_version}
use Rattle.draid_import.proofs.Reopened.{told_read}

-- a record that stands is read, with the bytes behind it
read_now : (geometry : Geometry) (metaslab next : ℕ) (image : machine.Image) (x : content.Content) (has : HasRecord geometry metaslab image x) → LeavesBelow next image
    → record_of (limits_of geometry metaslab image.group next) x.bytes ≡ Ok has.value
read_now geometry metaslab next image x has below =
    let limits = limits_of geometry metaslab image.group next in
    let n = length (record_bytes has.value) in
    let parts : record_bytes has.value ++ drop n x.bytes ≡ x.bytes = ap (λ v. v ++ drop n x.bytes) (sym has.stands.front) ∙ take-append-drop n x.bytes in
    subst (λ v. record_of limits v ≡ Ok has.value) parts
    (record_again limits has.value (record_bytes has.value) (drop n x.bytes) (record { bytes_are = refl; short = has.stands.short }) (ranged_spelled limits has.value (has.ranged next below)))

one_answer : (a b : RecordTold) (r : Result RecordTold RecordFault) → r ≡ Ok a → r ≡ Ok b → a ≡ b
one_answer a b r x y = cc

-- the version of a layout is its own
own_version : (version : ℕ) (geometry : Geometry) → version ≡ geometry.props.version → at_version version geometry ≡ geometry
own_version version geometry is = λ i. record geometry { props = record geometry.props { version = is i } }

-- what was read is the image that stood there
image_read : (geometry : Geometry) (metaslab group next : ℕ) (image : machine.Image) (value : RecordTold) (o : Option content.Content) → image.group ≡ group → image.version ≡ geometry.props.version
    → LeavesBelow next image → MatchOption o ⊥ (HasRecord (at_version image.version geometry) metaslab image)
    → content.OnTold o (λ x. record_of (limits_of geometry metaslab group next) x.bytes ≡ Ok value) → image_by value ≡ image
image_read geometry metaslab group next image value None own version below has read = absurd has
image_read geometry metaslab group next image value (Some x) own version below has read =
    let here : HasRecord geometry metaslab image x = subst (λ (layout : Geometry). HasRecord layout metaslab image x) (own_version image.version geometry version) has in
    let again : record_of (limits_of geometry metaslab group next) x.bytes ≡ Ok here.value =
    subst (λ n. record_of (limits_of geometry metaslab n next) x.bytes ≡ Ok here.value) own (read_now geometry metaslab next image x here below) in
    ap image_by (one_answer value here.value (record_of (limits_of geometry metaslab group next) x.bytes) read again) ∙ here.says

-- the committed image, or the sealed one, by its group
chosen : (l : machine.Layout) (w : machine.State) (image : machine.Image) (group : ℕ) → Sound l w → IsImage w image → image.group ≡ group
    → ((w.image ≡ image) × (w.committed ≡ group)) ⊎ ((w.sealed ≡ Some image) × (w.closing ≡ Some group))
chosen l w image group sound (inl own) is = inl (own, sym sound.groups.image_is ∙ ap (λ (i : machine.Image). i.group) own ∙ is)
chosen l w image group sound (inr sealed) is = inr (sealed, sound.groups.sealed_is image sealed ∙ ap Some is)

backed_on : (l : machine.Layout) (w : machine.State) (image : machine.Image) (doubtful : List Segment) (pieces : Pieces) (o p : Option Told) → machine.IsLayout l → IsReached l w → IsImage w image
    → OnBothTold o p (DropsBut (IsNamed image)) → MatchOption o ⊥ (Firm l pieces image (λ s. w.aside s || has_segment doubtful s)) → OnTold p (Backed l pieces (reopen_state l w image doubtful))
backed_on l w image doubtful pieces None p lay reached is drops firm = absurd firm
backed_on l w image doubtful pieces (Some x) None lay reached is drops firm = absurd drops
backed_on l w image doubtful pieces (Some x) (Some y) lay reached is drops firm = open_backed l lay w image doubtful reached is x y drops pieces firm

pub opened_stands : {R A : Type 0} (rack : Ghosts R) (told : A → Option content.Content) (kit : Kit R A) (shard : Shard R A) (group next : ℕ) (w : machine.State) (image : machine.Image) (doubtful : Vec Segment Global)
    (pieces : Pieces) → Opens rack told kit group next shard → IsPart (part_of shard) → IsReached (layout_by shard) w → IsImage w image → image.group ≡ group
    → image.version ≡ shard.geometry.props.version → LeavesBelow next image → MatchOption (told (area_of_kit kit group)) ⊥ (HasRecord (at_version image.version shard.geometry) shard.number image)
    → MatchOption (rack.told kit.rack) ⊥ (Firm (layout_by shard) pieces image (λ s. w.aside s || has_segment doubtful.items s))
    → StandsFor rack shard (reopen_state (layout_by shard) w image doubtful.items) pieces
opened_stands rack told kit shard group next w image doubtful pieces opens part reached is own version below has firm =
    let l = layout_by shard in
    let lay = has_layout (part_of shard) part in
    let same : image_by opens.value ≡ image = image_read shard.geometry shard.number group next image opens.value (told (area_of_kit kit group)) own version below has
    (told_read (told (area_of_kit kit group)) (limits_of shard.geometry shard.number group next) (has_leaf (rack.shape kit.rack) (metaslab_sectors shard.geometry)) opens.value opens.read) in
    let step : ReopenStep l w group doubtful.items (reopen_state l w image doubtful.items) =
    record { image = image; one = chosen l w image group (reached_sound l lay w reached) is own; made = refl } in
    record {
      is_in = subst (λ (img : machine.Image). IsIn shard (reopen_state l w img doubtful.items)) same (opens.is_in w doubtful.items);
      reached = reached_more l w (reopen_state l w image doubtful.items) (event.Reopen group doubtful) reached step;
      segments = backed_on l w image doubtful.items pieces (rack.told kit.rack) (rack.told shard.rack) lay reached is
          (subst (λ (img : machine.Image). OnBothTold (rack.told kit.rack) (rack.told shard.rack) (DropsBut (IsNamed img))) same opens.leaves) firm;
    }
