-- A record that a crash leaves.
use Rattle.std.specs.Prelude.{◌≡◌, ◌==◌, ◌<◌, ◌≤◌, ◌+◌, ◌%◌, ◌^◌, ℕ, false, List, Ok, length, take, if◌then◌else◌}
use Rattle.draid_area.specs.Area.{Content}
use Rattle.draid_machine.specs.State.{Image}
use Rattle.draid_record.specs.Ranges.{IsRanged}
use Rattle.draid_record.specs.Record.{RecordTold, limits_of, record_of}
use Rattle.draid_record.specs.Written.{body_bytes, record_bytes}
use Rattle.draid_spec.specs.declared.layout.Geometry.{Geometry}
use Rattle.draid_stable.specs.Images.{LeavesBelow, image_by}

-- a record stands at the front of an area: none of its bytes is soft, so many bytes outlast a crash, and their number fits the record's length
pub record Stands (value : RecordTold) (x : Content) : Type 0 where
  pub front : take (length (record_bytes value)) x.bytes ≡ record_bytes value
  pub firm : (i : ℕ) → i < length (record_bytes value) → x.soft i ≡ false
  pub least : length (record_bytes value) ≤ x.firm
  pub short : length (body_bytes value) + 10 < 2 ^ 32

-- The area has the record of an image, in the ranges of a metaslab's record wherever leaves have numbers above those of the image's.
pub record HasRecord (geometry : Geometry) (metaslab : ℕ) (image : Image) (x : Content) : Type 0 where
  pub value : RecordTold
  pub says : image_by value ≡ image
  pub stands : Stands value x
  pub ranged : (next : ℕ) → LeavesBelow next image → IsRanged (limits_of geometry metaslab image.group next) value

-- bytes are read as the record of an image
pub record ReadsAs (geometry : Geometry) (metaslab next : ℕ) (image : Image) (bytes : List ℕ) : Type 0 where
  pub value : RecordTold
  pub found : record_of (limits_of geometry metaslab image.group next) bytes ≡ Ok value
  pub says : image_by value ≡ image

-- the area that a group's record goes to, of the two that a metaslab has
abbrev pub area_of : ℕ → Content → Content → Content
area_of group even odd = if group % 2 == 0 then even else odd
