use Rattle.std.specs.Prelude.{ℕ, List, ◌++◌, map, codes, Option, None, Some, string_bytes}
use Rattle.std.specs.List.{enumerate_from}
use Rattle.std.specs.declared.alloc.Global.{Global}
use Rattle.std.specs.declared.vec.Vec.{Vec}
use Rattle.serde_json.specs.Data.{Data, null, boolean, number, unsigned, string, array, object, member, no_members}
use Rattle.serde_json.specs.View.{items_of}
use Rattle.serde_json.specs.Written.{compact_text}
use Rattle.draid_names.specs.declared.arm.ArmKind.{ArmKind}
use Rattle.draid_names.specs.declared.arm.ArmKind.TheVariants.{Leaf, Spare}
use Rattle.draid_report.specs.declared.view.ArmView.{ArmView}
use Rattle.draid_report.specs.declared.view.MetaslabView.{MetaslabView}
use Rattle.draid_report.specs.declared.view.PassView.{PassView}
use Rattle.draid_report.specs.declared.view.View.{View}
use Rattle.draid_report.specs.Text.{kind_text}

-- The members of each object below stand in the ascending order of their keys.

abbrev pub count : ℕ → Data
count n = number (unsigned n)

abbrev pub arm_kind_text : ArmKind → List ℕ
arm_kind_text Leaf = codes "leaf"
arm_kind_text Spare = codes "spare"

abbrev pub arm_tree : ArmView → Data
arm_tree view =
    object (member (codes "kind") (string (arm_kind_text view.arm.kind))
    (member (codes "logged") (count view.logged)
    (member (codes "number") (count view.arm.number)
    (member (codes "offline") (boolean view.arm.offline) no_members))))

abbrev pub slot_tree : Vec ArmView Global → Data
slot_tree arms = array (items_of (map arm_tree arms.items))

abbrev pub pass_tree : Option PassView → Data
pass_tree None = null
pass_tree (Some pass) =
    object (member (codes "at") (count pass.at)
    (member (codes "errors") (count pass.errors)
    (member (codes "kind") (string (kind_text pass.kind))
    (member (codes "number") (count pass.number) no_members))))

-- a metaslab with its number
abbrev pub metaslab_tree : ℕ → MetaslabView → Data
metaslab_tree metaslab view =
    object (member (codes "blocks") (count view.blocks)
    (member (codes "free") (count view.free)
    (member (codes "number") (count metaslab)
    (member (codes "pass") (pass_tree view.pass) no_members))))

abbrev pub metaslabs_tree : List MetaslabView → Data
metaslabs_tree metaslabs = array (items_of (map (λ at. metaslab_tree at.0 at.1) (enumerate_from 0 metaslabs)))

abbrev pub slots_tree : List (Vec ArmView Global) → Data
slots_tree slots = array (items_of (map slot_tree slots))

-- the value that `status json` prints
unfoldable pub tree_of : View → Data
tree_of view =
    object (member (codes "group") (count view.group)
    (member (codes "metaslabs") (metaslabs_tree view.metaslabs.items)
    (member (codes "name") (string (string_bytes view.name))
    (member (codes "objects") (count view.objects)
    (member (codes "open") (count view.open_group)
    (member (codes "slots") (slots_tree view.slots.items) no_members))))))

-- The text of `status json`: the value without spaces, in one line, its end included.
abbrev pub json_of : View → List ℕ
json_of view = compact_text (tree_of view) ++ codes "\n"
