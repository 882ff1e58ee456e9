use Rattle.std.specs.Prelude.{ℕ, Bool, true, false, List, ◌++◌, flat_map, codes, Option, None, Some, string_bytes}
use Rattle.std.specs.Fmt.{decimal}
use Rattle.std.specs.List.{enumerate_from}
use Rattle.std.specs.declared.alloc.Global.{Global}
use Rattle.std.specs.declared.vec.Vec.{Vec}
use Rattle.draid_names.specs.declared.arm.ArmKind.{ArmKind}
use Rattle.draid_names.specs.declared.arm.ArmKind.TheVariants.{Leaf, Spare}
use Rattle.draid_names.specs.declared.pass_kind.PassKind.{PassKind}
use Rattle.draid_names.specs.declared.pass_kind.PassKind.TheVariants.{Rebuild, Heal}
use Rattle.draid_report.specs.declared.view.ArmView.{ArmView}
use Rattle.draid_report.specs.declared.view.MetaslabView.{MetaslabView}
use Rattle.draid_report.specs.declared.view.PassView.{PassView}
use Rattle.draid_report.specs.declared.view.View.{View}

-- how a leaf stands
abbrev pub presence_of : Bool → List ℕ
presence_of true = codes "offline"
presence_of false = codes "online"

-- an arm by its kind: a leaf by its number, a spare by its name
abbrev pub arm_text : ArmKind → ArmView → List ℕ
arm_text Leaf view = codes "leaf " ++ (decimal view.arm.number ++ (codes " " ++ presence_of view.arm.offline))
arm_text Spare view = codes "spare " ++ (string_bytes view.spare_name ++ codes " online")

-- the line of an arm of a slot
abbrev pub arm_line : ℕ → ArmView → List ℕ
arm_line slot view =
    codes "slot " ++ (decimal slot ++ (codes " " ++ (arm_text view.arm.kind view
    ++ (codes " logged=" ++ (decimal view.logged ++ codes "\n")))))

-- the lines of a slot, and of all slots
abbrev pub slot_lines : ℕ → List ArmView → List ℕ
slot_lines slot arms = flat_map (arm_line slot) arms

abbrev pub slots_text : List (Vec ArmView Global) → List ℕ
slots_text slots = flat_map (λ at. slot_lines at.0 at.1.items) (enumerate_from 0 slots)

-- the word of a pass of each kind
abbrev pub kind_text : PassKind → List ℕ
kind_text Rebuild = codes "rebuild"
kind_text Heal = codes "scrub"

abbrev pub pass_text : Option PassView → List ℕ
pass_text None = codes "none"
pass_text (Some pass) =
    kind_text pass.kind ++ (codes " " ++ (decimal pass.number ++ (codes " at=" ++ (decimal pass.at
    ++ (codes " errors=" ++ decimal pass.errors)))))

-- the line of a metaslab
abbrev pub metaslab_line : ℕ → MetaslabView → List ℕ
metaslab_line metaslab view =
    codes "metaslab " ++ (decimal metaslab ++ (codes " free=" ++ (decimal view.free ++ (codes " blocks=" ++ (decimal view.blocks
    ++ (codes " " ++ (pass_text view.pass ++ codes "\n")))))))

abbrev pub metaslabs_text : List MetaslabView → List ℕ
metaslabs_text metaslabs = flat_map (λ at. metaslab_line at.0 at.1) (enumerate_from 0 metaslabs)

-- the first line
abbrev pub pool_line : View → List ℕ
pool_line view =
    codes "pool " ++ (string_bytes view.name ++ (codes " group=" ++ (decimal view.group ++ (codes " open=" ++ (decimal view.open_group
    ++ (codes " objects=" ++ (decimal view.objects ++ codes "\n")))))))

-- The text of `status`: a line for the pool, for each arm by slot and order, for each metaslab, and one that ends it.
unfoldable pub text_of : View → List ℕ
text_of view = pool_line view ++ slots_text view.slots.items ++ metaslabs_text view.metaslabs.items ++ codes "end\n"
