-- Where the columns of a metaslab have their places, by its slots.
use Rattle.std.proofs.Common.{◌≡◌, ◌+◌, ◌*◌, ◌/◌, ◌%◌, ◌<◌, ◌≤◌, ◌^◌, ◌∙◌, ℕ, refl, sym, ap, subst, arith, add_comm}
use Rattle.std.proofs.Math.Nat.{add-mul-div_left, mod-lt, mul-le-mul, mul-le-mul_right}
use Rattle.draid_spec.specs.declared.layout.Geometry.{Geometry}
use Rattle.draid_spec.specs.Geometry.{IsGeometry, metaslab_stripes, pool_stripes}
use Rattle.draid_perm.specs.declared.perms.Perms.{Perms}
use Rattle.draid_map.specs.declared.sectors.Place.{Place}
use Rattle.draid_map.specs.Place.{IsLayout, place_of}
use Rattle.draid_map.proofs.Apart.{has_some}
use Rattle.draid_map.proofs.Distinct.{index_in}
use Rattle.draid_map.proofs.Radix.{high_below}
use Rattle.draid_map.proofs.Runs.{place_child}
use Rattle.draid_chain.specs.Used.{HasColumn}
use Rattle.draid_layouts.specs.Layout.{pool_stripe, slice_in, slice_of}
use Rattle.draid_layouts.proofs.Layouts.{layout_is}
use Rattle.draid_machine.specs.State as machine
use Rattle.draid_slots.specs.Reading.{pool_slice}
use Rattle.draid_slots.specs.Table.{IsTable, SlotTable}
use Rattle.draid_marks.specs.Layout.{layout_with}

positive : (a b : ℕ) → 0 < a → 0 < b → 0 < a * b
positive a b x y = grind arith

-- a metaslab has few stripes
pub few_stripes : (geometry : Geometry) → IsGeometry geometry → metaslab_stripes geometry ≤ 2 ^ 28
few_stripes geometry is =
    let groups : geometry.ngroups ≤ 64 = (let a = is.slice.most_groups in let d = is.disks in let c = is.spec.most_children in omega (arith, a, d, c)) in
    let two : geometry.props.slices * geometry.ngroups ≤ 1024 * 64 = mul-le-mul is.props.most_slices groups in
    let three : geometry.props.slices * geometry.ngroups * geometry.props.height ≤ 1024 * 64 * 4096 = mul-le-mul two is.props.most_height in
    omega (arith, three)

module _ (slots : SlotTable) (lay : IsLayout slots.geometry slots.perms) where
  pub lays : machine.IsLayout (layout_with slots)
  lays = layout_is slots.geometry slots.perms slots.metaslab lay

  -- a stripe's slice in the pool is that in the metaslab, counted on
  pub slice_follows : (x : ℕ) → slice_in slots.geometry slots.metaslab x ≡ pool_slice slots (slice_of slots.geometry x)
  slice_follows x =
      let some = has_some slots.geometry lay.geometry_is in
      let front : pool_stripe slots.geometry slots.metaslab x ≡ x + slots.geometry.props.height * slots.geometry.ngroups * (slots.metaslab * slots.geometry.props.slices) = grind arith in
      ap (λ n. n / (slots.geometry.props.height * slots.geometry.ngroups)) front
      ∙ add-mul-div_left x (slots.metaslab * slots.geometry.props.slices) (positive slots.geometry.props.height slots.geometry.ngroups some.height some.groups)
      ∙ add_comm (x / (slots.geometry.props.height * slots.geometry.ngroups)) (slots.metaslab * slots.geometry.props.slices)

  -- a column's slot has a column in the slice
  pub has_column : (x c : ℕ) → HasColumn slots.perms slots.geometry.spec.spares (slice_in slots.geometry slots.metaslab x) ((layout_with slots).slot_of x c)
  has_column x c =
      let some = has_some slots.geometry lay.geometry_is in
      let disks = lay.geometry_is.disks in
      let low : index_in slots.geometry (pool_stripe slots.geometry slots.metaslab x) c % slots.geometry.ndisks < slots.geometry.ndisks
      = mod-lt (index_in slots.geometry (pool_stripe slots.geometry slots.metaslab x) c) some.disks in
      let same = lay.perms_are.children in
      record { position = index_in slots.geometry (pool_stripe slots.geometry slots.metaslab x) c % slots.geometry.ndisks; before = omega (arith, disks, low, same); stands = refl }

  pub slot_below : (x c : ℕ) → (layout_with slots).slot_of x c < slots.geometry.spec.children
  slot_below x c = place_child slots.geometry slots.perms (pool_stripe slots.geometry slots.metaslab x) c lay

  -- the slice of a stripe of the metaslab is one of its own
  pub slice_below : (x : ℕ) → x < metaslab_stripes slots.geometry → slice_of slots.geometry x < slots.geometry.props.slices
  slice_below x less =
      let some = has_some slots.geometry lay.geometry_is in
      high_below slots.geometry.props.height slots.geometry.ngroups x slots.geometry.props.slices some.height some.groups less

  -- a stripe of the metaslab is one of the pool
  pub stripe_below : (x : ℕ) → slots.metaslab < slots.geometry.props.metaslabs → x < metaslab_stripes slots.geometry → slots.metaslab * metaslab_stripes slots.geometry + x < pool_stripes slots.geometry
  stripe_below x low less =
      let up : (slots.metaslab + 1) * metaslab_stripes slots.geometry ≤ slots.geometry.props.metaslabs * metaslab_stripes slots.geometry
      = mul-le-mul_right (metaslab_stripes slots.geometry) (omega (arith, low)) in
      let next : (slots.metaslab + 1) * metaslab_stripes slots.geometry ≡ slots.metaslab * metaslab_stripes slots.geometry + metaslab_stripes slots.geometry = grind arith in
      let all : slots.geometry.props.metaslabs * slots.geometry.props.slices * slots.geometry.ngroups * slots.geometry.props.height
      ≡ slots.geometry.props.metaslabs * metaslab_stripes slots.geometry = grind arith in
      omega (arith, up, next, all, less)

-- ---- by the numbers of the code

pub stripe_fits : (slots : SlotTable) (geometry : Geometry) (n m x : ℕ) → geometry ≡ slots.geometry → IsTable slots → n ≡ slots.metaslab → m ≡ metaslab_stripes geometry → x < metaslab_stripes slots.geometry
    → n * m + x < pool_stripes geometry
stripe_fits slots geometry n m x same is a b less =
    subst (λ (k : ℕ). k < pool_stripes geometry) (λ i. sym a i * sym b i + x) (subst (λ (g : Geometry). slots.metaslab * metaslab_stripes g + x < pool_stripes g) (sym same) (stripe_below slots is.layout x is.low less))

pub slice_by : (slots : SlotTable) (geometry : Geometry) (h g x : ℕ) → geometry ≡ slots.geometry → h ≡ geometry.props.height → g ≡ geometry.ngroups → x / (h * g) ≡ slice_of slots.geometry x
slice_by slots geometry h g x same a b = λ i. x / ((a ∙ ap (λ (q : Geometry). q.props.height) same) i * (b ∙ ap (λ (q : Geometry). q.ngroups) same) i)

pub slice_fits : (slots : SlotTable) (geometry : Geometry) (h g x : ℕ) → geometry ≡ slots.geometry → IsTable slots → h ≡ geometry.props.height → g ≡ geometry.ngroups → x < metaslab_stripes slots.geometry
    → x / (h * g) < slots.geometry.props.slices
slice_fits slots geometry h g x same is a b less = subst (λ (k : ℕ). k < slots.geometry.props.slices) (sym (slice_by slots geometry h g x same a b)) (slice_below slots is.layout x less)

pub slot_by : (slots : SlotTable) (geometry : Geometry) (perms : Perms) (lies : Place) (n m x c : ℕ) → lies ≡ place_of geometry perms (n * m + x) c → geometry ≡ slots.geometry → perms ≡ slots.perms → n ≡ slots.metaslab
    → m ≡ metaslab_stripes geometry → lies.child ≡ (layout_with slots).slot_of x c
slot_by slots geometry perms lies n m x c at same also a b =
    ap (λ (p : Place). p.child) at ∙ (λ i. (place_of (same i) (also i) (a i * (b ∙ ap metaslab_stripes same) i + x) c).child)
