-- The blocks of a record are in their ranges.
use Rattle.std.proofs.Common.{◌≡◌, ◌==◌, ◌≤◌, ◌+◌, ◌-◌, ◌&&◌, not, ℕ, suc, Bool, true, false, List, [], ◌∷◌, length, All, if◌then◌else◌, arith, nat_le, leb-true, eq-eqb}
use Rattle.std.specs.Bool.{⊤}
use Rattle.std.proofs.lemmas.Bool.Decides.{nat_tests}
use Rattle.std.proofs.lemmas.List.Elements.{All-head, All-tail}
use Rattle.draid_names.specs.declared.pointer.Pointer.{Pointer}
use Rattle.draid_machine.specs.Names.{is_block, is_freed_by}
use Rattle.draid_machine.proofs.Small.{both_true}
use Rattle.draid_entries.specs.declared.entries.Entries.{Entries}
use Rattle.draid_entries.specs.Listed.{AscendFrom, IsListed, ListsBlocks}
use Rattle.draid_entries.specs.Maps.{staged}
use Rattle.draid_record.specs.declared.limits.Limits.{Limits}
use Rattle.draid_record.specs.Ranges.{AreBlocks, IsBlock}
use Rattle.draid_record.specs.Record.{spaces_from, spaces_of, stripes_of}
use Rattle.draid_stable.specs.Within.{EntriesFit, IsPlaced}

-- the first block of a list begins at or behind a stripe
abbrev HeadFrom : ℕ → List Pointer → Type 0
HeadFrom low [] = ⊤
HeadFrom low (b ∷ bs) = low ≤ b.first

module _ (limits : Limits) (entries : Entries) (fit : EntriesFit limits entries) where
  one_block : (low : ℕ) (b : Pointer) → low ≤ b.first → IsListed entries limits.group b → IsBlock limits low b
  one_block low b from l =
      let p : IsPlaced limits b = fit.placed b.first (staged l.stage b) l.there in
      let born = both_true (is_block l.stage) (nat_le b.birth limits.group) (both_true (is_block l.stage && nat_le b.birth limits.group) (not (is_freed_by limits.group l.stage)) l.stays).0 in
      record {
        object_small = p.object_small;
        some_seq = p.some_seq;
        most_seq = p.most_seq;
        metaslab_is = p.metaslab_is;
        behind_low = from;
        inside = (let i = p.inside in let s = p.some_stripes in omega (arith, i, s));
        some_stripes = p.some_stripes;
        in_group = (let g = p.in_group in omega (arith, g));
        stripes_small = p.stripes_small;
        some_len = p.some_len;
        most_len = p.most_len;
        whole = eq-eqb b.stripes (stripes_of limits b.len) p.whole;
        some_birth = p.some_birth;
        most_birth = leb-true b.birth limits.group born.1;
        digest_len = p.digest_len;
      }

  next_from : (b : Pointer) (bs : List Pointer) → IsListed entries limits.group b → All (IsListed entries limits.group) bs → AscendFrom (b.first + 1) bs → HeadFrom (b.first + b.stripes) bs
  next_from b [] l all asc = tt
  next_from b (c ∷ cs) l all asc =
      let m = All-head (IsListed entries limits.group) c cs all in
      fit.apart b.first c.first (staged l.stage b) (staged m.stage c) l.there m.there (let a = asc.0 in omega (arith, a))

  all_blocks : (bs : List Pointer) (low from : ℕ) → HeadFrom low bs → All (IsListed entries limits.group) bs → AscendFrom from bs → AreBlocks limits low bs
  all_blocks [] low from head all asc = tt
  all_blocks (b ∷ bs) low from head all asc =
      let own = All-head (IsListed entries limits.group) b bs all in
      let rest = All-tail (IsListed entries limits.group) b bs all in
      (one_block low b head own, all_blocks bs (b.first + b.stripes) (b.first + 1) (next_from b bs own rest asc.1) rest asc.1)

  from_zero : (bs : List Pointer) → HeadFrom 0 bs
  from_zero [] = tt
  from_zero (b ∷ bs) = omega arith

  pub blocks_ranged : (bs : List Pointer) → ListsBlocks entries limits.group bs → AreBlocks limits 0 bs
  blocks_ranged bs lists = all_blocks bs 0 0 (from_zero bs) lists.listed lists.ascending

-- no more runs than blocks
runs_from : (first upto : ℕ) (bs : List Pointer) → length (spaces_from first upto bs) ≤ suc (length bs)
runs_from first upto [] = omega arith
runs_from first upto (b ∷ bs) = by (b.first == upto) (runs_from first (b.first + b.stripes) bs) (runs_from b.first (b.first + b.stripes) bs)
  where
    by : (same : Bool) → length (spaces_from first (b.first + b.stripes) bs) ≤ suc (length bs) → length (spaces_from b.first (b.first + b.stripes) bs) ≤ suc (length bs)
        → length (if same then spaces_from first (b.first + b.stripes) bs else record { first = first; len = upto - first } ∷ spaces_from b.first (b.first + b.stripes) bs) ≤ suc (suc (length bs))
    by true joined apart = omega (arith, joined)
    by false joined apart = omega (arith, apart)

pub runs_few : (bs : List Pointer) → length (spaces_of bs) ≤ length bs
runs_few [] = omega arith
runs_few (b ∷ bs) = runs_from b.first (b.first + b.stripes) bs
