use Rattle.std.proofs.Common.{[], ◌≡◌, ◌∙◌, sym, ap, refl, length, Some}
use Rattle.std.specs.Prelude.{slice_get}
use Rattle.std.proofs.lemmas.List.{length-set}
use Rattle.std.proofs.lemmas.Option.{slice_get-get_or}
use Rattle.std.proofs.lemmas.List.{get_or-set_other}
use Rattle.std.proofs.Common.{arith}
use Rattle.draid_block.proofs.Held.{put_held}
use Rattle.draid_block.proofs.search.put_column.Goals as goal

pub bounds-columns-i : goal.bounds-columns-i
bounds-columns-i c = c.requires.there

pub column_mut-requires : goal.column_mut-requires
column_mut-requires c = c.requires.in_range

pub copy_from_slice-requires : goal.copy_from_slice-requires
copy_from_slice-requires c =
    let there : slice_get c.args.columns.now c.args.i ≡ Some (Some c.in-Some.column) = slice_get-get_or c.args.columns.now c.args.i _ c.requires.there ∙ ap Some (sym c.index-columns-i.is ∙ c.in-Some.is) in
    c.column_mut.ensures.len ∙ sym (ap length c.deref.ensures.value ∙ c.requires.long c.in-Some.column there)

pub returns-in-Some-clause-count : goal.returns-in-Some-clause-count
returns-in-Some-clause-count c = length-set c.args.stripe.now.columns c.args.i _

pub returns-in-Some-clause-held : goal.returns-in-Some-clause-held
returns-in-Some-clause-held c = λ v same. put_held c.args.columns.now c.args.stripe.now.columns c.args.i c.in-Some.column v c.copy_from_slice.new.self (omega (arith, c.requires.count, c.requires.in_range))
    (c.copy_from_slice.ensures.len ∙ ap length c.column_mut.ensures.value) (c.copy_from_slice.ensures.after ∙ c.deref.ensures.value) (slice_get-get_or c.args.columns.now c.args.i _ c.requires.there ∙ ap Some (sym c.index-columns-i.is ∙ c.in-Some.is)) same

pub returns-in-Some-clause-others : goal.returns-in-Some-clause-others
returns-in-Some-clause-others c = λ k differs. get_or-set_other c.args.stripe.now.columns c.args.i k _ [] differs

pub returns-in-Some-clause-shape : goal.returns-in-Some-clause-shape
returns-in-Some-clause-shape c = refl

pub returns-in_default-clause-count : goal.returns-in_default-clause-count
returns-in_default-clause-count c = refl

pub returns-in_default-clause-held : goal.returns-in_default-clause-held
returns-in_default-clause-held c = λ v same. absurd (let none = slice_get-get_or c.args.columns.now c.args.i _ c.requires.there ∙ ap Some (sym c.index-columns-i.is ∙ c.in_default.is) in cc)

pub returns-in_default-clause-others : goal.returns-in_default-clause-others
returns-in_default-clause-others c = λ k differs. refl

pub returns-in_default-clause-shape : goal.returns-in_default-clause-shape
returns-in_default-clause-shape c = refl
