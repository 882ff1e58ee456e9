use Rattle.std.proofs.Common.{◌∙◌, ap, ◌++◌, ℕ, List, slice_index, ◌%◌}
use Rattle.std.specs.Prelude.{flat_map}
use Rattle.draid_gen.specs.Workload.{frees, fills, lines_of, moves, opening, printed, reads, restart, section_end, sums}
use Rattle.draid_gen.proofs.Lines.{in_nine}
use Rattle.draid_gen.proofs.script.text.Goals as goal

pub returns : goal.returns
unfolding lines_of
returns c =
    let number = c.args.number in
    let words = c.drawn-words.result in
    in_nine (opening number) (fills number words) section_end (frees words) (moves (slice_index words 20 % 11)) sums reads restart sums
    _ _ _ _ _ _ _ _ _ _ c.new-script.ensures.bytes
    c.in_ok-add_opening.ensures c.in_ok-add_fills.ensures c.in_ok-add_section_end.ensures c.in_ok-add_frees.ensures c.in_ok-add_moves.ensures
    c.in_ok-add_sums.ensures c.in_ok-add_reads.ensures c.in_ok-add_restart.ensures c.in_ok-add_sums-2.ensures
    ∙ ap (λ (drawn : List ℕ). flat_map printed (opening number ++ fills number drawn ++ section_end ++ frees drawn
    ++ moves (slice_index drawn 20 % 11) ++ sums ++ reads ++ restart ++ sums)) c.drawn-words.ensures
