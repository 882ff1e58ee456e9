-- What a writer writes in a section is read again.
use Rattle.std.proofs.Common.{sym, subst, ◌≡◌, ℕ, ◌+◌, ◌^◌, ◌<◌, ◌≤◌, ◌==◌, true, false, List, [], ◌∷◌, ◌++◌, length, get_or, codes, Ok, refl, ap, ◌∙◌, arith}
use Rattle.std.specs.Fmt.{decimal}
use Rattle.std.specs.List.{AllByRecursion, join_with_byte}
use Rattle.std.specs.Str.{bytes_eq}
use Rattle.std.proofs.lemmas.Bool.{and_left, cond-false, cond-true, ne_eqb}
use Rattle.std.proofs.lemmas.List.Splits.{join_with_byte-slice_split}
use Rattle.std.proofs.lemmas.Fmt.{decimal_is_IsNumeral}
use Rattle.std.proofs.lemmas.Str.Parse.{digit_at}
use Rattle.draid_script.specs.declared.name.CommandName.{CommandName}
use Rattle.draid_script.specs.declared.name.CommandName.TheVariants as name
use Rattle.draid_script.specs.Fault.{◌>>=◌}
use Rattle.draid_script.specs.Grammar.{command_of, inside, is_silent, lane_name_at, lane_of}
use Rattle.draid_script.specs.Line.{Command, SyncPool, WriteObject, FillObjects, ReadObject, FreeObject, SumObjects, TakeOffline, TakeOnline, RebuildPool, ScrubPool, IsInRange, LaneCommand, InLane, SilentLane, SectionEnd}
use Rattle.draid_script.specs.Name.{is_for_lanes, name_of, name_text}
use Rattle.draid_script.specs.Word.{placed_from, words_of}
use Rattle.draid_script.specs.Writing.{IsForLanes, IsWritable, optional, written_lane_line, written_words}
use Rattle.draid_script.specs.Shape.{AreWordsOf, IsLaneText, texts_of}
use Rattle.draid_script.proofs.Joined.{IsWord, decimal_word, split_joined}
use Rattle.draid_script.proofs.Written.{fill_again, in_range, limit_again, number_in_again, one_again, spelled_so, sum_again, then_ok, write_again, written_words_are}

lane_named : (n : CommandName) (at : ℕ) → is_for_lanes n ≡ true → lane_name_at (record { text = name_text n; at = at }) ≡ Ok n
unfolding name_of
lane_named name.Create at may = cc
lane_named name.Import at may = cc
lane_named name.Export at may = cc
lane_named name.Sync at may = refl
lane_named name.Cancel at may = cc
lane_named name.Crash at may = cc
lane_named name.Write at may = refl
lane_named name.Fill at may = refl
lane_named name.Read at may = refl
lane_named name.Free at may = refl
lane_named name.Sum at may = refl
lane_named name.Offline at may = refl
lane_named name.Online at may = refl
lane_named name.Damage at may = cc
lane_named name.Spare at may = cc
lane_named name.Replace at may = cc
lane_named name.Detach at may = cc
lane_named name.Rebuild at may = refl
lane_named name.Scrub at may = refl
lane_named name.Rebalance at may = cc
lane_named name.Status at may = cc
lane_named name.Lanes at may = cc
lane_named name.Upgrade at may = cc
lane_named name.Agent at may = cc
lane_named name.Checkpoint at may = cc
lane_named name.Rewind at may = cc
lane_named name.Discard at may = cc

-- a text that begins with a digit is no comment, and isn't `end`
loud : (digits rest : List ℕ) → 0 < length digits → 48 ≤ get_or digits 0 0 → is_silent (digits ++ rest) ≡ false
loud [] rest some digit = let none : ⊥ = omega arith in absurd none
loud (byte ∷ bytes) rest some digit = ne_eqb byte 35 (omega arith)

no_end : (digits rest : List ℕ) → 0 < length digits → get_or digits 0 0 ≤ 57 → bytes_eq (digits ++ rest) (codes "end") ≡ false
no_end [] rest some digit = let none : ⊥ = omega arith in absurd none
no_end (byte ∷ bytes) rest some digit = and_left (byte == 101) _ (ne_eqb byte 101 (omega arith))

-- a line of a section is read by its lane and the command's first word
lane_by_words : (lanes lane : ℕ) (text : List ℕ) (n : CommandName) (texts : List (List ℕ)) → texts_of text ≡ decimal lane ∷ name_text n ∷ texts → lane < lanes → lanes ≤ 2 ^ 32 → is_for_lanes n ≡ true → lane_of lanes text ≡ (command_of n (length text) (placed_from (0 + length (decimal lane) + 1 + length (name_text n) + 1) texts) >>= λ command. Ok (InLane lane command))
unfolding lane_of words_of
lane_by_words lanes lane text n texts split below few may =
    let rest = 32 ∷ join_with_byte 32 (name_text n ∷ texts) in
    let numeral = (decimal_is_IsNumeral lane (omega arith)).0 in
    let digit = digit_at (decimal lane) 0 numeral.1 numeral.0 in
    let whole : text ≡ decimal lane ++ (32 ∷ join_with_byte 32 (name_text n ∷ texts)) = sym (join_with_byte-slice_split 32 text) ∙ ap (join_with_byte 32) split in
    cond-false (is_silent text) _ _ (ap is_silent whole ∙ loud (decimal lane) rest numeral.0 digit.0)
    ∙ cond-false (bytes_eq text (codes "end")) _ _ (ap (λ (t : List ℕ). bytes_eq t (codes "end")) whole ∙ no_end (decimal lane) rest numeral.0 digit.1)
    ∙ ap (λ (parts : List (List ℕ)). inside lanes (length text) (placed_from 0 parts)) split
    ∙ then_ok _ lane _ (number_in_again 0 lanes lane 0 (omega arith) below (omega arith))
    ∙ then_ok _ n _ (lane_named n _ may)

-- words of a command behind a lane's number are read as it
lane_words : (lanes lane : ℕ) (text : List ℕ) (command : Command) (words : List (List ℕ)) → texts_of text ≡ decimal lane ∷ words → lane < lanes → lanes ≤ 2 ^ 32 → IsForLanes command → AreWordsOf command words → IsInRange command → lane_of lanes text ≡ Ok (InLane lane command)
unfolding command_of
lane_words lanes lane text SyncPool words split below few may spelled is =
    lane_by_words lanes lane text name.Sync [] (split ∙ ap (λ (ws : List (List ℕ)). decimal lane ∷ ws) spelled) below few refl
lane_words lanes lane text (WriteObject object bytes) words split below few may spelled is =
    lane_by_words lanes lane text name.Write (decimal object ∷ spelled.0 ∷ []) (split ∙ ap (λ (ws : List (List ℕ)). decimal lane ∷ ws) spelled.1) below few refl
    ∙ then_ok _ (WriteObject object bytes) _ (write_again _ _ object spelled.0 bytes is.0 spelled.2 is.2)
lane_words lanes lane text (FillObjects first count len seed) words split below few may spelled is =
    lane_by_words lanes lane text name.Fill (decimal first ∷ decimal count ∷ decimal len ∷ decimal seed ∷ []) (split ∙ ap (λ (ws : List (List ℕ)). decimal lane ∷ ws) spelled) below few refl
    ∙ then_ok _ (FillObjects first count len seed) _ (fill_again 0 _ first count len seed is.0 is.1 is.2)
lane_words lanes lane text (ReadObject object) words split below few may spelled is =
    lane_by_words lanes lane text name.Read (decimal object ∷ []) (split ∙ ap (λ (ws : List (List ℕ)). decimal lane ∷ ws) spelled) below few refl
    ∙ then_ok _ (ReadObject object) _ (then_ok _ object _ (one_again (2 ^ 32) 0 _ object is (omega arith)))
lane_words lanes lane text (FreeObject object) words split below few may spelled is =
    lane_by_words lanes lane text name.Free (decimal object ∷ []) (split ∙ ap (λ (ws : List (List ℕ)). decimal lane ∷ ws) spelled) below few refl
    ∙ then_ok _ (FreeObject object) _ (then_ok _ object _ (one_again (2 ^ 32) 0 _ object is (omega arith)))
lane_words lanes lane text (TakeOffline leaf) words split below few may spelled is =
    lane_by_words lanes lane text name.Offline (decimal leaf ∷ []) (split ∙ ap (λ (ws : List (List ℕ)). decimal lane ∷ ws) spelled) below few refl
    ∙ then_ok _ (TakeOffline leaf) _ (then_ok _ leaf _ (one_again (2 ^ 48) 0 _ leaf is (omega arith)))
lane_words lanes lane text (TakeOnline leaf) words split below few may spelled is =
    lane_by_words lanes lane text name.Online (decimal leaf ∷ []) (split ∙ ap (λ (ws : List (List ℕ)). decimal lane ∷ ws) spelled) below few refl
    ∙ then_ok _ (TakeOnline leaf) _ (then_ok _ leaf _ (one_again (2 ^ 48) 0 _ leaf is (omega arith)))
lane_words lanes lane text (SumObjects first count) words split below few may spelled is =
    lane_by_words lanes lane text name.Sum (decimal first ∷ decimal count ∷ []) (split ∙ ap (λ (ws : List (List ℕ)). decimal lane ∷ ws) spelled) below few refl
    ∙ then_ok _ (SumObjects first count) _ (sum_again 0 _ first count is)
lane_words lanes lane text (RebuildPool limit) words split below few may spelled is =
    lane_by_words lanes lane text name.Rebuild (optional limit) (split ∙ ap (λ (ws : List (List ℕ)). decimal lane ∷ ws) spelled) below few refl
    ∙ then_ok _ (RebuildPool limit) _ (then_ok _ limit _ (limit_again _ _ limit is))
lane_words lanes lane text (ScrubPool limit) words split below few may spelled is =
    lane_by_words lanes lane text name.Scrub (optional limit) (split ∙ ap (λ (ws : List (List ℕ)). decimal lane ∷ ws) spelled) below few refl
    ∙ then_ok _ (ScrubPool limit) _ (then_ok _ limit _ (limit_again _ _ limit is))
lane_words lanes lane text _ words split below few may spelled is = absurd may

silent_lane : (lanes : ℕ) (text : List ℕ) → is_silent text ≡ true → lane_of lanes text ≡ Ok SilentLane
unfolding lane_of
silent_lane lanes text silent = cond-true (is_silent text) (Ok SilentLane) _ silent

end_lane : (lanes : ℕ) → lane_of lanes (codes "end") ≡ Ok SectionEnd
unfolding lane_of
end_lane lanes = refl

-- a line that is spelled as a line of a section is read as it
pub lane_spelled : (lanes : ℕ) (text : List ℕ) (line : LaneCommand) → lanes ≤ 2 ^ 32 → IsLaneText lanes text line → lane_of lanes text ≡ Ok line
lane_spelled lanes text SilentLane few is = silent_lane lanes text is
lane_spelled lanes text SectionEnd few is = ap (lane_of lanes) is ∙ end_lane lanes
lane_spelled lanes text (InLane lane command) few is = lane_words lanes lane text command is.0 is.1 is.2 few is.5 is.3 is.4

lane_from : (lanes lane : ℕ) (command : Command) (words : List (List ℕ)) → lane < lanes → lanes ≤ 2 ^ 32 → IsForLanes command → IsWritable command → words ≡ written_words command → written_lane_line lane command ≡ join_with_byte 32 (decimal lane ∷ words) → lane_of lanes (written_lane_line lane command) ≡ Ok (InLane lane command)
lane_from lanes lane command words below few may is same line =
    let P : List (List ℕ) → Type 0 = λ ws. AllByRecursion IsWord ws in
    let split : texts_of (written_lane_line lane command) ≡ decimal lane ∷ words =
    ap texts_of line ∙ split_joined (decimal lane) words (decimal_word lane (omega arith)) (subst P (sym same) (written_words_are command is)) in
    lane_words lanes lane (written_lane_line lane command) command words split below few may (spelled_so command words is same) (in_range command is)

pub lane_line_again : (lanes lane : ℕ) (command : Command) → lane < lanes → lanes ≤ 2 ^ 32 → IsForLanes command → IsWritable command → lane_of lanes (written_lane_line lane command) ≡ Ok (InLane lane command)
lane_line_again lanes lane SyncPool below few may is = lane_from lanes lane SyncPool (written_words SyncPool) below few may is refl refl
lane_line_again lanes lane (WriteObject object bytes) below few may is = lane_from lanes lane (WriteObject object bytes) (written_words (WriteObject object bytes)) below few may is refl refl
lane_line_again lanes lane (FillObjects first count len seed) below few may is = lane_from lanes lane (FillObjects first count len seed) (written_words (FillObjects first count len seed)) below few may is refl refl
lane_line_again lanes lane (ReadObject object) below few may is = lane_from lanes lane (ReadObject object) (written_words (ReadObject object)) below few may is refl refl
lane_line_again lanes lane (FreeObject object) below few may is = lane_from lanes lane (FreeObject object) (written_words (FreeObject object)) below few may is refl refl
lane_line_again lanes lane (SumObjects first count) below few may is = lane_from lanes lane (SumObjects first count) (written_words (SumObjects first count)) below few may is refl refl
lane_line_again lanes lane (TakeOffline leaf) below few may is = lane_from lanes lane (TakeOffline leaf) (written_words (TakeOffline leaf)) below few may is refl refl
lane_line_again lanes lane (TakeOnline leaf) below few may is = lane_from lanes lane (TakeOnline leaf) (written_words (TakeOnline leaf)) below few may is refl refl
lane_line_again lanes lane (RebuildPool limit) below few may is = lane_from lanes lane (RebuildPool limit) (written_words (RebuildPool limit)) below few may is refl refl
lane_line_again lanes lane (ScrubPool limit) below few may is = lane_from lanes lane (ScrubPool limit) (written_words (ScrubPool limit)) below few may is refl refl
lane_line_again lanes lane _ below few may is = absurd may
