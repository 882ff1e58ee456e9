-- The replies to lanes as they are printed, one behind another.
use Rattle.std.proofs.Common.{arith, refl, sym, subst, ap, ◌≡◌, ◌∙◌, ◌<◌, ◌≤◌, ◌+◌, ℕ, zero, suc, List, [], ◌∷◌, ◌++◌, Option, Some, Err, length, map, take, drop, slice_index_or, append_assoc}
use Rattle.std.specs.Io.KnownBytes.{Appends}
use Rattle.std.proofs.lemmas.Grind.{flat_map-append}
use Rattle.std.proofs.lemmas.List.{append-nil}
use Rattle.draid_names.specs.Faults.{Rose}
use Rattle.draid_reply.specs.declared.reply.Reply.{Reply}
use Rattle.draid_session.specs.Said.{Said}
use Rattle.draid_session.specs.Sections.{to_lane, to_lanes}
use Rattle.draid_print.specs.Printing.{PrintIs, PrintsAre, replies_in, said_text, texts_of}
use Rattle.draid_print.specs.declared.printing.LaneReplies.{LaneReplies}
use Rattle.draid_exits.specs.declared.status.Status.{Status}
use Rattle.draid_exits.specs.declared.status.Status.TheVariants as status_is
use Rattle.draid_exits.specs.declared.status.Status.TheVariants.{Done, Usage, SourceFault, SinkFault, NoMemory, TooLong, ShelfFault, Record}
use Rattle.draid_print.proofs.Appending.{appends_more}

-- ---- counts that only rise

pub same_later : (n : ℕ) → n ≤ n
same_later n = omega arith

pub later_on : (a b c : ℕ) → a ≤ b → b ≤ c → a ≤ c
later_on a b c first then = omega (arith, first, then)

-- a count rose in a part of a call
pub rose_from : (entry before now : ℕ) → entry ≤ before → Rose before now → Rose entry now
rose_from entry before now later rose = omega (arith, later, rose)

-- ---- lists

one_more : (k : ℕ) → k + 1 ≡ suc k
one_more k = omega arith

next : {T : Type 0} (xs : List T) (k : ℕ) (x : T) → k < length xs → x ≡ slice_index_or xs k x → take (suc k) xs ≡ take k xs ++ x ∷ []
next [] k x few is = absurd (omega (arith, few))
next (y ∷ xs) zero x few is = ap (λ z. z ∷ []) (sym is)
next (y ∷ xs) (suc k) x few is = ap (λ zs. y ∷ zs) (next xs k x (omega (arith, few)) is)

here : {T : Type 0} (xs : List T) (k : ℕ) (x : T) → k < length xs → x ≡ slice_index_or xs k x → xs ≡ take k xs ++ x ∷ drop (suc k) xs
here [] k x few is = absurd (omega (arith, few))
here (y ∷ xs) zero x few is = ap (λ z. z ∷ xs) (sym is)
here (y ∷ xs) (suc k) x few is = ap (λ zs. y ∷ zs) (here xs k x (omega (arith, few)) is)

pub take_next : {T : Type 0} (xs : List T) (k : ℕ) (x : T) → k < length xs → x ≡ slice_index_or xs k x → take (k + 1) xs ≡ take k xs ++ x ∷ []
take_next xs k x few is = ap (λ n. take n xs) (one_more k) ∙ next xs k x few is

pub take_here : {T : Type 0} (xs : List T) (k : ℕ) (x : T) → k < length xs → x ≡ slice_index_or xs k x → xs ≡ take k xs ++ x ∷ drop (k + 1) xs
take_here xs k x few is = here xs k x few is ∙ ap (λ n. take k xs ++ x ∷ drop n xs) (sym (one_more k))

pub take_whole : {T : Type 0} (xs : List T) (k : ℕ) → length xs ≤ k → take k xs ≡ xs
take_whole [] zero past = refl
take_whole [] (suc k) past = refl
take_whole (x ∷ xs) zero past = absurd (omega (arith, past))
take_whole (x ∷ xs) (suc k) past = ap (λ zs. x ∷ zs) (take_whole xs k (omega (arith, past)))

map_both : {S T : Type 0} (f : S → T) (xs ys : List S) → map f (xs ++ ys) ≡ map f xs ++ map f ys
map_both f [] ys = refl
map_both f (x ∷ xs) ys = ap (λ zs. f x ∷ zs) (map_both f xs ys)

-- ---- what is printed

pub texts_both : (front back : List Said) → texts_of (front ++ back) ≡ texts_of front ++ texts_of back
texts_both front back = flat_map-append said_text front back

pub texts_on : (front back : List Said) (start old new : Option (List ℕ)) → Appends start old (texts_of front) → Appends old new (texts_of back) → Appends start new (texts_of (front ++ back))
texts_on front back start old new first then = subst (λ text. Appends start new text) (sym (texts_both front back)) (appends_more start old new (texts_of front) (texts_of back) first then)

pub said_on : (front : List Said) (said : Said) (start old new : Option (List ℕ)) → Appends start old (texts_of front) → Appends old new (said_text said) → Appends start new (texts_of (front ++ said ∷ []))
said_on front said start old new first then = texts_on front (said ∷ []) start old new first (subst (λ text. Appends old new text) (sym (append-nil (said_text said))) then)

module _ (saids : List Said) (start old new : Option (List ℕ)) where
  -- one of some replies could not be printed
  pub cut_at : (part : List Said) (said : Said) (rest : List Said) → saids ≡ part ++ said ∷ rest → Appends start old (texts_of part) → (status : Status) → PrintIs (said_text said) old new (Err status) → PrintsAre saids start new (Err status)
  cut_at part said rest are first SinkFault is = (part, said, rest, old, are, first, is)
  cut_at part said rest are first NoMemory is = (part, said, rest, are, subst (λ held. Appends start held (texts_of part)) (sym is) first)
  cut_at part said rest are first Done is = absurd is
  cut_at part said rest are first Usage is = absurd is
  cut_at part said rest are first (status_is.Line line why at) is = absurd is
  cut_at part said rest are first SourceFault is = absurd is
  cut_at part said rest are first (TooLong line) is = absurd is
  cut_at part said rest are first ShelfFault is = absurd is
  cut_at part said rest are first (Record which place kind) is = absurd is

  -- one of some among them
  pub cut_in : (front mine back : List Said) → saids ≡ front ++ (mine ++ back) → Appends start old (texts_of front) → (status : Status) → PrintsAre mine old new (Err status) → PrintsAre saids start new (Err status)
  cut_in front mine back are first SinkFault (part, said, rest, mid, is, whole, some) =
      (front ++ part, said, rest ++ back, mid, joined front mine back part said rest are is, texts_on front part start old mid first whole, some)
    where
      joined : (front mine back part : List Said) (said : Said) (rest : List Said) → saids ≡ front ++ (mine ++ back) → mine ≡ part ++ said ∷ rest → saids ≡ (front ++ part) ++ said ∷ (rest ++ back)
      joined front mine back part said rest are is =
          are ∙ ap (λ m. front ++ (m ++ back)) is ∙ ap (λ m. front ++ m) (append_assoc part (said ∷ rest) back) ∙ sym (append_assoc front part (said ∷ (rest ++ back)))
  cut_in front mine back are first NoMemory (part, said, rest, is, whole) =
      (front ++ part, said, rest ++ back, are ∙ ap (λ m. front ++ (m ++ back)) is ∙ ap (λ m. front ++ m) (append_assoc part (said ∷ rest) back) ∙ sym (append_assoc front part (said ∷ (rest ++ back))), texts_on front part start old new first whole)
  cut_in front mine back are first Done is = absurd is
  cut_in front mine back are first Usage is = absurd is
  cut_in front mine back are first (status_is.Line line why at) is = absurd is
  cut_in front mine back are first SourceFault is = absurd is
  cut_in front mine back are first (TooLong line) is = absurd is
  cut_in front mine back are first ShelfFault is = absurd is
  cut_in front mine back are first (Record which place kind) is = absurd is

-- ---- one lane

pub lane_next : (lane : ℕ) (replies : List Reply) (k : ℕ) (reply : Reply) → k < length replies → reply ≡ slice_index_or replies k reply
    → to_lane lane (take (k + 1) replies) ≡ to_lane lane (take k replies) ++ record { lane = Some lane; reply = reply } ∷ []
lane_next lane replies k reply few is = ap (to_lane lane) (take_next replies k reply few is) ∙ map_both (λ (r : Reply). record { lane = Some lane; reply = r }) (take k replies) (reply ∷ [])

pub lane_here : (lane : ℕ) (replies : List Reply) (k : ℕ) (reply : Reply) → k < length replies → reply ≡ slice_index_or replies k reply
    → to_lane lane replies ≡ to_lane lane (take k replies) ++ record { lane = Some lane; reply = reply } ∷ to_lane lane (drop (k + 1) replies)
lane_here lane replies k reply few is = ap (to_lane lane) (take_here replies k reply few is) ∙ map_both (λ (r : Reply). record { lane = Some lane; reply = r }) (take k replies) (reply ∷ drop (k + 1) replies)

-- ---- all lanes

next_of : (n m : ℕ) (ran : List LaneReplies) (k : ℕ) (lane : LaneReplies) → m ≡ n + k → k < length ran → lane ≡ slice_index_or ran k lane
    → to_lanes n (replies_in (take (suc k) ran)) ≡ to_lanes n (replies_in (take k ran)) ++ to_lane m lane.replies.items
next_of n m [] k lane at few is = absurd (omega (arith, few))
next_of n m (r ∷ ran) zero lane at few is =
    let same : n ≡ m = omega (arith, at) in
    append-nil (to_lane n r.replies.items) ∙ ap (λ (l : LaneReplies). to_lane n l.replies.items) (sym is) ∙ ap (λ i. to_lane i lane.replies.items) same
next_of n m (r ∷ ran) (suc k) lane at few is =
    ap (λ zs. to_lane n r.replies.items ++ zs) (next_of (n + 1) m ran k lane (omega (arith, at)) (omega (arith, few)) is)
    ∙ sym (append_assoc (to_lane n r.replies.items) (to_lanes (n + 1) (replies_in (take k ran))) (to_lane m lane.replies.items))

here_of : (n m : ℕ) (ran : List LaneReplies) (k : ℕ) (lane : LaneReplies) → m ≡ n + k → k < length ran → lane ≡ slice_index_or ran k lane
    → to_lanes n (replies_in ran) ≡ to_lanes n (replies_in (take k ran)) ++ (to_lane m lane.replies.items ++ to_lanes (m + 1) (replies_in (drop (suc k) ran)))
here_of n m [] k lane at few is = absurd (omega (arith, few))
here_of n m (r ∷ ran) zero lane at few is =
    let same : n ≡ m = omega (arith, at) in
    ap (λ (l : LaneReplies). to_lane n l.replies.items ++ to_lanes (n + 1) (replies_in ran)) (sym is) ∙ ap (λ i. to_lane i lane.replies.items ++ to_lanes (i + 1) (replies_in ran)) same
here_of n m (r ∷ ran) (suc k) lane at few is =
    ap (λ zs. to_lane n r.replies.items ++ zs) (here_of (n + 1) m ran k lane (omega (arith, at)) (omega (arith, few)) is)
    ∙ sym (append_assoc (to_lane n r.replies.items) (to_lanes (n + 1) (replies_in (take k ran))) (to_lane m lane.replies.items ++ to_lanes (m + 1) (replies_in (drop (suc k) ran))))

pub lanes_next : (ran : List LaneReplies) (k : ℕ) (lane : LaneReplies) → k < length ran → lane ≡ slice_index_or ran k lane
    → to_lanes 0 (replies_in (take (k + 1) ran)) ≡ to_lanes 0 (replies_in (take k ran)) ++ to_lane k lane.replies.items
lanes_next ran k lane few is = ap (λ n. to_lanes 0 (replies_in (take n ran))) (one_more k) ∙ next_of 0 k ran k lane (omega arith) few is

pub lanes_here : (ran : List LaneReplies) (k : ℕ) (lane : LaneReplies) → k < length ran → lane ≡ slice_index_or ran k lane
    → to_lanes 0 (replies_in ran) ≡ to_lanes 0 (replies_in (take k ran)) ++ (to_lane k lane.replies.items ++ to_lanes (k + 1) (replies_in (drop (suc k) ran)))
lanes_here ran k lane few is = here_of 0 k ran k lane (omega arith) few is
