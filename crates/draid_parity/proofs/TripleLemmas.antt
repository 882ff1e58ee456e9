-- Three columns from three sums, row by row; one parity column from the data columns.
use Rattle.std.proofs.Common.{◌≡◌, ℕ, ◌+◌, ◌-◌, ◌*◌, ◌^◌, ◌<◌, ◌≤◌, ◌∙◌, inl, inr, List, [], ◌∷◌, length, map, drop, bit_xor, refl, sym, ap, ap₂, subst, arith}
use Rattle.std.specs.Prelude.{slice_index}
use Rattle.std.specs.Simd.Lanes.{zip2}
use Rattle.std.specs.Int.Bits.{xor_assoc}
use Rattle.std.proofs.lemmas.Bool.{cases_order}
use Rattle.std.proofs.lemmas.Nat.{xor_of_8}
use Rattle.draid_gf.specs.Field.{field_power, field_product, IsByte}
use Rattle.draid_gf.specs.Lanes.{HasLanes}
use Rattle.draid_gf.proofs.Laws.{same_from_xor}
use Rattle.draid_gf.proofs.Powers.{field_power-byte}
use Rattle.draid_gf.proofs.Product.{product_byte}
use Rattle.draid_parity.specs.Codeword.{parity_sum}
use Rattle.draid_parity.specs.Columns.{byte_row, column_at, rest_of}
use Rattle.draid_parity.specs.Equations.{SolvesThree}
use Rattle.draid_parity.specs.Rows.{AddsRows, PutsRows, SolvesLanes, SolvesRows, SolvesTriple, second_part}
use Rattle.draid_parity.proofs.Algebra.{divided, three, two, two_same, xor_none}
use Rattle.draid_parity.proofs.Horner.{power_byte, weighted_sum-byte}
use Rattle.draid_parity.proofs.PairLemmas.{adds_at, below_same, first_lanes, part_byte, rest_added, second_lanes, times_over}
use Rattle.draid_parity.proofs.Restored.{weigh0, weigh1, weigh2}
use Rattle.draid_parity.proofs.RowsLemmas.{drop_same}

-- ---- the parts of the three columns
pub parts_solve : (n e f g v0 v1 over_second over_third between : ℕ) (p q r m1 low m2 high m3 m4 last m5 second third m6 first : List ℕ)
    → m1 ≡ map (field_product v0) p → low ≡ zip2 bit_xor q m1 → m2 ≡ map (field_product v0) q → high ≡ zip2 bit_xor r m2
    → m3 ≡ map (field_product v1) low → m4 ≡ zip2 bit_xor high m3 → last ≡ map (field_product between) m4
    → m5 ≡ zip2 bit_xor low last → second ≡ map (field_product over_second) m5 → third ≡ map (field_product over_third) last
    → m6 ≡ zip2 bit_xor p second → first ≡ zip2 bit_xor m6 third
    → (s t u : ℕ → ℕ) → SolvesTriple e f g v0 v1 over_second over_third between
    → HasLanes n p s → HasLanes n q t → HasLanes n r u
    → ((j : ℕ) → j < n → IsByte (s j)) → ((j : ℕ) → j < n → IsByte (t j)) → ((j : ℕ) → j < n → IsByte (u j))
    → SolvesLanes n e f g s t u first second third
parts_solve n e f g v0 v1 over_second over_third between p q r m1 low m2 high m3 m4 last m5 second third m6 first is1 low_is is2 high_is is3 is4 last_is is5 second_is third_is is6 first_is
    s t u triple p_lanes q_lanes r_lanes s_byte t_byte u_byte = record {
      long = (first_has.long, second_has.long, third_has.long);
      solved = λ j below.
          subst (λ a. SolvesThree a (field_power 2 f) v2 (s j) (t j) (u j) (slice_index first j) (slice_index second j) (slice_index third j)) triple.first_is
          (subst (λ a. SolvesThree v0 a v2 (s j) (t j) (u j) (slice_index first j) (slice_index second j) (slice_index third j)) triple.second_is (equations j below));
      bytes = λ j below. (
        subst IsByte (sym (first_has.each j below)) (xor_of_8 (bit_xor (s j) (y1 j)) (y2 j) (xor_of_8 (s j) (y1 j) (s_byte j below) (y1_byte j)) (y2_byte j)),
        subst IsByte (sym (second_has.each j below)) (y1_byte j),
        subst IsByte (sym (third_has.each j below)) (y2_byte j),
      );
    } where
      v2 : ℕ
      v2 = field_power 2 g

      v0_byte : IsByte v0
      v0_byte = subst IsByte (sym triple.first_is) (field_power-byte 2 e (omega arith))

      v1_byte : IsByte v1
      v1_byte = subst IsByte (sym triple.second_is) (field_power-byte 2 f (omega arith))

      v2_byte : IsByte v2
      v2_byte = field_power-byte 2 g (omega arith)

      a : ℕ → ℕ
      a j = bit_xor (t j) (field_product v0 (s j))

      b : ℕ → ℕ
      b j = bit_xor (u j) (field_product v0 (t j))

      w : ℕ → ℕ
      w j = second_part v1 between (a j) (b j)

      y1 : ℕ → ℕ
      y1 j = field_product over_second (bit_xor (a j) (w j))

      y2 : ℕ → ℕ
      y2 j = field_product over_third (w j)

      y1_byte : (j : ℕ) → IsByte (y1 j)
      y1_byte j = product_byte over_second (bit_xor (a j) (w j)) triple.bytes.0

      y2_byte : (j : ℕ) → IsByte (y2 j)
      y2_byte j = product_byte over_third (w j) triple.bytes.1

      w_byte : (j : ℕ) → IsByte (w j)
      w_byte j = part_byte v1 between (a j) (b j) triple.bytes.2

      a_byte : (j : ℕ) → j < n → IsByte (a j)
      a_byte j below = xor_of_8 (t j) (field_product v0 (s j)) (t_byte j below) (product_byte v0 (s j) v0_byte)

      b_byte : (j : ℕ) → j < n → IsByte (b j)
      b_byte j below = xor_of_8 (u j) (field_product v0 (t j)) (u_byte j below) (product_byte v0 (t j) v0_byte)

      low_has : HasLanes n low a
      low_has = first_lanes n q m1 low low_is t (λ j. field_product v0 (s j)) q_lanes (times_over n v0 p m1 s is1 p_lanes)

      high_has : HasLanes n high b
      high_has = first_lanes n r m2 high high_is u (λ j. field_product v0 (t j)) r_lanes (times_over n v0 q m2 t is2 q_lanes)

      last_has : HasLanes n last w
      last_has = second_lanes n v1 between low high m3 m4 last is3 is4 last_is a b low_has high_has

      second_has : HasLanes n second y1
      second_has = times_over n over_second m5 second (λ j. bit_xor (a j) (w j)) second_is (first_lanes n low last m5 is5 a w low_has last_has)

      third_has : HasLanes n third y2
      third_has = times_over n over_third last third w third_is last_has

      first_has : HasLanes n first (λ j. bit_xor (bit_xor (s j) (y1 j)) (y2 j))
      first_has = first_lanes n m6 third first first_is (λ j. bit_xor (s j) (y1 j)) y2 (first_lanes n p second m6 is6 s y1 p_lanes second_has) third_has

      equations : (j : ℕ) → j < n → SolvesThree v0 v1 v2 (s j) (t j) (u j) (slice_index first j) (slice_index second j) (slice_index third j)
      equations j below =
          let here = slice_index second j in
          let there = slice_index third j in
          let z = bit_xor (a j) (w j) in
          let z_byte : IsByte z = xor_of_8 (a j) (w j) (a_byte j below) (w_byte j) in
          let back : z ≡ field_product (bit_xor v0 v1) here =
          sym (ap (field_product (bit_xor v0 v1)) (second_has.each j below)
          ∙ divided (bit_xor v0 v1) over_second z (xor_of_8 v0 v1 v0_byte v1_byte) triple.bytes.0 z_byte triple.apart) in
          let far_back : w j ≡ field_product (bit_xor v0 v2) there =
          sym (ap (field_product (bit_xor v0 v2)) (third_has.each j below)
          ∙ divided (bit_xor v0 v2) over_third (w j) (xor_of_8 v0 v2 v0_byte v2_byte) triple.bytes.1 (w_byte j) triple.far_apart) in
          three v0 v1 v2 (s j) (t j) (u j) (slice_index first j) here there v0_byte v1_byte v2_byte
          (subst IsByte (sym (second_has.each j below)) (y1_byte j)) (subst IsByte (sym (third_has.each j below)) (y2_byte j))
          (first_has.each j below ∙ sym (ap₂ (λ k l. bit_xor (bit_xor (s j) k) l) (second_has.each j below) (third_has.each j below)))
          (two_same v1 v2 (a j) (b j) z (w j) (a j) (b j) (field_product (bit_xor v0 v1) here) (field_product (bit_xor v0 v2) there) refl refl back far_back
          (two v1 v2 (a j) (b j) z (w j) refl
          (divided (bit_xor v1 v2) between (bit_xor (b j) (field_product v1 (a j))) (xor_of_8 v1 v2 v1_byte v2_byte) triple.bytes.2
          (xor_of_8 (b j) (field_product v1 (a j)) (b_byte j below) (product_byte v1 (a j) v1_byte)) triple.last_apart)))

-- ---- the three sums are right after the three parts were added
three_zero : (a b c : ℕ) (x y z rest : ℕ) → rest ≡ bit_xor x (bit_xor y z) → a ≡ x → b ≡ y → c ≡ z → bit_xor (bit_xor (bit_xor rest a) b) c ≡ 0
three_zero a b c x y z rest is a_is b_is c_is =
    xor_assoc (bit_xor rest a) b c ∙ xor_assoc rest a (bit_xor b c)
    ∙ xor_none rest (bit_xor a (bit_xor b c)) (is ∙ sym (ap₂ bit_xor a_is (ap₂ bit_xor b_is c_is)))

pub solves_three : (at n x y z : ℕ) (first second third : List ℕ) (old mid late new seen : List (List ℕ)) → seen ≡ old
    → 3 ≤ x → x < y → y < z → z < length old
    → SolvesLanes n (length old - 1 - x) (length old - 1 - y) (length old - 1 - z) (λ j. rest_of 3 seen 0 (at + j)) (λ j. rest_of 3 seen 1 (at + j)) (λ j. rest_of 3 seen 2 (at + j)) first second third
    → AddsRows at n x first old mid → AddsRows at n y second mid late → AddsRows at n z third late new
    → SolvesRows 3 at n (0 ∷ 1 ∷ 2 ∷ []) (x ∷ y ∷ z ∷ []) old new
solves_three at n x y z first second third old mid late new seen same missing x_y y_z below lanes first_adds second_adds third_adds =
    record {
      count = third_adds.count ∙ second_adds.count ∙ first_adds.count;
      long = λ i. third_adds.long i ∙ second_adds.long i ∙ first_adds.long i;
      stays = λ i away. third_adds.other i (λ e. away (inr (inr (inl e)))) ∙ second_adds.other i (λ e. away (inr (inl e))) ∙ first_adds.other i (λ e. away (inl e));
      below = λ i j low.
          below_same at n z third late new third_adds i j low ∙ below_same at n y second mid late second_adds i j low ∙ below_same at n x first old mid first_adds i j low;
      bytes = λ i j one low. elim one [
        | inl e ↦
            subst (λ m. IsByte (slice_index (column_at new m) (at + j))) (sym e)
            (subst IsByte (sym (ap (λ c. slice_index c (at + j)) (third_adds.other x (λ e. omega arith) ∙ second_adds.other x (λ e. omega arith)) ∙ first_adds.here j low))
            (xor_of_8 (slice_index (column_at old x) (at + j)) (slice_index first j) (first_adds.bytes j low) (lanes.bytes j low).0))
        | inr (inl e) ↦
            subst (λ m. IsByte (slice_index (column_at new m) (at + j))) (sym e)
            (subst IsByte (sym (ap (λ c. slice_index c (at + j)) (third_adds.other y (λ e. omega arith)) ∙ second_adds.here j low))
            (xor_of_8 (slice_index (column_at mid y) (at + j)) (slice_index second j) (second_adds.bytes j low) (lanes.bytes j low).1))
        | inr (inr (inl e)) ↦
            subst (λ m. IsByte (slice_index (column_at new m) (at + j))) (sym e)
            (subst IsByte (sym (third_adds.here j low))
            (xor_of_8 (slice_index (column_at late z) (at + j)) (slice_index third j) (third_adds.bytes j low) (lanes.bytes j low).2))
        | inr (inr (inr none)) ↦ absurd none
      ];
      solved = λ m j one low. elim one [
        | inl e ↦ right m 0 j e (omega arith) low (nothing0 j low)
        | inr (inl e) ↦ right m 1 j e (omega arith) low (nothing1 j low)
        | inr (inr (inl e)) ↦ right m 2 j e (omega arith) low (nothing2 j low)
        | inr (inr (inr none)) ↦ absurd none
      ];
    }
  where
    e : ℕ
    e = length old - 1 - x

    f : ℕ
    f = length old - 1 - y

    g : ℕ
    g = length old - 1 - z

    weigh : ℕ → ℕ → ℕ → ℕ
    weigh m i d = field_product (field_power 2 (m * i)) d

    right : (m k j : ℕ) → m ≡ k → k < 3 → j < n → rest_of 3 new k (at + j) ≡ 0 → slice_index (column_at new m) (at + j) ≡ parity_sum m (byte_row (at + j) (drop 3 new))
    right m k j is kind low none =
        subst (λ i. slice_index (column_at new i) (at + j) ≡ parity_sum i (byte_row (at + j) (drop 3 new))) (sym is)
        (same_from_xor (slice_index (column_at new k) (at + j)) (parity_sum k (byte_row (at + j) (drop 3 new))) none)

    after : (k j : ℕ) → k < 3 → j < n → rest_of 3 new k (at + j)
        ≡ bit_xor (bit_xor (bit_xor (rest_of 3 seen k (at + j)) (weigh k e (slice_index first j))) (weigh k f (slice_index second j))) (weigh k g (slice_index third j))
    after k j kind low =
        let first_count = first_adds.count in
        let second_count = second_adds.count in
        let f_is : length mid - 1 - y ≡ f = omega (arith, first_count) in
        let g_is : length late - 1 - z ≡ g = omega (arith, first_count, second_count) in
        rest_added 3 k z (at + j) (slice_index third j) late new kind kind (omega arith) (omega (arith, first_count, second_count)) (adds_at at n z j third late new third_adds low)
        ∙ ap₂ bit_xor
        (rest_added 3 k y (at + j) (slice_index second j) mid late kind kind (omega arith) (omega (arith, first_count)) (adds_at at n y j second mid late second_adds low)
        ∙ ap₂ bit_xor
        (rest_added 3 k x (at + j) (slice_index first j) old mid kind kind missing (omega arith) (adds_at at n x j first old mid first_adds low)
        ∙ ap (λ cs. bit_xor (rest_of 3 cs k (at + j)) (weigh k e (slice_index first j))) (sym same))
        (ap (λ i. weigh k i (slice_index second j)) f_is))
        (ap (λ i. weigh k i (slice_index third j)) g_is)

    nothing0 : (j : ℕ) → j < n → rest_of 3 new 0 (at + j) ≡ 0
    nothing0 j low =
        after 0 j (omega arith) low
        ∙ three_zero (weigh 0 e (slice_index first j)) (weigh 0 f (slice_index second j)) (weigh 0 g (slice_index third j)) _ _ _ (rest_of 3 seen 0 (at + j)) (sym ((lanes.solved j low).sum0))
        (weigh0 e (slice_index first j) (lanes.bytes j low).0) (weigh0 f (slice_index second j) (lanes.bytes j low).1) (weigh0 g (slice_index third j) (lanes.bytes j low).2)

    nothing1 : (j : ℕ) → j < n → rest_of 3 new 1 (at + j) ≡ 0
    nothing1 j low =
        after 1 j (omega arith) low
        ∙ three_zero (weigh 1 e (slice_index first j)) (weigh 1 f (slice_index second j)) (weigh 1 g (slice_index third j)) _ _ _ (rest_of 3 seen 1 (at + j)) (sym ((lanes.solved j low).sum1))
        (weigh1 e (field_power 2 e) (slice_index first j) refl) (weigh1 f (field_power 2 f) (slice_index second j) refl) (weigh1 g (field_power 2 g) (slice_index third j) refl)

    nothing2 : (j : ℕ) → j < n → rest_of 3 new 2 (at + j) ≡ 0
    nothing2 j low =
        after 2 j (omega arith) low
        ∙ three_zero (weigh 2 e (slice_index first j)) (weigh 2 f (slice_index second j)) (weigh 2 g (slice_index third j)) _ _ _ (rest_of 3 seen 2 (at + j)) (sym ((lanes.solved j low).sum2))
        (weigh2 e (field_power 2 e) (slice_index first j) refl (lanes.bytes j low).0) (weigh2 f (field_power 2 f) (slice_index second j) refl (lanes.bytes j low).1)
        (weigh2 g (field_power 2 g) (slice_index third j) refl (lanes.bytes j low).2)

-- ---- one parity column
pub encodes_one : (parity at n k : ℕ) (rows : List ℕ) (old new seen : List (List ℕ)) → seen ≡ old → k < 3 → k < parity
    → HasLanes n rows (λ j. parity_sum k (byte_row (at + j) (drop parity seen))) → PutsRows at n k rows old new → SolvesRows parity at n (k ∷ []) (k ∷ []) old new
encodes_one parity at n k rows old new seen same kind below lanes puts = record {
  count = puts.count;
  long = puts.long;
  stays = λ i away. puts.other i (λ e. away (inl e));
  below = λ i j low. elim (cases_order i k) [
    | inl e ↦ subst (λ m. slice_index (column_at new m) j ≡ slice_index (column_at old m) j) (sym e) (puts.below j low)
    | inr (inl l) ↦ ap (λ c. slice_index c j) (puts.other i (λ e. omega arith))
    | inr (inr h) ↦ ap (λ c. slice_index c j) (puts.other i (λ e. omega arith))
  ];
  bytes = λ i j one low. elim one [
    | inl e ↦ subst (λ m. IsByte (slice_index (column_at new m) (at + j))) (sym e)
        (subst IsByte (sym (puts.here j low ∙ lanes.each j low)) (weighted_sum-byte (2 ^ k) (byte_row (at + j) (drop parity seen)) (power_byte k kind)))
    | inr other ↦ absurd other
  ];
  solved = λ m j one low. elim one [
    | inl e ↦ subst (λ i. slice_index (column_at new i) (at + j) ≡ parity_sum i (byte_row (at + j) (drop parity new))) (sym e)
        (puts.here j low ∙ lanes.each j low
        ∙ ap (λ cs. parity_sum k (byte_row (at + j) cs)) (ap (drop parity) same ∙ sym (drop_same parity old new puts.count (λ i above. puts.other i (λ e. omega arith)))))
    | inr other ↦ absurd other
  ];
}
