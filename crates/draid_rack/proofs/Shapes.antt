-- What is there of a rack whose contents are of its shape.
use Rattle.std.proofs.Common.{arith, refl, ◌≡◌, ◌∙◌, ◌<◌, sym, ap, ℕ, Bool, true, false, List, Option, Some, None, MatchOption, option_map, length, nat_lt, if◌then◌else◌}
use Rattle.std.specs.Prelude.{unwrap_or}
use Rattle.std.proofs.lemmas.Bool.Decides.{nat_tests}
use Rattle.std.proofs.lemmas.Option.{same_Some}
use Rattle.draid_rack.specs.Rack.{Fits, IsOfShape, Shape, Told}

found : (o : Option (List ℕ)) (len n : ℕ) → option_map length o ≡ Some len → n ≡ len → (bytes : List ℕ) × (o ≡ Some bytes) × (length bytes ≡ n)
found None len n is e = absurd (cc)
found (Some bytes) len n is e = (bytes, refl, same_Some (length bytes) len is ∙ sym e)

below : (leaves : Option ℕ) (s : ℕ) → MatchOption leaves ⊥ (λ n. s < n) → unwrap_or (option_map (λ n. nat_lt s n) leaves) false ≡ true
below None s is = absurd is
below (Some n) s is = grind (arith, nat_tests)

pub there : (shape : Shape) (x : Told) (l s n : ℕ) → IsOfShape shape x → Fits shape l s n → (bytes : List ℕ) × (x.reads l s ≡ Some bytes) × (length bytes ≡ n)
there shape x l s n shaped fits =
    let e = below (shape.leaves l) s fits.there in
    found (x.reads l s) shape.bytes n (shaped l s ∙ rw e refl) fits.whole

reads_below : (leaves : Option ℕ) (s : ℕ) → unwrap_or (option_map (λ n. nat_lt s n) leaves) false ≡ true → MatchOption leaves ⊥ (λ n. s < n)
reads_below None s is = absurd (cc)
reads_below (Some n) s is = grind (arith, nat_tests)

chosen : (b : Bool) (len n : ℕ) → Some n ≡ (if b then Some len else None) → (b ≡ true) × (n ≡ len)
chosen true len n is = (refl, same_Some n len is)
chosen false len n is = absurd (cc)

pub is_there : (shape : Shape) (x : Told) (l s : ℕ) (bytes : List ℕ) → IsOfShape shape x → x.reads l s ≡ Some bytes → Fits shape l s (length bytes)
is_there shape x l s bytes shaped is =
    let has = unwrap_or (option_map (λ n. nat_lt s n) (shape.leaves l)) false in
    let e = chosen has shape.bytes (length bytes) (sym (ap (λ o. option_map length o) is) ∙ shaped l s) in
    record { there = reads_below (shape.leaves l) s e.0; whole = e.1 }
