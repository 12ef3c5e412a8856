-- What the steps of the code hand to each other: a value's size as a fraction, the factors of a product that fits 64 bits, and the places and digits of a value with their bounds. Assumes nothing.
use Rattle.std.specs.Prelude.{◌≡◌, ℕ, ◌*◌, ◌^◌, ◌≤◌, ◌<◌, Float}
use Rattle.std.specs.Float.Ieee.Positive.{num, den}
use Rattle.storage_word.specs.Word.{places, digits}

-- the size of x is significand / 2 ^ shift, and the significand has at most 24 binary digits
pub record Quotient (x : Float) (significand shift : ℕ) : Type 0 where
  pub value : num x * 2 ^ shift ≡ significand * den x
  pub few_bits : significand < 2 ^ 24

-- a significand, and a factor up to `most`
pub record Factors (most significand k : ℕ) : Type 0 where
  pub few_bits : significand < 2 ^ 24
  pub few : k ≤ most

-- x is shown with p places and the digits d
pub record Shows (x : Float) (p d : ℕ) : Type 0 where
  pub places_are : p ≡ places x
  pub digits_are : d ≡ digits x
  pub few_places : p ≤ 3
  pub few_digits : d ≤ 6999
