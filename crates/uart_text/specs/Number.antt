-- What a decimal number is, and what it says.
use Rattle.std.specs.Prelude.{◌≡◌, ℕ, suc, ◌+◌, ◌-◌, ◌*◌, ◌%◌, ◌<◌, ◌≤◌, Bool, true, cond, ◌≢◌, List, [], ◌∷◌, Ok, Err, codes, Result}
use Rattle.std.specs.Char.{is_ascii_digit}
use Rattle.uart_text.specs.declared.number.NumberError.{NumberError}
use Rattle.uart_text.specs.declared.number.NumberError.TheVariants.{NotANumber, TooLarge}

-- a byte from `0` to `9`
abbrev pub Digit : ℕ → Type 0
Digit b = (48 ≤ b) × (b ≤ 57)

-- s is a numeral of n digits: a `_` (95) may stand between two digits, but if g is true, a `,` (44) stands between
-- those two that have a multiple of three digits to their right; there is no other `,`
pub data Numeral (g : Bool) : List ℕ → ℕ → Type 0 where
  last : {b : ℕ} → Digit b → Numeral g (b ∷ []) 1
  next : {b : ℕ} {s : List ℕ} {n : ℕ} → Digit b → Numeral g s n → (g ≡ true → n % 3 ≢ 0) → Numeral g (b ∷ s) (suc n)
  under : {b : ℕ} {s : List ℕ} {n : ℕ} → Digit b → Numeral g s n → (g ≡ true → n % 3 ≢ 0) → Numeral g (b ∷ 95 ∷ s) (suc n)
  comma : {b : ℕ} {s : List ℕ} {n : ℕ} → Digit b → Numeral g s n → g ≡ true → n % 3 ≡ 0 → Numeral g (b ∷ 44 ∷ s) (suc n)

-- s is a numeral, grouped by commas or not
abbrev pub Form : List ℕ → Type 0
Form s = (g : Bool) × (n : ℕ) × Numeral g s n

-- the value of the digits of s behind digits whose value is a: each digit adds itself to ten times what is before it
abbrev pub value_from : ℕ → List ℕ → ℕ
value_from a [] = a
value_from a (b ∷ s) = value_from (cond (is_ascii_digit b) (10 * a + (b - 48)) a) s

-- the value of the digits of s
abbrev pub value : List ℕ → ℕ
value s = value_from 0 s

-- s is a numeral whose value is v
abbrev pub Number : List ℕ → ℕ → Type 0
Number s v = Form s × (v ≡ value s)

-- the answer to s where numbers up to `largest` are taken: the number s; or s is a larger number; or s is no number
abbrev pub NumberRead : List ℕ → ℕ → Result ℕ NumberError → Type 0
NumberRead s largest (Ok v) = Number s v × (v ≤ largest)
NumberRead s largest (Err TooLarge) = (v : ℕ) × Number s v × (largest < v)
NumberRead s largest (Err NotANumber) = (v : ℕ) → Number s v → ⊥

-- what a person is told of an error
abbrev pub text_of : NumberError → List ℕ
text_of NotANumber = codes "not a number"
text_of TooLarge = codes "too large a number"
