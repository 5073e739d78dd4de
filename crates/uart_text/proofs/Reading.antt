-- What an answer of `read_number` says.
use Rattle.std.proofs.Common.{◌≡◌, ℕ, ◌≤◌, List, Err, sym, ◌∙◌, arith}
use Rattle.uart_text.specs.declared.number.NumberError.{NumberError}
use Rattle.uart_text.specs.declared.number.NumberError.TheVariants.{NotANumber, TooLarge}
use Rattle.uart_text.specs.Number.{Number, NumberRead}

-- a text has one value
pub one_value : (s : List ℕ) (v w : ℕ) → Number s v → Number s w → v ≡ w
one_value s v w m n = m.1 ∙ sym n.1

-- a text that is refused is no number up to the largest
pub refused : (s : List ℕ) (largest : ℕ) (e : NumberError) → NumberRead s largest (Err e) → (v : ℕ) → Number s v → v ≤ largest → ⊥
refused s largest NotANumber answer v n h = answer v n
refused s largest TooLarge answer v n h = omega (arith, one_value s v answer.0 n answer.1, answer.2)
