use Rattle.std.specs.Prelude.{◌≡◌, ℕ, ◌*◌, ◌≤◌, Bool, Ok, Err, Result}
use Rattle.uart_rate.specs.declared.achieved.Achieved.{Achieved}
use Rattle.uart_rate.specs.declared.config.BaudrateTolerance.{BaudrateTolerance}
use Rattle.uart_rate.specs.declared.divider.Divider.{Divider}
use Rattle.uart_rate.specs.Limits.{Limits}
use Rattle.uart_rate.specs.declared.refusal.Refusal.{Refusal}
use Rattle.uart_rate.specs.Achieving.{Achieves}
use Rattle.uart_rate.specs.Judging.{Judged}
use Rattle.uart_rate.specs.Rates.{RateLaw, prescaler_of, divisor_of}

-- the rate law is met by the numbers that are reckoned, and by no others
pub record LawReckoned : Type 0 where
  pub met : (q clk baud : ℕ) → 1 ≤ q → 1 ≤ clk → 1 ≤ baud → RateLaw q clk baud (prescaler_of q clk baud) (divisor_of clk baud (prescaler_of q clk baud))
  pub alone : (q clk baud p d p' d' : ℕ) → RateLaw q clk baud p d → RateLaw q clk baud p' d' → (p ≡ p') × (d ≡ d')

-- under a prescaler of 2 or more the divider is at least 8 × q, so the head is faster than asked by less than one part in 8 × q
abbrev pub FinelyDivided : Type 0
FinelyDivided = (q clk baud p d : ℕ) → RateLaw q clk baud p d → 2 ≤ p → 8 * q ≤ d

-- two dividers with the same numbers
pub record SameDivider (v w : Divider) : Type 0 where
  pub prescaler : v.prescaler ≡ w.prescaler
  pub integer : v.integer ≡ w.integer
  pub fraction : v.fraction ≡ w.fraction

-- two heads with the same numbers
pub record SameHead (a b : Achieved) : Type 0 where
  pub clk : a.clk ≡ b.clk
  pub divider : SameDivider a.divider b.divider
  pub rate : a.rate ≡ b.rate
  pub excess : a.excess ≡ b.excess

-- two answers that are both accepted, and alike, or the same refusal
abbrev pub SameAnswer : {X : Type 0} → (X → X → Type 0) → Result X Refusal → Result X Refusal → Type 0
SameAnswer alike (Ok x) (Ok y) = alike x y
SameAnswer alike (Ok x) (Err f) = ⊥
SameAnswer alike (Err e) (Ok y) = ⊥
SameAnswer alike (Err e) (Err f) = e ≡ f

-- The rules leave no choice: whatever they allow as an answer to a configuration is the same answer. So an
-- answer is given exactly where its case of the rules says.
pub record AnswersDecided : Type 0 where
  pub judging : (l : Limits) (has : Bool) (clk baud : ℕ) (t : BaudrateTolerance) (r s : Result Divider Refusal) →
      Judged l has clk baud t r → Judged l has clk baud t s → SameAnswer SameDivider r s
  pub achieving : (l : Limits) (has : Bool) (clk baud : ℕ) (t : BaudrateTolerance) (r s : Result Achieved Refusal) →
      Achieves l has clk baud t r → Achieves l has clk baud t s → SameAnswer SameHead r s
