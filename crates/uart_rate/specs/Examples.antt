use Rattle.std.specs.Prelude.{◌≡◌, ℕ, true, Ok, Err}
use Rattle.uart_rate.specs.declared.achieved.Achieved.{Achieved}
use Rattle.uart_rate.specs.declared.config.BaudrateTolerance.{BaudrateTolerance}
use Rattle.uart_rate.specs.declared.config.BaudrateTolerance.TheVariants.{Closest, Exact, ErrorPercent}
use Rattle.uart_rate.specs.Limits.{Limits}
use Rattle.uart_rate.specs.declared.refusal.Refusal.{Refusal}
use Rattle.uart_rate.specs.declared.refusal.Refusal.TheVariants.{DividerOutOfRange, BaudrateNotAchievable}
use Rattle.uart_rate.specs.Achieving.{Achieves}
use Rattle.uart_rate.specs.Generators.{esp32_limits, prescaled_limits}
use Rattle.uart_rate.specs.Rates.{sixteenths_of}

-- a clock and a baud rate are accepted, and what the head gets is so
abbrev pub Accepted : Limits → ℕ → ℕ → BaudrateTolerance → (Achieved → Type 0) → Type 0
Accepted l clk baud t P = (a : Achieved) × Achieves l true clk baud t (Ok a) × P a

-- they are refused
abbrev pub Refused : Limits → ℕ → ℕ → BaudrateTolerance → Refusal → Type 0
Refused l clk baud t e = Achieves l true clk baud t (Err e)

-- prescaler and divider
abbrev pub DividerIs : ℕ → ℕ → Achieved → Type 0
DividerIs p d a = (a.divider.prescaler ≡ p) × (sixteenths_of a.divider ≡ d)

-- prescaler, divider and rate
abbrev pub RateIs : ℕ → ℕ → ℕ → Achieved → Type 0
RateIs p d r a = DividerIs p d a × (a.rate ≡ r)

-- worked examples, reckoned by hand
pub record WorkedExamples : Type 0 where
  -- a chip with a prescaler, at 80 MHz
  pub c3_115200 : Accepted prescaled_limits 80000000 115200 Closest (RateIs 1 11111 115201)
  pub c3_9600 : Accepted prescaled_limits 80000000 9600 Closest (RateIs 3 44444 9600)
  -- the last clock that needs no prescaler at 9,600 baud, and the first that does
  pub c3_last_undivided : Accepted prescaled_limits 39302400 9600 Closest (DividerIs 1 65504)
  pub c3_first_divided : Accepted prescaled_limits 39302401 9600 Closest (DividerIs 2 32752)
  -- the slowest rates at 80 MHz
  pub c3_slowest : Accepted prescaled_limits 80000000 77 Closest (DividerIs 254 65446)
  pub c3_too_slow : Refused prescaled_limits 80000000 76 Closest DividerOutOfRange
  pub esp32_slowest : Accepted esp32_limits 80000000 77 Closest (DividerIs 1 16623376)
  pub esp32_too_slow : Refused esp32_limits 80000000 76 Closest DividerOutOfRange
  -- the head runs 6.67 percent faster than asked
  pub esp32_fast : Accepted esp32_limits 1000000 5000000 Closest (RateIs 1 3 5333333)
  pub esp32_exact : Refused esp32_limits 1000000 5000000 Exact BaudrateNotAchievable
  pub esp32_six_percent : Refused esp32_limits 1000000 5000000 (ErrorPercent 6) BaudrateNotAchievable
  pub esp32_seven_percent : Accepted esp32_limits 1000000 5000000 (ErrorPercent 7) (RateIs 1 3 5333333)
  -- the slowest clock for the fastest rate
  pub esp32_one_sixteenth : Accepted esp32_limits 312500 5000000 Closest (DividerIs 1 1)
  pub esp32_no_divider : Refused esp32_limits 312499 5000000 Closest DividerOutOfRange
