use Rattle.std.specs.Prelude.{ℕ, ◌+◌, ◌*◌, Bool, false, nat_lt}
use Rattle.uart_rate.specs.declared.config.BaudrateTolerance.{BaudrateTolerance}
use Rattle.uart_rate.specs.declared.config.BaudrateTolerance.TheVariants.{Closest, Exact, ErrorPercent}
use Rattle.uart_rate.specs.declared.divider.Divider.{Divider}
use Rattle.uart_rate.specs.Rates.{sixteenths_of}

-- These are uart_rate's `MoreThanPercent` and `TooFast` as tests: a row holds a refusal or none, and a proposition
-- cannot choose between the two.

-- the rate of a divider is more than so many percent above the one asked for, as a test
abbrev pub more_than_percent : ℕ → ℕ → ℕ → Divider → Bool
more_than_percent n clk baud v = nat_lt ((100 + n) * (baud * v.prescaler * sixteenths_of v)) (1600 * clk)

-- the rate of a divider is beyond the tolerance, as a test
abbrev pub too_fast : BaudrateTolerance → ℕ → ℕ → Divider → Bool
too_fast Closest clk baud v = false
too_fast Exact clk baud v = more_than_percent 1 clk baud v
too_fast (ErrorPercent n) clk baud v = more_than_percent n clk baud v
