use Rattle.std.specs.Prelude.{◌≡◌, ℕ, ◌+◌, ◌*◌, ◌<◌, Bool, IsOkAnd, IsErrAnd, Ok, Err, Result}
use Rattle.uart_rate.specs.declared.achieved.Achieved.{Achieved}
use Rattle.uart_rate.specs.declared.config.BaudrateTolerance.{BaudrateTolerance}
use Rattle.uart_rate.specs.declared.config.BaudrateTolerance.TheVariants.{Closest, Exact, ErrorPercent}
use Rattle.uart_rate.specs.declared.clocks.Clocks.{Clocks}
use Rattle.uart_rate.specs.declared.config.ClockSource.{ClockSource}
use Rattle.uart_rate.specs.declared.config.Config.{Config}
use Rattle.uart_rate.specs.declared.divider.Divider.{Divider}
use Rattle.uart_rate.specs.Limits.{Limits}
use Rattle.uart_rate.specs.declared.refusal.Refusal.{Refusal}
use Rattle.uart_rate.specs.declared.refusal.Refusal.TheVariants.{BaudrateNotAchievable}
use Rattle.uart_rate.specs.Clocks.{hertz_of}
use Rattle.uart_rate.specs.Judging.{Judged}
use Rattle.uart_rate.specs.Rates.{HeadRate, sixteenths_of}

-- the rate 16 × clk / (p × d) is more than n percent above baud
abbrev pub MoreThanPercent : ℕ → ℕ → ℕ → Divider → Type 0
MoreThanPercent n clk baud v = (100 + n) * (baud * v.prescaler * sixteenths_of v) < 1600 * clk

-- the rate is further above baud than the tolerance allows: `Exact` is one percent, `Closest` allows all
abbrev pub TooFast : BaudrateTolerance → ℕ → ℕ → Divider → Type 0
TooFast Closest clk baud v = ⊥
TooFast Exact clk baud v = MoreThanPercent 1 clk baud v
TooFast (ErrorPercent n) clk baud v = MoreThanPercent n clk baud v

-- what the head gets from the divider v: the clock, and the rate with its excess
pub record Runs (clk baud : ℕ) (v : Divider) (a : Achieved) : Type 0 where
  pub clock : a.clk ≡ clk
  pub divider : a.divider ≡ v
  pub head : HeadRate clk baud v.prescaler (sixteenths_of v) a.rate a.excess

-- What is answered to a configuration: the refusal of its judgement, or BaudrateNotAchievable where the
-- divider makes a rate that is too fast, or else what the head gets.
pub data Achieves (l : Limits) (has : Bool) (clk baud : ℕ) (t : BaudrateTolerance) (r : Result Achieved Refusal) : Type 0 where
  refused : IsErrAnd r (λ e. Judged l has clk baud t (Err e)) → Achieves l has clk baud t r
  not_achievable : (v : Divider) → Judged l has clk baud t (Ok v) → TooFast t clk baud v → r ≡ Err BaudrateNotAchievable → Achieves l has clk baud t r
  achieved : (v : Divider) → Judged l has clk baud t (Ok v) → (TooFast t clk baud v → ⊥) → IsOkAnd r (Runs clk baud v) → Achieves l has clk baud t r

-- the same of a configuration and a record of clocks, on a chip that has some of the sources
abbrev pub Gets : Limits → (ClockSource → Bool) → Config → Clocks → Result Achieved Refusal → Type 0
Gets l has config clocks r =
    Achieves l (has config.clock_source) (hertz_of clocks config.clock_source) config.baudrate config.baudrate_tolerance r
