use Rattle.std.specs.Prelude.{◌≡◌, ℕ, ◌/◌, ◌<◌, ◌≤◌, Bool, true, false, ◌⊎◌, IsOkAnd, Err, Result}
use Rattle.uart_rate.specs.declared.config.BaudrateTolerance.{BaudrateTolerance}
use Rattle.uart_rate.specs.declared.config.BaudrateTolerance.TheVariants.{Closest, Exact, ErrorPercent}
use Rattle.uart_rate.specs.declared.clocks.Clocks.{Clocks}
use Rattle.uart_rate.specs.declared.config.ClockSource.{ClockSource}
use Rattle.uart_rate.specs.declared.config.Config.{Config}
use Rattle.uart_rate.specs.declared.divider.Divider.{Divider}
use Rattle.uart_rate.specs.Limits.{Limits}
use Rattle.uart_rate.specs.declared.refusal.Refusal.{Refusal}
use Rattle.uart_rate.specs.declared.refusal.Refusal.TheVariants.{PercentOutOfRange, BaudrateNotSupported, ClockNotUsable, DividerOutOfRange}
use Rattle.uart_rate.specs.Clocks.{hertz_of}
use Rattle.uart_rate.specs.Rates.{LeastPrescaler, RateLaw, sixteenths_of}

-- a tolerance in percent is 1 to 100; the other tolerances name no percent
abbrev pub IsPercentInRange : BaudrateTolerance → Type 0
IsPercentInRange Closest = Unit {0}
IsPercentInRange Exact = Unit {0}
IsPercentInRange (ErrorPercent n) = (1 ≤ n) × (n ≤ 100)

abbrev pub IsPercentOutOfRange : BaudrateTolerance → Type 0
IsPercentOutOfRange Closest = ⊥
IsPercentOutOfRange Exact = ⊥
IsPercentOutOfRange (ErrorPercent n) = (n ≡ 0) ⊎ (100 < n)

-- a baud rate is 1 to 5,000,000
abbrev pub IsBaudInRange : ℕ → Type 0
IsBaudInRange baud = (1 ≤ baud) × (baud ≤ 5000000)

abbrev pub IsBaudOutOfRange : ℕ → Type 0
IsBaudOutOfRange baud = (baud ≡ 0) ⊎ (5000000 < baud)

-- a clock is usable if the chip has its source, and it runs below 268,435,456 hertz
pub record IsClockUsable (has : Bool) (clk : ℕ) : Type 0 where
  pub source : has ≡ true
  pub runs : 1 ≤ clk
  pub slow : clk < 268435456

pub data IsClockUnusable (has : Bool) (clk : ℕ) : Type 0 where
  source_missing : has ≡ false → IsClockUnusable has clk
  stopped : clk ≡ 0 → IsClockUnusable has clk
  too_high : 268435456 ≤ clk → IsClockUnusable has clk

-- a divider that obeys the rate law and fits the chip's fields
pub record Divides (l : Limits) (clk baud : ℕ) (v : Divider) : Type 0 where
  pub law : RateLaw l.q clk baud v.prescaler (sixteenths_of v)
  pub prescaler_fits : v.prescaler ≤ l.p
  pub integer_fits : v.integer ≤ l.i

-- what the rate law asks for does not fit: which of the three bounds fails
pub data IsOutOfBounds (l : Limits) (clk baud : ℕ) : Type 0 where
  prescaler_too_large : (p : ℕ) → LeastPrescaler l.q clk baud p → l.p < p → IsOutOfBounds l clk baud
  divider_zero : (p : ℕ) → RateLaw l.q clk baud p 0 → p ≤ l.p → IsOutOfBounds l clk baud
  integer_too_large : (p d : ℕ) → RateLaw l.q clk baud p d → p ≤ l.p → l.i < d / 16 → IsOutOfBounds l clk baud

-- What is answered to a tolerance t, a baud rate, and a clock whose source the chip has or not. The tests
-- are in this order: each refusal is given where its test fails and all before it pass.
pub data Judged (l : Limits) (has : Bool) (clk baud : ℕ) (t : BaudrateTolerance) (r : Result Divider Refusal) : Type 0 where
  percent_out_of_range : IsPercentOutOfRange t → r ≡ Err PercentOutOfRange → Judged l has clk baud t r
  baudrate_not_supported : IsPercentInRange t → IsBaudOutOfRange baud → r ≡ Err BaudrateNotSupported → Judged l has clk baud t r
  clock_not_usable : IsPercentInRange t → IsBaudInRange baud → IsClockUnusable has clk → r ≡ Err ClockNotUsable → Judged l has clk baud t r
  divider_out_of_range : IsPercentInRange t → IsBaudInRange baud → IsClockUsable has clk → IsOutOfBounds l clk baud → r ≡ Err DividerOutOfRange → Judged l has clk baud t r
  accepted : IsPercentInRange t → IsBaudInRange baud → IsClockUsable has clk → IsOkAnd r (Divides l clk baud) → Judged l has clk baud t r

-- the same of a configuration and a record of clocks, on a chip that has some of the sources
abbrev pub Judges : Limits → (ClockSource → Bool) → Config → Clocks → Result Divider Refusal → Type 0
Judges l has config clocks r =
    Judged l (has config.clock_source) (hertz_of clocks config.clock_source) config.baudrate config.baudrate_tolerance r
