use Rattle.std.specs.Prelude.{ℕ, ◌+◌, ◌-◌, ◌*◌, ◌/◌, ◌<◌, ◌≤◌}
use Rattle.uart_rate.specs.declared.divider.Divider.{Divider}

-- p is the least positive whole number with clk ≤ q × p × baud
pub record LeastPrescaler (q clk baud p : ℕ) : Type 0 where
  pub positive : 1 ≤ p
  pub enough : clk ≤ q * p * baud
  pub least : (k : ℕ) → 1 ≤ k → clk ≤ q * k * baud → p ≤ k

-- The rate law. Under the least prescaler p, the divider d (in sixteenths) is the largest that is not
-- slower than asked: the rate 16 × clk / (p × d) is at least baud, and with d + 1 it would be below.
pub record RateLaw (q clk baud p d : ℕ) : Type 0 where
  pub prescaler : LeastPrescaler q clk baud p
  pub fast_enough : baud * p * d ≤ 16 * clk
  pub largest : 16 * clk < baud * p * (d + 1)

-- the prescaler, reckoned
abbrev pub prescaler_of : ℕ → ℕ → ℕ → ℕ
prescaler_of q clk baud = (clk - 1) / (q * baud) + 1

-- the divider in sixteenths, reckoned
abbrev pub divisor_of : ℕ → ℕ → ℕ → ℕ
divisor_of clk baud p = 16 * clk / (baud * p)

-- the divider that the two fields hold, in sixteenths
abbrev pub sixteenths_of : Divider → ℕ
sixteenths_of v = 16 * v.integer + v.fraction

-- how many sixteenths of a clock tick there must be in a second for the divider to make the rate `baud`
abbrev pub needed_of : ℕ → Divider → ℕ
needed_of baud v = baud * v.prescaler * sixteenths_of v

-- r is the whole part of n / m
pub record WholePart (n m r : ℕ) : Type 0 where
  pub reached : r * m ≤ n
  pub not_more : n < (r + 1) * m

-- The rate that the head gets with prescaler p and divider d: its whole part r is at least baud and
-- above it by less than one part in d; e is its excess over baud in millionths of baud, rounded down.
pub record HeadRate (clk baud p d r e : ℕ) : Type 0 where
  pub rate : WholePart (16 * clk) (p * d) r
  pub not_slower : baud ≤ r
  pub at_most : r * d < baud * (d + 1)
  pub excess : WholePart (1000000 * (16 * clk - baud * p * d)) (baud * p * d) e
