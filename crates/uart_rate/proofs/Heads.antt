-- What the rate law says of the rate that the head gets.
use Rattle.std.proofs.Common.{◌≡◌, ℕ, ◌+◌, ◌-◌, ◌*◌, ◌<◌, ◌≤◌, sym, refl, ap, ◌∙◌, subst, mul-le-mul_right, mul_assoc, mul_comm, add-mul, lt_of_mul-lt-mul_right, mul-le-mul_left, lt_of_not-le, mul-one, mul-add, mul_left_comm, arith}
use native.Mathlib.Nat.{lt_of_mul-lt-mul_left}
use Rattle.uart_rate.specs.Rates.{RateLaw, WholePart, HeadRate}

-- the head is never slower than asked
pub not_slower : (q clk baud p d r : ℕ) → RateLaw q clk baud p d → WholePart (16 * clk) (p * d) r → baud ≤ r
not_slower q clk baud p d r law whole =
    let h : baud < r + 1 = lt_of_mul-lt-mul_right (p * d) (omega (arith, mul_assoc baud p d, law.fast_enough, whole.not_more)) in
    omega arith

-- it is faster by less than one part in d
pub at_most : (q clk baud p d r : ℕ) → RateLaw q clk baud p d → WholePart (16 * clk) (p * d) r → r * d < baud * (d + 1)
at_most q clk baud p d r law whole =
    lt_of_mul-lt-mul_left p (omega (arith, mul_left_comm p r d, mul_left_comm p baud (d + 1), mul_assoc baud p (d + 1), law.largest, whole.reached))

-- so it is below twice the baud rate
pub below_twice : (baud d r : ℕ) → 1 ≤ d → r * d < baud * (d + 1) → r < 2 * baud
below_twice baud d r hd h =
    lt_of_mul-lt-mul_right d (omega (arith, mul-add baud d 1, mul-one baud, mul_assoc 2 baud d, mul-le-mul_left baud hd))

-- and its excess is below a million millionths
pub below_million : (q clk baud p d e : ℕ) → 1 ≤ d → RateLaw q clk baud p d → WholePart (1000000 * (16 * clk - baud * p * d)) (baud * p * d) e → e < 1000000
below_million q clk baud p d e hd law whole =
    lt_of_mul-lt-mul_right (baud * p * d)
    (omega (arith, mul-add (baud * p) d 1, mul-one (baud * p), mul-le-mul_left (baud * p) hd, law.largest, law.fast_enough, whole.reached))

pub head_rate : (q clk baud p d r e : ℕ) → RateLaw q clk baud p d → WholePart (16 * clk) (p * d) r →
    WholePart (1000000 * (16 * clk - baud * p * d)) (baud * p * d) e → HeadRate clk baud p d r e
head_rate q clk baud p d r e law whole over = record {
  rate = whole;
  not_slower = not_slower q clk baud p d r law whole;
  at_most = at_most q clk baud p d r law whole;
  excess = over;
}

turned : (q k baud : ℕ) → baud * k * q ≡ q * k * baud
turned q k baud = mul_comm (baud * k) q ∙ (ap (λ (x : ℕ). q * x) (mul_comm baud k) ∙ sym (mul_assoc q k baud))

split : (q k baud : ℕ) → baud * (k + 1) * (8 * q) ≡ 8 * (q * k * baud) + 8 * (q * baud)
split q k baud =
    rw (mul-add baud k 1, mul-one baud, add-mul (baud * k) baud (8 * q), mul_left_comm (baud * k) 8 q, mul_left_comm baud 8 q, turned q k baud, mul_comm baud q) refl

fine : (q clk baud k d : ℕ) → 1 ≤ k → q * k * baud < clk → 16 * clk < baud * (k + 1) * (d + 1) → 8 * q ≤ d
fine q clk baud k d hk short large =
    let one : q ≤ q * k = omega (arith, mul-one q, mul-le-mul_left q hk) in
    let step : q * baud ≤ q * k * baud = mul-le-mul_right baud one in
    let above : 8 * q < d + 1 = lt_of_not-le (λ h. omega (arith, mul-le-mul_left (baud * (k + 1)) h, split q k baud)) in
    omega arith

-- one step less of the prescaler would not do, so at most half of the divider's range is lost
pub finely_divided_lem : (q clk baud p d : ℕ) → RateLaw q clk baud p d → 2 ≤ p → 8 * q ≤ d
finely_divided_lem q clk baud p d law two =
    let step : p ≡ (p - 1) + 1 = omega arith in
    let least : 1 ≤ p - 1 = omega arith in
    fine q clk baud (p - 1) d least
    (lt_of_not-le (λ enough. omega (arith, law.prescaler.least (p - 1) least enough)))
    (subst (λ (n : ℕ). 16 * clk < baud * n * (d + 1)) step law.largest)
