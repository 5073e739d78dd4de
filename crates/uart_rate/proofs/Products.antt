-- Facts about products and quotients that the rate rules rest on.
use Rattle.std.proofs.Common.{◌≡◌, ℕ, zero, suc, zero-mul, lt_of_mul-lt-mul_right, ◌+◌, ◌-◌, ◌*◌, ◌/◌, ◌<◌, ◌≤◌, ap, ◌∙◌, mul_assoc, mul_comm, add-mul, one-mul, mul-one, mul-add, div-mul-le_self, arith}
use native.Mathlib.Nat.{lt-div-mul-add}
use Rattle.std.proofs.Math.Nat.{mul-pos}
use Rattle.uart_rate.specs.Rates.{LeastPrescaler, RateLaw, prescaler_of, divisor_of}

turned : (q k b : ℕ) → q * k * b ≡ k * (q * b)
turned q k b = ap (λ x. x * b) (mul_comm q k) ∙ mul_assoc k q b

positive : (p m clk : ℕ) → 1 ≤ clk → clk ≤ p * m → 1 ≤ p
positive zero m clk h reached = omega (arith, zero-mul m)
positive (suc p) m clk h reached = omega arith

-- a number whose multiple of q × baud reaches the clock by less than one more q × baud is the least prescaler
pub least : (q clk baud p : ℕ) → 1 ≤ clk → clk ≤ p * (q * baud) → p * (q * baud) < clk + q * baud → LeastPrescaler q clk baud p
least q clk baud p hc reached near = record {
  positive = positive p (q * baud) clk hc reached;
  enough = rw (turned q p baud) reached;
  least = λ k hk h.
      let g : clk ≤ k * (q * baud) = rw (turned q k baud) at h in
      let d : p < k + 1 = lt_of_mul-lt-mul_right (q * baud) (omega (arith, add-mul k 1 (q * baud), one-mul (q * baud))) in
      omega arith;
}

-- the reckoned prescaler is the least one
pub ceiling : (q clk baud : ℕ) → 1 ≤ q → 1 ≤ clk → 1 ≤ baud → LeastPrescaler q clk baud (prescaler_of q clk baud)
ceiling q clk baud hq hc hb =
    let u : 0 < q * baud = mul-pos hq hb in
    let top : clk - 1 < (clk - 1) / (q * baud) * (q * baud) + q * baud = lt-div-mul-add u in
    let whole = add-mul ((clk - 1) / (q * baud)) 1 (q * baud) in
    let below = div-mul-le_self (clk - 1) (q * baud) in
    least q clk baud (prescaler_of q clk baud) hc (omega (arith, one-mul (q * baud))) (omega (arith, one-mul (q * baud)))

-- the reckoned divider obeys the rate law
pub quotient : (q clk baud p : ℕ) → 1 ≤ baud → LeastPrescaler q clk baud p → RateLaw q clk baud p (divisor_of clk baud p)
quotient q clk baud p hb hp =
    let u : 0 < baud * p = mul-pos hb hp.positive in
    record {
      prescaler = hp;
      fast_enough = rw (mul_comm (baud * p) (16 * clk / (baud * p))) (div-mul-le_self (16 * clk) (baud * p));
      largest = rw (mul-add (baud * p) (16 * clk / (baud * p)) 1, mul-one (baud * p), mul_comm (baud * p) (16 * clk / (baud * p))) (lt-div-mul-add u);
    }
