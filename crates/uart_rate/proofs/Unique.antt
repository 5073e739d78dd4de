-- The rate law and the whole part of a quotient each leave one number.
use Rattle.std.proofs.Common.{◌≡◌, ℕ, ◌+◌, ◌*◌, ◌<◌, ◌≤◌, sym, subst, lt_of_mul-lt-mul_right, arith}
use native.Mathlib.Nat.{lt_of_mul-lt-mul_left}
use Rattle.uart_rate.specs.Rates.{LeastPrescaler, RateLaw, WholePart}

pub one_prescaler : (q clk baud p p' : ℕ) → LeastPrescaler q clk baud p → LeastPrescaler q clk baud p' → p ≡ p'
one_prescaler q clk baud p p' a b =
    let below : p ≤ p' = a.least p' b.positive b.enough in
    let above : p' ≤ p = b.least p a.positive a.enough in
    omega arith

pub one_whole_part : (n m r r' : ℕ) → WholePart n m r → WholePart n m r' → r ≡ r'
one_whole_part n m r r' a b =
    let below : r < r' + 1 = lt_of_mul-lt-mul_right m (omega (arith, a.reached, b.not_more)) in
    let above : r' < r + 1 = lt_of_mul-lt-mul_right m (omega (arith, b.reached, a.not_more)) in
    omega arith

one_divisor : (n m d d' : ℕ) → m * d ≤ n → n < m * (d + 1) → m * d' ≤ n → n < m * (d' + 1) → d ≡ d'
one_divisor n m d d' a b c e =
    let below : d < d' + 1 = lt_of_mul-lt-mul_left m (omega arith) in
    let above : d' < d + 1 = lt_of_mul-lt-mul_left m (omega arith) in
    omega arith

pub one_law : (q clk baud p d p' d' : ℕ) → RateLaw q clk baud p d → RateLaw q clk baud p' d' → (p ≡ p') × (d ≡ d')
one_law q clk baud p d p' d' a b =
    let e : p ≡ p' = one_prescaler q clk baud p p' a.prescaler b.prescaler in (
      e,
      one_divisor (16 * clk) (baud * p) d d' a.fast_enough a.largest
          (subst (λ (x : ℕ). baud * x * d' ≤ 16 * clk) (sym e) b.fast_enough)
          (subst (λ (x : ℕ). 16 * clk < baud * x * (d' + 1)) (sym e) b.largest),
    )
