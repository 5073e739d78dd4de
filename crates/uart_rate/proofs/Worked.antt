-- The worked examples: the rate law holds of the reckoned numbers, and the rest is computed.
use Rattle.std.proofs.Common.{◌≡◌, ℕ, ◌-◌, ◌*◌, ◌<◌, ◌≤◌, true, Ok, Err, refl, arith, lit<, lit≤, rules}
use Rattle.uart_rate.specs.declared.achieved.Achieved.{Achieved}
use Rattle.uart_rate.specs.declared.config.BaudrateTolerance.{BaudrateTolerance}
use Rattle.uart_rate.specs.declared.config.BaudrateTolerance.TheVariants.{Closest, Exact, ErrorPercent}
use Rattle.uart_rate.specs.declared.divider.Divider.{Divider}
use Rattle.uart_rate.specs.Limits.{Limits}
use Rattle.uart_rate.specs.declared.refusal.Refusal.TheVariants.{DividerOutOfRange}
use Rattle.uart_rate.specs.Achieving.{Achieves, refused, not_achievable, achieved, TooFast}
use Rattle.uart_rate.specs.Examples.{WorkedExamples}
use Rattle.uart_rate.specs.Generators.{esp32_limits, prescaled_limits}
use Rattle.uart_rate.specs.Judging.{Judged, accepted, divider_out_of_range, IsPercentInRange, IsClockUsable, prescaler_too_large, IsOutOfBounds, divider_zero, integer_too_large}
use Rattle.uart_rate.specs.Rates.{RateLaw, WholePart, sixteenths_of, prescaler_of, divisor_of}
use Rattle.uart_rate.proofs.Heads.{head_rate}
use Rattle.uart_rate.proofs.Judgements.{accepted_so}
use Rattle.uart_rate.proofs.Products.{ceiling, quotient}

law : (q clk baud : ℕ) → 1 ≤ q → 1 ≤ clk → 1 ≤ baud → RateLaw q clk baud (prescaler_of q clk baud) (divisor_of clk baud (prescaler_of q clk baud))
law q clk baud hq hc hb = quotient q clk baud (prescaler_of q clk baud) hb (ceiling q clk baud hq hc hb)

usable : (clk : ℕ) → 1 ≤ clk → clk < 268435456 → IsClockUsable true clk
usable clk a b = record { source = refl; runs = a; slow = b }

-- the settings of an example are in range, and its divider is the one that is reckoned
pub record InRange (l : Limits) (clk baud : ℕ) (t : BaudrateTolerance) (v : Divider) : Type 0 where
  pub percent : IsPercentInRange t
  pub q : 1 ≤ l.q
  pub runs : 1 ≤ clk
  pub slow : clk < 268435456
  pub baud_least : 1 ≤ baud
  pub baud_most : baud ≤ 5000000
  pub prescaler : v.prescaler ≡ prescaler_of l.q clk baud
  pub divisor : sixteenths_of v ≡ divisor_of clk baud (prescaler_of l.q clk baud)
  pub prescaler_fits : v.prescaler ≤ l.p
  pub integer_fits : v.integer ≤ l.i

judged : (l : Limits) (clk baud : ℕ) (t : BaudrateTolerance) (v : Divider) → InRange l clk baud t v → Judged l true clk baud t (Ok v)
judged l clk baud t v i =
    accepted i.percent (i.baud_least, i.baud_most) (usable clk i.runs i.slow) (record {
      law = rw (i.prescaler, i.divisor) (law l.q clk baud i.q i.runs i.baud_least);
      prescaler_fits = i.prescaler_fits;
      integer_fits = i.integer_fits;
    })

abbrev head : ℕ → Divider → ℕ → ℕ → Achieved
head clk v r e = record { clk = clk; divider = v; rate = r; excess = e }

runs : (l : Limits) (clk baud : ℕ) (t : BaudrateTolerance) (v : Divider) (r e : ℕ) → InRange l clk baud t v → (TooFast t clk baud v → ⊥) →
    WholePart (16 * clk) (v.prescaler * sixteenths_of v) r →
    WholePart (1000000 * (16 * clk - baud * v.prescaler * sixteenths_of v)) (baud * v.prescaler * sixteenths_of v) e →
    Achieves l true clk baud t (Ok (head clk v r e))
runs l clk baud t v r e i near whole over =
    let j : Judged l true clk baud t (Ok v) = judged l clk baud t v i in
    achieved v j near (record {
      clock = refl;
      divider = refl;
      head = head_rate l.q clk baud v.prescaler (sixteenths_of v) r e (accepted_so l true clk baud t v j).1.law whole over;
    })

refuses : (l : Limits) (clk baud : ℕ) → 1 ≤ clk → clk < 268435456 → 1 ≤ baud → baud ≤ 5000000 → IsOutOfBounds l clk baud → Achieves l true clk baud Closest (Err DividerOutOfRange)
refuses l clk baud hc hc' hb hb' o = refused (divider_out_of_range tt (hb, hb') (usable clk hc hc') o refl)

abbrev by_1_11111 : Divider
by_1_11111 = record { prescaler = 1; integer = 694; fraction = 7; prescales = (lit≤ tt, lit≤ tt); divides = lit≤ tt; fits = lit≤ tt; sixteenths = lit< tt }

abbrev by_3_44444 : Divider
by_3_44444 = record { prescaler = 3; integer = 2777; fraction = 12; prescales = (lit≤ tt, lit≤ tt); divides = lit≤ tt; fits = lit≤ tt; sixteenths = lit< tt }

abbrev by_1_65504 : Divider
by_1_65504 = record { prescaler = 1; integer = 4094; fraction = 0; prescales = (lit≤ tt, lit≤ tt); divides = lit≤ tt; fits = lit≤ tt; sixteenths = lit< tt }

abbrev by_2_32752 : Divider
by_2_32752 = record { prescaler = 2; integer = 2047; fraction = 0; prescales = (lit≤ tt, lit≤ tt); divides = lit≤ tt; fits = lit≤ tt; sixteenths = lit< tt }

abbrev by_254_65446 : Divider
by_254_65446 = record { prescaler = 254; integer = 4090; fraction = 6; prescales = (lit≤ tt, lit≤ tt); divides = lit≤ tt; fits = lit≤ tt; sixteenths = lit< tt }

abbrev by_1_16623376 : Divider
by_1_16623376 = record { prescaler = 1; integer = 1038961; fraction = 0; prescales = (lit≤ tt, lit≤ tt); divides = lit≤ tt; fits = lit≤ tt; sixteenths = lit< tt }

abbrev by_1_3 : Divider
by_1_3 = record { prescaler = 1; integer = 0; fraction = 3; prescales = (lit≤ tt, lit≤ tt); divides = lit≤ tt; fits = lit≤ tt; sixteenths = lit< tt }

abbrev by_1_1 : Divider
by_1_1 = record { prescaler = 1; integer = 0; fraction = 1; prescales = (lit≤ tt, lit≤ tt); divides = lit≤ tt; fits = lit≤ tt; sixteenths = lit< tt }

pub worked_examples_lem : WorkedExamples
worked_examples_lem = record {
  c3_115200 = (head 80000000 by_1_11111 115201 10, runs prescaled_limits 80000000 115200 Closest by_1_11111 115201 10 (search rules) (λ x. x) (search rules) (search rules), ((refl, refl), refl));
  c3_9600 = (head 80000000 by_3_44444 9600 10, runs prescaled_limits 80000000 9600 Closest by_3_44444 9600 10 (search rules) (λ x. x) (search rules) (search rules), ((refl, refl), refl));
  c3_last_undivided = (head 39302400 by_1_65504 9600 0, runs prescaled_limits 39302400 9600 Closest by_1_65504 9600 0 (search rules) (λ x. x) (search rules) (search rules), (refl, refl));
  c3_first_divided = (head 39302401 by_2_32752 9600 0, runs prescaled_limits 39302401 9600 Closest by_2_32752 9600 0 (search rules) (λ x. x) (search rules) (search rules), (refl, refl));
  c3_slowest = (head 80000000 by_254_65446 77 5, runs prescaled_limits 80000000 77 Closest by_254_65446 77 5 (search rules) (λ x. x) (search rules) (search rules), (refl, refl));
  c3_too_slow = refuses prescaled_limits 80000000 76 (lit≤ tt) (lit< tt) (lit≤ tt) (lit≤ tt) (prescaler_too_large 258 (ceiling 4094 80000000 76 (lit≤ tt) (lit≤ tt) (lit≤ tt)) (lit< tt));
  esp32_slowest = (head 80000000 by_1_16623376 77 0, runs esp32_limits 80000000 77 Closest by_1_16623376 77 0 (search rules) (λ x. x) (search rules) (search rules), (refl, refl));
  esp32_too_slow = refuses esp32_limits 80000000 76 (lit≤ tt) (lit< tt) (lit≤ tt) (lit≤ tt) (integer_too_large 1 16842105 (law 268435456 80000000 76 (lit≤ tt) (lit≤ tt) (lit≤ tt)) (lit≤ tt) (lit< tt));
  esp32_fast = (head 1000000 by_1_3 5333333 66666, runs esp32_limits 1000000 5000000 Closest by_1_3 5333333 66666 (search rules) (λ x. x) (search rules) (search rules), ((refl, refl), refl));
  esp32_exact = not_achievable by_1_3 (judged esp32_limits 1000000 5000000 Exact by_1_3 (search rules)) (lit< tt) refl;
  esp32_six_percent = not_achievable by_1_3 (judged esp32_limits 1000000 5000000 (ErrorPercent 6) by_1_3 (search rules)) (lit< tt) refl;
  esp32_seven_percent = (head 1000000 by_1_3 5333333 66666, runs esp32_limits 1000000 5000000 (ErrorPercent 7) by_1_3 5333333 66666 (search rules) (λ x. omega arith) (search rules) (search rules), ((refl, refl), refl));
  esp32_one_sixteenth = (head 312500 by_1_1 5000000 0, runs esp32_limits 312500 5000000 Closest by_1_1 5000000 0 (search rules) (λ x. x) (search rules) (search rules), (refl, refl));
  esp32_no_divider = refuses esp32_limits 312499 5000000 (lit≤ tt) (lit< tt) (lit≤ tt) (lit≤ tt) (divider_zero 1 (law 268435456 312499 5000000 (lit≤ tt) (lit≤ tt) (lit≤ tt)) (lit≤ tt));
}
