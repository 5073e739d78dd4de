-- What a judgement says, and that it leaves no choice.
use Rattle.std.proofs.Common.{◌≡◌, ℕ, Bool, true, IsOkAnd, Ok, Err, Result, refl, ap, inl, inr, arith, MatchResult}
use Rattle.uart_rate.specs.declared.config.BaudrateTolerance.{BaudrateTolerance}
use Rattle.uart_rate.specs.declared.config.BaudrateTolerance.TheVariants.{Closest, Exact, ErrorPercent}
use Rattle.uart_rate.specs.declared.divider.Divider.{Divider}
use Rattle.uart_rate.specs.Limits.{Limits}
use Rattle.uart_rate.specs.declared.refusal.Refusal.{Refusal}
use Rattle.uart_rate.specs.declared.refusal.Refusal.TheVariants.{DividerOutOfRange}
use Rattle.uart_rate.specs.Decided.{SameAnswer, SameDivider}
use Rattle.uart_rate.specs.Judging.{Judged, percent_out_of_range, baudrate_not_supported, clock_not_usable, divider_out_of_range, accepted, Divides, IsOutOfBounds, prescaler_too_large, divider_zero, integer_too_large, IsBaudInRange, IsBaudOutOfRange, IsPercentInRange, IsPercentOutOfRange, IsClockUsable, IsClockUnusable, source_missing, stopped, too_high}
use Rattle.uart_rate.specs.Rates.{sixteenths_of}
use Rattle.uart_rate.proofs.Unique.{one_prescaler, one_law}

-- an accepted divider is one for a baud rate in range
pub accepted_so : (l : Limits) (has : Bool) (clk baud : ℕ) (t : BaudrateTolerance) (v : Divider) → Judged l has clk baud t (Ok v) → IsBaudInRange baud × Divides l clk baud v
accepted_so l has clk baud t v (percent_out_of_range a e) = cc
accepted_so l has clk baud t v (baudrate_not_supported a b e) = cc
accepted_so l has clk baud t v (clock_not_usable a b c e) = cc
accepted_so l has clk baud t v (divider_out_of_range a b c d e) = cc
accepted_so l has clk baud t v (accepted a b c d) = (b, d)

-- where the other tests pass, the divider rule decides
pub in_order : (l : Limits) (has : Bool) (clk baud : ℕ) (t : BaudrateTolerance) (r : Result Divider Refusal) → IsPercentInRange t → IsBaudInRange baud → IsClockUsable has clk →
    MatchResult r (Divides l clk baud) (λ e. (e ≡ DividerOutOfRange) × IsOutOfBounds l clk baud) → Judged l has clk baud t r
in_order l has clk baud t (Ok v) a b c d = accepted a b c d
in_order l has clk baud t (Err e) a b c d = divider_out_of_range a b c d.1 (ap Err d.0)

percent_clash : (t : BaudrateTolerance) → IsPercentInRange t → IsPercentOutOfRange t → ⊥
percent_clash Closest a b = b
percent_clash Exact a b = b
percent_clash (ErrorPercent n) a (inl e) = omega arith
percent_clash (ErrorPercent n) a (inr h) = omega arith

baud_clash : (baud : ℕ) → IsBaudInRange baud → IsBaudOutOfRange baud → ⊥
baud_clash baud a (inl e) = omega arith
baud_clash baud a (inr h) = omega arith

clock_clash : (has : Bool) (clk : ℕ) → IsClockUsable has clk → IsClockUnusable has clk → ⊥
clock_clash has clk u (source_missing e) = let f : has ≡ true = u.source in cc
clock_clash has clk u (stopped e) = omega (arith, u.runs)
clock_clash has clk u (too_high h) = omega (arith, u.slow)

bounds_clash : (l : Limits) (clk baud : ℕ) (v : Divider) → Divides l clk baud v → IsOutOfBounds l clk baud → ⊥
bounds_clash l clk baud v k (prescaler_too_large p a h) =
    omega (arith, one_prescaler l.q clk baud p v.prescaler a k.law.prescaler, k.prescaler_fits)
bounds_clash l clk baud v k (divider_zero p a h) =
    let e = one_law l.q clk baud p 0 v.prescaler (sixteenths_of v) a k.law in
    omega (arith, e.1, v.divides)
bounds_clash l clk baud v k (integer_too_large p d a h i) =
    let e = one_law l.q clk baud p d v.prescaler (sixteenths_of v) a k.law in
    omega (arith, e.1, k.integer_fits, v.sixteenths)

-- one divider for a clock and a baud rate
pub one_divider : (l : Limits) (clk baud : ℕ) (v w : Divider) → Divides l clk baud v → Divides l clk baud w → SameDivider v w
one_divider l clk baud v w a b =
    let e = one_law l.q clk baud v.prescaler (sixteenths_of v) w.prescaler (sixteenths_of w) a.law b.law in
    record {
      prescaler = e.0;
      integer = omega (arith, e.1, v.sixteenths, w.sixteenths);
      fraction = omega (arith, e.1, v.sixteenths, w.sixteenths);
    }

pub same_refusal : {X : Type 0} (alike : X → X → Type 0) {r s : Result X Refusal} {e : Refusal} → r ≡ Err e → s ≡ Err e → SameAnswer alike r s
same_refusal alike p q = rw (p, q) refl

both_accepted : (l : Limits) (clk baud : ℕ) (r s : Result Divider Refusal) → IsOkAnd r (Divides l clk baud) → IsOkAnd s (Divides l clk baud) → SameAnswer SameDivider r s
both_accepted l clk baud (Ok v) (Ok w) a b = one_divider l clk baud v w a b
both_accepted l clk baud (Ok v) (Err f) a b = b
both_accepted l clk baud (Err e) (Ok w) a b = a
both_accepted l clk baud (Err e) (Err f) a b = absurd a

divider_clash : (l : Limits) (clk baud : ℕ) (r : Result Divider Refusal) → IsOkAnd r (Divides l clk baud) → IsOutOfBounds l clk baud → ⊥
divider_clash l clk baud (Ok v) a b = bounds_clash l clk baud v a b
divider_clash l clk baud (Err e) a b = a

pub judging : (l : Limits) (has : Bool) (clk baud : ℕ) (t : BaudrateTolerance) (r s : Result Divider Refusal) →
    Judged l has clk baud t r → Judged l has clk baud t s → SameAnswer SameDivider r s
judging l has clk baud t r s (percent_out_of_range a e) (percent_out_of_range a' e') = same_refusal SameDivider e e'
judging l has clk baud t r s (percent_out_of_range a e) (baudrate_not_supported a' b' e') = absurd (percent_clash t a' a)
judging l has clk baud t r s (percent_out_of_range a e) (clock_not_usable a' b' c' e') = absurd (percent_clash t a' a)
judging l has clk baud t r s (percent_out_of_range a e) (divider_out_of_range a' b' c' d' e') = absurd (percent_clash t a' a)
judging l has clk baud t r s (percent_out_of_range a e) (accepted a' b' c' d') = absurd (percent_clash t a' a)
judging l has clk baud t r s (baudrate_not_supported a b e) (percent_out_of_range a' e') = absurd (percent_clash t a a')
judging l has clk baud t r s (baudrate_not_supported a b e) (baudrate_not_supported a' b' e') = same_refusal SameDivider e e'
judging l has clk baud t r s (baudrate_not_supported a b e) (clock_not_usable a' b' c' e') = absurd (baud_clash baud b' b)
judging l has clk baud t r s (baudrate_not_supported a b e) (divider_out_of_range a' b' c' d' e') = absurd (baud_clash baud b' b)
judging l has clk baud t r s (baudrate_not_supported a b e) (accepted a' b' c' d') = absurd (baud_clash baud b' b)
judging l has clk baud t r s (clock_not_usable a b c e) (percent_out_of_range a' e') = absurd (percent_clash t a a')
judging l has clk baud t r s (clock_not_usable a b c e) (baudrate_not_supported a' b' e') = absurd (baud_clash baud b b')
judging l has clk baud t r s (clock_not_usable a b c e) (clock_not_usable a' b' c' e') = same_refusal SameDivider e e'
judging l has clk baud t r s (clock_not_usable a b c e) (divider_out_of_range a' b' c' d' e') = absurd (clock_clash has clk c' c)
judging l has clk baud t r s (clock_not_usable a b c e) (accepted a' b' c' d') = absurd (clock_clash has clk c' c)
judging l has clk baud t r s (divider_out_of_range a b c d e) (percent_out_of_range a' e') = absurd (percent_clash t a a')
judging l has clk baud t r s (divider_out_of_range a b c d e) (baudrate_not_supported a' b' e') = absurd (baud_clash baud b b')
judging l has clk baud t r s (divider_out_of_range a b c d e) (clock_not_usable a' b' c' e') = absurd (clock_clash has clk c c')
judging l has clk baud t r s (divider_out_of_range a b c d e) (divider_out_of_range a' b' c' d' e') = same_refusal SameDivider e e'
judging l has clk baud t r s (divider_out_of_range a b c d e) (accepted a' b' c' d') = absurd (divider_clash l clk baud s d' d)
judging l has clk baud t r s (accepted a b c d) (percent_out_of_range a' e') = absurd (percent_clash t a a')
judging l has clk baud t r s (accepted a b c d) (baudrate_not_supported a' b' e') = absurd (baud_clash baud b b')
judging l has clk baud t r s (accepted a b c d) (clock_not_usable a' b' c' e') = absurd (clock_clash has clk c c')
judging l has clk baud t r s (accepted a b c d) (divider_out_of_range a' b' c' d' e') = absurd (divider_clash l clk baud r d d')
judging l has clk baud t r s (accepted a b c d) (accepted a' b' c' d') = both_accepted l clk baud r s d d'
