-- What the head gets is decided, too.
use Rattle.std.proofs.Common.{◌≡◌, ℕ, ◌-◌, ◌*◌, Bool, IsOkAnd, IsErrAnd, Ok, Err, Result, sym, ap, ◌∙◌, subst}
use Rattle.uart_rate.specs.declared.achieved.Achieved.{Achieved}
use Rattle.uart_rate.specs.declared.config.BaudrateTolerance.{BaudrateTolerance}
use Rattle.uart_rate.specs.declared.config.BaudrateTolerance.TheVariants.{Closest, Exact, ErrorPercent}
use Rattle.uart_rate.specs.declared.divider.Divider.{Divider}
use Rattle.uart_rate.specs.Limits.{Limits}
use Rattle.uart_rate.specs.declared.refusal.Refusal.{Refusal}
use Rattle.uart_rate.specs.Achieving.{Achieves, refused, not_achievable, achieved, TooFast, Runs}
use Rattle.uart_rate.specs.Decided.{SameAnswer, SameDivider, SameHead}
use Rattle.uart_rate.specs.Judging.{Judged}
use Rattle.uart_rate.specs.Rates.{WholePart, sixteenths_of}
use Rattle.uart_rate.proofs.Judgements.{judging, same_refusal}
use Rattle.uart_rate.proofs.Unique.{one_whole_part}

same_sixteenths : (v w : Divider) → SameDivider v w → sixteenths_of v ≡ sixteenths_of w
same_sixteenths v w e = let i = e.integer in let f = e.fraction in cc

same_too_fast : (t : BaudrateTolerance) (clk baud : ℕ) (v w : Divider) → SameDivider v w → TooFast t clk baud v → TooFast t clk baud w
same_too_fast Closest clk baud v w e h = h
same_too_fast Exact clk baud v w e h = rw (← same_sixteenths v w e, ← e.prescaler) h
same_too_fast (ErrorPercent n) clk baud v w e h = rw (← same_sixteenths v w e, ← e.prescaler) h

same_head : (clk baud : ℕ) (v w : Divider) (a b : Achieved) → SameDivider v w → Runs clk baud v a → Runs clk baud w b → SameHead a b
same_head clk baud v w a b e x y =
    let d : sixteenths_of w ≡ sixteenths_of v = sym (same_sixteenths v w e) in
    let p : w.prescaler ≡ v.prescaler = sym e.prescaler in
    record {
      clk = x.clock ∙ sym y.clock;
      divider = record {
        prescaler = ap (λ (u : Divider). u.prescaler) x.divider ∙ (e.prescaler ∙ sym (ap (λ (u : Divider). u.prescaler) y.divider));
        integer = ap (λ (u : Divider). u.integer) x.divider ∙ (e.integer ∙ sym (ap (λ (u : Divider). u.integer) y.divider));
        fraction = ap (λ (u : Divider). u.fraction) x.divider ∙ (e.fraction ∙ sym (ap (λ (u : Divider). u.fraction) y.divider));
      };
      rate = one_whole_part (16 * clk) (v.prescaler * sixteenths_of v) a.rate b.rate x.head.rate
          (subst (λ (n : ℕ). WholePart (16 * clk) (v.prescaler * n) b.rate) d
          (subst (λ (n : ℕ). WholePart (16 * clk) (n * sixteenths_of w) b.rate) p y.head.rate));
      excess = one_whole_part (1000000 * (16 * clk - baud * v.prescaler * sixteenths_of v)) (baud * v.prescaler * sixteenths_of v) a.excess b.excess x.head.excess
          (subst (λ (n : ℕ). WholePart (1000000 * (16 * clk - baud * v.prescaler * n)) (baud * v.prescaler * n) b.excess) d
          (subst (λ (n : ℕ). WholePart (1000000 * (16 * clk - baud * n * sixteenths_of w)) (baud * n * sixteenths_of w) b.excess) p y.head.excess));
    }

both_refused : (l : Limits) (has : Bool) (clk baud : ℕ) (t : BaudrateTolerance) (r s : Result Achieved Refusal) →
    IsErrAnd r (λ e. Judged l has clk baud t (Err e)) → IsErrAnd s (λ e. Judged l has clk baud t (Err e)) → SameAnswer SameHead r s
both_refused l has clk baud t (Ok a) s x y = absurd x
both_refused l has clk baud t (Err e) (Ok b) x y = absurd y
both_refused l has clk baud t (Err e) (Err f) x y = judging l has clk baud t (Err e) (Err f) x y

-- what was refused was not accepted
refused_clash : (l : Limits) (has : Bool) (clk baud : ℕ) (t : BaudrateTolerance) (r : Result Achieved Refusal) (v : Divider) →
    IsErrAnd r (λ e. Judged l has clk baud t (Err e)) → Judged l has clk baud t (Ok v) → ⊥
refused_clash l has clk baud t (Ok a) v x y = x
refused_clash l has clk baud t (Err e) v x y = judging l has clk baud t (Err e) (Ok v) x y

both_run : (clk baud : ℕ) (v w : Divider) (r s : Result Achieved Refusal) → SameDivider v w → IsOkAnd r (Runs clk baud v) → IsOkAnd s (Runs clk baud w) → SameAnswer SameHead r s
both_run clk baud v w (Ok a) (Ok b) e x y = same_head clk baud v w a b e x y
both_run clk baud v w (Ok a) (Err f) e x y = y
both_run clk baud v w (Err f) s e x y = absurd x

pub achieving : (l : Limits) (has : Bool) (clk baud : ℕ) (t : BaudrateTolerance) (r s : Result Achieved Refusal) →
    Achieves l has clk baud t r → Achieves l has clk baud t s → SameAnswer SameHead r s
achieving l has clk baud t r s (refused x) (refused y) = both_refused l has clk baud t r s x y
achieving l has clk baud t r s (refused x) (not_achievable w j h e) = absurd (refused_clash l has clk baud t r w x j)
achieving l has clk baud t r s (refused x) (achieved w j h k) = absurd (refused_clash l has clk baud t r w x j)
achieving l has clk baud t r s (not_achievable v i h e) (refused y) = absurd (refused_clash l has clk baud t s v y i)
achieving l has clk baud t r s (not_achievable v i h e) (not_achievable w j h' e') = same_refusal SameHead e e'
achieving l has clk baud t r s (not_achievable v i h e) (achieved w j h' k) =
    absurd (h' (same_too_fast t clk baud v w (judging l has clk baud t (Ok v) (Ok w) i j) h))
achieving l has clk baud t r s (achieved v i h k) (refused y) = absurd (refused_clash l has clk baud t s v y i)
achieving l has clk baud t r s (achieved v i h k) (not_achievable w j h' e) =
    absurd (h (same_too_fast t clk baud w v (judging l has clk baud t (Ok w) (Ok v) j i) h'))
achieving l has clk baud t r s (achieved v i h k) (achieved w j h' k') =
    both_run clk baud v w r s (judging l has clk baud t (Ok v) (Ok w) i j) k k'
