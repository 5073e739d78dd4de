use Rattle.std.proofs.Common.{refl, rules}
use Rattle.uart_rate.specs.Judging.{prescaler_too_large, divider_zero, integer_too_large}
use Rattle.uart_rate.proofs.judge.divide_clock.Goals as goal

pub returns-then-prescaler-from : goal.returns-then-prescaler-from
returns-then-prescaler-from g c = (refl, prescaler_too_large c.least_prescaler-prescaler.result (search rules) (search rules))

pub returns-then-divisor-eq0 : goal.returns-then-divisor-eq0
returns-then-divisor-eq0 g c = (refl, divider_zero c.least_prescaler-prescaler.result (search rules) (search rules))

pub returns-then-integer-from : goal.returns-then-integer-from
returns-then-integer-from g c = (refl, integer_too_large c.least_prescaler-prescaler.result c.divisor-divisor.result (search rules) (search rules) (search rules))
