use Rattle.std.specs.Prelude.{ℕ, List, [], ◌++◌, Some, None, codes, decimal, Option}
use Rattle.uart_config.specs.Numbers.{step_number}
use Rattle.uart_config.specs.declared.fault.Fault.{Fault}
use Rattle.uart_config.specs.declared.step.Step.{Step}
use Rattle.uart_rate.specs.Refusals.{name_of_refusal}
use Rattle.uart_rate.specs.declared.refusal.Refusal.{Refusal}
use Rattle.uart_rate.specs.declared.refusal.Refusal.TheVariants.{UpdateTimedOut}

-- a test failed, after so many polls
abbrev pub refusing : Refusal → ℕ → Fault
refusing e n = record { refusal = e; step = None; reads = n }

-- the update of a step still stands, after so many polls
abbrev pub overdue : Step → ℕ → Fault
overdue k n = record { refusal = UpdateTimedOut; step = Some k; reads = n }

-- what a person is told of a fault: the name of its refusal, the number of the step whose update timed out, and the polls
abbrev pub step_text : Option Step → List ℕ
step_text None = []
step_text (Some k) = codes " in step " ++ decimal (step_number k)

abbrev pub fault_text : Fault → List ℕ
fault_text f = name_of_refusal f.refusal ++ (step_text f.step ++ (codes " after " ++ (decimal f.reads ++ codes " reads")))
