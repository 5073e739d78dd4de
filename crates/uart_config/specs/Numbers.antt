use Rattle.std.specs.Prelude.{ℕ}
use Rattle.uart_config.specs.declared.step.Step.{Step}
use Rattle.uart_config.specs.declared.step.Step.TheVariants.{Divider, Framing, Receive, RxReset, Transmit, AtCmd, ErrorReset}

-- the number of each step: what a reply carries
abbrev pub step_number : Step → ℕ
step_number Divider = 1
step_number Framing = 2
step_number Receive = 3
step_number RxReset = 4
step_number Transmit = 5
step_number AtCmd = 6
step_number ErrorReset = 7
