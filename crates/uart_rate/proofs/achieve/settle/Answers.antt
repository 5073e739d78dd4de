use Rattle.std.proofs.Common.{rules}
use Rattle.uart_rate.specs.Achieving.{not_achievable, achieved}
use Rattle.uart_rate.proofs.achieve.settle.Goals as goal

pub returns-in_err-judge_tolerance : goal.returns-in_err-judge_tolerance
returns-in_err-judge_tolerance g c = not_achievable c.args.divider c.requires (rw c.hertz-clk.ensures at c.in_err-judge_tolerance.ensures.1) (search rules)

pub returns : goal.returns
returns g c = achieved c.args.divider c.requires (rw c.hertz-clk.ensures at c.in_ok-judge_tolerance.ensures) (rw c.hertz-clk.ensures at c.run.ensures)
