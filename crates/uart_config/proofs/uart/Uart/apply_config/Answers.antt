use Rattle.std.proofs.Common.{refl, rules}
use Rattle.uart_config.specs.Applying.{unfit, fit}
use Rattle.uart_config.specs.Faults.{refusing}
use Rattle.uart_config.proofs.Runs.{is_err, ran_carried, ran_failed, kept_by_call}
use Rattle.uart_config.proofs.uart.Uart.apply_config.Goals as goal

pub returns-in_err-judged : goal.returns-in_err-judged
returns-in_err-judged g c =
    let e = c.in_err-judged.field-0.0 in record {
      rest = unfit e c.in_err-judged.ensures (is_err (refusing e 0) c.from_residual.result c.from_residual.ensures.1) refl;
      kept = search rules;
    }

pub returns-in_err-configure : goal.returns-in_err-configure
returns-in_err-configure g c =
    let j = c.in_ok-judged in record {
      rest = fit j.judged.divider j.ensures.divider (rw (← j.ensures.clk, ← j.ensures.config) (ran_failed c.in_err-configure.ensures c.from_residual-in_err-configure.ensures.1));
      kept = kept_by_call c.in_err-configure.ensures.kept;
    }

pub returns : goal.returns
returns g c =
    let j = c.in_ok-judged in record {
      rest = fit j.judged.divider j.ensures.divider (rw (← j.ensures.clk, ← j.ensures.config) (ran_carried c.in_ok-configure.ensures refl));
      kept = kept_by_call c.in_ok-configure.ensures.kept;
    }
