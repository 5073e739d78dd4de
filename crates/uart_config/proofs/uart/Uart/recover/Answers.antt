use Rattle.std.proofs.Common.{refl, rules}
use Rattle.uart_config.specs.Errors.{reset, reset_failed}
use Rattle.uart_config.proofs.Runs.{ran_carried, kept_by_call}
use Rattle.uart_config.proofs.uart.Uart.recover.Goals as goal

pub returns-in-Ok : goal.returns-in-Ok
returns-in-Ok g c = record { rest = reset c.reset.new.self.reads (search rules) (search rules) (ran_carried c.in-Ok.ensures refl); kept = kept_by_call c.in-Ok.ensures.kept }

pub returns-in-Err : goal.returns-in-Err
returns-in-Err g c = record { rest = reset_failed (search rules) (ran_carried c.in-Err.ensures refl); kept = kept_by_call c.in-Err.ensures.kept }
