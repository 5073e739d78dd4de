use Rattle.std.proofs.Common.{sym, refl, ap, rules}
use Rattle.uart_chip.specs.Device.{Meaning}
use Rattle.uart_config.specs.Applying.{unfit, stopped, accepted}
use Rattle.uart_config.specs.Faults.{refusing}
use Rattle.uart_config.proofs.Runs.{is_err}
use Rattle.uart_config.proofs.Whole.{starts}
use Rattle.uart_config.proofs.uart.Uart.init.Goals as goal

pub returns-in_err-judged-clause-inits : goal.returns-in_err-judged-clause-inits
returns-in_err-judged-clause-inits g c =
    unfit c.in_err-judged.field-0.0 c.in_err-judged.ensures (is_err (refusing c.in_err-judged.field-0.0 0) c.from_residual.result c.from_residual.ensures.1) c.disable_interrupts.ensures

pub returns-in_err-start-clause-inits : goal.returns-in_err-start-clause-inits
returns-in_err-start-clause-inits g c =
    let j = c.in_ok-judged in
    stopped j.judged.divider c.in_err-start.field-0.0 j.ensures.divider (is_err c.in_err-start.field-0.0 c.from_residual-in_err-start.result c.from_residual-in_err-start.ensures.1)
    (starts g.C.Kind.BaudGenerator.P j.judged.divider c.in_err-start.ensures refl j.ensures.config j.ensures.clk (ap (λ (m : Meaning). m.rest) c.disable_interrupts.ensures) refl)
    (search rules)

pub returns-clause-inits : goal.returns-clause-inits
returns-clause-inits g c =
    let j = c.in_ok-judged in
    accepted j.judged.divider c.start.new.self.reads j.ensures.divider refl
    (starts g.C.Kind.BaudGenerator.P j.judged.divider c.in_ok-start.ensures refl j.ensures.config j.ensures.clk (ap (λ (m : Meaning). m.rest) c.disable_interrupts.ensures)
    (sym (ap (λ (m : Meaning). m.rest) c.clear.ensures)))
    (search rules)
