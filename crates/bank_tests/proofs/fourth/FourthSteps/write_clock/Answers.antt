use Rattle.std.proofs.Common.{◌-◌, true, [], ◌∷◌, ap, ◌∙◌}
use Rattle.uart_chip.specs.Steps.{after_writes}
use Rattle.uart_chip.specs.declared.field.Field.TheVariants.{SclkDivNum, SclkDivA, SclkDivB}
use Rattle.bank_tests.proofs.fourth.FourthSteps.write_clock.Goals as goal

pub returns : goal.returns
returns g c =
    c.write_on-4.ensures ∙ ap (after_writes true ((SclkDivB, 0) ∷ []))
    (c.write_on-3.ensures ∙ ap (after_writes true ((SclkDivA, 0) ∷ []))
    ((rw (c.saturating_sub.ensures, c.from.ensures) at c.write_on-2.ensures) ∙ ap (after_writes true ((SclkDivNum, c.args.prescaler - 1) ∷ []))
    (rw c.source_code.ensures at c.write_on.ensures)))
