use Rattle.std.proofs.Common.{◌-◌, Bool, [], ◌∷◌, ap, ◌∙◌}
use Rattle.uart_chip.specs.Steps.{after_writes}
use Rattle.uart_chip.specs.declared.field.Field.TheVariants.{SclkDivNum, SclkDivA, SclkDivB}
use Rattle.uart_banks.proofs.bank_core.Core.write_selected_clock.Goals as goal

pub returns : goal.returns
returns g c =
    let updates : Bool = g.K.ChipKind.PROPERTIES.has_update in
    c.write_on-4.ensures ∙ ap (after_writes updates ((SclkDivB, 0) ∷ []))
    (c.write_on-3.ensures ∙ ap (after_writes updates ((SclkDivA, 0) ∷ []))
    ((rw (c.saturating_sub.ensures, c.from.ensures) at c.write_on-2.ensures) ∙ ap (after_writes updates ((SclkDivNum, c.args.prescaler - 1) ∷ []))
    (rw c.source_code.ensures at c.write_on.ensures)))
