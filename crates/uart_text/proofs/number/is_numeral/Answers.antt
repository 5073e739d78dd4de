use Rattle.std.proofs.Common.{sym, refl, ◌∙◌, arith}
use Rattle.std.proofs.lemmas.Bool.{false≢true}
use Rattle.uart_text.proofs.Numerals.{back_fits, back_all, accepted, no_other}
use Rattle.uart_text.proofs.number.is_numeral.Goals as goal

pub step-state-requires : goal.step-state-requires
step-state-requires c =
    omega (arith, back_fits c.args.grouped c.args.text.now _ _ _ _ c.loop-byte.invariant c.in-Some.ensures.steps)

pub returns-in-Digits : goal.returns-in-Digits
returns-in-Digits c =
    let all = back_all c.args.grouped c.args.text.now _ _ c.loop-byte.invariant c.in-None.ensures.steps.0 in
    (λ _. (c.in-Digits.field-0, accepted c.args.grouped c.args.text.now c.in-Digits.field-0 (sym c.in-Digits.is ∙ all)), λ _. refl)

pub returns-in_default : goal.returns-in_default
returns-in_default c =
    let all = back_all c.args.grouped c.args.text.now _ _ c.loop-byte.invariant c.in-None.ensures.steps.0 in
    (λ e. absurd (false≢true e), λ m. absurd (no_other c.args.grouped c.args.text.now c.loop-byte.state all c.in_default.not-Digits m.0 m.1))
