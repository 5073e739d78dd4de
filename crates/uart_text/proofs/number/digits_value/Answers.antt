use Rattle.std.proofs.Common.{◌+◌, ◌*◌, drop, sym, ap, ◌∙◌, arith}
use Rattle.uart_text.specs.Number.{value_from}
use Rattle.uart_text.proofs.Values.{value_digit, value_skip, value_above}
use Rattle.uart_text.proofs.number.digits_value.Goals as goal
use Rattle.uart_text.proofs.number.digits_value.Goals.{then-is_ascii_digit+in_ok-total, else-is_ascii_digit}

pub returns-in_err-total : goal.returns-in_err-total
returns-in_err-total c =
    let digit = sym c.is_ascii_digit.ensures.value ∙ c.if-is_ascii_digit.true in
    let above = value_above c.args.text.now c.loop-byte.byte-index c.loop-byte.total c.loop-byte-test.true digit c.loop-byte.invariant.1 in
    rw c.from_residual.ensures (λ below. c.in_err-total.ensures (omega (arith, c.from.ensures)))

pub loop-byte-preserved : goal.loop-byte-preserved
loop-byte-preserved c =
    let text = c.args.text.now in
    let i = c.loop-byte.byte-index in
    let total = c.loop-byte.total in
    let tested = sym c.is_ascii_digit.ensures.value in
    elim c.if-is_ascii_digit.branch [
      | then-is_ascii_digit+in_ok-total w ↦ (
        omega (arith, w.total-is, w.in_ok-total.ensures),
        ap (λ x. value_from x (drop (i + 1) text)) (w.total-is ∙ w.in_ok-total.ensures.1 ∙ ap (λ d. 10 * total + d) w.from.ensures)
            ∙ value_digit text i total c.loop-byte-test.true (tested ∙ w.if-is_ascii_digit.true)
            ∙ c.loop-byte.invariant.1,
      )
      | else-is_ascii_digit w ↦ (
        omega (arith, w.total-is),
        ap (λ x. value_from x (drop (i + 1) text)) w.total-is
            ∙ value_skip text i total c.loop-byte-test.true (tested ∙ w.if-is_ascii_digit.false)
            ∙ c.loop-byte.invariant.1,
      )
    ]
