use Rattle.std.proofs.Common.{◌≡◌, Err, refl, ap, ◌∙◌, subst, rules}
use Rattle.uart_chip.specs.Device.{Meaning, Rest, looked, cleared}
use Rattle.uart_chip.specs.Meanings.{meaning}
use Rattle.uart_chip.specs.declared.events.Events.{Events}
use Rattle.uart_config.specs.Errors.{FirstError, Recovers, error, error_events}
use Rattle.uart_config.specs.Uarts.{rest_of}
use Rattle.uart_config.proofs.uart.Uart.check_for_errors.Goals as goal

pub returns-clause-checks : goal.returns-clause-checks
returns-clause-checks g c =
    let before : Meaning = meaning g.C.EventSource c.args.self.now.chip in
    let after : Meaning = meaning g.C.EventSource c.look-look.new.self in
    let seen : after ≡ looked before = c.look-look.ensures.after in
    let quiet : meaning g.C.EventSource c.clear.new.self ≡ cleared error_events after = search rules in
    let e = c.in-Err.error in
    let f = c.recover.result in
    let t : Rest = rest_of g.C.EventSource c.recover.new.self in
    error e f
    (subst (λ (es : Events). FirstError es (Err e)) (c.look-look.ensures.raw ∙ ap (λ (m : Meaning). m.raw) seen) c.in-Err.ensures) refl
    (subst (λ (s : Rest). Recovers g.C.Kind.ChipKind.PROPERTIES.has_update c.args.self.now.budget e f s t) (ap (λ (m : Meaning). m.rest) (quiet ∙ ap (cleared error_events) seen)) c.recover.ensures.rest)
    (search rules)
