use Rattle.std.proofs.Common.{◌∙◌, [], ◌∷◌, sym, ap, subst}
use Rattle.uart_chip.specs.Events.{among, Within}
use Rattle.uart_chip.specs.Members.{Within-one}
use Rattle.uart_chip.proofs.enum_set.EnumSet.only.Goals as goal

pub invariant_of-result : goal.invariant_of-result
invariant_of-result g c = record {
  of_kind =
      subst (λ x. Within x g.K.EventKind.every) (sym (c.of.ensures ∙ ap (λ x. among (x ∷ [])) c.event.ensures))
      (Within-one (g.K.EventKind.event c.args.case) g.K.EventKind.every (g.met.K.EventKind.within c.args.case));
}
