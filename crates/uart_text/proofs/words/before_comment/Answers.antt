use Rattle.std.proofs.Common.{◌≡◌, ◌≢◌, Some, rules, tests}
use Rattle.std.proofs.lemmas.Iterator.{IsFirst-from_position, YieldsList-from_slice}
use Rattle.uart_text.proofs.Lines.{cut_comment}
use Rattle.uart_text.proofs.words.before_comment.Goals as goal

pub returns : goal.returns
returns c =
    let first = IsFirst-from_position _ _ (Some c.in_ok-end.end) (λ b. b ≡ 35) (λ b. b ≢ 35) c.in_ok-end.ensures.ran (YieldsList-from_slice c.args.line.now cc) (λ x q k. search (rules, tests)) (λ x q k. search (rules, tests)) in
    cut_comment c.args.line.now c.in_ok-end.end first.0 first.1 first.2
