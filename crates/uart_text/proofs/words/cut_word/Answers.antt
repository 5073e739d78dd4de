use Rattle.std.proofs.Common.{◌≡◌, ◌-◌, true, false, length, take, drop, Some, ap, rules, tests, arith, length-drop}
use Rattle.std.proofs.lemmas.Iterator.{IsFirst-from_position, YieldsList-from_slice}
use Rattle.std.proofs.lemmas.List.{take_all}
use Rattle.uart_text.specs.Words.{blank}
use Rattle.uart_text.proofs.Cuts.{Leading, leading, cut}
use Rattle.uart_text.proofs.words.cut_word.Goals as goal

pub returns : goal.returns
returns c =
    let s = c.args.text.now in
    let start = c.in_ok-start.start in
    let t = take (length s - start) (drop start s) in
    let rest : t ≡ drop start s = take_all (length s - start) (drop start s) (omega (arith, length-drop start s)) in
    let first = IsFirst-from_position _ _ (Some start) (λ b. blank b ≡ false) (λ b. blank b ≡ true) c.in_ok-start.ensures.ran (YieldsList-from_slice s cc) (λ x q k. search (rules, tests)) (λ x q k. search (rules, tests)) in
    let blanks : Leading true s start false = leading true false s (Some start) first in
    let second = IsFirst-from_position _ _ c.position-2.result (λ b. blank b ≡ true) (λ b. blank b ≡ false) c.position-2.ensures.ran (YieldsList-from_slice t cc) (λ x q k. search (rules, tests)) (λ x q k. search (rules, tests)) in
    let word : Leading false t c.unwrap_or-end.result true = rw c.unwrap_or-end.ensures (leading false true t c.position-2.result second) in
    cut s t start c.unwrap_or-end.result blanks rest (omega (arith, ap length rest, length-drop start s, first.0)) word
    c.split_at.result.0.now c.split_at.result.1.now c.split_at.ensures.front c.split_at.ensures.back
