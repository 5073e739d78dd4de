use Rattle.std.proofs.lemmas.Result.{IfOk-weaker}
use Rattle.uart_text.proofs.Cuts.{words_taken}
use Rattle.uart_text.proofs.words.collect_words.Goals as goal

pub returns : goal.returns
returns c =
    IfOk-weaker c.collect.result _ _
    (λ v d. let end = d.1.2 tt in rw d.2.0 (words_taken c.args.words d.0 d.1.0 end.0 d.1.1 end.1))
    c.collect.ensures.ran
