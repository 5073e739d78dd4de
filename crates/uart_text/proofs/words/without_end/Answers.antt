use Rattle.std.proofs.Common.{[], ◌∷◌, sym}
use Rattle.std.proofs.lemmas.Bool.Decides.{Decides-eqb}
use Rattle.std.proofs.lemmas.Slice.Eq.{strip_suffix_is}
use Rattle.uart_text.proofs.Lines.{stripped, both_stripped}
use Rattle.uart_text.proofs.words.without_end.Goals as goal

pub returns : goal.returns
returns c =
    let newline = stripped 10 c.args.line c.strip_suffix.result (strip_suffix_is Decides-eqb c.args.line.now (10 ∷ []) c.strip_suffix.result c.strip_suffix.ensures.cases) in
    let return = stripped 13 c.unwrap_or-line.result c.strip_suffix-2.result (strip_suffix_is Decides-eqb c.unwrap_or-line.result.now (13 ∷ []) c.strip_suffix-2.result c.strip_suffix-2.ensures.cases) in
    both_stripped c.args.line.now c.unwrap_or-line.result.now c.unwrap_or.result.now (rw (sym c.unwrap_or-line.ensures) at newline) (rw (sym c.unwrap_or.ensures) at return)
