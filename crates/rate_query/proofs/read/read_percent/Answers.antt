use Rattle.std.proofs.Common.{codes}
use Rattle.std.proofs.lemmas.Bool.Decides.{Decides-eqb}
use Rattle.std.proofs.lemmas.Result.{err_from_is_err_and}
use Rattle.std.proofs.lemmas.Slice.Eq.{strip_suffix_is}
use Rattle.rate_query.proofs.Percents.{in_percent}
use Rattle.rate_query.proofs.read.read_percent.Goals as goal

pub returns-in_err-percent : goal.returns-in_err-percent
returns-in_err-percent c =
    let p = err_from_is_err_and c.from_residual-in_err-percent.result c.from_residual-in_err-percent.ensures.1 in
    let cut = rw c.in_ok-number.ensures.ok_part at (strip_suffix_is Decides-eqb c.args.word.now (codes "%") c.strip_suffix.result c.strip_suffix.ensures.cases) in
    rw (p.1, p.2) (in_percent c.args.word.now c.in_ok-number.number.now c.in_err-percent.field-0.0 c.requires.closest c.requires.exact cut c.in_err-percent.ensures)

pub returns : goal.returns
returns c =
    let cut = rw c.in_ok-number.ensures.ok_part at (strip_suffix_is Decides-eqb c.args.word.now (codes "%") c.strip_suffix.result c.strip_suffix.ensures.cases) in
    ((c.in_ok-number.number.now, cut, c.in_ok-percent.ensures.0), c.in_ok-percent.ensures.1)
