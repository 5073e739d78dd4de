use Rattle.std.proofs.Common.{◌≡◌, true, sym, ap, ◌∙◌}
use Rattle.rate_answer.proofs.Sources.{all_alike}
use Rattle.rate_answer.proofs.answer.answer_on.Goals as goal

pub returns : goal.returns
returns g c =
    let same = c.from_source-config.ensures.clock_source ∙ c.DEFAULT_SOURCE.ensures in
    let has : g.G.BaudGenerator.has c.from_source-config.result.clock_source ≡ true = ap g.G.BaudGenerator.has same ∙ g.met.G.BaudGenerator.present in
    rw (c.requires, sym has, sym (all_alike c.args.query.now.clk c.from_source-config.result.clock_source), sym c.unwrap_or-config.ensures) c.achieve.ensures
