-- What is wrong with the number before a percent sign is wrong with the word.
use Rattle.std.proofs.Common.{◌≡◌, ℕ, List, ◌++◌, codes, Bor, Option, Some, None, MatchOption, Result, Ok, Err, MatchResult, sym, ◌∙◌, subst}
use Rattle.std.specs.Option.{IsSomeAnd, option_map, option_transpose}
use Rattle.uart_rate.specs.declared.config.BaudrateTolerance.{BaudrateTolerance}
use Rattle.std.proofs.lemmas.List.{append_cancel_right}
use Rattle.uart_text.specs.Number.{Number}
use Rattle.rate_query.specs.Reading.{NumberMistake, not_a_number, too_large, ToleranceWord, ToleranceMistake, percent_too_large, tolerance_unknown, Wrong}
use Rattle.rate_query.specs.declared.error.QueryError.{QueryError}
use Rattle.rate_query.specs.declared.error.QueryError.TheVariants.{ToleranceUnknown, ToleranceTooLarge}

pub in_percent : (w s : List ℕ) (e : QueryError) → (w ≡ codes "closest" → ⊥) → (w ≡ codes "exact" → ⊥) → w ≡ s ++ codes "%" →
    NumberMistake s 255 ToleranceUnknown ToleranceTooLarge e → ToleranceMistake w e
in_percent w s e a b cut (not_a_number none same) =
    tolerance_unknown a b
    (λ n p. none n (subst (λ (t : List ℕ). Number t n) (append_cancel_right p.0 s (codes "%") (sym p.1 ∙ cut)) p.2))
    same
in_percent w s e a b cut (too_large above same) = percent_too_large (above.0, (s, cut, above.1), above.2) same

-- where the tolerance's word is read if it stands, a mistake is in that word
pub in_word : (word : Option (Bor (List ℕ))) (read : Option (Result BaudrateTolerance QueryError)) (e : QueryError) →
    MatchOption word (read ≡ None) (λ w. IsSomeAnd read (λ r. MatchResult r (ToleranceWord w.now) (ToleranceMistake w.now))) →
    option_transpose read ≡ Err e → Wrong (option_map (λ x. x.now) word) (λ w. ToleranceMistake w e)
in_word None None e h is = absurd (cc)
in_word None (Some r) e h is = absurd (cc)
in_word (Some w) None e h is = absurd h
in_word (Some w) (Some (Ok t)) e h is = absurd (cc)
in_word (Some w) (Some (Err d)) e h is = subst (ToleranceMistake w.now) (same_err is) h
  where
    same_err : {x y : QueryError} → ◌≡◌ {A = Result (Option BaudrateTolerance) QueryError} (Err x) (Err y) → x ≡ y
    same_err p = cc
