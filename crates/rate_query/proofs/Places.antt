-- What words ask, as it is read.
use Rattle.std.proofs.Common.{◌≡◌, ◌≢◌, ℕ, List, [], ◌∷◌, length, Option, Some, Result, Ok, Err, MatchResult, Bor, refl, sym, subst}
use Rattle.uart_text.specs.Left.{texts}
use Rattle.rate_query.specs.Asking.{Asks}
use Rattle.rate_query.specs.Reading.{QueryRead}
use Rattle.rate_query.specs.declared.error.QueryError.{QueryError}
use Rattle.rate_query.specs.declared.query.Query.{Query}

-- no texts are those of no words
pub no_more : (ws : List (Bor (List ℕ))) → texts ws ≡ [] → length ws ≡ 0
no_more [] e = refl
no_more (w ∷ ws) e = cc

-- some words ask what is read from them
pub asked : (ws : List (List ℕ)) (r : Result Query QueryError) (s : Result (Option Query) QueryError) → ws ≢ [] → QueryRead ws r → MatchResult r (λ q. s ≡ Ok (Some q)) (λ e. s ≡ Err e) → Asks ws s
asked ws (Ok q) s some read is = subst (Asks ws) (sym is) read
asked ws (Err e) s some read is = subst (Asks ws) (sym is) (some, read)
