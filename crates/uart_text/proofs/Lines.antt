-- A line without its comment or its end.
use Rattle.std.proofs.Common.{◌≡◌, ℕ, ◌+◌, ◌<◌, ◌≢◌, ◌⊎◌, List, [], ◌∷◌, ◌++◌, length, take, drop, Option, Some, None, MatchOption, Bor, sym, refl, ap, ◌∙◌, subst, inl, inr, ⊎_elim, append_assoc, append-nil, take-append-drop}
use Rattle.std.specs.List.{AllWithin, HoldsAt}
use Rattle.std.specs.Option.{unwrap_or}
use Rattle.uart_text.proofs.Fronts.{front}
use Rattle.std.proofs.lemmas.List.{drop_more, same_from_push}
use Rattle.uart_text.specs.Line.{EndsIn, return_newline, newline, return, unended, WithoutEnd, Commented}

-- r is s without the byte b at its end, or s itself where it does not end in b
abbrev pub Stripped : ℕ → List ℕ → List ℕ → Type 0
Stripped b s r = (s ≡ r ++ (b ∷ [])) ⊎ ((s ≡ r) × (EndsIn b r → ⊥))

pub ends_in_last : (b last : ℕ) (s rest : List ℕ) → s ≡ rest ++ (last ∷ []) → last ≢ b → EndsIn b s → ⊥
ends_in_last b last s rest e ne h = ne (same_from_push rest h.0 last b (sym e ∙ h.1)).1

-- what `strip_suffix` leaves of a text, or else the text
pub stripped : (b : ℕ) (text : Bor (List ℕ)) (r : Option (Bor (List ℕ))) → MatchOption r ((front : List ℕ) → text.now ≢ front ++ (b ∷ [])) (λ x. text.now ≡ x.now ++ (b ∷ [])) →
    Stripped b text.now (unwrap_or r text).now
stripped b text None h = inr (refl, λ e. h e.0 e.1)
stripped b text (Some x) h = inl h

-- a `\n` is taken away, and then a `\r`
pub both_stripped : (line t r : List ℕ) → Stripped 10 line t → Stripped 13 t r → WithoutEnd line r
both_stripped line t r n c =
    ⊎_elim
    (λ a. ⊎_elim
    (λ b. (13 ∷ 10 ∷ [], a ∙ ap (λ l. l ++ (10 ∷ [])) b ∙ append_assoc r (13 ∷ []) (10 ∷ []), return_newline))
    (λ b. (10 ∷ [], a ∙ ap (λ l. l ++ (10 ∷ [])) b.0, newline b.1))
    c)
    (λ a. ⊎_elim
    (λ b. (13 ∷ [], a.0 ∙ b, return))
    (λ b. ([], a.0 ∙ b.0 ∙ sym (append-nil r), unended b.1 (subst (λ l. EndsIn 10 l → ⊥) b.0 a.1)))
    c)
    n

-- the first `#` is at i
pub cut_comment : (s : List ℕ) (i : ℕ) → i < length s → HoldsAt (λ b. b ≡ 35) s i → AllWithin (λ b. b ≢ 35) s 0 i → Commented s (take i s)
cut_comment s i h e u =
    (drop (i + 1) s, sym (take-append-drop i s) ∙ ap (λ l. take i s ++ l) (drop_more s i 0 h ∙ ap (λ b. b ∷ drop (i + 1) s) (e 0)), front (λ b. b ≢ 35) s i u)
