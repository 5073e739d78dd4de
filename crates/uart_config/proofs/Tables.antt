-- Tables of steps: one row, and one table after the other.
use Rattle.std.proofs.Common.{◌≡◌, ℕ, zero, suc, ◌+◌, ◌-◌, ◌<◌, ◌≤◌, Bool, true, false, cond, ◌&&◌, ◌||◌, List, [], ◌∷◌, ◌++◌, Some, None, Ok, Err, Result, sym, refl, ap, ◌∙◌, subst, append_assoc, append-nil, add-zero, add-suc, zero-add, arith}
use Rattle.std.proofs.Math.Bool.{or_assoc, or-false, and-false}
use Rattle.uart_chip.specs.Device.{Rest, written}
use Rattle.uart_chip.specs.Fields.{line}
use Rattle.uart_chip.specs.Steps.{Writes, written_all}
use Rattle.uart_chip.specs.Steps.{put_all}
use Rattle.uart_chip.proofs.Writes.{put_all_append}
use Rattle.uart_config.specs.Faults.{refusing, overdue}
use Rattle.uart_config.specs.Tables.{Row, AllPass, writes_of, updates_of, polls, InTime, any_line, mark_by, mark_after, stands_by, stands_after, Reached, LeftStanding, Carried, to_the_end, to_a_refusal, to_a_time_out}
use Rattle.uart_config.specs.Updates.{settled, standing}
use Rattle.uart_config.specs.declared.fault.Fault.{Fault}
use Rattle.uart_rate.specs.declared.refusal.Refusal.{Refusal}

mark_one : (l h x al : Bool) → (cond l (cond h true x) x) || (h && al) ≡ x || (h && (l || al))
mark_one true true true al = refl
mark_one true true false al = refl
mark_one true false x al = refl
mark_one false h x al = refl

stands_one : (l al : Bool) (n : ℕ) → cond al 0 (cond l 0 n) ≡ cond (l || al) 0 n
stands_one true true n = refl
stands_one true false n = refl
stands_one false al n = refl

-- what a list of writes leaves
abbrev pub overlay : Bool → Writes → Rest → Rest
overlay has ws s = record { fields = put_all ws s.fields; waiting = mark_by has ws s.waiting; standing = stands_by ws s.standing; delays = s.delays }

pub written_is : (has : Bool) (ws : Writes) (s : Rest) → written_all has ws s ≡ overlay has ws s
written_is has [] s = rw (and-false has, or-false s.waiting) refl
written_is has (w ∷ ws) s =
    written_is has ws (written has w.0 w.1 s) ∙
    rw (mark_one (line w.0) has s.waiting (any_line ws), stands_one (line w.0) (any_line ws) s.standing) refl

writes-++ : (xs ys : List Row) → writes_of (xs ++ ys) ≡ writes_of xs ++ writes_of ys
writes-++ [] ys = refl
writes-++ (x ∷ xs) ys = ap (λ (z : Writes). x.writes ++ z) (writes-++ xs ys) ∙ sym (append_assoc x.writes (writes_of xs) (writes_of ys))

updates-++ : (has : Bool) (xs ys : List Row) → updates_of has (xs ++ ys) ≡ updates_of has xs + updates_of has ys
updates-++ has [] ys = omega arith
updates-++ has (x ∷ xs) ys = omega (arith, updates-++ has xs ys)

pass-++ : (xs ys : List Row) → AllPass xs → AllPass ys → AllPass (xs ++ ys)
pass-++ [] ys p q = q
pass-++ (x ∷ xs) ys p q = (p.0, pass-++ xs ys p.1 q)

mark-++ : (has : Bool) (xs ys : List Row) (w : Bool) → mark_after has (xs ++ ys) w ≡ mark_after has ys (mark_after has xs w)
mark-++ has [] ys w = refl
mark-++ has (x ∷ xs) ys w = mark-++ has xs ys (cond (has && x.updates) false (mark_by has x.writes w))

stands-++ : (has : Bool) (xs ys : List Row) (n : ℕ) → stands_after has (xs ++ ys) n ≡ stands_after has ys (stands_after has xs n)
stands-++ has [] ys n = refl
stands-++ has (x ∷ xs) ys n = stands-++ has xs ys (cond (has && x.updates) 0 (stands_by x.writes n))

polls-+ : (u v : ℕ) (ds es : ℕ → ℕ) → ((k : ℕ) → es k ≡ ds (u + k)) → polls (u + v) ds ≡ polls u ds + polls v es
polls-+ u zero ds es e = rw add-zero (omega arith)
polls-+ u (suc v) ds es e = rw add-suc (omega (arith, polls-+ u v ds es e, e v))

in_time-+ : (b u v : ℕ) (ds es : ℕ → ℕ) → ((k : ℕ) → es k ≡ ds (u + k)) → InTime b u ds → InTime b v es → InTime b (u + v) ds
in_time-+ b u v ds es e p q k h = grind (arith, e (k - u), p k, q (k - u))

reached_none : (has : Bool) (s : Rest) → Reached has [] s s
reached_none has s = record { fields = refl; waiting = refl; standing = refl; delays = λ k. ap s.delays (sym (zero-add k)) }

reached-++ : (has : Bool) (xs ys : List Row) (s m t : Rest) → Reached has xs s m → Reached has ys m t → Reached has (xs ++ ys) s t
reached-++ has xs ys s m t p q = record {
  fields = q.fields ∙ (ap (put_all (writes_of ys)) p.fields ∙ (sym (put_all_append (writes_of xs) (writes_of ys) s.fields) ∙ ap (λ (z : Writes). put_all z s.fields) (sym (writes-++ xs ys))));
  waiting = q.waiting ∙ (ap (mark_after has ys) p.waiting ∙ sym (mark-++ has xs ys s.waiting));
  standing = q.standing ∙ (ap (stands_after has ys) p.standing ∙ sym (stands-++ has xs ys s.standing));
  delays = λ k. q.delays k ∙ (p.delays (updates_of has ys + k) ∙ ap s.delays (omega (arith, updates-++ has xs ys)));
}

left-++ : (b : ℕ) (xs ys : List Row) (r : Row) (s m t : Rest) → Reached true xs s m → LeftStanding b ys r m t → LeftStanding b (xs ++ ys) r s t
left-++ b xs ys r s m t p q = record {
  fields = q.fields ∙ (ap (put_all (writes_of ys ++ (r.writes ++ r.off))) p.fields ∙ (sym (put_all_append (writes_of xs) (writes_of ys ++ (r.writes ++ r.off)) s.fields) ∙
      ap (λ (z : Writes). put_all z s.fields) (sym (append_assoc (writes_of xs) (writes_of ys) (r.writes ++ r.off)) ∙ ap (λ (z : Writes). z ++ (r.writes ++ r.off)) (sym (writes-++ xs ys)))));
  waiting = q.waiting ∙ ap (mark_by true (r.writes ++ r.off)) (ap (mark_after true ys) p.waiting ∙ sym (mark-++ true xs ys s.waiting));
  standing = q.standing ∙ ap (λ (z : ℕ). stands_by r.off ((z + 1) - b)) (p.delays (updates_of true ys) ∙ ap s.delays (sym (updates-++ true xs ys)));
  delays = λ k. q.delays k ∙ (p.delays (updates_of true ys + 1 + k) ∙ ap s.delays (omega (arith, updates-++ true xs ys)));
}

same_rows : (xs ys : List Row) (r : Row) (back : List Row) (qs : List Row) → qs ≡ ys ++ (r ∷ back) → xs ++ qs ≡ (xs ++ ys) ++ (r ∷ back)
same_rows xs ys r back qs e = ap (λ (z : List Row). xs ++ z) e ∙ sym (append_assoc xs ys (r ∷ back))

-- a table that is carried out to its end, and another behind it
onward : (has : Bool) (b : ℕ) (xs ys : List Row) (n : ℕ) (a : Result ℕ Fault) (s m t : Rest) →
    AllPass xs → InTime b (updates_of has xs) s.delays → Reached has xs s m →
    Carried has b ys (n + polls (updates_of has xs) s.delays) a m t → Carried has b (xs ++ ys) n a s t
onward has b xs ys n a s m t p i x (to_the_end q j e y) =
    to_the_end (pass-++ xs ys p q) (subst (λ (z : ℕ). InTime b z s.delays) (sym (updates-++ has xs ys)) (in_time-+ b (updates_of has xs) (updates_of has ys) s.delays m.delays x.delays i j))
    (e ∙ ap (λ (z : ℕ). Ok z) (omega (arith, polls-+ (updates_of has xs) (updates_of has ys) s.delays m.delays x.delays, ap (λ (z : ℕ). polls z s.delays) (updates-++ has xs ys))))
    (reached-++ has xs ys s m t x y)
onward has b xs ys n a s m t p i x (to_a_refusal front r back f rows q j fails e y) =
    to_a_refusal (xs ++ front) r back f (same_rows xs front r back ys rows) (pass-++ xs front p q)
    (subst (λ (z : ℕ). InTime b z s.delays) (sym (updates-++ has xs front)) (in_time-+ b (updates_of has xs) (updates_of has front) s.delays m.delays x.delays i j)) fails
    (e ∙ ap (λ (z : ℕ). Err (refusing f z)) (omega (arith, polls-+ (updates_of has xs) (updates_of has front) s.delays m.delays x.delays, ap (λ (z : ℕ). polls z s.delays) (updates-++ has xs front))))
    (reached-++ has xs front s m t x y)
onward has b xs ys n a s m t p i x (to_a_time_out front r back rows q j none h u late e y) =
    to_a_time_out (xs ++ front) r back (same_rows xs front r back ys rows) (pass-++ xs front p q)
    (subst (λ (z : ℕ). InTime b z s.delays) (sym (updates-++ has xs front)) (in_time-+ b (updates_of has xs) (updates_of has front) s.delays m.delays x.delays i j)) none h u
    (subst (λ (z : ℕ). b ≤ z) (x.delays (updates_of has front) ∙ ap s.delays (sym (updates-++ has xs front))) late)
    (e ∙ ap (λ (z : ℕ). Err (overdue r.step z)) (omega (arith, polls-+ (updates_of has xs) (updates_of has front) s.delays m.delays x.delays, ap (λ (z : ℕ). polls z s.delays) (updates-++ has xs front))))
    (left-++ b xs front r s m t (subst (λ (z : Bool). Reached z xs s m) h x) y)

pub then : (has : Bool) (b : ℕ) (xs ys : List Row) (n k : ℕ) (a : Result ℕ Fault) (s m t : Rest) →
    Carried has b xs n (Ok k) s m → Carried has b ys k a m t → Carried has b (xs ++ ys) n a s t
then has b xs ys n k a s m t (to_the_end p i e x) c =
    let same : k ≡ n + polls (updates_of has xs) s.delays = cc in onward has b xs ys n a s m t p i x (subst (λ (z : ℕ). Carried has b ys z a m t) same c)
then has b xs ys n k a s m t (to_a_refusal front r back f rows q j fails e y) c = cc
then has b xs ys n k a s m t (to_a_time_out front r back rows q j none h u late e y) c = cc

-- a table that ends with a fault, and another behind it
pub stops : (has : Bool) (b : ℕ) (xs ys : List Row) (n : ℕ) (f : Fault) (s t : Rest) → Carried has b xs n (Err f) s t → Carried has b (xs ++ ys) n (Err f) s t
stops has b xs ys n f s t (to_the_end p i e x) = cc
stops has b xs ys n f s t (to_a_refusal front r back g rows q j fails e y) =
    to_a_refusal front r (back ++ ys) g (ap (λ (z : List Row). z ++ ys) rows ∙ append_assoc front (r ∷ back) ys) q j fails e y
stops has b xs ys n f s t (to_a_time_out front r back rows q j none h u late e y) =
    to_a_time_out front r (back ++ ys) (ap (λ (z : List Row). z ++ ys) rows ∙ append_assoc front (r ∷ back) ys) q j none h u late e y

no_updates : (b : ℕ) (ds : ℕ → ℕ) → InTime b 0 ds
no_updates b ds = λ k h. omega arith

-- no rows at all
pub nothing : (has : Bool) (b n : ℕ) (s : Rest) → Carried has b [] n (Ok n) s s
nothing has b n s = to_the_end tt (no_updates b s.delays) (ap (λ (z : ℕ). Ok z) (sym (add-zero n))) (reached_none has s)

-- ---- one row

pub row_refused : (has : Bool) (b : ℕ) (r : Row) (n : ℕ) (e : Refusal) (s : Rest) → r.refusal ≡ Some e → Carried has b (r ∷ []) n (Err (refusing e n)) s s
row_refused has b r n e s fails = to_a_refusal [] r [] e refl tt (no_updates b s.delays) fails (ap (λ (z : ℕ). Err (refusing e z)) (sym (add-zero n))) (reached_none has s)

no_update : (has : Bool) (r : Row) → (has && r.updates) ≡ false → updates_of has (r ∷ []) ≡ 0
no_update has r e = rw e refl

-- a row with no update, or on a chip that needs none
pub row_plain : (has : Bool) (b : ℕ) (r : Row) (n : ℕ) (s : Rest) → r.refusal ≡ None → (has && r.updates) ≡ false → Carried has b (r ∷ []) n (Ok n) s (overlay has r.writes s)
row_plain has b r n s pass e =
    let none = no_update has r e in
    to_the_end (pass, tt) (subst (λ (z : ℕ). InTime b z s.delays) (sym none) (no_updates b s.delays)) (ap (λ (z : ℕ). Ok z) (rw none (sym (add-zero n)))) (record {
      fields = ap (λ (z : Writes). put_all z s.fields) (sym (append-nil r.writes));
      waiting = rw e refl;
      standing = rw e refl;
      delays = λ k. ap s.delays (omega (arith, none));
    })

one_update : (r : Row) → r.updates ≡ true → updates_of true (r ∷ []) ≡ 1
one_update r u = rw u refl

-- a row whose update is found done in time
pub row_done : (b : ℕ) (r : Row) (n : ℕ) (s : Rest) → r.refusal ≡ None → r.updates ≡ true → s.delays 0 < b →
    Carried true b (r ∷ []) n (Ok (n + (s.delays 0 + 1))) s (settled (overlay true r.writes s))
row_done b r n s pass u i =
    let one = one_update r u in
    to_the_end (pass, tt) (subst (λ (z : ℕ). InTime b z s.delays) (sym one) (λ k h. subst (λ (z : ℕ). s.delays z < b) (omega arith) i)) (ap (λ (z : ℕ). Ok z) (rw one (omega arith))) (record {
      fields = ap (λ (z : Writes). put_all z s.fields) (sym (append-nil r.writes));
      waiting = rw u refl;
      standing = rw u refl;
      delays = λ k. ap s.delays (omega (arith, one));
    })

any-++ : (xs ys : Writes) → any_line (xs ++ ys) ≡ (any_line xs || any_line ys)
any-++ [] ys = refl
any-++ (x ∷ xs) ys = ap (λ (z : Bool). line x.0 || z) (any-++ xs ys) ∙ sym (or_assoc (line x.0) (any_line xs) (any_line ys))

-- a row whose update still stands when the budget is used up
pub row_late : (b : ℕ) (r : Row) (n : ℕ) (s : Rest) → r.refusal ≡ None → r.updates ≡ true → b ≤ s.delays 0 →
    Carried true b (r ∷ []) n (Err (overdue r.step (n + b))) s (overlay true r.off (standing b (overlay true r.writes s)))
row_late b r n s pass u late =
    to_a_time_out [] r [] refl tt (no_updates b s.delays) pass refl u late (ap (λ (z : ℕ). Err (overdue r.step z)) (omega arith)) (record {
      fields = sym (put_all_append r.writes r.off s.fields);
      waiting = or_assoc s.waiting (any_line r.writes) (any_line r.off) ∙ ap (λ (z : Bool). s.waiting || z) (sym (any-++ r.writes r.off));
      standing = refl;
      delays = λ k. ap s.delays (omega arith);
    })
