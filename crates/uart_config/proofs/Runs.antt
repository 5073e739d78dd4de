-- Parts of a call that are carried out one after the other carry out their table.
use Rattle.std.proofs.Common.{◌≡◌, ℕ, ◌+◌, Bool, true, false, cond, ltb, List, [], ◌∷◌, ◌++◌, length-append, Some, None, Ok, Err, Option, Result, IsErrAnd, sym, refl, ap, ◌∙◌, subst, arith, ltb-false, ltb-true}
use Rattle.std.proofs.Math.Bool.{and-false}
use Rattle.uart_chip.specs.Device.{Rest}
use Rattle.uart_chip.specs.Steps.{Writes}
use Rattle.uart_chip.specs.Steps.{put_all}
use Rattle.uart_config.specs.Faults.{overdue}
use Rattle.uart_chip.specs.declared.properties.Properties.{Properties}
use Rattle.uart_chip.specs.declared.source.EventSource.{Ghosts}
use Rattle.uart_config.specs.Runs.{Out, onward, chain, synced, falling, tested, run_row, run_from, run, counted, Ran}
use Rattle.uart_config.specs.Uarts.{ChangesRest, Kept, rest_of}
use Rattle.uart_config.specs.declared.uart.Uart.{Uart}
use Rattle.uart_config.specs.Tables.{Row, writes_of, Carried, to_the_end, to_a_refusal, to_a_time_out}
use Rattle.uart_config.specs.Updates.{settled, standing}
use Rattle.uart_config.specs.declared.fault.Fault.{Fault}
use Rattle.uart_rate.specs.declared.refusal.Refusal.{Refusal}
use Rattle.uart_config.proofs.Tables.{overlay, written_is, then, stops, nothing, row_refused, row_plain, row_done, row_late}

-- what is carried out
abbrev Carries : Bool → ℕ → List Row → ℕ → Out → Rest → Type 0
Carries has b rows n o s = Carried has b rows n o.answer s o.rest

fallen_ok : (has : Bool) (off : Writes) (k : ℕ) (m : Rest) → falling has off (record { answer = Ok k; rest = m }) ≡ record { answer = Ok k; rest = m }
fallen_ok has [] k m = refl
fallen_ok has (w ∷ ws) k m = refl

fallen_err : (has : Bool) (off : Writes) (f : Fault) (m : Rest) → falling has off (record { answer = Err f; rest = m }) ≡ record { answer = Err f; rest = overlay has off m }
fallen_err has [] f m = ap (λ (z : Rest). record { answer = Err f; rest = z }) (written_is has [] m)
fallen_err has (w ∷ ws) f m = ap (λ (z : Rest). record { answer = Err f; rest = z }) (written_is has (w ∷ ws) m)

-- a row with an update, by whether it is found done in time
timed_by : (b : ℕ) (r : Row) (n : ℕ) (s : Rest) → r.refusal ≡ None → r.updates ≡ true → (v : Bool) → ltb (s.delays 0) b ≡ v →
    let m : Rest = overlay true r.writes s in
    Carries true b (r ∷ []) n (falling true r.off (cond v (record { answer = Ok (n + (s.delays 0 + 1)); rest = settled m }) (record { answer = Err (overdue r.step (n + b)); rest = standing b m }))) s
timed_by b r n s pass u true e =
    subst (λ (o : Out). Carries true b (r ∷ []) n o s) (sym (fallen_ok true r.off (n + (s.delays 0 + 1)) (settled (overlay true r.writes s)))) (row_done b r n s pass u (ltb-true (s.delays 0) b e))
timed_by b r n s pass u false e =
    subst (λ (o : Out). Carries true b (r ∷ []) n o s) (sym (fallen_err true r.off (overdue r.step (n + b)) (standing b (overlay true r.writes s)))) (row_late b r n s pass u (ltb-false (s.delays 0) b e))

-- and by whether the chip has updates
updated_by : (has : Bool) (b : ℕ) (r : Row) (n : ℕ) (s : Rest) → r.refusal ≡ None → r.updates ≡ true →
    Carries has b (r ∷ []) n (falling has r.off (synced has b r.step n (overlay has r.writes s))) s
updated_by false b r n s pass u = subst (λ (o : Out). Carries false b (r ∷ []) n o s) (sym (fallen_ok false r.off n (overlay false r.writes s))) (row_plain false b r n s pass refl)
updated_by true b r n s pass u = timed_by b r n s pass u (ltb (s.delays 0) b) refl

body_by : (has : Bool) (b : ℕ) (r : Row) (n : ℕ) (s : Rest) → r.refusal ≡ None → (u : Bool) → r.updates ≡ u →
    Carries has b (r ∷ []) n (cond u (falling has r.off (synced has b r.step n (overlay has r.writes s))) (record { answer = Ok n; rest = overlay has r.writes s })) s
body_by has b r n s pass true u = updated_by has b r n s pass u
body_by has b r n s pass false u = row_plain has b r n s pass (rw u (and-false has))

row_by : (has : Bool) (b : ℕ) (r : Row) (n : ℕ) (s : Rest) (e : Option Refusal) → r.refusal ≡ e →
    Carries has b (r ∷ []) n (tested e n s (cond r.updates (falling has r.off (synced has b r.step n (overlay has r.writes s))) (record { answer = Ok n; rest = overlay has r.writes s }))) s
row_by has b r n s None p = body_by has b r n s p r.updates refl
row_by has b r n s (Some e) p = row_refused has b r n e s p

pub row_carried : (has : Bool) (b : ℕ) (r : Row) (n : ℕ) (s : Rest) → Carries has b (r ∷ []) n (run_row has b r n s) s
row_carried has b r n s =
    subst (λ (z : Rest). Carries has b (r ∷ []) n (tested r.refusal n s (cond r.updates (falling has r.off (synced has b r.step n z)) (record { answer = Ok n; rest = z }))) s)
    (sym (written_is has r.writes s)) (row_by has b r n s r.refusal refl)

end_fields : (has : Bool) (b : ℕ) (xs : List Row) (n k : ℕ) (s m : Rest) → Carried has b xs n (Ok k) s m → m.fields ≡ put_all (writes_of xs) s.fields
end_fields has b xs n k s m (to_the_end p i e x) = x.fields
end_fields has b xs n k s m (to_a_refusal front r back f rows q j fails e y) = cc
end_fields has b xs n k s m (to_a_time_out front r back rows q j none h u late e y) = cc

onward_carried : (has : Bool) (b : ℕ) (xs ys : List Row) (n : ℕ) (s : Rest) (f : ℕ → Rest → Out) →
    ((k : ℕ) (m : Rest) → Carries has b ys k (f k m) m) → (a : Result ℕ Fault) (m : Rest) → Carried has b xs n a s m →
    Carries has b (xs ++ ys) n (onward a m f) s
onward_carried has b xs ys n s f g (Ok k) m p = then has b xs ys n k (f k m).answer s m (f k m).rest p (g k m)
onward_carried has b xs ys n s f g (Err e) m p = stops has b xs ys n e s m p

from_carried : (has : Bool) (b : ℕ) (r : Row) (rs : List Row) (n : ℕ) (s : Rest) → Carries has b (r ∷ rs) n (run_from has b r rs n s) s
from_carried has b r [] n s = row_carried has b r n s
from_carried has b r (q ∷ qs) n s =
    onward_carried has b (r ∷ []) (q ∷ qs) n s (run_from has b q qs) (λ k m. from_carried has b q qs k m) (run_row has b r n s).answer (run_row has b r n s).rest (row_carried has b r n s)

pub run_carried : (has : Bool) (b : ℕ) (rows : List Row) (n : ℕ) (s : Rest) → Carries has b rows n (run has b rows n s) s
run_carried has b [] n s = nothing has b n s
run_carried has b (r ∷ rs) n s = from_carried has b r rs n s

counted_err : {B : Type 0} (k : ℕ) (f : Fault) (r : Result B Fault) → IsErrAnd r (λ e. e ≡ f) → counted k r ≡ Err f
counted_err k f (Ok y) e = absurd e
counted_err k f (Err f2) e = ap (λ (z : Fault). Err z) e

pub is_err : (f : Fault) (a : Result ℕ Fault) → IsErrAnd a (λ e. e ≡ f) → a ≡ Err f
is_err f (Ok k) e = absurd e
is_err f (Err f2) e = ap (λ (z : Fault). Err z) e

-- the table of a part of a call, by what is answered
pub ran_carried : {C A : Type 0} {g : Ghosts C} {x : Properties} {rows : List Row} {u v : Uart C} {r : Result A Fault} {a : Result ℕ Fault} →
    Ran g x rows u r v → a ≡ counted v.reads r → Carried x.has_update u.budget rows u.reads a (rest_of g u) (rest_of g v)
ran_carried {C} {A} {g} {x} {rows} {u} {v} {r} {a} p e =
    subst (λ (o : Out). Carries x.has_update u.budget rows u.reads o (rest_of g u)) (p.ran ∙ ap (λ (z : Result ℕ Fault). record { answer = z; rest = rest_of g v }) (sym e))
    (run_carried x.has_update u.budget rows u.reads (rest_of g u))

-- the table of a part of a call that ends with a fault, which the call passes on
pub ran_failed : {C A : Type 0} {g : Ghosts C} {x : Properties} {rows : List Row} {u v : Uart C} {f : Fault} {a : Result ℕ Fault} →
    Ran {A = A} g x rows u (Err f) v → IsErrAnd a (λ e. e ≡ f) → Carried x.has_update u.budget rows u.reads a (rest_of g u) (rest_of g v)
ran_failed {C} {A} {g} {x} {rows} {u} {v} {f} {a} p e = ran_carried p (is_err f a e)

-- what a call keeps that has set its count to 0
pub kept_by_call : {C : Type 0} {g : Ghosts C} {u v : Uart C} → Kept g (record u { reads = 0 }) v → Kept g u v
kept_by_call k = record { budget = k.budget; raw = k.raw; enabled = k.enabled; count = k.count; arrivals = k.arrivals }

-- a call whose one part ends with a fault, which the call passes on
pub call_failed : {C A : Type 0} {g : Ghosts C} {x : Properties} {rows : List Row} {u v : Uart C} {f : Fault} {a : Result ℕ Fault} →
    Ran {A = A} g x rows (record u { reads = 0 }) (Err f) v → IsErrAnd a (λ e. e ≡ f) → ChangesRest g (Carried x.has_update u.budget rows 0 a) u v
call_failed p e = record { rest = ran_failed p e; kept = kept_by_call p.kept }

-- the fields that a part of a call leaves, if it comes to its end
pub ran_fields : {C A : Type 0} {g : Ghosts C} {x : Properties} {rows : List Row} {u v : Uart C} {y : A} →
    Ran g x rows u (Ok y) v → (rest_of g v).fields ≡ put_all (writes_of rows) (rest_of g u).fields
ran_fields {C} {A} {g} {x} {rows} {u} {v} {y} p = end_fields x.has_update u.budget rows u.reads v.reads (rest_of g u) (rest_of g v) (ran_carried p refl)

onward_nil : (a : Result ℕ Fault) (m : Rest) → onward a m (λ k z. record { answer = Ok k; rest = z }) ≡ record { answer = a; rest = m }
onward_nil (Ok k) m = refl
onward_nil (Err f) m = refl

onward_same : (a : Result ℕ Fault) (m : Rest) (f g : ℕ → Rest → Out) → ((k : ℕ) (z : Rest) → f k z ≡ g k z) → onward a m f ≡ onward a m g
onward_same (Ok k) m f g e = e k m
onward_same (Err e1) m f g e = refl

chain_onward : (a : Result ℕ Fault) (m : Rest) (f g : ℕ → Rest → Out) → chain (onward a m f) g ≡ onward a m (λ k z. chain (f k z) g)
chain_onward (Ok k) m f g = refl
chain_onward (Err e) m f g = refl

from-++ : (has : Bool) (b : ℕ) (r : Row) (rs ys : List Row) (n : ℕ) (s : Rest) → run_from has b r (rs ++ ys) n s ≡ chain (run_from has b r rs n s) (run has b ys)
from-++ has b r [] [] n s = sym (onward_nil (run_row has b r n s).answer (run_row has b r n s).rest)
from-++ has b r [] (y ∷ ys) n s = refl
from-++ has b r (q ∷ qs) ys n s =
    onward_same (run_row has b r n s).answer (run_row has b r n s).rest (run_from has b q (qs ++ ys)) (λ k z. chain (run_from has b q qs k z) (run has b ys)) (from-++ has b q qs ys) ∙
    sym (chain_onward (run_row has b r n s).answer (run_row has b r n s).rest (run_from has b q qs) (run has b ys))

run-++ : (has : Bool) (b : ℕ) (xs ys : List Row) (n : ℕ) (s : Rest) → run has b (xs ++ ys) n s ≡ chain (run has b xs n s) (run has b ys)
run-++ has b [] ys n s = refl
run-++ has b (x ∷ xs) ys n s = from-++ has b x xs ys n s

kept_then : {C : Type 0} {g : Ghosts C} {u v w : Uart C} → Kept g u v → Kept g v w → Kept g u w
kept_then p q = record {
  budget = q.budget ∙ p.budget;
  raw = q.raw ∙ p.raw;
  enabled = q.enabled ∙ p.enabled;
  count = q.count ∙ p.count;
  arrivals = q.arrivals ∙ p.arrivals;
}

-- one part of a call and then another
pub ran_then : {C A B : Type 0} {g : Ghosts C} {x : Properties} {xs ys : List Row} {u v w : Uart C} {y : A} {r : Result B Fault} →
    Ran g x xs u (Ok y) v → Ran g x ys v r w → Ran g x (xs ++ ys) u r w
ran_then {C} {A} {B} {g} {x} {xs} {ys} {u} {v} {w} {y} {r} p q = record {
  ran = run-++ x.has_update u.budget xs ys u.reads (rest_of g u) ∙
      (ap (λ (o : Out). chain o (run x.has_update u.budget ys)) p.ran ∙ (ap (λ (b : ℕ). run x.has_update b ys v.reads (rest_of g v)) (sym p.kept.budget) ∙ q.ran));
  kept = kept_then p.kept q.kept;
  few = omega (arith, length-append xs ys, p.few, q.few);
}

-- a part of a call that ends with a fault: what was to follow does not
pub ran_stops : {C A B : Type 0} {g : Ghosts C} {x : Properties} {xs : List Row} (ys : List Row) {u v : Uart C} {f : Fault} {r : Result B Fault} →
    Ran {A = A} g x xs u (Err f) v → IsErrAnd r (λ e. e ≡ f) → Ran g x (xs ++ ys) u r v
ran_stops {C} {A} {B} {g} {x} {xs} ys {u} {v} {f} {r} p e = record {
  ran = run-++ x.has_update u.budget xs ys u.reads (rest_of g u) ∙ (ap (λ (o : Out). chain o (run x.has_update u.budget ys)) p.ran ∙
      ap (λ (z : Result ℕ Fault). record { answer = z; rest = rest_of g v }) (sym (counted_err v.reads f r e)));
  kept = p.kept;
  few = omega (arith, length-append xs ys, p.few);
}
