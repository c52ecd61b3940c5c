-- The turn of a task on a thread, one record on.
use Rattle.std.proofs.Common.{◌≡◌, ◌≢◌, ◌∙◌, ℕ, ◌<◌, ◌+◌, List, [], ◌∷◌, ◌++◌, length, get_or, take, cond}
use Rattle.std.proofs.Common.{refl, sym, ap}
use Rattle.std.proofs.lemmas.Bool.{eq-eqb, ne_eqb}
use Rattle.std.proofs.lemmas.List.Sums.{fold_push}
use Rattle.std.proofs.lemmas.List.{append-nil}
use Rattle.std.proofs.lemmas.List.Elements.{filter_more}
use Rattle.std.specs.Prelude.{◌==◌, filter, fold}
use Rattle.ompt_events.specs.declared.records.Record.{Record}
use Rattle.ompt_events.specs.Turns.{turn_after, turn_in}

pub turn_own : (rs : List Record) (i : ℕ) (r : Record) (task : ℕ) → i < length rs → r ≡ get_or rs i r
    → turn_in task (filter (λ q. q.thread == r.thread) (take (i + 1) rs))
    ≡ turn_after task (turn_in task (filter (λ q. q.thread == r.thread) (take i rs))) r
turn_own rs i r task within read =
    ap (fold (turn_after task) 0)
    (filter_more (λ q. q.thread == r.thread) rs i r within
    ∙ ap
    (λ q.
    filter (λ p. p.thread == r.thread) (take i rs) ++ cond (q.thread == r.thread) (q ∷ []) [])
    (sym read)
    ∙ ap (λ b. filter (λ p. p.thread == r.thread) (take i rs) ++ cond b (r ∷ []) [])
    (eq-eqb r.thread r.thread refl))
    ∙ fold_push (turn_after task) 0 (filter (λ p. p.thread == r.thread) (take i rs)) r

pub turn_other : (rs : List Record) (i : ℕ) (r : Record) (thread task : ℕ) → i < length rs → r ≡ get_or rs i r
    → thread ≢ r.thread
    → turn_in task (filter (λ q. q.thread == thread) (take (i + 1) rs))
    ≡ turn_in task (filter (λ q. q.thread == thread) (take i rs))
turn_other rs i r thread task within read apart =
    ap (fold (turn_after task) 0)
    (filter_more (λ q. q.thread == thread) rs i r within
    ∙ ap (λ q. filter (λ p. p.thread == thread) (take i rs) ++ cond (q.thread == thread) (q ∷ []) [])
    (sym read)
    ∙ ap (λ b. filter (λ p. p.thread == thread) (take i rs) ++ cond b (r ∷ []) [])
    (ne_eqb r.thread thread (λ e. apart (sym e)))
    ∙ append-nil (filter (λ p. p.thread == thread) (take i rs)))
