-- The walk along each thread, one record on.
use Rattle.std.proofs.Common.{◌≡◌, ◌≢◌, ◌∙◌, ℕ, ◌<◌, ◌+◌, List, [], ◌∷◌, ◌++◌, length, get_or, take, cond}
use Rattle.std.proofs.Common.{refl, sym, ap, inl, inr}
use Rattle.std.proofs.lemmas.Bool.{cases_eq, eq-eqb, ne_eqb}
use Rattle.std.proofs.lemmas.List.Sums.{fold_push}
use Rattle.std.proofs.lemmas.List.{append-nil, length-set, length-replicate, get_or-replicate}
use Rattle.std.proofs.lemmas.List.{get_or-set_same, get_or-set_other, get_or_default}
use Rattle.std.proofs.lemmas.List.Elements.{filter_more}
use Rattle.std.specs.Prelude.{◌==◌, filter, fold, replicate}
use Rattle.std.proofs.Math.ListN.{set}
use Rattle.ompt_events.specs.declared.records.Record.{Record}
use Rattle.ompt_events.specs.Threads.{Walk, at_start, after_record, walk_of}

-- where each thread stands after the first i records
pub record AreWalks (rs : List Record) (i : ℕ) (walks : List Walk) : Type 0 where
  pub all : length walks ≡ 256
  pub each : (thread : ℕ) → thread < 256 → get_or walks thread at_start ≡ walk_of thread (take i rs)

-- none has begun
pub walks_none : (rs : List Record) → AreWalks rs 0 (replicate 256 at_start)
walks_none rs = record {
  all = length-replicate 256 at_start;
  each = λ thread below. get_or-replicate 256 thread at_start at_start below;
}

walk_own : (rs : List Record) (i : ℕ) (r : Record) → i < length rs → r ≡ get_or rs i r
    → walk_of r.thread (take (i + 1) rs) ≡ after_record (walk_of r.thread (take i rs)) r
walk_own rs i r within read =
    ap (fold after_record at_start)
    (filter_more (λ q. q.thread == r.thread) rs i r within
    ∙ ap
    (λ q.
    filter (λ p. p.thread == r.thread) (take i rs) ++ cond (q.thread == r.thread) (q ∷ []) [])
    (sym read)
    ∙ ap (λ b. filter (λ p. p.thread == r.thread) (take i rs) ++ cond b (r ∷ []) [])
    (eq-eqb r.thread r.thread refl))
    ∙ fold_push after_record at_start (filter (λ p. p.thread == r.thread) (take i rs)) r

walk_other : (rs : List Record) (i : ℕ) (r : Record) (thread : ℕ) → i < length rs → r ≡ get_or rs i r
    → thread ≢ r.thread → walk_of thread (take (i + 1) rs) ≡ walk_of thread (take i rs)
walk_other rs i r thread within read apart =
    ap (fold after_record at_start)
    (filter_more (λ q. q.thread == thread) rs i r within
    ∙ ap (λ q. filter (λ p. p.thread == thread) (take i rs) ++ cond (q.thread == thread) (q ∷ []) [])
    (sym read)
    ∙ ap (λ b. filter (λ p. p.thread == thread) (take i rs) ++ cond b (r ∷ []) [])
    (ne_eqb r.thread thread (λ e. apart (sym e)))
    ∙ append-nil (filter (λ p. p.thread == thread) (take i rs)))

-- the record's thread goes on by it, and the others stay
pub walks_more : (rs : List Record) (i : ℕ) (r : Record) (old new : List Walk) → i < length rs
    → r ≡ get_or rs i r → r.thread < 256 → AreWalks rs i old
    → new ≡ set old r.thread (after_record (get_or old r.thread at_start) r) → AreWalks rs (i + 1) new
walks_more rs i r old new within read low walks is = record {
  all = ap length is ∙ length-set old r.thread (after_record (get_or old r.thread at_start) r) ∙ walks.all;
  each = λ thread below. elim (cases_eq thread r.thread) [
    | inl same ↦
        ap (λ ws. get_or ws thread at_start) is
        ∙ ap
        (λ t. get_or (set old r.thread (after_record (get_or old r.thread at_start) r)) t at_start)
        same
        ∙ get_or-set_same old r.thread (after_record (get_or old r.thread at_start) r) at_start
        (rw walks.all low)
        ∙ ap (λ w. after_record w r) (walks.each r.thread low)
        ∙ sym (walk_own rs i r within read) ∙ ap (λ t. walk_of t (take (i + 1) rs)) (sym same)
    | inr apart ↦
        ap (λ ws. get_or ws thread at_start) is
        ∙ get_or-set_other old r.thread thread (after_record (get_or old r.thread at_start) r) at_start
        apart
        ∙ walks.each thread below ∙ sym (walk_other rs i r thread within read apart)
  ];
}

-- the walk that was read is that of its thread
pub walk_is : (walks : List Walk) (thread : ℕ) (walk : Walk) → thread < length walks
    → walk ≡ get_or walks thread walk → walk ≡ get_or walks thread at_start
walk_is walks thread walk within read = read ∙ get_or_default walks thread walk at_start within
