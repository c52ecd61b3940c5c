-- The moves of a task in three parts: some fulfilments first, and what ends the task last.
use Rattle.std.proofs.Common.{ℕ, zero, suc, ◌≡◌, ◌∙◌, ◌⊎◌, ◌<◌, ◌≤◌, List, [], ◌∷◌, ◌++◌, Bool, true, false}
use Rattle.std.proofs.Common.{Option, Some, None, refl, sym, ap, arith, inl, inr, cond}
use Rattle.std.specs.Prelude.{◌&&◌, not}
use Rattle.std.proofs.lemmas.Bool.{cases_Bool}
use Rattle.std.proofs.lemmas.List.{append_assoc, append-nil}
use Rattle.std.proofs.lemmas.Option.{none-some}
use Rattle.ompt_events.specs.declared.state.State.{State}
use Rattle.ompt_events.specs.declared.state.State.TheVariants.{Done}
use Rattle.ompt_events.specs.States.{Move, state_after, is_apart}
use Rattle.ompt_events.specs.States as states
use Rattle.scripts.proofs.MoveWords.{state_by, by_append, by_none, early, early_first, apart_done, done_ends}

-- the moves of the first n steps, and of those among them that pass
abbrev pub all_moves : (ℕ → List Move) → ℕ → List Move
all_moves moves zero = []
all_moves moves (suc n) = all_moves moves n ++ moves n

abbrev pub part : (ℕ → Bool) → (ℕ → List Move) → ℕ → List Move
part passes moves n = all_moves (λ k. cond (passes k) (moves k) []) n

abbrev pub rest_of : (ℕ → Bool) → (ℕ → Bool) → ℕ → Bool
rest_of front back n = not (front n) && not (back n)

-- what is asked of the parts: a step makes at most one move; those in front are fulfilments ahead of the
-- body's end, and those behind end the task
pub record AreParts (moves : ℕ → List Move) (front back : ℕ → Bool) (end : ℕ) : Type 0 where
  pub one : (n : ℕ) → n < end → (moves n ≡ []) ⊎ ((m : Move) × (moves n ≡ m ∷ []))
  pub in_front : (n : ℕ) (m : Move) → n < end → moves n ≡ m ∷ [] → front n ≡ true → m ≡ early
  pub behind : (n : ℕ) (m : Move) → n < end → moves n ≡ m ∷ [] → back n ≡ true → is_apart m ≡ true
  pub not_both : (n : ℕ) → n < end → front n ≡ true → back n ≡ false

-- read so, they lead to the same state
pub record IsRead (kind : states.Nature) (from : State) (moves : ℕ → List Move) (front back : ℕ → Bool)
    (n : ℕ)
    (st : State) : Type 0 where
  pub is : state_by kind (Some from)
      (part front moves n ++ (part (rest_of front back) moves n ++ part back moves n)) ≡ Some st
  pub last : (part back moves n ≡ []) ⊎ (st ≡ Done)

pub none_added : (passes : ℕ → Bool) (moves : ℕ → List Move) (n : ℕ) → cond (passes n) (moves n) [] ≡ []
    → part passes moves (suc n) ≡ part passes moves n
none_added passes moves n none = ap (λ l. part passes moves n ++ l) none ∙ append-nil (part passes moves n)

pub read_parts : (kind : states.Nature) (from : State) (moves : ℕ → List Move) (front back : ℕ → Bool)
    (end n : ℕ) → AreParts moves front back end → n ≤ end
    → ((k : ℕ) → k ≤ end → (st : State) × (state_by kind (Some from) (all_moves moves k) ≡ Some st))
    → (st : State) × (state_by kind (Some from) (all_moves moves n) ≡ Some st)
    × IsRead kind from moves front back n st
read_parts kind from moves front back end zero parts within states_are =
    (from, refl, record { is = refl; last = inl refl })
read_parts kind from moves front back end (suc n) parts within states_are =
    let (st, so_far, read) =
    read_parts kind from moves front back end n parts (omega (arith, within)) states_are in
    let (next, next_is) = states_are (suc n) within in
    elim (parts.one n (omega (arith, within))) [
      | inl none ↦ (
        st,
        ap (λ l. state_by kind (Some from) (all_moves moves n ++ l)) none
            ∙ ap (state_by kind (Some from)) (append-nil (all_moves moves n)) ∙ so_far,
        idle none st read,
      )
      | inr (m, one) ↦
          let moved : state_after kind (Some st) (0, m) ≡ Some next =
          sym
          (ap (λ l. state_by kind (Some from) (all_moves moves n ++ l)) one
          ∙ by_append kind (Some from) (all_moves moves n) (m ∷ [])
          ∙ ap (λ o. state_after kind o (0, m)) so_far) ∙ next_is in
          (next, next_is, goes m one st next moved read)
    ]
  where
    inside : n < end
    inside = omega (arith, within)

    middle : ℕ → Bool
    middle = rest_of front back

    F : List Move
    F = part front moves n

    M : List Move
    M = part middle moves n

    B : List Move
    B = part back moves n

    passes_none : (b : Bool) → moves n ≡ [] → cond b (moves n) [] ≡ []
    passes_none true none = none
    passes_none false none = refl

    idle : moves n ≡ [] → (st : State) → IsRead kind from moves front back n st
        → IsRead kind from moves front back (suc n) st
    idle none st read = record {
      is =
          ap
          (λ l. state_by kind (Some from)
          (l ++ (part middle moves (suc n) ++ part back moves (suc n))))
          (none_added front moves n (passes_none (front n) none))
          ∙ ap (λ l. state_by kind (Some from) (F ++ (l ++ part back moves (suc n))))
          (none_added middle moves n (passes_none (middle n) none))
          ∙ ap (λ l. state_by kind (Some from) (F ++ (M ++ l)))
          (none_added back moves n (passes_none (back n) none))
          ∙ read.is;
      last = elim read.last [
        | inl empty ↦ inl (none_added back moves n (passes_none (back n) none) ∙ empty)
        | inr done ↦ inr done
      ];
    }

    -- a task that is done makes no move
    not_done : (m : Move) (st next : State) → state_after kind (Some st) (0, m) ≡ Some next → st ≡ Done → ⊥
    not_done m st next moved done =
        none-some next
        (sym (done_ends kind m) ∙ sym (ap (λ s. state_after kind (Some s) (0, m)) done) ∙ moved)

    -- what the parts become
    shape : (f b : Bool) → front n ≡ f → back n ≡ b → (m : Move) → moves n ≡ m ∷ []
        → (part front moves (suc n) ≡ F ++ cond f (m ∷ []) [])
        × (part middle moves (suc n) ≡ M ++ cond (not f && not b) (m ∷ []) [])
        × (part back moves (suc n) ≡ B ++ cond b (m ∷ []) [])
    shape f b front_is back_is m one = (
      ap (λ l. F ++ cond (front n) l []) one ∙ ap (λ x. F ++ cond x (m ∷ []) []) front_is,
      ap (λ l. M ++ cond (middle n) l []) one
          ∙ ap (λ x. M ++ cond (not x && not (back n)) (m ∷ []) []) front_is
          ∙ ap (λ x. M ++ cond (not f && not x) (m ∷ []) []) back_is,
      ap (λ l. B ++ cond (back n) l []) one ∙ ap (λ x. B ++ cond x (m ∷ []) []) back_is,
    )

    -- without a last part so far
    joined : (st : State) → IsRead kind from moves front back n st → B ≡ []
        → state_by kind (Some from) (F ++ M) ≡ Some st
    joined st read empty =
        ap (λ l. state_by kind (Some from) (F ++ l)) (sym (append-nil M) ∙ ap (λ l. M ++ l) (sym empty))
        ∙ read.is

    -- a fulfilment goes to the front
    ahead : (m : Move) (st next : State) → state_after kind (Some st) (0, m) ≡ Some next → m ≡ early
        → state_by kind (Some from) (F ++ M) ≡ Some st
        → state_by kind (Some from) ((F ++ m ∷ []) ++ M) ≡ Some next
    ahead m st next moved is_early so_far =
        by (state_by kind (Some from) F) refl
      where
        by : (o : Option State) → state_by kind (Some from) F ≡ o
            → state_by kind (Some from) ((F ++ m ∷ []) ++ M) ≡ Some next
        by None none =
            absurd
            (none-some st
            (sym (by_append kind (Some from) F M ∙ ap (λ x. state_by kind x M) none ∙ by_none kind M)
            ∙ so_far))
        by (Some first) some =
            ap (state_by kind (Some from)) (append_assoc F (m ∷ []) M)
            ∙ by_append kind (Some from) F (m ∷ M) ∙ ap (λ x. state_by kind x (m ∷ M)) some
            ∙ ap (λ x. state_by kind (Some first) (x ∷ M)) is_early
            ∙ early_first kind first next M
            (by_append kind (Some first) M (early ∷ [])
            ∙ ap (λ x. state_after kind x (0, early))
            (sym (by_append kind (Some from) F M ∙ ap (λ x. state_by kind x M) some) ∙ so_far)
            ∙ ap (λ x. state_after kind (Some st) (0, x)) (sym is_early) ∙ moved)

    goes : (m : Move) → moves n ≡ m ∷ [] → (st next : State) → state_after kind (Some st) (0, m) ≡ Some next
        → IsRead kind from moves front back n st → IsRead kind from moves front back (suc n) next
    goes m one st next moved read = elim (cases_Bool (front n)) [
      | inl is_front ↦
          let is_back = parts.not_both n inside is_front in
          let (f_is, m_is, b_is) = shape true false is_front is_back m one in
          elim read.last [
            | inr done ↦ absurd (not_done m st next moved done)
            | inl empty ↦ record {
              is =
                  ap (λ l. state_by kind (Some from)
                  (l ++ (part middle moves (suc n) ++ part back moves (suc n))))
                  f_is
                  ∙ ap (λ l. state_by kind (Some from) ((F ++ m ∷ []) ++ (l ++ part back moves (suc n))))
                  (m_is ∙ append-nil M)
                  ∙ ap (λ l. state_by kind (Some from) ((F ++ m ∷ []) ++ (M ++ l)))
                  (b_is ∙ append-nil B ∙ empty)
                  ∙ ap (λ l. state_by kind (Some from) ((F ++ m ∷ []) ++ l)) (append-nil M)
                  ∙ ahead m st next moved (parts.in_front n m inside one is_front) (joined st read empty);
              last = inl (b_is ∙ append-nil B ∙ empty);
            }
          ]
      | inr not_front ↦ elim (cases_Bool (back n)) [
        | inl is_back ↦
            let (f_is, m_is, b_is) = shape false true not_front is_back m one in
            record {
              is =
                  ap (λ l. state_by kind (Some from)
                  (l ++ (part middle moves (suc n) ++ part back moves (suc n))))
                  (f_is ∙ append-nil F)
                  ∙ ap (λ l. state_by kind (Some from) (F ++ (l ++ part back moves (suc n))))
                  (m_is ∙ append-nil M)
                  ∙ ap (λ l. state_by kind (Some from) (F ++ (M ++ l))) b_is
                  ∙ ap (λ l. state_by kind (Some from) (F ++ l)) (sym (append_assoc M B (m ∷ [])))
                  ∙ ap (state_by kind (Some from)) (sym (append_assoc F (M ++ B) (m ∷ [])))
                  ∙ by_append kind (Some from) (F ++ (M ++ B)) (m ∷ [])
                  ∙ ap (λ o. state_after kind o (0, m)) read.is ∙ moved;
              last = inr (apart_done kind st next m (parts.behind n m inside one is_back) moved);
            }
        | inr not_back ↦
            let (f_is, m_is, b_is) = shape false false not_front not_back m one in
            elim read.last [
              | inr done ↦ absurd (not_done m st next moved done)
              | inl empty ↦ record {
                is =
                    ap (λ l. state_by kind (Some from)
                    (l ++ (part middle moves (suc n) ++ part back moves (suc n))))
                    (f_is ∙ append-nil F)
                    ∙ ap (λ l. state_by kind (Some from) (F ++ (l ++ part back moves (suc n)))) m_is
                    ∙ ap (λ l. state_by kind (Some from) (F ++ ((M ++ m ∷ []) ++ l)))
                    (b_is ∙ append-nil B ∙ empty)
                    ∙ ap (λ l. state_by kind (Some from) (F ++ l)) (append-nil (M ++ m ∷ []))
                    ∙ ap (state_by kind (Some from)) (sym (append_assoc F M (m ∷ [])))
                    ∙ by_append kind (Some from) (F ++ M) (m ∷ [])
                    ∙ ap (λ o. state_after kind o (0, m)) (joined st read empty) ∙ moved;
                last = inl (b_is ∙ append-nil B ∙ empty);
              }
            ]
      ]
    ]
