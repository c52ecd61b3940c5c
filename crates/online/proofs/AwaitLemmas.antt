-- Dependences stand in their place where each record lists what its thread awaits.
use Rattle.std.proofs.Common.{◌≡◌, ◌≢◌, ◌∙◌, ℕ, zero, suc, ◌<◌, ◌≤◌, ◌+◌, ◌-◌, ◌⊎◌, List, [], ◌∷◌, ◌++◌}
use Rattle.std.proofs.Common.{length, take, cond, Bool, true, false, Option, Some, None, refl, sym, ap, subst}
use Rattle.std.proofs.Common.{arith, inl, inr, add-one}
use Rattle.std.specs.Prelude.{◌↔◌, is_some, ◌==◌, slice_get, option_map, filter, fold, if◌then◌else◌}
use Rattle.std.proofs.lemmas.Bool.{cases_eq, cases_lt, eq-eqb, ne_eqb}
use Rattle.std.proofs.lemmas.Option.{none-some, same_Some, slice_get_within}
use Rattle.std.proofs.lemmas.List.{append-nil, take_all}
use Rattle.std.proofs.lemmas.List.Elements.{filter-append}
use Rattle.std.proofs.lemmas.List.Sums.{fold_push}
use Rattle.ompt_events.specs.declared.records.Record.{Record}
use Rattle.ompt_events.specs.declared.deps.Dep.{Dep}
use Rattle.ompt_events.specs.declared.cause.Cause.TheVariants.{DepsPlace}
use Rattle.ompt_events.specs.Records.{created_with_deps, dependences}
use Rattle.ompt_events.specs.Places.{at, thread_at}
use Rattle.ompt_events.specs.Causes.{IsFreeOf, IsNextInThread, AreFollowed, deps_place, stray, missing}
use Rattle.ompt_events.proofs.ListLemmas.{get_within}
use Rattle.ompt_events.proofs.PlaceLemmas.{at_get, at_within, thread_get, some_of}
use Rattle.online.proofs.PassLemmas.{first_more}
use Rattle.online.specs.Online.{awaited_by, EachRecord, ListsAwaited, NoneAwaited}

-- ---- what a thread awaits, with one record more

-- what its last record creates, if that is one of the thread's
pub awaited_push : (rs : List Record) (r : Record) (thread : ℕ)
    → awaited_by thread (rs ++ r ∷ [])
    ≡ (if r.thread == thread then created_with_deps r.body else awaited_by thread rs)
awaited_push rs r thread =
    ap (fold (λ (before : Option ℕ) (q : Record). created_with_deps q.body) None)
    (filter-append (λ (q : Record). q.thread == thread) rs (r ∷ [])) ∙ of (r.thread == thread)
  where
    of : (b : Bool)
        → fold (λ (before : Option ℕ) (q : Record). created_with_deps q.body) None
        (filter (λ (q : Record). q.thread == thread) rs ++ cond b (r ∷ []) [])
        ≡ (if b then created_with_deps r.body else awaited_by thread rs)
    of true = fold_push (λ (before : Option ℕ) (q : Record). created_with_deps q.body) None
        (filter (λ (q : Record). q.thread == thread) rs) r
    of false = ap (fold (λ (before : Option ℕ) (q : Record). created_with_deps q.body) None)
        (append-nil (filter (λ (q : Record). q.thread == thread) rs))

awaited_more : (rs : List Record) (n thread : ℕ) (r : Record) → slice_get rs n ≡ Some r
    → awaited_by thread (take (n + 1) rs)
    ≡ (if r.thread == thread then created_with_deps r.body else awaited_by thread (take n rs))
awaited_more rs n thread r here =
    ap (awaited_by thread) (sym (first_more rs n r here)) ∙ awaited_push (take n rs) r thread

awaited_own : (rs : List Record) (n : ℕ) (r : Record) → slice_get rs n ≡ Some r
    → awaited_by r.thread (take (n + 1) rs) ≡ created_with_deps r.body
awaited_own rs n r here =
    awaited_more rs n r.thread r here
    ∙ ap (λ b. if b then created_with_deps r.body else awaited_by r.thread (take n rs))
    (eq-eqb r.thread r.thread refl)

awaited_other : (rs : List Record) (n thread : ℕ) (r : Record) → slice_get rs n ≡ Some r
    → r.thread ≢ thread → awaited_by thread (take (n + 1) rs) ≡ awaited_by thread (take n rs)
awaited_other rs n thread r here apart =
    awaited_more rs n thread r here
    ∙ ap (λ b. if b then created_with_deps r.body else awaited_by thread (take n rs))
    (ne_eqb r.thread thread apart)

-- ---- the last record of a thread among the first n

pub record IsLast (rs : List Record) (n thread a : ℕ) : Type 0 where
  pub below : a < n
  pub of_it : thread_at rs a ≡ Some thread
  pub none : (k : ℕ) → a < k → k < n → thread_at rs k ≢ Some thread

last_more : (rs : List Record) (n thread a : ℕ) → IsLast rs n thread a → thread_at rs n ≢ Some thread
    → IsLast rs (n + 1) thread a
last_more rs n thread a last apart = record {
  below = let below = last.below in omega (arith, below);
  of_it = last.of_it;
  none = λ k low high is. elim (cases_lt k n) [
    | inl less ↦ last.none k low less is
    | inr most ↦ let same : k ≡ n = omega (arith, high, most) in apart (sym (ap (thread_at rs) same) ∙ is)
  ];
}

last_here : (rs : List Record) (n : ℕ) (r : Record) → slice_get rs n ≡ Some r → IsLast rs (n + 1) r.thread n
last_here rs n r here = record {
  below = omega arith;
  of_it = thread_get rs n r here;
  none = λ k low high is. absurd (omega (arith, low, high));
}

-- what a thread awaits its last record creates
pub awaited_last : (rs : List Record) (n thread task : ℕ) → n ≤ length rs
    → awaited_by thread (take n rs) ≡ Some task
    → (a : ℕ) × IsLast rs n thread a × (at created_with_deps rs a ≡ Some task)
awaited_last rs zero thread task low is = absurd (none-some task is)
awaited_last rs (suc n) thread task low is =
    let (r, here) = get_within rs n (omega (arith, low)) in
    let P : ℕ → Type 0 =
    λ m. (a : ℕ) × IsLast rs m thread a × (at created_with_deps rs a ≡ Some task) in
    let awaits : awaited_by thread (take (n + 1) rs) ≡ Some task =
    ap (λ m. awaited_by thread (take m rs)) (add-one n) ∙ is in
    subst P (add-one n) (elim (cases_eq r.thread thread) [
      | inl same ↦ (
        n,
        subst (λ t. IsLast rs (n + 1) t n) same (last_here rs n r here),
        at_get created_with_deps rs n r here ∙ sym (awaited_own rs n r here)
            ∙ ap (λ t. awaited_by t (take (n + 1) rs)) same ∙ awaits,
      )
      | inr apart ↦
          let found =
          awaited_last rs n thread task (omega (arith, low))
          (sym (awaited_other rs n thread r here apart) ∙ awaits) in (
            found.0,
            last_more rs n thread found.0 found.1
                (λ is'. apart (same_Some r.thread thread (sym (thread_get rs n r here) ∙ is'))),
            found.2,
          )
    ])

-- and what its last record creates it awaits
last_awaited : (rs : List Record) (n thread a : ℕ) → n ≤ length rs → IsLast rs n thread a
    → awaited_by thread (take n rs) ≡ at created_with_deps rs a
last_awaited rs zero thread a low last = absurd (let below = last.below in omega (arith, below))
last_awaited rs (suc n) thread a low last =
    let (r, here) = get_within rs n (omega (arith, low)) in
    ap (λ m. awaited_by thread (take m rs)) (sym (add-one n)) ∙ elim (cases_lt a n) [
      | inl less ↦
          awaited_other rs n thread r here
          (λ same. last.none n less (omega arith) (thread_get rs n r here ∙ ap Some same))
          ∙ last_awaited rs n thread a (omega (arith, low)) (record {
            below = less;
            of_it = last.of_it;
            none = λ k behind before. last.none k behind (omega (arith, before));
          })
      | inr most ↦
          let same : n ≡ a = let below = last.below in omega (arith, below, most) in
          let own : r.thread ≡ thread =
          same_Some r.thread thread (sym (thread_get rs n r here) ∙ ap (thread_at rs) same ∙ last.of_it) in
          ap (λ t. awaited_by t (take (n + 1) rs)) (sym own) ∙ awaited_own rs n r here
          ∙ sym (at_get created_with_deps rs n r here) ∙ ap (at created_with_deps rs) same
    ]

-- a record is the last before the next one of its thread
last_before : (rs : List Record) (a b : ℕ) (r : Record) → IsNextInThread rs a b → slice_get rs b ≡ Some r
    → IsLast rs b r.thread a
last_before rs a b r next here =
    let own : thread_at rs a ≡ Some r.thread = next.same_thread ∙ thread_get rs b r here in
    record {
      below = next.later;
      of_it = own;
      none = λ k low high is. next.next k low high (is ∙ sym own);
    }

-- behind a record its thread has a next one, or it is the last
next_or_last : (rs : List Record) (thread a left n : ℕ) → n + left ≡ length rs → IsLast rs n thread a
    → ((b : ℕ) × IsNextInThread rs a b) ⊎ IsLast rs (length rs) thread a
next_or_last rs thread a zero n all last =
    let whole : n ≡ length rs = omega (arith, all) in
    inr (subst (λ m. IsLast rs m thread a) whole last)
next_or_last rs thread a (suc left) n all last =
    let (r, here) = get_within rs n (omega (arith, all)) in
    elim (cases_eq r.thread thread) [
      | inl same ↦
          inl (
            n,
            record {
              later = last.below;
              within = omega (arith, all);
              same_thread = last.of_it ∙ sym (thread_get rs n r here ∙ ap Some same);
              next = λ k low high is. last.none k low high (is ∙ last.of_it);
            },
          )
      | inr apart ↦
          next_or_last rs thread a left (n + 1) (omega (arith, all))
          (last_more rs n thread a last
          (λ is. apart (same_Some r.thread thread (sym (thread_get rs n r here) ∙ is))))
    ]

-- ---- no list of dependences is misplaced

list_of : (task : ℕ) (o : Option (ℕ × List Dep)) → option_map (λ (d : ℕ × List Dep). d.0) o ≡ Some task
    → (items : List Dep) × (o ≡ Some (task, items))
list_of task None is = absurd (none-some task is)
list_of task (Some (own, items)) is = (items, ap (λ t. Some (t, items)) (same_Some own task is))

-- a list follows the creation of its task
pub list_follows : (rs : List Record) → EachRecord ListsAwaited rs → (i task : ℕ) (items : List Dep)
    → at dependences rs i ≡ Some (task, items) → (a : ℕ) × AreFollowed rs a i
list_follows rs lists_each i task items says =
    let below = at_within dependences rs i (task, items) says in
    let (r, here) = get_within rs i below in
    let lists : dependences r.body ≡ Some (task, items) = sym (at_get dependences rs i r here) ∙ says in
    let awaits : awaited_by r.thread (take i rs) ≡ Some task =
    sym (lists_each i r here) ∙ ap (option_map (λ (d : ℕ × List Dep). d.0)) lists in
    let (a, last, creates) = awaited_last rs i r.thread task (omega (arith, below)) awaits in (
      a,
      record {
        task = task;
        items = items;
        is_created = creates;
        listed = says;
        next = record {
          later = last.below;
          within = below;
          same_thread = last.of_it ∙ sym (thread_get rs i r here);
          next = λ k low high is. last.none k low high (is ∙ last.of_it);
        };
      },
    )

-- a creation with dependences that its thread goes on from is followed by their list
creation_followed : (rs : List Record) → EachRecord ListsAwaited rs → (a b task : ℕ)
    → at created_with_deps rs a ≡ Some task → IsNextInThread rs a b → AreFollowed rs a b
creation_followed rs lists_each a b task creates next =
    let (r, here) = get_within rs b next.within in
    let inside = next.within in
    let awaits : awaited_by r.thread (take b rs) ≡ Some task =
    last_awaited rs b r.thread a (omega (arith, inside)) (last_before rs a b r next here) ∙ creates in
    let (items, lists) =
    list_of task (dependences r.body) (lists_each b r here ∙ awaits) in
    record {
      task = task;
      items = items;
      is_created = creates;
      listed = at_get dependences rs b r here ∙ lists;
      next = next;
    }

pub none_misplaced : (rs : List Record) → EachRecord ListsAwaited rs → NoneAwaited rs → IsFreeOf rs DepsPlace
none_misplaced rs lists_each none i (deps_place (stray lists alone)) =
    let ((task, items), says) = some_of (at dependences rs i) lists in
    let found = list_follows rs lists_each i task items says in alone found.0 found.1
none_misplaced rs lists_each none i (deps_place (missing creates alone)) =
    let (task, says) = some_of (at created_with_deps rs i) creates in
    let below = at_within created_with_deps rs i task says in
    let (r, here) = get_within rs i below in
    elim (next_or_last rs r.thread i (length rs - (i + 1)) (i + 1) (omega (arith, below))
    (last_here rs i r here)) [
      | inl found ↦ alone found.0 (creation_followed rs lists_each i found.0 task says found.1)
      | inr last ↦
          let awaits = last_awaited rs (length rs) r.thread i (omega arith) last in
          let whole = take_all (length rs) rs (omega arith) in
          none-some task (sym (none r.thread) ∙ sym (ap (awaited_by r.thread) whole) ∙ awaits ∙ says)
    ]

-- ---- and where none is misplaced, each record lists what its thread awaits

-- a list that follows the creation of its task is awaited
followed_awaited : (rs : List Record) (a i : ℕ) (r : Record) (own : ℕ) (items : List Dep)
    → slice_get rs i ≡ Some r → dependences r.body ≡ Some (own, items) → AreFollowed rs a i
    → awaited_by r.thread (take i rs) ≡ Some own
followed_awaited rs a i r own items here says is =
    let within = slice_get_within rs i r here in
    let same : is.task ≡ own =
    ap (λ (d : ℕ × List Dep). d.0)
    (same_Some (is.task, is.items) (own, items) (sym is.listed ∙ at_get dependences rs i r here ∙ says)) in
    last_awaited rs i r.thread a (omega (arith, within)) (last_before rs a i r is.next here)
    ∙ is.is_created ∙ ap Some same

-- a list that follows the last creation of a thread is that of its next record
followed_here : (rs : List Record) (a b i : ℕ) (r : Record) → slice_get rs i ≡ Some r
    → IsLast rs i r.thread a → AreFollowed rs a b → b ≡ i
followed_here rs a b i r here last is =
    let own : thread_at rs b ≡ Some r.thread = sym is.next.same_thread ∙ last.of_it in
    elim (cases_lt b i) [
      | inl less ↦ absurd (last.none b is.next.later less own)
      | inr most ↦ elim (cases_lt i b) [
        | inl less ↦ absurd (is.next.next i last.below less (thread_get rs i r here ∙ sym last.of_it))
        | inr least ↦ omega (arith, most, least)
      ]
    ]

placed_each : (rs : List Record) → IsFreeOf rs DepsPlace → EachRecord ListsAwaited rs
placed_each rs free i r here =
    of (dependences r.body) refl (awaited_by r.thread (take i rs)) refl
  where
    no_list : (own : ℕ) (items : List Dep) → dependences r.body ≡ Some (own, items)
        → (awaited_by r.thread (take i rs) ≡ Some own → ⊥) → ⊥
    no_list own items says other =
        free i
        (deps_place
        (stray (ap is_some (at_get dependences rs i r here ∙ says))
        (λ a is. other (followed_awaited rs a i r own items here says is))))

    of : (o : Option (ℕ × List Dep)) → dependences r.body ≡ o → (awaits : Option ℕ)
        → awaited_by r.thread (take i rs) ≡ awaits → option_map (λ (d : ℕ × List Dep). d.0) o ≡ awaits
    of None says None is = refl
    of None says (Some task) is =
        let within = slice_get_within rs i r here in
        let (a, last, creates) = awaited_last rs i r.thread task (omega (arith, within)) is in
        absurd
        (free a
        (deps_place
        (missing (ap is_some creates)
        (λ b follows.
        none-some (follows.task, follows.items)
        (sym says ∙ sym (at_get dependences rs i r here)
        ∙ ap (at dependences rs) (sym (followed_here rs a b i r here last follows)) ∙ follows.listed)))))
    of (Some (own, items)) says None is =
        absurd (no_list own items says (λ waits. none-some own (sym is ∙ waits)))
    of (Some (own, items)) says (Some task) is = elim (cases_eq own task) [
      | inl same ↦ ap Some same
      | inr apart ↦
          absurd (no_list own items says (λ waits. apart (same_Some own task (sym waits ∙ is))))
    ]

placed_ends : (rs : List Record) → IsFreeOf rs DepsPlace → NoneAwaited rs
placed_ends rs free thread = of (awaited_by thread rs) refl
  where
    of : (awaits : Option ℕ) → awaited_by thread rs ≡ awaits → awaits ≡ None
    of None is = refl
    of (Some task) is =
        let whole = take_all (length rs) rs (omega arith) in
        let (a, last, creates) =
        awaited_last rs (length rs) thread task (omega arith) (ap (awaited_by thread) whole ∙ is) in
        absurd
        (free a
        (deps_place
        (missing (ap is_some creates)
        (λ b follows.
        last.none b follows.next.later follows.next.within
        (sym follows.next.same_thread ∙ last.of_it)))))

pub placed_exactly : (rs : List Record)
    → IsFreeOf rs DepsPlace ↔ (EachRecord ListsAwaited rs × NoneAwaited rs)
placed_exactly rs = (
  λ free. (placed_each rs free, placed_ends rs free),
  λ lists. none_misplaced rs lists.0 lists.1,
)
