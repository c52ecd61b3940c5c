-- What the record of one call does to the credits of a run and to those of the machine.
use Rattle.std.proofs.Common.{ℕ, ◌≡◌, ◌≢◌, ◌∙◌, ◌⊎◌, ◌++◌, ◌∷◌, ◌+◌, [], List, Bool, true, false, refl, sym}
use Rattle.std.proofs.Common.{ap, subst, inl, inr, Option, Some, None, cond, length, take, arith}
use Rattle.std.proofs.Common.{fold}
use Rattle.std.specs.Prelude.{◌==◌, ◌&&◌, ◌||◌, slice_get, option_map, option_and_then}
use Rattle.std.specs.Prelude.{if◌then◌else◌}
use Rattle.std.proofs.lemmas.Bool.{cases_eq, eq-eqb, ne_eqb}
use Rattle.std.proofs.lemmas.Option.{none-some, same_Some, slice_get_past}
use Rattle.std.proofs.lemmas.List.{append-nil}
use Rattle.std.proofs.lemmas.List.Sums.{fold-append}
use Rattle.std.proofs.lemmas.Grind.{flat_map-append}
use Rattle.std.proofs.lemmas.List.Elements.{Contains-push}
use Rattle.ompt_events.specs.declared.records.Record.{Record}
use Rattle.ompt_events.specs.declared.flags.TaskFlags.{TaskFlags}
use Rattle.ompt_events.specs.Records.{made}
use Rattle.ompt_events.proofs.ListLemmas.{pushed_cases, get_pushed, get_last}
use Rattle.credit_ledger.specs.declared.share.Half.{Half}
use Rattle.credit_ledger.specs.Shares.{finish_share, keep_half, give_half}
use Rattle.credit_ledger.proofs.RunLemmas.{finish_share-keep, finish_share-give}
use Rattle.credit_ledger.specs.Credits as credits
use Rattle.credit_ledger.specs.Credits.{Credit, Event, next_credits, credits_after, was_made, has_task_share}
use Rattle.credit_ledger.specs.Credits.{shared_halves, exchange, whole_credit}
use Rattle.credit_ledger.specs.declared.entry.Entry.{Entry}
use Rattle.credit_ledger.specs.TraceEntries.{entry_of}
use Rattle.scripts.specs.declared.script.Step.{Step}
use Rattle.scripts.specs.Rules.{IsMadeByStep}
use Rattle.callbacks.proofs.KnownLaw.{take_next}
use Rattle.callbacks.specs.Tasks.{TaskView, credit_of, entered_credit_of}
use Rattle.callbacks.specs.Tasks.{is_detached, holder_in, share_of, with_child, child_of}
use Rattle.scripts.specs.Progress.{Values}
use Rattle.scripts.specs.Tiling.{Holder, of_task, of_record, held_credit, credit_events}
use Rattle.scripts.specs.Tiling.{events_of}
use Rattle.scripts.proofs.UseLemmas.{made_later}
use Rattle.scripts.proofs.HolderLemmas.{AreHolders, holders_same, holders_more, holders_exchanged}
use Rattle.scripts.proofs.HolderLemmas.{put, same_holder, exchanged_for, IsIn, AreOnce, AreOf}
use Rattle.scripts.proofs.HolderLemmas.{holder_number}

-- ---- what is known of the credits so far

pub record IsTiled (steps : List Step) (n : ℕ) (values : Values) (rs : List Record) : Type 0 where
  pub holders : List Holder
  pub held : AreHolders (credits_after (events_of rs)) (held_credit values rs) holders
  -- a task has its own credit, and an earlier step made the task of each credit
  pub tasks : (task : ℕ) (c : Credit) → option_map credit_of (values task) ≡ Some c → c.task ≡ task
  pub known : (h : Holder) (c : Credit) → held_credit values rs h ≡ Some c
      → IsMadeByStep (take n steps) c.task

-- the credits after one record more
credits_pushed : (rs : List Record) (r : Record)
    → credits_after (events_of (rs ++ r ∷ []))
    ≡ fold next_credits (credits_after (events_of rs)) (credit_events r)
credits_pushed rs r =
    ap credits_after (flat_map-append credit_events rs (r ∷ [])
    ∙ ap (λ l. events_of rs ++ l) (append-nil (credit_events r)))
    ∙ fold-append next_credits [] (events_of rs) (credit_events r)

-- the entry of a record is the same with one record more, if that makes none or comes behind it
entry_same : (rs : List Record) (r : Record) (at : ℕ)
    → ((e : Entry) → at ≡ length rs → entry_of r ≡ Some e → ⊥)
    → option_and_then entry_of (slice_get rs at) ≡ option_and_then entry_of (slice_get (rs ++ r ∷ []) at)
entry_same rs r at none = by (slice_get rs at) refl
  where
    new : (o : Option Record) → slice_get (rs ++ r ∷ []) at ≡ o → slice_get rs at ≡ None
        → None ≡ option_and_then entry_of o
    new None is old = refl
    new (Some q) is old = elim (pushed_cases rs r q at is) [
      | inl there ↦ absurd (none-some q (sym old ∙ there))
      | inr last ↦ makes (entry_of q) (ap entry_of last.1)
    ]
      where
        makes : (e : Option Entry) → entry_of r ≡ e → None ≡ e
        makes None made = refl
        makes (Some e) made = absurd (none e (elim (pushed_cases rs r q at is) [
          | inl there ↦ absurd (none-some q (sym old ∙ there))
          | inr last ↦ last.0
        ]) made)

    by : (o : Option Record) → slice_get rs at ≡ o
        → option_and_then entry_of o ≡ option_and_then entry_of (slice_get (rs ++ r ∷ []) at)
    by (Some q) is = sym (ap (option_and_then entry_of) (get_pushed rs r q at is))
    by None is = new (slice_get (rs ++ r ∷ []) at) refl is

none_last : (rs : List Record) → option_and_then entry_of (slice_get rs (length rs)) ≡ None
none_last rs = ap (option_and_then entry_of) (slice_get_past rs (length rs) (omega arith))

-- a call that changes no credit
pub plain_tiled : (steps : List Step) (n : ℕ) (s : Step) (old new : Values) (rs : List Record) (r : Record)
    → slice_get steps n ≡ Some s
    → fold next_credits (credits_after (events_of rs)) (credit_events r) ≡ credits_after (events_of rs)
    → entry_of r ≡ None → ((task : ℕ) → option_map credit_of (old task) ≡ option_map credit_of (new task))
    → IsTiled steps n old rs → IsTiled steps (n + 1) new (rs ++ r ∷ [])
plain_tiled steps n s old new rs r is quiet none same tiled = record {
  holders = tiled.holders;
  held =
      subst (λ cs. AreHolders cs (held_credit new (rs ++ r ∷ [])) tiled.holders)
      (sym (credits_pushed rs r ∙ quiet))
      (holders_same (credits_after (events_of rs)) (held_credit old rs) (held_credit new (rs ++ r ∷ []))
      tiled.holders all tiled.held);
  tasks = λ task c has. tiled.tasks task c (same task ∙ has);
  known = λ h c has. made_later steps n s c.task is (tiled.known h c (all h ∙ has));
}
  where
    all : (h : Holder) → held_credit old rs h ≡ held_credit new (rs ++ r ∷ []) h
    all (of_task task) = same task
    all (of_record at) =
        ap (option_map entered_credit_of) (entry_same rs r at (λ e last makes. none-some e (sym none
        ∙ makes)))

-- ---- a root begins

abbrev record_at : Holder → Option ℕ
record_at (of_task task) = None
record_at (of_record at) = Some at

not_task : (at task : ℕ) → of_record at ≢ of_task task
not_task at task same = none-some at (ap record_at (sym same))

pub and_false : (b : Bool) → (b && false) ≡ false
and_false true = refl
and_false false = refl

pub share_alive : (t : TaskView) → is_detached t.state ≡ false
    → share_of t ≡ finish_share t.claim.path t.claim.kept
share_alive t alive =
    let left : List Half = finish_share t.claim.path t.claim.kept in
    ap (λ b. if b then give_half left else left) alive

-- a task that no earlier step made has no credit
pub unmade_none : (steps : List Step) (n : ℕ) (values : Values) (rs : List Record) (task : ℕ)
    → IsTiled steps n values rs → (IsMadeByStep (take n steps) task → ⊥)
    → option_map credit_of (values task) ≡ None
unmade_none steps n values rs task tiled new = by (option_map credit_of (values task)) refl
  where
    by : (o : Option Credit) → option_map credit_of (values task) ≡ o → o ≡ None
    by None is = refl
    by (Some c) is =
        absurd
        (new
        (subst (λ t. IsMadeByStep (take n steps) t) (tiled.tasks task c is)
        (tiled.known (of_task task) c is)))

unmade_by : (has : Holder → Option Credit) (task : ℕ) (cs : List Credit) (hs : List Holder)
    → AreOf has cs hs → ((h : Holder) (c : Credit) → has h ≡ Some c → c.task ≢ task)
    → was_made task cs ≡ false
unmade_by has task [] [] are other = refl
unmade_by has task [] (h ∷ hs) are other = absurd are
unmade_by has task (c ∷ cs) [] are other = absurd are
unmade_by has task (c ∷ cs) (h ∷ hs) (is, are) other =
    ap (λ b. b || was_made task cs) (ne_eqb c.task task (other h c is)) ∙ unmade_by has task cs hs are other

pub unmade : (steps : List Step) (n : ℕ) (values : Values) (rs : List Record) (task : ℕ)
    → IsTiled steps n values rs → (IsMadeByStep (take n steps) task → ⊥)
    → was_made task (credits_after (events_of rs)) ≡ false
unmade steps n values rs task tiled new =
    unmade_by (held_credit values rs) task (credits_after (events_of rs)) tiled.holders tiled.held.are
    (λ h c has same. new (subst (λ t. IsMadeByStep (take n steps) t) same (tiled.known h c has)))

pub begun_tiled : (steps : List Step) (n : ℕ) (s : Step) (old new : Values) (rs : List Record) (r : Record)
    (task : ℕ)
    → slice_get steps n ≡ Some s → made s.body ≡ Some task → (IsMadeByStep (take n steps) task → ⊥)
    → credit_events r ≡ credits.Root task ∷ [] → entry_of r ≡ None
    → option_map credit_of (new task) ≡ Some (whole_credit task)
    → ((other : ℕ) → other ≢ task → option_map credit_of (old other) ≡ option_map credit_of (new other))
    → IsTiled steps n old rs → IsTiled steps (n + 1) new (rs ++ r ∷ [])
begun_tiled steps n s old new rs r task is makes unmade_yet event none begun same tiled = record {
  holders = of_task task ∷ tiled.holders;
  held =
      subst (λ cs. AreHolders cs (held_credit new (rs ++ r ∷ [])) (of_task task ∷ tiled.holders))
      (sym
      (credits_pushed rs r ∙ ap (fold next_credits cs) event
      ∙ ap (λ b. cond b cs (whole_credit task ∷ cs)) (unmade steps n old rs task tiled unmade_yet)))
      (holders_more cs (held_credit old rs) (held_credit new (rs ++ r ∷ [])) tiled.holders (of_task task)
      (whole_credit task) (unmade_none steps n old rs task tiled unmade_yet) begun all tiled.held);
  tasks = λ t c has. elim (cases_eq t task) [
    | inl one ↦
        ap (λ (x : Credit). x.task)
        (same_Some c (whole_credit task)
        (sym has ∙ ap (λ x. option_map credit_of (new x)) one ∙ begun))
        ∙ sym one
    | inr other ↦ tiled.tasks t c (same t other ∙ has)
  ];
  known = known;
}
  where
    cs : List Credit
    cs = credits_after (events_of rs)

    all : (h : Holder) → h ≢ of_task task → held_credit old rs h ≡ held_credit new (rs ++ r ∷ []) h
    all (of_task t) other = same t (λ one. other (ap of_task one))
    all (of_record at) other =
        ap (option_map entered_credit_of) (entry_same rs r at (λ e last makes. none-some e (sym none
        ∙ makes)))

    made_now : IsMadeByStep (take (n + 1) steps) task
    made_now =
        subst (λ (l : List Step). IsMadeByStep l task) (sym (take_next steps n s is))
        (s, Contains-push (take n steps) s, makes)

    known : (h : Holder) (c : Credit) → held_credit new (rs ++ r ∷ []) h ≡ Some c
        → IsMadeByStep (take (n + 1) steps) c.task
    known (of_record at) c has =
        made_later steps n s c.task is
        (tiled.known (of_record at) c (all (of_record at) (λ one. none-some at (ap record_at (sym one)))
        ∙ has))
    known (of_task t) c has = elim (cases_eq t task) [
      | inl one ↦
          subst (λ x. IsMadeByStep (take (n + 1) steps) x)
          (ap (λ (x : Credit). x.task)
          (same_Some (whole_credit task) c
          (sym begun ∙ ap (λ x. option_map credit_of (new x)) (sym one) ∙ has)))
          made_now
      | inr other ↦ made_later steps n s c.task is (tiled.known (of_task t) c (same t other ∙ has))
    ]

-- ---- the credit of a task is exchanged

exchange_tiled : (steps : List Step) (n : ℕ) (s : Step) (old new : Values) (rs : List Record) (r : Record)
    (task : ℕ) (fresh : Holder) (passes : Credit → Bool) (others : Credit → List Credit) (v : TaskView)
    (added : List Holder)
    → slice_get steps n ≡ Some s → IsTiled steps n old rs
    → fold next_credits (credits_after (events_of rs)) (credit_events r)
    ≡ exchange passes others (credits_after (events_of rs))
    → old task ≡ Some v → held_credit old rs fresh ≡ None → passes (credit_of v) ≡ true
    → ((c : Credit) → c.task ≢ task → passes c ≡ false)
    → ((e : Entry) → passes (entered_credit_of e) ≡ false)
    → ((h : Holder) → of_task task ≢ h → fresh ≢ h → held_credit old rs h ≡ held_credit new (rs ++ r ∷ []) h)
    → AreOf (held_credit new (rs ++ r ∷ [])) (others (credit_of v)) added → AreOnce added
    → ((h : Holder) → IsIn h added → (h ≡ of_task task) ⊎ (h ≡ fresh))
    → ((c : Credit) → option_map credit_of (new task) ≡ Some c → IsIn (of_task task) added × (c.task ≡ task))
    → IsIn fresh added
    → ((c : Credit) → held_credit new (rs ++ r ∷ []) fresh ≡ Some c
    → IsMadeByStep (take (n + 1) steps) c.task × ((t : ℕ) → fresh ≡ of_task t → c.task ≡ t))
    → IsTiled steps (n + 1) new (rs ++ r ∷ [])
exchange_tiled steps n s old new rs r task fresh passes others v added is tiled exchanges was none pass fail
    fail_entered same gives once fits stays fresh_in fresh_known = record {
      holders = put (of_task task) added tiled.holders;
      held =
          subst (λ cs. AreHolders cs (held_credit new (rs ++ r ∷ []))
          (put (of_task task) added tiled.holders))
          (sym (credits_pushed rs r ∙ exchanges))
          (holders_exchanged (credits_after (events_of rs)) (held_credit old rs)
          (held_credit new (rs ++ r ∷ [])) tiled.holders passes others (of_task task) added (credit_of v)
          (exchanged_for (held_credit old rs) (held_credit new (rs ++ r ∷ [])) passes others
          (of_task task) fresh
          added (credit_of v) had none pass fails same gives once fits (λ c has. (stays c has).0) fresh_in)
          tiled.held);
      tasks = λ t c has. elim (cases_eq task t) [
        | inl one ↦ (stays c (ap (λ x. option_map credit_of (new x)) one ∙ has)).1 ∙ one
        | inr other ↦ elim (same_holder fresh (of_task t)) [
          | inl here ↦
              (fresh_known c (subst (λ h. held_credit new (rs ++ r ∷ []) h ≡ Some c) (sym here) has)).1 t here
          | inr apart ↦
              tiled.tasks t c (same (of_task t) (λ one. other (ap holder_number one)) apart ∙ has)
        ]
      ];
      known = λ h c has. elim (same_holder (of_task task) h) [
        | inl one ↦
            subst (λ x. IsMadeByStep (take (n + 1) steps) x)
            (tiled.tasks task (credit_of v) had
            ∙ sym (stays c (subst (λ k. held_credit new (rs ++ r ∷ []) k ≡ Some c) (sym one) has)).1)
            (made_later steps n s v.id is (tiled.known (of_task task) (credit_of v) had))
        | inr other ↦ elim (same_holder fresh h) [
          | inl here ↦
              (fresh_known c (subst (λ k. held_credit new (rs ++ r ∷ []) k ≡ Some c) (sym here) has)).0
          | inr apart ↦ made_later steps n s c.task is (tiled.known h c (same h other apart ∙ has))
        ]
      ];
    }
  where
    had : option_map credit_of (old task) ≡ Some (credit_of v)
    had = ap (option_map credit_of) was

    by_entry : (o : Option Entry) (c : Credit) → option_map entered_credit_of o ≡ Some c → passes c ≡ false
    by_entry None c has = absurd (none-some c has)
    by_entry (Some e) c has = ap passes (sym (same_Some (entered_credit_of e) c has)) ∙ fail_entered e

    fails : (h : Holder) (c : Credit) → of_task task ≢ h → held_credit old rs h ≡ Some c → passes c ≡ false
    fails (of_task t) c other has =
        fail c (λ same. other (ap of_task (sym same ∙ tiled.tasks t c has)))
    fails (of_record at) c other has = by_entry (option_and_then entry_of (slice_get rs at)) c has

-- the holders of records are the same, but for the new one
records_same : (old new : Values) (rs : List Record) (r : Record) (at : ℕ) → at ≢ length rs
    → held_credit old rs (of_record at) ≡ held_credit new (rs ++ r ∷ []) (of_record at)
records_same old new rs r at other =
    ap (option_map entered_credit_of) (entry_same rs r at (λ e last makes. other last))

pub entry_last : (values : Values) (rs : List Record) (r : Record) (e : Entry) → entry_of r ≡ Some e
    → held_credit values (rs ++ r ∷ []) (of_record (length rs)) ≡ Some (entered_credit_of e)
entry_last values rs r e makes =
    ap (λ o. option_map entered_credit_of (option_and_then entry_of o)) (get_last rs r (length rs) refl)
    ∙ ap (option_map entered_credit_of) makes

-- all that a task has left, or its event has, is entered
pub ended_tiled : (steps : List Step) (n : ℕ) (s : Step) (old new : Values) (rs : List Record) (r : Record)
    (task : ℕ) (passes : Credit → Bool) (others : Credit → List Credit) (v : TaskView) (e : Entry)
    → slice_get steps n ≡ Some s → IsTiled steps n old rs
    → fold next_credits (credits_after (events_of rs)) (credit_events r)
    ≡ exchange passes others (credits_after (events_of rs))
    → old task ≡ Some v → entry_of r ≡ Some e → e.task ≡ v.id → passes (credit_of v) ≡ true
    → ((c : Credit) → c.task ≢ v.id → passes c ≡ false)
    → ((f : Entry) → passes (entered_credit_of f) ≡ false)
    → ((t : ℕ) → t ≢ task → option_map credit_of (old t) ≡ option_map credit_of (new t))
    → option_map credit_of (new task) ≡ None → others (credit_of v) ≡ entered_credit_of e ∷ []
    → IsTiled steps (n + 1) new (rs ++ r ∷ [])
ended_tiled steps n s old new rs r task passes others v e is tiled exchanges was makes own pass fail
    fail_entered same gone gives =
    exchange_tiled steps n s old new rs r task (of_record (length rs)) passes others v
    (of_record (length rs) ∷ []) is tiled exchanges was
    (ap (option_map entered_credit_of) (none_last rs)) pass
    (λ c other. fail c (λ one. other (one ∙ id))) fail_entered all
    (subst (λ cs. AreOf (held_credit new (rs ++ r ∷ [])) cs (of_record (length rs) ∷ [])) (sym gives)
    (entry_last new rs r e makes, tt))
    ((λ there. absurd there), tt) fits (λ c has. absurd (none-some c (sym gone ∙ has))) (inl refl)
    (λ c has. (
      subst (λ (x : Credit). IsMadeByStep (take (n + 1) steps) x.task)
          (same_Some (entered_credit_of e) c (sym (entry_last new rs r e makes) ∙ has))
          (subst (λ t. IsMadeByStep (take (n + 1) steps) t) (sym own)
          (made_later steps n s v.id is (tiled.known (of_task task) (credit_of v) had))),
      λ t one. absurd (not_task (length rs) t one),
    ))
  where
    had : option_map credit_of (old task) ≡ Some (credit_of v)
    had = ap (option_map credit_of) was

    id : v.id ≡ task
    id = tiled.tasks task (credit_of v) had

    fits : (h : Holder) → IsIn h (of_record (length rs) ∷ [])
        → (h ≡ of_task task) ⊎ (h ≡ of_record (length rs))
    fits h (inl one) = inr (sym one)
    fits h (inr none) = absurd none

    all : (h : Holder) → of_task task ≢ h → of_record (length rs) ≢ h
        → held_credit old rs h ≡ held_credit new (rs ++ r ∷ []) h
    all (of_task t) other apart = same t (λ one. other (ap of_task (sym one)))
    all (of_record at) other apart =
        records_same old new rs r at (λ one. apart (ap of_record (sym one)))

-- the body's half is entered, and the event keeps the other
pub detached_tiled : (steps : List Step) (n : ℕ) (s : Step) (old new : Values) (rs : List Record) (r : Record)
    (task : ℕ) (passes : Credit → Bool) (others : Credit → List Credit) (v u : TaskView) (e : Entry)
    → slice_get steps n ≡ Some s → IsTiled steps n old rs
    → fold next_credits (credits_after (events_of rs)) (credit_events r)
    ≡ exchange passes others (credits_after (events_of rs))
    → old task ≡ Some v → entry_of r ≡ Some e → e.task ≡ v.id → passes (credit_of v) ≡ true
    → ((c : Credit) → c.task ≢ v.id → passes c ≡ false)
    → ((f : Entry) → passes (entered_credit_of f) ≡ false)
    → ((t : ℕ) → t ≢ task → option_map credit_of (old t) ≡ option_map credit_of (new t))
    → new task ≡ Some u → u.id ≡ v.id → others (credit_of v) ≡ entered_credit_of e ∷ credit_of u ∷ []
    → IsTiled steps (n + 1) new (rs ++ r ∷ [])
detached_tiled steps n s old new rs r task passes others v u e is tiled exchanges was makes own pass fail
    fail_entered same left still gives =
    exchange_tiled steps n s old new rs r task (of_record (length rs)) passes others v
    (of_record (length rs) ∷ of_task task ∷ []) is tiled exchanges was
    (ap (option_map entered_credit_of) (none_last rs)) pass (λ c other. fail c (λ one. other (one ∙ id)))
    fail_entered all
    (subst
    (λ cs. AreOf (held_credit new (rs ++ r ∷ [])) cs (of_record (length rs) ∷ of_task task ∷ [])) (sym gives)
    (entry_last new rs r e makes, (ap (option_map credit_of) left, tt)))
    (apart_two, ((λ there. absurd there), tt)) fits
    (λ c has. (
      inr (inl refl),
      ap (λ (x : Credit). x.task) (same_Some c (credit_of u) (sym has ∙ ap (option_map credit_of) left))
          ∙ still ∙ id,
    )) (inl refl)
    (λ c has. (
      subst (λ (x : Credit). IsMadeByStep (take (n + 1) steps) x.task)
          (same_Some (entered_credit_of e) c (sym (entry_last new rs r e makes) ∙ has))
          (subst (λ t. IsMadeByStep (take (n + 1) steps) t) (sym own)
          (made_later steps n s v.id is (tiled.known (of_task task) (credit_of v) had))),
      λ t one. absurd (not_task (length rs) t one),
    ))
  where
    had : option_map credit_of (old task) ≡ Some (credit_of v)
    had = ap (option_map credit_of) was

    id : v.id ≡ task
    id = tiled.tasks task (credit_of v) had

    apart_two : IsIn (of_record (length rs)) (of_task task ∷ []) → ⊥
    apart_two (inl one) = not_task (length rs) task (sym one)
    apart_two (inr none) = none

    fits : (h : Holder) → IsIn h (of_record (length rs) ∷ of_task task ∷ [])
        → (h ≡ of_task task) ⊎ (h ≡ of_record (length rs))
    fits h (inl one) = inr (sym one)
    fits h (inr (inl one)) = inl (sym one)
    fits h (inr (inr none)) = absurd none

    all : (h : Holder) → of_task task ≢ h → of_record (length rs) ≢ h
        → held_credit old rs h ≡ held_credit new (rs ++ r ∷ []) h
    all (of_task t) other apart = same t (λ one. other (ap of_task (sym one)))
    all (of_record at) other apart =
        records_same old new rs r at (λ one. apart (ap of_record (sym one)))

-- a task creates another one
pub created_tiled : (steps : List Step) (n : ℕ) (s : Step) (old new : Values) (rs : List Record) (r : Record)
    (task child : ℕ) (v : TaskView) (given : TaskFlags)
    → slice_get steps n ≡ Some s → IsTiled steps n old rs → made s.body ≡ Some child
    → (IsMadeByStep (take n steps) child → ⊥) → credit_events r ≡ credits.Create task child ∷ []
    → entry_of r ≡ None → old task ≡ Some v → holder_in v.state ≡ credits.Running
    → is_detached v.state ≡ false
    → ((t : ℕ) → t ≢ task → t ≢ child → option_map credit_of (old t) ≡ option_map credit_of (new t))
    → task ≢ child → new task ≡ Some (with_child v) → new child ≡ Some (child_of v child given)
    → IsTiled steps (n + 1) new (rs ++ r ∷ [])
created_tiled steps n s old new rs r task child v given is tiled makes unmade_yet event none was running alive
    same apart kept given_child =
    exchange_tiled steps n s old new rs r task (of_task child) (has_task_share task) (shared_halves child) v
    (of_task task ∷ of_task child ∷ []) is tiled
    (ap (fold next_credits cs) event
    ∙ ap (λ b. cond b cs (exchange (has_task_share task) (shared_halves child) cs))
    (unmade steps n old rs child tiled unmade_yet))
    was (unmade_none steps n old rs child tiled unmade_yet)
    (ap (λ b. b && credits.is_running (holder_in v.state)) (eq-eqb v.id task id)
    ∙ ap credits.is_running running)
    (λ c other. ap (λ b. b && credits.is_running c.holder) (ne_eqb c.task task other))
    (λ e. and_false (e.task == task)) all
    (subst
    (λ cs. AreOf (held_credit new (rs ++ r ∷ [])) cs (of_task task ∷ of_task child ∷ []))
    (sym halves) (ap (option_map credit_of) kept, (ap (option_map credit_of) given_child, tt)))
    (apart_two, ((λ there. absurd there), tt)) fits
    (λ c has. (
      inl refl,
      ap (λ (x : Credit). x.task)
          (same_Some c (credit_of (with_child v)) (sym has ∙ ap (option_map credit_of) kept))
          ∙ id,
    )) (inr (inl refl))
    (λ c has.
    let one : child ≡ c.task =
    ap (λ (x : Credit). x.task)
    (same_Some (credit_of (child_of v child given)) c
    (sym (ap (option_map credit_of) given_child) ∙ has)) in (
      subst (λ t. IsMadeByStep (take (n + 1) steps) t) one made_now,
      λ t here. sym one ∙ ap holder_number here,
    ))
  where
    cs : List Credit
    cs = credits_after (events_of rs)

    had : option_map credit_of (old task) ≡ Some (credit_of v)
    had = ap (option_map credit_of) was

    id : v.id ≡ task
    id = tiled.tasks task (credit_of v) had

    made_now : IsMadeByStep (take (n + 1) steps) child
    made_now =
        subst (λ (l : List Step). IsMadeByStep l child) (sym (take_next steps n s is))
        (s, Contains-push (take n steps) s, makes)

    apart_two : IsIn (of_task task) (of_task child ∷ []) → ⊥
    apart_two (inl one) = apart (sym (ap holder_number one))
    apart_two (inr none) = none

    fits : (h : Holder) → IsIn h (of_task task ∷ of_task child ∷ [])
        → (h ≡ of_task task) ⊎ (h ≡ of_task child)
    fits h (inl one) = inl (sym one)
    fits h (inr (inl one)) = inr (sym one)
    fits h (inr (inr none)) = absurd none

    all : (h : Holder) → of_task task ≢ h → of_task child ≢ h
        → held_credit old rs h ≡ held_credit new (rs ++ r ∷ []) h
    all (of_task t) other off =
        same t (λ one. other (ap of_task (sym one))) (λ one. off (ap of_task (sym one)))
    all (of_record at) other off =
        ap (option_map entered_credit_of) (entry_same rs r at (λ e last made. none-some e (sym none ∙ made)))

    halves : shared_halves child (credit_of v)
        ≡ credit_of (with_child v) ∷ credit_of (child_of v child given) ∷ []
    halves =
        let left : List Half = finish_share v.claim.path v.claim.kept in
        let first : keep_half (share_of v) ≡ share_of (with_child v) =
        ap keep_half (share_alive v alive) ∙ sym (finish_share-keep v.claim.path v.claim.kept)
        ∙ sym (share_alive (with_child v) alive) in
        let second : give_half (share_of v) ≡ share_of (child_of v child given) =
        ap give_half (share_alive v alive) ∙ sym (finish_share-give v.claim.path v.claim.kept) in
        ap
        (λ x.
        record { root = v.claim.root; task = v.id; holder = credits.Running; share = x }
        ∷ record {
          root = v.claim.root;
          task = child;
          holder = credits.Running;
          share = give_half
              (share_of v);
        }
        ∷ [])
        first
        ∙ ap
        (λ x.
        record { root = v.claim.root; task = v.id; holder = x; share = share_of (with_child v) }
        ∷ record {
          root = v.claim.root;
          task = child;
          holder = credits.Running;
          share = give_half
              (share_of v);
        }
        ∷ [])
        (sym running)
        ∙ ap
        (λ x.
        credit_of (with_child v)
        ∷ record { root = v.claim.root; task = child; holder = credits.Running; share = x } ∷ [])
        second
