-- Which lists of dependences the records have, with one record more that lists none.
use Rattle.std.proofs.Common.{◌≡◌, ◌≢◌, ◌∙◌, ℕ, ◌+◌, ◌⊎◌, List, [], ◌∷◌, ◌++◌, length, Option, Some, None}
use Rattle.std.proofs.Common.{Bool, true, false, refl, sym, ap, subst, arith, inl, inr}
use Rattle.std.specs.Prelude.{slice_get, Contains, if◌then◌else◌}
use Rattle.std.proofs.lemmas.Option.{none-some, same_Some}
use Rattle.std.proofs.lemmas.List.Elements.{Contains-push_cases}
use Rattle.ompt_events.specs.declared.records.Record.{Record}
use Rattle.ompt_events.specs.declared.records.Body.{Body}
use Rattle.ompt_events.specs.declared.records.Body.TheVariants.{TaskCreate, Dependences}
use Rattle.ompt_events.specs.declared.deps.Dep.{Dep}
use Rattle.ompt_events.specs.declared.cause.Cause.TheVariants.{CreatedTwice}
use Rattle.ompt_events.specs.Records.{creation, created_with_deps, dependences, named, made, finish}
use Rattle.ompt_events.specs.Records.{ended_root}
use Rattle.ompt_events.specs.Places.{at}
use Rattle.ompt_events.specs.Tree.{IsChild, children}
use Rattle.ompt_events.specs.Causes.{IsFreeOf, AreFollowed}
use Rattle.ompt_events.proofs.PlaceLemmas.{at_within, get_at}
use Rattle.ompt_events.proofs.RecordLemmas.{created_made, creation_created}
use Rattle.online.specs.Online.{IsWatchable}
use Rattle.online.specs.Groups.{put}
use Rattle.online.specs.Uses.{Listing}
use Rattle.online.specs.Items.{AreListings, HasEnded, IsFinishedBelow}
use Rattle.online.proofs.GroupLemmas.{put_here, put_apart, put_cases, contains_cons, contains_none}
use Rattle.online.proofs.PushLemmas.{at_pushed, at_stays, at_last, child_stays, child_pushed, children_alike}
use Rattle.online.proofs.PushLemmas.{child_new, made_once, finished_stays, followed_stays}

pub listings_none : (awaited : ℕ → Option ℕ) → ((n : ℕ) → awaited n ≡ None) → AreListings [] [] [] [] awaited
listings_none awaited none = record {
  listed = λ k task parent list says is.
      absurd (let low = at_within dependences [] k (task, list) says in omega (arith, low));
  known = λ i x here. absurd (none-some x here);
  ordered = λ i j parent earlier later x y less here. absurd (none-some x here);
  awaits = λ parent child is. absurd (none-some child (sym (none parent) ∙ is));
  followed = λ a child says.
      absurd (let low = at_within created_with_deps [] a child says in omega (arith, low));
  over = λ task end has. absurd (contains_none (task, end) has);
  ended = λ parent has. absurd (contains_none parent has);
}

-- ---- what a record says by itself

listed_named : (task : ℕ) (list : List Dep) (b : Body) → dependences b ≡ Some (task, list) → Contains
    (named b) task
listed_named task list (Dependences own items) says =
    (0, omega arith, ap (λ (q : ℕ × List Dep). q.0) (same_Some (own, items) (task, list) says))
listed_named task list _ says = absurd (none-some (task, list) says)

pub with_deps_creation : (child : ℕ) (b : Body) → created_with_deps b ≡ Some child
    → (parent : ℕ) × (creation b ≡ Some (parent, child))
with_deps_creation child (TaskCreate deps flags parent own) says = of deps says
  where
    of : (b : Bool) → (if b then Some own else None) ≡ Some child
        → (p : ℕ) × (creation (TaskCreate deps flags parent own) ≡ Some (p, child))
    of true is = (parent, ap (λ c. Some (parent, c)) (same_Some own child is))
    of false is = absurd (none-some child is)
with_deps_creation child _ says = absurd (none-some child says)

pub listed_no_creation : (task : ℕ) (list : List Dep) (b : Body) → dependences b ≡ Some (task, list)
    → creation b ≡ None
listed_no_creation task list (Dependences own items) says = refl
listed_no_creation task list _ says = absurd (none-some (task, list) says)

pub no_deps_created : (b : Body) → creation b ≡ None → (child : ℕ) → created_with_deps b ≢ Some child
no_deps_created b none child says =
    let (parent, creates) = with_deps_creation child b says in
    none-some (parent, child) (sym none ∙ creates)

-- a child that the record creates has no list before
pub new_unlisted : (rs : List Record) (r : Record) → IsWatchable (rs ++ r ∷ [])
    → IsFreeOf (rs ++ r ∷ []) CreatedTwice → (parent child : ℕ) → creation r.body ≡ Some (parent, child) →
    (k : ℕ)
    → (list : List Dep) → at dependences rs k ≡ Some (child, list) → ⊥
new_unlisted rs r watchable once parent child creates k list says =
    let (q, here, own) = get_at dependences (rs ++ r ∷ []) k (child, list)
    (at_stays dependences rs r k (child, list) says) in
    let (m, low, makes) = watchable.named k child (q, here, listed_named child list q.body own) in
    let same =
    made_once (rs ++ r ∷ []) once m (length rs) child makes
    (at_last made rs r ∙ created_made child r.body (creation_created parent child r.body creates)) in
    let inside = at_within dependences rs k (child, list) says in
    omega (arith, same, low, inside)

-- ---- one record more that lists nothing

-- what is known of a child whose list is missing
abbrev pub IsMissing : List Record → ℕ → ℕ → Type 0
IsMissing rs parent child =
    (number : ℕ) × IsChild rs parent number child × (number + 1 ≡ length (children rs parent))
    × ((k : ℕ) (list : List Dep) → at dependences rs k ≡ Some (child, list) → ⊥)

pub ended_stays : (rs : List Record) (r : Record) (task : ℕ) → HasEnded rs task → HasEnded (rs ++ r ∷ []) task
ended_stays rs r task (inl (k, part, says, body)) =
    inl (k, part, at_stays finish rs r k (task, part) says, body)
ended_stays rs r task (inr (k, says)) = inr (k, at_stays ended_root rs r k task says)

pub missing_later : (rs : List Record) (r : Record) (parent child : ℕ)
    → ((other : ℕ) → creation r.body ≢ Some (parent, other))
    → ((list : List Dep) → dependences r.body ≢ Some (child, list)) → IsMissing rs parent child
    → IsMissing (rs ++ r ∷ []) parent child
missing_later rs r parent child none no_list (number, is, last, missing) = (
  number,
  child_stays rs r parent number child is,
  last ∙ ap length (sym (children_alike rs r parent none)),
  λ k list says. elim (at_pushed dependences rs r k (child, list) says) [
    | inl there ↦ missing k list there
    | inr (at_end, own) ↦ no_list list own
  ],
)

pub listings_grown : (rs : List Record) (r : Record) (history : List Listing) (ends : List (ℕ × ℕ))
    (gone : List ℕ) (awaited now : ℕ → Option ℕ) → IsWatchable (rs ++ r ∷ [])
    → IsFreeOf (rs ++ r ∷ []) CreatedTwice → dependences r.body ≡ None
    → ((parent child : ℕ) → now parent ≡ Some child → IsMissing (rs ++ r ∷ []) parent child)
    → ((a child : ℕ) → at created_with_deps (rs ++ r ∷ []) a ≡ Some child
    → ((b : ℕ) × AreFollowed (rs ++ r ∷ []) a b) ⊎ ((parent : ℕ) × (now parent ≡ Some child)))
    → AreListings rs history ends gone awaited → AreListings (rs ++ r ∷ []) history ends gone now
listings_grown rs r history ends gone awaited now watchable once no_list missing follows is = record {
  listed = λ k task parent list says (i, creates). elim (at_pushed dependences rs r k (task, list) says) [
    | inl there ↦ elim (at_pushed creation rs r i (parent, task) creates) [
      | inl before ↦ is.listed k task parent list there (i, before)
      | inr (last, own) ↦ absurd (new_unlisted rs r watchable once parent task own k list there)
    ]
    | inr (last, own) ↦ absurd (none-some (task, list) (sym no_list ∙ own))
  ];
  known = λ i x here.
      let (k, list, says) = is.known i x here in (k, list, at_stays dependences rs r k (x.task, list) says);
  ordered = λ i j parent earlier later x y less at_x at_y one two.
      is.ordered i j parent earlier later x y less at_x at_y (before i x at_x parent earlier one)
      (before j y at_y parent later two);
  awaits = missing;
  followed = follows;
  over = λ task end has. finished_stays rs r task end end (omega arith) (is.over task end has);
  ended = λ parent has. ended_stays rs r parent (is.ended parent has);
}
  where
    before : (i : ℕ) (x : Listing) → slice_get history i ≡ Some x → (parent number : ℕ)
        → IsChild (rs ++ r ∷ []) parent number x.task → IsChild rs parent number x.task
    before i x here parent number child = elim (child_pushed rs r parent number x.task child) [
      | inl there ↦ there
      | inr (creates, last) ↦
          let (k, list, says) = is.known i x here in
          absurd (new_unlisted rs r watchable once parent x.task creates k list says)
    ]

-- a record that creates no task
pub listings_other : (rs : List Record) (r : Record) (history : List Listing) (ends : List (ℕ × ℕ))
    (gone : List ℕ) (awaited : ℕ → Option ℕ) → IsWatchable (rs ++ r ∷ [])
    → IsFreeOf (rs ++ r ∷ []) CreatedTwice → dependences r.body ≡ None → creation r.body ≡ None
    → AreListings rs history ends gone awaited → AreListings (rs ++ r ∷ []) history ends gone awaited
listings_other rs r history ends gone awaited watchable once no_list none is =
    listings_grown rs r history ends gone awaited awaited watchable once no_list
    (λ parent child here.
    missing_later rs r parent child (λ other creates. none-some (parent, other) (sym none ∙ creates))
    (λ list says. none-some (child, list) (sym no_list ∙ says)) (is.awaits parent child here))
    (λ a child says. elim (at_pushed created_with_deps rs r a child says) [
      | inl there ↦ elim (is.followed a child there) [
        | inl (b, follows) ↦ inl (b, followed_stays rs r a b follows)
        | inr waits ↦ inr waits
      ]
      | inr (last, own) ↦ absurd (no_deps_created r.body none child own)
    ])
    is

apart_from : (awaited : ℕ → Option ℕ) (parent q child : ℕ) → awaited parent ≡ None → awaited q ≡ Some child
    → parent ≢ q
apart_from awaited parent q child none is same = none-some child (sym none ∙ ap awaited same ∙ is)

creates_apart : (r : Record) (parent child q : ℕ) → creation r.body ≡ Some (parent, child) → parent ≢ q
    → (other : ℕ) → creation r.body ≢ Some (q, other)
creates_apart r parent child q creates apart other makes =
    apart (ap (λ (p : ℕ × ℕ). p.0) (same_Some (parent, child) (q, other) (sym creates ∙ makes)))

creates_list : (r : Record) (parent child : ℕ) → creation r.body ≡ Some (parent, child) → (b : Body) →
    r.body ≡ b
    → dependences r.body ≡ None
creates_list r parent child creates b is = of (dependences r.body) refl
  where
    of : (o : Option (ℕ × List Dep)) → dependences r.body ≡ o → dependences r.body ≡ None
    of None e = e
    of (Some (task, list)) e =
        absurd (none-some (parent, child) (sym (listed_no_creation task list r.body e) ∙ creates))

-- a child without dependences is created, whose parent has no child whose list is missing
pub listings_plain : (rs : List Record) (r : Record) (history : List Listing) (ends : List (ℕ × ℕ))
    (gone : List ℕ) (awaited : ℕ → Option ℕ) (parent child : ℕ) → IsWatchable (rs ++ r ∷ [])
    → IsFreeOf (rs ++ r ∷ []) CreatedTwice → creation r.body ≡ Some (parent, child)
    → created_with_deps r.body ≡ None → awaited parent ≡ None → AreListings rs history ends gone awaited
    → AreListings (rs ++ r ∷ []) history ends gone awaited
listings_plain rs r history ends gone awaited parent child watchable once creates no_deps none is =
    listings_grown rs r history ends gone awaited awaited watchable once no_list
    (λ q own here.
    missing_later rs r q own
    (creates_apart r parent child q creates (apart_from awaited parent q own none here))
    (λ list says. none-some (own, list) (sym no_list ∙ says)) (is.awaits q own here))
    (λ a own says. elim (at_pushed created_with_deps rs r a own says) [
      | inl there ↦ elim (is.followed a own there) [
        | inl (b, follows) ↦ inl (b, followed_stays rs r a b follows)
        | inr waits ↦ inr waits
      ]
      | inr (last, made_own) ↦ absurd (none-some own (sym no_deps ∙ made_own))
    ])
    is
  where
    no_list : dependences r.body ≡ None
    no_list = creates_list r parent child creates r.body refl

-- a child with dependences is created
pub listings_created : (rs : List Record) (r : Record) (history : List Listing) (ends : List (ℕ × ℕ))
    (gone : List ℕ) (awaited now : ℕ → Option ℕ) (parent child : ℕ) → IsWatchable (rs ++ r ∷ [])
    → IsFreeOf (rs ++ r ∷ []) CreatedTwice → creation r.body ≡ Some (parent, child)
    → created_with_deps r.body ≡ Some child → awaited parent ≡ None
    → ((q : ℕ) → now q ≡ put awaited parent (Some child) q) → AreListings rs history ends gone awaited
    → AreListings (rs ++ r ∷ []) history ends gone now
listings_created rs r history ends gone awaited now parent child watchable once creates deps none changed is =
    listings_grown rs r history ends gone awaited now watchable once no_list
    (λ q own here. elim (put_cases awaited now parent (Some child) changed q own here) [
      | inl (same, new) ↦
          subst (λ p. IsMissing (rs ++ r ∷ []) p own) same
          (subst (IsMissing (rs ++ r ∷ []) parent) (same_Some child own new) fresh)
      | inr (apart, there) ↦
          missing_later rs r q own (creates_apart r parent child q creates apart)
          (λ list says. none-some (own, list) (sym no_list ∙ says)) (is.awaits q own there)
    ])
    (λ a own says. elim (at_pushed created_with_deps rs r a own says) [
      | inl there ↦ elim (is.followed a own there) [
        | inl (b, follows) ↦ inl (b, followed_stays rs r a b follows)
        | inr (q, waits) ↦
            inr (
              q,
              changed q
                  ∙ put_apart awaited parent (Some child) q (apart_from awaited parent q own none waits)
                  ∙ waits,
            )
      ]
      | inr (last, made_own) ↦
          inr (
            parent,
            changed parent ∙ put_here awaited parent (Some child) parent refl ∙ sym deps ∙
                made_own,
          )
    ])
    is
  where
    no_list : dependences r.body ≡ None
    no_list = creates_list r parent child creates r.body refl

    fresh : IsMissing (rs ++ r ∷ []) parent child
    fresh =
        let (child_is, last) = child_new rs r parent child creates in (
          length (children rs parent),
          child_is,
          last,
          λ k list says. elim (at_pushed dependences rs r k (child, list) says) [
            | inl there ↦ new_unlisted rs r watchable once parent child creates k list there
            | inr (at_end, own) ↦ none-some (child, list) (sym no_list ∙ own)
          ],
        )

-- ---- a task is complete, or creates no more children

pub listings_over : (rs : List Record) (history : List Listing) (ends : List (ℕ × ℕ)) (gone : List ℕ)
    (awaited : ℕ → Option ℕ) (task limit : ℕ) → IsFinishedBelow rs task limit
    → AreListings rs history ends gone awaited
    → AreListings rs history (ends ++ (task, limit) ∷ []) gone awaited
listings_over rs history ends gone awaited task limit finished is = record {
  listed = is.listed;
  known = is.known;
  ordered = is.ordered;
  awaits = is.awaits;
  followed = is.followed;
  over = λ t end has. elim (Contains-push_cases ends (task, limit) (t, end) has) [
    | inl old ↦ is.over t end old
    | inr new ↦ subst (λ (q : ℕ × ℕ). IsFinishedBelow rs q.0 q.1) new finished
  ];
  ended = is.ended;
}

pub listings_ended : (rs : List Record) (history : List Listing) (ends : List (ℕ × ℕ)) (gone : List ℕ)
    (awaited : ℕ → Option ℕ) (parent : ℕ) → HasEnded rs parent → AreListings rs history ends gone awaited
    → AreListings rs history ends (parent ∷ gone) awaited
listings_ended rs history ends gone awaited parent has_ended is = record {
  listed = is.listed;
  known = is.known;
  ordered = is.ordered;
  awaits = is.awaits;
  followed = is.followed;
  over = is.over;
  ended = λ p has. elim (contains_cons parent p gone has) [
    | inl same ↦ subst (HasEnded rs) same has_ended
    | inr old ↦ is.ended p old
  ];
}
