-- The lists of the children of a task come in the order in which these were created.
use Rattle.std.proofs.Common.{◌≡◌, ◌∙◌, ℕ, ◌<◌, ◌+◌, List, [], ◌∷◌, ◌++◌, length, Some}
use Rattle.std.proofs.Common.{sym, ap, subst, arith, inl, inr}
use Rattle.std.specs.Prelude.{slice_get, option_map}
use Rattle.std.proofs.lemmas.Bool.{cases_eq}
use Rattle.std.proofs.lemmas.List.{take_all}
use Rattle.std.proofs.lemmas.Option.{same_Some, slice_get_within}
use Rattle.ompt_events.specs.declared.records.Record.{Record}
use Rattle.ompt_events.specs.declared.deps.Dep.{Dep}
use Rattle.ompt_events.specs.declared.cause.Cause.TheVariants.{CreatedTwice}
use Rattle.ompt_events.specs.Causes.{IsFreeOf}
use Rattle.ompt_events.specs.Places.{at}
use Rattle.ompt_events.specs.Records.{dependences}
use Rattle.ompt_events.specs.Tree.{IsChild, children}
use Rattle.ompt_events.proofs.PlaceLemmas.{at_within}
use Rattle.online.specs.declared.items.Items.{Items}
use Rattle.online.specs.Items.{IsItemsOf, awaited_of}
use Rattle.online.specs.Lists.{AreListsInOrder}
use Rattle.online.specs.Online.{IsWatchable, ListsAwaited, awaited_by}
use Rattle.online.proofs.AwaitLemmas.{awaited_last}
use Rattle.online.proofs.ListLaw.{child_before}
use Rattle.online.proofs.ListingLemmas.{IsMissing, new_unlisted, listed_no_creation}
use Rattle.online.proofs.PushLemmas.{at_pushed, child_pushed, child_once, once_first}

-- the list that a thread awaits is that of a child whose list is missing
pub awaited_missing : (rs : List Record) (items : Items) → IsItemsOf rs items → (thread task : ℕ)
    → awaited_by thread rs ≡ Some task
    → (parent : ℕ) × (awaited_of items parent ≡ Some task) × IsMissing rs parent task
awaited_missing rs items (history, ends, gone, uses, listings) thread task is =
    let whole = take_all (length rs) rs (omega arith) in
    let (a, last, creates) =
    awaited_last rs (length rs) thread task (omega arith) (ap (awaited_by thread) whole ∙ is) in
    elim (listings.followed a task creates) [
      | inl (b, followed) ↦
          absurd
          (last.none b followed.next.later followed.next.within
          (sym followed.next.same_thread ∙ last.of_it))
      | inr (parent, awaits) ↦ (parent, awaits, listings.awaits parent task awaits)
    ]

-- the list that the record lists
listed_missing : (rs : List Record) (r : Record) (items : Items) (task : ℕ) (list : List Dep)
    → IsItemsOf rs items → ListsAwaited rs r → dependences r.body ≡ Some (task, list)
    → (parent : ℕ) × IsMissing rs parent task
listed_missing rs r items task list is lists says =
    let (parent, awaits, missing) =
    awaited_missing rs items is r.thread task
    (sym lists ∙ ap (option_map (λ (d : ℕ × List Dep). d.0)) says) in
    (parent, missing)

-- a child that has a list was created before the one whose list is missing
before_missing : (rs : List Record) (parent earlier later k task other : ℕ) (list : List Dep)
    → IsFreeOf rs CreatedTwice → at dependences rs k ≡ Some (task, list) → IsChild rs parent earlier task
    → IsChild rs parent later other → (p : ℕ) → IsMissing rs p other → earlier < later
before_missing rs parent earlier later k task other list once says one two p (number, is, last, missing) =
    let (parents, numbers) = child_once rs once p parent number later other is two in
    let within = slice_get_within (children rs parent) earlier task one in
    let long : number + 1 ≡ length (children rs parent) = last ∙ ap (λ q. length (children rs q)) parents in
    elim (cases_eq earlier later) [
      | inl equal ↦
          let same : task ≡ other =
          same_Some task other (sym one ∙ ap (slice_get (children rs parent)) equal ∙ two) in
          absurd (missing k list (subst (λ t. at dependences rs k ≡ Some (t, list)) same says))
      | inr apart ↦ omega (arith, within, long, numbers, apart)
    ]

pub order_more : (rs : List Record) (r : Record) (items : Items) → IsItemsOf rs items
    → IsWatchable (rs ++ r ∷ []) → IsFreeOf (rs ++ r ∷ []) CreatedTwice → ListsAwaited rs r
    → AreListsInOrder rs → AreListsInOrder (rs ++ r ∷ [])
order_more rs r items is watchable once awaits ordered k l parent earlier later task other list second less
    first next one two =
    elim (at_pushed dependences rs r l (other, second) next) [
      | inl there ↦
          let low = at_within dependences rs l (other, second) there in
          let early = old k task list first (omega (arith, less, low)) in
          ordered k l parent earlier later task other list second less early there
          (known k task list earlier early one) (known l other second later there two)
      | inr (last, says) ↦
          let early = old k task list first (omega (arith, less, last)) in
          let none = listed_no_creation other second r.body says in
          let (p, missing) = listed_missing rs r items other second is awaits says in
          before_missing rs parent earlier later k task other list (once_first rs r once) early
          (child_before rs r none parent earlier task one) (child_before rs r none parent later other two)
          p missing
    ]
  where
    old : (n t : ℕ) (items : List Dep) → at dependences (rs ++ r ∷ []) n ≡ Some (t, items) → n < length rs
        → at dependences rs n ≡ Some (t, items)
    old n t items says low = elim (at_pushed dependences rs r n (t, items) says) [
      | inl there ↦ there
      | inr (last, own) ↦ absurd (omega (arith, last, low))
    ]

    -- a child that has a list is none that the record creates
    known : (n t : ℕ) (items : List Dep) (number : ℕ) → at dependences rs n ≡ Some (t, items)
        → IsChild (rs ++ r ∷ []) parent number t → IsChild rs parent number t
    known n t items number says child = elim (child_pushed rs r parent number t child) [
      | inl there ↦ there
      | inr (creates, last) ↦ absurd (new_unlisted rs r watchable once parent t creates n items says)
    ]
