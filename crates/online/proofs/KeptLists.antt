-- The lists that are kept, with one record more.
use Rattle.std.proofs.Common.{◌≡◌, ◌∙◌, ℕ, List, [], ◌∷◌, ◌++◌, length, Option, Some, None}
use Rattle.std.proofs.Common.{refl, sym, ap, subst, inl, inr}
use Rattle.std.proofs.lemmas.Option.{none-some, same_Some}
use Rattle.ompt_events.specs.declared.records.Record.{Record}
use Rattle.ompt_events.specs.declared.deps.Dep.{Dep}
use Rattle.ompt_events.specs.Places.{at}
use Rattle.ompt_events.specs.Records.{creation, dependences, finish}
use Rattle.ompt_events.specs.Tree.{IsParent}
use Rattle.online.specs.declared.lists.KeptList.{KeptList}
use Rattle.online.specs.declared.lists.Lists.{Lists}
use Rattle.online.specs.Items.{completed_by}
use Rattle.online.specs.Lists.{list_of, IsListOf, AreListsOf, DropsList, NotesList, TakesLists}
use Rattle.online.proofs.GroupLemmas.{put_cases}
use Rattle.online.proofs.PushLemmas.{at_stays, at_last}

pub list_stays : (rs : List Record) (r : Record) (task : ℕ) (kept : KeptList) → IsListOf rs task kept
    → IsListOf (rs ++ r ∷ []) task kept
list_stays rs r task kept is = record {
  lists = at_stays dependences rs r kept.place (task, kept.items.items) is.lists;
  parent = let (i, creates) = is.parent in (i, at_stays creation rs r i (kept.parent, task) creates);
}

-- a list that is still kept was kept before
dropped_from : (old new : Lists) (gone : Option ℕ) → DropsList old new gone → (task : ℕ) (kept : KeptList)
    → list_of new task ≡ Some kept → list_of old task ≡ Some kept
dropped_from old new None drops task kept there = sym (drops task) ∙ there
dropped_from old new (Some own) drops task kept there =
    elim (put_cases (list_of old) (list_of new) own None drops task kept there) [
      | inl (same, absent) ↦ absurd (none-some kept absent)
      | inr (apart, before) ↦ before
    ]

-- the list that is noted is that of the record
noted_of : (rs : List Record) (r : Record) (old new : Lists) (task parent : ℕ) (list : List Dep)
    → dependences r.body ≡ Some (task, list) → IsParent rs parent task
    → (notes : NotesList old new task (length rs) parent list) → IsListOf (rs ++ r ∷ []) task notes.kept
noted_of rs r old new task parent list says (i, creates) notes = record {
  lists = ap (at dependences (rs ++ r ∷ [])) notes.at_place ∙ at_last dependences rs r ∙ says
      ∙ ap (λ l. Some (task, l)) (sym notes.has);
  parent = (
    i,
    at_stays creation rs r i (parent, task) creates ∙ ap (λ p. Some (p, task)) (sym notes.of_parent),
  );
}

pub lists_more : (rs : List Record) (r : Record) (parent : Option ℕ) (old new : Lists)
    → TakesLists old new r parent (length rs)
    → ((task : ℕ) (list : List Dep) → dependences r.body ≡ Some (task, list)
    → (p : ℕ) × (parent ≡ Some p) × IsParent rs p task)
    → AreListsOf rs old → AreListsOf (rs ++ r ∷ []) new
lists_more rs r parent old new takes parents are = of (dependences r.body) refl
  where
    of : (o : Option (ℕ × List Dep)) → dependences r.body ≡ o → AreListsOf (rs ++ r ∷ []) new
    of None none task kept there =
        list_stays rs r task kept
        (are task kept (dropped_from old new (completed_by (finish r.body)) (takes.dropped none) task kept
        there))
    of (Some (own, list)) says task kept there =
        let (p, given, above) = parents own list says in
        let notes = takes.noted own p list says given in
        elim (put_cases (list_of old) (list_of new) own (Some notes.kept) notes.noted task kept there) [
          | inl (same, now) ↦
              let P : ℕ → Type 0 = λ t. IsListOf (rs ++ r ∷ []) t notes.kept in
              let Q : KeptList → Type 0 = λ k. IsListOf (rs ++ r ∷ []) task k in
              subst Q (same_Some notes.kept kept now)
              (subst P same (noted_of rs r old new own p list says above notes))
          | inr (apart, before) ↦ list_stays rs r task kept (are task kept before)
        ]
