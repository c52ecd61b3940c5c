-- What the ends of roots say of their teams changes nothing that is missed.
use Rattle.std.proofs.Common.{◌≡◌, ◌∙◌, ℕ, List, [], ◌∷◌, ◌++◌, length, Option, Some, None, refl, sym, ap}
use Rattle.std.proofs.Common.{subst, arith, inl, inr}
use Rattle.std.specs.Prelude.{map, slice_get, option_map, option_and_then}
use Rattle.std.proofs.lemmas.List.{length-map, map_push}
use Rattle.std.proofs.lemmas.Option.{slice_get-map}
use Rattle.ompt_events.specs.declared.records.Record.{Record}
use Rattle.ompt_events.specs.declared.records.Body.{Body}
use Rattle.ompt_events.specs.declared.records.Body.TheVariants.{ImplicitTask}
use Rattle.ompt_events.specs.declared.names.Endpoint.TheVariants.{End}
use Rattle.ompt_events.specs.Coverage.{Covers}
use Rattle.ompt_events.specs.Ends.{without_team, ending_alone, AreSameButForEnds}
use Rattle.ompt_events.specs.Places.{at}
use Rattle.ompt_events.specs.Records.{finish, begun_turn, wait_completed}
use Rattle.task_tree.specs.Renaming.{untold}
use Rattle.task_tree.proofs.BlindLemmas.{blind_finish}
use Rattle.task_tree.proofs.RenamedPlaceLemmas.{IsReordered, moved_at}
use Rattle.task_tree.proofs.RenamedRegionLemmas.{moved_covers}
use Rattle.task_tree.proofs.RenamedTreeLemmas.{moved_explicit, moved_predecessor}
use Rattle.online.specs.Missed.{EndsTooEarly, StartsTooEarly}
use Rattle.online.specs.Online.{IsDependentAt}

pub alike_more : (records rs : List Record) (r made : Record) → AreSameButForEnds records rs
    → ending_alone r ≡ ending_alone made → AreSameButForEnds (records ++ r ∷ []) (rs ++ made ∷ [])
alike_more records rs r made alike same =
    map_push ending_alone records r ∙ ap (λ before. before ++ ending_alone r ∷ []) alike
    ∙ ap (λ last. map ending_alone rs ++ last ∷ []) same ∙ sym (map_push ending_alone rs made)

alike_long : (rs ss : List Record) → AreSameButForEnds rs ss → length rs ≡ length ss
alike_long rs ss alike = sym (length-map rs ending_alone) ∙ ap length alike ∙ length-map ss ending_alone

untold_alone : (body : Body) → untold (without_team body) ≡ untold body
untold_alone (ImplicitTask End actual index flags parallel task) = refl
untold_alone _ = refl

-- what a record says but for that
told : Option Record → Option Body
told o = option_and_then (λ (r : Record). Some (untold r.body)) o

told_alone : (rs : List Record) (i : ℕ)
    → told (slice_get (map ending_alone rs) i) ≡ at (λ body. Some (untold body)) rs i
unfolding told
told_alone rs i = ap told (slice_get-map ending_alone rs i) ∙ of (slice_get rs i)
  where
    of : (o : Option Record)
        → told (option_map ending_alone o) ≡ option_and_then (λ (r : Record). Some (untold r.body)) o
    of None = refl
    of (Some r) = ap Some (untold_alone r.body)

alike_reordered : (rs ss : List Record) → AreSameButForEnds rs ss → IsReordered rs ss (λ i. i) (λ i. i)
alike_reordered rs ss alike = record {
  to_within = λ i low. let long = alike_long rs ss alike in omega (arith, low, long);
  back_within = λ i low. let long = alike_long rs ss alike in omega (arith, low, long);
  back_to = λ i low. refl;
  to_back = λ i low. refl;
  alike = λ i low.
      sym (told_alone ss i) ∙ ap (λ l. told (slice_get l i)) (sym alike) ∙ told_alone rs i;
  own_rise = λ task i k first second less. less;
}

pub missed_alike : (records rs : List Record) (r : Record) (task : ℕ) → AreSameButForEnds records rs
    → EndsTooEarly rs r task → EndsTooEarly records r task
missed_alike records rs r task alike is = record {
  covered =
      subst (λ n. Covers (records ++ r ∷ []) n task) (alike_long rs records (sym alike))
      (moved_covers (alike_reordered (rs ++ r ∷ []) (records ++ r ∷ []) (sym more))
      (λ i k first second less. less) (length rs) task is.covered);
  unfinished = λ k part says.
      is.unfinished k part
      (moved_at finish blind_finish (task, part)
      (alike_reordered (records ++ r ∷ []) (rs ++ r ∷ []) more) k says);
}
  where
    more : AreSameButForEnds (records ++ r ∷ []) (rs ++ r ∷ [])
    more = alike_more records rs r r alike refl

-- ---- where a task starts

-- what a record says but for the team of a root that ends, is the same
alike_at : {X : Type 0} (f : Body → Option X) → ((body : Body) → f (without_team body) ≡ f body)
    → (rs ss : List Record) → AreSameButForEnds rs ss → (i : ℕ) → at f rs i ≡ at f ss i
alike_at {X} f blind rs ss alike i =
    sym (through rs) ∙ ap (λ l. says (slice_get l i)) alike ∙ through ss
  where
    says : Option Record → Option X
    says o = option_and_then (λ (r : Record). f r.body) o

    of : (o : Option Record) → says (option_map ending_alone o) ≡ says o
    of None = refl
    of (Some r) = blind r.body

    through : (l : List Record) → says (slice_get (map ending_alone l) i) ≡ at f l i
    through l = ap says (slice_get-map ending_alone l i) ∙ of (slice_get l i)

begun_alone : (body : Body) → begun_turn (without_team body) ≡ begun_turn body
begun_alone (ImplicitTask End actual index flags parallel task) = refl
begun_alone _ = refl

waited_alone : (body : Body) → wait_completed (without_team body) ≡ wait_completed body
waited_alone (ImplicitTask End actual index flags parallel task) = refl
waited_alone _ = refl

dependent_alike : (rs ss : List Record) → AreSameButForEnds rs ss → (i task : ℕ) → IsDependentAt rs i task
    → IsDependentAt ss i task
dependent_alike rs ss alike i task (inl (explicit, start)) =
    inl (
      moved_explicit (alike_reordered rs ss alike) task explicit,
      record {
        starts = sym (alike_at begun_turn begun_alone rs ss alike i) ∙ start.starts;
        first = λ k low says. start.first k low (alike_at begun_turn begun_alone rs ss alike k ∙ says);
      },
    )
dependent_alike rs ss alike i task (inr waits) =
    inr (sym (alike_at wait_completed waited_alone rs ss alike i) ∙ waits)

pub early_alike : (records rs : List Record) (r : Record) (dependent predecessor : ℕ)
    → AreSameButForEnds records rs → StartsTooEarly rs r dependent predecessor
    → StartsTooEarly records r dependent predecessor
early_alike records rs r dependent predecessor alike is = record {
  dependent_at =
      subst (λ n. IsDependentAt (records ++ r ∷ []) n dependent) (alike_long rs records (sym alike))
      (dependent_alike (rs ++ r ∷ []) (records ++ r ∷ []) (sym more) (length rs) dependent is.dependent_at);
  precedes =
      moved_predecessor (alike_reordered (rs ++ r ∷ []) (records ++ r ∷ []) (sym more)) dependent predecessor
      is.precedes;
  unfinished = λ k part says.
      is.unfinished k part
      (moved_at finish blind_finish (predecessor, part)
      (alike_reordered (records ++ r ∷ []) (rs ++ r ∷ []) more) k says);
}
  where
    more : AreSameButForEnds (records ++ r ∷ []) (rs ++ r ∷ [])
    more = alike_more records rs r r alike refl
