-- How one more record changes the limits of the latest children of its task.
use Rattle.std.proofs.Common.{◌≡◌, ◌∙◌, ℕ, ◌<◌, ◌≤◌, ◌+◌, ◌^◌, List, [], ◌∷◌, ◌++◌, length}
use Rattle.std.proofs.Common.{get_or, Some, None, sym, ap, subst, arith, inl, inr}
use Rattle.std.proofs.lemmas.Bool.{cases_eq}
use Rattle.std.proofs.lemmas.Option.{none-some, same_Some, slice_get_within, slice_get-get_or}
use Rattle.std.proofs.lemmas.List.{length_push, length-set}
use Rattle.std.proofs.Math.ListN.{set}
use Rattle.std.specs.Prelude.{max, slice_get}
use Rattle.ompt_events.specs.Records.{creation}
use Rattle.ompt_events.specs.Places.{at}
use Rattle.ompt_events.proofs.ListLemmas.{pushed_cases}
use Rattle.index_tables.specs.Numbering.{AreApart}
use Rattle.task_tree.proofs.LinkLemmas.{get_set_same, get_set_other}
use Rattle.wait_coverage.specs.Done.{DoneView, records_of, tasks_of, IsEarly, IsFamilyEarly}
use Rattle.wait_coverage.specs.Limits.{IsFamilyLimit}
use Rattle.wait_coverage.specs.Limits.{AreChildLimits, AreLatestFamilies}
use Rattle.wait_coverage.specs.Limits.{AreChains}
use Rattle.wait_coverage.specs.Limits.{IsMark, IsLimitProgress, IsLeastFor}
use Rattle.wait_coverage.specs.Limits.{AreChildrenEarly, AreFamiliesEarly}
use Rattle.wait_coverage.specs.declared.limits.Node.{Node}
use Rattle.wait_coverage.specs.declared.limits.Progress.{Progress}
use Rattle.wait_coverage.proofs.ChainLemmas.{chains_other}
use Rattle.wait_coverage.proofs.EndCoverLemmas.{}

pub latest_other : (done : DoneView) (n : ℕ) (latest : List ℕ) → AreChildLimits done n latest
    → at creation (records_of done) n ≡ None → AreChildLimits done (n + 1) latest
latest_other done n latest are none = record {
  all = are.all;
  each = λ index task limit is_task stands m c child small low below creates. elim (cases_eq c n) [
    | inl same ↦
        absurd (none-some (task, child) (sym none ∙ ap (at creation (records_of done)) (sym same) ∙ creates))
    | inr apart ↦ are.each index task limit is_task stands m c child small low (omega arith) creates
  ];
  least = λ index task limit is_task stands m small all.
      are.least index task limit is_task stands m small
      (λ c child below creates. all c child (omega arith) creates);
}

pub latest_more : (done : DoneView) (n own parent child value early d : ℕ) (latest : List ℕ)
    → AreApart (tasks_of done) → AreChildLimits done n latest → slice_get (tasks_of done) own ≡ Some parent
    → at creation (records_of done) n ≡ Some (parent, child) → value ≡ max (get_or latest own d) early
    → ((m : ℕ) → m < 2 ^ 32 → early ≤ m → IsEarly done m child)
    → IsLeastFor (λ m. IsEarly done m child) early
    → AreChildLimits done (n + 1) (set latest own value)
latest_more done n own parent child value early d latest apart are is_own creates is_value finished least =
    record {
      all = length-set latest own value ∙ are.all;
      each =
          λ index other limit is_other stands m c born small low below creates_there. elim
          (cases_eq index own) [
            | inl same ↦
                let is_parent : parent ≡ other =
                same_Some parent other (sym is_own ∙ ap (slice_get (tasks_of done)) (sym same) ∙ is_other) in
                let is_limit : value ≡ limit =
                same_Some value limit
                (sym (get_set_same latest own value within) ∙ ap (slice_get (set latest own value)) (sym same)
                ∙ stands) in
                elim (cases_eq c n) [
                  | inl here ↦
                      let pair =
                      same_Some (parent, child) (other, born)
                      (sym creates ∙ ap (at creation (records_of done)) (sym here) ∙ creates_there) in
                      let P : ℕ → Type 0 = IsEarly done m in
                      subst P (ap (λ (p : ℕ × ℕ). p.1) pair) (finished m small (omega arith))
                  | inr earlier ↦
                      are.each own parent (get_or latest own d) is_own
                      (slice_get-get_or latest own d within) m c born
                      small (omega arith) (omega arith)
                      (creates_there ∙ ap (λ t. Some (t, born)) (sym is_parent))
                ]
            | inr different ↦ elim (cases_eq c n) [
              | inl here ↦
                  let pair =
                  same_Some (parent, child) (other, born)
                  (sym creates ∙ ap (at creation (records_of done)) (sym here) ∙ creates_there) in
                  absurd
                  (different
                  (apart index own parent (is_other ∙ ap Some (sym (ap (λ (p : ℕ × ℕ). p.0) pair))) is_own))
              | inr earlier ↦
                  are.each index other limit is_other
                  (sym (get_set_other latest own index value different) ∙ stands)
                  m c born small low (omega arith) creates_there
            ]
          ];
      least = λ index other limit is_other stands m small all. elim (cases_eq index own) [
        | inl same ↦
            let is_parent : parent ≡ other =
            same_Some parent other (sym is_own ∙ ap (slice_get (tasks_of done)) (sym same) ∙ is_other) in
            let is_limit : value ≡ limit =
            same_Some value limit
            (sym (get_set_same latest own value within) ∙ ap (slice_get (set latest own value)) (sym same)
            ∙ stands) in
            let P : ℕ → Type 0 = λ t. AreChildrenEarly done (n + 1) t m in
            let all_own = subst P (sym is_parent) all in
            let old_low =
            are.least own parent (get_or latest own d) is_own (slice_get-get_or latest own d within) m small
            (λ c born below made_there. all_own c born (omega arith) made_there) in
            let new_low = least m small (all_own n child (omega arith) creates) in
            omega (arith, old_low, new_low, is_value, is_limit)
        | inr different ↦
            are.least index other limit is_other
            (sym (get_set_other latest own index value different) ∙ stands) m small
            (λ c born below made_there. all c born (omega arith) made_there)
      ];
    }
  where
    within : own < length latest
    within = let inside = slice_get_within (tasks_of done) own parent is_own in omega (arith, inside, are.all)

pub families_other : (done : DoneView) (n : ℕ) (families : List ℕ) → AreLatestFamilies done n families
    → at creation (records_of done) n ≡ None → AreLatestFamilies done (n + 1) families
families_other done n families are none = record {
  all = are.all;
  each = λ index task limit is_task stands c child below creates. elim (cases_eq c n) [
    | inl same ↦
        absurd (none-some (task, child) (sym none ∙ ap (at creation (records_of done)) (sym same) ∙ creates))
    | inr apart ↦ are.each index task limit is_task stands c child (omega arith) creates
  ];
  least = λ index task limit is_task stands m small all.
      are.least index task limit is_task stands m small
      (λ c child from below creates. all c child from (omega arith) creates);
}

pub families_more : (done : DoneView) (n own parent child value early d : ℕ) (families : List ℕ)
    → AreApart (tasks_of done) → AreLatestFamilies done n families
    → slice_get (tasks_of done) own ≡ Some parent → at creation (records_of done) n ≡ Some (parent, child)
    → value ≡ max (get_or families own d) early → IsFamilyLimit done child early
    → IsLeastFor (λ m. IsFamilyEarly done m child) early
    → AreLatestFamilies done (n + 1) (set families own value)
families_more done n own parent child value early d families apart are is_own creates is_value finished
    least =
    record {
      all = length-set families own value ∙ are.all;
      each = λ index other limit is_other stands c born below creates_there. elim (cases_eq index own) [
        | inl same ↦
            let is_parent : parent ≡ other =
            same_Some parent other (sym is_own ∙ ap (slice_get (tasks_of done)) (sym same) ∙ is_other) in
            let is_limit : value ≡ limit =
            same_Some value limit
            (sym (get_set_same families own value within)
            ∙ ap (slice_get (set families own value)) (sym same) ∙ stands) in
            elim (cases_eq c n) [
              | inl here ↦
                  let pair =
                  same_Some (parent, child) (other, born)
                  (sym creates ∙ ap (at creation (records_of done)) (sym here) ∙ creates_there) in
                  let P : ℕ → Type 0 = λ t. IsFamilyLimit done t limit in
                  subst P (ap (λ (p : ℕ × ℕ). p.1) pair)
                  (weaker child early limit finished (omega (arith, is_value, is_limit)))
              | inr earlier ↦
                  weaker born (get_or families own d) limit
                  (are.each own parent (get_or families own d) is_own
                  (slice_get-get_or families own d within) c
                  born (omega arith) (creates_there ∙ ap (λ t. Some (t, born)) (sym is_parent)))
                  (omega (arith, is_value, is_limit))
            ]
        | inr different ↦ elim (cases_eq c n) [
          | inl here ↦
              let pair =
              same_Some (parent, child) (other, born)
              (sym creates ∙ ap (at creation (records_of done)) (sym here) ∙ creates_there) in
              absurd
              (different
              (apart index own parent (is_other ∙ ap Some (sym (ap (λ (p : ℕ × ℕ). p.0) pair))) is_own))
          | inr earlier ↦
              are.each index other limit is_other
              (sym (get_set_other families own index value different) ∙ stands) c born (omega arith)
              creates_there
        ]
      ];
      least = λ index other limit is_other stands m small all. elim (cases_eq index own) [
        | inl same ↦
            let is_parent : parent ≡ other =
            same_Some parent other (sym is_own ∙ ap (slice_get (tasks_of done)) (sym same) ∙ is_other) in
            let is_limit : value ≡ limit =
            same_Some value limit
            (sym (get_set_same families own value within)
            ∙ ap (slice_get (set families own value)) (sym same) ∙ stands) in
            let P : ℕ → Type 0 = λ t. AreFamiliesEarly done 0 (n + 1) t m in
            let all_own = subst P (sym is_parent) all in
            let old_low =
            are.least own parent (get_or families own d) is_own (slice_get-get_or families own d within) m
            small (λ c born from below made_there. all_own c born from (omega arith) made_there) in
            let new_low = least m small (all_own n child (omega arith) (omega arith) creates) in
            omega (arith, old_low, new_low, is_value, is_limit)
        | inr different ↦
            are.least index other limit is_other
            (sym (get_set_other families own index value different) ∙ stands) m small
            (λ c born from below made_there. all c born from (omega arith) made_there)
      ];
    }
  where
    within : own < length families
    within = let inside = slice_get_within (tasks_of done) own parent is_own in omega (arith, inside, are.all)

    weaker : (born low high : ℕ) → IsFamilyLimit done born low → low ≤ high → IsFamilyLimit done born high
    weaker born low high limit less m t small at_most of = limit m t small (omega (arith, less, at_most)) of

pub noted_push : (done : DoneView) (n : ℕ) (nodes : List Node) (new : Node) (before after : Progress)
    → IsLimitProgress done n nodes before → AreChildLimits done (n + 1) after.latest.items
    → AreLatestFamilies done (n + 1) after.families.items
    → AreChains done (nodes ++ new ∷ []) after.heads.items → IsMark done n new.limit
    → IsLimitProgress done (n + 1) (nodes ++ new ∷ []) after
noted_push done n nodes new before after are latest families chains mark = record {
  count = length_push nodes new ∙ ap (λ k. k + 1) are.count;
  latest = latest;
  families = families;
  chains = chains;
  marks = λ i node there. elim (pushed_cases nodes new node i there) [
    | inl old ↦ are.marks i node old
    | inr last ↦
        let is_n : i ≡ n = last.0 ∙ are.count in
        let P : ℕ → Type 0 = λ k. IsMark done k node.limit in
        let Q : Node → Type 0 = λ x. IsMark done n x.limit in
        subst P (sym is_n) (subst Q last.1 mark)
  ];
}

pub noted_alone : (done : DoneView) (n : ℕ) (nodes : List Node) (new : Node) (progress : Progress)
    → IsLimitProgress done n nodes progress → at creation (records_of done) n ≡ None → new.previous ≡ None
    → IsMark done n new.limit → IsLimitProgress done (n + 1) (nodes ++ new ∷ []) progress
noted_alone done n nodes new progress are none alone mark =
    noted_push done n nodes new progress progress are
    (latest_other done n progress.latest.items are.latest none)
    (families_other done n progress.families.items are.families none)
    (chains_other done nodes new progress.heads.items are.chains alone
    (ap (at creation (records_of done)) are.count ∙ none))
    mark
