-- The least ledger length at which what the end of a region covers is finished.
use Rattle.std.proofs.Common.{◌≡◌, ◌≢◌, ◌∙◌, ℕ, ◌<◌, ◌≤◌, ◌+◌, ◌^◌, false, true, List, [], ◌∷◌, ◌++◌, length}
use Rattle.std.proofs.Common.{get_or, Option, Some, None, refl, sym, ap, subst, arith, inl, inr, ◌⊎◌}
use Rattle.std.proofs.lemmas.Bool.{cases_eq, cases_lt, false≢true}
use Rattle.std.proofs.lemmas.Option.{none-some, same_Some, slice_get_within, slice_get-get_or}
use Rattle.std.proofs.lemmas.Option.{get_or_from_slice_get}
use Rattle.std.proofs.lemmas.List.{length-replicate}
use Rattle.std.proofs.Math.ListN.{set}
use Rattle.std.specs.Prelude.{max, slice_get, option_and_then, option_map, replicate, Contains}
use Rattle.ompt_events.specs.declared.records.Record.{Record}
use Rattle.ompt_events.specs.declared.records.Body.{Body}
use Rattle.ompt_events.specs.declared.records.Body.TheVariants.{TaskCreate}
use Rattle.ompt_events.specs.declared.names.Endpoint.{Endpoint}
use Rattle.ompt_events.specs.declared.names.Endpoint.TheVariants.{Begin, End, BeginEnd}
use Rattle.ompt_events.specs.declared.names.SyncKind.{SyncKind}
use Rattle.ompt_events.specs.declared.names.SyncKind.TheVariants.{Taskwait, Taskgroup}
use Rattle.ompt_events.specs.Records.{creation, region}
use Rattle.ompt_events.specs.Places.{at}
use Rattle.ompt_events.specs.Regions.{IsRegion, EndsRegion, ended, at_once, is_barrier}
use Rattle.ompt_events.specs.Regions.{barrier_begun, open_regions}
use Rattle.ompt_events.proofs.RegionLemmas.{begin_before, own_begin, same_says}
use Rattle.index_tables.specs.Numbering.{AreApart}
use Rattle.task_tree.proofs.ChainLemmas.{replicate_get}
use Rattle.wait_coverage.specs.Done.{DoneView, records_of, tasks_of, IsEarly, IsFamilyEarly}
use Rattle.wait_coverage.specs.Limits.{IsFamilyLimit, IsChildLimit, IsFamiliesLimit, IsLimitOfBegin}
use Rattle.wait_coverage.specs.Limits.{IsOnChain, Gathers, HasNode, AreChildLimits, AreLatestFamilies}
use Rattle.wait_coverage.specs.Limits.{AreChains}
use Rattle.wait_coverage.specs.Limits.{IsMark, AreLimitMarks, IsLimitProgress, IsLeastFor}
use Rattle.wait_coverage.specs.Limits.{AreChildrenEarly, AreFamiliesEarly, IsNodeLeast}
use Rattle.wait_coverage.specs.declared.limits.Node.{Node}
use Rattle.wait_coverage.specs.declared.limits.Progress.{Progress}
use Rattle.teams.proofs.BarrierLemmas.{begun_region, begun_other, barrier_is_other}
use Rattle.teams.proofs.EventLemmas.{no_wait}
use Rattle.ompt_events.specs.Waits.{wait_kind}
use Rattle.ompt_events.specs.declared.names.WaitKind.TheVariants.{Taskwait as ForTaskwait}
use Rattle.ompt_events.specs.declared.names.WaitKind.TheVariants.{Taskgroup as ForTaskgroup}
use Rattle.teams.proofs.RegionEndLemmas.{ends_at, one_region}
use Rattle.wait_coverage.proofs.ChainLemmas.{chains_more, outer_before}
use Rattle.wait_coverage.proofs.EndCoverLemmas.{}
use Rattle.wait_coverage.proofs.LatestLemmas.{families_more, families_other, latest_more, latest_other}
use Rattle.wait_coverage.proofs.LatestLemmas.{noted_alone, noted_push}

-- ---- the kinds of record

-- a creation begins and ends no region
creates_no_region : (rs : List Record) (i parent child own : ℕ) (kind : SyncKind) (endpoint : Endpoint)
    → at creation rs i ≡ Some (parent, child) → at region rs i ≡ Some (own, kind, endpoint) → ⊥
creates_no_region rs i parent child own kind endpoint creates says = there (slice_get rs i) creates says
  where
    of : (b : Body) → creation b ≡ Some (parent, child) → region b ≡ Some (own, kind, endpoint) → ⊥
    of (TaskCreate deps flags task made_there) is is' = none-some (own, kind, endpoint) is'
    of _ is is' = none-some (parent, child) is

    there : (o : Option Record) → option_and_then (λ (r : Record). creation r.body) o ≡ Some (parent, child)
        → option_and_then (λ (r : Record). region r.body) o ≡ Some (own, kind, endpoint) → ⊥
    there None is is' = none-some (parent, child) is
    there (Some r) is is' = of r.body is is'

pub created_noted : (done : DoneView) (n own parent child early : ℕ) (nodes : List Node) (new : Node)
    (before after : Progress)
    → AreApart (tasks_of done) → IsLimitProgress done n nodes before
    → at creation (records_of done) n ≡ Some (parent, child) → slice_get (tasks_of done) own ≡ Some parent
    → slice_get before.heads.items own ≡ Some new.previous → IsFamilyLimit done child new.limit
    → ((m : ℕ) → m < 2 ^ 32 → early ≤ m → IsEarly done m child)
    → IsLeastFor (λ m. IsFamilyEarly done m child) new.limit → IsLeastFor (λ m. IsEarly done m child) early
    → after.heads.items ≡ set before.heads.items own (Some n)
    → ((old : ℕ) → slice_get before.latest.items own ≡ Some old
    → after.latest.items ≡ set before.latest.items own (max old early))
    → ((old : ℕ) → slice_get before.families.items own ≡ Some old
    → after.families.items ≡ set before.families.items own (max old new.limit))
    → IsLimitProgress done (n + 1) (nodes ++ new ∷ []) after
created_noted done n own parent child early nodes new before after apart are creates is_own head_there limit
    finished least_family least_own heads latest families =
    noted_push done n nodes new before after are
    (subst (AreChildLimits done (n + 1)) (sym latest_are)
    (latest_more done n own parent child (max (get_or before.latest.items own 0) early) early 0
    before.latest.items apart are.latest is_own creates refl finished least_own))
    (subst (AreLatestFamilies done (n + 1)) (sym families_are)
    (families_more done n own parent child (max (get_or before.families.items own 0) new.limit) new.limit
    0 before.families.items apart are.families is_own creates refl limit least_family))
    (subst (AreChains done (nodes ++ new ∷ [])) (sym heads_are)
    (chains_more done nodes new before.heads.items own parent apart are.chains is_own known makes kept
    new_least
    rest_least))
    (record {
      begins =
          λ task says.
          absurd (creates_no_region (records_of done) n parent child task Taskwait Begin creates says);
      meets = λ task begun. absurd (not_begun task begun);
      least_begun =
          λ task says.
          absurd (creates_no_region (records_of done) n parent child task Taskwait Begin creates says);
      least_met = λ task begun. absurd (not_begun task begun);
      ends = record {
        waits = λ p b there. absurd (no_region p b Taskwait there);
        groups = λ p b c t there from below made_it. absurd (no_region p b Taskgroup there);
        least_of_wait = λ p b there. absurd (no_region p b Taskwait there);
        least_of_group = λ p b there. absurd (no_region p b Taskgroup there);
      };
    })
  where
    not_begun : (task : ℕ) → barrier_begun (at region (records_of done) n) ≡ Some task → ⊥
    not_begun task begun =
        let known = begun_region (records_of done) n task begun in
        creates_no_region (records_of done) n parent child task known.0 known.1 creates known.2

    -- the new node has the limit of this one child
    new_least : IsNodeLeast done (length nodes + 1) parent (length nodes) new
    new_least =
        let P : ℕ → Type 0 = λ k. IsNodeLeast done (k + 1) parent k new in
        subst P (sym are.count) (record {
          floor = n;
          low = omega arith;
          least =
              λ m small all. least_family m small (all n child (omega arith) (omega arith) creates);
          apart = λ begin found less. omega arith;
        })

    rest_least : (number : ℕ) (node : Node) → IsOnChain nodes new.previous number
        → slice_get nodes number ≡ Some node → IsNodeLeast done (length nodes) parent number node
    rest_least number node on there =
        are.chains.least own parent number new.previous node is_own head_there on there

    no_region : (p b : ℕ) (kind : SyncKind) → IsRegion (records_of done) n p kind b → ⊥
    no_region p b kind there =
        let ends = ends_at (records_of done) n p b kind there in
        creates_no_region (records_of done) n parent child p kind ends.endpoint creates ends.says

    heads_are : after.heads.items ≡ set before.heads.items own (Some (length nodes))
    heads_are = heads ∙ ap (λ k. set before.heads.items own (Some k)) (sym are.count)

    latest_are : after.latest.items
        ≡ set before.latest.items own (max (get_or before.latest.items own 0) early)
    latest_are =
        latest (get_or before.latest.items own 0)
        (slice_get-get_or before.latest.items own 0
        (let inside = slice_get_within (tasks_of done) own parent is_own in
        let count = are.latest.all in omega (arith, inside, count)))

    families_are : after.families.items
        ≡ set before.families.items own (max (get_or before.families.items own 0) new.limit)
    families_are =
        families (get_or before.families.items own 0)
        (slice_get-get_or before.families.items own 0
        (let inside = slice_get_within (tasks_of done) own parent is_own in
        let count = are.families.all in omega (arith, inside, count)))

    known : (next : ℕ) → new.previous ≡ Some next → next < length nodes
    known next is = are.chains.known own next (head_there ∙ ap Some is)

    makes : (other born : ℕ) → at creation (records_of done) (length nodes) ≡ Some (other, born)
        → (other ≡ parent) × IsFamilyLimit done born new.limit
    makes other born made_it =
        let pair =
        same_Some (parent, child) (other, born)
        (sym creates ∙ ap (at creation (records_of done)) (sym are.count) ∙ made_it) in
        let P : ℕ → Type 0 = λ t. IsFamilyLimit done t new.limit in
        (sym (ap (λ (x : ℕ × ℕ). x.0) pair), subst P (ap (λ (x : ℕ × ℕ). x.1) pair) limit)

    kept : (c born : ℕ) (head : Option ℕ) → slice_get before.heads.items own ≡ Some head → c < length nodes
        → HasNode done nodes head c born
        → HasNode done nodes new.previous c born ⊎ IsFamilyLimit done born new.limit
    kept c born head stands less has =
        let P : Option ℕ → Type 0 = λ h. HasNode done nodes h c born in
        inl (subst P (same_Some head new.previous (sym stands ∙ head_there)) has)

pub closed_noted : (done : DoneView) (n own parent begin : ℕ) (nodes : List Node) (new : Node)
    (before after : Progress)
    → AreApart (tasks_of done) → IsLimitProgress done n nodes before
    → EndsRegion (records_of done) n parent Taskgroup begin → slice_get (tasks_of done) own ≡ Some parent
    → (head : Option ℕ) → slice_get before.heads.items own ≡ Some head → Gathers nodes head begin new
    → after.heads.items ≡ set before.heads.items own (Some n) → after.latest.items ≡ before.latest.items
    → after.families.items ≡ before.families.items → IsLimitProgress done (n + 1) (nodes ++ new ∷ []) after
closed_noted done n own parent begin nodes new before after apart are ends is_own head head_there gathered
    heads latest families =
    noted_push done n nodes new before after are
    (subst (AreChildLimits done (n + 1)) (sym latest)
    (latest_other done n before.latest.items are.latest no_creation))
    (subst (AreLatestFamilies done (n + 1)) (sym families)
    (families_other done n before.families.items are.families no_creation))
    (subst (AreChains done (nodes ++ new ∷ [])) (sym heads_are)
    (chains_more done nodes new before.heads.items own parent apart are.chains is_own gathered.known makes
    kept new_least rest_least))
    (record {
      begins =
          λ task says.
          absurd
          (let same =
          same_Some (parent, Taskgroup, End) (task, Taskwait, Begin) (sym ends.ends ∙ says) in
          let kinds : End ≡ Begin = ap (λ (x : ℕ × SyncKind × Endpoint). x.2) same in cc);
      meets =
          λ task begun.
          absurd (begun_other (records_of done) n task parent Taskgroup End ends.ends refl begun);
      least_begun = λ task says. absurd (
          let kinds = (same_says (records_of done) n parent task Taskgroup Taskwait End Begin ends.ends
          says).1 in cc);
      least_met =
          λ task begun.
          absurd (begun_other (records_of done) n task parent Taskgroup End ends.ends refl begun);
      ends = record {
        waits =
            λ p b there.
            let same =
            one_region (records_of done) n parent p begin b Taskgroup Taskwait (ended ends) there in
            absurd (let kinds = same.kind_is in cc);
        groups = λ p b c t there from less creates.
            let same =
            one_region (records_of done) n parent p begin b Taskgroup Taskgroup (ended ends) there in
            let begins = same.begin_is in
            grouped_limit c t (omega (arith, begins, from)) less
            (creates ∙ ap (λ x. Some (x, t)) (sym same.task_is));
        least_of_wait =
            λ p b there.
            let same =
            one_region (records_of done) n parent p begin b Taskgroup Taskwait (ended ends) there in
            absurd (let kinds = same.kind_is in cc);
        least_of_group = λ p b there m small all.
            let same =
            one_region (records_of done) n parent p begin b Taskgroup Taskgroup (ended ends) there in
            let P : ℕ → Type 0 = λ t. AreFamiliesEarly done begin n t m in
            let Q : ℕ → Type 0 = λ x. AreFamiliesEarly done x n p m in
            gathered_least m small (subst P (sym same.task_is) (subst Q (sym same.begin_is) all));
      };
    })
  where
    -- the begin is the innermost of the open regions
    begin_open : Contains (open_regions (records_of done) parent n) begin
    begin_open =
        let within = slice_get_within (open_regions (records_of done) parent n) 0 begin ends.innermost in (
          0,
          within,
          get_or_from_slice_get (open_regions (records_of done) parent n) 0 begin begin ends.innermost,
        )

    gathered_least : IsLeastFor (AreFamiliesEarly done begin n parent) new.limit
    gathered_least m small all = gathered.least m node_low
      where
        node_low : (number : ℕ) (node : Node) → IsOnChain nodes head number → begin < number
            → slice_get nodes number ≡ Some node → node.limit ≤ m
        node_low number node on less there =
            let is = are.chains.least own parent number head node is_own head_there on there in
            let P : ℕ → Type 0 = λ k. Contains (open_regions (records_of done) parent k) begin in
            let from = is.apart begin (subst P (sym are.count) begin_open) less in
            let below = slice_get_within nodes number node there in
            let count = are.count in
            is.least m small
            (λ c child above under creates.
            all c child (omega (arith, from, above)) (omega (arith, below, count, under)) creates)

    new_least : IsNodeLeast done (length nodes + 1) parent (length nodes) new
    new_least =
        let P : ℕ → Type 0 = λ k. IsNodeLeast done (k + 1) parent k new in
        let before = begin_before (records_of done) n parent begin Taskgroup ends in
        subst P (sym are.count) (record {
          floor = begin;
          low = omega (arith, before);
          least =
              λ m small all.
              gathered_least m small (λ c child above under creates. all c child above (omega arith) creates);
          apart =
              λ other found less.
              outer_before (records_of done) parent n begin other Taskgroup ends.ends ends.innermost found;
        })

    rest_least : (number : ℕ) (node : Node) → IsOnChain nodes new.previous number
        → slice_get nodes number ≡ Some node → IsNodeLeast done (length nodes) parent number node
    rest_least number node on there =
        are.chains.least own parent number head node is_own head_there (gathered.only number on) there

    no_creation : at creation (records_of done) n ≡ None
    no_creation = of (at creation (records_of done) n) refl
      where
        of : (o : Option (ℕ × ℕ)) → at creation (records_of done) n ≡ o → o ≡ None
        of None e = refl
        of (Some (p, t)) e =
            absurd (creates_no_region (records_of done) n p t parent Taskgroup End e ends.ends)

    heads_are : after.heads.items ≡ set before.heads.items own (Some (length nodes))
    heads_are = heads ∙ ap (λ k. set before.heads.items own (Some k)) (sym are.count)

    makes : (other born : ℕ) → at creation (records_of done) (length nodes) ≡ Some (other, born)
        → (other ≡ parent) × IsFamilyLimit done born new.limit
    makes other born made_it =
        absurd
        (none-some (other, born)
        (sym no_creation ∙ ap (at creation (records_of done)) (sym are.count) ∙ made_it))

    weaker : (born : ℕ) (node : Node) → IsFamilyLimit done born node.limit → node.limit ≤ new.limit
        → IsFamilyLimit done born new.limit
    weaker born node limit low m t small at_most of = limit m t small (omega (arith, low, at_most)) of

    kept : (c born : ℕ) (first : Option ℕ) → slice_get before.heads.items own ≡ Some first → c < length nodes
        → HasNode done nodes first c born
        → HasNode done nodes new.previous c born ⊎ IsFamilyLimit done born new.limit
    kept c born first stands less has =
        let P : Option ℕ → Type 0 = λ h. IsOnChain nodes h has.number in
        let on : IsOnChain nodes head has.number =
        subst P (same_Some first head (sym stands ∙ head_there)) has.on in
        elim (cases_lt begin has.number) [
          | inl later ↦
              inr (weaker born has.node has.limit (gathered.within has.number has.node on later has.there))
          | inr earlier ↦
              inl record {
                number = has.number;
                node = has.node;
                on = gathered.rest has.number on earlier;
                there = has.there;
                after = has.after;
                limit = has.limit;
              }
        ]

    grouped_limit : (c born : ℕ) → begin ≤ c → c < n → at creation (records_of done) c ≡ Some (parent, born)
        → IsFamilyLimit done born new.limit
    grouped_limit c born from less creates =
        let count = are.count in
        let has =
        are.chains.each own parent c born head is_own head_there (omega (arith, less, count)) creates in
        let begins = own_begin (records_of done) n parent begin Taskgroup ends in
        let apart_from : c ≢ begin =
        λ same.
        creates_no_region (records_of done) c parent born parent begins.kind Begin creates
        (ap (at region (records_of done)) same ∙ begins.begins) in
        let after = has.after in
        let later : begin < has.number =
        elim (cases_eq c begin)
        [ inl same ↦ absurd (apart_from same) | inr other ↦ omega (arith, from, after, other) ] in
        weaker born has.node has.limit (gathered.within has.number has.node has.on later has.there)

-- the begin of a region that ends at a later record
pub ended_region : (rs : List Record) (i task begin : ℕ) (kind : SyncKind)
    → at region rs i ≡ Some (task, kind, End) → IsRegion rs i task kind begin
    → EndsRegion rs i task kind begin
ended_region rs i task begin kind says (ended ends) = ends
ended_region rs i task begin kind says (at_once once) =
    absurd
    (let same = same_Some (task, kind, End) (task, kind, BeginEnd) (sym says ∙ once) in
    let never : End ≡ BeginEnd = ap (λ (p : ℕ × SyncKind × Endpoint). p.2) same in cc)

-- ---- records that create nothing

no_creation : (rs : List Record) (i own : ℕ) (kind : SyncKind) (endpoint : Endpoint)
    → at region rs i ≡ Some (own, kind, endpoint) → at creation rs i ≡ None
no_creation rs i own kind endpoint says = of (at creation rs i) refl
  where
    of : (o : Option (ℕ × ℕ)) → at creation rs i ≡ o → o ≡ None
    of None e = refl
    of (Some (p, t)) e = absurd (creates_no_region rs i p t own kind endpoint e says)

-- a region of another kind does not end there
no_other_region : (rs : List Record) (n task p b : ℕ) (kind other : SyncKind) (endpoint : Endpoint)
    → kind ≢ other → at region rs n ≡ Some (task, kind, endpoint) → IsRegion rs n p other b → ⊥
no_other_region rs n task p b kind other endpoint apart says there =
    let ends = ends_at rs n p b other there in
    apart (same_says rs n task p kind other endpoint ends.endpoint says ends.says).1

wait_no_group : Taskwait ≢ Taskgroup
wait_no_group same = cc

group_no_wait : Taskgroup ≢ Taskwait
group_no_wait same = cc

-- the end of a taskwait
pub ended_mark : (done : DoneView) (n task limit : ℕ) (nodes : List Node) → AreLimitMarks done nodes
    → at region (records_of done) n ≡ Some (task, Taskwait, End)
    → IsLimitOfBegin (records_of done) nodes n limit → IsMark done n limit
ended_mark done n task limit nodes marks says right = record {
  begins =
      λ t begins.
      absurd
      (let same = (same_says (records_of done) n task t Taskwait Taskwait End Begin says begins).2 in
      cc);
  meets = λ t begun. absurd (begun_other (records_of done) n t task Taskwait End says refl begun);
  least_begun = λ t begins. absurd (
      let same = (same_says (records_of done) n task t Taskwait Taskwait End Begin says begins).2 in cc);
  least_met = λ t begun. absurd (begun_other (records_of done) n t task Taskwait End says refl begun);
  ends = record {
    waits = waits;
    groups =
        λ p b c t there from less creates.
        absurd
        (no_other_region (records_of done) n task p b Taskwait Taskgroup End wait_no_group says there);
    least_of_wait = least_of_wait;
    least_of_group =
        λ p b there.
        absurd
        (no_other_region (records_of done) n task p b Taskwait Taskgroup End wait_no_group says there);
  };
}
  where
    waits : (p b : ℕ) → IsRegion (records_of done) n p Taskwait b → IsChildLimit done b p limit
    waits p b (ended ends) =
        let there = right p b ends in
        let begins = own_begin (records_of done) n p b Taskwait ends in
        let kinds : begins.kind ≡ Taskwait =
        same_Some begins.kind Taskwait
        (sym (ap (option_map (λ (r : ℕ × SyncKind × Endpoint). r.1)) begins.begins)
        ∙ ends.same_kind) in
        let P : ℕ → Type 0 = λ l. IsChildLimit done b p l in
        subst P there.2
        ((marks b there.0 there.1).begins p (begins.begins ∙ ap (λ k. Some (p, k, Begin)) kinds))
    waits p b (at_once once) =
        absurd
        (let same = (same_says (records_of done) n task p Taskwait Taskwait End BeginEnd says once).2 in
        cc)

    least_of_wait : (p b : ℕ) → IsRegion (records_of done) n p Taskwait b
        → IsLeastFor (AreChildrenEarly done b p) limit
    least_of_wait p b (ended ends) =
        let there = right p b ends in
        let begins = own_begin (records_of done) n p b Taskwait ends in
        let kinds : begins.kind ≡ Taskwait =
        same_Some begins.kind Taskwait
        (sym (ap (option_map (λ (r : ℕ × SyncKind × Endpoint). r.1)) begins.begins)
        ∙ ends.same_kind) in
        let P : ℕ → Type 0 = λ l. IsLeastFor (AreChildrenEarly done b p) l in
        subst P there.2
        ((marks b there.0 there.1).least_begun p (begins.begins ∙ ap (λ k. Some (p, k, Begin)) kinds))
    least_of_wait p b (at_once once) =
        absurd
        (let same = (same_says (records_of done) n task p Taskwait Taskwait End BeginEnd says once).2 in
        cc)

-- the begin of one, or one that begins and ends at once
pub begun_mark : (done : DoneView) (n task limit : ℕ) (endpoint : Endpoint)
    → at region (records_of done) n ≡ Some (task, Taskwait, endpoint) → endpoint ≢ End
    → IsChildLimit done n task limit → IsLeastFor (AreChildrenEarly done n task) limit → IsMark done n limit
begun_mark done n task limit endpoint says not_end right least = record {
  begins = λ t begins. mine t Begin begins;
  meets = λ t begun. absurd (begun_other (records_of done) n t task Taskwait endpoint says refl begun);
  least_begun = λ t begins. least_mine t Begin begins;
  least_met = λ t begun. absurd (begun_other (records_of done) n t task Taskwait endpoint says refl begun);
  ends = record {
    waits = waits;
    groups =
        λ p b c t there from less creates.
        absurd
        (no_other_region (records_of done) n task p b Taskwait Taskgroup endpoint wait_no_group says there);
    least_of_wait = least_of_wait;
    least_of_group =
        λ p b there.
        absurd
        (no_other_region (records_of done) n task p b Taskwait Taskgroup endpoint wait_no_group says there);
  };
}
  where
    mine : (t : ℕ) (e : Endpoint) → at region (records_of done) n ≡ Some (t, Taskwait, e)
        → IsChildLimit done n t limit
    mine t e there =
        let P : ℕ → Type 0 = λ k. IsChildLimit done n k limit in
        subst P (same_says (records_of done) n task t Taskwait Taskwait endpoint e says there).0 right

    waits : (p b : ℕ) → IsRegion (records_of done) n p Taskwait b → IsChildLimit done b p limit
    waits p b (ended ends) =
        absurd
        (not_end (same_says (records_of done) n task p Taskwait Taskwait endpoint End says ends.ends).2)
    waits p b (at_once once) = mine p BeginEnd once

    least_mine : (t : ℕ) (e : Endpoint) → at region (records_of done) n ≡ Some (t, Taskwait, e)
        → IsLeastFor (AreChildrenEarly done n t) limit
    least_mine t e there =
        let P : ℕ → Type 0 = λ k. IsLeastFor (AreChildrenEarly done n k) limit in
        subst P (same_says (records_of done) n task t Taskwait Taskwait endpoint e says there).0 least

    least_of_wait : (p b : ℕ) → IsRegion (records_of done) n p Taskwait b
        → IsLeastFor (AreChildrenEarly done b p) limit
    least_of_wait p b (ended ends) =
        absurd
        (not_end (same_says (records_of done) n task p Taskwait Taskwait endpoint End says ends.ends).2)
    least_of_wait p b (at_once once) = least_mine p BeginEnd once

-- the begin of a taskgroup, or one that begins and ends at once
pub group_mark : (done : DoneView) (n task limit : ℕ) (endpoint : Endpoint)
    → at region (records_of done) n ≡ Some (task, Taskgroup, endpoint) → endpoint ≢ End → limit ≡ 0
    → IsMark done n limit
group_mark done n task limit endpoint says not_end zero = record {
  begins =
      λ t begins.
      absurd
      (let same =
      (same_says (records_of done) n task t Taskgroup Taskwait endpoint Begin says begins).1 in
      cc);
  meets = λ t begun. absurd (begun_other (records_of done) n t task Taskgroup endpoint says refl begun);
  least_begun = λ t begins m small all. omega (arith, zero);
  least_met = λ t begun m small all. omega (arith, zero);
  ends = record {
    waits =
        λ p b there.
        absurd
        (no_other_region (records_of done) n task p b Taskgroup Taskwait endpoint group_no_wait says there);
    groups = groups;
    least_of_wait = λ p b there m small all. omega (arith, zero);
    least_of_group = λ p b there m small all. omega (arith, zero);
  };
}
  where
    groups : (p b c t : ℕ) → IsRegion (records_of done) n p Taskgroup b → b ≤ c → c < n
        → at creation (records_of done) c ≡ Some (p, t) → IsFamilyLimit done t limit
    groups p b c t (ended ends) from less creates =
        absurd
        (not_end (same_says (records_of done) n task p Taskgroup Taskgroup endpoint End says ends.ends).2)
    groups p b c t (at_once once) from less creates = absurd (omega (arith, from, less))

-- the begin or end of a barrier
pub barrier_mark : (done : DoneView) (n task limit : ℕ) (kind : SyncKind) (endpoint : Endpoint)
    → at region (records_of done) n ≡ Some (task, kind, endpoint) → is_barrier kind ≡ true
    → IsFamiliesLimit done n task limit → IsLeastFor (AreFamiliesEarly done 0 n task) limit
    → IsMark done n limit
barrier_mark done n task limit kind endpoint says barrier right least = record {
  begins = λ t begins. absurd (other Taskwait Begin t refl begins);
  meets = λ t begun.
      let known = begun_region (records_of done) n t begun in
      let P : ℕ → Type 0 = λ k. IsFamiliesLimit done n k limit in
      subst P (same_says (records_of done) n task t kind known.0 endpoint known.1 says known.2).0 right;
  least_begun = λ t begins. absurd (other Taskwait Begin t refl begins);
  least_met = λ t begun.
      let known = begun_region (records_of done) n t begun in
      let P : ℕ → Type 0 = λ k. IsLeastFor (AreFamiliesEarly done 0 n k) limit in
      subst P (same_says (records_of done) n task t kind known.0 endpoint known.1 says known.2).0 least;
  ends = record {
    waits = λ p b there. absurd (no_wait_ends p b there);
    groups = λ p b c t there from less creates. absurd (no_group_ends p b there);
    least_of_wait = λ p b there. absurd (no_wait_ends p b there);
    least_of_group = λ p b there. absurd (no_group_ends p b there);
  };
}
  where
    other : (another : SyncKind) (e : Endpoint) (t : ℕ) → is_barrier another ≡ false
        → at region (records_of done) n ≡ Some (t, another, e) → ⊥
    other another e t none there =
        barrier_is_other kind another barrier none
        (same_says (records_of done) n task t kind another endpoint e says there).1

    no_wait_ends : (p b : ℕ) → IsRegion (records_of done) n p Taskwait b → ⊥
    no_wait_ends p b there =
        let ends = ends_at (records_of done) n p b Taskwait there in
        other Taskwait ends.endpoint p refl ends.says

    no_group_ends : (p b : ℕ) → IsRegion (records_of done) n p Taskgroup b → ⊥
    no_group_ends p b there =
        let ends = ends_at (records_of done) n p b Taskgroup there in
        other Taskgroup ends.endpoint p refl ends.says

-- a record that begins or ends no region that waits for tasks
pub quiet_mark : (done : DoneView) (n limit : ℕ)
    → ((task : ℕ) (kind : SyncKind) (endpoint : Endpoint)
    → at region (records_of done) n ≡ Some (task, kind, endpoint) → wait_kind kind ≡ None)
    → IsMark done n limit
quiet_mark done n limit none = record {
  begins = λ t begins. absurd (no_begin t begins);
  meets = λ t begun. absurd (not_begun t begun);
  least_begun = λ t begins. absurd (no_begin t begins);
  least_met = λ t begun. absurd (not_begun t begun);
  ends = record {
    waits = λ p b there. absurd (no_wait_ends p b there);
    groups = λ p b c t there from less creates. absurd (no_group_ends p b there);
    least_of_wait = λ p b there. absurd (no_wait_ends p b there);
    least_of_group = λ p b there. absurd (no_group_ends p b there);
  };
}
  where
    no_begin : (t : ℕ) → at region (records_of done) n ≡ Some (t, Taskwait, Begin) → ⊥
    no_begin t begins = none-some ForTaskwait (sym (none t Taskwait Begin begins))

    not_begun : (t : ℕ) → barrier_begun (at region (records_of done) n) ≡ Some t → ⊥
    not_begun t begun =
        let known = begun_region (records_of done) n t begun in
        false≢true (sym (no_wait known.0 (none t known.0 known.1 known.2)) ∙ known.3)

    no_wait_ends : (p b : ℕ) → IsRegion (records_of done) n p Taskwait b → ⊥
    no_wait_ends p b there =
        let ends = ends_at (records_of done) n p b Taskwait there in
        none-some ForTaskwait (sym (none p Taskwait ends.endpoint ends.says))

    no_group_ends : (p b : ℕ) → IsRegion (records_of done) n p Taskgroup b → ⊥
    no_group_ends p b there =
        let ends = ends_at (records_of done) n p b Taskgroup there in
        none-some ForTaskgroup (sym (none p Taskgroup ends.endpoint ends.says))

-- the end of a taskgroup that belongs to no begin
pub unended_noted : (done : DoneView) (n own : ℕ) (nodes : List Node) (new : Node) (progress : Progress)
    → IsLimitProgress done n nodes progress → at region (records_of done) n ≡ Some (own, Taskgroup, End)
    → ((task begin : ℕ) (kind : SyncKind) → IsRegion (records_of done) n task kind begin → ⊥)
    → new.previous ≡ None → IsLimitProgress done (n + 1) (nodes ++ new ∷ []) progress
unended_noted done n own nodes new progress are says never alone =
    noted_alone done n nodes new progress are (no_creation (records_of done) n own Taskgroup End says) alone
    (record {
      begins =
          λ t begins.
          absurd
          (let same =
          (same_says (records_of done) n own t Taskgroup Taskwait End Begin says begins).2 in
          cc);
      meets = λ t begun. absurd (begun_other (records_of done) n t own Taskgroup End says refl begun);
      least_begun = λ t begins. absurd (
          let same = (same_says (records_of done) n own t Taskgroup Taskwait End Begin says begins).2 in cc);
      least_met = λ t begun. absurd (begun_other (records_of done) n t own Taskgroup End says refl begun);
      ends = record {
        waits = λ p b there. absurd (never p b Taskwait there);
        groups = λ p b c t there from less creates. absurd (never p b Taskgroup there);
        least_of_wait = λ p b there. absurd (never p b Taskwait there);
        least_of_group = λ p b there. absurd (never p b Taskgroup there);
      };
    })

-- ---- what stands at the index of a task

-- its length, which is at most m
pub early_at : (done : DoneView) (index task limit m : ℕ) → AreApart (tasks_of done)
    → slice_get (tasks_of done) index ≡ Some task → slice_get done.own index ≡ Some limit → limit ≤ m
    → IsEarly done m task
early_at done index task limit m apart is_task stands low other length_there is_task_too stands_there =
    let same = apart other index task is_task_too is_task in
    let is_limit : length_there ≡ limit =
    same_Some length_there limit (sym stands_there ∙ ap (slice_get done.own) same ∙ stands) in
    omega (arith, is_limit, low)

-- ---- before the first record

pub progress_start : (done : DoneView) (tasks : ℕ) (nodes : List Node) (progress : Progress) → nodes ≡ []
    → tasks ≡ length (tasks_of done) → progress.heads.items ≡ replicate tasks None
    → progress.latest.items ≡ replicate tasks 0 → progress.families.items ≡ replicate tasks 0
    → IsLimitProgress done 0 nodes progress
progress_start done tasks nodes progress empty same heads latest families = record {
  count = ap length empty;
  latest = record {
    all = ap length latest ∙ length-replicate tasks 0 ∙ same;
    each = λ index task limit named is m c child low reached below. absurd (omega (arith, below));
    least = λ index task limit named is m small all. all_zero latest index limit m is;
  };
  families = record {
    all = ap length families ∙ length-replicate tasks 0 ∙ same;
    each = λ index task limit named is c child below. absurd (omega (arith, below));
    least = λ index task limit named is m small all. all_zero families index limit m is;
  };
  chains = record {
    all = ap length heads ∙ length-replicate tasks None ∙ same;
    known = λ index head is.
        absurd
        (none-some head
        (sym
        (replicate_get tasks index None (Some head)
        (sym (ap (λ (l : List (Option ℕ)). slice_get l index) heads) ∙ is))));
    falling = λ number next node stands. absurd (none-some node (no_node number node ∙ stands));
    each = λ index task c child head named is below.
        let none = ap length empty in absurd (omega (arith, below, none));
    least = λ index task number head node named is on there.
        absurd (none-some node (no_node number node ∙ there));
  };
  marks = λ i node stands. absurd (none-some node (no_node i node ∙ stands));
}
  where
    all_zero : {limits : List ℕ} → limits ≡ replicate tasks 0 → (index limit m : ℕ)
        → slice_get limits index ≡ Some limit → limit ≤ m
    all_zero {limits} zeros index limit m is =
        let zero = replicate_get tasks index 0 limit
        (sym (ap (λ (l : List ℕ). slice_get l index) zeros) ∙ is) in
        omega (arith, zero)

    no_node : (i : ℕ) (node : Node) → None ≡ slice_get nodes i
    no_node i node = sym (ap (λ (l : List Node). slice_get l i) empty)
