-- The entries below the length that an end names finish what it covers exactly where they hold its spans.
use Rattle.std.proofs.Common.{◌≡◌, ◌≢◌, ◌∙◌, ℕ, ◌<◌, ◌≤◌, true, List, [], ◌∷◌, ◌++◌, length, get_or, take}
use Rattle.std.proofs.Common.{Some, refl, sym, ap, subst, arith, inl, inr, ◌⊎◌}
use Rattle.std.specs.Prelude.{◌↔◌, Contains, slice_get}
use Rattle.std.proofs.lemmas.Bool.{false≢true}
use Rattle.std.proofs.lemmas.Option.{slice_get-get_or}
use Rattle.ompt_events.specs.declared.records.Record.{Record}
use Rattle.ompt_events.specs.declared.names.SyncKind.TheVariants.{Taskwait, Taskgroup}
use Rattle.ompt_events.specs.declared.names.SyncKind.{SyncKind}
use Rattle.ompt_events.specs.declared.cause.Cause.TheVariants.{CreatedTwice, TeamShort}
use Rattle.ompt_events.specs.Places.{seen_at}
use Rattle.ompt_events.specs.Traces.{IsTrace}
use Rattle.ompt_events.specs.Tree.{children_before, children_between, child_number, below}
use Rattle.ompt_events.specs.Regions.{IsRegion, is_barrier, IsBarrierBegin}
use Rattle.ompt_events.specs.Teams.{IsTeammate}
use Rattle.ompt_events.specs.Coverage.{Covers, IsFamily}
use Rattle.ompt_events.specs.Coverage as coverage
use Rattle.ompt_events.specs.Completion.{IsCompleteAt}
use Rattle.ompt_events.specs.Causes.{IsFreeOf}
use Rattle.credit_ledger.specs.declared.entry.Entry.{Entry}
use Rattle.credit_ledger.specs.declared.entry.Span.{Span}
use Rattle.credit_ledger.specs.declared.entry.Cover.{Cover}
use Rattle.credit_ledger.specs.declared.entry.Cover.TheVariants.{Children, Descendants}
use Rattle.credit_ledger.specs.Entries.{IsSpanHeld}
use Rattle.ompt_events.proofs.ListLemmas.{get_contains, contains_get}
use Rattle.credit_ledger.specs.TraceEntries.{IsLedgerOf, HasRightEntries}
use Rattle.teams.specs.Teams.{IsMemberNumbered}
use Rattle.wait_coverage.specs.Spans.{IsSpan, AreSpans, waited, grouped, synchronised, AreMemberSpans}
use Rattle.wait_coverage.specs.Spans.{AreHeldAt, IsCoverComplete}
use Rattle.teams.proofs.RegionEndLemmas.{ends_at, one_region}
use Rattle.wait_coverage.proofs.CoverLemmas.{child_with, dropped, number_between, done_there, complete_there}
use Rattle.teams.proofs.BarrierLemmas.{one_number}
use Rattle.wait_coverage.proofs.MateLemmas.{one_member, number_of_mate, mate_of_number, begin_within}
use Rattle.credit_ledger.proofs.TreeLaw.{IsKnown, tree_held, tree_done}
use Rattle.credit_ledger.proofs.PoolLaw.{pool_held, pool_done}
use Rattle.credit_ledger.proofs.CreditLaw.{known_trace}

-- ---- a span is held where its children are finished

waited_held : (rs : List Record) (entries : List Entry) (i task begin : ℕ) (span : Span) → IsKnown rs entries
    → IsRegion rs i task Taskwait begin → IsSpan rs task 0 (child_number rs task begin) span
    → IsCoverComplete rs i → IsSpanHeld (take (seen_at rs i) entries) span Children
waited_held rs entries i task begin span known region is complete number enough few =
    let ends = ends_at rs i task begin Taskwait region in
    let to = is.to_there in
    let before = ends.below in
    let inside = ends.inside in
    let child = child_with rs task begin number (omega (arith, before, inside)) (omega (arith, few, to)) in
    let covers =
    coverage.waited region (get_contains (children_before rs task begin) child.0 number child.1.there) in
    pool_held rs entries (seen_at rs i) span.root task number child.0 span.path known is.stands
    child.1.numbered
    (done_there rs i task child.0 Taskwait ends.endpoint ends.says (complete child.0 covers))

grouped_held : (rs : List Record) (entries : List Entry) (i task begin : ℕ) (span : Span) → IsKnown rs entries
    → IsRegion rs i task Taskgroup begin
    → IsSpan rs task (child_number rs task begin) (child_number rs task i) span → IsCoverComplete rs i
    → IsSpanHeld (take (seen_at rs i) entries) span Descendants
grouped_held rs entries i task begin span known region is complete number enough few =
    let ends = ends_at rs i task begin Taskgroup region in
    let from = is.from_there in
    let to = is.to_there in
    let inside = ends.inside in
    let child = child_with rs task i number (omega (arith, inside)) (omega (arith, few, to)) in
    let among =
    dropped (children_before rs task i) (child_number rs task begin) number child.0
    (omega (arith, enough, from)) child.1.there in
    tree_held rs entries (seen_at rs i) span.root child.0 (span.path ++ number ∷ []) known
    (below number is.stands child.1.numbered)
    (λ t of.
    done_there rs i task t Taskgroup ends.endpoint ends.says
    (complete t (coverage.grouped region among of)))

-- a member's children before its barrier began are covered
member_held : (rs : List Record) (entries : List Entry) (i task begin number member start : ℕ)
    (kind : SyncKind) (span : Span)
    → IsKnown rs entries → IsRegion rs i task kind begin → is_barrier kind ≡ true
    → IsBarrierBegin rs task number begin → IsTeammate rs task member → IsBarrierBegin rs member number start
    → IsSpan rs member 0 (child_number rs member start) span → IsCoverComplete rs i
    → IsSpanHeld (take (seen_at rs i) entries) span Descendants
member_held rs entries i task begin number member start kind span known region barrier own mate its is
    complete index enough few =
    let ends = ends_at rs i task begin kind region in
    let to = is.to_there in
    let inside = begin_within rs member number start its in
    let child = child_with rs member start index (omega (arith, inside)) (omega (arith, few, to)) in
    let among = get_contains (children_before rs member start) child.0 index child.1.there in
    tree_held rs entries (seen_at rs i) span.root child.0 (span.path ++ index ∷ []) known
    (below index is.stands child.1.numbered)
    (λ t of.
    done_there rs i task t kind ends.endpoint ends.says
    (complete t (coverage.synchronised number region barrier own mate its among of)))

-- ---- and the other way round

waited_done : (rs : List Record) (entries : List Entry) (i task begin covered : ℕ) (span : Span)
    → IsKnown rs entries → IsRegion rs i task Taskwait begin
    → IsSpan rs task 0 (child_number rs task begin) span
    → IsSpanHeld (take (seen_at rs i) entries) span Children
    → Contains (children_before rs task begin) covered → IsCompleteAt rs covered i
waited_done rs entries i task begin covered span known region is held found =
    let ends = ends_at rs i task begin Taskwait region in
    let before = ends.below in
    let inside = ends.inside in
    let child = number_between rs task begin 0 covered (omega (arith, before, inside)) found in
    let from = is.from_there in
    let to = is.to_there in
    let few = child.few in
    complete_there rs i covered
    (pool_done rs entries (seen_at rs i) span.root task child.number covered span.path known is.stands
    child.numbered
    (held child.number (omega (arith, from)) (omega (arith, few, to))))

grouped_done : (rs : List Record) (entries : List Entry) (i task begin child covered : ℕ) (span : Span)
    → IsKnown rs entries → IsRegion rs i task Taskgroup begin
    → IsSpan rs task (child_number rs task begin) (child_number rs task i) span
    → IsSpanHeld (take (seen_at rs i) entries) span Descendants
    → Contains (children_between rs task begin i) child → IsFamily rs child covered
    → IsCompleteAt rs covered i
grouped_done rs entries i task begin child covered span known region is held found of =
    let ends = ends_at rs i task begin Taskgroup region in
    let inside = ends.inside in
    let numbered =
    number_between rs task i (child_number rs task begin) child (omega (arith, inside)) found in
    let from = is.from_there in
    let to = is.to_there in
    let enough = numbered.enough in
    let few = numbered.few in
    complete_there rs i covered
    (tree_done rs entries (seen_at rs i) span.root child covered (span.path ++ numbered.number ∷ []) known
    (below numbered.number is.stands numbered.numbered)
    (held numbered.number (omega (arith, enough, from)) (omega (arith, few, to))) of)

member_done : (rs : List Record) (entries : List Entry) (i member start number child covered : ℕ)
    (span : Span)
    → IsKnown rs entries → IsBarrierBegin rs member number start
    → IsSpan rs member 0 (child_number rs member start) span
    → IsSpanHeld (take (seen_at rs i) entries) span Descendants
    → Contains (children_before rs member start) child → IsFamily rs child covered → IsCompleteAt rs covered i
member_done rs entries i member start number child covered span known its is held found of =
    let inside = begin_within rs member number start its in
    let numbered = number_between rs member start 0 child (omega (arith, inside)) found in
    let from = is.from_there in
    let to = is.to_there in
    let few = numbered.few in
    complete_there rs i covered
    (tree_done rs entries (seen_at rs i) span.root child covered (span.path ++ numbered.number ∷ []) known
    (below numbered.number is.stands numbered.numbered)
    (held numbered.number (omega (arith, from)) (omega (arith, few, to))) of)

-- ---- the law

single : (P : Span → Type 0) (span other : Span) → P span → Contains (span ∷ []) other → P other
single P span other is (k, less, there) = subst P (first k less there) is
  where
    first : (k : ℕ) → k < 1 → Rattle.std.proofs.Common.get_or (span ∷ []) k other ≡ other → span ≡ other
    first k less there =
        let zero_there : k ≡ 0 = omega (arith, less) in
        ap (λ j. Rattle.std.proofs.Common.get_or (span ∷ []) j other) (sym zero_there) ∙ there

held_from : (rs : List Record) (entries : List Entry) (i : ℕ) (cover : Cover) (spans : List Span)
    → IsKnown rs entries → AreSpans rs i cover spans → IsCoverComplete rs i
    → AreHeldAt rs entries i cover spans
held_from rs entries i cover spans known (waited {task = task} {begin = begin} {span = own} region is)
    complete span found =
    single (λ s. IsSpanHeld (take (seen_at rs i) entries) s Children) own span
    (waited_held rs entries i task begin own known region is complete) found
held_from rs entries i cover spans known (grouped {task = task} {begin = begin} {span = own} region is)
    complete span found =
    single (λ s. IsSpanHeld (take (seen_at rs i) entries) s Descendants) own span
    (grouped_held rs entries i task begin own known region is complete) found
held_from rs entries i cover spans known
    (synchronised {task = task} {begin = begin} {kind = kind} number region barrier own are) complete
    span found =
    let there = contains_get spans span found in
    let (member, start, is_member, its, is) = are.each there.0 span there.1 in
    member_held rs entries i task begin number member start kind span known region barrier own
    (mate_of_number rs task there.0 member is_member) its is complete

waited_complete : (rs : List Record) (entries : List Entry) (i task begin covered : ℕ) (span : Span)
    → IsKnown rs entries → IsRegion rs i task Taskwait begin
    → IsSpan rs task 0 (child_number rs task begin) span
    → IsSpanHeld (take (seen_at rs i) entries) span Children → Covers rs i covered → IsCompleteAt rs covered i
waited_complete rs entries i task begin covered span known region is held
    (coverage.waited {parent = parent} {begin = start} other found) =
    let one = one_region rs i task parent begin start Taskwait Taskwait region other in
    let P : ℕ → ℕ → Type 0 = λ t b. Contains (children_before rs t b) covered in
    waited_done rs entries i task begin covered span known region is held
    (subst (λ b. Contains (children_before rs task b) covered) (sym one.begin_is)
    (subst (λ t. Contains (children_before rs t start) covered) (sym one.task_is) found))
waited_complete rs entries i task begin covered span known region is held
    (coverage.grouped {parent = parent} {begin = start} other found of) =
    let one = one_region rs i task parent begin start Taskwait Taskgroup region other in
    let kinds = one.kind_is in absurd (cc)
waited_complete rs entries i task begin covered span known region is held
    (coverage.synchronised {own = own} {begin = start} {kind = kind} number other barrier own_begin mate
    mate_begin found of) =
    let one = one_region rs i task own begin start Taskwait kind region other in
    absurd (false≢true (ap is_barrier one.kind_is ∙ barrier))

grouped_complete : (rs : List Record) (entries : List Entry) (i task begin covered : ℕ) (span : Span)
    → IsKnown rs entries → IsRegion rs i task Taskgroup begin
    → IsSpan rs task (child_number rs task begin) (child_number rs task i) span
    → IsSpanHeld (take (seen_at rs i) entries) span Descendants → Covers rs i covered
    → IsCompleteAt rs covered i
grouped_complete rs entries i task begin covered span known region is held
    (coverage.waited {parent = parent} {begin = start} other found) =
    let one = one_region rs i task parent begin start Taskgroup Taskwait region other in
    let kinds = one.kind_is in absurd (cc)
grouped_complete rs entries i task begin covered span known region is held
    (coverage.grouped {parent = parent} {begin = start} {child = child} other found of) =
    let one = one_region rs i task parent begin start Taskgroup Taskgroup region other in
    grouped_done rs entries i task begin child covered span known region is held
    (subst (λ b. Contains (children_between rs task b i) child) (sym one.begin_is)
    (subst (λ t. Contains (children_between rs t start i) child) (sym one.task_is) found)) of
grouped_complete rs entries i task begin covered span known region is held
    (coverage.synchronised {own = own} {begin = start} {kind = kind} number other barrier own_begin mate
    mate_begin found of) =
    let one = one_region rs i task own begin start Taskgroup kind region other in
    absurd (false≢true (ap is_barrier one.kind_is ∙ barrier))

-- the span of a teammate is among them
record HasSpan (rs : List Record) (task number member start : ℕ) (spans : List Span) : Type 0 where
  span : Span
  found : Contains spans span
  is : IsSpan rs member 0 (child_number rs member start) span

mate_span : (rs : List Record) (task number member start : ℕ) (spans : List Span) → IsFreeOf rs CreatedTwice
    → IsFreeOf rs TeamShort → AreMemberSpans rs task number spans → IsTeammate rs task member
    → IsBarrierBegin rs member number start → HasSpan rs task number member start spans
mate_span rs task number member start spans once whole are mate its =
    let numbered = number_of_mate rs task member mate in
    let inside = are.all numbered.0 member numbered.1 in
    of numbered.0 numbered.1 inside
  where
    of : (index : ℕ) → IsMemberNumbered rs task index member → index < length spans
        → HasSpan rs task number member start spans
    of index numbered inside =
        with_span (get_or spans index (record { from = 0; to = 0; root = 0; path = [] }))
        (slice_get-get_or spans index (record { from = 0; to = 0; root = 0; path = [] }) inside)
      where
        with_span : (span : Span) → slice_get spans index ≡ Some span
            → HasSpan rs task number member start spans
        with_span span there =
            let (other, place, other_numbered, other_its, is) = are.each index span there in
            let same = one_member rs task index index other member once whole other_numbered numbered refl in
            let P : ℕ → Type 0 = λ m. IsBarrierBegin rs m number place in
            let place_is : place ≡ start =
            Rattle.std.proofs.lemmas.Option.same_Some place start (sym (subst P same other_its) ∙ its) in
            record {
              span = span;
              found = get_contains spans span index there;
              is =
                  subst (λ p. IsSpan rs member 0 (child_number rs member p) span) place_is
                  (subst (λ m. IsSpan rs m 0 (child_number rs m place) span) same is);
            }

synchronised_complete : (rs : List Record) (entries : List Entry) (i task begin number covered : ℕ)
    (kind : SyncKind) (spans : List Span)
    → IsKnown rs entries → IsFreeOf rs TeamShort → IsRegion rs i task kind begin → is_barrier kind ≡ true
    → IsBarrierBegin rs task number begin → AreMemberSpans rs task number spans
    → AreHeldAt rs entries i Descendants spans → Covers rs i covered → IsCompleteAt rs covered i
synchronised_complete rs entries i task begin number covered kind spans known whole region barrier own are
    held (coverage.waited {parent = parent} {begin = start} other found) =
    let one = one_region rs i task parent begin start kind Taskwait region other in
    absurd (false≢true (ap is_barrier (sym one.kind_is) ∙ barrier))
synchronised_complete rs entries i task begin number covered kind spans known whole region barrier own are
    held (coverage.grouped {parent = parent} {begin = start} {child = child} other found of) =
    let one = one_region rs i task parent begin start kind Taskgroup region other in
    absurd (false≢true (ap is_barrier (sym one.kind_is) ∙ barrier))
synchronised_complete rs entries i task begin number covered kind spans known whole region barrier own are
    held
    (coverage.synchronised {own = self} {begin = start} {member = member} {start = its_start}
    {child = child} {kind = another} its_number other also self_own mate its found of) =
    let one = one_region rs i task self begin start kind another region other in
    let P : ℕ → ℕ → Type 0 = λ t b. IsBarrierBegin rs t its_number b in
    let here : IsBarrierBegin rs task its_number begin =
    subst (λ b. IsBarrierBegin rs task its_number b) (sym one.begin_is)
    (subst (λ t. IsBarrierBegin rs t its_number start) (sym one.task_is) self_own) in
    let number_is = one_number rs task its_number number begin here own in
    let its_begin : IsBarrierBegin rs member number its_start =
    subst (λ n. IsBarrierBegin rs member n its_start) number_is its in
    let has =
    mate_span rs task number member its_start spans known.once whole are
    (subst (λ t. IsTeammate rs t member) (sym one.task_is) mate) its_begin in
    member_done rs entries i member its_start number child covered has.span known its_begin has.is
    (held has.span has.found) found of

complete_from : (rs : List Record) (entries : List Entry) (i : ℕ) (cover : Cover) (spans : List Span)
    → IsKnown rs entries → IsFreeOf rs TeamShort → AreSpans rs i cover spans
    → AreHeldAt rs entries i cover spans → IsCoverComplete rs i
complete_from rs entries i cover spans known whole
    (waited {task = task} {begin = begin} {span = own} region is) held covered covers =
    waited_complete rs entries i task begin covered own known region is
    (held own (get_contains (own ∷ []) own 0 refl)) covers
complete_from rs entries i cover spans known whole
    (grouped {task = task} {begin = begin} {span = own} region is) held covered covers =
    grouped_complete rs entries i task begin covered own known region is
    (held own (get_contains (own ∷ []) own 0 refl)) covers
complete_from rs entries i cover spans known whole
    (synchronised {task = task} {begin = begin} {kind = kind} number region barrier own are) held
    covered covers =
    synchronised_complete rs entries i task begin number covered kind spans known whole region barrier own are
    held covers

pub held_is_complete : (rs : List Record) (entries : List Entry) (i : ℕ) (cover : Cover) (spans : List Span)
    → IsTrace rs → HasRightEntries rs → IsFreeOf rs TeamShort → IsLedgerOf rs entries
    → AreSpans rs i cover spans → IsCoverComplete rs i ↔ AreHeldAt rs entries i cover spans
held_is_complete rs entries i cover spans trace right whole are spans_are =
    let known = known_trace rs entries trace right are in (
      held_from rs entries i cover spans known spans_are,
      complete_from rs entries i cover spans known whole spans_are,
    )
