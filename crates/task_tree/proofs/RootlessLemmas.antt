-- Which records speak of a task without a root.
use Rattle.std.proofs.Common.{◌≡◌, ◌∙◌, ℕ, ◌<◌, ◌+◌, List, [], ◌∷◌, ◌++◌, length, get_or, Option, Some}
use Rattle.std.proofs.Common.{None, refl, sym, ap, subst, arith, inl, inr}
use Rattle.std.proofs.lemmas.Option.{none-some, same_Some, slice_get_within, slice_get-get_or}
use Rattle.std.proofs.lemmas.Bool.{false≢true, cases_eq}
use Rattle.std.proofs.lemmas.List.Elements.{All-nil}
use Rattle.std.specs.Prelude.{◌↔◌, ◌⊎◌, zero, suc, is_some, true, false, slice_get, Contains, IfSome}
use Rattle.std.specs.Prelude.{IsSomeAnd, IsTrue, Bool}
use Rattle.std.specs.Prelude.{option_map, option_and_then, option_to_list}
use Rattle.ompt_events.specs.declared.records.Record.{Record}
use Rattle.ompt_events.specs.declared.cause.Cause.{Cause}
use Rattle.ompt_events.specs.declared.cause.Cause.TheVariants.{Rootless}
use Rattle.ompt_events.specs.declared.fault.Fault.{Fault}
use Rattle.ompt_events.specs.declared.fault.Fault.TheVariants.{Memory, Malformed}
use Rattle.ompt_events.specs.Faults.{IsFault}
use Rattle.ompt_events.specs.Records.{made, named, created, creation, claim, region_named}
use Rattle.ompt_events.specs.Places.{at}
use Rattle.ompt_events.specs.Tree.{IsRoot, IsRooted, root as root_rooted, child as child_rooted, HasPath, top}
use Rattle.ompt_events.specs.Tree.{below}
use Rattle.ompt_events.specs.Causes.{IsMade, IsForked, HasNoRoot, unmade, unrooted, no_region, HasCause}
use Rattle.ompt_events.specs.Causes.{rootless, IsFreeOf}
use Rattle.ompt_events.specs.Shown.{AreAllBelow, AreAllWith}
use Rattle.ompt_events.proofs.PlaceLemmas.{at_get, at_within, none_from_test, some_and, and_some}
use Rattle.ompt_events.proofs.RecordLemmas.{begun_at_made, created_at_made}
use Rattle.ompt_events.proofs.TreeLemmas.{child_place}
use Rattle.ompt_events.proofs.ShownLemmas.{all_with}
use Rattle.ompt_events.proofs.ListLemmas.{contains_get, get_contains}
use Rattle.task_tree.specs.Makers.{AreNoted}
use Rattle.packed_trace.specs.Packed.{forked_region}
use Rattle.task_tree.specs.declared.roots.Standing.{Standing}
use Rattle.task_tree.specs.Roots.{AreRoots}
use Rattle.std.specs.List.{Any}
use Rattle.ompt_events.specs.declared.records.Body.{Body}
use Rattle.ompt_events.specs.declared.records.Body.TheVariants.{ParallelBegin, ParallelEnd, ImplicitTask}
use Rattle.ompt_events.specs.declared.records.Body.TheVariants.{TaskCreate, Dependences, TaskSchedule}
use Rattle.ompt_events.specs.declared.records.Body.TheVariants.{SyncRegion, Cancel}
use Rattle.ompt_events.specs.declared.records.Claim.{Claim}
use Rattle.index_tables.specs.Numbering.{AreApart}
use Rattle.task_tree.specs.Subjects.{Finds, AreFound, IsKnownAt}
use Rattle.packed_trace.specs.Named.{subject, object}
use Rattle.task_tree.specs.Rootless.{AreRootsMade, CreatesUnrooted, NamesNoRegion, IsRootless, NamesKnown}
use Rattle.task_tree.specs.Rootless.{AllNameKnown, IsMissing}
use Rattle.task_tree.specs.Tables.{AreTablesOf}
use Rattle.task_tree.specs.declared.tables.Tables.{Tables}
use Rattle.task_tree.proofs.MakerLemmas.{forked_at, region_at}

-- a task that stands below a root is rooted
pub path_rooted : (rs : List Record) (root task : ℕ) (path : List ℕ) → HasPath rs root task path
    → IsRooted rs task
path_rooted rs root task path (top is) = root_rooted is
path_rooted rs root task path (below number {parent = parent} {path = up} stands is) =
    let place = child_place rs parent (length rs) number task is in
    child_rooted place.0 place.2 (path_rooted rs root parent up stands)

-- a task is noted exactly where some record makes it, and a region where some record begins it
made_noted : (rs : List Record) (tasks : List ℕ) (task : ℕ) → AreNoted made rs (length rs) tasks
    → IsMade rs task → Contains tasks task
made_noted rs tasks task are (k, makes) = are.each k task (at_within made rs k task makes) makes

noted_made : (rs : List Record) (tasks : List ℕ) (task : ℕ) → AreNoted made rs (length rs) tasks
    → Contains tasks task → IsMade rs task
noted_made rs tasks task are has = let from = are.only task has in (from.0, from.2)

forked_noted : (rs : List Record) (regions : List ℕ) (region : ℕ)
    → AreNoted forked_region rs (length rs) regions → IsForked rs region → Contains regions region
forked_noted rs regions region are (k, task, forks) =
    let says = region_at rs k task region forks in
    are.each k region (at_within forked_region rs k region says) says

noted_forked : (rs : List Record) (regions : List ℕ) (region : ℕ)
    → AreNoted forked_region rs (length rs) regions → Contains regions region → IsForked rs region
noted_forked rs regions region are has =
    let from = are.only region has in
    let by = forked_at rs from.0 region from.2 in
    (from.0, by.0, by.1)

-- what a test of the record finds is that its place has the cause
pub rootless_here : (rs : List Record) (tasks regions : List ℕ) (roots : List (Option Standing)) (i : ℕ)
    (r : Record)
    → AreNoted made rs (length rs) tasks → AreNoted forked_region rs (length rs) regions
    → AreRoots rs tasks roots → slice_get rs i ≡ Some r → IsRootless tasks regions roots r.body
    → HasNoRoot rs i
rootless_here rs tasks regions roots i r noted begun are stands (inl (k, task, low, is, fresh)) =
    unmade task (r, stands, (k, low, is))
    (λ is_made. fresh (made_noted rs tasks task noted is_made))
rootless_here rs tasks regions roots i r noted begun are stands (inr (inl h)) =
    let found = some_and (created r.body) _ h in
    let creates : at created rs i ≡ Some found.0 = at_get created rs i r stands ∙ found.1 in
    let index =
    contains_get tasks found.0 (noted.each i found.0 (slice_get_within rs i r stands)
    (created_at_made found.0 rs i creates)) in
    unrooted found.0 creates (are.unrooted index.0 found.0 index.1 (found.2 index.0 index.1))
rootless_here rs tasks regions roots i r noted begun are stands (inr (inr h)) =
    let found = some_and (region_named r.body) _ h in
    no_region found.0 (at_get region_named rs i r stands ∙ found.1)
    (λ forks. found.2 (forked_noted rs regions found.0 begun forks))

-- and back
pub here_rootless : (rs : List Record) (tasks regions : List ℕ) (roots : List (Option Standing)) (i : ℕ)
    (r : Record)
    → AreNoted made rs (length rs) tasks → AreNoted forked_region rs (length rs) regions
    → AreRoots rs tasks roots → slice_get rs i ≡ Some r → HasNoRoot rs i
    → IsRootless tasks regions roots r.body
here_rootless rs tasks regions roots i r noted begun are here_is (unmade task (other, stands, has) fresh) =
    let same : other ≡ r = same_Some other r (sym stands ∙ here_is) in
    let P : Record → Type 0 = λ q. Contains (named q.body) task in
    let here = subst P same has in
    inl (here.0, task, here.1, here.2, λ is_noted. fresh (noted_made rs tasks task noted is_noted))
here_rootless rs tasks regions roots i r noted begun are here_is (unrooted task creates none) =
    inr
    (inl
    (and_some (created r.body)
    (λ t. (index : ℕ) → slice_get tasks index ≡ Some t → slice_get roots index ≡ Some None) task
    (sym (at_get created rs i r here_is) ∙ creates) (no_root task none)))
  where
    no_root : (t : ℕ) → (IsRooted rs t → ⊥) → (index : ℕ) → slice_get tasks index ≡ Some t
        → slice_get roots index ≡ Some None
    no_root t never index is =
        of (get_or roots index None)
        (slice_get-get_or roots index None
        (let inside = slice_get_within tasks index t is in omega (arith, inside, are.all)))
      where
        of : (o : Option Standing) → slice_get roots index ≡ Some o → slice_get roots index ≡ Some None
        of None e = e
        of (Some standing) e =
            let stands = are.rooted index t standing is e in
            absurd (never (path_rooted rs standing.root t stands.0 stands.1))
here_rootless rs tasks regions roots i r noted begun are here_is (no_region region names none) =
    inr
    (inr
    (and_some (region_named r.body) (λ g. Contains regions g → ⊥) region
    (sym (at_get region_named rs i r here_is) ∙ names)
    (λ has. none (noted_forked rs regions region begun has))))

pub no_root_at : (rs : List Record) (i : ℕ) → HasCause rs i Rootless → HasNoRoot rs i
no_root_at rs i (rootless h) = h

-- a record with the cause is one of the records
rootless_within : (rs : List Record) (i : ℕ) → HasNoRoot rs i → i < length rs
rootless_within rs i (unmade task (r, stands, has) fresh) = slice_get_within rs i r stands
rootless_within rs i (unrooted task creates none) = at_within created rs i task creates
rootless_within rs i (no_region region names none) = at_within region_named rs i region names

-- what decides of the record decides whether its place has the cause
pub decides_rootless : (rs : List Record) (tables : Tables) (i : ℕ) (r : Record) (shows : Bool)
    → AreTablesOf rs tables → slice_get rs i ≡ Some r
    → (IsTrue shows ↔ IsRootless tables.tasks tables.regions tables.roots.items r.body)
    → IsTrue shows ↔ HasNoRoot rs i
decides_rootless rs tables i r shows are stands decides = (
  λ shown.
      rootless_here rs tables.tasks tables.regions tables.roots.items i r are.noted are.regions are.roots
      stands
      (decides.0 shown),
  λ has.
      decides.1
      (here_rootless rs tables.tasks tables.regions tables.roots.items i r are.noted are.regions are.roots
      stands has),
)

pub all_rootless : (rs : List Record) (n : ℕ) (places : List ℕ) → length rs ≡ n
    → AreAllBelow (HasNoRoot rs) n places → AreAllWith rs Rootless places
all_rootless rs n places long are =
    all_with rs Rootless (HasNoRoot rs) n places long (λ i here. rootless here) (λ i has.
    let here = no_root_at rs i has in
    (let inside = rootless_within rs i here in omega (arith, inside, long), here)) are

pub none_rootless : (rs : List Record) → IsFreeOf rs Rootless → AreAllWith rs Rootless []
none_rootless rs free = record {
  rising = λ i j d less within. absurd (omega arith);
  within = All-nil (λ place. place < length rs);
  hold = All-nil (λ i. HasCause rs i Rootless);
  complete = λ i has. absurd (free i has);
}

-- a search for a cause that does not occur fails for memory alone
pub free_memory : (rs : List Record) (cause : Cause) (fault : Fault) → IsFreeOf rs cause
    → IsFault rs (cause ∷ []) fault → fault ≡ Memory
free_memory rs cause Memory free is = refl
free_memory rs cause (Malformed i told) free is = absurd (of is.sought_for is.found.has)
  where
    of : Contains (cause ∷ []) told → HasCause rs i told → ⊥
    of (zero, low, same) has = let P : Cause → Type 0 = HasCause rs i in free i (subst P (sym same) has)
    of (suc k, low, same) has = absurd (omega (arith, low))

-- ---- what decides of a record, by the slots of its subject and its object

any_head : (P : ℕ → Type 0) (x : ℕ) (xs : List ℕ) → Any P (x ∷ xs) → P x ⊎ Any P xs
any_head P x xs (zero, y, low, is, holds) = inl (subst P (sym is) holds)
any_head P x xs (suc k, y, low, is, holds) = inr (k, y, omega (arith, low), is, holds)

any_none : (P : ℕ → Type 0) → Any P [] → ⊥
any_none P (k, y, low, is, holds) = omega (arith, low)

head_any : (P : ℕ → Type 0) (x : ℕ) (xs : List ℕ) → P x → Any P (x ∷ xs)
head_any P x xs holds = (0, x, omega arith, refl, holds)

tail_any : (P : ℕ → Type 0) (x : ℕ) (xs : List ℕ) → Any P xs → Any P (x ∷ xs)
tail_any P x xs (k, y, low, is, holds) = (suc k, y, omega (arith, low), is, holds)

-- one task, and up to two more
named_parts : (P : ℕ → Type 0) (x : ℕ) (second third : Option ℕ)
    → Any P (x ∷ option_to_list second ++ option_to_list third)
    → P x ⊎ (IsSomeAnd second P ⊎ IsSomeAnd third P)
named_parts P x None None has =
    elim (any_head P x [] has) [ inl first ↦ inl first | inr rest ↦ absurd (any_none P rest) ]
named_parts P x (Some y) None has = elim (any_head P x (y ∷ []) has) [
  | inl first ↦ inl first
  | inr rest ↦
      elim (any_head P y [] rest) [ inl second ↦ inr (inl second) | inr none ↦ absurd (any_none P none) ]
]
named_parts P x None (Some z) has = elim (any_head P x (z ∷ []) has) [
  | inl first ↦ inl first
  | inr rest ↦
      elim (any_head P z [] rest) [ inl third ↦ inr (inr third) | inr none ↦ absurd (any_none P none) ]
]
named_parts P x (Some y) (Some z) has = elim (any_head P x (y ∷ z ∷ []) has) [
  | inl first ↦ inl first
  | inr rest ↦ elim (any_head P y (z ∷ []) rest) [
    | inl second ↦ inr (inl second)
    | inr more ↦
        elim (any_head P z [] more) [ inl third ↦ inr (inr third) | inr none ↦ absurd (any_none P none) ]
  ]
]

parts_named : (P : ℕ → Type 0) (x : ℕ) (second third : Option ℕ)
    → P x ⊎ (IsSomeAnd second P ⊎ IsSomeAnd third P)
    → Any P (x ∷ option_to_list second ++ option_to_list third)
parts_named P x second third (inl first) = head_any P x (option_to_list second ++ option_to_list third) first
parts_named P x (Some y) third (inr (inl second)) =
    tail_any P x (y ∷ option_to_list third) (head_any P y (option_to_list third) second)
parts_named P x None third (inr (inl second)) = absurd second
parts_named P x second None (inr (inr third)) = absurd third
parts_named P x None (Some z) (inr (inr third)) = tail_any P x (z ∷ []) (head_any P z [] third)
parts_named P x (Some y) (Some z) (inr (inr third)) =
    tail_any P x (y ∷ z ∷ []) (tail_any P y (z ∷ []) (head_any P z [] third))

-- an empty slot means that no record makes the task
missing_fresh : (tasks : List ℕ) (found slot : Option ℕ) → Finds tasks found slot → IsMissing found slot
    → IsSomeAnd found (λ task. Contains tasks task → ⊥)
missing_fresh tasks None slot finds missing = absurd missing
missing_fresh tasks (Some task) None finds missing = finds task refl
missing_fresh tasks (Some task) (Some index) finds missing = absurd (none-some index (sym missing))

fresh_missing : (tasks : List ℕ) (found slot : Option ℕ) → Finds tasks found slot
    → IsSomeAnd found (λ task. Contains tasks task → ⊥) → IsMissing found slot
fresh_missing tasks None slot finds fresh = absurd fresh
fresh_missing tasks (Some task) None finds fresh = refl
fresh_missing tasks (Some task) (Some index) (other, is, stands) fresh =
    absurd (fresh (get_contains tasks task index (stands ∙ sym is)))

named_by : (P : ℕ → Type 0) (b : Body)
    → Any P (named b)
    ↔ (IsSomeAnd (subject b) P
    ⊎ (IsSomeAnd (object b) P ⊎ IsSomeAnd (option_map (λ (c : Claim). c.root) (claim b)) P))
named_by P (ParallelBegin requested task parallel) =
    (named_parts P task None None, parts_named P task None None)
named_by P (ParallelEnd task parallel) = (named_parts P task None None, parts_named P task None None)
named_by P (ImplicitTask endpoint actual index given parallel task) =
    (named_parts P task None None, parts_named P task None None)
named_by P (TaskCreate deps given task child) =
    (named_parts P task (Some child) None, parts_named P task (Some child) None)
named_by P (Dependences task list) = (named_parts P task None None, parts_named P task None None)
named_by P (TaskSchedule status turns prior next claimed) = (
  named_parts P prior next (option_map (λ (c : Claim). c.root) claimed),
  parts_named P prior next (option_map (λ (c : Claim). c.root) claimed),
)
named_by P (SyncRegion kind endpoint parallel task) =
    (named_parts P task None None, parts_named P task None None)
named_by P (Cancel given task claimed) = (
  named_parts P task None (option_map (λ (c : Claim). c.root) claimed),
  parts_named P task None (option_map (λ (c : Claim). c.root) claimed),
)
named_by P _ = (
  λ has.
      absurd (any_none P has),
  λ parts.
      elim parts [
        | inl first ↦
            absurd first
        | inr more ↦
            elim more [ inl second ↦ absurd second | inr third ↦ absurd third ]
      ],
)

claim_root : (P : ℕ → Type 0) (claimed : Option Claim)
    → IsSomeAnd claimed (λ c. P c.root) ↔ IsSomeAnd (option_map (λ (c : Claim). c.root) claimed) P
claim_root P None = (λ h. h, λ h. h)
claim_root P (Some c) = (λ h. h, λ h. h)

no_and : {X : Type 0} (o : Option X) (P : X → Type 0) → o ≡ None → IsSomeAnd o P → ⊥
no_and None P none h = h
no_and (Some x) P none h = none-some x (sym none)

-- an empty slot alone
pub subject_missing : (tasks regions : List ℕ) (roots : List (Option Standing)) (b : Body) (first : Option ℕ)
    → Finds tasks (subject b) first → IsMissing (subject b) first → IsRootless tasks regions roots b
subject_missing tasks regions roots b first finds none =
    inl
    ((named_by (λ t. Contains tasks t → ⊥) b).1 (inl (missing_fresh tasks (subject b) first finds none)))

pub object_missing : (tasks regions : List ℕ) (roots : List (Option Standing)) (b : Body) (second : Option ℕ)
    → Finds tasks (object b) second → IsMissing (object b) second → IsRootless tasks regions roots b
object_missing tasks regions roots b second finds none =
    inl
    ((named_by (λ t. Contains tasks t → ⊥) b).1
    (inr (inl (missing_fresh tasks (object b) second finds none))))

-- where no slot is empty and the claim is of a task that is made, it is the child or the region
pub rest_of : (tasks regions : List ℕ) (roots : List (Option Standing)) (b : Body) (first second : Option ℕ)
    → Finds tasks (subject b) first → Finds tasks (object b) second → (IsMissing (subject b) first → ⊥)
    → (IsMissing (object b) second → ⊥) → (IsSomeAnd (claim b) (λ c. Contains tasks c.root → ⊥) → ⊥)
    → IsRootless tasks regions roots b → CreatesUnrooted tasks roots b ⊎ NamesNoRegion regions b
rest_of tasks regions roots b first second finds found full filled claimed (inl has) =
    elim ((named_by (λ t. Contains tasks t → ⊥) b).0 has) [
      | inl fresh ↦ absurd (full (fresh_missing tasks (subject b) first finds fresh))
      | inr more ↦ elim more [
        | inl fresh ↦ absurd (filled (fresh_missing tasks (object b) second found fresh))
        | inr fresh ↦ absurd (claimed ((claim_root (λ t. Contains tasks t → ⊥) (claim b)).1 fresh))
      ]
    ]
rest_of tasks regions roots b first second finds found full filled claimed (inr rest) = rest

pub claim_rootless : (tasks regions : List ℕ) (roots : List (Option Standing)) (b : Body)
    (claimed : Option Claim)
    → claim b ≡ claimed → IsSomeAnd claimed (λ c. Contains tasks c.root → ⊥)
    → IsRootless tasks regions roots b
claim_rootless tasks regions roots b claimed is has =
    let P : Option Claim → Type 0 = λ o. IsSomeAnd o (λ c. Contains tasks c.root → ⊥) in
    inl
    ((named_by (λ t. Contains tasks t → ⊥) b).1
    (inr (inr ((claim_root (λ t. Contains tasks t → ⊥) (claim b)).0 (subst P (sym is) has)))))

-- the index in a slot is that of a task
pub slot_low : (tasks : List ℕ) (roots : List (Option Standing)) (found slot : Option ℕ)
    → length roots ≡ length tasks → Finds tasks found slot → IfSome slot (λ index. index < length roots)
slot_low tasks roots found None all finds = tt
slot_low tasks roots found (Some index) all (task, is, stands) =
    let inside = slice_get_within tasks index task stands in omega (arith, inside, all)

-- a record that creates no task
pub no_child : (tasks : List ℕ) (roots : List (Option Standing)) (b : Body) → is_some (creation b) ≡ false
    → CreatesUnrooted tasks roots b → ⊥
no_child tasks roots b none has =
    no_and (created b) (λ t. (index : ℕ) → slice_get tasks index ≡ Some t → slice_get roots index ≡ Some None)
    (ap (option_map (λ (p : ℕ × ℕ). p.1)) (none_from_test (creation b) none)) has

-- and one that creates a task, whose index is in the slot
pub unrooted_child : (tasks : List ℕ) (roots : List (Option Standing)) (b : Body) (second : Option ℕ)
    → AreApart tasks → Finds tasks (object b) second → (IsMissing (object b) second → ⊥)
    → is_some (creation b) ≡ true
    → ((index : ℕ) → second ≡ Some index → slice_get roots index ≡ Some None) ↔ CreatesUnrooted tasks roots b
unrooted_child tasks roots (TaskCreate deps given task child) None apart finds filled some =
    absurd (filled refl)
unrooted_child tasks roots (TaskCreate deps given task child) (Some at) apart (other, says, stands) filled
    some =
    let same : other ≡ child = same_Some other child (sym says) in (
      λ none index is. none index (ap Some (apart at index child (stands ∙ ap Some same) is)),
      λ has index is. has index (ap (slice_get tasks) (sym (same_Some at index is)) ∙ stands ∙ ap Some same),
    )
unrooted_child tasks roots _ second apart finds filled some = absurd (false≢true some)

-- a chain of parents ends at a root
path_root : (rs : List Record) (root task : ℕ) (path : List ℕ) → HasPath rs root task path → IsRoot rs root
path_root rs root task path (top is) = is
path_root rs root task path (below number {parent = parent} {path = up} stands is) =
    path_root rs root parent up stands

-- each root that is known is made
pub roots_made : (rs : List Record) (tasks : List ℕ) (roots : List (Option Standing))
    → AreNoted made rs (length rs) tasks → AreRoots rs tasks roots → AreRootsMade tasks roots
roots_made rs tasks roots noted are index standing is =
    let low = slice_get_within roots index (Some standing) is in
    let stands =
    are.rooted index (get_or tasks index 0) standing
    (slice_get-get_or tasks index 0 (omega (arith, low, are.all))) is in
    let top_is = path_root rs standing.root (get_or tasks index 0) stands.0 stands.1 in
    made_noted rs tasks standing.root noted (top_is.0, begun_at_made standing.root rs top_is.0 top_is.1)

-- what the slot of a place holds
pub finds_there : (says : Body → Option ℕ) (rs : List Record) (tasks : List ℕ) (slots : List (Option ℕ))
    (i : ℕ)
    (slot : Option ℕ) → AreFound says rs (length rs) tasks slots → i < length rs
    → slot ≡ get_or slots i slot → Finds tasks (at says rs i) slot
finds_there says rs tasks slots i slot are within here =
    let found = are.each i within in
    let Q : Option ℕ → Type 0 = λ o. Finds tasks (at says rs i) o in
    let same : found.0 ≡ slot =
    same_Some found.0 slot
    (sym found.1 ∙ slice_get-get_or slots i slot (omega (arith, within, are.all)) ∙ ap Some (sym here)) in
    subst Q same found.2

-- ---- where all that the records name is known

pub known_start : (rs : List Record) (tasks regions : List ℕ) → AllNameKnown rs 0 tasks regions
known_start rs tasks regions i r low = absurd (omega arith)

pub known_more : (rs : List Record) (n : ℕ) (tasks regions : List ℕ) (r : Record)
    → AllNameKnown rs n tasks regions → slice_get rs n ≡ Some r → NamesKnown tasks regions r.body
    → AllNameKnown rs (n + 1) tasks regions
known_more rs n tasks regions r are here known i other low stands = elim (cases_eq i n) [
  | inl same ↦
      let P : Record → Type 0 = λ q. NamesKnown tasks regions q.body in
      subst P (same_Some r other (sym here ∙ ap (slice_get rs) (sym same) ∙ stands)) known
  | inr apart ↦ are i other (omega arith) stands
]

-- if each task and region that the record at a place names is known, so it is of its body
pub named_known : (rs : List Record) (tasks regions : List ℕ) (i : ℕ) (r : Record) → slice_get rs i ≡ Some r
    → IsKnownAt tasks regions rs i → NamesKnown tasks regions r.body
named_known rs tasks regions i r stands known = (
  λ unmade_one.
      elim ((named_by (λ t. Contains tasks t → ⊥) r.body).0 unmade_one) [
        | inl fresh ↦ not_both (subject r.body) (Contains tasks)
            (rw (at_get subject rs i r stands) at known.first) fresh
        | inr more ↦ elim more [
          | inl fresh ↦
              not_both (object r.body) (Contains tasks) (rw (at_get object rs i r stands) at known.second)
              fresh
          | inr fresh ↦
              not_both (claim r.body) (λ (c : Claim). Contains tasks c.root)
              (rw (at_get claim rs i r stands) at known.root)
              ((claim_root (λ t. Contains tasks t → ⊥) (claim r.body)).1 fresh)
        ]
      ],
  λ none. not_both (region_named r.body) (Contains regions)
      (rw (at_get region_named rs i r stands) at known.region) none,
)
  where
    not_both : {X : Type 0} (o : Option X) (P : X → Type 0) → IfSome o P → IsSomeAnd o (λ x. P x → ⊥) → ⊥
    not_both None P holds never = never
    not_both (Some x) P holds never = never holds

-- and each root too, no record is rootless
pub known_free : (rs : List Record) (tasks regions : List ℕ) (roots : List (Option Standing))
    → AreNoted made rs (length rs) tasks → AreNoted forked_region rs (length rs) regions
    → AreRoots rs tasks roots → AllNameKnown rs (length rs) tasks regions
    → ((index : ℕ) → slice_get roots index ≡ Some None → ⊥) → IsFreeOf rs Rootless
known_free rs tasks regions roots noted begun are known full i has = never (no_root_at rs i has)
  where
    rooted : (index task : ℕ) → slice_get tasks index ≡ Some task → (o : Option Standing)
        → slice_get roots index ≡ Some o → IsRooted rs task
    rooted index task is None e = absurd (full index e)
    rooted index task is (Some standing) e =
        let stands = are.rooted index task standing is e in
        path_rooted rs standing.root task stands.0 stands.1

    named_there : (region : ℕ) → (IsForked rs region → ⊥) → i < length rs → (o : Option Record)
        → slice_get rs i ≡ o → option_and_then (λ (r : Record). region_named r.body) o ≡ Some region → ⊥
    named_there region none low None e is = none-some region is
    named_there region none low (Some r) e is =
        (known i r low e).1
        (and_some (region_named r.body) (λ g. Contains regions g → ⊥) region is
        (λ noted_region. none (noted_forked rs regions region begun noted_region)))

    never : HasNoRoot rs i → ⊥
    never (unmade task (r, stands, names) fresh) =
        (known i r (slice_get_within rs i r stands) stands).0
        (names.0, task, names.1, names.2, λ is_noted. fresh (noted_made rs tasks task noted is_noted))
    never (unrooted task creates none) =
        let low = at_within created rs i task creates in
        let index = contains_get tasks task (noted.each i task low (created_at_made task rs i creates)) in
        none
        (rooted index.0 task index.1 (get_or roots index.0 None)
        (slice_get-get_or roots index.0 None
        (let inside = slice_get_within tasks index.0 task index.1 in
        omega (arith, inside, are.all))))
    never (no_region region names none) =
        named_there region none (at_within region_named rs i region names) (slice_get rs i) refl names
