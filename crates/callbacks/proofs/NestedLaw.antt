-- No parallel region is inside another where none may be, and elsewhere a root begins inside another one only
-- of a region that the current task has begun on its thread.
use Rattle.std.proofs.Common.{◌≡◌, ◌∙◌, ◌≢◌, ℕ, suc, ◌+◌, ◌<◌, Bool, true, false, List, [], ◌∷◌, length}
use Rattle.std.proofs.Common.{take, Option, Some, None, refl, sym, ap, arith, inl, inr}
use Rattle.std.specs.Prelude.{◌==◌, ◌&&◌, ◌||◌, not, slice_get, fold, is_some, is_none, option_map}
use Rattle.std.specs.Prelude.{if◌then◌else◌}
use Rattle.std.specs.List.{list_any}
use Rattle.std.specs.Option.{option_map_or}
use Rattle.std.proofs.lemmas.Bool.{and_parts, or_cases, not-true, false≢true, eqb-true}
use Rattle.std.proofs.lemmas.Bool.{cases_order}
use Rattle.std.proofs.lemmas.Option.{none-some, slice_get_within}
use Rattle.ompt_events.specs.declared.records.Record.{Record}
use Rattle.ompt_events.specs.declared.records.Body.{Body}
use Rattle.ompt_events.specs.declared.records.Body.TheVariants.{ImplicitTask}
use Rattle.ompt_events.specs.declared.records.Membership.{Membership}
use Rattle.ompt_events.specs.declared.names.Endpoint.TheVariants.{Begin}
use Rattle.ompt_events.specs.declared.cause.Cause.TheVariants.{CreatedTwice, NestedParallel, RegionNesting}
use Rattle.ompt_events.specs.Flags as flag
use Rattle.ompt_events.specs.Flags.{has_flag}
use Rattle.ompt_events.specs.Records.{made, forked, joined, begun_initial}
use Rattle.ompt_events.specs.Places.{at}
use Rattle.ompt_events.specs.States.{is_task}
use Rattle.ompt_events.specs.Teams.{IsInitial, IsMember}
use Rattle.ompt_events.specs.Threads as threads
use Rattle.ompt_events.specs.Threads.{Walk, after_record, walk_of}
use Rattle.ompt_events.specs.Causes.{HasBegun, IsMadeAgain, IsNested, IsMisnested, IsFreeOf, created_twice}
use Rattle.ompt_events.specs.Causes.{nested_parallel, forked_inside, joined_inside, initial_inside}
use Rattle.ompt_events.specs.Causes.{region_nesting, other_region, other_league}
use Rattle.ompt_events.proofs.PlaceLemmas.{none_from_test, at_get, get_at}
use Rattle.ompt_events.proofs.ListLemmas.{get_within}
use Rattle.credit_ledger.proofs.EntryLemmas.{get_take}
use Rattle.callbacks.specs.Begun.{begins_it, begins_one, has_begun, has_begun_one}
use Rattle.callbacks.specs.Standing.{Standing, standing_of, innermost, is_outside, begins_own_region, allows}
use Rattle.callbacks.specs.Closed.{ClosedView, AreClosed}
use Rattle.callbacks.specs.Gathered.{gathered, HaveOwnThreads}
use Rattle.callbacks.proofs.GatherLemmas.{IsGathered, from_buffer, in_gathered, follows_of, buffer_of}
use Rattle.callbacks.proofs.GatherLemmas.{buffer_before}
use Rattle.callbacks.proofs.StandingLemmas.{walk_along, kinds_along}
use Rattle.callbacks.proofs.ThreadLaws.{allowed_outside, allowed_own, nests_get}

-- a member of a team
abbrev as_member : ℕ → ℕ → ℕ → ℕ → Membership
as_member actual index parallel task =
    record { parallel = parallel; actual = actual; index = index; member = task }

-- ---- what one record makes

initial_made : (body : Body) (task : ℕ) → begun_initial body ≡ Some task → made body ≡ Some task
initial_made (ImplicitTask Begin actual index given parallel root) task is =
    begins (has_flag given.0 flag.initial) is
  where
    begins : (b : Bool) → (if b then Some root else None) ≡ Some task → Some root ≡ Some task
    begins true is = is
    begins false is = absurd (none-some task is)
initial_made _ task is = absurd (none-some task is)

member_made : (body : Body) (m : Membership) → joined body ≡ Some m → made body ≡ Some m.member
member_made (ImplicitTask Begin actual index given parallel root) m is =
    begins (has_flag given.0 flag.initial) is
  where
    begins : (b : Bool)
        → (if b then None else Some (as_member actual index parallel root)) ≡ Some m
        → Some root ≡ Some m.member
    begins true is = absurd (none-some m is)
    begins false is = ap (option_map (λ (n : Membership). n.member)) is
member_made _ m is = absurd (none-some m is)

initial_or_member : (body : Body) (task : ℕ) (m : Membership) → begun_initial body ≡ Some task
    → joined body ≡ Some m → ⊥
initial_or_member (ImplicitTask Begin actual index given parallel root) task m is joins =
    begins (has_flag given.0 flag.initial) is joins
  where
    begins : (b : Bool) → (if b then Some root else None) ≡ Some task
        → (if b then None else Some (as_member actual index parallel root)) ≡ Some m → ⊥
    begins true is joins = none-some m joins
    begins false is joins = none-some task is
initial_or_member _ task m is joins = none-some task is

-- no task is made by two records
abbrev pub AreMadeOnce : List Record → Type 0
AreMadeOnce rs = (i : ℕ) → IsMadeAgain rs i → ⊥

-- so a record that makes a task is the only one that does
made_once : (rs : List Record) (i k task : ℕ) → AreMadeOnce rs → at made rs i ≡ Some task
    → at made rs k ≡ Some task → i ≡ k
made_once rs i k task once first second = elim (cases_order i k) [
  | inl same ↦ same
  | inr (inl less) ↦ absurd (once k (task, i, less, first, second))
  | inr (inr more) ↦ absurd (once i (task, k, more, second, first))
]

-- no initial task is the member of a team
initial_no_member : (rs : List Record) (task : ℕ) → AreMadeOnce rs → IsInitial rs task
    → IsMember rs task → ⊥
initial_no_member rs task once (i, begins) (k, m, joins, is) =
    let (r, here, begins_it) = get_at begun_initial rs i task begins in
    let (q, there, joins_it) = get_at joined rs k m joins in
    let first = at_get made rs i r here ∙ initial_made r.body task begins_it in
    let second = at_get made rs k q there ∙ member_made q.body m joins_it ∙ ap Some is in
    let same = made_once rs i k task once first second in
    let joins_too = sym (at_get joined rs i r here) ∙ ap (at joined rs) same ∙ joins in
    initial_or_member r.body task m begins_it joins_too

-- ---- what comes outside

task_found : (o : Option ℕ) (task : ℕ) → is_task task o ≡ true → o ≡ Some task
task_found None task is = absurd (false≢true is)
task_found (Some t) task is = ap Some (eqb-true t task is)

-- the innermost open root is an initial task, or a member
abbrev is_initial : Standing → Bool
is_initial s = option_map_or (λ b. b) (slice_get s.initial 0) false

abbrev is_member : Standing → Bool
is_member s = option_map_or not (slice_get s.initial 0) false

initial_found : (o : Option Bool) → option_map_or (λ b. b) o false ≡ true → o ≡ Some true
initial_found None is = absurd (false≢true is)
initial_found (Some b) is = ap Some is

no_member_found : (o : Option Bool) (b : Bool) → o ≡ Some b → option_map_or not o false ≡ false
    → o ≡ Some true
no_member_found None b some is = absurd (none-some b some)
no_member_found (Some true) b some is = refl
no_member_found (Some false) b some is = absurd (false≢true (sym is))

is_none_found : (o : Option ℕ) → is_none o ≡ true → o ≡ None
is_none_found None is = refl
is_none_found (Some task) is = absurd (false≢true is)

-- the three parts of it
record IsOutside (s : Standing) (body : Body) : Type 0 where
  forks : option_map_or (λ (f : ℕ × ℕ). is_task f.0 (innermost s) && is_initial s) (forked body) true ≡ true
  joins : (is_some (joined body) && is_member s) ≡ false
  begins : (is_some (begun_initial body) && is_some (innermost s)) ≡ false

outside_parts : (s : Standing) (body : Body) → is_outside s body ≡ true → IsOutside s body
outside_parts s body outside =
    let forks = option_map_or (λ (f : ℕ × ℕ). is_task f.0 (innermost s) && is_initial s) (forked body) true in
    let joins = is_some (joined body) && is_member s in
    let begins = is_some (begun_initial body) && is_some (innermost s) in
    let (first, last) = and_parts (forks && not joins) (not begins) outside in
    let (fork, join) = and_parts forks (not joins) first in
    record { forks = fork; joins = not-true joins join; begins = not-true begins last }

-- a region begins by the innermost open root, which is an initial task
outside_forked : (s : Standing) (body : Body) (task parallel : ℕ) → is_outside s body ≡ true
    → forked body ≡ Some (task, parallel)
    → (innermost s ≡ Some task) × (slice_get s.initial 0 ≡ Some true)
outside_forked s body task parallel outside forks =
    let both = and_parts (is_task task (innermost s)) (is_initial s)
    (sym (ap (λ o. option_map_or (λ (f : ℕ × ℕ). is_task f.0 (innermost s) && is_initial s) o true) forks)
    ∙ (outside_parts s body outside).forks) in
    (task_found (innermost s) task both.0, initial_found (slice_get s.initial 0) both.1)

outside_joined : (s : Standing) (body : Body) (m : Membership) → is_outside s body ≡ true
    → joined body ≡ Some m → is_member s ≡ false
outside_joined s body m outside joins =
    sym (ap (λ (o : Option Membership). is_some o && is_member s) joins)
    ∙ (outside_parts s body outside).joins

outside_initial : (s : Standing) (body : Body) (task : ℕ) → is_outside s body ≡ true
    → begun_initial body ≡ Some task → innermost s ≡ None
outside_initial s body task outside begins =
    none_from_test (innermost s)
    (sym (ap (λ (o : Option ℕ). is_some o && is_some (innermost s)) begins)
    ∙ (outside_parts s body outside).begins)

none_open : (roots : List ℕ) → slice_get roots 0 ≡ None → roots ≡ []
none_open [] none = refl
none_open (root ∷ roots) none = absurd (none-some root (sym none))

-- ---- by the records of a thread before a record

-- one of them stands before it, with this body
pub record IsEarlier (rs : List Record) (i : ℕ) (r : Record) (body : Body) : Type 0 where
  pub place : ℕ
  pub other : Record
  pub before : place < i
  pub stands : slice_get rs place ≡ Some other
  pub same_thread : other.thread ≡ r.thread
  pub has : other.body ≡ body

-- they allow the record, and the thread's walk there is theirs
pub record IsAllowedBy (rs : List Record) (i : ℕ) (r : Record) (own : List Record) : Type 0 where
  pub allowed : allows r.nests own r.body ≡ true
  pub walk : walk_of r.thread (take i rs) ≡ (standing_of own).walk
  pub earlier : (p : ℕ) (q : Record) → slice_get own p ≡ Some q → IsEarlier rs i r q.body

-- so it is with each record
abbrev pub AreAllowed : List Record → Type 0
AreAllowed rs = (i : ℕ) (r : Record) → slice_get rs i ≡ Some r → (own : List Record) × IsAllowedBy rs i r own

at_earlier : {Val : Type 0} (f : Body → Option Val) (rs : List Record) (i : ℕ) (r : Record) (body : Body)
    (early : IsEarlier rs i r body) → at f rs early.place ≡ f body
at_earlier f rs i r body early = at_get f rs early.place early.other early.stands ∙ ap f early.has

outside_of : (rs : List Record) (i : ℕ) (r : Record) (own : List Record) → IsAllowedBy rs i r own
    → r.nests ≡ false → is_outside (standing_of own) r.body ≡ true
outside_of rs i r own by flat = allowed_outside r.nests own r.body flat by.allowed

begun_initially : (rs : List Record) (i : ℕ) (r : Record) (own : List Record) (task : ℕ)
    → IsAllowedBy rs i r own → innermost (standing_of own) ≡ Some task
    → slice_get (standing_of own).initial 0 ≡ Some true → IsInitial rs task
begun_initially rs i r own task by is kind =
    let (p, q, there, begins) = (kinds_along own).begun 0 task is kind in
    let early = by.earlier p q there in
    (early.place, at_earlier begun_initial rs i r q.body early ∙ begins)

-- ---- where no region may lie inside another one

not_nested : (rs : List Record) (i : ℕ) → AreAllowed rs → AreMadeOnce rs → IsNested rs i → ⊥
not_nested rs i are once (forked_inside task parallel barred forks other) =
    let (r, is, forks_it) = get_at forked rs i (task, parallel) forks in
    let (own, by) = are i r is in
    let outside = outside_of rs i r own by (nests_get rs i r false is barred) in
    let (inner, kind) = outside_forked (standing_of own) r.body task parallel outside forks_it in
    other (begun_initially rs i r own task by inner kind)
not_nested rs i are once (joined_inside m walk outer barred joins (r, is, walk_is) top member) =
    let (own, by) = are i r is in
    let s = standing_of own in
    let outside = outside_of rs i r own by (nests_get rs i r false is barred) in
    let joins_it = sym (at_get joined rs i r is) ∙ joins in
    let none = outside_joined s r.body m outside joins_it in
    let inner : innermost s ≡ Some outer =
    ap (λ (w : Walk). slice_get w.roots 0) (sym (walk_is ∙ by.walk)) ∙ top in
    let within = slice_get_within s.walk.roots 0 outer inner in
    let (b, some) = get_within s.initial 0 (omega (arith, within, (kinds_along own).as_long)) in
    let kind = no_member_found (slice_get s.initial 0) b some none in
    initial_no_member rs outer once (begun_initially rs i r own outer by inner kind) member
not_nested rs i are once (initial_inside task walk barred begins (r, is, walk_is) some) =
    let (own, by) = are i r is in
    let s = standing_of own in
    let outside = outside_of rs i r own by (nests_get rs i r false is barred) in
    let begins_it = sym (at_get begun_initial rs i r is) ∙ begins in
    let none = outside_initial s r.body task outside begins_it in
    some (ap (λ (w : Walk). w.roots) (walk_is ∙ by.walk) ∙ none_open s.walk.roots none)

pub none_nested_where_allowed : (rs : List Record) → AreAllowed rs → AreMadeOnce rs
    → IsFreeOf rs NestedParallel
none_nested_where_allowed rs are once i (nested_parallel nested) = not_nested rs i are once nested

-- ---- where regions may lie inside others

found_at : (p : Record → Bool) (own : List Record) → list_any p own ≡ true
    → (k : ℕ) × (q : Record) × (slice_get own k ≡ Some q) × (p q ≡ true)
found_at p [] is = absurd (false≢true is)
found_at p (r ∷ own) is = first (p r) refl is (found_at p own)
  where
    first : (b : Bool) → p r ≡ b → (b || list_any p own) ≡ true
        → (list_any p own ≡ true → (k : ℕ) × (q : Record) × (slice_get own k ≡ Some q) × (p q ≡ true))
        → (k : ℕ) × (q : Record) × (slice_get (r ∷ own) k ≡ Some q) × (p q ≡ true)
    first true here is later = (0, r, refl, here)
    first false here is later = let (k, q, there, holds) = later is in (suc k, q, there, holds)

begins_this : (task parallel : ℕ) (found : Option (ℕ × ℕ))
    → option_map_or (λ (f : ℕ × ℕ). (f.0 == task) && (f.1 == parallel)) found false ≡ true
    → found ≡ Some (task, parallel)
begins_this task parallel None is = absurd (false≢true is)
begins_this task parallel (Some (t, p)) is =
    let both = and_parts (t == task) (p == parallel) is in
    ap (λ x. Some (x, p)) (eqb-true t task both.0) ∙ ap (λ x. Some (task, x)) (eqb-true p parallel both.1)

begins_some : (task : ℕ) (found : Option (ℕ × ℕ))
    → option_map_or (λ (f : ℕ × ℕ). f.0 == task) found false ≡ true
    → (parallel : ℕ) × (found ≡ Some (task, parallel))
begins_some task None is = absurd (false≢true is)
begins_some task (Some (t, p)) is = (p, ap (λ x. Some (x, p)) (eqb-true t task is))

-- a task that is current there begins the region by an earlier record of the thread
begun_there : (rs : List Record) (i : ℕ) (r q : Record) (own : List Record) (walk : Walk)
    (task parallel k : ℕ) → IsAllowedBy rs i r own → slice_get rs i ≡ Some r → walk.current ≡ Some task
    → slice_get own k ≡ Some q → forked q.body ≡ Some (task, parallel) → HasBegun rs i walk parallel
begun_there rs i r q own walk task parallel k by is runs there begins =
    let early = by.earlier k q there in (
      early.place,
      task,
      early.before,
      ap (option_map (λ (x : Record). x.thread)) early.stands ∙ ap Some early.same_thread
          ∙ sym (ap (option_map (λ (x : Record). x.thread)) is),
      runs,
      at_earlier forked rs i r q.body early ∙ begins,
    )

-- the current task begins the region, or one, by the records of the thread
own_region : (rs : List Record) (i : ℕ) (r : Record) (own : List Record) (walk : Walk) (found : Option ℕ)
    (parallel : ℕ) → IsAllowedBy rs i r own → slice_get rs i ≡ Some r → walk.current ≡ found
    → has_begun own found parallel ≡ true → HasBegun rs i walk parallel
own_region rs i r own walk None parallel by is runs begun = absurd (false≢true begun)
own_region rs i r own walk (Some task) parallel by is runs begun =
    let (k, q, there, holds) = found_at (λ (x : Record). begins_it task parallel x.body) own begun in
    begun_there rs i r q own walk task parallel k by is runs there
    (begins_this task parallel (forked q.body) holds)

own_league : (rs : List Record) (i : ℕ) (r : Record) (own : List Record) (walk : Walk) (found : Option ℕ)
    → IsAllowedBy rs i r own → slice_get rs i ≡ Some r → walk.current ≡ found
    → has_begun_one own found ≡ true → (parallel : ℕ) × HasBegun rs i walk parallel
own_league rs i r own walk None by is runs begun = absurd (false≢true begun)
own_league rs i r own walk (Some task) by is runs begun =
    let (k, q, there, holds) = found_at (λ (x : Record). begins_one task x.body) own begun in
    let (parallel, begins) = begins_some task (forked q.body) holds in
    (parallel, begun_there rs i r q own walk task parallel k by is runs there begins)

-- what is allowed of a root that begins inside another one
record IsOwn (own : List Record) (body : Body) : Type 0 where
  joins : option_map_or (λ (m : Membership). has_begun own (standing_of own).walk.current m.parallel)
      (joined body) true ≡ true
  leads : (is_none (begun_initial body) || has_begun_one own (standing_of own).walk.current) ≡ true

own_parts : (own : List Record) (body : Body) → begins_own_region own body ≡ true
    → innermost (standing_of own) ≢ None → IsOwn own body
own_parts own body allowed inside =
    let current = (standing_of own).walk.current in
    let joins = option_map_or (λ (m : Membership). has_begun own current m.parallel) (joined body) true in
    let leads = is_none (begun_initial body) || has_begun_one own current in
    elim (or_cases (is_none (innermost (standing_of own))) (joins && leads) allowed) [
      | inl none ↦ absurd (inside (is_none_found (innermost (standing_of own)) none))
      | inr both ↦
          let (first, second) = and_parts joins leads both in
          record { joins = first; leads = second }
    ]

own_of : (rs : List Record) (i : ℕ) (r : Record) (own : List Record) (walk : Walk) → IsAllowedBy rs i r own
    → r.nests ≡ true → walk ≡ (standing_of own).walk → walk.roots ≢ [] → IsOwn own r.body
own_of rs i r own walk by nested same some =
    own_parts own r.body (allowed_own r.nests own r.body nested by.allowed)
    (λ none. some (ap (λ (w : Walk). w.roots) same ∙ none_open (standing_of own).walk.roots none))

not_misnested : (rs : List Record) (i : ℕ) → AreAllowed rs → IsMisnested rs i → ⊥
not_misnested rs i are (other_region m walk nested joins (r, is, walk_is) some other) =
    let (own, by) = are i r is in
    let same = walk_is ∙ by.walk in
    let parts = own_of rs i r own walk by (nests_get rs i r true is nested) same some in
    let joins_it = sym (at_get joined rs i r is) ∙ joins in
    let begun = sym (ap (λ o. option_map_or
    (λ (n : Membership). has_begun own (standing_of own).walk.current n.parallel) o true) joins_it)
    ∙ parts.joins in
    other (own_region rs i r own walk (standing_of own).walk.current m.parallel by is
    (ap (λ (w : Walk). w.current) same) begun)
not_misnested rs i are (other_league task walk nested begins (r, is, walk_is) some other) =
    let (own, by) = are i r is in
    let same = walk_is ∙ by.walk in
    let parts = own_of rs i r own walk by (nests_get rs i r true is nested) same some in
    let begins_it = sym (at_get begun_initial rs i r is) ∙ begins in
    let current = (standing_of own).walk.current in
    let begun = sym (ap (λ (o : Option ℕ). is_none o || has_begun_one own current) begins_it)
    ∙ parts.leads in
    let (parallel, has) =
    own_league rs i r own walk current by is (ap (λ (w : Walk). w.current) same) begun in
    other parallel has

pub none_misnested_where_allowed : (rs : List Record) → AreAllowed rs → IsFreeOf rs RegionNesting
none_misnested_where_allowed rs are i (region_nesting nested) = not_misnested rs i are nested

-- ---- in the gathered trace

-- the records of the thread before a record
abbrev own_before : (closed : ClosedView) (i : ℕ) (r : Record) → IsGathered closed.buffers i r → List Record
own_before closed i r from = take from.place from.buffer.records

earlier : (closed : ClosedView) (i : ℕ) (r : Record) → AreClosed closed
    → (from : IsGathered closed.buffers i r) → (p : ℕ) (q : Record)
    → slice_get (own_before closed i r from) p ≡ Some q → IsEarlier (gathered closed.buffers) i r q.body
earlier closed i r are from p q is =
    let (below, there) = get_take from.buffer.records from.place p q is in
    record {
      place = length (gathered (take from.number closed.buffers)) + p;
      other = q;
      before = omega (arith, below, from.here);
      stands = in_gathered closed.buffers from.number p from.buffer q from.stands there;
      same_thread =
          ((buffer_of closed i r are from).orderly p q there).thread_is
          ∙ sym (follows_of closed i r are from).thread_is;
      has = refl;
    }

gathered_allowed : (closed : ClosedView) → AreClosed closed → HaveOwnThreads closed.buffers
    → AreAllowed (gathered closed.buffers)
gathered_allowed closed are apart i r is =
    let from = from_buffer closed.buffers i r is in
    let own = own_before closed i r from in (
      own,
      record {
        allowed = (follows_of closed i r are from).allowed;
        walk = ap (fold after_record threads.at_start) (buffer_before closed i r are apart from)
            ∙ sym (walk_along own);
        earlier = earlier closed i r are from;
      },
    )

pub none_nested_where_once : (closed : ClosedView) → AreClosed closed → HaveOwnThreads closed.buffers
    → AreMadeOnce (gathered closed.buffers) → IsFreeOf (gathered closed.buffers) NestedParallel
none_nested_where_once closed are apart =
    none_nested_where_allowed (gathered closed.buffers) (gathered_allowed closed are apart)

pub none_nested : (closed : ClosedView) → AreClosed closed → HaveOwnThreads closed.buffers
    → IsFreeOf (gathered closed.buffers) CreatedTwice → IsFreeOf (gathered closed.buffers) NestedParallel
none_nested closed are apart free =
    none_nested_where_once closed are apart (λ i again. free i (created_twice again))

pub none_misnested : (closed : ClosedView) → AreClosed closed → HaveOwnThreads closed.buffers
    → IsFreeOf (gathered closed.buffers) RegionNesting
none_misnested closed are apart =
    none_misnested_where_allowed (gathered closed.buffers) (gathered_allowed closed are apart)
