-- What the search for a missed task finds by what is kept of tasks.
use Rattle.std.proofs.Common.{◌≡◌, ℕ, ◌≤◌, true, Option, Some, None, refl, sym, ap, subst}
use Rattle.std.specs.Prelude.{IfSome, nat_eq}
use Rattle.std.specs.Option.{option_eq}
use Rattle.std.proofs.lemmas.Bool.{eqb-true, false≢true}
use Rattle.std.proofs.lemmas.Option.{none-some, same_Some}
use Rattle.ompt_events.specs.declared.names.SyncKind.{SyncKind}
use Rattle.ompt_events.specs.declared.names.Endpoint.{Endpoint}
use Rattle.ompt_events.specs.declared.names.SyncKind.TheVariants.{Taskwait, Taskgroup}
use Rattle.ompt_events.specs.declared.names.Endpoint.TheVariants.{End, BeginEnd}
use Rattle.ompt_events.specs.Regions.{is_barrier}
use Rattle.online.specs.declared.kin.Kin.{Kin}
use Rattle.online.specs.declared.missed.Awaited.{Awaited}
use Rattle.online.specs.declared.missed.Awaited.TheVariants.{Children, Group, Team}
use Rattle.online.specs.Missed.{IsChildIn, HasBegunBarrier, IsAwaitedChild, IsBelowAwaited, here, below}
use Rattle.online.specs.Missed.{IsReached, IsPartOfTable}
use Rattle.online.specs.Missed.{AreInGroup, AreInTeam, AreAwaitedAt, at_taskwait, at_taskgroup, at_barrier}

-- ---- options

pub some_is : {X : Type 0} (P : X → Type 0) (o : Option X) (x : X) → IfSome o P → o ≡ Some x → P x
some_is P None x holds is = absurd (none-some x is)
some_is P (Some y) x holds is = let Q = P in subst Q (same_Some y x is) holds

pub some_weaker : {X : Type 0} (P Q : X → Type 0) (o : Option X) → ((x : X) → P x → Q x) → IfSome o P
    → IfSome o Q
some_weaker P Q None so holds = tt
some_weaker P Q (Some x) so holds = so x holds

pub named_eq : (o : Option ℕ) (n : ℕ) → option_eq nat_eq o (Some n) ≡ true → o ≡ Some n
named_eq None n is = absurd (false≢true is)
named_eq (Some m) n is = ap Some (eqb-true m n is)

-- ---- of a part of what is kept

child_part : (part whole : ℕ → Option Kin) → IsPartOfTable part whole → (parent task : ℕ)
    → IsChildIn part parent task → IsChildIn whole parent task
child_part part whole all parent task (kin, found, is) = (kin, all task kin found, is)

begun_part : (part whole : ℕ → Option Kin) → IsPartOfTable part whole → (task : Option ℕ) (number : ℕ)
    → HasBegunBarrier part task number → HasBegunBarrier whole task number
begun_part part whole all task number (parent, kin, is, found, less) =
    (parent, kin, is, all parent kin found, less)

awaited_part : (part whole : ℕ → Option Kin) → IsPartOfTable part whole → (awaited : Awaited) (task : ℕ)
    → IsAwaitedChild part awaited task → IsAwaitedChild whole awaited task
awaited_part part whole all (Children parent) task is = child_part part whole all parent task is
awaited_part part whole all (Group parent number) task (kin, found, is, in_it) =
    (kin, all task kin found, is, in_it)
awaited_part part whole all (Team parallel number) task (kin, found, is, low, begun) =
    (kin, all task kin found, is, low, begun_part part whole all kin.parent number begun)

under_part : (part whole : ℕ → Option Kin) → IsPartOfTable part whole → (awaited : Awaited) (task : ℕ)
    → IsBelowAwaited part awaited task → IsBelowAwaited whole awaited task
under_part part whole all awaited task (here is) = here (awaited_part part whole all awaited task is)
under_part part whole all awaited task (below parent is up) =
    below parent (child_part part whole all parent task is) (under_part part whole all awaited parent up)

pub reached_part : (part whole : ℕ → Option Kin) → IsPartOfTable part whole → (awaited : Awaited) (task : ℕ)
    → IsReached part awaited task → IsReached whole awaited task
reached_part part whole all (Children parent) task is = child_part part whole all parent task is
reached_part part whole all (Group parent number) task is =
    under_part part whole all (Group parent number) task is
reached_part part whole all (Team parallel number) task is =
    under_part part whole all (Team parallel number) task is

-- ---- the steps of the search

pub awaited_child : (table : ℕ → Option Kin) (awaited : Awaited) (task parent : ℕ) (kin : Kin)
    → awaited ≡ Children parent → table task ≡ Some kin → kin.parent ≡ Some parent
    → IsAwaitedChild table awaited task
awaited_child table awaited task parent kin is found above =
    let P : Awaited → Type 0 = λ a. IsAwaitedChild table a task in subst P (sym is) (kin, found, above)

pub awaited_in_group : (table : ℕ → Option Kin) (awaited : Awaited) (task parent number : ℕ) (kin : Kin)
    → awaited ≡ Group parent number → table task ≡ Some kin → kin.parent ≡ Some parent → kin.group ≡ number
    → IsAwaitedChild table awaited task
awaited_in_group table awaited task parent number kin is found above in_it =
    let P : Awaited → Type 0 = λ a. IsAwaitedChild table a task in subst P (sym is) (kin, found, above, in_it)

pub awaited_in_team : (table : ℕ → Option Kin) (awaited : Awaited) (task parallel number : ℕ) (kin : Kin)
    → awaited ≡ Team parallel number → table task ≡ Some kin → kin.parent_team ≡ Some parallel
    → kin.phase ≤ number → HasBegunBarrier table kin.parent number → IsAwaitedChild table awaited task
awaited_in_team table awaited task parallel number kin is found team low begun =
    let P : Awaited → Type 0 = λ a. IsAwaitedChild table a task in
    subst P (sym is) (kin, found, team, low, begun)

-- the parent that is kept
pub child_in : (table : ℕ → Option Kin) (task : ℕ) (kin : Kin) → table task ≡ Some kin
    → IfSome kin.parent (λ parent. IsChildIn table parent task)
child_in table task kin found = of kin.parent refl
  where
    of : (o : Option ℕ) → kin.parent ≡ o → IfSome o (λ parent. IsChildIn table parent task)
    of None e = tt
    of (Some parent) e = (kin, found, e)

-- the task that is passed is one of the children
pub found_under : (part whole : ℕ → Option Kin) → IsPartOfTable part whole → (awaited : Awaited) (task : ℕ)
    → IsAwaitedChild part awaited task → IsBelowAwaited whole awaited task
found_under part whole all awaited task is = here (awaited_part part whole all awaited task is)

-- the search goes on with its parent
pub passed_under : (part whole : ℕ → Option Kin) → IsPartOfTable part whole → (awaited : Awaited) (task : ℕ)
    (next : Option ℕ) → IfSome next (λ parent. IsChildIn part parent task) → (parent : ℕ)
    → next ≡ Some parent → IsBelowAwaited whole awaited parent → IsBelowAwaited whole awaited task
passed_under part whole all awaited task next child parent is up =
    below parent
    (child_part part whole all parent task (some_is (λ p. IsChildIn part p task) next parent child is)) up

-- ---- which children an end waits for

pub wait_ended : (table : ℕ → Option Kin) (task : ℕ) (kind : SyncKind) (endpoint : Endpoint) → kind ≡ Taskwait
    → endpoint ≡ End → AreAwaitedAt table task kind endpoint (Children task)
wait_ended table task kind endpoint is ends =
    let P : SyncKind → Endpoint → Type 0 = λ k e. AreAwaitedAt table task k e (Children task) in
    subst (λ k. P k endpoint) (sym is) (subst (P Taskwait) (sym ends) (at_taskwait (λ e. cc)))

pub wait_at_once : (table : ℕ → Option Kin) (task : ℕ) (kind : SyncKind) (endpoint : Endpoint)
    → kind ≡ Taskwait → endpoint ≡ BeginEnd → AreAwaitedAt table task kind endpoint (Children task)
wait_at_once table task kind endpoint is ends =
    let P : SyncKind → Endpoint → Type 0 = λ k e. AreAwaitedAt table task k e (Children task) in
    subst (λ k. P k endpoint) (sym is) (subst (P Taskwait) (sym ends) (at_taskwait (λ e. cc)))

pub group_ended : (table : ℕ → Option Kin) (task : ℕ) (kind : SyncKind) (endpoint : Endpoint)
    (found : Option Awaited) → kind ≡ Taskgroup → endpoint ≡ End → IfSome found (AreInGroup table task)
    → IfSome found (AreAwaitedAt table task kind endpoint)
group_ended table task kind endpoint found is ends =
    some_weaker (AreInGroup table task) (AreAwaitedAt table task kind endpoint) found
    (λ awaited inside.
    let P : SyncKind → Endpoint → Type 0 = λ k e. AreAwaitedAt table task k e awaited in
    subst (λ k. P k endpoint) (sym is) (subst (P Taskgroup) (sym ends) (at_taskgroup inside)))

pub barrier_ended : (table : ℕ → Option Kin) (task : ℕ) (kind : SyncKind) (endpoint : Endpoint)
    (found : Option Awaited) → is_barrier kind ≡ true → endpoint ≡ End → IfSome found (AreInTeam table task)
    → IfSome found (AreAwaitedAt table task kind endpoint)
barrier_ended table task kind endpoint found is ends =
    some_weaker (AreInTeam table task) (AreAwaitedAt table task kind endpoint) found
    (λ awaited inside.
    let P : Endpoint → Type 0 = λ e. AreAwaitedAt table task kind e awaited in
    subst P (sym ends) (at_barrier is inside))
