use Rattle.std.proofs.Common.{ℕ, ◌≡◌, ◌≤◌, List, Some, None, [], ◌∷◌, ◌++◌, refl, sym, ap, subst, arith}
use Rattle.std.specs.Prelude.{nat_eq, option_map}
use Rattle.std.specs.HashMap.{get}
use Rattle.std.proofs.lemmas.List.Elements.{Contains-push}
use Rattle.online.specs.Groups.{times}
use Rattle.online.proofs.GroupLemmas.{counted_later}
use Rattle.online.specs.Groups.{group_at}
use Rattle.online.specs.Uses.{IsTable, numbers_of, location_of}
use Rattle.online.proofs.FamilyLemmas.{map_put}
use Rattle.online.proofs.UseEnds.{table_over}
use Rattle.online.proofs.uses.UseTable.complete.Goals as goal

pub returns-in_default-clause-completed : goal.returns-in_default-clause-completed
returns-in_default-clause-completed c = λ history ends gone is. (
  is.0,
  table_over history ends gone is.0 is.0 (group_at c.args.self.now.groups) (group_at c.args.self.now.groups)
      c.args.self.now.groups.next (numbers_of c.args.self.now)
      (λ q. option_map (λ v. v.items) (get nat_eq c.remove.new.self q))
      (location_of c.args.self.now) c.args.task c.args.length
      (record { members = refl; earlier = refl; others = λ other n apart. refl })
      (counted_later ends (c.args.task, c.args.length) is.0 (group_at c.args.self.now.groups)
      c.args.self.now.groups.next is.1.counted)
      (λ q. map_put (λ v. v.items) (λ m. get nat_eq c.args.self.now.tasks m) (λ m. get nat_eq
      c.remove.new.self m)
      c.args.task None q (c.remove.ensures.updates.0 q))
      is.1,
)

pub returns-clause-completed : goal.returns-clause-completed
returns-clause-completed c = λ history ends gone is.
    let all = is.0 in
    let here : numbers_of c.args.self.now c.args.task ≡ Some c.in-Some.numbers.items =
    sym (ap (option_map (λ v. v.items)) c.in-Some.ensures.value) in
    let (less, lesser, counted) =
    c.in_ok-leave_all.ensures.left (ends ++ (c.args.task, c.args.length) ∷ []) all c.args.self.now.groups.next
    c.args.task (c.args.length, Contains-push ends (c.args.task, c.args.length), omega arith)
    (subst (λ (l : List ℕ). (n : ℕ) → times n l ≤ times c.args.task (all.unfinished n)) (sym
    c.as_slice.ensures.value)
    (is.1.pending c.args.task c.in-Some.numbers.items here))
    (counted_later ends (c.args.task, c.args.length) all (group_at c.args.self.now.groups)
    c.args.self.now.groups.next is.1.counted) in (
      less,
      subst (λ m. IsTable history (ends ++ (c.args.task, c.args.length) ∷ []) gone less
          (group_at c.leave_all.new.self) m (λ q. option_map (λ v. v.items) (get nat_eq c.remove.new.self q))
          (location_of c.args.self.now)) (sym c.in_ok-leave_all.ensures.next)
          (table_over history ends gone all less (group_at c.args.self.now.groups) (group_at
          c.leave_all.new.self)
          c.args.self.now.groups.next (numbers_of c.args.self.now)
          (λ q. option_map (λ v. v.items) (get nat_eq c.remove.new.self q))
          (location_of c.args.self.now) c.args.task c.args.length lesser counted
          (λ q. map_put (λ v. v.items) (λ m. get nat_eq c.args.self.now.tasks m) (λ m. get nat_eq
          c.remove.new.self m)
          c.args.task None q (c.remove.ensures.updates.0 q))
          is.1),
    )
