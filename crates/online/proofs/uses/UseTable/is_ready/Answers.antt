use Rattle.std.proofs.Common.{ℕ, List, sym, ap, subst}
use Rattle.std.specs.Prelude.{option_map}
use Rattle.online.specs.Groups.{AreClearAt}
use Rattle.online.specs.Groups.{group_at}
use Rattle.online.specs.Uses.{IsTable, numbers_of, location_of}
use Rattle.online.proofs.UseLemmas.{table_counts}
use Rattle.online.proofs.UseEnds.{needed_over, needed_none}
use Rattle.online.proofs.uses.UseTable.is_ready.Goals as goal

pub returns-in_default-clause-ready : goal.returns-in_default-clause-ready
returns-in_default-clause-ready c = λ yes history ends gone is unfinished needed needs.
    absurd
    (needed_none history ends gone is.0 (group_at c.args.self.now.groups) c.args.self.now.groups.next
    (numbers_of c.args.self.now) (location_of c.args.self.now) c.args.task
    (sym (ap (option_map (λ v. v.items)) c.in_default.ensures.value)) unfinished is.1 needed needs)

pub returns-clause-ready : goal.returns-clause-ready
returns-clause-ready c = λ yes history ends gone is unfinished needed needs.
    needed_over history ends gone is.0 (group_at c.args.self.now.groups) c.args.self.now.groups.next
    (numbers_of c.args.self.now) (location_of c.args.self.now) c.args.task c.args.length
    c.in-Some.numbers.now.items (sym (ap (option_map (λ v. v.items)) c.in-Some.ensures.value))
    (subst (λ (l : List ℕ). AreClearAt (group_at c.args.self.now.groups) l c.args.length)
    c.as_slice.ensures.value
    (c.in_ok-ready.ensures.clear yes)) is.1 needed needs

pub returns-clause-kept : goal.returns-clause-kept
returns-clause-kept c = λ history ends gone is. (
  is.0,
  subst (λ m. IsTable history ends gone is.0 (group_at c.are_clear.new.self) m (numbers_of c.args.self.now)
      (location_of c.args.self.now)) (sym c.in_ok-ready.ensures.next)
      (table_counts history ends gone is.0 (group_at c.args.self.now.groups) (group_at c.are_clear.new.self)
      c.args.self.now.groups.next (numbers_of c.args.self.now) (location_of c.args.self.now)
      c.in_ok-ready.ensures.counted is.1),
)
