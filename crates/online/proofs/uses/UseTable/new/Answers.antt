use Rattle.std.proofs.Common.{[], refl}
use Rattle.online.specs.Groups.{Grouping, group_at}
use Rattle.online.specs.Uses.{numbers_of, location_of}
use Rattle.online.proofs.UseLemmas.{table_none}
use Rattle.online.proofs.uses.UseTable.new.Goals as goal

pub returns : goal.returns
returns c =
    let all : Grouping = record { members = λ n. []; earlier = λ n. []; unfinished = λ n. [] } in (
      all,
      table_none all (group_at c.new-3.result) c.new-3.result.next
          (numbers_of (record {
            families = c.new.result;
            tasks = c.new-2.result;
            groups = c.new-3.result;
            alloc = c.args.alloc;
          }))
          (location_of (record {
            families = c.new.result;
            tasks = c.new-2.result;
            groups = c.new-3.result;
            alloc = c.args.alloc;
          }))
          c.new-3.ensures.none (λ n. rw c.new-2.ensures.empty refl) (λ p w. rw c.new.ensures.empty refl),
    )
