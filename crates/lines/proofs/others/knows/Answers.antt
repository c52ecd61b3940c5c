use Rattle.std.proofs.Common.{◌≢◌, sym}
use Rattle.lines.specs.declared.members.Member.{Member}
use Rattle.lines.specs.declared.members.Member.TheVariants as variant
use Rattle.lines.specs.MemberNames.{member_name}
use Rattle.lines.proofs.InFrontLemmas.{is_known-other}
use Rattle.lines.proofs.others.knows.Goals as goal

pub returns-in_default : goal.returns-in_default
returns-in_default c = sym (is_known-other c.args.name.now other)
  where
    other : (m : Member) → c.args.name.now ≢ member_name m
    other variant.Actual = c.in_default.not-actual
    other variant.After = c.in_default.not-after
    other variant.Callback = c.in_default.not-cb
    other variant.Child = c.in_default.not-child
    other variant.Deps = c.in_default.not-deps
    other variant.Endpoint = c.in_default.not-endpoint
    other variant.Flags = c.in_default.not-flags
    other variant.Format = c.in_default.not-format
    other variant.Index = c.in_default.not-index
    other variant.Kept = c.in_default.not-kept
    other variant.Kind = c.in_default.not-kind
    other variant.List = c.in_default.not-list
    other variant.Next = c.in_default.not-next
    other variant.NextTurn = c.in_default.not-next_turn
    other variant.Parallel = c.in_default.not-parallel
    other variant.Path = c.in_default.not-path
    other variant.Prior = c.in_default.not-prior
    other variant.PriorTurn = c.in_default.not-prior_turn
    other variant.Requested = c.in_default.not-requested
    other variant.Root = c.in_default.not-root
    other variant.Seen = c.in_default.not-seen
    other variant.Seq = c.in_default.not-seq
    other variant.Status = c.in_default.not-status
    other variant.Task = c.in_default.not-task
    other variant.Thread = c.in_default.not-thread
    other variant.Type = c.in_default.not-type
    other variant.Var = c.in_default.not-var
    other variant.Version = c.in_default.not-version
