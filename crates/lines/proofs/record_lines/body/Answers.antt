use Rattle.lines.specs.Objects.{object_data}
use Rattle.lines.proofs.MemberLemmas.{ok_or-some}
use Rattle.lines.proofs.RecordLemmas.{body_named-none}
use Rattle.lines.proofs.record_lines.body.Goals as goal

pub returns-in_default : goal.returns-in_default
returns-in_default c =
    let no = c.in_default in
    λ _.
    rw (
      ok_or-some _ _ c.in_ok-text.ensures,
      body_named-none c.args.version c.in_ok-text.field-0.now (object_data c.args.object.now)
          no.not-thread_begin no.not-thread_end no.not-parallel_begin no.not-parallel_end
          no.not-implicit_task no.not-task_create no.not-dependences no.not-task_schedule
          no.not-sync_region no.not-cancel,
    )
