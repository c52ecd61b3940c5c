use Rattle.std.proofs.Common.{◌≡◌, ◌∙◌, ℕ, List, Option, sym, ap, subst, ◌+◌}
use Rattle.std.specs.Prelude.{option_map}
use Rattle.packed_trace.specs.Named.{subject, object}
use Rattle.scripts.specs.Parts.{IsFound, AreLastUses, noted}
use Rattle.scripts.specs.declared.uses.Use.{Use}
use Rattle.scripts.proofs.UseLemmas.{told_of, last_next}
use Rattle.scripts.proofs.uses.use_one.Goals as goal

-- what is found of the tasks that a step names with this body
found_by : (ids since given : List ℕ) (named other : Option ℕ) (found : Option (ℕ × ℕ)) → given ≡ since
    → named ≡ other → IsFound ids given named found → IsFound ids since other found
found_by ids since given named other found same equal is =
    subst (λ (l : List ℕ). IsFound ids l other found) same
    (subst (λ (n : Option ℕ). IsFound ids given n found) equal is)

pub returns-clause-first : goal.returns-clause-first
returns-clause-first c steps last =
    let ids = c.args.tasks.now in
    let since = c.args.since.now.items in
    told_of steps c.args.at ids since (subject c.args.body.now) c.find-first.result c.requires.as_many
    last
    (found_by ids since c.as_slice.result.now c.subject.result (subject c.args.body.now) _
    c.as_slice.ensures.value c.subject.ensures c.find-first.ensures)

pub returns-clause-second : goal.returns-clause-second
returns-clause-second c steps last =
    let ids = c.args.tasks.now in
    let since = c.args.since.now.items in
    told_of steps c.args.at ids since (object c.args.body.now) c.find-second.result c.requires.as_many
    last
    (found_by ids since c.as_slice-2.result.now c.object.result (object c.args.body.now) _
    c.as_slice-2.ensures.value c.object.ensures c.find-second.ensures)

pub returns-clause-last : goal.returns-clause-last
returns-clause-last c steps s is same last =
    let ids = c.args.tasks.now in
    let since = c.args.since.now.items in
    let first = c.find-first.result in
    let second = c.find-second.result in
    let now = c.args.at + 1 in
    subst (AreLastUses steps now ids)
    (sym
    (c.note-2.ensures
    ∙ ap (λ (l : List ℕ). noted l (option_map (λ (u : Use). u.task) second) now) c.note.ensures))
    (last_next steps c.args.at s ids since first second is last
    (found_by ids since c.as_slice.result.now c.subject.result (subject s.body) _
    c.as_slice.ensures.value (c.subject.ensures ∙ ap subject (sym same)) c.find-first.ensures)
    (found_by ids since c.as_slice-2.result.now c.object.result (object s.body) _
    c.as_slice-2.ensures.value (c.object.ensures ∙ ap object (sym same))
    c.find-second.ensures))
