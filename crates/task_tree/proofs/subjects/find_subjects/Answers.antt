use Rattle.std.proofs.Common.{◌≡◌, ◌∙◌, ◌<◌, ◌+◌, length, sym, arith}
use Rattle.std.specs.Prelude.{IsTrue}
use Rattle.std.proofs.lemmas.Option.{slice_get_within}
use Rattle.ompt_events.specs.Records.{creation}
use Rattle.ompt_events.specs.Places.{at}
use Rattle.ompt_events.proofs.ListLemmas.{get_within}
use Rattle.ompt_events.proofs.PlaceLemmas.{at_get, none_from_test}
use Rattle.task_tree.specs.Rootless.{AllNameKnown}
use Rattle.task_tree.proofs.RootlessLemmas.{known_start, known_more, named_known}
use Rattle.packed_trace.specs.Named.{subject, object}
use Rattle.task_tree.proofs.SubjectLemmas.{up_to_start, up_to_more, up_to_end, created_names, finds_slot}
use Rattle.task_tree.proofs.SubjectLemmas.{slot_holds, some_there}
use Rattle.task_tree.proofs.LinkLemmas.{counts_start, links_start, counts_other, links_other, counts_linked}
use Rattle.task_tree.proofs.LinkLemmas.{links_linked, count_small}
use Rattle.task_tree.proofs.subjects.find_subjects.Goals as goal
use Rattle.task_tree.proofs.subjects.find_subjects.Goals.{then-is_some, else-is_some}

pub loop-at-init : goal.loop-at-init
loop-at-init c = record {
  subjects =
      up_to_start subject c.args.trace.now.records c.args.tasks.now c.in_ok-subjects.subjects.items
      (rw c.len-count.ensures.value at c.in_ok-subjects.ensures);
  objects =
      up_to_start object c.args.trace.now.records c.args.tasks.now c.in_ok-objects.objects.items
      (rw c.len-count.ensures.value at c.in_ok-objects.ensures);
  known = λ yes. known_start c.args.trace.now.records c.args.tasks.now c.args.regions.now;
  counts =
      counts_start c.args.trace.now.records c.args.tasks.now c.in_ok-counts.counts.items
      (rw (c.as_slice.ensures) at c.in_ok-counts.ensures);
  links =
      links_start c.args.trace.now.records c.args.tasks.now c.in_ok-links.links.items
      (rw (c.as_slice-2.ensures) at c.in_ok-links.ensures);
}

pub link_child-requires-clause-counts : goal.link_child-requires-clause-counts
link_child-requires-clause-counts c =
    slot_holds c.args.tasks.now _ c.look_up-found.result.subject _ c.look_up-found.ensures.subject
    (λ task k is.
    let inside = slice_get_within c.args.tasks.now k task is in
    let all = c.loop-at.invariant.counts.all in omega (arith, inside, all))

pub link_child-requires-clause-links : goal.link_child-requires-clause-links
link_child-requires-clause-links c =
    slot_holds c.args.tasks.now _ c.look_up-found.result.object _ c.look_up-found.ensures.object
    (λ task k is.
    let inside = slice_get_within c.args.tasks.now k task is in
    let all = c.loop-at.invariant.links.all in omega (arith, inside, all))

pub link_child-requires-clause-few : goal.link_child-requires-clause-few
link_child-requires-clause-few c =
    let all = c.loop-at.invariant.counts.all in omega (arith, all, c.requires.few_tasks)

pub link_child-requires-clause-room : goal.link_child-requires-clause-room
link_child-requires-clause-room c =
    slot_holds c.args.tasks.now _ c.look_up-found.result.subject _ c.look_up-found.ensures.subject
    (λ task up is.
    let small =
    count_small c.args.trace.now.records c.loop-at.at c.args.tasks.now c.loop-at.counts.items task up
    c.loop-at.invariant.counts is in
    omega (arith, small, c.loop-at-test.true, c.len-count.ensures.value, c.requires.few))

pub loop-at-preserved : goal.loop-at-preserved
loop-at-preserved c =
    let rs = c.args.trace.now.records in
    let i = c.loop-at.at in
    let tasks = c.args.tasks.now in
    let within : i < length rs = omega (arith, c.loop-at-test.true, c.len-count.ensures.value) in
    let (r, stands) = get_within rs i within in
    let says : at creation rs i ≡ c.creation.result = sym c.creation.ensures in
    let found = c.look_up-found.result in
    let subjects =
    up_to_more subject rs i tasks c.loop-at.subjects.items found.subject within
    c.loop-at.invariant.subjects c.look_up-found.ensures.subject in
    let objects =
    up_to_more object rs i tasks c.loop-at.objects.items found.object within
    c.loop-at.invariant.objects c.look_up-found.ensures.object in
    let known : IsTrue c.look_up-found.new.known → AllNameKnown rs (i + 1) tasks c.args.regions.now = λ yes.
    let both = c.look_up-found.ensures.known yes in
    known_more rs i tasks c.args.regions.now r (c.loop-at.invariant.known both.0) stands
    (named_known rs tasks c.args.regions.now i r stands both.1) in
    elim c.if-is_some.branch [
      | then-is_some w ↦
          let made = some_there c.creation.result (sym c.is_some.ensures ∙ w.if-is_some.true) in
          let parent = made.0.0 in
          let child = made.0.1 in
          let creates = says ∙ made.1 in
          let both = created_names r.body parent child (sym (at_get creation rs i r stands) ∙ creates) in
          let linked =
          w.link_child.ensures tasks parent child
          (finds_slot tasks _ found.subject parent c.requires.apart c.look_up-found.ensures.subject
          (at_get subject rs i r stands ∙ both.0))
          (finds_slot tasks _ found.object child c.requires.apart c.look_up-found.ensures.object
          (at_get object rs i r stands ∙ both.1)) in
          rw (w.counts-is, w.links-is) (record {
            subjects = subjects;
            objects = objects;
            known = known;
            counts =
                counts_linked rs i tasks parent child c.loop-at.counts.items c.loop-at.links.items
                w.link_child.new.counts.items w.link_child.new.links.items c.loop-at.invariant.counts
                creates linked;
            links =
                links_linked rs i tasks parent child c.loop-at.counts.items c.loop-at.links.items
                w.link_child.new.counts.items w.link_child.new.links.items c.requires.once
                c.loop-at.invariant.counts c.loop-at.invariant.links creates linked;
          })
      | else-is_some w ↦
          let none = says ∙ none_from_test c.creation.result (sym c.is_some.ensures ∙ w.if-is_some.false) in
          rw (w.counts-is, w.links-is) (record {
            subjects = subjects;
            objects = objects;
            known = known;
            counts = counts_other rs i tasks c.loop-at.counts.items c.loop-at.invariant.counts none;
            links = links_other rs i tasks c.loop-at.links.items c.loop-at.invariant.links none;
          })
    ]

pub returns-clause-subjects : goal.returns-clause-subjects
returns-clause-subjects c =
    let all : c.loop-at.at ≡ length c.args.trace.now.records =
    omega (arith, c.loop-at-test.false, c.loop-at.auto.at-end, c.len-count.ensures.value) in
    up_to_end subject c.args.trace.now.records c.loop-at.at c.args.tasks.now c.loop-at.subjects.items all
    c.loop-at.invariant.subjects

pub returns-clause-objects : goal.returns-clause-objects
returns-clause-objects c =
    let all : c.loop-at.at ≡ length c.args.trace.now.records =
    omega (arith, c.loop-at-test.false, c.loop-at.auto.at-end, c.len-count.ensures.value) in
    up_to_end object c.args.trace.now.records c.loop-at.at c.args.tasks.now c.loop-at.objects.items all
    c.loop-at.invariant.objects

pub returns-clause-known : goal.returns-clause-known
returns-clause-known c = λ yes.
    let all : c.loop-at.at ≡ length c.args.trace.now.records =
    omega (arith, c.loop-at-test.false, c.loop-at.auto.at-end, c.len-count.ensures.value) in
    rw all at (c.loop-at.invariant.known yes)

pub returns-clause-counts : goal.returns-clause-counts
returns-clause-counts c =
    let all : c.loop-at.at ≡ length c.args.trace.now.records =
    omega (arith, c.loop-at-test.false, c.loop-at.auto.at-end, c.len-count.ensures.value) in
    rw all at c.loop-at.invariant.counts

pub returns-clause-links : goal.returns-clause-links
returns-clause-links c =
    let all : c.loop-at.at ≡ length c.args.trace.now.records =
    omega (arith, c.loop-at-test.false, c.loop-at.auto.at-end, c.len-count.ensures.value) in
    rw all at c.loop-at.invariant.links
