use Rattle.std.proofs.Common.{ℕ, ◌≡◌, ◌∙◌, ◌<◌, ◌+◌, Some, set, length, refl, sym, ap, arith, rules}
use Rattle.std.proofs.Common.{subst}
use Rattle.std.proofs.lemmas.Option.{slice_get_within, slice_get_read, get_or_from_slice_get, same_Some}
use Rattle.std.specs.Prelude.{slice_get}
use Rattle.ompt_events.proofs.ListLemmas.{get_within}
use Rattle.ompt_events.proofs.PlaceLemmas.{thread_get}
use Rattle.task_tree.specs.TurnTable.{turn_on, AreTurnMarks, IsTableAt}
use Rattle.std.specs.Vec.{with_item}
use Rattle.task_tree.specs.declared.turn_table.Walk.{Walk}
use Rattle.task_tree.proofs.WalkLemmas.{record_there, walk_keep, walk_put}
use Rattle.task_tree.proofs.turn_table.visit.Goals as goal

pub returns-in_default : goal.returns-in_default
returns-in_default c thread by_thread =
    let rs = c.args.trace.now.records in
    let tasks = c.args.family.now.tasks in
    let i = c.args.at in
    let q = c.args.walk.now in
    let new : Walk = record {
      turns = with_item q.turns i c.turn_before.result;
      marks = q.marks;
      in_order = q.in_order;
    } in
    let there = record_there rs i thread by_thread in
    let r = there.0 in
    let same = there.2 in
    let before = c.requires.before r.thread (by_thread ∙ ap Some same) in
    let marks =
    subst (AreTurnMarks rs tasks thread i) (sym c.as_slice.ensures.value)
    (subst (λ t. AreTurnMarks rs tasks t i q.marks.items) (sym same) before.marks) in
    subst (λ t. IsTableAt rs tasks t (i + 1) new) (sym same)
    (walk_keep rs tasks i c.turn_before.result r q new c.requires.within
    (sym (get_or_from_slice_get rs i r r there.1)) before
    (c.turn_before.ensures thread by_thread marks) c.in_default.ensures refl refl refl)

pub index-requires : goal.index-requires
index-requires c =
    let rs = c.args.trace.now.records in
    let walk = c.requires.before c.thread-thread.result c.thread-thread.ensures in
    let start = c.in-Some.ensures in
    let inside = slice_get_within c.args.family.now.tasks c.in-Some.begin.index start.task start.indexed in
    let all = walk.marks.all in
    let within : c.in-Some.begin.index < length c.args.walk.now.marks.items = omega (arith, inside, all) in
    search rules

pub index_mut-requires-2 : goal.index_mut-requires-2
index_mut-requires-2 c =
    let rs = c.args.trace.now.records in
    let walk = c.requires.before c.thread-thread.result c.thread-thread.ensures in
    let start = c.in-Some.ensures in
    let inside = slice_get_within c.args.family.now.tasks c.in-Some.begin.index start.task start.indexed in
    let all = walk.marks.all in
    let within : c.in-Some.begin.index < length c.args.walk.now.marks.items = omega (arith, inside, all) in
    search rules

pub returns : goal.returns
returns c thread by_thread =
    let rs = c.args.trace.now.records in
    let tasks = c.args.family.now.tasks in
    let i = c.args.at in
    let there = get_within rs i c.requires.within in
    let r = there.0 in
    let stands = there.1 in
    let q = c.args.walk.now in
    let start = c.in-Some.ensures in
    let index = c.in-Some.begin.index in
    let next = c.in-Some.begin.turn in
    let read = sym (get_or_from_slice_get rs i r r stands) in
    let own : c.thread-thread.result ≡ r.thread =
    same_Some c.thread-thread.result r.thread (sym c.thread-thread.ensures ∙ thread_get rs i r stands) in
    let same : thread ≡ r.thread = same_Some thread r.thread (sym by_thread ∙ thread_get rs i r stands) in
    let before = c.requires.before r.thread (by_thread ∙ ap Some same) in
    let inside = slice_get_within tasks index start.task start.indexed in
    let all = before.marks.all in
    let mark = c.index.result.now in
    let marked : slice_get q.marks.items index ≡ Some mark =
    slice_get_read q.marks.items (length q.marks.items) index mark refl (omega (arith, inside, all))
    c.index.ensures in
    let new : Walk = record {
      turns = with_item q.turns i c.turn_before.result;
      marks = with_item q.marks index (record { turn = next; thread = c.thread-thread.result });
      in_order = c.stays_in_order-walk.result;
    } in
    let marks =
    subst (AreTurnMarks rs tasks thread i) (sym c.as_slice.ensures.value)
    (subst (λ t. AreTurnMarks rs tasks t i q.marks.items) (sym same) before.marks) in
    let turn = c.turn_before.ensures thread by_thread marks in
    subst (λ t. IsTableAt rs tasks t (i + 1) new) (sym same) (walk_put rs tasks i c.turn_before.result index
    start.task next r mark q new c.requires.within read before turn c.requires.family.makers.apart
    start.starts start.indexed marked refl
    (ap (λ (t : ℕ). set q.marks.items index (record { turn = next; thread = t })) own)
    (λ holds.
    let both = c.stays_in_order-walk.ensures.0 holds in
    let last = c.turn_on-last.ensures in
    let thread_is : turn_on mark c.thread-thread.result ≡ turn_on mark r.thread = ap (turn_on mark) own in
    let low = both.1 in (both.0, omega (arith, low, last, thread_is))))
