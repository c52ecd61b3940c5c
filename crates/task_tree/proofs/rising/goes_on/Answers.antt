use Rattle.std.proofs.Common.{◌∙◌, ◌≡◌, ◌<◌, Some, ap, length, refl, sym, arith, rules}
use Rattle.std.proofs.lemmas.Bool.{false≢true}
use Rattle.std.proofs.lemmas.Option.{same_Some, slice_get_read, slice_get_within}
use Rattle.std.specs.Prelude.{is_some, slice_get}
use Rattle.ompt_events.specs.Records.{told_turns}
use Rattle.ompt_events.proofs.ListLemmas.{get_within}
use Rattle.ompt_events.proofs.PlaceLemmas.{at_get, at_read, thread_read}
use Rattle.task_tree.proofs.RisingPassLemmas.{read_there, step_keeps, step_starts, other_told, must_begin}
use Rattle.task_tree.proofs.rising.goes_on.Goals as goal

pub returns-in_default-begin_at-clause-on : goal.returns-in_default-begin_at-clause-on
returns-in_default-begin_at-clause-on c is =
    let there = get_within c.args.trace.now.records c.args.at c.requires.within in
    step_keeps c.args.trace.now.records c.args.at c.in-Some.turn there.0 c.args.family.now.tasks
    c.args.latest.now.items c.requires.within (read_there c.args.trace.now.records c.args.at there.0 there.1)
    c.requires.latest
    (c.turn_there.ensures.there c.in-Some.turn c.in-Some.is)
    (λ other.
    false≢true
    (sym c.if-tells_other.false ∙ c.tells_other.ensures.1
    (rw (sym (at_read told_turns c.args.trace.now.records c.args.at there.0 c.requires.within
    (read_there c.args.trace.now.records c.args.at there.0 there.1))) at other)))
    c.in_default-begin_at.ensures

pub index-requires : goal.index-requires
index-requires c =
    let begin = c.in-Some-begin_at.ensures in
    let inside =
    slice_get_within c.args.family.now.tasks c.in-Some-begin_at.begin.index begin.task begin.indexed in
    let all = c.requires.latest.all in
    let within : c.in-Some-begin_at.begin.index < length c.args.latest.now.items =
    omega (arith, inside, all) in
    search rules

pub index_mut-requires : goal.index_mut-requires
index_mut-requires c =
    let begin = c.in-Some-begin_at.ensures in
    let inside =
    slice_get_within c.args.family.now.tasks c.in-Some-begin_at.begin.index begin.task begin.indexed in
    let all = c.requires.latest.all in
    let within : c.in-Some-begin_at.begin.index < length c.args.latest.now.items =
    omega (arith, inside, all) in
    search rules

pub returns-clause-on : goal.returns-clause-on
returns-clause-on c is =
    let rs = c.args.trace.now.records in
    let latest = c.args.latest.now.items in
    let known = c.index.result.now in
    let begin = c.in-Some-begin_at.ensures in
    let index = c.in-Some-begin_at.begin.index in
    let inside = slice_get_within c.args.family.now.tasks index begin.task begin.indexed in
    let all = c.requires.latest.all in
    let there = get_within rs c.args.at c.requires.within in
    let known_there : slice_get latest index ≡ Some known =
    slice_get_read latest (length latest) index known refl (omega (arith, inside, all)) c.index.ensures in
    let own : c.thread.result ≡ there.0.thread =
    same_Some _ _
    (sym c.thread.ensures
    ∙ thread_read rs c.args.at there.0 c.requires.within (read_there rs c.args.at there.0 there.1)) in
    rw own
    (step_starts rs c.args.at index c.in-Some-begin_at.begin.turn c.in-Some.turn there.0
    c.args.family.now latest known c.requires.within (read_there rs c.args.at there.0 there.1)
    c.requires.family
    c.requires.latest (c.turn_there.ensures.there c.in-Some.turn c.in-Some.is)
    (λ other.
    false≢true
    (sym c.if-tells_other.false ∙ c.tells_other.ensures.1
    (rw (sym (at_read told_turns c.args.trace.now.records c.args.at there.0 c.requires.within
    (read_there c.args.trace.now.records c.args.at there.0 there.1))) at other))) known_there begin
    ((c.may_begin.ensures rs there.0.body begin.task c.requires.family
    (c.tells_turns.ensures ∙ ap is_some (at_get told_turns rs c.args.at there.0 there.1)) begin.indexed).0
    c.if-not-may_begin.false))

pub returns-then-tells_other-clause-off : goal.returns-then-tells_other-clause-off
returns-then-tells_other-clause-off c is order free =
    let rs = c.args.trace.now.records in
    let stands = get_within rs c.args.at c.requires.within in
    let there = c.turn_there.ensures.there c.in-Some.turn c.in-Some.is in
    other_told rs c.args.at c.in-Some.turn stands.0 stands.1 there.is
    (rw (at_get told_turns rs c.args.at stands.0 stands.1) at (c.tells_other.ensures.0 c.if-tells_other.true))
    free

pub may_begin-requires : goal.may_begin-requires
may_begin-requires c =
    let begin = c.in-Some-begin_at.ensures in
    slice_get_within c.args.family.now.tasks c.in-Some-begin_at.begin.index begin.task begin.indexed

pub returns-then-not-may_begin-clause-off : goal.returns-then-not-may_begin-clause-off
returns-then-not-may_begin-clause-off c is order free =
    let rs = c.args.trace.now.records in
    let i = c.args.at in
    let stands = get_within rs i c.requires.within in
    let r = stands.0 in
    let latest = c.args.latest.now.items in
    let known = c.index.result.now in
    let begin = c.in-Some-begin_at.ensures in
    let index = c.in-Some-begin_at.begin.index in
    let inside = slice_get_within c.args.family.now.tasks index begin.task begin.indexed in
    let all = c.requires.latest.all in
    let there : slice_get latest index ≡ Some known =
    slice_get_read latest (length latest) index known refl (omega (arith, inside, all)) c.index.ensures in
    let may =
    must_begin rs i index c.in-Some-begin_at.begin.turn r c.args.family.now known
    stands.1 c.requires.family begin
    (c.requires.latest.each index begin.task known begin.indexed there) order free in
    false≢true
    (sym c.if-not-may_begin.true
    ∙ (c.may_begin.ensures rs r.body begin.task c.requires.family
    (c.tells_turns.ensures ∙ ap is_some (at_get told_turns rs i r stands.1)) begin.indexed).1
    may)
