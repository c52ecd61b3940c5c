use Rattle.std.proofs.Common.{◌≡◌, ◌∙◌, ◌≤◌, ℕ, length, replicate, ap, arith}
use Rattle.depend_edges.specs.Lists.{AreListed}
use Rattle.depend_edges.proofs.LatestLemmas.{latest_all, latest_none}
use Rattle.depend_edges.proofs.latest.find_latest.Goals as goal

pub returns-then-not-has_list-clause-latest : goal.returns-then-not-has_list-clause-latest
returns-then-not-has_list-clause-latest c =
    let run = c.args.lengths.now.edges.run in
    let is = c.run.ensures.is_edges in
    let count : c.task_count-count.result ≡ length run.family.tasks =
    rw (← c.run.ensures.value) c.task_count-count.ensures.value in
    let lists : AreListed run.records (length run.records) run.family.tasks c.lists.result.now =
    rw c.lists.ensures is.lists in
    latest_none run.records run.family c.args.lengths.now.own c.in_ok-latest.latest.items c.lists.result.now
    c.has_list.result is.run.family lists c.has_list.ensures c.if-not-has_list.true
    (c.in_ok-latest.ensures ∙ ap (λ (n : ℕ). replicate n 0) count)

pub returns-clause-latest : goal.returns-clause-latest
returns-clause-latest c =
    let run = c.args.lengths.now.edges.run in
    let count : c.task_count-count.result ≡ length run.family.tasks =
    rw (← c.run.ensures.value) c.task_count-count.ensures.value in
    let all : length run.family.tasks ≤ c.loop-up.up = omega (arith, count, c.loop-up-test.false) in
    latest_all run.records run.family c.args.lengths.now.own c.loop-up.latest.items c.loop-up.up
    c.run.ensures.is_edges.run.family all c.loop-up.invariant
