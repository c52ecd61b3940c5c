use Rattle.std.proofs.Common.{◌≡◌, ◌∙◌, ℕ, ◌<◌, ◌≤◌, List, Some, length, get_or, subst, ap, sym, arith, rules}
use Rattle.std.proofs.lemmas.Option.{same_Some, slice_get_within, slice_get-get_or}
use Rattle.std.proofs.Math.ListN.{set}
use Rattle.std.specs.Prelude.{max, slice_get}
use Rattle.ompt_events.specs.Records.{creation}
use Rattle.ompt_events.proofs.PlaceLemmas.{at_within}
use Rattle.wait_coverage.specs.declared.limits.Node.{Node}
use Rattle.wait_coverage.specs.Done.{tasks_of, records_of}
use Rattle.teams.proofs.CallLemmas.{read_at}
use Rattle.wait_coverage.proofs.LimitLemmas.{created_noted, early_at}
use Rattle.wait_coverage.proofs.limits.create.Goals as goal

pub offset_bounds-own-made : goal.offset_bounds-own-made
offset_bounds-own-made c =
    let inside =
    slice_get_within (tasks_of c.args.done.now) c.args.made.child c.requires.made.task
    c.requires.made.task_indexed in
    let all = c.own.ensures.is_done.own in
    let within : c.args.made.child < length c.own.result.now =
    rw c.own.ensures.value (omega (arith, inside, all)) in
    search rules

pub bounds-own-made : goal.bounds-own-made
bounds-own-made c =
    let inside =
    slice_get_within (tasks_of c.args.done.now) c.args.made.child c.requires.made.task
    c.requires.made.task_indexed in
    let all = c.own.ensures.is_done.own in
    rw c.own.ensures.value (omega (arith, inside, all))

pub offset_bounds-families-made : goal.offset_bounds-families-made
offset_bounds-families-made c =
    let inside =
    slice_get_within (tasks_of c.args.done.now) c.args.made.child c.requires.made.task
    c.requires.made.task_indexed in
    let all = c.own.ensures.is_done.families.all in
    let within : c.args.made.child < length c.families.result.now =
    rw c.families.ensures.value (omega (arith, inside, all)) in
    search rules

pub bounds-families-made : goal.bounds-families-made
bounds-families-made c =
    let inside =
    slice_get_within (tasks_of c.args.done.now) c.args.made.child c.requires.made.task
    c.requires.made.task_indexed in
    let all = c.own.ensures.is_done.families.all in
    rw c.families.ensures.value (omega (arith, inside, all))

pub index-previous-requires : goal.index-previous-requires
index-previous-requires c =
    let inside =
    slice_get_within (tasks_of c.args.done.now) c.args.made.parent c.requires.made.creator
    c.requires.made.creator_indexed in
    let all = c.requires.noted.chains.all in
    omega (arith, inside, all)

pub some-requires : goal.some-requires
some-requires c =
    let inside =
    at_within creation (records_of c.args.done.now) c.args.at
    (c.requires.made.creator, c.requires.made.task) c.requires.made.says in
    let few = c.own.ensures.is_done.teams.run.trace.few_records in
    omega (arith, inside, few)

pub index_mut-requires : goal.index_mut-requires
index_mut-requires c =
    let inside =
    slice_get_within (tasks_of c.args.done.now) c.args.made.parent c.requires.made.creator
    c.requires.made.creator_indexed in
    let all = c.requires.noted.chains.all in
    omega (arith, inside, all)

pub index-requires : goal.index-requires
index-requires c =
    let inside =
    slice_get_within (tasks_of c.args.done.now) c.args.made.parent c.requires.made.creator
    c.requires.made.creator_indexed in
    let all = c.requires.noted.latest.all in
    omega (arith, inside, all)

pub index_mut-requires-2 : goal.index_mut-requires-2
index_mut-requires-2 c =
    let inside =
    slice_get_within (tasks_of c.args.done.now) c.args.made.parent c.requires.made.creator
    c.requires.made.creator_indexed in
    let all = c.requires.noted.latest.all in
    omega (arith, inside, all)

pub index-requires-2 : goal.index-requires-2
index-requires-2 c =
    let inside =
    slice_get_within (tasks_of c.args.done.now) c.args.made.parent c.requires.made.creator
    c.requires.made.creator_indexed in
    let all = c.requires.noted.families.all in
    omega (arith, inside, all)

pub index_mut-requires-3 : goal.index_mut-requires-3
index_mut-requires-3 c =
    let inside =
    slice_get_within (tasks_of c.args.done.now) c.args.made.parent c.requires.made.creator
    c.requires.made.creator_indexed in
    let all = c.requires.noted.families.all in
    omega (arith, inside, all)

pub returns : goal.returns
returns c =
    let done = c.args.done.now in
    let made = c.requires.made in
    let own = c.args.made.parent in
    let child = c.args.made.child in
    let apart = c.own.ensures.is_done.teams.run.family.makers.apart in
    let inside = slice_get_within (tasks_of done) child made.task made.task_indexed in
    let parents = slice_get_within (tasks_of done) own made.creator made.creator_indexed in
    let owns = c.own.ensures.is_done.own in
    let families = c.own.ensures.is_done.families.all in
    let heads = c.requires.noted.chains.all in
    let lasts = c.requires.noted.latest.all in
    let family_lasts = c.requires.noted.families.all in
    let previous =
    read_at c.args.progress.now.heads.items own c.index-previous.result.now
    (omega (arith, parents, heads)) c.index-previous.ensures in
    let latest =
    λ (old : ℕ) (there : slice_get c.args.progress.now.latest.items own ≡ Some old).
    ap (set c.args.progress.now.latest.items own)
    (c.max.ensures
    ∙ ap (λ n. max n c.of-own.result)
    (same_Some c.index.result.now old
    (sym
    (read_at c.args.progress.now.latest.items own c.index.result.now
    (omega (arith, parents, lasts)) c.index.ensures)
    ∙ there))) in
    let latest_families =
    λ (old : ℕ) (there : slice_get c.args.progress.now.families.items own ≡ Some old).
    ap (set c.args.progress.now.families.items own)
    (c.max-2.ensures
    ∙ ap (λ n. max n c.of-limit.result)
    (same_Some c.index-2.result.now old
    (sym
    (read_at c.args.progress.now.families.items own c.index-2.result.now
    (omega (arith, parents, family_lasts)) c.index-2.ensures)
    ∙ there))) in
    let new : Node = record { limit = c.of-limit.result; previous = c.index-previous.result.now } in
    created_noted done c.args.at own made.creator made.task c.of-own.result c.args.nodes.now new
    c.args.progress.now _ apart c.requires.noted made.says made.creator_indexed previous
    (λ m t small low of.
    let P : List ℕ → Type 0 = λ l. get_or l child 0 ≤ m in
    (c.own.ensures.is_done.families.each child made.task (get_or done.families child 0) m made.task_indexed
    (slice_get-get_or done.families child 0 (omega (arith, inside, families)))).0
    (subst P c.families.ensures.value (c.of-limit.ensures.enough m small low)) t of)
    (λ m small low.
    let P : List ℕ → Type 0 = λ l. get_or l child 0 ≤ m in
    early_at done child made.task (get_or done.own child 0) m apart made.task_indexed
    (slice_get-get_or done.own child 0 (omega (arith, inside, owns)))
    (subst P c.own.ensures.value (c.of-own.ensures.enough m small low)))
    (λ m small early.
    let P : List ℕ → Type 0 = λ l. get_or l child 0 ≤ m in
    c.of-limit.ensures.least m small
    (subst P (sym c.families.ensures.value)
    ((c.own.ensures.is_done.families.each child made.task (get_or done.families child 0) m made.task_indexed
    (slice_get-get_or done.families child 0 (omega (arith, inside, families)))).1 early)))
    (λ m small early.
    let P : List ℕ → Type 0 = λ l. get_or l child 0 ≤ m in
    c.of-own.ensures.least m small
    (subst P (sym c.own.ensures.value)
    (early child (get_or done.own child 0) made.task_indexed
    (slice_get-get_or done.own child 0 (omega (arith, inside, owns))))))
    (ap (λ x. set c.args.progress.now.heads.items own x) c.some.ensures) latest latest_families
