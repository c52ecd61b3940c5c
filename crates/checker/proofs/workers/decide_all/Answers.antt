use Rattle.std.proofs.Common.{◌≡◌, ◌∙◌, length, sym, ap, subst, arith}
use Rattle.std.proofs.lemmas.Option.{slice_get_within}
use Rattle.checker.specs.Deciding.{WorkView, IsWork, HaveAllDecided}
use Rattle.checker.proofs.ShareLemmas.{AreOutcomes, outcomes_by, none_of_all, least_of_all, all_passed}
use Rattle.checker.proofs.workers.decide_all.Goals as goal

pub returns-in-Ok-None-clause-found : goal.returns-in-Ok-None-clause-found
returns-in-Ok-None-clause-found g c =
    let work = c.args.work.now in
    let outcomes = c.in_ok-findings.findings.items in
    let may = g.G.Gate.may_refuse c.args.gate.now in
    let is : IsWork work = subst IsWork c.work.view_is c.work.invariant in
    let workers = ap (λ (w : WorkView). w.workers) c.work.view_is in
    let all : length outcomes ≡ work.workers =
    ap length (sym c.as_slice.ensures.value) ∙ c.as_slice.ensures.len ∙ c.in_ok-findings.ensures.len
    ∙ workers in
    let are : AreOutcomes work may outcomes =
    outcomes_by work may outcomes all
    (λ worker d low. (c.in_ok-findings.ensures.each worker d (omega (arith, low, workers))).1.met.0) in
    none_of_all work may outcomes is all are (rw c.as_slice.ensures.value at c.in-Ok-None.ensures.all)
    (rw (c.as_slice.ensures.value, c.in-Ok-None.field-0-is) at c.in-Ok-None.ensures.least)

pub returns-in-Ok-Some-clause-found : goal.returns-in-Ok-Some-clause-found
returns-in-Ok-Some-clause-found g c =
    let work = c.args.work.now in
    let outcomes = c.in_ok-findings.findings.items in
    let may = g.G.Gate.may_refuse c.args.gate.now in
    let is : IsWork work = subst IsWork c.work.view_is c.work.invariant in
    let workers = ap (λ (w : WorkView). w.workers) c.work.view_is in
    let all : length outcomes ≡ work.workers =
    ap length (sym c.as_slice.ensures.value) ∙ c.as_slice.ensures.len ∙ c.in_ok-findings.ensures.len
    ∙ workers in
    let are : AreOutcomes work may outcomes =
    outcomes_by work may outcomes all
    (λ worker d low. (c.in_ok-findings.ensures.each worker d (omega (arith, low, workers))).1.met.0) in
    least_of_all work may outcomes c.in-Ok-Some.finding is all are
    (rw c.as_slice.ensures.value at c.in-Ok-Some.ensures.all)
    (rw (c.as_slice.ensures.value, c.in-Ok-Some.field-0-is) at c.in-Ok-Some.ensures.least)

pub overflow_cast-result : goal.overflow_cast-result
overflow_cast-result g c =
    let outcomes = c.in_ok-findings.findings.items in
    let all : length outcomes ≡ c.work.inside.workers =
    ap length (sym c.as_slice.ensures.value) ∙ c.as_slice.ensures.len ∙ c.in_ok-findings.ensures.len in
    let there =
    rw (c.as_slice.ensures.value, c.in-Err-default-Gate.field-0-1-is)
    at c.in-Err-default-Gate.ensures.failed in
    let within = slice_get_within outcomes c.in-Err-default-Gate.worker _ there in
    let few = c.work.invariant.few in
    omega (arith, within, all, few)

pub returns-in-Err-default-Gate-clause-refused : goal.returns-in-Err-default-Gate-clause-refused
returns-in-Err-default-Gate-clause-refused g c =
    let work = c.args.work.now in
    let outcomes = c.in_ok-findings.findings.items in
    let may = g.G.Gate.may_refuse c.args.gate.now in
    let workers = ap (λ (w : WorkView). w.workers) c.work.view_is in
    let all : length outcomes ≡ work.workers =
    ap length (sym c.as_slice.ensures.value) ∙ c.as_slice.ensures.len ∙ c.in_ok-findings.ensures.len
    ∙ workers in
    let are : AreOutcomes work may outcomes =
    outcomes_by work may outcomes all
    (λ worker d low. (c.in_ok-findings.ensures.each worker d (omega (arith, low, workers))).1.met.0) in
    let there =
    rw (c.as_slice.ensures.value, c.in-Err-default-Gate.field-0-1-is)
    at c.in-Err-default-Gate.ensures.failed in
    let within = slice_get_within outcomes c.in-Err-default-Gate.worker _ there in
    (omega (arith, within, all), are c.in-Err-default-Gate.worker _ there)

pub returns-in-Ok-None-clause-passed : goal.returns-in-Ok-None-clause-passed
returns-in-Ok-None-clause-passed g c =
    let outcomes = c.in_ok-findings.findings.items in
    let workers = ap (λ (w : WorkView). w.workers) c.work.view_is in
    let all : length outcomes ≡ c.args.work.now.workers =
    ap length (sym c.as_slice.ensures.value) ∙ c.as_slice.ensures.len ∙ c.in_ok-findings.ensures.len
    ∙ workers in
    all_passed (g.G.Gate.passed c.args.gate.now) outcomes c.args.work.now.workers (omega (arith, all))
    (λ worker d low. (c.in_ok-findings.ensures.each worker d (omega (arith, low, workers))).1.met.1)
    (subst (HaveAllDecided outcomes) all (rw c.as_slice.ensures.value at c.in-Ok-None.ensures.all))

pub returns-in-Ok-Some-clause-passed : goal.returns-in-Ok-Some-clause-passed
returns-in-Ok-Some-clause-passed g c =
    let outcomes = c.in_ok-findings.findings.items in
    let workers = ap (λ (w : WorkView). w.workers) c.work.view_is in
    let all : length outcomes ≡ c.args.work.now.workers =
    ap length (sym c.as_slice.ensures.value) ∙ c.as_slice.ensures.len ∙ c.in_ok-findings.ensures.len
    ∙ workers in
    all_passed (g.G.Gate.passed c.args.gate.now) outcomes c.args.work.now.workers (omega (arith, all))
    (λ worker d low. (c.in_ok-findings.ensures.each worker d (omega (arith, low, workers))).1.met.1)
    (subst (HaveAllDecided outcomes) all (rw c.as_slice.ensures.value at c.in-Ok-Some.ensures.all))

pub returns-in-Err-default-Gate-clause-passed_before : goal.returns-in-Err-default-Gate-clause-passed_before
returns-in-Err-default-Gate-clause-passed_before g c =
    let outcomes = c.in_ok-findings.findings.items in
    let refused = c.in-Err-default-Gate.worker in
    let all : length outcomes ≡ c.work.inside.workers =
    ap length (sym c.as_slice.ensures.value) ∙ c.as_slice.ensures.len ∙ c.in_ok-findings.ensures.len in
    let there =
    rw (c.as_slice.ensures.value, c.in-Err-default-Gate.field-0-1-is)
    at c.in-Err-default-Gate.ensures.failed in
    let within = slice_get_within outcomes refused _ there in
    all_passed (g.G.Gate.passed c.args.gate.now) outcomes refused (omega (arith, within))
    (λ worker d low. (c.in_ok-findings.ensures.each worker d (omega (arith, low, within, all))).1.met.1)
    (rw c.as_slice.ensures.value at c.in-Err-default-Gate.ensures.before)
