use Rattle.std.proofs.Common.{[], ◌∷◌, refl}
use Rattle.std.proofs.lemmas.Result.{err_from_is_err_and}
use Rattle.ompt_events.specs.declared.cause.Cause.TheVariants.{NestedParallel, RegionNesting, DepsPlace}
use Rattle.ompt_events.specs.declared.cause.Cause.TheVariants.{ShareWrong}
use Rattle.ompt_events.specs.Causes.{IsFreeOf}
use Rattle.ompt_events.specs.Faults.{FindsFirst, IsShownFault}
use Rattle.task_tree.specs.Own.{IsOwn, IsOwnFault, of_claims}
use Rattle.task_tree.proofs.ShownLemmas.{own_fault}
use Rattle.checker.specs.Search.{edge_causes}
use Rattle.checker.proofs.PhaseLemmas.{fault_shown, shown_more, edges_clear, none_clear, one_clear}
use Rattle.checker.proofs.PhaseLemmas.{only_clear}
use Rattle.checker.proofs.phases.edges_of.Goals as goal

pub in_run-requires : goal.in_run-requires
in_run-requires c =
    rw (c.run-run.ensures.value, c.own-own.ensures.value) (record { own = c.own-own.ensures.is_own })

pub returns-in_err-exclude-clause-fault : goal.returns-in_err-exclude-clause-fault
returns-in_err-exclude-clause-fault c =
    let rs = c.args.runs.now.run.records in
    let found : FindsFirst rs NestedParallel c.first-2.result =
    c.first-2.ensures.found rs NestedParallel (rw c.run-run.ensures.value at c.in_ok-find_nested.ensures) in
    let fault =
    fault_shown rs (NestedParallel ∷ []) c.in_err-exclude.field-0.0 refl
    (c.in_err-exclude.ensures.fault rs found) in
    let p =
    err_from_is_err_and c.from_residual-in_err-exclude.result c.from_residual-in_err-exclude.ensures.1 in
    rw (p.1, p.2)
    (shown_more rs edge_causes [] (NestedParallel ∷ []) (RegionNesting ∷ DepsPlace ∷ ShareWrong ∷ [])
    c.in_err-exclude.field-0.0 refl refl (none_clear rs) fault)

pub returns-in_err-exclude-2-clause-fault : goal.returns-in_err-exclude-2-clause-fault
returns-in_err-exclude-2-clause-fault c =
    let rs = c.args.runs.now.run.records in
    let flat : IsFreeOf rs NestedParallel =
    c.in_ok-exclude.ensures.free rs
    (c.first-2.ensures.found rs NestedParallel (rw c.run-run.ensures.value at c.in_ok-find_nested.ensures)) in
    let found : FindsFirst rs RegionNesting c.first-4.result =
    c.first-4.ensures.found rs RegionNesting (rw c.run-run.ensures.value at c.in_ok-find_misnested.ensures) in
    let fault =
    fault_shown rs (RegionNesting ∷ []) c.in_err-exclude-2.field-0.0 refl
    (c.in_err-exclude-2.ensures.fault rs found) in
    let p =
    err_from_is_err_and c.from_residual-in_err-exclude-2.result c.from_residual-in_err-exclude-2.ensures.1 in
    rw (p.1, p.2)
    (shown_more rs edge_causes (NestedParallel ∷ []) (RegionNesting ∷ []) (DepsPlace ∷ ShareWrong ∷ [])
    c.in_err-exclude-2.field-0.0 refl refl (only_clear rs NestedParallel flat) fault)

pub returns-in_err-edges-clause-fault : goal.returns-in_err-edges-clause-fault
returns-in_err-edges-clause-fault c =
    let rs = c.args.runs.now.run.records in
    let flat : IsFreeOf rs NestedParallel =
    c.in_ok-exclude.ensures.free rs
    (c.first-2.ensures.found rs NestedParallel (rw c.run-run.ensures.value at c.in_ok-find_nested.ensures)) in
    let inside : IsFreeOf rs RegionNesting =
    c.in_ok-exclude-2.ensures.free rs
    (c.first-4.ensures.found
    rs RegionNesting (rw c.run-run.ensures.value at c.in_ok-find_misnested.ensures)) in
    let fault =
    fault_shown rs (DepsPlace ∷ []) c.in_err-edges.field-0.0 refl
    (rw c.run-run.ensures.value at c.in_err-edges.ensures.fault) in
    let p = err_from_is_err_and c.from_residual-in_err-edges.result c.from_residual-in_err-edges.ensures.1 in
    rw (p.1, p.2)
    (shown_more rs edge_causes (NestedParallel ∷ RegionNesting ∷ []) (DepsPlace ∷ []) (ShareWrong ∷ [])
    c.in_err-edges.field-0.0 refl refl
    (one_clear rs NestedParallel (RegionNesting ∷ []) flat (only_clear rs RegionNesting inside)) fault)

pub returns-in_err-exclude_wrong_claims-clause-fault : goal.returns-in_err-exclude_wrong_claims-clause-fault
returns-in_err-exclude_wrong_claims-clause-fault c =
    let rs = c.args.runs.now.run.records in
    let own = c.args.runs.now.own in
    let flat : IsFreeOf rs NestedParallel =
    c.in_ok-exclude.ensures.free rs
    (c.first-2.ensures.found rs NestedParallel (rw c.run-run.ensures.value at c.in_ok-find_nested.ensures)) in
    let inside : IsFreeOf rs RegionNesting =
    c.in_ok-exclude-2.ensures.free rs
    (c.first-4.ensures.found
    rs RegionNesting (rw c.run-run.ensures.value at c.in_ok-find_misnested.ensures)) in
    let placed : IsFreeOf rs DepsPlace = rw c.run-run.ensures.value at c.in_ok-edges.ensures.placed in
    let is_own : IsOwn own = rw c.own-own.ensures.value at c.run-records.ensures.is_own in
    let found : IsOwnFault own ShareWrong c.in_err-exclude_wrong_claims.field-0.0 =
    rw c.own-own.ensures.value at c.in_err-exclude_wrong_claims.ensures.fault in
    let fault : IsShownFault rs (ShareWrong ∷ []) c.in_err-exclude_wrong_claims.field-0.0 =
    own_fault rs own ShareWrong c.in_err-exclude_wrong_claims.field-0.0 of_claims c.own-own.ensures.is_own
    is_own.places found in
    let p =
    err_from_is_err_and c.from_residual-in_err-exclude_wrong_claims.result
    c.from_residual-in_err-exclude_wrong_claims.ensures.1 in
    rw (p.1, p.2)
    (shown_more rs edge_causes (NestedParallel ∷ RegionNesting ∷ DepsPlace ∷ []) (ShareWrong ∷ []) []
    c.in_err-exclude_wrong_claims.field-0.0 refl refl
    (one_clear rs NestedParallel (RegionNesting ∷ DepsPlace ∷ []) flat
    (one_clear rs RegionNesting (DepsPlace ∷ []) inside (only_clear rs DepsPlace placed))) fault)

pub returns-clause-edges : goal.returns-clause-edges
returns-clause-edges c =
    let rs = c.args.runs.now.run.records in
    let own = c.args.runs.now.own in
    let claims : IsFreeOf own.run.records ShareWrong =
    rw c.own-own.ensures.value at c.in_ok-exclude_wrong_claims.ensures.free in
    record {
      of_run = rw c.own-own.ensures.value at c.in_ok-edges.ensures.run;
      clear =
          edges_clear rs own c.own-own.ensures.is_own
          (c.in_ok-exclude.ensures.free rs
          (c.first-2.ensures.found rs NestedParallel
          (rw c.run-run.ensures.value at c.in_ok-find_nested.ensures)))
          (c.in_ok-exclude-2.ensures.free rs
          (c.first-4.ensures.found rs RegionNesting
          (rw c.run-run.ensures.value at c.in_ok-find_misnested.ensures)))
          (rw c.run-run.ensures.value at c.in_ok-edges.ensures.placed) claims;
    }
