use Rattle.std.proofs.Common.{◌≡◌, ◌∷◌, ◌++◌, [], length, get_or, ap, sym, ◌∙◌, subst, arith}
use Rattle.std.specs.Prelude.{reverse, is_ok}
use Rattle.std.proofs.lemmas.Bool.{cond-true}
use Rattle.std.proofs.lemmas.List.{get_or_push}
use Rattle.credit_ledger.specs.Paths.{path_of}
use Rattle.credit_ledger.specs.Trees.{progress_at, IsSettling}
use Rattle.credit_ledger.proofs.PurseLemmas.{IsFree-overlaps}
use Rattle.credit_ledger.proofs.StepLemmas.{IsTreeLinked-put, IsSettling-put}
use Rattle.credit_ledger.proofs.purse.add.Goals as goal

pub settle-requires-clause-linked : goal.settle-requires-clause-linked
settle-requires-clause-linked c =
    let when : c.len.result ≡ length c.args.shares.now.items = omega arith in
    let nodes = rw (c.last.ensures, when) at c.put_run.ensures.nodes in
    IsTreeLinked-put c.args.shares.now.items c.args.tree.now c.put_run.new.self c.args.index c.args.share
    c.requires.linked c.requires.place c.requires.within nodes c.put_run.ensures.links

pub settle-requires-clause-settling : goal.settle-requires-clause-settling
settle-requires-clause-settling c =
    let when : c.len.result ≡ length c.args.shares.now.items = omega arith in
    let nodes = rw (c.last.ensures, when) at c.put_run.ensures.nodes in
    let pushed : c.push.new.self.items ≡ c.args.shares.now.items ++ c.args.share ∷ [] =
    c.push.ensures.items
    ∙ cond-true (is_ok c.push.result) (c.args.shares.now.items ++ c.args.share ∷ [])
    c.args.shares.now.items (c.push.ensures.succeeds c.requires.room) in
    let again : c.index-entered.result.now ≡ c.args.share =
    c.index-entered.ensures ∙ ap (λ xs. get_or xs c.len.result c.index-entered.result.now) pushed
    ∙ get_or_push c.args.shares.now.items c.args.share c.index-entered.result.now c.len.result (sym when)
    in
    let path : reverse c.runs.result.now ≡ (path_of c.args.share).0 =
    c.runs.ensures.path ∙ ap (λ s. (path_of s).0) again in
    subst (λ p. IsSettling c.as_slice.result.now (progress_at c.put_run.new.self) p) (sym path)
    (subst (λ xs. IsSettling xs (progress_at c.put_run.new.self) (path_of c.args.share).0)
    (sym (c.as_slice.ensures.value ∙ pushed))
    (IsSettling-put c.args.shares.now.items c.args.tree.now c.put_run.new.self c.args.index c.args.share
    c.requires.linked c.requires.place c.requires.within nodes c.put_run.ensures.links
    c.requires.known
    (IsFree-overlaps c.args.shares.now.items c.args.share c.requires.free)))
