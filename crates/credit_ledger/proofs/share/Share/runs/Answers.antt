use Rattle.std.proofs.Common.{sym, ◌∙◌, ap}
use Rattle.std.specs.Prelude.{reverse}
use Rattle.credit_ledger.specs.Paths.{path_of}
use Rattle.credit_ledger.proofs.PathLemmas.{path_of-finish_share}
use Rattle.credit_ledger.proofs.share.Share.runs.Goals as goal

pub returns-clause-path : goal.returns-clause-path
returns-clause-path c =
    ap reverse c.as_slice.ensures.value
    ∙ ap (λ p. p.0) (sym (path_of-finish_share c.self.inside.runs.items c.self.inside.last))
    ∙ ap (λ s. (path_of s).0) c.self.view_is
