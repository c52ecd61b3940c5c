use Rattle.std.proofs.Common.{sym, ◌∙◌, ap}
use Rattle.credit_ledger.specs.Paths.{path_of}
use Rattle.credit_ledger.proofs.PathLemmas.{path_of-finish_share}
use Rattle.credit_ledger.proofs.share.Share.last.Goals as goal

pub returns : goal.returns
returns c =
    ap (λ p. p.1) (sym (path_of-finish_share c.self.inside.runs.items c.self.inside.last))
    ∙ ap (λ s. (path_of s).1) c.self.view_is
