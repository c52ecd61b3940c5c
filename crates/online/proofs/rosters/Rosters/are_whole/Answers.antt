use Rattle.std.proofs.Common.{ℕ, List, ap}
use Rattle.std.specs.Ordering.{nat_cmp}
use Rattle.std.specs.BTreeMap.{is_at}
use Rattle.std.specs.Map.{lookup}
use Rattle.std.proofs.lemmas.List.{nil_from_length}
use Rattle.online.specs.declared.rosters.Roster.{Roster}
use Rattle.online.proofs.EnrollLemmas.{none_short}
use Rattle.online.proofs.rosters.Rosters.are_whole.Goals as goal

pub returns : goal.returns
returns c = λ yes rs is.
    let kept = c.args.self.now in
    let empty = nil_from_length kept.lacking.entries (c.is_empty.ensures.0 yes) in
    none_short kept
    (λ parallel. ap (λ (es : List (ℕ × Roster)). lookup (is_at (nat_cmp parallel)) es) empty) rs is
