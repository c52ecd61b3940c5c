-- The hashers of a table of ids.
use Rattle.std.specs.Prelude.{ℕ, List}
use Rattle.std.specs.List.{fold}
use Rattle.std.specs.Hash as fed
use Rattle.std.specs.Hash.DefaultHasher as digest
use Rattle.std.specs.Hash.FoldHasher as folding
use Rattle.std.specs.declared.hash.DefaultHasher.{DefaultHasher}
use Rattle.std.specs.declared.hash.FoldHasher.{FoldHasher}

-- what SipHash has of the ids
abbrev pub digest_of : List ℕ → DefaultHasher
digest_of ids = fold (λ state id. fold digest.write state (fed.u64 id)) digest.initial ids

-- a hasher before it is given an id: it was given what SipHash makes of all ids
abbrev pub hasher_of : List ℕ → FoldHasher
hasher_of ids = fold folding.write folding.initial (fed.u64 (digest.finish (digest_of ids)))
