-- What is behind a source or a sink of std's, and how often it has failed.
use Rattle.std.specs.Prelude.{ℕ}
use Rattle.certificate.specs.declared.streams.FromRead.{FromRead}
use Rattle.certificate.specs.declared.streams.ToWrite.{ToWrite}

abbrev pub reader_of : {R : Type 0} → FromRead R → R
reader_of source = source.reader

abbrev pub writer_of : {W : Type 0} → ToWrite W → W
writer_of sink = sink.writer

-- the answers `Again` of a source
abbrev pub agains_of : {R : Type 0} → FromRead R → ℕ
agains_of source = source.agains

-- the answers `Broken` of a source
abbrev pub source_breaks : {R : Type 0} → FromRead R → ℕ
source_breaks source = source.breaks

-- the answers of a sink which ask for another turn
abbrev pub stalls_of : {W : Type 0} → ToWrite W → ℕ
stalls_of sink = sink.stalls

-- the answers `Broken` of a sink
abbrev pub sink_breaks : {W : Type 0} → ToWrite W → ℕ
sink_breaks sink = sink.breaks
