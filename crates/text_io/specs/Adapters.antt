-- What an adapter stands for.
use Rattle.std.specs.Prelude.{ℕ}
use Rattle.text_io.specs.declared.adapters.StdSource.{StdSource}
use Rattle.text_io.specs.declared.adapters.StdSink.{StdSink}

-- the reader of a source
abbrev pub reader_of : {R : Type 0} → StdSource R → R
reader_of source = source.inner

-- the writer of a sink
abbrev pub writer_of : {W : Type 0} → StdSink W → W
writer_of sink = sink.inner

-- how many calls of a sink have failed
abbrev pub faults_of : {W : Type 0} → StdSink W → ℕ
faults_of sink = sink.faults
