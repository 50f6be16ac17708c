-- What contracts see of a stream whose failures are counted.
use Rattle.std.specs.Prelude.{ℕ, Bool}
use Rattle.ct_streams.specs.declared.counted.Counted.{Counted}

-- the stream
abbrev pub stream_of : {T : Type 0} → Counted T → T
stream_of c = c.stream

-- how often it failed
abbrev pub failures_of : {T : Type 0} → Counted T → ℕ
failures_of c = c.failures

-- its last failure was a write into a pipe that nobody reads
abbrev pub broken_of : {T : Type 0} → Counted T → Bool
broken_of c = c.broken
