-- What is there of both streams.
use Rattle.sb_pipeline.specs.records.declared.item.Stream.{Stream}
use Rattle.sb_pipeline.specs.records.declared.item.Stream.TheVariants.{A, B}

-- that of the stream, of one thing of stream a and one of stream b
abbrev pub by_stream : {X : Type 0} → X → X → Stream → X
by_stream a b A = a
by_stream a b B = b
