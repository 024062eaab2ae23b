-- What mirrors answer with one more that has no such file.
use Rattle.std.specs.Prelude.{None, Ok, Err}
use Rattle.fetch.specs.Source.{Answer}
use Rattle.fetch.specs.declared.FetchFault.TheVariants.{TooLong, Broken, OutOfMemory}

abbrev pub with_none : Answer → Answer
with_none (Ok file) = Ok None
with_none (Err TooLong) = Err TooLong
with_none (Err Broken) = Ok None
with_none (Err OutOfMemory) = Err OutOfMemory
