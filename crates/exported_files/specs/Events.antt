-- What is asked and done in an export.
use Rattle.std.specs.Prelude.{Option}
use Rattle.metadata.specs.File.{Bytes}

-- A file of these bytes stood at the place, or one of this digest; these bytes were put there; for the target of a path and a digest this was
-- answered, its bytes or nothing; and a target was left out, as no file can have its place.
pub data Event : Type 0 where
  stood : Bytes → Bytes → Event
  stood_of : Bytes → Bytes → Event
  put : Bytes → Bytes → Event
  answered : Bytes → Bytes → Option Bytes → Event
  left_out : Bytes → Event
