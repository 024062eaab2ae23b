-- What holds of an answer whichever it is holds where it is an error, or nothing.
use Rattle.std.proofs.Common.{Option, Some, None, Result, Ok, Err}
use Rattle.std.specs.Prelude.{OnErr, IfNone}

pub on-err : {T E : Type 0} (r : Result T E) (P : Type 0) → P → OnErr r P
on-err (Ok x) P h = tt
on-err (Err e) P h = h

pub if-none : {T : Type 0} (o : Option T) (P : Type 0) → P → IfNone o P
if-none None P h = h
if-none (Some x) P h = tt
