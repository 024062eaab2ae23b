-- Faults of the book and of a file's envelope as faults of a signing.
use Rattle.std.specs.Prelude.{Option, Some, None}
use Rattle.document_parts.specs.declared.documents.ShapeFault.{ShapeFault}
use Rattle.document_parts.specs.declared.documents.ShapeFault.TheVariants as shapes
use Rattle.denials.specs.declared.denial.Denial.{Denial}
use Rattle.denials.specs.declared.denial.Denial.TheVariants.{TooLong, NotCanonical, WrongShape}
use Rattle.leaf_book.specs.declared.faults.BookFault.{BookFault}
use Rattle.leaf_book.specs.declared.faults.BookFault.TheVariants as books
use Rattle.signer.specs.declared.faults.SignFileFault.{SignFileFault}
use Rattle.signer.specs.declared.faults.SignFileFault.TheVariants.{Denied, Book, OutOfMemory}

-- want of memory stays what it is
abbrev pub of_book : BookFault → SignFileFault
of_book books.OutOfMemory = OutOfMemory
of_book fault = Book fault

-- an envelope has no other fault of shape than the first three
abbrev pub of_shape : ShapeFault → SignFileFault
of_shape shapes.TooLong = Denied TooLong
of_shape shapes.NotCanonical = Denied NotCanonical
of_shape shapes.OutOfMemory = OutOfMemory
of_shape fault = Denied WrongShape

-- the fault of an envelope as a denial, or want of memory
abbrev pub denial_of_shape : ShapeFault → Option Denial
denial_of_shape shapes.TooLong = Some TooLong
denial_of_shape shapes.NotCanonical = Some NotCanonical
denial_of_shape shapes.OutOfMemory = None
denial_of_shape fault = Some WrongShape
