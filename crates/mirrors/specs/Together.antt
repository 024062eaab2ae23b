-- What several mirrors answer together that are asked for a file one after the other.
use Rattle.std.specs.Prelude.{◌≡◌, ◌⊎◌, List, [], ◌∷◌, ◌++◌, Bool, true, false, Some, None, Ok, Err}
use Rattle.std.specs.List.{AllByRecursion}
use Rattle.fetch.specs.Source.{Answer}
use Rattle.fetch.specs.declared.FetchFault.TheVariants.{TooLong, Broken, OutOfMemory}

-- after this answer no other mirror is asked: the file is there, or memory was refused
abbrev pub settles : Answer → Bool
settles (Ok None) = false
settles (Ok (Some file)) = true
settles (Err TooLong) = false
settles (Err Broken) = false
settles (Err OutOfMemory) = true

-- one of the mirrors answered so
abbrev pub Has : Answer → List Answer → Type 0
Has answer answers = (front : List Answer) × (back : List Answer) × (answers ≡ front ++ (answer ∷ back))

-- What mirrors answer together that gave these answers, in the order in which they were asked: the file of the first that has it, or want
-- of memory, after which none is asked. Where none has it: too long, where one said so; that there is none, where one said so and each
-- other gave no answer; and no answer, where none gave one.
pub data Together : List Answer → Answer → Type 0 where
  settled : (before : List Answer) {answer : Answer} → AllByRecursion (λ x. settles x ≡ false) before → settles answer ≡ true → Together (before ++ (answer ∷ [])) answer
  long : {answers : List Answer} → AllByRecursion (λ x. settles x ≡ false) answers → Has (Err TooLong) answers → Together answers (Err TooLong)
  absent : {answers : List Answer} → AllByRecursion (λ x. (x ≡ Ok None) ⊎ (x ≡ Err Broken)) answers → Has (Ok None) answers → Together answers (Ok None)
  broken : {answers : List Answer} → AllByRecursion (λ x. x ≡ Err Broken) answers → Together answers (Err Broken)
