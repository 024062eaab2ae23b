-- The head of a request, within the limits of this server, over the grammar of `httparse`.
use Rattle.std.specs.Prelude.{◌≡◌, ℕ, ◌≤◌, List, [], ◌++◌, length, Option, Some, None, IfSome}
use Rattle.httparse.specs.Grammar.{RequestHead, print_request, ReadsRequest}
use Rattle.httparse.specs.Spans.{IsRequestWithin, IsRequestAt}
use Rattle.httparse.specs.declared.spans.HeaderSpan.{HeaderSpan}
use Rattle.httparse.specs.declared.spans.RequestSpans.{RequestSpans}

-- the most bytes of a head
abbrev pub head_limit : ℕ
head_limit = 8192

-- the most fields of a head
abbrev pub field_limit : ℕ
field_limit = 32

-- the head has at most so many bytes and fields
pub record IsSmall (h : RequestHead) : Type 0 where
  pub bytes : length (print_request h) ≤ head_limit
  pub fields : length h.fields ≤ field_limit

-- the input is the head h, within the limits, and then rest
pub record Heads (input : List ℕ) (h : RequestHead) (rest : List ℕ) : Type 0 where
  pub reads : ReadsRequest input h rest
  pub small : IsSmall h

-- no beginning of the input is a head within the limits
abbrev pub HasNoHead : List ℕ → Type 0
HasNoHead input = (h : RequestHead) (rest : List ℕ) → ¬ (Heads input h rest)

-- the bytes that a reader is known to have left, or none
abbrev pub left : Option (List ℕ) → List ℕ
left None = []
left (Some bytes) = bytes

-- what the reader gave is the front of the input, and what it is known to have left is the rest of it
abbrev pub IsInput : Option (List ℕ) → List ℕ → Type 0
IsInput given input = IfSome given (λ bytes. input ≡ bytes)

-- what a search for a head found in the bytes `got`, of which `more` is the rest: no head in all of the input,
-- or one in `got`, where the spans say
abbrev pub FoundHead : List ℕ → List ℕ → List HeaderSpan → Option RequestSpans → Type 0
FoundHead got more headers None = HasNoHead (got ++ more)
FoundHead got more headers (Some spans) =
    IsRequestWithin got headers spans × (h : RequestHead) × IsRequestAt got headers spans h × IsSmall h
