-- What a reply answers (RFC 9112, sections 4 to 6), over the grammar of `httparse`.
use Rattle.std.specs.Prelude.{◌≡◌, ◌≢◌, ◌⊎◌, ℕ, ◌≤◌, ◌<◌, List, length, suc, Option, Some, None, Ok, Err}
use Rattle.std.specs.Io.KnownBytes.{Consumes}
use Rattle.httparse.specs.Grammar.{ResponseHead, print_response, status_code, ReadsResponse}
use Rattle.http_messages.specs.Head.{IsInput, head_limit, field_limit}
use Rattle.fetch.specs.Source.{Answer}
use Rattle.fetch.specs.declared.FetchFault.TheVariants.{TooLong, Broken, OutOfMemory}

-- the input is the head h, within the limits, and then the body
pub record Heads (input : List ℕ) (h : ResponseHead) (body : List ℕ) : Type 0 where
  pub reads : ReadsResponse input h body
  pub bytes : length (print_response h) ≤ head_limit
  pub fields : length h.fields ≤ field_limit

-- no beginning of the input is a head within the limits
abbrev pub HasNoHead : List ℕ → Type 0
HasNoHead input = (h : ResponseHead) (body : List ℕ) → ¬ (Heads input h body)

-- What an input answers: by the status of its head the body, if it is within the limit, or that there is no file; all else is no answer.
pub data Yields (input : List ℕ) (limit : ℕ) : Answer → Type 0 where
  found : {h : ResponseHead} {body : List ℕ} → Heads input h body → status_code h ≡ 200 → length body ≤ limit → Yields input limit (Ok (Some body))
  passes : {h : ResponseHead} {body : List ℕ} → Heads input h body → status_code h ≡ 200 → limit < length body → Yields input limit (Err TooLong)
  absent : {h : ResponseHead} {body : List ℕ} → Heads input h body → (status_code h ≡ 403) ⊎ (status_code h ≡ 404) → Yields input limit (Ok None)
  other : {h : ResponseHead} {body : List ℕ} → Heads input h body → status_code h ≢ 200 → status_code h ≢ 403 → status_code h ≢ 404 → Yields input limit (Err Broken)
  headless : HasNoHead input → Yields input limit (Err Broken)

-- What is answered from a reader of which this is known: what its input answers; `Broken` where a call could fail; or want of memory. Of
-- a body that is too long, no more than its beginning need have been read.
pub data Fetched (given : Option (List ℕ)) (sound : Type 0) (limit : ℕ) : Answer → Type 0 where
  replied : {input : List ℕ} {answer : Answer} → IsInput given input → Yields input limit answer → Fetched given sound limit answer
  cut : (sound → ⊥) → Fetched given sound limit (Err Broken)
  wanting : Fetched given sound limit (Err OutOfMemory)

-- What is taken from a reader: at most as many bytes as a head may have; or a head, and of the body no more than one byte past the limit.
pub record TookWithin (before after : Option (List ℕ)) (limit : ℕ) : Type 0 where
  pub taken : List ℕ
  pub consumes : Consumes before after taken
  pub few : (length taken ≤ head_limit) ⊎ ((h : ResponseHead) × (body : List ℕ) × Heads taken h body × (length body ≤ suc limit))
