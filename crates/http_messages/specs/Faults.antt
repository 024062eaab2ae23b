-- What a request that is no command is answered.
use Rattle.std.specs.Prelude.{ℕ, List, ◌++◌, Option, Some, None, codes}
use Rattle.http_messages.specs.declared.faults.Fault.{Fault}
use Rattle.http_messages.specs.declared.faults.Fault.TheVariants.{Head, Route, Method, Length, Size, Body, Digest, Batch, Name, Memory, Database}
use Rattle.http_messages.specs.declared.reply.Status.{Status}
use Rattle.http_messages.specs.declared.reply.Status.TheVariants.{BadRequest, NotFound, MethodNotAllowed, TooLarge, Unavailable}
use Rattle.http_messages.specs.declared.reply.Method.{Method as HttpMethod}
use Rattle.http_messages.specs.declared.reply.Kind.TheVariants.{Json}
use Rattle.http_messages.specs.Text.{response}

abbrev pub fault_word : Fault → List ℕ
fault_word Head = codes "head"
fault_word Route = codes "route"
fault_word (Method allowed) = codes "method"
fault_word Length = codes "length"
fault_word Size = codes "size"
fault_word Body = codes "body"
fault_word Digest = codes "digest"
fault_word Batch = codes "batch"
fault_word Name = codes "name"
fault_word Memory = codes "memory"
fault_word Database = codes "database"

abbrev pub fault_status : Fault → Status
fault_status Head = BadRequest
fault_status Route = NotFound
fault_status (Method allowed) = MethodNotAllowed
fault_status Length = BadRequest
fault_status Size = TooLarge
fault_status Body = BadRequest
fault_status Digest = BadRequest
fault_status Batch = BadRequest
fault_status Name = NotFound
fault_status Memory = Unavailable
fault_status Database = Unavailable

-- the method that the answer names: the route's own, where another was used
abbrev pub fault_allow : Fault → Option HttpMethod
fault_allow Head = None
fault_allow Route = None
fault_allow (Method allowed) = Some allowed
fault_allow Length = None
fault_allow Size = None
fault_allow Body = None
fault_allow Digest = None
fault_allow Batch = None
fault_allow Name = None
fault_allow Memory = None
fault_allow Database = None

abbrev pub fault_text : Fault → List ℕ
fault_text fault = codes "{\"fault\":\"" ++ fault_word fault ++ codes "\"}"

-- the whole answer to a fault
abbrev pub fault_response : Fault → List ℕ
fault_response fault = response (fault_status fault) Json (fault_allow fault) (fault_text fault)
