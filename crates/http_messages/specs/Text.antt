-- The text of a response.
use Rattle.std.specs.Prelude.{ℕ, List, [], ◌∷◌, ◌++◌, Option, None, Some, codes, length}
use Rattle.std.specs.Fmt.{decimal}
use Rattle.http_messages.specs.declared.reply.Status.{Status}
use Rattle.http_messages.specs.declared.reply.Status.TheVariants.{Ok, BadRequest, Forbidden, NotFound, MethodNotAllowed, TooLarge, Unavailable}
use Rattle.http_messages.specs.declared.reply.Kind.{Kind}
use Rattle.http_messages.specs.declared.reply.Kind.TheVariants.{Json, Octets}
use Rattle.http_messages.specs.declared.reply.Method.{Method}
use Rattle.http_messages.specs.declared.reply.Method.TheVariants.{Get, Put, Post}

abbrev pub line_end : List ℕ
line_end = 13 ∷ 10 ∷ []

-- the number and the reason
abbrev pub status_text : Status → List ℕ
status_text Ok = codes "200 OK"
status_text BadRequest = codes "400 Bad Request"
status_text Forbidden = codes "403 Forbidden"
status_text NotFound = codes "404 Not Found"
status_text MethodNotAllowed = codes "405 Method Not Allowed"
status_text TooLarge = codes "413 Content Too Large"
status_text Unavailable = codes "503 Service Unavailable"

abbrev pub kind_text : Kind → List ℕ
kind_text Json = codes "application/json"
kind_text Octets = codes "application/octet-stream"

abbrev pub method_text : Method → List ℕ
method_text Get = codes "GET"
method_text Put = codes "PUT"
method_text Post = codes "POST"

-- the line that names the one method of a route
abbrev pub allow_line : Option Method → List ℕ
allow_line None = []
allow_line (Some m) = codes "Allow: " ++ method_text m ++ line_end

-- the lines before the body
unfoldable pub head_text : Status → Kind → ℕ → Option Method → List ℕ
head_text status kind len allow =
    codes "HTTP/1.1 " ++ status_text status ++ line_end
    ++ codes "Content-Type: " ++ kind_text kind ++ line_end
    ++ codes "Content-Length: " ++ decimal len ++ line_end
    ++ allow_line allow
    ++ codes "Connection: close" ++ line_end ++ line_end

-- a whole response
abbrev pub response : Status → Kind → Option Method → List ℕ → List ℕ
response status kind allow body = head_text status kind (length body) allow ++ body
