-- A request with a body (RFC 9112, sections 3, 6.2 and 9.6).
use Rattle.std.specs.Prelude.{ℕ, List, ◌++◌, codes, length}
use Rattle.std.specs.Fmt.{decimal}

-- what stands before a body of so many bytes: the method, the name, the host and the length; 13 and 10 end a line
abbrev pub message_head : List ℕ → List ℕ → List ℕ → ℕ → List ℕ
message_head method name host len =
    method ++ (codes " /" ++ (name ++ (codes " HTTP/1.1\r\nHost: " ++ (host ++ (codes "\r\nContent-Length: " ++ (decimal len ++ codes "\r\nConnection: close\r\n\r\n"))))))

-- the whole request
abbrev pub message : List ℕ → List ℕ → List ℕ → List ℕ → List ℕ
message method name host body = message_head method name host (length body) ++ body
