-- The request for a file (RFC 9112, sections 3 and 9.6).
use Rattle.std.specs.Prelude.{ℕ, List, ◌++◌, codes}

-- the request of a host for the file of a name; 13 and 10 end a line
abbrev pub request : List ℕ → List ℕ → List ℕ
request host name = codes "GET /" ++ (name ++ (codes " HTTP/1.1\r\nHost: " ++ (host ++ codes "\r\nConnection: close\r\n\r\n")))
