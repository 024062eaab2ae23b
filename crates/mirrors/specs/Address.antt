-- What the text of a mirror says: an `http` URL of a host, a port and a folder (RFC 3986, section 3; RFC 9110, sections 4.2.1 and 7.2).
use Rattle.std.specs.Prelude.{◌≡◌, ◌⊎◌, ℕ, ◌<◌, ◌≤◌, Bool, ◌||◌, ◌==◌, List, [], ◌∷◌, ◌++◌, length, codes, IsTrue}
use Rattle.std.specs.Char.{is_ascii_alphanumeric}
use Rattle.std.specs.Fmt.{decimal}
use Rattle.std.specs.List.{list_all}
use Rattle.path_patterns.specs.Grammar.{IsTargetPath}

-- a byte of a host's name, or of an IPv4 address: a letter, a digit, `.` or `-`
abbrev pub is_host_byte : ℕ → Bool
is_host_byte b = is_ascii_alphanumeric b || (b == 46) || (b == 45)

-- a host: 1 to 253 such bytes
abbrev pub IsHost : List ℕ → Type 0
IsHost host = (0 < length host) × (length host ≤ 253) × IsTrue (list_all is_host_byte host)

-- a host and a port as a URL and the field `Host` write them: the host alone for port 80, or the host, a colon and the number in decimal
pub data Authority (host : List ℕ) : ℕ → List ℕ → Type 0 where
  alone : Authority host 80 host
  numbered : {port : ℕ} → 0 < port → port ≤ 65535 → Authority host port (host ++ (58 ∷ decimal port))

-- nothing, or a slash
abbrev pub IsEnding : List ℕ → Type 0
IsEnding text = (text ≡ []) ⊎ (text ≡ codes "/")

-- the path of a URL that names a folder by its prefix: the folder at the top, or one below it; a slash may stand after either
pub data FolderPath : List ℕ → List ℕ → Type 0 where
  top : {ending : List ℕ} → IsEnding ending → FolderPath [] ending
  below : {prefix ending : List ℕ} → IsTargetPath prefix → IsEnding ending → FolderPath prefix (47 ∷ (prefix ++ ending))

-- the text is the URL of this folder at this host and port, of which this is the authority
pub record IsMirror (text host : List ℕ) (port : ℕ) (authority prefix : List ℕ) : Type 0 where
  pub path : List ℕ
  pub is_host : IsHost host
  pub is_authority : Authority host port authority
  pub is_path : FolderPath prefix path
  pub spelt : text ≡ codes "http://" ++ (authority ++ path)

-- the name, after the first slash of a request's target, of a file in the folder of this prefix
abbrev pub name_below : List ℕ → List ℕ → List ℕ
name_below [] name = name
name_below (b ∷ prefix) name = (b ∷ prefix) ++ (47 ∷ name)
