-- Which route a request target has, in plain words: it begins with the route's prefix, and nothing may follow, or a name, or a
-- path. Nothing is decoded (RFC 9110, section 7.1, leaves the reading of a target to the server).
use Rattle.std.specs.Prelude.{ℕ, List, [], ◌∷◌, Option, Some, None, Bool, true, false, cond, ◌==◌, codes, option_and_then}
use Rattle.http_messages.specs.declared.routes.Route.{Route}
use Rattle.http_messages.specs.declared.routes.Route.TheVariants.{Batch, Blob, Metadata, Prune, Target}

-- what follows the prefix, if the text begins with it
abbrev pub after : List ℕ → List ℕ → Option (List ℕ)
after [] text = Some text
after (a ∷ prefix) [] = None
after (a ∷ prefix) (b ∷ text) = cond (a == b) (after prefix text) None

-- the text has a slash
abbrev pub has_slash : List ℕ → Bool
has_slash [] = false
has_slash (b ∷ rest) = cond (b == 47) true (has_slash rest)

-- a route, with what follows its prefix
abbrev pub Routed : Type 0
Routed = Route × List ℕ

-- nothing may follow
abbrev pub at_end : Route → List ℕ → Option Routed
at_end route [] = Some (route, [])
at_end route (b ∷ rest) = None

-- one or more bytes other than a slash
abbrev pub with_name : Route → List ℕ → Option Routed
with_name route [] = None
with_name route (b ∷ rest) = cond (has_slash (b ∷ rest)) None (Some (route, b ∷ rest))

-- one or more bytes of any kind
abbrev pub with_path : Route → List ℕ → Option Routed
with_path route [] = None
with_path route (b ∷ rest) = Some (route, b ∷ rest)

-- the first of two answers
abbrev pub or_else : {A : Type 0} → Option A → Option A → Option A
or_else None other = other
or_else (Some a) other = Some a

-- the route of a target, and what follows the route's prefix
unfoldable pub route_of : List ℕ → Option Routed
route_of target =
    or_else (option_and_then (at_end Batch) (after (codes "/batch") target))
    (or_else (option_and_then (with_name Blob) (after (codes "/blobs/") target))
    (or_else (option_and_then (with_name Metadata) (after (codes "/metadata/") target))
    (or_else (option_and_then (at_end Prune) (after (codes "/prune") target))
    (option_and_then (with_path Target) (after (codes "/targets/") target)))))
