-- The routes by their prefixes.
use Rattle.std.specs.Prelude.{ℕ, List, Option, Some, None, codes}
use Rattle.http_messages.specs.declared.routes.Route.{Route}
use Rattle.http_messages.specs.declared.routes.Route.TheVariants.{Batch, Blob, Metadata, Prune, Target}
use Rattle.http_messages.specs.RouteOf.{Routed}

-- the bytes that a route's targets begin with
abbrev pub prefix_of : Route → List ℕ
prefix_of Batch = codes "/batch"
prefix_of Blob = codes "/blobs/"
prefix_of Metadata = codes "/metadata/"
prefix_of Prune = codes "/prune"
prefix_of Target = codes "/targets/"

-- a route with what follows its prefix, if anything was found to
abbrev pub with_rest : Route → Option (List ℕ) → Option Routed
with_rest route None = None
with_rest route (Some rest) = Some (route, rest)
