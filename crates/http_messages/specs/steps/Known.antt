-- The rows of a router that holds the routes.
use Rattle.std.specs.Prelude.{ℕ, List, [], ◌∷◌, ◌++◌, codes}
use Rattle.matchit.specs.Rows.{RowsOf}
use Rattle.matchit.specs.Router.{RouteOf}
use Rattle.http_messages.specs.declared.routes.Route.{Route}
use Rattle.http_messages.specs.declared.routes.Route.TheVariants.{Batch, Blob, Metadata, Prune, Target}

abbrev pub row : List ℕ → List ℕ → List (ℕ × ℕ) → Route → List ℕ × RouteOf Route
row pattern text names value = (pattern, record { pattern = pattern; text = text; names = names; value = value })

-- the routes, in the order of their patterns
unfoldable pub all_routes : RowsOf (RouteOf Route)
all_routes =
    row (codes "/batch") (codes "/batch") [] Batch
    ∷ row (codes "/blobs/" ++ 256 ∷ []) (codes "/blobs/{digest}") ((8, 14) ∷ []) Blob
    ∷ row (codes "/metadata/" ++ 256 ∷ []) (codes "/metadata/{name}") ((11, 15) ∷ []) Metadata
    ∷ row (codes "/prune") (codes "/prune") [] Prune
    ∷ row (codes "/targets/" ++ 257 ∷ []) (codes "/targets/{*path}") ((11, 15) ∷ []) Target
    ∷ []
