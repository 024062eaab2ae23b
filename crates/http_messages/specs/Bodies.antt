-- The bodies of replies that are JSON objects (RFC 8259), with no space.
use Rattle.std.specs.Prelude.{ℕ, List, [], ◌++◌, Option, Some, None, Bool, true, false, codes}
use Rattle.std.specs.Fmt.{decimal}

-- the member that says which document of a batch was denied
abbrev pub index_text : Option ℕ → List ℕ
index_text None = []
index_text (Some i) = codes ",\"index\":" ++ decimal i

-- the body of a denial: its number, the index of a batch's document, and its name
abbrev pub denial_text : ℕ → Option ℕ → List ℕ → List ℕ
denial_text n index name =
    codes "{\"denial\":" ++ decimal n ++ index_text index ++ codes ",\"rule\":\"" ++ name ++ codes "\"}"

-- the body of a batch's reply: how many documents changed something, and how many were held already
abbrev pub accepted_text : ℕ → ℕ → List ℕ
accepted_text accepted same = codes "{\"accepted\":" ++ decimal accepted ++ codes ",\"same\":" ++ decimal same ++ codes "}"

-- the body of an upload's reply: whether the blob is new
abbrev pub stored_text : Bool → List ℕ
stored_text true = codes "{\"stored\":true}"
stored_text false = codes "{\"stored\":false}"

-- the body of a prune's reply: how many blobs and how many rows of the shelf were removed
abbrev pub pruned_text : ℕ → ℕ → List ℕ
pruned_text blobs rows = codes "{\"blobs\":" ++ decimal blobs ++ codes ",\"rows\":" ++ decimal rows ++ codes "}"
