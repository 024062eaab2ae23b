-- The limits of a repository of which more than one crate speaks.
use Rattle.std.specs.Prelude.{ℕ}

-- the most bytes of a blob, which is the content of a target
abbrev pub blob_limit : ℕ
blob_limit = 1048576

-- the most bytes of a metadata file, a layout or a link
abbrev pub file_limit : ℕ
file_limit = 262144

-- the most roots, the most rows of the shelf and the most blobs that a repository holds
abbrev pub most_held : ℕ
most_held = 4096

-- the most documents of a batch
abbrev pub most_documents : ℕ
most_documents = 160

-- the most signatures of a file
abbrev pub most_signatures : ℕ
most_signatures = 16
