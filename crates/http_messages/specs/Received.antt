-- What the code's values stand for.
use Rattle.std.specs.Prelude.{◌≡◌, map, string_bytes, ⊤}
use Rattle.http_messages.specs.declared.request.Received.{Received}
use Rattle.http_messages.specs.declared.request.Received.TheVariants.{Fault, Batch, PutBlob, Prune, Metadata, Target}
use Rattle.http_messages.specs.declared.request.Asked.{Asked}
use Rattle.http_messages.specs.declared.request.Asked.TheVariants.{Fault as AFault, Batch as ABatch, PutBlob as APutBlob, Prune as APrune, Metadata as AMetadata, Target as ATarget}
use Rattle.http_messages.specs.Framing.{Document, BeginsWithDocument}
use Rattle.http_messages.specs.Request.{Request, fault, batch, put_blob, prune, metadata, target, Ends, of_batch}

-- what a request that was received asks, where the documents of a batch are not looked at yet
abbrev pub Means : Received → Request → Type 0
Means (Fault why) request = request ≡ fault why
Means (Batch body) request = Ends (of_batch body.items) request
Means (PutBlob digest body) request = request ≡ put_blob digest.0 body.items
Means Prune request = request ≡ prune
Means (Metadata name) request = request ≡ metadata (string_bytes name)
Means (Target path) request = request ≡ target (string_bytes path)

-- it is a batch
abbrev pub IsOfBatch : Received → Type 0
IsOfBatch (Fault why) = ⊥
IsOfBatch (Batch body) = ⊤
IsOfBatch (PutBlob digest body) = ⊥
IsOfBatch Prune = ⊥
IsOfBatch (Metadata name) = ⊥
IsOfBatch (Target path) = ⊥

-- it is a batch whose body begins with a document
abbrev pub HasDocument : Received → Type 0
HasDocument (Fault why) = ⊥
HasDocument (Batch body) = BeginsWithDocument body.items
HasDocument (PutBlob digest body) = ⊥
HasDocument Prune = ⊥
HasDocument (Metadata name) = ⊥
HasDocument (Target path) = ⊥

-- what is asked
abbrev pub request_of : Asked → Request
request_of (AFault why) = fault why
request_of (ABatch documents) = batch (map {B = Document} (λ d. (d.0, d.1.now)) documents.items)
request_of (APutBlob digest bytes) = put_blob digest.0 bytes.now
request_of APrune = prune
request_of (AMetadata name) = metadata name.now
request_of (ATarget path) = target path.now
