-- The target files that the tables of a store hold.
use Rattle.std.proofs.Common.{◌≡◌, ◌∙◌, inl, inr, List, [], ◌∷◌, map, ap, refl, subst, sym}
use Rattle.std.specs.Prelude.{◌↔◌, All}
use Rattle.std.specs.List.{AllByRecursion}
use Rattle.std.proofs.lemmas.List.Elements.{All-from_recursion, All-head, All-tail}
use Rattle.sha2.specs.Sha256.{sha256}
use Rattle.sqlite.specs.State as database
use Rattle.sqlite_rules.specs.Lists.{Has}
use Rattle.hex.specs.Hex.{encode_lower}
use Rattle.metadata.specs.File.{Bytes}
use Rattle.repository_rows.specs.Contents.{Contents}
use Rattle.trust_rules.specs.State.{State, IsBlob, IsState}
use Rattle.table_rows.specs.Tables.{IsStore, blob_row}
use Rattle.table_rows.proofs.One.{blobs_of}
use Rattle.sql_tables.proofs.RowLemmas.{has_map, map_has}
use Rattle.sql_tables.specs.Rows.{AreKeyed}
use Rattle.store.specs.StateRows.{rows_of}
use Rattle.store.specs.steps.Loading.{HasFile}

-- the bytes of two rows that are one
row_bytes : (x y : Bytes × Bytes) → blob_row x ≡ blob_row y → (encode_lower x.0 ≡ encode_lower y.0) × (x.1 ≡ y.1)
row_bytes x y e = (cc, cc)

-- a row of the table is one of the rows that it holds
pub row_of : (s : database.State) (t : Contents) → IsStore s t → (digest bytes : Bytes) → HasFile s digest bytes
    → (x : Bytes × Bytes) × Has t.blobs x × (encode_lower x.0 ≡ encode_lower digest) × (x.1 ≡ bytes)
row_of s t is digest bytes file =
    let held : Has (map blob_row t.blobs) (blob_row (digest, bytes)) = subst (λ r. Has (map blob_row t.blobs) r) file.cells ((blobs_of s t is).sound file.row file.there) in
    let it = map_has blob_row t.blobs (blob_row (digest, bytes)) held in
    let same = row_bytes it.0 (digest, bytes) (sym it.2) in
    (it.0, it.1, same.0, same.1)

-- and each of these has a row
pub file_of : (s : database.State) (t : Contents) → IsStore s t → (digest bytes : Bytes) (x : Bytes × Bytes) → Has t.blobs x → encode_lower x.0 ≡ encode_lower digest → x.1 ≡ bytes
    → sha256 bytes ≡ digest → HasFile s digest bytes
file_of s t is digest bytes x has digits same right =
    let it = (blobs_of s t is).complete (blob_row x) (has_map blob_row t.blobs x has) in
    let cells : blob_row x ≡ blob_row (digest, bytes) = alike x (digest, bytes) digits same in
    record { row = it.0; there = it.1; cells = it.2 ∙ cells; digest_is = right }
  where
    alike : (x y : Bytes × Bytes) → encode_lower x.0 ≡ encode_lower y.0 → x.1 ≡ y.1 → blob_row x ≡ blob_row y
    alike x y d b = cc

-- reading leaves the files that are there
pub same_files : (old new : database.State) (t : Contents) → IsStore old t → IsStore new t → (digest bytes : Bytes) → HasFile old digest bytes → HasFile new digest bytes
same_files old new t is is' digest bytes file =
    let (x, has, digits, same) = row_of old t is digest bytes file in
    file_of new t is' digest bytes x has digits same file.digest_is

each_has : {A : Type 0} (P : A → Type 0) (xs : List A) → ((x : A) → Has xs x → P x) → AllByRecursion P xs
each_has P [] h = tt
each_has P (x ∷ xs) h = (h x (inl refl), each_has P xs (λ y has. h y (inr has)))

blob_has : (bs : List (Bytes × Bytes)) → All IsBlob bs → (b : Bytes × Bytes) → Has bs b → IsBlob b
blob_has [] h b has = absurd has
blob_has (x ∷ bs) h b (inl is) = subst IsBlob (sym is) (All-head IsBlob x bs h)
blob_has (x ∷ bs) h b (inr has) = blob_has bs (All-tail IsBlob x bs h) b has

-- the files of a state are those of its tables
pub holds_blobs : (s : database.State) (S : State) → IsState S → AreKeyed S.blobs → IsStore s (rows_of S)
    → All (λ b. (bytes : Bytes) → HasFile s b.0 bytes ↔ bytes ≡ b.1) S.blobs
holds_blobs s S valid keyed is = All-from_recursion Same S.blobs (each_has Same S.blobs each)
  where
    Same : Bytes × Bytes → Type 0
    Same b = (bytes : Bytes) → HasFile s b.0 bytes ↔ bytes ≡ b.1

    there : (b : Bytes × Bytes) → Has S.blobs b → (bytes : Bytes) → HasFile s b.0 bytes → bytes ≡ b.1
    there b has bytes file =
        let (x, has_x, digits, same) = row_of s (rows_of S) is b.0 bytes file in
        let key : x.0 ≡ b.0 = sym (blob_has S.blobs valid.blobs x has_x).digest ∙ (ap sha256 same ∙ file.digest_is) in
        sym same ∙ ap (λ (z : Bytes × Bytes). z.1) (keyed x b has_x has key)

    back : (b : Bytes × Bytes) → Has S.blobs b → (bytes : Bytes) → bytes ≡ b.1 → HasFile s b.0 bytes
    back b has bytes same = file_of s (rows_of S) is b.0 bytes b has refl (sym same) (ap sha256 same ∙ (blob_has S.blobs valid.blobs b has).digest)

    each : (b : Bytes × Bytes) → Has S.blobs b → Same b
    each b has bytes = (there b has bytes, back b has bytes)
