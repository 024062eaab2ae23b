use Rattle.std.proofs.Common.{◌≡◌, ◌∙◌, ap, refl, sym}
use Rattle.sha2.specs.Sha256.{sha256}
use Rattle.sql_tables.proofs.ItemLemmas.{bytes_one, text_one}
use Rattle.table_rows.proofs.ItemLemmas.{digest_one}
use Rattle.table_rows.proofs.reading.FilesItem.read.Goals as goal

pub returns-then-not-has_digest : goal.returns-then-not-has_digest
returns-then-not-has_digest c x fits reads =
    let digest = c.in-Some-digest_of.digest in
    let one : x.0 ≡ digest = digest_one x.0 digest fits c.in-Some-digest_of.ensures.fits (text_one _ _ _ reads.1.0 c.in-Some.ensures ∙ c.in-Some-digest_of.ensures.value) in
    let own : reads.0 ≡ c.in-Some-blob_at.bytes.now = bytes_one _ _ _ reads.1.1 c.in-Some-blob_at.ensures in
    c.if-not-has_digest.ensures.no refl (ap sha256 (sym own) ∙ reads.3 ∙ one)
