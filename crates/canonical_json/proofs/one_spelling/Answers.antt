use Rattle.canonical_json.proofs.OneSpelling.{one_value, one_text, nothing_appended}
use Rattle.canonical_json.proofs.Judging.{canonical_when_clear}
use Rattle.canonical_json.proofs.WriteLaw.{proper_is_written}
use Rattle.canonical_json.proofs.one_spelling.Goals as goal

pub returns : goal.returns
returns c = record { one_value = one_value; one_text = one_text; written = canonical_when_clear; writable = proper_is_written; appended = nothing_appended }
