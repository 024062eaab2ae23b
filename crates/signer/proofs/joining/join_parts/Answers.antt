use Rattle.std.proofs.Common.{◌<◌, ◌≤◌, ℕ, List, length, sym, subst, arith}
use Rattle.limits.specs.Limits.{file_limit, most_signatures}
use Rattle.keys_roles.specs.Views.{entries_view}
use Rattle.metadata.specs.Shape.{IsSignedBy}
use Rattle.signer.specs.Joining.{joined}
use Rattle.signer.proofs.JoinedFiles.{counted, joins, same_text, too_long, too_many}
use Rattle.signer.proofs.joining.join_parts.Goals as goal

pub returns-then-entries-missing-gt-MOST_SIGNATURES-clause-unjoined : goal.returns-then-entries-missing-gt-MOST_SIGNATURES-clause-unjoined
returns-then-entries-missing-gt-MOST_SIGNATURES-clause-unjoined c file other f h =
    let es = c.args.first.now.signatures.items in
    let fs = c.args.second.now.signatures.items in
    let g = subst (λ (m : List ℕ). IsSignedBy other (entries_view fs) m) (sym c.if-not-is_same.ensures) h in
    let count = counted c.as_slice-entries.result.now c.as_slice-further.result.now es fs c.missing.result c.as_slice-entries.ensures.value c.as_slice-further.ensures.value c.missing.ensures.count in
    let many : most_signatures < length (joined (entries_view es) (entries_view fs)) = omega (arith, count, c.if-entries-missing-gt-MOST_SIGNATURES.true) in
    too_many file other (entries_view es) (entries_view fs) c.args.first.now.signed.now f g many

pub returns-in-Ok-clause-unjoined : goal.returns-in-Ok-clause-unjoined
returns-in-Ok-clause-unjoined c file other f h =
    let es = c.args.first.now.signatures.items in
    let fs = c.args.second.now.signatures.items in
    let g = subst (λ (m : List ℕ). IsSignedBy other (entries_view fs) m) (sym c.if-not-is_same.ensures) h in
    let count = counted c.as_slice-entries.result.now c.as_slice-further.result.now es fs c.missing.result c.as_slice-entries.ensures.value c.as_slice-further.ensures.value c.missing.ensures.count in
    let few : length (joined (entries_view es) (entries_view fs)) ≤ most_signatures = omega (arith, count, c.if-entries-missing-gt-MOST_SIGNATURES.false) in
    let text = same_text c.as_slice-entries.result.now c.as_slice-further.result.now es fs c.args.first.now.signed.now c.in-Ok.out.items c.as_slice-entries.ensures.value c.as_slice-further.ensures.value c.in-Ok.ensures in
    let long : file_limit < length c.in-Ok.out.items = omega (arith, c.len.ensures, c.if-len-gt-FILE_LIMIT.true) in
    too_long file other (entries_view es) (entries_view fs) c.args.first.now.signed.now c.in-Ok.out.items f g few text long

pub returns-in-Ok-2-clause-joined : goal.returns-in-Ok-2-clause-joined
returns-in-Ok-2-clause-joined c file other f h =
    let es = c.args.first.now.signatures.items in
    let fs = c.args.second.now.signatures.items in
    let g = subst (λ (m : List ℕ). IsSignedBy other (entries_view fs) m) (sym c.if-not-is_same.ensures) h in
    let count = counted c.as_slice-entries.result.now c.as_slice-further.result.now es fs c.missing.result c.as_slice-entries.ensures.value c.as_slice-further.ensures.value c.missing.ensures.count in
    let few : length (joined (entries_view es) (entries_view fs)) ≤ most_signatures = omega (arith, count, c.if-entries-missing-gt-MOST_SIGNATURES.false) in
    let text = same_text c.as_slice-entries.result.now c.as_slice-further.result.now es fs c.args.first.now.signed.now c.in-Ok.out.items c.as_slice-entries.ensures.value c.as_slice-further.ensures.value c.in-Ok.ensures in
    let short : length c.in-Ok.out.items ≤ file_limit = omega (arith, c.len.ensures, c.if-len-gt-FILE_LIMIT.false) in
    joins file other (entries_view es) (entries_view fs) c.args.first.now.signed.now c.in-Ok.out.items f g few text short
