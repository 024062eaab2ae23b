use Rattle.std.proofs.Common.{◌≡◌, ◌<◌, List, ◌++◌, length, map, ap, ◌∙◌, arith}
use Rattle.std.proofs.lemmas.List.{length-map}
use Rattle.std.specs.List.{flat_map}
use Rattle.std.proofs.lemmas.Bool.Decides.{nat_tests}
use Rattle.limits.specs.Limits.{most_documents}
use Rattle.http_messages.specs.Framing.{Document, frame}
use Rattle.http_messages.proofs.Answered.{on-err}
use Rattle.http_messages.proofs.Frames.{too-many, ill-framed, none-at-all, nothing, begins}
use Rattle.http_messages.proofs.framing.read_batch.Goals as goal

pub returns-then-len-eq-MOST_DOCUMENTS-clause-none : goal.returns-then-len-eq-MOST_DOCUMENTS-clause-none
returns-then-len-eq-MOST_DOCUMENTS-clause-none c = λ docs batch.
    let done : List Document = map {B = Document} (λ d. (d.0, d.1.now)) c.loop-rest.documents.items in
    let full : length done ≡ most_documents = simp length-map (omega arith) in
    let empty = c.is_empty.ensures in
    let test = c.loop-rest-test.true in
    let some : 0 < length c.loop-rest.rest.now = grind (arith, nat_tests) in
    too-many c.args.body.now done docs c.loop-rest.rest.now c.loop-rest.invariant.whole c.loop-rest.invariant.each full some batch

pub returns-in_default-clause-none : goal.returns-in_default-clause-none
returns-in_default-clause-none c = λ docs batch.
    let empty = c.is_empty.ensures in
    let test = c.loop-rest-test.true in
    let some : 0 < length c.loop-rest.rest.now = grind (arith, nat_tests) in
    ill-framed c.args.body.now _ docs c.loop-rest.rest.now c.loop-rest.invariant.whole c.loop-rest.invariant.each some (rw c.in_default.is at c.in_ok-name.ensures.none) batch

pub returns-then-is_empty-clause-none : goal.returns-then-is_empty-clause-none
returns-then-is_empty-clause-none c = λ docs batch.
    let empty = c.is_empty.ensures in
    let test = c.loop-rest-test.false in
    let no_rest : length c.loop-rest.rest.now ≡ 0 = grind (arith, nat_tests) in
    let no_items = c.is_empty-2.ensures in
    let yes = c.if-is_empty.true in
    let none : length c.loop-rest.documents.items ≡ 0 = grind (arith, nat_tests) in
    none-at-all c.args.body.now docs
    (c.loop-rest.invariant.whole ∙ ap (λ l. flat_map frame (map {B = Document} (λ d. (d.0, d.1.now)) l) ++ c.loop-rest.rest.now) (nothing c.loop-rest.documents.items none) ∙ nothing c.loop-rest.rest.now no_rest)
    batch

pub returns-in_err-name-clause-memory : goal.returns-in_err-name-clause-memory
returns-in_err-name-clause-memory c =
    on-err c.from_residual.result _
    (begins c.args.body.now _ c.loop-rest.rest.now c.loop-rest.invariant.whole c.loop-rest.invariant.each c.in_err-name.ensures.memory)

pub returns-in_err-push-clause-memory : goal.returns-in_err-push-clause-memory
returns-in_err-push-clause-memory c =
    on-err c.from_residual-in_err-push.result _
    (begins c.args.body.now _ c.loop-rest.rest.now c.loop-rest.invariant.whole c.loop-rest.invariant.each
    ((c.in-Some.name, c.in-Some.bytes.now), c.in-Some.later.now, rw c.in-Some.is at c.in_ok-name.ensures.some))
