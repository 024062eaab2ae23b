use Rattle.std.proofs.Common.{ℕ, List, ◌++◌, take, sym, subst, Err}
use Rattle.std.proofs.KnownBytes.{Consumes-trans}
use Rattle.http_messages.specs.Head.{left, FoundHead, IsInput}
use Rattle.http_messages.specs.Sound.{OnNoMemory}
use Rattle.http_messages.specs.declared.request.Received.{Received}
use Rattle.http_messages.specs.steps.Said.{wanted_by, OfRest, HasKept}
use Rattle.std.proofs.lemmas.List.{take_rest}
use Rattle.std.proofs.lemmas.Result.{err_from_is_err_and}
use Rattle.http_messages.specs.Request.{AsksOf, WantsMemoryOf}
use Rattle.http_messages.proofs.Asking.{asks-wanted, wants-memory, wanted-more, input-is, on-no-memory}
use Rattle.http_messages.proofs.SaidInOrder.{asks-by-none}
use Rattle.http_messages.proofs.request.read_request_of.Goals as goal

pub returns-in_default-clause-asked : goal.returns-in_default-clause-asked
returns-in_default-clause-asked g c =
    let got = take c.in_ok-filled.filled c.read_head.new.buf in
    let more = left (g.R.Read.remaining c.read_head.new.reader) in (
      got,
      c.in_ok-filled.ensures.bytes,
      λ request e.
          subst (AsksOf c.args.reads_only (got ++ more)) (sym e) (asks-by-none c.args.reads_only (got ++ more) (subst (FoundHead got more c.read_head.new.headers) c.in_default.is c.in_ok-filled.ensures.head)),
      λ is. absurd is,
    )

pub returns-clause-asked : goal.returns-clause-asked
returns-clause-asked g c =
    let got = take c.in_ok-filled.filled c.read_head.new.buf in
    let known = left (g.R.Read.remaining c.read_head.new.reader) in
    let more = left (g.R.Read.remaining c.read_said.new.reader) in
    let (gave, consumes, says) = c.in_ok-received.ensures.asked in (
      got ++ gave,
      Consumes-trans _ _ _ got gave c.in_ok-filled.ensures.bytes consumes,
      λ request means.
          asks-wanted c.args.reads_only got known gave more c.read_head.new.headers c.in-Some.spans (wanted_by c.of_spans-said.result) request
          (subst (FoundHead got known c.read_head.new.headers) c.in-Some.is c.in_ok-filled.ensures.head) c.of_spans-said.ensures (subst (λ l. OfRest (wanted_by c.of_spans-said.result) (l ++ gave ++ more) request) (take_rest got c.in-Some.spans.len) (says request means)),
      λ is.
          wanted-more c.args.reads_only got known gave more c.read_head.new.headers c.in-Some.spans (wanted_by c.of_spans-said.result)
          (subst (FoundHead got known c.read_head.new.headers) c.in-Some.is c.in_ok-filled.ensures.head) c.of_spans-said.ensures (c.in_ok-received.ensures.batch is),
    )

pub returns-in_err-received-clause-memory : goal.returns-in_err-received-clause-memory
returns-in_err-received-clause-memory g c =
    let got = take c.in_ok-filled.filled c.read_head.new.buf in
    let known = left (g.R.Read.remaining c.read_head.new.reader) in
    let p = err_from_is_err_and c.from_residual-in_err-received.result c.from_residual-in_err-received.ensures.1 in
    let kept : OnNoMemory {T = Received} (Err c.in_err-received.field-0.0) ((input : List ℕ) × IsInput (g.R.Read.remaining c.args.reader.now) input × WantsMemoryOf c.args.reads_only input) =
    on-no-memory c.in_err-received.field-0.0 (HasKept (wanted_by c.of_spans-said.result)) _
    (λ keeps. (
      got ++ known,
      input-is _ _ got c.in_ok-filled.ensures.bytes,
      wants-memory c.args.reads_only got known c.read_head.new.headers c.in-Some.spans (wanted_by c.of_spans-said.result)
          (subst (FoundHead got known c.read_head.new.headers) c.in-Some.is c.in_ok-filled.ensures.head) c.of_spans-said.ensures keeps,
    ))
    c.in_err-received.ensures.memory in
    rw (p.1, p.2) kept
