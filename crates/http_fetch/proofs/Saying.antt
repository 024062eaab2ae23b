-- Laws of requests with a body.
use Rattle.std.proofs.Common.{◌≡◌, ℕ, ◌≤◌, ◌<◌, List, [], ◌++◌, length, drop, Bool, true, Option, Ok, Err, Vec, Global, sym, subst, ap, ◌∙◌, arith, append_assoc, append-nil, length-append}
use Rattle.std.specs.Io.KnownBytes.{Appends, Consumes}
use Rattle.httparse.specs.Grammar.{ResponseHead}
use Rattle.httparse.specs.declared.spans.ResponseSpans.{ResponseSpans}
use Rattle.http_messages.specs.Head.{left}
use Rattle.http_messages.specs.Taken.{TookSome}
use Rattle.fetch.specs.declared.FetchFault.{FetchFault}
use Rattle.fetch.specs.declared.FetchFault.TheVariants.{TooLong, Broken, OutOfMemory}
use Rattle.http_fetch.specs.Reply.{HasNoHead}
use Rattle.http_fetch.specs.Sent.{Answered, cut, headless, passes, reply, said, wanting}
use Rattle.http_fetch.specs.steps.Found.{IsFound, ReadsRest}
use Rattle.http_fetch.proofs.Replying.{heads_more, input_then, is_left, left_none}

-- a text in eight pieces, of which three are known by others
pub in_eight : (t u v w x y z r a b c d e f g h c' e' g' : List ℕ) → t ≡ a → u ≡ t ++ b → v ≡ u ++ c' → w ≡ v ++ d → x ≡ w ++ e' → y ≡ x ++ f → z ≡ y ++ g' → r ≡ z ++ h
    → c' ≡ c → e' ≡ e → g' ≡ g → r ≡ a ++ (b ++ (c ++ (d ++ (e ++ (f ++ (g ++ h))))))
in_eight t u v w x y z r a b c d e f g h c' e' g' ht hu hv hw hx hy hz hr hc he hg = simp (hr, hz, hy, hx, hw, hv, hu, ht, hc, he, hg, append_assoc)

-- the whole of a text in two pieces is a beginning of it
pub took_text : (old new : Option (List ℕ)) (first front body : List ℕ) → first ≡ front → Appends old new (first ++ body) → TookSome old new (front ++ body)
took_text old new first front body e appended = (front ++ body, [], sym (append-nil (front ++ body)), subst (λ l. Appends old new (l ++ body)) e appended)

-- a body that was read to its end, within the limit
pub body_said : (old mid new : Option (List ℕ)) (was is : Bool) (got : List ℕ) (spans : ResponseSpans) (front : List ℕ) (limit : ℕ) (body : Vec ℕ Global)
    → Consumes old mid got → ((h : ResponseHead) × IsFound got spans h) → front ≡ drop spans.len got
    → ReadsRest mid new is front limit (Ok body) → Answered old (was ≡ true) limit (Ok (spans.code, body.items))
body_said old mid new was is got spans front limit body read (h, at) e (gave, rest, ended, same, few) =
    let more = gave ++ left new in
    let whole : front ++ more ≡ body.items = ap (λ l. front ++ (gave ++ l)) (left_none new ended) ∙ ap (λ l. front ++ l) (append-nil gave) ∙ sym same in
    let all : drop spans.len got ++ more ≡ body.items = ap (λ l. l ++ more) (sym e) ∙ whole in
    let fits = subst (λ l. length l ≤ limit) (sym same ∙ sym all) few in
    subst (λ l. Answered old (was ≡ true) limit (Ok (spans.code, l))) all
    (subst (λ n. Answered old (was ≡ true) limit (Ok (n, drop spans.len got ++ more))) at.code
    (said (input_then old mid got more read (input_then mid new gave (left new) rest.consumes (is_left new))) (reply (heads_more got more (drop spans.len got) h at.heads) fits)))

-- a body that was not
pub body_unsaid : (old mid new : Option (List ℕ)) (was is : Bool) (got : List ℕ) (spans : ResponseSpans) (front : List ℕ) (limit : ℕ) (fault : FetchFault)
    → Consumes old mid got → ((h : ResponseHead) × IsFound got spans h) → front ≡ drop spans.len got → (was ≡ true → is ≡ true)
    → ReadsRest mid new is front limit (Err fault) → Answered old (was ≡ true) limit (Err fault)
body_unsaid old mid new was is got spans front limit TooLong read (h, at) e stays (gave, rest, long) =
    let more = gave ++ left new in
    let longer : limit < length (front ++ more) = omega (arith, long, length-append front gave, length-append front (gave ++ left new), length-append gave (left new)) in
    said (input_then old mid got more read (input_then mid new gave (left new) rest.consumes (is_left new)))
    (passes (heads_more got more (drop spans.len got) h at.heads) (subst (λ l. limit < length (l ++ more)) e longer))
body_unsaid old mid new was is got spans front limit Broken read found e stays (gave, rest, unsound) = cut (λ k. unsound (stays k))
body_unsaid old mid new was is got spans front limit OutOfMemory read found e stays took = wanting

pub unsaid_without_head : (old new : Option (List ℕ)) (sound : Type 0) (got : List ℕ) (limit : ℕ) → Consumes old new got → HasNoHead (got ++ left new) → Answered old sound limit (Err Broken)
unsaid_without_head old new sound got limit read none = said (input_then old new got (left new) read (is_left new)) (headless none)
