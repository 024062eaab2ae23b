-- Laws of replies.
use Rattle.std.proofs.Common.{◌≡◌, ℕ, ◌≤◌, ◌<◌, List, [], ◌++◌, length, drop, Bool, true, Option, Some, None, Ok, Err, Vec, suc, Global, refl, sym, subst, ap, ◌∙◌, arith, append_assoc, append-nil, inl, inr, length-append}
use Rattle.std.proofs.lemmas.Bool.{cases_lt}
use Rattle.std.specs.Io.KnownBytes.{Consumes, IsAtEnd}
use Rattle.std.proofs.KnownBytes.{Consumes-trans}
use Rattle.httparse.specs.Grammar.{ResponseHead, print_response, HasNoResponse}
use Rattle.httparse.specs.declared.spans.ResponseSpans.{ResponseSpans}
use Rattle.http_messages.specs.Head.{IsInput, left}
use Rattle.http_messages.proofs.HeadLemmas.{front_has}
use Rattle.fetch.specs.Source.{Answer}
use Rattle.fetch.specs.declared.FetchFault.{FetchFault}
use Rattle.fetch.specs.declared.FetchFault.TheVariants.{TooLong, Broken, OutOfMemory}
use Rattle.http_fetch.specs.Reply as replies
use Rattle.http_fetch.specs.Reply.{Yields, Fetched, Heads, HasNoHead, TookWithin, headless, replied}
use Rattle.http_fetch.specs.steps.Found.{IsFound, ReadsBody, ReadsRest, TookBody, found, passes, absent, other, cut, wanting}

-- a head that fits the buffer stands in a full buffer, or nowhere
pub none_in_full : (buf more : List ℕ) → length buf ≡ 8192 → HasNoResponse buf → HasNoHead (buf ++ more)
none_in_full buf more full none h body heads =
    none h (drop (length (print_response h)) buf) (heads.reads.0, front_has buf more (print_response h) body (omega (arith, heads.bytes, full)) heads.reads.1)

-- a head in the front of an input is that of the whole
pub heads_more : (front more body : List ℕ) (h : ResponseHead) → Heads front h body → Heads (front ++ more) h (body ++ more)
heads_more front more body h heads = record {
  reads = (heads.reads.0, ap (λ l. l ++ more) heads.reads.1 ∙ append_assoc (print_response h) body more);
  bytes = heads.bytes;
  fields = heads.fields;
}

-- ---- what a reader had

pub left_none : (o : Option (List ℕ)) → IsAtEnd o → left o ≡ []
left_none None ended = refl
left_none (Some xs) ended = ended

pub is_left : (o : Option (List ℕ)) → IsInput o (left o)
is_left None = tt
is_left (Some xs) = refl

pub input_then : (old new : Option (List ℕ)) (got more : List ℕ) → Consumes old new got → IsInput new more → IsInput old (got ++ more)
input_then None new got more h is = tt
input_then (Some x) None got more h is = absurd h
input_then (Some x) (Some y) got more h is = ap (λ l. got ++ l) is ∙ sym h

-- ---- a body

pub body_found : (old new : Option (List ℕ)) (before : Bool) (code : ℕ) (front : List ℕ) (limit : ℕ) (body : Vec ℕ Global)
    → code ≡ 200 → ReadsRest old new before front limit (Ok body) → ReadsBody old before code front limit (Ok (Some body.items))
body_found old new before code front limit body is (gave, read, ended, same, few) =
    let more = gave ++ left new in
    let whole : front ++ more ≡ front ++ gave = ap (λ l. front ++ (gave ++ l)) (left_none new ended) ∙ ap (λ l. front ++ l) (append-nil gave) in
    subst (λ l. ReadsBody old before code front limit (Ok (Some l))) (whole ∙ sym same)
    (found _ is (input_then old new gave (left new) read.consumes (is_left new)) (subst (λ l. length l ≤ limit) (sym whole) few))

pub body_not : (old new : Option (List ℕ)) (before : Bool) (code : ℕ) (front : List ℕ) (limit : ℕ) (fault : FetchFault)
    → code ≡ 200 → ReadsRest old new before front limit (Err fault) → ReadsBody old before code front limit (Err fault)
body_not old new before code front limit TooLong is (gave, read, long) =
    passes _ is (input_then old new gave (left new) read.consumes (is_left new))
    (omega (arith, long, length-append front gave, length-append front (gave ++ left new), length-append gave (left new)))
body_not old new before code front limit Broken is (gave, read, unsound) = cut unsound
body_not old new before code front limit OutOfMemory is h = wanting

-- ---- how much is read

-- nothing
at_rest : (o : Option (List ℕ)) → Consumes o o []
at_rest None = tt
at_rest (Some xs) = refl

pub took_none : (o : Option (List ℕ)) (front : List ℕ) (limit : ℕ) → TookBody o o front limit
took_none o front limit = ([], record { consumes = at_rest o; few = omega (arith, length-append front []) })

pub body_took : (old new : Option (List ℕ)) (before : Bool) (front : List ℕ) (limit : ℕ) (body : Vec ℕ Global) → ReadsRest old new before front limit (Ok body) → TookBody old new front limit
body_took old new before front limit body h = (h.0, h.1)

pub fault_took : (old new : Option (List ℕ)) (before : Bool) (front : List ℕ) (limit : ℕ) (fault : FetchFault) → ReadsRest old new before front limit (Err fault) → TookBody old new front limit
fault_took old new before front limit TooLong h = (h.0, h.1)
fault_took old new before front limit Broken h = (h.0, h.1)
fault_took old new before front limit OutOfMemory h = h

-- what came with a head within the buffer, and what was read behind it
pub took_reply : (old mid new : Option (List ℕ)) (got : List ℕ) (spans : ResponseSpans) (front : List ℕ) (limit : ℕ) → Consumes old mid got → length got ≤ 8192
    → ((h : ResponseHead) × IsFound got spans h) → front ≡ drop spans.len got → TookBody mid new front limit → TookWithin old new limit
took_reply old mid new got spans front limit read fits (h, at) e (gave, more) = record {
  taken = got ++ gave;
  consumes = Consumes-trans _ _ _ _ _ read more.consumes;
  few = elim (cases_lt (suc limit) (length front)) [
    | inr fits_limit ↦ inr (h, front ++ gave, subst (λ l. Heads (got ++ gave) h (l ++ gave)) (sym e) (heads_more got gave (drop spans.len got) h at.heads), omega (arith, more.few, fits_limit))
    | inl past ↦ inl (omega (arith, more.few, past, fits, length-append got gave, length-append front gave))
  ];
}

pub took_nothing : (o : Option (List ℕ)) (limit : ℕ) → TookWithin o o limit
took_nothing o limit = record { taken = []; consumes = at_rest o; few = inl (omega arith) }

-- ---- a reply

pub replied_by : (old new : Option (List ℕ)) (was is : Bool) (got : List ℕ) (spans : ResponseSpans) (front : List ℕ) (limit : ℕ) (answer : Answer)
    → Consumes old new got → ((h : ResponseHead) × IsFound got spans h) → front ≡ drop spans.len got → (was ≡ true → is ≡ true)
    → ReadsBody new is spans.code front limit answer → Fetched old (was ≡ true) limit answer
replied_by old new was is got spans front limit _ read (h, at) e stays (found more code input few) =
    replied (input_then old new got more read input)
    (subst (λ l. Yields (got ++ more) limit (Ok (Some (l ++ more)))) (sym e)
    (replies.found (heads_more got more (drop spans.len got) h at.heads) (at.code ∙ code) (subst (λ l. length (l ++ more) ≤ limit) e few)))
replied_by old new was is got spans front limit _ read (h, at) e stays (passes more code input long) =
    replied (input_then old new got more read input)
    (replies.passes (heads_more got more (drop spans.len got) h at.heads) (at.code ∙ code) (subst (λ l. limit < length (l ++ more)) e long))
replied_by old new was is got spans front limit _ read (h, at) e stays (absent (inl code)) =
    replied (input_then old new got (left new) read (is_left new)) (replies.absent (heads_more got (left new) (drop spans.len got) h at.heads) (inl (at.code ∙ code)))
replied_by old new was is got spans front limit _ read (h, at) e stays (absent (inr code)) =
    replied (input_then old new got (left new) read (is_left new)) (replies.absent (heads_more got (left new) (drop spans.len got) h at.heads) (inr (at.code ∙ code)))
replied_by old new was is got spans front limit _ read (h, at) e stays (other a b c) =
    replied (input_then old new got (left new) read (is_left new))
    (replies.other (heads_more got (left new) (drop spans.len got) h at.heads) (λ k. a (sym at.code ∙ k)) (λ k. b (sym at.code ∙ k)) (λ k. c (sym at.code ∙ k)))
replied_by old new was is got spans front limit _ read (h, at) e stays (cut unsound) = replies.cut (λ k. unsound (stays k))
replied_by old new was is got spans front limit _ read (h, at) e stays wanting = replies.wanting

pub without_head : (old new : Option (List ℕ)) (sound : Type 0) (got : List ℕ) (limit : ℕ) → Consumes old new got → HasNoHead (got ++ left new) → Fetched old sound limit (Err Broken)
without_head old new sound got limit read none = replied (input_then old new got (left new) read (is_left new)) (headless none)

-- with a writer besides
pub and_written : (old : Option (List ℕ)) (reads writes : Type 0) (limit : ℕ) (answer : Answer) → Fetched old reads limit answer → Fetched old (reads × writes) limit answer
and_written old reads writes limit _ (replied input answers) = replied input answers
and_written old reads writes limit _ (replies.cut unsound) = replies.cut (λ h. unsound h.0)
and_written old reads writes limit _ replies.wanting = replies.wanting

-- ---- a request

pub in_five : (t u v w x a b c d e : List ℕ) → t ≡ a → u ≡ t ++ b → v ≡ u ++ c → w ≡ v ++ d → x ≡ w ++ e → x ≡ a ++ (b ++ (c ++ (d ++ e)))
in_five t u v w x a b c d e ht hu hv hw hx = simp (hx, hw, hv, hu, ht, append_assoc)
