-- The bytes that say a reply.
use Rattle.std.proofs.Common.{◌≡◌, inl, inr, ℕ, List, Option, None, Some, sym, ap, subst, ◌∙◌}
use Rattle.denials.specs.Orders as orders
use Rattle.trust_rules.specs.Runs.{Reply, BatchDone, Stored, Pruned, FileBytes, Refused}
use Rattle.http_messages.specs.Bodies.{denial_text}
use Rattle.http_messages.specs.Text.{response}
use Rattle.http_messages.specs.declared.reply.Kind.{Kind}
use Rattle.http_messages.specs.declared.reply.Kind.TheVariants.{Json}
use Rattle.http_messages.specs.declared.reply.Status.{Status}
use Rattle.http_messages.specs.declared.reply.Status.TheVariants.{Ok as Fine}
use Rattle.http_serve.specs.Response.{Says, Shows, denial_status, done, stored, pruned, file, absent, denied, of_denial}
use Rattle.http_serve.specs.declared.replies.Answer.{Answer}
use Rattle.http_serve.specs.declared.replies.Written.{Written}
use Rattle.http_serve.specs.steps.Views.{IsDenial, Told}

any-kind : (k m : Kind) (reply : Reply) (text : List ℕ) → IsDenial reply → Says k reply text → Says m reply text
any-kind k m reply text is (done a s) = absurd is
any-kind k m reply text is (stored n) = absurd is
any-kind k m reply text is (pruned b r) = absurd is
any-kind k m reply text is (file bytes) = absurd is
any-kind k m reply text is absent = absurd is
any-kind k m reply text is (denied d i) = denied d i

-- a denial is told the same in any place
pub denied-told : (k m : Kind) (d : orders.Denial) (i : Option ℕ) (old new : Option (List ℕ)) (r : Written)
    → Told k (Refused d i) old new r → Told m (Refused d i) old new r
denied-told k m d i old new r (text, inl says, wrote) = (text, inl (any-kind k m (Refused d i) text tt says), wrote)
denied-told k m d i old new r (text, inr h, wrote) = (text, inr h, wrote)

pub says-done : (k : Kind) (a s : ℕ) (body text : List ℕ) → body ≡ text → Says k (BatchDone a s) (response Fine Json None text) → Says k (BatchDone a s) (response Fine Json None body)
says-done k a s body text e h = subst (λ b. Says k (BatchDone a s) (response Fine Json None b)) (sym e) h

pub says-stored : (k : Kind) (n : _) (body text : List ℕ) → body ≡ text → Says k (Stored n) (response Fine Json None text) → Says k (Stored n) (response Fine Json None body)
says-stored k n body text e h = subst (λ b. Says k (Stored n) (response Fine Json None b)) (sym e) h

pub says-pruned : (k : Kind) (b r : ℕ) (body text : List ℕ) → body ≡ text → Says k (Pruned b r) (response Fine Json None text) → Says k (Pruned b r) (response Fine Json None body)
says-pruned k b r body text e h = subst (λ x. Says k (Pruned b r) (response Fine Json None x)) (sym e) h

pub says-file : (k : Kind) (body bytes : List ℕ) → body ≡ bytes → Says k (FileBytes bytes) (response Fine k None body)
says-file k body bytes e = subst (λ b. Says k (FileBytes bytes) (response Fine k None b)) (sym e) (file bytes)

pub says-denied : (k : Kind) (d : orders.Denial) (i : Option ℕ) (status : Status) (number : ℕ) (name body : List ℕ) → number ≡ orders.number d → name ≡ orders.name d
    → status ≡ denial_status d → body ≡ denial_text number i name → Says k (Refused d i) (response status Json None body)
says-denied k d i status number name body n m s b =
    let same_body : body ≡ denial_text (orders.number d) i (orders.name d) = b ∙ ap (λ x. denial_text x i name) n ∙ ap (λ x. denial_text (orders.number d) i x) m in
    subst (λ x. Says k (Refused d i) (response x Json None body)) (sym s)
    (subst (λ x. Says k (Refused d i) (response (denial_status d) Json None x)) (sym same_body) (denied d i))

pub shows-denied : (d : orders.Denial) (i : Option ℕ) (answer : Answer) (number : ℕ) (name body : List ℕ) → number ≡ orders.number d → name ≡ orders.name d
    → answer.status ≡ denial_status d → answer.denial ≡ Some number → body ≡ denial_text number i name → Shows answer (response answer.status Json None body)
shows-denied d i answer number name body n m s told b =
    let same_body : body ≡ denial_text (orders.number d) i (orders.name d) = b ∙ ap (λ x. denial_text x i name) n ∙ ap (λ x. denial_text (orders.number d) i x) m in
    of_denial d i s (told ∙ ap Some n) (ap (λ x. response x Json None body) s ∙ ap (λ x. response (denial_status d) Json None x) same_body)
