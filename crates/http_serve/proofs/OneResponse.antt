-- One response to an input.
use Rattle.std.proofs.Common.{◌≡◌, ◌⊎◌, inl, inr, ℕ, List, [], ◌∷◌, ◌++◌, map, Option, None, Result, Ok, Err, refl, sym, ap, subst, ◌∙◌}
use Rattle.path_patterns.specs.Names.{IsNameOf}
use Rattle.trust_rules.specs.State.{State}
use Rattle.trust_rules.specs.Runs.{Command, Batch, PutBlob, Prune, Metadata, Target, Reply, Begun, Offered, BatchDone, Stored, Pruned, FileBytes, Absent, Refused, Steps, Outcome, Runs, done as ended, next}
use Rattle.http_messages.specs.Request.{Request, fault, batch, put_blob, prune, metadata, target, Asks}
use Rattle.http_messages.specs.Framing.{Document}
use Rattle.http_messages.specs.Text.{response}
use Rattle.http_messages.specs.Bodies.{accepted_text, pruned_text, stored_text}
use Rattle.http_messages.specs.Faults.{fault_response}
use Rattle.http_messages.specs.declared.faults.Fault.TheVariants.{Name, Memory, Database}
use Rattle.http_messages.specs.declared.reply.Kind.{Kind}
use Rattle.http_messages.specs.declared.reply.Kind.TheVariants.{Json}
use Rattle.http_messages.specs.declared.reply.Status.TheVariants.{Ok as Fine}
use Rattle.http_serve.specs.Response.{IsCommand, offers, puts, prunes, names, asks, kind_of, denial_response, Says, done, stored, pruned, file, absent, denied, RespondsTo, at_fault, by_step, Responds}
use Rattle.trust_rules.specs.Offers.{offer_of}
use Rattle.http_serve.specs.Serving as serving
use Rattle.http_serve.specs.Serving.{Answered, Made, Ended, Line, Serves}
use Rattle.store.specs.Standing.{IsClean, Keeps, Moves, Standing}
use Rattle.store.proofs.Applying.{replies_step}
use Rattle.http_serve.specs.declared.serve.ServeFault.{ServeFault}
use Rattle.http_serve.specs.declared.serve.ServeFault.TheVariants.{Read, Write}

-- ---- the bytes that say a reply

abbrev text_of : Kind → Reply → List ℕ
text_of k Begun = []
text_of k (Offered same) = []
text_of k (BatchDone a s) = response Fine Json None (accepted_text a s)
text_of k (Stored new) = response Fine Json None (stored_text new)
text_of k (Pruned blobs rows) = response Fine Json None (pruned_text blobs rows)
text_of k (FileBytes bytes) = response Fine k None bytes
text_of k Absent = fault_response Name
text_of k (Refused d i) = denial_response d i

says-text : (k : Kind) (reply : Reply) (text : List ℕ) → Says k reply text → text ≡ text_of k reply
says-text k reply text (done a s) = refl
says-text k reply text (stored n) = refl
says-text k reply text (pruned b r) = refl
says-text k reply text (file bytes) = refl
says-text k reply text absent = refl
says-text k reply text (denied d i) = refl

-- ---- the command of a request

abbrev CommandOf : Request → Command → Type 0
CommandOf (fault why) c = ⊥
CommandOf (batch documents) c = c ≡ Batch (map (λ (d : Document). (offer_of d.0, d.1)) documents)
CommandOf (put_blob digest bytes) c = c ≡ PutBlob digest bytes
CommandOf prune c = c ≡ Prune
CommandOf (metadata name) c = c ≡ Metadata name
CommandOf (target text) c = (path : List ℕ) × (digest : Option (List ℕ)) × IsNameOf text path digest × (c ≡ Target path digest)

command-of : (request : Request) (c : Command) → IsCommand request c → CommandOf request c
command-of request c (offers documents) = refl
command-of request c (puts digest bytes) = refl
command-of request c prunes = refl
command-of request c (names name) = refl
command-of request c (asks text path digest h) = (path, digest, h, refl)

abbrev OnePath : Type 0
OnePath = (text p q : List ℕ) (d e : Option (List ℕ)) → IsNameOf text p d → IsNameOf text q e → (p ≡ q) × (d ≡ e)

abbrev OneStep : Type 0
OneStep = (S : State) (c : Command) (now : ℕ) (r q : Outcome) → Steps S c now r → Steps S c now q → r ≡ q

module _ (one_path : OnePath) (one_step : OneStep) where
  one-command : (request : Request) (c d : Command) → CommandOf request c → CommandOf request d → c ≡ d
  one-command (fault why) c d p q = absurd p
  one-command (batch documents) c d p q = p ∙ sym q
  one-command (put_blob digest bytes) c d p q = p ∙ sym q
  one-command prune c d p q = p ∙ sym q
  one-command (metadata name) c d p q = p ∙ sym q
  one-command (target text) c d (path, digest, h, p) (path2, digest2, k, q) =
      let (same_path, same_digest) = one_path text path path2 digest digest2 h k in
      p ∙ ap (λ x. Target x digest) same_path ∙ ap (λ x. Target path2 x) same_digest ∙ sym q

  stepped : (S : State) (c d : Command) (now : ℕ) (p q : Reply) (t u : List ℕ) (T U : State) → c ≡ d
      → Steps S c now (T, p) → Steps S d now (U, q) → Says (kind_of c) p t → Says (kind_of d) q u → (t ≡ u) × (T ≡ U)
  stepped S c d now p q t u T U same x y says told =
      let steps : ◌≡◌ {A = Outcome} (T, p) (U, q) = one_step S d now (T, p) (U, q) (subst (λ e. Steps S e now (T, p)) same x) y in
      let replies : p ≡ q = ap (λ (o : Outcome). o.1) steps in (
        says-text (kind_of c) p t says ∙ ap (λ e. text_of (kind_of e) p) same ∙ ap (text_of (kind_of d)) replies ∙ sym (says-text (kind_of d) q u told),
        ap (λ (o : Outcome). o.0) steps,
      )

  one-answer : (S : State) (now : ℕ) (r q : Request) (t u : List ℕ) (T U : State) → r ≡ q → RespondsTo S now r t T → RespondsTo S now q u U → (t ≡ u) × (T ≡ U)
  one-answer S now r q t u T U e (at_fault why) (at_fault other) = let same : why ≡ other = cc in (ap fault_response same, refl)
  one-answer S now r q t u T U e (at_fault why) (by_step request c reply text V is steps says) = absurd (subst (λ x. CommandOf x c) (sym e) (command-of q c is))
  one-answer S now r q t u T U e (by_step request c reply text V is steps says) (at_fault why) = absurd (subst (λ x. CommandOf x c) e (command-of r c is))
  one-answer S now r q t u T U e (by_step request c reply text V is steps says) (by_step request2 d reply2 text2 W is2 steps2 says2) =
      stepped S c d now reply reply2 t u T U (one-command q c d (subst (λ x. CommandOf x c) e (command-of r c is)) (command-of q d is2)) steps steps2 says says2

  pub one-response : ((input : List ℕ) (a b : Request) → Asks input a → Asks input b → a ≡ b)
      → (S : State) (input : List ℕ) (now : ℕ) (t u : List ℕ) (T U : State) → Responds S input now t T → Responds S input now u U → (t ≡ u) × (T ≡ U)
  one-response one S input now t u T U x y = one-answer S now x.request y.request t u T U (one input x.request y.request x.asks y.asks) x.answers y.answers

-- ---- answers are responses

pub moved : {A B : Standing} {P Q : State → State → Type 0} → ((S T : State) → P S T → Q S T) → Moves A B P → Moves A B Q
moved each moves S at = let (T, there, p) = moves S at in (T, there, each S T p)

pub unmoved : (A : Standing) (P : State → State → Type 0) → ((S : State) → P S S) → Moves A A P
unmoved A P each S at = (S, at, each S)

abbrev IsAnswer : Standing → List ℕ → ℕ → List ℕ → Standing → Type 0
IsAnswer A input now text B =
    Moves A B (λ S T. IsClean B → Responds S input now text T) ⊎ (((text ≡ fault_response Memory) ⊎ (text ≡ fault_response Database)) × Moves A B (λ S T. T ≡ S))

of-made : (A B : Standing) (input : List ℕ) (now : ℕ) (text : List ℕ) (request : Request) (c : Command) → Asks input request → IsCommand request c
    → Made A c now text B → IsAnswer A input now text B
of-made A B input now text request c asked is (serving.by_step reply t C moves says holds) =
    inl (moved (λ S T so clean. record { request = request; asks = asked; answers = by_step request c reply text T is (replies_step _ S c now T reply clean so) says }) moves)
of-made A B input now text request c asked is (serving.no_memory C keeps) = inr (inl refl, keeps.state)
of-made A B input now text request c asked is (serving.no_database C keeps) = inr (inr refl, keeps.state)

pub only-responses : (A B : Standing) (input : List ℕ) (now : ℕ) (text : List ℕ) → Answered A input now text B → IsAnswer A input now text B
only-responses A B input now text (serving.at_fault why asked) =
    inl (unmoved A (λ S T. IsClean A → Responds S input now text T) (λ S clean. record { request = fault why; asks = asked; answers = at_fault why }))
only-responses A B input now text (serving.by_command request c t C asked is made) = of-made A B input now text request c asked is made
only-responses A B input now text (serving.unread C wants keeps) = inr (inl refl, keeps.state)

-- ---- a run of the machine

-- commands made lead from the one to the other
abbrev RunsTo : State → State → Type 0
RunsTo S T = (made : List (Command × ℕ)) × (replies : List Reply) × Runs S made T replies

runs-then : (S T U : State) (before later : List (Command × ℕ)) (replies more : List Reply)
    → Runs S before T replies → Runs T later U more → Runs S (before ++ later) U (replies ++ more)
runs-then S T U before later replies more ended runs = runs
runs-then S T U before later replies more (next step rest) runs = next step (runs-then _ T U _ later _ more rest runs)

-- the same, unless a wrong answer of the disk was taken as true by the end; and if none was, none was before
abbrev RunsOn : Standing → Standing → Type 0
RunsOn A B = (IsClean B → IsClean A) × Moves A B (λ S T. IsClean B → RunsTo S T)

rested : (S T : State) → T ≡ S → RunsTo S T
rested S T same = ([], [], subst (λ (U : State). Runs S [] U []) (sym same) ended)

kept-runs : (A B : Standing) → Keeps A B → RunsOn A B
kept-runs A B keeps = (keeps.clean, moved (λ S T same clean. rested S T same) keeps.state)

made-runs : (A B : Standing) (c : Command) (now : ℕ) (text : List ℕ) → Made A c now text B → RunsOn A B
made-runs A B c now text (serving.by_step reply t C moves says holds) =
    (holds.clean, moved (λ S T so clean. ((c, now) ∷ [], reply ∷ [], next (replies_step _ S c now T reply clean so) ended)) moves)
made-runs A B c now text (serving.no_memory C keeps) = kept-runs A B keeps
made-runs A B c now text (serving.no_database C keeps) = kept-runs A B keeps

on-itself : (A : Standing) → RunsOn A A
on-itself A = ((λ clean. clean), unmoved A (λ S T. IsClean A → RunsTo S T) (λ S clean. rested S S refl))

answered-runs : (A B : Standing) (input : List ℕ) (now : ℕ) (text : List ℕ) → Answered A input now text B → RunsOn A B
answered-runs A B input now text (serving.at_fault why asked) = on-itself A
answered-runs A B input now text (serving.by_command request c t C asked is made) = made-runs A B c now text made
answered-runs A B input now text (serving.unread C wants keeps) = kept-runs A B keeps

still : (A B : Standing) → B ≡ A → RunsOn A B
still A B same = subst (λ (C : Standing). RunsOn A C) (sym same) (on-itself A)

ended-runs : (line : Line) (held : Option (List ℕ)) (A B : Standing) (r : Result (Unit {0}) ServeFault) → Ended line held A r B → RunsOn A B
ended-runs line held A B (Ok u) (input, is, text, answered, w) = answered-runs A B input line.now text answered
ended-runs line held A B (Err Read) h = still A B h.1
ended-runs line held A B (Err Write) (sound, (input, is, text, answered, w)) = answered-runs A B input line.now text answered

served-runs : (lines : List Line) (helds : List (Option (List ℕ))) (A B : Standing) (count : ℕ) → Serves lines helds A B count → RunsOn A B
served-runs [] [] A B count h = still A B h.0
served-runs [] (x ∷ helds) A B count h = absurd h
served-runs (line ∷ lines) [] A B count h = absurd h
served-runs (line ∷ lines) (held ∷ helds) A B count (result, mid, others, was, rest, total) =
    let one = ended-runs line held A mid result was in
    let more = served-runs lines helds mid B others rest in (
      (λ clean. one.0 (more.0 clean)),
      (λ S at.
          let (M, there, first) = one.1 S at in
          let (T, to, second) = more.1 M there in (
            T,
            to,
            (λ clean.
                let (made, replies, runs) = first (more.0 clean) in
                let (later, others, on) = second clean in
                (made ++ later, replies ++ others, runs-then S M T made later replies others runs on)),
          )),
    )

pub runs-on : (lines : List Line) (helds : List (Option (List ℕ))) (A B : Standing) (count : ℕ) → Serves lines helds A B count
    → Moves A B (λ S T. IsClean B → (first : State) (before : List (Command × ℕ)) (replies : List Reply) → Runs first before S replies
    → (made : List (Command × ℕ)) × (later : List Reply) × Runs first (before ++ made) T (replies ++ later))
runs-on lines helds A B count h =
    moved (λ S T on clean first before replies was. let runs = on clean in (runs.0, runs.1, runs-then first S T before runs.0 replies runs.1 was runs.2)) (served-runs lines helds A B count h).1
