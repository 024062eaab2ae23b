-- What comes of one file that is taken from an honest source: it ends in want, or as the offer or the upload is judged.
use Rattle.std.proofs.Common.{◌≡◌, ◌⊎◌, inl, inr, ℕ, ◌<◌, ◌≤◌, Bool, true, false, ◌++◌, Option, Some, None, Result, Ok, Err, refl, sym, ap, ◌∙◌, subst, arith, length}
use Rattle.limits.specs.Limits.{file_limit}
use Rattle.std.specs.Prelude.{codes}
use Rattle.metadata.specs.File.{Bytes}
use Rattle.denials.specs.Orders as orders
use Rattle.denials.specs.Orders.{Judged, Same, Denied}
use Rattle.trust_rules.specs.State.{IsState, State, Trusted, metadata_of}
use Rattle.trust_rules.specs.Offers.{Offer, offer, put_blob}
use Rattle.trust_rules.specs.Runs.{Command, OfferOne, PutBlob, Outcome, Leads, leads, Reply, Offered, Stored, Refused, settled, with_trusted}
use Rattle.fetch.specs.Source.{Gives}
use Rattle.fetch.specs.declared.FetchFault.{FetchFault}
use Rattle.fetch.specs.declared.FetchFault.TheVariants as fetches
use Rattle.client.specs.Agreement.{Agrees}
use Rattle.client.specs.Answering as answering
use Rattle.client.specs.Answering.{IsAnswer, IsHeldAs, IsHonest}
use Rattle.client.specs.Several.{IsWant, IsWanting}
use Rattle.client.specs.Session as session
use Rattle.client.specs.Session.{IsAccepted, IsUnmade, Makes, Takes}
use Rattle.client.specs.Views as views
use Rattle.client.specs.Views.{Fault}
use Rattle.client.specs.Wanted.{Wanted, document}
use Rattle.client.specs.steps.Laws.{StepLaws}

-- ---- want

pub unmade_wants : (fault : Fault) → IsUnmade fault → IsWant fault
unmade_wants views.Database h = tt
unmade_wants views.OutOfMemory h = tt
unmade_wants (views.Fetch fault) h = absurd h
unmade_wants (views.Denied d) h = absurd h

want_not_denied : (fault : Fault) (d : orders.Denial) → IsWant fault → ◌≡◌ {A = Result Bytes Fault} (Err fault) (Err (views.Denied d)) → ⊥
want_not_denied views.Database d h e = cc
want_not_denied views.OutOfMemory d h e = cc
want_not_denied (views.Fetch fault) d h e = cc
want_not_denied (views.Denied c) d h e = h

want_fetched : (fault : Fault) (f : FetchFault) → IsWant fault → ◌≡◌ {A = Result Bytes Fault} (Err fault) (Err (views.Fetch f)) → f ≡ fetches.OutOfMemory
want_fetched views.Database f h e = absurd cc
want_fetched views.OutOfMemory f h e = absurd cc
want_fetched (views.Fetch fault) f h e = let same : fault ≡ f = cc in sym same ∙ h
want_fetched (views.Denied d) f h e = absurd h

-- want agrees with whatever the server does
pub want_agrees : (S D : State) (path : Bytes) (now : ℕ) (fault : Fault) → IsWant fault → Agrees S D path now (Err fault)
want_agrees S D path now fault h = record {
  bytes = tt;
  denied = λ d e. absurd (want_not_denied fault d h e);
  fetched = λ f e. want_fetched fault f h e;
}

-- ---- commands

-- how a command that is so judged ends
abbrev pub EndsAs : {A : Type 0} → (A → State) → State → State → Result (Unit {0}) Fault → Judged A → Type 0
EndsAs put C D r (Ok a) = (D ≡ put a) × (r ≡ Ok tt)
EndsAs put C D r (Err Same) = (D ≡ C) × (r ≡ Ok tt)
EndsAs put C D r (Err (Denied d)) = (D ≡ C) × (r ≡ Err (views.Denied d))

pub invert : {A : Type 0} (m : A → Type 0) (out : A → Outcome) (x : Outcome) → Leads m out x → (j : A) × m j × (x ≡ out j)
invert m out _ (leads j h) = (j, h, refl)

abbrev PairIs : {A : Type 0} → (A → State) → State → Outcome → Judged A → Type 0
PairIs put C x (Ok a) = (x.0 ≡ put a) × IsAccepted x.1
PairIs put C x (Err Same) = (x.0 ≡ C) × IsAccepted x.1
PairIs put C x (Err (Denied d)) = (x.0 ≡ C) × (x.1 ≡ Refused d None)

settles : {A : Type 0} (C : State) (put : A → State) (done : A → Reply) (again : Reply) → ((a : A) → IsAccepted (done a)) → IsAccepted again
    → (j : Judged A) (x : Outcome) → x ≡ settled C (λ a. (put a, done a)) again j → PairIs put C x j
settles C put done again fine same (Ok a) x e = (ap (λ (y : Outcome). y.0) e, subst (λ (y : Outcome). IsAccepted y.1) (sym e) (fine a))
settles C put done again fine same (Err Same) x e = (ap (λ (y : Outcome). y.0) e, subst (λ (y : Outcome). IsAccepted y.1) (sym e) same)
settles C put done again fine same (Err (Denied d)) x e = (ap (λ (y : Outcome). y.0) e, ap (λ (y : Outcome). y.1) e)

was_accepted : {A : Type 0} (put : A → State) (C D : State) (reply : Reply) (j : Judged A) → IsAccepted reply → PairIs put C (D, reply) j → EndsAs put C D (Ok tt) j
was_accepted put C D reply (Ok a) ok p = (p.0, refl)
was_accepted put C D reply (Err Same) ok p = (p.0, refl)
was_accepted put C D reply (Err (Denied d)) ok p = absurd (subst (λ (q : Reply). IsAccepted q) p.1 ok)

same_denial : (d e : orders.Denial) (i j : Option ℕ) → Refused d i ≡ Refused e j → d ≡ e
same_denial d e i j h = cc

was_denied : {A : Type 0} (put : A → State) (C D : State) (d : orders.Denial) (index : Option ℕ) (j : Judged A) → PairIs put C (D, Refused d index) j
    → EndsAs put C D (Err (views.Denied d)) j
was_denied put C D d index (Ok a) p = absurd p.1
was_denied put C D d index (Err Same) p = absurd p.1
was_denied put C D d index (Err (Denied e)) p = (p.0, ap (λ (x : orders.Denial). Err (views.Denied x)) (same_denial d e index None p.1))

-- a judgement, and how it ends; or want
abbrev pub Comes : {A : Type 0} → orders.Order A → (A → State) → State → State → Result (Unit {0}) Fault → Type 0
Comes {A} m put C D r = (IsWanting r × (D ≡ C)) ⊎ ((j : Judged A) × m j × EndsAs put C D r j)

came : {A : Type 0} (m : orders.Order A) (C D : State) (put : A → State) (done : A → Reply) (again : Reply) (reply : Reply) → ((a : A) → IsAccepted (done a)) → IsAccepted again
    → Leads m (settled C (λ a. (put a, done a)) again) (D, reply) → (j : Judged A) × m j × PairIs put C (D, reply) j
came m C D put done again reply fine same h =
    let i = invert m (settled C (λ a. (put a, done a)) again) (D, reply) h in
    (i.0, i.1, settles C put done again fine same i.0 (D, reply) i.2)

pub offer_comes : (now : ℕ) (C D : State) (o : Offer) (b : Bytes) (r : Result (Unit {0}) Fault) → Makes now (OfferOne o b) C D r → Comes (offer C.trusted o b now) (with_trusted C) C D r
offer_comes now C D o b _ (session.accepted reply h ok) =
    let c = came (offer C.trusted o b now) C D (with_trusted C) (λ _. Offered false) (Offered true) reply (λ _. tt) tt h in
    inr (c.0, c.1, was_accepted (with_trusted C) C D reply c.0 ok c.2)
offer_comes now C D o b _ (session.denied {d = d} index h) =
    let c = came (offer C.trusted o b now) C D (with_trusted C) (λ _. Offered false) (Offered true) (Refused d index) (λ _. tt) tt h in
    inr (c.0, c.1, was_denied (with_trusted C) C D d index c.0 c.2)
offer_comes now C _ o b _ (session.unmade {fault = fault} f) = inl (unmade_wants fault f, refl)

pub put_comes : (now : ℕ) (C D : State) (digest b : Bytes) (r : Result (Unit {0}) Fault) → Makes now (PutBlob digest b) C D r → Comes (put_blob C digest b) (λ T. T) C D r
put_comes now C D digest b _ (session.accepted reply h ok) =
    let c = came (put_blob C digest b) C D (λ T. T) (λ _. Stored true) (Stored false) reply (λ _. tt) tt h in
    inr (c.0, c.1, was_accepted (λ T. T) C D reply c.0 ok c.2)
put_comes now C D digest b _ (session.denied {d = d} index h) =
    let c = came (put_blob C digest b) C D (λ T. T) (λ _. Stored true) (Stored false) (Refused d index) (λ _. tt) tt h in
    inr (c.0, c.1, was_denied (λ T. T) C D d index c.0 c.2)
put_comes now C _ digest b _ (session.unmade {fault = fault} f) = inl (unmade_wants fault f, refl)

-- what is made of a valid state is valid
pub makes_valid : (law : StepLaws) (now : ℕ) (command : Command) (C D : State) (r : Result (Unit {0}) Fault) → IsState C → Makes now command C D r → IsState D
makes_valid law now command C D _ valid (session.accepted reply h ok) = law.valid C D command now reply valid h
makes_valid law now command C D _ valid (session.denied {d = d} index h) = law.valid C D command now (Refused d index) valid h
makes_valid law now command C _ _ valid (session.unmade f) = valid

-- ---- one file

-- the end of a file that is made to a command, as the end of the command
abbrev pub as_made : Result Bool Fault → Result (Unit {0}) Fault
as_made (Ok there) = Ok tt
as_made (Err fault) = Err fault

-- one file from an honest source: want; or the file that is held so, and what comes of it; or none, where none is
pub data Arrives (now : ℕ) (w : Wanted) (Has : Option Bytes → Type 0) (C : State) : State → Result Bool Fault → Type 0 where
  made : {D : State} (b : Bytes) → Has (Some b) → Makes now (w.command b) C D (Ok tt) → Arrives now w Has C D (Ok true)
  unmade : {D : State} {fault : Fault} (b : Bytes) → Has (Some b) → Makes now (w.command b) C D (Err fault) → Arrives now w Has C D (Err fault)
  nothing : Has None → Arrives now w Has C C (Ok false)
  longer : (b : Bytes) → Has (Some b) → w.limit < length b → Arrives now w Has C C (Err (views.Fetch fetches.TooLong))
  wants : {fault : Fault} → IsWant fault → Arrives now w Has C C (Err fault)

module _ {Src : Type 0} (from : Gives Src) (Is : Src → Type 0) (S : State) (now : ℕ) (honest : IsHonest from Is S now) where
  has_some : (limit : ℕ) (Has : Option Bytes → Type 0) (b : Bytes) → IsAnswer limit Has (Ok (Some b)) → Has (Some b) × (length b ≤ limit)
  has_some limit Has b (answering.gives h k) = (h, k)

  has_no : (limit : ℕ) (Has : Option Bytes → Type 0) → IsAnswer limit Has (Ok None) → Has None
  has_no limit Has (answering.has_none h) = h

  has_failed : (w : Wanted) (Has : Option Bytes → Type 0) (C : State) (fault : FetchFault) → IsAnswer w.limit Has (Err fault) → Arrives now w Has C C (Err (views.Fetch fault))
  has_failed w Has C _ (answering.is_longer {b = b} h k) = longer b h k
  has_failed w Has C _ answering.lacks_memory = wants refl

  pub arrives : (w : Wanted) (s t : Src) (C D : State) (r : Result Bool Fault) → Is s → Takes from now w s C t D r → Arrives now w (IsHeldAs S now w.name) C D r × Is t
  arrives w s t C D _ is (session.taken {b = b} g short m) =
      (made b (has_some w.limit (IsHeldAs S now w.name) b (honest.answers s t _ _ _ is g)).0 m, honest.stays s t _ _ _ is g)
  arrives w s t C D _ is (session.rejected {b = b} g short m) =
      (unmade b (has_some w.limit (IsHeldAs S now w.name) b (honest.answers s t _ _ _ is g)).0 m, honest.stays s t _ _ _ is g)
  arrives w s t C _ _ is (session.absent g) = (nothing (has_no w.limit (IsHeldAs S now w.name) (honest.answers s t _ _ _ is g)), honest.stays s t _ _ _ is g)
  arrives w s t C _ _ is (session.overlong {b = b} g long) =
      (longer b (has_some w.limit (IsHeldAs S now w.name) b (honest.answers s t _ _ _ is g)).0 long, honest.stays s t _ _ _ is g)
  arrives w s t C _ _ is (session.failed {fault = fault} g) =
      (has_failed w (IsHeldAs S now w.name) C fault (honest.answers s t _ _ _ is g), honest.stays s t _ _ _ is g)
  arrives w s _ C _ _ is session.unasked = (wants tt, is)

-- what is left of a file is valid
pub arrives_valid : (law : StepLaws) (now : ℕ) (w : Wanted) (Has : Option Bytes → Type 0) (C D : State) (r : Result Bool Fault) → IsState C → Arrives now w Has C D r → IsState D
arrives_valid law now w Has C D _ valid (made b h m) = makes_valid law now (w.command b) C D _ valid m
arrives_valid law now w Has C D _ valid (unmade b h m) = makes_valid law now (w.command b) C D _ valid m
arrives_valid law now w Has C _ _ valid (nothing h) = valid
arrives_valid law now w Has C _ _ valid (longer b h long) = valid
arrives_valid law now w Has C _ _ valid (wants h) = valid

-- ---- one document

-- how a document that the server holds so arrives: in want, or as the offer is judged
abbrev pub Document : (now : ℕ) → Offer → Bytes → State → State → Result Bool Fault → Type 0
Document now o b C D r = IsWanting r ⊎ ((j : Judged Trusted) × offer C.trusted o b now j × EndsAs (with_trusted C) C D (as_made r) j × ((there : Bool) → r ≡ Ok there → there ≡ true))

some_is : (b c : Bytes) → Some b ≡ Some c → b ≡ c
some_is b c e = cc

yes : (there : Bool) → ◌≡◌ {A = Result Bool Fault} (Ok true) (Ok there) → there ≡ true
yes there e = cc

not_ok : (fault : Fault) (there : Bool) → ◌≡◌ {A = Result Bool Fault} (Err fault) (Ok there) → there ≡ true
not_ok fault there e = absurd cc

module _ (S : State) (now : ℕ) (file : Bytes) (o : Offer) (b : Bytes) (held : metadata_of S.trusted file ≡ Some b) (short : length b ≤ file_limit) where
  abbrev Held : Option Bytes → Type 0
  Held = IsHeldAs S now (codes "metadata/" ++ file)

  is_file : (c : Bytes) → Held (Some c) → c ≡ b
  is_file c h = some_is c b (h.metadata file refl ∙ held)

  offered : (C D : State) (c : Bytes) (r : Result (Unit {0}) Fault) → Held (Some c) → Makes now (OfferOne o c) C D r → Comes (offer C.trusted o b now) (with_trusted C) C D r
  offered C D c r h m = subst (λ (x : Bytes). Comes (offer C.trusted o x now) (with_trusted C) C D r) (is_file c h) (offer_comes now C D o c r m)

  pub document_arrives : (C D : State) (r : Result Bool Fault) → Arrives now (document file o) Held C D r → Document now o b C D r
  document_arrives C D _ (made c h m) = by (offered C D c _ h m)
    where
      by : Comes (offer C.trusted o b now) (with_trusted C) C D (Ok tt) → Document now o b C D (Ok true)
      by (inl x) = absurd x.0
      by (inr x) = inr (x.0, x.1, x.2, yes)
  document_arrives C D _ (unmade {fault = fault} c h m) = by (offered C D c _ h m)
    where
      by : Comes (offer C.trusted o b now) (with_trusted C) C D (Err fault) → Document now o b C D (Err fault)
      by (inl x) = inl x.0
      by (inr x) = inr (x.0, x.1, x.2, not_ok fault)
  document_arrives C _ _ (nothing h) = let e : None ≡ Some b = h.metadata file refl ∙ held in absurd cc
  document_arrives C _ _ (longer c h long) = let e = is_file c h in let k = subst (λ (x : Bytes). file_limit < length x) e long in absurd (omega (arith, k, short))
  document_arrives C _ _ (wants h) = inl h

-- where the server has no such document, none arrives
pub no_document : (S : State) (now : ℕ) (file : Bytes) (o : Offer) → metadata_of S.trusted file ≡ None → (C D : State) (r : Result Bool Fault)
    → Arrives now (document file o) (IsHeldAs S now (codes "metadata/" ++ file)) C D r → IsWanting r ⊎ ((r ≡ Ok false) × (D ≡ C))
no_document S now file o none C D _ (made c h m) = let e : Some c ≡ None = h.metadata file refl ∙ none in absurd cc
no_document S now file o none C D _ (unmade c h m) = let e : Some c ≡ None = h.metadata file refl ∙ none in absurd cc
no_document S now file o none C _ _ (nothing h) = inr (refl, refl)
no_document S now file o none C _ _ (longer c h long) = let e : Some c ≡ None = h.metadata file refl ∙ none in absurd cc
no_document S now file o none C _ _ (wants h) = inl h
