-- What changes make of a state.
use Rattle.std.proofs.Common.{◌≡◌, List, [], ◌∷◌, Bool, true, false, cond, bytes_eq, IsTrue, Option, Some, None, Ok, Err, refl, sym, ap, ◌∙◌, subst}
use Rattle.std.specs.Prelude.{IsNone, IfNone, is_some, option_map}
use Rattle.document_parts.specs.Documents.{Root, Timestamp, Snapshot}
use Rattle.delegations.specs.Rows.{Rows}
use Rattle.metadata.specs.File.{Bytes, File}
use Rattle.denials.specs.Orders.{Order, Same, ◌>>=◌, pass, decide}
use Rattle.trusted_state.specs.Answers.{Gives, denies, forgoes, Answers, refused, unanswered}
use Rattle.trusted_state.specs.steps.Judging.{Ends, takes, stays, ends, gives_up}
use Rattle.trusted_state.specs.declared.refusal.Refusal.{Refusal}
use Rattle.trust_rules.specs.State.{Trusted, State, nothing_trusted, AreCoherent}
use Rattle.trust_rules.specs.Offers.{with_root, init}
use Rattle.trust_rules.specs.Effects as changes
use Rattle.trust_rules.specs.Effects.{Gone, applied, brought, no_effects, nothing_gone, with_blobs, without, on_state}

-- changes without blobs, and without what goes
abbrev pub OfTrustAlone : changes.Effects → Type 0
OfTrustAlone E = (E.blobs ≡ []) × (E.gone ≡ nothing_gone)

same_blobs : (blobs : List (Bytes × Bytes)) (E : changes.Effects) → OfTrustAlone E → with_blobs (without bytes_eq blobs E.gone.blobs) E.blobs ≡ blobs
same_blobs blobs E e =
    ap (λ (g : Gone). with_blobs (without bytes_eq blobs g.blobs) E.blobs) e.1 ∙ ap (λ (bs : List (Bytes × Bytes)). with_blobs blobs bs) e.0

pub trusted_alone : (S : State) (E : changes.Effects) → OfTrustAlone E → applied S E ≡ record S { trusted = brought S.trusted E }
trusted_alone S E e = ap (λ (bs : List (Bytes × Bytes)). record S { trusted = brought S.trusted E; blobs = bs }) (same_blobs S.blobs E e)

-- what an offer gives, on the whole state
pub on_whole : (S : State) (E : changes.Effects) (m : Order Trusted) → OfTrustAlone E → m (Ok (brought S.trusted E)) → on_state S m (Ok (applied S E))
on_whole S E m e h = (h, same_blobs S.blobs E e)

-- the state that begins with this root
pub first_root : (S : State) (new : File Root) → S.trusted ≡ nothing_trusted → S.blobs ≡ []
    → applied S (record no_effects { roots = new ∷ [] }) ≡ record { trusted = with_root nothing_trusted new; blobs = [] }
first_root S new e f =
    ap (λ (T : Trusted). applied (record { trusted = T; blobs = S.blobs }) (record no_effects { roots = new ∷ [] })) e
    ∙ ap (λ (bs : List (Bytes × Bytes)). applied (record { trusted = nothing_trusted; blobs = bs }) (record no_effects { roots = new ∷ [] })) f

-- ---- whether a root is there

root_there_at : {A B : Type 0} (f : A → B) (o : Option A) → true ≡ is_some o → ¬ IsNone (option_map f o)
root_there_at f None e h = subst (λ (b : Bool). cond b (Unit {0}) ⊥) e tt
root_there_at f (Some a) e h = subst (λ (b : Bool). cond b (Unit {0}) ⊥) h tt

pub root_there : {A B : Type 0} (f : A → B) (o : Option A) (p : Option B) → option_map f o ≡ p → true ≡ is_some o → ¬ IsNone p
root_there f o p e h = subst (λ q. ¬ IsNone q) e (root_there_at f o h)

no_root_at : {A B : Type 0} (f : A → B) (o : Option A) → false ≡ is_some o → IsNone (option_map f o)
no_root_at f None e = refl
no_root_at f (Some a) e = absurd (subst (λ (b : Bool). cond b ⊥ (Unit {0})) e tt)

pub no_root : {A B : Type 0} (f : A → B) (o : Option A) (p : Option B) → option_map f o ≡ p → false ≡ is_some o → IsNone p
no_root f o p e h = subst (λ q. IsNone q) e (no_root_at f o h)

pub if_none : {A : Type 0} (o : Option A) (P : Type 0) → IsNone o → IfNone o P → P
if_none None P n h = h
if_none (Some a) P n h = absurd (subst (λ (b : Bool). cond b (Unit {0}) ⊥) n tt)

-- ---- denials

pub answered_in : {S : State} {A X : Type 0} {m : Order A} {f : A → Order State} {view : X → A} {r : Refusal} → Gives m view (Err r) → Answers S (m >>= f) (Err r)
answered_in (denies g) = refused (decide g)
answered_in forgoes = unanswered

pub answered_behind : {S : State} {A : Type 0} {m : Order A} {f : A → Order State} (a : A) {r : Refusal} → m (Ok a) → Answers S (f a) (Err r) → Answers S (m >>= f) (Err r)
answered_behind a p (refused g) = refused (pass p g)
answered_behind a p unanswered = unanswered

-- ---- offers

pub began : (S : State) (b : Bytes) (new : File Root) (E : changes.Effects) → S.trusted ≡ nothing_trusted → S.blobs ≡ [] → E ≡ record no_effects { roots = new ∷ [] }
    → init S b (Ok (record { trusted = with_root nothing_trusted new; blobs = [] })) → init S b (Ok (applied S E))
began S b new E e f g h =
    subst (λ T. init S b (Ok T)) (sym (ap (λ (F : changes.Effects). applied S F) g ∙ first_root S new e f)) h

-- what an offer to a draft has taken
pub offered : (S : State) (m : Trusted → Order Trusted) (T P : Trusted) (E F : changes.Effects) (b : Bool) → T ≡ S.trusted → P ≡ S.trusted → F ≡ E → b ≡ true
    → Ends (m T) T (brought P F) (Ok b) → m S.trusted (Ok (brought S.trusted E))
offered S m T P E F b e f g t h =
    let there : Ends (m S.trusted) S.trusted (brought S.trusted E) (Ok true) =
    subst (λ (x : Bool). Ends (m S.trusted) S.trusted (brought S.trusted E) (Ok x)) t
    (subst (λ (G : changes.Effects). Ends (m S.trusted) S.trusted (brought S.trusted G) (Ok b)) g
    (subst (λ (Q : Trusted). Ends (m S.trusted) S.trusted (brought Q F) (Ok b)) f
    (subst (λ (U : Trusted). Ends (m U) U (brought P F) (Ok b)) e h))) in
    taken there
  where
    taken : {k : Order Trusted} {old new : Trusted} → Ends k old new (Ok true) → k (Ok new)
    taken (takes g) = g

pub offered_same : (S : State) (m : Trusted → Order Trusted) (T U : Trusted) (b : Bool) → T ≡ S.trusted → b ≡ false → Ends (m T) T U (Ok b) → m S.trusted (Err Same)
offered_same S m T U b e t h =
    stayed (subst (λ (x : Bool). Ends (m S.trusted) S.trusted U (Ok x)) t (subst (λ (V : Trusted). Ends (m V) V U (Ok b)) e h))
  where
    stayed : {k : Order Trusted} {old new : Trusted} → Ends k old new (Ok false) → k (Err Same)
    stayed (stays g is) = g

pub offered_refused : (S : State) (m : Trusted → Order Trusted) (T U : Trusted) (r : Refusal) → T ≡ S.trusted → Ends (m T) T U (Err r) → Answers S (on_state S (m S.trusted)) (Err r)
offered_refused S m T U r e h = denial (subst (λ (V : Trusted). Ends (m V) V U (Err r)) e h)
  where
    denial : {k : Order Trusted} {old new : Trusted} {s : Refusal} → Ends k old new (Err s) → Answers S (on_state S k) (Err s)
    denial (ends g) = refused g
    denial gives_up = unanswered

-- ---- what belongs together

pub coherent_as : {b : Bool} {t u : Option (File Timestamp)} {s v : Option (File Snapshot)} {r q : Rows} → t ≡ u → s ≡ v → r ≡ q
    → (IsTrue b → AreCoherent t s r) × (AreCoherent t s r → IsTrue b) → (IsTrue b → AreCoherent u v q) × (AreCoherent u v q → IsTrue b)
coherent_as {b} {t} {u} {s} {v} {r} {q} e f g h =
    subst (λ (z : Rows). (IsTrue b → AreCoherent u v z) × (AreCoherent u v z → IsTrue b)) g
    (subst (λ (z : Option (File Snapshot)). (IsTrue b → AreCoherent u z r) × (AreCoherent u z r → IsTrue b)) f
    (subst (λ (z : Option (File Timestamp)). (IsTrue b → AreCoherent z s r) × (AreCoherent z s r → IsTrue b)) e h))
