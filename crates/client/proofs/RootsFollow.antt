-- The roots of an update from an honest source: it ends in want, or the client has the roots of the server.
use Rattle.std.proofs.Common.{◌≡◌, ◌≢◌, ◌⊎◌, inl, inr, ℕ, ◌+◌, ◌<◌, ◌≤◌, Bool, true, false, List, [], ◌∷◌, ◌++◌, length, Option, Some, None, Result, Ok, Err, refl, sym, ap, ◌∙◌, subst, arith, length-append}
use Rattle.path_patterns.specs.Names.{dotted}
use Rattle.std.specs.Prelude.{codes, IfSome, IfNone}
use Rattle.std.proofs.lemmas.List.{append-nil}
use Rattle.std.proofs.Math.Seq.{append_snoc}
use Rattle.limits.specs.Limits.{most_held, file_limit}
use Rattle.document_parts.specs.Documents.{Profile, Root}
use Rattle.metadata.specs.File.{Bytes, File, IsFileOf, root_form}
use Rattle.document_parts.specs.Parts.{last_number}
use Rattle.denials.specs.Orders.{Judged, Denied, Same}
use Rattle.trust_rules.specs.State.{FollowsRoot, IsHeldUnder, IsRootChain, IsState, IsTrusted, State, Trusted, first, kept_root, metadata_of, nothing_trusted, then}
use Rattle.trust_rules.specs.Offers.{AfterRoot, RootOffer, kept, offer, rotated}
use Rattle.trust_rules.specs.Runs.{with_trusted}
use Rattle.fetch.specs.Source.{Gives}
use Rattle.client.specs.Answering.{IsHonest}
use Rattle.client.specs.Behind as behind
use Rattle.client.specs.Behind.{AfterRoots}
use Rattle.client.specs.Session as session
use Rattle.client.specs.Session.{Takes, TakesRoots, max_version}
use Rattle.client.specs.Views.{Fault}
use Rattle.client.specs.Wanted.{wanted_root}
use Rattle.client.proofs.HonestTakes.{Document, arrives, arrives_valid, as_made, document_arrives, no_document}
use Rattle.client.specs.Several.{IsWanting}
use Rattle.client.specs.steps.Laws.{RootLaws, StepLaws}

-- ---- what a chain says

pub root_read : {bs : List (Profile × Bytes)} {root : File Root} → IsRootChain bs root → IsFileOf root_form root
root_read (first doc is meets) = doc
root_read (then chain doc follows) = doc

pub held_by : (T : Trusted) (root : File Root) → IsTrusted T → T.root ≡ Some root → IsHeldUnder T root
held_by T root valid e = subst (λ (o : Option (File Root)). IfSome o (IsHeldUnder T)) e valid.held

pub trusts_one : (T : Trusted) → IsTrusted T → (T.roots ≡ [] → ⊥) → (root : File Root) × (T.root ≡ Some root)
trusts_one T valid some = by T.root refl
  where
    by : (o : Option (File Root)) → T.root ≡ o → (root : File Root) × (T.root ≡ Some root)
    by None e = absurd (some (ap (λ (U : Trusted). U.roots) (subst (λ (o : Option (File Root)). IfNone o (T ≡ nothing_trusted)) e valid.none)))
    by (Some root) e = (root, e)

no_end : (roots more : List (Profile × Bytes)) (b : Profile × Bytes) → roots ++ b ∷ more ≡ [] → ⊥
no_end [] more b k = let h : ◌≡◌ {A = List (Profile × Bytes)} (b ∷ more) [] = k in cc
no_end (c ∷ roots) more b k = let h : ◌≡◌ {A = List (Profile × Bytes)} (c ∷ (roots ++ b ∷ more)) [] = k in cc

-- no chain has no root
pub no_chain : {bs : List (Profile × Bytes)} {r : File Root} → IsRootChain bs r → bs ≡ [] → ⊥
no_chain (first {b = b} {root = root} doc is meets) k = let h : ◌≡◌ {A = List (Profile × Bytes)} ((root.body.profile, b) ∷ []) [] = k in cc
no_chain (then {bs = bs} {new = new} chain doc follows) k = no_end bs [] (kept_root new) k

-- a list that goes on after a beginning, and is not empty
not_empty : (xs front more : List (Profile × Bytes)) → xs ≡ front ++ more → front ≢ [] → xs ≢ []
not_empty xs [] more e some none = some refl
not_empty xs (c ∷ front) more e some none = let k : ◌≡◌ {A = List (Profile × Bytes)} [] (c ∷ (front ++ more)) = sym none ∙ e in cc

-- the roots of a call, as they are left
pub record Followed (S C : State) (later : List (Profile × Bytes)) (D : State) : Type 0 where
  pub valid : IsState D
  pub after : AfterRoots C.trusted later D.trusted
  pub blobs : D.blobs ≡ C.blobs
  pub roots : D.trusted.roots ≡ S.trusted.roots

ok_is : {A : Type 0} (a b : A) → ◌≡◌ {A = Judged A} (Ok a) (Ok b) → a ≡ b
ok_is a b e = cc

false_true : ◌≡◌ {A = Bool} false true → ⊥
false_true e = cc

module _ (roots_law : RootLaws) (steps_law : StepLaws) (S : State) (sure : IsState S) (now : ℕ) where
  -- the client's last root, and the server's next one
  module _ (C : State) (valid : IsState C) (root : File Root) (known : C.trusted.root ≡ Some root) (b : Profile × Bytes) (more : List (Profile × Bytes)) (rest : S.trusted.roots ≡ C.trusted.roots ++ b ∷ more) where
    own : IsRootChain C.trusted.roots root
    own = (held_by C.trusted root valid.trusted known).chain

    abbrev Next : Type 0
    Next = (new : File Root) × (kept_root new ≡ b) × IsFileOf root_form new × FollowsRoot root new × IsRootChain (C.trusted.roots ++ b ∷ []) new

    next_root : Next
    next_root =
        let last = trusts_one S.trusted sure.trusted (λ none. no_end C.trusted.roots more b (sym rest ∙ none)) in
        roots_law.next C.trusted.roots more b root last.0 own
        (subst (λ (l : List (Profile × Bytes)). IsRootChain l last.0) rest (held_by S.trusted last.0 sure.trusted last.1).chain)

    next_held : metadata_of S.trusted (dotted (root.body.version + 1) (codes "root")) ≡ Some b.1
    next_held = roots_law.named S.trusted C.trusted.roots more b root sure.trusted own rest

    next_short : length b.1 ≤ file_limit
    next_short = subst (λ (x : Profile × Bytes). length x.1 ≤ file_limit) next_root.1 (next_root.2.read.file.file.short)

    -- its version is a version
    next_below : root.body.version ≡ max_version → ⊥
    next_below top =
        let low : next_root.0.body.version ≤ last_number = next_root.2.read.body.head.1.2.2 in
        let up : next_root.0.body.version ≡ root.body.version + 1 = next_root.3.next in
        omega (arith, top, low, up)

    room : length C.trusted.roots < most_held
    room =
        let most : length S.trusted.roots ≤ most_held = sure.trusted.few_roots in
        let e : length S.trusted.roots ≡ length (C.trusted.roots ++ b ∷ more) = ap length rest in
        let sum = length-append C.trusted.roots (b ∷ more) in
        omega (arith, most, e, sum)

    -- however it is judged, it is taken
    taken : (j : Judged Trusted) → offer C.trusted RootOffer b.1 now j → AfterRoot C.trusted root next_root.0 j
    taken j h = roots_law.taken C.trusted root next_root.0 now j known (root_read own) next_root.2 next_root.3 room
        (subst (λ (x : Profile × Bytes). offer C.trusted RootOffer x.1 now j) (sym next_root.1) h)

    -- a client that took it
    record Took (D : State) : Type 0 where
      after : Trusted
      offers : offer C.trusted RootOffer b.1 now (Ok after)
      is : D ≡ with_trusted C after
      roots : after.roots ≡ C.trusted.roots ++ b ∷ []

    took_roots : (j : Judged Trusted) (T : Trusted) (new : File Root) → j ≡ Ok T → kept_root new ≡ b → AfterRoot C.trusted root new j → T.roots ≡ C.trusted.roots ++ b ∷ []
    took_roots _ T new e is (kept k) = let same = ok_is _ T e in ap (λ (U : Trusted). U.roots) (sym same) ∙ ap (λ (x : Profile × Bytes). C.trusted.roots ++ x ∷ []) is
    took_roots _ T new e is (rotated k) = let same = ok_is _ T e in ap (λ (U : Trusted). U.roots) (sym same) ∙ ap (λ (x : Profile × Bytes). C.trusted.roots ++ x ∷ []) is

    took_same : (j : Judged Trusted) (new : File Root) → j ≡ Err Same → AfterRoot C.trusted root new j → ⊥
    took_same _ new e (kept k) = cc
    took_same _ new e (rotated k) = cc

    took_denied : (j : Judged Trusted) (d : _) (new : File Root) → j ≡ Err (Denied d) → AfterRoot C.trusted root new j → ⊥
    took_denied _ d new e (kept k) = cc
    took_denied _ d new e (rotated k) = cc

    takes_next : (D : State) (r : Result Bool Fault) → Document now RootOffer b.1 C D r → IsWanting r ⊎ ((as_made r ≡ Ok tt) × Took D × ((there : Bool) → r ≡ Ok there → there ≡ true))
    takes_next D r (inl want) = inl want
    takes_next D r (inr (Ok T, h, e, right)) = inr (e.1, record { after = T; offers = h; is = e.0; roots = took_roots (Ok T) T next_root.0 refl next_root.1 (taken (Ok T) h) }, right)
    takes_next D r (inr (Err Same, h, e, right)) = absurd (took_same (Err Same) next_root.0 refl (taken (Err Same) h))
    takes_next D r (inr (Err (Denied d), h, e, right)) = absurd (took_denied (Err (Denied d)) d next_root.0 refl (taken (Err (Denied d)) h))

  -- without later roots the client has all
  same_roots : (C : State) → S.trusted.roots ≡ C.trusted.roots ++ [] → C.trusted.roots ≡ S.trusted.roots
  same_roots C e = sym (e ∙ append-nil C.trusted.roots)

  done : (C : State) → IsState C → S.trusted.roots ≡ C.trusted.roots ++ [] → Followed S C [] C
  done C valid e = record { valid = valid; after = behind.none; blobs = refl; roots = same_roots C e }

  -- and the server has no root of the next version
  last_root : (C : State) (root : File Root) → IsState C → C.trusted.root ≡ Some root → root.body.version < max_version → S.trusted.roots ≡ C.trusted.roots ++ []
      → metadata_of S.trusted (dotted (root.body.version + 1) (codes "root")) ≡ None
  last_root C root valid known below e =
      let chain : IsRootChain S.trusted.roots root = subst (λ (l : List (Profile × Bytes)). IsRootChain l root) (same_roots C e) (held_by C.trusted root valid.trusted known).chain in
      let last = trusts_one S.trusted sure.trusted (λ none. no_chain chain none) in
      let same : last.0 ≡ root = roots_law.chain S.trusted.roots last.0 root (held_by S.trusted last.0 sure.trusted last.1).chain chain in
      roots_law.newest S.trusted root sure.trusted (subst (λ (r : File Root). S.trusted.root ≡ Some r) same last.1) below

  module _ {Src : Type 0} (from : Gives Src) (Is : Src → Type 0) (honest : IsHonest from Is S now) where
    abbrev pub Roots : State → List (Profile × Bytes) → Src → State → Result (Unit {0}) Fault → Type 0
    Roots C later t D r = IsWanting r ⊎ ((r ≡ Ok tt) × Is t × Followed S C later D)

    -- a root that is asked for after the last one
    none_left : (C D : State) (root : File Root) (s t : Src) (r : Result Bool Fault) → Is s → IsState C → C.trusted.root ≡ Some root → root.body.version < max_version
        → S.trusted.roots ≡ C.trusted.roots ++ [] → Takes from now (wanted_root (root.body.version + 1)) s C t D r → (IsWanting r ⊎ ((r ≡ Ok false) × (D ≡ C))) × Is t
    none_left C D root s t r is valid known below e h =
        let a = arrives from Is S now honest (wanted_root (root.body.version + 1)) s t C D r is h in
        (no_document S now (dotted (root.body.version + 1) (codes "root")) RootOffer (last_root C root valid known below e) C D r a.0, a.1)

    -- the next root
    one_more : (C D : State) (root : File Root) (b : Profile × Bytes) (more : List (Profile × Bytes)) (s t : Src) (r : Result Bool Fault) → Is s → (valid : IsState C) → (known : C.trusted.root ≡ Some root)
        → (rest : S.trusted.roots ≡ C.trusted.roots ++ b ∷ more) → Takes from now (wanted_root (root.body.version + 1)) s C t D r
        → (IsWanting r ⊎ ((as_made r ≡ Ok tt) × Took C valid root known b more rest D × ((there : Bool) → r ≡ Ok there → there ≡ true))) × Is t × IsState D
    one_more C D root b more s t r is valid known rest h =
        let a = arrives from Is S now honest (wanted_root (root.body.version + 1)) s t C D r is h in (
          takes_next C valid root known b more rest D r
              (document_arrives S now (dotted (root.body.version + 1) (codes "root")) RootOffer b.1 (next_held C valid root known b more rest) (next_short C valid root known b more rest) C D r a.0),
          a.1,
          arrives_valid steps_law now _ _ C D r valid a.0,
        )

    not_there : (there : Bool) → ◌≡◌ {A = Result Bool Fault} (Ok true) (Ok there) → there ≡ false → ⊥
    not_there there e f = cc

    roots_again : (C D : State) (valid : IsState C) (root : File Root) (known : C.trusted.root ≡ Some root) (b : Profile × Bytes) (more : List (Profile × Bytes)) (rest : S.trusted.roots ≡ C.trusted.roots ++ b ∷ more)
        → (took : Took C valid root known b more rest D) → D.trusted.roots ≡ C.trusted.roots ++ b ∷ []
    roots_again C D valid root known b more rest took = ap (λ (X : State). X.trusted.roots) took.is ∙ took.roots

    pub roots_follow : (n : ℕ) (later : List (Profile × Bytes)) (s t : Src) (C D : State) (r : Result (Unit {0}) Fault) → Is s → IsState C → TakesRoots from now n s C t D r
        → S.trusted.roots ≡ C.trusted.roots ++ later → C.trusted.roots ≢ [] → length later ≤ n → Roots C later t D r
    roots_follow _ [] s _ C _ _ is valid session.enough rest some few = inr (refl, is, done C valid rest)
    roots_follow _ (b ∷ more) s _ C _ _ is valid session.enough rest some few = absurd (omega (arith, few))
    roots_follow _ later s _ C _ _ is valid (session.rootless e) rest some few =
        let one = trusts_one C.trusted valid.trusted some in
        let k : None ≡ Some one.0 = sym e ∙ one.1 in
        absurd cc
    roots_follow _ [] s _ C _ _ is valid (session.highest e k) rest some few = inr (refl, is, done C valid rest)
    roots_follow _ (b ∷ more) s _ C _ _ is valid (session.highest {root = root} e k) rest some few = absurd (next_below C valid root e b more rest k)
    roots_follow _ [] s t C D _ is valid (session.newest {root = root} e k h) rest some few = by (none_left C D root s t (Ok false) is valid e k rest h)
      where
        by : (IsWanting {A = Bool} (Ok false) ⊎ ((◌≡◌ {A = Result Bool Fault} (Ok false) (Ok false)) × (D ≡ C))) × Is t → Roots C [] t D (Ok tt)
        by (inl want, on) = absurd want
        by (inr (p, same), on) = inr (refl, on, subst (λ (X : State). Followed S C [] X) (sym same) (done C valid rest))
    roots_follow _ (b ∷ more) s t C D _ is valid (session.newest {root = root} e k h) rest some few = by (one_more C D root b more s t (Ok false) is valid e rest h).0
      where
        by : IsWanting {A = Bool} (Ok false) ⊎ ((as_made (Ok false) ≡ Ok tt) × Took C valid root e b more rest D × ((there : Bool) → ◌≡◌ {A = Result Bool Fault} (Ok false) (Ok there) → there ≡ true))
            → Roots C (b ∷ more) t D (Ok tt)
        by (inl want) = absurd want
        by (inr (p, took, right)) = absurd (false_true (right false refl))
    roots_follow _ [] s t C D _ is valid (session.stops {root = root} {fault = fault} e k h) rest some few = by (none_left C D root s t (Err fault) is valid e k rest h).0
      where
        by : IsWanting {A = Bool} (Err fault) ⊎ ((◌≡◌ {A = Result Bool Fault} (Err fault) (Ok false)) × (D ≡ C)) → Roots C [] t D (Err fault)
        by (inl want) = inl want
        by (inr (p, same)) = absurd cc
    roots_follow _ (b ∷ more) s t C D _ is valid (session.stops {root = root} {fault = fault} e k h) rest some few = by (one_more C D root b more s t (Err fault) is valid e rest h).0
      where
        by : IsWanting {A = Bool} (Err fault) ⊎ ((as_made (Err fault) ≡ Ok tt) × Took C valid root e b more rest D × ((there : Bool) → ◌≡◌ {A = Result Bool Fault} (Err fault) (Ok there) → there ≡ true))
            → Roots C (b ∷ more) t D (Err fault)
        by (inl want) = inl want
        by (inr (p, took, right)) = let q : ◌≡◌ {A = Result (Unit {0}) Fault} (Err fault) (Ok tt) = p in absurd cc
    roots_follow _ [] s u C E _ is valid (session.further {t = t} {D = D} {root = root} {r = r} e k h go) rest some few = by (none_left C D root s t (Ok true) is valid e k rest h).0
      where
        by : IsWanting {A = Bool} (Ok true) ⊎ ((◌≡◌ {A = Result Bool Fault} (Ok true) (Ok false)) × (D ≡ C)) → Roots C [] u E r
        by (inl want) = absurd want
        by (inr (p, same)) = absurd cc
    roots_follow _ (b ∷ more) s u C E _ is valid (session.further {n = n} {t = t} {D = D} {root = root} {r = r} e k h go) rest some few =
        let a = one_more C D root b more s t (Ok true) is valid e rest h in
        goes_on C D E valid root e b more rest u r a.0
        (λ took. let again = roots_again C D valid root e b more rest took in
        roots_follow n more t u D E r a.1 a.2 go
        (rest ∙ (sym (append_snoc C.trusted.roots b more) ∙ ap (λ (l : List (Profile × Bytes)). l ++ more) (sym again)))
        (not_empty D.trusted.roots C.trusted.roots (b ∷ []) again some) (omega (arith, few)))
      where
        goes_on : (C D E : State) (valid : IsState C) (root : File Root) (known : C.trusted.root ≡ Some root) (b : Profile × Bytes) (more : List (Profile × Bytes)) (rest : S.trusted.roots ≡ C.trusted.roots ++ b ∷ more)
            (u : Src) (r : Result (Unit {0}) Fault)
            → IsWanting {A = Bool} (Ok true) ⊎ ((as_made (Ok true) ≡ Ok tt) × Took C valid root known b more rest D × ((there : Bool) → ◌≡◌ {A = Result Bool Fault} (Ok true) (Ok there) → there ≡ true))
            → (Took C valid root known b more rest D → Roots D more u E r) → Roots C (b ∷ more) u E r
        goes_on C D E valid root known b more rest u r (inl want) go = absurd want
        goes_on C D E valid root known b more rest u r (inr (p, took, right)) go = behind_it (go took)
          where
            behind_it : Roots D more u E r → Roots C (b ∷ more) u E r
            behind_it (inl want) = inl want
            behind_it (inr (q, on, f)) = inr (
              q,
              on,
              record {
                valid = f.valid;
                after = behind.one took.offers (subst (λ (T : Trusted). AfterRoots T more E.trusted) (ap (λ (X : State). X.trusted) took.is) f.after);
                blobs = f.blobs ∙ ap (λ (X : State). X.blobs) took.is;
                roots = f.roots;
              },
            )

  -- with the same roots, the same root
  pub same_root : (D : State) → IsState D → S.trusted.roots ≢ [] → D.trusted.roots ≡ S.trusted.roots → D.trusted.root ≡ S.trusted.root
  same_root D valid some e =
      let mine = trusts_one D.trusted valid.trusted (λ none. some (sym e ∙ none)) in
      let its = trusts_one S.trusted sure.trusted some in
      let same : mine.0 ≡ its.0 = roots_law.chain S.trusted.roots mine.0 its.0
      (subst (λ (l : List (Profile × Bytes)). IsRootChain l mine.0) e (held_by D.trusted mine.0 valid.trusted mine.1).chain) (held_by S.trusted its.0 sure.trusted its.1).chain in
      mine.1 ∙ (ap (λ (r : File Root). Some r) same ∙ sym its.1)
