-- Values with the same members but for some names.
use Rattle.std.proofs.Common.{◌≡◌, ◌≢◌, ℕ, List, [], ◌∷◌, ◌++◌, codes, get_or, refl, ap, arith, pos}
use Rattle.canonical_json.specs.Json.{Json, integer, text}
use Rattle.drafting.specs.Members.{IsLast, IsNoneOf, AlikeBut, Puts}
use Rattle.drafting.specs.Drafts.{Follows}
use Rattle.drafting.specs.declared.terms.Terms.{Terms}
use Rattle.drafting.specs.steps.Rows.{PutsTerms}

pub alike_self : (names : List (List ℕ)) (a : Json) → AlikeBut names a a
alike_self names a = record { kept = λ name x other h. h; no_more = λ name x other h. h }

pub none_left : (ns ms : List (List ℕ)) (name : List ℕ) → IsNoneOf (ns ++ ms) name → IsNoneOf ns name
none_left [] ms name h = tt
none_left (n ∷ ns) ms name h = (h.0, none_left ns ms name h.1)

pub none_right : (ns ms : List (List ℕ)) (name : List ℕ) → IsNoneOf (ns ++ ms) name → IsNoneOf ms name
none_right [] ms name h = h
none_right (n ∷ ns) ms name h = none_right ns ms name h.1

pub alike_then : (ns ms : List (List ℕ)) (a b c : Json) → AlikeBut ns a b → AlikeBut ms b c → AlikeBut (ns ++ ms) a c
alike_then ns ms a b c p q = record {
  kept = λ name x other h. q.kept name x (none_right ns ms name other) (p.kept name x (none_left ns ms name other) h);
  no_more = λ name x other h. p.no_more name x (none_left ns ms name other) (q.no_more name x (none_right ns ms name other) h);
}

-- ---- names that differ

differ : (a b : List ℕ) → (get_or a 0 0 ≡ get_or b 0 0 → ⊥) → a ≢ b
differ a b apart same = apart (ap (λ (l : List ℕ). get_or l 0 0) same)

pub version_expires : codes "version" ≢ codes "expires"
version_expires = differ (codes "version") (codes "expires") (λ (h : 118 ≡ 101). omega (arith, h))

pub version_term : codes "version" ≢ codes "term"
version_term = differ (codes "version") (codes "term") (λ (h : 118 ≡ 116). omega (arith, h))

pub term_expires : codes "term" ≢ codes "expires"
term_expires = differ (codes "term") (codes "expires") (λ (h : 116 ≡ 101). omega (arith, h))

-- the name is none of the three that each draft changes
pub other_head : (name : List ℕ) → (118 ≡ get_or name 0 0 → ⊥) → (101 ≡ get_or name 0 0 → ⊥) → (116 ≡ get_or name 0 0 → ⊥)
    → IsNoneOf (codes "version" ∷ codes "expires" ∷ codes "term" ∷ []) name
other_head name v e t =
    (differ (codes "version") name v, (differ (codes "expires") name e, (differ (codes "term") name t, tt)))

-- ---- the head

pub headed : (a b c : Json) (version : ℕ) (terms : Terms) → PutsTerms terms a b → Puts (codes "version") (integer (pos version)) b c → Follows version terms [] a c
headed a b c version terms p r =
    let expires = text p.0 in
    let term = integer (pos terms.seconds) in
    let last_expires : IsLast ((codes "expires", expires) ∷ (codes "term", term) ∷ []) (codes "expires") expires =
    record { front = []; back = (codes "term", term) ∷ []; is = refl; last = (term_expires, tt) } in
    let last_term : IsLast ((codes "expires", expires) ∷ (codes "term", term) ∷ []) (codes "term") term =
    record { front = (codes "expires", expires) ∷ []; back = []; is = refl; last = tt } in
    record {
      version = r.has;
      expires = (expires, r.others.kept (codes "expires") expires (version_expires, tt) (p.2.named (codes "expires") expires last_expires), (p.0, refl, p.1));
      term = r.others.kept (codes "term") term (version_term, tt) (p.2.named (codes "term") term last_term);
      others = record {
        kept = λ name x other h. r.others.kept name x (other.0, tt) (p.2.others.kept name x (other.1.0, (other.1.1.0, tt)) h);
        no_more = λ name x other h. p.2.others.no_more name x (other.1.0, (other.1.1.0, tt)) (r.others.no_more name x (other.0, tt) h);
      };
    }

pub follows_on : (version : ℕ) (terms : Terms) (names : List (List ℕ)) (a b c : Json) → AlikeBut names a b → Follows version terms [] b c → Follows version terms names a c
follows_on version terms names a b c p f = record {
  version = f.version;
  expires = f.expires;
  term = f.term;
  others = record {
    kept = λ name x other h. f.others.kept name x (other.0, (other.1.0, (other.1.1.0, tt))) (p.kept name x other.1.1.1 h);
    no_more = λ name x other h. p.no_more name x other.1.1.1 (f.others.no_more name x (other.0, (other.1.0, (other.1.1.0, tt))) h);
  };
}
