-- Listings that are taken away and added one after the other.
use Rattle.std.proofs.Common.{◌≡◌, ◌≢◌, inl, inr, ℕ, suc, pos, Bool, true, false, List, [], ◌∷◌, ◌++◌, codes, map, bytes_eq, get_or, refl, sym, ap, ◌∙◌, subst, arith}
use Rattle.std.specs.List.{AllByRecursion}
use Rattle.std.proofs.lemmas.Slice.Eq.{bytes_eq-Decides}
use Rattle.canonical_json.specs.Json.{Json, integer, object, Members, HasMember}
use Rattle.drafting.specs.Members.{IsNoneOf, AlikeBut, Drops, HasNone, IsObjectAt, Puts}
use Rattle.drafting.specs.Targets.{Said, IsListing, Adds, AddsAll, IsThere, RemovesAll, IsUnlisted, hashes}
use Rattle.drafting.specs.steps.Rows.{PutsListing}
use Rattle.drafting.proofs.Alike.{alike_self}

pub alike_twice : (names : List (List ℕ)) (a b c : Json) → AlikeBut names a b → AlikeBut names b c → AlikeBut names a c
alike_twice names a b c p q = record {
  kept = λ name x other h. q.kept name x other (p.kept name x other h);
  no_more = λ name x other h. p.no_more name x other (q.no_more name x other h);
}

pub put_over : (name : List ℕ) (x a b c : Json) → AlikeBut (name ∷ []) a b → Puts name x b c → Puts name x a c
put_over name x a b c p q = record { has = q.has; only = q.only; others = alike_twice (name ∷ []) a b c p q.others }

-- ---- a listing

length_hashes : codes "length" ≢ codes "hashes"
length_hashes same = let h : 108 ≡ 104 = ap (λ (l : List ℕ). get_or l 0 0) same in omega (arith, h)

pub listed : (said : Said) (a b : Json) (ms : Members) → Puts (codes "hashes") (hashes said.digest) a b → Puts (codes "length") (integer (pos said.len)) b (object ms)
    → IsListing said a (object ms)
listed said a b ms p q = record {
  members = ms;
  is = refl;
  len = q.has;
  digest = q.others.kept (codes "hashes") (hashes said.digest) (length_hashes, tt) p.has;
  others = record {
    kept = λ name x other h. q.others.kept name x (other.0, tt) (p.others.kept name x (other.1.0, tt) h);
    no_more = λ name x other h. p.others.no_more name x (other.1.0, tt) (q.others.no_more name x (other.0, tt) h);
  };
}

-- ---- listings that are added

others_named : (rows : List (List ℕ × Said)) (path : List ℕ) → AllByRecursion (λ r. r.0 ≢ path) rows → IsNoneOf (map (λ r. r.0) rows) path
others_named [] path other = tt
others_named (r ∷ rows) path other = (other.0, others_named rows path other.1)

object_back : (p path : List ℕ) (x m a old : Json) → p ≢ path → Puts p x m a → IsObjectAt a path old → IsObjectAt m path old
object_back p path x m a old other put (inl h) = inl (put.others.no_more path old (other, tt) h)
object_back p path x m a old other put (inr (e, inl none)) = inr (e, inl (λ y h. none y (put.others.kept path y (other, tt) h)))
object_back p path x m a old other put (inr (e, inr (y, h, apart))) = inr (e, inr (y, put.others.no_more path y (other, tt) h, apart))

object_is : (p : List ℕ) (x m a old : Json) (ms : Members) → x ≡ object ms → Puts p x m a → IsObjectAt a p old → old ≡ x
object_is p x m a old ms is put (inl h) = put.only old h
object_is p x m a old ms is put (inr (e, inl none)) = absurd (none x put.has)
object_is p x m a old ms is put (inr (e, inr (y, h, apart))) = absurd (apart ms (put.only y h ∙ is))

listing_twice : (first second : Said) (a b c : Json) → IsListing first a b → IsListing second b c → IsListing second a c
listing_twice first second a b c p q = record {
  members = q.members;
  is = q.is;
  len = q.len;
  digest = q.digest;
  others = alike_twice (codes "length" ∷ codes "hashes" ∷ []) a b c p.others q.others;
}

adds_same : (p : List ℕ) (first second : Said) (m a c : Json) → PutsListing p first m a → Adds a c p second → Adds m c p second
adds_same p first second m a c put more =
    let same = object_is p put.new m a more.old put.listing.members put.listing.is put.puts more.was in
    record {
      old = put.old;
      new = more.new;
      was = put.was;
      has = more.has;
      listing = listing_twice first second put.old put.new more.new put.listing (subst (λ (z : Json). IsListing second z more.new) same more.listing);
    }

adds_other : (p path : List ℕ) (first second : Said) (m a c : Json) → p ≢ path → PutsListing p first m a → Adds a c path second → Adds m c path second
adds_other p path first second m a c other put more = record {
  old = more.old;
  new = more.new;
  was = object_back p path put.new m a more.old other put.puts more.was;
  has = more.has;
  listing = more.listing;
}

adds_by : (p path : List ℕ) (first second : Said) (m a c : Json) (b : Bool) → bytes_eq p path ≡ b → PutsListing p first m a → Adds a c path second → Adds m c path second
adds_by p path first second m a c true same put more =
    let is : p ≡ path = (bytes_eq-Decides p path).0 same in
    subst (λ (n : List ℕ). Adds m c n second) is (adds_same p first second m a c put (subst (λ (n : List ℕ). Adds a c n second) (sym is) more))
adds_by p path first second m a c false apart put more =
    adds_other p path first second m a c (λ e. let t : bytes_eq p path ≡ true = (bytes_eq-Decides p path).1 e in absurd (cc)) put more

last_added : (r : List ℕ × Said) (rows : List (List ℕ × Said)) (m a c : Json) → PutsListing r.0 r.1 m a → AddsAll rows a c
    → (path : List ℕ) (said : Said) (front back : List (List ℕ × Said)) → r ∷ rows ≡ front ++ (path, said) ∷ back → AllByRecursion (λ e. e.0 ≢ path) back
    → Adds m c path said
last_added r rows m a c put rest path said [] back is last =
    let first : r ≡ (path, said) = cc in
    let later : rows ≡ back = cc in
    let named : r.0 ≡ path = ap (λ (e : List ℕ × Said). e.0) first in
    let none = subst (λ (es : List (List ℕ × Said)). AllByRecursion (λ e. e.0 ≢ path) es) (sym later) last in
    let apart = subst (λ (n : List ℕ). IsNoneOf (map (λ e. e.0) rows) n) (sym named) (others_named rows path none) in
    subst (λ (e : List ℕ × Said). Adds m c e.0 e.1) first (record {
      old = put.old;
      new = put.new;
      was = put.was;
      has = rest.others.kept r.0 put.new apart put.puts.has;
      listing = put.listing;
    })
last_added r rows m a c put rest path said (f ∷ front) back is last =
    let later : rows ≡ front ++ (path, said) ∷ back = cc in
    adds_by r.0 path r.1 said m a c (bytes_eq r.0 path) refl put (rest.named path said (record { front = front; back = back; is = later; last = last }))

pub adds_more : (r : List ℕ × Said) (rows : List (List ℕ × Said)) (m a c : Json) → PutsListing r.0 r.1 m a → AddsAll rows a c → AddsAll (r ∷ rows) m c
adds_more r rows m a c put rest = record {
  named = λ path said l. last_added r rows m a c put rest path said l.front l.back l.is l.last;
  others = record {
    kept = λ name x other h. rest.others.kept name x other.1 (put.puts.others.kept name x (other.0, tt) h);
    no_more = λ name x other h. put.puts.others.no_more name x (other.0, tt) (rest.others.no_more name x other.1 h);
  };
}

no_last : (path : List ℕ) (said : Said) (front back : List (List ℕ × Said)) → [] ≡ front ++ (path, said) ∷ back → ⊥
no_last path said [] back is = cc
no_last path said (f ∷ front) back is = cc

pub adds_none : (m : Json) → AddsAll [] m m
adds_none m = record {
  named = λ path said l. absurd (no_last path said l.front l.back l.is);
  others = alike_self [] m;
}

-- ---- listings that are taken away

listed_back : (p : List ℕ) (m a : Json) → Drops p m a → (paths : List (List ℕ)) → AllByRecursion (IsThere a) paths → AllByRecursion (IsThere m) paths
listed_back p m a drop [] all = tt
listed_back p m a drop (q ∷ paths) all =
    ((all.0.0, drop.others.no_more q all.0.0 ((λ same. drop.none all.0.0 (subst (λ (n : List ℕ). HasMember a n all.0.0) (sym same) all.0.1)), tt) all.0.1), listed_back p m a drop paths all.1)

apart_from : (p : List ℕ) (m a : Json) → Drops p m a → (paths : List (List ℕ)) → AllByRecursion (IsThere a) paths → IsNoneOf paths p
apart_from p m a drop [] all = tt
apart_from p m a drop (q ∷ paths) all =
    ((λ same. drop.none all.0.0 (subst (λ (n : List ℕ). HasMember a n all.0.0) same all.0.1)), apart_from p m a drop paths all.1)

distinct_from : (p : List ℕ) (m a : Json) → Drops p m a → (paths : List (List ℕ)) → AllByRecursion (IsThere a) paths → AllByRecursion (λ q. p ≢ q) paths
distinct_from p m a drop [] all = tt
distinct_from p m a drop (q ∷ paths) all =
    ((λ same. drop.none all.0.0 (subst (λ (n : List ℕ). HasMember a n all.0.0) (sym same) all.0.1)), distinct_from p m a drop paths all.1)

pub removes_more : (p : List ℕ) (paths : List (List ℕ)) (m a c : Json) → IsThere m p → Drops p m a → RemovesAll paths a c → RemovesAll (p ∷ paths) m c
removes_more p paths m a c there drop rest = record {
  listed = (there, listed_back p m a drop paths rest.listed);
  distinct = (distinct_from p m a drop paths rest.listed, rest.distinct);
  gone = ((λ x h. drop.none x (rest.others.no_more p x (apart_from p m a drop paths rest.listed) h)), rest.gone);
  others = record {
    kept = λ name x other h. rest.others.kept name x other.1 (drop.others.kept name x (other.0, tt) h);
    no_more = λ name x other h. drop.others.no_more name x (other.0, tt) (rest.others.no_more name x other.1 h);
  };
}

pub removes_none : (m : Json) → RemovesAll [] m m
removes_none m = record { listed = tt; distinct = tt; gone = tt; others = alike_self [] m }

pub unlisted_here : (p : List ℕ) (paths : List (List ℕ)) (m : Json) → HasNone m p → IsUnlisted (p ∷ paths) m 0
unlisted_here p paths m none = record { front = []; path = p; back = paths; is = refl; at = refl; listed = tt; distinct = tt; unlisted = λ x h other. none x h }

pub unlisted_more : (p : List ℕ) (paths : List (List ℕ)) (m a : Json) (i : ℕ) → IsThere m p → Drops p m a → IsUnlisted paths a i → IsUnlisted (p ∷ paths) m (suc i)
unlisted_more p paths m a i there drop u = record {
  front = p ∷ u.front;
  path = u.path;
  back = u.back;
  is = ap (λ (ps : List (List ℕ)). p ∷ ps) u.is;
  at = ap (λ (n : ℕ). suc n) u.at;
  listed = (there, listed_back p m a drop u.front u.listed);
  distinct = (distinct_from p m a drop u.front u.listed, u.distinct);
  unlisted = λ x h other. u.unlisted x (drop.others.kept u.path x (other.0, tt) h) other.1;
}
