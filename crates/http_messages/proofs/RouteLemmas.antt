-- A router that holds the routes answers what the plain reading does.
use Rattle.std.proofs.Common.{◌≡◌, ℕ, suc, ◌-◌, ◌<◌, ◌≤◌, List, [], ◌∷◌, ◌++◌, length, Option, Some, None, Bool, true, false, cond, refl, sym, ap, ◌∙◌, arith, ltb, ◌==◌, ◌&&◌, codes, subst}
use Rattle.std.specs.Prelude.{option_and_then}
use Rattle.std.proofs.lemmas.Bool.Decides.{nat_tests}
use Rattle.matchit.specs.Rows.{Rows, param_token, catch_all_token}
use Rattle.matchit.specs.Seek.{own, step, or_else as either, seek, first, param_step, has_slash as slashed}
use Rattle.matchit.specs.Router.{rename, map_key}
use Rattle.matchit.specs.Level.{IsText}
use Rattle.matchit.proofs.SeekLemmas.{seek-empty, param_step-empty, or_else-none}
use Rattle.matchit.proofs.RenameLemmas.{seek-rename}
use Rattle.matchit.specs.Router.{RouteOf}
use Rattle.std.proofs.Common.{get_or, map}
use Rattle.http_messages.specs.RouteOf.{after, route_of, or_else, Routed}
use Rattle.http_messages.specs.steps.Prefixes.{prefix_of, with_rest}
use Rattle.http_messages.specs.RouteOf as plain
use Rattle.std.specs.Prelude.{option_map}
use borrow.Author.Tests.{ltb-true}
use Rattle.http_messages.specs.steps.Known.{all_routes, row}
use Rattle.http_messages.specs.declared.routes.Route.{Route}
use Rattle.http_messages.specs.declared.routes.Route.TheVariants.{Batch, Blob, Metadata, Prune, Target}

-- ---- rows that all begin with bytes

-- every row begins with a byte
abbrev pub AllBytes : Rows → Type 0
AllBytes [] = Unit {0}
AllBytes (([], k) ∷ rs) = ⊥
AllBytes ((x ∷ t, k) ∷ rs) = (x < 256) × AllBytes rs

own-bytes : (rs : Rows) → AllBytes rs → own rs ≡ None
own-bytes [] h = refl
own-bytes (([], k) ∷ rs) h = absurd h
own-bytes ((x ∷ t, k) ∷ rs) h = own-bytes rs h.1

step-bytes : (y : ℕ) (rs : Rows) → 256 ≤ y → AllBytes rs → step y rs ≡ []
step-bytes y [] le h = refl
step-bytes y (([], k) ∷ rs) le h = absurd h
step-bytes y ((x ∷ t, k) ∷ rs) le h =
    let e : (x == y) ≡ false = grind (arith, nat_tests, h.0) in
    rw e (step-bytes y rs le h.1)

seek-bytes : (rs : Rows) (y : ℕ) (p : List ℕ) → AllBytes rs → seek 0 rs (y ∷ p) ≡ seek 0 (step y rs) p
unfolding seek
seek-bytes rs y p h =
    simp (step-bytes param_token rs (omega arith) h, step-bytes catch_all_token rs (omega arith) h, param_step-empty (y ∷ p), seek-empty ((param_step {K = ℕ} [] (y ∷ p)).0 - 1) p, or_else-none)

-- ---- rows that part at a byte

-- the two patterns go the same way over bytes, and then each has another byte
abbrev pub Apart : List ℕ → List ℕ → Type 0
Apart [] q = ⊥
Apart (x ∷ p) [] = ⊥
Apart (x ∷ p) (y ∷ q) = (x < 256) × (y < 256) × ((x == y) ≡ true → Apart p q)

abbrev pub ApartAll : List ℕ → Rows → Type 0
ApartAll p [] = Unit {0}
ApartAll p ((q, k) ∷ rs) = Apart p q × ApartAll p rs

apart-bytes : (p : List ℕ) (rs : Rows) → ApartAll p rs → AllBytes rs
apart-bytes p [] h = tt
apart-bytes [] ((q, k) ∷ rs) h = absurd h.0
apart-bytes (x ∷ p) (([], k) ∷ rs) h = absurd h.0
apart-bytes (x ∷ p) ((y ∷ q, k) ∷ rs) h = (h.0.1, apart-bytes (x ∷ p) rs h.1)

apart-step : (x : ℕ) (p : List ℕ) (rs : Rows) → ApartAll (x ∷ p) rs → ApartAll p (step x rs)
apart-step x p [] h = tt
apart-step x p (([], k) ∷ rs) h = absurd h.0
apart-step x p ((y ∷ q, k) ∷ rs) h = by (y == x) refl (apart-step x p rs h.1)
  where
    by : (v : Bool) → (y == x) ≡ v → ApartAll p (step x rs) → ApartAll p (cond v ((q, k) ∷ step x rs) (step x rs))
    by true e ih = let same : (x == y) ≡ true = grind (arith, nat_tests) in (h.0.2 same, ih)
    by false e ih = ih

-- the same as a test
abbrev apart : List ℕ → List ℕ → Bool
apart [] q = false
apart (x ∷ p) [] = false
apart (x ∷ p) (y ∷ q) = ltb x 256 && (ltb y 256 && cond (x == y) (apart p q) true)

abbrev apart_all : List ℕ → Rows → Bool
apart_all p [] = true
apart_all p ((q, k) ∷ rs) = apart p q && apart_all p rs

apart-true : (p q : List ℕ) → apart p q ≡ true → Apart p q
apart-true [] q e = let no : ⊥ = cc in absurd no
apart-true (x ∷ p) [] e = let no : ⊥ = cc in absurd no
apart-true (x ∷ p) (y ∷ q) e = by (ltb x 256) refl (ltb y 256) refl (x == y) refl e (λ d. apart-true p q d)
  where
    by : (a : Bool) → ltb x 256 ≡ a → (b : Bool) → ltb y 256 ≡ b → (v : Bool) → (x == y) ≡ v
        → (a && (b && cond v (apart p q) true)) ≡ true → (apart p q ≡ true → Apart p q) → Apart (x ∷ p) (y ∷ q)
    by true l true m true n d ih = (ltb-true x 256 l, ltb-true y 256 m, λ _. ih d)
    by true l true m false n d ih = (ltb-true x 256 l, ltb-true y 256 m, λ yes. let no : ⊥ = cc in absurd no)
    by true l false m v n d ih = let no : ⊥ = cc in absurd no
    by false l b m v n d ih = let no : ⊥ = cc in absurd no

apart_all-true : (p : List ℕ) (rs : Rows) → apart_all p rs ≡ true → ApartAll p rs
apart_all-true p [] e = tt
apart_all-true p ((q, k) ∷ rs) e = by (apart p q) refl e (λ d. apart_all-true p rs d)
  where
    by : (a : Bool) → apart p q ≡ a → (a && apart_all p rs) ≡ true → (apart_all p rs ≡ true → ApartAll p rs) → ApartAll p ((q, k) ∷ rs)
    by true l d ih = (apart-true p q l, ih d)
    by false l d ih = let no : ⊥ = cc in absurd no

-- a text as a test
abbrev is_text : List ℕ → Bool
is_text [] = true
is_text (b ∷ rest) = ltb b 256 && is_text rest

text-true : (t : List ℕ) → is_text t ≡ true → IsText t
text-true [] e = tt
text-true (b ∷ rest) e = by (ltb b 256) refl e (λ d. text-true rest d)
  where
    by : (a : Bool) → ltb b 256 ≡ a → (a && is_text rest) ≡ true → (is_text rest ≡ true → IsText rest) → IsText (b ∷ rest)
    by true l d ih = (ltb-true b 256 l, ih d)
    by false l d ih = let no : ⊥ = cc in absurd no

pub seek-apart : (path p : List ℕ) (k : ℕ) (rs : Rows) → ApartAll p rs
    → seek 0 ((p, k) ∷ rs) path ≡ either (seek 0 ((p, k) ∷ []) path) (seek 0 rs path)
unfolding seek
seek-apart path p k [] h = sym (or_else-none _) ∙ ap (either (seek 0 ((p, k) ∷ []) path)) (sym (seek-empty 0 path))
seek-apart path [] k ((q, j) ∷ rs) h = absurd h.0
seek-apart path (x ∷ p) k (([], j) ∷ rs) h = absurd h.0
seek-apart [] (x ∷ p) k ((z ∷ q, j) ∷ rs) h = refl
seek-apart (y ∷ path) (x ∷ p) k ((z ∷ q, j) ∷ rs) h =
    seek-bytes ((x ∷ p, k) ∷ (z ∷ q, j) ∷ rs) y path (h.0.0, apart-bytes (x ∷ p) ((z ∷ q, j) ∷ rs) h)
    ∙ by (x == y) refl (λ more. seek-apart path p k (step y ((z ∷ q, j) ∷ rs)) more)
    ∙ sym (ap (λ s. either s (seek 0 ((z ∷ q, j) ∷ rs) (y ∷ path))) (seek-bytes ((x ∷ p, k) ∷ []) y path (h.0.0, tt)) ∙ ap (either (seek 0 (step y ((x ∷ p, k) ∷ [])) path)) (seek-bytes ((z ∷ q, j) ∷ rs) y path (apart-bytes (x ∷ p) ((z ∷ q, j) ∷ rs) h)))
  where
    by : (v : Bool) → (x == y) ≡ v
        → (ApartAll p (step y ((z ∷ q, j) ∷ rs)) → seek 0 ((p, k) ∷ step y ((z ∷ q, j) ∷ rs)) path ≡ either (seek 0 ((p, k) ∷ []) path) (seek 0 (step y ((z ∷ q, j) ∷ rs)) path))
        → seek 0 (cond v ((p, k) ∷ step y ((z ∷ q, j) ∷ rs)) (step y ((z ∷ q, j) ∷ rs))) path ≡ either (seek 0 (cond v ((p, k) ∷ []) []) path) (seek 0 (step y ((z ∷ q, j) ∷ rs)) path)
    by true e ih =
        let same : x ≡ y = grind (arith, nat_tests) in
        ih (subst (λ n. ApartAll p (step n ((z ∷ q, j) ∷ rs))) same (apart-step x p ((z ∷ q, j) ∷ rs) h))
    by false e ih = sym (ap (λ s. either s (seek 0 (step y ((z ∷ q, j) ∷ rs)) path)) (seek-empty 0 path))

seek-parts : (path p : List ℕ) (k : ℕ) (rs : Rows) → apart_all p rs ≡ true
    → seek 0 ((p, k) ∷ rs) path ≡ either (seek 0 ((p, k) ∷ []) path) (seek 0 rs path)
seek-parts path p k rs e = seek-apart path p k rs (apart_all-true p rs e)

-- ---- one row

-- bytes at the front of the only row
pub lone-prefix : (w t : List ℕ) (k : ℕ) (path : List ℕ) → IsText w
    → seek 0 ((w ++ t, k) ∷ []) path ≡ option_and_then (seek 0 ((t, k) ∷ [])) (after w path)
unfolding seek
lone-prefix [] t k path h = refl
lone-prefix (x ∷ w) t k [] h = refl
lone-prefix (x ∷ w) t k (y ∷ path) h = seek-bytes ((x ∷ (w ++ t), k) ∷ []) y path (h.0, tt) ∙ by (x == y) (lone-prefix w t k path h.1)
  where
    by : (v : Bool) → seek 0 ((w ++ t, k) ∷ []) path ≡ option_and_then (seek 0 ((t, k) ∷ [])) (after w path)
        → seek 0 (cond v ((w ++ t, k) ∷ []) []) path ≡ option_and_then (seek 0 ((t, k) ∷ [])) (cond v (after w path) None)
    by true ih = ih
    by false ih = seek-empty 0 path

abbrev pub at_end : ℕ → List ℕ → Option ℕ
at_end k [] = Some k
at_end k (b ∷ rest) = None

abbrev pub with_name : ℕ → List ℕ → Option ℕ
with_name k [] = None
with_name k (b ∷ rest) = cond (slashed (b ∷ rest)) None (Some k)

abbrev pub with_path : ℕ → List ℕ → Option ℕ
with_path k [] = None
with_path k (b ∷ rest) = Some k

pub lone-end : (k : ℕ) (rest : List ℕ) → seek 0 (([], k) ∷ []) rest ≡ at_end k rest
unfolding seek
lone-end k [] = refl
lone-end k (b ∷ rest) = simp (seek-empty 0 rest, param_step-empty (b ∷ rest), seek-empty ((param_step {K = ℕ} [] (b ∷ rest)).0 - 1) rest)

skip-all : (k : ℕ) (path : List ℕ) → seek (length path) (([], k) ∷ []) path ≡ Some k
unfolding seek
skip-all k [] = refl
skip-all k (b ∷ path) = skip-all k path

pub lone-name : (k : ℕ) (rest : List ℕ) → IsText rest → seek 0 ((256 ∷ [], k) ∷ []) rest ≡ with_name k rest
unfolding seek param_step
lone-name k [] h = refl
lone-name k (b ∷ rest) h = rw (e, seek-empty 0 rest) (by (slashed (b ∷ rest)))
  where
    e : (256 == b) ≡ false
    e = grind (arith, nat_tests, h.0)

    by : (v : Bool)
        → either (seek ((cond {A = ℕ × Rows} v (0, []) (suc (length rest), ([], k) ∷ [])).0 - 1) (cond {A = ℕ × Rows} v (0, []) (suc (length rest), ([], k) ∷ [])).1 rest) None
        ≡ cond v None (Some k)
    by true = rw (seek-empty 0 rest) refl
    by false = let less : suc (length rest) - 1 ≡ length rest = omega arith in rw (less, skip-all k rest) refl

pub lone-path : (k : ℕ) (rest : List ℕ) → IsText rest → seek 0 ((257 ∷ [], k) ∷ []) rest ≡ with_path k rest
unfolding seek param_step
lone-path k [] h = refl
lone-path k (b ∷ rest) h = rw (e, seek-empty 0 rest) (by (slashed (b ∷ rest)))
  where
    e : (257 == b) ≡ false
    e = grind (arith, nat_tests, h.0)

    by : (v : Bool)
        → either (seek ((cond {A = ℕ × Rows} v (0, []) (suc (length rest), [])).0 - 1) (cond {A = ℕ × Rows} v (0, []) (suc (length rest), [])).1 rest) (Some k)
        ≡ Some k
    by true = rw (seek-empty 0 rest) refl
    by false = let less : suc (length rest) - 1 ≡ length rest = omega arith in rw (less, seek-empty (length rest) rest) refl

-- ---- the routes

-- the rows, each with its number
abbrev numbered : Rows
numbered =
    (codes "/batch", 0)
    ∷ (codes "/blobs/" ++ 256 ∷ [], 1)
    ∷ (codes "/metadata/" ++ 256 ∷ [], 2)
    ∷ (codes "/prune", 3)
    ∷ (codes "/targets/" ++ 257 ∷ [], 4)
    ∷ []

-- what is kept at each number
kept : ℕ → RouteOf Route
kept n = get_or (map (λ r. r.1) all_routes) n (row [] [] [] Batch).1

routes_are : all_routes ≡ rename kept numbered
unfolding all_routes kept
routes_are = refl

rest-text : (w target rest : List ℕ) → IsText target → after w target ≡ Some rest → IsText rest
rest-text [] target rest h e = let same : target ≡ rest = cc in subst IsText same h
rest-text (x ∷ w) [] rest h e = let no : ⊥ = cc in absurd no
rest-text (x ∷ w) (y ∷ target) rest h e = by (x == y) e (λ q. rest-text w target rest h.1 q)
  where
    by : (v : Bool) → cond v (after w target) None ≡ Some rest → (after w target ≡ Some rest → IsText rest) → IsText rest
    by true q ih = ih q
    by false q ih = let no : ⊥ = cc in absurd no

-- one row, over the whole target
one-end : (w : List ℕ) (k : ℕ) (target : List ℕ) → is_text w ≡ true → seek 0 ((w ++ [], k) ∷ []) target ≡ option_and_then (at_end k) (after w target)
one-end w k target h = lone-prefix w [] k target (text-true w h) ∙ by (after w target)
  where
    by : (o : Option (List ℕ)) → option_and_then (seek 0 (([], k) ∷ [])) o ≡ option_and_then (at_end k) o
    by None = refl
    by (Some rest) = lone-end k rest

one-name : (w : List ℕ) (k : ℕ) (target : List ℕ) → is_text w ≡ true → IsText target → seek 0 ((w ++ 256 ∷ [], k) ∷ []) target ≡ option_and_then (with_name k) (after w target)
one-name w k target h t = lone-prefix w (256 ∷ []) k target (text-true w h) ∙ by (after w target) refl
  where
    by : (o : Option (List ℕ)) → after w target ≡ o → option_and_then (seek 0 ((256 ∷ [], k) ∷ [])) o ≡ option_and_then (with_name k) o
    by None e = refl
    by (Some rest) e = lone-name k rest (rest-text w target rest t e)

one-path : (w : List ℕ) (k : ℕ) (target : List ℕ) → is_text w ≡ true → IsText target → seek 0 ((w ++ 257 ∷ [], k) ∷ []) target ≡ option_and_then (with_path k) (after w target)
one-path w k target h t = lone-prefix w (257 ∷ []) k target (text-true w h) ∙ by (after w target) refl
  where
    by : (o : Option (List ℕ)) → after w target ≡ o → option_and_then (seek 0 ((257 ∷ [], k) ∷ [])) o ≡ option_and_then (with_path k) o
    by None e = refl
    by (Some rest) e = lone-path k rest (rest-text w target rest t e)

-- the route of an answer
value_of : Option ℕ → Option Route
value_of None = None
value_of (Some k) = Some (kept k).value

value-either : (a b : Option ℕ) → value_of (either a b) ≡ or_else (value_of a) (value_of b)
unfolding value_of
value-either None b = refl
value-either (Some k) b = refl

-- the route alone
route_only : Option Routed → Option Route
route_only o = option_map (λ r. r.0) o

only-either : (a b : Option Routed) → or_else (route_only a) (route_only b) ≡ route_only (or_else a b)
unfolding route_only
only-either None b = refl
only-either (Some r) b = refl

value-end : (k : ℕ) (o : Option (List ℕ)) → value_of (option_and_then (at_end k) o) ≡ route_only (option_and_then (plain.at_end (kept k).value) o)
unfolding value_of route_only
value-end k None = refl
value-end k (Some []) = refl
value-end k (Some (b ∷ rest)) = refl

slashed-same : (rest : List ℕ) → slashed rest ≡ plain.has_slash rest
slashed-same [] = refl
slashed-same (b ∷ rest) = ap (cond (b == 47) true) (slashed-same rest)

value-name : (k : ℕ) (o : Option (List ℕ)) → value_of (option_and_then (with_name k) o) ≡ route_only (option_and_then (plain.with_name (kept k).value) o)
unfolding value_of route_only
value-name k None = refl
value-name k (Some []) = refl
value-name k (Some (b ∷ rest)) = by (slashed (b ∷ rest)) (plain.has_slash (b ∷ rest)) (slashed-same (b ∷ rest))
  where
    by : (u v : Bool) → u ≡ v → value_of (cond u None (Some k)) ≡ route_only (cond v None (Some ((kept k).value, b ∷ rest)))
    by true true e = refl
    by false false e = refl
    by true false e = let no : ⊥ = cc in absurd no
    by false true e = let no : ⊥ = cc in absurd no

value-path : (k : ℕ) (o : Option (List ℕ)) → value_of (option_and_then (with_path k) o) ≡ route_only (option_and_then (plain.with_path (kept k).value) o)
unfolding value_of route_only
value-path k None = refl
value-path k (Some []) = refl
value-path k (Some (b ∷ rest)) = refl

-- what the numbered rows answer
number_of : List ℕ → Option ℕ
number_of target =
    either (option_and_then (at_end 0) (after (codes "/batch") target))
    (either (option_and_then (with_name 1) (after (codes "/blobs/") target))
    (either (option_and_then (with_name 2) (after (codes "/metadata/") target))
    (either (option_and_then (at_end 3) (after (codes "/prune") target))
    (option_and_then (with_path 4) (after (codes "/targets/") target)))))

cong2 : {a b c d : Option ℕ} → a ≡ b → c ≡ d → either a c ≡ either b d
cong2 {a} {b} {c} {d} p q = ap (λ x. either x c) p ∙ ap (either b) q

numbers : (target : List ℕ) → IsText target → seek 0 numbered target ≡ number_of target
unfolding number_of
numbers target t =
    seek-parts target (codes "/batch") 0 _ refl
    ∙ cong2 (one-end (codes "/batch") 0 target refl) (
    seek-parts target (codes "/blobs/" ++ 256 ∷ []) 1 _ refl
    ∙ cong2 (one-name (codes "/blobs/") 1 target refl t) (
    seek-parts target (codes "/metadata/" ++ 256 ∷ []) 2 _ refl
    ∙ cong2 (one-name (codes "/metadata/") 2 target refl t) (
    seek-parts target (codes "/prune") 3 _ refl
    ∙ cong2 (one-end (codes "/prune") 3 target refl)
    (one-path (codes "/targets/") 4 target refl t))))

values : (target : List ℕ) → value_of (number_of target) ≡ route_only (route_of target)
unfolding number_of route_of kept all_routes
values target =
    simp (value-either, value-end, value-name, value-path, only-either)

-- The router answers the route of a target.
pub first-route : (target : List ℕ) → IsText target → option_map (λ r. r.value) (first all_routes target) ≡ option_map (λ r. r.0) (route_of target)
unfolding value_of route_only
first-route target t = ap (λ rs. option_map (λ r. r.value) (first rs target)) routes_are ∙ ap (option_map (λ r. r.value)) (seek-rename kept 0 numbered target) ∙ by (seek 0 numbered target) ∙ ap value_of (numbers target t) ∙ values target
  where
    by : (o : Option ℕ) → option_map (λ r. r.value) (map_key kept o) ≡ value_of o
    by None = refl
    by (Some k) = refl

pub text-of : (t : List ℕ) → ((k : ℕ) → get_or t k 0 < 256) → IsText t
text-of [] h = tt
text-of (b ∷ rest) h = (h 0, text-of rest (λ k. h (suc k)))

-- ---- what follows the prefix

-- a route comes with what follows its prefix
IsRest : List ℕ → Option Routed → Type 0
IsRest target o = (r : Routed) → o ≡ Some r → after (prefix_of r.0) target ≡ Some r.1

rest-either : (target : List ℕ) (a b : Option Routed) → IsRest target a → IsRest target b → IsRest target (or_else a b)
unfolding IsRest
rest-either target None b f g = g
rest-either target (Some x) b f g = f

rest-end : (target : List ℕ) (route : Route) → IsRest target (option_and_then (plain.at_end route) (after (prefix_of route) target))
unfolding IsRest
rest-end target route r = by (after (prefix_of route) target) refl
  where
    by : (o : Option (List ℕ)) → after (prefix_of route) target ≡ o → option_and_then (plain.at_end route) o ≡ Some r → after (prefix_of r.0) target ≡ Some r.1
    by None e q = let no : ⊥ = cc in absurd no
    by (Some []) e q = let same : (route, []) ≡ r = cc in subst (λ x. after (prefix_of x.0) target ≡ Some x.1) same e
    by (Some (b ∷ rest)) e q = let no : ⊥ = cc in absurd no

rest-name : (target : List ℕ) (route : Route) → IsRest target (option_and_then (plain.with_name route) (after (prefix_of route) target))
unfolding IsRest
rest-name target route r = by (after (prefix_of route) target) refl
  where
    at : (v : Bool) (b : ℕ) (rest : List ℕ) → after (prefix_of route) target ≡ Some (b ∷ rest) → cond v None (Some (route, b ∷ rest)) ≡ Some r → after (prefix_of r.0) target ≡ Some r.1
    at true b rest e q = let no : ⊥ = cc in absurd no
    at false b rest e q = let same : (route, b ∷ rest) ≡ r = cc in subst (λ x. after (prefix_of x.0) target ≡ Some x.1) same e

    by : (o : Option (List ℕ)) → after (prefix_of route) target ≡ o → option_and_then (plain.with_name route) o ≡ Some r → after (prefix_of r.0) target ≡ Some r.1
    by None e q = let no : ⊥ = cc in absurd no
    by (Some []) e q = let no : ⊥ = cc in absurd no
    by (Some (b ∷ rest)) e q = at (plain.has_slash (b ∷ rest)) b rest e q

rest-path : (target : List ℕ) (route : Route) → IsRest target (option_and_then (plain.with_path route) (after (prefix_of route) target))
unfolding IsRest
rest-path target route r = by (after (prefix_of route) target) refl
  where
    by : (o : Option (List ℕ)) → after (prefix_of route) target ≡ o → option_and_then (plain.with_path route) o ≡ Some r → after (prefix_of r.0) target ≡ Some r.1
    by None e q = let no : ⊥ = cc in absurd no
    by (Some []) e q = let no : ⊥ = cc in absurd no
    by (Some (b ∷ rest)) e q = let same : (route, b ∷ rest) ≡ r = cc in subst (λ x. after (prefix_of x.0) target ≡ Some x.1) same e

all-rest : (target : List ℕ) → IsRest target (route_of target)
unfolding route_of
all-rest target =
    rest-either target _ _ (rest-end target Batch)
    (rest-either target _ _ (rest-name target Blob)
    (rest-either target _ _ (rest-name target Metadata)
    (rest-either target _ _ (rest-end target Prune)
    (rest-path target Target))))

-- a target with a route is the route with what follows its prefix
pub with-rest : (target : List ℕ) (route : Route) → option_map (λ r. r.0) (route_of target) ≡ Some route
    → with_rest route (after (prefix_of route) target) ≡ route_of target
unfolding IsRest
with-rest target route = by (route_of target) (all-rest target)
  where
    by : (o : Option Routed) → IsRest target o → option_map (λ r. r.0) o ≡ Some route → with_rest route (after (prefix_of route) target) ≡ o
    by None f e = let no : ⊥ = cc in absurd no
    by (Some r) f e = let same : r.0 ≡ route = cc in subst (λ x. with_rest x (after (prefix_of x) target) ≡ Some r) same (ap (with_rest r.0) (f r refl))

-- the prefix and what follows it
pub after-prefix : (prefix rest : List ℕ) → after prefix (prefix ++ rest) ≡ Some rest
after-prefix [] rest = refl
after-prefix (a ∷ prefix) rest = let same : (a == a) ≡ true = grind (arith, nat_tests) in rw same (after-prefix prefix rest)

pub no-prefix : (prefix text : List ℕ) → ((rest : List ℕ) → text ≡ prefix ++ rest → ⊥) → after prefix text ≡ None
no-prefix [] text lacks = absurd (lacks text refl)
no-prefix (a ∷ prefix) [] lacks = refl
no-prefix (a ∷ prefix) (b ∷ text) lacks = by (a == b) refl (no-prefix prefix text)
  where
    by : (v : Bool) → (a == b) ≡ v → (((rest : List ℕ) → text ≡ prefix ++ rest → ⊥) → after prefix text ≡ None) → cond v (after prefix text) None ≡ None
    by false e ih = refl
    by true e ih = let same : b ≡ a = grind (arith, nat_tests) in ih (λ rest q. lacks rest (ap (λ l. b ∷ l) q ∙ ap (λ x. x ∷ (prefix ++ rest)) same))
