-- What becomes of a book in which no trees of a key of two levels have two rivals.
use Rattle.std.proofs.Common.{◌≡◌, ◌⊎◌, ◌<◌, ◌^◌, ◌∷◌, [], ◌++◌, ℕ, List, length, length-append, get_or, codes, Result, Ok, Err, inl, inr, refl, sym, ap, subst, ◌∙◌, arith}
use Rattle.sqlite_rules.specs.Lists.{Has}
use Rattle.sqlite_rules.proofs.ListLemmas.{has_either, has_front}
use Rattle.canonical_json.specs.Json.{Json, HasMember, array, boolean, integer, null, object, text}
use Rattle.canonical_json.specs.Spelling.{spelling}
use Rattle.lms.specs.declared.Params.{Params}
use Rattle.lms.specs.declared.Seed.{Seed}
use Rattle.lms.specs.declared.OtsType.{OtsType}
use Rattle.lms.specs.declared.SigningHeight.{SigningHeight}
use Rattle.lms.specs.declared.SigningHeight.TheVariants.{H5, H10}
use Rattle.lms.specs.Keys.{public_of, tree_hash}
use Rattle.lms.specs.Parameters.{height, lms_code, ots_code, signing_type}
use Rattle.lms.specs.Text.{public_text, u32}
use Rattle.lms.specs.HssKeys.{HssPair}
use Rattle.lms.proofs.HssLaws.{child_sized}
use Rattle.lms.proofs.SignLaws.{signature_verifies}
use Rattle.leaf_plans.specs.Book.{Book, LeafRow, Keeps, key_of}
use Rattle.leaf_book.specs.Calls.{Reserved, Reserves}
use Rattle.signer.specs.Below.{IsRivalBelow, IsUnder, LacksRivalsBelow, below_of, top_of}
use Rattle.signer.specs.BelowOnce.{IsBegunIn, IsUnsignedFileBelow, SignsBelowOnce}
use Rattle.signer.specs.BelowRuns.{Event, HasNamedTrees, HasNoRivalsBelow, Happens, IsOfPair, Runs, crash, crash_in_register, crash_in_sign_below_once, register, reopen, sign_below_once}
use Rattle.signer.specs.Levels.{key_by, public_by}
use Rattle.signer.specs.Messages.{IsBegun, Signs}
use Rattle.signer.specs.Versions.{AreRivals, Says}
use Rattle.signer.specs.declared.faults.SignFileFault.{SignFileFault}
use Rattle.signer.specs.declared.faults.SignFileFault.TheVariants as files
use Rattle.signer.specs.declared.faults.SignOnceFault.{SignOnceFault}
use Rattle.signer.specs.declared.faults.SignOnceFault.TheVariants.{Other, Unsigned}
use Rattle.signer.proofs.BelowOnce.{both_begun, unsigned_in_begun}
use Rattle.signer.proofs.OneVersion.{registers_leaves}
use Rattle.signer.proofs.Rivals.{rivals_sym}

abbrev entry : List ℕ → ℕ → List ℕ → LeafRow
entry key leaf message = record { key = key; leaf = leaf; message = message }

-- ---- a public key says no version

nothing : (v : Json) (rest name : List ℕ) (x : Json) → 0 ∷ rest ≡ spelling v → HasMember v name x → ⊥
nothing (object ms) rest name x e h = absurd (omega (arith, ap (λ (xs : List ℕ). get_or xs 0 0) e))
nothing null rest name x e h = absurd h
nothing (boolean b) rest name x e h = absurd h
nothing (integer z) rest name x e h = absurd h
nothing (text t) rest name x e h = absurd h
nothing (array vs) rest name x e h = absurd h

says_nothing : (message rest : List ℕ) (kind version : Json) → message ≡ 0 ∷ rest → Says message kind version → ⊥
says_nothing message rest kind version is s = nothing s.value rest (codes "_type") kind (sym is ∙ s.canonical.spelled) s.has_kind

begins : (h : SigningHeight) (ots : OtsType) (i root : List ℕ) → (rest : List ℕ) × (public_text (signing_type h) ots i root ≡ 0 ∷ rest)
begins H5 ots i root = (_, refl)
begins H10 ots i root = (_, refl)

key_has_no_rival : (seed : Seed) (params : Params) (m : List ℕ) → AreRivals m (public_of seed params) → ⊥
key_has_no_rival seed params m r =
    let it = begins params.height params.ots seed.identifier (tree_hash (signing_type params.height) params.ots seed.identifier seed.secret (height (signing_type params.height)) 1) in
    says_nothing (public_of seed params) it.0 r.kind r.version it.1 r.second

-- and it has 56 bytes, as its I has 16
some_leaf : (h : SigningHeight) → 0 < 2 ^ height (signing_type h)
some_leaf H5 = omega arith
some_leaf H10 = omega arith

key_sized : (seed : Seed) (params : Params) → length seed.identifier ≡ 16 → length (public_of seed params) ≡ 56
key_sized seed params sized =
    let v = signature_verifies (signing_type params.height) params.ots seed.identifier seed.secret 0 [] sized (some_leaf params.height) in
    let lms = u32 (lms_code v.lms) in
    let ots = u32 (ots_code v.ots) in
    let k = ap (λ (xs : List ℕ). length xs) v.key in
    let a = length-append (lms ++ ots ++ v.identifier) v.root in
    let b = length-append (lms ++ ots) v.identifier in
    let i = v.identifier_len in
    let r = v.root_len in
    omega (arith, k, a, b, i, r)

-- ---- what grows

-- the leaf history is as it was, or has a leaf of the key more, for the message
abbrev IsGrown : Book → Book → List ℕ → List ℕ → Type 0
IsGrown b c key message = (c.leaves ≡ b.leaves) ⊎ ((leaf : ℕ) × (c.leaves ≡ b.leaves ++ entry key leaf message ∷ []))

grown_same : (b c d : Book) (key message : List ℕ) → c.leaves ≡ b.leaves → IsGrown c d key message → IsGrown b d key message
grown_same b c d key message same (inl is) = inl (is ∙ same)
grown_same b c d key message same (inr (leaf, is)) = inr (leaf, is ∙ ap (λ (es : List LeafRow). es ++ entry key leaf message ∷ []) same)

reserves_grown : (b c : Book) (key message : List ℕ) (r : Reserved) → Reserves b key message (Ok r) c → IsGrown b c key message
reserves_grown b c key message r (k, m, registered, below, inl held) = inl (ap (λ (x : Book). x.leaves) held.1)
reserves_grown b c key message r (k, m, registered, below, inr new) = inr (r.leaf, ap (λ (x : Book). x.leaves) new.2)

begun_grown : (b c : Book) (seed : Seed) (params : Params) (message : List ℕ) → IsBegun b seed params message c → IsGrown b c (key_of seed params) message
begun_grown b c seed params message (inl same) = inl (ap (λ (x : Book). x.leaves) same)
begun_grown b c seed params message (inr (d, was, inl same)) =
    inl (ap (λ (x : Book). x.leaves) same ∙ registers_leaves b d seed params (Ok (key_of seed params)) was)
begun_grown b c seed params message (inr (d, was, inr (leaf, does))) =
    grown_same b d c (key_of seed params) message (registers_leaves b d seed params (Ok (key_of seed params)) was) (reserves_grown d c (key_of seed params) message leaf does)

last_has : (xs : List LeafRow) (x : LeafRow) → Has (xs ++ x ∷ []) x
last_has [] x = inl refl
last_has (y ∷ ys) x = inr (last_has ys x)

-- what was signed is kept
signs_keeps : (b c : Book) (seed : Seed) (params : Params) (message signature : List ℕ) → (s : Signs b seed params message signature c) → Keeps c (key_of seed params) s.leaf.leaf message
signs_keeps b c seed params message signature s = kept s.registered c (key_of seed params) message s.leaf s.reserves
  where
    kept : (b c : Book) (key message : List ℕ) (r : Reserved) → Reserves b key message (Ok r) c → Keeps c key r.leaf message
    kept b c key message r (k, m, registered, below, inl held) = subst (λ (x : Book). Keeps x key r.leaf message) (sym held.1) held.0
    kept b c key message r (k, m, registered, below, inr new) =
        subst (λ (x : Book). Keeps x key r.leaf message) (sym new.2) (last_has b.leaves (entry key r.leaf message))

old_has : (b c : Book) (key message : List ℕ) (e : LeafRow) → IsGrown b c key message → Has b.leaves e → Has c.leaves e
old_has b c key message e (inl same) h = subst (λ (es : List LeafRow). Has es e) (sym same) h
old_has b c key message e (inr (leaf, is)) h = has_front c.leaves b.leaves (entry key leaf message ∷ []) e is h

-- each entry is an old one, or the new one
new_has : (b c : Book) (key message k m : List ℕ) (l : ℕ) → IsGrown b c key message → Keeps c k l m → Keeps b k l m ⊎ ((k ≡ key) × (m ≡ message))
new_has b c key message k m l (inl same) h = inl (subst (λ (es : List LeafRow). Has es (entry k l m)) same h)
new_has b c key message k m l (inr (leaf, is)) h =
    elim (has_either b.leaves (entry key leaf message ∷ []) (entry k l m) (subst (λ (es : List LeafRow). Has es (entry k l m)) is h)) [
      | inl was ↦ inl was
      | inr (inl new) ↦ inr (ap (λ (e : LeafRow). e.key) new, ap (λ (e : LeafRow). e.message) new)
      | inr (inr never) ↦ absurd never
    ]

module _ (p : HssPair) where
  abbrev top : List ℕ
  top = key_by (top_of p)

  abbrev LacksPair : Book → List ℕ → Type 0
  LacksPair b message = (key n : List ℕ) (l : ℕ) → IsOfPair p key → Keeps b key l n → AreRivals message n → ⊥

  abbrev pub Safe : Book → Type 0
  Safe b = HasNamedTrees p b × HasNoRivalsBelow p b

  under_grown : (b c : Book) (key message other : List ℕ) → IsGrown b c key message → IsUnder b top other → IsUnder c top other
  under_grown b c key message other grown (inl same) = inl same
  under_grown b c key message other grown (inr (q, public, h, long, same)) = inr (q, public, old_has b c key message (entry top q public) grown h, long, same)

  grown_lacks : (b c : Book) (key message other : List ℕ) → IsGrown b c key other → (AreRivals message other → ⊥) → LacksPair b message → LacksPair c message
  grown_lacks b c key message other grown never lacks = λ k n l pk h r.
      elim (new_has b c key other k n l grown h) [
        | inl was ↦ lacks k n l pk was r
        | inr new ↦ never (subst (λ (x : List ℕ). AreRivals message x) new.1 r)
      ]

  named_grown : (b c : Book) (key message : List ℕ) → IsGrown b c key message → ((q : ℕ) → key ≡ key_by (below_of p q) → IsUnder b top (key_by (below_of p q)))
      → HasNamedTrees p b → HasNamedTrees p c
  named_grown b c key message grown under named = λ q leaf m h.
      under_grown b c key message (key_by (below_of p q)) grown
      (elim (new_has b c key message (key_by (below_of p q)) m leaf grown h) [ inl was ↦ named q leaf m was | inr new ↦ under q (sym new.0) ])

  rivals_grown : (b c : Book) (key message : List ℕ) → IsGrown b c key message → LacksPair b message → HasNoRivalsBelow p b → HasNoRivalsBelow p c
  rivals_grown b c key message grown lacks none = λ k o m n i l pk po hm hn r.
      elim (new_has b c key message k m i grown hm) [
        | inl om ↦
            elim (new_has b c key message o n l grown hn) [
              | inl on ↦ none k o m n i l pk po om on r
              | inr an ↦ lacks k m i pk om (rivals_sym m message (subst (λ (x : List ℕ). AreRivals m x) an.1 r))
            ]
        | inr am ↦
            elim (new_has b c key message o n l grown hn) [
              | inl on ↦ lacks o n l po on (subst (λ (x : List ℕ). AreRivals x n) am.1 r)
              | inr an ↦ r.differ (am.1 ∙ sym an.1)
            ]
      ]

  grown_safe : (b c : Book) (key message : List ℕ) → IsGrown b c key message → LacksPair b message → ((q : ℕ) → key ≡ key_by (below_of p q) → IsUnder b top (key_by (below_of p q)))
      → Safe b → Safe c
  grown_safe b c key message grown lacks under safe =
      (named_grown b c key message grown under safe.0, rivals_grown b c key message grown lacks safe.1)

  stays_safe : (b c : Book) → c ≡ b → Safe b → Safe c
  stays_safe b c same safe = subst Safe (sym same) safe

  -- the same entries in another order
  same_safe : (b c : Book) → ((e : LeafRow) → Has b.leaves e → Has c.leaves e) → ((e : LeafRow) → Has c.leaves e → Has b.leaves e) → Safe b → Safe c
  same_safe b c to from safe = (
    λ q leaf m h. moved (key_by (below_of p q)) (safe.0 q leaf m (from (entry (key_by (below_of p q)) leaf m) h)),
    λ k o m n i l pk po hm hn r. safe.1 k o m n i l pk po (from (entry k i m) hm) (from (entry o l n) hn) r,
  )
    where
      moved : (key : List ℕ) → IsUnder b top key → IsUnder c top key
      moved key (inl same) = inl same
      moved key (inr (q, public, h, long, same)) = inr (q, public, to (entry top q public) h, long, same)

  same_leaves_safe : (b c : Book) → c.leaves ≡ b.leaves → Safe b → Safe c
  same_leaves_safe b c same safe =
      same_safe b c (λ e h. subst (λ (es : List LeafRow). Has es e) (sym same) h) (λ e h. subst (λ (es : List LeafRow). Has es e) same h) safe

  -- ---- one signing

  key_lacks : (b : Book) (q : ℕ) → LacksPair b (public_by (below_of p q))
  key_lacks b q = λ key n l pk h r. key_has_no_rival (below_of p q).seed (below_of p q).params n (rivals_sym (public_by (below_of p q)) n r)

  begun_safe : (b c : Book) (message : List ℕ) → LacksPair b message → Safe b → IsBegunIn b p message c → Safe c
  begun_safe b c message lacks safe (inl same) = stays_safe b c same safe
  begun_safe b c message lacks safe (inr (q, at, inl begun)) =
      grown_safe b c top (public_by (below_of p q)) (begun_grown b c p.seed p.levels.top (public_by (below_of p q)) begun) (key_lacks b q) (λ n same. inl (sym same)) safe
  begun_safe b c message lacks safe (inr (q, at, inr (d, first, s, begun))) =
      let public = public_by (below_of p q) in
      let early = begun_grown b d p.seed p.levels.top public (inr (s.registered, s.registers, inr (s.leaf, s.reserves))) in
      let one = grown_safe b d top public early (key_lacks b q) (λ n same. inl (sym same)) safe in
      let left = grown_lacks b d top message public early (key_has_no_rival (below_of p q).seed (below_of p q).params message) lacks in
      let named : IsUnder d top (key_by (below_of p q)) =
      inr (s.leaf.leaf, public, signs_keeps b d p.seed p.levels.top public first s, key_sized (below_of p q).seed (below_of p q).params (child_sized p.seed.identifier p.seed.secret q), refl) in
      let late = begun_grown d c (below_of p q).seed (below_of p q).params message begun in
      grown_safe d c (key_by (below_of p q)) message late left (λ n same. subst (IsUnder d top) same named) one

  lacks_pair : (b : Book) (message : List ℕ) → HasNamedTrees p b → ((leaf : ℕ) → IsRivalBelow b top message leaf → ⊥) → LacksPair b message
  lacks_pair b message named lacks key n l (inl same) h r = lacks l (key, inl same, (n, h, r))
  lacks_pair b message named lacks key n l (inr (q, same)) h r =
      lacks l (key, subst (IsUnder b top) (sym same) (named q l n (subst (λ (k : List ℕ). Keeps b k l n) same h)), (n, h, r))

  unsigned_safe : (b c : Book) (file : List ℕ) (fault : SignFileFault) → LacksRivalsBelow b top file → Safe b → IsUnsignedFileBelow b p file fault c → Safe c
  unsigned_safe b c file (files.Denied denial) lacks safe u = stays_safe b c u.1 safe
  unsigned_safe b c file (files.Book fault) lacks safe (entries, message, f, u) =
      begun_safe b c message (lacks_pair b message safe.0 (lacks entries message f)) safe (unsigned_in_begun b c p message fault u)
  unsigned_safe b c file files.OutOfMemory lacks safe (inl same) = stays_safe b c same safe
  unsigned_safe b c file files.OutOfMemory lacks safe (inr (entries, message, f, u)) = begun_safe b c message (lacks_pair b message safe.0 (lacks entries message f)) safe u

  once_safe : (b c : Book) (file : List ℕ) (r : Result (List ℕ) SignOnceFault) → Safe b → SignsBelowOnce b p file r c → Safe c
  once_safe b c file (Ok out) safe (s, lacks) =
      begun_safe b c s.message (lacks_pair b s.message safe.0 (lacks s.entries s.message s.was)) safe
      (inr (s.q, s.tree, both_begun b c (top_of p) s.q (below_of p s.q) s.message s.signature s.signs))
  once_safe b c file (Err (Other leaf)) safe (it, same) = stays_safe b c same safe
  once_safe b c file (Err (Unsigned fault)) safe (u, inl lacks) = unsigned_safe b c file fault lacks safe u
  once_safe b c file (Err (Unsigned fault)) safe (u, inr (is, same)) = stays_safe b c same safe

  -- ---- lists of calls

  happens_safe : (b c : Book) (e : Event) → Safe b → Happens p b e c → Safe c
  happens_safe b c (register seed params) safe (r, does) = same_leaves_safe b c (registers_leaves b c seed params r does) safe
  happens_safe b c (sign_below_once file) safe (r, does) = once_safe b c file r safe does
  happens_safe b c (crash_in_register seed params) safe (inl same) = stays_safe b c same safe
  happens_safe b c (crash_in_register seed params) safe (inr (r, does)) = same_leaves_safe b c (registers_leaves b c seed params r does) safe
  happens_safe b c (crash_in_sign_below_once file) safe (inl same) = stays_safe b c same safe
  happens_safe b c (crash_in_sign_below_once file) safe (inr (r, does)) = once_safe b c file r safe does
  happens_safe b c crash safe same = stays_safe b c same safe
  happens_safe b c reopen safe (same, right) = same_safe b c (λ e. (same.leaves e).0) (λ e. (same.leaves e).1) safe

  pub runs_safe : (b d : Book) (es : List Event) → Safe b → Runs p b es d → Safe d
  runs_safe b d [] safe same = stays_safe b d same safe
  runs_safe b d (e ∷ es) safe (c, first, rest) = runs_safe c d es (happens_safe b c e safe first) rest
