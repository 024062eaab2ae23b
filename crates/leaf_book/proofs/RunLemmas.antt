-- What a list of events leaves of a book.
use Rattle.std.proofs.Common.{◌≡◌, ◌<◌, ℕ, inl, inr, List, [], ◌∷◌, ◌++◌, Result, Ok, Err, refl, sym, ap, subst, ◌∙◌}
use Rattle.sqlite_rules.specs.Lists.{Has}
use Rattle.sqlite_rules.proofs.ListLemmas.{has_left, has_right}
use Rattle.lms.specs.declared.Params.{Params}
use Rattle.lms.specs.declared.Seed.{Seed}
use Rattle.lms.specs.Keys.{leaf_count}
use Rattle.leaf_book.specs.declared.faults.BookFault.{BookFault}
use Rattle.leaf_book.specs.declared.faults.BookFault.TheVariants.{LeavesSpent, UnknownKey, Damaged, OtherTree, Database, OutOfMemory}
use Rattle.leaf_plans.specs.Book.{Book, HasTree, IsBook, IsKeyId, IsLeastUnused, IsRegistered, LeafRow, Keeps, LacksMessage, LacksOtherTree, Signer, key_of, with_leaf, with_signer}
use Rattle.leaf_book.specs.Calls.{IsSeedOf, Registers, Reserved, Reserves, signature_by}
use Rattle.leaf_book.specs.Runs.{AreByOneKey, Entered, Event, Happens, IsByEntered, NeverTwice, Runs, Signed, World, begun, crash, crash_in_register, crash_in_reserve, more_entered, more_reserved, register, reopen, reserve, sign}
use Rattle.leaf_book.proofs.ReadLemmas.{leaves_more, same_or_not, signers_more}
use Rattle.leaf_book.specs.steps.Loading.{AreLeaves}
use Rattle.leaf_book.proofs.KeyIds.{key_of_id}

-- ---- one more

pub with_signer_right : (b : Book) (key : List ℕ) (params : Params) → IsBook b → IsKeyId key → ((other : Params) → IsRegistered b key other → ⊥) → IsBook (with_signer key params b)
with_signer_right b key params is id new =
    let s : Signer = record { key = key; params = params } in
    let ss = signers_more b.signers s (record { ids = is.ids; one = is.one_signer }) id (λ t h same. new t.params (subst (λ k. Has b.signers (record { key = k; params = t.params })) same h)) in
    record {
      ids = ss.ids;
      one_signer = ss.one;
      known = λ e h. let k = is.known e h in (k.0, has_left b.signers _ _ k.1, k.2);
      one_message = is.one_message;
      one_leaf = is.one_leaf;
    }

pub with_leaf_right : (b : Book) (key : List ℕ) (leaf : ℕ) (message : List ℕ) (params : Params) → IsBook b → IsRegistered b key params → leaf < leaf_count params → LacksMessage b key message → IsLeastUnused b key leaf → IsBook (with_leaf key leaf message b)
with_leaf_right b key leaf message params is registered below lacks least =
    let e : LeafRow = record { key = key; leaf = leaf; message = message } in
    let es : AreLeaves b.signers (b.leaves ++ e ∷ []) = leaves_more b.signers b.leaves e (record { known = is.known; one_message = is.one_message; one_leaf = is.one_leaf }) (params, registered, below) (λ f h same. (
      λ l. least.unused f.message (subst (λ n. Has b.leaves (record { key = key; leaf = n; message = f.message })) l (subst (λ k. Has b.leaves (record { key = k; leaf = f.leaf; message = f.message })) same h)),
      λ m. lacks f.leaf (subst (λ t. Has b.leaves (record { key = key; leaf = f.leaf; message = t })) m (subst (λ k. Has b.leaves (record { key = k; leaf = f.leaf; message = f.message })) same h)),
    )) in
    record {
      ids = is.ids;
      one_signer = is.one_signer;
      known = es.known;
      one_message = es.one_message;
      one_leaf = es.one_leaf;
    }

-- nothing goes
pub record Grows (b c : Book) : Type 0 where
  pub signers : (s : Signer) → Has b.signers s → Has c.signers s
  pub leaves : (e : LeafRow) → Has b.leaves e → Has c.leaves e

same_grows : (b c : Book) → c ≡ b → Grows b c
same_grows b c is = record { signers = λ s h. subst (λ (d : Book). Has d.signers s) (sym is) h; leaves = λ e h. subst (λ (d : Book). Has d.leaves e) (sym is) h }

pub grows_then : (b c d : Book) → Grows b c → Grows c d → Grows b d
grows_then b c d one two = record { signers = λ s h. two.signers s (one.signers s h); leaves = λ e h. two.leaves e (one.leaves e h) }

abbrev Kept_right : Book → Book → Type 0
Kept_right b c = IsBook c × Grows b c

stays : (b c : Book) → IsBook b → c ≡ b → IsBook c × Grows b c
stays b c is same = (subst IsBook (sym same) is, same_grows b c same)

pub registers_right : (b c : Book) (seed : Seed) (params : Params) (r : Result (List ℕ) BookFault) → IsBook b → Registers b seed params r c → IsBook c × Grows b c
registers_right b c seed params (Ok key) is (id, lacks, inl held) = stays b c is held.1
registers_right b c seed params (Ok key) is (id, lacks, inr new) = (
  subst IsBook (sym new.1) (with_signer_right b key params is (subst IsKeyId (sym id) (key_of_id seed params)) new.0),
  record { signers = λ s h. subst (λ (d : Book). Has d.signers s) (sym new.1) (has_left b.signers _ s h); leaves = λ e h. subst (λ (d : Book). Has d.leaves e) (sym new.1) h },
)
registers_right b c seed params (Err Damaged) is r = stays b c is r.1
registers_right b c seed params (Err OtherTree) is r = stays b c is r.1
registers_right b c seed params (Err LeavesSpent) is r = absurd r
registers_right b c seed params (Err UnknownKey) is r = absurd r
registers_right b c seed params (Err Database) is r = stays b c is r
registers_right b c seed params (Err OutOfMemory) is r = stays b c is r

-- a leaf that was answered is kept
abbrev pub IsKept : Book → Reserved → Type 0
IsKept b r = IsRegistered b r.key r.params × Keeps b r.key r.leaf r.message

pub kept_grows : (b c : Book) (r : Reserved) → Grows b c → IsKept b r → IsKept c r
kept_grows b c r grows is = (grows.signers _ is.0, grows.leaves _ is.1)

abbrev AllKept : Book → Result Reserved BookFault → Type 0
AllKept c (Ok r) = IsKept c r
AllKept c (Err e) = Unit {0}

pub reserves_right : (b c : Book) (key message : List ℕ) (r : Result Reserved BookFault) → IsBook b → Reserves b key message r c → IsBook c × Grows b c
reserves_right b c key message (Ok r) is (k, m, registered, below, inl held) = stays b c is held.1
reserves_right b c key message (Ok r) is (k, m, registered, below, inr new) = (
  subst IsBook (sym new.2) (with_leaf_right b key r.leaf message r.params is registered below new.0 new.1),
  record { signers = λ s h. subst (λ (d : Book). Has d.signers s) (sym new.2) h; leaves = λ e h. subst (λ (d : Book). Has d.leaves e) (sym new.2) (has_left b.leaves _ e h) },
)
reserves_right b c key message (Err LeavesSpent) is r = stays b c is r.2
reserves_right b c key message (Err UnknownKey) is r = stays b c is r.1
reserves_right b c key message (Err Damaged) is r = absurd r
reserves_right b c key message (Err OtherTree) is r = absurd r
reserves_right b c key message (Err Database) is r = stays b c is r
reserves_right b c key message (Err OutOfMemory) is r = stays b c is r

pub answered_kept : (b c : Book) (key message : List ℕ) (r : Reserved) → IsBook b → Reserves b key message (Ok r) c → IsKept c r
answered_kept b c key message r is (k, m, registered, below, inl held) =
    let here : IsKept b r = (subst (λ j. IsRegistered b j r.params) (sym k) registered, subst (λ j. Keeps b j r.leaf r.message) (sym k) (subst (Keeps b key r.leaf) (sym m) held.0)) in
    kept_grows b c r (same_grows b c held.1) here
answered_kept b c key message r is (k, m, registered, below, inr new) =
    let grown : Keeps c key r.leaf message = subst (λ (d : Book). Keeps d key r.leaf message) (sym new.2) (has_right b.leaves _ _ (inl refl)) in
    let signer : IsRegistered c key r.params = subst (λ (d : Book). IsRegistered d key r.params) (sym new.2) registered in
    (subst (λ j. IsRegistered c j r.params) (sym k) signer, subst (λ j. Keeps c j r.leaf r.message) (sym k) (subst (Keeps c key r.leaf) (sym m) grown))

-- ---- trees

-- a tree whose key was answered is registered
pub entered_has : (b c : Book) (seed : Seed) (params : Params) (key : List ℕ) → Registers b seed params (Ok key) c → HasTree c seed params
entered_has b c seed params key (id, lacks, inl held) = subst (λ (d : Book). HasTree d seed params) (sym held.1) (subst (λ k. IsRegistered b k params) id held.0)
entered_has b c seed params key (id, lacks, inr new) =
    subst (λ (d : Book). HasTree d seed params) (sym new.1) (subst (λ k. IsRegistered (with_signer key params b) k params) id (has_right b.signers _ _ (inl refl)))

-- the trees of a list of registrations: each is registered, and a seed has one
pub record AreTrees (b : Book) (es : List Entered) : Type 0 where
  pub there : (e : Entered) → Has es e → HasTree b e.seed e.params
  pub one : (d e : Entered) → Has es d → Has es e → d.seed ≡ e.seed → d.params ≡ e.params

no_trees : (b : Book) → AreTrees b []
no_trees b = record { there = λ e none. absurd none; one = λ d e none. absurd none }

trees_grow : (b c : Book) (es : List Entered) → Grows b c → AreTrees b es → AreTrees c es
trees_grow b c es grows are = record { there = λ e h. grows.signers _ (are.there e h); one = are.one }

-- where the key of a tree was answered, the seed had no other
only_tree : (b : Book) (seed : Seed) (params : Params) (e : Entered) → LacksOtherTree b seed params → HasTree b e.seed e.params → e.seed ≡ seed → e.params ≡ params
only_tree b seed params e lacks there same = elim (same_or_not e.params params) [
  | inl is ↦ is
  | inr differs ↦ absurd (lacks e.params differs (subst (λ s. HasTree b s e.params) same there))
]

trees_more : (b c : Book) (seed : Seed) (params : Params) (key : List ℕ) (es : List Entered) → Grows b c → AreTrees b es → Registers b seed params (Ok key) c
    → AreTrees c (record { seed = seed; params = params } ∷ es)
trees_more b c seed params key es grows are does =
    let new : Entered = record { seed = seed; params = params } in
    let lacks : LacksOtherTree b seed params = does.1 in
    record {
      there = λ e h. elim h [
        | inl here ↦ subst (λ (d : Entered). HasTree c d.seed d.params) (sym here) (entered_has b c seed params key does)
        | inr was ↦ grows.signers _ (are.there e was)
      ];
      one = λ d e h k same. elim h [
        | inl here ↦ elim k [
          | inl too ↦ ap (λ (x : Entered). x.params) here ∙ sym (ap (λ (x : Entered). x.params) too)
          | inr was ↦ ap (λ (x : Entered). x.params) here ∙ sym (only_tree b seed params e lacks (are.there e was) (sym same ∙ ap (λ (x : Entered). x.seed) here))
        ]
        | inr was ↦ elim k [
          | inl too ↦ only_tree b seed params d lacks (are.there d was) (same ∙ ap (λ (x : Entered). x.seed) too) ∙ sym (ap (λ (x : Entered). x.params) too)
          | inr also ↦ are.one d e was also same
        ]
      ];
    }

registered_trees : (b c : Book) (seed : Seed) (params : Params) (r : Result (List ℕ) BookFault) (es : List Entered) → Grows b c → AreTrees b es → Registers b seed params r c
    → AreTrees c (more_entered seed params r es)
registered_trees b c seed params (Ok key) es grows are does = trees_more b c seed params key es grows are does
registered_trees b c seed params (Err e) es grows are does = trees_grow b c es grows are

-- ---- worlds

pub record IsWorld (v : World) : Type 0 where
  pub right : IsBook v.book
  pub trees : AreTrees v.book v.entered
  pub reserved : (r : Reserved) → Has v.reserved r → IsKept v.book r
  pub signed : (s : Signed) → Has v.signed s → IsKept v.book s.leaf × IsSeedOf s.seed s.leaf × (s.bytes ≡ signature_by s.seed s.leaf)

pub begun_world : (b : Book) → IsBook b → IsWorld (begun b)
begun_world b is = record { right = is; trees = no_trees b; reserved = λ r none. absurd none; signed = λ s none. absurd none }

-- where nothing was answered or signed
moved_with : (v w : World) → IsWorld v → IsBook w.book → Grows v.book w.book → AreTrees w.book w.entered → w.reserved ≡ v.reserved → w.signed ≡ v.signed → IsWorld w × Grows v.book w.book
moved_with v w is right grows trees reserved signed = (
  record {
    right = right;
    trees = trees;
    reserved = λ r h. kept_grows v.book w.book r grows (is.reserved r (subst (λ rs. Has rs r) reserved h));
    signed = λ s h. let was = is.signed s (subst (λ ss. Has ss s) signed h) in (kept_grows v.book w.book s.leaf grows was.0, was.1, was.2);
  },
  grows,
)

trees_still : (v w : World) → IsWorld v → Grows v.book w.book → w.entered ≡ v.entered → AreTrees w.book w.entered
trees_still v w is grows entered = subst (AreTrees w.book) (sym entered) (trees_grow v.book w.book v.entered grows is.trees)

moved : (v w : World) → IsWorld v → IsBook w.book → Grows v.book w.book → w.entered ≡ v.entered → w.reserved ≡ v.reserved → w.signed ≡ v.signed → IsWorld w × Grows v.book w.book
moved v w is right grows entered reserved signed = moved_with v w is right grows (trees_still v w is grows entered) reserved signed

reserved_by : (v w : World) (key message : List ℕ) (r : Result Reserved BookFault) → IsWorld v → Reserves v.book key message r w.book → w.entered ≡ v.entered → w.reserved ≡ more_reserved r v.reserved → w.signed ≡ v.signed → IsWorld w × Grows v.book w.book
reserved_by v w key message (Ok r) is reserves entered reserved signed =
    let right = reserves_right v.book w.book key message (Ok r) is.right reserves in (
      record {
        right = right.0;
        trees = trees_still v w is right.1 entered;
        reserved = λ q h. elim (subst (λ rs. Has rs q) reserved h) [
          | inl here ↦ subst (IsKept w.book) (sym here) (answered_kept v.book w.book key message r is.right reserves)
          | inr was ↦ kept_grows v.book w.book q right.1 (is.reserved q was)
        ];
        signed = λ s h. let was = is.signed s (subst (λ ss. Has ss s) signed h) in (kept_grows v.book w.book s.leaf right.1 was.0, was.1, was.2);
      },
      right.1,
    )
reserved_by v w key message (Err e) is reserves entered reserved signed =
    let right = reserves_right v.book w.book key message (Err e) is.right reserves in
    moved v w is right.0 right.1 entered reserved signed

happens_right : (v w : World) (e : Event) → IsWorld v → Happens v e w → IsWorld w × Grows v.book w.book
happens_right v w (register seed params) is (r, does, entered, reserved, signed) =
    let right = registers_right v.book w.book seed params r is.right does in
    moved_with v w is right.0 right.1 (subst (AreTrees w.book) (sym entered) (registered_trees v.book w.book seed params r v.entered right.1 is.trees does)) reserved signed
happens_right v w (reserve key message) is (r, does, entered, reserved, signed) = reserved_by v w key message r is does entered reserved signed
happens_right v w (sign leaf seed) is (has, seeded, book, entered, reserved, inl none) = let same = stays v.book w.book is.right book in moved v w is same.0 same.1 entered reserved none
happens_right v w (sign leaf seed) is (has, seeded, book, entered, reserved, inr one) =
    let same = stays v.book w.book is.right book in (
      record {
        right = same.0;
        trees = trees_still v w is same.1 entered;
        reserved = λ r h. kept_grows v.book w.book r same.1 (is.reserved r (subst (λ rs. Has rs r) reserved h));
        signed = λ s h. elim (subst (λ ss. Has ss s) one h) [
          | inl here ↦ subst (λ (t : Signed). IsKept w.book t.leaf × IsSeedOf t.seed t.leaf × (t.bytes ≡ signature_by t.seed t.leaf)) (sym here) (kept_grows v.book w.book leaf same.1 (is.reserved leaf has), seeded, refl)
          | inr was ↦ let it = is.signed s was in (kept_grows v.book w.book s.leaf same.1 it.0, it.1, it.2)
        ];
      },
      same.1,
    )
happens_right v w (crash_in_register seed params) is (inl same, entered, reserved, signed) = let it = stays v.book w.book is.right same in moved v w is it.0 it.1 entered reserved signed
happens_right v w (crash_in_register seed params) is (inr after, entered, reserved, signed) = let right = registers_right v.book w.book seed params after.0 is.right after.1 in moved v w is right.0 right.1 entered reserved signed
happens_right v w (crash_in_reserve key message) is (inl same, entered, reserved, signed) = let it = stays v.book w.book is.right same in moved v w is it.0 it.1 entered reserved signed
happens_right v w (crash_in_reserve key message) is (inr after, entered, reserved, signed) = let right = reserves_right v.book w.book key message after.0 is.right after.1 in moved v w is right.0 right.1 entered reserved signed
happens_right v w crash is (same, entered, reserved, signed) = let it = stays v.book w.book is.right same in moved v w is it.0 it.1 entered reserved signed
happens_right v w reopen is (same, right, entered, reserved, signed) =
    moved v w is right (record { signers = λ s. (same.signers s).0; leaves = λ e. (same.leaves e).0 }) entered reserved signed

pub runs_right : (v w : World) (es : List Event) → IsWorld v → Runs v es w → IsWorld w × Grows v.book w.book
runs_right v w [] is same = (subst IsWorld (sym same) is, same_grows v.book w.book (ap (λ (u : World). u.book) same))
runs_right v w (e ∷ es) is (u, first, rest) =
    let one = happens_right v u e is first in
    let two = runs_right u w es one.0 rest in
    (two.0, grows_then v.book u.book w.book one.1 two.1)

-- ---- never twice

module _ (w : World) (is : IsWorld w) where
  same_message : (s t : Signed) → Has w.signed s → Has w.signed t → s.leaf.key ≡ t.leaf.key → s.leaf.leaf ≡ t.leaf.leaf → s.leaf.message ≡ t.leaf.message
  same_message s t a b key leaf = ap (λ (e : LeafRow). e.message) (is.right.one_message _ _ (is.signed s a).0.1 (is.signed t b).0.1 key leaf)

  same_bytes : (s t : Signed) → Has w.signed s → Has w.signed t → s.leaf.key ≡ t.leaf.key → s.leaf.leaf ≡ t.leaf.leaf → s.seed ≡ t.seed → s.bytes ≡ t.bytes
  same_bytes s t a b key leaf seed =
      let message = same_message s t a b key leaf in
      let one = is.signed s a in
      let two = is.signed t b in
      let params : s.leaf.params ≡ t.leaf.params = ap (λ (g : Signer). g.params) (is.right.one_signer _ _ one.0.0 two.0.0 key) in
      let leaves : s.leaf ≡ t.leaf =
      ap (λ k. record { key = k; leaf = s.leaf.leaf; params = s.leaf.params; message = s.leaf.message }) key
      ∙ ap (λ l. record { key = t.leaf.key; leaf = l; params = s.leaf.params; message = s.leaf.message }) leaf
      ∙ ap (λ p. record { key = t.leaf.key; leaf = t.leaf.leaf; params = p; message = s.leaf.message }) params
      ∙ ap (λ m. record { key = t.leaf.key; leaf = t.leaf.leaf; params = t.leaf.params; message = m }) message in
      one.2 ∙ ap (λ g. signature_by g s.leaf) seed ∙ ap (signature_by t.seed) leaves ∙ sym two.2

  -- by one one-time key: one seed, so one tree, so one key
  one_key : (s t : Signed) → Has w.signed s → Has w.signed t → IsByEntered w.entered s → IsByEntered w.entered t → s.seed ≡ t.seed → s.leaf.key ≡ t.leaf.key
  one_key s t a b c d seed =
      let params = is.trees.one _ _ c d seed in
      sym (is.signed s a).1 ∙ ap (λ g. key_of g s.leaf.params) seed ∙ ap (key_of t.seed) params ∙ (is.signed t b).1

  pub one_time : (s t : Signed) → Has w.signed s → Has w.signed t → IsByEntered w.entered s → IsByEntered w.entered t → AreByOneKey s t → (s.leaf.message ≡ t.leaf.message) × (s.bytes ≡ t.bytes)
  one_time s t a b c d (seed, leaf) =
      let key = one_key s t a b c d seed in
      (same_message s t a b key leaf, same_bytes s t a b key leaf seed)

pub twice_never : (v w : World) → IsWorld w → Grows v.book w.book → NeverTwice v w
twice_never v w is grows = record {
  grows = λ key leaf message h. grows.leaves _ h;
  one_message = λ key leaf m n a b. ap (λ (e : LeafRow). e.message) (is.right.one_message _ _ a b refl refl);
  one_leaf = λ key k l message a b. ap (λ (e : LeafRow). e.leaf) (is.right.one_leaf _ _ a b refl refl);
  kept = λ s h. let it = is.signed s h in (it.0.1, it.2);
  same_message = same_message w is;
  same_bytes = same_bytes w is;
  one_tree = is.trees.one;
  one_time = one_time w is;
}
