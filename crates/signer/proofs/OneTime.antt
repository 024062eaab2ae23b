-- Each signing is some events of the book, so what never happens twice there does not here.
use Rattle.std.proofs.Common.{◌≡◌, ◌∷◌, [], ◌++◌, ℕ, List, Result, Ok, Err, inl, inr, refl, sym, ap, subst, ◌∙◌}
use Rattle.sqlite_rules.specs.Lists.{Has}
use Rattle.lms.specs.declared.Params.{Params}
use Rattle.lms.specs.declared.Seed.{Seed}
use Rattle.leaf_plans.specs.Book.{Book, IsBook, key_of}
use Rattle.leaf_book.specs.Calls.{Registers, Reserved, Reserves, signature_by}
use Rattle.leaf_book.specs.Runs as history
use Rattle.leaf_book.specs.Runs.{Entered, IsByEntered, NeverTwice, Signed, World}
use Rattle.leaf_book.specs.declared.faults.BookFault.{BookFault}
use Rattle.leaf_book.specs.declared.faults.BookFault.TheVariants.{LeavesSpent, UnknownKey, Damaged, OtherTree, Database, OutOfMemory}
use Rattle.lms.specs.Keys.{Pair}
use Rattle.signer.specs.Levels.{IsBegunBelow, IsUnsignedBelow, SignsBelow, public_by}
use Rattle.lms.specs.HssKeys.{HssPair}
use Rattle.signer.specs.Below.{below_of, top_of}
use Rattle.signer.specs.BelowOnce.{IsBegunFileBelow, IsBegunIn, IsUnsignedFileBelow}
use Rattle.signer.proofs.BelowOnce.{unsigned_begun, unsigned_in_begun}
use Rattle.signer.specs.Files.{IsBegunFile, IsUnsignedFile}
use Rattle.signer.specs.Messages.{IsBegun, IsUnsigned, Signs}
use Rattle.signer.specs.OneTime.{AreOneTime, Event, Happens, Runs, Work, begun, with_both, crash, crash_in_register, crash_in_sign, crash_in_sign_below, crash_in_sign_file, crash_in_sign_file_below, register, reopen, sign, sign_below, sign_file, sign_file_below}
use Rattle.signer.specs.declared.faults.SignFileFault.{SignFileFault}
use Rattle.signer.specs.declared.faults.SignFileFault.TheVariants as files

-- the same book and signatures, each of a tree that was registered
pub record Matches (w : Work) (u : World) : Type 0 where
  pub book : u.book ≡ w.book
  pub signed : u.signed ≡ w.made
  pub entered : (s : Signed) → Has w.made s → IsByEntered u.entered s

-- some events of the book lead from one world to another
abbrev Reaches : World → World → Type 0
Reaches u v = (es : List history.Event) × history.Runs u es v

then : (u v w : World) (first second : List history.Event) → history.Runs u first v → history.Runs v second w → history.Runs u (first ++ second) w
then u v w [] second same late = subst (λ x. history.Runs x second w) same late
then u v w (e ∷ es) second (x, happens, rest) late = (x, happens, then x v w es second rest late)

-- to a world with this book, and no further signature
abbrev Comes : World → Book → Type 0
Comes u b = (v : World) × Reaches u v × (v.book ≡ b) × (v.signed ≡ u.signed) × ((s : Signed) → IsByEntered u.entered s → IsByEntered v.entered s)

abbrev world : World → Book → World
world u b = record u { book = b }

registers_comes : (u : World) (b c : Book) (seed : Seed) (params : Params) (r : Result (List ℕ) BookFault) → u.book ≡ b → Registers b seed params r c → Comes u c
registers_comes u b c seed params r same does = (
  world u c,
  (history.crash_in_register seed params ∷ [], (world u c, (inr (r, subst (λ (a : Book). Registers a seed params r c) (sym same) does), refl, refl, refl), refl)),
  refl,
  refl,
  λ s h. h,
)

reserves_comes : (u : World) (b c : Book) (key message : List ℕ) (r : Result Reserved BookFault) → u.book ≡ b → Reserves b key message r c → Comes u c
reserves_comes u b c key message r same does = (
  world u c,
  (history.crash_in_reserve key message ∷ [], (world u c, (inr (r, subst (λ (a : Book). Reserves a key message r c) (sym same) does), refl, refl, refl), refl)),
  refl,
  refl,
  λ s h. h,
)

stays_comes : (u : World) (b c : Book) → u.book ≡ b → c ≡ b → Comes u c
stays_comes u b c same is = (u, ([], refl), same ∙ sym is, refl, λ s h. h)

comes_then : (u : World) (c d : Book) → Comes u c → ((v : World) → v.book ≡ c → Comes v d) → Comes u d
comes_then u c d (v, (es, runs), is, signed, entered) next =
    let more = next v is in
    (more.0, (es ++ more.1.0, then u v more.0 es more.1.0 runs more.1.1), more.2, more.3 ∙ signed, λ s h. more.4 s (entered s h))

begun_comes : (u : World) (b d : Book) (seed : Seed) (params : Params) (message : List ℕ) → u.book ≡ b → IsBegun b seed params message d → Comes u d
begun_comes u b d seed params message same (inl is) = stays_comes u b d same is
begun_comes u b d seed params message same (inr (c, was, inl is)) =
    comes_then u c d (registers_comes u b c seed params (Ok (key_of seed params)) same was) (λ v here. stays_comes v c d here is)
begun_comes u b d seed params message same (inr (c, was, inr (leaf, does))) =
    comes_then u c d (registers_comes u b c seed params (Ok (key_of seed params)) same was) (λ v here. reserves_comes v c d (key_of seed params) message (Ok leaf) here does)

unsigned_comes : (u : World) (b d : Book) (seed : Seed) (params : Params) (message : List ℕ) (fault : BookFault) → u.book ≡ b → IsUnsigned b seed params message fault d → Comes u d
unsigned_comes u b d seed params message Damaged same it = registers_comes u b d seed params (Err Damaged) same it
unsigned_comes u b d seed params message OtherTree same it = registers_comes u b d seed params (Err OtherTree) same it
unsigned_comes u b d seed params message LeavesSpent same (c, was, does) =
    comes_then u c d (registers_comes u b c seed params (Ok (key_of seed params)) same was) (λ v here. reserves_comes v c d (key_of seed params) message (Err LeavesSpent) here does)
unsigned_comes u b d seed params message UnknownKey same it = absurd it
unsigned_comes u b d seed params message Database same it = begun_comes u b d seed params message same it
unsigned_comes u b d seed params message OutOfMemory same it = begun_comes u b d seed params message same it

-- what was signed is begun
signs_begun : (b c : Book) (seed : Seed) (params : Params) (message signature : List ℕ) → Signs b seed params message signature c → IsBegun b seed params message c
signs_begun b c seed params message signature s = inr (s.registered, s.registers, inr (s.leaf, s.reserves))

begun_below_comes : (u : World) (b d : Book) (top below : Pair) (message : List ℕ) → u.book ≡ b → IsBegunBelow b top below message d → Comes u d
begun_below_comes u b d top below message same (inl it) = begun_comes u b d top.seed top.params (public_by below) same it
begun_below_comes u b d top below message same (inr (c, first, s, it)) =
    comes_then u c d (begun_comes u b c top.seed top.params (public_by below) same (signs_begun b c top.seed top.params (public_by below) first s))
    (λ v here. begun_comes v c d below.seed below.params message here it)

unsigned_below_comes : (u : World) (b d : Book) (top : Pair) (q : ℕ) (below : Pair) (message : List ℕ) (fault : BookFault) → u.book ≡ b
    → IsUnsignedBelow b top q below message fault d → Comes u d
unsigned_below_comes u b d top q below message fault same it = begun_below_comes u b d top below message same (unsigned_begun b d top q below message fault it)

begun_file_comes : (u : World) (b d : Book) (seed : Seed) (params : Params) (file : List ℕ) → u.book ≡ b → IsBegunFile b seed params file d → Comes u d
begun_file_comes u b d seed params file same (inl is) = stays_comes u b d same is
begun_file_comes u b d seed params file same (inr (entries, message, f, it)) = begun_comes u b d seed params message same it

unsigned_file_comes : (u : World) (b d : Book) (seed : Seed) (params : Params) (file : List ℕ) (fault : SignFileFault) → u.book ≡ b → IsUnsignedFile b seed params file fault d → Comes u d
unsigned_file_comes u b d seed params file (files.Denied denial) same it = stays_comes u b d same it.1
unsigned_file_comes u b d seed params file (files.Book fault) same (entries, message, f, it) = unsigned_comes u b d seed params message fault same it
unsigned_file_comes u b d seed params file files.OutOfMemory same it = begun_file_comes u b d seed params file same it

begun_in_comes : (u : World) (b d : Book) (p : HssPair) (message : List ℕ) → u.book ≡ b → IsBegunIn b p message d → Comes u d
begun_in_comes u b d p message same (inl is) = stays_comes u b d same is
begun_in_comes u b d p message same (inr (q, at, it)) = begun_below_comes u b d (top_of p) (below_of p q) message same it

begun_file_below_comes : (u : World) (b d : Book) (p : HssPair) (file : List ℕ) → u.book ≡ b → IsBegunFileBelow b p file d → Comes u d
begun_file_below_comes u b d p file same (inl is) = stays_comes u b d same is
begun_file_below_comes u b d p file same (inr (entries, message, f, it)) = begun_in_comes u b d p message same it

unsigned_file_below_comes : (u : World) (b d : Book) (p : HssPair) (file : List ℕ) (fault : SignFileFault) → u.book ≡ b → IsUnsignedFileBelow b p file fault d → Comes u d
unsigned_file_below_comes u b d p file (files.Denied denial) same it = stays_comes u b d same it.1
unsigned_file_below_comes u b d p file (files.Book fault) same (entries, message, f, it) = begun_in_comes u b d p message same (unsigned_in_begun b d p message fault it)
unsigned_file_below_comes u b d p file files.OutOfMemory same it = begun_file_below_comes u b d p file same it

-- ---- one event

abbrev Follows : World → Work → Type 0
Follows u w = (v : World) × Reaches u v × Matches w v

quiet : (v w : Work) (u : World) → Matches v u → Comes u w.book → w.made ≡ v.made → Follows u w
quiet v w u is (x, reaches, same, signed, entered) made = (
  x,
  reaches,
  record {
    book = same;
    signed = signed ∙ is.signed ∙ sym made;
    entered = λ s h. entered s (is.entered s (subst (λ ss. Has ss s) made h));
  },
)

-- the key of a leaf that was reserved for a seed's tree
seed_of : (c d : Book) (seed : Seed) (params : Params) (message : List ℕ) (leaf : Reserved) → Reserves c (key_of seed params) message (Ok leaf) d → leaf.params ≡ params → key_of seed leaf.params ≡ leaf.key
seed_of c d seed params message leaf does own = ap (key_of seed) own ∙ sym does.0

made_follows : (v w : Work) (u : World) (seed : Seed) (params : Params) (message signature : List ℕ) → Matches v u → (s : Signs v.book seed params message signature w.book)
    → w.made ≡ record { leaf = s.leaf; seed = seed; bytes = signature } ∷ v.made → Follows u w
made_follows v w u seed params message signature is s made =
    let key = key_of seed params in
    let tree : Entered = record { seed = seed; params = params } in
    let one : World = record { book = s.registered; entered = tree ∷ u.entered; reserved = u.reserved; signed = u.signed } in
    let two : World = record { book = w.book; entered = tree ∷ u.entered; reserved = s.leaf ∷ u.reserved; signed = u.signed } in
    let new : Signed = record { leaf = s.leaf; seed = seed; bytes = signature_by seed s.leaf } in
    let three : World = record { book = w.book; entered = tree ∷ u.entered; reserved = s.leaf ∷ u.reserved; signed = new ∷ u.signed } in
    let old : Signed = record { leaf = s.leaf; seed = seed; bytes = signature } in
    let told : old ≡ new = ap (λ (bytes : List ℕ). record { leaf = s.leaf; seed = seed; bytes = bytes }) s.signs in
    let all : w.made ≡ new ∷ v.made = made ∙ ap (λ (t : Signed). t ∷ v.made) told in (
      three,
      (
        history.register seed params ∷ history.reserve key message ∷ history.sign s.leaf seed ∷ [],
        (
          one,
          (Ok key, subst (λ (a : Book). Registers a seed params (Ok key) s.registered) (sym is.book) s.registers, refl, refl, refl),
          (
            two,
            (Ok s.leaf, s.reserves, refl, refl, refl),
            (three, (inl refl, seed_of s.registered w.book seed params message s.leaf s.reserves s.own, refl, refl, refl, inr refl), refl),
          ),
        ),
      ),
      record {
        book = refl;
        signed = ap (λ (ss : List Signed). new ∷ ss) is.signed ∙ sym all;
        entered = λ t h. elim (subst (λ ss. Has ss t) all h) [
          | inl here ↦ inl (ap (λ (x : Signed). record { seed = x.seed; params = x.leaf.params }) here ∙ ap (λ (p : Params). record { seed = seed; params = p }) s.own)
          | inr was ↦ inr (is.entered t was)
        ];
      },
    )

-- the signature of the key, and then that of the message
both_follow : (v w : Work) (u : World) (top : Pair) (q : ℕ) (below : Pair) (message signature : List ℕ) → Matches v u
    → (s : SignsBelow v.book top q below message signature w.book) → w.made ≡ with_both v.book top q below message signature w.book s v.made → Follows u w
both_follow v w u top q below message signature is s made =
    let first : Signed = record { leaf = s.signs_key.leaf; seed = top.seed; bytes = s.first } in
    let between : Work = record { book = s.between; made = first ∷ v.made } in
    let one = made_follows v between u top.seed top.params (public_by below) s.first is s.signs_key refl in
    let two = made_follows between w one.0 below.seed below.params message s.last one.2 s.signs_message made in
    (two.0, (one.1.0 ++ two.1.0, then u one.0 two.0 one.1.0 two.1.0 one.1.1 two.1.1), two.2)

-- the same book with its entries in another order
reopens_follows : (v w : Work) (u : World) → Matches v u → Happens v reopen w → Follows u w
reopens_follows v w u is (same, right, made) = (
  world u w.book,
  (history.reopen ∷ [], (world u w.book, (subst (λ (a : Book). history.Happens (world u a) history.reopen (world u w.book)) (sym is.book) (same, right, refl, refl, refl)), refl)),
  record { book = refl; signed = is.signed ∙ sym made; entered = λ s h. is.entered s (subst (λ ss. Has ss s) made h) },
)

happens_follows : (v w : Work) (u : World) (e : Event) → Matches v u → Happens v e w → Follows u w
happens_follows v w u (register seed params) is ((r, does), made) = quiet v w u is (registers_comes u v.book w.book seed params r is.book does) made
happens_follows v w u (sign seed params message) is (inl (signature, s, made)) = made_follows v w u seed params message signature is s made
happens_follows v w u (sign seed params message) is (inr ((fault, it), made)) = quiet v w u is (unsigned_comes u v.book w.book seed params message fault is.book it) made
happens_follows v w u (sign_file seed params file) is (inl (out, s, made)) = made_follows v w u seed params s.message s.signature is s.signs made
happens_follows v w u (sign_file seed params file) is (inr ((fault, it), made)) = quiet v w u is (unsigned_file_comes u v.book w.book seed params file fault is.book it) made
happens_follows v w u (sign_below top q below message) is (inl (signature, s, made)) = both_follow v w u top q below message signature is s made
happens_follows v w u (sign_below top q below message) is (inr ((fault, it), made)) =
    quiet v w u is (unsigned_below_comes u v.book w.book top q below message fault is.book it) made
happens_follows v w u (sign_file_below p file) is (inl (out, s, made)) = both_follow v w u (top_of p) s.q (below_of p s.q) s.message s.signature is s.signs made
happens_follows v w u (sign_file_below p file) is (inr ((fault, it), made)) = quiet v w u is (unsigned_file_below_comes u v.book w.book p file fault is.book it) made
happens_follows v w u (crash_in_register seed params) is (inl same, made) = quiet v w u is (stays_comes u v.book w.book is.book same) made
happens_follows v w u (crash_in_register seed params) is (inr (r, does), made) = quiet v w u is (registers_comes u v.book w.book seed params r is.book does) made
happens_follows v w u (crash_in_sign seed params message) is (it, made) = quiet v w u is (begun_comes u v.book w.book seed params message is.book it) made
happens_follows v w u (crash_in_sign_file seed params file) is (it, made) = quiet v w u is (begun_file_comes u v.book w.book seed params file is.book it) made
happens_follows v w u (crash_in_sign_below top below message) is (it, made) =
    quiet v w u is (begun_below_comes u v.book w.book top below message is.book it) made
happens_follows v w u (crash_in_sign_file_below p file) is (it, made) = quiet v w u is (begun_file_below_comes u v.book w.book p file is.book it) made
happens_follows v w u crash is (same, made) = quiet v w u is (stays_comes u v.book w.book is.book same) made
happens_follows v w u reopen is it = reopens_follows v w u is it

runs_follow : (v w : Work) (u : World) (es : List Event) → Matches v u → Runs v es w → Follows u w
runs_follow v w u [] is same = (u, ([], refl), subst (λ (x : Work). Matches x u) (sym same) is)
runs_follow v w u (e ∷ es) is (x, first, rest) =
    let one = happens_follows v x u e is first in
    let two = runs_follow x w one.0 es one.2 rest in
    (two.0, (one.1.0 ++ two.1.0, then u one.0 two.0 one.1.0 two.1.0 one.1.1 two.1.1), two.2)

-- ---- the law

abbrev pub NeverTwiceThere : Type 0
NeverTwiceThere = (b : Book) (early late : List history.Event) (v w : World) → IsBook b → history.Runs (history.begun b) early v → history.Runs v late w → NeverTwice v w

pub one_time : NeverTwiceThere → (b : Book) (es : List Event) (w : Work) → IsBook b → Runs (begun b) es w → AreOneTime w.made
one_time law b es w right runs s t a c same =
    let start : Matches (begun b) (history.begun b) = record { book = refl; signed = refl; entered = λ x none. absurd none } in
    let it = runs_follow (begun b) w (history.begun b) es start runs in
    let never = law b it.1.0 [] it.0 it.0 right it.1.1 refl in
    let there : (x : Signed) → Has w.made x → Has it.0.signed x = λ x h. subst (λ ss. Has ss x) (sym it.2.signed) h in
    never.one_time s t (there s a) (there t c) (it.2.entered s a) (it.2.entered t c) same
