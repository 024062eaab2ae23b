-- What each call over a book is as events of the law of one-time keys.
use Rattle.std.proofs.Common.{◌≡◌, ◌++◌, List, [], ◌∷◌, Result, Ok, Err, ℕ, inl, inr, refl, subst, sym}
use Rattle.std.specs.Prelude.{IfErr, IfOk}
use Rattle.lms.specs.declared.Params.{Params}
use Rattle.lms.specs.declared.Seed.{Seed}
use Rattle.lms.specs.HssKeys.{HssPair}
use Rattle.leaf_plans.specs.Book.{Book}
use Rattle.leaf_book.specs.Calls.{Registers}
use Rattle.leaf_book.specs.Runs.{Signed}
use Rattle.leaf_book.specs.declared.faults.BookFault.{BookFault}
use Rattle.signer.specs.Below.{below_of, top_of}
use Rattle.signer.specs.BelowOnce.{IsUnsignedFileBelow, SignsBelowOnce, SignsFileBelow}
use Rattle.signer.specs.Files.{IsUnsignedFile, SignsFile}
use Rattle.signer.specs.Messages.{IsUnsigned, Signs}
use Rattle.signer.specs.Once.{SignsOnce}
use Rattle.signer.specs.OneTime.{Event, Runs, Work, register, sign, sign_file, sign_file_below, with_both}
use Rattle.signer.specs.declared.faults.SignFileFault.{SignFileFault}
use Rattle.signer.specs.declared.faults.SignOnceFault.{SignOnceFault}
use Rattle.signer.specs.declared.faults.SignOnceFault.TheVariants.{Other, Unsigned}
use Rattle.sign_books.specs.Works.{Leads}

-- whatever was answered, the one or the other is said of it
pub by_answer : {A E : Type 0} (r : Result A E) (P : A → Type 0) (Q : E → Type 0) (L : Type 0) → IfOk r P → IfErr r Q → ((a : A) → P a → L) → ((e : E) → Q e → L) → L
by_answer (Ok a) P Q L h k f g = f a h
by_answer (Err e) P Q L h k f g = g e k

pub rests : (b : Book) → Leads b b
rests b = ([], λ made. (made, refl))

-- a book that is as it was
pub stays : (b c : Book) → c ≡ b → Leads b c
stays b c same = subst (λ d. Leads b d) (sym same) (rests b)

runs_on : (v w x : Work) (es ds : List Event) → Runs v es w → Runs w ds x → Runs v (es ++ ds) x
runs_on v w x [] ds h k = subst (λ u. Runs u ds x) h k
runs_on v w x (e ∷ es) ds (u, first, rest) k = (u, first, runs_on u w x es ds rest k)

pub then : (b c d : Book) → Leads b c → Leads c d → Leads b d
then b c d h k = (
  h.0 ++ k.0,
  λ made.
      let (more, runs) = h.1 made in let (most, on) = k.1 more in
      (most, runs_on (record { book = b; made = made }) (record { book = c; made = more }) (record { book = d; made = most }) h.0 k.0 runs on),
)

pub registered : (b c : Book) (seed : Seed) (params : Params) (r : Result (List ℕ) BookFault) → Registers b seed params r c → Leads b c
registered b c seed params r h = (register seed params ∷ [], λ made. (made, (record { book = c; made = made }, ((r, h), refl), refl)))

-- ---- a message

pub message_signed : (b c : Book) (seed : Seed) (params : Params) (message signature : List ℕ) → Signs b seed params message signature c → Leads b c
message_signed b c seed params message signature s = (
  sign seed params message ∷ [],
  λ made.
      let more : List Signed = record { leaf = s.leaf; seed = seed; bytes = signature } ∷ made in
      (more, (record { book = c; made = more }, inl (signature, s, refl), refl)),
)

pub message_unsigned : (b c : Book) (seed : Seed) (params : Params) (message : List ℕ) (fault : BookFault) → IsUnsigned b seed params message fault c → Leads b c
message_unsigned b c seed params message fault h =
    (sign seed params message ∷ [], λ made. (made, (record { book = c; made = made }, inr ((fault, h), refl), refl)))

-- ---- a file, by a key of one level

pub file_signed : (b c : Book) (seed : Seed) (params : Params) (file out : List ℕ) → SignsFile b seed params file out c → Leads b c
file_signed b c seed params file out s = (
  sign_file seed params file ∷ [],
  λ made.
      let more : List Signed = record { leaf = s.signs.leaf; seed = seed; bytes = s.signature } ∷ made in
      (more, (record { book = c; made = more }, inl (out, s, refl), refl)),
)

pub file_unsigned : (b c : Book) (seed : Seed) (params : Params) (file : List ℕ) (fault : SignFileFault) → IsUnsignedFile b seed params file fault c → Leads b c
file_unsigned b c seed params file fault h =
    (sign_file seed params file ∷ [], λ made. (made, (record { book = c; made = made }, inr ((fault, h), refl), refl)))

pub once_leads : (b c : Book) (seed : Seed) (params : Params) (file : List ℕ) (r : Result (List ℕ) SignOnceFault) → SignsOnce b seed params file r c → Leads b c
once_leads b c seed params file (Ok out) h = file_signed b c seed params file out h.0
once_leads b c seed params file (Err (Other leaf)) h = stays b c h.1
once_leads b c seed params file (Err (Unsigned fault)) h = file_unsigned b c seed params file fault h.0

-- ---- a file, by a key of two levels

pub below_signed : (b c : Book) (p : HssPair) (file out : List ℕ) → SignsFileBelow b p file out c → Leads b c
below_signed b c p file out s = (
  sign_file_below p file ∷ [],
  λ made.
      let more : List Signed = with_both b (top_of p) s.q (below_of p s.q) s.message s.signature c s.signs made in
      (more, (record { book = c; made = more }, inl (out, s, refl), refl)),
)

pub below_unsigned : (b c : Book) (p : HssPair) (file : List ℕ) (fault : SignFileFault) → IsUnsignedFileBelow b p file fault c → Leads b c
below_unsigned b c p file fault h =
    (sign_file_below p file ∷ [], λ made. (made, (record { book = c; made = made }, inr ((fault, h), refl), refl)))

pub below_once_leads : (b c : Book) (p : HssPair) (file : List ℕ) (r : Result (List ℕ) SignOnceFault) → SignsBelowOnce b p file r c → Leads b c
below_once_leads b c p file (Ok out) h = below_signed b c p file out h.0
below_once_leads b c p file (Err (Other leaf)) h = stays b c h.1
below_once_leads b c p file (Err (Unsigned fault)) h = below_unsigned b c p file fault h.0
