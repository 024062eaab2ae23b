-- What becomes of a book where a file gets a signature of two levels, or does not.
use Rattle.std.proofs.Common.{◌≡◌, ◌⊎◌, ◌+◌, ◌<◌, ◌≤◌, ◌++◌, ℕ, List, length, Err, inl, inr, refl, sym, ap, subst, ◌∙◌, arith}
use Rattle.std.specs.List.{AllByRecursion}
use Rattle.limits.specs.Limits.{file_limit}
use Rattle.hex.specs.Hex.{encode_lower}
use Rattle.lms.specs.Keys.{Pair}
use Rattle.lms.specs.Text.{u32}
use Rattle.lms.specs.Hss.{VerifiesHss}
use Rattle.lms.specs.HssKeys.{HssPair, hss_public_of}
use Rattle.path_patterns.specs.Grammar.{IsHex}
use Rattle.keys_roles.specs.Plain.{Signature}
use Rattle.document_parts.specs.Parts.{AreSignatureDigits}
use Rattle.document_parts.specs.declared.documents.ShapeFault.{ShapeFault}
use Rattle.document_parts.specs.declared.documents.ShapeFault.TheVariants as shapes
use Rattle.metadata.specs.Shape.{IsEnvelopeFault, IsSignedBy}
use Rattle.leaf_plans.specs.Book.{Book}
use Rattle.leaf_book.specs.declared.faults.BookFault.{BookFault}
use Rattle.leaf_book.specs.declared.faults.BookFault.TheVariants as books
use Rattle.signer.specs.Below.{IsRivalBelow, LacksRivalsBelow, below_of, hss_key_of, top_of}
use Rattle.signer.specs.BelowOnce.{IsBegunIn, IsTreeAt, IsUnsignedFileBelow, IsUnsignedIn, SignsBelowOnce, SignsFileBelow, hss_signature_len}
use Rattle.signer.specs.Faults.{of_book, of_shape}
use Rattle.signer.specs.Files.{others, with_signature}
use Rattle.signer.specs.Levels.{IsBegunBelow, IsLeafFor, IsUnsignedBelow, SignsBelow, key_by, public_by, tree_signature_len}
use Rattle.signer.specs.Messages.{IsBegun, IsUnsigned, Signs}
use Rattle.signer.specs.declared.faults.SignFileFault.{SignFileFault}
use Rattle.signer.specs.declared.faults.SignFileFault.TheVariants.{OutOfMemory}
use Rattle.signer.specs.declared.faults.SignOnceFault.TheVariants.{Unsigned}
use Rattle.signer.specs.steps.Texts.{parts_text}
use Rattle.signer.proofs.OneVersion.{ill}
use Rattle.signer.proofs.Plain.{encoded_hex, encoded_length}
use Rattle.signer.proofs.Rivals.{OneValue, one_message}
use Rattle.signer.proofs.SignedFiles.{Fits, IsDeniedOr, Judged, denied_by, is_signed, most}

-- ---- a message, by its tree

module _ (b : Book) (p : HssPair) (message : List ℕ) (q : ℕ) (top below : Pair) (is_top : top ≡ top_of p) (is_below : below ≡ below_of p q) where
  -- the leaf of the top tree is asked by other names
  pub leaf_in : (key public : List ℕ) → key ≡ key_by top → public ≡ public_by below → IsLeafFor b key public q → IsLeafFor b (key_by (top_of p)) (public_by (below_of p q)) q
  leaf_in key public k s is =
      subst (λ (x : List ℕ). IsLeafFor b x (public_by (below_of p q)) q) (k ∙ ap key_by is_top) (subst (λ (x : List ℕ). IsLeafFor b key x q) (s ∙ ap public_by is_below) is)

  pub no_leaf_in : (key public : List ℕ) → key ≡ key_by top → public ≡ public_by below → (IsLeafFor b key public q → ⊥)
      → IsLeafFor b (key_by (top_of p)) (public_by (below_of p q)) q → ⊥
  no_leaf_in key public k s lacks is =
      lacks (subst (λ (x : List ℕ). IsLeafFor b x public q) (sym (k ∙ ap key_by is_top))
      (subst (λ (x : List ℕ). IsLeafFor b (key_by (top_of p)) x q) (sym (s ∙ ap public_by is_below)) is))

  pub signed_in : (d : Book) (signature : List ℕ) → IsTreeAt b p message q → SignsBelow b top q below message signature d
      → (n : ℕ) × IsTreeAt b p message n × SignsBelow b (top_of p) n (below_of p n) message signature d
  signed_in d signature at s =
      (q, at, subst (λ (t : Pair). SignsBelow b t q (below_of p q) message signature d) is_top (subst (λ (t : Pair). SignsBelow b top q t message signature d) is_below s))

  pub unsigned_in : (d : Book) (fault : BookFault) → IsTreeAt b p message q → IsUnsignedBelow b top q below message fault d → IsUnsignedIn b p message fault d
  unsigned_in d fault at u =
      inr (inr (inr (
        q,
        at,
        subst (λ (t : Pair). IsUnsignedBelow b t q (below_of p q) message fault d) is_top (subst (λ (t : Pair). IsUnsignedBelow b top q t message fault d) is_below u),
      )))

  pub begun_in : (d : Book) → IsTreeAt b p message q → IsBegunBelow b top below message d → IsBegunIn b p message d
  begun_in d at u =
      inr (q, at, subst (λ (t : Pair). IsBegunBelow b t (below_of p q) message d) is_top (subst (λ (t : Pair). IsBegunBelow b top t message d) is_below u))

  pub verifies_in : (signature : List ℕ) → VerifiesHss (u32 2 ++ public_by top) message signature → VerifiesHss (hss_public_of p.seed p.levels) message signature
  verifies_in signature v = subst (λ (t : Pair). VerifiesHss (u32 2 ++ public_by t) message signature) is_top v

  pub length_in : (n : ℕ) → n ≡ 4 + (tree_signature_len top.params + (56 + tree_signature_len below.params)) → n ≡ hss_signature_len p
  length_in n e =
      e ∙ ap (λ (t : Pair). 4 + (tree_signature_len t.params + (56 + tree_signature_len below.params))) is_top
      ∙ ap (λ (t : Pair). 4 + (tree_signature_len p.levels.top + (56 + tree_signature_len t.params))) is_below

-- ---- what was signed is begun, and so is what had no memory

signs_begun : (b c : Book) (t : Pair) (message signature : List ℕ) → Signs b t.seed t.params message signature c → IsBegun b t.seed t.params message c
signs_begun b c t message signature s = inr (s.registered, s.registers, inr (s.leaf, s.reserves))

pub both_begun : (b d : Book) (top : Pair) (q : ℕ) (below : Pair) (message signature : List ℕ) → SignsBelow b top q below message signature d → IsBegunBelow b top below message d
both_begun b d top q below message signature s = inr (s.between, s.first, s.signs_key, signs_begun s.between d below message s.last s.signs_message)

fault_begun : (b d : Book) (t : Pair) (message : List ℕ) (fault : BookFault) → IsUnsigned b t.seed t.params message fault d → IsBegun b t.seed t.params message d
fault_begun b d t message books.Damaged it = inl it.1
fault_begun b d t message books.OtherTree it = inl it.1
fault_begun b d t message books.LeavesSpent (c, was, then) = inr (c, was, inl then.2)
fault_begun b d t message books.UnknownKey it = absurd it
fault_begun b d t message books.Database it = it
fault_begun b d t message books.OutOfMemory it = it

pub unsigned_begun : (b d : Book) (top : Pair) (q : ℕ) (below : Pair) (message : List ℕ) (fault : BookFault) → IsUnsignedBelow b top q below message fault d → IsBegunBelow b top below message d
unsigned_begun b d top q below message fault (inl it) = inl (fault_begun b d top (public_by below) fault it)
unsigned_begun b d top q below message fault (inr (c, first, s, inl (is, same, differ))) =
    inl (subst (IsBegun b top.seed top.params (public_by below)) (sym same) (signs_begun b c top (public_by below) first s))
unsigned_begun b d top q below message fault (inr (c, first, s, inr (by, inl it))) = inr (c, first, s, fault_begun c d below message fault it)
unsigned_begun b d top q below message fault (inr (c, first, s, inr (by, inr (is, (last, t))))) = inr (c, first, s, signs_begun c d below message last t)

pub unsigned_in_begun : (b d : Book) (p : HssPair) (message : List ℕ) (fault : BookFault) → IsUnsignedIn b p message fault d → IsBegunIn b p message d
unsigned_in_begun b d p message fault (inl spent) = inl spent.2
unsigned_in_begun b d p message fault (inr (inl other)) = inl other.2
unsigned_in_begun b d p message fault (inr (inr (inl none))) = inl none.1
unsigned_in_begun b d p message fault (inr (inr (inr (q, at, u)))) = inr (q, at, unsigned_begun b d (top_of p) q (below_of p q) message fault u)

-- ---- a file

module _ (b : Book) (p : HssPair) (file : List ℕ) (entries : List Signature) (message : List ℕ) (f : IsSignedBy file entries message) where
  pub unsigned_file_below : (fault : BookFault) (after : Book) → IsUnsignedIn b p message fault after → IsUnsignedFileBelow b p file (of_book fault) after
  unsigned_file_below books.LeavesSpent after u = (entries, message, f, u)
  unsigned_file_below books.UnknownKey after u = (entries, message, f, u)
  unsigned_file_below books.Damaged after u = (entries, message, f, u)
  unsigned_file_below books.OtherTree after u = (entries, message, f, u)
  unsigned_file_below books.Database after u = (entries, message, f, u)
  unsigned_file_below books.OutOfMemory after u = inr (entries, message, f, unsigned_in_begun b after p message books.OutOfMemory u)

  pub unwritten_below : (after : Book) (signature : List ℕ) → (q : ℕ) × IsTreeAt b p message q × SignsBelow b (top_of p) q (below_of p q) message signature after
      → IsUnsignedFileBelow b p file OutOfMemory after
  unwritten_below after signature (q, at, s) = inr (entries, message, f, inr (q, at, both_begun b after (top_of p) q (below_of p q) message signature s))

  denied_below : (fault : SignFileFault) → IsDeniedOr (hss_key_of p) (hss_signature_len p) file fault → IsUnsignedFileBelow b p file fault b
  denied_below fault (inl is) = subst (λ (e : SignFileFault). IsUnsignedFileBelow b p file e b) (sym is) (inl refl)
  denied_below fault (inr denied) = subst (λ (e : SignFileFault). IsUnsignedFileBelow b p file e b) (sym denied.1) (denied.2, refl)

  pub judged_below : (key : List ℕ) (count : ℕ) (fault : SignFileFault) → key ≡ hss_key_of p → IsHex 64 key → count ≡ hss_signature_len p
      → Judged key entries message count fault → IsUnsignedFileBelow b p file fault b
  judged_below key count fault same id long how =
      denied_below fault
      (subst (λ (k : List ℕ). IsDeniedOr k (hss_signature_len p) file fault) same
      (subst (λ (n : ℕ). IsDeniedOr key n file fault) long (denied_by file entries message key count fault f id how)))

  digits_below : (signature : List ℕ) → AllByRecursion (λ b. b < 256) signature → length signature ≡ hss_signature_len p → AreSignatureDigits (encode_lower signature)
  digits_below signature bytes long =
      let n = encoded_length signature in
      let t = most p.levels.top.ots p.levels.top.height in
      let u = most p.levels.bottom.ots p.levels.bottom.height in
      (omega (arith, n, t, u, long), omega (arith, n), encoded_hex signature bytes)

  pub signs_file_below : (after : Book) (signature key out : List ℕ) (count : ℕ)
      → (q : ℕ) × IsTreeAt b p message q × SignsBelow b (top_of p) q (below_of p q) message signature after
      → VerifiesHss (hss_public_of p.seed p.levels) message signature → length signature ≡ hss_signature_len p
      → key ≡ hss_key_of p → IsHex 64 key → AllByRecursion (λ b. b < 256) signature → count ≡ hss_signature_len p → Fits key entries message count
      → out ≡ parts_text (others key entries) key (encode_lower signature) message → SignsFileBelow b p file out after
  signs_file_below after signature key out count (q, at, s) v long same hex bytes so fits is =
      let short = subst (λ (text : List ℕ). length text ≤ file_limit) (sym is) (fits.1 signature (long ∙ sym so)) in
      let made = is_signed file entries message key signature out f hex bytes (digits_below signature bytes long) fits.0 is short in
      record {
        entries = entries;
        message = message;
        signature = signature;
        q = q;
        was = f;
        tree = at;
        signs = s;
        verifies = v;
        is = subst (λ (k : List ℕ). IsSignedBy out (with_signature k signature entries) message) same made;
      }

-- one that is not read is denied, or there was no memory
pub unread_file_below : (b : Book) (p : HssPair) (file : List ℕ) (fault : ShapeFault) → (fault ≡ shapes.OutOfMemory) ⊎ IsEnvelopeFault file fault
    → IsUnsignedFileBelow b p file (of_shape fault) b
unread_file_below b p file fault (inl is) = subst (λ (f : ShapeFault). IsUnsignedFileBelow b p file (of_shape f) b) (sym is) (inl refl)
unread_file_below b p file shapes.TooLong (inr h) = (inl h, refl)
unread_file_below b p file shapes.NotCanonical (inr h) = (h, refl)
unread_file_below b p file shapes.WrongShape (inr h) = (inl h, refl)
unread_file_below b p file shapes.WrongType (inr h) = absurd h
unread_file_below b p file shapes.BadKeyId (inr h) = absurd h
unread_file_below b p file shapes.OutOfMemory (inr h) = absurd h

-- ---- one document a version

pub lacks_below_of : OneValue → (b : Book) (top file : List ℕ) (entries : List Signature) (message : List ℕ) → IsSignedBy file entries message
    → ((leaf : ℕ) → IsRivalBelow b top message leaf → ⊥) → LacksRivalsBelow b top file
lacks_below_of one b top file entries message f lacks = λ es m g. subst (λ (x : List ℕ). (leaf : ℕ) → IsRivalBelow b top x leaf → ⊥) (one_message one file entries es message m f g) lacks

pub unread_below : OneValue → (b : Book) (p : HssPair) (file : List ℕ) (fault : ShapeFault) → (fault ≡ shapes.OutOfMemory) ⊎ IsEnvelopeFault file fault
    → SignsBelowOnce b p file (Err (Unsigned (of_shape fault))) b
unread_below one b p file fault (inl is) =
    subst (λ (f : ShapeFault). SignsBelowOnce b p file (Err (Unsigned (of_shape f))) b) (sym is) (inl refl, inr (refl, refl))
unread_below one b p file shapes.TooLong (inr h) = ((inl h, refl), inl (λ entries message f. absurd (ill file shapes.TooLong one h entries message f)))
unread_below one b p file shapes.NotCanonical (inr h) = ((h, refl), inl (λ entries message f. absurd (ill file shapes.NotCanonical one h entries message f)))
unread_below one b p file shapes.WrongShape (inr h) = ((inl h, refl), inl (λ entries message f. absurd (ill file shapes.WrongShape one h entries message f)))
unread_below one b p file shapes.WrongType (inr h) = absurd h
unread_below one b p file shapes.BadKeyId (inr h) = absurd h
unread_below one b p file shapes.OutOfMemory (inr h) = absurd h
