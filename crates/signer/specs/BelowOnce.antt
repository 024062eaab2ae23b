-- Files that get a signature of two levels, also only where no tree of the key has signed another document of their kind and version.
use Rattle.std.specs.Prelude.{◌≡◌, ◌⊎◌, ◌+◌, ℕ, List, Result, Ok, Err}
use Rattle.lms.specs.Hss.{VerifiesHss}
use Rattle.lms.specs.HssKeys.{HssPair, hss_public_of}
use Rattle.keys_roles.specs.Plain.{Signature}
use Rattle.metadata.specs.Shape.{IsSignedBy}
use Rattle.leaf_plans.specs.Book.{Book}
use Rattle.leaf_book.specs.declared.faults.BookFault.{BookFault}
use Rattle.leaf_book.specs.declared.faults.BookFault.TheVariants.{LeavesSpent, Damaged, OutOfMemory}
use Rattle.signer.specs.Below.{HasNoTreeFor, IsRivalBelow, IsTreeFor, LacksRivalsBelow, below_of, hss_key_of, top_of}
use Rattle.signer.specs.Files.{IsDenialOf, with_signature}
use Rattle.signer.specs.Levels.{IsBegunBelow, IsLeafFor, IsUnsignedBelow, SignsBelow, key_by, public_by, tree_signature_len}
use Rattle.signer.specs.declared.faults.SignFileFault.{SignFileFault}
use Rattle.signer.specs.declared.faults.SignFileFault.TheVariants as files
use Rattle.signer.specs.declared.faults.SignOnceFault.{SignOnceFault}
use Rattle.signer.specs.declared.faults.SignOnceFault.TheVariants.{Other, Unsigned}

-- how many bytes a signature of two levels has: u32 1, a signature of the top tree, a key, a signature of a tree below
abbrev pub hss_signature_len : HssPair → ℕ
hss_signature_len p = 4 + (tree_signature_len p.levels.top + (56 + tree_signature_len p.levels.bottom))

-- the message gets the tree below leaf q, and leaf q is the one that the top tree's key has for the key of this tree
abbrev pub IsTreeAt : Book → HssPair → List ℕ → ℕ → Type 0
IsTreeAt b p message q = IsTreeFor b p message q × IsLeafFor b (key_by (top_of p)) (public_by (below_of p q)) q

-- The file has these entries, that of the key of two levels put last and an older one of it taken out, over the same signed part. It is
-- canonical, and within the limits of a file. The signature is by the tree that the message gets.
pub record SignsFileBelow (before : Book) (p : HssPair) (file signed_file : List ℕ) (after : Book) : Type 0 where
  pub entries : List Signature
  pub message : List ℕ
  pub signature : List ℕ
  pub q : ℕ
  pub was : IsSignedBy file entries message
  pub tree : IsTreeAt before p message q
  pub signs : SignsBelow before (top_of p) q (below_of p q) message signature after
  pub verifies : VerifiesHss (hss_public_of p.seed p.levels) message signature
  pub is : IsSignedBy signed_file (with_signature (hss_key_of p) signature entries) message

-- as far as the signing of a message may have come: nothing was done, or that by its tree has begun
abbrev pub IsBegunIn : Book → HssPair → List ℕ → Book → Type 0
IsBegunIn before p message after = (after ≡ before) ⊎ ((q : ℕ) × IsTreeAt before p message q × IsBegunBelow before (top_of p) (below_of p q) message after)

-- Why a message is not signed. `LeavesSpent` where there is no tree for it, and `Damaged` where leaf q of the top tree is not the one for the
-- key of its tree, which its row may have with another root: then the book is as it was. Else by what the signing itself finds.
abbrev pub IsUnsignedIn : Book → HssPair → List ℕ → BookFault → Book → Type 0
IsUnsignedIn before p message fault after =
    ((fault ≡ LeavesSpent) × HasNoTreeFor before p message × (after ≡ before))
    ⊎ (((fault ≡ Damaged) × ((q : ℕ) × IsTreeFor before p message q × (IsLeafFor before (key_by (top_of p)) (public_by (below_of p q)) q → ⊥)) × (after ≡ before))
    ⊎ (((fault ≡ OutOfMemory) × (after ≡ before))
    ⊎ ((q : ℕ) × IsTreeAt before p message q × IsUnsignedBelow before (top_of p) q (below_of p q) message fault after)))

-- the same of a file. One that is denied costs no leaf.
abbrev pub IsBegunFileBelow : Book → HssPair → List ℕ → Book → Type 0
IsBegunFileBelow before p file after =
    (after ≡ before) ⊎ ((entries : List Signature) × (message : List ℕ) × IsSignedBy file entries message × IsBegunIn before p message after)

abbrev pub IsUnsignedFileBelow : Book → HssPair → List ℕ → SignFileFault → Book → Type 0
IsUnsignedFileBelow before p file (files.Denied denial) after = IsDenialOf (hss_key_of p) (hss_signature_len p) file denial × (after ≡ before)
IsUnsignedFileBelow before p file (files.Book fault) after =
    (entries : List Signature) × (message : List ℕ) × IsSignedBy file entries message × IsUnsignedIn before p message fault after
IsUnsignedFileBelow before p file files.OutOfMemory after = IsBegunFileBelow before p file after

-- The book before the call, what it answers, and the book after it. `Other` where the file is in order and this leaf of some tree of the key is
-- kept for a rival, and then the book is as it was. Whatever else is answered, no rival was kept in any of its trees, or memory was refused
-- before the book was looked through.
abbrev pub SignsBelowOnce : Book → HssPair → List ℕ → Result (List ℕ) SignOnceFault → Book → Type 0
SignsBelowOnce before p file (Ok out) after = SignsFileBelow before p file out after × LacksRivalsBelow before (key_by (top_of p)) file
SignsBelowOnce before p file (Err (Other leaf)) after =
    ((entries : List Signature) × (message : List ℕ) × IsSignedBy file entries message × IsRivalBelow before (key_by (top_of p)) message leaf) × (after ≡ before)
SignsBelowOnce before p file (Err (Unsigned fault)) after =
    IsUnsignedFileBelow before p file fault after × (LacksRivalsBelow before (key_by (top_of p)) file ⊎ ((fault ≡ files.OutOfMemory) × (after ≡ before)))
