-- How a word of a line writes its part of a case down.
use Rattle.std.specs.Prelude.{ℕ, List, [], ◌∷◌, codes, Option, Some, None}
use Rattle.hex.specs.Hex.{encode_lower}
use Rattle.hex.specs.declared.error.FromHexError.{FromHexError}
use Rattle.hex.specs.declared.error.FromHexError.TheVariants as hex_errors
use Rattle.lms.specs.declared.OtsType.{OtsType}
use Rattle.lms.specs.declared.OtsType.TheVariants.{W1, W2, W4, W8}
use Rattle.lms.specs.declared.SigningHeight.{SigningHeight}
use Rattle.lms.specs.declared.SigningHeight.TheVariants.{H5, H10}
use Rattle.document_parts.specs.declared.documents.ShapeFault.{ShapeFault}
use Rattle.document_parts.specs.declared.documents.ShapeFault.TheVariants as shape_faults
use Rattle.verdicts.specs.declared.case.Covering.{Covering}
use Rattle.verdicts.specs.declared.case.Covering.TheVariants.{Segmented, Flat, Prefix}
use Rattle.verdicts.specs.declared.case.CaseFault.{CaseFault}
use Rattle.verdicts.specs.declared.case.CaseFault.TheVariants.{NotUnderstood, OutOfMemory}

-- bytes are written in lower-case hex, and no bytes as a dash
abbrev pub hex_word : List ℕ → List ℕ
hex_word [] = codes "-"
hex_word (b ∷ bs) = encode_lower (b ∷ bs)

-- a digest is written in hex, and none as a dash
abbrev pub digest_word : Option (List ℕ) → List ℕ
digest_word None = codes "-"
digest_word (Some digest) = encode_lower digest

-- an LM-OTS type is written by its width, and a tree by its height
abbrev pub ots_word : OtsType → List ℕ
ots_word W1 = codes "1"
ots_word W2 = codes "2"
ots_word W4 = codes "4"
ots_word W8 = codes "8"

abbrev pub height_word : SigningHeight → List ℕ
height_word H5 = codes "5"
height_word H10 = codes "10"

-- the name of how a path is covered
abbrev pub covering_word : Covering → List ℕ
covering_word Segmented = codes "segmented"
covering_word Flat = codes "flat"
covering_word Prefix = codes "prefix"

-- what an error of the hex decoder comes to
abbrev pub fault_of : FromHexError → CaseFault
fault_of hex_errors.OutOfMemory = OutOfMemory
fault_of hex_errors.OddLength = NotUnderstood
fault_of hex_errors.InvalidStringLength = NotUnderstood
fault_of (hex_errors.InvalidHexCharacter c i) = NotUnderstood

-- what a fault of a part of a document comes to
abbrev pub fault_of_shape : ShapeFault → CaseFault
fault_of_shape shape_faults.OutOfMemory = OutOfMemory
fault_of_shape fault = NotUnderstood
