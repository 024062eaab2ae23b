-- What a case comes to, and how that is printed.
use Rattle.std.specs.Prelude.{◌≡◌, ◌<◌, ◌≤◌, ℕ, List, ◌++◌, codes, decimal, length, string_bytes, Option}
use Rattle.sha2.specs.Sha256.{sha256}
use Rattle.hex.specs.Hex.{encode_lower}
use Rattle.artifact_rules.specs.Rules.{RulesHold, RulesForbid, RulesRequire}
use Rattle.canonical_json.specs.Json.{Json}
use Rattle.canonical_json.specs.Spelling.{IsCanonical}
use Rattle.canonical_json.specs.Faults.{IsReadFault}
use Rattle.canonical_json.specs.declared.ReadFault.TheVariants as read_faults
use Rattle.lms.specs.declared.OtsType.{OtsType}
use Rattle.lms.specs.declared.LmsType.{LmsType}
use Rattle.lms.specs.declared.Levels.{Levels}
use Rattle.lms.specs.declared.Params.{Params}
use Rattle.lms.specs.declared.Seed.{Seed}
use Rattle.lms.specs.Keys.{public_of, signature_of, leaf_count}
use Rattle.lms.specs.Parts.{IsKeyOf, IsSignatureOf}
use Rattle.lms.specs.Verifies.{Verifies, hash_count}
use Rattle.lms.specs.Hss.{VerifiesHss}
use Rattle.lms.specs.HssKeys.{hss_public_of, hss_signature_of, message_count_of}
use Rattle.keys_roles.specs.Keys.{id_of}
use Rattle.keys_roles.specs.Views.{key_view}
use Rattle.keys_roles.specs.declared.Key.{Key}
use Rattle.document_parts.specs.Dates.{IsDateTime}
use Rattle.document_parts.specs.Documents as documents
use Rattle.metadata.specs.File.{fault_number}
use Rattle.metadata.specs.Shape.{IsDocument, IsShapeFault}
use Rattle.document_parts.specs.declared.documents.Kind.{Kind}
use Rattle.path_patterns.specs.Grammar.{IsTargetPath, IsPattern, IsHashPrefix}
use Rattle.path_patterns.specs.Matching.{MatchesSegmented, MatchesFlat, PrefixCovers}
use Rattle.path_patterns.specs.Names.{IsNameOf}
use Rattle.verdicts.specs.declared.case.Case.{Case}
use Rattle.verdicts.specs.declared.case.Case.TheVariants as cases
use Rattle.verdicts.specs.declared.case.Covering.{Covering}
use Rattle.verdicts.specs.declared.case.Covering.TheVariants.{Segmented, Flat, Prefix}
use Rattle.verdicts.specs.declared.verdict.Verdict.{Verdict}
use Rattle.verdicts.specs.declared.verdict.Verdict.TheVariants.{Canonical, NotCanonical, TooDeep, IntegerRange, Valid, Invalid, Verified, Refused, KeyId, Signed, Made, LeafRange, Moment, NoMoment, Document, NoDocument, AsksFor, Covered, NotCovered, IllFormed, Holds, Disallowed, Required, NoRule}
use Rattle.verdicts.specs.Case.{IsCase, words_of}
use Rattle.verdicts.specs.RuleCase.{RuleCase, rule_case_view, AreJudged, IsFirstNoRule}
use Rattle.verdicts.specs.Words.{hex_word, digest_word}

-- whether the bytes are the canonical text of a value, and else which fault they have
abbrev pub IsReading : List ℕ → Verdict → Type 0
IsReading bytes Canonical = (v : Json) × IsCanonical v bytes
IsReading bytes NotCanonical = IsReadFault bytes read_faults.NotCanonical
IsReading bytes TooDeep = IsReadFault bytes read_faults.TooDeep
IsReading bytes IntegerRange = IsReadFault bytes read_faults.IntegerRange
IsReading bytes verdict = ⊥

-- so many hashes has the check of the signature: those of RFC 8554, section 5.4.2, where the bytes are a key and a
-- signature of its types, and else none
pub record IsCount (public signature message : List ℕ) (n : ℕ) : Type 0 where
  pub counted : (lms : LmsType) (ots : OtsType) (identifier root : List ℕ) (q : ℕ) (randomizer : List ℕ) (elements path : List (List ℕ))
      → IsKeyOf public lms ots identifier root → IsSignatureOf lms ots signature q randomizer elements path
      → n ≡ hash_count lms ots identifier message q randomizer
  pub refused : ((lms : LmsType) (ots : OtsType) (identifier root : List ℕ) (q : ℕ) (randomizer : List ℕ) (elements path : List (List ℕ))
      → IsKeyOf public lms ots identifier root → IsSignatureOf lms ots signature q randomizer elements path → ⊥) → n ≡ 0

-- whether the signature is one of the message under the public key, and after how many hashes
abbrev pub IsVerifying : List ℕ → List ℕ → List ℕ → Verdict → Type 0
IsVerifying public signature message (Valid n) = Verifies public message signature × IsCount public signature message n
IsVerifying public signature message (Invalid n) = (Verifies public message signature → ⊥) × IsCount public signature message n
IsVerifying public signature message verdict = ⊥

-- whether the signature is one of the message under the key of the hierarchical scheme
abbrev pub IsVerifyingHss : List ℕ → List ℕ → List ℕ → Verdict → Type 0
IsVerifyingHss public signature message Verified = VerifiesHss public message signature
IsVerifyingHss public signature message Refused = VerifiesHss public message signature → ⊥
IsVerifyingHss public signature message verdict = ⊥

-- the id of the public key
abbrev pub IsIdentifying : Key → Verdict → Type 0
IsIdentifying key (KeyId digits) = string_bytes digits ≡ id_of (key_view key)
IsIdentifying key verdict = ⊥

-- the public key of the seed and its signature of the message with this leaf, or that there is no such leaf
abbrev pub IsSigning : Seed → Params → ℕ → List ℕ → Verdict → Type 0
IsSigning seed params leaf message (Signed public signature) =
    (leaf < leaf_count params) × (string_bytes public ≡ encode_lower (public_of seed params))
    × (string_bytes signature ≡ encode_lower (signature_of seed params leaf message))
IsSigning seed params leaf message LeafRange = leaf_count params ≤ leaf
IsSigning seed params leaf message verdict = ⊥

-- the public key of the seed with two levels, and the length and the SHA-256 of its signature of the message with this lowest leaf, or that there
-- is no such leaf
abbrev pub IsMaking : Seed → Levels → ℕ → List ℕ → Verdict → Type 0
IsMaking seed levels leaf message (Made public len digest) =
    (leaf < message_count_of levels) × (string_bytes public ≡ encode_lower (hss_public_of seed levels))
    × (len ≡ length (hss_signature_of seed levels leaf message)) × (string_bytes digest ≡ encode_lower (sha256 (hss_signature_of seed levels leaf message)))
IsMaking seed levels leaf message LeafRange = message_count_of levels ≤ leaf
IsMaking seed levels leaf message verdict = ⊥

-- the moment that the text is as a date and time, or that it is none
abbrev pub IsDating : List ℕ → Verdict → Type 0
IsDating text (Moment seconds) = IsDateTime text seconds
IsDating text NoMoment = (seconds : ℕ) → IsDateTime text seconds → ⊥
IsDating text verdict = ⊥

-- whether the bytes are a document of the kind, and else which check fails first
abbrev pub IsShaping : Kind → List ℕ → Verdict → Type 0
IsShaping kind bytes Document = (d : documents.Document) × IsDocument kind bytes d
IsShaping kind bytes (NoDocument fault) = IsShapeFault kind bytes fault
IsShaping kind bytes verdict = ⊥

-- the path that the text asks for, and the digest
abbrev pub IsAsking : List ℕ → Verdict → Type 0
IsAsking text (AsksFor path digest) =
    (p : List ℕ) × (d : Option (List ℕ)) × IsNameOf text p d × (string_bytes path ≡ hex_word p) × (string_bytes digest ≡ digest_word d)
IsAsking text verdict = ⊥

-- whether the text is of the grammar of what covers so
abbrev pub IsCovering : Covering → List ℕ → Type 0
IsCovering Segmented text = IsPattern text
IsCovering Flat text = IsPattern text
IsCovering Prefix text = IsHashPrefix text

abbrev pub CoversSo : Covering → List ℕ → List ℕ → Type 0
CoversSo Segmented pattern path = MatchesSegmented pattern path
CoversSo Flat pattern path = MatchesFlat pattern path
CoversSo Prefix prefix path = PrefixCovers prefix path

-- whether the first text covers the second, or that one of them is not of its grammar
abbrev pub IsMatching : Covering → List ℕ → List ℕ → Verdict → Type 0
IsMatching covering pattern path Covered = IsCovering covering pattern × IsTargetPath path × CoversSo covering pattern path
IsMatching covering pattern path NotCovered =
    IsCovering covering pattern × IsTargetPath path × (CoversSo covering pattern path → ⊥)
IsMatching covering pattern path IllFormed = IsCovering covering pattern × IsTargetPath path → ⊥
IsMatching covering pattern path verdict = ⊥

-- whether the rules hold, or which fails first, or which words are no rule's
abbrev pub IsRuling : RuleCase → Verdict → Type 0
IsRuling c Holds = AreJudged c (λ link rules. RulesHold c.side link c.links rules)
IsRuling c (Disallowed rule path) = AreJudged c (λ link rules. RulesForbid c.side link c.links rules rule (string_bytes path))
IsRuling c (Required rule path) = AreJudged c (λ link rules. RulesRequire c.side link c.links rules rule (string_bytes path))
IsRuling c (NoRule rule) = IsFirstNoRule c.rules rule
IsRuling c verdict = ⊥

-- the verdict on a case
abbrev pub IsVerdict : Case → Verdict → Type 0
IsVerdict (cases.Json part) verdict = IsReading part.items verdict
IsVerdict (cases.Lms public signature message) verdict = IsVerifying public.items signature.items message.items verdict
IsVerdict (cases.Hss public signature message) verdict = IsVerifyingHss public.items signature.items message.items verdict
IsVerdict (cases.Key key) verdict = IsIdentifying key verdict
IsVerdict (cases.Sign seed params leaf message) verdict = IsSigning seed params leaf message.items verdict
IsVerdict (cases.HssMade seed levels leaf message) verdict = IsMaking seed levels leaf message.items verdict
IsVerdict (cases.Calendar text) verdict = IsDating (string_bytes text) verdict
IsVerdict (cases.Document kind bytes) verdict = IsShaping kind bytes.items verdict
IsVerdict (cases.Asked text) verdict = IsAsking (string_bytes text) verdict
IsVerdict (cases.Match covering pattern path) verdict =
    IsMatching covering (string_bytes pattern) (string_bytes path) verdict
IsVerdict (cases.Rules part) verdict = IsRuling (rule_case_view part) verdict

-- the line writes a case down, and this is the verdict on it
abbrev pub IsAnswer : List ℕ → Verdict → Type 0
IsAnswer line verdict = (c : Case) × IsCase (words_of line) c × IsVerdict c verdict

-- a verdict as it is printed
abbrev pub text_of : Verdict → List ℕ
text_of Canonical = codes "canonical"
text_of NotCanonical = codes "not_canonical"
text_of TooDeep = codes "too_deep"
text_of IntegerRange = codes "integer_range"
text_of (Valid n) = codes "valid " ++ decimal n
text_of (Invalid n) = codes "invalid " ++ decimal n
text_of Verified = codes "valid"
text_of Refused = codes "invalid"
text_of (KeyId digits) = string_bytes digits
text_of (Signed public signature) = string_bytes public ++ (codes " " ++ string_bytes signature)
text_of (Made public len digest) = string_bytes public ++ (codes " " ++ (decimal len ++ (codes " " ++ string_bytes digest)))
text_of LeafRange = codes "leaf_range"
text_of (Moment seconds) = decimal seconds
text_of NoMoment = codes "ill"
text_of Document = codes "ok"
text_of (NoDocument fault) = decimal (fault_number fault)
text_of (AsksFor path digest) = string_bytes path ++ (codes " " ++ string_bytes digest)
text_of Covered = codes "yes"
text_of NotCovered = codes "no"
text_of IllFormed = codes "ill"
text_of Holds = codes "holds"
text_of (Disallowed rule path) = codes "disallowed " ++ (decimal rule ++ (codes " " ++ string_bytes path))
text_of (Required rule path) = codes "required " ++ (decimal rule ++ (codes " " ++ string_bytes path))
text_of (NoRule rule) = codes "no_rule " ++ decimal rule
