-- A state of which all the files are at hand.
use Rattle.std.proofs.Common.{◌≡◌, ◌≤◌, List, [], ◌∷◌, map, length, Option, Some, None, ap, ◌∙◌}
use Rattle.std.specs.Prelude.{IfSome, IfNone}
use Rattle.std.proofs.lemmas.List.{length-map}
use Rattle.document_parts.specs.Documents.{Root}
use Rattle.metadata.specs.File.{File}
use Rattle.trust_rules.specs.State.{Trusted, IsHeldUnder, IsState, kept_root, nothing_trusted}
use Rattle.limits.specs.Limits.{most_held}
use Rattle.trust_rules.specs.Effects.{Effects, last_or}
use Rattle.trust_rules.specs.steps.Loading.{AreBlobs, IsBare, AreShelfRows, laid}

-- what holds where there is nothing, from what else does
pub if_none_both : {A : Type 0} (P Q R : Type 0) (o : Option A) → (P → Q → R) → IfNone o P → IfNone o Q → IfNone o R
if_none_both P Q R None f p q = f p q
if_none_both P Q R (Some x) f p q = tt

not_none : {A : Type 0} (W : Type 0) (x : A) (xs : List A) → IfNone (last_or (Some x) xs) W
not_none W x [] = tt
not_none W x (y ∷ ys) = not_none W y ys

abbrev trusted_with : List (File Root) → Effects → Trusted
trusted_with roots E = record {
  roots = map kept_root roots;
  root = last_or None roots;
  timestamp = E.timestamp;
  snapshot = E.snapshot;
  shelf = E.rows;
}

none_trusted : (roots : List (File Root)) (E : Effects) → IfNone (last_or None roots) (IsBare E)
    → IfNone (last_or None roots) (trusted_with roots E ≡ nothing_trusted)
none_trusted [] E bare =
    ap (λ t. record { roots = []; root = None; timestamp = t; snapshot = E.snapshot; shelf = E.rows }) bare.timestamp
    ∙ (ap (λ s. record { roots = []; root = None; timestamp = None; snapshot = s; shelf = E.rows }) bare.snapshot
    ∙ ap (λ r. record { roots = []; root = None; timestamp = None; snapshot = None; shelf = r }) bare.rows)
none_trusted (r ∷ rs) E bare = not_none _ r rs

none_blobs : (roots : List (File Root)) (E : Effects) → IfNone (last_or None roots) (IsBare E) → IfNone (last_or None roots) (E.blobs ≡ [])
none_blobs [] E bare = bare.blobs
none_blobs (r ∷ rs) E bare = not_none (E.blobs ≡ []) r rs

pub is_laid : (E : Effects) → length E.roots ≤ most_held → AreShelfRows E.rows → AreBlobs E.blobs
    → IfSome (last_or None E.roots) (IsHeldUnder (laid E).trusted) → IfNone (last_or None E.roots) (IsBare E) → IsState (laid E)
is_laid E few shelf blobs held bare = record {
  trusted = record {
    held = held;
    none = none_trusted E.roots E bare;
    rows = shelf.each;
    in_order = shelf.in_order;
    few_roots = simp length-map few;
    few_rows = shelf.few;
  };
  none = none_blobs E.roots E bare;
  blobs = blobs.each;
  in_order = blobs.in_order;
  few_blobs = blobs.few;
}

pub laid_shelf : (E : Effects) → IsState (laid E) → AreShelfRows E.rows
laid_shelf E s = record { each = s.trusted.rows; in_order = s.trusted.in_order; few = s.trusted.few_rows }

pub laid_blobs : (E : Effects) → IsState (laid E) → AreBlobs E.blobs
laid_blobs E s = record { each = s.blobs; in_order = s.in_order; few = s.few_blobs }

pub laid_few : (E : Effects) → IsState (laid E) → length E.roots ≤ most_held
laid_few E s = simp length-map at s.trusted.few_roots

pub laid_bare : (E : Effects) → IsState (laid E) → IfNone (last_or None E.roots) (IsBare E)
laid_bare E s =
    if_none_both ((laid E).trusted ≡ nothing_trusted) (E.blobs ≡ []) (IsBare E) (last_or None E.roots)
    (λ e b. record {
      timestamp = ap (λ (t : Trusted). t.timestamp) e;
      snapshot = ap (λ (t : Trusted). t.snapshot) e;
      rows = ap (λ (t : Trusted). t.shelf) e;
      blobs = b;
    }) s.trusted.none s.none
