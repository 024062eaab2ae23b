-- A client that trusts a server's first root alone is behind it.
use Rattle.std.proofs.Common.{◌≡◌, inl, List, [], ◌∷◌, ◌++◌, Option, Some, None, Ok, refl, sym, ap, ◌∙◌}
use Rattle.document_parts.specs.Documents.{Profile, Root}
use Rattle.metadata.specs.File.{Bytes, File, IsFileOf, root_form}
use Rattle.metadata.specs.Shaped.{reads}
use Rattle.denials.specs.Orders.{pass, given}
use Rattle.trust_rules.specs.State.{IsRootChain, IsState, State, Trusted, first, kept_root, then}
use Rattle.trust_rules.specs.Offers.{AfterRoot, kept, offer_root, rotated}
use Rattle.trust_rules.proofs.ShapedOnce.{Shapes, file-once, root-tells}
use Rattle.client.specs.Agreement.{AnchorIsBehind}
use Rattle.client.specs.Behind.{AfterRoots, IsBare, none, one}
use Rattle.client.proofs.RootsFollow.{held_by, no_chain, trusts_one}

after_bare : (C D : Trusted) (old new : File Root) → IsBare C → AfterRoot C old new (Ok D) → IsBare D
after_bare C _ old new bare (kept p) = record { timestamp = bare.timestamp; snapshot = bare.snapshot; shelf = bare.shelf }
after_bare C _ old new bare (rotated p) = record { timestamp = refl; snapshot = refl; shelf = refl }

root_bare : (C D : Trusted) (b : Bytes) → IsBare C → offer_root C b (Ok D) → IsBare D
root_bare C D b bare (pass {a = old} k (pass d (pass {a = new} r (pass v (pass p (pass m (pass n (pass f after)))))))) = after_bare C D old new bare after

roots_bare : (C E : Trusted) (bs : List (Profile × Bytes)) → IsBare C → AfterRoots C bs E → IsBare E
roots_bare C _ [] bare none = bare
roots_bare C E (b ∷ bs) bare (one {D = D} h rest) = roots_bare D E bs (root_bare C D b.1 bare h) rest

-- the first root of a chain
head_of : {bs : List (Profile × Bytes)} {root : File Root} → IsRootChain bs root → (b : Profile × Bytes) (more : List (Profile × Bytes)) → bs ≡ b ∷ more
    → (f : File Root) × IsFileOf root_form f × (kept_root f ≡ b)
head_of (first {b = c} {root = root} doc is meets) b more e =
    let h : ◌≡◌ {A = List (Profile × Bytes)} ((root.body.profile, c) ∷ []) (b ∷ more) = e in
    let same : (root.body.profile, c) ≡ b = cc in
    (root, doc, ap (λ (x : Bytes). (root.body.profile, x)) is ∙ same)
head_of (then {bs = bs} {new = new} chain doc follows) b more e = by (λ c cs k. head_of chain c cs k) bs refl
  where
    by : ((c : Profile × Bytes) (cs : List (Profile × Bytes)) → bs ≡ c ∷ cs → (f : File Root) × IsFileOf root_form f × (kept_root f ≡ c)) → (cs : List (Profile × Bytes)) → bs ≡ cs
        → (f : File Root) × IsFileOf root_form f × (kept_root f ≡ b)
    by again [] k = absurd (no_chain chain k)
    by again (c ∷ cs) k =
        let h : c ∷ (cs ++ kept_root new ∷ []) ≡ b ∷ more = ap (λ (l : List (Profile × Bytes)). l ++ kept_root new ∷ []) (sym k) ∙ e in
        let same : c ≡ b = cc in
        again b cs (k ∙ ap (λ (x : Profile × Bytes). x ∷ cs) same)

no_blob : (b : Bytes) → ◌≡◌ {A = Option Bytes} None (Some b) → ⊥
no_blob b e = cc

module _ (shapes : Shapes) where
  -- the root with the bytes of a server's first is kept as that is
  first_kept : (S : State) (p : Profile) (new : File Root) (b : Bytes) (later : List (Profile × Bytes)) → IsState S → IsFileOf root_form new → new.bytes ≡ b
      → S.trusted.roots ≡ (p, b) ∷ later → kept_root new ≡ (p, b)
  first_kept S p new b later sure doc is e =
      let last = trusts_one S.trusted sure.trusted (λ k. (let j : ◌≡◌ {A = List (Profile × Bytes)} ((p, b) ∷ later) [] = sym e ∙ k in cc)) in
      let head = head_of (held_by S.trusted last.0 sure.trusted last.1).chain (p, b) later e in
      let same : new ≡ head.0 = file-once shapes root_form root-tells new head.0 doc head.1 (is ∙ sym (ap (λ x. x.1) head.2)) in
      ap kept_root same ∙ head.2

  pub anchor_is_behind : AnchorIsBehind
  anchor_is_behind _ S p b later now sure (pass h (pass {a = new} (reads doc is) (pass m given))) e few = record {
    rooted = λ k. (let j : ◌≡◌ {A = List (Profile × Bytes)} (kept_root new ∷ []) [] = k in cc);
    later = later;
    beginning = e ∙ ap (λ (x : Profile × Bytes). x ∷ later) (sym (first_kept S p new b later sure doc is e));
    few = few;
    blobs_shared = λ digest c k. absurd (no_blob c k);
    caught_up = λ E after. inl (roots_bare _ E later (record { timestamp = refl; snapshot = refl; shelf = refl }) after);
  }
